-- What is kept of the texts of a search, and what is saved.
use Rattle.std.specs.Prelude.{ℕ, ◌≡◌, ◌≤◌, ◌<◌, ◌+◌, ◌^◌, List, length, None}
use Rattle.dft_base.specs.Lexing.{Text}
use Rattle.dft_netlist.specs.Netlist.{Netlist}
use Rattle.dft_config.specs.Config.{Config}
use Rattle.dft_faults.specs.declared.fault.Fault.{Fault}
use Rattle.dft_cubes_out.specs.Written.{cubes_text}
use Rattle.dft_report.specs.declared.limits.TheConstants.{MAX_BYTES}
use Rattle.dft_seeking.specs.declared.counting.SeekCounts.{SeekCounts}
use Rattle.dft_seeking.specs.declared.kept.Kept.{Kept}
use Rattle.dft_seeking.specs.declared.gathering.Gathered.{Gathered}
use Rattle.dft_seeking.specs.declared.limits.TheConstants.{MAX_TEXT}
use Rattle.dft_seeking.specs.declared.seeking.Sought.{Sought}
use Rattle.dft_seeking.specs.Told.{Told, AllSought, AreTold, counts_of, cubes_in, faults_in}
use Rattle.dft_seeking.specs.Written.{fault_lines, report_text}
use Rattle.dft_seeking.specs.Refusals.{refusal}

-- the number of bytes of a text, and the text itself unless it is longer than the limit
pub record IsKept (limit : ℕ) (text : Text) (kept : Kept) : Type 0 where
  pub bytes : kept.bytes ≡ length text
  pub is : length text ≤ limit → kept.text.items ≡ text

-- one fault more can be counted: there are fewer than 2^32, of which none is counted twice
pub record HasRoom (counts : SeekCounts) : Type 0 where
  pub faults : counts.faults + 1 < 2 ^ 32
  pub cubes : counts.cubes ≤ counts.faults
  pub not_testable : counts.not_testable ≤ counts.faults
  pub aborted : counts.aborted ≤ counts.faults

-- the texts of what is told, and its counts
pub record IsGathered (n : Netlist) (config : Config) (told : List Told) (g : Gathered) : Type 0 where
  pub cubes : IsKept MAX_TEXT (cubes_text n config (cubes_in told)) g.cubes
  pub lines : IsKept MAX_BYTES (fault_lines n told) g.lines
  pub counts : g.counts ≡ counts_of told

-- these faults are searched, and what is told of them is gathered
pub record AreSearched (n : Netlist) (config : Config) (domain limit : ℕ) (faults : List Fault) (g : Gathered) : Type 0 where
  pub told : List Told
  pub faults_are : faults_in told ≡ faults
  pub sought : AllSought n config domain limit 0 told
  pub gathered : IsGathered n config told g

-- nothing is refused, and these are the cube file, the report and the counts
pub record IsEnded (n : Netlist) (config : Config) (told : List Told) (s : Sought) : Type 0 where
  pub passed : refusal n config told ≡ None
  pub cubes : s.cubes.items ≡ cubes_text n config (cubes_in told)
  pub report : s.report.items ≡ report_text n told
  pub counts : s.counts ≡ counts_of told

-- the cube file and the report of a search of all faults, with its counts
pub record IsDone (n : Netlist) (config : Config) (domain limit : ℕ) (s : Sought) : Type 0 where
  pub told : List Told
  pub are : AreTold n config domain limit told
  pub ended : IsEnded n config told s

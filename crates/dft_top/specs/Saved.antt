-- What becomes of the files that a compilation saved.
use Rattle.std.specs.Prelude.{ℕ, ◌≡◌, ◌≤◌, List, length, Ok}
use Rattle.dft_files.specs.Outside.{Held}
use Rattle.dft_stil_text.specs.declared.limits.TheConstants.{MAX_VECTORS}
use Rattle.dft_stitch.specs.Chains.{plan_of}
use Rattle.dft_load_laws.specs.Loading.{rows_of}
use Rattle.dft_compile_laws.specs.Passing.{set_of}
use Rattle.dft_compile_laws.specs.Written.{all_compared}
use Rattle.dft_compile.specs.Reports.{compile_report}
use Rattle.dft_compile.specs.Texts.{netlist_text}
use Rattle.dft_certify.specs.Certifying.{unsolvable_in}
use Rattle.dft_command_line.specs.Words.{CompileFiles, ReplayFiles, CertifyFiles, IsReplay, IsCertify}
use Rattle.dft_answers.specs.declared.outcome.Outcome.{Outcome}
use Rattle.dft_answers.specs.declared.outcome.Outcome.TheVariants.{Finished}
use Rattle.dft_answers.specs.declared.outcome.Replayed.TheVariants.{Passed}
use Rattle.dft_answers.specs.declared.outcome.Work.TheVariants.{Certified, Replayed}
use Rattle.dft_top.specs.declared.limits.TheConstants.{MAX_NETLIST_BYTES}
use Rattle.dft_top.specs.Checks.{ConfigGives, CubesGive, LibraryGives, NetlistGives}
use Rattle.dft_top.specs.Outcomes.{IsOutcome}
use Rattle.dft_top.specs.Promises.{Compiles}

-- A replay of the netlist and the patterns that a compilation saved, over the same cells, passes with all their vectors and compared bits, where the
-- netlist is no longer and the vectors are no more than a replay takes.
abbrev pub SavedIsReplayed : Type 0
SavedIsReplayed =
    (words : List (List ℕ)) (files : ReplayFiles) (making : CompileFiles) (old new : Held) (o : Outcome) → IsReplay words files → files.netlist ≡ making.out_netlist → files.patterns ≡ making.out_patterns →
    (c : Compiles making old new) → LibraryGives files.library new (Ok c.cells) → length (netlist_text c.netlist c.config) ≤ MAX_NETLIST_BYTES → length (set_of c.netlist c.config c.list).vectors ≤ MAX_VECTORS →
    IsOutcome words new o → o ≡ Finished (Replayed (Passed (length (set_of c.netlist c.config c.list).vectors) (all_compared c.config (plan_of c.netlist c.config) c.list)))

-- A test of the report that a compilation saved, against the same netlist, configuration and cubes, certifies the cubes that it calls unsolvable.
abbrev pub SavedIsCertified : Type 0
SavedIsCertified =
    (words : List (List ℕ)) (files : CertifyFiles) (making : CompileFiles) (old new : Held) (o : Outcome) → IsCertify words files → files.report ≡ making.out_report →
    (c : Compiles making old new) → LibraryGives files.library new (Ok c.cells) → ConfigGives files.config new (Ok c.config) → NetlistGives c.cells files.netlist new (Ok c.netlist) →
    CubesGive c.netlist c.config files.cubes new (Ok c.cubes) → IsOutcome words new o →
    o ≡ Finished (Certified (unsolvable_in (compile_report c.netlist c.config (rows_of c.netlist c.config c.placing.rows) c.cubes c.placing.placed).cubes))

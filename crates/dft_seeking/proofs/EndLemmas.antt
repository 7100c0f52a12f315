-- What is saved of the searches, or why nothing is.
use Rattle.std.proofs.Common.{ℕ, ◌+◌, ◌≤◌, ◌<◌, ◌≡◌, ◌∙◌, Bool, true, false, ltb, List, ◌++◌, length, Some, None, Result, Ok, Err, IfOk, IfErr, pos, refl, sym, ap, arith, length-append}
use Rattle.std.proofs.lemmas.Bool.Decides.{nat_tests}
use Rattle.dft_base.specs.Lexing.{Text}
use Rattle.dft_netlist.specs.Netlist.{Netlist}
use Rattle.dft_config.specs.Config.{Config}
use Rattle.dft_cubes.specs.declared.limits.TheConstants.{MAX_CUBES}
use Rattle.dft_report.specs.declared.limits.TheConstants.{MAX_BYTES}
use Rattle.dft_cubes_out.specs.Written.{cubes_text}
use Rattle.dft_seeking.specs.declared.error.SeekError.{SeekError}
use Rattle.dft_seeking.specs.declared.error.SeekError.TheVariants.{TooManyCubes, LongCubes, LongReport, Memory}
use Rattle.dft_seeking.specs.declared.gathering.Gathered.{Gathered}
use Rattle.dft_seeking.specs.declared.limits.TheConstants.{MAX_TEXT}
use Rattle.dft_seeking.specs.declared.seeking.Sought.{Sought}
use Rattle.dft_faults.specs.declared.fault.Fault.{Fault}
use Rattle.dft_seek.specs.SoughtFaults.{seek_faults}
use Rattle.dft_seeking.specs.Told.{Told, AreTold, counts_of, cubes_in}
use Rattle.dft_seeking.specs.Written.{fault_lines, head_text, report_text}
use Rattle.dft_seeking.specs.Refusals.{CubesFit, IsCause, IsLong, IsRefused, IsReport, refusal}
use Rattle.dft_seeking.specs.Gathers.{AreSearched, IsDone, IsEnded, IsGathered}

module _ (n : Netlist) (config : Config) (told : List Told) where
  -- ---- the cubes

  pub too_many : MAX_CUBES < (counts_of told).cubes → refusal n config told ≡ Some TooManyCubes
  too_many more = let over : ltb MAX_CUBES (counts_of told).cubes ≡ true = grind (arith, nat_tests) in rw over refl

  pub long_cubes : (counts_of told).cubes ≤ MAX_CUBES → MAX_TEXT < length (cubes_text n config (cubes_in told)) → refusal n config told ≡ Some (LongCubes (pos (length (cubes_text n config (cubes_in told)))))
  long_cubes few long =
      let fits : ltb MAX_CUBES (counts_of told).cubes ≡ false = grind (arith, nat_tests) in
      let over : ltb MAX_TEXT (length (cubes_text n config (cubes_in told))) ≡ true = grind (arith, nat_tests) in
      rw (fits, over) refl

  -- ---- the report

  report_length : length (report_text n told) ≡ length (head_text (counts_of told)) + length (fault_lines n told)
  report_length = length-append (head_text (counts_of told)) (fault_lines n told)

  pub long_report : CubesFit n config told → (error : SeekError) → IsLong n told (head_text (counts_of told)) error → IsCause (refusal n config told) error
  long_report fit (Memory error) is = tt
  long_report fit TooManyCubes is = absurd is
  long_report fit (LongCubes bytes) is = absurd is
  long_report fit (LongReport bytes) is =
      let few = fit.few in
      let short = fit.short in
      let long = is.0 in
      let fits : ltb MAX_CUBES (counts_of told).cubes ≡ false = grind (arith, nat_tests) in
      let in_limit : ltb MAX_TEXT (length (cubes_text n config (cubes_in told))) ≡ false = grind (arith, nat_tests) in
      let all : MAX_BYTES < length (report_text n told) = omega (arith, long, report_length) in
      let over : ltb MAX_BYTES (length (report_text n told)) ≡ true = grind (arith, nat_tests) in
      rw (fits, in_limit, over) (ap (λ k. Some (LongReport (pos k))) report_length ∙ ap (λ k. Some (LongReport k)) (sym is.1))

  passed : CubesFit n config told → length (report_text n told) ≤ MAX_BYTES → refusal n config told ≡ None
  passed fit within =
      let few = fit.few in
      let short = fit.short in
      let fits : ltb MAX_CUBES (counts_of told).cubes ≡ false = grind (arith, nat_tests) in
      let in_limit : ltb MAX_TEXT (length (cubes_text n config (cubes_in told))) ≡ false = grind (arith, nat_tests) in
      let inside : ltb MAX_BYTES (length (report_text n told)) ≡ false = grind (arith, nat_tests) in
      rw (fits, in_limit, inside) refl

  -- ---- what is saved

  pub ends : (g : Gathered) (s : Sought) → IsGathered n config told g → CubesFit n config told → IsReport n told (head_text (counts_of told)) s.report.items → s.cubes.items ≡ g.cubes.text.items → s.counts ≡ g.counts → IsEnded n config told s
  ends g s gathered fit report cubes counts =
      let short = report.short in
      record {
        passed = passed fit (omega (arith, short, report_length));
        cubes = cubes ∙ gathered.cubes.is fit.short;
        report = report.is;
        counts = counts ∙ gathered.counts;
      }

-- ---- of all faults

told_of : (n : Netlist) (config : Config) (domain limit : ℕ) (faults : List Fault) (g : Gathered) → faults ≡ seek_faults n config → (x : AreSearched n config domain limit faults g) → AreTold n config domain limit x.told
told_of n config domain limit faults g is x = record { faults = x.faults_are ∙ is; sought = x.sought }

pub done_of : (n : Netlist) (config : Config) (domain limit : ℕ) (faults : List Fault) (g : Gathered) (s : Sought) → faults ≡ seek_faults n config → AreSearched n config domain limit faults g → ((m : Netlist) (c : Config) (told : List Told) → IsGathered m c told g → IsEnded m c told s) → IsDone n config domain limit s
done_of n config domain limit faults g s is x ended = record { told = x.told; are = told_of n config domain limit faults g is x; ended = ended n config x.told x.gathered }

pub refused_of : (n : Netlist) (config : Config) (domain limit : ℕ) (faults : List Fault) (g : Gathered) (error : SeekError) → faults ≡ seek_faults n config → AreSearched n config domain limit faults g → ((m : Netlist) (c : Config) (told : List Told) → IsGathered m c told g → IsCause (refusal m c told) error) → IsRefused n config domain limit error
refused_of n config domain limit faults g TooManyCubes is x cause = (x.told, (told_of n config domain limit faults g is x, cause n config x.told x.gathered))
refused_of n config domain limit faults g (LongCubes bytes) is x cause = (x.told, (told_of n config domain limit faults g is x, cause n config x.told x.gathered))
refused_of n config domain limit faults g (LongReport bytes) is x cause = (x.told, (told_of n config domain limit faults g is x, cause n config x.told x.gathered))
refused_of n config domain limit faults g (Memory error) is x cause = tt

pub end_done : (n : Netlist) (config : Config) (domain limit : ℕ) (faults : List Fault) (g : Gathered) (r : Result Sought SeekError) → faults ≡ seek_faults n config → AreSearched n config domain limit faults g → IfOk r (λ s. (m : Netlist) (c : Config) (told : List Told) → IsGathered m c told g → IsEnded m c told s) → IfOk r (IsDone n config domain limit)
end_done n config domain limit faults g (Ok s) is x ended = done_of n config domain limit faults g s is x ended
end_done n config domain limit faults g (Err error) is x ended = tt

pub end_refused : (n : Netlist) (config : Config) (domain limit : ℕ) (faults : List Fault) (g : Gathered) (r : Result Sought SeekError) → faults ≡ seek_faults n config → AreSearched n config domain limit faults g → IfErr r (λ error. (m : Netlist) (c : Config) (told : List Told) → IsGathered m c told g → IsCause (refusal m c told) error) → IfErr r (IsRefused n config domain limit)
end_refused n config domain limit faults g (Ok s) is x cause = tt
end_refused n config domain limit faults g (Err error) is x cause = refused_of n config domain limit faults g error is x cause

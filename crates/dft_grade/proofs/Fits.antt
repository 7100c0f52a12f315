-- What patterns fit a design fit it with a stuck net: its ports and the names of its nets stay.
use Rattle.std.proofs.Common.{ℕ, ◌≡◌, ◌∙◌, List, [], ◌∷◌, Some, refl, sym, ap}
use Rattle.std.specs.Prelude.{if◌then◌else◌}
use Rattle.dft_netlist.specs.Netlist.{Netlist}
use Rattle.dft_patterns.specs.declared.signal.StilSignal.{StilSignal}
use Rattle.dft_replay.specs.declared.error.ReplayError.{ReplayError}
use Rattle.dft_replay.specs.declared.error.ReplayError.TheVariants.{P7, Memory}
use Rattle.dft_replay.specs.declared.verdict.Verdict.{Verdict}
use Rattle.dft_replay.specs.declared.verdict.Verdict.TheVariants.{Pass, Mismatch, Undetermined}
use Rattle.dft_replay.specs.Fits.{is_port_bit, first_misfit, TellsMisfit}
use Rattle.dft_replay.specs.Verdicts.{IsPlaced}
use Rattle.dft_faults.specs.declared.fault.Fault.{Fault}
use Rattle.dft_faults.specs.Faulty.{faulty}
use Rattle.dft_grade.specs.Grades.{grade_of}
use Rattle.dft_grade.specs.Grades as grades

pub misfit_stays : (n : Netlist) (f : Fault) (signals : List StilSignal) → first_misfit (faulty n f) signals ≡ first_misfit n signals
misfit_stays n f [] = refl
misfit_stays n f (signal ∷ signals) = ap (λ later. if is_port_bit n signal then later else Some signal.name) (misfit_stays n f signals)

pub tells_stays : (n : Netlist) (f : Fault) (signals : List StilSignal) (error : ReplayError) → TellsMisfit (faulty n f) signals error → TellsMisfit n signals error
tells_stays n f signals (P7 name) tells = sym (misfit_stays n f signals) ∙ tells
tells_stays n f signals (Memory error) tells = tt

pub placed_stays : (vectors signals : ℕ) (verdict : Verdict) → IsPlaced vectors signals verdict → grades.IsPlaced vectors signals (grade_of verdict)
placed_stays vectors signals (Pass compared) placed = tt
placed_stays vectors signals (Mismatch vector signal) placed = placed
placed_stays vectors signals (Undetermined vector signal) placed = tt

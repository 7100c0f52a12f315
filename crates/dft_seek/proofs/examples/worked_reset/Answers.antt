use Rattle.std.proofs.Common.{List, refl, filter}
use Rattle.dft_base.specs.Lexing.{Text}
use Rattle.dft_faults.specs.declared.fault.Fault.{Fault}
use Rattle.dft_faults.specs.Faults.{faults}
use Rattle.dft_seek.specs.Examples.{tied_reset}
use Rattle.dft_seek.specs.SoughtFaults.{is_named, is_untraced}
use Rattle.dft_seek.proofs.examples.worked_reset.Goals as goal

-- the faults that are sought for these names
abbrev sought_of : (domains resets : List Text) → List Fault
sought_of domains resets = filter (is_untraced tied_reset (is_named tied_reset resets)) (faults tied_reset (is_named tied_reset domains))

pub returns : goal.returns
returns c = record {
  sought = λ config domains resets. (λ i. sought_of (domains i) (resets i));
  acts = record { pins = refl; good = refl; acts = refl };
}

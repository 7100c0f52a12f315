-- A scanned netlist contains its design, and behaves as it while scan is off.
use Rattle.dft_insert.specs.Agreeing.{AgreesWhileOff, ContainsDesign}
use Rattle.dft_insert.proofs.Containing as containing
use Rattle.dft_insert.proofs.Sparing.{spared}

pub contains_design : ContainsDesign
contains_design style n config ready = containing.contains style n config ready (spared style n config ready)

pub agrees_off : AgreesWhileOff
agrees_off style n config ready = containing.agrees style n config ready (spared style n config ready)

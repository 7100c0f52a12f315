use Rattle.std.proofs.Common.{ℕ, ◌<◌, List, [], ◌∷◌, length, None, refl}
use Rattle.std.proofs.lemmas.List.Elements.{All-nil, All-cons}
use Rattle.dft_cells.specs.declared.cell.Cell.{Cell}
use Rattle.dft_cells.specs.declared.kind.Gate.TheVariants.{Inv}
use Rattle.dft_netlist.specs.declared.ids.NetId.{NetId}
use Rattle.dft_netlist.specs.declared.instance.CellRef.TheVariants.{Gate}
use Rattle.dft_netlist.specs.declared.instance.Signal.TheVariants.{Net}
use Rattle.dft_netlist.specs.Sound.{IsInstance}
use Rattle.dft_parts.proofs.Fitting.{gate_fits}
use Rattle.dft_call_tests.proofs.builders.add_inverter.Goals as goal

inverter_fits : (library : List Cell) (count : ℕ) (input output : NetId) → input.0 < count → output.0 < count → IsInstance library count None (Gate Inv 1) (Net input ∷ Net output ∷ [])
inverter_fits library count input output i o =
    let there = All-cons (λ (net : NetId). net.0 < count) input [] i (All-nil (λ (net : NetId). net.0 < count)) in
    let g = gate_fits library count Inv (input ∷ []) output refl refl there o in
    record { fits = g.fits; width = g.width; live = g.live; outputs = g.outputs }

pub instance-requires : goal.instance-requires
instance-requires c = inverter_fits c.args.builder.now.library (length c.args.builder.now.nets) c.args.input c.args.output c.requires.input c.requires.output

use Rattle.std.proofs.Common.{arith, sym, ◌∙◌, ap}
use Rattle.dft_netlist.specs.declared.instance.CellRef.TheVariants.{Library}
use Rattle.dft_netlist.specs.Drivers.{shape_of}
use Rattle.dft_insert.proofs.PinLemmas.{few_pins}
use Rattle.dft_insert.proofs.pins.scan_pins.Goals as goal

pub returns-in-Some-clause-few : goal.returns-in-Some-clause-few
returns-in-Some-clause-few c =
    omega (
      arith,
      few_pins c.args.design.now c.args.cell.0 c.in-Some.scan c.pins_of.result.now c.soundness.ensures.library (sym c.in-Some.ensures) (c.pins_of.ensures ∙ ap (λ cells. (shape_of cells (Library c.in-Some.scan)).roles) c.library.ensures.library),
    )

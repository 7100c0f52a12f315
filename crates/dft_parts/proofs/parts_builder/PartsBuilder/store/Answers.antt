use Rattle.std.proofs.Common.{Some, [], length, map, subst, sym, ap, ◌∙◌}
use Rattle.dft_netlist.specs.declared.instance.CellRef.TheVariants.{Library}
use Rattle.dft_netlist.specs.Drivers.{shape_of}
use Rattle.dft_netlist.specs.Netlist.{Netlist}
use Rattle.dft_netlist.specs.Sound.{IsInstance}
use Rattle.dft_parts.specs.Cells.{pin_between}
use Rattle.dft_parts.proofs.Fitting.{store_fits}
use Rattle.dft_parts.proofs.parts_builder.PartsBuilder.store.Goals as goal

pub instance-requires : goal.instance-requires
instance-requires c =
    let n = c.args.self.now.netlist in
    let b = c.args.nets in
    subst (IsInstance n.library (length n.nets) (Some []) (Library c.args.cell)) (sym (c.as_slice.ensures ∙ c.in_ok-pins.ensures ∙ ap (map (pin_between b.clock b.input b.output)) (c.cell_pins-cell_pins.ensures ∙ ap (λ library. (shape_of library (Library c.args.cell)).roles) (c.library.ensures ∙ ap (λ (n : Netlist). n.library) c.builder.ensures))))
    (store_fits n.library (length n.nets) c.args.cell b.clock b.input b.output c.requires.cell c.requires.clock c.requires.input c.requires.output)

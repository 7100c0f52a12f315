use Rattle.std.proofs.Common.{◌≡◌, ap, ◌∙◌}
use Rattle.dft_netlist.specs.declared.instance.CellRef.TheVariants.{Library}
use Rattle.dft_netlist.specs.Netlist.{Netlist}
use Rattle.dft_parts.specs.Cells.{is_dff, first_cell, pins_between}
use Rattle.dft_parts.specs.Recipes.{a_store, an_instance}
use Rattle.dft_parts.proofs.Outcomes.{same_makes, store_is}
use Rattle.dft_parts.proofs.parts_builder.PartsBuilder.flop.Goals as goal

pub returns-clause-makes : goal.returns-clause-makes
returns-clause-makes c =
    let s = c.args.self.now in
    let cell = c.first_dff-cell.result in
    let is : cell ≡ first_cell is_dff s.netlist.library = c.first_dff-cell.ensures.first ∙ ap (first_cell is_dff) (c.library.ensures ∙ ap (λ (n : Netlist). n.library) c.builder.ensures) in
    same_makes (λ _. tt) (a_store is_dff c.args.clock c.args.input c.args.output) (an_instance (Library cell) (pins_between s.netlist.library cell c.args.clock c.args.input c.args.output)) s s c.store.result c.store.new.self
    (store_is is_dff c.args.clock c.args.input c.args.output s cell is) c.store.ensures.makes

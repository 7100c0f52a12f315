use Rattle.std.proofs.Common.{List, ap, ◌∙◌}
use Rattle.dft_netlist.specs.declared.ids.InstanceId.{InstanceId}
use Rattle.dft_certify.specs.Certifying.{has_cell}
use Rattle.dft_certify.proofs.TakingLemmas.{cells-map}
use Rattle.dft_certify.proofs.cell_set.CellSet.has.Goals as goal

pub returns : goal.returns
returns c = c.contains.ensures ∙ cells-map c.args.cell c.self.inside.numbers.keys ∙ ap (λ (cells : List InstanceId). has_cell cells c.args.cell) c.self.view_is

use Rattle.std.proofs.Common.{◌≡◌, ◌∙◌, List, map, ap}
use Rattle.dft_netlist.specs.declared.instance.Instance.{Instance}
use Rattle.dft_netlist.specs.declared.instance.Join.{Join}
use Rattle.dft_netlist_text.specs.Modules.{Draft}
use Rattle.dft_modules.specs.Modules.{Module}
use Rattle.dft_modules.specs.ModuleTexts.{Numbering, join_said, cell_said, between}
use Rattle.dft_verilog_draft.proofs.FreeLemmas.{OnOk-then}
use Rattle.dft_verilog.specs.SaidParts.{net_or_first, with_items}
use Rattle.dft_verilog.proofs.SaidPartLemmas.{parts_step}
use Rattle.dft_verilog.proofs.module_items.add_parts.Goals as goal

pub returns : goal.returns
returns c =
    let d : Draft = c.args.draft.now in
    let number : Numbering = net_or_first c.args.finals.now in
    let old : Module = c.args.made.now in
    let mid : Module = c.add_joins.new.made in
    let js : c.between.result.now ≡ between c.args.from.join c.args.to.join d.joins = c.between.ensures ∙ ap (between c.args.from.join c.args.to.join) c.joins.ensures.joins in
    let is : c.between-2.result.now ≡ between c.args.from.cell c.args.to.cell d.instances = c.between-2.ensures ∙ ap (between c.args.from.cell c.args.to.cell) c.instances.ensures.instances in
    OnOk-then c.add_cells.result _ _
    (λ e. parts_step number d c.args.from.join c.args.from.cell c.args.to.join c.args.to.cell old mid c.add_cells.new.made
    (c.in_ok-add_joins.ensures ∙ ap (λ (xs : List Join). with_items (map (join_said number) xs) old) js)
    (e ∙ ap (λ (xs : List Instance). with_items (map (cell_said number) xs) mid) is))
    c.add_cells.ensures

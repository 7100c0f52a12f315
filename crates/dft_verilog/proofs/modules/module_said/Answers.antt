use Rattle.std.proofs.Common.{◌∙◌, List, ap₂}
use Rattle.dft_netlist.specs.declared.ids.NetId.{NetId}
use Rattle.dft_netlist_text.specs.Modules.{Draft}
use Rattle.dft_modules.specs.SubInstances.{DraftSub}
use Rattle.dft_modules.specs.ModuleTexts.{items_said}
use Rattle.dft_verilog.specs.SaidParts.{net_or_first, with_items}
use Rattle.dft_verilog.proofs.SaidPartLemmas.{said_whole}
use Rattle.dft_verilog.proofs.modules.module_said.Goals as goal

pub returns-clause-said : goal.returns-clause-said
returns-clause-said c =
    let d : Draft = c.args.said_module.now.draft in
    let subs : List DraftSub = c.args.said_module.now.subs.items in
    let text = c.args.text.now in
    said_whole text d subs c.in_ok-finals.finals.items c.add_nets.new.made c.add_items.new.made c.in_ok-finals.ensures.made c.in_ok-finals.ensures.finals
    (c.in_ok-add_items.ensures.items
    ∙ ap₂ (λ (fs : List NetId) (ss : List DraftSub). with_items (items_said text (net_or_first fs) d 0 0 ss) c.add_nets.new.made) c.deref.ensures.value c.deref-2.ensures.value)

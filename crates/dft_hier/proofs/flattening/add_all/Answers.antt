use Rattle.std.proofs.Common.{refl, sym, ap, subst, ◌∙◌}
use Rattle.std.proofs.lemmas.Result.{err_from_is_err_and}
use Rattle.dft_netlist.specs.Sound.{HasOnlyPorts}
use Rattle.dft_hier.proofs.LaidLemmas.{laid}
use Rattle.dft_hier.proofs.AddLemmas.{top_live, top_read, ports_refused, own_refused, below_refused, nets_there, all_added}
use Rattle.dft_hier.proofs.flattening.add_all.Goals as goal

pub add_ports-requires : goal.add_ports-requires
add_ports-requires c = subst HasOnlyPorts (sym c.requires.none) refl

pub returns-in_err-add_ports : goal.returns-in_err-add_ports
returns-in_err-add_ports c =
    let h = c.args.hierarchy.now in
    let m = top_read h.modules.now c.args.top c.index-hierarchy-top.result c.requires.top c.index-hierarchy-top.is in
    let p = err_from_is_err_and c.from_residual.result c.from_residual.ensures.1 in
    rw (p.1, p.2) (ports_refused h.modules.now c.args.builder.now.library c.args.top c.args.builder.now c.ports.result.now c.in_err-add_ports.field-0.0 c.requires.top c.requires.none (c.ports.ensures ∙ ap (λ x. x.ports) (sym c.index-hierarchy-top.is) ∙ ap (λ x. x.ports) m) c.in_err-add_ports.ensures)

pub returns-in_err-add_other_nets : goal.returns-in_err-add_other_nets
returns-in_err-add_other_nets c =
    let h = c.args.hierarchy.now in
    let l = c.requires.laid in
    let m = top_read h.modules.now c.args.top c.index-hierarchy-top.result c.requires.top c.index-hierarchy-top.is in
    let p = err_from_is_err_and c.from_residual-in_err-add_other_nets.result c.from_residual-in_err-add_other_nets.ensures.1 in
    rw (p.1, p.2) (own_refused h.modules.now h.items.now c.args.builder.now.library c.args.top c.args.builder.now c.add_ports.new.builder c.ports.result.now c.nets.result.now c.requires.top (laid h.modules.now h.weights.now h.items.now l.known l.apart l.weights l.items) l.sound c.requires.none
    (c.ports.ensures ∙ ap (λ x. x.ports) (sym c.index-hierarchy-top.is) ∙ ap (λ x. x.ports) m) (c.nets.ensures ∙ ap (λ x. x.nets) (sym c.index-hierarchy-top.is) ∙ ap (λ x. x.nets) m) c.in_ok-add_ports.ensures c.in_err-add_other_nets.field-0.0 c.in_err-add_other_nets.ensures)

pub add_nets_below-requires-clause-laid : goal.add_nets_below-requires-clause-laid
add_nets_below-requires-clause-laid c =
    let h = c.args.hierarchy.now in
    let l = c.requires.laid in
    laid h.modules.now h.weights.now h.items.now l.known l.apart l.weights l.items

pub add_nets_below-requires-clause-there : goal.add_nets_below-requires-clause-there
add_nets_below-requires-clause-there c = top_live c.args.hierarchy.now.modules.now c.args.top c.requires.top

pub returns-in_err-add_nets_below : goal.returns-in_err-add_nets_below
returns-in_err-add_nets_below c =
    let h = c.args.hierarchy.now in
    let l = c.requires.laid in
    let m = top_read h.modules.now c.args.top c.index-hierarchy-top.result c.requires.top c.index-hierarchy-top.is in
    let p = err_from_is_err_and c.from_residual-in_err-add_nets_below.result c.from_residual-in_err-add_nets_below.ensures.1 in
    rw (p.1, p.2) (below_refused h.modules.now h.items.now c.args.builder.now.library c.args.top c.args.builder.now c.add_ports.new.builder c.ports.result.now c.nets.result.now c.requires.top (laid h.modules.now h.weights.now h.items.now l.known l.apart l.weights l.items) l.sound c.requires.none
    (c.ports.ensures ∙ ap (λ x. x.ports) (sym c.index-hierarchy-top.is) ∙ ap (λ x. x.ports) m) (c.nets.ensures ∙ ap (λ x. x.nets) (sym c.index-hierarchy-top.is) ∙ ap (λ x. x.nets) m) c.in_ok-add_ports.ensures c.add_other_nets.new.builder c.in_err-add_nets_below.field-0.0 c.in_ok-add_other_nets.ensures c.in_err-add_nets_below.ensures)

pub add_items-requires-clause-there : goal.add_items-requires-clause-there
add_items-requires-clause-there c = top_live c.args.hierarchy.now.modules.now c.args.top c.requires.top

pub add_items-requires-clause-laid : goal.add_items-requires-clause-laid
add_items-requires-clause-laid c =
    let h = c.args.hierarchy.now in
    let l = c.requires.laid in
    let m = top_read h.modules.now c.args.top c.index-hierarchy-top.result c.requires.top c.index-hierarchy-top.is in
    let there = nets_there h.modules.now h.items.now c.args.builder.now.library c.args.top c.args.builder.now c.add_ports.new.builder c.ports.result.now c.nets.result.now c.requires.top (laid h.modules.now h.weights.now h.items.now l.known l.apart l.weights l.items) l.sound c.requires.none
    (c.ports.ensures ∙ ap (λ x. x.ports) (sym c.index-hierarchy-top.is) ∙ ap (λ x. x.ports) m) (c.nets.ensures ∙ ap (λ x. x.nets) (sym c.index-hierarchy-top.is) ∙ ap (λ x. x.nets) m) c.in_ok-add_ports.ensures c.add_other_nets.new.builder c.add_nets_below.new.builder c.in_ok-add_other_nets.ensures c.in_ok-add_nets_below.ensures in
    rw there.1 c.requires.laid

pub add_items-requires-clause-nets : goal.add_items-requires-clause-nets
add_items-requires-clause-nets c =
    let h = c.args.hierarchy.now in
    let l = c.requires.laid in
    let m = top_read h.modules.now c.args.top c.index-hierarchy-top.result c.requires.top c.index-hierarchy-top.is in
    let there = nets_there h.modules.now h.items.now c.args.builder.now.library c.args.top c.args.builder.now c.add_ports.new.builder c.ports.result.now c.nets.result.now c.requires.top (laid h.modules.now h.weights.now h.items.now l.known l.apart l.weights l.items) l.sound c.requires.none
    (c.ports.ensures ∙ ap (λ x. x.ports) (sym c.index-hierarchy-top.is) ∙ ap (λ x. x.ports) m) (c.nets.ensures ∙ ap (λ x. x.nets) (sym c.index-hierarchy-top.is) ∙ ap (λ x. x.nets) m) c.in_ok-add_ports.ensures c.add_other_nets.new.builder c.add_nets_below.new.builder c.in_ok-add_other_nets.ensures c.in_ok-add_nets_below.ensures in
    there.0

pub returns : goal.returns
returns c =
    let h = c.args.hierarchy.now in
    let l = c.requires.laid in
    let m = top_read h.modules.now c.args.top c.index-hierarchy-top.result c.requires.top c.index-hierarchy-top.is in
    all_added h.modules.now h.items.now c.args.builder.now.library c.args.top c.args.builder.now c.add_ports.new.builder c.ports.result.now c.nets.result.now c.requires.top (laid h.modules.now h.weights.now h.items.now l.known l.apart l.weights l.items) l.sound c.requires.none
    (c.ports.ensures ∙ ap (λ x. x.ports) (sym c.index-hierarchy-top.is) ∙ ap (λ x. x.ports) m) (c.nets.ensures ∙ ap (λ x. x.nets) (sym c.index-hierarchy-top.is) ∙ ap (λ x. x.nets) m) c.in_ok-add_ports.ensures c.add_other_nets.new.builder c.add_nets_below.new.builder c.add_items.new.builder c.add_items.result c.in_ok-add_other_nets.ensures c.in_ok-add_nets_below.ensures c.add_items.ensures

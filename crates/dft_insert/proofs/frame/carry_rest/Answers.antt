use Rattle.std.proofs.Common.{◌≡◌, List, drop, map, sym, subst, ap, arith, ◌∙◌}
use Rattle.std.specs.Result.{OnOk}
use Rattle.dft_netlist.specs.declared.instance.Join.{Join}
use Rattle.dft_netlist.specs.Netlist.{Netlist}
use Rattle.dft_netlist.proofs.LiveDriven.{ports_fit}
use Rattle.dft_scan_frame.specs.Growing.{AllFit, net_things, join_things, instance_things, with_things}
use Rattle.dft_scan_frame.specs.Moves.{Gap, moved_join, map_from}
use Rattle.dft_scan_frame.proofs.Stages.{before_of}
use Rattle.dft_insert.specs.Frame.{framed_at, frame}
use Rattle.dft_insert.proofs.Frames.{frame_whole, frame_ports, some_ports, with_added, with_others, with_joins, added_stand, others_pass, others_done, joins_pass, joins_done, instances_pass, instances_done}
use Rattle.dft_insert.proofs.frame.carry_rest.Goals as goal

pub carry_nets-requires-clause-within : goal.carry_nets-requires-clause-within
carry_nets-requires-clause-within c = omega (arith, c.before-2.ensures, ap (λ (g : Gap). g.before) c.requires.gap, ports_fit c.args.design.now c.soundness.ensures.netlist)

pub carry_nets-requires-clause-fit : goal.carry_nets-requires-clause-fit
carry_nets-requires-clause-fit c =
    let n : Netlist = c.args.design.now in
    let sound = c.soundness.ensures.netlist in
    let before : c.before-2.result ≡ before_of n = c.before-2.ensures ∙ ap (λ (g : Gap). g.before) c.requires.gap in
    let b0 : c.args.builder.now ≡ with_added c.args.style n c.args.config.now = c.requires.ports ∙ added_stand c.args.style n c.args.config.now sound in
    subst (λ k. AllFit c.args.builder.now (net_things (drop k n.nets))) (sym before) (others_pass c.args.style n c.args.config.now c.args.builder.now (frame_whole c.args.style n c.args.config.now sound c.requires.accepted) b0)

pub carry_joins-requires-clause-room : goal.carry_joins-requires-clause-room
carry_joins-requires-clause-room c =
    let whole = frame_whole c.args.style c.args.design.now c.args.config.now c.soundness.ensures.netlist c.requires.accepted in
    omega (arith, ap (λ (g : Gap). g.width) c.requires.gap, frame_ports c.args.style c.args.design.now c.args.config.now, whole.few_ports)

pub carry_joins-requires-clause-fit : goal.carry_joins-requires-clause-fit
carry_joins-requires-clause-fit c =
    let n : Netlist = c.args.design.now in
    let config = c.args.config.now in
    let sound = c.soundness.ensures.netlist in
    let before : c.before-2.result ≡ before_of n = c.before-2.ensures ∙ ap (λ (g : Gap). g.before) c.requires.gap in
    let b0 : c.args.builder.now ≡ with_added c.args.style n config = c.requires.ports ∙ added_stand c.args.style n config sound in
    let b1 : c.carry_nets.new.builder ≡ with_others c.args.style n config =
    others_done c.args.style n config c.args.builder.now c.carry_nets.new.builder b0 (c.in_ok-carry_nets.ensures ∙ ap (λ k. with_things c.args.builder.now (net_things (drop k n.nets))) before) in
    subst (λ (js : List Join). AllFit c.carry_nets.new.builder (join_things (map (moved_join c.args.gap.now) js))) (sym c.joins.ensures.joins)
    (subst (λ (g : Gap). AllFit c.carry_nets.new.builder (join_things (map (moved_join g) n.joins))) (sym c.requires.gap) (joins_pass c.args.style n config c.carry_nets.new.builder sound b1))

pub frame_instances-requires-clause-room : goal.frame_instances-requires-clause-room
frame_instances-requires-clause-room c =
    let whole = frame_whole c.args.style c.args.design.now c.args.config.now c.soundness.ensures.netlist c.requires.accepted in
    omega (arith, ap (λ (g : Gap). g.width) c.requires.gap, frame_ports c.args.style c.args.design.now c.args.config.now, whole.few_ports)

pub frame_instances-requires-clause-fit : goal.frame_instances-requires-clause-fit
frame_instances-requires-clause-fit c =
    let n : Netlist = c.args.design.now in
    let config = c.args.config.now in
    let style = c.args.style in
    let sound = c.soundness.ensures.netlist in
    let before : c.before-2.result ≡ before_of n = c.before-2.ensures ∙ ap (λ (g : Gap). g.before) c.requires.gap in
    let b0 : c.args.builder.now ≡ with_added style n config = c.requires.ports ∙ added_stand style n config sound in
    let b1 : c.carry_nets.new.builder ≡ with_others style n config =
    others_done style n config c.args.builder.now c.carry_nets.new.builder b0 (c.in_ok-carry_nets.ensures ∙ ap (λ k. with_things c.args.builder.now (net_things (drop k n.nets))) before) in
    let b2 : c.carry_joins.new.builder ≡ with_joins style n config =
    joins_done style n config c.carry_nets.new.builder c.carry_joins.new.builder b1
    (c.in_ok-carry_joins.ensures ∙ ap (λ (js : List Join). with_things c.carry_nets.new.builder (join_things (map (moved_join c.args.gap.now) js))) c.joins.ensures.joins
    ∙ ap (λ (g : Gap). with_things c.carry_nets.new.builder (join_things (map (moved_join g) n.joins))) c.requires.gap) in
    subst (λ (g : Gap). AllFit c.carry_joins.new.builder (instance_things (map_from (framed_at n config g) 0 n.instances))) (sym c.requires.gap)
    (instances_pass style n config c.carry_joins.new.builder sound c.soundness.ensures.library (frame_whole style n config sound c.requires.accepted) (some_ports style config) b2)

pub returns : goal.returns
returns c =
    let n : Netlist = c.args.design.now in
    let config = c.args.config.now in
    let style = c.args.style in
    let sound = c.soundness.ensures.netlist in
    let before : c.before-2.result ≡ before_of n = c.before-2.ensures ∙ ap (λ (g : Gap). g.before) c.requires.gap in
    let b0 : c.args.builder.now ≡ with_added style n config = c.requires.ports ∙ added_stand style n config sound in
    let b1 : c.carry_nets.new.builder ≡ with_others style n config =
    others_done style n config c.args.builder.now c.carry_nets.new.builder b0 (c.in_ok-carry_nets.ensures ∙ ap (λ k. with_things c.args.builder.now (net_things (drop k n.nets))) before) in
    let b2 : c.carry_joins.new.builder ≡ with_joins style n config =
    joins_done style n config c.carry_nets.new.builder c.carry_joins.new.builder b1
    (c.in_ok-carry_joins.ensures ∙ ap (λ (js : List Join). with_things c.carry_nets.new.builder (join_things (map (moved_join c.args.gap.now) js))) c.joins.ensures.joins
    ∙ ap (λ (g : Gap). with_things c.carry_nets.new.builder (join_things (map (moved_join g) n.joins))) c.requires.gap) in
    let whole : Netlist = with_things c.carry_joins.new.builder (instance_things (map_from (framed_at n config c.args.gap.now) 0 n.instances)) in
    let same : whole ≡ frame style n config =
    instances_done style n config c.carry_joins.new.builder whole b2 (ap (λ (g : Gap). with_things c.carry_joins.new.builder (instance_things (map_from (framed_at n config g) 0 n.instances))) c.requires.gap) in
    subst (λ (w : Netlist). OnOk c.frame_instances.result (c.frame_instances.new.builder ≡ w)) same c.frame_instances.ensures

-- Stage by stage: nets, instances, joins, and the join to the constant.
use Rattle.std.proofs.Common.{◌≡◌, ◌∙◌, ◌++◌, ◌∷◌, [], ℕ, List, length, map, drop, filter, sym, subst, ap, arith}
use Rattle.std.specs.Result.{OnOk}
use Rattle.dft_netlist.proofs.LiveDriven.{ports_fit}
use Rattle.dft_netlist.specs.Netlist.{Netlist}
use Rattle.dft_netlist.specs.Sound.{IsAJoin}
use Rattle.dft_netlist.specs.declared.instance.Instance.{Instance}
use Rattle.dft_netlist.specs.declared.instance.Join.{Join}
use Rattle.dft_netlist.specs.declared.instance.Signal.TheVariants.{Constant}
use Rattle.dft_scan_frame.specs.Growing.{AllFit, net_things, instance_things, join_things, with_things}
use Rattle.dft_faults.specs.declared.fault.Fault.{Fault}
use Rattle.dft_faults.specs.Faulty.{loosened, is_elsewhere, stuck_join, faulty}
use Rattle.dft_faults.proofs.Carried.{before_of, first_other, nets_pass, nets_alone, nets_done, instances_pass, instances_alone, instances_done, joins_pass, joins_alone, joins_done, stuck_fits}
use Rattle.dft_faults.proofs.stuck.carry_rest.Goals as goal

pub carry_nets-requires-clause-within : goal.carry_nets-requires-clause-within
carry_nets-requires-clause-within c =
    let n : Netlist = c.args.design.now in
    let sound = c.soundness.ensures.netlist in
    omega (arith, c.net_count-first.ensures.count, first_other n c.args.builder.now sound c.requires.ports, ports_fit n sound)

pub carry_nets-requires-clause-fit : goal.carry_nets-requires-clause-fit
carry_nets-requires-clause-fit c =
    let n : Netlist = c.args.design.now in
    let sound = c.soundness.ensures.netlist in
    nets_pass n c.args.builder.now c.args.fault c.net_count-first.result sound c.requires.ports (c.net_count-first.ensures.count ∙ first_other n c.args.builder.now sound c.requires.ports)

pub carry_instances-requires : goal.carry_instances-requires
carry_instances-requires c =
    let n : Netlist = c.args.design.now in
    let f : Fault = c.args.fault in
    let sound = c.soundness.ensures.netlist in
    let first : c.net_count-first.result ≡ before_of n = c.net_count-first.ensures.count ∙ first_other n c.args.builder.now sound c.requires.ports in
    let b1 : c.carry_nets.new.builder ≡ nets_alone n = nets_done n c.args.builder.now c.carry_nets.new.builder c.net_count-first.result c.requires.ports first c.in_ok-carry_nets.ensures in
    let cells : c.cells-cells.result.now ≡ n.library = c.cells-cells.ensures.cells ∙ c.library.ensures.library in
    let all : map (loosened c.cells-cells.result.now f.net.0) c.instances.result.now ≡ map (loosened n.library f.net.0) n.instances = (λ t. map (loosened (cells t) f.net.0) (c.instances.ensures.instances t)) in
    subst (λ (xs : List Instance). AllFit c.carry_nets.new.builder (instance_things xs)) (sym all) (instances_pass n c.carry_nets.new.builder f sound b1)

pub carry_joins-requires : goal.carry_joins-requires
carry_joins-requires c =
    let n : Netlist = c.args.design.now in
    let f : Fault = c.args.fault in
    let sound = c.soundness.ensures.netlist in
    let first : c.net_count-first.result ≡ before_of n = c.net_count-first.ensures.count ∙ first_other n c.args.builder.now sound c.requires.ports in
    let b1 : c.carry_nets.new.builder ≡ nets_alone n = nets_done n c.args.builder.now c.carry_nets.new.builder c.net_count-first.result c.requires.ports first c.in_ok-carry_nets.ensures in
    let cells : c.cells-cells.result.now ≡ n.library = c.cells-cells.ensures.cells ∙ c.library.ensures.library in
    let all : map (loosened c.cells-cells.result.now f.net.0) c.instances.result.now ≡ map (loosened n.library f.net.0) n.instances = (λ t. map (loosened (cells t) f.net.0) (c.instances.ensures.instances t)) in
    let b2 : c.carry_instances.new.builder ≡ instances_alone n f =
    instances_done n c.carry_nets.new.builder c.carry_instances.new.builder f b1 (c.in_ok-carry_instances.ensures ∙ ap (λ (xs : List Instance). with_things c.carry_nets.new.builder (instance_things xs)) all) in
    subst (λ (js : List Join). AllFit c.carry_instances.new.builder (join_things (filter (is_elsewhere f.net.0) js))) (sym c.joins.ensures.joins) (joins_pass n c.carry_instances.new.builder f sound b2)

abbrev Made : (n : Netlist) (f : Fault) (b : Netlist) → Type 0
Made n f b = b ≡ joins_alone n f

pub join-requires : goal.join-requires
join-requires c =
    let n : Netlist = c.args.design.now in
    let f : Fault = c.args.fault in
    let sound = c.soundness.ensures.netlist in
    let first : c.net_count-first.result ≡ before_of n = c.net_count-first.ensures.count ∙ first_other n c.args.builder.now sound c.requires.ports in
    let b1 : c.carry_nets.new.builder ≡ nets_alone n = nets_done n c.args.builder.now c.carry_nets.new.builder c.net_count-first.result c.requires.ports first c.in_ok-carry_nets.ensures in
    let cells : c.cells-cells.result.now ≡ n.library = c.cells-cells.ensures.cells ∙ c.library.ensures.library in
    let all : map (loosened c.cells-cells.result.now f.net.0) c.instances.result.now ≡ map (loosened n.library f.net.0) n.instances = (λ t. map (loosened (cells t) f.net.0) (c.instances.ensures.instances t)) in
    let b2 : c.carry_instances.new.builder ≡ instances_alone n f =
    instances_done n c.carry_nets.new.builder c.carry_instances.new.builder f b1 (c.in_ok-carry_instances.ensures ∙ ap (λ (xs : List Instance). with_things c.carry_nets.new.builder (instance_things xs)) all) in
    let b3 : Made n f c.carry_joins.new.builder =
    joins_done n c.carry_instances.new.builder c.carry_joins.new.builder f b2 (c.in_ok-carry_joins.ensures ∙ ap (λ (js : List Join). with_things c.carry_instances.new.builder (join_things (filter (is_elsewhere f.net.0) js))) c.joins.ensures.joins) in
    subst (λ (m : Netlist). IsAJoin (length m.nets) f.net (Constant f.value)) (sym b3) (stuck_fits n f c.requires.fault)

pub returns : goal.returns
returns c =
    let n : Netlist = c.args.design.now in
    let f : Fault = c.args.fault in
    let sound = c.soundness.ensures.netlist in
    let first : c.net_count-first.result ≡ before_of n = c.net_count-first.ensures.count ∙ first_other n c.args.builder.now sound c.requires.ports in
    let b1 : c.carry_nets.new.builder ≡ nets_alone n = nets_done n c.args.builder.now c.carry_nets.new.builder c.net_count-first.result c.requires.ports first c.in_ok-carry_nets.ensures in
    let cells : c.cells-cells.result.now ≡ n.library = c.cells-cells.ensures.cells ∙ c.library.ensures.library in
    let all : map (loosened c.cells-cells.result.now f.net.0) c.instances.result.now ≡ map (loosened n.library f.net.0) n.instances = (λ t. map (loosened (cells t) f.net.0) (c.instances.ensures.instances t)) in
    let b2 : c.carry_instances.new.builder ≡ instances_alone n f =
    instances_done n c.carry_nets.new.builder c.carry_instances.new.builder f b1 (c.in_ok-carry_instances.ensures ∙ ap (λ (xs : List Instance). with_things c.carry_nets.new.builder (instance_things xs)) all) in
    let b3 : Made n f c.carry_joins.new.builder =
    joins_done n c.carry_instances.new.builder c.carry_joins.new.builder f b2 (c.in_ok-carry_joins.ensures ∙ ap (λ (js : List Join). with_things c.carry_instances.new.builder (join_things (filter (is_elsewhere f.net.0) js))) c.joins.ensures.joins) in
    let same : record c.carry_joins.new.builder { joins = c.carry_joins.new.builder.joins ++ stuck_join f ∷ [] } ≡ faulty n f = ap (λ (m : Netlist). record m { joins = m.joins ++ stuck_join f ∷ [] }) b3 in
    subst (λ (w : Netlist). OnOk c.join.result (c.join.new.self ≡ w)) same c.join.ensures.ok

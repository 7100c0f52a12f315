use Rattle.std.proofs.Common.{◌<◌, ◌≡◌, List, length, map, Some, None, sym, ap, subst, ◌∙◌, rules, append-nil}
use Rattle.dft_netlist.specs.declared.instance.Join.{Join}
use Rattle.dft_netlist.specs.declared.instance.Signal.{Signal}
use Rattle.dft_hier.specs.Flat.{joined_to, moved, moved_net, port_joins}
use Rattle.dft_hier.specs.Moving.{AreJoinsOf, AreWritable}
use Rattle.dft_numbered.specs.Numbers.{look_up}
use Rattle.dft_hier.proofs.JoinLemmas.{connection_live, joined_some, joined_none, connected, unconnected}
use Rattle.dft_hier.proofs.flat_joins.add_connection.Goals as goal

pub bounds-connections-number : goal.bounds-connections-number
bounds-connections-number c =
    let found : look_up c.args.numbers.now c.args.port.now.name ≡ Some c.in-Some.number = sym (rw c.as_slice.ensures.bytes at c.find.ensures) ∙ c.in-Some.is in
    connection_live c.args.numbers.now c.args.connections.now c.args.port.now.name c.in-Some.number c.requires.numbers found

pub offset_bounds-connections-number : goal.offset_bounds-connections-number
offset_bounds-connections-number c =
    let found : look_up c.args.numbers.now c.args.port.now.name ≡ Some c.in-Some.number = sym (rw c.as_slice.ensures.bytes at c.find.ensures) ∙ c.in-Some.is in
    let live : c.in-Some.number < length c.args.connections.now = connection_live c.args.numbers.now c.args.connections.now c.args.port.now.name c.in-Some.number c.requires.numbers found in
    search rules

pub add_port_joins-requires-clause-signals : goal.add_port_joins-requires-clause-signals
add_port_joins-requires-clause-signals c =
    let found : look_up c.args.numbers.now c.args.port.now.name ≡ Some c.in-Some.number = sym (rw c.as_slice.ensures.bytes at c.find.ensures) ∙ c.in-Some.is in
    let same = joined_some c.args.numbers.now c.args.connections.now c.args.port.now.name c.in-Some.number c.index-connections-number.result c.requires.numbers found c.index-connections-number.is in
    subst (λ (ss : List Signal). AreWritable c.args.outside ss) (same ∙ ap (λ x. x.signals) c.index-connections-number.is ∙ sym c.as_slice-signals.ensures) c.requires.signals

pub add_port_joins-requires-clause-fits : goal.add_port_joins-requires-clause-fits
add_port_joins-requires-clause-fits c =
    let found : look_up c.args.numbers.now c.args.port.now.name ≡ Some c.in-Some.number = sym (rw c.as_slice.ensures.bytes at c.find.ensures) ∙ c.in-Some.is in
    let same = joined_some c.args.numbers.now c.args.connections.now c.args.port.now.name c.in-Some.number c.index-connections-number.result c.requires.numbers found c.index-connections-number.is in
    subst (λ (ss : List Signal). AreJoinsOf c.args.builder.now (port_joins c.args.port.now.dir (map (moved_net c.args.within) c.args.port.now.bits) (map (moved c.args.outside) ss))) (same ∙ ap (λ x. x.signals) c.index-connections-number.is ∙ sym c.as_slice-signals.ensures)
    (subst (λ (js : List Join). AreJoinsOf c.args.builder.now js) (append-nil _) c.requires.fits)

pub returns-in-Some : goal.returns-in-Some
returns-in-Some c =
    let found : look_up c.args.numbers.now c.args.port.now.name ≡ Some c.in-Some.number = sym (rw c.as_slice.ensures.bytes at c.find.ensures) ∙ c.in-Some.is in
    let same = joined_some c.args.numbers.now c.args.connections.now c.args.port.now.name c.in-Some.number c.index-connections-number.result c.requires.numbers found c.index-connections-number.is in
    connected c.args.builder.now c.add_port_joins.new.builder c.args.port.now.dir (map (moved_net c.args.within) c.args.port.now.bits) c.args.outside c.as_slice-signals.result.now (joined_to c.args.connections.now c.args.port.now.name) c.add_port_joins.result (same ∙ ap (λ x. x.signals) c.index-connections-number.is ∙ sym c.as_slice-signals.ensures) c.add_port_joins.ensures

pub returns-in-None : goal.returns-in-None
returns-in-None c =
    let lost : look_up c.args.numbers.now c.args.port.now.name ≡ None = sym (rw c.as_slice.ensures.bytes at c.find.ensures) ∙ c.in-None.is in
    unconnected c.args.builder.now c.args.port.now.dir (map (moved_net c.args.within) c.args.port.now.bits) c.args.outside (joined_to c.args.connections.now c.args.port.now.name) (joined_none c.args.numbers.now c.args.connections.now c.args.port.now.name c.requires.numbers lost)

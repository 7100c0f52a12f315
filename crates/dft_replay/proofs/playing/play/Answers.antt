-- The calls for a vector come to its round.
use Rattle.std.proofs.Common.{◌≡◌, ◌∙◌, Bool, List, length, map, sym, ap, subst, arith, rules}
use Rattle.std.proofs.lemmas.List.{length-map, with_items_is}
use Rattle.dft_netlist.specs.declared.ids.NetId.{NetId}
use Rattle.dft_netlist.specs.Orders.{numbers_of}
use Rattle.dft_cycle.specs.Machine.{Machine, logic, IsPulsed}
use Rattle.dft_replay.specs.Looks.{asked_of, decided_seen, AreBefore}
use Rattle.dft_replay.specs.Rows.{Compared, compared_from}
use Rattle.dft_replay.proofs.LookLemmas.{compared_before, compared_few}
use Rattle.dft_replay.proofs.VectorLemmas.{count_compared}
use Rattle.dft_replay.proofs.PlayedLemmas.{played}
use Rattle.dft_replay.proofs.playing.play.Goals as goal

pub compare-decision-requires-clause-room : goal.compare-decision-requires-clause-room
compare-decision-requires-clause-room c =
    let nets : List NetId = c.args.nets.now in
    let long = length-map nets (λ (k : NetId). k.0) in
    let wanted = length-map c.list_compared.new.wanted.items (λ (k : NetId). k.0) in
    let nets_are = ap length c.list_compared.ensures.nets in
    let compared = length-map (compared_from 0 (numbers_of nets) c.args.acts.now) (λ (k : Compared). k.net) in
    let few = compared_few 0 (numbers_of nets) c.args.acts.now in
    let size : length c.deref.result.now ≡ length c.list_compared.new.wanted.items = ap length c.deref.ensures.value in
    let seen : length c.deref_mut.result.now ≡ length c.args.room.now.seen.items = ap length c.deref_mut.ensures.value in
    omega (arith, c.requires.room.seen)

pub returns-clause-played : goal.returns-clause-played
returns-clause-played c =
    let set : Machine = c.set_inputs.new.machine in
    let pulsed : c.deref-3.result.now ≡ c.mark.new.pulsed = c.deref-3.ensures.value ∙ with_items_is c.args.room.now.pulsed c.mark.new.pulsed (search rules) in
    let P : List Bool → Type 0 = λ flags. IsPulsed (logic set) set flags c.pulse.new.self in
    let M : Machine → Type 0 = λ m. IsPulsed (logic m) m c.deref-3.result.now c.pulse.new.self in
    played c.args.unknowns c.args.machine.now set c.pulse.new.self c.args.nets.now c.args.clocks.now c.mark.new.pulsed c.args.acts.now c.args.vector c.list_compared.new.wanted.items c.list_compared.new.asked.items c.compare-decision.result
    c.requires.ordered c.requires.nets.differ c.requires.acts c.requires.clocks c.set_inputs.ensures.stands c.set_inputs.ensures.inputs c.list_compared.ensures.nets c.list_compared.ensures.printed
    (λ values strobe. c.compare-decision.ensures.first values strobe ∙ (λ t. decided_seen c.args.unknowns c.args.vector (c.deref-2.ensures.value t) (map (λ (net : NetId). values net.0) (c.deref.ensures.value t))))
    c.mark.ensures (subst P pulsed (subst M c.compare-decision.ensures.same c.pulse.ensures))

pub returns-clause-placed : goal.returns-clause-placed
returns-clause-placed c = λ vectors less.
    let nets : List NetId = c.args.nets.now in
    let long = length-map nets (λ (k : NetId). k.0) in
    let before : AreBefore (length nets) (map asked_of (compared_from 0 (numbers_of nets) c.args.acts.now)) = compared_before (length nets) 0 (numbers_of nets) c.args.acts.now (omega arith) in
    c.compare-decision.ensures.placed vectors (length nets) less (subst (AreBefore (length nets)) (sym (c.deref-2.ensures.value ∙ c.list_compared.ensures.printed)) before)

pub returns-clause-counted : goal.returns-clause-counted
returns-clause-counted c =
    let nets : List NetId = c.args.nets.now in
    let long = length-map nets (λ (k : NetId). k.0) in
    ap length c.list_compared.ensures.printed ∙ length-map (compared_from 0 (numbers_of nets) c.args.acts.now) asked_of ∙ count_compared 0 (numbers_of nets) c.args.acts.now (c.requires.acts ∙ sym long)

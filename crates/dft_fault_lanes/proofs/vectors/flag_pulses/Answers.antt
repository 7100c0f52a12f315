-- One signal more flags its clock.
use Rattle.std.proofs.Common.{ℕ, List, ◌≡◌, ◌<◌, ◌+◌, ◌-◌, refl, sym, subst, length, get_or, arith}
use Rattle.std.proofs.lemmas.List.{length-map}
use Rattle.std.proofs.lemmas.Option.{slice_get-get_or}
use Rattle.dft_netlist.specs.declared.ids.NetId.{NetId}
use Rattle.dft_netlist.specs.Orders.{numbers_of}
use Rattle.dft_replay.proofs.VectorLemmas.{number_of}
use Rattle.dft_fault_lanes.proofs.InputLemmas.{FlaggedFrom, flag_one}
use Rattle.dft_fault_lanes.proofs.vectors.flag_pulses.Goals as goal

pub loop-signal-preserved : goal.loop-signal-preserved
loop-signal-preserved c =
    let nets : List ℕ = numbers_of c.args.nets.now in
    let acts = c.args.acts.now in
    let i : ℕ = c.loop-signal.signal - 1 in
    let e : i + 1 ≡ c.loop-signal.signal = omega (arith, c.loop-signal-test.true) in
    let long = length-map c.args.nets.now (λ (k : NetId). k.0) in
    let there : i < length c.args.nets.now = omega (arith, c.loop-signal-test.true, c.loop-signal.auto.signal) in
    let less : i < length nets = omega (arith, there, long) in
    let within : i < length acts = omega (arith, there, c.requires.acts) in
    flag_one nets acts (length c.args.pulsed.now) c.loop-signal.pulsed i (get_or c.args.nets.now i (record { 0 = 0 })).0 _ c.is_pulse.result less within (sym (number_of c.args.nets.now i))
    (c.requires.nets.live i _ (slice_get-get_or c.args.nets.now i (record { 0 = 0 }) there)) refl c.is_pulse.ensures
    (subst (λ (k : ℕ). FlaggedFrom nets acts (length c.args.pulsed.now) c.loop-signal.pulsed k) (sym e) c.loop-signal.invariant)

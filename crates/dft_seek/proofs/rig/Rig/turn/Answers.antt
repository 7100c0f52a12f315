-- A last 1 is left off, and a last 0 is turned.
use Rattle.std.proofs.Common.{List, Bool, [], ◌∷◌, ◌++◌, ◌∙◌, refl, ap, arith, length}
use Rattle.std.proofs.lemmas.List.{length_push, nil_from_length}
use Rattle.dft_seek.specs.Turns.{pending}
use Rattle.dft_seek.proofs.OpenLemmas.{at_cut}
use Rattle.dft_seek.proofs.TurnLemmas.{popped_false, popped_true}
use Rattle.dft_seek.proofs.rig.Rig.turn.Goals as goal

pub loop-bit-init : goal.loop-bit-init
loop-bit-init c = record { marks = c.requires.marks; opens = λ f was. was; at = c.requires.at; room = refl; few = omega arith; same = refl }

pub loop-bit-preserved : goal.loop-bit-preserved
loop-bit-preserved c =
    let left : List Bool = c.pop.new.self.items in
    let long = ap (λ (l : List Bool). length l) c.in-Some.ensures.items ∙ length_push left c.in-Some.bit in
    record {
      marks = c.shorten.ensures.marks;
      opens = λ f was. c.shorten.ensures.opens f (c.loop-bit.invariant.opens f was);
      at = at_cut c.args.cone.now left c.deref.result.now c.loop-bit.bits.items c.in-Some.bit c.loop-bit.v c.shorten.new.v c.deref.ensures.value c.in-Some.ensures.items c.shorten.ensures.at c.loop-bit.invariant.at;
      room = c.pop.ensures.capacity ∙ c.loop-bit.invariant.room;
      few = omega (arith, long, c.loop-bit.invariant.few);
      same = c.loop-bit.invariant.same ∙ popped_true c.loop-bit.bits.items left (c.in-Some.ensures.items ∙ ap (λ (b : Bool). left ++ b ∷ []) c.if-not-bit.false);
    }

pub loop-bit-smaller : goal.loop-bit-smaller
loop-bit-smaller c = omega (arith, c.in-Some.ensures.cases)

pub extend-requires-clause-room : goal.extend-requires-clause-room
extend-requires-clause-room c = (let l = c.pop.new.self.ok.0 in omega (arith, c.in-Some.ensures.cases, c.pop.ensures.capacity, c.loop-bit.bits.ok.1, l))

pub extend-requires-clause-marks : goal.extend-requires-clause-marks
extend-requires-clause-marks c = c.shorten.ensures.marks

pub extend-requires-clause-at : goal.extend-requires-clause-at
extend-requires-clause-at c = at_cut c.args.cone.now c.pop.new.self.items c.deref.result.now c.loop-bit.bits.items c.in-Some.bit c.loop-bit.v c.shorten.new.v c.deref.ensures.value c.in-Some.ensures.items c.shorten.ensures.at c.loop-bit.invariant.at

pub returns-then-not-bit-clause-opens : goal.returns-then-not-bit-clause-opens
returns-then-not-bit-clause-opens c = λ f was. c.extend.ensures.opens f (c.shorten.ensures.opens f (c.loop-bit.invariant.opens f was))

pub returns-then-not-bit-clause-turned : goal.returns-then-not-bit-clause-turned
returns-then-not-bit-clause-turned c = λ yes.
    (let left : List Bool = c.pop.new.self.items in
    c.loop-bit.invariant.same ∙ popped_false c.loop-bit.bits.items left c.extend.new.bits.items (c.in-Some.ensures.items ∙ ap (λ (b : Bool). left ++ b ∷ []) c.if-not-bit.true) c.extend.ensures.bits)

pub returns-clause-ended : goal.returns-clause-ended
returns-clause-ended c = λ no. c.loop-bit.invariant.same ∙ ap pending (nil_from_length c.loop-bit.bits.items (omega (arith, c.in_default.ensures.cases.0, c.loop-bit.bits.ok.0)))

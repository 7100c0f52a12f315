-- Worked examples of edges at one instant.
use Rattle.std.proofs.Common.{ℕ, zero, suc, Bool, true, false, not, [], ◌∷◌, ◌≡◌, ◌==◌, ◌||◌, ◌+◌, refl, ap, arith, ◌∙◌}
use Rattle.std.specs.Prelude.{if◌then◌else◌}
use Rattle.dft_base.proofs.NumberLemmas.{more_apart}
use Rattle.dft_behavior.specs.Runs.{Moment, Now, IsTurn, times}
use Rattle.dft_behavior.specs.RunExamples.{both, third, three, edge_of, AllAtOnce, NoOrders, pulsing, end_of, Exchange, LockedExchange, two_then_one, ring, TwoThenOne}

with_none : (b : Bool) → (if b then 1 else 0) + 0 ≡ (if b then 1 else 0)
with_none true = refl
with_none false = refl

pub all_at_once : AllAtOnce
all_at_once pulsed clock m is = record { once = λ d. with_none (pulsed d); some = ((clock, is), tt) }

pub no_orders : NoOrders
no_orders = record {
  empty = λ m k order. absurd (let q : false ≡ true = order.some.1.0.1 in cc);
  still = λ m order. absurd (let q = order.once 1 in omega (arith, q));
  twice = λ m k order. absurd (let q = order.once 0 in omega (arith, q));
}

pub exchange : Exchange
exchange false now s r f turn = (turn.steps.0 3, turn.steps.0 2)
exchange true now s r f turn = (turn.steps.1.0 3, turn.steps.1.0 2)

pub locked_exchange : LockedExchange
locked_exchange false now s r f low turn = (
  turn.steps.0 3,
  turn.steps.0 4 ∙ ap (λ (high : Bool). if not high then s.seen 2 else now.state.flops 2) (low 0) ∙ turn.steps.0 2,
  turn.steps.0 2,
)
locked_exchange true now s r f low turn = (turn.steps.1.0 3, turn.steps.1.0 4 ∙ turn.steps.1.0 2, turn.steps.1.0 2)

none_of : (a b c : Bool) → a ≡ false → b ≡ false → c ≡ false → (if (a || b) then 1 else 0) + ((if c then 1 else 0) + 0) ≡ (if ((a || b) || c) then 1 else 0)
none_of false false false p q r = refl
none_of true b c p q r = absurd cc
none_of false true c p q r = absurd cc
none_of false false true p q r = absurd cc

two_once : (m k : Moment) (d : ℕ) → times d (edge_of both m ∷ edge_of third k ∷ []) ≡ (if three d then 1 else 0)
two_once m k zero = refl
two_once m k (suc zero) = refl
two_once m k (suc (suc zero)) = refl
two_once m k (suc (suc (suc d))) =
    let it : ℕ = suc (suc (suc d)) in
    none_of (it == 0) (it == 1) (it == 2) (more_apart 0 it (omega arith)) (more_apart 1 it (omega arith)) (more_apart 2 it (omega arith))

ring_turns : (falling : Bool) (now : Now) (s r a f b : Moment) → IsTurn (ring falling) (pulsing three) now (two_then_one s r a f b) →
    ((end_of (ring falling) three now (two_then_one s r a f b)).flops 0 ≡ now.state.flops 2)
    × ((end_of (ring falling) three now (two_then_one s r a f b)).flops 1 ≡ now.state.flops 0)
    × ((end_of (ring falling) three now (two_then_one s r a f b)).flops 2 ≡ now.state.flops 0)
ring_turns false now s r a f b turn = (turn.steps.0 5, turn.steps.0 3, turn.steps.1.0 4 ∙ turn.steps.0 3)
ring_turns true now s r a f b turn = (turn.steps.1.1.0 5, turn.steps.1.1.0 3, turn.steps.1.1.1.0 4 ∙ turn.steps.1.1.0 3)

pub two_then_one_is : TwoThenOne
two_then_one_is = record {
  order = λ m k. record { once = two_once m k; some = ((0, refl), ((2, refl), tt)) };
  bits = ring_turns;
}

-- Closed halves of a vector exist, and have the views at their maps; and what of a vector a cell of one edge sees.
use Rattle.std.proofs.Common.{ℕ, Bool, true, false, ◌&&◌, ◌≡◌, refl, ap, ◌∙◌}
use Rattle.std.specs.Prelude.{if◌then◌else◌}
use Rattle.dft_base.specs.declared.tri.Tri.{Tri}
use Rattle.dft_base.specs.declared.tri.Tri.TheVariants.{Unknown}
use Rattle.dft_base.proofs.SumLemmas.{and_false}
use Rattle.dft_behavior.specs.Logic.{Logic, IsRanked}
use Rattle.dft_behavior.specs.Runs.{Vector, takes}
use Rattle.dft_abstract.specs.Cycle.{Pulse, changes, next_value, after_pulse, rise_of, fall_of, Halves, AreHalves, AreClosed, AreLeast, after_halves}
use Rattle.dft_abstract.proofs.Views.{closed_exists}

pub closed_views : (l : Logic) (x : Vector) (old : ℕ → Tri) (h : Halves) → AreClosed l x old h → AreHalves l x old h
closed_views l x old h closed = record { rise = closed.rise.views; fall = closed.fall.views }

pub least_closed : (l : Logic) (x : Vector) (old : ℕ → Tri) (h : Halves) → AreLeast l x old h → AreClosed l x old h
least_closed l x old h least = record { rise = least.rise.closed; fall = least.fall.closed }

pub halves_exist : (l : Logic) (rank : ℕ → ℕ) (x : Vector) (old : ℕ → Tri) → IsRanked l rank → (h : Halves) × AreClosed l x old h
halves_exist l rank x old ranked =
    let up = closed_exists l rank (rise_of l x old) ranked in
    let down = closed_exists l rank (fall_of l x old up.0) ranked in
    (record { rise = record { poss = λ c. Unknown; view = up.0 }; fall = record { poss = λ c. Unknown; view = down.0 } }, record { rise = up.1; fall = down.1 })

-- ---- cells of one edge

with_true : (b : Bool) → (b && true) ≡ b
with_true true = refl
with_true false = refl

by_edge : (l : Logic) (p : Pulse) (c : ℕ) (falling rising : Bool) → (l.cell c).falling ≡ falling → p.rising ≡ rising → changes l p c ≡ (p.pulsed (l.cell c).domain && takes rising falling)
by_edge l p c falling rising f r = λ t. p.pulsed (l.cell c).domain && takes (r t) (f t)

-- a rising cell takes a value in the rises where its clock pulses, and in no falls
pub rises_change : (l : Logic) (p : Pulse) (c : ℕ) → (l.cell c).falling ≡ false → p.rising ≡ true → changes l p c ≡ p.pulsed (l.cell c).domain
rises_change l p c f r = by_edge l p c false true f r ∙ with_true (p.pulsed (l.cell c).domain)

pub falls_rest : (l : Logic) (p : Pulse) (c : ℕ) → (l.cell c).falling ≡ false → p.rising ≡ false → changes l p c ≡ false
falls_rest l p c f r = by_edge l p c false false f r ∙ and_false (p.pulsed (l.cell c).domain)

-- a falling one takes its value in the falls
pub falls_change : (l : Logic) (p : Pulse) (c : ℕ) → (l.cell c).falling ≡ true → p.rising ≡ false → changes l p c ≡ p.pulsed (l.cell c).domain
falls_change l p c f r = by_edge l p c true false f r ∙ with_true (p.pulsed (l.cell c).domain)

pub rises_rest : (l : Logic) (p : Pulse) (c : ℕ) → (l.cell c).falling ≡ true → p.rising ≡ true → changes l p c ≡ false
rises_rest l p c f r = by_edge l p c true true f r ∙ and_false (p.pulsed (l.cell c).domain)

-- what takes no value in a phase stays
pub rests : (l : Logic) (p : Pulse) (view : ℕ → ℕ → Tri) (c : ℕ) → changes l p c ≡ false → after_pulse l p view c ≡ p.old c
rests l p view c is = ap (λ (b : Bool). if b then next_value l p view c else p.old c) is

pub rising_after : (l : Logic) (x : Vector) (old : ℕ → Tri) (h : Halves) (c : ℕ) → (l.cell c).falling ≡ false → after_halves l x old h c ≡ after_pulse l (rise_of l x old) h.rise.view c
rising_after l x old h c f = rests l (fall_of l x old h.rise.view) h.fall.view c (falls_rest l (fall_of l x old h.rise.view) c f refl)

pub falling_old : (l : Logic) (x : Vector) (old : ℕ → Tri) (view : ℕ → ℕ → Tri) (c : ℕ) → (l.cell c).falling ≡ true → (fall_of l x old view).old c ≡ (rise_of l x old).old c
falling_old l x old view c f = rests l (rise_of l x old) view c (rises_rest l (rise_of l x old) c f refl)

-- What a lock-up shows in the views of a phase and before its edges.
use Rattle.std.proofs.Common.{ℕ, Bool, true, false, not, ◌&&◌, [], ◌∷◌, ◌≡◌, ◌==◌, refl, ap, ◌∙◌}
use Rattle.std.specs.Prelude.{if◌then◌else◌}
use Rattle.dft_base.specs.declared.tri.Tri.{Tri}
use Rattle.dft_base.specs.Tri.{AboveTri, join}
use Rattle.dft_cells.proofs.Completions.{above_self, join_over_left}
use Rattle.dft_netlist.specs.Drivers.{Source, nets_of}
use Rattle.dft_behavior.specs.Logic.{Meaning}
use Rattle.dft_behavior.specs.Settled.{is_wire, value_from, value_given}
use Rattle.dft_behavior.specs.Runs.{takes}
use Rattle.dft_abstract.specs.Cycle.{lockup_shown, view_sources}
use Rattle.dft_takings.specs.Needs.{shows_input, strobe_from}
use Rattle.dft_takings.specs.Laws.{LockupIsInput, LockupIsWire}
use Rattle.dft_takings.proofs.ReadLemmas.{Agree, source_agrees}

pub lockup_is_input : LockupIsInput
lockup_is_input l p poss view up views d net c e source is =
    views d net
    ∙ ap (λ (m : Meaning). value_given (view_sources l p poss view d) (view d) net m) is
    ∙ ap (λ (b : Bool). lockup_shown b (p.pulsed e) (e == d) false (p.old c) (value_from (view d) source) (value_from (view e) source)) up

pub lockup_is_wire : LockupIsWire
lockup_is_wire l ports flops values settled net c e true source is = settled net ∙ ap (λ (m : Meaning). value_given (strobe_from ports flops values) values net m) is
lockup_is_wire l ports flops values settled net c e false source is = settled net ∙ ap (λ (m : Meaning). value_given (strobe_from ports flops values) values net m) is

-- its input as it is read
abbrev pub AgreeFor : (rising pulsed own high : Bool) → (v w : ℕ → ℕ → Tri) → (view domain : ℕ) → Source → Type 0
AgreeFor rising pulsed own high v w d e source = Agree (v (if takes rising high then e else d)) (w (if takes rising high then e else d)) (if shows_input rising pulsed own high then nets_of (source ∷ []) else [])

-- it shows the same in assignments that agree there
pub shown_agrees : (rising pulsed own high : Bool) (held : Tri) (v w : ℕ → ℕ → Tri) (d e : ℕ) (source : Source) → AgreeFor rising pulsed own high v w d e source →
    lockup_shown rising pulsed own high held (value_from (v d) source) (value_from (v e) source) ≡ lockup_shown rising pulsed own high held (value_from (w d) source) (value_from (w e) source)
shown_agrees true pulsed own false held v w d e source same = source_agrees (v e) (w e) source same
shown_agrees true true true true held v w d e source same = refl
shown_agrees true true false true held v w d e source same = ap (join held) (source_agrees (v d) (w d) source same)
shown_agrees true false own true held v w d e source same = refl
shown_agrees false true own true held v w d e source same = source_agrees (v e) (w e) source same
shown_agrees false false own true held v w d e source same = refl
shown_agrees false true true false held v w d e source same = refl
shown_agrees false true false false held v w d e source same = ap (join held) (source_agrees (v d) (w d) source same)
shown_agrees false false own false held v w d e source same = source_agrees (v d) (w d) source same

-- where another pulsed clock does not open it, it shows what it does before the edges
pub shown_before : (rising pulsed own high : Bool) (held : Tri) (v : ℕ → ℕ → Tri) (settled : ℕ → Tri) (d e : ℕ) (source : Source) → (if takes rising high then false else (if pulsed then (if own then false else true) else false)) ≡ false →
    AgreeFor rising pulsed own high v (λ k. settled) d e source →
    lockup_shown rising pulsed own high held (value_from (v d) source) (value_from (v e) source) ≡ (if is_wire high (pulsed && not rising) then value_from settled source else held)
shown_before true true own false held v settled d e source still same = source_agrees (v e) settled source same
shown_before true false own false held v settled d e source still same = source_agrees (v e) settled source same
shown_before true true true true held v settled d e source still same = refl
shown_before true true false true held v settled d e source still same = absurd cc
shown_before true false own true held v settled d e source still same = refl
shown_before false true own true held v settled d e source still same = source_agrees (v e) settled source same
shown_before false false own true held v settled d e source still same = refl
shown_before false true true false held v settled d e source still same = refl
shown_before false true false false held v settled d e source still same = absurd cc
shown_before false false own false held v settled d e source still same = source_agrees (v d) settled source same

-- it stands above what it shows before the edges, where its input does
pub shown_above : (rising pulsed own high : Bool) (held here there base : Tri) → AboveTri here base → AboveTri there base → AboveTri (lockup_shown rising pulsed own high held here there) (if is_wire high (pulsed && not rising) then base else held)
shown_above true true own false held here there base h t = t
shown_above true false own false held here there base h t = t
shown_above true true true true held here there base h t = above_self held
shown_above true true false true held here there base h t = join_over_left held here held (above_self held)
shown_above true false own true held here there base h t = above_self held
shown_above false true own true held here there base h t = t
shown_above false false own true held here there base h t = above_self held
shown_above false true true false held here there base h t = above_self held
shown_above false true false false held here there base h t = join_over_left held here held (above_self held)
shown_above false false own false held here there base h t = h

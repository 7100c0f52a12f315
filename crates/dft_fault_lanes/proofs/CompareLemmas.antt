-- Compared bits in each lane.
use Rattle.std.proofs.Common.{ℕ, Bool, true, false, not, ◌≡◌, ◌≢◌, ◌<◌, ◌≤◌, ◌+◌, ◌-◌, ◌/◌, ◌%◌, inl, inr, List, length, refl, sym, ap, subst, arith, ◌∙◌, get_or, slice_set, get_or-set_same, get_or-set_other, Option, None, Some, min}
use Rattle.std.specs.Prelude.{if◌then◌else◌, ◌==◌, ◌&&◌}
use Rattle.std.specs.Int.{bit_at}
use Rattle.std.proofs.lemmas.List.{length-set}
use Rattle.std.proofs.lemmas.Bool.{cases_eq}
use Rattle.std.proofs.lemmas.Bool.Decides.{eqb_tells}
use Rattle.std.proofs.lemmas.Nat.Bits.{bit_at-zero, bit_at-lt}
use Rattle.dft_base.specs.Packed.{packed_bit}
use Rattle.dft_base.specs.declared.tri.Tri.{Tri}
use Rattle.dft_base.specs.declared.tri.Tri.TheVariants.{Zero, One, Unknown}
use Rattle.dft_cells.specs.Tables.{and_tri, not_tri}
use Rattle.dft_lanes.specs.declared.wide.Wide.{Wide}
use Rattle.dft_lanes.specs.Choices.{can, some_choice, some_choice_of_two}
use Rattle.dft_evaluator.specs.Wides.{value_of, value_in, IsWide}
use Rattle.dft_evaluator.proofs.WideLemmas.{value_is, wide_nots, wide_ands}
use Rattle.dft_grade.specs.declared.found.Grade.{Grade}
use Rattle.dft_fault_lanes.specs.Compares.{is_one, is_opposite, found_at, AreMarked, differs_in}

-- ---- words

no_one : (z : Bool) → is_one (value_of z false) ≡ false
no_one true = refl
no_one false = refl

bits_none : (a b : ℕ) → a < 2 → b < 2 → min a (1 - b) ≡ 0 → is_one (value_of (b == 1) (a == 1)) ≡ false
bits_none a b less_a less_b none = elim (eqb_tells a 1) [
  | inl is ↦ (let one : b ≡ 1 = omega (arith, none, less_b, is.1) in
      ap (λ (c : Bool). is_one (value_of (b == 1) c)) is.0 ∙ ap (λ (k : ℕ). is_one (value_of (k == 1) true)) one)
  | inr other ↦ ap (λ (c : Bool). is_one (value_of (b == 1) c)) other.0 ∙ no_one (b == 1)
]

pub word_none : (one zeros : List ℕ) (lane : ℕ) → min (bit_at (get_or one (lane / 64) 0) (lane % 64)) (1 - bit_at (get_or zeros (lane / 64) 0) (lane % 64)) ≡ 0 → is_one (value_of (packed_bit zeros lane) (packed_bit one lane)) ≡ false
unfolding packed_bit
word_none one zeros lane none =
    let a : ℕ = get_or one (lane / 64) 0 in
    let b : ℕ = get_or zeros (lane / 64) 0 in
    bits_none (bit_at a (lane % 64)) (bit_at b (lane % 64)) (bit_at-lt a (lane % 64)) (bit_at-lt b (lane % 64)) none

pub word_bits : (word i : ℕ) (a b : ℕ) → bit_at word i ≡ min a b → word ≡ 0 → min a b ≡ 0
word_bits word i a b is none = sym is ∙ ap (λ (w : ℕ). bit_at w i) none ∙ bit_at-zero i

-- nets with the same words have the same values
pub same_values : (one other : Wide) → ((k : ℕ) → k < 8 → (get_or one.can_zero k 0 ≡ get_or other.can_zero k 0) × (get_or one.can_one k 0 ≡ get_or other.can_one k 0)) → (lane : ℕ) → lane < 512 → value_in one lane ≡ value_in other lane
unfolding packed_bit
same_values one other same lane within =
    let words = same (lane / 64) (omega arith) in
    ap (λ (w : ℕ). value_of (bit_at w (lane % 64) == 1) (can one lane true)) words.0 ∙ ap (λ (w : ℕ). value_of (can other lane false) (bit_at w (lane % 64) == 1)) words.1

-- ---- lanes that are marked

-- the lanes before one are marked where they are hit, the others are as at the start
pub record Marking (grade : Grade) (hit : ℕ → Bool) (live : Wide) (found : List (Option Grade)) (live_now : Wide) (found_now : List (Option Grade)) (lane : ℕ) : Type 0 where
  pub wide : IsWide live_now (value_in live_now)
  pub size : length found_now ≡ 512
  pub lives : (k : ℕ) → k < 512 → k < lane → value_in live_now k ≡ (if hit k then Zero else value_in live k)
  pub finds : (k : ℕ) → k < 512 → k < lane → found_at found_now k ≡ (if hit k then Some grade else found_at found k)
  pub rest_live : (k : ℕ) → lane ≤ k → value_in live_now k ≡ value_in live k
  pub rest_found : (k : ℕ) → lane ≤ k → found_at found_now k ≡ found_at found k

pub marking_starts : (grade : Grade) (hit : ℕ → Bool) (live : Wide) (found : List (Option Grade)) → IsWide live (value_in live) → length found ≡ 512 → Marking grade hit live found live found 0
marking_starts grade hit live found wide size = record {
  wide = wide;
  size = size;
  lives = λ k within less. absurd (omega arith);
  finds = λ k within less. absurd (omega arith);
  rest_live = λ k from. refl;
  rest_found = λ k from. refl;
}

pub marking_ends : (grade : Grade) (hit : ℕ → Bool) (live : Wide) (found : List (Option Grade)) (live_now : Wide) (found_now : List (Option Grade)) (lane : ℕ) → 512 ≤ lane → Marking grade hit live found live_now found_now lane → AreMarked grade hit live found live_now found_now
marking_ends grade hit live found live_now found_now lane all m = record { lives = λ k within. m.lives k within (omega (arith, within, all)); finds = λ k within. m.finds k within (omega (arith, within, all)) }

pub mark_one : (grade : Grade) (hit : ℕ → Bool) (live : Wide) (found : List (Option Grade)) (now new : Wide) (found_now : List (Option Grade)) (lane : ℕ) → lane < 512 → hit lane ≡ true →
    ((k : ℕ) → value_in new k ≡ (if k == lane then Zero else value_in now k)) → IsWide new (value_in new) → Marking grade hit live found now found_now lane →
    Marking grade hit live found new (slice_set found_now lane (Some grade)) (lane + 1)
mark_one grade hit live found now new found_now lane within is sets wide m =
    let other : (k : ℕ) → k ≢ lane → value_in new k ≡ value_in now k = λ k ne. sets k ∙ elim (eqb_tells k lane) [
      | inl e ↦ absurd (ne e.1)
      | inr off ↦ ap (λ b. if b then Zero else value_in now k) off.0
    ] in
    let here : value_in new lane ≡ Zero = sets lane ∙ elim (eqb_tells lane lane) [
      | inl e ↦ ap (λ b. if b then Zero else value_in now lane) e.0
      | inr off ↦ absurd (off.1 refl)
    ] in
    let room : lane < length found_now = omega (arith, within, m.size) in
    record {
      wide = wide;
      size = length-set found_now lane (Some grade) ∙ m.size;
      lives = λ k less before. elim (cases_eq k lane) [
        | inl e ↦ subst (λ (i : ℕ). value_in new i ≡ (if hit i then Zero else value_in live i)) (sym e) (here ∙ ap (λ b. if b then Zero else value_in live lane) (sym is))
        | inr ne ↦ other k ne ∙ m.lives k less (omega (arith, before, ne))
      ];
      finds = λ k less before. elim (cases_eq k lane) [
        | inl e ↦ subst (λ (i : ℕ). found_at (slice_set found_now lane (Some grade)) i ≡ (if hit i then Some grade else found_at found i)) (sym e)
            (get_or-set_same found_now lane (Some grade) None room ∙ ap (λ b. if b then Some grade else found_at found lane) (sym is))
        | inr ne ↦ get_or-set_other found_now lane k (Some grade) None ne ∙ m.finds k less (omega (arith, before, ne))
      ];
      rest_live = λ k from. other k (omega arith) ∙ m.rest_live k (omega arith);
      rest_found = λ k from. get_or-set_other found_now lane k (Some grade) None (omega arith) ∙ m.rest_found k (omega arith);
    }

pub mark_none : (grade : Grade) (hit : ℕ → Bool) (live : Wide) (found : List (Option Grade)) (now : Wide) (found_now : List (Option Grade)) (lane : ℕ) → hit lane ≡ false → Marking grade hit live found now found_now lane → Marking grade hit live found now found_now (lane + 1)
mark_none grade hit live found now found_now lane is m = record {
  wide = m.wide;
  size = m.size;
  lives = λ k less before. elim (cases_eq k lane) [
    | inl e ↦ subst (λ (i : ℕ). value_in now i ≡ (if hit i then Zero else value_in live i)) (sym e) (m.rest_live lane (omega arith) ∙ ap (λ b. if b then Zero else value_in live lane) (sym is))
    | inr ne ↦ m.lives k less (omega (arith, before, ne))
  ];
  finds = λ k less before. elim (cases_eq k lane) [
    | inl e ↦ subst (λ (i : ℕ). found_at found_now i ≡ (if hit i then Some grade else found_at found i)) (sym e) (m.rest_found lane (omega arith) ∙ ap (λ b. if b then Some grade else found_at found lane) (sym is))
    | inr ne ↦ m.finds k less (omega (arith, before, ne))
  ];
  rest_live = λ k from. m.rest_live k (omega arith);
  rest_found = λ k from. m.rest_found k (omega arith);
}

-- ---- one compared bit

both_one : (s t : Tri) → is_one (and_tri s t) ≡ is_one s && is_one t
both_one Zero t = refl
both_one One t = refl
both_one Unknown Zero = refl
both_one Unknown One = refl
both_one Unknown Unknown = refl

opposite_true : (t : Tri) → is_one (not_tri t) ≡ is_opposite true t
opposite_true Zero = refl
opposite_true One = refl
opposite_true Unknown = refl

opposite_false : (t : Tri) → is_one t ≡ is_opposite false t
opposite_false Zero = refl
opposite_false One = refl
opposite_false Unknown = refl

pub hit_true : (wide inverse live hit : Wide) → IsWide wide (value_in wide) → IsWide live (value_in live) → ((lane : ℕ) (v : Bool) → can inverse lane v ≡ some_choice not (can wide lane) v) →
    ((lane : ℕ) (v : Bool) → can hit lane v ≡ some_choice_of_two (λ x y. x && y) (can live lane) (can inverse lane) v) → (lane : ℕ) → lane < 512 → is_one (value_in hit lane) ≡ differs_in true wide live lane
hit_true wide inverse live hit is_wide is_live nots ands lane within =
    ap is_one (value_is hit (λ p. and_tri (value_in live p) (not_tri (value_in wide p))) (wide_ands hit live inverse (value_in live) (λ p. not_tri (value_in wide p)) is_live (wide_nots inverse wide (value_in wide) is_wide nots) ands) lane within)
    ∙ both_one (value_in live lane) (not_tri (value_in wide lane)) ∙ ap (λ b. is_one (value_in live lane) && b) (opposite_true (value_in wide lane))

pub hit_false : (wide live hit : Wide) → IsWide wide (value_in wide) → IsWide live (value_in live) →
    ((lane : ℕ) (v : Bool) → can hit lane v ≡ some_choice_of_two (λ x y. x && y) (can live lane) (can wide lane) v) → (lane : ℕ) → lane < 512 → is_one (value_in hit lane) ≡ differs_in false wide live lane
hit_false wide live hit is_wide is_live ands lane within =
    ap is_one (value_is hit (λ p. and_tri (value_in live p) (value_in wide p)) (wide_ands hit live wide (value_in live) (value_in wide) is_live is_wide ands) lane within)
    ∙ both_one (value_in live lane) (value_in wide lane) ∙ ap (λ b. is_one (value_in live lane) && b) (opposite_false (value_in wide lane))

pub marked_as : (grade : Grade) (hit other : ℕ → Bool) (live : Wide) (found : List (Option Grade)) (live_now : Wide) (found_now : List (Option Grade)) → ((lane : ℕ) → lane < 512 → hit lane ≡ other lane) → AreMarked grade hit live found live_now found_now →
    AreMarked grade other live found live_now found_now
marked_as grade hit other live found live_now found_now same m = record {
  lives = λ lane within. m.lives lane within ∙ ap (λ b. if b then Zero else value_in live lane) (same lane within);
  finds = λ lane within. m.finds lane within ∙ ap (λ b. if b then Some grade else found_at found lane) (same lane within);
}

pub none_marked : (grade : Grade) (hit : ℕ → Bool) (live : Wide) (found : List (Option Grade)) → ((lane : ℕ) → lane < 512 → hit lane ≡ false) → AreMarked grade hit live found live found
none_marked grade hit live found none = record {
  lives = λ lane within. ap (λ b. if b then Zero else value_in live lane) (sym (none lane within));
  finds = λ lane within. ap (λ b. if b then Some grade else found_at found lane) (sym (none lane within));
}

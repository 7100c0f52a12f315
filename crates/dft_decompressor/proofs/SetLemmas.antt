-- Sets of stages as they are computed.
use Rattle.std.proofs.Common.{◌≡◌, ℕ, suc, ◌+◌, ◌-◌, ◌<◌, ◌≤◌, Bool, true, false, not, ◌&&◌, List, [], ◌∷◌, ◌++◌, length, get_or, drop, refl, sym, ◌∙◌, ap, arith, append_assoc}
use Rattle.std.proofs.lemmas.Bool.{and_parts}
use Rattle.std.proofs.lemmas.List.{at_drop_more, at_drop_all}
use Rattle.dft_base.specs.Solutions.{xor}
use Rattle.dft_base.proofs.NumberLemmas.{one_left}
use Rattle.dft_base.proofs.BitLemmas.{same_bit, bit_same}
use Rattle.dft_config.specs.declared.config.Tap.{Tap}
use Rattle.dft_decompressor.specs.StageSets.{moved, moves_from, same_set}
use Rattle.dft_decompressor.specs.Stamps.{stamp_of}

-- ---- moves

-- one move more
pub moves_more : (taps : List Tap) (n k : ℕ) (last next : List Bool) (before after all : List (List Bool)) → k < n → after ≡ before ++ last ∷ [] → next ≡ moved taps last → before ++ moves_from taps (n - k) last ≡ all →
    after ++ moves_from taps (n - (k + 1)) next ≡ all
moves_more taps n k last next before after all less pushed is rest =
    (λ i. pushed i ++ moves_from taps (n - (k + 1)) (is i)) ∙ append_assoc before (last ∷ []) (moves_from taps (n - (k + 1)) (moved taps last))
    ∙ ap (λ (m : ℕ). before ++ moves_from taps m last) (sym (one_left k n less)) ∙ rest

-- the last of them
pub moves_all : (taps : List Tap) (n k : ℕ) (last : List Bool) (before after all : List (List Bool)) → n ≤ k → after ≡ before ++ last ∷ [] → before ++ moves_from taps (n - k) last ≡ all → after ≡ all
moves_all taps n k last before after all past pushed rest =
    let none : 0 ≡ n - k = omega arith in pushed ∙ ap (λ (m : ℕ). before ++ moves_from taps m last) none ∙ rest

-- ---- sets that are the same

-- the stages from one on are compared
pub same_on : (a b : List Bool) (k : ℕ) → k < length a → length a ≡ length b → get_or a k false ≡ get_or b k false → same_set (drop k a) (drop k b) ≡ same_set a b → same_set (drop (k + 1) a) (drop (k + 1) b) ≡ same_set a b
same_on a b k less lengths is rest =
    let within : k < length b = omega arith in
    sym (at_drop_more (λ l. same_set l (drop k b)) a k false less ∙ at_drop_more (λ l. same_set (get_or a k false ∷ drop (k + 1) a) l) b k false within
    ∙ ap (λ (x : Bool). not (xor x (get_or b k false)) && same_set (drop (k + 1) a) (drop (k + 1) b)) is
    ∙ ap (λ (x : Bool). x && same_set (drop (k + 1) a) (drop (k + 1) b)) (bit_same (get_or b k false)))
    ∙ rest

other_bit : (a b : Bool) → xor a b ≡ true → not (xor a b) ≡ false
other_bit a b is = ap not is

-- one stage is in one set alone
pub same_not : (a b : List Bool) (k : ℕ) → k < length a → length a ≡ length b → xor (get_or a k false) (get_or b k false) ≡ true → same_set (drop k a) (drop k b) ≡ same_set a b → false ≡ same_set a b
same_not a b k less lengths is rest =
    let within : k < length b = omega arith in
    sym (at_drop_more (λ l. same_set l (drop k b)) a k false less ∙ at_drop_more (λ l. same_set (get_or a k false ∷ drop (k + 1) a) l) b k false within
    ∙ ap (λ (x : Bool). not x && same_set (drop (k + 1) a) (drop (k + 1) b)) is)
    ∙ rest

-- all stages were compared
pub same_all : (a b : List Bool) (k : ℕ) → length a ≤ k → length a ≡ length b → same_set (drop k a) (drop k b) ≡ same_set a b → true ≡ same_set a b
same_all a b k past lengths rest =
    let beyond : length b ≤ k = omega arith in
    sym (at_drop_all (λ l. same_set l (drop k b)) a k past ∙ at_drop_all (λ l. same_set [] l) b k beyond) ∙ rest

-- sets over different rings
pub same_lengths : (a b : List Bool) → (length a ≡ length b → ⊥) → false ≡ same_set a b
same_lengths [] [] apart = absurd (apart refl)
same_lengths [] (b ∷ more) apart = refl
same_lengths (a ∷ rest) [] apart = refl
same_lengths (a ∷ rest) (b ∷ more) apart = by (not (xor a b)) (same_lengths rest more (λ e. apart (ap suc e)))
  where
    by : (same : Bool) → false ≡ same_set rest more → false ≡ (same && same_set rest more)
    by true is = is
    by false is = refl

-- ---- stamps

-- sets that are the same are equal
pub same_is : (a b : List Bool) → same_set a b ≡ true → a ≡ b
same_is [] [] is = refl
same_is [] (b ∷ more) is = absurd cc
same_is (a ∷ rest) [] is = absurd cc
same_is (a ∷ rest) (b ∷ more) is =
    let parts = and_parts (not (xor a b)) (same_set rest more) is in λ i. same_bit a b parts.0 i ∷ same_is rest more parts.1 i

-- sets with other stamps are not the same
pub stamps_differ : (a b : List Bool) → (stamp_of a ≡ stamp_of b → ⊥) → false ≡ same_set a b
stamps_differ a b apart = by (same_set a b) refl
  where
    by : (same : Bool) → same_set a b ≡ same → false ≡ same
    by true is = absurd (apart (ap stamp_of (same_is a b is)))
    by false is = refl

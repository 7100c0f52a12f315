-- The printed names of a vector's bits.
use Rattle.std.proofs.Common.{◌≡◌, ℕ, zero, suc, ◌+◌, ◌-◌, Bool, true, false, cond, leb, List, [], ◌∷◌, ◌++◌, map, refl, sym, ap, ◌∙◌, arith, add-zero, add-one, append_assoc, nat_le, if◌then◌else◌}
use Rattle.std.proofs.lemmas.List.{map-append}
use Rattle.std.proofs.lemmas.Bool.Decides.{nat_tests}
use Rattle.dft_base.specs.declared.place.Range.{Range}
use Rattle.dft_base.specs.Ranges.{width}
use Rattle.dft_netlist.specs.Names.{bit_name, going_up, going_down, indices_of}
use Rattle.dft_verilog_draft.specs.BitNames.{index_at}

-- ---- the indices

going_up-more : (from n : ℕ) → going_up from (suc n) ≡ going_up from n ++ (from + n) ∷ []
going_up-more from zero = rw add-zero refl
going_up-more from (suc n) =
    let e : suc from + n ≡ from + suc n = omega arith in
    ap (λ t. from ∷ t) (going_up-more (suc from) n) ∙ ap (λ m. (from ∷ going_up (suc from) n) ++ m ∷ []) e

going_down-more : (from n : ℕ) → going_down from (suc n) ≡ going_down from n ++ (from - n) ∷ []
going_down-more from zero = let e : from ≡ from - 0 = omega arith in ap (λ m. m ∷ []) e
going_down-more from (suc n) =
    let e : (from - 1) - n ≡ from - suc n = omega arith in
    ap (λ t. from ∷ t) (going_down-more (from - 1) n) ∙ ap (λ m. (from ∷ going_down (from - 1) n) ++ m ∷ []) e

-- the first so many indices of a range
abbrev pub first_indices : Range → ℕ → List ℕ
first_indices r n = if nat_le r.left r.right then going_up r.left n else going_down r.left n

more_by : (rises : Bool) (from n : ℕ) → cond rises (going_up from (suc n)) (going_down from (suc n)) ≡ cond rises (going_up from n) (going_down from n) ++ cond rises (from + n) (from - n) ∷ []
more_by true from n = going_up-more from n
more_by false from n = going_down-more from n

pub first_indices-more : (r : Range) (n : ℕ) → first_indices r (suc n) ≡ first_indices r n ++ index_at r n ∷ []
first_indices-more r n = more_by (nat_le r.left r.right) r.left n

up_width : (a b : ℕ) → leb a b ≡ true → suc (cond (leb b a) (a - b) (b - a)) ≡ suc (b - a)
up_width a b le = grind (arith, nat_tests)

down_width : (a b : ℕ) → leb a b ≡ false → suc (cond (leb b a) (a - b) (b - a)) ≡ suc (a - b)
down_width a b lt = grind (arith, nat_tests)

all_by : (rises : Bool) (a b : ℕ) → leb a b ≡ rises
    → cond rises (going_up a (suc (cond (leb b a) (a - b) (b - a)))) (going_down a (suc (cond (leb b a) (a - b) (b - a))))
    ≡ cond rises (going_up a (suc (b - a))) (going_down a (suc (a - b)))
all_by true a b h = ap (going_up a) (up_width a b h)
all_by false a b h = ap (going_down a) (down_width a b h)

pub first_indices-all : (r : Range) → first_indices r (width r) ≡ indices_of r
first_indices-all r = all_by (nat_le r.left r.right) r.left r.right refl

-- one name more
pub names_more : (word : List ℕ) (r : Range) (n : ℕ) → map (bit_name word) (first_indices r n) ++ bit_name word (index_at r n) ∷ [] ≡ map (bit_name word) (first_indices r (n + 1))
names_more word r n =
    sym (ap (λ m. map (bit_name word) (first_indices r m)) (add-one n) ∙ ap (map (bit_name word)) (first_indices-more r n)
    ∙ map-append (bit_name word) (first_indices r n) (index_at r n ∷ []))

-- ---- the bytes of a bit's name

-- the parts of a bit's name, put together one after another
pub bit_name-parts : (word digits : List ℕ) → ((word ++ 91 ∷ []) ++ digits) ++ 93 ∷ [] ≡ (word ++ (91 ∷ digits)) ++ 93 ∷ []
bit_name-parts word digits = ap (λ t. t ++ 93 ∷ []) (append_assoc word (91 ∷ []) digits)

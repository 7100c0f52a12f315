-- Lists of lists, cut; and maps over numbers.
use Rattle.std.proofs.Common.{◌≡◌, ℕ, zero, suc, ◌+◌, ◌*◌, ◌<◌, List, [], ◌∷◌, ◌++◌, map, flat_map, length, take, drop, refl, sym, ap, ap₂, ◌∙◌, append_assoc, length-append, arith}
use Rattle.std.specs.List.{All, range_with_len}
use Rattle.std.proofs.lemmas.List.{take_at, drop_at, drop-drop}
use Rattle.std.proofs.lemmas.List.Elements.{All-head, All-tail}
use Rattle.std.proofs.lemmas.List.FromFn.{map-range_with_len_more}

-- of lists of one length, one after another, each can be cut out
pub block_at : {X : Type 0} (f : ℕ → List X) (width : ℕ) → ((t : ℕ) → length (f t) ≡ width) → (from count t : ℕ) → t < count →
    take width (drop (t * width) (flat_map f (range_with_len from count))) ≡ f (from + t)
block_at f width wide from zero t less = absurd (omega arith)
block_at f width wide from (suc count) zero less =
    let rest = flat_map f (range_with_len (from + 1) count) in
    let none : 0 * width ≡ 0 = omega arith in
    let here : from ≡ from + 0 = omega arith in
    ap (λ (k : ℕ). take width (drop k (f from ++ rest))) none ∙ take_at (f from) rest width (wide from) ∙ ap f here
block_at f width wide from (suc count) (suc t) less =
    let rest = flat_map f (range_with_len (from + 1) count) in
    let more : suc t * width ≡ width + t * width = grind arith in
    let next : from + 1 + t ≡ from + suc t = omega arith in
    ap (λ (k : ℕ). take width (drop k (f from ++ rest))) more
    ∙ ap (take width) (sym (drop-drop (t * width) width (f from ++ rest)))
    ∙ ap (λ l. take width (drop (t * width) l)) (drop_at (f from) rest width (wide from))
    ∙ block_at f width wide (from + 1) count t (omega arith)
    ∙ ap f next

pub flat_length : {X : Type 0} (f : ℕ → List X) (width : ℕ) → ((t : ℕ) → length (f t) ≡ width) → (from count : ℕ) → length (flat_map f (range_with_len from count)) ≡ count * width
flat_length f width wide from zero = omega arith
flat_length f width wide from (suc count) =
    let more : suc count * width ≡ width + count * width = grind arith in
    omega (arith, more, wide from, length-append (f from) (flat_map f (range_with_len (from + 1) count)), flat_length f width wide (from + 1) count)

-- maps over numbers are the same where their functions are there
pub same_in_range : {X : Type 0} (f g : ℕ → X) (from count : ℕ) → ((t : ℕ) → t < from + count → f t ≡ g t) → map f (range_with_len from count) ≡ map g (range_with_len from count)
same_in_range f g from zero same = refl
same_in_range f g from (suc count) same = ap₂ (λ x l. x ∷ l) (same from (omega arith)) (same_in_range f g (from + 1) count (λ t less. same t (omega (arith, less))))

pub same_on : {X Y : Type 0} (P : X → Type 0) (f g : X → Y) → ((x : X) → P x → f x ≡ g x) → (xs : List X) → All P xs → map f xs ≡ map g xs
same_on P f g same [] all = refl
same_on P f g same (x ∷ xs) all = ap₂ (λ y l. y ∷ l) (same x (All-head P x xs all)) (same_on P f g same xs (All-tail P x xs all))

-- one item more of a list that grows by a function of numbers
pub grown : {X : Type 0} (f : ℕ → X) (old so_far new : List X) (k : ℕ) (x : X) → so_far ≡ old ++ map f (range_with_len 0 k) → new ≡ so_far ++ x ∷ [] → x ≡ f k → new ≡ old ++ map f (range_with_len 0 (k + 1))
grown {X} f old so_far new k x before more is =
    more ∙ (λ i. before i ++ is i ∷ []) ∙ append_assoc old (map f (range_with_len 0 k)) (f k ∷ []) ∙ ap (λ (l : List X). old ++ l) (sym (map-range_with_len_more f 0 k k (omega arith)))

-- four parts, one after another
pub four_more : {X : Type 0} (a b c d e x y z w ex ey ez ew : List X) → b ≡ a ++ x → c ≡ b ++ y → d ≡ c ++ z → e ≡ d ++ w → x ≡ ex → y ≡ ey → z ≡ ez → w ≡ ew → e ≡ a ++ (ex ++ (ey ++ (ez ++ ew)))
four_more {X} a b c d e x y z w ex ey ez ew hb hc hd he hx hy hz hw =
    he ∙ ap (λ (l : List X). l ++ w) (hd ∙ ap (λ (l : List X). l ++ z) (hc ∙ ap (λ (l : List X). l ++ y) hb))
    ∙ (λ i. (((a ++ hx i) ++ hy i) ++ hz i) ++ hw i)
    ∙ append_assoc ((a ++ ex) ++ ey) ez ew ∙ append_assoc (a ++ ex) ey (ez ++ ew) ∙ append_assoc a ex (ey ++ (ez ++ ew))

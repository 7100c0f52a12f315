-- Gates over three values: what all completions share, by the pair tables.
use Rattle.std.proofs.Common.{ℕ, Bool, true, false, not, List, [], ◌∷◌, ◌≡◌, ◌+◌, ◌-◌, ◌*◌, ◌^◌, ◌<◌, ◌≤◌, take, length, refl, ap, subst, ◌∙◌, drop, get_or, arith}
use Rattle.std.proofs.Math.Seq.{take-length}
use Rattle.std.proofs.lemmas.List.{drop_more}
use Rattle.std.proofs.Math.Nat.{pow-suc, one-le-pow, mul-le-mul_left}
use Rattle.dft_base.specs.declared.tri.Tri.{Tri}
use Rattle.dft_base.specs.declared.tri.Tri.TheVariants.{Zero, One, Unknown}
use Rattle.dft_base.specs.Tri.{known, join}
use Rattle.dft_cells.specs.Gates.{all_one, any_one, odd_ones, shared, bit_of, bit_of_number, number_of}
use Rattle.dft_cells.specs.Tables.{not_tri, and_tri, or_tri, xor_tri, mux_tri}
use Rattle.dft_cells.specs.declared.kind.Gate.TheVariants.{Buf, Inv, Mux2}

pub shared_same : (b : Bool) (ts : List Tri) → shared (λ bs. b) ts ≡ known b
shared_same b [] = refl
shared_same b (Zero ∷ ts) = shared_same b ts
shared_same b (One ∷ ts) = shared_same b ts
shared_same true (Unknown ∷ ts) = rw (shared_same true ts) refl
shared_same false (Unknown ∷ ts) = rw (shared_same false ts) refl

known_not : (b : Bool) → known (not b) ≡ not_tri (known b)
known_not true = refl
known_not false = refl

join_not : (a b : Tri) → join (not_tri a) (not_tri b) ≡ not_tri (join a b)
join_not Zero Zero = refl
join_not Zero One = refl
join_not Zero Unknown = refl
join_not One Zero = refl
join_not One One = refl
join_not One Unknown = refl
join_not Unknown Zero = refl
join_not Unknown One = refl
join_not Unknown Unknown = refl

-- an inverse goes through completions
pub shared_not : (f : List Bool → Bool) (ts : List Tri) → shared (λ bs. not (f bs)) ts ≡ not_tri (shared f ts)
shared_not f [] = known_not (f [])
shared_not f (Zero ∷ ts) = shared_not (λ bs. f (false ∷ bs)) ts
shared_not f (One ∷ ts) = shared_not (λ bs. f (true ∷ bs)) ts
shared_not f (Unknown ∷ ts) =
    rw (shared_not (λ bs. f (false ∷ bs)) ts, shared_not (λ bs. f (true ∷ bs)) ts) (join_not (shared (λ bs. f (false ∷ bs)) ts) (shared (λ bs. f (true ∷ bs)) ts))

join_zero : (t : Tri) → join Zero t ≡ and_tri Unknown t
join_zero Zero = refl
join_zero One = refl
join_zero Unknown = refl

join_one : (t : Tri) → join t One ≡ or_tri Unknown t
join_one Zero = refl
join_one One = refl
join_one Unknown = refl

join_inverse : (t : Tri) → join t (not_tri t) ≡ Unknown
join_inverse Zero = refl
join_inverse One = refl
join_inverse Unknown = refl

pub shared_and : (t : Tri) (ts : List Tri) → shared all_one (t ∷ ts) ≡ and_tri t (shared all_one ts)
shared_and Zero ts = shared_same false ts
shared_and One ts = refl
shared_and Unknown ts = ap (λ (x : Tri). join x (shared all_one ts)) (shared_same false ts) ∙ join_zero (shared all_one ts)

pub shared_or : (t : Tri) (ts : List Tri) → shared any_one (t ∷ ts) ≡ or_tri t (shared any_one ts)
shared_or One ts = shared_same true ts
shared_or Zero ts = refl
shared_or Unknown ts = ap (λ (x : Tri). join (shared any_one ts) x) (shared_same true ts) ∙ join_one (shared any_one ts)

pub shared_xor : (t : Tri) (ts : List Tri) → shared odd_ones (t ∷ ts) ≡ xor_tri t (shared odd_ones ts)
shared_xor Zero ts = refl
shared_xor One ts = shared_not odd_ones ts
shared_xor Unknown ts = ap (λ (x : Tri). join (shared odd_ones ts) x) (shared_not odd_ones ts) ∙ join_inverse (shared odd_ones ts)

and_assoc : (a b c : Tri) → and_tri a (and_tri b c) ≡ and_tri (and_tri a b) c
and_assoc Zero Zero Zero = refl
and_assoc Zero Zero One = refl
and_assoc Zero Zero Unknown = refl
and_assoc Zero One Zero = refl
and_assoc Zero One One = refl
and_assoc Zero One Unknown = refl
and_assoc Zero Unknown Zero = refl
and_assoc Zero Unknown One = refl
and_assoc Zero Unknown Unknown = refl
and_assoc One Zero Zero = refl
and_assoc One Zero One = refl
and_assoc One Zero Unknown = refl
and_assoc One One Zero = refl
and_assoc One One One = refl
and_assoc One One Unknown = refl
and_assoc One Unknown Zero = refl
and_assoc One Unknown One = refl
and_assoc One Unknown Unknown = refl
and_assoc Unknown Zero Zero = refl
and_assoc Unknown Zero One = refl
and_assoc Unknown Zero Unknown = refl
and_assoc Unknown One Zero = refl
and_assoc Unknown One One = refl
and_assoc Unknown One Unknown = refl
and_assoc Unknown Unknown Zero = refl
and_assoc Unknown Unknown One = refl
and_assoc Unknown Unknown Unknown = refl

-- one input more
pub and_step : (ts : List Tri) (i : ℕ) (d acc : Tri) → i < length ts → and_tri acc (shared all_one (drop i ts)) ≡ and_tri (and_tri acc (get_or ts i d)) (shared all_one (drop (i + 1) ts))
and_step ts i d acc less =
    ap (λ (l : List Tri). and_tri acc (shared all_one l)) (drop_more ts i d less)
    ∙ ap (λ (t : Tri). and_tri acc t) (shared_and (get_or ts i d) (drop (i + 1) ts))
    ∙ and_assoc acc (get_or ts i d) (shared all_one (drop (i + 1) ts))

or_assoc : (a b c : Tri) → or_tri a (or_tri b c) ≡ or_tri (or_tri a b) c
or_assoc Zero Zero Zero = refl
or_assoc Zero Zero One = refl
or_assoc Zero Zero Unknown = refl
or_assoc Zero One Zero = refl
or_assoc Zero One One = refl
or_assoc Zero One Unknown = refl
or_assoc Zero Unknown Zero = refl
or_assoc Zero Unknown One = refl
or_assoc Zero Unknown Unknown = refl
or_assoc One Zero Zero = refl
or_assoc One Zero One = refl
or_assoc One Zero Unknown = refl
or_assoc One One Zero = refl
or_assoc One One One = refl
or_assoc One One Unknown = refl
or_assoc One Unknown Zero = refl
or_assoc One Unknown One = refl
or_assoc One Unknown Unknown = refl
or_assoc Unknown Zero Zero = refl
or_assoc Unknown Zero One = refl
or_assoc Unknown Zero Unknown = refl
or_assoc Unknown One Zero = refl
or_assoc Unknown One One = refl
or_assoc Unknown One Unknown = refl
or_assoc Unknown Unknown Zero = refl
or_assoc Unknown Unknown One = refl
or_assoc Unknown Unknown Unknown = refl

-- one input more
pub or_step : (ts : List Tri) (i : ℕ) (d acc : Tri) → i < length ts → or_tri acc (shared any_one (drop i ts)) ≡ or_tri (or_tri acc (get_or ts i d)) (shared any_one (drop (i + 1) ts))
or_step ts i d acc less =
    ap (λ (l : List Tri). or_tri acc (shared any_one l)) (drop_more ts i d less)
    ∙ ap (λ (t : Tri). or_tri acc t) (shared_or (get_or ts i d) (drop (i + 1) ts))
    ∙ or_assoc acc (get_or ts i d) (shared any_one (drop (i + 1) ts))

xor_assoc : (a b c : Tri) → xor_tri a (xor_tri b c) ≡ xor_tri (xor_tri a b) c
xor_assoc Zero Zero Zero = refl
xor_assoc Zero Zero One = refl
xor_assoc Zero Zero Unknown = refl
xor_assoc Zero One Zero = refl
xor_assoc Zero One One = refl
xor_assoc Zero One Unknown = refl
xor_assoc Zero Unknown Zero = refl
xor_assoc Zero Unknown One = refl
xor_assoc Zero Unknown Unknown = refl
xor_assoc One Zero Zero = refl
xor_assoc One Zero One = refl
xor_assoc One Zero Unknown = refl
xor_assoc One One Zero = refl
xor_assoc One One One = refl
xor_assoc One One Unknown = refl
xor_assoc One Unknown Zero = refl
xor_assoc One Unknown One = refl
xor_assoc One Unknown Unknown = refl
xor_assoc Unknown Zero Zero = refl
xor_assoc Unknown Zero One = refl
xor_assoc Unknown Zero Unknown = refl
xor_assoc Unknown One Zero = refl
xor_assoc Unknown One One = refl
xor_assoc Unknown One Unknown = refl
xor_assoc Unknown Unknown Zero = refl
xor_assoc Unknown Unknown One = refl
xor_assoc Unknown Unknown Unknown = refl

-- one input more
pub xor_step : (ts : List Tri) (i : ℕ) (d acc : Tri) → i < length ts → xor_tri acc (shared odd_ones (drop i ts)) ≡ xor_tri (xor_tri acc (get_or ts i d)) (shared odd_ones (drop (i + 1) ts))
xor_step ts i d acc less =
    ap (λ (l : List Tri). xor_tri acc (shared odd_ones l)) (drop_more ts i d less)
    ∙ ap (λ (t : Tri). xor_tri acc t) (shared_xor (get_or ts i d) (drop (i + 1) ts))
    ∙ xor_assoc acc (get_or ts i d) (shared odd_ones (drop (i + 1) ts))

mux_three : (a b c : Tri) → mux_tri a b c ≡ shared (bit_of Mux2) (a ∷ b ∷ c ∷ [])
mux_three Zero Zero Zero = refl
mux_three Zero Zero One = refl
mux_three Zero Zero Unknown = refl
mux_three Zero One Zero = refl
mux_three Zero One One = refl
mux_three Zero One Unknown = refl
mux_three Zero Unknown Zero = refl
mux_three Zero Unknown One = refl
mux_three Zero Unknown Unknown = refl
mux_three One Zero Zero = refl
mux_three One Zero One = refl
mux_three One Zero Unknown = refl
mux_three One One Zero = refl
mux_three One One One = refl
mux_three One One Unknown = refl
mux_three One Unknown Zero = refl
mux_three One Unknown One = refl
mux_three One Unknown Unknown = refl
mux_three Unknown Zero Zero = refl
mux_three Unknown Zero One = refl
mux_three Unknown Zero Unknown = refl
mux_three Unknown One Zero = refl
mux_three Unknown One One = refl
mux_three Unknown One Unknown = refl
mux_three Unknown Unknown Zero = refl
mux_three Unknown Unknown One = refl
mux_three Unknown Unknown Unknown = refl

buf_one : (a : Tri) → a ≡ shared (bit_of Buf) (a ∷ [])
buf_one Zero = refl
buf_one One = refl
buf_one Unknown = refl

inv_one : (a : Tri) → not_tri a ≡ shared (bit_of Inv) (a ∷ [])
inv_one Zero = refl
inv_one One = refl
inv_one Unknown = refl

pub buf_shared : (ts : List Tri) (d : Tri) → length ts ≡ 1 → get_or ts 0 d ≡ shared (bit_of Buf) ts
buf_shared [] d one = absurd (omega arith)
buf_shared (a ∷ []) d one = buf_one a
buf_shared (a ∷ b ∷ ts) d one = absurd (omega arith)

pub inv_shared : (ts : List Tri) (d : Tri) → length ts ≡ 1 → not_tri (get_or ts 0 d) ≡ shared (bit_of Inv) ts
inv_shared [] d one = absurd (omega arith)
inv_shared (a ∷ []) d one = inv_one a
inv_shared (a ∷ b ∷ ts) d one = absurd (omega arith)

pub mux_shared : (ts : List Tri) (d e f : Tri) → length ts ≡ 3 → mux_tri (get_or ts 0 d) (get_or ts 1 e) (get_or ts 2 f) ≡ shared (bit_of Mux2) ts
mux_shared [] d e f three = absurd (omega arith)
mux_shared (a ∷ []) d e f three = absurd (omega arith)
mux_shared (a ∷ b ∷ []) d e f three = absurd (omega arith)
mux_shared (a ∷ b ∷ c ∷ []) d e f three = mux_three a b c
mux_shared (a ∷ b ∷ c ∷ x ∷ ts) d e f three = absurd (omega arith)

-- two functions that agree share the same
pub shared_equal : (f g : List Bool → Bool) (ts : List Tri) → ((bs : List Bool) → f bs ≡ g bs) → shared f ts ≡ shared g ts
shared_equal f g [] same = ap known (same [])
shared_equal f g (Zero ∷ ts) same = shared_equal (λ bs. f (false ∷ bs)) (λ bs. g (false ∷ bs)) ts (λ bs. same (false ∷ bs))
shared_equal f g (One ∷ ts) same = shared_equal (λ bs. f (true ∷ bs)) (λ bs. g (true ∷ bs)) ts (λ bs. same (true ∷ bs))
shared_equal f g (Unknown ∷ ts) same =
    rw (shared_equal (λ bs. f (false ∷ bs)) (λ bs. g (false ∷ bs)) ts (λ bs. same (false ∷ bs)), shared_equal (λ bs. f (true ∷ bs)) (λ bs. g (true ∷ bs)) ts (λ bs. same (true ∷ bs)))

abbrev pub TableAt : ℕ → ℕ → ℕ → List Bool → Bool
TableAt table place weight bits = bit_of_number table (place + weight * number_of bits)

-- an unknown input of a table
pub table_unknown : (table place weight : ℕ) (ts : List Tri) → join (shared (λ bits. bit_of_number table (place + (2 * weight) * number_of bits)) ts) (shared (λ bits. bit_of_number table ((place + weight) + (2 * weight) * number_of bits)) ts) ≡ shared (λ bits. bit_of_number table (place + weight * number_of bits)) (Unknown ∷ ts)
table_unknown table place weight ts =
    rw (
      shared_equal (TableAt table place (2 * weight)) (λ bs. TableAt table place weight (false ∷ bs)) ts (λ bs. ap (bit_of_number table) (omega arith)),
      shared_equal (TableAt table (place + weight) (2 * weight)) (λ bs. TableAt table place weight (true ∷ bs)) ts (λ bs. ap (bit_of_number table) (omega arith)),
    )

-- what stands behind the first element
behind : (t : Tri) (ts : List Tri) → take (length (t ∷ ts) - 1) (drop 1 (t ∷ ts)) ≡ ts
behind t ts = let e : length (t ∷ ts) - 1 ≡ length ts = omega arith in ap (λ (n : ℕ). take n ts) e ∙ take-length ts

pub narrow : (place place' weight half : ℕ) → 1 ≤ half → place' ≤ place + weight → place + weight * (half * 2) < 64 + weight
    → (place' + (2 * weight) * half < 64 + 2 * weight) × (2 * weight < 128)
narrow place place' weight half some near small =
    let one : weight * 1 ≤ weight * half = mul-le-mul_left weight some in
    (omega arith, omega arith)

-- the rest of a table's inputs takes at most the places that are left
pub narrower : (ts : List Tri) (place place' weight : ℕ) → 1 ≤ length ts → place' ≤ place + weight → place + weight * 2 ^ length ts < 64 + weight
    → (place' + (2 * weight) * 2 ^ length (take (length ts - 1) (drop 1 ts)) < 64 + 2 * weight) × (2 * weight < 128)
narrower [] place place' weight some near small = absurd (omega arith)
narrower (t ∷ ts) place place' weight some near small =
    let halved : place + weight * (2 ^ length ts * 2) < 64 + weight = subst (λ (n : ℕ). place + weight * n < 64 + weight) (pow-suc 2 (length ts)) small in
    rw (behind t ts) (narrow place place' weight (2 ^ length ts) (one-le-pow (length ts) 2 (omega arith)) near halved)

-- a list by its first element and the rest
pub head_rest : (ts : List Tri) (d u : Tri) → 1 ≤ length ts → get_or ts 0 d ≡ u → ts ≡ u ∷ take (length ts - 1) (drop 1 ts)
head_rest [] d u some e = absurd (omega arith)
head_rest (t ∷ ts) d u some e = rw (behind t ts) (ap (λ (x : Tri). x ∷ ts) e)

-- The equations that rows began from: each row is a sum of them, and a table solves them where it meets the rows.
use Rattle.std.proofs.Common.{ℕ, zero, suc, Bool, true, false, List, [], ◌∷◌, ◌++◌, ◌≡◌, ◌+◌, ◌<◌, ◌≤◌, length, set, refl, sym, ap, arith, ◌∙◌, ◌⊎◌, inl, inr, subst}
use Rattle.std.specs.Prelude.{◌&&◌}
use Rattle.std.proofs.lemmas.Bool.{cases_lt}
use Rattle.std.proofs.lemmas.List.{get_or_append_left, get_or_push, length_push, ext_get_or}
use Rattle.dft_base.specs.Solutions.{xor, sum_to, bit_at, Equation, equation_at, sum_over, Holds, Solves, odd_at, odd_bits}
use Rattle.dft_base.proofs.SumLemmas.{sum_same}
use Rattle.dft_gf2.specs.Rows.{row_at, IsSumRow, Means, bits_to, restored, kept_to}
use Rattle.dft_gf2.specs.declared.row.Row.{Row}
use Rattle.dft_gf2.proofs.Sums.{xor_back, xor_cancel, sum_add_left, sum_over_sum}
use Rattle.dft_gf2.proofs.Echelons.{IsMet}

-- whether an odd number of the picked equations pass the test
abbrev pub odd : (ℕ → Bool) → (Equation → Bool) → List Equation → Bool
odd p f es = sum_to (length es) (λ j. p j && f (equation_at es j))

pub push_at : (es : List Equation) (e : Equation) (j : ℕ) → j < length es → equation_at (es ++ e ∷ []) j ≡ equation_at es j
push_at es e j less = get_or_append_left es (e ∷ []) _ j less

pub odd_push : (p : ℕ → Bool) (f : Equation → Bool) (es : List Equation) (e : Equation) → odd p f (es ++ e ∷ []) ≡ xor (p (length es) && f e) (odd p f es)
odd_push p f es e =
    let size : length (es ++ e ∷ []) ≡ suc (length es) = length_push es e ∙ omega arith in
    ap (λ m. sum_to m (λ j. p j && f (equation_at (es ++ e ∷ []) j))) size
    ∙ (λ t. xor (p (length es) && f (get_or_push es e (record { row = []; bit = false; id = 0 }) (length es) refl t))
    (sum_same (length es) (λ j. p j && f (equation_at (es ++ e ∷ []) j)) (λ j. p j && f (equation_at es j))
    (λ j less. ap (λ (d : Equation). p j && f d) (push_at es e j less)) t))

-- only the picks at places of the list count
pub odd_same : (p q : ℕ → Bool) (f : Equation → Bool) (es : List Equation) → ((j : ℕ) → j < length es → p j ≡ q j) → odd p f es ≡ odd q f es
odd_same p q f es same = sum_same (length es) (λ j. p j && f (equation_at es j)) (λ j. q j && f (equation_at es j)) (λ j less. ap (λ (b : Bool). b && f (equation_at es j)) (same j less))

pub solves_push : (n : ℕ) (x : ℕ → Bool) (es : List Equation) (e : Equation) → Solves n x es → Holds n x e → Solves n x (es ++ e ∷ [])
solves_push n x es e all one j less = at (cases_lt j (length es)) where
  at : (j < length es) ⊎ (length es ≤ j) → Holds n x (equation_at (es ++ e ∷ []) j)
  at (inl before) = let same = push_at es e j before in rw same (all j before)
  at (inr past) =
      let size = length_push es e in
      let last : length es ≡ j = omega arith in
      let same : equation_at (es ++ e ∷ []) j ≡ e = get_or_push es e _ j last in rw same one

pub solves_front : (n : ℕ) (x : ℕ → Bool) (es : List Equation) (e : Equation) → Solves n x (es ++ e ∷ []) → Solves n x es
solves_front n x es e all j less =
    let size = length_push es e in
    let same = push_at es e j less in
    rw same at (all j (omega arith))

pub solves_last : (n : ℕ) (x : ℕ → Bool) (es : List Equation) (e : Equation) → Solves n x (es ++ e ∷ []) → Holds n x e
solves_last n x es e all =
    let size = length_push es e in
    let same : equation_at (es ++ e ∷ []) (length es) ≡ e = get_or_push es e _ (length es) refl in
    rw same at (all (length es) (omega arith))

pub length_bits : (n : ℕ) (f : ℕ → Bool) → length (bits_to n f) ≡ n
unfolding bits_to
length_bits zero f = refl
length_bits (suc n) f = let size = length_push (bits_to n f) (f n) in let ih = length_bits n f in omega arith

bits_push : (n : ℕ) (f : ℕ → Bool) (bits : List Bool) → length bits ≡ n → (c : ℕ) → c < suc n → (c < n → bit_at bits c ≡ f c) → bit_at (bits ++ f n ∷ []) c ≡ f c
bits_push n f bits size c less before = at (cases_lt c n) where
  at : (c < n) ⊎ (n ≤ c) → bit_at (bits ++ f n ∷ []) c ≡ f c
  at (inl under) = get_or_append_left bits (f n ∷ []) false c (omega arith) ∙ before under
  at (inr past) = (let same : n ≡ c = omega arith in get_or_push bits (f n) false c (size ∙ same) ∙ ap f same)

pub bits_at : (n : ℕ) (f : ℕ → Bool) (c : ℕ) → c < n → bit_at (bits_to n f) c ≡ f c
unfolding bits_to
bits_at zero f c less = absurd (omega arith)
bits_at (suc n) f c less = bits_push n f (bits_to n f) (length_bits n f) c less (bits_at n f c)

pub restored_means : (n : ℕ) (kept : List Equation) (row : Row) → Means n kept row (restored n kept row).row (restored n kept row).bit
unfolding restored
restored_means n kept row = (λ c less. bits_at n (λ c. xor (bit_at row.set c) (odd_at (bit_at row.sums) kept c)) c less, refl)

-- a row that means this equation restores it
pub restored_is : (n : ℕ) (kept : List Equation) (row : Row) (set : List Bool) (bit : Bool) (id : ℕ) → length set ≡ n → Means n kept row set bit → row.id ≡ id →
    restored n kept row ≡ record { row = set; bit = bit; id = id }
unfolding restored
restored_is n kept row set bit id size means same =
    let f : ℕ → Bool = λ c. xor (bit_at row.set c) (odd_at (bit_at row.sums) kept c) in
    let rows : bits_to n f ≡ set =
    ext_get_or false (bits_to n f) set (length_bits n f ∙ sym size)
    (λ c less. (let long = length_bits n f in bits_at n f c (omega arith)) ∙ sym (means.0 c (let long = length_bits n f in omega arith)))
    in λ t. record { row = rows t; bit = sym means.1 t; id = same t }

pub length_kept : (n : ℕ) (rows : List Row) (k : ℕ) → length (kept_to n rows k) ≡ k
unfolding kept_to
length_kept n rows zero = refl
length_kept n rows (suc k) =
    let size = length_push (kept_to n rows k) (restored n (kept_to n rows k) (row_at rows k)) in
    let ih = length_kept n rows k in omega arith

pub kept_same : (n : ℕ) (rows others : List Row) (k : ℕ) → ((i : ℕ) → i < k → row_at rows i ≡ row_at others i) → kept_to n rows k ≡ kept_to n others k
unfolding kept_to
kept_same n rows others zero same = refl
kept_same n rows others (suc k) same =
    let ih : kept_to n rows k ≡ kept_to n others k = kept_same n rows others k (λ i less. same i (omega arith)) in
    λ t. ih t ++ restored n (ih t) (same k (omega arith) t) ∷ []

pub kept_more : (n : ℕ) (rows : List Row) (k : ℕ) → kept_to n rows (k + 1) ≡ kept_to n rows k ++ restored n (kept_to n rows k) (row_at rows k) ∷ []
unfolding kept_to
kept_more n rows k = let next : k + 1 ≡ suc k = omega arith in ap (kept_to n rows) next

-- the sum over a sum of kept sets is the sum of their bits
pub sum_picked : (n : ℕ) (kept : List Equation) (p x : ℕ → Bool) → Solves n x kept → sum_to n (λ c. odd_at p kept c && x c) ≡ odd_bits p kept
sum_picked n kept p x solves =
    sum_over_sum n (length kept) p (λ j c. bit_at (equation_at kept j).row c) x
    ∙ sum_same (length kept) (λ j. p j && sum_over n (equation_at kept j).row x) (λ j. p j && (equation_at kept j).bit) (λ j less. ap (λ (b : Bool). p j && b) (solves j less))

-- the sum of a set that a row means, at a table that solves the kept equations
pub sum_meant : (n : ℕ) (kept : List Equation) (row : Row) (set : List Bool) (x : ℕ → Bool) →
    ((c : ℕ) → c < n → bit_at set c ≡ xor (bit_at row.set c) (odd_at (bit_at row.sums) kept c)) → Solves n x kept →
    sum_over n set x ≡ xor (sum_over n row.set x) (odd_bits (bit_at row.sums) kept)
sum_meant n kept row set x means solves =
    sum_same n (λ c. bit_at set c && x c) (λ c. (xor (bit_at row.set c) (odd_at (bit_at row.sums) kept c)) && x c) (λ c less. ap (λ (b : Bool). b && x c) (means c less))
    ∙ sum_add_left n (bit_at row.set) (odd_at (bit_at row.sums) kept) x
    ∙ ap (xor (sum_over n row.set x)) (sum_picked n kept (bit_at row.sums) x solves)

meant_from_met : (n : ℕ) (kept : List Equation) (row : Row) (set : List Bool) (bit : Bool) (x : ℕ → Bool) → Means n kept row set bit → Solves n x kept → IsMet n x row → sum_over n set x ≡ bit
meant_from_met n kept row set bit x means solves met =
    sum_meant n kept row set x means.0 solves ∙ ap (λ (b : Bool). xor b (odd_bits (bit_at row.sums) kept)) met ∙ sym means.1

met_from_meant : (n : ℕ) (kept : List Equation) (row : Row) (set : List Bool) (bit : Bool) (x : ℕ → Bool) → Means n kept row set bit → Solves n x kept → sum_over n set x ≡ bit → IsMet n x row
met_from_meant n kept row set bit x means solves holds =
    xor_cancel (sum_over n row.set x) (odd_bits (bit_at row.sums) kept) row.bit (sym (sum_meant n kept row set x means.0 solves) ∙ holds ∙ means.1)

-- a table that meets the rows solves the equations
pub kept_solved : (n : ℕ) (rows : List Row) (k : ℕ) (x : ℕ → Bool) → ((i : ℕ) → i < k → IsMet n x (row_at rows i)) → Solves n x (kept_to n rows k)
unfolding kept_to
kept_solved n rows zero x met = λ j less. absurd (omega arith)
kept_solved n rows (suc k) x met =
    let ih : Solves n x (kept_to n rows k) = kept_solved n rows k x (λ i less. met i (omega arith)) in
    solves_push n x (kept_to n rows k) (restored n (kept_to n rows k) (row_at rows k)) ih
    (meant_from_met n (kept_to n rows k) (row_at rows k) _ _ x (restored_means n (kept_to n rows k) (row_at rows k)) ih (met k (omega arith)))

row_met_last : (n : ℕ) (kept : List Equation) (row : Row) (x : ℕ → Bool) → Solves n x (kept ++ restored n kept row ∷ []) → IsMet n x row
row_met_last n kept row x solves =
    met_from_meant n kept row _ _ x (restored_means n kept row) (solves_front n x kept (restored n kept row) solves) (solves_last n x kept (restored n kept row) solves)

-- what holds of the rows before k, and of the row k
all_below : (P : Row → Type 0) (rows : List Row) (k i : ℕ) → i < suc k → (i < k → P (row_at rows i)) → P (row_at rows k) → P (row_at rows i)
all_below P rows k i less before last = at (cases_lt i k) where
  at : (i < k) ⊎ (k ≤ i) → P (row_at rows i)
  at (inl under) = before under
  at (inr past) = let same : k ≡ i = omega arith in subst (λ (m : ℕ). P (row_at rows m)) same last

-- a table that solves the equations meets the rows
pub rows_met : (n : ℕ) (rows : List Row) (k : ℕ) (x : ℕ → Bool) → Solves n x (kept_to n rows k) → (i : ℕ) → i < k → IsMet n x (row_at rows i)
unfolding kept_to
rows_met n rows zero x solves i less = absurd (omega arith)
rows_met n rows (suc k) x solves i less =
    all_below (IsMet n x) rows k i less
    (rows_met n rows k x (solves_front n x (kept_to n rows k) (restored n (kept_to n rows k) (row_at rows k)) solves) i)
    (row_met_last n (kept_to n rows k) (row_at rows k) x solves)

-- one equation more after a row that does not name it
sum_row_more : (n k : ℕ) (kept : List Equation) (e : Equation) (row : Row) → length kept ≡ k → bit_at row.sums k ≡ false → IsSumRow n kept row → IsSumRow n (kept ++ e ∷ []) row
sum_row_more n k kept e row size free sum = (λ c less. sum.0 c less ∙ sym (same (λ (d : Equation). bit_at d.row c)), sum.1 ∙ sym (same (λ (d : Equation). d.bit))) where
  same : (f : Equation → Bool) → odd (bit_at row.sums) f (kept ++ e ∷ []) ≡ odd (bit_at row.sums) f kept
  same f = odd_push (bit_at row.sums) f kept e ∙ ap (λ (b : Bool). xor (b && f e) (odd (bit_at row.sums) f kept)) (ap (bit_at row.sums) size ∙ free)

-- the row's own equation
sum_row_own : (n k : ℕ) (kept : List Equation) (e : Equation) (row : Row) → length kept ≡ k → bit_at row.sums k ≡ true → Means n kept row e.row e.bit → IsSumRow n (kept ++ e ∷ []) row
sum_row_own n k kept e row size own means = (
  λ c less. sym (both (λ (d : Equation). bit_at d.row c) ∙ ap (λ (b : Bool). xor b (odd_at (bit_at row.sums) kept c)) (means.0 c less) ∙ xor_back (bit_at row.set c) (odd_at (bit_at row.sums) kept c)),
  sym (both (λ (d : Equation). d.bit) ∙ ap (λ (b : Bool). xor b (odd_bits (bit_at row.sums) kept)) means.1 ∙ xor_back row.bit (odd_bits (bit_at row.sums) kept)),
) where
  both : (f : Equation → Bool) → odd (bit_at row.sums) f (kept ++ e ∷ []) ≡ xor (f e) (odd (bit_at row.sums) f kept)
  both f = odd_push (bit_at row.sums) f kept e ∙ ap (λ (b : Bool). xor (b && f e) (odd (bit_at row.sums) f kept)) (ap (bit_at row.sums) size ∙ own)

-- each row is the sum of the equations that it names
pub rows_sum : (n : ℕ) (rows : List Row) (k : ℕ) → ((i : ℕ) → i < k → bit_at (row_at rows i).sums i ≡ true) → ((i j : ℕ) → i < k → i < j → bit_at (row_at rows i).sums j ≡ false) →
    (i : ℕ) → i < k → IsSumRow n (kept_to n rows k) (row_at rows i)
unfolding kept_to
rows_sum n rows zero own later i less = absurd (omega arith)
rows_sum n rows (suc k) own later i less =
    let kept = kept_to n rows k in
    let e = restored n kept (row_at rows k) in
    all_below (IsSumRow n (kept ++ e ∷ [])) rows k i less
    (λ under. sum_row_more n k kept e (row_at rows i) (length_kept n rows k) (later i k less under)
    (rows_sum n rows k (λ j h. own j (omega arith)) (λ j m h. later j m (omega arith)) i under))
    (sum_row_own n k kept e (row_at rows k) (length_kept n rows k) (own k (omega arith)) (restored_means n kept (row_at rows k)))

pub restored_id : (n : ℕ) (kept : List Equation) (row : Row) → (restored n kept row).id ≡ row.id
unfolding restored
restored_id n kept row = refl

push_id : (kept : List Equation) (e : Equation) (k j id : ℕ) → length kept ≡ k → j < suc k → (j < k → (equation_at kept j).id ≡ id) → (k ≡ j → e.id ≡ id) → (equation_at (kept ++ e ∷ []) j).id ≡ id
push_id kept e k j id size less before last = at (cases_lt j k) where
  at : (j < k) ⊎ (k ≤ j) → (equation_at (kept ++ e ∷ []) j).id ≡ id
  at (inl under) = ap (λ (d : Equation). d.id) (push_at kept e j (omega arith)) ∙ before under
  at (inr past) = let same : k ≡ j = omega arith in ap (λ (d : Equation). d.id) (get_or_push kept e (record { row = []; bit = false; id = 0 }) j (size ∙ same)) ∙ last same

-- an equation has the id of the row that it began
pub kept_id : (n : ℕ) (rows : List Row) (k j : ℕ) → j < k → (equation_at (kept_to n rows k) j).id ≡ (row_at rows j).id
unfolding kept_to
kept_id n rows zero j less = absurd (omega arith)
kept_id n rows (suc k) j less =
    let kept = kept_to n rows k in
    let e = restored n kept (row_at rows k) in
    push_id (kept_to n rows k) e k j (row_at rows j).id (length_kept n rows k) less (kept_id n rows k j)
    (λ same. restored_id n kept (row_at rows k) ∙ ap (λ (m : ℕ). (row_at rows m).id) same)

-- A stated certificate: its positions differ, no column is in an odd number of their equations, and their bits sum to 1.
use Rattle.std.proofs.Common.{ℕ, zero, suc, ◌+◌, ◌<◌, ◌≡◌, Bool, true, false, cond, List, [], ◌∷◌, ◌++◌, length, Option, None, Some, slice_get, unwrap_or, refl, sym, ap, subst, arith, ◌∙◌, ◌⊎◌, inl, inr}
use Rattle.std.specs.Prelude.{◌&&◌}
use Rattle.std.proofs.lemmas.Bool.{cases_lt}
use Rattle.std.proofs.lemmas.List.{length-append, append-nil}
use Rattle.std.proofs.lemmas.Option.{none-some, same_Some}
use Rattle.dft_base.specs.Solutions.{Equation, Contradicts, IsSum, StatesFrom, bit_at, equation_at, ids_to, odd_at, odd_bits, sum_to, xor}
use Rattle.dft_base.proofs.SumLemmas.{sum_same, xor_false, xor_assoc, xor_comm}
use Rattle.dft_netlist.specs.declared.ids.InstanceId.{InstanceId}
use Rattle.dft_gf2.proofs.Restorations.{sum_picked, push_at}
use Rattle.dft_gf2.proofs.Sums.{xor_self}
use Rattle.dft_merge.specs.Placement.{equations_from, equations_of}
use Rattle.dft_merge.specs.Rows.{CellRows}
use Rattle.dft_merge.specs.Systems.{IsSystem, IsKept}
use Rattle.dft_merge.proofs.SystemLemmas.{system_none, system_solvable, system_taken}
use Rattle.dft_cube_reports.proofs.LineLemmas.{Below, both_below, if_below}

-- ---- sums over positions

abbrev pub odd_ids : (ℕ → Bool) → List ℕ → Bool
odd_ids f [] = false
odd_ids f (id ∷ ids) = xor (f id) (odd_ids f ids)

odd_append : (f : ℕ → Bool) (xs ys : List ℕ) → odd_ids f (xs ++ ys) ≡ xor (odd_ids f xs) (odd_ids f ys)
odd_append f [] ys = refl
odd_append f (x ∷ xs) ys = ap (xor (f x)) (odd_append f xs ys) ∙ sym (xor_assoc (f x) (odd_ids f xs) (odd_ids f ys))

one_picked : (f : ℕ → Bool) (t : Bool) (id : ℕ) → odd_ids f (cond t (id ∷ []) []) ≡ (t && f id)
one_picked f true id = xor_false (f id)
one_picked f false id = refl

odd_picked : (f : ℕ → Bool) (m : ℕ) (picks : ℕ → Bool) (es : List Equation) → odd_ids f (ids_to m picks es) ≡ sum_to m (λ j. picks j && f (equation_at es j).id)
odd_picked f zero picks es = refl
odd_picked f (suc m) picks es =
    odd_append f (ids_to m picks es) (cond (picks m) ((equation_at es m).id ∷ []) [])
    ∙ (λ i. xor (odd_picked f m picks es i) (one_picked f (picks m) (equation_at es m).id i))
    ∙ xor_comm (sum_to m (λ j. picks j && f (equation_at es j).id)) (picks m && f (equation_at es m).id)

-- ---- positions that differ

pub Differ : List ℕ → Type 0
Differ [] = Unit {0}
Differ (x ∷ xs) = ((k : ℕ) → slice_get xs k ≡ Some x → ⊥) × Differ xs

below_ids : (b m : ℕ) (picks : ℕ → Bool) (es : List Equation) → ((j : ℕ) → j < m → (equation_at es j).id < b) → Below b (ids_to m picks es)
below_ids b zero picks es under = tt
below_ids b (suc m) picks es under =
    both_below b (ids_to m picks es) (cond (picks m) ((equation_at es m).id ∷ []) []) (below_ids b m picks es (λ j less. under j (omega (arith, less)))) (if_below b (equation_at es m).id (picks m) (under m (omega arith)))

first_push : (x y : ℕ) (xs : List ℕ) (k : ℕ) → x < y → ((j : ℕ) → slice_get xs j ≡ Some x → ⊥) → slice_get (xs ++ y ∷ []) k ≡ Some x → ⊥
first_push x y [] zero less none at = (let same = same_Some y x at in omega (arith, less, same))
first_push x y [] (suc k) less none at = none-some x at
first_push x y (z ∷ xs) zero less none at = none zero at
first_push x y (z ∷ xs) (suc k) less none at = first_push x y xs k less (λ j there. none (suc j) there) at

differ_push : (y : ℕ) (xs : List ℕ) → Below y xs → Differ xs → Differ (xs ++ y ∷ [])
unfolding Differ
differ_push y [] below differ = ((λ k at. none-some y at), tt)
differ_push y (x ∷ xs) below differ = ((λ k at. first_push x y xs k below.0 differ.0 at), differ_push y xs below.1 differ.1)

differ_one : (t : Bool) (y : ℕ) (xs : List ℕ) → Below y xs → Differ xs → Differ (xs ++ cond t (y ∷ []) [])
differ_one true y xs below differ = differ_push y xs below differ
differ_one false y xs below differ = subst Differ (sym (append-nil xs)) differ

differ_ids : (m : ℕ) (picks : ℕ → Bool) (es : List Equation) → ((i j : ℕ) → i < j → j < m → (equation_at es i).id < (equation_at es j).id) → Differ (ids_to m picks es)
unfolding Differ
differ_ids zero picks es rise = tt
differ_ids (suc m) picks es rise =
    differ_one (picks m) (equation_at es m).id (ids_to m picks es) (below_ids (equation_at es m).id m picks es (λ j less. rise j m less (omega arith)))
    (differ_ids m picks es (λ i j less under. rise i j less (omega (arith, under))))

pub differ_same : (xs : List ℕ) (j k x : ℕ) → Differ xs → slice_get xs j ≡ Some x → slice_get xs k ≡ Some x → j ≡ k
unfolding Differ
differ_same [] j k x differ at_j at_k = absurd (none-some x at_j)
differ_same (y ∷ xs) zero zero x differ at_j at_k = refl
differ_same (y ∷ xs) zero (suc k) x differ at_j at_k = absurd (differ.0 k (at_k ∙ sym at_j))
differ_same (y ∷ xs) (suc j) zero x differ at_j at_k = absurd (differ.0 j (at_j ∙ sym at_k))
differ_same (y ∷ xs) (suc j) (suc k) x differ at_j at_k = ap suc (differ_same xs j k x differ.1 at_j at_k)

-- ---- what positions stand for

abbrev pub bit_of_cell : Option (InstanceId × Bool) → Bool
bit_of_cell None = false
bit_of_cell (Some given) = given.1

abbrev pub row_of_cell : CellRows → Option (InstanceId × Bool) → List Bool
row_of_cell row None = []
row_of_cell row (Some given) = unwrap_or (row given.0) []

-- the equation is that of the cell at its position
record IsAt (row : CellRows) (cells : List (InstanceId × Bool)) (e : Equation) : Type 0 where
  row_is : e.row ≡ row_of_cell row (slice_get cells e.id)
  bit_is : e.bit ≡ bit_of_cell (slice_get cells e.id)

-- kept equations are of cells before a position, in their order, and are independent
record Known (m : ℕ) (row : CellRows) (cells : List (InstanceId × Bool)) (kept : List Equation) (from : ℕ) : Type 0 where
  each : (j : ℕ) → j < length kept → IsAt row cells (equation_at kept j)
  under : (j : ℕ) → j < length kept → (equation_at kept j).id < from
  rise : (i j : ℕ) → i < j → j < length kept → (equation_at kept i).id < (equation_at kept j).id
  system : IsSystem m kept (record { columns = m; kept = kept; refused = None })

-- ---- one more

at_end : (kept : List Equation) (e : Equation) → equation_at (kept ++ e ∷ []) (length kept) ≡ e
at_end [] e = refl
at_end (x ∷ kept) e = at_end kept e

place_split : (j l : ℕ) → j < l + 1 → (j < l) ⊎ (j ≡ l)
place_split j l less = elim (cases_lt j l) [ inl under ↦ inl under | inr past ↦ inr (omega (arith, less, past)) ]

size_push : (kept : List Equation) (e : Equation) (j : ℕ) → j < length (kept ++ e ∷ []) → j < length kept + 1
size_push kept e j less = (let size = length-append kept (e ∷ []) in omega (arith, less, size))

xor_apart : (a b : Bool) → (a ≡ b → ⊥) → xor a b ≡ true
xor_apart true true apart = absurd (apart refl)
xor_apart true false apart = refl
xor_apart false true apart = refl
xor_apart false false apart = absurd (apart refl)

-- the positions differ, no column is in an odd number of their rows, and their bits sum to 1
pub record IsGood (m : ℕ) (row : CellRows) (cells : List (InstanceId × Bool)) (ids : List ℕ) : Type 0 where
  pub differ : Differ ids
  pub even : (c : ℕ) → c < m → odd_ids (λ p. bit_at (row_of_cell row (slice_get cells p)) c) ids ≡ false
  pub odd : odd_ids (λ p. bit_of_cell (slice_get cells p)) ids ≡ true

module _ (m : ℕ) (row : CellRows) (cells : List (InstanceId × Bool)) where
  known_none : Known m row cells [] zero
  known_none = record {
    each = λ j less. absurd (omega (arith, less));
    under = λ j less. absurd (omega (arith, less));
    rise = λ i j low less. absurd (omega (arith, less));
    system = system_none m (record { columns = m; kept = []; refused = None }) refl refl;
  }

  known_later : (kept : List Equation) (from : ℕ) → Known m row cells kept from → Known m row cells kept (suc from)
  known_later kept from k = record { each = k.each; under = λ j less. (let u = k.under j less in omega (arith, u)); rise = k.rise; system = k.system }

  each_push : (kept : List Equation) (e : Equation) (from j : ℕ) → Known m row cells kept from → IsAt row cells e → (j < length kept) ⊎ (j ≡ length kept) → IsAt row cells (equation_at (kept ++ e ∷ []) j)
  each_push kept e from j k is (inl less) = subst (IsAt row cells) (sym (push_at kept e j less)) (k.each j less)
  each_push kept e from j k is (inr same) = subst (IsAt row cells) (sym (ap (equation_at (kept ++ e ∷ [])) same ∙ at_end kept e)) is

  under_push : (kept : List Equation) (e : Equation) (from j : ℕ) → Known m row cells kept from → e.id ≡ from → (j < length kept) ⊎ (j ≡ length kept) → (equation_at (kept ++ e ∷ []) j).id < suc from
  under_push kept e from j k id (inl less) = (let u = k.under j less in let same = ap (λ (x : Equation). x.id) (push_at kept e j less) in omega (arith, u, same))
  under_push kept e from j k id (inr same) = (let at = ap (λ (x : Equation). x.id) (ap (equation_at (kept ++ e ∷ [])) same ∙ at_end kept e) in omega (arith, at, id))

  rise_push : (kept : List Equation) (e : Equation) (from i j : ℕ) → Known m row cells kept from → e.id ≡ from → i < j → (j < length kept) ⊎ (j ≡ length kept) → (equation_at (kept ++ e ∷ []) i).id < (equation_at (kept ++ e ∷ []) j).id
  rise_push kept e from i j k id low (inl less) =
      (let r = k.rise i j low less in let one = ap (λ (x : Equation). x.id) (push_at kept e i (omega (arith, low, less))) in let two = ap (λ (x : Equation). x.id) (push_at kept e j less) in omega (arith, r, one, two))
  rise_push kept e from i j k id low (inr same) =
      (let u = k.under i (omega (arith, low, same)) in let one = ap (λ (x : Equation). x.id) (push_at kept e i (omega (arith, low, same))) in
      let two = ap (λ (x : Equation). x.id) (ap (equation_at (kept ++ e ∷ [])) same ∙ at_end kept e) in omega (arith, u, one, two, id))

  known_push : (kept : List Equation) (e : Equation) (from : ℕ) → Known m row cells kept from → IsAt row cells e → e.id ≡ from → length e.row ≡ m → (IsSum m kept e.row → ⊥) → Known m row cells (kept ++ e ∷ []) (suc from)
  known_push kept e from k is id wide free = record {
    each = λ j less. each_push kept e from j k is (place_split j (length kept) (size_push kept e j less));
    under = λ j less. under_push kept e from j k id (place_split j (length kept) (size_push kept e j less));
    rise = λ i j low less. rise_push kept e from i j k id low (place_split j (length kept) (size_push kept e j less));
    system = system_taken m kept e (record { columns = m; kept = kept; refused = None }) (record { columns = m; kept = kept ++ e ∷ []; refused = None }) k.system refl wide (IsKept free);
  }

  -- ---- the certificate

  rows_sum : (kept : List Equation) (from : ℕ) (picks : ℕ → Bool) (c : ℕ) → Known m row cells kept from → odd_ids (λ p. bit_at (row_of_cell row (slice_get cells p)) c) (ids_to (length kept) picks kept) ≡ odd_at picks kept c
  rows_sum kept from picks c k =
      odd_picked (λ p. bit_at (row_of_cell row (slice_get cells p)) c) (length kept) picks kept
      ∙ sum_same (length kept) (λ j. picks j && bit_at (row_of_cell row (slice_get cells (equation_at kept j).id)) c) (λ j. picks j && bit_at (equation_at kept j).row c)
      (λ j less. ap (λ (r : List Bool). picks j && bit_at r c) (sym (k.each j less).row_is))

  bits_sum : (kept : List Equation) (from : ℕ) (picks : ℕ → Bool) → Known m row cells kept from → odd_ids (λ p. bit_of_cell (slice_get cells p)) (ids_to (length kept) picks kept) ≡ odd_bits picks kept
  bits_sum kept from picks k =
      odd_picked (λ p. bit_of_cell (slice_get cells p)) (length kept) picks kept
      ∙ sum_same (length kept) (λ j. picks j && bit_of_cell (slice_get cells (equation_at kept j).id)) (λ j. picks j && (equation_at kept j).bit) (λ j less. ap (λ (b : Bool). picks j && b) (sym (k.each j less).bit_is))

  -- the bit is not that of the picked ones, since these have a solution
  bit_apart : (kept : List Equation) (e : Equation) (from : ℕ) (ids : List ℕ) (is : Contradicts m kept e ids) → Known m row cells kept from → odd_bits is.picks kept ≡ e.bit → ⊥
  bit_apart kept e from ids is k same =
      let x = system_solvable m kept (record { columns = m; kept = kept; refused = None }) k.system in
      is.none x.0 x.1 (sum_same m (λ c. bit_at e.row c && x.0 c) (λ c. odd_at is.picks kept c && x.0 c) (λ c less. ap (λ (b : Bool). b && x.0 c) (is.sums c less)) ∙ sum_picked m kept is.picks x.0 x.1 ∙ same)

  good_here : (kept : List Equation) (e : Equation) (from : ℕ) (ids : List ℕ) → Contradicts m kept e ids → Known m row cells kept from → IsAt row cells e → e.id ≡ from → IsGood m row cells ids
  good_here kept e from ids is k here id = subst (IsGood m row cells) (sym is.named) (record {
    differ = differ_push e.id (ids_to (length kept) is.picks kept) (below_ids e.id (length kept) is.picks kept (λ j less. (let u = k.under j less in omega (arith, u, id)))) (differ_ids (length kept) is.picks kept k.rise);
    even = λ c less.
        odd_append (λ p. bit_at (row_of_cell row (slice_get cells p)) c) (ids_to (length kept) is.picks kept) (e.id ∷ [])
        ∙ (λ i. xor (rows_sum kept from is.picks c k i) (xor_false (bit_at (row_of_cell row (slice_get cells e.id)) c) i))
        ∙ ap (λ (r : List Bool). xor (odd_at is.picks kept c) (bit_at r c)) (sym here.row_is) ∙ ap (xor (odd_at is.picks kept c)) (is.sums c less) ∙ xor_self (odd_at is.picks kept c);
    odd =
        odd_append (λ p. bit_of_cell (slice_get cells p)) (ids_to (length kept) is.picks kept) (e.id ∷ [])
        ∙ (λ i. xor (bits_sum kept from is.picks k i) (xor_false (bit_of_cell (slice_get cells e.id)) i))
        ∙ ap (xor (odd_bits is.picks kept)) (sym here.bit_is) ∙ xor_apart (odd_bits is.picks kept) e.bit (bit_apart kept e from ids is k);
  })

  -- the equations of the cells from a position on
  AreAt : (from : ℕ) → List (InstanceId × Bool) → Type 0
  AreAt from rest = (k : ℕ) (given : InstanceId × Bool) → slice_get rest k ≡ Some given → slice_get cells (from + k) ≡ Some given

  good_from : (rest : List (InstanceId × Bool)) (from : ℕ) (kept : List Equation) (ids : List ℕ) → AreAt from rest → ((k : ℕ) (given : InstanceId × Bool) → slice_get rest k ≡ Some given → length (unwrap_or (row given.0) []) ≡ m) →
      Known m row cells kept from → StatesFrom m kept (equations_from row from rest) ids → IsGood m row cells ids
  unfolding AreAt
  good_from [] from kept ids at wide k states = absurd states
  good_from (given ∷ rest) from kept ids at wide k states =
      let e : Equation = record { row = unwrap_or (row given.0) []; bit = given.1; id = from } in
      let there : slice_get cells from ≡ Some given = ap (slice_get cells) (let z : from ≡ from + 0 = omega arith in z) ∙ at zero given refl in
      let here : IsAt row cells e = record { row_is = ap (row_of_cell row) (sym there); bit_is = ap bit_of_cell (sym there) } in
      let later : AreAt (suc from) rest = (λ j g at_j. ap (slice_get cells) (let z : suc from + j ≡ from + suc j = omega arith in z) ∙ at (suc j) g at_j) in
      elim states [
        | inl keep ↦ good_from rest (suc from) (kept ++ e ∷ []) ids later (λ j g at_j. wide (suc j) g at_j) (known_push kept e from k here refl (wide zero given refl) keep.0) keep.1
        | inr other ↦ elim other [
          | inl implied ↦ good_from rest (suc from) kept ids later (λ j g at_j. wide (suc j) g at_j) (known_later kept from k) implied.2
          | inr ends ↦ good_here kept e from ids ends k here refl
        ]
      ]

  pub stated_good : (ids : List ℕ) → ((k : ℕ) (given : InstanceId × Bool) → slice_get cells k ≡ Some given → length (unwrap_or (row given.0) []) ≡ m) → StatesFrom m [] (equations_of row cells) ids → IsGood m row cells ids
  unfolding AreAt
  stated_good ids wide states = good_from cells zero [] ids (λ k given at. ap (slice_get cells) (let z : zero + k ≡ k = omega arith in z) ∙ at) wide known_none states

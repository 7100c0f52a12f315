-- A search by halving among cells in byte order of their names.
use Rattle.std.proofs.Common.{ℕ, zero, suc, ◌≡◌, ◌+◌, ◌≤◌, ◌<◌, true, false, List, [], ◌∷◌, map, length, get_or, Some, None, Less, Equal, Greater, is_eq, ◌⊎◌, inl, inr, refl, sym, ap, ◌∙◌, add-zero, zero-add, arith}
use Rattle.std.specs.Ordering.{ordering_reverse}
use Rattle.std.proofs.lemmas.Bool.{cases_lt}
use Rattle.std.proofs.lemmas.List.{get_or_default}
use Rattle.std.proofs.lemmas.Slice.Eq.{bytes_eq-Decides}
use Rattle.std.specs.Str.{bytes_eq}
use Rattle.std.proofs.lemmas.Bool.{and_parts}
use Rattle.std.proofs.lemmas.Cmp.{nat_list_cmp_total}
use Rattle.std.proofs.lemmas.Map.Text.{is_eq-slice_cmp}
use Rattle.dft_base.proofs.TextOrder.{order_of, less_from, differ_less}
use Rattle.dft_library_text.specs.declared.draft.Draft.{Draft}
use Rattle.dft_cells.specs.Cells.{find_from, find_cell}
use Rattle.dft_cells.specs.WellFormed.{ascend, comes_before, cell_name}
use Rattle.dft_library_text.specs.Reading.{cell_with}

-- the names of the cells
abbrev pub names_of : List Draft → List (List ℕ)
names_of drafts = map cell_name (map (cell_with None) drafts)

-- the first cells, as many as this, come before a name; those from a place on come after it
abbrev pub AllBefore : List Draft → List ℕ → ℕ → Type 0
AllBefore drafts name n = (k : ℕ) (d : Draft) → k < n → k < length drafts → order_of (get_or drafts k d).name name ≡ Less

abbrev pub AllAfter : List Draft → List ℕ → ℕ → Type 0
AllAfter drafts name n = (k : ℕ) (d : Draft) → n ≤ k → k < length drafts → order_of (get_or drafts k d).name name ≡ Greater

-- a name before the first of some ascending names comes before each of them
before_each : (name : List ℕ) (drafts : List Draft) → comes_before name (names_of drafts) ≡ true → ascend (names_of drafts) ≡ true
    → (k : ℕ) (d : Draft) → k < length drafts → order_of name (get_or drafts k d).name ≡ Less
before_each name [] first rest k d less = absurd (omega arith)
before_each name (x ∷ xs) first rest zero d less = less_from _ first
before_each name (x ∷ xs) first rest (suc k) d less =
    let (next, more) = and_parts (comes_before x.name (names_of xs)) (ascend (names_of xs)) rest in
    nat_list_cmp_total.trans name x.name (get_or xs k d).name (less_from _ first) (before_each x.name xs next more k d (omega arith))

-- of two places the first has the first name
pub in_order : (drafts : List Draft) → ascend (names_of drafts) ≡ true → (i j : ℕ) (d : Draft) → i < j → j < length drafts
    → order_of (get_or drafts i d).name (get_or drafts j d).name ≡ Less
in_order [] up i j d less within = absurd (omega arith)
in_order (x ∷ xs) up i zero d less within = absurd (omega arith)
in_order (x ∷ xs) up zero (suc j) d less within =
    let (first, rest) = and_parts (comes_before x.name (names_of xs)) (ascend (names_of xs)) up in
    before_each x.name xs first rest j d (omega arith)
in_order (x ∷ xs) up (suc i) (suc j) d less within =
    let (first, rest) = and_parts (comes_before x.name (names_of xs)) (ascend (names_of xs)) up in
    in_order xs rest i j d (omega arith) (omega arith)

greater_from : (a b : List ℕ) → order_of b a ≡ Less → order_of a b ≡ Greater
greater_from a b e = nat_list_cmp_total.antisymm a b ∙ ap ordering_reverse e

less_back : (a b : List ℕ) → order_of a b ≡ Greater → order_of b a ≡ Less
less_back a b e = nat_list_cmp_total.antisymm b a ∙ ap ordering_reverse e

module _ (drafts : List Draft) (up : ascend (names_of drafts) ≡ true) (name : List ℕ) (middle : ℕ) (x : Draft) (within : middle < length drafts) where
  -- where the middle name comes before, all up to it do
  pub before_middle : order_of (get_or drafts middle x).name name ≡ Less → AllBefore drafts name (middle + 1)
  before_middle e k d less short = at (cases_lt k middle)
    where
      at : ((k < middle) ⊎ (middle ≤ k)) → order_of (get_or drafts k d).name name ≡ Less
      at (inl lower) =
          let swap = get_or_default drafts middle d x within in
          nat_list_cmp_total.trans (get_or drafts k d).name (get_or drafts middle d).name name (in_order drafts up k middle d lower within) (rw swap e)
      at (inr upper) = let here : k ≡ middle = omega arith in rw (here, get_or_default drafts middle d x within) e

  -- where it comes after, all from it on do
  pub after_middle : order_of (get_or drafts middle x).name name ≡ Greater → AllAfter drafts name middle
  after_middle e k d from short = at (cases_lt middle k)
    where
      at : ((middle < k) ⊎ (k ≤ middle)) → order_of (get_or drafts k d).name name ≡ Greater
      at (inl higher) =
          let swap = get_or_default drafts middle d x within in
          greater_from (get_or drafts k d).name name
          (nat_list_cmp_total.trans name (get_or drafts middle d).name (get_or drafts k d).name (rw swap (less_back (get_or drafts middle x).name name e)) (in_order drafts up middle k d higher short))
      at (inr lower) = let here : k ≡ middle = omega arith in rw (here, get_or_default drafts middle d x within) e

-- names that differ in order are not the same, and those that do not are
differ_greater : (a b : List ℕ) → order_of a b ≡ Greater → bytes_eq a b ≡ false
differ_greater a b e = sym (is_eq-slice_cmp a b) ∙ ap is_eq e

same_equal : (a b : List ℕ) → order_of a b ≡ Equal → bytes_eq a b ≡ true
same_equal a b e = sym (is_eq-slice_cmp a b) ∙ ap is_eq e

found_later : (from : ℕ) (drafts : List Draft) (k : ℕ) (x : Draft) (name : List ℕ) → ascend (names_of drafts) ≡ true → k < length drafts → (get_or drafts k x).name ≡ name
    → bytes_eq (get_or drafts k x).name name ≡ true → find_from from (map (cell_with None) drafts) name ≡ Some (record { 0 = from + k })
found_later from [] k x name up less same e = absurd (omega arith)
found_later from (y ∷ ys) zero x name up less same e = rw (e, add-zero)
found_later from (y ∷ ys) (suc k) x name up less same e =
    let (first, rest) = and_parts (comes_before y.name (names_of ys)) (ascend (names_of ys)) up in
    let here : order_of y.name name ≡ Less = rw (← same) (before_each y.name ys first rest k x (omega arith)) in
    let number : from + 1 + k ≡ from + suc k = omega arith in
    rw (differ_less y.name name here, found_later (from + 1) ys k x name rest (omega arith) same e, number)

-- the cell of the name is found at its place
pub found_at : (drafts : List Draft) (k : ℕ) (x : Draft) (name : List ℕ) → ascend (names_of drafts) ≡ true → k < length drafts → order_of (get_or drafts k x).name name ≡ Equal
    → find_cell (map (cell_with None) drafts) name ≡ Some (record { 0 = k })
found_at drafts k x name up less e =
    let same = same_equal (get_or drafts k x).name name e in
    found_later 0 drafts k x name up less ((bytes_eq-Decides (get_or drafts k x).name name).0 same) same ∙ ap (λ (n : ℕ). Some (record { 0 = n })) (zero-add k)

absent_from : (from : ℕ) (drafts : List Draft) (name : List ℕ) → ((k : ℕ) (d : Draft) → k < length drafts → bytes_eq (get_or drafts k d).name name ≡ false)
    → find_from from (map (cell_with None) drafts) name ≡ None
absent_from from [] name none = refl
absent_from from (x ∷ xs) name none = rw (none 0 x (omega arith)) (absent_from (from + 1) xs name (λ k d less. none (suc k) d (omega arith)))

-- where each cell comes before the name or after it, none has it
pub none_found : (drafts : List Draft) (name : List ℕ) (low high : ℕ) → high ≤ low → AllBefore drafts name low → AllAfter drafts name high
    → find_cell (map (cell_with None) drafts) name ≡ None
none_found drafts name low high met before after = absent_from 0 drafts name (λ k d less. at k d less (cases_lt k low))
  where
    at : (k : ℕ) (d : Draft) → k < length drafts → ((k < low) ⊎ (low ≤ k)) → bytes_eq (get_or drafts k d).name name ≡ false
    at k d less (inl lower) = differ_less (get_or drafts k d).name name (before k d lower less)
    at k d less (inr upper) = differ_greater (get_or drafts k d).name name (after k d (omega arith) less)

-- Rows in echelon form: a row is solved by its last column, so the rows are solved in column order.
use Rattle.std.proofs.Common.{ℕ, zero, suc, Bool, false, List, ◌≡◌, ◌==◌, ◌+◌, ◌<◌, ◌≤◌, length, refl, sym, ap, arith, ◌∙◌, ◌⊎◌, inl, inr, Option, Some, None, if◌then◌else◌}
use Rattle.std.specs.Prelude.{◌&&◌}
use Rattle.std.proofs.lemmas.Bool.{cases_lt, and_left, eq-eqb, ne_eqb}
use Rattle.std.proofs.lemmas.List.{get_or_past}
use Rattle.dft_base.specs.Solutions.{xor, bit_at, sum_over}
use Rattle.dft_base.proofs.SumLemmas.{sum_same}
use Rattle.dft_gf2.specs.Rows.{row_at, place_at, IsLedBy, IsEchelon}
use Rattle.dft_gf2.specs.declared.row.Row.{Row}
use Rattle.dft_gf2.proofs.Sums.{xor_back, sum_last}

-- the table gives the row's set its bit
abbrev pub IsMet : ℕ → (ℕ → Bool) → Row → Type 0
IsMet n x row = sum_over n row.set x ≡ row.bit

-- the table solves the rows that the columns before k lead
abbrev pub AreSolvedTo : ℕ → List Row → List (Option ℕ) → (ℕ → Bool) → ℕ → Type 0
AreSolvedTo n rows places x k = (c i : ℕ) → c < k → place_at places c ≡ Some i → IsMet n x (row_at rows i)

-- each column that has a row is one of the first n, and leads it
abbrev pub Leads : ℕ → List Row → List (Option ℕ) → Type 0
Leads n rows places = (c i : ℕ) → place_at places c ≡ Some i → (c < n) × IsLedBy (row_at rows i) c

pub some_below : (places : List (Option ℕ)) (c i : ℕ) → place_at places c ≡ Some i → c < length places
some_below places c i h = below (cases_lt c (length places)) where
  below : (c < length places) ⊎ (length places ≤ c) → c < length places
  below (inl less) = less
  below (inr past) = let none = get_or_past places c None past in absurd cc

-- the sum over a set ends at its last column
pub sum_led : (n c : ℕ) (row : Row) (x : ℕ → Bool) → c < n → IsLedBy row c → sum_over n row.set x ≡ xor (x c) (sum_over c row.set x)
sum_led n c row x h led =
    sum_last n c (λ d. bit_at row.set d && x d) h (λ d above. and_left (bit_at row.set d) (x d) (led.1 d above))
    ∙ ap (λ (b : Bool). xor (b && x c) (sum_over c row.set x)) led.0

pub sums_agree : (k : ℕ) (set : List Bool) (x y : ℕ → Bool) → ((d : ℕ) → d < k → y d ≡ x d) → sum_over k set y ≡ sum_over k set x
sums_agree k set x y agree = sum_same k (λ d. bit_at set d && y d) (λ d. bit_at set d && x d) (λ d less. ap (λ (b : Bool). bit_at set d && b) (agree d less))

-- a row that a column before k leads is met alike by tables that agree there
met_before : (n k c : ℕ) (row : Row) (x y : ℕ → Bool) → c < n → c < k → IsLedBy row c → ((d : ℕ) → d < k → y d ≡ x d) → IsMet n x row → IsMet n y row
met_before n k c row x y h less led agree met =
    sum_led n c row y h led
    ∙ (λ t. xor (agree c less t) (sums_agree c row.set x y (λ d under. agree d (omega arith)) t))
    ∙ sym (sum_led n c row x h led) ∙ met

-- a row that column k leads is met by the bit that it forces there
met_here : (n k : ℕ) (row : Row) (x y : ℕ → Bool) → k < n → IsLedBy row k → ((d : ℕ) → d < k → y d ≡ x d) → y k ≡ xor row.bit (sum_over k row.set x) → IsMet n y row
met_here n k row x y h led agree forced =
    sum_led n k row y h led
    ∙ (λ t. xor (forced t) (sums_agree k row.set x y agree t))
    ∙ xor_back row.bit (sum_over k row.set x)

-- one column more
pub solved_more : (n : ℕ) (rows : List Row) (places : List (Option ℕ)) (x y : ℕ → Bool) (k : ℕ) → Leads n rows places →
    ((d : ℕ) → d < k → y d ≡ x d) → ((i : ℕ) → place_at places k ≡ Some i → y k ≡ xor (row_at rows i).bit (sum_over k (row_at rows i).set x)) →
    AreSolvedTo n rows places x k → AreSolvedTo n rows places y (k + 1)
solved_more n rows places x y k leads agree forced solved c i less is = step (cases_lt c k) where
  step : (c < k) ⊎ (k ≤ c) → IsMet n y (row_at rows i)
  step (inl before) = met_before n k c (row_at rows i) x y (leads c i is).0 before (leads c i is).1 agree (solved c i before is)
  step (inr last) =
      let same : c ≡ k = omega arith in
      let here : place_at places k ≡ Some i = ap (place_at places) (sym same) ∙ is in
      met_here n k (row_at rows i) x y (leads k i here).0 (leads k i here).1 agree (forced i here)

-- the bit at a column, after the bits before it
next : List Row → (ℕ → Bool) → ℕ → Option ℕ → Bool
next rows x k None = false
next rows x k (Some i) = xor (row_at rows i).bit (sum_over k (row_at rows i).set x)

-- a solution of the rows that the columns before k lead
solution : List Row → List (Option ℕ) → ℕ → ℕ → Bool
solution rows places zero c = false
solution rows places (suc k) c = if c == k then next rows (solution rows places k) k (place_at places k) else solution rows places k c

solution_before : (rows : List Row) (places : List (Option ℕ)) (k d : ℕ) → d < k → solution rows places (suc k) d ≡ solution rows places k d
unfolding solution
solution_before rows places k d less =
    ap (λ (b : Bool). if b then next rows (solution rows places k) k (place_at places k) else solution rows places k d) (ne_eqb d k (λ same. omega arith))

solution_here : (rows : List Row) (places : List (Option ℕ)) (k i : ℕ) → place_at places k ≡ Some i → solution rows places (suc k) k ≡ xor (row_at rows i).bit (sum_over k (row_at rows i).set (solution rows places k))
unfolding solution next
solution_here rows places k i is =
    ap (λ (b : Bool). if b then next rows (solution rows places k) k (place_at places k) else solution rows places k k) (eq-eqb k k refl)
    ∙ ap (next rows (solution rows places k) k) is

solution_solves : (n : ℕ) (rows : List Row) (places : List (Option ℕ)) (k : ℕ) → Leads n rows places → AreSolvedTo n rows places (solution rows places k) k
solution_solves n rows places zero leads = λ c i less is. absurd (omega arith)
solution_solves n rows places (suc k) leads =
    let more : AreSolvedTo n rows places (solution rows places (suc k)) (k + 1) =
    solved_more n rows places (solution rows places k) (solution rows places (suc k)) k leads
    (λ d less. solution_before rows places k d less) (λ i is. solution_here rows places k i is) (solution_solves n rows places k leads)
    in λ c i less is. more c i (omega arith) is

pub leads_of : (n : ℕ) (rows : List Row) (places : List (Option ℕ)) (kept : ℕ) → IsEchelon n rows places kept → Leads n rows places
leads_of n rows places kept e c i is = (let below = some_below places c i is in omega (arith, e.columns), (e.led c i is).1)

pub all_met : (n : ℕ) (rows : List Row) (places : List (Option ℕ)) (kept : ℕ) (x : ℕ → Bool) → IsEchelon n rows places kept →
    AreSolvedTo n rows places x n → (i : ℕ) → i < kept → IsMet n x (row_at rows i)
all_met n rows places kept x e solved i less =
    solved (e.leads i less).0 i (leads_of n rows places kept e (e.leads i less).0 i (e.leads i less).1).0 (e.leads i less).1

-- rows in echelon form have a solution
pub echelon_solved : (n : ℕ) (rows : List Row) (places : List (Option ℕ)) (kept : ℕ) → IsEchelon n rows places kept →
    (x : ℕ → Bool) × ((i : ℕ) → i < kept → IsMet n x (row_at rows i))
echelon_solved n rows places kept e =
    (solution rows places n, all_met n rows places kept (solution rows places n) e (solution_solves n rows places n (leads_of n rows places kept e)))

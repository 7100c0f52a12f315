-- Tables that are filled from the front, and flags that are raised.
use Rattle.std.proofs.Common.{ℕ, zero, suc, ◌+◌, ◌≡◌, ◌<◌, ◌≤◌, ◌==◌, ◌||◌, Bool, true, false, List, [], ◌∷◌, ◌++◌, length, get_or, slice_get, take, drop, Some, append_assoc, append-nil, slice_set, inl, inr, refl, sym, subst, ap, arith, ◌∙◌, get_or-set_same, get_or-set_other}
use Rattle.std.specs.List.{AllByRecursion}
use Rattle.std.proofs.lemmas.Bool.Decides.{eqb_tells}
use Rattle.std.proofs.lemmas.List.{get_or_append_left, drop_all, get_or_push, length-set, take_all}
use Rattle.std.proofs.lemmas.List.Folds.{list_any_more}
use Rattle.dft_base.proofs.BitLemmas.{or_false, or_assoc}
use Rattle.dft_base.proofs.ListLemmas.{drop_at, marked}
use Rattle.dft_netlist.specs.declared.ids.InstanceId.{InstanceId}
use Rattle.dft_expect.specs.Loaded.{all_cells}
use Rattle.dft_logic.specs.Circuit.{flag_at}
use Rattle.dft_seek.specs.Searches.{has_cell}

-- one place more of a table
pub filled_more : {X : Type 0} (P : ℕ → X → Type 0) (old new : List X) (x d : X) (n : ℕ) → length old ≡ n → new ≡ old ++ x ∷ [] → ((k : ℕ) → k < n → P k (get_or old k d)) → P n x → (k : ℕ) → k < n + 1 → P k (get_or new k d)
filled_more {X} P old new x d n size push before here k less = elim (eqb_tells k n) [
  | inl same ↦ subst (λ (j : ℕ). P j (get_or new j d)) (sym same.1) (subst (λ (y : X). P n y) (sym (ap (λ (l : List X). get_or l n d) push ∙ get_or_push old x d n size)) here)
  | inr other ↦ (let far = other.1 in
      let in_old : k < length old = omega (arith, less, far, size) in
      subst (λ (y : X). P k y) (sym (ap (λ (l : List X). get_or l k d) push ∙ get_or_append_left old (x ∷ []) d k in_old)) (before k (omega (arith, in_old, size))))
]

-- an element of a list of which this holds everywhere
pub all_there : {X : Type 0} (P : X → Type 0) (xs : List X) (k : ℕ) (d : X) → AllByRecursion P xs → k < length xs → P (get_or xs k d)
all_there P [] k d all less = absurd (omega (arith, less))
all_there P (x ∷ xs) zero d all less = all.0
all_there P (x ∷ xs) (suc k) d all less = all_there P xs k d all.1 (omega (arith, less))

-- ---- flags of cells

pub flag_raised : (flags : List Bool) (k c : ℕ) → k < length flags → flag_at (slice_set flags k true) c ≡ (flag_at flags c || (k == c))
flag_raised flags k c live = marked flags k c live

pub flag_past : (flags : List Bool) (k c : ℕ) → length flags ≤ k → c < length flags → flag_at flags c ≡ (flag_at flags c || (k == c))
flag_past flags k c past live = sym (ap (λ (b : Bool). flag_at flags c || b) apart ∙ or_false (flag_at flags c))
  where
    apart : (k == c) ≡ false
    apart = elim (eqb_tells k c) [ inl same ↦ absurd (let e = same.1 in omega (arith, e, past, live)) | inr other ↦ other.0 ]

-- the flags of the first so many cells are raised
pub record Flagging (cells : List InstanceId) (start : List Bool) (done : ℕ) (flags : List Bool) : Type 0 where
  pub size : length flags ≡ length start
  pub each : (c : ℕ) → flag_at flags c ≡ (flag_at start c || has_cell (take done cells) c)

pub flagging_none : (cells : List InstanceId) (start : List Bool) → Flagging cells start 0 start
flagging_none cells start = record { size = refl; each = λ c. sym (or_false (flag_at start c)) }

pub flagging_more : (cells : List InstanceId) (start : List Bool) (done : ℕ) (flags : List Bool) (d : InstanceId) → done < length cells → (get_or cells done d).0 < length start → Flagging cells start done flags →
    Flagging cells start (done + 1) (slice_set flags (get_or cells done d).0 true)
flagging_more cells start done flags d less live before =
    let cell : ℕ = (get_or cells done d).0 in
    let size = before.size in
    record {
      size = length-set flags cell true ∙ size;
      each = λ c.
          (marked flags cell c (omega (arith, live, size)) ∙ ap (λ (b : Bool). b || (cell == c)) (before.each c) ∙ or_assoc (flag_at start c) (has_cell (take done cells) c) (cell == c)
          ∙ ap (λ (b : Bool). flag_at start c || b) (sym (list_any_more (λ (x : InstanceId). x.0 == c) cells done d less)));
    }

pub flagging_all : (cells : List InstanceId) (start : List Bool) (done : ℕ) (flags : List Bool) (c : ℕ) → length cells ≤ done → Flagging cells start done flags → flag_at flags c ≡ (flag_at start c || has_cell cells c)
flagging_all cells start done flags c past are = are.each c ∙ ap (λ (xs : List InstanceId). flag_at start c || has_cell xs c) (take_all done cells past)

-- ---- lists that are written

-- one place more
pub written_more : {X : Type 0} (f : ℕ → X) (values : List X) (d t : X) (j : ℕ) → j < length values → t ≡ f j → ((k : ℕ) → k < j → get_or values k d ≡ f k) → (k : ℕ) → k < j + 1 → get_or (slice_set values j t) k d ≡ f k
written_more {X} f values d t j live is before k less = elim (eqb_tells k j) [
  | inl same ↦ ap (λ (i : ℕ). get_or (slice_set values j t) i d) same.1 ∙ get_or-set_same values j t d live ∙ is ∙ ap f (sym same.1)
  | inr other ↦ get_or-set_other values j k t d other.1 ∙ before k (let far = other.1 in omega (arith, less, far))
]

-- ---- the cells of chains

-- one chain more
pub chains_more : (chains : List (List InstanceId)) (k : ℕ) (cells old new all : List InstanceId) → slice_get chains k ≡ Some cells → new ≡ old ++ cells → old ++ all_cells (drop k chains) ≡ all → new ++ all_cells (drop (k + 1) chains) ≡ all
chains_more chains k cells old new all at push before =
    let rest : List InstanceId = all_cells (drop (k + 1) chains) in
    ap (λ (l : List InstanceId). l ++ rest) push ∙ append_assoc old cells rest ∙ ap (λ (l : List (List InstanceId)). old ++ all_cells l) (sym (drop_at chains k cells at)) ∙ before

pub chains_all : (chains : List (List InstanceId)) (k : ℕ) (old all : List InstanceId) → length chains ≤ k → old ++ all_cells (drop k chains) ≡ all → old ≡ all
chains_all chains k old all past before = sym (append-nil old) ∙ ap (λ (l : List (List InstanceId)). old ++ all_cells l) (sym (drop_all k chains past)) ∙ before

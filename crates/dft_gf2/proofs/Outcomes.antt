-- What an equation is to the kept ones, by the row that is left of it.
use Rattle.std.proofs.Common.{ℕ, zero, suc, take, Bool, true, false, List, [], ◌∷◌, ◌++◌, ◌≡◌, ◌+◌, ◌<◌, ◌≤◌, ◌≢◌, ◌↔◌, length, refl, sym, ap, arith, ◌∙◌, ◌⊎◌, inl, inr, subst, Option, Some, None, length-set, get_or-set_same, get_or-set_other}
use Rattle.std.specs.Prelude.{◌&&◌, not, is_some, slice_set, cond}
use Rattle.std.proofs.lemmas.List.{take_all, take-append-le}
use Rattle.std.proofs.lemmas.List.Sums.{count_by-le-length, sum_by-set}
use Rattle.std.specs.List.{count_by}
use Rattle.std.proofs.lemmas.Bool.{cases_eq, cases_lt, and_left}
use Rattle.dft_base.specs.Solutions.{xor, bit_at, sum_over, Equation, equation_at, Solves, IsSolvable, odd_at, odd_bits, IsSumOf, IsSum, AllGive, NoneGives}
use Rattle.dft_base.proofs.SumLemmas.{xor_false, sum_same, sum_zero}
use Rattle.dft_base.proofs.BitLemmas.{other_bit}
use Rattle.dft_lanes.specs.Rows.{bits_of}
use Rattle.dft_lanes.proofs.RowLemmas.{length-bits_of}
use Rattle.dft_gf2.specs.Rows.{row_at, place_at, IsWide, IsStarted, IsLedBy, AreLed, NameEarlier, IsZero, IsNew, AreSums, Means, IsReduced, with_own, restored, kept_to, IsEchelon}
use Rattle.dft_gf2.specs.declared.row.Row.{Row}
use Rattle.dft_gf2.specs.declared.system.Outcome.{Outcome}
use Rattle.dft_gf2.specs.declared.system.Outcome.TheVariants.{Kept, Implied, Conflict}
use Rattle.dft_gf2.proofs.Sums.{xor_back}
use Rattle.dft_gf2.proofs.Echelons.{IsMet, echelon_solved, some_below}
use Rattle.dft_gf2.proofs.Restorations.{odd, odd_same, restored_is, length_kept, kept_same, kept_more, sum_meant, sum_picked, kept_solved, rows_sum}

-- the trial, after the kept rows were added to it, still means its equation and names no place that is not kept
pub record Stands (n : ℕ) (rows : List Row) (k : ℕ) (set : List Bool) (bit : Bool) (id : ℕ) (trial : Row) : Type 0 where
  pub wide : IsWide n trial
  pub means : Means n (kept_to n rows k) trial set bit
  pub later : (j : ℕ) → k ≤ j → bit_at trial.sums j ≡ false
  pub id_is : trial.id ≡ id

start_means : (n : ℕ) (kept : List Equation) (set : List Bool) (bit : Bool) (id : ℕ) (old start : Row) → IsStarted set bit id old start → Means n kept start set bit
start_means n kept set bit id old start is = (
  λ c less. sym (ap (xor (bit_at start.set c)) (none (λ (e : Equation). bit_at e.row c)) ∙ xor_false (bit_at start.set c) ∙ ap (λ (s : List Bool). bit_at s c) is.set),
  sym (ap (xor start.bit) (none (λ (e : Equation). e.bit)) ∙ xor_false start.bit ∙ is.bit_is),
) where
  none : (f : Equation → Bool) → odd (bit_at start.sums) f kept ≡ false
  none f = sum_zero (length kept) (λ j. bit_at start.sums j && f (equation_at kept j)) (λ j less. and_left (bit_at start.sums j) (f (equation_at kept j)) (is.sums j))

pub stands : (n : ℕ) (rows : List Row) (places : List (Option ℕ)) (k : ℕ) (set : List Bool) (bit : Bool) (id : ℕ) (old start trial : Row) →
    IsEchelon n rows places k → IsWide n old → length set ≡ n → IsStarted set bit id old start → IsReduced rows places start trial → Stands n rows k set bit id trial
stands n rows places k set bit id old start trial e wide size started reduced = record {
  wide = (reduced.set_size ∙ ap length started.set ∙ size, reduced.sums_size ∙ started.sums_size ∙ wide.1);
  means =
      let P : ℕ → Type 0 = λ m. AreSums m (kept_to n rows k) rows places → Means m (kept_to n rows k) start set bit → Means m (kept_to n rows k) trial set bit in
      subst P e.columns (reduced.means (kept_to n rows k) set bit)
      (λ c i is. rows_sum n rows k e.own e.later i (e.led c i is).0) (start_means n (kept_to n rows k) set bit id old start started);
  later = λ j past. reduced.later j (λ c i is. (let below : i < k = (e.led c i is).0 in e.later i j below (omega arith))) (started.sums j);
  id_is = reduced.id_is ∙ started.id_is;
}

-- the same of packed bits
pub stands_words : (n : ℕ) (rows : List Row) (places : List (Option ℕ)) (k : ℕ) (words : List ℕ) (bit : Bool) (id : ℕ) (old start trial : Row) →
    IsEchelon n rows places k → IsWide n old → IsStarted (bits_of (length old.set) words) bit id old start → IsReduced rows places start trial → Stands n rows k (bits_of n words) bit id trial
stands_words n rows places k words bit id old start trial e wide started reduced =
    let P : ℕ → Type 0 = λ m. IsStarted (bits_of m words) bit id old start in
    stands n rows places k (bits_of n words) bit id old start trial e wide (length-bits_of n words) (subst P wide.0 started) reduced

count_set : (places : List (Option ℕ)) (c v : ℕ) → c < length places → place_at places c ≡ None → count_by is_some (slice_set places c (Some v)) ≡ count_by is_some places + 1
count_set places c v less free =
    let one : Option ℕ → ℕ = λ o. cond (is_some o) 1 0 in
    let none : one (place_at places c) ≡ 0 = ap one free in
    let written : count_by is_some (slice_set places c (Some v)) + one (place_at places c) ≡ count_by is_some places + 1 = sum_by-set one places c (Some v) None less in
    omega (arith, none, written)

-- what holds of the row written at k, and of the other rows
at_set : (P : Row → Type 0) (rows : List Row) (k i : ℕ) (row : Row) → k < length rows → (i ≡ k → P row) → (i ≢ k → P (row_at rows i)) → P (row_at (slice_set rows k row) i)
at_set P rows k i row less here other = at (cases_eq i k) where
  at : (i ≡ k) ⊎ (i ≡ k → ⊥) → P (row_at (slice_set rows k row) i)
  at (inl same) = rw same (let found : row_at (slice_set rows k row) k ≡ row = get_or-set_same rows k row _ less in rw found (here same))
  at (inr apart) = let found : row_at (slice_set rows k row) i ≡ row_at rows i = get_or-set_other rows k i row _ apart in rw found (other apart)

place_set : (places : List (Option ℕ)) (c k d i : ℕ) → c < length places → place_at (slice_set places c (Some k)) d ≡ Some i → ((d ≡ c) × (i ≡ k)) ⊎ (place_at places d ≡ Some i)
place_set places c k d i less is = at (cases_eq d c) where
  at : (d ≡ c) ⊎ (d ≡ c → ⊥) → ((d ≡ c) × (i ≡ k)) ⊎ (place_at places d ≡ Some i)
  at (inl same) = let found : place_at (slice_set places c (Some k)) c ≡ Some k = get_or-set_same places c (Some k) None less in
      let there : place_at (slice_set places c (Some k)) d ≡ place_at (slice_set places c (Some k)) c = ap (place_at (slice_set places c (Some k))) same in inl (same, cc)
  at (inr apart) = let found : place_at (slice_set places c (Some k)) d ≡ place_at places d = get_or-set_other places c d (Some k) None apart in inr (sym found ∙ is)

-- there is room for one row more
pub room : (n : ℕ) (rows : List Row) (places : List (Option ℕ)) (k c : ℕ) (trial : Row) → IsEchelon n rows places k → IsNew places trial c → k < n
room n rows places k c trial e new =
    let more = count_set places c k new.0 new.1 in
    let fits = count_by-le-length is_some (slice_set places c (Some k)) in
    let size = length-set places c (Some k) in
    omega (arith, e.count, e.columns)

pub own_wide : (n k : ℕ) (trial : Row) → IsWide n trial → IsWide n (with_own k trial)
own_wide n k trial wide = (wide.0, length-set trial.sums k true ∙ wide.1)

-- the trial is one row more
pub echelon_more : (n : ℕ) (rows : List Row) (places : List (Option ℕ)) (k c : ℕ) (trial : Row) → IsEchelon n rows places k → IsWide n trial → ((j : ℕ) → k ≤ j → bit_at trial.sums j ≡ false) →
    IsNew places trial c → IsEchelon n (slice_set rows k (with_own k trial)) (slice_set places c (Some k)) (k + 1)
echelon_more n rows places k c trial e wide later new =
    let below : k < n = room n rows places k c trial e new in
    let inside : k < length rows = rw e.wide.0 below in
    let own : bit_at (slice_set trial.sums k true) k ≡ true = get_or-set_same trial.sums k true false (rw wide.1 below) in
    record {
      wide = (
        length-set rows k (with_own k trial) ∙ e.wide.0,
        λ i less. at_set (IsWide n) rows k i (with_own k trial) inside (λ same. own_wide n k trial wide) (λ apart. e.wide.1 i less),
      );
      columns = length-set places c (Some k) ∙ e.columns;
      count = count_set places c k new.0 new.1 ∙ ap (λ (m : ℕ). m + 1) e.count;
      led = λ d i is. elim (place_set places c k d i new.0 is) [
        | inl here ↦ (
          omega (arith, here.1),
          at_set (λ (r : Row). IsLedBy r d) rows k i (with_own k trial) inside (λ same. subst (λ (m : ℕ). IsLedBy trial m) (sym here.0) new.2) (λ apart. absurd (apart here.1)),
        )
        | inr before ↦ (
          let under : i < k = (e.led d i before).0 in omega arith,
          at_set (λ (r : Row). IsLedBy r d) rows k i (with_own k trial) inside (λ same. absurd (let under : i < k = (e.led d i before).0 in omega arith)) (λ apart. (e.led d i before).1),
        )
      ];
      leads = λ i less. elim (cases_eq i k) [
        | inl same ↦ (c, get_or-set_same places c (Some k) None new.0 ∙ ap (λ (m : ℕ). Some m) (sym same))
        | inr apart ↦ (let led = e.leads i (omega arith) in
            (led.0, get_or-set_other places c led.0 (Some k) None (λ same. let taken : place_at places c ≡ Some i = ap (place_at places) (sym same) ∙ led.1 in let free : place_at places c ≡ None = new.1 in absurd cc) ∙ led.1))
      ];
      own = λ i less. at_set (λ (r : Row). bit_at r.sums i ≡ true) rows k i (with_own k trial) inside (λ same. ap (bit_at (slice_set trial.sums k true)) same ∙ own) (λ apart. e.own i (omega arith));
      later = λ i j less above. at_set (λ (r : Row). bit_at r.sums j ≡ false) rows k i (with_own k trial) inside
          (λ same. get_or-set_other trial.sums k j true false (λ equal. omega arith) ∙ later j (omega arith)) (λ apart. e.later i j (omega arith) above);
    }

-- each of the two sums is given by a solution, where a new column leads what is left
both_given : (n : ℕ) (rows : List Row) (places : List (Option ℕ)) (k c : ℕ) (set : List Bool) (bit : Bool) (id : ℕ) (trial : Row) → IsEchelon n rows places k → Stands n rows k set bit id trial → IsNew places trial c →
    (b : Bool) → (x : ℕ → Bool) × (Solves n x (kept_to n rows k) × (sum_over n set x ≡ b))
both_given n rows places k c set bit id trial e stood new b =
    let odds : Bool = odd_bits (bit_at trial.sums) (kept_to n rows k) in
    let other : Row = record { set = trial.set; bit = xor b odds; sums = trial.sums; id = trial.id } in
    let inside : k < length rows = rw e.wide.0 (room n rows places k c trial e new) in
    let solved = echelon_solved n (slice_set rows k (with_own k other)) (slice_set places c (Some k)) (k + 1) (echelon_more n rows places k c other e stood.wide stood.later new) in
    let last : IsMet n solved.0 (with_own k other) =
    (let found : row_at (slice_set rows k (with_own k other)) k ≡ with_own k other = get_or-set_same rows k (with_own k other) _ inside in subst (IsMet n solved.0) found (solved.1 k (omega arith))) in
    let solves : Solves n solved.0 (kept_to n rows k) =
    kept_solved n rows k solved.0 (λ i less. let found : row_at (slice_set rows k (with_own k other)) i ≡ row_at rows i = get_or-set_other rows k i (with_own k other) _ (λ same. omega arith) in
    subst (IsMet n solved.0) found (solved.1 i (omega arith))) in
    (solved.0, (solves, sum_meant n (kept_to n rows k) trial set solved.0 stood.means.0 solves ∙ ap (λ (a : Bool). xor a odds) last ∙ xor_back b odds))

-- the sum over a sum of kept sets is the sum of their bits
sum_of_sum : (n : ℕ) (kept : List Equation) (set : List Bool) (p x : ℕ → Bool) → IsSumOf n p kept set → Solves n x kept → sum_over n set x ≡ odd_bits p kept
sum_of_sum n kept set p x sum solves =
    sum_same n (λ c. bit_at set c && x c) (λ c. odd_at p kept c && x c) (λ c less. ap (λ (b : Bool). b && x c) (sum c less)) ∙ sum_picked n kept p x solves

-- an outcome is exactly what it says
pub record Tells (n : ℕ) (kept : List Equation) (set : List Bool) (bit : Bool) (outcome : Outcome) : Type 0 where
  pub kept_is : (outcome ≡ Kept) ↔ (IsSum n kept set → ⊥)
  pub implied_is : (outcome ≡ Implied) ↔ AllGive n kept set bit
  pub conflict_is : (outcome ≡ Conflict) ↔ (IsSum n kept set × NoneGives n kept set bit)

-- where both sums are given
tells_kept : (n : ℕ) (kept : List Equation) (set : List Bool) (bit : Bool) → ((b : Bool) → (x : ℕ → Bool) × (Solves n x kept × (sum_over n set x ≡ b))) → Tells n kept set bit Kept
tells_kept n kept set bit given = record {
  kept_is = ((λ same. free), (λ none. refl));
  implied_is = ((λ same. absurd cc), (λ all. absurd (other_bit bit (sym (all (given (not bit)).0 (given (not bit)).1.0) ∙ (given (not bit)).1.1))));
  conflict_is = ((λ same. absurd cc), (λ none. absurd (free none.0)));
} where
  free : IsSum n kept set → ⊥
  free sum =
      let some = given (not (odd_bits sum.0 kept)) in
      other_bit (odd_bits sum.0 kept) (sym (sum_of_sum n kept set sum.0 some.0 sum.1 some.1.0) ∙ some.1.1)

-- where all solutions give the sum, or all give the other
tells_implied : (n : ℕ) (kept : List Equation) (set : List Bool) (bit : Bool) → IsSum n kept set → IsSolvable n kept → AllGive n kept set bit → Tells n kept set bit Implied
tells_implied n kept set bit sum solved all = record {
  kept_is = ((λ same. absurd cc), (λ none. absurd (none sum)));
  implied_is = ((λ same. all), (λ given. refl));
  conflict_is = ((λ same. absurd cc), (λ none. absurd (none.1 solved.0 solved.1 (all solved.0 solved.1))));
}

tells_conflict : (n : ℕ) (kept : List Equation) (set : List Bool) (bit : Bool) → IsSum n kept set → IsSolvable n kept → NoneGives n kept set bit → Tells n kept set bit Conflict
tells_conflict n kept set bit sum solved none = record {
  kept_is = ((λ same. absurd cc), (λ free. absurd (free sum)));
  implied_is = ((λ same. absurd cc), (λ all. absurd (none solved.0 solved.1 (all solved.0 solved.1))));
  conflict_is = ((λ same. (sum, none)), (λ both. refl));
}

pub kept_solvable : (n : ℕ) (rows : List Row) (places : List (Option ℕ)) (k : ℕ) → IsEchelon n rows places k → IsSolvable n (kept_to n rows k)
kept_solvable n rows places k e = let solved = echelon_solved n rows places k e in (solved.0, kept_solved n rows k solved.0 solved.1)

-- a trial without columns is a sum of the equations that it names
pub zero_sums : (n : ℕ) (kept : List Equation) (trial : Row) (set : List Bool) (bit : Bool) → IsZero trial → Means n kept trial set bit → IsSumOf n (bit_at trial.sums) kept set
zero_sums n kept trial set bit clear means c less = means.0 c less ∙ ap (λ (b : Bool). xor b (odd_at (bit_at trial.sums) kept c)) (clear c)

pub zero_gives : (n : ℕ) (kept : List Equation) (trial : Row) (set : List Bool) (bit : Bool) → IsZero trial → trial.bit ≡ false → Means n kept trial set bit → AllGive n kept set bit
zero_gives n kept trial set bit clear plain means x solves =
    sum_of_sum n kept set (bit_at trial.sums) x (zero_sums n kept trial set bit clear means) solves
    ∙ sym (means.1 ∙ ap (λ (b : Bool). xor b (odd_bits (bit_at trial.sums) kept)) plain)

pub zero_refuses : (n : ℕ) (kept : List Equation) (trial : Row) (set : List Bool) (bit : Bool) → IsZero trial → trial.bit ≡ true → Means n kept trial set bit → NoneGives n kept set bit
zero_refuses n kept trial set bit clear one means x solves given =
    other_bit (odd_bits (bit_at trial.sums) kept)
    (sym (sum_of_sum n kept set (bit_at trial.sums) x (zero_sums n kept trial set bit clear means) solves) ∙ given ∙ means.1 ∙ ap (λ (b : Bool). xor b (odd_bits (bit_at trial.sums) kept)) one)

pub told_kept : (n : ℕ) (rows : List Row) (places : List (Option ℕ)) (k c : ℕ) (set : List Bool) (bit : Bool) (id : ℕ) (trial : Row) → IsEchelon n rows places k → Stands n rows k set bit id trial → IsNew places trial c →
    Tells n (kept_to n rows k) set bit Kept
told_kept n rows places k c set bit id trial e stood new = tells_kept n (kept_to n rows k) set bit (both_given n rows places k c set bit id trial e stood new)

pub told_implied : (n : ℕ) (rows : List Row) (places : List (Option ℕ)) (k : ℕ) (set : List Bool) (bit : Bool) (id : ℕ) (trial : Row) → IsEchelon n rows places k → Stands n rows k set bit id trial →
    IsZero trial → trial.bit ≡ false → Tells n (kept_to n rows k) set bit Implied
told_implied n rows places k set bit id trial e stood clear plain =
    tells_implied n (kept_to n rows k) set bit (bit_at trial.sums, zero_sums n (kept_to n rows k) trial set bit clear stood.means) (kept_solvable n rows places k e)
    (zero_gives n (kept_to n rows k) trial set bit clear plain stood.means)

pub told_conflict : (n : ℕ) (rows : List Row) (places : List (Option ℕ)) (k : ℕ) (set : List Bool) (bit : Bool) (id : ℕ) (trial : Row) → IsEchelon n rows places k → Stands n rows k set bit id trial →
    IsZero trial → trial.bit ≡ true → Tells n (kept_to n rows k) set bit Conflict
told_conflict n rows places k set bit id trial e stood clear one =
    tells_conflict n (kept_to n rows k) set bit (bit_at trial.sums, zero_sums n (kept_to n rows k) trial set bit clear stood.means) (kept_solvable n rows places k e)
    (zero_refuses n (kept_to n rows k) trial set bit clear one stood.means)

pub kept_fits : (n : ℕ) (rows : List Row) (places : List (Option ℕ)) (k : ℕ) → IsEchelon n rows places k → k ≤ n
kept_fits n rows places k e = let fits = count_by-le-length is_some places in omega (arith, e.count, e.columns)

pub are_led : (n : ℕ) (rows : List Row) (places : List (Option ℕ)) (k : ℕ) → IsEchelon n rows places k → AreLed rows places
are_led n rows places k e c i is = (let fits = kept_fits n rows places k e in let below : i < k = (e.led c i is).0 in omega (arith, e.wide.0), (e.led c i is).1)

pub name_earlier : (n : ℕ) (rows : List Row) (places : List (Option ℕ)) (k : ℕ) → IsEchelon n rows places k → NameEarlier rows places
name_earlier n rows places k e c i is = λ j above. e.later i j (e.led c i is).0 above

-- the trial's own place is none of those that its meaning reads
own_means : (n k : ℕ) (kept : List Equation) (row : List Bool) (bit : Bool) (trial : Row) → length kept ≡ k → Means n kept trial row bit → Means n kept (with_own k trial) row bit
own_means n k kept row bit trial size means = (
  λ c less. means.0 c less ∙ ap (xor (bit_at trial.set c)) (same (λ (e : Equation). bit_at e.row c)),
  means.1 ∙ ap (xor trial.bit) (same (λ (e : Equation). e.bit)),
) where
  same : (f : Equation → Bool) → odd (bit_at trial.sums) f kept ≡ odd (bit_at (slice_set trial.sums k true)) f kept
  same f = odd_same (bit_at trial.sums) (bit_at (slice_set trial.sums k true)) f kept (λ j less. sym (get_or-set_other trial.sums k j true false (λ equal. omega arith)))

-- the equations that are kept after the trial is written
pub kept_after : (n : ℕ) (rows : List Row) (places : List (Option ℕ)) (k c : ℕ) (row : List Bool) (bit : Bool) (id : ℕ) (trial : Row) → IsEchelon n rows places k → length row ≡ n → Stands n rows k row bit id trial → IsNew places trial c →
    kept_to n (slice_set rows k (with_own k trial)) (k + 1) ≡ kept_to n rows k ++ record { row = row; bit = bit; id = id } ∷ []
kept_after n rows places k c row bit id trial e size stood new =
    let written : List Row = slice_set rows k (with_own k trial) in
    let inside : k < length rows = rw e.wide.0 (room n rows places k c trial e new) in
    let before : kept_to n written k ≡ kept_to n rows k = kept_same n written rows k (λ i less. get_or-set_other rows k i (with_own k trial) _ (λ same. omega arith)) in
    let last : row_at written k ≡ with_own k trial = get_or-set_same rows k (with_own k trial) _ inside in
    let own : restored n (kept_to n rows k) (with_own k trial) ≡ record { row = row; bit = bit; id = id } =
    restored_is n (kept_to n rows k) (with_own k trial) row bit id size (own_means n k (kept_to n rows k) row bit trial (length_kept n rows k) stood.means) stood.id_is in
    kept_more n written k ∙ (λ t. before t ++ restored n (before t) (last t) ∷ []) ∙ ap (λ (e : Equation). kept_to n rows k ++ e ∷ []) own

lead_case : (row : Row) (c d : ℕ) → IsLedBy row c → IsLedBy row d → (c < d) ⊎ (d ≤ c) → (d < c) ⊎ (c ≤ d) → c ≡ d
lead_case row c d one other (inl less) any = let none = one.1 d less in let some = other.0 in absurd cc
lead_case row c d one other (inr from) (inl less) = let none = other.1 c less in let some = one.0 in absurd cc
lead_case row c d one other (inr from) (inr to) = omega arith

-- a row has one last column
pub one_lead : (row : Row) (c d : ℕ) → IsLedBy row c → IsLedBy row d → c ≡ d
one_lead row c d one other = lead_case row c d one other (cases_lt c d) (cases_lt d c)

count_free : (places : List (Option ℕ)) (c k : ℕ) → c < length places → place_at places c ≡ Some k → count_by is_some (slice_set places c None) + 1 ≡ count_by is_some places
count_free places c k less led =
    let one : Option ℕ → ℕ = λ o. cond (is_some o) 1 0 in
    let some : one (place_at places c) ≡ 1 = ap one led in
    let written : count_by is_some (slice_set places c None) + one (place_at places c) ≡ count_by is_some places + 0 = sum_by-set one places c None None less in
    omega (arith, some, written)

free_place : (places : List (Option ℕ)) (c d i : ℕ) → c < length places → place_at (slice_set places c None) d ≡ Some i → (d ≢ c) × (place_at places d ≡ Some i)
free_place places c d i less is = at (cases_eq d c) where
  at : (d ≡ c) ⊎ (d ≡ c → ⊥) → (d ≢ c) × (place_at places d ≡ Some i)
  at (inl same) =
      let found : place_at (slice_set places c None) c ≡ None = get_or-set_same places c None None less in
      let there : place_at (slice_set places c None) d ≡ place_at (slice_set places c None) c = ap (place_at (slice_set places c None)) same in
      absurd cc
  at (inr apart) = let found : place_at (slice_set places c None) d ≡ place_at places d = get_or-set_other places c d None None apart in (apart, sym found ∙ is)

below_last : (rows : List Row) (k c d i : ℕ) → i < k + 1 → IsLedBy (row_at rows k) c → IsLedBy (row_at rows i) d → d ≢ c → (i ≡ k) ⊎ (i ≡ k → ⊥) → i < k
below_last rows k c d i less led other apart (inl same) = absurd (apart (one_lead (row_at rows k) d c (subst (λ (m : ℕ). IsLedBy (row_at rows m) d) same other) led))
below_last rows k c d i less led other apart (inr different) = omega arith

-- the last row is dropped: its column is free
pub echelon_less : (n : ℕ) (rows : List Row) (places : List (Option ℕ)) (k c : ℕ) → IsEchelon n rows places (k + 1) → IsLedBy (row_at rows k) c → IsEchelon n rows (slice_set places c None) k
echelon_less n rows places k c e led =
    let own = e.leads k (omega arith) in
    let same : own.0 ≡ c = one_lead (row_at rows k) own.0 c (e.led own.0 k own.1).1 led in
    let at_c : place_at places c ≡ Some k = ap (place_at places) (sym same) ∙ own.1 in
    let inside : c < length places = some_below places c k at_c in
    record {
      wide = e.wide;
      columns = length-set places c None ∙ e.columns;
      count = (let freed = count_free places c k inside at_c in omega (arith, e.count));
      led = λ d i is.
          let found = free_place places c d i inside is in
          let before = e.led d i found.1 in
          (below_last rows k c d i before.0 led before.1 found.0 (cases_eq i k), before.1);
      leads = λ i less.
          let there = e.leads i (omega arith) in (
            there.0,
            get_or-set_other places c there.0 None None
                (λ equal. let other : place_at places c ≡ Some i = ap (place_at places) (sym equal) ∙ there.1 in let both : Some i ≡ Some k = sym other ∙ at_c in let clash : i ≡ k = cc in omega (arith, less))
                ∙ there.1,
          );
      own = λ i less. e.own i (omega arith);
      later = λ i j less above. e.later i j (omega arith) above;
    }

-- each kept row has a last column
pub has_lead : (n : ℕ) (rows : List Row) (places : List (Option ℕ)) (k i : ℕ) → IsEchelon n rows places k → i < k → IsZero (row_at rows i) → ⊥
has_lead n rows places k i e less zero_row =
    let own = e.leads i less in
    let one : bit_at (row_at rows i).set own.0 ≡ true = (e.led own.0 i own.1).1.0 in
    let none : bit_at (row_at rows i).set own.0 ≡ false = zero_row own.0 in
    absurd cc

take_case : (n : ℕ) (rows : List Row) (k m : ℕ) → (m < suc k) ⊎ (suc k ≤ m) → m ≤ suc k → (m ≤ k → kept_to n rows m ≡ take m (kept_to n rows k)) → kept_to n rows m ≡ take m (kept_to n rows (suc k))
unfolding kept_to
take_case n rows k m (inl less) fits ih =
    let size = length_kept n rows k in
    ih (omega arith) ∙ sym (take-append-le m (kept_to n rows k) (restored n (kept_to n rows k) (row_at rows k) ∷ []) (omega (arith, size)))
take_case n rows k m (inr all) fits ih =
    let same : m ≡ suc k = omega arith in
    let size = length_kept n rows (suc k) in
    ap (kept_to n rows) same ∙ sym (take_all m (kept_to n rows (suc k)) (omega (arith, size)))

-- the first rows began from the first equations
pub kept_take : (n : ℕ) (rows : List Row) (k m : ℕ) → m ≤ k → kept_to n rows m ≡ take m (kept_to n rows k)
unfolding kept_to
kept_take n rows zero m fits = let none : m ≡ 0 = omega arith in λ t. take_none n rows m none t where
  take_none : (n : ℕ) (rows : List Row) (m : ℕ) → m ≡ 0 → kept_to n rows m ≡ take m []
  take_none n rows m none = let P : ℕ → Type 0 = λ j. kept_to n rows j ≡ take j [] in subst P (sym none) refl
kept_take n rows (suc k) m fits = take_case n rows k m (cases_lt m (suc k)) fits (kept_take n rows k m)

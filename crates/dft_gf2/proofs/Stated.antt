-- Equations without solution have a stated certificate: each list of kept equations has rows in echelon form.
use Rattle.std.proofs.Common.{ℕ, zero, suc, Bool, true, false, List, [], ◌∷◌, ◌++◌, ◌≡◌, ◌+◌, ◌<◌, ◌≤◌, length, replicate, refl, sym, ap, arith, ◌∙◌, ◌⊎◌, inl, inr, subst, Option, Some, None}
use Rattle.std.specs.Prelude.{slice_set, is_some}
use Rattle.std.specs.List.{count_by}
use Rattle.std.proofs.lemmas.Bool.{cases_lt, cases_Bool, false≢true}
use Rattle.std.proofs.lemmas.List.{get_or_past, get_or-replicate, length-replicate}
use Rattle.dft_base.specs.Solutions.{xor, bit_at, Equation, equation_at, Solves, IsSolvable, IsSum, AllGive, Contradicts, StatesFrom, ids_to}
use Rattle.dft_gf2.specs.Laws.{UnsolvableIsStated}
use Rattle.dft_gf2.specs.Rows.{row_at, place_at, AreWide, IsWide, IsStarted, IsZero, IsNew, IsAdded, IsReduced, with_own, bits_to, kept_to, IsEchelon}
use Rattle.dft_gf2.specs.declared.row.Row.{Row}
use Rattle.dft_gf2.proofs.Restorations.{length_bits, bits_at, solves_push, solves_front, solves_last}
use Rattle.dft_gf2.proofs.Reductions.{reduced_none, reduced_both, reduced_added, cleared_added}
use Rattle.dft_gf2.proofs.Outcomes.{Stands, stands, echelon_more, kept_after, kept_solvable, told_kept, kept_fits, zero_sums, zero_gives, zero_refuses}
use Rattle.dft_gf2.proofs.Choices.{cases_option}
use Rattle.dft_gf2.proofs.Unsolvable.{solves_cons}

bits_all : (n : ℕ) (f : ℕ → Bool) → ((c : ℕ) → n ≤ c → f c ≡ false) → (c : ℕ) → bit_at (bits_to n f) c ≡ f c
bits_all n f none c = at (cases_lt c n) where
  at : (c < n) ⊎ (n ≤ c) → bit_at (bits_to n f) c ≡ f c
  at (inl less) = bits_at n f c less
  at (inr past) = get_or_past (bits_to n f) c false (let size = length_bits n f in omega arith) ∙ sym (none c past)

-- the sum of two rows
sum_row : ℕ → Row → Row → Row
sum_row n a b = record {
  set = bits_to n (λ c. xor (bit_at a.set c) (bit_at b.set c));
  bit = xor a.bit b.bit;
  sums = bits_to n (λ j. xor (bit_at a.sums j) (bit_at b.sums j));
  id = a.id;
}

sum_past : (n : ℕ) (a b : List Bool) → length a ≡ n → length b ≡ n → (c : ℕ) → n ≤ c → xor (bit_at a c) (bit_at b c) ≡ false
sum_past n a b size other c past = λ t. xor (get_or_past a c false (omega arith) t) (get_or_past b c false (omega arith) t)

sum_added : (n : ℕ) (a b : Row) → IsWide n a → IsWide n b → IsAdded a b (sum_row n a b)
unfolding sum_row
sum_added n a b wide other = record {
  set = bits_all n (λ c. xor (bit_at a.set c) (bit_at b.set c)) (sum_past n a.set b.set wide.0 other.0);
  bit_is = refl;
  sums = bits_all n (λ j. xor (bit_at a.sums j) (bit_at b.sums j)) (sum_past n a.sums b.sums wide.1 other.1);
  set_size = length_bits n (λ c. xor (bit_at a.set c) (bit_at b.set c)) ∙ sym wide.0;
  sums_size = length_bits n (λ j. xor (bit_at a.sums j) (bit_at b.sums j)) ∙ sym wide.1;
  id_is = refl;
}

-- a row is reduced to one without columns, or to one that a new column leads
abbrev Left : ℕ → List Row → List (Option ℕ) → Row → Type 0
Left n rows places start = (new : Row) × (IsReduced rows places start new × (IsZero new ⊎ ((c : ℕ) × IsNew places new c)))

left_more : (n : ℕ) (rows : List Row) (places : List (Option ℕ)) (kept m : ℕ) (start : Row) → IsEchelon n rows places kept → IsWide n start → ((d : ℕ) → suc m ≤ d → bit_at start.set d ≡ false) →
    ((mid : Row) → IsWide n mid → ((d : ℕ) → m ≤ d → bit_at mid.set d ≡ false) → Left n rows places mid) → Left n rows places start
left_more n rows places kept m start e wide clear less = at (cases_Bool (bit_at start.set m)) where
  inside : bit_at start.set m ≡ true → m < length places
  inside set = elim (cases_lt m n) [ inl below ↦ rw e.columns below | inr past ↦ absurd (false≢true (sym (get_or_past start.set m false (rw wide.0 past)) ∙ set)) ]

  still : (d : ℕ) → m ≤ d → bit_at start.set m ≡ false → bit_at start.set d ≡ false
  still d from free = elim (cases_lt m d) [ inl above ↦ clear d (omega arith) | inr here ↦ (let same : d ≡ m = omega arith in ap (bit_at start.set) same ∙ free) ]

  led : bit_at start.set m ≡ true → ((i : ℕ) × (place_at places m ≡ Some i)) ⊎ (place_at places m ≡ None) → Left n rows places start
  led set (inr free) = (start, (reduced_none rows places start, inr (m, (inside set, free, (set, λ d above. clear d (omega arith))))))
  led set (inl row) =
      let other : Row = row_at rows row.0 in
      let under : row.0 < kept = (e.led m row.0 row.1).0 in
      let fits = kept_fits n rows places kept e in
      let added : IsAdded start other (sum_row n start other) = sum_added n start other wide (e.wide.1 row.0 (omega arith)) in
      let cleared = cleared_added rows places m row.0 start other (sum_row n start other) refl (e.led m row.0 row.1).1 set added in
      let rest : Left n rows places (sum_row n start other) =
      less (sum_row n start other) (added.set_size ∙ wide.0, added.sums_size ∙ wide.1)
      (λ d from. elim (cases_lt m d) [ inl above ↦ cleared.1 d above (clear d (omega arith)) | inr here ↦ (let same : d ≡ m = omega arith in ap (bit_at (sum_row n start other).set) same ∙ cleared.0) ]) in
      (rest.0, (reduced_both rows places start (sum_row n start other) rest.0 (reduced_added rows places m row.0 start other (sum_row n start other) row.1 refl added) rest.1.0, rest.1.1))

  at : (bit_at start.set m ≡ true) ⊎ (bit_at start.set m ≡ false) → Left n rows places start
  at (inl set) = led set (cases_option (place_at places m))
  at (inr free) = less start wide (λ d from. still d from free)

left_from : (n : ℕ) (rows : List Row) (places : List (Option ℕ)) (kept m : ℕ) (start : Row) → IsEchelon n rows places kept → IsWide n start → ((d : ℕ) → m ≤ d → bit_at start.set d ≡ false) → Left n rows places start
left_from n rows places kept zero start e wide clear = (start, (reduced_none rows places start, inl (λ c. clear c (omega arith))))
left_from n rows places kept (suc m) start e wide clear = left_more n rows places kept m start e wide clear (λ mid other free. left_from n rows places kept m mid e other free)

-- the kept equations are those that rows in echelon form began from
HasEchelon : ℕ → List Equation → Type 0
HasEchelon n kept = (rows : List Row) × ((places : List (Option ℕ)) × ((k : ℕ) × (IsEchelon n rows places k × (kept_to n rows k ≡ kept))))

-- what an equation is to them
Told : ℕ → List Equation → Equation → Type 0
Told n kept e =
    ((IsSum n kept e.row → ⊥) × HasEchelon n (kept ++ e ∷ []))
    ⊎ ((IsSum n kept e.row × AllGive n kept e.row e.bit) ⊎ ((ids : List ℕ) × Contradicts n kept e ids))

begun : ℕ → Equation → Row
begun n e = record { set = e.row; bit = e.bit; sums = bits_to n (λ j. false); id = e.id }

begun_starts : (n : ℕ) (e : Equation) → IsStarted e.row e.bit e.id (begun n e) (begun n e)
unfolding begun
begun_starts n e = record { set = refl; bit_is = refl; sums = bits_all n (λ j. false) (λ c past. refl); sums_size = refl; id_is = refl }

begun_wide : (n : ℕ) (e : Equation) → length e.row ≡ n → IsWide n (begun n e)
unfolding begun
begun_wide n e size = (size, length_bits n (λ j. false))

begun_set : (n : ℕ) (e : Equation) → (begun n e).set ≡ e.row
unfolding begun
begun_set n e = refl

told_rows : (n : ℕ) (rows : List Row) (places : List (Option ℕ)) (k : ℕ) (e : Equation) → IsEchelon n rows places k → length e.row ≡ n → Told n (kept_to n rows k) e
unfolding Told HasEchelon
told_rows n rows places k e echelon size = at left.1.1 where
  left : Left n rows places (begun n e)
  left = left_from n rows places k n (begun n e) echelon (begun_wide n e size)
      (λ d past. ap (λ (set : List Bool). bit_at set d) (begun_set n e) ∙ get_or_past e.row d false (rw size past))

  stood : Stands n rows k e.row e.bit e.id left.0
  stood = stands n rows places k e.row e.bit e.id (begun n e) (begun n e) left.0 echelon (begun_wide n e size) size (begun_starts n e) left.1.0

  clears : IsZero left.0 → (left.0.bit ≡ true) ⊎ (left.0.bit ≡ false) →
      (IsSum n (kept_to n rows k) e.row × AllGive n (kept_to n rows k) e.row e.bit) ⊎ ((ids : List ℕ) × Contradicts n (kept_to n rows k) e ids)
  clears clear (inl one) = inr (
    ids_to (length (kept_to n rows k)) (bit_at left.0.sums) (kept_to n rows k) ++ e.id ∷ [],
    record {
      picks = bit_at left.0.sums;
      sums = zero_sums n (kept_to n rows k) left.0 e.row e.bit clear stood.means;
      none = zero_refuses n (kept_to n rows k) left.0 e.row e.bit clear one stood.means;
      named = refl;
    },
  )
  clears clear (inr plain) = inl ((bit_at left.0.sums, zero_sums n (kept_to n rows k) left.0 e.row e.bit clear stood.means), zero_gives n (kept_to n rows k) left.0 e.row e.bit clear plain stood.means)

  at : (IsZero left.0 ⊎ ((c : ℕ) × IsNew places left.0 c)) →
      ((IsSum n (kept_to n rows k) e.row → ⊥) × ((rows' : List Row) × ((places' : List (Option ℕ)) × ((k' : ℕ) × (IsEchelon n rows' places' k' × (kept_to n rows' k' ≡ kept_to n rows k ++ e ∷ []))))))
      ⊎ ((IsSum n (kept_to n rows k) e.row × AllGive n (kept_to n rows k) e.row e.bit) ⊎ ((ids : List ℕ) × Contradicts n (kept_to n rows k) e ids))
  at (inl clear) = inr (clears clear (cases_Bool left.0.bit))
  at (inr new) = inl (
    (told_kept n rows places k new.0 e.row e.bit e.id left.0 echelon stood new.1).kept_is.0 refl,
    (
      slice_set rows k (with_own k left.0),
      (
        slice_set places new.0 (Some k),
        (
          k + 1,
          (
            echelon_more n rows places k new.0 left.0 echelon stood.wide stood.later new.1,
            kept_after n rows places k new.0 e.row e.bit e.id left.0 echelon size stood new.1,
          ),
        ),
      ),
    ),
  )

told_any : (n : ℕ) (kept : List Equation) (e : Equation) → HasEchelon n kept → length e.row ≡ n → Told n kept e
unfolding HasEchelon
told_any n kept e has size = subst (λ (es : List Equation). Told n es e) has.1.1.1.1 (told_rows n has.0 has.1.0 has.1.1.0 e has.1.1.1.0 size)

solved_any : (n : ℕ) (kept : List Equation) → HasEchelon n kept → IsSolvable n kept
unfolding HasEchelon
solved_any n kept has = subst (IsSolvable n) has.1.1.1.1 (kept_solvable n has.0 has.1.0 has.1.1.0 has.1.1.1.0)

states_more : (n : ℕ) (kept : List Equation) (e : Equation) (es : List Equation) → HasEchelon n kept → ((x : ℕ → Bool) → Solves n x kept → Solves n x (e ∷ es) → ⊥) → Told n kept e →
    (HasEchelon n (kept ++ e ∷ []) → ((x : ℕ → Bool) → Solves n x (kept ++ e ∷ []) → Solves n x es → ⊥) → (ids : List ℕ) × StatesFrom n (kept ++ e ∷ []) es ids) →
    (((x : ℕ → Bool) → Solves n x kept → Solves n x es → ⊥) → (ids : List ℕ) × StatesFrom n kept es ids) →
    (ids : List ℕ) × StatesFrom n kept (e ∷ es) ids
unfolding Told
states_more n kept e es has none told keep pass = elim told [
  | inl free ↦ (let more = keep free.1 (λ x before after. none x (solves_front n x kept e before) (solves_cons n x e es (solves_last n x kept e before) after)) in
      (more.0, inl (free.0, more.1)))
  | inr other ↦ elim other [
    | inl implied ↦ (let more = pass (λ x before after. none x before (solves_cons n x e es (implied.1 x before) after)) in
        let some = solved_any n kept has in
        (more.0, inr (inl (implied.0, (some.0, solves_push n some.0 kept e some.1 (implied.1 some.0 some.1)), more.1))))
    | inr here ↦ (here.0, inr (inr here.1))
  ]
]

states_from : (n : ℕ) (kept es : List Equation) → HasEchelon n kept → ((j : ℕ) → j < length es → length (equation_at es j).row ≡ n) → ((x : ℕ → Bool) → Solves n x kept → Solves n x es → ⊥) →
    (ids : List ℕ) × StatesFrom n kept es ids
states_from n kept [] has wide none = absurd (let some = solved_any n kept has in none some.0 some.1 (λ j less. absurd (omega arith)))
states_from n kept (e ∷ es) has wide none =
    let rest : (j : ℕ) → j < length es → length (equation_at es j).row ≡ n = λ j less. wide (suc j) (omega arith) in
    states_more n kept e es has none (told_any n kept e has (wide 0 (omega arith)))
    (λ more never. states_from n (kept ++ e ∷ []) es more rest never) (λ never. states_from n kept es has rest never)

pub no_place : (n c : ℕ) → place_at (replicate n None) c ≡ None
no_place n c = elim (cases_lt c n) [ inl less ↦ get_or-replicate n c None None less | inr past ↦ get_or_past (replicate n None) c None (let nones : List (Option ℕ) = replicate n None in let size : length nones ≡ n = length-replicate n None in omega arith) ]

pub none_counted : (n : ℕ) → count_by (is_some {T = ℕ}) (replicate n None) ≡ 0
none_counted zero = refl
none_counted (suc n) = let ih = none_counted n in omega arith

blank : ℕ → Row
blank n = record { set = bits_to n (λ c. false); bit = false; sums = bits_to n (λ j. false); id = 0 }

blank_wide : (n : ℕ) → IsWide n (blank n)
unfolding blank
blank_wide n = (length_bits n (λ c. false), length_bits n (λ j. false))

-- no row is kept
pub empty_echelon : (n : ℕ) (rows : List Row) → AreWide n rows → IsEchelon n rows (replicate n None) 0
empty_echelon n rows wide = record {
  wide = wide;
  columns = length-replicate n None;
  count = none_counted n;
  led = λ c i is. absurd (let none = no_place n c in cc);
  leads = λ i less. absurd (omega arith);
  own = λ i less. absurd (omega arith);
  later = λ i j less above. absurd (omega arith);
}

nothing_kept : (n : ℕ) → HasEchelon n []
unfolding HasEchelon kept_to
nothing_kept n = (
  replicate n (blank n),
  (
    replicate n None,
    (
      0,
      (
        empty_echelon n (replicate n (blank n))
            (length-replicate n (blank n), λ i less. let found : row_at (replicate n (blank n)) i ≡ blank n = get_or-replicate n i (blank n) _ less in rw found (blank_wide n)),
        refl,
      ),
    ),
  ),
)

pub unsolvable_stated : UnsolvableIsStated
unsolvable_stated n es wide none = states_from n [] es (nothing_kept n) wide (λ x before all. none (x, all))

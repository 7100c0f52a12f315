-- Systems to which equations are added one by one.
use Rattle.std.proofs.Common.{ℕ, suc, Bool, List, [], ◌∷◌, ◌++◌, ◌≡◌, ◌<◌, ◌≤◌, ◌↔◌, length, refl, sym, ap, subst, arith, ◌∙◌, ◌⊎◌, inl, inr, append_assoc, Option, Some, None, IsSome, IfSome}
use Rattle.std.proofs.lemmas.Bool.{cases_lt, false≢true}
use Rattle.std.proofs.lemmas.List.{append-nil, length_push, take-append-le, take_all, get_or_push}
use Rattle.dft_base.specs.Solutions.{Equation, equation_at, Solves, IsSolvable, IsSum, AllGive, NoneGives, Contradicts, StatesFrom, StatesCertificate}
use Rattle.dft_gf2.specs.Elimination.{After, Elimination}
use Rattle.dft_gf2.specs.declared.system.Outcome.TheVariants.{Kept, Implied, Conflict}
use Rattle.dft_lanes.specs.Rows.{bits_of}
use Rattle.std.specs.Prelude.{unwrap_or}
use Rattle.dft_gf2.proofs.Restorations.{push_at, solves_push, solves_front, solves_last}
use Rattle.dft_gf2.proofs.Unsolvable.{solves_cons}
use Rattle.dft_gf2.proofs.Stated.{unsolvable_stated}
use Rattle.dft_merge.specs.Systems.{AreKept, AreWide, IsConflict, IsKept, IsImplied, IsRefused, IsRun, IsSystem, IsTaken}
use Rattle.dft_merge.proofs.EquationLemmas.{solves_join, solves_left, solves_right}
use Rattle.dft_merge.proofs.SolvableLemmas.{solvable_or_not}

abbrev record_of : List Bool → Bool → ℕ → Equation
record_of row bit id = record { row = row; bit = bit; id = id }

-- ---- one equation more

wide_case : (n : ℕ) (kept : List Equation) (e : Equation) (j : ℕ) → AreWide n kept → length e.row ≡ n → j < length (kept ++ e ∷ []) → (j < length kept) ⊎ (length kept ≤ j) → length (equation_at (kept ++ e ∷ []) j).row ≡ n
wide_case n kept e j wide size less (inl under) = ap (λ (d : Equation). length d.row) (push_at kept e j under) ∙ wide j under
wide_case n kept e j wide size less (inr past) =
    let count = length_push kept e in
    let last : length kept ≡ j = omega arith in
    ap (λ (d : Equation). length d.row) (get_or_push kept e _ j last) ∙ size

pub wide_more : (n : ℕ) (kept : List Equation) (e : Equation) → AreWide n kept → length e.row ≡ n → AreWide n (kept ++ e ∷ [])
wide_more n kept e wide size j less = wide_case n kept e j wide size less (cases_lt j (length kept))

-- what is stated from kept equations by one that is no sum of them
stated_kept : (n : ℕ) (kept : List Equation) (e : Equation) (es : List Equation) (ids : List ℕ) → (IsSum n kept e.row → ⊥) → StatesFrom n kept (e ∷ es) ids → StatesFrom n (kept ++ e ∷ []) es ids
stated_kept n kept e es ids free states = elim states [
  | inl keep ↦ keep.1
  | inr other ↦ elim other [ inl implied ↦ absurd (free implied.0) | inr here ↦ absurd (free (here.picks, here.sums)) ]
]

pub kept_more : (n : ℕ) (kept : List Equation) (e : Equation) → AreKept n kept → (IsSum n kept e.row → ⊥) → AreKept n (kept ++ e ∷ [])
kept_more n kept e all free es ids states =
    stated_kept n kept e es ids free (all (e ∷ es) ids (subst (λ (l : List Equation). StatesFrom n [] l ids) (append_assoc kept (e ∷ []) es) states))

-- ---- what a system answers

-- an equation with packed columns, as its row
same_equation : (o : Option (List Bool)) (row : List Bool) (bit : Bool) (id : ℕ) → o ≡ Some row → record_of row bit id ≡ record_of (unwrap_or o []) bit id
same_equation o row bit id is = λ i. record_of (unwrap_or (sym is i) []) bit id

answered_kept : (n : ℕ) (words : List ℕ) (o : Option (List Bool)) (bit : Bool) (id : ℕ) (old new : Elimination) → o ≡ Some (bits_of n words) → (IsSum n old.kept (bits_of n words) → ⊥) → new ≡ After (record_of (bits_of n words) bit id) Kept old →
    IsTaken n old.kept (record_of (unwrap_or o []) bit id) new.kept
answered_kept n words o bit id old new is free after =
    subst (λ (e : Equation). IsTaken n old.kept e new.kept) (same_equation o (bits_of n words) bit id is)
    (subst (IsTaken n old.kept (record_of (bits_of n words) bit id)) (sym (ap (λ (s : Elimination). s.kept) after)) (IsKept free))

pub taken_kept : (n m : ℕ) (words : List ℕ) (o : Option (List Bool)) (bit : Bool) (id : ℕ) (old new : Elimination) → m ≡ n → o ≡ Some (bits_of n words) → (IsSum m old.kept (bits_of m words) → ⊥) → new ≡ After (record_of (bits_of m words) bit id) Kept old →
    IsTaken n old.kept (record_of (unwrap_or o []) bit id) new.kept
taken_kept n m words o bit id old new same is =
    subst (λ (k : ℕ). (IsSum k old.kept (bits_of k words) → ⊥) → new ≡ After (record_of (bits_of k words) bit id) Kept old → IsTaken n old.kept (record_of (unwrap_or o []) bit id) new.kept) (sym same) (answered_kept n words o bit id old new is)

answered_implied : (n : ℕ) (words : List ℕ) (o : Option (List Bool)) (bit : Bool) (id : ℕ) (old new : Elimination) → o ≡ Some (bits_of n words) → ((Implied ≡ Kept) ↔ (IsSum n old.kept (bits_of n words) → ⊥)) → ((Implied ≡ Implied) ↔ AllGive n old.kept (bits_of n words) bit) →
    ((Implied ≡ Conflict) ↔ (IsSum n old.kept (bits_of n words) × NoneGives n old.kept (bits_of n words) bit)) → new ≡ After (record_of (bits_of n words) bit id) Implied old → IsTaken n old.kept (record_of (unwrap_or o []) bit id) new.kept
answered_implied n words o bit id old new is kept implied conflict after =
    subst (λ (e : Equation). IsTaken n old.kept e new.kept) (same_equation o (bits_of n words) bit id is)
    (subst (IsTaken n old.kept (record_of (bits_of n words) bit id)) (sym (ap (λ (s : Elimination). s.kept) after))
    (IsImplied (implied.0 refl) (λ free. let other : Implied ≡ Kept = kept.1 free in cc) (λ both. let other : Implied ≡ Conflict = conflict.1 both in cc)))

pub taken_implied : (n m : ℕ) (words : List ℕ) (o : Option (List Bool)) (bit : Bool) (id : ℕ) (old new : Elimination) → m ≡ n → o ≡ Some (bits_of n words) → ((Implied ≡ Kept) ↔ (IsSum m old.kept (bits_of m words) → ⊥)) → ((Implied ≡ Implied) ↔ AllGive m old.kept (bits_of m words) bit) →
    ((Implied ≡ Conflict) ↔ (IsSum m old.kept (bits_of m words) × NoneGives m old.kept (bits_of m words) bit)) → new ≡ After (record_of (bits_of m words) bit id) Implied old → IsTaken n old.kept (record_of (unwrap_or o []) bit id) new.kept
taken_implied n m words o bit id old new same is =
    subst (λ (k : ℕ). ((Implied ≡ Kept) ↔ (IsSum k old.kept (bits_of k words) → ⊥)) → ((Implied ≡ Implied) ↔ AllGive k old.kept (bits_of k words) bit) →
    ((Implied ≡ Conflict) ↔ (IsSum k old.kept (bits_of k words) × NoneGives k old.kept (bits_of k words) bit)) → new ≡ After (record_of (bits_of k words) bit id) Implied old → IsTaken n old.kept (record_of (unwrap_or o []) bit id) new.kept) (sym same)
    (answered_implied n words o bit id old new is)

-- ---- systems

pub system_solvable : (n : ℕ) (es : List Equation) (s : Elimination) → IsSystem n es s → IsSolvable n es
system_solvable n es s is = elim (solvable_or_not n s.kept) [
  | inl some ↦ (some.0, is.there some.0 some.1)
  | inr none ↦ absurd (let stated = unsolvable_stated n s.kept is.wide none in is.kept [] stated.0 (subst (λ (l : List Equation). StatesFrom n [] l stated.0) (sym (append-nil s.kept)) stated.1))
]

pub system_none : (n : ℕ) (s : Elimination) → s.columns ≡ n → s.kept ≡ [] → IsSystem n [] s
system_none n s columns none = record {
  columns = columns;
  wide = rw none (λ j less. absurd (omega arith));
  kept = rw none (λ es ids states. states);
  there = λ x all j less. absurd (omega arith);
  back = λ x all. rw none (λ j less. absurd (omega arith));
}

pub system_taken : (n : ℕ) (es : List Equation) (e : Equation) (old new : Elimination) → IsSystem n es old → new.columns ≡ n → length e.row ≡ n → IsTaken n old.kept e new.kept → IsSystem n (es ++ e ∷ []) new
system_taken n es e old new is columns size taken = at old.kept new.kept refl refl taken where
  at : (kept next : List Equation) → old.kept ≡ kept → new.kept ≡ next → IsTaken n kept e next → IsSystem n (es ++ e ∷ []) new
  at kept next was now (IsKept free) = record {
    columns = columns;
    wide = rw now (wide_more n kept e (subst (AreWide n) was is.wide) size);
    kept = rw now (kept_more n kept e (subst (AreKept n) was is.kept) free);
    there = λ x all. (let here : Solves n x (kept ++ e ∷ []) = subst (Solves n x) now all in
        solves_push n x es e (is.there x (subst (Solves n x) (sym was) (solves_front n x kept e here))) (solves_last n x kept e here));
    back = λ x all. subst (Solves n x) (sym now) (solves_push n x kept e (subst (Solves n x) was (is.back x (solves_front n x es e all))) (solves_last n x es e all));
  }
  at kept next was now (IsImplied gives some never) = record {
    columns = columns;
    wide = rw now (subst (AreWide n) was is.wide);
    kept = rw now (subst (AreKept n) was is.kept);
    there = λ x all. (let here : Solves n x kept = subst (Solves n x) now all in solves_push n x es e (is.there x (subst (Solves n x) (sym was) here)) (gives x here));
    back = λ x all. subst (Solves n x) (sym now) (subst (Solves n x) was (is.back x (solves_front n x es e all)));
  }

-- ---- runs

pub run_none : (n : ℕ) (old all : List Equation) → IsRun n old all old all
run_none n old all = record {
  longer = omega arith;
  front = take_all (length old) old (omega arith);
  wide = λ wide. wide;
  kept = λ kept. kept;
  there = λ x before rest. (before, rest);
  back = λ x before rest. (before, rest);
  states = λ ids states. states;
  stated = λ ids known states stated. stated;
}

run_kept : (n : ℕ) (old all now rest : List Equation) (e : Equation) → length e.row ≡ n → IsRun n old all now (e ∷ rest) → (IsSum n now e.row → ⊥) → IsRun n old all (now ++ e ∷ []) rest
run_kept n old all now rest e size run free = record {
  longer = (let more = length_push now e in let longer = run.longer in omega arith);
  front = take-append-le (length old) now (e ∷ []) run.longer ∙ run.front;
  wide = λ wide. wide_more n now e (run.wide wide) size;
  kept = λ kept. kept_more n now e (run.kept kept) free;
  there = λ x before left. run.there x (solves_front n x now e before) (solves_cons n x e rest (solves_last n x now e before) left);
  back = λ x before given. (let both = run.back x before given in (solves_push n x now e both.0 (both.1 0 (omega arith)), λ j less. both.1 (suc j) (omega arith)));
  states = λ ids states. stated_kept n now e rest ids free (run.states ids states);
  stated = λ ids known states stated. run.stated ids known states (inl (free, stated));
}

implied_states : (n : ℕ) (now rest : List Equation) (e : Equation) (ids : List ℕ) → ((IsSum n now e.row → ⊥) → ⊥) → (IsSum n now e.row × NoneGives n now e.row e.bit → ⊥) → StatesFrom n now (e ∷ rest) ids →
    IsSum n now e.row × IsSolvable n (now ++ e ∷ []) × StatesFrom n now rest ids
implied_states n now rest e ids some never states = elim states [
  | inl keep ↦ absurd (some keep.0)
  | inr other ↦ elim other [ inl implied ↦ implied | inr here ↦ absurd (never ((here.picks, here.sums), here.none)) ]
]

run_implied : (n : ℕ) (old all now rest : List Equation) (e : Equation) → IsRun n old all now (e ∷ rest) → AllGive n now e.row e.bit → ((IsSum n now e.row → ⊥) → ⊥) → (IsSum n now e.row × NoneGives n now e.row e.bit → ⊥) → IsRun n old all now rest
run_implied n old all now rest e run gives some never = record {
  longer = run.longer;
  front = run.front;
  wide = run.wide;
  kept = run.kept;
  there = λ x before left. run.there x before (solves_cons n x e rest (gives x before) left);
  back = λ x before given. (let both = run.back x before given in (both.0, λ j less. both.1 (suc j) (omega arith)));
  states = λ ids states. (implied_states n now rest e ids some never (run.states ids states)).2;
  stated = λ ids known states stated.
      (let parts = implied_states n now rest e known some never (run.states known states) in run.stated ids known states (inr (inl (parts.0, parts.1, stated))));
}

pub run_more : (n : ℕ) (old all now rest : List Equation) (e : Equation) (next : List Equation) → length e.row ≡ n → IsRun n old all now (e ∷ rest) → IsTaken n now e next → IsRun n old all next rest
run_more n old all now rest e next size run (IsKept free) = run_kept n old all now rest e size run free
run_more n old all now rest e next size run (IsImplied gives some never) = run_implied n old all now rest e run gives some never

-- a run after which nothing is left
pub run_system : (n : ℕ) (es all : List Equation) (old new : Elimination) → IsSystem n es old → new.columns ≡ n → IsRun n old.kept all new.kept [] → IsSystem n (es ++ all) new
run_system n es all old new is columns run = record {
  columns = columns;
  wide = run.wide is.wide;
  kept = run.kept is.kept;
  there = λ x now. (let both = run.there x now (λ j less. absurd (omega arith)) in solves_join n x es all (is.there x both.0) both.1);
  back = λ x given. (run.back x (is.back x (solves_left n x es all given)) (solves_right n x es all given)).0;
}

-- a run that ends with a conflict
pub run_refused : (n : ℕ) (all rest : List Equation) (e : Equation) (old now new : Elimination) → IsRun n old.kept all now.kept (e ∷ rest) → IsConflict n e now new → IsRefused n all old new
run_refused n all rest e old now new run here = record {
  longer = rw here.kept run.longer;
  front = rw here.kept run.front;
  none = λ x before given. (let both = run.back x before given in here.none x both.0 (both.1 0 (omega arith)));
  is = here.is;
  stated = at new.refused here.refused here.is;
} where
  told : (other : Equation) → other ≡ e → (ids known : List ℕ) → Contradicts n new.kept other ids → StatesFrom n old.kept all known → StatesFrom n old.kept all ids
  told other same ids known contradicts states =
      let first : Contradicts n now.kept e ids = subst (λ (d : Equation). Contradicts n now.kept d ids) same (subst (λ (kept : List Equation). Contradicts n kept other ids) here.kept contradicts) in
      run.stated ids known states (inr (inr first))

  at : (refused : Option Equation) → IfSome refused (λ other. other ≡ e) → IsSome refused →
      IfSome refused (λ other. (ids known : List ℕ) → Contradicts n new.kept other ids → StatesFrom n old.kept all known → StatesFrom n old.kept all ids)
  at None none some = tt
  at (Some other) same some = told other same

-- the stated certificate of equations, the first of which a system without equations refused
pub refused_stated : (n : ℕ) (all : List Equation) (old new : Elimination) (ids : List ℕ) → AreWide n all → old.kept ≡ [] → IsRefused n all old new →
    IfSome new.refused (λ e. Contradicts n new.kept e ids) → StatesCertificate n all ids
refused_stated n all old new ids wide none is contradicts = at new.refused is.is is.stated contradicts where
  unsolved : IsSolvable n all → ⊥
  unsolved solved = is.none solved.0 (rw none (λ j less. absurd (omega arith))) solved.1

  known : (others : List ℕ) × StatesFrom n old.kept all others
  known = let stated = unsolvable_stated n all wide unsolved in (stated.0, subst (λ (kept : List Equation). StatesFrom n kept all stated.0) (sym none) stated.1)

  at : (refused : Option Equation) → IsSome refused → IfSome refused (λ e. (ids known : List ℕ) → Contradicts n new.kept e ids → StatesFrom n old.kept all known → StatesFrom n old.kept all ids) →
      IfSome refused (λ e. Contradicts n new.kept e ids) → StatesCertificate n all ids
  at None some stated here = absurd (false≢true some)
  at (Some e) some stated here = subst (λ (kept : List Equation). StatesFrom n kept all ids) none (stated ids known.0 here known.1)

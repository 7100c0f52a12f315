-- What saves leave, one after another.
use Rattle.std.proofs.Common.{ℕ, ◌≡◌, ◌≤◌, ◌<◌, ◌+◌, length, map, drop, false, List, [], ◌∷◌, ◌++◌, Option, None, Some, refl, sym, ap, ◌∙◌, arith, subst, bytes_eq, Result, Ok, Err, OnErr}
use Rattle.std.specs.Prelude.{slice_index_or}
use Rattle.std.specs.List.{AllByRecursion}
use Rattle.std.proofs.lemmas.List.{append-nil, drop_more}
use Rattle.dft_base.proofs.TextLemmas.{differ}
use Rattle.dft_base.proofs.ListLemmas.{all_append, all_front, all_back}
use Rattle.dft_files.specs.Outside.{Held, LeavesPart, Rose, Told, ToldChange, file_at}
use Rattle.dft_files.specs.Outside as base
use Rattle.dft_top.specs.Saves.{Saving, AreApart, AreSavedBut, HaveSaved, HaveSavedSome, SaveFailed, Stand}

-- ---- lists

-- ---- names

-- a name differs from each of these
abbrev DiffersFrom : List Saving → List ℕ → Type 0
DiffersFrom saved name = AllByRecursion (λ s. bytes_eq s.name name ≡ false) saved

abbrev IsOther : List ℕ → List Saving → Type 0
IsOther name saved = AllByRecursion (λ s. bytes_eq name s.name ≡ false) saved

differs_from : (saved rest : List Saving) (s : Saving) → AreApart (saved ++ s ∷ rest) → DiffersFrom saved s.name
differs_from [] rest s apart = tt
differs_from (t ∷ saved) rest s apart = (differ t.name s.name ((all_back (λ (u : Saving). t.name ≡ u.name → ⊥) saved (s ∷ rest) apart.0).0), differs_from saved rest s apart.1)

is_other : (saved rest : List Saving) (s : Saving) → AreApart (saved ++ s ∷ rest) → IsOther s.name saved
is_other [] rest s apart = tt
is_other (t ∷ saved) rest s apart = (differ s.name t.name (λ e. (all_back (λ (u : Saving). t.name ≡ u.name → ⊥) saved (s ∷ rest) apart.0).0 (sym e)), is_other saved rest s apart.1)

-- ---- files

stand_still : (saved : List Saving) (s : Saving) (mid new : Held) → IsOther s.name saved → base.KeepsOthers s.name mid new → Stand saved mid → Stand saved new
stand_still [] s mid new other kept stand = tt
stand_still (t ∷ saved) s mid new other kept stand = (kept t.name other.0 ∙ stand.0, stand_still saved s mid new other.1 kept stand.1)

one_saved : (s : Saving) (old new : Option Held) → ToldChange (base.KeepsOthers s.name) old new → Told (λ h. file_at s.name h ≡ Some s.bytes) new → HaveSaved (s ∷ []) old new
one_saved s None new kept whole = kept
one_saved s (Some old) None kept whole = kept
one_saved s (Some old) (Some new) kept whole = record { whole = (whole, tt); others = λ name apart. kept name apart.0 }

-- one more file was saved
more_saved : (saved : List Saving) (s : Saving) (old mid new : Option Held) → IsOther s.name saved → HaveSaved saved old mid → ToldChange (base.KeepsOthers s.name) mid new → Told (λ h. file_at s.name h ≡ Some s.bytes) new → HaveSaved (saved ++ s ∷ []) old new
more_saved [] s old mid new other have kept whole = one_saved s old new (subst (λ (h : Option Held). ToldChange (base.KeepsOthers s.name) h new) have kept) whole
more_saved (t ∷ saved) s None None new other have kept whole = kept
more_saved (t ∷ saved) s None (Some mid) new other have kept whole = absurd cc
more_saved (t ∷ saved) s (Some old) None new other have kept whole = absurd have
more_saved (t ∷ saved) s (Some old) (Some mid) None other have kept whole = kept
more_saved (t ∷ saved) s (Some old) (Some mid) (Some new) other have kept whole = record {
  whole = all_append (λ (u : Saving). file_at u.name new ≡ Some u.bytes) (t ∷ saved) (s ∷ []) (stand_still (t ∷ saved) s mid new other kept have.whole) (whole, tt);
  others = λ name apart. kept name (all_back (λ (u : Saving). bytes_eq u.name name ≡ false) (t ∷ saved) (s ∷ []) apart).0 ∙ have.others name (all_front (λ (u : Saving). bytes_eq u.name name ≡ false) (t ∷ saved) (s ∷ []) apart);
}

-- the first of these saves failed
part_first : (s : Saving) (old new : Option Held) → ToldChange (base.KeepsOthers s.name) old new → ToldChange (λ h h'. LeavesPart s.bytes (file_at s.name h) (file_at s.name h')) old new → ToldChange (AreSavedBut [] s) old new
part_first s None new kept part = kept
part_first s (Some old) None kept part = kept
part_first s (Some old) (Some new) kept part = record { whole = tt; part = part; others = λ name apart. kept name apart.0 }

-- the next save failed
part_saved : (saved : List Saving) (s : Saving) (old mid new : Option Held) → IsOther s.name saved → DiffersFrom saved s.name → HaveSaved saved old mid → ToldChange (base.KeepsOthers s.name) mid new →
    ToldChange (λ h h'. LeavesPart s.bytes (file_at s.name h) (file_at s.name h')) mid new → ToldChange (AreSavedBut saved s) old new
part_saved [] s old mid new other differs have kept part = part_first s old new (subst (λ (h : Option Held). ToldChange (base.KeepsOthers s.name) h new) have kept)
    (subst (λ (h : Option Held). ToldChange (λ h h'. LeavesPart s.bytes (file_at s.name h) (file_at s.name h')) h new) have part)
part_saved (t ∷ saved) s None None new other differs have kept part = kept
part_saved (t ∷ saved) s None (Some mid) new other differs have kept part = absurd cc
part_saved (t ∷ saved) s (Some old) None new other differs have kept part = absurd have
part_saved (t ∷ saved) s (Some old) (Some mid) None other differs have kept part = kept
part_saved (t ∷ saved) s (Some old) (Some mid) (Some new) other differs have kept part = record {
  whole = stand_still (t ∷ saved) s mid new other kept have.whole;
  part = subst (λ (file : Option (List ℕ)). LeavesPart s.bytes file (file_at s.name new)) (have.others s.name differs) part;
  others = λ name apart. kept name apart.0 ∙ have.others name apart.1;
}

-- ---- saves in turn

-- of all these saves the first are done, and these are left; memory sufficed
pub record AreLeft (all rest : List Saving) (old now : Option Held) (faults faults' short short' : ℕ) : Type 0 where
  pub saved : List Saving
  pub in_order : all ≡ saved ++ rest
  pub files : HaveSaved saved old now
  pub more : faults ≤ faults'
  pub enough : short' ≡ short

pub all_left : (all : List Saving) (held : Option Held) (faults short : ℕ) → AreLeft all all held held faults faults short short
all_left all held faults short = record { saved = []; in_order = refl; files = refl; more = omega arith; enough = refl }

-- what a save that ends with Ok says
pub record IsSave (s : Saving) (old new : Option Held) (faults faults' short short' : ℕ) : Type 0 where
  pub whole : Told (λ h. file_at s.name h ≡ Some s.bytes) new
  pub others : ToldChange (base.KeepsOthers s.name) old new
  pub more : faults ≤ faults'
  pub enough : short' ≡ short

end_first : {X : Type 0} (xs ys : List X) (y : X) → (xs ++ y ∷ []) ++ ys ≡ xs ++ y ∷ ys
end_first [] ys y = refl
end_first (x ∷ xs) ys y = ap (λ zs. x ∷ zs) (end_first xs ys y)

-- the next of what is left
pub next_left : {X : Type 0} (f : X → Saving) (all : List Saving) (xs : List X) (k : ℕ) (d : X) (old now : Option Held) (faults faults' short short' : ℕ) → k < length xs →
    AreLeft all (map f (drop k xs)) old now faults faults' short short' → AreLeft all (f (slice_index_or xs k d) ∷ map f (drop (k + 1) xs)) old now faults faults' short short'
next_left {X} f all xs k d old now faults faults' short short' less left = subst (λ (rest : List X). AreLeft all (map f rest) old now faults faults' short short') (drop_more xs k d less) left

pub one_less : (all rest : List Saving) (s : Saving) (old mid new : Option Held) (faults between faults' short amid short' : ℕ) → AreApart all → AreLeft all (s ∷ rest) old mid faults between short amid → IsSave s mid new between faults' amid short' →
    AreLeft all rest old new faults faults' short short'
one_less all rest s old mid new faults between faults' short amid short' apart left saved = record {
  saved = left.saved ++ s ∷ [];
  in_order = left.in_order ∙ sym (end_first left.saved rest s);
  files = more_saved left.saved s old mid new (is_other left.saved rest s (subst AreApart left.in_order apart)) left.files saved.others saved.whole;
  more = omega (arith, left.more, saved.more);
  enough = saved.enough ∙ left.enough;
}

pub none_left : (all : List Saving) (old now : Option Held) (faults faults' short short' : ℕ) → AreLeft all [] old now faults faults' short short' → HaveSaved all old now
none_left all old now faults faults' short short' left = subst (λ (saved : List Saving). HaveSaved saved old now) (sym (left.in_order ∙ append-nil left.saved)) left.files

-- the next save failed
pub next_fails : (all rest : List Saving) (s : Saving) (old mid new : Option Held) (failed : List ℕ) (faults between faults' short amid : ℕ) → (apart : AreApart all) → (left : AreLeft all (s ∷ rest) old mid faults between short amid) → (kept : ToldChange (base.KeepsOthers s.name) mid new) →
    (part : ToldChange (λ h h'. LeavesPart s.bytes (file_at s.name h) (file_at s.name h')) mid new) → (name : failed ≡ s.name) → (rose : Rose between faults') → SaveFailed all old new failed faults faults'
next_fails all rest s old mid new failed faults between faults' short amid apart left kept part name rose =
    let split = subst AreApart left.in_order apart in record {
      saved = left.saved;
      failing = s;
      rest = rest;
      in_order = left.in_order;
      files = part_saved left.saved s old mid new (is_other left.saved rest s split) (differs_from left.saved rest s split) left.files kept part;
      failed_name = name;
      rose = omega (arith, left.more, rose);
    }

-- memory ran out in the next save
pub next_runs_out : (all rest : List Saving) (old mid new : Option Held) (faults faults' short short' : ℕ) → AreLeft all rest old mid faults faults' short short' → new ≡ mid → HaveSavedSome all old new
next_runs_out all rest old mid new faults faults' short short' left same = record {
  saved = left.saved;
  rest = rest;
  in_order = left.in_order;
  files = subst (λ (files : Option Held). HaveSaved left.saved old files) (sym same) left.files;
}

-- what an error says, where it says it of what follows
pub on_err : {T E : Type 0} (r : Result T E) (P Q : Type 0) → (P → Q) → OnErr r P → OnErr r Q
on_err (Ok value) P Q f p = tt
on_err (Err error) P Q f p = f p

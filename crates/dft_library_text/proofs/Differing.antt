-- Names are looked for among those that were seen before.
use Rattle.std.proofs.Common.{ℕ, ◌≡◌, ◌+◌, ◌<◌, Bool, true, false, not, ◌||◌, List, [], ◌∷◌, ◌++◌, map, length, take, drop, get_or, Ordering, Less, Equal, Greater, nat_cmp, is_eq, Vec, Global, subst, refl, sym, ap, ◌∙◌}
use Rattle.std.specs.List.{list_any}
use Rattle.std.specs.Str.{bytes_eq}
use Rattle.std.specs.Ordering.{match_ordering}
use Rattle.std.specs.Cmp.Lexicographic.{slice_cmp}
use Rattle.std.specs.BTreeSet.{insert_key}
use Rattle.std.specs.BTreeMap.{is_at}
use Rattle.std.proofs.lemmas.Bool.{and_parts, false≢true, or_parts, not-true, not-false}
use Rattle.std.proofs.lemmas.List.{take_more, take-append-drop, drop_more, map-append}
use Rattle.std.proofs.lemmas.Map.Text.{is_eq-slice_cmp}
use Rattle.std.proofs.lemmas.Slice.Eq.{bytes_eq-Decides}
use Rattle.dft_base.proofs.SumLemmas.{and_false}
use Rattle.dft_base.proofs.TextLemmas.{bytes_eq-comm}
use Rattle.dft_base.proofs.BitLemmas.{or_swap}
use Rattle.dft_cells.specs.declared.cell.Pin.{Pin}
use Rattle.dft_cells.specs.WellFormed.{has_name, all_differ, pin_name}

abbrev pub Key : Type 0
Key = Vec ℕ Global

-- the order of two keys, by their bytes
abbrev pub key_order : Key → Key → Ordering
key_order a b = slice_cmp nat_cmp a.items b.items

-- whether one of the keys has these bytes
abbrev pub seen : List Key → List ℕ → Bool
seen keys name = list_any (λ (key : Key). bytes_eq key.items name) keys

-- the keys are those of the names
abbrev pub AreSeen : List Key → List (List ℕ) → Type 0
AreSeen keys names = (name : List ℕ) → seen keys name ≡ has_name names name

or_twice : (a b : Bool) → (a || b) ≡ (a || (a || b))
or_twice true b = refl
or_twice false b = refl

or_end : (a b : Bool) → (a || b) ≡ (b || a)
or_end true true = refl
or_end true false = refl
or_end false true = refl
or_end false false = refl

equal_items : (a b name : List ℕ) → slice_cmp nat_cmp a b ≡ Equal → bytes_eq b name ≡ bytes_eq a name
equal_items a b name e =
    let same = (bytes_eq-Decides a b).0 (sym (is_eq-slice_cmp a b) ∙ ap is_eq e) in
    ap (λ (l : List ℕ). bytes_eq l name) (sym same)

inserted_by : (o : Ordering) (key x : Key) (xs rest : List Key) (name : List ℕ) → key_order key x ≡ o → seen rest name ≡ (bytes_eq key.items name || seen xs name)
    → seen (match_ordering o (key ∷ x ∷ xs) (x ∷ xs) (x ∷ rest)) name ≡ (bytes_eq key.items name || (bytes_eq x.items name || seen xs name))
inserted_by Less key x xs rest name e h = refl
inserted_by Equal key x xs rest name e h = rw (equal_items key.items x.items name e) (or_twice (bytes_eq key.items name) (seen xs name))
inserted_by Greater key x xs rest name e h = rw h (or_swap (bytes_eq x.items name) (bytes_eq key.items name) (seen xs name))

inserted_seen : (keys : List Key) (key : Key) (name : List ℕ) → seen (insert_key key_order keys key) name ≡ (bytes_eq key.items name || seen keys name)
inserted_seen [] key name = refl
inserted_seen (x ∷ xs) key name = inserted_by (key_order key x) key x xs (insert_key key_order xs key) name refl (inserted_seen xs key name)

-- a key is there where its bytes are
pub there : (keys : List Key) (key : Key) → list_any (is_at (key_order key)) keys ≡ seen keys key.items
there [] key = refl
there (x ∷ xs) key = rw (is_eq-slice_cmp key.items x.items, bytes_eq-comm key.items x.items, there xs key)

named_pushed : (names : List (List ℕ)) (last name : List ℕ) → has_name (names ++ last ∷ []) name ≡ (bytes_eq last name || has_name names name)
named_pushed [] last name = refl
named_pushed (x ∷ names) last name = rw (named_pushed names last name) (or_swap (bytes_eq x name) (bytes_eq last name) (has_name names name))

-- one name more
pub seen_more : (keys : List Key) (key : Key) (names : List (List ℕ)) → AreSeen keys names → AreSeen (insert_key key_order keys key) (names ++ key.items ∷ [])
seen_more keys key names h name = inserted_seen keys key name ∙ ap (λ (b : Bool). bytes_eq key.items name || b) (h name) ∙ sym (named_pushed names key.items name)

-- names that differ, and a name that is none of them
pub differ_more : (names : List (List ℕ)) (last : List ℕ) → all_differ names ≡ true → has_name names last ≡ false → all_differ (names ++ last ∷ []) ≡ true
differ_more [] last d h = refl
differ_more (x ∷ names) last d h =
    let (apart, rest) = and_parts (not (has_name names x)) (all_differ names) d in
    let (here, later) = or_parts (bytes_eq x last) (has_name names last) h in
    rw (named_pushed names last x, bytes_eq-comm last x, here, not-true (has_name names x) apart, differ_more names last rest later)

named_within : (names rest : List (List ℕ)) (last name : List ℕ) → bytes_eq last name ≡ true → has_name (names ++ last ∷ rest) name ≡ true
named_within [] rest last name e = rw e
named_within (x ∷ names) rest last name e = rw (named_within names rest last name e) (or_end (bytes_eq x name) true)

differ_not : (same : Bool) (x last : List ℕ) (names rest : List (List ℕ)) → bytes_eq x last ≡ same → (same || has_name names last) ≡ true
    → (has_name names last ≡ true → all_differ (names ++ last ∷ rest) ≡ false) → all_differ (x ∷ names ++ last ∷ rest) ≡ false
differ_not true x last names rest e h more = rw (named_within names rest last x (bytes_eq-comm last x ∙ e))
differ_not false x last names rest e h more = rw (more h) (and_false (not (has_name (names ++ last ∷ rest) x)))

-- names of which one stands among those before it do not differ
pub not_differing : (names rest : List (List ℕ)) (last : List ℕ) → has_name names last ≡ true → all_differ (names ++ last ∷ rest) ≡ false
not_differing [] rest last h = absurd (false≢true h)
not_differing (x ∷ names) rest last h = differ_not (bytes_eq x last) x last names rest refl h (not_differing names rest last)

-- the names of the first pins, and one more
pub first_names : (pins : List Pin) (i : ℕ) (d : Pin) → i < length pins → map pin_name (take (i + 1) pins) ≡ map pin_name (take i pins) ++ (get_or pins i d).name ∷ []
first_names pins i d less = rw (take_more pins i d less) (map-append pin_name (take i pins) (get_or pins i d ∷ []))

pub all_names : (pins : List Pin) (i : ℕ) (d : Pin) → i < length pins → map pin_name pins ≡ map pin_name (take i pins) ++ (get_or pins i d).name ∷ map pin_name (drop (i + 1) pins)
all_names pins i d less =
    ap (map pin_name) (sym (take-append-drop i pins)) ∙ map-append pin_name (take i pins) (drop i pins)
    ∙ ap (λ (l : List Pin). map pin_name (take i pins) ++ map pin_name l) (drop_more pins i d less)

-- a key that is new, and a key that was seen, among the names of the first pins
module _ (keys : List Key) (key : Key) (pins : List Pin) (i : ℕ) (pin : Pin) (added : Bool) (less : i < length pins) (at : pin ≡ get_or pins i pin) (items : key.items ≡ pin.name)
    (is_added : added ≡ not (list_any (is_at (key_order key)) keys)) (h : AreSeen keys (map pin_name (take i pins))) where
  name_is : (get_or pins i pin).name ≡ key.items
  name_is = ap pin_name (sym at) ∙ sym items

  looked_up : list_any (is_at (key_order key)) keys ≡ has_name (map pin_name (take i pins)) key.items
  looked_up = there keys key ∙ h key.items

  grown : map pin_name (take (i + 1) pins) ≡ map pin_name (take i pins) ++ key.items ∷ []
  grown = first_names pins i pin less ∙ ap (λ (name : List ℕ). map pin_name (take i pins) ++ name ∷ []) name_is

  pub seen_grows : (new : List Key) → new ≡ insert_key key_order keys key → AreSeen new (map pin_name (take (i + 1) pins))
  seen_grows new is =
      subst (λ (names : List (List ℕ)). AreSeen new names) (sym grown)
      (subst (λ (ks : List Key). AreSeen ks (map pin_name (take i pins) ++ key.items ∷ [])) (sym is) (seen_more keys key (map pin_name (take i pins)) h))

  pub differ_grows : added ≡ true → all_differ (map pin_name (take i pins)) ≡ true → all_differ (map pin_name (take (i + 1) pins)) ≡ true
  differ_grows new d =
      let absent = sym looked_up ∙ not-true (list_any (is_at (key_order key)) keys) (sym is_added ∙ new) in
      rw grown (differ_more (map pin_name (take i pins)) key.items d absent)

  pub repeated : added ≡ false → all_differ (map pin_name pins) ≡ false
  repeated old =
      let present = sym looked_up ∙ not-false (list_any (is_at (key_order key)) keys) (sym is_added ∙ old) in
      let whole = all_names pins i pin less ∙ ap (λ (name : List ℕ). map pin_name (take i pins) ++ name ∷ map pin_name (drop (i + 1) pins)) name_is in
      rw whole (not_differing (map pin_name (take i pins)) (map pin_name (drop (i + 1) pins)) key.items present)

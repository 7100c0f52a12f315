-- Names of a netlist and the table that knows them.
use Rattle.std.proofs.Common.{◌≡◌, ℕ, zero, suc, Bool, true, false, cond, ◌||◌, List, [], ◌∷◌, ◌++◌, Option, None, Some, is_some, refl, sym, ◌∙◌, ap, subst, true≢false, ◌⊎◌, inl, inr, slice_get}
use Rattle.std.specs.List.{filter_map, cons_option}
use Rattle.std.specs.Option.{option_and_then}
use Rattle.std.specs.Str.{bytes_eq}
use Rattle.std.proofs.lemmas.Bool.{or_cases, or_from}
use Rattle.dft_cells.specs.WellFormed.{has_name}
use Rattle.dft_netlist.specs.declared.named.Named.{Named}
use Rattle.dft_netlist.specs.declared.named.Named.TheVariants.{Net, Vector, Instance}
use Rattle.dft_netlist.specs.Netlist.{Netlist}
use Rattle.dft_netlist.specs.Names.{Names, NamesDiffer, is_taken, first_taken, vector_name, instance_name, IsNamed}
use Rattle.dft_netlist.specs.NameTables.{Entry, look_up, Knows, IsFree}
use Rattle.dft_netlist.specs.Building.{own_names}
use Rattle.dft_base.specs.Lexing.{Text}
use Rattle.dft_base.proofs.BitLemmas.{or_true, or_assoc}
use Rattle.dft_base.proofs.TextLemmas.{same_text, bytes_eq-self}

-- ---- equal texts

-- ---- a table with one entry more

choose_same : (t : Bool) (x r r' : Option Named) (a : Named) → (r ≡ Some a → r' ≡ Some a) → cond t x r ≡ Some a → cond t x r' ≡ Some a
choose_same true x r r' a f h = h
choose_same false x r r' a f h = f h

pub found_stays : (es : List Entry) (e : Entry) (q : Text) (a : Named) → look_up es q ≡ Some a → look_up (es ++ e ∷ []) q ≡ Some a
found_stays [] e q a h = absurd (cc)
found_stays (d ∷ es) e q a h = choose_same (bytes_eq q d.0) (Some d.1) (look_up es q) (look_up (es ++ e ∷ []) q) a (found_stays es e q a) h

choose_none : (t : Bool) (v : Named) (r r' : Option Named) (a : Named) → (r ≡ None → r' ≡ Some a) → cond t (Some v) r ≡ None → cond t (Some v) r' ≡ Some a
choose_none true v r r' a f h = absurd (cc)
choose_none false v r r' a f h = f h

pub new_found : (es : List Entry) (q : Text) (a : Named) → look_up es q ≡ None → look_up (es ++ (q, a) ∷ []) q ≡ Some a
new_found [] q a h = rw (bytes_eq-self q) refl
new_found (d ∷ es) q a h = choose_none (bytes_eq q d.0) d.1 (look_up es q) (look_up (es ++ (q, a) ∷ []) q) a (new_found es q a) h

abbrev pub IsEntry : Entry → Text → Named → Type 0
IsEntry e q a = (q ≡ e.0) × (e.1 ≡ a)

one_case : (t : Bool) (e : Entry) (q : Text) (a : Named) → bytes_eq q e.0 ≡ t → cond t (Some e.1) None ≡ Some a → IsEntry e q a
one_case true e q a is h = (same_text q e.0 is, cc)
one_case false e q a is h = absurd (cc)

choose_cases : (t : Bool) (v : Named) (r r' : Option Named) (a : Named) (P : Type 0) → (r' ≡ Some a → (r ≡ Some a) ⊎ P) → cond t (Some v) r' ≡ Some a → (cond t (Some v) r ≡ Some a) ⊎ P
choose_cases true v r r' a P f h = inl h
choose_cases false v r r' a P f h = f h

pub found_cases : (es : List Entry) (e : Entry) (q : Text) (a : Named) → look_up (es ++ e ∷ []) q ≡ Some a → (look_up es q ≡ Some a) ⊎ IsEntry e q a
found_cases [] e q a h = inr (one_case (bytes_eq q e.0) e q a refl h)
found_cases (d ∷ es) e q a h = choose_cases (bytes_eq q d.0) d.1 (look_up es q) (look_up (es ++ e ∷ []) q) a (IsEntry e q a) (found_cases es e q a) h

-- ---- a netlist with one name more

-- new has the names of old, and one more, which stands for this
pub record Adds (old new : Netlist) (name : Text) (named : Named) : Type 0 where
  pub kept : (q : Text) (a : Named) → Names old q a → Names new q a
  pub only : (q : Text) (a : Named) → Names new q a → Names old q a ⊎ IsEntry (name, named) q a
  pub here : Names new name named

pub knows_more : (es : List Entry) (old new : Netlist) (name : Text) (named : Named) → Knows es old → look_up es name ≡ None → Adds old new name named → Knows (es ++ (name, named) ∷ []) new
knows_more es old new name named k none adds = record {
  says = λ q a h. elim (found_cases es (name, named) q a h) [
    | inl was ↦ adds.kept q a (k.says q a was)
    | inr is ↦ subst (λ x. Names new x a) (sym is.0) (subst (λ b. Names new name b) is.1 adds.here)
  ];
  knows = λ q a h. elim (adds.only q a h) [
    | inl was ↦ found_stays es (name, named) q a (k.knows q a was)
    | inr is ↦ subst (λ x. look_up (es ++ (name, named) ∷ []) x ≡ Some a) (sym is.0) (subst (λ b. look_up (es ++ (name, named) ∷ []) name ≡ Some b) is.1 (new_found es name named none))
  ];
}

-- the names are the same
pub record SameNames (old new : Netlist) : Type 0 where
  pub kept : (q : Text) (a : Named) → Names old q a → Names new q a
  pub only : (q : Text) (a : Named) → Names new q a → Names old q a

pub knows_same : (es : List Entry) (old new : Netlist) → Knows es old → SameNames old new → Knows es new
knows_same es old new k same = record { says = λ q a h. same.kept q a (k.says q a h); knows = λ q a h. k.knows q a (same.only q a h) }

-- names that a table knows differ
pub differ_of : (es : List Entry) (n : Netlist) → Knows es n → NamesDiffer n
differ_of es n k = λ q a b ha hb.
    let e : Some a ≡ Some b = sym (k.knows q a ha) ∙ k.knows q b hb in cc

-- ---- names that are taken

pub has-append : (xs ys : List Text) (q : Text) → has_name (xs ++ ys) q ≡ (has_name xs q || has_name ys q)
has-append [] ys q = refl
has-append (x ∷ xs) ys q = rw (has-append xs ys q) (sym (or_assoc (bytes_eq x q) (has_name xs q) (has_name ys q)))

pub has_here : (xs : List Text) (k : ℕ) (q : Text) → slice_get xs k ≡ Some q → has_name xs q ≡ true
has_here [] k q h = absurd (cc)
has_here (x ∷ xs) zero q h = let e : x ≡ q = cc in rw (e, bytes_eq-self q) refl
has_here (x ∷ xs) (suc k) q h = rw (has_here xs k q h) (or_true (bytes_eq x q))

pub has_where : (xs : List Text) (q : Text) → has_name xs q ≡ true → (k : ℕ) × (slice_get xs k ≡ Some q)
has_where [] q h = absurd (cc)
has_where (x ∷ xs) q h = elim (or_cases (bytes_eq x q) (has_name xs q) h) [
  | inl is ↦ (0, ap Some (same_text x q is))
  | inr more ↦ (let r = has_where xs q more in (suc r.0, r.1))
]

module _ {X : Type 0} (f : X → Option Text) where
  cons_here : (o : Option Text) (names : List Text) (q : Text) → o ≡ Some q → has_name (cons_option o names) q ≡ true
  cons_here None names q h = absurd (cc)
  cons_here (Some x) names q h = let e : x ≡ q = cc in rw (e, bytes_eq-self q) refl

  cons_later : (o : Option Text) (names : List Text) (q : Text) → has_name names q ≡ true → has_name (cons_option o names) q ≡ true
  cons_later None names q h = h
  cons_later (Some x) names q h = rw h (or_true (bytes_eq x q))

  cons_cases : (o : Option Text) (names : List Text) (q : Text) → has_name (cons_option o names) q ≡ true → (o ≡ Some q) ⊎ (has_name names q ≡ true)
  cons_cases None names q h = inr h
  cons_cases (Some x) names q h = elim (or_cases (bytes_eq x q) (has_name names q) h) [ inl is ↦ inl (ap Some (same_text x q is)) | inr more ↦ inr more ]

  has_here_shown : (xs : List X) (k : ℕ) (q : Text) → option_and_then f (slice_get xs k) ≡ Some q → has_name (filter_map f xs) q ≡ true
  has_here_shown [] k q h = absurd (cc)
  has_here_shown (x ∷ xs) zero q h = cons_here (f x) (filter_map f xs) q h
  has_here_shown (x ∷ xs) (suc k) q h = cons_later (f x) (filter_map f xs) q (has_here_shown xs k q h)

  has_where_shown : (xs : List X) (q : Text) → has_name (filter_map f xs) q ≡ true → (k : ℕ) × (option_and_then f (slice_get xs k) ≡ Some q)
  has_where_shown [] q h = absurd (cc)
  has_where_shown (x ∷ xs) q h = elim (cons_cases (f x) (filter_map f xs) q h) [
    | inl is ↦ (0, is)
    | inr more ↦ (let r = has_where_shown xs q more in (suc r.0, r.1))
  ]

taken_parts : (n : Netlist) (q : Text) → is_taken n q ≡ (has_name n.nets q || (has_name (filter_map vector_name n.ports) q || has_name (filter_map instance_name n.instances) q))
taken_parts n q = has-append n.nets (filter_map vector_name n.ports ++ filter_map instance_name n.instances) q ∙ ap (λ t. has_name n.nets q || t) (has-append (filter_map vector_name n.ports) (filter_map instance_name n.instances) q)

pub named_is_taken : (n : Netlist) (q : Text) (a : Named) → Names n q a → is_taken n q ≡ true
named_is_taken n q (Net net) h = taken_parts n q ∙ rw (has_here n.nets net.0 q h) refl
named_is_taken n q (Vector port) h = taken_parts n q ∙ rw (has_here_shown vector_name n.ports port.0 q h) (or_true (has_name n.nets q))
named_is_taken n q (Instance id) h = taken_parts n q ∙ rw (has_here_shown instance_name n.instances id.0 q h, or_true (has_name (filter_map vector_name n.ports) q)) (or_true (has_name n.nets q))

pub taken_is_named : (n : Netlist) (q : Text) → is_taken n q ≡ true → (a : Named) × Names n q a
taken_is_named n q h = elim (or_cases _ _ (sym (taken_parts n q) ∙ h)) [
  | inl net ↦ (let r = has_where n.nets q net in (Net (record { 0 = r.0 }), r.1))
  | inr more ↦ elim (or_cases (has_name (filter_map vector_name n.ports) q) (has_name (filter_map instance_name n.instances) q) more) [
    | inl port ↦ (let r = has_where_shown vector_name n.ports q port in (Vector (record { 0 = r.0 }), r.1))
    | inr id ↦ (let r = has_where_shown instance_name n.instances q id in (Instance (record { 0 = r.0 }), r.1))
  ]
]

not_taken : (n : Netlist) (q : Text) (t : Bool) → ((a : Named) → Names n q a → ⊥) → is_taken n q ≡ t → is_taken n q ≡ false
not_taken n q true none h = let r = taken_is_named n q h in absurd (none r.0 r.1)
not_taken n q false none h = h

-- the table tells whether a name is taken
pub taken_of : (es : List Entry) (n : Netlist) (q : Text) (r : Option Named) → Knows es n → look_up es q ≡ r → is_taken n q ≡ is_some r
taken_of es n q (Some a) k h = named_is_taken n q a (k.says q a h)
taken_of es n q None k h = not_taken n q (is_taken n q) (λ a is. let e : Some a ≡ None = sym (k.knows q a is) ∙ h in absurd (let f : ⊥ = cc in f)) refl

-- and what it stands for
pub named_of : (es : List Entry) (n : Netlist) (q : Text) (r : Option Named) → Knows es n → look_up es q ≡ r → IsNamed n q r
named_of es n q (Some a) k h = k.says q a h
named_of es n q None k h = λ a is. let e : Some a ≡ None = sym (k.knows q a is) ∙ h in let f : ⊥ = cc in f

-- a name that is not taken is not in the table
pub free_look_up : (es : List Entry) (n : Netlist) (q : Text) (r : Option Named) → Knows es n → is_taken n q ≡ false → look_up es q ≡ r → look_up es q ≡ None
free_look_up es n q None k free h = h
free_look_up es n q (Some a) k free h = absurd (true≢false (sym (taken_of es n q (Some a) k h) ∙ free))

only_free : (n : Netlist) (q : Text) (t : Bool) → is_taken n q ≡ t → cond t (Some q) None ≡ None → is_taken n q ≡ false
only_free n q true is h = absurd (let f : ⊥ = cc in f)
only_free n q false is h = is

pub own_free_look_up : (es : List Entry) (n : Netlist) (name : Option Text) → Knows es n → first_taken n (own_names name) ≡ None → IsFree es name
own_free_look_up es n None k h = tt
own_free_look_up es n (Some q) k h = free_look_up es n q (look_up es q) k (only_free n q (is_taken n q) refl h) refl

-- where none of two lists has the name, none of the two together has it
pub none_append : (xs ys : List Text) (q : Text) → has_name xs q ≡ false → has_name ys q ≡ false → has_name (xs ++ ys) q ≡ false
none_append xs ys q first second = has-append xs ys q ∙ or_from (has_name xs q) (has_name ys q) first second

-- Files with one name at new bytes.
use Rattle.std.proofs.Common.{◌≡◌, ℕ, zero, suc, ◌+◌, ◌<◌, Bool, true, false, cond, List, [], ◌∷◌, ◌++◌, length, set, get_or, Option, Some, None, String, Vec, string_bytes, ap, sym, ◌∙◌, refl, arith}
use Rattle.std.proofs.lemmas.Slice.Eq.{bytes_eq-Decides}
use Rattle.std.proofs.lemmas.Iterator.Adapters.{position_from-zero}
use Rattle.std.proofs.lemmas.List.Quantifiers.{position-Some}
use Rattle.std.specs.List.{position, position_from}
use Rattle.std.specs.Str.{bytes_eq}
use Rattle.std.specs.declared.alloc.Global.{Global}
use Rattle.dft_files.specs.Entries.{held_of}
use Rattle.dft_files.specs.Outside.{Held, file_at, KeepsOthers}
use Rattle.dft_files.specs.Store.{with_file}

abbrev pub Entry : Type 0
Entry = String Global × Vec ℕ Global

-- the entry has this name
abbrev pub has_name : List ℕ → Entry → Bool
has_name name e = bytes_eq name (string_bytes e.0)

with_file-next : (name bytes : List ℕ) (e : List ℕ × List ℕ) (es : Held) → bytes_eq name e.0 ≡ false
    → with_file name bytes (e ∷ es) ≡ e ∷ with_file name bytes es
with_file-next name bytes e es other = rw other refl

with_file-here : (name bytes : List ℕ) (e : List ℕ × List ℕ) (es : Held) → bytes_eq name e.0 ≡ true
    → with_file name bytes (e ∷ es) ≡ (e.0, bytes) ∷ es
with_file-here name bytes e es this = rw this refl

-- new bytes at the first entry of this name
pub with_file-set : (name : List ℕ) (bytes : Vec ℕ Global) (entries : List Entry) (i : ℕ) (d : Entry) → i < length entries
    → has_name name (get_or entries i d) ≡ true → ((k : ℕ) → k < i → has_name name (get_or entries k d) ≡ false)
    → held_of (set entries i ((get_or entries i d).0, bytes)) ≡ with_file name bytes.items (held_of entries)
with_file-set name bytes [] i d within this before = absurd (omega arith)
with_file-set name bytes (e ∷ es) zero d within this before = sym (with_file-here name bytes.items (string_bytes e.0, e.1.items) (held_of es) this)
with_file-set name bytes (e ∷ es) (suc i) d within this before =
    ap (λ (xs : Held). (string_bytes e.0, e.1.items) ∷ xs) (with_file-set name bytes es i d (omega arith) this (λ k below. before (suc k) (omega arith)))
    ∙ sym (with_file-next name bytes.items (string_bytes e.0, e.1.items) (held_of es) (before 0 (omega arith)))

-- a new entry behind those of other names
pub with_file-push : (name bytes : List ℕ) (entries : List Entry) (k : ℕ) → position_from (has_name name) k entries ≡ None
    → with_file name bytes (held_of entries) ≡ held_of entries ++ (name, bytes) ∷ []
with_file-push name bytes [] k none = refl
with_file-push name bytes (e ∷ es) k none = by (has_name name e) refl (with_file-push name bytes es (k + 1))
  where
    by : (b : Bool) → has_name name e ≡ b
        → (position_from (has_name name) (k + 1) es ≡ None → with_file name bytes (held_of es) ≡ held_of es ++ (name, bytes) ∷ [])
        → with_file name bytes (held_of (e ∷ es)) ≡ held_of (e ∷ es) ++ (name, bytes) ∷ []
    by true this ih = let found : Some k ≡ None = rw this at none in cc
    by false other ih =
        let rest = rw other at none in
        with_file-next name bytes (string_bytes e.0, e.1.items) (held_of es) other ∙ ap (λ (xs : Held). (string_bytes e.0, e.1.items) ∷ xs) (ih rest)

pub file_at-with_file : (name bytes : List ℕ) (held : Held) → file_at name (with_file name bytes held) ≡ Some bytes
file_at-with_file name bytes [] = rw ((bytes_eq-Decides name name).1 refl) refl
file_at-with_file name bytes (e ∷ es) = by (bytes_eq name e.0) refl (file_at-with_file name bytes es)
  where
    by : (b : Bool) → bytes_eq name e.0 ≡ b → file_at name (with_file name bytes es) ≡ Some bytes → file_at name (with_file name bytes (e ∷ es)) ≡ Some bytes
    by true this ih = rw (with_file-here name bytes e es this, this) refl
    by false other ih = rw (with_file-next name bytes e es other, other) ih

-- a name that has another name's bytes is that name
one_name : (a b c : List ℕ) → bytes_eq a b ≡ true → bytes_eq a c ≡ false → bytes_eq c b ≡ false
one_name a b c same apart = by (bytes_eq c b) refl
  where
    by : (t : Bool) → bytes_eq c b ≡ t → bytes_eq c b ≡ false
    by false is = is
    by true is =
        let c_is_b : c ≡ b = (bytes_eq-Decides c b).0 is in
        let a_is_b : a ≡ b = (bytes_eq-Decides a b).0 same in
        let met : bytes_eq a c ≡ true = (bytes_eq-Decides a c).1 (a_is_b ∙ sym c_is_b) in
        cc

pub KeepsOthers-with_file : (name bytes : List ℕ) (held : Held) → KeepsOthers name held (with_file name bytes held)
KeepsOthers-with_file name bytes [] other apart = rw (one_name name name other ((bytes_eq-Decides name name).1 refl) apart) refl
KeepsOthers-with_file name bytes (e ∷ es) other apart = by (bytes_eq name e.0) refl (KeepsOthers-with_file name bytes es other apart)
  where
    by : (b : Bool) → bytes_eq name e.0 ≡ b → file_at other (with_file name bytes es) ≡ file_at other es
        → file_at other (with_file name bytes (e ∷ es)) ≡ file_at other (e ∷ es)
    by true this ih = rw (with_file-here name bytes e es this, one_name name e.0 other this apart) refl
    by false apart_too ih = rw (with_file-next name bytes e es apart_too) (ap (λ (r : Option (List ℕ)). cond (bytes_eq other e.0) (Some e.1) r) ih)

-- the entry at the place of a name gets new bytes
pub held_of-set : (name : List ℕ) (bytes : Vec ℕ Global) (entries : List Entry) (i : ℕ) (d : Entry) → position (has_name name) entries ≡ Some i
    → held_of (set entries i ((get_or entries i d).0, bytes)) ≡ with_file name bytes.items (held_of entries)
held_of-set name bytes entries i d found =
    let at = position-Some (has_name name) entries i d found in
    with_file-set name bytes entries i d at.0 at.1 at.2

-- a name that has no place comes behind the others
pub held_of-push : (name bytes : List ℕ) (entries : List Entry) → position (has_name name) entries ≡ None
    → held_of entries ++ (name, bytes) ∷ [] ≡ with_file name bytes (held_of entries)
held_of-push name bytes entries none =
    sym (with_file-push name bytes entries 0 (sym (position_from-zero (has_name name) entries) ∙ none))

-- what new bytes at a name mean for it and for the others
pub ruleset saves = (file_at-with_file, KeepsOthers-with_file)

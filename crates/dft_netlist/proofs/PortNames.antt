-- The printed names of a port's bits differ, and those of a port that is not refused are new.
use Rattle.std.proofs.Common.{◌≡◌, ℕ, zero, suc, ◌+◌, ◌-◌, ◌<◌, ◌^◌, Bool, true, false, List, [], ◌∷◌, ◌++◌, length, map, Option, None, Some, refl, sym, ◌∙◌, ap, arith, slice_get, length-append, append-nil}
use Rattle.std.proofs.lemmas.List.{append_cancel_left, append_cancel_right}
use Rattle.std.specs.Fmt.{decimal}
use Rattle.std.proofs.lemmas.Fmt.{decimal_injective}
use Rattle.std.proofs.lemmas.Option.{slice_get_within}
use Rattle.dft_base.specs.declared.place.Range.{Range}
use Rattle.dft_netlist.specs.declared.named.Named.{Named}
use Rattle.dft_netlist.specs.Netlist.{Netlist}
use Rattle.dft_netlist.specs.Names.{is_taken, first_taken, bit_name, bit_names, port_names, vector_name_in, indices_of}
use Rattle.dft_netlist.specs.NameTables.{Entry, look_up, own_entries, Knows, AreNew, AllDiffer, IsFree}
use Rattle.dft_base.specs.Lexing.{Text}
use Rattle.dft_base.proofs.ListLemmas.{at_of_map}
use Rattle.dft_netlist.proofs.BitLemmas.{cases_le, rising_at, falling_at}
use Rattle.dft_netlist.proofs.NamesLemmas.{free_look_up}
use Rattle.dft_netlist.proofs.NewNames.{still_free}

-- ---- a bit's name tells its index

pub bit_name_injective : (name : Text) (i j : ℕ) → i < 2 ^ 64 → j < 2 ^ 64 → bit_name name i ≡ bit_name name j → i ≡ j
bit_name_injective name i j small also same =
    let ends = append_cancel_right (name ++ (91 ∷ decimal i)) (name ++ (91 ∷ decimal j)) (93 ∷ []) same in
    let indices = append_cancel_left name (91 ∷ decimal i) (91 ∷ decimal j) ends in
    let digits : decimal i ≡ decimal j = cc in
    decimal_injective i j small also digits

-- it is longer than the vector's own name
pub bit_is_not_vector : (name : Text) (i : ℕ) → bit_name name i ≡ name → ⊥
bit_is_not_vector name i same =
    let whole = length-append (name ++ (91 ∷ decimal i)) (93 ∷ []) in
    let front = length-append name (91 ∷ decimal i) in
    let e = ap (λ (xs : Text). length xs) same in
    let f : ⊥ = absurd (omega arith) in f

-- ---- the indices of a range differ

abbrev Small : Range → Type 0
Small r = (r.left < 2 ^ 64) × (r.right < 2 ^ 64)

index_small : (r : Range) (k i : ℕ) → Small r → slice_get (indices_of r) k ≡ Some i → i < 2 ^ 64
index_small r k i small at =
    let lt = slice_get_within (indices_of r) k i at in
    cases_le r.left r.right _ refl _
    (λ le. let here = rising_at r k le lt in let e : Some (r.left + k) ≡ Some i = sym here.1 ∙ at in let f : r.left + k ≡ i = cc in let b = here.0 in let s = small.1 in omega arith)
    (λ gt. let here = falling_at r k gt lt in let e : Some (r.left - k) ≡ Some i = sym here.1 ∙ at in let f : r.left - k ≡ i = cc in let s = small.0 in omega arith)

index_once : (r : Range) (k j i : ℕ) → slice_get (indices_of r) k ≡ Some i → slice_get (indices_of r) j ≡ Some i → k ≡ j
index_once r k j i at also =
    let lt = slice_get_within (indices_of r) k i at in
    let lt2 = slice_get_within (indices_of r) j i also in
    cases_le r.left r.right _ refl _
    (λ le.
    let here = rising_at r k le lt in
    let there = rising_at r j le lt2 in
    let e : Some (r.left + k) ≡ Some (r.left + j) = sym here.1 ∙ at ∙ sym also ∙ there.1 in
    let f : r.left + k ≡ r.left + j = cc in omega arith)
    (λ gt.
    let here = falling_at r k gt lt in
    let there = falling_at r j gt lt2 in
    let e : Some (r.left - k) ≡ Some (r.left - j) = sym here.1 ∙ at ∙ sym also ∙ there.1 in
    let f : r.left - k ≡ r.left - j = cc in
    let a = here.0 in
    let b = there.0 in omega arith)

-- ---- names by their places

only_one : (name q : Text) (k : ℕ) → slice_get (name ∷ []) k ≡ Some q → k ≡ 0
only_one name q zero at = refl
only_one name q (suc k) at = absurd (let f : ⊥ = cc in f)

pub one_differs : (name : Text) → AllDiffer (name ∷ [])
one_differs name k j q at also = only_one name q k at ∙ sym (only_one name q j also)

pub bits_differ : (name : Text) (range : Range) → range.left < 2 ^ 64 → range.right < 2 ^ 64 → AllDiffer (map (bit_name name) (indices_of range))
bits_differ name range left right k j q at also =
    let bit = at_of_map (bit_name name) (indices_of range) k q at in
    let other = at_of_map (bit_name name) (indices_of range) j q also in
    let index = bit_name_injective name bit.0 other.0 (index_small range k bit.0 (left, right) bit.1) (index_small range j other.0 (left, right) other.1) (bit.2 ∙ sym other.2) in
    index_once range k j bit.0 bit.1 (other.1 ∙ ap Some (sym index))

head_free : (n : Netlist) (x : Text) (xs : List Text) (t : Bool) → is_taken n x ≡ t → first_taken n (x ∷ xs) ≡ None → (is_taken n x ≡ false) × (first_taken n xs ≡ None)
head_free n x xs true is none = absurd (let e : first_taken n (x ∷ xs) ≡ Some x = rw is refl in let f : ⊥ = cc in f)
head_free n x xs false is none = (is, (let e : first_taken n (x ∷ xs) ≡ first_taken n xs = rw is refl in sym e ∙ none))

each_free : (n : Netlist) (names : List Text) → first_taken n names ≡ None → (k : ℕ) (q : Text) → slice_get names k ≡ Some q → is_taken n q ≡ false
each_free n [] none k q at = absurd (let f : ⊥ = cc in f)
each_free n (x ∷ xs) none zero q at = let e : x ≡ q = cc in rw (← e) (head_free n x xs (is_taken n x) refl none).0
each_free n (x ∷ xs) none (suc k) q at = each_free n xs (head_free n x xs (is_taken n x) refl none).1 k q at

-- ---- the names of a port that is not refused

pub vector_is_free : (es : List Entry) (n : Netlist) (name : Text) (range : Option Range) → Knows es n → first_taken n (port_names name range) ≡ None → IsFree es (vector_name_in name range)
vector_is_free es n name None known none = tt
vector_is_free es n name (Some range) known none = free_look_up es n name (look_up es name) known (head_free n name (bit_names name (Some range)) (is_taken n name) refl none).0 refl

pub bits_are_new : (es : List Entry) (n : Netlist) (name : Text) (range : Option Range) (vector : Named) → AllDiffer (bit_names name range) → Knows es n → first_taken n (port_names name range) ≡ None → AreNew (es ++ own_entries (vector_name_in name range) vector) (bit_names name range)
bits_are_new es n name None vector differ known none = rw (append-nil es) (record {
  free = λ k q at. free_look_up es n q (look_up es q) known (each_free n (name ∷ []) none k q at) refl;
  differ = differ;
})
bits_are_new es n name (Some range) vector differ known none =
    let bits = (head_free n name (bit_names name (Some range)) (is_taken n name) refl none).1 in
    record {
      free = λ k q at.
          let bit = at_of_map (bit_name name) (indices_of range) k q at in
          still_free es name vector q (free_look_up es n q (look_up es q) known (each_free n (bit_names name (Some range)) bits k q at) refl) (λ same. bit_is_not_vector name bit.0 (bit.2 ∙ same));
      differ = differ;
    }

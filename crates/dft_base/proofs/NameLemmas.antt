-- Bytes that pass the test of a name are one, and so are bytes as they are shown.
use Rattle.std.proofs.Common.{ℕ, zero, suc, ◌≡◌, ◌<◌, ◌≤◌, ◌==◌, List, [], ◌∷◌, Bool, true, false, map, take, length, get_or, cond, nat_lt, refl, arith}
use Rattle.std.proofs.lemmas.Bool.{and_parts}
use Rattle.std.proofs.lemmas.Bool.Decides.{nat_tests}
use Rattle.std.proofs.lemmas.List.{length-map, length-take-le}
use Rattle.dft_base.specs.Name.{IsName}
use Rattle.dft_base.proofs.TextLemmas.{IsPrinted, printed as printed_range}
use Rattle.dft_base.specs.Names.{all_printed, is_name, shown}
use Rattle.dft_base.specs.Bytes.{is_printed}

each_printed : (bytes : List ℕ) → all_printed bytes ≡ true → (k d : ℕ) → k < length bytes → IsPrinted (get_or bytes k d)
each_printed [] e k d less = absurd (omega arith)
each_printed (byte ∷ bytes) e zero d less = printed_range byte (and_parts (is_printed byte) (all_printed bytes) e).0
each_printed (byte ∷ bytes) e (suc k) d less = each_printed bytes (and_parts (is_printed byte) (all_printed bytes) e).1 k d (omega arith)

some_byte : (n : ℕ) → nat_lt 0 n ≡ true → 0 < n
some_byte n e = grind (arith, nat_tests)

pub name_tested : (bytes : List ℕ) → is_name bytes ≡ true → IsName bytes
name_tested bytes e =
    let (some, all) = and_parts (nat_lt 0 (length bytes)) (all_printed bytes) e in
    record { some = some_byte (length bytes) some; each = each_printed bytes all }

shown_or : (printed : Bool) (byte : ℕ) → is_printed byte ≡ printed → IsPrinted (cond printed byte 63)
shown_or true byte e = printed_range byte e
shown_or false byte e = (omega arith, omega arith)

each_shown : (bytes : List ℕ) (k d : ℕ) → k < length bytes → IsPrinted (get_or (map shown bytes) k d)
each_shown [] k d less = absurd (omega arith)
each_shown (byte ∷ bytes) zero d less = shown_or (is_printed byte) byte refl
each_shown (byte ∷ bytes) (suc k) d less = each_shown bytes k d (omega arith)

shown_name : (bytes : List ℕ) → 0 < length bytes → IsName (map shown bytes)
shown_name bytes some =
    let same : length (map shown bytes) ≡ length bytes = simp length-map in
    record { some = omega arith; each = λ k d less. each_shown bytes k d (omega arith) }

not_empty : (n : ℕ) → (n == 0) ≡ false → 0 < n
not_empty n e = grind (arith, nat_tests)

pub shown_part_name : (bytes : List ℕ) (i : ℕ) → (length bytes == 0) ≡ false → i ≤ length bytes → length bytes ≤ i → IsName (map shown (take i bytes))
shown_part_name bytes i some below above =
    let some_bytes = not_empty (length bytes) some in
    shown_name (take i bytes) (omega (arith, length-take-le i bytes below))

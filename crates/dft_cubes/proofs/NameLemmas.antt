-- Names of words, and sets of names.
use Rattle.std.proofs.Common.{ℕ, zero, suc, ◌-◌, ◌≡◌, ◌<◌, ◌≤◌, ◌||◌, true, List, [], ◌∷◌, length, drop, get_or, map, refl, ap, arith, ◌∙◌}
use Rattle.std.specs.List.{list_all, list_any}
use Rattle.std.proofs.lemmas.Bool.{and_parts}
use Rattle.std.proofs.lemmas.List.{length-drop, length-take-le}
use Rattle.dft_base.specs.Name.{IsName}
use Rattle.dft_word_lines.specs.declared.words.Span.{Span}
use Rattle.dft_word_lines.specs.Lines.{AreWithin, are_printed, cut, is_printed_word, is_printed}
use Rattle.std.specs.Str.{bytes_eq}
use Rattle.dft_base.specs.Lexing.{Text}
use Rattle.dft_base.proofs.TextLemmas.{bytes_eq-comm, IsPrinted, printed as printed_range}
use Rattle.dft_cells.specs.WellFormed.{has_name}

-- a look-up among keys that show their bytes
pub has-map : {K : Type 0} (shown : K → Text) (name : Text) (keys : List K) → list_any (λ k. bytes_eq name (shown k)) keys ≡ has_name (map shown keys) name
has-map shown name [] = refl
has-map shown name (k ∷ keys) = ap (λ b. b || list_any (λ x. bytes_eq name (shown x)) keys) (bytes_eq-comm name (shown k)) ∙ ap (λ b. bytes_eq (shown k) name || b) (has-map shown name keys)

-- ---- printed words are names

each_printed : (word : Text) → is_printed_word word ≡ true → (k d : ℕ) → k < length word → IsPrinted (get_or word k d)
each_printed [] e k d less = absurd (omega arith)
each_printed (byte ∷ word) e zero d less = printed_range byte (and_parts (is_printed byte) (list_all is_printed word) e).0
each_printed (byte ∷ word) e (suc k) d less = each_printed word (and_parts (is_printed byte) (list_all is_printed word) e).1 k d (omega arith)

name_there : (line : Text) (span : Span) → span.start < span.end → span.end ≤ length line → is_printed_word (cut line span) ≡ true → IsName (cut line span)
name_there line span some within printed =
    let left : length (drop span.start line) ≡ length line - span.start = length-drop span.start line in
    let size : length (cut line span) ≡ span.end - span.start = length-take-le (span.end - span.start) (drop span.start line) (omega (arith, left, within)) in
    record { some = omega (arith, size, some); each = each_printed (cut line span) printed }

-- the words of a line that are printed are names
pub names_there : (line : Text) (spans : List Span) → AreWithin line spans → are_printed (map (cut line) spans) ≡ true → (k : ℕ) (d : Span) → k < length spans → IsName (cut line (get_or spans k d))
names_there line [] within e k d less = absurd (omega arith)
names_there line (s ∷ spans) within e zero d less =
    name_there line s (within 0 d less).0 (within 0 d less).1 (and_parts (is_printed_word (cut line s)) (are_printed (map (cut line) spans)) e).0
names_there line (s ∷ spans) within e (suc k) d less =
    names_there line spans (λ j x small. within (suc j) x (omega arith)) (and_parts (is_printed_word (cut line s)) (are_printed (map (cut line) spans)) e).1 k d (omega arith)

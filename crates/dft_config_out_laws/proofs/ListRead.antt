-- A written list is read as the list of its items' values.
use Rattle.std.proofs.Common.{◌≡◌, ℕ, suc, ◌+◌, ◌-◌, ◌<◌, ◌≤◌, ◌==◌, Bool, true, false, List, [], ◌∷◌, ◌++◌, length, map, Some, refl, ◌∙◌, ap, arith, append_assoc, length-append}
use Rattle.std.specs.List.{AllByRecursion}
use Rattle.std.proofs.lemmas.Bool.Decides.{nat_tests}
use Rattle.dft_base.specs.Lexing.{Text}
use Rattle.toml_parser.specs.Lexical.{first, skip_blank}
use Rattle.toml.specs.Data.{Data, Items, array, no_items, push_item}
use Rattle.toml.specs.Parse.{after_element, items, read_map, val}
use Rattle.toml.proofs.Blanks.{blanks_end, blanks_item, skip_none, skip_within, strip, strip_if}
use Rattle.toml.proofs.ReadValues.{item_join, item_join-none, item_join-push}
use Rattle.toml.proofs.Turns.{items_end, items_more, val_array}
use Rattle.dft_config_out.specs.Written.{items_text, list_text, separator}
use Rattle.dft_config_out_laws.specs.Lists.{EndsAny, IsReadAs, ListsAreRead}
use Rattle.dft_config_out_laws.specs.Tables.{items_of}

comma_next : (t : List ℕ) → after_element 93 (44 ∷ t) ≡ Some t
unfolding after_element
comma_next t = rw (skip_none (44 ∷ t) 44 refl refl)

close_next : (t : List ℕ) → after_element 93 (93 ∷ t) ≡ Some (93 ∷ t)
unfolding after_element
close_next t = rw (skip_none (93 ∷ t) 93 refl refl)

-- what the reader does behind an item
abbrev Behind : List ℕ → Type 0
Behind text = (next : List ℕ) × ((after_element 93 text ≡ Some next) × ((skip_blank next ≡ skip_blank (strip text)) × ((length next ≤ length text) × EndsAny text)))

behind : {X : Type 0} (f : X → Text) (xs : List X) (rest : List ℕ) → Behind (items_text false (map f xs) ++ rest)
behind f [] rest = (93 ∷ rest, (close_next rest, (refl, (omega arith, ((refl, refl), (refl, refl))))))
behind f (x ∷ xs) rest = (32 ∷ ((f x ++ items_text false (map f xs)) ++ rest), (comma_next (32 ∷ ((f x ++ items_text false (map f xs)) ++ rest)), (refl, (omega arith, ((refl, refl), (refl, refl))))))

items_read : {X : Type 0} (depth : ℕ) (f : X → Text) (g : X → Data) (xs : List X) (is_first : Bool) (rest x : List ℕ) (found : Items) (m : ℕ) → AllByRecursion (λ y. IsReadAs depth (f y) (g y)) xs →
    skip_blank x ≡ skip_blank (strip_if is_first (items_text is_first (map f xs) ++ rest)) → length x < m → items (val depth) m found x ≡ Some (item_join found (items_of g xs), rest)
items_read depth f g [] is_first rest x found m all skip room =
    let closing : skip_blank x ≡ 93 ∷ rest = skip ∙ blanks_end false is_first rest in
    items_end (val depth) m found x (omega arith) (rw closing refl) ∙ rw (closing, item_join-none found)
items_read depth f g (y ∷ xs) is_first rest x found m all skip room =
    let r2 = items_text false (map f xs) ++ rest in
    let s = f y ++ r2 in
    let start = all.0.start r2 in
    let same : items_text is_first (map f (y ∷ xs)) ++ rest ≡ separator is_first ++ s = append_assoc (separator is_first) (f y ++ items_text false (map f xs)) rest ∙ ap (λ (t : Text). separator is_first ++ t) (append_assoc (f y) (items_text false (map f xs)) rest) in
    let at_start : skip_blank x ≡ s = skip ∙ ap (λ (t : Text). skip_blank (strip_if is_first t)) same ∙ blanks_item false is_first s start in
    let next = behind f xs rest in
    let read = all.0.read r2 next.1.1.1.1 in
    let other : (first (skip_blank x) == 93) ≡ false = rw at_start (grind (arith, nat_tests)) in
    let within = skip_within x in
    let some = all.0.some in
    let sizes = length-append (f y) r2 in
    let shorter : length (skip_blank x) ≡ length s = ap length at_start in
    let less = next.1.1.1.0 in
    let tail = items_read depth f g xs false rest next.0 (push_item found (g y)) (m - 1) all.1 next.1.1.0 (omega arith) in
    items_more (val depth) m found x (g y) r2 next.0 (omega arith) other (rw at_start read) next.1.0 ∙ tail ∙ ap (λ t. Some (t, rest)) (item_join-push found (g y) (items_of g xs))

pub list_read : {X : Type 0} (depth : ℕ) (f : X → Text) (g : X → Data) (xs : List X) → AllByRecursion (λ x. IsReadAs depth (f x) (g x)) xs → IsReadAs (depth + 1) (list_text (map f xs)) (array (items_of g xs))
list_read depth f g xs all =
    let one : depth + 1 ≡ suc depth = omega arith in
    record {
      some = omega arith;
      start = λ rest. refl;
      read = λ rest ends.
          (let t = items_text true (map f xs) ++ rest in
          ap (λ (d : ℕ). val d (91 ∷ t)) one ∙ val_array depth (91 ∷ t) refl
          ∙ ap (read_map array) (items_read depth f g xs true rest t no_items (length (91 ∷ t)) all refl (omega arith)));
    }

pub lists_read : ListsAreRead
lists_read depth pairs all = list_read depth (λ p. p.0) (λ p. p.1) pairs all

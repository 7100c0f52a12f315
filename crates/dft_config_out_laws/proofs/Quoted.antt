-- A name in quotes is read back.
use Rattle.std.proofs.Common.{◌≡◌, ℕ, ◌<◌, ◌≤◌, ◌==◌, Bool, true, false, cond, ◌||◌, List, [], ◌∷◌, ◌++◌, length, Some, refl, sym, ◌∙◌, ap, subst, arith, append_assoc}
use Rattle.std.specs.List.{AllByRecursion}
use Rattle.std.proofs.lemmas.Bool.Decides.{nat_tests}
use Rattle.std.proofs.lemmas.List.Elements.{recursion_from_All}
use Rattle.std.proofs.lemmas.Bool.{or_parts}
use Rattle.dft_base.specs.Lexing.{Text}
use Rattle.dft_base.specs.Name.{IsName}
use Rattle.toml_parser.specs.Lexical.{first}
use Rattle.toml_parser.specs.Strings.{body, one_line, quoted}
use Rattle.toml_writer.specs.Text.{escape_text, escaped, needs_escape, quotes_after}
use Rattle.toml_writer.proofs.Bodies.{body_escaped, close}
use Rattle.toml_writer.proofs.Strings.{NotDelim}
use Rattle.toml.specs.Data.{string}
use Rattle.toml.specs.Parse.{atom, read_map, val}
use Rattle.toml.proofs.Turns.{val_atom}
use Rattle.dft_config_out_laws.specs.Names.{NamesAreRead}
use Rattle.dft_config_out.specs.Written.{byte_text, bytes_text, is_escaped, name_text}

-- ---- a name is escaped as a basic string is

needs_is : (b : ℕ) → 33 ≤ b → b ≤ 126 → needs_escape false 0 b ≡ is_escaped b
unfolding needs_escape
needs_is b low high = grind (arith, nat_tests)

letter_is : (b : ℕ) → is_escaped b ≡ true → escape_text b ≡ 92 ∷ b ∷ []
letter_is b is = grind (arith, nat_tests)

byte_by : (b : ℕ) (t : Bool) → needs_escape false 0 b ≡ t → is_escaped b ≡ t → cond (needs_escape false 0 b) (escape_text b) (b ∷ []) ≡ byte_text b
byte_by b true needs is = ap (λ (t : Bool). cond t (escape_text b) (b ∷ [])) needs ∙ letter_is b is ∙ sym (ap (λ (t : Bool). cond t (92 ∷ b ∷ []) (b ∷ [])) is)
byte_by b false needs is = ap (λ (t : Bool). cond t (escape_text b) (b ∷ [])) needs ∙ sym (ap (λ (t : Bool). cond t (92 ∷ b ∷ []) (b ∷ [])) is)

after_zero : (b : ℕ) → 33 ≤ b → b ≤ 126 → quotes_after false 0 b ≡ 0
unfolding quotes_after needs_escape
after_zero b low high = grind (arith, nat_tests)

bytes_escaped : (bytes : List ℕ) → AllByRecursion (λ b. (33 ≤ b) × (b ≤ 126)) bytes → escaped false 0 bytes ≡ bytes_text bytes
unfolding escaped
bytes_escaped [] all = refl
bytes_escaped (b ∷ bytes) all =
    let here = byte_by b (is_escaped b) (needs_is b all.0.0 all.0.1) refl in
    (λ i. here i ++ escaped false (after_zero b all.0.0 all.0.1 i) bytes) ∙ ap (λ (t : Text). byte_text b ++ t) (bytes_escaped bytes all.1)

-- ---- and read as one

not_by : (t : Bool) (b : ℕ) (more : List ℕ) → is_escaped b ≡ t → (first (byte_text b ++ more) == 34) ≡ false
not_by true b more is = ap (λ (t : Bool). first (cond t (92 ∷ b ∷ []) (b ∷ []) ++ more) == 34) is
not_by false b more is =
    let other : (b == 34) ≡ false = (or_parts (b == 34) (b == 92) is).0 in
    ap (λ (t : Bool). first (cond t (92 ∷ b ∷ []) (b ∷ []) ++ more) == 34) is ∙ other

-- no name is empty, and the byte behind the quote is none
one_line_is : (b : ℕ) (bytes rest : List ℕ) → quoted (34 ∷ ((byte_text b ++ bytes) ++ rest)) ≡ one_line (34 ∷ ((byte_text b ++ bytes) ++ rest))
unfolding quoted
one_line_is b bytes rest =
    let second : (first ((byte_text b ++ bytes) ++ rest) == 34) ≡ false = ap (λ (t : Text). first t == 34) (append_assoc (byte_text b) bytes rest) ∙ not_by (is_escaped b) b (bytes ++ rest) refl in
    rw second refl

line_read : (name rest : List ℕ) → IsName name → NotDelim rest → one_line (34 ∷ (bytes_text name ++ (34 ∷ rest))) ≡ Some (name, rest)
unfolding one_line
line_read name rest is stop =
    let same = bytes_escaped name (recursion_from_All (λ b. (33 ≤ b) × (b ≤ 126)) name is.each) in
    let size = length (34 ∷ (bytes_text name ++ (34 ∷ rest))) in
    let room : length (escaped false 0 name ++ (close false ++ rest)) < size = subst (λ (t : Text). length (t ++ (34 ∷ rest)) < size) (sym same) (omega arith) in
    ap (λ (t : Text). body 34 false size (t ++ (34 ∷ rest))) (sym same) ∙ body_escaped false name rest 0 size (omega arith) stop.0 room

quoted_read : (name rest : List ℕ) → IsName name → NotDelim rest → quoted (34 ∷ (bytes_text name ++ (34 ∷ rest))) ≡ Some (name, rest)
quoted_read [] rest is stop = absurd (let some = is.some in omega (arith, some))
quoted_read (b ∷ bytes) rest is stop = one_line_is b (bytes_text bytes) (34 ∷ rest) ∙ line_read (b ∷ bytes) rest is stop

pub name_read : NamesAreRead
unfolding atom
name_read depth name rest is stop =
    let t = 34 ∷ (bytes_text name ++ (34 ∷ rest)) in
    let whole : name_text name ++ rest ≡ t = ap (λ (l : Text). 34 ∷ l) (append_assoc (bytes_text name) (34 ∷ []) rest) in
    ap (val depth) whole ∙ val_atom depth t refl refl ∙ ap (read_map string) (quoted_read name rest is stop)

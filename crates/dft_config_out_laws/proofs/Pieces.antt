-- Lines that are written one after the other are read as their expressions.
use Rattle.std.proofs.Common.{◌≡◌, ℕ, ◌+◌, ◌-◌, ◌<◌, ◌==◌, true, false, List, [], ◌∷◌, ◌++◌, length, map, codes, Option, Some, None, option_and_then, refl, sym, ◌∙◌, ap, subst, arith, append_assoc, length-append}
use Rattle.std.specs.List.{AllByRecursion}
use Rattle.std.proofs.lemmas.Bool.Decides.{nat_tests}
use Rattle.dft_base.specs.Lexing.{Text}
use Rattle.toml_parser.specs.Lexical.{first, skip_blank, skip_ws}
use Rattle.toml_parser.proofs.LexicalLemmas.{skip_ws_none, skip_from-nil}
use Rattle.toml_writer.specs.Text.{key_text}
use Rattle.toml_writer.proofs.Strings.{is_key_start-key_text}
use Rattle.toml.specs.Data.{Data}
use Rattle.toml.specs.Tables.{Document, Expression, define, key_value, std_table}
use Rattle.toml.specs.Parse.{ends_line, expression, line, lines, val}
use Rattle.toml.proofs.Turns.{keyval_ok, lines_end, lines_more, lines_refused}
use Rattle.toml.proofs.Blanks.{skip_newline, skip_start, skip_within, starts_value}
use Rattle.toml.proofs.ReadLines.{Turn, line_turn, run}
use Rattle.toml.proofs.ReadValues.{key_equals-pair}
use Rattle.dft_config_out_laws.specs.Lists.{EndsAny, IsReadAs}

-- a line with what stands in it
abbrev pub Piece : Type 0
Piece = Text × Expression

abbrev pub all_text : List Piece → Text
all_text [] = []
all_text (piece ∷ pieces) = piece.0 ++ all_text pieces

abbrev pub all_expressions : List Piece → List Expression
all_expressions pieces = map (λ piece. piece.1) pieces

-- the reader takes the line as its expression
abbrev pub IsLine : Text → Expression → Type 0
IsLine this e = (rest : Text) → Turn e.0 e.1 (this ++ rest) rest

-- ---- lines of the two kinds

abbrev pub pair_piece : (key value : Text) → Data → Piece
pair_piece key value d = (key ++ (codes " = " ++ (value ++ codes "\n")), (([], key), key_value d))

abbrev pub header_piece : (key : Text) → Piece
header_piece key = (codes "\n[" ++ (key ++ codes "]\n"), (([], key), std_table))

ends_at_newline : (rest : Text) → ends_line (skip_ws (10 ∷ rest)) ≡ true
ends_at_newline rest = rw (skip_ws_none (10 ∷ rest) refl) (grind (arith, nat_tests))

pair_line : (key value rest : Text) (d : Data) → IsReadAs 80 value d → line (key_text key ++ (codes " = " ++ (value ++ (10 ∷ rest)))) ≡ Some ((([], key), key_value d), 10 ∷ rest)
unfolding line expression
pair_line key value rest d is =
    let at_value = value ++ (10 ∷ rest) in
    let s = key_text key ++ (codes " = " ++ at_value) in
    let ends : EndsAny (10 ∷ rest) = ((refl, refl), (refl, refl)) in
    let pair = keyval_ok (val 80) s at_value (10 ∷ rest) ([], key) d (key_equals-pair key at_value (is.start (10 ∷ rest))) (is.read (10 ∷ rest) ends) in
    let key_first = is_key_start-key_text key (codes " = " ++ at_value) in
    let other : (first s == 91) ≡ false = grind (arith, nat_tests) in
    rw (other, pair, ends_at_newline rest)

key_starts : (key more : Text) → starts_value (first (key_text key ++ more)) ≡ true
key_starts key more =
    let start = is_key_start-key_text key more in
    grind (arith, nat_tests)

no_mark : (key more : Text) → (first (key_text key ++ more) == 239) ≡ false
no_mark key more =
    let start = is_key_start-key_text key more in
    grind (arith, nat_tests)

pair_same : (key value rest : Text) → (key ++ (codes " = " ++ (value ++ codes "\n"))) ++ rest ≡ key ++ (codes " = " ++ (value ++ (10 ∷ rest)))
pair_same key value rest = simp append_assoc refl

pair_turn : (key value : Text) (d : Data) → IsReadAs 80 value d → IsLine (key_text key ++ (codes " = " ++ (value ++ codes "\n"))) (([], key), key_value d)
pair_turn key value d is rest =
    let at_value = value ++ (10 ∷ rest) in
    let s = key_text key ++ (codes " = " ++ at_value) in
    let same = pair_same (key_text key) value rest in
    let key_size = length-append (key_text key) (codes " = " ++ at_value) in
    let value_size = length-append value (10 ∷ rest) in (
      s,
      ap skip_blank same ∙ skip_start s (key_starts key (codes " = " ++ at_value)),
      pair_line key value rest d is,
      omega (arith, key_size),
      omega (arith, key_size, value_size),
      ap (λ (t : Text). first t == 239) same ∙ no_mark key (codes " = " ++ at_value),
    )

-- a key that needs no quotes
pub pair_is_line : (key value : Text) (d : Data) → key_text key ≡ key → IsReadAs 80 value d → IsLine (pair_piece key value d).0 (pair_piece key value d).1
pair_is_line key value d bare is = subst (λ (k : Text). IsLine (k ++ (codes " = " ++ (value ++ codes "\n"))) (([], key), key_value d)) bare (pair_turn key value d is)

pub header_is_line : (key : Text) → key_text key ≡ key → IsLine (header_piece key).0 (header_piece key).1
header_is_line key bare rest = line_turn true true ([], key) std_table (header_piece key).0 rest (ap (λ (k : Text). codes "\n[" ++ (k ++ codes "]\n")) (sym bare)) (omega arith)

-- ---- one after the other

read_step : (m : ℕ) (doc : Document) (x : Text) (e : Expression) (after : Text) (es : List Expression) (defined : Option Document) → defined ≡ define doc e → 0 < m → (length (skip_blank x) == 0) ≡ false
    → line (skip_blank x) ≡ Some (e, after) → ((next : Document) → lines (m - 1) next after ≡ option_and_then (λ n. run n es) (Some next)) → lines m doc x ≡ option_and_then (λ n. run n es) defined
read_step m doc x e after es None same some other read more = lines_refused m doc x e after some other read (sym same)
read_step m doc x e after es (Some next) same some other read more = lines_more m doc next x e after some other read (sym same) ∙ more next

pub pieces_read : (pieces : List Piece) (x : Text) (doc : Document) (m : ℕ) → AllByRecursion (λ piece. IsLine piece.0 piece.1) pieces → skip_blank x ≡ skip_blank (all_text pieces) → length x < m →
    lines m doc x ≡ run doc (all_expressions pieces)
pieces_read [] x doc m all skip room = lines_end m doc x (omega arith) (rw (skip, skip_from-nil true false) refl)
pieces_read (piece ∷ pieces) x doc m all skip room =
    let rest = all_text pieces in
    let turn = all.0 rest in
    let s = turn.0 in
    let same : skip_blank x ≡ s = skip ∙ turn.1 in
    let some = turn.3 in
    let shorter = turn.4 in
    let other : (length (skip_blank x) == 0) ≡ false = rw same (grind (arith, nat_tests)) in
    let within = skip_within x in
    let size = ap length same in
    read_step m doc x piece.1 (10 ∷ rest) (all_expressions pieces) (define doc piece.1) refl (omega arith) other (rw same turn.2) (λ next. pieces_read pieces (10 ∷ rest) next (m - 1) all.1 (skip_newline rest) (omega (arith, size)))

-- ---- as they are written

-- keys and values, each value before the end of its line
abbrev pub nested : List (Text × (Text × Data)) → Text
nested [] = []
nested (pair ∷ pairs) = pair.0 ++ (codes " = " ++ (pair.1.0 ++ (10 ∷ nested pairs)))

abbrev pub pair_pieces : List (Text × (Text × Data)) → List Piece
pair_pieces pairs = map (λ pair. pair_piece pair.0 pair.1.0 pair.1.1) pairs

pub pairs_nested : (pairs : List (Text × (Text × Data))) → all_text (pair_pieces pairs) ≡ nested pairs
pairs_nested [] = refl
pairs_nested (pair ∷ pairs) = ap (λ (t : Text). (pair_piece pair.0 pair.1.0 pair.1.1).0 ++ t) (pairs_nested pairs) ∙ pair_same pair.0 pair.1.0 (nested pairs)

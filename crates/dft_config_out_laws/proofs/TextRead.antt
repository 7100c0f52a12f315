-- The text of a made configuration is read.
use Rattle.std.proofs.Common.{◌≡◌, ℕ, suc, ◌<◌, ◌^◌, ◌==◌, false, List, [], ◌∷◌, ◌++◌, length, codes, decimal, Some, Ok, Err, option_map, refl, sym, ◌∙◌, ap, subst, arith}
use Rattle.std.specs.List.{AllByRecursion}
use Rattle.std.proofs.lemmas.Str.{IsUtf8-from_ascii}
use Rattle.dft_base.specs.Lexing.{Text}
use Rattle.toml_parser.specs.Lexical.{first, skip_blank}
use Rattle.toml.specs.Data.{Members}
use Rattle.toml.specs.Parse.{lines, parse_document, skip_bom}
use Rattle.toml.specs.Tables.{Expression, close, no_nodes}
use Rattle.toml.proofs.ReadLines.{run}
use Rattle.dft_toml.specs.Text.{IsTable}
use Rattle.dft_config_text.specs.declared.error.ConfigError.{ConfigError}
use Rattle.dft_config_text.specs.declared.error.ConfigError.TheVariants.{C1, C2, C3, C4, C5, C6, Memory}
use Rattle.dft_config.specs.Config.{Config}
use Rattle.dft_config_text.specs.Reading.{reading}
use Rattle.dft_config_text.specs.Refusals.{IsConfig, IsRefused, TellsFault}
use Rattle.dft_config_out.specs.declared.made.Made.{Made}
use Rattle.dft_config_out.specs.Written.{config_of, head_text, made_text}
use Rattle.dft_config_out_laws.specs.Tables.{IsWritable, table_of}
use Rattle.dft_config_out_laws.specs.Texts.{IsForMemory, NoOtherIsRead, NoTextIsRefused, TextIsRead}
use Rattle.dft_config_out_laws.proofs.HeadSkipped.{head_skipped}
use Rattle.dft_config_out_laws.proofs.Low.{IsLow, both_low, digits_low, low_ascii}
use Rattle.dft_config_out_laws.proofs.MadeGiven.{AllGood, pieces_good}
use Rattle.dft_config_out_laws.proofs.MadeLines.{made_same, pieces_of, pieces_run}
use Rattle.dft_config_out_laws.proofs.Pieces.{IsLine, Piece, all_expressions, all_text, pieces_read}
use Rattle.dft_config_out_laws.proofs.ReadTable.{table_read}

-- ---- the bytes

head_low : (cells chains : ℕ) → cells < 2 ^ 64 → chains < 2 ^ 64 → IsLow (head_text cells chains)
unfolding head_text
head_low cells chains few less =
    let last = codes " chains.\n" in
    let middle = codes " flip-flops in " in
    both_low (codes "# Made by dft configure: ") (decimal cells ++ (middle ++ (decimal chains ++ last))) refl
    (both_low (decimal cells) (middle ++ (decimal chains ++ last)) (digits_low cells few) (both_low middle (decimal chains ++ last) refl (both_low (decimal chains) last (digits_low chains less) refl)))

pieces_low : (pieces : List Piece) → AllGood pieces → IsLow (all_text pieces)
pieces_low [] all = refl
pieces_low (piece ∷ pieces) all = both_low piece.0 (all_text pieces) all.0.1 (pieces_low pieces all.1)

lines_of : (pieces : List Piece) → AllGood pieces → AllByRecursion (λ piece. IsLine piece.0 piece.1) pieces
lines_of [] all = tt
lines_of (piece ∷ pieces) all = (all.0.0, lines_of pieces all.1)

no_skip : (text : Text) → (first text == 239) ≡ false → skip_bom text ≡ text
unfolding skip_bom
no_skip text h = rw h

head_first : (cells chains : ℕ) (rest : Text) → (first (head_text cells chains ++ rest) == 239) ≡ false
unfolding head_text
head_first cells chains rest = refl

parsed_by : (text : Text) (rest : List Expression) (table : Members) → skip_bom text ≡ text → lines (suc (length text)) (no_nodes, []) text ≡ run (no_nodes, []) rest →
    option_map (λ doc. close doc.0) (run (no_nodes, []) rest) ≡ Some table → parse_document text ≡ Some table
unfolding parse_document
parsed_by text rest table plain read gives = ap (λ (t : Text). option_map (λ doc. close doc.0) (lines (suc (length text)) (no_nodes, []) t)) plain ∙ ap (option_map (λ doc. close doc.0)) read ∙ gives

text_is_table : (cells : ℕ) (made : Made) → cells < 2 ^ 32 → IsWritable made → IsTable (made_text cells made) (table_of made)
text_is_table cells made few is =
    let text = made_text cells made in
    let pieces = pieces_of made in
    let good = pieces_good made is in
    let same = made_same cells made in
    let high = is.range.chains.1 in
    let chains : made.chains < 2 ^ 64 = omega (arith, high) in
    let many : cells < 2 ^ 64 = omega (arith, few) in
    let plain : IsLow text = subst IsLow (sym same) (both_low (head_text cells made.chains) (all_text pieces) (head_low cells made.chains many chains) (pieces_low pieces good)) in
    let starts : (first text == 239) ≡ false = ap (λ (t : Text). first t == 239) same ∙ head_first cells made.chains (all_text pieces) in
    let skipped = ap skip_blank same ∙ head_skipped cells made.chains (all_text pieces) many chains in
    let read = pieces_read pieces text (no_nodes, []) (suc (length text)) (lines_of pieces good) skipped (omega arith) in
    (IsUtf8-from_ascii text (low_ascii text plain), parsed_by text (all_expressions pieces) (table_of made) (no_skip text starts) read (pieces_run made))

pub text_read : TextIsRead
text_read cells made few is = (table_of made, text_is_table cells made few is, table_read made is)

-- ---- a text gives one configuration, or a refusal

pub table_one : (text : List ℕ) (a b : Members) → IsTable text a → IsTable text b → a ≡ b
table_one text a b x y = let e : Some a ≡ Some b = sym x.1 ∙ y.1 in cc

pub config_one : (text : List ℕ) (a b : Config) → IsConfig text a → IsConfig text b → a ≡ b
config_one text a b x y = let e : Ok a ≡ Ok b = sym x.2 ∙ ap reading (table_one text x.0 y.0 x.1 y.1) ∙ y.2 in cc

none_told : (text : List ℕ) (config : Config) (error : ConfigError) → IsConfig text config → TellsFault text error → ⊥
none_told text config error x fails = let e : Ok config ≡ Err fails.1 = sym x.2 ∙ ap reading (table_one text x.0 fails.0 x.1 fails.2) ∙ fails.3 in cc

pub memory_alone : (text : List ℕ) (config : Config) (error : ConfigError) → IsConfig text config → IsRefused text error → IsForMemory error
memory_alone text config C1 is refused = refused is.0 is.1
memory_alone text config (C2 name) is refused = none_told text config (C2 name) is refused
memory_alone text config (C3 name z) is refused = none_told text config (C3 name z) is refused
memory_alone text config (C4 name) is refused = none_told text config (C4 name) is refused
memory_alone text config (C5 chain) is refused = none_told text config (C5 chain) is refused
memory_alone text config (C6 name) is refused = none_told text config (C6 name) is refused
memory_alone text config (Memory a) is refused = tt

pub no_other : NoOtherIsRead
no_other cells made config few is gives = config_one (made_text cells made) config (config_of made) gives (text_read cells made few is)

pub no_refusal : NoTextIsRefused
no_refusal cells made error few is refused = memory_alone (made_text cells made) (config_of made) error (text_read cells made few is) refused

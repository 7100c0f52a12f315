-- What the written lines say.
use Rattle.std.proofs.Common.{ℕ, ◌<◌, ◌≤◌, ◌^◌, ◌≡◌, ◌==◌, Bool, true, false, List, [], ◌∷◌, ◌++◌, length, map, flat_map, codes, get_or, Option, None, Some, option_map, refl, ap, ap₂, arith, ◌∙◌}
use Rattle.std.specs.Prelude.{if◌then◌else◌, nat_le, nat_lt}
use Rattle.std.specs.Fmt.{decimal}
use Rattle.std.specs.List.{All, list_all, AllByRecursion}
use Rattle.std.specs.Str.{bytes_eq}
use Rattle.std.proofs.lemmas.Fmt.{decimal_nonempty, digits_decimal}
use Rattle.std.proofs.lemmas.List.Elements.{All-from_get_or}
use Rattle.std.proofs.lemmas.List.Splits.{slice_split_at, slice_split_none}
use Rattle.std.proofs.lemmas.Slice.Eq.{bytes_eq-Decides}
use Rattle.std.proofs.lemmas.Str.Parse.{numerals_by_value, tells_by_index}
use Rattle.std.proofs.lemmas.Bool.Decides.{nat_tests}
use Rattle.std.proofs.lemmas.List.{append_assoc, get_or_append_left}
use Rattle.std.proofs.lemmas.List.Sums.{list_all-from_AllPass}
use Rattle.std.proofs.lemmas.Bool.{and_from, and_parts}
use Rattle.dft_base.proofs.TextLemmas.{printed_byte}
use Rattle.dft_base.specs.Lexing.{Text}
use Rattle.dft_base.specs.Name.{IsName}
use Rattle.dft_base.specs.declared.rule.Rule.{Rule}
use Rattle.dft_base.specs.declared.rule.Rule.TheVariants.{S1, S2, S3, S4}
use Rattle.dft_word_lines.specs.Lines.{is_printed_word, is_printed}
use Rattle.dft_report.specs.declared.report.Variable.{Variable}
use Rattle.dft_report.specs.Written.{place_text, rule_text, scanned_line, variable_text, variables_text}
use Rattle.dft_report_reader.specs.Words.{is_name, number_of}
use Rattle.dft_report_reader.specs.Saying.{Counts, Chain, Scanned, Unscanned, Encoded, Unsolvable, Skipped, Sum, all_variables, and_variable, bit_of, counts_with, edge_of, in_chain, load_of, outcome_of, plain_counts, rule_of, said_of, scanned_with, sum_with, variable_by, variable_of, variable_with, variables_of, with_two}
use Rattle.dft_report_reader.specs.WrittenRead.{IsSmall, IsVariableReadable}
use Rattle.dft_report_reader.proofs.NumberLemmas.{IsFine, number_fine, number_read}
use Rattle.dft_report_reader.proofs.Lines.{behind}

-- ---- names

pub name_fine : (name : Text) → IsName name → IsFine name
name_fine name is = list_all-from_AllPass (λ b. nat_le 33 b) name (λ k d less. low (get_or name k d) (is.each k d less).0)
  where
    low : (b : ℕ) → 33 ≤ b → nat_le 33 b ≡ true
    low b h = grind (arith, nat_tests)

pub name_heard : (name : Text) → IsName name → is_name name ≡ true
name_heard name is =
    and_from (nat_lt 0 (length name)) (is_printed_word name) (some (length name) is.some)
    (list_all-from_AllPass is_printed name (λ k d less. printed_byte (get_or name k d) (is.each k d less).0 (is.each k d less).1))
  where
    some : (n : ℕ) → 0 < n → nat_lt 0 n ≡ true
    some n h = grind (arith, nat_tests)

-- ---- lines

pub says_plain : (cells chains : ℕ) → IsSmall cells → IsSmall chains → said_of (codes "cells" ∷ decimal cells ∷ codes "chains" ∷ decimal chains ∷ []) ≡ Some (Counts (record { cells = cells; chains = chains; load = None }))
says_plain cells chains a b = ap₂ (with_two plain_counts) (number_read cells a) (number_read chains b)

pub says_load : (cells chains cycles variables : ℕ) → IsSmall cells → IsSmall chains → IsSmall cycles → IsSmall variables →
    said_of (codes "cells" ∷ decimal cells ∷ codes "chains" ∷ decimal chains ∷ codes "cycles" ∷ decimal cycles ∷ codes "variables" ∷ decimal variables ∷ [])
    ≡ Some (Counts (record { cells = cells; chains = chains; load = Some (record { cycles = cycles; variables = variables }) }))
says_load cells chains cycles variables a b c d =
    ap₂ (λ (x y : Option ℕ). counts_with x y (load_of (number_of (decimal cycles)) (number_of (decimal variables)))) (number_read cells a) (number_read chains b)
    ∙ ap₂ (λ (x y : Option ℕ). counts_with (Some cells) (Some chains) (load_of x y)) (number_read cycles c) (number_read variables d)

pub says_chain : (chain size : ℕ) → IsSmall chain → IsSmall size → said_of (codes "chain" ∷ decimal chain ∷ codes "length" ∷ decimal size ∷ []) ≡ Some (Chain chain size)
says_chain chain size a b = ap₂ (with_two Chain) (number_read chain a) (number_read size b)

-- the word of an edge, if there is one
abbrev pub edge_words : (falling : Bool) → List Text
edge_words false = []
edge_words true = codes "falling" ∷ []

edge_heard : (falling : Bool) → edge_of (edge_words falling) ≡ Some falling
edge_heard false = refl
edge_heard true = refl

pub edge_fine : (falling : Bool) → AllByRecursion IsFine (edge_words falling)
edge_fine false = tt
edge_fine true = (refl, tt)

-- the words of a scanned flip-flop behind the first
abbrev pub scanned_words : (name domain : Text) → (chain place : ℕ) → (falling : Bool) → List Text
scanned_words name domain chain place falling = name ∷ domain ∷ codes "chain" ∷ decimal chain ∷ codes "place" ∷ decimal place ∷ edge_words falling

pub says_scanned : (name domain : Text) (chain place : ℕ) (falling : Bool) → IsName name → IsName domain → IsSmall chain → IsSmall place →
    said_of (codes "scanned" ∷ scanned_words name domain chain place falling) ≡ Some (Scanned name domain chain place falling)
says_scanned name domain chain place falling a b c d =
    ap (λ (t : Bool). if t then in_chain name domain (codes "chain" ∷ decimal chain ∷ codes "place" ∷ decimal place ∷ edge_words falling) else None) (and_from (is_name name) (is_name domain) (name_heard name a) (name_heard domain b))
    ∙ ap (λ (edge : Option Bool). scanned_with name domain edge (number_of (decimal chain)) (number_of (decimal place))) (edge_heard falling)
    ∙ ap₂ (with_two (λ c k. Scanned name domain c k falling)) (number_read chain c) (number_read place d)

-- a scanned line is a line of these words
pub scanned_behind : (name domain : Text) (chain place : ℕ) (falling : Bool) →
    scanned_line (record { name = name; domain = domain; chain = chain; place = place; falling = falling }) ≡ codes "scanned" ++ behind (scanned_words name domain chain place falling) (10 ∷ [])
unfolding scanned_line place_text
scanned_behind name domain chain place false = refl
scanned_behind name domain chain place true = refl

rule_heard : (rule : Rule) → rule_of (rule_text rule) ≡ Some rule
rule_heard S1 = refl
rule_heard S2 = refl
rule_heard S3 = refl
rule_heard S4 = refl

pub rule_fine : (rule : Rule) → IsFine (rule_text rule)
rule_fine S1 = refl
rule_fine S2 = refl
rule_fine S3 = refl
rule_fine S4 = refl

pub says_unscanned : (name : Text) (rule : Rule) → IsName name → said_of (codes "unscanned" ∷ name ∷ rule_text rule ∷ []) ≡ Some (Unscanned name rule)
says_unscanned name rule a =
    ap (λ (t : Bool). if t then option_map (Unscanned name) (rule_of (rule_text rule)) else None) (name_heard name a) ∙ ap (λ (o : Option Rule). option_map (Unscanned name) o) (rule_heard rule)

pub says_encoded : (name : Text) (pattern : ℕ) → IsName name → IsSmall pattern → said_of (codes "cube" ∷ name ∷ codes "encoded" ∷ decimal pattern ∷ []) ≡ Some (Encoded name pattern)
says_encoded name pattern a b =
    ap (λ (t : Bool). if t then outcome_of name (codes "encoded") (decimal pattern) else None) (name_heard name a) ∙ ap (λ (o : Option ℕ). option_map (Encoded name) o) (number_read pattern b)

pub says_unsolvable : (name : Text) (sums : ℕ) → IsName name → IsSmall sums → said_of (codes "cube" ∷ name ∷ codes "unsolvable" ∷ decimal sums ∷ []) ≡ Some (Unsolvable name sums)
says_unsolvable name sums a b =
    ap (λ (t : Bool). if t then outcome_of name (codes "unsolvable") (decimal sums) else None) (name_heard name a) ∙ ap (λ (o : Option ℕ). option_map (Unsolvable name) o) (number_read sums b)

pub says_skipped : (name cell : Text) → IsName name → IsName cell → said_of (codes "cube" ∷ name ∷ codes "skipped" ∷ cell ∷ []) ≡ Some (Skipped name cell)
says_skipped name cell a b =
    ap (λ (t : Bool). if t then outcome_of name (codes "skipped") cell else None) (name_heard name a) ∙ ap (λ (t : Bool). if t then Some (Skipped name cell) else None) (name_heard cell b)

-- ---- sums

-- a bit as a word
abbrev pub bit_word : Bool → Text
bit_word false = codes "0"
bit_word true = codes "1"

bit_heard : (bit : Bool) → bit_of (bit_word bit) ≡ Some bit
bit_heard false = refl
bit_heard true = refl

pub bit_fine : (bit : Bool) → IsFine (bit_word bit)
bit_fine false = refl
bit_fine true = refl

pub says_sum : (name : Text) (bit : Bool) (words : List Text) → IsName name → said_of (codes "sum" ∷ name ∷ bit_word bit ∷ words) ≡ Some (Sum name bit words)
says_sum name bit words a =
    ap (λ (t : Bool). if t then sum_with name words (bit_of (bit_word bit)) else None) (name_heard name a) ∙ ap (λ (o : Option Bool). sum_with name words o) (bit_heard bit)

-- a variable as a word
abbrev pub variable_word : Variable → Text
variable_word v = decimal v.channel ++ (46 ∷ decimal v.cycle)

no_point : (number : ℕ) → IsSmall number → All (λ b. (b == 46) ≡ false) (decimal number)
no_point number small =
    let wide : number < 2 ^ 64 = omega (arith, small) in
    All-from_get_or (λ b. (b == 46) ≡ false) (decimal number) 0 (λ i within. let d = digits_decimal (numerals_by_value _ tells_by_index) number wide i within in apart (get_or (decimal number) i 0) (omega (arith, d.0)))
  where
    apart : (b : ℕ) → 48 ≤ b → (b == 46) ≡ false
    apart b h = grind (arith, nat_tests)

variable_heard : (v : Variable) → IsVariableReadable v → variable_of (variable_word v) ≡ Some v
variable_heard v is =
    ap variable_by (slice_split_at (λ b. b == 46) (decimal v.channel) 46 (decimal v.cycle) (no_point v.channel is.0) refl ∙ ap (λ (parts : List Text). decimal v.channel ∷ parts) (slice_split_none (λ b. b == 46) (decimal v.cycle) (no_point v.cycle is.1)))
    ∙ ap₂ variable_with (number_read v.channel is.0) (number_read v.cycle is.1)

all_heard : (vs : List Variable) → AllByRecursion IsVariableReadable vs → all_variables (map (λ v. variable_word v) vs) ≡ Some vs
all_heard [] each = refl
all_heard (v ∷ vs) each = ap₂ and_variable (variable_heard v each.0) (all_heard vs each.1)

-- the words of variables
abbrev pub variable_words : List Variable → List Text
variable_words [] = codes "-" ∷ []
variable_words (v ∷ vs) = map (λ u. variable_word u) (v ∷ vs)

no_stroke : (word : Text) → 48 ≤ get_or word 0 0 → bytes_eq word (codes "-") ≡ false
no_stroke word high = by_test (bytes_eq word (codes "-")) refl
  where
    by_test : (t : Bool) → bytes_eq word (codes "-") ≡ t → bytes_eq word (codes "-") ≡ false
    by_test false e = e
    by_test true e = absurd (let same : word ≡ codes "-" = (bytes_eq-Decides word (codes "-")).0 e in let first : get_or word 0 0 ≡ 45 = ap (λ (w : Text). get_or w 0 0) same in omega (arith, first, high))

word_high : (v : Variable) → IsVariableReadable v → 48 ≤ get_or (variable_word v) 0 0
word_high v is =
    let wide : v.channel < 2 ^ 64 = (let small = is.0 in omega (arith, small)) in
    let some : 0 < length (decimal v.channel) = decimal_nonempty v.channel wide in
    let first : get_or (variable_word v) 0 0 ≡ get_or (decimal v.channel) 0 0 = get_or_append_left (decimal v.channel) (46 ∷ decimal v.cycle) 0 0 some in
    let d = digits_decimal (numerals_by_value _ tells_by_index) v.channel wide 0 some in
    omega (arith, first, d.0)

pub variables_heard : (vs : List Variable) → AllByRecursion IsVariableReadable vs → variables_of (variable_words vs) ≡ Some vs
variables_heard [] each = refl
variables_heard (v ∷ []) each = ap (λ (t : Bool). if t then Some [] else all_variables (variable_word v ∷ [])) (no_stroke (variable_word v) (word_high v each.0)) ∙ all_heard (v ∷ []) each
variables_heard (v ∷ u ∷ vs) each = all_heard (v ∷ u ∷ vs) each

fine_append : (a b : Text) → IsFine a → IsFine b → IsFine (a ++ b)
fine_append [] b h k = k
fine_append (x ∷ a) b h k = let r = and_parts (nat_le 33 x) (list_all (λ b. nat_le 33 b) a) h in and_from (nat_le 33 x) (list_all (λ b. nat_le 33 b) (a ++ b)) r.0 (fine_append a b r.1 k)

variable_fine : (v : Variable) → IsVariableReadable v → IsFine (variable_word v)
variable_fine v is = fine_append (decimal v.channel) (46 ∷ decimal v.cycle) (number_fine v.channel is.0) (number_fine v.cycle is.1)

all_fine : (vs : List Variable) → AllByRecursion IsVariableReadable vs → AllByRecursion IsFine (map (λ v. variable_word v) vs)
all_fine [] each = tt
all_fine (v ∷ vs) each = (variable_fine v each.0, all_fine vs each.1)

pub variables_fine : (vs : List Variable) → AllByRecursion IsVariableReadable vs → AllByRecursion IsFine (variable_words vs)
variables_fine [] each = (refl, tt)
variables_fine (v ∷ vs) each = all_fine (v ∷ vs) each

all_behind : (vs : List Variable) (rest : Text) → flat_map variable_text vs ++ rest ≡ behind (map (λ v. variable_word v) vs) rest
all_behind [] rest = refl
all_behind (v ∷ vs) rest =
    append_assoc (variable_text v) (flat_map variable_text vs) rest ∙ ap (λ (t : Text). variable_text v ++ t) (all_behind vs rest)

pub variables_behind : (vs : List Variable) (rest : Text) → variables_text vs ++ rest ≡ behind (variable_words vs) rest
variables_behind [] rest = refl
variables_behind (v ∷ vs) rest = all_behind (v ∷ vs) rest

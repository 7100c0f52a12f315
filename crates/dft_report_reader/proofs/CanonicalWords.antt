-- The words of a line are those that are written for what it says, and that can be read.
use Rattle.std.proofs.Common.{ℕ, ◌≡◌, ◌==◌, ◌&&◌, ◌⊎◌, inl, inr, Bool, true, false, List, [], ◌∷◌, ◌++◌, length, map, get_or, codes, Option, None, Some, option_map, refl, sym, ap, ap₂, subst, ◌∙◌}
use Rattle.std.specs.Prelude.{if◌then◌else◌, nat_lt}
use Rattle.std.specs.Fmt.{decimal}
use Rattle.std.specs.List.{join_with_byte, slice_split, AllByRecursion}
use Rattle.std.specs.Str.{bytes_eq}
use Rattle.std.proofs.lemmas.List.Splits.{join_with_byte-slice_split}
use Rattle.std.proofs.lemmas.Option.{same_Some}
use Rattle.std.proofs.lemmas.Bool.{and_parts, ltb-true}
use Rattle.std.proofs.lemmas.List.Sums.{AllPass-from_list_all}
use Rattle.dft_base.specs.Lexing.{Text}
use Rattle.dft_base.specs.declared.rule.Rule.{Rule}
use Rattle.dft_base.specs.declared.rule.Rule.TheVariants.{S1, S2, S3, S4}
use Rattle.dft_base.specs.Name.{IsName}
use Rattle.dft_base.proofs.TextLemmas.{printed, same_text}
use Rattle.dft_word_lines.specs.Lines.{is_printed, is_printed_word}
use Rattle.dft_report.specs.declared.report.Load.{Load}
use Rattle.dft_report.specs.declared.report.Variable.{Variable}
use Rattle.dft_report.specs.Written.{rule_text}
use Rattle.dft_report_reader.specs.Words.{is_name, number_of}
use Rattle.dft_report_reader.specs.Saying.{Said, Title, Counts, Chain, Scanned, Unscanned, Encoded, Unsolvable, Skipped, Sum, all_variables, and_variable, at_place, bit_of, chain_of, counts_of, counts_with, cube_of, edge_of, in_chain, load_by, load_of, outcome_of, plain_counts, rule_of, said_of, scanned_of, scanned_with, sum_of, sum_with, title_of, unscanned_of, variable_by, variable_of, variable_with, variables_by, variables_of, with_two}
use Rattle.dft_report_reader.specs.WrittenRead.{IsHeaderReadable, IsSmall, IsVariableReadable}
use Rattle.dft_report_reader.proofs.CanonicalNumbers.{behind_test, number_word}
use Rattle.dft_report_reader.proofs.Saying.{bit_word, edge_words, scanned_words, variable_word, variable_words}

-- ---- the words that are written

-- the first word of such a line, and those behind it
abbrev pub word_said : Said → Text
word_said Title = codes "edt"
word_said (Counts header) = codes "cells"
word_said (Chain chain size) = codes "chain"
word_said (Scanned name domain chain place falling) = codes "scanned"
word_said (Unscanned name rule) = codes "unscanned"
word_said (Encoded name pattern) = codes "cube"
word_said (Unsolvable name sums) = codes "cube"
word_said (Skipped name cell) = codes "cube"
word_said (Sum name bit variables) = codes "sum"

abbrev pub counts_said : (cells chains : ℕ) → Option Load → List Text
counts_said cells chains None = decimal cells ∷ codes "chains" ∷ decimal chains ∷ []
counts_said cells chains (Some load) = decimal cells ∷ codes "chains" ∷ decimal chains ∷ codes "cycles" ∷ decimal load.cycles ∷ codes "variables" ∷ decimal load.variables ∷ []

abbrev pub words_said : Said → List Text
words_said Title = codes "report" ∷ codes "1" ∷ []
words_said (Counts header) = counts_said header.cells header.chains header.load
words_said (Chain chain size) = decimal chain ∷ codes "length" ∷ decimal size ∷ []
words_said (Scanned name domain chain place falling) = scanned_words name domain chain place falling
words_said (Unscanned name rule) = name ∷ rule_text rule ∷ []
words_said (Encoded name pattern) = name ∷ codes "encoded" ∷ decimal pattern ∷ []
words_said (Unsolvable name sums) = name ∷ codes "unsolvable" ∷ decimal sums ∷ []
words_said (Skipped name cell) = name ∷ codes "skipped" ∷ cell ∷ []
words_said (Sum name bit variables) = name ∷ bit_word bit ∷ variables

-- its names are names, and its numbers are below 2^32
abbrev pub IsSaidReadable : Said → Type 0
IsSaidReadable Title = Unit {0}
IsSaidReadable (Counts header) = IsHeaderReadable header
IsSaidReadable (Chain chain size) = IsSmall chain × IsSmall size
IsSaidReadable (Scanned name domain chain place falling) = IsName name × IsName domain × IsSmall chain × IsSmall place
IsSaidReadable (Unscanned name rule) = IsName name
IsSaidReadable (Encoded name pattern) = IsName name × IsSmall pattern
IsSaidReadable (Unsolvable name sums) = IsName name × IsSmall sums
IsSaidReadable (Skipped name cell) = IsName name × IsName cell
IsSaidReadable (Sum name bit variables) = IsName name

-- words that are those of what they say, which can be read
abbrev Told : (word : Text) (words : List Text) → Said → Type 0
Told word words s = (word ≡ word_said s) × (words ≡ words_said s) × IsSaidReadable s

-- ---- steps back

-- one of two choices
either : {A : Type 0} (t : Bool) (o p : Option A) (x : A) → (if t then o else p) ≡ Some x → ((t ≡ true) × (o ≡ Some x)) ⊎ (p ≡ Some x)
either true o p x e = inl (refl, e)
either false o p x e = inr e

two_numbers : (say : ℕ → ℕ → Said) (oa ob : Option ℕ) (s : Said) → with_two say oa ob ≡ Some s → (a : ℕ) × (b : ℕ) × (oa ≡ Some a) × (ob ≡ Some b) × (say a b ≡ s)
two_numbers say None ob s e = absurd cc
two_numbers say (Some a) None s e = absurd cc
two_numbers say (Some a) (Some b) s e = (a, b, refl, refl, same_Some (say a b) s e)

mapped : {A : Type 0} (say : A → Said) (o : Option A) (s : Said) → option_map say o ≡ Some s → (a : A) × (o ≡ Some a) × (say a ≡ s)
mapped say None s e = absurd cc
mapped say (Some a) s e = (a, refl, same_Some (say a) s e)

-- what is taken as a name is one
name_is : (word : Text) → is_name word ≡ true → IsName word
name_is word e =
    let t = and_parts (nat_lt 0 (length word)) (is_printed_word word) e in
    record { some = ltb-true 0 (length word) t.0; each = λ k d less. printed (get_or word k d) (AllPass-from_list_all is_printed word t.1 k d less) }

-- ---- what each kind of line says

title_told : (words : List Text) (s : Said) → title_of words ≡ Some s → Told (codes "edt") words s
title_told [] s e = absurd cc
title_told (a ∷ []) s e = absurd cc
title_told (a ∷ b ∷ c ∷ words) s e = absurd cc
title_told (a ∷ b ∷ []) s e =
    let r = behind_test (bytes_eq a (codes "report") && bytes_eq b (codes "1")) (Some Title) s e in
    let t = and_parts (bytes_eq a (codes "report")) (bytes_eq b (codes "1")) r.0 in
    subst (Told (codes "edt") (a ∷ b ∷ [])) (same_Some Title s r.1) (refl, ap₂ (λ (x y : Text). x ∷ y ∷ []) (same_text a _ t.0) (same_text b _ t.1), tt)

load_told : (oc ov : Option ℕ) (cells chains : Option ℕ) (s : Said) → counts_with cells chains (load_of oc ov) ≡ Some s →
    (n : ℕ) × (c : ℕ) × (l : ℕ) × (v : ℕ) × (cells ≡ Some n) × (chains ≡ Some c) × (oc ≡ Some l) × (ov ≡ Some v) × (Counts (record { cells = n; chains = c; load = Some (record { cycles = l; variables = v }) }) ≡ s)
load_told oc ov None chains s e = absurd cc
load_told oc ov (Some n) None s e = absurd cc
load_told None ov (Some n) (Some c) s e = absurd cc
load_told (Some l) None (Some n) (Some c) s e = absurd cc
load_told (Some l) (Some v) (Some n) (Some c) s e = (n, c, l, v, refl, refl, refl, refl, same_Some (Counts (record { cells = n; chains = c; load = Some (record { cycles = l; variables = v }) })) s e)

variables_told : (cells word chains cycles_word cycles : Text) (rest : List Text) (s : Said) → word ≡ codes "chains" → cycles_word ≡ codes "cycles" → variables_by cells chains cycles rest ≡ Some s →
    Told (codes "cells") (cells ∷ word ∷ chains ∷ cycles_word ∷ cycles ∷ rest) s
variables_told cells word chains cw cycles [] s f g e = absurd cc
variables_told cells word chains cw cycles (a ∷ []) s f g e = absurd cc
variables_told cells word chains cw cycles (a ∷ b ∷ c ∷ rest) s f g e = absurd cc
variables_told cells word chains cw cycles (a ∷ b ∷ []) s f g e =
    let r = behind_test (bytes_eq a (codes "variables")) (counts_with (number_of cells) (number_of chains) (load_of (number_of cycles) (number_of b))) s e in
    let t = load_told (number_of cycles) (number_of b) (number_of cells) (number_of chains) s r.1 in
    let of_cells = number_word cells t.0 t.4 in
    let of_chains = number_word chains t.1 t.5 in
    let of_cycles = number_word cycles t.2 t.6 in
    let of_variables = number_word b t.3 t.7 in
    subst (Told (codes "cells") (cells ∷ word ∷ chains ∷ cw ∷ cycles ∷ a ∷ b ∷ [])) t.8 (
      refl,
      ap₂ (λ (x y : Text). x ∷ y ∷ chains ∷ cw ∷ cycles ∷ a ∷ b ∷ []) of_cells.0 f ∙ ap₂ (λ (x y : Text). decimal t.0 ∷ codes "chains" ∷ x ∷ y ∷ cycles ∷ a ∷ b ∷ []) of_chains.0 g
          ∙ ap₂ (λ (x y : Text). decimal t.0 ∷ codes "chains" ∷ decimal t.1 ∷ codes "cycles" ∷ x ∷ y ∷ b ∷ []) of_cycles.0 (same_text a _ r.0)
          ∙ ap (λ (x : Text). decimal t.0 ∷ codes "chains" ∷ decimal t.1 ∷ codes "cycles" ∷ decimal t.2 ∷ codes "variables" ∷ x ∷ []) of_variables.0,
      (of_cells.1, of_chains.1, (of_cycles.1, of_variables.1)),
    )

counts_rest : (cells word chains : Text) (rest : List Text) (s : Said) → word ≡ codes "chains" → load_by cells chains rest ≡ Some s → Told (codes "cells") (cells ∷ word ∷ chains ∷ rest) s
counts_rest cells word chains [] s f e =
    let t = two_numbers plain_counts (number_of cells) (number_of chains) s e in
    let of_cells = number_word cells t.0 t.2 in
    let of_chains = number_word chains t.1 t.3 in
    subst (Told (codes "cells") (cells ∷ word ∷ chains ∷ [])) t.4
    (refl, ap₂ (λ (x y : Text). x ∷ y ∷ chains ∷ []) of_cells.0 f ∙ ap (λ (x : Text). decimal t.0 ∷ codes "chains" ∷ x ∷ []) of_chains.0, (of_cells.1, of_chains.1, tt))
counts_rest cells word chains (a ∷ []) s f e = absurd cc
counts_rest cells word chains (a ∷ b ∷ rest) s f e =
    let r = behind_test (bytes_eq a (codes "cycles")) (variables_by cells chains b rest) s e in
    variables_told cells word chains a b rest s f (same_text a _ r.0) r.1

counts_told : (words : List Text) (s : Said) → counts_of words ≡ Some s → Told (codes "cells") words s
counts_told [] s e = absurd cc
counts_told (a ∷ []) s e = absurd cc
counts_told (a ∷ b ∷ []) s e = absurd cc
counts_told (a ∷ b ∷ c ∷ rest) s e = let r = behind_test (bytes_eq b (codes "chains")) (load_by a c rest) s e in counts_rest a b c rest s (same_text b _ r.0) r.1

chain_told : (words : List Text) (s : Said) → chain_of words ≡ Some s → Told (codes "chain") words s
chain_told [] s e = absurd cc
chain_told (a ∷ []) s e = absurd cc
chain_told (a ∷ b ∷ []) s e = absurd cc
chain_told (a ∷ b ∷ c ∷ d ∷ words) s e = absurd cc
chain_told (a ∷ b ∷ c ∷ []) s e =
    let r = behind_test (bytes_eq b (codes "length")) (with_two Chain (number_of a) (number_of c)) s e in
    let t = two_numbers Chain (number_of a) (number_of c) s r.1 in
    let of_chain = number_word a t.0 t.2 in
    let of_length = number_word c t.1 t.3 in
    subst (Told (codes "chain") (a ∷ b ∷ c ∷ [])) t.4
    (refl, ap₂ (λ (x y : Text). x ∷ y ∷ c ∷ []) of_chain.0 (same_text b _ r.0) ∙ ap (λ (x : Text). decimal t.0 ∷ codes "length" ∷ x ∷ []) of_length.0, (of_chain.1, of_length.1))

edge_is : (words : List Text) (falling : Bool) → edge_of words ≡ Some falling → words ≡ edge_words falling
edge_is [] falling e = ap edge_words (same_Some false falling e)
edge_is (a ∷ b ∷ words) falling e = absurd cc
edge_is (a ∷ []) falling e =
    let r = behind_test (bytes_eq a (codes "falling")) (Some true) falling e in
    ap (λ (x : Text). x ∷ []) (same_text a _ r.0) ∙ ap edge_words (same_Some true falling r.1)

edge_told : (name domain : Text) (chain place : Option ℕ) (edge : Option Bool) (s : Said) → scanned_with name domain edge chain place ≡ Some s →
    (falling : Bool) × (edge ≡ Some falling) × (with_two (λ c k. Scanned name domain c k falling) chain place ≡ Some s)
edge_told name domain chain place None s e = absurd cc
edge_told name domain chain place (Some falling) s e = (falling, refl, e)

place_told : (name domain word chain : Text) (rest : List Text) (s : Said) → IsName name → IsName domain → word ≡ codes "chain" → at_place name domain chain rest ≡ Some s → Told (codes "scanned") (name ∷ domain ∷ word ∷ chain ∷ rest) s
place_told name domain word chain [] s n d f e = absurd cc
place_told name domain word chain (a ∷ []) s n d f e = absurd cc
place_told name domain word chain (a ∷ b ∷ rest) s n d f e =
    let r = behind_test (bytes_eq a (codes "place")) (scanned_with name domain (edge_of rest) (number_of chain) (number_of b)) s e in
    let g = edge_told name domain (number_of chain) (number_of b) (edge_of rest) s r.1 in
    let t = two_numbers (λ c k. Scanned name domain c k g.0) (number_of chain) (number_of b) s g.2 in
    let of_chain = number_word chain t.0 t.2 in
    let of_place = number_word b t.1 t.3 in
    subst (Told (codes "scanned") (name ∷ domain ∷ word ∷ chain ∷ a ∷ b ∷ rest)) t.4 (
      refl,
      ap₂ (λ (x y : Text). name ∷ domain ∷ x ∷ y ∷ a ∷ b ∷ rest) f of_chain.0
          ∙ ap₂ (λ (x y : Text). name ∷ domain ∷ codes "chain" ∷ decimal t.0 ∷ x ∷ y ∷ rest) (same_text a _ r.0) of_place.0
          ∙ ap (λ (xs : List Text). name ∷ domain ∷ codes "chain" ∷ decimal t.0 ∷ codes "place" ∷ decimal t.1 ∷ xs) (edge_is rest g.0 g.1),
      (n, d, of_chain.1, of_place.1),
    )

scanned_rest : (name domain : Text) (rest : List Text) (s : Said) → IsName name → IsName domain → in_chain name domain rest ≡ Some s → Told (codes "scanned") (name ∷ domain ∷ rest) s
scanned_rest name domain [] s n d e = absurd cc
scanned_rest name domain (a ∷ []) s n d e = absurd cc
scanned_rest name domain (a ∷ b ∷ rest) s n d e =
    let r = behind_test (bytes_eq a (codes "chain")) (at_place name domain b rest) s e in place_told name domain a b rest s n d (same_text a _ r.0) r.1

scanned_told : (words : List Text) (s : Said) → scanned_of words ≡ Some s → Told (codes "scanned") words s
scanned_told [] s e = absurd cc
scanned_told (a ∷ []) s e = absurd cc
scanned_told (a ∷ b ∷ rest) s e =
    let r = behind_test (is_name a && is_name b) (in_chain a b rest) s e in
    let names = and_parts (is_name a) (is_name b) r.0 in
    scanned_rest a b rest s (name_is a names.0) (name_is b names.1) r.1

rule_word : (word : Text) (rule : Rule) → rule_of word ≡ Some rule → word ≡ rule_text rule
rule_word word rule e = elim (either (bytes_eq word (codes "S1")) (Some S1) _ rule e) [
  | inl first ↦ same_text word _ first.0 ∙ ap rule_text (same_Some S1 rule first.1)
  | inr more ↦ elim (either (bytes_eq word (codes "S2")) (Some S2) _ rule more) [
    | inl second ↦ same_text word _ second.0 ∙ ap rule_text (same_Some S2 rule second.1)
    | inr most ↦ elim (either (bytes_eq word (codes "S3")) (Some S3) _ rule most) [
      | inl third ↦ same_text word _ third.0 ∙ ap rule_text (same_Some S3 rule third.1)
      | inr last ↦ (let r = behind_test (bytes_eq word (codes "S4")) (Some S4) rule last in same_text word _ r.0 ∙ ap rule_text (same_Some S4 rule r.1))
    ]
  ]
]

unscanned_told : (words : List Text) (s : Said) → unscanned_of words ≡ Some s → Told (codes "unscanned") words s
unscanned_told [] s e = absurd cc
unscanned_told (a ∷ []) s e = absurd cc
unscanned_told (a ∷ b ∷ c ∷ words) s e = absurd cc
unscanned_told (a ∷ b ∷ []) s e =
    let r = behind_test (is_name a) (option_map (Unscanned a) (rule_of b)) s e in
    let t = mapped (Unscanned a) (rule_of b) s r.1 in
    subst (Told (codes "unscanned") (a ∷ b ∷ [])) t.2 (refl, ap (λ (x : Text). a ∷ x ∷ []) (rule_word b t.0 t.1), name_is a r.0)

outcome_told : (name word last : Text) (s : Said) → IsName name → outcome_of name word last ≡ Some s → Told (codes "cube") (name ∷ word ∷ last ∷ []) s
outcome_told name word last s n e = elim (either (bytes_eq word (codes "encoded")) (option_map (Encoded name) (number_of last)) _ s e) [
  | inl first ↦ (let t = mapped (Encoded name) (number_of last) s first.1 in
      let of_pattern = number_word last t.0 t.1 in
      subst (Told (codes "cube") (name ∷ word ∷ last ∷ [])) t.2 (refl, ap₂ (λ (x y : Text). name ∷ x ∷ y ∷ []) (same_text word _ first.0) of_pattern.0, (n, of_pattern.1)))
  | inr more ↦ elim (either (bytes_eq word (codes "unsolvable")) (option_map (Unsolvable name) (number_of last)) _ s more) [
    | inl second ↦ (let t = mapped (Unsolvable name) (number_of last) s second.1 in
        let of_sums = number_word last t.0 t.1 in
        subst (Told (codes "cube") (name ∷ word ∷ last ∷ [])) t.2 (refl, ap₂ (λ (x y : Text). name ∷ x ∷ y ∷ []) (same_text word _ second.0) of_sums.0, (n, of_sums.1)))
    | inr rest ↦ (let r = behind_test (bytes_eq word (codes "skipped") && is_name last) (Some (Skipped name last)) s rest in
        let t = and_parts (bytes_eq word (codes "skipped")) (is_name last) r.0 in
        subst (Told (codes "cube") (name ∷ word ∷ last ∷ [])) (same_Some (Skipped name last) s r.1) (refl, ap (λ (x : Text). name ∷ x ∷ last ∷ []) (same_text word _ t.0), (n, name_is last t.1)))
  ]
]

cube_told : (words : List Text) (s : Said) → cube_of words ≡ Some s → Told (codes "cube") words s
cube_told [] s e = absurd cc
cube_told (a ∷ []) s e = absurd cc
cube_told (a ∷ b ∷ []) s e = absurd cc
cube_told (a ∷ b ∷ c ∷ d ∷ words) s e = absurd cc
cube_told (a ∷ b ∷ c ∷ []) s e = let r = behind_test (is_name a) (outcome_of a b c) s e in outcome_told a b c s (name_is a r.0) r.1

bit_is : (word : Text) (bit : Bool) → bit_of word ≡ Some bit → word ≡ bit_word bit
bit_is word bit e = elim (either (bytes_eq word (codes "0")) (Some false) _ bit e) [
  | inl first ↦ same_text word _ first.0 ∙ ap bit_word (same_Some false bit first.1)
  | inr more ↦ (let r = behind_test (bytes_eq word (codes "1")) (Some true) bit more in same_text word _ r.0 ∙ ap bit_word (same_Some true bit r.1))
]

bit_told : (name word : Text) (words : List Text) (o : Option Bool) (s : Said) → IsName name → bit_of word ≡ o → sum_with name words o ≡ Some s → Told (codes "sum") (name ∷ word ∷ words) s
bit_told name word words None s n f e = absurd cc
bit_told name word words (Some bit) s n f e =
    subst (Told (codes "sum") (name ∷ word ∷ words)) (same_Some (Sum name bit words) s e) (refl, ap (λ (x : Text). name ∷ x ∷ words) (bit_is word bit f), n)

sum_told : (words : List Text) (s : Said) → sum_of words ≡ Some s → Told (codes "sum") words s
sum_told [] s e = absurd cc
sum_told (a ∷ []) s e = absurd cc
sum_told (a ∷ b ∷ words) s e = let r = behind_test (is_name a) (sum_with a words (bit_of b)) s e in bit_told a b words (bit_of b) s (name_is a r.0) refl r.1

-- the same, by the line's first word
told_by : (word first : Text) (words : List Text) (s : Said) → bytes_eq word first ≡ true → Told first words s → Told word words s
told_by word first words s e h = (same_text word first e ∙ h.0, h.1, h.2)

-- The words of a line are those of what it says, and that can be read.
pub said_told : (word : Text) (words : List Text) (s : Said) → said_of (word ∷ words) ≡ Some s → (word ≡ word_said s) × (words ≡ words_said s) × IsSaidReadable s
said_told word words s e = elim (either (bytes_eq word (codes "edt")) (title_of words) _ s e) [
  | inl a ↦ told_by word _ words s a.0 (title_told words s a.1)
  | inr more ↦ elim (either (bytes_eq word (codes "cells")) (counts_of words) _ s more) [
    | inl b ↦ told_by word _ words s b.0 (counts_told words s b.1)
    | inr more2 ↦ elim (either (bytes_eq word (codes "chain")) (chain_of words) _ s more2) [
      | inl c ↦ told_by word _ words s c.0 (chain_told words s c.1)
      | inr more3 ↦ elim (either (bytes_eq word (codes "scanned")) (scanned_of words) _ s more3) [
        | inl d ↦ told_by word _ words s d.0 (scanned_told words s d.1)
        | inr more4 ↦ elim (either (bytes_eq word (codes "unscanned")) (unscanned_of words) _ s more4) [
          | inl f ↦ told_by word _ words s f.0 (unscanned_told words s f.1)
          | inr more5 ↦ elim (either (bytes_eq word (codes "cube")) (cube_of words) _ s more5) [
            | inl g ↦ told_by word _ words s g.0 (cube_told words s g.1)
            | inr last ↦ (let r = behind_test (bytes_eq word (codes "sum")) (sum_of words) s last in told_by word _ words s r.0 (sum_told words s r.1))
          ]
        ]
      ]
    ]
  ]
]

-- ---- variables

variable_two : (oa ob : Option ℕ) (v : Variable) → variable_with oa ob ≡ Some v → (oa ≡ Some v.channel) × (ob ≡ Some v.cycle)
variable_two None ob v e = absurd cc
variable_two (Some a) None v e = absurd cc
variable_two (Some a) (Some b) v e = let same = same_Some (record { channel = a; cycle = b }) v e in (ap (λ (x : Variable). Some x.channel) same, ap (λ (x : Variable). Some x.cycle) same)

variable_parts : (parts : List Text) (v : Variable) → variable_by parts ≡ Some v → (join_with_byte 46 parts ≡ variable_word v) × IsVariableReadable v
variable_parts [] v e = absurd cc
variable_parts (a ∷ []) v e = absurd cc
variable_parts (a ∷ b ∷ c ∷ parts) v e = absurd cc
variable_parts (a ∷ b ∷ []) v e =
    let t = variable_two (number_of a) (number_of b) v e in
    let of_channel = number_word a v.channel t.0 in
    let of_cycle = number_word b v.cycle t.1 in
    (ap₂ (λ (x y : Text). x ++ (46 ∷ y)) of_channel.0 of_cycle.0, (of_channel.1, of_cycle.1))

variable_is : (word : Text) (v : Variable) → variable_of word ≡ Some v → word ≡ variable_word v
variable_is word v e = sym (join_with_byte-slice_split 46 word) ∙ (variable_parts (slice_split (λ b. b == 46) word) v e).0

one_more : (word : Text) (words : List Text) (o : Option Variable) (rest : Option (List Variable)) (us : List Variable) → variable_of word ≡ o →
    ((ws : List Variable) → rest ≡ Some ws → words ≡ map (λ v. variable_word v) ws) → and_variable o rest ≡ Some us → word ∷ words ≡ map (λ v. variable_word v) us
one_more word words None rest us f are e = absurd cc
one_more word words (Some v) None us f are e = absurd cc
one_more word words (Some v) (Some ws) us f are e =
    ap₂ (λ (x : Text) (xs : List Text). x ∷ xs) (variable_is word v f) (are ws refl) ∙ ap (λ (zs : List Variable). map (λ v. variable_word v) zs) (same_Some (v ∷ ws) us e)

all_are : (words : List Text) (vs : List Variable) → all_variables words ≡ Some vs → words ≡ map (λ v. variable_word v) vs
all_are [] vs e = ap (λ (us : List Variable). map (λ v. variable_word v) us) (same_Some [] vs e)
all_are (word ∷ words) vs e = one_more word words (variable_of word) (all_variables words) vs refl (λ ws. all_are words ws) e

some_words : (word : Text) (words : List Text) (vs : List Variable) → all_variables (word ∷ words) ≡ Some vs → word ∷ words ≡ variable_words vs
some_words word words [] e = absurd (no (all_are (word ∷ words) [] e))
  where
    no : word ∷ words ≡ [] → ⊥
    no e = absurd cc
some_words word words (v ∷ vs) e = all_are (word ∷ words) (v ∷ vs) e

pub variables_are : (words : List Text) (vs : List Variable) → variables_of words ≡ Some vs → words ≡ variable_words vs
variables_are [] vs e = absurd cc
variables_are (word ∷ next ∷ words) vs e = some_words word (next ∷ words) vs e
variables_are (word ∷ []) vs e = elim (either (bytes_eq word (codes "-")) (Some []) _ vs e) [
  | inl stroke ↦ ap (λ (x : Text). x ∷ []) (same_text word _ stroke.0) ∙ ap variable_words (same_Some [] vs stroke.1)
  | inr all ↦ some_words word [] vs all
]

-- ---- and they can be read

variable_more : (word : Text) (o : Option Variable) (rest : Option (List Variable)) (us : List Variable) → variable_of word ≡ o → ((ws : List Variable) → rest ≡ Some ws → AllByRecursion IsVariableReadable ws) → and_variable o rest ≡ Some us → AllByRecursion IsVariableReadable us
variable_more word None rest us f are e = absurd cc
variable_more word (Some v) None us f are e = absurd cc
variable_more word (Some v) (Some ws) us f are e = subst (AllByRecursion IsVariableReadable) (same_Some (v ∷ ws) us e) ((variable_parts (slice_split (λ b. b == 46) word) v f).1, are ws refl)

all_readable : (words : List Text) (vs : List Variable) → all_variables words ≡ Some vs → AllByRecursion IsVariableReadable vs
all_readable [] vs e = subst (AllByRecursion IsVariableReadable) (same_Some [] vs e) tt
all_readable (word ∷ words) vs e = variable_more word (variable_of word) (all_variables words) vs refl (λ ws. all_readable words ws) e

pub variables_readable : (words : List Text) (vs : List Variable) → variables_of words ≡ Some vs → AllByRecursion IsVariableReadable vs
variables_readable [] vs e = absurd cc
variables_readable (word ∷ next ∷ words) vs e = all_readable (word ∷ next ∷ words) vs e
variables_readable (word ∷ []) vs e = elim (either (bytes_eq word (codes "-")) (Some []) _ vs e) [
  | inl stroke ↦ subst (AllByRecursion IsVariableReadable) (same_Some [] vs stroke.1) tt
  | inr all ↦ all_readable (word ∷ []) vs all
]

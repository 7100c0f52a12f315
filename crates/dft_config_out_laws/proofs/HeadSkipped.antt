-- The line of comment is skipped.
use Rattle.std.proofs.Common.{◌≡◌, ℕ, ◌<◌, ◌^◌, ◌&&◌, Bool, true, false, cond, List, [], ◌∷◌, ◌++◌, codes, decimal, Option, Some, is_some, unwrap_or, refl, ◌∙◌, ap, arith, append_assoc}
use Rattle.std.specs.Prelude.{nat_le}
use Rattle.std.specs.List.{list_all}
use Rattle.std.proofs.lemmas.Bool.{and_parts}
use Rattle.std.proofs.lemmas.Bool.Decides.{nat_tests}
use Rattle.std.proofs.lemmas.List.Folds.{list_all-append}
use Rattle.std.proofs.lemmas.List.Elements.{recursion_from_All}
use Rattle.std.specs.List.{AllByRecursion}
use Rattle.dft_base.specs.Lexing.{Text}
use Rattle.dft_base.proofs.TextLemmas.{IsPrinted, digits_printed}
use Rattle.toml_parser.specs.Lexical.{first, skip_from, skip_turn}
use Rattle.dft_config_out.specs.Written.{head_text}
use Rattle.dft_config_out_laws.specs.Comments.{HeadIsSkipped}

-- a byte of a comment
abbrev fits : ℕ → Bool
fits b = nat_le 32 b && nat_le b 126

turn_is : (b next : ℕ) → fits b ≡ true → skip_turn true true b next ≡ Some true
turn_is b next is = grind (arith, nat_tests)

comment_skipped : (bytes rest : List ℕ) → list_all fits bytes ≡ true → skip_from true true (bytes ++ (10 ∷ rest)) ≡ skip_from true false rest
unfolding skip_from
comment_skipped [] rest all = refl
comment_skipped (b ∷ bytes) rest all =
    let parts = and_parts (fits b) (list_all fits bytes) all in
    let turn = turn_is b (first (bytes ++ (10 ∷ rest))) parts.0 in
    ap (λ (o : Option Bool). cond (is_some o) (skip_from true (unwrap_or o false) (bytes ++ (10 ∷ rest))) (b ∷ (bytes ++ (10 ∷ rest)))) turn ∙ comment_skipped bytes rest parts.1

printed_fits : (b : ℕ) → IsPrinted b → fits b ≡ true
printed_fits b is = let low = is.0 in let high = is.1 in grind (arith, nat_tests)

all_fit : (bytes : List ℕ) → AllByRecursion IsPrinted bytes → list_all fits bytes ≡ true
all_fit [] all = refl
all_fit (b ∷ bytes) all = (λ i. printed_fits b all.0 i && all_fit bytes all.1 i)

digits_fit : (n : ℕ) → n < 2 ^ 64 → list_all fits (decimal n) ≡ true
digits_fit n less = all_fit (decimal n) (recursion_from_All IsPrinted (decimal n) (digits_printed n less))

both_fit : (a b : List ℕ) → list_all fits a ≡ true → list_all fits b ≡ true → list_all fits (a ++ b) ≡ true
both_fit a b first second = list_all-append fits a b ∙ (λ i. first i && second i)

pub head_skipped : HeadIsSkipped
unfolding head_text skip_from
head_skipped cells chains rest few small =
    let before = codes " Made by dft configure: " in
    let middle = codes " flip-flops in " in
    let last = codes " chains." in
    let body = before ++ (decimal cells ++ (middle ++ (decimal chains ++ last))) in
    let all : list_all fits body ≡ true =
    both_fit before (decimal cells ++ (middle ++ (decimal chains ++ last))) refl (both_fit (decimal cells) (middle ++ (decimal chains ++ last)) (digits_fit cells few)
    (both_fit middle (decimal chains ++ last) refl (both_fit (decimal chains) last (digits_fit chains small) refl))) in
    let whole : head_text cells chains ++ rest ≡ 35 ∷ (body ++ (10 ∷ rest)) = simp append_assoc refl in
    ap (λ (t : Text). skip_from true false t) whole ∙ comment_skipped body rest all

-- The lines that are left give what all of them give.
use Rattle.std.proofs.Common.{ℕ, zero, suc, ◌+◌, ◌-◌, ◌≡◌, ◌==◌, ◌<◌, ◌≤◌, IfOk, List, [], ◌∷◌, ◌++◌, length, map, take, drop, get_or, count_by, Option, None, Some, option_map, Result, Ok, Err, refl, sym, ap, arith, ◌∙◌, append_assoc, append-nil}
use Rattle.std.proofs.lemmas.List.{drop_more, length-map}
use Rattle.std.proofs.lemmas.List.Splits.{length-slice_split}
use Rattle.std.proofs.lemmas.List.Sums.{count_by-le-length}
use Rattle.dft_base.specs.Lexing.{Text}
use Rattle.dft_base.proofs.ListLemmas.{drop_over}
use Rattle.dft_report.specs.declared.report.Report.{Report}
use Rattle.dft_report.specs.declared.report.Variable.{Variable}
use Rattle.dft_report_reader.specs.declared.error.ReadError.{ReadError}
use Rattle.dft_report_reader.specs.declared.error.ReadError.TheVariants.{K1, Memory}
use Rattle.dft_report_reader.specs.Words.{lines_of, words_of}
use Rattle.dft_report_reader.specs.Saying.{said_of, variable_of, and_variable, all_variables}
use Rattle.dft_report_reader.specs.Reading.{Reading, IsRefused, nothing_read, with_said, then_lines, read_lines, place_of_line, ended, then_ended, report_by}

-- ---- lines

-- a line that may stand there
pub line_passes : {X : Type 0} (f : X → Text) (xs : List X) (n : ℕ) (d : X) (r s : Reading) (total : Result Reading ReadError) → n < length xs → with_said r (said_of (words_of (f (get_or xs n d)))) ≡ Some s →
    read_lines r n (map f (drop n xs)) ≡ total → read_lines s (n + 1) (map f (drop (n + 1) xs)) ≡ total
line_passes f xs n d r s total less is e =
    let next : n + 1 ≡ suc n = omega arith in
    let rest = map f (drop (n + 1) xs) in
    ap (λ k. read_lines s k rest) next
    ∙ sym (ap (λ (o : Option Reading). then_lines (suc n) o (λ t. read_lines t (suc n) rest)) is)
    ∙ sym (ap (λ ys. read_lines r n (map f ys)) (drop_more xs n d less))
    ∙ e

-- and one that may not
pub line_fails : {X : Type 0} (f : X → Text) (xs : List X) (n : ℕ) (d : X) (r : Reading) (total : Result Reading ReadError) → n < length xs → with_said r (said_of (words_of (f (get_or xs n d)))) ≡ None →
    read_lines r n (map f (drop n xs)) ≡ total → total ≡ Err (K1 (place_of_line (n + 1)))
line_fails f xs n d r total less is e =
    let next : suc n ≡ n + 1 = omega arith in
    let rest = map f (drop (n + 1) xs) in
    sym e
    ∙ ap (λ ys. read_lines r n (map f ys)) (drop_more xs n d less)
    ∙ ap (λ (o : Option Reading). then_lines (suc n) o (λ t. read_lines t (suc n) rest)) is
    ∙ ap (λ k. Err (K1 (place_of_line k))) next

-- behind the last one
pub lines_end : {X : Type 0} (f : X → Text) (xs : List X) (n : ℕ) (r : Reading) (total : Result Reading ReadError) → length xs ≤ n → read_lines r n (map f (drop n xs)) ≡ total → total ≡ Ok r
lines_end f xs n r total le e = sym e ∙ ap (λ ys. read_lines r n (map f ys)) (drop_over xs n le)

-- ---- variables

-- these, and then those of the words that are left
abbrev pub with_front : List Variable → Option (List Variable) → Option (List Variable)
with_front front rest = option_map (λ (vs : List Variable). front ++ vs) rest

front_more : (front : List Variable) (v : Variable) (rest : Option (List Variable)) → with_front (front ++ v ∷ []) rest ≡ with_front front (and_variable (Some v) rest)
front_more front v None = refl
front_more front v (Some vs) = ap Some (append_assoc front (v ∷ []) vs)

pub variable_passes : {X : Type 0} (f : X → Text) (xs : List X) (n : ℕ) (d : X) (front new : List Variable) (v : Variable) (total : Option (List Variable)) → n < length xs → variable_of (f (get_or xs n d)) ≡ Some v → new ≡ front ++ v ∷ [] →
    with_front front (all_variables (map f (drop n xs))) ≡ total → with_front new (all_variables (map f (drop (n + 1) xs))) ≡ total
variable_passes f xs n d front new v total less is pushed e =
    let rest = all_variables (map f (drop (n + 1) xs)) in
    ap (λ (vs : List Variable). with_front vs rest) pushed
    ∙ front_more front v rest
    ∙ sym (ap (λ (o : Option Variable). with_front front (and_variable o rest)) is)
    ∙ sym (ap (λ ys. with_front front (all_variables (map f ys))) (drop_more xs n d less))
    ∙ e

pub variable_fails : {X : Type 0} (f : X → Text) (xs : List X) (n : ℕ) (d : X) (front : List Variable) (total : Option (List Variable)) → n < length xs → variable_of (f (get_or xs n d)) ≡ None →
    with_front front (all_variables (map f (drop n xs))) ≡ total → total ≡ None
variable_fails f xs n d front total less is e =
    let rest = all_variables (map f (drop (n + 1) xs)) in
    sym e ∙ ap (λ ys. with_front front (all_variables (map f ys))) (drop_more xs n d less) ∙ ap (λ (o : Option Variable). with_front front (and_variable o rest)) is

pub variables_end : {X : Type 0} (f : X → Text) (xs : List X) (n : ℕ) (front : List Variable) (total : Option (List Variable)) → length xs ≤ n → with_front front (all_variables (map f (drop n xs))) ≡ total → total ≡ Some front
variables_end f xs n front total le e = sym e ∙ ap (λ ys. with_front front (all_variables (map f ys))) (drop_over xs n le) ∙ ap Some (append-nil front)

-- ---- how many lines there are

line_count : {X : Type 0} (f : X → Text) (text : Text) (xs : List X) → map f xs ≡ lines_of text → length xs ≡ count_by (λ b. b == 10) text + 1
line_count f text xs e = sym (length-map xs f) ∙ ap length e ∙ length-slice_split (λ b. b == 10) text

pub some_line : {X : Type 0} (f : X → Text) (text : Text) (xs : List X) → map f xs ≡ lines_of text → 0 < length xs
some_line f text xs e = omega (arith, line_count f text xs e)

pub few_lines : {X : Type 0} (f : X → Text) (text : Text) (xs : List X) → map f xs ≡ lines_of text → length xs ≤ length text + 1
few_lines f text xs e = omega (arith, line_count f text xs e, count_by-le-length (λ b. b == 10) text)

-- where there are some
pub lines_some : {X V E : Type 0} (f : X → Text) (items : V → List X) (text : Text) (o : Result V E) → IfOk o (λ lines. map f (items lines) ≡ lines_of text) → IfOk o (λ lines. 0 < length (items lines))
lines_some f items text (Ok lines) e = some_line f text (items lines) e
lines_some f items text (Err error) e = tt

pub lines_few : {X V E : Type 0} (f : X → Text) (items : V → List X) (text : Text) (o : Result V E) → IfOk o (λ lines. map f (items lines) ≡ lines_of text) → IfOk o (λ lines. length (items lines) ≤ length text + 1)
lines_few f items text (Ok lines) e = few_lines f text (items lines) e
lines_few f items text (Err error) e = tt

-- ---- the report of lines

take_map : {X : Type 0} (f : X → Text) (k : ℕ) (xs : List X) → take k (map f xs) ≡ map f (take k xs)
take_map f zero xs = refl
take_map f (suc k) [] = refl
take_map f (suc k) (x ∷ xs) = ap (λ (ys : List Text). f x ∷ ys) (take_map f k xs)

get_map : {X : Type 0} (f : X → Text) (xs : List X) (k : ℕ) (d : X) → k < length xs → get_or (map f xs) k [] ≡ f (get_or xs k d)
get_map f [] k d less = absurd (omega (arith, less))
get_map f (x ∷ xs) zero d less = refl
get_map f (x ∷ xs) (suc k) d less = get_map f xs k d (omega (arith, less))

whole : {X : Type 0} (f : X → Text) (xs : List X) → report_by (map f xs) ≡ then_ended (suc (length xs - 1)) (get_or (map f xs) (length xs - 1) []) (read_lines nothing_read 0 (map f (take (length xs - 1) xs)))
whole f xs =
    ap (λ k. then_ended (suc (k - 1)) (get_or (map f xs) (k - 1) []) (read_lines nothing_read 0 (take (k - 1) (map f xs)))) (length-map xs f)
    ∙ ap (λ ts. then_ended (suc (length xs - 1)) (get_or (map f xs) (length xs - 1) []) (read_lines nothing_read 0 ts)) (take_map f (length xs - 1) xs)

pub report_is : {X : Type 0} (f : X → Text) (xs : List X) (d : X) (r : Reading) (number : ℕ) → 0 < length xs → number ≡ length xs → read_lines nothing_read 0 (map f (take (length xs - 1) xs)) ≡ Ok r →
    report_by (map f xs) ≡ ended number (f (get_or xs (length xs - 1) d)) r
report_is f xs d r number some is e =
    let place : suc (length xs - 1) ≡ number = omega (arith, some, is) in
    let last = length xs - 1 in
    whole f xs
    ∙ ap (then_ended (suc last) (get_or (map f xs) last [])) e
    ∙ ap (λ t. ended (suc last) t r) (get_map f xs last d (omega (arith, some)))
    ∙ ap (λ k. ended k (f (get_or xs last d)) r) place

pub report_fails : {X : Type 0} (f : X → Text) (xs : List X) (error : ReadError) → IsRefused (read_lines nothing_read 0 (map f (take (length xs - 1) xs))) error → IsRefused (report_by (map f xs)) error
report_fails f xs (K1 place) e = whole f xs ∙ ap (then_ended (suc (length xs - 1)) (get_or (map f xs) (length xs - 1) [])) e
report_fails f xs (Memory error) e = tt

-- what is told of one is told of the same
pub same_report : (told : Result Report ReadError) (a b : Result Report ReadError) → a ≡ b → IfOk told (λ report. b ≡ Ok report) → IfOk told (λ report. a ≡ Ok report)
same_report (Ok report) a b e h = e ∙ h
same_report (Err error) a b e h = tt

-- The parts of a written report bring a reading on.
use Rattle.std.proofs.Common.{ℕ, suc, ◌+◌, ◌-◌, ◌≤◌, ◌^◌, ◌≡◌, ◌&&◌, Bool, true, false, List, [], ◌∷◌, ◌++◌, length, flat_map, codes, Option, None, Some, refl, sym, ap, ap₂, subst, arith, ◌∙◌}
use Rattle.std.specs.Prelude.{if◌then◌else◌, is_some, nat_le}
use Rattle.std.specs.Fmt.{decimal}
use Rattle.std.proofs.lemmas.Bool.Decides.{nat_tests}
use Rattle.std.proofs.lemmas.List.{append-nil, append_assoc, length-append}
use Rattle.std.specs.List.{AllByRecursion}
use Rattle.dft_base.specs.Lexing.{Text}
use Rattle.dft_base.specs.Name.{IsName}
use Rattle.dft_base.proofs.NumberLemmas.{not_zero, same_number}
use Rattle.dft_report.specs.declared.report.Load.{Load}
use Rattle.dft_report.specs.declared.report.Header.{Header}
use Rattle.dft_report.specs.declared.report.ScannedLine.{ScannedLine}
use Rattle.dft_report.specs.declared.report.UnscannedLine.{UnscannedLine}
use Rattle.dft_report.specs.declared.report.SumLine.{SumLine}
use Rattle.dft_report.specs.declared.report.CubeLine.{CubeLine}
use Rattle.dft_report.specs.declared.report.CubeLine.TheVariants as outcome
use Rattle.dft_report.specs.declared.report.CubeReport.{CubeReport}
use Rattle.dft_report.specs.Written.{bit_text, chain_line, chain_lines, counts_text, cube_lines, header_line, rule_text, scanned_line, sum_line, unscanned_line, unsolvable_text, variables_text}
use Rattle.dft_report_reader.specs.Saying.{said_of}
use Rattle.dft_report_reader.specs.Reading.{Owing, Reading, nothing_read, with_cube, with_owing, with_said, with_sum}
use Rattle.dft_report_reader.specs.WrittenRead.{IsCubeReadable, IsHeaderReadable, IsLoadReadable, IsOutcomeReadable, IsScannedReadable, IsSmall, IsSumReadable, IsUnscannedReadable}
use Rattle.dft_report_reader.proofs.NumberLemmas.{IsFine, number_fine}
use Rattle.dft_report_reader.proofs.Lines.{Brings, behind, behind_append, brings_both, brings_line, brings_none}
use Rattle.dft_report_reader.proofs.Saying.{bit_fine, bit_word, edge_fine, name_fine, rule_fine, scanned_behind, scanned_words, says_chain, says_encoded, says_load, says_plain, says_scanned, says_skipped, says_sum, says_unscanned, says_unsolvable, variable_words, variables_behind, variables_fine, variables_heard}

-- a line as it is written, which is a line of words
brings_text : (r s : Reading) (text word : Text) (words : List Text) → text ≡ word ++ behind words (10 ∷ []) → IsFine word → AllByRecursion IsFine words → with_said r (said_of (word ∷ words)) ≡ Some s → Brings r text s
brings_text r s text word words e fine each said = subst (λ (t : Text). Brings r t s) (sym e) (brings_line r s word words fine each said)

-- ---- the title and the header

abbrev pub titled : Reading
titled = record nothing_read { stage = 1 }

pub title_brings : Brings nothing_read (codes "edt report 1\n") titled
title_brings = brings_line nothing_read titled (codes "edt") (codes "report" ∷ codes "1" ∷ []) refl (refl, (refl, tt)) refl

abbrev pub headed : Header → Reading
headed header = record titled { header = header; stage = 2 }

header_with : (cells chains : ℕ) (load : Option Load) → IsSmall cells → IsSmall chains → IsLoadReadable load → Brings titled (header_line (record { cells = cells; chains = chains; load = load })) (headed (record { cells = cells; chains = chains; load = load }))
unfolding header_line counts_text
header_with cells chains None a b is =
    brings_text titled (headed (record { cells = cells; chains = chains; load = None })) _ (codes "cells") (decimal cells ∷ codes "chains" ∷ decimal chains ∷ []) refl refl (number_fine cells a, (refl, (number_fine chains b, tt)))
    (ap (with_said titled) (says_plain cells chains a b))
header_with cells chains (Some load) a b is =
    let counts : counts_text load ++ codes "\n" ≡ codes " cycles " ++ (decimal load.cycles ++ (codes " variables " ++ (decimal load.variables ++ codes "\n"))) =
    ap (λ (t : Text). codes " cycles " ++ t) (append_assoc (decimal load.cycles) (codes " variables " ++ decimal load.variables) (codes "\n")) in
    brings_text titled (headed (record { cells = cells; chains = chains; load = Some load })) _ (codes "cells")
    (decimal cells ∷ codes "chains" ∷ decimal chains ∷ codes "cycles" ∷ decimal load.cycles ∷ codes "variables" ∷ decimal load.variables ∷ [])
    (ap (λ (t : Text). codes "cells " ++ (decimal cells ++ (codes " chains " ++ (decimal chains ++ t)))) counts) refl
    (number_fine cells a, (refl, (number_fine chains b, (refl, (number_fine load.cycles is.0, (refl, (number_fine load.variables is.1, tt)))))))
    (ap (with_said titled) (says_load cells chains load.cycles load.variables a b is.0 is.1))

pub header_brings : (header : Header) → IsHeaderReadable header → Brings titled (header_line header) (headed header)
header_brings header is = header_with header.cells header.chains header.load is.0 is.1 is.2

-- ---- chains

abbrev pub chained : Header → List ℕ → Reading
chained header chains = record (headed header) { chains = chains }

one_chain : (header : Header) (done : List ℕ) (size : ℕ) → IsSmall (length done) → IsSmall size → Brings (chained header done) (chain_line (length done) size) (chained header (done ++ size ∷ []))
unfolding chain_line
one_chain header done size a b =
    brings_text (chained header done) (chained header (done ++ size ∷ [])) _ (codes "chain") (decimal (length done) ∷ codes "length" ∷ decimal size ∷ []) refl refl (number_fine (length done) a, (refl, (number_fine size b, tt)))
    (ap (with_said (chained header done)) (says_chain (length done) size a b) ∙ ap (λ (t : Bool). if t then Some (chained header (done ++ size ∷ [])) else None) (same_number (length done)))

pub chains_bring : (header : Header) (done more : List ℕ) → length done + length more ≤ 2 ^ 32 → AllByRecursion IsSmall more → Brings (chained header done) (chain_lines (length done) more) (chained header (done ++ more))
chains_bring header done [] small each = subst (λ (chains : List ℕ). Brings (chained header done) [] (chained header chains)) (sym (append-nil done)) (brings_none (chained header done))
chains_bring header done (size ∷ more) small each =
    let count : length (done ++ size ∷ []) ≡ length done + 1 = length-append done (size ∷ []) in
    let rest : Brings (chained header (done ++ size ∷ [])) (chain_lines (length (done ++ size ∷ [])) more) (chained header ((done ++ size ∷ []) ++ more)) = chains_bring header (done ++ size ∷ []) more (omega (arith, small, count)) each.1 in
    let moved : Brings (chained header (done ++ size ∷ [])) (chain_lines (length done + 1) more) (chained header (done ++ size ∷ more)) =
    subst (λ (chains : List ℕ). Brings (chained header (done ++ size ∷ [])) (chain_lines (length done + 1) more) (chained header chains)) (append_assoc done (size ∷ []) more)
    (subst (λ (n : ℕ). Brings (chained header (done ++ size ∷ [])) (chain_lines n more) (chained header ((done ++ size ∷ []) ++ more))) count rest) in
    brings_both (chained header done) (chained header (done ++ size ∷ [])) (chained header (done ++ size ∷ more)) (chain_line (length done) size) (chain_lines (length done + 1) more)
    (one_chain header done size (omega (arith, small)) each.0) moved

-- ---- flip-flops

between : (low high stage : ℕ) → low ≤ stage → stage ≤ high → (nat_le low stage && nat_le stage high) ≡ true
between low high stage a b = grind (arith, nat_tests)

abbrev pub scanned_at : Reading → List ScannedLine → (stage : ℕ) → Reading
scanned_at r lines stage = record r { scanned = lines; stage = stage }

one_scanned : (r : Reading) (done : List ScannedLine) (stage : ℕ) (line : ScannedLine) → 2 ≤ stage → stage ≤ 3 → IsScannedReadable line → Brings (scanned_at r done stage) (scanned_line line) (scanned_at r (done ++ line ∷ []) 3)
one_scanned r done stage line a b is =
    brings_text (scanned_at r done stage) (scanned_at r (done ++ line ∷ []) 3) (scanned_line line) (codes "scanned") (scanned_words line.name line.domain line.chain line.place line.falling)
    (scanned_behind line.name line.domain line.chain line.place line.falling) refl
    (name_fine line.name is.0, (name_fine line.domain is.1, (refl, (number_fine line.chain is.2, (refl, (number_fine line.place is.3, edge_fine line.falling))))))
    (ap (with_said (scanned_at r done stage)) (says_scanned line.name line.domain line.chain line.place line.falling is.0 is.1 is.2 is.3)
    ∙ ap (λ (t : Bool). if t then Some (scanned_at r (done ++ line ∷ []) 3) else None) (between 2 3 stage a b))

-- a later stage, up to which one may go on
pub record Goes (high : ℕ) (r : Reading) (text : Text) (at : ℕ → Reading) : Type 0 where
  pub stage : ℕ
  pub low : 2 ≤ stage
  pub most : stage ≤ high
  pub brings : Brings r text (at stage)

-- lines of one kind, where each of them brings on
lines_bring : {X : Type 0} (P : X → Type 0) (text : X → Text) (at : List X → ℕ → Reading) (own : ℕ) → 2 ≤ own →
    ((done : List X) (stage : ℕ) (line : X) → 2 ≤ stage → stage ≤ own → P line → Brings (at done stage) (text line) (at (done ++ line ∷ []) own)) →
    (done more : List X) (stage : ℕ) → 2 ≤ stage → stage ≤ own → AllByRecursion P more → Goes own (at done stage) (flat_map text more) (at (done ++ more))
lines_bring {X = X} P text at own least one done [] stage a b each =
    record { stage = stage; low = a; most = b; brings = subst (λ (lines : List X). Brings (at done stage) [] (at lines stage)) (sym (append-nil done)) (brings_none (at done stage)) }
lines_bring {X = X} P text at own least one done (line ∷ more) stage a b each =
    let rest = lines_bring P text at own least one (done ++ line ∷ []) more own least (omega arith) each.1 in
    record {
      stage = rest.stage;
      low = rest.low;
      most = rest.most;
      brings = brings_both (at done stage) (at (done ++ line ∷ []) own) (at (done ++ line ∷ more) rest.stage) (text line) (flat_map text more) (one done stage line a b each.0)
          (subst (λ (lines : List X). Brings (at (done ++ line ∷ []) own) (flat_map text more) (at lines rest.stage)) (append_assoc done (line ∷ []) more) rest.brings);
    }

pub scanned_bring : (r : Reading) (done more : List ScannedLine) (stage : ℕ) → 2 ≤ stage → stage ≤ 3 → AllByRecursion IsScannedReadable more → Goes 3 (scanned_at r done stage) (flat_map scanned_line more) (scanned_at r (done ++ more))
scanned_bring r = lines_bring IsScannedReadable scanned_line (scanned_at r) 3 (omega arith) (one_scanned r)

abbrev pub unscanned_at : Reading → List UnscannedLine → (stage : ℕ) → Reading
unscanned_at r lines stage = record r { unscanned = lines; stage = stage }

one_unscanned : (r : Reading) (done : List UnscannedLine) (stage : ℕ) (line : UnscannedLine) → 2 ≤ stage → stage ≤ 4 → IsUnscannedReadable line → Brings (unscanned_at r done stage) (unscanned_line line) (unscanned_at r (done ++ line ∷ []) 4)
unfolding unscanned_line
one_unscanned r done stage line a b is =
    brings_text (unscanned_at r done stage) (unscanned_at r (done ++ line ∷ []) 4) _ (codes "unscanned") (line.name ∷ rule_text line.rule ∷ []) refl refl (name_fine line.name is, (rule_fine line.rule, tt))
    (ap (with_said (unscanned_at r done stage)) (says_unscanned line.name line.rule is) ∙ ap (λ (t : Bool). if t then Some (unscanned_at r (done ++ line ∷ []) 4) else None) (between 2 4 stage a b))

pub unscanned_bring : (r : Reading) (done more : List UnscannedLine) (stage : ℕ) → 2 ≤ stage → stage ≤ 4 → AllByRecursion IsUnscannedReadable more → Goes 4 (unscanned_at r done stage) (flat_map unscanned_line more) (unscanned_at r (done ++ more))
unscanned_bring r = lines_bring IsUnscannedReadable unscanned_line (unscanned_at r) 4 (omega arith) (one_unscanned r)

-- ---- cubes

abbrev pub cubed : Reading → List CubeReport → (stage : ℕ) → Reading
cubed r cubes stage = record r { cubes = cubes; owing = None; stage = stage }

abbrev owed_by : Reading → List CubeReport → Owing → Reading
owed_by r cubes o = record r { cubes = cubes; owing = Some o; stage = 5 }

may_be : (low stage : ℕ) → low ≤ stage → (b : Bool) → b ≡ true → (nat_le low stage && true && b) ≡ true
may_be low stage a b e = grind (arith, nat_tests, e)

pub bit_texts : (bit : Bool) (rest : Text) → bit_text bit ++ rest ≡ 32 ∷ (bit_word bit ++ rest)
bit_texts false rest = refl
bit_texts true rest = refl

-- the line of a sum is a line of words
pub sum_words : (line : SumLine) → sum_line line ≡ codes "sum" ++ behind (line.name ∷ bit_word line.bit ∷ variable_words line.variables) (10 ∷ [])
unfolding sum_line
sum_words line =
    ap (λ (t : Text). codes "sum " ++ (line.name ++ t)) (bit_texts line.bit (variables_text line.variables ++ codes "\n") ∙ ap (λ (t : Text). 32 ∷ (bit_word line.bit ++ t)) (variables_behind line.variables (10 ∷ [])))

one_sum : (r s : Reading) (o : Owing) (line : SumLine) → r.owing ≡ Some o → IsSumReadable line → with_sum r (Some o) line.name line.bit (Some line.variables) ≡ Some s → Brings r (sum_line line) s
one_sum r s o line owing is said =
    brings_text r s (sum_line line) (codes "sum") (line.name ∷ bit_word line.bit ∷ variable_words line.variables) (sum_words line) refl
    (name_fine line.name is.0, (bit_fine line.bit, variables_fine line.variables is.1))
    (ap (with_said r) (says_sum line.name line.bit (variable_words line.variables) is.0)
    ∙ ap₂ (λ (w : Option Owing) (vs : Option (List _)). with_sum r w line.name line.bit vs) owing (variables_heard line.variables is.1) ∙ said)

many : (n : ℕ) → nat_le (suc (suc n)) 1 ≡ false
many n = grind (arith, nat_tests)

sums_bring : (r : Reading) (cubes : List CubeReport) (name : Text) (done : List SumLine) (line : SumLine) (more : List SumLine) → AllByRecursion IsSumReadable (line ∷ more) →
    Brings (owed_by r cubes (record { name = name; sums = done; owed = suc (length more) })) (flat_map sum_line (line ∷ more)) (cubed r (cubes ++ record { name = name; outcome = outcome.Unsolvable (done ++ line ∷ more) } ∷ []) 5)
sums_bring r cubes name done line [] each =
    let o : Owing = record { name = name; sums = done; owed = 1 } in
    let s : Reading = cubed r (cubes ++ record { name = name; outcome = outcome.Unsolvable (done ++ line ∷ []) } ∷ []) 5 in
    brings_both (owed_by r cubes o) s s (sum_line line) [] (one_sum (owed_by r cubes o) s o line refl each.0 refl) (brings_none s)
sums_bring r cubes name done line (next ∷ more) each =
    let o : Owing = record { name = name; sums = done; owed = suc (suc (length more)) } in
    let p : Owing = record { name = name; sums = done ++ line ∷ []; owed = suc (length more) } in
    let s : Reading = cubed r (cubes ++ record { name = name; outcome = outcome.Unsolvable (done ++ line ∷ next ∷ more) } ∷ []) 5 in
    let left : suc (suc (length more)) - 1 ≡ suc (length more) = omega arith in
    let here : Brings (owed_by r cubes o) (sum_line line) (owed_by r cubes p) =
    one_sum (owed_by r cubes o) (owed_by r cubes p) o line refl each.0
    (ap (λ (t : Bool). Some (if t then cubed r (cubes ++ record { name = name; outcome = outcome.Unsolvable (done ++ line ∷ []) } ∷ []) 5 else owed_by r cubes (record { name = name; sums = done ++ line ∷ []; owed = suc (suc (length more)) - 1 }))) (many (length more))
    ∙ ap (λ (n : ℕ). Some (owed_by r cubes (record { name = name; sums = done ++ line ∷ []; owed = n }))) left) in
    let rest : Brings (owed_by r cubes p) (flat_map sum_line (next ∷ more)) s =
    subst (λ (sums : List SumLine). Brings (owed_by r cubes p) (flat_map sum_line (next ∷ more)) (cubed r (cubes ++ record { name = name; outcome = outcome.Unsolvable sums } ∷ []) 5)) (append_assoc done (line ∷ []) (next ∷ more))
    (sums_bring r cubes name (done ++ line ∷ []) next more each.1) in
    brings_both (owed_by r cubes o) (owed_by r cubes p) s (sum_line line) (flat_map sum_line (next ∷ more)) here rest

cube_with : (r : Reading) (cubes : List CubeReport) (stage : ℕ) (name : Text) (o : CubeLine) → is_some r.header.load ≡ true → 2 ≤ stage → IsName name → IsOutcomeReadable o →
    Brings (cubed r cubes stage) (cube_lines (record { name = name; outcome = o })) (cubed r (cubes ++ record { name = name; outcome = o } ∷ []) 5)
unfolding cube_lines unsolvable_text
cube_with r cubes stage name (outcome.Encoded pattern) load low named is =
    brings_text (cubed r cubes stage) (cubed r (cubes ++ record { name = name; outcome = outcome.Encoded pattern } ∷ []) 5) _ (codes "cube") (name ∷ codes "encoded" ∷ decimal pattern ∷ []) refl refl
    (name_fine name named, (refl, (number_fine pattern is, tt)))
    (ap (with_said (cubed r cubes stage)) (says_encoded name pattern named is) ∙ ap (λ (t : Bool). if t then Some (cubed r (cubes ++ record { name = name; outcome = outcome.Encoded pattern } ∷ []) 5) else None) (may_be 2 stage low (is_some r.header.load) load))
cube_with r cubes stage name (outcome.Skipped cell) load low named is =
    brings_text (cubed r cubes stage) (cubed r (cubes ++ record { name = name; outcome = outcome.Skipped cell } ∷ []) 5) _ (codes "cube") (name ∷ codes "skipped" ∷ cell ∷ []) refl refl
    (name_fine name named, (refl, (name_fine cell is, tt)))
    (ap (with_said (cubed r cubes stage)) (says_skipped name cell named is) ∙ ap (λ (t : Bool). if t then Some (cubed r (cubes ++ record { name = name; outcome = outcome.Skipped cell } ∷ []) 5) else None) (may_be 2 stage low (is_some r.header.load) load))
cube_with r cubes stage name (outcome.Unsolvable []) load low named is =
    let s : Reading = cubed r (cubes ++ record { name = name; outcome = outcome.Unsolvable [] } ∷ []) 5 in
    brings_text (cubed r cubes stage) s _ (codes "cube") (name ∷ codes "unsolvable" ∷ decimal 0 ∷ []) refl refl (name_fine name named, (refl, (number_fine 0 is.0, tt)))
    (ap (with_said (cubed r cubes stage)) (says_unsolvable name 0 named is.0) ∙ ap (λ (t : Bool). if t then Some s else None) (may_be 2 stage low (is_some r.header.load) load))
cube_with r cubes stage name (outcome.Unsolvable (line ∷ more)) load low named is =
    let o : Owing = record { name = name; sums = []; owed = suc (length more) } in
    let s : Reading = cubed r (cubes ++ record { name = name; outcome = outcome.Unsolvable (line ∷ more) } ∷ []) 5 in
    let first : Text = codes "cube" ++ behind (name ∷ codes "unsolvable" ∷ decimal (suc (length more)) ∷ []) (10 ∷ []) in
    let head : Brings (cubed r cubes stage) first (owed_by r cubes o) =
    brings_line (cubed r cubes stage) (owed_by r cubes o) (codes "cube") (name ∷ codes "unsolvable" ∷ decimal (suc (length more)) ∷ []) refl (name_fine name named, (refl, (number_fine (suc (length more)) is.0, tt)))
    (ap (with_said (cubed r cubes stage)) (says_unsolvable name (suc (length more)) named is.0)
    ∙ ap (λ (t : Bool). if t then with_cube (cubed r cubes stage) name (outcome.Unsolvable []) else with_owing (cubed r cubes stage) name (suc (length more))) (not_zero (length more))
    ∙ ap (λ (t : Bool). if t then Some (owed_by r cubes o) else None) (may_be 2 stage low (is_some r.header.load) load)) in
    let whole : first ++ flat_map sum_line (line ∷ more) ≡ codes "cube" ++ behind (name ∷ codes "unsolvable" ∷ decimal (suc (length more)) ∷ []) (10 ∷ flat_map sum_line (line ∷ more)) =
    append_assoc (codes "cube") (behind (name ∷ codes "unsolvable" ∷ decimal (suc (length more)) ∷ []) (10 ∷ [])) (flat_map sum_line (line ∷ more))
    ∙ ap (λ (t : Text). codes "cube" ++ t) (behind_append (name ∷ codes "unsolvable" ∷ decimal (suc (length more)) ∷ []) (10 ∷ []) (flat_map sum_line (line ∷ more))) in
    subst (λ (t : Text). Brings (cubed r cubes stage) t s) whole (brings_both (cubed r cubes stage) (owed_by r cubes o) s first (flat_map sum_line (line ∷ more)) head (sums_bring r cubes name [] line more is.1))

pub cubes_bring : (r : Reading) (done more : List CubeReport) (stage : ℕ) → (more ≡ [] → ⊥) → is_some r.header.load ≡ true → 2 ≤ stage → AllByRecursion IsCubeReadable more → Brings (cubed r done stage) (flat_map cube_lines more) (cubed r (done ++ more) 5)
cubes_bring r done [] stage some load low each = absurd (some refl)
cubes_bring r done (cube ∷ []) stage some load low each =
    let s : Reading = cubed r (done ++ cube ∷ []) 5 in
    brings_both (cubed r done stage) s s (cube_lines cube) [] (cube_with r done stage cube.name cube.outcome load low each.0.0 each.0.1) (brings_none s)
cubes_bring r done (cube ∷ next ∷ more) stage some load low each =
    brings_both (cubed r done stage) (cubed r (done ++ cube ∷ []) 5) (cubed r (done ++ cube ∷ next ∷ more) 5) (cube_lines cube) (flat_map cube_lines (next ∷ more)) (cube_with r done stage cube.name cube.outcome load low each.0.0 each.0.1)
    (subst (λ (cubes : List CubeReport). Brings (cubed r (done ++ cube ∷ []) 5) (flat_map cube_lines (next ∷ more)) (cubed r cubes 5)) (append_assoc done (cube ∷ []) (next ∷ more))
    (cubes_bring r (done ++ cube ∷ []) (next ∷ more) 5 (λ none. absurd cc) load (omega arith) each.1))

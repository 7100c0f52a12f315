-- The report of a generated job is no longer than a report may be.
use Rattle.std.proofs.Common.{◌≡◌, inl, inr, ℕ, zero, suc, ◌+◌, ◌*◌, ◌/◌, ◌%◌, ◌<◌, ◌≤◌, Bool, true, false, ltb, List, [], ◌∷◌, ◌++◌, length, map, flat_map, get_or, slice_get, take, Option, None, Some, codes, decimal, unwrap_or, option_and_then, refl, sym, ap, ◌∙◌, subst, arith, length-append}
use Rattle.std.specs.Prelude.{option_map, slice_index_or}
use Rattle.std.specs.List.{All, cons_option, enumerate_from, filter_map, range_with_len, slice_index}
use Rattle.std.proofs.Math.Nat.{mod-lt, suc-mul}
use Rattle.std.proofs.lemmas.Bool.Decides.{nat_tests}
use Rattle.std.proofs.lemmas.Fmt.{length-decimal-le}
use Rattle.std.proofs.lemmas.Grind.{flat_map-append}
use Rattle.std.proofs.lemmas.List.{get_or_past}
use Rattle.std.proofs.lemmas.List.Elements.{All-map}
use Rattle.std.proofs.lemmas.List.FromFn.{length-map-range_with_len}
use Rattle.std.proofs.lemmas.Option.{none-some, same_Some}
use Rattle.dft_base.specs.Lexing.{Text}
use Rattle.dft_base.specs.declared.rule.Rule.{Rule}
use Rattle.dft_base.specs.declared.rule.Rule.TheVariants.{S1, S2, S3, S4}
use Rattle.dft_netlist.specs.declared.ids.InstanceId.{InstanceId}
use Rattle.dft_netlist.specs.declared.instance.Instance.{Instance}
use Rattle.dft_netlist.specs.Names.{instance_name}
use Rattle.dft_netlist.specs.Netlist.{Netlist}
use Rattle.dft_config.specs.Loads.{channel_of, cycle_of, load_equation}
use Rattle.dft_equations.specs.LoadRows.{LoadRows, AreLoadEquations, equation_row, rows_of, row_of}
use Rattle.dft_rules.specs.declared.judged.Judged.{Judged}
use Rattle.dft_rules.specs.declared.judged.Judged.TheVariants.{Scanned, Unscanned}
use Rattle.dft_rules.specs.Rules.{judgements}
use Rattle.dft_stitch.specs.declared.places.CellPlace.{CellPlace}
use Rattle.dft_stitch.specs.Chains.{cells_of, clock_of, domain_in, is_falling, plan_of}
use Rattle.dft_stitch.specs.Plans.{Plan, falling_head}
use Rattle.dft_stitch.proofs.ChainLimits.{chains_short as chains_within}
use Rattle.dft_cubes.specs.declared.cube.Cube.{Cube}
use Rattle.dft_cubes.specs.declared.cube.Merged.{Merged}
use Rattle.dft_merge.specs.declared.placed.Placed.{Placed}
use Rattle.dft_merge.specs.declared.placed.Placed.TheVariants as word
use Rattle.dft_merge.specs.Placement.{Places, PlacesAll}
use Rattle.dft_merge.specs.Rows.{CellRows, cell_row, place_from}
use Rattle.dft_insert.proofs.Weights.{sum_of}
use Rattle.dft_report.specs.declared.report.CubeLine.{CubeLine}
use Rattle.dft_report.specs.declared.report.CubeLine.TheVariants as line
use Rattle.dft_report.specs.declared.report.CubeReport.{CubeReport}
use Rattle.dft_report.specs.declared.report.Load.{Load}
use Rattle.dft_report.specs.declared.report.Report.{Report}
use Rattle.dft_report.specs.declared.report.ScannedLine.{ScannedLine}
use Rattle.dft_report.specs.declared.report.SumLine.{SumLine}
use Rattle.dft_report.specs.declared.report.UnscannedLine.{UnscannedLine}
use Rattle.dft_report.specs.declared.report.Variable.{Variable}
use Rattle.dft_report.specs.Written.{bit_text, chain_line, chain_lines, counts_text, cube_lines, edge_text, header_line, lines_before_cubes, outcome_text, place_text, rule_text, scanned_line, sum_line, unscanned_line, unsolvable_text, variable_text, variables_text, written}
use Rattle.dft_scan.specs.Reports.{domain_name, name_of, scanned_as, scanned_in, unscanned_as}
use Rattle.dft_scan.proofs.ListLemmas.{filter_shorter}
use Rattle.dft_cube_reports.specs.Outcomes as outcomes
use Rattle.dft_cube_reports.specs.Outcomes.{cell_name, cube_report, cube_reports, named_outcome, outcome_of, sum_as, sum_at, sums_of, variable_of, variables_of}
use Rattle.dft_encode.proofs.PlacingLemmas.{place_count}
use Rattle.dft_compile.specs.Reports.{compile_report, load_line}
use Rattle.dft_compile.proofs.TellingLemmas.{certificate_short, pattern_small}
use Rattle.dft_generate.specs.Configurations.{configuration}
use Rattle.dft_generate.specs.Cubes.{is_named, words_in}
use Rattle.dft_generate.specs.Words.{word_at}
use Rattle.dft_generate_laws.specs.CubeLists.{bit_given, bits_given, cube_in, cubes_in, given_unless, new_bit}
use Rattle.dft_generate_laws.specs.Designs.{design, f_of, g_of, instances_in, nets_of, numbered}
use Rattle.dft_generate_laws.specs.Laws.{ReportsFit}
use Rattle.dft_generate_laws.proofs.Checks.{scanned_here}
use Rattle.dft_generate_laws.proofs.Framed.{plan_small}
use Rattle.dft_generate_laws.proofs.Places.{instance_of}
use Rattle.dft_generate_laws.proofs.Plans.{few_cells}
use Rattle.dft_generate_laws.proofs.LightRows.{ones, ones_more, row_light}
use Rattle.dft_generate_laws.proofs.Vectors.{cycles_most}
use Rattle.dft_generate_laws.proofs.Lengths.{one}

-- ---- lines

-- the lines of what is given, each of so many bytes at most
one_line : {Y : Type 0} (h : Y → Text) (most n : ℕ) (o : Option Y) (rest : List Y) → ((y : Y) → o ≡ Some y → length (h y) ≤ most) → length (flat_map h rest) ≤ n * most → length (flat_map h (cons_option o rest)) ≤ suc n * most
one_line h most n None rest each le = let e = suc-mul n most in omega (arith, le, e)
one_line h most n (Some y) rest each le = let here = each y refl in let e = suc-mul n most in omega (arith, here, le, e, length-append (h y) (flat_map h rest))

lines_of : {X Y : Type 0} (g : X → Option Y) (h : Y → Text) (most : ℕ) → ((x : X) (y : Y) → g x ≡ Some y → length (h y) ≤ most) → (xs : List X) → length (flat_map h (filter_map g xs)) ≤ length xs * most
lines_of g h most each [] = omega arith
lines_of g h most each (x ∷ xs) = one_line h most (length xs) (g x) (filter_map g xs) (each x) (lines_of g h most each xs)

-- those of what is numbered
lines_from : {X Y : Type 0} (g : ℕ → X → Option Y) (h : Y → Text) (most last : ℕ) → ((k : ℕ) (x : X) (y : Y) → k < last → g k x ≡ Some y → length (h y) ≤ most) → (xs : List X) (from : ℕ) → from + length xs ≤ last
    → length (flat_map h (filter_map (λ (at : ℕ × X). g at.0 at.1) (enumerate_from from xs))) ≤ length xs * most
lines_from g h most last each [] from le = omega arith
lines_from {X = X} g h most last each (x ∷ xs) from le =
    one_line h most (length xs) (g from x) (filter_map (λ (at : ℕ × X). g at.0 at.1) (enumerate_from (from + 1) xs)) (λ y is. each from x y (omega (arith, le)) is)
    (lines_from g h most last each xs (from + 1) (omega (arith, le)))

-- ---- numbers

two : (n : ℕ) → n < 100 → length (decimal n) ≤ 2
two n lt = length-decimal-le 2 n (omega arith) (omega (arith, lt)) (omega (arith, lt))

four : (n : ℕ) → n < 10000 → length (decimal n) ≤ 4
four n lt = length-decimal-le 4 n (omega arith) (omega (arith, lt)) (omega (arith, lt))

five : (n : ℕ) → n < 100000 → length (decimal n) ≤ 5
five n lt = length-decimal-le 5 n (omega arith) (omega (arith, lt)) (omega (arith, lt))

-- ---- names

-- a name of no more than six bytes, where it is one
abbrev IsShortName : Option Text → Type 0
IsShortName o = (name : Text) → o ≡ Some name → length name ≤ 6

named_short : (letter cell : ℕ) → cell < 100000 → IsShortName (Some (numbered letter cell))
named_short letter cell lt name is = let d = five cell lt in subst (λ (t : Text). length t ≤ 6) (same_Some _ name is) (omega (arith, d))

instance_short : (size : ℕ) (words : List ℕ) (i : ℕ) → size ≤ 20000 → IsShortName (option_and_then instance_name (slice_get (design size words).instances i))
instance_short size words i few name is = by (slice_get (design size words).instances i) refl is
  where
    by : (o : Option Instance) → slice_get (design size words).instances i ≡ o → option_and_then instance_name o ≡ Some name → length name ≤ 6
    by None at is = absurd (none-some name is)
    by (Some x) at is =
        let cell = instance_of (nets_of size words) size words size 0 i x at in
        let high = cell.high in
        let small : cell.cell < 100000 = omega (arith, high, few) in
        elim cell.which [
          | inl gate ↦ named_short 103 cell.cell small name (sym (ap instance_name gate.1) ∙ is)
          | inr flop ↦ named_short 102 cell.cell small name (sym (ap instance_name flop.1) ∙ is)
        ]

domain_short : (o : Option ℕ) (name : Text) → option_and_then (slice_get configuration.domains) o ≡ Some name → length name ≤ 4
domain_short None name is = absurd (none-some name is)
domain_short (Some zero) name is = subst (λ (t : Text). length t ≤ 4) (same_Some _ name is) (omega arith)
domain_short (Some (suc zero)) name is = subst (λ (t : Text). length t ≤ 4) (same_Some _ name is) (omega arith)
domain_short (Some (suc (suc d))) name is = absurd (none-some name is)

-- ---- chains and flip-flops

chain_short : (chain size : ℕ) → chain < 16 → size ≤ 20000 → length (chain_line chain size) ≤ 22
unfolding chain_line
chain_short chain size lt few =
    omega (arith, two chain (omega (arith, lt)), five size (omega (arith, few)), length-append (decimal chain) (codes " length " ++ (decimal size ++ codes "\n")), length-append (decimal size) (codes "\n"))

chains_short : (chains : List (List InstanceId)) (from : ℕ) → from + length chains ≤ 16 → sum_of (λ (cells : List InstanceId). length cells * 1) chains ≤ 20000 → length (chain_lines from (map length chains)) ≤ length chains * 22
chains_short [] from count few = omega arith
chains_short (cells ∷ chains) from count few =
    omega (
      arith,
      chain_short from (length cells) (omega (arith, count)) (omega (arith, few)),
      chains_short chains (from + 1) (omega (arith, count)) (omega (arith, few)),
      suc-mul (length chains) 22,
      length-append (chain_line from (length cells)) (chain_lines (from + 1) (map length chains)),
    )

edge_short : (falling : Bool) → length (edge_text falling) ≤ 8
edge_short false = omega arith
edge_short true = omega arith

scanned_short : (chain place : ℕ) (falling : Bool) (name domain : Option Text) (l : ScannedLine) → chain < 16 → place < 20000 → IsShortName name → ((t : Text) → domain ≡ Some t → length t ≤ 4) → scanned_as chain place falling name domain ≡ Some l →
    length (scanned_line l) ≤ 49
unfolding scanned_line place_text
scanned_short chain place falling (Some name) (Some domain) l low few n d is =
    let behind : Text = codes " place " ++ (decimal place ++ (edge_text falling ++ codes "\n")) in
    let at : Text = codes " chain " ++ (decimal chain ++ behind) in
    subst (λ (x : ScannedLine). length (scanned_line x) ≤ 49) (same_Some _ l is)
    (omega (
      arith,
      n name refl,
      d domain refl,
      two chain (omega (arith, low)),
      five place (omega (arith, few)),
      length-append name (codes " " ++ (domain ++ at)),
      length-append domain at,
      length-append (decimal chain) behind,
      length-append (decimal place) (edge_text falling ++ codes "\n"),
      length-append (edge_text falling) (codes "\n"),
      edge_short falling,
    ))
scanned_short chain place falling (Some name) None l low few n d is = absurd (none-some l is)
scanned_short chain place falling None domain l low few n d is = absurd (none-some l is)

unscanned_short : (name : Text) (verdict : Option Judged) (l : UnscannedLine) → length name ≤ 6 → unscanned_as (Some name) verdict ≡ Some l → length (unscanned_line l) ≤ 20
unfolding unscanned_line
unscanned_short name (Some (Unscanned rule)) l le is =
    subst (λ (x : UnscannedLine). length (unscanned_line x) ≤ 20) (same_Some _ l is)
    (omega (arith, le, rule_short rule, length-append name (codes " " ++ (rule_text rule ++ codes "\n")), length-append (rule_text rule) (codes "\n")))
  where
    rule_short : (rule : Rule) → length (rule_text rule) ≤ 2
    rule_short S1 = omega arith
    rule_short S2 = omega arith
    rule_short S3 = omega arith
    rule_short S4 = omega arith
unscanned_short name (Some (Scanned domain falling)) l le is = absurd (none-some l is)
unscanned_short name None l le is = absurd (none-some l is)

module _ (size : ℕ) (words : List ℕ) (few : size ≤ 20000) (verdicts : List (Option Judged)) where
  scanned_most : (chains : List (List InstanceId)) (from : ℕ) → from + length chains ≤ 16 → sum_of (λ (cells : List InstanceId). length cells * 1) chains ≤ 20000
      → length (flat_map scanned_line (flat_map (λ (at : ℕ × List InstanceId). scanned_in (design size words) configuration verdicts at.0 at.1) (enumerate_from from chains))) ≤ sum_of (λ (cells : List InstanceId). length cells * 1) chains * 49
  scanned_most [] from count cells = omega arith
  scanned_most (chain ∷ chains) from count cells =
      let n : Netlist = design size words in
      let here : List ScannedLine = scanned_in n configuration verdicts from chain in
      let rest : List ScannedLine = flat_map (λ (at : ℕ × List InstanceId). scanned_in n configuration verdicts at.0 at.1) (enumerate_from (from + 1) chains) in
      let a = lines_from (λ (place : ℕ) (cell : InstanceId). scanned_as from place (is_falling (clock_of verdicts cell)) (name_of n cell.0) (domain_name configuration verdicts cell)) scanned_line 49 20000
      (λ place cell l lt is. scanned_short from place (is_falling (clock_of verdicts cell)) (name_of n cell.0) (domain_name configuration verdicts cell) l (omega (arith, count)) lt (instance_short size words cell.0 few) (domain_short (domain_in (clock_of verdicts cell))) is)
      chain 0 (omega (arith, cells)) in
      let b = scanned_most chains (from + 1) (omega (arith, count)) (omega (arith, cells)) in
      omega (arith, a, b, ap length (flat_map-append scanned_line here rest), length-append (flat_map scanned_line here) (flat_map scanned_line rest))

  unscanned_most : (all : List Text) (count from at : ℕ) → from + count ≤ 20000
      → length (flat_map unscanned_line (filter_map (λ (at : ℕ × Instance). unscanned_as at.1.name (slice_index_or verdicts at.0 None)) (enumerate_from at (instances_in all size words (range_with_len from count))))) ≤ (count + count) * 20
  unscanned_most all zero from at le = omega arith
  unscanned_most all (suc count) from at le =
      let g : ℕ × Instance → Option UnscannedLine = λ (at : ℕ × Instance). unscanned_as at.1.name (slice_index_or verdicts at.0 None) in
      let rest : List UnscannedLine = filter_map g (enumerate_from (at + 1 + 1) (instances_in all size words (range_with_len (from + 1) count))) in
      let more = unscanned_most all count (from + 1) (at + 1 + 1) (omega (arith, le)) in
      let flop : Option UnscannedLine = unscanned_as (Some (f_of from)) (slice_index_or verdicts (at + 1) None) in
      let gate : Option UnscannedLine = unscanned_as (Some (g_of from)) (slice_index_or verdicts at None) in
      let short : (letter : ℕ) → length (numbered letter from) ≤ 6 = λ letter. (let d = five from (omega (arith, le)) in omega (arith, d)) in
      let a = one_line unscanned_line 20 (count + count) flop rest (λ l is. unscanned_short (f_of from) (slice_index_or verdicts (at + 1) None) l (short 102) is) more in
      let b = one_line unscanned_line 20 (suc (count + count)) gate (cons_option flop rest) (λ l is. unscanned_short (g_of from) (slice_index_or verdicts at None) l (short 103) is) a in
      omega (arith, b)

-- ---- sums

variable_short : (column : ℕ) (is_in : Bool) (v : Variable) → column < 2532 → variable_of configuration.ring column is_in ≡ Some v → length (variable_text v) ≤ 7
variable_short column true v lt is =
    let low = mod-lt column {m = 2} (omega arith) in
    subst (λ (w : Variable). length (variable_text w) ≤ 7) (same_Some _ v is)
    (omega (arith, one (column % 2) (omega (arith, low)), four (column / 2) (omega (arith, lt)), length-append (decimal (column % 2)) (codes "." ++ decimal (column / 2))))
variable_short column false v lt is = absurd (none-some v is)

-- a row of at most so many columns, of which at most so many are in it
record IsNarrow (row : List Bool) : Type 0 where
  size : length row ≤ 2532
  few : ones row ≤ 1484

variables_short : (variables : List Variable) → length (flat_map variable_text variables) ≤ 10388 → length (variables_text variables) ≤ 10388
variables_short [] le = omega arith
variables_short (v ∷ variables) le = le

-- the variables that are in a row, by its columns from one on
variables_from : (row : List Bool) (from : ℕ) → from + length row ≤ 2532 → length (flat_map variable_text (filter_map (λ (at : ℕ × Bool). variable_of configuration.ring at.0 at.1) (enumerate_from from row))) ≤ ones row * 7
variables_from [] from le = omega arith
variables_from (true ∷ row) from le =
    let rest : List Variable = filter_map (λ (at : ℕ × Bool). variable_of configuration.ring at.0 at.1) (enumerate_from (from + 1) row) in
    let here = variable_short from true (record { channel = channel_of configuration.ring from; cycle = cycle_of configuration.ring from }) (omega (arith, le)) refl in
    let more = variables_from row (from + 1) (omega (arith, le)) in
    omega (arith, here, more, ones_more true row, length-append (variable_text (record { channel = channel_of configuration.ring from; cycle = cycle_of configuration.ring from })) (flat_map variable_text rest))
variables_from (false ∷ row) from le = let more = variables_from row (from + 1) (omega (arith, le)) in omega (arith, more, ones_more false row)

row_short : (row : List Bool) → IsNarrow row → length (variables_text (variables_of configuration.ring row)) ≤ 10388
row_short row narrow =
    let few = narrow.few in
    let all = variables_from row 0 (let size = narrow.size in omega (arith, size)) in
    variables_short (variables_of configuration.ring row) (omega (arith, all, few))

bit_short : (bit : Bool) → length (bit_text bit) ≡ 2
bit_short true = refl
bit_short false = refl

sum_short : (row : List Bool) (bit : Bool) (o : Option Text) (sum : SumLine) → IsNarrow row → IsShortName o → option_map (sum_as configuration.ring row bit) o ≡ Some sum → length (sum_line sum) ≤ 10401
unfolding sum_line
sum_short row bit None sum le short is = absurd (none-some sum is)
sum_short row bit (Some name) sum le short is =
    let all : Text = variables_text (variables_of configuration.ring row) in
    subst (λ (x : SumLine). length (sum_line x) ≤ 10401) (same_Some _ sum is)
    (omega (arith, short name refl, bit_short bit, row_short row le, length-append name (bit_text bit ++ (all ++ codes "\n")), length-append (bit_text bit) (all ++ codes "\n"), length-append all (codes "\n")))

-- ---- cubes

-- a cube has a short name and at most four bits of cells
record IsShort (cube : Cube) : Type 0 where
  name : length cube.name ≤ 5
  cells : length cube.cells ≤ 4

abbrev AreShort : List Cube → Type 0
AreShort [] = Unit {0}
AreShort (cube ∷ cubes) = IsShort cube × AreShort cubes

unsolvable_short : (sums : List SumLine) → length sums ≤ 4 → length (flat_map sum_line sums) ≤ 41604 → length (unsolvable_text sums) ≤ 41619
unfolding unsolvable_text
unsolvable_short sums few le = omega (arith, le, one (length sums) (omega (arith, few)), length-append (decimal (length sums)) (codes "\n" ++ flat_map sum_line sums))

encoded_short : (p : ℕ) → p < 10000 → length (outcome_text (line.Encoded p)) ≤ 41619
encoded_short p lt = omega (arith, four p lt, length-append (decimal p) (codes "\n"))

skipped_short : (o : Option Text) (outcome : CubeLine) → IsShortName o → option_map line.Skipped o ≡ Some outcome → length (outcome_text outcome) ≤ 41619
skipped_short None outcome short is = absurd (none-some outcome is)
skipped_short (Some cell) outcome short is = subst (λ (x : CubeLine). length (outcome_text x) ≤ 41619) (same_Some _ outcome is) (omega (arith, short cell refl, length-append cell (codes "\n")))

named_lines : (name : Text) (o : Option CubeLine) (r : CubeReport) → length name ≤ 5 → ((outcome : CubeLine) → o ≡ Some outcome → length (outcome_text outcome) ≤ 41619) → option_map (named_outcome name) o ≡ Some r → length (cube_lines r) ≤ 41629
unfolding cube_lines
named_lines name None r le all is = absurd (none-some r is)
named_lines name (Some outcome) r le all is = subst (λ (x : CubeReport). length (cube_lines x) ≤ 41629) (same_Some _ r is) (omega (arith, le, all outcome refl, length-append name (outcome_text outcome)))

module _ (size : ℕ) (words : List ℕ) (few : size ≤ 20000) (row : CellRows) (columns window : ℕ) (narrow : (cell : InstanceId) → IsNarrow (unwrap_or (row cell) [])) where
  given_short : (o : Option (InstanceId × Bool)) (sum : SumLine) → option_and_then (outcomes.sum_line (design size words) configuration.ring row) o ≡ Some sum → length (sum_line sum) ≤ 10401
  given_short None sum is = absurd (none-some sum is)
  given_short (Some given) sum is = sum_short (unwrap_or (row given.0) []) given.1 (cell_name (design size words) given.0) sum (narrow given.0) (instance_short size words given.0.0 few) is

  outcome_short : (old new : List Merged) (cube : Cube) (placed : Placed) (outcome : CubeLine) → IsShort cube → length old < 10000 → Places columns row window old cube placed new → outcome_of (design size words) configuration.ring row cube placed ≡ Some outcome
      → length (outcome_text outcome) ≤ 41619
  outcome_short old new cube (word.Into p) outcome short low places is =
      let below = pattern_small columns row window old new cube p places in subst (λ (x : CubeLine). length (outcome_text x) ≤ 41619) (same_Some _ outcome is) (encoded_short p (omega (arith, below, low)))
  outcome_short old new cube (word.Unsolvable ids) outcome short low places is =
      let n : Netlist = design size words in
      let some = certificate_short columns row cube.cells ids places.1 in
      let cells = short.cells in
      let fewer = filter_shorter (sum_at n configuration.ring row cube.cells) ids in
      let lines = lines_of (sum_at n configuration.ring row cube.cells) sum_line 10401 (λ position sum told. given_short (slice_get cube.cells position) sum told) ids in
      subst (λ (x : CubeLine). length (outcome_text x) ≤ 41619) (same_Some _ outcome is)
      (unsolvable_short (sums_of n configuration.ring row cube.cells ids) (omega (arith, fewer, some, cells)) (omega (arith, lines, some, cells)))
  outcome_short old new cube (word.Skipped cell) outcome short low places is = skipped_short (cell_name (design size words) cell) outcome (instance_short size words cell.0 few) is

  cubes_most : (old new : List Merged) (cubes : List Cube) (placed : List Placed) → AreShort cubes → length old + length cubes < 10000 → PlacesAll columns row window old cubes placed new
      → length (flat_map cube_lines (cube_reports (design size words) configuration.ring row cubes placed)) ≤ length cubes * 41629
  cubes_most old new [] placed short low places = omega arith
  cubes_most old new (cube ∷ cubes) [] short low places = omega arith
  cubes_most old new (cube ∷ cubes) (place ∷ placed) short low places =
      let n : Netlist = design size words in
      let more = place_count columns row window old places.0 cube place places.1.0 in
      one_line cube_lines 41629 (length cubes) (cube_report n configuration.ring row cube place) (cube_reports n configuration.ring row cubes placed)
      (λ r is. named_lines cube.name (outcome_of n configuration.ring row cube place) r short.0.name (λ outcome told. outcome_short old places.0 cube place outcome short.0 (omega (arith, low)) places.1.0 told) is)
      (cubes_most places.0 new cubes placed short.1 (omega (arith, low, more)) places.1.1)

-- ---- generated cubes

given_few : (named : Bool) (given : InstanceId × Bool) → length (given_unless named given) ≤ 1
given_few true given = omega arith
given_few false given = omega arith

bits_few : (size : ℕ) (words : List ℕ) → length (bits_given size words) ≤ 4
bits_few size words =
    let new : ℕ → List (InstanceId × Bool) = λ k. new_bit size (take k words) (word_at words k) in
    let at : (k : ℕ) → length (new k) ≤ 1 = λ k. given_few (is_named size (take k words) (word_at words k % size)) (bit_given size (word_at words k)) in
    omega (arith, at 0, at 1, at 2, at 3, length-append (new 0) (new 1 ++ (new 2 ++ new 3)), length-append (new 1) (new 2 ++ new 3), length-append (new 2) (new 3))

cubes_short : (size : ℕ) (words : List ℕ) (count from : ℕ) → from + count ≤ 10000 → AreShort (map (cube_in size words) (range_with_len from count))
cubes_short size words zero from le = tt
cubes_short size words (suc count) from le = (record { name = (let d = four from (omega (arith, le)) in omega (arith, d)); cells = bits_few size (words_in size words from) }, cubes_short size words count (from + 1) (omega (arith, le)))

-- ---- load equations

-- the load equation of a place is narrow, or there is none
no_row : IsNarrow []
no_row = record { size = omega arith; few = omega arith }

equation_narrow : (cycles : ℕ) (late : Bool) (chain place : ℕ) → place < cycles → cycles ≤ 1266 → IsNarrow (equation_row configuration.ring cycles late chain place)
equation_narrow cycles late chain place within few =
    record {
      size = (let same = length-map-range_with_len (load_equation configuration.ring cycles late chain place) 0 (cycles * configuration.ring.channels) in omega (arith, same, few));
      few = row_light cycles late chain place within few;
    }

equation_short : (lengths : List ℕ) (late : ℕ → Bool) (cycles : ℕ) (rows : LoadRows) (chain place : ℕ) → AreLoadEquations configuration.ring lengths late cycles rows → All (λ l. l ≤ cycles) lengths → cycles ≤ 1266 → IsNarrow (row_of rows chain place)
equation_short lengths late cycles rows chain place are short few = by (ltb chain (length lengths)) refl (ltb place (slice_index lengths chain)) refl
  where
    by : (s : Bool) → ltb chain (length lengths) ≡ s → (t : Bool) → ltb place (slice_index lengths chain) ≡ t → IsNarrow (row_of rows chain place)
    by true a true b =
        let c : chain < length lengths = grind (arith, nat_tests) in
        let p : place < slice_index lengths chain = grind (arith, nat_tests) in
        let most = short chain 0 c in
        subst IsNarrow (sym ((are.each chain c).each place p)) (equation_narrow cycles (late chain) chain place (omega (arith, p, most)) few)
    by true a false b =
        let c : chain < length lengths = grind (arith, nat_tests) in
        let p : slice_index lengths chain ≤ place = grind (arith, nat_tests) in
        let count = (are.each chain c).count in
        subst IsNarrow (sym (get_or_past (rows_of rows chain) place [] (omega (arith, count, p)))) no_row
    by false a t b =
        let c : length lengths ≤ chain = grind (arith, nat_tests) in
        let count = are.chains in
        subst (λ (xs : List (List Bool)). IsNarrow (get_or xs place [])) (sym (get_or_past rows.chains chain [] (omega (arith, count, c)))) no_row

cell_short : (lengths : List ℕ) (late : ℕ → Bool) (cycles : ℕ) (rows : LoadRows) → AreLoadEquations configuration.ring lengths late cycles rows → All (λ l. l ≤ cycles) lengths → cycles ≤ 1266 → (o : Option CellPlace)
    → IsNarrow (unwrap_or (option_map (λ (at : CellPlace). row_of rows at.chain at.place) o) [])
cell_short lengths late cycles rows are short few None = no_row
cell_short lengths late cycles rows are short few (Some at) = equation_short lengths late cycles rows at.chain at.place are short few

-- ---- the report

load_short : (load : Load) → load.cycles < 100000 → load.variables < 100000 → length (counts_text load) ≤ 29
unfolding counts_text
load_short load c v = omega (arith, five load.cycles c, five load.variables v, length-append (decimal load.cycles) (codes " variables " ++ decimal load.variables))

header_short : (cells chains : ℕ) (load : Load) → cells < 100000 → chains < 100000 → load.cycles < 100000 → load.variables < 100000 → length (header_line (record { cells = cells; chains = chains; load = Some load })) ≤ 60
unfolding header_line
header_short cells chains load a b c v =
    omega (
      arith,
      five cells a,
      five chains b,
      load_short load c v,
      length-append (decimal cells) (codes " chains " ++ (decimal chains ++ (counts_text load ++ codes "\n"))),
      length-append (decimal chains) (counts_text load ++ codes "\n"),
      length-append (counts_text load) (codes "\n"),
    )

written_is : (r : Report) → length (written r) ≡ 13 + length (header_line r.header) + length (chain_lines 0 r.chains) + length (flat_map scanned_line r.scanned) + length (flat_map unscanned_line r.unscanned) + length (flat_map cube_lines r.cubes)
unfolding written lines_before_cubes
written_is r =
    let scanned : Text = flat_map scanned_line r.scanned in
    let unscanned : Text = flat_map unscanned_line r.unscanned in
    omega (
      arith,
      length-append (lines_before_cubes r) (flat_map cube_lines r.cubes),
      length-append (header_line r.header) (chain_lines 0 r.chains ++ (scanned ++ unscanned)),
      length-append (chain_lines 0 r.chains) (scanned ++ unscanned),
      length-append scanned unscanned,
    )

pub reports_fit : ReportsFit
reports_fit size words is placing =
    let low = is.low in
    let few = is.high in
    let n : Netlist = design size words in
    let plan : Plan = plan_of n configuration in
    let verdicts : List (Option Judged) = judgements n configuration in
    let row : CellRows = cell_row plan.chains placing.rows in
    let report : Report = compile_report n configuration row (cubes_in size words) placing.placed in
    let small = plan_small size words is.high (omega (arith, low)) in
    let chains = small.chains in
    let cells = small.cells in
    let scanned = scanned_here size words is.high (omega (arith, low)) in
    let cycles = cycles_most (length (cells_of n configuration)) (omega (arith, few_cells verdicts, scanned, few)) in
    let lengths = All-map (λ (l : ℕ). l ≤ plan.cycles) (λ (cells : List InstanceId). length cells) plan.chains (chains_within n configuration) in
    let narrow : (cell : InstanceId) → IsNarrow (unwrap_or (row cell) []) = λ cell. cell_short (map (λ cells. length cells) plan.chains) (falling_head plan) plan.cycles placing.rows placing.equations lengths cycles (place_from 0 plan.chains cell) in
    let count = length-map-range_with_len (cube_in size words) 0 (size / 4) in
    let cubes = cubes_most size words few row placing.rows.columns configuration.window narrow [] placing.merged (cubes_in size words) placing.placed (cubes_short size words (size / 4) 0 (omega (arith, few))) (omega (arith, count, few)) placing.is in
    omega (
      arith,
      written_is report,
      header_short report.header.cells report.header.chains (load_line configuration plan) (omega (arith, scanned, few)) (omega (arith, chains)) (omega (arith, cycles)) (omega (arith, cycles)),
      chains_short plan.chains 0 (omega (arith, chains)) (omega (arith, cells, few)),
      scanned_most size words few verdicts plan.chains 0 (omega (arith, chains)) (omega (arith, cells, few)),
      unscanned_most size words few verdicts (nets_of size words) size 0 0 (omega (arith, few)),
      cubes,
      count,
      chains,
      cells,
      few,
    )

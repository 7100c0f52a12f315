-- The texts of the patterns of generated cubes are no longer than pattern texts may be.
use Rattle.std.proofs.Common.{◌≡◌, ℕ, zero, suc, ◌+◌, ◌*◌, ◌/◌, ◌<◌, ◌≤◌, List, [], ◌∷◌, ◌++◌, length, map, take, drop, codes, decimal, refl, ap, ◌∙◌, arith, length-append}
use Rattle.std.specs.Prelude.{slice_index_or}
use Rattle.std.specs.List.{range_with_len}
use Rattle.std.proofs.lemmas.Bool.{leb-true}
use Rattle.std.proofs.lemmas.Fmt.{decimal_digit, length-decimal-le}
use Rattle.std.proofs.lemmas.List.{length-map}
use Rattle.std.proofs.lemmas.List.FromFn.{length-map-range_with_len}
use Rattle.std.proofs.lemmas.List.Sums.{sum_by-cons, sum_by-append}
use Rattle.std.proofs.lemmas.Nat.{mul-le}
use Rattle.dft_base.specs.Lexing.{Text}
use Rattle.dft_base.specs.declared.dir.Dir.{Dir}
use Rattle.dft_base.specs.declared.dir.Dir.TheVariants.{Input, Output}
use Rattle.dft_netlist.specs.declared.ids.NetId.{NetId}
use Rattle.dft_netlist.specs.declared.port.Port.{Port}
use Rattle.dft_patterns.specs.declared.notes.Note.{Note}
use Rattle.dft_patterns.specs.declared.notes.NoteKind.TheVariants.{SetUp, Pattern, Unload}
use Rattle.dft_patterns.specs.declared.signal.StilSignal.{StilSignal}
use Rattle.dft_patterns.specs.Patterns.{inputs, outputs}
use Rattle.dft_rules.specs.Rules.{judgements}
use Rattle.dft_stitch.specs.Chains.{cells_of, plan_of}
use Rattle.dft_cubes.specs.declared.cube.Merged.{Merged}
use Rattle.dft_cubes.specs.Domains.{captures_of}
use Rattle.dft_expect.specs.Captures.{output_bits}
use Rattle.dft_parts.specs.MadeNames.{made_net}
use Rattle.dft_parts.specs.Recipes.{nets_in}
use Rattle.dft_scan_frame.specs.AddedPorts.{port_name, ports_from}
use Rattle.dft_insert.specs.declared.style.Style.TheVariants.{Edt}
use Rattle.dft_insert.specs.Ports.{added_ports}
use Rattle.dft_insert.specs.Statements.{scanned, made_in}
use Rattle.dft_insert.proofs.Keeping.{adds_in_order}
use Rattle.dft_stil_tokens.specs.declared.blanks.TheConstants.{MAX_TEXT}
use Rattle.dft_stil_out.specs.Written.{note_line}
use Rattle.dft_stil_out.specs.WrittenLength.{head_length, line_length, notes_length, written_length}
use Rattle.dft_vectors.specs.Signals.{input_bits, signals_of}
use Rattle.dft_vectors.specs.VectorList.{captures_in, first_vector, last_note, notes_of, pattern_note}
use Rattle.dft_encode.specs.Laws.{vectors_in}
use Rattle.dft_generate.specs.Configurations.{configuration}
use Rattle.dft_generate_laws.specs.CubeLists.{cube_in, cubes_in}
use Rattle.dft_generate_laws.specs.Designs.{design_ports, design}
use Rattle.dft_generate_laws.specs.Laws.{PatternTextsFit}
use Rattle.dft_generate_laws.proofs.Checks.{scanned_here}
use Rattle.dft_generate_laws.proofs.Plans.{few_cells, cycles_few}
use Rattle.dft_generate_laws.proofs.Said.{nets_grow}
use Rattle.dft_generate_laws.proofs.Singles.{AreSingle, patterns_single}
use Rattle.dft_generate_laws.proofs.Vectors.{all_count, one_each}

-- ---- signals

-- the signals of ports and nets
abbrev signals_by : List Port → List Text → List StilSignal
signals_by ports nets =
    map (λ (net : NetId). record { name = slice_index_or nets net.0 []; dir = Input }) (input_bits ports) ++ map (λ (net : NetId). record { name = slice_index_or nets net.0 []; dir = Output }) (output_bits ports)

abbrev signal : Text → Dir → StilSignal
signal name dir = record { name = name; dir = dir }

-- those of a scanned job
abbrev the_signals : List StilSignal
the_signals =
    signal (codes "clk0") Input ∷ signal (codes "clk1") Input ∷ signal (codes "scan_enable") Input ∷ signal (codes "edt_clock") Input ∷ signal (codes "edt_update") Input
    ∷ signal (codes "edt_in0") Input ∷ signal (codes "edt_in1") Input ∷ signal (codes "edt_mask0") Input ∷ signal (codes "edt_mask1") Input
    ∷ signal (codes "y") Output ∷ signal (codes "edt_out0") Output ∷ signal (codes "edt_out1") Output ∷ []

signals_are : (size : ℕ) (words : List ℕ) → signals_of (scanned Edt (design size words) configuration) ≡ the_signals
signals_are size words =
    let n = design size words in
    let added = adds_in_order Edt n configuration in
    let ports : List Port = design_ports ++ ports_from 3 (added_ports Edt configuration) in
    let rest : List Text = map made_net (range_with_len 0 (nets_in (made_in Edt n configuration))) in
    ap (λ (ps : List Port). signals_by ps (scanned Edt n configuration).nets) added.ports ∙ ap (signals_by ports) added.nets
    ∙ ap (λ (xs : List Text). signals_by ports (take 3 xs ++ (map port_name (added_ports Edt configuration) ++ (drop 3 xs ++ rest)))) (nets_grow size words).is
    ∙ rw (decimal_digit 0 (omega arith), decimal_digit 1 (omega arith)) refl

-- ---- notes

note_short : (number : ℕ) (before : ℕ) → number < 20000 → length (note_line (record { before = before; what = Pattern number })) ≤ 30
unfolding note_line
note_short number before lt = let d = length-decimal-le 5 number (omega arith) (omega (arith, lt)) (omega (arith, lt)) in omega (arith, d, length-append (decimal number) (codes " *}\n"))

set_up_short : (before : ℕ) → length (note_line (record { before = before; what = SetUp })) ≤ 30
unfolding note_line
set_up_short before = omega arith

unload_short : (before : ℕ) → length (note_line (record { before = before; what = Unload })) ≤ 30
unfolding note_line
unload_short before = omega arith

pattern_notes : (cycles : ℕ) (captures : List ℕ) (count from : ℕ) → from + count ≤ 20000 → notes_length (map (pattern_note cycles captures) (range_with_len from count)) ≤ count * 30
pattern_notes cycles captures zero from le = omega arith
pattern_notes cycles captures (suc count) from le =
    let rest = pattern_notes cycles captures count (from + 1) (omega (arith, le)) in
    let one = note_short from (first_vector cycles captures from) (omega (arith, le)) in
    omega (arith, one, rest, sum_by-cons (λ (n : Note). length (note_line n)) (pattern_note cycles captures from) (map (pattern_note cycles captures) (range_with_len (from + 1) count)))

notes_short : (cycles : ℕ) (captures : List ℕ) → length captures ≤ 5000 → notes_length (notes_of cycles captures) ≤ 150060
notes_short cycles [] le = omega arith
notes_short cycles (count ∷ captures) le =
    let every : List ℕ = count ∷ captures in
    let middle : List Note = map (pattern_note cycles every) (range_with_len 0 (length every)) in
    let last : Note = last_note cycles every in
    let all = pattern_notes cycles every (length every) 0 (omega (arith, le)) in
    let a = set_up_short 0 in
    let b = unload_short (first_vector cycles every (length every)) in
    omega (
      arith,
      all,
      a,
      b,
      le,
      sum_by-cons (λ (n : Note). length (note_line n)) (record { before = 0; what = SetUp }) (middle ++ last ∷ []),
      sum_by-append (λ (n : Note). length (note_line n)) middle (last ∷ []),
      sum_by-cons (λ (n : Note). length (note_line n)) last [],
    )

-- ---- the text

vectors_most : (cycles : ℕ) (merged : List Merged) → AreSingle merged → cycles ≤ 1267 → length merged ≤ 5000 → vectors_in cycles (captures_in merged) ≤ 6341268
vectors_most cycles [] single low few = omega arith
vectors_most cycles (m ∷ merged) single low few =
    let product = mul-le (length (m ∷ merged)) (suc cycles) 5000 1268 few (omega (arith, low)) in
    let each = one_each cycles (m ∷ merged) single in
    omega (arith, product, low, each)

head_short : head_length the_signals ≤ 2000
head_short = leb-true (head_length the_signals) 2000 refl

line_is : line_length (length (inputs the_signals)) (length (outputs the_signals)) ≡ 35
line_is = refl

text_short : (cycles : ℕ) (merged : List Merged) → AreSingle merged → cycles ≤ 1267 → length merged ≤ 5000 → written_length the_signals (vectors_in cycles (captures_in merged)) (notes_of cycles (captures_in merged)) ≤ MAX_TEXT
text_short cycles merged single low few =
    let captures : List ℕ = captures_in merged in
    let count = length-map merged captures_of in
    let notes = notes_short cycles captures (omega (arith, few, count)) in
    let vectors = vectors_most cycles merged single low few in
    omega (arith, head_short, notes, vectors, ap (λ (k : ℕ). vectors_in cycles captures * k) line_is)

pub pattern_texts_fit : PatternTextsFit
pattern_texts_fit size words is placing =
    let low = is.low in
    let high = is.high in
    let cells = few_cells (judgements (design size words) configuration) in
    let found = scanned_here size words high (omega (arith, low)) in
    let count = all_count placing.rows.columns _ configuration.window [] placing.merged (cubes_in size words) placing.placed placing.is in
    let cubes = length-map-range_with_len (cube_in size words) 0 (size / 4) in
    let cycles : ℕ = (plan_of (design size words) configuration).cycles in
    let captures : List ℕ = captures_in placing.merged in
    ap-le (λ (s : List StilSignal). written_length s (vectors_in cycles captures) (notes_of cycles captures)) (signals_are size words)
    (text_short cycles placing.merged (patterns_single size words placing.rows.columns _ configuration.window placing.placed placing.merged placing.is) (cycles_few (length (cells_of (design size words) configuration)) (omega (arith, cells, found, high))) (omega (arith, count, cubes, high)))
  where
    ap-le : (f : List StilSignal → ℕ) → {a b : List StilSignal} → a ≡ b → f b ≤ MAX_TEXT → f a ≤ MAX_TEXT
    ap-le f e le = let same = ap f e in omega (arith, same, le)

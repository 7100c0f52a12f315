-- The bytes of the patterns' text are those that are told before any pattern is made.
use Rattle.std.proofs.Common.{◌≡◌, ℕ, zero, suc, ◌+◌, ◌*◌, ◌^◌, ◌<◌, ◌≤◌, Option, None, Some, List, [], ◌∷◌, ◌++◌, length, map, get_or, refl, sym, subst, ap, ◌∙◌, length-append, arith}
use Rattle.std.specs.List.{All, range_with_len}
use Rattle.std.proofs.lemmas.Grind.{flat_map-append}
use Rattle.std.proofs.lemmas.List.{length-map}
use Rattle.std.proofs.lemmas.List.Sums.{sum_by-cons, sum_by-take-le}
use Rattle.std.proofs.lemmas.List.Elements.{All-nil, All-cons, All-append}
use Rattle.std.proofs.Math.Nat.{mul-le-mul_right}
use Rattle.std.proofs.lemmas.Option.{slice_get-get_or}
use Rattle.dft_base.specs.Lexing.{Text}
use Rattle.dft_base.specs.declared.dir.Dir.{Dir}
use Rattle.dft_base.specs.declared.dir.Dir.TheVariants.{Input, Output}
use Rattle.dft_netlist.specs.declared.ids.NetId.{NetId}
use Rattle.dft_netlist.specs.declared.port.Port.{Port}
use Rattle.dft_netlist.specs.Netlist.{Netlist}
use Rattle.dft_config.specs.Config.{Config}
use Rattle.dft_equations.specs.LoadRows.{LoadRows}
use Rattle.dft_stitch.specs.Chains.{plan_of}
use Rattle.dft_stitch.specs.Limits.{refusal}
use Rattle.dft_cubes.specs.declared.cube.Merged.{Merged}
use Rattle.dft_cubes.specs.Domains.{captures_of, listed}
use Rattle.dft_expect.specs.Captures.{bits_out, output_bits}
use Rattle.dft_expect.proofs.VectorLemmas.{outputs_count}
use Rattle.dft_patterns.specs.declared.notes.Note.{Note}
use Rattle.dft_patterns.specs.declared.notes.NoteKind.TheVariants.{SetUp}
use Rattle.dft_patterns.specs.Steadiness.{HaveLength}
use Rattle.dft_scan_frame.specs.AddedPorts.{NewPort, new_port, numbered, numbered_ports, ports_from}
use Rattle.dft_insert.specs.declared.style.Style.TheVariants.{Edt}
use Rattle.dft_insert.specs.Ports.{added_ports, gap_in}
use Rattle.dft_insert.specs.Statements.{scanned}
use Rattle.dft_insert.proofs.Keeping.{adds_in_order}
use Rattle.dft_stil_out.specs.WrittenLength.{written_length}
use Rattle.dft_stil_out.proofs.LengthLemmas.{written_has_length}
use Rattle.dft_vectors.specs.PatternData.{PatternData}
use Rattle.dft_vectors.specs.Signals.{bits_in, input_bits, signal_of, signals_of}
use Rattle.dft_vectors.specs.VectorList.{captures_in, first_vector, last_note, notes_of, pattern_note, vectors_for, vectors_of}
use Rattle.dft_encode.specs.Compiled.{ArePatterns, merged_of}
use Rattle.dft_encode.specs.Laws.{HasOutputs, vectors_in, width}
use Rattle.dft_stitch.proofs.ChainLimits.{limits}
use Rattle.dft_stitch.proofs.LengthLemmas.{some_cycle}
use Rattle.dft_encode.proofs.WidthLemmas.{vectors_wide}
use Rattle.dft_compile.specs.Laws.{BytesAreTold}
use Rattle.dft_compile.specs.Refusals.{pattern_bytes}
use Rattle.dft_compile.specs.Texts.{pattern_set}

-- ---- how many ports are added

abbrev one_in : Dir → ℕ
one_in Input = 1
one_in Output = 0

abbrev one_out : Dir → ℕ
one_out Input = 0
one_out Output = 1

-- how many of them count, where a port of each direction counts so much
abbrev counted : (Dir → ℕ) → List NewPort → ℕ
counted one [] = 0
counted one (port ∷ ports) = one port.dir + counted one ports

in_step : (d : Dir) (net : NetId) (rest : List NetId) (count : ℕ) → length rest ≡ count → length (bits_in d (net ∷ []) ++ rest) ≡ one_in d + count
in_step Input net rest count h = omega (arith, h)
in_step Output net rest count h = omega (arith, h)

out_step : (d : Dir) (net : NetId) (rest : List NetId) (count : ℕ) → length rest ≡ count → length (bits_out d (net ∷ []) ++ rest) ≡ one_out d + count
out_step Input net rest count h = omega (arith, h)
out_step Output net rest count h = omega (arith, h)

ins_are : (net : ℕ) (ports : List NewPort) → length (input_bits (ports_from net ports)) ≡ counted one_in ports
ins_are net [] = refl
ins_are net (port ∷ ports) = in_step port.dir (record { 0 = net }) (input_bits (ports_from (suc net) ports)) (counted one_in ports) (ins_are (suc net) ports)

outs_are : (net : ℕ) (ports : List NewPort) → length (output_bits (ports_from net ports)) ≡ counted one_out ports
outs_are net [] = refl
outs_are net (port ∷ ports) = out_step port.dir (record { 0 = net }) (output_bits (ports_from (suc net) ports)) (counted one_out ports) (outs_are (suc net) ports)

counted_both : (one : Dir → ℕ) (a b : List NewPort) → counted one (a ++ b) ≡ counted one a + counted one b
counted_both one [] b = omega arith
counted_both one (port ∷ a) b = omega (arith, counted_both one a b)

counted_some : (one : Dir → ℕ) (d : Dir) (name : Text) (from count : ℕ) → counted one (map (λ number. new_port d (numbered name number)) (range_with_len from count)) ≡ count * one d
counted_some one d name from zero = omega arith
counted_some one d name from (suc count) = let more : suc count * one d ≡ one d + count * one d = grind arith in omega (arith, more, counted_some one d name (from + 1) count)

abbrev numbered_in : (Dir → ℕ) → Dir → (name : Text) → (count : ℕ) → ℕ
numbered_in one d name count = counted one (numbered_ports d name count)

added_counted : (one : Dir → ℕ) (config : Config) →
    counted one (added_ports Edt config)
    ≡ one Input
    + (one Input
    + (one Input
    + (numbered_in one Input config.names.channel config.ring.channels + (numbered_in one Input config.names.mask config.compactor.mask_inputs + numbered_in one Output config.names.output (length config.compactor.groups)))))
added_counted one config =
    let masks = numbered_ports Input config.names.mask config.compactor.mask_inputs in
    let shown = numbered_ports Output config.names.output (length config.compactor.groups) in
    omega (arith, counted_both one (numbered_ports Input config.names.channel config.ring.channels) (masks ++ shown), counted_both one masks shown)

added_ins : (config : Config) → counted one_in (added_ports Edt config) ≡ 3 + (config.ring.channels + config.compactor.mask_inputs)
added_ins config =
    omega (
      arith,
      added_counted one_in config,
      counted_some one_in Input config.names.channel 0 config.ring.channels,
      counted_some one_in Input config.names.mask 0 config.compactor.mask_inputs,
      counted_some one_in Output config.names.output 0 (length config.compactor.groups),
    )

added_outs : (config : Config) → counted one_out (added_ports Edt config) ≡ length config.compactor.groups
added_outs config =
    omega (
      arith,
      added_counted one_out config,
      counted_some one_out Input config.names.channel 0 config.ring.channels,
      counted_some one_out Input config.names.mask 0 config.compactor.mask_inputs,
      counted_some one_out Output config.names.output 0 (length config.compactor.groups),
    )

-- ---- signals

all_ins : (n : Netlist) (config : Config) → length (input_bits (scanned Edt n config).ports) ≡ length (input_bits n.ports) + (3 + (config.ring.channels + config.compactor.mask_inputs))
all_ins n config =
    let added : List Port = ports_from (gap_in Edt n config).before (added_ports Edt config) in
    ap (λ (ports : List Port). length (input_bits ports)) (adds_in_order Edt n config).ports
    ∙ ap length (flat_map-append (λ (port : Port). bits_in port.dir port.bits) n.ports added)
    ∙ length-append (input_bits n.ports) (input_bits added)
    ∙ ap (λ k. length (input_bits n.ports) + k) (ins_are (gap_in Edt n config).before (added_ports Edt config) ∙ added_ins config)

all_outs : (n : Netlist) (config : Config) → length (output_bits (scanned Edt n config).ports) ≡ length (output_bits n.ports) + length config.compactor.groups
all_outs n config =
    let added : List Port = ports_from (gap_in Edt n config).before (added_ports Edt config) in
    ap (λ (ports : List Port). length (output_bits ports)) (adds_in_order Edt n config).ports
    ∙ ap length (flat_map-append (λ (port : Port). bits_out port.dir port.bits) n.ports added)
    ∙ length-append (output_bits n.ports) (output_bits added)
    ∙ ap (λ k. length (output_bits n.ports) + k) (outs_are (gap_in Edt n config).before (added_ports Edt config) ∙ added_outs config)

-- there is an act for each signal
signal_count : (n : Netlist) (config : Config) → width n config ≡ length (signals_of (scanned Edt n config))
signal_count n config =
    let w = scanned Edt n config in
    let inputs = map (signal_of w Input) (input_bits w.ports) in
    let outputs = map (signal_of w Output) (output_bits w.ports) in
    omega (arith, all_ins n config, all_outs n config, length-append inputs outputs, length-map (input_bits w.ports) (signal_of w Input), length-map (output_bits w.ports) (signal_of w Output))

-- ---- notes

abbrev Before : ℕ → Note → Type 0
Before vectors note = note.before < vectors

-- the vectors of the first patterns are among those of all
first_before : (cycles : ℕ) (captures : List ℕ) (pattern : ℕ) → 1 ≤ cycles → first_vector cycles captures pattern < 1 + vectors_for cycles captures + cycles
first_before cycles captures pattern some = let less = sum_by-take-le (λ (count : ℕ). cycles + count) captures pattern in omega (arith, less, some)

pattern_before : (cycles : ℕ) (captures : List ℕ) (from count : ℕ) → 1 ≤ cycles → All (Before (1 + vectors_for cycles captures + cycles)) (map (pattern_note cycles captures) (range_with_len from count))
pattern_before cycles captures from zero some = All-nil (Before (1 + vectors_for cycles captures + cycles))
pattern_before cycles captures from (suc count) some =
    All-cons (Before (1 + vectors_for cycles captures + cycles)) (pattern_note cycles captures from) (map (pattern_note cycles captures) (range_with_len (from + 1) count)) (first_before cycles captures from some)
    (pattern_before cycles captures (from + 1) count some)

notes_before : (cycles : ℕ) (captures : List ℕ) → 1 ≤ cycles → All (Before (vectors_in cycles captures)) (notes_of cycles captures)
notes_before cycles [] some = All-nil (Before 0)
notes_before cycles (count ∷ captures) some =
    let all : List ℕ = count ∷ captures in
    let Fits = Before (1 + vectors_for cycles all + cycles) in
    let last : Note = last_note cycles all in
    let middle = map (pattern_note cycles all) (range_with_len 0 (length all)) in
    All-cons Fits (record { before = 0; what = SetUp }) (middle ++ last ∷ []) (omega arith)
    (All-append Fits middle (last ∷ []) (pattern_before cycles all 0 (length all) some) (All-cons Fits last [] (first_before cycles all (length all) some) (All-nil Fits)))

-- ---- the text

-- a pattern captures a value for each bit of the design's outputs in each of its vectors
outputs_fit : (n : Netlist) (config : Config) (rows : LoadRows) (merged : List Merged) (list : List PatternData) → ArePatterns n config (plan_of n config) rows merged list → All (HasOutputs n) list
outputs_fit n config rows merged list are =
    λ k d less. outputs_count n config (plan_of n config).chains (get_or list k d).merged _ _ (are.each k _ (slice_get-get_or list k d less)).captured

pub vector_count : (n : Netlist) (config : Config) (rows : LoadRows) (merged : List Merged) (list : List PatternData) → ArePatterns n config (plan_of n config) rows merged list →
    length (vectors_of n config (plan_of n config) list) ≡ vectors_in (plan_of n config).cycles (captures_in (map merged_of list))
vector_count n config rows merged list are = (vectors_wide n config (plan_of n config) list (outputs_fit n config rows merged list are)).1

-- a pattern has few captures
few_listed : (second : Option ℕ) → length (listed second) ≤ 1
few_listed None = omega arith
few_listed (Some clock) = omega arith

few_captures : (merged : Merged) → captures_of merged ≤ 2
few_captures merged = let few = few_listed merged.domains.second in omega (arith, few)

vectors_most : (cycles : ℕ) (merged : List Merged) → vectors_for cycles (captures_in merged) ≤ length merged * (cycles + 2)
vectors_most cycles [] = omega arith
vectors_most cycles (m ∷ merged) =
    let one = sum_by-cons (λ (count : ℕ). cycles + count) (captures_of m) (captures_in merged) in
    let more : suc (length merged) * (cycles + 2) ≡ cycles + 2 + length merged * (cycles + 2) = grind arith in
    omega (arith, one, more, few_captures m, vectors_most cycles merged)

few_vectors : (cycles : ℕ) (merged : List Merged) → cycles ≤ 4096 → length merged ≤ 65536 → vectors_in cycles (captures_in merged) < 2 ^ 32
few_vectors cycles [] short few = omega arith
few_vectors cycles (m ∷ merged) short few =
    let most : length (m ∷ merged) * (cycles + 2) ≤ 65536 * (cycles + 2) = mul-le-mul_right (cycles + 2) few in
    omega (arith, vectors_most cycles (m ∷ merged), most, short)

-- the vectors can be counted
pub vectors_few : (n : Netlist) (config : Config) (rows : LoadRows) (merged : List Merged) (list : List PatternData) → refusal n config ≡ None → length merged ≤ 65536 → ArePatterns n config (plan_of n config) rows merged list →
    length (pattern_set n config list).vectors < 2 ^ 32
vectors_few n config rows merged list fits few are =
    let count : length (map merged_of list) ≤ 65536 = subst (λ (m : List Merged). length m ≤ 65536) (sym are.merged) few in
    let least = few_vectors (plan_of n config).cycles (map merged_of list) (limits n config fits).0 count in
    subst (λ (k : ℕ). k < 2 ^ 32) (sym (vector_count n config rows merged list are)) least

pub bytes_told : BytesAreTold
bytes_told n config rows merged list range are =
    let plan = plan_of n config in
    let vectors = vectors_of n config plan list in
    let captures : List ℕ = captures_in (map merged_of list) in
    let signals = signals_of (scanned Edt n config) in
    let wide = vectors_wide n config plan list (outputs_fit n config rows merged list are) in
    let fits : HaveLength (length signals) vectors = subst (λ (k : ℕ). HaveLength k vectors) (signal_count n config) wide.0 in
    let notes : All (λ note. note.before < length vectors) (notes_of plan.cycles captures) =
    subst (λ (k : ℕ). All (Before k) (notes_of plan.cycles captures)) (sym wide.1) (notes_before plan.cycles captures (some_cycle n config range)) in
    written_has_length (pattern_set n config list) fits notes
    ∙ ap (λ k. written_length signals k (notes_of plan.cycles captures)) wide.1
    ∙ ap (pattern_bytes n config) are.merged

-- The names of the signals of a netlist differ, and can be quoted where those of the bits of its ports can be.
use Rattle.std.proofs.Common.{ℕ, suc, ◌+◌, ◌<◌, ◌≤◌, ◌≡◌, Bool, List, [], ◌∷◌, ◌++◌, length, map, drop, Some, slice_get, refl, sym, ap, subst, arith, ◌∙◌}
use Rattle.std.specs.Prelude.{slice_index_or, ◌≢◌}
use Rattle.std.specs.List.{All, AllPairs, prefix_len}
use Rattle.std.proofs.lemmas.List.{get_or_append_left, length-append}
use Rattle.std.proofs.lemmas.List.Elements.{All-append, All-cons, All-nil}
use Rattle.std.proofs.lemmas.List.Folds.{length-prefix_len}
use Rattle.std.proofs.lemmas.List.Kept.{AllPairs-cons}
use Rattle.std.proofs.lemmas.Option.{slice_get-get_or}
use Rattle.dft_base.specs.Lexing.{Text}
use Rattle.dft_base.specs.declared.dir.Dir.{Dir}
use Rattle.dft_base.specs.declared.dir.Dir.TheVariants as dir
use Rattle.dft_netlist.specs.declared.ids.NetId.{NetId}
use Rattle.dft_netlist.specs.declared.named.Named.TheVariants.{Net}
use Rattle.dft_netlist.specs.declared.port.Port as design_port
use Rattle.dft_netlist.specs.Names.{bit_names}
use Rattle.dft_netlist.specs.Netlist.{Netlist}
use Rattle.dft_netlist.specs.Sound.{IsNetlist, bit_names_of, bits_of}
use Rattle.dft_netlist.proofs.LiveDriven.{AreBefore, before_front, before_back, nets_before}
use Rattle.dft_config.specs.Config.{Config}
use Rattle.dft_expect.specs.Captures.{bits_out, output_bits}
use Rattle.dft_patterns.specs.Patterns.{inputs, is_input, outputs}
use Rattle.dft_patterns.specs.declared.signal.StilSignal.{StilSignal}
use Rattle.dft_insert.specs.declared.style.Style.TheVariants.{Edt}
use Rattle.dft_insert.specs.Ports.{gap_in}
use Rattle.dft_insert.specs.Statements.{scanned}
use Rattle.dft_replay.specs.Vectors.{dirs_of}
use Rattle.dft_stil_out.specs.Writable.{IsQuotable}
use Rattle.dft_vectors.proofs.OwnLemmas.{inputs_live, outputs_live}
use Rattle.dft_vectors.specs.Signals.{bits_in, input_bits, signal_of, signals_of}
use Rattle.dft_pattern_behavior.proofs.Listed.{AllNets, all_both}
use Rattle.dft_pattern_behavior.proofs.Places.{added_nets, all_inputs}
use Rattle.dft_compile_laws.specs.Formed.{HasQuotableBits}
use Rattle.dft_compile_laws.proofs.Fitting.{HasDir, Behind, ports_in_dirs, ports_out_dirs}
use Rattle.dft_compile_laws.proofs.Rows.{Rises, all_above, all_nets, rises_drop, rises_from, rises_ports, net_number}

-- ---- nets that differ

all_map : (P Q : ℕ → Type 0) (xs : List NetId) → ((k : ℕ) → P k → Q k) → AllNets P xs → AllNets Q xs
all_map P Q [] f h = tt
all_map P Q (x ∷ xs) f h = (f x.0 h.0, all_map P Q xs f h.1)

-- the net is none of these
abbrev Far : (net : ℕ) → List NetId → Type 0
Far net xs = AllNets (λ k. net ≡ k → ⊥) xs

abbrev Differ : List NetId → Type 0
Differ [] = Unit {0}
Differ (x ∷ xs) = Far x.0 xs × Differ xs

differ_of : (low : ℕ) (xs : List NetId) → Rises low xs → Differ xs
differ_of low [] r = tt
differ_of low (x ∷ xs) r = (all_map (λ k. suc x.0 ≤ k) (λ k. x.0 ≡ k → ⊥) xs (λ k past same. omega (arith, past, same)) (all_above (suc x.0) (suc x.0) xs (omega arith) r.1), differ_of (suc x.0) xs r.1)

rises_out : (low : ℕ) (d : Dir) (bits rest outs : List NetId) → Rises low (bits ++ rest) → ((l : ℕ) → Rises l rest → Rises l outs) → Rises low (bits_out d bits ++ outs)
rises_out low dir.Input bits rest outs h f = f low (rises_drop low bits rest h)
rises_out low dir.Output [] rest outs h f = f low h
rises_out low dir.Output (b ∷ bits) rest outs h f = (h.0, rises_out (suc b.0) dir.Output bits rest outs h.1 f)

rises_outs : (low : ℕ) (ports : List design_port.Port) → Rises low (bits_of ports) → Rises low (output_bits ports)
rises_outs low [] h = tt
rises_outs low (p ∷ ps) h = rises_out low p.dir p.bits (bits_of ps) (output_bits ps) h (λ l its. rises_outs l ps its)

all_rise : (w : Netlist) → IsNetlist w → Rises 0 (bits_of w.ports)
all_rise w sound = subst (Rises 0) (sym sound.numbered) (rises_from 0 0 (length (bits_of w.ports)) (omega arith))

-- ---- names that differ

abbrev name_of : Netlist → NetId → Text
name_of w x = slice_index_or w.nets x.0 []

abbrev Live : Netlist → List NetId → Type 0
Live w xs = AllNets (λ k. k < length w.nets) xs

names_apart : (w : Netlist) (x y : NetId) → IsNetlist w → x.0 < length w.nets → y.0 < length w.nets → (x.0 ≡ y.0 → ⊥) → name_of w x ≢ name_of w y
names_apart w x y sound live_x live_y apart same =
    let at_x : slice_get w.nets x.0 ≡ Some (name_of w x) = slice_get-get_or w.nets x.0 [] live_x in
    let at_y : slice_get w.nets y.0 ≡ Some (name_of w y) = slice_get-get_or w.nets y.0 [] live_y in
    apart (net_number x y (sound.names (name_of w x) (Net x) (Net y) at_x (at_y ∙ ap Some (sym same))))

abbrev Unlike : StilSignal → StilSignal → Type 0
Unlike s t = s.name ≢ t.name

all_unlike : (w : Netlist) (d e : Dir) (x : NetId) (ys : List NetId) → IsNetlist w → x.0 < length w.nets → Live w ys → Far x.0 ys → All (Unlike (signal_of w d x)) (map (signal_of w e) ys)
all_unlike w d e x [] sound live_x live far = All-nil (Unlike (signal_of w d x))
all_unlike w d e x (y ∷ ys) sound live_x live far =
    All-cons (Unlike (signal_of w d x)) (signal_of w e y) (map (signal_of w e) ys) (names_apart w x y sound live_x live.0 far.0) (all_unlike w d e x ys sound live_x live.1 far.1)

outs_unlike : (w : Netlist) (ys : List NetId) → IsNetlist w → Live w ys → Differ ys → AllPairs Unlike (map (signal_of w dir.Output) ys)
outs_unlike w [] sound live h = λ i j d less within. absurd (omega (arith, within))
outs_unlike w (y ∷ ys) sound live h =
    AllPairs-cons Unlike (signal_of w dir.Output y) (map (signal_of w dir.Output) ys) (all_unlike w dir.Output dir.Output y ys sound live.0 live.1 h.0) (outs_unlike w ys sound live.1 h.1)

both_unlike : (w : Netlist) (xs ys : List NetId) → IsNetlist w → Live w xs → Live w ys → Differ xs → Differ ys → AllNets (λ k. Far k ys) xs → AllPairs Unlike (map (signal_of w dir.Input) xs ++ map (signal_of w dir.Output) ys)
both_unlike w [] ys sound live_x live h k far = outs_unlike w ys sound live k
both_unlike w (x ∷ xs) ys sound live_x live h k far =
    AllPairs-cons Unlike (signal_of w dir.Input x) (map (signal_of w dir.Input) xs ++ map (signal_of w dir.Output) ys)
    (All-append (Unlike (signal_of w dir.Input x)) (map (signal_of w dir.Input) xs) (map (signal_of w dir.Output) ys) (all_unlike w dir.Input dir.Input x xs sound live_x.0 live_x.1 h.0)
    (all_unlike w dir.Input dir.Output x ys sound live_x.0 live far.0)) (both_unlike w xs ys sound live_x.1 live h.1 k far.1)

dirs_apart : (whole : List Dir) (x y : ℕ) → HasDir whole dir.Input x → HasDir whole dir.Output y → x ≡ y → ⊥
dirs_apart whole x y in_x out_y same = clash (sym in_x ∙ ap (slice_get whole) same ∙ out_y)
  where
    clash : Some dir.Input ≡ Some dir.Output → ⊥
    clash e = cc

pub signals_unlike : (w : Netlist) → IsNetlist w → AllPairs (λ s t. s.name ≢ t.name) (signals_of w)
signals_unlike w sound =
    let count : ℕ = length (bits_of w.ports) in
    let dirs : List Dir = dirs_of w.ports in
    let far : Behind dirs dirs 0 = λ j. (let e : 0 + j ≡ j = omega arith in ap (slice_get dirs) e) in
    let ins : AllNets (HasDir dirs dir.Input) (input_bits w.ports) = ports_in_dirs dirs w.ports 0 count sound.numbered far in
    let outs : AllNets (HasDir dirs dir.Output) (output_bits w.ports) = ports_out_dirs dirs w.ports 0 count sound.numbered far in
    both_unlike w (input_bits w.ports) (output_bits w.ports) sound (all_nets (λ k. k < length w.nets) (input_bits w.ports) (inputs_live w sound)) (all_nets (λ k. k < length w.nets) (output_bits w.ports) (outputs_live w sound))
    (differ_of 0 (input_bits w.ports) (rises_ports 0 w.ports (all_rise w sound))) (differ_of 0 (output_bits w.ports) (rises_outs 0 w.ports (all_rise w sound)))
    (all_map (HasDir dirs dir.Input) (λ k. Far k (output_bits w.ports)) (input_bits w.ports) (λ x is. all_map (HasDir dirs dir.Output) (λ k. x ≡ k → ⊥) (output_bits w.ports) (λ y its. dirs_apart dirs x y is its) outs) ins)

-- ---- names that can be quoted

bits_before : (count : ℕ) (d : Dir) (bits : List NetId) → AreBefore count bits → AllNets (λ k. k < count) (bits_in d bits) × AllNets (λ k. k < count) (bits_out d bits)
bits_before count d [] h = none d
  where
    none : (e : Dir) → AllNets (λ k. k < count) (bits_in e []) × AllNets (λ k. k < count) (bits_out e [])
    none dir.Input = (tt, tt)
    none dir.Output = (tt, tt)
bits_before count dir.Input (net ∷ bits) h = ((h.0, (bits_before count dir.Input bits h.1).0), tt)
bits_before count dir.Output (net ∷ bits) h = (tt, (h.0, (bits_before count dir.Output bits h.1).1))

sides_before : (count : ℕ) (ports : List design_port.Port) → AreBefore count (bits_of ports) → AllNets (λ k. k < count) (input_bits ports) × AllNets (λ k. k < count) (output_bits ports)
sides_before count [] h = (tt, tt)
sides_before count (port ∷ ports) h =
    let here = bits_before count port.dir port.bits (before_front count port.bits (bits_of ports) h) in
    let rest = sides_before count ports (before_back count port.bits (bits_of ports) h) in (
      all_both (λ k. k < count) (bits_in port.dir port.bits) (input_bits ports) here.0 rest.0,
      all_both (λ k. k < count) (bits_out port.dir port.bits) (output_bits ports) here.1 rest.1,
    )

names_width : (ports : List design_port.Port) → ((place : ℕ) (port : design_port.Port) → slice_get ports place ≡ Some port → length port.bits ≡ length (bit_names port.name port.range)) → length (bit_names_of ports) ≡ length (bits_of ports)
names_width [] widths = refl
names_width (port ∷ ports) widths =
    let here = widths 0 port refl in
    let rest = names_width ports (λ place p at. widths (suc place) p at) in
    let names : length (bit_names port.name port.range ++ bit_names_of ports) ≡ length (bit_names port.name port.range) + length (bit_names_of ports) = length-append (bit_names port.name port.range) (bit_names_of ports) in
    let bits : length (port.bits ++ bits_of ports) ≡ length port.bits + length (bits_of ports) = length-append port.bits (bits_of ports) in
    omega (arith, here, rest, names, bits)

quoted_at : (w : Netlist) → IsNetlist w → HasQuotableBits w → (k : ℕ) → k < length (bits_of w.ports) → IsQuotable (slice_index_or w.nets k [])
quoted_at w sound quotes k less =
    let width : length (bit_names_of w.ports) ≡ length (bits_of w.ports) = names_width w.ports sound.widths in
    let within : k < length (bit_names_of w.ports) = omega (arith, less, width) in
    let same : slice_index_or w.nets k [] ≡ slice_index_or (bit_names_of w.ports) k [] =
    ap (λ (names : List Text). slice_index_or names k []) sound.bits.same ∙ get_or_append_left (bit_names_of w.ports) sound.bits.rest [] k within in
    subst IsQuotable (sym same) (quotes k (slice_index_or (bit_names_of w.ports) k []) (slice_get-get_or (bit_names_of w.ports) k [] within))

all_quoted : (w : Netlist) (d : Dir) (xs : List NetId) → IsNetlist w → HasQuotableBits w → AllNets (λ k. k < length (bits_of w.ports)) xs → All (λ s. IsQuotable s.name) (map (signal_of w d) xs)
all_quoted w d [] sound quotes h = All-nil (λ (s : StilSignal). IsQuotable s.name)
all_quoted w d (x ∷ xs) sound quotes h =
    All-cons (λ (s : StilSignal). IsQuotable s.name) (signal_of w d x) (map (signal_of w d) xs) (quoted_at w sound quotes x.0 h.0) (all_quoted w d xs sound quotes h.1)

pub signals_quoted : (w : Netlist) → IsNetlist w → HasQuotableBits w → All (λ s. IsQuotable s.name) (signals_of w)
signals_quoted w sound quotes =
    let count : ℕ = length (bits_of w.ports) in
    let all : AreBefore count (bits_of w.ports) = subst (AreBefore count) (sym sound.numbered) (nets_before 0 count count (omega arith)) in
    let sides = sides_before count w.ports all in
    All-append (λ (s : StilSignal). IsQuotable s.name) (map (signal_of w dir.Input) (input_bits w.ports)) (map (signal_of w dir.Output) (output_bits w.ports)) (all_quoted w dir.Input (input_bits w.ports) sound quotes sides.0)
    (all_quoted w dir.Output (output_bits w.ports) sound quotes sides.1)

-- ---- inputs before outputs

abbrev enters : StilSignal → Bool
enters s = is_input s.dir

outs_none : (w : Netlist) (ys : List NetId) → prefix_len enters (map (signal_of w dir.Output) ys) ≡ 0
outs_none w [] = refl
outs_none w (y ∷ ys) = refl

leading : (w : Netlist) (xs ys : List NetId) → prefix_len enters (map (signal_of w dir.Input) xs ++ map (signal_of w dir.Output) ys) ≡ length xs
leading w [] ys = outs_none w ys
leading w (x ∷ xs) ys = let rest = leading w xs ys in omega (arith, rest)

dropped : (w : Netlist) (xs ys : List NetId) → drop (length xs) (map (signal_of w dir.Input) xs ++ map (signal_of w dir.Output) ys) ≡ map (signal_of w dir.Output) ys
dropped w [] ys = refl
dropped w (x ∷ xs) ys = dropped w xs ys

all_leave : (w : Netlist) (ys : List NetId) → All (λ s. s.dir ≡ dir.Output) (map (signal_of w dir.Output) ys)
all_leave w [] = All-nil (λ (s : StilSignal). s.dir ≡ dir.Output)
all_leave w (y ∷ ys) = All-cons (λ (s : StilSignal). s.dir ≡ dir.Output) (signal_of w dir.Output y) (map (signal_of w dir.Output) ys) refl (all_leave w ys)

pub outputs_leave : (w : Netlist) → All (λ s. s.dir ≡ dir.Output) (outputs (signals_of w))
outputs_leave w =
    let same : outputs (signals_of w) ≡ map (signal_of w dir.Output) (output_bits w.ports) =
    ap (λ (k : ℕ). drop k (signals_of w)) (leading w (input_bits w.ports) (output_bits w.ports)) ∙ dropped w (input_bits w.ports) (output_bits w.ports) in
    subst (All (λ s. s.dir ≡ dir.Output)) (sym same) (all_leave w (output_bits w.ports))

-- there is an input: scan_enable
pub some_input : (n : Netlist) (config : Config) → 0 < length (inputs (signals_of (scanned Edt n config)))
some_input n config =
    let w : Netlist = scanned Edt n config in
    let taken : length (inputs (signals_of w)) ≡ prefix_len enters (signals_of w) = length-prefix_len enters (signals_of w) in
    let count : prefix_len enters (signals_of w) ≡ length (input_bits w.ports) = leading w (input_bits w.ports) (output_bits w.ports) in
    let all : length (input_bits w.ports) ≡ length (input_bits n.ports ++ added_nets (gap_in Edt n config).before config.ring.channels config.compactor.mask_inputs) = ap (λ (xs : List NetId). length xs) (all_inputs n config) in
    let both = length-append (input_bits n.ports) (added_nets (gap_in Edt n config).before config.ring.channels config.compactor.mask_inputs) in
    omega (arith, taken, count, all, both)

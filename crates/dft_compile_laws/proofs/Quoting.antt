-- The names of the bits of a scanned netlist's ports can be quoted.
use Rattle.std.proofs.Common.{ℕ, zero, suc, ◌+◌, ◌<◌, ◌^◌, ◌≡◌, ◌==◌, ◌&&◌, Bool, true, false, cond, not, List, [], ◌∷◌, ◌++◌, length, map, get_or, Option, None, Some, slice_get, refl, sym, subst, arith}
use Rattle.std.specs.Prelude.{IsTrue, ◌≢◌, option_map}
use Rattle.std.specs.Fmt.{decimal}
use Rattle.std.specs.List.{All, find, list_all, range_with_len, AllByRecursion}
use Rattle.std.proofs.lemmas.Bool.{eq-eqb, or_parts, and_parts}
use Rattle.std.proofs.lemmas.Bool.Decides.{nat_tests}
use Rattle.std.proofs.lemmas.Fmt.{digits_decimal}
use Rattle.std.proofs.lemmas.List.Elements.{All-append, All-cons, All-from_get_or, All-nil}
use Rattle.std.proofs.lemmas.Option.{none-some}
use Rattle.std.proofs.lemmas.Str.Parse.{numerals_by_value, tells_by_index}
use Rattle.dft_base.proofs.BitLemmas.{true_false}
use Rattle.dft_base.specs.Lexing.{Text}
use Rattle.dft_base.specs.Name.{IsName}
use Rattle.dft_base.specs.Words.{begins_word, continues_word, is_later_reserved, is_reserved, is_simple_name, is_word}
use Rattle.dft_base.specs.declared.dir.Dir.{Dir}
use Rattle.dft_base.specs.declared.dir.Dir.TheVariants.{Input, Output}
use Rattle.dft_base.specs.declared.place.Range.{Range}
use Rattle.dft_base.proofs.TextLemmas.{begins_goes_on}
use Rattle.dft_base.proofs.ListLemmas.{get_left, all_append, all_get}
use Rattle.dft_netlist.specs.declared.port.Port as design_port
use Rattle.dft_netlist.specs.Names.{IsShortRange, bit_name, bit_names, indices_of}
use Rattle.dft_netlist.specs.Netlist.{Netlist}
use Rattle.dft_netlist.specs.Sound.{IsNetlist, bit_names_of}
use Rattle.dft_netlist.proofs.BitLemmas.{index_short}
use Rattle.dft_config.specs.Config.{Config}
use Rattle.dft_config.specs.Range.{IsInRange, names_of}
use Rattle.dft_rules.specs.declared.error.RuleError.TheVariants.{PortName}
use Rattle.dft_rules.specs.Refusals.{clock_as_data, first_present, has_quote, quoted_port, refusal, unknown_cell, unknown_port}
use Rattle.dft_rules.proofs.CheckLemmas.{from_clocks, from_count, from_keep, from_ports, from_present, from_resets, none_first}
use Rattle.dft_scan_frame.specs.AddedPorts.{NewPort, new_port, numbered, ports_from}
use Rattle.dft_scan_frame.specs.Statements.{IsReady}
use Rattle.dft_insert.specs.declared.style.Style.TheVariants.{Edt}
use Rattle.dft_insert.specs.Ports.{added_ports, gap_in}
use Rattle.dft_insert.specs.Statements.{scanned}
use Rattle.dft_insert.proofs.Keeping.{adds_in_order}
use Rattle.dft_compile_laws.specs.Formed.{HasQuotableBits}

each_made : {X : Type 0} (P : X → Type 0) (f : ℕ → X) (xs : List ℕ) → ((k i : ℕ) → slice_get xs k ≡ Some i → P (f i)) → AllByRecursion P (map f xs)
each_made P f [] h = tt
each_made P f (x ∷ xs) h = (h 0 x refl, each_made P f xs (λ k i at. h (suc k) i at))

-- ---- bytes

abbrev Plain : ℕ → Type 0
Plain b = b ≢ 34

abbrev IsPlain : Text → Type 0
IsPlain name = All Plain name

digits_plain : (number : ℕ) → number < 2 ^ 64 → All Plain (decimal number)
digits_plain number lt = All-from_get_or Plain (decimal number) 0 (λ i within same. let d = digits_decimal (numerals_by_value _ tells_by_index) number lt i within in omega (arith, d.0, same))

bit_plain : (name : Text) (index : ℕ) → index < 2 ^ 64 → All Plain name → All Plain (bit_name name index)
bit_plain name index lt h =
    All-append Plain (name ++ (91 ∷ decimal index)) (93 ∷ []) (All-append Plain name (91 ∷ decimal index) h (All-cons Plain 91 (decimal index) (λ e. omega (arith, e)) (digits_plain index lt)))
    (All-cons Plain 93 [] (λ e. omega (arith, e)) (All-nil Plain))

number_plain : (name : Text) (number : ℕ) → number < 2 ^ 64 → IsPlain name → IsPlain (numbered name number)
number_plain name number lt h = All-append Plain name (decimal number) h (digits_plain number lt)

bits_plain : (name : Text) (range : Option Range) → IsShortRange range → IsPlain name → AllByRecursion IsPlain (bit_names name range)
bits_plain name None short h = (h, tt)
bits_plain name (Some r) short h = each_made IsPlain (bit_name name) (indices_of r) (λ k i at. bit_plain name i (index_short r k i short at) h)

-- ---- ports

abbrev IsPlainPort : design_port.Port → Type 0
IsPlainPort port = IsPlain port.name × IsShortRange port.range

ports_plain : (ports : List design_port.Port) → AllByRecursion IsPlainPort ports → AllByRecursion IsPlain (bit_names_of ports)
ports_plain [] h = tt
ports_plain (port ∷ ports) h = all_append IsPlain (bit_names port.name port.range) (bit_names_of ports) (bits_plain port.name port.range h.0.1 h.0.0) (ports_plain ports h.1)

-- the design's

no_quoted_port : (n : Netlist) (config : Config) → refusal n config ≡ None → quoted_port n.ports ≡ None
unfolding refusal
no_quoted_port n config passed =
    let a = none_first (unknown_port n config.domains) (from_resets n config) passed in
    let b = none_first (unknown_port n config.resets) (from_keep n config) a.1 in
    let c = none_first (unknown_cell n config.keep) (from_present n config) b.1 in
    let d = none_first (first_present n.library n.instances) (from_clocks n config) c.1 in
    let e = none_first (clock_as_data n config.domains) (from_ports n config) d.1 in
    (none_first (quoted_port n.ports) (from_count n config) e.1).0

found_by : (t : Bool) (port : design_port.Port) (rest : Option design_port.Port) → option_map (λ p. PortName p.name) (cond t (Some port) rest) ≡ None → (t ≡ false) × (option_map (λ p. PortName p.name) rest ≡ None)
found_by true port rest h = absurd (none-some (PortName port.name) (sym h))
found_by false port rest h = (refl, h)

found_none : (ports : List design_port.Port) → quoted_port ports ≡ None → AllByRecursion (λ port. has_quote port.name ≡ false) ports
found_none [] h = tt
found_none (port ∷ ports) h = let r = found_by (has_quote port.name) port (find (λ p. has_quote p.name) ports) h in (r.0, found_none ports r.1)

not_this : (b : ℕ) → (b == 34) ≡ false → Plain b
not_this b e same = true_false (b == 34) (eq-eqb b 34 same) e

none_plain : (name : Text) → has_quote name ≡ false → All Plain name
none_plain [] h = All-nil Plain
none_plain (b ∷ name) h = let r = or_parts (b == 34) (has_quote name) h in All-cons Plain b name (not_this b r.0) (none_plain name r.1)

own_ports : (ports : List design_port.Port) → ((place : ℕ) (port : design_port.Port) → slice_get ports place ≡ Some port → IsName port.name × IsShortRange port.range) → AllByRecursion (λ port. has_quote port.name ≡ false) ports → AllByRecursion IsPlainPort ports
own_ports [] named h = tt
own_ports (port ∷ ports) named h = ((none_plain port.name h.0, (named 0 port refl).1), own_ports ports (λ place p at. named (suc place) p at) h.1)

-- ---- the added ports

continues_plain : (b : ℕ) → continues_word b ≡ true → Plain b
continues_plain b e same = not_word b same e
  where
    not_word : (c : ℕ) → c ≡ 34 → continues_word c ≡ true → ⊥
    not_word c same e = grind (arith, nat_tests)

all_plain : (bytes : Text) → list_all continues_word bytes ≡ true → IsPlain bytes
all_plain [] h = All-nil Plain
all_plain (b ∷ bytes) h = let r = and_parts (continues_word b) (list_all continues_word bytes) h in All-cons Plain b bytes (continues_plain b r.0) (all_plain bytes r.1)

word_plain : (bytes : Text) → is_word bytes ≡ true → IsPlain bytes
word_plain [] h = All-nil Plain
word_plain (b ∷ bytes) h = let r = and_parts (begins_word b) (list_all continues_word bytes) h in All-cons Plain b bytes (continues_plain b (begins_goes_on b r.0)) (all_plain bytes r.1)

simple_plain : (bytes : Text) → IsTrue (is_simple_name bytes && not (is_later_reserved bytes)) → IsPlain bytes
simple_plain bytes h =
    let outer = and_parts (is_simple_name bytes) (not (is_later_reserved bytes)) h in
    word_plain bytes (and_parts (is_word bytes) (not (is_reserved bytes)) outer.0).0

abbrev IsPlainNew : NewPort → Type 0
IsPlainNew port = IsPlain port.name

numbered_plain : (d : Dir) (name : Text) (from count : ℕ) → from + count < 2 ^ 64 → IsPlain name → AllByRecursion IsPlainNew (map (λ number. new_port d (numbered name number)) (range_with_len from count))
numbered_plain d name from zero fits h = tt
numbered_plain d name from (suc count) fits h = (number_plain name from (omega (arith, fits)) h, numbered_plain d name (from + 1) count (omega (arith, fits)) h)

new_ports : (net : ℕ) (ports : List NewPort) → AllByRecursion IsPlainNew ports → AllByRecursion IsPlainPort (ports_from net ports)
new_ports net [] h = tt
new_ports net (port ∷ ports) h = ((h.0, tt), new_ports (suc net) ports h.1)

added_plain : (config : Config) → IsInRange config → AllByRecursion IsPlainNew (added_ports Edt config)
added_plain config range =
    let named = λ (k : ℕ) (less : k < 8). simple_plain (get_or (names_of config.names) k []) (range.names k [] less) in
    let channels = range.ring.channels.1 in
    let masks = range.compactor.mask_inputs.1 in
    let outputs = range.compactor.outputs.1 in (
      named 0 (omega arith),
      (
        named 1 (omega arith),
        (
          named 2 (omega arith),
          all_append IsPlainNew _ _ (numbered_plain Input config.names.channel 0 config.ring.channels (omega (arith, channels)) (named 3 (omega arith)))
              (all_append IsPlainNew _ _ (numbered_plain Input config.names.mask 0 config.compactor.mask_inputs (omega (arith, masks)) (named 4 (omega arith)))
              (numbered_plain Output config.names.output 0 (length config.compactor.groups) (omega (arith, outputs)) (named 5 (omega arith)))),
        ),
      ),
    )

-- they are names, as all names of a netlist are, and no scan rule refuses the design's for a quote
pub quotable_bits : (n : Netlist) (config : Config) → IsReady n config → IsNetlist (scanned Edt n config) → HasQuotableBits (scanned Edt n config)
quotable_bits n config ready sound =
    let w = scanned Edt n config in
    let before : ℕ = (gap_in Edt n config).before in
    let own : AllByRecursion IsPlainPort n.ports = own_ports n.ports ready.netlist.named.ports (found_none n.ports (no_quoted_port n config ready.passed)) in
    let all : AllByRecursion IsPlainPort (n.ports ++ ports_from before (added_ports Edt config)) = all_append IsPlainPort n.ports (ports_from before (added_ports Edt config)) own (new_ports before (added_ports Edt config) (added_plain config ready.range)) in
    let each : AllByRecursion IsPlain (bit_names_of w.ports) = ports_plain w.ports (subst (λ (ps : List design_port.Port). AllByRecursion IsPlainPort ps) (sym (adds_in_order Edt n config).ports) all) in
    λ k name at. record {
      name = sound.named.nets k name (subst (λ (names : List Text). slice_get names k ≡ Some name) (sym sound.bits.same) (get_left (bit_names_of w.ports) sound.bits.rest k name at));
      unquoted = all_get IsPlain (bit_names_of w.ports) k name each at;
    }

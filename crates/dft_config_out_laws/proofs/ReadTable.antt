-- The table of a made configuration is read.
use Rattle.std.proofs.Common.{◌≡◌, ℕ, ◌<◌, ◌≤◌, ◌==◌, Bool, true, ◌&&◌, not, List, [], length, map, codes, pos, ℤ, Option, None, Some, Ok, option_and_then, refl, ◌∙◌, ap, arith}
use Rattle.std.specs.Prelude.{Result, min, if◌then◌else◌}
use Rattle.std.specs.List.{All}
use Rattle.std.proofs.lemmas.Bool.Decides.{nat_tests}
use Rattle.std.proofs.lemmas.List.{length-map}
use Rattle.std.proofs.lemmas.List.Elements.{recursion_from_All}
use Rattle.std.proofs.lemmas.Bool.{eq-eqb}
use Rattle.dft_base.specs.Name.{IsName}
use Rattle.dft_base.specs.Words.{is_later_reserved, is_simple_name}
use Rattle.toml.specs.Data.{string}
use Rattle.dft_base.specs.Names.{name_of}
use Rattle.dft_config.specs.declared.config.FillRule.TheVariants.{Seed}
use Rattle.dft_config.specs.declared.config.Injector.{Injector}
use Rattle.dft_config.specs.declared.config.Tap.{Tap}
use Rattle.dft_config_text.specs.declared.fault.Fault.{Fault}
use Rattle.dft_config_text.specs.declared.fault.Fault.TheVariants as fault
use Rattle.dft_config_text.specs.declared.fault.Key.{Key}
use Rattle.dft_config_text.specs.declared.fault.Key.TheVariants as key
use Rattle.dft_config_text.specs.declared.lists.Pair.{Pair}
use Rattle.dft_config_text.specs.declared.port.Port.{Port}
use Rattle.dft_config_text.specs.declared.port.Port.TheVariants as port
use Rattle.dft_config.specs.Config.{Config}
use Rattle.dft_config_text.specs.Faults.{after, needed, unless}
use Rattle.dft_config_text.specs.Ports.{key_of}
use Rattle.dft_config.specs.Range.{IsSet, names_of}
use Rattle.dft_config_text.specs.Reading.{carrying_of, checked, clocking_of, compactor_of, keys_of, loading_of, names_of_ports, reading, ring_of, steering_of}
use Rattle.dft_config_text.specs.Settings.{counted, domains, fill, groups, injectors, injectors_of, keep, lists_below, name_or_default, number, numbers, of_length, pairs_of, phase, port_name, resets, taps, taps_of, within}
use Rattle.dft_config_text.specs.Unknown.{first_unknown}
use Rattle.dft_config_text.specs.Sections.{has_key, is_always_key}
use Rattle.dft_config_out.specs.declared.made.Made.{Made}
use Rattle.dft_config_out.specs.Written.{config_of}
use Rattle.dft_config_out_laws.specs.Tables.{IsWritable, TableIsRead, compactor_table, injector_numbers, injectors_data, lists_data, names_data, names_table, number_data, ring_table, table_of, tap_numbers, taps_data}
use Rattle.dft_config_out_laws.proofs.Checked.{none_empty, none_repeated, none_unreached}
use Rattle.dft_config_out_laws.proofs.Values.{injector_pairs, injectors_are, lists_are, lists_below_are, name_is, names_are, number_is, tap_pairs, taps_are, within_count}

-- ---- names of clocks and resets

counted_is : (k : Key) (low high : ℕ) (names : List (List ℕ)) → low ≤ length names → length names ≤ high → counted k low high names ≡ Ok names
counted_is k low high names a b = ap (λ (r : Result ℕ Fault). after r (λ count. Ok names)) (within_count k low high (length names) a b)

domains_is : (names : List (List ℕ)) → All IsName names → (1 ≤ length names) × (length names ≤ 16) → domains (Some (names_data names)) ≡ Ok names
unfolding domains
domains_is names are few =
    ap (λ (o : Option (List (List ℕ))). needed key.Domains o (counted key.Domains 1 16)) (names_are names (recursion_from_All IsName names are)) ∙ counted_is key.Domains 1 16 names few.0 few.1

resets_is : (names : List (List ℕ)) → All IsName names → length names ≤ 16 → resets (Some (names_data names)) ≡ Ok names
unfolding resets
resets_is names are few =
    ap (λ (o : Option (List (List ℕ))). needed key.Resets o (counted key.Resets 0 16)) (names_are names (recursion_from_All IsName names are)) ∙ counted_is key.Resets 0 16 names (omega arith) few

clocking_is : (made : Made) → IsWritable made → clocking_of (table_of made) ≡ Ok (record { domains = made.domains; resets = made.resets; keep = [] })
unfolding clocking_of keep
clocking_is made is =
    let version = number_is key.Version 1 1 1 (omega arith) (omega arith) in
    let clocks = domains_is made.domains is.clocks is.range.domains in
    let held = resets_is made.resets is.resets is.range.resets in
    (λ i. after (version i) (λ version. after (clocks i) (λ domains. after (held i) (λ resets. after (keep None) (λ keep. Ok (record { domains = domains; resets = resets; keep = keep }))))))

-- ---- loads

fill_is : fill (Some (string (codes "seed"))) (Some (number_data 1)) ≡ Ok (Seed 1)
unfolding fill number
fill_is = refl

loading_is : (made : Made) → IsWritable made → loading_of (table_of made) ≡ Ok (record { chains = made.chains; warm = made.warm; window = 16; fill = Seed 1; always_masked = [] })
unfolding loading_of numbers
loading_is made is =
    let chains = number_is key.Chains 1 1024 made.chains is.range.chains.0 is.range.chains.1 in
    let warm = number_is key.Warm 0 4095 made.warm (omega arith) is.range.warm in
    let window = number_is key.Window 1 16 16 (omega arith) (omega arith) in
    (λ i. after (chains i) (λ chains. after (warm i) (λ warm. after (window i) (λ window. after (fill_is i) (λ fill. after (numbers key.AlwaysMasked chains None) (λ always_masked.
    Ok (record { chains = chains; warm = warm; window = window; fill = fill; always_masked = always_masked })))))))

-- ---- the ring

taps_is : (stages : ℕ) (list : List Tap) → All (λ tap. (tap.from < stages) × (tap.to < stages)) list → taps stages (Some (taps_data list)) ≡ Ok list
unfolding taps
taps_is stages list all =
    ap (λ (o : Option (List (List ℤ))). after (needed key.Taps (option_and_then pairs_of o) (λ found. Ok found)) (taps_of stages)) (lists_are tap_numbers list)
    ∙ ap (λ (o : Option (List Pair)). after (needed key.Taps o (λ found. Ok found)) (taps_of stages)) (tap_pairs list) ∙ taps_are stages list (recursion_from_All (λ tap. (tap.from < stages) × (tap.to < stages)) list all)

injectors_is : (channels stages : ℕ) (list : List Injector) → All (λ injector. (injector.channel < channels) × (injector.stage < stages)) list → injectors channels stages (Some (injectors_data list)) ≡ Ok list
unfolding injectors
injectors_is channels stages list all =
    ap (λ (o : Option (List (List ℤ))). after (needed key.Injectors (option_and_then pairs_of o) (λ found. Ok found)) (injectors_of channels stages)) (lists_are injector_numbers list)
    ∙ ap (λ (o : Option (List Pair)). after (needed key.Injectors o (λ found. Ok found)) (injectors_of channels stages)) (injector_pairs list)
    ∙ injectors_are channels stages list (recursion_from_All (λ injector. (injector.channel < channels) × (injector.stage < stages)) list all)

below_each : (bound : ℕ) (lists : List (List ℕ)) → All (IsSet bound) lists → All (λ numbers. All (λ n. n < bound) numbers) lists
below_each bound lists all k d less = (all k d less).below

phase_is : (chains stages : ℕ) (lists : List (List ℕ)) → length lists ≡ chains → All (IsSet stages) lists → phase chains stages (Some (lists_data lists)) ≡ Ok lists
unfolding phase
phase_is chains stages lists count all =
    let many : (length (map (map pos) lists) == chains) ≡ true = eq-eqb (length (map (map pos) lists)) chains (length-map lists (map pos) ∙ count) in
    ap (λ (o : Option (List (List ℤ))). needed key.Phase (option_and_then (of_length chains) o) (lists_below key.Phase stages)) (lists_are (λ x. x) lists)
    ∙ ap (λ (b : Bool). needed key.Phase (if b then Some (map (map pos) lists) else None) (lists_below key.Phase stages)) many
    ∙ lists_below_are key.Phase stages lists (recursion_from_All (λ numbers. All (λ n. n < stages) numbers) lists (below_each stages lists all))

ring_is : (made : Made) → IsWritable made → ring_of made.chains (Some (ring_table made.ring)) ≡ Ok made.ring
unfolding ring_of
ring_is made is =
    let ring = made.ring in
    let range = is.range.ring in
    let stages = number_is key.Stages 2 128 ring.stages range.stages.0 range.stages.1 in
    let channels = number_is key.Channels 1 32 ring.channels range.channels.0 range.channels.1 in
    (λ i. after (stages i) (λ stages. after (channels i) (λ channels. after (taps stages (Some (taps_data ring.taps))) (λ taps. after (injectors channels stages (Some (injectors_data ring.injectors))) (λ injectors.
    after (phase made.chains stages (Some (lists_data ring.phase))) (λ phase. Ok (record { stages = stages; channels = channels; taps = taps; injectors = injectors; phase = phase })))))))
    ∙ (λ i. after (taps_is ring.stages ring.taps range.taps i) (λ taps. after (injectors_is ring.channels ring.stages ring.injectors range.injectors i) (λ injectors. after (phase_is made.chains ring.stages ring.phase range.phases range.phase i) (λ phase.
    Ok (record { stages = ring.stages; channels = ring.channels; taps = taps; injectors = injectors; phase = phase })))))

-- ---- the compactor

groups_is : (chains : ℕ) (lists : List (List ℕ)) → (1 ≤ length lists) × (length lists ≤ 32) → All (IsSet chains) lists → groups chains (Some (lists_data lists)) ≡ Ok lists
unfolding groups
groups_is chains lists few all =
    let count : length (map (map pos) lists) ≡ length lists = length-map lists (map pos) in
    ap (λ (o : Option (List (List ℤ))). needed key.Groups o (λ found. after (within key.Groups 1 32 (pos (length found))) (λ count. lists_below key.Groups chains found))) (lists_are (λ x. x) lists)
    ∙ ap (λ (n : ℕ). after (within key.Groups 1 32 (pos n)) (λ count. lists_below key.Groups chains (map (map pos) lists))) count
    ∙ ap (λ (r : Result ℕ Fault). after r (λ count. lists_below key.Groups chains (map (map pos) lists))) (within_count key.Groups 1 32 (length lists) few.0 few.1)
    ∙ lists_below_are key.Groups chains lists (recursion_from_All (λ numbers. All (λ n. n < chains) numbers) lists (below_each chains lists all))

compactor_is : (made : Made) → IsWritable made → compactor_of made.chains (Some (compactor_table made.compactor)) ≡ Ok made.compactor
unfolding compactor_of
compactor_is made is =
    let range = is.range.compactor in
    let a = range.mask_inputs.0 in
    let b = range.mask_inputs.1 in
    let d = range.mask_inputs.2 in
    let most : made.compactor.mask_inputs ≤ min made.chains 32 = omega (arith, b, d) in
    let masks = number_is key.MaskInputs 1 (min made.chains 32) made.compactor.mask_inputs a most in
    (λ i. after (groups_is made.chains made.compactor.groups range.outputs range.groups i) (λ groups. after (masks i) (λ mask_inputs. Ok (record { groups = groups; mask_inputs = mask_inputs }))))

-- ---- the names of ports

port_is : (p : Port) (name : List ℕ) → (is_simple_name name && not (is_later_reserved name)) ≡ true → IsName name → name_or_default p (Some (string name)) ≡ Ok name
port_is p name simple is =
    ap (λ (b : Bool). needed (key_of p) (if b then name_of name else None) (λ found. Ok found)) simple ∙ ap (λ (o : Option (List ℕ)). needed (key_of p) o (λ found. Ok found)) (name_is name is)

steering_is : (made : Made) → IsWritable made →
    steering_of (Some (names_table made.names)) ≡ Ok (record { scan_enable = made.names.scan_enable; edt_clock = made.names.edt_clock; edt_update = made.names.edt_update })
unfolding steering_of port_name
steering_is made is =
    let n = made.names in
    let s = recursion_from_All (λ name. (is_simple_name name && not (is_later_reserved name)) ≡ true) (names_of n) is.range.names in
    let w = recursion_from_All IsName (names_of n) is.names in
    (λ i. after (port_is port.ScanEnable n.scan_enable s.0 w.0 i) (λ scan_enable. after (port_is port.EdtClock n.edt_clock s.1.0 w.1.0 i) (λ edt_clock. after (port_is port.EdtUpdate n.edt_update s.1.1.0 w.1.1.0 i) (λ edt_update.
    Ok (record { scan_enable = scan_enable; edt_clock = edt_clock; edt_update = edt_update })))))

carrying_is : (made : Made) → IsWritable made →
    carrying_of (Some (names_table made.names))
    ≡ Ok (record { channel = made.names.channel; mask = made.names.mask; output = made.names.output; scan_in = made.names.scan_in; scan_out = made.names.scan_out })
unfolding carrying_of port_name
carrying_is made is =
    let n = made.names in
    let s = recursion_from_All (λ name. (is_simple_name name && not (is_later_reserved name)) ≡ true) (names_of n) is.range.names in
    let w = recursion_from_All IsName (names_of n) is.names in
    (λ i. after (port_is port.Channel n.channel s.1.1.1.0 w.1.1.1.0 i) (λ channel. after (port_is port.Mask n.mask s.1.1.1.1.0 w.1.1.1.1.0 i) (λ mask. after (port_is port.Output n.output s.1.1.1.1.1.0 w.1.1.1.1.1.0 i) (λ output.
    after (port_is port.ScanIn n.scan_in s.1.1.1.1.1.1.0 w.1.1.1.1.1.1.0 i) (λ scan_in. after (port_is port.ScanOut n.scan_out s.1.1.1.1.1.1.1.0 w.1.1.1.1.1.1.1.0 i) (λ scan_out.
    Ok (record { channel = channel; mask = mask; output = output; scan_in = scan_in; scan_out = scan_out })))))))

ports_is : (made : Made) → IsWritable made → names_of_ports (Some (names_table made.names)) ≡ Ok made.names
unfolding names_of_ports
ports_is made is =
    (λ i. after (steering_is made is i) (λ steering. after (carrying_is made is i) (λ carrying.
    Ok (record {
      scan_enable = steering.scan_enable;
      edt_clock = steering.edt_clock;
      edt_update = steering.edt_update;
      channel = carrying.channel;
      mask = carrying.mask;
      output = carrying.output;
      scan_in = carrying.scan_in;
      scan_out = carrying.scan_out;
    }))))

-- ---- the whole

keys_are : (made : Made) → IsWritable made → keys_of (table_of made) ≡ Ok (config_of made)
unfolding keys_of
keys_are made is =
    (λ i. after (clocking_is made is i) (λ clocking. after (loading_is made is i) (λ loading. after (ring_of loading.chains (Some (ring_table made.ring))) (λ ring.
    after (compactor_of loading.chains (Some (compactor_table made.compactor))) (λ compactor. after (names_of_ports (Some (names_table made.names))) (λ names.
    Ok (record {
      domains = clocking.domains;
      resets = clocking.resets;
      keep = clocking.keep;
      chains = loading.chains;
      warm = loading.warm;
      window = loading.window;
      fill = loading.fill;
      always_masked = loading.always_masked;
      ring = ring;
      compactor = compactor;
      names = names;
    })))))))
    ∙ (λ i. after (ring_is made is i) (λ ring. after (compactor_is made is i) (λ compactor. after (ports_is made is i) (λ names.
    Ok (record {
      domains = made.domains;
      resets = made.resets;
      keep = [];
      chains = made.chains;
      warm = made.warm;
      window = 16;
      fill = Seed 1;
      always_masked = [];
      ring = ring;
      compactor = compactor;
      names = names;
    })))))

none_unknown : (made : Made) → first_unknown (Seed 1) (table_of made) ≡ None
unfolding first_unknown has_key is_always_key
none_unknown made = refl

checks_pass : (made : Made) → IsWritable made → checked (table_of made) (config_of made) ≡ Ok (config_of made)
unfolding checked
checks_pass made is =
    let config = config_of made in
    (λ i. unless (none_unknown made i) fault.Unknown (unless (none_repeated config is.range i) fault.Repeated (unless (none_empty config is.range i) fault.Empty (unless (none_unreached config is.range i) (λ chain. fault.Unreached (pos chain)) (Ok config)))))

pub table_read : TableIsRead
unfolding reading
table_read made is = ap (λ (r : Result Config Fault). after r (checked (table_of made))) (keys_are made is) ∙ checks_pass made is

-- Made configurations are in range, and their names are names.
use Rattle.std.proofs.Common.{◌≡◌, ℕ, ◌<◌, ◌≤◌, ◌+◌, List, [], ◌∷◌, length, IsTrue, refl, sym, subst, arith}
use Rattle.std.specs.Prelude.{not, ◌&&◌, false, replicate}
use Rattle.std.specs.List.{All}
use Rattle.std.specs.Str.{bytes_eq}
use Rattle.std.proofs.lemmas.List.{length-replicate}
use Rattle.std.proofs.lemmas.List.Elements.{All-from_recursion, All-replicate}
use Rattle.dft_base.specs.Lexing.{Text}
use Rattle.dft_base.specs.Name.{IsName}
use Rattle.dft_base.specs.Words.{is_later_reserved, is_simple_name}
use Rattle.dft_config.specs.declared.config.Injector.{Injector}
use Rattle.dft_config.specs.declared.config.PortNames.{PortNames}
use Rattle.dft_config.specs.declared.config.Tap.{Tap}
use Rattle.dft_config.specs.Range.{IsCompactorInRange, IsRingInRange, IsSet, all_differ, has, names_of}
use Rattle.dft_config_out.specs.declared.made.Made.{Made}
use Rattle.dft_config_out_laws.specs.Tables.{IsWritable}
use Rattle.dft_netlist.specs.Netlist.{Netlist}
use Rattle.dft_netlist.specs.Sound.{IsNetlist}
use Rattle.dft_configure.specs.Roots.{domains_of}
use Rattle.dft_configuring.specs.declared.wanted.Wanted.{Wanted}
use Rattle.dft_configuring.specs.Made.{IsMade, output_count}
use Rattle.dft_configuring.specs.Names.{names_for}
use Rattle.dft_configuring.specs.Rooted.{chain_count, clock_names, longest, reset_names, rooted_made}
use Rattle.dft_configuring.specs.Steps.{IsAccepted}
use Rattle.dft_configuring.specs.Wanted.{IsWanted}
use Rattle.dft_configuring.proofs.GroupsRange.{groups_range}
use Rattle.dft_configuring.proofs.NamesRange.{names_apart, names_are, names_fit}
use Rattle.dft_configuring.proofs.Numbers.{AreMasks, masks_in, outputs_few, outputs_some}
use Rattle.dft_configuring.proofs.RingRange.{ring_range}
use Rattle.dft_configuring.proofs.RootsApart.{apart}
use Rattle.dft_configuring.proofs.RootsRange.{clocks_differ, clocks_few, clocks_named, clocks_some, resets_differ, resets_few, resets_named}

writable_by : (n : Netlist) (made : Made) (channels masks outputs chains : ℕ) → IsNetlist n → 0 < length (domains_of n) → (1 ≤ made.chains) × (made.chains ≤ 1024) → made.warm ≤ 4095 → made.domains ≡ clock_names n → made.resets ≡ reset_names n →
    IsRingInRange made.chains made.ring → IsCompactorInRange made.chains made.compactor → made.names ≡ names_for n channels masks outputs chains → IsWritable made
writable_by n made channels masks outputs chains sound some few warm domains resets ring compactor names = record {
  range = record {
    domains = (subst (λ (l : List Text). 1 ≤ length l) (sym domains) (clocks_some n some), subst (λ (l : List Text). length l ≤ 16) (sym domains) (clocks_few n));
    domains_differ = subst (λ (l : List Text). IsTrue (all_differ bytes_eq l)) (sym domains) (clocks_differ n sound);
    resets = subst (λ (l : List Text). length l ≤ 16) (sym resets) (resets_few n);
    resets_differ = subst (λ (l : List Text). IsTrue (all_differ bytes_eq l)) (sym resets) (resets_differ n sound);
    apart = subst (λ (l : List Text). All (λ reset. has bytes_eq l reset ≡ false) made.resets) (sym domains) (subst (λ (l : List Text). All (λ reset. has bytes_eq (clock_names n) reset ≡ false) l) (sym resets) (apart n sound));
    keep_differ = refl;
    chains = few;
    warm = warm;
    window = (omega arith, omega arith);
    seed = omega arith;
    always_masked = All-from_recursion (λ (chain : ℕ). chain < made.chains) [] tt;
    always_masked_differ = refl;
    ring = ring;
    compactor = compactor;
    names = subst (λ (p : PortNames). All (λ name. IsTrue (is_simple_name name && not (is_later_reserved name))) (names_of p)) (sym names) (names_fit n channels masks outputs chains);
    names_differ = subst (λ (p : PortNames). IsTrue (all_differ bytes_eq (names_of p))) (sym names) (names_apart n channels masks outputs chains);
  };
  clocks = subst (λ (l : List Text). All IsName l) (sym domains) (clocks_named n sound);
  resets = subst (λ (l : List Text). All IsName l) (sym resets) (resets_named n sound);
  names = subst (λ (p : PortNames). All IsName (names_of p)) (sym names) (names_are n channels masks outputs chains);
}

plain_range : (chains : ℕ) → IsRingInRange chains (record { stages = 8; channels = 1; taps = []; injectors = []; phase = replicate chains (0 ∷ []) })
plain_range chains = record {
  stages = (omega arith, omega arith);
  channels = (omega arith, omega arith);
  taps = All-from_recursion (λ (tap : Tap). (tap.from < 8) × (tap.to < 8)) [] tt;
  taps_differ = refl;
  injectors = All-from_recursion (λ (injector : Injector). (injector.channel < 1) × (injector.stage < 8)) [] tt;
  injectors_differ = refl;
  phases = length-replicate chains (0 ∷ []);
  phase = All-replicate (IsSet 8) chains (0 ∷ []) (record { some = omega arith; below = All-from_recursion (λ (stage : ℕ). stage < 8) (0 ∷ []) (omega arith, tt); differ = refl });
}

pub rooted_writable : (n : Netlist) (chains : ℕ) → IsNetlist n → 0 < length (domains_of n) → (1 ≤ chains) × (chains ≤ 1024) → IsWritable (rooted_made n chains)
rooted_writable n chains sound some few =
    let one : 1 ≤ chains = few.0 in
    writable_by n (rooted_made n chains) 1 1 1 chains sound some few (omega arith) refl refl (plain_range chains) (groups_range chains 1 1 (omega arith) (omega arith) one (omega arith) (omega arith) one) refl

pub made_writable : (n : Netlist) (wanted : Wanted) (made : Made) → IsNetlist n → IsWanted wanted → IsAccepted n wanted → IsMade n wanted made → made.warm ≤ 4095 → IsWritable made
made_writable n wanted made sound is_wanted accepted is warm =
    let count = chain_count n wanted in
    let outputs = output_count n wanted in
    let few = accepted.few in
    let masks : AreMasks count made.compactor.mask_inputs = subst (AreMasks count) (sym is.masks) (masks_in wanted count (made.warm + longest n wanted) is_wanted few.0 accepted.masks) in
    let compactor : IsCompactorInRange count made.compactor =
    subst (λ groups. IsCompactorInRange count (record { groups = groups; mask_inputs = made.compactor.mask_inputs })) (sym is.frame.groups)
    (groups_range count outputs made.compactor.mask_inputs (outputs_some wanted count is_wanted few.0) (outputs_few wanted count is_wanted) accepted.outputs masks.0 masks.1 masks.2) in
    writable_by n made wanted.channels made.compactor.mask_inputs outputs count sound accepted.clocks
    (subst (λ (k : ℕ). (1 ≤ k) × (k ≤ 1024)) (sym is.frame.chains) few) warm is.frame.domains is.frame.resets
    (subst (λ (k : ℕ). IsRingInRange k made.ring) (sym is.frame.chains) (ring_range count wanted.channels made.ring is_wanted.channels.0 is_wanted.channels.1 is.frame.ring))
    (subst (λ (k : ℕ). IsCompactorInRange k made.compactor) (sym is.frame.chains) compactor) is.names

-- A configuration that a table gives is in range.
use Rattle.std.proofs.Common.{ℕ, zero, suc, pos, ◌≡◌, ◌==◌, ◌≢◌, ◌+◌, ◌<◌, ◌≤◌, min, Bool, true, false, not, IsTrue, codes, List, [], ◌∷◌, length, get_or, Option, Some, None, Result, Ok, IfOk, if◌then◌else◌, All, refl, sym, ap, subst, ◌∙◌, arith}
use Rattle.std.proofs.lemmas.Bool.{and_parts, not-true}
use Rattle.std.proofs.lemmas.Bool.Decides.{nat_tests}
use Rattle.std.proofs.lemmas.List.Elements.{All-nil, All-cons}
use Rattle.std.proofs.lemmas.List.Sums.{AllPass-from_list_all}
use Rattle.std.specs.Str.{bytes_eq}
use Rattle.toml.specs.Data.{Members, get_member}
use Rattle.dft_toml.specs.Values.{value_in, table_at}
use Rattle.dft_config_text.specs.declared.fault.Key.{Key}
use Rattle.dft_config_text.specs.declared.fault.Key.TheVariants as key
use Rattle.dft_config_text.specs.declared.fault.Fault.{Fault}
use Rattle.dft_config_text.specs.declared.fault.Fault.TheVariants as fault
use Rattle.dft_config_text.specs.declared.port.Port.TheVariants as port
use Rattle.dft_config.specs.declared.config.RingConfig.{RingConfig}
use Rattle.dft_config.specs.declared.config.CompactorConfig.{CompactorConfig}
use Rattle.dft_config.specs.declared.config.PortNames.{PortNames}
use Rattle.dft_config.specs.Config.{Config}
use Rattle.dft_config_text.specs.declared.reading.Steering.{Steering}
use Rattle.dft_config_text.specs.declared.reading.Carrying.{Carrying}
use Rattle.dft_config.specs.declared.draft.Clocking.{Clocking}
use Rattle.dft_config.specs.declared.draft.Loading.{Loading}
use Rattle.dft_config_text.specs.Faults.{unless}
use Rattle.dft_config.specs.Range.{IsInRange, IsSet, IsSeedInRange, has, all_differ, same_number, names_of}
use Rattle.dft_config_text.specs.Settings.{number, numbers, taps, injectors, phase, groups, domains, resets, keep, fill, port_name}
use Rattle.dft_config_text.specs.Unknown.{first_unknown}
use Rattle.dft_config_text.specs.Checks.{Test, first_failing, are_apart, each_differs, have_items, repetition_tests, emptiness_tests, first_repeated, first_empty, is_reached, first_not, first_unreached}
use Rattle.dft_config_text.specs.Reading.{ring_of, compactor_of, steering_of, carrying_of, names_of_ports, clocking_of, loading_of, keys_of, checked}
use Rattle.dft_config_text.proofs.BoundLemmas.{ok_after, ok_any, number_ok, numbers_ok, IsTapBelow, taps_ok, IsInjectorBelow, injectors_ok, AreBelow, phase_ok, AreGroups, groups_ok, domains_ok, resets_ok, fill_ok, IsFree, port_ok}

-- the numbers of a ring, of a compactor and of a configuration are within their bounds
pub record IsRingBounded (chains : ℕ) (ring : RingConfig) : Type 0 where
  pub stages : (2 ≤ ring.stages) × (ring.stages ≤ 128)
  pub channels : (1 ≤ ring.channels) × (ring.channels ≤ 32)
  pub taps : All (IsTapBelow ring.stages) ring.taps
  pub injectors : All (IsInjectorBelow ring.channels ring.stages) ring.injectors
  pub phase : AreBelow ring.stages chains ring.phase

pub record IsCompactorBounded (chains : ℕ) (compactor : CompactorConfig) : Type 0 where
  pub groups : AreGroups chains compactor.groups
  pub mask_inputs : (1 ≤ compactor.mask_inputs) × (compactor.mask_inputs ≤ min chains 32)

pub record IsClockingBounded (clocking : Clocking) : Type 0 where
  pub domains : (1 ≤ length clocking.domains) × (length clocking.domains ≤ 16)
  pub resets : (0 ≤ length clocking.resets) × (length clocking.resets ≤ 16)

pub record IsLoadingBounded (loading : Loading) : Type 0 where
  pub chains : (1 ≤ loading.chains) × (loading.chains ≤ 1024)
  pub warm : (0 ≤ loading.warm) × (loading.warm ≤ 4095)
  pub window : (1 ≤ loading.window) × (loading.window ≤ 16)
  pub seed : IsSeedInRange loading.fill
  pub always_masked : All (λ n. n < loading.chains) loading.always_masked

pub record IsBounded (config : Config) : Type 0 where
  pub domains : (1 ≤ length config.domains) × (length config.domains ≤ 16)
  pub resets : (0 ≤ length config.resets) × (length config.resets ≤ 16)
  pub chains : (1 ≤ config.chains) × (config.chains ≤ 1024)
  pub warm : (0 ≤ config.warm) × (config.warm ≤ 4095)
  pub window : (1 ≤ config.window) × (config.window ≤ 16)
  pub seed : IsSeedInRange config.fill
  pub always_masked : All (λ n. n < config.chains) config.always_masked
  pub ring : IsRingBounded config.chains config.ring
  pub compactor : IsCompactorBounded config.chains config.compactor
  pub names : All IsFree (names_of config.names)

ring_ok : (chains : ℕ) (table : Option Members) → IfOk (ring_of chains table) (IsRingBounded chains)
unfolding ring_of
ring_ok chains table =
    ok_after (number key.Stages 2 128 (value_in (codes "stages") table)) _ (λ n. (2 ≤ n) × (n ≤ 128)) (IsRingBounded chains) (number_ok key.Stages 2 128 (value_in (codes "stages") table)) (λ stages s.
    ok_after (number key.Channels 1 32 (value_in (codes "channels") table)) _ (λ n. (1 ≤ n) × (n ≤ 32)) (IsRingBounded chains) (number_ok key.Channels 1 32 (value_in (codes "channels") table)) (λ channels c.
    ok_after (taps stages (value_in (codes "taps") table)) _ (All (IsTapBelow stages)) (IsRingBounded chains) (taps_ok stages (value_in (codes "taps") table)) (λ found t.
    ok_after (injectors channels stages (value_in (codes "injectors") table)) _ (All (IsInjectorBelow channels stages)) (IsRingBounded chains) (injectors_ok channels stages (value_in (codes "injectors") table)) (λ injected i.
    ok_after (phase chains stages (value_in (codes "phase") table)) _ (AreBelow stages chains) (IsRingBounded chains) (phase_ok chains stages (value_in (codes "phase") table)) (λ shifted p.
    record { stages = s; channels = c; taps = t; injectors = i; phase = p })))))

compactor_ok : (chains : ℕ) (table : Option Members) → IfOk (compactor_of chains table) (IsCompactorBounded chains)
unfolding compactor_of
compactor_ok chains table =
    ok_after (groups chains (value_in (codes "groups") table)) _ (AreGroups chains) (IsCompactorBounded chains) (groups_ok chains (value_in (codes "groups") table)) (λ found g.
    ok_after (number key.MaskInputs 1 (min chains 32) (value_in (codes "mask_inputs") table)) _ (λ n. (1 ≤ n) × (n ≤ min chains 32)) (IsCompactorBounded chains) (number_ok key.MaskInputs 1 (min chains 32) (value_in (codes "mask_inputs") table)) (λ masks m.
    record { groups = g; mask_inputs = m }))

abbrev AreFree : PortNames → Type 0
AreFree names = All IsFree (names_of names)

-- the names that steer a load, and those that carry bits, are free
record AreSteering (names : Steering) : Type 0 where
  scan_enable : IsFree names.scan_enable
  edt_clock : IsFree names.edt_clock
  edt_update : IsFree names.edt_update

record AreCarrying (names : Carrying) : Type 0 where
  channel : IsFree names.channel
  mask : IsFree names.mask
  output : IsFree names.output
  scan_in : IsFree names.scan_in
  scan_out : IsFree names.scan_out

steering_ok : (table : Option Members) → IfOk (steering_of table) AreSteering
unfolding steering_of
steering_ok table =
    ok_after (port_name port.ScanEnable table) _ IsFree AreSteering (port_ok port.ScanEnable table) (λ a pa.
    ok_after (port_name port.EdtClock table) _ IsFree AreSteering (port_ok port.EdtClock table) (λ b pb.
    ok_after (port_name port.EdtUpdate table) _ IsFree AreSteering (port_ok port.EdtUpdate table) (λ c pc.
    record { scan_enable = pa; edt_clock = pb; edt_update = pc })))

carrying_ok : (table : Option Members) → IfOk (carrying_of table) AreCarrying
unfolding carrying_of
carrying_ok table =
    ok_after (port_name port.Channel table) _ IsFree AreCarrying (port_ok port.Channel table) (λ d pd.
    ok_after (port_name port.Mask table) _ IsFree AreCarrying (port_ok port.Mask table) (λ e pe.
    ok_after (port_name port.Output table) _ IsFree AreCarrying (port_ok port.Output table) (λ f pf.
    ok_after (port_name port.ScanIn table) _ IsFree AreCarrying (port_ok port.ScanIn table) (λ g pg.
    ok_after (port_name port.ScanOut table) _ IsFree AreCarrying (port_ok port.ScanOut table) (λ h ph.
    record { channel = pd; mask = pe; output = pf; scan_in = pg; scan_out = ph })))))

ports_ok : (table : Option Members) → IfOk (names_of_ports table) AreFree
unfolding names_of_ports
ports_ok table =
    ok_after (steering_of table) _ AreSteering AreFree (steering_ok table) (λ s x.
    ok_after (carrying_of table) _ AreCarrying AreFree (carrying_ok table) (λ k y.
    All-cons IsFree s.scan_enable (s.edt_clock ∷ s.edt_update ∷ k.channel ∷ k.mask ∷ k.output ∷ k.scan_in ∷ k.scan_out ∷ []) x.scan_enable
    (All-cons IsFree s.edt_clock (s.edt_update ∷ k.channel ∷ k.mask ∷ k.output ∷ k.scan_in ∷ k.scan_out ∷ []) x.edt_clock
    (All-cons IsFree s.edt_update (k.channel ∷ k.mask ∷ k.output ∷ k.scan_in ∷ k.scan_out ∷ []) x.edt_update
    (All-cons IsFree k.channel (k.mask ∷ k.output ∷ k.scan_in ∷ k.scan_out ∷ []) y.channel
    (All-cons IsFree k.mask (k.output ∷ k.scan_in ∷ k.scan_out ∷ []) y.mask
    (All-cons IsFree k.output (k.scan_in ∷ k.scan_out ∷ []) y.output
    (All-cons IsFree k.scan_in (k.scan_out ∷ []) y.scan_in
    (All-cons IsFree k.scan_out [] y.scan_out (All-nil IsFree))))))))))

clocking_ok : (table : Members) → IfOk (clocking_of table) IsClockingBounded
unfolding clocking_of
clocking_ok table =
    ok_after (number key.Version 1 1 (get_member (codes "version") table)) _ (λ _. Unit {0}) IsClockingBounded (ok_any (number key.Version 1 1 (get_member (codes "version") table))) (λ version v.
    ok_after (domains (get_member (codes "domains") table)) _ (λ names. (1 ≤ length names) × (length names ≤ 16)) IsClockingBounded (domains_ok (get_member (codes "domains") table)) (λ clocks d.
    ok_after (resets (get_member (codes "resets") table)) _ (λ names. (0 ≤ length names) × (length names ≤ 16)) IsClockingBounded (resets_ok (get_member (codes "resets") table)) (λ reset_ports r.
    ok_after (keep (get_member (codes "keep") table)) _ (λ _. Unit {0}) IsClockingBounded (ok_any (keep (get_member (codes "keep") table))) (λ kept k.
    record { domains = d; resets = r }))))

loading_ok : (table : Members) → IfOk (loading_of table) IsLoadingBounded
unfolding loading_of
loading_ok table =
    ok_after (number key.Chains 1 1024 (get_member (codes "chains") table)) _ (λ n. (1 ≤ n) × (n ≤ 1024)) IsLoadingBounded (number_ok key.Chains 1 1024 (get_member (codes "chains") table)) (λ chains c.
    ok_after (number key.Warm 0 4095 (get_member (codes "warm") table)) _ (λ n. (0 ≤ n) × (n ≤ 4095)) IsLoadingBounded (number_ok key.Warm 0 4095 (get_member (codes "warm") table)) (λ warm w.
    ok_after (number key.Window 1 16 (get_member (codes "window") table)) _ (λ n. (1 ≤ n) × (n ≤ 16)) IsLoadingBounded (number_ok key.Window 1 16 (get_member (codes "window") table)) (λ window n.
    ok_after (fill (get_member (codes "fill") table) (get_member (codes "seed") table)) _ IsSeedInRange IsLoadingBounded (fill_ok (get_member (codes "fill") table) (get_member (codes "seed") table)) (λ rule f.
    ok_after (numbers key.AlwaysMasked chains (get_member (codes "always_masked") table)) _ (All (λ m. m < chains)) IsLoadingBounded (numbers_ok key.AlwaysMasked chains (get_member (codes "always_masked") table)) (λ masked m.
    record { chains = c; warm = w; window = n; seed = f; always_masked = m })))))

keys_ok : (table : Members) → IfOk (keys_of table) IsBounded
unfolding keys_of
keys_ok table =
    ok_after (clocking_of table) _ IsClockingBounded IsBounded (clocking_ok table) (λ clocking b.
    ok_after (loading_of table) _ IsLoadingBounded IsBounded (loading_ok table) (λ loading l.
    ok_after (ring_of loading.chains (table_at (codes "ring") table)) _ (IsRingBounded loading.chains) IsBounded (ring_ok loading.chains (table_at (codes "ring") table)) (λ ring g.
    ok_after (compactor_of loading.chains (table_at (codes "compactor") table)) _ (IsCompactorBounded loading.chains) IsBounded (compactor_ok loading.chains (table_at (codes "compactor") table)) (λ compactor p.
    ok_after (names_of_ports (table_at (codes "names") table)) _ AreFree IsBounded (ports_ok (table_at (codes "names") table)) (λ names a.
    record { domains = b.domains; resets = b.resets; chains = l.chains; warm = l.warm; window = l.window; seed = l.seed; always_masked = l.always_masked; ring = g; compactor = p; names = a })))))

-- no test fails
abbrev AllPassed : List Test → Type 0
AllPassed [] = Unit {0}
AllPassed (test ∷ tests) = (test.passes ≡ true) × AllPassed tests

passed_one : (b : Bool) (r : Option Key) (k : Key) → (if b then r else Some k) ≡ None → (b ≡ true) × (r ≡ None)
passed_one true r k e = (refl, e)
passed_one false r k e = absurd (cc)

all_passed : (tests : List Test) → first_failing tests ≡ None → AllPassed tests
all_passed [] e = tt
all_passed (test ∷ tests) e = let (now, later) = passed_one test.passes (first_failing tests) test.key e in (now, all_passed tests later)

repetitions_passed : (config : Config) → first_repeated config ≡ None → AllPassed (repetition_tests config)
unfolding first_repeated
repetitions_passed config e = all_passed (repetition_tests config) e

emptiness_passed : (config : Config) → first_empty config ≡ None → AllPassed (emptiness_tests config)
unfolding first_empty
emptiness_passed config e = all_passed (emptiness_tests config) e

found_none : (b : Bool) (r : Option ℕ) (n : ℕ) → (if b then r else Some n) ≡ None → (b ≡ true) × (r ≡ None)
found_none true r n e = (refl, e)
found_none false r n e = absurd (cc)

at_or_past : (t : Bool) (test : ℕ → Bool) (n k : ℕ) → (n == k) ≡ t → n ≤ k → test n ≡ true → (n + 1 ≤ k → test k ≡ true) → test k ≡ true
at_or_past true test n k same low here later = let e : n ≡ k = grind (arith, nat_tests) in ap test (sym e) ∙ here
at_or_past false test n k same low here later = let e : n ≢ k = grind (arith, nat_tests) in later (omega arith)

first_none : (test : ℕ → Bool) (n more : ℕ) → first_not test n more ≡ None → (k : ℕ) → n ≤ k → k < n + more → test k ≡ true
first_none test n zero e k low high = absurd (omega arith)
first_none test n (suc more) e k low high =
    let (here, later) = found_none (test n) (first_not test (n + 1) more) n e in
    at_or_past (n == k) test n k refl low here (λ past. first_none test (n + 1) more later k past (omega arith))

reached_ok : (config : Config) → first_unreached config ≡ None → (chain : ℕ) → chain < config.chains → IsTrue (is_reached config.compactor.groups chain)
unfolding first_unreached
reached_ok config e chain less = first_none (is_reached config.compactor.groups) 0 config.chains e chain (omega arith) (omega arith)

some_item : (n : ℕ) → not (n == 0) ≡ true → 0 < n
some_item n e = grind (arith, nat_tests)

sets_ok : (bound : ℕ) (lists : List (List ℕ)) → All (All (λ n. n < bound)) lists → each_differs lists ≡ true → have_items lists ≡ true → All (IsSet bound) lists
sets_ok bound lists below differ some k d less =
    record {
      some = some_item (length (get_or lists k d)) (AllPass-from_list_all (λ list. not (length list == 0)) lists some k d less);
      below = below k d less;
      differ = AllPass-from_list_all (all_differ same_number) lists differ k d less;
    }

apart_ok : (ds rs : List (List ℕ)) → are_apart ds rs ≡ true → All (λ reset. has bytes_eq ds reset ≡ false) rs
apart_ok ds rs e k d less = not-true (has bytes_eq ds (get_or rs k d)) (AllPass-from_list_all (λ reset. not (has bytes_eq ds reset)) rs e k d less)

checked_ok : (config : Config) → IsBounded config → AllPassed (repetition_tests config) → AllPassed (emptiness_tests config)
    → ((chain : ℕ) → chain < config.chains → IsTrue (is_reached config.compactor.groups chain)) → IsInRange config
checked_ok config b (d, (r, (k, (m, (t, (i, (p, (g, (n, last))))))))) (some_phase, (some_groups, end)) reached =
    let (r_differ, r_apart) = and_parts (all_differ bytes_eq config.resets) (are_apart config.domains config.resets) r in
    record {
      domains = b.domains;
      domains_differ = d;
      resets = b.resets.1;
      resets_differ = r_differ;
      apart = apart_ok config.domains config.resets r_apart;
      keep_differ = k;
      chains = b.chains;
      warm = b.warm.1;
      window = b.window;
      seed = b.seed;
      always_masked = b.always_masked;
      always_masked_differ = m;
      ring = record {
        stages = b.ring.stages;
        channels = b.ring.channels;
        taps = b.ring.taps;
        taps_differ = t;
        injectors = b.ring.injectors;
        injectors_differ = i;
        phases = b.ring.phase.0;
        phase = sets_ok config.ring.stages config.ring.phase b.ring.phase.1 p some_phase;
      };
      compactor = record {
        outputs = b.compactor.groups.0;
        groups = sets_ok config.chains config.compactor.groups b.compactor.groups.1 g some_groups;
        reached = reached;
        mask_inputs = (b.compactor.mask_inputs.0, omega arith, omega arith);
      };
      names = b.names;
      names_differ = n;
    }

ok_unless : {A B : Type 0} (o : Option A) (refused : A → Fault) (next : Result B Fault) (Q : B → Type 0) → (o ≡ None → IfOk next Q) → IfOk (unless o refused next) Q
ok_unless None refused next Q h = h refl
ok_unless (Some a) refused next Q h = tt

-- a configuration that passes its checks is in range
checks_ok : (table : Members) (config : Config) → IsBounded config → IfOk (checked table config) IsInRange
unfolding checked
checks_ok table config b =
    ok_unless (first_unknown config.fill table) fault.Unknown _ IsInRange (λ known.
    ok_unless (first_repeated config) fault.Repeated _ IsInRange (λ differ.
    ok_unless (first_empty config) fault.Empty _ IsInRange (λ filled.
    ok_unless (first_unreached config) (λ chain. fault.Unreached (pos chain)) (Ok config) IsInRange (λ reached.
    checked_ok config b (repetitions_passed config differ) (emptiness_passed config filled) (reached_ok config reached)))))

-- what the keys of a table give is in range where it passes the checks
pub passed_in_range : (table : Members) (config : Config) → keys_of table ≡ Ok config → checked table config ≡ Ok config → IsInRange config
passed_in_range table config given passed =
    let bounded = subst (λ r. IfOk r IsBounded) given (keys_ok table) in
    subst (λ r. IfOk r IsInRange) passed (checks_ok table config bounded)

-- A configuration that is in range: each number within its bounds, each list without repetition.
use Rattle.std.specs.Prelude.{◌≡◌, ℕ, ◌<◌, ◌≤◌, ◌^◌, Bool, true, false, not, ◌&&◌, ◌||◌, ◌==◌, IsTrue, List, [], ◌∷◌, length}
use Rattle.std.specs.List.{All, list_any}
use Rattle.std.specs.Str.{bytes_eq}
use Rattle.dft_base.specs.Words.{is_simple_name, is_later_reserved}
use Rattle.dft_config.specs.declared.config.FillRule.{FillRule}
use Rattle.dft_config.specs.declared.config.FillRule.TheVariants.{Zeros, Ones, Seed}
use Rattle.dft_config.specs.declared.config.Tap.{Tap}
use Rattle.dft_config.specs.declared.config.Injector.{Injector}
use Rattle.dft_config.specs.declared.config.RingConfig.{RingConfig}
use Rattle.dft_config.specs.declared.config.CompactorConfig.{CompactorConfig}
use Rattle.dft_config.specs.declared.config.PortNames.{PortNames}
use Rattle.dft_config.specs.Config.{Config}

-- whether an item stands among others, and whether none stands twice, by a test of equality
abbrev pub has : {T : Type 0} → (T → T → Bool) → List T → T → Bool
has same [] x = false
has same (y ∷ ys) x = same y x || has same ys x

abbrev pub all_differ : {T : Type 0} → (T → T → Bool) → List T → Bool
all_differ same [] = true
all_differ same (x ∷ xs) = not (has same xs x) && all_differ same xs

-- whether two numbers, taps or injectors are the same
abbrev pub same_number : ℕ → ℕ → Bool
same_number a b = a == b

abbrev pub same_tap : Tap → Tap → Bool
same_tap a b = (a.from == b.from) && (a.to == b.to)

abbrev pub same_injector : Injector → Injector → Bool
same_injector a b = (a.channel == b.channel) && (a.stage == b.stage)

-- the eight names of ports, in order
abbrev pub names_of : PortNames → List (List ℕ)
names_of names =
    names.scan_enable ∷ names.edt_clock ∷ names.edt_update ∷ names.channel ∷ names.mask ∷ names.output ∷ names.scan_in ∷ names.scan_out ∷ []

-- the seed is below 2^63
abbrev pub IsSeedInRange : FillRule → Type 0
IsSeedInRange Zeros = Unit {0}
IsSeedInRange Ones = Unit {0}
IsSeedInRange (Seed seed) = seed < 2 ^ 63

-- the numbers are below a bound, at least one, and each stands once
pub record IsSet (bound : ℕ) (numbers : List ℕ) : Type 0 where
  pub some : 0 < length numbers
  pub below : All (λ n. n < bound) numbers
  pub differ : IsTrue (all_differ same_number numbers)

-- the ring is in range, for this number of chains
pub record IsRingInRange (chains : ℕ) (ring : RingConfig) : Type 0 where
  pub stages : (2 ≤ ring.stages) × (ring.stages ≤ 128)
  pub channels : (1 ≤ ring.channels) × (ring.channels ≤ 32)
  pub taps : All (λ tap. (tap.from < ring.stages) × (tap.to < ring.stages)) ring.taps
  pub taps_differ : IsTrue (all_differ same_tap ring.taps)
  pub injectors : All (λ injector. (injector.channel < ring.channels) × (injector.stage < ring.stages)) ring.injectors
  pub injectors_differ : IsTrue (all_differ same_injector ring.injectors)
  pub phases : length ring.phase ≡ chains
  pub phase : All (IsSet ring.stages) ring.phase

-- the compactor is in range, for this number of chains: each chain stands in some group
pub record IsCompactorInRange (chains : ℕ) (compactor : CompactorConfig) : Type 0 where
  pub outputs : (1 ≤ length compactor.groups) × (length compactor.groups ≤ 32)
  pub groups : All (IsSet chains) compactor.groups
  pub reached : (chain : ℕ) → chain < chains → IsTrue (list_any (λ group. has same_number group chain) compactor.groups)
  pub mask_inputs : (1 ≤ compactor.mask_inputs) × (compactor.mask_inputs ≤ 32) × (compactor.mask_inputs ≤ chains)

-- the configuration is in range
pub record IsInRange (config : Config) : Type 0 where
  pub domains : (1 ≤ length config.domains) × (length config.domains ≤ 16)
  pub domains_differ : IsTrue (all_differ bytes_eq config.domains)
  pub resets : length config.resets ≤ 16
  pub resets_differ : IsTrue (all_differ bytes_eq config.resets)
  pub apart : All (λ reset. has bytes_eq config.domains reset ≡ false) config.resets
  pub keep_differ : IsTrue (all_differ bytes_eq config.keep)
  pub chains : (1 ≤ config.chains) × (config.chains ≤ 1024)
  pub warm : config.warm ≤ 4095
  pub window : (1 ≤ config.window) × (config.window ≤ 16)
  pub seed : IsSeedInRange config.fill
  pub always_masked : All (λ chain. chain < config.chains) config.always_masked
  pub always_masked_differ : IsTrue (all_differ same_number config.always_masked)
  pub ring : IsRingInRange config.chains config.ring
  pub compactor : IsCompactorInRange config.chains config.compactor
  pub names : All (λ name. IsTrue (is_simple_name name && not (is_later_reserved name))) (names_of config.names)
  pub names_differ : IsTrue (all_differ bytes_eq (names_of config.names))

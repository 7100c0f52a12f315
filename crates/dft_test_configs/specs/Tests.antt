-- Whether a configuration is in range but for the names of its ports, as a test.
use Rattle.std.specs.Prelude.{ℕ, zero, suc, ◌^◌, ◌==◌, Bool, true, not, ◌&&◌, List, [], ◌∷◌, length, nat_le, nat_lt}
use Rattle.std.specs.List.{list_all, list_any}
use Rattle.std.specs.Str.{bytes_eq}
use Rattle.dft_config.specs.declared.config.FillRule.{FillRule}
use Rattle.dft_config.specs.declared.config.FillRule.TheVariants.{Zeros, Ones, Seed}
use Rattle.dft_config.specs.declared.config.Tap.{Tap}
use Rattle.dft_config.specs.declared.config.Injector.{Injector}
use Rattle.dft_config.specs.declared.config.RingConfig.{RingConfig}
use Rattle.dft_config.specs.declared.config.CompactorConfig.{CompactorConfig}
use Rattle.dft_config.specs.Config.{Config}
use Rattle.dft_config.specs.Range.{has, all_differ, same_number, same_tap, same_injector}

abbrev pub between : (low high n : ℕ) → Bool
between low high n = nat_le low n && nat_le n high

abbrev pub is_seed_in_range : FillRule → Bool
is_seed_in_range Zeros = true
is_seed_in_range Ones = true
is_seed_in_range (Seed seed) = nat_lt seed (2 ^ 63)

-- numbers below a bound, at least one, each once
abbrev pub is_set : ℕ → List ℕ → Bool
is_set bound numbers = nat_lt 0 (length numbers) && (list_all (λ n. nat_lt n bound) numbers && all_differ same_number numbers)

abbrev pub tap_fits : ℕ → Tap → Bool
tap_fits stages tap = nat_lt tap.from stages && nat_lt tap.to stages

abbrev pub injector_fits : (channels stages : ℕ) → Injector → Bool
injector_fits channels stages injector = nat_lt injector.channel channels && nat_lt injector.stage stages

-- each of the first chains, as many as this, stands in some group
abbrev pub are_reached : List (List ℕ) → ℕ → Bool
are_reached groups zero = true
are_reached groups (suc chain) = list_any (λ group. has same_number group chain) groups && are_reached groups chain

abbrev pub clocking_tests : Config → List Bool
clocking_tests config =
    between 1 16 (length config.domains) ∷ all_differ bytes_eq config.domains ∷ nat_le (length config.resets) 16 ∷
    all_differ bytes_eq config.resets ∷ list_all (λ reset. not (has bytes_eq config.domains reset)) config.resets ∷
    all_differ bytes_eq config.keep ∷ []

abbrev pub loading_tests : Config → List Bool
loading_tests config =
    between 1 1024 config.chains ∷ nat_le config.warm 4095 ∷ between 1 16 config.window ∷ is_seed_in_range config.fill ∷
    list_all (λ chain. nat_lt chain config.chains) config.always_masked ∷ all_differ same_number config.always_masked ∷ []

abbrev pub ring_tests : ℕ → RingConfig → List Bool
ring_tests chains ring =
    between 2 128 ring.stages ∷ between 1 32 ring.channels ∷ list_all (tap_fits ring.stages) ring.taps ∷ all_differ same_tap ring.taps ∷
    list_all (injector_fits ring.channels ring.stages) ring.injectors ∷ all_differ same_injector ring.injectors ∷
    (length ring.phase == chains) ∷ list_all (is_set ring.stages) ring.phase ∷ []

abbrev pub compactor_tests : ℕ → CompactorConfig → List Bool
compactor_tests chains compactor =
    between 1 32 (length compactor.groups) ∷ list_all (is_set chains) compactor.groups ∷ are_reached compactor.groups chains ∷
    between 1 32 compactor.mask_inputs ∷ nat_le compactor.mask_inputs chains ∷ []

-- whether all of these hold
abbrev pub hold : List Bool → Bool
hold tests = list_all (λ test. test) tests

abbrev pub is_in_range : Config → Bool
is_in_range config =
    hold (clocking_tests config) && (hold (loading_tests config) && (hold (ring_tests config.chains config.ring)
    && hold (compactor_tests config.chains config.compactor)))

-- The clock that captures is a clock of the configuration.
use Rattle.std.proofs.Common.{ℕ, ◌≡◌, true, false, Option, None, Some, option_and_then, slice_get, refl}
use Rattle.std.proofs.lemmas.Bool.{false_from_ne_true}
use Rattle.std.proofs.lemmas.Map.Keys.{any_passes_from_place}
use Rattle.dft_base.specs.Lexing.{Text}
use Rattle.dft_base.proofs.BitLemmas.{true_false}
use Rattle.dft_netlist.specs.Connections.{input_net}
use Rattle.dft_netlist.specs.Netlist.{Netlist}
use Rattle.dft_config.specs.Config.{Config}
use Rattle.dft_rules.specs.Rules.{is_net}
pub use Rattle.dft_rules.proofs.NamedPorts.{named_input, reset_rests}
use Rattle.dft_expect.specs.Captures.{capture_clock}
use Rattle.dft_scan_frame.specs.ConfigPorts.{config_ports}

clock_by : (n : Netlist) (config : Config) (net domain : ℕ) (o : Option Text) → slice_get config.domains domain ≡ o → is_net net (option_and_then (input_net n) o) ≡ true → (config_ports n config).is_clock net ≡ true
clock_by n config net domain None at h = absurd (true_false false h refl)
clock_by n config net domain (Some name) at h = any_passes_from_place (λ (name : Text). is_net net (input_net n name)) config.domains domain name at h

-- the clock that captures is a clock
pub pulsed_clock : (n : Netlist) (config : Config) (net domain : ℕ) → is_net net (capture_clock n config domain) ≡ true → (config_ports n config).is_clock net ≡ true
pulsed_clock n config net domain h = clock_by n config net domain (slice_get config.domains domain) refl h

pub pulsed_rests : (n : Netlist) (config : Config) (net domain : ℕ) → (config_ports n config).is_clock net ≡ false → is_net net (capture_clock n config domain) ≡ false
pulsed_rests n config net domain rests = false_from_ne_true (is_net net (capture_clock n config domain)) (λ pulse. true_false ((config_ports n config).is_clock net) (pulsed_clock n config net domain pulse) rests)

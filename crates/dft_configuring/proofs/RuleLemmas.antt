-- The scan rules read the clocks, the resets and the chains of a made configuration, and nothing else.
use Rattle.std.proofs.Common.{◌≡◌, ℕ}
use Rattle.dft_netlist.specs.Netlist.{Netlist}
use Rattle.dft_config_out.specs.declared.made.Made.{Made}
use Rattle.dft_config_out.specs.Written.{config_of}
use Rattle.dft_rules.specs.Refusals.{refusal}
use Rattle.dft_configuring.specs.Rooted.{clock_names, reset_names, rooted, rooted_made}

pub same_rules : (n : Netlist) (made : Made) (chains : ℕ) → made.domains ≡ clock_names n → made.resets ≡ reset_names n → made.chains ≡ chains → refusal n (config_of made) ≡ refusal n (rooted n chains)
unfolding refusal
same_rules n made chains d r c = (λ i. refusal n (config_of (record (rooted_made n chains) { domains = d i; resets = r i; chains = c i })))

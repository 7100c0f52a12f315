-- How many flip-flops are scanned under made configurations.
use Rattle.std.specs.Prelude.{ℕ, ◌≡◌, true, None}
use Rattle.dft_config.specs.Config.{Config}
use Rattle.dft_netlist.specs.Netlist.{Netlist}
use Rattle.dft_netlist.specs.Sound.{IsNetlist}
use Rattle.dft_rules.specs.Refusals.{is_scanned, refusal}
use Rattle.dft_rules.specs.Rules.{judged}
use Rattle.dft_configure.specs.Most.{CutsNone}
use Rattle.dft_configuring.specs.declared.configuring.Configured.{Configured}
use Rattle.dft_configuring.specs.declared.wanted.Wanted.{Wanted}
use Rattle.dft_configuring.specs.Configured.{IsConfigured}

-- Where no clock and no reset is left out for want of room, each flip-flop that any configuration scans which the scan rules accept is scanned
-- under the made one.
abbrev pub MadeScansMost : Type 0
MadeScansMost =
    (n : Netlist) (wanted : Wanted) (configured : Configured) (other : Config) (i : ℕ) → IsNetlist n → IsConfigured n wanted configured → CutsNone n → refusal n other ≡ None →
    is_scanned (judged n other i) ≡ true → is_scanned (judged n configured.config i) ≡ true

-- Most flip-flops are scanned under a made configuration.
use Rattle.std.specs.Prelude.{ℕ, ◌≡◌, true, List, [], None, Some}
use Rattle.dft_cells.specs.declared.kind.Role.TheVariants as role
use Rattle.dft_config.specs.Config.{Config}
use Rattle.dft_netlist.specs.declared.ids.NetId.{NetId}
use Rattle.dft_netlist.specs.Netlist.{Netlist}
use Rattle.dft_netlist.specs.Sound.{IsNetlist}
use Rattle.dft_rules.specs.Findings.{AreNets}
use Rattle.dft_rules.specs.Refusals.{is_scanned, refusal}
use Rattle.dft_rules.specs.Rules.{judged}
use Rattle.dft_configure.specs.Found.{numbers}
use Rattle.dft_configure.specs.Roots.{domains_of, is_among, open_clock, open_reset, resets_of}

-- no clock, no reset and no set of an open flip-flop is left out for want of room
pub record CutsNone (n : Netlist) : Type 0 where
  pub domains : (i port : ℕ) → open_clock n i ≡ Some port → is_among (domains_of n) (Some port) ≡ true
  pub resets : (i port : ℕ) → open_reset n (domains_of n) role.Reset i ≡ Some port → is_among (resets_of n (domains_of n)) (Some port) ≡ true
  pub sets : (i port : ℕ) → open_reset n (domains_of n) role.Preset i ≡ Some port → is_among (resets_of n (domains_of n)) (Some port) ≡ true

-- the domains and the resets of a configuration are those that are made for the netlist, and it keeps no flip-flop back
pub record HasRoots (n : Netlist) (config : Config) : Type 0 where
  pub domains : List NetId
  pub resets : List NetId
  pub clocks_named : AreNets n config.domains domains
  pub resets_named : AreNets n config.resets resets
  pub clocks : numbers domains ≡ domains_of n
  pub held : numbers resets ≡ resets_of n (domains_of n)
  pub keep : config.keep ≡ []

-- Where nothing is cut, each flip-flop that any configuration scans which the scan rules accept is scanned under the made one.
abbrev pub MostAreScanned : Type 0
MostAreScanned =
    (n : Netlist) (made other : Config) (i : ℕ) → IsNetlist n → HasRoots n made → CutsNone n → refusal n other ≡ None →
    is_scanned (judged n other i) ≡ true → is_scanned (judged n made i) ≡ true

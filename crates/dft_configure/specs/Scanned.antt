-- How many flip-flops are scanned with the clocks and resets that are made for a netlist.
use Rattle.std.specs.Prelude.{ℕ, ◌≡◌, Bool, true, ◌&&◌, List, length, count_by, Option, None, Some}
use Rattle.std.specs.List.{range_with_len}
use Rattle.dft_cells.specs.declared.kind.Role.TheVariants as role
use Rattle.dft_config.specs.Config.{Config}
use Rattle.dft_netlist.specs.Netlist.{Netlist}
use Rattle.dft_netlist.specs.Sound.{IsNetlist}
use Rattle.dft_rules.specs.Refusals.{is_scanned}
use Rattle.dft_rules.specs.Rules.{judgements}
use Rattle.dft_configure.specs.Most.{HasRoots}
use Rattle.dft_configure.specs.Roots.{domains_of, hold_root, is_among, open_clock, port_of_root, resets_of}

-- whether the port at which a reset is kept is among these, if there is one
abbrev pub is_kept_at : (resets : List ℕ) → Option ℕ → Bool
is_kept_at resets None = true
is_kept_at resets (Some port) = is_among resets (Some port)

-- whether the reset of an instance and its set are kept at these, as far as it has them
abbrev pub are_kept_at : Netlist → (resets : List ℕ) → (instance : ℕ) → Bool
are_kept_at n resets i = is_kept_at resets (port_of_root (hold_root n role.Reset i)) && is_kept_at resets (port_of_root (hold_root n role.Preset i))

-- whether an instance is an open flip-flop with one of these clocks, and with these resets
abbrev pub is_taken : Netlist → (domains resets : List ℕ) → (instance : ℕ) → Bool
is_taken n domains resets i = is_among domains (open_clock n i) && are_kept_at n resets i

-- how many are
unfoldable pub scanned_count : Netlist → ℕ
scanned_count n = count_by (is_taken n (domains_of n) (resets_of n (domains_of n))) (range_with_len 0 (length n.instances))

-- As many flip-flops are scanned under a configuration with the clocks and resets of the netlist.
abbrev pub ScannedAreCounted : Type 0
ScannedAreCounted = (n : Netlist) (config : Config) → IsNetlist n → HasRoots n config → scanned_count n ≡ count_by is_scanned (judgements n config)

-- The names of the ports that are added: names that the netlist has not.
use Rattle.std.specs.Prelude.{ℕ, ◌+◌, Bool, not, ◌++◌, codes, length, replicate, find, unwrap_or, Option, None, Some}
use Rattle.std.specs.List.{list_all, range_with_len}
use Rattle.dft_base.specs.Lexing.{Text}
use Rattle.dft_netlist.specs.Netlist.{Netlist}
use Rattle.dft_netlist.specs.Names.{is_taken}
use Rattle.dft_config.specs.declared.config.PortNames.{PortNames}
use Rattle.dft_parts.specs.MadeNames.{numbered}

-- a name with so many `_` behind it
abbrev pub barred : Text → (bars : ℕ) → Text
barred name bars = name ++ replicate bars 95

-- whether the netlist has no name of the port with this name and number
abbrev pub is_port_free : Netlist → (name : Text) → (number : ℕ) → Bool
is_port_free n name number = not (is_taken n (numbered name number))

-- whether the netlist has no name of the ports that get this name: of the one port, or of so many with their numbers behind it
abbrev pub are_free : Netlist → (count : Option ℕ) → (name : Text) → Bool
are_free n None name = not (is_taken n name)
are_free n (Some count) name = list_all (is_port_free n name) (range_with_len 0 count)

-- as many as a netlist has names: each of them stands in the way of one number of `_` at most, so that a lower one is free
abbrev pub most_bars : Netlist → ℕ
most_bars n = length n.nets + (length n.ports + length n.instances)

-- the least number of `_` with which a name is free
abbrev pub bars_for : Netlist → (count : Option ℕ) → (name : Text) → ℕ
bars_for n count name = unwrap_or (find (λ bars. are_free n count (barred name bars)) (range_with_len 0 (most_bars n))) (most_bars n)

abbrev pub free_name : Netlist → (count : Option ℕ) → (name : Text) → Text
free_name n count name = barred name (bars_for n count name)

-- the names of the added ports: of one port each, and of so many channels, masks, outputs and chains
unfoldable pub names_for : Netlist → (channels masks outputs chains : ℕ) → PortNames
names_for n channels masks outputs chains = record {
  scan_enable = free_name n None (codes "scan_enable");
  edt_clock = free_name n None (codes "edt_clock");
  edt_update = free_name n None (codes "edt_update");
  channel = free_name n (Some channels) (codes "edt_in");
  mask = free_name n (Some masks) (codes "edt_mask");
  output = free_name n (Some outputs) (codes "edt_out");
  scan_in = free_name n (Some chains) (codes "scan_in");
  scan_out = free_name n (Some chains) (codes "scan_out");
}

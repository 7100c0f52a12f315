-- What a `NameTable` shows, and what holds of it.
use Rattle.std.specs.Prelude.{ℕ, ◌≡◌, ◌<◌, ◌-◌, min, map, length, Some, slice_get, vec_len, vec_capacity}
use Rattle.dft_netlist.specs.declared.name_table.NameTable.TheInside.{Inside}
use Rattle.dft_netlist.specs.NameTables.{Table, name_at}

abbrev pub table_of : Inside → Table
table_of t = record { entries = t.names.entries; nets = map (name_at t.names.entries) t.nets.items; room = min t.names.room (vec_capacity t.nets - vec_len t.nets) }

-- the name of each net is there
abbrev pub IsTable : Inside → Type 0
IsTable t = (net place : ℕ) → slice_get t.nets.items net ≡ Some place → place < length t.names.entries

-- What a `NameStore` shows, and what holds of it.
use Rattle.std.specs.Prelude.{◌≤◌, ◌-◌, min, map, length}
use Rattle.indexmap.specs.IndexMap.{spare}
use Rattle.dft_netlist.specs.declared.key.Key.{Key}
use Rattle.dft_netlist.specs.declared.named.Named.{Named}
use Rattle.dft_netlist.specs.declared.name_store.TheConstants.{MAX_NAMES}
use Rattle.dft_netlist.specs.declared.name_store.NameStore.TheInside.{Inside}
use Rattle.dft_netlist.specs.NameTables.{Entry, Store}

abbrev pub entry_of : Key × Named → Entry
entry_of e = (e.0.name, e.1)

-- the names, and the room in the map and up to the greatest number of names
abbrev pub store_of : Inside → Store
store_of s = record { entries = map entry_of s.names.entries; room = min (spare s.names) (MAX_NAMES - length s.names.entries) }

-- there are no more names than that number
abbrev pub IsStore : Inside → Type 0
IsStore s = length s.names.entries ≤ MAX_NAMES

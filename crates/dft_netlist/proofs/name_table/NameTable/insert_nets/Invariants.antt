-- The names so far and those that are left.
use Rattle.std.proofs.Common.{◌≡◌, ◌<◌, ◌≤◌, ◌+◌, ◌^◌, ◌++◌, length}
use Rattle.std.specs.Vec.Iter.{into_iter_items, into_iter_len}
use Rattle.dft_netlist.specs.NameTables.{net_entries, AreNew}
use Rattle.dft_netlist.proofs.name_table.NameTable.insert_nets.Given as goal

abbrev pub invariant-loop-name : goal.invariant-loop-name
invariant-loop-name l = record {
  entries : l.self.entries ++ net_entries (length l.self.nets) (into_iter_items l.name-iterator) ≡ l.initial.self.entries ++ net_entries (length l.initial.self.nets) (into_iter_items l.initial.name-iterator);
  nets : l.self.nets ++ into_iter_items l.name-iterator ≡ l.initial.self.nets ++ into_iter_items l.initial.name-iterator;
  new : AreNew l.self.entries (into_iter_items l.name-iterator);
  room : length (into_iter_items l.name-iterator) ≤ l.self.room;
  few : length l.self.nets + length (into_iter_items l.name-iterator) < 2 ^ 32;
  counted : into_iter_len l.name-iterator ≡ length (into_iter_items l.name-iterator);
}

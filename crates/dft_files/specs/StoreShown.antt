-- What `MemoryFiles` shows.
use Rattle.std.specs.Prelude.{string_bytes}
use Rattle.dft_files.specs.declared.memory_files.MemoryFiles.TheInside.{Inside}
use Rattle.dft_files.specs.Entries.{held_of}
use Rattle.dft_files.specs.Store.{Store}

-- its files, the calls that are to fail, and what has come to pass
abbrev pub store_of : Inside → Store
store_of f = record {
  held = held_of f.entries.items;
  failing = f.failing.items;
  calls = f.calls;
  failed = string_bytes f.failed;
  read_faults = f.read_faults;
  write_faults = f.write_faults;
  short_saves = f.short_saves;
  taken = f.taken;
}

use Rattle.std.proofs.Common.{◌≡◌, drop}
use Rattle.dft_files.specs.Outside.{file_at}
use Rattle.dft_files.specs.Entries.{held_of}
use Rattle.dft_files.proofs.memory_files.MemoryFiles.file.Given as goal

-- the entries that are left hold the file that all of them hold
abbrev pub invariant-loop-entry : goal.invariant-loop-entry
invariant-loop-entry l = file_at l.name l.self.held ≡ file_at l.name (held_of (drop l.entry-index l.entry-items))

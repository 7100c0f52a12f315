-- Entries of files as a program writes them.
use Rattle.std.specs.Prelude.{ℕ, List, map, String, Vec, string_bytes}
use Rattle.std.specs.declared.alloc.Global.{Global}
use Rattle.dft_files.specs.Outside.{Held}

-- the files that these entries stand for
abbrev pub held_of : List (String Global × Vec ℕ Global) → Held
held_of entries = map (λ e. (string_bytes e.0, e.1.items)) entries

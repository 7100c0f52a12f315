-- Named files outside the program, and the counts of what failed there.
use Rattle.std.specs.Prelude.{◌≡◌, ◌+◌, ◌-◌, ◌^◌, ◌≤◌, ◌⊎◌, ℕ, min, List, [], ◌∷◌, take, false, Result, Ok, Err, Option, Some, None, Vec}
use Rattle.std.specs.Map.{lookup}
use Rattle.std.specs.Str.{bytes_eq}
use Rattle.std.specs.declared.alloc.Global.{Global}
use Rattle.dft_files.specs.declared.outside.LoadError.{LoadError}
use Rattle.dft_files.specs.declared.outside.LoadError.TheVariants as load
use Rattle.dft_files.specs.declared.outside.PutError.{PutError}
use Rattle.dft_files.specs.declared.outside.PutError.TheVariants as put
use Rattle.dft_files.specs.declared.outside.SaveError.{SaveError}
use Rattle.dft_files.specs.declared.outside.SaveError.TheVariants as save

-- the bytes of each name, with the bytes of its file
abbrev pub Held : Type 0
Held = List (List ℕ × List ℕ)

-- the bytes of the file of this name, where one is held
abbrev pub file_at : List ℕ → Held → Option (List ℕ)
file_at name held = lookup (bytes_eq name) held

-- no name is there twice
abbrev pub HasDistinctNames : Held → Type 0
HasDistinctNames [] = Unit {0}
HasDistinctNames (e ∷ es) = (file_at e.0 es ≡ None) × HasDistinctNames es

-- every other name has its file as before
abbrev pub KeepsOthers : List ℕ → Held → Held → Type 0
KeepsOthers name old new = (other : List ℕ) → bytes_eq name other ≡ false → file_at other new ≡ file_at other old

-- the fact holds of the files that are told
abbrev pub Told : (Held → Type 0) → Option Held → Type 0
Told P None = Unit {0}
Told P (Some held) = P held

-- the fact holds between the files that are told before and after, and none are told after where none were before
abbrev pub ToldChange : (Held → Held → Type 0) → Option Held → Option Held → Type 0
ToldChange R None new = new ≡ None
ToldChange R (Some old) None = ⊥
ToldChange R (Some old) (Some new) = R old new

-- a count grew by this much, or stands at the last value of a u64
abbrev pub RoseBy : ℕ → ℕ → ℕ → Type 0
RoseBy more before now = min (before + more) (2 ^ 64 - 1) ≤ now

-- a count is greater than before, or stands at the last value of a u64
abbrev pub Rose : ℕ → ℕ → Type 0
Rose before now = RoseBy 1 before now

-- a load came as far as the length of its file: it did not fail, and memory did not run out
abbrev pub ComesToLength : Result (Vec ℕ Global) LoadError → Type 0
ComesToLength (Ok v) = Unit {0}
ComesToLength (Err load.Failed) = ⊥
ComesToLength (Err load.TooLong) = Unit {0}
ComesToLength (Err (load.Memory e)) = ⊥

-- a save ended for want of memory
abbrev pub IsShortSave : Result Unit SaveError → Type 0
IsShortSave (Ok u) = ⊥
IsShortSave (Err save.Failed) = ⊥
IsShortSave (Err (save.Memory e)) = Unit {0}

-- a put ended for want of memory
abbrev pub IsShortPut : Result Unit PutError → Type 0
IsShortPut (Ok u) = ⊥
IsShortPut (Err put.Failed) = ⊥
IsShortPut (Err (put.Memory e)) = Unit {0}

-- what a failed save leaves at its name: what was there before, or a prefix of the new bytes
abbrev pub LeavesPart : List ℕ → Option (List ℕ) → Option (List ℕ) → Type 0
LeavesPart bytes old new = (new ≡ old) ⊎ ((n : ℕ) × (new ≡ Some (take n bytes)))

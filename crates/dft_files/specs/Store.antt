-- Files in memory, with calls that fail on demand.
use Rattle.std.specs.Prelude.{◌≡◌, ◌==◌, ◌+◌, ◌-◌, ◌^◌, ◌<◌, ◌≤◌, ◌⊎◌, ℕ, min, List, [], ◌∷◌, length, take, find, if◌then◌else◌, Option, Some, None, option_map, IsSome, IsSomeAnd, Result, Ok, Err, Vec}
use Rattle.std.specs.Str.{bytes_eq}
use Rattle.std.specs.declared.alloc.Global.{Global}
use Rattle.dft_files.specs.declared.failing.Failing.{Failing}
use Rattle.dft_files.specs.declared.outside.LoadError.{LoadError}
use Rattle.dft_files.specs.declared.outside.LoadError.TheVariants as load
use Rattle.dft_files.specs.declared.outside.SaveError.{SaveError}
use Rattle.dft_files.specs.declared.outside.SaveError.TheVariants as save
use Rattle.dft_files.specs.Outside.{Held, file_at}

-- what files in memory are seen as: the files, the calls that are to fail, and what has come to pass
pub record Store : Type 0 where
  pub held : Held
  pub failing : List Failing
  pub calls : ℕ
  pub failed : List ℕ
  pub read_faults : ℕ
  pub write_faults : ℕ
  pub short_saves : ℕ
  pub taken : ℕ

-- a count as a u64 keeps it
abbrev pub count_up : ℕ → ℕ → ℕ
count_up count more = min (count + more) (2 ^ 64 - 1)

-- how many bytes the call of this number keeps, where it is to fail
abbrev pub kept_at : List Failing → ℕ → Option ℕ
kept_at failing call = option_map (λ f. f.kept) (find (λ f. f.call == call) failing)

-- the files with these bytes at the name
abbrev pub with_file : List ℕ → List ℕ → Held → Held
with_file name bytes [] = (name, bytes) ∷ []
with_file name bytes (e ∷ es) = if bytes_eq name e.0 then (e.0, bytes) ∷ es else e ∷ with_file name bytes es

-- one more call
abbrev pub called : Store → Store
called s = record s { calls = count_up s.calls 1 }

-- a load of this name has failed
abbrev pub read_failed : List ℕ → Store → Store
read_failed name s = record s { failed = name; read_faults = count_up s.read_faults 1 }

-- a save of this name has failed
abbrev pub write_failed : List ℕ → Store → Store
write_failed name s = record s { failed = name; write_faults = count_up s.write_faults 1 }

-- a save has ended for want of memory
abbrev pub ran_short : Store → Store
ran_short s = record s { short_saves = count_up s.short_saves 1 }

-- a load has taken these bytes
abbrev pub took : List ℕ → Store → Store
took bytes s = record s { taken = count_up s.taken (length bytes) }

-- a save has left these bytes
abbrev pub left : List ℕ → List ℕ → Store → Store
left name bytes s = record s { held = with_file name bytes s.held }

-- a load fails exactly where it is to fail or the name is not held, and reads the file in all other calls; where memory runs out it leaves all as it was
abbrev pub Loads : List ℕ → ℕ → Store → Result (Vec ℕ Global) LoadError → Store → Type 0
Loads name limit old (Ok v) new =
    (kept_at old.failing old.calls ≡ None) × (file_at name old.held ≡ Some v.items)
    × (length v.items ≤ limit) × (new ≡ took v.items (called old))
Loads name limit old (Err load.TooLong) new =
    (kept_at old.failing old.calls ≡ None) × IsSomeAnd (file_at name old.held) (λ b. limit < length b) × (new ≡ called old)
Loads name limit old (Err load.Failed) new =
    (IsSome (kept_at old.failing old.calls) ⊎ (file_at name old.held ≡ None)) × (new ≡ read_failed name (called old))
Loads name limit old (Err (load.Memory e)) new = new ≡ old

-- a save fails exactly where it is to fail, and then leaves the first bytes, else all of them; where memory runs out it leaves this
abbrev pub SavesElse : (short : Store) → List ℕ → List ℕ → Store → Result Unit SaveError → Store → Type 0
SavesElse short name bytes old (Ok u) new = (kept_at old.failing old.calls ≡ None) × (new ≡ left name bytes (called old))
SavesElse short name bytes old (Err save.Failed) new =
    IsSomeAnd (kept_at old.failing old.calls) (λ kept. new ≡ write_failed name (left name (take kept bytes) (called old)))
SavesElse short name bytes old (Err (save.Memory e)) new = new ≡ short

-- where memory runs out all is as it was, but that the save is counted
abbrev pub Saves : List ℕ → List ℕ → Store → Result Unit SaveError → Store → Type 0
Saves name bytes old r new = SavesElse (ran_short old) name bytes old r new

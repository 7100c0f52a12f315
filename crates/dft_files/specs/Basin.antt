-- A sink in memory, with calls that fail on demand.
use Rattle.std.specs.Prelude.{◌≡◌, ◌++◌, ℕ, List, take, None, IsSomeAnd, Result, Ok, Err}
use Rattle.dft_files.specs.declared.failing.Failing.{Failing}
use Rattle.dft_files.specs.declared.outside.PutError.{PutError}
use Rattle.dft_files.specs.declared.outside.PutError.TheVariants as put
use Rattle.dft_files.specs.Store.{count_up, kept_at}

-- what a sink in memory is seen as: the bytes put so far, the calls that are to fail, and what has come to pass
pub record Basin : Type 0 where
  pub bytes : List ℕ
  pub failing : List Failing
  pub calls : ℕ
  pub faults : ℕ
  pub short_puts : ℕ

-- one more call, which has put these bytes
abbrev pub poured : List ℕ → Basin → Basin
poured bytes s = record s { bytes = s.bytes ++ bytes; calls = count_up s.calls 1 }

-- a call has failed
abbrev pub put_failed : Basin → Basin
put_failed s = record s { faults = count_up s.faults 1 }

-- a call has ended for want of memory
abbrev pub ran_short : Basin → Basin
ran_short s = record s { short_puts = count_up s.short_puts 1 }

-- a call fails exactly where it is to fail, and then puts the first bytes, else all of them; where memory runs out it leaves all as it was, but is counted
abbrev pub Puts : List ℕ → Basin → Result Unit PutError → Basin → Type 0
Puts bytes old (Ok u) new = (kept_at old.failing old.calls ≡ None) × (new ≡ poured bytes old)
Puts bytes old (Err put.Failed) new =
    IsSomeAnd (kept_at old.failing old.calls) (λ kept. new ≡ put_failed (poured (take kept bytes) old))
Puts bytes old (Err (put.Memory e)) new = new ≡ ran_short old

-- what a sink in memory that never fails is seen as: the bytes put so far, and how many calls have ended for want of memory
pub record Bytes : Type 0 where
  pub bytes : List ℕ
  pub short_puts : ℕ

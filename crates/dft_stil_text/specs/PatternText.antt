-- The patterns that a text stands for (IEEE 1450-1999, in a subset of its forms).
use Rattle.std.specs.Prelude.{◌≡◌, ℕ, zero, suc, ◌+◌, ◌-◌, Bool, true, false, ◌==◌, codes, [], map, Option, Some, None, replicate, length, slice_index_or, if◌then◌else◌, Result, Ok, Err}
use Rattle.std.specs.Str.{bytes_eq}
use Rattle.dft_base.specs.Lexing.{Text}
use Rattle.dft_base.specs.Parser.{pure, value_of, ◌>>=◌, ◌>>◌}
use Rattle.dft_stil_tokens.specs.declared.text.TokenKind.{TokenKind}
use Rattle.dft_stil_tokens.specs.declared.text.TokenKind.TheVariants as kind
use Rattle.dft_stil_tokens.specs.declared.text.Cause.TheVariants as cause
use Rattle.dft_stil_tokens.specs.declared.text.Fault.{Fault}
use Rattle.dft_patterns.specs.declared.act.Act.TheVariants as act
use Rattle.dft_patterns.specs.declared.steadiness.Unsteady.{Unsteady}
use Rattle.dft_stil_tokens.specs.Lexemes.{tokens}
use Rattle.dft_stil_tokens.specs.Steps.{Rule, kind_of, bytes, left, next, sees, refuse, mark_refusal, expect, eat_word, keyword, name, needed, fault}
use Rattle.dft_stil_text.specs.SignalGroups.{Names, signals_block, group_blocks, name_if_any}
use Rattle.dft_stil_text.specs.WaveformTables.{Timing, timing}
use Rattle.dft_stil_text.specs.Statements.{PatternBlock, statements_from}
use Rattle.dft_patterns.specs.Patterns.{Patterns}
use Rattle.dft_patterns.specs.Steadiness.{first_unsteady}

-- ---- the header

-- the version of the standard
unfoldable pub version : Rule Text
version = λ ts. if sees kind.Number ts then (if bytes_eq (bytes ts) (codes "1.0") then Ok (bytes ts, next ts) else refuse ts) else Err (mark_refusal ts)

-- Behind a token of a block: so many braces are open. Any token may stand there but a byte that no text has, and but the end.
abbrev pub depth_behind : TokenKind → ℕ → ℕ
depth_behind kind.OpenBrace depth = depth + 1
depth_behind kind.CloseBrace depth = depth - 1
depth_behind _ depth = depth

-- whether a token of this kind may not stand in a block
abbrev pub ends_block : TokenKind → Bool
ends_block kind.Illegal = true
ends_block kind.Unclosed = true
ends_block kind.End = true
ends_block _ = false

-- where a token is refused in a block: what the text does not close, at its end
abbrev pub block_place : TokenKind → ℕ → ℕ
block_place kind.Unclosed place = 0
block_place _ place = place

-- The tokens that are left of a block, in which so many braces are open. Texts in double quotes may have any bytes here.
unfoldable pub block_from : ℕ → (depth : ℕ) → Rule ℕ
block_from zero depth = refuse
block_from (suc n) depth = λ ts.
    if ends_block (kind_of ts) then Err (fault cause.Token (block_place (kind_of ts) (left ts)))
    else (if depth_behind (kind_of ts) depth == 0 then Ok (0, next ts) else block_from n (depth_behind (kind_of ts) depth) (next ts))

-- braces that balance
unfoldable pub block : Rule ℕ
block = do
  expect kind.OpenBrace
  λ ts. block_from (left ts) 1 ts

-- a block behind `Header`, if there is one
unfoldable pub header_if_any : Rule Bool
header_if_any = do
  found ← eat_word (codes "Header")
  if found then block >> pure true else pure false

-- ---- the burst

-- a burst and its pattern, by name
pub record Burst : Type 0 where
  pub name : Text
  pub pattern : Text

-- the one pattern that a burst lists
unfoldable pub listed_pattern : Rule Text
listed_pattern = do
  keyword (codes "PatList")
  expect kind.OpenBrace
  word ← name
  expect kind.Semicolon
  expect kind.CloseBrace
  pure word

-- the burst
unfoldable pub burst : Rule Burst
burst = do
  keyword (codes "PatternBurst")
  word ← name
  expect kind.OpenBrace
  pattern ← listed_pattern
  expect kind.CloseBrace
  pure (record { name = word; pattern = pattern })

-- ---- what is executed

-- whether a name was given so
abbrev pub is_named : Option Text → Text → Bool
is_named None word = false
is_named (Some known) word = bytes_eq known word

-- a name, which must be this one
unfoldable pub known_name : Option Text → Rule Text
known_name known = λ ts. (do
  word ← name
  needed (cause.Unknown word) (left ts) (is_named known word) (pure word)) ts

-- a name, if one comes next, which must be this one
unfoldable pub known_name_if_any : Option Text → Rule Bool
known_name_if_any known = λ ts. if sees kind.Semicolon ts then Ok (false, ts) else (known_name known >> pure true) ts

-- the block of tables that is used, if it is named
unfoldable pub used_timing : Timing → Rule Bool
used_timing t = do
  found ← eat_word (codes "Timing")
  if found then known_name_if_any t.name >> expect kind.Semicolon >> pure true else pure false

-- the burst that is executed, and the end of the block
unfoldable pub executed : Burst → Rule Bool
executed b = do
  keyword (codes "PatternBurst")
  known_name (Some b.name)
  expect kind.Semicolon
  expect kind.CloseBrace
  pure true

unfoldable pub exec : Timing → Burst → Rule Bool
exec t b = do
  keyword (codes "PatternExec")
  name_if_any
  expect kind.OpenBrace
  used_timing t
  executed b

-- ---- the pattern

-- a pattern of so many signals that has no vector yet
abbrev pub no_vector_of : ℕ → PatternBlock
no_vector_of count = record { table = None; acts = replicate count act.Unset; vectors = [] }

-- the pattern of the burst
unfoldable pub pattern : (most : ℕ) → Names → Timing → Burst → Rule PatternBlock
pattern most names t b = do
  keyword (codes "Pattern")
  known_name (Some b.pattern)
  expect kind.OpenBrace
  λ ts. statements_from (left ts) most names t.tables (no_vector_of (length names.signals)) ts

-- the burst, what is executed and the pattern, and no token behind
unfoldable pub pattern_part : (most : ℕ) → Names → Timing → Rule Patterns
pattern_part most names t = do
  b ← burst
  exec t b
  p ← pattern most names t b
  expect kind.End
  pure (record { signals = names.signals; vectors = p.vectors; notes = [] })

-- the tables, and all behind them
abbrev pub timed_part : (most : ℕ) → Names → Rule Patterns
timed_part most names = do
  t ← timing names
  pattern_part most names t

-- the signals and groups, and all behind them
abbrev pub named_part : (most : ℕ) → Rule Patterns
named_part most = do
  signals ← signals_block
  names ← group_blocks signals
  timed_part most names

-- the whole text
unfoldable pub stil_text : (most : ℕ) → Rule Patterns
stil_text most = do
  keyword (codes "STIL")
  version
  expect kind.Semicolon
  header_if_any
  named_part most

-- ---- what a reader gives

-- the first fault of a text; or else the vector in which a signal is not low that pulses in some vector, and its name
pub data Refusal : Type 0 where
  At : (fault : Fault) → Refusal
  Unsteadily : (vector : ℕ) → (name : Text) → Refusal

-- the name of a signal by number
abbrev pub name_of_signal : Patterns → ℕ → Text
name_of_signal p signal = slice_index_or (map (λ s. s.name) p.signals) signal []

-- the patterns, where their pulses are steady
abbrev pub steady_or : Patterns → Option Unsteady → Result Patterns Refusal
steady_or p None = Ok p
steady_or p (Some u) = Err (Unsteadily u.vector (name_of_signal p u.signal))

abbrev pub tested : Result Patterns Fault → Result Patterns Refusal
tested (Ok p) = steady_or p (first_unsteady p)
tested (Err f) = Err (At f)

-- What a reader gives that takes so many vectors at most: the patterns of a text, or why it is refused. Pulses are tested behind the whole text.
unfoldable pub patterns_in : (most : ℕ) → Text → Result Patterns Refusal
patterns_in most text = tested (value_of (stil_text most (tokens text)))

-- The text stands for these patterns, however many vectors they have: it is read as them where there may be so many.
abbrev pub StandsFor : Text → Patterns → Type 0
StandsFor text p = patterns_in (length p.vectors) text ≡ Ok p

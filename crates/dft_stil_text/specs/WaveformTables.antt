-- The tables of waveforms of a pattern text (IEEE 1450-1999 `Timing`).
use Rattle.std.specs.Prelude.{ℕ, zero, suc, ◌+◌, ◌*◌, Bool, not, codes, List, [], ◌∷◌, ◌++◌, map, length, Option, Some, None, is_some, slice_index_or, slice_set, get_or, replicate, if◌then◌else◌, Ok, Err}
use Rattle.std.specs.List.{list_any, list_all}
use Rattle.dft_base.specs.Lexing.{Text}
use Rattle.dft_base.specs.Parser.{pure, ◌>>=◌, ◌>>◌}
use Rattle.dft_base.specs.declared.dir.Dir.{Dir}
use Rattle.dft_base.specs.declared.dir.Dir.TheVariants as dir
use Rattle.dft_stil_tokens.specs.declared.text.TokenKind.TheVariants as kind
use Rattle.dft_stil_tokens.specs.declared.text.Cause.TheVariants as cause
use Rattle.dft_patterns.specs.declared.act.Act.{Act}
use Rattle.dft_patterns.specs.declared.shapes.Event.{Event}
use Rattle.dft_patterns.specs.declared.shapes.Drawing.{Drawing}
use Rattle.dft_patterns.specs.declared.shapes.Drawing.TheVariants as drawing
use Rattle.dft_patterns.specs.Drawings.{begins_shape, extended, act_of_events, act_drawn}
use Rattle.dft_patterns.specs.Times.{no_times, with_times, times_fit}
use Rattle.dft_patterns.specs.declared.times.Times.{Times}
use Rattle.dft_stil_tokens.specs.Steps.{Rule, left, refuse, expect, eat, keyword, name, needed, next, sees, unsupported, one_character, one_letter, single, small_number, unit}
use Rattle.dft_stil_text.specs.SignalGroups.{Names, given, elsewhere, is_declared, name_if_any}

-- ---- tables

-- What each of 256 characters means for each signal, one signal after the other: nothing, or what it does.
pub record Waveforms : Type 0 where
  pub acts : List (Option Act)

-- the place of a signal and a character
abbrev pub place_of_character : (signal character : ℕ) → ℕ
place_of_character signal c = signal * 256 + c

-- what a character means for a signal
abbrev pub act_of : Waveforms → (signal character : ℕ) → Option Act
act_of waveforms signal c = get_or waveforms.acts (place_of_character signal c) None

-- no waveform of so many signals
abbrev pub no_waveforms : ℕ → Waveforms
no_waveforms count = record { acts = replicate (count * 256) None }

-- a waveform more, for each of these signals
abbrev pub with_waveform : List ℕ → ℕ → Act → Waveforms → Waveforms
with_waveform [] c a waveforms = waveforms
with_waveform (signal ∷ signals) c a waveforms = with_waveform signals c a (record { acts = slice_set waveforms.acts (place_of_character signal c) (Some a) })

-- whether some of these signals has a waveform for this character
abbrev pub is_given : Waveforms → List ℕ → ℕ → Bool
is_given waveforms signals c = list_any (λ signal. is_some (act_of waveforms signal c)) signals

-- a table so far
pub record WaveformTable : Type 0 where
  pub waveforms : Waveforms
  pub times : Times

-- a table without waveforms of so many signals
abbrev pub empty_table : ℕ → WaveformTable
empty_table count = record { waveforms = no_waveforms count; times = no_times }

-- a waveform more of a table, for each of these signals
abbrev pub drawn : List ℕ → ℕ → Act → Drawing → WaveformTable → WaveformTable
drawn signals character a d t = record { waveforms = with_waveform signals character a t.waveforms; times = with_times d t.times }

-- ---- rules

-- a time between single quotes, in picoseconds
unfoldable pub time : Rule ℕ
time = do
  expect kind.Quote
  value ← small_number
  worth ← unit
  expect kind.Quote
  pure (value * worth)

-- the direction of a signal by its number
abbrev pub dir_of : Names → ℕ → Dir
dir_of names n = slice_index_or (map (λ s. s.dir) names.signals) n dir.Input

-- whether these events begin a waveform of each of these signals
abbrev pub begin_all : Names → List ℕ → Drawing → Bool
begin_all names signals d = list_all (λ n. begins_shape (dir_of names n) d) signals

-- a letter at a time
abbrev pub event_at : (letter time : ℕ) → Event
event_at l time = record { letter = l; time = time }

-- Takes the letter of an event at a time, with which the events so far must begin a waveform of each of these signals. What follows it in its token
-- is refused behind that.
unfoldable pub event_letter : Names → List ℕ → Drawing → (time : ℕ) → Rule Drawing
event_letter names signals d time = λ ts. (do
  l ← one_letter
  needed (cause.Unsupported (l ∷ [])) (left ts) (begin_all names signals (extended d (event_at l time))) (do
    single
    pure (extended d (event_at l time)))) ts

-- an event more
unfoldable pub event : Names → List ℕ → Drawing → Rule Drawing
event names signals d = do
  at ← time
  more ← event_letter names signals d at
  expect kind.Semicolon
  pure more

-- the brace that ends a waveform, which may not come too early
abbrev pub waveform_end : Drawing → Option Act → Rule Drawing
waveform_end d None = λ ts. Err (unsupported ts)
waveform_end d (Some a) = λ ts. Ok (d, next ts)

-- the events that are left of a waveform, and its brace
unfoldable pub events_from : ℕ → Names → List ℕ → Drawing → Rule Drawing
events_from zero names signals d = refuse
events_from (suc n) names signals d = λ ts.
    if sees kind.CloseBrace ts then waveform_end d (act_of_events d) ts else (event names signals d >>= (λ more. events_from n names signals more)) ts

-- A waveform of these signals: a character, which none of them may have so far, and its events. What follows the character in its token is refused
-- behind that.
unfoldable pub waveform : Names → List ℕ → WaveformTable → Rule WaveformTable
waveform names signals t = λ ts. (do
  c ← one_character
  needed (cause.Taken (c ∷ [])) (left ts) (not (is_given t.waveforms signals c)) (do
    single
    expect kind.OpenBrace
    d ← λ us. events_from (left us) names signals drawing.Begun us
    pure (drawn signals c (act_drawn d) d t))) ts

-- the waveforms that are left of some signals
unfoldable pub waveforms_from : ℕ → Names → List ℕ → WaveformTable → Rule WaveformTable
waveforms_from zero names signals t = refuse
waveforms_from (suc n) names signals t = do
  end ← eat kind.CloseBrace
  if end then pure t else (do
    more ← waveform names signals t
    waveforms_from n names signals more)

-- the name of signals, and their waveforms
unfoldable pub signal_waveforms : Names → WaveformTable → Rule WaveformTable
signal_waveforms names t = λ ts. (do
  word ← name
  given word (left ts) (elsewhere names word) (λ m. do
    expect kind.OpenBrace
    λ us. waveforms_from (left us) names m.signals t us)) ts

-- the waveforms that are left of a table
unfoldable pub signal_waveforms_from : ℕ → Names → WaveformTable → Rule WaveformTable
signal_waveforms_from zero names t = refuse
signal_waveforms_from (suc n) names t = do
  end ← eat kind.CloseBrace
  if end then pure t else (do
    more ← signal_waveforms names t
    signal_waveforms_from n names more)

-- the last brace of a table with this period, whose times must fit
abbrev pub table_end : ℕ → WaveformTable → Rule Waveforms
table_end period t = λ ts. (expect kind.CloseBrace >> needed cause.Times (left ts) (times_fit period t.times) (pure t.waveforms)) ts

-- the waveforms of a table with this period
abbrev pub waveforms_block : Names → ℕ → Rule Waveforms
waveforms_block names period = do
  keyword (codes "Waveforms")
  expect kind.OpenBrace
  t ← λ ts. signal_waveforms_from (left ts) names (empty_table (length names.signals)) ts
  table_end period t

-- what stands in a table: a period, and waveforms
unfoldable pub table_body : Names → Rule Waveforms
table_body names = do
  expect kind.OpenBrace
  keyword (codes "Period")
  period ← time
  expect kind.Semicolon
  waveforms_block names period

-- the tables so far, by name
pub record WaveformTables : Type 0 where
  pub names : List Text
  pub waveforms : List Waveforms

-- no table
abbrev pub no_tables : WaveformTables
no_tables = record { names = []; waveforms = [] }

-- a table more
abbrev pub with_table : WaveformTables → Text → Waveforms → WaveformTables
with_table tables word waveforms = record { names = tables.names ++ word ∷ []; waveforms = tables.waveforms ++ waveforms ∷ [] }

-- a table, whose name no other may have so far
unfoldable pub waveform_table : Names → WaveformTables → Rule WaveformTables
waveform_table names tables = do
  keyword (codes "WaveformTable")
  λ ts. (do
    word ← name
    needed (cause.Taken word) (left ts) (not (is_declared tables.names word)) (do
      waveforms ← table_body names
      pure (with_table tables word waveforms))) ts

-- the tables that are left of the block
unfoldable pub waveform_tables_from : ℕ → Names → WaveformTables → Rule WaveformTables
waveform_tables_from zero names tables = refuse
waveform_tables_from (suc n) names tables = do
  end ← eat kind.CloseBrace
  if end then pure tables else (do
    more ← waveform_table names tables
    waveform_tables_from n names more)

-- the block of tables: its name, if it has one, and the tables
pub record Timing : Type 0 where
  pub name : Option Text
  pub tables : WaveformTables

-- the block of tables
unfoldable pub timing : Names → Rule Timing
timing names = do
  keyword (codes "Timing")
  word ← name_if_any
  expect kind.OpenBrace
  tables ← λ ts. waveform_tables_from (left ts) names no_tables ts
  pure (record { name = word; tables = tables })

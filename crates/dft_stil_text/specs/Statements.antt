-- The statements of a pattern (IEEE 1450-1999 `Pattern`).
use Rattle.std.specs.Prelude.{ℕ, zero, suc, ◌-◌, Bool, true, false, not, ◌&&◌, ◌||◌, nat_lt, codes, List, [], ◌∷◌, ◌++◌, length, Option, Some, None, slice_set, slice_get, option_and_then, if◌then◌else◌, Ok, Err}
use Rattle.std.specs.List.{list_any}
use Rattle.std.specs.Char.{is_ascii_alphanumeric}
use Rattle.dft_base.specs.Lexing.{Text}
use Rattle.dft_base.specs.Parser.{pure, Checked, ◌>>=◌, ◌>>◌}
use Rattle.dft_stil_tokens.specs.declared.text.TokenKind.TheVariants as kind
use Rattle.dft_stil_tokens.specs.declared.text.Cause.TheVariants as cause
use Rattle.dft_stil_tokens.specs.declared.text.Fault.{Fault}
use Rattle.dft_patterns.specs.declared.act.Act.{Act}
use Rattle.dft_stil_tokens.specs.Lexemes.{Token}
use Rattle.dft_stil_tokens.specs.Steps.{Rule, bytes, left, next, sees, sees_word, sees_left_out, refuse, no_token, unsupported, expect, eat, keyword, name, needed, fault, checked}
use Rattle.dft_stil_text.specs.SignalGroups.{Names, Members, number_of, given, elsewhere, has_signal}
use Rattle.dft_stil_text.specs.WaveformTables.{Waveforms, WaveformTables, act_of}

-- A pattern so far: the table of the last `W`, by number, the acts of the last vector, and the vectors.
pub record PatternBlock : Type 0 where
  pub table : Option ℕ
  pub acts : List Act
  pub vectors : List (List Act)

-- ---- characters

-- Characters so far: the acts of the vector, and the signals that have no character yet; and whether there was one more than signals.
pub record Filling : Type 0 where
  pub acts : List Act
  pub ahead : List ℕ
  pub over : Bool

-- what a character means for a signal in a table, if there is one
abbrev pub act_in : Option Waveforms → ℕ → ℕ → Option Act
act_in None signal c = None
act_in (Some waveforms) signal c = act_of waveforms signal c

-- the waveforms of a table by number, if there is one
abbrev pub waveforms_at : WaveformTables → Option ℕ → Option Waveforms
waveforms_at tables number = option_and_then (λ n. slice_get tables.waveforms n) number

-- the next signal does this; a character without a waveform is refused at its place
abbrev pub with_next_act : ℕ → ℕ → List ℕ → Option Act → Filling → Checked Fault Filling
with_next_act place signal signals None f = Err (fault cause.NoWaveform place)
with_next_act place signal signals (Some a) f = Ok (record f { acts = slice_set f.acts signal a; ahead = signals })

-- one character more
abbrev pub filled : Option Waveforms → ℕ → ℕ → List ℕ → Filling → Checked Fault Filling
filled t place c [] f = Ok (record f { over = true })
filled t place c (signal ∷ signals) f = with_next_act place signal signals (act_in t signal c) f

-- what is refused, or the next characters
abbrev pub and_filled : Checked Fault Filling → (Filling → Checked Fault Filling) → Checked Fault Filling
and_filled (Ok f) more = more f
and_filled (Err e) more = Err e

-- these characters more, which begin at this place; a byte that is no letter and no digit fits no rule
abbrev pub filled_by : Option Waveforms → ℕ → Text → Filling → Checked Fault Filling
filled_by t place [] f = Ok f
filled_by t place (c ∷ cs) f =
    if is_ascii_alphanumeric c then and_filled (filled t place c f.ahead f) (filled_by t (place - 1) cs) else Err (fault cause.Token place)

-- whether characters come next
unfoldable pub sees_characters : List Token → Bool
sees_characters ts = sees kind.Word ts || sees kind.Number ts

-- what comes next in place of characters fits no rule; a backslash is left out by the profile
unfoldable pub characters_refusal : List Token → Fault
characters_refusal ts = if sees kind.Backslash ts then unsupported ts else no_token ts

-- one run of characters
unfoldable pub run_of_characters : Option Waveforms → Filling → Rule Filling
run_of_characters t f = λ ts.
    if sees_characters ts then checked (filled_by t (left ts) (bytes ts) f) (next ts) else Err (characters_refusal ts)

-- the runs of characters that are left, and the semicolon
unfoldable pub runs_from : ℕ → Option Waveforms → Filling → Rule Filling
runs_from zero t f = refuse
runs_from (suc n) t f = do
  more ← run_of_characters t f
  λ ts. if sees kind.Semicolon ts then Ok (more, ts) else runs_from n t more ts

-- whether there was a character for each signal, and no more
abbrev pub is_full : Filling → Bool
is_full f = not f.over && not (list_any (λ n. true) f.ahead)

-- the characters of some signals, and the semicolon behind them, where their number is tested
unfoldable pub characters : Option Waveforms → List ℕ → List Act → Rule (List Act)
characters t signals acts = do
  f ← λ ts. runs_from (left ts) t (record { acts = acts; ahead = signals; over = false }) ts
  λ ts. (expect kind.Semicolon >> needed cause.Count (left ts) (is_full f) (pure f.acts)) ts

-- ---- vectors

-- A vector so far: its acts, and which signals it mentions.
pub record VectorStatement : Type 0 where
  pub acts : List Act
  pub told : ℕ → Bool

-- a vector that mentions no signal, behind one with these acts
abbrev pub vector_after : List Act → VectorStatement
vector_after acts = record { acts = acts; told = λ _. false }

-- whether a vector mentions one of these signals, or they mention one twice
abbrev pub is_told : VectorStatement → Members → Bool
is_told v m = m.repeated || list_any v.told m.signals

-- what is told where these signals are too
abbrev pub with_told : List ℕ → (ℕ → Bool) → ℕ → Bool
with_told signals told = λ n. has_signal signals n || told n

-- the name of signals, none of which the vector may mention so far, and their characters
unfoldable pub assignment : Names → Option Waveforms → VectorStatement → Rule VectorStatement
assignment names t v = λ ts. (do
  word ← name
  given word (left ts) (elsewhere names word) (λ m. needed (cause.Taken word) (left ts) (not (is_told v m)) (do
    expect kind.Equals
    acts ← characters t m.signals v.acts
    pure (record { acts = acts; told = with_told m.signals v.told })))) ts

-- the assignments that are left of a vector
unfoldable pub assignments_from : ℕ → Names → Option Waveforms → VectorStatement → Rule VectorStatement
assignments_from zero names t v = refuse
assignments_from (suc n) names t v = do
  end ← eat kind.CloseBrace
  if end then pure v else (do
    more ← assignment names t v
    assignments_from n names t more)

-- a vector more, with these acts
abbrev pub with_acts : List Act → PatternBlock → PatternBlock
with_acts acts p = record p { acts = acts; vectors = p.vectors ++ acts ∷ [] }

-- `V` and its assignments. There may be so many vectors at most.
unfoldable pub vector : (most : ℕ) → Names → WaveformTables → PatternBlock → Rule PatternBlock
vector most names tables p = λ ts. (do
  keyword (codes "V")
  needed cause.Count (left ts) (nat_lt (length p.vectors) most) (do
    expect kind.OpenBrace
    v ← λ us. assignments_from (left us) names (waveforms_at tables p.table) (vector_after p.acts) us
    pure (with_acts v.acts p))) ts

-- ---- statements

-- the table with this number is used from here on, if there is one
abbrev pub using_table : Text → ℕ → PatternBlock → Option ℕ → Rule PatternBlock
using_table word place p None = λ ts. Err (fault (cause.Unknown word) place)
using_table word place p (Some n) = pure (record p { table = Some n })

-- the name of a table, and a semicolon
unfoldable pub table_used : WaveformTables → PatternBlock → Rule PatternBlock
table_used tables p = λ ts. (do
  word ← name
  more ← using_table word (left ts) p (number_of tables.names word)
  expect kind.Semicolon
  pure more) ts

-- a label, and a vector
unfoldable pub labelled : (most : ℕ) → Names → WaveformTables → PatternBlock → Rule PatternBlock
labelled most names tables p = do
  name
  expect kind.Colon
  vector most names tables p

-- a statement: `W` without quotes, `V` without quotes, or a label
unfoldable pub statement : (most : ℕ) → Names → WaveformTables → PatternBlock → Rule PatternBlock
statement most names tables p = λ ts.
    if sees_word (codes "W") ts then table_used tables p (next ts)
    else (if sees_word (codes "V") ts then vector most names tables p ts
    else (if sees_left_out ts then Err (unsupported ts) else labelled most names tables p ts))

-- the statements that are left of a pattern
unfoldable pub statements_from : ℕ → (most : ℕ) → Names → WaveformTables → PatternBlock → Rule PatternBlock
statements_from zero most names tables p = refuse
statements_from (suc n) most names tables p = do
  end ← eat kind.CloseBrace
  if end then pure p else (do
    more ← statement most names tables p
    statements_from n most names tables more)

-- The signals and groups of a pattern text (IEEE 1450-1999 `Signals` and `SignalGroups`).
use Rattle.std.specs.Prelude.{ℕ, zero, suc, Bool, true, false, not, ◌||◌, ◌==◌, codes, List, [], ◌∷◌, ◌++◌, map, position, slice_get, option_and_then, Option, Some, None, option_map, is_some, if◌then◌else◌, Ok, Err}
use Rattle.std.specs.List.{list_any}
use Rattle.std.specs.Str.{bytes_eq}
use Rattle.dft_base.specs.Lexing.{Text}
use Rattle.dft_base.specs.Parser.{pure, ◌>>=◌, ◌>>◌}
use Rattle.dft_base.specs.declared.dir.Dir.{Dir}
use Rattle.dft_base.specs.declared.dir.Dir.TheVariants as dir
use Rattle.dft_stil_tokens.specs.declared.text.TokenKind.TheVariants as kind
use Rattle.dft_stil_tokens.specs.declared.text.Cause.TheVariants as cause
use Rattle.dft_patterns.specs.declared.signal.StilSignal.{StilSignal}
use Rattle.dft_stil_tokens.specs.Lexemes.{Token}
use Rattle.dft_stil_tokens.specs.Steps.{Rule, left, next, sees_word, sees_name, refuse, keyword_refusal, expect, eat, after_word, keyword, name, needed, fault}

-- the signals that a name stands for, by number: each once, in the order of its first mention; and whether one was mentioned twice
pub record Members : Type 0 where
  pub signals : List ℕ
  pub repeated : Bool

-- the signals so far; the names of the groups so far, and what they stand for
pub record Names : Type 0 where
  pub signals : List StilSignal
  pub group_names : List Text
  pub groups : List Members

-- nothing so far
abbrev pub no_names : Names
no_names = record { signals = []; group_names = []; groups = [] }

-- the number of a name among these
abbrev pub number_of : List Text → Text → Option ℕ
number_of names word = position (λ known. bytes_eq known word) names

-- whether a name is among these
abbrev pub is_declared : List Text → Text → Bool
is_declared names word = is_some (number_of names word)

-- the names of signals
abbrev pub names_of_signals : List StilSignal → List Text
names_of_signals signals = map (λ s. s.name) signals

-- no signal
abbrev pub no_members : Members
no_members = record { signals = []; repeated = false }

-- one signal alone
abbrev pub one_signal : ℕ → Members
one_signal n = record { signals = n ∷ []; repeated = false }

-- the members that are told first, if there are any, or else those that are told second
abbrev pub either : Option Members → Option Members → Option Members
either (Some m) other = Some m
either None other = other

-- the signal of a name
abbrev pub as_signal : Names → Text → Option Members
as_signal names word = option_map one_signal (number_of (names_of_signals names.signals) word)

-- the signals of a group's name
abbrev pub as_group : Names → Text → Option Members
as_group names word = option_and_then (λ n. slice_get names.groups n) (number_of names.group_names word)

-- what a name means in a group's list: the signal before the group
abbrev pub in_list : Names → Text → Option Members
in_list names word = either (as_signal names word) (as_group names word)

-- what a name means elsewhere: the group before the signal
abbrev pub elsewhere : Names → Text → Option Members
elsewhere names word = either (as_group names word) (as_signal names word)

-- whether a number is among these
abbrev pub has_signal : List ℕ → ℕ → Bool
has_signal ns n = list_any (λ m. m == n) ns

-- one signal more
abbrev pub with_signal : Members → ℕ → Members
with_signal m n = if has_signal m.signals n then record m { repeated = true } else record m { signals = m.signals ++ n ∷ [] }

-- these signals more
abbrev pub with_signals : Members → List ℕ → Members
with_signals m [] = m
with_signals m (n ∷ ns) = with_signals (with_signal m n) ns

-- the signals of two, one behind the other
abbrev pub with_members : Members → Members → Members
with_members m other = record (with_signals m other.signals) { repeated = (with_signals m other.signals).repeated || other.repeated }

-- the members of a name, which must have been given
abbrev pub given : {A : Type 0} → Text → ℕ → Option Members → (Members → Rule A) → Rule A
given word place None rule = λ ts. Err (fault (cause.Unknown word) place)
given word place (Some m) rule = rule m

-- ---- signals

-- `In` or `Out`
unfoldable pub direction : Rule Dir
direction = λ ts.
    if sees_word (codes "In") ts then Ok (dir.Input, next ts)
    else (if sees_word (codes "Out") ts then Ok (dir.Output, next ts) else Err (keyword_refusal ts))

-- one signal more
abbrev pub with_new_signal : Names → Text → Dir → Names
with_new_signal names word d = record names { signals = names.signals ++ record { name = word; dir = d } ∷ [] }

-- a name, which no signal may have so far, and its direction
unfoldable pub signal : Names → Rule Names
signal names = λ ts. (do
  word ← name
  needed (cause.Taken word) (left ts) (not (is_declared (names_of_signals names.signals) word)) (do
    d ← direction
    expect kind.Semicolon
    pure (with_new_signal names word d))) ts

-- the signals that are left of a block. Each takes a byte at least.
unfoldable pub signals_from : ℕ → Names → Rule Names
signals_from zero names = refuse
signals_from (suc n) names = do
  end ← eat kind.CloseBrace
  if end then pure names else (do
    more ← signal names
    signals_from n more)

-- the block of the signals
unfoldable pub signals_block : Rule Names
signals_block = do
  keyword (codes "Signals")
  expect kind.OpenBrace
  λ ts. signals_from (left ts) no_names ts

-- ---- groups

-- one name of a group's list
unfoldable pub member : Names → Rule Members
member names = λ ts. (do
  word ← name
  given word (left ts) (in_list names word) pure) ts

-- the names that are left of a group's list
unfoldable pub members_from : ℕ → Names → Members → Rule Members
members_from zero names m = refuse
members_from (suc n) names m = do
  plus ← eat kind.Plus
  if plus then (do
    more ← member names
    members_from n names (with_members m more)) else pure m

-- a group's list
unfoldable pub members : Names → Rule Members
members names = do
  first ← member names
  λ ts. members_from (left ts) names (with_members no_members first) ts

-- one group more
abbrev pub with_group : Names → Text → Members → Names
with_group names word m = record names { group_names = names.group_names ++ word ∷ []; groups = names.groups ++ m ∷ [] }

-- a name, which no group may have so far, and its list
unfoldable pub group : Names → Rule Names
group names = λ ts. (do
  word ← name
  needed (cause.Taken word) (left ts) (not (is_declared names.group_names word)) (do
    expect kind.Equals
    expect kind.Quote
    m ← members names
    expect kind.Quote
    expect kind.Semicolon
    pure (with_group names word m))) ts

-- the groups that are left of a block
unfoldable pub groups_from : ℕ → Names → Rule Names
groups_from zero names = refuse
groups_from (suc n) names = do
  end ← eat kind.CloseBrace
  if end then pure names else (do
    more ← group names
    groups_from n more)

-- a name, if one comes next
unfoldable pub name_if_any : Rule (Option Text)
name_if_any = λ ts. if sees_name ts then (name >>= (λ word. pure (Some word))) ts else Ok (None, ts)

-- the groups of a block, whose name may come first
unfoldable pub group_block : Names → Rule Names
group_block names = do
  name_if_any
  expect kind.OpenBrace
  λ ts. groups_from (left ts) names ts

-- whether a block of groups comes next, and the tokens behind its keyword
unfoldable pub sees_groups : List Token → Bool
sees_groups ts = sees_word (codes "SignalGroups") ts

unfoldable pub after_groups : List Token → List Token
after_groups ts = after_word (codes "SignalGroups") ts

-- the blocks of groups that are left
unfoldable pub group_blocks_from : ℕ → Names → Rule Names
group_blocks_from zero names = refuse
group_blocks_from (suc n) names = do
  more ← λ ts. Ok (sees_groups ts, after_groups ts)
  if more then (do
    grown ← group_block names
    group_blocks_from n grown) else pure names

-- all blocks of groups
unfoldable pub group_blocks : Names → Rule Names
group_blocks names = λ ts. group_blocks_from (left ts) names ts

-- Expressions of netlist texts: names, bit-selects, part-selects, constants and concatenations (IEEE 1364).
use Rattle.std.specs.Prelude.{ℕ, zero, suc, ◌+◌, ◌-◌, ◌/◌, ◌%◌, ◌^◌, Bool, true, false, not, ◌&&◌, ◌||◌, ◌==◌, nat_le, nat_lt, if◌then◌else◌, List, [], ◌∷◌, ◌++◌, length, map, filter, find, Option, Some, None, Ok, Err, slice_index}
use Rattle.std.specs.List.{list_all}
use Rattle.std.specs.Char.{is_digit}
use Rattle.std.specs.Str.Parse.{digits_value}
use Rattle.dft_base.specs.declared.place.Range.{Range}
use Rattle.dft_base.specs.Lexing.{Text}
use Rattle.dft_base.specs.Parser.{Checked, pure, ◌>>=◌, ◌>>◌}
use Rattle.dft_base.specs.Words.{is_reserved}
use Rattle.dft_base.specs.Ranges.{going_up, width, has_index, place_in, has_part}
use Rattle.dft_netlist.specs.declared.instance.Signal.{Signal}
use Rattle.dft_netlist.specs.declared.instance.Signal.TheVariants as signal
use Rattle.dft_netlist_text.specs.declared.text.TokenKind.{TokenKind}
use Rattle.dft_netlist_text.specs.declared.text.TokenKind.TheVariants as kind
use Rattle.dft_netlist_text.specs.declared.text.Cause.{Cause}
use Rattle.dft_netlist_text.specs.declared.text.Cause.TheVariants as cause
use Rattle.dft_netlist_text.specs.declared.text.Fault.{Fault}
use Rattle.dft_netlist_text.specs.declared.text.Shape.{Shape}
use Rattle.dft_netlist_text.specs.declared.text.Meaning.{Meaning}
use Rattle.dft_netlist_text.specs.declared.text.Meaning.TheVariants as meaning
use Rattle.dft_netlist_text.specs.declared.text.Declared.{Declared}
use Rattle.dft_netlist_text.specs.declared.text.Select.{Select}
use Rattle.dft_netlist_text.specs.declared.text.Select.TheVariants as select
use Rattle.dft_netlist_text.specs.declared.text.Site.{Site}
use Rattle.dft_netlist_text.specs.declared.text.Site.TheVariants as site
use Rattle.dft_netlist_text.specs.Steps.{Rule, kind_of, left, next, sees, refuse, expect, fault, needed, checked}
use Rattle.dft_netlist_text.specs.Modules.{Draft, meaning_of, declared_at, declare_nets}

-- ---- numbers

-- a number of at most five digits that is at most 65,535
abbrev pub small_number : Text → Option ℕ
small_number word = if nat_le (length word) 5 && nat_le (digits_value 10 word) 65535 then Some (digits_value 10 word) else None

-- a number that is there; another is refused at this place as too large
abbrev pub unless_too_large : {A : Type 0} → ℕ → Option A → Rule A
unless_too_large place (Some a) = pure a
unless_too_large place None = λ ts. Err (fault cause.TooLarge place)

-- a number; one that is too large is refused at itself
unfoldable pub number : Rule ℕ
number = λ ts. (expect kind.Number >>= (λ word. unless_too_large (left ts) (small_number word))) ts

-- two numbers with a colon between them, in brackets: the bracket that opens is passed before
unfoldable pub rest_of_range : ℕ → Rule Range
rest_of_range first = do
  expect kind.Colon
  second ← number
  expect kind.CloseBracket
  pure (record { left = first; right = second })

-- a range in brackets
unfoldable pub range : Rule Range
range = do
  expect kind.OpenBracket
  first ← number
  rest_of_range first

-- a range, or none
unfoldable pub range_if_any : Rule (Option Range)
range_if_any = λ ts. if sees kind.OpenBracket ts then (range >>= (λ r. pure (Some r))) ts else Ok (None, ts)

-- ---- constants

-- the radix of a base's letter
abbrev pub radix : Text → ℕ
radix base =
    if slice_index base 1 == 98 || slice_index base 1 == 66 then 2
    else (if slice_index base 1 == 111 || slice_index base 1 == 79 then 8
    else (if slice_index base 1 == 100 || slice_index base 1 == 68 then 10 else 16))

-- the digits without `_`
abbrev pub bare_digits : Text → Text
bare_digits word = filter (λ b. not (b == 95)) word

-- a digit that stands for an unknown or open bit
abbrev pub is_unknown_digit : ℕ → Bool
is_unknown_digit b = b == 120 || b == 88 || b == 122 || b == 90

-- why digits are refused, by the first that the radix has not; there must be one at least
abbrev pub cause_of_digit : Text → Option ℕ → Option Cause
cause_of_digit word None = if list_all (λ b. b == 95) word then Some cause.Token else None
cause_of_digit word (Some b) = Some (if is_unknown_digit b then cause.Unsupported word else cause.Token)

-- Why digits are refused: a reserved word, the first digit that the radix has not, or no digit at all.
abbrev pub cause_of_digits : (radix : ℕ) → Text → Option Cause
cause_of_digits radix word = if is_reserved word then Some (cause.Unsupported word) else cause_of_digit word (find (λ b. not (is_digit b radix)) (bare_digits word))

-- the value of digits that is below 2^128
abbrev pub value_of_digits : (radix : ℕ) → Text → Option ℕ
value_of_digits radix word = if nat_lt (digits_value radix (bare_digits word)) (2 ^ 128) then Some (digits_value radix (bare_digits word)) else None

-- the bits of a value, leftmost first: cut to the size, or extended with zeros
abbrev pub bits_of_value : (size : ℕ) → ℕ → List Bool
bits_of_value zero value = []
bits_of_value (suc place) value = (value / 2 ^ place % 2 == 1) ∷ bits_of_value place value

-- no cause, or a fault
abbrev pub unless_cause : {A : Type 0} → ℕ → Option Cause → Rule A → Rule A
unless_cause place None rule = rule
unless_cause place (Some why) rule = λ ts. Err (fault why place)

-- the digits behind a base, as bits of this size; they are refused at themselves
unfoldable pub digits : (size radix : ℕ) → Rule (List Bool)
digits size radix = λ ts. (do
  word ← expect kind.Digits
  unless_cause (left ts) (cause_of_digits radix word) (unless_too_large (left ts) (value_of_digits radix word) >>= (λ value. pure (bits_of_value size value)))) ts

-- a size is at least 1 and at most 128
unfoldable pub constant : Rule (List Bool)
constant = λ ts. (number >>= (λ size. needed cause.Misfit (left ts) (nat_lt 0 size) (needed cause.TooLarge (left ts) (nat_le size 128) (do
  base ← expect kind.Base
  digits size (radix base))))) ts

-- ---- names

-- the bits of nets, leftmost first
abbrev pub nets_of_shape : ℕ → ℕ → List Signal
nets_of_shape first count = map (λ net. signal.Net (record { 0 = net })) (going_up first count)

-- what is selected of nets with this range, if it is there
abbrev pub selected_of_vector : Shape → Range → Select → Option (List Signal)
selected_of_vector s r select.Whole = Some (nets_of_shape s.first.0 (width r))
selected_of_vector s r (select.Bit index) = if has_index r index then Some (nets_of_shape (s.first.0 + place_in r index) 1) else None
selected_of_vector s r (select.Part part) = if has_part r part then Some (nets_of_shape (s.first.0 + place_in r part.left) (suc (place_in r part.right - place_in r part.left))) else None

-- what is selected of a scalar, which has no bits and parts
abbrev pub selected_of_scalar : Shape → Select → Option (List Signal)
selected_of_scalar s select.Whole = Some (nets_of_shape s.first.0 1)
selected_of_scalar s (select.Bit index) = None
selected_of_scalar s (select.Part part) = None

-- what is selected of nets, with or without a range
abbrev pub selected_in : Shape → Select → Option Range → Option (List Signal)
selected_in s what None = selected_of_scalar s what
selected_in s what (Some r) = selected_of_vector s r what

-- what is selected of the nets of a name
abbrev pub selected : Shape → Select → Option (List Signal)
selected s what = selected_in s what s.range

-- whether all of a name is selected
abbrev pub is_whole : Select → Bool
is_whole select.Whole = true
is_whole (select.Bit index) = false
is_whole (select.Part part) = false

-- whether a name that was not declared is a net from here on: at a pin, at a terminal, and as a whole left side
abbrev pub implies : Site → (depth : ℕ) → Bool
implies (site.Pin drives) depth = true
implies (site.Terminal drives) depth = true
implies site.Target depth = depth == 0
implies site.Source depth = false

-- whether a constant would be driven here
abbrev pub drives : Site → Bool
drives (site.Pin d) = d
drives (site.Terminal d) = d
drives site.Target = true
drives site.Source = false

-- a name with its selection and its place
pub record SelectedName : Type 0 where
  pub word : Text
  pub what : Select
  pub place : ℕ

-- the draft after an operand, and the operand's bits
abbrev pub Operand : Type 0
Operand = Draft × List Signal

-- bits that are there, or a selection that does not fit
abbrev pub fitting : ℕ → Draft → Option (List Signal) → Checked Fault Operand
fitting place d None = Err (fault cause.Misfit place)
fitting place d (Some bits) = Ok (d, bits)

-- the net that a name stands for which was declared just now
abbrev pub implied_net : SelectedName → Draft → Checked Fault Draft → Checked Fault Operand
implied_net named old (Err f) = Err f
implied_net named old (Ok new) = Ok (new, nets_of_shape (length old.nets) 1)

-- the bits of a port, which must have been declared
abbrev pub bits_of_port : SelectedName → Draft → Option Declared → Checked Fault Operand
bits_of_port named d None = Err (fault (cause.Undeclared named.word) named.place)
bits_of_port named d (Some declared) = fitting named.place d (selected declared.shape named.what)

-- What a name gives: nets, or a net that it implies, or why it is refused.
abbrev pub bits_of_meaning : (implied : Bool) → SelectedName → Draft → Option Meaning → Checked Fault Operand
bits_of_meaning implied named d (Some (meaning.Nets shape)) = fitting named.place d (selected shape named.what)
bits_of_meaning implied named d (Some (meaning.Port port)) = bits_of_port named d (declared_at d port)
bits_of_meaning implied named d (Some meaning.Bit) = Err (fault (cause.Taken named.word) named.place)
bits_of_meaning true named d (Some meaning.Instance) = Err (fault (cause.Taken named.word) named.place)
bits_of_meaning false named d (Some meaning.Instance) = Err (fault (cause.Undeclared named.word) named.place)
bits_of_meaning true named d None = implied_net named d (declare_nets named.place named.word None d)
bits_of_meaning false named d None = Err (fault (cause.Undeclared named.word) named.place)

-- what a name gives where it stands; only a whole name may be implied
abbrev pub bits_of_name : Site → (depth : ℕ) → SelectedName → Draft → Checked Fault Operand
bits_of_name at depth named d = bits_of_meaning (implies at depth && is_whole named.what) named d (meaning_of d named.word)

-- ---- operands

-- whether a token of this kind may follow an expression that stands here
abbrev pub ends : Site → TokenKind → Bool
ends (site.Pin d) kind.CloseParen = true
ends (site.Terminal d) kind.CloseParen = true
ends (site.Terminal d) kind.Comma = true
ends site.Target kind.Equals = true
ends site.Source kind.Comma = true
ends site.Source kind.Semicolon = true
ends _ _ = false

-- whether it may follow an operand in a concatenation
abbrev pub parts : TokenKind → Bool
parts kind.Comma = true
parts kind.CloseBrace = true
parts _ = false

-- whether a token of this kind may follow an operand here, in so many open concatenations
abbrev pub may_follow : Site → (depth : ℕ) → TokenKind → Bool
may_follow at zero k = ends at k
may_follow at (suc depth) k = parts k

-- the token behind must be one that may follow, and is not taken
unfoldable pub followed : Site → (depth : ℕ) → Rule (Unit {0})
followed at depth = λ ts. if may_follow at depth (kind_of ts) then Ok (tt, ts) else refuse ts

-- a bit or a part in brackets
unfoldable pub rest_of_select : ℕ → Rule Select
rest_of_select first = λ ts. if sees kind.CloseBracket ts then Ok (select.Bit first, next ts) else (rest_of_range first >>= (λ r. pure (select.Part r))) ts

-- a bit, a part, or all of a name
unfoldable pub selection : Rule Select
selection = λ ts. if sees kind.OpenBracket ts then (number >>= rest_of_select) (next ts) else Ok (select.Whole, ts)

-- the meaning of a name needs the token behind it
unfoldable pub named_operand : Site → (depth : ℕ) → Draft → Rule Operand
named_operand at depth d = λ ts. (do
  word ← expect kind.Name
  what ← selection
  followed at depth
  checked (bits_of_name at depth (record { word = word; what = what; place = left ts }) d)) ts

-- and so does the test that a constant is not driven
unfoldable pub constant_operand : Site → (depth : ℕ) → Draft → Rule Operand
constant_operand at depth d = λ ts. (do
  bits ← constant
  followed at depth
  needed cause.Token (left ts) (not (drives at)) (pure (d, map signal.Constant bits))) ts

-- a constant, or a name with its selection
unfoldable pub operand : Site → (depth : ℕ) → Draft → Rule Operand
operand at depth d = λ ts. if sees kind.Number ts then constant_operand at depth d ts else named_operand at depth d ts

-- ---- concatenations

-- how far an expression is read: how many concatenations are open, whether an operand comes next, and the bits so far
pub record OpenConcatenations : Type 0 where
  pub depth : ℕ
  pub awaits : Bool
  pub bits : List Signal

-- nothing is read yet
abbrev pub unread : OpenConcatenations
unread = record { depth = 0; awaits = true; bits = [] }

-- whether the expression is read
abbrev pub is_read : OpenConcatenations → Bool
is_read so_far = not so_far.awaits && so_far.depth == 0

-- the bits of an operand come behind those before
abbrev pub with_operand : OpenConcatenations → Operand → Draft × OpenConcatenations
with_operand so_far o = (o.0, record so_far { awaits = false; bits = so_far.bits ++ o.1 })

-- a concatenation opens, or an operand comes
unfoldable pub opening : Site → Draft → OpenConcatenations → Rule (Draft × OpenConcatenations)
opening at d so_far = λ ts. if sees kind.OpenBrace ts then Ok ((d, record so_far { depth = suc so_far.depth }), next ts) else (operand at so_far.depth d >>= (λ o. pure (with_operand so_far o))) ts

-- behind an operand of a concatenation comes a comma, or the concatenation closes
unfoldable pub closing : Draft → OpenConcatenations → Rule (Draft × OpenConcatenations)
closing d so_far = λ ts. if sees kind.Comma ts then Ok ((d, record so_far { awaits = true }), next ts) else (expect kind.CloseBrace >> pure (d, record so_far { depth = so_far.depth - 1 })) ts

-- one step through an expression
abbrev pub turn : Site → Draft → OpenConcatenations → Rule (Draft × OpenConcatenations)
turn at d so_far = if so_far.awaits then opening at d so_far else closing d so_far

-- the rest of an expression
unfoldable pub concatenations_from : ℕ → Site → Draft → OpenConcatenations → Rule (Draft × OpenConcatenations)
concatenations_from zero at d so_far = refuse
concatenations_from (suc n) at d so_far = λ ts. if is_read so_far then Ok ((d, so_far), ts) else (turn at d so_far >>= (λ p. concatenations_from n at p.0 p.1)) ts

-- An expression: its bits, leftmost first. Each turn takes a byte at least.
unfoldable pub expression : Site → Draft → Rule Operand
expression at d = λ ts. (do
  p ← concatenations_from (suc (left ts)) at d unread
  followed at 0
  pure (p.0, p.1.bits)) ts

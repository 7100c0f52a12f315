-- Names of bits that are free, and that are taken.
use Rattle.std.specs.Prelude.{◌≡◌, ℕ, false, List, [], ◌∷◌, ◌++◌, Option, Some, None, Ok, Err}
use Rattle.std.specs.Str.{bytes_eq}
use Rattle.dft_base.specs.declared.place.Range.{Range}
use Rattle.dft_base.specs.Lexing.{Text}
use Rattle.dft_base.specs.Parser.{Checked}
use Rattle.dft_netlist_text.specs.declared.text.Cause.TheVariants as cause
use Rattle.dft_netlist_text.specs.declared.text.Fault.{Fault}
use Rattle.dft_netlist_text.specs.declared.text.Meaning.TheVariants as meaning
use Rattle.dft_netlist.specs.Names.{bit_names}
use Rattle.dft_netlist_text.specs.Steps.{fault}
use Rattle.dft_netlist_text.specs.Modules.{Draft, TakenName, first_taken, names_of_bits, with_bits}
use Rattle.dft_verilog_draft.specs.TakenNames.{meaning_in}

-- the name of a bit is taken
abbrev pub taken_bit : Text → TakenName
taken_bit word = record { name = word; meaning = meaning.Bit }

-- the names of bits are taken, one after another
abbrev pub and_bits : List TakenName → List Text → List TakenName
and_bits names [] = names
and_bits names (word ∷ words) = and_bits (names ++ taken_bit word ∷ []) words

-- these names are free, each also when those before it are taken
abbrev pub AreFree : List TakenName → List Text → Type 0
AreFree names [] = Unit {0}
AreFree names (word ∷ words) = (meaning_in names word ≡ None) × AreFree (names ++ taken_bit word ∷ []) words

-- the bits of a vector are, and a scalar has none
abbrev pub AreFreeBits : Option Range → List TakenName → List Text → Type 0
AreFreeBits None names bits = Unit {0}
AreFreeBits (Some range) names bits = AreFree names bits

-- the names of a vector's bits are taken, and a scalar has none
abbrev pub with_bits_of : Option Range → List Text → Draft → Draft
with_bits_of None bits d = d
with_bits_of (Some range) bits d = with_bits bits d

-- the names of new nets, unless one is taken
abbrev pub unless_taken : ℕ → Option Text → List Text → Checked Fault (List Text)
unless_taken place (Some word) names = Err (fault (cause.Taken word) place)
unless_taken place None names = Ok names

-- the names of the nets that a name of this range is to stand for, none of them taken as a bit's
abbrev pub new_bits : ℕ → Text → Option Range → Draft → Checked Fault (List Text)
new_bits place word range d = unless_taken place (first_taken d (names_of_bits word range)) (bit_names word range)

-- a name differs from each of these
abbrev pub IsApart : Text → List Text → Type 0
IsApart word [] = Unit {0}
IsApart word (other ∷ others) = (bytes_eq word other ≡ false) × IsApart word others

-- these names differ
abbrev pub AreApart : List Text → Type 0
AreApart [] = Unit {0}
AreApart (word ∷ words) = IsApart word words × AreApart words

-- the names of a vector's bits differ, and from the vector's own
abbrev pub AreBitsApart : Text → Option Range → List Text → Type 0
AreBitsApart word None bits = Unit {0}
AreBitsApart word (Some range) bits = IsApart word bits × AreApart bits

-- The first name of a port that is taken.
use Rattle.std.proofs.Common.{◌≡◌, ℕ, ◌+◌, ◌<◌, true, false, List, length, drop, get_or, Option, None, Some, is_some, refl, sym, ◌∙◌, true≢false}
use Rattle.std.proofs.lemmas.List.{at_drop_more}
use Rattle.dft_base.specs.declared.place.Range.{Range}
use Rattle.dft_netlist.specs.Netlist.{Netlist}
use Rattle.dft_netlist.specs.Names.{is_taken, first_taken, bit_names, port_names}
use Rattle.dft_base.specs.Lexing.{Text}

-- a vector's own name is the first
pub own_first : (n : Netlist) (name : Text) (range : Option Range) → is_some range ≡ true → is_taken n name ≡ true → first_taken n (port_names name range) ≡ Some name
own_first n name None vector taken = absurd (true≢false (sym vector))
own_first n name (Some range) vector taken = rw taken refl

-- where it is not taken, or there is none, the bits' names are left
pub bits_behind : (n : Netlist) (name : Text) (range : Option Range) → is_taken n name ≡ false → first_taken n (bit_names name range) ≡ first_taken n (port_names name range)
bits_behind n name None free = refl
bits_behind n name (Some range) free = rw free refl

pub bits_alone : (n : Netlist) (name : Text) (range : Option Range) → is_some range ≡ false → first_taken n (bit_names name range) ≡ first_taken n (port_names name range)
bits_alone n name None scalar = refl
bits_alone n name (Some range) scalar = absurd (true≢false scalar)

-- one name on
pub name_taken : (n : Netlist) (names : List Text) (i : ℕ) (name : Text) → i < length names → name ≡ get_or names i name → is_taken n name ≡ true → first_taken n (drop i names) ≡ Some name
name_taken n names i name lt is taken = at_drop_more (first_taken n) names i name lt ∙ rw (← is, taken) refl

pub name_free : (n : Netlist) (names : List Text) (i : ℕ) (name : Text) → i < length names → name ≡ get_or names i name → is_taken n name ≡ false → first_taken n (drop (i + 1) names) ≡ first_taken n (drop i names)
name_free n names i name lt is free = sym (at_drop_more (first_taken n) names i name lt ∙ rw (← is, free) refl)

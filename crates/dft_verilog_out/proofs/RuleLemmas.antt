-- The rules of expressions at the tokens of what is written.
use Rattle.std.proofs.Common.{◌≡◌, ℕ, suc, Bool, true, false, List, [], ◌∷◌, Some, Ok, refl}
use Rattle.dft_base.specs.declared.place.Range.{Range}
use Rattle.dft_base.specs.Lexing.{Text}
use Rattle.dft_base.specs.Words.{reserved_words}
use Rattle.dft_netlist.specs.declared.instance.Signal.{Signal}
use Rattle.dft_netlist.specs.declared.instance.Signal.TheVariants as signal
use Rattle.dft_netlist_text.specs.declared.text.TokenKind.TheVariants as kind
use Rattle.dft_netlist_text.specs.declared.text.Select.TheVariants as select
use Rattle.dft_netlist_text.specs.declared.text.Site.{Site}
use Rattle.dft_netlist_text.specs.Lexemes.{Token}
use Rattle.dft_netlist_text.specs.Steps.{kind_of, bytes, left, next, same_kind, sees, expect}
use Rattle.dft_netlist_text.specs.Modules.{Draft}
use Rattle.dft_netlist_text.specs.Expressions.{small_number, number, rest_of_range, range, range_if_any, digits, constant, SelectedName, bits_of_name, drives, ends, followed, rest_of_select, selection, named_operand, constant_operand, operand, opening, concatenations_from, expression}
use Rattle.dft_verilog_out.proofs.CutLemmas.{token, constant_tokens}

-- ---- numbers and ranges

pub number-at : (n l : ℕ) (word : Text) (ts : List Token) → small_number word ≡ Some n → number (token kind.Number word l ∷ ts) ≡ Ok (n, ts)
unfolding number expect sees kind_of same_kind bytes left next
number-at n l word ts e = rw e refl

-- the tokens of a range
abbrev pub range_tokens : Text → Text → (a b c d e : ℕ) → List Token → List Token
range_tokens first second a b c d e ts =
    token kind.OpenBracket (91 ∷ []) a ∷ token kind.Number first b ∷ token kind.Colon (58 ∷ []) c ∷ token kind.Number second d ∷ token kind.CloseBracket (93 ∷ []) e ∷ ts

pub range-at : (r : Range) (first second : Text) (a b c d e : ℕ) (ts : List Token) → small_number first ≡ Some r.left → small_number second ≡ Some r.right
    → range_if_any (range_tokens first second a b c d e ts) ≡ Ok (Some r, ts)
unfolding range_if_any range rest_of_range expect sees kind_of same_kind bytes left next
range-at r first second a b c d e ts f s =
    rw (number-at r.left b first (token kind.Colon (58 ∷ []) c ∷ token kind.Number second d ∷ token kind.CloseBracket (93 ∷ []) e ∷ ts) f, number-at r.right d second (token kind.CloseBracket (93 ∷ []) e ∷ ts) s) refl

-- ---- expressions of one bit

-- a name with what is selected
abbrev pub named : Text → (l : ℕ) → SelectedName
named word l = record { word = word; what = select.Whole; place = suc l }

pub whole-at : (at : Site) (d new : Draft) (bits : List Signal) (word : Text) (l : ℕ) (ts : List Token) → bits_of_name at 0 (named word l) d ≡ Ok (new, bits)
    → ends at (kind_of ts) ≡ true → sees kind.OpenBracket ts ≡ false → expression at d (token kind.Name word (suc l) ∷ ts) ≡ Ok ((new, bits), ts)
unfolding expression concatenations_from opening operand named_operand selection followed expect kind_of same_kind bytes left next sees
whole-at at d new bits word l ts found follows single = rw (single, follows, found, follows) refl

pub bit-at : (at : Site) (d : Draft) (bits : List Signal) (word number : Text) (index l a b c : ℕ) (ts : List Token) → small_number number ≡ Some index
    → bits_of_name at 0 (record { word = word; what = select.Bit index; place = suc l }) d ≡ Ok (d, bits) → ends at (kind_of ts) ≡ true
    → expression at d (token kind.Name word (suc l) ∷ token kind.OpenBracket (91 ∷ []) a ∷ token kind.Number number b ∷ token kind.CloseBracket (93 ∷ []) c ∷ ts) ≡ Ok ((d, bits), ts)
unfolding expression concatenations_from opening operand named_operand selection rest_of_select followed expect kind_of same_kind bytes left next sees
bit-at at d bits word number index l a b c ts value found follows = rw (number-at index b number (token kind.CloseBracket (93 ∷ []) c ∷ ts) value, follows, found, follows) refl

pub constant-at : (at : Site) (d : Draft) (bit : Bool) (more : ℕ) (ts : List Token) → drives at ≡ false → ends at (kind_of ts) ≡ true
    → expression at d (constant_tokens bit more ts) ≡ Ok ((d, signal.Constant bit ∷ []), ts)
unfolding expression concatenations_from opening operand constant_operand constant number digits followed expect kind_of same_kind bytes left next sees reserved_words
constant-at at d false more ts free follows = rw (follows, free, follows) refl
constant-at at d true more ts free follows = rw (follows, free, follows) refl

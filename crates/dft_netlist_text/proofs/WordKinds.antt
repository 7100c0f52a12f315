-- A word that is not reserved is a name.
use Rattle.std.proofs.Common.{◌≡◌, ℕ, Bool, true, false, List, refl, sym, ap, ◌∙◌, codes}
use Rattle.std.specs.Str.{bytes_eq}
use Rattle.std.proofs.lemmas.Slice.Eq.{bytes_eq-Decides}
use Rattle.dft_base.specs.Words.{is_reserved, reserved_words}
use Rattle.dft_netlist_text.specs.Lexemes.{word_kind}
use Rattle.dft_netlist_text.specs.declared.text.TokenKind.TheVariants as kind

-- a word that is not reserved is no keyword
pub is_other : (t : Bool) (word known : List ℕ) → bytes_eq word known ≡ t → is_reserved known ≡ true → is_reserved word ≡ false → t ≡ false
is_other true word known same reserved free = sym reserved ∙ ap is_reserved (sym ((bytes_eq-Decides word known).0 same)) ∙ free
is_other false word known same reserved free = refl

pub differs : (word known : List ℕ) → is_reserved known ≡ true → is_reserved word ≡ false → bytes_eq word known ≡ false
differs word known reserved free = is_other (bytes_eq word known) word known refl reserved free

pub word_kind-free : (word : List ℕ) → is_reserved word ≡ false → word_kind word ≡ kind.Name
unfolding word_kind reserved_words
word_kind-free word free =
    rw (
      differs word (codes "module") refl free,
      differs word (codes "endmodule") refl free,
      differs word (codes "input") refl free,
      differs word (codes "output") refl free,
      differs word (codes "inout") refl free,
      differs word (codes "wire") refl free,
      differs word (codes "assign") refl free,
      differs word (codes "and") refl free,
      differs word (codes "nand") refl free,
      differs word (codes "or") refl free,
      differs word (codes "nor") refl free,
      differs word (codes "xor") refl free,
      differs word (codes "xnor") refl free,
      differs word (codes "buf") refl free,
      differs word (codes "not") refl free,
      free,
    ) refl

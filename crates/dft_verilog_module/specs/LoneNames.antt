-- A name that stands alone at a pin or a terminal, read without a list of its bits.
use Rattle.std.specs.Prelude.{ℕ}
use Rattle.dft_base.specs.Parser.{◌>>=◌, ◌>>◌}
use Rattle.dft_netlist_text.specs.declared.text.TokenKind.TheVariants as kind
use Rattle.dft_netlist_text.specs.declared.text.Site.{Site}
use Rattle.dft_netlist_text.specs.Steps.{Rule, left, expect, checked}
use Rattle.dft_netlist_text.specs.Modules.{Draft}
use Rattle.dft_netlist_text.specs.Items.{One}
use Rattle.dft_netlist_text.specs.Expressions.{bits_of_name, followed, selection}
use Rattle.dft_verilog_draft.specs.Selects.{lone}

-- the one bit of a name with its selection; another number of bits is refused at this place
unfoldable pub lone_name : Site → (place : ℕ) → Draft → Rule One
lone_name at place d = λ ts. (do
  word ← expect kind.Name
  what ← selection
  followed at 0
  checked (lone place (bits_of_name at 0 (record { word = word; what = what; place = left ts }) d))) ts

-- What a module of a text of several is, and the modules that a text says (IEEE 1364, structural part).
use Rattle.std.specs.Prelude.{ℕ, List}
use Rattle.dft_base.specs.Lexing.{Text}
use Rattle.dft_netlist.specs.declared.port.Port.{Port}
use Rattle.dft_modules.specs.declared.module.Item.{Item}

pub record Module : Type 0 where
  pub name : Text
  pub ports : List Port
  -- the printed name of each net, by its number; the bits of the ports are the first
  pub nets : List Text
  pub items : List Item

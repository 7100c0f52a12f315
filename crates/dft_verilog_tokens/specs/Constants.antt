-- The bits of a constant.
use Rattle.std.specs.Prelude.{Bool, List}
use Rattle.dft_netlist_text.specs.Expressions.{bits_of_value}
use Rattle.dft_verilog_tokens.specs.declared.constants.SizedConstant.{SizedConstant}

-- leftmost first
abbrev pub bits_of_constant : SizedConstant → List Bool
bits_of_constant c = bits_of_value c.size c.value

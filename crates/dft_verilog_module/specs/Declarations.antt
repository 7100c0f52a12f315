-- What a declaration declares, in the words of the definitions.
use Rattle.dft_netlist_text.specs.Items as spec
use Rattle.dft_verilog_module.specs.declared.declarations.Declaring.{Declaring}
use Rattle.dft_verilog_module.specs.declared.declarations.Declaring.TheVariants as code

-- ports of a direction, or wires
abbrev pub declaring : Declaring → spec.Declaring
declaring (code.Ports dir) = spec.Ports dir
declaring code.Wires = spec.Wires

-- What a `OpenConcatenations` shows.
use Rattle.dft_netlist_text.specs.Expressions as spec
use Rattle.dft_verilog_module.specs.declared.concatenations.OpenConcatenations.TheInside.{Inside}

abbrev pub concatenations_of : Inside → spec.OpenConcatenations
concatenations_of n = record { depth = n.depth; awaits = n.awaits; bits = n.bits }

-- What a reader tells of a refused text.
use Rattle.std.specs.Prelude.{ℕ, pos}
use Rattle.dft_base.specs.declared.place.Place.{Place}
use Rattle.dft_netlist_text.specs.declared.text.Cause.{Cause}
use Rattle.dft_netlist_text.specs.declared.text.Cause.TheVariants as cause
use Rattle.dft_netlist.specs.declared.error.Counted.{Counted}
use Rattle.dft_netlist.specs.declared.error.Counted.TheVariants as counted
use Rattle.dft_netlist.specs.declared.error.NetlistError.TheVariants as netlist
use Rattle.dft_netlist.specs.declared.limits.TheConstants.{MAX_PORTS, MAX_NETS, MAX_INSTANCES}
use Rattle.dft_verilog.specs.declared.error.VerilogError.{VerilogError}
use Rattle.dft_verilog.specs.declared.error.VerilogError.TheVariants as told

-- the most that there may be
abbrev pub most : Counted → ℕ
most counted.Ports = MAX_PORTS
most counted.Nets = MAX_NETS
most counted.Instances = MAX_INSTANCES

-- how a cause is told of this place
abbrev pub told_of : Cause → Place → VerilogError
told_of cause.Byte at = told.V1 at
told_of cause.Token at = told.V2 at
told_of (cause.Unsupported word) at = told.V3 at word
told_of (cause.NoPin word) at = told.V5 at word
told_of cause.Misfit at = told.V6 at
told_of cause.Inout at = told.V7 at
told_of cause.Ended at = told.V9 at
told_of cause.TooLarge at = told.V10 at
told_of (cause.Undeclared word) at = told.V11 at word
told_of (cause.JoinedTwice word) at = told.V12 at word
told_of (cause.Taken word) at = told.Netlist (netlist.DuplicateName word)
told_of (cause.Full what) at = told.Netlist (netlist.TooMany what (pos (most what)))

-- What comes of a netlist text over the standard cells: where it is refused and why, or the netlist that it stands for.
use Rattle.std.proofs.Common.{ℕ, Option, Some, None, Result, Ok, Err, List}
use Rattle.dft_base.specs.declared.place.Place.{Place}
use Rattle.dft_base.specs.Lexing.{Text, place_of}
use Rattle.dft_cells.specs.Standard.{standard_cells}
use Rattle.dft_netlist.specs.declared.port.Port.{Port}
use Rattle.dft_netlist.specs.declared.instance.Instance.{Instance}
use Rattle.dft_netlist.specs.declared.instance.Join.{Join}
use Rattle.dft_netlist.specs.declared.error.NetlistError.{NetlistError}
use Rattle.dft_netlist.specs.Netlist.{Netlist}
use Rattle.dft_netlist_text.specs.declared.text.Cause.{Cause}
use Rattle.dft_netlist_text.specs.declared.text.Fault.{Fault}
use Rattle.dft_netlist_text.specs.Modules.{Draft}
use Rattle.dft_netlist_text.specs.NetlistText.{module_of, built}

abbrev pub refused_at : Text → Result Draft Fault → Option (Cause × Place)
refused_at text (Ok d) = None
refused_at text (Err f) = Some (f.cause, place_of text f.left)

abbrev pub outcome : Text → Option (Cause × Place)
outcome text = refused_at text (module_of standard_cells text)

abbrev pub refused : Cause → ℕ → ℕ → Option (Cause × Place)
refused why line column = Some (why, record { line = line; column = column })

abbrev pub grown_netlist : Result Netlist NetlistError → Option Netlist
grown_netlist (Ok n) = Some n
grown_netlist (Err why) = None

abbrev pub netlist_of : Result Draft Fault → Option Netlist
netlist_of (Ok d) = grown_netlist (built d)
netlist_of (Err f) = None

-- the netlist of an accepted text
abbrev pub netlist : Text → Option Netlist
netlist text = netlist_of (module_of standard_cells text)

-- a netlist over the standard cells
abbrev pub reads : Text → List Port → List Text → List Instance → List Join → Option Netlist
reads name ports nets instances joins = Some (record { name = name; library = standard_cells; ports = ports; nets = nets; instances = instances; joins = joins })

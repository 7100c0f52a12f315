-- Bit-selects and part-selects (IEEE 1364): the nets that they take, and what a name adds to the bits of an expression.
use Rattle.std.specs.Prelude.{ℕ, List, [], ◌∷◌, ◌++◌, Option, Some, None, Ok, Err}
use Rattle.dft_base.specs.Parser.{Checked}
use Rattle.dft_netlist.specs.declared.instance.Signal.{Signal}
use Rattle.dft_netlist_text.specs.declared.text.Cause.TheVariants as cause
use Rattle.dft_netlist_text.specs.declared.text.Fault.{Fault}
use Rattle.dft_netlist_text.specs.Steps.{fault}
use Rattle.dft_base.specs.declared.place.Range.{Range}
use Rattle.dft_netlist.specs.declared.ids.NetId.{NetId}
use Rattle.dft_netlist_text.specs.declared.text.Meaning.{Meaning}
use Rattle.dft_netlist_text.specs.declared.text.Meaning.TheVariants as meaning
use Rattle.dft_netlist_text.specs.declared.text.Select.{Select}
use Rattle.dft_netlist_text.specs.declared.text.Select.TheVariants as select
use Rattle.dft_netlist_text.specs.Modules.{Draft}
use Rattle.dft_netlist_text.specs.Expressions.{Operand, nets_of_shape}
use Rattle.dft_verilog_draft.specs.declared.selects.Run.{Run}

-- the signals of nets with numbers one after the other
abbrev pub signals_of_run : Run → List Signal
signals_of_run r = nets_of_shape r.first r.count

-- the bits of an operand come behind those before
abbrev pub behind_bits : List Signal → Checked Fault Operand → Checked Fault Operand
behind_bits before (Ok o) = Ok (o.0, before ++ o.1)
behind_bits before (Err f) = Err f

-- bits that are there come behind those before; a selection that does not fit is refused
abbrev pub and_selected : List Signal → ℕ → Option (List Signal) → Checked Fault (List Signal)
and_selected before place None = Err (fault cause.Misfit place)
and_selected before place (Some bits) = Ok (before ++ bits)

-- the one bit of these, with the draft; another number of bits is refused at this place
abbrev pub lone_of : ℕ → Draft → List Signal → Checked Fault (Draft × Signal)
lone_of place d [] = Err (fault cause.Misfit place)
lone_of place d (bit ∷ []) = Ok (d, bit)
lone_of place d (bit ∷ more ∷ bits) = Err (fault cause.Misfit place)

-- the one bit of an operand
abbrev pub lone : ℕ → Checked Fault Operand → Checked Fault (Draft × Signal)
lone place (Ok o) = lone_of place o.0 o.1
lone place (Err f) = Err f

-- the net of a name without a range
abbrev pub net_of_scalar : Option Range → NetId → Option NetId
net_of_scalar None first = Some first
net_of_scalar (Some range) first = None

-- the net of a name without a range that stands for it, if all of it is selected
abbrev pub lone_net : Option Meaning → Select → Option NetId
lone_net (Some (meaning.Nets shape)) select.Whole = net_of_scalar shape.range shape.first
lone_net _ _ = None

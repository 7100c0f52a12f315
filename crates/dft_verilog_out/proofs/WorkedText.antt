-- A netlist and its written form, worked by hand.
use Rattle.std.proofs.Common.{◌≡◌, true, [], ◌∷◌, codes, Some, None, refl}
use Rattle.std.specs.Fmt as fmt
use Rattle.dft_base.specs.Words as words
use Rattle.dft_cells.specs.declared.kind.TheConstants.{DFF}
use Rattle.dft_cells.specs.declared.kind.Gate.TheVariants as primitive
use Rattle.dft_cells.specs.declared.kind.Role.TheVariants as role
use Rattle.dft_base.specs.declared.dir.Dir.TheVariants as dir
use Rattle.dft_netlist.specs.declared.instance.Signal.TheVariants as signal
use Rattle.dft_netlist.specs.declared.instance.CellRef.TheVariants as cell_ref
use Rattle.dft_netlist.specs.Netlist.{Netlist}
use Rattle.dft_verilog_out.specs.Written.{module_line, port_line, wire_line, join_line, gate_line, cell_line, body, written}

-- a vector of two bits, an output, a net whose name is reserved later and one whose name is no word;
-- a join, a gate without a name, one with a name, and a flip-flop whose inverted output is joined to nothing
abbrev pub example : Netlist
example = record {
  name = codes "m";
  library = record {
    name = codes "DFF";
    kind = DFF;
    pins = record { name = codes "CK"; role = role.Clock } ∷ record { name = codes "D"; role = role.Din } ∷ record { name = codes "Q"; role = role.Output } ∷ record { name = codes "QN"; role = role.Inverted } ∷ [];
    scan = None;
  } ∷ [];
  ports = record { name = codes "a"; dir = dir.Input; range = Some (record { left = 1; right = 0 }); bits = record { 0 = 0 } ∷ record { 0 = 1 } ∷ [] }
      ∷ record { name = codes "y"; dir = dir.Output; range = None; bits = record { 0 = 2 } ∷ [] } ∷ [];
  nets = codes "a[1]" ∷ codes "a[0]" ∷ codes "y" ∷ codes "cell" ∷ codes "n[0]" ∷ codes "q" ∷ [];
  joins = record { target = record { 0 = 2 }; source = signal.Net (record { 0 = 4 }) } ∷ [];
  instances = record { name = None; cell = cell_ref.Gate primitive.Xor 2; pins = signal.Net (record { 0 = 0 }) ∷ signal.Constant true ∷ signal.Net (record { 0 = 3 }) ∷ [] }
      ∷ record { name = Some (codes "u"); cell = cell_ref.Gate primitive.Inv 1; pins = signal.Net (record { 0 = 3 }) ∷ signal.Net (record { 0 = 4 }) ∷ [] }
      ∷ record { name = Some (codes "f"); cell = cell_ref.Library (record { 0 = 0 }); pins = signal.Net (record { 0 = 1 }) ∷ signal.Net (record { 0 = 4 }) ∷ signal.Net (record { 0 = 5 }) ∷ signal.Unconnected ∷ [] } ∷ [];
}

pub example_written : written example ≡ codes "module m (a, y);\ninput [1:0] a;\noutput y;\nwire \\cell ;\nwire \\n[0] ;\nwire q;\nassign y = \\n[0] ;\nxor (\\cell , a[1], 1'b1);\nnot u (\\n[0] , \\cell );\nDFF f (.CK(a[0]), .D(\\n[0] ), .Q(q));\nendmodule\n"
unfolding written module_line body port_line wire_line join_line gate_line cell_line words.reserved_words words.later_reserved_words fmt.digits
example_written = refl

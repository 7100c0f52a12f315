-- Worked examples: a flip-flop whose reset pin is at a tie cell, and the tie cell's net stuck.
use Rattle.std.specs.Prelude.{codes, ℕ, true, false, ◌≡◌, [], ◌∷◌, None, Some, slice_index_or}
use Rattle.dft_base.specs.declared.tri.Tri.{Tri}
use Rattle.dft_base.specs.declared.tri.Tri.TheVariants.{Zero, One, Unknown}
use Rattle.dft_base.specs.declared.dir.Dir.TheVariants.{Input, Output}
use Rattle.dft_cells.specs.Standard.{standard_cells}
use Rattle.dft_netlist.specs.declared.instance.Signal.TheVariants.{Net, Unconnected}
use Rattle.dft_netlist.specs.declared.instance.CellRef.TheVariants.{Library}
use Rattle.dft_netlist.specs.Netlist.{Netlist}
use Rattle.dft_config.specs.Config.{Config}
use Rattle.dft_faults.specs.Examples.{id, stuck}
use Rattle.dft_faults.specs.Faulty.{faulty}
use Rattle.dft_capture.specs.Captures.{next_by_pins}
use Rattle.dft_seek.specs.SoughtFaults.{seek_faults}
use Rattle.dft_seek.specs.Walks.{taken_nets}

-- `module k (clk, a, q); input clk, a; output q; TIE1 t (.Y(one)); DFFR f (.CK(clk), .D(a), .RN(one), .Q(q)); endmodule`
abbrev pub tied_reset : Netlist
tied_reset = record {
  name = codes "k";
  library = standard_cells;
  ports =
      record { name = codes "clk"; dir = Input; range = None; bits = id 0 ∷ [] } ∷ record { name = codes "a"; dir = Input; range = None; bits = id 1 ∷ [] }
      ∷ record { name = codes "q"; dir = Output; range = None; bits = id 2 ∷ [] } ∷ [];
  nets = codes "clk" ∷ codes "a" ∷ codes "q" ∷ codes "one" ∷ [];
  instances =
      record { name = Some (codes "t"); cell = Library (record { 0 = 25 }); pins = Net (id 3) ∷ [] }
      ∷ record { name = Some (codes "f"); cell = Library (record { 0 = 6 }); pins = Net (id 0) ∷ Net (id 1) ∷ Net (id 3) ∷ Net (id 2) ∷ Unconnected ∷ [] } ∷ [];
  joins = [];
}

-- With the clock as the one domain and no reset the faults of q and of the tie cell's net are sought: it traces to a constant and to no configured reset.
abbrev pub TieIsSought : Type 0
TieIsSought =
    (config : Config) → config.domains ≡ codes "clk" ∷ [] → config.resets ≡ [] →
    seek_faults tied_reset config ≡ stuck 2 false ∷ stuck 2 true ∷ stuck 3 false ∷ stuck 3 true ∷ []

-- the values of the four nets
abbrev pub values_of : (clk a q one : Tri) → ℕ → Tri
values_of clk a q one net = slice_index_or (clk ∷ a ∷ q ∷ one ∷ []) net Unknown

-- The flip-flop takes a. With the tie cell's net stuck at 0 its reset acts, though that pin traced to constant 1.
pub record ResetActsByPin : Type 0 where
  pub pins : taken_nets tied_reset 1 ≡ 1 ∷ 3 ∷ []
  pub good : next_by_pins tied_reset (values_of Zero One Unknown One) 1 ≡ One
  pub acts : next_by_pins (faulty tied_reset (stuck 3 false)) (values_of Zero One Unknown Zero) 1 ≡ Zero

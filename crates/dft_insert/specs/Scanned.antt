-- The scanned netlist of each style: the frame, and what is made in it.
use Rattle.std.specs.Prelude.{ℕ, List, [], ◌∷◌, length, map}
use Rattle.std.specs.List.{range_with_len}
use Rattle.dft_cells.specs.declared.kind.Gate.TheVariants.{Buf}
use Rattle.dft_netlist.specs.declared.ids.NetId.{NetId}
use Rattle.dft_netlist.specs.declared.ids.PortId.{PortId}
use Rattle.dft_netlist.specs.Netlist.{Netlist}
use Rattle.dft_config.specs.Config.{Config}
use Rattle.dft_stitch.specs.Plans.{Plan, falling_head}
use Rattle.dft_parts.specs.declared.edt_ports.EdtPorts.{EdtPorts}
use Rattle.dft_parts.specs.Parts.{Part, Making, with_parts}
use Rattle.dft_parts.specs.Recipes.{Recipe, ◌>>=◌, ◌>>◌, each, net_at, a_gate, start_of}
use Rattle.dft_edt.specs.RingRecipe.{a_ring}
use Rattle.dft_edt.specs.CompactorRecipe.{a_compactor}
use Rattle.dft_scan_frame.specs.Moves.{Gap}
use Rattle.dft_insert.specs.declared.style.Style.{Style}
use Rattle.dft_insert.specs.declared.style.Style.TheVariants.{Plain, Edt}
use Rattle.dft_insert.specs.Ports.{added_ports, gap_in, plain_in, plain_out, edt_nets}
use Rattle.dft_insert.specs.Frame.{frame}
use Rattle.dft_insert.specs.Chained.{rows, cells_at, row_at, a_chain, a_fed_chain, last_net}

-- ---- style Plain

-- a chain behind its scan input
abbrev pub a_plain_chain : Netlist → Config → Plan → Gap → (outputs : List (List NetId)) → (chain : ℕ) → Recipe (Unit {0})
a_plain_chain n config plan gap outputs chain = a_chain n config gap plan.lockups chain (cells_at plan.chains chain) (row_at outputs chain) (plain_in gap.before chain)

-- a buffer from the end of a chain to its scan output
abbrev pub a_plain_end : Config → Gap → (outputs : List (List NetId)) → (chain : ℕ) → Recipe (Unit {0})
a_plain_end config gap outputs chain = a_gate Buf (last_net (row_at outputs chain) ∷ []) (plain_out gap.before config.chains chain)

-- nets for open outputs; the chains, one after another; then the buffers
unfoldable pub plain_recipe : Netlist → Config → Plan → Gap → Recipe (Unit {0})
plain_recipe n config plan gap = do
  outputs ← rows n gap plan.chains
  each (a_plain_chain n config plan gap outputs) (range_with_len 0 (length plan.chains))
  each (a_plain_end config gap outputs) (range_with_len 0 (length plan.chains))

-- ---- style Edt

-- a chain behind its phase sum, or behind a lock-up on edt_clock that takes it where the first cell rises
abbrev pub an_edt_chain : Netlist → Config → Plan → Gap → EdtPorts → (phases : List NetId) → (outputs : List (List NetId)) → (chain : ℕ) → Recipe (Unit {0})
an_edt_chain n config plan gap ports phases outputs chain =
    a_fed_chain (falling_head plan chain) n config gap plan.lockups chain (cells_at plan.chains chain) (row_at outputs chain) ports.edt_clock (net_at phases chain)

-- the ring and the phase sums; the chains, one after another; then masks, hold bits and compactor
unfoldable pub behind_rows : Netlist → Config → Plan → Gap → EdtPorts → (outputs : List (List NetId)) → Recipe (Unit {0})
behind_rows n config plan gap ports outputs = do
  ring ← a_ring config ports
  each (an_edt_chain n config plan gap ports ring.phases outputs) (range_with_len 0 (length plan.chains))
  a_compactor config ports ring.run (map last_net outputs)

-- nets for open outputs, and behind them all of it
unfoldable pub edt_recipe : Netlist → Config → Plan → Gap → EdtPorts → Recipe (Unit {0})
edt_recipe n config plan gap ports = do
  outputs ← rows n gap plan.chains
  behind_rows n config plan gap ports outputs

-- ---- the netlist

abbrev pub recipe : Style → Netlist → Config → Plan → Recipe (Unit {0})
recipe Plain n config plan = plain_recipe n config plan (gap_in Plain n config)
recipe Edt n config plan = let gap = gap_in Edt n config in edt_recipe n config plan gap (edt_nets gap.before config)

-- the frame, in which no made name was given yet
abbrev pub framed : Style → Netlist → Config → Making
framed style n config = record { netlist = frame style n config; made = record { nets = 0; instances = 0 } }

-- what is made in it
abbrev pub parts_of : Style → Netlist → Config → Plan → List Part
parts_of style n config plan = (recipe style n config plan (start_of (framed style n config))).parts

abbrev pub scanned_netlist : Style → Netlist → Config → Plan → Netlist
scanned_netlist style n config plan = (with_parts (framed style n config) (parts_of style n config plan)).netlist

-- the ids of the added ports
abbrev pub added_ids : Style → Netlist → Config → List PortId
added_ids style n config = map (λ number. record { 0 = number }) (range_with_len (length n.ports) (length (added_ports style config)))

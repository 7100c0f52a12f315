-- The recipe of masks, hold bits and compactor (Rajski and others, 2004).
use Rattle.std.specs.Prelude.{ℕ, zero, suc, ◌+◌, List, [], ◌∷◌, ◌++◌, length, map, slice_index_or}
use Rattle.std.specs.List.{range_with_len}
use Rattle.dft_cells.specs.declared.kind.Gate.TheVariants.{Buf, Inv, And, Or}
use Rattle.dft_netlist.specs.declared.ids.NetId.{NetId}
use Rattle.dft_config.specs.Config.{Config}
use Rattle.dft_parts.specs.declared.edt_ports.EdtPorts.{EdtPorts}
use Rattle.dft_parts.specs.Recipes.{Recipe, pure, ◌>>=◌, ◌>>◌, each, collect, net_at, a_net, a_gate, a_flop}
use Rattle.dft_parts.specs.Sums.{a_driving_gate, a_sum}
use Rattle.dft_edt.specs.Hardware.{group_of}
use Rattle.dft_config.specs.Segments.{segment_length}
use Rattle.dft_edt.specs.declared.mask_nets.MaskNets.{MaskNets}

-- ---- masks and hold bits

-- what a hold flip-flop takes: the mask bit where edt_update is 1, and else the hold bit, since `run` is the inverse of edt_update
unfoldable pub a_next : EdtPorts → (run : NetId) → MaskNets → Recipe NetId
a_next ports run nets = do
  taken ← a_driving_gate And (ports.edt_update ∷ nets.mask ∷ [])
  kept ← a_driving_gate And (run ∷ nets.hold ∷ [])
  a_driving_gate Or (taken ∷ kept ∷ [])

-- a chain's mask flip-flop, which takes what stands before it in its segment, and then its hold flip-flop
unfoldable pub a_mask : EdtPorts → (run before : NetId) → Recipe MaskNets
a_mask ports run before = do
  mask ← a_net
  a_flop ports.edt_clock before mask
  hold ← a_net
  next ← a_next ports run (record { mask = mask; hold = hold })
  a_flop ports.edt_clock next hold
  pure (record { mask = mask; hold = hold })

-- the chains of a segment, so many, one behind the other
unfoldable pub a_segment : EdtPorts → (run before : NetId) → (count : ℕ) → Recipe (List MaskNets)
a_segment ports run before zero = pure []
a_segment ports run before (suc count) = do
  first ← a_mask ports run before
  more ← a_segment ports run first.mask count
  pure (first ∷ more)

-- segments from this one on, so many; the first chain of each takes the segment's mask port
unfoldable pub segments : Config → EdtPorts → (run : NetId) → (segment count : ℕ) → Recipe (List MaskNets)
segments config ports run segment zero = pure []
segments config ports run segment (suc count) = do
  first ← a_segment ports run (net_at ports.masks segment) (segment_length config segment)
  more ← segments config ports run (segment + 1) count
  pure (first ++ more)

-- ---- the compactor

abbrev pub masks_at : List MaskNets → (chain : ℕ) → MaskNets
masks_at masks chain = slice_index_or masks chain (record { mask = record { 0 = 0 }; hold = record { 0 = 0 } })

-- what the compactor takes of a chain: its end, where the hold bit is 0
unfoldable pub a_gated : (hold end : NetId) → Recipe NetId
a_gated hold end = do
  shown ← a_driving_gate Inv (hold ∷ [])
  a_driving_gate And (shown ∷ end ∷ [])

-- an output shows the sum of its group
unfoldable pub an_output : Config → EdtPorts → (gated : List NetId) → (output : ℕ) → Recipe (Unit {0})
an_output config ports gated output = do
  sum ← a_sum (map (net_at gated) (group_of config output))
  a_gate Buf (sum ∷ []) (net_at ports.outputs output)

-- masks and hold bits of all chains; then what the compactor takes of each; then the outputs
unfoldable pub a_compactor : Config → EdtPorts → (run : NetId) → (ends : List NetId) → Recipe (Unit {0})
a_compactor config ports run ends = do
  masks ← segments config ports run 0 config.compactor.mask_inputs
  gated ← collect (λ chain. a_gated (masks_at masks chain).hold (net_at ends chain)) (range_with_len 0 config.chains)
  each (an_output config ports gated) (range_with_len 0 (length config.compactor.groups))

-- How many instances of a kind the recipes of scanned netlists make.
use Rattle.std.proofs.Common.{ℕ, zero, suc, ◌+◌, ◌≡◌, ◌==◌, ◌<◌, inl, inr, Bool, true, false, List, [], ◌∷◌, ◌++◌, length, map, cond, Option, None, Some, slice_get, refl, ap, arith, ◌∙◌}
use Rattle.std.specs.Prelude.{if◌then◌else◌}
use Rattle.std.specs.List.{AllByRecursion, range_with_len}
use Rattle.std.proofs.lemmas.List.FromFn.{length-range_with_len}
use Rattle.dft_cells.specs.declared.kind.Kind.{Kind}
use Rattle.dft_cells.specs.declared.kind.TheConstants.{DFF}
use Rattle.dft_cells.specs.declared.kind.Kind.TheVariants as cell_kind
use Rattle.dft_cells.specs.declared.kind.Gate.{Gate}
use Rattle.dft_cells.specs.declared.kind.Gate.TheVariants.{Buf, Inv, And, Or, Xor}
use Rattle.dft_cells.specs.declared.kind.Role.{Role}
use Rattle.dft_cells.specs.declared.kind.Role.TheVariants.{ScanIn, Output}
use Rattle.dft_cells.specs.declared.cell.Cell.{Cell}
use Rattle.dft_cells.specs.WellFormed.{IsWellFormed}
use Rattle.dft_netlist.specs.declared.ids.NetId.{NetId}
use Rattle.dft_netlist.specs.declared.ids.InstanceId.{InstanceId}
use Rattle.dft_netlist.specs.declared.instance.CellRef.TheVariants.{Library}
use Rattle.dft_netlist.specs.Drivers.{shape_of}
use Rattle.dft_netlist.specs.Connections.{same_role}
use Rattle.dft_netlist.specs.Netlist.{Netlist}
use Rattle.dft_config.specs.Config.{Config}
use Rattle.dft_config.specs.declared.config.RingConfig.{RingConfig}
use Rattle.dft_stitch.specs.declared.places.LockupPlace.{LockupPlace}
use Rattle.dft_stitch.specs.Plans.{Plan, falling_head}
use Rattle.dft_edt.specs.Hardware.{group_of}
use Rattle.dft_config.specs.Segments.{segment_length, segment_start}
use Rattle.dft_parts.specs.declared.edt_ports.EdtPorts.{EdtPorts}
use Rattle.dft_parts.specs.Cells.{is_dff, is_lockup, first_cell}
use Rattle.dft_parts.specs.Parts.{Part, ANet, AnInstance, APin}
use Rattle.dft_parts.specs.Recipes.{Recipe, pure, ◌>>=◌, ◌>>◌, each, collect, net_at, nets_made, a_net, a_gate, a_flop, a_lockup}
use Rattle.dft_parts.specs.Sums.{a_driving_gate, pairs, levels, first_net, a_sum}
use Rattle.dft_parts.proofs.Stores.{lockup_shape, dff_shape}
use Rattle.dft_edt.specs.declared.ring.Ring.{Ring}
use Rattle.dft_edt.specs.RingRecipe.{stage_terms, a_stage, a_phase, a_ring}
use Rattle.dft_edt.specs.declared.mask_nets.MaskNets.{MaskNets}
use Rattle.dft_edt.specs.CompactorRecipe.{a_next, a_mask, a_segment, segments, masks_at, a_gated, an_output, a_compactor}
use Rattle.dft_scan_frame.specs.Moves.{Gap, moved}
use Rattle.dft_scan_frame.specs.Pins.{domain_in, number_of, own_output}
use Rattle.dft_insert.specs.Chained as chained
use Rattle.dft_insert.specs.Chained.{scan_roles, a_numbered_pin, a_role_pin, a_scan_in, an_open_output, own_or_made, a_row, rows, a_lockup_clock, a_lockup_behind, a_crossing, crossing_in, a_step, a_chain, a_latched_chain, a_fed_chain, cells_at, row_at, last_net}
use Rattle.dft_insert.specs.Ports.{plain_in, plain_out}
use Rattle.dft_insert.specs.Scanned.{a_plain_chain, a_plain_end, plain_recipe, an_edt_chain, behind_rows, edt_recipe}
use Rattle.dft_insert.proofs.Weights.{times, times_add, sum_of, sum_add, sum_zero, sum_same, Weighs, weighs_as, weighs_pure, weighs_bind, weighs_each, none_each, none_collect, one_in_range}

-- ---- the weights

abbrev pub bit_weight : Bool → ℕ
bit_weight b = cond b 1 0

-- an instance of a kind that passes a test weighs one, and all else nothing
abbrev pub weight : (Kind → Bool) → List Cell → Part → ℕ
weight test library ANet = 0
weight test library (AnInstance cell pins) = bit_weight (test (shape_of library cell).kind)
weight test library (APin i pin net) = 0

-- no gate that is made passes
pub record PassesNoGate (test : Kind → Bool) : Type 0 where
  pub gates : (gate : Gate) → test (cell_kind.Gate gate) ≡ false

-- the first flip-flop and the first lock-up of a library are of their kinds
flop_kind : (library : List Cell) → IsWellFormed library → (shape_of library (Library (first_cell is_dff library))).kind ≡ DFF
flop_kind library well = elim (dff_shape library well) [ inl e ↦ ap (λ s. s.kind) e | inr e ↦ ap (λ s. s.kind) e ]

lockup_kind : (library : List Cell) → IsWellFormed library → (shape_of library (Library (first_cell is_lockup library))).kind ≡ cell_kind.Lockup
lockup_kind library well = ap (λ s. s.kind) (lockup_shape library well)

module _ (test : Kind → Bool) (library : List Cell) (well : IsWellFormed library) (none : PassesNoGate test) where
  abbrev Has : {A : Type 0} → Recipe A → (count : ℕ) → Type 0
  Has r count = Weighs (weight test library) library r count

  abbrev flop : ℕ
  flop = bit_weight (test DFF)

  abbrev lock : ℕ
  lock = bit_weight (test cell_kind.Lockup)

  net_has : Has a_net 0
  net_has at is = refl

  gate_has : (kind : Gate) (inputs : List NetId) (output : NetId) → test (cell_kind.Gate kind) ≡ false → Has (a_gate kind inputs output) 0
  gate_has kind inputs output fails at is = ap (λ b. bit_weight b + 0) fails

  flop_has : (clock input output : NetId) → Has (a_flop clock input output) flop
  flop_has clock input output at is =
      let e : (shape_of library (Library (first_cell is_dff at.library))).kind ≡ DFF = ap (λ (l : List Cell). (shape_of library (Library (first_cell is_dff l))).kind) is ∙ flop_kind library well in
      ap (λ k. bit_weight (test k) + 0) e ∙ omega arith

  lockup_has : (clock input output : NetId) → Has (a_lockup clock input output) lock
  lockup_has clock input output at is =
      let e : (shape_of library (Library (first_cell is_lockup at.library))).kind ≡ cell_kind.Lockup = ap (λ (l : List Cell). (shape_of library (Library (first_cell is_lockup l))).kind) is ∙ lockup_kind library well in
      ap (λ k. bit_weight (test k) + 0) e ∙ omega arith

  -- ---- sums

  driving_has : (kind : Gate) (inputs : List NetId) → test (cell_kind.Gate kind) ≡ false → Has (a_driving_gate kind inputs) 0
  unfolding a_driving_gate
  driving_has kind inputs fails =
      weighs_bind (weight test library) library a_net (λ output. a_gate kind inputs output >> pure output) 0 0 net_has
      (λ output. weighs_bind (weight test library) library (a_gate kind inputs output) (λ _. pure output) 0 0 (gate_has kind inputs output fails) (λ _. weighs_pure (weight test library) library output))

  pairs_has : (nets : List NetId) → Has (pairs nets) 0
  unfolding pairs
  pairs_has [] = weighs_pure {A = List NetId} (weight test library) library []
  pairs_has (a ∷ []) = weighs_pure (weight test library) library (a ∷ [])
  pairs_has (a ∷ b ∷ nets) =
      weighs_bind (weight test library) library (a_driving_gate Xor (a ∷ b ∷ [])) (λ joined. pairs nets >>= (λ more. pure (joined ∷ more))) 0 0 (driving_has Xor (a ∷ b ∷ []) (none.gates Xor))
      (λ joined. weighs_bind (weight test library) library (pairs nets) (λ more. pure (joined ∷ more)) 0 0 (pairs_has nets) (λ more. weighs_pure (weight test library) library (joined ∷ more)))

  levels_has : (count : ℕ) (nets : List NetId) → Has (levels count nets) 0
  unfolding levels
  levels_has zero nets = weighs_pure {A = List NetId} (weight test library) library nets
  levels_has (suc count) nets = weighs_bind (weight test library) library (pairs nets) (λ joined. levels count joined) 0 0 (pairs_has nets) (λ joined. levels_has count joined)

  sum_has : (terms : List NetId) → Has (a_sum terms) 0
  unfolding a_sum
  sum_has terms = weighs_bind (weight test library) library (levels (length terms) terms) (λ left. pure (first_net left)) 0 0 (levels_has (length terms) terms) (λ left. weighs_pure (weight test library) library (first_net left))

  -- ---- the ring

  stage_has : (ring : RingConfig) (ports : EdtPorts) (run : NetId) (stages : List NetId) (stage : ℕ) → Has (a_stage ring ports run stages stage) flop
  unfolding a_stage
  stage_has ring ports run stages stage =
      weighs_as (weight test library) library (a_stage ring ports run stages stage) (0 + (0 + flop)) flop (omega arith)
      (weighs_bind (weight test library) library (a_sum (stage_terms ring ports.channels stages stage)) (λ sum. a_driving_gate And (sum ∷ run ∷ []) >>= (λ kept. a_flop ports.edt_clock kept (net_at stages stage))) 0 (0 + flop)
      (sum_has (stage_terms ring ports.channels stages stage))
      (λ sum. weighs_bind (weight test library) library (a_driving_gate And (sum ∷ run ∷ [])) (λ kept. a_flop ports.edt_clock kept (net_at stages stage)) 0 flop (driving_has And (sum ∷ run ∷ []) (none.gates And)) (λ kept. flop_has ports.edt_clock kept (net_at stages stage))))

  abbrev ring_end : (run : NetId) → (phases : List NetId) → Recipe Ring
  ring_end run phases = pure (record { run = run; phases = phases })

  abbrev phased : Config → (run : NetId) → (stages : List NetId) → (Unit {0}) → Recipe Ring
  phased config run stages done = collect (a_phase config.ring stages) (range_with_len 0 config.chains) >>= ring_end run

  abbrev staged : Config → EdtPorts → (run : NetId) → (stages : List NetId) → Recipe Ring
  staged config ports run stages = each (a_stage config.ring ports run stages) (range_with_len 0 config.ring.stages) >>= phased config run stages

  abbrev running : Config → EdtPorts → (run : NetId) → Recipe Ring
  running config ports run = nets_made config.ring.stages >>= staged config ports run

  stages_have : (config : Config) (ports : EdtPorts) (run : NetId) (stages : List NetId) → Has (each (a_stage config.ring ports run stages) (range_with_len 0 config.ring.stages)) (times config.ring.stages flop)
  stages_have config ports run stages =
      weighs_as (weight test library) library (each (a_stage config.ring ports run stages) (range_with_len 0 config.ring.stages)) (sum_of (λ stage. flop) (range_with_len 0 config.ring.stages)) (times config.ring.stages flop)
      (sum_same flop (range_with_len 0 config.ring.stages) ∙ ap (λ k. times k flop) (length-range_with_len 0 config.ring.stages))
      (weighs_each (weight test library) library (a_stage config.ring ports run stages) (λ stage. flop) (range_with_len 0 config.ring.stages) (λ stage. stage_has config.ring ports run stages stage))

  ring_has : (config : Config) (ports : EdtPorts) → Has (a_ring config ports) (times config.ring.stages flop)
  unfolding a_ring
  ring_has config ports =
      weighs_as (weight test library) library (a_ring config ports) (0 + (0 + (times config.ring.stages flop + (0 + 0)))) (times config.ring.stages flop) (omega arith)
      (weighs_bind (weight test library) library (a_driving_gate Inv (ports.edt_update ∷ [])) (running config ports) 0 (0 + (times config.ring.stages flop + (0 + 0))) (driving_has Inv (ports.edt_update ∷ []) (none.gates Inv))
      (λ run. weighs_bind (weight test library) library (nets_made config.ring.stages) (staged config ports run) 0 (times config.ring.stages flop + (0 + 0)) (none_collect (weight test library) library (λ _. a_net) (range_with_len 0 config.ring.stages) (λ x. net_has))
      (λ stages. weighs_bind (weight test library) library (each (a_stage config.ring ports run stages) (range_with_len 0 config.ring.stages)) (phased config run stages) (times config.ring.stages flop) (0 + 0)
      (stages_have config ports run stages)
      (λ done. weighs_bind (weight test library) library (collect (a_phase config.ring stages) (range_with_len 0 config.chains)) (ring_end run) 0 0
      (none_collect (weight test library) library (a_phase config.ring stages) (range_with_len 0 config.chains) (λ chain. sum_has _)) (λ phases. weighs_pure {A = Ring} (weight test library) library (record { run = run; phases = phases }))))))

  -- ---- the compactor

  next_has : (ports : EdtPorts) (run : NetId) (nets : MaskNets) → Has (a_next ports run nets) 0
  unfolding a_next
  next_has ports run nets =
      weighs_bind (weight test library) library (a_driving_gate And (ports.edt_update ∷ nets.mask ∷ [])) (λ taken. a_driving_gate And (run ∷ nets.hold ∷ []) >>= (λ kept. a_driving_gate Or (taken ∷ kept ∷ []))) 0 0 (driving_has And (ports.edt_update ∷ nets.mask ∷ []) (none.gates And))
      (λ taken. weighs_bind (weight test library) library (a_driving_gate And (run ∷ nets.hold ∷ [])) (λ kept. a_driving_gate Or (taken ∷ kept ∷ [])) 0 0 (driving_has And (run ∷ nets.hold ∷ []) (none.gates And)) (λ kept. driving_has Or (taken ∷ kept ∷ []) (none.gates Or)))

  abbrev mask_of : (mask hold : NetId) → MaskNets
  mask_of mask hold = record { mask = mask; hold = hold }

  abbrev held : EdtPorts → (run mask : NetId) → (hold : NetId) → Recipe MaskNets
  held ports run mask hold = a_next ports run (mask_of mask hold) >>= (λ next. a_flop ports.edt_clock next hold >> pure (mask_of mask hold))

  abbrev masked : EdtPorts → (run before : NetId) → (mask : NetId) → Recipe MaskNets
  masked ports run before mask = a_flop ports.edt_clock before mask >> (a_net >>= held ports run mask)

  -- a chain has two flip-flops
  mask_has : (ports : EdtPorts) (run before : NetId) → Has (a_mask ports run before) (flop + flop)
  unfolding a_mask
  mask_has ports run before =
      weighs_as (weight test library) library (a_mask ports run before) (0 + (flop + (0 + (0 + (flop + 0))))) (flop + flop) (omega arith)
      (weighs_bind (weight test library) library a_net (masked ports run before) 0 (flop + (0 + (0 + (flop + 0)))) net_has
      (λ mask. weighs_bind (weight test library) library (a_flop ports.edt_clock before mask) (λ _. a_net >>= held ports run mask) flop (0 + (0 + (flop + 0))) (flop_has ports.edt_clock before mask)
      (λ _. weighs_bind (weight test library) library a_net (held ports run mask) 0 (0 + (flop + 0)) net_has
      (λ hold. weighs_bind (weight test library) library (a_next ports run (mask_of mask hold)) (λ next. a_flop ports.edt_clock next hold >> pure (mask_of mask hold)) 0 (flop + 0) (next_has ports run (mask_of mask hold))
      (λ next. weighs_bind (weight test library) library (a_flop ports.edt_clock next hold) (λ _. pure (mask_of mask hold)) flop 0 (flop_has ports.edt_clock next hold) (λ _. weighs_pure (weight test library) library (mask_of mask hold)))))))

  segment_has : (ports : EdtPorts) (run before : NetId) (count : ℕ) → Has (a_segment ports run before count) (times count (flop + flop))
  unfolding a_segment
  segment_has ports run before zero = weighs_pure {A = List MaskNets} (weight test library) library []
  segment_has ports run before (suc count) =
      weighs_as (weight test library) library (a_segment ports run before (suc count)) (flop + flop + (times count (flop + flop) + 0)) (times (suc count) (flop + flop)) (omega arith)
      (weighs_bind (weight test library) library (a_mask ports run before) (λ first. a_segment ports run first.mask count >>= (λ more. pure (first ∷ more))) (flop + flop) (times count (flop + flop) + 0) (mask_has ports run before)
      (λ first. weighs_bind (weight test library) library (a_segment ports run first.mask count) (λ more. pure (first ∷ more)) (times count (flop + flop)) 0 (segment_has ports run first.mask count) (λ more. weighs_pure (weight test library) library (first ∷ more))))

  -- the segments from this one on
  segments_have : (config : Config) (ports : EdtPorts) (run : NetId) (segment count : ℕ) → Has (segments config ports run segment count) (sum_of (λ s. times (segment_length config s) (flop + flop)) (range_with_len segment count))
  unfolding segments
  segments_have config ports run segment zero = weighs_pure {A = List MaskNets} (weight test library) library []
  segments_have config ports run segment (suc count) =
      let own = times (segment_length config segment) (flop + flop) in
      let rest = sum_of (λ s. times (segment_length config s) (flop + flop)) (range_with_len (segment + 1) count) in
      weighs_as (weight test library) library (segments config ports run segment (suc count)) (own + (rest + 0)) (own + rest) (omega arith)
      (weighs_bind (weight test library) library (a_segment ports run (net_at ports.masks segment) (segment_length config segment)) (λ first. segments config ports run (segment + 1) count >>= (λ more. pure (first ++ more))) own (rest + 0)
      (segment_has ports run (net_at ports.masks segment) (segment_length config segment))
      (λ first. weighs_bind (weight test library) library (segments config ports run (segment + 1) count) (λ more. pure (first ++ more)) rest 0 (segments_have config ports run (segment + 1) count) (λ more. weighs_pure (weight test library) library (first ++ more))))

  gated_has : (hold end : NetId) → Has (a_gated hold end) 0
  unfolding a_gated
  gated_has hold end = weighs_bind (weight test library) library (a_driving_gate Inv (hold ∷ [])) (λ shown. a_driving_gate And (shown ∷ end ∷ [])) 0 0 (driving_has Inv (hold ∷ []) (none.gates Inv)) (λ shown. driving_has And (shown ∷ end ∷ []) (none.gates And))

  output_has : (config : Config) (ports : EdtPorts) (gated : List NetId) (output : ℕ) → Has (an_output config ports gated output) 0
  unfolding an_output
  output_has config ports gated output =
      weighs_bind (weight test library) library (a_sum (map (net_at gated) (group_of config output))) (λ sum. a_gate Buf (sum ∷ []) (net_at ports.outputs output)) 0 0 (sum_has (map (net_at gated) (group_of config output))) (λ sum. gate_has Buf (sum ∷ []) (net_at ports.outputs output) (none.gates Buf))

  abbrev gates_of : Config → (ends : List NetId) → (masks : List MaskNets) → Recipe (List NetId)
  gates_of config ends masks = collect (λ chain. a_gated (masks_at masks chain).hold (net_at ends chain)) (range_with_len 0 config.chains)

  abbrev masks_weight : Config → ℕ
  masks_weight config = sum_of (λ s. times (segment_length config s) (flop + flop)) (range_with_len 0 config.compactor.mask_inputs)

  compactor_has : (config : Config) (ports : EdtPorts) (run : NetId) (ends : List NetId) → Has (a_compactor config ports run ends) (masks_weight config)
  unfolding a_compactor
  compactor_has config ports run ends =
      weighs_as (weight test library) library (a_compactor config ports run ends) (masks_weight config + (0 + 0)) (masks_weight config) (omega arith)
      (weighs_bind (weight test library) library (segments config ports run 0 config.compactor.mask_inputs) (λ masks. gates_of config ends masks >>= (λ gated. each (an_output config ports gated) (range_with_len 0 (length config.compactor.groups)))) (masks_weight config) (0 + 0)
      (segments_have config ports run 0 config.compactor.mask_inputs)
      (λ masks. weighs_bind (weight test library) library (gates_of config ends masks) (λ gated. each (an_output config ports gated) (range_with_len 0 (length config.compactor.groups))) 0 0
      (none_collect (weight test library) library (λ chain. a_gated (masks_at masks chain).hold (net_at ends chain)) (range_with_len 0 config.chains) (λ chain. gated_has (masks_at masks chain).hold (net_at ends chain)))
      (λ gated. none_each (weight test library) library (an_output config ports gated) (range_with_len 0 (length config.compactor.groups)) (λ output. output_has config ports gated output))))

  -- ---- the chains

  module _ (n : Netlist) (config : Config) (plan : Plan) (gap : Gap) where
    numbered_has : (cell : InstanceId) (pin : Option ℕ) (net : NetId) → Has (a_numbered_pin cell pin net) 0
    numbered_has cell None net = weighs_pure {A = Unit {0}} (weight test library) library (tt {0})
    numbered_has cell (Some pin) net = λ at is. refl

    role_has : (cell : InstanceId) (role : Role) (net : NetId) → Has (a_role_pin n cell role net) 0
    role_has cell role net = numbered_has cell (number_of (same_role role) 0 (scan_roles n cell)) net

    scan_in_has : (cell : Option InstanceId) (net : NetId) → Has (a_scan_in n cell net) 0
    scan_in_has None net = weighs_pure {A = Unit {0}} (weight test library) library (tt {0})
    scan_in_has (Some cell) net = role_has cell ScanIn net

    open_has : (cell : InstanceId) → Has (an_open_output n cell) 0
    unfolding an_open_output
    open_has cell =
        weighs_bind (weight test library) library a_net (λ net. a_role_pin n cell Output net >> pure net) 0 0 net_has
        (λ net. weighs_bind (weight test library) library (a_role_pin n cell Output net) (λ _. pure net) 0 0 (role_has cell Output net) (λ _. weighs_pure (weight test library) library net))

    own_has : (cell : InstanceId) (own : Option ℕ) → Has (own_or_made n gap cell own) 0
    own_has cell None = open_has cell
    own_has cell (Some net) = weighs_pure {A = NetId} (weight test library) library (record { 0 = moved gap net })

    rows_have : Has (rows n gap plan.chains) 0
    rows_have = none_collect (weight test library) library (a_row n gap) plan.chains (λ cells. none_collect (weight test library) library (chained.an_output n gap) cells (λ cell. own_has cell (own_output n cell)))

    clock_has : (port : NetId) (high : Bool) → Has (a_lockup_clock port high) 0
    clock_has port false = weighs_pure {A = NetId} (weight test library) library port
    clock_has port true = driving_has Inv (port ∷ []) (none.gates Inv)

    behind_cell_has : (cells : List InstanceId) (outputs : List NetId) (after : ℕ) (clock : NetId) → Has (a_lockup_behind n cells outputs after clock) (0 + (lock + 0))
    unfolding a_lockup_behind
    behind_cell_has cells outputs after clock =
        weighs_bind (weight test library) library a_net (λ net. a_lockup clock (net_at outputs after) net >> a_scan_in n (slice_get cells (after + 1)) net) 0 (lock + 0) net_has
        (λ net. weighs_bind (weight test library) library (a_lockup clock (net_at outputs after) net) (λ _. a_scan_in n (slice_get cells (after + 1)) net) lock 0 (lockup_has clock (net_at outputs after) net)
        (λ _. scan_in_has (slice_get cells (after + 1)) net))

    crossing_has : (cells : List InstanceId) (outputs : List NetId) (l : LockupPlace) → Has (a_crossing n config gap cells outputs l) lock
    unfolding a_crossing
    crossing_has cells outputs l =
        weighs_as (weight test library) library (a_crossing n config gap cells outputs l) (0 + (0 + (lock + 0))) lock (omega arith)
        (weighs_bind (weight test library) library (a_lockup_clock (record { 0 = domain_in n gap config l.domain }) l.high) (λ clock. a_lockup_behind n cells outputs l.after clock) 0 (0 + (lock + 0))
        (clock_has (record { 0 = domain_in n gap config l.domain }) l.high) (λ clock. behind_cell_has cells outputs l.after clock))

    -- a lock-up counts where it stands in the chain
    either_has : (b : Bool) (r : Recipe (Unit {0})) → Has r lock → Has (if b then r else pure tt) (if b then lock else 0)
    either_has true r h = h
    either_has false r h = weighs_pure {A = Unit {0}} (weight test library) library (tt {0})

    abbrev crossings : (chain : ℕ) → ℕ
    crossings chain = sum_of (λ (l : LockupPlace). if l.chain == chain then lock else 0) plan.lockups

    abbrev stepped : (cells : List InstanceId) → (outputs : List NetId) → Recipe (Unit {0})
    stepped cells outputs = each (a_step n cells outputs) (range_with_len 0 (length cells))

    abbrev crossed : (chain : ℕ) → (cells : List InstanceId) → (outputs : List NetId) → Recipe (Unit {0})
    crossed chain cells outputs = each (crossing_in n config gap chain cells outputs) plan.lockups

    chain_has : (chain : ℕ) (cells : List InstanceId) (outputs : List NetId) (entry : NetId) → Has (a_chain n config gap plan.lockups chain cells outputs entry) (crossings chain)
    unfolding a_chain
    chain_has chain cells outputs entry =
        weighs_as (weight test library) library (a_chain n config gap plan.lockups chain cells outputs entry) (0 + (crossings chain + 0)) (crossings chain) (omega arith)
        (weighs_bind (weight test library) library (a_scan_in n (slice_get cells 0) entry) (λ _. crossed chain cells outputs >> stepped cells outputs) 0 (crossings chain + 0)
        (scan_in_has (slice_get cells 0) entry)
        (λ _. weighs_bind (weight test library) library (crossed chain cells outputs) (λ _. stepped cells outputs) (crossings chain) 0
        (weighs_each (weight test library) library (crossing_in n config gap chain cells outputs) (λ (l : LockupPlace). if l.chain == chain then lock else 0) plan.lockups (λ l. either_has (l.chain == chain) (a_crossing n config gap cells outputs l) (crossing_has cells outputs l)))
        (λ _. none_each (weight test library) library (a_step n cells outputs) (range_with_len 0 (length cells)) (λ place. scan_in_has (slice_get cells (place + 1)) (net_at outputs place)))))

    latched_has : (chain : ℕ) (cells : List InstanceId) (outputs : List NetId) (clock phase : NetId) → Has (a_latched_chain n config gap plan.lockups chain cells outputs clock phase) (lock + crossings chain)
    unfolding a_latched_chain
    latched_has chain cells outputs clock phase =
        weighs_as (weight test library) library (a_latched_chain n config gap plan.lockups chain cells outputs clock phase) (0 + (lock + crossings chain)) (lock + crossings chain) (omega arith)
        (weighs_bind (weight test library) library a_net (λ entry. a_lockup clock phase entry >> a_chain n config gap plan.lockups chain cells outputs entry) 0 (lock + crossings chain) net_has
        (λ entry. weighs_bind (weight test library) library (a_lockup clock phase entry) (λ _. a_chain n config gap plan.lockups chain cells outputs entry) lock (crossings chain) (lockup_has clock phase entry) (λ _. chain_has chain cells outputs entry)))

    -- a chain behind its phase sum has a lock-up more where its first cell rises
    abbrev entered : (falling : Bool) → ℕ
    entered falling = if falling then 0 else lock

    fed_has : (falling : Bool) (chain : ℕ) (cells : List InstanceId) (outputs : List NetId) (clock phase : NetId) → Has (a_fed_chain falling n config gap plan.lockups chain cells outputs clock phase) (entered falling + crossings chain)
    fed_has true chain cells outputs clock phase = weighs_as (weight test library) library (a_chain n config gap plan.lockups chain cells outputs phase) (crossings chain) (0 + crossings chain) (omega arith) (chain_has chain cells outputs phase)
    fed_has false chain cells outputs clock phase = latched_has chain cells outputs clock phase

    -- ---- the recipes

    abbrev chain_numbers : List ℕ
    chain_numbers = range_with_len 0 (length plan.chains)

    pub plain_has : Has (plain_recipe n config plan gap) (sum_of crossings chain_numbers)
    unfolding plain_recipe
    plain_has =
        weighs_as (weight test library) library (plain_recipe n config plan gap) (0 + (sum_of crossings chain_numbers + 0)) (sum_of crossings chain_numbers) (omega arith)
        (weighs_bind (weight test library) library (rows n gap plan.chains) (λ outputs. each (a_plain_chain n config plan gap outputs) chain_numbers >> each (a_plain_end config gap outputs) chain_numbers) 0 (sum_of crossings chain_numbers + 0) rows_have
        (λ outputs. weighs_bind (weight test library) library (each (a_plain_chain n config plan gap outputs) chain_numbers) (λ _. each (a_plain_end config gap outputs) chain_numbers) (sum_of crossings chain_numbers) 0
        (weighs_each (weight test library) library (a_plain_chain n config plan gap outputs) crossings chain_numbers (λ chain. chain_has chain (cells_at plan.chains chain) (row_at outputs chain) (plain_in gap.before chain)))
        (λ _. none_each (weight test library) library (a_plain_end config gap outputs) chain_numbers (λ chain. gate_has Buf (last_net (row_at outputs chain) ∷ []) (plain_out gap.before config.chains chain) (none.gates Buf)))))

    abbrev fed : (chain : ℕ) → ℕ
    fed chain = entered (falling_head plan chain) + crossings chain

    abbrev edt_weight : ℕ
    edt_weight = times config.ring.stages flop + (sum_of fed chain_numbers + masks_weight config)

    behind_has : (ports : EdtPorts) (outputs : List (List NetId)) → Has (behind_rows n config plan gap ports outputs) edt_weight
    unfolding behind_rows
    behind_has ports outputs =
        weighs_bind (weight test library) library (a_ring config ports) (λ ring. each (an_edt_chain n config plan gap ports ring.phases outputs) chain_numbers >> a_compactor config ports ring.run (map last_net outputs)) (times config.ring.stages flop) (sum_of fed chain_numbers + masks_weight config)
        (ring_has config ports)
        (λ ring. weighs_bind (weight test library) library (each (an_edt_chain n config plan gap ports ring.phases outputs) chain_numbers) (λ _. a_compactor config ports ring.run (map last_net outputs)) (sum_of fed chain_numbers) (masks_weight config)
        (weighs_each (weight test library) library (an_edt_chain n config plan gap ports ring.phases outputs) fed chain_numbers (λ chain. fed_has (falling_head plan chain) chain (cells_at plan.chains chain) (row_at outputs chain) ports.edt_clock (net_at ring.phases chain)))
        (λ _. compactor_has config ports ring.run (map last_net outputs)))

    pub edt_has : (ports : EdtPorts) → Has (edt_recipe n config plan gap ports) edt_weight
    unfolding edt_recipe
    edt_has ports =
        weighs_as (weight test library) library (edt_recipe n config plan gap ports) (0 + edt_weight) edt_weight (omega arith)
        (weighs_bind (weight test library) library (rows n gap plan.chains) (behind_rows n config plan gap ports) 0 edt_weight rows_have (λ outputs. behind_has ports outputs))

-- ---- all lock-ups, and all masks

-- each planned lock-up stands in one of the chains
pub crossings_all : (lock chains : ℕ) (ls : List LockupPlace) → AllByRecursion (λ l. l.chain < chains) ls →
    sum_of (λ (c : ℕ). sum_of (λ (l : LockupPlace). if l.chain == c then lock else 0) ls) (range_with_len 0 chains) ≡ times (length ls) lock
crossings_all lock chains [] all = sum_zero (range_with_len 0 chains)
crossings_all lock chains (l ∷ ls) all =
    omega (
      arith,
      sum_add (λ (c : ℕ). if l.chain == c then lock else 0) (λ (c : ℕ). sum_of (λ (k : LockupPlace). if k.chain == c then lock else 0) ls) (range_with_len 0 chains),
      one_in_range l.chain 0 chains lock (omega arith) (omega (arith, all.0)),
      crossings_all lock chains ls all.1,
    )

-- the segments have all chains
pub segments_all : (config : Config) (pair from count : ℕ) → sum_of (λ s. times (segment_length config s) pair) (range_with_len from count) + times (segment_start config from) pair ≡ times (segment_start config (from + count)) pair
segments_all config pair from zero = let e : from + 0 ≡ from = omega arith in omega (arith, ap (λ k. times (segment_start config k) pair) e)
segments_all config pair from (suc count) =
    let next : from + 1 ≡ suc from = omega arith in
    let end : from + 1 + count ≡ from + suc count = omega arith in
    let step : times (segment_start config (from + 1)) pair ≡ times (segment_start config from) pair + times (segment_length config from) pair = ap (λ k. times (segment_start config k) pair) next ∙ times_add (segment_start config from) (segment_length config from) pair in
    omega (arith, segments_all config pair (from + 1) count, step, ap (λ k. times (segment_start config k) pair) end)

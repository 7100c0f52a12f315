-- What holds of every part of a scanned netlist's recipe; and that its parts join only scan inputs and outputs of scanned flip-flops.
use Rattle.std.proofs.Common.{ℕ, zero, suc, ◌+◌, ◌≡◌, ◌==◌, ◌⊎◌, inl, inr, Bool, true, false, List, [], ◌∷◌, length, map, Option, None, Some, option_and_then, slice_get, refl, ap, ◌∙◌}
use Rattle.std.specs.Prelude.{slice_index_or, if◌then◌else◌}
use Rattle.std.specs.List.{range_with_len, AllByRecursion}
use Rattle.std.proofs.lemmas.Option.{none-some}
use Rattle.dft_cells.specs.declared.kind.Gate.TheVariants.{Buf, Inv}
use Rattle.dft_cells.specs.declared.kind.Role.TheVariants.{Output, ScanIn}
use Rattle.dft_netlist.specs.declared.ids.NetId.{NetId}
use Rattle.dft_netlist.specs.declared.ids.InstanceId.{InstanceId}
use Rattle.dft_netlist.specs.Connections.{same_role}
use Rattle.dft_netlist.specs.Netlist.{Netlist}
use Rattle.dft_config.specs.Config.{Config}
use Rattle.dft_config.specs.Range.{IsInRange}
use Rattle.dft_rules.specs.Refusals.{is_scanned}
use Rattle.dft_rules.specs.Rules.{judged}
use Rattle.dft_stitch.specs.declared.places.LockupPlace.{LockupPlace}
use Rattle.dft_stitch.specs.Chains.{plan_of}
use Rattle.dft_stitch.specs.Plans.{Plan, cell_at, falling_head}
use Rattle.dft_stitch.proofs.OnceLemmas.{cells_scanned}
use Rattle.dft_parts.specs.declared.edt_ports.EdtPorts.{EdtPorts}
use Rattle.dft_parts.specs.Parts.{Part, APin}
use Rattle.dft_parts.specs.Recipes.{Recipe, pure, ◌>>◌, each, net_at, a_net, a_lockup, start_of}
use Rattle.dft_edt.specs.RingRecipe.{a_ring}
use Rattle.dft_edt.specs.CompactorRecipe.{a_compactor}
use Rattle.dft_scan_frame.specs.Moves.{Gap, moved}
use Rattle.dft_scan_frame.specs.Pins.{domain_in, number_of, own_output}
use Rattle.dft_insert.specs.declared.style.Style.{Style}
use Rattle.dft_insert.specs.declared.style.Style.TheVariants.{Plain, Edt}
use Rattle.dft_insert.specs.Chained.{scan_roles, a_numbered_pin, a_role_pin, a_scan_in, an_open_output, own_or_made, an_output, a_row, rows, a_lockup_clock, a_lockup_behind, a_crossing, crossing_in, a_step, a_chain, a_latched_chain, a_fed_chain, cells_at, row_at, last_net}
use Rattle.dft_insert.specs.Ports.{gap_in, edt_nets, plain_in, plain_out}
use Rattle.dft_insert.specs.Scanned.{a_plain_chain, a_plain_end, plain_recipe, an_edt_chain, behind_rows, edt_recipe, recipe, framed, parts_of}
use Rattle.dft_insert.proofs.Free.{HoldsFree, net_free, driving_free, gate_free, lockup_free, ring_free, compactor_free}
use Rattle.dft_insert.proofs.Joins.{Holds, JoinsAt, holds_pure, holds_bind, holds_each, holds_collect}

-- a pin of a scanned flip-flop's scan cell: its output, or its scan input
pub record IsChainPin (n : Netlist) (config : Config) (i pin : ℕ) : Type 0 where
  pub scanned : is_scanned (judged n config i) ≡ true
  pub role : (Some pin ≡ number_of (same_role Output) 0 (scan_roles n (record { 0 = i }))) ⊎ (Some pin ≡ number_of (same_role ScanIn) 0 (scan_roles n (record { 0 = i })))

-- a part joins only such pins
abbrev pub OnChains : Netlist → Config → Part → Type 0
OnChains n config = JoinsAt (IsChainPin n config)

abbrev Scans : Netlist → Config → InstanceId → Type 0
Scans n config cell = is_scanned (judged n config cell.0) ≡ true

module _ (n : Netlist) (config : Config) (P : Part → Type 0) (free : HoldsFree P) (joined : (cell : InstanceId) (pin : ℕ) (net : NetId) → IsChainPin n config cell.0 pin → P (APin cell pin net)) where
  output_by : (cell : InstanceId) (net : NetId) (o : Option ℕ) → o ≡ number_of (same_role Output) 0 (scan_roles n cell) → Scans n config cell → Holds P (a_numbered_pin cell o net)
  output_by cell net None is scans at = tt
  output_by cell net (Some pin) is scans at = (joined cell pin net (record { scanned = scans; role = inl is }), tt)

  input_by : (cell : InstanceId) (net : NetId) (o : Option ℕ) → o ≡ number_of (same_role ScanIn) 0 (scan_roles n cell) → Scans n config cell → Holds P (a_numbered_pin cell o net)
  input_by cell net None is scans at = tt
  input_by cell net (Some pin) is scans at = (joined cell pin net (record { scanned = scans; role = inr is }), tt)

  scan_in_on : (o : Option InstanceId) (net : NetId) → ((cell : InstanceId) → o ≡ Some cell → Scans n config cell) → Holds P (a_scan_in n o net)
  scan_in_on None net scans = holds_pure {A = Unit {0}} P (tt {0})
  scan_in_on (Some cell) net scans = input_by cell net (number_of (same_role ScanIn) 0 (scan_roles n cell)) refl (scans cell refl)

  open_on : (cell : InstanceId) → Scans n config cell → Holds P (an_open_output n cell)
  unfolding an_open_output
  open_on cell scans =
      holds_bind P a_net (λ net. a_role_pin n cell Output net >> pure net) (net_free P free)
      (λ net. holds_bind P (a_role_pin n cell Output net) (λ _. pure net) (output_by cell net (number_of (same_role Output) 0 (scan_roles n cell)) refl scans) (λ _. holds_pure P net))

  own_on : (gap : Gap) (cell : InstanceId) (o : Option ℕ) → Scans n config cell → Holds P (own_or_made n gap cell o)
  own_on gap cell None scans = open_on cell scans
  own_on gap cell (Some net) scans = holds_pure {A = NetId} P (record { 0 = moved gap net })

  -- ---- cells of the plan

  module _ (plan : Plan) (cells_scan : (chain place : ℕ) (cell : InstanceId) → cell_at plan.chains chain place ≡ Some cell → Scans n config cell) where
    at_chain : (chain place : ℕ) (cells : List InstanceId) (cell : InstanceId) → slice_get plan.chains chain ≡ Some cells → slice_get cells place ≡ Some cell → cell_at plan.chains chain place ≡ Some cell
    at_chain chain place cells cell there here = ap (option_and_then (λ (cs : List InstanceId). slice_get cs place)) there ∙ here

    rows_on : (gap : Gap) → Holds P (rows n gap plan.chains)
    rows_on gap =
        holds_collect P (a_row n gap) plan.chains
        (λ chain cells there. holds_collect P (an_output n gap) cells
        (λ place cell here. own_on gap cell (own_output n cell) (cells_scan chain place cell (at_chain chain place cells cell there here))))

    -- the cells of a chain
    index_by : (chain place : ℕ) (cell : InstanceId) (xs : List (List InstanceId)) → slice_get (slice_index_or xs chain []) place ≡ Some cell → option_and_then (λ (cs : List InstanceId). slice_get cs place) (slice_get xs chain) ≡ Some cell
    index_by chain place cell [] h = absurd (none-some cell h)
    index_by zero place cell (x ∷ xs) h = h
    index_by (suc chain) place cell (x ∷ xs) h = index_by chain place cell xs h

    cells_on : (chain place : ℕ) (cell : InstanceId) → slice_get (cells_at plan.chains chain) place ≡ Some cell → Scans n config cell
    cells_on chain place cell h = cells_scan chain place cell (index_by chain place cell plan.chains h)

    clock_on : (port : NetId) (high : Bool) → Holds P (a_lockup_clock port high)
    clock_on port false = holds_pure {A = NetId} P port
    clock_on port true = driving_free P Inv (port ∷ []) free

    lockup_on : (chain : ℕ) (outputs : List NetId) (after : ℕ) (clock : NetId) → Holds P (a_lockup_behind n (cells_at plan.chains chain) outputs after clock)
    unfolding a_lockup_behind
    lockup_on chain outputs after clock =
        holds_bind P a_net (λ net. a_lockup clock (net_at outputs after) net >> a_scan_in n (slice_get (cells_at plan.chains chain) (after + 1)) net) (net_free P free)
        (λ net. holds_bind P (a_lockup clock (net_at outputs after) net) (λ _. a_scan_in n (slice_get (cells_at plan.chains chain) (after + 1)) net) (lockup_free P clock (net_at outputs after) net free)
        (λ _. scan_in_on (slice_get (cells_at plan.chains chain) (after + 1)) net (λ cell h. cells_on chain (after + 1) cell h)))

    crossing_on : (gap : Gap) (chain : ℕ) (outputs : List NetId) (l : LockupPlace) → Holds P (a_crossing n config gap (cells_at plan.chains chain) outputs l)
    unfolding a_crossing
    crossing_on gap chain outputs l =
        holds_bind P (a_lockup_clock (record { 0 = domain_in n gap config l.domain }) l.high) (λ clock. a_lockup_behind n (cells_at plan.chains chain) outputs l.after clock)
        (clock_on (record { 0 = domain_in n gap config l.domain }) l.high) (λ clock. lockup_on chain outputs l.after clock)

    either_on : (b : Bool) (r : Recipe (Unit {0})) → Holds P r → Holds P (if b then r else pure tt)
    either_on true r h = h
    either_on false r h = holds_pure {A = Unit {0}} P (tt {0})

    abbrev stepped : (chain : ℕ) → (outputs : List NetId) → Recipe (Unit {0})
    stepped chain outputs = each (a_step n (cells_at plan.chains chain) outputs) (range_with_len 0 (length (cells_at plan.chains chain)))

    abbrev crossed : (gap : Gap) → (chain : ℕ) → (outputs : List NetId) → Recipe (Unit {0})
    crossed gap chain outputs = each (crossing_in n config gap chain (cells_at plan.chains chain) outputs) plan.lockups

    chain_on : (gap : Gap) (chain : ℕ) (outputs : List NetId) (entry : NetId) → Holds P (a_chain n config gap plan.lockups chain (cells_at plan.chains chain) outputs entry)
    unfolding a_chain
    chain_on gap chain outputs entry =
        holds_bind P (a_scan_in n (slice_get (cells_at plan.chains chain) 0) entry) (λ _. crossed gap chain outputs >> stepped chain outputs)
        (scan_in_on (slice_get (cells_at plan.chains chain) 0) entry (λ cell h. cells_on chain 0 cell h))
        (λ _. holds_bind P (crossed gap chain outputs) (λ _. stepped chain outputs)
        (holds_each P (crossing_in n config gap chain (cells_at plan.chains chain) outputs) plan.lockups (λ k l there. either_on (l.chain == chain) (a_crossing n config gap (cells_at plan.chains chain) outputs l) (crossing_on gap chain outputs l)))
        (λ _. holds_each P (a_step n (cells_at plan.chains chain) outputs) (range_with_len 0 (length (cells_at plan.chains chain)))
        (λ k place there. scan_in_on (slice_get (cells_at plan.chains chain) (place + 1)) (net_at outputs place) (λ cell h. cells_on chain (place + 1) cell h))))

    latched_on : (gap : Gap) (chain : ℕ) (outputs : List NetId) (clock phase : NetId) → Holds P (a_latched_chain n config gap plan.lockups chain (cells_at plan.chains chain) outputs clock phase)
    unfolding a_latched_chain
    latched_on gap chain outputs clock phase =
        holds_bind P a_net (λ entry. a_lockup clock phase entry >> a_chain n config gap plan.lockups chain (cells_at plan.chains chain) outputs entry) (net_free P free)
        (λ entry. holds_bind P (a_lockup clock phase entry) (λ _. a_chain n config gap plan.lockups chain (cells_at plan.chains chain) outputs entry) (lockup_free P clock phase entry free)
        (λ _. chain_on gap chain outputs entry))

    fed_on : (falling : Bool) (gap : Gap) (chain : ℕ) (outputs : List NetId) (clock phase : NetId) → Holds P (a_fed_chain falling n config gap plan.lockups chain (cells_at plan.chains chain) outputs clock phase)
    fed_on true gap chain outputs clock phase = chain_on gap chain outputs phase
    fed_on false gap chain outputs clock phase = latched_on gap chain outputs clock phase

    plain_on : (gap : Gap) → Holds P (plain_recipe n config plan gap)
    unfolding plain_recipe
    plain_on gap =
        holds_bind P (rows n gap plan.chains)
        (λ outputs. each (a_plain_chain n config plan gap outputs) (range_with_len 0 (length plan.chains)) >> each (a_plain_end config gap outputs) (range_with_len 0 (length plan.chains)))
        (rows_on gap)
        (λ outputs. holds_bind P (each (a_plain_chain n config plan gap outputs) (range_with_len 0 (length plan.chains))) (λ _. each (a_plain_end config gap outputs) (range_with_len 0 (length plan.chains)))
        (holds_each P (a_plain_chain n config plan gap outputs) (range_with_len 0 (length plan.chains)) (λ k chain there. chain_on gap chain (row_at outputs chain) (plain_in gap.before chain)))
        (λ _. holds_each P (a_plain_end config gap outputs) (range_with_len 0 (length plan.chains)) (λ k chain there. gate_free P Buf (last_net (row_at outputs chain) ∷ []) (plain_out gap.before config.chains chain) free)))

    behind_on : (gap : Gap) (ports : EdtPorts) (outputs : List (List NetId)) → Holds P (behind_rows n config plan gap ports outputs)
    unfolding behind_rows
    behind_on gap ports outputs =
        holds_bind P (a_ring config ports)
        (λ ring. each (an_edt_chain n config plan gap ports ring.phases outputs) (range_with_len 0 (length plan.chains)) >> a_compactor config ports ring.run (map last_net outputs))
        (ring_free P config ports free)
        (λ ring. holds_bind P (each (an_edt_chain n config plan gap ports ring.phases outputs) (range_with_len 0 (length plan.chains))) (λ _. a_compactor config ports ring.run (map last_net outputs))
        (holds_each P (an_edt_chain n config plan gap ports ring.phases outputs) (range_with_len 0 (length plan.chains)) (λ k chain there. fed_on (falling_head plan chain) gap chain (row_at outputs chain) ports.edt_clock (net_at ring.phases chain)))
        (λ _. compactor_free P config ports ring.run (map last_net outputs) free))

    edt_on : (gap : Gap) (ports : EdtPorts) → Holds P (edt_recipe n config plan gap ports)
    unfolding edt_recipe
    edt_on gap ports = holds_bind P (rows n gap plan.chains) (behind_rows n config plan gap ports) (rows_on gap) (λ outputs. behind_on gap ports outputs)

    recipe_on : (style : Style) → Holds P (recipe style n config plan)
    recipe_on Plain = plain_on (gap_in Plain n config)
    recipe_on Edt = edt_on (gap_in Edt n config) (edt_nets (gap_in Edt n config).before config)

-- what holds of nets, of instances and of such pins holds of all parts
pub parts_hold : (P : Part → Type 0) (style : Style) (n : Netlist) (config : Config) → HoldsFree P → ((cell : InstanceId) (pin : ℕ) (net : NetId) → IsChainPin n config cell.0 pin → P (APin cell pin net)) → IsInRange config → AllByRecursion P (parts_of style n config (plan_of n config))
parts_hold P style n config free joined range =
    recipe_on n config P free joined (plan_of n config) (λ chain place cell h. ap is_scanned (cells_scanned n config chain place cell range h).is) style (start_of (framed style n config))

-- the parts that are made join only such pins
pub parts_on : (style : Style) (n : Netlist) (config : Config) → IsInRange config → AllByRecursion (OnChains n config) (parts_of style n config (plan_of n config))
parts_on style n config range =
    parts_hold (OnChains n config) style n config (record { net = tt; cell = λ id pins. tt; gate = λ kind inputs output. tt }) (λ cell pin net h. h) range

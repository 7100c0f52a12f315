-- The flip-flops that style Edt adds stand in the order of its parts.
use Rattle.std.proofs.Common.{ℕ, ◌+◌, ◌*◌, ◌≤◌, ◌≡◌, inl, inr, true, List, [], ◌++◌, length, map, filter, refl, sym, ap, arith, ◌∙◌}
use Rattle.std.specs.List.{range_with_len}
use Rattle.dft_cells.specs.declared.cell.Cell.{Cell}
use Rattle.dft_cells.specs.FlipFlops.{is_flip_flop}
use Rattle.dft_cells.specs.WellFormed.{IsWellFormed}
use Rattle.dft_netlist.specs.declared.instance.CellRef.TheVariants.{Library}
use Rattle.dft_netlist.specs.Drivers.{Shape, kind_at, shape_of}
use Rattle.dft_netlist.specs.Netlist.{Netlist}
use Rattle.dft_stitch.specs.Chains.{plan_of}
use Rattle.dft_stitch.specs.Plans.{falling_head}
use Rattle.dft_parts.specs.Cells.{is_dff, first_cell}
use Rattle.dft_parts.specs.Growth.{instances_in}
use Rattle.dft_parts.specs.Parts.{Part}
use Rattle.dft_parts.specs.Recipes.{net_at, start_of}
use Rattle.dft_parts.proofs.Growing.{parts_grow}
use Rattle.dft_parts.proofs.Stores.{dff_shape}
use Rattle.dft_insert.specs.declared.style.Style.TheVariants.{Edt}
use Rattle.dft_insert.specs.Chained.{cells_at, row_at, last_net}
use Rattle.dft_insert.specs.Ports.{gap_in}
use Rattle.dft_insert.specs.Scanned.{an_edt_chain, framed}
use Rattle.dft_insert.specs.Statements.{scanned, made_in}
use Rattle.dft_scan_behavior.specs.Facts.{rows_in, ports_of, ring_start, ring_parts, ring_number, chains_start, chain_parts, compactor_start, compactor_number, edt_hardware}
use Rattle.dft_scan_behavior.specs.FlopOrder.{FlopsInOrder}
use Rattle.dft_scan_behavior.proofs.Cuts.{compactor_list, rest_of, made_cut, all_there}
use Rattle.dft_scan_behavior.proofs.FlopsListed.{flops_in, flops-append, flops_there, quiet_each}
use Rattle.dft_scan_behavior.proofs.FlopsPlaced.{ring_listed, compactor_listed, pairs_from, pairs_are, rows_quiet, fed_quiet}

first_is : (library : List Cell) → IsWellFormed library → is_flip_flop (shape_of library (Library (first_cell is_dff library))).kind ≡ true
first_is library well = elim (dff_shape library well) [
  | inl e ↦ ap (λ (s : Shape). is_flip_flop s.kind) e
  | inr e ↦ ap (λ (s : Shape). is_flip_flop s.kind) e
]

pub flops_in_order : FlopsInOrder
flops_in_order n config ready =
    let w : Netlist = scanned Edt n config in
    let library : List Cell = n.library in
    let gap = gap_in Edt n config in
    let ports = ports_of n config in
    let rows : List Part = (rows_in Edt n config).parts in
    let ring : List Part = (ring_parts n config).parts in
    let chains : List Part = chain_parts n config in
    let masks : List Part = compactor_list n config in
    let first : ℕ = length n.instances in
    let same : w.library ≡ library = (parts_grow (framed Edt n config) (made_in Edt n config)).library in
    let dff = first_is library ready.library in
    let some : 1 ≤ config.compactor.mask_inputs = ready.range.compactor.mask_inputs.0 in
    let chained : flops_in library (ring_number n config + instances_in ring) chains ≡ [] =
    quiet_each library (an_edt_chain n config (plan_of n config) gap ports (ring_parts n config).value.phases (rows_in Edt n config).value) (range_with_len 0 (length (plan_of n config).chains))
    (λ chain. fed_quiet library ready.library n (falling_head (plan_of n config) chain) config gap (plan_of n config).lockups chain (cells_at (plan_of n config).chains chain) (row_at (rows_in Edt n config).value chain) ports.edt_clock (net_at (ring_parts n config).value.phases chain))
    (chains_start n config) (ring_number n config + instances_in ring) refl in
    let stages : List ℕ = map (edt_hardware n config).stage (range_with_len 0 config.ring.stages) in
    let pairs : List ℕ = pairs_from library dff (compactor_number n config) config.chains in
    let zeroth : compactor_number n config ≡ compactor_number n config + 5 * 0 = omega arith in
    ap (λ (ps : List Part). filter (λ i. is_flip_flop (kind_at w i)) (range_with_len first (instances_in ps))) (made_cut Edt n config)
    ∙ flops_there w first (rows ++ rest_of Edt n config) (all_there Edt n config)
    ∙ ap (λ (cells : List Cell). flops_in cells first (rows ++ rest_of Edt n config)) same
    ∙ flops-append library first rows (rest_of Edt n config)
    ∙ ap (λ (xs : List ℕ). xs ++ flops_in library (ring_number n config) (rest_of Edt n config)) (rows_quiet library ready.library n gap (plan_of n config).chains (start_of (framed Edt n config)) first refl)
    ∙ flops-append library (ring_number n config) ring (chains ++ masks)
    ∙ ap (λ (xs : List ℕ). xs ++ flops_in library (ring_number n config + instances_in ring) (chains ++ masks)) (ring_listed library dff config ports (ring_start n config) (ring_number n config) refl)
    ∙ ap (λ (xs : List ℕ). stages ++ xs) (flops-append library (ring_number n config + instances_in ring) chains masks)
    ∙ ap (λ (xs : List ℕ). stages ++ (xs ++ flops_in library (compactor_number n config) masks)) chained
    ∙ ap (λ (xs : List ℕ). stages ++ xs) (compactor_listed library dff config ports (ring_parts n config).value.run (map last_net (rows_in Edt n config).value) (compactor_start n config) (compactor_number n config) refl some)
    ∙ ap (λ (xs : List ℕ). stages ++ xs) (sym (pairs_are library dff (compactor_number n config) 0 config.chains (compactor_number n config) zeroth))

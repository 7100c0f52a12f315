-- Where the flip-flops stand among the parts of style Edt.
use Rattle.std.proofs.Common.{ℕ, zero, suc, ◌+◌, ◌*◌, ◌≤◌, ◌≡◌, ◌==◌, Bool, true, false, List, [], ◌∷◌, ◌++◌, length, map, flat_map, Option, None, Some, slice_get, refl, sym, ap, arith, ◌∙◌}
use Rattle.std.specs.Prelude.{if◌then◌else◌}
use Rattle.std.specs.List.{range_with_len}
use Rattle.std.proofs.lemmas.List.{append-nil, length-append, map-append}
use Rattle.dft_base.proofs.ListLemmas.{range_last}
use Rattle.dft_cells.specs.declared.kind.Gate.TheVariants.{Buf, Inv, And}
use Rattle.dft_cells.specs.declared.kind.Role.TheVariants.{Output}
use Rattle.dft_cells.specs.declared.cell.Cell.{Cell}
use Rattle.dft_cells.specs.FlipFlops.{is_flip_flop}
use Rattle.dft_cells.specs.WellFormed.{IsWellFormed}
use Rattle.dft_netlist.specs.declared.ids.NetId.{NetId}
use Rattle.dft_netlist.specs.declared.ids.InstanceId.{InstanceId}
use Rattle.dft_netlist.specs.declared.instance.CellRef.TheVariants.{Library}
use Rattle.dft_netlist.specs.Drivers.{shape_of}
use Rattle.dft_netlist.specs.Netlist.{Netlist}
use Rattle.dft_config.specs.Config.{Config}
use Rattle.dft_config.specs.declared.config.RingConfig.{RingConfig}
use Rattle.dft_stitch.specs.declared.places.LockupPlace.{LockupPlace}
use Rattle.dft_parts.specs.declared.edt_ports.EdtPorts.{EdtPorts}
use Rattle.dft_parts.specs.Cells.{is_dff, first_cell}
use Rattle.dft_parts.specs.Growth.{instances_in}
use Rattle.dft_parts.specs.Parts.{Part, ANet}
use Rattle.dft_parts.specs.Recipes.{Start, Recipe, pure, ◌>>◌, behind, each, collect, net_at, nets_made, a_net, a_gate, a_flop, a_lockup}
use Rattle.dft_parts.specs.Sums.{a_driving_gate, a_sum}
use Rattle.dft_edt.specs.Hardware.{group_of}
use Rattle.dft_config.specs.Segments.{segment_length, segment_start}
use Rattle.dft_edt.specs.RingRecipe.{stage_terms, a_stage, a_phase, a_ring}
use Rattle.dft_edt.specs.RingStands.{run_parts, stage_flop}
use Rattle.dft_edt.proofs.PartLists.{instances_in-append, each_parts, each_more}
use Rattle.dft_edt.specs.CompactorRecipe.{a_next, a_mask, a_segment, segments, masks_at, a_gated, a_compactor}
use Rattle.dft_edt.specs.CompactorRecipe as compact
use Rattle.dft_edt.proofs.MaskFacts.{segment_count, cut_count, mask_size, segment_size}
use Rattle.dft_edt.proofs.Steps.{all_segments}
use Rattle.dft_edt.proofs.RingFacts.{no_instance}
use Rattle.dft_scan_frame.specs.Moves.{Gap}
use Rattle.dft_scan_frame.specs.Pins.{domain_in, own_output}
use Rattle.dft_insert.specs.Chained.{a_numbered_pin, a_role_pin, a_scan_in, an_open_output, own_or_made, an_output, a_row, rows, a_lockup_clock, a_lockup_behind, a_crossing, crossing_in, a_step, a_chain, a_latched_chain, a_fed_chain}
use Rattle.dft_scan_behavior.proofs.FlopsListed.{flops_in, flops-append, Quiet, quiet_bind, quiet_pure, quiet_each, quiet_collect, quiet_net, quiet_gate, quiet_driving, quiet_lockup, quiet_sum}

-- ---- one flip-flop

-- the library's first flip-flop is one
abbrev IsDff : List Cell → Type 0
IsDff library = is_flip_flop (shape_of library (Library (first_cell is_dff library))).kind ≡ true

flop_alone : (library : List Cell) (clock input output : NetId) (at : Start) (i : ℕ) → IsDff library → at.library ≡ library → flops_in library i (a_flop clock input output at).parts ≡ i ∷ []
flop_alone library clock input output at i dff same =
    ap (λ (cells : List Cell). if is_flip_flop (shape_of library (Library (first_cell is_dff cells))).kind then i ∷ [] else []) same ∙ ap (λ b. if b then i ∷ [] else []) dff

-- quiet parts before others leave them
quiet_front : (library : List Cell) (i : ℕ) (xs ys : List Part) (its : List ℕ) → flops_in library i xs ≡ [] → flops_in library (i + instances_in xs) ys ≡ its → flops_in library i (xs ++ ys) ≡ its
quiet_front library i xs ys its h g = flops-append library i xs ys ∙ ap (λ (zs : List ℕ). zs ++ flops_in library (i + instances_in xs) ys) h ∙ g

-- and behind
quiet_back : (library : List Cell) (i : ℕ) (xs ys : List Part) (its : List ℕ) → flops_in library i xs ≡ its → flops_in library (i + instances_in xs) ys ≡ [] → flops_in library i (xs ++ ys) ≡ its
quiet_back library i xs ys its h g = flops-append library i xs ys ∙ ap (λ (zs : List ℕ). flops_in library i xs ++ zs) g ∙ append-nil (flops_in library i xs) ∙ h

-- ---- the ring

module _ (library : List Cell) (dff : IsDff library) where
  -- the flip-flop of a stage is its last instance
  stage_listed : (ring : RingConfig) (edt : EdtPorts) (run : NetId) (stages : List NetId) (stage : ℕ) (at : Start) (i k : ℕ) → at.library ≡ library → suc k ≡ i + instances_in (a_stage ring edt run stages stage at).parts → flops_in library i (a_stage ring edt run stages stage at).parts ≡ k ∷ []
  unfolding a_stage a_driving_gate
  stage_listed ring edt run stages stage at i k same last =
      let sum = a_sum (stage_terms ring edt.channels stages stage) at in
      let first = behind at sum.parts in
      let gate = a_driving_gate And (sum.value ∷ run ∷ []) first in
      let next = behind first gate.parts in
      let flop = a_flop edt.edt_clock gate.value (net_at stages stage) next in
      let size = instances_in-append sum.parts (gate.parts ++ flop.parts) in
      let is : suc (i + instances_in sum.parts) ≡ k = omega (arith, last, size) in
      quiet_front library i sum.parts (gate.parts ++ flop.parts) (k ∷ []) (quiet_sum library (stage_terms ring edt.channels stages stage) at i same)
      (flop_alone library edt.edt_clock gate.value (net_at stages stage) next (suc (i + instances_in sum.parts)) dff same ∙ ap (λ (j : ℕ). j ∷ []) is)

  stages_listed : (ring : RingConfig) (edt : EdtPorts) (run : NetId) (stages : List NetId) (at : Start) (i : ℕ) (flop : ℕ → ℕ) (count : ℕ) → at.library ≡ library →
      ((stage : ℕ) → suc (flop stage) ≡ i + instances_in (each (a_stage ring edt run stages) (range_with_len 0 (stage + 1)) at).parts) →
      flops_in library i (each (a_stage ring edt run stages) (range_with_len 0 count) at).parts ≡ map flop (range_with_len 0 count)
  unfolding each
  stages_listed ring edt run stages at i flop zero same is = refl
  stages_listed ring edt run stages at i flop (suc count) same is =
      let f = a_stage ring edt run stages in
      let first = (each f (range_with_len 0 count) at).parts in
      let own = (f count (behind at first)).parts in
      let one : suc count ≡ count + 1 = omega arith in
      let here : suc (flop count) ≡ i + instances_in first + instances_in own = omega (arith, is count, ap (λ (ks : List ℕ). instances_in (each f ks at).parts) (range_last count), each_more f (range_with_len 0 count) count at) in
      ap (λ (m : ℕ). flops_in library i (each f (range_with_len 0 m) at).parts) one
      ∙ ap (λ (ks : List ℕ). flops_in library i (each f ks at).parts) (range_last count)
      ∙ ap (flops_in library i) (each_parts f (range_with_len 0 count) (count ∷ []) at)
      ∙ flops-append library i first (own ++ [])
      ∙ ap (λ (xs : List ℕ). xs ++ flops_in library (i + instances_in first) (own ++ [])) (stages_listed ring edt run stages at i flop count same is)
      ∙ ap (λ (ps : List Part). map flop (range_with_len 0 count) ++ flops_in library (i + instances_in first) ps) (append-nil own)
      ∙ ap (λ (xs : List ℕ). map flop (range_with_len 0 count) ++ xs) (stage_listed ring edt run stages count (behind at first) (i + instances_in first) (flop count) same here)
      ∙ sym (map-append flop (range_with_len 0 count) (count ∷ []))
      ∙ ap (map flop) (sym (range_last count))
      ∙ ap (λ (m : ℕ). map flop (range_with_len 0 m)) (sym one)

  pub ring_listed : (config : Config) (edt : EdtPorts) (at : Start) (i : ℕ) → at.library ≡ library → flops_in library i (a_ring config edt at).parts ≡ map (stage_flop config edt at i) (range_with_len 0 config.ring.stages)
  unfolding a_ring stage_flop a_driving_gate
  ring_listed config edt at i same =
      let ring = config.ring in
      let run = (a_driving_gate Inv (edt.edt_update ∷ []) at).value in
      let rp = run_parts edt at in
      let t1 = behind at rp in
      let made = nets_made ring.stages t1 in
      let stages = made.value in
      let t2 = behind t1 made.parts in
      let f = a_stage ring edt run stages in
      let all = (each f (range_with_len 0 ring.stages) t2).parts in
      let t3 = behind t2 all in
      let phases = (collect (a_phase ring stages) (range_with_len 0 config.chains) t3).parts in
      let its = map (stage_flop config edt at i) (range_with_len 0 ring.stages) in
      let j1 = i + instances_in rp in
      let j2 = j1 + instances_in made.parts in
      let none = no_instance ring.stages 0 t1 in
      quiet_front library i rp (made.parts ++ (all ++ (phases ++ []))) its (quiet_driving library Inv (edt.edt_update ∷ []) refl at i same)
      (quiet_front library j1 made.parts (all ++ (phases ++ [])) its (quiet_collect library (λ _. a_net) (range_with_len 0 ring.stages) (λ _. quiet_net library) t1 j1 same)
      (quiet_back library j2 all (phases ++ []) its
      (stages_listed ring edt run stages t2 j2 (stage_flop config edt at i) ring.stages same (λ stage. omega (arith, none)))
      (ap (flops_in library (j2 + instances_in all)) (append-nil phases)
      ∙ quiet_collect library (a_phase ring stages) (range_with_len 0 config.chains) (λ chain. quiet_sum library _) t3 (j2 + instances_in all) same)))

  -- ---- masks and hold bits

  -- the first and the last of each five instances, so often
  abbrev pub pairs_from : (i count : ℕ) → List ℕ
  pairs_from i zero = []
  pairs_from i (suc count) = i ∷ (i + 4) ∷ pairs_from (i + 5) count

  pairs_append : (i j count more : ℕ) → j ≡ i + 5 * count → pairs_from i count ++ pairs_from j more ≡ pairs_from i (count + more)
  pairs_append i j zero more is = let e : j ≡ i = omega (arith, is) in let z : more ≡ 0 + more = omega arith in ap (λ k. pairs_from k more) e ∙ ap (pairs_from i) z
  pairs_append i j (suc count) more is =
      let e : suc (count + more) ≡ suc count + more = omega arith in
      ap (λ (xs : List ℕ). i ∷ (i + 4) ∷ xs) (pairs_append (i + 5) j count more (omega (arith, is))) ∙ ap (pairs_from i) e

  mask_listed : (edt : EdtPorts) (run before : NetId) (at : Start) (i : ℕ) → at.library ≡ library → flops_in library i (a_mask edt run before at).parts ≡ i ∷ (i + 4) ∷ []
  unfolding a_mask a_next a_driving_gate
  mask_listed edt run before at i same =
      let first : is_flip_flop (shape_of library (Library (first_cell is_dff at.library))).kind ≡ true = ap (λ (cells : List Cell). is_flip_flop (shape_of library (Library (first_cell is_dff cells))).kind) same ∙ dff in
      let hold : suc (suc (suc (suc i))) ≡ i + 4 = omega arith in
      ap (λ b. if b then i ∷ (if b then suc (suc (suc (suc i))) ∷ [] else []) else (if b then suc (suc (suc (suc i))) ∷ [] else [])) first ∙ ap (λ k. i ∷ k ∷ []) hold

  segment_listed : (edt : EdtPorts) (run before : NetId) (count : ℕ) (at : Start) (i : ℕ) → at.library ≡ library → flops_in library i (a_segment edt run before count at).parts ≡ pairs_from i count
  unfolding a_segment
  segment_listed edt run before zero at i same = refl
  segment_listed edt run before (suc count) at i same =
      let first = a_mask edt run before at in
      let next = behind at first.parts in
      let later = (a_segment edt run first.value.mask count next).parts in
      let size : i + instances_in first.parts ≡ i + 5 = omega (arith, mask_size edt run before at) in
      flops-append library i first.parts (later ++ [])
      ∙ ap (λ (xs : List ℕ). xs ++ flops_in library (i + instances_in first.parts) (later ++ [])) (mask_listed edt run before at i same)
      ∙ ap (λ (ps : List Part). i ∷ (i + 4) ∷ flops_in library (i + instances_in first.parts) ps) (append-nil later)
      ∙ ap (λ k. i ∷ (i + 4) ∷ flops_in library k later) size
      ∙ ap (λ (xs : List ℕ). i ∷ (i + 4) ∷ xs) (segment_listed edt run first.value.mask count next (i + 5) same)

  cut_listed : (config : Config) (edt : EdtPorts) (run : NetId) (segment count : ℕ) (at : Start) (i : ℕ) → at.library ≡ library → flops_in library i (segments config edt run segment count at).parts ≡ pairs_from i (length (segments config edt run segment count at).value)
  unfolding segments
  cut_listed config edt run segment zero at i same = refl
  cut_listed config edt run segment (suc count) at i same =
      let port = net_at edt.masks segment in
      let size = segment_length config segment in
      let first = a_segment edt run port size at in
      let next = behind at first.parts in
      let rest = segments config edt run (segment + 1) count next in
      let long : length first.value ≡ size = segment_count edt run port size at in
      let all : length first.value + length rest.value ≡ length (first.value ++ rest.value) = sym (length-append first.value rest.value) in
      flops-append library i first.parts (rest.parts ++ [])
      ∙ ap (λ (xs : List ℕ). xs ++ flops_in library (i + instances_in first.parts) (rest.parts ++ [])) (segment_listed edt run port size at i same)
      ∙ ap (λ (ps : List Part). pairs_from i size ++ flops_in library (i + instances_in first.parts) ps) (append-nil rest.parts)
      ∙ ap (λ (xs : List ℕ). pairs_from i size ++ xs) (cut_listed config edt run (segment + 1) count next (i + instances_in first.parts) same)
      ∙ pairs_append i (i + instances_in first.parts) size (length rest.value) (omega (arith, segment_size edt run port size at))
      ∙ ap (λ k. pairs_from i (k + length rest.value)) (sym long)
      ∙ ap (pairs_from i) all

  gated_quiet : (hold end : NetId) → Quiet library (a_gated hold end)
  unfolding a_gated a_driving_gate
  gated_quiet hold end at i same = refl

  output_quiet : (config : Config) (edt : EdtPorts) (gated : List NetId) (output : ℕ) → Quiet library (compact.an_output config edt gated output)
  unfolding compact.an_output
  output_quiet config edt gated output at i same =
      quiet_bind library (a_sum (map (net_at gated) (group_of config output))) (λ sum. a_gate Buf (sum ∷ []) (net_at edt.outputs output)) (quiet_sum library (map (net_at gated) (group_of config output)))
      (λ sum. quiet_gate library Buf (sum ∷ []) (net_at edt.outputs output) refl) at i same

  pub compactor_listed : (config : Config) (edt : EdtPorts) (run : NetId) (ends : List NetId) (at : Start) (i : ℕ) → at.library ≡ library → 1 ≤ config.compactor.mask_inputs → flops_in library i (a_compactor config edt run ends at).parts ≡ pairs_from i config.chains
  unfolding a_compactor
  compactor_listed config edt run ends at i same some =
      let masks = segments config edt run 0 config.compactor.mask_inputs at in
      let t1 = behind at masks.parts in
      let f : ℕ → Recipe NetId = λ chain. a_gated (masks_at masks.value chain).hold (net_at ends chain) in
      let gated = collect f (range_with_len 0 config.chains) t1 in
      let t2 = behind t1 gated.parts in
      let outputs = (each (compact.an_output config edt gated.value) (range_with_len 0 (length config.compactor.groups)) t2).parts in
      let j1 = i + instances_in masks.parts in
      let start : 0 + config.compactor.mask_inputs ≡ config.compactor.mask_inputs = omega arith in
      let count : length masks.value ≡ config.chains = omega (arith, cut_count config edt run 0 config.compactor.mask_inputs at, ap (segment_start config) start, all_segments config some) in
      quiet_back library i masks.parts (gated.parts ++ outputs) (pairs_from i config.chains)
      (cut_listed config edt run 0 config.compactor.mask_inputs at i same ∙ ap (pairs_from i) count)
      (quiet_front library j1 gated.parts outputs [] (quiet_collect library f (range_with_len 0 config.chains) (λ chain. gated_quiet (masks_at masks.value chain).hold (net_at ends chain)) t1 j1 same)
      (quiet_each library (compact.an_output config edt gated.value) (range_with_len 0 (length config.compactor.groups)) (λ output. output_quiet config edt gated.value output) t2 (j1 + instances_in gated.parts) same))

  pub pairs_are : (i from count j : ℕ) → j ≡ i + 5 * from → flat_map (λ chain. (i + 5 * chain) ∷ (i + (5 * chain + 4)) ∷ []) (range_with_len from count) ≡ pairs_from j count
  pairs_are i from zero j is = refl
  pairs_are i from (suc count) j is =
      let one : i + 5 * from ≡ j = omega (arith, is) in
      let other : i + (5 * from + 4) ≡ j + 4 = omega (arith, is) in
      (λ t. one t ∷ other t ∷ flat_map (λ chain. (i + 5 * chain) ∷ (i + (5 * chain + 4)) ∷ []) (range_with_len (from + 1) count))
      ∙ ap (λ (xs : List ℕ). j ∷ (j + 4) ∷ xs) (pairs_are i (from + 1) count (j + 5) (omega (arith, is)))

-- ---- rows and chains

module _ (library : List Cell) (well : IsWellFormed library) (n : Netlist) where
  pin_quiet : (cell : InstanceId) (o : Option ℕ) (net : NetId) → Quiet library (a_numbered_pin cell o net)
  pin_quiet cell None net at i same = refl
  pin_quiet cell (Some pin) net at i same = refl

  scan_in_quiet : (o : Option InstanceId) (net : NetId) → Quiet library (a_scan_in n o net)
  scan_in_quiet None net at i same = refl
  scan_in_quiet (Some cell) net at i same = pin_quiet cell _ net at i same

  own_quiet : (gap : Gap) (cell : InstanceId) (own : Option ℕ) → Quiet library (own_or_made n gap cell own)
  unfolding an_open_output
  own_quiet gap cell (Some net) at i same = refl
  own_quiet gap cell None at i same =
      quiet_bind library a_net (λ net. a_role_pin n cell Output net >> pure net) (quiet_net library)
      (λ net. quiet_bind library (a_role_pin n cell Output net) (λ _. pure net) (pin_quiet cell _ net) (λ _. quiet_pure library net)) at i same

  pub rows_quiet : (gap : Gap) (chains : List (List InstanceId)) → Quiet library (rows n gap chains)
  rows_quiet gap chains = quiet_collect library (a_row n gap) chains (λ cells. quiet_collect library (an_output n gap) cells (λ cell. own_quiet gap cell (own_output n cell)))

  clock_quiet : (port : NetId) (high : Bool) → Quiet library (a_lockup_clock port high)
  clock_quiet port false = quiet_pure library port
  clock_quiet port true = quiet_driving library Inv (port ∷ []) refl

  lockup_quiet : (cells : List InstanceId) (outputs : List NetId) (after : ℕ) (clock : NetId) → Quiet library (a_lockup_behind n cells outputs after clock)
  unfolding a_lockup_behind
  lockup_quiet cells outputs after clock at i same =
      quiet_bind library a_net (λ net. a_lockup clock (net_at outputs after) net >> a_scan_in n (slice_get cells (after + 1)) net) (quiet_net library)
      (λ net. quiet_bind library (a_lockup clock (net_at outputs after) net) (λ _. a_scan_in n (slice_get cells (after + 1)) net) (quiet_lockup library clock (net_at outputs after) net well)
      (λ _. scan_in_quiet (slice_get cells (after + 1)) net)) at i same

  crossing_quiet : (config : Config) (gap : Gap) (cells : List InstanceId) (outputs : List NetId) (l : LockupPlace) → Quiet library (a_crossing n config gap cells outputs l)
  unfolding a_crossing
  crossing_quiet config gap cells outputs l at i same =
      quiet_bind library (a_lockup_clock (record { 0 = domain_in n gap config l.domain }) l.high) (λ clock. a_lockup_behind n cells outputs l.after clock)
      (clock_quiet (record { 0 = domain_in n gap config l.domain }) l.high) (λ clock. lockup_quiet cells outputs l.after clock) at i same

  if_quiet : (b : Bool) (r : Recipe (Unit {0})) → Quiet library r → Quiet library (if b then r else pure tt)
  if_quiet true r h = h
  if_quiet false r h = λ at i same. refl

  chain_quiet : (config : Config) (gap : Gap) (lockups : List LockupPlace) (chain : ℕ) (cells : List InstanceId) (outputs : List NetId) (entry : NetId) → Quiet library (a_chain n config gap lockups chain cells outputs entry)
  unfolding a_chain
  chain_quiet config gap lockups chain cells outputs entry at i same =
      quiet_bind library (a_scan_in n (slice_get cells 0) entry) (λ _. each (crossing_in n config gap chain cells outputs) lockups >> each (a_step n cells outputs) (range_with_len 0 (length cells))) (scan_in_quiet (slice_get cells 0) entry)
      (λ _. quiet_bind library (each (crossing_in n config gap chain cells outputs) lockups) (λ _. each (a_step n cells outputs) (range_with_len 0 (length cells)))
      (quiet_each library (crossing_in n config gap chain cells outputs) lockups (λ l. if_quiet (l.chain == chain) (a_crossing n config gap cells outputs l) (crossing_quiet config gap cells outputs l)))
      (λ _. quiet_each library (a_step n cells outputs) (range_with_len 0 (length cells)) (λ place. scan_in_quiet (slice_get cells (place + 1)) (net_at outputs place)))) at i same

  latched_quiet : (config : Config) (gap : Gap) (lockups : List LockupPlace) (chain : ℕ) (cells : List InstanceId) (outputs : List NetId) (clock phase : NetId) → Quiet library (a_latched_chain n config gap lockups chain cells outputs clock phase)
  unfolding a_latched_chain
  latched_quiet config gap lockups chain cells outputs clock phase at i same =
      quiet_bind library a_net (λ entry. a_lockup clock phase entry >> a_chain n config gap lockups chain cells outputs entry) (quiet_net library)
      (λ entry. quiet_bind library (a_lockup clock phase entry) (λ _. a_chain n config gap lockups chain cells outputs entry) (quiet_lockup library clock phase entry well) (λ _. chain_quiet config gap lockups chain cells outputs entry)) at i same

  pub fed_quiet : (falling : Bool) (config : Config) (gap : Gap) (lockups : List LockupPlace) (chain : ℕ) (cells : List InstanceId) (outputs : List NetId) (clock phase : NetId) → Quiet library (a_fed_chain falling n config gap lockups chain cells outputs clock phase)
  fed_quiet true config gap lockups chain cells outputs clock phase = chain_quiet config gap lockups chain cells outputs phase
  fed_quiet false config gap lockups chain cells outputs clock phase = latched_quiet config gap lockups chain cells outputs clock phase

-- A scanned netlist adds as many flip-flops and lock-ups as its style has.
use Rattle.std.proofs.Common.{ℕ, zero, suc, ◌+◌, ◌≡◌, ◌==◌, ◌<◌, Bool, true, false, List, [], ◌∷◌, ◌++◌, length, drop, cond, Some, refl, sym, ap, arith, ◌∙◌}
use Rattle.std.specs.Prelude.{count_by, not, slice_index_or, if◌then◌else◌}
use Rattle.std.specs.List.{AllByRecursion, range_with_len}
use Rattle.std.proofs.lemmas.List.Sums.{sum_by-cons}
use Rattle.std.proofs.Math.Seq.{drop-append_seam}
use Rattle.std.proofs.lemmas.List.{length-map}
use Rattle.dft_cells.specs.declared.kind.Kind.{Kind}
use Rattle.dft_cells.specs.declared.kind.TheConstants.{DFF}
use Rattle.dft_cells.specs.declared.kind.Kind.TheVariants as kind
use Rattle.dft_cells.specs.declared.cell.Cell.{Cell}
use Rattle.dft_cells.specs.FlipFlops.{is_flip_flop}
use Rattle.dft_netlist.specs.declared.instance.Instance.{Instance}
use Rattle.dft_netlist.specs.Drivers.{shape_of}
use Rattle.dft_netlist.specs.Netlist.{Netlist}
use Rattle.dft_config.specs.Config.{Config}
use Rattle.dft_rules.specs.Rules.{judgements}
use Rattle.dft_stitch.specs.declared.places.LockupPlace.{LockupPlace}
use Rattle.dft_stitch.specs.Chains.{begins_falling, clock_at, plan_of}
use Rattle.dft_stitch.specs.Plans.{falling_head}
use Rattle.dft_stitch.proofs.LockupLemmas.{between_is, lockups_all}
use Rattle.dft_config.specs.Segments.{segment_length, segment_start}
use Rattle.dft_edt.proofs.Steps.{all_segments}
use Rattle.dft_parts.specs.Cells.{is_lockup}
use Rattle.dft_parts.specs.MadeNames.{made_instance}
use Rattle.dft_parts.specs.Parts.{Part, ANet, AnInstance, APin}
use Rattle.dft_parts.specs.Recipes.{start_of}
use Rattle.dft_parts.proofs.Growing.{parts_grow}
use Rattle.dft_scan_frame.specs.Moves.{Gap, map_from}
use Rattle.dft_scan_frame.specs.Statements.{IsReady}
use Rattle.dft_scan_frame.proofs.Whole.{length_map_from}
use Rattle.dft_insert.specs.declared.style.Style.{Style}
use Rattle.dft_insert.specs.declared.style.Style.TheVariants.{Plain, Edt}
use Rattle.dft_insert.specs.Ports.{gap_in, edt_nets}
use Rattle.dft_insert.specs.Scanned.{framed}
use Rattle.dft_insert.specs.Statements.{made_in, scanned}
use Rattle.dft_insert.proofs.Driving.{now_at, now_instances}
use Rattle.dft_insert.proofs.Merging.{news}
use Rattle.dft_insert.specs.Counts.{count_behind, flip_flops_in, lockups_in, CountsAdded}
use Rattle.dft_insert.proofs.Weights.{times, times_zero, times_one, times_two, sum_of, sum_add, total}
use Rattle.dft_insert.proofs.WeighedRecipes.{PassesNoGate, bit_weight, weight, plain_has, edt_has, crossings_all, segments_all}

-- ---- made instances

abbrev kind_passes : (Kind → Bool) → List Cell → Instance → Bool
kind_passes test library x = test (shape_of library x.cell).kind

-- the made instances that pass are those parts that weigh
news_counted : (test : Kind → Bool) (library : List Cell) (number : ℕ) (parts : List Part) → count_by (kind_passes test library) (news number parts) ≡ total (weight test library) parts
news_counted test library number [] = refl
news_counted test library number (ANet ∷ parts) = omega (arith, news_counted test library number parts)
news_counted test library number (AnInstance cell pins ∷ parts) =
    omega (arith, sum_by-cons (λ (x : Instance). cond (kind_passes test library x) 1 0) (record { name = Some (made_instance number); cell = cell; pins = pins }) (news (number + 1) parts), news_counted test library (number + 1) parts)
news_counted test library number (APin i pin net ∷ parts) = omega (arith, news_counted test library number parts)

-- ---- behind the design's instances

behind_is : (style : Style) (n : Netlist) (config : Config) → IsReady n config → drop (length n.instances) (scanned style n config).instances ≡ news 0 (made_in style n config)
behind_is style n config ready =
    let its : List Instance = map_from (now_at style n config) 0 n.instances in
    ap (drop (length n.instances)) (now_instances style n config ready)
    ∙ ap (λ k. drop k (its ++ news 0 (made_in style n config))) (sym (length_map_from (now_at style n config) 0 n.instances))
    ∙ drop-append_seam its (news 0 (made_in style n config))

counted : (test : Kind → Bool) (style : Style) (n : Netlist) (config : Config) → IsReady n config → count_behind test (length n.instances) (scanned style n config) ≡ total (weight test n.library) (made_in style n config)
counted test style n config ready =
    let grown = parts_grow (framed style n config) (made_in style n config) in
    ap (λ (l : List Cell). count_by (kind_passes test l) (drop (length n.instances) (scanned style n config).instances)) grown.library
    ∙ ap (count_by (kind_passes test n.library)) (behind_is style n config ready)
    ∙ news_counted test n.library 0 (made_in style n config)

-- ---- the plan's lock-ups

abbrev pub InChains : (chains : ℕ) → List LockupPlace → Type 0
InChains chains ls = AllByRecursion (λ l. l.chain < chains) ls

planned_in : (n : Netlist) (config : Config) → InChains (length (plan_of n config).chains) (plan_of n config).lockups
planned_in n config =
    let v = judgements n config in
    let cs = (plan_of n config).chains in
    lockups_all (λ l. l.chain < length cs) v cs (λ chain place l less is. (
    let cells = slice_index_or cs chain [] in
    let it = between_is chain place (clock_at v cells place) (clock_at v cells (place + 1)) l is in
    omega (arith, it.chain_is, less)))

-- ---- chains whose first cell is rising

sum_next : (f : ℕ → ℕ) (k m : ℕ) → sum_of f (range_with_len (suc k) m) ≡ sum_of (λ c. f (suc c)) (range_with_len k m)
sum_next f k zero = refl
sum_next f k (suc m) = (let e : suc k + 1 ≡ suc (k + 1) = omega arith in ap (λ j. f (suc k) + sum_of f (range_with_len j m)) e ∙ ap (λ t. f (suc k) + t) (sum_next f (k + 1) m))

heads_by : (weight count whole : ℕ) (falling : Bool) → whole ≡ cond (not falling) 1 0 + count → (if falling then 0 else weight) + times count weight ≡ times whole weight
heads_by weight count whole true e = (let same : whole ≡ count = omega (arith, e) in omega (arith, ap (λ k. times k weight) same))
heads_by weight count whole false e = (let same : whole ≡ suc count = omega (arith, e) in sym (ap (λ k. times k weight) same))

-- each of them weighs once
heads_are : (weight : ℕ) (heads : List Bool) → sum_of (λ c. if slice_index_or heads c false then 0 else weight) (range_with_len 0 (length heads)) ≡ times (count_by not heads) weight
heads_are weight [] = refl
heads_are weight (falling ∷ heads) =
    ap (λ t. (if falling then 0 else weight) + t) (sum_next (λ c. if slice_index_or (falling ∷ heads) c false then 0 else weight) 0 (length heads) ∙ heads_are weight heads)
    ∙ heads_by weight (count_by not heads) (count_by not (falling ∷ heads)) falling (sum_by-cons (λ (h : Bool). cond (not h) 1 0) falling heads)

-- ---- the weights of the recipes

module _ (test : Kind → Bool) (none : PassesNoGate test) (n : Netlist) (config : Config) (ready : IsReady n config) where
  abbrev a_flop : ℕ
  a_flop = bit_weight (test DFF)

  abbrev a_lock : ℕ
  a_lock = bit_weight (test kind.Lockup)

  abbrev crossed : ℕ → ℕ
  crossed c = sum_of (λ (l : LockupPlace). if l.chain == c then a_lock else 0) (plan_of n config).lockups

  abbrev numbers : List ℕ
  numbers = range_with_len 0 (length (plan_of n config).chains)

  crossings_are : sum_of crossed numbers ≡ times (length (plan_of n config).lockups) a_lock
  crossings_are = crossings_all a_lock (length (plan_of n config).chains) (plan_of n config).lockups (planned_in n config)

  plain_is : total (weight test n.library) (made_in Plain n config) ≡ times (length (plan_of n config).lockups) a_lock
  plain_is = plain_has test n.library ready.library none n config (plan_of n config) (gap_in Plain n config) (start_of (framed Plain n config)) refl ∙ crossings_are

  -- the chains whose first cell is rising
  abbrev rising : ℕ
  rising = count_by not (plan_of n config).heads

  abbrev entered : ℕ → ℕ
  entered c = if falling_head (plan_of n config) c then 0 else a_lock

  fed_are : sum_of (λ c. entered c + crossed c) numbers ≡ times rising a_lock + times (length (plan_of n config).lockups) a_lock
  fed_are =
      sum_add entered crossed numbers
      ∙ omega (arith, ap (λ k. sum_of entered (range_with_len 0 k)) (sym (length-map (plan_of n config).chains (begins_falling (judgements n config)))) ∙ heads_are a_lock (plan_of n config).heads, crossings_are)

  masks_are : sum_of (λ s. times (segment_length config s) (a_flop + a_flop)) (range_with_len 0 config.compactor.mask_inputs) ≡ times config.chains (a_flop + a_flop)
  masks_are =
      let m = config.compactor.mask_inputs in
      let from : 0 + m ≡ m = omega arith in
      omega (arith, segments_all config (a_flop + a_flop) 0 m, ap (λ k. times (segment_start config k) (a_flop + a_flop)) from ∙ ap (λ k. times k (a_flop + a_flop)) (all_segments config ready.range.compactor.mask_inputs.0))

  edt_is : total (weight test n.library) (made_in Edt n config) ≡ times config.ring.stages a_flop + (times rising a_lock + times (length (plan_of n config).lockups) a_lock + times config.chains (a_flop + a_flop))
  edt_is =
      let gap : Gap = gap_in Edt n config in
      edt_has test n.library ready.library none n config (plan_of n config) gap (edt_nets gap.before config) (start_of (framed Edt n config)) refl
      ∙ omega (arith, fed_are, masks_are)

-- ---- the law

flip_flops_none : PassesNoGate is_flip_flop
flip_flops_none = record { gates = λ gate. refl }

lockups_none : PassesNoGate is_lockup
lockups_none = record { gates = λ gate. refl }

flip_flops_are : (style : Style) (n : Netlist) (config : Config) → IsReady n config → total (weight is_flip_flop n.library) (made_in style n config) ≡ flip_flops_in style config
flip_flops_are Plain n config ready = plain_is is_flip_flop flip_flops_none n config ready ∙ times_zero (length (plan_of n config).lockups)
flip_flops_are Edt n config ready =
    edt_is is_flip_flop flip_flops_none n config ready
    ∙ omega (arith, times_one config.ring.stages, times_zero (count_by not (plan_of n config).heads), times_zero (length (plan_of n config).lockups), times_two config.chains)

lockups_are : (style : Style) (n : Netlist) (config : Config) → IsReady n config → total (weight is_lockup n.library) (made_in style n config) ≡ lockups_in style n config
lockups_are Plain n config ready = plain_is is_lockup lockups_none n config ready ∙ times_one (length (plan_of n config).lockups)
lockups_are Edt n config ready =
    edt_is is_lockup lockups_none n config ready
    ∙ omega (arith, times_zero config.ring.stages, times_one (count_by not (plan_of n config).heads), times_one (length (plan_of n config).lockups), times_zero config.chains)

pub counts_added : CountsAdded
counts_added style n config ready = record {
  flip_flops = counted is_flip_flop style n config ready ∙ flip_flops_are style n config ready;
  lockups = counted is_lockup style n config ready ∙ lockups_are style n config ready;
}

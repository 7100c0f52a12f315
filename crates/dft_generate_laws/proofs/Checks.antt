-- No scan rule refuses a generated design with its configuration, and no limit of the plan.
use Rattle.std.proofs.Common.{◌≡◌, ◌⊎◌, inl, inr, ℕ, zero, suc, ◌+◌, ◌*◌, ◌%◌, ◌<◌, ◌≤◌, Bool, false, cond, eqb, ltb, List, [], ◌∷◌, ◌++◌, length, map, Option, Some, None, count_by, refl, sym, ap, ◌∙◌, subst, arith}
use Rattle.std.specs.Prelude.{is_some, option_map, find, slice_index_or, ◌||◌, ◌&&◌}
use Rattle.std.specs.List.{range_with_len, list_any}
use Rattle.std.proofs.lemmas.Bool.Decides.{nat_tests}
use Rattle.std.proofs.lemmas.List.Sums.{sum_by-cons}
use Rattle.std.proofs.lemmas.Bool.{and_right}
use Rattle.dft_base.specs.Lexing.{Text}
use Rattle.dft_cells.specs.declared.kind.Kind.TheVariants as cell_kind
use Rattle.dft_cells.specs.declared.cell.Cell.{Cell}
use Rattle.dft_cells.specs.Standard.{standard_cells}
use Rattle.dft_netlist.specs.Drivers.{Source, Net, Driver, Input, Joined, Driven, driver, driver_in, shape_of_cell, connections_from}
use Rattle.dft_behavior.specs.NetRoots.{NetRoot, Other, Nothing, passed_by_gate, root_of_passed, root_of_driver, root_within}
use Rattle.dft_behavior.specs.ClockRoots.{clock_of}
use Rattle.dft_rules.specs.declared.error.RuleError.{RuleError}
use Rattle.dft_rules.specs.declared.judged.Judged.{Judged}
use Rattle.dft_rules.specs.declared.judged.Judged.TheVariants.{Scanned}
use Rattle.dft_rules.specs.Refusals.{unknown_port, first_failing, present_as, present, first_present, takes, uses_data, is_data_of, is_clock_as_data, clock_as_data, is_scanned, too_few, refusal}
use Rattle.dft_rules.specs.Rules.{place_of_clock, clock_of_source, judged, judgements}
use Rattle.dft_rules.proofs.CheckLemmas.{at_resets, at_keep, at_present, at_clocks, at_ports, at_count, at_end}
use Rattle.dft_stitch.specs.Chains.{clock_in, is_falling}
use Rattle.dft_generate.specs.Configurations.{configuration}
use Rattle.dft_generate.specs.Words.{word_at}
use Rattle.dft_generate_laws.specs.Designs.{nets_of, number_in, q_of, d_of, g_of, first_of, second_of, gate_in, flop_in, instances_in, design}
use Rattle.dft_generate_laws.proofs.CellLines.{each_kind, gate_known}
use Rattle.dft_generate_laws.proofs.Driven.{cells_drive, gate_drives, all-listed, q_driver, AllDrive, drive_in, drive_append}
use Rattle.dft_generate_laws.proofs.Judged.{clock0_net, clock1_net, judged_gate, judged_flop}
use Rattle.dft_generate_laws.proofs.Places.{behind_ports, instances-length}
use Rattle.dft_generate_laws.proofs.Ties.{q-inner, d-inner}
use Rattle.std.proofs.Math.Nat.{mod-lt}

-- ---- names that are there, and no scan cells

ports_known : (size : ℕ) (words : List ℕ) → unknown_port (design size words) configuration.domains ≡ None
ports_known size words = rw (clock0_net size words, clock1_net size words) refl

gate_absent : (all : List Text) (size : ℕ) (words : List ℕ) (cell : ℕ) → present standard_cells (gate_in all size words cell) ≡ None
gate_absent all size words cell =
    let g = gate_known (word_at words (cell * 3)) in
    ap (λ (o : Option Cell). present_as (shape_of_cell o).kind (Some (g_of cell))) g.there ∙ each_kind (λ k. present_as (cell_kind.Gate k) (Some (g_of cell)) ≡ None) refl refl refl refl g.kind g.among

none_present : (all : List Text) (size : ℕ) (words : List ℕ) (count from : ℕ) → first_present standard_cells (instances_in all size words (range_with_len from count)) ≡ None
none_present all size words zero from = refl
none_present all size words (suc count) from =
    ap (λ (o : Option RuleError). first_failing (o ∷ None ∷ map (present standard_cells) (instances_in all size words (range_with_len (from + 1) count)))) (gate_absent all size words from) ∙ none_present all size words count (from + 1)

-- ---- no clock is data

-- what the instances of a cell take as data
gate_data : (all : List Text) (size : ℕ) (words : List ℕ) (cell net : ℕ)
    → eqb (number_in all (q_of (first_of size words cell))) net ≡ false → eqb (number_in all (q_of (second_of size words cell))) net ≡ false → is_data_of standard_cells net (gate_in all size words cell) ≡ false
gate_data all size words cell net a b =
    let g = gate_known (word_at words (cell * 3)) in
    ap (λ (o : Option Cell). uses_data (shape_of_cell o).kind && list_any (takes net) (connections_from 0 (shape_of_cell o).roles (gate_in all size words cell).pins)) g.there
    ∙ each_kind (λ k. (uses_data (cell_kind.Gate k) && (eqb (number_in all (q_of (first_of size words cell))) net || (eqb (number_in all (q_of (second_of size words cell))) net || (false || false)))) ≡ false)
    (rw (a, b) refl) (rw (a, b) refl) (rw (a, b) refl) (rw (a, b) refl) g.kind g.among

flop_data : (all : List Text) (cell net : ℕ) → eqb (number_in all (d_of cell)) net ≡ false → is_data_of standard_cells net (flop_in all cell) ≡ false
flop_data all cell net a = rw a refl

module _ (size : ℕ) (words : List ℕ) (few : size ≤ 20000) (some : 0 < size) where
  abbrev all : List Text
  all = nets_of size words

  -- a port's net is no data
  far_q : (k net : ℕ) → k < size → net < 3 → eqb (number_in all (q_of k)) net ≡ false
  far_q k net lt low = let b = behind_ports size words (q_of k) (q-inner k (omega (arith, lt, few))) in grind (arith, nat_tests)

  far_d : (k net : ℕ) → k < size → net < 3 → eqb (number_in all (d_of k)) net ≡ false
  far_d k net lt low = let b = behind_ports size words (d_of k) (d-inner k (omega (arith, lt, few))) in grind (arith, nat_tests)

  no_data : (net : ℕ) (count from : ℕ) → net < 3 → from + count ≤ size → list_any (is_data_of standard_cells net) (instances_in all size words (range_with_len from count)) ≡ false
  no_data net zero from low last = refl
  no_data net (suc count) from low last =
      let rest = no_data net count (from + 1) low (omega (arith, last)) in
      let g = gate_data all size words from net (far_q (first_of size words from) net (mod-lt (word_at words (from * 3 + 1)) some) low) (far_q (second_of size words from) net (mod-lt (word_at words (from * 3 + 2)) some) low) in
      let f = flop_data all from net (far_d from net (omega (arith, last)) low) in
      ap (λ (b : Bool). b || (is_data_of standard_cells net (flop_in all from) || list_any (is_data_of standard_cells net) (instances_in all size words (range_with_len (from + 1) count)))) g
      ∙ ap (λ (b : Bool). b || list_any (is_data_of standard_cells net) (instances_in all size words (range_with_len (from + 1) count))) f ∙ rest

  -- another net has no root
  abbrev NoRoot : (net : ℕ) → Driver → Type 0
  NoRoot net d = (steps : ℕ) → root_of_driver (root_within (design size words) steps) net d ≡ Other

  gate_clock : (cell net : ℕ) → NoRoot net (gate_drives all size words cell)
  gate_clock cell net steps =
      let g = gate_known (word_at words (cell * 3)) in
      let inputs : List Source = Net (number_in all (q_of (first_of size words cell))) ∷ Net (number_in all (q_of (second_of size words cell))) ∷ [] in
      ap (root_of_passed (root_within (design size words) steps)) (each_kind (λ kind. passed_by_gate kind inputs ≡ Nothing) refl refl refl refl g.kind g.among)

  q_clock : (steps : ℕ) → root_within (design size words) steps (Net (number_in all (q_of 0))) ≡ Other
  q_clock zero = refl
  q_clock (suc steps) = ap (root_of_driver (root_within (design size words) steps) (number_in all (q_of 0))) (q_driver size words 0 few some)

  join_clock : (net : ℕ) → NoRoot net (Joined (Net (number_in all (q_of 0))))
  join_clock net steps = q_clock steps

  cells_clock : (net i from count : ℕ) → AllDrive (NoRoot net) (cells_drive all size words i from count)
  cells_clock net i from zero = tt
  cells_clock net i from (suc count) = (gate_clock from net, (λ steps. refl, cells_clock net (suc (suc i)) (from + 1) count))

  far_clock : (net : ℕ) → 2 ≤ net → NoRoot net (driver (design size words) net)
  far_clock net high =
      let cells : List Driven = cells_drive all size words 0 0 size ++ (2, Joined (Net (number_in all (q_of 0)))) ∷ [] in
      let a : eqb 0 net ≡ false = grind (arith, nat_tests) in
      let b : eqb 1 net ≡ false = grind (arith, nat_tests) in
      let is : driver (design size words) net ≡ driver_in cells net =
      ap (λ (ds : List Driven). driver_in ds net) (all-listed size words) ∙ ap (λ t. cond t Input (driver_in ((1, Input) ∷ cells) net)) a ∙ ap (λ t. cond t Input (driver_in cells net)) b in
      subst (NoRoot net) (sym is) (drive_in (NoRoot net) cells net (λ steps. refl) (drive_append (NoRoot net) (cells_drive all size words 0 0 size) ((2, Joined (Net (number_in all (q_of 0)))) ∷ []) (cells_clock net 0 0 size) (join_clock net, tt)))

  near_or : (net : ℕ) → (net < 3) ⊎ (2 ≤ net)
  near_or zero = inl (omega arith)
  near_or (suc zero) = inl (omega arith)
  near_or (suc (suc net)) = inr (omega arith)

  no_clock : (net : ℕ) → is_clock_as_data (design size words) configuration.domains net ≡ false
  no_clock net = elim (near_or net) [
    | inl low ↦ and_right (is_some (clock_of_source (design size words) configuration.domains (Net net))) (list_any (is_data_of standard_cells net) (design size words).instances) (no_data net size 0 low (omega arith))
    | inr high ↦ ap (λ (r : NetRoot). is_some (place_of_clock (design size words) configuration.domains (clock_of r)) && list_any (is_data_of standard_cells net) (design size words).instances) (far_clock net high (length all))
  ]

  none_found : (p : ℕ → Bool) (xs : List ℕ) → ((x : ℕ) → p x ≡ false) → find p xs ≡ None
  none_found p [] h = refl
  none_found p (x ∷ xs) h = ap (λ t. cond t (Some x) (find p xs)) (h x) ∙ none_found p xs h

  no_clock_data : clock_as_data (design size words) configuration.domains ≡ None
  no_clock_data = ap (option_map (λ net. _)) (none_found (is_clock_as_data (design size words) configuration.domains) (range_with_len 0 (length all)) no_clock)

  -- ---- enough cells

  -- the verdicts of these cells
  abbrev verdicts : (from count : ℕ) → List (Option Judged)
  verdicts from zero = []
  verdicts from (suc count) = None ∷ Some (Scanned (from % 2) false) ∷ verdicts (from + 1) count

  judged_from : (count from : ℕ) → from + count ≤ size → map (judged (design size words) configuration) (range_with_len (from + from) (count + count)) ≡ verdicts from count
  judged_from zero from last = refl
  judged_from (suc count) from last =
      let two : suc count + suc count ≡ suc (suc (count + count)) = omega arith in
      let next : from + from + 1 + 1 ≡ from + 1 + (from + 1) = omega arith in
      let one : from + from + 1 ≡ suc (from + from) = omega arith in
      ap (λ (c : ℕ). map (judged (design size words) configuration) (range_with_len (from + from) c)) two
      ∙ ap (λ (o : Option Judged). o ∷ judged (design size words) configuration (from + from + 1) ∷ map (judged (design size words) configuration) (range_with_len (from + from + 1 + 1) (count + count))) (judged_gate size words from (omega (arith, last)))
      ∙ ap (λ (o : Option Judged). None ∷ o ∷ map (judged (design size words) configuration) (range_with_len (from + from + 1 + 1) (count + count))) (ap (judged (design size words) configuration) one ∙ judged_flop size words from (omega (arith, last)))
      ∙ ap (λ (js : List (Option Judged)). None ∷ Some (Scanned (from % 2) false) ∷ js) (ap (λ (k : ℕ). map (judged (design size words) configuration) (range_with_len k (count + count))) next ∙ judged_from count (from + 1) (omega (arith, last)))

  judgements-are : judgements (design size words) configuration ≡ verdicts 0 size
  judgements-are =
      let count : length (design size words).instances ≡ size + size = let l = instances-length all size words size 0 in omega (arith, l) in
      ap (λ (k : ℕ). map (judged (design size words) configuration) (range_with_len 0 k)) count ∙ judged_from size 0 (omega arith)

  -- each at the rises of its clock
  rising : (count from i : ℕ) → is_falling (clock_in (slice_index_or (verdicts from count) i None)) ≡ false
  rising zero from zero = refl
  rising zero from (suc i) = refl
  rising (suc count) from zero = refl
  rising (suc count) from (suc zero) = refl
  rising (suc count) from (suc (suc i)) = rising count (from + 1) i

  pub all_rise : (i : ℕ) → is_falling (clock_in (slice_index_or (judgements (design size words) configuration) i None)) ≡ false
  all_rise i = ap (λ (js : List (Option Judged)). is_falling (clock_in (slice_index_or js i None))) judgements-are ∙ rising size 0 i

  scanned_count : (count from : ℕ) → count_by is_scanned (verdicts from count) ≡ count
  scanned_count zero from = refl
  scanned_count (suc count) from =
      let i = scanned_count count (from + 1) in
      omega (arith, i, sum_by-cons (λ (v : Option Judged). cond (is_scanned v) 1 0) None (Some (Scanned (from % 2) false) ∷ verdicts (from + 1) count), sum_by-cons (λ (v : Option Judged). cond (is_scanned v) 1 0) (Some (Scanned (from % 2) false)) (verdicts (from + 1) count))

  -- each cell's flip-flop is scanned
  pub scanned_here : count_by is_scanned (judgements (design size words) configuration) ≡ size
  scanned_here = ap (count_by is_scanned) judgements-are ∙ scanned_count size 0

  many : 16 ≤ size → too_few (judgements (design size words) configuration) configuration.chains ≡ None
  many low =
      let full : ltb size 16 ≡ false = grind (arith, nat_tests) in
      rw (scanned_here, full) refl

  pub rules_pass : 16 ≤ size → refusal (design size words) configuration ≡ None
  rules_pass low =
      let n = design size words in
      at_end n configuration (at_count n configuration (at_ports n configuration (at_clocks n configuration (at_present n configuration (at_keep n configuration (at_resets n configuration (ports_known size words)) refl) refl)
      (none_present all size words size 0)) no_clock_data) refl) (many low)

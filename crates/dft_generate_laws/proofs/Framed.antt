-- Insertion refuses nothing of a generated design, and no check before the cubes does.
use Rattle.std.proofs.Common.{◌≡◌, ◌⊎◌, inl, inr, ℕ, zero, suc, ◌+◌, ◌*◌, ◌<◌, ◌≤◌, true, false, leb, List, [], ◌∷◌, ◌++◌, length, map, flat_map, get_or, take, drop, Option, None, Some, option_and_then, slice_get, codes, decimal, refl, sym, ap, ◌∙◌, subst, arith, append_assoc, length-append}
use Rattle.std.specs.Prelude.{slice_index_or, option_map}
use Rattle.std.specs.List.{filter_map, cons_option, range_with_len}
use Rattle.std.specs.Str.{bytes_eq}
use Rattle.std.proofs.lemmas.Bool.Decides.{nat_tests}
use Rattle.std.proofs.lemmas.Fmt.{decimal_digit}
use Rattle.std.proofs.lemmas.List.FromFn.{length-range_with_len}
use Rattle.std.proofs.lemmas.Option.{none-some}
use Rattle.dft_base.specs.Lexing.{Text}
use Rattle.dft_base.proofs.TextLemmas.{differ}
use Rattle.dft_cells.specs.WellFormed.{has_name}
use Rattle.dft_netlist.proofs.NamesLemmas.{none_append}
use Rattle.dft_netlist.specs.declared.ids.InstanceId.{InstanceId}
use Rattle.dft_netlist.specs.declared.instance.Instance.{Instance}
use Rattle.dft_netlist.specs.declared.limits.TheConstants.{MAX_NETS}
use Rattle.dft_netlist.specs.Names.{is_taken, instance_name}
use Rattle.dft_netlist.specs.Netlist.{Netlist}
use Rattle.dft_rules.specs.declared.judged.Judged.{Judged}
use Rattle.dft_rules.specs.Refusals.{is_scanned}
use Rattle.dft_rules.specs.Rules.{judged, judgements}
use Rattle.dft_stitch.specs.declared.places.LockupPlace.{LockupPlace}
use Rattle.dft_stitch.specs.Chains.{blocks, chain_lengths, chains_of, clock_at, clock_of, is_falling, lockup_after, lockups_in, cells_of, plan_of}
use Rattle.dft_stitch.specs.Plans.{Plan}
use Rattle.dft_stitch.proofs.LockupLemmas.{between_is, lockups_all}
use Rattle.dft_parts.specs.Parts.{parts_refusal}
use Rattle.dft_parts.specs.Recipes.{start_of}
use Rattle.dft_scan_frame.specs.declared.error.InsertError.{InsertError}
use Rattle.dft_scan_frame.specs.Moves.{Gap, map_from}
use Rattle.dft_scan_frame.specs.Refusals.{or_else}
use Rattle.dft_insert.specs.declared.style.Style.TheVariants.{Edt}
use Rattle.dft_insert.specs.Frame.{framed_at, frame}
use Rattle.dft_insert.specs.Ports.{added_ports, gap_in, edt_nets}
use Rattle.dft_insert.specs.Refusals.{as_told, ports_alone, ports_refusal, room_refusal, frame_refusal, refusal}
use Rattle.dft_insert.specs.Scanned.{framed, parts_of}
use Rattle.dft_insert.proofs.Frames.{framed_named}
use Rattle.dft_insert.proofs.Weights.{sum_of}
use Rattle.dft_generate.specs.Configurations.{configuration}
use Rattle.dft_generate_laws.specs.Designs.{nets_of, design}
use Rattle.dft_generate_laws.specs.Laws.{DesignsAreAccepted}
use Rattle.dft_generate_laws.proofs.Words as letters
use Rattle.dft_generate_laws.proofs.Ties.{heads_differ}
use Rattle.dft_generate_laws.proofs.NetNames.{IsNetName, OfClock0, OfClock1, OfOutput, OfCell, are_nets, own_words, own-are}
use Rattle.dft_generate_laws.proofs.Said.{nets_grow}
use Rattle.dft_generate_laws.proofs.Places.{nets-few, instances-length}
use Rattle.dft_generate_laws.proofs.Checks.{all_rise, scanned_here, rules_pass}
use Rattle.dft_generate_laws.proofs.Plans.{few_cells, plan_passes}
use Rattle.dft_generate_laws.proofs.Added.{AreLow, edt_most}
use Rattle.dft_generate_laws.proofs.Fresh.{none_take, none_drop, none_each, IsFree, IsFresh, parts_pass}

-- ---- the plan

blocks_sum : (lengths : List ℕ) (items : List InstanceId) → sum_of (λ (cells : List InstanceId). length cells * 1) (blocks lengths items) ≤ length items
blocks_sum [] items = omega arith
blocks_sum (l ∷ lengths) items = let i = blocks_sum lengths (drop l items) in omega (arith, i, cut l items)
  where
    cut : (k : ℕ) (xs : List InstanceId) → length (take k xs) + length (drop k xs) ≡ length xs
    cut zero xs = omega arith
    cut (suc k) [] = omega arith
    cut (suc k) (x ∷ xs) = let i = cut k xs in omega (arith, i)

blocks_count : (lengths : List ℕ) (items : List InstanceId) → length (blocks lengths items) ≡ length lengths
blocks_count [] items = refl
blocks_count (l ∷ lengths) items = ap suc (blocks_count lengths (drop l items))

filter_few : (f : ℕ → Option LockupPlace) (xs : List ℕ) → length (filter_map f xs) ≤ length xs
filter_few f [] = omega arith
filter_few f (x ∷ xs) = by (f x) (filter_few f xs)
  where
    by : (o : Option LockupPlace) → length (filter_map f xs) ≤ length xs → length (cons_option o (filter_map f xs)) ≤ suc (length xs)
    by None le = omega (arith, le)
    by (Some y) le = omega (arith, le)

chain_here : (front rest : List (List InstanceId)) (x : List InstanceId) → slice_index_or (front ++ x ∷ rest) (length front) [] ≡ x
chain_here [] rest x = refl
chain_here (y ∷ front) rest x = chain_here front rest x

lockups_few : (verdicts : List (Option Judged)) (rest front : List (List InstanceId))
    → length (flat_map (lockups_in verdicts (front ++ rest)) (range_with_len (length front) (length rest))) ≤ sum_of (λ (cells : List InstanceId). length cells * 1) rest
lockups_few verdicts [] front = omega arith
lockups_few verdicts (x ∷ rest) front =
    let chains : List (List InstanceId) = front ++ x ∷ rest in
    let next : length (front ++ x ∷ []) ≡ length front + 1 = omega (arith, length-append front (x ∷ [])) in
    let whole : (front ++ x ∷ []) ++ rest ≡ chains = append_assoc front (x ∷ []) rest in
    let more : length (flat_map (lockups_in verdicts chains) (range_with_len (length front + 1) (length rest))) ≤ sum_of (λ (cells : List InstanceId). length cells * 1) rest =
    subst (λ (k : ℕ). length (flat_map (lockups_in verdicts chains) (range_with_len k (length rest))) ≤ sum_of (λ (cells : List InstanceId). length cells * 1) rest) next
    (subst (λ (cs : List (List InstanceId)). length (flat_map (lockups_in verdicts cs) (range_with_len (length (front ++ x ∷ [])) (length rest))) ≤ sum_of (λ (cells : List InstanceId). length cells * 1) rest) whole (lockups_few verdicts rest (front ++ x ∷ []))) in
    let here : length (lockups_in verdicts chains (length front)) ≤ length x =
    subst (λ (cells : List InstanceId). length (filter_map (lockup_after verdicts (length front) cells) (range_with_len 0 (length cells))) ≤ length x) (sym (chain_here front rest x))
    (let f = filter_few (lockup_after verdicts (length front) x) (range_with_len 0 (length x)) in omega (arith, f, length-range_with_len 0 (length x))) in
    omega (arith, more, here, length-append (lockups_in verdicts chains (length front)) (flat_map (lockups_in verdicts chains) (range_with_len (length front + 1) (length rest))))

-- no cell falls, so each lock-up is low
low_at : (size : ℕ) (words : List ℕ) → size ≤ 20000 → 0 < size → (o : Option InstanceId) (l : LockupPlace) →
    option_and_then (clock_of (judgements (design size words) configuration)) o ≡ Some (record { domain = l.domain; falling = l.high }) → l.high ≡ false
low_at size words few some None l is = absurd (none-some (record { domain = l.domain; falling = l.high }) is)
low_at size words few some (Some cell) l is = sym (ap is_falling is) ∙ all_rise size words few some cell.0

low_after : (size : ℕ) (words : List ℕ) → size ≤ 20000 → 0 < size → (chain place : ℕ) (cells : List InstanceId) (l : LockupPlace) → lockup_after (judgements (design size words) configuration) chain cells place ≡ Some l → l.high ≡ false
low_after size words few some chain place cells l is =
    let v : List (Option Judged) = judgements (design size words) configuration in
    low_at size words few some (slice_get cells place) l (between_is chain place (clock_at v cells place) (clock_at v cells (place + 1)) l is).clock_is

-- how much there is in the plan at most
pub record IsSmall (size : ℕ) (plan : Plan) : Type 0 where
  pub cells : sum_of (λ (cells : List InstanceId). length cells * 1) plan.chains ≤ size
  pub lockups : length plan.lockups ≤ size
  pub low : AreLow plan.lockups
  pub chains : length plan.chains ≡ 16

pub plan_small : (size : ℕ) (words : List ℕ) → size ≤ 20000 → 0 < size → IsSmall size (plan_of (design size words) configuration)
plan_small size words few some =
    let verdicts : List (Option Judged) = judgements (design size words) configuration in
    let cells : List InstanceId = cells_of (design size words) configuration in
    let count = few_cells verdicts in
    let scanned = scanned_here size words few some in
    let all = blocks_sum (chain_lengths (length cells) 16) cells in
    let lockups = lockups_few verdicts (chains_of cells 16) [] in
    record {
      cells = omega (arith, all, count, scanned);
      lockups = omega (arith, lockups, all, count, scanned);
      low = lockups_all (λ l. l.high ≡ false) verdicts (chains_of cells 16) (λ chain place l less is. low_after size words few some chain place (slice_index_or (chains_of cells 16) chain []) l is);
      chains = blocks_count (chain_lengths (length cells) 16) cells;
    }

-- ---- made names

-- a made name is no net's and no instance's
far_letter : (w rest : Text) → IsNetName w → bytes_eq w (100 ∷ 102 ∷ rest) ≡ false
far_letter _ rest OfClock0 = refl
far_letter _ rest OfClock1 = refl
far_letter _ rest OfOutput = refl
far_letter w rest (OfCell i) = elim i.low [
  | inl q ↦ ap (λ (v : Text). bytes_eq v (100 ∷ 102 ∷ rest)) i.is ∙ heads_differ i.letter 100 (decimal i.cell) (102 ∷ rest) (λ e. absurd (omega (arith, e, q)))
  | inr d ↦ differ w (100 ∷ 102 ∷ rest) (λ e.
      let second : get_or w 1 0 ≡ 102 = ap (λ (v : Text). get_or v 1 0) e in
      let digit : get_or w 1 0 ≤ 57 = subst (λ (v : Text). get_or v 1 0 ≤ 57) (sym i.is) (letters.first_digit i.cell i.small) in
      absurd (omega (arith, second, digit)))
]

own_far : (count from : ℕ) (rest : Text) → has_name (own_words from count) (100 ∷ rest) ≡ false
own_far zero from rest = refl
own_far (suc count) from rest = own_far count (from + 1) rest

-- ---- the frame

framed_names : (n : Netlist) (gap : Gap) (number : ℕ) (xs : List Instance) → filter_map instance_name (map_from (framed_at n configuration gap) number xs) ≡ filter_map instance_name xs
framed_names n gap number [] = refl
framed_names n gap number (x ∷ xs) =
    ap (λ (o : Option Text). cons_option o (filter_map instance_name (map_from (framed_at n configuration gap) (suc number) xs))) (framed_named n.library gap (is_scanned (judged n configuration number)) x)
    ∙ ap (cons_option x.name) (framed_names n gap (suc number) xs)

framed_count : (n : Netlist) (gap : Gap) (number : ℕ) (xs : List Instance) → length (map_from (framed_at n configuration gap) number xs) ≡ length xs
framed_count n gap number [] = refl
framed_count n gap number (x ∷ xs) = ap suc (framed_count n gap (suc number) xs)

module _ (size : ℕ) (words : List ℕ) (few : size ≤ 20000) (some : 0 < size) where
  abbrev all : List Text
  all = nets_of size words

  -- a name that begins as made ones do
  design_free : (rest : Text) → has_name all (100 ∷ 102 ∷ rest) ≡ false
  design_free rest = let nets = are_nets size words some few in none_each all (100 ∷ 102 ∷ rest) (λ k v at. far_letter v rest (nets.each k v at))

  made_free : (rest : Text) → IsFree (frame Edt (design size words) configuration) (100 ∷ 102 ∷ rest)
  made_free rest = record {
    nets = none_append (take 3 all) (map (λ p. p.name) (added_ports Edt configuration) ++ drop 3 all) (100 ∷ 102 ∷ rest) (none_take 3 all (100 ∷ 102 ∷ rest) (design_free rest))
        (none_append (map (λ p. p.name) (added_ports Edt configuration)) (drop 3 all) (100 ∷ 102 ∷ rest) refl (none_drop 3 all (100 ∷ 102 ∷ rest) (design_free rest)));
    vectors = refl;
    owns = ap (λ (ws : List Text). has_name ws (100 ∷ 102 ∷ rest)) (framed_names (design size words) (gap_in Edt (design size words) configuration) 0 (design size words).instances ∙ own-are all size words size 0) ∙ own_far size 0 (102 ∷ rest);
  }

  frame_count : length (frame Edt (design size words) configuration).nets ≡ length all + 9
  frame_count = omega (arith, length-append (take 3 all) (map (λ p. p.name) (added_ports Edt configuration) ++ drop 3 all), length-append (map (λ p. p.name) (added_ports Edt configuration)) (drop 3 all), cut 3 all)
    where
      cut : (k : ℕ) (xs : List Text) → length (take k xs) + length (drop k xs) ≡ length xs
      cut zero xs = omega arith
      cut (suc k) [] = omega arith
      cut (suc k) (x ∷ xs) = let i = cut k xs in omega (arith, i)

  fresh : IsFresh (framed Edt (design size words) configuration) 62656
  fresh =
      let nets = nets-few size words in
      let instances = instances-length all size words size 0 in
      let same = framed_count (design size words) (gap_in Edt (design size words) configuration) 0 (design size words).instances in
      record {
        nets = λ j le wide. made_free (codes "t_n" ++ decimal j);
        instances = λ j le wide. made_free (codes "t_i" ++ decimal j);
        few_nets = omega (arith, frame_count, nets, few);
        few_instances = omega (arith, same, instances, few);
        low_nets = omega arith;
        low_instances = omega arith;
      }

  parts_none : parts_refusal (framed Edt (design size words) configuration) (parts_of Edt (design size words) configuration (plan_of (design size words) configuration)) ≡ None
  parts_none =
      let n = design size words in
      let plan : Plan = plan_of n configuration in
      let small = plan_small size words few some in
      let gap : Gap = gap_in Edt n configuration in
      let most = edt_most n plan gap (edt_nets gap.before configuration) small.low (start_of (framed Edt n configuration)) in
      let cells = small.cells in
      let lockups = small.lockups in
      let chains = small.chains in
      parts_pass (parts_of Edt n configuration plan) (framed Edt n configuration) 62656 (omega (arith, most, cells, lockups, ap (λ (k : ℕ). k * 2) chains, few)) fresh

  -- ---- the added ports

  not_taken : (b : ℕ) (rest : Text) → (b ≡ 101) ⊎ (b ≡ 115) → is_taken (design size words) (b ∷ rest) ≡ false
  not_taken b rest low =
      none_append all (filter_map instance_name (design size words).instances) (b ∷ rest) (let nets = are_nets size words some few in none_each all (b ∷ rest) (λ k v at. far_added v b rest low (nets.each k v at)))
      (ap (λ (ws : List Text). has_name ws (b ∷ rest)) (own-are all size words size 0) ∙ own_other size 0)
    where
      far_added : (w : Text) (c : ℕ) (more : Text) → (c ≡ 101) ⊎ (c ≡ 115) → IsNetName w → bytes_eq w (c ∷ more) ≡ false
      far_added _ c more l OfClock0 = heads_differ 99 c (codes "lk0") more (λ e. elim l [ inl is ↦ absurd (omega (arith, e, is)) | inr is ↦ absurd (omega (arith, e, is)) ])
      far_added _ c more l OfClock1 = heads_differ 99 c (codes "lk1") more (λ e. elim l [ inl is ↦ absurd (omega (arith, e, is)) | inr is ↦ absurd (omega (arith, e, is)) ])
      far_added _ c more l OfOutput = heads_differ 121 c [] more (λ e. elim l [ inl is ↦ absurd (omega (arith, e, is)) | inr is ↦ absurd (omega (arith, e, is)) ])
      far_added w c more l (OfCell i) =
          ap (λ (v : Text). bytes_eq v (c ∷ more)) i.is ∙ heads_differ i.letter c (decimal i.cell) more (λ e. elim i.low [
            | inl q ↦ elim l [ inl is ↦ absurd (omega (arith, e, is, q)) | inr is ↦ absurd (omega (arith, e, is, q)) ]
            | inr q ↦ elim l [ inl is ↦ absurd (omega (arith, e, is, q)) | inr is ↦ absurd (omega (arith, e, is, q)) ]
          ])

      own_other : (count from : ℕ) → has_name (own_words from count) (b ∷ rest) ≡ false
      own_other zero from = refl
      own_other (suc count) from =
          rw (
            heads_differ 103 b (decimal from) rest (λ e. elim low [ inl is ↦ absurd (omega (arith, e, is)) | inr is ↦ absurd (omega (arith, e, is)) ]),
            heads_differ 102 b (decimal from) rest (λ e. elim low [ inl is ↦ absurd (omega (arith, e, is)) | inr is ↦ absurd (omega (arith, e, is)) ]),
          ) (own_other count (from + 1))

  ports_none : ports_refusal (design size words) (ports_alone (design size words)) (added_ports Edt configuration) ≡ None
  ports_none =
      ap (λ (xs : List Text). ports_refusal (design size words) (record { name = codes "gen"; library = (design size words).library; ports = (design size words).ports; nets = take 3 xs; instances = []; joins = [] }) (added_ports Edt configuration)) (nets_grow size words).is
      ∙ rw (
        not_taken 115 (codes "can_enable") (inr refl),
        not_taken 101 (codes "dt_clock") (inl refl),
        not_taken 101 (codes "dt_update") (inl refl),
        decimal_digit 0 (omega arith),
        decimal_digit 1 (omega arith),
        not_taken 101 (codes "dt_in0") (inl refl),
        not_taken 101 (codes "dt_in1") (inl refl),
        not_taken 101 (codes "dt_mask0") (inl refl),
        not_taken 101 (codes "dt_mask1") (inl refl),
        not_taken 101 (codes "dt_out0") (inl refl),
        not_taken 101 (codes "dt_out1") (inl refl),
      ) refl

  room_none : room_refusal (design size words) 9 ≡ None
  room_none =
      let nets = nets-few size words in
      let fits : leb (length all + 9) MAX_NETS ≡ true = grind (arith, nat_tests) in
      rw fits refl

  frame_none : frame_refusal Edt (design size words) configuration ≡ None
  frame_none = ap (λ (o : Option InsertError). or_else o (room_refusal (design size words) 9)) ports_none ∙ room_none

  pub insertion_none : refusal Edt (design size words) configuration (plan_of (design size words) configuration) ≡ None
  unfolding refusal
  insertion_none =
      ap (λ (o : Option InsertError). or_else o (option_map as_told (parts_refusal (framed Edt (design size words) configuration) (parts_of Edt (design size words) configuration (plan_of (design size words) configuration))))) frame_none
      ∙ ap (option_map as_told) parts_none

pub designs_are_accepted : DesignsAreAccepted
designs_are_accepted size words is =
    let low = is.low in
    let some : 0 < size = omega (arith, low) in
    record { rules = rules_pass size words is.high some low; plan = plan_passes size words is.high some; insertion = insertion_none size words is.high some }

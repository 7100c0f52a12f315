-- Lists cut into blocks.
use Rattle.std.proofs.Common.{◌≡◌, ℕ, zero, suc, ◌+◌, ◌-◌, ◌*◌, ◌<◌, ◌≤◌, min, List, [], ◌∷◌, ◌++◌, length, take, drop, map, flat_map, Bool, true, false, cond, ◌==◌, Option, None, Some, sym, ◌∙◌, ap, arith}
use Rattle.std.specs.Prelude.{slice_range}
use Rattle.std.specs.List.{All, filter_map, cons_option, range_with_len}
use Rattle.std.proofs.lemmas.List.{length-take, length-drop, length-map, drop-drop, take_min, drop_min}
use Rattle.std.proofs.lemmas.List.FromFn.{length-range_with_len}
use Rattle.std.proofs.lemmas.List.Elements.{All-nil, All-cons, All-take, All-drop, All-append}
use Rattle.dft_netlist.specs.declared.ids.InstanceId.{InstanceId}
use Rattle.dft_config.specs.Cycles.{part_length}
use Rattle.dft_rules.specs.declared.judged.Judged.{Judged}
use Rattle.dft_stitch.specs.declared.places.CellClock.{CellClock}
use Rattle.dft_stitch.specs.Chains.{blocks, chain_lengths, chains_of, cell_in, cells_in, scanned_cells, clock_of, group_of, if_group}
use Rattle.dft_stitch.specs.Tables.{AreBelow}
use Rattle.dft_stitch.proofs.RangeLemmas.{begun, ended, grown}
use Rattle.dft_stitch.proofs.ChainLimits.{blocks_count}

-- ---- the cut

-- the blocks from a chain on
abbrev pub blocks_from : (cells chains chain : ℕ) → List InstanceId → List (List InstanceId)
blocks_from cells chains chain items = blocks (map (part_length cells chains) (range_with_len chain (chains - chain))) items

block_on : (cells chains k : ℕ) (items : List InstanceId) → k < chains → blocks_from cells chains k items ≡ take (part_length cells chains k) items ∷ blocks_from cells chains (k + 1) (drop (part_length cells chains k) items)
block_on cells chains k items less = let left : chains - k ≡ suc (chains - (k + 1)) = omega arith in ap (λ (m : ℕ). blocks (map (part_length cells chains) (range_with_len k m)) items) left

pub block_over : (cells chains k : ℕ) (items : List InstanceId) → chains ≤ k → blocks_from cells chains k items ≡ []
block_over cells chains k items past = let left : chains - k ≡ 0 = omega arith in ap (λ (m : ℕ). blocks (map (part_length cells chains) (range_with_len k m)) items) left

-- the chains so far and the rest
pub record IsCut (xs : List InstanceId) (chains : ℕ) (done : List (List InstanceId)) (chain start : ℕ) : Type 0 where
  pub within : start ≤ length xs
  pub same : done ++ blocks_from (length xs) chains chain (drop start xs) ≡ chains_of xs chains

pub cut_none : (xs : List InstanceId) (chains : ℕ) (done : List (List InstanceId)) → done ≡ [] → IsCut xs chains done 0 0
cut_none xs chains done e =
    let all : chains - 0 ≡ chains = omega arith in
    record { within = omega arith; same = begun done (blocks_from (length xs) chains 0 xs) (chains_of xs chains) e (ap (λ (m : ℕ). blocks (map (part_length (length xs) chains) (range_with_len 0 m)) xs) all) }

pub cut_all : (xs : List InstanceId) (chains k start : ℕ) (done : List (List InstanceId)) → chains ≤ k → IsCut xs chains done k start → done ≡ chains_of xs chains
cut_all xs chains k start done past h = ended done (blocks_from (length xs) chains k (drop start xs)) (chains_of xs chains) (block_over (length xs) chains k (drop start xs) past) h.same

pub cut_more : (xs : List InstanceId) (chains k start part end : ℕ) (done new : List (List InstanceId)) → k < chains → part ≡ part_length (length xs) chains k → end ≡ start + min part (length xs - start) → new ≡ done ++ slice_range xs start end ∷ [] →
    IsCut xs chains done k start → IsCut xs chains new (k + 1) end
cut_more xs chains k start part end done new less is ends e h =
    let le = h.within in
    let size : length (drop start xs) ≡ length xs - start = length-drop start xs in
    let some : end - start ≡ min part (length (drop start xs)) = omega arith in
    let front : slice_range xs start end ≡ take part (drop start xs) = ap (λ (m : ℕ). take m (drop start xs)) some ∙ take_min part (drop start xs) in
    let at : end ≡ start + min part (length (drop start xs)) = omega arith in
    let back : drop end xs ≡ drop part (drop start xs) = ap (λ (m : ℕ). drop m xs) at ∙ sym (drop-drop (min part (length (drop start xs))) start xs) ∙ drop_min part (drop start xs) in
    record {
      within = omega arith;
      same = grown done new (take part (drop start xs) ∷ []) (blocks_from (length xs) chains k (drop start xs)) (blocks_from (length xs) chains (k + 1) (drop end xs)) (chains_of xs chains)
          (e ∙ ap (λ (x : List InstanceId). done ++ x ∷ []) front)
          (block_on (length xs) chains k (drop start xs) less
          ∙ ap (λ (m : ℕ). take m (drop start xs) ∷ blocks_from (length xs) chains (k + 1) (drop m (drop start xs))) (sym is)
          ∙ ap (λ (r : List InstanceId). take part (drop start xs) ∷ blocks_from (length xs) chains (k + 1) r) (sym back))
          h.same;
    }

-- ---- what holds of each block

pub blocks_short : {T : Type 0} (lengths : List ℕ) (items : List T) (b : ℕ) → length items ≤ b → All (λ cells. length cells ≤ b) (blocks lengths items)
blocks_short [] items b le = All-nil (λ cells. length cells ≤ b)
blocks_short (l ∷ lengths) items b le =
    All-cons (λ cells. length cells ≤ b) (take l items) (blocks lengths (drop l items)) (let t = length-take l items in omega arith)
    (blocks_short lengths (drop l items) b (let t = length-drop l items in omega arith))

pub blocks_below : (count : ℕ) (lengths : List ℕ) (cells : List InstanceId) → AreBelow count cells → All (AreBelow count) (blocks lengths cells)
blocks_below count [] cells all = All-nil (AreBelow count)
blocks_below count (l ∷ lengths) cells all =
    All-cons (AreBelow count) (take l cells) (blocks lengths (drop l cells)) (All-take (λ cell. cell.0 < count) l cells all) (blocks_below count lengths (drop l cells) (All-drop (λ cell. cell.0 < count) l cells all))

pub chain_count : (xs : List InstanceId) (chains : ℕ) → length (chains_of xs chains) ≡ chains
chain_count xs chains = blocks_count (chain_lengths (length xs) chains) xs ∙ length-map (range_with_len 0 chains) (part_length (length xs) chains) ∙ length-range_with_len 0 chains

-- ---- each scanned cell is an instance

below_option : (count domains g i : ℕ) (o : Option CellClock) (xs : List InstanceId) → i < count → AreBelow count xs → AreBelow count (cons_option (if_group domains g o (record { 0 = i })) xs)
below_option count domains g i None xs less all = all
below_option count domains g i (Some clock) xs less all = by (group_of domains clock == g)
  where
    by : (t : Bool) → AreBelow count (cons_option (cond t (Some (record { 0 = i })) None) xs)
    by true = All-cons (λ (cell : InstanceId). cell.0 < count) (record { 0 = i }) xs less all
    by false = all

below_range : (count : ℕ) (verdicts : List (Option Judged)) (domains g k m : ℕ) → k + m ≤ count → AreBelow count (filter_map (cell_in verdicts domains g) (range_with_len k m))
below_range count verdicts domains g k zero le = All-nil (λ (cell : InstanceId). cell.0 < count)
below_range count verdicts domains g k (suc m) le =
    below_option count domains g k (clock_of verdicts (record { 0 = k })) (filter_map (cell_in verdicts domains g) (range_with_len (k + 1) m)) (omega arith) (below_range count verdicts domains g (k + 1) m (omega arith))

below_groups : (verdicts : List (Option Judged)) (domains g m : ℕ) → AreBelow (length verdicts) (flat_map (cells_in verdicts domains) (range_with_len g m))
below_groups verdicts domains g zero = All-nil (λ (cell : InstanceId). cell.0 < length verdicts)
below_groups verdicts domains g (suc m) =
    All-append (λ (cell : InstanceId). cell.0 < length verdicts) (cells_in verdicts domains g) (flat_map (cells_in verdicts domains) (range_with_len (g + 1) m))
    (below_range (length verdicts) verdicts domains g 0 (length verdicts) (omega arith)) (below_groups verdicts domains (g + 1) m)

pub cells_below : (verdicts : List (Option Judged)) (domains : ℕ) → AreBelow (length verdicts) (scanned_cells verdicts domains)
cells_below verdicts domains = below_groups verdicts domains 0 (2 * domains)

-- What is made in a frame is good: it drives made nets and the added outputs, each once.
use Rattle.std.proofs.Common.{ℕ, zero, suc, ◌+◌, ◌≡◌, ◌<◌, ◌≤◌, ◌==◌, ◌⊎◌, inl, inr, Bool, true, false, List, [], ◌∷◌, length, cond, refl, sym, subst, arith}
use Rattle.std.specs.List.{range_with_len}
use Rattle.std.proofs.lemmas.List.Sums.{sum_by-cons}
use Rattle.std.proofs.lemmas.Bool.{eqb-true}
use Rattle.dft_netlist.proofs.LiveLemmas.{le_or_lt}
use Rattle.dft_netlist.specs.NetNumbers.{nets_from}
use Rattle.dft_netlist.specs.Netlist.{Netlist}
use Rattle.dft_config.specs.Config.{Config}
use Rattle.dft_parts.specs.declared.edt_ports.EdtPorts.{EdtPorts}
use Rattle.dft_parts.specs.Recipes.{nets_in, net_at, start_of}
use Rattle.dft_parts.specs.Single.{times_in}
use Rattle.dft_parts.proofs.Singles.{counted_first}
use Rattle.dft_stitch.specs.Chains.{plan_of}
use Rattle.dft_scan_frame.specs.Statements.{IsReady}
use Rattle.dft_insert.specs.declared.style.Style.{Style}
use Rattle.dft_insert.specs.declared.style.Style.TheVariants.{Plain, Edt}
use Rattle.dft_insert.specs.Frame.{frame}
use Rattle.dft_insert.specs.Ports.{gap_in, plain_out, edt_nets}
use Rattle.dft_insert.specs.Scanned.{framed}
use Rattle.dft_insert.specs.Statements.{made_in}
use Rattle.dft_insert.proofs.Filling.{chains_planned}
use Rattle.dft_insert.proofs.Frames.{frame_nets, plain_count, edt_count}
use Rattle.dft_insert.proofs.Claims.{claims}
use Rattle.dft_insert.proofs.Goods.{IsBelow, AreBelow, none, one, IsGood}
use Rattle.dft_insert.proofs.GoodSums.{all_of}
use Rattle.dft_insert.proofs.GoodCompactor.{outputs_of}
use Rattle.dft_insert.proofs.GoodRecipes.{ends_of, plain_good, edt_good}
use Rattle.dft_insert.proofs.FrameRanks.{outs_start, rank_in, laid, rank_made, rank_out, rank_front, low_below, chain_setting, planned_cells}

-- ---- nets that rise by one are counted once

one_by : (x k : ℕ) (b : Bool) → (x == k) ≡ b → (x ≡ k) ⊎ (one x k ≡ 0)
one_by x k true h = inl (eqb-true x k h)
one_by x k false h = inr (let e = counted_first x k [] false h in omega (arith, e))

one_few : (x k : ℕ) (b : Bool) → (x == k) ≡ b → one x k ≤ 1
one_few x k true h = let e = counted_first x k [] true h in omega (arith, e)
one_few x k false h = let e = counted_first x k [] false h in omega (arith, e)

-- at most once, and only from a number up to another
record IsRow (times from end k : ℕ) : Type 0 where
  pub few : times ≤ 1
  pub front : k < from → times ≡ 0
  pub back : end ≤ k → times ≡ 0

row_more : (x k later end times : ℕ) → later ≡ x + 1 → later ≤ end → IsRow times later end k → (x ≡ k) ⊎ (one x k ≡ 0) → one x k ≤ 1 → IsRow (one x k + times) x end k
row_more x k later end times next fits h (inl e) few = let rest = h.front (omega (arith, e, next)) in record { few = omega (arith, few, rest); front = λ less. absurd (omega (arith, e, less)); back = λ past. absurd (omega (arith, e, past, fits, next)) }
row_more x k later end times next fits h (inr zeroth) few = record {
  few = (let f = h.few in omega (arith, f, zeroth));
  front = λ less. (let f = h.front (omega (arith, less, next)) in omega (arith, f, zeroth));
  back = λ past. (let f = h.back past in omega (arith, f, zeroth));
}

rows_once : (g : ℕ → ℕ) (start from count k : ℕ) → ((j : ℕ) → from ≤ j → j < from + count → g j ≡ start + j) → IsRow (all_of (λ j. one (g j)) (range_with_len from count) k) (start + from) (start + from + count) k
rows_once g start from zero k is = record { few = omega arith; front = λ _. refl; back = λ _. refl }
rows_once g start from (suc count) k is =
    let here : g from ≡ start + from = is from (omega arith) (omega arith) in
    let rest = rows_once g start (from + 1) count k (λ j past less. is j (omega (arith, past)) (omega (arith, less))) in
    let times = all_of (λ j. one (g j)) (range_with_len (from + 1) count) k in
    let moved : IsRow times (start + (from + 1)) (start + from + suc count) k = subst (λ (e : ℕ). IsRow times (start + (from + 1)) e k) (let e : start + (from + 1) + count ≡ start + from + suc count = omega arith in e) rest in
    subst (λ (x : ℕ). IsRow (one (g from) k + times) x (start + from + suc count) k) here
    (row_more (g from) k (start + (from + 1)) (start + from + suc count) times (omega (arith, here)) (omega arith) moved (one_by (g from) k (g from == k) refl) (one_few (g from) k (g from == k) refl))

times_all : (xs : List ℕ) (k : ℕ) → times_in xs k ≡ all_of (λ j. one j) xs k
times_all [] k = refl
times_all (x ∷ xs) k =
    let split = sum_by-cons (λ (j : ℕ). cond (j == k) 1 0) x xs in
    let alone = sum_by-cons (λ (j : ℕ). cond (j == k) 1 0) x [] in
    omega (arith, split, alone, times_all xs k)

range_row : (from count k : ℕ) → IsRow (times_in (range_with_len from count) k) from (from + count) k
range_row from count k =
    let h = rows_once (λ j. j) 0 from count k (λ j past less. omega arith) in
    let same = times_all (range_with_len from count) k in record {
      few = (let f = h.few in omega (arith, f, same));
      front = λ less. (let f = h.front (omega (arith, less)) in omega (arith, f, same));
      back = λ past. (let f = h.back (omega (arith, past)) in omega (arith, f, same));
    }

pub from_at : (first count j : ℕ) → j < count → (net_at (nets_from first count) j).0 ≡ first + j
from_at first zero j less = absurd (omega (arith, less))
from_at first (suc count) zero less = omega arith
from_at first (suc count) (suc j) less = omega (arith, from_at (suc first) count j (omega (arith, less)))

-- ---- the added outputs

-- as they are counted
abbrev pub lone : Style → Netlist → Config → ℕ → ℕ
lone Plain n config = ends_of config (gap_in Plain n config) (length (plan_of n config).chains)
lone Edt n config = outputs_of config (edt_nets (gap_in Edt n config).before config)

lone_row : (style : Style) (n : Netlist) (config : Config) (k : ℕ) → IsRow (lone style n config k) (outs_start style n config) ((gap_in style n config).before + (gap_in style n config).width) k
lone_row Plain n config k =
    let start = outs_start Plain n config in
    let count = length (plan_of n config).chains in
    let h = rows_once (λ j. (plain_out (gap_in Plain n config).before config.chains j).0) start 0 count k (λ j past less. refl) in record {
      few = h.few;
      front = λ less. h.front (omega (arith, less));
      back = λ past. h.back (omega (arith, past, plain_count config, chains_planned n config (plan_of n config) refl));
    }
lone_row Edt n config k =
    let start = outs_start Edt n config in
    let count = length config.compactor.groups in
    let ports : EdtPorts = edt_nets (gap_in Edt n config).before config in
    let h = rows_once (λ j. (net_at ports.outputs j).0) start 0 count k (λ j past less. from_at start count j (omega (arith, less))) in record {
      few = h.few;
      front = λ less. h.front (omega (arith, less));
      back = λ past. h.back (omega (arith, past, edt_count config));
    }

-- ---- what is made

module _ (n : Netlist) (config : Config) (r : ℕ → ℕ) (ready : IsReady n config) (bound : (j : ℕ) → r j ≤ length n.nets) where
  -- how many nets there are in all, and what stands above them
  abbrev pub limit_of : Style → ℕ
  limit_of style = length (frame style n config).nets + nets_in (made_in style n config)

  abbrev pub top_of : Style → ℕ
  top_of style = length n.nets + 2 + limit_of style

  abbrev pub rank_of : Style → ℕ → ℕ
  rank_of style = rank_in style n config r (top_of style)

  above : (style : Style) (k : ℕ) → outs_start style n config ≤ k → k < (gap_in style n config).before + (gap_in style n config).width → rank_of style (limit_of style) < rank_of style k
  above style k from less =
      let lies = laid style n config ready in
      let made = rank_made style n config r (top_of style) lies bound (limit_of style) (omega (arith, frame_nets style n config)) in
      let top = rank_out style n config r (top_of style) lies bound k from less in
      omega (arith, made, top)

  low : (style : Style) (k : ℕ) → k < outs_start style n config → IsBelow (rank_of style) (length (frame style n config).nets) (record { 0 = k })
  low style k less =
      let lies = laid style n config ready in
      λ j past. low_below style n config r (top_of style) lies bound k (rank_front style n config r (top_of style) lies bound k less) j (omega (arith, past, frame_nets style n config))

  nets_low : (style : Style) (first count : ℕ) → first + count ≤ outs_start style n config → AreBelow (rank_of style) (length (frame style n config).nets) (nets_from first count)
  nets_low style first zero le = tt
  nets_low style first (suc count) le = (low style first (omega (arith, le)), nets_low style (suc first) count (omega (arith, le)))

  -- the parts of each style are good
  pub made_good : (style : Style) → IsGood (frame style n config) (rank_of style) (start_of (framed style n config)) (made_in style n config) none (lone style n config)
  made_good Plain =
      plain_good n (frame Plain n config) config (plan_of n config) (gap_in Plain n config) (rank_of Plain) (length n.nets + (gap_in Plain n config).width) (limit_of Plain) (start_of (framed Plain n config))
      (chain_setting Plain n config r (top_of Plain) (laid Plain n config ready) bound ready) (omega (arith, frame_nets Plain n config)) refl (planned_cells Plain n config ready)
      (λ chain less. above Plain (outs_start Plain n config + chain) (omega arith) (omega (arith, less, plain_count config, chains_planned n config (plan_of n config) refl))) (omega arith)
  made_good Edt =
      let first : ℕ = (gap_in Edt n config).before in
      let ports : EdtPorts = edt_nets first config in
      edt_good n (frame Edt n config) config (plan_of n config) (gap_in Edt n config) ports (rank_of Edt) (length n.nets + (gap_in Edt n config).width) (limit_of Edt) (start_of (framed Edt n config))
      (chain_setting Edt n config r (top_of Edt) (laid Edt n config ready) bound ready) (omega (arith, frame_nets Edt n config)) refl (planned_cells Edt n config ready)
      (record { clock = low Edt (first + 1) (omega arith); update = low Edt (first + 2) (omega arith); channels = nets_low Edt (first + 3) config.ring.channels (omega arith) })
      (λ j less. (
      let start = outs_start Edt n config in
      let e = from_at start (length config.compactor.groups) j less in
      subst (λ (k : ℕ). rank_of Edt (limit_of Edt) < rank_of Edt k) (sym e) (above Edt (start + j) (omega arith) (omega (arith, less, edt_count config)))
      )) (omega arith)

-- ---- what it claims

-- a net of the frame that is no added output is driven by no part
pub claims_none : (style : Style) (n : Netlist) (config : Config) (k : ℕ) → IsReady n config → k < length (frame style n config).nets → (k < outs_start style n config) ⊎ ((gap_in style n config).before + (gap_in style n config).width ≤ k) →
    times_in (claims (frame style n config) (made_in style n config)) k ≡ 0
claims_none style n config k ready less where_it =
    let few = (made_good n config (λ _. 0) ready (λ j. omega arith) style).few k in
    let range = (range_row (length (frame style n config).nets) (nets_in (made_in style n config)) k).front less in
    let row = lone_row style n config k in
    elim where_it [
      | inl front ↦ (let e = row.front front in omega (arith, few, range, e))
      | inr back ↦ (let e = row.back back in omega (arith, few, range, e))
    ]

-- and each net by one at most
pub claims_once : (style : Style) (n : Netlist) (config : Config) (k : ℕ) → IsReady n config → times_in (claims (frame style n config) (made_in style n config)) k ≤ 1
claims_once style n config k ready =
    let few = (made_good n config (λ _. 0) ready (λ j. omega arith) style).few k in
    let range = range_row (length (frame style n config).nets) (nets_in (made_in style n config)) k in
    let row = lone_row style n config k in
    let lies = laid style n config ready in
    elim (le_or_lt (length (frame style n config).nets) k) [
      | inl past ↦ (let e = row.back (omega (arith, past, lies.before, frame_nets style n config)) in let f = range.few in omega (arith, few, e, f))
      | inr less ↦ (let e = range.front less in let f = row.few in omega (arith, few, e, f))
    ]

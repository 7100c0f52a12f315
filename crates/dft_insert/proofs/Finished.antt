-- Scanned netlists can be finished.
use Rattle.std.proofs.Common.{ℕ, ◌+◌, ◌≡◌, ◌≤◌, inl, inr, List, length, refl, arith}
use Rattle.std.proofs.lemmas.Bool.{cases_lt}
use Rattle.dft_netlist.specs.Netlist.{Netlist}
use Rattle.dft_netlist.specs.NetDrivers.{IsSingle, times_driven}
use Rattle.dft_netlist.specs.Orders.{Has, AreOnce, IsOrderable}
use Rattle.dft_netlist.proofs.RankLemmas as orders
use Rattle.dft_config.specs.Config.{Config}
use Rattle.dft_parts.specs.Parts.{Part}
use Rattle.dft_parts.specs.Ranks.{AreRanked}
use Rattle.dft_parts.specs.Single.{driven_by_parts, times_in}
use Rattle.dft_parts.proofs.Ranking as ranks
use Rattle.dft_parts.proofs.Singles.{stays_single}
use Rattle.dft_parts.proofs.Growing.{kept_refl}
use Rattle.dft_scan_frame.specs.Statements.{IsReady}
use Rattle.dft_insert.specs.declared.style.Style.{Style}
use Rattle.dft_insert.specs.Frame.{frame}
use Rattle.dft_insert.specs.Ports.{gap_in}
use Rattle.dft_insert.specs.Scanned.{framed}
use Rattle.dft_insert.specs.Statements.{scanned, made_in}
use Rattle.dft_insert.proofs.Frames.{frame_nets}
use Rattle.dft_insert.specs.Finishing.{CanBeFinished}
use Rattle.dft_insert.proofs.Claims.{has_times, once_by, claims, Keeps, driven_less, parts_fine}
use Rattle.dft_insert.proofs.FrameRanks.{outs_start, laid}
use Rattle.dft_insert.proofs.FrameRanked.{frame_ranked}
use Rattle.dft_insert.proofs.FrameSingle.{frame_single, frame_free}
use Rattle.dft_insert.proofs.MadeGood.{top_of, rank_of, made_good, claims_none, claims_once}

-- ---- a netlist keeps its own

keeps_own : (n : Netlist) → Keeps n n
keeps_own n i x at = record { instance = x; at = at; cell_is = refl; kept = kept_refl x.pins }

-- ---- drivers

module _ (style : Style) (n : Netlist) (config : Config) (ready : IsReady n config) where
  abbrev made : List Part
  made = made_in style n config

  abbrev driven : List ℕ
  driven = driven_by_parts (framed style n config) made

  -- what parts drive, they claim
  few : (net : ℕ) → times_in driven net ≤ times_in (claims (frame style n config) made) net
  few net = driven_less (frame style n config) (rank_of n config (λ _. 0) ready (λ j. omega arith) style) (framed style n config) made net refl (keeps_own (frame style n config)) (made_good n config (λ _. 0) ready (λ j. omega arith) style).fine

  once : AreOnce driven
  once = once_by driven (λ net. (let a = few net in let b = claims_once style n config net ready in omega (arith, a, b)))

  -- a net that a part drives was not driven
  free : (net : ℕ) → Has driven net → times_driven (frame style n config) net ≡ 0
  free net has =
      let gap = gap_in style n config in
      let some = has_times driven net has in
      let claimed = few net in
      let lies = laid style n config ready in
      let size = frame_nets style n config in
      elim (cases_lt net (length (frame style n config).nets)) [
        | inr past ↦ frame_free style n config net ready (omega (arith, past, size, lies.before, lies.end)) (inr (omega (arith, past, size)))
        | inl less ↦ elim (cases_lt net (outs_start style n config)) [
          | inl front ↦ (let zeroth = claims_none style n config net ready less (inl front) in absurd (omega (arith, some, claimed, zeroth)))
          | inr from ↦ elim (cases_lt net (gap.before + gap.width)) [
            | inl inside ↦ frame_free style n config net ready from (inl inside)
            | inr back ↦ (let zeroth = claims_none style n config net ready less (inr back) in absurd (omega (arith, some, claimed, zeroth)))
          ]
        ]
      ]

  pub scanned_single : IsSingle (scanned style n config)
  scanned_single = stays_single (framed style n config) made (frame_single style n config ready) once free

-- ---- order

scanned_ranked : (style : Style) (n : Netlist) (config : Config) (r : ℕ → ℕ) (ready : IsReady n config) (bound : (j : ℕ) → r j ≤ length n.nets) → AreRanked n r → AreRanked (scanned style n config) (rank_of n config r ready bound style)
scanned_ranked style n config r ready bound ranked =
    ranks.parts_rank (framed style n config) (rank_of n config r ready bound style) (made_in style n config) (frame_ranked style n config r (top_of n config r ready bound style) ready bound ranked)
    (parts_fine (frame style n config) (rank_of n config r ready bound style) (framed style n config) (made_in style n config) refl (keeps_own (frame style n config)) (made_good n config r ready bound style).fine)

pub scanned_orderable : (style : Style) (n : Netlist) (config : Config) → IsReady n config → (net : ℕ) → IsOrderable (scanned style n config) net
scanned_orderable style n config ready net =
    let order = orders.order_ranks n ready.order ready.netlist ready.ordered in
    let r : ℕ → ℕ = order.0 in
    let ranked : AreRanked n r = ranks.order_ranks n r ready.single order.1 in
    ranks.ranks_order (scanned style n config) (rank_of n config r ready order.1.within style) (scanned_ranked style n config r ready order.1.within ranked) net

pub can_be_finished : CanBeFinished
can_be_finished style n config ready = record { single = scanned_single style n config ready; orderable = λ net less. scanned_orderable style n config ready net }

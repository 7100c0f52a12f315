-- All of a frame is ranked, where an order ranks the design.
use Rattle.std.proofs.Common.{ℕ, zero, suc, ◌+◌, ◌≡◌, ◌<◌, ◌≤◌, inl, inr, Bool, true, false, List, [], ◌∷◌, length, map, Option, None, Some, slice_get, refl, sym, subst, ap, arith, ◌∙◌}
use Rattle.std.specs.Prelude.{if◌then◌else◌}
use Rattle.std.proofs.lemmas.Option.{none-some, same_Some}
use Rattle.dft_cells.specs.declared.kind.Kind.{Kind}
use Rattle.dft_cells.specs.declared.kind.Kind.TheVariants as kind
use Rattle.dft_cells.specs.declared.kind.Role.{Role}
use Rattle.dft_cells.specs.declared.cell.Cell.{Cell}
use Rattle.dft_cells.specs.declared.cell.CellId.{CellId}
use Rattle.dft_cells.specs.WellFormed.{IsWellFormed}
use Rattle.dft_netlist.specs.declared.instance.Instance.{Instance}
use Rattle.dft_netlist.specs.declared.instance.CellRef.TheVariants.{Library}
use Rattle.dft_netlist.specs.declared.instance.Join.{Join}
use Rattle.dft_netlist.specs.declared.instance.Signal.{Signal}
use Rattle.dft_netlist.specs.declared.instance.Signal.TheVariants as signal
use Rattle.dft_netlist.specs.Drivers.{Source, Net, Tied, Loose, Shape, connections_from, inputs_of, is_input, lockup_inputs, driver_of_kind, nets_of, shape_of, source_of}
use Rattle.dft_netlist.specs.Netlist.{Netlist}
use Rattle.dft_netlist.specs.Orders.{Has}
use Rattle.dft_netlist.specs.Sound.{IsLive, AreLive, is_output}
use Rattle.dft_netlist.proofs.StandLemmas.{has_left, has_right, has_either}
use Rattle.dft_config.specs.Config.{Config}
use Rattle.dft_chains.specs.ScanOff.{moved_source}
use Rattle.dft_parts.specs.Ranks.{reads_by, IsRanked, IsJoinRanked, AreRanked}
use Rattle.dft_parts.specs.Single.{net_driven, nets_driven}
use Rattle.dft_parts.proofs.RankedParts.{flip_flop_ranked}
use Rattle.dft_rules.specs.Refusals.{is_scanned}
use Rattle.dft_rules.specs.Rules.{judged, scan_cell_in}
use Rattle.dft_scan_frame.specs.Moves.{Gap, moved, moved_signal, moved_instance, moved_join, map_from}
use Rattle.dft_scan_frame.specs.Statements.{IsReady}
use Rattle.dft_scan_frame.proofs.Fine.{is_plain, instance_plain}
use Rattle.dft_scan_frame.proofs.Mergings.{moved_connections, moved_inputs}
use Rattle.dft_insert.specs.declared.style.Style.{Style}
use Rattle.dft_insert.specs.Frame.{as_scan_cell, framed_instance, framed_at, frame}
use Rattle.dft_insert.specs.Ports.{gap_in}
use Rattle.dft_insert.proofs.Frames.{scan_pair}
use Rattle.dft_insert.proofs.FrameRanks.{rank_in, laid, rank_moved, pair_flop}

-- ---- nets that were moved

-- a net is one of these, moved, and one of the design's
record IsFrom (f : ℕ → ℕ) (count : ℕ) (nets : List ℕ) (net : ℕ) : Type 0 where
  pub own : ℕ
  pub has : Has nets own
  pub live : own < count
  pub is : net ≡ f own

-- what is read, of the inputs
record IsRead (f : ℕ → ℕ) (nets inputs : List ℕ) (net : ℕ) : Type 0 where
  pub own : ℕ
  pub has : Has nets own
  pub input : Has inputs own
  pub is : net ≡ f own

moved_nets : (f : ℕ → ℕ) (inputs : List Source) (net : ℕ) → Has (nets_of (map (moved_source f) inputs)) net → IsRead f (nets_of inputs) (nets_of inputs) net
moved_nets f [] net h = absurd h
moved_nets f (Net k ∷ inputs) net (inl e) = record { own = k; has = inl refl; input = inl refl; is = e }
moved_nets f (Net k ∷ inputs) net (inr h) = let it = moved_nets f inputs net h in record { own = it.own; has = inr it.has; input = inr it.input; is = it.is }
moved_nets f (Tied bit ∷ inputs) net h = moved_nets f inputs net h
moved_nets f (Loose i pin ∷ inputs) net h = moved_nets f inputs net h

plain_reads : (f : ℕ → ℕ) (k : Kind) (i : ℕ) (ins latch its : List Source) (net : ℕ) → is_plain k ≡ true → Has (reads_by (driver_of_kind k i false (map (moved_source f) ins)) its) net → IsRead f (reads_by (driver_of_kind k i false ins) latch) (nets_of ins) net
plain_reads f (kind.Flop flop) i ins latch its net plain h = absurd h
plain_reads f kind.Opaque i ins latch its net plain h = absurd h
plain_reads f kind.Lockup i ins latch its net plain h = absurd cc
plain_reads f (kind.Gate gate) i ins latch its net plain h = moved_nets f ins net h

-- ---- nets at pins are live

first_live : (count i pin : ℕ) (s : Signal) (rest : List Source) (own : ℕ) (b : Bool) → IsLive count s → (Has (nets_of rest) own → own < count) → Has (nets_of (if b then source_of i pin s ∷ rest else rest)) own → own < count
first_live count i pin s rest own false live more h = more h
first_live count i pin (signal.Net net) rest own true live more (inl e) = omega (arith, e, live)
first_live count i pin (signal.Net net) rest own true live more (inr h) = more h
first_live count i pin (signal.Constant bit) rest own true live more h = more h
first_live count i pin signal.Unconnected rest own true live more h = more h

inputs_live : (count i pin : ℕ) (roles : List Role) (signals : List Signal) (own : ℕ) → AreLive count signals → Has (nets_of (inputs_of i (connections_from pin roles signals))) own → own < count
inputs_live count i pin [] signals own live h = absurd h
inputs_live count i pin (r ∷ roles) [] own live h = absurd h
inputs_live count i pin (r ∷ roles) (s ∷ signals) own live h =
    first_live count i pin s (inputs_of i (connections_from (suc pin) roles signals)) own (is_input r) (live zero s refl) (inputs_live count i (suc pin) roles signals own (λ k z at. live (suc k) z at)) h

one_driven : (f : ℕ → ℕ) (count own net : ℕ) (b : Bool) → own < count → Has (if b then f own ∷ [] else []) net → IsFrom f count (if b then own ∷ [] else []) net
one_driven f count own net true live (inl e) = record { own = own; has = inl refl; live = live; is = e }
one_driven f count own net true live (inr h) = absurd h
one_driven f count own net false live h = absurd h

pin_driven : (gap : Gap) (count : ℕ) (r : Role) (s : Signal) (net : ℕ) → IsLive count s → Has (net_driven r (moved_signal gap s)) net → IsFrom (moved gap) count (net_driven r s) net
pin_driven gap count r (signal.Net own) net live h = one_driven (moved gap) count own.0 net (is_output r) live h
pin_driven gap count r (signal.Constant bit) net live h = absurd h
pin_driven gap count r signal.Unconnected net live h = absurd h

moved_driven : (gap : Gap) (count : ℕ) (roles : List Role) (signals : List Signal) (net : ℕ) → AreLive count signals → Has (nets_driven roles (map (moved_signal gap) signals)) net → IsFrom (moved gap) count (nets_driven roles signals) net
moved_driven gap count [] signals net live h = absurd h
moved_driven gap count (r ∷ roles) [] net live h = absurd h
moved_driven gap count (r ∷ roles) (s ∷ signals) net live h = elim (has_either (net_driven r (moved_signal gap s)) (nets_driven roles (map (moved_signal gap) signals)) net h) [
  | inl here ↦ (let it = pin_driven gap count r s net (live zero s refl) here in record { own = it.own; has = has_left (net_driven r s) (nets_driven roles signals) it.own it.has; live = it.live; is = it.is })
  | inr there ↦ (let it = moved_driven gap count roles signals net (λ k z at. live (suc k) z at) there in record { own = it.own; has = has_right (net_driven r s) (nets_driven roles signals) it.own it.has; live = it.live; is = it.is })
]

-- ---- instances

-- ranks that are as they were, where nets are moved
abbrev KeepsRanks : (gap : Gap) → (count : ℕ) → (r rank : ℕ → ℕ) → Type 0
KeepsRanks gap count r rank = (own : ℕ) → own < count → rank (moved gap own) ≡ r own

moved_ranked : (library : List Cell) (gap : Gap) (count : ℕ) (r rank : ℕ → ℕ) (i : ℕ) (x : Instance) → KeepsRanks gap count r rank → is_plain (shape_of library x.cell).kind ≡ true → AreLive count x.pins → IsRanked library r i x → IsRanked library rank i (moved_instance gap x)
moved_ranked library gap count r rank i x keeps plain live ranked read net has there =
    let s : Shape = shape_of library x.cell in
    let ins = inputs_of i (connections_from 0 s.roles x.pins) in
    let latch = lockup_inputs i (connections_from 0 s.roles x.pins) in
    let its = lockup_inputs i (connections_from 0 s.roles (map (moved_signal gap) x.pins)) in
    let same : inputs_of i (connections_from 0 s.roles (map (moved_signal gap) x.pins)) ≡ map (moved_source (moved gap)) ins = ap (inputs_of i) (moved_connections gap 0 s.roles x.pins) ∙ moved_inputs gap i (connections_from 0 s.roles x.pins) in
    let it = plain_reads (moved gap) s.kind i ins latch its read plain (subst (λ (ss : List Source). Has (reads_by (driver_of_kind s.kind i false ss) its) read) same has) in
    let out = moved_driven gap count s.roles x.pins net live there in
    let below = ranked it.own out.own it.has out.has in
    let a : rank read ≡ r it.own = ap rank it.is ∙ keeps it.own (inputs_live count i 0 s.roles x.pins it.own live it.input) in
    let b : rank net ≡ r out.own = ap rank out.is ∙ keeps out.own out.live in
    omega (arith, a, b, below)

cell_ranked : (library : List Cell) (gap : Gap) (rank : ℕ → ℕ) (i : ℕ) (x : Instance) (o : Option CellId) → IsWellFormed library → scan_cell_in library x.cell ≡ o → IsRanked library rank i (moved_instance gap x) → IsRanked library rank i (as_scan_cell library gap x o)
cell_ranked library gap rank i x None well names ranked = ranked
cell_ranked library gap rank i x (Some id) well names ranked =
    let s : Shape = shape_of library x.cell in
    let t : Shape = shape_of library (Library id) in
    flip_flop_ranked library rank i (as_scan_cell library gap x (Some id)) (pair_flop s.kind s.roles t.kind t.roles (scan_pair library x.cell id names well))

framed_ranked : (library : List Cell) (gap : Gap) (rank : ℕ → ℕ) (i : ℕ) (x : Instance) (b : Bool) → IsWellFormed library → IsRanked library rank i (moved_instance gap x) → IsRanked library rank i (framed_instance library gap b x)
framed_ranked library gap rank i x false well ranked = ranked
framed_ranked library gap rank i x true well ranked = cell_ranked library gap rank i x (scan_cell_in library x.cell) well refl ranked

-- an instance of the frame is one of the design's
record IsFramed (n : Netlist) (config : Config) (gap : Gap) (number : ℕ) (o : Option Instance) (y : Instance) : Type 0 where
  pub instance : Instance
  pub at : o ≡ Some instance
  pub is : framed_at n config gap number instance ≡ y

from_back : (n : Netlist) (config : Config) (gap : Gap) (k : ℕ) (xs : List Instance) (i : ℕ) (y : Instance) → slice_get (map_from (framed_at n config gap) k xs) i ≡ Some y → IsFramed n config gap (k + i) (slice_get xs i) y
from_back n config gap k [] i y at = absurd (none-some y at)
from_back n config gap k (x ∷ xs) zero y at = let e : k ≡ k + 0 = omega arith in record { instance = x; at = refl; is = ap (λ (j : ℕ). framed_at n config gap j x) (sym e) ∙ same_Some (framed_at n config gap k x) y at }
from_back n config gap k (x ∷ xs) (suc i) y at = let e : suc k + i ≡ k + suc i = omega arith in subst (λ (j : ℕ). IsFramed n config gap j (slice_get xs i) y) e (from_back n config gap (suc k) xs i y at)

-- ---- joins

join_ranked : (gap : Gap) (count : ℕ) (r rank : ℕ → ℕ) (target : ℕ) (s : Signal) → KeepsRanks gap count r rank → target < count → IsLive count s → ((read : ℕ) → Has (nets_of (source_of 0 0 s ∷ [])) read → r read < r target) →
    (read : ℕ) → Has (nets_of (source_of 0 0 (moved_signal gap s) ∷ [])) read → rank read < rank (moved gap target)
join_ranked gap count r rank target (signal.Net net) keeps to live ranked read (inl e) =
    let below = ranked net.0 (inl refl) in
    let a : rank read ≡ r net.0 = ap rank e ∙ keeps net.0 live in
    let b = keeps target to in
    omega (arith, a, b, below)
join_ranked gap count r rank target (signal.Net net) keeps to live ranked read (inr h) = absurd h
join_ranked gap count r rank target (signal.Constant bit) keeps to live ranked read h = absurd h
join_ranked gap count r rank target signal.Unconnected keeps to live ranked read h = absurd h

record IsMovedJoin (gap : Gap) (o : Option Join) (y : Join) : Type 0 where
  pub join : Join
  pub at : o ≡ Some join
  pub is : moved_join gap join ≡ y

join_back : (gap : Gap) (joins : List Join) (k : ℕ) (y : Join) → slice_get (map (moved_join gap) joins) k ≡ Some y → IsMovedJoin gap (slice_get joins k) y
join_back gap [] k y at = absurd (none-some y at)
join_back gap (j ∷ joins) zero y at = record { join = j; at = refl; is = same_Some (moved_join gap j) y at }
join_back gap (j ∷ joins) (suc k) y at = join_back gap joins k y at

-- ---- the frame

pub frame_ranked : (style : Style) (n : Netlist) (config : Config) (r : ℕ → ℕ) (top : ℕ) → IsReady n config → ((j : ℕ) → r j ≤ length n.nets) → AreRanked n r → AreRanked (frame style n config) (rank_in style n config r top)
frame_ranked style n config r top ready bound ranked =
    let gap : Gap = gap_in style n config in
    let rank : ℕ → ℕ = rank_in style n config r top in
    let keeps : KeepsRanks gap (length n.nets) r rank = λ own less. rank_moved style n config r top (laid style n config ready) bound own less in record {
      instances = λ i y at. (
          let it = from_back n config gap 0 n.instances i y at in
          let x : Instance = it.instance in
          subst (IsRanked n.library rank i) it.is
          (framed_ranked n.library gap rank i x (is_scanned (judged n config (0 + i))) ready.library
          (moved_ranked n.library gap (length n.nets) r rank i x keeps (instance_plain n config i x ready it.at) (ready.netlist.instances i x it.at).live (ranked.instances i x it.at)))
          );
      joins = λ k y at. (
          let it = join_back gap n.joins k y at in
          let j : Join = it.join in
          let sound = ready.netlist.joins k j it.at in
          subst (IsJoinRanked rank) it.is (join_ranked gap (length n.nets) r rank j.target.0 j.source keeps sound.target_live sound.source_live (ranked.joins k j it.at))
          );
    }

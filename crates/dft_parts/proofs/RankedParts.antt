-- Made instances that are ranked.
use Rattle.std.proofs.Common.{ℕ, suc, ◌≡◌, ◌<◌, ◌⊎◌, inl, inr, false, List, [], ◌∷◌, ◌++◌, length, map, refl, sym, subst}
use Rattle.std.specs.Prelude.{IsTrue}
use Rattle.std.specs.List.{AllByRecursion}
use Rattle.dft_cells.specs.declared.kind.Kind.{Kind}
use Rattle.dft_cells.specs.declared.kind.Kind.TheVariants as kind
use Rattle.dft_cells.specs.declared.kind.Gate.{Gate}
use Rattle.dft_cells.specs.declared.kind.Role.TheVariants.{Clock, Din, Output}
use Rattle.dft_cells.specs.FlipFlops.{is_flip_flop}
use Rattle.dft_netlist.specs.declared.ids.NetId.{NetId}
use Rattle.dft_netlist.specs.declared.instance.CellRef.{CellRef}
use Rattle.dft_netlist.specs.declared.instance.CellRef.TheVariants as cell_ref
use Rattle.dft_netlist.specs.declared.instance.Signal.{Signal}
use Rattle.dft_netlist.specs.declared.instance.Signal.TheVariants as signal
use Rattle.dft_netlist.specs.Drivers.{Shape, Source, driver_of_kind, gate_roles, inputs_of, lockup_inputs, connections_from, nets_of, shape_of}
use Rattle.dft_netlist.specs.Orders.{Has}
use Rattle.dft_parts.specs.Cells.{is_lockup, first_cell, pin_between}
use Rattle.dft_parts.specs.Recipes.{at_nets}
use Rattle.dft_parts.specs.Single.{nets_driven}
use Rattle.dft_parts.specs.Standing.{sources_at}
use Rattle.dft_parts.specs.Ranks.{reads_by, FlipFlopRanked, GateRanked, LockupRanked}
use Rattle.dft_parts.proofs.Standing.{gate_inputs}
use Rattle.dft_parts.proofs.Stores.{shape_as, lockup_shape}

-- ---- flip-flops

reads_none : (k : Kind) (i : ℕ) (ins latch : List Source) (read : ℕ) → IsTrue (is_flip_flop k) → Has (reads_by (driver_of_kind k i false ins) latch) read → ⊥
reads_none (kind.Flop flop) i ins latch read is has = has
reads_none (kind.Gate gate) i ins latch read is has = absurd cc
reads_none kind.Lockup i ins latch read is has = absurd cc
reads_none kind.Opaque i ins latch read is has = absurd cc

pub flip_flop_ranked : FlipFlopRanked
flip_flop_ranked library rank i x is read net has there =
    let cs = connections_from 0 (shape_of library x.cell).roles x.pins in
    absurd (reads_none (shape_of library x.cell).kind i (inputs_of i cs) (lockup_inputs i cs) read is has)

-- ---- by a shape

-- the nets that an instance of a shape with these pins reads
abbrev read_as : Shape → (i : ℕ) → List Signal → List ℕ
read_as s i pins = let cs = connections_from 0 s.roles pins in reads_by (driver_of_kind s.kind i false (inputs_of i cs)) (lockup_inputs i cs)

abbrev IsRankedAs : (rank : ℕ → ℕ) → (i : ℕ) → Shape → List Signal → Type 0
IsRankedAs rank i s pins = (read net : ℕ) → Has (read_as s i pins) read → Has (nets_driven s.roles pins) net → rank read < rank net

-- a gate reads among its inputs, a lock-up its clock and input
reads_some : (k : Kind) (i : ℕ) (ins latch : List Source) (read : ℕ) → Has (reads_by (driver_of_kind k i false ins) latch) read → Has (nets_of ins) read ⊎ Has (nets_of latch) read
reads_some (kind.Flop flop) i ins latch read has = absurd has
reads_some kind.Opaque i ins latch read has = absurd has
reads_some kind.Lockup i ins latch read has = inr has
reads_some (kind.Gate gate) i ins latch read has = inl has

-- ---- gates

gate_latch : (i pin : ℕ) (xs : List NetId) (o : NetId) → lockup_inputs i (connections_from pin (gate_roles (length xs)) (at_nets xs ++ signal.Net o ∷ [])) ≡ []
gate_latch i pin [] o = refl
gate_latch i pin (x ∷ xs) o = gate_latch i (suc pin) xs o

pub gate_drives : (xs : List NetId) (o : NetId) → nets_driven (gate_roles (length xs)) (at_nets xs ++ signal.Net o ∷ []) ≡ o.0 ∷ []
gate_drives [] o = refl
gate_drives (x ∷ xs) o = gate_drives xs o

among : (rank : ℕ → ℕ) (bound read : ℕ) (xs : List NetId) → AllByRecursion (λ (net : NetId). rank net.0 < bound) xs → Has (nets_of (sources_at xs)) read → rank read < bound
among rank bound read [] h has = absurd has
among rank bound read (x ∷ xs) h (inl e) = subst (λ k. rank k < bound) (sym e) h.0
among rank bound read (x ∷ xs) h (inr has) = among rank bound read xs h.1 has

only : (rank : ℕ → ℕ) (read net o : ℕ) → rank read < rank o → Has (o ∷ []) net → rank read < rank net
only rank read net o less (inl e) = subst (λ k. rank read < rank k) (sym e) less
only rank read net o less (inr h) = absurd h

gate_as : (rank : ℕ → ℕ) (i : ℕ) (k : Gate) (xs : List NetId) (o : NetId) → AllByRecursion (λ (net : NetId). rank net.0 < rank o.0) xs → IsRankedAs rank i (shape_as (kind.Gate k) (gate_roles (length xs))) (at_nets xs ++ signal.Net o ∷ [])
gate_as rank i k xs o h read net has there =
    let cs = connections_from 0 (gate_roles (length xs)) (at_nets xs ++ signal.Net o ∷ []) in
    let less : rank read < rank o.0 = elim (reads_some (kind.Gate k) i (inputs_of i cs) (lockup_inputs i cs) read has) [
      | inl own ↦ among rank (rank o.0) read xs h (subst (λ (ss : List Source). Has (nets_of ss) read) (gate_inputs i 0 xs o) own)
      | inr latch ↦ absurd (subst (λ (ss : List Source). Has (nets_of ss) read) (gate_latch i 0 xs o) latch)
    ] in
    only rank read net o.0 less (subst (λ (nets : List ℕ). Has nets net) (gate_drives xs o) there)

pub gate_ranked : GateRanked
gate_ranked library rank i x k xs o cell pins h =
    subst (λ (c : CellRef). IsRankedAs rank i (shape_of library c) x.pins) (sym cell)
    (subst (IsRankedAs rank i (shape_of library (cell_ref.Gate k (length xs)))) (sym pins) (gate_as rank i k xs o h))

-- ---- lock-ups

lockup_as : (rank : ℕ → ℕ) (i : ℕ) (clock input output : NetId) → rank clock.0 < rank output.0 → rank input.0 < rank output.0 →
    IsRankedAs rank i (shape_as kind.Lockup (Clock ∷ Din ∷ Output ∷ [])) (signal.Net clock ∷ signal.Net input ∷ signal.Net output ∷ [])
lockup_as rank i clock input output c d read net (inl e) there = only rank read net output.0 (subst (λ k. rank k < rank output.0) (sym e) c) there
lockup_as rank i clock input output c d read net (inr (inl e)) there = only rank read net output.0 (subst (λ k. rank k < rank output.0) (sym e) d) there
lockup_as rank i clock input output c d read net (inr (inr h)) there = absurd h

pub lockup_ranked : LockupRanked
lockup_ranked library rank i x clock input output well cell pins c d =
    let id = first_cell is_lockup library in
    let shape = lockup_shape library well in
    let s : Shape = shape_as kind.Lockup (Clock ∷ Din ∷ Output ∷ []) in
    subst (λ (v : CellRef). IsRankedAs rank i (shape_of library v) x.pins) (sym cell)
    (subst (IsRankedAs rank i (shape_of library (cell_ref.Library id))) (sym pins)
    (subst (λ (v : Shape). IsRankedAs rank i v (map (pin_between clock input output) v.roles)) (sym shape) (lockup_as rank i clock input output c d)))

-- The net that the parts of a chain's recipe join a scan input to.
use Rattle.std.proofs.Common.{ℕ, suc, ◌+◌, ◌<◌, ◌≡◌, ◌==◌, ◌&&◌, inl, Bool, true, false, List, [], ◌∷◌, length, Option, None, Some, slice_get, refl, sym, subst, ap, arith, ◌∙◌}
use Rattle.std.specs.Prelude.{if◌then◌else◌}
use Rattle.std.specs.List.{range_with_len}
use Rattle.std.proofs.lemmas.Bool.{eqb-true, eq-eqb}
use Rattle.dft_base.proofs.ListLemmas.{get_range}
use Rattle.dft_cells.specs.declared.cell.Cell.{Cell}
use Rattle.dft_cells.specs.declared.kind.Gate.TheVariants.{Inv}
use Rattle.dft_cells.specs.declared.kind.Role.TheVariants.{ScanIn}
use Rattle.dft_netlist.specs.declared.ids.NetId.{NetId}
use Rattle.dft_netlist.specs.declared.ids.InstanceId.{InstanceId}
use Rattle.dft_netlist.specs.Connections.{same_role}
use Rattle.dft_netlist.specs.Netlist.{Netlist}
use Rattle.dft_config.specs.Config.{Config}
use Rattle.dft_stitch.specs.declared.places.LockupPlace.{LockupPlace}
use Rattle.dft_parts.specs.Recipes.{Start, Recipe, pure, ◌>>=◌, ◌>>◌, behind, each, net_at, a_net, a_lockup}
use Rattle.dft_parts.specs.Sums.{a_driving_gate}
use Rattle.dft_scan_frame.specs.Moves.{Gap}
use Rattle.dft_scan_frame.specs.Pins.{number_of, domain_in}
use Rattle.dft_insert.specs.Chained.{scan_roles, a_numbered_pin, a_scan_in, a_lockup_clock, a_lockup_behind, a_crossing, crossing_in, a_step, a_chain, a_latched_chain, a_fed_chain}
use Rattle.dft_scan_behavior.proofs.FirstNets.{first_at, Found, Fits, part_fits, part_found, FitsIn, FoundIn, fits_bind, found_bind, found_then, fits_each, found_each}
use Rattle.dft_scan_behavior.proofs.Lockups.{LockupStands, IsMadeClock, range_is}

-- how a chain's entry stands behind its phase sum: it is the sum itself where the first cell is falling, else the net of a lock-up that takes it
abbrev pub IsFed : Netlist → (falling : Bool) → (clock phase entry : NetId) → Type 0
IsFed w true clock phase entry = entry ≡ phase
IsFed w false clock phase entry = (number : ℕ) × (library : List Cell) × (library ≡ w.library) × LockupStands w number library clock phase entry

module _ (n w : Netlist) (config : Config) (gap : Gap) (i p : ℕ) (P : NetId → Type 0) where
  -- a cell, where it is the one with this pin
  abbrev pub IfHere : Option InstanceId → Type 0 → Type 0
  IfHere o Q = (c : InstanceId) → o ≡ Some c → c.0 ≡ i → Q

  numbered_fits : (c : InstanceId) (o : Option ℕ) (net : NetId) (a : Start) → (c.0 ≡ i → P net) → Fits P (first_at (a_numbered_pin c o net a).parts i p)
  numbered_fits c None net a h = inl refl
  numbered_fits c (Some pin) net a h = part_fits P c.0 pin i p net ((c.0 == i) && (pin == p)) refl h

  scan_in_fits : (o : Option InstanceId) (net : NetId) → IfHere o (P net) → FitsIn w i p P (a_scan_in n o net)
  scan_in_fits None net h at k same has = inl refl
  scan_in_fits (Some c) net h at k same has = numbered_fits c (number_of (same_role ScanIn) 0 (scan_roles n c)) net at (h c refl)

  numbered_found : (c : InstanceId) (o : Option ℕ) (net : NetId) (a : Start) → o ≡ Some p → c.0 ≡ i → P net → Found P (first_at (a_numbered_pin c o net a).parts i p)
  numbered_found c o net a e same h = subst (λ (z : Option ℕ). Found P (first_at (a_numbered_pin c z net a).parts i p)) (sym e) (part_found P c.0 p i p net same refl h)

  scan_in_found : (o : Option InstanceId) (c : InstanceId) (net : NetId) → o ≡ Some c → number_of (same_role ScanIn) 0 (scan_roles n c) ≡ Some p → c.0 ≡ i → P net → FoundIn w i p P (a_scan_in n o net)
  scan_in_found o c net is number same h at k lib has =
      subst (λ (z : Option InstanceId). Found P (first_at (a_scan_in n z net at).parts i p)) (sym is) (numbered_found c (number_of (same_role ScanIn) 0 (scan_roles n c)) net at number same h)

  -- ---- links

  -- what the net of a made lock-up has to be, behind the net that clocks it
  abbrev pub CrossesOn : (outputs : List NetId) → (after : ℕ) → (clock : NetId) → Type 0
  CrossesOn outputs after clock = (number : ℕ) (library : List Cell) (net : NetId) → library ≡ w.library → LockupStands w number library clock (net_at outputs after) net → P net

  abbrev pub Crosses : (outputs : List NetId) → LockupPlace → Type 0
  Crosses outputs l = (clock : NetId) → IsMadeClock w (record { 0 = domain_in n gap config l.domain }) l.high clock → CrossesOn outputs l.after clock

  lockup_fits : (cells : List InstanceId) (outputs : List NetId) (after : ℕ) (clock : NetId) → IfHere (slice_get cells (after + 1)) (CrossesOn outputs after clock) → FitsIn w i p P (a_lockup_behind n cells outputs after clock)
  unfolding a_lockup_behind
  lockup_fits cells outputs after clock h at k lib has =
      let net : NetId = record { 0 = at.next } in
      let a = behind at (a_net at).parts in
      let b = behind a (a_lockup clock (net_at outputs after) net a).parts in
      scan_in_fits (slice_get cells (after + 1)) net (λ c is same. h c is same k at.library net lib has.0) b (suc k) lib has.1

  lockup_found : (cells : List InstanceId) (outputs : List NetId) (after : ℕ) (clock : NetId) (c : InstanceId) → slice_get cells (after + 1) ≡ Some c → number_of (same_role ScanIn) 0 (scan_roles n c) ≡ Some p → c.0 ≡ i → CrossesOn outputs after clock →
      FoundIn w i p P (a_lockup_behind n cells outputs after clock)
  unfolding a_lockup_behind
  lockup_found cells outputs after clock c is number same h at k lib has =
      let net : NetId = record { 0 = at.next } in
      let a = behind at (a_net at).parts in
      let b = behind a (a_lockup clock (net_at outputs after) net a).parts in
      scan_in_found (slice_get cells (after + 1)) c net is number same (h k at.library net lib has.0) b (suc k) lib has.1

  -- a lock-up behind what clocks it
  clocked_fits : (port : NetId) (high : Bool) (cells : List InstanceId) (outputs : List NetId) (after : ℕ) → IfHere (slice_get cells (after + 1)) ((clock : NetId) → IsMadeClock w port high clock → CrossesOn outputs after clock) →
      FitsIn w i p P (a_lockup_clock port high >>= a_lockup_behind n cells outputs after)
  unfolding a_driving_gate
  clocked_fits port false cells outputs after h at k lib has = lockup_fits cells outputs after port (λ c is same. h c is same port refl) (behind at []) k lib has
  clocked_fits port true cells outputs after h at k lib has =
      let clock : NetId = record { 0 = at.next } in
      lockup_fits cells outputs after clock (λ c is same. h c is same clock (k, has.0)) (behind at (a_driving_gate Inv (port ∷ []) at).parts) (suc k) lib has.1

  clocked_found : (port : NetId) (high : Bool) (cells : List InstanceId) (outputs : List NetId) (after : ℕ) (c : InstanceId) → slice_get cells (after + 1) ≡ Some c → number_of (same_role ScanIn) 0 (scan_roles n c) ≡ Some p → c.0 ≡ i →
      ((clock : NetId) → IsMadeClock w port high clock → CrossesOn outputs after clock) → FoundIn w i p P (a_lockup_clock port high >>= a_lockup_behind n cells outputs after)
  unfolding a_driving_gate
  clocked_found port false cells outputs after c is number same h at k lib has = lockup_found cells outputs after port c is number same (h port refl) (behind at []) k lib has
  clocked_found port true cells outputs after c is number same h at k lib has =
      let clock : NetId = record { 0 = at.next } in
      lockup_found cells outputs after clock c is number same (h clock (k, has.0)) (behind at (a_driving_gate Inv (port ∷ []) at).parts) (suc k) lib has.1

  crossing_fits : (cells : List InstanceId) (outputs : List NetId) (l : LockupPlace) → IfHere (slice_get cells (l.after + 1)) (Crosses outputs l) → FitsIn w i p P (a_crossing n config gap cells outputs l)
  unfolding a_crossing
  crossing_fits cells outputs l h = clocked_fits (record { 0 = domain_in n gap config l.domain }) l.high cells outputs l.after h

  crossing_found : (cells : List InstanceId) (outputs : List NetId) (l : LockupPlace) (c : InstanceId) → slice_get cells (l.after + 1) ≡ Some c → number_of (same_role ScanIn) 0 (scan_roles n c) ≡ Some p → c.0 ≡ i → Crosses outputs l → FoundIn w i p P (a_crossing n config gap cells outputs l)
  unfolding a_crossing
  crossing_found cells outputs l c is number same h = clocked_found (record { 0 = domain_in n gap config l.domain }) l.high cells outputs l.after c is number same h

  fits_if : (b : Bool) (r : Recipe (Unit {0})) → (b ≡ true → FitsIn w i p P r) → FitsIn w i p P (if b then r else pure tt)
  fits_if true r h = h refl
  fits_if false r h = λ at k lib has. inl refl

  found_if : (b : Bool) (r : Recipe (Unit {0})) → b ≡ true → FoundIn w i p P r → FoundIn w i p P (if b then r else pure tt)
  found_if true r e h = h
  found_if false r e h = absurd cc

  module _ (lockups : List LockupPlace) (chain : ℕ) (cells : List InstanceId) (outputs : List NetId) where
    abbrev stepped : Recipe (Unit {0})
    stepped = each (a_step n cells outputs) (range_with_len 0 (length cells))

    abbrev crossed : Recipe (Unit {0})
    crossed = each (crossing_in n config gap chain cells outputs) lockups

    -- each lock-up's net fits where it leads here
    abbrev pub AllCross : Type 0
    AllCross = (m : ℕ) (l : LockupPlace) → slice_get lockups m ≡ Some l → l.chain ≡ chain → IfHere (slice_get cells (l.after + 1)) (Crosses outputs l)

    -- so does each output
    abbrev pub AllStep : Type 0
    AllStep = (place : ℕ) → place < length cells → IfHere (slice_get cells (place + 1)) (P (net_at outputs place))

    crossed_fits : AllCross → FitsIn w i p P crossed
    crossed_fits h = fits_each w i p P (crossing_in n config gap chain cells outputs) lockups
        (λ m l there. fits_if (l.chain == chain) (a_crossing n config gap cells outputs l) (λ is. crossing_fits cells outputs l (h m l there (eqb-true l.chain chain is))))

    crossed_found : (m : ℕ) (l : LockupPlace) (c : InstanceId) → slice_get lockups m ≡ Some l → l.chain ≡ chain → slice_get cells (l.after + 1) ≡ Some c → number_of (same_role ScanIn) 0 (scan_roles n c) ≡ Some p → c.0 ≡ i → AllCross → FoundIn w i p P crossed
    crossed_found m l c there is here number same h =
        found_each w i p P (crossing_in n config gap chain cells outputs) lockups m l there
        (found_if (l.chain == chain) (a_crossing n config gap cells outputs l) (eq-eqb l.chain chain is) (crossing_found cells outputs l c here number same (h m l there is c here same)))
        (λ k y at. fits_if (y.chain == chain) (a_crossing n config gap cells outputs y) (λ its. crossing_fits cells outputs y (h k y at (eqb-true y.chain chain its))))

    step_fits : AllStep → (k x : ℕ) → slice_get (range_with_len 0 (length cells)) k ≡ Some x → FitsIn w i p P (a_step n cells outputs x)
    step_fits h k x at = let it = range_is 0 (length cells) k x at in scan_in_fits (slice_get cells (x + 1)) (net_at outputs x) (h x (omega (arith, it.0, it.1)))

    stepped_fits : AllStep → FitsIn w i p P stepped
    stepped_fits h = fits_each w i p P (a_step n cells outputs) (range_with_len 0 (length cells)) (step_fits h)

    stepped_found : (place : ℕ) (c : InstanceId) → place < length cells → slice_get cells (place + 1) ≡ Some c → number_of (same_role ScanIn) 0 (scan_roles n c) ≡ Some p → c.0 ≡ i → AllStep → FoundIn w i p P stepped
    stepped_found place c less here number same h =
        found_each w i p P (a_step n cells outputs) (range_with_len 0 (length cells)) place place (get_range 0 (length cells) place less ∙ ap Some (omega arith))
        (scan_in_found (slice_get cells (place + 1)) c (net_at outputs place) here number same (h place less c here same)) (step_fits h)

    -- ---- a chain

    -- the first scan input takes the entry
    pub entry_found : (c : InstanceId) (entry : NetId) → slice_get cells 0 ≡ Some c → number_of (same_role ScanIn) 0 (scan_roles n c) ≡ Some p → c.0 ≡ i → P entry → FoundIn w i p P (a_chain n config gap lockups chain cells outputs entry)
    unfolding a_chain
    entry_found c entry here number same h = found_bind w i p P (a_scan_in n (slice_get cells 0) entry) (λ _. crossed >> stepped) (scan_in_found (slice_get cells 0) c entry here number same h)

    -- another one takes the net of the lock-up that leads to it
    pub crossing_first : (entry : NetId) (m : ℕ) (l : LockupPlace) (c : InstanceId) → IfHere (slice_get cells 0) (P entry) → slice_get lockups m ≡ Some l → l.chain ≡ chain → slice_get cells (l.after + 1) ≡ Some c → number_of (same_role ScanIn) 0 (scan_roles n c) ≡ Some p → c.0 ≡ i →
        AllCross → FoundIn w i p P (a_chain n config gap lockups chain cells outputs entry)
    unfolding a_chain
    crossing_first entry m l c first there is here number same h =
        found_then w i p P (a_scan_in n (slice_get cells 0) entry) (λ _. crossed >> stepped) (scan_in_fits (slice_get cells 0) entry first)
        (λ _. found_bind w i p P crossed (λ _. stepped) (crossed_found m l c there is here number same h))

    -- or the output of the cell before
    pub step_first : (entry : NetId) (place : ℕ) (c : InstanceId) → IfHere (slice_get cells 0) (P entry) → place < length cells → slice_get cells (place + 1) ≡ Some c → number_of (same_role ScanIn) 0 (scan_roles n c) ≡ Some p → c.0 ≡ i → AllCross → AllStep →
        FoundIn w i p P (a_chain n config gap lockups chain cells outputs entry)
    unfolding a_chain
    step_first entry place c first less here number same h g =
        found_then w i p P (a_scan_in n (slice_get cells 0) entry) (λ _. crossed >> stepped) (scan_in_fits (slice_get cells 0) entry first)
        (λ _. found_then w i p P crossed (λ _. stepped) (crossed_fits h) (λ _. stepped_found place c less here number same g))

    -- a chain without the cell
    pub chain_apart : (entry : NetId) → ((k : ℕ) → IfHere (slice_get cells k) ⊥) → FitsIn w i p P (a_chain n config gap lockups chain cells outputs entry)
    unfolding a_chain
    chain_apart entry none =
        fits_bind w i p P (a_scan_in n (slice_get cells 0) entry) (λ _. crossed >> stepped) (scan_in_fits (slice_get cells 0) entry (λ c is same. absurd (none 0 c is same)))
        (λ _. fits_bind w i p P crossed (λ _. stepped) (crossed_fits (λ m l there at c is same. absurd (none (l.after + 1) c is same)))
        (λ _. stepped_fits (λ place less c is same. absurd (none (place + 1) c is same))))

    -- ---- behind a phase sum

    latched_found : (clock phase : NetId) → ((entry : NetId) → IsFed w false clock phase entry → FoundIn w i p P (a_chain n config gap lockups chain cells outputs entry)) → FoundIn w i p P (a_latched_chain n config gap lockups chain cells outputs clock phase)
    unfolding a_latched_chain
    latched_found clock phase h at k lib has =
        let entry : NetId = record { 0 = at.next } in
        let a = behind at (a_net at).parts in
        let b = behind a (a_lockup clock phase entry a).parts in
        h entry (k, at.library, lib, has.0) b (suc k) lib has.1

    latched_fits : (clock phase : NetId) → ((entry : NetId) → FitsIn w i p P (a_chain n config gap lockups chain cells outputs entry)) → FitsIn w i p P (a_latched_chain n config gap lockups chain cells outputs clock phase)
    unfolding a_latched_chain
    latched_fits clock phase h at k lib has =
        let entry : NetId = record { 0 = at.next } in
        let a = behind at (a_net at).parts in
        let b = behind a (a_lockup clock phase entry a).parts in
        h entry b (suc k) lib has.1

    pub fed_found : (falling : Bool) (clock phase : NetId) → ((entry : NetId) → IsFed w falling clock phase entry → FoundIn w i p P (a_chain n config gap lockups chain cells outputs entry)) → FoundIn w i p P (a_fed_chain falling n config gap lockups chain cells outputs clock phase)
    fed_found true clock phase h = h phase refl
    fed_found false clock phase h = latched_found clock phase h

    pub fed_fits : (falling : Bool) (clock phase : NetId) → ((entry : NetId) → FitsIn w i p P (a_chain n config gap lockups chain cells outputs entry)) → FitsIn w i p P (a_fed_chain falling n config gap lockups chain cells outputs clock phase)
    fed_fits true clock phase h = h phase
    fed_fits false clock phase h = latched_fits clock phase h

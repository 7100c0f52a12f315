-- What made flip-flops and lock-ups do in a finished netlist.
use Rattle.std.proofs.Common.{ℕ, zero, suc, ◌+◌, ◌-◌, ◌≡◌, ◌⊎◌, inl, inr, Bool, true, false, List, [], ◌∷◌, length, map, Option, None, Some, slice_get, refl, sym, subst, ap, arith, ◌∙◌}
use Rattle.std.specs.Prelude.{if◌then◌else◌}
use Rattle.std.proofs.lemmas.Option.{none-some, same_Some}
use Rattle.dft_cells.specs.declared.kind.Kind.{Kind}
use Rattle.dft_cells.specs.declared.kind.TheConstants.{DFF}
use Rattle.dft_cells.specs.declared.kind.Kind.TheVariants as kind
use Rattle.dft_cells.specs.declared.kind.Gate.TheVariants as gate
use Rattle.dft_cells.specs.declared.kind.Role.{Role}
use Rattle.dft_cells.specs.declared.kind.Role.TheVariants.{Clock as AClock, Din, Output, Inverted}
use Rattle.dft_cells.specs.declared.cell.Cell.{Cell}
use Rattle.dft_cells.specs.declared.cell.CellId.{CellId}
use Rattle.dft_cells.specs.WellFormed.{IsWellFormed, HasRoles, role_of}
use Rattle.dft_cells.specs.FlipFlops.{is_flip_flop}
use Rattle.dft_cells.proofs.KindLemmas.{dff_only}
use Rattle.dft_netlist.specs.declared.ids.NetId.{NetId}
use Rattle.dft_netlist.specs.declared.instance.Signal.{Signal}
use Rattle.dft_netlist.specs.declared.instance.Signal.TheVariants.{Net as AtNet}
use Rattle.dft_netlist.specs.declared.instance.CellRef.{CellRef}
use Rattle.dft_netlist.specs.declared.instance.CellRef.TheVariants.{Library}
use Rattle.dft_netlist.specs.declared.instance.Instance.{Instance}
use Rattle.dft_netlist.specs.Netlist.{Netlist}
use Rattle.dft_netlist.specs.NetDrivers.{IsSingle}
use Rattle.dft_netlist.specs.Drivers.{Shape, Net, Connection, Input, Gate, Flop, Lockup, connections_from, pins_at, kind_of, driver, shape_of, shape_of_cell}
use Rattle.dft_behavior.specs.ClockRoots.{ClockRoot, port_root, clock_of, clock_root_of}
use Rattle.dft_behavior.specs.NetRoots.{inverse_root, root_of_driver, root_within}
use Rattle.dft_behavior.specs.Logic as logic
use Rattle.dft_netlist.specs.Connections.{pin_of}
use Rattle.dft_cells.specs.FlipFlops.{no_forces}
use Rattle.dft_behavior.specs.Logic.{Ports, plain, domain_of, domain_at, modelled, modelled_of, flip_flop, flop_meaning, lockup_meaning, logic_of, meaning_of, or_loose}
use Rattle.dft_behavior.proofs.StoredLemmas.{flop_cell}
use Rattle.dft_parts.specs.Cells.{is_dff, is_lockup, first_from, numbered_cell, first_cell, pin_between, pins_between}
use Rattle.dft_parts.specs.Growth.{AreKept, Stands}
use Rattle.dft_parts.specs.Standing.{IsClockNet, IsClockedBy, plain_cell, IsFlop, FlopStands, PortShowsItself, InverseStands, LockupStands}
use Rattle.dft_parts.proofs.Standing.{gate_driven, instance_drives, driven_as}

-- ---- the first cell of a kind

-- a cell of this kind stands at this number
abbrev pub IsAt : (Kind → Bool) → List Cell → (from : ℕ) → Option ℕ → Type 0
IsAt test cells from None = ⊥
IsAt test cells from (Some k) = (place : ℕ) × (cell : Cell) × (k ≡ from + place) × (slice_get cells place ≡ Some cell) × (test cell.kind ≡ true)

pub later_at : (test : Kind → Bool) (c : Cell) (cells : List Cell) (from : ℕ) (o : Option ℕ) → IsAt test cells (suc from) o → IsAt test (c ∷ cells) from o
later_at test c cells from None h = h
later_at test c cells from (Some k) h = (suc h.0, h.1, (omega (arith, h.2)), h.3, h.4)

pub chosen_at : (test : Kind → Bool) (c : Cell) (cells : List Cell) (from : ℕ) (b : Bool) → test c.kind ≡ b → (b ≡ false → IsAt test cells (suc from) (first_from test (suc from) cells)) →
    IsAt test (c ∷ cells) from (if b then Some from else first_from test (suc from) cells)
chosen_at test c cells from true is h = (zero, c, (omega arith), refl, is)
chosen_at test c cells from false is h = later_at test c cells from (first_from test (suc from) cells) (h refl)

pub found_at : (test : Kind → Bool) (cells : List Cell) (from place : ℕ) (cell : Cell) → slice_get cells place ≡ Some cell → test cell.kind ≡ true → IsAt test cells from (first_from test from cells)
found_at test [] from place cell at is = absurd (none-some cell at)
found_at test (c ∷ cells) from zero cell at is = chosen_at test c cells from (test c.kind) refl (λ no. absurd (let yes : test c.kind ≡ true = ap (λ (x : Cell). test x.kind) (same_Some c cell at) ∙ is in let e = sym yes ∙ no in cc))
found_at test (c ∷ cells) from (suc place) cell at is = chosen_at test c cells from (test c.kind) refl (λ no. found_at test cells (suc from) place cell at is)

-- the first cell of a kind is one
pub record IsFound (test : Kind → Bool) (cells : List Cell) (id : CellId) : Type 0 where
  pub cell : Cell
  pub at : slice_get cells id.0 ≡ Some cell
  pub passes : test cell.kind ≡ true

pub found_in : (test : Kind → Bool) (cells : List Cell) (o : Option ℕ) → IsAt test cells zero o → IsFound test cells (numbered_cell o)
found_in test cells None h = absurd h
found_in test cells (Some k) h = let e : k ≡ h.0 = omega (arith, h.2) in record { cell = h.1; at = ap (slice_get cells) e ∙ h.3; passes = h.4 }

pub found : (test : Kind → Bool) (cells : List Cell) (place : ℕ) (cell : Cell) → slice_get cells place ≡ Some cell → test cell.kind ≡ true → IsFound test cells (first_cell test cells)
found test cells place cell at is = found_in test cells (first_from test zero cells) (found_at test cells zero place cell at is)

lockup_is : (k : Kind) → is_lockup k ≡ true → k ≡ kind.Lockup
lockup_is kind.Lockup h = refl
lockup_is (kind.Gate gate) h = absurd cc
lockup_is (kind.Flop flop) h = absurd cc
lockup_is kind.Opaque h = absurd cc

-- ---- their pins

abbrev pub shape_as : Kind → List Role → Shape
shape_as k roles = record { kind = k; roles = roles }

pub dff_shape : (library : List Cell) → IsWellFormed library →
    (shape_of library (Library (first_cell is_dff library)) ≡ shape_as DFF (AClock ∷ Din ∷ Output ∷ [])) ⊎ (shape_of library (Library (first_cell is_dff library)) ≡ shape_as DFF (AClock ∷ Din ∷ Output ∷ Inverted ∷ []))
dff_shape library well =
    let h = well.dff in
    let f = found is_dff library h.0 h.1 h.2 (ap is_dff h.3) in
    let k = dff_only f.cell.kind f.passes in
    let roles : HasRoles DFF (map role_of f.cell.pins) = subst (λ (v : Kind). HasRoles v (map role_of f.cell.pins)) k (well.each (first_cell is_dff library).0 f.cell f.at).roles in
    elim roles [
      | inl e ↦ inl (ap (λ (o : Option Cell). shape_of_cell o) f.at ∙ (λ i. record { kind = k i; roles = e i }))
      | inr e ↦ inr (ap (λ (o : Option Cell). shape_of_cell o) f.at ∙ (λ i. record { kind = k i; roles = e i }))
    ]

pub lockup_shape : (library : List Cell) → IsWellFormed library → shape_of library (Library (first_cell is_lockup library)) ≡ shape_as kind.Lockup (AClock ∷ Din ∷ Output ∷ [])
lockup_shape library well =
    let h = well.lockup in
    let f = found is_lockup library h.0 h.1 h.2 (ap is_lockup h.3) in
    let k = lockup_is f.cell.kind f.passes in
    let e : map role_of f.cell.pins ≡ AClock ∷ Din ∷ Output ∷ [] = subst (λ (v : Kind). HasRoles v (map role_of f.cell.pins)) k (well.each (first_cell is_lockup library).0 f.cell f.at).roles in
    ap (λ (o : Option Cell). shape_of_cell o) f.at ∙ (λ i. record { kind = k i; roles = e i })

clock_root : (n : Netlist) (clock : ℕ) → driver n clock ≡ Input → clock_root_of n (Net clock) ≡ Some (port_root clock)
clock_root n clock at = ap (λ d. clock_of (root_of_driver (root_within n (length n.nets)) clock d)) at

pub port_shows : PortShowsItself
port_shows n ports net is = record { root = clock_root n net is.input; clock = is.clock }

inverse_walk : (n : Netlist) (port output m : ℕ) → length n.nets ≡ suc m → driver n port ≡ Input → driver n output ≡ Gate gate.Inv (Net port ∷ []) → clock_root_of n (Net output) ≡ Some (record { port = port; inverted = true })
inverse_walk n port output m size at drives =
    ap (λ d. clock_of (root_of_driver (root_within n (length n.nets)) output d)) drives
    ∙ ap (λ (k : ℕ). clock_of (inverse_root (root_within n k (Net port)))) size
    ∙ ap (λ d. clock_of (inverse_root (root_of_driver (root_within n m) port d))) at

pub inverse_stands : InverseStands
inverse_stands n ports i port output single live is h = record {
  root = inverse_walk n port.0 output.0 (length n.nets - 1) (omega (arith, live)) is.input
      (instance_drives n i 0 h.instance (output.0, Gate gate.Inv (Net port.0 ∷ [])) single h.at (gate_driven n.library i gate.Inv (port ∷ []) output h.instance refl h.cell_is h.kept));
  clock = is.clock;
}

picked : (b : Bool) (root : ClockRoot) → b ≡ true → (if b then Some root else None) ≡ Some root
picked true root h = refl
picked false root h = absurd cc

-- the clock that a net shows
shown_domain : (n : Netlist) (ports : Ports) (net port : ℕ) (inverted : Bool) → IsClockedBy n ports net port inverted → domain_of ports (clock_root_of n (Net net)) ≡ Some (record { port = port; inverted = inverted })
shown_domain n ports net port inverted is = ap (domain_of ports) is.root ∙ picked (ports.is_clock port) (record { port = port; inverted = inverted }) is.clock

clock_domain : (n : Netlist) (ports : Ports) (clock : ℕ) → IsClockNet n ports clock → domain_of ports (clock_root_of n (Net clock)) ≡ Some (port_root clock)
clock_domain n ports clock is = shown_domain n ports clock clock false (port_shows n ports clock is)

-- the signals of the three pins that a store has at least
pub record HasFront (clock input output : NetId) (pins : List Signal) : Type 0 where
  pub rest : List Signal
  pub are : pins ≡ AtNet clock ∷ AtNet input ∷ AtNet output ∷ rest

front_of : (clock input output : NetId) (rest pins : List Signal) → AreKept (AtNet clock ∷ AtNet input ∷ AtNet output ∷ rest) pins → HasFront clock input output pins
front_of clock input output rest [] h = absurd h
front_of clock input output rest (a ∷ []) h = absurd h.1
front_of clock input output rest (a ∷ b ∷ []) h = absurd h.1.1
front_of clock input output rest (a ∷ b ∷ c ∷ pins) h = record { rest = pins; are = λ i. h.0 i ∷ h.1.0 i ∷ h.1.1.0 i ∷ pins }

-- ---- flip-flops

-- the modelled flip-flop that an instance of a shape with these pins is
abbrev cell_as : Netlist → Ports → (i : ℕ) → Shape → List Signal → Option logic.Cell
cell_as n ports i s pins = if is_flip_flop s.kind then modelled_of n ports i (connections_from 0 s.roles pins) else None

abbrev cell_by : Netlist → Ports → (i : ℕ) → Option Instance → Option logic.Cell
cell_by n ports i o = if is_flip_flop (kind_of n.library o) then modelled_of n ports i (pins_at n.library o) else None

abbrev plain_by : (input : ℕ) → Option ClockRoot → Option logic.Cell
plain_by input domain = modelled domain (Some no_forces) (plain (Net input))

-- an instance of a shape with these roles more than a clock, an input and an output is a plain flip-flop
abbrev IsPlainShape : Netlist → Ports → (i : ℕ) → (clock input output : NetId) → (more : List Role) → Type 0
IsPlainShape n ports i clock input output more =
    (rest : List Signal) → cell_as n ports i (shape_as DFF (AClock ∷ Din ∷ Output ∷ more)) (AtNet clock ∷ AtNet input ∷ AtNet output ∷ rest) ≡ Some (plain_cell clock.0 input.0)

plain_three : (n : Netlist) (ports : Ports) (i : ℕ) (clock input output : NetId) → IsClockNet n ports clock.0 → IsPlainShape n ports i clock input output []
plain_three n ports i clock input output is rest = ap (plain_by input.0) (clock_domain n ports clock.0 is)

plain_four : (n : Netlist) (ports : Ports) (i : ℕ) (clock input output : NetId) → IsClockNet n ports clock.0 → IsPlainShape n ports i clock input output (Inverted ∷ [])
plain_four n ports i clock input output is [] = ap (plain_by input.0) (clock_domain n ports clock.0 is)
plain_four n ports i clock input output is (y ∷ rest) = ap (plain_by input.0) (clock_domain n ports clock.0 is)

flop_as : (n : Netlist) (ports : Ports) (i : ℕ) (clock input output : NetId) (more : List Role) (id : CellId) → IsSingle n → shape_of n.library (Library id) ≡ shape_as DFF (AClock ∷ Din ∷ Output ∷ more) →
    IsPlainShape n ports i clock input output more → Stands n i (Library id) (pins_between n.library id clock input output) → IsFlop (logic_of n ports) clock.0 i output.0 input.0
flop_as n ports i clock input output more id single shape plain h =
    let x : Instance = h.instance in
    let s : Shape = shape_as DFF (AClock ∷ Din ∷ Output ∷ more) in
    let kept = subst (λ (v : Shape). AreKept (map (pin_between clock input output) v.roles) x.pins) shape h.kept in
    let front = front_of clock input output (map (pin_between clock input output) more) x.pins kept in
    let pins = AtNet clock ∷ AtNet input ∷ AtNet output ∷ front.rest in
    let drives : driver n output.0 ≡ Flop i false = instance_drives n i 0 x (output.0, Flop i false) single h.at
    (ap (λ c. slice_get (driven_as (shape_of n.library c) i x.pins) 0) h.cell_is
    ∙ ap (λ (v : Shape). slice_get (driven_as v i x.pins) 0) shape
    ∙ ap (λ (ps : List Signal). slice_get (driven_as s i ps) 0) front.are) in
    let is : flip_flop n ports i ≡ Some (plain_cell clock.0 input.0) =
    ap (cell_by n ports i) h.at
    ∙ ap (λ (c : CellRef). cell_as n ports i (shape_of n.library c) x.pins) h.cell_is
    ∙ ap (λ (v : Shape). cell_as n ports i v x.pins) shape
    ∙ ap (cell_as n ports i s) front.are
    ∙ plain front.rest in
    record {
      cell = flop_cell n ports i (plain_cell clock.0 input.0) is;
      net = ap (meaning_of n ports output.0) drives ∙ ap (flop_meaning i false) is;
    }

pub flop_stands : FlopStands
flop_stands n ports i clock input output single well is h =
    let id : CellId = first_cell is_dff n.library in
    elim (dff_shape n.library well) [
      | inl e ↦ flop_as n ports i clock input output [] id single e (plain_three n ports i clock input output is) h
      | inr e ↦ flop_as n ports i clock input output (Inverted ∷ []) id single e (plain_four n ports i clock input output is) h
    ]

-- ---- lock-ups

abbrev lockup_with : Netlist → Ports → (i : ℕ) → List Connection → logic.Meaning
lockup_with n ports i cs = lockup_meaning i (domain_at n ports (pin_of AClock i cs)) (or_loose i (pin_of Din i cs))

pub lockup_stands : LockupStands
lockup_stands n ports i clock input output port inverted single well is h =
    let x : Instance = h.instance in
    let id : CellId = first_cell is_lockup n.library in
    let s : Shape = shape_as kind.Lockup (AClock ∷ Din ∷ Output ∷ []) in
    let shape = lockup_shape n.library well in
    let kept = subst (λ (v : Shape). AreKept (map (pin_between clock input output) v.roles) x.pins) shape h.kept in
    let front = front_of clock input output [] x.pins kept in
    let drives : driver n output.0 ≡ Lockup i = instance_drives n i 0 x (output.0, Lockup i) single h.at
    (ap (λ c. slice_get (driven_as (shape_of n.library c) i x.pins) 0) h.cell_is
    ∙ ap (λ (v : Shape). slice_get (driven_as v i x.pins) 0) shape
    ∙ ap (λ (ps : List Signal). slice_get (driven_as s i ps) 0) front.are) in
    ap (meaning_of n ports output.0) drives
    ∙ ap (λ (o : Option Instance). lockup_with n ports i (pins_at n.library o)) h.at
    ∙ ap (λ (c : CellRef). lockup_with n ports i (connections_from 0 (shape_of n.library c).roles x.pins)) h.cell_is
    ∙ ap (λ (v : Shape). lockup_with n ports i (connections_from 0 v.roles x.pins)) shape
    ∙ ap (λ (ps : List Signal). lockup_with n ports i (connections_from 0 s.roles ps)) front.are
    ∙ ap (λ (d : Option ClockRoot). lockup_meaning i d (Net input.0)) (shown_domain n ports clock.0 port inverted is)

-- A circuit whose nets and instances are those of a design means what the design does.
use Rattle.std.proofs.Common.{ℕ, Bool, true, false, List, [], ◌∷◌, ◌≡◌, ◌<◌, ◌≤◌, Option, None, Some, inl, inr, length, map, refl, sym, ap, ◌∙◌, subst, arith}
use Rattle.std.specs.Prelude.{if◌then◌else◌}
use Rattle.std.specs.List.{AllByRecursion}
use Rattle.std.specs.Option.{option_or}
use Rattle.std.proofs.lemmas.Bool.Decides.{leb_tells}
use Rattle.std.proofs.lemmas.List.{get_or_past, length-map}
use Rattle.std.proofs.lemmas.Option.{slice_get_past}
use Rattle.dft_cells.specs.declared.kind.Kind.{Kind}
use Rattle.dft_cells.specs.declared.kind.Kind.TheVariants as kind
use Rattle.dft_cells.specs.declared.kind.Role.{Role}
use Rattle.dft_cells.specs.declared.kind.Role.TheVariants.{Input, Clock, Din, Reset, Preset, ScanIn, ScanEnable, Output, Inverted}
use Rattle.dft_cells.specs.FlipFlops.{is_flip_flop}
use Rattle.dft_netlist.proofs.LiveLemmas.{past_free}
use Rattle.dft_netlist.specs.declared.ids.NetId.{NetId}
use Rattle.dft_netlist.specs.declared.instance.Instance.{Instance}
use Rattle.dft_netlist.specs.Netlist.{Netlist}
use Rattle.dft_netlist.specs.Sound.{IsNetlist}
use Rattle.dft_behavior.specs.ClockRoots.{ClockRoot, clock_root_of}
use Rattle.dft_netlist.specs.Drivers.{Source, Net, Tied, Loose, Driver, Connection, source_of, kind_of, kind_at, pins_of, driver, nets_of, nets_read, is_lockup_input, lockup_inputs}
use Rattle.dft_netlist.specs.Drivers as drivers
use Rattle.dft_netlist.specs.Connections.{same_role, pin_of}
use Rattle.dft_behavior.specs.Logic.{Ports, Cell, Meaning, or_loose, domain_of, domain_at, flip_flop, modelled_of, locked, is_lockup, no_cell, cell_or_none, flop_meaning, lockup_meaning, meaning_of, logic_of, reads}
use Rattle.dft_behavior.specs.Logic as meanings
use Rattle.dft_netlist.specs.Orders.{Has, IsOrderFrom, IsOrder, numbers_of}
use Rattle.dft_behavior.proofs.StoredLemmas.{lockup_stored}
use Rattle.dft_logic.specs.declared.circuit.Op.{Op}
use Rattle.dft_logic.specs.declared.circuit.Op.TheVariants.{Free}
use Rattle.dft_logic.specs.declared.circuit.Latch.{Latch}
use Rattle.dft_logic.specs.declared.circuit.FlipFlop.{FlipFlop}
use Rattle.dft_logic.specs.Circuit.{Circuit, IsCircuit, AreTables, meaning, Fits, op_at, cell_of, cell_at, latch_of, latch_at, logic_at, AreOrdered}
use Rattle.dft_logic.specs.Compiling.{found_in, wired_by, with_source, latch_in, latch_kept, kept_latch, IsOpOf, AreFlops, AreLatches, IsCircuitOf}
use Rattle.dft_logic.proofs.Writings.{cell_read, cell_past}

-- ---- lock-ups by instance

pub latch_live : (latches : List (Option Latch)) (c : ℕ) (found : ℕ × Source) → latch_at latches c ≡ Some found → c < length latches
latch_live latches c found is = elim (leb_tells (length latches) c) [
  | inl out ↦ (let e = ap latch_of (get_or_past latches c None out.1) in let q : latch_of None ≡ Some found = sym e ∙ is in absurd (cc))
  | inr live ↦ live.1
]

-- ---- what a meaning reads, its driver reads

first_all : (P : ℕ → Type 0) (source : Source) (sources : List Source) → AllByRecursion P (nets_of (source ∷ sources)) → AllByRecursion P (nets_of (source ∷ []))
first_all P (Net net) sources all = (all.0, tt)
first_all P (Tied bit) sources all = tt
first_all P (Loose i pin) sources all = tt

rest_all : (P : ℕ → Type 0) (source : Source) (sources : List Source) → AllByRecursion P (nets_of (source ∷ sources)) → AllByRecursion P (nets_of sources)
rest_all P (Net net) sources all = all.1
rest_all P (Tied bit) sources all = all
rest_all P (Loose i pin) sources all = all

data_step : (P : ℕ → Type 0) (i : ℕ) (role : Role) (source : Source) (rest : List Source) (found : Option Source) →
    (AllByRecursion P (nets_of rest) → AllByRecursion P (nets_of (or_loose i found ∷ []))) →
    AllByRecursion P (nets_of (if is_lockup_input role then source ∷ rest else rest)) → AllByRecursion P (nets_of (or_loose i (if same_role Din role then Some source else found) ∷ []))
data_step P i Din source rest found ih all = first_all P source rest all
data_step P i Clock source rest found ih all = ih (rest_all P source rest all)
data_step P i Input source rest found ih all = ih all
data_step P i Reset source rest found ih all = ih all
data_step P i Preset source rest found ih all = ih all
data_step P i ScanIn source rest found ih all = ih all
data_step P i ScanEnable source rest found ih all = ih all
data_step P i Output source rest found ih all = ih all
data_step P i Inverted source rest found ih all = ih all

data_all : (P : ℕ → Type 0) (i : ℕ) (pins : List Connection) → AllByRecursion P (nets_of (lockup_inputs i pins)) → AllByRecursion P (nets_of (or_loose i (pin_of Din i pins) ∷ []))
data_all P i [] all = tt
data_all P i (c ∷ pins) all = data_step P i c.role (source_of i c.pin c.to) (lockup_inputs i pins) (pin_of Din i pins) (data_all P i pins) all

lockup_all : (P : ℕ → Type 0) (i : ℕ) (domain : Option ClockRoot) (source : Source) → AllByRecursion P (nets_of (source ∷ [])) → AllByRecursion P (reads (lockup_meaning i domain source))
lockup_all P i None source all = tt
lockup_all P i (Some domain) source all = all

flop_all : (P : ℕ → Type 0) (i : ℕ) (inverted : Bool) (cell : Option Cell) → AllByRecursion P (reads (flop_meaning i inverted cell))
flop_all P i inverted None = tt
flop_all P i inverted (Some cell) = tt

input_all : (P : ℕ → Type 0) (is_clock : Bool) → AllByRecursion P (reads (if is_clock then meanings.Clock else meanings.Input))
input_all P true = tt
input_all P false = tt

meaning_all : (n : Netlist) (ports : Ports) (P : ℕ → Type 0) (net : ℕ) (d : Driver) → AllByRecursion P (nets_read n d) → AllByRecursion P (reads (meaning_of n ports net d))
meaning_all n ports P net drivers.Input all = input_all P (ports.is_clock net)
meaning_all n ports P net (drivers.Gate k inputs) all = all
meaning_all n ports P net (drivers.Joined source) all = all
meaning_all n ports P net (drivers.Flop i inverted) all = flop_all P i inverted (flip_flop n ports i)
meaning_all n ports P net (drivers.Lockup i) all = lockup_all P i (domain_at n ports (pin_of Clock i (pins_of n i))) (or_loose i (pin_of Din i (pins_of n i))) (data_all P i (pins_of n i) all)
meaning_all n ports P net drivers.Free all = tt

ordered_from : (n : Netlist) (ports : Ports) (ops : List Op) → length ops ≡ length n.nets → ((k : ℕ) → meaning (op_at ops k) ≡ (logic_of n ports).net k) → (nets before : List ℕ) → IsOrderFrom n before nets → AreOrdered ops before nets
ordered_from n ports ops size means [] before ordered = tt
ordered_from n ports ops size means (net ∷ nets) before ordered =
    let R : Meaning → Type 0 = λ m. AllByRecursion (Has before) (reads m) in
    let live : net < length ops = (let l : net < length n.nets = ordered.1 in omega arith) in
    (ordered.0, live, subst R (sym (means net)) (meaning_all n ports (Has before) net (driver n net) ordered.2), ordered_from n ports ops size means nets (net ∷ before) ordered.3)

-- ---- past the end

pub past_cell : (n : Netlist) (ports : Ports) (i : ℕ) → length n.instances ≤ i → (logic_of n ports).cell i ≡ no_cell i
past_cell n ports i far =
    let domain : Option ClockRoot = domain_at n ports (pin_of Clock i (pins_of n i)) in
    let P : Option Instance → Cell = λ o. cell_or_none i (option_or (if is_flip_flop (kind_of n.library o) then modelled_of n ports i (pins_of n i) else None)
    (if is_lockup (kind_of n.library o) then locked domain (or_loose i (pin_of Din i (pins_of n i))) else None)) in
    ap P (slice_get_past n.instances i far)

-- ---- a lock-up's domain is a clock

kept_is : (k : Kind) (latch : Option (ℕ × Source)) (found : ℕ × Source) → latch_kept k latch ≡ Some found → latch ≡ Some found
kept_is kind.Lockup latch found h = h
kept_is (kind.Gate gate) latch found h = absurd cc
kept_is (kind.Flop flop) latch found h = absurd cc
kept_is kind.Opaque latch found h = absurd cc

pair_same : (p q : ℕ × Source) → Some p ≡ Some q → p ≡ q
pair_same p q h = cc

port_clock : (ports : Ports) (root clock : ClockRoot) (b : Bool) → ports.is_clock root.port ≡ b → (if b then Some root else None) ≡ Some clock → ports.is_clock clock.port ≡ true
port_clock ports root clock true is h = (let q : root ≡ clock = cc in sym (ap (λ (r : ClockRoot). ports.is_clock r.port) q) ∙ is)
port_clock ports root clock false is h = absurd cc

root_clock : (ports : Ports) (root : Option ClockRoot) (clock : ClockRoot) → domain_of ports root ≡ Some clock → ports.is_clock clock.port ≡ true
root_clock ports None clock h = absurd cc
root_clock ports (Some root) clock h = port_clock ports root clock (ports.is_clock root.port) refl h

domain_clock : (n : Netlist) (ports : Ports) (source : Option Source) (clock : ClockRoot) → domain_at n ports source ≡ Some clock → ports.is_clock clock.port ≡ true
domain_clock n ports None clock h = absurd cc
domain_clock n ports (Some source) clock h = root_clock ports (clock_root_of n source) clock h

sourced : (ports : Ports) (s : Source) (domain : Option ClockRoot) (e : ℕ) (source : Source) → ((clock : ClockRoot) → domain ≡ Some clock → ports.is_clock clock.port ≡ true) → with_source s domain ≡ Some (e, source) → ports.is_clock e ≡ true
sourced ports s None e source clocks h = absurd cc
sourced ports s (Some clock) e source clocks h = sym (ap (λ (p : ℕ × Source). ports.is_clock p.0) (pair_same (clock.port, s) (e, source) h)) ∙ clocks clock refl

-- ---- the circuit

-- what each net and each instance means, by what it became
means_all : (n : Netlist) (ports : Ports) (ops : List Op) → IsNetlist n → length ops ≡ length n.nets → ((net : ℕ) → net < length n.nets → IsOpOf n ports net (op_at ops net)) →
    (k : ℕ) → meaning (op_at ops k) ≡ (logic_of n ports).net k
means_all n ports ops sound size each k = elim (leb_tells (length n.nets) k) [
  | inl out ↦ (let far : length ops ≤ k = omega (arith, out.1) in ap meaning (get_or_past ops k Free far) ∙ sym (ap (meaning_of n ports k) (past_free n sound k out.1)))
  | inr live ↦ (each k live.1).means
]

cells_all : (n : Netlist) (ports : Ports) (flops : List FlipFlop) → AreFlops n ports (length n.instances) flops → (c : ℕ) → cell_at (map cell_of flops) c ≡ (logic_of n ports).cell c
cells_all n ports flops are c = elim (leb_tells (length n.instances) c) [
  | inl out ↦ (let s = are.size in let far : length flops ≤ c = omega (arith, out.1) in cell_past flops c far ∙ sym (past_cell n ports c out.1))
  | inr live ↦ (let s = are.size in let here : c < length flops = omega (arith, live.1) in sym (cell_read flops c _ here) ∙ are.each c live.1)
]

pub is_circuit : (n : Netlist) (ports : Ports) (x : Circuit) → IsNetlist n → IsOrder n (numbers_of x.order) → length x.ops ≡ length n.nets →
    ((net : ℕ) → net < length n.nets → IsOpOf n ports net (op_at x.ops net)) → AreFlops n ports (length n.instances) x.flops → AreLatches n ports (length n.instances) x.latches →
    AreTables x → IsCircuit x
unfolding logic_at
is_circuit n ports x sound order size each flops latches tables =
    let means = means_all n ports x.ops sound size each in
    record {
      fits = λ k. elim (leb_tells (length n.nets) k) [
        | inl out ↦ (let far : length x.ops ≤ k = omega (arith, out.1) in subst Fits (sym (get_or_past x.ops k Free far)) tt)
        | inr live ↦ (each k live.1).fits
      ];
      whole = λ k live. order.whole k (omega arith);
      after = ordered_from n ports x.ops size means (numbers_of x.order) [] order.after;
      count = sym (length-map x.order (λ (net : NetId). net.0)) ∙ order.count ∙ sym size;
      latched = λ k c e high source h. elim (leb_tells (length n.nets) k) [
        | inl out ↦ (let far : length x.ops ≤ k = omega (arith, out.1) in let f = ap meaning (get_or_past x.ops k Free far) in let g : meaning Free ≡ meanings.Lockup c e high source = sym f ∙ h in absurd cc)
        | inr live ↦ (let found = (each k live.1).latch c e high source h in latches.each c found.0 ∙ found.1)
      ];
      stored = λ k c e high source h. cells_all n ports x.flops flops c ∙ lockup_stored n ports k c e high source (sym (means k) ∙ h);
      instances = latches.size ∙ sym flops.size;
      tables = tables;
    }

pub circuit_of : (n : Netlist) (ports : Ports) (x : Circuit) → IsNetlist n → length x.ops ≡ length n.nets →
    ((net : ℕ) → net < length n.nets → IsOpOf n ports net (op_at x.ops net)) → AreFlops n ports (length n.instances) x.flops → AreLatches n ports (length n.instances) x.latches →
    IsCircuitOf n ports x
unfolding logic_at
circuit_of n ports x sound size each flops latches =
    let means = means_all n ports x.ops sound size each in
    let cells = cells_all n ports x.flops flops in
    record {
      compiled = λ i. record { net = λ k. sym (means k) i; cell = λ c. sym (cells c) i };
      clocked = λ c e high source h.
          (let less = latch_live x.latches c (e, source) h in
          let s = latches.size in
          let live : c < length n.instances = omega arith in
          let kept : kept_latch n ports c ≡ Some (e, source) = sym (latches.each c live) ∙ h in
          let is = kept_is (kind_at n c) (latch_in n ports c (map (wired_by c) (pins_of n c))) (e, source) kept in
          sourced ports _ (domain_at n ports (found_in Clock (map (wired_by c) (pins_of n c)))) e source (domain_clock n ports (found_in Clock (map (wired_by c) (pins_of n c)))) is);
      nets = size;
      instances = flops.size;
    }

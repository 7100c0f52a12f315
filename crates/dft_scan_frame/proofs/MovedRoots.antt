-- A net of a design has in the scanned netlist the root that it had, moved: it traces to where it traced, and shows the clock that it showed.
use Rattle.std.proofs.Common.{ℕ, zero, suc, ◌≡◌, ◌<◌, ◌≤◌, Bool, true, false, List, ◌∷◌, length, map, option_map, refl, ap, arith, ◌∙◌, []}
use Rattle.dft_cells.specs.declared.kind.Gate.{Gate as GateKind}
use Rattle.dft_cells.specs.declared.kind.Gate.TheVariants as gate
use Rattle.dft_netlist.specs.Netlist.{Netlist}
use Rattle.dft_netlist.specs.Drivers.{Source, Net, Tied, Loose, Driver, Input, Gate, Joined, Flop, Lockup, Free, driver, nets_of, nets_read, AreBelow, IsOrdered}
use Rattle.dft_behavior.specs.NetRoots.{NetRoot, turned_root, passed_by_one, passed_by_gate, root_of_passed, root_of_driver, root_within, net_root_of}
use Rattle.dft_behavior.specs.NetRoots as whole
use Rattle.dft_behavior.specs.Traces.{Root, Port, Constant, Other, straight_root, root_of}
use Rattle.dft_behavior.specs.ClockRoots.{ClockRoot, clock_of, clock_root_of}
use Rattle.dft_behavior.proofs.Walks.{IsWithin as StandsWithin, weaker}
use Rattle.dft_chains.specs.ScanOff.{moved_source, IsWithin}
use Rattle.dft_scan_frame.proofs.Mergings.{moved_driver}

abbrev pub moved_net_root : (f : ℕ → ℕ) → NetRoot → NetRoot
moved_net_root f (whole.Port net inverted straight) = whole.Port (f net) inverted straight
moved_net_root f (whole.Constant bit) = whole.Constant bit
moved_net_root f whole.Other = whole.Other

abbrev pub moved_root : (f : ℕ → ℕ) → Root → Root
moved_root f (Port net) = Port (f net)
moved_root f (Constant bit) = Constant bit
moved_root f Other = Other

abbrev pub moved_clock : (f : ℕ → ℕ) → ClockRoot → ClockRoot
moved_clock f clock = record { port = f clock.port; inverted = clock.inverted }

-- ---- a walk of the same steps

-- what another walk finds at moved sources is what this one finds, moved
abbrev Follow : (f : ℕ → ℕ) → (count : ℕ) → (walk its : Source → NetRoot) → Type 0
Follow f count walk its = (source : Source) → IsWithin count source → its (moved_source f source) ≡ moved_net_root f (walk source)

turned_moved : (f : ℕ → ℕ) (turns : Bool) (root : NetRoot) → turned_root turns (moved_net_root f root) ≡ moved_net_root f (turned_root turns root)
turned_moved f false root = refl
turned_moved f true (whole.Port net inverted straight) = refl
turned_moved f true (whole.Constant bit) = refl
turned_moved f true whole.Other = refl

passed_moved : (f : ℕ → ℕ) (turns : Bool) (walk its : Source → NetRoot) (inputs : List Source) (count : ℕ) → AreBelow (λ k. k) count (nets_of inputs) → Follow f count walk its →
    root_of_passed its (passed_by_one turns (map (moved_source f) inputs)) ≡ moved_net_root f (root_of_passed walk (passed_by_one turns inputs))
passed_moved f turns walk its [] count inside ih = refl
passed_moved f turns walk its (Net net ∷ []) count inside ih = ap (turned_root turns) (ih (Net net) inside.0) ∙ turned_moved f turns (walk (Net net))
passed_moved f turns walk its (Tied bit ∷ []) count inside ih = ap (turned_root turns) (ih (Tied bit) tt) ∙ turned_moved f turns (walk (Tied bit))
passed_moved f turns walk its (Loose i pin ∷ []) count inside ih = ap (turned_root turns) (ih (Loose i pin) tt) ∙ turned_moved f turns (walk (Loose i pin))
passed_moved f turns walk its (input ∷ more ∷ inputs) count inside ih = refl

gate_moved : (f : ℕ → ℕ) (walk its : Source → NetRoot) (k : GateKind) (inputs : List Source) (count : ℕ) → AreBelow (λ k. k) count (nets_of inputs) → Follow f count walk its →
    root_of_passed its (passed_by_gate k (map (moved_source f) inputs)) ≡ moved_net_root f (root_of_passed walk (passed_by_gate k inputs))
gate_moved f walk its gate.Buf inputs count inside ih = passed_moved f false walk its inputs count inside ih
gate_moved f walk its gate.Inv inputs count inside ih = passed_moved f true walk its inputs count inside ih
gate_moved f walk its _ inputs count inside ih = refl

joined_moved : (f : ℕ → ℕ) (walk its : Source → NetRoot) (source : Source) (count : ℕ) → AreBelow (λ k. k) count (nets_of (source ∷ [])) → Follow f count walk its → its (moved_source f source) ≡ moved_net_root f (walk source)
joined_moved f walk its (Net net) count inside ih = ih (Net net) inside.0
joined_moved f walk its (Tied bit) count inside ih = ih (Tied bit) tt
joined_moved f walk its (Loose i pin) count inside ih = ih (Loose i pin) tt

driver_moved : (n : Netlist) (f : ℕ → ℕ) (walk its : Source → NetRoot) (net : ℕ) (d : Driver) (count : ℕ) → AreBelow (λ k. k) count (nets_read n d) → Follow f count walk its →
    root_of_driver its (f net) (moved_driver f d) ≡ moved_net_root f (root_of_driver walk net d)
driver_moved n f walk its net Input count inside ih = refl
driver_moved n f walk its net (Gate k inputs) count inside ih = gate_moved f walk its k inputs count inside ih
driver_moved n f walk its net (Joined source) count inside ih = joined_moved f walk its source count inside ih
driver_moved n f walk its net (Flop i inverted) count inside ih = refl
driver_moved n f walk its net (Lockup i) count inside ih = refl
driver_moved n f walk its net Free count inside ih = refl

-- the drivers of a netlist's nets stand in another one, moved, and read nets of the first alone
pub record AreDriversKept (n other : Netlist) (f : ℕ → ℕ) (count : ℕ) : Type 0 where
  pub kept : (net : ℕ) → net < count → driver other (f net) ≡ moved_driver f (driver n net)
  pub closed : (net : ℕ) → net < count → AreBelow (λ k. k) count (nets_read n (driver n net))

walk_moved : (n other : Netlist) (f : ℕ → ℕ) (count : ℕ) → AreDriversKept n other f count → (steps : ℕ) → Follow f count (root_within n steps) (root_within other steps)
walk_moved n other f count kept steps (Tied bit) inside = refl
walk_moved n other f count kept steps (Loose i pin) inside = refl
walk_moved n other f count kept zero (Net net) inside = refl
walk_moved n other f count kept (suc steps) (Net net) inside =
    ap (root_of_driver (root_within other steps) (f net)) (kept.kept net inside)
    ∙ driver_moved n f (root_within n steps) (root_within other steps) net (driver n net) count (kept.closed net inside) (λ source within. walk_moved n other f count kept steps source within)

-- ---- more steps find no other root

-- two walks find the same at sources that stand below a rank
abbrev AgreeBelow : (rank : ℕ → ℕ) → (r : ℕ) → (walk its : Source → NetRoot) → Type 0
AgreeBelow rank r walk its = (source : Source) → StandsWithin rank r source → its source ≡ walk source

one_same : (turns : Bool) (walk its : Source → NetRoot) (rank : ℕ → ℕ) (r : ℕ) (inputs : List Source) → AreBelow rank r (nets_of inputs) → AgreeBelow rank r walk its → root_of_passed its (passed_by_one turns inputs) ≡ root_of_passed walk (passed_by_one turns inputs)
one_same turns walk its rank r [] below ih = refl
one_same turns walk its rank r (Net net ∷ []) below ih = ap (turned_root turns) (ih (Net net) below)
one_same turns walk its rank r (Tied bit ∷ []) below ih = ap (turned_root turns) (ih (Tied bit) tt)
one_same turns walk its rank r (Loose i pin ∷ []) below ih = ap (turned_root turns) (ih (Loose i pin) tt)
one_same turns walk its rank r (input ∷ more ∷ inputs) below ih = refl

gate_same : (walk its : Source → NetRoot) (rank : ℕ → ℕ) (r : ℕ) (k : GateKind) (inputs : List Source) → AreBelow rank r (nets_of inputs) → AgreeBelow rank r walk its → root_of_passed its (passed_by_gate k inputs) ≡ root_of_passed walk (passed_by_gate k inputs)
gate_same walk its rank r gate.Buf inputs below ih = one_same false walk its rank r inputs below ih
gate_same walk its rank r gate.Inv inputs below ih = one_same true walk its rank r inputs below ih
gate_same walk its rank r _ inputs below ih = refl

driver_same : (n : Netlist) (walk its : Source → NetRoot) (rank : ℕ → ℕ) (r net : ℕ) (d : Driver) → AreBelow rank r (nets_read n d) → AgreeBelow rank r walk its → root_of_driver its net d ≡ root_of_driver walk net d
driver_same n walk its rank r net Input below ih = refl
driver_same n walk its rank r net (Gate k inputs) below ih = gate_same walk its rank r k inputs below ih
driver_same n walk its rank r net (Joined source) below ih = ih source below
driver_same n walk its rank r net (Flop i inverted) below ih = refl
driver_same n walk its rank r net (Lockup i) below ih = refl
driver_same n walk its rank r net Free below ih = refl

walk_same : (n : Netlist) (rank : ℕ → ℕ) → IsOrdered n rank → (a b : ℕ) (source : Source) → StandsWithin rank a source → StandsWithin rank b source → root_within n a source ≡ root_within n b source
walk_same n rank order a b (Tied bit) above below = refl
walk_same n rank order a b (Loose i pin) above below = refl
walk_same n rank order zero b (Net net) above below = absurd (let h = above.0 in omega arith)
walk_same n rank order (suc a) zero (Net net) above below = absurd (let h = below.0 in omega arith)
walk_same n rank order (suc a) (suc b) (Net net) above below =
    driver_same n (root_within n b) (root_within n a) rank (rank net) net (driver n net) (order.after net)
    (λ source within. walk_same n rank order a b source (weaker rank (rank net) a source above.0 within) (weaker rank (rank net) b source below.0 within))

stands_in : (n : Netlist) (rank : ℕ → ℕ) (steps : ℕ) (source : Source) → IsOrdered n rank → length n.nets < steps → StandsWithin rank steps source
stands_in n rank steps (Net net) order less = (let h = order.within net in omega arith, tt)
stands_in n rank steps (Tied bit) order less = tt
stands_in n rank steps (Loose i pin) order less = tt

-- a source has the moved root
net_root_moved : (n other : Netlist) (f : ℕ → ℕ) (count : ℕ) (rank : ℕ → ℕ) (source : Source) → AreDriversKept n other f count → IsOrdered n rank → length n.nets ≤ length other.nets → IsWithin count source →
    net_root_of other (moved_source f source) ≡ moved_net_root f (net_root_of n source)
net_root_moved n other f count rank source kept order longer inside =
    walk_moved n other f count kept (suc (length other.nets)) source inside
    ∙ ap (moved_net_root f) (walk_same n rank order (suc (length other.nets)) (suc (length n.nets)) source (stands_in n rank (suc (length other.nets)) source order (omega (arith, longer))) (stands_in n rank (suc (length n.nets)) source order (omega arith)))

straight_moved : (f : ℕ → ℕ) (root : NetRoot) → straight_root (moved_net_root f root) ≡ moved_root f (straight_root root)
straight_moved f (whole.Port net inverted true) = refl
straight_moved f (whole.Port net inverted false) = refl
straight_moved f (whole.Constant bit) = refl
straight_moved f whole.Other = refl

shown_moved : (f : ℕ → ℕ) (root : NetRoot) → clock_of (moved_net_root f root) ≡ option_map (moved_clock f) (clock_of root)
shown_moved f (whole.Port net inverted straight) = refl
shown_moved f (whole.Constant bit) = refl
shown_moved f whole.Other = refl

-- it traces to the moved root
pub root_moved : (n other : Netlist) (f : ℕ → ℕ) (count : ℕ) (rank : ℕ → ℕ) (source : Source) → AreDriversKept n other f count → IsOrdered n rank → length n.nets ≤ length other.nets → IsWithin count source → root_of other (moved_source f source) ≡ moved_root f (root_of n source)
root_moved n other f count rank source kept order longer inside = ap straight_root (net_root_moved n other f count rank source kept order longer inside) ∙ straight_moved f (net_root_of n source)

-- and shows the moved clock
pub clock_moved : (n other : Netlist) (f : ℕ → ℕ) (count : ℕ) (rank : ℕ → ℕ) (source : Source) → AreDriversKept n other f count → IsOrdered n rank → length n.nets ≤ length other.nets → IsWithin count source → clock_root_of other (moved_source f source) ≡ option_map (moved_clock f) (clock_root_of n source)
clock_moved n other f count rank source kept order longer inside = ap clock_of (net_root_moved n other f count rank source kept order longer inside) ∙ shown_moved f (net_root_of n source)

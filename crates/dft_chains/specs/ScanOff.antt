-- A design that contains another, with scan cells in place of some of its flip-flops, behaves as it while scan is off.
use Rattle.std.specs.Prelude.{ℕ, ◌<◌, ◌≡◌, ◌==◌, Bool, true, false, List, [], ◌∷◌, map, Option, None, Some}
use Rattle.dft_base.specs.declared.tri.Tri.{Tri}
use Rattle.dft_base.specs.declared.tri.Tri.TheVariants.{Zero}
use Rattle.dft_base.specs.Tri.{AboveTri}
use Rattle.dft_cells.specs.FlipFlops.{Scan, Takes, Forces, IsForceOf, moved_forces, taken_from, taken_by, tri_taken_by}
use Rattle.dft_netlist.specs.Drivers.{Source, Net, Tied, Loose, AreBelow}
use Rattle.dft_behavior.specs.Logic.{Logic, Meaning, Input, Clock, Gate, Joined, Flop, Lockup, Free, Cell, reads, IsRanked}
use Rattle.dft_behavior.specs.Runs.{Moment, Now, Event, Set, Rise, Fall, Step, next_now, AreSteps, AreLow}

-- ---- what a net means, where nets have other numbers

abbrev pub moved_source : (moved : ℕ → ℕ) → Source → Source
moved_source moved (Net net) = Net (moved net)
moved_source moved (Tied bit) = Tied bit
moved_source moved (Loose i pin) = Loose i pin

abbrev pub moved_meaning : (moved : ℕ → ℕ) → Meaning → Meaning
moved_meaning moved Input = Input
moved_meaning moved Clock = Clock
moved_meaning moved (Gate kind inputs) = Gate kind (map (moved_source moved) inputs)
moved_meaning moved (Joined source) = Joined (moved_source moved source)
moved_meaning moved (Flop cell inverted) = Flop cell inverted
moved_meaning moved (Lockup cell domain high source) = Lockup cell (moved domain) high (moved_source moved source)
moved_meaning moved Free = Free

-- ---- containment

-- where the original stands in the written design: the number of each of its nets there, how many nets it has, which instances are
-- flip-flops of it, and the net of scan_enable
pub record Places : Type 0 where
  pub moved : ℕ → ℕ
  pub size : ℕ
  pub is_flop : ℕ → Bool
  pub enable : ℕ

abbrev pub IsWithin : (size : ℕ) → Source → Type 0
IsWithin size (Net net) = net < size
IsWithin size (Tied bit) = Unit {0}
IsWithin size (Loose i pin) = Unit {0}

abbrev pub AreForcesWithin : (size : ℕ) → Forces ℕ → Type 0
AreForcesWithin size forces = (port : ℕ) → IsForceOf forces port → port < size

-- what holds of each of these sources
abbrev pub AllOf : (Source → Type 0) → List Source → Type 0
AllOf holds [] = Unit {0}
AllOf holds (source ∷ sources) = holds source × AllOf holds sources

-- While scan_enable is 0 the new cell takes the bit that the old one takes, whatever its own, where the sources of the old one have the same bits.
abbrev pub TakesSame : Places → (old new : Takes Source) → Type 0
TakesSame p old new =
    (own : Bool) (at there : Source → Bool) → at (Net p.enable) ≡ false → AllOf (λ source. at (moved_source p.moved source) ≡ there source) (taken_from old) →
    taken_by new own at ≡ taken_by old own there

-- The same over three values: what the old cell takes stands above what the new one takes, where the values of its sources do.
abbrev pub TakesBelow : Places → (old new : Takes Source) → Type 0
TakesBelow p old new =
    (own its : Tri) (at there : Source → Tri) → AboveTri its own → at (Net p.enable) ≡ Zero → AllOf (λ source. AboveTri (there source) (at (moved_source p.moved source))) (taken_from old) →
    AboveTri (tri_taken_by old its there) (tri_taken_by new own at)

-- A flip-flop keeps its domain, its edge, its reset and its set, and what it takes while scan_enable is 0, which comes from nets of the original.
pub record KeepsFlop (p : Places) (old new : Cell) : Type 0 where
  pub domain : new.domain ≡ p.moved old.domain
  pub falling : new.falling ≡ old.falling
  pub forces : new.forces ≡ moved_forces p.moved old.forces
  pub forces_within : AreForcesWithin p.size old.forces
  pub within : AllOf (IsWithin p.size) (taken_from old.takes)
  pub same : TakesSame p old.takes new.takes
  pub below : TakesBelow p old.takes new.takes

-- scan pins, if there are any, are enabled by this port
abbrev pub IsEnabledBy : (port : ℕ) → Option (Scan Source) → Type 0
IsEnabledBy port None = Unit {0}
IsEnabledBy port (Some scan) = scan.enable ≡ Net port

-- A flip-flop without scan pins keeps its pins; it may get scan pins, which scan_enable enables.
pub record KeepsPins (p : Places) (old new : Cell) : Type 0 where
  pub plain : old.takes.scan ≡ None
  pub domain : new.domain ≡ p.moved old.domain
  pub falling : new.falling ≡ old.falling
  pub input : new.takes.input ≡ moved_source p.moved old.takes.input
  pub input_within : IsWithin p.size old.takes.input
  pub forces : new.forces ≡ moved_forces p.moved old.forces
  pub forces_within : AreForcesWithin p.size old.forces
  pub scan : IsEnabledBy p.enable new.takes.scan

-- A flip-flop that keeps its pins keeps what it takes.
abbrev pub PinsKeep : Type 0
PinsKeep = (p : Places) (old new : Cell) → KeepsPins p old new → KeepsFlop p old new

-- the written design has each net of the original, with the same meaning, and each of its flip-flops
pub record Contains (original written : Logic) (p : Places) : Type 0 where
  pub apart : (a b : ℕ) → (p.moved a == p.moved b) ≡ (a == b)
  pub enable : written.net p.enable ≡ Input
  pub nets : (net : ℕ) → net < p.size → written.net (p.moved net) ≡ moved_meaning p.moved (original.net net)
  -- nets of the original are settled from nets of the original
  pub closed : (net : ℕ) → net < p.size → AreBelow (λ k. k) p.size (reads (original.net net))
  pub shown : (net cell : ℕ) (inverted : Bool) → net < p.size → original.net net ≡ Flop cell inverted → p.is_flop cell ≡ true
  pub flops : (cell : ℕ) → p.is_flop cell ≡ true → KeepsFlop p (original.cell cell) (written.cell cell)
  pub no_lockup : (net cell domain : ℕ) (high : Bool) (source : Source) → net < p.size → original.net net ≡ Lockup cell domain high source → ⊥

-- ---- lists of events

-- these are the domains of the original that have their places among those of the written design
abbrev pub AreSameDomains : Places → (domains its : ℕ → Bool) → Type 0
AreSameDomains p domains its = (domain : ℕ) → domains (p.moved domain) ≡ its domain

-- no domain of the original has its place among these of the written design
abbrev pub AreAdded : Places → (domains : ℕ → Bool) → Type 0
AreAdded p domains = (domain : ℕ) → domains (p.moved domain) ≡ false

-- What an event of the written design is for the original, whose ports have these values: the same Set with scan_enable 0; of clocks
-- that rise or fall at once those that it has; and where it has none of them, only free bits change.
pub data IsSameEvent (p : Places) (ports : ℕ → Tri) : (event its : Event) → Type 0 where
  SameSet : {given its : ℕ → Tri} → given p.enable ≡ Zero → ((net : ℕ) → net < p.size → given (p.moved net) ≡ its net) → IsSameEvent p ports (Set given) (Set its)
  SameRise : {domains its : ℕ → Bool} → AreSameDomains p domains its → IsSameEvent p ports (Rise domains) (Rise its)
  SameFall : {domains its : ℕ → Bool} → AreSameDomains p domains its → IsSameEvent p ports (Fall domains) (Fall its)
  AddedRise : {domains : ℕ → Bool} → AreAdded p domains → IsSameEvent p ports (Rise domains) (Set ports)
  AddedFall : {domains : ℕ → Bool} → AreAdded p domains → IsSameEvent p ports (Fall domains) (Set ports)

-- the free bits of the original's nets, and of unconnected pins, are the same
pub record AreFreeAlike (p : Places) (moment its : Moment) : Type 0 where
  pub nets : (net : ℕ) → net < p.size → moment.free (p.moved net) ≡ its.free net
  pub pins : (i pin : ℕ) → moment.loose i pin ≡ its.loose i pin

-- the same events, one after another, with the same free bits at each moment
abbrev pub AreSameSteps : (original : Logic) → Places → (its : Now) → (steps those : List Step) → Type 0
AreSameSteps original p its [] [] = Unit {0}
AreSameSteps original p its [] (other ∷ others) = ⊥
AreSameSteps original p its (step ∷ steps) [] = ⊥
AreSameSteps original p its (step ∷ steps) (other ∷ others) =
    IsSameEvent p its.state.ports step.event other.event × AreFreeAlike p step.moment other.moment × AreSameSteps original p (next_now original its other) steps others

-- each net of the original has the same bit at each moment
abbrev pub AllAgree : Places → (steps those : List Step) → Type 0
AllAgree p [] others = Unit {0}
AllAgree p (step ∷ steps) [] = ⊥
AllAgree p (step ∷ steps) (other ∷ others) = ((net : ℕ) → net < p.size → step.moment.seen (p.moved net) ≡ other.moment.seen net) × AllAgree p steps others

-- a step that sets the ports
abbrev pub set_to : (ℕ → Tri) → Moment → Step
set_to ports moment = record { event = Set ports; moment = moment }

-- Let all clocks be low and the original's flip-flops have equal bits, and let the same events follow, a Set first. Then at each
-- moment every net of the original has the same bit in both.
abbrev pub ScanOff : Type 0
ScanOff =
    (original written : Logic) (rank : ℕ → ℕ) (p : Places) (now its : Now) (given ports : ℕ → Tri) (m o : Moment) (steps others : List Step) →
    IsRanked original rank → Contains original written p → AreLow now.state → AreLow its.state → ((cell : ℕ) → p.is_flop cell ≡ true → now.state.flops cell ≡ its.state.flops cell) →
    given p.enable ≡ Zero → ((net : ℕ) → net < p.size → given (p.moved net) ≡ ports net) → AreFreeAlike p m o →
    AreSameSteps original p (next_now original its (set_to ports o)) steps others →
    AreSteps written now (set_to given m ∷ steps) → AreSteps original its (set_to ports o ∷ others) →
    AllAgree p (set_to given m ∷ steps) (set_to ports o ∷ others)

-- What nets show of the domains that pulse in a phase, found in one pass over them for all views at once.
use Rattle.std.specs.Prelude.{ℕ, Bool, true, false, ◌≡◌, ◌==◌, ◌&&◌, ◌||◌, List, [], ◌∷◌, if◌then◌else◌}
use Rattle.dft_base.specs.declared.tri.Tri.{Tri}
use Rattle.dft_netlist.specs.Drivers.{nets_of}
use Rattle.dft_behavior.specs.Logic.{Logic, Meaning, Input, Clock, Gate, Joined, Flop, Lockup, Free}
use Rattle.dft_behavior.specs.Settled.{value_from}
use Rattle.dft_behavior.specs.Runs.{takes}
use Rattle.dft_abstract.specs.Cycle.{Pulse, changes}
use Rattle.dft_takings.specs.Needs.{HasAll, next_reads}

-- what of the pulsed domains a net shows, by their flip-flops and their clocks: nothing, that of one domain, or that of several
pub data Shown : Type 0 where
  Nothing : Shown
  Domain : (domain : ℕ) → Shown
  Several : Shown

-- what shows this is as before the edges in the view of a domain
abbrev pub is_still : (view : ℕ) → Shown → Bool
is_still d Nothing = true
is_still d (Domain e) = e == d
is_still d Several = false

abbrev pub with_shown : Shown → Shown → Shown
with_shown Nothing t = t
with_shown (Domain e) Nothing = Domain e
with_shown (Domain e) (Domain f) = if e == f then Domain e else Several
with_shown (Domain e) Several = Several
with_shown Several t = Several

-- what these nets show together
abbrev pub shown_by : (shown : ℕ → Shown) → List ℕ → Shown
shown_by shown [] = Nothing
shown_by shown (net ∷ nets) = with_shown (shown net) (shown_by shown nets)

-- what a cell or the clock of a domain shows, if it takes a value or pulses
abbrev pub domain_shown : (up : Bool) → (domain : ℕ) → Shown
domain_shown up e = if up then Domain e else Nothing

-- a lock-up that takes its bit shows nothing where its input is as before the edges in the view of its own clock, and else it may move in every view
abbrev pub held_shown : (domain : ℕ) → (input : Shown) → Shown
held_shown e input = if is_still e input then Nothing else Several

-- one that opens shows its clock; where that rests it holds, or is a wire
abbrev pub open_shown : (up high : Bool) → (domain : ℕ) → (input : Shown) → Shown
open_shown up high e input = if up then Domain e else (if high then Nothing else input)

abbrev pub lockup_shown : (rising up high : Bool) → (domain : ℕ) → (input : Shown) → Shown
lockup_shown rising up high e input = if takes rising high then (if rising || up then held_shown e input else Nothing) else open_shown up high e input

abbrev pub shown_given : Logic → Pulse → (shown : ℕ → Shown) → (net : ℕ) → Meaning → Shown
shown_given l p shown net Input = Nothing
shown_given l p shown net Clock = domain_shown (p.pulsed net) net
shown_given l p shown net (Gate kind inputs) = shown_by shown (nets_of inputs)
shown_given l p shown net (Joined source) = shown_by shown (nets_of (source ∷ []))
shown_given l p shown net (Flop cell inverted) = domain_shown (changes l p cell) (l.cell cell).domain
shown_given l p shown net (Lockup cell domain high source) = lockup_shown p.rising (p.pulsed domain) high domain (shown_by shown (nets_of (source ∷ [])))
shown_given l p shown net Free = Nothing

-- each net of the set shows what its driver gives it
abbrev pub IsShownOn : Logic → Pulse → (needs : (net : ℕ) → Bool) → (shown : ℕ → Shown) → Type 0
IsShownOn l p needs shown = (net : ℕ) → needs net ≡ true → shown net ≡ shown_given l p shown net (l.net net)

-- the net is in the set, and as before the edges in this view
abbrev pub still_needs : (needs : (net : ℕ) → Bool) → (shown : ℕ → Shown) → (view net : ℕ) → Bool
still_needs needs shown d net = needs net && is_still d (shown net)

-- a cell's next value before the edges is read from nets of the set that are as there in the view of its domain
abbrev pub HasStillReads : Logic → Pulse → (needs : (net : ℕ) → Bool) → (shown : ℕ → Shown) → (values : ℕ → Tri) → (cell : ℕ) → Type 0
HasStillReads l p needs shown values c = HasAll (still_needs needs shown (l.cell c).domain) (nets_of (next_reads (l.cell c) p.ports (value_from values)))

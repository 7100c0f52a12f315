-- What need not be settled, and what is settled once.
use Rattle.std.specs.Prelude.{ℕ, Bool, true, false, if◌then◌else◌, ◌≡◌, List, [], ◌∷◌, map, Option, Some}
use Rattle.dft_base.specs.declared.tri.Tri.{Tri}
use Rattle.dft_base.specs.declared.tri.Tri.TheVariants.{Zero, One}
use Rattle.dft_base.specs.Tri.{known, AboveTri}
use Rattle.dft_cells.specs.FlipFlops.{Scan, IsForceOf}
use Rattle.dft_netlist.specs.declared.ids.NetId.{NetId}
use Rattle.dft_netlist.specs.Drivers.{Source, nets_of}
use Rattle.dft_behavior.specs.Logic.{Logic, Lockup, IsRanked}
use Rattle.dft_behavior.specs.Settled.{value_from}
use Rattle.dft_netlist.specs.Orders.{numbers_of}
use Rattle.dft_abstract.specs.Cycle.{Pulse, changes, level_before, AreViews, next_value, IsLeast, after_pulse}
use Rattle.dft_takings.specs.Needs.{HasAll, IsReadClosed, AreViewsOn, IsStrobe, IsStrobeClosed, IsStrobeOn, IsStillFrom, IsBefore, IsBeforeOn, IsStillOn, AreSeen, next_reads, HasNextReads}
use Rattle.dft_takings.specs.Moves.{IsStill, IsUnclocked}
use Rattle.dft_takings.specs.Takes.{next_source, AreOrigins}
use Rattle.dft_takings.specs.Lists.{is_listed, IsListFrom, settled_by}
use Rattle.dft_takings.specs.Shows.{Shown, is_still, IsShownOn, HasStillReads}
use Rattle.dft_takings.specs.Entries.{Entry, Reads, Computes, entry_value, entry_given}

-- ---- lock-ups

-- In the rises a low lock-up has in every view its input's value in the view of its own clock, also of one that does not pulse.
abbrev pub LockupIsInput : Type 0
LockupIsInput =
    (l : Logic) (p : Pulse) (poss : ℕ → Tri) (view : ℕ → ℕ → Tri) → p.rising ≡ true → AreViews l p poss view → (d net c e : ℕ) (source : Source) → l.net net ≡ Lockup c e false source →
    view d net ≡ value_from (view e) source

-- At a strobe it is a wire, and a high one holds.
abbrev pub LockupIsWire : Type 0
LockupIsWire =
    (l : Logic) (ports flops values : ℕ → Tri) → IsStrobe l ports flops values → (net c e : ℕ) (high : Bool) (source : Source) → l.net net ≡ Lockup c e high source →
    values net ≡ (if high then flops c else value_from values source)

-- ---- what is not read need not be settled

-- Where the set is closed under reading, an assignment that gives each of its nets the driver's value agrees there with the views.
abbrev pub NeededIsView : Type 0
NeededIsView =
    (l : Logic) (rank : ℕ → ℕ) (p : Pulse) (poss : ℕ → Tri) (needs : (view net : ℕ) → Bool) (values view : ℕ → ℕ → Tri) → IsRanked l rank → IsReadClosed l p needs →
    AreViewsOn l p poss needs values → AreViews l p poss view → (d net : ℕ) → needs d net ≡ true → values d net ≡ view d net

-- A flip-flop whose next value is read from the set, by that assignment's scan enable, has the same next value from it.
abbrev pub NextOfNeeded : Type 0
NextOfNeeded =
    (l : Logic) (rank : ℕ → ℕ) (p : Pulse) (poss : ℕ → Tri) (needs : (view net : ℕ) → Bool) (values view : ℕ → ℕ → Tri) → IsRanked l rank → IsReadClosed l p needs →
    AreViewsOn l p poss needs values → AreViews l p poss view → (c : ℕ) → HasNextReads l p needs values c → next_value l p values c ≡ next_value l p view c

-- The same while clocks have these levels, as at a strobe, where the set is one of nets.
abbrev pub NeededIsStrobe : Type 0
NeededIsStrobe =
    (l : Logic) (rank : ℕ → ℕ) (level : ℕ → Bool) (ports flops : ℕ → Tri) (needs : (net : ℕ) → Bool) (values settled : ℕ → Tri) → IsRanked l rank → IsStrobeClosed l needs →
    IsStillOn l level ports flops needs values → IsStillFrom l level ports flops settled → (net : ℕ) → needs net ≡ true → values net ≡ settled net

-- So the values of nets at a strobe are had from a set that has them.
abbrev pub LookOfNeeded : Type 0
LookOfNeeded =
    (l : Logic) (rank : ℕ → ℕ) (ports flops : ℕ → Tri) (needs : (net : ℕ) → Bool) (values : ℕ → Tri) (nets : List NetId) → IsRanked l rank → IsStrobeClosed l needs →
    IsStrobeOn l ports flops needs values → HasAll needs (numbers_of nets) → AreSeen l ports flops nets (map (λ net. values net.0) nets)

-- ---- what does not move has one pass

-- Where nothing moves in a set that is closed under reading, its nets have the same values at any two maps.
abbrev pub StillIsOne : Type 0
StillIsOne =
    (l : Logic) (rank : ℕ → ℕ) (p : Pulse) (poss other : ℕ → Tri) (needs : (view net : ℕ) → Bool) (view its : ℕ → ℕ → Tri) → IsRanked l rank → IsReadClosed l p needs →
    IsStill l p needs → AreViews l p poss view → AreViews l p other its → (d net : ℕ) → needs d net ≡ true → view d net ≡ its d net

-- A flip-flop whose next value is read from it at one map has the same next value at any other.
abbrev pub StillHasOneNext : Type 0
StillHasOneNext =
    (l : Logic) (rank : ℕ → ℕ) (p : Pulse) (poss other : ℕ → Tri) (needs : (view net : ℕ) → Bool) (view its : ℕ → ℕ → Tri) → IsRanked l rank → IsReadClosed l p needs →
    IsStill l p needs → AreViews l p poss view → AreViews l p other its → (c : ℕ) → HasNextReads l p needs view c → next_value l p view c ≡ next_value l p its c

-- Where besides none of the nets is the clock of another pulsed domain, they have the values of the strobe before the pulse in all views.
abbrev pub StillIsStrobe : Type 0
StillIsStrobe =
    (l : Logic) (rank : ℕ → ℕ) (p : Pulse) (poss : ℕ → Tri) (needs : (view net : ℕ) → Bool) (view : ℕ → ℕ → Tri) (settled : ℕ → Tri) → IsRanked l rank → IsReadClosed l p needs →
    IsStill l p needs → IsUnclocked l p needs → AreViews l p poss view → IsBefore l p settled → (d net : ℕ) → needs d net ≡ true → view d net ≡ settled net

-- A flip-flop whose next value is read from it, by the strobe's scan enable, has the next value from the strobe's values.
abbrev pub StillNextIsStrobe : Type 0
StillNextIsStrobe =
    (l : Logic) (rank : ℕ → ℕ) (p : Pulse) (poss : ℕ → Tri) (needs : (view net : ℕ) → Bool) (view : ℕ → ℕ → Tri) (settled : ℕ → Tri) → IsRanked l rank → IsReadClosed l p needs →
    IsStill l p needs → IsUnclocked l p needs → AreViews l p poss view → IsBefore l p settled →
    (c : ℕ) → HasNextReads l p needs (λ d. settled) c → next_value l p view c ≡ next_value l p (λ d. settled) c

-- Where that holds of all pulsed flip-flops, the least map is their old values joined with these next values, and after the pulse they have them.
abbrev pub OnePass : Type 0
OnePass =
    (l : Logic) (rank : ℕ → ℕ) (p : Pulse) (needs : (view net : ℕ) → Bool) (settled : ℕ → Tri) → IsRanked l rank → IsReadClosed l p needs → IsStill l p needs →
    IsUnclocked l p needs → IsBefore l p settled → ((c : ℕ) → changes l p c ≡ true → HasNextReads l p needs (λ d. settled) c) →
    (poss : ℕ → Tri) × ((view : ℕ → ℕ → Tri) × (IsLeast l p poss view × ((c : ℕ) → after_pulse l p view c ≡ after_pulse l p (λ d. settled) c)))

-- ---- all views by one assignment

-- In every view in which what a net of the set shows is still, the net has its value of the strobe.
abbrev pub ShownIsStrobe : Type 0
ShownIsStrobe =
    (l : Logic) (rank : ℕ → ℕ) (p : Pulse) (poss : ℕ → Tri) (needs : (net : ℕ) → Bool) (shown : ℕ → Shown) (values : ℕ → Tri) (view : ℕ → ℕ → Tri) → IsRanked l rank → IsStrobeClosed l needs →
    IsShownOn l p needs shown → IsBeforeOn l p needs values → AreViews l p poss view → (d net : ℕ) → needs net ≡ true → is_still d (shown net) ≡ true → view d net ≡ values net

-- Where the next values of all pulsed flip-flops are read from such nets, they take them from these values, at a least map that is there.
abbrev pub PassOfShown : Type 0
PassOfShown =
    (l : Logic) (rank : ℕ → ℕ) (p : Pulse) (needs : (net : ℕ) → Bool) (shown : ℕ → Shown) (values : ℕ → Tri) → IsRanked l rank → IsStrobeClosed l needs →
    IsShownOn l p needs shown → IsBeforeOn l p needs values → ((c : ℕ) → changes l p c ≡ true → HasStillReads l p needs shown values c) →
    (poss : ℕ → Tri) × ((view : ℕ → ℕ → Tri) × (IsLeast l p poss view × ((c : ℕ) → after_pulse l p view c ≡ after_pulse l p (λ d. values) c)))

-- ---- next values at a strobe

-- A flip-flop whose next value is read from a set that is settled for the strobe has the same next value from it.
abbrev pub NextOfStrobe : Type 0
NextOfStrobe =
    (l : Logic) (rank : ℕ → ℕ) (p : Pulse) (needs : (net : ℕ) → Bool) (values settled : ℕ → Tri) → IsRanked l rank → IsStrobeClosed l needs → IsBeforeOn l p needs values →
    IsBefore l p settled → (c : ℕ) → HasAll needs (nets_of (next_reads (l.cell c) p.ports (value_from values))) → next_value l p (λ d. values) c ≡ next_value l p (λ d. settled) c

-- Where it takes one source's value, this is its next value.
abbrev pub NextOfSource : Type 0
NextOfSource =
    (l : Logic) (p : Pulse) (view : ℕ → ℕ → Tri) (c : ℕ) (source : Source) → next_source (l.cell c) p.ports (value_from (view (l.cell c).domain)) ≡ Some source →
    next_value l p view c ≡ value_from (view (l.cell c).domain) source

-- Where its reset acts, it is 0; and where its set acts and its reset does not, it is 1.
abbrev pub NextOfForce : Type 0
NextOfForce =
    (l : Logic) (p : Pulse) (view : ℕ → ℕ → Tri) (c port : ℕ) → p.ports port ≡ Zero → ((l.cell c).forces.clear ≡ Some port → next_value l p view c ≡ Zero)
    × ((l.cell c).forces.preset ≡ Some port → ((pin : ℕ) → (l.cell c).forces.clear ≡ Some pin → p.ports pin ≡ One) → next_value l p view c ≡ One)

-- A net that shows a flip-flop through joins and lock-ups has its value at a strobe.
abbrev pub OriginIsShown : Type 0
OriginIsShown =
    (l : Logic) (rank : ℕ → ℕ) (origin : ℕ → Option ℕ) (level : ℕ → Bool) (ports flops settled : ℕ → Tri) → IsRanked l rank → AreOrigins l level origin → IsStillFrom l level ports flops settled →
    (net c : ℕ) → origin net ≡ Some c → settled net ≡ flops c

-- ---- entries

-- A flip-flop that has an entry has its value after the pulse, from the strobe's values.
abbrev pub EntryIsNext : Type 0
EntryIsNext =
    (l : Logic) (rank : ℕ → ℕ) (p : Pulse) (origin : ℕ → Option ℕ) (shown : ℕ → Shown) (settled : ℕ → Tri) → IsRanked l rank → AreOrigins l (level_before p) origin → IsBefore l p settled →
    (c : ℕ) (entry : Entry) → entry_given l p origin shown settled c ≡ Some entry →
    after_pulse l p (λ d. settled) c ≡ entry_value p.old settled (next_value l p (λ d. settled) c) c entry

-- Where all flip-flops have entries, these give the values after the pulse at a least map that is there.
abbrev pub PassOfEntries : Type 0
PassOfEntries =
    (l : Logic) (rank : ℕ → ℕ) (p : Pulse) (origin : ℕ → Option ℕ) (shown : ℕ → Shown) (settled : ℕ → Tri) (entries : ℕ → Entry) → IsRanked l rank → AreOrigins l (level_before p) origin →
    IsShownOn l p (λ net. true) shown → IsBefore l p settled → ((c : ℕ) → entry_given l p origin shown settled c ≡ Some (entries c)) →
    (poss : ℕ → Tri) × ((view : ℕ → ℕ → Tri) × (IsLeast l p poss view × ((c : ℕ) → after_pulse l p view c ≡ entry_value p.old settled (next_value l p (λ d. settled) c) c (entries c))))

-- The same from a set of nets that is settled for the strobe, and has the scan enables and what the entries read.
abbrev pub PassOfNeeded : Type 0
PassOfNeeded =
    (l : Logic) (rank : ℕ → ℕ) (p : Pulse) (origin : ℕ → Option ℕ) (shown : ℕ → Shown) (needs : (net : ℕ) → Bool) (values : ℕ → Tri) (entries : ℕ → Entry) → IsRanked l rank → AreOrigins l (level_before p) origin →
    IsShownOn l p (λ net. true) shown → IsStrobeClosed l needs → IsBeforeOn l p needs values → ((c : ℕ) → entry_given l p origin shown values c ≡ Some (entries c)) →
    ((c : ℕ) (scan : Scan Source) → (l.cell c).takes.scan ≡ Some scan → HasAll needs (nets_of (scan.enable ∷ []))) → ((c net : ℕ) → entries c ≡ Reads net → needs net ≡ true) →
    ((c : ℕ) → entries c ≡ Computes → HasAll needs (nets_of (next_reads (l.cell c) p.ports (value_from values)))) →
    (poss : ℕ → Tri) × ((view : ℕ → ℕ → Tri) × (IsLeast l p poss view × ((c : ℕ) → after_pulse l p view c ≡ entry_value p.old values (next_value l p (λ d. values) c) c (entries c))))

-- Where the same clocks pulse, and a flip-flop's reset or set port and its scan enable have the same values, it has the same entry.
abbrev pub EntryStays : Type 0
EntryStays =
    (l : Logic) (p q : Pulse) (origin : ℕ → Option ℕ) (shown : ℕ → Shown) (settled other : ℕ → Tri) (c : ℕ) → changes l p c ≡ changes l q c →
    ((port : ℕ) → IsForceOf (l.cell c).forces port → p.ports port ≡ q.ports port) → ((scan : Scan Source) → (l.cell c).takes.scan ≡ Some scan → value_from settled scan.enable ≡ value_from other scan.enable) →
    entry_given l p origin shown settled c ≡ entry_given l q origin shown other c

-- ---- lists

-- A list in which each net comes after those that it is settled from is closed under reading.
abbrev pub ListIsClosed : Type 0
ListIsClosed = (l : Logic) (nets : List ℕ) → IsListFrom l [] nets → IsStrobeClosed l (is_listed nets)

-- Settling its nets one after the other gives each its driver's value, whatever the values before.
abbrev pub ListIsSettled : Type 0
ListIsSettled =
    (l : Logic) (ports flops : ℕ → Tri) (nets : List ℕ) (values : ℕ → Tri) → IsListFrom l [] nets → IsStrobeOn l ports flops (is_listed nets) (settled_by l ports flops nets values)

-- ---- views rise from the strobe with the map

-- Each net's value in each view stands above its value at the strobe before the pulse.
abbrev pub ViewIsAboveStrobe : Type 0
ViewIsAboveStrobe =
    (l : Logic) (rank : ℕ → ℕ) (p : Pulse) (poss : ℕ → Tri) (view : ℕ → ℕ → Tri) (settled : ℕ → Tri) → IsRanked l rank → ((c : ℕ) → AboveTri (poss c) (p.old c)) → AreViews l p poss view →
    IsBefore l p settled → (d net : ℕ) → AboveTri (view d net) (settled net)

-- So no net is 1 in one view and 0 in another, nor in views of two maps.
abbrev pub NoTwoBits : Type 0
NoTwoBits =
    (l : Logic) (rank : ℕ → ℕ) (p : Pulse) (poss other : ℕ → Tri) (view its : ℕ → ℕ → Tri) → IsRanked l rank → ((c : ℕ) → AboveTri (poss c) (p.old c)) → ((c : ℕ) → AboveTri (other c) (p.old c)) →
    AreViews l p poss view → AreViews l p other its → (d e net : ℕ) (a b : Bool) → view d net ≡ known a → its e net ≡ known b → a ≡ b

-- Where one map stands above another, so do its views.
abbrev pub ViewsRise : Type 0
ViewsRise =
    (l : Logic) (rank : ℕ → ℕ) (p : Pulse) (high low : ℕ → Tri) (view its : ℕ → ℕ → Tri) → IsRanked l rank → ((c : ℕ) → AboveTri (high c) (low c)) → AreViews l p high view → AreViews l p low its →
    (d net : ℕ) → AboveTri (view d net) (its d net)

-- What a next value is read from at one map it is read from at a higher one: a scan enable may become Unknown.
abbrev pub ReadsRise : Type 0
ReadsRise =
    (l : Logic) (p : Pulse) (needs : (view net : ℕ) → Bool) (view its : ℕ → ℕ → Tri) → ((d net : ℕ) → AboveTri (view d net) (its d net)) →
    (c : ℕ) → HasNextReads l p needs view c → HasNextReads l p needs its c

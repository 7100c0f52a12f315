-- What moves as the map rises: in the view of a domain, the flip-flops of the other pulsed domains.
use Rattle.std.specs.Prelude.{ℕ, Bool, true, false, ◌≡◌, ◌==◌, if◌then◌else◌}
use Rattle.dft_behavior.specs.Logic.{Logic, Meaning, Input, Clock, Gate, Joined, Flop, Lockup, Free}
use Rattle.dft_behavior.specs.Runs.{takes}
use Rattle.dft_abstract.specs.Cycle.{Pulse, changes}

-- a pulsed domain that is not the view's own
abbrev pub is_other : (pulsed : ℕ → Bool) → (view domain : ℕ) → Bool
is_other pulsed d e = if pulsed e then (if e == d then false else true) else false

-- A net moves in a view where it shows a cell of another pulsed domain that takes a value. The domain of a cell is another one in the view of a lock-up of a second clock.
abbrev pub moves : Logic → Pulse → (view : ℕ) → Meaning → Bool
moves l p d Input = false
moves l p d Clock = false
moves l p d (Gate kind inputs) = false
moves l p d (Joined source) = false
moves l p d (Flop cell inverted) = is_other (λ e. changes l p cell) d (l.cell cell).domain
moves l p d (Lockup cell domain high source) = false
moves l p d Free = false

-- a net is the clock of another pulsed domain, or a lock-up that this clock opens
abbrev pub is_other_clock : Pulse → (view net : ℕ) → Meaning → Bool
is_other_clock p d net Input = false
is_other_clock p d net Clock = is_other p.pulsed d net
is_other_clock p d net (Gate kind inputs) = false
is_other_clock p d net (Joined source) = false
is_other_clock p d net (Flop cell inverted) = false
is_other_clock p d net (Lockup cell domain high source) = if takes p.rising high then false else is_other p.pulsed d domain
is_other_clock p d net Free = false

-- no net of the set moves
abbrev pub IsStill : Logic → Pulse → (needs : (view net : ℕ) → Bool) → Type 0
IsStill l p needs = (d net : ℕ) → needs d net ≡ true → moves l p d (l.net net) ≡ false

-- and none is the clock of another pulsed domain
abbrev pub IsUnclocked : Logic → Pulse → (needs : (view net : ℕ) → Bool) → Type 0
IsUnclocked l p needs = (d net : ℕ) → needs d net ≡ true → is_other_clock p d net (l.net net) ≡ false

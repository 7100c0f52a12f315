-- What the errors of each step of the making mean; want of memory means nothing.
use Rattle.std.specs.Prelude.{◌≡◌, ◌<◌, pos, length, Option, Some}
use Rattle.dft_base.specs.Lexing.{Text}
use Rattle.dft_scan_frame.specs.declared.error.InsertError.{InsertError}
use Rattle.dft_configuring.specs.declared.error.ConfigureError.{ConfigureError}
use Rattle.dft_configuring.specs.declared.error.ConfigureError.TheVariants.{NoClock, TooMany, Rules, NoRing, LongText, Stitch, Insert, Memory}

-- of the checks before a ring is sought: this is refused
abbrev pub IsCheck : Option ConfigureError → ConfigureError → Type 0
IsCheck refused NoClock = refused ≡ Some NoClock
IsCheck refused (TooMany what most) = refused ≡ Some (TooMany what most)
IsCheck refused (Rules error) = refused ≡ Some (Rules error)
IsCheck refused NoRing = ⊥
IsCheck refused (LongText bytes) = refused ≡ Some (LongText bytes)
IsCheck refused (Stitch error) = ⊥
IsCheck refused (Insert error) = ⊥
IsCheck refused (Memory error) = Unit {0}

-- of a text: it is longer than a configuration file may be, and this is its length
abbrev pub IsLong : Text → ConfigureError → Type 0
IsLong text NoClock = ⊥
IsLong text (TooMany what most) = ⊥
IsLong text (Rules error) = ⊥
IsLong text NoRing = ⊥
IsLong text (LongText bytes) = (67108864 < length text) × (bytes ≡ pos (length text))
IsLong text (Stitch error) = ⊥
IsLong text (Insert error) = ⊥
IsLong text (Memory error) = Unit {0}

-- of the ring: there is none
abbrev pub IsNoRing : (none : Type 0) → ConfigureError → Type 0
IsNoRing none NoClock = ⊥
IsNoRing none (TooMany what most) = ⊥
IsNoRing none (Rules error) = ⊥
IsNoRing none NoRing = none
IsNoRing none (LongText bytes) = ⊥
IsNoRing none (Stitch error) = ⊥
IsNoRing none (Insert error) = ⊥
IsNoRing none (Memory error) = Unit {0}

-- of what is tried: a limit of the plan is passed, or the text is too long
abbrev pub IsLimit : (passed : ConfigureError → Type 0) → ConfigureError → Type 0
IsLimit passed NoClock = ⊥
IsLimit passed (TooMany what most) = ⊥
IsLimit passed (Rules error) = ⊥
IsLimit passed NoRing = ⊥
IsLimit passed (LongText bytes) = passed (LongText bytes)
IsLimit passed (Stitch error) = passed (Stitch error)
IsLimit passed (Insert error) = ⊥
IsLimit passed (Memory error) = Unit {0}

-- of the insertion: this is refused
abbrev pub IsInsertion : Option InsertError → ConfigureError → Type 0
IsInsertion refused NoClock = ⊥
IsInsertion refused (TooMany what most) = ⊥
IsInsertion refused (Rules error) = ⊥
IsInsertion refused NoRing = ⊥
IsInsertion refused (LongText bytes) = ⊥
IsInsertion refused (Stitch error) = ⊥
IsInsertion refused (Insert error) = refused ≡ Some error
IsInsertion refused (Memory error) = Unit {0}

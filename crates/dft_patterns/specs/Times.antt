-- The times of a table of waveforms, and whether they fit its period (IEEE 1450-1999 `Period`).
use Rattle.std.specs.Prelude.{ℕ, Bool, true, ◌&&◌, ◌||◌, nat_lt, Option, Some, None, is_some, if◌then◌else◌}
use Rattle.dft_patterns.specs.declared.shapes.Event.{Event}
use Rattle.dft_patterns.specs.declared.shapes.Drawing.{Drawing}
use Rattle.dft_patterns.specs.declared.shapes.Drawing.TheVariants as drawing
use Rattle.dft_patterns.specs.declared.times.Times.{Times}
use Rattle.dft_patterns.specs.Drawings.{is}

-- no time
abbrev pub no_times : Times
no_times = record { last_setting = None; first_strobe = None; last_strobe = None; first_rise = None; last_rise = None; first_fall = None; last = None }

-- the later of the last time and a time, and the earlier of the first time and a time
abbrev pub later : Option ℕ → ℕ → Option ℕ
later None time = Some time
later (Some last) time = Some (if nat_lt last time then time else last)

abbrev pub earlier : Option ℕ → ℕ → Option ℕ
earlier None time = Some time
earlier (Some first) time = Some (if nat_lt time first then time else first)

-- inputs are set at a time
abbrev pub with_setting : ℕ → Times → Times
with_setting time t = record t { last_setting = later t.last_setting time }

-- outputs are compared at a time
abbrev pub with_strobe : ℕ → Times → Times
with_strobe time t = record t { first_strobe = earlier t.first_strobe time; last_strobe = later t.last_strobe time }

-- pulses rise and fall
abbrev pub with_pulse : ℕ → ℕ → Times → Times
with_pulse rise fall t = record t { first_rise = earlier t.first_rise rise; last_rise = later t.last_rise rise; first_fall = earlier t.first_fall fall }

-- the last event of a shape is at a time
abbrev pub with_last : ℕ → Times → Times
with_last time t = record t { last = later t.last time }

-- the times of a shape that is one event: of an input, or of an output where it is compared
abbrev pub with_event : Event → Times → Times
with_event e t = if is 68 e || is 85 e then with_setting e.time t else (if is 76 e || is 72 e then with_strobe e.time t else t)

-- the times of a shape. Its events rise.
abbrev pub with_times : Drawing → Times → Times
with_times (drawing.One a) t = with_last a.time (with_event a t)
with_times (drawing.Two a b) t = with_last b.time (with_strobe b.time t)
with_times (drawing.Three a b c) t = with_last c.time (with_pulse b.time c.time (with_setting a.time t))
with_times _ t = t

-- each of some times is before each of others, where the last of them is before the first of the others
abbrev pub all_before : Option ℕ → Option ℕ → Bool
all_before (Some last) (Some first) = nat_lt last first
all_before _ _ = true

-- The times of a table fit its period: inputs are set before outputs are compared, or else before pulses rise; outputs are compared
-- before pulses rise, these before pulses fall, and all before the period ends.
abbrev pub times_fit : ℕ → Times → Bool
times_fit period t =
    all_before t.last_setting t.first_strobe && all_before t.last_strobe t.first_rise && all_before t.last_rise t.first_fall && all_before t.last (Some period)
    && (is_some t.first_strobe || all_before t.last_setting t.first_rise)

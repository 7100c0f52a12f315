-- Shapes of waveforms as they are drawn, event by event (IEEE 1450-1999 `Waveforms`).
use Rattle.std.specs.Prelude.{ℕ, Bool, false, ◌&&◌, ◌||◌, ◌==◌, nat_lt, Option, Some, None, unwrap_or, if◌then◌else◌}
use Rattle.dft_base.specs.declared.dir.Dir.{Dir}
use Rattle.dft_base.specs.declared.dir.Dir.TheVariants as dir
use Rattle.dft_patterns.specs.declared.act.Act.{Act}
use Rattle.dft_patterns.specs.declared.act.Act.TheVariants as act
use Rattle.dft_patterns.specs.declared.shapes.Event.{Event}
use Rattle.dft_patterns.specs.declared.shapes.Drawing.{Drawing}
use Rattle.dft_patterns.specs.declared.shapes.Drawing.TheVariants as drawing

-- the letter of an event: D 68, H 72, L 76, U 85, X 88
abbrev pub is : ℕ → Event → Bool
is letter e = e.letter == letter

-- one event is before another
abbrev pub before : Event → Event → Bool
before a b = nat_lt a.time b.time

-- Whether a shape of a signal can begin with these events: of an input D, or U, or D and U and D; of an output X and then L or H,
-- or L or H alone. Their times rise.
abbrev pub begins_shape : Dir → Drawing → Bool
begins_shape dir.Input (drawing.One a) = is 68 a || is 85 a
begins_shape dir.Input (drawing.Two a b) = is 68 a && is 85 b && before a b
begins_shape dir.Input (drawing.Three a b c) = is 68 a && is 85 b && is 68 c && before a b && before b c
begins_shape dir.Output (drawing.One a) = is 88 a || is 76 a || is 72 a
begins_shape dir.Output (drawing.Two a b) = is 88 a && (is 76 b || is 72 b) && before a b
begins_shape _ _ = false

-- one event more
abbrev pub extended : Drawing → Event → Drawing
extended drawing.Begun e = drawing.One e
extended (drawing.One a) e = drawing.Two a e
extended (drawing.Two a b) e = drawing.Three a b e
extended _ e = drawing.Many

-- what a shape does that is a single event
abbrev pub act_of_event : Event → Option Act
act_of_event e =
    if is 68 e then Some act.Low
    else (if is 85 e then Some act.High
    else (if is 88 e then Some act.Ignore
    else (if is 76 e then Some act.ExpectLow
    else (if is 72 e then Some act.ExpectHigh else None))))

-- what a shape does that is these events, which begin one; none where it would have to go on
abbrev pub act_of_events : Drawing → Option Act
act_of_events (drawing.One a) = act_of_event a
act_of_events (drawing.Two a b) = if is 76 b then Some act.ExpectLow else (if is 72 b then Some act.ExpectHigh else None)
act_of_events (drawing.Three a b c) = Some act.Pulse
act_of_events _ = None

-- the act of a whole shape
abbrev pub act_drawn : Drawing → Act
act_drawn d = unwrap_or (act_of_events d) act.Ignore

-- The waveforms that a pattern text may have (IEEE 1450-1999 `Waveforms`, in a subset), in one table.
use Rattle.std.specs.Prelude.{ℕ, Bool, true, false, ◌&&◌, codes, List, [], ◌∷◌, Option, Some, None, if◌then◌else◌}
use Rattle.std.specs.List.{list_any}
use Rattle.dft_base.specs.declared.dir.Dir.{Dir}
use Rattle.dft_base.specs.declared.dir.Dir.TheVariants as dir
use Rattle.dft_patterns.specs.declared.act.Act.{Act}
use Rattle.dft_patterns.specs.declared.act.Act.TheVariants as act
use Rattle.dft_patterns.specs.declared.shapes.Event.{Event}
use Rattle.dft_patterns.specs.declared.shapes.Drawing.{Drawing}
use Rattle.dft_patterns.specs.declared.shapes.Drawing.TheVariants as drawing
use Rattle.dft_patterns.specs.Drawings.{is, before}

-- A waveform: whether an input or an output has it, the letters of its events in order, and what it does. The times of its events rise.
pub record Waveform : Type 0 where
  pub dir : Dir
  pub letters : List ℕ
  pub act : Act

abbrev waveform : Dir → List ℕ → Act → Waveform
waveform d letters a = record { dir = d; letters = letters; act = a }

-- The waveforms that are accepted. An input is set low by D and high by U; an output is not compared from X on, and compared with low by L and with
-- high by H.
abbrev pub accepted : List Waveform
accepted =
    waveform dir.Input (codes "D") act.Low
    ∷ waveform dir.Input (codes "U") act.High
    ∷ waveform dir.Input (codes "DUD") act.Pulse
    ∷ waveform dir.Output (codes "X") act.Ignore
    ∷ waveform dir.Output (codes "L") act.ExpectLow
    ∷ waveform dir.Output (codes "H") act.ExpectHigh
    ∷ waveform dir.Output (codes "XL") act.ExpectLow
    ∷ waveform dir.Output (codes "XH") act.ExpectHigh
    ∷ []

-- ---- events

-- the events of a waveform so far; none is kept where there are more than any waveform has
abbrev pub events : Drawing → List Event
events (drawing.One a) = a ∷ []
events (drawing.Two a b) = a ∷ b ∷ []
events (drawing.Three a b c) = a ∷ b ∷ c ∷ []
events _ = []

-- whether there are events
abbrev pub some : List Event → Bool
some [] = false
some (e ∷ es) = true

-- whether each event is later than the one before it
abbrev pub in_order : List Event → Bool
in_order (a ∷ b ∷ es) = before a b && in_order (b ∷ es)
in_order _ = true

-- whether these letters begin with those of the events
abbrev pub begin : (letters : List ℕ) → List Event → Bool
begin letters [] = true
begin [] (e ∷ es) = false
begin (l ∷ letters) (e ∷ es) = is l e && begin letters es

-- whether these letters are those of the events
abbrev pub are : (letters : List ℕ) → List Event → Bool
are [] [] = true
are [] (e ∷ es) = false
are (l ∷ letters) [] = false
are (l ∷ letters) (e ∷ es) = is l e && are letters es

-- ---- what the table says

abbrev pub same_dir : Dir → Dir → Bool
same_dir dir.Input dir.Input = true
same_dir dir.Output dir.Output = true
same_dir _ _ = false

-- whether a waveform of the table begins with these events, for a signal of this direction
abbrev pub begins_accepted : Dir → List Event → Bool
begins_accepted d es = in_order es && list_any (λ w. same_dir d w.dir && begin w.letters es) accepted

-- what the first of these waveforms does whose events are these
abbrev pub act_among : List Waveform → List Event → Option Act
act_among [] es = None
act_among (w ∷ ws) es = if are w.letters es then Some w.act else act_among ws es

-- The times of a table of waveforms, and whether each pair of them stands in order (IEEE 1450-1999 `Period`).
use Rattle.std.specs.Prelude.{ℕ, Bool, true, false, ◌&&◌, ◌||◌, nat_lt, List, [], ◌∷◌, map, flat_map, Option, Some}
use Rattle.std.specs.List.{list_all}
use Rattle.dft_patterns.specs.declared.act.Act.{Act}
use Rattle.dft_patterns.specs.declared.act.Act.TheVariants.{Low, High, Pulse, ExpectLow, ExpectHigh}
use Rattle.dft_patterns.specs.declared.shapes.Drawing.{Drawing}
use Rattle.dft_patterns.specs.declared.times.Times.{Times}
use Rattle.dft_patterns.specs.Drawings.{act_of_events}
use Rattle.dft_patterns.specs.Times.{no_times, with_times}
use Rattle.dft_waveform_laws.specs.Waveforms.{events}

-- ---- the times of one waveform

-- the times of all events
abbrev pub event_times : Drawing → List ℕ
event_times d = map (λ e. e.time) (events d)

-- the times at which a waveform that does this sets an input: its first
abbrev pub settings_of : Option Act → List ℕ → List ℕ
settings_of (Some Low) (t ∷ ts) = t ∷ []
settings_of (Some High) (t ∷ ts) = t ∷ []
settings_of (Some Pulse) (t ∷ ts) = t ∷ []
settings_of _ _ = []

-- the last of these times
abbrev pub last_time : List ℕ → List ℕ
last_time [] = []
last_time (t ∷ []) = t ∷ []
last_time (t ∷ u ∷ ts) = last_time (u ∷ ts)

-- the times at which it compares an output: its last
abbrev pub strobes_of : Option Act → List ℕ → List ℕ
strobes_of (Some ExpectLow) ts = last_time ts
strobes_of (Some ExpectHigh) ts = last_time ts
strobes_of _ _ = []

-- the times at which its pulse rises, and falls: the second and the third
abbrev pub rises_of : Option Act → List ℕ → List ℕ
rises_of (Some Pulse) (t ∷ u ∷ ts) = u ∷ []
rises_of _ _ = []

abbrev pub falls_of : Option Act → List ℕ → List ℕ
falls_of (Some Pulse) (t ∷ u ∷ v ∷ ts) = v ∷ []
falls_of _ _ = []

abbrev pub setting_times : Drawing → List ℕ
setting_times d = settings_of (act_of_events d) (event_times d)

abbrev pub strobe_times : Drawing → List ℕ
strobe_times d = strobes_of (act_of_events d) (event_times d)

abbrev pub rise_times : Drawing → List ℕ
rise_times d = rises_of (act_of_events d) (event_times d)

abbrev pub fall_times : Drawing → List ℕ
fall_times d = falls_of (act_of_events d) (event_times d)

-- ---- the times of all waveforms of a table

-- each of these times is before each of those
abbrev pub each_before : (List ℕ) → List ℕ → Bool
each_before ts us = list_all (λ t. list_all (λ u. nat_lt t u) us) ts

-- whether there is a time
abbrev pub some_time : List ℕ → Bool
some_time [] = false
some_time (t ∷ ts) = true

-- Each setting before each strobe, each strobe before each rise, each rise before each fall, and each time before the period ends; and where there is
-- no strobe, each setting before each rise.
abbrev pub pairs_fit : (period : ℕ) → List Drawing → Bool
pairs_fit period ds =
    each_before (flat_map setting_times ds) (flat_map strobe_times ds) && each_before (flat_map strobe_times ds) (flat_map rise_times ds) && each_before (flat_map rise_times ds) (flat_map fall_times ds)
    && each_before (flat_map event_times ds) (period ∷ [])
    && (some_time (flat_map strobe_times ds) || each_before (flat_map setting_times ds) (flat_map rise_times ds))

-- the times that a reader keeps of these waveforms, of which it read the first last
abbrev pub times_kept : List Drawing → Times
times_kept [] = no_times
times_kept (d ∷ ds) = with_times d (times_kept ds)

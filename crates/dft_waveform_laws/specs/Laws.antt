-- What is known of waveforms and their times.
use Rattle.std.specs.Prelude.{◌≡◌, ℕ, true, ◌&&◌, List, All, is_some}
use Rattle.dft_base.specs.declared.dir.Dir.{Dir}
use Rattle.dft_patterns.specs.declared.shapes.Drawing.{Drawing}
use Rattle.dft_patterns.specs.Drawings.{begins_shape, act_of_events}
use Rattle.dft_patterns.specs.Times.{times_fit}
use Rattle.dft_waveform_laws.specs.Waveforms.{accepted, events, some, begins_accepted, act_among}
use Rattle.dft_waveform_laws.specs.PairsOfTimes.{pairs_fit, times_kept}

-- a signal can have these events so far exactly where a waveform of the table begins with them
abbrev pub BegunByTable : Type 0
BegunByTable = (dir : Dir) (d : Drawing) → begins_shape dir d ≡ (some (events d) && begins_accepted dir (events d))

-- what such events do is what the table says of them; where no waveform has just these, it would have to go on
abbrev pub ActsByTable : Type 0
ActsByTable = (dir : Dir) (d : Drawing) → begins_shape dir d ≡ true → act_of_events d ≡ act_among accepted (events d)

-- a whole waveform of a signal
pub record IsWhole (d : Drawing) : Type 0 where
  pub dir : Dir
  pub begun : begins_shape dir d ≡ true
  pub whole : is_some (act_of_events d) ≡ true

-- the times of whole waveforms fit a period exactly where they do by pairs
abbrev pub TimesByPairs : Type 0
TimesByPairs = (period : ℕ) (ds : List Drawing) → All (λ d. IsWhole d) ds → times_fit period (times_kept ds) ≡ pairs_fit period ds

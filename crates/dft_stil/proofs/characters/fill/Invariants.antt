use Rattle.std.proofs.Common.{◌≡◌, ◌-◌, drop, length, option_map}
use Rattle.dft_stil_text.specs.Statements as spec
use Rattle.dft_stil.specs.MembersShown.{AreBelow}
use Rattle.dft_stil.specs.CharactersShown.{filling_as}
use Rattle.dft_stil.proofs.characters.fill.Given as goal

abbrev pub invariant-loop-index : goal.invariant-loop-index
invariant-loop-index l = record {
  same : spec.filled_by (option_map (λ s. s.now) l.waveforms) (l.place - l.index) (drop l.index l.characters) (filling_as l.filling) ≡ spec.filled_by (option_map (λ s. s.now) l.waveforms) l.place l.characters (filling_as l.fn.filling);
  ahead : AreBelow (length l.filling.acts) l.filling.ahead.now;
  length : length l.filling.acts ≡ length l.fn.filling.acts;
}

use Rattle.std.proofs.Common.{◌≡◌, ◌-◌}
use Rattle.dft_stil_tokens.specs.Steps.{left}
use Rattle.dft_stil_text.specs.Statements as spec
use Rattle.std.proofs.Common.{option_map, length}
use Rattle.dft_stil.specs.MembersShown.{AreBelow}
use Rattle.dft_stil.specs.CharactersShown.{filling_as}
use Rattle.dft_stil.proofs.characters.runs.Given as goal

-- each turn reads one
abbrev pub invariant-turns : goal.invariant-turns
invariant-turns l = record {
  same : spec.runs_from (left l.fn.tokens) (option_map (λ s. s.now) l.waveforms) (filling_as l.fn.filling) l.fn.tokens ≡ spec.runs_from (l._turn-end - l._turn) (option_map (λ s. s.now) l.waveforms) (filling_as l.filling) l.tokens;
  ahead : AreBelow (length l.filling.acts) l.filling.ahead.now;
  length : length l.filling.acts ≡ length l.fn.filling.acts;
}

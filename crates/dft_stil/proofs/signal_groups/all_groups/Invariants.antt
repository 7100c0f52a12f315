use Rattle.std.proofs.Common.{◌≡◌, ◌-◌}
use Rattle.dft_stil_tokens.specs.Steps.{left}
use Rattle.dft_stil_text.specs.SignalGroups as spec
use Rattle.dft_stil.proofs.signal_groups.all_groups.Given as goal

-- each turn reads one
abbrev pub invariant-turns : goal.invariant-turns
invariant-turns l = spec.group_blocks_from (left l.fn.tokens) l.fn.names l.fn.tokens ≡ spec.group_blocks_from (l._turn-end - l._turn) l.names l.tokens

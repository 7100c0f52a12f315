use Rattle.std.proofs.Common.{◌≡◌, ◌-◌}
use Rattle.dft_stil_tokens.specs.Steps.{left}
use Rattle.dft_stil_text.specs.SignalGroups as spec
use Rattle.std.proofs.Common.{length}
use Rattle.dft_stil.specs.MembersShown.{Sees}
use Rattle.dft_stil.proofs.signal_groups.more_members.Given as goal

-- each turn reads one
abbrev pub invariant-turns : goal.invariant-turns
invariant-turns l = record {
  same : spec.members_from (left l.fn.tokens) l.fn.names l.fn.members l.fn.tokens ≡ spec.members_from (l._turn-end - l._turn) l.names l.members l.tokens;
  sees : Sees l.members l.seen;
  count : length l.seen ≡ length l.names.signals;
}

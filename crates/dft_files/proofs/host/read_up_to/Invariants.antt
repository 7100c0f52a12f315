use Rattle.std.proofs.Common.{◌≤◌, length}
use Rattle.dft_files.specs.Outside.{RoseBy}
use Rattle.dft_files.proofs.host.read_up_to.Given as goal

-- the bytes so far are within the limit, and were all counted
abbrev pub invariant-loop-turn : goal.invariant-loop-turn
invariant-loop-turn g l = record {
  within : length l.bytes.items ≤ l.limit;
  counted : RoseBy (length l.bytes.items) l.fn.taken l.taken;
  grows : l.fn.taken ≤ l.taken;
}

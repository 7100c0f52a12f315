-- The flags of the names so far.
use Rattle.dft_expect.proofs.SettingLemmas.{AreFlagging}
use Rattle.dft_seek.proofs.tables.named.Given as goal

abbrev pub invariant-loop-name : goal.invariant-loop-name
invariant-loop-name l = AreFlagging l.design l.names l.name-index l.flags.items

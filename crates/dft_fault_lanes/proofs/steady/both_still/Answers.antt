-- Both are still.
use Rattle.std.proofs.Common.{[], ◌∷◌}
use Rattle.dft_logic.specs.Circuit.{source_at}
use Rattle.dft_takings.specs.Shows.{still_needs}
use Rattle.dft_takings.specs.ShownTables.{shown_at}
use Rattle.dft_takings.proofs.RiseLemmas.{more_all}
use Rattle.dft_fault_laws.specs.Rounds.{every}
use Rattle.dft_fault_lanes.proofs.steady.both_still.Goals as goal

pub returns : goal.returns
returns c = λ up.
    more_all (still_needs every (shown_at c.args.shown.now) c.args.view.0) (source_at c.args.first.now) (source_at c.args.second.now ∷ []) (c.reads_still.ensures c.if-not-reads_still.false) (c.reads_still-2.ensures up)

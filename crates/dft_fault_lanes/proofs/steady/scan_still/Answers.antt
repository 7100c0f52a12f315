-- The scan enable is still, and what it lets through.
use Rattle.dft_logic.specs.Circuit.{source_at}
use Rattle.dft_takings.specs.Shows.{still_needs}
use Rattle.dft_takings.specs.ShownTables.{shown_at}
use Rattle.dft_takings.proofs.RiseLemmas.{more_all}
use Rattle.dft_fault_laws.specs.Rounds.{every}
use Rattle.dft_fault_lanes.proofs.steady.scan_still.Goals as goal

pub returns : goal.returns
returns c = λ up.
    more_all (still_needs every (shown_at c.args.shown.now) c.args.flop.now.domain.0) (source_at c.args.scan.enable) _ (c.reads_still.ensures c.if-not-reads_still.false)
    ((rw c.enable_value-enable.ensures at c.chosen_still.ensures) up)

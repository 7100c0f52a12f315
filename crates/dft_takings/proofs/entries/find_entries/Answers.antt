-- One flip-flop more has its entry.
use Rattle.std.proofs.Common.{◌∙◌, sym, ap}
use Rattle.dft_logic.specs.Values.{value_at}
use Rattle.dft_takings.specs.Views.{pulse_at}
use Rattle.dft_takings.specs.ShownTables.{shown_at}
use Rattle.dft_takings.specs.EntryTables.{origin_at, entry_for, entry_there}
use Rattle.dft_takings.proofs.EntryTableLemmas.{find_more}
use Rattle.dft_takings.proofs.entries.find_entries.Goals as goal

pub loop-place-preserved : goal.loop-place-preserved
loop-place-preserved c =
    find_more c.args.flops.now c.loop-place.entries c.loop-place.place _ c.in-Some.entry
    (λ cell. entry_for cell (pulse_at c.args.pulse) (origin_at c.args.sights.now.origins.now) (shown_at c.args.sights.now.shown.now) (value_at c.args.values.now))
    c.loop-place-test.true (c.loop-place.auto.entries ∙ c.requires) (sym (ap entry_there c.in-Some.is) ∙ c.entry_given.ensures) c.loop-place.invariant

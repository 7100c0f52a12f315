-- A text has no more drafts than a library may have cells, and their cells are well formed.
use Rattle.std.proofs.Common.{sym}
use Rattle.toml.specs.View.{table_view}
use Rattle.dft_library_text.proofs.FitLemmas.{drafts_few, all_drafts_fit}
use Rattle.dft_library_text.proofs.LibraryLemmas.{library_fits}
use Rattle.dft_library_text.proofs.reader.cells.Goals as goal

pub cells_of-requires-clause-count : goal.cells_of-requires-clause-count
cells_of-requires-clause-count c =
    rw c.deref.ensures.value (drafts_few (table_view c.args.table.now) (table_view c.in-Some.tables.now) c.in_ok-drafts.drafts.items (sym c.in-Some.ensures) c.in_ok-drafts.ensures.ok)

pub returns-clause-well_formed : goal.returns-clause-well_formed
returns-clause-well_formed c =
    let found = table_view c.in-Some.tables.now in
    let drafts = c.in_ok-drafts.drafts.items in
    library_fits drafts c.in_ok-cells.cells.items
    (all_drafts_fit found drafts c.in_ok-drafts.ensures.ok)
    c.in_ok-drafts.ensures.ascend
    (drafts_few (table_view c.args.table.now) found drafts (sym c.in-Some.ensures) c.in_ok-drafts.ensures.ok)
    (rw c.deref.ensures.value at c.in_ok-cells.ensures.ok)
    (rw c.deref-2.ensures.value at c.in_ok-need_kinds.ensures.ok)

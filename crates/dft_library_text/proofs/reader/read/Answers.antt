-- What a table is refused for, the bytes are refused for.
use Rattle.std.proofs.lemmas.Result.{err_from_is_err_and}
use Rattle.toml.specs.View.{table_view}
use Rattle.dft_library_text.proofs.LibraryLemmas.{refused_as}
use Rattle.dft_library_text.proofs.reader.read.Goals as goal

pub returns-in_err-cells-clause-refused : goal.returns-in_err-cells-clause-refused
returns-in_err-cells-clause-refused c =
    let p = err_from_is_err_and c.from_residual-in_err-cells.result c.from_residual-in_err-cells.ensures.1 in
    rw (p.1, p.2)
    (refused_as c.args.bytes.now (table_view c.in_ok-table.table) c.in_err-cells.field-0.0 c.in_ok-table.ensures.table c.in_err-cells.ensures.of_table c.in_err-cells.ensures.refused)

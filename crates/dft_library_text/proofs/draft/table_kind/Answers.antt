-- There is a row for each assignment of bits to the inputs, and they are at most 64.
use Rattle.std.proofs.Common.{length}
use Rattle.dft_library_text.proofs.RowLemmas.{rows_within}
use Rattle.dft_library_text.proofs.draft.table_kind.Goals as goal

pub number_of_rows-requires : goal.number_of_rows-requires
number_of_rows-requires c = rw c.as_bytes.ensures.value (rows_within (length c.args.rows.now) c.args.inputs c.if-rows-inputs.false c.requires)

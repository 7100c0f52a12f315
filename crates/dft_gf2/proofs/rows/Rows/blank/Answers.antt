use Rattle.dft_gf2.proofs.StoredRows.{shown_wide}
use Rattle.dft_gf2.proofs.rows.Rows.blank.Goals as goal

pub returns : goal.returns
returns c = shown_wide c.args.columns c.in_ok-rows.rows.items c.in_ok-rows.ensures

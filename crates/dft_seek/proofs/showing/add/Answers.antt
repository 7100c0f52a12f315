-- The list of the flip-flop has the net too, and past the end there is none.
use Rattle.std.proofs.Common.{[], ◌<◌, ◌∙◌, length, arith}
use Rattle.std.proofs.lemmas.List.{get_or_read}
use Rattle.dft_logic.proofs.TableLemmas.{added_one}
use Rattle.dft_seek.proofs.showing.add.Goals as goal

pub returns-in_ok-push : goal.returns-in_ok-push
returns-in_ok-push c =
    let live : c.args.cell.0 < length c.args.table.now.items = (let e = c.len.ensures ∙ c.args.table.now.ok.0 in let less = c.if-cell-len.true in omega arith) in
    added_one c.args.table.now.items c.args.cell.0 c.args.net c.index_mut.result.now c.push.new.self live (get_or_read c.args.table.now.items c.args.cell.0 c.index_mut.result.now live c.index_mut.ensures.value []) c.in_ok-push.ensures

-- The list at the place has the number too, and past the end there is none.
use Rattle.std.proofs.Common.{[], ◌<◌, ◌∙◌, length, arith}
use Rattle.std.proofs.lemmas.List.{get_or_read}
use Rattle.dft_logic.proofs.TableLemmas.{added_one}
use Rattle.dft_logic.proofs.tables.add.Goals as goal

pub returns-in_ok-push : goal.returns-in_ok-push
returns-in_ok-push c =
    let live : c.args.place.0 < length c.args.table.now.items = (let e = c.len.ensures ∙ c.args.table.now.ok.0 in let less = c.if-place-len.true in omega arith) in
    added_one c.args.table.now.items c.args.place.0 c.args.number c.index_mut.result.now c.push.new.self live (get_or_read c.args.table.now.items c.args.place.0 c.index_mut.result.now live c.index_mut.ensures.value []) c.in_ok-push.ensures.ok

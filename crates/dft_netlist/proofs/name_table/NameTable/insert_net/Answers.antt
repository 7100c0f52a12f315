use Rattle.dft_netlist.proofs.TableLemmas.{names_more}
use Rattle.dft_netlist.proofs.name_table.NameTable.insert_net.Goals as goal

pub returns-clause-nets : goal.returns-clause-nets
returns-clause-nets c =
    let t = c.self.inside in
    rw (c.push_reserved.ensures.items, c.insert_reserved.ensures.added, c.len-place.ensures.count, ← c.self.view_is) (names_more t.names.entries _ t.nets.items c.self.invariant)

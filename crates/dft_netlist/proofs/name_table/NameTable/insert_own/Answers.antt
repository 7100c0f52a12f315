use Rattle.dft_netlist.proofs.TableLemmas.{names_same}
use Rattle.dft_netlist.proofs.name_table.NameTable.insert_own.Goals as goal

pub returns-in-Some-clause-nets : goal.returns-in-Some-clause-nets
returns-in-Some-clause-nets c =
    let t = c.self.inside in
    rw (c.insert_reserved.ensures.added, ← c.self.view_is) (names_same t.names.entries _ t.nets.items c.self.invariant)

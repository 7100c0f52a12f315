-- The scan enables are marked, and what is marked is listed.
use Rattle.std.proofs.Common.{map, subst, sym, arith, ap}
use Rattle.dft_netlist.specs.Orders.{Has}
use Rattle.dft_takings.specs.Entries.{Entry}
use Rattle.dft_logic.specs.Circuit.{Circuit, cell_of, cell_at}
use Rattle.dft_takings.specs.EntryTables.{entry_needs}
use Rattle.dft_cycle.proofs.preparing.list_enables.Goals as goal

pub returns-clause-all : goal.returns-clause-all
returns-clause-all c = λ place k less live has.
    (let marks = (rw (c.deref.ensures.value, ap (λ (m : Circuit). m.flops) c.circuit.view_is) at c.mark_entries.ensures.each) place less in
    let N : Entry → Type 0 = λ e. Has (entry_needs (cell_at (map cell_of c.args.circuit.now.flops) place) e) k in
    c.list_marked.ensures.listed k (marks.all k (omega (arith, c.requires.marked, live)) (subst N (sym (c.requires.keep place)) has)))

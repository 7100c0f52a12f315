-- One signal more.
use Rattle.std.proofs.Common.{◌∙◌, ℕ, List, get_or, sym}
use Rattle.dft_netlist.specs.declared.ids.NetId.{NetId}
use Rattle.dft_replay.proofs.LookLemmas.{listed_none, listed_some}
use Rattle.dft_replay.proofs.VectorLemmas.{number_of}
use Rattle.dft_replay.proofs.comparing.list_compared.Goals as goal
use Rattle.dft_replay.proofs.comparing.list_compared.Goals.{in-Some, in_default}

pub loop-signal-preserved : goal.loop-signal-preserved
loop-signal-preserved c =
    let i : ℕ = c.loop-signal.signal in
    let nets : List NetId = c.args.nets.now in
    let was = c.loop-signal.invariant in
    elim c.match-printed.branch [
      | in-Some w ↦ rw (w.wanted-is, w.asked-is) (record {
        listed = rw (w.push_reserved.ensures.items, w.push_reserved-in-Some.ensures.items)
            (listed_some nets c.args.acts.now i c.loop-signal.wanted.items c.loop-signal.asked.items (get_or nets i (record { 0 = 0 })) w.in-Some.printed c.requires.acts c.loop-signal-test.true (sym c.printed.ensures ∙ w.in-Some.is) (sym (number_of nets i)) was.listed);
        wanted = w.push_reserved.ensures.capacity ∙ was.wanted;
        asked = w.push_reserved-in-Some.ensures.capacity ∙ was.asked;
      })
      | in_default w ↦ rw (w.wanted-is, w.asked-is) (record {
        listed = listed_none nets c.args.acts.now i c.loop-signal.wanted.items c.loop-signal.asked.items c.requires.acts c.loop-signal-test.true (sym c.printed.ensures ∙ w.in_default.is) was.listed;
        wanted = was.wanted;
        asked = was.asked;
      })
    ]

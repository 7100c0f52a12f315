use Rattle.dft_replay.proofs.EdgeExampleLemmas.{across_edges_hold, two_falls_hold, high_lockup_holds, quiet_falls_hold, resets_hold, three_falls_hold}
use Rattle.dft_replay.proofs.examples.worked_edges.Goals as goal

pub returns : goal.returns
returns c = record {
  across_edges = across_edges_hold;
  two_falls = two_falls_hold;
  high_lockup = high_lockup_holds;
  quiet_falls = quiet_falls_hold;
  resets = resets_hold;
  three_falls = three_falls_hold;
}

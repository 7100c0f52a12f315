-- What the search from here finds, the whole search finds; and what is made has the same frame and ring.
use Rattle.std.proofs.Common.{◌≡◌}
use Rattle.dft_configuring.specs.Made.{IsFrame}
use Rattle.dft_configuring.specs.Searching.{first_warm}
use Rattle.dft_configuring.proofs.SearchLemmas.{LeadsOn}
use Rattle.dft_configuring.proofs.searching.search.Given as goal

abbrev pub invariant-loop-warm : goal.invariant-loop-warm
invariant-loop-warm l = record {
  frame : IsFrame l.design l.wanted l.made;
  ring : l.made.ring ≡ l.initial.made.ring;
  leads : LeadsOn l.design l.wanted (first_warm l.initial.made.ring.stages l.wanted.channels) l.warm;
}

use Rattle.dft_netlist_text.specs.NetlistText.{add_nets}
use Rattle.dft_hier.specs.FlatNets.{nets_below}
use Rattle.dft_hier.specs.NetWalks.{IsNetWalk, way_size}
use Rattle.dft_hier.proofs.flat_nets.add_nets_below.Given as goal

abbrev pub invariant-loop-visit : goal.invariant-loop-visit
invariant-loop-visit l = IsNetWalk l.hierarchy.modules.now l.hierarchy.items.now (add_nets (nets_below l.hierarchy.modules.now l.hierarchy.items.now l.top) l.initial.builder) l.walk l.builder

abbrev pub decreases-loop-visit : goal.decreases-loop-visit
decreases-loop-visit l = way_size l.hierarchy.modules.now l.hierarchy.items.now l.walk.way

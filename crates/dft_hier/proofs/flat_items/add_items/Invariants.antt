use Rattle.dft_hier.specs.ItemWalks.{IsItemWalk, adds, item_way_size}
use Rattle.dft_hier.specs.Laid.{parts_at}
use Rattle.dft_hier.proofs.flat_items.add_items.Given as goal

abbrev pub invariant-loop-visit : goal.invariant-loop-visit
invariant-loop-visit l = IsItemWalk l.hierarchy.modules.now l.hierarchy.items.now l.hierarchy.weights.now l.initial.builder.library (adds (parts_at l.hierarchy.modules.now l.top) l.initial.builder) l.walk l.builder

abbrev pub decreases-loop-visit : goal.decreases-loop-visit
decreases-loop-visit l = item_way_size l.hierarchy.modules.now l.hierarchy.items.now l.walk.way

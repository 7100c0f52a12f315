-- The first takes from none, and each other from the one before it.
use Rattle.std.proofs.Common.{ℕ, subst, arith}
use Rattle.dft_logic.specs.Circuit.{cell_of}
use Rattle.dft_fault_lanes.specs.Moves.{TakesFrom}
use Rattle.dft_fault_lanes.proofs.MoveLemmas.{moved_first, moved_next}
use Rattle.dft_fault_lanes.proofs.moves.is_moved.Goals as goal

pub returns-then-index-eq0 : goal.returns-then-index-eq0
returns-then-index-eq0 c = λ up. moved_first c.args.wiring.circuit.now.ops c.args.wiring.clamps.now c.args.wiring.steer (cell_of c.args.flop.now) c.args.register.now c.args.index c.if-index-eq0.true

pub returns : goal.returns
returns c = λ up.
    moved_next c.args.wiring.circuit.now.ops c.args.wiring.clamps.now c.args.wiring.steer (cell_of c.args.flop.now) c.args.register.now c.args.index (let e = c.if-index-eq0.false in omega arith)
    (subst (λ (k : ℕ). TakesFrom c.args.wiring.circuit.now.ops c.args.wiring.clamps.now c.args.wiring.steer (cell_of c.args.flop.now) k) c.cell_in-other.ensures (c.takes_from.ensures up))

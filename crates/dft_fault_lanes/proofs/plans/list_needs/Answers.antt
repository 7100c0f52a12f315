-- What is marked stays so.
use Rattle.std.proofs.Common.{ℕ, length}
use Rattle.dft_netlist.specs.Drivers.{nets_of}
use Rattle.dft_behavior.specs.Settled.{value_from}
use Rattle.dft_takings.specs.Needs.{next_reads}
use Rattle.dft_takings.proofs.ListLemmas.{wider}
use Rattle.dft_fault_lanes.specs.Lanes.{flop_at}
use Rattle.dft_fault_lanes.specs.Moves.{enable_needs}
use Rattle.dft_fault_lanes.specs.Plans.{needs_of}
use Rattle.dft_fault_lanes.proofs.MarkLemmas.{needs_more}
use Rattle.dft_fault_lanes.proofs.plans.list_needs.Goals as goal

pub returns-clause-ordered : goal.returns-clause-ordered
returns-clause-ordered c = c.list_marked.ensures.ordered c.mark_needed.ensures.closed

pub returns-clause-steered : goal.returns-clause-steered
returns-clause-steered c = needs_more (length c.args.circuit.now.ops) c.mark_reading.new.marked c.mark_needed.new.marked c.args.reading.steer.net.0 c.mark_needed.ensures.kept c.mark_reading.ensures.steered

pub returns-clause-enables : goal.returns-clause-enables
returns-clause-enables c =
    let x = c.args.circuit.now in
    let count : ℕ = length x.ops in
    λ cell. wider (needs_of count c.mark_reading.new.marked) (needs_of count c.mark_needed.new.marked) (enable_needs (flop_at x.flops cell))
    (λ k need. needs_more count c.mark_reading.new.marked c.mark_needed.new.marked k c.mark_needed.ensures.kept need) (c.mark_reading.ensures.enables cell)

pub returns-clause-reads : goal.returns-clause-reads
returns-clause-reads c =
    let x = c.args.circuit.now in
    let count : ℕ = length x.ops in
    λ cell stays ports values steers. wider (needs_of count c.mark_reading.new.marked) (needs_of count c.mark_needed.new.marked) (nets_of (next_reads (flop_at x.flops cell) ports (value_from values)))
    (λ k need. needs_more count c.mark_reading.new.marked c.mark_needed.new.marked k c.mark_needed.ensures.kept need) (c.mark_reading.ensures.reads cell stays ports values steers)

pub returns-clause-covered : goal.returns-clause-covered
returns-clause-covered c = λ signal bit is. c.mark_needed.ensures.kept _ (c.mark_reading.ensures.covered signal bit is)

use Rattle.dft_insert.proofs.MadeParts.{inverse_clocks, port_clocks}
use Rattle.dft_insert.proofs.chaining.make_clock.Goals as goal

pub returns-then-high-clause-makes : goal.returns-then-high-clause-makes
returns-then-high-clause-makes c = inverse_clocks c.args.port c.args.high c.args.parts.now c.driving_gate.result c.driving_gate.new.self c.if-high.true c.driving_gate.ensures.makes

pub returns-else-high-clause-makes : goal.returns-else-high-clause-makes
returns-else-high-clause-makes c = port_clocks c.args.port c.args.high c.args.parts.now c.if-high.false

use Rattle.std.proofs.Common.{◌∙◌, sym}
use Rattle.dft_configure.proofs.RangeLemmas.{all_here, all_on}
use Rattle.dft_configuring.specs.Names.{is_port_free}
use Rattle.dft_configuring.proofs.naming.are_ports_free.Goals as goal

pub returns-then-not-free : goal.returns-then-not-free
returns-then-not-free c = all_here (is_port_free c.args.design.now c.args.name.now) c.loop-number.number c.args.count _ c.loop-number-test.true (sym c.in_ok-free.ensures ∙ c.if-not-free.true) c.loop-number.invariant

pub loop-number-preserved : goal.loop-number-preserved
loop-number-preserved c = all_on (is_port_free c.args.design.now c.args.name.now) c.loop-number.number c.args.count _ c.loop-number-test.true (sym c.in_ok-free.ensures ∙ c.if-not-free.false) c.loop-number.invariant

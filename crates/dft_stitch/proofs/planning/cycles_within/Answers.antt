use Rattle.std.proofs.Common.{◌≡◌, ◌∙◌, ap, arith}
use Rattle.dft_config.specs.declared.config.RingConfig.{RingConfig}
use Rattle.dft_config.specs.Cycles.{load_cycles}
use Rattle.dft_stitch.specs.Chains.{cycles_of}
use Rattle.dft_stitch.proofs.PlanLemmas.{fits}
use Rattle.dft_stitch.proofs.planning.cycles_within.Goals as goal

pub returns-clause-cycles : goal.returns-clause-cycles
returns-clause-cycles c = c.load_cycles-cycles.ensures ∙ ap (load_cycles c.args.config.now) (rw c.chains.ensures at c.longest_chain.ensures)

pub returns-clause-fits : goal.returns-clause-fits
returns-clause-fits c =
    let is : c.load_cycles-cycles.result ≡ cycles_of c.args.config.now c.args.cells = c.load_cycles-cycles.ensures ∙ ap (load_cycles c.args.config.now) (rw c.chains.ensures at c.longest_chain.ensures) in
    let channels : c.from.result ≡ c.args.config.now.ring.channels = c.from.ensures ∙ ap (λ (r : RingConfig). r.channels) c.ring.ensures in
    fits c.args.config.now c.args.cells (omega arith) (omega arith) (rw (← is) (rw (← channels) (omega arith)))

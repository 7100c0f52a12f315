use Rattle.std.proofs.Common.{◌∙◌, max, ap}
use Rattle.dft_verilog.proofs.PassingLemmas.{between_is}
use Rattle.dft_verilog.proofs.module_items.between.Goals as goal

pub returns : goal.returns
returns g c = between_is c.args.from c.args.to c.min-first.result c.max-last.result c.args.list.now c.min-first.ensures (c.max-last.ensures ∙ ap (λ n. max n c.min-first.result) c.min.ensures)

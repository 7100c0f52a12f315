use Rattle.std.proofs.Common.{◌+◌, ap}
use Rattle.dft_verilog.proofs.NumberingLemmas.{length-of_port}
use Rattle.dft_verilog.proofs.final_nets.number_port.Goals as goal

pub returns-in-Some-clause-next : goal.returns-in-Some-clause-next
returns-in-Some-clause-next c = ap (λ n. c.args.next + n) (length-of_port c.args.declared c.in-Some.declared c.net_count-count.result c.in-Some.is c.net_count-count.ensures.count)

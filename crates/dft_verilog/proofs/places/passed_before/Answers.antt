use Rattle.dft_verilog.proofs.PassingLemmas.{passed_none}
use Rattle.dft_verilog.proofs.places.passed_before.Goals as goal

pub returns-then-bytes-passed-clause-passed : goal.returns-then-bytes-passed-clause-passed
returns-then-bytes-passed-clause-passed c = passed_none c.args.text.now c.unpassed.result c.unpassed.ensures.bytes c.unpassed.ensures.place

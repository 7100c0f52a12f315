use Rattle.std.proofs.Common.{sym, arith}
use Rattle.dft_stil_out.proofs.LengthLemmas.{length-set_up, length-unload, length-pattern}
use Rattle.dft_stil_out.proofs.parts.note_length.Goals as goal

pub returns-in-SetUp : goal.returns-in-SetUp
returns-in-SetUp c = record { length = sym (length-set_up c.args.note c.in-SetUp.is); short = omega arith }

pub returns-in-Unload : goal.returns-in-Unload
returns-in-Unload c = record { length = sym (length-unload c.args.note c.in-Unload.is); short = omega arith }

pub returns-in-Pattern-clause-length : goal.returns-in-Pattern-clause-length
returns-in-Pattern-clause-length c = sym (length-pattern c.args.note c.in-Pattern.number c.format.result.now c.in-Pattern.is c.format.ensures.text)

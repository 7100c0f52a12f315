use Rattle.dft_insert.proofs.PinLemmas.{scanned_here, not_here}
use Rattle.dft_insert.proofs.framing.is_scanned.Goals as goal

pub returns-in-Some : goal.returns-in-Some
returns-in-Some c = λ n config range planned. scanned_here n config c.args.chains.now c.args.number c.in-Some.field-0.chain c.in-Some.field-0.place range planned c.in-Some.ensures.stands

pub returns-in-None : goal.returns-in-None
returns-in-None c = λ n config range planned. not_here n config c.args.chains.now c.args.number range planned c.in-None.ensures.nowhere

use Rattle.dft_hier.proofs.FlattenSteps.{finished_flat, unfinished_told}
use Rattle.dft_hier.proofs.flattening.finished.Goals as goal

pub returns-in-Ok-clause-flat : goal.returns-in-Ok-clause-flat
returns-in-Ok-clause-flat c = λ ms library flat. finished_flat ms library c.args.builder c.in-Ok.design flat c.in-Ok.ensures.ok

pub returns-in-Err-clause-refused : goal.returns-in-Err-clause-refused
returns-in-Err-clause-refused c = λ ms library flat. rw c.told.ensures (unfinished_told ms library c.args.builder c.in-Err.error flat c.in-Err.ensures.refused)

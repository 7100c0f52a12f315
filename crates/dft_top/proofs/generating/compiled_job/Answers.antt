use Rattle.std.proofs.Common.{◌∙◌, rules}
use Rattle.dft_top.proofs.Following.{short_follows}
use Rattle.dft_top.proofs.JobLemmas.{texts_same}
use Rattle.dft_top.proofs.generating.compiled_job.Goals as goal

pub returns-in_err-job : goal.returns-in_err-job
returns-in_err-job c = short_follows _ _ _ (search rules)

pub returns : goal.returns
returns c =
    let job = c.in_ok-job.ensures in
    texts_same _ _ _ _ _ _ _ (c.as_slice.ensures.value ∙ job.netlist) (c.as_slice-2.ensures.value ∙ job.configuration) (c.as_slice-3.ensures.value ∙ job.cubes) c.compiled.ensures

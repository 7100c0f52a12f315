-- The faults are those for which cubes are sought.
use Rattle.std.proofs.Common.{◌∙◌}
use Rattle.dft_seeking.proofs.EndLemmas.{end_done, end_refused}
use Rattle.dft_seeking.proofs.SearchLemmas.{each_is, few_faults}
use Rattle.dft_seeking.proofs.seeking.seek.Goals as goal

pub search_all-requires-clause-few : goal.search_all-requires-clause-few
search_all-requires-clause-few c =
    few_faults c.design-design.result.now c.config-config.result.now c.deref.result.now c.soundness.ensures.netlist.few_nets (c.deref.ensures.value ∙ c.in_ok-faults.ensures)

pub search_all-requires-clause-faults : goal.search_all-requires-clause-faults
search_all-requires-clause-faults c = each_is c.design-design.result.now c.config-config.result.now c.deref.result.now (c.deref.ensures.value ∙ c.in_ok-faults.ensures)

pub returns-clause-done : goal.returns-clause-done
returns-clause-done c =
    end_done c.args.planned.now.design c.args.planned.now.config c.args.domain c.args.limit c.deref.result.now c.in_ok-gathered.gathered c.ended.result
    (rw (c.design-design.ensures, c.config-config.ensures) at (c.deref.ensures.value ∙ c.in_ok-faults.ensures))
    (rw (c.design-design.ensures, c.config-config.ensures, c.in_ok-seeker.ensures) at c.in_ok-gathered.ensures)
    c.ended.ensures.done

pub returns-clause-refused : goal.returns-clause-refused
returns-clause-refused c =
    end_refused c.args.planned.now.design c.args.planned.now.config c.args.domain c.args.limit c.deref.result.now c.in_ok-gathered.gathered c.ended.result
    (rw (c.design-design.ensures, c.config-config.ensures) at (c.deref.ensures.value ∙ c.in_ok-faults.ensures))
    (rw (c.design-design.ensures, c.config-config.ensures, c.in_ok-seeker.ensures) at c.in_ok-gathered.ensures)
    c.ended.ensures.refused

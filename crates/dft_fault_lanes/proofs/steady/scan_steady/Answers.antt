-- D is still or its scan enable is 1, and SI is still or it is 0.
use Rattle.std.proofs.Common.{◌∙◌, inl, inr, sym}
use Rattle.std.proofs.lemmas.Bool.{cases_Bool}
use Rattle.dft_evaluator.proofs.WideLemmas.{value_is, wide_is, wide_nots}
use Rattle.dft_fault_lanes.proofs.SteadyLemmas.{not_one}
use Rattle.dft_fault_lanes.proofs.steady.scan_steady.Goals as goal

pub where_one-taken-requires-clause-wide : goal.where_one-taken-requires-clause-wide
where_one-taken-requires-clause-wide c = wide_is c.operand-enable.result _ c.operand-enable.ensures

pub where_one-requires-clause-wide : goal.where_one-requires-clause-wide
where_one-requires-clause-wide c = wide_is c.wide_not.result _ (wide_nots c.wide_not.result c.operand-enable.result _ c.operand-enable.ensures c.wide_not.ensures)

pub returns-else-data-clause-data : goal.returns-else-data-clause-data
returns-else-data-clause-data c = λ lane within h.
    let second = c.where_one.ensures.live lane within h in
    let first = c.where_one-taken.ensures.live lane within second.0 in
    elim (cases_Bool c.reads_still-data.result) [
      | inl still ↦ inl (c.reads_still-data.ensures still)
      | inr moves ↦ inr (sym (value_is c.operand-enable.result _ c.operand-enable.ensures lane within) ∙ first.1 moves)
    ]

pub returns-else-data-clause-scan : goal.returns-else-data-clause-scan
returns-else-data-clause-scan c = λ lane within h.
    let second = c.where_one.ensures.live lane within h in
    elim (cases_Bool c.reads_still-input.result) [
      | inl still ↦ inl (c.reads_still-input.ensures still)
      | inr moves ↦ inr (not_one _ (sym (value_is c.wide_not.result _ (wide_nots c.wide_not.result c.operand-enable.result _ c.operand-enable.ensures c.wide_not.ensures) lane within) ∙ second.1 moves))
    ]

-- What a compilation writes certifies.
use Rattle.std.proofs.Common.{◌≡◌, length, map, None, refl, ap, subst, ◌∙◌}
use Rattle.dft_equations.specs.LoadRows.{LoadRows}
use Rattle.dft_report_reader.specs.Reading.{report_of}
use Rattle.dft_stitch.specs.Chains.{plan_of}
use Rattle.dft_stitch.specs.Plans.{falling_head}
use Rattle.dft_encode.proofs.OneLemmas.{equations_one}
use Rattle.dft_compile.specs.Reports.{compile_report}
use Rattle.dft_load_laws.specs.Loading.{rows_of}
use Rattle.dft_certify.specs.Certifying.{certify_refusal}
use Rattle.dft_certify_laws.specs.Compiled.{CompiledCertifies}
use Rattle.dft_certify_laws.specs.Read.{CompiledReportIsRead}
use Rattle.dft_certify_laws.proofs.Writing.{written_certifies}

pub compiled_certifies : CompiledCertifies
compiled_certifies n config cubes placing ready given =
    written_certifies n config placing.rows config.window cubes placing.placed placing.merged (compile_report n config (rows_of n config placing.rows) cubes placing.placed) ready.netlist ready.range placing.equations given placing.is refl

pub compiled_report_is_read : CompiledReportIsRead
compiled_report_is_read n config cubes t rows is ready given are =
    let p = is.placing in
    let report = compile_report n config (rows_of n config p.rows) cubes p.placed in
    let same = equations_one config.ring (map (λ cells. length cells) (plan_of n config).chains) (falling_head (plan_of n config)) (plan_of n config).cycles p.rows rows p.equations are in (
      report,
      ap report_of is.texts.report ∙ is.told,
      subst (λ (r : LoadRows). certify_refusal n config.ring (rows_of n config r) r.columns cubes report ≡ None) same (compiled_certifies n config cubes p ready given),
    )

use Rattle.std.proofs.Common.{◌≡◌, ◌≤◌, ◌<◌, ◌^◌, ◌∙◌, List, Option, ap, length, subst, sym}
use Rattle.std.specs.List.{All}
use Rattle.std.proofs.lemmas.Result.{err_from_is_err_and}
use Rattle.dft_cells.specs.declared.cell.Cell.{Cell}
use Rattle.dft_netlist.specs.Netlist.{Netlist}
use Rattle.dft_netlist.specs.declared.ids.InstanceId.{InstanceId}
use Rattle.dft_rules.specs.declared.judged.Judged.{Judged}
use Rattle.dft_rules.specs.Rules.{judgements}
use Rattle.dft_stitch.specs.Chains.{plan_of}
use Rattle.dft_stitch.specs.Plans.{Plan}
use Rattle.dft_insert.specs.declared.style.Style.TheVariants.{Plain}
use Rattle.dft_scan_frame.specs.Refusals as frame
use Rattle.dft_insert.specs.Refusals as insert
use Rattle.dft_insert.specs.Scanned.{framed, parts_of, scanned_netlist}
use Rattle.dft_insert.specs.Statements.{scanned}
use Rattle.dft_netlist_text.specs.NetlistText.{StandsFor}
use Rattle.dft_parts.proofs.Growing.{parts_grow}
use Rattle.dft_report.specs.declared.limits.TheConstants.{MAX_BYTES}
use Rattle.dft_report.specs.declared.report.Report.{Report}
use Rattle.dft_report.specs.Refusals.{IsTooLong}
use Rattle.dft_report.specs.Written.{written}
use Rattle.dft_verilog_out.specs.Named.{GatesAreJoined}
use Rattle.dft_verilog_out.specs.Written as netlist
use Rattle.dft_scan.specs.Refusals.{refusal}
use Rattle.dft_scan.specs.Scans.{counts_with}
use Rattle.dft_scan.proofs.ShapeLemmas.{few_chains, few_lockups, judgement_count, short_chains}
use Rattle.dft_scan.proofs.JoinedLemmas.{scanned_joined}
use Rattle.dft_scan_frame.proofs.ReadyLemmas.{ready_of}
use Rattle.dft_scan.proofs.RefusalLemmas.{err_refused, passed, refused_by_insert, refused_by_planning, refused_by_report, report_is}
use Rattle.dft_scan.proofs.scanning.scan.Goals as goal

pub returns-in_err-planned-clause-refused : goal.returns-in_err-planned-clause-refused
returns-in_err-planned-clause-refused c =
    let n = c.args.design.now in
    let config = c.args.config.now in
    let error = c.in_err-planned.field-0.0 in
    let p = err_from_is_err_and c.from_residual.result c.from_residual.ensures.1 in
    err_refused (refusal n config) c.from_residual.result p.0 _ p.1 p.2 (refused_by_planning n config error c.in_err-planned.ensures.refused)

pub returns-in_err-scanned-clause-refused : goal.returns-in_err-scanned-clause-refused
returns-in_err-scanned-clause-refused c =
    let n = c.args.design.now in
    let config = c.args.config.now in
    let error = c.in_err-scanned.field-0.0 in
    let p = err_from_is_err_and c.from_residual-in_err-scanned.result c.from_residual-in_err-scanned.ensures.1 in
    let known = rw c.in_ok-planned.ensures.planned at c.soundness-2.ensures in
    let planned = rw c.in_ok-planned.ensures.planned at c.chains-chains.ensures in
    let P : Plan → Type 0 = λ q. frame.IsRefusal (insert.refusal Plain n config q) error in
    err_refused (refusal n config) c.from_residual-in_err-scanned.result p.0 _ p.1 p.2
    (refused_by_insert n config error known.passed known.fits (subst P planned c.in_err-scanned.ensures.refused))

pub returns-in_err-report-clause-refused : goal.returns-in_err-report-clause-refused
returns-in_err-report-clause-refused c =
    let p = err_from_is_err_and c.from_residual-in_err-report.result c.from_residual-in_err-report.ensures.1 in
    err_refused (refusal c.args.design.now c.args.config.now) c.from_residual-in_err-report.result p.0 _ p.1 p.2 _

pub insert-requires-clause-passed : goal.insert-requires-clause-passed
insert-requires-clause-passed c = rw c.in_ok-planned.ensures.planned at c.soundness-2.ensures.passed

pub insert-requires-clause-planned : goal.insert-requires-clause-planned
insert-requires-clause-planned c = rw c.in_ok-planned.ensures.planned at c.chains-chains.ensures

pub counts_of-counts-requires-clause-instances : goal.counts_of-counts-requires-clause-instances
counts_of-counts-requires-clause-instances c =
    let judged = rw c.in_ok-planned.ensures.planned at c.verdicts-verdicts.ensures in
    ap length judged ∙ judgement_count c.args.design.now c.args.config.now ∙ sym (ap length c.instances.ensures.instances)

pub counts_of-counts-requires-clause-few : goal.counts_of-counts-requires-clause-few
counts_of-counts-requires-clause-few c =
    let n = c.args.design.now in
    let config = c.args.config.now in
    let known = rw c.in_ok-planned.ensures.planned at c.soundness-2.ensures in
    let planned = rw c.in_ok-planned.ensures.planned at c.chains-chains.ensures in
    let P : Plan → Type 0 = λ p. length p.lockups < 2 ^ 32 in
    subst P (sym planned) (few_lockups (judgements n config) (plan_of n config).chains (few_chains n config known.range) (short_chains n config known.fits))

pub report_of-requires-clause-short : goal.report_of-requires-clause-short
report_of-requires-clause-short c =
    let fits = rw c.in_ok-planned.ensures.planned at c.soundness-2.ensures.fits in
    let planned = rw c.in_ok-planned.ensures.planned at c.chains-chains.ensures in
    let P : Plan → Type 0 = λ p. All (λ (cells : List InstanceId). length cells ≤ 65536) p.chains in
    subst P (sym planned) (short_chains c.args.design.now c.args.config.now fits)

pub returns-in_err-report-2-clause-refused : goal.returns-in_err-report-2-clause-refused
returns-in_err-report-2-clause-refused c =
    let n = c.args.design.now in
    let config = c.args.config.now in
    let error = c.in_err-report-2.field-0.0 in
    let p = err_from_is_err_and c.from_residual-in_err-report-2.result c.from_residual-in_err-report-2.ensures.1 in
    let known = rw c.in_ok-planned.ensures.planned at c.soundness-2.ensures in
    let judged = rw c.in_ok-planned.ensures.planned at c.verdicts-verdicts.ensures in
    let planned = rw c.in_ok-planned.ensures.planned at c.chains-chains.ensures in
    let is = report_is n config c.verdicts-verdicts.result.now c.chains-chains.result.now c.in_ok-report.report judged planned c.in_ok-report.ensures in
    let P : Report → Type 0 = λ r. IsTooLong (written r) error in
    let inserted = ap (insert.refusal Plain n config) (sym planned) ∙ c.in_ok-scanned.ensures.accepted in
    err_refused (refusal n config) c.from_residual-in_err-report-2.result p.0 _ p.1 p.2
    (refused_by_report n config error known.passed known.fits inserted (subst P is c.in_err-report-2.ensures.refused))

pub write-requires-2 : goal.write-requires-2
write-requires-2 c =
    let n = c.args.design.now in
    let config = c.args.config.now in
    let range = rw c.in_ok-planned.ensures.planned at c.soundness-2.ensures.range in
    let planned = rw c.in_ok-planned.ensures.planned at c.chains-chains.ensures in
    let is = c.in_ok-scanned.ensures.design ∙ ap (scanned_netlist Plain n config) planned in
    subst GatesAreJoined (sym is) (scanned_joined Plain n config range c.requires.joined)

pub returns-in_err-netlist-clause-refused : goal.returns-in_err-netlist-clause-refused
returns-in_err-netlist-clause-refused c =
    let p = err_from_is_err_and c.from_residual-in_err-netlist.result c.from_residual-in_err-netlist.ensures.1 in
    err_refused (refusal c.args.design.now c.args.config.now) c.from_residual-in_err-netlist.result p.0 _ p.1 p.2 _

pub returns-clause-ready : goal.returns-clause-ready
returns-clause-ready c =
    let known = rw c.in_ok-planned.ensures.planned at c.soundness-2.ensures in
    let sound = c.soundness.ensures in
    ready_of c.args.design.now c.args.config.now sound.netlist sound.library sound.single sound.ordered known.range known.passed

pub returns-clause-scan : goal.returns-clause-scan
returns-clause-scan c =
    let n = c.args.design.now in
    let config = c.args.config.now in
    let judged = rw c.in_ok-planned.ensures.planned at c.verdicts-verdicts.ensures in
    let planned = rw c.in_ok-planned.ensures.planned at c.chains-chains.ensures in
    record {
      netlist = c.in_ok-netlist.ensures.form ∙ ap netlist.written (c.in_ok-scanned.ensures.design ∙ ap (scanned_netlist Plain n config) planned);
      report = c.in_ok-report-2.ensures.form ∙ ap written (report_is n config c.verdicts-verdicts.result.now c.chains-chains.result.now c.in_ok-report.report judged planned c.in_ok-report.ensures);
      counts = c.counts_of-counts.ensures ∙ ap (λ (vs : List (Option Judged)). counts_with vs c.chains-chains.result.now) judged ∙ ap (counts_with (judgements n config)) planned;
    }

pub returns-clause-accepted : goal.returns-clause-accepted
returns-clause-accepted c =
    let n = c.args.design.now in
    let config = c.args.config.now in
    let known = rw c.in_ok-planned.ensures.planned at c.soundness-2.ensures in
    let judged = rw c.in_ok-planned.ensures.planned at c.verdicts-verdicts.ensures in
    let planned = rw c.in_ok-planned.ensures.planned at c.chains-chains.ensures in
    let is = report_is n config c.verdicts-verdicts.result.now c.chains-chains.result.now c.in_ok-report.report judged planned c.in_ok-report.ensures in
    let P : Report → Type 0 = λ r. length (written r) ≤ MAX_BYTES in
    let inserted = ap (insert.refusal Plain n config) (sym planned) ∙ c.in_ok-scanned.ensures.accepted in
    passed n config known.passed known.fits inserted (subst P is c.in_ok-report-2.ensures.fits)

pub returns-clause-reads : goal.returns-clause-reads
returns-clause-reads c =
    let n = c.args.design.now in
    let config = c.args.config.now in
    let text = c.in_ok-netlist.netlist.items in
    let planned = rw c.in_ok-planned.ensures.planned at c.chains-chains.ensures in
    let is = c.in_ok-scanned.ensures.design ∙ ap (scanned_netlist Plain n config) planned in
    subst (λ (library : List Cell). StandsFor library text (scanned Plain n config)) (parts_grow (framed Plain n config) (parts_of Plain n config (plan_of n config))).library
    (subst (λ (w : Netlist). StandsFor w.library text w) is c.in_ok-netlist.ensures.reads)

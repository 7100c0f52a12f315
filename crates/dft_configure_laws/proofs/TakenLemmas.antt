-- A made configuration is taken.
use Rattle.std.proofs.Common.{[], ◌∷◌, Option, option_map, ◌∙◌, ap}
use Rattle.dft_rules.specs.declared.error.RuleError.{RuleError}
use Rattle.dft_stitch.specs.declared.error.StitchError.{StitchError}
use Rattle.dft_stitch.specs.Chains.{plan_of}
use Rattle.dft_stitch.specs.Limits as limits
use Rattle.dft_scan_frame.specs.declared.error.InsertError.{InsertError}
use Rattle.dft_insert.specs.declared.style.Style.TheVariants.{Edt, Plain}
use Rattle.dft_insert.specs.Refusals as insert
use Rattle.dft_scan.specs.declared.error.ScanError.TheVariants as of_scan
use Rattle.dft_scan.specs.Refusals as scan
use Rattle.dft_scan.specs.Scans.{report_text}
use Rattle.dft_compile.specs.declared.error.CompileError.TheVariants.{Rules, Stitch, Insert}
use Rattle.dft_compile.specs.Refusals.{first_failing}
use Rattle.dft_config_out_laws.proofs.TextRead.{config_one, memory_alone}
use Rattle.dft_configure_laws.specs.Taken.{CompilesPass, ScansPass, TextsAreTaken}

pub texts_taken : TextsAreTaken
texts_taken n wanted configured is = record {
  read = is.read;
  alone = λ other gives. config_one configured.text.items other configured.config gives is.read;
  refused = λ error refused. memory_alone configured.text.items configured.config error is.read refused;
}

pub compiles_pass : CompilesPass
compiles_pass n wanted configured is =
    let config = configured.config in
    let passes = is.passes in
    ap (λ (o : Option RuleError). first_failing (option_map Rules o ∷ option_map Stitch (limits.refusal n config) ∷ option_map Insert (insert.refusal Edt n config (plan_of n config)) ∷ [])) passes.scanned
    ∙ ap (λ (o : Option StitchError). first_failing (option_map Stitch o ∷ option_map Insert (insert.refusal Edt n config (plan_of n config)) ∷ [])) passes.planned
    ∙ ap (λ (o : Option InsertError). first_failing (option_map Insert o ∷ [])) passes.inserted

pub scans_pass : ScansPass
scans_pass n wanted configured is =
    let config = configured.config in
    let passes = is.passes in
    let last = option_map of_scan.Insert (insert.refusal Plain n config (plan_of n config)) ∷ option_map of_scan.Report (scan.too_long (report_text n config)) ∷ [] in
    ap (λ (o : Option RuleError). scan.first_failing (option_map of_scan.Rules o ∷ option_map of_scan.Stitch (limits.refusal n config) ∷ last)) passes.scanned
    ∙ ap (λ (o : Option StitchError). scan.first_failing (option_map of_scan.Stitch o ∷ last)) passes.planned

-- The texts, where no check refuses them.
use Rattle.std.proofs.Common.{◌≡◌, ◌≤◌, length, refl, subst, sym}
use Rattle.dft_merge.specs.LoadPlan.{LoadPlan}
use Rattle.dft_insert.specs.declared.style.Style.TheVariants.{Edt}
use Rattle.dft_insert.specs.Statements.{scanned}
use Rattle.dft_stil_tokens.specs.declared.blanks.TheConstants.{MAX_TEXT}
use Rattle.dft_compile.specs.Compilation.{IsPatternText}
use Rattle.dft_compile.specs.Refusals.{pattern_bytes}
use Rattle.dft_compile.proofs.WorkLemmas.{are_texts}
use Rattle.dft_compile.proofs.work.Work.texts.Goals as goal

pub pattern_text-requires-clause-scanned : goal.pattern_text-requires-clause-scanned
pattern_text-requires-clause-scanned c =
    let w = c.args.self.now in
    subst (λ (l : LoadPlan). w.scanned.now ≡ scanned Edt l.design l.config) (sym c.requires.merger) c.requires.scanned

pub pattern_text-requires-clause-short : goal.pattern_text-requires-clause-short
pattern_text-requires-clause-short c =
    let w = c.args.self.now in
    subst (λ (l : LoadPlan). pattern_bytes l.design l.config w.merger.now.patterns ≤ MAX_TEXT) (sym c.requires.merger) c.in_ok-check_patterns.ensures.accepted

pub returns-clause-texts : goal.returns-clause-texts
returns-clause-texts c =
    let w = c.args.self.now in
    let l = w.loads.now in
    let list = subst (λ (k : LoadPlan). IsPatternText k.design k.config k.rows w.merger.now.patterns c.in_ok-patterns.patterns) c.requires.merger c.in_ok-patterns.ensures.text in
    are_texts l.design l.config w.cubes.now l.rows w.placed.now w.merger.now.patterns _ c.in_ok-patterns.patterns c.soundness.ensures.fits c.requires.few c.in_ok-check_patterns.ensures.accepted c.in_ok-report.ensures.accepted list c.in_ok-netlist.ensures.text refl c.in_ok-report.ensures.text
    c.counts.ensures

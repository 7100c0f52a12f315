-- As many equations are kept as rows.
use Rattle.std.proofs.Common.{length, ap, sym, ◌∙◌}
use Rattle.dft_gf2.proofs.Restorations.{length_kept}
use Rattle.dft_gf2.proofs.system.System.mark.Goals as goal

pub returns : goal.returns
returns c = c.at.ensures ∙ sym (length_kept c.self.inside.columns c.self.inside.rows c.self.inside.kept) ∙ ap (λ s. length s.kept) c.self.view_is

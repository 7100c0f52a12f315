-- The first rows began from the first equations.
use Rattle.std.proofs.Common.{None, take, ◌≡◌, ◌≤◌, length, arith, ap, ◌∙◌}
use Rattle.dft_gf2.specs.Rows.{kept_to}
use Rattle.dft_gf2.proofs.Restorations.{length_kept}
use Rattle.dft_gf2.proofs.Outcomes.{kept_take}
use Rattle.dft_gf2.proofs.system.System.back_to.Goals as goal

pub free-requires-clause-order : goal.free-requires-clause-order
free-requires-clause-order c =
    let size = length_kept c.self.inside.columns c.self.inside.rows c.self.inside.kept in
    let shown : length (kept_to c.self.inside.columns c.self.inside.rows c.self.inside.kept) ≡ length c.args.self.now.kept = ap (λ s. length s.kept) c.self.view_is in
    omega (arith, c.number-first.ensures, c.requires)

pub returns : goal.returns
returns c =
    let size = length_kept c.self.inside.columns c.self.inside.rows c.self.inside.kept in
    let shown : length (kept_to c.self.inside.columns c.self.inside.rows c.self.inside.kept) ≡ length c.args.self.now.kept = ap (λ s. length s.kept) c.self.view_is in
    let fits : c.args.mark ≤ c.self.inside.kept = omega (arith, c.requires) in
    let first : c.number-first.result ≡ c.args.mark = c.number-first.ensures in
    let kept : kept_to c.self.inside.columns c.self.inside.rows c.number-first.result ≡ take c.args.mark c.args.self.now.kept =
    ap (kept_to c.self.inside.columns c.self.inside.rows) first ∙ kept_take _ _ c.self.inside.kept c.args.mark fits ∙ ap (λ s. take c.args.mark s.kept) c.self.view_is in
    (λ t. record { columns = c.self.inside.columns; kept = kept t; refused = None }) ∙ ap (λ s. record { columns = s.columns; kept = take c.args.mark c.args.self.now.kept; refused = None }) c.self.view_is

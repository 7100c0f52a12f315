use Rattle.std.proofs.Common.{◌∙◌, ◌++◌, refl, subst}
use Rattle.dft_base.specs.Lexing.{Text}
use Rattle.dft_report.specs.declared.limits.TheConstants.{MAX_BYTES}
use Rattle.dft_seeking.specs.Gathers.{IsKept}
use Rattle.dft_seeking.specs.Told.{Told}
use Rattle.dft_seeking.proofs.GatherLemmas.{gathered_more}
use Rattle.dft_seeking.proofs.gathering.gather.Goals as goal

pub returns : goal.returns
returns c =
    let t : Told = record { fault = c.args.fault; found = c.args.found.now } in
    gathered_more c.args.design.now c.args.config.now t c.args.gathered.now (record { cubes = c.add_found.new.kept; lines = c.add.new.kept; counts = c.count.new.counts }) c.in_ok-add_found.ensures
    (λ text kept. subst (λ (x : Text). IsKept MAX_BYTES (text ++ x) c.add.new.kept) (c.deref.ensures.value ∙ c.in_ok-line.ensures) (c.in_ok-add.ensures text kept)) (λ told was. c.count.ensures told t refl was)

-- One net more.
use Rattle.std.proofs.Common.{◌∙◌, ap, arith}
use Rattle.std.specs.Prelude.{None}
use Rattle.std.proofs.lemmas.List.{get_or_default}
use Rattle.dft_expect.specs.declared.settings.Setting.{Setting}
use Rattle.dft_expect.specs.declared.settings.Setting.TheVariants.{Unknown}
use Rattle.dft_expect.specs.Settings.{value_by}
use Rattle.dft_expect.proofs.SourceLemmas.{nets_more, same_more}
use Rattle.dft_expect.proofs.sources.set_all.Goals as goal

pub overflow_cast-net : goal.overflow_cast-net
overflow_cast-net c = omega (arith, c.loop-net-test.true, c.requires.small)

pub loop-net-preserved : goal.loop-net-preserved
loop-net-preserved c =
    let before = c.loop-net.invariant in
    record {
      same = same_more c.args.evaluator.now c.loop-net.evaluator c.set_source_wide.new.self before.same (record { meanings = c.set_source_wide.ensures.meanings; nets = c.set_source_wide.ensures.nets });
      set = nets_more c.args.settings.now c.args.patterns.now c.loop-net.net c.loop-net.evaluator c.set_source_wide.new.self c.setting_wide-wide.result before.set c.set_source_wide.ensures (λ p pattern at.
          c.setting_wide-wide.ensures.each p pattern at ∙ ap (λ (s : Setting). value_by s None pattern.loaded.now) (get_or_default c.args.settings.now c.loop-net.net _ Unknown c.loop-net-test.true));
    }

use Rattle.std.proofs.Common.{◌<◌, ◌≤◌, ◌∙◌, ℕ, true, length, get_or, refl, arith}
use Rattle.std.proofs.lemmas.List.{length-set, drop_all}
use Rattle.dft_stil.proofs.FlagLemmas.{flag_more, flag_all}
use Rattle.dft_stil.proofs.vector.flag.Goals as goal

pub loop-signal-preserved : goal.loop-signal-preserved
loop-signal-preserved c =
    let signals = c.args.signals.now in
    let told = c.loop-signal.told in
    let at : ℕ = c.loop-signal.signal-index in
    let less : at < length signals = c.loop-signal-test.true in
    let below : get_or signals at 0 < length c.args.told.now = c.requires at 0 less in
    record {
      same = flag_more told signals at (get_or signals at 0) 0 _ less refl (omega (arith, below, c.loop-signal.invariant.length)) c.loop-signal.invariant.same;
      length = length-set told (get_or signals at 0) true ∙ c.loop-signal.invariant.length;
    }

pub returns-clause-told : goal.returns-clause-told
returns-clause-told c =
    let signals = c.args.signals.now in
    let at : ℕ = c.loop-signal.signal-index in
    let far : length signals ≤ at = omega (arith, c.loop-signal-test.false) in
    flag_all c.loop-signal.told signals at _ (drop_all at signals far) c.loop-signal.invariant.same

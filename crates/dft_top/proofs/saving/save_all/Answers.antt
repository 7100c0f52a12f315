use Rattle.std.proofs.Common.{◌≡◌, ◌+◌, Err, drop, map, rules}
use Rattle.dft_files.specs.declared.outside.SaveError.TheVariants.{Failed}
use Rattle.dft_top.specs.Named.{saving_of}
use Rattle.dft_top.proofs.SavesInTurn.{next_fails, next_left, one_less}
use Rattle.dft_top.proofs.saving.save_all.Goals as goal

pub returns-in_err-save_one-clause-failed : goal.returns-in_err-save_one-clause-failed
returns-in_err-save_one-clause-failed g c = λ is.
    let xs = c.args.savings.now in
    let k = c.loop-saving.saving-index in
    let save = c.save_one.ensures in
    let failed : c.save_one.result ≡ Err Failed = search rules in
    next_fails (map saving_of xs) (map saving_of (drop (k + 1) xs)) _ _ _ _ _ _ _ _ _ _ c.requires
    (next_left saving_of (map saving_of xs) xs k _ _ _ _ _ _ _ c.loop-saving-test.true c.loop-saving.invariant)
    save.others (save.part failed) (save.failed failed) (save.fault failed)

pub loop-saving-preserved : goal.loop-saving-preserved
loop-saving-preserved g c =
    let xs = c.args.savings.now in
    let k = c.loop-saving.saving-index in
    let save = c.save_one.ensures in
    one_less (map saving_of xs) (map saving_of (drop (k + 1) xs)) _ _ _ _ _ _ _ _ _ _ c.requires
    (next_left saving_of (map saving_of xs) xs k _ _ _ _ _ _ _ c.loop-saving-test.true c.loop-saving.invariant)
    (record { whole = c.in_ok-save_one.ensures.saved; others = save.others; more = save.more; enough = search rules })

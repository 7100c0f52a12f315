use Rattle.std.proofs.Common.{◌≡◌, ◌<◌, ◌*◌, ◌/◌, ◌∙◌, None, ap, sym, arith}
use Rattle.dft_decompressor.specs.Rings.{first_free, injector_count, start_of}
use Rattle.dft_decompressor.proofs.InjectorLemmas.{count_fits, some_free, start_less}
use Rattle.dft_decompressor.proofs.injecting.stage_of.Goals as goal

pub prove-unreachable-requires : goal.prove-unreachable-requires
prove-unreachable-requires c =
    let start : c.from-3.result * c.from-4.result / (c.from.result * c.from-2.result) ≡ start_of c.args.stages c.args.channels c.args.number =
    (λ i. c.from-3.ensures i * c.from-4.ensures i / (c.from.ensures i * (c.from-2.ensures ∙ c.injectors_each.ensures) i)) in
    let none : first_free c.args.stages c.args.taps.now c.args.before.now (start_of c.args.stages c.args.channels c.args.number) ≡ None =
    ap (first_free c.args.stages c.args.taps.now c.args.before.now) (sym start) ∙ sym c.first_free.ensures ∙ c.in-None.is in
    let less : start_of c.args.stages c.args.channels c.args.number < c.args.stages = start_less c.args.number c.args.stages (injector_count c.args.stages c.args.channels) c.requires.number (omega arith) in
    let all = some_free c.args.stages c.args.taps.now c.args.before.now (start_of c.args.stages c.args.channels c.args.number) less none in
    let few = count_fits c.args.stages c.args.channels in
    absurd (omega (arith, all, few))

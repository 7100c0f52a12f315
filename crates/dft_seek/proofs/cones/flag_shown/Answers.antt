-- One net more.
use Rattle.std.proofs.Common.{ℕ, Bool, ◌||◌, ◌∙◌, take, sym, ap, arith}
use Rattle.std.specs.Prelude.{◌&&◌}
use Rattle.dft_base.proofs.BitLemmas.{or_false, or_assoc}
use Rattle.dft_logic.specs.Circuit.{flag_at}
use Rattle.dft_seek.specs.Cones.{shown_in}
use Rattle.dft_seek.specs.Rigs.{shows_in}
use Rattle.dft_seek.specs.Steps.{shown_at}
use Rattle.dft_seek.proofs.ShownLemmas.{shown_all, shown_more}
use Rattle.dft_seek.proofs.cones.flag_shown.Goals as goal

pub loop-net-init : goal.loop-net-init
loop-net-init c = λ k less. sym (or_false (flag_at c.args.shown.now k))

pub loop-net-preserved : goal.loop-net-preserved
loop-net-preserved c = λ k less.
    (let shows = c.args.shows.now in
    let marked = c.args.marked.now in
    let net : ℕ = c.loop-net.net in
    let first : Bool = flag_at c.args.shown.now k in
    let own : Bool = flag_at marked net && shows_in (shown_at shows net) k in
    c.flag_if.ensures.each k (omega (arith, less, c.loop-net.auto.shown)) ∙ ap (λ (b : Bool). b || own) (c.loop-net.invariant k less) ∙ or_assoc first (shown_in (take net shows) (take net marked) k) own
    ∙ ap (λ (b : Bool). first || b) (sym (shown_more shows marked net k c.loop-net-test.true (omega (arith, c.loop-net-test.true, c.requires)))))

pub returns-clause-each : goal.returns-clause-each
returns-clause-each c = λ k less.
    (c.loop-net.invariant k less ∙ ap (λ (b : Bool). flag_at c.args.shown.now k || b) (shown_all c.args.shows.now c.args.marked.now c.loop-net.net k c.loop-net-test.false (omega (arith, c.loop-net-test.false, c.requires))))

-- One pattern more.
use Rattle.std.proofs.Common.{◌≡◌, ◌∙◌, ℕ, Option, Some, ap, arith, get_or, slice_get, subst, sym}
use Rattle.std.proofs.lemmas.Option.{slice_get-get_or}
use Rattle.dft_netlist.proofs.NotesLemmas.{item_at}
use Rattle.dft_evaluator.specs.Evaluations.{value_at}
use Rattle.dft_expect.specs.declared.pattern.Pattern.{Pattern}
use Rattle.dft_expect.specs.declared.response.Response.{Response}
use Rattle.dft_expect.specs.Captures.{captured_domains}
use Rattle.dft_expect.specs.Capturing.{IsRisenIn}
use Rattle.dft_expect.proofs.ReadLemmas.{up_to_all, up_to_kept, up_to_set}
use Rattle.dft_expect.proofs.reading.rise_all.Goals as goal
use Rattle.dft_expect.proofs.reading.rise_all.Goals.{in-Some+in_ok-rise, in_default}

pub loop-place-preserved : goal.loop-place-preserved
loop-place-preserved c =
    let fixed = c.args.fixed.now in
    let place = c.loop-place.place in
    let vector = c.args.vector in
    let values = value_at c.args.evaluator.now place in
    let before = c.loop-place.invariant in
    let here = c.index-patterns-place.result in
    let at : slice_get c.args.patterns.now place ≡ Some here = item_at c.args.patterns.now place here c.loop-place-test.true c.index-patterns-place.is in
    let done = λ (p : ℕ) (pattern : Pattern) (r : Response). IsRisenIn fixed.design.now fixed.config.now pattern vector (slice_get (captured_domains pattern.merged.now) vector) r (value_at c.args.evaluator.now p) in
    let domain : slice_get (captured_domains here.merged.now) vector ≡ c.at.result = ap (λ (x : Pattern). slice_get (captured_domains x.merged.now) vector) c.index-patterns-place.is ∙ sym c.at.ensures in
    elim c.match-at.branch [
      | in-Some+in_ok-rise w ↦
          let was = get_or c.loop-place.responses place w.index-responses-place.result in
          let stood : slice_get c.loop-place.responses place ≡ Some was = slice_get-get_or c.loop-place.responses place w.index-responses-place.result (omega (arith, before.count, c.requires.ready.count, c.loop-place-test.true)) in
          rw w.responses-is (up_to_set done c.args.patterns.now place here c.args.responses.now c.loop-place.responses was w.rise.new.response before at stood
          (subst (λ (o : Option ℕ). IsRisenIn fixed.design.now fixed.config.now here vector o w.rise.new.response values) (sym (domain ∙ w.in-Some.is))
          (w.in_ok-rise.ensures here vector (c.requires.ready.each place here was at (sym (before.left place (omega arith)) ∙ stood)))))
      | in_default w ↦
          rw w.responses-is (up_to_kept done c.args.patterns.now place here c.args.responses.now c.loop-place.responses before at (λ was found. (
          subst (λ (o : Option ℕ). IsRisenIn fixed.design.now fixed.config.now here vector o was values) (sym (domain ∙ w.in_default.is)) (c.requires.ready.each place here was at found))))
    ]

pub returns : goal.returns
returns c =
    let fixed = c.args.fixed.now in
    let vector = c.args.vector in
    up_to_all (λ (p : ℕ) (pattern : Pattern) (r : Response). IsRisenIn fixed.design.now fixed.config.now pattern vector (slice_get (captured_domains pattern.merged.now) vector) r (value_at c.args.evaluator.now p)) c.args.patterns.now c.loop-place.place c.args.responses.now c.loop-place.responses c.loop-place.invariant c.loop-place-test.false c.requires.ready.count

-- One flag more.
use Rattle.std.proofs.Common.{ℕ, Bool, ◌≡◌, ◌+◌, ◌∙◌, false, inl, inr, sym, ap, length, arith}
use Rattle.std.specs.Prelude.{◌&&◌}
use Rattle.std.proofs.lemmas.Bool.Decides.{leb_tells}
use Rattle.std.proofs.lemmas.List.{get_or_past, length_push}
use Rattle.dft_base.proofs.SumLemmas.{and_false}
use Rattle.dft_logic.specs.Circuit.{flag_at}
use Rattle.dft_seek.proofs.Filled.{filled_more}
use Rattle.dft_seek.proofs.tables.passing.Goals as goal

pub loop-flag-preserved : goal.loop-flag-preserved
loop-flag-preserved c =
    let P : ℕ → Bool → Type 0 = λ k b. b ≡ (c.args.any && flag_at c.args.flags.now k) in
    record {
      size = ap (λ (l : _). length l) c.in_ok-push.ensures.items ∙ length_push c.loop-flag.passed.items _ ∙ ap (λ (n : ℕ). n + 1) c.loop-flag.invariant.size;
      each = filled_more P c.loop-flag.passed.items c.push.new.self.items _ false c.loop-flag.flag-index c.loop-flag.invariant.size c.in_ok-push.ensures.items c.loop-flag.invariant.each c.both.ensures;
    }

pub returns-clause-each : goal.returns-clause-each
returns-clause-each c = λ k. elim (leb_tells (length c.args.flags.now) k) [
  | inl out ↦ (let past = out.1 in let size = c.loop-flag.invariant.size in
      get_or_past c.loop-flag.passed.items k false (omega (arith, past, size, c.loop-flag-test.false))
      ∙ sym (ap (λ (b : Bool). c.args.any && b) (get_or_past c.args.flags.now k false past) ∙ and_false c.args.any))
  | inr less ↦ c.loop-flag.invariant.each k (let l = less.1 in omega (arith, l, c.loop-flag-test.false))
]

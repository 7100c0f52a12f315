-- One instance more.
use Rattle.std.proofs.Common.{ℕ, Bool, ◌≡◌, ◌+◌, ◌∙◌, false, inl, inr, sym, ap, length, arith}
use Rattle.std.specs.Prelude.{◌&&◌}
use Rattle.std.proofs.lemmas.Bool.Decides.{leb_tells}
use Rattle.std.proofs.lemmas.List.{get_or_past, length_push}
use Rattle.dft_stitch.specs.Chains.{clock_of}
use Rattle.dft_logic.specs.Circuit.{flag_at}
use Rattle.dft_seek.specs.Searches.{is_of}
use Rattle.dft_seek.proofs.Filled.{filled_more}
use Rattle.dft_seek.proofs.tables.taking.Goals as goal

pub loop-number-preserved : goal.loop-number-preserved
loop-number-preserved c =
    let P : ℕ → Bool → Type 0 = λ k b. b ≡ (flag_at c.args.holds.now k && is_of c.args.domain c.args.falling (clock_of c.args.verdicts.now (record { 0 = k }))) in
    record {
      size = ap (λ (l : _). length l) c.in_ok-push.ensures.items ∙ length_push c.loop-number.flags.items _ ∙ ap (λ (n : ℕ). n + 1) c.loop-number.invariant.size;
      each = filled_more P c.loop-number.flags.items c.push.new.self.items _ false c.loop-number.number c.loop-number.invariant.size c.in_ok-push.ensures.items c.loop-number.invariant.each c.is_taking-own.ensures;
    }

pub returns-clause-each : goal.returns-clause-each
returns-clause-each c = λ k. elim (leb_tells (length c.args.holds.now) k) [
  | inl out ↦ (let past = out.1 in let size = c.loop-number.invariant.size in
      get_or_past c.loop-number.flags.items k false (omega (arith, past, size, c.loop-number-test.false, c.loop-number.auto.number-end))
      ∙ sym (ap (λ (b : Bool). b && is_of c.args.domain c.args.falling (clock_of c.args.verdicts.now (record { 0 = k }))) (get_or_past c.args.holds.now k false past)))
  | inr less ↦ c.loop-number.invariant.each k (let l = less.1 in omega (arith, l, c.loop-number-test.false))
]

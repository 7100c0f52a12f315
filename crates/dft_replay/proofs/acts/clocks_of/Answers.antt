-- One signal more.
use Rattle.std.proofs.Common.{◌≡◌, ap, ◌∙◌, sym, ℕ, Vec, Global}
use Rattle.dft_replay.proofs.VectorLemmas.{clocks_more, clocks_same}
use Rattle.dft_replay.proofs.acts.clocks_of.Goals as goal
use Rattle.dft_replay.proofs.acts.clocks_of.Goals.{then-pulses_at+in_ok-push, else-pulses_at}

pub loop-signal-preserved : goal.loop-signal-preserved
loop-signal-preserved c = elim c.if-pulses_at.branch [
  | then-pulses_at+in_ok-push w ↦ clocks_more c.args.vectors.now c.loop-signal.signal c.loop-signal.clocks.items c.if-pulses_at.clocks.items c.loop-signal.invariant (ap (λ (v : Vec ℕ Global). v.items) w.clocks-is ∙ w.in_ok-push.ensures.items) (sym c.pulses_at.ensures ∙ w.if-pulses_at.true)
  | else-pulses_at w ↦ (let e : c.if-pulses_at.clocks.items ≡ c.loop-signal.clocks.items = ap (λ (v : Vec ℕ Global). v.items) w.clocks-is in
      clocks_same c.args.vectors.now c.loop-signal.signal c.if-pulses_at.clocks.items (e ∙ c.loop-signal.invariant) (sym c.pulses_at.ensures ∙ w.if-pulses_at.false))
]

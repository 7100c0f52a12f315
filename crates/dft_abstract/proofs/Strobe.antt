-- Settled values stand above settled bits while all clocks are low, by the rank of a net.
use Rattle.std.proofs.Common.{ℕ, Bool, true, false, ◌≡◌, ◌<◌, zero, suc, arith}
use Rattle.std.specs.Prelude.{if◌then◌else◌}
use Rattle.dft_base.specs.declared.tri.Tri.{Tri}
use Rattle.dft_base.specs.Tri.{Above}
use Rattle.dft_netlist.specs.Drivers.{Source}
use Rattle.dft_behavior.specs.Logic.{Logic, IsRanked}
use Rattle.dft_behavior.specs.Settled.{Sources, bit_from, is_wire, IsSettled, TriSources, IsTriSettled, value_from}
use Rattle.dft_behavior.proofs.Meanings.{source_above, meaning_above, at_net}

-- each source's value stands above its bit, all clocks are low, and lock-ups are wires but for high ones, which hold
pub record SourcesAbove (s : Sources) (t : TriSources) (values : ℕ → Tri) : Type 0 where
  pub ports : (net : ℕ) → Above (t.ports net) (s.ports net)
  pub clocks : (e : ℕ) → Above (t.clocks e) (s.high e)
  pub flops : (c : ℕ) → Above (t.flops c) (s.flops c)
  pub low : (e : ℕ) → s.high e ≡ false
  pub lockups : (c e : ℕ) (high : Bool) (source : Source) → t.lockups c e high source ≡ (if high then t.flops c else value_from values source)

lockup_above : (high : Bool) (held wire : Tri) (holding bit : Bool) → Above held holding → Above wire bit → Above (if high then held else wire) (if is_wire high false then bit else holding)
lockup_above true held wire holding bit h w = h
lockup_above false held wire holding bit h w = w

above_within : (l : Logic) (rank : ℕ → ℕ) (s : Sources) (t : TriSources) (bits : ℕ → Bool) (values : ℕ → Tri) → IsRanked l rank → IsSettled l s bits → IsTriSettled l t values → SourcesAbove s t values →
    (fuel net : ℕ) → rank net < fuel → Above (values net) (bits net)
above_within l rank s t bits values ranked settled tri_settled a zero net less = absurd (omega arith)
above_within l rank s t bits values ranked settled tri_settled a (suc fuel) net less =
    let ih : (k : ℕ) → rank k < rank net → Above (values k) (bits k) = λ k below. above_within l rank s t bits values ranked settled tri_settled a fuel k (omega arith) in
    at_net _ _ _ _ (tri_settled net) (settled net)
    (meaning_above rank s t bits values net a.ports a.clocks a.flops (l.net net) (ranked.order net) ih
    (λ c e high source is below. rw (a.low e, a.lockups c e high source) (lockup_above high (t.flops c) (value_from values source) (s.flops c) (bit_from s bits source) (a.flops c) (source_above rank (rank net) s bits values source below ih))))

pub strobe_above : (l : Logic) (rank : ℕ → ℕ) (s : Sources) (t : TriSources) (bits : ℕ → Bool) (values : ℕ → Tri) → IsRanked l rank → IsSettled l s bits → IsTriSettled l t values → SourcesAbove s t values →
    (net : ℕ) → Above (values net) (bits net)
strobe_above l rank s t bits values ranked settled tri_settled a net = above_within l rank s t bits values ranked settled tri_settled a (suc (rank net)) net (omega arith)

-- One net more.
use Rattle.std.proofs.Common.{◌≡◌, ap, ◌∙◌, sym, ℕ, Vec, Global}
use Rattle.dft_faults.specs.declared.fault.Fault.{Fault}
use Rattle.dft_faults.specs.Faults.{is_clock_in}
use Rattle.dft_faults.proofs.Listed.{faults_more, faults_same}
use Rattle.dft_faults.proofs.listing.faults.Goals as goal
use Rattle.dft_faults.proofs.listing.faults.Goals.{then-has_faults+in_ok-push+in_ok-push-2, else-has_faults}

pub loop-number-preserved : goal.loop-number-preserved
loop-number-preserved c = elim c.if-has_faults.branch [
  | then-has_faults+in_ok-push+in_ok-push-2 w ↦ faults_more c.args.design.now (is_clock_in c.args.clocks.now) c.loop-number.number c.loop-number.faults.items w.push.new.self.items c.if-has_faults.faults.items c.loop-number.invariant
      (sym c.has_faults.ensures ∙ w.if-has_faults.true) w.in_ok-push.ensures.items (ap (λ (v : Vec Fault Global). v.items) w.faults-is ∙ w.in_ok-push-2.ensures.items)
  | else-has_faults w ↦ (let e : c.if-has_faults.faults.items ≡ c.loop-number.faults.items = ap (λ (v : Vec Fault Global). v.items) w.faults-is in
      faults_same c.args.design.now (is_clock_in c.args.clocks.now) c.loop-number.number c.if-has_faults.faults.items (e ∙ c.loop-number.invariant) (sym c.has_faults.ensures ∙ w.if-has_faults.false))
]

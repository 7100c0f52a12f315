-- One fault more.
use Rattle.std.proofs.Common.{List, Bool, false, not, filter, sym, ap, ◌∙◌, Vec, Global}
use Rattle.std.proofs.lemmas.List.{take_all}
use Rattle.dft_faults.specs.declared.fault.Fault.{Fault}
use Rattle.dft_seek.specs.SoughtFaults.{is_left}
use Rattle.dft_seek.proofs.ListingLemmas.{kept_push, kept_skip}
use Rattle.dft_seek.proofs.listing.untraced.Goals as goal
use Rattle.dft_seek.proofs.listing.untraced.Goals.{then-not-traces_port+in_ok-push, else-not-traces_port}

pub loop-fault-preserved : goal.loop-fault-preserved
loop-fault-preserved c =
    let test : Fault → Bool = is_left c.args.roots.now c.args.ports.now in
    let none : Fault = record { net = record { 0 = 0 }; value = false } in
    elim c.if-not-traces_port.branch [
      | then-not-traces_port+in_ok-push w ↦ kept_push test c.args.faults.now c.loop-fault.fault-index none c.loop-fault.left.items c.if-not-traces_port.left.items c.loop-fault-test.true
          (ap not (sym c.traces_port.ensures) ∙ ap not w.if-not-traces_port.true) (ap (λ (v : Vec Fault Global). v.items) w.left-is ∙ w.in_ok-push.ensures.items) c.loop-fault.invariant
      | else-not-traces_port w ↦ kept_skip test c.args.faults.now c.loop-fault.fault-index none c.loop-fault.left.items c.if-not-traces_port.left.items c.loop-fault-test.true
          (ap not (sym c.traces_port.ensures) ∙ ap not w.if-not-traces_port.false) (ap (λ (v : Vec Fault Global). v.items) w.left-is) c.loop-fault.invariant
    ]

pub returns : goal.returns
returns c = c.loop-fault.invariant ∙ ap (λ (xs : List Fault). filter (is_left c.args.roots.now c.args.ports.now) xs) (take_all c.loop-fault.fault-index c.args.faults.now c.loop-fault-test.false)

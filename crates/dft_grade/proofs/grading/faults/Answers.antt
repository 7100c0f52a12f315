-- The clocks are those of the patterns, and each fault that is listed is one.
use Rattle.std.proofs.Common.{◌≡◌, ◌∙◌, ap, List}
use Rattle.dft_netlist.specs.Netlist.{Netlist}
use Rattle.dft_netlist.specs.declared.ids.NetId.{NetId}
use Rattle.dft_patterns.specs.Patterns.{Patterns}
use Rattle.dft_faults.specs.Faults.{is_clock_in}
use Rattle.dft_faults.specs.Faults as faults
use Rattle.dft_grade.specs.Grades.{faults_of}
use Rattle.dft_grade.proofs.Listed.{faults_are, each_is}
use Rattle.dft_grade.proofs.grading.faults.Goals as goal

pub returns : goal.returns
returns c =
    let n : Netlist = c.args.design.now in
    let p : Patterns = c.args.patterns.now in
    let are : c.in_ok-faults.faults.items ≡ faults_of n p =
    faults_are n p c.in_ok-clocks.clocks.items c.in_ok-faults.faults.items c.in_ok-clocks.ensures.clocks (c.in_ok-faults.ensures ∙ ap (λ (clocks : List NetId). faults.faults n (is_clock_in clocks)) c.deref.ensures.value) in
    record { fit = c.in_ok-clocks.ensures.fit; faults = are; each = each_is n p c.in_ok-faults.faults.items are; misfit = tt }

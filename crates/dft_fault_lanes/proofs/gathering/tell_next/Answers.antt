-- What is told of the group is told of all.
use Rattle.std.proofs.Common.{ℕ, List, Option, sym, subst}
use Rattle.dft_netlist.specs.Netlist.{Netlist}
use Rattle.dft_patterns.specs.Patterns.{Patterns}
use Rattle.dft_faults.specs.declared.fault.Fault.{Fault}
use Rattle.dft_grade.specs.declared.found.Grade.{Grade}
use Rattle.dft_fault_lanes.specs.Gathers.{AreFaults, AreOf, AreWritten}
use Rattle.dft_fault_lanes.proofs.GatherLemmas.{group_faults, told_after}
use Rattle.dft_fault_lanes.proofs.gathering.tell_next.Goals as goal

pub tell_grades-requires-clause-each : goal.tell_grades-requires-clause-each
tell_grades-requires-clause-each c =
    let n : Netlist = c.args.design.now in
    let all : List Fault = c.args.faults.now in
    subst (AreFaults n) (sym c.deref.ensures.value) (group_faults n all c.in_ok-gathered.gathered.places.items c.in_ok-gathered.gathered.faults.items c.requires.each c.in_ok-gathered.ensures.places)

pub returns : goal.returns
returns c =
    let n : Netlist = c.args.design.now in
    let p : Patterns = c.args.patterns.now in
    let all : List Fault = c.args.faults.now in
    let places : List ℕ = c.in_ok-gathered.gathered.places.items in
    let told : List (Option Grade) = c.in_ok-told.told.items in
    let old : List (Option Grade) = c.args.found.now in
    let new : List (Option Grade) = c.write_back.new.found in
    let group : List Fault = c.deref.result.now in
    let are : AreOf all places group = subst (AreOf all places) (sym c.deref.ensures.value) c.in_ok-gathered.ensures.places in
    let w : AreWritten places told old new = subst (λ (ps : List ℕ). AreWritten ps told old new) c.deref-2.ensures.value (subst (λ (t : List (Option Grade)). AreWritten c.deref-2.result.now t old new) c.deref-3.ensures.value c.write_back.ensures) in
    told_after n p all places group told old new are c.requires.told c.in_ok-told.ensures w

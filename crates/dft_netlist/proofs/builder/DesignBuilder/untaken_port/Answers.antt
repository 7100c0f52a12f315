use Rattle.std.proofs.Common.{◌≡◌, ◌∙◌, sym, ap, subst, None, arith, true, false, refl}
use Rattle.std.proofs.lemmas.List.{at_drop_all}
use Rattle.dft_netlist.specs.Building.{taken_or}
use Rattle.dft_netlist.specs.BuilderShown.{netlist_so_far}
use Rattle.dft_netlist.specs.Names.{is_taken, first_taken}
use Rattle.dft_netlist.specs.NameTables.{look_up}
use Rattle.dft_netlist.specs.Netlist.{Netlist}
use Rattle.dft_netlist.proofs.FirstTaken.{own_first, bits_behind, bits_alone, name_taken, name_free}
use Rattle.dft_netlist.proofs.NamesLemmas.{taken_of}
use Rattle.dft_netlist.proofs.builder.DesignBuilder.untaken_port.Goals as goal
use Rattle.dft_netlist.proofs.builder.DesignBuilder.untaken_port.Goals.{else-is_some-via-then-is_some+else-is_some-2, else-is_some-via-else-is_some}

pub returns-then-is_some-2-clause-refused : goal.returns-then-is_some-2-clause-refused
returns-then-is_some-2-clause-refused c =
    let n = netlist_so_far c.self.inside in
    let es = c.self.inside.table.entries in
    let looked : look_up es c.args.name ≡ c.get.result = ap (look_up es) (sym c.as_slice.ensures.bytes) ∙ sym c.get.ensures in
    let taken = taken_of _ n c.args.name c.get.result c.self.invariant.table looked ∙ sym c.is_some-then-is_some.ensures ∙ c.if-is_some-2.true in
    let vector = sym c.is_some.ensures ∙ c.if-is_some.true in
    rw (← c.self.view_is) (ap (λ q. taken_or q None) (own_first n c.args.name c.args.range vector taken))

pub loop-bit-init : goal.loop-bit-init
loop-bit-init c =
    let n = netlist_so_far c.self.inside in
    let es = c.self.inside.table.entries in
    rw (c.requires, ← c.self.view_is) (elim c.else-is_some.branch [
      | else-is_some-via-then-is_some+else-is_some-2 w ↦ (
          let looked : look_up es c.args.name ≡ w.get.result = ap (look_up es) (sym w.as_slice.ensures.bytes) ∙ sym w.get.ensures in
          bits_behind n c.args.name c.args.range (taken_of _ n c.args.name w.get.result c.self.invariant.table looked ∙ sym w.is_some-then-is_some.ensures ∙ w.if-is_some-2.false))
      | else-is_some-via-else-is_some w ↦ bits_alone n c.args.name c.args.range (sym c.is_some.ensures ∙ w.if-is_some.false)
    ])

pub returns-then-is_some-3-clause-refused : goal.returns-then-is_some-3-clause-refused
returns-then-is_some-3-clause-refused c =
    let n = netlist_so_far c.self.inside in
    let es = c.self.inside.table.entries in
    let q = c.bit-item.result in
    let looked : look_up es q ≡ c.get-in-loop-bit.result = ap (look_up es) (sym c.as_slice-in-loop-bit.ensures.bytes) ∙ sym c.get-in-loop-bit.ensures in
    let taken : is_taken n q ≡ true = taken_of _ n q c.get-in-loop-bit.result c.self.invariant.table looked ∙ sym c.is_some-in-loop-bit.ensures ∙ c.if-is_some-3.true in
    let here = name_taken c.args.self.now c.args.bits.now c.loop-bit.bit-index q (omega arith) c.bit-item.is (subst (λ (m : Netlist). is_taken m q ≡ true) c.self.view_is taken) in
    ap (λ x. taken_or x None) (sym c.loop-bit.invariant ∙ here) ∙ rw c.in_ok-name.ensures refl

pub loop-bit-preserved : goal.loop-bit-preserved
loop-bit-preserved c =
    let n = netlist_so_far c.self.inside in
    let es = c.self.inside.table.entries in
    let q = c.bit-item.result in
    let looked : look_up es q ≡ c.get-in-loop-bit.result = ap (look_up es) (sym c.as_slice-in-loop-bit.ensures.bytes) ∙ sym c.get-in-loop-bit.ensures in
    let free : is_taken n q ≡ false = taken_of _ n q c.get-in-loop-bit.result c.self.invariant.table looked ∙ sym c.is_some-in-loop-bit.ensures ∙ c.if-is_some-3.false in
    name_free c.args.self.now c.args.bits.now c.loop-bit.bit-index q (omega arith) c.bit-item.is (subst (λ (m : Netlist). is_taken m q ≡ false) c.self.view_is free) ∙ c.loop-bit.invariant

pub returns-clause-refused : goal.returns-clause-refused
returns-clause-refused c =
    ap (λ x. taken_or x None) (sym c.loop-bit.invariant ∙ at_drop_all (first_taken c.args.self.now) c.args.bits.now c.loop-bit.bit-index (omega arith))

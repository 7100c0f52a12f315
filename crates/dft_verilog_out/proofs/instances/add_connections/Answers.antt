use Rattle.std.proofs.Common.{sym, refl, arith}
use Rattle.dft_netlist.specs.declared.instance.Signal.TheVariants.{Net}
use Rattle.dft_verilog_out.proofs.FormLemmas.{connections-joined, connections-unjoined}
use Rattle.dft_verilog_out.proofs.instances.add_connections.Goals as goal
use Rattle.dft_verilog_out.proofs.instances.add_connections.Goals.{then-is_joined+in_ok-extend_from_slice+in_ok-add_joined, else-is_joined}

pub loop-place-preserved : goal.loop-place-preserved
loop-place-preserved c = elim c.if-is_joined.branch [
  | then-is_joined+in_ok-extend_from_slice+in_ok-add_joined w ↦ rw (w.out-is, w.before-is)
      (connections-joined c.args.nets.now c.args.pins.now c.args.signals.now c.loop-place.place w.index-pins-place.result (Net (record { 0 = 0 })) _ _ _ _ _ _
      refl (omega arith) (omega (arith, c.requires.width)) (sym w.if-is_joined.ensures) w.in_ok-extend_from_slice.ensures.items w.in_ok-add_joined.ensures
      c.loop-place.invariant)
  | else-is_joined w ↦ rw (w.out-is, w.before-is)
      (connections-unjoined c.args.nets.now c.args.pins.now c.args.signals.now c.loop-place.place (Net (record { 0 = 0 })) _ _ _ (omega arith) (omega (arith, c.requires.width)) (sym w.if-is_joined.ensures)
      c.loop-place.invariant)
]

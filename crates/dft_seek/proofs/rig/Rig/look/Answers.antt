-- The values are settled and read.
use Rattle.dft_seek.specs.Nodes.{verdict}
use Rattle.dft_seek.proofs.NodeLemmas.{assigned_as, looks_at}
use Rattle.dft_seek.proofs.OpenLemmas.{at_same, evaluated_open}
use Rattle.std.proofs.Common.{arith}
use Rattle.dft_seek.proofs.rig.Rig.look.Goals as goal

pub returns-clause-opens : goal.returns-clause-opens
returns-clause-opens c = evaluated_open c.args.self.now c.args.fault c.args.cone.now.needed.items c.evaluate.new.v c.evaluate.ensures.ready c.evaluate.ensures.evaluated

pub returns-clause-at : goal.returns-clause-at
returns-clause-at c = at_same c.args.cone.now c.args.bits.now c.args.v.now c.evaluate.new.v c.evaluate.ensures.same.cells c.evaluate.ensures.same.ports c.requires.at

pub returns-clause-looks : goal.returns-clause-looks
returns-clause-looks c =
    let r = c.args.self.now in
    let v = c.evaluate.new.v in
    let at = at_same c.args.cone.now c.args.bits.now c.args.v.now v c.evaluate.ensures.same.cells c.evaluate.ensures.same.ports c.requires.at in
    let given = assigned_as r c.args.cone.now c.args.bits.now v c.requires.rig
    (λ k less. at.cells k (let e = c.evaluate.ensures.ready.cells in omega (arith, less, e)))
    (λ k less. at.ports k (let e = c.evaluate.ensures.ready.ports in omega (arith, less, e))) in
    looks_at r c.args.fault c.args.cone.now c.args.bits.now v (verdict c.read.result) c.requires.rig c.requires.fault c.requires.takes c.requires.needs given c.evaluate.ensures.evaluated c.read.ensures

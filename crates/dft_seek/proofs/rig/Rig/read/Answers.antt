-- The values of both designs are read.
use Rattle.std.proofs.Common.{◌||◌, ◌∙◌}
use Rattle.dft_seek.specs.Nodes.{found_at, same_at, stays_at}
use Rattle.dft_seek.specs.Trees.{verdict_of}
use Rattle.dft_seek.proofs.rig.Rig.read.Goals as goal

pub returns : goal.returns
returns c =
    let r = c.args.self.now in
    let cone = c.args.cone.now in
    let a = c.deref.ensures.value in
    let b = c.deref-2.ensures.value in
    let d = c.deref-3.ensures.value in
    let e = c.deref-4.ensures.value in
    c.verdict.ensures
    ∙ (λ t. verdict_of (found_at r cone (a t) (b t) (d t) (e t)) (stays_at r c.args.fault (a t) (b t) || (same_at r cone (a t) (b t) (d t) (e t) || c.is_whole.ensures t)))

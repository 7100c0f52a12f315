-- What is left of a search, and what is told.
use Rattle.std.proofs.Common.{ℕ, List, Bool, ◌+◌, ◌≡◌, ◌∷◌, length, refl, sym, subst, ap, arith, ◌∙◌}
use Rattle.std.proofs.lemmas.Result.{IfOk-weaker}
use Rattle.dft_seek.specs.Cones.{cone_of}
use Rattle.dft_seek.specs.Nodes.{AreAt}
use Rattle.dft_seek.specs.Rigs.{search_in}
use Rattle.dft_seek.specs.Searches.{Search}
use Rattle.dft_seek.specs.Sought.{IsSought, cube_at}
use Rattle.dft_seek.specs.Turns.{IsLeaf, pending}
use Rattle.dft_seek.specs.Walks.{Cone}
use Rattle.dft_seek.specs.declared.found.Found.{Found}
use Rattle.dft_seek.specs.declared.found.Found.TheVariants as found
use Rattle.dft_seek.proofs.OpenLemmas.{markable}
use Rattle.dft_seek.proofs.TurnLemmas.{LeftOf, left_dead, left_starts, left_turned, tells_aborted, tells_cube, tells_none}
use Rattle.dft_seek.proofs.rig.Rig.seek.Goals as goal

pub loop-dead-init : goal.loop-dead-init
loop-dead-init c =
    let s : Search = search_in c.args.self.now c.args.fault in
    let cone : Cone = cone_of c.in_ok-cone.cone in
    record {
      opens = c.in_ok-values.ensures.opens;
      at = subst (λ (l : List Bool). AreAt c.in_ok-cone.cone l c.in_ok-values.values) (sym c.in_ok-bits.ensures.items) (c.in_ok-values.ensures.at c.in_ok-cone.cone);
      room = omega (arith, c.in_ok-bits.ensures.exact, c.in_ok-cone.cone.cells.ok.0, c.in_ok-cone.cone.ports.ok.0);
      few = omega (arith, ap (λ (l : List Bool). length l) c.in_ok-bits.ensures.items);
      left = subst (λ (l : List Bool). LeftOf s cone 0 (l ∷ pending l)) (sym c.in_ok-bits.ensures.items) (left_starts s cone);
    }

pub turn-requires-clause-marks : goal.turn-requires-clause-marks
turn-requires-clause-marks c = markable c.args.self.now c.args.fault c.in_ok-cone.cone.needed.items c.descend.new.v c.descend.ensures.opens

pub loop-dead-preserved : goal.loop-dead-preserved
loop-dead-preserved c =
    let s : Search = search_in c.args.self.now c.args.fault in
    let cone : Cone = cone_of c.in_ok-cone.cone in
    let leaf = subst (λ (b : Bool). IsLeaf s cone c.loop-dead.bits.items c.descend.new.bits.items b) c.if-descend.false c.descend.ensures.leaf in
    let dead = left_dead s cone c.loop-dead._dead c.loop-dead.bits.items c.descend.new.bits.items c.loop-dead.invariant.left leaf in
    record {
      opens = c.turn.ensures.opens c.args.fault c.descend.ensures.opens;
      at = c.turn.ensures.at;
      room = omega (arith, c.turn.ensures.room, c.descend.ensures.room, c.loop-dead.invariant.room);
      few = omega (arith, c.turn.ensures.few, c.descend.ensures.few);
      left = left_turned s cone (c.loop-dead._dead + 1) c.descend.new.bits.items c.turn.new.bits.items dead (c.turn.ensures.turned c.if-not-turn.false);
    }

pub returns-then-descend : goal.returns-then-descend
returns-then-descend c =
    let s : Search = search_in c.args.self.now c.args.fault in
    let cone : Cone = cone_of c.in_ok-cone.cone in
    let old = c.loop-dead.bits.items in
    let new = c.descend.new.bits.items in
    let leaf = subst (λ (b : Bool). IsLeaf s cone old new b) c.if-descend.true c.descend.ensures.leaf in
    let P : Found → Type 0 = λ f. f ≡ found.Cube (cube_at c.args.name s.domain cone.variables c.deref.result.now) in
    let same : found.Cube (cube_at c.args.name s.domain cone.variables c.deref.result.now) ≡ found.Cube (cube_at c.args.name s.domain cone.variables new) =
    λ t. found.Cube (cube_at c.args.name s.domain cone.variables (c.deref.ensures.value t)) in
    let told = tells_cube s cone c.args.limit c.loop-dead._dead c.args.name old new c.in_ok-cone.ensures.cone (omega (arith, c.loop-dead-test.true)) c.loop-dead.invariant.left leaf in
    IfOk-weaker c.cube.result P (IsSought s c.args.limit c.args.name) (λ f is. subst (IsSought s c.args.limit c.args.name) (sym (is ∙ same)) told) c.cube.ensures

pub returns-then-not-turn : goal.returns-then-not-turn
returns-then-not-turn c =
    let s : Search = search_in c.args.self.now c.args.fault in
    let cone : Cone = cone_of c.in_ok-cone.cone in
    let old = c.loop-dead.bits.items in
    let new = c.descend.new.bits.items in
    let leaf = subst (λ (b : Bool). IsLeaf s cone old new b) c.if-descend.false c.descend.ensures.leaf in
    tells_none s cone c.args.limit c.loop-dead._dead c.args.name old new c.in_ok-cone.ensures.cone c.loop-dead-test.true c.loop-dead.invariant.left leaf (c.turn.ensures.ended c.if-not-turn.true)

pub returns-then-descend-2 : goal.returns-then-descend-2
returns-then-descend-2 c =
    let s : Search = search_in c.args.self.now c.args.fault in
    let cone : Cone = cone_of c.in_ok-cone.cone in
    let old = c.loop-dead.bits.items in
    let new = c.descend-2.new.bits.items in
    let leaf = subst (λ (b : Bool). IsLeaf s cone old new b) c.if-descend-2.true c.descend-2.ensures.leaf in
    let P : Found → Type 0 = λ f. f ≡ found.Cube (cube_at c.args.name s.domain cone.variables c.deref-then-descend-2.result.now) in
    let same : found.Cube (cube_at c.args.name s.domain cone.variables c.deref-then-descend-2.result.now) ≡ found.Cube (cube_at c.args.name s.domain cone.variables new) =
    λ t. found.Cube (cube_at c.args.name s.domain cone.variables (c.deref-then-descend-2.ensures.value t)) in
    let told = tells_cube s cone c.args.limit c.loop-dead._dead c.args.name old new c.in_ok-cone.ensures.cone c.loop-dead.auto._dead-end c.loop-dead.invariant.left leaf in
    IfOk-weaker c.cube-then-descend-2.result P (IsSought s c.args.limit c.args.name) (λ f is. subst (IsSought s c.args.limit c.args.name) (sym (is ∙ same)) told) c.cube-then-descend-2.ensures

pub returns : goal.returns
returns c =
    let r = c.args.self.now in
    let s : Search = search_in r c.args.fault in
    let cone : Cone = cone_of c.in_ok-cone.cone in
    let old = c.loop-dead.bits.items in
    let new = c.descend-2.new.bits.items in
    let leaf = subst (λ (b : Bool). IsLeaf s cone old new b) c.if-descend-2.false c.descend-2.ensures.leaf in
    let end : c.loop-dead._dead ≡ c.args.limit = omega (arith, c.loop-dead-test.false, c.loop-dead.auto._dead-end) in
    let left = subst (λ (k : ℕ). LeftOf s cone k (old ∷ pending old)) end c.loop-dead.invariant.left in
    tells_aborted s c.requires.rig.rank cone c.args.limit c.args.name old new (record { ordered = c.requires.rig.ordered; is = c.requires.fault }) c.in_ok-cone.ensures.cone left leaf

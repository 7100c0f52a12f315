-- From node to node, until one is found or dead.
use Rattle.std.proofs.Common.{List, Bool, false, ◌∷◌, ◌∙◌, length, refl, sym, subst, ap, arith}
use Rattle.std.proofs.lemmas.List.{length_push}
use Rattle.dft_seek.specs.Cones.{cone_of}
use Rattle.dft_seek.specs.Nodes.{AreAt, verdict}
use Rattle.dft_seek.specs.Rigs.{search_in}
use Rattle.dft_seek.specs.Searches.{Search}
use Rattle.dft_seek.specs.Trees.{Looks}
use Rattle.dft_seek.specs.Turns.{Forest, pending}
use Rattle.dft_seek.specs.Walks.{Cone}
use Rattle.dft_seek.specs.declared.looking.Verdict.{Verdict}
use Rattle.dft_seek.specs.declared.looking.Verdict.TheVariants.{Dead, Found, Open}
use Rattle.dft_seek.proofs.NodeLemmas.{count_of}
use Rattle.dft_seek.proofs.OpenLemmas.{markable}
use Rattle.dft_seek.proofs.TurnLemmas.{leaf_open, open_few}
use Rattle.dft_seek.proofs.rig.Rig.descend.Goals as goal

pub extend-requires-clause-room : goal.extend-requires-clause-room
extend-requires-clause-room c =
    let s : Search = search_in c.args.self.now c.args.fault in
    let cone : Cone = cone_of c.args.cone.now in
    let L : List Bool → Verdict → Type 0 = λ l v. Looks s cone l (verdict v) in
    let looks = subst (λ (l : List Bool). L l Open) c.deref.ensures.value (subst (L c.deref.result.now) c.in-Open.is c.look.ensures.looks) in
    let few = open_few s cone c.loop-depth.bits.items looks in
    omega (arith, few, count_of c.args.cone.now, c.loop-depth.invariant.room, c.requires.room, c.loop-depth.bits.ok.0)

pub extend-requires-clause-marks : goal.extend-requires-clause-marks
extend-requires-clause-marks c = markable c.args.self.now c.args.fault c.args.cone.now.needed.items c.look.new.v c.look.ensures.opens

pub extend-requires-clause-at : goal.extend-requires-clause-at
extend-requires-clause-at c = subst (λ (l : List Bool). AreAt c.args.cone.now l c.look.new.v) c.deref.ensures.value c.look.ensures.at

pub look-requires-clause-at : goal.look-requires-clause-at
look-requires-clause-at c = subst (λ (l : List Bool). AreAt c.args.cone.now l c.loop-depth.v) (sym c.deref.ensures.value) c.loop-depth.invariant.at

pub loop-depth-init : goal.loop-depth-init
loop-depth-init c = record { opens = c.requires.opens; at = c.requires.at; room = refl; few = c.requires.few; more = omega arith; leads = λ dead cube forest. forest }

pub loop-depth-preserved : goal.loop-depth-preserved
loop-depth-preserved c =
    let s : Search = search_in c.args.self.now c.args.fault in
    let cone : Cone = cone_of c.args.cone.now in
    let bits : List Bool = c.loop-depth.bits.items in
    let L : List Bool → Verdict → Type 0 = λ l v. Looks s cone l (verdict v) in
    let looks = subst (λ (l : List Bool). L l Open) c.deref.ensures.value (subst (L c.deref.result.now) c.in-Open.is c.look.ensures.looks) in
    let few = open_few s cone bits looks in
    let count = count_of c.args.cone.now in
    let long = ap (λ (l : List Bool). length l) c.extend.ensures.bits ∙ length_push bits false in
    record {
      opens = c.extend.ensures.opens c.args.fault c.look.ensures.opens;
      at = c.extend.ensures.at;
      room = c.extend.ensures.room ∙ c.loop-depth.invariant.room;
      few = omega (arith, few, count, long);
      more = omega (arith, long, c.loop-depth.invariant.more);
      leads = λ dead cube forest.
          leaf_open s cone c.args.bits.now.items bits dead cube looks c.loop-depth.invariant.leads (subst (λ (l : List Bool). Forest s cone (l ∷ pending l) dead cube) c.extend.ensures.bits forest);
    }

pub returns-in-Found : goal.returns-in-Found
returns-in-Found c =
    let L : List Bool → Verdict → Type 0 = λ l v. Looks (search_in c.args.self.now c.args.fault) (cone_of c.args.cone.now) l (verdict v) in
    record {
      opens = c.look.ensures.opens;
      at = subst (λ (l : List Bool). AreAt c.args.cone.now l c.look.new.v) c.deref.ensures.value c.look.ensures.at;
      room = c.loop-depth.invariant.room;
      few = c.loop-depth.invariant.few;
      leaf = record { looks = subst (λ (l : List Bool). L l Found) c.deref.ensures.value (subst (L c.deref.result.now) c.in-Found.is c.look.ensures.looks); leads = c.loop-depth.invariant.leads };
    }

pub returns-in-Dead : goal.returns-in-Dead
returns-in-Dead c =
    let L : List Bool → Verdict → Type 0 = λ l v. Looks (search_in c.args.self.now c.args.fault) (cone_of c.args.cone.now) l (verdict v) in
    record {
      opens = c.look.ensures.opens;
      at = subst (λ (l : List Bool). AreAt c.args.cone.now l c.look.new.v) c.deref.ensures.value c.look.ensures.at;
      room = c.loop-depth.invariant.room;
      few = c.loop-depth.invariant.few;
      leaf = record { looks = subst (λ (l : List Bool). L l Dead) c.deref.ensures.value (subst (L c.deref.result.now) c.in-Dead.is c.look.ensures.looks); leads = c.loop-depth.invariant.leads };
    }

pub returns : goal.returns
returns c = absurd (omega (arith, c.loop-depth-test.false, c.loop-depth.invariant.few, c.loop-depth.invariant.more, c.args.cone.now.cells.ok.0, c.args.cone.now.ports.ok.0))

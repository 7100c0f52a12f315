-- Each net is marked first, and needed.
use Rattle.std.proofs.Common.{inr, refl, ◌∙◌, ap, length, List, Bool}
use Rattle.std.proofs.lemmas.List.{length-replicate}
use Rattle.dft_base.specs.declared.tri.Tri.TheVariants.{Unknown}
use Rattle.dft_seek.specs.Rigs.{sources_by}
use Rattle.dft_seek.proofs.EvaluateLemmas.{base_near}
use Rattle.dft_seek.proofs.rig.settle_base.Goals as goal

pub settle-requires-clause-live : goal.settle-requires-clause-live
settle-requires-clause-live c = λ k h. absurd h

pub settle-requires-clause-marked : goal.settle-requires-clause-marked
settle-requires-clause-marked c = ap (λ (l : List Bool). length l) c.requires.marked ∙ length-replicate _ _

pub settle-requires-clause-near : goal.settle-requires-clause-near
settle-requires-clause-near c = λ k down. inr (λ needs. base_near c.args.circuit.now (sources_by c.args.resets.now c.args.holds.now (λ net. Unknown) (λ cell. Unknown)) c.args.values.now c.args.marks.now.marked.items k c.requires.values c.requires.marked down)

pub returns : goal.returns
returns c = record { size = c.settle.auto.values ∙ c.requires.values; given = λ k. c.settle.ensures.given k refl }

-- The net of the port is marked, if it is needed.
use Rattle.std.proofs.Common.{inl, refl, ◌∙◌}
use Rattle.dft_seek.proofs.OpenLemmas.{port_open, put_lent}
use Rattle.dft_seek.proofs.rig.Rig.give_port.Goals as goal

pub returns-clause-marks : goal.returns-clause-marks
returns-clause-marks c = record { good = c.mark.ensures.good.size ∙ c.requires.marks.good; bad = c.mark.ensures.bad.size ∙ c.requires.marks.bad }

pub returns-clause-opens : goal.returns-clause-opens
returns-clause-opens c = λ f was. port_open c.args.self.now f c.args.cone.now.needed.items c.args.net.0 c.args.value _ c.args.v.now _ c.mark.new.v (put_lent c.args.v.now.ports c.put.new.values c.deref_mut.result.now c.args.net.0 c.args.value c.deref_mut.ensures.value c.put.ensures) refl refl refl refl refl refl (inl refl) c.mark.ensures was

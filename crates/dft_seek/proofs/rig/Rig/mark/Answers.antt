-- First the table of the design, then that of the design with the fault.
use Rattle.std.proofs.Common.{ℕ, Bool, List, refl, subst, ap, ◌∙◌, arith}
use Rattle.dft_sweep.specs.Places.{AreBusy}
use Rattle.dft_sweep.specs.Fields.{is_needed}
use Rattle.dft_seek.proofs.rig.Rig.mark.Goals as goal

pub mark_all-requires : goal.mark_all-requires
mark_all-requires c = record { live = λ k has. (let less = c.requires.live k has in let e = c.requires.marks.good in omega (arith, less, e)) }

pub mark_all-requires-2 : goal.mark_all-requires-2
mark_all-requires-2 c = record { live = λ k has. (let less = c.requires.live k has in let e = c.requires.marks.bad in omega (arith, less, e)) }

pub returns : goal.returns
returns c =
    let v = c.args.v.now in
    record {
      cells = refl;
      ports = refl;
      risen = refl;
      good = record {
        values = refl;
        size = c.mark_all.ensures.size;
        lowered = λ k down. (c.mark_all.ensures.lowered k down, λ needs. c.mark_all.ensures.marked k (ap (λ (l : List Bool). is_needed l k) c.deref-2.ensures.value ∙ needs) down);
        busy = subst (λ (l : List ℕ). AreBusy l v.good.marks → AreBusy l c.mark_all.new.marks) c.deref.ensures.value c.mark_all.ensures.busy;
      };
      bad = record {
        values = refl;
        size = c.mark_all-2.ensures.size;
        lowered = λ k down. (c.mark_all-2.ensures.lowered k down, λ needs. c.mark_all-2.ensures.marked k (ap (λ (l : List Bool). is_needed l k) c.deref-4.ensures.value ∙ needs) down);
        busy = subst (λ (l : List ℕ). AreBusy l v.bad.marks → AreBusy l c.mark_all-2.new.marks) c.deref-3.ensures.value c.mark_all-2.ensures.busy;
      };
      good_after = refl;
      bad_after = refl;
    }

use Rattle.std.proofs.Common.{◌≡◌, ◌<◌, ◌∙◌, sym, ap, arith, length, List, Some, slice_get, refl, true, false, inl, inr}
use Rattle.std.proofs.lemmas.Option.{slice_get-get_or}
use Rattle.dft_cells.specs.declared.kind.Role.{Role}
use Rattle.dft_cells.specs.declared.kind.Kind.TheVariants as cell_kind
use Rattle.dft_cells.specs.declared.kind.Gate.TheVariants.{Tie0, Tie1}
use Rattle.dft_behavior.specs.NetRoots.{Constant, Other}
use Rattle.dft_netlist.proofs.NotesLemmas.{item_at}
use Rattle.dft_behavior.proofs.TraceLemmas.{one_roles, through_one, through_kind, other_root}
use Rattle.dft_behavior.proofs.walk_steps.step_through.Goals as goal

pub bounds-as_slice-0 : goal.bounds-as_slice-0
bounds-as_slice-0 c =
    let n = c.args.design.now in
    let id = c.args.id in
    let x = c.index-instances-id.result in
    let lt : id.0 < length n.instances = c.requires in
    let at : slice_get n.instances id.0 ≡ Some x = item_at n.instances id.0 x lt (rw c.instances.ensures.instances at c.index-instances-id.is) in
    let same = rw c.library.ensures.library at (rw c.cells.ensures.cells at c.kind_of.ensures) in
    let kind = sym same ∙ c.in-Gate.is ∙ ap cell_kind.Gate c.in-Buf.is in
    let is = c.instances.ensures.sound.instances id.0 x at in
    let roles = one_roles false n.library (rw c.library.ensures.library at c.cells.ensures.well_formed) (length n.nets) x.name x.cell x.pins is kind in
    let two : length x.pins ≡ 2 = is.width ∙ ap (λ (rs : List Role). length rs) roles in
    rw (c.as_slice.ensures, two) (omega arith)

pub returns-in-Buf : goal.returns-in-Buf
returns-in-Buf c =
    let n = c.args.design.now in
    let id = c.args.id in
    let x = c.index-instances-id.result in
    let lt : id.0 < length n.instances = c.requires in
    let at : slice_get n.instances id.0 ≡ Some x = item_at n.instances id.0 x lt (rw c.instances.ensures.instances at c.index-instances-id.is) in
    let same = rw c.library.ensures.library at (rw c.cells.ensures.cells at c.kind_of.ensures) in
    let kind = sym same ∙ c.in-Gate.is ∙ ap cell_kind.Gate c.in-Buf.is in
    let is = c.instances.ensures.sound.instances id.0 x at in
    let roles = one_roles false n.library (rw c.library.ensures.library at c.cells.ensures.well_formed) (length n.nets) x.name x.cell x.pins is kind in
    let two : length x.pins ≡ 2 = is.width ∙ ap (λ (rs : List Role). length rs) roles in
    let some : 0 < length x.pins = omega arith in
    record {
      step = λ walk net w. rw c.as_slice.ensures at (c.step_to.ensures.step walk w) ∙ through_one false n id c.args.pin x _ walk net w at kind roles (slice_get-get_or x.pins 0 _ some);
      live = c.step_to.ensures.live (length n.nets) (rw c.as_slice.ensures (is.live 0 _ (slice_get-get_or x.pins 0 _ some)));
    }

pub bounds-as_slice-0-in-Inv : goal.bounds-as_slice-0-in-Inv
bounds-as_slice-0-in-Inv c =
    let n = c.args.design.now in
    let id = c.args.id in
    let x = c.index-instances-id.result in
    let lt : id.0 < length n.instances = c.requires in
    let at : slice_get n.instances id.0 ≡ Some x = item_at n.instances id.0 x lt (rw c.instances.ensures.instances at c.index-instances-id.is) in
    let same = rw c.library.ensures.library at (rw c.cells.ensures.cells at c.kind_of.ensures) in
    let kind = sym same ∙ c.in-Gate.is ∙ ap cell_kind.Gate c.in-Inv.is in
    let is = c.instances.ensures.sound.instances id.0 x at in
    let roles = one_roles true n.library (rw c.library.ensures.library at c.cells.ensures.well_formed) (length n.nets) x.name x.cell x.pins is kind in
    let two : length x.pins ≡ 2 = is.width ∙ ap (λ (rs : List Role). length rs) roles in
    rw (c.as_slice-in-Inv.ensures, two) (omega arith)

pub returns-in-Inv : goal.returns-in-Inv
returns-in-Inv c =
    let n = c.args.design.now in
    let id = c.args.id in
    let x = c.index-instances-id.result in
    let lt : id.0 < length n.instances = c.requires in
    let at : slice_get n.instances id.0 ≡ Some x = item_at n.instances id.0 x lt (rw c.instances.ensures.instances at c.index-instances-id.is) in
    let same = rw c.library.ensures.library at (rw c.cells.ensures.cells at c.kind_of.ensures) in
    let kind = sym same ∙ c.in-Gate.is ∙ ap cell_kind.Gate c.in-Inv.is in
    let is = c.instances.ensures.sound.instances id.0 x at in
    let roles = one_roles true n.library (rw c.library.ensures.library at c.cells.ensures.well_formed) (length n.nets) x.name x.cell x.pins is kind in
    let two : length x.pins ≡ 2 = is.width ∙ ap (λ (rs : List Role). length rs) roles in
    let some : 0 < length x.pins = omega arith in
    record {
      step = λ walk net w. rw c.as_slice-in-Inv.ensures at (c.step_to-in-Inv.ensures.step walk w) ∙ through_one true n id c.args.pin x _ walk net w at kind roles (slice_get-get_or x.pins 0 _ some);
      live = c.step_to-in-Inv.ensures.live (length n.nets) (rw c.as_slice-in-Inv.ensures (is.live 0 _ (slice_get-get_or x.pins 0 _ some)));
    }

pub returns-in-Tie0-clause-step : goal.returns-in-Tie0-clause-step
returns-in-Tie0-clause-step c =
    let n = c.args.design.now in
    let id = c.args.id in
    let x = c.index-instances-id.result in
    let lt : id.0 < length n.instances = c.requires in
    let at : slice_get n.instances id.0 ≡ Some x = item_at n.instances id.0 x lt (rw c.instances.ensures.instances at c.index-instances-id.is) in
    let same = rw c.library.ensures.library at (rw c.cells.ensures.cells at c.kind_of.ensures) in
    λ walk net w. through_kind n id c.args.pin x walk net (cell_kind.Gate Tie0) (Constant false) at (sym same ∙ c.in-Gate.is ∙ ap cell_kind.Gate c.in-Tie0.is) (λ inverted inputs. refl)

pub returns-in-Tie1-clause-step : goal.returns-in-Tie1-clause-step
returns-in-Tie1-clause-step c =
    let n = c.args.design.now in
    let id = c.args.id in
    let x = c.index-instances-id.result in
    let lt : id.0 < length n.instances = c.requires in
    let at : slice_get n.instances id.0 ≡ Some x = item_at n.instances id.0 x lt (rw c.instances.ensures.instances at c.index-instances-id.is) in
    let same = rw c.library.ensures.library at (rw c.cells.ensures.cells at c.kind_of.ensures) in
    λ walk net w. through_kind n id c.args.pin x walk net (cell_kind.Gate Tie1) (Constant true) at (sym same ∙ c.in-Gate.is ∙ ap cell_kind.Gate c.in-Tie1.is) (λ inverted inputs. refl)

pub returns-in_default : goal.returns-in_default
returns-in_default c =
    let n = c.args.design.now in
    let id = c.args.id in
    let x = c.index-instances-id.result in
    let lt : id.0 < length n.instances = c.requires in
    let at : slice_get n.instances id.0 ≡ Some x = item_at n.instances id.0 x lt (rw c.instances.ensures.instances at c.index-instances-id.is) in
    let same = rw c.library.ensures.library at (rw c.cells.ensures.cells at c.kind_of.ensures) in
    record {
      step = λ walk net w. through_kind n id c.args.pin x walk net (cell_kind.Gate c.in-Gate.gate) Other at (sym same ∙ c.in-Gate.is)
          (other_root walk net id.0 c.in-Gate.gate c.in_default.not-Buf c.in_default.not-Inv c.in_default.not-Tie0 c.in_default.not-Tie1);
      live = tt;
    }

pub returns-in-Flop : goal.returns-in-Flop
returns-in-Flop c =
    let n = c.args.design.now in
    let id = c.args.id in
    let x = c.index-instances-id.result in
    let lt : id.0 < length n.instances = c.requires in
    let at : slice_get n.instances id.0 ≡ Some x = item_at n.instances id.0 x lt (rw c.instances.ensures.instances at c.index-instances-id.is) in
    let same = rw c.library.ensures.library at (rw c.cells.ensures.cells at c.kind_of.ensures) in
    record {
      step = λ walk net w. elim c.in-Flop.is [
        | inl f ↦ through_kind n id c.args.pin x walk net (cell_kind.Flop f.0) Other at (sym same ∙ f.1) (λ inverted inputs. refl)
        | inr (inl e) ↦ through_kind n id c.args.pin x walk net cell_kind.Lockup Other at (sym same ∙ e) (λ inverted inputs. refl)
        | inr (inr e) ↦ through_kind n id c.args.pin x walk net cell_kind.Opaque Other at (sym same ∙ e) (λ inverted inputs. refl)
      ];
      live = tt;
    }

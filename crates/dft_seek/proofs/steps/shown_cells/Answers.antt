-- One net more.
use Rattle.std.proofs.Common.{ℕ, Option, None, ◌≡◌, ◌+◌, ◌∙◌, ap, length}
use Rattle.std.proofs.lemmas.List.{length_push}
use Rattle.dft_netlist.specs.declared.ids.InstanceId.{InstanceId}
use Rattle.dft_netlist.specs.Drivers.{driver}
use Rattle.dft_seek.specs.Rigs.{shows_in}
use Rattle.dft_seek.specs.Walks.{is_output_of}
use Rattle.dft_seek.proofs.Filled.{filled_more}
use Rattle.dft_seek.proofs.steps.shown_cells.Goals as goal

pub loop-net-preserved : goal.loop-net-preserved
loop-net-preserved c =
    let P : ℕ → Option InstanceId → Type 0 = λ k shown. (i : ℕ) → shows_in shown i ≡ is_output_of i (driver c.args.design.now k) in
    record {
      size = ap (λ (l : _). length l) c.in_ok-push.ensures.items ∙ length_push c.loop-net.shows.items _ ∙ ap (λ (n : ℕ). n + 1) c.loop-net.invariant.size;
      each = filled_more P c.loop-net.shows.items c.push.new.self.items c.shown_cell.result None c.loop-net.net c.loop-net.invariant.size c.in_ok-push.ensures.items c.loop-net.invariant.each c.shown_cell.ensures;
    }

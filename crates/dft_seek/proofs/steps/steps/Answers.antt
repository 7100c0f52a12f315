-- One net more.
use Rattle.std.proofs.Common.{ℕ, List, [], ◌≡◌, ◌+◌, ◌∙◌, ap, length}
use Rattle.std.proofs.lemmas.List.{get_or_read, length_push}
use Rattle.dft_netlist.specs.declared.ids.NetId.{NetId}
use Rattle.dft_netlist.specs.Orders.{numbers_of}
use Rattle.dft_logic.specs.declared.circuit.Op.{Op}
use Rattle.dft_logic.specs.declared.circuit.Op.TheVariants.{Free}
use Rattle.dft_logic.specs.Circuit.{op_at}
use Rattle.dft_seek.specs.Steps.{op_steps, shown_at}
use Rattle.dft_seek.proofs.Filled.{filled_more}
use Rattle.dft_seek.proofs.steps.steps.Goals as goal

pub loop-net-preserved : goal.loop-net-preserved
loop-net-preserved c =
    let P : ℕ → List NetId → Type 0 = λ k nets. numbers_of nets ≡ op_steps (op_at c.args.ops.now k) (shown_at c.args.shows.now k) c.args.pins.now c.args.passed.now in
    record {
      size = ap (λ (l : _). length l) c.in_ok-push.ensures.items ∙ length_push c.loop-net.steps.items _ ∙ ap (λ (n : ℕ). n + 1) c.loop-net.invariant.size;
      each = filled_more P c.loop-net.steps.items c.push.new.self.items c.from_vec.result [] c.loop-net.net c.loop-net.invariant.size c.in_ok-push.ensures.items c.loop-net.invariant.each
          (ap numbers_of c.from_vec.ensures ∙ c.in_ok-nets.ensures ∙ ap (λ (o : Op). op_steps o (shown_at c.args.shows.now c.loop-net.net) c.args.pins.now c.args.passed.now) (get_or_read c.args.ops.now c.loop-net.net c.index-ops-net.result c.loop-net-test.true c.index-ops-net.is Free));
    }

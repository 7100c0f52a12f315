-- By the pins, and by the flip-flops that nets show.
use Rattle.std.proofs.Common.{ℕ, List, Bool, Option, ◌≡◌, ◌<◌, ◌&&◌, ◌∙◌, length, sym, subst, ap, arith}
use Rattle.dft_netlist.specs.declared.ids.InstanceId.{InstanceId}
use Rattle.dft_netlist.specs.Netlist.{Netlist}
use Rattle.dft_netlist.specs.Drivers.{driver}
use Rattle.dft_netlist.specs.Sound.{IsNetlist}
use Rattle.dft_config.specs.Config.{Config}
use Rattle.dft_logic.specs.declared.circuit.Op.{Op}
use Rattle.dft_logic.specs.Circuit.{Circuit, flag_at, op_at}
use Rattle.dft_seek.specs.Pins.{ArePins}
use Rattle.dft_seek.specs.Prepared.{search_for}
use Rattle.dft_seek.specs.Rigs.{shows_at}
use Rattle.dft_seek.specs.Searches.{Search}
use Rattle.dft_seek.specs.Steps.{op_steps, shown_at}
use Rattle.dft_seek.specs.Walks.{is_output_of, is_passed}
use Rattle.dft_seek.proofs.PreparedLemmas.{shows_all, steps_all}
use Rattle.dft_seek.proofs.preparing.find_ways.Goals as goal

pub steps-requires : goal.steps-requires
steps-requires c =
    let shows = ap (λ (l : List (Option InstanceId)). length l) c.deref-3.ensures.value ∙ c.in_ok-shows.ensures.size ∙ ap (λ (m : Netlist). length m.nets) c.design-design.ensures in
    let ops = ap (λ (l : List Op). length l) c.deref-2.ensures.value ∙ ap (λ (m : Circuit). length m.ops) c.circuit.view_is ∙ c.requires.circuit.circuit.nets in
    shows ∙ sym ops

pub returns : goal.returns
returns c =
    let n : Netlist = c.args.planned.now.design in
    let config : Config = c.args.planned.now.config in
    let s : Search = search_for n config c.args.domain in
    let same : c.design-design.result.now ≡ n = c.design-design.ensures in
    let sound : IsNetlist n = subst IsNetlist same c.soundness.ensures.netlist in
    let x = c.args.circuit.now in
    let compiled = c.requires.circuit in
    let moves = c.requires.moves in
    let passed : List Bool = c.in_ok-passed.passed.items in
    let of_passed : (k : ℕ) → flag_at passed k ≡ is_passed s k = λ k. c.in_ok-passed.ensures.each k ∙ (λ t. moves.any_falls t && (ap (λ (l : List Bool). flag_at l k) c.deref.ensures.value ∙ moves.rises k) t) in
    let list = c.in_ok-shows.shows.items in
    let pins : ArePins n c.in_ok-pins.pins.items = subst (λ (m : Netlist). ArePins m c.in_ok-pins.pins.items) same c.in_ok-pins.ensures in
    let size : length list ≡ length n.nets = c.in_ok-shows.ensures.size ∙ ap (λ (m : Netlist). length m.nets) same in
    let each = subst (λ (m : Netlist). (net k : ℕ) → net < length m.nets → shows_at list net k ≡ is_output_of k (driver m net)) same c.in_ok-shows.ensures.each in
    let shows = shows_all n list sound size each in
    let read = c.deref-2.ensures.value ∙ ap (λ (m : Circuit). m.ops) c.circuit.view_is in
    let ops = ap (λ (l : List Op). length l) read in
    record {
      pins = pins;
      shows = shows;
      shown = size;
      table = c.in_ok-steps.ensures.size ∙ ops ∙ compiled.circuit.nets;
      steps = steps_all s compiled.clocks x list c.in_ok-pins.pins.items passed c.in_ok-steps.steps.items sound compiled.circuit pins of_passed shows (c.in_ok-steps.ensures.size ∙ ops)
          (λ k less. c.in_ok-steps.ensures.each k (omega (arith, less, ops)) ∙ (λ t. op_steps (op_at (read t) k) (shown_at (c.deref-3.ensures.value t) k) (c.deref-4.ensures.value t) (c.deref-5.ensures.value t)));
    }

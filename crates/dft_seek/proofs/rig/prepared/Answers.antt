-- Each table is what its name says.
use Rattle.std.proofs.Common.{ℕ, List, Bool, Some, slice_get, ◌≡◌, subst, sym, ap, length, arith, ◌∙◌}
use Rattle.dft_netlist.specs.Netlist.{Netlist}
use Rattle.dft_netlist.proofs.RankLemmas.{order_ranks}
use Rattle.dft_netlist.specs.declared.ids.NetId.{NetId}
use Rattle.dft_netlist.specs.declared.ids.InstanceId.{InstanceId}
use Rattle.dft_netlist.specs.Orders.{AreOnce, numbers_of}
use Rattle.dft_config.specs.Config.{Config}
use Rattle.dft_expect.specs.Capturing.{CanCapture}
use Rattle.dft_logic.specs.declared.circuit.Op.{Op}
use Rattle.dft_logic.specs.Circuit.{Circuit, meaning, op_at}
use Rattle.dft_logic.specs.Tables.{IsTable}
use Rattle.dft_sweep.specs.Places.{ArePlaces}
use Rattle.dft_seek.specs.Rigs.{IsBase, cells_shown}
use Rattle.dft_seek.specs.Prepared.{AreMoves, AreNets, AreWays, IsCompiled, search_for}
use Rattle.dft_seek.specs.Searches.{Search}
use Rattle.dft_expect.proofs.CellNumbers.{stands_once}
use Rattle.dft_seek.proofs.OnceLemmas.{once_cells, once_ports}
use Rattle.dft_seek.proofs.PreparedLemmas.{can_by, means_are}
use Rattle.dft_seek.proofs.rig.prepared.Goals as goal

pub places-requires : goal.places-requires
places-requires c =
    let same = ap (λ (n : Netlist). length n.nets) c.design-design.ensures in
    let size = c.in_ok-circuit.ensures.circuit.nets in
    let few = c.soundness-2.ensures.netlist.few_nets in
    omega (arith, same, size, few)

pub showing-requires : goal.showing-requires
showing-requires c =
    let same = ap (λ (n : Netlist). length n.nets) c.design-design.ensures in
    let size = c.in_ok-circuit.ensures.circuit.nets in
    let few = c.soundness-2.ensures.netlist.few_nets in
    let lent = ap (λ (l : List Op). length l) c.deref-4.ensures.value ∙ ap (λ (m : Circuit). length m.ops) c.circuit.view_is in
    omega (arith, same, size, few, lent)

pub base-requires : goal.base-requires
base-requires c = record { places = subst (λ (l : List ℕ). ArePlaces c.in_ok-circuit.circuit l) (sym c.deref.ensures.value) c.in_ok-places.ensures }

pub returns-clause-rig : goal.returns-clause-rig
returns-clause-rig c =
    let n : Netlist = c.args.planned.now.design in
    let config : Config = c.args.planned.now.config in
    let design : Netlist = c.design-design.result.now in
    let config_of : Config = c.config-config.result.now in
    let s : Search = search_for design config_of c.args.domain in
    let same : search_for n config c.args.domain ≡ s = λ t. search_for (sym c.design-design.ensures t) (sym c.config-config.ensures t) c.args.domain in
    let can : CanCapture design config_of =
    subst (λ (q : Search). CanCapture q.design q.config) same
    (can_by n design config c.design-design.ensures c.soundness.ensures.range c.soundness.ensures.passed c.soundness-2.ensures.netlist c.soundness-2.ensures.library c.soundness-2.ensures.ordered) in
    let x : Circuit = c.in_ok-circuit.circuit in
    let compiled : IsCompiled design config_of x = subst (λ (q : Search). IsCompiled q.design q.config x) same c.in_ok-circuit.ensures in
    let moves : AreMoves s c.in_ok-moves.moves = subst (λ (q : Search). AreMoves q c.in_ok-moves.moves) same c.in_ok-moves.ensures in
    let ways : AreWays s c.in_ok-ways.ways = subst (λ (q : Search). AreWays q c.in_ok-ways.ways) same c.in_ok-ways.ensures in
    let nets : AreNets design config_of c.in_ok-nets.nets = subst (λ (q : Search). AreNets q.design q.config c.in_ok-nets.nets) same c.in_ok-nets.ensures in
    let ranked = order_ranks design can.ordered.order can.netlist can.ordered.is in
    record {
      rank = ranked.0;
      ordered = ranked.1;
      library = c.soundness-2.ensures.library;
      places = c.in_ok-places.ensures;
      nets = compiled.circuit.nets;
      means = means_are s compiled.clocks c.in_ok-moves.moves.holds.items x can compiled.circuit compiled.same moves.holds;
      resets = nets.resets;
      shows = ways.shows;
      shown = ways.shown;
      showing = subst (λ (m : ℕ). IsTable m (length x.ops) (λ net. cells_shown (meaning (op_at x.ops net))) c.in_ok-showing.showing.items) (c.len.ensures ∙ c.in_ok-moves.moves.holds.ok.0 ∙ moves.instances)
          (subst (λ (l : List Op). IsTable c.len.result (length l) (λ net. cells_shown (meaning (op_at l net))) c.in_ok-showing.showing.items) (c.deref-4.ensures.value ∙ ap (λ (m : Circuit). m.ops) c.circuit.view_is) c.in_ok-showing.ensures);
      table = ways.table;
      steps = ways.steps;
      few = (let few = can.netlist.few_instances in omega (arith, few));
      instances = moves.instances;
      holds = moves.holds;
      rises = moves.rises;
      falls = moves.falls;
      pins = ways.pins;
      any_falls = moves.any_falls;
      cells = moves.cells;
      once_cells = once_cells c.in_ok-moves.moves.cells.items (λ a b x p q. stands_once design config_of a b x can (subst (λ (l : List InstanceId). slice_get l a ≡ Some x) moves.cells p) (subst (λ (l : List InstanceId). slice_get l b ≡ Some x) moves.cells q));
      ports = nets.ports;
      once_ports = subst (λ (l : List NetId). AreOnce (numbers_of l)) (sym nets.ports) (once_ports (search_for design config_of 0) can.netlist);
      live_ports = nets.live;
      outputs = nets.outputs;
      responses = moves.responses;
      live = moves.live;
      base = subst (λ (l : List Bool). IsBase x l c.in_ok-moves.moves.holds.items c.in_ok-base.base.items) c.deref-2.ensures.value
          (subst (λ (l : List Bool). IsBase x c.deref-2.result.now l c.in_ok-base.base.items) c.deref-3.ensures.value c.in_ok-base.ensures);
    }

-- The marks of walks tell the points, the variables and the nets that are needed.
use Rattle.std.proofs.Common.{ℕ, List, Bool, ◌++◌, ◌≡◌, ◌<◌, ◌∙◌, filter, flat_map, map, sym, subst, ap, length}
use Rattle.std.specs.List.{AllByRecursion, list_any}
use Rattle.dft_netlist.specs.declared.ids.NetId.{NetId}
use Rattle.dft_netlist.specs.declared.ids.InstanceId.{InstanceId}
use Rattle.dft_netlist.specs.Orders.{AreOnce, numbers_of}
use Rattle.dft_logic.specs.Circuit.{flag_at}
use Rattle.dft_seek.specs.Cones.{AreBefore, shown_in}
use Rattle.dft_seek.specs.Pins.{pins_at, taken_by}
use Rattle.dft_seek.specs.Rigs.{search_in}
use Rattle.dft_seek.specs.Searches.{Search}
use Rattle.dft_seek.specs.declared.cones.Cone.{Cone}
use Rattle.dft_seek.proofs.ConeLemmas.{needed_are, points_are, taking_left, variables_are}
use Rattle.dft_seek.proofs.OnceLemmas.{all_filter, once_filter}
use Rattle.dft_seek.proofs.rig.Rig.cone.Goals as goal

pub shown-requires-clause-marked : goal.shown-requires-clause-marked
shown-requires-clause-marked c = ap (λ (l : List Bool). length l) c.deref-10.ensures.value ∙ (c.in_ok-leading.ensures c.args.fault).size

pub returns-clause-cone : goal.returns-clause-cone
returns-clause-cone c =
    let r = c.args.self.now in
    let f = c.args.fault in
    let s : Search = search_in r f in
    let reached : List Bool = c.in_ok-reached.reached.items in
    let leading : List Bool = c.in_ok-leading.leading.items in
    let shown : List Bool = c.in_ok-shown.shown.items in
    let cone : Cone = record { outputs = c.in_ok-outputs.outputs; responses = c.in_ok-responses.responses; cells = c.in_ok-cells.cells; ports = c.in_ok-ports.ports; needed = c.in_ok-leading.leading } in
    let outs = c.in_ok-outputs.ensures ∙ (λ t. filter (λ (net : NetId). flag_at (c.deref-2.ensures.value t) net.0) (c.deref.ensures.value t)) in
    let resps = c.in_ok-responses.ensures ∙ (λ t. filter (λ (cell : InstanceId). list_any (flag_at (c.deref-5.ensures.value t)) (taken_by (pins_at (c.deref-4.ensures.value t) cell.0))) (c.deref-3.ensures.value t)) in
    let taken = c.in_ok-taken.ensures ∙ (λ t. flat_map (λ (cell : InstanceId). taken_by (pins_at (c.deref-7.ensures.value t) cell.0)) (c.deref-6.ensures.value t)) in
    let before = subst (λ (ends : List ℕ). AreBefore s ends leading) (λ t. numbers_of (c.deref-8.ensures.value t) ++ (ap numbers_of c.deref-9.ensures.value ∙ taken) t) (c.in_ok-leading.ensures f) in
    let flags : (k : ℕ) → k < length r.design.now.instances → flag_at shown k ≡ shown_in r.shows.items leading k = λ k less. c.in_ok-shown.ensures k less ∙ ap (λ (l : List Bool). shown_in r.shows.items l k) c.deref-10.ensures.value in
    let cells = c.in_ok-cells.ensures ∙ (λ t. filter (λ (cell : InstanceId). flag_at (c.deref-12.ensures.value t) cell.0) (c.deref-11.ensures.value t)) in
    let ports = c.in_ok-ports.ensures ∙ (λ t. filter (λ (net : NetId). flag_at (c.deref-14.ensures.value t) net.0) (c.deref-13.ensures.value t)) in
    record {
      points = points_are r f cone reached c.requires.rig (c.in_ok-reached.ensures f) outs resps;
      variables = variables_are r f cone leading shown c.requires.rig c.requires.rig.table before flags c.requires.rig.live_ports cells ports;
    }

pub returns-clause-needs : goal.returns-clause-needs
returns-clause-needs c =
    let r = c.args.self.now in
    let f = c.args.fault in
    let reached : List Bool = c.in_ok-reached.reached.items in
    let leading : List Bool = c.in_ok-leading.leading.items in
    let cone : Cone = record { outputs = c.in_ok-outputs.outputs; responses = c.in_ok-responses.responses; cells = c.in_ok-cells.cells; ports = c.in_ok-ports.ports; needed = c.in_ok-leading.leading } in
    let outs = c.in_ok-outputs.ensures ∙ (λ t. filter (λ (net : NetId). flag_at (c.deref-2.ensures.value t) net.0) (c.deref.ensures.value t)) in
    let resps = c.in_ok-responses.ensures ∙ (λ t. filter (λ (cell : InstanceId). list_any (flag_at (c.deref-5.ensures.value t)) (taken_by (pins_at (c.deref-4.ensures.value t) cell.0))) (c.deref-3.ensures.value t)) in
    let taken = c.in_ok-taken.ensures ∙ (λ t. flat_map (λ (cell : InstanceId). taken_by (pins_at (c.deref-7.ensures.value t) cell.0)) (c.deref-6.ensures.value t)) in
    let before = subst (λ (ends : List ℕ). AreBefore (search_in r f) ends leading) (λ t. numbers_of (c.deref-8.ensures.value t) ++ (ap numbers_of c.deref-9.ensures.value ∙ taken) t) (c.in_ok-leading.ensures f) in
    needed_are r f cone c.requires.rig before (points_are r f cone reached c.requires.rig (c.in_ok-reached.ensures f) outs resps)

pub returns-clause-takes : goal.returns-clause-takes
returns-clause-takes c =
    let r = c.args.self.now in
    let reached : List Bool = c.in_ok-reached.reached.items in
    taking_left r (λ cell. list_any (flag_at reached) (taken_by (pins_at r.pins.items cell.0))) c.in_ok-responses.responses.items c.requires.rig
    (c.in_ok-responses.ensures ∙ (λ t. filter (λ (cell : InstanceId). list_any (flag_at (c.deref-5.ensures.value t)) (taken_by (pins_at (c.deref-4.ensures.value t) cell.0))) (c.deref-3.ensures.value t)))

pub returns-clause-once : goal.returns-clause-once
returns-clause-once c =
    let r = c.args.self.now in
    let leading : List Bool = c.deref-14.result.now in
    let shown : List Bool = c.deref-12.result.now in
    let cells = c.in_ok-cells.ensures ∙ ap (λ (l : List InstanceId). filter (λ (cell : InstanceId). flag_at shown cell.0) l) c.deref-11.ensures.value in
    let ports = c.in_ok-ports.ensures ∙ ap (λ (l : List NetId). filter (λ (net : NetId). flag_at leading net.0) l) c.deref-13.ensures.value in
    record {
      cells = subst (λ (l : List InstanceId). AreOnce (map (λ cell. cell.0) l)) (sym cells) (once_filter (λ (cell : InstanceId). cell.0) (λ cell. flag_at shown cell.0) r.cells.items c.requires.rig.once_cells);
      ports = subst (λ (l : List NetId). AreOnce (numbers_of l)) (sym ports) (once_filter (λ (net : NetId). net.0) (λ net. flag_at leading net.0) r.ports.items c.requires.rig.once_ports);
      live = subst (λ (l : List NetId). AllByRecursion (λ net. net.0 < length r.design.now.nets) l) (sym ports) (all_filter (λ (net : NetId). net.0 < length r.design.now.nets) (λ net. flag_at leading net.0) r.ports.items c.requires.rig.live_ports);
    }

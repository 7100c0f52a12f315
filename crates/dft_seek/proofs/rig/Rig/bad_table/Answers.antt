-- The stuck net is marked, if it is needed.
use Rattle.std.proofs.Common.{ℕ, ◌<◌, Bool, List, Option, true, true≢false, inr, sym, subst, ap, length, slice_set, ◌∙◌, arith}
use Rattle.std.specs.Prelude.{if◌then◌else◌}
use Rattle.dft_base.specs.declared.tri.Tri.{Tri}
use Rattle.dft_logic.specs.Values.{value_at}
use Rattle.dft_sweep.specs.Places.{AreBusy}
use Rattle.dft_sweep.specs.Fields.{IsGivenIf, is_needed}
use Rattle.dft_sweep.specs.declared.field.Stuck.{Stuck}
use Rattle.dft_sweep.proofs.Sweeps.{marked_size}
use Rattle.dft_seek.specs.Nodes.{AreSettledFor, IsSettled, sources_in}
use Rattle.dft_seek.specs.Rigs.{means_of}
use Rattle.dft_seek.proofs.EvaluateLemmas.{base_given, stuck_given}
use Rattle.dft_seek.proofs.rig.Rig.bad_table.Goals as goal

pub mark-requires : goal.mark-requires
mark-requires c =
    let size = (c.in_ok-table.ensures.table c.args.cone.now.needed.items).marked in
    omega (arith, size, c.requires.live)

pub settle_nets-requires-clause-values : goal.settle_nets-requires-clause-values
settle_nets-requires-clause-values c = (c.in_ok-table.ensures.table c.args.cone.now.needed.items).values

pub settle_nets-requires-clause-marked : goal.settle_nets-requires-clause-marked
settle_nets-requires-clause-marked c =
    ap (λ (l : List Bool). length l) c.mark.ensures.marked ∙ marked_size (is_needed c.deref-2.result.now c.args.fault.net.0) c.in_ok-table.table.marks.marked.items c.args.fault.net.0 ∙ (c.in_ok-table.ensures.table c.args.cone.now.needed.items).marked

pub settle_nets-requires-clause-busy : goal.settle_nets-requires-clause-busy
settle_nets-requires-clause-busy c =
    subst (λ (l : List ℕ). AreBusy l c.mark.new.self) c.deref.ensures.value (c.mark.ensures.busy (λ k up. absurd (true≢false (sym up ∙ (c.in_ok-table.ensures.table c.args.cone.now.needed.items).clear k))))

pub settle_nets-requires-clause-near : goal.settle_nets-requires-clause-near
settle_nets-requires-clause-near c = λ k down.
    (let r = c.args.self.now in
    let needed : List Bool = c.args.cone.now.needed.items in
    let ports : ℕ → Tri = value_at c.args.ports.now in
    let cells : ℕ → Tri = value_at c.args.cells.now in
    let values : List Tri = c.in_ok-table.table.values.items in
    let old : List Bool = c.in_ok-table.table.marks.marked.items in
    let base = base_given r ports cells values c.requires.rig c.requires.ports c.requires.cells c.in_ok-table.ensures.base in
    let marks = c.mark.ensures.marked ∙ ap (λ (l : List Bool). if is_needed l c.args.fault.net.0 then slice_set old c.args.fault.net.0 true else old) c.deref-2.ensures.value in
    let live : c.args.fault.net.0 < length old = (let size = (c.in_ok-table.ensures.table needed).marked in omega (arith, size, c.requires.live)) in
    inr (subst (λ (s : Option Stuck). IsGivenIf needed (means_of r.circuit s) (sources_in r ports cells) values k) (sym c.stuck.ensures)
    (stuck_given r c.args.fault needed (sources_in r ports cells) values old c.mark.new.self.marked.items base marks live k down)))

pub returns-clause-given : goal.returns-clause-given
returns-clause-given c =
    subst (λ (s : Option Stuck). AreSettledFor c.args.self.now c.args.cone.now.needed.items s (value_at c.args.ports.now) (value_at c.args.cells.now) c.settle_nets.new.table.values.items) c.stuck.ensures c.settle_nets.ensures.given

pub returns-clause-table : goal.returns-clause-table
returns-clause-table c = subst (λ (s : Option Stuck). IsSettled c.args.self.now c.args.cone.now.needed.items s c.settle_nets.new.table) c.stuck.ensures c.settle_nets.ensures.table

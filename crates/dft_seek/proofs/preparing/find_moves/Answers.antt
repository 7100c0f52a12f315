-- The flags of the scanned cells.
use Rattle.std.proofs.Common.{ℕ, List, Bool, true, false, ◌≡◌, ◌<◌, ◌||◌, ◌&&◌, ◌∙◌, filter, length, sym, subst, ap, arith}
use Rattle.std.specs.List.{AllByRecursion, list_any}
use Rattle.dft_netlist.specs.declared.ids.InstanceId.{InstanceId}
use Rattle.dft_netlist.specs.declared.instance.Instance.{Instance}
use Rattle.dft_netlist.specs.Netlist.{Netlist}
use Rattle.dft_config.specs.Config.{Config}
use Rattle.dft_stitch.specs.Chains.{clock_of}
use Rattle.dft_expect.specs.Capturing.{CanCapture}
use Rattle.dft_expect.specs.Loaded.{all_cells}
use Rattle.dft_logic.specs.Circuit.{flag_at}
use Rattle.dft_seek.specs.Prepared.{search_for}
use Rattle.dft_seek.specs.Searches.{Search, cells_in, has_cell, is_of, takes_at}
use Rattle.dft_seek.proofs.PreparedLemmas.{can_by, cells_live}
use Rattle.dft_seek.proofs.RigLemmas.{cell_live}
use Rattle.dft_seek.proofs.preparing.find_moves.Goals as goal

pub held-requires : goal.held-requires
held-requires c =
    let n : Netlist = c.args.planned.now.design in
    let config : Config = c.args.planned.now.config in
    let s : Search = search_for n config c.args.domain in
    let can : CanCapture n config = can_by n c.design-design.result.now config c.design-design.ensures c.soundness.ensures.range c.soundness.ensures.passed c.soundness-2.ensures.netlist c.soundness-2.ensures.library c.soundness-2.ensures.ordered in
    let cells : c.in_ok-cells.cells.items ≡ cells_in s = c.in_ok-cells.ensures ∙ (λ t. all_cells (c.chains.ensures t).chains) in
    let count : length c.instances.result.now ≡ length n.instances = ap (λ (l : List Instance). length l) c.instances.ensures.instances ∙ ap (λ (m : Netlist). length m.instances) c.design-design.ensures in
    subst (λ (l : List InstanceId). AllByRecursion (λ (cell : InstanceId). cell.0 < length c.instances.result.now) l) (sym (c.deref.ensures.value ∙ cells))
    (subst (λ (k : ℕ). AllByRecursion (λ (cell : InstanceId). cell.0 < k) (cells_in s)) (sym count) (cells_live (length n.instances) (cells_in s) (λ k is. cell_live n config k can is)))

pub taking-requires : goal.taking-requires
taking-requires c =
    let size = ap (λ (l : List Bool). length l) c.deref-2.ensures.value ∙ c.in_ok-holds.ensures.size ∙ ap (λ (l : List Instance). length l) c.instances.ensures.instances in
    let few = c.soundness-2.ensures.netlist.few_instances in
    omega (arith, size, few)

pub taking-requires-2 : goal.taking-requires-2
taking-requires-2 c =
    let size = ap (λ (l : List Bool). length l) c.deref-3.ensures.value ∙ c.in_ok-holds.ensures.size ∙ ap (λ (l : List Instance). length l) c.instances.ensures.instances in
    let few = c.soundness-2.ensures.netlist.few_instances in
    omega (arith, size, few)

pub returns : goal.returns
returns c =
    let n : Netlist = c.args.planned.now.design in
    let config : Config = c.args.planned.now.config in
    let s : Search = search_for n config c.args.domain in
    let can : CanCapture n config = can_by n c.design-design.result.now config c.design-design.ensures c.soundness.ensures.range c.soundness.ensures.passed c.soundness-2.ensures.netlist c.soundness-2.ensures.library c.soundness-2.ensures.ordered in
    let cells : c.in_ok-cells.cells.items ≡ cells_in s = c.in_ok-cells.ensures ∙ (λ t. all_cells (c.chains.ensures t).chains) in
    let count : length c.instances.result.now ≡ length n.instances = ap (λ (l : List Instance). length l) c.instances.ensures.instances ∙ ap (λ (m : Netlist). length m.instances) c.design-design.ensures in
    let holds : List Bool = c.in_ok-holds.holds.items in
    let of_holds : (k : ℕ) → flag_at holds k ≡ has_cell (cells_in s) k = λ k. c.in_ok-holds.ensures.each k ∙ ap (λ (l : List InstanceId). has_cell l k) (c.deref.ensures.value ∙ cells) in
    let rises : List Bool = c.in_ok-rises.rises.items in
    let of_rises : (k : ℕ) → flag_at rises k ≡ takes_at s false k = λ k.
    c.in_ok-rises.ensures.each k
    ∙ (λ t. (ap (λ (l : List Bool). flag_at l k) c.deref-2.ensures.value ∙ of_holds k) t && is_of c.args.domain false (clock_of (c.verdicts-verdicts.ensures t) (record { 0 = k }))) in
    let falls : List Bool = c.in_ok-falls.falls.items in
    let of_falls : (k : ℕ) → flag_at falls k ≡ takes_at s true k = λ k.
    c.in_ok-falls.ensures.each k
    ∙ (λ t. (ap (λ (l : List Bool). flag_at l k) c.deref-3.ensures.value ∙ of_holds k) t && is_of c.args.domain true (clock_of (c.verdicts-verdicts.ensures t) (record { 0 = k }))) in
    record {
      cells = cells;
      live = subst (AllByRecursion (λ (cell : InstanceId). cell.0 < length n.instances)) (sym cells) (cells_live (length n.instances) (cells_in s) (λ k is. cell_live n config k can is));
      instances = c.in_ok-holds.ensures.size ∙ count;
      holds = of_holds;
      rises = of_rises;
      falls = of_falls;
      any_falls = c.any_cell-any_falls.ensures ∙ (λ t. list_any (λ (cell : InstanceId). (ap (λ (l : List Bool). flag_at l cell.0) c.deref-5.ensures.value ∙ of_falls cell.0) t) ((c.deref-4.ensures.value ∙ cells) t));
      responses =
          c.in_ok-responses.ensures
          ∙ (λ t. filter (λ (cell : InstanceId). (ap (λ (l : List Bool). flag_at l cell.0) c.deref-7.ensures.value ∙ of_rises cell.0) t || (ap (λ (l : List Bool). flag_at l cell.0) c.deref-8.ensures.value ∙ of_falls cell.0) t)
          ((c.deref-6.ensures.value ∙ cells) t));
    }

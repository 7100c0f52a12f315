-- None is flagged first.
use Rattle.std.proofs.Common.{List, Bool, false, ◌||◌, ◌<◌, ◌∙◌, sym, ap, subst, length, ℕ}
use Rattle.std.specs.List.{AllByRecursion}
use Rattle.std.proofs.lemmas.List.{length-replicate}
use Rattle.dft_base.proofs.ListLemmas.{refilled_items}
use Rattle.dft_netlist.specs.declared.ids.InstanceId.{InstanceId}
use Rattle.dft_logic.specs.Circuit.{flag_at}
use Rattle.dft_logic.proofs.FlagLemmas.{down_all}
use Rattle.dft_seek.specs.Searches.{has_cell}
use Rattle.dft_seek.proofs.tables.held.Goals as goal

pub flag_all-requires : goal.flag_all-requires
flag_all-requires c =
    subst (λ (n : ℕ). AllByRecursion (λ (cell : InstanceId). cell.0 < n) c.args.cells.now) (sym (ap (λ (l : List Bool). length l) (c.deref_mut.ensures.value ∙ c.in_ok-flags.ensures) ∙ length-replicate c.args.count false)) c.requires

pub returns-clause-size : goal.returns-clause-size
returns-clause-size c =
    ap (λ (l : List Bool). length l) (refilled_items c.in_ok-flags.flags c.flag_all.new.flags c.deref_mut.result.now c.flag_all.auto.flags c.deref_mut.ensures.value) ∙ c.flag_all.ensures.size
    ∙ ap (λ (l : List Bool). length l) (c.deref_mut.ensures.value ∙ c.in_ok-flags.ensures) ∙ length-replicate c.args.count false

pub returns-clause-each : goal.returns-clause-each
returns-clause-each c = λ k.
    (ap (λ (l : List Bool). flag_at l k) (refilled_items c.in_ok-flags.flags c.flag_all.new.flags c.deref_mut.result.now c.flag_all.auto.flags c.deref_mut.ensures.value) ∙ c.flag_all.ensures.each k
    ∙ ap (λ (b : Bool). b || has_cell c.args.cells.now k) (ap (λ (l : List Bool). flag_at l k) (c.deref_mut.ensures.value ∙ c.in_ok-flags.ensures) ∙ down_all c.args.count k))

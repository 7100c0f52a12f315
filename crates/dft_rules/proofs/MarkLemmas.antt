-- Marks by numbers.
use Rattle.std.proofs.Common.{◌≡◌, ℕ, ◌+◌, ◌<◌, ◌≤◌, ◌==◌, Bool, true, false, ◌||◌, List, length, get_or, set, take, Option, Some, sym, ◌∙◌, ap, subst, arith}
use Rattle.std.proofs.lemmas.List.{take_all}
use Rattle.std.proofs.lemmas.List.Folds.{list_any_more}
use Rattle.dft_base.specs.Lexing.{Text}
use Rattle.dft_base.proofs.ListLemmas.{marked}
use Rattle.dft_cells.specs.declared.cell.Cell.{Cell}
use Rattle.dft_netlist.specs.declared.ids.InstanceId.{InstanceId}
use Rattle.dft_netlist.specs.declared.instance.Instance.{Instance}
use Rattle.dft_netlist.specs.Netlist.{Netlist}
use Rattle.dft_rules.specs.Findings.{AreUsed}
use Rattle.dft_rules.specs.Refusals.{is_data_of}
use Rattle.dft_rules.specs.Rules.{flip_flop_named, is_instance, is_kept}

-- the flip-flop of one name more is kept
pub kept_more : (n : Netlist) (names : List Text) (k i : ℕ) (d : Text) (marks : List Bool) (id : InstanceId) → k < length names → flip_flop_named n (get_or names k d) ≡ Some id → id.0 < length marks →
    get_or marks i false ≡ is_kept n (take k names) i → get_or (set marks id.0 true) i false ≡ is_kept n (take (k + 1) names) i
kept_more n names k i d marks id less found live h =
    marked marks id.0 i live
    ∙ ap (λ (b : Bool). b || (id.0 == i)) h
    ∙ sym (list_any_more (λ name. is_instance i (flip_flop_named n name)) names k d less ∙ ap (λ (o : Option InstanceId). is_kept n (take k names) i || is_instance i o) found)

pub kept_all : (n : Netlist) (names : List Text) (k i : ℕ) → length names ≤ k → is_kept n (take k names) i ≡ is_kept n names i
kept_all n names k i past = ap (λ (xs : List Text). is_kept n xs i) (take_all k names past)

-- ---- what instances take as data

pub used_none : (library : List Cell) (instances : List Instance) (nets : ℕ) (marks : List Bool) → length marks ≡ nets → ((net : ℕ) → get_or marks net false ≡ false) → AreUsed library (take 0 instances) nets marks
used_none library instances nets marks count none = record { count = count; each = λ net less. none net }

pub used_more : (library : List Cell) (instances : List Instance) (k nets : ℕ) (d : Instance) (old new : List Bool) → k < length instances → length new ≡ length old →
    ((net : ℕ) → net < length old → get_or new net false ≡ (get_or old net false || is_data_of library net (get_or instances k d))) →
    AreUsed library (take k instances) nets old → AreUsed library (take (k + 1) instances) nets new
used_more library instances k nets d old new less same marks h = record {
  count = same ∙ h.count;
  each = λ net live. (
      let c = h.count in
      marks net (omega arith) ∙ ap (λ (b : Bool). b || is_data_of library net (get_or instances k d)) (h.each net live) ∙ sym (list_any_more (is_data_of library net) instances k d less));
}

pub used_all : (library : List Cell) (instances : List Instance) (k nets : ℕ) (marks : List Bool) → length instances ≤ k → AreUsed library (take k instances) nets marks → AreUsed library instances nets marks
used_all library instances k nets marks past h = let P : List Instance → Type 0 = λ xs. AreUsed library xs nets marks in subst P (take_all k instances past) h

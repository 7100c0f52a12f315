use Rattle.std.proofs.Common.{◌≡◌, ℕ, Bool, true, false, cond, Option, None, Some, is_some, refl}
use Rattle.std.specs.Prelude.{◌↔◌}
use Rattle.dft_netlist.specs.Drivers.{kind_at}
use Rattle.dft_rules.specs.Rules.{are_held_at, clocked_by, is_kept, judged_by, may_be_scanned, scan_cell_of}
use Rattle.dft_rules.proofs.laws.flip_flops_are_judged.Goals as goal

-- one of the rules decides
decided : (clock : Option (ℕ × Bool)) (held scans kept : Bool) → judged_by clock held scans kept ≡ None → ⊥
decided None held scans kept e = let f : ⊥ = cc in f
decided (Some c) false scans kept e = let f : ⊥ = cc in f
decided (Some c) true false kept e = let f : ⊥ = cc in f
decided (Some c) true true true e = let f : ⊥ = cc in f
decided (Some c) true true false e = let f : ⊥ = cc in f

by_kind : (t : Bool) (clock : Option (ℕ × Bool)) (held scans kept : Bool) → (cond t (judged_by clock held scans kept) None ≡ None) ↔ (t ≡ false)
by_kind false clock held scans kept = (λ e. refl, λ e. refl)
by_kind true clock held scans kept = (λ e. absurd (decided clock held scans kept e), λ e. absurd (let f : ⊥ = cc in f))

pub returns : goal.returns
returns c = λ n config i. by_kind (may_be_scanned (kind_at n i)) (clocked_by n config i) (are_held_at n config i) (is_some (scan_cell_of n i)) (is_kept n config.keep i)

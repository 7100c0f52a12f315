-- Each net is one of the design, moved, or is none of them.
use Rattle.std.proofs.Common.{ℕ, ◌+◌, ◌-◌, ◌≡◌, ◌==◌, ◌<◌, ◌≤◌, inl, inr, false, nat_lt, arith, ◌∙◌}
use Rattle.std.specs.Prelude.{if◌then◌else◌}
use Rattle.dft_netlist.proofs.LiveLemmas.{le_or_lt}
use Rattle.dft_scan_frame.specs.Moves.{Gap, moved}
use Rattle.dft_scan_frame.proofs.Whole.{moved_front, moved_back}

-- ---- every net

-- a net of the design, moved, or none of them
pub data IsMovedOrNew (gap : Gap) (count net : ℕ) : Type 0 where
  IsMoved : {own : ℕ} → own < count → moved gap own ≡ net → IsMovedOrNew gap count net
  IsNone : ((k : ℕ) → k < count → (moved gap k == net) ≡ false) → IsMovedOrNew gap count net

gap_not : (before width net k : ℕ) → before ≤ net → net < before + width → ((if nat_lt k before then k else k + width) == net) ≡ false
gap_not = grind arith

made_not : (before width count net k : ℕ) → count + width ≤ net → k < count → ((if nat_lt k before then k else k + width) == net) ≡ false
made_not = grind arith

pub moved_or_new : (gap : Gap) (count net : ℕ) → gap.before ≤ count → IsMovedOrNew gap count net
moved_or_new gap count net fits = elim (le_or_lt gap.before net) [
  | inl a ↦ elim (le_or_lt (gap.before + gap.width) net) [
    | inl b ↦ elim (le_or_lt (count + gap.width) net) [
      | inl c ↦ IsNone (λ k less. made_not gap.before gap.width count net k c less)
      | inr c ↦ IsMoved {own = net - gap.width} (omega (arith, c, b, a)) (moved_back gap (net - gap.width) (omega (arith, b)) ∙ omega (arith, b))
    ]
    | inr b ↦ IsNone (λ k less. gap_not gap.before gap.width net k a b)
  ]
  | inr a ↦ IsMoved {own = net} (omega (arith, a, fits)) (moved_front gap net a)
]

-- Faults that are put into lanes, one after another.
use Rattle.std.proofs.Common.{ℕ, ◌≡◌, ◌≢◌, ◌<◌, ◌≤◌, ◌+◌, ◌==◌, inl, inr, List, length, refl, sym, ap, subst, arith, ◌∙◌, slice_get, slice_set, get_or-set_same, get_or-set_other, Option, None, Some}
use Rattle.std.specs.Prelude.{if◌then◌else◌}
use Rattle.std.proofs.lemmas.List.{length-set}
use Rattle.std.proofs.lemmas.Bool.{cases_eq}
use Rattle.std.proofs.lemmas.Bool.Decides.{eqb_tells}
use Rattle.std.proofs.lemmas.Option.{same_Some}
use Rattle.dft_base.specs.declared.tri.Tri.{Tri}
use Rattle.dft_base.specs.Tri.{known}
use Rattle.dft_faults.specs.declared.fault.Fault.{Fault}
use Rattle.dft_fault_lanes.specs.declared.clamps.Clamp.{Clamp}
use Rattle.dft_fault_lanes.specs.Lanes.{clamped, clamp_at, IsClamp, AreClamps, IsStuck}

-- the lanes before one have their faults, and the others none
pub record Sticking (faults : List Fault) (clamps : List (Option Clamp)) (size lane : ℕ) : Type 0 where
  pub whole : AreClamps clamps
  pub length_is : length clamps ≡ size
  pub stuck : (k : ℕ) (fault : Fault) → k < lane → slice_get faults k ≡ Some fault → IsStuck clamps k fault.net.0 fault.value
  pub rest : (k net : ℕ) (given : Tri) → lane ≤ k → k < 512 → clamped (clamp_at clamps net) k given ≡ given

pub sticking_starts : (faults : List Fault) (clamps : List (Option Clamp)) → ((net : ℕ) → clamp_at clamps net ≡ None) → Sticking faults clamps (length clamps) 0
sticking_starts faults clamps clear = record {
  whole = λ net. subst IsClamp (sym (clear net)) tt;
  length_is = refl;
  stuck = λ k fault less at. absurd (omega arith);
  rest = λ k net given from within. ap (λ (o : Option Clamp). clamped o k given) (clear net);
}

-- the bounds of a net where one net's are new
pick_clamp : (clamps : List (Option Clamp)) (net k : ℕ) (new : Option Clamp) → net < length clamps → (P : Option Clamp → Type 0) → (k ≡ net → P new) → (k ≢ net → P (clamp_at clamps k)) → P (clamp_at (slice_set clamps net new) k)
pick_clamp clamps net k new live P here there = elim (cases_eq k net) [
  | inl e ↦ subst P (sym (ap (clamp_at (slice_set clamps net new)) e ∙ get_or-set_same clamps net new None live)) (here e)
  | inr ne ↦ subst P (sym (get_or-set_other clamps net k new None ne)) (there ne)
]

if_here : (a b : ℕ) (t u : Tri) → a ≡ b → (if a == b then t else u) ≡ t
if_here a b t u e = elim (eqb_tells a b) [
  | inl is ↦ ap (λ c. if c then t else u) is.0
  | inr other ↦ absurd (other.1 e)
]

if_apart : (a b : ℕ) (t u : Tri) → a ≢ b → (if a == b then t else u) ≡ u
if_apart a b t u ne = elim (eqb_tells a b) [
  | inl is ↦ absurd (ne is.1)
  | inr other ↦ ap (λ c. if c then t else u) other.0
]

pub stick_more : (faults : List Fault) (clamps : List (Option Clamp)) (size lane : ℕ) (fault : Fault) (new : Option Clamp) → slice_get faults lane ≡ Some fault → fault.net.0 < length clamps → lane < 512 → IsClamp new →
    ((k : ℕ) (given : Tri) → k < 512 → clamped new k given ≡ (if k == lane then known fault.value else clamped (clamp_at clamps fault.net.0) k given)) → Sticking faults clamps size lane →
    Sticking faults (slice_set clamps fault.net.0 new) size (lane + 1)
stick_more faults clamps size lane fault new at live within is each s =
    let net : ℕ = fault.net.0 in
    let old : (k m : ℕ) (given : Tri) → k < 512 → k ≢ lane → clamped (clamp_at (slice_set clamps net new) m) k given ≡ clamped (clamp_at clamps m) k given = λ k m given less ne.
    pick_clamp clamps net m new live (λ (o : Option Clamp). clamped o k given ≡ clamped (clamp_at clamps m) k given)
    (λ e. each k given less ∙ if_apart k lane _ _ ne ∙ ap (λ (i : ℕ). clamped (clamp_at clamps i) k given) (sym e)) (λ ne. refl) in
    let here : IsStuck (slice_set clamps net new) lane net fault.value = λ m given.
    pick_clamp clamps net m new live (λ (o : Option Clamp). clamped o lane given ≡ (if m == net then known fault.value else given))
    (λ e. each lane given within ∙ if_here lane lane _ _ refl ∙ sym (if_here m net _ _ e)) (λ ne. s.rest lane m given (omega arith) within ∙ sym (if_apart m net _ _ ne)) in
    record {
      whole = λ m. pick_clamp clamps net m new live IsClamp (λ e. is) (λ ne. s.whole m);
      length_is = length-set clamps net new ∙ s.length_is;
      stuck = λ k other before its. elim (cases_eq k lane) [
        | inl e ↦ (let same : other ≡ fault = same_Some other fault (sym its ∙ ap (slice_get faults) e ∙ at) in
            let P : ℕ → Fault → Type 0 = λ i f. IsStuck (slice_set clamps net new) i f.net.0 f.value in
            subst (λ (i : ℕ). P i other) (sym e) (subst (P lane) (sym same) here))
        | inr ne ↦ λ m given. (let less : k < 512 = omega (arith, before, within) in old k m given less ne ∙ s.stuck k other (omega (arith, before, ne)) its m given)
      ];
      rest = λ k m given from less. old k m given less (omega arith) ∙ s.rest k m given (omega arith) less;
    }

-- What is listed as the driver of a net, where there is one, drives it.
use Rattle.std.proofs.Common.{◌≡◌, ℕ, zero, suc, ◌+◌, ◌≤◌, Bool, true, false, cond, List, [], ◌∷◌, Some, refl, ◌∙◌, ap, arith, slice_get, count_by, ◌==◌}
use Rattle.std.proofs.lemmas.List.Sums.{sum_by-cons}
use Rattle.std.proofs.lemmas.Bool.{eq-eqb}
use Rattle.dft_netlist.specs.Drivers.{Driven, driver_in}
use Rattle.dft_netlist.specs.DesignLaws.{ListedDrives}

abbrev pub times : List Driven → (net : ℕ) → ℕ
times es net = count_by (λ (x : Driven). x.0 == net) es

abbrev pub one_if : Bool → ℕ
one_if t = cond t 1 0

pub times-cons : (e : Driven) (es : List Driven) (net : ℕ) → times (e ∷ es) net ≡ one_if (e.0 == net) + times es net
times-cons e es net = sum_by-cons (λ (x : Driven). cond (x.0 == net) 1 0) e es

pub listed_once : (es : List Driven) (k : ℕ) (d : Driven) → slice_get es k ≡ Some d → 1 ≤ times es d.0
listed_once [] k d h = absurd (let f : ⊥ = cc in f)
listed_once (e ∷ es) zero d h =
    let same : e ≡ d = cc in
    let one : one_if (e.0 == d.0) ≡ 1 = ap one_if (eq-eqb e.0 d.0 (ap (λ (x : Driven). x.0) same)) in
    omega (arith, one, times-cons e es d.0)
listed_once (e ∷ es) (suc k) d h = omega (arith, listed_once es k d h, times-cons e es d.0)

listed : (es : List Driven) (k : ℕ) (d : Driven) → times es d.0 ≤ 1 → slice_get es k ≡ Some d → driver_in es d.0 ≡ d.1
listed [] k d few h = absurd (let f : ⊥ = cc in f)
listed (e ∷ es) zero d few h =
    let same : e ≡ d = cc in
    ap (λ t. cond t e.1 (driver_in es d.0)) (eq-eqb e.0 d.0 (ap (λ (x : Driven). x.0) same)) ∙ ap (λ (x : Driven). x.1) same
listed (e ∷ es) (suc k) d few h = by (e.0 == d.0) refl (listed es k d)
  where
    by : (t : Bool) → (e.0 == d.0) ≡ t → (times es d.0 ≤ 1 → slice_get es k ≡ Some d → driver_in es d.0 ≡ d.1) → cond t e.1 (driver_in es d.0) ≡ d.1
    by true is rest =
        let one : one_if (e.0 == d.0) ≡ 1 = ap one_if is in
        absurd (omega (arith, few, one, listed_once es k d h, times-cons e es d.0))
    by false is rest = rest (omega (arith, few, times-cons e es d.0)) h

pub listed_drives : ListedDrives
listed_drives = λ n place d single at. listed _ place d (single d.0) at

-- What a design drives are its nets.
use Rattle.std.proofs.Common.{ℕ, ◌≡◌, ◌<◌, ◌≤◌, true, false, List, [], ◌∷◌, length, cond, refl, arith, ◌==◌}
use Rattle.dft_parts.specs.Single.{NewIsFree}
use Rattle.std.specs.Prelude.{Bool}
use Rattle.std.proofs.lemmas.List.Sums.{sum_by-cons}
use Rattle.std.proofs.lemmas.Bool.{eqb-true}
use Rattle.dft_netlist.specs.Drivers.{Driven, all_driven}
use Rattle.dft_netlist.proofs.DriverLaws.{times}
use Rattle.dft_netlist.proofs.LiveDriven.{DriveBelow, drives_below}

not_yet : (b : Bool) (x net count : ℕ) → (x == net) ≡ b → x < count → count ≤ net → ◌≡◌ {A = ℕ} (cond b 1 0) 0
not_yet false x net count h less past = refl
not_yet true x net count h less past = absurd (omega (arith, eqb-true x net h, less, past))

none_at : (count net : ℕ) (ds : List Driven) → DriveBelow count ds → count ≤ net → times ds net ≡ 0
none_at count net [] h past = refl
none_at count net (d ∷ ds) h past =
    omega (arith, sum_by-cons (λ (e : Driven). cond (e.0 == net) 1 0) d ds, not_yet (d.0 == net) d.0 net count refl h.0 past, none_at count net ds h.1 past)

pub new_is_free : NewIsFree
new_is_free n net sound past = none_at (length n.nets) net (all_driven n) (drives_below n sound) past

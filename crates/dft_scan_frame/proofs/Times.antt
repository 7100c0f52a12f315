-- How often nets are driven in lists of drivers.
use Rattle.std.proofs.Common.{ℕ, suc, ◌+◌, ◌≡◌, ◌==◌, ◌<◌, ◌≤◌, Bool, true, false, List, ◌∷◌, cond, refl, sym, subst, ap, arith, ◌∙◌, []}
use Rattle.std.proofs.lemmas.Bool.{eqb-true}
use Rattle.dft_base.proofs.NumberLemmas.{less_apart, more_apart}
use Rattle.dft_netlist.specs.Drivers.{Driven}
use Rattle.dft_netlist.proofs.LiveDriven.{DriveBelow}
use Rattle.dft_scan_frame.proofs.Mergings.{times, times-cons, none_more, moved_driven, Merges, Nothing, Kept, Added}

one_at_most : (b : Bool) (rest : ℕ) → (b ≡ true → rest ≡ 0) → rest ≤ 1 → cond b 1 0 + rest ≤ 1
one_at_most true rest h k = omega (arith, h refl)
one_at_most false rest h k = omega (arith, k)

-- a net that the first of these drives is driven by no other
pub times_once : (net : ℕ) (d : Driven) (ds : List Driven) → (d.0 ≡ net → times net ds ≡ 0) → times net ds ≤ 1 → times net (d ∷ ds) ≤ 1
times_once net d ds h k = subst (λ m. m ≤ 1) (sym (times-cons net d ds)) (one_at_most (d.0 == net) (times net ds) (λ is. h (eqb-true d.0 net is)) k)

-- ---- nets that rise

-- each of these drives a net past the ones before it, from one on
abbrev pub Rises : (from : ℕ) → List Driven → Type 0
Rises from [] = Unit {0}
Rises from (d ∷ ds) = (from ≤ d.0) × Rises (suc d.0) ds

pub rises_none : (net from : ℕ) (ds : List Driven) → Rises from ds → net < from → times net ds ≡ 0
rises_none net from [] h less = refl
rises_none net from (d ∷ ds) h less = none_more net d ds 0 (more_apart net d.0 (omega (arith, h.0, less))) (rises_none net (suc d.0) ds h.1 (omega (arith, h.0, less)))

pub rises_once : (net from : ℕ) (ds : List Driven) → Rises from ds → times net ds ≤ 1
rises_once net from [] h = omega arith
rises_once net from (d ∷ ds) h = times_once net d ds (λ is. rises_none net (suc d.0) ds h.1 (omega (arith, is))) (rises_once net (suc d.0) ds h.1)

pub past_none : (net count : ℕ) (ds : List Driven) → DriveBelow count ds → count ≤ net → times net ds ≡ 0
past_none net count [] h le = refl
past_none net count (d ∷ ds) h le = none_more net d ds 0 (less_apart d.0 net (omega (arith, h.0, le))) (past_none net count ds h.1 le)

-- ---- a net that is none of the design's, moved

pub added_times_live : (f : ℕ → ℕ) (net count : ℕ) (old added all : List Driven) → ((k : ℕ) → k < count → (f k == net) ≡ false) → DriveBelow count old → Merges f old added all → times net all ≡ times net added
added_times_live f net count _ _ _ apart live Nothing = refl
added_times_live f net count _ _ _ apart live (Kept {d = d} {old = old} {added = added} {all = all} m) = none_more net (moved_driven f d) all (times net added) (apart d.0 live.0) (added_times_live f net count old added all apart live.1 m)
added_times_live f net count _ _ _ apart live (Added {d = d} {old = old} {added = added} {all = all} m) =
    times-cons net d all ∙ ap (λ n. cond (d.0 == net) 1 0 + n) (added_times_live f net count old added all apart live m) ∙ sym (times-cons net d added)

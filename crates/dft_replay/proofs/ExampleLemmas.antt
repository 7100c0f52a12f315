-- The worked examples: an order of each design's nets, and what the plain replay computes.
use Rattle.std.proofs.Common.{ℕ, ◌≤◌, ◌==◌, Bool, true, false, List, [], ◌∷◌, ◌≡◌, refl, subst, arith}
use Rattle.std.specs.Prelude.{if◌then◌else◌}
use Rattle.std.proofs.lemmas.Bool.{eqb-true}
use Rattle.dft_netlist.specs.Netlist.{Netlist}
use Rattle.dft_netlist.specs.Drivers.{Driver, Driven, driver_in, all_driven, nets_read, AreBelow, IsOrdered}
use Rattle.dft_patterns.specs.declared.act.Act.TheVariants.{ExpectLow, ExpectHigh}
use Rattle.dft_replay.specs.Examples.{row, row_with_lockup, both_pulse, TwoDomains, set_once, KeptInput, row_with_quiet_lockup, one_pulses, QuietLockup, row_of_three, all_pulse, ThreeDomains}
use Rattle.dft_replay.proofs.PlainLemmas.{verdict_plain}

-- each driven net of a list stands after the nets that its driver reads
abbrev pub AreOrdered : Netlist → (rank : ℕ → ℕ) → List Driven → Type 0
AreOrdered n rank [] = Unit {0}
AreOrdered n rank (d ∷ ds) = AreBelow rank (rank d.0) (nets_read n d.1) × AreOrdered n rank ds

one_of : (n : Netlist) (rank : ℕ → ℕ) (r : ℕ) (b : Bool) (this rest : Driver) → (b ≡ true → AreBelow rank r (nets_read n this)) → AreBelow rank r (nets_read n rest) → AreBelow rank r (nets_read n (if b then this else rest))
one_of n rank r true this rest here there = here refl
one_of n rank r false this rest here there = there

pub each_ordered : (n : Netlist) (rank : ℕ → ℕ) (ds : List Driven) → AreOrdered n rank ds → (net : ℕ) → AreBelow rank (rank net) (nets_read n (driver_in ds net))
each_ordered n rank [] ordered net = tt
each_ordered n rank (d ∷ ds) ordered net =
    one_of n rank (rank net) (d.0 == net) d.1 (driver_in ds net)
    (λ is. subst (λ k. AreBelow rank (rank k) (nets_read n d.1)) (eqb-true d.0 net is) ordered.0)
    (each_ordered n rank ds ordered.1 net)

-- the net of a lock-up comes after the others
abbrev lockup_last : (lockup_net net : ℕ) → ℕ
lockup_last lockup_net net = if net == lockup_net then 1 else 0

one_at_most : (b : Bool) → (if b then 1 else 0) ≤ 6
one_at_most true = omega arith
one_at_most false = omega arith

row_ordered : IsOrdered row (λ net. 0)
row_ordered = record { after = each_ordered row (λ net. 0) (all_driven row) (tt, (tt, (tt, (tt, (tt, tt))))); within = λ net. omega arith }

row_of_three_ordered : IsOrdered row_of_three (λ net. 0)
row_of_three_ordered = record { after = each_ordered row_of_three (λ net. 0) (all_driven row_of_three) (tt, (tt, (tt, (tt, (tt, (tt, (tt, tt))))))); within = λ net. omega arith }

row_with_lockup_ordered : IsOrdered row_with_lockup (lockup_last 5)
row_with_lockup_ordered = record {
  after = each_ordered row_with_lockup (lockup_last 5) (all_driven row_with_lockup) (tt, (tt, (tt, (tt, ((omega arith, (omega arith, tt)), (tt, tt))))));
  within = λ net. one_at_most (net == 5);
}

row_with_quiet_lockup_ordered : IsOrdered row_with_quiet_lockup (lockup_last 5)
row_with_quiet_lockup_ordered = record {
  after = each_ordered row_with_quiet_lockup (lockup_last 5) (all_driven row_with_quiet_lockup) (tt, (tt, (tt, (tt, ((omega arith, (omega arith, tt)), (tt, tt))))));
  within = λ net. one_at_most (net == 5);
}

pub two_domains_hold : TwoDomains
two_domains_hold = record {
  races = verdict_plain row (λ net. 0) (both_pulse ExpectLow) row_ordered;
  holds = verdict_plain row_with_lockup (lockup_last 5) (both_pulse ExpectLow) row_with_lockup_ordered;
  differs = verdict_plain row_with_lockup (lockup_last 5) (both_pulse ExpectHigh) row_with_lockup_ordered;
}

pub kept_input_holds : KeptInput
kept_input_holds = verdict_plain row (λ net. 0) set_once row_ordered

pub quiet_lockup_holds : QuietLockup
quiet_lockup_holds = verdict_plain row_with_quiet_lockup (lockup_last 5) one_pulses row_with_quiet_lockup_ordered

pub three_domains_hold : ThreeDomains
three_domains_hold = verdict_plain row_of_three (λ net. 0) all_pulse row_of_three_ordered

-- The worked examples with inverted clocks: an order of each design's nets, and what the plain replay computes.
use Rattle.std.proofs.Common.{ℕ, ◌≤◌, ◌==◌, Bool, true, false, arith}
use Rattle.std.specs.Prelude.{nat_lt, if◌then◌else◌}
use Rattle.dft_netlist.specs.Drivers.{all_driven, IsOrdered}
use Rattle.dft_patterns.specs.declared.act.Act.TheVariants.{ExpectLow}
use Rattle.dft_replay.specs.Examples.{both_pulse, all_pulse}
use Rattle.dft_replay.specs.EdgeExamples.{fall_behind_rise, one_bit, rise_behind_fall, later_bit, AcrossEdges, falling_row, falling_row_with_lockup, TwoFalls, high_lockup, shown_first, shown_held, HighLockup, quiet_low, low_rests, quiet_high, high_rests, QuietFalls, falling_with_reset, rising_with_reset, reset_once, Resets, falling_row_of_three, ThreeFalls}
use Rattle.dft_replay.proofs.ExampleLemmas.{each_ordered}
use Rattle.dft_replay.proofs.PlainLemmas.{verdict_plain}

-- the inverted clocks come after the clocks, and what lock-ups show after those
abbrev late : (net : ℕ) → ℕ
late net = if net == 3 then 2 else (if net == 5 then 2 else (if nat_lt 5 net then 1 else 0))

late_at_most : (a b c : Bool) → (if a then 2 else (if b then 2 else (if c then 1 else 0))) ≤ 8
late_at_most true b c = omega arith
late_at_most false true c = omega arith
late_at_most false false true = omega arith
late_at_most false false false = omega arith

late_within : (net : ℕ) → late net ≤ 8
late_within net = late_at_most (net == 3) (net == 5) (nat_lt 5 net)

fall_behind_rise_ordered : IsOrdered fall_behind_rise late
fall_behind_rise_ordered = record { after = each_ordered fall_behind_rise late (all_driven fall_behind_rise) (tt, (tt, (tt, ((omega arith, tt), ((omega arith, tt), (tt, (tt, tt))))))); within = late_within }

rise_behind_fall_ordered : IsOrdered rise_behind_fall late
rise_behind_fall_ordered = record { after = each_ordered rise_behind_fall late (all_driven rise_behind_fall) (tt, (tt, (tt, ((omega arith, tt), ((omega arith, tt), (tt, (tt, tt))))))); within = late_within }

falling_row_ordered : IsOrdered falling_row late
falling_row_ordered = record { after = each_ordered falling_row late (all_driven falling_row) (tt, (tt, (tt, ((omega arith, tt), ((omega arith, tt), (tt, (tt, tt))))))); within = late_within }

low_ordered : IsOrdered (falling_row_with_lockup 0) late
low_ordered = record {
  after = each_ordered (falling_row_with_lockup 0) late (all_driven (falling_row_with_lockup 0)) (tt, (tt, (tt, ((omega arith, tt), ((omega arith, tt), (tt, ((omega arith, (omega arith, tt)), (tt, tt))))))));
  within = late_within;
}

high_ordered : IsOrdered (falling_row_with_lockup 6) late
high_ordered = record {
  after = each_ordered (falling_row_with_lockup 6) late (all_driven (falling_row_with_lockup 6)) (tt, (tt, (tt, ((omega arith, tt), ((omega arith, tt), (tt, ((omega arith, (omega arith, tt)), (tt, tt))))))));
  within = late_within;
}

high_lockup_ordered : IsOrdered high_lockup late
high_lockup_ordered = record { after = each_ordered high_lockup late (all_driven high_lockup) (tt, (tt, (tt, ((omega arith, tt), ((omega arith, tt), ((omega arith, (omega arith, tt)), tt)))))); within = late_within }

quiet_low_ordered : IsOrdered quiet_low late
quiet_low_ordered = record {
  after = each_ordered quiet_low late (all_driven quiet_low) (tt, (tt, (tt, ((omega arith, tt), ((omega arith, tt), (tt, ((omega arith, (omega arith, tt)), (tt, tt))))))));
  within = late_within;
}

quiet_high_ordered : IsOrdered quiet_high late
quiet_high_ordered = record {
  after = each_ordered quiet_high late (all_driven quiet_high) (tt, (tt, (tt, ((omega arith, tt), ((omega arith, tt), (tt, ((omega arith, (omega arith, tt)), (tt, tt))))))));
  within = late_within;
}

falling_with_reset_ordered : IsOrdered falling_with_reset late
falling_with_reset_ordered = record { after = each_ordered falling_with_reset late (all_driven falling_with_reset) (tt, (tt, (tt, ((omega arith, tt), ((omega arith, tt), (tt, tt)))))); within = late_within }

rising_with_reset_ordered : IsOrdered rising_with_reset late
rising_with_reset_ordered = record { after = each_ordered rising_with_reset late (all_driven rising_with_reset) (tt, (tt, (tt, ((omega arith, tt), ((omega arith, tt), (tt, tt)))))); within = late_within }

-- the inverted clocks of three domains
abbrev later : (net : ℕ) → ℕ
later net = if nat_lt 6 net then 1 else 0

later_at_most : (b : Bool) → (if b then 1 else 0) ≤ 10
later_at_most true = omega arith
later_at_most false = omega arith

falling_row_of_three_ordered : IsOrdered falling_row_of_three later
falling_row_of_three_ordered = record {
  after = each_ordered falling_row_of_three later (all_driven falling_row_of_three) (tt, (tt, (tt, (tt, ((omega arith, tt), ((omega arith, tt), ((omega arith, tt), (tt, (tt, (tt, tt))))))))));
  within = λ net. later_at_most (nat_lt 6 net);
}

pub across_edges_hold : AcrossEdges
across_edges_hold = record {
  fresh = verdict_plain fall_behind_rise late one_bit fall_behind_rise_ordered;
  old = verdict_plain rise_behind_fall late later_bit rise_behind_fall_ordered;
}

pub two_falls_hold : TwoFalls
two_falls_hold = record {
  races = verdict_plain falling_row late (both_pulse ExpectLow) falling_row_ordered;
  low = verdict_plain (falling_row_with_lockup 0) late (both_pulse ExpectLow) low_ordered;
  high = verdict_plain (falling_row_with_lockup 6) late (both_pulse ExpectLow) high_ordered;
}

pub high_lockup_holds : HighLockup
high_lockup_holds = record { first = verdict_plain high_lockup late shown_first high_lockup_ordered; held = verdict_plain high_lockup late shown_held high_lockup_ordered }

pub quiet_falls_hold : QuietFalls
quiet_falls_hold = record { low = verdict_plain quiet_low late low_rests quiet_low_ordered; high = verdict_plain quiet_high late high_rests quiet_high_ordered }

pub resets_hold : Resets
resets_hold = record { fall = verdict_plain falling_with_reset late reset_once falling_with_reset_ordered; rise = verdict_plain rising_with_reset late reset_once rising_with_reset_ordered }

pub three_falls_hold : ThreeFalls
three_falls_hold = verdict_plain falling_row_of_three later all_pulse falling_row_of_three_ordered

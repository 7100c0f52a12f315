-- Each table of bits is shifted in by some run.
use Rattle.std.proofs.Common.{ℕ, zero, suc, ◌+◌, ◌-◌, ◌<◌, ◌≡◌, Bool, true, false, nat_lt, List, [], ◌∷◌, length, Some, slice_get, refl, ap, sym, arith, ◌∙◌}
use Rattle.std.specs.Prelude.{if◌then◌else◌}
use Rattle.std.proofs.lemmas.Bool.Decides.{nat_tests}
use Rattle.std.proofs.lemmas.Option.{none-some, same_Some}
use Rattle.dft_base.specs.declared.tri.Tri.{Tri}
use Rattle.dft_base.specs.declared.tri.Tri.TheVariants.{One, Unknown}
use Rattle.dft_base.specs.Tri.{known}
use Rattle.dft_netlist.specs.Netlist.{Netlist}
use Rattle.dft_behavior.specs.Runs.{Now, Vector, Turn, IsRun}
use Rattle.dft_config.specs.Config.{Config}
use Rattle.dft_config.specs.Ring.{Table}
use Rattle.dft_runs.specs.Choices.{PulseBelow}
use Rattle.dft_runs.proofs.Orders.{runs_exist}
use Rattle.dft_chains.specs.Shifts.{IsShift, AreShifts}
use Rattle.dft_scan_frame.specs.Statements.{IsReady}
use Rattle.dft_insert.specs.declared.style.Style.TheVariants.{Plain}
use Rattle.dft_insert.specs.Ports.{gap_in}
use Rattle.dft_insert.specs.Statements.{scanned}
use Rattle.dft_insert.specs.Agreeing.{ports_in}
use Rattle.dft_insert.proofs.Finished.{scanned_orderable}
use Rattle.dft_scan_behavior.specs.Existence.{ShiftRun, ShiftsRun}
use Rattle.dft_scan_behavior.specs.Facts.{plain_nets}
use Rattle.dft_scan_behavior.specs.PlainLaws.{plain_logic}
use Rattle.dft_scan_behavior.proofs.Heights.{ranked}
use Rattle.dft_scan_behavior.proofs.NamedNets.{named_less}

-- ---- vectors

-- the value of a port in a shift vector: a scan input has its bit, and every other port is 1
shift_value : (before : ℕ) → (row : ℕ → Bool) → (net : ℕ) → Tri
shift_value before row net = if nat_lt net (before + 1) then One else known (row (net - (before + 1)))

shift_vector : Netlist → Config → (row : ℕ → Bool) → Vector
shift_vector n config row = record { ports = shift_value (gap_in Plain n config).before row; pulsed = (ports_in Plain n config).is_clock }

shifts_from : Netlist → Config → Table → (cycle count : ℕ) → List Vector
shifts_from n config table cycle zero = []
shifts_from n config table cycle (suc count) = shift_vector n config (λ chain. table chain cycle) ∷ shifts_from n config table (suc cycle) count

other_is : (before net : ℕ) (row : ℕ → Bool) → net < before + 1 → shift_value before row net ≡ One
unfolding shift_value
other_is before net row less = (let inside : nat_lt net (before + 1) ≡ true = grind (arith, nat_tests, less) in ap (λ b. if b then One else known (row (net - (before + 1)))) inside)

entry_is : (before chain : ℕ) (row : ℕ → Bool) → shift_value before row (before + 1 + chain) ≡ known (row chain)
unfolding shift_value
entry_is before chain row =
    let past : nat_lt (before + 1 + chain) (before + 1) ≡ false = grind (arith, nat_tests) in
    let at : before + 1 + chain - (before + 1) ≡ chain = omega arith in
    ap (λ b. if b then One else known (row (before + 1 + chain - (before + 1)))) past ∙ ap (λ k. known (row k)) at

module _ (n : Netlist) (config : Config) (ready : IsReady n config) where
  abbrev before : ℕ
  before = (gap_in Plain n config).before

  is_shift : (row : ℕ → Bool) → IsShift (ports_in Plain n config) (plain_nets n config).nets.enable (shift_vector n config row)
  unfolding shift_vector
  is_shift row = record {
    enabled = other_is before before row (omega arith);
    resets = λ net is. other_is before net row (let less = named_less n config net config.resets ready is in omega (arith, less));
    domains = λ net is. is;
  }

  all_shift : (table : Table) (cycle count : ℕ) → AreShifts (ports_in Plain n config) (plain_nets n config).nets.enable (shifts_from n config table cycle count)
  unfolding shifts_from
  all_shift table cycle zero = tt
  all_shift table cycle (suc count) = (is_shift (λ chain. table chain cycle), all_shift table (suc cycle) count)

  shifts_count : (table : Table) (cycle count : ℕ) → length (shifts_from n config table cycle count) ≡ count
  unfolding shifts_from
  shifts_count table cycle zero = refl
  shifts_count table cycle (suc count) = ap suc (shifts_count table (suc cycle) count)

  first_carries : (row : ℕ → Bool) (chain : ℕ) → (shift_vector n config row).ports ((plain_nets n config).scan_in chain) ≡ known (row chain)
  unfolding shift_vector
  first_carries row chain = entry_is before chain row

  all_carry : (table : Table) (cycle count k chain : ℕ) (x : Vector) → slice_get (shifts_from n config table cycle count) k ≡ Some x → x.ports ((plain_nets n config).scan_in chain) ≡ known (table chain (k + cycle))
  unfolding shifts_from
  all_carry table cycle zero k chain x at = absurd (none-some x at)
  all_carry table cycle (suc count) zero chain x at = ap (λ (y : Vector). y.ports ((plain_nets n config).scan_in chain)) (sym (same_Some (shift_vector n config (λ j. table j cycle)) x at)) ∙ first_carries (λ j. table j cycle) chain ∙ ap (λ i. known (table chain i)) (omega arith)
  all_carry table cycle (suc count) (suc k) chain x at = all_carry table (suc cycle) count k chain x at ∙ ap (λ i. known (table chain i)) (omega arith)

  shifts_below : (table : Table) (cycle count : ℕ) → PulseBelow before (shifts_from n config table cycle count)
  unfolding shifts_from shift_vector
  shifts_below table cycle zero = tt
  shifts_below table cycle (suc count) = (λ d is. named_less n config d config.domains ready is, shifts_below table (suc cycle) count)

-- ---- the run

-- nothing is set, all clocks are low, all bits 0
abbrev pub begin : Now
begin = record {
  state = record { ports = λ net. Unknown; flops = λ c. false; high = λ d. false };
  moment = record { free = λ net. false; loose = λ i pin. false; seen = λ net. false };
}

whole_run : (n : Netlist) (config : Config) (cycles : ℕ) (table : Table) (ready : IsReady n config) (start : Now) (turns : List Turn) → IsRun (plain_logic n config) (shifts_from n config table 0 cycles) start turns → ShiftRun n config cycles table
whole_run n config cycles table ready start turns run = record {
  before = [];
  shifts = shifts_from n config table 0 cycles;
  start = start;
  ts = [];
  us = turns;
  are = all_shift n config ready table 0 cycles;
  count = shifts_count n config ready table 0 cycles;
  carries = λ chain cycle x less at. all_carry n config ready table 0 cycles cycle chain x at ∙ ap (λ i. known (table chain i)) (omega arith);
  run = record { low = run.low; turns = tt };
  turns = run.turns;
}

pub shifts_run : ShiftsRun
shifts_run n config cycles table ready =
    let rank = ranked (scanned Plain n config) (ports_in Plain n config) (λ net. scanned_orderable Plain n config ready net) in
    let run = runs_exist (plain_logic n config) rank.0 (gap_in Plain n config).before (shifts_from n config table 0 cycles) begin rank.1 (λ d. refl) (shifts_below n config ready table 0 cycles) in
    whole_run n config cycles table ready begin run.0 run.1

-- Each table is carried by some run, in a load and in an unload.
use Rattle.std.proofs.Common.{ℕ, zero, suc, ◌+◌, ◌-◌, ◌<◌, ◌≡◌, ◌==◌, ◌||◌, Bool, true, false, nat_lt, List, [], ◌∷◌, length, refl, sym, subst, ap, arith, ◌∙◌}
use Rattle.std.specs.Prelude.{if◌then◌else◌}
use Rattle.std.proofs.lemmas.Bool.{eqb-true, eq-eqb, or_right}
use Rattle.std.proofs.lemmas.Bool.Decides.{nat_tests}
use Rattle.dft_base.specs.declared.tri.Tri.{Tri}
use Rattle.dft_base.specs.declared.tri.Tri.TheVariants.{Zero, One}
use Rattle.dft_base.specs.Tri.{known}
use Rattle.dft_behavior.specs.Logic.{Logic, Ports, IsRanked}
use Rattle.dft_netlist.specs.Netlist.{Netlist}
use Rattle.dft_behavior.specs.Runs.{Now, Vector, Turn, IsTurn, after_turn, AreTurns, AreLow, IsRun}
use Rattle.dft_config.specs.Config.{Config}
use Rattle.dft_config.specs.Cycles.{longest_segment}
use Rattle.dft_config.specs.Ring.{Table}
use Rattle.dft_config.specs.Segments.{sent_mask}
use Rattle.dft_runs.specs.Choices.{PulseBelow}
use Rattle.dft_runs.specs.Passes.{after_turns}
use Rattle.dft_runs.proofs.Orders.{runs_exist}
use Rattle.dft_runs.proofs.Passing.{turns_pass}
use Rattle.dft_stitch.specs.Chains.{plan_of}
use Rattle.dft_edt.specs.Hardware.{EdtNets}
use Rattle.dft_edt.specs.Loads.{CarryTable}
use Rattle.dft_edt.specs.Unloads.{Rest, SendMasks}
use Rattle.dft_edt.specs.Vectors.{IsEdtShift, IsClearing, Carries, Sends}
use Rattle.dft_scan_frame.specs.ConfigPorts.{config_ports}
use Rattle.dft_scan_frame.specs.Statements.{IsReady}
use Rattle.dft_insert.specs.declared.style.Style.TheVariants.{Edt}
use Rattle.dft_insert.specs.Ports.{gap_in}
use Rattle.dft_insert.specs.Agreeing.{ports_in}
use Rattle.dft_insert.proofs.MadeGood.{from_at}
use Rattle.dft_scan_behavior.specs.EdtVectors.{edt_logic}
use Rattle.dft_scan_behavior.specs.Experiments.{Send}
use Rattle.dft_scan_behavior.specs.Facts.{chain_nets, edt_hardware}
use Rattle.dft_scan_behavior.proofs.EdtUnder.{edt_rank}
use Rattle.dft_scan_behavior.proofs.NamedNets.{named_less}
use Rattle.dft_scan_behavior.proofs.PortsDriven.{no_clock}
use Rattle.dft_scan_behavior.proofs.ShiftRuns.{begin}
use Rattle.dft_load_laws.specs.Loading.{LoadRun, LoadsRun}
use Rattle.dft_load_laws.specs.Unloading.{MaskRun, UnloadsRun, after_masks}

-- ---- vectors

-- the value of a port in a shift vector: edt_update is 0, a channel has its bit, and every other port is 1
shift_value : (before : ℕ) → (row : ℕ → Bool) → (net : ℕ) → Tri
shift_value before row net = if net == before + 2 then Zero else (if nat_lt net (before + 3) then One else known (row (net - (before + 3))))

shift_vector : Netlist → Config → (row : ℕ → Bool) → Vector
shift_vector n config row = record { ports = shift_value (gap_in Edt n config).before row; pulsed = (ports_in Edt n config).is_clock }

clear_vector : Netlist → Config → Vector
clear_vector n config = record { ports = λ net. if net == (edt_hardware n config).update then One else Zero; pulsed = λ d. d == (edt_hardware n config).clock }

-- a vector in which edt_clock rests and all others pulse
rest_vector : Netlist → Config → Vector
rest_vector n config = record { ports = λ net. One; pulsed = (config_ports n config).is_clock }

-- the bits behind those of the channels are what the mask ports get at a cycle
mask_bits : Config → (masks : ℕ → Bool) → (cycles : ℕ) → Table
mask_bits config masks cycles j cycle = sent_mask config masks cycles (j - config.ring.channels) cycle

shifts_from : Netlist → Config → Table → (cycle count : ℕ) → List Vector
shifts_from n config table cycle zero = []
shifts_from n config table cycle (suc count) = shift_vector n config (λ j. table j cycle) ∷ shifts_from n config table (suc cycle) count

low_is : (before net : ℕ) (row : ℕ → Bool) → net < before + 2 → shift_value before row net ≡ One
unfolding shift_value
low_is before net row less =
    let apart : (net == before + 2) ≡ false = grind (arith, nat_tests, less) in
    let inside : nat_lt net (before + 3) ≡ true = grind (arith, nat_tests, less) in
    ap (λ b. if b then Zero else (if nat_lt net (before + 3) then One else known (row (net - (before + 3))))) apart ∙ ap (λ b. if b then One else known (row (net - (before + 3)))) inside

update_is : (before : ℕ) (row : ℕ → Bool) → shift_value before row (before + 2) ≡ Zero
unfolding shift_value
update_is before row = ap (λ b. if b then Zero else (if nat_lt (before + 2) (before + 3) then One else known (row (before + 2 - (before + 3))))) (eq-eqb (before + 2) (before + 2) refl)

channel_is : (before j : ℕ) (row : ℕ → Bool) → shift_value before row (before + 3 + j) ≡ known (row j)
unfolding shift_value
channel_is before j row =
    let net : ℕ = before + 3 + j in
    let apart : (before + 3 + j == before + 2) ≡ false = grind (arith, nat_tests) in
    let past : nat_lt (before + 3 + j) (before + 3) ≡ false = grind (arith, nat_tests) in
    let at : before + 3 + j - (before + 3) ≡ j = omega arith in
    ap (λ b. if b then Zero else (if nat_lt net (before + 3) then One else known (row (net - (before + 3))))) apart ∙ ap (λ b. if b then One else known (row (net - (before + 3)))) past ∙ ap (λ k. known (row k)) at

module _ (n : Netlist) (config : Config) (ready : IsReady n config) where
  abbrev before : ℕ
  before = (gap_in Edt n config).before

  abbrev hw : EdtNets
  hw = edt_hardware n config

  is_shift : (row : ℕ → Bool) → IsEdtShift (ports_in Edt n config) (chain_nets Edt n config) hw (shift_vector n config row)
  unfolding shift_vector
  is_shift row = record {
    shift = record {
      enabled = low_is before before row (omega arith);
      resets = λ net is. low_is before net row (let less = named_less n config net config.resets ready is in omega (arith, less));
      domains = λ net is. is;
    };
    update = update_is before row;
    clock = or_right ((config_ports n config).is_clock (before + 1)) (before + 1 == before + 1) (eq-eqb (before + 1) (before + 1) refl);
  }

  carries : (row : ℕ → Bool) → Carries config hw row (shift_vector n config row)
  unfolding shift_vector
  carries row j less = ap (shift_value before row) (from_at (before + 3) config.ring.channels j less) ∙ channel_is before j row

  carry_all : (table : Table) (cycle count : ℕ) → CarryTable (ports_in Edt n config) config (chain_nets Edt n config) hw table cycle (shifts_from n config table cycle count)
  unfolding shifts_from
  carry_all table cycle zero = tt
  carry_all table cycle (suc count) = ((is_shift (λ j. table j cycle), carries (λ j. table j cycle)), carry_all table (suc cycle) count)

  shifts_count : (table : Table) (cycle count : ℕ) → length (shifts_from n config table cycle count) ≡ count
  unfolding shifts_from
  shifts_count table cycle zero = refl
  shifts_count table cycle (suc count) = ap suc (shifts_count table (suc cycle) count)

  clears : IsClearing hw (clear_vector n config)
  unfolding clear_vector
  clears = record { update = ap (λ b. if b then One else Zero) (eq-eqb hw.update hw.update refl); clock = eq-eqb hw.clock hw.clock refl }

  -- ---- clocks that pulse

  clock_by : (d : ℕ) (a b : Bool) → (config_ports n config).is_clock d ≡ a → (d == before + 1) ≡ b → (a || b) ≡ true → d < before + 2
  clock_by d true b is at e = (let less = named_less n config d config.domains ready is in omega (arith, less))
  clock_by d false true is at e = (let same = eqb-true d (before + 1) at in omega (arith, same))
  clock_by d false false is at e = absurd cc

  clock_less : (d : ℕ) → (ports_in Edt n config).is_clock d ≡ true → d < before + 2
  clock_less d is = clock_by d ((config_ports n config).is_clock d) (d == before + 1) refl refl is

  shifts_below : (table : Table) (cycle count : ℕ) → PulseBelow (before + 2) (shifts_from n config table cycle count)
  unfolding shifts_from shift_vector
  shifts_below table cycle zero = tt
  shifts_below table cycle (suc count) = (clock_less, shifts_below table (suc cycle) count)

  shift_below : (row : ℕ → Bool) → PulseBelow (before + 2) (shift_vector n config row ∷ [])
  unfolding shift_vector
  shift_below row = (clock_less, tt)

  clear_below : PulseBelow (before + 2) (clear_vector n config ∷ [])
  unfolding clear_vector
  clear_below = ((λ d is. (let same = eqb-true d hw.clock is in omega (arith, same))), tt)

  all_below : (table : Table) → PulseBelow (before + 2) (clear_vector n config ∷ shifts_from n config table 0 (plan_of n config).cycles)
  all_below table = (clear_below.0, shifts_below table 0 (plan_of n config).cycles)

  -- ---- masks

  sends : (masks : ℕ → Bool) (cycles cycle : ℕ) → Sends config hw (λ segment. sent_mask config masks cycles segment cycle) (shift_vector n config (λ j. mask_bits config masks cycles j cycle))
  unfolding shift_vector mask_bits
  sends masks cycles cycle m less =
      let row : ℕ → Bool = λ j. sent_mask config masks cycles (j - config.ring.channels) cycle in
      let here : before + 3 + config.ring.channels + m ≡ before + 3 + (config.ring.channels + m) = omega arith in
      let at : config.ring.channels + m - config.ring.channels ≡ m = omega arith in
      ap (shift_value before row) (from_at (before + 3 + config.ring.channels) config.compactor.mask_inputs m less ∙ here)
      ∙ channel_is before (config.ring.channels + m) row
      ∙ ap (λ segment. known (sent_mask config masks cycles segment cycle)) at

  send_all : (masks : ℕ → Bool) (cycles cycle count : ℕ) → SendMasks config hw masks cycles cycle (shifts_from n config (mask_bits config masks cycles) cycle count)
  unfolding shifts_from
  send_all masks cycles cycle zero = tt
  send_all masks cycles cycle (suc count) = (((is_shift (λ j. mask_bits config masks cycles j cycle)).clock, sends masks cycles cycle), send_all masks cycles (suc cycle) count)

  send_as_long : (masks : ℕ → Bool) (cycles count : ℕ) → count ≡ cycles → SendMasks config hw masks count 0 (shifts_from n config (mask_bits config masks cycles) 0 cycles)
  send_as_long masks cycles count is = subst (λ (k : ℕ). SendMasks config hw masks k 0 (shifts_from n config (mask_bits config masks cycles) 0 cycles)) (sym is) (send_all masks cycles 0 cycles)

  load_sends : (masks : ℕ → Bool) (cycles : ℕ) → Send n config masks (shifts_from n config (mask_bits config masks cycles) 0 cycles)
  load_sends masks cycles = send_as_long masks cycles (length (shifts_from n config (mask_bits config masks cycles) 0 cycles)) (shifts_count (mask_bits config masks cycles) 0 cycles)

  rests : Rest hw (rest_vector n config ∷ [])
  unfolding rest_vector
  rests = (no_clock n config (before + 1) config.domains ready (omega arith), tt)

  rest_below : PulseBelow (before + 2) (rest_vector n config ∷ [])
  unfolding rest_vector
  rest_below = (λ d is. (let less = named_less n config d config.domains ready is in omega (arith, less)), tt)

-- ---- the run

split_run : (n : Netlist) (config : Config) (ports : Ports) (table : Table) (ready : IsReady n config) (start : Now) (turns : List Turn) → IsRun (edt_logic n config ports) (clear_vector n config ∷ shifts_from n config table 0 (plan_of n config).cycles) start turns →
    LoadRun n config ports table
split_run n config ports table ready start [] run = absurd run.turns
split_run n config ports table ready start (a ∷ us) run = record {
  before = [];
  clear = clear_vector n config;
  load = shifts_from n config table 0 (plan_of n config).cycles;
  start = start;
  ts = [];
  a = a;
  us = us;
  clearing = clears n config ready;
  carries = carry_all n config ready table 0 (plan_of n config).cycles;
  count = shifts_count n config ready table 0 (plan_of n config).cycles;
  run = record { low = run.low; turns = tt };
  turn = run.turns.0;
  turns = run.turns.1;
}

pub loads_run : LoadsRun
loads_run n config ports table ready suits =
    let rank = edt_rank n config ports ready in
    let run = runs_exist (edt_logic n config ports) rank.0 ((gap_in Edt n config).before + 2) (clear_vector n config ∷ shifts_from n config table 0 (plan_of n config).cycles) begin rank.1 (λ d. refl) (all_below n config ready table) in
    split_run n config ports table ready begin run.0 run.1

-- ---- one list of vectors behind another

-- turns over some vectors, which leave all clocks low
record GoesOn (l : Logic) (now : Now) (xs : List Vector) : Type 0 where
  turns : List Turn
  are : AreTurns l now xs turns
  low : AreLow (after_turns l now xs turns).state

goes_on : (l : Logic) (rank : ℕ → ℕ) (bound : ℕ) (now : Now) (xs : List Vector) → IsRanked l rank → AreLow now.state → PulseBelow bound xs → GoesOn l now xs
goes_on l rank bound now xs ranked low below =
    let run = runs_exist l rank bound xs now ranked low below in
    let passed = turns_pass l rank now xs run.0 ranked low run.1.turns in
    record { turns = run.0; are = run.1.turns; low = passed.2 }

record OneMore (l : Logic) (now : Now) (x : Vector) : Type 0 where
  turn : Turn
  is : IsTurn l x now turn
  low : AreLow (after_turn l x now turn).state

one_of : (l : Logic) (now : Now) (x : Vector) (ts : List Turn) → AreTurns l now (x ∷ []) ts → AreLow (after_turns l now (x ∷ []) ts).state → OneMore l now x
one_of l now x [] are low = absurd are
one_of l now x (t ∷ []) are low = record { turn = t; is = are.0; low = low }
one_of l now x (t ∷ u ∷ ts) are low = absurd are.1

one_more : (l : Logic) (rank : ℕ → ℕ) (bound : ℕ) (now : Now) (x : Vector) → IsRanked l rank → AreLow now.state → PulseBelow bound (x ∷ []) → OneMore l now x
one_more l rank bound now x ranked low below = (let on = goes_on l rank bound now (x ∷ []) ranked low below in one_of l now x on.turns on.are on.low)

-- ---- an unload

-- a run of masks, which leaves all clocks low
record LowMasks (n : Netlist) (config : Config) (ports : Ports) (masks : ℕ → Bool) : Type 0 where
  run : MaskRun n config ports masks
  low : AreLow (after_masks n config ports masks run).state

masks_run : (n : Netlist) (config : Config) (ports : Ports) (masks : ℕ → Bool) → IsReady n config → (rank : ℕ → ℕ) → IsRanked (edt_logic n config ports) rank → LowMasks n config ports masks
masks_run n config ports masks ready rank ranked =
    let l : Logic = edt_logic n config ports in
    let cycles : ℕ = longest_segment config in
    let bound : ℕ = (gap_in Edt n config).before + 2 in
    let load : List Vector = shifts_from n config (mask_bits config masks cycles) 0 cycles in
    let between : List Vector = rest_vector n config ∷ [] in
    let loading = goes_on l rank bound begin load ranked (λ d. refl) (shifts_below n config ready (mask_bits config masks cycles) 0 cycles) in
    let resting = goes_on l rank bound (after_turns l begin load loading.turns) between ranked loading.low (rest_below n config ready) in
    let clearing = one_more l rank bound (after_turns l (after_turns l begin load loading.turns) between resting.turns) (clear_vector n config) ranked resting.low (clear_below n config ready) in record {
      run = record {
        before = [];
        load = load;
        between = between;
        clear = clear_vector n config;
        start = begin;
        ts = [];
        us = loading.turns;
        ms = resting.turns;
        a = clearing.turn;
        sends = load_sends n config ready masks cycles;
        long = (let count = shifts_count n config ready (mask_bits config masks cycles) 0 cycles in omega (arith, count));
        rests = rests n config ready;
        clearing = clears n config ready;
        run = record { low = λ d. refl; turns = tt };
        turns = loading.are;
        resting = resting.are;
        turn = clearing.is;
      };
      low = clearing.low;
    }

pub unloads_run : UnloadsRun
unloads_run n config ports masks cycles table ready suits =
    let l : Logic = edt_logic n config ports in
    let rank = edt_rank n config ports ready in
    let bound : ℕ = (gap_in Edt n config).before + 2 in
    let masked = masks_run n config ports masks ready rank.0 rank.1 in
    let now : Now = after_masks n config ports masks masked.run in
    let unload : List Vector = shifts_from n config table 0 cycles in
    let next : Vector = shift_vector n config (λ j. table j cycles) in
    let unloading = goes_on l rank.0 bound now unload rank.1 masked.low (shifts_below n config ready table 0 cycles) in
    let last = one_more l rank.0 bound (after_turns l now unload unloading.turns) next rank.1 unloading.low (shift_below n config ready (λ j. table j cycles)) in record {
      masked = masked.run;
      unload = unload;
      next = next;
      vs = unloading.turns;
      b = last.turn;
      carries = carry_all n config ready table 0 cycles;
      count = shifts_count n config ready table 0 cycles;
      shift = is_shift n config ready (λ j. table j cycles);
      turns = unloading.are;
      turn = last.is;
    }

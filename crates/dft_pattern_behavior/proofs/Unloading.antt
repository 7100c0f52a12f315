-- What was captured is shown while the next load runs.
use Rattle.std.proofs.Common.{ℕ, suc, ◌+◌, ◌-◌, ◌<◌, ◌≡◌, Bool, true, false, nat_lt, List, [], length, map, take, get_or, option_map, Some, slice_get, refl, sym, ap, arith, ◌∙◌}
use Rattle.std.specs.Prelude.{slice_index_or, if◌then◌else◌}
use Rattle.std.specs.List.{list_any}
use Rattle.std.proofs.lemmas.Bool.Decides.{nat_tests}
use Rattle.std.proofs.lemmas.List.{length-map}
use Rattle.std.proofs.lemmas.Option.{slice_get-map, get_or_from_slice_get}
use Rattle.dft_base.specs.declared.tri.Tri.{Tri}
use Rattle.dft_base.specs.declared.tri.Tri.TheVariants.{Zero, One, Unknown}
use Rattle.dft_base.specs.Solutions.{bit_at}
use Rattle.dft_base.specs.Tri.{known, AboveTri}
use Rattle.dft_base.proofs.ListLemmas.{get_there}
use Rattle.dft_netlist.specs.declared.ids.InstanceId.{InstanceId}
use Rattle.dft_behavior.specs.Logic.{Logic, Ports}
use Rattle.dft_netlist.specs.Netlist.{Netlist}
use Rattle.dft_behavior.specs.Runs.{Vector}
use Rattle.dft_abstract.specs.Cycle.{Round}
use Rattle.dft_config.specs.Config.{Config}
use Rattle.dft_config.specs.declared.config.RingConfig.{RingConfig}
use Rattle.dft_config.specs.Loads.{delay}
use Rattle.dft_config.specs.Ring.{Table, state_after, phase_sum}
use Rattle.dft_runs.specs.Passes.{AreRounds}
use Rattle.dft_stitch.specs.Chains.{cells_of, plan_of}
use Rattle.dft_stitch.specs.Plans.{cell_at, falling_head}
use Rattle.dft_stitch.proofs.BlockLemmas.{chain_count}
use Rattle.dft_edt.specs.Hardware.{EdtNets}
use Rattle.dft_edt.specs.Unloads.{AreMasked, end_value}
use Rattle.dft_edt.specs.Vectors.{Clears}
use Rattle.dft_expect.specs.Captures.{capture_vectors, last_state, original}
use Rattle.dft_expect.specs.Expected.{is_one, from_end, shown_by, chain_at}
use Rattle.dft_expect.specs.Loaded.{loaded_of, loaded_values}
use Rattle.dft_expect.specs.Masks.{always_of, by_chain, is_unknown}
use Rattle.dft_expect.proofs.MaskLemmas.{unmasked}
use Rattle.dft_scan_frame.specs.Statements.{IsReady}
use Rattle.dft_insert.specs.declared.style.Style.TheVariants.{Edt}
use Rattle.dft_insert.specs.Agreeing.{ports_in}
use Rattle.dft_scan_behavior.specs.EdtVectors.{SuitsEdt, edt_logic}
use Rattle.dft_scan_behavior.specs.Experiments.{Carry}
use Rattle.dft_scan_behavior.specs.Facts.{chain_nets, edt_hardware}
use Rattle.dft_scan_behavior.proofs.Outputs.{at_chain}
use Rattle.dft_scan_behavior.proofs.Reaching.{unloads_show}
use Rattle.dft_pattern_behavior.specs.Given.{Pattern, IsPattern}
use Rattle.dft_pattern_behavior.specs.Rounds.{ShowsUnload}
use Rattle.dft_pattern_behavior.proofs.Lists.{cut_back, any_none, rounds_there, rounds_at, carry_take, carry_at, take_length}

-- ---- what stands after a capture

-- the bits that the pattern's load brings
abbrev pub loaded_in : Netlist → Config → Pattern → List Bool
loaded_in n config p = loaded_of config.ring p.table (plan_of n config).cycles (falling_head (plan_of n config)) (plan_of n config).chains

-- the value that a pattern captures in a cell
abbrev pub captured_in : (n : Netlist) (config : Config) (p : Pattern) → IsPattern n config p → InstanceId → Tri
captured_in n config p is cell = last_state (original n config) (plan_of n config).chains (capture_vectors n config p.merged) (loaded_values (plan_of n config).chains (loaded_in n config p)) is.captured.settled cell.0

-- the ring is clear, the hold bits are the masks, and each cell has what was captured, where that is known
pub record HasCaptured (n : Netlist) (config : Config) (p : Pattern) (is : IsPattern n config p) (old : ℕ → Tri) : Type 0 where
  pub clear : Clears config (edt_hardware n config) old
  pub masked : AreMasked config (edt_hardware n config) (bit_at p.masks) old
  pub cells : (chain place : ℕ) (cell : InstanceId) → cell_at (plan_of n config).chains chain place ≡ Some cell → AboveTri (captured_in n config p is cell) (old cell.0)

-- ---- known values

above_known : (v t : Tri) → is_unknown v ≡ false → AboveTri v t → t ≡ known (is_one v)
above_known Unknown t e h = absurd cc
above_known Zero Zero e h = refl
above_known Zero One e h = absurd h
above_known Zero Unknown e h = absurd h
above_known One One e h = refl
above_known One Zero e h = absurd h
above_known One Unknown e h = absurd h

-- the end of a chain, by what its cells have
ends_by : (ring : RingConfig) (running : Table) (late : Bool) (chain t : ℕ) (cells : List InstanceId) (f : InstanceId → Tri) (old : ℕ → Tri) (b : Bool) → nat_lt t (length cells) ≡ b → ((k : ℕ) (cell : InstanceId) → slice_get cells k ≡ Some cell → old cell.0 ≡ known (is_one (f cell))) →
    (if nat_lt t (length cells) then old (get_or cells (length cells - suc t) (record { 0 = 0 })).0 else known (phase_sum ring chain (state_after ring running (t - length cells + delay late)))) ≡ known (shown_by ring running late chain (map f cells) t)
ends_by ring running late chain t cells f old true is each =
    let m : length (map f cells) ≡ length cells = length-map cells f in
    let less : t < length cells = grind (arith, nat_tests, is) in
    let here = get_there cells (length cells - suc t) (omega (arith, less)) in
    let cell : InstanceId = here.0 in
    let at : length (map f cells) - 1 - t ≡ length cells - suc t = omega (arith, m, less) in
    let lhs : old (get_or cells (length cells - suc t) (record { 0 = 0 })).0 ≡ known (is_one (f cell)) = ap (λ (c : InstanceId). old c.0) (get_or_from_slice_get cells (length cells - suc t) cell (record { 0 = 0 }) here.1) ∙ each (length cells - suc t) cell here.1 in
    let rhs : from_end (map f cells) t ≡ f cell = ap (λ k. slice_index_or (map f cells) k Unknown) at ∙ get_or_from_slice_get (map f cells) (length cells - suc t) (f cell) Unknown (slice_get-map f cells (length cells - suc t) ∙ ap (option_map f) here.1) in
    ap (λ c. if c then old (get_or cells (length cells - suc t) (record { 0 = 0 })).0 else known (phase_sum ring chain (state_after ring running (t - length cells + delay late)))) is
    ∙ lhs
    ∙ ap (λ v. known (is_one v)) (sym rhs)
    ∙ ap (λ c. known (if c then is_one (from_end (map f cells) t) else phase_sum ring chain (state_after ring running (t - length (map f cells) + delay late)))) (sym is ∙ ap (nat_lt t) (sym m))
ends_by ring running late chain t cells f old false is each =
    let m : length (map f cells) ≡ length cells = length-map cells f in
    ap (λ c. if c then old (get_or cells (length cells - suc t) (record { 0 = 0 })).0 else known (phase_sum ring chain (state_after ring running (t - length cells + delay late)))) is
    ∙ ap (λ k. known (phase_sum ring chain (state_after ring running (t - k + delay late)))) (sym m)
    ∙ ap (λ c. known (if c then is_one (from_end (map f cells) t) else phase_sum ring chain (state_after ring running (t - length (map f cells) + delay late)))) (sym is ∙ ap (nat_lt t) (sym m))

module _ (n : Netlist) (config : Config) (ports : Ports) (p : Pattern) (old : ℕ → Tri) (ready : IsReady n config) (suits : SuitsEdt n config ports) (is : IsPattern n config p) (has : HasCaptured n config p is old) where
  abbrev chains : List (List InstanceId)
  chains = (plan_of n config).chains

  abbrev late : ℕ → Bool
  late = falling_head (plan_of n config)

  abbrev its : InstanceId → Tri
  its = captured_in n config p is

  abbrev values : List (List Tri)
  values = by_chain chains p.response.cells

  values_are : values ≡ map (map its) chains
  values_are = ap (by_chain chains) is.captured.cells ∙ cut_back its chains

  end_known : (running : Table) (t chain : ℕ) → chain < config.chains → bit_at p.masks chain ≡ false → end_value config.ring chains late running old t chain ≡ known (shown_by config.ring running (late chain) chain (chain_at values chain) t)
  end_known running t chain less open_it =
      let there = get_there chains chain (let count = chain_count (cells_of n config) config.chains in omega (arith, less, count)) in
      let cells : List InstanceId = there.0 in
      let at : slice_get (map (map its) chains) chain ≡ Some (map its cells) = slice_get-map (map its) chains chain ∙ ap (option_map (map its)) there.1 in
      let row : chain_at values chain ≡ map its cells = ap (λ (vs : List (List Tri)). slice_index_or vs chain []) values_are ∙ get_or_from_slice_get (map (map its) chains) chain (map its cells) [] at in
      let own : get_or chains chain [] ≡ cells = get_or_from_slice_get chains chain cells [] there.1 in
      let none : list_any is_unknown (map its cells) ≡ false =
      unmasked (always_of config) values chain (map its cells) (ap (λ (vs : List (List Tri)). slice_get vs chain) values_are ∙ at) (sym (ap (λ (ms : List Bool). bit_at ms chain) is.masked) ∙ open_it) in
      ap (λ (cs : List InstanceId). if nat_lt t (length cs) then old (get_or cs (length cs - suc t) (record { 0 = 0 })).0 else known (phase_sum config.ring chain (state_after config.ring running (t - length cs + delay (late chain))))) own
      ∙ ends_by config.ring running (late chain) chain t cells its old (nat_lt t (length cells)) refl
      (λ k cell here. above_known (its cell) (old cell.0) (any_none is_unknown (map its cells) k (its cell) none (slice_get-map its cells k ∙ ap (option_map its) here)) (has.cells chain k cell (at_chain chains chain k cells cell there.1 here)))
      ∙ ap (λ (vs : List Tri). known (shown_by config.ring running (late chain) chain vs t)) (sym row)

  pub unload_shows : (running : Table) (xs : List Vector) (qs : List Round) → Carry n config running xs → AreRounds (edt_logic n config ports) old xs qs → ShowsUnload n config p running qs
  unload_shows running xs qs carry rounds t r here j less =
      let l : Logic = edt_logic n config ports in
      let w = chain_nets Edt n config in
      let hw : EdtNets = edt_hardware n config in
      let x = rounds_there l old xs qs t r rounds here in
      let cut = rounds_at l old xs qs t x.0 r rounds x.1 here in
      let long : length (take t xs) ≡ t = take_length xs t x.0 x.1 in
      (unloads_show n config ports ready suits).1 running (bit_at p.masks) (take t xs) x.0 old (take t qs) r (λ chain. shown_by config.ring running (late chain) chain (chain_at values chain) t)
      (carry_take (ports_in Edt n config) config w hw running 0 xs t carry) (carry_at (ports_in Edt n config) config w hw running 0 xs t x.0 carry x.1) cut.0 cut.1 has.clear has.masked
      (λ chain inside open_it. ap (λ k. end_value config.ring chains late running old k chain) long ∙ end_known running t chain inside open_it) j less

-- Each table of a planned design that is made ready is what its name says.
use Rattle.std.proofs.Common.{ℕ, ◌≡◌, ◌<◌, ◌≤◌, ◌==◌, inl, inr, Bool, true, false, not, ◌&&◌, ◌||◌, List, [], ◌∷◌, length, filter, Option, None, Some, refl, sym, subst, ap, arith, ◌∙◌, true≢false}
use Rattle.std.specs.Prelude.{if◌then◌else◌}
use Rattle.std.specs.List.{AllByRecursion}
use Rattle.std.proofs.lemmas.Bool.{eq-eqb, or_right}
use Rattle.std.proofs.lemmas.Bool.Decides.{leb_tells}
use Rattle.std.proofs.lemmas.List.{get_or_past}
use Rattle.std.proofs.lemmas.Option.{slice_get_past}
use Rattle.dft_base.proofs.BitLemmas.{and_assoc}
use Rattle.dft_netlist.proofs.LiveLemmas.{past_free}
use Rattle.dft_netlist.specs.declared.ids.NetId.{NetId}
use Rattle.dft_netlist.specs.declared.ids.InstanceId.{InstanceId}
use Rattle.dft_cells.specs.declared.kind.Role.TheVariants as role
use Rattle.dft_netlist.specs.Netlist.{Netlist}
use Rattle.dft_netlist.specs.Connections.{is_input, signal_of, pin_of}
use Rattle.dft_behavior.specs.ClockRoots.{ClockRoot}
use Rattle.dft_netlist.specs.Drivers.{Driver, driver, pins_at as connected_at, pins_of}
use Rattle.dft_netlist.specs.Drivers as drivers
use Rattle.dft_behavior.specs.Logic as meanings
use Rattle.dft_behavior.specs.Logic.{Cell, Logic, Ports, domain_at, flip_flop, flop_meaning, lockup_meaning, meaning_of, or_loose}
use Rattle.dft_netlist.specs.Orders.{HasOrder}
use Rattle.dft_netlist.specs.Sound.{IsNetlist}
use Rattle.dft_cells.specs.WellFormed.{IsWellFormed}
use Rattle.dft_config.specs.Config.{Config}
use Rattle.dft_config.specs.Range.{IsInRange}
use Rattle.dft_rules.specs.Refusals.{refusal}
use Rattle.dft_rules.specs.ConfigPorts.{config_ports}
use Rattle.dft_expect.specs.Capturing.{CanCapture}
use Rattle.dft_expect.proofs.ScannedCells.{IsModelled}
use Rattle.dft_logic.specs.declared.circuit.Op.{Op}
use Rattle.dft_logic.specs.declared.circuit.Op.TheVariants as op
use Rattle.dft_logic.specs.Circuit.{Circuit, flag_at, logic_at, meaning, op_at}
use Rattle.dft_logic.specs.Compiling.{IsCircuitOf, ports_by}
use Rattle.dft_capture.specs.Captures.{meaning_in}
use Rattle.dft_seek.specs.Searches.{Search, cells_in, drivable_ports, has_cell, input_bits, is_drivable, moving_of}
use Rattle.dft_seek.specs.Walks.{is_output_of, is_passed, walked_from}
use Rattle.dft_seek.specs.Marks.{steps_at}
use Rattle.dft_seek.specs.Pins.{ArePins, ArePinsOf, no_pins, pins_at}
use Rattle.dft_seek.specs.Rigs.{held_meaning, shows_at, shows_in}
use Rattle.dft_seek.specs.Steps.{is_input_of, op_steps, shown_at}
use Rattle.dft_seek.specs.declared.pins.Pins.{Pins}
use Rattle.dft_seek.proofs.RigLemmas.{IsThere, captured_means, cell_there, flags_more, flop_more}
use Rattle.dft_seek.proofs.StepLemmas.{steps_walked}

-- ---- the design

-- what is asked of a design, where it is that of a plan
pub can_by : (n m : Netlist) (config : Config) → m ≡ n → IsInRange config → refusal n config ≡ None → IsNetlist m → IsWellFormed m.library → HasOrder m → CanCapture n config
can_by n m config same range passed netlist library ordered =
    record { range = range; passed = passed; netlist = subst IsNetlist same netlist; library = subst (λ (k : Netlist). IsWellFormed k.library) same library; ordered = subst HasOrder same ordered }

-- ---- past the end

-- an instance that is not there has no pins
past_pins : (n : Netlist) (i : ℕ) → length n.instances ≤ i → pins_of n i ≡ []
past_pins n i past = ap (connected_at n.library) (slice_get_past n.instances i past)

no_pins_of : (n : Netlist) (i : ℕ) → pins_of n i ≡ [] → ArePinsOf n i no_pins
no_pins_of n i none = record {
  reset = sym (ap (signal_of role.Reset) none);
  preset = sym (ap (signal_of role.Preset) none);
  enable = sym (ap (signal_of role.ScanEnable) none);
  scan = sym (ap (signal_of role.ScanIn) none);
  input = sym (ap (signal_of role.Din) none);
}

pub pins_all : (n : Netlist) (pins : List Pins) → length pins ≡ length n.instances → ((i : ℕ) → i < length n.instances → ArePinsOf n i (pins_at pins i)) → ArePins n pins
pins_all n pins count each = record {
  count = count;
  each = λ i. elim (leb_tells (length n.instances) i) [
    | inl out ↦ (let past = out.1 in subst (ArePinsOf n i) (sym (get_or_past pins i no_pins (omega (arith, past, count)))) (no_pins_of n i (past_pins n i past)))
    | inr less ↦ each i less.1
  ];
}

pub shows_all : (n : Netlist) (shows : List (Option InstanceId)) → IsNetlist n → length shows ≡ length n.nets → ((net c : ℕ) → net < length n.nets → shows_at shows net c ≡ is_output_of c (driver n net)) →
    (net c : ℕ) → shows_at shows net c ≡ is_output_of c (driver n net)
shows_all n shows sound count each net c = elim (leb_tells (length n.nets) net) [
  | inl out ↦ (let past = out.1 in ap (λ (o : Option InstanceId). shows_in o c) (get_or_past shows net None (omega (arith, past, count))) ∙ sym (ap (is_output_of c) (past_free n sound net past)))
  | inr less ↦ each net c less.1
]

-- ---- what nets mean

op_means : (n : Netlist) (ports : Ports) (x : Circuit) (k : ℕ) → IsCircuitOf n ports x → meaning (op_at x.ops k) ≡ meaning_of n ports k (driver n k)
unfolding logic_at
op_means n ports x k is = sym (ap (λ (l : Logic). l.net k) is.compiled)

modelled_there : (s : Search) (i : ℕ) → CanCapture s.design s.config → has_cell (cells_in s) i ≡ true → IsThere (flip_flop s.design (config_ports s.design s.config) i)
modelled_there s i can held = (let there : IsModelled s.design s.config i = cell_there s.design s.config i can held in (_, there.flop))

pub means_are : (s : Search) (clocks holds : List Bool) (x : Circuit) → CanCapture s.design s.config → IsCircuitOf s.design (ports_by clocks) x → ((net : ℕ) → flag_at clocks net ≡ (config_ports s.design s.config).is_clock net) →
    ((c : ℕ) → flag_at holds c ≡ has_cell (cells_in s) c) → (k : ℕ) → held_meaning (flag_at holds) (meaning (op_at x.ops k)) ≡ meaning_in (moving_of s) k (driver s.design k)
means_are s clocks holds x can is same held k =
    (λ t. held_meaning (λ c. held c t) (op_means s.design (ports_by clocks) x k is t))
    ∙ captured_means s.design (ports_by clocks) (moving_of s) k (driver s.design k) same
    (λ i h. flop_more s.design (config_ports s.design s.config) (ports_by clocks) i (flags_more s.design s.config clocks can.range same) (modelled_there s i can h))

-- ---- walks

pub steps_all : (s : Search) (clocks : List Bool) (x : Circuit) (shows : List (Option InstanceId)) (pins : List Pins) (passed : List Bool) (steps : List (List NetId)) → IsNetlist s.design → IsCircuitOf s.design (ports_by clocks) x → ArePins s.design pins →
    ((c : ℕ) → flag_at passed c ≡ is_passed s c) → ((net c : ℕ) → shows_at shows net c ≡ is_output_of c (driver s.design net)) → length steps ≡ length x.ops →
    ((net : ℕ) → net < length x.ops → steps_at steps net ≡ op_steps (op_at x.ops net) (shown_at shows net) pins passed) → (net : ℕ) → steps_at steps net ≡ walked_from s (driver s.design net)
steps_all s clocks x shows pins passed steps sound is are passes shown count each net = elim (leb_tells (length x.ops) net) [
  | inl out ↦ (let past = out.1 in let nets = is.nets in
      ap (λ (l : List NetId). steps_of l) (get_or_past steps net [] (omega (arith, past, count))) ∙ sym (ap (walked_from s) (past_free s.design sound net (omega (arith, past, nets)))))
  | inr less ↦ each net less.1
      ∙ steps_walked s (ports_by clocks) (op_at x.ops net) (shown_at shows net) pins passed net (driver s.design net) are passes (op_means s.design (ports_by clocks) x net is) (shown net)
]
  where
    steps_of : List NetId → List ℕ
    steps_of l = steps_at (l ∷ []) 0

-- ---- ports

-- what means an input is the bit of an input port that is no clock
input_means : (n : Netlist) (ports : Ports) (net : ℕ) (d : Driver) → is_input_of (meaning_of n ports net d) ≡ (is_input d && not (ports.is_clock net))
input_means n ports net drivers.Input = by (ports.is_clock net)
  where
    by : (b : Bool) → is_input_of (if b then meanings.Clock else meanings.Input) ≡ not b
    by true = refl
    by false = refl
input_means n ports net (drivers.Gate kind inputs) = refl
input_means n ports net (drivers.Joined source) = refl
input_means n ports net (drivers.Flop i inverted) = by (flip_flop n ports i)
  where
    by : (o : Option Cell) → is_input_of (flop_meaning i inverted o) ≡ false
    by None = refl
    by (Some cell) = refl
input_means n ports net (drivers.Lockup i) = by (domain_at n ports (pin_of role.Clock i (pins_of n i)))
  where
    by : (o : Option ClockRoot) → is_input_of (lockup_meaning i o (or_loose i (pin_of role.Din i (pins_of n i)))) ≡ false
    by None = refl
    by (Some clock) = refl
input_means n ports net drivers.Free = refl

-- the test by which ports are chosen
pub drivable_same : (s : Search) (clocks resets : List Bool) (x : Circuit) (net : ℕ) → IsCircuitOf s.design (ports_by clocks) x → ((k : ℕ) → flag_at clocks k ≡ (config_ports s.design s.config).is_clock k) →
    ((k : ℕ) → flag_at resets k ≡ (config_ports s.design s.config).is_reset k) → (is_input_of (meaning (op_at x.ops net)) && not (flag_at resets net)) ≡ is_drivable s net
drivable_same s clocks resets x net is of_clocks of_resets =
    (λ t. (ap is_input_of (op_means s.design (ports_by clocks) x net is) ∙ input_means s.design (ports_by clocks) net (driver s.design net) ∙ ap (λ (b : Bool). is_input (driver s.design net) && not b) (of_clocks net)) t && not (of_resets net t))
    ∙ and_assoc (is_input (driver s.design net)) (not ((config_ports s.design s.config).is_clock net)) (not ((config_ports s.design s.config).is_reset net))

pub ports_all : (s : Search) (clocks resets : List Bool) (x : Circuit) (nets : List NetId) → IsCircuitOf s.design (ports_by clocks) x → ((k : ℕ) → flag_at clocks k ≡ (config_ports s.design s.config).is_clock k) →
    ((k : ℕ) → flag_at resets k ≡ (config_ports s.design s.config).is_reset k) → nets ≡ input_bits s.design.ports → filter (λ net. is_input_of (meaning (op_at x.ops net.0)) && not (flag_at resets net.0)) nets ≡ drivable_ports s
ports_all s clocks resets x nets is of_clocks of_resets same = λ t. filter (λ (net : NetId). drivable_same s clocks resets x net.0 is of_clocks of_resets t) (same t)

-- a net that means an input is there
pub ports_live : (x : Circuit) (resets : List Bool) (nets : List NetId) (count : ℕ) → length x.ops ≡ count →
    AllByRecursion (λ net. net.0 < count) (filter (λ net. is_input_of (meaning (op_at x.ops net.0)) && not (flag_at resets net.0)) nets)
ports_live x resets [] count size = tt
ports_live x resets (net ∷ nets) count size = by (is_input_of (meaning (op_at x.ops net.0))) (not (flag_at resets net.0)) refl (ports_live x resets nets count size)
  where
    live : is_input_of (meaning (op_at x.ops net.0)) ≡ true → net.0 < count
    live is = elim (leb_tells (length x.ops) net.0) [
      | inl out ↦ absurd (true≢false (sym is ∙ ap (λ (o : Op). is_input_of (meaning o)) (get_or_past x.ops net.0 op.Free out.1)))
      | inr less ↦ (let l = less.1 in omega (arith, l, size))
    ]

    rest : List NetId
    rest = filter (λ net. is_input_of (meaning (op_at x.ops net.0)) && not (flag_at resets net.0)) nets

    by : (a b : Bool) → is_input_of (meaning (op_at x.ops net.0)) ≡ a → AllByRecursion (λ net. net.0 < count) rest → AllByRecursion (λ net. net.0 < count) (if a && b then net ∷ rest else rest)
    by true true is all = (live is, all)
    by true false is all = all
    by false b is all = all

-- ---- cells

-- each cell of a list is there
pub cells_live : (count : ℕ) (cells : List InstanceId) → ((c : ℕ) → has_cell cells c ≡ true → c < count) → AllByRecursion (λ cell. cell.0 < count) cells
cells_live count [] live = tt
cells_live count (x ∷ cells) live = (live x.0 (ap (λ (b : Bool). b || has_cell cells x.0) (eq-eqb x.0 x.0 refl)), cells_live count cells (λ c is. live c (or_right (x.0 == c) (has_cell cells c) is)))

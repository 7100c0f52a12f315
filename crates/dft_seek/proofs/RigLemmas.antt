-- What the tables of a planned design mean: the scanned flip-flops are modelled, and what the circuit's nets mean in a capture.
use Rattle.std.proofs.Common.{ℕ, zero, suc, ◌+◌, ◌≡◌, ◌<◌, ◌==◌, ◌⊎◌, inl, inr, Bool, true, false, not, ◌||◌, List, [], ◌∷◌, ◌++◌, length, get_or, slice_get, Option, None, Some, option_and_then, refl, sym, ap, arith, ◌∙◌, true≢false}
use Rattle.std.specs.Prelude.{if◌then◌else◌}
use Rattle.std.specs.List.{list_any}
use Rattle.std.specs.Str.{bytes_eq}
use Rattle.std.proofs.lemmas.Bool.{eqb-true, or_right, false_from_ne_true}
use Rattle.std.proofs.lemmas.Bool.Decides.{leb_tells}
use Rattle.std.proofs.lemmas.Option.{none-some, same_Some, slice_get_past}
use Rattle.dft_base.specs.Lexing.{Text}
use Rattle.dft_base.proofs.TextLemmas.{bytes_eq-self}
use Rattle.dft_cells.specs.FlipFlops.{is_flip_flop, Takes, Forces}
use Rattle.dft_behavior.proofs.StoredLemmas.{both_parts}
use Rattle.dft_cells.specs.declared.kind.Role.TheVariants as role
use Rattle.dft_netlist.proofs.FindLemmas.{found_at}
use Rattle.dft_netlist.specs.declared.ids.NetId.{NetId}
use Rattle.dft_netlist.specs.declared.ids.InstanceId.{InstanceId}
use Rattle.dft_netlist.specs.Netlist.{Netlist}
use Rattle.dft_netlist.specs.Connections.{input_net, is_input, pin_of}
use Rattle.dft_netlist.specs.Names.{find_net}
use Rattle.dft_netlist.specs.Drivers.{Source, Driver, driver, kind_at, kind_of, pins_of}
use Rattle.dft_netlist.specs.Drivers as drivers
use Rattle.dft_behavior.specs.Logic.{Cell, Ports, Input, Clock, Flop, Free, domain_at, domain_of, flip_flop, flop_meaning, force_of, force_at, both_forces, forcing, takes_of, forces_of, lockup_meaning, meaning_of, modelled, modelled_of, or_loose}
use Rattle.dft_behavior.specs.ClockRoots.{ClockRoot, clock_root_of}
use Rattle.dft_behavior.specs.Traces.{Root, Port, Constant, Other, root_of}
use Rattle.dft_config.specs.Config.{Config}
use Rattle.dft_config.specs.Range.{IsInRange, has}
use Rattle.dft_rules.specs.ConfigPorts.{config_ports}
use Rattle.dft_netlist.specs.declared.instance.Instance.{Instance}
use Rattle.dft_rules.specs.Rules.{is_net, may_be_scanned}
use Rattle.dft_stitch.specs.Chains.{plan_of}
use Rattle.dft_stitch.specs.Plans.{cell_at}
use Rattle.dft_expect.specs.Capturing.{CanCapture}
use Rattle.dft_expect.specs.Loaded.{all_cells}
use Rattle.dft_expect.proofs.ScannedCells.{IsModelled, cell_modelled}
use Rattle.dft_logic.specs.Circuit.{flag_at}
use Rattle.dft_logic.specs.Compiling.{ports_by}
use Rattle.dft_capture.specs.Captures.{Moving, meaning_in}
use Rattle.dft_seek.specs.Searches.{has_cell}
use Rattle.dft_seek.specs.Rigs.{held_meaning}
use Rattle.dft_seek.proofs.MarkLemmas.{either_up}

-- ---- a clock is no reset

found_named : (n : Netlist) (o : Option NetId) (k : NetId) → option_and_then (λ net. if is_input (driver n net.0) then Some net else None) o ≡ Some k → o ≡ Some k
found_named n None k is = absurd (none-some k is)
found_named n (Some net) k is = by (is_input (driver n net.0)) is
  where
    by : (b : Bool) → (if b then Some net else None) ≡ Some k → Some net ≡ Some k
    by true h = h
    by false h = absurd (none-some k h)

-- a name that stands for a net, as the bit of an input port, is the net's
pub net_named : (n : Netlist) (net : ℕ) (name : Text) (o : Option NetId) → input_net n name ≡ o → is_net net o ≡ true → slice_get n.nets net ≡ Some name
net_named n net name None is found = absurd (true≢false (sym found))
net_named n net name (Some k) is found =
    let there = found_at 0 n.nets name k (found_named n (find_net n name) k is) in
    ap (slice_get n.nets) (sym (eqb-true k.0 net found) ∙ there.1 ∙ (let e : 0 + there.0 ≡ there.0 = omega arith in e)) ∙ there.2

-- one of the names that stands for a net
name_among : (n : Netlist) (net : ℕ) (names : List Text) → list_any (λ name. is_net net (input_net n name)) names ≡ true → (k : ℕ) × ((k < length names) × ((d : Text) → slice_get n.nets net ≡ Some (get_or names k d)))
name_among n net [] is = absurd (true≢false (sym is))
name_among n net (name ∷ names) is = elim (either_up (is_net net (input_net n name)) (list_any (λ x. is_net net (input_net n x)) names) is) [
  | inl here ↦ (0, (omega arith, λ d. net_named n net name (input_net n name) refl here))
  | inr later ↦ (let found = name_among n net names later in (suc found.0, (let less = found.1.0 in omega (arith, less), λ d. found.1.1 d)))
]

has_it : (names : List Text) (k : ℕ) (d x : Text) → k < length names → get_or names k d ≡ x → has bytes_eq names x ≡ true
has_it [] k d x less is = absurd (omega (arith, less))
has_it (name ∷ names) zero d x less is = ap (λ (t : Text). bytes_eq t x || has bytes_eq names x) is ∙ ap (λ (b : Bool). b || has bytes_eq names x) (bytes_eq-self x)
has_it (name ∷ names) (suc k) d x less is = or_right (bytes_eq name x) (has bytes_eq names x) (has_it names k d x (omega (arith, less)) is)

pub no_clock_resets : (n : Netlist) (config : Config) (net : ℕ) → IsInRange config → (config_ports n config).is_clock net ≡ true → (config_ports n config).is_reset net ≡ true → ⊥
no_clock_resets n config net range clock reset =
    let domain = name_among n net config.domains clock in
    let held = name_among n net config.resets reset in
    let same : get_or config.domains domain.0 [] ≡ get_or config.resets held.0 [] = same_Some (get_or config.domains domain.0 []) (get_or config.resets held.0 []) (sym (domain.1.1 []) ∙ held.1.1 []) in
    absurd (true≢false (sym (has_it config.domains domain.0 [] (get_or config.resets held.0 []) domain.1.0 same) ∙ range.apart held.0 [] held.1.0))

-- ---- a flip-flop that is modelled for the configuration's ports is so where every port that is no clock may be a reset

-- the same clocks, and more resets
pub record MoreResets (one other : Ports) : Type 0 where
  pub clocks : (net : ℕ) → one.is_clock net ≡ other.is_clock net
  pub resets : (net : ℕ) → one.is_reset net ≡ true → other.is_reset net ≡ true

domain_same : (n : Netlist) (one other : Ports) (o : Option Source) → MoreResets one other → domain_at n one o ≡ domain_at n other o
domain_same n one other None more = refl
domain_same n one other (Some source) more = by (clock_root_of n source)
  where
    by : (r : Option ClockRoot) → domain_of one r ≡ domain_of other r
    by None = refl
    by (Some root) = ap (λ (b : Bool). if b then Some root else None) (more.clocks root.port)

-- there is something
abbrev pub IsThere : {A : Type 0} → Option A → Type 0
IsThere {A} o = (x : A) × (o ≡ Some x)

abbrev pub forced_at : (net : ℕ) → Option (Option ℕ)
forced_at net = Some (Some net)

force_more : (one other : Ports) (r : Root) → MoreResets one other → IsThere (force_of one r) → IsThere (force_of other r)
force_more one other (Port net) more is = by (one.is_reset net) refl is
  where
    by : (b : Bool) → one.is_reset net ≡ b → IsThere (if b then forced_at net else None) → IsThere (force_of other (Port net))
    by true reset h = (Some net, ap (λ (x : Bool). if x then forced_at net else None) (more.resets net reset))
    by false reset h = absurd (none-some h.0 h.1)
force_more one other (Constant true) more is = is
force_more one other (Constant false) more is = is
force_more one other Other more is = is

pin_more : (n : Netlist) (one other : Ports) (pin : Option Source) → MoreResets one other → IsThere (force_at n one pin) → IsThere (force_at n other pin)
pin_more n one other None more is = is
pin_more n one other (Some source) more is = force_more one other (root_of n source) more is

both_there : (clear preset : Option (Option ℕ)) → IsThere clear → IsThere preset → IsThere (both_forces clear preset)
both_there None preset a b = absurd (none-some a.0 a.1)
both_there (Some clear) None a b = absurd (none-some b.0 b.1)
both_there (Some clear) (Some preset) a b = (record { clear = clear; preset = preset }, refl)

each_there : (clear preset : Option (Option ℕ)) → IsThere (both_forces clear preset) → IsThere clear × IsThere preset
each_there clear preset is = (let both = both_parts clear preset is.0 is.1 in ((is.0.clear, both.0), (is.0.preset, both.1)))

forcing_more : (n : Netlist) (one other : Ports) (pins : Forces Source) → MoreResets one other → IsThere (forcing n one pins) → IsThere (forcing n other pins)
forcing_more n one other pins more is =
    let each = each_there (force_at n one pins.clear) (force_at n one pins.preset) is in
    both_there (force_at n other pins.clear) (force_at n other pins.preset) (pin_more n one other pins.clear more each.0) (pin_more n one other pins.preset more each.1)

-- what is modelled has a clock and may be forced
modelled_clock : (d : Option ClockRoot) (forces : Option (Forces ℕ)) (takes : Takes Source) → IsThere (modelled d forces takes) → IsThere d × IsThere forces
modelled_clock None forces takes is = absurd (none-some is.0 is.1)
modelled_clock (Some d) None takes is = absurd (none-some is.0 is.1)
modelled_clock (Some d) (Some forces) takes is = ((d, refl), (forces, refl))

modelled_there : (d : Option ClockRoot) (forces : Option (Forces ℕ)) (takes : Takes Source) → IsThere d → IsThere forces → IsThere (modelled d forces takes)
modelled_there None forces takes one two = absurd (none-some one.0 one.1)
modelled_there (Some d) None takes one two = absurd (none-some two.0 two.1)
modelled_there (Some d) (Some forces) takes one two = (record { domain = d.port; falling = d.inverted; takes = takes; forces = forces }, refl)

pub flop_more : (n : Netlist) (one other : Ports) (i : ℕ) → MoreResets one other → IsThere (flip_flop n one i) → IsThere (flip_flop n other i)
flop_more n one other i more is = by (is_flip_flop (kind_at n i)) is
  where
    by : (b : Bool) → IsThere (if b then modelled_of n one i (pins_of n i) else None) → IsThere (if b then modelled_of n other i (pins_of n i) else None)
    by true h =
        let pins : Forces Source = forces_of i (pins_of n i) in
        let parts = modelled_clock (domain_at n one (pin_of role.Clock i (pins_of n i))) (forcing n one pins) (takes_of i (pins_of n i)) h in
        modelled_there (domain_at n other (pin_of role.Clock i (pins_of n i))) (forcing n other pins) (takes_of i (pins_of n i))
        (parts.0.0, sym (domain_same n one other (pin_of role.Clock i (pins_of n i)) more) ∙ parts.0.1) (forcing_more n one other pins more parts.1)
    by false h = h

pub flags_more : (n : Netlist) (config : Config) (flags : List Bool) → IsInRange config → ((net : ℕ) → flag_at flags net ≡ (config_ports n config).is_clock net) → MoreResets (config_ports n config) (ports_by flags)
flags_more n config flags range same = record {
  clocks = λ net. sym (same net);
  resets = λ net reset. ap not (false_from_ne_true (flag_at flags net) (λ up. no_clock_resets n config net range (sym (same net) ∙ up) reset));
}

-- ---- the cells of the chains

has_parts : (c : ℕ) (xs ys : List InstanceId) → has_cell (xs ++ ys) c ≡ true → (has_cell xs c ≡ true) ⊎ (has_cell ys c ≡ true)
has_parts c [] ys is = inr is
has_parts c (x ∷ xs) ys is = elim (either_up (x.0 == c) (has_cell (xs ++ ys) c) is) [
  | inl here ↦ inl (ap (λ (b : Bool). b || has_cell xs c) here)
  | inr later ↦ elim (has_parts c xs ys later) [ inl first ↦ inl (or_right (x.0 == c) (has_cell xs c) first) | inr second ↦ inr second ]
]

in_cells : (c : ℕ) (cells : List InstanceId) → has_cell cells c ≡ true → (place : ℕ) × (slice_get cells place ≡ Some (record { 0 = c }))
in_cells c [] is = absurd (true≢false (sym is))
in_cells c (x ∷ cells) is = elim (either_up (x.0 == c) (has_cell cells c) is) [
  | inl here ↦ (0, ap (λ (n : ℕ). Some (record { 0 = n })) (eqb-true x.0 c here))
  | inr later ↦ (let found = in_cells c cells later in (suc found.0, found.1))
]

in_chains : (c : ℕ) (chains : List (List InstanceId)) → has_cell (all_cells chains) c ≡ true → (chain : ℕ) × ((place : ℕ) × (cell_at chains chain place ≡ Some (record { 0 = c })))
in_chains c [] is = absurd (true≢false (sym is))
in_chains c (x ∷ chains) is = elim (has_parts c x (all_cells chains) is) [
  | inl here ↦ (let found = in_cells c x here in (0, (found.0, found.1)))
  | inr later ↦ (let found = in_chains c chains later in (suc found.0, (found.1.0, found.1.1)))
]

pub cell_there : (n : Netlist) (config : Config) (c : ℕ) → CanCapture n config → has_cell (all_cells (plan_of n config).chains) c ≡ true → IsModelled n config c
cell_there n config c can is =
    let found = in_chains c (plan_of n config).chains is in
    cell_modelled n config found.0 found.1.0 (record { 0 = c }) can found.1.1

-- a scanned cell is an instance of the design
pub cell_live : (n : Netlist) (config : Config) (c : ℕ) → CanCapture n config → has_cell (all_cells (plan_of n config).chains) c ≡ true → c < length n.instances
cell_live n config c can is = elim (leb_tells (length n.instances) c) [
  | inl out ↦ absurd (let none : false ≡ true = sym (ap (λ (o : Option Instance). may_be_scanned (kind_of n.library o)) (slice_get_past n.instances c out.1)) ∙ (cell_there n config c can is).kind in let f : ⊥ = cc in f)
  | inr less ↦ less.1
]

-- ---- what nets mean in a capture

-- of a circuit whose clocks are the configuration's, where the flip-flops hold values that are modelled
pub captured_means : (n : Netlist) (ports : Ports) (m : Moving) (net : ℕ) (d : Driver) → ((k : ℕ) → ports.is_clock k ≡ m.is_clock k) → ((i : ℕ) → m.holds i ≡ true → IsThere (flip_flop n ports i)) →
    held_meaning m.holds (meaning_of n ports net d) ≡ meaning_in m net d
captured_means n ports m net drivers.Input clocks flops = by (ports.is_clock net) (m.is_clock net) (clocks net)
  where
    by : (a b : Bool) → a ≡ b → held_meaning m.holds (if a then Clock else Input) ≡ (if b then Clock else Input)
    by true true same = refl
    by false false same = refl
    by true false same = absurd (true≢false same)
    by false true same = absurd (true≢false (sym same))
captured_means n ports m net (drivers.Gate kind inputs) clocks flops = refl
captured_means n ports m net (drivers.Joined source) clocks flops = refl
captured_means n ports m net (drivers.Flop i inverted) clocks flops = by (flip_flop n ports i) (m.holds i) refl (flops i)
  where
    by : (o : Option Cell) (h : Bool) → m.holds i ≡ h → (h ≡ true → IsThere o) → held_meaning m.holds (flop_meaning i inverted o) ≡ (if h then Flop i inverted else Free)
    by None true is there = absurd (none-some (there refl).0 (there refl).1)
    by None false is there = refl
    by (Some cell) h is there = ap (λ (b : Bool). if b then Flop i inverted else Free) is
captured_means n ports m net (drivers.Lockup i) clocks flops = by (domain_at n ports (pin_of role.Clock i (pins_of n i)))
  where
    by : (o : Option ClockRoot) → held_meaning m.holds (lockup_meaning i o (or_loose i (pin_of role.Din i (pins_of n i)))) ≡ Free
    by None = refl
    by (Some clock) = refl
captured_means n ports m net drivers.Free clocks flops = refl

-- A cell of the chains is modelled: on the clock that its clock pin shows, with its data input and no scan pins. And no instance is a lock-up.
use Rattle.std.proofs.Common.{ℕ, zero, suc, ◌≡◌, Bool, true, false, List, [], ◌∷◌, map, inl, inr, Option, None, Some, is_some, option_and_then, option_map, slice_get, refl, sym, subst, ap, ◌∙◌, not, ◌++◌}
use Rattle.std.specs.Prelude.{if◌then◌else◌, IsTrue}
use Rattle.std.specs.List.{AllByRecursion}
use Rattle.std.proofs.lemmas.Option.{none-some, same_Some}
use Rattle.std.proofs.lemmas.Map.Keys.{any_passes_from_place}
use Rattle.dft_base.specs.Lexing.{Text}
use Rattle.dft_cells.specs.declared.kind.Kind.{Kind}
use Rattle.dft_cells.specs.declared.kind.Kind.TheVariants as kind
use Rattle.dft_cells.specs.declared.kind.Forcing.{Forcing}
use Rattle.dft_cells.specs.declared.kind.Forcing.TheVariants as force
use Rattle.dft_cells.specs.declared.kind.Role.{Role}
use Rattle.dft_cells.specs.declared.kind.Role.TheVariants as role
use Rattle.dft_cells.specs.declared.cell.Cell as declared
use Rattle.dft_cells.specs.WellFormed.{HasRoles, front_roles, IsWellFormed}
use Rattle.dft_netlist.specs.declared.ids.InstanceId.{InstanceId}
use Rattle.dft_netlist.specs.declared.instance.CellRef.{CellRef}
use Rattle.dft_netlist.specs.declared.instance.CellRef.TheVariants as cell_ref
use Rattle.dft_netlist.specs.declared.instance.Instance.{Instance}
use Rattle.dft_netlist.specs.declared.instance.Signal.{Signal}
use Rattle.dft_netlist.specs.Netlist.{Netlist}
use Rattle.dft_netlist.specs.Drivers.{Source, connections_from, gate_roles, kind_of, kind_at, pins_at, pins_of, shape_of, shape_of_cell, source_of}
use Rattle.dft_netlist.specs.Sound.{IsCellOf}
use Rattle.dft_behavior.specs.ClockRoots.{ClockRoot, clock_root_of}
use Rattle.dft_cells.specs.FlipFlops.{Forces}
use Rattle.dft_behavior.specs.Logic.{Ports, Cell, or_loose, domain_at, forcing, scan_of, takes_of, forces_of, plain, modelled, modelled_of, flip_flop}
use Rattle.dft_behavior.specs.Logic as logic
use Rattle.dft_config.specs.Config.{Config}
use Rattle.dft_config.specs.Range.{IsInRange}
use Rattle.dft_netlist.specs.Connections.{input_net, same_role, pin_of}
use Rattle.dft_rules.specs.Rules.{is_net, place_of_port, place_of_clock, clock_of_source, clocked_by, is_held, are_held_at, scan_cell_of, is_kept, may_be_scanned, judged_by}
use Rattle.dft_expect.specs.Captures.{config_ports}
use Rattle.dft_rules.specs.declared.judged.Judged.TheVariants.{Scanned}
use Rattle.dft_rules.specs.declared.error.RuleError.TheVariants.{LockupPresent}
use Rattle.dft_rules.specs.Refusals.{first_present, present, present_as}
use Rattle.dft_rules.proofs.CheckLemmas.{none_first, none_present}
use Rattle.dft_rules.proofs.Scannable.{scannable_flop}
use Rattle.dft_rules.proofs.ClockedFlops.{position_at, force_pins}
use Rattle.dft_stitch.specs.Chains.{plan_of}
use Rattle.dft_stitch.specs.Plans.{cell_at}
use Rattle.dft_stitch.specs.Laws.{IsScanned}
use Rattle.dft_stitch.proofs.OnceLemmas.{cells_scanned}
use Rattle.dft_expect.specs.Capturing.{CanCapture}

-- ---- a scanned flip-flop

-- the instance is a flip-flop that has the clock of a domain, with its reset or set held
record Passes (n : Netlist) (config : Config) (i : ℕ) : Type 0 where
  pub kind : may_be_scanned (kind_at n i) ≡ true
  pub clock : ℕ × Bool
  pub is_clock : clocked_by n config i ≡ Some clock
  pub is_held : are_held_at n config i ≡ true

passes_by : (n : Netlist) (config : Config) (i d : ℕ) (f : Bool) (clock : Option (ℕ × Bool)) (held scans kept : Bool) → may_be_scanned (kind_at n i) ≡ true → clocked_by n config i ≡ clock → are_held_at n config i ≡ held → judged_by clock held scans kept ≡ Some (Scanned d f) → Passes n config i
passes_by n config i d f None held scans kept kind clock is e = absurd cc
passes_by n config i d f (Some p) false scans kept kind clock is e = absurd cc
passes_by n config i d f (Some p) true scans kept kind clock is e = record { kind = kind; clock = p; is_clock = clock; is_held = is }

passes_if : (n : Netlist) (config : Config) (i d : ℕ) (f b : Bool) → may_be_scanned (kind_at n i) ≡ b →
    (if b then judged_by (clocked_by n config i) (are_held_at n config i) (is_some (scan_cell_of n i)) (is_kept n config.keep i) else None) ≡ Some (Scanned d f) → Passes n config i
passes_if n config i d f true kind e = passes_by n config i d f (clocked_by n config i) (are_held_at n config i) (is_some (scan_cell_of n i)) (is_kept n config.keep i) kind refl refl e
passes_if n config i d f false kind e = absurd (none-some (Scanned d f) e)

stands_scanned : (n : Netlist) (config : Config) (chain place : ℕ) (cell : InstanceId) → IsInRange config → cell_at (plan_of n config).chains chain place ≡ Some cell → Passes n config cell.0
stands_scanned n config chain place cell range stands =
    let it : IsScanned n config cell.0 = cells_scanned n config chain place cell range stands in
    passes_if n config cell.0 it.domain it.falling (may_be_scanned (kind_at n cell.0)) refl it.is

-- ---- its clock

-- its clock pin shows a bit of an input port, which is a clock, or its inverse
record IsClocked (n : Netlist) (config : Config) (i : ℕ) : Type 0 where
  pub source : Source
  pub pin : pin_of role.Clock i (pins_of n i) ≡ Some source
  pub clock : ClockRoot
  pub root : clock_root_of n source ≡ Some clock
  pub is : (config_ports n config).is_clock clock.port ≡ true

clocked_place : (n : Netlist) (config : Config) (i : ℕ) (place : ℕ × Bool) (source : Source) (clock : ClockRoot) (o : Option ℕ) → pin_of role.Clock i (pins_of n i) ≡ Some source → clock_root_of n source ≡ Some clock → place_of_port n config.domains clock.port ≡ o
    → option_map (λ (d : ℕ). (d, clock.inverted)) o ≡ Some place → IsClocked n config i
clocked_place n config i place source clock None pin root at e = absurd (none-some place e)
clocked_place n config i place source clock (Some d) pin root at e =
    let it = position_at (λ name. is_net clock.port (input_net n name)) d config.domains at in
    record { source = source; pin = pin; clock = clock; root = root; is = any_passes_from_place (λ name. is_net clock.port (input_net n name)) config.domains it.place it.item it.at it.passes }

clocked_root : (n : Netlist) (config : Config) (i : ℕ) (place : ℕ × Bool) (source : Source) (r : Option ClockRoot) → pin_of role.Clock i (pins_of n i) ≡ Some source → clock_root_of n source ≡ r → place_of_clock n config.domains r ≡ Some place → IsClocked n config i
clocked_root n config i place source None pin root e = absurd (none-some place e)
clocked_root n config i place source (Some clock) pin root e = clocked_place n config i place source clock (place_of_port n config.domains clock.port) pin root refl e

clocked_pin : (n : Netlist) (config : Config) (i : ℕ) (place : ℕ × Bool) (o : Option Source) → pin_of role.Clock i (pins_of n i) ≡ o → option_and_then (clock_of_source n config.domains) o ≡ Some place → IsClocked n config i
clocked_pin n config i place None pin e = absurd (none-some place e)
clocked_pin n config i place (Some source) pin e = clocked_root n config i place source (clock_root_of n source) pin refl e

clocked : (n : Netlist) (config : Config) (i : ℕ) (place : ℕ × Bool) → clocked_by n config i ≡ Some place → IsClocked n config i
clocked n config i place e = clocked_pin n config i place (pin_of role.Clock i (pins_of n i)) refl e

domain_is : (n : Netlist) (config : Config) (i : ℕ) (c : IsClocked n config i) → domain_at n (config_ports n config) (pin_of role.Clock i (pins_of n i)) ≡ Some c.clock
domain_is n config i c =
    ap (domain_at n (config_ports n config)) c.pin ∙ ap (logic.domain_of (config_ports n config)) c.root ∙ ap (λ (b : Bool). if b then Some c.clock else None) c.is

-- ---- it has no scan pins

abbrev NoEnable : List Role → Type 0
NoEnable roles = AllByRecursion (λ r. same_role role.ScanEnable r ≡ false) roles

no_pin : (i pin : ℕ) (roles : List Role) (signals : List Signal) → NoEnable roles → pin_of role.ScanEnable i (connections_from pin roles signals) ≡ None
no_pin i pin [] signals none = refl
no_pin i pin (r ∷ roles) [] none = refl
no_pin i pin (r ∷ roles) (s ∷ signals) none =
    ap (λ b. if b then Some (source_of i pin s) else pin_of role.ScanEnable i (connections_from (suc pin) roles signals)) none.0 ∙ no_pin i (suc pin) roles signals none.1

gate_none : (inputs : ℕ) → NoEnable (gate_roles inputs)
gate_none zero = (refl, tt)
gate_none (suc inputs) = (refl, gate_none inputs)

front_none : (its : Forcing) (rest : List Role) → NoEnable rest → NoEnable (front_roles (record { force = its; scan = false }) ++ rest)
front_none force.Nothing rest h = (refl, (refl, h))
front_none force.Reset rest h = (refl, (refl, (refl, h)))
front_none force.Set rest h = (refl, (refl, (refl, h)))

flop_none : (its : Forcing) (scan : Bool) (roles : List Role) → not scan ≡ true → HasRoles (kind.Flop (record { force = its; scan = scan })) roles → NoEnable roles
flop_none its true roles may has = absurd cc
flop_none its false roles may (inl e) = subst NoEnable (sym e) (front_none its (role.Output ∷ []) (refl, tt))
flop_none its false roles may (inr e) = subst NoEnable (sym e) (front_none its (role.Output ∷ role.Inverted ∷ []) (refl, (refl, tt)))

kind_none : (k : Kind) (roles : List Role) → may_be_scanned k ≡ true → HasRoles k roles → NoEnable roles
kind_none (kind.Flop flop) roles may has = flop_none flop.force flop.scan roles may has
kind_none (kind.Gate gate) roles may has = absurd cc
kind_none kind.Lockup roles may has = absurd cc
kind_none kind.Opaque roles may has = absurd cc

cell_none : (library : List declared.Cell) (id : ℕ) (o : Option declared.Cell) → IsWellFormed library → slice_get library id ≡ o → may_be_scanned (shape_of_cell o).kind ≡ true → NoEnable (shape_of_cell o).roles
cell_none library id None well at may = absurd cc
cell_none library id (Some cell) well at may = kind_none cell.kind _ may (well.each id cell at).roles

shape_none : (library : List declared.Cell) (cell : CellRef) → IsWellFormed library → may_be_scanned (shape_of library cell).kind ≡ true → NoEnable (shape_of library cell).roles
shape_none library (cell_ref.Library id) well may = cell_none library id.0 (slice_get library id.0) well refl may
shape_none library (cell_ref.Gate k inputs) well may = gate_none inputs

pub pins_none : (library : List declared.Cell) (i : ℕ) (o : Option Instance) → IsWellFormed library → may_be_scanned (kind_of library o) ≡ true → pin_of role.ScanEnable i (pins_at library o) ≡ None
pins_none library i None well may = refl
pins_none library i (Some x) well may = no_pin i 0 (shape_of library x.cell).roles x.pins (shape_none library x.cell well may)

-- ---- the flip-flop

-- a cell of the chains: a flip-flop on a clock, with its data input, no scan pins, and perhaps a reset or set
pub record IsModelled (n : Netlist) (config : Config) (i : ℕ) : Type 0 where
  pub kind : may_be_scanned (kind_at n i) ≡ true
  pub source : Source
  pub pin : pin_of role.Clock i (pins_of n i) ≡ Some source
  pub clock : ClockRoot
  pub root : clock_root_of n source ≡ Some clock
  pub forces : Forces ℕ
  pub flop : flip_flop n (config_ports n config) i ≡ Some (record { domain = clock.port; falling = clock.inverted; takes = plain (or_loose i (pin_of role.Din i (pins_of n i))); forces = forces })

pub cell_modelled : (n : Netlist) (config : Config) (chain place : ℕ) (cell : InstanceId) → CanCapture n config → cell_at (plan_of n config).chains chain place ≡ Some cell → IsModelled n config cell.0
cell_modelled n config chain place cell can stands =
    let ports : Ports = config_ports n config in
    let i : ℕ = cell.0 in
    let it : Passes n config i = stands_scanned n config chain place cell can.range stands in
    let clock : IsClocked n config i = clocked n config i it.clock it.is_clock in
    let force = force_pins n config (pin_of role.Reset i (pins_of n i)) (pin_of role.Preset i (pins_of n i)) it.is_held in
    let input : Source = or_loose i (pin_of role.Din i (pins_of n i)) in
    record {
      kind = it.kind;
      source = clock.source;
      pin = clock.pin;
      clock = clock.clock;
      root = clock.root;
      forces = force.0;
      flop =
          ap (λ b. if b then modelled_of n ports i (pins_of n i) else None) (scannable_flop (kind_at n i) it.kind)
          ∙ ap (λ d. modelled d (forcing n ports (forces_of i (pins_of n i))) (takes_of i (pins_of n i))) (domain_is n config i clock)
          ∙ ap (λ f. modelled (Some clock.clock) f (takes_of i (pins_of n i))) force.1
          ∙ ap (λ o. modelled (Some clock.clock) (Some force.0) (record { input = input; scan = scan_of o (pin_of role.ScanIn i (pins_of n i)) })) (pins_none n.library i (slice_get n.instances i) can.library it.kind);
    }

-- ---- no lock-up

present_at : (library : List declared.Cell) (instances : List Instance) (i : ℕ) (x : Instance) → first_present library instances ≡ None → slice_get instances i ≡ Some x → present library x ≡ None
present_at library [] i x e at = absurd (none-some x at)
present_at library (y ∷ instances) zero x e at = subst (λ (z : Instance). present library z ≡ None) (same_Some y x at) (none_first (present library y) (map (present library) instances) e).0
present_at library (y ∷ instances) (suc i) x e at = present_at library instances i x (none_first (present library y) (map (present library) instances) e).1 at

lockup_named : (name : Option Text) → is_some name ≡ true → present_as kind.Lockup name ≡ None → ⊥
lockup_named None is e = absurd cc
lockup_named (Some name) is e = absurd (none-some (LockupPresent name) (sym e))

lockup_cell : (library : List declared.Cell) (name : Option Text) (cell : CellRef) → IsCellOf library name cell → (shape_of library cell).kind ≡ kind.Lockup → present_as (shape_of library cell).kind name ≡ None → ⊥
lockup_cell library name (cell_ref.Library id) fits is none = lockup_named name fits.1 (subst (λ (k : Kind). present_as k name ≡ None) is none)
lockup_cell library name (cell_ref.Gate k inputs) fits is none = let f : ⊥ = cc in f

lockup_at : (n : Netlist) (config : Config) (i : ℕ) (o : Option Instance) → CanCapture n config → slice_get n.instances i ≡ o → kind_of n.library o ≡ kind.Lockup → ⊥
lockup_at n config i None can at is = absurd cc
lockup_at n config i (Some x) can at is = lockup_cell n.library x.name x.cell (can.netlist.instances i x at).fits is (present_at n.library n.instances i x (none_present n config can.passed) at)

pub no_lockup : (n : Netlist) (config : Config) (i : ℕ) → CanCapture n config → kind_at n i ≡ kind.Lockup → ⊥
no_lockup n config i can is = lockup_at n config i (slice_get n.instances i) can refl is

-- A scanned flip-flop is modelled: its clock shows the port of a domain or the inverse, and its reset or set is held.
use Rattle.std.proofs.Common.{ℕ, zero, suc, ◌+◌, ◌≡◌, Bool, true, false, List, [], ◌∷◌, cond, position, Option, None, Some, is_some, option_and_then, option_map, slice_get, refl, sym, ap, arith, ◌∙◌}
use Rattle.std.specs.Prelude.{if◌then◌else◌}
use Rattle.std.specs.List.{position_from}
use Rattle.std.proofs.lemmas.Iterator.Adapters.{position_from-zero}
use Rattle.std.proofs.lemmas.Option.{none-some, same_Some}
use Rattle.std.proofs.lemmas.Map.Keys.{any_passes_from_place}
use Rattle.dft_base.specs.Lexing.{Text}
use Rattle.dft_base.proofs.OptionLemmas.{some_of}
use Rattle.dft_cells.specs.declared.kind.Role.TheVariants as role
use Rattle.dft_cells.specs.FlipFlops.{Takes, Forces}
use Rattle.std.proofs.lemmas.Bool.{and_parts}
use Rattle.dft_netlist.specs.Netlist.{Netlist}
use Rattle.dft_netlist.specs.Connections.{input_net, pin_of}
use Rattle.dft_netlist.specs.Drivers.{Source, kind_at, pins_of}
use Rattle.dft_behavior.specs.Traces.{Root, Port, Constant, Other, root_of}
use Rattle.dft_behavior.specs.ClockRoots.{ClockRoot, clock_root_of}
use Rattle.dft_behavior.specs.Logic.{Ports, domain_at, force_of, force_at, both_forces, forcing, takes_of, forces_of, modelled, modelled_of, flip_flop}
use Rattle.dft_behavior.specs.Logic as logic
use Rattle.dft_config.specs.Config.{Config}
use Rattle.dft_rules.specs.ConfigPorts.{config_ports}
use Rattle.dft_rules.specs.Laws.{ScannedAreClocked}
use Rattle.dft_rules.specs.Rules.{is_net, place_of_port, place_of_root, place_of_clock, clock_of_source, clocked_by, is_held, is_pin_held, are_held, are_held_at, scan_cell_of, is_kept, may_be_scanned, judged, judged_by}
use Rattle.dft_rules.specs.declared.judged.Judged.TheVariants.{Scanned}
use Rattle.dft_rules.proofs.Scannable.{scannable_flop}

-- ---- places of names

-- the item at a number, from one on, passes a test
pub record IsAt {A : Type 0} (test : A → Bool) (from : ℕ) (xs : List A) (number : ℕ) : Type 0 where
  pub place : ℕ
  pub item : A
  pub is : number ≡ from + place
  pub at : slice_get xs place ≡ Some item
  pub passes : test item ≡ true

position_by : {A : Type 0} (test : A → Bool) (from number : ℕ) (x : A) (xs : List A) (b : Bool) → test x ≡ b → (position_from test (from + 1) xs ≡ Some number → IsAt test (from + 1) xs number) → cond b (Some from) (position_from test (from + 1) xs) ≡ Some number → IsAt test from (x ∷ xs) number
position_by test from number x xs true is more e = record { place = zero; item = x; is = sym (same_Some from number e) ∙ omega arith; at = refl; passes = is }
position_by test from number x xs false is more e = let it = more e in record { place = suc it.place; item = it.item; is = omega (arith, it.is); at = it.at; passes = it.passes }

position_item : {A : Type 0} (test : A → Bool) (from number : ℕ) (xs : List A) → position_from test from xs ≡ Some number → IsAt test from xs number
position_item test from number [] e = absurd (none-some number e)
position_item test from number (x ∷ xs) e = position_by test from number x xs (test x) refl (position_item test (from + 1) number xs) e

pub position_at : {A : Type 0} (test : A → Bool) (number : ℕ) (xs : List A) → position test xs ≡ Some number → IsAt test 0 xs number
position_at test number xs e = position_item test 0 number xs (sym (position_from-zero test xs) ∙ e)

-- ---- a verdict

-- a flip-flop that is scanned in a domain at an edge has them for its clock's, its set and reset are held, and it names a scan cell
pub record PassesRules (clock : Option (ℕ × Bool)) (held scans : Bool) (domain : ℕ) (falling : Bool) : Type 0 where
  pub is_clock : clock ≡ Some (domain, falling)
  pub is_held : held ≡ true
  pub is_scan : scans ≡ true

-- the domain and the edge in a verdict
scanned_in : (a b : ℕ) (f g : Bool) → Some (Scanned a f) ≡ Some (Scanned b g) → (a ≡ b) × (f ≡ g)
scanned_in a b f g is = ((let e : a ≡ b = cc in e), (let e : f ≡ g = cc in e))

same_clocks : (a b : ℕ) (f g : Bool) → a ≡ b → f ≡ g → ◌≡◌ {A = Option (ℕ × Bool)} (Some (a, f)) (Some (b, g))
same_clocks a b f g d e = cc

pub passes : (clock : Option (ℕ × Bool)) (held scans kept : Bool) (domain : ℕ) (falling : Bool) → judged_by clock held scans kept ≡ Some (Scanned domain falling) → PassesRules clock held scans domain falling
passes None held scans kept domain falling is = absurd cc
passes (Some c) false scans kept domain falling is = absurd cc
passes (Some c) true false kept domain falling is = absurd cc
passes (Some c) true true true domain falling is = absurd cc
passes (Some c) true true false domain falling is = (let e = scanned_in c.0 domain c.1 falling is in record { is_clock = same_clocks c.0 domain c.1 falling e.0 e.1; is_held = refl; is_scan = refl })

-- a flip-flop with this verdict
pub record IsVerdict (n : Netlist) (config : Config) (i domain : ℕ) (falling : Bool) : Type 0 where
  pub kind : may_be_scanned (kind_at n i) ≡ true
  pub passed : PassesRules (clocked_by n config i) (are_held_at n config i) (is_some (scan_cell_of n i)) domain falling

verdict_if : (n : Netlist) (config : Config) (i domain : ℕ) (falling b : Bool) → may_be_scanned (kind_at n i) ≡ b →
    (if b then judged_by (clocked_by n config i) (are_held_at n config i) (is_some (scan_cell_of n i)) (is_kept n config.keep i) else None) ≡ Some (Scanned domain falling) → IsVerdict n config i domain falling
verdict_if n config i domain falling true is e = record { kind = is; passed = passes (clocked_by n config i) (are_held_at n config i) (is_some (scan_cell_of n i)) (is_kept n config.keep i) domain falling e }
verdict_if n config i domain falling false is e = absurd (none-some (Scanned domain falling) e)

pub verdict_passes : (n : Netlist) (config : Config) (i domain : ℕ) (falling : Bool) → judged n config i ≡ Some (Scanned domain falling) → IsVerdict n config i domain falling
verdict_passes n config i domain falling e = verdict_if n config i domain falling (may_be_scanned (kind_at n i)) refl e

-- ---- its clock

-- the clock of an instance shows the port of a domain, or the inverse
pub record IsClocked (n : Netlist) (config : Config) (i domain : ℕ) (falling : Bool) : Type 0 where
  pub source : Source
  pub pin : pin_of role.Clock i (pins_of n i) ≡ Some source
  pub net : ℕ
  pub root : clock_root_of n source ≡ Some (record { port = net; inverted = falling })
  pub place : place_of_port n config.domains net ≡ Some domain
  pub name : Text
  pub named : slice_get config.domains domain ≡ Some name
  pub is : is_net net (input_net n name) ≡ true

clock_parts : (inverted : Bool) (o : Option ℕ) (domain : ℕ) (falling : Bool) → option_map {U = ℕ × Bool} (λ (place : ℕ). (place, inverted)) o ≡ Some (domain, falling) → (o ≡ Some domain) × (inverted ≡ falling)
clock_parts inverted None domain falling e = absurd cc
clock_parts inverted (Some place) domain falling e =
    let clock : ℕ × Bool = (place, inverted) in
    let other : ℕ × Bool = (domain, falling) in
    let same : clock ≡ other = same_Some clock other e in
    (ap (λ (c : ℕ × Bool). Some c.0) same, ap (λ (c : ℕ × Bool). c.1) same)

clocked_root : (n : Netlist) (config : Config) (i domain : ℕ) (falling : Bool) (source : Source) (r : Option ClockRoot) → pin_of role.Clock i (pins_of n i) ≡ Some source → clock_root_of n source ≡ r → place_of_clock n config.domains r ≡ Some (domain, falling) →
    IsClocked n config i domain falling
clocked_root n config i domain falling source None pin root e = absurd (none-some (domain, falling) e)
clocked_root n config i domain falling source (Some clock) pin root e =
    let parts = clock_parts clock.inverted (place_of_port n config.domains clock.port) domain falling e in
    let it = position_at (λ name. is_net clock.port (input_net n name)) domain config.domains parts.0 in
    record {
      source = source;
      pin = pin;
      net = clock.port;
      root = root ∙ ap (λ (f : Bool). Some (record { port = clock.port; inverted = f })) parts.1;
      place = parts.0;
      name = it.item;
      named = ap (slice_get config.domains) (omega (arith, it.is)) ∙ it.at;
      is = it.passes;
    }

clocked_pin : (n : Netlist) (config : Config) (i domain : ℕ) (falling : Bool) (o : Option Source) → pin_of role.Clock i (pins_of n i) ≡ o → option_and_then (clock_of_source n config.domains) o ≡ Some (domain, falling) → IsClocked n config i domain falling
clocked_pin n config i domain falling None pin e = absurd (none-some (domain, falling) e)
clocked_pin n config i domain falling (Some source) pin e = clocked_root n config i domain falling source (clock_root_of n source) pin refl e

pub clocked : (n : Netlist) (config : Config) (i domain : ℕ) (falling : Bool) → clocked_by n config i ≡ Some (domain, falling) → IsClocked n config i domain falling
clocked n config i domain falling e = clocked_pin n config i domain falling (pin_of role.Clock i (pins_of n i)) refl e

pub clock_is : (n : Netlist) (config : Config) (i domain : ℕ) (falling : Bool) (c : IsClocked n config i domain falling) → (config_ports n config).is_clock c.net ≡ true
clock_is n config i domain falling c = any_passes_from_place (λ name. is_net c.net (input_net n name)) config.domains domain c.name c.named c.is

pub domain_is : (n : Netlist) (config : Config) (i domain : ℕ) (falling : Bool) (c : IsClocked n config i domain falling) →
    domain_at n (config_ports n config) (pin_of role.Clock i (pins_of n i)) ≡ Some (record { port = c.net; inverted = falling })
domain_is n config i domain falling c =
    ap (domain_at n (config_ports n config)) c.pin ∙ ap (logic.domain_of (config_ports n config)) c.root
    ∙ ap (λ (b : Bool). if b then Some (record { port = c.net; inverted = falling }) else None) (clock_is n config i domain falling c)

-- ---- its reset or set

pub reset_is : (n : Netlist) (config : Config) (net : ℕ) → is_held n config.resets (Port net) ≡ true → (config_ports n config).is_reset net ≡ true
reset_is n config net e =
    let some = some_of (place_of_root n config.resets (Port net)) e in
    let it = position_at (λ name. is_net net (input_net n name)) some.0 config.resets some.1 in
    any_passes_from_place (λ name. is_net net (input_net n name)) config.resets it.place it.item it.at it.passes

force_root : (n : Netlist) (config : Config) (r : Root) → is_held n config.resets r ≡ true → (force : Option ℕ) × (force_of (config_ports n config) r ≡ Some force)
force_root n config (Port net) e = (Some net, ap (λ b. if b then Some (Some net) else None) (reset_is n config net e))
force_root n config (Constant true) e = (None, refl)
force_root n config (Constant false) e = absurd cc
force_root n config Other e = absurd cc

force_pin : (n : Netlist) (config : Config) (pin : Option Source) → is_pin_held n config.resets pin ≡ true → (force : Option ℕ) × (force_at n (config_ports n config) pin ≡ Some force)
force_pin n config None e = (None, refl)
force_pin n config (Some source) e = force_root n config (root_of n source) e

pub force_pins : (n : Netlist) (config : Config) (reset preset : Option Source) → are_held n config.resets reset preset ≡ true → (forces : Forces ℕ) × (forcing n (config_ports n config) (record { clear = reset; preset = preset }) ≡ Some forces)
force_pins n config reset preset e =
    let both = and_parts (is_pin_held n config.resets reset) (is_pin_held n config.resets preset) e in
    let clear = force_pin n config reset both.0 in
    let set = force_pin n config preset both.1 in
    (record { clear = clear.0; preset = set.0 }, λ t. both_forces (clear.1 t) (set.1 t))

-- ---- the flip-flop

-- it is modelled, with what its pins take
pub scanned_flop : (n : Netlist) (config : Config) (i domain : ℕ) (falling : Bool) (forces : Forces ℕ) → may_be_scanned (kind_at n i) ≡ true → (clock : IsClocked n config i domain falling) →
    forcing n (config_ports n config) (forces_of i (pins_of n i)) ≡ Some forces →
    flip_flop n (config_ports n config) i ≡ Some (record { domain = clock.net; falling = falling; takes = takes_of i (pins_of n i); forces = forces })
scanned_flop n config i domain falling forces kind clock forced =
    let ports : Ports = config_ports n config in
    let takes : Takes Source = takes_of i (pins_of n i) in
    ap (λ b. if b then modelled_of n ports i (pins_of n i) else None) (scannable_flop (kind_at n i) kind)
    ∙ ap (λ d. modelled d (forcing n ports (forces_of i (pins_of n i))) takes) (domain_is n config i domain falling clock)
    ∙ ap (λ f. modelled (Some (record { port = clock.net; inverted = falling })) f takes) forced

pub scanned_clocked : ScannedAreClocked
scanned_clocked n config i domain falling e =
    let it : IsVerdict n config i domain falling = verdict_passes n config i domain falling e in
    let clock : IsClocked n config i domain falling = clocked n config i domain falling it.passed.is_clock in
    let force = force_pins n config (pin_of role.Reset i (pins_of n i)) (pin_of role.Preset i (pins_of n i)) it.passed.is_held in
    (_, (scanned_flop n config i domain falling force.0 it.kind clock force.1, (clock.place, refl)))

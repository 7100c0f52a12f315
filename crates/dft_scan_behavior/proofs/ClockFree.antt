-- Where the scan rules pass, nets that show no clock of the configuration are settled from such nets alone, and D of each flip-flop is one.
use Rattle.std.proofs.Common.{ℕ, ◌+◌, ◌≡◌, ◌⊎◌, inl, inr, Bool, true, false, not, ◌&&◌, ◌||◌, cond, List, [], ◌∷◌, length, Option, None, Some, is_some, slice_get, refl, sym, subst, ap, ◌∙◌}
use Rattle.std.specs.Prelude.{if◌then◌else◌}
use Rattle.std.specs.List.{list_any, position_from}
use Rattle.std.proofs.lemmas.Iterator.Adapters.{position_from-zero}
use Rattle.std.proofs.lemmas.Option.{none-some, same_Some}
use Rattle.std.proofs.lemmas.Bool.{not_from_false, or_right}
use Rattle.dft_base.specs.Lexing.{Text}
use Rattle.dft_base.proofs.BitLemmas.{not_itself, not_of}
use Rattle.dft_base.proofs.OptionLemmas.{some_mapped}
use Rattle.dft_cells.specs.declared.kind.Kind.{Kind}
use Rattle.dft_cells.specs.declared.kind.Kind.TheVariants as kind
use Rattle.dft_cells.specs.declared.kind.Gate.{Gate as GateKind}
use Rattle.dft_cells.specs.declared.kind.Gate.TheVariants as gate
use Rattle.dft_cells.specs.declared.kind.Role.{Role}
use Rattle.dft_cells.specs.declared.kind.Role.TheVariants as role
use Rattle.dft_cells.specs.FlipFlops.{is_flip_flop, Takes, Forces, taken_from}
use Rattle.dft_cells.specs.WellFormed.{IsWellFormed}
use Rattle.dft_netlist.specs.declared.instance.Instance.{Instance}
use Rattle.dft_netlist.specs.declared.instance.Signal.{Signal}
use Rattle.dft_netlist.specs.declared.instance.Signal.TheVariants as signal
use Rattle.dft_netlist.specs.declared.instance.Join.{Join}
use Rattle.dft_netlist.specs.declared.net_driver.NetDriver.{NetDriver}
use Rattle.dft_netlist.specs.declared.net_driver.NetDriver.TheVariants.{Input as InputBit, Pin, Join as AJoin, Nothing}
use Rattle.dft_netlist.specs.Netlist.{Netlist}
use Rattle.dft_netlist.specs.Connections.{input_net, same_role, pin_of}
use Rattle.dft_netlist.specs.NetDrivers.{driver_at, is_inverted, joined_by, roles_at, Drives}
use Rattle.dft_netlist.specs.Drivers.{Source, Net, Tied, Loose, Connection, driver, driver_of_kind, source_of, inputs_of, connections_from, connections_of, shape_of, kind_at, kind_of, pins_at, pins_of, nets_of, IsOrdered}
use Rattle.dft_netlist.specs.Drivers as drivers
use Rattle.dft_netlist.specs.Orders.{Has}
use Rattle.dft_netlist.specs.Sound.{IsNetlist}
use Rattle.dft_behavior.specs.NetRoots.{turned, root_of_driver, root_within}
use Rattle.dft_behavior.specs.ClockRoots.{ClockRoot, ClockRooted, turn_of, turn_of_kind, clock_of, clock_root_of}
use Rattle.dft_behavior.specs.Logic.{Logic, Ports, Input, Clock, Gate, Joined, Cell, or_loose, scan_of, takes_of, plain, flip_flop, flop_meaning, lockup_meaning, meaning_of, modelled, modelled_of, logic_of}
use Rattle.dft_behavior.proofs.TraceLemmas.{turn_roles}
use Rattle.dft_behavior.proofs.RootForms.{clock_gate, clock_join}
use Rattle.dft_behavior.proofs.ClockWalks.{clock_found, walk_finds_clock}
use Rattle.dft_netlist.proofs.GateDrivers.{IsGate, driven, gate_drives, pin_driver}
use Rattle.dft_behavior.proofs.StoredLemmas.{flop_cell}
use Rattle.dft_config.specs.Config.{Config}
use Rattle.dft_rules.specs.ConfigPorts.{config_ports}
use Rattle.dft_rules.specs.Refusals.{refusal, takes_data, uses_data, uses_inputs, takes, is_data_of}
use Rattle.dft_rules.specs.Rules.{is_net, place_of_port, place_of_clock, clock_of_source}
use Rattle.dft_rules.proofs.ClockReads.{data_apart, gate_apart}
use Rattle.dft_rules.proofs.ReadingLemmas.{joined_net}
use Rattle.dft_edt.specs.Captures.{AllIn, IsClockFree}
use Rattle.dft_scan_frame.proofs.Fine.{passed_plain}
use Rattle.dft_scan_frame.proofs.Containing.{no_pin, ref_no_role}

-- whether a net shows a clock of the configuration, or its inverse
abbrev shows : Netlist → Config → (net : ℕ) → Bool
shows n config net = is_some (clock_of_source n config.domains (Net net))

-- it shows none
abbrev pub is_clear : Netlist → Config → (net : ℕ) → Bool
is_clear n config net = not (shows n config net)

all_by : (free : ℕ → Bool) (nets : List ℕ) → ((k : ℕ) → Has nets k → free k ≡ true) → AllIn free nets
all_by free [] each = tt
all_by free (net ∷ nets) each = (each net (inl refl), all_by free nets (λ k has. each k (inr has)))

-- ---- what a net means

clock_by : (n : Netlist) (ports : Ports) (net : ℕ) (d : drivers.Driver) → meaning_of n ports net d ≡ Clock → (d ≡ drivers.Input) × (ports.is_clock net ≡ true)
clock_by n ports net drivers.Input e = (refl, by_port (ports.is_clock net) refl e)
  where
    by_port : (b : Bool) → ports.is_clock net ≡ b → (if b then Clock else Input) ≡ Clock → ports.is_clock net ≡ true
    by_port true is h = is
    by_port false is h = absurd cc
clock_by n ports net (drivers.Gate kind inputs) e = absurd cc
clock_by n ports net (drivers.Joined source) e = absurd cc
clock_by n ports net (drivers.Flop i inverted) e = absurd (by_flip_flop (flip_flop n ports i) e)
  where
    by_flip_flop : (o : Option Cell) → flop_meaning i inverted o ≡ Clock → ⊥
    by_flip_flop None h = cc
    by_flip_flop (Some c) h = cc
clock_by n ports net (drivers.Lockup i) e = absurd (by_lockup _ _ e)
  where
    by_lockup : (o : Option ClockRoot) (s : Source) → lockup_meaning i o s ≡ Clock → ⊥
    by_lockup None s h = cc
    by_lockup (Some d) s h = cc
clock_by n ports net drivers.Free e = absurd cc

gate_by : (n : Netlist) (ports : Ports) (net : ℕ) (k : GateKind) (inputs : List Source) (d : drivers.Driver) → meaning_of n ports net d ≡ Gate k inputs → d ≡ drivers.Gate k inputs
gate_by n ports net k inputs drivers.Input e = absurd (by_port (ports.is_clock net) e)
  where
    by_port : (b : Bool) → (if b then Clock else Input) ≡ Gate k inputs → ⊥
    by_port true h = cc
    by_port false h = cc
gate_by n ports net k inputs (drivers.Gate own its) e = let same : (own ≡ k) × (its ≡ inputs) = ((cc), (cc)) in λ i. drivers.Gate (same.0 i) (same.1 i)
gate_by n ports net k inputs (drivers.Joined source) e = absurd cc
gate_by n ports net k inputs (drivers.Flop i inverted) e = absurd (by_flip_flop (flip_flop n ports i) e)
  where
    by_flip_flop : (o : Option Cell) → flop_meaning i inverted o ≡ Gate k inputs → ⊥
    by_flip_flop None h = cc
    by_flip_flop (Some c) h = cc
gate_by n ports net k inputs (drivers.Lockup i) e = absurd (by_lockup _ _ e)
  where
    by_lockup : (o : Option ClockRoot) (s : Source) → lockup_meaning i o s ≡ Gate k inputs → ⊥
    by_lockup None s h = cc
    by_lockup (Some d) s h = cc
gate_by n ports net k inputs drivers.Free e = absurd cc

join_by : (n : Netlist) (ports : Ports) (net : ℕ) (source : Source) (d : drivers.Driver) → meaning_of n ports net d ≡ Joined source → d ≡ drivers.Joined source
join_by n ports net source drivers.Input e = absurd (by_port (ports.is_clock net) e)
  where
    by_port : (b : Bool) → (if b then Clock else Input) ≡ Joined source → ⊥
    by_port true h = cc
    by_port false h = cc
join_by n ports net source (drivers.Gate own its) e = absurd cc
join_by n ports net source (drivers.Joined own) e = let same : own ≡ source = cc in ap (λ (s : Source). drivers.Joined s) same
join_by n ports net source (drivers.Flop i inverted) e = absurd (by_flip_flop (flip_flop n ports i) e)
  where
    by_flip_flop : (o : Option Cell) → flop_meaning i inverted o ≡ Joined source → ⊥
    by_flip_flop None h = cc
    by_flip_flop (Some c) h = cc
join_by n ports net source (drivers.Lockup i) e = absurd (by_lockup _ _ e)
  where
    by_lockup : (o : Option ClockRoot) (s : Source) → lockup_meaning i o s ≡ Joined source → ⊥
    by_lockup None s h = cc
    by_lockup (Some d) s h = cc
join_by n ports net source drivers.Free e = absurd cc

-- ---- a clock port shows itself

placed_by : (b : Bool) (from : ℕ) (rest : Bool) (o : Option ℕ) → (rest ≡ true → is_some o ≡ true) → (b || rest) ≡ true → is_some (cond b (Some from) o) ≡ true
placed_by true from rest o more is = refl
placed_by false from rest o more is = more is

placed : (test : Text → Bool) (from : ℕ) (names : List Text) → list_any test names ≡ true → is_some (position_from test from names) ≡ true
placed test from [] is = absurd cc
placed test from (name ∷ names) is = placed_by (test name) from (list_any test names) (position_from test (from + 1) names) (placed test (from + 1) names) is

port_placed : (n : Netlist) (config : Config) (net : ℕ) → (config_ports n config).is_clock net ≡ true → is_some (place_of_port n config.domains net) ≡ true
port_placed n config net is =
    let test : Text → Bool = λ name. is_net net (input_net n name) in
    ap (λ (o : Option ℕ). is_some o) (position_from-zero test config.domains) ∙ placed test 0 config.domains is

by_port : (n : Netlist) (config : Config) (clock : ClockRoot) → is_some (place_of_clock n config.domains (Some clock)) ≡ is_some (place_of_port n config.domains clock.port)
by_port n config clock = some_mapped (λ place. (place, clock.inverted)) (place_of_port n config.domains clock.port)

port_shows : (n : Netlist) (config : Config) (net : ℕ) → driver n net ≡ drivers.Input → (config_ports n config).is_clock net ≡ true → shows n config net ≡ true
port_shows n config net is clock =
    let root : ClockRoot = record { port = net; inverted = false } in
    ap (λ (d : drivers.Driver). is_some (place_of_clock n config.domains (clock_of (root_of_driver (root_within n (length n.nets)) net d)))) is
    ∙ by_port n config root ∙ port_placed n config net clock

-- ---- what passes a clock on shows it

-- a clock that is passed on to a net is shown there
passed_on : (n : Netlist) (config : Config) (rank : ℕ → ℕ) (net k : ℕ) (flip : Bool → Bool) → IsOrdered n rank → ((port : ℕ) (inverted : Bool) → ClockRooted n (Net k) port inverted → ClockRooted n (Net net) port (flip inverted)) → shows n config k ≡ true → shows n config net ≡ true
passed_on n config rank net k flip order pass here = by (clock_root_of n (Net k)) refl here
  where
    by : (o : Option ClockRoot) → clock_root_of n (Net k) ≡ o → is_some (place_of_clock n config.domains o) ≡ true → shows n config net ≡ true
    by None is h = absurd cc
    by (Some clock) is h =
        let there : ClockRoot = record { port = clock.port; inverted = flip clock.inverted } in
        let found : clock_root_of n (Net net) ≡ Some there = walk_finds_clock n rank (Net net) clock.port (flip clock.inverted) order (pass clock.port clock.inverted (clock_found n (Net k) clock is)) in
        ap (λ (o : Option ClockRoot). is_some (place_of_clock n config.domains o)) found ∙ by_port n config there ∙ sym (by_port n config clock) ∙ h

-- a buffer or an inverter reads one source
one_read : (i k : ℕ) (pins : List Signal) → Has (nets_of (inputs_of i (connections_from 0 (role.Input ∷ role.Output ∷ []) pins))) k → inputs_of i (connections_from 0 (role.Input ∷ role.Output ∷ []) pins) ≡ Net k ∷ []
one_read i k [] has = absurd has
one_read i k (signal.Net net ∷ []) has = elim has [ inl e ↦ ap (λ (j : ℕ). Net j ∷ []) (sym e) | inr more ↦ absurd more ]
one_read i k (signal.Constant bit ∷ []) has = absurd has
one_read i k (signal.Unconnected ∷ []) has = absurd has
one_read i k (signal.Net net ∷ s ∷ pins) has = elim has [ inl e ↦ ap (λ (j : ℕ). Net j ∷ []) (sym e) | inr more ↦ absurd more ]
one_read i k (signal.Constant bit ∷ s ∷ pins) has = absurd has
one_read i k (signal.Unconnected ∷ s ∷ pins) has = absurd has

-- a gate passes a clock on, or takes no clock
data_or_turn : (k : GateKind) → (uses_inputs k ≡ true) ⊎ ((turns : Bool) × (turn_of k ≡ Some turns))
data_or_turn gate.Buf = inr (false, refl)
data_or_turn gate.Inv = inr (true, refl)
data_or_turn _ = inl refl

-- ---- the data input of a flip-flop

flop_data : (k : Kind) → is_flip_flop k ≡ true → uses_data k ≡ true
flop_data (kind.Flop flop) is = refl
flop_data _ is = absurd cc

same_data : (r : Role) → same_role role.Din r ≡ true → takes_data r ≡ true
same_data role.Din is = refl
same_data _ is = absurd cc

din_by : (i k : ℕ) (c : Connection) (cs : List Connection) (b : Bool) → same_role role.Din c.role ≡ b → (pin_of role.Din i cs ≡ Some (Net k) → list_any (takes k) cs ≡ true)
    → (if b then Some (source_of i c.pin c.to) else pin_of role.Din i cs) ≡ Some (Net k) → (takes k c || list_any (takes k) cs) ≡ true
din_by i k c cs true is more e =
    let one : takes k c ≡ true = (λ j. same_data c.role is j && joined_net i c.pin k c.to e j) in
    ap (λ (b : Bool). b || list_any (takes k) cs) one
din_by i k c cs false is more e = or_right (takes k c) (list_any (takes k) cs) (more e)

din_taken : (i k : ℕ) (cs : List Connection) → pin_of role.Din i cs ≡ Some (Net k) → list_any (takes k) cs ≡ true
din_taken i k [] e = absurd (none-some (Net k) e)
din_taken i k (c ∷ cs) e = din_by i k c cs (same_role role.Din c.role) refl (din_taken i k cs) e

-- a modelled flip-flop takes what its pins are joined to
flop_takes : (domain : Option ClockRoot) (forces : Option (Forces ℕ)) (takes : Takes Source) (c : Cell) → modelled domain forces takes ≡ Some c → c.takes ≡ takes
flop_takes None forces takes c e = absurd (none-some c e)
flop_takes (Some d) None takes c e = absurd (none-some c e)
flop_takes (Some d) (Some f) takes c e = ap (λ (k : Cell). k.takes) (sym (same_Some (record { domain = d.port; falling = d.inverted; takes = takes; forces = f }) c e))

cell_takes : (n : Netlist) (its : Ports) (i : ℕ) (b : Bool) (c : Cell) → (if b then modelled_of n its i (pins_of n i) else None) ≡ Some c → (b ≡ true) × (c.takes ≡ takes_of i (pins_of n i))
cell_takes n its i true c e = (refl, flop_takes _ _ _ c e)
cell_takes n its i false c e = absurd (none-some c e)

module _ (n : Netlist) (config : Config) (rank : ℕ → ℕ) (order : IsOrdered n rank) (sound : IsNetlist n) (library : IsWellFormed n.library) (passed : refusal n config ≡ None) where
  abbrev ports : Ports
  ports = config_ports n config

  abbrev l : Logic
  l = logic_of n ports

  -- ---- gates and joins

  turn_reads : (net k : ℕ) (a : GateKind) (turns : Bool) (inputs : List Source) → driver n net ≡ drivers.Gate a inputs → turn_of a ≡ Some turns → Has (nets_of inputs) k → shows n config k ≡ true → shows n config net ≡ true
  turn_reads net k a turns inputs is turn has =
      let gate : IsGate n a inputs = gate_drives n net a inputs is in
      let x : Instance = gate.instance in
      let roles : (shape_of n.library x.cell).roles ≡ role.Input ∷ role.Output ∷ [] = turn_roles n.library library (length n.nets) x.name x.cell x.pins turns (sound.instances gate.number x gate.at) (ap turn_of_kind gate.kind ∙ turn) in
      let own : inputs_of gate.number (connections_from 0 (role.Input ∷ role.Output ∷ []) x.pins) ≡ inputs = ap (λ (rs : List Role). inputs_of gate.number (connections_from 0 rs x.pins)) (sym roles) ∙ gate.reads in
      let one : inputs ≡ Net k ∷ [] = sym own ∙ one_read gate.number k x.pins (subst (λ (s : List Source). Has (nets_of s) k) (sym own) has) in
      passed_on n config rank net k (turned turns) order (λ port inverted rooted. clock_gate n net a (Net k) turns port inverted (is ∙ ap (λ (s : List Source). drivers.Gate a s) one) turn rooted)

  read_clear : (net k : ℕ) (a : GateKind) (inputs : List Source) → is_clear n config net ≡ true → driver n net ≡ drivers.Gate a inputs → Has (nets_of inputs) k → is_clear n config k ≡ true
  read_clear net k a inputs clear is has = elim (data_or_turn a) [
    | inl uses ↦ not_from_false (shows n config k) (gate_apart n config net k a inputs sound passed is uses has)
    | inr turn ↦ not_of (shows n config k) (λ here. not_itself (shows n config net) clear (turn_reads net k a turn.0 inputs is turn.1 has here))
  ]

  gates_clear : (net : ℕ) (a : GateKind) (inputs : List Source) → is_clear n config net ≡ true → l.net net ≡ Gate a inputs → AllIn (is_clear n config) (nets_of inputs)
  gates_clear net a inputs clear is = all_by (is_clear n config) (nets_of inputs) (λ k has. read_clear net k a inputs clear (gate_by n ports net a inputs (driver n net) is) has)

  source_clear : (net : ℕ) (source : Source) → is_clear n config net ≡ true → driver n net ≡ drivers.Joined source → AllIn (is_clear n config) (nets_of (source ∷ []))
  source_clear net (Net k) clear is =
      (not_of (shows n config k) (λ here. not_itself (shows n config net) clear (passed_on n config rank net k (λ i. i) order (λ port inverted rooted. clock_join n net (Net k) port inverted is rooted) here)), tt)
  source_clear net (Tied bit) clear is = tt
  source_clear net (Loose i pin) clear is = tt

  pub clock_free : IsClockFree l (is_clear n config)
  clock_free = record {
    clocks = λ net clear is. (let input = clock_by n ports net (driver n net) is in not_itself (shows n config net) clear (port_shows n config net input.0 input.1));
    gates = gates_clear;
    joins = λ net source clear is. source_clear net source clear (join_by n ports net source (driver n net) is);
  }

  -- ---- flip-flops

  instance_clear : (i k : ℕ) (o : Option Instance) → slice_get n.instances i ≡ o → is_flip_flop (kind_of n.library o) ≡ true → pin_of role.Din i (pins_at n.library o) ≡ Some (Net k) → is_clear n config k ≡ true
  instance_clear i k None at flop din = absurd cc
  instance_clear i k (Some x) at flop din =
      let taken : is_data_of n.library k x ≡ true = (λ j. flop_data (shape_of n.library x.cell).kind flop j && din_taken i k (connections_of n.library x) din j) in
      not_from_false (shows n config k) (data_apart n config i x k sound passed at taken)

  din_clear : (i : ℕ) (o : Option Source) → is_flip_flop (kind_at n i) ≡ true → pin_of role.Din i (pins_of n i) ≡ o → AllIn (is_clear n config) (nets_of (or_loose i o ∷ []))
  din_clear i None flop is = tt
  din_clear i (Some (Net k)) flop is = (instance_clear i k (slice_get n.instances i) refl flop is, tt)
  din_clear i (Some (Tied bit)) flop is = tt
  din_clear i (Some (Loose j pin)) flop is = tt

  -- none has scan pins yet
  none_scans : (i : ℕ) (o : Option Instance) → slice_get n.instances i ≡ o → is_flip_flop (kind_of n.library o) ≡ true → pin_of role.ScanEnable i (pins_at n.library o) ≡ None
  none_scans i None at flop = refl
  none_scans i (Some x) at flop = no_pin role.ScanEnable i 0 (shape_of n.library x.cell).roles x.pins (ref_no_role n.library x.cell library (passed_plain n config i x sound passed at) flop)

  by_flop : (i : ℕ) (o : Option Cell) → flip_flop n ports i ≡ o → is_some o ≡ true → AllIn (is_clear n config) (nets_of (taken_from (l.cell i).takes))
  by_flop i None at is = absurd cc
  by_flop i (Some c) at is =
      let own = cell_takes n ports i (is_flip_flop (kind_at n i)) c at in
      let source : Source = or_loose i (pin_of role.Din i (pins_of n i)) in
      let none : (takes_of i (pins_of n i)).scan ≡ None = ap (λ o. scan_of o (pin_of role.ScanIn i (pins_of n i))) (none_scans i (slice_get n.instances i) refl own.0) in
      let takes : (l.cell i).takes ≡ plain source = ap (λ (k : Cell). k.takes) (flop_cell n ports i c at) ∙ own.1 ∙ (λ t. record { input = source; scan = none t }) in
      subst (λ (t : Takes Source). AllIn (is_clear n config) (nets_of (taken_from t))) (sym takes) (din_clear i (pin_of role.Din i (pins_of n i)) own.0 refl)

  -- no clock reaches what a flip-flop takes
  pub inputs_clear : (i : ℕ) → is_some (flip_flop n ports i) ≡ true → AllIn (is_clear n config) (nets_of (taken_from (l.cell i).takes))
  inputs_clear i is = by_flop i (flip_flop n ports i) refl is

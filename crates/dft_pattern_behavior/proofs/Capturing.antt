-- A capture leaves what the pattern says that it captures.
use Rattle.std.proofs.Common.{ℕ, zero, suc, ◌<◌, ◌≤◌, ◌≡◌, Bool, true, false, List, [], ◌∷◌, ◌++◌, length, map, drop, Option, None, Some, is_some, slice_get, refl, sym, ap, subst, arith, ◌∙◌}
use Rattle.std.specs.Prelude.{flat_map, if◌then◌else◌}
use Rattle.std.specs.List.{AllByRecursion}
use Rattle.std.proofs.lemmas.Bool.{eqb-true}
use Rattle.std.proofs.lemmas.Option.{none-some, same_Some, slice_get_within}
use Rattle.dft_base.specs.Solutions.{bit_at}
use Rattle.dft_base.specs.declared.dir.Dir.{Dir}
use Rattle.dft_base.specs.declared.dir.Dir.TheVariants as dir
use Rattle.dft_base.specs.declared.tri.Tri.{Tri}
use Rattle.dft_base.specs.declared.tri.Tri.TheVariants.{One, Unknown}
use Rattle.dft_base.specs.Tri.{known, AboveTri}
use Rattle.dft_cells.specs.declared.kind.Role.TheVariants as role
use Rattle.dft_cells.specs.FlipFlops.{is_flip_flop, Forces, IsForceOf, tri_forced_by}
use Rattle.dft_cells.proofs.TakesLemmas.{left_same, left_rests}
use Rattle.dft_cells.proofs.TriLemmas.{forced_one}
use Rattle.dft_cells.proofs.Completions.{above_self}
use Rattle.dft_netlist.specs.declared.ids.NetId.{NetId}
use Rattle.dft_netlist.specs.declared.ids.InstanceId.{InstanceId}
use Rattle.dft_netlist.specs.declared.port.Port as design_port
use Rattle.dft_netlist.specs.Connections.{is_input, pin_of}
use Rattle.dft_netlist.specs.Drivers.{Source, Driver, driver, kind_at, pins_of}
use Rattle.dft_netlist.specs.Drivers as drivers
use Rattle.dft_behavior.specs.Logic.{Logic, Ports, Meaning, Input, Clock, Gate, Joined, Flop, Lockup, Free, Cell, cell_or_none, domain_at, flip_flop, flop_meaning, force_of, forcing, lockup_meaning, meaning_of, modelled, modelled_of, or_loose, scan_of}
use Rattle.dft_netlist.specs.Netlist.{Netlist}
use Rattle.dft_behavior.specs.Runs.{Vector}
use Rattle.dft_behavior.specs.Settled.{IsTriSettled, inverse, value_given, value_from}
use Rattle.dft_netlist.specs.Sound.{bits_of}
use Rattle.dft_behavior.specs.Traces.{Root, Port, Constant, Other, root_of}
use Rattle.dft_behavior.specs.ClockRoots.{ClockRoot}
use Rattle.dft_netlist.proofs.LiveDriven.{AreBefore, before_front, before_back}
use Rattle.dft_behavior.proofs.StoredLemmas.{stored_force}
use Rattle.dft_abstract.specs.Cycle.{rise_of, strobe_sources, AreHalves, Round, IsRound, after_round}
use Rattle.dft_abstract.specs.Laws.{next_from}
use Rattle.dft_abstract.proofs.Halves.{closed_views, least_closed}
use Rattle.dft_config.specs.Config.{Config}
use Rattle.dft_config.specs.Cycles.{longest_segment}
use Rattle.dft_config.proofs.Linearity.{loads_sum}
use Rattle.dft_rules.specs.Rules.{is_net}
use Rattle.dft_runs.specs.Passes.{AreRounds, after_rounds}
use Rattle.dft_rules.proofs.ReadingLemmas.{is_itself}
use Rattle.dft_stitch.specs.Chains.{cells_of, plan_of}
use Rattle.dft_stitch.specs.Plans.{cell_at, falling_head}
use Rattle.dft_stitch.proofs.BlockLemmas.{chain_count}
use Rattle.dft_chains.specs.ScanOff.{Places}
use Rattle.dft_edt.specs.Captures.{IsCaptured, StandsOver}
use Rattle.dft_edt.specs.Captures as edt
use Rattle.dft_edt.specs.Loads.{load_sum}
use Rattle.dft_edt.specs.Unloads.{AreMasked}
use Rattle.dft_edt.specs.Vectors.{Clears, IsClearing}
use Rattle.dft_cubes.specs.Domains.{later_of}
use Rattle.dft_expect.specs.Captures.{AllSettled, AreSettled, Settled, after_edges, bit_of_port, bits_out, captured_domains, is_chained, last_state, next_state, output_bits, outputs_before, port_value, vector_of, original as original_of}
use Rattle.dft_expect.proofs.GivenLemmas.{flop_by}
use Rattle.dft_expect.specs.Loaded.{loaded_bit, loaded_values}
use Rattle.dft_scan_frame.specs.ConfigPorts.{config_ports}
use Rattle.dft_scan_frame.specs.Statements.{IsReady}
use Rattle.dft_scan_frame.proofs.Contained.{AreMatched}
use Rattle.dft_scan_frame.proofs.Kept.{design_ports_few}
use Rattle.dft_insert.specs.declared.style.Style.TheVariants.{Edt}
use Rattle.dft_insert.specs.Statements.{scanned}
use Rattle.dft_insert.specs.Agreeing.{places_in, ports_in}
use Rattle.dft_insert.proofs.Driving.{ports_before}
use Rattle.dft_insert.proofs.Matching.{instance_matched}
use Rattle.dft_insert.proofs.Sparing.{spared}
use Rattle.dft_scan_behavior.specs.Capturing.{design_logic}
use Rattle.dft_scan_behavior.specs.EdtVectors.{SuitsEdt, edt_logic}
use Rattle.dft_scan_behavior.specs.Facts.{edt_hardware}
use Rattle.dft_scan_behavior.proofs.Captured.{captures_follow, strobes_follow}
use Rattle.dft_scan_behavior.proofs.Planned.{planned}
use Rattle.dft_scan_behavior.proofs.Reaching.{loads_reach, unloads_show}
use Rattle.dft_stitch.proofs.LengthLemmas.{chains_fit}
use Rattle.dft_stitch.proofs.CellPlaces.{chain_of}
use Rattle.dft_pattern_behavior.specs.Given.{AreCapturesFrom, AreCapturesOf, HasClock, Pattern, IsPattern, IsLoadOf, IsCaptureOf}
use Rattle.dft_pattern_behavior.specs.Rounds.{ShowsCapture, ShowsCaptures}
use Rattle.dft_pattern_behavior.proofs.Clocks.{named_input, pulsed_rests, reset_rests}
use Rattle.dft_pattern_behavior.proofs.Loaded.{loaded_above}
use Rattle.dft_pattern_behavior.proofs.Edges.{captured_same, risen_above, unchained_next, unknown_by}
use Rattle.dft_pattern_behavior.proofs.Ends.{rounds_end}
use Rattle.dft_pattern_behavior.proofs.Unloading.{HasCaptured, loaded_in}

-- ---- inputs of the design

-- an input whose value is settled from its port is no clock
pub input_by : (n : Netlist) (ports : Ports) (net : ℕ) (d : Driver) → meaning_of n ports net d ≡ Input → (is_input d ≡ true) × (ports.is_clock net ≡ false)
input_by n ports net drivers.Input e = (refl, no_clock (ports.is_clock net) refl e)
  where
    no_clock : (b : Bool) → ports.is_clock net ≡ b → (if b then Clock else Input) ≡ Input → ports.is_clock net ≡ false
    no_clock true is h = absurd cc
    no_clock false is h = is
input_by n ports net (drivers.Gate kind inputs) e = absurd cc
input_by n ports net (drivers.Joined source) e = absurd cc
input_by n ports net (drivers.Flop i inverted) e = absurd (no_flop (flip_flop n ports i) e)
  where
    no_flop : (o : Option Cell) → flop_meaning i inverted o ≡ Input → ⊥
    no_flop None h = cc
    no_flop (Some c) h = cc
input_by n ports net (drivers.Lockup i) e = absurd (no_lockup _ _ e)
  where
    no_lockup : (o : Option ClockRoot) (s : drivers.Source) → lockup_meaning i o s ≡ Input → ⊥
    no_lockup None s h = cc
    no_lockup (Some d) s h = cc
input_by n ports net drivers.Free e = absurd cc

-- ---- two vectors that are the same at inputs that are no clocks

-- an input that is no clock
abbrev pub IsData : Netlist → Ports → (net : ℕ) → Type 0
IsData n ports net = (is_input (driver n net) ≡ true) × (ports.is_clock net ≡ false)

abbrev pub SameAt : Netlist → Ports → (x y : Vector) → Type 0
SameAt n ports x y = (net : ℕ) → IsData n ports net → x.ports net ≡ y.ports net

pub forced_same : (n : Netlist) (ports : Ports) (x y : Vector) (forces : Forces ℕ) (t : Tri) → SameAt n ports x y → ((port : ℕ) → IsForceOf forces port → IsData n ports port) → tri_forced_by forces x.ports t ≡ tri_forced_by forces y.ports t
forced_same n ports x y forces t same input = left_same forces x.ports y.ports t (λ port has. same port (input port has))

-- the sources of a strobe give the same value
pub given_same : (n : Netlist) (ports : Ports) (l : Logic) (x y : Vector) (old values : ℕ → Tri) (net : ℕ) (m : Meaning) → (m ≡ Input → IsData n ports net) → SameAt n ports x y → ((c : ℕ) → (rise_of l x old).old c ≡ (rise_of l y old).old c) →
    value_given (strobe_sources l x old values) values net m ≡ value_given (strobe_sources l y old values) values net m
given_same n ports l x y old values net Input input same flops = same net (input refl)
given_same n ports l x y old values net Clock input same flops = refl
given_same n ports l x y old values net (Gate kind inputs) input same flops = refl
given_same n ports l x y old values net (Joined source) input same flops = refl
given_same n ports l x y old values net (Flop cell true) input same flops = ap inverse (flops cell)
given_same n ports l x y old values net (Flop cell false) input same flops = flops cell
given_same n ports l x y old values net (Lockup cell domain high source) input same flops = ap (λ (t : Tri). if high then t else value_from values source) (flops cell)
given_same n ports l x y old values net Free input same flops = refl

-- ---- resets

-- the ports of resets and sets are resets
pub flop_reset : (n : Netlist) (config : Config) (cell port : ℕ) → IsForceOf ((original_of n config).cell cell).forces port → (config_ports n config).is_reset port ≡ true
flop_reset n config cell port has =
    flop_by n (config_ports n config) cell (is_flip_flop (kind_at n cell)) port (subst (λ (f : Forces ℕ). IsForceOf f port) (stored_force n (config_ports n config) cell) has)

-- ---- cells

modelled_old : (p : Places) (old new : Option Cell) (c : Cell) → new ≡ Some c → AreMatched p old new → is_some old ≡ true
modelled_old p None None c e h = absurd (none-some c e)
modelled_old p None (Some b) c e h = absurd h
modelled_old p (Some a) new c e h = refl

-- ---- outputs

before_both : (count : ℕ) (xs ys : List NetId) → AreBefore count xs → AreBefore count ys → AreBefore count (xs ++ ys)
before_both count [] ys h k = k
before_both count (x ∷ xs) ys h k = (h.0, before_both count xs ys h.1 k)

before_at : (count : ℕ) (xs : List NetId) (k : ℕ) (net : NetId) → AreBefore count xs → slice_get xs k ≡ Some net → net.0 < count
before_at count [] k net h at = absurd (none-some net at)
before_at count (x ∷ xs) zero net h at = subst (λ (y : NetId). y.0 < count) (same_Some x net at) h.0
before_at count (x ∷ xs) (suc k) net h at = before_at count xs k net h.1 at

bits_before : (count : ℕ) (d : Dir) (bits : List NetId) → AreBefore count bits → AreBefore count (bits_out d bits)
bits_before count dir.Input bits h = tt
bits_before count dir.Output bits h = h

outputs_below : (count : ℕ) (ports : List design_port.Port) → AreBefore count (bits_of ports) → AreBefore count (output_bits ports)
outputs_below count [] h = tt
outputs_below count (port ∷ ports) h =
    before_both count (bits_out port.dir port.bits) (output_bits ports) (bits_before count port.dir port.bits (before_front count port.bits (bits_of ports) h)) (outputs_below count ports (before_back count port.bits (bits_of ports) h))

-- the first of some values and others, by number
front_of : (f : NetId → Tri) (xs : List NetId) (more : List Tri) (k : ℕ) (x : NetId) → slice_get xs k ≡ Some x → slice_get (map f xs ++ more) k ≡ Some (f x)
front_of f [] more k x at = absurd (none-some x at)
front_of f (y ∷ xs) more zero x at = ap (λ (z : NetId). Some (f z)) (same_Some y x at)
front_of f (y ∷ xs) more (suc k) x at = front_of f xs more k x at

pub drop_map : (f : NetId → Tri) (xs : List NetId) (more : List Tri) → drop (length xs) (map f xs ++ more) ≡ more
drop_map f [] more = refl
drop_map f (x ∷ xs) more = drop_map f xs more

-- ---- one capture vector

-- no more is known of the flip-flops than what they have, and nothing of those that are no cells of the chains
pub record IsOver (n : Netlist) (config : Config) (its old : ℕ → Tri) : Type 0 where
  pub above : (cell : ℕ) → (places_in Edt n config).is_flop cell ≡ true → AboveTri (its cell) (old cell)
  pub unknown : (cell : ℕ) → is_chained (plan_of n config).chains cell ≡ false → its cell ≡ Unknown

module _ (n : Netlist) (config : Config) (ports : Ports) (p : Pattern) (domain : ℕ) (capture : Vector) (old its : ℕ → Tri) (caught : Settled) (r : Round) (ready : IsReady n config) (suits : SuitsEdt n config ports) (clocked : HasClock n config domain)
    (captures : IsCaptureOf n config p domain capture) (round : IsRound (edt_logic n config ports) capture old r) (are : AreSettled (design_logic n config) (plan_of n config).chains (vector_of n config p.merged domain) its caught) (over_old : IsOver n config its old) where
  abbrev l : Logic
  l = edt_logic n config ports

  abbrev original : Logic
  original = design_logic n config

  abbrev s : Places
  s = places_in Edt n config

  abbrev chains : List (List InstanceId)
  chains = (plan_of n config).chains

  abbrev cv : Vector
  cv = vector_of n config p.merged domain

  abbrev new : ℕ → Tri
  new = after_round l capture old r

  abbrev clock : NetId
  clock = clocked.clock

  -- the capture as a vector of the design
  abbrev y : Vector
  y = record { ports = λ net. capture.ports (s.moved net); pulsed = cv.pulsed }

  resets : (cell port : ℕ) → IsForceOf (original.cell cell).forces port → (config_ports n config).is_reset port ≡ true
  resets cell port has = flop_reset n config cell port has

  force_input : (cell port : ℕ) → IsForceOf (original.cell cell).forces port → IsData n (config_ports n config) port
  force_input cell port has = (named_input n port config.resets (resets cell port has), reset_rests n config port ready.range (resets cell port has))

  same : SameAt n (config_ports n config) y cv
  same net its_data = captures.ports net its_data.0 (pulsed_rests n config net domain its_data.1)

  flops_same : (state : ℕ → Tri) (cell : ℕ) → (rise_of original y state).old cell ≡ (rise_of original cv state).old cell
  flops_same state cell = forced_same n (config_ports n config) y cv (original.cell cell).forces (state cell) same (force_input cell)

  -- the state in which the clock has risen
  abbrev risen : ℕ → Tri
  risen = after_edges original chains cv true caught.first its

  settled_same : (state values : ℕ → Tri) → IsTriSettled original (strobe_sources original cv state values) values → IsTriSettled original (strobe_sources original y state values) values
  settled_same state values settles net =
      settles net ∙ sym (given_same n (config_ports n config) original y cv state values net (original.net net) (input_by n (config_ports n config) net (driver n net)) same (flops_same state))

  settled : IsTriSettled original (strobe_sources original y its caught.first) caught.first
  settled = settled_same its caught.first are.first

  over : StandsOver s y capture its old
  over = record { ports = λ net less. above_self (capture.ports (s.moved net)); flops = over_old.above }

  pulses : (e : ℕ) → capture.pulsed (s.moved e) ≡ is_net e (Some clock)
  pulses e = captures.pulsed e ∙ ap (is_net e) clocked.is

  is_capture : edt.IsCapture s clock.0 capture
  is_capture = record {
    pulsed = pulses clock.0 ∙ is_itself clock;
    alone = λ e pulse. sym (eqb-true clock.0 e (sym (pulses e) ∙ pulse));
    off = captures.off;
  }

  next_same : (values : ℕ → Tri) (own : Tri) (cell : ℕ) → next_from original y values own cell ≡ next_from original cv values own cell
  next_same values own cell = forced_same n (config_ports n config) y cv (original.cell cell).forces _ same (force_input cell)

  one : (cell port : ℕ) → IsForceOf (original.cell cell).forces port → y.ports port ≡ One
  one cell port has = same port (force_input cell port has) ∙ ap (λ b. port_value b (bit_of_port p.merged.ports port)) (resets cell port has)

  idle : (cell : ℕ) (t : Tri) → tri_forced_by (original.cell cell).forces y.ports t ≡ t
  idle cell t = left_rests (original.cell cell).forces y.ports t (one cell)

  halves : AreHalves l capture old r.halves
  halves = closed_views l capture old r.halves (least_closed l capture old r.halves round.least)

  is_caught : IsCaptured original clock.0 y its risen caught.first caught.second
  is_caught = record {
    first = settled;
    above = risen_above n config chains p.merged domain clock clocked.is y next_same idle caught.first its over_old.unknown;
    second = settled_same risen caught.second are.second;
  }

  next_by : (cell : ℕ) (b : Bool) → is_chained chains cell ≡ b → s.is_flop cell ≡ true → AboveTri (next_state original chains cv its caught cell) (new cell)
  next_by cell true is flop =
      subst (λ (t : Tri). AboveTri t (new cell)) (sym (captured_same n config chains p.merged domain clock clocked.is y next_same idle caught its cell is))
      (captures_follow n config ports ready suits clock.0 y capture its risen old r.halves caught.first caught.second is_capture over is_caught halves cell flop)
  next_by cell false is flop = subst (λ (t : Tri). AboveTri t (new cell)) (sym (unchained_next original chains cv caught its cell is ∙ over_old.unknown cell is)) tt

  -- so it is behind the vector
  pub over_next : IsOver n config (next_state original chains cv its caught) new
  over_next = record {
    above = λ cell flop. next_by cell (is_chained chains cell) refl flop;
    unknown = λ cell apart. unchained_next original chains cv caught its cell apart ∙ over_old.unknown cell apart;
  }

  -- and the outputs show no other values than these
  pub shows_own : (more : List Tri) → ShowsCapture n config (outputs_before n caught ++ more) r
  shows_own more k net value at here =
      let less : net.0 < length n.nets = design_ports_few n config net.0 ready (before_at (length (bits_of n.ports)) (output_bits n.ports) k net (outputs_below (length (bits_of n.ports)) n.ports (ports_before n config ready)) at) in
      let its_value : Some (caught.first net.0) ≡ Some value = sym (front_of (λ (k : NetId). caught.first k.0) (output_bits n.ports) more k net at) ∙ here in
      subst (λ (t : Tri). AboveTri t (r.strobe (s.moved net.0))) (same_Some (caught.first net.0) value its_value)
      (strobes_follow n config ports ready suits y capture its old caught.first r.strobe over settled round.strobe net.0 less)

-- ---- one after another

record AllShown (n : Netlist) (config : Config) (ports : Ports) (p : Pattern) (domains : List ℕ) (xs : List Vector) (old its : ℕ → Tri) (settled : List Settled) (ts : List Round) : Type 0 where
  shows : ShowsCaptures n config (flat_map (outputs_before n) settled) ts
  over : IsOver n config (last_state (design_logic n config) (plan_of n config).chains (map (vector_of n config p.merged) domains) its settled) (after_rounds (edt_logic n config ports) old xs ts)

all_shown : (n : Netlist) (config : Config) (ports : Ports) (p : Pattern) (domain : ℕ) (later : List ℕ) (xs : List Vector) (old its : ℕ → Tri) (settled : List Settled) (ts : List Round) → IsReady n config → SuitsEdt n config ports →
    AllByRecursion (HasClock n config) (domain ∷ later) → AreCapturesFrom n config p domain later xs → AreRounds (edt_logic n config ports) old xs ts →
    AllSettled (design_logic n config) (plan_of n config).chains (map (vector_of n config p.merged) (domain ∷ later)) its settled → IsOver n config its old → AllShown n config ports p (domain ∷ later) xs old its settled ts
all_shown n config ports p domain [] [] old its settled ts ready suits clocked captures rounds are over = absurd captures
all_shown n config ports p domain [] (x ∷ y ∷ xs) old its settled ts ready suits clocked captures rounds are over = absurd captures
all_shown n config ports p domain [] (x ∷ []) old its [] ts ready suits clocked captures rounds are over = absurd are
all_shown n config ports p domain [] (x ∷ []) old its (s ∷ t ∷ settled) ts ready suits clocked captures rounds are over = absurd are.1
all_shown n config ports p domain [] (x ∷ []) old its (s ∷ []) [] ready suits clocked captures rounds are over = absurd rounds
all_shown n config ports p domain [] (x ∷ []) old its (s ∷ []) (r ∷ q ∷ ts) ready suits clocked captures rounds are over = absurd rounds.1
all_shown n config ports p domain [] (x ∷ []) old its (s ∷ []) (r ∷ []) ready suits clocked captures rounds are over = record {
  shows = (shows_own n config ports p domain x old its s r ready suits clocked.0 captures.0 rounds.0 are.0 over [], tt);
  over = over_next n config ports p domain x old its s r ready suits clocked.0 captures.0 rounds.0 are.0 over;
}
all_shown n config ports p domain (next ∷ later) [] old its settled ts ready suits clocked captures rounds are over = absurd captures
all_shown n config ports p domain (next ∷ later) (x ∷ xs) old its [] ts ready suits clocked captures rounds are over = absurd are
all_shown n config ports p domain (next ∷ later) (x ∷ xs) old its (s ∷ settled) [] ready suits clocked captures rounds are over = absurd rounds
all_shown n config ports p domain (next ∷ later) (x ∷ xs) old its (s ∷ settled) (r ∷ ts) ready suits clocked captures rounds are over =
    let l : Logic = edt_logic n config ports in
    let more : List Tri = flat_map (outputs_before n) settled in
    let own : List Tri = outputs_before n s in
    let after = over_next n config ports p domain x old its s r ready suits clocked.0 captures.0 rounds.0 are.0 over in
    let rest =
    all_shown n config ports p next later xs (after_round l x old r) (next_state (design_logic n config) (plan_of n config).chains (vector_of n config p.merged domain) its s) settled ts ready suits clocked.1 captures.2 rounds.1 are.1 after in
    record {
      shows = (
        shows_own n config ports p domain x old its s r ready suits clocked.0 captures.0 rounds.0 are.0 over more,
        subst (λ (os : List Tri). ShowsCaptures n config os ts) (sym (drop_map (λ (k : NetId). s.first k.0) (output_bits n.ports) more)) rest.shows,
      );
      over = rest.over;
    }

-- ---- a pattern's load and its captures

module _ (n : Netlist) (config : Config) (ports : Ports) (p : Pattern) (clear : Vector) (before : ℕ → Tri) (c : Round) (load xs : List Vector) (rs ts : List Round) (ready : IsReady n config) (suits : SuitsEdt n config ports) (is : IsPattern n config p)
    (clearing : IsClearing (edt_hardware n config) clear) (cleared : IsRound (edt_logic n config ports) clear before c) (loads : IsLoadOf n config p load) (captures : AreCapturesOf n config p xs)
    (rounds : AreRounds (edt_logic n config ports) (after_round (edt_logic n config ports) clear before c) load rs)
    (caught : AreRounds (edt_logic n config ports) (after_rounds (edt_logic n config ports) (after_round (edt_logic n config ports) clear before c) load rs) xs ts) where
  abbrev written : Logic
  written = edt_logic n config ports

  abbrev planned_chains : List (List InstanceId)
  planned_chains = (plan_of n config).chains

  abbrev cycles : ℕ
  cycles = (plan_of n config).cycles

  abbrev late : ℕ → Bool
  late = falling_head (plan_of n config)

  abbrev begun : ℕ → Tri
  begun = loaded_values planned_chains (loaded_in n config p)

  abbrev loaded : ℕ → Tri
  loaded = after_rounds written (after_round written clear before c) load rs

  -- each cell has what the load brings to it
  brought : (chain place : ℕ) (cell : InstanceId) → cell_at planned_chains chain place ≡ Some cell → loaded cell.0 ≡ known (loaded_bit config.ring p.table cycles (late chain) chain place)
  brought chain place cell stands =
      let there = chain_of planned_chains chain place cell (slice_get planned_chains chain) refl stands in
      let chain_less : chain < config.chains = (let inside = slice_get_within planned_chains chain there.0 there.1 in let count = chain_count (cells_of n config) config.chains in omega (arith, inside, count)) in
      let place_less : place < cycles = (let inside = slice_get_within there.0 place cell there.2 in let fits = chains_fit n config chain there.0 ready.range there.1 in omega (arith, inside, fits)) in
      let within : place < length load = (let long = loads.count in omega (arith, place_less, long)) in
      (loads_reach n config ports ready suits).1 p.table clear load before c rs clearing loads.carries cleared rounds chain place cell stands within
      ∙ ap (λ k. known (load_sum config p.table k (late chain) chain place)) loads.count
      ∙ ap known (sym (loads_sum config p.table cycles (late chain) chain place ready.range chain_less place_less))

  over_loaded : IsOver n config begun loaded
  over_loaded = record {
    above = λ cell modelled. loaded_above config.ring p.table cycles late planned_chains cell (loaded cell) (λ chain place stands. brought chain place (record { 0 = cell }) stands);
    unknown = λ cell apart. unknown_by planned_chains (loaded_in n config p) cell apart;
  }

  shown : AllShown n config ports p (captured_domains p.merged) xs loaded begun is.captured.settled ts
  shown = all_shown n config ports p p.merged.domains.first (later_of p.merged.domains) xs loaded begun is.captured.settled ts ready suits is.clocked captures caught is.captured.are over_loaded

  flop_modelled : (chain place : ℕ) (cell : InstanceId) → cell_at planned_chains chain place ≡ Some cell → (places_in Edt n config).is_flop cell.0 ≡ true
  flop_modelled chain place cell stands =
      let it = planned Edt n config chain place cell ready stands in
      modelled_old (places_in Edt n config) (flip_flop n (config_ports n config) cell.0) (flip_flop (scanned Edt n config) (ports_in Edt n config) cell.0) it.flop it.is
      (instance_matched Edt n config ready (spared Edt n config ready) cell.0 it.instance it.at)

  pub has_captured : HasCaptured n config p is (after_rounds written loaded xs ts)
  has_captured =
      let long : longest_segment config ≤ length load = (let count = loads.count in omega (arith, count)) in
      let ends = rounds_end n config ports p p.merged.domains.first (later_of p.merged.domains) xs loaded ts captures caught in
      let arrive = (unloads_show n config ports ready suits).2 (bit_at p.masks) load ends.front ends.last (after_round written clear before c) rs ends.before ends.round loads.sends long ends.rests ends.clearing rounds ends.fronts ends.ends in
      record {
        clear = subst (Clears config (edt_hardware n config)) (sym ends.same) arrive.1;
        masked = subst (AreMasked config (edt_hardware n config) (bit_at p.masks)) (sym ends.same) arrive.0;
        cells = λ chain place cell stands. shown.over.above cell.0 (flop_modelled chain place cell stands);
      }

  pub shows_captures : ShowsCaptures n config p.response.outputs ts
  shows_captures = subst (λ (os : List Tri). ShowsCaptures n config os ts) (sym is.captured.outputs) shown.shows

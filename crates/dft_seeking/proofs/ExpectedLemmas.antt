-- What is expected of a pattern is what the capture of the values that it gives shows.
use Rattle.std.proofs.Common.{ℕ, suc, ◌≡◌, ◌∙◌, ◌==◌, ◌&&◌, ◌||◌, inl, inr, Bool, true, false, not, List, [], ◌∷◌, length, map, append-nil, Option, None, Some, option_and_then, slice_get, refl, sym, ap, subst, arith, true≢false}
use Rattle.std.specs.Prelude.{if◌then◌else◌, flat_map}
use Rattle.std.specs.Bool.{beq}
use Rattle.std.proofs.lemmas.Bool.{eqb-true}
use Rattle.std.proofs.lemmas.Bool.Decides.{eqb_tells}
use Rattle.std.proofs.lemmas.List.FromFn.{get_or-map-range_with_len}
use Rattle.std.proofs.lemmas.Option.{none-some, same_Some}
use Rattle.dft_base.specs.Lexing.{Text}
use Rattle.dft_base.specs.declared.tri.Tri.{Tri}
use Rattle.dft_base.specs.declared.tri.Tri.TheVariants.{One, Unknown}
use Rattle.dft_cells.specs.declared.kind.Role.TheVariants as role
use Rattle.dft_netlist.specs.declared.ids.InstanceId.{InstanceId}
use Rattle.dft_netlist.specs.Netlist.{Netlist}
use Rattle.dft_netlist.specs.Connections.{input_net, pin_of}
use Rattle.dft_netlist.specs.Drivers.{Source, Driver, driver, pins_of}
use Rattle.dft_netlist.specs.Drivers as drivers
use Rattle.dft_behavior.specs.Logic.{Cell, Clock, Flop, Free, Input, Logic, flip_flop, flop_meaning, forcing, meaning_of, takes_of, forces_of}
use Rattle.dft_behavior.specs.Runs.{Vector, takes}
use Rattle.dft_behavior.specs.Settled.{inverse, value_from, value_given}
use Rattle.dft_behavior.proofs.StoredLemmas.{flop_cell, lockup_kind}
use Rattle.dft_cells.specs.FlipFlops.{Forces, Takes, tri_taken_by, tri_forced_by}
use Rattle.dft_abstract.specs.Cycle.{strobe_sources}
use Rattle.dft_abstract.specs.Laws.{next_from}
use Rattle.dft_config.specs.Config.{Config}
use Rattle.dft_config.specs.Range.{IsInRange}
use Rattle.dft_rules.specs.ConfigPorts.{config_ports}
use Rattle.dft_rules.specs.declared.judged.Judged.TheVariants.{Scanned}
use Rattle.dft_rules.specs.Rules.{is_net, judged, judgements}
use Rattle.dft_rules.proofs.ClockedFlops.{IsClocked, IsVerdict, clocked, force_pins, scanned_flop, verdict_passes}
use Rattle.dft_stitch.specs.Chains.{clock_in, clock_of, plan_of}
use Rattle.dft_stitch.specs.Laws.{IsScanned}
use Rattle.dft_cubes.specs.declared.cube.Domains.{Domains}
use Rattle.dft_cubes.specs.declared.cube.Merged.{Merged}
use Rattle.dft_cubes.specs.Domains.{captured as clocks_of}
use Rattle.dft_cubes_out.proofs.NameLemmas.{domain_found}
use Rattle.dft_expect.specs.declared.response.Response.{Response}
use Rattle.dft_expect.specs.Loaded.{all_cells, loaded_values, or_unknown}
use Rattle.dft_expect.specs.Captures.{AllSettled, CapturesIn, IsSettledAt, after_edges, bit_of_port, capture_clock, capture_vectors, last_state, next_state, original, output_bits, outputs_before, port_value, vector_of}
use Rattle.dft_expect.specs.Captures as expect
use Rattle.dft_expect.specs.Capturing.{CanCapture}
use Rattle.dft_expect.proofs.CellNumbers.{bit_none}
use Rattle.dft_expect.proofs.GivenLemmas.{stays}
use Rattle.dft_expect.proofs.PulseLemmas.{stays_apart}
use Rattle.dft_expect.proofs.ScannedCells.{no_lockup}
use Rattle.dft_expect.proofs.VectorLemmas.{chained as chained_at}
use Rattle.dft_capture.specs.Captures.{IsSettledFrom, after_moves, captured, meaning_in, next_by_pins, sources_at}
use Rattle.dft_seek.specs.Searches.{Search, cells_in, has_cell, is_of, moving_of, port_values, takes_at}
use Rattle.dft_seek.proofs.RigLemmas.{cell_live, cell_there, net_named, no_clock_resets}
use Rattle.dft_seeking.specs.Expected.{ExpectedIsShown, IsShown, given_by}
use Rattle.dft_seeking.proofs.ApartLemmas.{StandsIn}
use Rattle.dft_seeking.proofs.CellsGiven.{scanned_there}
use Rattle.dft_seeking.proofs.PinsHigh.{pins_high}

-- ---- the clock that pulses

-- two places whose names stand for one net are one
same_domain : (n : Netlist) (config : Config) (net a b : ℕ) (x y : Text) → IsInRange config → slice_get config.domains a ≡ Some x → slice_get config.domains b ≡ Some y → is_net net (input_net n x) ≡ true → is_net net (input_net n y) ≡ true → a ≡ b
same_domain n config net a b x y range at also one other =
    let same : x ≡ y = same_Some x y (sym (net_named n net x (input_net n x) refl one) ∙ net_named n net y (input_net n y) refl other) in
    same_Some a b (sym (domain_found config.domains x a range.domains_differ at) ∙ domain_found config.domains x b range.domains_differ (also ∙ ap (λ (name : Text). Some name) (sym same)))

rests_by : (n : Netlist) (config : Config) (net a b : ℕ) (x : Text) (o : Option Text) → IsInRange config → slice_get config.domains a ≡ Some x → slice_get config.domains b ≡ o → is_net net (input_net n x) ≡ true → (a ≡ b → ⊥) → is_net net (option_and_then (input_net n) o) ≡ false
rests_by n config net a b x None range at also one apart = refl
rests_by n config net a b x (Some y) range at also one apart = by (is_net net (input_net n y)) refl
  where
    by : (t : Bool) → is_net net (input_net n y) ≡ t → t ≡ false
    by true other = absurd (apart (same_domain n config net a b x y range at also one other))
    by false other = refl

-- the clock of a domain pulses at its own domain alone
pulse_is : (n : Netlist) (config : Config) (net a b : ℕ) (x : Text) → IsInRange config → slice_get config.domains a ≡ Some x → is_net net (input_net n x) ≡ true → is_net net (capture_clock n config b) ≡ (a == b)
pulse_is n config net a b x range at one = elim (eqb_tells a b) [
  | inl same ↦ ap (λ (o : Option Text). is_net net (option_and_then (input_net n) o)) (ap (slice_get config.domains) (sym same.1) ∙ at) ∙ one ∙ sym same.0
  | inr other ↦ rests_by n config net a b x (slice_get config.domains b) range at refl one other.1 ∙ sym other.0
]

edge_bit : (rising falling : Bool) → takes rising falling ≡ beq falling (not rising)
edge_bit true true = refl
edge_bit true false = refl
edge_bit false true = refl
edge_bit false false = refl

-- ---- scanned cells

stands_by : (c : ℕ) (cells : List InstanceId) → has_cell cells c ≡ true → StandsIn cells (record { 0 = c })
stands_by c [] is = absurd (let f : ⊥ = cc in f)
stands_by c (x ∷ cells) is = by (x.0 == c) refl is (stands_by c cells)
  where
    by : (b : Bool) → (x.0 == c) ≡ b → (b || has_cell cells c) ≡ true → (has_cell cells c ≡ true → StandsIn cells (record { 0 = c })) → StandsIn (x ∷ cells) (record { 0 = c })
    by true here any rest = (0, ap (λ (k : ℕ). Some (record { 0 = k })) (eqb-true x.0 c here))
    by false other any rest = let r = rest any in (suc r.0, r.1)

-- a scanned cell is one on the clock of its domain, by its pins
record HasPins (s : Search) (c : ℕ) : Type 0 where
  scanned : IsScanned s.design s.config c
  clock : IsClocked s.design s.config c scanned.domain scanned.falling
  forces : Forces ℕ
  forced : forcing s.design (config_ports s.design s.config) (forces_of c (pins_of s.design c)) ≡ Some forces
  is : (original s.design s.config).cell c ≡ record { domain = clock.net; falling = scanned.falling; takes = takes_of c (pins_of s.design c); forces = forces }

has_pins : (s : Search) → CanCapture s.design s.config → (c : ℕ) → has_cell (cells_in s) c ≡ true → HasPins s c
has_pins s can c holds =
    let n : Netlist = s.design in
    let config : Config = s.config in
    let it : IsScanned n config c = scanned_there n config can.range (record { 0 = c }) (stands_by c (cells_in s) holds) in
    let verdict : IsVerdict n config c it.domain it.falling = verdict_passes n config c it.domain it.falling it.is in
    let clock : IsClocked n config c it.domain it.falling = clocked n config c it.domain it.falling verdict.passed.is_clock in
    let force = force_pins n config (pin_of role.Reset c (pins_of n c)) (pin_of role.Preset c (pins_of n c)) verdict.passed.is_held in
    record {
      scanned = it;
      clock = clock;
      forces = force.0;
      forced = force.1;
      is = flop_cell n (config_ports n config) c _ (scanned_flop n config c it.domain it.falling force.0 verdict.kind clock force.1);
    }

clock_at : (s : Search) → CanCapture s.design s.config → (c domain : ℕ) (falling : Bool) → has_cell (cells_in s) c ≡ true → judged s.design s.config c ≡ Some (Scanned domain falling) →
    clock_of (judgements s.design s.config) (record { 0 = c }) ≡ Some (record { domain = domain; falling = falling })
clock_at s can c domain falling holds is =
    ap clock_in (get_or-map-range_with_len (judged s.design s.config) 0 (length s.design.instances) c c None (cell_live s.design s.config c can holds) (omega arith) ∙ is)

-- it takes its next value where the clock of the search's domain is its own, at its edge
pub takes_edge : (s : Search) → CanCapture s.design s.config → (rising : Bool) (c : ℕ) → has_cell (cells_in s) c ≡ true →
    (is_net ((original s.design s.config).cell c).domain (capture_clock s.design s.config s.domain) && takes rising ((original s.design s.config).cell c).falling)
    ≡ is_of s.domain (not rising) (clock_of (judgements s.design s.config) (record { 0 = c }))
takes_edge s can rising c holds =
    let n : Netlist = s.design in
    let config : Config = s.config in
    let it : HasPins s c = has_pins s can c holds in
    let domain : ℕ = it.scanned.domain in
    let pulse = pulse_is n config it.clock.net domain s.domain it.clock.name can.range it.clock.named it.clock.is in
    let edge = edge_bit rising it.scanned.falling in
    ap (λ (k : Cell). is_net k.domain (capture_clock n config s.domain) && takes rising k.falling) it.is ∙ (λ i. pulse i && edge i)
    ∙ sym (ap (is_of s.domain (not rising)) (clock_at s can c domain it.scanned.falling holds it.scanned.is))

inverted_unknown : (inverted : Bool) (t : Tri) → t ≡ Unknown → (if inverted then inverse t else t) ≡ Unknown
inverted_unknown true t is = ap inverse is
inverted_unknown false t is = is

port_same : (is_reset : Bool) (given : Option Bool) → port_value is_reset given ≡ (if is_reset then One else port_value false given)
port_same true given = refl
port_same false given = refl

-- ---- a pattern

module _ (s : Search) (can : CanCapture s.design s.config) (merged : Merged) (loaded : List Bool) where
  abbrev l : Logic
  l = original s.design s.config

  abbrev chains : List (List InstanceId)
  chains = (plan_of s.design s.config).chains

  abbrev x : Vector
  x = vector_of s.design s.config merged s.domain

  abbrev ports : ℕ → Tri
  ports = port_values s (given_by s merged loaded)

  abbrev state : ℕ → Tri
  state = loaded_values chains loaded

  -- in a capture no reset or set acts
  idle : (c : ℕ) (t : Tri) → tri_forced_by (l.cell c).forces x.ports t ≡ t
  idle c t = stays s.design s.config merged c t

  high : (net : ℕ) → (config_ports s.design s.config).is_reset net ≡ true → ports net ≡ One
  high net is = ap (λ (b : Bool). if b then One else (given_by s merged loaded).ports net) is

  -- ---- settled values

  -- no flip-flop is known that is no scanned cell
  abbrev OthersUnknown : (ℕ → Tri) → Type 0
  OthersUnknown held = (c : ℕ) → has_cell (cells_in s) c ≡ false → held c ≡ Unknown

  flop_same : (held values : ℕ → Tri) → OthersUnknown held → (net i : ℕ) (inverted : Bool) (o : Option Cell) (h : Bool) → flip_flop s.design (config_ports s.design s.config) i ≡ o → has_cell (cells_in s) i ≡ h →
      value_given (strobe_sources l x held values) values net (flop_meaning i inverted o) ≡ value_given (sources_at ports held) values net (if h then Flop i inverted else Free)
  flop_same held values out net i inverted None true flop holds = absurd (none-some _ (sym flop ∙ (cell_there s.design s.config i can holds).flop))
  flop_same held values out net i inverted None false flop holds = refl
  flop_same held values out net i inverted (Some cell) true flop holds = ap (λ (t : Tri). if inverted then inverse t else t) (idle i (held i))
  flop_same held values out net i inverted (Some cell) false flop holds = inverted_unknown inverted _ (idle i (held i) ∙ out i holds)

  input_same : (held values : ℕ → Tri) (net : ℕ) (b : Bool) → value_given (strobe_sources l x held values) values net (if b then Clock else Input) ≡ value_given (sources_at ports held) values net (if b then Clock else Input)
  input_same held values net true = refl
  input_same held values net false = port_same ((config_ports s.design s.config).is_reset net) (bit_of_port merged.ports net)

  net_same : (held values : ℕ → Tri) → OthersUnknown held → (net : ℕ) (d : Driver) → driver s.design net ≡ d →
      value_given (strobe_sources l x held values) values net (meaning_of s.design (config_ports s.design s.config) net d) ≡ value_given (sources_at ports held) values net (meaning_in (moving_of s) net d)
  net_same held values out net drivers.Input is = input_same held values net ((config_ports s.design s.config).is_clock net)
  net_same held values out net (drivers.Gate kind inputs) is = refl
  net_same held values out net (drivers.Joined source) is = refl
  net_same held values out net (drivers.Flop i inverted) is = flop_same held values out net i inverted (flip_flop s.design (config_ports s.design s.config) i) (has_cell (cells_in s) i) refl refl
  net_same held values out net (drivers.Lockup i) is = absurd (no_lockup s.design s.config i can (lockup_kind s.design net i is))
  net_same held values out net drivers.Free is = refl

  settled_from : (held values : ℕ → Tri) → OthersUnknown held → IsSettledAt l x held values → IsSettledFrom s.design (moving_of s) ports held values
  settled_from held values out is net = is net ∙ net_same held values out net (driver s.design net) refl

  -- ---- edges

  -- what is expected to move moves, and takes the same value
  moved_same : (rising : Bool) (values held from : ℕ → Tri) → IsSettledFrom s.design (moving_of s) ports from values → (c : ℕ) (h : Bool) → has_cell (cells_in s) c ≡ h →
      (if h && (x.pulsed (l.cell c).domain && takes rising (l.cell c).falling) then next_from l x values (held c) c else held c)
      ≡ (if h && is_of s.domain (not rising) (clock_of (judgements s.design s.config) (record { 0 = c })) then next_by_pins s.design values c else held c)
  moved_same rising values held from settled c false holds = refl
  moved_same rising values held from settled c true holds =
      let n : Netlist = s.design in
      let config : Config = s.config in
      let own : Takes Source = takes_of c (pins_of n c) in
      let it : HasPins s c = has_pins s can c holds in
      let next : next_from l x values (held c) c ≡ next_by_pins n values c =
      idle c (tri_taken_by (l.cell c).takes (held c) (value_from values)) ∙ ap (λ (k : Cell). tri_taken_by k.takes (held c) (value_from values)) it.is
      ∙ sym (pins_high n (config_ports n config) (moving_of s) (λ net. refl) (λ net clock reset. no_clock_resets n config net can.range clock reset) ports from values high settled (forces_of c (pins_of n c)) it.forces (tri_taken_by own (held c) (value_from values)) it.forced) in
      λ i. if takes_edge s can rising c holds i then next i else held c

  edge_same : (rising : Bool) (values held from : ℕ → Tri) → IsSettledFrom s.design (moving_of s) ports from values → after_edges l chains x rising values held ≡ after_moves s.design (takes_at s (not rising)) values held
  edge_same rising values held from settled = λ i c. moved_same rising values held from settled c (has_cell (cells_in s) c) refl i

  -- ---- the capture

  out_loaded : OthersUnknown state
  out_loaded c apart = ap or_unknown (bit_none (all_cells chains) loaded c (λ k at. true≢false (sym (chained_at (all_cells chains) k c at) ∙ apart)))

  out_moved : (values : ℕ → Tri) → OthersUnknown (after_edges l chains x true values state)
  out_moved values c apart = stays_apart l chains x true values state c apart ∙ out_loaded c apart

  shown_by : (q : expect.Settled) (r : Response) → expect.AreSettled l chains x state q → r.cells ≡ map (λ cell. next_state l chains x state q cell.0) (cells_in s) → r.outputs ≡ map (λ net. q.first net.0) (output_bits s.design.ports) → IsShown s s.design (given_by s merged loaded) r
  shown_by q r are cells outputs =
      let moved : ℕ → Tri = after_edges l chains x true q.first state in
      let first : IsSettledFrom s.design (moving_of s) ports state q.first = settled_from state q.first out_loaded are.first in
      let risen : moved ≡ after_moves s.design (takes_at s false) q.first state = edge_same true q.first state state first in
      let again : IsSettledFrom s.design (moving_of s) ports moved q.second = settled_from moved q.second (out_moved q.first) are.second in
      let fallen : after_edges l chains x false q.second moved ≡ after_moves s.design (takes_at s true) q.second moved = edge_same false q.second moved moved again in
      let all : next_state l chains x state q ≡ captured s.design (moving_of s) state (record { first = q.first; second = q.second }) = fallen ∙ ap (after_moves s.design (takes_at s true) q.second) risen in
      record {
        settled = record { first = q.first; second = q.second };
        are = record { first = first; second = subst (λ (f : ℕ → Tri). IsSettledFrom s.design (moving_of s) ports f q.second) risen again };
        cells = cells ∙ ap (λ (f : ℕ → Tri). map (λ (cell : InstanceId). f cell.0) (cells_in s)) all;
        outputs = outputs;
      }

  one_vector : (settled : List expect.Settled) (r : Response) → AllSettled l chains (x ∷ []) state settled → r.cells ≡ map (λ cell. last_state l chains (x ∷ []) state settled cell.0) (all_cells chains) → r.outputs ≡ flat_map (outputs_before s.design) settled
      → IsShown s s.design (given_by s merged loaded) r
  one_vector [] r are cells outputs = absurd are
  one_vector (q ∷ []) r are cells outputs = shown_by q r are.0 cells (outputs ∙ append-nil (outputs_before s.design q))
  one_vector (q ∷ more ∷ settled) r are cells outputs = absurd are.1

pub expected_shown : ExpectedIsShown
expected_shown s merged loaded r can once is =
    let single : capture_vectors s.design s.config merged ≡ vector_of s.design s.config merged s.domain ∷ [] = ap (λ (d : Domains). map (vector_of s.design s.config merged) (clocks_of d)) once in
    let one : CapturesIn s.design s.config (plan_of s.design s.config).chains (vector_of s.design s.config merged s.domain ∷ []) loaded r =
    subst (λ (xs : List Vector). CapturesIn s.design s.config (plan_of s.design s.config).chains xs loaded r) single is in
    one_vector s can merged loaded one.settled r one.are one.cells one.outputs

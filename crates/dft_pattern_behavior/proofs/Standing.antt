-- A capture's vector, beside a netlist that covers the design.
use Rattle.std.proofs.Common.{ℕ, zero, suc, ◌+◌, ◌≡◌, ◌<◌, ◌≤◌, ◌==◌, Bool, true, false, List, [], ◌∷◌, ◌++◌, map, length, get_or, slice_get, Option, None, Some, is_some, refl, sym, subst, ap, arith, ◌∙◌}
use Rattle.std.specs.Prelude.{flat_map, if◌then◌else◌}
use Rattle.std.specs.List.{AllByRecursion}
use Rattle.std.proofs.lemmas.Bool.{eqb-true}
use Rattle.std.proofs.lemmas.List.{length-append}
use Rattle.std.proofs.lemmas.Option.{none-some, same_Some}
use Rattle.dft_base.specs.declared.tri.Tri.{Tri}
use Rattle.dft_base.specs.declared.tri.Tri.TheVariants.{Unknown}
use Rattle.dft_base.specs.declared.dir.Dir.{Dir}
use Rattle.dft_base.specs.declared.dir.Dir.TheVariants as dir
use Rattle.dft_base.specs.Tri.{known, AboveTri}
use Rattle.dft_cells.proofs.Completions.{above_self}
use Rattle.dft_netlist.specs.declared.ids.NetId.{NetId}
use Rattle.dft_netlist.specs.declared.ids.InstanceId.{InstanceId}
use Rattle.dft_netlist.specs.declared.port.Port.{Port}
use Rattle.dft_netlist.specs.Connections.{is_input}
use Rattle.dft_netlist.specs.Drivers.{IsOrdered, driver}
use Rattle.dft_behavior.specs.Logic.{IsRanked, Logic, flip_flop}
use Rattle.dft_netlist.specs.Netlist.{Netlist}
use Rattle.dft_netlist.specs.NetNumbers.{nets_from}
use Rattle.dft_behavior.specs.Runs.{Vector}
use Rattle.dft_behavior.specs.Settled.{IsTriSettled}
use Rattle.dft_netlist.specs.Sound.{IsNetlist, bit_names_of, bits_of}
use Rattle.dft_netlist.proofs.LiveLemmas.{length-bits}
use Rattle.dft_behavior.proofs.Ranks.{order_is_rank}
use Rattle.dft_cells.specs.FlipFlops.{tri_forced_by}
use Rattle.dft_abstract.specs.Cycle.{AreHalves, after_halves, strobe_sources}
use Rattle.dft_abstract.specs.Laws.{next_from}
use Rattle.dft_config.specs.Config.{Config}
use Rattle.dft_stitch.specs.Chains.{plan_of}
use Rattle.dft_chains.specs.ScanOff.{Places}
use Rattle.dft_edt.specs.Captures.{Covers, IsCaptured, StandsOver}
use Rattle.dft_edt.proofs.Captures.{capture_law, strobe_law}
use Rattle.dft_cubes.specs.declared.cube.Merged.{Merged}
use Rattle.dft_expect.specs.Loaded.{bit_of_cell, loaded_values, or_unknown}
use Rattle.dft_expect.specs.Captures.{AllSettled, AreSettled, Settled, after_edges, bits_out, capture_vectors, captured_domains, config_ports, is_chained, last_state, next_state, original, output_bits, outputs_before, vector_of}
use Rattle.dft_expect.specs.Capturing.{CanCapture, cells_in}
use Rattle.dft_expect.proofs.GivenLemmas.{number_modelled}
use Rattle.dft_scan_behavior.proofs.ClockFree.{clock_free, inputs_clear, is_clear}
use Rattle.dft_pattern_behavior.specs.Statements.{AreCaptureVectors, AreLoaded, ArePlacesOf, AreSteps, CapturesStandOver, IsCaptureVector, OutputsStand, Step, after_steps, value_in}
use Rattle.dft_pattern_behavior.proofs.Edges.{captured_same, risen_above, unchained_next, unknown_by}
use Rattle.dft_pattern_behavior.proofs.Inputs.{data_above, data_next, data_settled, data_stays, data_vector}
use Rattle.dft_pattern_behavior.proofs.Capturing.{drop_map}

-- ---- the loaded bits

-- a cell with a bit stands at a number with that bit
record IsFound (cells : List InstanceId) (loaded : List Bool) (c : ℕ) (bit : Bool) : Type 0 where
  pub number : ℕ
  pub cell : slice_get cells number ≡ Some (record { 0 = c })
  pub has : slice_get loaded number ≡ Some bit

found_by : (c : ℕ) (cell : InstanceId) (cells : List InstanceId) (first : Bool) (bits : List Bool) (bit : Bool) (b : Bool) → (cell.0 == c) ≡ b → (bit_of_cell cells bits c ≡ Some bit → IsFound cells bits c bit)
    → (if b then Some first else bit_of_cell cells bits c) ≡ Some bit → IsFound (cell ∷ cells) (first ∷ bits) c bit
found_by c cell cells first bits bit true is more e = record { number = zero; cell = ap (λ (k : ℕ). Some (record { 0 = k })) (eqb-true cell.0 c is); has = e }
found_by c cell cells first bits bit false is more e = let it = more e in record { number = suc it.number; cell = it.cell; has = it.has }

found : (cells : List InstanceId) (loaded : List Bool) (c : ℕ) (bit : Bool) → bit_of_cell cells loaded c ≡ Some bit → IsFound cells loaded c bit
found [] loaded c bit e = absurd (none-some bit e)
found (cell ∷ cells) [] c bit e = absurd (none-some bit e)
found (cell ∷ cells) (first ∷ bits) c bit e = found_by c cell cells first bits bit (cell.0 == c) refl (found cells bits c bit) e

over_by : (n : Netlist) (config : Config) (loaded : List Bool) (old : ℕ → Tri) (c : ℕ) (o : Option Bool) → AreLoaded n config loaded old → bit_of_cell (cells_in n config) loaded c ≡ o → AboveTri (or_unknown o) (old c)
over_by n config loaded old c None are is = tt
over_by n config loaded old c (Some bit) are is =
    let it : IsFound (cells_in n config) loaded c bit = found (cells_in n config) loaded c bit is in
    subst (λ (t : Tri). AboveTri (known bit) t) (sym (are it.number (record { 0 = c }) bit it.cell it.has)) (above_self (known bit))

loaded_over : (n : Netlist) (config : Config) (loaded : List Bool) (old : ℕ → Tri) (c : ℕ) → AreLoaded n config loaded old → AboveTri (loaded_values (plan_of n config).chains loaded c) (old c)
loaded_over n config loaded old c are = over_by n config loaded old c (bit_of_cell (cells_in n config) loaded c) are refl

-- ---- the bits of output ports are nets

abbrev AreBelow : ℕ → List NetId → Type 0
AreBelow count nets = AllByRecursion (λ net. net.0 < count) nets

numbers_below : (a m count : ℕ) → a + m ≤ count → AreBelow count (nets_from a m)
numbers_below a zero count fits = tt
numbers_below a (suc m) count fits = (omega (arith, fits), numbers_below (suc a) m count (omega (arith, fits)))

below_left : (count : ℕ) (xs ys : List NetId) → AreBelow count (xs ++ ys) → AreBelow count xs
below_left count [] ys all = tt
below_left count (x ∷ xs) ys all = (all.0, below_left count xs ys all.1)

below_right : (count : ℕ) (xs ys : List NetId) → AreBelow count (xs ++ ys) → AreBelow count ys
below_right count [] ys all = all
below_right count (x ∷ xs) ys all = below_right count xs ys all.1

below_both : (count : ℕ) (xs ys : List NetId) → AreBelow count xs → AreBelow count ys → AreBelow count (xs ++ ys)
below_both count [] ys left right = right
below_both count (x ∷ xs) ys left right = (left.0, below_both count xs ys left.1 right)

below_out : (count : ℕ) (d : Dir) (bits : List NetId) → AreBelow count bits → AreBelow count (bits_out d bits)
below_out count dir.Input bits all = tt
below_out count dir.Output bits all = all

below_outputs : (count : ℕ) (ports : List Port) → AreBelow count (bits_of ports) → AreBelow count (output_bits ports)
below_outputs count [] all = tt
below_outputs count (port ∷ ports) all =
    below_both count (bits_out port.dir port.bits) (output_bits ports) (below_out count port.dir port.bits (below_left count port.bits (bits_of ports) all)) (below_outputs count ports (below_right count port.bits (bits_of ports) all))

below_at : (count : ℕ) (nets : List NetId) (k : ℕ) (net : NetId) → AreBelow count nets → slice_get nets k ≡ Some net → net.0 < count
below_at count [] k net all at = absurd (none-some net at)
below_at count (x ∷ nets) zero net all at = subst (λ (y : NetId). y.0 < count) (same_Some x net at) all.0
below_at count (x ∷ nets) (suc k) net all at = below_at count nets k net all.1 at

output_live : (n : Netlist) (k : ℕ) (net : NetId) → IsNetlist n → slice_get (output_bits n.ports) k ≡ Some net → net.0 < length n.nets
output_live n k net sound at =
    let bits : ℕ = length (bits_of n.ports) in
    let few : 0 + bits ≤ length n.nets = omega (arith, ap length sound.bits.same, length-bits n.ports sound.widths, length-append (bit_names_of n.ports) sound.bits.rest) in
    below_at (length n.nets) (output_bits n.ports) k net
    (below_outputs (length n.nets) n.ports (subst (λ (l : List NetId). AreBelow (length n.nets) l) (sym sound.numbered) (numbers_below 0 bits (length n.nets) few))) at

-- ---- what the response has at a number

map_at : {A : Type 0} (f : A → Tri) (xs : List A) (k : ℕ) (x : A) → slice_get xs k ≡ Some x → get_or (map f xs) k Unknown ≡ f x
map_at f [] k x at = absurd (none-some x at)
map_at f (y ∷ xs) zero x at = ap f (same_Some y x at)
map_at f (y ∷ xs) (suc k) x at = map_at f xs k x at

value_at : {A : Type 0} (f : A → Tri) (values : List Tri) (xs : List A) (k : ℕ) (x : A) → values ≡ map f xs → slice_get xs k ≡ Some x → value_in values k ≡ f x
value_at f values xs k x is at = ap (λ (l : List Tri). value_in l k) is ∙ map_at f xs k x at

-- the first of some values and others, by number
front_value : (f : NetId → Tri) (xs : List NetId) (more : List Tri) (k : ℕ) (x : NetId) → slice_get xs k ≡ Some x → value_in (map f xs ++ more) k ≡ f x
front_value f [] more k x at = absurd (none-some x at)
front_value f (y ∷ xs) more zero x at = ap f (same_Some y x at)
front_value f (y ∷ xs) more (suc k) x at = front_value f xs more k x at

-- ---- one capture vector

-- no more is known of the flip-flops than what they have, and nothing of those that are no cells of the chains
record IsOver (n : Netlist) (config : Config) (p : Places) (its old : ℕ → Tri) : Type 0 where
  above : (cell : ℕ) → p.is_flop cell ≡ true → AboveTri (its cell) (old cell)
  unknown : (cell : ℕ) → is_chained (plan_of n config).chains cell ≡ false → its cell ≡ Unknown

module _ (n : Netlist) (rank : ℕ → ℕ) (config : Config) (merged : Merged) (written : Logic) (p : Places) (domain : ℕ) (x : Vector) (old its : ℕ → Tri) (s : Settled) (step : Step) (can : CanCapture n config) (ordered : IsOrdered n rank)
    (covers : Covers (original n config) written p) (places : ArePlacesOf n config p) (vector : IsCaptureVector n config merged p domain x) (are : AreSettled (original n config) (plan_of n config).chains (vector_of n config merged domain) its s) (over_old : IsOver n config p its old)
    (shown : IsTriSettled written (strobe_sources written x old step.shows) step.shows) (halves : AreHalves written x old step.halves) where
  abbrev l : Logic
  l = original n config

  abbrev chains : List (List InstanceId)
  chains = (plan_of n config).chains

  abbrev y : Vector
  y = data_vector n config merged domain

  abbrev clock : NetId
  clock = vector.clock

  abbrev new : ℕ → Tri
  new = after_halves written x old step.halves

  ranked : IsRanked l rank
  ranked = order_is_rank n (config_ports n config) rank ordered

  over : StandsOver p y x its old
  over = record {
    ports = λ net less. data_above (is_input (driver n net)) ((config_ports n config).is_clock net) ((vector_of n config merged domain).ports net) (x.ports (p.moved net)) (λ input own. vector.ports net less input own);
    flops = over_old.above;
  }

  settled_over : IsTriSettled l (strobe_sources l y its s.first) s.first
  settled_over = data_settled n config merged domain its s.first can.range are.first

  next : (values : ℕ → Tri) (own : Tri) (cell : ℕ) → next_from l y values own cell ≡ next_from l (vector_of n config merged domain) values own cell
  next values own cell = data_next n config merged domain values own cell can.range

  idle : (cell : ℕ) (t : Tri) → tri_forced_by (l.cell cell).forces y.ports t ≡ t
  idle cell t = data_stays n config merged domain cell t can.range

  abbrev risen : ℕ → Tri
  risen = after_edges l chains (vector_of n config merged domain) true s.first its

  caught : IsCaptured l clock.0 y its risen s.first s.second
  caught = record {
    first = settled_over;
    above = risen_above n config chains merged domain clock vector.captures y next idle s.first its over_old.unknown;
    second = data_settled n config merged domain risen s.second can.range are.second;
  }

  next_by : (cell : ℕ) (b : Bool) → is_chained chains cell ≡ b → p.is_flop cell ≡ true → AboveTri (next_state l chains (vector_of n config merged domain) its s cell) (new cell)
  next_by cell true is flop =
      let modelled : is_some (flip_flop n (config_ports n config) cell) ≡ true = sym (places.flops cell) ∙ flop in
      let law = capture_law l written rank p clock.0 y x its risen old step.halves s.first s.second (is_clear n config) ranked covers (clock_free n config rank ordered can.netlist can.library can.passed) vector.pulses over caught halves cell flop
      (λ falls. inputs_clear n config rank ordered can.netlist can.library can.passed cell modelled) in
      subst (λ (t : Tri). AboveTri t (new cell)) (sym (captured_same n config chains merged domain clock vector.captures y next idle s its cell is)) law
  next_by cell false is flop = subst (λ (t : Tri). AboveTri t (new cell)) (sym (unchained_next l chains (vector_of n config merged domain) s its cell is ∙ over_old.unknown cell is)) tt

  over_next : IsOver n config p (next_state l chains (vector_of n config merged domain) its s) new
  over_next = record {
    above = λ cell flop. next_by cell (is_chained chains cell) refl flop;
    unknown = λ cell apart. unchained_next l chains (vector_of n config merged domain) s its cell apart ∙ over_old.unknown cell apart;
  }

  shows_own : (more : List Tri) (number : ℕ) (net : NetId) → slice_get (output_bits n.ports) number ≡ Some net → AboveTri (value_in (outputs_before n s ++ more) number) (step.shows (p.moved net.0))
  shows_own more number net at =
      subst (λ (t : Tri). AboveTri t (step.shows (p.moved net.0))) (sym (front_value (λ (k : NetId). s.first k.0) (output_bits n.ports) more number net at))
      (strobe_law l written rank p y x its old s.first step.shows ranked covers over settled_over shown net.0 (subst (λ (k : ℕ). net.0 < k) (sym places.size) (output_live n number net can.netlist at)))

-- ---- one after another

record AllOver (n : Netlist) (config : Config) (merged : Merged) (written : Logic) (p : Places) (domains : List ℕ) (xs : List Vector) (old its : ℕ → Tri) (settled : List Settled) (steps : List Step) : Type 0 where
  shows : OutputsStand n p (flat_map (outputs_before n) settled) steps
  over : IsOver n config p (last_state (original n config) (plan_of n config).chains (map (vector_of n config merged) domains) its settled) (after_steps written old xs steps)

all_over : (n : Netlist) (rank : ℕ → ℕ) (config : Config) (merged : Merged) (written : Logic) (p : Places) (domains : List ℕ) (xs : List Vector) (old its : ℕ → Tri) (settled : List Settled) (steps : List Step) → CanCapture n config → IsOrdered n rank →
    Covers (original n config) written p → ArePlacesOf n config p → AreCaptureVectors n config merged p domains xs → AllSettled (original n config) (plan_of n config).chains (map (vector_of n config merged) domains) its settled → IsOver n config p its old →
    AreSteps written old xs steps → AllOver n config merged written p domains xs old its settled steps
all_over n rank config merged written p [] [] old its [] [] can ordered covers places vectors are over taken = record { shows = tt; over = over }
all_over n rank config merged written p [] [] old its [] (t ∷ steps) can ordered covers places vectors are over taken = absurd taken
all_over n rank config merged written p [] [] old its (s ∷ settled) steps can ordered covers places vectors are over taken = absurd are
all_over n rank config merged written p [] (x ∷ xs) old its settled steps can ordered covers places vectors are over taken = absurd vectors
all_over n rank config merged written p (d ∷ domains) [] old its settled steps can ordered covers places vectors are over taken = absurd vectors
all_over n rank config merged written p (d ∷ domains) (x ∷ xs) old its [] steps can ordered covers places vectors are over taken = absurd are
all_over n rank config merged written p (d ∷ domains) (x ∷ xs) old its (s ∷ settled) [] can ordered covers places vectors are over taken = absurd taken
all_over n rank config merged written p (d ∷ domains) (x ∷ xs) old its (s ∷ settled) (t ∷ steps) can ordered covers places vectors are over taken =
    let more : List Tri = flat_map (outputs_before n) settled in
    let after = over_next n rank config merged written p d x old its s t can ordered covers places vectors.0 are.0 over taken.0 taken.1 in
    let rest =
    all_over n rank config merged written p domains xs (after_halves written x old t.halves) (next_state (original n config) (plan_of n config).chains (vector_of n config merged d) its s) settled steps can ordered covers places vectors.1 are.1 after taken.2 in
    record {
      shows = (
        shows_own n rank config merged written p d x old its s t can ordered covers places vectors.0 are.0 over taken.0 taken.1 more,
        subst (λ (os : List Tri). OutputsStand n p os steps) (sym (drop_map (λ (k : NetId). s.first k.0) (output_bits n.ports) more)) rest.shows,
      );
      over = rest.over;
    }

pub stand_over : CapturesStandOver
stand_over n rank config merged loaded r written p xs old steps can ordered captured covers places vectors are taken =
    let l : Logic = original n config in
    let chains : List (List InstanceId) = (plan_of n config).chains in
    let its : ℕ → Tri = loaded_values chains loaded in
    let over : IsOver n config p its old = record { above = λ cell flop. loaded_over n config loaded old cell are; unknown = λ cell apart. unknown_by chains loaded cell apart } in
    let all = all_over n rank config merged written p (captured_domains merged) xs old its captured.settled steps can ordered covers places vectors captured.are over taken in (
      subst (λ (os : List Tri). OutputsStand n p os steps) (sym captured.outputs) all.shows,
      λ number cell at. (
          let modelled : is_some (flip_flop n (config_ports n config) cell.0) ≡ true = ap is_some (number_modelled n config number cell.0 can at).flop in
          subst (λ (t : Tri). AboveTri t (after_steps written old xs steps cell.0))
          (sym (value_at (λ (c : InstanceId). last_state l chains (capture_vectors n config merged) its captured.settled c.0) r.cells (cells_in n config) number cell captured.cells at)) (all.over.above cell.0 (places.flops cell.0 ∙ modelled))),
    )

-- A cube that is told can be applied.
use Rattle.std.proofs.Common.{ℕ, suc, ◌<◌, ◌≡◌, ◌==◌, ◌&&◌, ◌∙◌, Bool, true, false, not, List, [], ◌∷◌, filter, length, map, Option, None, Some, get_or, option_and_then, slice_get, refl, sym, subst, ap}
use Rattle.std.specs.Prelude.{if◌then◌else◌}
use Rattle.std.proofs.lemmas.Bool.{and_parts, eq-eqb}
use Rattle.std.proofs.lemmas.Option.{none-some, slice_get-get_or}
use Rattle.dft_base.specs.Lexing.{Text}
use Rattle.dft_base.specs.declared.tri.Tri.{Tri}
use Rattle.dft_base.specs.declared.tri.Tri.TheVariants.{One, Unknown}
use Rattle.dft_base.specs.Tri.{known}
use Rattle.dft_base.proofs.BitLemmas.{not_true}
use Rattle.dft_netlist.specs.declared.ids.NetId.{NetId}
use Rattle.dft_netlist.specs.declared.ids.InstanceId.{InstanceId}
use Rattle.dft_netlist.specs.Netlist.{Netlist}
use Rattle.dft_netlist.specs.Connections.{input_net, is_input}
use Rattle.dft_netlist.specs.Drivers.{driver}
use Rattle.dft_behavior.specs.Runs.{Now, Vector}
use Rattle.dft_config.specs.Config.{Config}
use Rattle.dft_rules.specs.ConfigPorts.{config_ports}
use Rattle.dft_rules.proofs.Passed.{clock_of_domain}
use Rattle.dft_cubes.specs.declared.cube.Cube.{Cube}
use Rattle.dft_expect.specs.Capturing.{CanCapture}
use Rattle.dft_expect.specs.Captures.{capture_clock}
use Rattle.dft_expect.specs.Loaded.{or_unknown}
use Rattle.dft_seek.specs.Searches.{Given, Search, cells_in, drivable_ports, input_bits, is_drivable}
use Rattle.dft_seek.specs.Sought.{CompletesCube, HaveCells, HavePorts, cells_given, ports_given}
use Rattle.dft_seek.specs.Trees.{bit_for, same_variable}
use Rattle.dft_seek.specs.Walks.{Cell, Port, Variable, candidates}
use Rattle.dft_seek.proofs.Covering.{held}
use Rattle.dft_seek.proofs.Hanging.{same_is}
use Rattle.dft_seek.proofs.Telling.{IsOfNode, cube_node}
use Rattle.dft_seeking.proofs.ApartLemmas.{AreApart, StandsIn, apart_filter, one_of, passes}
use Rattle.dft_seeking.proofs.CellsGiven.{candidates_apart, port_by}
use Rattle.dft_seek_laws.specs.Applied.{IsApplied, given_in}
use Rattle.dft_seek_laws.specs.Laws.{CubesApply}

-- ---- an assignment with the bits of a node

abbrev HasBits : Given → List Variable → (bits : List Bool) → Type 0
HasBits g vs bits = (v : Variable) (b : Bool) → bit_for vs bits v ≡ Some b → held g v ≡ known b

same_self : (v : Variable) → same_variable v v ≡ true
same_self (Cell c) = eq-eqb c c refl
same_self (Port net) = eq-eqb net net refl

bit_stands : (vs : List Variable) (bits : List Bool) (v : Variable) (b : Bool) → bit_for vs bits v ≡ Some b → StandsIn vs v
bit_stands [] bits v b is = absurd (none-some b is)
bit_stands (w ∷ vs) [] v b is = absurd (none-some b is)
bit_stands (w ∷ vs) (bit ∷ bits) v b is = by (same_variable w v) refl is (bit_stands vs bits v b)
  where
    by : (t : Bool) → same_variable w v ≡ t → (if t then Some bit else bit_for vs bits v) ≡ Some b → (bit_for vs bits v ≡ Some b → StandsIn vs v) → StandsIn (w ∷ vs) v
    by true same h later = (0, ap Some (same_is w v same))
    by false other h later = let r = later h in (suc r.0, r.1)

first_bit : (v : Variable) (vs : List Variable) (bit : Bool) (bits : List Bool) → bit_for (v ∷ vs) (bit ∷ bits) v ≡ Some bit
first_bit v vs bit bits = ap (λ (t : Bool). if t then Some bit else bit_for vs bits v) (same_self v)

later_bits : (g : Given) (v : Variable) (vs : List Variable) (bit : Bool) (bits : List Bool) → AreApart (v ∷ vs) → HasBits g (v ∷ vs) (bit ∷ bits) → HasBits g vs bits
later_bits g v vs bit bits apart has w b is = has w b (by (same_variable v w) refl)
  where
    by : (t : Bool) → same_variable v w ≡ t → (if t then Some bit else bit_for vs bits w) ≡ Some b
    by true same = absurd (apart.0 (subst (StandsIn vs) (sym (same_is v w same)) (bit_stands vs bits w b is)))
    by false other = is

have_cells : (g : Given) (vs : List Variable) (bits : List Bool) → AreApart vs → HasBits g vs bits → HaveCells g (cells_given vs bits)
have_cells g [] bits apart has = tt
have_cells g (v ∷ vs) [] apart has = tt
have_cells g (Cell c ∷ vs) (bit ∷ bits) apart has = (has (Cell c) bit (first_bit (Cell c) vs bit bits), have_cells g vs bits apart.1 (later_bits g (Cell c) vs bit bits apart has))
have_cells g (Port net ∷ vs) (bit ∷ bits) apart has = have_cells g vs bits apart.1 (later_bits g (Port net) vs bit bits apart has)

have_ports : (g : Given) (vs : List Variable) (bits : List Bool) → AreApart vs → HasBits g vs bits → HavePorts g (ports_given vs bits)
have_ports g [] bits apart has = tt
have_ports g (v ∷ vs) [] apart has = tt
have_ports g (Cell c ∷ vs) (bit ∷ bits) apart has = have_ports g vs bits apart.1 (later_bits g (Cell c) vs bit bits apart has)
have_ports g (Port net ∷ vs) (bit ∷ bits) apart has = (has (Port net) bit (first_bit (Port net) vs bit bits), have_ports g vs bits apart.1 (later_bits g (Port net) vs bit bits apart has))

-- ---- a moment and a vector with these bits

abbrev or_zero : Option Bool → Bool
or_zero None = false
or_zero (Some b) = b

module _ (s : Search) (can : CanCapture s.design s.config) (vs : List Variable) (bits : List Bool) (chosen : Variable → Bool) (are : vs ≡ filter chosen (candidates s)) (clock : NetId) where
  abbrev resets : ℕ → Bool
  resets = (config_ports s.design s.config).is_reset

  abbrev now : Now
  now = record {
    state = record { ports = λ net. Unknown; flops = λ c. or_zero (bit_for vs bits (Cell c)); high = λ e. false };
    moment = record { free = λ net. false; loose = λ i pin. false; seen = λ net. false };
  }

  abbrev x : Vector
  x = record { ports = λ net. if resets net then One else or_unknown (bit_for vs bits (Port net)); pulsed = λ net. clock.0 == net }

  no_reset : (net : ℕ) → StandsIn vs (Port net) → resets net ≡ false
  no_reset net stands =
      let among : StandsIn (candidates s) (Port net) = (passes chosen (candidates s) (Port net) (subst (λ (ws : List Variable). StandsIn ws (Port net)) are stands)).0 in
      let port : StandsIn (drivable_ports s) (record { 0 = net }) =
      port_by s net (one_of (map (λ (cell : InstanceId). Cell cell.0) (cells_in s)) (map (λ (k : NetId). Port k.0) (drivable_ports s)) (Port net) among) in
      let drives : is_drivable s net ≡ true = (passes (λ (k : NetId). is_drivable s k.0) (input_bits s.design.ports) (record { 0 = net }) port).1 in
      let other : (not ((config_ports s.design s.config).is_clock net) && not (resets net)) ≡ true = (and_parts (is_input (driver s.design net)) (not ((config_ports s.design s.config).is_clock net) && not (resets net)) drives).1 in
      not_true (resets net) (and_parts (not ((config_ports s.design s.config).is_clock net)) (not (resets net)) other).1

  has_bits : HasBits (given_in now x) vs bits
  has_bits (Cell c) b is = ap (λ (o : Option Bool). known (or_zero o)) is
  has_bits (Port net) b is = ap (λ (t : Bool). if t then One else or_unknown (bit_for vs bits (Port net))) (no_reset net (bit_stands vs bits (Port net) b is)) ∙ ap or_unknown is

  apart : AreApart vs
  apart = subst AreApart (sym are) (apart_filter chosen (candidates s) (candidates_apart s can.netlist can.range))

  pub applied : (cube : Cube) (name : Text) → capture_clock s.design s.config s.domain ≡ Some clock → cube.cells ≡ cells_given vs bits → cube.ports ≡ ports_given vs bits → IsApplied s cube now x
  applied cube name is cells ports = record {
    capture = record { clock = clock; is = is; pulses = λ net. refl; resets = λ net reset. ap (λ (t : Bool). if t then One else or_unknown (bit_for vs bits (Port net))) reset; low = λ e. refl };
    given = record {
      cells = subst (HaveCells (given_in now x)) (sym cells) (have_cells (given_in now x) vs bits apart has_bits);
      ports = subst (HavePorts (given_in now x)) (sym ports) (have_ports (given_in now x) vs bits apart has_bits);
    };
  }

pub cubes_apply : CubesApply
cubes_apply s rank limit name cube can_seek can less sought =
    let domains : List Text = s.config.domains in
    let at : slice_get domains s.domain ≡ Some (get_or domains s.domain []) = slice_get-get_or domains s.domain [] less in
    let clock = clock_of_domain s.design s.config can.passed s.domain (get_or domains s.domain []) at in
    let is : capture_clock s.design s.config s.domain ≡ Some clock.0 = ap (λ (o : Option Text). option_and_then (input_net s.design) o) at ∙ clock.1 in
    let node : IsOfNode s sought.cone name sought.dead cube = cube_node s limit name cube sought in
    let vs : List Variable = sought.cone.variables in
    let chosen : Variable → Bool = sought.is_cone.variables.chosen in (
      now s can vs node.bits chosen sought.is_cone.variables.are clock.0,
      (
        x s can vs node.bits chosen sought.is_cone.variables.are clock.0,
        applied s can vs node.bits chosen sought.is_cone.variables.are clock.0 cube name is (ap (λ (c : Cube). c.cells) node.is) (ap (λ (c : Cube). c.ports) node.is),
      ),
    )

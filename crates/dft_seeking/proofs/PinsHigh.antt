-- At the reset and set pins of a scanned flip-flop stands 1 in a capture, where they do not act.
use Rattle.std.proofs.Common.{ℕ, zero, suc, ◌≡◌, ◌∙◌, ◌⊎◌, inl, inr, Bool, true, false, List, [], ◌∷◌, map, Option, None, Some, slice_get, refl, sym, ap, subst, not, ◌++◌}
use Rattle.std.specs.Prelude.{if◌then◌else◌}
use Rattle.std.specs.List.{AllByRecursion}
use Rattle.std.proofs.lemmas.Option.{none-some, same_Some}
use Rattle.dft_base.specs.declared.tri.Tri.{Tri}
use Rattle.dft_base.specs.declared.tri.Tri.TheVariants.{Zero, One, Unknown}
use Rattle.dft_base.specs.Tri.{known, join}
use Rattle.dft_cells.specs.declared.cell.Cell as declared
use Rattle.dft_cells.specs.declared.kind.Kind.{Kind}
use Rattle.dft_cells.specs.declared.kind.Kind.TheVariants as kind
use Rattle.dft_cells.specs.declared.kind.Forcing.{Forcing}
use Rattle.dft_cells.specs.declared.kind.Forcing.TheVariants as force
use Rattle.dft_cells.specs.declared.kind.Gate.{Gate}
use Rattle.dft_cells.specs.declared.kind.Gate.TheVariants as gate
use Rattle.dft_cells.specs.declared.kind.Role.{Role}
use Rattle.dft_cells.specs.declared.kind.Role.TheVariants as role
use Rattle.dft_cells.specs.Gates.{bit_of, completing, shared, tri_of}
use Rattle.dft_cells.specs.FlipFlops.{Forces, tri_forced_by}
use Rattle.dft_cells.proofs.TakesLemmas.{left_rests}
use Rattle.dft_behavior.proofs.StoredLemmas.{both_parts}
use Rattle.dft_cells.specs.WellFormed.{front_roles, HasRoles, IsWellFormed}
use Rattle.dft_cells.proofs.TriLemmas.{forced_one}
use Rattle.dft_netlist.specs.declared.instance.Signal.{Signal}
use Rattle.dft_netlist.specs.declared.instance.Instance.{Instance}
use Rattle.dft_netlist.specs.declared.instance.CellRef.{CellRef}
use Rattle.dft_netlist.specs.declared.instance.CellRef.TheVariants as cell_ref
use Rattle.dft_netlist.specs.Netlist.{Netlist}
use Rattle.dft_netlist.specs.Drivers.{Source, Net, Driver, connections_from, driver, gate_roles, kind_at, kind_of, pins_at, pins_of, shape_of, shape_of_cell, source_of}
use Rattle.dft_netlist.specs.Drivers as drivers
use Rattle.dft_netlist.specs.Connections.{pin_of, same_role}
use Rattle.dft_behavior.specs.Logic.{Clock, Input, Ports, force_of, force_at, forcing}
use Rattle.dft_behavior.specs.Settled.{value_from, value_given}
use Rattle.dft_behavior.specs.NetRoots.{NetRoot, Bit, From, passed_by_gate, Rooted, AtPort, AtConstant, AtTie, ThroughGate, ThroughJoin}
use Rattle.dft_behavior.specs.Traces.{Root, Port, Constant, Other, Traces, root_of}
use Rattle.dft_behavior.proofs.RootForms.{OfTraced, traced_on, traced_over, traced_out}
use Rattle.dft_behavior.proofs.Walks.{constant_found, port_found}
use Rattle.dft_capture.specs.Captures.{IsSettledFrom, Moving, meaning_in, sources_at}

-- ---- what buffers and ties pass on

both_known : (c : Bool) → join (known c) (known c) ≡ known c
both_known true = refl
both_known false = refl

shared_step : (f g : Tri) (c : Bool) (t : Tri) (h : Bool → Tri) → h false ≡ f → h true ≡ g → f ≡ known c → g ≡ known c → completing h t ≡ known c
shared_step f g c Zero h low high one other = low ∙ one
shared_step f g c One h low high one other = high ∙ other
shared_step f g c Unknown h low high one other = (λ i. join ((low ∙ one) i) ((high ∙ other) i)) ∙ both_known c

-- what is one bit whatever it takes
shared_same : (f : List Bool → Bool) (c : Bool) (ts : List Tri) → ((bits : List Bool) → f bits ≡ c) → shared f ts ≡ known c
shared_same f c [] same = ap known (same [])
shared_same f c (t ∷ ts) same =
    shared_step (shared (λ bits. f (false ∷ bits)) ts) (shared (λ bits. f (true ∷ bits)) ts) c t (λ b. shared (λ bits. f (b ∷ bits)) ts) refl refl
    (shared_same (λ bits. f (false ∷ bits)) c ts (λ bits. same (false ∷ bits))) (shared_same (λ bits. f (true ∷ bits)) c ts (λ bits. same (true ∷ bits)))

tie_value : (k : Gate) (inputs : List Source) (bit : Bool) (values : ℕ → Tri) → passed_by_gate k inputs ≡ Bit bit → tri_of k (map (value_from values) inputs) ≡ known bit
tie_value gate.Tie0 inputs bit values is = let e : false ≡ bit = cc in shared_same (bit_of gate.Tie0) false (map (value_from values) inputs) (λ bits. refl) ∙ ap known e
tie_value gate.Tie1 inputs bit values is = let e : true ≡ bit = cc in shared_same (bit_of gate.Tie1) true (map (value_from values) inputs) (λ bits. refl) ∙ ap known e
tie_value gate.Buf [] bit values is = absurd cc
tie_value gate.Buf (source ∷ []) bit values is = absurd cc
tie_value gate.Buf (source ∷ more ∷ inputs) bit values is = absurd cc
tie_value gate.Inv [] bit values is = absurd cc
tie_value gate.Inv (source ∷ []) bit values is = absurd cc
tie_value gate.Inv (source ∷ more ∷ inputs) bit values is = absurd cc
tie_value _ inputs bit values is = absurd cc

passed_value : (t : Tri) → tri_of gate.Buf (t ∷ []) ≡ t
passed_value Zero = refl
passed_value One = refl
passed_value Unknown = refl

buffer_value : (k : Gate) (inputs : List Source) (source : Source) (values : ℕ → Tri) → passed_by_gate k inputs ≡ From source false → tri_of k (map (value_from values) inputs) ≡ value_from values source
buffer_value gate.Buf [] source values is = absurd cc
buffer_value gate.Buf (one ∷ []) source values is = let e : one ≡ source = cc in passed_value (value_from values one) ∙ ap (value_from values) e
buffer_value gate.Buf (one ∷ more ∷ inputs) source values is = absurd cc
buffer_value gate.Inv [] source values is = absurd cc
buffer_value gate.Inv (one ∷ []) source values is = absurd cc
buffer_value gate.Inv (one ∷ more ∷ inputs) source values is = absurd cc
buffer_value _ inputs source values is = absurd cc

-- ---- what traces to a reset port or to constant 1

module _ (n : Netlist) (own : Ports) (m : Moving) (clocks : (net : ℕ) → m.is_clock net ≡ own.is_clock net) (apart : (net : ℕ) → own.is_clock net ≡ true → own.is_reset net ≡ true → ⊥) (ports state values : ℕ → Tri)
    (high : (net : ℕ) → own.is_reset net ≡ true → ports net ≡ One) (settled : IsSettledFrom n m ports state values) where
  -- it does not act
  abbrev IsIdle : Root → Type 0
  IsIdle (Port net) = own.is_reset net ≡ true
  IsIdle (Constant bit) = bit ≡ true
  IsIdle Other = ⊥

  at_driver : (net : ℕ) (d : Driver) → driver n net ≡ d → values net ≡ value_given (sources_at ports state) values net (meaning_in m net d)
  at_driver net d is = settled net ∙ ap (λ (x : Driver). value_given (sources_at ports state) values net (meaning_in m net x)) is

  port_high : (net : ℕ) (b : Bool) → m.is_clock net ≡ b → own.is_reset net ≡ true → value_given (sources_at ports state) values net (if b then Clock else Input) ≡ One
  port_high net true clock reset = absurd (apart net (sym (clocks net) ∙ clock) reset)
  port_high net false clock reset = high net reset

  abbrev IsHigh : Source → Root → Type 0
  IsHigh source root = IsIdle root → value_from values source ≡ One

  traced_high : (source : Source) (root : NetRoot) → Rooted n source root → OfTraced (IsHigh source) root
  traced_high source root (AtPort {net = net} is) = λ idle. at_driver net drivers.Input is ∙ port_high net (m.is_clock net) refl idle
  traced_high source root (AtConstant {bit = bit}) = λ idle. ap known idle
  traced_high source root (AtTie {net = net} {kind = k} {inputs = inputs} {bit = bit} is passes) = λ idle. at_driver net (drivers.Gate k inputs) is ∙ tie_value k inputs bit values passes ∙ ap known idle
  traced_high source root (ThroughGate {net = net} {kind = k} {inputs = inputs} {source = from} {turns = turns} {root = far} is passes rest) =
      traced_on (IsHigh from) (IsHigh (Net net)) turns far (λ straight r high idle. at_driver net (drivers.Gate k inputs) is ∙ buffer_value k inputs from values (passes ∙ ap (From from) straight) ∙ high idle) (traced_high from far rest)
  traced_high source root (ThroughJoin {net = net} {source = from} is rest) =
      traced_over (IsHigh from) (IsHigh (Net net)) root (λ r high idle. at_driver net (drivers.Joined from) is ∙ high idle) (traced_high from root rest)

  trace_high : (source : Source) (root : Root) → Traces n source root → IsHigh source root
  trace_high source root traces idle = traced_out (IsHigh source) traces.whole root traces.straight (λ other. subst IsIdle other idle) (traced_high source traces.whole traces.rooted) idle

  reset_by : (net : ℕ) (b : Bool) (force : Option ℕ) → own.is_reset net ≡ b → ◌≡◌ {A = Option (Option ℕ)} (if b then Some (Some net) else None) (Some force) → own.is_reset net ≡ true
  reset_by net true force reset is = reset
  reset_by net false force reset is = absurd (none-some force is)

  root_high : (source : Source) (root : Root) (force : Option ℕ) → root_of n source ≡ root → force_of own root ≡ Some force → value_from values source ≡ One
  root_high source (Port net) force at is = trace_high source (Port net) (port_found n source net at) (reset_by net (own.is_reset net) force refl is)
  root_high source (Constant true) force at is = trace_high source (Constant true) (constant_found n source true at) refl
  root_high source (Constant false) force at is = absurd (none-some force is)
  root_high source Other force at is = absurd (none-some force is)

  pin_high : (pin : Option Source) (force : Option ℕ) → force_at n own pin ≡ Some force → (source : Source) → pin ≡ Some source → value_from values source ≡ One
  pin_high None force is source has = absurd (none-some source has)
  pin_high (Some at) force is source has = ap (value_from values) (sym (same_Some at source has)) ∙ root_high at (root_of n at) force refl is

  -- a flip-flop takes what it takes without its reset and its set
  pub pins_high : (pins : Forces Source) (forces : Forces ℕ) (t : Tri) → forcing n own pins ≡ Some forces → tri_forced_by pins (value_from values) t ≡ t
  pins_high pins forces t is =
      let both = both_parts (force_at n own pins.clear) (force_at n own pins.preset) forces is in
      left_rests pins (value_from values) t (λ source has. elim has [
        | inl clear ↦ pin_high pins.clear forces.clear both.0 source clear
        | inr set ↦ pin_high pins.preset forces.preset both.1 source set
      ])

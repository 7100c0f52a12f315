-- What a pattern captures. In each of its vectors one clock pulses: first the rising cells of the chains take their next values, from the settled
-- values of the original design, and then the falling ones take theirs, from those that are settled once the rising cells have moved.
use Rattle.std.specs.Prelude.{ℕ, Bool, true, false, ◌≡◌, ◌==◌, ◌&&◌, List, [], ◌∷◌, map, flat_map, Option, None, Some, option_and_then, slice_get, if◌then◌else◌}
use Rattle.std.specs.List.{list_any}
use Rattle.dft_base.specs.declared.tri.Tri.{Tri}
use Rattle.dft_base.specs.declared.tri.Tri.TheVariants.{Zero, One}
use Rattle.dft_base.specs.declared.dir.Dir.{Dir}
use Rattle.dft_base.specs.declared.dir.Dir.TheVariants as dir
use Rattle.dft_base.specs.Tri.{known}
use Rattle.dft_netlist.specs.declared.ids.NetId.{NetId}
use Rattle.dft_netlist.specs.declared.ids.InstanceId.{InstanceId}
use Rattle.dft_netlist.specs.declared.port.Port.{Port}
use Rattle.dft_netlist.specs.Netlist.{Netlist}
use Rattle.dft_netlist.specs.Connections.{input_net}
use Rattle.dft_behavior.specs.Logic.{Logic, logic_of}
use Rattle.dft_behavior.specs.Settled.{IsTriSettled}
use Rattle.dft_behavior.specs.Runs.{Vector, takes}
use Rattle.dft_abstract.specs.Cycle.{strobe_sources}
use Rattle.dft_abstract.specs.Laws.{next_from}
use Rattle.dft_config.specs.Config.{Config}
use Rattle.dft_rules.specs.Rules.{is_net}
pub use Rattle.dft_rules.specs.ConfigPorts.{config_ports}
use Rattle.dft_cubes.specs.declared.cube.Merged.{Merged}
use Rattle.dft_cubes.specs.Domains.{captured}
use Rattle.dft_expect.specs.declared.response.Response.{Response}
use Rattle.dft_expect.specs.Loaded.{all_cells, loaded_values}

-- ---- the capture vectors

-- the bit that a pattern gives a port
abbrev pub bit_of_port : List (NetId × Bool) → (net : ℕ) → Option Bool
bit_of_port [] net = None
bit_of_port (given ∷ ports) net = if given.0.0 == net then Some given.1 else bit_of_port ports net

-- a reset or set is 1, where it does not act; another port has the bit that the pattern gives it, and else 0
abbrev pub port_value : (is_reset : Bool) → Option Bool → Tri
port_value true given = One
port_value false (Some bit) = known bit
port_value false None = Zero

-- the net of the clock that captures
abbrev pub capture_clock : Netlist → Config → (domain : ℕ) → Option NetId
capture_clock n config domain = option_and_then (input_net n) (slice_get config.domains domain)

-- a vector that captures a domain: its clock pulses alone
abbrev pub vector_of : Netlist → Config → Merged → (domain : ℕ) → Vector
vector_of n config merged domain = record {
  ports = λ net. port_value ((config_ports n config).is_reset net) (bit_of_port merged.ports net);
  pulsed = λ net. is_net net (capture_clock n config domain);
}

-- the domains that a pattern captures, in order
abbrev pub captured_domains : Merged → List ℕ
captured_domains merged = captured merged.domains

-- its capture vectors, one for each
abbrev pub capture_vectors : Netlist → Config → Merged → List Vector
capture_vectors n config merged = map (vector_of n config merged) (captured_domains merged)

-- the first of them
abbrev pub capture_vector : Netlist → Config → Merged → Vector
capture_vector n config merged = vector_of n config merged merged.domains.first

-- ---- one vector

-- Each net has its three-valued settled value: ports are as in the vector, clocks are 0, flip-flops have these values, and all that is free is
-- Unknown.
abbrev pub IsSettledAt : Logic → Vector → (state values : ℕ → Tri) → Type 0
IsSettledAt l x state values = IsTriSettled l (strobe_sources l x state values) values

-- whether an instance is a cell of the chains
abbrev pub is_chained : List (List InstanceId) → (instance : ℕ) → Bool
is_chained chains i = list_any (λ cell. cell.0 == i) (all_cells chains)

-- whether a flip-flop moves at the rises of a vector's clocks, or at their falls: it is a cell of the chains, its clock pulses, and this is its edge
abbrev pub moves : Logic → List (List InstanceId) → Vector → (rising : Bool) → (cell : ℕ) → Bool
moves l chains x rising c = is_chained chains c && (x.pulsed (l.cell c).domain && takes rising (l.cell c).falling)

-- the flip-flops' values after these edges: what moves has its next value from these settled values, and all others stay
abbrev pub after_edges : Logic → List (List InstanceId) → Vector → (rising : Bool) → (values state : ℕ → Tri) → (cell : ℕ) → Tri
after_edges l chains x rising values state c = if moves l chains x rising c then next_from l x values (state c) c else state c

-- the settled values of a vector: before its clock rises, and before it falls
pub record Settled : Type 0 where
  pub first : ℕ → Tri
  pub second : ℕ → Tri

-- They are settled from the state before the vector, and from that in which the rising cells have moved. Clocks are 0 in both.
pub record AreSettled (l : Logic) (chains : List (List InstanceId)) (x : Vector) (state : ℕ → Tri) (s : Settled) : Type 0 where
  pub first : IsSettledAt l x state s.first
  pub second : IsSettledAt l x (after_edges l chains x true s.first state) s.second

-- the state after the vector: then the falling cells have moved too
abbrev pub next_state : Logic → List (List InstanceId) → Vector → (state : ℕ → Tri) → Settled → (cell : ℕ) → Tri
next_state l chains x state s = after_edges l chains x false s.second (after_edges l chains x true s.first state)

-- ---- one vector after another

-- each vector begins in the state that the one before it leaves
abbrev pub AllSettled : Logic → List (List InstanceId) → List Vector → (state : ℕ → Tri) → List Settled → Type 0
AllSettled l chains [] state [] = Unit {0}
AllSettled l chains [] state (s ∷ settled) = ⊥
AllSettled l chains (x ∷ xs) state [] = ⊥
AllSettled l chains (x ∷ xs) state (s ∷ settled) = AreSettled l chains x state s × AllSettled l chains xs (next_state l chains x state s) settled

-- the state after all of them
abbrev pub last_state : Logic → List (List InstanceId) → List Vector → (state : ℕ → Tri) → List Settled → (cell : ℕ) → Tri
last_state l chains [] state settled = state
last_state l chains (x ∷ xs) state [] = state
last_state l chains (x ∷ xs) state (s ∷ settled) = last_state l chains xs (next_state l chains x state s) settled

-- ---- the capture

-- the design, with the clocks and resets of the configuration
abbrev pub original : Netlist → Config → Logic
original n config = logic_of n (config_ports n config)

-- the bits of the output ports, in order
abbrev pub bits_out : Dir → List NetId → List NetId
bits_out dir.Input bits = []
bits_out dir.Output bits = bits

abbrev pub output_bits : List Port → List NetId
output_bits ports = flat_map (λ port. bits_out port.dir port.bits) ports

-- the values that the bits of the output ports have in a vector, before its clock rises
abbrev pub outputs_before : Netlist → Settled → List Tri
outputs_before n s = map (λ net. s.first net.0) (output_bits n.ports)

-- What a pattern with these loaded bits captures in some vectors: the values that the cells of the chains have behind them, chain by chain, and
-- those of the output ports' bits in each of them in turn. It begins with the loaded bits, and every flip-flop that is no cell of the chains is
-- Unknown throughout.
pub record CapturesIn (n : Netlist) (config : Config) (chains : List (List InstanceId)) (xs : List Vector) (loaded : List Bool) (r : Response) : Type 0 where
  pub settled : List Settled
  pub are : AllSettled (original n config) chains xs (loaded_values chains loaded) settled
  pub cells : r.cells ≡ map (λ cell. last_state (original n config) chains xs (loaded_values chains loaded) settled cell.0) (all_cells chains)
  pub outputs : r.outputs ≡ flat_map (outputs_before n) settled

-- what it captures: in all its capture vectors
abbrev pub IsCapture : Netlist → Config → List (List InstanceId) → Merged → (loaded : List Bool) → Response → Type 0
IsCapture n config chains merged loaded r = CapturesIn n config chains (capture_vectors n config merged) loaded r

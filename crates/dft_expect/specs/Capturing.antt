-- What captures the responses of a design's patterns, up to 512 at a time.
use Rattle.std.specs.Prelude.{ℕ, Bool, true, false, ◌≡◌, List, ◌++◌, length, map, take, Option, None, Some, slice_get}
use Rattle.dft_base.specs.declared.tri.Tri.{Tri}
use Rattle.dft_cells.specs.WellFormed.{IsWellFormed}
use Rattle.dft_netlist.specs.declared.ids.InstanceId.{InstanceId}
use Rattle.dft_netlist.specs.Netlist.{Netlist}
use Rattle.dft_behavior.specs.Runs.{Vector}
use Rattle.dft_netlist.specs.Orders.{HasOrder}
use Rattle.dft_netlist.specs.Sound.{IsNetlist}
use Rattle.dft_config.specs.Config.{Config}
use Rattle.dft_config.specs.Range.{IsInRange}
use Rattle.dft_rules.specs.Refusals.{refusal}
use Rattle.dft_stitch.specs.Chains.{plan_of}
use Rattle.dft_expect.specs.declared.pattern.Pattern.{Pattern}
use Rattle.dft_expect.specs.declared.response.Response.{Response}
use Rattle.dft_expect.specs.declared.settings.Setting.{Setting}
use Rattle.dft_expect.specs.Loaded.{all_cells, loaded_values}
use Rattle.dft_expect.specs.Captures.{CapturesIn, IsCapture, IsSettledAt, after_edges, capture_vector, capture_vectors, captured_domains, is_chained, last_state, original, output_bits, vector_of}
use Rattle.dft_expect.specs.Settings.{AreFlags, AreSettings}

-- the design and the configuration
pub record Capturing : Type 0 where
  pub design : Netlist
  pub config : Config

-- the cells of the chains that are planned for a design
abbrev pub cells_in : Netlist → Config → List InstanceId
cells_in n config = all_cells (plan_of n config).chains

-- what a pattern captures in a design with its chains
abbrev pub Captures : Netlist → Config → Pattern → Response → Type 0
Captures n config pattern r = IsCapture n config (plan_of n config).chains pattern.merged.now pattern.loaded.now r

-- ---- one vector after another

-- the first of a pattern's capture vectors, so many
abbrev pub first_vectors : Netlist → Config → Pattern → (count : ℕ) → List Vector
first_vectors n config pattern count = take count (capture_vectors n config pattern.merged.now)

-- what a pattern has captured behind so many of its vectors
abbrev pub CapturedBehind : Netlist → Config → Pattern → (count : ℕ) → Response → Type 0
CapturedBehind n config pattern count r = CapturesIn n config (plan_of n config).chains (first_vectors n config pattern count) pattern.loaded.now r

-- the state of the flip-flops there
abbrev pub state_behind : (n : Netlist) (config : Config) (pattern : Pattern) (count : ℕ) (r : Response) → CapturedBehind n config pattern count r → (cell : ℕ) → Tri
state_behind n config pattern count r is = last_state (original n config) (plan_of n config).chains (first_vectors n config pattern count) (loaded_values (plan_of n config).chains pattern.loaded.now) is.settled

-- These values are settled from a state in a capture vector of a pattern. Clocks are 0, so it is the same for each of its vectors.
abbrev pub Settles : Netlist → Config → Pattern → (state values : ℕ → Tri) → Type 0
Settles n config pattern state values = IsSettledAt (original n config) (capture_vector n config pattern.merged.now) state values

-- the state in which the rising cells of a domain have taken their next values from these
abbrev pub risen_values : Netlist → Config → Pattern → (domain : ℕ) → (values state : ℕ → Tri) → (cell : ℕ) → Tri
risen_values n config pattern domain values state = after_edges (original n config) (plan_of n config).chains (vector_of n config pattern.merged.now domain) true values state

-- a state follows another one: the cells of the chains have what a response has, and all other flip-flops are as before
pub record HasMoved (n : Netlist) (config : Config) (state next : ℕ → Tri) (r : Response) : Type 0 where
  pub cells : r.cells ≡ map (λ cell. next cell.0) (cells_in n config)
  pub others : (cell : ℕ) → is_chained (plan_of n config).chains cell ≡ false → next cell ≡ state cell

-- behind so many vectors of a pattern the values are settled in the state there
pub record IsReadyFor (n : Netlist) (config : Config) (pattern : Pattern) (count : ℕ) (r : Response) (values : ℕ → Tri) : Type 0 where
  pub behind : CapturedBehind n config pattern count r
  pub settled : Settles n config pattern (state_behind n config pattern count r behind) values

-- or they are settled in a state that the one there follows
pub record HasPulsed (n : Netlist) (config : Config) (pattern : Pattern) (count : ℕ) (r : Response) (values : ℕ → Tri) : Type 0 where
  pub behind : CapturedBehind n config pattern count r
  pub state : ℕ → Tri
  pub settled : Settles n config pattern state values
  pub moved : HasMoved n config state (state_behind n config pattern count r behind) r

-- What a pattern has captured behind so many vectors and the rise of the next one's clock, that of this domain, where these values were settled
-- before the rise: the values of the cells, and those of the output ports' bits before the rise behind those of the vectors before.
pub record IsRisen (n : Netlist) (config : Config) (pattern : Pattern) (count domain : ℕ) (r : Response) (values : ℕ → Tri) : Type 0 where
  pub old : Response
  pub before : CapturedBehind n config pattern count old
  pub settled : Settles n config pattern (state_behind n config pattern count old before) values
  pub cells : r.cells ≡ map (λ cell. risen_values n config pattern domain values (state_behind n config pattern count old before) cell.0) (cells_in n config)
  pub outputs : r.outputs ≡ old.outputs ++ map (λ net. values net.0) (output_bits n.ports)

-- the same by the domain of the next vector, if the pattern has a next one
abbrev pub IsRisenIn : Netlist → Config → Pattern → (count : ℕ) → Option ℕ → Response → (values : ℕ → Tri) → Type 0
IsRisenIn n config pattern count None r values = IsReadyFor n config pattern count r values
IsRisenIn n config pattern count (Some domain) r values = IsRisen n config pattern count domain r values

-- and these values are settled before its clock falls
pub record CanFall (n : Netlist) (config : Config) (pattern : Pattern) (count domain : ℕ) (r : Response) (values : ℕ → Tri) : Type 0 where
  pub first : ℕ → Tri
  pub risen : IsRisen n config pattern count domain r first
  pub settled : Settles n config pattern (risen_values n config pattern domain first (state_behind n config pattern count risen.old risen.before)) values

abbrev pub CanFallIn : Netlist → Config → Pattern → (count : ℕ) → Option ℕ → Response → (values : ℕ → Tri) → Type 0
CanFallIn n config pattern count None r values = IsReadyFor n config pattern count r values
CanFallIn n config pattern count (Some domain) r values = CanFall n config pattern count domain r values

-- ---- all patterns

-- there is a response for each pattern, of which this holds by its place
pub record AreResponses (Each : (place : ℕ) → Pattern → Response → Type 0) (patterns : List Pattern) (responses : List Response) : Type 0 where
  pub count : length responses ≡ length patterns
  pub each : (p : ℕ) (pattern : Pattern) (r : Response) → slice_get patterns p ≡ Some pattern → slice_get responses p ≡ Some r → Each p pattern r

-- all patterns behind so many of their vectors, with settled values or without
abbrev pub AreBehind : Capturing → (count : ℕ) → List Pattern → List Response → Type 0
AreBehind c count patterns responses = AreResponses (λ p pattern r. CapturedBehind c.design c.config pattern count r) patterns responses

abbrev pub AreReadyFor : Capturing → (count : ℕ) → List Pattern → List Response → (values : ℕ → ℕ → Tri) → Type 0
AreReadyFor c count patterns responses values = AreResponses (λ p pattern r. IsReadyFor c.design c.config pattern count r (values p)) patterns responses

-- behind the rise of the next vector's clock where they have a next one, and before its fall
abbrev pub AreRisen : Capturing → (count : ℕ) → List Pattern → List Response → (values : ℕ → ℕ → Tri) → Type 0
AreRisen c count patterns responses values = AreResponses (λ p pattern r. IsRisenIn c.design c.config pattern count (slice_get (captured_domains pattern.merged.now) count) r (values p)) patterns responses

abbrev pub CanAllFall : Capturing → (count : ℕ) → List Pattern → List Response → (values : ℕ → ℕ → Tri) → Type 0
CanAllFall c count patterns responses values = AreResponses (λ p pattern r. CanFallIn c.design c.config pattern count (slice_get (captured_domains pattern.merged.now) count) r (values p)) patterns responses

-- and behind its fall
abbrev pub HavePulsed : Capturing → (count : ℕ) → List Pattern → List Response → (values : ℕ → ℕ → Tri) → Type 0
HavePulsed c count patterns responses values = AreResponses (λ p pattern r. HasPulsed c.design c.config pattern count r (values p)) patterns responses

-- and each is what the pattern captures
abbrev pub AreCaptures : Capturing → List Pattern → List Response → Type 0
AreCaptures c patterns responses = AreResponses (λ p pattern r. Captures c.design c.config pattern r) patterns responses

-- the design is a netlist that the scan rules pass, whose nets have an order
pub record CanCapture (n : Netlist) (config : Config) : Type 0 where
  pub range : IsInRange config
  pub passed : refusal n config ≡ None
  pub netlist : IsNetlist n
  pub library : IsWellFormed n.library
  pub ordered : HasOrder n

-- each net has its setting
pub record IsPrepared (n : Netlist) (config : Config) (settings : List Setting) : Type 0 where
  pub clocks : List Bool
  pub resets : List Bool
  pub domains : AreFlags n config.domains clocks
  pub held : AreFlags n config.resets resets
  pub set : AreSettings n clocks resets (cells_in n config) settings

-- What the strobe of a capture settles reads no port but inputs that are no clocks.
use Rattle.std.proofs.Common.{ℕ, ◌≡◌, Bool, true, false, Some, refl, sym, ◌∙◌}
use Rattle.dft_pattern_behavior.proofs.Capturing.{IsData, SameAt, input_by, forced_same, given_same, flop_reset}
use Rattle.dft_base.specs.declared.tri.Tri.{Tri}
use Rattle.dft_base.specs.declared.tri.Tri.TheVariants.{Unknown}
use Rattle.dft_base.specs.Tri.{AboveTri}
use Rattle.dft_cells.specs.FlipFlops.{is_flip_flop}
use Rattle.dft_netlist.specs.Connections.{is_input}
use Rattle.dft_netlist.specs.Drivers.{driver, kind_at}
use Rattle.dft_cells.specs.FlipFlops.{IsForceOf, tri_forced_by}
use Rattle.dft_netlist.specs.Netlist.{Netlist}
use Rattle.dft_behavior.specs.Runs.{Vector}
use Rattle.dft_behavior.specs.Settled.{IsTriSettled}
use Rattle.dft_behavior.proofs.StoredLemmas.{stored_force}
use Rattle.dft_abstract.specs.Cycle.{strobe_sources}
use Rattle.dft_abstract.specs.Laws.{next_from}
use Rattle.dft_config.specs.Config.{Config}
use Rattle.dft_config.specs.Range.{IsInRange}
use Rattle.dft_cubes.specs.declared.cube.Merged.{Merged}
use Rattle.dft_expect.specs.Captures.{config_ports, original, vector_of}
use Rattle.dft_expect.proofs.GivenLemmas.{stays}
use Rattle.dft_rules.proofs.NamedPorts.{named_input, reset_rests}

-- ---- inputs of the design

-- ---- two vectors that are the same at inputs that are no clocks

-- ---- resets

-- ---- the capture vector at inputs that are no clocks

-- the value of an input that is no clock, and else Unknown
abbrev of_data : (input clock : Bool) → Tri → Tri
of_data true true value = Unknown
of_data true false value = value
of_data false clock value = Unknown

data_same : (input clock : Bool) (value : Tri) → input ≡ true → clock ≡ false → of_data input clock value ≡ value
data_same true true value one two = absurd cc
data_same true false value one two = refl
data_same false clock value one two = absurd cc

pub data_above : (input clock : Bool) (value other : Tri) → (input ≡ true → clock ≡ false → AboveTri value other) → AboveTri (of_data input clock value) other
data_above true true value other above = tt
data_above true false value other above = above refl refl
data_above false clock value other above = tt

-- the capture vector without values elsewhere
abbrev pub data_vector : Netlist → Config → Merged → (domain : ℕ) → Vector
data_vector n config merged domain = record {
  ports = λ net. of_data (is_input (driver n net)) ((config_ports n config).is_clock net) ((vector_of n config merged domain).ports net);
  pulsed = (vector_of n config merged domain).pulsed;
}

same_data : (n : Netlist) (config : Config) (merged : Merged) (domain : ℕ) → SameAt n (config_ports n config) (data_vector n config merged domain) (vector_of n config merged domain)
same_data n config merged domain net own = data_same (is_input (driver n net)) ((config_ports n config).is_clock net) ((vector_of n config merged domain).ports net) own.0 own.1

force_data : (n : Netlist) (config : Config) (cell port : ℕ) → IsInRange config → IsForceOf ((original n config).cell cell).forces port → IsData n (config_ports n config) port
force_data n config cell port range has =
    let reset : (config_ports n config).is_reset port ≡ true = flop_reset n config cell port has in
    (named_input n port config.resets reset, reset_rests n config port range reset)

data_forced : (n : Netlist) (config : Config) (merged : Merged) (domain : ℕ) (cell : ℕ) (t : Tri) → IsInRange config →
    tri_forced_by ((original n config).cell cell).forces (data_vector n config merged domain).ports t ≡ tri_forced_by ((original n config).cell cell).forces (vector_of n config merged domain).ports t
data_forced n config merged domain cell t range =
    forced_same n (config_ports n config) (data_vector n config merged domain) (vector_of n config merged domain) ((original n config).cell cell).forces t (same_data n config merged domain) (λ port has. force_data n config cell port range has)

-- the same values are settled
pub data_settled : (n : Netlist) (config : Config) (merged : Merged) (domain : ℕ) (its values : ℕ → Tri) → IsInRange config →
    IsTriSettled (original n config) (strobe_sources (original n config) (vector_of n config merged domain) its values) values →
    IsTriSettled (original n config) (strobe_sources (original n config) (data_vector n config merged domain) its values) values
data_settled n config merged domain its values range settled net =
    settled net
    ∙ sym (given_same n (config_ports n config) (original n config) (data_vector n config merged domain) (vector_of n config merged domain) its values net ((original n config).net net)
    (input_by n (config_ports n config) net (driver n net)) (same_data n config merged domain) (λ cell. data_forced n config merged domain cell (its cell) range))

-- each flip-flop has the same next value
pub data_next : (n : Netlist) (config : Config) (merged : Merged) (domain : ℕ) (values : ℕ → Tri) (own : Tri) (cell : ℕ) → IsInRange config →
    next_from (original n config) (data_vector n config merged domain) values own cell ≡ next_from (original n config) (vector_of n config merged domain) values own cell
data_next n config merged domain values own cell range = data_forced n config merged domain cell _ range

-- no reset or set acts
pub data_stays : (n : Netlist) (config : Config) (merged : Merged) (domain : ℕ) (cell : ℕ) (t : Tri) → IsInRange config → tri_forced_by ((original n config).cell cell).forces (data_vector n config merged domain).ports t ≡ t
data_stays n config merged domain cell t range = data_forced n config merged domain cell t range ∙ stays n config merged cell t

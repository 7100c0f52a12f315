-- The load equations: which variables of the channels a loaded cell sums (Rajski and others, 2004).
use Rattle.std.specs.Prelude.{ℕ, Bool, true, false, ◌≡◌, ◌&&◌, ◌==◌, ◌+◌, ◌-◌, ◌*◌, ◌/◌, ◌%◌, ◌<◌}
use Rattle.dft_base.specs.Solutions.{sum_to}
use Rattle.dft_config.specs.Ring.{Table, state_after, phase_sum}
use Rattle.dft_config.specs.Range.{IsInRange}
use Rattle.dft_config.specs.declared.config.RingConfig.{RingConfig}
use Rattle.dft_config.specs.Config.{Config}

-- The variable of a channel at a cycle has the column cycle * channels + channel; so a column's channel and cycle are these.
abbrev pub channel_of : RingConfig → ℕ → ℕ
channel_of ring column = column % ring.channels

abbrev pub cycle_of : RingConfig → ℕ → ℕ
cycle_of ring column = column / ring.channels

-- the bit that a table gives the variable of a column
abbrev pub bit_of_column : RingConfig → Table → ℕ → Bool
bit_of_column ring table column = table (channel_of ring column) (cycle_of ring column)

-- the table with a single 1, for this channel at this cycle
abbrev pub single : ℕ → ℕ → Table
single channel cycle = λ other moment. (other == channel) && (moment == cycle)

-- whether the table with a single 1, at the variable of a column, brings a 1 to the chain from the state after so many cycles
unfoldable pub reaches : RingConfig → ℕ → ℕ → ℕ → Bool
reaches ring chain cycles column = phase_sum ring chain (state_after ring (single (channel_of ring column) (cycle_of ring column)) cycles)

-- A chain is late where its first cell is falling: that cell takes each bit after the ring has stepped, so from the state one cycle later.
unfoldable pub delay : (late : Bool) → ℕ
delay true = 1
delay false = 0

-- A cell holds after a load of so many cycles what came to its chain from the state after this many; place 0 is nearest the ring.
abbrev pub moment_of_place : (cycles : ℕ) (late : Bool) (place : ℕ) → ℕ
moment_of_place cycles late place = cycles - 1 - place + delay late

-- the load equation of the cell at a place of a chain, for loads of so many cycles: whether a column is in it
abbrev pub load_equation : RingConfig → (cycles : ℕ) (late : Bool) (chain place column : ℕ) → Bool
load_equation ring cycles late chain place = reaches ring chain (moment_of_place cycles late place)

-- For every configuration in range and every table of channel bits, what comes to a cell is the sum of the table's bits over the
-- cell's load equation, whether its chain is late or not.
abbrev pub LoadsAreSums : Type 0
LoadsAreSums =
    (config : Config) (table : Table) (cycles : ℕ) (late : Bool) (chain place : ℕ) → IsInRange config → chain < config.chains → place < cycles →
    phase_sum config.ring chain (state_after config.ring table (moment_of_place cycles late place))
    ≡ sum_to (cycles * config.ring.channels) (λ column. load_equation config.ring cycles late chain place column && bit_of_column config.ring table column)

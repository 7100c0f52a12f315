-- What is known of a compiled pattern before its vectors are made.
use Rattle.std.specs.Prelude.{ℕ, ◌≡◌, ◌*◌, Bool, List, length, Option, option_map}
use Rattle.dft_base.specs.Solutions.{bit_at}
use Rattle.dft_lanes.specs.Rows.{bits_of, IsPacked}
use Rattle.dft_config.specs.Config.{Config}
use Rattle.dft_config.specs.Ring.{Table}
use Rattle.dft_stitch.specs.Plans.{Plan}
use Rattle.dft_cubes.specs.declared.cube.Merged.{Merged}
use Rattle.dft_expect.specs.declared.response.Response.{Response}
use Rattle.dft_expect.specs.Loaded.{table_of, all_cells}
use Rattle.dft_vectors.specs.declared.pattern.Pattern.{Pattern}

pub record PatternData : Type 0 where
  -- the clocks that capture, and the bits of ports in the capture
  pub merged : Merged
  -- the bits of the channels in its load, one a column
  pub bits : List Bool
  -- which chains are masked while it is unloaded
  pub masks : List Bool
  -- what it captures
  pub response : Response

abbrev pub merged_of : PatternData → Merged
merged_of p = p.merged

-- the table of its channel bits
abbrev pub load_of : Config → PatternData → Table
load_of config p = table_of config.ring (bit_at p.bits)

-- how many bits the channels have in a load
abbrev pub columns_of : Config → Plan → ℕ
columns_of config plan = plan.cycles * config.ring.channels

-- what a pattern's packed bits stand for
abbrev pub data_of : Config → Plan → Pattern → PatternData
data_of config plan p = record { merged = p.merged.now; bits = bits_of (columns_of config plan) p.bits.now; masks = p.masks.now; response = p.response.now }

abbrev pub data_if_any : Config → Plan → Option Pattern → Option PatternData
data_if_any config plan before = option_map (data_of config plan) before

-- it has a bit for each column, a mask for each chain and a value for each cell
pub record Fits (config : Config) (plan : Plan) (p : Pattern) : Type 0 where
  pub bits : IsPacked (columns_of config plan) p.bits.now
  pub masks : length p.masks.now ≡ length plan.chains
  pub cells : length p.response.now.cells ≡ length (all_cells plan.chains)

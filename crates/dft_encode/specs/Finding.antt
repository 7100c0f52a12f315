-- What is found of patterns, one group after another.
use Rattle.std.specs.Prelude.{ℕ, ◌≡◌, ◌≤◌, ◌*◌, ◌+◌, List, length, take, Option, None, Some, option_map, slice_get, IfSome}
use Rattle.std.specs.List.{All}
use Rattle.dft_base.specs.Packed.{packed_bit}
use Rattle.dft_base.specs.Solutions.{bit_at, IsChosen}
use Rattle.dft_config.specs.Config.{Config}
use Rattle.dft_config.specs.Range.{IsInRange}
use Rattle.dft_rules.specs.Refusals.{refusal}
use Rattle.dft_stitch.specs.Chains.{plan_of}
use Rattle.dft_stitch.specs.Plans.{Plan, falling_head}
use Rattle.dft_lanes.specs.Rows.{bits_of, IsPacked}
use Rattle.dft_cubes.specs.declared.cube.Merged.{Merged}
use Rattle.dft_expect.specs.declared.pattern.Pattern.{Pattern}
use Rattle.dft_expect.specs.declared.response.Response.{Response}
use Rattle.dft_expect.specs.Captures.{IsCapture}
use Rattle.dft_expect.specs.Loaded.{all_cells, loaded_of, table_of}
use Rattle.dft_expect.specs.Masks.{always_of}
use Rattle.dft_merge.specs.Fills.{fill_of}
use Rattle.dft_merge.specs.Merging.{columns_in, rows_in}
use Rattle.dft_merge.specs.Placement.{Loads, equations_of}
use Rattle.dft_vectors.specs.Listing.{Listing, Lists}
use Rattle.dft_vectors.specs.PatternData.{PatternData, columns_of}
use Rattle.dft_vectors.specs.VectorList.{last_of}
use Rattle.dft_encode.specs.declared.filling.Filled.{Filled}
use Rattle.dft_encode.specs.declared.finder.Finder.{Finder}
use Rattle.dft_encode.specs.declared.found.Found.{Found}
use Rattle.dft_encode.specs.declared.loads.Load.{Load}
use Rattle.dft_encode.specs.Compiled.{ArePatterns}
use Rattle.dft_encode.specs.Counts.{masked_in}

-- ---- the finder

-- it has the load equations that its merger has, and for each chain whether it is always masked; and what is known of planned chains
pub record IsFinder (f : Finder) : Type 0 where
  pub range : IsInRange f.loads.now.config
  pub passed : refusal f.loads.now.design f.loads.now.config ≡ None
  pub chains : f.loads.now.plan ≡ plan_of f.loads.now.design f.loads.now.config
  pub count : length f.loads.now.plan.chains ≡ f.loads.now.config.chains
  pub cells : All (λ cells. length cells ≤ f.loads.now.plan.cycles) f.loads.now.plan.chains
  pub cycles : f.loads.now.plan.cycles ≤ 4096
  pub small : columns_of f.loads.now.config f.loads.now.plan ≤ 16384
  pub always : f.always.now ≡ always_of f.loads.now.config
  pub merger : f.merger.now.loads ≡ f.loads.now
  pub columns : f.merger.now.loads.rows.columns ≡ columns_of f.loads.now.config f.loads.now.plan
  pub few : length f.merger.now.patterns ≤ 65536

-- ---- loads and captures

-- The load of the pattern of this number: its bits are those that the equations and the fill rule choose, and they load what its cubes ask;
-- and these are the bits that they bring to the cells.
pub record IsLoad (f : Finder) (number : ℕ) (l : Load) : Type 0 where
  pub packed : IsPacked (columns_in f.merger.now) l.bits
  pub chosen : (merged : Merged) → slice_get f.merger.now.patterns number ≡ Some merged →
      IsChosen (columns_in f.merger.now) (equations_of (rows_in f.merger.now) merged.cells) (fill_of f.loads.now.config.fill number (columns_in f.merger.now)) (bits_of (columns_in f.merger.now) l.bits)
  pub loads : (merged : Merged) → slice_get f.merger.now.patterns number ≡ Some merged →
      Loads (columns_in f.merger.now) (rows_in f.merger.now) (bit_at (bits_of (columns_in f.merger.now) l.bits)) merged.cells
  pub cells : l.cells ≡ loaded_of f.loads.now.config.ring (table_of f.loads.now.config.ring (packed_bit l.bits)) f.loads.now.plan.cycles (falling_head f.loads.now.plan) f.loads.now.plan.chains

-- the loads of patterns from this number on
abbrev pub AreLoads : Finder → (first : ℕ) → List Load → Type 0
AreLoads f first loads = (k : ℕ) (l : Load) → slice_get loads k ≡ Some l → IsLoad f (first + k) l

-- the pattern at a place behind this number, with its load
pub record IsLoaded (all : List Merged) (first : ℕ) (loads : List Load) (k : ℕ) (p : Pattern) : Type 0 where
  pub merged : slice_get all (first + k) ≡ Some p.merged.now
  pub load : Load
  pub at : slice_get loads k ≡ Some load
  pub loaded : p.loaded.now ≡ load.cells

pub record AreLoaded (all : List Merged) (first : ℕ) (loads : List Load) (patterns : List Pattern) : Type 0 where
  pub count : length patterns ≡ length loads
  pub each : (k : ℕ) (p : Pattern) → slice_get patterns k ≡ Some p → IsLoaded all first loads k p

-- what the patterns from this number on capture, with these loads
pub record Captured (f : Finder) (first : ℕ) (loads : List Load) (responses : List Response) : Type 0 where
  pub count : length responses ≡ length loads
  pub each : (k : ℕ) (l : Load) (r : Response) (merged : Merged) → slice_get loads k ≡ Some l → slice_get responses k ≡ Some r → slice_get f.merger.now.patterns (first + k) ≡ Some merged →
      IsCapture f.loads.now.design f.loads.now.config f.loads.now.plan.chains merged l.cells r

-- ---- patterns

-- what is known of a pattern
abbrev pub data_found : Config → Plan → Found → PatternData
data_found config plan f = record { merged = f.merged; bits = bits_of (columns_of config plan) f.bits; masks = f.masks; response = f.response }

abbrev pub last_found : Config → Plan → Option Found → Option PatternData
last_found config plan last = option_map (data_found config plan) last

-- it has a bit for each column, a mask for each chain and a value for each cell
pub record FitsFound (config : Config) (plan : Plan) (f : Found) : Type 0 where
  pub bits : IsPacked (columns_of config plan) f.bits
  pub masks : length f.masks ≡ length plan.chains
  pub cells : length f.response.cells ≡ length (all_cells plan.chains)

-- A list of vectors has the first patterns, so many: this was found of the last one, and so many chains are masked.
pub record HasPatterns (f : Finder) (count : ℕ) (g : Filled) (l : Listing) : Type 0 where
  pub design : l.design ≡ f.loads.now.design
  pub config : l.config ≡ f.loads.now.config
  pub plan : l.plan ≡ f.loads.now.plan
  pub patterns : List PatternData
  pub are : ArePatterns f.loads.now.design f.loads.now.config f.loads.now.plan f.merger.now.loads.rows (take count f.merger.now.patterns) patterns
  pub lists : Lists l patterns
  pub last : last_found f.loads.now.config f.loads.now.plan g.last ≡ last_of None patterns
  pub fits : IfSome g.last (FitsFound f.loads.now.config f.loads.now.plan)
  pub masked : g.masked ≡ masked_in patterns
  pub few : g.masked ≤ count * 1024

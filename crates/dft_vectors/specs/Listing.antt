-- A list of vectors that is being made.
use Rattle.std.specs.Prelude.{ℕ, ◌≡◌, List, map}
use Rattle.dft_netlist.specs.Netlist.{Netlist}
use Rattle.dft_config.specs.Config.{Config}
use Rattle.dft_stitch.specs.Plans.{Plan}
use Rattle.dft_patterns.specs.declared.act.Act.{Act}
use Rattle.dft_vectors.specs.PatternData.{PatternData, merged_of}
use Rattle.dft_vectors.specs.VectorList.{captures_in, vectors_before_end}

-- for which design, configuration and chains; the vectors so far, and how many captures each of their patterns has
pub record Listing : Type 0 where
  pub design : Netlist
  pub config : Config
  pub plan : Plan
  pub vectors : List (List Act)
  pub captures : List ℕ

-- the vectors so far are those of these patterns
pub record Lists (l : Listing) (patterns : List PatternData) : Type 0 where
  pub vectors : l.vectors ≡ vectors_before_end l.design l.config l.plan patterns
  pub captures : l.captures ≡ captures_in (map merged_of patterns)

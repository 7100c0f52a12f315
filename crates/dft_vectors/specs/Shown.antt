-- What a list of vectors shows that is being made, and what holds of it.
use Rattle.std.specs.Prelude.{ℕ, ◌≡◌, ◌*◌, ◌≤◌, Bool, List, length, map, take, drop, Option, None, Some}
use Rattle.dft_config.specs.Range.{IsInRange}
use Rattle.dft_patterns.specs.declared.act.Act.{Act}
use Rattle.dft_vectors.specs.declared.layout.Layout.{Layout}
use Rattle.dft_vectors.specs.declared.listing.VectorList.TheInside.{Inside}
use Rattle.dft_config.specs.Config.{Config}
use Rattle.dft_config.specs.Ring.{Table}
use Rattle.dft_stitch.specs.Chains.{plan_of}
use Rattle.dft_stitch.specs.Plans.{Plan, falling_head}
use Rattle.dft_expect.specs.Expected.{expected_of}
use Rattle.dft_expect.specs.Masks.{by_chain}
use Rattle.dft_vectors.specs.PatternData.{PatternData}
use Rattle.dft_vectors.specs.Listing.{Listing}
use Rattle.dft_vectors.specs.OwnPorts.{expect, ignored}
use Rattle.dft_vectors.specs.Segments.{segments_of}
use Rattle.dft_vectors.specs.Tables.{AreOwn}

-- the chains of the planned design
abbrev pub plan_in : Layout → Plan
plan_in l = plan_of l.planned.now.design l.planned.now.config

-- what vectors are made from was looked up of this design and configuration
pub record IsLayout (l : Layout) : Type 0 where
  pub range : IsInRange l.planned.now.config
  pub own : AreOwn l.planned.now.design l.planned.now.config l.own
  pub segments : l.segments.items ≡ segments_of l.planned.now.config
  pub chains : length (plan_in l).chains ≡ l.planned.now.config.chains
  pub cycles : (plan_in l).cycles ≤ 4096

abbrev pub listing_of : Inside → Listing
listing_of l = record { design = l.layout.planned.now.design; config = l.layout.planned.now.config; plan = plan_in l.layout; vectors = l.vectors.items; captures = l.captures.items }

pub record IsVectorList (l : Inside) : Type 0 where
  pub layout : IsLayout l.layout
  pub few : length l.captures.items ≤ 65536

-- what so many outputs do in a cycle, where these bits are to be shown, cycle by cycle and in each output by output; where there are none
-- nothing is compared
abbrev pub shown_at : (width : ℕ) → Option (List Bool) → (cycle : ℕ) → List Act
shown_at width None t = ignored width
shown_at width (Some bits) t = map expect (take width (drop (t * width) bits))

-- What the outputs are to show in all cycles of a load, cycle by cycle: what the pattern before it captured, if there is one.
abbrev pub expected_if_any : Config → Plan → (load : Table) → (before : Option PatternData) → Option (List Bool)
expected_if_any config plan load None = None
expected_if_any config plan load (Some p) = Some (expected_of config.ring config.compactor.groups load (falling_head plan) p.masks (by_chain plan.chains p.response.cells) plan.cycles)

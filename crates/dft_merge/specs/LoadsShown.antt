-- What a `Loads` shows, and what holds of it.
use Rattle.std.specs.Prelude.{length, map}
use Rattle.dft_stitch.specs.Chains.{plan_of}
use Rattle.dft_stitch.specs.Plans.{falling_head}
use Rattle.dft_equations.specs.LoadRows.{AreLoadEquations}
use Rattle.dft_merge.specs.declared.loads.Loads.TheInside.{Inside}
use Rattle.dft_merge.specs.LoadPlan.{LoadPlan}

abbrev pub loads_in : Inside → LoadPlan
loads_in l = record { design = l.planned.design; config = l.planned.config; plan = plan_of l.planned.design l.planned.config; rows = l.equations }

-- the equations are those of the planned chains
abbrev pub AreLoads : Inside → Type 0
AreLoads l =
    let plan = plan_of l.planned.design l.planned.config in AreLoadEquations l.planned.config.ring (map length plan.chains) (falling_head plan) plan.cycles l.equations

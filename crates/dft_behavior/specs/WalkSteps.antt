-- One step of a walk back.
use Rattle.std.specs.Prelude.{ℕ, ◌≡◌, ◌<◌, Bool}
use Rattle.dft_behavior.specs.declared.walk_steps.Step.{Step}
use Rattle.dft_behavior.specs.declared.walk_steps.Step.TheVariants.{Back, End}
use Rattle.dft_netlist.specs.Netlist.{Netlist}
use Rattle.dft_netlist.specs.Drivers.{Source, Net, Tied, Loose, driver}
use Rattle.dft_behavior.specs.NetRoots.{NetRoot, Constant, Other, turned_root, root_of_driver}
use Rattle.dft_behavior.specs.Roots.{shown_net_root}

-- a walk ends at a constant with it, and at a pin that is joined to nothing without one
pub record IsWalk (walk : Source → NetRoot) : Type 0 where
  pub constant : (bit : Bool) → walk (Tied bit) ≡ Constant bit
  pub loose : (i pin : ℕ) → walk (Loose i pin) ≡ Other

-- what a walk finds after a step
abbrev pub after_step : (Source → NetRoot) → Step → NetRoot
after_step walk (Back net turns) = turned_root turns (walk (Net net.0))
after_step walk (End root) = shown_net_root root

-- the step is the one that the net's driver gives
abbrev pub TakesStep : Netlist → (net : ℕ) → Step → Type 0
TakesStep n net step = (walk : Source → NetRoot) → IsWalk walk → after_step walk step ≡ root_of_driver walk net (driver n net)

-- a step to a net is to one of the first `count`
abbrev pub IsLiveStep : (count : ℕ) → Step → Type 0
IsLiveStep count (Back net turns) = net.0 < count
IsLiveStep count (End root) = Unit {0}

-- What a search tells of a fault: a cube, that there is none, or that its limit of dead nodes was met.
use Rattle.std.specs.Prelude.{ℕ, Bool, ◌≡◌, ◌∷◌, List, [], nat_lt, Option, None, Some, if◌then◌else◌}
use Rattle.dft_base.specs.Tri.{known}
use Rattle.dft_base.specs.Lexing.{Text}
use Rattle.dft_netlist.specs.declared.ids.NetId.{NetId}
use Rattle.dft_netlist.specs.declared.ids.InstanceId.{InstanceId}
use Rattle.dft_cubes.specs.declared.cube.Cube.{Cube}
use Rattle.dft_seek.specs.declared.found.Found.{Found}
use Rattle.dft_seek.specs.declared.found.Found.TheVariants as found
use Rattle.dft_seek.specs.Searches.{Given, Search}
use Rattle.dft_seek.specs.Walks.{Cell, Cone, IsCone, Port, Variable}
use Rattle.dft_seek.specs.Trees.{Tree}

-- ---- the cube of a node

-- the cells among the first variables, with their bits
abbrev pub cells_given : List Variable → (bits : List Bool) → List (InstanceId × Bool)
cells_given [] bits = []
cells_given (v ∷ vs) [] = []
cells_given (Cell c ∷ vs) (bit ∷ bits) = (record { 0 = c }, bit) ∷ cells_given vs bits
cells_given (Port net ∷ vs) (bit ∷ bits) = cells_given vs bits

-- the ports among them
abbrev pub ports_given : List Variable → (bits : List Bool) → List (NetId × Bool)
ports_given [] bits = []
ports_given (v ∷ vs) [] = []
ports_given (Cell c ∷ vs) (bit ∷ bits) = ports_given vs bits
ports_given (Port net ∷ vs) (bit ∷ bits) = (record { 0 = net }, bit) ∷ ports_given vs bits

-- the cube captures once, in the domain of the search
abbrev pub cube_at : (name : Text) → (domain : ℕ) → List Variable → (bits : List Bool) → Cube
cube_at name domain vs bits = record { name = name; domains = record { first = domain; second = None }; cells = cells_given vs bits; ports = ports_given vs bits }

-- ---- the answer

-- the cube of the found node, or that there is none
abbrev pub told : (name : Text) → (domain : ℕ) → List Variable → Option (List Bool) → Found
told name domain vs None = found.NotTestable
told name domain vs (Some bits) = found.Cube (cube_at name domain vs bits)

-- where more dead nodes are met than the limit, the search is aborted
abbrev pub answer : (limit dead : ℕ) → Found → Found
answer limit dead otherwise = if nat_lt limit dead then found.Aborted else otherwise

-- By the tree: a cube where it has a found node and at most so many dead nodes stand before the first one; that there is none where it has none and at
-- most so many dead nodes; and else that the search is aborted.
pub record IsSought (s : Search) (limit : ℕ) (name : Text) (f : Found) : Type 0 where
  pub cone : Cone
  pub is_cone : IsCone s cone
  pub dead : ℕ
  pub found : Option (List Bool)
  pub tree : Tree s cone [] dead found
  pub is : f ≡ answer limit dead (told name s.domain cone.variables found)

-- ---- assignments with the bits of a cube

-- the cells have these bits
abbrev pub HaveCells : Given → List (InstanceId × Bool) → Type 0
HaveCells g [] = Unit {0}
HaveCells g (cell ∷ cells) = (g.cells cell.0.0 ≡ known cell.1) × HaveCells g cells

-- and the ports these
abbrev pub HavePorts : Given → List (NetId × Bool) → Type 0
HavePorts g [] = Unit {0}
HavePorts g (port ∷ ports) = (g.ports port.0.0 ≡ known port.1) × HavePorts g ports

-- the assignment gives what the cube gives, and maybe more
pub record CompletesCube (cube : Cube) (g : Given) : Type 0 where
  pub cells : HaveCells g cube.cells
  pub ports : HavePorts g cube.ports

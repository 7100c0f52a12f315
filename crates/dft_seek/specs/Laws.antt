-- What the tree of a search tells of assignments.
use Rattle.std.specs.Prelude.{ℕ, ◌≡◌, ◌≤◌, ◌^◌, length, List, [], Bool, Option, None, Some}
use Rattle.dft_base.specs.Lexing.{Text}
use Rattle.dft_cells.specs.WellFormed.{IsWellFormed}
use Rattle.dft_netlist.specs.Drivers.{IsOrdered}
use Rattle.dft_cubes.specs.declared.cube.Cube.{Cube}
use Rattle.dft_faults.specs.Faulty.{IsFault}
use Rattle.dft_seek.specs.Searches.{Completes, Detects, Given, IsFull, Search}
use Rattle.dft_seek.specs.Walks.{Cone, IsCone}
use Rattle.dft_seek.specs.declared.found.Found.{Found}
use Rattle.dft_seek.specs.declared.found.Found.TheVariants as found
use Rattle.dft_seek.specs.Sought.{CompletesCube, IsSought}
use Rattle.dft_seek.specs.Trees.{Tree, node_at}

-- the design's nets have this order, and the fault is one of it
pub record CanSeek (s : Search) (rank : ℕ → ℕ) : Type 0 where
  pub ordered : IsOrdered s.design rank
  pub is : IsFault s.design s.fault

-- There is a tree,
abbrev pub TreesExist : Type 0
TreesExist = (s : Search) (rank : ℕ → ℕ) (cone : Cone) → CanSeek s rank → (dead : ℕ) × ((found : Option (List Bool)) × Tree s cone [] dead found)

-- and it is one.
abbrev pub TreeIsOne : Type 0
TreeIsOne =
    (s : Search) (rank : ℕ → ℕ) (cone : Cone) (bits : List Bool) (dead more : ℕ) (found other : Option (List Bool)) → CanSeek s rank →
    Tree s cone bits dead found → Tree s cone bits more other → (dead ≡ more) × (found ≡ other)

-- Each completion of a node that is found detects the fault.
abbrev pub CubesDetect : Type 0
CubesDetect =
    (s : Search) (rank : ℕ → ℕ) (cone : Cone) (bits found : List Bool) (dead : ℕ) (g : Given) → CanSeek s rank → IsCone s cone →
    Tree s cone bits dead (Some found) → Completes (node_at cone.variables found) g → Detects s g

-- Where the tree has no found node, no assignment of bits to all scanned cells and drivable ports detects the fault.
abbrev pub NoneDetects : Type 0
NoneDetects =
    (s : Search) (rank : ℕ → ℕ) (cone : Cone) (dead : ℕ) (g : Given) → CanSeek s rank → IsWellFormed s.design.library → IsCone s cone →
    Tree s cone [] dead None → IsFull s g → Detects s g → ⊥

-- With n variables there are at most 2^n dead nodes.
abbrev pub FewDeadNodes : Type 0
FewDeadNodes = (s : Search) (cone : Cone) (dead : ℕ) (found : Option (List Bool)) → Tree s cone [] dead found → dead ≤ 2 ^ length cone.variables

-- The points and the variables of a search are determined.
abbrev pub ConeIsOne : Type 0
ConeIsOne = (s : Search) (a b : Cone) → IsCone s a → IsCone s b → a ≡ b

-- So is what it tells.
abbrev pub SoughtIsOne : Type 0
SoughtIsOne = (s : Search) (rank : ℕ → ℕ) (limit : ℕ) (name : Text) (f g : Found) → CanSeek s rank → IsSought s limit name f → IsSought s limit name g → f ≡ g

-- Each assignment that completes a cube which is told detects the fault.
abbrev pub CubeIsTrue : Type 0
CubeIsTrue =
    (s : Search) (rank : ℕ → ℕ) (limit : ℕ) (name : Text) (cube : Cube) (g : Given) → CanSeek s rank → IsSought s limit name (found.Cube cube) → CompletesCube cube g → Detects s g

-- Where it is told that there is none, no assignment of bits to all scanned cells and drivable ports detects it.
abbrev pub NoneIsTrue : Type 0
NoneIsTrue =
    (s : Search) (rank : ℕ → ℕ) (limit : ℕ) (name : Text) (g : Given) → CanSeek s rank → IsWellFormed s.design.library → IsSought s limit name found.NotTestable → IsFull s g → Detects s g → ⊥

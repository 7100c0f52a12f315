-- What a search tells is true.
use Rattle.std.proofs.Common.{ℕ, ◌≡◌, Bool, true, false, List, [], ◌∷◌, Option, None, Some, refl, sym, subst, ap, ◌∙◌}
use Rattle.std.specs.Prelude.{if◌then◌else◌, nat_lt}
use Rattle.dft_base.specs.Lexing.{Text}
use Rattle.dft_base.specs.Tri.{known, AboveTri}
use Rattle.dft_cells.proofs.Completions.{above_self}
use Rattle.dft_cubes.specs.declared.cube.Cube.{Cube}
use Rattle.dft_expect.specs.Loaded.{or_unknown}
use Rattle.dft_seek.specs.declared.found.Found.{Found}
use Rattle.dft_seek.specs.declared.found.Found.TheVariants as found
use Rattle.dft_seek.specs.Searches.{Completes, Detects, Given, Search}
use Rattle.dft_seek.specs.Walks.{Cell, Cone, IsCone, Port, Variable}
use Rattle.dft_seek.specs.Trees.{Tree, bit_for, node_at, same_variable}
use Rattle.dft_seek.specs.Sought.{CompletesCube, IsSought, HaveCells, HavePorts, cells_given, cube_at, ports_given, told}
use Rattle.dft_seek.specs.Laws.{CanSeek, CubeIsTrue, NoneIsTrue}
use Rattle.dft_seek.proofs.Rising.{cubes_detect}
use Rattle.dft_seek.proofs.Hanging.{same_is}
use Rattle.dft_seek.proofs.Covering.{held, none_detects}

-- ---- the bits of a cube are those of its node

here_or_later : (v w : Variable) (bit : Bool) (later : Option Bool) (g : Given) → held g v ≡ known bit → AboveTri (or_unknown later) (held g w) → AboveTri (or_unknown (if same_variable v w then Some bit else later)) (held g w)
here_or_later v w bit later g is below = by (same_variable v w) refl
  where
    by : (b : Bool) → same_variable v w ≡ b → AboveTri (or_unknown (if b then Some bit else later)) (held g w)
    by true same = subst (AboveTri (known bit)) (sym (ap (held g) (sym (same_is v w same)) ∙ is)) (above_self (known bit))
    by false other = below

bits_held : (vs : List Variable) (bits : List Bool) (g : Given) (w : Variable) → HaveCells g (cells_given vs bits) → HavePorts g (ports_given vs bits) → AboveTri (or_unknown (bit_for vs bits w)) (held g w)
bits_held [] bits g w cells ports = tt
bits_held (v ∷ vs) [] g w cells ports = tt
bits_held (Cell c ∷ vs) (bit ∷ bits) g w cells ports = here_or_later (Cell c) w bit (bit_for vs bits w) g cells.0 (bits_held vs bits g w cells.1 ports)
bits_held (Port net ∷ vs) (bit ∷ bits) g w cells ports = here_or_later (Port net) w bit (bit_for vs bits w) g ports.0 (bits_held vs bits g w cells ports.1)

node_completes : (name : Text) (domain : ℕ) (vs : List Variable) (bits : List Bool) (g : Given) → CompletesCube (cube_at name domain vs bits) g → Completes (node_at vs bits) g
node_completes name domain vs bits g is = record {
  cells = λ c. bits_held vs bits g (Cell c) is.cells is.ports;
  ports = λ net. bits_held vs bits g (Port net) is.cells is.ports;
}

-- ---- by what is told

abbrev cube_or : Cube → Found → Cube
cube_or other (found.Cube cube) = cube
cube_or other found.NotTestable = other
cube_or other found.Aborted = other

-- a cube that is told is that of a found node
pub record IsOfNode (s : Search) (cone : Cone) (name : Text) (dead : ℕ) (cube : Cube) : Type 0 where
  pub bits : List Bool
  pub tree : Tree s cone [] dead (Some bits)
  pub is : cube ≡ cube_at name s.domain cone.variables bits
  pub completes : (g : Given) → CompletesCube cube g → Completes (node_at cone.variables bits) g

by_cube : (s : Search) (cone : Cone) (name : Text) (cube : Cube) (many : Bool) (dead : ℕ) (o : Option (List Bool)) → Tree s cone [] dead o →
    found.Cube cube ≡ (if many then found.Aborted else told name s.domain cone.variables o) → IsOfNode s cone name dead cube
by_cube s cone name cube true dead o tree is = absurd cc
by_cube s cone name cube false dead None tree is = absurd cc
by_cube s cone name cube false dead (Some bits) tree is =
    let same : cube ≡ cube_at name s.domain cone.variables bits = ap (cube_or cube) is in
    record { bits = bits; tree = tree; is = same; completes = λ g more. node_completes name s.domain cone.variables bits g (subst (λ (x : Cube). CompletesCube x g) same more) }

pub cube_node : (s : Search) (limit : ℕ) (name : Text) (cube : Cube) → (is : IsSought s limit name (found.Cube cube)) → IsOfNode s is.cone name is.dead cube
cube_node s limit name cube is = by_cube s is.cone name cube (nat_lt limit is.dead) is.dead is.found is.tree is.is

pub cube_true : CubeIsTrue
cube_true s rank limit name cube g can is more =
    let node = cube_node s limit name cube is in
    cubes_detect s rank is.cone [] node.bits is.dead g can is.is_cone node.tree (node.completes g more)

none_found : (many : Bool) (name : Text) (domain : ℕ) (vs : List Variable) (o : Option (List Bool)) → found.NotTestable ≡ (if many then found.Aborted else told name domain vs o) → o ≡ None
none_found true name domain vs o is = absurd cc
none_found false name domain vs None is = refl
none_found false name domain vs (Some bits) is = absurd cc

pub none_true : NoneIsTrue
none_true s rank limit name g can well is full detects =
    none_detects s rank is.cone is.dead g can well is.is_cone (subst (λ (o : Option (List Bool)). Tree s is.cone [] is.dead o) (none_found (nat_lt limit is.dead) name s.domain is.cone.variables is.found is.is) is.tree) full detects

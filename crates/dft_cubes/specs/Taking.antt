-- What a reader of cubes holds, and what it takes from a line.
use Rattle.std.specs.Prelude.{ℕ, suc, ◌≡◌, ◌≤◌, ◌<◌, ◌+◌, ◌==◌, Bool, List, [], ◌∷◌, ◌++◌, length, get_or, Option, None, Some, option_map}
use Rattle.std.specs.List.{list_any}
use Rattle.dft_base.specs.Lexing.{Text}
use Rattle.dft_base.specs.Name.{IsName}
use Rattle.dft_netlist.specs.declared.ids.NetId.{NetId}
use Rattle.dft_netlist.specs.declared.ids.InstanceId.{InstanceId}
use Rattle.dft_netlist.specs.Netlist.{Netlist}
use Rattle.dft_cubes.specs.declared.cube.Cube.{Cube}
use Rattle.dft_cubes.specs.declared.cube.Domains.{Domains}
use Rattle.dft_cubes.specs.declared.draft.Draft.{Draft}
use Rattle.dft_cubes.specs.declared.error.CubeError.{CubeError}
use Rattle.dft_cubes.specs.declared.here.Here.{Here}
use Rattle.dft_cubes.specs.declared.limits.TheConstants.{MAX_CUBES}
use Rattle.dft_cubes.specs.declared.said.Said.{Said}
use Rattle.dft_cubes.specs.declared.said.Said.TheVariants as said
use Rattle.dft_cubes.specs.declared.stamps.Stamps.{Stamps}
use Rattle.dft_cubes.specs.declared.taken.Taken.{Taken}
use Rattle.dft_cubes.specs.Cubes.{Line, Version, Begin, BeginTwo, SetCell, SetPort, End, Reading, names_of, said_refusal, with_said}

-- ---- the cube that has not ended

abbrev pub cube_of : Draft → Cube
cube_of draft = record { name = draft.name; domains = draft.domains; cells = draft.cells.items; ports = draft.ports.items }

abbrev pub bare : (name : Text) → Domains → Cube
bare name domains = record { name = name; domains = domains; cells = []; ports = [] }

-- ---- stamps

-- whether a cell, or a port, of this number is among those given
abbrev pub cell_in : List (InstanceId × Bool) → (number : ℕ) → Bool
cell_in given k = list_any (λ g. g.0.0 == k) given

abbrev pub port_in : List (NetId × Bool) → (number : ℕ) → Bool
port_in given k = list_any (λ g. g.0.0 == k) given

-- these bear the stamp of the pending cube, and no later one
abbrev pub AreStamped : (number : ℕ) → (stamps : List ℕ) → (has : ℕ → Bool) → Type 0
AreStamped number stamps has = (k : ℕ) → k < length stamps → (get_or stamps k 0 ≤ number) × ((get_or stamps k 0 == number) ≡ has k)

-- what bears the stamp is what the cube has given
pub record IsMarked (n : Netlist) (stamps : Stamps) (cube : Cube) : Type 0 where
  pub cells : length stamps.cells.items ≡ length n.instances
  pub ports : length stamps.ports.items ≡ length n.nets
  pub cells_given : AreStamped stamps.number stamps.cells.items (cell_in cube.cells)
  pub ports_given : AreStamped stamps.number stamps.ports.items (port_in cube.ports)

-- ---- all that is held

abbrev pub pending_of : Taken → Option Cube
pending_of taken = option_map cube_of taken.pending

abbrev pub reading_of : Taken → Reading
reading_of taken = record { version = taken.version; cubes = taken.cubes.items; pending = pending_of taken }

abbrev pub pending_names : Option Cube → List Text
pending_names None = []
pending_names (Some cube) = cube.name ∷ []

abbrev pub pending_count : Option Cube → ℕ
pending_count None = 0
pending_count (Some cube) = 1

-- without a pending cube nothing is given
abbrev pub or_bare : Option Cube → Cube
or_bare None = bare [] (record { first = 0; second = None })
or_bare (Some cube) = cube

pub record IsTaken (n : Netlist) (taken : Taken) : Type 0 where
  pub names : taken.names ≡ names_of taken.cubes.items ++ pending_names (pending_of taken)
  pub few : length taken.cubes.items + pending_count (pending_of taken) ≤ MAX_CUBES
  pub number : taken.stamps.number ≡ suc (length taken.cubes.items)
  pub marked : IsMarked n taken.stamps (or_bare (pending_of taken))

-- ---- a line

abbrev pub line_said : Said → Line
line_said (said.Version number) = Version number.now
line_said (said.Begin name clock) = Begin name.now clock.now
line_said (said.BeginTwo name clock second) = BeginTwo name.now clock.now second.now
line_said (said.Cell name bit) = SetCell name.now bit
line_said (said.Port name bit) = SetPort name.now bit
line_said said.End = End

-- its words are names
abbrev pub SaysNames : Line → Type 0
SaysNames (Version number) = IsName number
SaysNames (Begin name clock) = IsName name × IsName clock
SaysNames (BeginTwo name clock second) = IsName name × IsName clock × IsName second
SaysNames (SetCell name bit) = IsName name
SaysNames (SetPort name bit) = IsName name
SaysNames End = Unit {0}

-- the check that a line fails here
abbrev pub refusal_of : Here → Taken → Line → Option CubeError
refusal_of here taken line = said_refusal here.design.now here.config.now taken.version taken.cubes.items (pending_of taken) here.place (Some line)

-- a line passes here, and this is what is held behind it
pub record Passes (here : Here) (old : Taken) (line : Line) (new : Taken) : Type 0 where
  pub passed : refusal_of here old line ≡ None
  pub reading : reading_of new ≡ with_said here.design.now here.config.now old.version old.cubes.items (pending_of old) (Some line)
  pub taken : IsTaken here.design.now new

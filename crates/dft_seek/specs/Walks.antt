-- Where a stuck net can be seen, and which cells and ports that can hang on: by walks from net to net.
use Rattle.std.specs.Prelude.{ℕ, Bool, true, false, ◌&&◌, ◌==◌, ◌≡◌, List, [], ◌∷◌, ◌++◌, map, filter, Some, slice_get, if◌then◌else◌}
use Rattle.std.specs.List.{list_any}
use Rattle.dft_cells.specs.declared.kind.Role.TheVariants as role
use Rattle.dft_netlist.specs.Netlist.{Netlist}
use Rattle.dft_netlist.specs.Drivers.{Source, Driver, Connection, Gate, Joined, Flop, Free, driver, nets_of, pins_of}
use Rattle.dft_netlist.specs.Drivers as drivers
use Rattle.dft_netlist.specs.Connections.{pin_of}
use Rattle.dft_stitch.specs.Chains.{listed}
use Rattle.dft_seek.specs.Searches.{Search, Point, Output, Response, cells_in, drivable_ports, has_falling, points_of, takes_at}

-- ---- walks

abbrev pub is_among : (net : ℕ) → List ℕ → Bool
is_among net nets = list_any (λ one. one == net) nets

-- the nets at the data, reset and set pins of a flip-flop
abbrev pub taken_by_pins : (instance : ℕ) → List Connection → List Source
taken_by_pins i pins = listed (pin_of role.Din i pins) ++ (listed (pin_of role.Reset i pins) ++ listed (pin_of role.Preset i pins))

abbrev pub taken_nets : Netlist → (cell : ℕ) → List ℕ
taken_nets n c = nets_of (taken_by_pins c (pins_of n c))

-- A walk passes a rising scanned cell of the domain where the domain has a falling one, which moves after it.
abbrev pub is_passed : Search → (cell : ℕ) → Bool
is_passed s c = has_falling s && takes_at s false c

-- the nets from which a walk goes on to a net: those that its gate or join reads, or those at the pins of the cell that it shows
abbrev pub walked_from : Search → Driver → List ℕ
walked_from s drivers.Input = []
walked_from s (Gate kind inputs) = nets_of inputs
walked_from s (Joined source) = nets_of (source ∷ [])
walked_from s (Flop i inverted) = if is_passed s i then taken_nets s.design i else []
walked_from s (drivers.Lockup i) = []
walked_from s Free = []

-- a walk from one net to another one
pub data Walks (s : Search) : (from to : ℕ) → Type 0 where
  Here : {net : ℕ} → Walks s net net
  Onward : {from by to : ℕ} → Walks s from by → is_among by (walked_from s (driver s.design to)) ≡ true → Walks s from to

-- ---- what is reached

-- the nets that a walk to a point ends at: the output port's bit, or those at the pins of the cell
abbrev pub ends_of : Search → Point → List ℕ
ends_of s (Output net) = net ∷ []
ends_of s (Response cell) = taken_nets s.design cell

-- a walk leads from a net to a point
pub record LeadsTo (s : Search) (from : ℕ) (point : Point) : Type 0 where
  pub to : ℕ
  pub ends : is_among to (ends_of s point) ≡ true
  pub walk : Walks s from to

-- a point is reached where a walk leads to it from the stuck net
abbrev pub IsReached : Search → Point → Type 0
IsReached s point = LeadsTo s s.fault.net.0 point

-- ---- variables

-- what can have a bit: a scanned cell or a drivable port
pub data Variable : Type 0 where
  Cell : (cell : ℕ) → Variable
  Port : (net : ℕ) → Variable

-- the scanned cells by chain and place, and then the drivable ports in order
abbrev pub candidates : Search → List Variable
candidates s = map (λ cell. Cell cell.0) (cells_in s) ++ map (λ net. Port net.0) (drivable_ports s)

-- a driver is an output of this cell, maybe the inverted one
abbrev pub is_output_of : (cell : ℕ) → Driver → Bool
is_output_of c drivers.Input = false
is_output_of c (Gate kind inputs) = false
is_output_of c (Joined source) = false
is_output_of c (Flop i inverted) = i == c
is_output_of c (drivers.Lockup i) = false
is_output_of c Free = false

-- a net shows a variable
abbrev pub shows : Search → Variable → (net : ℕ) → Bool
shows s (Cell cell) net = is_output_of cell (driver s.design net)
shows s (Port port) net = net == port

-- It is a variable of the search where a walk leads from a net that shows it to a reached point.
pub record IsVariable (s : Search) (points : List Point) (v : Variable) : Type 0 where
  pub net : ℕ
  pub shown : shows s v net ≡ true
  pub place : ℕ
  pub point : Point
  pub reached : slice_get points place ≡ Some point
  pub leads : LeadsTo s net point

-- ---- the cone of a fault

-- the points that are reached, and the variables, in order
pub record Cone : Type 0 where
  pub points : List Point
  pub variables : List Variable

-- Of all points exactly those stand there that are reached,
pub record AreReached (s : Search) (points : List Point) : Type 0 where
  pub chosen : Point → Bool
  pub are : points ≡ filter chosen (points_of s)
  pub sound : (point : Point) → chosen point ≡ true → IsReached s point
  pub whole : (point : Point) → IsReached s point → chosen point ≡ true

-- and of all scanned cells and drivable ports exactly those from which a walk leads to one of these.
pub record AreVariables (s : Search) (points : List Point) (variables : List Variable) : Type 0 where
  pub chosen : Variable → Bool
  pub are : variables ≡ filter chosen (candidates s)
  pub sound : (v : Variable) → chosen v ≡ true → IsVariable s points v
  pub whole : (v : Variable) → IsVariable s points v → chosen v ≡ true

pub record IsCone (s : Search) (cone : Cone) : Type 0 where
  pub points : AreReached s cone.points
  pub variables : AreVariables s cone.points cone.variables

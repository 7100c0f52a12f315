-- What a module has said so far, and how its names grow (IEEE 1364).
use Rattle.std.specs.Prelude.{ℕ, ◌+◌, Bool, true, false, not, ◌&&◌, ◌==◌, nat_le, nat_lt, if◌then◌else◌, List, [], ◌∷◌, ◌++◌, length, find, Option, Some, None, option_map, option_and_then, is_some, slice_get, slice_set, Ok, Err}
use Rattle.std.specs.Str.{bytes_eq}
use Rattle.dft_base.specs.declared.place.Range.{Range}
use Rattle.dft_base.specs.Ranges.{width}
use Rattle.dft_base.specs.Lexing.{Text}
use Rattle.dft_base.specs.Parser.{Checked}
use Rattle.dft_cells.specs.declared.cell.Cell.{Cell}
use Rattle.dft_base.specs.declared.dir.Dir.{Dir}
use Rattle.dft_netlist.specs.declared.instance.Instance.{Instance}
use Rattle.dft_netlist.specs.declared.instance.Join.{Join}
use Rattle.dft_netlist_text.specs.declared.text.Cause.TheVariants as cause
use Rattle.dft_netlist.specs.declared.error.Counted.TheVariants as counted
use Rattle.dft_netlist.specs.declared.limits.TheConstants.{MAX_PORTS, MAX_NETS, MAX_INSTANCES}
use Rattle.dft_netlist.specs.Names.{bit_names}
use Rattle.dft_netlist_text.specs.declared.text.Fault.{Fault}
use Rattle.dft_netlist_text.specs.declared.text.Shape.{Shape}
use Rattle.dft_netlist_text.specs.declared.text.Meaning.{Meaning}
use Rattle.dft_netlist_text.specs.declared.text.Meaning.TheVariants as meaning
use Rattle.dft_netlist_text.specs.declared.text.Declared.{Declared}
use Rattle.dft_netlist_text.specs.Steps.{fault}

-- a port of the header: its name, and how it was declared, once it was
pub record HeaderPort : Type 0 where
  pub name : Text
  pub declared : Option Declared

-- a name that is taken, and what it stands for
pub record TakenName : Type 0 where
  pub name : Text
  pub meaning : Meaning

-- what a module has said so far; nets are numbered in the order in which they were first named
pub record Draft : Type 0 where
  pub name : Text
  pub library : List Cell
  -- every name that is taken
  pub names : List TakenName
  -- the ports in the order of the header
  pub ports : List HeaderPort
  -- the printed name of each net
  pub nets : List Text
  pub instances : List Instance
  pub joins : List Join

-- the module with this name that has said nothing yet
abbrev pub empty_draft : Text → List Cell → Draft
empty_draft name library = record { name = name; library = library; names = []; ports = []; nets = []; instances = []; joins = [] }

-- ---- names

-- what a name stands for, if it is taken
abbrev pub meaning_of : Draft → Text → Option Meaning
meaning_of d word = option_map (λ (e : TakenName). e.meaning) (find (λ e. bytes_eq e.name word) d.names)

-- whether a name is taken
abbrev pub is_taken : Draft → Text → Bool
is_taken d word = is_some (meaning_of d word)

-- a name is taken, and stands for this
abbrev pub with_name : Text → Meaning → Draft → Draft
with_name word meant d = record d { names = d.names ++ record { name = word; meaning = meant } ∷ [] }

-- ---- vectors

-- how many nets a name with this range has
abbrev pub net_count : Option Range → ℕ
net_count None = 1
net_count (Some r) = width r

-- the names of bits that come with a name of this range
abbrev pub names_of_bits : Text → Option Range → List Text
names_of_bits word None = []
names_of_bits word (Some r) = bit_names word (Some r)

-- ---- one name more

-- the first of these names that is taken
abbrev pub first_taken : Draft → List Text → Option Text
first_taken d words = find (is_taken d) words

-- the bits' names are free
abbrev pub free_bits : ℕ → Option Text → Checked Fault Draft → Checked Fault Draft
free_bits place (Some word) next = Err (fault (cause.Taken word) place)
free_bits place None next = next

-- there is room for so many nets
abbrev pub room_for_nets : ℕ → ℕ → Draft → Checked Fault Draft → Checked Fault Draft
room_for_nets place more d next = if nat_lt MAX_NETS (length d.nets + more) then Err (fault (cause.Full counted.Nets) place) else next

-- the printed names of bits are taken
abbrev pub with_bits : List Text → Draft → Draft
with_bits [] d = d
with_bits (word ∷ words) d = with_bits words (with_name word meaning.Bit d)

-- the nets of a name, which come behind those before
abbrev pub next_shape : Draft → Option Range → Shape
next_shape d range = record { range = range; first = record { 0 = length d.nets } }

-- the nets of a name of this range are there, and the names of their bits are taken
abbrev pub with_nets : Text → Option Range → Draft → Draft
with_nets word range d = with_bits (names_of_bits word range) (record d { nets = d.nets ++ bit_names word range })

-- A name that is free stands for new nets. The bits' names are tested from the left, and then the room for nets.
abbrev pub declare_nets : ℕ → Text → Option Range → Draft → Checked Fault Draft
declare_nets place word range d =
    if is_taken d word then Err (fault (cause.Taken word) place)
    else free_bits place (first_taken d (names_of_bits word range))
    (room_for_nets place (net_count range) d (Ok (with_nets word range (with_name word (meaning.Nets (next_shape d range)) d))))

-- ---- ports

-- how the port at this place of the header was declared
abbrev pub declared_at : Draft → ℕ → Option Declared
declared_at d place = option_and_then (λ (p : HeaderPort). p.declared) (slice_get d.ports place)

-- the place of this name in the header
abbrev pub port_place : Option Meaning → Option ℕ
port_place (Some (meaning.Port place)) = Some place
port_place _ = None

-- a name of the header is free, and there is room for a port
abbrev pub announce : ℕ → Text → Draft → Checked Fault Draft
announce place word d =
    if is_taken d word then Err (fault (cause.Taken word) place)
    else (if nat_le MAX_PORTS (length d.ports) then Err (fault (cause.Full counted.Ports) place)
    else Ok (with_name word (meaning.Port (length d.ports)) (record d { ports = d.ports ++ record { name = word; declared = None } ∷ [] })))

-- the port at a place is declared
abbrev pub with_declared : ℕ → Text → Declared → Draft → Draft
with_declared port word declared d = record d { ports = slice_set d.ports port (record { name = word; declared = Some declared }) }

-- the port of the header at this place gets a direction and a range
abbrev pub declare_at : ℕ → Text → Dir → Option Range → ℕ → Draft → Checked Fault Draft
declare_at place word dir range port d =
    free_bits place (first_taken d (names_of_bits word range))
    (room_for_nets place (net_count range) d
    (Ok (with_nets word range (with_declared port word (record { dir = dir; shape = next_shape d range; repeated = false }) d))))

-- A name of the header that was not declared before is declared; another name is no port.
abbrev pub declare_found : ℕ → Text → Dir → Option Range → Draft → Option ℕ → Checked Fault Draft
declare_found place word dir range d None = Err (fault cause.Token place)
declare_found place word dir range d (Some port) =
    if is_some (declared_at d port) then Err (fault (cause.Taken word) place) else declare_at place word dir range port d

-- a name of an `input` or `output` item
abbrev pub declare_port : ℕ → Text → Dir → Option Range → Draft → Checked Fault Draft
declare_port place word dir range d = declare_found place word dir range d (port_place (meaning_of d word))

-- In a header with directions a name is a port and is declared at once: its own name is tested, its bits' names, the room for ports and for nets.
abbrev pub declare_new_port : ℕ → Text → Dir → Option Range → Draft → Checked Fault Draft
declare_new_port place word dir range d =
    if is_taken d word then Err (fault (cause.Taken word) place)
    else free_bits place (first_taken d (names_of_bits word range))
    (if nat_le MAX_PORTS (length d.ports) then Err (fault (cause.Full counted.Ports) place)
    else room_for_nets place (net_count range) d
    (Ok (with_nets word range (with_name word (meaning.Port (length d.ports))
    (record d { ports = d.ports ++ record { name = word; declared = Some (record { dir = dir; shape = next_shape d range; repeated = false }) } ∷ [] })))))

-- ---- wires

-- whether two names have the same range, or both have none
abbrev pub same_range : Option Range → Option Range → Bool
same_range None None = true
same_range (Some a) (Some b) = (a.left == b.left) && (a.right == b.right)
same_range _ _ = false

-- a `wire` may repeat a port that was declared with the same range, once
abbrev pub repeat_port : ℕ → Text → Option Range → Draft → ℕ → Option Declared → Checked Fault Draft
repeat_port place word range d port None = Err (fault (cause.Taken word) place)
repeat_port place word range d port (Some declared) =
    if same_range declared.shape.range range && not declared.repeated then Ok (with_declared port word (record declared { repeated = true }) d)
    else Err (fault (cause.Taken word) place)

-- a name of the header is repeated; another name is declared
abbrev pub declare_wire_as : ℕ → Text → Option Range → Draft → Option ℕ → Checked Fault Draft
declare_wire_as place word range d None = declare_nets place word range d
declare_wire_as place word range d (Some port) = repeat_port place word range d port (declared_at d port)

-- a name of a `wire` item
abbrev pub declare_wire : ℕ → Text → Option Range → Draft → Checked Fault Draft
declare_wire place word range d = declare_wire_as place word range d (port_place (meaning_of d word))

-- ---- instances

-- there is room for an instance
abbrev pub room_for_instance : ℕ → Draft → Checked Fault Draft
room_for_instance place d = if nat_le MAX_INSTANCES (length d.instances) then Err (fault (cause.Full counted.Instances) place) else Ok d

-- an instance's name is free, and taken from here on; there is room for the instance
abbrev pub name_instance : ℕ → Text → Draft → Checked Fault Draft
name_instance place word d =
    if is_taken d word then Err (fault (cause.Taken word) place)
    else (if nat_le MAX_INSTANCES (length d.instances) then Err (fault (cause.Full counted.Instances) place) else Ok (with_name word meaning.Instance d))

-- one instance more
abbrev pub with_instance : Instance → Draft → Draft
with_instance instance d = record d { instances = d.instances ++ instance ∷ [] }

-- one join more
abbrev pub with_join : Join → Draft → Draft
with_join join d = record d { joins = d.joins ++ join ∷ [] }

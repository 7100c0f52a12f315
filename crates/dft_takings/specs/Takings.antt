-- The flip-flops that change in a pulse, as a list, and what they take.
use Rattle.std.specs.Prelude.{ℕ, suc, Bool, true, false, ◌&&◌, ◌≡◌, ◌<◌, ◌≤◌, ◌+◌, ◌-◌, ◌⊎◌, List, [], ◌∷◌, Option, None, Some, length, is_none, nat_lt, slice_index_or}
use Rattle.dft_base.specs.declared.tri.Tri.{Tri}
use Rattle.dft_base.specs.declared.tri.Tri.TheVariants.{Zero, One, Unknown}
use Rattle.dft_cells.specs.FlipFlops.{Forces}
use Rattle.dft_netlist.specs.Drivers.{Source, Net, Tied, Loose}
use Rattle.dft_behavior.specs.Logic.{Cell}
use Rattle.dft_abstract.specs.Cycle.{Pulse}
use Rattle.dft_takings.specs.Entries as entries
use Rattle.dft_registers.specs.Layout.{Layout, cells_at, cell_at}
use Rattle.dft_registers.specs.declared.moves.Move.{Move}
use Rattle.dft_registers.specs.declared.moves.Move.TheVariants.{Stays, Shifts, Copies, Trails}
use Rattle.dft_registers.specs.Cells.{value_at, move_at, Course, Rests, Enters, Follows, course_in, IfTakes, IsCarried}
use Rattle.dft_logic.specs.Circuit.{next_at}
use Rattle.dft_takings.specs.declared.entries.Entry.TheVariants.{Keeps}
use Rattle.dft_takings.specs.declared.takings.Taking.{Taking}
use Rattle.dft_takings.specs.EntryTables.{entry_of}

abbrev pub taking_at : List Taking → ℕ → Taking
taking_at takings j = slice_index_or takings j (record { place = 0; entry = Keeps })

-- one of the first so many is of this flip-flop
pub record IsAmong (takings : List Taking) (count c : ℕ) : Type 0 where
  pub at : ℕ
  pub before : at < count
  pub here : (taking_at takings at).place ≡ c

-- whether an input pin is joined to no net
abbrev pub is_loose_input : Source → Bool
is_loose_input (Net net) = false
is_loose_input (Tied bit) = false
is_loose_input (Loose i pin) = true

-- whether there is neither a reset nor a set
abbrev pub is_unforced : Forces ℕ → Bool
is_unforced forces = is_none forces.clear && is_none forces.preset

-- Whether a flip-flop takes Unknown in every pulse: its data input is joined to no net, and it has no scan pins, reset or set.
abbrev pub is_loose : Cell → Bool
is_loose cell = is_loose_input cell.takes.input && (is_none cell.takes.scan && is_unforced cell.forces)

abbrev pub is_unknown : Tri → Bool
is_unknown Zero = false
is_unknown One = false
is_unknown Unknown = true

-- whether a flip-flop with an entry has the same value after a pulse, if it is Unknown where it is loose
abbrev pub is_idle : Cell → entries.Entry → Bool
is_idle cell entries.Keeps = true
is_idle cell (entries.Takes value) = is_unknown value && is_loose cell
is_idle cell (entries.Follows other) = false
is_idle cell (entries.Reads net) = false
is_idle cell entries.Computes = false

-- ---- registers that move

-- each of these cells but the first takes the value of another one, from the first or the second of those on
abbrev pub TakeFrom : (table : ℕ → entries.Entry) → (cells others : List ℕ) → (start : ℕ) → Type 0
TakeFrom table cells others start = (i : ℕ) → suc i < length cells → table (slice_index_or cells (suc i) 0) ≡ entries.Follows (slice_index_or others (suc i - start) 0)

-- the cell whose value an entry tells
abbrev pub other_of : entries.Entry → Option ℕ
other_of entries.Keeps = None
other_of (entries.Takes value) = None
other_of (entries.Follows other) = Some other
other_of (entries.Reads net) = None
other_of entries.Computes = None

-- The cell whose value the second of these takes, if it takes one's. A register moves only where it has such a leader.
abbrev pub leader : (table : ℕ → entries.Entry) → List ℕ → Option ℕ
leader table [] = None
leader table (first ∷ []) = None
leader table (first ∷ second ∷ cells) = other_of (table second)

-- an entry is as a course tells
abbrev pub IsTold : entries.Entry → Course → Type 0
IsTold entry Rests = Unit {0}
IsTold entry Enters = Unit {0}
IsTold entry (Follows other) = entry ≡ entries.Follows other

-- each cell of a register but the first takes what the register's move carries to it
abbrev pub TakesAlong : (table : ℕ → entries.Entry) → (registers : List (List ℕ)) → (register : ℕ) → Move → Type 0
TakesAlong table registers r move = (i : ℕ) → suc i < length (cells_at registers r) → IsTold (table (cell_at registers r (suc i))) (course_in registers r move (suc i))

-- what a register takes from is long enough, and has no leader itself
abbrev pub TakesFromUnled : (table : ℕ → entries.Entry) → (registers : List (List ℕ)) → (register : ℕ) → Move → Type 0
TakesFromUnled table registers r move = IfTakes (λ other start. (leader table (cells_at registers other) ≡ None) × (length (cells_at registers r) ≤ start + length (cells_at registers other))) move

-- a register moves so
pub record IsMove (table : ℕ → entries.Entry) (registers : List (List ℕ)) (register : ℕ) (move : Move) : Type 0 where
  pub still : leader table (cells_at registers register) ≡ None → move ≡ Stays
  pub each : TakesAlong table registers register move
  pub sound : TakesFromUnled table registers register move

-- all registers do
abbrev pub AreMoves : (table : ℕ → entries.Entry) → Layout → (moves : List Move) → Type 0
AreMoves table l moves = (r : ℕ) → TakesAlong table l.registers r (move_at moves r)

-- ---- what is left out

-- where its register moves each cell is but the first, and else those that are idle
abbrev pub is_left : Move → (index : ℕ) → (idle : Bool) → Bool
is_left Stays index idle = idle
is_left Shifts index idle = nat_lt 0 index
is_left (Copies other) index idle = nat_lt 0 index
is_left (Trails other) index idle = nat_lt 0 index

-- what the list leaves out: an idle flip-flop that rests, and one that takes the value that its register's move carries to it
abbrev pub IsLeft : Cell → entries.Entry → Course → Type 0
IsLeft cell entry Rests = is_idle cell entry ≡ true
IsLeft cell entry Enters = ⊥
IsLeft cell entry (Follows other) = entry ≡ entries.Follows other

-- Each flip-flop of the list takes what the table tells, and all others are left out of it, as registers move.
pub record AreTakings (cell : ℕ → Cell) (table : ℕ → entries.Entry) (count : ℕ) (moved : ℕ → Course) (takings : List Taking) : Type 0 where
  pub few : length takings ≤ count
  pub live : (j : ℕ) → j < length takings → (taking_at takings j).place < count
  pub each : (j : ℕ) → j < length takings → table (taking_at takings j).place ≡ entry_of (taking_at takings j).entry
  pub all : (c : ℕ) → c < count → IsAmong takings (length takings) c ⊎ IsLeft (cell c) (table c) (moved c)

-- what a flip-flop of the list takes, from the values of a strobe
abbrev pub taken_by : (cell : ℕ → Cell) → Pulse → (values : ℕ → Tri) → Taking → Tri
taken_by cell p values t = entries.entry_value p.old values (next_at (cell t.place) p.ports values) t.place (entry_of t.entry)

-- The flip-flops of the first so many of the list have their values of the row, the others what the moves of registers carry to them.
pub record ArePut (takings : List Taking) (count : ℕ) (row : ℕ → Tri) (moved : ℕ → Course) (old new : List Tri) : Type 0 where
  pub each : (c : ℕ) → c < length old →
      ((at : ℕ) × (at < count × (((taking_at takings at).place ≡ c) × (value_at new c ≡ row at)))) ⊎ ((IsAmong takings count c → ⊥) × IsCarried (value_at old) c (value_at new c) (moved c))

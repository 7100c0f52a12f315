-- The values of cells, and what a shift of some registers makes of them.
use Rattle.std.specs.Prelude.{ℕ, zero, suc, Bool, ◌≡◌, ◌≢◌, ◌<◌, ◌≤◌, ◌==◌, ◌+◌, List, [], length, map, slice_index_or, take, drop, ◌-◌, ◌++◌, if◌then◌else◌}
use Rattle.std.specs.List.{zip}
use Rattle.dft_base.specs.declared.tri.Tri.{Tri}
use Rattle.dft_base.specs.declared.tri.Tri.TheVariants.{Unknown}
use Rattle.dft_registers.specs.Layout.{Layout, place_at, cells_at, cell_at, IsLaid}
use Rattle.dft_registers.specs.declared.layout.Place.{Place}
use Rattle.dft_registers.specs.declared.cells.Cells.TheInside.{Inside}
use Rattle.dft_registers.specs.declared.moves.Move.{Move}
use Rattle.dft_registers.specs.declared.moves.Move.TheVariants.{Stays, Shifts, Copies, Trails}

-- where cells lie, and the value of each
pub record Contents (V : Type 0) : Type 0 where
  pub layout : Layout
  pub values : List V

-- the value at a place of a list, and past its end one that nobody knows
abbrev pub value_or : {V : Type 0} → (unknown : V) → List V → ℕ → V
value_or unknown values place = slice_index_or values place unknown

abbrev pub value_at : List Tri → ℕ → Tri
value_at = value_or Unknown

-- ---- a shift

-- what a cell has after a shift: its own value, what comes in at the beginning of its register, or the value of another cell
pub data Course : Type 0 where
  Rests : Course
  Enters : Course
  Follows : (cell : ℕ) → Course

-- how a register moves; past the end it stays
abbrev pub move_at : List Move → ℕ → Move
move_at moves r = slice_index_or moves r Stays

-- how a register moves that may shift
abbrev pub shifts_if : Bool → Move
shifts_if up = if up then Shifts else Stays

-- by its place where the register moves on from these cells
abbrev pub course_from : (cells : List ℕ) → (index : ℕ) → Course
course_from cells zero = Enters
course_from cells (suc index) = Follows (slice_index_or cells index 0)

-- by its register, how that moves, and the place there
abbrev pub course_in : List (List ℕ) → (register : ℕ) → Move → (index : ℕ) → Course
course_in registers r Stays index = Rests
course_in registers r Shifts index = course_from (cells_at registers r) index
course_in registers r (Copies other) zero = Enters
course_in registers r (Copies other) (suc index) = Follows (cell_at registers other (suc index))
course_in registers r (Trails other) index = course_from (cells_at registers other) index

abbrev pub course : Layout → (moves : List Move) → ℕ → Course
course l moves c =
    let p = place_at l.places c in
    course_in l.registers p.register (move_at moves p.register) p.index

-- what is said of the register that another one takes from, from a place on
abbrev pub IfTakes : ((other start : ℕ) → Type 0) → Move → Type 0
IfTakes P Stays = Unit {0}
IfTakes P Shifts = Unit {0}
IfTakes P (Copies other) = P other 0
IfTakes P (Trails other) = P other 1

-- Registers of these sizes can move so, all at once: a register takes from one that stays, and that has a value for each place that is taken to.
abbrev pub AreSound : List Move → (size : ℕ → ℕ) → Type 0
AreSound moves size = (r : ℕ) → IfTakes (λ other start. (move_at moves other ≡ Stays) × (size r ≤ start + size other)) (move_at moves r)

-- registers that lie so can, and the first one, in which cells rest, stays
pub record CanMove (l : Layout) (moves : List Move) : Type 0 where
  pub rest : move_at moves 0 ≡ Stays
  pub sound : AreSound moves (λ r. length (cells_at l.registers r))

-- a shift says nothing of the value at the beginning of a register: it is written behind it
abbrev pub IsCarried : {V : Type 0} → (old : ℕ → V) → (cell : ℕ) → (new : V) → Course → Type 0
IsCarried old c new Rests = new ≡ old c
IsCarried old c new Enters = Unit {0}
IsCarried old c new (Follows other) = new ≡ old other

pub record IsShifted {V : Type 0} (unknown : V) (moves : List Move) (old new : Contents V) : Type 0 where
  pub layout : new.layout ≡ old.layout
  pub count : length new.values ≡ length old.values
  pub each : (c : ℕ) → c < length old.values → IsCarried (value_or unknown old.values) c (value_or unknown new.values c) (course old.layout moves c)

-- the first values of another register, from a place on
abbrev pub copied_row : {V : Type 0} → (start : ℕ) → List V → (source : List V) → List V
copied_row start row source = take start row ++ take (length row - start) source

-- ---- what is kept

-- the values of a register's cells, in their order
abbrev pub row_at : {V : Type 0} → List (List V) → ℕ → List V
row_at rows r = slice_index_or rows r []

-- a register can move by itself, where it takes from another one that is long enough
abbrev pub IsReady : {V : Type 0} → List (List V) → (register : ℕ) → Move → Type 0
IsReady rows r move = IfTakes (λ other start. (other ≢ r) × (length (row_at rows r) ≤ start + length (row_at rows other))) move

-- the values of a register as it moves; where it shifts, the last comes to the first place
abbrev pub moved_row : {V : Type 0} → List (List V) → Move → List V → List V
moved_row rows Stays row = row
moved_row rows Shifts row = drop (length row - 1) row ++ take (length row - 1) row
moved_row rows (Copies other) row = copied_row 0 row (row_at rows other)
moved_row rows (Trails other) row = copied_row 1 row (row_at rows other)

-- a cell that rests has its own value, another one that of its place
abbrev pub value_in : {V : Type 0} → List (List V) → (place : Place) → (own : V) → V
value_in rows p own = if p.register == 0 then own else value_or own (row_at rows p.register) p.index

abbrev pub values_in : {V : Type 0} → List (List V) → List Place → (resting : List V) → List V
values_in rows places resting = map (λ (c : Place × _). value_in rows c.0 c.1) (zip places resting)

abbrev pub contents_of : {V : Type 0} → Inside V → Contents V
contents_of d = record { layout = d.layout; values = values_in d.rows.items d.layout.places d.resting.items }

-- each cell has a value of its own, and a register has as many values as cells
pub record AreCells {V : Type 0} (d : Inside V) : Type 0 where
  pub laid : IsLaid d.layout
  pub resting : length d.resting.items ≡ length d.layout.places
  pub count : length d.rows.items ≡ length d.layout.registers
  pub rows : (r : ℕ) → length (row_at d.rows.items r) ≡ length (cells_at d.layout.registers r)

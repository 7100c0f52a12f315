-- Rows that are moved.
use Rattle.std.proofs.Common.{ℕ, zero, suc, Bool, true, false, List, [], ◌∷◌, ◌++◌, ◌≡◌, ◌<◌, ◌≤◌, ◌+◌, ◌-◌, ◌≢◌, inl, inr, ◌∙◌, refl, sym, ap, subst, take, drop, length, arith}
use Rattle.std.specs.Prelude.{map, slice_index_or}
use Rattle.std.proofs.lemmas.Bool.Decides.{eqb_tells, leb_tells}
use Rattle.std.proofs.lemmas.List.{get_or_past, get_or-take, get_or-append-add, length-drop, length-take}
use Rattle.dft_registers.specs.declared.moves.Move.{Move}
use Rattle.dft_registers.specs.declared.moves.Move.TheVariants.{Stays, Shifts, Copies, Trails}
use Rattle.dft_registers.specs.Layout.{Layout, cells_at}
use Rattle.dft_registers.specs.Cells.{value_or, row_at, move_at, shifts_if, IfTakes, IsReady, AreSound, CanMove, copied_row, moved_row}

-- ---- one row

-- each value but the first is that of the place before
pub shifted_read : {V : Type 0} (d : V) (row : List V) (i : ℕ) → suc i < length row → value_or d (drop (length row - 1) row ++ take (length row - 1) row) (suc i) ≡ value_or d row i
shifted_read d row i less =
    let n : ℕ = length row in
    let front : List _ = drop (n - 1) row in
    let size : length front ≡ 1 = omega (arith, length-drop (n - 1) row, less) in
    let at : length front + i ≡ suc i = omega (arith, size) in
    ap (λ (k : ℕ). value_or d (front ++ take (n - 1) row) k) (sym at) ∙ get_or-append-add front (take (n - 1) row) i d ∙ get_or-take (n - 1) row i d (omega (arith, less))

-- each value from a place on is that of the other register
pub copied_read : {V : Type 0} (d : V) (start : ℕ) (row source : List V) (i j : ℕ) → start + i ≡ j → j < length row → length row ≤ start + length source → value_or d (copied_row start row source) j ≡ value_or d source i
copied_read d start row source i j is less enough =
    let n : ℕ = length row - start in
    let front : List _ = take start row in
    let size : length front ≡ start = omega (arith, length-take start row, less, is) in
    let at : length front + i ≡ j = omega (arith, size, is) in
    ap (λ (k : ℕ). value_or d (front ++ take n source) k) (sym at) ∙ get_or-append-add front (take n source) i d ∙ get_or-take n source i d (omega (arith, less, is))

-- nothing is taken by a row without values
pub moved_empty : {V : Type 0} (rows : List (List V)) (m : Move) → moved_row rows m [] ≡ []
moved_empty rows Stays = refl
moved_empty rows Shifts = refl
moved_empty rows (Copies other) = refl
moved_empty rows (Trails other) = refl

-- ---- all rows

-- those before a number are moved
abbrev pub AreMoved : {V : Type 0} (moves : List Move) → (number : ℕ) → (old now : List (List V)) → Type 0
AreMoved moves n old now = (r : ℕ) → ((r < n → row_at now r ≡ moved_row old (move_at moves r) (row_at old r)) × (n ≤ r → row_at now r ≡ row_at old r))

-- one that stays is as it was
still : {V : Type 0} (moves : List Move) (n : ℕ) (old now : List (List V)) (s : ℕ) → AreMoved moves n old now → move_at moves s ≡ Stays → row_at now s ≡ row_at old s
still moves n old now s moved stays = elim (leb_tells n s) [
  | inl out ↦ (moved s).1 out.1
  | inr live ↦ (moved s).0 live.1 ∙ ap (λ (m : Move). moved_row old m (row_at old s)) stays
]

-- rows that are as long as their registers can move where those can
pub sound_rows : {V : Type 0} (l : Layout) (moves : List Move) (rows : List (List V)) → CanMove l moves → ((r : ℕ) → length (row_at rows r) ≡ length (cells_at l.registers r)) → AreSound moves (λ r. length (row_at rows r))
sound_rows l moves rows can sizes r = go (move_at moves r) (can.sound r) where
  go : (m : Move) → IfTakes (λ other start. (move_at moves other ≡ Stays) × (length (cells_at l.registers r) ≤ start + length (cells_at l.registers other))) m →
      IfTakes (λ other start. (move_at moves other ≡ Stays) × (length (row_at rows r) ≤ start + length (row_at rows other))) m
  go Stays is = tt
  go Shifts is = tt
  go (Copies s) is = (is.0, omega (arith, sizes r, sizes s, is.1))
  go (Trails s) is = (is.0, omega (arith, sizes r, sizes s, is.1))

-- registers of which some shift can move so
pub flagged : (flags : List Bool) (r : ℕ) → move_at (map shifts_if flags) r ≡ shifts_if (slice_index_or flags r false)
flagged [] r = refl
flagged (up ∷ flags) zero = refl
flagged (up ∷ flags) (suc r) = flagged flags r

pub sound_flags : (flags : List Bool) (size : ℕ → ℕ) → AreSound (map shifts_if flags) size
sound_flags flags size r = subst (IfTakes (λ other start. (move_at (map shifts_if flags) other ≡ Stays) × (size r ≤ start + size other))) (sym (flagged flags r)) (go (slice_index_or flags r false)) where
  go : (up : Bool) → IfTakes (λ other start. (move_at (map shifts_if flags) other ≡ Stays) × (size r ≤ start + size other)) (shifts_if up)
  go true = tt
  go false = tt

-- the next one can move by itself
pub ready : {V : Type 0} (moves : List Move) (n : ℕ) (old now : List (List V)) → AreSound moves (λ r. length (row_at old r)) → AreMoved moves n old now → IsReady now n (move_at moves n)
ready moves n old now sound moved = go (move_at moves n) refl (sound n) where
  apart : (s : ℕ) (m : Move) → move_at moves n ≡ m → (m ≡ Stays → ⊥) → move_at moves s ≡ Stays → s ≢ n
  apart s m at going stays = λ same. going (sym at ∙ ap (λ (k : ℕ). move_at moves k) (sym same) ∙ stays)

  own : length (row_at now n) ≡ length (row_at old n)
  own = ap (λ (x : List _). length x) ((moved n).1 (omega arith))

  other : (s : ℕ) → move_at moves s ≡ Stays → length (row_at now s) ≡ length (row_at old s)
  other s stays = ap (λ (x : List _). length x) (still moves n old now s moved stays)

  go : (m : Move) → move_at moves n ≡ m → IfTakes (λ other start. (move_at moves other ≡ Stays) × (length (row_at old n) ≤ start + length (row_at old other))) m → IsReady now n m
  go Stays at is = tt
  go Shifts at is = tt
  go (Copies s) at is = (apart s (Copies s) at (λ e. absurd cc) is.0, omega (arith, own, other s is.0, is.1))
  go (Trails s) at is = (apart s (Trails s) at (λ e. absurd cc) is.0, omega (arith, own, other s is.0, is.1))

pub moved_none : {V : Type 0} (moves : List Move) (old : List (List V)) → AreMoved moves 0 old old
moved_none moves old r = (λ h. absurd (omega arith), λ h. refl)

pub moved_more : {V : Type 0} (moves : List Move) (n : ℕ) (old now new : List (List V)) → AreSound moves (λ r. length (row_at old r)) → AreMoved moves n old now → ((r : ℕ) → r ≢ n → row_at new r ≡ row_at now r) →
    row_at new n ≡ moved_row now (move_at moves n) (row_at now n) → AreMoved moves (n + 1) old new
moved_more moves n old now new sound moved there here r = (
  λ h. elim (eqb_tells r n) [
    | inl e ↦ ap (λ (k : ℕ). row_at new k) e.1 ∙ here ∙ ap (λ (x : List _). moved_row now (move_at moves n) x) ((moved n).1 (omega arith)) ∙ same (move_at moves n) (sound n)
        ∙ ap (λ (k : ℕ). moved_row old (move_at moves k) (row_at old k)) (sym e.1)
    | inr e ↦ (let ne : r ≢ n = e.1 in there r ne ∙ (moved r).0 (omega (arith, h, ne)))
  ],
  λ h. there r (λ e. omega (arith, e, h)) ∙ (moved r).1 (omega (arith, h)),
) where
  same : (m : Move) → IfTakes (λ other start. (move_at moves other ≡ Stays) × (length (row_at old n) ≤ start + length (row_at old other))) m → moved_row now m (row_at old n) ≡ moved_row old m (row_at old n)
  same Stays is = refl
  same Shifts is = refl
  same (Copies s) is = ap (λ (x : List _). copied_row 0 (row_at old n) x) (still moves n old now s moved is.0)
  same (Trails s) is = ap (λ (x : List _). copied_row 1 (row_at old n) x) (still moves n old now s moved is.0)

pub moved_all : {V : Type 0} (moves : List Move) (n : ℕ) (old now : List (List V)) → length old ≤ n → length now ≡ length old → AreMoved moves n old now → (r : ℕ) → row_at now r ≡ moved_row old (move_at moves r) (row_at old r)
moved_all moves n old now past size moved r = elim (leb_tells n r) [
  | inl out ↦ (let none : row_at old r ≡ [] = get_or_past old r [] (omega (arith, past, out.1)) in
      (moved r).1 out.1 ∙ none ∙ sym (ap (λ (x : List _). moved_row old (move_at moves r) x) none ∙ moved_empty old (move_at moves r)))
  | inr live ↦ (moved r).0 live.1
]

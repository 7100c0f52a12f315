-- Values by place: read, written, shifted.
use Rattle.std.proofs.Common.{ℕ, zero, suc, Bool, true, false, List, [], ◌∷◌, ◌≡◌, ◌<◌, ◌≤◌, ◌+◌, ◌≢◌, inl, inr, ◌∙◌, refl, sym, ap, subst, length, slice_set, get_or-set_same, get_or-set_other, arith}
use Rattle.std.specs.Prelude.{replicate, if◌then◌else◌, ◌==◌}
use Rattle.std.proofs.lemmas.Bool.Decides.{eqb_tells}
use Rattle.std.proofs.lemmas.List.{length-set, ext_get_or, get_or_default, length-replicate}
use Rattle.dft_base.proofs.ListLemmas.{same_all}
use Rattle.dft_registers.specs.declared.layout.Place.{Place}
use Rattle.dft_registers.specs.Layout.{Layout, place_at, cells_at, cell_at, IsLaid}
use Rattle.dft_registers.specs.declared.cells.Cells.TheInside.{Inside}
use Rattle.dft_registers.specs.declared.moves.Move.{Move}
use Rattle.dft_registers.specs.declared.moves.Move.TheVariants.{Stays, Shifts, Copies, Trails}
use Rattle.dft_registers.specs.Cells.{Contents, contents_of, AreCells, value_or, row_at, value_in, values_in, move_at, moved_row, IfTakes, CanMove, course_in, course, IsCarried}
use Rattle.dft_registers.proofs.MoveLemmas.{shifted_read, copied_read}

-- ---- values are read

pub count_in : {V : Type 0} (rows : List (List V)) (places : List Place) (resting : List V) → length resting ≡ length places → length (values_in rows places resting) ≡ length places
count_in rows [] resting sized = refl
count_in rows (p ∷ places) [] sized = absurd cc
count_in rows (p ∷ places) (own ∷ resting) sized = ap suc (count_in rows places resting (omega (arith, sized)))

pub read_at : {V : Type 0} (d : V) (rows : List (List V)) (places : List Place) (resting : List V) (c : ℕ) → length resting ≡ length places → c < length places →
    value_or d (values_in rows places resting) c ≡ value_in rows (place_at places c) (value_or d resting c)
read_at d rows [] resting c sized less = absurd (omega (arith, less))
read_at d rows (p ∷ places) [] c sized less = absurd cc
read_at d rows (p ∷ places) (own ∷ resting) zero sized less = refl
read_at d rows (p ∷ places) (own ∷ resting) (suc c) sized less = read_at d rows places resting c (omega (arith, sized)) (omega (arith, less))

-- a cell that rests has its own value
pub in_rest : {V : Type 0} (rows : List (List V)) (p : Place) (own : V) → p.register ≡ 0 → value_in rows p own ≡ own
in_rest rows p own rests = ap (λ (r : ℕ). if r == 0 then own else value_or own (row_at rows r) p.index) rests

-- another one has that of its place
pub in_row : {V : Type 0} (rows : List (List V)) (p : Place) (own : V) → 0 < p.register → value_in rows p own ≡ value_or own (row_at rows p.register) p.index
in_row rows p own above = elim (eqb_tells p.register 0) [
  | inl e ↦ absurd (omega (arith, e.1, above))
  | inr e ↦ ap (λ (b : Bool). if b then own else value_or own (row_at rows p.register) p.index) e.0
]

-- a cell with a value has a place
pub placed : {V : Type 0} (d : Inside V) (k : Contents V) (cell : ℕ) → AreCells d → contents_of d ≡ k → cell < length k.values → cell < length d.layout.places
placed d k cell is same less =
    let inside : cell < length (contents_of d).values = subst (λ (x : Contents _). cell < length x.values) (sym same) less in
    omega (arith, count_in d.rows.items d.layout.places d.resting.items is.resting, inside)

-- ---- nothing is known at first

pub either_same : {V : Type 0} (b : Bool) (v : V) → (if b then v else v) ≡ v
either_same true v = refl
either_same false v = refl

pub none_known : {V : Type 0} (d : V) (rows : List (List V)) (places : List Place) (resting : List V) (count : ℕ) (size : ℕ → ℕ) → length places ≡ count → resting ≡ replicate count d → ((r : ℕ) → row_at rows r ≡ replicate (size r) d) →
    values_in rows places resting ≡ replicate count d
none_known d rows places resting count size sized none each =
    ap (λ (l : List _). values_in rows places l) none ∙
    (let own : List _ = replicate count d in
    let full : length own ≡ length places = length-replicate count d ∙ sym sized in
    ext_get_or d (values_in rows places own) own (count_in rows places own full ∙ sym full)
    (λ c less. (let live : c < length places = omega (arith, count_in rows places own full, less) in
    let p : Place = place_at places c in
    let here : value_or d own c ≡ d = same_all count c d in
    read_at d rows places own c full live ∙ ap (λ (t : _). value_in rows p t) here ∙ ap (λ (x : List _). if p.register == 0 then d else value_or d x p.index) (each p.register)
    ∙ ap (λ (t : _). if p.register == 0 then d else t) (same_all (size p.register) p.index d) ∙ either_same (p.register == 0) d ∙ sym here)))

-- ---- a value is written

-- a value that is there at one cell alone is written there
pub set_at : {V : Type 0} (d : V) (rows rs : List (List V)) (places : List Place) (own rest : List V) (cell : ℕ) (value : V) → length own ≡ length places → length rest ≡ length places → cell < length places →
    value_in rs (place_at places cell) (value_or d rest cell) ≡ value →
    ((c : ℕ) → c < length places → c ≢ cell → value_in rs (place_at places c) (value_or d rest c) ≡ value_in rows (place_at places c) (value_or d own c)) →
    values_in rs places rest ≡ slice_set (values_in rows places own) cell value
set_at d rows rs places own rest cell value sized full live here there =
    let values : List _ = values_in rows places own in
    let count : length values ≡ length places = count_in rows places own sized in
    ext_get_or d (values_in rs places rest) (slice_set values cell value) (count_in rs places rest full ∙ sym count ∙ sym (length-set values cell value))
    (λ c h. (let less : c < length places = omega (arith, count_in rs places rest full, h) in
    read_at d rs places rest c full less ∙ elim (eqb_tells c cell) [
      | inl e ↦ ap (λ (k : ℕ). value_in rs (place_at places k) (value_or d rest k)) e.1 ∙ here
          ∙ sym (ap (λ (k : ℕ). value_or d (slice_set values cell value) k) e.1 ∙ get_or-set_same values cell value d (omega (arith, count, live)))
      | inr e ↦ there c less e.1 ∙ sym (read_at d rows places own c sized less) ∙ sym (get_or-set_other values cell c value d e.1)
    ]))

-- one that rests
pub written_resting : {V : Type 0} (d : V) (rows : List (List V)) (places : List Place) (own : List V) (cell : ℕ) (value : V) → length own ≡ length places → cell < length places → (place_at places cell).register ≡ 0 →
    values_in rows places (slice_set own cell value) ≡ slice_set (values_in rows places own) cell value
written_resting d rows places own cell value sized live rests =
    set_at d rows rows places own (slice_set own cell value) cell value sized (length-set own cell value ∙ sized) live
    (in_rest rows (place_at places cell) (value_or d (slice_set own cell value) cell) rests ∙ get_or-set_same own cell value d (omega (arith, sized, live)))
    (λ c less ne. ap (λ (t : _). value_in rows (place_at places c) t) (get_or-set_other own cell c value d ne))

-- one of a register
pub written : {V : Type 0} (d : V) (l : Layout) (rows : List (List V)) (own : List V) (cell : ℕ) (value : V) (row : List V) → IsLaid l → length own ≡ length l.places → length rows ≡ length l.registers →
    ((r : ℕ) → length (row_at rows r) ≡ length (cells_at l.registers r)) → cell < length l.places → 0 < (place_at l.places cell).register → row ≡ row_at rows (place_at l.places cell).register →
    values_in (slice_set rows (place_at l.places cell).register (slice_set row (place_at l.places cell).index value)) l.places own ≡ slice_set (values_in rows l.places own) cell value
written d l rows own cell value row laid sized many sizes live above named =
    let r : ℕ = (place_at l.places cell).register in
    let i : ℕ = (place_at l.places cell).index in
    let new : List _ = slice_set row i value in
    let rs : List (List _) = slice_set rows r new in
    let less_r : r < length rows = (let was = laid.register cell live in omega (arith, many, was)) in
    let less_i : i < length row = (let was = laid.index cell live above in let e : length row ≡ length (cells_at l.registers r) = ap (λ (x : List _). length x) named ∙ sizes r in omega (arith, e, was)) in
    let here : row_at rs r ≡ new = get_or-set_same rows r new [] less_r in
    set_at d rows rs l.places own own cell value sized sized live
    (in_row rs (place_at l.places cell) (value_or d own cell) above ∙ ap (λ (x : List _). value_or (value_or d own cell) x i) here ∙ get_or-set_same row i value (value_or d own cell) less_i)
    (λ c less ne.
    (let q : Place = place_at l.places c in
    let o = value_or d own c in
    elim (eqb_tells q.register r) [
      | inl g ↦ (let up : 0 < q.register = subst (λ (k : ℕ). 0 < k) (sym g.1) above in
          let far : q.index ≢ i = λ s. ne (sym (laid.cell c less up) ∙ (λ t. cell_at l.registers (g.1 t) (s t)) ∙ laid.cell cell live above) in
          in_row rs q o up ∙ ap (λ (k : ℕ). value_or o (row_at rs k) q.index) g.1 ∙ ap (λ (x : List _). value_or o x q.index) here ∙ get_or-set_other row i q.index value o far
          ∙ ap (λ (x : List _). value_or o x q.index) named ∙ ap (λ (k : ℕ). value_or o (row_at rows k) q.index) (sym g.1) ∙ sym (in_row rows q o up))
      | inr g ↦ ap (λ (x : List _). if q.register == 0 then o else value_or o x q.index) (get_or-set_other rows r q.register new [] g.1)
    ]))

pub rows_kept : {V : Type 0} (rows : List (List V)) (r i : ℕ) (value : V) (row : List V) (k : ℕ) → r < length rows → row ≡ row_at rows r → length (row_at (slice_set rows r (slice_set row i value)) k) ≡ length (row_at rows k)
rows_kept rows r i value row k less named = elim (eqb_tells k r) [
  | inl e ↦ ap (λ (j : ℕ). length (row_at (slice_set rows r (slice_set row i value)) j)) e.1 ∙ ap (λ (x : List _). length x) (get_or-set_same rows r (slice_set row i value) [] less) ∙ length-set row i value
      ∙ ap (λ (x : List _). length x) named ∙ ap (λ (j : ℕ). length (row_at rows j)) (sym e.1)
  | inr e ↦ ap (λ (x : List _). length x) (get_or-set_other rows r k (slice_set row i value) [] e.1)
]

-- ---- values are carried

pub positive : (r : ℕ) → (r ≡ 0 → ⊥) → 0 < r
positive zero none = absurd (none refl)
positive (suc r) none = omega arith

-- what lies at a place of a register has the value there
from_place : {V : Type 0} (d o : V) (l : Layout) (rows : List (List V)) (own : List V) (s j : ℕ) → IsLaid l → length own ≡ length l.places → ((r : ℕ) → length (row_at rows r) ≡ length (cells_at l.registers r)) → j < length (cells_at l.registers s) →
    value_or o (row_at rows s) j ≡ value_or d (values_in rows l.places own) (cell_at l.registers s j)
from_place d o l rows own s j laid sized sizes less =
    let above : 0 < s = positive s (λ e. (let none : length (cells_at l.registers s) ≡ 0 = ap (λ (k : ℕ). length (cells_at l.registers k)) e ∙ ap (λ (x : List ℕ). length x) laid.first in omega (arith, none, less))) in
    let k : ℕ = cell_at l.registers s j in
    let q : Place = place_at l.places k in
    let found : q ≡ record { register = s; index = j } = laid.place s j above less in
    sym (read_at d rows l.places own k sized (laid.live s j above less) ∙ in_row rows q (value_or d own k) (subst (λ (x : Place). 0 < x.register) (sym found) above)
    ∙ ap (λ (x : Place). value_or (value_or d own k) (row_at rows x.register) x.index) found ∙ get_or_default (row_at rows s) j (value_or d own k) o (omega (arith, sizes s, less)))

-- a register that does not stay is not the first one
stays_first : (moves : List Move) (r : ℕ) (m : Move) → move_at moves 0 ≡ Stays → move_at moves r ≡ m → (m ≡ Stays → ⊥) → 0 < r
stays_first moves r m rest at going = positive r (λ e. going (sym at ∙ ap (λ (k : ℕ). move_at moves k) e ∙ rest))

pub carried : {V : Type 0} (d : V) (l : Layout) (rows new : List (List V)) (own : List V) (moves : List Move) (c : ℕ) → IsLaid l → length own ≡ length l.places → ((r : ℕ) → length (row_at rows r) ≡ length (cells_at l.registers r)) →
    CanMove l moves → ((r : ℕ) → row_at new r ≡ moved_row rows (move_at moves r) (row_at rows r)) → c < length l.places →
    IsCarried (value_or d (values_in rows l.places own)) c (value_or d (values_in new l.places own) c) (course l moves c)
carried d l rows new own moves c laid sized sizes can each live =
    go (move_at moves (place_at l.places c).register) (place_at l.places c).register (place_at l.places c).index refl refl refl where
      -- the value that a cell has which does not rest
      has : (m : Move) (r i : ℕ) → move_at moves (place_at l.places c).register ≡ m → (place_at l.places c).register ≡ r → (place_at l.places c).index ≡ i → (m ≡ Stays → ⊥) →
          (value_or d (values_in new l.places own) c ≡ value_or (value_or d own c) (moved_row rows m (row_at rows r)) i) × (i < length (cells_at l.registers r))
      has m r i up at place going =
          let p : Place = place_at l.places c in
          let higher : 0 < p.register = stays_first moves p.register m can.rest up going in (
            read_at d new l.places own c sized live ∙ in_row new p (value_or d own c) higher ∙ ap (λ (x : List _). value_or (value_or d own c) x p.index) (each p.register ∙ ap (λ (x : Move). moved_row rows x (row_at rows p.register)) up)
                ∙ (λ t. value_or (value_or d own c) (moved_row rows m (row_at rows (at t))) (place t)),
            subst (λ (k : ℕ). k < length (cells_at l.registers r)) place (subst (λ (k : ℕ). p.index < length (cells_at l.registers k)) at (laid.index c live higher)),
          )

      -- what a register of the same layout is asked for
      source : (m : Move) (r : ℕ) → move_at moves (place_at l.places c).register ≡ m → (place_at l.places c).register ≡ r →
          IfTakes (λ other start. (move_at moves other ≡ Stays) × (length (cells_at l.registers r) ≤ start + length (cells_at l.registers other))) m
      source m r up at =
          let R : ℕ → Move → Type 0 = λ k x. IfTakes (λ other start. (move_at moves other ≡ Stays) × (length (cells_at l.registers k) ≤ start + length (cells_at l.registers other))) x in
          subst (λ (k : ℕ). R k m) at (subst (R (place_at l.places c).register) up (can.sound (place_at l.places c).register))

      go : (m : Move) (r i : ℕ) → move_at moves (place_at l.places c).register ≡ m → (place_at l.places c).register ≡ r → (place_at l.places c).index ≡ i →
          IsCarried (value_or d (values_in rows l.places own)) c (value_or d (values_in new l.places own) c) (course_in l.registers r m i)
      go Stays r i up at place =
          let p : Place = place_at l.places c in
          read_at d new l.places own c sized live ∙ ap (λ (x : List _). if p.register == 0 then value_or d own c else value_or (value_or d own c) x p.index) (each p.register ∙ ap (λ (x : Move). moved_row rows x (row_at rows p.register)) up)
          ∙ sym (read_at d rows l.places own c sized live)
      go Shifts r zero up at place = tt
      go Shifts r (suc i) up at place =
          let own_value = has Shifts r (suc i) up at place (λ e. absurd cc) in
          own_value.0 ∙ shifted_read (value_or d own c) (row_at rows r) i (omega (arith, sizes r, own_value.1)) ∙ from_place d (value_or d own c) l rows own r i laid sized sizes (omega (arith, own_value.1))
      go (Copies s) r zero up at place = tt
      go (Copies s) r (suc i) up at place =
          let own_value = has (Copies s) r (suc i) up at place (λ e. absurd cc) in
          let enough = (source (Copies s) r up at).1 in
          own_value.0 ∙ copied_read (value_or d own c) 0 (row_at rows r) (row_at rows s) (suc i) (suc i) (omega arith) (omega (arith, sizes r, own_value.1)) (omega (arith, sizes r, sizes s, enough)) ∙ from_place d (value_or d own c) l rows own s (suc i) laid sized sizes (omega (arith, own_value.1, enough))
      go (Trails s) r zero up at place = tt
      go (Trails s) r (suc i) up at place =
          let own_value = has (Trails s) r (suc i) up at place (λ e. absurd cc) in
          let enough = (source (Trails s) r up at).1 in
          own_value.0 ∙ copied_read (value_or d own c) 1 (row_at rows r) (row_at rows s) i (suc i) (omega arith) (omega (arith, sizes r, own_value.1)) (omega (arith, sizes r, sizes s, enough)) ∙ from_place d (value_or d own c) l rows own s i laid sized sizes (omega (arith, own_value.1, enough))

-- What drives each net of the stated design.
use Rattle.std.proofs.Common.{◌≡◌, inl, inr, ℕ, zero, suc, ◌+◌, ◌*◌, ◌<◌, ◌≤◌, Bool, true, false, cond, eqb, List, [], ◌∷◌, ◌++◌, Option, Some, decimal, get_or, ◌==◌, slice_get, refl, sym, ap, ◌∙◌, subst, arith, zero-add}
use Rattle.std.specs.List.{range_with_len}
use Rattle.std.proofs.Math.Nat.{mod-lt}
use Rattle.std.proofs.lemmas.Bool.Decides.{nat_tests}
use Rattle.std.specs.Str.{bytes_eq}
use Rattle.dft_base.specs.Lexing.{Text}
use Rattle.dft_base.proofs.TextLemmas.{bytes_eq-self}
use Rattle.dft_base.proofs.ListLemmas.{get_left}
use Rattle.dft_cells.specs.declared.cell.Cell.{Cell}
use Rattle.dft_cells.specs.Standard.{standard_cells}
use Rattle.dft_cells.specs.WellFormed.{has_name}
use Rattle.dft_netlist.specs.declared.instance.Instance.{Instance}
use Rattle.dft_netlist.specs.Drivers.{Net, Driver, Input, Gate, Joined, Flop, Free, Driven, Shape, shape_of_cell, connections_from, inputs_of, driven_by_pins, driven_by, driven_by_instances, all_driven, driver_in, driver, nets_read}
use Rattle.dft_netlist.specs.NetDrivers.{IsSingle}
use Rattle.dft_netlist.specs.Orders.{Has, IsOrderable, Follows}
use Rattle.dft_netlist.proofs.DriverLaws.{listed_drives, times, one_if, times-cons}
use Rattle.dft_parts.proofs.Singles.{times_at-append}
use Rattle.dft_generate.specs.Words.{word_at}
use Rattle.dft_generate_laws.specs.Designs.{nets_of, number_in, q_of, d_of, first_of, second_of, gate_in, flop_in, instances_in, design}
use Rattle.dft_generate_laws.proofs.CellLines.{gate_known}
use Rattle.dft_generate_laws.proofs.Ties.{q-inner, d-inner, heads_differ, numbers_differ}
use Rattle.dft_generate_laws.proofs.Places.{q_there, d_there, behind_ports, same_number}

-- ---- the drivers of a cell

-- a gate's driver
abbrev pub gate_drives : List Text → (size : ℕ) → (words : List ℕ) → (cell : ℕ) → Driver
gate_drives all size words cell = Gate (gate_known (word_at words (cell * 3))).kind (Net (number_in all (q_of (first_of size words cell))) ∷ Net (number_in all (q_of (second_of size words cell))) ∷ [])

-- the nets that these cells drive, where the first instance has this number
abbrev pub cells_drive : List Text → (size : ℕ) → (words : List ℕ) → (i from count : ℕ) → List Driven
cells_drive all size words i from zero = []
cells_drive all size words i from (suc count) =
    (number_in all (d_of from), gate_drives all size words from) ∷ (number_in all (q_of from), Flop (suc i) false) ∷ cells_drive all size words (suc (suc i)) (from + 1) count

-- an instance with its shape
abbrev driven_with : Shape → (i : ℕ) → Instance → List Driven
driven_with s i x = driven_by_pins s.kind i (inputs_of i (connections_from 0 s.roles x.pins)) (connections_from 0 s.roles x.pins)

gate_driven : (all : List Text) (size : ℕ) (words : List ℕ) (i cell : ℕ) → driven_by standard_cells i (gate_in all size words cell) ≡ (number_in all (d_of cell), gate_drives all size words cell) ∷ []
gate_driven all size words i cell =
    let g = gate_known (word_at words (cell * 3)) in
    ap (λ (o : Option Cell). driven_with (shape_of_cell o) i (gate_in all size words cell)) g.there
    ∙ ap (λ (d : Driver). (number_in all (d_of cell), d) ∷ []) (g.acts i (Net (number_in all (q_of (first_of size words cell))) ∷ Net (number_in all (q_of (second_of size words cell))) ∷ []))

flop_driven : (all : List Text) (i cell : ℕ) → driven_by standard_cells i (flop_in all cell) ≡ (number_in all (q_of cell), Flop i false) ∷ []
flop_driven all i cell = refl

pub cells-driven : (all : List Text) (size : ℕ) (words : List ℕ) (count i from : ℕ) → driven_by_instances standard_cells i (instances_in all size words (range_with_len from count)) ≡ cells_drive all size words i from count
cells-driven all size words zero i from = refl
cells-driven all size words (suc count) i from =
    ap (λ (ds : List Driven). ds ++ (driven_by standard_cells (suc i) (flop_in all from) ++ driven_by_instances standard_cells (suc (suc i)) (instances_in all size words (range_with_len (from + 1) count)))) (gate_driven all size words i from)
    ∙ ap (λ (ds : List Driven). (number_in all (d_of from), gate_drives all size words from) ∷ (number_in all (q_of from), Flop (suc i) false) ∷ ds) (cells-driven all size words count (suc (suc i)) (from + 1))

-- all that is driven
abbrev pub listed : (size : ℕ) → (words : List ℕ) → List Driven
listed size words = (0, Input) ∷ (1, Input) ∷ (cells_drive (nets_of size words) size words 0 0 size ++ (2, Joined (Net (number_in (nets_of size words) (q_of 0)))) ∷ [])

pub all-listed : (size : ℕ) (words : List ℕ) → all_driven (design size words) ≡ listed size words
all-listed size words =
    ap (λ (ds : List Driven). (0, Input) ∷ (1, Input) ∷ (ds ++ (2, Joined (Net (number_in (nets_of size words) (q_of 0)))) ∷ [])) (cells-driven (nets_of size words) size words size 0 0)

-- ---- no net has two drivers

module _ (size : ℕ) (words : List ℕ) (few : size ≤ 20000) where
  abbrev all : List Text
  all = nets_of size words

  -- numbers of two words that differ
  apart : (v w : Text) → has_name all v ≡ true → has_name all w ≡ true → bytes_eq v w ≡ false → eqb (number_in all v) (number_in all w) ≡ false
  apart v w a b other = by (eqb (number_in all v) (number_in all w)) refl
    where
      by : (t : Bool) → eqb (number_in all v) (number_in all w) ≡ t → t ≡ false
      by true is =
          let e : number_in all v ≡ number_in all w = grind (arith, nat_tests) in
          absurd (let f : bytes_eq v v ≡ false = ap (bytes_eq v) (same_number all v w a b e) ∙ other in let g = bytes_eq-self v in let h : ⊥ = cc in h)
      by false is = refl

  -- a net of an earlier cell is not driven by these
  earlier_q : (k i from count : ℕ) → k < from → from + count ≤ size → times (cells_drive all size words i from count) (number_in all (q_of k)) ≡ 0
  earlier_q k i from zero lt last = refl
  earlier_q k i from (suc count) lt last =
      let rest = earlier_q k (suc (suc i)) (from + 1) count (omega (arith, lt)) (omega (arith, last)) in
      let ds : List Driven = cells_drive all size words (suc (suc i)) (from + 1) count in
      let a = apart (d_of from) (q_of k) (d_there size words from (omega (arith, last))) (q_there size words k (omega (arith, lt, last))) (heads_differ 100 113 (decimal from) (decimal k) (λ e. absurd (omega arith))) in
      let b = apart (q_of from) (q_of k) (q_there size words from (omega (arith, last))) (q_there size words k (omega (arith, lt, last))) (numbers_differ 113 from k (omega (arith, few, last)) (omega (arith, few, lt, last)) (λ e. absurd (omega (arith, e, lt)))) in
      omega (
        arith,
        times-cons (number_in all (d_of from), gate_drives all size words from) ((number_in all (q_of from), Flop (suc i) false) ∷ ds) (number_in all (q_of k)),
        times-cons (number_in all (q_of from), Flop (suc i) false) ds (number_in all (q_of k)),
        ap one_if a,
        ap one_if b,
        rest,
      )

  earlier_d : (k i from count : ℕ) → k < from → from + count ≤ size → times (cells_drive all size words i from count) (number_in all (d_of k)) ≡ 0
  earlier_d k i from zero lt last = refl
  earlier_d k i from (suc count) lt last =
      let rest = earlier_d k (suc (suc i)) (from + 1) count (omega (arith, lt)) (omega (arith, last)) in
      let ds : List Driven = cells_drive all size words (suc (suc i)) (from + 1) count in
      let a = apart (d_of from) (d_of k) (d_there size words from (omega (arith, last))) (d_there size words k (omega (arith, lt, last))) (numbers_differ 100 from k (omega (arith, few, last)) (omega (arith, few, lt, last)) (λ e. absurd (omega (arith, e, lt)))) in
      let b = apart (q_of from) (d_of k) (q_there size words from (omega (arith, last))) (d_there size words k (omega (arith, lt, last))) (heads_differ 113 100 (decimal from) (decimal k) (λ e. absurd (omega arith))) in
      omega (
        arith,
        times-cons (number_in all (d_of from), gate_drives all size words from) ((number_in all (q_of from), Flop (suc i) false) ∷ ds) (number_in all (d_of k)),
        times-cons (number_in all (q_of from), Flop (suc i) false) ds (number_in all (d_of k)),
        ap one_if a,
        ap one_if b,
        rest,
      )

  cell_by : (i from count net : ℕ) (s t : Bool) → eqb (number_in all (d_of from)) net ≡ s → eqb (number_in all (q_of from)) net ≡ t → from + suc count ≤ size
      → times (cells_drive all size words (suc (suc i)) (from + 1) count) net ≤ 1 → one_if s + (one_if t + times (cells_drive all size words (suc (suc i)) (from + 1) count) net) ≤ 1
  cell_by i from count net true true a b last ih =
      let d : number_in all (d_of from) ≡ net = grind (arith, nat_tests) in
      let q : number_in all (q_of from) ≡ net = grind (arith, nat_tests) in
      absurd (let s = same_number all (d_of from) (q_of from) (d_there size words from (omega (arith, last))) (q_there size words from (omega (arith, last))) (d ∙ sym q) in
      let h : 100 ≡ 113 = ap (λ (w : Text). get_or w 0 0) s in omega arith)
  cell_by i from count net true false a b last ih =
      let d : number_in all (d_of from) ≡ net = grind (arith, nat_tests) in
      let z = ap (times (cells_drive all size words (suc (suc i)) (from + 1) count)) (sym d) ∙ earlier_d from (suc (suc i)) (from + 1) count (omega arith) (omega (arith, last)) in
      omega (arith, z)
  cell_by i from count net false true a b last ih =
      let q : number_in all (q_of from) ≡ net = grind (arith, nat_tests) in
      let z = ap (times (cells_drive all size words (suc (suc i)) (from + 1) count)) (sym q) ∙ earlier_q from (suc (suc i)) (from + 1) count (omega arith) (omega (arith, last)) in
      omega (arith, z)
  cell_by i from count net false false a b last ih = omega (arith, ih)

  cells_once : (i from count net : ℕ) → from + count ≤ size → times (cells_drive all size words i from count) net ≤ 1
  cells_once i from zero net last = omega arith
  cells_once i from (suc count) net last =
      let ds : List Driven = cells_drive all size words (suc (suc i)) (from + 1) count in
      let h = cell_by i from count net (eqb (number_in all (d_of from)) net) (eqb (number_in all (q_of from)) net) refl refl last (cells_once (suc (suc i)) (from + 1) count net (omega (arith, last))) in
      omega (
        arith,
        h,
        times-cons (number_in all (d_of from), gate_drives all size words from) ((number_in all (q_of from), Flop (suc i) false) ∷ ds) net,
        times-cons (number_in all (q_of from), Flop (suc i) false) ds net,
      )

  -- cells drive no port's net
  cells_behind : (i from count net : ℕ) → net < 3 → from + count ≤ size → times (cells_drive all size words i from count) net ≡ 0
  cells_behind i from zero net low last = refl
  cells_behind i from (suc count) net low last =
      let ds : List Driven = cells_drive all size words (suc (suc i)) (from + 1) count in
      let a = behind_ports size words (d_of from) (d-inner from (omega (arith, few, last))) in
      let b = behind_ports size words (q_of from) (q-inner from (omega (arith, few, last))) in
      let s : eqb (number_in all (d_of from)) net ≡ false = grind (arith, nat_tests) in
      let t : eqb (number_in all (q_of from)) net ≡ false = grind (arith, nat_tests) in
      let rest = cells_behind (suc (suc i)) (from + 1) count net low (omega (arith, last)) in
      omega (
        arith,
        rest,
        ap one_if s,
        ap one_if t,
        times-cons (number_in all (d_of from), gate_drives all size words from) ((number_in all (q_of from), Flop (suc i) false) ∷ ds) net,
        times-cons (number_in all (q_of from), Flop (suc i) false) ds net,
      )

  sum_by : (net c : ℕ) → c ≤ 1 → (net < 3 → c ≡ 0) → one_if (eqb 0 net) + (one_if (eqb 1 net) + (c + (one_if (eqb 2 net) + 0))) ≤ 1
  sum_by zero c few none = let z = none (omega arith) in omega (arith, z)
  sum_by (suc zero) c few none = let z = none (omega arith) in omega (arith, z)
  sum_by (suc (suc zero)) c few none = let z = none (omega arith) in omega (arith, z)
  sum_by (suc (suc (suc net))) c few none =
      let a : eqb 0 (suc (suc (suc net))) ≡ false = grind (arith, nat_tests) in
      let b : eqb 1 (suc (suc (suc net))) ≡ false = grind (arith, nat_tests) in
      let e : eqb 2 (suc (suc (suc net))) ≡ false = grind (arith, nat_tests) in
      omega (arith, few, ap one_if a, ap one_if b, ap one_if e)

  listed_once : (net : ℕ) → times (listed size words) net ≤ 1
  listed_once net =
      let cells : List Driven = cells_drive all size words 0 0 size in
      let last : Driven = (2, Joined (Net (number_in all (q_of 0)))) in
      let h = sum_by net (times cells net) (cells_once 0 0 size net (omega arith)) (λ low. cells_behind 0 0 size net low (omega arith)) in
      omega (
        arith,
        h,
        times-cons (0, Input) ((1, Input) ∷ (cells ++ last ∷ [])) net,
        times-cons (1, Input) (cells ++ last ∷ []) net,
        times_at-append cells (last ∷ []) net,
        times-cons last [] net,
      )

  pub is_single : IsSingle (design size words)
  is_single net = subst (λ (ds : List Driven). times ds net ≤ 1) (sym (all-listed size words)) (listed_once net)

-- ---- the driver of a net

drives_at : (all : List Text) (size : ℕ) (words : List ℕ) (count i from k : ℕ) → k < count
    → (slice_get (cells_drive all size words i from count) (k + k) ≡ Some (number_in all (d_of (from + k)), gate_drives all size words (from + k)))
    × (slice_get (cells_drive all size words i from count) (suc (k + k)) ≡ Some (number_in all (q_of (from + k)), Flop (suc (i + (k + k))) false))
drives_at all size words zero i from k lt = absurd (omega (arith, lt))
drives_at all size words (suc count) i from zero lt =
    let e : from ≡ from + 0 = omega arith in
    let f : suc i ≡ suc (i + 0) = omega arith in
    (ap (λ (c : ℕ). Some (number_in all (d_of c), gate_drives all size words c)) e, ap (λ (c : ℕ). Some (number_in all (q_of c), Flop (suc i) false)) e ∙ ap (λ (j : ℕ). Some (number_in all (q_of (from + 0)), Flop j false)) f)
drives_at all size words (suc count) i from (suc k) lt =
    let h = drives_at all size words count (suc (suc i)) (from + 1) k (omega (arith, lt)) in
    let e : suc k + suc k ≡ suc (suc (k + k)) = omega arith in
    let f : from + 1 + k ≡ from + suc k = omega arith in
    let g : suc (suc (suc i) + (k + k)) ≡ suc (i + (suc k + suc k)) = omega arith in (
      ap (slice_get (cells_drive all size words i from (suc count))) e ∙ h.0 ∙ ap (λ (c : ℕ). Some (number_in all (d_of c), gate_drives all size words c)) f,
      ap (λ (m : ℕ). slice_get (cells_drive all size words i from (suc count)) (suc m)) e ∙ h.1 ∙ ap (λ (c : ℕ). Some (number_in all (q_of c), Flop (suc (suc (suc i) + (k + k))) false)) f
          ∙ ap (λ (j : ℕ). Some (number_in all (q_of (from + suc k)), Flop j false)) g,
    )

listed_driver : (size : ℕ) (words : List ℕ) (place : ℕ) (d : Driven) → size ≤ 20000 → slice_get (listed size words) place ≡ Some d → driver (design size words) d.0 ≡ d.1
listed_driver size words place d few at = listed_drives (design size words) place d (is_single size words few) (ap (λ (ds : List Driven). slice_get ds place) (all-listed size words) ∙ at)

-- a flip-flop drives its net
pub q_driver : (size : ℕ) (words : List ℕ) (k : ℕ) → size ≤ 20000 → k < size → driver (design size words) (number_in (nets_of size words) (q_of k)) ≡ Flop (suc (k + k)) false
q_driver size words k few lt =
    let h = (drives_at (nets_of size words) size words size 0 0 k lt).1
    ∙ ap (λ (c : ℕ). Some (number_in (nets_of size words) (q_of c), Flop (suc (0 + (k + k))) false)) (zero-add k)
    ∙ ap (λ (j : ℕ). Some (number_in (nets_of size words) (q_of k), Flop (suc j) false)) (zero-add (k + k)) in
    listed_driver size words (suc (suc (suc (k + k)))) (number_in (nets_of size words) (q_of k), Flop (suc (k + k)) false) few
    (get_left (cells_drive (nets_of size words) size words 0 0 size) ((2, Joined (Net (number_in (nets_of size words) (q_of 0)))) ∷ []) (suc (k + k)) (number_in (nets_of size words) (q_of k), Flop (suc (k + k)) false) h)

-- and a gate its own
pub d_driver : (size : ℕ) (words : List ℕ) (k : ℕ) → size ≤ 20000 → k < size → driver (design size words) (number_in (nets_of size words) (d_of k)) ≡ gate_drives (nets_of size words) size words k
d_driver size words k few lt =
    let h = (drives_at (nets_of size words) size words size 0 0 k lt).0 ∙ ap (λ (c : ℕ). Some (number_in (nets_of size words) (d_of c), gate_drives (nets_of size words) size words c)) (zero-add k) in
    listed_driver size words (suc (suc (k + k))) (number_in (nets_of size words) (d_of k), gate_drives (nets_of size words) size words k) few
    (get_left (cells_drive (nets_of size words) size words 0 0 size) ((2, Joined (Net (number_in (nets_of size words) (q_of 0)))) ∷ []) (k + k) (number_in (nets_of size words) (d_of k), gate_drives (nets_of size words) size words k) h)

-- ---- the nets have an order

-- this holds of what is listed, and of no driver
abbrev pub AllDrive : (P : Driver → Type 0) → List Driven → Type 0
AllDrive P [] = Unit {0}
AllDrive P (d ∷ ds) = P d.1 × AllDrive P ds

pub drive_in : (P : Driver → Type 0) (ds : List Driven) (net : ℕ) → P Free → AllDrive P ds → P (driver_in ds net)
drive_in P [] net free each = free
drive_in P (d ∷ ds) net free each = by (d.0 == net) (drive_in P ds net free each.1)
  where
    by : (t : Bool) → P (driver_in ds net) → P (cond t d.1 (driver_in ds net))
    by true h = each.0
    by false h = h

pub drive_append : (P : Driver → Type 0) (xs ys : List Driven) → AllDrive P xs → AllDrive P ys → AllDrive P (xs ++ ys)
drive_append P [] ys a b = b
drive_append P (x ∷ xs) ys a b = (a.0, drive_append P xs ys a.1 b)

q_orderable : (size : ℕ) (words : List ℕ) (k : ℕ) → size ≤ 20000 → k < size → IsOrderable (design size words) (number_in (nets_of size words) (q_of k))
q_orderable size words k few lt =
    Follows (λ read has. absurd (subst (λ (d : Driver). Has (nets_read (design size words) d) read) (q_driver size words k few lt) has))

-- each net that a driver reads can be ordered
abbrev ReadsOrdered : (size : ℕ) → (words : List ℕ) → Driver → Type 0
ReadsOrdered size words d = (read : ℕ) → Has (nets_read (design size words) d) read → IsOrderable (design size words) read

gate_ordered : (size : ℕ) (words : List ℕ) (cell : ℕ) → size ≤ 20000 → 0 < size → ReadsOrdered size words (gate_drives (nets_of size words) size words cell)
gate_ordered size words cell few some read (inl e) =
    subst (IsOrderable (design size words)) (sym e) (q_orderable size words (first_of size words cell) few (mod-lt (word_at words (cell * 3 + 1)) some))
gate_ordered size words cell few some read (inr (inl e)) =
    subst (IsOrderable (design size words)) (sym e) (q_orderable size words (second_of size words cell) few (mod-lt (word_at words (cell * 3 + 2)) some))
gate_ordered size words cell few some read (inr (inr h)) = absurd h

cells_ordered : (size : ℕ) (words : List ℕ) (i from count : ℕ) → size ≤ 20000 → 0 < size → AllDrive (ReadsOrdered size words) (cells_drive (nets_of size words) size words i from count)
cells_ordered size words i from zero few some = tt
cells_ordered size words i from (suc count) few some = (gate_ordered size words from few some, (λ read h. absurd h, cells_ordered size words (suc (suc i)) (from + 1) count few some))

join_ordered : (size : ℕ) (words : List ℕ) → size ≤ 20000 → 0 < size → ReadsOrdered size words (Joined (Net (number_in (nets_of size words) (q_of 0))))
join_ordered size words few some read (inl e) = subst (IsOrderable (design size words)) (sym e) (q_orderable size words 0 few some)
join_ordered size words few some read (inr h) = absurd h

pub are_orderable : (size : ℕ) (words : List ℕ) → size ≤ 20000 → 0 < size → (net : ℕ) → IsOrderable (design size words) net
are_orderable size words few some net =
    Follows (subst (λ (ds : List Driven). ReadsOrdered size words (driver_in ds net)) (sym (all-listed size words))
    (drive_in (ReadsOrdered size words) (listed size words) net (λ read h. absurd h) (
      λ read h. absurd h,
      (
        λ read h. absurd h,
        drive_append (ReadsOrdered size words) (cells_drive (nets_of size words) size words 0 0 size) ((2, Joined (Net (number_in (nets_of size words) (q_of 0)))) ∷ [])
            (cells_ordered size words 0 0 size few some) (join_ordered size words few some, tt),
      ),
    )))

-- The rows of a chain by those that are kept: words in the middle of a row, and bits that are moved down twice.
use Rattle.std.proofs.Common.{ℕ, Bool, false, ◌≡◌, ◌<◌, ◌≤◌, ◌+◌, ◌*◌, ◌-◌, ◌/◌, ◌%◌, ◌⊎◌, inl, inr, min, List, [], length, get_or, map, drop, refl, sym, ap, arith, ◌∙◌}
use Rattle.std.specs.Prelude.{◌==◌, slice_range}
use Rattle.std.specs.List.{range_with_len}
use Rattle.std.specs.Int.{bit_at as bit_of_word}
use Rattle.std.proofs.lemmas.Bool.{cases_lt}
use Rattle.std.proofs.lemmas.List.{get_or_past, get_or-take, get_or-drop, length-take, length-drop}
use Rattle.std.proofs.lemmas.List.FromFn.{get_or-map-range_with_len, length-map-range_with_len}
use Rattle.dft_base.specs.Packed.{packed_bit}
use Rattle.dft_base.specs.Solutions.{bit_at}
use Rattle.dft_lanes.proofs.RowLemmas.{packed_bit-past}
use Rattle.dft_config.specs.declared.config.RingConfig.{RingConfig}
use Rattle.dft_equations.specs.ChainRows.{row_by, rows_by, AreKept, AreMoved}
use Rattle.dft_equations.specs.LoadRows.{equation_row, AreRowsOf}
use Rattle.dft_equations.proofs.LoadLemmas.{moved_row}

-- ---- words in the middle of a row

length_range : (words : List ℕ) (first count : ℕ) → first + count ≤ length words → length (slice_range words first (first + count)) ≡ count
length_range words first count room =
    let dropped = length-drop first words in
    length-take (first + count - first) (drop first words) ∙ omega arith

pub range_length : (words : List ℕ) (row : List Bool) (columns first count : ℕ) → count ≡ (columns + 63) / 64 → length words ≡ (length row + 63) / 64 → columns + 64 * first ≤ length row → first + count ≤ length words
range_length words row columns first count is size room = omega arith

range_bit : (words : List ℕ) (first count column : ℕ) → column / 64 < count → packed_bit (slice_range words first (first + count)) column ≡ packed_bit words (column + 64 * first)
unfolding packed_bit
range_bit words first count column less =
    let word : get_or (slice_range words first (first + count)) (column / 64) 0 ≡ get_or words (first + column / 64) 0 =
    get_or-take (first + count - first) (drop first words) (column / 64) 0 (omega arith) ∙ get_or-drop first words (column / 64) 0 in
    let at : first + column / 64 ≡ (column + 64 * first) / 64 = omega arith in
    let bit : column % 64 ≡ (column + 64 * first) % 64 = omega arith in
    ap (λ (w : ℕ). bit_of_word w (column % 64) == 1) word ∙ (λ t. bit_of_word (get_or words (at t) 0) (bit t) == 1)

range_case : (words : List ℕ) (row : List Bool) (columns first count column : ℕ) → count ≡ (columns + 63) / 64 → first + count ≤ length words → ((k : ℕ) → packed_bit words k ≡ bit_at row k) → ((k : ℕ) → columns ≤ k → bit_at row k ≡ false) →
    (column < columns) ⊎ (columns ≤ column) → (column / 64 < count) ⊎ (count ≤ column / 64) → packed_bit (slice_range words first (first + count)) column ≡ bit_at (map (λ k. bit_at row (k + 64 * first)) (range_with_len 0 columns)) column
range_case words row columns first count column is room packed clear (inl less) within =
    range_bit words first count column (omega arith) ∙ packed (column + 64 * first)
    ∙ sym (get_or-map-range_with_len (λ k. bit_at row (k + 64 * first)) 0 columns column column false less (omega arith))
range_case words row columns first count column is room packed clear (inr past) (inl within) =
    let size = length-map-range_with_len (λ k. bit_at row (k + 64 * first)) 0 columns in
    range_bit words first count column within ∙ packed (column + 64 * first) ∙ clear (column + 64 * first) (omega arith)
    ∙ sym (get_or_past (map (λ k. bit_at row (k + 64 * first)) (range_with_len 0 columns)) column false (omega arith))
range_case words row columns first count column is room packed clear (inr past) (inr after) =
    let size = length-map-range_with_len (λ k. bit_at row (k + 64 * first)) 0 columns in
    let all = length_range words first count room in
    packed_bit-past (slice_range words first (first + count)) column (omega arith)
    ∙ sym (get_or_past (map (λ k. bit_at row (k + 64 * first)) (range_with_len 0 columns)) column false (omega arith))

-- the words from one on hold the bits that are moved down by as many words
pub range_packed : (words : List ℕ) (row : List Bool) (columns first count column : ℕ) → count ≡ (columns + 63) / 64 → first + count ≤ length words → ((k : ℕ) → packed_bit words k ≡ bit_at row k) → ((k : ℕ) → columns ≤ k → bit_at row k ≡ false) →
    packed_bit (slice_range words first (first + count)) column ≡ bit_at (map (λ k. bit_at row (k + 64 * first)) (range_with_len 0 columns)) column
range_packed words row columns first count column is room packed clear =
    range_case words row columns first count column is room packed clear (cases_lt column columns) (cases_lt (column / 64) count)

-- the row of a place
pub row_there : (columns channels : ℕ) (kept : List (List Bool)) (places place : ℕ) → place < places → get_or (rows_by columns channels kept places) place [] ≡ row_by columns channels kept place
row_there columns channels kept places place less = get_or-map-range_with_len (row_by columns channels kept) 0 places place place [] less (omega arith)

pub rows_count : (columns channels : ℕ) (kept : List (List Bool)) (places : ℕ) → length (rows_by columns channels kept places) ≡ places
rows_count columns channels kept places = length-map-range_with_len (row_by columns channels kept) 0 places

pub row_size : (columns channels : ℕ) (kept : List (List Bool)) (place : ℕ) → length (row_by columns channels kept place) ≡ columns
row_size columns channels kept place = length-map-range_with_len (λ column. bit_at (get_or kept (place % 64) []) (column + 64 * (channels * (place / 64)))) 0 columns

-- what is read of a kept row: its words from some place on
pub record IsWindow (columns channels : ℕ) (kept : List (List Bool)) (place first : ℕ) (row : List Bool) (words : List ℕ) : Type 0 where
  pub row_is : row ≡ get_or kept (place % 64) []
  pub first_is : first ≡ channels * (place / 64)
  pub size : length words ≡ (length row + 63) / 64
  pub packed : (k : ℕ) → packed_bit words k ≡ bit_at row k

pub window_fits : (columns channels : ℕ) (kept : List (List Bool)) (places place first : ℕ) (row : List Bool) (words : List ℕ) → AreKept columns channels kept places → place < places → IsWindow columns channels kept place first row words → first + (columns + 63) / 64 ≤ length words
window_fits columns channels kept places place first row words are less w =
    let long = ap length w.row_is in
    let room = are.room place less in
    let at = w.first_is in
    range_length words row columns first ((columns + 63) / 64) refl w.size (omega (arith, long, room, at))

pub window_size : (columns channels : ℕ) (kept : List (List Bool)) (places place first : ℕ) (row : List Bool) (words : List ℕ) → AreKept columns channels kept places → place < places → IsWindow columns channels kept place first row words →
    length (slice_range words first (first + (columns + 63) / 64)) ≡ (length (get_or (rows_by columns channels kept places) place []) + 63) / 64
window_size columns channels kept places place first row words are less w =
    length_range words first ((columns + 63) / 64) (window_fits columns channels kept places place first row words are less w)
    ∙ ap (λ n. (n + 63) / 64) (sym (ap length (row_there columns channels kept places place less) ∙ row_size columns channels kept place))

pub window_bits : (columns channels : ℕ) (kept : List (List Bool)) (places place first : ℕ) (row : List Bool) (words : List ℕ) → AreKept columns channels kept places → place < places → IsWindow columns channels kept place first row words → (column : ℕ) →
    packed_bit (slice_range words first (first + (columns + 63) / 64)) column ≡ bit_at (get_or (rows_by columns channels kept places) place []) column
window_bits columns channels kept places place first row words are less w column =
    range_packed words row columns first ((columns + 63) / 64) column refl (window_fits columns channels kept places place first row words are less w) w.packed
    (λ k past. ap (λ (r : List Bool). bit_at r k) w.row_is ∙ are.clear (place % 64) k past)
    ∙ ap (λ (f : ℕ → Bool). bit_at (map f (range_with_len 0 columns)) column) (λ t k. bit_at (w.row_is t) (k + 64 * w.first_is t))
    ∙ sym (ap (λ (r : List Bool). bit_at r column) (row_there columns channels kept places place less))

-- ---- what is kept of a first row

kept_case : (first : List Bool) (channels more count turn column : ℕ) (kept : List (List Bool)) → AreMoved first channels more count kept → length first ≤ column → (turn < count) ⊎ (count ≤ turn) → bit_at (get_or kept turn []) column ≡ false
kept_case first channels more count turn column kept are past (inl less) = are.bits turn less column ∙ get_or_past first (column + turn * channels) false (omega arith)
kept_case first channels more count turn column kept are past (inr after) =
    ap (λ (row : List Bool). bit_at row column) (get_or_past kept turn [] (omega (arith, are.count, after))) ∙ get_or_past [] column false (omega arith)

words_more : (channels a b : ℕ) → a ≤ b → channels * a ≤ channels * b
words_more channels a b less = grind (arith, less)

pub kept_of : (first : List Bool) (columns channels places : ℕ) (kept : List (List Bool)) → AreMoved first channels (channels * (places / 64)) (min places 64) kept → length first ≡ columns → AreKept columns channels kept places
kept_of first columns channels places kept are size = record {
  count = λ place less. omega (arith, are.count);
  room = λ place less. (let all = are.size (place % 64) (omega arith) in let more = words_more channels (place / 64) (places / 64) (omega arith) in omega arith);
  clear = λ turn column past. kept_case first channels (channels * (places / 64)) (min places 64) turn column kept are (omega arith) (cases_lt turn (min places 64));
}

-- ---- the rows that are meant

twice : (channels column turns turn : ℕ) → column + 64 * (channels * turns) + turn * channels ≡ column + (64 * turns + turn) * channels
twice channels column turns turn = grind arith

twice_moved : (channels column place : ℕ) → column + 64 * (channels * (place / 64)) + place % 64 * channels ≡ column + place * channels
twice_moved channels column place = twice channels column (place / 64) (place % 64) ∙ ap (λ k. column + k * channels) (omega arith)

bit_case : (first : List Bool) (columns channels place column : ℕ) (kept : List (List Bool)) → length first ≡ columns → ((k : ℕ) → bit_at (get_or kept (place % 64) []) k ≡ bit_at first (k + place % 64 * channels)) → (column < columns) ⊎ (columns ≤ column) →
    bit_at (row_by columns channels kept place) column ≡ bit_at first (column + place * channels)
bit_case first columns channels place column kept size bits (inl less) =
    get_or-map-range_with_len (λ k. bit_at (get_or kept (place % 64) []) (k + 64 * (channels * (place / 64)))) 0 columns column column false less (omega arith)
    ∙ bits (column + 64 * (channels * (place / 64))) ∙ ap (bit_at first) (twice_moved channels column place)
bit_case first columns channels place column kept size bits (inr past) =
    let all = row_size columns channels kept place in
    get_or_past (row_by columns channels kept place) column false (omega arith) ∙ sym (get_or_past first (column + place * channels) false (omega arith))

-- the rows by those that are kept are the load equations of a chain
pub rows_kept : (ring : RingConfig) (cycles : ℕ) (late : Bool) (chain columns places : ℕ) (first : List Bool) (kept : List (List Bool)) → 0 < ring.channels → places ≤ cycles → first ≡ equation_row ring cycles late chain 0 → length first ≡ columns →
    AreMoved first ring.channels (ring.channels * (places / 64)) (min places 64) kept → AreRowsOf ring cycles late chain places (rows_by columns ring.channels kept places)
rows_kept ring cycles late chain columns places first kept some fits is size are = record {
  count = rows_count columns ring.channels kept places;
  each = λ place less. row_there columns ring.channels kept places place less
      ∙ moved_row ring cycles late chain place first (row_by columns ring.channels kept place) some (omega arith) is (row_size columns ring.channels kept place ∙ sym size)
      (λ column. bit_case first columns ring.channels place column kept size (are.bits (place % 64) (omega arith)) (cases_lt column columns));
}

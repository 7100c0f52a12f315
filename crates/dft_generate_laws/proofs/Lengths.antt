-- The texts of generated jobs are short.
use Rattle.std.proofs.Common.{◌≡◌, ℕ, zero, suc, ◌+◌, ◌-◌, ◌*◌, ◌/◌, ◌%◌, ◌<◌, ◌≤◌, ◌^◌, Bool, true, false, cond, eqb, List, [], ◌∷◌, ◌++◌, length, flat_map, get_or, take, drop, codes, decimal, arith, length-append}
use Rattle.std.specs.List.{All, range_with_len}
use Rattle.std.proofs.Math.Nat.{mod-lt, mul-suc, div-lt_iff_lt-mul}
use Rattle.std.proofs.lemmas.Fmt.{length-decimal-le}
use Rattle.dft_base.specs.Lexing.{Text}
use Rattle.dft_generate.specs.Configurations.{configuration_text}
use Rattle.dft_generate.specs.Cubes.{bit_line, is_named, line_unless, new_bit_line, bit_lines, cube_line, words_in, cube_lines}
use Rattle.dft_generate.specs.Netlists.{kind_of, gate_line, flop_line, cell_lines, netlist_text}
use Rattle.dft_generate.specs.Words.{word_at, words_of}
use Rattle.dft_generate_laws.specs.Laws.{TextsAreShort}
use Rattle.dft_generate_laws.proofs.Seeds.{seeds_give_words}

-- a number of five digits
five : (n : ℕ) → n < 20000 → length (decimal n) ≤ 5
five n lt = length-decimal-le 5 n (omega arith) (omega (arith, lt)) (omega (arith, lt))

pub one : (n : ℕ) → n < 10 → length (decimal n) ≤ 1
one n lt = length-decimal-le 1 n (omega arith) (omega (arith, lt)) (omega (arith, lt))

-- ---- netlists

kind_short : (word : ℕ) → length (kind_of word) ≤ 5
kind_short word = by (eqb (word % 4) 0) (eqb (word % 4) 1) (eqb (word % 4) 2)
  where
    by : (a b c : Bool) → length (cond a (codes "NAND2") (cond b (codes "NOR2") (cond c (codes "XOR2") (codes "AND2")))) ≤ 5
    by true b c = omega arith
    by false true c = omega arith
    by false false true = omega arith
    by false false false = omega arith

gate_short : (size cell kind first second : ℕ) → 0 < size → size ≤ 20000 → cell < size → length (gate_line size cell kind first second) ≤ 51
unfolding gate_line
gate_short size cell kind first second some few lt =
    let a = mod-lt first some in
    let b = mod-lt second some in
    let third : Text = codes "), .Y(d" ++ (decimal cell ++ codes "));\n") in
    let later : Text = codes "), .B(q" ++ (decimal (second % size) ++ third) in
    omega (
      arith,
      kind_short kind,
      five cell (omega (arith, lt, few)),
      five (first % size) (omega (arith, a, few)),
      five (second % size) (omega (arith, b, few)),
      length-append (kind_of kind) (codes " g" ++ (decimal cell ++ (codes " (.A(q" ++ (decimal (first % size) ++ later)))),
      length-append (decimal cell) (codes " (.A(q" ++ (decimal (first % size) ++ later)),
      length-append (decimal (first % size)) later,
      length-append (decimal (second % size)) third,
      length-append (decimal cell) (codes "));\n"),
    )

flop_short : (cell : ℕ) → cell < 20000 → length (flop_line cell) ≤ 48
unfolding flop_line
flop_short cell lt =
    let a = mod-lt cell {m = 2} (omega arith) in
    let third : Text = codes "), .Q(q" ++ (decimal cell ++ codes "));\n") in
    let later : Text = codes "), .D(d" ++ (decimal cell ++ third) in
    omega (
      arith,
      five cell lt,
      one (cell % 2) (omega (arith, a)),
      length-append (decimal cell) (codes " (.CK(clk" ++ (decimal (cell % 2) ++ later)),
      length-append (decimal (cell % 2)) later,
      length-append (decimal cell) third,
      length-append (decimal cell) (codes "));\n"),
    )

cell_short : (size : ℕ) (words : List ℕ) (cell : ℕ) → 0 < size → size ≤ 20000 → cell < size → length (cell_lines size words cell) ≤ 100
unfolding cell_lines
cell_short size words cell some few lt =
    let gate : Text = gate_line size cell (word_at words (cell * 3)) (word_at words (cell * 3 + 1)) (word_at words (cell * 3 + 2)) in
    omega (arith, gate_short size cell (word_at words (cell * 3)) (word_at words (cell * 3 + 1)) (word_at words (cell * 3 + 2)) some few lt, flop_short cell (omega (arith, lt, few)), length-append gate (flop_line cell))

-- lines, each of so many bytes at most
lines_short : (f : ℕ → Text) (most last : ℕ) → ((k : ℕ) → k < last → length (f k) ≤ most) → (count from : ℕ) → from + count ≤ last → length (flat_map f (range_with_len from count)) ≤ most * count
lines_short f most last each zero from le = omega arith
lines_short f most last each (suc count) from le =
    let here = each from (omega (arith, le)) in
    let rest = lines_short f most last each count (from + 1) (omega (arith, le)) in
    let grown : most * suc count ≡ most * count + most = mul-suc most count in
    omega (arith, here, rest, grown, length-append (f from) (flat_map f (range_with_len (from + 1) count)))

netlist_short : (size : ℕ) (words : List ℕ) → 0 < size → size ≤ 20000 → length (netlist_text size words) ≤ 100 * size + 81
unfolding netlist_text
netlist_short size words some few =
    let cells : Text = flat_map (cell_lines size words) (range_with_len 0 size) in
    let h = lines_short (cell_lines size words) 100 size (λ k lt. cell_short size words k some few lt) size 0 (omega arith) in
    omega (arith, h, length-append cells (codes "assign y = q0;\nendmodule\n"))

-- ---- cubes

small_at : (xs : List ℕ) (k : ℕ) → All (λ w. w < 2 ^ 32) xs → get_or xs k 0 < 2 ^ 32
small_at [] k all = omega arith
small_at (x ∷ xs) zero all = all 0 0 (omega arith)
small_at (x ∷ xs) (suc k) all = small_at xs k (λ i d lt. all (suc i) d (omega (arith, lt)))

pub small_drop : (xs : List ℕ) (k : ℕ) → All (λ w. w < 2 ^ 32) xs → All (λ w. w < 2 ^ 32) (drop k xs)
small_drop xs zero all = all
small_drop [] (suc k) all = all
small_drop (x ∷ xs) (suc k) all = small_drop xs k (λ i d lt. all (suc i) d (omega (arith, lt)))

small_take : (xs : List ℕ) (k i : ℕ) → All (λ w. w < 2 ^ 32) xs → get_or (take k xs) i 0 < 2 ^ 32
small_take xs zero i all = omega arith
small_take [] (suc k) i all = omega arith
small_take (x ∷ xs) (suc k) zero all = all 0 0 (omega arith)
small_take (x ∷ xs) (suc k) (suc i) all = small_take xs k i (λ j d lt. all (suc j) d (omega (arith, lt)))

bit_short : (size : ℕ) (before : List ℕ) (word : ℕ) → 0 < size → size ≤ 20000 → word < 2 ^ 32 → length (new_bit_line size before word) ≤ 14
unfolding bit_line
bit_short size before word some few lt = by (is_named size before (word % size))
  where
    half : word / 2 ^ 31 < 2
    half = (div-lt_iff_lt-mul {k = 2 ^ 31} {x = word} {y = 2} (omega arith)).1 (omega (arith, lt))

    whole : length (bit_line size word) ≤ 14
    whole =
        let m = mod-lt word some in
        omega (
          arith,
          five (word % size) (omega (arith, m, few)),
          one (word / 2 ^ 31) (omega (arith, half)),
          length-append (decimal (word % size)) (codes " " ++ (decimal (word / 2 ^ 31) ++ codes "\n")),
          length-append (decimal (word / 2 ^ 31)) (codes "\n"),
        )

    by : (t : Bool) → length (line_unless t (bit_line size word)) ≤ 14
    by true = omega arith
    by false = whole

cube_short : (size : ℕ) (words : List ℕ) (cube : ℕ) → 0 < size → size ≤ 20000 → All (λ w. w < 2 ^ 32) words → cube < size / 4 → length (cube_lines size words cube) ≤ 80
unfolding cube_lines cube_line bit_lines
cube_short size words cube some few all lt =
    let ws : List ℕ = words_in size words cube in
    let at : (i : ℕ) → word_at ws i < 2 ^ 32 = λ i. small_take (drop (size * 3 + cube * 4) words) (size * 3 + cube * 4 + 4 - (size * 3 + cube * 4)) i (small_drop words (size * 3 + cube * 4) all) in
    let b0 : Text = new_bit_line size (take 0 ws) (word_at ws 0) in
    let b1 : Text = new_bit_line size (take 1 ws) (word_at ws 1) in
    let b2 : Text = new_bit_line size (take 2 ws) (word_at ws 2) in
    let b3 : Text = new_bit_line size (take 3 ws) (word_at ws 3) in
    let clock = mod-lt cube {m = 2} (omega arith) in
    let head : Text = codes "cube k" ++ (decimal cube ++ (codes " clk" ++ (decimal (cube % 2) ++ codes "\n"))) in
    omega (
      arith,
      five cube (omega (arith, lt, few)),
      one (cube % 2) (omega (arith, clock)),
      bit_short size (take 0 ws) (word_at ws 0) some few (at 0),
      bit_short size (take 1 ws) (word_at ws 1) some few (at 1),
      bit_short size (take 2 ws) (word_at ws 2) some few (at 2),
      bit_short size (take 3 ws) (word_at ws 3) some few (at 3),
      length-append head ((b0 ++ (b1 ++ (b2 ++ b3))) ++ codes "end\n"),
      length-append (decimal cube) (codes " clk" ++ (decimal (cube % 2) ++ codes "\n")),
      length-append (decimal (cube % 2)) (codes "\n"),
      length-append (b0 ++ (b1 ++ (b2 ++ b3))) (codes "end\n"),
      length-append b0 (b1 ++ (b2 ++ b3)),
      length-append b1 (b2 ++ b3),
      length-append b2 b3,
    )

-- ---- the texts

configuration_short : length configuration_text ≤ 1024
unfolding configuration_text
configuration_short = omega arith

pub texts_are_short : TextsAreShort
texts_are_short seed size is =
    let low = is.low in
    let some : 0 < size = omega (arith, low) in
    let words : List ℕ = words_of seed size in
    let are = seeds_give_words seed size in
    record {
      netlist = netlist_short size words some is.high;
      configuration = configuration_short;
      cubes = lines_short (cube_lines size words) 80 (size / 4) (λ k lt. cube_short size words k some is.high are.small lt) (size / 4) 0 (omega arith);
    }

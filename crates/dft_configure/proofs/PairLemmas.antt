-- Two different sets of variables that are not empty are independent: some bits give them any two sums.
use Rattle.std.proofs.Common.{◌≡◌, ◌≢◌, ℕ, zero, suc, ◌<◌, ◌==◌, Bool, true, false, ◌&&◌, List, [], ◌∷◌, length, refl, sym, ap, ◌∙◌, arith}
use Rattle.std.proofs.lemmas.Bool.Decides.{nat_tests}
use Rattle.dft_base.specs.Solutions.{Equation, Holds, Solves, bit_at, sum_over, xor}
use Rattle.dft_base.proofs.NumberLemmas.{same_number}
use Rattle.dft_base.proofs.SumLemmas.{and_false, sum_add, sum_one, sum_same, xor_false}
use Rattle.dft_base.proofs.BitLemmas.{xor_same}
use Rattle.dft_equations.specs.LoadRows.{AreWide, LoadRows, row_of}
use Rattle.dft_configure.specs.Good.{AreGood, HasVariable, OneIsLoaded, PairsAreLoaded, TwoAreLoaded, care_bit}

-- ---- tables of one bit, and of two

-- a table with one bit at a column
abbrev pub one_bit : (column : ℕ) → (bit : Bool) → ℕ → Bool
one_bit column bit = λ c. (c == column) && bit

not_equal : (c column : ℕ) → c ≢ column → (c == column) ≡ false
not_equal c column apart = grind (arith, nat_tests)

pub sum_of_one : (n : ℕ) (row : List Bool) (column : ℕ) (bit : Bool) → column < n → sum_over n row (one_bit column bit) ≡ (bit_at row column && bit)
sum_of_one n row column bit less =
    sum_one n column (λ c. bit_at row c && one_bit column bit c) less (λ c apart. ap (λ (b : Bool). bit_at row c && (b && bit)) (not_equal c column apart) ∙ and_false (bit_at row c))
    ∙ ap (λ (b : Bool). bit_at row column && (b && bit)) (same_number column)

and_over : (a b c : Bool) → (a && xor b c) ≡ xor (a && b) (a && c)
and_over true b c = refl
and_over false b c = refl

pub sum_of_both : (n : ℕ) (row : List Bool) (x y : ℕ → Bool) → sum_over n row (λ c. xor (x c) (y c)) ≡ xor (sum_over n row x) (sum_over n row y)
sum_of_both n row x y =
    sum_same n (λ c. bit_at row c && xor (x c) (y c)) (λ c. xor (bit_at row c && x c) (bit_at row c && y c)) (λ c less. and_over (bit_at row c) (x c) (y c))
    ∙ sum_add n (λ c. bit_at row c && x c) (λ c. bit_at row c && y c)

-- ---- two sets

-- some table gives two sets these sums
abbrev pub GivesBoth : (n : ℕ) (row other : List Bool) (bit second : Bool) → Type 0
GivesBoth n row other bit second = (x : ℕ → Bool) × ((sum_over n row x ≡ bit) × (sum_over n other x ≡ second))

cancels : (p b : Bool) → xor p (xor b p) ≡ b
cancels true true = refl
cancels true false = refl
cancels false true = refl
cancels false false = refl

-- one column is in the first set alone, and another is in the second
by_column : (n : ℕ) (row other : List Bool) (bit second : Bool) (c d : ℕ) → c < n → d < n → bit_at row c ≡ true → bit_at other c ≡ false → bit_at other d ≡ true → GivesBoth n row other bit second
by_column n row other bit second c d less within here apart there =
    let p = bit_at row d && second in
    let v = xor bit p in (
      λ k. xor (one_bit d second k) (one_bit c v k),
      (
        sum_of_both n row (one_bit d second) (one_bit c v) ∙ (λ i. xor (sum_of_one n row d second within i) (sum_of_one n row c v less i)) ∙ ap (λ (b : Bool). xor p (b && v)) here ∙ cancels p bit,
        sum_of_both n other (one_bit d second) (one_bit c v) ∙ (λ i. xor (sum_of_one n other d second within i) (sum_of_one n other c v less i)) ∙ (λ i. xor (there i && second) (apart i && v)) ∙ xor_false second,
      ),
    )

turned : (n : ℕ) (row other : List Bool) (bit second : Bool) → GivesBoth n other row second bit → GivesBoth n row other bit second
turned n row other bit second both = (both.0, (both.1.1, both.1.0))

by_bits : (n : ℕ) (row other : List Bool) (bit second : Bool) (c : ℕ) (a b : Bool) → c < n → bit_at row c ≡ a → bit_at other c ≡ b → xor a b ≡ true → HasVariable n row → HasVariable n other → GivesBoth n row other bit second
by_bits n row other bit second c true true less here there apart one two = absurd cc
by_bits n row other bit second c true false less here there apart one two = by_column n row other bit second c two.0 less two.1.0 here there two.1.1
by_bits n row other bit second c false true less here there apart one two = turned n row other bit second (by_column n other row second bit c one.0 less one.1.0 there here one.1.1)
by_bits n row other bit second c false false less here there apart one two = absurd cc

-- ---- a column in one set alone

abbrev pub DiffersAt : List Bool → List Bool → Type 0
DiffersAt row other = (c : ℕ) × ((c < length row) × (xor (bit_at row c) (bit_at other c) ≡ true))

differ_step : (b x y : Bool) (row other : List Bool) → xor x y ≡ b → (x ∷ row ≡ y ∷ other → ⊥) → ((row ≡ other → ⊥) → DiffersAt row other) → DiffersAt (x ∷ row) (y ∷ other)
differ_step true x y row other is apart rest = (zero, (omega arith, is))
differ_step false x y row other is apart rest =
    let later = rest (λ same. apart (λ i. xor_same x y is i ∷ same i)) in
    let less : suc later.0 < length (x ∷ row) = omega (arith, later.1.0) in
    (suc later.0, (less, later.1.1))

pub differ_at : (row other : List Bool) → length row ≡ length other → (row ≡ other → ⊥) → DiffersAt row other
differ_at [] [] lengths apart = absurd (apart refl)
differ_at [] (y ∷ other) lengths apart = absurd (omega arith)
differ_at (x ∷ row) [] lengths apart = absurd (omega arith)
differ_at (x ∷ row) (y ∷ other) lengths apart = differ_step (xor x y) x y row other refl apart (λ rest. differ_at row other (omega arith) rest)

-- ---- one care bit, and two

one_solved : (n : ℕ) (e : Equation) (x : ℕ → Bool) → Holds n x e → Solves n x (e ∷ [])
one_solved n e x holds zero less = holds
one_solved n e x holds (suc j) less = absurd (omega arith)

two_solved : (n : ℕ) (e f : Equation) (x : ℕ → Bool) → Holds n x e → Holds n x f → Solves n x (e ∷ f ∷ [])
two_solved n e f x first second zero less = first
two_solved n e f x first second (suc zero) less = second
two_solved n e f x first second (suc (suc j)) less = absurd (omega arith)

one_loaded : (rows : LoadRows) → AreGood rows → OneIsLoaded rows
one_loaded rows good chain place bit cell =
    let at = good.some chain place cell in (
      one_bit at.0 bit,
      one_solved rows.columns (care_bit rows chain place bit) (one_bit at.0 bit)
          (sum_of_one rows.columns (row_of rows chain place) at.0 bit at.1.0 ∙ ap (λ (b : Bool). b && bit) at.1.1),
    )

two_loaded : (rows : LoadRows) → AreWide rows.columns rows.chains → AreGood rows → TwoAreLoaded rows
two_loaded rows wide good chain place other spot bit second cell too apart =
    let width : length (row_of rows chain place) ≡ rows.columns = wide chain place cell.0 cell.1 in
    let same : length (row_of rows other spot) ≡ rows.columns = wide other spot too.0 too.1 in
    let at = differ_at (row_of rows chain place) (row_of rows other spot) (width ∙ sym same) (λ e. apart (good.differ chain place other spot cell too e)) in
    let less : at.0 < rows.columns = omega (arith, width, at.1.0) in
    let both = by_bits rows.columns (row_of rows chain place) (row_of rows other spot) bit second at.0 (bit_at (row_of rows chain place) at.0) (bit_at (row_of rows other spot) at.0) less refl refl at.1.1
    (good.some chain place cell) (good.some other spot too) in
    (both.0, two_solved rows.columns (care_bit rows chain place bit) (care_bit rows other spot second) both.0 both.1.0 both.1.1)

pub pairs_loaded : PairsAreLoaded
pairs_loaded rows wide good = (one_loaded rows good, two_loaded rows wide good)

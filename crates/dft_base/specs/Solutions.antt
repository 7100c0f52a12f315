-- Systems of equations over GF(2): what solves one, the certificate of one without solution, and the bits that a fill chooses (linear algebra).
use Rattle.std.specs.Prelude.{ℕ, zero, suc, Bool, true, false, not, ◌&&◌, if◌then◌else◌, ◌≡◌, ◌<◌, ◌⊎◌, List, [], ◌∷◌, ◌++◌, length, get_or}

-- the sum of two bits
abbrev pub xor : Bool → Bool → Bool
xor true b = not b
xor false b = b

-- the sum of the first n bits
abbrev pub sum_to : ℕ → (ℕ → Bool) → Bool
sum_to zero f = false
sum_to (suc n) f = xor (f n) (sum_to n f)

-- the bit of a list at a place, and 0 past its end
abbrev pub bit_at : List Bool → ℕ → Bool
bit_at bits k = get_or bits k false

-- An equation: for each column whether it is in the set, the bit that the set's columns are to sum to, and the id that names it.
pub record Equation : Type 0 where
  pub row : List Bool
  pub bit : Bool
  pub id : ℕ

-- the equation at a place of a list
abbrev pub equation_at : List Equation → ℕ → Equation
equation_at es j = get_or es j (record { row = []; bit = false; id = 0 })

-- the sum of a table's bits over a set of the first n columns
abbrev pub sum_over : ℕ → List Bool → (ℕ → Bool) → Bool
sum_over n row x = sum_to n (λ c. bit_at row c && x c)

-- the table gives the equation's set the sum that is its bit
abbrev pub Holds : ℕ → (ℕ → Bool) → Equation → Type 0
Holds n x e = sum_over n e.row x ≡ e.bit

-- the table gives each equation's set the sum that is its bit
abbrev pub Solves : ℕ → (ℕ → Bool) → List Equation → Type 0
Solves n x es = (j : ℕ) → j < length es → Holds n x (equation_at es j)

-- some table solves the equations
abbrev pub IsSolvable : ℕ → List Equation → Type 0
IsSolvable n es = (x : ℕ → Bool) × Solves n x es

-- whether the column is in an odd number of the picked sets
abbrev pub odd_at : (ℕ → Bool) → List Equation → ℕ → Bool
odd_at picks es c = sum_to (length es) (λ j. picks j && bit_at (equation_at es j).row c)

-- the sum of the picked bits
abbrev pub odd_bits : (ℕ → Bool) → List Equation → Bool
odd_bits picks es = sum_to (length es) (λ j. picks j && (equation_at es j).bit)

-- the set is the sum of the picked sets
abbrev pub IsSumOf : ℕ → (ℕ → Bool) → List Equation → List Bool → Type 0
IsSumOf n picks es row = (c : ℕ) → c < n → bit_at row c ≡ odd_at picks es c

-- the set is a sum of some of the equations' sets
abbrev pub IsSum : ℕ → List Equation → List Bool → Type 0
IsSum n es row = (picks : ℕ → Bool) × IsSumOf n picks es row

-- every solution of the equations gives the set this sum
abbrev pub AllGive : ℕ → List Equation → List Bool → Bool → Type 0
AllGive n es row bit = (x : ℕ → Bool) → Solves n x es → sum_over n row x ≡ bit

-- no solution of the equations gives the set this sum
abbrev pub NoneGives : ℕ → List Equation → List Bool → Bool → Type 0
NoneGives n es row bit = (x : ℕ → Bool) → Solves n x es → sum_over n row x ≡ bit → ⊥

-- a certificate: the picked sets hold each column an even number of times, and the picked bits sum to 1
pub record IsCertificate (n : ℕ) (es : List Equation) (picks : ℕ → Bool) : Type 0 where
  pub even : (c : ℕ) → c < n → odd_at picks es c ≡ false
  pub odd : odd_bits picks es ≡ true

-- the ids of the picked equations among the first m, in their order
abbrev pub ids_to : ℕ → (ℕ → Bool) → List Equation → List ℕ
ids_to zero picks es = []
ids_to (suc m) picks es = ids_to m picks es ++ (if picks m then (equation_at es m).id ∷ [] else [])

-- the ids name a certificate of the equations, in their order
abbrev pub Certifies : ℕ → List Equation → List ℕ → Type 0
Certifies n es ids = (picks : ℕ → Bool) × (IsCertificate n es picks × (ids ≡ ids_to (length es) picks es))

-- no solution of the kept equations has the bit of this one; the ids name the kept ones whose sets sum to its set, and then it
pub record Contradicts (n : ℕ) (kept : List Equation) (e : Equation) (ids : List ℕ) : Type 0 where
  pub picks : ℕ → Bool
  pub sums : IsSumOf n picks kept e.row
  pub none : NoneGives n kept e.row e.bit
  pub named : ids ≡ ids_to (length kept) picks kept ++ e.id ∷ []

-- After these kept equations, one is kept where its set is no sum of kept sets, and the first other one whose bit no solution
-- of the kept ones has states the certificate.
abbrev pub StatesFrom : ℕ → List Equation → List Equation → List ℕ → Type 0
StatesFrom n kept [] ids = ⊥
StatesFrom n kept (e ∷ es) ids =
    ((IsSum n kept e.row → ⊥) × StatesFrom n (kept ++ e ∷ []) es ids)
    ⊎ ((IsSum n kept e.row × IsSolvable n (kept ++ e ∷ []) × StatesFrom n kept es ids) ⊎ Contradicts n kept e ids)

-- the stated certificate of a list without solution
abbrev pub StatesCertificate : ℕ → List Equation → List ℕ → Type 0
StatesCertificate n es ids = StatesFrom n [] es ids

-- some solution agrees with the bits before the column, and has this bit there
abbrev pub CanTake : ℕ → List Equation → List Bool → ℕ → Bool → Type 0
CanTake n es bits c bit = (x : ℕ → Bool) × (Solves n x es × ((d : ℕ) → d < c → x d ≡ bit_at bits d) × (x c ≡ bit))

-- In column order each bit is its fill bit where some solution agrees with all earlier bits and this one, and else the other bit.
pub record IsChosen (n : ℕ) (es : List Equation) (fill bits : List Bool) : Type 0 where
  pub size : length bits ≡ n
  pub met : (c : ℕ) → c < n → CanTake n es bits c (bit_at fill c) → bit_at bits c ≡ bit_at fill c
  pub turned : (c : ℕ) → c < n → (CanTake n es bits c (bit_at fill c) → ⊥) → bit_at bits c ≡ not (bit_at fill c)

-- The sum of rows, packed into words.
use Rattle.std.proofs.Common.{ℕ, zero, suc, ◌+◌, ◌<◌, ◌≤◌, ◌≡◌, Bool, true, false, List, [], length, replicate, Option, None, Some, is_none, is_some, unwrap_or, refl, sym, ap, subst, arith, ◌∙◌, ◌⊎◌, inl, inr}
use Rattle.std.specs.Prelude.{◌&&◌, not, MatchOption}
use Rattle.std.specs.List.{list_all, range_with_len}
use Rattle.std.proofs.lemmas.Bool.{cases_lt}
use Rattle.std.proofs.lemmas.List.{length-replicate}
use Rattle.dft_base.specs.Packed.{packed_bit}
use Rattle.dft_base.specs.Solutions.{bit_at, xor}
use Rattle.dft_base.proofs.SumLemmas.{xor_false, and_false, plus_false}
use Rattle.dft_lanes.specs.Rows.{bits_of, words_for, IsPacked}
use Rattle.dft_lanes.proofs.RowLemmas.{bits-at}
use Rattle.dft_gf2.proofs.BitsLemmas.{zero_at}
use Rattle.dft_netlist.specs.Netlist.{Netlist}
use Rattle.dft_merge.specs.Rows.{CellRows}
use Rattle.dft_report.specs.declared.report.SumLine.{SumLine}
use Rattle.dft_certify.specs.Certifying.{has_column, is_certificate, odd_in}

pub zeros_packed : (columns : ℕ) (words : List ℕ) → words ≡ replicate (words_for columns) 0 → IsPacked columns words
zeros_packed columns words is = record {
  size = ap length is ∙ length-replicate (words_for columns) 0;
  clear = λ column past. ap (λ (ws : List ℕ). packed_bit ws column) is ∙ zero_at (words_for columns) column;
}

pub zeros_at : (columns : ℕ) (words : List ℕ) (column : ℕ) → words ≡ replicate (words_for columns) 0 → packed_bit words column ≡ false
zeros_at columns words column is = ap (λ (ws : List ℕ). packed_bit ws column) is ∙ zero_at (words_for columns) column

-- a row is added
pub row_added : (columns : ℕ) (old new words : List ℕ) (row : Option (List Bool)) (column : ℕ) → IsPacked columns words → row ≡ Some (bits_of columns words) → packed_bit new column ≡ xor (packed_bit old column) (packed_bit words column) →
    packed_bit new column ≡ xor (packed_bit old column) (bit_at (unwrap_or row []) column)
row_added columns old new words row column packed is bits =
    bits ∙ ap (xor (packed_bit old column)) (sym (bits-at words columns column packed.clear) ∙ ap (λ (r : Option (List Bool)). bit_at (unwrap_or r []) column) (sym is))

pub added_packed : (columns : ℕ) (old new words : List ℕ) → IsPacked columns old → IsPacked columns words → length new ≡ length old → ((column : ℕ) → packed_bit new column ≡ xor (packed_bit old column) (packed_bit words column)) → IsPacked columns new
added_packed columns old new words one other size bits = record {
  size = size ∙ one.size;
  clear = λ column past. bits column ∙ (λ i. xor (one.clear column past i) (other.clear column past i));
}

-- no row is added
pub none_added : (words : List ℕ) (row : Option (List Bool)) (column : ℕ) → row ≡ None → packed_bit words column ≡ xor (packed_bit words column) (bit_at (unwrap_or row []) column)
none_added words row column none = plus_false (packed_bit words column) ∙ ap (λ (r : Option (List Bool)). xor (packed_bit words column) (bit_at (unwrap_or r []) column)) (sym none)

-- ---- all columns

all_off : (test : ℕ → Bool) (from count : ℕ) → ((c : ℕ) → test c ≡ false) → list_all (λ c. not (test c)) (range_with_len from count) ≡ true
all_off test from zero off = refl
all_off test from (suc count) off = ap (λ (t : Bool). not t && list_all (λ c. not (test c)) (range_with_len (from + 1) count)) (off from) ∙ all_off test (from + 1) count off

one_on : (test : ℕ → Bool) (from count c : ℕ) → test c ≡ true → (from ≡ c) ⊎ (from < c) → c < from + count → list_all (λ k. not (test k)) (range_with_len from count) ≡ false
one_on test from zero c on low high = absurd (past low)
  where
    past : (from ≡ c) ⊎ (from < c) → ⊥
    past (inl same) = omega (arith, same, high)
    past (inr less) = omega (arith, less, high)
one_on test from (suc count) c on (inl same) high = ap (λ (t : Bool). not t && list_all (λ k. not (test k)) (range_with_len (from + 1) count)) (ap test same ∙ on)
one_on test from (suc count) c on (inr less) high =
    ap (λ (t : Bool). not (test from) && t) (one_on test (from + 1) count c on (next (from + 1) c (omega (arith, less))) (omega (arith, high))) ∙ and_false (not (test from))
  where
    next : (a b : ℕ) → a ≤ b → (a ≡ b) ⊎ (a < b)
    next a b le = elim (cases_lt a b) [
      | inl less ↦ inr less
      | inr past ↦ inl (omega (arith, past, le))
    ]

least : (c : ℕ) → (zero ≡ c) ⊎ (zero < c)
least zero = inl refl
least (suc c) = inr (omega arith)

-- no column is on exactly where the words have no greatest bit
pub none_on : (columns : ℕ) (words : List ℕ) (test : ℕ → Bool) (top : Option ℕ) → IsPacked columns words → ((c : ℕ) → packed_bit words c ≡ test c) →
    MatchOption top ((place : ℕ) → packed_bit words place ≡ false) (λ t. (packed_bit words t ≡ true) × ((place : ℕ) → t < place → packed_bit words place ≡ false)) → is_none top ≡ list_all (λ c. not (test c)) (range_with_len 0 columns)
none_on columns words test None packed same off = sym (all_off test 0 columns (λ c. sym (same c) ∙ off c))
none_on columns words test (Some t) packed same on = elim (cases_lt t columns) [
  | inl less ↦ sym (one_on test 0 columns t (sym (same t) ∙ on.0) (least t) (omega (arith, less)))
  | inr past ↦ absurd (let f : true ≡ false = sym on.0 ∙ packed.clear t (omega (arith, past)) in cc)
]

-- ---- certificates

none_is : (o : Option ℕ) (none : Bool) → is_some o ≡ not none → none ≡ is_none o
none_is None true e = refl
none_is None false e = absurd (let f : false ≡ true = e in cc)
none_is (Some x) true e = absurd (let f : true ≡ false = e in cc)
none_is (Some x) false e = refl

-- where no lines are left the sums are those of all
all_summed : (test : SumLine → Bool) (rest lines : List SumLine) (now : Bool) → rest ≡ [] → xor now (odd_in test rest) ≡ odd_in test lines → now ≡ odd_in test lines
all_summed test rest lines now none sum = sym (xor_false now) ∙ ap (λ (ls : List SumLine). xor now (odd_in test ls)) (sym none) ∙ sum

pub odd_certified : (n : Netlist) (row : CellRows) (columns : ℕ) (rest lines : List SumLine) (words read : List ℕ) (odd : Bool) (top : Option ℕ) (none : Bool) → (left : rest ≡ []) → (packed : IsPacked columns words) →
    (bits : xor odd (odd_in (λ line. line.bit) rest) ≡ odd_in (λ line. line.bit) lines) → (sums : ((c : ℕ) → xor (packed_bit words c) (odd_in (has_column n row c) rest) ≡ odd_in (has_column n row c) lines)) → (is : odd ≡ true) → (same : read ≡ words) →
    (highest : MatchOption top ((place : ℕ) → packed_bit read place ≡ false) (λ t. (packed_bit read t ≡ true) × ((place : ℕ) → t < place → packed_bit read place ≡ false))) → (told : is_some top ≡ not none) → none ≡ is_certificate n row columns lines
odd_certified n row columns rest lines words read odd top none left packed bits sums is same highest told =
    let found = subst (λ (ws : List ℕ). MatchOption top ((place : ℕ) → packed_bit ws place ≡ false) (λ t. (packed_bit ws t ≡ true) × ((place : ℕ) → t < place → packed_bit ws place ≡ false))) same highest in
    let even = none_on columns words (λ c. odd_in (has_column n row c) lines) top packed (λ c. all_summed (has_column n row c) rest lines (packed_bit words c) left (sums c)) found in
    none_is top none told ∙ even
    ∙ ap (λ (b : Bool). b && list_all (λ c. not (odd_in (has_column n row c) lines)) (range_with_len 0 columns)) (sym is ∙ all_summed (λ line. line.bit) rest lines odd left bits)

pub even_uncertified : (n : Netlist) (row : CellRows) (columns : ℕ) (rest lines : List SumLine) (odd : Bool) → rest ≡ [] → xor odd (odd_in (λ line. line.bit) rest) ≡ odd_in (λ line. line.bit) lines → odd ≡ false → odd ≡ is_certificate n row columns lines
even_uncertified n row columns rest lines odd left bits is =
    is ∙ ap (λ (b : Bool). b && list_all (λ c. not (odd_in (has_column n row c) lines)) (range_with_len 0 columns)) (sym is ∙ all_summed (λ line. line.bit) rest lines odd left bits)

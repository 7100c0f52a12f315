-- The variables of a row, column by column.
use Rattle.std.proofs.Common.{◌≡◌, ℕ, zero, suc, ◌+◌, ◌-◌, ◌<◌, ◌≤◌, Bool, List, [], ◌∷◌, ◌++◌, map, Option, None, Some, refl, sym, ap, ◌∙◌, append_assoc, append-nil, arith}
use Rattle.std.specs.Option.{option_to_list}
use Rattle.std.specs.List.{cons_option, filter_map, enumerate_from, range_with_len}
use Rattle.dft_base.specs.Packed.{packed_bit}
use Rattle.dft_lanes.specs.Rows.{bits_of}
use Rattle.dft_config.specs.declared.config.RingConfig.{RingConfig}
use Rattle.dft_report.specs.declared.report.Variable.{Variable}
use Rattle.dft_cube_reports.specs.Outcomes.{variable_of, variables_of}

-- the variables of so many columns from one on
abbrev pub listed_in : RingConfig → (ℕ → Bool) → (from count : ℕ) → List Variable
listed_in ring bits from count = filter_map (λ column. variable_of ring column (bits column)) (range_with_len from count)

listed_is : (ring : RingConfig) (bits : ℕ → Bool) (from count : ℕ) → filter_map (λ at. variable_of ring at.0 at.1) (enumerate_from from (map bits (range_with_len from count))) ≡ listed_in ring bits from count
listed_is ring bits from zero = refl
listed_is ring bits from (suc count) = ap (cons_option (variable_of ring from (bits from))) (listed_is ring bits (from + 1) count)

pub variables_are : (ring : RingConfig) (columns : ℕ) (words : List ℕ) → listed_in ring (packed_bit words) 0 columns ≡ variables_of ring (bits_of columns words)
variables_are ring columns words = sym (listed_is ring (packed_bit words) 0 columns)

pub added : {T : Type 0} (so_far : List T) (item : Option T) (rest : List T) → (so_far ++ option_to_list item) ++ rest ≡ so_far ++ cons_option item rest
added so_far None rest = ap (λ l. l ++ rest) (append-nil so_far)
added so_far (Some x) rest = append_assoc so_far (x ∷ []) rest

-- the variables of the columns from one on, one column further
pub column_goes_on : (ring : RingConfig) (words : List ℕ) (column columns : ℕ) (so_far new all : List Variable) → column < columns → new ≡ so_far ++ option_to_list (variable_of ring column (packed_bit words column)) →
    so_far ++ listed_in ring (packed_bit words) column (columns - column) ≡ all → new ++ listed_in ring (packed_bit words) (column + 1) (columns - (column + 1)) ≡ all
column_goes_on ring words column columns so_far new all less more before =
    let left : suc (columns - (column + 1)) ≡ columns - column = omega arith in
    ap (λ (l : List Variable). l ++ listed_in ring (packed_bit words) (column + 1) (columns - (column + 1))) more
    ∙ added so_far (variable_of ring column (packed_bit words column)) (listed_in ring (packed_bit words) (column + 1) (columns - (column + 1)))
    ∙ ap (λ (k : ℕ). so_far ++ listed_in ring (packed_bit words) column k) left
    ∙ before

pub columns_end : (ring : RingConfig) (words : List ℕ) (column columns : ℕ) (so_far : List Variable) → columns ≤ column → so_far ++ listed_in ring (packed_bit words) column (columns - column) ≡ listed_in ring (packed_bit words) 0 columns →
    so_far ≡ variables_of ring (bits_of columns words)
columns_end ring words column columns so_far far before =
    let none : zero ≡ columns - column = omega arith in
    sym (append-nil so_far) ∙ ap (λ (k : ℕ). so_far ++ listed_in ring (packed_bit words) column k) none ∙ before ∙ variables_are ring columns words

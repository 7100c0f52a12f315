-- No channel bits load a cube that sums certify.
use Rattle.std.proofs.Common.{ℕ, zero, suc, ◌≡◌, Bool, true, false, List, [], ◌∷◌, Option, Some, option_and_then, unwrap_or, slice_get, refl, sym, ap, ap₂, ◌∙◌}
use Rattle.std.specs.Prelude.{◌&&◌}
use Rattle.dft_base.specs.Solutions.{bit_at, xor}
use Rattle.dft_base.proofs.SumLemmas.{sum_zero, weighed, weighed_add, weighed_zero}
use Rattle.dft_netlist.specs.declared.ids.InstanceId.{InstanceId}
use Rattle.dft_netlist.specs.Netlist.{Netlist}
use Rattle.dft_config.specs.declared.config.RingConfig.{RingConfig}
use Rattle.dft_merge.specs.Placement.{Loads}
use Rattle.dft_merge.specs.Rows.{CellRows}
use Rattle.dft_report.specs.declared.report.SumLine.{SumLine}
use Rattle.dft_certify.specs.Certifying.{has_column, odd_in, scanned_named}
use Rattle.dft_certify.specs.Laws.{CertifiedIsNever, IsSumOf}

-- the load equation of the cell that a line names
abbrev row_of_line : Netlist → CellRows → SumLine → List Bool
row_of_line n row line = unwrap_or (option_and_then row (scanned_named n row line.name)) []

odd_same : (f g : SumLine → Bool) (lines : List SumLine) → ((k : ℕ) (line : SumLine) → slice_get lines k ≡ Some line → f line ≡ g line) → odd_in f lines ≡ odd_in g lines
odd_same f g [] same = refl
odd_same f g (line ∷ lines) same = ap₂ (λ (a b : Bool). xor a b) (same zero line refl) (odd_same f g lines (λ k other at. same (suc k) other at))

odd_weighed : (n : Netlist) (row : CellRows) (columns : ℕ) (x : ℕ → Bool) (lines : List SumLine) → odd_in (λ line. weighed columns x (bit_at (row_of_line n row line))) lines ≡ weighed columns x (λ c. odd_in (has_column n row c) lines)
odd_weighed n row columns x [] = sym (weighed_zero columns x)
odd_weighed n row columns x (line ∷ lines) =
    ap (xor (weighed columns x (bit_at (row_of_line n row line)))) (odd_weighed n row columns x lines)
    ∙ sym (weighed_add columns x (bit_at (row_of_line n row line)) (λ c. odd_in (has_column n row c) lines))

line_sum : (n : Netlist) (ring : RingConfig) (row : CellRows) (columns : ℕ) (cells : List (InstanceId × Bool)) (bits : ℕ → Bool) (line : SumLine) → IsSumOf n ring row cells line → Loads columns row bits cells → line.bit ≡ weighed columns bits (bit_at (row_of_line n row line))
line_sum n ring row columns cells bits line is loads =
    sym (loads is.place (is.cell, line.bit) is.care) ∙ ap (λ (o : Option InstanceId). weighed columns bits (bit_at (unwrap_or (option_and_then row o) []))) (sym is.named)

pub certified_is_never : CertifiedIsNever
certified_is_never n ring row columns cells lines is bits loads =
    let sums : odd_in (λ line. line.bit) lines ≡ odd_in (λ line. weighed columns bits (bit_at (row_of_line n row line))) lines =
    odd_same (λ line. line.bit) (λ line. weighed columns bits (bit_at (row_of_line n row line))) lines (λ k line at. line_sum n ring row columns cells bits line (is.each k line at) loads) in
    let none : weighed columns bits (λ c. odd_in (has_column n row c) lines) ≡ false = sum_zero columns (λ c. odd_in (has_column n row c) lines && bits c) (λ c less. ap (λ (b : Bool). b && bits c) (is.even c less)) in
    let f : true ≡ false = sym is.odd ∙ sums ∙ odd_weighed n row columns bits lines ∙ none in
    cc

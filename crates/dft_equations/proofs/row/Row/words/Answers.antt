use Rattle.std.proofs.Common.{ℕ, List, Bool, ap, sym, ◌∙◌, length, ◌+◌, ◌/◌}
use Rattle.std.proofs.lemmas.List.FromFn.{length-map-range_with_len}
use Rattle.dft_base.specs.Solutions.{bit_at}
use Rattle.dft_base.specs.Packed.{packed_bit}
use Rattle.dft_lanes.proofs.RowLemmas.{bits-at}
use Rattle.dft_equations.proofs.row.Row.words.Goals as goal

pub returns-clause-size : goal.returns-clause-size
returns-clause-size c =
    ap length c.deref.ensures.value ∙ c.self.invariant.packed.size
    ∙ ap (λ (n : ℕ). (n + 63) / 64) (sym (length-map-range_with_len (packed_bit c.self.inside.words.items) 0 c.self.inside.columns) ∙ ap length c.self.view_is)

pub returns-clause-packed : goal.returns-clause-packed
returns-clause-packed c = λ column.
    ap (λ (words : List ℕ). packed_bit words column) c.deref.ensures.value
    ∙ sym (bits-at c.self.inside.words.items c.self.inside.columns column c.self.invariant.packed.clear)
    ∙ ap (λ (bits : List Bool). bit_at bits column) c.self.view_is

-- The moved words hold the moved bits, and none past the columns.
use Rattle.std.proofs.Common.{ℕ, List, Bool, ◌≡◌, ◌+◌, ◌*◌, length, ap, sym, arith, ◌∙◌}
use Rattle.dft_base.specs.Solutions.{bit_at}
use Rattle.dft_equations.proofs.RowLemmas.{moved_all}
use Rattle.dft_lanes.proofs.RowLemmas.{bits-at, length-bits_of}
use Rattle.dft_equations.proofs.row.Row.moved.Goals as goal

pub overflow_add-count : goal.overflow_add-count
overflow_add-count c = (let size = c.self.inside.words.ok.0 in omega (arith, size, c.len.ensures, c.self.invariant.packed.size, c.self.invariant.few, c.requires))

pub overflow_add-result : goal.overflow_add-result
overflow_add-result c =
    let columns : c.self.inside.columns ≡ length c.args.self.now = sym (length-bits_of c.self.inside.columns c.self.inside.words.items) ∙ ap length c.self.view_is in
    omega (arith, columns, c.requires)

pub returns-clause-size : goal.returns-clause-size
returns-clause-size c =
    let columns : c.self.inside.columns ≡ length c.args.self.now = sym (length-bits_of c.self.inside.columns c.self.inside.words.items) ∙ ap length c.self.view_is in
    length-bits_of (c.self.inside.columns + 64 * c.args.more) c.loop-word.words.items ∙ ap (λ k. k + 64 * c.args.more) columns

pub invariant_of-result : goal.invariant_of-result
invariant_of-result c =
    let old = c.self.inside.words.items in
    let new = c.loop-word.words.items in
    let size : length new ≡ length old + c.args.more = omega arith in
    let columns : c.self.inside.columns ≡ length c.args.self.now = sym (length-bits_of c.self.inside.columns old) ∙ ap length c.self.view_is in
    let moved = moved_all old new c.self.inside.columns c.args.places in
    record {
      few = omega (arith, columns, c.requires);
      packed = record {
        size = omega (arith, size, c.self.invariant.packed.size);
        clear = λ column past.
            moved column (omega (arith, size, c.self.invariant.packed.size)) (λ w i less. c.loop-word.invariant.each w i (omega arith)) c.self.invariant.packed.clear
            ∙ c.self.invariant.packed.clear (column + c.args.places) (omega arith);
      };
    }

pub returns-clause-bits : goal.returns-clause-bits
returns-clause-bits c = λ column.
    let old = c.self.inside.words.items in
    let new = c.loop-word.words.items in
    let n = c.self.inside.columns in
    let size : length new ≡ length old + c.args.more = omega arith in
    let moved = λ (k : ℕ). moved_all old new n c.args.places k (omega (arith, size, c.self.invariant.packed.size)) (λ w i less. c.loop-word.invariant.each w i (omega arith)) c.self.invariant.packed.clear in
    bits-at new (n + 64 * c.args.more) column (λ k past. moved k ∙ c.self.invariant.packed.clear (k + c.args.places) (omega arith))
    ∙ moved column
    ∙ sym (bits-at old n (column + c.args.places) c.self.invariant.packed.clear)
    ∙ ap (λ (bits : List Bool). bit_at bits (column + c.args.places)) c.self.view_is

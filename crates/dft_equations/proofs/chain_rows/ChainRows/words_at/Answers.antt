-- What is read of a kept row.
use Rattle.std.proofs.Common.{ℕ, List, Bool, [], ◌<◌, ◌+◌, ◌*◌, ◌/◌, ◌%◌, length, get_or, ap, sym, arith, ◌∙◌}
use Rattle.std.proofs.lemmas.List.{get_or_default}
use Rattle.dft_base.specs.Packed.{packed_bit}
use Rattle.dft_base.specs.Solutions.{bit_at}
use Rattle.dft_equations.proofs.ChainLemmas.{IsWindow, rows_count, window_fits, window_size, window_bits}
use Rattle.dft_equations.proofs.chain_rows.ChainRows.words_at.Goals as goal
use Rattle.dft_equations.proofs.chain_rows.ChainRows.words_at.Goals.{After-from, After-window}

less : (c : After-from) → c.args.place < c.self.inside.places
less c =
    let i = c.self.inside in
    let count = rows_count i.columns i.channels i.kept.items i.places in
    let all = ap length c.self.view_is in
    omega (arith, count, all, c.requires)

pub index-requires : goal.index-requires
index-requires c =
    let there = c.self.invariant.count c.args.place (less c) in
    let size = c.self.inside.kept.ok.0 in
    omega (arith, there, size, c.from.ensures)

pub window-requires : goal.window-requires
window-requires c =
    let i = c.self.inside in
    let count = rows_count i.columns i.channels i.kept.items i.places in
    let all = ap length c.self.view_is in
    let less : c.args.place < i.places = omega (arith, count, all, c.requires) in
    let there = c.self.invariant.count c.args.place less in
    window_fits i.columns i.channels i.kept.items i.places c.args.place (c.from-2.result * c.from-3.result) c.index.result.now c.words-words.result.now c.self.invariant less
    (record {
      row_is = c.index.ensures ∙ ap (λ k. get_or i.kept.items k c.index.result.now) c.from.ensures ∙ sym (get_or_default i.kept.items (c.args.place % 64) [] c.index.result.now there);
      first_is = λ t. c.from-2.ensures t * c.from-3.ensures t;
      size = c.words-words.ensures.size;
      packed = c.words-words.ensures.packed;
    })

less_after : (c : After-window) → c.args.place < c.self.inside.places
less_after c =
    let i = c.self.inside in
    let count = rows_count i.columns i.channels i.kept.items i.places in
    let all = ap length c.self.view_is in
    omega (arith, count, all, c.requires)

read_after : (c : After-window) → IsWindow c.self.inside.columns c.self.inside.channels c.self.inside.kept.items c.args.place (c.from-2.result * c.from-3.result) c.index.result.now c.words-words.result.now
read_after c =
    let there = c.self.invariant.count c.args.place (less_after c) in
    record {
      row_is = c.index.ensures ∙ ap (λ k. get_or c.self.inside.kept.items k c.index.result.now) c.from.ensures ∙ sym (get_or_default c.self.inside.kept.items (c.args.place % 64) [] c.index.result.now there);
      first_is = λ t. c.from-2.ensures t * c.from-3.ensures t;
      size = c.words-words.ensures.size;
      packed = c.words-words.ensures.packed;
    }

pub returns-clause-size : goal.returns-clause-size
returns-clause-size c =
    let i = c.self.inside in
    ap length c.window.ensures
    ∙ window_size i.columns i.channels i.kept.items i.places c.args.place (c.from-2.result * c.from-3.result) c.index.result.now c.words-words.result.now c.self.invariant (less_after c) (read_after c)
    ∙ ap (λ (rows : List (List Bool)). (length (get_or rows c.args.place []) + 63) / 64) c.self.view_is

pub returns-clause-packed : goal.returns-clause-packed
returns-clause-packed c = λ column.
    let i = c.self.inside in
    ap (λ (words : List ℕ). packed_bit words column) c.window.ensures
    ∙ window_bits i.columns i.channels i.kept.items i.places c.args.place (c.from-2.result * c.from-3.result) c.index.result.now c.words-words.result.now c.self.invariant (less_after c) (read_after c) column
    ∙ ap (λ (rows : List (List Bool)). bit_at (get_or rows c.args.place []) column) c.self.view_is

-- One pattern more, and its number of vectors.
use Rattle.std.proofs.Common.{ℕ, ◌<◌, length, arith, ap, sym, ◌∙◌}
use Rattle.dft_patterns.specs.declared.notes.NoteKind.TheVariants.{Pattern}
use Rattle.dft_vectors.proofs.NoteLemmas.{all_notes, first_more, no_notes, note_more, some_captures}
use Rattle.dft_vectors.proofs.notes.notes_of.Goals as goal

pub returns-then-is_empty : goal.returns-then-is_empty
returns-then-is_empty c = no_notes c.args.cycles c.args.captures.now c.new-notes.result.items (sym c.is_empty.ensures ∙ c.if-is_empty.true) c.new-notes.ensures.items

pub overflow_add-before-in-loop-pattern : goal.overflow_add-before-in-loop-pattern
overflow_add-before-in-loop-pattern c =
    omega (arith, c.loop-pattern.invariant.few, c.loop-pattern-test.true, c.requires.patterns, c.requires.cycles, c.from.ensures, c.from-in-loop-pattern.ensures, c.type_inv.captures c.loop-pattern.pattern)

pub loop-pattern-preserved : goal.loop-pattern-preserved
loop-pattern-preserved c =
    let before = c.loop-pattern.invariant in
    let more = first_more c.args.cycles c.args.captures.now c.loop-pattern.pattern 0 c.loop-pattern-test.true in
    record {
      notes = note_more c.args.cycles c.args.captures.now c.loop-pattern.pattern c.loop-pattern.notes.items c.push-in-loop-pattern.new.self.items _ before.notes c.in_ok-push-2.ensures.items
          (ap (λ (k : ℕ). record { before = k; what = Pattern c.loop-pattern.pattern }) before.next);
      next = omega (arith, more, before.next, c.from.ensures, c.from-in-loop-pattern.ensures);
      few = omega (arith, before.few, c.requires.cycles, c.from.ensures, c.from-in-loop-pattern.ensures, c.type_inv.captures c.loop-pattern.pattern);
    }

pub returns : goal.returns
returns c =
    let end = c.loop-pattern.invariant in
    let some : 0 < length c.args.captures.now = some_captures c.args.captures.now (sym c.is_empty.ensures ∙ c.if-is_empty.false) in
    all_notes c.args.cycles c.args.captures.now c.loop-pattern.pattern c.loop-pattern.before c.loop-pattern.notes.items c.push-2.new.self.items some (omega (arith, c.loop-pattern-test.false, c.loop-pattern.auto.pattern-end)) end.next end.notes c.in_ok-push-3.ensures.items

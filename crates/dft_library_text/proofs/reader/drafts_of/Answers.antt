-- One cell more.
use Rattle.std.proofs.Common.{◌∙◌}
use Rattle.std.specs.Map.Iter.{deref_pair}
use Rattle.std.proofs.lemmas.Map.Iter.{rest_more}
use Rattle.dft_library_text.proofs.ReadingLemmas.{draft_more}
use Rattle.dft_library_text.proofs.FitLemmas.{drafts_ascend}
use Rattle.dft_library_text.proofs.LibraryLemmas.{all_drafts}
use Rattle.dft_library_text.proofs.reader.drafts_of.Goals as goal

pub loop-name-preserved : goal.loop-name-preserved
loop-name-preserved c =
    let front = rest_more deref_pair c.loop-name.name-iterator c.next.new.self c.next.result (c.in-Some.name, c.in-Some.value) c.in-Some.is c.next.ensures.steps in
    let good = rw c.as_bytes.ensures.value at c.in_ok-judged.ensures.ok in
    rw c.in_ok-push.ensures.items
    (c.loop-name.invariant
    ∙ draft_more c.loop-name.name-iterator c.next.new.self c.in-Some.name.now c.in-Some.value.now c.loop-name.drafts.items c.in_ok-judged.field-0 front good)

pub returns-clause-ascend : goal.returns-clause-ascend
returns-clause-ascend c =
    drafts_ascend c.args.cells.now.entries c.loop-name.drafts.items c.iter-name-items.ensures.ordered
    (all_drafts c.args.cells.now.entries c.loop-name.name-iterator c.loop-name.drafts.items c.loop-name.invariant c.in-None.ensures.steps.0)

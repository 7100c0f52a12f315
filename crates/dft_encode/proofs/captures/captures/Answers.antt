-- Captures by the capturer are those of the patterns.
use Rattle.std.proofs.Common.{List, subst}
use Rattle.std.proofs.lemmas.Result.{IfOk-weaker}
use Rattle.dft_cubes.specs.declared.cube.Merged.{Merged}
use Rattle.dft_expect.specs.Capturing.{AreCaptures, Capturing}
use Rattle.dft_expect.specs.declared.pattern.Pattern.{Pattern}
use Rattle.dft_encode.specs.Finding.{AreLoaded, Captured}
use Rattle.dft_encode.proofs.FindingLemmas.{all_captured}
use Rattle.dft_encode.proofs.captures.captures.Goals as goal

pub returns-clause-captured : goal.returns-clause-captured
returns-clause-captured c =
    let f = c.args.finder.now in
    let loads = c.args.loads.now in
    let patterns = c.in_ok-patterns.patterns.items in
    let are : AreLoaded f.merger.now.patterns c.args.first loads patterns = subst (λ (ms : List Merged). AreLoaded ms c.args.first loads patterns) c.patterns.ensures c.in_ok-patterns.ensures in
    IfOk-weaker c.capture_all.result (λ responses. AreCaptures c.args.capturer.now c.deref.result.now responses.items) (λ responses. Captured f c.args.first loads responses.items)
    (λ responses h. all_captured f c.args.first loads patterns responses.items c.requires.finder are
    (subst (λ (k : Capturing). AreCaptures k patterns responses.items) c.requires.capturer (subst (λ (ps : List Pattern). AreCaptures c.args.capturer.now ps responses.items) c.deref.ensures.value h)))
    c.capture_all.ensures.captures

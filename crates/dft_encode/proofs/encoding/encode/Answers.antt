-- What patterns are found by.
use Rattle.std.proofs.Common.{◌∙◌, ap, sym}
use Rattle.dft_config.specs.Config.{Config}
use Rattle.dft_expect.specs.Masks.{always_of}
use Rattle.dft_merge.specs.LoadPlan.{columns_by}
use Rattle.dft_encode.specs.declared.finder.Finder.{Finder}
use Rattle.dft_encode.proofs.EncodingLemmas.{is_finder}
use Rattle.dft_encode.proofs.encoding.encode.Goals as goal

pub patterns-requires : goal.patterns-requires
patterns-requires c =
    let f : Finder = record { alloc = c.args.alloc; loads = c.loads-loads.result; always = c.deref.result; merger = c.args.merger } in
    let known = c.soundness.ensures in
    is_finder f known.range known.passed known.fits known.planned (c.deref.ensures.value ∙ c.in_ok-always.ensures ∙ ap always_of c.config.ensures) (sym c.loads-loads.ensures)
    (ap columns_by (sym c.loads-loads.ensures) ∙ known.equations.columns) c.requires.few

pub returns : goal.returns
returns c = rw c.loads-loads.ensures at c.patterns.ensures

-- The pattern, by what was found.
use Rattle.std.proofs.Common.{◌≡◌, ◌∙◌, Some, ap, length, slice_get, subst, sym}
use Rattle.dft_stitch.specs.Plans.{Plan}
use Rattle.dft_cubes.specs.declared.cube.Merged.{Merged}
use Rattle.dft_expect.specs.declared.response.Response.{Response}
use Rattle.dft_expect.specs.Captures.{IsCapture}
use Rattle.dft_expect.specs.Loaded.{all_cells}
use Rattle.dft_expect.specs.Masks.{by_chain, masks_of}
use Rattle.dft_encode.proofs.FindingLemmas.{always_count, captured_count, fits_found, is_pattern, pattern_there}
use Rattle.dft_encode.proofs.found.find.Goals as goal

pub mask_bits-requires-clause-always : goal.mask_bits-requires-clause-always
mask_bits-requires-clause-always c = always_count c.args.finder.now c.requires.finder ∙ ap (λ (p : Plan). length p.chains) (sym c.chains.ensures)

pub mask_bits-requires-clause-cells : goal.mask_bits-requires-clause-cells
mask_bits-requires-clause-cells c =
    let f = c.args.finder.now in
    let merged = c.index-patterns-number.result in
    let at = pattern_there f.merger.now.patterns c.patterns.result.now c.args.number merged c.patterns.ensures c.requires.number c.index-patterns-number.is in
    captured_count f.loads.now.design f.loads.now.config f.loads.now.plan.chains merged c.args.load.now.cells c.args.response.now (c.requires.captured merged at) ∙ ap (λ (p : Plan). length (all_cells p.chains)) (sym c.chains.ensures)

-- the pattern of this number
there : (c : goal.After-from_vec-2) → slice_get c.args.finder.now.merger.now.patterns c.args.number ≡ Some c.in_ok-merged.merged
there c =
    pattern_there c.args.finder.now.merger.now.patterns c.patterns.result.now c.args.number c.index-patterns-number.result c.patterns.ensures c.requires.number c.index-patterns-number.is ∙ ap (λ (m : Merged). Some m) (sym c.in_ok-merged.ensures)

masked : (c : goal.After-from_vec-2) → c.from_vec-2.result ≡ masks_of c.args.finder.now.always.now (by_chain c.args.finder.now.loads.now.plan.chains c.in_ok-response.response.cells)
masked c =
    c.from_vec-2.ensures ∙ c.in_ok-masks.ensures ∙ ap (λ (p : Plan). masks_of c.args.finder.now.always.now (by_chain p.chains c.args.response.now.cells)) c.chains.ensures ∙ ap (λ (r : Response). masks_of c.args.finder.now.always.now (by_chain c.args.finder.now.loads.now.plan.chains r.cells)) (sym c.in_ok-response.ensures)

captured : (c : goal.After-from_vec-2) → IsCapture c.args.finder.now.loads.now.design c.args.finder.now.loads.now.config c.args.finder.now.loads.now.plan.chains c.in_ok-merged.merged c.args.load.now.cells c.in_ok-response.response
captured c =
    let f = c.args.finder.now in
    subst (λ (r : Response). IsCapture f.loads.now.design f.loads.now.config f.loads.now.plan.chains c.in_ok-merged.merged c.args.load.now.cells r) (sym c.in_ok-response.ensures) (c.requires.captured c.in_ok-merged.merged (there c))

pub returns-clause-merged : goal.returns-clause-merged
returns-clause-merged c = there c

pub returns-clause-found : goal.returns-clause-found
returns-clause-found c =
    is_pattern c.args.finder.now c.args.number c.args.load.now (record { merged = c.in_ok-merged.merged; bits = c.from_vec.result; masks = c.from_vec-2.result; response = c.in_ok-response.response }) c.requires.finder c.requires.load (there c)
    (c.from_vec.ensures ∙ c.in_ok-bits.ensures.items ∙ c.as_slice.ensures) (masked c) (captured c)

pub returns-clause-fits : goal.returns-clause-fits
returns-clause-fits c =
    fits_found c.args.finder.now c.args.number c.args.load.now (record { merged = c.in_ok-merged.merged; bits = c.from_vec.result; masks = c.from_vec-2.result; response = c.in_ok-response.response }) c.requires.finder c.requires.load
    (c.from_vec.ensures ∙ c.in_ok-bits.ensures.items ∙ c.as_slice.ensures) (masked c) (captured c)

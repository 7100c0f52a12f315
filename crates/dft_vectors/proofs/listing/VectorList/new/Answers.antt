-- The planned design, and its chains.
use Rattle.std.proofs.Common.{ℕ, List, [], ap, ◌∙◌}
use Rattle.dft_stitch.specs.Chains.{plan_of}
use Rattle.dft_stitch.specs.Planning.{Planned}
use Rattle.dft_patterns.specs.declared.act.Act.{Act}
use Rattle.dft_vectors.specs.Listing.{Listing}
use Rattle.dft_vectors.proofs.listing.VectorList.new.Goals as goal

pub returns : goal.returns
returns c =
    let listing : List (List Act) → List ℕ → Planned → Listing = λ vectors captures p. record { design = p.design; config = p.config; plan = plan_of p.design p.config; vectors = vectors; captures = captures } in
    (λ i. listing (c.new.ensures.items i) (c.new-2.ensures.items i) c.in_ok-layout.layout.planned.now) ∙ ap (listing [] []) c.in_ok-layout.ensures.planned

-- One capture vector, and another.
use Rattle.std.proofs.Common.{◌≡◌, ◌∙◌, ◌-◌, ℕ, ap, arith, drop, length, length-drop, take}
use Rattle.std.proofs.lemmas.List.{take_all}
use Rattle.dft_expect.specs.Captures.{output_bits}
use Rattle.dft_vectors.specs.Listing.{Listing}
use Rattle.dft_vectors.proofs.ListingLemmas.{two_steps}
use Rattle.dft_vectors.proofs.listing.VectorList.two_captures.Goals as goal

pub returns : goal.returns
returns c =
    let outputs = c.args.outputs.now in
    let own = c.min-own.result in
    let left = length outputs - own in
    let rest : take left (drop own outputs) ≡ drop own outputs = take_all left (drop own outputs) (omega (arith, length-drop own outputs)) in
    two_steps c.args.self.now c.one_capture.new.self c.one_capture-2.new.self c.args.merged.now c.args.first c.args.second c.self.inside.layout.own.outputs outputs (take own outputs) (take left (drop own outputs))
    (c.self.invariant.layout.own.outputs ∙ ap (λ (l : Listing). length (output_bits l.design.ports)) c.self.view_is) (ap (λ (k : ℕ). take k outputs) c.min-own.ensures) (rest ∙ ap (λ (k : ℕ). drop k outputs) c.min-own.ensures)
    c.in_ok-one_capture.ensures c.in_ok-one_capture-2.ensures

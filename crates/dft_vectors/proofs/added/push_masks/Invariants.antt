-- The segments so far, and the rest.
use Rattle.std.proofs.Common.{◌≡◌, ◌++◌, map, drop}
use Rattle.dft_base.specs.Solutions.{bit_at}
use Rattle.dft_vectors.specs.OwnPorts.{set_to}
use Rattle.dft_vectors.specs.Segments.{sent_in}
use Rattle.dft_vectors.proofs.added.push_masks.Given as goal

abbrev pub invariant-loop-segment : goal.invariant-loop-segment
invariant-loop-segment l =
    l.acts.items ++ map (λ segment. set_to (sent_in segment (bit_at l.masks) l.place)) (drop l.segment-index l.segments)
    ≡ l.fn.acts.items ++ map (λ segment. set_to (sent_in segment (bit_at l.masks) l.place)) l.segments

-- One segment more.
use Rattle.std.proofs.Common.{◌≡◌, ◌+◌, ◌∙◌, suc, ap, ap₂, arith, []}
use Rattle.dft_config.specs.Segments.{segment_start}
use Rattle.dft_vectors.specs.Segments.{segment_of}
use Rattle.dft_vectors.proofs.ListLemmas.{grown}
use Rattle.dft_vectors.proofs.added.segments.Goals as goal

pub loop-segment-preserved : goal.loop-segment-preserved
loop-segment-preserved c =
    let k = c.loop-segment.segment in
    let h = c.loop-segment.invariant in
    let next : suc k ≡ k + 1 = omega arith in record {
      so_far = grown (segment_of c.args.config.now) [] c.loop-segment.segments.items c.push.new.self.items k (record { start = c.loop-segment.start; length = c.segment_length-length.result }) h.so_far c.in_ok-push.ensures.items
          (ap₂ (λ s l. record { start = s; length = l }) h.start c.segment_length-length.ensures.length);
      start = ap₂ (λ s l. s + l) h.start c.segment_length-length.ensures.length ∙ ap (segment_start c.args.config.now) next;
      small = omega (arith, h.small, c.segment_length-length.ensures.few);
    }

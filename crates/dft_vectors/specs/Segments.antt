-- Mask segments as they are looked up.
use Rattle.std.specs.Prelude.{ℕ, ◌+◌, ◌&&◌, Bool, List, map, nat_lt}
use Rattle.std.specs.List.{range_with_len}
use Rattle.dft_config.specs.Config.{Config}
use Rattle.dft_config.specs.Segments.{segment_start, segment_length}
use Rattle.dft_vectors.specs.declared.added.Segment.{Segment}

-- a mask segment: its first chain, and how many chains it has
abbrev pub segment_of : Config → (segment : ℕ) → Segment
segment_of config m = record { start = segment_start config m; length = segment_length config m }

abbrev pub segments_of : Config → List Segment
segments_of config = map (segment_of config) (range_with_len 0 config.compactor.mask_inputs)

-- what a segment's port gets so many cycles before the last: the mask of the chain at this place of the segment, if there is one
abbrev pub sent_in : Segment → (masks : ℕ → Bool) → (place : ℕ) → Bool
sent_in segment masks place = nat_lt place segment.length && masks (segment.start + place)

-- All signals, vectors and notes.
use Rattle.std.proofs.Common.{ap, ap₂, ◌∙◌, replicate}
use Rattle.dft_base.specs.Packed.{packed_bit}
use Rattle.dft_lanes.specs.Rows.{words_for}
use Rattle.dft_stitch.specs.Plans.{Plan}
use Rattle.dft_expect.specs.Loaded.{table_of}
use Rattle.dft_vectors.specs.Listing.{Listing}
use Rattle.dft_vectors.specs.PatternData.{columns_of, data_if_any}
use Rattle.dft_vectors.specs.VectorList.{notes_of, patterns_of}
use Rattle.dft_vectors.proofs.LoadLemmas.{zero_table}
use Rattle.dft_vectors.proofs.ListingLemmas.{lists_end, same_set}
use Rattle.dft_vectors.proofs.listing.VectorList.finish.Goals as goal

pub returns : goal.returns
returns c = λ patterns lists before.
    let l = c.args.self in
    let words = words_for (columns_of l.config l.plan) in
    let ended = c.self.view_is ∙ c.in_ok-unload.ensures in
    same_set c.noted.result (patterns_of c.args.written.now l.design l.config l.plan patterns) (c.noted.ensures.signals ∙ c.in_ok-signals.ensures)
    (c.noted.ensures.vectors ∙ ap (λ (k : Listing). k.vectors) ended ∙ lists_end l patterns (table_of l.config.ring (packed_bit (replicate words 0))) (data_if_any l.config l.plan c.args.last) lists (zero_table l.config.ring words) before)
    (c.noted.ensures.notes ∙ c.in_ok-notes.ensures ∙ ap₂ notes_of (c.cycles.ensures ∙ ap (λ (p : Plan). p.cycles) c.chains.ensures ∙ ap (λ (k : Listing). k.plan.cycles) ended) (c.deref.ensures.value ∙ ap (λ (k : Listing). k.captures) ended ∙ lists.captures))

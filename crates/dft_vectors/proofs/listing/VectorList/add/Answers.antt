-- The set-up vector, a load and a capture more.
use Rattle.std.proofs.Common.{ℕ, List, [], ◌∷◌, ◌++◌, ◌∙◌, ap}
use Rattle.dft_base.specs.Packed.{packed_bit}
use Rattle.dft_config.specs.Config.{Config}
use Rattle.dft_stitch.specs.Plans.{Plan}
use Rattle.dft_cubes.specs.Domains.{captures_of}
use Rattle.dft_expect.specs.Loaded.{table_of}
use Rattle.dft_vectors.specs.Listing.{Listing}
use Rattle.dft_vectors.specs.PatternData.{columns_of, data_of, data_if_any}
use Rattle.dft_vectors.specs.Shown.{listing_of}
use Rattle.dft_vectors.proofs.LoadLemmas.{same_table}
use Rattle.dft_vectors.proofs.ListingLemmas.{all_steps}
use Rattle.dft_vectors.proofs.listing.VectorList.add.Goals as goal

pub returns-clause-added : goal.returns-clause-added
returns-clause-added c = λ patterns lists before.
    let l = c.args.self.now in
    let p = c.args.pattern in
    all_steps l c.set_up.new.self c.load.new.self c.capture.new.self _ patterns (data_of l.config l.plan p) (λ (config : Config). table_of config.ring (packed_bit p.bits.now)) (λ (config : Config) (plan : Plan). data_if_any config plan c.args.last) lists
    before (same_table l.config.ring (columns_of l.config l.plan) p.bits.now c.requires.pattern.bits) c.in_ok-set_up.ensures c.in_ok-load.ensures c.in_ok-capture.ensures
    (ap (λ (cs : List ℕ). record (listing_of c.self.inside) { captures = cs }) (c.in_ok-push.ensures.items ∙ ap (λ (k : ℕ). c.self.inside.captures.items ++ k ∷ []) c.count.ensures)
    ∙ ap (λ (k : Listing). record k { captures = k.captures ++ captures_of p.merged.now ∷ [] }) c.self.view_is)

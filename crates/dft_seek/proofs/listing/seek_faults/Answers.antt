-- By the nets of the domains and of the resets.
use Rattle.std.proofs.Common.{ℕ, List, filter, ap, ◌∙◌}
use Rattle.dft_base.specs.Lexing.{Text}
use Rattle.dft_netlist.specs.declared.ids.NetId.{NetId}
use Rattle.dft_faults.specs.Faults.{faults, is_clock_in}
use Rattle.dft_seek.specs.SoughtFaults.{is_left, is_named, seek_faults}
use Rattle.dft_seek.proofs.ListingLemmas.{left_are, sought_same}
use Rattle.dft_seek.proofs.listing.seek_faults.Goals as goal

pub returns : goal.returns
returns c =
    let n = c.args.design.now in
    let roots = c.in_ok-roots.roots.items in
    let clocks = c.in_ok-clocks.clocks.items in
    let resets = c.in_ok-resets.resets.items in
    let of_clocks = λ (net : ℕ). c.in_ok-clocks.ensures net ∙ ap (λ (names : List Text). is_named n names net) c.domains.ensures in
    let of_resets = λ (net : ℕ). c.in_ok-resets.ensures net ∙ ap (λ (names : List Text). is_named n names net) c.resets.ensures in
    let roots_now = c.deref-3.result.now in
    let resets_now = c.deref-4.result.now in
    let all_now = c.deref-2.result.now in
    left_are c.untraced.result (filter (is_left roots_now resets_now) all_now) (seek_faults n c.args.config.now)
    ((λ i. filter (is_left (c.deref-3.ensures.value i) (c.deref-4.ensures.value i)) (c.deref-2.ensures.value i))
    ∙ ap (filter (is_left roots resets)) (c.in_ok-all.ensures ∙ ap (λ (xs : List NetId). faults n (is_clock_in xs)) c.deref.ensures.value)
    ∙ sought_same n c.args.config.now roots clocks resets c.in_ok-roots.ensures of_clocks of_resets) c.untraced.ensures

use Rattle.std.proofs.Common.{◌<◌, ◌+◌, ◌%◌, ℕ, sym, subst, ap, arith, length}
use Rattle.std.specs.List.{All}
use Rattle.std.specs.Prelude.{slice_index_or}
use Rattle.std.proofs.lemmas.Nat.{mod_below}
use Rattle.dft_netlist.specs.declared.ids.NetId.{NetId}
use Rattle.dft_parts.specs.Recipes.{net_at}
use Rattle.dft_edt.proofs.Terms.{terms_made, terms_below}
use Rattle.dft_edt.proofs.stages.stage_terms.Goals as goal

pub returns-clause-nets : goal.returns-clause-nets
returns-clause-nets c =
    terms_made c.args.ring.now c.args.channels.now c.args.stages.now c.args.stage (net_at c.args.stages.now ((c.args.stage + 1) % length c.args.stages.now)) c.as_slice.result.now c.as_slice-2.result.now c.new-terms.result.items c.push_net.new.nets.items
    c.push_taps.new.terms.items c.push_injectors.new.terms.items (ap (λ (n : ℕ). net_at c.args.stages.now ((c.args.stage + 1) % n)) c.requires.stages) c.as_slice.ensures c.as_slice-2.ensures c.new-terms.ensures.items c.in_ok-push_net.ensures.ok
    c.in_ok-push_taps.ensures c.in_ok-push_injectors.ensures

pub returns-clause-below : goal.returns-clause-below
returns-clause-below c = λ bound stages channels.
    subst (All (λ (net : NetId). net.0 < bound)) (sym (returns-clause-nets c))
    (terms_below bound c.args.ring.now c.args.channels.now c.args.stages.now c.args.stage
    (subst (λ (n : ℕ). (c.args.stage + 1) % c.args.ring.now.stages < n) (sym c.requires.stages) (mod_below (c.args.stage + 1) c.args.ring.now.stages (let few = c.requires.range.stages.0 in omega (arith, few))))
    (λ k d less. subst (λ (n : ℕ). (slice_index_or c.args.ring.now.taps k d).from < n) (sym c.requires.stages) (c.requires.range.taps k d less).0)
    (λ k d less. subst (λ (n : ℕ). (slice_index_or c.args.ring.now.injectors k d).channel < n) (sym c.requires.channels) (c.requires.range.injectors k d less).0) stages channels)

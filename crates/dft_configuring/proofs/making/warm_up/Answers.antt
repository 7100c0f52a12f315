use Rattle.std.proofs.Common.{◌≡◌, ◌≤◌, ◌+◌, ◌∙◌, ℕ, ap, subst, sym}
use Rattle.dft_configure.specs.Compacting.{masks_of, outputs_of}
use Rattle.dft_stitch.specs.Chains.{longest_chain}
use Rattle.dft_configuring.specs.declared.naming.Counts.{Counts}
use Rattle.dft_configuring.specs.Names.{names_for}
use Rattle.dft_configuring.specs.Rooted.{chain_count, longest}
use Rattle.dft_configuring.proofs.making.warm_up.Goals as goal

pub longest_chain-requires : goal.longest_chain-requires
longest_chain-requires c = subst (λ (k : ℕ). 1 ≤ k) (sym c.requires.frame.chains) c.requires.accepted.few.0

pub masks_of-masks-requires : goal.masks_of-masks-requires
masks_of-masks-requires c = subst (λ (k : ℕ). k ≤ 1024) (sym c.requires.frame.chains) c.requires.accepted.few.1

pub returns-clause-made : goal.returns-clause-made
returns-clause-made c =
    let n = c.args.design.now in
    let wanted = c.args.wanted.now in
    let made = c.args.made.now in
    let frame = c.requires.frame in
    let length : c.longest_chain.result ≡ longest n wanted = c.longest_chain.ensures.length ∙ (λ i. longest_chain (c.requires.cells i) (frame.chains i)) in
    let masks : c.masks_of-masks.result ≡ masks_of (chain_count n wanted) (c.args.warm + longest n wanted) wanted.masks =
    c.masks_of-masks.ensures ∙ (λ i. masks_of (frame.chains i) (c.from.ensures i + length i) wanted.masks) in
    record {
      frame = record { domains = frame.domains; resets = frame.resets; chains = frame.chains; ring = frame.ring; groups = frame.groups };
      masks = masks;
      names = c.in_ok-names.ensures ∙ ap (λ (counts : Counts). names_for n counts.channels counts.masks counts.outputs counts.chains) c.counts_of.ensures
          ∙ (λ i. names_for n wanted.channels c.masks_of-masks.result (outputs_of (frame.chains i) wanted.channels wanted.outputs) (frame.chains i));
    }

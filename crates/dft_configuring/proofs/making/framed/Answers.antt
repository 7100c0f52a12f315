use Rattle.std.proofs.Common.{◌≤◌, ◌∙◌, ℕ, ap, arith, subst, sym}
use Rattle.dft_configure.specs.Compacting.{groups_of, outputs_of}
use Rattle.dft_configuring.specs.declared.naming.Counts.{Counts}
use Rattle.dft_configuring.specs.Made.{IsRing}
use Rattle.dft_configuring.proofs.Numbers.{outputs_some}
use Rattle.dft_configuring.proofs.making.framed.Goals as goal

pub groups_of-requires : goal.groups_of-requires
groups_of-requires c =
    let some : 1 ≤ c.args.base.now.chains = subst (λ (k : ℕ). 1 ≤ k) (sym c.requires.base.chains) c.requires.base.accepted.few.0 in
    let outputs : 1 ≤ outputs_of c.args.base.now.chains c.args.wanted.now.channels c.args.wanted.now.outputs = outputs_some c.args.wanted.now c.args.base.now.chains c.requires.wanted some in
    rw c.counts_of-counts.ensures (omega (arith, outputs))

pub returns : goal.returns
returns c =
    let n = c.args.design.now in
    let wanted = c.args.wanted.now in
    let chains = c.requires.base.chains in
    record {
      domains = c.in_ok-clock_names.ensures;
      resets = c.in_ok-reset_names.ensures;
      chains = chains;
      ring = subst (λ (k : ℕ). IsRing k wanted.channels c.args.ring) chains c.requires.ring;
      groups = c.in_ok-groups_of.ensures ∙ ap (λ (counts : Counts). groups_of c.args.base.now.chains counts.outputs) c.counts_of-counts.ensures ∙ ap (λ (k : ℕ). groups_of k (outputs_of k wanted.channels wanted.outputs)) chains;
    }

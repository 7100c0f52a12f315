use Rattle.dft_configuring.proofs.rooting.rooted_made.Goals as goal

pub returns : goal.returns
returns c =
    λ i. record {
      domains = c.in_ok-clock_names.ensures i;
      resets = c.in_ok-reset_names.ensures i;
      chains = c.args.chains;
      warm = 0;
      ring = c.in_ok-plain_ring.ensures i;
      compactor = record { groups = c.in_ok-groups_of.ensures i; mask_inputs = 1 };
      names = c.in_ok-names_for.ensures i;
    }

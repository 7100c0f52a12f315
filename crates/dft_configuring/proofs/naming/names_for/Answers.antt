-- The names are printed, and free.
use Rattle.std.proofs.Common.{ℕ, Some, codes, refl, ap, ◌∙◌}
use Rattle.dft_configuring.specs.Names.{free_name, names_for}
use Rattle.dft_configuring.proofs.NamesRange.{literal_name}
use Rattle.dft_configuring.proofs.naming.names_for.Goals as goal

pub free_name-requires : goal.free_name-requires
free_name-requires c = literal_name 115 (codes "can_enable") refl

pub free_name-requires-2 : goal.free_name-requires-2
free_name-requires-2 c = literal_name 101 (codes "dt_clock") refl

pub free_name-requires-3 : goal.free_name-requires-3
free_name-requires-3 c = literal_name 101 (codes "dt_update") refl

pub free_name-requires-4 : goal.free_name-requires-4
free_name-requires-4 c = literal_name 101 (codes "dt_in") refl

pub free_name-requires-5 : goal.free_name-requires-5
free_name-requires-5 c = literal_name 101 (codes "dt_mask") refl

pub free_name-requires-6 : goal.free_name-requires-6
free_name-requires-6 c = literal_name 101 (codes "dt_out") refl

pub free_name-requires-7 : goal.free_name-requires-7
free_name-requires-7 c = literal_name 115 (codes "can_in") refl

pub free_name-requires-8 : goal.free_name-requires-8
free_name-requires-8 c = literal_name 115 (codes "can_out") refl

pub returns : goal.returns
unfolding names_for
returns c =
    let n = c.args.design.now in
    λ i. record {
      scan_enable = c.in_ok-free_name.ensures i;
      edt_clock = c.in_ok-free_name-2.ensures i;
      edt_update = c.in_ok-free_name-3.ensures i;
      channel = (c.in_ok-free_name-4.ensures ∙ ap (λ (count : ℕ). free_name n (Some count) (codes "edt_in")) c.from-channels.ensures) i;
      mask = (c.in_ok-free_name-5.ensures ∙ ap (λ (count : ℕ). free_name n (Some count) (codes "edt_mask")) c.from-masks.ensures) i;
      output = (c.in_ok-free_name-6.ensures ∙ ap (λ (count : ℕ). free_name n (Some count) (codes "edt_out")) c.from-outputs.ensures) i;
      scan_in = c.in_ok-free_name-7.ensures i;
      scan_out = c.in_ok-free_name-8.ensures i;
    }

use Rattle.std.proofs.Common.{◌≡◌, ◌∙◌, ◌<◌, false, List, Bool, length, ap, arith}
use Rattle.std.specs.Prelude.{slice_index_or}
use Rattle.std.proofs.lemmas.List.{get_or_default, get_or_read}
use Rattle.dft_behavior.specs.declared.root.NetRoot.TheVariants.{Other}
use Rattle.dft_behavior.specs.Roots.{clock_shown}
use Rattle.dft_base.proofs.ListLemmas.{take_new}
use Rattle.dft_configure.proofs.RootLemmas.{clean_all, clean_more}
use Rattle.dft_configure.proofs.cleaning.clean_nets.Goals as goal

pub loop-net-preserved : goal.loop-net-preserved
loop-net-preserved c =
    let n = c.args.design.now in
    let net = c.loop-net.net in
    let old = c.loop-net.marks.items in
    let same : length c.clear.new.marks ≡ length old = c.clear.auto.marks ∙ ap (λ (xs : List Bool). length xs) c.deref_mut.ensures.value in
    let count = c.in_ok-used.ensures.count in
    let within : net < length c.in_ok-used.used.items = omega (arith, c.len-net-end.ensures, c.in_ok-used.used.ok.0) in
    let less : net < length n.nets = omega (arith, count, within) in
    let marked = get_or_read c.in_ok-used.used.items net c.index.result.now within c.index.ensures false in
    let there : net < length c.args.roots.now = (let k = c.requires.count in omega (arith, k, less)) in
    let shows = c.clock.ensures ∙ ap clock_shown (get_or_default c.args.roots.now net _ Other there) in
    let full = take_new old c.clear.new.marks c.loop-net.marks.len (omega (arith, c.loop-net.marks.ok.0)) same in
    record {
      size = ap (λ (xs : List Bool). length xs) full ∙ same ∙ c.loop-net.invariant.size;
      each = λ port.
          (ap (λ (xs : List Bool). slice_index_or xs port false) full
          ∙ clean_more n c.args.roots.now c.in_ok-used.used.items net port c.clock.result c.index.result.now (slice_index_or old port false) (slice_index_or c.clear.new.marks port false) c.requires c.in_ok-used.ensures less shows marked
          (c.loop-net.invariant.each port) (rw c.deref_mut.ensures.value at (c.clear.ensures port)));
    }

pub returns : goal.returns
returns c = clean_all c.args.design.now c.loop-net.marks.items c.loop-net.net c.loop-net.invariant.size (let count = c.in_ok-used.ensures.count in omega (arith, count)) c.loop-net.invariant.each

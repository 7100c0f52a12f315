use Rattle.std.proofs.Common.{◌≡◌, ◌∙◌, ◌+◌, ap, subst, arith, length, drop, List, get_or, ℕ}
use Rattle.std.proofs.lemmas.List.{at_drop_more, drop_all}
use Rattle.dft_netlist.specs.Orders.{numbers_of}
use Rattle.dft_behavior.specs.RootTables.{net_root_among}
use Rattle.dft_netlist.proofs.RankLemmas.{order_ranks}
use Rattle.dft_behavior.proofs.RootTables.{Rooted, nothing_rooted, one_rooted, all_rooted, next_live, walk_among}
use Rattle.dft_behavior.proofs.tables.find_roots.Goals as goal

pub loop-net-init : goal.loop-net-init
loop-net-init c =
    let n = c.args.design.now in
    let made = c.in_ok-roots.ensures.len in
    let size : length c.in_ok-roots.roots.items ≡ length n.nets = omega (arith, c.net_count.ensures.count, c.in_ok-roots.roots.ok.0, made) in
    nothing_rooted n c.in_ok-roots.roots.items (numbers_of c.order-net-items.result.now) size c.order-net-items.ensures

pub step_back-requires : goal.step_back-requires
step_back-requires c =
    let order = c.order-net-items.result.now in
    next_live c.args.design.now c.loop-net.roots.items order c.loop-net.net-index (record { 0 = 0 }) c.loop-net-test.true c.loop-net.invariant

pub index_mut-requires : goal.index_mut-requires
index_mut-requires c =
    let order = c.order-net-items.result.now in
    let live = next_live c.args.design.now c.loop-net.roots.items order c.loop-net.net-index (record { 0 = 0 }) c.loop-net-test.true c.loop-net.invariant in
    omega (arith, c.loop-net.invariant.count, c.loop-net.roots.ok.0)

pub loop-net-preserved : goal.loop-net-preserved
loop-net-preserved c =
    let n = c.args.design.now in
    let order = c.order-net-items.result.now in
    let net = get_or order c.loop-net.net-index (record { 0 = 0 }) in
    let ranked = order_ranks n (numbers_of order) c.net_count.ensures.sound c.order-net-items.ensures in
    let step = rw c.deref.ensures.value at c.root_after-root.ensures ∙ c.step_back.ensures.step (net_root_among c.loop-net.roots.items) (walk_among c.loop-net.roots.items) in
    let P : List ℕ → Type 0 = λ rest. Rooted n c.loop-net.roots.items rest in
    let here = subst P (at_drop_more numbers_of order c.loop-net.net-index (record { 0 = 0 }) c.loop-net-test.true) c.loop-net.invariant in
    one_rooted n ranked.0 ranked.1 c.loop-net.roots.items net.0 (numbers_of (drop (c.loop-net.net-index + 1) order)) c.root_after-root.result step here

pub returns : goal.returns
returns c =
    let n = c.args.design.now in
    let order = c.order-net-items.result.now in
    let P : List ℕ → Type 0 = λ rest. Rooted n c.loop-net.roots.items rest in
    all_rooted n c.loop-net.roots.items c.net_count.ensures.sound (subst P (ap numbers_of (drop_all c.loop-net.net-index order c.loop-net-test.false)) c.loop-net.invariant)

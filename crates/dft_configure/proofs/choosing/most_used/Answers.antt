use Rattle.std.proofs.Common.{◌≡◌, ◌∙◌, ℕ, List, filter, length, ap, sym, refl, arith}
use Rattle.std.specs.List.{range_with_len}
use Rattle.dft_configure.specs.Found.{count_at, numbers_of}
use Rattle.dft_configure.specs.Roots.{is_most_used, most_used, uses}
use Rattle.dft_configure.proofs.ChoiceLemmas.{chosen_more, chosen_not, same_most}
use Rattle.dft_configure.proofs.choosing.most_used.Goals as goal
use Rattle.dft_configure.proofs.choosing.most_used.Goals.{then-is_most_used+in_ok-push, else-is_most_used}

pub loop-net-preserved : goal.loop-net-preserved
loop-net-preserved c =
    let nets = c.args.nets in
    let net = c.loop-net.net in
    let p = is_most_used (uses (numbers_of c.args.ports.now)) nets in
    let test : c.is_most_used.result ≡ p net =
    c.is_most_used.ensures ∙ ap (λ (l : List ℕ). is_most_used (count_at l) (length l) net) c.deref.ensures.value ∙ ap (λ (n : ℕ). is_most_used (count_at c.in_ok-counts.counts.items) n net) c.in_ok-counts.ensures.count
    ∙ same_most (count_at c.in_ok-counts.counts.items) (uses (numbers_of c.args.ports.now)) nets net c.loop-net-test.true c.in_ok-counts.ensures.each in
    elim c.if-is_most_used.branch [
      | then-is_most_used+in_ok-push w ↦ rw w.chosen-is (chosen_more p net c.loop-net.chosen.items w.push.new.self.items _ (sym test ∙ w.if-is_most_used.true) w.in_ok-push.ensures.items refl c.loop-net.invariant)
      | else-is_most_used w ↦ rw w.chosen-is (chosen_not p net c.loop-net.chosen.items (sym test ∙ w.if-is_most_used.false) c.loop-net.invariant)
    ]

pub returns : goal.returns
unfolding most_used
returns c =
    let p = is_most_used (uses (numbers_of c.args.ports.now)) c.args.nets in
    let all : c.loop-net.net ≡ c.args.nets = omega arith in
    c.loop-net.invariant ∙ ap (λ (n : ℕ). filter p (range_with_len 0 n)) all

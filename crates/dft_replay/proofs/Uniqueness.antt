-- There is one verdict at most.
use Rattle.std.proofs.Common.{ℕ, suc, ◌+◌, List, [], ◌∷◌, ◌≡◌, sym, ◌∙◌, length, Option, None, Some, subst}
use Rattle.dft_base.specs.declared.tri.Tri.{Tri}
use Rattle.dft_netlist.specs.Drivers.{IsOrdered}
use Rattle.dft_behavior.specs.Logic.{Logic, IsRanked, logic_of}
use Rattle.dft_netlist.specs.Netlist.{Netlist}
use Rattle.dft_behavior.proofs.Ranks.{order_is_rank}
use Rattle.dft_abstract.specs.Cycle.{Round, after_round, all_unknown}
use Rattle.dft_abstract.proofs.Least.{round_one}
use Rattle.dft_patterns.specs.Patterns.{Patterns}
use Rattle.dft_replay.specs.declared.verdict.Unknowns.{Unknowns}
use Rattle.dft_replay.specs.declared.verdict.Unknowns.TheVariants.{Stop}
use Rattle.dft_replay.specs.declared.verdict.Verdict.{Verdict}
use Rattle.dft_replay.specs.Rows.{Row, rows_of, ports_of}
use Rattle.dft_replay.specs.Verdicts.{bits_decide, Stops, EndsFrom, EndsAt}
use Rattle.dft_replay.specs.Laws.{VerdictIsOne}

-- values that are the same everywhere are one map
pub same_map : (a b : ℕ → Tri) → ((k : ℕ) → a k ≡ b k) → a ≡ b
same_map a b same = λ t k. same k t

stops_same : (d : Option Verdict) (a b : Verdict) (A B : Type 0) → Stops d a A → Stops d b B → (A → B → a ≡ b) → a ≡ b
stops_same None a b A B p q later = later p q
stops_same (Some d) a b A B p q later = p ∙ sym q

one_from : (u : Unknowns) (l : Logic) (rank : ℕ → ℕ) (old : ℕ → Tri) (v count : ℕ) (rows : List Row) (a b : Verdict) → IsRanked l rank → EndsFrom u l old v count rows a → EndsFrom u l old v count rows b → a ≡ b
one_from u l rank old v count [] a b ranked p q = p ∙ sym q
one_from u l rank old v count (x ∷ xs) a b ranked p q =
    let r : Round = p.0 in
    let s : Round = q.0 in
    let one = round_one l rank x.vector old r s ranked p.1.0 q.1.0 in
    let strobe : s.strobe ≡ r.strobe = same_map s.strobe r.strobe (λ net. sym (one.0 net)) in
    let after : after_round l x.vector old s ≡ after_round l x.vector old r = same_map _ _ (λ c. sym (one.1 c)) in
    let count' : ℕ = count + length x.compared in
    let q' : Stops (bits_decide u r.strobe v x.compared) b (EndsFrom u l (after_round l x.vector old r) (suc v) count' xs b) =
    subst (λ (w : ℕ → Tri). Stops (bits_decide u w v x.compared) b (EndsFrom u l (after_round l x.vector old r) (suc v) count' xs b)) strobe
    (subst (λ (w : ℕ → Tri). Stops (bits_decide u s.strobe v x.compared) b (EndsFrom u l w (suc v) count' xs b)) after q.1.1) in
    stops_same (bits_decide u r.strobe v x.compared) a b _ _ p.1.1 q' (one_from u l rank (after_round l x.vector old r) (suc v) count' xs a b ranked)

-- a replay comes to one end at most
pub end_one : (u : Unknowns) (n : Netlist) (rank : ℕ → ℕ) (p : Patterns) (a b : Verdict) → IsOrdered n rank → EndsAt u n p a → EndsAt u n p b → a ≡ b
end_one u n rank p a b order va vb = one_from u (logic_of n (ports_of n p)) rank all_unknown 0 0 (rows_of n p) a b (order_is_rank n (ports_of n p) rank order) va vb

pub verdict_one : VerdictIsOne
verdict_one n rank p a b order va vb = end_one Stop n rank p a b order va vb

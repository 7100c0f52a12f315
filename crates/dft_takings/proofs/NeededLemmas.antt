-- What is not read need not be settled.
use Rattle.std.proofs.Common.{ℕ, Bool, true, false, List, [], ◌∷◌, ◌≡◌, ◌==◌, ◌<◌, zero, suc, refl, sym, arith, ◌∙◌, map}
use Rattle.dft_base.specs.declared.tri.Tri.{Tri}
use Rattle.dft_netlist.specs.declared.ids.NetId.{NetId}
use Rattle.dft_netlist.specs.Drivers.{nets_of}
use Rattle.dft_behavior.specs.Logic.{Logic, reads, IsRanked}
use Rattle.dft_behavior.specs.Settled.{value_from}
use Rattle.dft_netlist.specs.Orders.{numbers_of}
use Rattle.dft_abstract.specs.Cycle.{Pulse, level_before, view_sources}
use Rattle.dft_takings.specs.Needs.{HasAll, IsStrobeClosed, IsStillOn, IsStillFrom, IsBefore, IsBeforeOn, next_reads}
use Rattle.dft_takings.specs.Laws.{NeededIsView, NextOfNeeded, NeededIsStrobe, LookOfNeeded}
use Rattle.dft_takings.proofs.ReadLemmas.{needed_agrees, next_agrees, set_agrees, all_agree, still_agrees}
use Rattle.dft_takings.proofs.LockupLemmas.{shown_agrees}

pub needed_is_view : NeededIsView
needed_is_view l rank p poss needs values view ranked closed given views =
    needed_agrees l rank p (view_sources l p poss values) (view_sources l p poss view) needs values view ranked closed given (λ d net need. views d net)
    (λ d k. refl) (λ d net need is. refl) (λ d net need c inverted is. refl)
    (λ d net need c e high source is same. shown_agrees p.rising (p.pulsed e) (e == d) high (p.old c) values view d e source same)

pub next_of_needed : NextOfNeeded
next_of_needed l rank p poss needs values view ranked closed given views c has =
    let d : ℕ = (l.cell c).domain in
    next_agrees l p c values view
    (set_agrees (needs d) (values d) (view d) (nets_of (next_reads (l.cell c) p.ports (value_from (values d)))) has (λ k need. needed_is_view l rank p poss needs values view ranked closed given views d k need))

still_within : (l : Logic) (rank : ℕ → ℕ) (level : ℕ → Bool) (ports flops : ℕ → Tri) (needs : ℕ → Bool) (values settled : ℕ → Tri) → IsRanked l rank → IsStrobeClosed l needs → IsStillOn l level ports flops needs values → IsStillFrom l level ports flops settled →
    (fuel net : ℕ) → rank net < fuel → needs net ≡ true → values net ≡ settled net
still_within l rank level ports flops needs values settled ranked closed given strobe zero net less need = absurd (omega arith)
still_within l rank level ports flops needs values settled ranked closed given strobe (suc fuel) net less need =
    given net need
    ∙ still_agrees level ports flops values settled net (l.net net) (all_agree rank (rank net) needs values settled (reads (l.net net)) (ranked.order net) (closed net need)
    (λ k below has. still_within l rank level ports flops needs values settled ranked closed given strobe fuel k (omega arith) has))
    ∙ sym (strobe net)

pub needed_is_strobe : NeededIsStrobe
needed_is_strobe l rank level ports flops needs values settled ranked closed given strobe net need =
    still_within l rank level ports flops needs values settled ranked closed given strobe (suc (rank net)) net (omega arith) need

-- the same before the edges of a phase
pub needed_before : (l : Logic) (rank : ℕ → ℕ) (p : Pulse) (needs : ℕ → Bool) (values settled : ℕ → Tri) → IsRanked l rank → IsStrobeClosed l needs → IsBeforeOn l p needs values → IsBefore l p settled → (net : ℕ) → needs net ≡ true → values net ≡ settled net
needed_before l rank p needs values settled ranked closed given before net need = needed_is_strobe l rank (level_before p) p.ports p.old needs values settled ranked closed given before net need

seen_agree : (needs : ℕ → Bool) (v w : ℕ → Tri) (nets : List NetId) → ((k : ℕ) → needs k ≡ true → v k ≡ w k) → HasAll needs (numbers_of nets) → map (λ net. v net.0) nets ≡ map (λ net. w net.0) nets
seen_agree needs v w [] same all = refl
seen_agree needs v w (net ∷ nets) same all = λ t. same net.0 all.0 t ∷ seen_agree needs v w nets same all.1 t

pub look_of_needed : LookOfNeeded
look_of_needed l rank ports flops needs values nets ranked closed given all settled strobe =
    seen_agree needs values settled nets (needed_is_strobe l rank (λ e. false) ports flops needs values settled ranked closed given strobe) all

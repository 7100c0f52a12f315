-- What is settled of a set that is closed under reading is what all nets are settled to, and cells take the same from both.
use Rattle.std.proofs.Common.{ℕ, Bool, true, false, ◌≡◌, ◌==◌, ◌&&◌, inl, inr, List, [], ◌∷◌, sym, ap, ◌∙◌}
use Rattle.std.specs.Prelude.{if◌then◌else◌}
use Rattle.std.proofs.lemmas.Bool.{cases_Bool, and_parts}
use Rattle.dft_base.specs.declared.tri.Tri.{Tri}
use Rattle.dft_netlist.specs.Drivers.{Tied, nets_of}
use Rattle.dft_behavior.specs.Logic.{Logic, Cell, Meaning, Joined, reads, IsRanked}
use Rattle.dft_behavior.specs.Settled.{value_from}
use Rattle.dft_abstract.specs.Cycle.{Pulse, changes, next_value}
use Rattle.dft_takings.specs.Needs.{HasAll, IsStrobeClosed, IsStillOn, IsStillFrom, next_reads}
use Rattle.dft_takings.specs.Shows.{Shown, is_still, still_needs}
use Rattle.dft_takings.proofs.NeededLemmas.{needed_is_strobe}
use Rattle.dft_takings.proofs.ReadLemmas.{Agree, next_agrees, next_reads_same, set_agrees}
use Rattle.dft_takings.proofs.ShownLemmas.{still_there}
use Rattle.dft_fault_laws.specs.Stuck.{with_fault}
use Rattle.dft_fault_laws.specs.Rounds.{every, passed}

-- ---- a set stays closed where a net is stuck

reads_stay : (needs : ℕ → Bool) (b value : Bool) (m : Meaning) → HasAll needs (reads m) → HasAll needs (reads (if b then Joined (Tied value) else m))
reads_stay needs true value m has = tt
reads_stay needs false value m has = has

pub closed_stays : (l : Logic) (stuck : ℕ) (value : Bool) (needs : ℕ → Bool) → IsStrobeClosed l needs → IsStrobeClosed (with_fault stuck value l) needs
closed_stays l stuck value needs closed net need = reads_stay needs (net == stuck) value (l.net net) (closed net need)

-- ---- all nets

-- all nets are settled, and those of a set have these values
pub record Whole (l : Logic) (level : ℕ → Bool) (ports flops : ℕ → Tri) (needs : ℕ → Bool) (values : ℕ → Tri) : Type 0 where
  pub all : ℕ → Tri
  pub settled : IsStillFrom l level ports flops all
  pub same : (net : ℕ) → needs net ≡ true → values net ≡ all net

pub whole_there : (l : Logic) (rank : ℕ → ℕ) (level : ℕ → Bool) (ports flops : ℕ → Tri) (needs : ℕ → Bool) (values : ℕ → Tri) → IsRanked l rank → IsStrobeClosed l needs → IsStillOn l level ports flops needs values →
    Whole l level ports flops needs values
whole_there l rank level ports flops needs values ranked closed on =
    let found = still_there l rank level ports flops ranked in
    record { all = found.0; settled = found.1; same = needed_is_strobe l rank level ports flops needs values found.0 ranked closed on found.1 }

-- ---- what cells read

pub wider : (needs : ℕ → Bool) (shown : ℕ → Shown) (d : ℕ) (nets : List ℕ) → HasAll (still_needs needs shown d) nets → HasAll (still_needs every shown d) nets
wider needs shown d [] has = tt
wider needs shown d (net ∷ nets) has = ((and_parts (needs net) (is_still d (shown net)) has.0).1, wider needs shown d nets has.1)

pub needed_agree : (needs : ℕ → Bool) (shown : ℕ → Shown) (d : ℕ) (values all : ℕ → Tri) (nets : List ℕ) → ((net : ℕ) → needs net ≡ true → values net ≡ all net) → HasAll (still_needs needs shown d) nets → Agree values all nets
needed_agree needs shown d values all nets same has = set_agrees (still_needs needs shown d) values all nets has (λ k need. same k (and_parts (needs k) (is_still d (shown k)) need).0)

-- a cell that reads what is still of the set reads what is still of all nets
pub still_of_all : (needs : ℕ → Bool) (shown : ℕ → Shown) (cell : Cell) (ports values all : ℕ → Tri) → ((net : ℕ) → needs net ≡ true → values net ≡ all net) →
    HasAll (still_needs needs shown cell.domain) (nets_of (next_reads cell ports (value_from values))) → HasAll (still_needs every shown cell.domain) (nets_of (next_reads cell ports (value_from all)))
still_of_all needs shown cell ports values all same has =
    let nets : List ℕ = nets_of (next_reads cell ports (value_from values)) in
    next_reads_same (still_needs every shown cell.domain) cell ports values all (needed_agree needs shown cell.domain values all nets same has) (wider needs shown cell.domain nets has)

-- and cells have the same after a phase from both
pub passes_same : (l : Logic) (p : Pulse) (values all : ℕ → Tri) (c : ℕ) → (changes l p c ≡ true → Agree values all (nets_of (next_reads (l.cell c) p.ports (value_from values)))) → passed l p values c ≡ passed l p all c
passes_same l p values all c agree = elim (cases_Bool (changes l p c)) [
  | inl up ↦ ap (λ (n : Tri). if changes l p c then n else p.old c) (next_agrees l p c (λ d. values) (λ d. all) (agree up))
  | inr down ↦ ap (λ b. if b then next_value l p (λ d. values) c else p.old c) down ∙ ap (λ b. if b then next_value l p (λ d. all) c else p.old c) (sym down)
]

-- two sets make one
pub both_sets : (needs : ℕ → Bool) (shown : ℕ → Shown) (d : ℕ) (nets : List ℕ) → HasAll needs nets → HasAll (still_needs every shown d) nets → HasAll (still_needs needs shown d) nets
both_sets needs shown d [] first second = tt
both_sets needs shown d (net ∷ nets) first second = (ap (λ b. b && is_still d (shown net)) first.0 ∙ second.0, both_sets needs shown d nets first.1 second.1)

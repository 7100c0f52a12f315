-- Lists of nets that are settled one after the other.
use Rattle.std.specs.Prelude.{ℕ, Bool, false, ◌≡◌, ◌==◌, ◌||◌, List, [], ◌∷◌, if◌then◌else◌}
use Rattle.dft_base.specs.declared.tri.Tri.{Tri}
use Rattle.dft_behavior.specs.Logic.{Logic, reads}
use Rattle.dft_behavior.specs.Settled.{value_given}
use Rattle.dft_takings.specs.Needs.{HasAll, strobe_from}

-- whether the net is one of these
abbrev pub is_listed : List ℕ → ℕ → Bool
is_listed [] net = false
is_listed (first ∷ nets) net = (first == net) || is_listed nets net

-- each of these nets is new, and comes after the nets that it is settled from; the others came before
abbrev pub IsListFrom : Logic → (before nets : List ℕ) → Type 0
IsListFrom l before [] = Unit {0}
IsListFrom l before (net ∷ nets) = (is_listed before net ≡ false) × HasAll (is_listed before) (reads (l.net net)) × IsListFrom l (net ∷ before) nets

-- the values, with one net's driver's value at the strobe for it
abbrev pub settled_at : Logic → (ports flops : ℕ → Tri) → (net : ℕ) → (values : ℕ → Tri) → ℕ → Tri
settled_at l ports flops net values k = if net == k then value_given (strobe_from ports flops values) values net (l.net net) else values k

-- the values, with one after the other of these nets settled for a strobe
abbrev pub settled_by : Logic → (ports flops : ℕ → Tri) → (nets : List ℕ) → (values : ℕ → Tri) → ℕ → Tri
settled_by l ports flops [] values = values
settled_by l ports flops (net ∷ nets) values = settled_by l ports flops nets (settled_at l ports flops net values)

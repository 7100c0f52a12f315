-- A loop that writes a new value at each place of a list.
use Rattle.std.proofs.Common.{ℕ, zero, suc, List, [], ◌∷◌, Option, None, Some, inl, inr, ◌⊎◌, sym, map, ◌≡◌, ◌<◌, ◌≤◌, ◌+◌, ◌≢◌, length, refl, ap, ◌∙◌, get_or, slice_set, get_or-set_same, get_or-set_other, below_more, arith}
use Rattle.std.proofs.lemmas.List.{get_or_default, get_or_past, length-map}
use Rattle.dft_base.specs.declared.tri.Tri.{Tri}
use Rattle.dft_base.specs.declared.tri.Tri.TheVariants.{Zero, Unknown}
use Rattle.dft_behavior.specs.Logic.{Cell, no_cell}
use Rattle.dft_logic.specs.declared.circuit.Acting.{Acting}
use Rattle.dft_logic.specs.declared.circuit.Acting.TheVariants as acting
use Rattle.dft_logic.specs.declared.circuit.FlipFlop.{FlipFlop}
use Rattle.dft_logic.specs.Values.{value_at}
use Rattle.dft_cells.specs.FlipFlops.{Forces, IsForceOf}
use Rattle.dft_netlist.specs.Orders.{Has}
use Rattle.dft_logic.specs.Circuit.{force_at, IsOneForce, with_port, force_nets, cell_of, cell_at}

-- the places before one have their new values, the others their old ones
pub record Written (start now : List Tri) (new : ℕ → Tri → Tri) (place : ℕ) : Type 0 where
  pub done : (k : ℕ) → k < place → value_at now k ≡ new k (value_at start k)
  pub rest : (k : ℕ) → place ≤ k → value_at now k ≡ value_at start k

pub write_more : (start now : List Tri) (new : ℕ → Tri → Tri) (place : ℕ) (t : Tri) → place < length now → Written start now new place → t ≡ new place (value_at now place) →
    Written start (slice_set now place t) new (place + 1)
write_more start now new place t less w is = record {
  done = below_more _ place
      (λ k h. (let ne : k ≢ place = omega arith in get_or-set_other now place k t Unknown ne ∙ w.done k h))
      (get_or-set_same now place t Unknown less ∙ is ∙ ap (new place) (w.rest place (omega arith)));
  rest = λ k h. (let ne : k ≢ place = omega arith in get_or-set_other now place k t Unknown ne ∙ w.rest k (omega arith));
}

-- the same where the old value is read as an element
pub write_read : (start now : List Tri) (new : ℕ → Tri → Tri) (place : ℕ) (t : Tri) → place < length now → Written start now new place → t ≡ new place (get_or now place Zero) →
    Written start (slice_set now place t) new (place + 1)
write_read start now new place t less w is = write_more start now new place t less w (is ∙ ap (new place) (get_or_default now place Zero Unknown less))

-- writing a value that is there changes nothing
pub write_same : (now : List Tri) (place : ℕ) (t : Tri) → place < length now → t ≡ get_or now place Zero → slice_set now place t ≡ now
write_same [] place t less is = absurd (omega arith)
write_same (x ∷ xs) zero t less is = ap (λ (y : Tri). y ∷ xs) is
write_same (x ∷ xs) (suc place) t less is = ap (λ (ys : List Tri). x ∷ ys) (write_same xs place t (omega arith) is)

-- ---- elements read as what they stand for

pub cell_read : (flops : List FlipFlop) (c : ℕ) (d : FlipFlop) → c < length flops → cell_of (get_or flops c d) ≡ cell_at (map cell_of flops) c
cell_read flops c d less = read flops c (no_cell c) less where
  read : (fs : List FlipFlop) (k : ℕ) (e : Cell) → k < length fs → cell_of (get_or fs k d) ≡ get_or (map cell_of fs) k e
  read [] k e h = absurd (omega arith)
  read (f ∷ fs) zero e h = refl
  read (f ∷ fs) (suc k) e h = read fs k e (omega arith)

-- the ports of a reset and a set are listed
pub force_listed : (forces : Forces ℕ) (port : ℕ) → IsForceOf forces port → Has (force_nets forces) port
force_listed forces port is = go forces.clear forces.preset is where
  one : (pin : Option ℕ) → pin ≡ Some port → Has (with_port pin []) port
  one None h = absurd cc
  one (Some q) h = (let e : q ≡ port = cc in inl (sym e))

  go : (clear preset : Option ℕ) → (clear ≡ Some port) ⊎ (preset ≡ Some port) → Has (with_port clear (with_port preset [])) port
  go None preset (inl h) = absurd cc
  go None preset (inr h) = one preset h
  go (Some q) preset (inl h) = (let e : q ≡ port = cc in inl (sym e))
  go (Some q) preset (inr h) = inr (one preset h)

-- no flip-flop has both a reset and a set
pub one_force : (flops : List FlipFlop) (c : ℕ) → IsOneForce (cell_at (map cell_of flops) c).forces
one_force flops c = go flops c (no_cell c) (inl refl) where
  by_acting : (force : Option Acting) → IsOneForce (force_at force)
  by_acting None = inl refl
  by_acting (Some (acting.Clear port)) = inr refl
  by_acting (Some (acting.Preset port)) = inl refl

  go : (fs : List FlipFlop) (k : ℕ) (d : Cell) → IsOneForce d.forces → IsOneForce (get_or (map cell_of fs) k d).forces
  go [] k d none = none
  go (f ∷ fs) zero d none = by_acting f.force
  go (f ∷ fs) (suc k) d none = go fs k d none

pub cell_past : (flops : List FlipFlop) (c : ℕ) → length flops ≤ c → cell_at (map cell_of flops) c ≡ no_cell c
cell_past flops c far = get_or_past (map cell_of flops) c (no_cell c) (let e = length-map flops cell_of in omega arith)

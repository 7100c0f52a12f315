-- The instances of a generated netlist by their places, and the nets that they name.
use Rattle.std.proofs.Common.{◌≡◌, ◌⊎◌, inl, inr, ℕ, zero, suc, ◌+◌, ◌*◌, ◌<◌, ◌≤◌, true, List, [], length, Some, codes, slice_get, refl, sym, ap, ◌∙◌, subst, arith, length-append, zero-add}
use Rattle.std.specs.List.{range_with_len}
use Rattle.std.proofs.Math.Nat.{mod-lt}
use Rattle.std.proofs.lemmas.List.FromFn.{length-range_with_len}
use Rattle.dft_base.specs.Lexing.{Text}
use Rattle.dft_base.proofs.NumberLemmas.{same_or_past}
use Rattle.dft_cells.specs.WellFormed.{has_name}
use Rattle.dft_netlist.specs.declared.instance.Instance.{Instance}
use Rattle.dft_generate.specs.Words.{word_at}
use Rattle.dft_generate_laws.specs.Designs.{with_net, with_cell, with_cells, port_nets, nets_of, number_in, q_of, d_of, first_of, second_of, gate_in, flop_in, instances_in, design}
use Rattle.dft_generate_laws.proofs.Nets.{with-grows, with-has, grown-has, cells-grow, cells-size, number-at}
use Rattle.dft_generate_laws.proofs.Ties.{IsInner, other_inner}
use Rattle.dft_generate_laws.proofs.Said.{nets-are, nets_grow}

-- ---- instances

pub instances-length : (all : List Text) (size : ℕ) (words : List ℕ) (count from : ℕ) → length (instances_in all size words (range_with_len from count)) ≡ 2 * count
instances-length all size words zero from = refl
instances-length all size words (suc count) from = let i = instances-length all size words count (from + 1) in omega (arith, i)

-- a gate or a flip-flop of one of these cells
pub record IsOfCell (all : List Text) (size : ℕ) (words : List ℕ) (from count place : ℕ) (i : Instance) : Type 0 where
  pub cell : ℕ
  pub low : from ≤ cell
  pub high : cell < from + count
  pub which : ((place + 2 * from ≡ 2 * cell) × (i ≡ gate_in all size words cell)) ⊎ ((place + 2 * from ≡ 2 * cell + 1) × (i ≡ flop_in all cell))

later : (all : List Text) (size : ℕ) (words : List ℕ) (from count place : ℕ) (i : Instance) → IsOfCell all size words (from + 1) count place i → IsOfCell all size words from (suc count) (suc (suc place)) i
later all size words from count place i h = record {
  cell = h.cell;
  low = let l = h.low in omega (arith, l);
  high = let l = h.high in omega (arith, l);
  which = elim h.which [ inl w ↦ inl (let e = w.0 in omega (arith, e), w.1) | inr w ↦ inr (let e = w.0 in omega (arith, e), w.1) ];
}

pub instance_of : (all : List Text) (size : ℕ) (words : List ℕ) (count from place : ℕ) (i : Instance) → slice_get (instances_in all size words (range_with_len from count)) place ≡ Some i → IsOfCell all size words from count place i
instance_of all size words zero from place i at = absurd (let f : ⊥ = cc in f)
instance_of all size words (suc count) from zero i at = record { cell = from; low = omega arith; high = omega arith; which = inl (omega arith, let e : gate_in all size words from ≡ i = cc in sym e) }
instance_of all size words (suc count) from (suc zero) i at = record { cell = from; low = omega arith; high = omega arith; which = inr (omega arith, let e : flop_in all from ≡ i = cc in sym e) }
instance_of all size words (suc count) from (suc (suc place)) i at = later all size words from count place i (instance_of all size words count (from + 1) place i at)

-- where a cell's gate and its flip-flop stand
gate_at : (all : List Text) (size : ℕ) (words : List ℕ) (count from k : ℕ) → k < count → slice_get (instances_in all size words (range_with_len from count)) (k + k) ≡ Some (gate_in all size words (from + k))
gate_at all size words zero from k lt = absurd (omega (arith, lt))
gate_at all size words (suc count) from zero lt = let e : from ≡ from + 0 = omega arith in ap (λ (c : ℕ). Some (gate_in all size words c)) e
gate_at all size words (suc count) from (suc k) lt =
    let e : suc k + suc k ≡ suc (suc (k + k)) = omega arith in
    let f : from + 1 + k ≡ from + suc k = omega arith in
    ap (slice_get (instances_in all size words (range_with_len from (suc count)))) e ∙ gate_at all size words count (from + 1) k (omega (arith, lt)) ∙ ap (λ (c : ℕ). Some (gate_in all size words c)) f

flop_at : (all : List Text) (size : ℕ) (words : List ℕ) (count from k : ℕ) → k < count → slice_get (instances_in all size words (range_with_len from count)) (suc (k + k)) ≡ Some (flop_in all (from + k))
flop_at all size words zero from k lt = absurd (omega (arith, lt))
flop_at all size words (suc count) from zero lt = let e : from ≡ from + 0 = omega arith in ap (λ (c : ℕ). Some (flop_in all c)) e
flop_at all size words (suc count) from (suc k) lt =
    let e : suc (suc k + suc k) ≡ suc (suc (suc (k + k))) = omega arith in
    let f : from + 1 + k ≡ from + suc k = omega arith in
    ap (slice_get (instances_in all size words (range_with_len from (suc count)))) e ∙ flop_at all size words count (from + 1) k (omega (arith, lt)) ∙ ap (λ (c : ℕ). Some (flop_in all c)) f

-- where they stand in the design
pub gate_there : (size : ℕ) (words : List ℕ) (k : ℕ) → k < size → slice_get (design size words).instances (k + k) ≡ Some (gate_in (nets_of size words) size words k)
gate_there size words k lt = gate_at (nets_of size words) size words size 0 k lt ∙ ap (λ (c : ℕ). Some (gate_in (nets_of size words) size words c)) (zero-add k)

pub flop_there : (size : ℕ) (words : List ℕ) (k : ℕ) → k < size → slice_get (design size words).instances (suc (k + k)) ≡ Some (flop_in (nets_of size words) k)
flop_there size words k lt = flop_at (nets_of size words) size words size 0 k lt ∙ ap (λ (c : ℕ). Some (flop_in (nets_of size words) c)) (zero-add k)

-- ---- nets that are there

-- both nets of a cell
pub both_there : (size : ℕ) (words : List ℕ) (count from k : ℕ) (nets : List Text) → from ≤ k → k < from + count
    → (has_name (with_cells size words (range_with_len from count) nets) (q_of k) ≡ true) × (has_name (with_cells size words (range_with_len from count) nets) (d_of k) ≡ true)
both_there size words zero from k nets low high = absurd (omega (arith, low, high))
both_there size words (suc count) from k nets low high = by (same_or_past from k low) (λ l. both_there size words count (from + 1) k (with_cell size words from nets) l (omega (arith, high)))
  where
    by : (from ≡ k) ⊎ (from + 1 ≤ k) → (from + 1 ≤ k → (has_name (with_cells size words (range_with_len from (suc count)) nets) (q_of k) ≡ true) × (has_name (with_cells size words (range_with_len from (suc count)) nets) (d_of k) ≡ true))
        → (has_name (with_cells size words (range_with_len from (suc count)) nets) (q_of k) ≡ true) × (has_name (with_cells size words (range_with_len from (suc count)) nets) (d_of k) ≡ true)
    by (inl e) more =
        let c : List Text = with_net (d_of from) (with_net (q_of (second_of size words from)) (with_net (q_of (first_of size words from)) nets)) in
        let b : List Text = with_cell size words from nets in
        let g = cells-grow size words (range_with_len (from + 1) count) b in
        subst (λ (j : ℕ). (has_name (with_cells size words (range_with_len (from + 1) count) b) (q_of j) ≡ true) × (has_name (with_cells size words (range_with_len (from + 1) count) b) (d_of j) ≡ true)) e (
          grown-has b (with_cells size words (range_with_len (from + 1) count) b) (q_of from) g (with-has (q_of from) c),
          grown-has b (with_cells size words (range_with_len (from + 1) count) b) (d_of from) g (grown-has c b (d_of from) (with-grows (q_of from) c) (with-has (d_of from) (with_net (q_of (second_of size words from)) (with_net (q_of (first_of size words from)) nets)))),
        )
    by (inr l) more = more l

pub q_there : (size : ℕ) (words : List ℕ) (k : ℕ) → k < size → has_name (nets_of size words) (q_of k) ≡ true
q_there size words k lt = subst (λ (xs : List Text). has_name xs (q_of k) ≡ true) (nets-are size words) (both_there size words size 0 k port_nets (omega arith) (omega (arith, lt))).0

pub d_there : (size : ℕ) (words : List ℕ) (k : ℕ) → k < size → has_name (nets_of size words) (d_of k) ≡ true
d_there size words k lt = subst (λ (xs : List Text). has_name xs (d_of k) ≡ true) (nets-are size words) (both_there size words size 0 k port_nets (omega arith) (omega (arith, lt))).1

pub first_there : (size : ℕ) (words : List ℕ) (cell : ℕ) → 0 < size → has_name (nets_of size words) (q_of (first_of size words cell)) ≡ true
first_there size words cell some = q_there size words (first_of size words cell) (mod-lt (word_at words (cell * 3 + 1)) some)

pub second_there : (size : ℕ) (words : List ℕ) (cell : ℕ) → 0 < size → has_name (nets_of size words) (q_of (second_of size words cell)) ≡ true
second_there size words cell some = q_there size words (second_of size words cell) (mod-lt (word_at words (cell * 3 + 2)) some)

-- how many nets there are at most
pub nets-few : (size : ℕ) (words : List ℕ) → length (nets_of size words) ≤ 3 + size + size + size + size
nets-few size words =
    let c = cells-size size words (range_with_len 0 size) port_nets in
    let e = ap length (nets-are size words) in
    let r = length-range_with_len 0 size in
    omega (arith, c, e, r)

pub nets-some : (size : ℕ) (words : List ℕ) → 3 ≤ length (nets_of size words)
nets-some size words = let g = nets_grow size words in let e = ap length g.is in omega (arith, e, length-append port_nets g.more)

-- ---- numbers

-- a cell's net has a number behind the ports'
pub behind_ports : (size : ℕ) (words : List ℕ) (w : Text) → IsInner w → 3 ≤ number_in (nets_of size words) w
behind_ports size words w i =
    let g = nets_grow size words in
    subst (λ (xs : List Text). 3 ≤ number_in xs w) (sym g.is)
    (rw (
      other_inner 99 (codes "lk0") w i (λ e. absurd (omega (arith, e))) (λ e. absurd (omega (arith, e))),
      other_inner 99 (codes "lk1") w i (λ e. absurd (omega (arith, e))) (λ e. absurd (omega (arith, e))),
      other_inner 121 [] w i (λ e. absurd (omega (arith, e))) (λ e. absurd (omega (arith, e))),
    ) (omega arith))

-- names with one number are the same
pub same_number : (nets : List Text) (v w : Text) → has_name nets v ≡ true → has_name nets w ≡ true → number_in nets v ≡ number_in nets w → v ≡ w
same_number nets v w a b e =
    let h : Some v ≡ Some w = sym (number-at nets v a) ∙ ap (slice_get nets) e ∙ number-at nets w b in
    let s : v ≡ w = cc in s

-- What moves in a capture of a design, as its edges move flip-flops.
use Rattle.std.proofs.Common.{ℕ, ◌≡◌, ◌==◌, Bool, true, false, ◌&&◌, List, Some, refl, sym, subst, ap, ◌∙◌}
use Rattle.std.specs.Prelude.{if◌then◌else◌}
use Rattle.dft_base.specs.declared.tri.Tri.{Tri}
use Rattle.dft_base.specs.declared.tri.Tri.TheVariants.{Unknown}
use Rattle.dft_base.specs.Tri.{AboveTri}
use Rattle.dft_base.proofs.NumberLemmas.{eqb_turned}
use Rattle.dft_cells.proofs.Completions.{above_self}
use Rattle.dft_netlist.specs.declared.ids.NetId.{NetId}
use Rattle.dft_netlist.specs.declared.ids.InstanceId.{InstanceId}
use Rattle.dft_behavior.specs.Logic.{Logic}
use Rattle.dft_netlist.specs.Netlist.{Netlist}
use Rattle.dft_behavior.specs.Runs.{Vector, takes}
use Rattle.dft_cells.specs.FlipFlops.{tri_forced_by}
use Rattle.dft_abstract.specs.Cycle.{rise_of}
use Rattle.dft_abstract.specs.Laws.{next_from}
use Rattle.dft_config.specs.Config.{Config}
use Rattle.dft_rules.specs.Rules.{is_net}
use Rattle.dft_edt.specs.Captures.{after_edge}
use Rattle.dft_cubes.specs.declared.cube.Merged.{Merged}
use Rattle.dft_expect.specs.Loaded.{all_cells, loaded_values, or_unknown}
use Rattle.dft_expect.specs.Captures.{Settled, after_edges, capture_clock, is_chained, next_state, original, vector_of}
use Rattle.dft_expect.proofs.CellNumbers.{bit_none}
use Rattle.dft_expect.proofs.VectorLemmas.{chained}
use Rattle.dft_expect.proofs.PulseLemmas.{stays_apart}

-- a flip-flop that is no cell of the chains is not known
pub unknown_by : (chains : List (List InstanceId)) (loaded : List Bool) (c : ℕ) → is_chained chains c ≡ false → loaded_values chains loaded c ≡ Unknown
unknown_by chains loaded c apart = ap or_unknown (bit_none (all_cells chains) loaded c (λ k at. (let never : true ≡ false = sym (chained (all_cells chains) k c at) ∙ apart in cc)))

pub unchained_next : (l : Logic) (chains : List (List InstanceId)) (x : Vector) (s : Settled) (its : ℕ → Tri) (cell : ℕ) → is_chained chains cell ≡ false → next_state l chains x its s cell ≡ its cell
unchained_next l chains x s its cell is = stays_apart l chains x false s.second (after_edges l chains x true s.first its) cell is ∙ stays_apart l chains x true s.first its cell is

-- a vector of the design in which flip-flops take what they take in the pattern's, and no reset or set acts
module _ (n : Netlist) (config : Config) (chains : List (List InstanceId)) (merged : Merged) (domain : ℕ) (clock : NetId) (captures : capture_clock n config domain ≡ Some clock) (y : Vector)
    (next : (values : ℕ → Tri) (own : Tri) (cell : ℕ) → next_from (original n config) y values own cell ≡ next_from (original n config) (vector_of n config merged domain) values own cell)
    (idle : (cell : ℕ) (t : Tri) → tri_forced_by ((original n config).cell cell).forces y.ports t ≡ t) where
  abbrev l : Logic
  l = original n config

  abbrev x : Vector
  x = vector_of n config merged domain

  pulsed : (cell : ℕ) → is_net (l.cell cell).domain (capture_clock n config domain) ≡ ((l.cell cell).domain == clock.0)
  pulsed cell = ap (is_net (l.cell cell).domain) captures ∙ eqb_turned clock.0 (l.cell cell).domain

  edges_same : (rising : Bool) (values old : ℕ → Tri) (cell : ℕ) → is_chained chains cell ≡ true → after_edges l chains x rising values old cell ≡ after_edge l y clock.0 rising values old cell
  edges_same rising values old cell is = λ i. if is i && (pulsed cell i && takes rising (l.cell cell).falling) then sym (next values (old cell) cell) i else old cell

  above_by : (values its : ℕ → Tri) (cell : ℕ) (b : Bool) → (is_chained chains cell ≡ false → its cell ≡ Unknown) → is_chained chains cell ≡ b → AboveTri (after_edges l chains x true values its cell) (after_edge l y clock.0 true values its cell)
  above_by values its cell true unknown is =
      subst (AboveTri (after_edges l chains x true values its cell)) (edges_same true values its cell is) (above_self (after_edges l chains x true values its cell))
  above_by values its cell false unknown is = subst (λ (t : Tri). AboveTri t (after_edge l y clock.0 true values its cell)) (sym (stays_apart l chains x true values its cell is ∙ unknown is)) tt

  -- after the rises no more is known than what flip-flops have, where flip-flops that are no cells of the chains are Unknown
  pub risen_above : (values its : ℕ → Tri) → ((cell : ℕ) → is_chained chains cell ≡ false → its cell ≡ Unknown) → (cell : ℕ) → AboveTri (after_edges l chains x true values its cell) (after_edge l y clock.0 true values its cell)
  risen_above values its unknown cell = above_by values its cell (is_chained chains cell) (unknown cell) refl

  -- and a cell of the chains has what both edges leave
  pub captured_same : (s : Settled) (its : ℕ → Tri) (cell : ℕ) → is_chained chains cell ≡ true → next_state l chains x its s cell ≡ after_edge l y clock.0 false s.second (after_edge l y clock.0 true s.first (rise_of l y its).old) cell
  captured_same s its cell is =
      edges_same false s.second (after_edges l chains x true s.first its) cell is
      ∙ ap (λ (t : Tri). if ((l.cell cell).domain == clock.0) && takes false (l.cell cell).falling then next_from l y s.second t cell else t)
      (edges_same true s.first its cell is ∙ ap (λ (t : Tri). if ((l.cell cell).domain == clock.0) && takes true (l.cell cell).falling then next_from l y s.first t cell else t) (sym (idle cell (its cell))))

-- What a pattern has captured behind the pulse of one vector more, and the state in which the values are settled then.
use Rattle.std.proofs.Common.{ℕ, ◌+◌, Bool, ◌&&◌, false, ◌≡◌, List, [], ◌∷◌, ◌++◌, map, take, None, Some, slice_get, refl, sym, subst, ap, ◌∙◌}
use Rattle.std.specs.Prelude.{if◌then◌else◌}
use Rattle.dft_base.specs.declared.tri.Tri.{Tri}
use Rattle.dft_netlist.specs.declared.ids.InstanceId.{InstanceId}
use Rattle.dft_netlist.specs.Netlist.{Netlist}
use Rattle.dft_behavior.specs.Logic.{Logic}
use Rattle.dft_behavior.specs.Runs.{Vector, takes}
use Rattle.dft_abstract.specs.Laws.{next_from}
use Rattle.dft_config.specs.Config.{Config}
use Rattle.dft_stitch.specs.Chains.{plan_of}
use Rattle.dft_cubes.specs.declared.cube.Merged.{Merged}
use Rattle.dft_expect.specs.declared.pattern.Pattern.{Pattern}
use Rattle.dft_expect.specs.declared.response.Response.{Response}
use Rattle.dft_expect.specs.Loaded.{loaded_values}
use Rattle.dft_expect.specs.Captures.{AreSettled, CapturesIn, Settled, after_edges, capture_vectors, captured_domains, is_chained, last_state, original, output_bits, vector_of}
use Rattle.dft_expect.specs.Capturing.{CapturedBehind, HasMoved, HasPulsed, Settles, cells_in, first_vectors, risen_values, state_behind}
use Rattle.dft_expect.proofs.VectorLemmas.{captures_more, no_vector_at, take_none, take_one, vector_at}

-- ---- over any vectors

-- what is captured in them, and values that are settled in a state which the one behind them follows
pub record PulsedIn (n : Netlist) (config : Config) (pattern : Pattern) (r : Response) (values : ℕ → Tri) (xs : List Vector) : Type 0 where
  pub behind : CapturesIn n config (plan_of n config).chains xs pattern.loaded.now r
  pub state : ℕ → Tri
  pub settled : Settles n config pattern state values
  pub moved : HasMoved n config state (last_state (original n config) (plan_of n config).chains xs (loaded_values (plan_of n config).chains pattern.loaded.now) behind.settled) r

pulsed_over : (n : Netlist) (config : Config) (pattern : Pattern) (count : ℕ) (r : Response) (values : ℕ → Tri) → PulsedIn n config pattern r values (first_vectors n config pattern count) → HasPulsed n config pattern count r values
pulsed_over n config pattern count r values is = record { behind = is.behind; state = is.state; settled = is.settled; moved = is.moved }

-- ---- what does not move

-- a flip-flop that is no cell of the chains stays at an edge
pub stays_apart : (l : Logic) (chains : List (List InstanceId)) (x : Vector) (rising : Bool) (values state : ℕ → Tri) (cell : ℕ) → is_chained chains cell ≡ false → after_edges l chains x rising values state cell ≡ state cell
stays_apart l chains x rising values state cell apart = ap (λ (b : Bool). if b && (x.pulsed (l.cell cell).domain && takes rising (l.cell cell).falling) then next_from l x values (state cell) cell else state cell) apart

-- a state follows itself, where a response has its cells
pub rests : (n : Netlist) (config : Config) (state : ℕ → Tri) (r : Response) → r.cells ≡ map (λ cell. state cell.0) (cells_in n config) → HasMoved n config state state r
rests n config state r cells = record { cells = cells; others = λ cell apart. refl }

-- ---- one vector more

-- what is captured behind its fall
pub pulse_ends : (n : Netlist) (config : Config) (pattern : Pattern) (count domain : ℕ) (old new : Response) (first second : ℕ → Tri) (before : CapturedBehind n config pattern count old) → Settles n config pattern (state_behind n config pattern count old before) first
    → Settles n config pattern (risen_values n config pattern domain first (state_behind n config pattern count old before)) second → slice_get (captured_domains pattern.merged.now) count ≡ Some domain
    → new.cells ≡ map (λ cell. after_edges (original n config) (plan_of n config).chains (vector_of n config pattern.merged.now domain) false second (risen_values n config pattern domain first (state_behind n config pattern count old before)) cell.0) (cells_in n config)
    → new.outputs ≡ old.outputs ++ map (λ net. first net.0) (output_bits n.ports)
    → (values state : ℕ → Tri) → Settles n config pattern state values
    → ((cell : ℕ) → is_chained (plan_of n config).chains cell ≡ false → after_edges (original n config) (plan_of n config).chains (vector_of n config pattern.merged.now domain) false second (risen_values n config pattern domain first (state_behind n config pattern count old before)) cell ≡ state cell)
    → HasPulsed n config pattern (count + 1) new values
pulse_ends n config pattern count domain old new first second before is later at cells outputs values state settled others =
    let l : Logic = original n config in
    let chains : List (List InstanceId) = (plan_of n config).chains in
    let merged : Merged = pattern.merged.now in
    let x : Vector = vector_of n config merged domain in
    let vectors : List Vector = capture_vectors n config merged in
    let s : Settled = record { first = first; second = second } in
    let all : take (count + 1) vectors ≡ take count vectors ++ x ∷ [] = take_one vectors count x (vector_at n config merged count domain at) in
    let are : AreSettled l chains x (state_behind n config pattern count old before) s = record { first = is; second = later } in
    let more = captures_more n config chains (take count vectors) x pattern.loaded.now old new s before are cells outputs in
    pulsed_over n config pattern (count + 1) new values
    (subst (PulsedIn n config pattern new values) (sym all) (record {
      behind = more.0;
      state = state;
      settled = settled;
      moved = record {
        cells = more.0.cells;
        others = λ cell apart. (ap (λ (f : ℕ → Tri). f cell) more.1 ∙ others cell apart);
      };
    }))

-- what is captured where there is none more
pub pulse_none : (n : Netlist) (config : Config) (pattern : Pattern) (count : ℕ) (r : Response) (values : ℕ → Tri) → slice_get (captured_domains pattern.merged.now) count ≡ None → (behind : CapturedBehind n config pattern count r) → Settles n config pattern (state_behind n config pattern count r behind) values
    → HasPulsed n config pattern (count + 1) r values
pulse_none n config pattern count r values none behind settled =
    pulsed_over n config pattern (count + 1) r values
    (subst (PulsedIn n config pattern r values) (sym (take_none (capture_vectors n config pattern.merged.now) count (no_vector_at n config pattern.merged.now count none))) (record {
      behind = behind;
      state = state_behind n config pattern count r behind;
      settled = settled;
      moved = rests n config (state_behind n config pattern count r behind) r behind.cells;
    }))

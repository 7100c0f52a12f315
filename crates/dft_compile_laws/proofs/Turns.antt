-- A run over listed vectors is, up to a capture, a run of a load.
use Rattle.std.proofs.Common.{ℕ, zero, suc, ◌≡◌, List, [], ◌∷◌, ◌++◌, take, refl, sym, ap, subst, ◌∙◌}
use Rattle.dft_behavior.specs.Logic.{Logic, Ports}
use Rattle.dft_netlist.specs.Netlist.{Netlist}
use Rattle.dft_behavior.specs.Runs.{Now, Vector, Turn, IsRun, AreTurns, AreLow, after_turn}
use Rattle.dft_config.specs.Config.{Config}
use Rattle.dft_runs.specs.Passes.{after_turns}
use Rattle.dft_scan_behavior.specs.EdtVectors.{edt_logic}
use Rattle.dft_pattern_behavior.specs.Given.{Pattern}
use Rattle.dft_pattern_behavior.specs.Listed.{pattern_of}
use Rattle.dft_compile_laws.specs.Playing.{EndsLoad, IsPlayedAt, RunsLoad, capture_number}
use Rattle.dft_compile_laws.proofs.Played.{patterns_play}

take_turns : (l : Logic) (now : Now) (xs : List Vector) (ts : List Turn) (v : ℕ) → AreTurns l now xs ts → AreTurns l now (take v xs) (take v ts)
take_turns l now xs ts zero are = tt
take_turns l now [] [] (suc v) are = tt
take_turns l now [] (t ∷ ts) (suc v) are = absurd are
take_turns l now (x ∷ xs) [] (suc v) are = absurd are
take_turns l now (x ∷ xs) (t ∷ ts) (suc v) are = (are.0, take_turns l (after_turn l x now t) xs ts v are.1)

-- turns over vectors and then others
record Cut (l : Logic) (now : Now) (xs ys : List Vector) (ts : List Turn) : Type 0 where
  first : List Turn
  second : List Turn
  front : AreTurns l now xs first
  back : AreTurns l (after_turns l now xs first) ys second
  end : after_turns l now (xs ++ ys) ts ≡ after_turns l (after_turns l now xs first) ys second

cut : (l : Logic) (now : Now) (xs ys : List Vector) (ts : List Turn) → AreTurns l now (xs ++ ys) ts → Cut l now xs ys ts
cut l now [] ys ts are = record { first = []; second = ts; front = tt; back = are; end = refl }
cut l now (x ∷ xs) ys [] are = absurd are
cut l now (x ∷ xs) ys (t ∷ ts) are =
    let more = cut l (after_turn l x now t) xs ys ts are.1 in
    record { first = t ∷ more.first; second = more.second; front = (are.0, more.front); back = more.back; end = more.end }

-- the turns of a clearing vector and a load, behind those before them
ends_by : (n : Netlist) (config : Config) (ports : Ports) (p : Pattern) (xs : List Vector) (start : Now) (ts : List Turn) (v : ℕ) → (played : IsPlayedAt n config p xs v) → AreLow start.state → (first second : List Turn) →
    AreTurns (edt_logic n config ports) start played.before first → AreTurns (edt_logic n config ports) (after_turns (edt_logic n config ports) start played.before first) (played.clear ∷ played.load) second →
    after_turns (edt_logic n config ports) start (take v xs) (take v ts) ≡ after_turns (edt_logic n config ports) (after_turns (edt_logic n config ports) start played.before first) (played.clear ∷ played.load) second →
    EndsLoad n config ports p.table xs start ts v
ends_by n config ports p xs start ts v played low first [] front back end = absurd back
ends_by n config ports p xs start ts v played low first (a ∷ us) front back end = record {
  run = record {
    before = played.before;
    clear = played.clear;
    load = played.load;
    start = start;
    ts = first;
    a = a;
    us = us;
    clearing = played.clearing;
    carries = played.loads.carries;
    count = played.loads.count;
    run = record { low = low; turns = front };
    turn = back.0;
    turns = back.1;
  };
  same = sym (ap (λ (now : Now). now.state.flops) end);
}

pub ends_load : (n : Netlist) (config : Config) (ports : Ports) (p : Pattern) (xs : List Vector) (start : Now) (ts : List Turn) (v : ℕ) → IsPlayedAt n config p xs v → IsRun (edt_logic n config ports) xs start ts → EndsLoad n config ports p.table xs start ts v
ends_load n config ports p xs start ts v played run =
    let l : Logic = edt_logic n config ports in
    let c = cut l start played.before (played.clear ∷ played.load) (take v ts) (subst (λ (vs : List Vector). AreTurns l start vs (take v ts)) played.front (take_turns l start xs ts v run.turns)) in
    ends_by n config ports p xs start ts v played run.low c.first c.second c.front c.back (ap (λ (vs : List Vector). after_turns l start vs (take v ts)) played.front ∙ c.end)

pub runs_load : RunsLoad
runs_load n config ports patterns xs start ts ready does run p d at =
    ends_load n config ports (pattern_of config d) xs start ts (capture_number n config patterns p) (patterns_play n config patterns xs ready does p d at) run

-- The last of a pattern's capture vectors, which clears, and those before it, in which edt_clock rests.
use Rattle.std.proofs.Common.{ℕ, ◌≡◌, List, [], ◌∷◌, ◌++◌, refl, ap}
use Rattle.dft_base.specs.declared.tri.Tri.{Tri}
use Rattle.dft_behavior.specs.Logic.{Ports}
use Rattle.dft_netlist.specs.Netlist.{Netlist}
use Rattle.dft_behavior.specs.Runs.{Vector}
use Rattle.dft_abstract.specs.Cycle.{Round, IsRound, after_round}
use Rattle.dft_config.specs.Config.{Config}
use Rattle.dft_runs.specs.Passes.{AreRounds, after_rounds}
use Rattle.dft_edt.specs.Unloads.{Rest}
use Rattle.dft_edt.specs.Vectors.{IsClearing}
use Rattle.dft_scan_behavior.specs.EdtVectors.{edt_logic}
use Rattle.dft_scan_behavior.specs.Facts.{edt_hardware}
use Rattle.dft_pattern_behavior.specs.Given.{AreCapturesFrom, Pattern}

-- ---- vectors

pub record Ends (n : Netlist) (config : Config) (xs : List Vector) : Type 0 where
  pub front : List Vector
  pub last : Vector
  pub is : xs ≡ front ++ (last ∷ [])
  pub rests : Rest (edt_hardware n config) front
  pub clearing : IsClearing (edt_hardware n config) last

pub captures_end : (n : Netlist) (config : Config) (p : Pattern) (domain : ℕ) (later : List ℕ) (xs : List Vector) → AreCapturesFrom n config p domain later xs → Ends n config xs
captures_end n config p domain [] [] are = absurd are
captures_end n config p domain [] (x ∷ y ∷ xs) are = absurd are
captures_end n config p domain [] (x ∷ []) are = record { front = []; last = x; is = refl; rests = tt; clearing = are.1 }
captures_end n config p domain (next ∷ later) [] are = absurd are
captures_end n config p domain (next ∷ later) (x ∷ xs) are =
    let more = captures_end n config p next later xs are.2 in
    record { front = x ∷ more.front; last = more.last; is = ap (λ (v : List Vector). x ∷ v) more.is; rests = (are.1, more.rests); clearing = more.clearing }

-- ---- and their rounds

pub record RoundsEnd (n : Netlist) (config : Config) (ports : Ports) (xs : List Vector) (old : ℕ → Tri) (ts : List Round) : Type 0 where
  pub front : List Vector
  pub last : Vector
  pub before : List Round
  pub round : Round
  pub rests : Rest (edt_hardware n config) front
  pub clearing : IsClearing (edt_hardware n config) last
  pub fronts : AreRounds (edt_logic n config ports) old front before
  pub ends : IsRound (edt_logic n config ports) last (after_rounds (edt_logic n config ports) old front before) round
  pub same : after_rounds (edt_logic n config ports) old xs ts ≡ after_round (edt_logic n config ports) last (after_rounds (edt_logic n config ports) old front before) round

pub rounds_end : (n : Netlist) (config : Config) (ports : Ports) (p : Pattern) (domain : ℕ) (later : List ℕ) (xs : List Vector) (old : ℕ → Tri) (ts : List Round) → AreCapturesFrom n config p domain later xs → AreRounds (edt_logic n config ports) old xs ts →
    RoundsEnd n config ports xs old ts
rounds_end n config ports p domain [] [] old ts are rounds = absurd are
rounds_end n config ports p domain [] (x ∷ y ∷ xs) old ts are rounds = absurd are
rounds_end n config ports p domain [] (x ∷ []) old [] are rounds = absurd rounds
rounds_end n config ports p domain [] (x ∷ []) old (r ∷ q ∷ ts) are rounds = absurd rounds.1
rounds_end n config ports p domain [] (x ∷ []) old (r ∷ []) are rounds = record { front = []; last = x; before = []; round = r; rests = tt; clearing = are.1; fronts = tt; ends = rounds.0; same = refl }
rounds_end n config ports p domain (next ∷ later) [] old ts are rounds = absurd are
rounds_end n config ports p domain (next ∷ later) (x ∷ xs) old [] are rounds = absurd rounds
rounds_end n config ports p domain (next ∷ later) (x ∷ xs) old (r ∷ ts) are rounds =
    let more = rounds_end n config ports p next later xs (after_round (edt_logic n config ports) x old r) ts are.2 rounds.1 in
    record {
      front = x ∷ more.front;
      last = more.last;
      before = r ∷ more.before;
      round = more.round;
      rests = (are.1, more.rests);
      clearing = more.clearing;
      fronts = (rounds.0, more.fronts);
      ends = more.ends;
      same = more.same;
    }

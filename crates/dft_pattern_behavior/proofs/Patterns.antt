-- One pattern after another.
use Rattle.std.proofs.Common.{ℕ, List, [], ◌∷◌, Option, Some, None, subst}
use Rattle.dft_base.specs.declared.tri.Tri.{Tri}
use Rattle.dft_behavior.specs.Logic.{Logic, Ports}
use Rattle.dft_netlist.specs.Netlist.{Netlist}
use Rattle.dft_behavior.specs.Runs.{Vector}
use Rattle.dft_abstract.specs.Cycle.{Round, IsRound, after_round}
use Rattle.dft_cubes.specs.Domains.{later_of}
use Rattle.dft_config.specs.Config.{Config}
use Rattle.dft_config.specs.Ring.{Table}
use Rattle.dft_runs.specs.Passes.{AreRounds, after_rounds}
use Rattle.dft_edt.specs.Vectors.{IsClearing}
use Rattle.dft_scan_frame.specs.Statements.{IsReady}
use Rattle.dft_scan_behavior.specs.EdtVectors.{SuitsEdt, edt_logic}
use Rattle.dft_scan_behavior.specs.Experiments.{Carry}
use Rattle.dft_scan_behavior.specs.Facts.{edt_hardware}
use Rattle.dft_pattern_behavior.specs.Given.{Pattern}
use Rattle.dft_pattern_behavior.specs.Rounds.{ShowsBefore, LoadsShow, Played, LastLoad, ArePlayed, AreShown, PatternsShow}
use Rattle.dft_pattern_behavior.proofs.Capturing.{has_captured, shows_captures}
use Rattle.dft_pattern_behavior.proofs.Ends.{rounds_end}
use Rattle.dft_pattern_behavior.proofs.Unloading.{unload_shows}

pub loads_show : LoadsShow
loads_show n config ports p clear before c load captures rs ts ready suits is clearing cleared loads are rounds caught =
    let l : Logic = edt_logic n config ports in
    let new : ℕ → Tri = after_rounds l (after_rounds l (after_round l clear before c) load rs) captures ts in
    let has = has_captured n config ports p clear before c load captures rs ts ready suits is clearing cleared loads are rounds caught in
    record {
      captures = shows_captures n config ports p clear before c load captures rs ts ready suits is clearing cleared loads are rounds caught;
      unloads = λ running xs qs carry next. unload_shows n config ports p new ready suits is has running xs qs carry next;
    }

-- whatever load runs from these values, it shows what the pattern before it captured
abbrev ShowsNext : Netlist → Config → Ports → Option Pattern → (old : ℕ → Tri) → Type 0
ShowsNext n config ports before old = (running : Table) (xs : List Vector) (qs : List Round) → Carry n config running xs → AreRounds (edt_logic n config ports) old xs qs → ShowsBefore n config before running qs

module _ (n : Netlist) (config : Config) (ports : Ports) (ready : IsReady n config) (suits : SuitsEdt n config ports) where
  abbrev l : Logic
  l = edt_logic n config ports

  from_here : (clear : Vector) (old : ℕ → Tri) (c : Round) (before : Option Pattern) (played : List Played) (end : LastLoad) → IsClearing (edt_hardware n config) clear → IsRound l clear old c →
      ShowsNext n config ports before (after_round l clear old c) → ArePlayed n config ports (after_round l clear old c) played end → AreShown n config before played end
  from_here clear old c before [] end clearing cleared next are = next end.table end.load end.rounds are.0 are.1
  from_here clear old c before (p ∷ more) end clearing cleared next are =
      let loaded : ℕ → Tri = after_rounds l (after_round l clear old c) p.load p.rounds in
      let new : ℕ → Tri = after_rounds l loaded p.captures p.capturing in
      let one = loads_show n config ports p.pattern clear old c p.load p.captures p.rounds p.capturing ready suits are.0 clearing cleared are.1 are.2 are.3 are.4 in
      let last = rounds_end n config ports p.pattern p.pattern.merged.domains.first (later_of p.pattern.merged.domains) p.captures loaded p.capturing are.2 are.4 in (
        next p.pattern.table p.load p.rounds are.1.carries are.3,
        one.captures,
        from_here last.last (after_rounds l loaded last.front last.before) last.round (Some p.pattern) more end last.clearing last.ends (subst (ShowsNext n config ports (Some p.pattern)) last.same one.unloads)
            (subst (λ (now : ℕ → Tri). ArePlayed n config ports now more end) last.same are.5),
      )

pub patterns_show : PatternsShow
patterns_show n config ports clear before c played end ready suits clearing cleared are = from_here n config ports ready suits clear before c None played end clearing cleared (λ running xs qs carry rounds. tt) are

-- Compiled patterns are well formed and can be written.
use Rattle.std.proofs.Common.{suc, inr, List, [], ◌∷◌, refl}
use Rattle.std.specs.List.{AllByRecursion}
use Rattle.std.proofs.lemmas.List.Elements.{All-from_recursion}
use Rattle.dft_netlist.specs.Netlist.{Netlist}
use Rattle.dft_config.specs.Config.{Config}
use Rattle.dft_stitch.specs.Chains.{plan_of}
use Rattle.dft_patterns.specs.declared.act.Act.{Act}
use Rattle.dft_patterns.specs.declared.signal.StilSignal.{StilSignal}
use Rattle.dft_patterns.specs.Patterns.{IsFullVector, IsVector}
use Rattle.dft_insert.specs.declared.style.Style.TheVariants.{Edt}
use Rattle.dft_insert.specs.Statements.{scanned}
use Rattle.dft_vectors.specs.PatternData.{PatternData}
use Rattle.dft_vectors.specs.Signals.{signals_of}
use Rattle.dft_vectors.specs.VectorList.{vectors_of}
use Rattle.dft_pattern_behavior.specs.Listed.{ArePatterns}
use Rattle.dft_compile_laws.specs.Formed.{GiveNoClock, WrittenFormed}
use Rattle.dft_compile_laws.specs.Passing.{set_of}
use Rattle.dft_encode.specs.Laws.{HasOutputs}
use Rattle.dft_compile_laws.proofs.Full.{each_fits, each_full}
use Rattle.dft_compile_laws.proofs.Naming.{outputs_leave, signals_quoted, signals_unlike, some_input}
use Rattle.dft_compile_laws.proofs.Quoting.{quotable_bits}
use Rattle.dft_compile_laws.proofs.Shown.{outputs_width}
use Rattle.dft_compile_laws.proofs.Steady.{Gives, steady}

each_wide : (n : Netlist) (config : Config) (ps : List PatternData) → ArePatterns n config ps → AllByRecursion (HasOutputs n) ps
each_wide n config [] are = tt
each_wide n config (p ∷ ps) are = (outputs_width n config p are.0, each_wide n config ps are.1)

each_gives : (n : Netlist) (config : Config) (ps : List PatternData) → ArePatterns n config ps → GiveNoClock n config ps → AllByRecursion (Gives n config) ps
each_gives n config [] are give = tt
each_gives n config (p ∷ ps) are give = ((λ j given at. give 0 j p given refl at, outputs_width n config p are.0), each_gives n config ps are.1 (λ number k q given at in_q. give (suc number) k q given at in_q))

pub written_formed : WrittenFormed
written_formed n config patterns ready sound are give few =
    let signals : List StilSignal = signals_of (scanned Edt n config) in
    let vectors : List (List Act) = vectors_of n config (plan_of n config) patterns in
    let full : AllByRecursion (λ acts. IsFullVector signals acts) vectors = each_full n config patterns (each_wide n config patterns are) in
    record {
      well = record {
        distinct = signals_unlike (scanned Edt n config) sound;
        few = few;
        fits = All-from_recursion (λ acts. IsVector signals acts) vectors (each_fits signals vectors full);
        steady = steady n config (set_of n config patterns) patterns ready.range refl (each_gives n config patterns are give);
      };
      writable = record {
        quotable = signals_quoted (scanned Edt n config) sound (quotable_bits n config ready sound);
        ordered = outputs_leave (scanned Edt n config);
        full = All-from_recursion (λ acts. IsFullVector signals acts) vectors full;
        some = inr (some_input n config);
      };
    }

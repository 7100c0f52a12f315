-- What a text stands for is well formed.
use Rattle.std.proofs.Common.{◌≡◌, ℕ, ◌<◌, ◌≤◌, ◌^◌, List, [], length, All, AllPairs, ◌≢◌, Option, None, Some, Result, Ok, Err, is_ok, true≢false, refl, sym, ap, subst, arith}
use Rattle.dft_base.specs.Lexing.{Text}
use Rattle.dft_base.specs.Parser.{value_of}
use Rattle.dft_patterns.specs.declared.signal.StilSignal.{StilSignal}
use Rattle.dft_stil_tokens.specs.declared.text.TokenKind.TheVariants as kind
use Rattle.dft_stil_tokens.specs.declared.text.Fault.{Fault}
use Rattle.dft_patterns.specs.declared.steadiness.Unsteady.{Unsteady}
use Rattle.dft_patterns.specs.Patterns.{Patterns, IsVector, IsWellFormed}
use Rattle.dft_patterns.specs.Steadiness.{first_unsteady}
use Rattle.dft_stil_tokens.specs.Lexemes.{tokens}
use Rattle.dft_stil_tokens.specs.Steps.{Outcome, left, expect, keyword}
use Rattle.dft_stil_text.specs.SignalGroups.{Names, signals_block, group_blocks}
use Rattle.dft_stil_text.specs.WaveformTables.{Timing, timing}
use Rattle.dft_stil_text.specs.PatternText as spec
use Rattle.dft_stil_text.specs.PatternText.{version, header_if_any, burst, exec, known_name, pattern, pattern_part, stil_text, patterns_in}
use Rattle.dft_stil_text.proofs.GivenRules.{Gives, GivesOf, after_any, then_gives, pure_gives}
use Rattle.dft_patterns.proofs.SteadyLemmas.{none_is_steady}
use Rattle.dft_stil_text.proofs.WellNamed.{Differ, Keeps, block_differs, groups_kept}
use Rattle.dft_stil_text.proofs.WellShaped.{TimingFits, timing_fits}
use Rattle.dft_stil_text.proofs.WellFitted.{PatternFits, unset_vector, statements_fit}

pattern_fits : (most : ℕ) (names : Names) (t : Timing) (b : spec.Burst) → TimingFits names t → Gives (PatternFits most names) (pattern most names t b)
unfolding pattern
pattern_fits most names t b f =
    after_any (PatternFits most names) (keyword _) _ (λ u. after_any (PatternFits most names) (known_name _) _ (λ v. after_any (PatternFits most names) (expect kind.OpenBrace) _ (λ w ts.
    statements_fit (left ts) most names t.tables (spec.no_vector_of (length names.signals)) f (record { acts = unset_vector names.signals; vectors = none names; few = omega arith }) ts))) where
      none : (names : Names) → All (λ acts. IsVector names.signals acts) []
      none names k d l = absurd (omega arith)

-- all that is said of the patterns of a text, but for their pulses
pub record IsFitting (most : ℕ) (p : Patterns) : Type 0 where
  pub distinct : AllPairs (λ (s t : StilSignal). s.name ≢ t.name) p.signals
  pub few : length p.vectors ≤ most
  pub fits : All (λ acts. IsVector p.signals acts) p.vectors

text_fits : (most : ℕ) → Gives (IsFitting most) (stil_text most)
unfolding stil_text pattern_part
text_fits most =
    after_any (IsFitting most) (keyword _) _ (λ a. after_any (IsFitting most) version _ (λ b. after_any (IsFitting most) (expect kind.Semicolon) _ (λ c. after_any (IsFitting most) header_if_any _ (λ d.
    then_gives Differ (IsFitting most) signals_block _ block_differs (λ first differ. then_gives (Keeps first) (IsFitting most) (group_blocks first) _ (groups_kept first) (λ names kept.
    then_gives (TimingFits names) (IsFitting most) (timing names) _ (timing_fits names) (λ t f. after_any (IsFitting most) burst _ (λ e. after_any (IsFitting most) (exec t e) _ (λ g.
    then_gives (PatternFits most names) (IsFitting most) (pattern most names t e) _ (pattern_fits most names t e f) (λ p h. after_any (IsFitting most) (expect kind.End) _ (λ i.
    pure_gives (IsFitting most) (record { signals = names.signals; vectors = p.vectors; notes = [] }) (record {
      distinct = subst (λ (ss : List StilSignal). AllPairs (λ (s t : StilSignal). s.name ≢ t.name) ss) (sym kept) differ;
      few = h.few;
      fits = h.vectors;
    }))))))))))))

abbrev pattern_or : Patterns → Result Patterns Fault → Patterns
pattern_or d (Ok p) = p
pattern_or d (Err f) = d

value_fitting : (most : ℕ) (o : Outcome Patterns) (p : Patterns) → GivesOf (IsFitting most) o → value_of o ≡ Ok p → IsFitting most p
value_fitting most (Ok q) p h e = subst (λ (r : Patterns). IsFitting most r) (ap (pattern_or p) e) (h q.0 q.1 refl)
value_fitting most (Err f) p h e = absurd (true≢false (sym (ap is_ok e)))

-- what a text says before its pulses are tested
pub fitting : (most : ℕ) (text : Text) (p : Patterns) → value_of (stil_text most (tokens text)) ≡ Ok p → IsFitting most p
fitting most text p e = value_fitting most (stil_text most (tokens text)) p (text_fits most (tokens text)) e

value_fits : (most : ℕ) (o : Outcome Patterns) (p : Patterns) → GivesOf (IsFitting most) o → spec.tested (value_of o) ≡ Ok p → (IsFitting most p) × (first_unsteady p ≡ None)
value_fits most (Ok q) p h e = steady q.0 (first_unsteady q.0) refl (h q.0 q.1 refl) e where
  patterns_or : Patterns → Result Patterns spec.Refusal → Patterns
  patterns_or d (Ok p) = p
  patterns_or d (Err r) = d

  steady : (q : Patterns) (o : Option Unsteady) → first_unsteady q ≡ o → IsFitting most q → spec.steady_or q o ≡ Ok p → (IsFitting most p) × (first_unsteady p ≡ None)
  steady q None n g e = subst (λ (r : Patterns). (IsFitting most r) × (first_unsteady r ≡ None)) (ap (patterns_or q) e) (g, n)
  steady q (Some u) n g e = absurd (true≢false (sym (ap is_ok e)))
value_fits most (Err f) p h e = absurd (true≢false (sym (ap is_ok e)))

pub well_formed : (most : ℕ) (text : Text) (p : Patterns) → patterns_in most text ≡ Ok p → most < 2 ^ 32 → IsWellFormed p
unfolding patterns_in
well_formed most text p e small =
    let f = value_fits most (stil_text most (tokens text)) p (text_fits most (tokens text)) e in
    record { distinct = f.0.distinct; few = (let few = f.0.few in omega arith); fits = f.0.fits; steady = none_is_steady p f.1 }

-- and it has no more vectors than its reader takes
pub few_vectors : (most : ℕ) (text : Text) (p : Patterns) → patterns_in most text ≡ Ok p → length p.vectors ≤ most
unfolding patterns_in
few_vectors most text p e = (value_fits most (stil_text most (tokens text)) p (text_fits most (tokens text)) e).0.few

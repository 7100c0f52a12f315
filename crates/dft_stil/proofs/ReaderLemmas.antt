-- What a text stands for, and why it is refused.
use Rattle.std.proofs.Common.{◌≡◌, ℕ, suc, ◌<◌, ◌≤◌, ◌+◌, ◌&&◌, Bool, true, false, cond, true≢false, List, [], ◌∷◌, length, get_or, Option, Some, None, is_some, Result, Ok, Err, IfOk, refl, sym, ap, ◌∙◌, arith}
use Rattle.dft_base.specs.Lexing.{Text, place_of}
use Rattle.dft_base.specs.Parser.{value_of}
use Rattle.dft_base.specs.declared.place.Place.{Place}
use Rattle.dft_base.proofs.PlaceLemmas.{placed}
use Rattle.dft_patterns.specs.declared.act.Act.{Act}
use Rattle.dft_stil_tokens.specs.declared.text.Cause.{Cause}
use Rattle.dft_stil_tokens.specs.declared.text.Cause.TheVariants as cause
use Rattle.dft_stil_tokens.specs.declared.text.Fault.{Fault}
use Rattle.dft_patterns.specs.declared.steadiness.Unsteady.{Unsteady}
use Rattle.dft_stil_text.specs.declared.error.StilError.{StilError}
use Rattle.dft_stil_text.specs.declared.error.StilError.TheVariants as told
use Rattle.dft_stil_text.specs.declared.limits.TheConstants.{MAX_VECTORS}
use Rattle.dft_stil_tokens.specs.Reading.{ReadError}
use Rattle.dft_stil_tokens.specs.Reading.{Reads}
use Rattle.dft_stil_tokens.specs.Lexemes.{Token, tokens}
use Rattle.dft_patterns.specs.Patterns.{Patterns, IsWellFormed}
use Rattle.dft_stil_text.specs.PatternText.{stil_text, patterns_in, tested, steady_or, StandsFor, At, Unsteadily, name_of_signal}
use Rattle.dft_stil.specs.Refusals.{IsFirstRefusal, IsRefused, IsFirstUnsteady, IsUnsteadyAs, told_at}
use Rattle.dft_patterns.specs.Steadiness.{HaveLength, is_not_low, first_not_low, first_unsteady, first_unsteady_from, found_or, pulses}
use Rattle.dft_patterns.proofs.VectorLemmas.{vector_length}
use Rattle.dft_stil_text.proofs.WellFormed.{fitting, well_formed}
use Rattle.dft_stil_text.proofs.LimitLemmas.{stands_within}

-- ---- places

pub ruleset places = (placed)

-- ---- acts

-- each vector of a text has one act a signal
pub have_length : (most : ℕ) (text : Text) (p : Patterns) → value_of (stil_text most (tokens text)) ≡ Ok p → HaveLength (length p.signals) p.vectors
have_length most text p e k d l = vector_length p.signals (get_or p.vectors k d) ((fitting most text p e).fits k d l)

-- and they are not more than there may be
pub have_few : (most : ℕ) (text : Text) (p : Patterns) → value_of (stil_text most (tokens text)) ≡ Ok p → length p.vectors ≤ most
have_few most text p e = (fitting most text p e).few

-- the same of what a reader of tokens gives
pub lengths_read : (most : ℕ) (text : Text) (start rest : List Token) (r : Result Patterns ReadError) → start ≡ tokens text → Reads (λ p. p) (stil_text most start) r rest → IfOk r (λ p. HaveLength (length p.signals) p.vectors)
lengths_read most text start rest (Ok p) s h = have_length most text p (ap value_of (ap (stil_text most) (sym s) ∙ h))
lengths_read most text start rest (Err e) s h = tt

pub few_read : (most : ℕ) (text : Text) (start rest : List Token) (r : Result Patterns ReadError) → start ≡ tokens text → Reads (λ p. p) (stil_text most start) r rest → IfOk r (λ p. length p.vectors ≤ most)
few_read most text start rest (Ok p) s h = have_few most text p (ap value_of (ap (stil_text most) (sym s) ∙ h))
few_read most text start rest (Err e) s h = tt

-- ---- the first one that is not low

first_inside : (t : Bool) (n s k : ℕ) (o : Option ℕ) → (o ≡ Some s → s < n + suc k) → cond t (Some n) o ≡ Some s → s < n + suc k
first_inside true n s k o h e = let same : n ≡ s = cc in omega arith
first_inside false n s k o h e = h e

signal_inside : (f : ℕ → Bool) (n : ℕ) (acts : List Act) (s : ℕ) → first_not_low f n acts ≡ Some s → s < n + length acts
signal_inside f n [] s e = absurd (true≢false (sym (ap is_some e)))
signal_inside f n (a ∷ acts) s e =
    first_inside (is_not_low a && f n) n s (length acts) (first_not_low f (suc n) acts) (λ g. let less = signal_inside f (suc n) acts s g in omega arith) e

-- there is such a vector, and such a signal
abbrev IsInside : (vectors signals : ℕ) → Unsteady → Type 0
IsInside vectors signals u = (u.vector < vectors) × (u.signal < signals)

abbrev unsteady_or : Unsteady → Option Unsteady → Unsteady
unsteady_or d (Some u) = u
unsteady_or d None = d

one_inside : (n count k : ℕ) (o : Option ℕ) (behind : Option Unsteady) (u : Unsteady) → ((s : ℕ) → o ≡ Some s → s < count) → (behind ≡ Some u → IsInside (n + suc k) count u) → found_or n o behind ≡ Some u → IsInside (n + suc k) count u
one_inside n count k (Some s) behind u h g e =
    let less : s < count = h s refl in
    let vector : n ≡ u.vector = ap (λ o. (unsteady_or u o).vector) e in
    let signal : s ≡ u.signal = ap (λ o. (unsteady_or u o).signal) e in
    (omega arith, omega arith)
one_inside n count k None behind u h g e = g e

from_inside : (f : ℕ → Bool) (n count : ℕ) (vectors : List (List Act)) (u : Unsteady) → HaveLength count vectors → first_unsteady_from f n vectors ≡ Some u → IsInside (n + length vectors) count u
from_inside f n count [] u h e = absurd (true≢false (sym (ap is_some e)))
from_inside f n count (acts ∷ vectors) u h e =
    one_inside n count (length vectors) (first_not_low f 0 acts) (first_unsteady_from f (suc n) vectors) u
    (λ s g. let less = signal_inside f 0 acts s g in let same : length acts ≡ count = h 0 acts (omega arith) in omega arith)
    (λ g. let r = from_inside f (suc n) count vectors u (λ k d l. h (suc k) d (omega arith)) g in (let less = r.0 in omega arith, r.1)) e

pub found_vector : (p : Patterns) (u : Unsteady) → HaveLength (length p.signals) p.vectors → first_unsteady p ≡ Some u → u.vector < length p.vectors
found_vector p u h e = (let r = from_inside (pulses p.vectors) 0 (length p.signals) p.vectors u h e in omega (arith, r.0))

pub found_signal : (p : Patterns) (u : Unsteady) → HaveLength (length p.signals) p.vectors → first_unsteady p ≡ Some u → u.signal < length p.signals
found_signal p u h e = (from_inside (pulses p.vectors) 0 (length p.signals) p.vectors u h e).1

pub ruleset inside = (found_vector, found_signal)

-- ---- outcomes

-- patterns whose pulses are steady are read, and are what the text stands for
given : (text : Text) (p : Patterns) → value_of (stil_text MAX_VECTORS (tokens text)) ≡ Ok p → first_unsteady p ≡ None → patterns_in MAX_VECTORS text ≡ Ok p
unfolding patterns_in
given text p e none = ap tested e ∙ ap (steady_or p) none

pub stands : (text : Text) (p : Patterns) → value_of (stil_text MAX_VECTORS (tokens text)) ≡ Ok p → first_unsteady p ≡ None → StandsFor text p
stands text p e none = stands_within MAX_VECTORS text p (given text p e none)

pub formed : (text : Text) (p : Patterns) → value_of (stil_text MAX_VECTORS (tokens text)) ≡ Ok p → first_unsteady p ≡ None → IsWellFormed p
formed text p e none = well_formed MAX_VECTORS text p (given text p e none) (omega arith)

by_cause : (text : Text) (why : Cause) (at : Place) → IsFirstRefusal text (told_at why at) → IsRefused text (told_at why at)
by_cause text cause.Token at h = h
by_cause text (cause.Unsupported word) at h = h
by_cause text (cause.Unknown word) at h = h
by_cause text cause.Count at h = h
by_cause text cause.NoWaveform at h = h
by_cause text cause.Times at h = h
by_cause text (cause.Taken word) at h = h

-- a fault is told with its place
pub refused_first : (text : Text) (f : Fault) → value_of (stil_text MAX_VECTORS (tokens text)) ≡ Err f → IsRefused text (told_at f.cause (place_of text f.left))
unfolding patterns_in
refused_first text f e = by_cause text f.cause (place_of text f.left) (record { refusal = At f; first = ap tested e; told = refl })

unsteadily : (text : Text) (p : Patterns) (error : StilError) → value_of (stil_text MAX_VECTORS (tokens text)) ≡ Ok p → IsFirstUnsteady p error → IsFirstRefusal text error
unfolding patterns_in
unsteadily text p error e h = record { refusal = Unsteadily h.found.vector (name_of_signal p h.found.signal); first = ap tested e ∙ ap (steady_or p) h.first; told = h.told }

-- and a signal that is not steady behind all faults
pub refused_unsteady : (text : Text) (p : Patterns) (error : StilError) → value_of (stil_text MAX_VECTORS (tokens text)) ≡ Ok p → IsUnsteadyAs p error → IsRefused text error
refused_unsteady text p (told.P1 at) e h = unsteadily text p (told.P1 at) e h
refused_unsteady text p (told.P2 at word) e h = unsteadily text p (told.P2 at word) e h
refused_unsteady text p (told.P3 at word) e h = unsteadily text p (told.P3 at word) e h
refused_unsteady text p (told.P4 at) e h = unsteadily text p (told.P4 at) e h
refused_unsteady text p (told.P5 at) e h = unsteadily text p (told.P5 at) e h
refused_unsteady text p (told.P6 bytes) e h = unsteadily text p (told.P6 bytes) e h
refused_unsteady text p (told.P8 at) e h = unsteadily text p (told.P8 at) e h
refused_unsteady text p (told.P9 at word) e h = unsteadily text p (told.P9 at word) e h
refused_unsteady text p (told.P10 first word) e h = unsteadily text p (told.P10 first word) e h
refused_unsteady text p (told.Memory failed) e h = tt

pub ruleset reading = (stands, formed, refused_first, refused_unsteady)

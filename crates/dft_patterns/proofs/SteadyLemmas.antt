-- Loops over acts that look for a pulsing signal which is not low.
use Rattle.std.proofs.Common.{cond, add-one, drop, drop-cons, ◌⊎◌, inl, inr, replicate, is_some, ◌≡◌, ◌≢◌, ℕ, zero, suc, ◌<◌, ◌≤◌, ◌+◌, Bool, true, false, true≢false, ◌||◌, ◌&&◌, List, [], ◌∷◌, length, get_or, slice_set, get_or-set_same, get_or-set_other, below_more, Option, Some, None, refl, sym, ap, ◌∙◌, arith}
use Rattle.std.proofs.lemmas.Bool.{cases_lt, or_right}
use Rattle.std.proofs.lemmas.List.{length-set, length-replicate, get_or_past}
use Rattle.dft_base.proofs.ListLemmas.{none_marked}
use Rattle.dft_base.proofs.SumLemmas.{and_false as and_with_false}
use Rattle.dft_base.proofs.BitLemmas.{or_false, first_false, or_swap, or_assoc}
use Rattle.dft_patterns.specs.declared.act.Act.{Act}
use Rattle.dft_patterns.specs.declared.act.Act.TheVariants.{Unset, Low, High, Pulse, ExpectLow, ExpectHigh, Ignore}
use Rattle.dft_patterns.specs.declared.steadiness.Unsteady.{Unsteady}
use Rattle.dft_patterns.specs.Patterns.{Patterns, IsSteady}
use Rattle.dft_patterns.specs.Steadiness.{is_pulse, is_not_low, act_of_signal, pulses, first_not_low, found_or, first_unsteady_from, first_unsteady, IsPulseFlags}

-- the flags of the signals before one are set where they pulse here, the others are left
pub record Flagged (acts : List Act) (start now : List Bool) (place : ℕ) : Type 0 where
  pub done : (k : ℕ) → k < place → get_or now k false ≡ (is_pulse (act_of_signal acts k) || get_or start k false)
  pub rest : (k : ℕ) → place ≤ k → get_or now k false ≡ get_or start k false
  pub len : length now ≡ length start

-- what the flags tell of the vectors so far and the vectors left is what pulses in all vectors
pub record AreFlagged (count : ℕ) (all left : List (List Act)) (flags : List Bool) : Type 0 where
  pub len : length flags ≡ count
  pub each : (k : ℕ) → (get_or flags k false || pulses left k) ≡ pulses all k

-- ---- one vector

pub none_flagged : (acts : List Act) (flags : List Bool) → Flagged acts flags flags 0
none_flagged acts flags = record { done = λ k h. absurd (omega arith); rest = λ k h. refl; len = refl }

pub flag_set : (acts : List Act) (start now : List Bool) (place : ℕ) → place < length now → Flagged acts start now place → is_pulse (act_of_signal acts place) ≡ true
    → Flagged acts start (slice_set now place true) (place + 1)
flag_set acts start now place less f p = record {
  done = below_more _ place
      (λ k h. (let ne : k ≢ place = omega arith in get_or-set_other now place k true false ne ∙ f.done k h))
      (get_or-set_same now place true false less ∙ sym (ap (λ t. t || get_or start place false) p));
  rest = λ k h. (let ne : k ≢ place = omega arith in get_or-set_other now place k true false ne ∙ f.rest k (omega arith));
  len = length-set now place true ∙ f.len;
}

pub flag_left : (acts : List Act) (start now : List Bool) (place : ℕ) → Flagged acts start now place → is_pulse (act_of_signal acts place) ≡ false → Flagged acts start now (place + 1)
flag_left acts start now place f p = record {
  done = below_more _ place f.done (f.rest place (omega arith) ∙ sym (ap (λ t. t || get_or start place false) p));
  rest = λ k h. f.rest k (omega arith);
  len = f.len;
}

-- past its end a vector pulses nowhere
no_pulse_past : (acts : List Act) (k : ℕ) → length acts ≤ k → is_pulse (act_of_signal acts k) ≡ false
no_pulse_past acts k far = ap is_pulse (get_or_past acts k _ far)

flagged' : (acts : List Act) (start now : List Bool) (k : ℕ) → Flagged acts start now (length acts) → ((k < length acts) ⊎ (length acts ≤ k)) → get_or now k false ≡ (is_pulse (act_of_signal acts k) || get_or start k false)
flagged' acts start now k f (inl less) = f.done k less
flagged' acts start now k f (inr far) = f.rest k far ∙ sym (ap (λ t. t || get_or start k false) (no_pulse_past acts k far))

pub flagged_each : (acts : List Act) (start now : List Bool) → Flagged acts start now (length acts) → (k : ℕ) → get_or now k false ≡ (is_pulse (act_of_signal acts k) || get_or start k false)
flagged_each acts start now f k = flagged' acts start now k f (cases_lt k (length acts))

-- ---- all vectors

pub none_yet : (count : ℕ) (vectors : List (List Act)) → AreFlagged count vectors vectors (replicate count false)
none_yet count vectors = record { len = length-replicate count false; each = λ k. ap (λ t. t || pulses vectors k) (none_marked count k) }

pub one_vector_more : (count : ℕ) (all left : List (List Act)) (acts : List Act) (start now : List Bool) → AreFlagged count all (acts ∷ left) start
    → ((k : ℕ) → get_or now k false ≡ (is_pulse (act_of_signal acts k) || get_or start k false)) → length now ≡ length start → AreFlagged count all left now
one_vector_more count all left acts start now f e l = record {
  len = l ∙ f.len;
  each = λ k. ap (λ t. t || pulses left k) (e k) ∙ or_assoc (is_pulse (act_of_signal acts k)) (get_or start k false) (pulses left k) ∙ or_swap (is_pulse (act_of_signal acts k)) (get_or start k false) (pulses left k) ∙ f.each k;
}

pub all_flagged : (count : ℕ) (all : List (List Act)) (flags : List Bool) → AreFlagged count all [] flags → IsPulseFlags count all flags
all_flagged count all flags f = record { len = f.len; each = λ k. sym (or_false (get_or flags k false)) ∙ f.each k }

-- ---- the first one

same_first : (f g : ℕ → Bool) → ((k : ℕ) → f k ≡ g k) → (n : ℕ) (acts : List Act) → first_not_low f n acts ≡ first_not_low g n acts
same_first f g e n [] = refl
same_first f g e n (a ∷ acts) = rw (e n) (ap (λ o. cond (is_not_low a && g n) (Some n) o) (same_first f g e (suc n) acts))

-- what the loop over the acts of a vector keeps
abbrev Ahead : (ℕ → Bool) → List Act → ℕ → Option ℕ → Type 0
Ahead f acts place whole = first_not_low f place (drop place acts) ≡ whole

one_ahead : (f : ℕ → Bool) (acts : List Act) (place : ℕ) (d : Act) (whole : Option ℕ) → place < length acts → Ahead f acts place whole
    → cond (is_not_low (get_or acts place d) && f place) (Some place) (first_not_low f (suc place) (drop (suc place) acts)) ≡ whole
one_ahead f acts place d whole less h = ap (first_not_low f place) (sym (drop-cons acts place d less)) ∙ h

pub low_passed : (f : ℕ → Bool) (acts : List Act) (place : ℕ) (d : Act) (whole : Option ℕ) → place < length acts → is_not_low (get_or acts place d) ≡ false → Ahead f acts place whole → Ahead f acts (place + 1) whole
low_passed f acts place d whole less low h = rw (add-one) (sym (ap (λ t. cond (t && f place) (Some place) (first_not_low f (suc place) (drop (suc place) acts))) low) ∙ one_ahead f acts place d whole less h)

pub flagless_passed : (f : ℕ → Bool) (acts : List Act) (place : ℕ) (d : Act) (whole : Option ℕ) → place < length acts → f place ≡ false → Ahead f acts place whole → Ahead f acts (place + 1) whole
flagless_passed f acts place d whole less unset h = rw (add-one)
    (sym (ap (λ t. cond t (Some place) (first_not_low f (suc place) (drop (suc place) acts))) (ap (λ u. is_not_low (get_or acts place d) && u) unset ∙ and_with_false (is_not_low (get_or acts place d)))) ∙ one_ahead f acts place d whole less h)

-- what the loop over the vectors keeps
abbrev VectorsAhead : List (List Act) → ℕ → Option Unsteady → Type 0
VectorsAhead vectors place whole = first_unsteady_from (pulses vectors) place (drop place vectors) ≡ whole

vector_ahead : (count : ℕ) (vectors : List (List Act)) (flags : List Bool) (acts : List Act) (place : ℕ) (d : List Act) (o : Option ℕ) (whole : Option Unsteady) → IsPulseFlags count vectors flags → place < length vectors
    → acts ≡ get_or vectors place d → o ≡ first_not_low (λ s. get_or flags s false) 0 acts → VectorsAhead vectors place whole → found_or place o (first_unsteady_from (pulses vectors) (suc place) (drop (suc place) vectors)) ≡ whole
vector_ahead count vectors flags acts place d o whole f less a e h =
    ap (λ o. found_or place o (first_unsteady_from (pulses vectors) (suc place) (drop (suc place) vectors))) (e ∙ same_first (λ s. get_or flags s false) (pulses vectors) f.each 0 acts ∙ ap (first_not_low (pulses vectors) 0) a)
    ∙ ap (first_unsteady_from (pulses vectors) place) (sym (drop-cons vectors place d less)) ∙ h

pub vector_passed : (count : ℕ) (vectors : List (List Act)) (flags : List Bool) (acts : List Act) (place : ℕ) (d : List Act) (whole : Option Unsteady) → IsPulseFlags count vectors flags → place < length vectors
    → acts ≡ get_or vectors place d → None ≡ first_not_low (λ s. get_or flags s false) 0 acts → VectorsAhead vectors place whole → VectorsAhead vectors (place + 1) whole
vector_passed count vectors flags acts place d whole f less a e h = rw (add-one) (vector_ahead count vectors flags acts place d None whole f less a e h)

pub vector_found : (count : ℕ) (vectors : List (List Act)) (flags : List Bool) (acts : List Act) (place signal : ℕ) (d : List Act) (whole : Option Unsteady) → IsPulseFlags count vectors flags → place < length vectors
    → acts ≡ get_or vectors place d → Some signal ≡ first_not_low (λ s. get_or flags s false) 0 acts → VectorsAhead vectors place whole → Some (record { vector = place; signal = signal }) ≡ whole
vector_found count vectors flags acts place signal d whole f less a e h = vector_ahead count vectors flags acts place d (Some signal) whole f less a e h

-- ---- what is found

unless : (t : Bool) (n : ℕ) (o : Option ℕ) → cond t (Some n) o ≡ None → (t ≡ false) × (o ≡ None)
unless true n o e = absurd (true≢false (ap is_some e))
unless false n o e = (refl, e)

none_here : (f : ℕ → Bool) (n : ℕ) (acts : List Act) → first_not_low f n acts ≡ None → (k : ℕ) → f (n + k) ≡ true → is_not_low (act_of_signal acts k) ≡ false
none_here f n [] e k h = refl
none_here f n (a ∷ acts) e zero h = first_false (is_not_low a) (f n) (unless _ n _ e).0 (ap f (omega arith) ∙ h)
none_here f n (a ∷ acts) e (suc k) h = none_here f (suc n) acts (unless _ n _ e).1 k (ap f (omega arith) ∙ h)

none_found : (v : ℕ) (o : Option ℕ) (behind : Option Unsteady) → found_or v o behind ≡ None → (o ≡ None) × (behind ≡ None)
none_found v None behind e = (refl, e)
none_found v (Some s) behind e = absurd (true≢false (ap is_some e))

none_from : (f : ℕ → Bool) (n : ℕ) (vs : List (List Act)) → first_unsteady_from f n vs ≡ None → (v k : ℕ) → f k ≡ true → is_not_low (act_of_signal (get_or vs v []) k) ≡ false
none_from f n [] e v k h = refl
none_from f n (acts ∷ vs) e zero k h = none_here f 0 acts (none_found n _ _ e).0 k (ap f (omega arith) ∙ h)
none_from f n (acts ∷ vs) e (suc v) k h = none_from f (suc n) vs (none_found n _ _ e).1 v k h

pulse_told : (vs : List (List Act)) (v s : ℕ) → act_of_signal (get_or vs v []) s ≡ Pulse → pulses vs s ≡ true
pulse_told [] v s e = absurd (true≢false (sym (ap is_pulse e)))
pulse_told (acts ∷ vs) zero s e = ap (λ a. is_pulse a || pulses vs s) e
pulse_told (acts ∷ vs) (suc v) s e = or_right (is_pulse (act_of_signal acts s)) (pulses vs s) (pulse_told vs v s e)

not_as : (a b : Act) → is_not_low a ≡ false → is_not_low b ≡ true → a ≢ b
not_as a b e h s = true≢false (sym h ∙ ap is_not_low (sym s) ∙ e)

pub none_is_steady : (p : Patterns) → first_unsteady p ≡ None → IsSteady p
none_is_steady p e signal pulsed other h =
    let low = none_from (pulses p.vectors) 0 p.vectors e other signal (pulse_told p.vectors pulsed signal h) in
    (not_as _ High low refl, not_as _ Unset low refl)

-- ---- where one is found the patterns are not steady

and_true : (a b : Bool) → (a && b) ≡ true → (b ≡ true) × (a ≡ true)
and_true true b e = (e, refl)
and_true false b e = absurd (true≢false (sym e))

-- a signal of these acts, the first of which has number n, is bad
abbrev BadHere : (ℕ → Bool) → ℕ → List Act → Type 0
BadHere f n acts = (k : ℕ) × (f (n + k) ≡ true) × (is_not_low (act_of_signal acts k) ≡ true)

bad_more : (f : ℕ → Bool) (n : ℕ) (a : Act) (acts : List Act) (t : Bool) → (is_not_low a && f n) ≡ t → is_some (cond t (Some n) (first_not_low f (suc n) acts)) ≡ true
    → (is_some (first_not_low f (suc n) acts) ≡ true → BadHere f (suc n) acts) → BadHere f n (a ∷ acts)
bad_more f n a acts true h g more = let b = and_true (is_not_low a) (f n) h in (0, ap f (omega arith) ∙ b.0, b.1)
bad_more f n a acts false h g more = let s = more g in (suc s.0, ap f (omega arith) ∙ s.1, s.2)

some_here : (f : ℕ → Bool) (n : ℕ) (acts : List Act) → is_some (first_not_low f n acts) ≡ true → BadHere f n acts
some_here f n [] e = absurd (true≢false (sym e))
some_here f n (a ∷ acts) e = bad_more f n a acts _ refl e (some_here f (suc n) acts)

-- a signal of one of these vectors is bad
abbrev BadAmong : (ℕ → Bool) → List (List Act) → Type 0
BadAmong f vs = (v : ℕ) × (k : ℕ) × (f k ≡ true) × (is_not_low (act_of_signal (get_or vs v []) k) ≡ true)

bad_behind : (f : ℕ → Bool) (n : ℕ) (acts : List Act) (vs : List (List Act)) (o : Option ℕ) → first_not_low f 0 acts ≡ o → is_some (found_or n o (first_unsteady_from f (suc n) vs)) ≡ true
    → (is_some (first_unsteady_from f (suc n) vs) ≡ true → BadAmong f vs) → BadAmong f (acts ∷ vs)
bad_behind f n acts vs (Some s) h g more = let s = some_here f 0 acts (ap is_some h) in (0, s.0, ap f (omega arith) ∙ s.1, s.2)
bad_behind f n acts vs None h g more = let s = more g in (suc s.0, s.1, s.2, s.3)

some_from : (f : ℕ → Bool) (n : ℕ) (vs : List (List Act)) → is_some (first_unsteady_from f n vs) ≡ true → BadAmong f vs
some_from f n [] e = absurd (true≢false (sym e))
some_from f n (acts ∷ vs) e = bad_behind f n acts vs _ refl e (some_from f (suc n) vs)

pulse_is : (a : Act) → is_pulse a ≡ true → a ≡ Pulse
pulse_is Pulse h = refl
pulse_is Unset h = absurd (true≢false (sym h))
pulse_is Low h = absurd (true≢false (sym h))
pulse_is High h = absurd (true≢false (sym h))
pulse_is ExpectLow h = absurd (true≢false (sym h))
pulse_is ExpectHigh h = absurd (true≢false (sym h))
pulse_is Ignore h = absurd (true≢false (sym h))

-- some of these vectors pulses the signal
abbrev PulseAmong : List (List Act) → ℕ → Type 0
PulseAmong vs s = (v : ℕ) × (act_of_signal (get_or vs v []) s ≡ Pulse)

pulse_behind : (acts : List Act) (vs : List (List Act)) (s : ℕ) (t : Bool) → is_pulse (act_of_signal acts s) ≡ t → (t || pulses vs s) ≡ true → (pulses vs s ≡ true → PulseAmong vs s) → PulseAmong (acts ∷ vs) s
pulse_behind acts vs s true h g more = (0, pulse_is (act_of_signal acts s) h)
pulse_behind acts vs s false h g more = let v = more g in (suc v.0, v.1)

pulse_somewhere : (vs : List (List Act)) (s : ℕ) → pulses vs s ≡ true → PulseAmong vs s
pulse_somewhere [] s e = absurd (true≢false (sym e))
pulse_somewhere (acts ∷ vs) s e = pulse_behind acts vs s _ refl e (pulse_somewhere vs s)

high_or_unset : (a : Act) → is_not_low a ≡ true → (a ≡ High → ⊥) → (a ≡ Unset → ⊥) → ⊥
high_or_unset High h f g = f refl
high_or_unset Unset h f g = g refl
high_or_unset Low h f g = true≢false (sym h)
high_or_unset Pulse h f g = true≢false (sym h)
high_or_unset ExpectLow h f g = true≢false (sym h)
high_or_unset ExpectHigh h f g = true≢false (sym h)
high_or_unset Ignore h f g = true≢false (sym h)

pub some_is_unsteady : (p : Patterns) → is_some (first_unsteady p) ≡ true → IsSteady p → ⊥
some_is_unsteady p e h =
    let s = some_from (pulses p.vectors) 0 p.vectors e in
    let v = pulse_somewhere p.vectors s.1 s.2 in
    let low = h s.1 v.0 s.0 v.1 in
    high_or_unset _ s.3 low.0 low.1

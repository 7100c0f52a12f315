-- The first and the last times that a reader keeps say of all pairs of times what they are asked.
use Rattle.std.proofs.Common.{◌≡◌, ℕ, suc, Bool, true, false, cond, true≢false, ◌&&◌, ◌||◌, nat_lt, List, [], ◌∷◌, ◌++◌, flat_map, All, Option, Some, None, is_some, refl, sym, ap, ◌∙◌, arith}
use Rattle.std.specs.List.{list_all}
use Rattle.std.proofs.lemmas.Bool.Decides.{nat_tests}
use Rattle.dft_base.specs.declared.dir.Dir.{Dir}
use Rattle.dft_base.specs.declared.dir.Dir.TheVariants.{Input, Output}
use Rattle.dft_base.proofs.BitLemmas.{and_first, and_second, with_true}
use Rattle.dft_patterns.specs.declared.act.Act.{Act}
use Rattle.dft_patterns.specs.declared.act.Act.TheVariants.{Low, High, ExpectLow, ExpectHigh, Ignore}
use Rattle.dft_patterns.specs.declared.shapes.Event.{Event}
use Rattle.dft_patterns.specs.declared.shapes.Drawing.{Drawing}
use Rattle.dft_patterns.specs.declared.shapes.Drawing.TheVariants.{Begun, One, Two, Three, Many}
use Rattle.dft_patterns.specs.declared.times.Times.{Times}
use Rattle.dft_patterns.specs.Drawings.{is, before, begins_shape, act_of_events}
use Rattle.dft_patterns.specs.Times.{no_times, later, earlier, with_setting, with_strobe, with_pulse, with_last, with_times, all_before}
use Rattle.dft_waveform_laws.specs.PairsOfTimes.{event_times, settings_of, strobes_of, rises_of, falls_of, setting_times, strobe_times, rise_times, fall_times, each_before, some_time, times_kept}
use Rattle.dft_waveform_laws.specs.Laws.{IsWhole, TimesByPairs}

-- ---- the last and the first of some times

-- the last of these times is before a time
abbrev below : Option ℕ → ℕ → Bool
below None bound = true
below (Some last) bound = nat_lt last bound

-- the first of these times is behind a time
abbrev above : Option ℕ → ℕ → Bool
above None bound = true
above (Some first) bound = nat_lt bound first

abbrev IsLast : Option ℕ → List ℕ → Type 0
IsLast o ts = (bound : ℕ) → below o bound ≡ list_all (λ t. nat_lt t bound) ts

abbrev IsFirst : Option ℕ → List ℕ → Type 0
IsFirst o ts = (bound : ℕ) → above o bound ≡ list_all (λ t. nat_lt bound t) ts

later_of : (t : Bool) (last time bound : ℕ) → nat_lt last time ≡ t → nat_lt (cond t time last) bound ≡ (nat_lt time bound && nat_lt last bound)
later_of true last time bound e = grind (arith, nat_tests)
later_of false last time bound e = grind (arith, nat_tests)

earlier_of : (t : Bool) (first time bound : ℕ) → nat_lt time first ≡ t → nat_lt bound (cond t time first) ≡ (nat_lt bound time && nat_lt bound first)
earlier_of true first time bound e = grind (arith, nat_tests)
earlier_of false first time bound e = grind (arith, nat_tests)

below_later : (o : Option ℕ) (time bound : ℕ) → below (later o time) bound ≡ (nat_lt time bound && below o bound)
below_later None time bound = with_true (nat_lt time bound)
below_later (Some last) time bound = later_of (nat_lt last time) last time bound refl

above_earlier : (o : Option ℕ) (time bound : ℕ) → above (earlier o time) bound ≡ (nat_lt bound time && above o bound)
above_earlier None time bound = with_true (nat_lt bound time)
above_earlier (Some first) time bound = earlier_of (nat_lt time first) first time bound refl

last_more : (o : Option ℕ) (time : ℕ) (ts : List ℕ) → IsLast o ts → IsLast (later o time) (time ∷ ts)
last_more o time ts h bound = below_later o time bound ∙ ap (λ b. nat_lt time bound && b) (h bound)

first_more : (o : Option ℕ) (time : ℕ) (ts : List ℕ) → IsFirst o ts → IsFirst (earlier o time) (time ∷ ts)
first_more o time ts h bound = above_earlier o time bound ∙ ap (λ b. nat_lt bound time && b) (h bound)

-- a time that is before the first of these changes no last
before_it : (a b : ℕ) (bound : ℕ) (rest : Bool) → nat_lt a b ≡ true → (nat_lt b bound && rest) ≡ (nat_lt a bound && (nat_lt b bound && rest))
before_it a b bound rest less = by (nat_lt a bound) (nat_lt b bound) rest (λ n. grind (arith, nat_tests)) where
  by : (m n rest : Bool) → (n ≡ true → m ≡ true) → (n && rest) ≡ (m && (n && rest))
  by true n rest h = refl
  by false false rest h = refl
  by false true rest h = absurd (true≢false (sym (h refl)))

last_earlier : (o : Option ℕ) (a b : ℕ) (ts : List ℕ) → nat_lt a b ≡ true → IsLast o (b ∷ ts) → IsLast o (a ∷ b ∷ ts)
last_earlier o a b ts less h bound = h bound ∙ before_it a b bound (list_all (λ t. nat_lt t bound) ts) less

-- ---- pairs

all_same : (p q : ℕ → Bool) → ((t : ℕ) → p t ≡ q t) → (ts : List ℕ) → list_all p ts ≡ list_all q ts
all_same p q h [] = refl
all_same p q h (t ∷ ts) = rw (h t, all_same p q h ts) refl

all_true : (ts : List ℕ) → true ≡ list_all (λ t. true) ts
all_true [] = refl
all_true (t ∷ ts) = all_true ts

none_before : (ts us : List ℕ) → true ≡ list_all (λ t. nat_lt t 0) ts → true ≡ each_before ts us
none_before [] us h = refl
none_before (t ∷ ts) us h = absurd (true≢false (h ∙ none (nat_lt t 0) (grind (arith, nat_tests)))) where
  none : (b : Bool) → b ≡ false → (b && list_all (λ t. nat_lt t 0) ts) ≡ false
  none false e = refl
  none true e = absurd (true≢false e)

ordered : (o p : Option ℕ) (ts us : List ℕ) → IsLast o ts → IsFirst p us → all_before o p ≡ each_before ts us
ordered (Some last) (Some first) ts us h g = h first ∙ all_same (λ t. nat_lt t first) (λ t. list_all (λ u. nat_lt t u) us) g ts
ordered (Some last) None ts us h g = all_true ts ∙ all_same (λ t. true) (λ t. list_all (λ u. nat_lt t u) us) g ts
ordered None p ts us h g = none_before ts us (h 0)

one_first : (time : ℕ) → IsFirst (Some time) (time ∷ [])
one_first time bound = with_true (nat_lt bound time)

-- ---- what a reader keeps

-- these are the first and last of these settings, strobes, rises and falls, and of all these times
record Keeps (t : Times) (ss qs rs fs ts : List ℕ) : Type 0 where
  last_setting : IsLast t.last_setting ss
  first_strobe : IsFirst t.first_strobe qs
  last_strobe : IsLast t.last_strobe qs
  first_rise : IsFirst t.first_rise rs
  last_rise : IsLast t.last_rise rs
  first_fall : IsFirst t.first_fall fs
  last : IsLast t.last ts
  strobed : is_some t.first_strobe ≡ some_time qs

none_kept : Keeps no_times [] [] [] [] []
none_kept = record {
  last_setting = λ bound. refl;
  first_strobe = λ bound. refl;
  last_strobe = λ bound. refl;
  first_rise = λ bound. refl;
  last_rise = λ bound. refl;
  first_fall = λ bound. refl;
  last = λ bound. refl;
  strobed = refl;
}

set_keeps : (time : ℕ) (t : Times) (ss qs rs fs ts : List ℕ) → Keeps t ss qs rs fs ts → Keeps (with_setting time t) (time ∷ ss) qs rs fs ts
set_keeps time t ss qs rs fs ts k = record {
  last_setting = last_more t.last_setting time ss k.last_setting;
  first_strobe = k.first_strobe;
  last_strobe = k.last_strobe;
  first_rise = k.first_rise;
  last_rise = k.last_rise;
  first_fall = k.first_fall;
  last = k.last;
  strobed = k.strobed;
}

some_earlier : (o : Option ℕ) (time : ℕ) → is_some (earlier o time) ≡ true
some_earlier None time = refl
some_earlier (Some first) time = refl

strobe_keeps : (time : ℕ) (t : Times) (ss qs rs fs ts : List ℕ) → Keeps t ss qs rs fs ts → Keeps (with_strobe time t) ss (time ∷ qs) rs fs ts
strobe_keeps time t ss qs rs fs ts k = record {
  last_setting = k.last_setting;
  first_strobe = first_more t.first_strobe time qs k.first_strobe;
  last_strobe = last_more t.last_strobe time qs k.last_strobe;
  first_rise = k.first_rise;
  last_rise = k.last_rise;
  first_fall = k.first_fall;
  last = k.last;
  strobed = some_earlier t.first_strobe time;
}

pulse_keeps : (rise fall : ℕ) (t : Times) (ss qs rs fs ts : List ℕ) → Keeps t ss qs rs fs ts → Keeps (with_pulse rise fall t) ss qs (rise ∷ rs) (fall ∷ fs) ts
pulse_keeps rise fall t ss qs rs fs ts k = record {
  last_setting = k.last_setting;
  first_strobe = k.first_strobe;
  last_strobe = k.last_strobe;
  first_rise = first_more t.first_rise rise rs k.first_rise;
  last_rise = last_more t.last_rise rise rs k.last_rise;
  first_fall = first_more t.first_fall fall fs k.first_fall;
  last = k.last;
  strobed = k.strobed;
}

last_keeps : (time : ℕ) (t : Times) (ss qs rs fs ts : List ℕ) → Keeps t ss qs rs fs ts → Keeps (with_last time t) ss qs rs fs (time ∷ ts)
last_keeps time t ss qs rs fs ts k = record {
  last_setting = k.last_setting;
  first_strobe = k.first_strobe;
  last_strobe = k.last_strobe;
  first_rise = k.first_rise;
  last_rise = k.last_rise;
  first_fall = k.first_fall;
  last = last_more t.last time ts k.last;
  strobed = k.strobed;
}

earlier_keeps : (a b : ℕ) (t : Times) (ss qs rs fs ts : List ℕ) → nat_lt a b ≡ true → Keeps t ss qs rs fs (b ∷ ts) → Keeps t ss qs rs fs (a ∷ b ∷ ts)
earlier_keeps a b t ss qs rs fs ts less k = record {
  last_setting = k.last_setting;
  first_strobe = k.first_strobe;
  last_strobe = k.last_strobe;
  first_rise = k.first_rise;
  last_rise = k.last_rise;
  first_fall = k.first_fall;
  last = last_earlier t.last a b ts less k.last;
  strobed = k.strobed;
}

-- what a single event does, by its letter
abbrev of_one : (d u x l h : Bool) → Option Act
of_one d u x l h = cond d (Some Low) (cond u (Some High) (cond x (Some Ignore) (cond l (Some ExpectLow) (cond h (Some ExpectHigh) None))))

one_keeps : (d u x l h : Bool) (time : ℕ) (t : Times) (ss qs rs fs ts : List ℕ) → Keeps t ss qs rs fs ts → (x ≡ true → (l || h) ≡ false) → is_some (of_one d u x l h) ≡ true
    → Keeps (with_last time (cond (d || u) (with_setting time t) (cond (l || h) (with_strobe time t) t))) (settings_of (of_one d u x l h) (time ∷ []) ++ ss) (strobes_of (of_one d u x l h) (time ∷ []) ++ qs) (rises_of (of_one d u x l h) (time ∷ []) ++ rs)
    (falls_of (of_one d u x l h) (time ∷ []) ++ fs) (time ∷ ts)
one_keeps true u x l h time t ss qs rs fs ts k apart some = last_keeps time (with_setting time t) (time ∷ ss) qs rs fs ts (set_keeps time t ss qs rs fs ts k)
one_keeps false true x l h time t ss qs rs fs ts k apart some = last_keeps time (with_setting time t) (time ∷ ss) qs rs fs ts (set_keeps time t ss qs rs fs ts k)
one_keeps false false true true h time t ss qs rs fs ts k apart some = absurd (true≢false (apart refl))
one_keeps false false true false true time t ss qs rs fs ts k apart some = absurd (true≢false (apart refl))
one_keeps false false true false false time t ss qs rs fs ts k apart some = last_keeps time t ss qs rs fs ts k
one_keeps false false false true h time t ss qs rs fs ts k apart some = last_keeps time (with_strobe time t) ss (time ∷ qs) rs fs ts (strobe_keeps time t ss qs rs fs ts k)
one_keeps false false false false true time t ss qs rs fs ts k apart some = last_keeps time (with_strobe time t) ss (time ∷ qs) rs fs ts (strobe_keeps time t ss qs rs fs ts k)
one_keeps false false false false false time t ss qs rs fs ts k apart some = absurd (true≢false (sym some))

-- what two events do that are a waveform, by the letter of the second
abbrev of_two : (m n : Bool) → Option Act
of_two m n = cond m (Some ExpectLow) (cond n (Some ExpectHigh) None)

two_keeps : (m n : Bool) (a b : ℕ) (t : Times) (ss qs rs fs ts : List ℕ) → Keeps t ss qs rs fs ts → nat_lt a b ≡ true → is_some (of_two m n) ≡ true
    → Keeps (with_last b (with_strobe b t)) (settings_of (of_two m n) (a ∷ b ∷ []) ++ ss) (strobes_of (of_two m n) (a ∷ b ∷ []) ++ qs) (rises_of (of_two m n) (a ∷ b ∷ []) ++ rs) (falls_of (of_two m n) (a ∷ b ∷ []) ++ fs) (a ∷ b ∷ ts)
two_keeps true n a b t ss qs rs fs ts k less some = earlier_keeps a b (with_last b (with_strobe b t)) ss (b ∷ qs) rs fs ts less (last_keeps b (with_strobe b t) ss (b ∷ qs) rs fs ts (strobe_keeps b t ss qs rs fs ts k))
two_keeps false true a b t ss qs rs fs ts k less some = earlier_keeps a b (with_last b (with_strobe b t)) ss (b ∷ qs) rs fs ts less (last_keeps b (with_strobe b t) ss (b ∷ qs) rs fs ts (strobe_keeps b t ss qs rs fs ts k))
two_keeps false false a b t ss qs rs fs ts k less some = absurd (true≢false (sym some))

three_keeps : (a b c : ℕ) (t : Times) (ss qs rs fs ts : List ℕ) → Keeps t ss qs rs fs ts → nat_lt a b ≡ true → nat_lt b c ≡ true
    → Keeps (with_last c (with_pulse b c (with_setting a t))) (a ∷ ss) qs (b ∷ rs) (c ∷ fs) (a ∷ b ∷ c ∷ ts)
three_keeps a b c t ss qs rs fs ts k less more =
    let set = set_keeps a t ss qs rs fs ts k in
    let pulse = pulse_keeps b c (with_setting a t) (a ∷ ss) qs rs fs ts set in
    let all = last_keeps c (with_pulse b c (with_setting a t)) (a ∷ ss) qs (b ∷ rs) (c ∷ fs) ts pulse in
    earlier_keeps a b (with_last c (with_pulse b c (with_setting a t))) (a ∷ ss) qs (b ∷ rs) (c ∷ fs) (c ∷ ts) less
    (earlier_keeps b c (with_last c (with_pulse b c (with_setting a t))) (a ∷ ss) qs (b ∷ rs) (c ∷ fs) ts more all)

-- an X is no strobe
apart : (a : Event) → is 88 a ≡ true → (is 76 a || is 72 a) ≡ false
apart a e = grind (arith, nat_tests)

-- the times of a waveform more
abbrev More : Drawing → Times → (ss qs rs fs ts : List ℕ) → Type 0
More d t ss qs rs fs ts = Keeps (with_times d t) (setting_times d ++ ss) (strobe_times d ++ qs) (rise_times d ++ rs) (fall_times d ++ fs) (event_times d ++ ts)

more_kept : (dir : Dir) (d : Drawing) (t : Times) (ss qs rs fs ts : List ℕ) → Keeps t ss qs rs fs ts → begins_shape dir d ≡ true → is_some (act_of_events d) ≡ true → More d t ss qs rs fs ts
more_kept dir Begun t ss qs rs fs ts k e some = absurd (true≢false (sym some))
more_kept dir (One a) t ss qs rs fs ts k e some = one_keeps (is 68 a) (is 85 a) (is 88 a) (is 76 a) (is 72 a) a.time t ss qs rs fs ts k (apart a) some
more_kept Input (Two a b) t ss qs rs fs ts k e some =
    two_keeps (is 76 b) (is 72 b) a.time b.time t ss qs rs fs ts k (and_second (is 68 a && is 85 b) (before a b) e) some
more_kept Output (Two a b) t ss qs rs fs ts k e some =
    two_keeps (is 76 b) (is 72 b) a.time b.time t ss qs rs fs ts k (and_second (is 88 a && (is 76 b || is 72 b)) (before a b) e) some
more_kept Input (Three a b c) t ss qs rs fs ts k e some =
    let start : Bool = is 68 a && is 85 b && is 68 c in
    three_keeps a.time b.time c.time t ss qs rs fs ts k (and_second start (before a b) (and_first (start && before a b) (before b c) e)) (and_second (start && before a b) (before b c) e)
more_kept Output (Three a b c) t ss qs rs fs ts k e some = absurd (true≢false (sym e))
more_kept dir Many t ss qs rs fs ts k e some = absurd (true≢false (sym some))

abbrev AllKept : List Drawing → Type 0
AllKept ds = Keeps (times_kept ds) (flat_map setting_times ds) (flat_map strobe_times ds) (flat_map rise_times ds) (flat_map fall_times ds) (flat_map event_times ds)

all_kept : (ds : List Drawing) → All (λ d. IsWhole d) ds → AllKept ds
all_kept [] h = none_kept
all_kept (d ∷ ds) h =
    let one = h 0 d (omega arith) in
    more_kept one.dir d (times_kept ds) (flat_map setting_times ds) (flat_map strobe_times ds) (flat_map rise_times ds) (flat_map fall_times ds) (flat_map event_times ds) (all_kept ds (λ n e l. h (suc n) e (omega arith))) one.begun one.whole

pub paired : TimesByPairs
paired period ds h =
    let k = all_kept ds h in
    rw (
      ordered (times_kept ds).last_setting (times_kept ds).first_strobe (flat_map setting_times ds) (flat_map strobe_times ds) k.last_setting k.first_strobe,
      ordered (times_kept ds).last_strobe (times_kept ds).first_rise (flat_map strobe_times ds) (flat_map rise_times ds) k.last_strobe k.first_rise,
      ordered (times_kept ds).last_rise (times_kept ds).first_fall (flat_map rise_times ds) (flat_map fall_times ds) k.last_rise k.first_fall,
      ordered (times_kept ds).last (Some period) (flat_map event_times ds) (period ∷ []) k.last (one_first period),
      ordered (times_kept ds).last_setting (times_kept ds).first_rise (flat_map setting_times ds) (flat_map rise_times ds) k.last_setting k.first_rise,
      k.strobed,
    ) refl

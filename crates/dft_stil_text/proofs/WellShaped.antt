-- The acts of a table are of their signals' directions.
use Rattle.std.proofs.Common.{◌≡◌, ◌≢◌, ℕ, zero, suc, ◌<◌, ◌≤◌, ◌*◌, Bool, true, false, cond, true≢false, ◌||◌, ◌&&◌, ◌==◌, List, [], ◌∷◌, replicate, length, get_or, slice_set, get_or-set_same, get_or-set_other, All, Option, Some, None, is_some, inl, inr, ◌⊎◌, refl, sym, ap, subst, ◌∙◌, ◌+◌, take, arith}
use Rattle.std.specs.Prelude.{slice_index, unwrap_or}
use Rattle.std.specs.List.{prefix_len}
use Rattle.std.specs.Char.{is_ascii_alphanumeric}
use Rattle.std.proofs.lemmas.Bool.{cases_lt}
use Rattle.std.proofs.lemmas.Bool.Decides.{nat_tests}
use Rattle.std.proofs.lemmas.List.{length-set, get_or_past}
use Rattle.std.proofs.lemmas.List.Elements.{All-append}
use Rattle.dft_base.specs.Lexing.{Text}
use Rattle.dft_base.specs.declared.dir.Dir.{Dir}
use Rattle.dft_base.specs.declared.dir.Dir.TheVariants.{Input, Output}
use Rattle.dft_base.proofs.BitLemmas.{and_first, and_second}
use Rattle.dft_patterns.specs.declared.act.Act.{Act}
use Rattle.dft_patterns.specs.declared.act.Act.TheVariants.{Low, High, Pulse, ExpectLow, ExpectHigh, Ignore}
use Rattle.dft_patterns.specs.declared.shapes.Event.{Event}
use Rattle.dft_patterns.specs.declared.shapes.Drawing.{Drawing}
use Rattle.dft_patterns.specs.declared.shapes.Drawing.TheVariants.{Begun, One, Two, Three, Many}
use Rattle.dft_stil_tokens.specs.declared.text.TokenKind.TheVariants as kind
use Rattle.dft_patterns.specs.Acts.{IsActOf}
use Rattle.dft_stil_tokens.specs.Steps.{left, next, no_token, bytes, sees, run, sees_run, one_character, single, expect, eat, keyword, one_letter, name}
use Rattle.dft_stil_text.specs.SignalGroups.{Names, name_if_any}
use Rattle.dft_patterns.specs.Drawings.{is, begins_shape, extended, act_of_event, act_of_events, act_drawn}
use Rattle.dft_stil_text.specs.WaveformTables as spec
use Rattle.dft_stil_text.specs.WaveformTables.{place_of_character, act_of, with_waveform, dir_of, begin_all, time, event_letter, event, events_from, waveform, waveforms_from, signal_waveforms, signal_waveforms_from, table_body, waveform_table, waveform_tables_from, timing}
use Rattle.dft_stil_text.proofs.GivenRules.{Gives, after_any, then_gives, pure_gives, refuse_gives, if_gives, if_of, ok_gives, err_gives, needed_gives, given_gives}

abbrev act_or : Act → Option Act → Act
act_or d (Some a) = a
act_or d None = d

-- ---- waveforms

told : (dir : Dir) (a b : Act) → IsActOf dir a → Some a ≡ Some b → IsActOf dir b
told dir a b h e = subst (IsActOf dir) (ap (act_or a) e) h

no_act : (dir : Dir) (b : Act) → None ≡ Some b → IsActOf dir b
no_act dir b e = absurd (true≢false (sym (ap is_some e)))

input_one : (t u : Bool) (rest : Option Act) (b : Act) → (t || u) ≡ true → cond t (Some Low) (cond u (Some High) rest) ≡ Some b → IsActOf Input b
input_one true u rest b h e = told Input Low b tt e
input_one false true rest b h e = told Input High b tt e
input_one false false rest b h e = absurd (true≢false (sym h))

output_one : (x l h : Bool) (b : Act) → cond x (Some Ignore) (cond l (Some ExpectLow) (cond h (Some ExpectHigh) None)) ≡ Some b → IsActOf Output b
output_one true l h b e = told Output Ignore b tt e
output_one false true h b e = told Output ExpectLow b tt e
output_one false false true b e = told Output ExpectHigh b tt e
output_one false false false b e = no_act Output b e

output_two : (l h : Bool) (b : Act) → cond l (Some ExpectLow) (cond h (Some ExpectHigh) None) ≡ Some b → IsActOf Output b
output_two true h b e = told Output ExpectLow b tt e
output_two false true b e = told Output ExpectHigh b tt e
output_two false false b e = no_act Output b e

second : (a b c : Bool) → (a && b && c) ≡ true → b ≡ true
second true true c e = refl
second true false c e = absurd (true≢false (sym e))
second false b c e = absurd (true≢false (sym e))

input_two : (b : Act) (e : Event) → is 85 e ≡ true → cond (is 76 e) (Some ExpectLow) (cond (is 72 e) (Some ExpectHigh) None) ≡ Some b → IsActOf Input b
input_two b e u h =
    let l : is 76 e ≡ false = grind (arith, nat_tests) in
    let k : is 72 e ≡ false = grind (arith, nat_tests) in
    no_act Input b (sym (ap (λ t. cond t (Some ExpectLow) (cond (is 72 e) (Some ExpectHigh) None)) l ∙ ap (λ t. cond t (Some ExpectHigh) None) k) ∙ h)

output_event : (b : Act) (e : Event) → (is 88 e || is 76 e || is 72 e) ≡ true → act_of_event e ≡ Some b → IsActOf Output b
output_event b e h g =
    let d : is 68 e ≡ false = grind (arith, nat_tests) in
    let u : is 85 e ≡ false = grind (arith, nat_tests) in
    output_one (is 88 e) (is 76 e) (is 72 e) b
    (sym (ap (λ t. cond t (Some Low) (cond (is 85 e) (Some High) (cond (is 88 e) (Some Ignore) (cond (is 76 e) (Some ExpectLow) (cond (is 72 e) (Some ExpectHigh) None))))) d
    ∙ ap (λ t. cond t (Some High) (cond (is 88 e) (Some Ignore) (cond (is 76 e) (Some ExpectLow) (cond (is 72 e) (Some ExpectHigh) None)))) u) ∙ g)

pub fits_dir : (dir : Dir) (d : Drawing) (b : Act) → begins_shape dir d ≡ true → act_of_events d ≡ Some b → IsActOf dir b
fits_dir Input Begun b h e = absurd (true≢false (sym h))
fits_dir Input (One a) b h e = input_one (is 68 a) (is 85 a) _ b h e
fits_dir Input (Two a c) b h e = input_two b c (second (is 68 a) (is 85 c) _ h) e
fits_dir Input (Three a c f) b h e = told Input Pulse b tt e
fits_dir Input Many b h e = absurd (true≢false (sym h))
fits_dir Output Begun b h e = absurd (true≢false (sym h))
fits_dir Output (One a) b h e = output_event b a h e
fits_dir Output (Two a c) b h e = output_two (is 76 c) (is 72 c) b e
fits_dir Output (Three a c f) b h e = absurd (true≢false (sym h))
fits_dir Output Many b h e = absurd (true≢false (sym h))

-- ---- tables

-- what each character means for a signal is of the signal's direction
abbrev pub Fit : Names → spec.Waveforms → Type 0
Fit names waveforms = (n c : ℕ) (b : Act) → c < 256 → act_of waveforms n c ≡ Some b → IsActOf (dir_of names n) b

set_at : (acts : List (Option Act)) (k : ℕ) (a b : Act) → ((k < length acts) ⊎ (length acts ≤ k)) → get_or (slice_set acts k (Some a)) k None ≡ Some b → a ≡ b
set_at acts k a b (inl less) e = ap (act_or a) (sym (get_or-set_same acts k (Some a) None less) ∙ e)
set_at acts k a b (inr far) e =
    absurd (true≢false (sym (ap is_some (sym (get_or_past (slice_set acts k (Some a)) k None (omega (arith, length-set acts k (Some a)))) ∙ e))))

set_fits' : (names : Names) (waveforms : spec.Waveforms) (n c : ℕ) (a : Act) (m d : ℕ) (b : Act) (t : Bool) → (place_of_character m d == place_of_character n c) ≡ t → Fit names waveforms → c < 256 → d < 256 → IsActOf (dir_of names n) a
    → get_or (slice_set waveforms.acts (place_of_character n c) (Some a)) (place_of_character m d) None ≡ Some b → IsActOf (dir_of names m) b
set_fits' names waveforms n c a m d b true same f small less h e =
    let place : place_of_character m d ≡ place_of_character n c = grind (arith, nat_tests) in
    let signal : n ≡ m = omega arith in
    let act = set_at waveforms.acts (place_of_character n c) a b (cases_lt (place_of_character n c) (length waveforms.acts)) (ap (λ k. get_or (slice_set waveforms.acts (place_of_character n c) (Some a)) k None) (sym place) ∙ e) in
    subst (λ k. IsActOf (dir_of names k) b) signal (subst (IsActOf (dir_of names n)) act h)
set_fits' names waveforms n c a m d b false other f small less h e =
    let apart : place_of_character m d ≢ place_of_character n c = grind (arith, nat_tests) in
    f m d b less (sym (get_or-set_other waveforms.acts (place_of_character n c) (place_of_character m d) (Some a) None apart) ∙ e)

set_fits : (names : Names) (waveforms : spec.Waveforms) (n c : ℕ) (a : Act) → Fit names waveforms → c < 256 → IsActOf (dir_of names n) a → Fit names (record { acts = slice_set waveforms.acts (place_of_character n c) (Some a) })
set_fits names waveforms n c a f small h m d b less e = set_fits' names waveforms n c a m d b _ refl f small less h e

waveform_fits' : (names : Names) (signals : List ℕ) (c : ℕ) (a : Act) (d : Drawing) (waveforms : spec.Waveforms) → begin_all names signals d ≡ true → act_of_events d ≡ Some a → c < 256 → Fit names waveforms → Fit names (with_waveform signals c a waveforms)
waveform_fits' names [] c a d waveforms h e small f = f
waveform_fits' names (n ∷ signals) c a d waveforms h e small f =
    waveform_fits' names signals c a d _ (and_second (begins_shape (dir_of names n) d) _ h) e small
    (set_fits names waveforms n c a f small (fits_dir (dir_of names n) d a (and_first (begins_shape (dir_of names n) d) _ h) e))

-- ---- characters and events

-- the first byte of a run is small
first_small : (bs : Text) → slice_index (take (prefix_len is_ascii_alphanumeric bs) bs) 0 < 256
first_small [] = omega arith
first_small (b ∷ bs) = one (is_ascii_alphanumeric b) refl where
  one : (t : Bool) → is_ascii_alphanumeric b ≡ t → slice_index (take (cond t (1 + prefix_len is_ascii_alphanumeric bs) 0) (b ∷ bs)) 0 < 256
  one true e = let more : 1 + prefix_len is_ascii_alphanumeric bs ≡ suc (prefix_len is_ascii_alphanumeric bs) = omega arith in rw more (grind (arith, nat_tests))
  one false e = omega arith

abbrev Small : ℕ → Type 0
Small c = c < 256

pub character_small : Gives Small one_character
unfolding one_character
character_small ts =
    if_of Small (sees_run ts) _ _ (λ _. if_of Small (length (run ts) == 1) _ _ (λ _. ok_gives Small (slice_index (run ts) 0) ts (first_small (bytes ts))) (λ _. err_gives Small _)) (λ _. err_gives Small _)

-- a drawing that begins a waveform of each signal
abbrev Begins : Names → List ℕ → Drawing → Type 0
Begins names signals d = begin_all names signals d ≡ true

letter_begins : (names : Names) (signals : List ℕ) (d : Drawing) (at : ℕ) → Gives (Begins names signals) (event_letter names signals d at)
unfolding event_letter
letter_begins names signals d at ts =
    after_any (Begins names signals) one_letter _ (λ l. needed_gives (Begins names signals) _ _ _ _ (λ h. after_any (Begins names signals) single _ (λ u.
    pure_gives (Begins names signals) (extended d (spec.event_at l at)) h))) ts

event_begins : (names : Names) (signals : List ℕ) (d : Drawing) → Gives (Begins names signals) (event names signals d)
unfolding event
event_begins names signals d = after_any (Begins names signals) time _ (λ at. then_gives (Begins names signals) (Begins names signals) (event_letter names signals d at) _ (letter_begins names signals d at)
    (λ more h. after_any (Begins names signals) (expect kind.Semicolon) _ (λ u. pure_gives (Begins names signals) more h)))

-- a whole waveform
abbrev Whole : Names → List ℕ → Drawing → Type 0
Whole names signals d = (Begins names signals d) × (is_some (act_of_events d) ≡ true)

ended_whole : (names : Names) (signals : List ℕ) (d : Drawing) (o : Option Act) → act_of_events d ≡ o → ((d ≡ Begun) ⊎ Begins names signals d) → Gives (Whole names signals) (spec.waveform_end d o)
ended_whole names signals d None e h ts = err_gives (Whole names signals) _
ended_whole names signals d (Some a) e (inl b) ts = absurd (true≢false (sym (ap is_some (ap act_of_events (sym b) ∙ e))))
ended_whole names signals d (Some a) e (inr b) ts = ok_gives (Whole names signals) d (next ts) (b, ap is_some e)

events_whole : (n : ℕ) (names : Names) (signals : List ℕ) (d : Drawing) → ((d ≡ Begun) ⊎ Begins names signals d) → Gives (Whole names signals) (events_from n names signals d)
unfolding events_from
events_whole zero names signals d h = refuse_gives (Whole names signals) no_token
events_whole (suc n) names signals d h = λ ts.
    if_of (Whole names signals) (sees kind.CloseBrace ts) (spec.waveform_end d (act_of_events d) ts) _ (λ _. ended_whole names signals d _ refl h ts)
    (λ _. then_gives (Begins names signals) (Whole names signals) (event names signals d) _ (event_begins names signals d) (λ more g. events_whole n names signals more (inr g)) ts)

some_or : (o : Option Act) → is_some o ≡ true → o ≡ Some (unwrap_or o Ignore)
some_or (Some a) h = refl
some_or None h = absurd (true≢false (sym h))

-- ---- rules

abbrev TableFits : Names → spec.WaveformTable → Type 0
TableFits names t = Fit names t.waveforms

waveform_fits : (names : Names) (signals : List ℕ) (t : spec.WaveformTable) → TableFits names t → Gives (TableFits names) (waveform names signals t)
unfolding waveform
waveform_fits names signals t f ts =
    then_gives Small (TableFits names) one_character _ character_small (λ c small. needed_gives (TableFits names) _ _ _ _ (λ fresh. after_any (TableFits names) single _ (λ v. after_any (TableFits names) (expect kind.OpenBrace) _ (λ u.
    then_gives (Whole names signals) (TableFits names) _ _ (λ us. events_whole (left us) names signals Begun (inl refl) us)
    (λ d w. pure_gives (TableFits names) (spec.drawn signals c (act_drawn d) d t) (waveform_fits' names signals c (act_drawn d) d t.waveforms w.0 (some_or (act_of_events d) w.1) small f)))))) ts

waveforms_fit : (n : ℕ) (names : Names) (signals : List ℕ) (t : spec.WaveformTable) → TableFits names t → Gives (TableFits names) (waveforms_from n names signals t)
unfolding waveforms_from
waveforms_fit zero names signals t f = refuse_gives (TableFits names) no_token
waveforms_fit (suc n) names signals t f =
    after_any (TableFits names) (eat kind.CloseBrace) _ (λ end. if_gives (TableFits names) end _ _ (λ _. pure_gives (TableFits names) t f)
    (λ _. then_gives (TableFits names) (TableFits names) (waveform names signals t) _ (waveform_fits names signals t f) (λ more g. waveforms_fit n names signals more g)))

signal_waveform_fits : (names : Names) (t : spec.WaveformTable) → TableFits names t → Gives (TableFits names) (signal_waveforms names t)
unfolding signal_waveforms
signal_waveform_fits names t f ts =
    after_any (TableFits names) name _ (λ word. given_gives (TableFits names) _ _ _ _ (λ m _. after_any (TableFits names) (expect kind.OpenBrace) _ (λ u us. waveforms_fit (left us) names m.signals t f us))) ts

signal_waveforms_fit : (n : ℕ) (names : Names) (t : spec.WaveformTable) → TableFits names t → Gives (TableFits names) (signal_waveforms_from n names t)
unfolding signal_waveforms_from
signal_waveforms_fit zero names t f = refuse_gives (TableFits names) no_token
signal_waveforms_fit (suc n) names t f =
    after_any (TableFits names) (eat kind.CloseBrace) _ (λ end. if_gives (TableFits names) end _ _ (λ _. pure_gives (TableFits names) t f)
    (λ _. then_gives (TableFits names) (TableFits names) (signal_waveforms names t) _ (signal_waveform_fits names t f) (λ more g. signal_waveforms_fit n names more g)))

abbrev no_option : Option Act
no_option = None

nothing_at : (count k : ℕ) → is_some (get_or (spec.no_waveforms count).acts k None) ≡ false
nothing_at count k = none_in (count * 256) k where
  none_in : (n k : ℕ) → is_some (get_or (replicate n no_option) k None) ≡ false
  none_in zero k = refl
  none_in (suc n) zero = refl
  none_in (suc n) (suc k) = none_in n k

none_fit : (names : Names) (count : ℕ) → Fit names (spec.no_waveforms count)
none_fit names count n c b small e = absurd (true≢false (sym (ap is_some e) ∙ nothing_at count (place_of_character n c)))

body_fits : (names : Names) → Gives (Fit names) (table_body names)
unfolding table_body
body_fits names =
    after_any (Fit names) (expect kind.OpenBrace) _ (λ u. after_any (Fit names) (keyword _) _ (λ v. after_any (Fit names) time _ (λ period. after_any (Fit names) (expect kind.Semicolon) _ (λ w.
    after_any (Fit names) (keyword _) _ (λ x. after_any (Fit names) (expect kind.OpenBrace) _ (λ y.
    then_gives (TableFits names) (Fit names) _ _ (λ ts. signal_waveforms_fit (left ts) names (spec.empty_table (length names.signals)) (none_fit names (length names.signals)) ts)
    (λ t f ts. after_any (Fit names) (expect kind.CloseBrace) _ (λ z. needed_gives (Fit names) _ _ _ _ (λ _. pure_gives (Fit names) t.waveforms f)) ts)))))))

-- each table fits
abbrev pub AllFit : Names → spec.WaveformTables → Type 0
AllFit names tables = All (λ s. Fit names s) tables.waveforms

one_fits : (names : Names) (s : spec.Waveforms) → Fit names s → All (λ s. Fit names s) (s ∷ [])
one_fits names s f zero d h = f
one_fits names s f (suc k) d h = absurd (omega arith)

table_fits : (names : Names) (tables : spec.WaveformTables) → AllFit names tables → Gives (AllFit names) (waveform_table names tables)
unfolding waveform_table
table_fits names tables f =
    after_any (AllFit names) (keyword _) _ (λ u ts. after_any (AllFit names) name _ (λ word. needed_gives (AllFit names) _ _ _ _ (λ fresh.
    then_gives (Fit names) (AllFit names) (table_body names) _ (body_fits names) (λ s g. pure_gives (AllFit names) (spec.with_table tables word s) (All-append (λ s. Fit names s) tables.waveforms (s ∷ []) f (one_fits names s g))))) ts)

tables_fit : (n : ℕ) (names : Names) (tables : spec.WaveformTables) → AllFit names tables → Gives (AllFit names) (waveform_tables_from n names tables)
unfolding waveform_tables_from
tables_fit zero names tables f = refuse_gives (AllFit names) no_token
tables_fit (suc n) names tables f =
    after_any (AllFit names) (eat kind.CloseBrace) _ (λ end. if_gives (AllFit names) end _ _ (λ _. pure_gives (AllFit names) tables f)
    (λ _. then_gives (AllFit names) (AllFit names) (waveform_table names tables) _ (table_fits names tables f) (λ more g. tables_fit n names more g)))

abbrev pub TimingFits : Names → spec.Timing → Type 0
TimingFits names t = AllFit names t.tables

pub timing_fits : (names : Names) → Gives (TimingFits names) (timing names)
unfolding timing
timing_fits names =
    after_any (TimingFits names) (keyword _) _ (λ u. after_any (TimingFits names) name_if_any _ (λ word. after_any (TimingFits names) (expect kind.OpenBrace) _ (λ v.
    then_gives (AllFit names) (TimingFits names) _ _ (λ ts. tables_fit (left ts) names spec.no_tables none ts) (λ tables f. pure_gives (TimingFits names) (record { name = word; tables = tables }) f)))) where
      none : AllFit names spec.no_tables
      none k d h = absurd (omega arith)

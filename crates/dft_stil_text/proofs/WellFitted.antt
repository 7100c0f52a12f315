-- The vectors of a text have one act a signal, of its direction, and are not more than there may be.
use Rattle.std.proofs.Common.{◌≡◌, ℕ, zero, suc, ◌<◌, ◌≤◌, ◌-◌, Bool, true, false, not, cond, true≢false, List, [], ◌∷◌, ◌++◌, length, length-append, map, replicate, slice_set, All, Option, Some, None, is_some, Ok, Err, is_ok, slice_get, codes, refl, sym, ap, subst, arith}
use Rattle.std.specs.Prelude.{slice_index_or}
use Rattle.std.specs.Char.{is_ascii_alphanumeric}
use Rattle.std.proofs.lemmas.Bool.Decides.{nat_tests}
use Rattle.std.proofs.lemmas.List.Elements.{All-append}
use Rattle.dft_base.specs.Lexing.{Text}
use Rattle.dft_base.specs.Parser.{Checked, pure, ◌>>=◌, ◌>>◌}
use Rattle.dft_base.specs.declared.dir.Dir.{Dir}
use Rattle.dft_base.specs.declared.dir.Dir.TheVariants.{Input, Output}
use Rattle.dft_patterns.specs.declared.act.Act.{Act}
use Rattle.dft_patterns.specs.declared.act.Act.TheVariants.{Unset}
use Rattle.dft_patterns.specs.declared.signal.StilSignal.{StilSignal}
use Rattle.dft_stil_tokens.specs.declared.text.Cause.TheVariants as cause
use Rattle.dft_stil_tokens.specs.declared.text.Fault.{Fault}
use Rattle.dft_stil_tokens.specs.declared.text.TokenKind.TheVariants as kind
use Rattle.dft_patterns.specs.Acts.{IsActOf}
use Rattle.dft_patterns.specs.Patterns.{IsVector}
use Rattle.dft_stil_tokens.specs.Steps.{left, next, no_token, unsupported, bytes, sees, expect, eat, keyword, name, sees_word, sees_left_out, checked, needed, Rule}
use Rattle.dft_stil_text.specs.SignalGroups.{Names, Members, number_of, elsewhere}
use Rattle.dft_stil_text.specs.WaveformTables.{Waveforms, WaveformTables, dir_of}
use Rattle.dft_stil_text.specs.Statements as spec
use Rattle.dft_stil_text.specs.Statements.{run_of_characters, runs_from, characters, assignment, assignments_from, vector, table_used, labelled, statement, statements_from}
use Rattle.dft_stil_text.proofs.GivenRules.{Gives, after_any, then_gives, pure_gives, refuse_gives, if_gives, if_of, ok_gives, err_gives, needed_gives, given_gives}
use Rattle.dft_stil_text.proofs.WellShaped.{Fit, AllFit}

-- ---- vectors

unset_of : (d : Dir) → IsActOf d Unset
unset_of Input = tt
unset_of Output = tt

pub unset_vector : (signals : List StilSignal) → IsVector signals (replicate (length signals) Unset)
unset_vector [] = tt
unset_vector (s ∷ signals) = (unset_of s.dir, unset_vector signals)

set_vector : (signals : List StilSignal) (acts : List Act) (n : ℕ) (a : Act) → IsVector signals acts → IsActOf (slice_index_or (map (λ s. s.dir) signals) n Input) a → IsVector signals (slice_set acts n a)
set_vector [] [] n a v h = v
set_vector [] (x ∷ acts) n a v h = absurd v
set_vector (s ∷ signals) [] n a v h = absurd v
set_vector (s ∷ signals) (x ∷ acts) zero a v h = (h, v.1)
set_vector (s ∷ signals) (x ∷ acts) (suc n) a v h = (v.0, set_vector signals acts n a v.1 h)

-- ---- characters

-- each value that a check gives is such
abbrev GivesChecked : {A : Type 0} → (A → Type 0) → Checked Fault A → Type 0
GivesChecked {A} P o = (a : A) → o ≡ Ok a → P a

abbrev checked_value : {A : Type 0} → A → Checked Fault A → A
checked_value d (Ok a) = a
checked_value d (Err f) = d

ok_checked : {A : Type 0} (P : A → Type 0) (v : A) → P v → GivesChecked P (Ok v)
ok_checked P v h a e = subst P (ap (checked_value v) e) h

err_checked : {A : Type 0} (P : A → Type 0) (f : Fault) → GivesChecked P (Err f)
err_checked P f a e = absurd (true≢false (sym (ap is_ok e)))

checked_gives : {A : Type 0} (P : A → Type 0) (o : Checked Fault A) → GivesChecked P o → Gives P (checked o)
checked_gives P (Ok a) h ts = ok_gives P a ts (h a refl)
checked_gives P (Err f) h ts = err_gives P f

-- the table that is used fits, if there is one
abbrev pub UsedFits : Names → Option Waveforms → Type 0
UsedFits names o = (s : Waveforms) → o ≡ Some s → Fit names s

abbrev FillingFits : Names → spec.Filling → Type 0
FillingFits names f = IsVector names.signals f.acts

told_fits : (names : Names) (o : Option Waveforms) (n c : ℕ) → UsedFits names o → c < 256 → (a : Act) → spec.act_in o n c ≡ Some a → IsActOf (dir_of names n) a
told_fits names (Some s) n c u small a e = u s refl n c a small e
told_fits names None n c u small a e = absurd (true≢false (sym (ap is_some e)))

acted_fits : (names : Names) (place n : ℕ) (ns : List ℕ) (o : Option Act) (f : spec.Filling) → ((a : Act) → o ≡ Some a → IsActOf (dir_of names n) a) → FillingFits names f → GivesChecked (FillingFits names) (spec.with_next_act place n ns o f)
acted_fits names place n ns (Some a) f h v = ok_checked (FillingFits names) (record f { acts = slice_set f.acts n a; ahead = ns }) (set_vector names.signals f.acts n a v (h a refl))
acted_fits names place n ns None f h v = err_checked (FillingFits names) _

filled_fits : (names : Names) (o : Option Waveforms) (place c : ℕ) (ahead : List ℕ) (f : spec.Filling) → UsedFits names o → c < 256 → FillingFits names f → GivesChecked (FillingFits names) (spec.filled o place c ahead f)
filled_fits names o place c [] f u small v = ok_checked (FillingFits names) (record f { over = true }) v
filled_fits names o place c (n ∷ ns) f u small v = acted_fits names place n ns (spec.act_in o n c) f (told_fits names o n c u small) v

and_filled_fits : (names : Names) (o : Checked Fault spec.Filling) (more : spec.Filling → Checked Fault spec.Filling) → GivesChecked (FillingFits names) o → ((f : spec.Filling) → FillingFits names f → GivesChecked (FillingFits names) (more f))
    → GivesChecked (FillingFits names) (spec.and_filled o more)
and_filled_fits names (Ok f) more h g = g f (h f refl)
and_filled_fits names (Err e) more h g = err_checked (FillingFits names) e

if_checked : {A : Type 0} (P : A → Type 0) (t : Bool) (o p : Checked Fault A) → (t ≡ true → GivesChecked P o) → (t ≡ false → GivesChecked P p) → GivesChecked P (cond t o p)
if_checked P true o p h g = h refl
if_checked P false o p h g = g refl

filled_by_fits : (names : Names) (o : Option Waveforms) (place : ℕ) (cs : Text) (f : spec.Filling) → UsedFits names o → FillingFits names f → GivesChecked (FillingFits names) (spec.filled_by o place cs f)
filled_by_fits names o place [] f u v = ok_checked (FillingFits names) f v
filled_by_fits names o place (c ∷ cs) f u v =
    if_checked (FillingFits names) (is_ascii_alphanumeric c) _ _
    (λ letter. and_filled_fits names (spec.filled o place c f.ahead f) _ (filled_fits names o place c f.ahead f u (grind (arith, nat_tests)) v) (λ g w. filled_by_fits names o (place - 1) cs g u w))
    (λ _. err_checked (FillingFits names) _)

run_fits : (names : Names) (o : Option Waveforms) (f : spec.Filling) → UsedFits names o → FillingFits names f → Gives (FillingFits names) (run_of_characters o f)
unfolding run_of_characters
run_fits names o f u v ts =
    if_of (FillingFits names) (spec.sees_characters ts) (checked (spec.filled_by o (left ts) (bytes ts) f) (next ts)) (Err (spec.characters_refusal ts)) (λ _. checked_gives (FillingFits names) (spec.filled_by o (left ts) (bytes ts) f) (filled_by_fits names o (left ts) (bytes ts) f u v) (next ts)) (λ _. err_gives (FillingFits names) (spec.characters_refusal ts))

runs_fit : (n : ℕ) (names : Names) (o : Option Waveforms) (f : spec.Filling) → UsedFits names o → FillingFits names f → Gives (FillingFits names) (runs_from n o f)
unfolding runs_from
runs_fit zero names o f u v = refuse_gives (FillingFits names) no_token
runs_fit (suc n) names o f u v =
    then_gives (FillingFits names) (FillingFits names) (run_of_characters o f) _ (run_fits names o f u v)
    (λ more w ts. if_of (FillingFits names) (sees kind.Semicolon ts) (Ok (more, ts)) (runs_from n o more ts) (λ _. ok_gives (FillingFits names) more ts w) (λ _. runs_fit n names o more u w ts))

characters_fit : (names : Names) (o : Option Waveforms) (ns : List ℕ) (acts : List Act) → UsedFits names o → IsVector names.signals acts → Gives (IsVector names.signals) (characters o ns acts)
unfolding characters
characters_fit names o ns acts u v =
    then_gives (FillingFits names) (IsVector names.signals) _ _ (λ ts. runs_fit (left ts) names o (record { acts = acts; ahead = ns; over = false }) u v ts)
    (λ f w ts. after_any (IsVector names.signals) (expect kind.Semicolon) _ (λ x. needed_gives (IsVector names.signals) _ _ _ _ (λ _. pure_gives (IsVector names.signals) f.acts w)) ts)

-- ---- vectors of a pattern

abbrev VectorFits : Names → spec.VectorStatement → Type 0
VectorFits names v = IsVector names.signals v.acts

-- what is read behind a name that stands for signals
abbrev assigned_to : Names → Option Waveforms → spec.VectorStatement → Text → ℕ → Members → Rule spec.VectorStatement
assigned_to names o v word place m =
    needed (cause.Taken word) place (not (spec.is_told v m)) (expect kind.Equals >> (characters o m.signals v.acts >>= (λ acts. pure (record { acts = acts; told = spec.with_told m.signals v.told }))))

assigned_fits : (names : Names) (o : Option Waveforms) (v : spec.VectorStatement) (word : Text) (place : ℕ) (m : Members) → UsedFits names o → VectorFits names v → Gives (VectorFits names) (assigned_to names o v word place m)
assigned_fits names o v word place m u w =
    needed_gives (VectorFits names) (cause.Taken word) place (not (spec.is_told v m)) _ (λ fresh. after_any (VectorFits names) (expect kind.Equals) _ (λ x.
    then_gives (IsVector names.signals) (VectorFits names) (characters o m.signals v.acts) _ (characters_fit names o m.signals v.acts u w)
    (λ acts a. pure_gives (VectorFits names) (record { acts = acts; told = spec.with_told m.signals v.told }) a)))

assignment_fits : (names : Names) (o : Option Waveforms) (v : spec.VectorStatement) → UsedFits names o → VectorFits names v → Gives (VectorFits names) (assignment names o v)
unfolding assignment
assignment_fits names o v u w ts =
    after_any (VectorFits names) name _ (λ word. given_gives (VectorFits names) word (left ts) (elsewhere names word) (assigned_to names o v word (left ts)) (λ m _. assigned_fits names o v word (left ts) m u w)) ts

assignments_fit : (n : ℕ) (names : Names) (o : Option Waveforms) (v : spec.VectorStatement) → UsedFits names o → VectorFits names v → Gives (VectorFits names) (assignments_from n names o v)
unfolding assignments_from
assignments_fit zero names o v u w = refuse_gives (VectorFits names) no_token
assignments_fit (suc n) names o v u w =
    after_any (VectorFits names) (eat kind.CloseBrace) _ (λ end. if_gives (VectorFits names) end _ _ (λ _. pure_gives (VectorFits names) v w)
    (λ _. then_gives (VectorFits names) (VectorFits names) (assignment names o v) _ (assignment_fits names o v u w) (λ more g. assignments_fit n names o more u g)))

-- the last vector and all vectors fit, and these are not more than there may be
pub record PatternFits (most : ℕ) (names : Names) (p : spec.PatternBlock) : Type 0 where
  pub acts : IsVector names.signals p.acts
  pub vectors : All (λ acts. IsVector names.signals acts) p.vectors
  pub few : length p.vectors ≤ most

abbrev waveforms_or : Waveforms → Option Waveforms → Waveforms
waveforms_or d (Some s) = s
waveforms_or d None = d

used_fits : (names : Names) (tables : WaveformTables) (number : Option ℕ) → AllFit names tables → UsedFits names (spec.waveforms_at tables number)
used_fits names tables None f s e = absurd (true≢false (sym (ap is_some e)))
used_fits names tables (Some n) f s e = found tables.waveforms n f e where
  found : (all : List Waveforms) (n : ℕ) → All (λ s. Fit names s) all → slice_get all n ≡ Some s → Fit names s
  found [] n g h = absurd (true≢false (sym (ap is_some h)))
  found (t ∷ all) zero g h = subst (λ (s : Waveforms). Fit names s) (ap (waveforms_or t) h) (g 0 t (omega arith))
  found (t ∷ all) (suc n) g h = found all n (λ k d l. g (suc k) d (omega arith)) h

vector_fits : (most : ℕ) (names : Names) (tables : WaveformTables) (p : spec.PatternBlock) → AllFit names tables → PatternFits most names p → Gives (PatternFits most names) (vector most names tables p)
unfolding vector
vector_fits most names tables p f h ts =
    after_any (PatternFits most names) (keyword _) _ (λ u. needed_gives (PatternFits most names) _ _ _ _ (λ room. after_any (PatternFits most names) (expect kind.OpenBrace) _ (λ x.
    then_gives (VectorFits names) (PatternFits most names) _ _ (λ us. assignments_fit (left us) names (spec.waveforms_at tables p.table) (spec.vector_after p.acts) (used_fits names tables p.table f) h.acts us)
    (λ v w. pure_gives (PatternFits most names) (record p { acts = v.acts; vectors = p.vectors ++ v.acts ∷ [] }) (record {
      acts = w;
      vectors = All-append (λ acts. IsVector names.signals acts) p.vectors (v.acts ∷ []) h.vectors (one names v.acts w);
      few = (let long = length-append p.vectors (v.acts ∷ []) in let less : length p.vectors < most = grind (arith, nat_tests) in omega arith);
    }))))) ts where
      one : (names : Names) (acts : List Act) → IsVector names.signals acts → All (λ acts. IsVector names.signals acts) (acts ∷ [])
      one names acts w zero d l = w
      one names acts w (suc k) d l = absurd (omega arith)

using_fits : (most : ℕ) (names : Names) (word : Text) (place : ℕ) (p : spec.PatternBlock) (o : Option ℕ) → PatternFits most names p → Gives (PatternFits most names) (spec.using_table word place p o)
using_fits most names word place p (Some n) h = pure_gives (PatternFits most names) (record p { table = Some n }) (record { acts = h.acts; vectors = h.vectors; few = h.few })
using_fits most names word place p None h = λ ts. err_gives (PatternFits most names) _

used_table_fits : (most : ℕ) (names : Names) (tables : WaveformTables) (p : spec.PatternBlock) → PatternFits most names p → Gives (PatternFits most names) (table_used tables p)
unfolding table_used
used_table_fits most names tables p h ts =
    after_any (PatternFits most names) name _ (λ word. then_gives (PatternFits most names) (PatternFits most names) _ _ (using_fits most names word (left ts) p (number_of tables.names word) h)
    (λ more g. after_any (PatternFits most names) (expect kind.Semicolon) _ (λ u. pure_gives (PatternFits most names) more g))) ts

labelled_fits : (most : ℕ) (names : Names) (tables : WaveformTables) (p : spec.PatternBlock) → AllFit names tables → PatternFits most names p → Gives (PatternFits most names) (labelled most names tables p)
unfolding labelled
labelled_fits most names tables p f h = after_any (PatternFits most names) name _ (λ u. after_any (PatternFits most names) (expect kind.Colon) _ (λ v. vector_fits most names tables p f h))

statement_fits : (most : ℕ) (names : Names) (tables : WaveformTables) (p : spec.PatternBlock) → AllFit names tables → PatternFits most names p → Gives (PatternFits most names) (statement most names tables p)
unfolding statement
statement_fits most names tables p f h ts =
    if_of (PatternFits most names) (sees_word (codes "W") ts) (table_used tables p (next ts)) (cond (sees_word (codes "V") ts) (vector most names tables p ts) (cond (sees_left_out ts) (Err (unsupported ts)) (labelled most names tables p ts)))
    (λ _. used_table_fits most names tables p h (next ts))
    (λ _. if_of (PatternFits most names) (sees_word (codes "V") ts) (vector most names tables p ts) (cond (sees_left_out ts) (Err (unsupported ts)) (labelled most names tables p ts)) (λ _. vector_fits most names tables p f h ts)
    (λ _. if_of (PatternFits most names) (sees_left_out ts) (Err (unsupported ts)) (labelled most names tables p ts) (λ _. err_gives (PatternFits most names) (unsupported ts)) (λ _. labelled_fits most names tables p f h ts)))

pub statements_fit : (n most : ℕ) (names : Names) (tables : WaveformTables) (p : spec.PatternBlock) → AllFit names tables → PatternFits most names p → Gives (PatternFits most names) (statements_from n most names tables p)
unfolding statements_from
statements_fit zero most names tables p f h = refuse_gives (PatternFits most names) no_token
statements_fit (suc n) most names tables p f h =
    after_any (PatternFits most names) (eat kind.CloseBrace) _ (λ end. if_gives (PatternFits most names) end _ _ (λ _. pure_gives (PatternFits most names) p h)
    (λ _. then_gives (PatternFits most names) (PatternFits most names) (statement most names tables p) _ (statement_fits most names tables p f h) (λ more g. statements_fit n most names tables more f g)))

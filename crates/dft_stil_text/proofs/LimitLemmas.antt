-- A limit on the number of vectors refuses texts that have more, and changes no other answer.
use Rattle.std.proofs.Common.{◌≡◌, ℕ, zero, suc, ◌+◌, ◌≤◌, Bool, true, false, cond, true≢false, nat_lt, codes, List, [], ◌∷◌, length, length-append, Option, Some, None, Result, Ok, Err, is_ok, refl, sym, ap, subst, ◌∙◌, arith}
use Rattle.std.proofs.lemmas.Bool.Decides.{nat_tests}
use Rattle.dft_base.specs.Lexing.{Text}
use Rattle.dft_base.specs.Parser.{and_then, value_of, pure, ◌>>=◌, ◌>>◌}
use Rattle.dft_stil_tokens.specs.declared.text.TokenKind.TheVariants as kind
use Rattle.dft_stil_tokens.specs.declared.text.Cause.{Cause}
use Rattle.dft_stil_tokens.specs.declared.text.Cause.TheVariants as cause
use Rattle.dft_patterns.specs.declared.steadiness.Unsteady.{Unsteady}
use Rattle.dft_patterns.specs.Patterns.{Patterns}
use Rattle.dft_patterns.specs.Steadiness.{first_unsteady}
use Rattle.dft_stil_tokens.specs.Lexemes.{Token, tokens}
use Rattle.dft_stil_tokens.specs.Steps.{Rule, Outcome, left, next, no_token, unsupported, expect, eat, keyword, name, needed, sees_word, sees_left_out}
use Rattle.dft_stil_text.specs.SignalGroups.{Names, number_of, signals_block, group_blocks}
use Rattle.dft_stil_text.specs.WaveformTables.{WaveformTables, Timing, timing}
use Rattle.dft_stil_text.specs.Statements as spec
use Rattle.dft_stil_text.specs.Statements.{PatternBlock, assignments_from, vector, table_used, labelled, statement, statements_from}
use Rattle.dft_stil_text.specs.PatternText.{Burst, Refusal, version, header_if_any, burst, exec, known_name, pattern, pattern_part, stil_text, steady_or, tested, patterns_in, StandsFor}
use Rattle.dft_stil_text.specs.Laws.{IsReadWithin, IsReadWellFormed, StandsForOne}
use Rattle.dft_stil_text.proofs.GivenRules.{Gives, after_any, then_gives, pure_gives, refuse_gives, if_gives, if_of, err_gives, needed_gives}
use Rattle.dft_stil_text.proofs.WellFormed.{few_vectors, well_formed}

-- what the first outcome gives, and what has so many vectors at most, the second gives too
abbrev pub Kept : {A : Type 0} → (A → ℕ) → ℕ → Outcome A → Outcome A → Type 0
Kept {A} size n o o' = (a : A) (x : List Token) → o ≡ Ok (a, x) → size a ≤ n → o' ≡ Ok (a, x)

same_kept : {A : Type 0} (size : A → ℕ) (n : ℕ) (o : Outcome A) → Kept size n o o
same_kept size n o a x e few = e

-- behind one rule
after_kept : {A B : Type 0} (size : B → ℕ) (n : ℕ) (o : Outcome A) (f g : A → Rule B) → ((a : A) (ts : List Token) → Kept size n (f a ts) (g a ts)) → Kept size n (and_then o f) (and_then o g)
after_kept size n (Ok p) f g h b y e few = h p.0 p.1 b y e few
after_kept size n (Err w) f g h b y e few = absurd (true≢false (sym (ap is_ok e)))

-- behind two that agree so, where the value does not shrink
then_kept : {A B : Type 0} (of : A → ℕ) (size : B → ℕ) (n : ℕ) (o o' : Outcome A) (f g : A → Rule B) → Kept of n o o' → ((a : A) → Gives (λ b. of a ≤ size b) (f a)) → ((a : A) (ts : List Token) → Kept size n (f a ts) (g a ts))
    → Kept size n (and_then o f) (and_then o' g)
then_kept of size n (Ok p) o' f g k grows h b y e few =
    let less : of p.0 ≤ size b = grows p.0 p.1 b y e in
    let same : o' ≡ Ok (p.0, p.1) = k p.0 p.1 refl (omega arith) in
    ap (λ o. and_then o g) same ∙ h p.0 p.1 b y e few
then_kept of size n (Err w) o' f g k grows h b y e few = absurd (true≢false (sym (ap is_ok e)))

if_kept : {A : Type 0} (size : A → ℕ) (n : ℕ) (t : Bool) (o p o' p' : Outcome A) → Kept size n o o' → Kept size n p p' → Kept size n (cond t o p) (cond t o' p')
if_kept size n true o p o' p' h g = h
if_kept size n false o p o' p' h g = g

if_rule_kept : {A : Type 0} (size : A → ℕ) (n : ℕ) (t : Bool) (r s s' : Rule A) (ts : List Token) → Kept size n (s ts) (s' ts) → Kept size n (cond t r s ts) (cond t r s' ts)
if_rule_kept size n true r s s' ts h = same_kept size n (r ts)
if_rule_kept size n false r s s' ts h = h

-- where the second test passes for each such value
needed_kept : {A : Type 0} (size : A → ℕ) (n : ℕ) (why : Cause) (place : ℕ) (t u : Bool) (rule : Rule A) (ts : List Token) → ((a : A) (x : List Token) → rule ts ≡ Ok (a, x) → size a ≤ n → u ≡ true)
    → Kept size n (needed why place t rule ts) (needed why place u rule ts)
needed_kept size n why place true u rule ts h a x e few = ap (λ u. needed why place u rule ts) (h a x e few) ∙ e
needed_kept size n why place false u rule ts h a x e few = absurd (true≢false (sym (ap is_ok e)))

-- ---- vectors

-- how many vectors a pattern has so far
abbrev pub count : PatternBlock → ℕ
count p = length p.vectors

-- at least as many vectors as this one
abbrev Grown : PatternBlock → PatternBlock → Type 0
Grown p q = count p ≤ count q

pub one_more : (names : Names) (tables : WaveformTables) (p : PatternBlock)
    → Gives (λ q. count q ≡ suc (count p)) (expect kind.OpenBrace >> ((λ us. assignments_from (left us) names (spec.waveforms_at tables p.table) (spec.vector_after p.acts) us) >>= (λ v. pure (spec.with_acts v.acts p))))
one_more names tables p =
    after_any (λ q. count q ≡ suc (count p)) (expect kind.OpenBrace) _ (λ u. after_any (λ q. count q ≡ suc (count p)) _ _ (λ v.
    pure_gives (λ q. count q ≡ suc (count p)) (spec.with_acts v.acts p) (let long = length-append p.vectors (v.acts ∷ []) in omega arith)))

vector_kept : (m n : ℕ) (names : Names) (tables : WaveformTables) (p : PatternBlock) (ts : List Token) → Kept count n (vector m names tables p ts) (vector n names tables p ts)
unfolding vector
vector_kept m n names tables p ts =
    after_kept count n (keyword (codes "V") ts) _ _ (λ u us. needed_kept count n cause.Count (left ts) (nat_lt (count p) m) (nat_lt (count p) n) _ us (λ q x e few.
    (let one : count q ≡ suc (count p) = one_more names tables p us q x e in grind (arith, nat_tests))))

vector_grows : (m : ℕ) (names : Names) (tables : WaveformTables) (p : PatternBlock) → Gives (Grown p) (vector m names tables p)
unfolding vector
vector_grows m names tables p ts =
    after_any (Grown p) (keyword _) _ (λ u. needed_gives (Grown p) _ _ _ _ (λ room us q x e. (let one : count q ≡ suc (count p) = one_more names tables p us q x e in omega arith))) ts

-- ---- statements

labelled_kept : (m n : ℕ) (names : Names) (tables : WaveformTables) (p : PatternBlock) (ts : List Token) → Kept count n (labelled m names tables p ts) (labelled n names tables p ts)
unfolding labelled
labelled_kept m n names tables p ts =
    after_kept count n (name ts) _ _ (λ u us. after_kept count n (expect kind.Colon us) _ _ (λ v vs. vector_kept m n names tables p vs))

pub statement_kept : (m n : ℕ) (names : Names) (tables : WaveformTables) (p : PatternBlock) (ts : List Token) → Kept count n (statement m names tables p ts) (statement n names tables p ts)
unfolding statement
statement_kept m n names tables p ts =
    if_kept count n (sees_word (codes "W") ts) _ _ _ _ (same_kept count n (table_used tables p (next ts))) (if_kept count n (sees_word (codes "V") ts) _ _ _ _ (vector_kept m n names tables p ts)
    (if_kept count n (sees_left_out ts) _ _ _ _ (same_kept count n (Err (unsupported ts))) (labelled_kept m n names tables p ts)))

-- as many vectors as this one
abbrev Even : PatternBlock → PatternBlock → Type 0
Even p q = count q ≡ count p

using_even : (word : Text) (place : ℕ) (p : PatternBlock) (o : Option ℕ) → Gives (Even p) (spec.using_table word place p o)
using_even word place p (Some n) = pure_gives (Even p) (record p { table = Some n }) refl
using_even word place p None = λ ts. err_gives (Even p) _

pub table_even : (tables : WaveformTables) (p : PatternBlock) → Gives (Even p) (table_used tables p)
unfolding table_used
table_even tables p ts =
    after_any (Even p) name _ (λ word. then_gives (Even p) (Even p) _ _ (using_even word (left ts) p (number_of tables.names word)) (λ more g. after_any (Even p) (expect kind.Semicolon) _ (λ u. pure_gives (Even p) more g))) ts

table_grows : (tables : WaveformTables) (p : PatternBlock) → Gives (Grown p) (table_used tables p)
table_grows tables p ts q x e = let same : count q ≡ count p = table_even tables p ts q x e in omega arith

labelled_grows : (m : ℕ) (names : Names) (tables : WaveformTables) (p : PatternBlock) → Gives (Grown p) (labelled m names tables p)
unfolding labelled
labelled_grows m names tables p = after_any (Grown p) name _ (λ u. after_any (Grown p) (expect kind.Colon) _ (λ v. vector_grows m names tables p))

statement_grows : (m : ℕ) (names : Names) (tables : WaveformTables) (p : PatternBlock) → Gives (Grown p) (statement m names tables p)
unfolding statement
statement_grows m names tables p ts =
    if_of (Grown p) (sees_word (codes "W") ts) _ _ (λ _. table_grows tables p (next ts)) (λ _. if_of (Grown p) (sees_word (codes "V") ts) _ _ (λ _. vector_grows m names tables p ts)
    (λ _. if_of (Grown p) (sees_left_out ts) _ _ (λ _. err_gives (Grown p) (unsupported ts)) (λ _. labelled_grows m names tables p ts)))

statements_grow : (k m : ℕ) (names : Names) (tables : WaveformTables) (p : PatternBlock) → Gives (Grown p) (statements_from k m names tables p)
unfolding statements_from
statements_grow zero m names tables p = refuse_gives (Grown p) no_token
statements_grow (suc k) m names tables p =
    after_any (Grown p) (eat kind.CloseBrace) _ (λ end. if_gives (Grown p) end _ _ (λ _. pure_gives (Grown p) p (omega arith))
    (λ _. then_gives (Grown p) (Grown p) (statement m names tables p) _ (statement_grows m names tables p) (λ more g ts q x e. (let less : Grown more q = statements_grow k m names tables more ts q x e in omega arith))))

statements_kept : (k m n : ℕ) (names : Names) (tables : WaveformTables) (p : PatternBlock) (ts : List Token) → Kept count n (statements_from k m names tables p ts) (statements_from k n names tables p ts)
unfolding statements_from
statements_kept zero m n names tables p ts = same_kept count n (Err (no_token ts))
statements_kept (suc k) m n names tables p ts =
    after_kept count n (eat kind.CloseBrace ts) _ _ (λ end us. if_rule_kept count n end (pure p) (statement m names tables p >>= (λ more. statements_from k m names tables more)) (statement n names tables p >>= (λ more. statements_from k n names tables more)) us
    (then_kept count count n (statement m names tables p us) (statement n names tables p us) _ _ (statement_kept m n names tables p us) (λ more. statements_grow k m names tables more) (λ more vs. statements_kept k m n names tables more vs)))

-- ---- whole texts

pub pattern_kept : (m n : ℕ) (names : Names) (t : Timing) (b : Burst) (ts : List Token) → Kept count n (pattern m names t b ts) (pattern n names t b ts)
unfolding pattern
pattern_kept m n names t b ts =
    after_kept count n (keyword _ ts) _ _ (λ u us. after_kept count n (known_name _ us) _ _ (λ v vs. after_kept count n (expect kind.OpenBrace vs) _ _ (λ w ws. statements_kept (left ws) m n names t.tables _ ws)))

-- how many vectors patterns have
abbrev pub vectors : Patterns → ℕ
vectors p = length p.vectors

text_kept : (m n : ℕ) (ts : List Token) → Kept vectors n (stil_text m ts) (stil_text n ts)
unfolding stil_text pattern_part
text_kept m n ts =
    after_kept vectors n (keyword _ ts) _ _ (λ a ts. after_kept vectors n (version ts) _ _ (λ b ts. after_kept vectors n (expect kind.Semicolon ts) _ _ (λ c ts. after_kept vectors n (header_if_any ts) _ _ (λ d ts.
    after_kept vectors n (signals_block ts) _ _ (λ first ts. after_kept vectors n (group_blocks first ts) _ _ (λ names ts. after_kept vectors n (timing names ts) _ _ (λ t ts.
    after_kept vectors n (burst ts) _ _ (λ e ts. after_kept vectors n (exec t e ts) _ _ (λ g ts.
    then_kept count vectors n (pattern m names t e ts) (pattern n names t e ts) _ _ (pattern_kept m n names t e ts)
    (λ p. after_any (λ (q : Patterns). count p ≤ vectors q) (expect kind.End) _ (λ i. pure_gives (λ (q : Patterns). count p ≤ vectors q) (record { signals = names.signals; vectors = p.vectors; notes = [] }) (omega arith)))
    (λ p ts. same_kept vectors n _))))))))))

abbrev patterns_or : Patterns → Result Patterns Refusal → Patterns
patterns_or d (Ok p) = p
patterns_or d (Err r) = d

pub steady_same : (q p : Patterns) (o : Option Unsteady) → steady_or q o ≡ Ok p → q ≡ p
steady_same q p None e = ap (patterns_or q) e
steady_same q p (Some u) e = absurd (true≢false (sym (ap is_ok e)))

tested_kept : (n : ℕ) (o o' : Outcome Patterns) (p : Patterns) → Kept vectors n o o' → tested (value_of o) ≡ Ok p → vectors p ≤ n → tested (value_of o') ≡ Ok p
tested_kept n (Ok q) o' p k e few =
    let same : q.0 ≡ p = steady_same q.0 p (first_unsteady q.0) e in
    let size : vectors q.0 ≤ n = subst (λ (r : Patterns). vectors r ≤ n) (sym same) few in
    ap (λ (o : Outcome Patterns). tested (value_of o)) (k q.0 q.1 refl size) ∙ e
tested_kept n (Err f) o' p k e few = absurd (true≢false (sym (ap is_ok e)))

-- a text that is read under one limit is read so under each that its vectors keep
pub kept_within : (m n : ℕ) (text : Text) (p : Patterns) → patterns_in m text ≡ Ok p → length p.vectors ≤ n → patterns_in n text ≡ Ok p
unfolding patterns_in
kept_within m n text p e few = tested_kept n (stil_text m (tokens text)) (stil_text n (tokens text)) p (text_kept m n (tokens text)) e few

pub stands_within : (most : ℕ) (text : Text) (p : Patterns) → patterns_in most text ≡ Ok p → StandsFor text p
stands_within most text p e = kept_within most (length p.vectors) text p e (omega arith)

pub read_within : IsReadWithin
read_within most text p = (λ e. (stands_within most text p e, few_vectors most text p e), λ e few. kept_within (length p.vectors) most text p e few)

pub read_well : IsReadWellFormed
read_well text p e few = well_formed (length p.vectors) text p e few

pub one_set : StandsForOne
one_set text p q a b =
    let both : ℕ = length p.vectors + length q.vectors in
    let e : Ok p ≡ Ok q = sym (kept_within (length p.vectors) both text p a (omega arith)) ∙ kept_within (length q.vectors) both text q b (omega arith) in cc

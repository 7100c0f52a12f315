-- A text that has more vectors than a reader takes is refused as one that has too many.
use Rattle.std.proofs.Common.{◌≡◌, ℕ, zero, suc, ◌<◌, ◌≤◌, ◌⊎◌, inl, inr, Bool, true, false, cond, true≢false, nat_lt, codes, List, [], length, Option, Some, None, Result, Ok, Err, is_ok, refl, sym, ap, subst, arith}
use Rattle.std.proofs.lemmas.Bool.{cases_lt}
use Rattle.std.proofs.lemmas.Bool.Decides.{nat_tests}
use Rattle.dft_base.specs.Parser.{and_then, value_of, pure, ◌>>=◌}
use Rattle.dft_stil_tokens.specs.declared.text.TokenKind.TheVariants as kind
use Rattle.dft_stil_tokens.specs.declared.text.Cause.TheVariants as cause
use Rattle.dft_stil_tokens.specs.declared.text.Fault.{Fault}
use Rattle.dft_patterns.specs.Patterns.{Patterns}
use Rattle.dft_patterns.specs.Steadiness.{first_unsteady}
use Rattle.dft_stil_tokens.specs.Lexemes.{Token, tokens}
use Rattle.dft_stil_tokens.specs.Steps.{Rule, Outcome, left, next, no_token, unsupported, expect, eat, keyword, name, needed, fault, sees_word, sees_left_out}
use Rattle.dft_stil_text.specs.SignalGroups.{Names, signals_block, group_blocks}
use Rattle.dft_stil_text.specs.WaveformTables.{WaveformTables, Timing, timing}
use Rattle.dft_stil_text.specs.Statements.{PatternBlock, vector, table_used, labelled, statement, statements_from}
use Rattle.dft_stil_text.specs.PatternText.{At, Burst, version, header_if_any, burst, exec, known_name, pattern, pattern_part, stil_text, tested, patterns_in}
use Rattle.dft_stil_text.specs.Laws.{IsRefusedBeyond}
use Rattle.dft_stil_text.proofs.GivenRules.{GivesOf, Gives, after_any, pure_gives, err_gives}
use Rattle.dft_stil_text.proofs.LimitLemmas.{Kept, count, vectors, one_more, table_even, statement_kept, pattern_kept, steady_same}

-- it is refused, as having too many vectors
abbrev Many : {A : Type 0} → Outcome A → Type 0
Many o = (f : Fault) × ((o ≡ Err f) × (f.cause ≡ cause.Count))

-- what the first outcome gives with more than so many, the second refuses so
abbrev Cut : {A : Type 0} → (A → ℕ) → ℕ → Outcome A → Outcome A → Type 0
Cut {A} size n o o' = (a : A) (x : List Token) → o ≡ Ok (a, x) → n < size a → Many o'

never : (m n : ℕ) → m ≤ n → n < m → ⊥
never m n le lt = omega (arith, le, lt)

-- where there are no more
same_cut : {A : Type 0} (size : A → ℕ) (n : ℕ) (o : Outcome A) → GivesOf (λ a. size a ≤ n) o → Cut size n o o
same_cut size n o few a x e many = absurd (never (size a) n (few a x e) many)

-- behind one rule
after_cut : {A B : Type 0} (size : B → ℕ) (n : ℕ) (o : Outcome A) (f g : A → Rule B) → ((a : A) (ts : List Token) → Cut size n (f a ts) (g a ts)) → Cut size n (and_then o f) (and_then o g)
after_cut size n (Ok p) f g h b y e many = h p.0 p.1 b y e many
after_cut size n (Err w) f g h b y e many = absurd (true≢false (sym (ap is_ok e)))

-- behind two of which the second refuses what has more, and gives what has not
cut_or_kept : {A B : Type 0} (of : A → ℕ) (size : B → ℕ) (n : ℕ) (p : A × List Token) (o : Outcome A) (f g : A → Rule B) → Kept of n (Ok p) o → Cut of n (Ok p) o → ((a : A) (ts : List Token) → of a ≤ n → Cut size n (f a ts) (g a ts))
    → (n < of p.0) ⊎ (of p.0 ≤ n) → Cut size n (f p.0 p.1) (and_then o g)
cut_or_kept of size n p o f g k c h (inl more) b y e many = let cut = c p.0 p.1 refl more in (cut.0, (ap (λ o. and_then o g) cut.1.0, cut.1.1))
cut_or_kept of size n p o f g k c h (inr few) b y e many = subst Many (sym (ap (λ o. and_then o g) (k p.0 p.1 refl few))) (h p.0 p.1 few b y e many)

then_cut : {A B : Type 0} (of : A → ℕ) (size : B → ℕ) (n : ℕ) (o o' : Outcome A) (f g : A → Rule B) → Kept of n o o' → Cut of n o o' → ((a : A) (ts : List Token) → of a ≤ n → Cut size n (f a ts) (g a ts))
    → Cut size n (and_then o f) (and_then o' g)
then_cut of size n (Ok p) o' f g k c h = cut_or_kept of size n p o' f g k c h (cases_lt n (of p.0))
then_cut of size n (Err w) o' f g k c h = λ b y e many. absurd (true≢false (sym (ap is_ok e)))

if_cut : {A : Type 0} (size : A → ℕ) (n : ℕ) (t : Bool) (o p o' p' : Outcome A) → Cut size n o o' → Cut size n p p' → Cut size n (cond t o p) (cond t o' p')
if_cut size n true o p o' p' h g = h
if_cut size n false o p o' p' h g = g

if_rule_cut : {A : Type 0} (size : A → ℕ) (n : ℕ) (t : Bool) (r s s' : Rule A) (ts : List Token) → GivesOf (λ a. size a ≤ n) (r ts) → Cut size n (s ts) (s' ts) → Cut size n (cond t r s ts) (cond t r s' ts)
if_rule_cut size n true r s s' ts few h = same_cut size n (r ts) few
if_rule_cut size n false r s s' ts few h = h

-- ---- vectors and statements

-- a vector more than so many is refused where it begins
needed_cut : (n place old : ℕ) (room : Bool) (rule : Rule PatternBlock) (ts : List Token) → GivesOf (λ q. count q ≡ suc old) (rule ts) → Cut count n (needed cause.Count place room rule ts) (needed cause.Count place (nat_lt old n) rule ts)
needed_cut n place old true rule ts grown q x e many =
    let one : count q ≡ suc old = grown q x e in
    let full : nat_lt old n ≡ false = grind (arith, nat_tests) in subst (λ t. Many (needed cause.Count place t rule ts)) (sym full) (fault cause.Count place, (refl, refl))
needed_cut n place old false rule ts grown q x e many = absurd (true≢false (sym (ap is_ok e)))

vector_cut : (m n : ℕ) (names : Names) (tables : WaveformTables) (p : PatternBlock) (ts : List Token) → Cut count n (vector m names tables p ts) (vector n names tables p ts)
unfolding vector
vector_cut m n names tables p ts = after_cut count n (keyword (codes "V") ts) _ _ (λ u us. needed_cut n (left ts) (count p) (nat_lt (count p) m) _ us (one_more names tables p us))

labelled_cut : (m n : ℕ) (names : Names) (tables : WaveformTables) (p : PatternBlock) (ts : List Token) → Cut count n (labelled m names tables p ts) (labelled n names tables p ts)
unfolding labelled
labelled_cut m n names tables p ts =
    after_cut count n (name ts) _ _ (λ u us. after_cut count n (expect kind.Colon us) _ _ (λ v vs. vector_cut m n names tables p vs))

table_few : (n : ℕ) (tables : WaveformTables) (p : PatternBlock) (ts : List Token) → count p ≤ n → GivesOf (λ q. count q ≤ n) (table_used tables p ts)
table_few n tables p ts few q x e = let same : count q ≡ count p = table_even tables p ts q x e in omega (arith, same, few)

statement_cut : (m n : ℕ) (names : Names) (tables : WaveformTables) (p : PatternBlock) (ts : List Token) → count p ≤ n → Cut count n (statement m names tables p ts) (statement n names tables p ts)
unfolding statement
statement_cut m n names tables p ts few =
    if_cut count n (sees_word (codes "W") ts) _ _ _ _ (same_cut count n (table_used tables p (next ts)) (table_few n tables p (next ts) few)) (if_cut count n (sees_word (codes "V") ts) _ _ _ _ (vector_cut m n names tables p ts)
    (if_cut count n (sees_left_out ts) _ _ _ _ (same_cut count n (Err (unsupported ts)) (err_gives (λ q. count q ≤ n) (unsupported ts))) (labelled_cut m n names tables p ts)))

statements_cut : (k m n : ℕ) (names : Names) (tables : WaveformTables) (p : PatternBlock) (ts : List Token) → count p ≤ n → Cut count n (statements_from k m names tables p ts) (statements_from k n names tables p ts)
unfolding statements_from
statements_cut zero m n names tables p ts few = same_cut count n (Err (no_token ts)) (err_gives (λ q. count q ≤ n) (no_token ts))
statements_cut (suc k) m n names tables p ts few =
    after_cut count n (eat kind.CloseBrace ts) _ _ (λ end us. if_rule_cut count n end (pure p) (statement m names tables p >>= (λ more. statements_from k m names tables more)) (statement n names tables p >>= (λ more. statements_from k n names tables more)) us
    (pure_gives (λ q. count q ≤ n) p few us)
    (then_cut count count n (statement m names tables p us) (statement n names tables p us) _ _ (statement_kept m n names tables p us) (statement_cut m n names tables p us few) (λ more vs le. statements_cut k m n names tables more vs le)))

-- ---- whole texts

pattern_cut : (m n : ℕ) (names : Names) (t : Timing) (b : Burst) (ts : List Token) → Cut count n (pattern m names t b ts) (pattern n names t b ts)
unfolding pattern
pattern_cut m n names t b ts =
    after_cut count n (keyword _ ts) _ _ (λ u us. after_cut count n (known_name _ us) _ _ (λ v vs. after_cut count n (expect kind.OpenBrace vs) _ _ (λ w ws. statements_cut (left ws) m n names t.tables _ ws (omega arith))))

-- the end behind a pattern takes no vector
end_few : (n : ℕ) (names : Names) (p : PatternBlock) → count p ≤ n → Gives (λ (q : Patterns). vectors q ≤ n) (λ ts. and_then (expect kind.End ts) (λ u. pure (record { signals = names.signals; vectors = p.vectors; notes = [] })))
end_few n names p few = after_any (λ (q : Patterns). vectors q ≤ n) (expect kind.End) _ (λ u. pure_gives (λ (q : Patterns). vectors q ≤ n) (record { signals = names.signals; vectors = p.vectors; notes = [] }) few)

text_cut : (m n : ℕ) (ts : List Token) → Cut vectors n (stil_text m ts) (stil_text n ts)
unfolding stil_text pattern_part
text_cut m n ts =
    after_cut vectors n (keyword _ ts) _ _ (λ a ts. after_cut vectors n (version ts) _ _ (λ b ts. after_cut vectors n (expect kind.Semicolon ts) _ _ (λ c ts. after_cut vectors n (header_if_any ts) _ _ (λ d ts.
    after_cut vectors n (signals_block ts) _ _ (λ first ts. after_cut vectors n (group_blocks first ts) _ _ (λ names ts. after_cut vectors n (timing names ts) _ _ (λ t ts.
    after_cut vectors n (burst ts) _ _ (λ e ts. after_cut vectors n (exec t e ts) _ _ (λ g ts.
    then_cut count vectors n (pattern m names t e ts) (pattern n names t e ts) _ _ (pattern_kept m n names t e ts) (pattern_cut m n names t e ts) (λ p ts few. same_cut vectors n _ (end_few n names p few ts)))))))))))

tested_cut : (n : ℕ) (o o' : Outcome Patterns) (p : Patterns) → Cut vectors n o o' → tested (value_of o) ≡ Ok p → n < vectors p → (f : Fault) × ((tested (value_of o') ≡ Err (At f)) × (f.cause ≡ cause.Count))
tested_cut n (Ok q) o' p c e many =
    let same : q.0 ≡ p = steady_same q.0 p (first_unsteady q.0) e in
    let cut = c q.0 q.1 refl (subst (λ (r : Patterns). n < vectors r) (sym same) many) in (cut.0, (ap (λ (o : Outcome Patterns). tested (value_of o)) cut.1.0, cut.1.1))
tested_cut n (Err f) o' p c e many = absurd (true≢false (sym (ap is_ok e)))

pub refused_beyond : IsRefusedBeyond
unfolding patterns_in
refused_beyond most text p e many = tested_cut most (stil_text (length p.vectors) (tokens text)) (stil_text most (tokens text)) p (text_cut (length p.vectors) most (tokens text)) e many

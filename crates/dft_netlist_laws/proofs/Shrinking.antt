-- An operand takes a token at least.
use Rattle.std.proofs.Common.{◌≡◌, ℕ, suc, ◌<◌, ◌≤◌, Bool, true, false, true≢false, not, cond, List, [], ◌∷◌, length, map, Option, None, Some, Ok, Err, refl, sym, ◌∙◌, le_refl, arith, nat_lt, nat_le}
use Rattle.dft_base.specs.Parser.{Checked, and_then}
use Rattle.dft_netlist.specs.declared.instance.Signal.TheVariants as signal
use Rattle.dft_netlist_text.specs.declared.text.Cause.{Cause}
use Rattle.dft_netlist_text.specs.declared.text.Cause.TheVariants as cause
use Rattle.dft_netlist_text.specs.declared.text.Fault.{Fault}
use Rattle.dft_netlist_text.specs.declared.text.Site.{Site}
use Rattle.dft_netlist_text.specs.declared.text.TokenKind.{TokenKind}
use Rattle.dft_netlist_text.specs.declared.text.TokenKind.TheVariants as kind
use Rattle.dft_netlist_text.specs.Lexemes.{Token}
use Rattle.dft_netlist_text.specs.Modules.{Draft}
use Rattle.dft_netlist_text.specs.Steps.{Outcome, Rule, kind_of, bytes, left, next, sees, same_kind, expect, checked, needed, refusal}
use Rattle.dft_netlist_text.specs.Expressions.{Operand, number, small_number, unless_too_large, unless_cause, cause_of_digits, value_of_digits, rest_of_range, rest_of_select, selection, digits, constant, radix, drives, followed, may_follow, bits_of_name, named_operand, constant_operand, operand}

-- so many tokens are left at most
abbrev pub Within : {A : Type 0} → ℕ → Outcome A → Type 0
Within most (Ok p) = length p.1 ≤ most
Within most (Err f) = Unit {0}

-- a rule takes no token that is not there
abbrev Shrinks : {A : Type 0} → Rule A → Type 0
Shrinks rule = (ts : List Token) → Within (length ts) (rule ts)

wider : {A : Type 0} (fewer most : ℕ) (o : Outcome A) → fewer ≤ most → Within fewer o → Within most o
wider fewer most (Ok p) le h = omega (arith, le, h)
wider fewer most (Err f) le h = tt

behind : {A B : Type 0} (most : ℕ) (o : Outcome A) (f : A → Rule B) → Within most o → ((a : A) → Shrinks (f a)) → Within most (and_then o f)
behind most (Ok p) f h k = wider (length p.1) most (f p.0 p.1) h (k p.0 p.1)
behind most (Err e) f h k = tt

either : {A : Type 0} (most : ℕ) (b : Bool) (x y : Outcome A) → Within most x → Within most y → Within most (cond b x y)
either most true x y hx hy = hx
either most false x y hx hy = hy

-- fewer tokens are left
abbrev pub Below : {A : Type 0} → ℕ → Outcome A → Type 0
Below most (Ok p) = length p.1 < most
Below most (Err f) = Unit {0}

below_by : {A : Type 0} (fewer most : ℕ) (o : Outcome A) → fewer < most → Within fewer o → Below most o
below_by fewer most (Ok p) lt h = omega (arith, lt, h)
below_by fewer most (Err f) lt h = tt

below : {A B : Type 0} (most : ℕ) (o : Outcome A) (f : A → Rule B) → Below most o → ((a : A) → Shrinks (f a)) → Below most (and_then o f)
below most (Ok p) f h k = below_by (length p.1) most (f p.0 p.1) h (k p.0 p.1)
below most (Err e) f h k = tt

either_below : {A : Type 0} (most : ℕ) (b : Bool) (x y : Outcome A) → Below most x → Below most y → Below most (cond b x y)
either_below most true x y hx hy = hx
either_below most false x y hx hy = hy

within : {A : Type 0} (most : ℕ) (o : Outcome A) → Below most o → Within most o
within most (Ok p) h = omega (arith, h)
within most (Err f) h = tt

-- ---- tokens

behind_next : (ts : List Token) → length (next ts) ≤ length ts
unfolding next
behind_next [] = omega arith
behind_next (t ∷ ts) = omega arith

-- a token of this kind is there
abbrev pub IsThere : TokenKind → Type 0
IsThere k = same_kind kind.End k ≡ false

fewer : (k : TokenKind) (ts : List Token) → IsThere k → sees k ts ≡ true → length (next ts) < length ts
unfolding next sees kind_of
fewer k [] there h = absurd (true≢false (sym h ∙ there))
fewer k (t ∷ ts) there h = omega arith

pub taken : (k : TokenKind) (ts : List Token) → IsThere k → sees k ts ≡ true → suc (length (next ts)) ≤ length ts
taken k ts there h = omega (arith, fewer k ts there h)

expect_by : (k : TokenKind) (ts : List Token) (b : Bool) → IsThere k → sees k ts ≡ b → Below (length ts) (cond b (Ok (bytes ts, next ts)) (Err (refusal ts)))
expect_by k ts true there h = fewer k ts there h
expect_by k ts false there h = tt

expects : (k : TokenKind) (ts : List Token) → IsThere k → Below (length ts) (expect k ts)
unfolding expect
expects k ts there = expect_by k ts (sees k ts) there refl

expects_none : (k : TokenKind) → Shrinks (expect k)
unfolding expect
expects_none k ts = either (length ts) (sees k ts) (Ok (bytes ts, next ts)) (Err (refusal ts)) (behind_next ts) tt

pure_shrinks : {A : Type 0} (a : A) → Shrinks (λ ts. Ok (a, ts))
pure_shrinks a ts = le_refl (length ts)

-- ---- numbers and selections

too_large : {A : Type 0} (place : ℕ) (o : Option A) → Shrinks (unless_too_large place o)
too_large place None ts = tt
too_large place (Some a) ts = le_refl (length ts)

number_takes : (ts : List Token) → Below (length ts) (number ts)
unfolding number same_kind
number_takes ts = below (length ts) (expect kind.Number ts) (λ word. unless_too_large (left ts) (small_number word)) (expects kind.Number ts refl) (λ word. too_large (left ts) (small_number word))

number_shrinks : Shrinks number
number_shrinks ts = within (length ts) (number ts) (number_takes ts)

range_shrinks : (first : ℕ) → Shrinks (rest_of_range first)
unfolding rest_of_range
range_shrinks first ts =
    behind (length ts) (expect kind.Colon ts) _ (expects_none kind.Colon ts) (λ _ us.
    behind (length us) (number us) _ (number_shrinks us) (λ second vs.
    behind (length vs) (expect kind.CloseBracket vs) _ (expects_none kind.CloseBracket vs) (λ _ ws. le_refl (length ws))))

select_shrinks : (first : ℕ) → Shrinks (rest_of_select first)
unfolding rest_of_select
select_shrinks first ts =
    either (length ts) (sees kind.CloseBracket ts) _ _ (behind_next ts) (behind (length ts) (rest_of_range first ts) _ (range_shrinks first ts) (λ r us. le_refl (length us)))

selection_shrinks : Shrinks selection
unfolding selection
selection_shrinks ts =
    either (length ts) (sees kind.OpenBracket ts) _ _
    (wider (length (next ts)) (length ts) _ (behind_next ts) (behind (length (next ts)) (number (next ts)) rest_of_select (number_shrinks (next ts)) (λ first us. select_shrinks first us)))
    (le_refl (length ts))

-- ---- constants

cause_shrinks : {A : Type 0} (place : ℕ) (o : Option Cause) (rule : Rule A) → Shrinks rule → Shrinks (unless_cause place o rule)
cause_shrinks place None rule h ts = h ts
cause_shrinks place (Some why) rule h ts = tt

needed_shrinks : {A : Type 0} (why : Cause) (place : ℕ) (b : Bool) (rule : Rule A) → Shrinks rule → Shrinks (needed why place b rule)
needed_shrinks why place true rule h ts = h ts
needed_shrinks why place false rule h ts = tt

digits_shrinks : (size base : ℕ) → Shrinks (digits size base)
unfolding digits
digits_shrinks size base ts =
    behind (length ts) (expect kind.Digits ts) _ (expects_none kind.Digits ts) (λ word us.
    cause_shrinks (left ts) (cause_of_digits base word) _ (λ vs.
    behind (length vs) (unless_too_large (left ts) (value_of_digits base word) vs) _ (too_large (left ts) (value_of_digits base word) vs) (λ value ws. le_refl (length ws))) us)

constant_takes : (ts : List Token) → Below (length ts) (constant ts)
unfolding constant
constant_takes ts =
    below (length ts) (number ts) _ (number_takes ts) (λ size.
    needed_shrinks cause.Misfit (left ts) (nat_lt 0 size) _ (needed_shrinks cause.TooLarge (left ts) (nat_le size 128) _ (λ us.
    behind (length us) (expect kind.Base us) _ (expects_none kind.Base us) (λ base. digits_shrinks size (radix base)))))

-- ---- operands

followed_shrinks : (at : Site) (depth : ℕ) → Shrinks (followed at depth)
unfolding followed
followed_shrinks at depth ts = either (length ts) (may_follow at depth (kind_of ts)) _ _ (le_refl (length ts)) tt

checked_shrinks : {A : Type 0} (c : Checked Fault A) → Shrinks (checked c)
checked_shrinks (Ok a) ts = le_refl (length ts)
checked_shrinks (Err f) ts = tt

constant_operand_takes : (at : Site) (depth : ℕ) (d : Draft) (ts : List Token) → Below (length ts) (constant_operand at depth d ts)
unfolding constant_operand
constant_operand_takes at depth d ts =
    below (length ts) (constant ts) _ (constant_takes ts) (λ bits us.
    behind (length us) (followed at depth us) _ (followed_shrinks at depth us) (λ _.
    needed_shrinks cause.Token (left ts) (not (drives at)) _ (pure_shrinks {A = Operand} (d, map signal.Constant bits))))

named_operand_takes : (at : Site) (depth : ℕ) (d : Draft) (ts : List Token) → Below (length ts) (named_operand at depth d ts)
unfolding named_operand same_kind
named_operand_takes at depth d ts =
    below (length ts) (expect kind.Name ts) _ (expects kind.Name ts refl) (λ word us.
    behind (length us) (selection us) _ (selection_shrinks us) (λ what vs.
    behind (length vs) (followed at depth vs) _ (followed_shrinks at depth vs) (λ _.
    checked_shrinks (bits_of_name at depth (record { word = word; what = what; place = left ts }) d))))

pub operand_takes : (at : Site) (depth : ℕ) (d : Draft) (ts : List Token) → Below (length ts) (operand at depth d ts)
unfolding operand
operand_takes at depth d ts = either_below (length ts) (sees kind.Number ts) _ _ (constant_operand_takes at depth d ts) (named_operand_takes at depth d ts)

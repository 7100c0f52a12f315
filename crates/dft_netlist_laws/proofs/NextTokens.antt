-- Which token comes next.
use Rattle.std.proofs.Common.{◌≡◌, ◌⊎◌, inl, inr, ℕ, Bool, true, false, cond, List, Ok, Err, refl, ap, subst, ◌∙◌}
use Rattle.dft_base.specs.Parser.{and_then}
use Rattle.dft_netlist_text.specs.declared.text.TokenKind.{TokenKind}
use Rattle.dft_netlist_text.specs.declared.text.TokenKind.TheVariants as kind
use Rattle.dft_netlist_text.specs.declared.text.Site.{Site}
use Rattle.dft_netlist_text.specs.Lexemes.{Token}
use Rattle.dft_netlist_text.specs.Modules.{Draft}
use Rattle.dft_netlist_text.specs.Expressions.{Operand, constant_operand, named_operand, operand}
use Rattle.dft_netlist_text.specs.Steps.{Outcome, Rule, kind_of, bytes, next, sees, same_kind, expect, refusal}
use Rattle.dft_netlist_text.proofs.KindLemmas.{kinds_same, kind_is}

-- whether a token is seen is told by its kind
pub sees_by : (k is : TokenKind) (ts : List Token) → kind_of ts ≡ is → sees k ts ≡ same_kind is k
unfolding sees
sees_by k is ts same = ap (λ x. same_kind x k) same

pub open_open : same_kind kind.OpenBrace kind.OpenBrace ≡ true
unfolding same_kind
open_open = refl

pub number_open : same_kind kind.Number kind.OpenBrace ≡ false
unfolding same_kind
number_open = refl

pub name_open : same_kind kind.Name kind.OpenBrace ≡ false
unfolding same_kind
name_open = refl

pub comma_comma : same_kind kind.Comma kind.Comma ≡ true
unfolding same_kind
comma_comma = refl

pub close_comma : same_kind kind.CloseBrace kind.Comma ≡ false
unfolding same_kind
close_comma = refl

pub close_close : same_kind kind.CloseBrace kind.CloseBrace ≡ true
unfolding same_kind
close_close = refl

-- ---- the token that an operand begins with

-- where it is a value, a token of this kind comes next
abbrev Begins : {A : Type 0} → TokenKind → List Token → Outcome A → Type 0
Begins k ts (Ok p) = sees k ts ≡ true
Begins k ts (Err f) = Unit {0}

begins_any : {A : Type 0} (k : TokenKind) (ts : List Token) (o : Outcome A) → sees k ts ≡ true → Begins k ts o
begins_any k ts (Ok p) h = h
begins_any k ts (Err f) h = tt

begins_behind : {A B : Type 0} (k : TokenKind) (ts : List Token) (o : Outcome A) (f : A → Rule B) → Begins k ts o → Begins k ts (and_then o f)
begins_behind k ts (Ok p) f h = begins_any k ts (f p.0 p.1) h
begins_behind k ts (Err e) f h = tt

expected_by : (k : TokenKind) (ts : List Token) (b : Bool) → sees k ts ≡ b → Begins k ts (cond b (Ok (bytes ts, next ts)) (Err (refusal ts)))
expected_by k ts true h = h
expected_by k ts false h = tt

expected : (k : TokenKind) (ts : List Token) → Begins k ts (expect k ts)
unfolding expect
expected k ts = expected_by k ts (sees k ts) refl

named : (at : Site) (depth : ℕ) (d : Draft) (ts : List Token) → Begins kind.Name ts (named_operand at depth d ts)
unfolding named_operand
named at depth d ts = begins_behind kind.Name ts (expect kind.Name ts) _ (expected kind.Name ts)

-- a token that an expression begins with
abbrev pub Fronts : List Token → Type 0
Fronts ts = (kind_of ts ≡ kind.Name) ⊎ ((kind_of ts ≡ kind.Number) ⊎ (kind_of ts ≡ kind.OpenBrace))

operand_by : (at : Site) (depth : ℕ) (d : Draft) (ts : List Token) (p : Operand × List Token) (b : Bool) → sees kind.Number ts ≡ b →
    cond b (constant_operand at depth d ts) (named_operand at depth d ts) ≡ Ok p → (kind_of ts ≡ kind.Name) ⊎ (kind_of ts ≡ kind.Number)
operand_by at depth d ts p true h is = inr (kind_is kind.Number ts h)
operand_by at depth d ts p false h is = inl (kind_is kind.Name ts (subst (Begins kind.Name ts) is (named at depth d ts)))

pub operand_fronts : (at : Site) (depth : ℕ) (d : Draft) (ts : List Token) (o : Operand) (rest : List Token) → operand at depth d ts ≡ Ok (o, rest) → (kind_of ts ≡ kind.Name) ⊎ (kind_of ts ≡ kind.Number)
unfolding operand
operand_fronts at depth d ts o rest is = operand_by at depth d ts (o, rest) (sees kind.Number ts) refl is

no_brace : (ts : List Token) → (kind_of ts ≡ kind.Name) ⊎ (kind_of ts ≡ kind.Number) → sees kind.OpenBrace ts ≡ false
no_brace ts (inl is) = sees_by kind.OpenBrace kind.Name ts is ∙ name_open
no_brace ts (inr is) = sees_by kind.OpenBrace kind.Number ts is ∙ number_open

-- an operand begins with no brace
pub begins_operand : (at : Site) (depth : ℕ) (d : Draft) (ts : List Token) (o : Operand) (rest : List Token) → operand at depth d ts ≡ Ok (o, rest) → sees kind.OpenBrace ts ≡ false
begins_operand at depth d ts o rest is = no_brace ts (operand_fronts at depth d ts o rest is)

-- the end of the text is none of these
pub end_open : same_kind kind.End kind.OpenBrace ≡ false
unfolding same_kind
end_open = refl

pub end_comma : same_kind kind.End kind.Comma ≡ false
unfolding same_kind
end_comma = refl

pub end_close : same_kind kind.End kind.CloseBrace ≡ false
unfolding same_kind
end_close = refl

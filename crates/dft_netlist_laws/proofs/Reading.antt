-- What is read by counting braces is an expression.
use Rattle.std.proofs.Common.{◌≡◌, ℕ, zero, suc, ◌<◌, ◌≤◌, Bool, true, false, List, [], ◌++◌, Ok, Err, refl, sym, ap, subst, ◌∙◌, append_assoc, append-nil, le_refl, arith}
use Rattle.dft_netlist.specs.declared.instance.Signal.{Signal}
use Rattle.dft_netlist_text.specs.declared.text.Site.{Site}
use Rattle.dft_netlist_text.specs.declared.text.TokenKind.TheVariants as kind
use Rattle.dft_netlist_text.specs.Lexemes.{Token}
use Rattle.dft_netlist_text.specs.Modules.{Draft}
use Rattle.dft_netlist_text.specs.Steps.{Outcome, next, sees, refusal}
use Rattle.dft_netlist_text.specs.Expressions.{Operand, OpenConcatenations, concatenations_from, operand}
use Rattle.dft_netlist_text.proofs.KindLemmas.{kind_is}
use Rattle.dft_netlist_laws.specs.Concatenations.{IsExpression, Single, Concatenation, AreMembers, Last, More}
use Rattle.dft_netlist_laws.proofs.Steps.{awaiting, held, never, stops, brace_opens, operand_comes, operand_fails, comma_goes, brace_closes, neither}

-- an expression was read, and reading goes on behind it
pub record Opened (at : Site) (n depth : ℕ) (d : Draft) (ts : List Token) (bits : List Signal) (r : (Draft × OpenConcatenations) × List Token) : Type 0 where
  pub m : ℕ
  pub fewer : m < n
  pub o : Operand
  pub mid : List Token
  pub is : IsExpression at depth d ts o mid
  pub on : concatenations_from m at o.0 (held depth (bits ++ o.1)) mid ≡ Ok r

-- the other members of a concatenation were read, and reading goes on behind it
record Closed (at : Site) (n depth : ℕ) (d : Draft) (ts : List Token) (bits : List Signal) (r : (Draft × OpenConcatenations) × List Token) : Type 0 where
  pub m : ℕ
  pub fewer : m < n
  pub others : Operand
  pub mid : List Token
  pub are : (e : Draft) (us : List Token) (first : List Signal) → IsExpression at (suc depth) e us (d, first) ts → AreMembers at depth e us (others.0, first ++ others.1) mid
  pub on : concatenations_from m at others.0 (held depth (bits ++ others.1)) mid ≡ Ok r

record Claims (most : ℕ) : Type 0 where
  pub opened : (n : ℕ) → n ≤ most → (at : Site) (depth : ℕ) (d : Draft) (ts : List Token) (bits : List Signal) (r : (Draft × OpenConcatenations) × List Token) →
      concatenations_from n at d (awaiting depth bits) ts ≡ Ok r → Opened at n depth d ts bits r
  pub closed : (n : ℕ) → n ≤ most → (at : Site) (depth : ℕ) (d : Draft) (ts : List Token) (bits : List Signal) (r : (Draft × OpenConcatenations) × List Token) →
      concatenations_from n at d (held (suc depth) bits) ts ≡ Ok r → Closed at n depth d ts bits r

-- ---- an expression

concatenation : (most : ℕ) → Claims most → (n : ℕ) → n ≤ most → (at : Site) (depth : ℕ) (d : Draft) (ts : List Token) (bits : List Signal) (r : (Draft × OpenConcatenations) × List Token) →
    sees kind.OpenBrace ts ≡ true → concatenations_from n at d (awaiting (suc depth) bits) (next ts) ≡ Ok r → Opened at (suc n) depth d ts bits r
concatenation most claims n le at depth d ts bits r h e =
    let a = claims.opened n le at (suc depth) d (next ts) bits r e in
    let few : a.m ≤ most = omega (arith, a.fewer, le) in
    let b = claims.closed a.m few at depth a.o.0 a.mid (bits ++ a.o.1) r a.on in
    record {
      m = b.m;
      fewer = omega (arith, a.fewer, b.fewer);
      o = (b.others.0, a.o.1 ++ b.others.1);
      mid = b.mid;
      is = Concatenation (kind_is kind.OpenBrace ts h) (b.are d (next ts) a.o.1 a.is);
      on = ap (λ (x : List Signal). concatenations_from b.m at b.others.0 (held depth x) b.mid) (sym (append_assoc bits a.o.1 b.others.1)) ∙ b.on;
    }

single : (n : ℕ) (at : Site) (depth : ℕ) (d : Draft) (ts : List Token) (bits : List Signal) (r : (Draft × OpenConcatenations) × List Token) (x : Outcome Operand) →
    sees kind.OpenBrace ts ≡ false → operand at depth d ts ≡ x → concatenations_from (suc n) at d (awaiting depth bits) ts ≡ Ok r → Opened at (suc n) depth d ts bits r
single n at depth d ts bits r (Ok p) h is e = record {
  m = n;
  fewer = omega arith;
  o = p.0;
  mid = p.1;
  is = Single is;
  on = sym (operand_comes n at depth d ts p.1 bits p.0 h is) ∙ e;
}
single n at depth d ts bits r (Err f) h is e = never f r (sym (operand_fails n at depth d ts bits f h is) ∙ e)

opened_by : (most : ℕ) → Claims most → (n : ℕ) → n ≤ most → (at : Site) (depth : ℕ) (d : Draft) (ts : List Token) (bits : List Signal) (r : (Draft × OpenConcatenations) × List Token) (b : Bool) →
    sees kind.OpenBrace ts ≡ b → concatenations_from (suc n) at d (awaiting depth bits) ts ≡ Ok r → Opened at (suc n) depth d ts bits r
opened_by most claims n le at depth d ts bits r true h e = concatenation most claims n le at depth d ts bits r h (sym (brace_opens n at depth d ts bits h) ∙ e)
opened_by most claims n le at depth d ts bits r false h e = single n at depth d ts bits r (operand at depth d ts) h refl e

opened_step : (most : ℕ) → Claims most → (n : ℕ) → n ≤ suc most → (at : Site) (depth : ℕ) (d : Draft) (ts : List Token) (bits : List Signal) (r : (Draft × OpenConcatenations) × List Token) →
    concatenations_from n at d (awaiting depth bits) ts ≡ Ok r → Opened at n depth d ts bits r
opened_step most claims zero le at depth d ts bits r e = never (refusal ts) r (sym (stops at d (awaiting depth bits) ts) ∙ e)
opened_step most claims (suc n) le at depth d ts bits r e = opened_by most claims n (omega (arith, le)) at depth d ts bits r (sees kind.OpenBrace ts) refl e

-- ---- behind an expression

another : (most : ℕ) → Claims most → (n : ℕ) → n ≤ most → (at : Site) (depth : ℕ) (d : Draft) (ts : List Token) (bits : List Signal) (r : (Draft × OpenConcatenations) × List Token) →
    sees kind.Comma ts ≡ true → concatenations_from n at d (awaiting (suc depth) bits) (next ts) ≡ Ok r → Closed at (suc n) depth d ts bits r
another most claims n le at depth d ts bits r h e =
    let a = claims.opened n le at (suc depth) d (next ts) bits r e in
    let few : a.m ≤ most = omega (arith, a.fewer, le) in
    let b = claims.closed a.m few at depth a.o.0 a.mid (bits ++ a.o.1) r a.on in
    record {
      m = b.m;
      fewer = omega (arith, a.fewer, b.fewer);
      others = (b.others.0, a.o.1 ++ b.others.1);
      mid = b.mid;
      are = λ e us first is. More is (kind_is kind.Comma ts h) (b.are d (next ts) a.o.1 a.is);
      on = ap (λ (x : List Signal). concatenations_from b.m at b.others.0 (held depth x) b.mid) (sym (append_assoc bits a.o.1 b.others.1)) ∙ b.on;
    }

last : (n : ℕ) (at : Site) (depth : ℕ) (d : Draft) (ts : List Token) (bits : List Signal) (r : (Draft × OpenConcatenations) × List Token) →
    sees kind.CloseBrace ts ≡ true → concatenations_from n at d (held depth bits) (next ts) ≡ Ok r → Closed at (suc n) depth d ts bits r
last n at depth d ts bits r c e = record {
  m = n;
  fewer = omega arith;
  others = (d, []);
  mid = next ts;
  are = λ e us first is. subst (λ (x : List Signal). AreMembers at depth e us (d, x) (next ts)) (sym (append-nil first)) (Last is (kind_is kind.CloseBrace ts c));
  on = ap (λ (x : List Signal). concatenations_from n at d (held depth x) (next ts)) (append-nil bits) ∙ e;
}

closed_or : (n : ℕ) (at : Site) (depth : ℕ) (d : Draft) (ts : List Token) (bits : List Signal) (r : (Draft × OpenConcatenations) × List Token) (b : Bool) →
    sees kind.Comma ts ≡ false → sees kind.CloseBrace ts ≡ b → concatenations_from (suc n) at d (held (suc depth) bits) ts ≡ Ok r → Closed at (suc n) depth d ts bits r
closed_or n at depth d ts bits r true h c e = last n at depth d ts bits r c (sym (brace_closes n at depth d ts bits h c) ∙ e)
closed_or n at depth d ts bits r false h c e = never (refusal ts) r (sym (neither n at depth d ts bits h c) ∙ e)

closed_by : (most : ℕ) → Claims most → (n : ℕ) → n ≤ most → (at : Site) (depth : ℕ) (d : Draft) (ts : List Token) (bits : List Signal) (r : (Draft × OpenConcatenations) × List Token) (b : Bool) →
    sees kind.Comma ts ≡ b → concatenations_from (suc n) at d (held (suc depth) bits) ts ≡ Ok r → Closed at (suc n) depth d ts bits r
closed_by most claims n le at depth d ts bits r true h e = another most claims n le at depth d ts bits r h (sym (comma_goes n at depth d ts bits h) ∙ e)
closed_by most claims n le at depth d ts bits r false h e = closed_or n at depth d ts bits r (sees kind.CloseBrace ts) h refl e

closed_step : (most : ℕ) → Claims most → (n : ℕ) → n ≤ suc most → (at : Site) (depth : ℕ) (d : Draft) (ts : List Token) (bits : List Signal) (r : (Draft × OpenConcatenations) × List Token) →
    concatenations_from n at d (held (suc depth) bits) ts ≡ Ok r → Closed at n depth d ts bits r
closed_step most claims zero le at depth d ts bits r e = never (refusal ts) r (sym (stops at d (held (suc depth) bits) ts) ∙ e)
closed_step most claims (suc n) le at depth d ts bits r e = closed_by most claims n (omega (arith, le)) at depth d ts bits r (sees kind.Comma ts) refl e

-- ---- both

none : (n : ℕ) → n ≤ 0 → 0 ≡ n
none n le = omega (arith, le)

nothing : Claims zero
nothing = record {
  opened = λ n le at depth d ts bits r e. never (refusal ts) r (sym (stops at d (awaiting depth bits) ts) ∙ ap (λ (k : ℕ). concatenations_from k at d (awaiting depth bits) ts) (none n le) ∙ e);
  closed = λ n le at depth d ts bits r e. never (refusal ts) r (sym (stops at d (held (suc depth) bits) ts) ∙ ap (λ (k : ℕ). concatenations_from k at d (held (suc depth) bits) ts) (none n le) ∙ e);
}

claims : (most : ℕ) → Claims most
claims zero = nothing
claims (suc most) = record { opened = opened_step most (claims most); closed = closed_step most (claims most) }

pub opened : (n : ℕ) (at : Site) (depth : ℕ) (d : Draft) (ts : List Token) (bits : List Signal) (r : (Draft × OpenConcatenations) × List Token) →
    concatenations_from n at d (awaiting depth bits) ts ≡ Ok r → Opened at n depth d ts bits r
opened n = (claims n).opened n (le_refl n)

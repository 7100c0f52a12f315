-- One step through an expression.
use Rattle.std.proofs.Common.{◌≡◌, ℕ, zero, suc, ◌-◌, Bool, true, false, cond, true≢false, List, ◌++◌, Ok, Err, is_ok, refl, sym, ap, ◌∙◌, ne_eqb, suc-ne-zero, arith}
use Rattle.dft_base.specs.Parser.{and_then}
use Rattle.dft_netlist.specs.declared.instance.Signal.{Signal}
use Rattle.dft_netlist_text.specs.declared.text.Fault.{Fault}
use Rattle.dft_netlist_text.specs.declared.text.Site.{Site}
use Rattle.dft_netlist_text.specs.declared.text.TokenKind.TheVariants as kind
use Rattle.dft_netlist_text.specs.Lexemes.{Token}
use Rattle.dft_netlist_text.specs.Modules.{Draft}
use Rattle.dft_netlist_text.specs.Steps.{Outcome, bytes, next, sees, expect, refusal}
use Rattle.dft_netlist_text.specs.Expressions.{Operand, OpenConcatenations, is_read, with_operand, opening, closing, concatenations_from, operand}

-- an operand or a concatenation comes next; an operand has come
abbrev pub awaiting : ℕ → List Signal → OpenConcatenations
awaiting depth bits = record { depth = depth; awaits = true; bits = bits }

abbrev pub held : ℕ → List Signal → OpenConcatenations
held depth bits = record { depth = depth; awaits = false; bits = bits }

-- ---- an outcome that is a value

pub never : {A B : Type 0} (f : Fault) (p : A × List Token) → ◌≡◌ {A = Outcome A} (Err f) (Ok p) → B
never f p e = absurd (true≢false (sym (ap is_ok e)))

got : {A : Type 0} → A × List Token → Outcome A → A × List Token
got p (Ok q) = q
got p (Err f) = p

pub same_value : {A : Type 0} (p q : A × List Token) → ◌≡◌ {A = Outcome A} (Ok p) (Ok q) → p ≡ q
unfolding got
same_value p q e = ap (got p) e

-- ---- nothing is read without a step

pub stops : (at : Site) (d : Draft) (so_far : OpenConcatenations) (ts : List Token) → concatenations_from zero at d so_far ts ≡ Err (refusal ts)
unfolding concatenations_from
stops at d so_far ts = refl

-- ---- an expression comes

abbrev on : ℕ → Site → Outcome (Draft × OpenConcatenations) → Outcome (Draft × OpenConcatenations)
on n at o = and_then o (λ p. concatenations_from n at p.0 p.1)

open_is : (n : ℕ) (at : Site) (depth : ℕ) (d : Draft) (ts : List Token) (bits : List Signal) →
    concatenations_from (suc n) at d (awaiting depth bits) ts
    ≡ on n at (cond (sees kind.OpenBrace ts) (Ok ((d, awaiting (suc depth) bits), next ts)) (and_then (operand at depth d ts) (λ o us. Ok (with_operand (awaiting depth bits) o, us))))
unfolding concatenations_from opening
open_is n at depth d ts bits = refl

pub brace_opens : (n : ℕ) (at : Site) (depth : ℕ) (d : Draft) (ts : List Token) (bits : List Signal) → sees kind.OpenBrace ts ≡ true →
    concatenations_from (suc n) at d (awaiting depth bits) ts ≡ concatenations_from n at d (awaiting (suc depth) bits) (next ts)
brace_opens n at depth d ts bits h =
    open_is n at depth d ts bits
    ∙ ap (λ (b : Bool). on n at (cond b (Ok ((d, awaiting (suc depth) bits), next ts)) (and_then (operand at depth d ts) (λ o us. Ok (with_operand (awaiting depth bits) o, us))))) h

no_brace : (n : ℕ) (at : Site) (depth : ℕ) (d : Draft) (ts : List Token) (bits : List Signal) → sees kind.OpenBrace ts ≡ false →
    concatenations_from (suc n) at d (awaiting depth bits) ts ≡ on n at (and_then (operand at depth d ts) (λ o us. Ok (with_operand (awaiting depth bits) o, us)))
no_brace n at depth d ts bits h =
    open_is n at depth d ts bits
    ∙ ap (λ (b : Bool). on n at (cond b (Ok ((d, awaiting (suc depth) bits), next ts)) (and_then (operand at depth d ts) (λ o us. Ok (with_operand (awaiting depth bits) o, us))))) h

pub operand_comes : (n : ℕ) (at : Site) (depth : ℕ) (d : Draft) (ts us : List Token) (bits : List Signal) (o : Operand) →
    sees kind.OpenBrace ts ≡ false → operand at depth d ts ≡ Ok (o, us) →
    concatenations_from (suc n) at d (awaiting depth bits) ts ≡ concatenations_from n at o.0 (held depth (bits ++ o.1)) us
operand_comes n at depth d ts us bits o h e =
    no_brace n at depth d ts bits h ∙ ap (λ (x : Outcome Operand). on n at (and_then x (λ o vs. Ok (with_operand (awaiting depth bits) o, vs)))) e

pub operand_fails : (n : ℕ) (at : Site) (depth : ℕ) (d : Draft) (ts : List Token) (bits : List Signal) (f : Fault) →
    sees kind.OpenBrace ts ≡ false → operand at depth d ts ≡ Err f → concatenations_from (suc n) at d (awaiting depth bits) ts ≡ Err f
operand_fails n at depth d ts bits f h e =
    no_brace n at depth d ts bits h ∙ ap (λ (x : Outcome Operand). on n at (and_then x (λ o vs. Ok (with_operand (awaiting depth bits) o, vs)))) e

-- ---- an expression has come

pub reads : (n : ℕ) (at : Site) (d : Draft) (ts : List Token) (bits : List Signal) → concatenations_from (suc n) at d (held 0 bits) ts ≡ Ok ((d, held 0 bits), ts)
unfolding concatenations_from
reads n at d ts bits = refl

more : (depth : ℕ) (bits : List Signal) → is_read (held (suc depth) bits) ≡ false
more depth bits = ne_eqb (suc depth) 0 (suc-ne-zero depth)

abbrev behind : (at : Site) → ℕ → ℕ → Draft → List Signal → List Token → Outcome (Draft × OpenConcatenations)
behind at n depth d bits ts =
    on n at (cond (sees kind.Comma ts) (Ok ((d, awaiting (suc depth) bits), next ts))
    (and_then (cond (sees kind.CloseBrace ts) (Ok (bytes ts, next ts)) (Err (refusal ts))) (λ w us. Ok ((d, held (suc depth - 1) bits), us))))

shut_is : (n : ℕ) (at : Site) (depth : ℕ) (d : Draft) (ts : List Token) (bits : List Signal) →
    concatenations_from (suc n) at d (held (suc depth) bits) ts ≡ behind at n depth d bits ts
unfolding concatenations_from closing expect
shut_is n at depth d ts bits =
    ap (λ (b : Bool). cond b (Ok ((d, held (suc depth) bits), ts)) (behind at n depth d bits ts)) (more depth bits)

pub comma_goes : (n : ℕ) (at : Site) (depth : ℕ) (d : Draft) (ts : List Token) (bits : List Signal) → sees kind.Comma ts ≡ true →
    concatenations_from (suc n) at d (held (suc depth) bits) ts ≡ concatenations_from n at d (awaiting (suc depth) bits) (next ts)
comma_goes n at depth d ts bits h =
    shut_is n at depth d ts bits
    ∙ ap (λ (b : Bool). on n at (cond b (Ok ((d, awaiting (suc depth) bits), next ts)) (and_then (cond (sees kind.CloseBrace ts) (Ok (bytes ts, next ts)) (Err (refusal ts))) (λ w us. Ok ((d, held (suc depth - 1) bits), us))))) h

closes_or : (n : ℕ) (at : Site) (depth : ℕ) (d : Draft) (ts : List Token) (bits : List Signal) → sees kind.Comma ts ≡ false →
    concatenations_from (suc n) at d (held (suc depth) bits) ts
    ≡ on n at (and_then (cond (sees kind.CloseBrace ts) (Ok (bytes ts, next ts)) (Err (refusal ts))) (λ w us. Ok ((d, held (suc depth - 1) bits), us)))
closes_or n at depth d ts bits h =
    shut_is n at depth d ts bits
    ∙ ap (λ (b : Bool). on n at (cond b (Ok ((d, awaiting (suc depth) bits), next ts)) (and_then (cond (sees kind.CloseBrace ts) (Ok (bytes ts, next ts)) (Err (refusal ts))) (λ w us. Ok ((d, held (suc depth - 1) bits), us))))) h

less : (depth : ℕ) → suc depth - 1 ≡ depth
less depth = omega arith

pub brace_closes : (n : ℕ) (at : Site) (depth : ℕ) (d : Draft) (ts : List Token) (bits : List Signal) → sees kind.Comma ts ≡ false → sees kind.CloseBrace ts ≡ true →
    concatenations_from (suc n) at d (held (suc depth) bits) ts ≡ concatenations_from n at d (held depth bits) (next ts)
brace_closes n at depth d ts bits h c =
    closes_or n at depth d ts bits h
    ∙ ap (λ (b : Bool). on n at (and_then (cond b (Ok (bytes ts, next ts)) (Err (refusal ts))) (λ w us. Ok ((d, held (suc depth - 1) bits), us)))) c
    ∙ ap (λ (k : ℕ). concatenations_from n at d (held k bits) (next ts)) (less depth)

pub neither : (n : ℕ) (at : Site) (depth : ℕ) (d : Draft) (ts : List Token) (bits : List Signal) → sees kind.Comma ts ≡ false → sees kind.CloseBrace ts ≡ false →
    concatenations_from (suc n) at d (held (suc depth) bits) ts ≡ Err (refusal ts)
neither n at depth d ts bits h c =
    closes_or n at depth d ts bits h
    ∙ ap (λ (b : Bool). on n at (and_then (cond b (Ok (bytes ts, next ts)) (Err (refusal ts))) (λ w us. Ok ((d, held (suc depth - 1) bits), us)))) c

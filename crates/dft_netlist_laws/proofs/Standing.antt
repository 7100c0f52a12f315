-- An expression is read by counting braces, where there are as many turns as tokens.
use Rattle.std.proofs.Common.{◌≡◌, ℕ, suc, ◌+◌, ◌≤◌, List, ◌++◌, length, Ok, ap, subst, ◌∙◌, append_assoc, arith}
use Rattle.dft_netlist.specs.declared.instance.Signal.{Signal}
use Rattle.dft_netlist_text.specs.declared.text.Site.{Site}
use Rattle.dft_netlist_text.specs.declared.text.TokenKind.TheVariants as kind
use Rattle.dft_netlist_text.specs.Lexemes.{Token}
use Rattle.dft_netlist_text.specs.Modules.{Draft}
use Rattle.dft_netlist_text.specs.Steps.{kind_of, next}
use Rattle.dft_netlist_text.specs.Expressions.{Operand, concatenations_from, operand}
use Rattle.dft_netlist_laws.specs.Concatenations.{IsExpression, Single, Concatenation, AreMembers, Last, More}
use Rattle.dft_netlist_laws.proofs.NextTokens.{sees_by, open_open, comma_comma, close_comma, close_close, end_open, end_comma, end_close, begins_operand}
use Rattle.dft_netlist_laws.proofs.Steps.{awaiting, held, brace_opens, operand_comes, comma_goes, brace_closes}
use Rattle.dft_netlist_laws.proofs.Shrinking.{Below, operand_takes, taken}

-- an expression is read in these turns, each of which takes a token
pub record Reads (at : Site) (depth : ℕ) (d : Draft) (ts : List Token) (o : Operand) (mid : List Token) : Type 0 where
  pub turns : ℕ
  pub few : turns + length mid ≤ length ts
  pub on : (bits : List Signal) (n : ℕ) → concatenations_from (turns + n) at d (awaiting depth bits) ts ≡ concatenations_from n at o.0 (held depth (bits ++ o.1)) mid

-- and so are the members of a concatenation, up to the brace that closes it
record ReadsAll (at : Site) (depth : ℕ) (d : Draft) (ts : List Token) (o : Operand) (mid : List Token) : Type 0 where
  pub turns : ℕ
  pub few : turns + length mid ≤ length ts
  pub on : (bits : List Signal) (n : ℕ) → concatenations_from (turns + n) at d (awaiting (suc depth) bits) ts ≡ concatenations_from n at o.0 (held depth (bits ++ o.1)) mid

-- ---- turns

one : (n : ℕ) → 1 + n ≡ suc n
one n = omega arith

first : (turns n : ℕ) → suc turns + n ≡ suc (turns + n)
first turns n = omega arith

behind : (turns n : ℕ) → turns + 1 + n ≡ turns + suc n
behind turns n = omega arith

between : (turns others n : ℕ) → turns + suc others + n ≡ turns + suc (others + n)
between turns others n = omega arith

-- ---- an expression

single : (at : Site) (depth : ℕ) (d : Draft) (ts rest : List Token) (o : Operand) → operand at depth d ts ≡ Ok (o, rest) → Reads at depth d ts o rest
single at depth d ts rest o is = record {
  turns = 1;
  few = omega (arith, subst (Below (length ts)) is (operand_takes at depth d ts));
  on = λ bits n. ap (λ (k : ℕ). concatenations_from k at d (awaiting depth bits) ts) (one n) ∙ operand_comes n at depth d ts rest bits o (begins_operand at depth d ts o rest is) is;
}

concatenation : (at : Site) (depth : ℕ) (d : Draft) (ts rest : List Token) (o : Operand) → kind_of ts ≡ kind.OpenBrace → ReadsAll at depth d (next ts) o rest → Reads at depth d ts o rest
concatenation at depth d ts rest o is all =
    let opens = sees_by kind.OpenBrace kind.OpenBrace ts is ∙ open_open in
    record {
      turns = suc all.turns;
      few = omega (arith, all.few, taken kind.OpenBrace ts end_open opens);
      on = λ bits n. ap (λ (k : ℕ). concatenations_from k at d (awaiting depth bits) ts) (first all.turns n) ∙ brace_opens (all.turns + n) at depth d ts bits opens ∙ all.on bits n;
    }

-- ---- members

last : (at : Site) (depth : ℕ) (d : Draft) (ts rest : List Token) (o : Operand) → Reads at (suc depth) d ts o rest → kind_of rest ≡ kind.CloseBrace → ReadsAll at depth d ts o (next rest)
last at depth d ts rest o r is =
    let closes = sees_by kind.CloseBrace kind.CloseBrace rest is ∙ close_close in
    let none = sees_by kind.Comma kind.CloseBrace rest is ∙ close_comma in
    record {
      turns = r.turns + 1;
      few = omega (arith, r.few, taken kind.CloseBrace rest end_close closes);
      on = λ bits n. ap (λ (k : ℕ). concatenations_from k at d (awaiting (suc depth) bits) ts) (behind r.turns n) ∙ r.on bits (suc n) ∙ brace_closes n at depth o.0 rest (bits ++ o.1) none closes;
    }

more : (at : Site) (depth : ℕ) (d : Draft) (ts rest mid : List Token) (o others : Operand) → Reads at (suc depth) d ts o rest → kind_of rest ≡ kind.Comma → ReadsAll at depth o.0 (next rest) others mid →
    ReadsAll at depth d ts (others.0, o.1 ++ others.1) mid
more at depth d ts rest mid o others r is all =
    let comma = sees_by kind.Comma kind.Comma rest is ∙ comma_comma in
    record {
      turns = r.turns + suc all.turns;
      few = omega (arith, r.few, all.few, taken kind.Comma rest end_comma comma);
      on = λ bits n.
          ap (λ (k : ℕ). concatenations_from k at d (awaiting (suc depth) bits) ts) (between r.turns all.turns n)
          ∙ r.on bits (suc (all.turns + n))
          ∙ comma_goes (all.turns + n) at depth o.0 rest (bits ++ o.1) comma
          ∙ all.on (bits ++ o.1) n
          ∙ ap (λ (x : List Signal). concatenations_from n at others.0 (held depth x) mid) (append_assoc bits o.1 others.1);
    }

-- ---- both

mutual
  pub expression_reads : (at : Site) {depth : ℕ} {d : Draft} {ts : List Token} {o : Operand} {rest : List Token} → IsExpression at depth d ts o rest → Reads at depth d ts o rest
  expression_reads at (Single {depth} {d} {ts} {rest} {o} is) = single at depth d ts rest o is
  expression_reads at (Concatenation {depth} {d} {ts} {rest} {o} is are) = concatenation at depth d ts rest o is (members_read at are)

  members_read : (at : Site) {depth : ℕ} {d : Draft} {ts : List Token} {o : Operand} {rest : List Token} → AreMembers at depth d ts o rest → ReadsAll at depth d ts o rest
  members_read at (Last {depth} {d} {ts} {rest} {o} is closes) = last at depth d ts rest o (expression_reads at is) closes
  members_read at (More {depth} {d} {ts} {rest} {behind} {o} {others} is comma are) = more at depth d ts rest behind o others (expression_reads at is) comma (members_read at are)

-- Concatenations by the rule that names itself (IEEE 1364): an expression is an operand, or expressions in braces.
use Rattle.std.specs.Prelude.{ℕ, suc, ◌≡◌, ◌↔◌, true, List, ◌++◌, drop, Ok}
use Rattle.dft_base.specs.Lexing.{Text}
use Rattle.dft_netlist_text.specs.declared.text.Site.{Site}
use Rattle.dft_netlist_text.specs.declared.text.TokenKind.TheVariants as kind
use Rattle.dft_netlist_text.specs.Lexemes.{Token, tokens}
use Rattle.dft_netlist_text.specs.Modules.{Draft}
use Rattle.dft_netlist_text.specs.Steps.{kind_of, next}
use Rattle.dft_netlist_text.specs.Expressions.{Operand, operand, may_follow, expression}

mutual
  -- an expression that stands in so many open concatenations, from these tokens on: what it gives, and the tokens behind it
  pub data IsExpression (at : Site) : ℕ → Draft → List Token → Operand → List Token → Type 0 where
    Single : {depth : ℕ} {d : Draft} {ts rest : List Token} {o : Operand} →
        operand at depth d ts ≡ Ok (o, rest) → IsExpression at depth d ts o rest
    Concatenation : {depth : ℕ} {d : Draft} {ts rest : List Token} {o : Operand} →
        kind_of ts ≡ kind.OpenBrace → AreMembers at depth d (next ts) o rest → IsExpression at depth d ts o rest

  -- the members of a concatenation, with commas between them, up to the brace that closes it
  pub data AreMembers (at : Site) : ℕ → Draft → List Token → Operand → List Token → Type 0 where
    Last : {depth : ℕ} {d : Draft} {ts rest : List Token} {o : Operand} →
        IsExpression at (suc depth) d ts o rest → kind_of rest ≡ kind.CloseBrace → AreMembers at depth d ts o (next rest)
    More : {depth : ℕ} {d : Draft} {ts rest behind : List Token} {o others : Operand} →
        IsExpression at (suc depth) d ts o rest → kind_of rest ≡ kind.Comma → AreMembers at depth o.0 (next rest) others behind →
        AreMembers at depth d ts (others.0, o.1 ++ others.1) behind

-- an expression is read from a token of a text on exactly where it is one by this rule, and what comes behind it may follow
abbrev pub ConcatenationsNest : Type 0
ConcatenationsNest =
    (at : Site) (d : Draft) (text : Text) (k : ℕ) (o : Operand) (rest : List Token) →
    (expression at d (drop k (tokens text)) ≡ Ok (o, rest))
    ↔ (IsExpression at 0 d (drop k (tokens text)) o rest × (may_follow at 0 (kind_of rest) ≡ true))

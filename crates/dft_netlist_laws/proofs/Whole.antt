-- Concatenations by both rules.
use Rattle.std.proofs.Common.{◌≡◌, ◌⊎◌, inl, inr, ℕ, zero, suc, ◌+◌, ◌-◌, ◌≤◌, Bool, true, false, List, [], length, drop, Ok, Err, refl, sym, ap, subst, ◌∙◌, arith}
use Rattle.dft_base.specs.Parser.{and_then}
use Rattle.dft_netlist_text.specs.declared.text.Fault.{Fault}
use Rattle.dft_netlist_text.specs.declared.text.Site.{Site}
use Rattle.dft_netlist_text.specs.declared.text.TokenKind.TheVariants as kind
use Rattle.dft_netlist_text.specs.Lexemes.{Token, tokens}
use Rattle.dft_netlist_text.specs.Modules.{Draft}
use Rattle.dft_netlist_text.specs.Steps.{Outcome, kind_of, left, refusal}
use Rattle.dft_netlist_text.specs.Expressions.{Operand, OpenConcatenations, unread, concatenations_from, may_follow, followed, expression}
use Rattle.dft_netlist_text.proofs.ParserLemmas.{may, may_not}
use Rattle.dft_netlist_laws.specs.Concatenations.{IsExpression, Single, Concatenation, ConcatenationsNest}
use Rattle.dft_netlist_laws.proofs.NextTokens.{Fronts, operand_fronts}
use Rattle.dft_netlist_laws.proofs.Steps.{awaiting, held, never, stops, reads, same_value}
use Rattle.dft_netlist_laws.proofs.Reading.{opened}
use Rattle.dft_netlist_laws.proofs.Standing.{Reads, expression_reads}
use Rattle.dft_netlist_laws.proofs.Tails.{enough}

-- ---- what follows

behind : Site → Outcome (Draft × OpenConcatenations) → Outcome Operand
behind at o = and_then o (λ p us. and_then (followed at 0 us) (λ _ vs. Ok ((p.0, p.1.bits), vs)))

expression_is : (at : Site) (d : Draft) (ts : List Token) → expression at d ts ≡ behind at (concatenations_from (suc (left ts)) at d unread ts)
unfolding expression behind
expression_is at d ts = refl

passes : (at : Site) (p : Draft × OpenConcatenations) (vs : List Token) → may_follow at 0 (kind_of vs) ≡ true → behind at (Ok (p, vs)) ≡ Ok ((p.0, p.1.bits), vs)
unfolding behind
passes at p vs e = ap (λ (x : Outcome (Unit {0})). and_then x (λ _ ws. Ok ((p.0, p.1.bits), ws))) (may at vs e)

stays : (at : Site) (p : Draft × OpenConcatenations) (vs : List Token) → may_follow at 0 (kind_of vs) ≡ false → behind at (Ok (p, vs)) ≡ Err (refusal vs)
unfolding behind
stays at p vs e = ap (λ (x : Outcome (Unit {0})). and_then x (λ _ ws. Ok ((p.0, p.1.bits), ws))) (may_not at vs e)

fails : (at : Site) (f : Fault) → behind at (Err f) ≡ Err f
unfolding behind
fails at f = refl

-- ---- what is read is an expression

abbrev IsRead : (at : Site) (d : Draft) (ts : List Token) (o : Operand) (rest : List Token) → Type 0
IsRead at d ts o rest = IsExpression at 0 d ts o rest × (may_follow at 0 (kind_of rest) ≡ true)

ended : (at : Site) (d : Draft) (ts : List Token) (r : (Draft × OpenConcatenations) × List Token) (m : ℕ) (o : Operand) (mid : List Token) →
    concatenations_from m at o.0 (held 0 o.1) mid ≡ Ok r → ((o.0, held 0 o.1), mid) ≡ r
ended at d ts r zero o mid e = never (refusal mid) r (sym (stops at o.0 (held 0 o.1) mid) ∙ e)
ended at d ts r (suc m) o mid e = same_value ((o.0, held 0 o.1), mid) r (sym (reads m at o.0 mid o.1) ∙ e)

following : (at : Site) (d : Draft) (ts mid : List Token) (p o : Operand) (rest : List Token) (b : Bool) → may_follow at 0 (kind_of mid) ≡ b → IsExpression at 0 d ts p mid →
    behind at (Ok ((p.0, held 0 p.1), mid)) ≡ Ok (o, rest) → IsRead at d ts o rest
following at d ts mid p o rest true may is e =
    let same : (p, mid) ≡ (o, rest) = same_value (p, mid) (o, rest) (sym (passes at (p.0, held 0 p.1) mid may) ∙ e) in
    subst (λ (q : Operand × List Token). IsRead at d ts q.0 q.1) same (is, may)
following at d ts mid p o rest false may is e = never (refusal mid) (o, rest) (sym (stays at (p.0, held 0 p.1) mid may) ∙ e)

read_by : (at : Site) (d : Draft) (ts : List Token) (o : Operand) (rest : List Token) (x : Outcome (Draft × OpenConcatenations)) → concatenations_from (suc (left ts)) at d (awaiting 0 []) ts ≡ x →
    behind at x ≡ Ok (o, rest) → IsRead at d ts o rest
read_by at d ts o rest (Err f) is e = never f (o, rest) (sym (fails at f) ∙ e)
read_by at d ts o rest (Ok r) is e =
    let a = opened (suc (left ts)) at 0 d ts [] r is in
    following at d ts a.mid a.o o rest (may_follow at 0 (kind_of a.mid)) refl a.is
    (ap (λ (q : (Draft × OpenConcatenations) × List Token). behind at (Ok q)) (ended at d ts r a.m a.o a.mid a.on) ∙ e)

is_read : (at : Site) (d : Draft) (ts : List Token) (o : Operand) (rest : List Token) → expression at d ts ≡ Ok (o, rest) → IsRead at d ts o rest
is_read at d ts o rest e = read_by at d ts o rest (concatenations_from (suc (left ts)) at d (awaiting 0 []) ts) refl (sym (expression_is at d ts) ∙ e)

-- ---- an expression is read

single_fronts : (ts : List Token) → (kind_of ts ≡ kind.Name) ⊎ (kind_of ts ≡ kind.Number) → Fronts ts
single_fronts ts (inl is) = inl is
single_fronts ts (inr is) = inr (inl is)

fronts : (at : Site) {depth : ℕ} {d : Draft} {ts : List Token} {o : Operand} {rest : List Token} → IsExpression at depth d ts o rest → Fronts ts
fronts at (Single {depth} {d} {ts} {rest} {o} is) = single_fronts ts (operand_fronts at depth d ts o rest is)
fronts at (Concatenation is are) = inr (inr is)

turns_left : (turns room : ℕ) → turns ≤ room → suc room ≡ turns + suc (room - turns)
turns_left turns room le = omega (arith, le)

read_whole : (at : Site) (d : Draft) (ts : List Token) (o : Operand) (rest : List Token) → length ts ≤ left ts → may_follow at 0 (kind_of rest) ≡ true → Reads at 0 d ts o rest →
    expression at d ts ≡ Ok (o, rest)
read_whole at d ts o rest room may r =
    expression_is at d ts
    ∙ ap (λ (k : ℕ). behind at (concatenations_from k at d (awaiting 0 []) ts)) (turns_left r.turns (left ts) (omega (arith, room, r.few)))
    ∙ ap (λ (x : Outcome (Draft × OpenConcatenations)). behind at x) (r.on [] (suc (left ts - r.turns)) ∙ reads (left ts - r.turns) at o.0 rest o.1)
    ∙ passes at (o.0, held 0 o.1) rest may

pub concatenations_nest : ConcatenationsNest
concatenations_nest at d text k o rest = (
  is_read at d (drop k (tokens text)) o rest,
  λ r. read_whole at d (drop k (tokens text)) o rest (enough text k (fronts at r.0)) r.1 (expression_reads at r.0),
)

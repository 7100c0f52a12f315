-- An expression of one operand.
use Rattle.std.proofs.Common.{◌≡◌, ℕ, suc, ◌-◌, ◌<◌, false, cond, List, [], Ok, Err, refl, sym, ap, ◌∙◌, arith}
use Rattle.dft_base.specs.Parser.{and_then}
use Rattle.dft_netlist_text.specs.declared.text.Site.{Site}
use Rattle.dft_netlist_text.specs.declared.text.TokenKind.TheVariants as kind
use Rattle.dft_netlist_text.specs.Lexemes.{Token}
use Rattle.dft_netlist_text.specs.Modules.{Draft}
use Rattle.dft_netlist_text.specs.Steps.{Outcome, left, sees, next}
use Rattle.dft_netlist_text.specs.Expressions.{Operand, unread, with_operand, concatenations_from, opening, operand, followed, expression}
use Rattle.dft_verilog_draft.specs.Operands.{operand_behind}

pub behind_none : (r : Outcome Operand) → operand_behind [] r ≡ r
behind_none (Ok p) = refl
behind_none (Err f) = refl

read_by : (at : Site) (r : Outcome Operand) (n : ℕ)
    → and_then (and_then (and_then r (λ o us. Ok (with_operand unread o, us))) (λ p us. concatenations_from (suc n) at p.0 p.1 us)) (λ p us. and_then (followed at 0 us) (λ _ vs. Ok ((p.0, p.1.bits), vs)))
    ≡ and_then r (λ o us. and_then (followed at 0 us) (λ _ vs. Ok (o, vs)))
unfolding concatenations_from
read_by at (Ok p) n = refl
read_by at (Err f) n = refl

lone_by : (at : Site) (d : Draft) (ts : List Token) (n : ℕ) → left ts ≡ suc n → sees kind.OpenBrace ts ≡ false
    → expression at d ts ≡ and_then (operand at 0 d ts) (λ o us. and_then (followed at 0 us) (λ _ vs. Ok (o, vs)))
unfolding expression concatenations_from opening
lone_by at d ts n len off =
    ap (λ m. and_then (concatenations_from (suc m) at d unread ts) (λ p us. and_then (followed at 0 us) (λ _ vs. Ok ((p.0, p.1.bits), vs)))) len
    ∙ ap (λ b. and_then (and_then (cond b (Ok ((d, record unread { depth = 1 }), next ts)) (and_then (operand at 0 d ts) (λ o us. Ok (with_operand unread o, us)))) (λ p us. concatenations_from (suc n) at p.0 p.1 us)) (λ p us. and_then (followed at 0 us) (λ _ vs. Ok ((p.0, p.1.bits), vs)))) off
    ∙ read_by at (operand at 0 d ts) n

pub lone : (at : Site) (d : Draft) (ts : List Token) → 0 < left ts → sees kind.OpenBrace ts ≡ false
    → expression at d ts ≡ and_then (operand_behind [] (operand at 0 d ts)) (λ o us. and_then (followed at 0 us) (λ _ vs. Ok (o, vs)))
lone at d ts some off =
    let one : left ts ≡ suc (left ts - 1) = omega arith in
    lone_by at d ts (left ts - 1) one off ∙ sym (ap (λ (r : Outcome Operand). and_then r (λ o us. and_then (followed at 0 us) (λ _ vs. Ok (o, vs)))) (behind_none (operand at 0 d ts)))

pub ruleset lone_operands = (lone)

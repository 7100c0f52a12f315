-- A name that stands alone is read without a list of its bits.
use Rattle.std.proofs.Common.{◌≡◌, ℕ, ◌<◌, Bool, true, false, cond, List, [], ◌∷◌, Ok, Err, refl, sym, ap, subst, ◌∙◌, rules}
use denote.Enum.Bare.{same_true}
use Rattle.dft_base.specs.Parser.{Checked, and_then}
use Rattle.dft_netlist.specs.declared.instance.Signal.{Signal}
use Rattle.dft_netlist_text.specs.contracts.text.TokenKind.{the_type}
use Rattle.dft_netlist_text.specs.declared.text.Fault.{Fault}
use Rattle.dft_netlist_text.specs.declared.text.Site.{Site}
use Rattle.dft_netlist_text.specs.declared.text.TokenKind.{TokenKind}
use Rattle.dft_netlist_text.specs.declared.text.TokenKind.TheVariants as kind
use Rattle.dft_netlist_text.specs.Lexemes.{Token}
use Rattle.dft_netlist_text.specs.Modules.{Draft}
use Rattle.dft_netlist_text.specs.Steps.{Outcome, Rule, kind_of, left, sees, same_kind, expect, checked}
use Rattle.dft_netlist_text.specs.Expressions.{Operand, bits_of_name, may_follow, followed, selection, constant_operand, named_operand, operand, expression}
use Rattle.dft_netlist_text.specs.Items.{One, one_bit}
use Rattle.dft_netlist_text.proofs.ParserLemmas.{may, may_not}
use Rattle.dft_verilog_draft.specs.Selects.{lone, lone_of}
use Rattle.dft_verilog_draft.specs.Operands.{operand_behind}
use Rattle.dft_verilog_module.specs.LoneNames.{lone_name}
use Rattle.dft_verilog_module.proofs.OneOperandLemmas.{lone as lone_operand, behind_none}

-- rules one behind the other are read in either grouping
under : {A B C : Type 0} (r : Outcome A) (f : A → Rule B) (g : B → Rule C) (h : A → Rule C) → ((a : A) (us : List Token) → and_then (f a us) g ≡ h a us) → and_then (and_then r f) g ≡ and_then r h
under (Ok p) f g h same = same p.0 p.1
under (Err e) f g h same = refl

-- ---- the one bit of what a name gives

one_by : (place : ℕ) (d : Draft) (bits : List Signal) (ts : List Token) → one_bit place d bits ts ≡ checked (lone_of place d bits) ts
one_by place d [] ts = refl
one_by place d (bit ∷ []) ts = refl
one_by place d (bit ∷ more ∷ bits) ts = refl

-- the one bit, behind what may follow
abbrev one_behind : Site → ℕ → Operand → Rule One
one_behind at place o = λ us. and_then (followed at 0 us) (λ _ vs. one_bit place o.0 o.1 vs)

at_true : (at : Site) (place : ℕ) (r : Checked Fault Operand) (vs : List Token) → followed at 0 vs ≡ Ok (tt, vs) → and_then (checked r vs) (one_behind at place) ≡ checked (lone place r) vs
at_true at place (Ok o) vs e = ap (λ (x : Outcome (Unit {0})). and_then x (λ _ ws. one_bit place o.0 o.1 ws)) e ∙ one_by place o.0 o.1 vs
at_true at place (Err f) vs e = refl

-- what follows is tested once
once_by : (at : Site) (place : ℕ) (r : Checked Fault Operand) (vs : List Token) (t : Bool) → may_follow at 0 (kind_of vs) ≡ t →
    and_then (and_then (followed at 0 vs) (λ _ ws. checked r ws)) (one_behind at place) ≡ and_then (followed at 0 vs) (λ _ ws. checked (lone place r) ws)
once_by at place r vs true e =
    let passed = may at vs e in
    ap (λ (x : Outcome (Unit {0})). and_then (and_then x (λ _ ws. checked r ws)) (one_behind at place)) passed ∙ at_true at place r vs passed
    ∙ sym (ap (λ (x : Outcome (Unit {0})). and_then x (λ _ ws. checked (lone place r) ws)) passed)
once_by at place r vs false e =
    let refused = may_not at vs e in
    ap (λ (x : Outcome (Unit {0})). and_then (and_then x (λ _ ws. checked r ws)) (one_behind at place)) refused
    ∙ sym (ap (λ (x : Outcome (Unit {0})). and_then x (λ _ ws. checked (lone place r) ws)) refused)

named_once : (at : Site) (place : ℕ) (d : Draft) (ts : List Token) → and_then (named_operand at 0 d ts) (one_behind at place) ≡ lone_name at place d ts
unfolding named_operand lone_name
named_once at place d ts =
    under (expect kind.Name ts)
    (λ word us. and_then (selection us) (λ what vs. and_then (followed at 0 vs) (λ _ ws. checked (bits_of_name at 0 (record { word = word; what = what; place = left ts }) d) ws)))
    (one_behind at place)
    (λ word us. and_then (selection us) (λ what vs. and_then (followed at 0 vs) (λ _ ws. checked (lone place (bits_of_name at 0 (record { word = word; what = what; place = left ts }) d)) ws)))
    (λ word us. under (selection us)
    (λ what vs. and_then (followed at 0 vs) (λ _ ws. checked (bits_of_name at 0 (record { word = word; what = what; place = left ts }) d) ws))
    (one_behind at place)
    (λ what vs. and_then (followed at 0 vs) (λ _ ws. checked (lone place (bits_of_name at 0 (record { word = word; what = what; place = left ts }) d)) ws))
    (λ what vs. once_by at place (bits_of_name at 0 (record { word = word; what = what; place = left ts }) d) vs (may_follow at 0 (kind_of vs)) refl))

-- ---- where a name comes next

others : (k : TokenKind) → same_kind k kind.Name ≡ true → (same_kind k kind.Number ≡ false) × (same_kind k kind.OpenBrace ≡ false)
unfolding same_kind
others k h =
    let is : k ≡ kind.Name = same_true the_type (search rules) k kind.Name h in
    subst (λ (x : TokenKind). (same_kind x kind.Number ≡ false) × (same_kind x kind.OpenBrace ≡ false)) (sym is) (refl, refl)

name_only : (ts : List Token) → sees kind.Name ts ≡ true → (sees kind.Number ts ≡ false) × (sees kind.OpenBrace ts ≡ false)
unfolding sees
name_only ts h = others (kind_of ts) h

named : (at : Site) (d : Draft) (ts : List Token) → sees kind.Number ts ≡ false → operand at 0 d ts ≡ named_operand at 0 d ts
unfolding operand
named at d ts e = ap (λ (t : Bool). cond t (constant_operand at 0 d ts) (named_operand at 0 d ts)) e

behind_followed : (at : Site) (place : ℕ) (o : Operand) (us : List Token) → and_then (and_then (followed at 0 us) (λ _ vs. Ok (o, vs))) (λ (x : Operand). one_bit place x.0 x.1) ≡ one_behind at place o us
behind_followed at place o us = under (followed at 0 us) (λ _ vs. Ok (o, vs)) (λ (x : Operand). one_bit place x.0 x.1) (λ _ vs. one_bit place o.0 o.1 vs) (λ _ vs. refl)

-- the one bit of an expression that begins with a name
pub lone_name-is : (at : Site) (place : ℕ) (d : Draft) (ts : List Token) → 0 < left ts → sees kind.Name ts ≡ true
    → and_then (expression at d ts) (λ (o : Operand). one_bit place o.0 o.1) ≡ lone_name at place d ts
lone_name-is at place d ts some name =
    let other = name_only ts name in
    ap (λ (x : Outcome Operand). and_then x (λ (o : Operand). one_bit place o.0 o.1)) (lone_operand at d ts some other.1)
    ∙ under (operand_behind [] (operand at 0 d ts)) (λ o us. and_then (followed at 0 us) (λ _ vs. Ok (o, vs))) (λ (o : Operand). one_bit place o.0 o.1) (one_behind at place)
    (λ o us. behind_followed at place o us)
    ∙ ap (λ (x : Outcome Operand). and_then x (one_behind at place)) (behind_none (operand at 0 d ts) ∙ named at d ts other.0)
    ∙ named_once at place d ts

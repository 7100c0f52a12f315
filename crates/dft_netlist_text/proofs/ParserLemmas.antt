-- What a parser yields, by the rules that it is made of.
use Rattle.std.proofs.Common.{◌≡◌, Bool, true, cond, List, Ok, Err, ap, false, ℕ}
use Rattle.dft_netlist_text.specs.declared.text.Site.{Site}
use Rattle.dft_netlist_text.specs.Lexemes.{Token}
use Rattle.dft_netlist_text.specs.Steps.{kind_of, refusal, Outcome, Rule, checked, needed}
use Rattle.dft_netlist_text.specs.Expressions.{may_follow, followed}
use Rattle.dft_base.specs.Parser.{Checked}
use Rattle.dft_netlist_text.specs.declared.text.Fault.{Fault}
use Rattle.dft_base.specs.Parser as parser
use Rattle.dft_netlist_text.specs.declared.text.Cause.{Cause}

pub may : (at : Site) (vs : List Token) → may_follow at 0 (kind_of vs) ≡ true → followed at 0 vs ≡ Ok (tt, vs)
unfolding followed
may at vs e = ap (λ (t : Bool). cond t (Ok (tt, vs)) (Err (refusal vs))) e

pub may_not : (at : Site) (vs : List Token) → may_follow at 0 (kind_of vs) ≡ false → followed at 0 vs ≡ Err (refusal vs)
unfolding followed
may_not at vs e = ap (λ (t : Bool). cond t (Ok (tt, vs)) (Err (refusal vs))) e

-- a value with this property, or a fault
abbrev pub Yields : {A : Type 0} → (A → Type 0) → Outcome A → Type 0
Yields P (Ok p) = P p.0
Yields P (Err f) = Unit {0}

-- a check that gives such a draft, or a fault
abbrev pub Gives : {A : Type 0} → (A → Type 0) → Checked Fault A → Type 0
Gives P (Ok a) = P a
Gives P (Err f) = Unit {0}

pub behind : {A B : Type 0} (P : A → Type 0) (Q : B → Type 0) (o : Outcome A) (f : A → Rule B) → Yields P o → ((a : A) → P a → (ts : List Token) → Yields Q (f a ts)) → Yields Q (parser.and_then o f)
behind P Q (Ok p) f h k = k p.0 h p.1
behind P Q (Err e) f h k = tt

-- behind a value of which nothing is said
pub passed : {A B : Type 0} (Q : B → Type 0) (o : Outcome A) (f : A → Rule B) → ((a : A) → (ts : List Token) → Yields Q (f a ts)) → Yields Q (parser.and_then o f)
passed Q (Ok p) f k = k p.0 p.1
passed Q (Err e) f k = tt

pub either : {A : Type 0} (P : A → Type 0) (b : Bool) (x y : Outcome A) → Yields P x → Yields P y → Yields P (cond b x y)
either P true x y hx hy = hx
either P false x y hx hy = hy

pub of_check : {A : Type 0} (P : A → Type 0) (c : Checked Fault A) (ts : List Token) → Gives P c → Yields P (checked c ts)
of_check P (Ok a) ts h = h
of_check P (Err f) ts h = tt

pub of_need : {A : Type 0} (P : A → Type 0) (why : Cause) (place : ℕ) (b : Bool) (rule : Rule A) (ts : List Token) → Yields P (rule ts) → Yields P (needed why place b rule ts)
of_need P why place true rule ts h = h
of_need P why place false rule ts h = tt

-- a list goes on behind a comma
pub turns : {A : Type 0} (P : A → Type 0) (comma : Bool) (more : A) (rule : Rule A) → P more → ((ts : List Token) → Yields P (rule ts)) → (ts : List Token) → Yields P ((cond comma rule (parser.pure more)) ts)
turns P true more rule h k ts = k ts
turns P false more rule h k ts = h

-- What the values of rules have in common, step by step.
use Rattle.std.proofs.Common.{◌≡◌, ℕ, Bool, true, false, cond, true≢false, List, Option, Some, None, Ok, Err, is_ok, refl, sym, ap, subst}
use Rattle.dft_base.specs.Lexing.{Text}
use Rattle.dft_base.specs.Parser.{and_then}
use Rattle.dft_stil_tokens.specs.declared.text.Cause.{Cause}
use Rattle.dft_stil_tokens.specs.declared.text.Fault.{Fault}
use Rattle.dft_stil_tokens.specs.Lexemes.{Token}
use Rattle.dft_stil_tokens.specs.Steps.{Rule, Outcome, needed}
use Rattle.dft_stil_text.specs.SignalGroups.{Members, given}

-- each value that the outcome, or the rule, gives is such
abbrev pub GivesOf : {A : Type 0} → (A → Type 0) → Outcome A → Type 0
GivesOf {A} P o = (a : A) (x : List Token) → o ≡ Ok (a, x) → P a

abbrev pub Gives : {A : Type 0} → (A → Type 0) → Rule A → Type 0
Gives {A} P rule = (ts : List Token) → GivesOf P (rule ts)

abbrev pub Any : {A : Type 0} → A → Type 0
Any a = Unit {0}

pub any : {A : Type 0} (rule : Rule A) → Gives Any rule
any rule ts a x e = tt

abbrev value_in : {A : Type 0} → A → Outcome A → A
value_in d (Ok p) = p.0
value_in d (Err f) = d

pub ok_gives : {A : Type 0} (P : A → Type 0) (v : A) (y : List Token) → P v → GivesOf P (Ok (v, y))
ok_gives P v y h a x e = subst P (ap (value_in v) e) h

pub err_gives : {A : Type 0} (P : A → Type 0) (f : Fault) → GivesOf P (Err f)
err_gives P f a x e = absurd (true≢false (sym (ap is_ok e)))

then_of : {A B : Type 0} (P : A → Type 0) (Q : B → Type 0) (o : Outcome A) (f : A → Rule B) → GivesOf P o → ((a : A) → P a → Gives Q (f a)) → GivesOf Q (and_then o f)
then_of P Q (Ok p) f h g b y e = g p.0 (h p.0 p.1 refl) p.1 b y e
then_of P Q (Err w) f h g b y e = absurd (true≢false (sym (ap is_ok e)))

-- one rule behind another
pub then_gives : {A B : Type 0} (P : A → Type 0) (Q : B → Type 0) (rule : Rule A) (f : A → Rule B) → Gives P rule → ((a : A) → P a → Gives Q (f a)) → Gives Q (λ ts. and_then (rule ts) f)
then_gives P Q rule f h g ts = then_of P Q (rule ts) f (h ts) g

-- whatever the first rule gives
pub after_any : {A B : Type 0} (Q : B → Type 0) (rule : Rule A) (f : A → Rule B) → ((a : A) → Gives Q (f a)) → Gives Q (λ ts. and_then (rule ts) f)
after_any Q rule f g = then_gives Any Q rule f (any rule) (λ a _. g a)

pub pure_gives : {A : Type 0} (P : A → Type 0) (v : A) → P v → Gives P (λ ts. Ok (v, ts))
pure_gives P v h ts = ok_gives P v ts h

pub refuse_gives : {A : Type 0} (P : A → Type 0) (fault : List Token → Fault) → Gives P (λ ts. Err (fault ts))
refuse_gives P fault ts = err_gives P (fault ts)

pub if_gives : {A : Type 0} (P : A → Type 0) (t : Bool) (r s : Rule A) → (t ≡ true → Gives P r) → (t ≡ false → Gives P s) → Gives P (cond t r s)
if_gives P true r s h g = h refl
if_gives P false r s h g = g refl

pub if_of : {A : Type 0} (P : A → Type 0) (t : Bool) (o p : Outcome A) → (t ≡ true → GivesOf P o) → (t ≡ false → GivesOf P p) → GivesOf P (cond t o p)
if_of P true o p h g = h refl
if_of P false o p h g = g refl

pub needed_gives : {A : Type 0} (P : A → Type 0) (why : Cause) (place : ℕ) (t : Bool) (rule : Rule A) → (t ≡ true → Gives P rule) → Gives P (needed why place t rule)
needed_gives P why place true rule h = h refl
needed_gives P why place false rule h = λ ts. err_gives P _

pub given_gives : {A : Type 0} (P : A → Type 0) (word : Text) (place : ℕ) (o : Option Members) (f : Members → Rule A) → ((m : Members) → o ≡ Some m → Gives P (f m)) → Gives P (given word place o f)
given_gives P word place (Some m) f h = h m refl
given_gives P word place None f h = λ ts. err_gives P _

-- The steps that every rule of a grammar is made of. A rule reads tokens with one token of look-ahead:
-- it gives a value and the tokens after it, or the fault at the first token that it refuses.
-- Each reader has its own tokens and its own faults.
use Rattle.std.specs.Prelude.{List, Result, Ok, Err}

-- a value and the tokens after it, or a fault
abbrev pub Outcome : Type 0 → Type 0 → Type 0 → Type 0
Outcome Token Fault A = Result (A × List Token) Fault

-- a rule of a grammar: what it makes of the tokens ahead
abbrev pub Parser : Type 0 → Type 0 → Type 0 → Type 0
Parser Token Fault A = List Token → Outcome Token Fault A

-- the next rule reads on behind a value, and a fault stays
abbrev pub and_then : {Token Fault A B : Type 0} → Outcome Token Fault A → (A → Parser Token Fault B) → Outcome Token Fault B
and_then (Ok p) f = f p.0 p.1
and_then (Err e) f = Err e

-- one rule, and behind it the rule that its value names
infixl 10 ◌>>=◌
abbrev pub ◌>>=◌ : {Token Fault A B : Type 0} → Parser Token Fault A → (A → Parser Token Fault B) → Parser Token Fault B
p >>= f = λ ts. and_then (p ts) f

-- one rule, and behind it another
infixl 10 ◌>>◌
abbrev pub ◌>>◌ : {Token Fault A B : Type 0} → Parser Token Fault A → Parser Token Fault B → Parser Token Fault B
p >> q = p >>= (λ _. q)

-- the rule that takes no token
abbrev pub pure : {Token Fault A : Type 0} → A → Parser Token Fault A
pure a = λ ts. Ok (a, ts)

-- the rule that refuses with this fault
abbrev pub refuse : {Token Fault A : Type 0} → (List Token → Fault) → Parser Token Fault A
refuse fault = λ ts. Err (fault ts)

-- the value alone, or the fault
abbrev pub value_of : {Token Fault A : Type 0} → Outcome Token Fault A → Result A Fault
value_of (Ok p) = Ok p.0
value_of (Err f) = Err f

-- what a check of a meaning gives: a value, or a fault
abbrev pub Checked : Type 0 → Type 0 → Type 0
Checked Fault A = Result A Fault

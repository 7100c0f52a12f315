-- The waveforms that can be begun, and what they do, are those of the table.
use Rattle.std.proofs.Common.{◌≡◌, Bool, true, false, cond, true≢false, ◌&&◌, ◌||◌, [], ◌∷◌, Option, Some, None, refl, sym, ap, ◌∙◌, arith}
use Rattle.std.proofs.lemmas.Bool.Decides.{nat_tests}
use Rattle.dft_base.specs.declared.dir.Dir.TheVariants.{Input, Output}
use Rattle.dft_base.proofs.BitLemmas.{and_first, and_second}
use Rattle.dft_patterns.specs.declared.act.Act.{Act}
use Rattle.dft_patterns.specs.declared.act.Act.TheVariants.{Low, High, Pulse, ExpectLow, ExpectHigh, Ignore}
use Rattle.dft_patterns.specs.declared.shapes.Event.{Event}
use Rattle.dft_patterns.specs.declared.shapes.Drawing.TheVariants.{Begun, One, Two, Three, Many}
use Rattle.dft_patterns.specs.Drawings.{is, before}
use Rattle.dft_waveform_laws.specs.Waveforms.{accepted, in_order, act_among}
use Rattle.dft_waveform_laws.specs.Laws.{BegunByTable, ActsByTable}

-- ---- what is begun

input_one : (d u : Bool) → (d || u) ≡ ((d && true) || ((u && true) || ((d && true) || false)))
input_one true true = refl
input_one true false = refl
input_one false true = refl
input_one false false = refl

input_two : (d u s t : Bool) → (d && s && t) ≡ ((t && true) && ((d && false) || ((u && false) || ((d && (s && true)) || false))))
input_two true true true true = refl
input_two true true true false = refl
input_two true true false true = refl
input_two true true false false = refl
input_two true false true true = refl
input_two true false true false = refl
input_two true false false true = refl
input_two true false false false = refl
input_two false true true true = refl
input_two false true true false = refl
input_two false true false true = refl
input_two false true false false = refl
input_two false false true true = refl
input_two false false true false = refl
input_two false false false true = refl
input_two false false false false = refl

input_three : (d u s f t r : Bool) → (d && s && f && t && r) ≡ ((t && (r && true)) && ((d && false) || ((u && false) || ((d && (s && (f && true))) || false))))
input_three true true true true true true = refl
input_three true true true true true false = refl
input_three true true true true false true = refl
input_three true true true true false false = refl
input_three true true true false true true = refl
input_three true true true false true false = refl
input_three true true true false false true = refl
input_three true true true false false false = refl
input_three true true false true true true = refl
input_three true true false true true false = refl
input_three true true false true false true = refl
input_three true true false true false false = refl
input_three true true false false true true = refl
input_three true true false false true false = refl
input_three true true false false false true = refl
input_three true true false false false false = refl
input_three true false true true true true = refl
input_three true false true true true false = refl
input_three true false true true false true = refl
input_three true false true true false false = refl
input_three true false true false true true = refl
input_three true false true false true false = refl
input_three true false true false false true = refl
input_three true false true false false false = refl
input_three true false false true true true = refl
input_three true false false true true false = refl
input_three true false false true false true = refl
input_three true false false true false false = refl
input_three true false false false true true = refl
input_three true false false false true false = refl
input_three true false false false false true = refl
input_three true false false false false false = refl
input_three false true true true true true = refl
input_three false true true true true false = refl
input_three false true true true false true = refl
input_three false true true true false false = refl
input_three false true true false true true = refl
input_three false true true false true false = refl
input_three false true true false false true = refl
input_three false true true false false false = refl
input_three false true false true true true = refl
input_three false true false true true false = refl
input_three false true false true false true = refl
input_three false true false true false false = refl
input_three false true false false true true = refl
input_three false true false false true false = refl
input_three false true false false false true = refl
input_three false true false false false false = refl
input_three false false true true true true = refl
input_three false false true true true false = refl
input_three false false true true false true = refl
input_three false false true true false false = refl
input_three false false true false true true = refl
input_three false false true false true false = refl
input_three false false true false false true = refl
input_three false false true false false false = refl
input_three false false false true true true = refl
input_three false false false true true false = refl
input_three false false false true false true = refl
input_three false false false true false false = refl
input_three false false false false true true = refl
input_three false false false false true false = refl
input_three false false false false false true = refl
input_three false false false false false false = refl

output_one : (x l h : Bool) → (x || l || h) ≡ ((x && true) || ((l && true) || ((h && true) || ((x && true) || ((x && true) || false)))))
output_one true true true = refl
output_one true true false = refl
output_one true false true = refl
output_one true false false = refl
output_one false true true = refl
output_one false true false = refl
output_one false false true = refl
output_one false false false = refl

output_two : (x l h m k t : Bool) → (x && (m || k) && t) ≡ ((t && true) && ((x && false) || ((l && false) || ((h && false) || ((x && (m && true)) || ((x && (k && true)) || false))))))
output_two true true true true true true = refl
output_two true true true true true false = refl
output_two true true true true false true = refl
output_two true true true true false false = refl
output_two true true true false true true = refl
output_two true true true false true false = refl
output_two true true true false false true = refl
output_two true true true false false false = refl
output_two true true false true true true = refl
output_two true true false true true false = refl
output_two true true false true false true = refl
output_two true true false true false false = refl
output_two true true false false true true = refl
output_two true true false false true false = refl
output_two true true false false false true = refl
output_two true true false false false false = refl
output_two true false true true true true = refl
output_two true false true true true false = refl
output_two true false true true false true = refl
output_two true false true true false false = refl
output_two true false true false true true = refl
output_two true false true false true false = refl
output_two true false true false false true = refl
output_two true false true false false false = refl
output_two true false false true true true = refl
output_two true false false true true false = refl
output_two true false false true false true = refl
output_two true false false true false false = refl
output_two true false false false true true = refl
output_two true false false false true false = refl
output_two true false false false false true = refl
output_two true false false false false false = refl
output_two false true true true true true = refl
output_two false true true true true false = refl
output_two false true true true false true = refl
output_two false true true true false false = refl
output_two false true true false true true = refl
output_two false true true false true false = refl
output_two false true true false false true = refl
output_two false true true false false false = refl
output_two false true false true true true = refl
output_two false true false true true false = refl
output_two false true false true false true = refl
output_two false true false true false false = refl
output_two false true false false true true = refl
output_two false true false false true false = refl
output_two false true false false false true = refl
output_two false true false false false false = refl
output_two false false true true true true = refl
output_two false false true true true false = refl
output_two false false true true false true = refl
output_two false false true true false false = refl
output_two false false true false true true = refl
output_two false false true false true false = refl
output_two false false true false false true = refl
output_two false false true false false false = refl
output_two false false false true true true = refl
output_two false false false true true false = refl
output_two false false false true false true = refl
output_two false false false true false false = refl
output_two false false false false true true = refl
output_two false false false false true false = refl
output_two false false false false false true = refl
output_two false false false false false false = refl

output_three : (t x l h m k : Bool) → false ≡ (t && ((x && false) || ((l && false) || ((h && false) || ((x && (m && false)) || ((x && (k && false)) || false))))))
output_three true true true true true true = refl
output_three true true true true true false = refl
output_three true true true true false true = refl
output_three true true true true false false = refl
output_three true true true false true true = refl
output_three true true true false true false = refl
output_three true true true false false true = refl
output_three true true true false false false = refl
output_three true true false true true true = refl
output_three true true false true true false = refl
output_three true true false true false true = refl
output_three true true false true false false = refl
output_three true true false false true true = refl
output_three true true false false true false = refl
output_three true true false false false true = refl
output_three true true false false false false = refl
output_three true false true true true true = refl
output_three true false true true true false = refl
output_three true false true true false true = refl
output_three true false true true false false = refl
output_three true false true false true true = refl
output_three true false true false true false = refl
output_three true false true false false true = refl
output_three true false true false false false = refl
output_three true false false true true true = refl
output_three true false false true true false = refl
output_three true false false true false true = refl
output_three true false false true false false = refl
output_three true false false false true true = refl
output_three true false false false true false = refl
output_three true false false false false true = refl
output_three true false false false false false = refl
output_three false true true true true true = refl
output_three false true true true true false = refl
output_three false true true true false true = refl
output_three false true true true false false = refl
output_three false true true false true true = refl
output_three false true true false true false = refl
output_three false true true false false true = refl
output_three false true true false false false = refl
output_three false true false true true true = refl
output_three false true false true true false = refl
output_three false true false true false true = refl
output_three false true false true false false = refl
output_three false true false false true true = refl
output_three false true false false true false = refl
output_three false true false false false true = refl
output_three false true false false false false = refl
output_three false false true true true true = refl
output_three false false true true true false = refl
output_three false false true true false true = refl
output_three false false true true false false = refl
output_three false false true false true true = refl
output_three false false true false true false = refl
output_three false false true false false true = refl
output_three false false true false false false = refl
output_three false false false true true true = refl
output_three false false false true true false = refl
output_three false false false true false true = refl
output_three false false false true false false = refl
output_three false false false false true true = refl
output_three false false false false true false = refl
output_three false false false false false true = refl
output_three false false false false false false = refl

pub begun : BegunByTable
begun Input Begun = refl
begun Input (One a) = input_one (is 68 a) (is 85 a)
begun Input (Two a b) = input_two (is 68 a) (is 85 a) (is 85 b) (before a b)
begun Input (Three a b c) = input_three (is 68 a) (is 85 a) (is 85 b) (is 68 c) (before a b) (before b c)
begun Input Many = refl
begun Output Begun = refl
begun Output (One a) = output_one (is 88 a) (is 76 a) (is 72 a)
begun Output (Two a b) = output_two (is 88 a) (is 76 a) (is 72 a) (is 76 b) (is 72 b) (before a b)
begun Output (Three a b c) = output_three (in_order (a ∷ b ∷ c ∷ [])) (is 88 a) (is 76 a) (is 72 a) (is 76 b) (is 72 b)
begun Output Many = refl

-- ---- what is done

one_act : (d u x l h : Bool) → cond d (Some Low) (cond u (Some High) (cond x (Some Ignore) (cond l (Some ExpectLow) (cond h (Some ExpectHigh) None)))) ≡ cond (d && true) (Some Low) (cond (u && true) (Some High) (cond (d && false) (Some Pulse) (cond (x && true) (Some Ignore) (cond (l && true) (Some ExpectLow) (cond (h && true) (Some ExpectHigh) (cond (x && false) (Some ExpectLow) (cond (x && false) (Some ExpectHigh) None)))))))
one_act true true true true true = refl
one_act true true true true false = refl
one_act true true true false true = refl
one_act true true true false false = refl
one_act true true false true true = refl
one_act true true false true false = refl
one_act true true false false true = refl
one_act true true false false false = refl
one_act true false true true true = refl
one_act true false true true false = refl
one_act true false true false true = refl
one_act true false true false false = refl
one_act true false false true true = refl
one_act true false false true false = refl
one_act true false false false true = refl
one_act true false false false false = refl
one_act false true true true true = refl
one_act false true true true false = refl
one_act false true true false true = refl
one_act false true true false false = refl
one_act false true false true true = refl
one_act false true false true false = refl
one_act false true false false true = refl
one_act false true false false false = refl
one_act false false true true true = refl
one_act false false true true false = refl
one_act false false true false true = refl
one_act false false true false false = refl
one_act false false false true true = refl
one_act false false false true false = refl
one_act false false false false true = refl
one_act false false false false false = refl

-- a waveform that is shorter, or longer, is passed
past : (c : Bool) (o p : Option Act) → cond (c && false) o p ≡ p
past true o p = refl
past false o p = refl

past_two : (c e : Bool) (o p : Option Act) → cond (c && (e && false)) o p ≡ p
past_two true e o p = past e o p
past_two false e o p = refl

-- what two events do whose and_first has these letters
abbrev of_two : (x m k : Bool) → Option Act
of_two x m k = cond (x && (m && true)) (Some ExpectLow) (cond (x && (k && true)) (Some ExpectHigh) None)

two_act : (a b : Event) → act_among accepted (a ∷ b ∷ []) ≡ of_two (is 88 a) (is 76 b) (is 72 b)
two_act a b =
    past (is 68 a) (Some Low) _ ∙ past (is 85 a) (Some High) _ ∙ past_two (is 68 a) (is 85 b) (Some Pulse) _ ∙ past (is 88 a) (Some Ignore) _ ∙ past (is 76 a) (Some ExpectLow) _
    ∙ past (is 72 a) (Some ExpectHigh) _

compared : (m k : Bool) → cond m (Some ExpectLow) (cond k (Some ExpectHigh) None) ≡ of_two true m k
compared true true = refl
compared true false = refl
compared false true = refl
compared false false = refl

not_compared : (x : Bool) → None ≡ of_two x false false
not_compared true = refl
not_compared false = refl

-- what two events of an input do
two_of : (m k x : Bool) → m ≡ false → k ≡ false → cond m (Some ExpectLow) (cond k (Some ExpectHigh) None) ≡ of_two x m k
two_of false false x l h = not_compared x
two_of true k x l h = absurd (true≢false l)
two_of false true x l h = absurd (true≢false h)

-- what a pulse does
three_act : (d u s f : Bool) (more : Option Act) → d ≡ true → s ≡ true → f ≡ true → Some Pulse ≡ cond (d && false) (Some Low) (cond (u && false) (Some High) (cond (d && (s && (f && true))) (Some Pulse) more))
three_act true u true true more d s f = sym (past u (Some High) (Some Pulse))
three_act false u s f more d' s' f' = absurd (true≢false (sym d'))
three_act true u false f more d' s' f' = absurd (true≢false (sym s'))
three_act true u true false more d' s' f' = absurd (true≢false (sym f'))

pub acted : ActsByTable
acted Input Begun e = absurd (true≢false (sym e))
acted Input (One a) e = one_act (is 68 a) (is 85 a) (is 88 a) (is 76 a) (is 72 a)
acted Input (Two a b) e =
    let u : is 85 b ≡ true = and_second (is 68 a) (is 85 b) (and_first (is 68 a && is 85 b) (before a b) e) in
    let l : is 76 b ≡ false = grind (arith, nat_tests) in
    let h : is 72 b ≡ false = grind (arith, nat_tests) in
    two_of (is 76 b) (is 72 b) (is 88 a) l h ∙ sym (two_act a b)
acted Input (Three a b c) e =
    let start : Bool = is 68 a && is 85 b in
    let letters : (start && is 68 c) ≡ true = and_first (start && is 68 c) (before a b) (and_first (start && is 68 c && before a b) (before b c) e) in
    three_act (is 68 a) (is 85 a) (is 85 b) (is 68 c) _ (and_first (is 68 a) (is 85 b) (and_first start (is 68 c) letters)) (and_second (is 68 a) (is 85 b) (and_first start (is 68 c) letters)) (and_second start (is 68 c) letters)
acted Input Many e = absurd (true≢false (sym e))
acted Output Begun e = absurd (true≢false (sym e))
acted Output (One a) e = one_act (is 68 a) (is 85 a) (is 88 a) (is 76 a) (is 72 a)
acted Output (Two a b) e = compared (is 76 b) (is 72 b) ∙ ap (λ x. of_two x (is 76 b) (is 72 b)) (sym (and_first (is 88 a) (is 76 b || is 72 b) (and_first (is 88 a && (is 76 b || is 72 b)) (before a b) e))) ∙ sym (two_act a b)
acted Output (Three a b c) e = absurd (true≢false (sym e))
acted Output Many e = absurd (true≢false (sym e))

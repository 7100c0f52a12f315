-- Phase sets, the size of a ring and its injectors are one.
use Rattle.std.proofs.Common.{ℕ, zero, suc, ◌≡◌, ◌<◌, ◌≤◌, List, [], ◌∷◌, ◌++◌, length, Option, None, Some, refl, sym, ap, arith, ◌∙◌, subst}
use Rattle.std.specs.Prelude.{take}
use Rattle.std.proofs.Math.Seq.{take-suc}
use Rattle.std.proofs.lemmas.List.{take_all}
use Rattle.std.proofs.lemmas.Option.{none-some, same_Some}
use Rattle.rand_pcg.specs.Lcg.{Lcg}
use Rattle.dft_base.proofs.BitLemmas.{true_false}
use Rattle.dft_config.specs.declared.config.Injector.{Injector}
use Rattle.dft_decompressor.specs.declared.fits.Fitting.{Fitting}
use Rattle.dft_decompressor.specs.Fits.{FirstFit, NoSize, TooSmall, Fits, HasNone}
use Rattle.dft_decompressor.specs.Phases.{ArePhases, FirstFull, FullPass, NoPass, ShortPass, Pass, Full, Ended, Takes, Leaves, Wish, may_follow, next_set, next_state}
use Rattle.dft_decompressor.specs.Rings.{AreFirstInjectors, IsInjector, injector_at}

not_fewer : (count chains : ℕ) → count ≡ chains → count < chains → ⊥
not_fewer count chains e less = omega (arith, e, less)

not_less : (a b : ℕ) → a < b → b ≤ a → ⊥
not_less a b less more = omega (arith, less, more)

-- ---- phase sets

-- a pass takes the same sets each time
pub pass_one : (wish : Wish) (left : ℕ) (random : Lcg) (taken a b : List (List ℕ)) → Pass wish left random taken a → Pass wish left random taken b → a ≡ b
pass_one wish left random taken a b (Full p) (Full q) = refl
pass_one wish left random taken a b (Full p) Ended = refl
pass_one wish left random taken a b (Full p) (Takes q r s) = absurd (not_fewer (length taken) wish.chains p q)
pass_one wish left random taken a b (Full p) (Leaves q r s) = absurd (not_fewer (length taken) wish.chains p q)
pass_one wish left random taken a b Ended (Full q) = refl
pass_one wish left random taken a b Ended Ended = refl
pass_one wish left random taken a b (Takes {left = more} p r s) (Full q) = absurd (not_fewer (length taken) wish.chains q p)
pass_one wish left random taken a b (Takes {left = more} p r s) (Takes q t u) = pass_one wish more (next_state random) (taken ++ next_set wish random ∷ []) a b s u
pass_one wish left random taken a b (Takes {left = more} p r s) (Leaves q t u) = absurd (true_false (may_follow wish.stages wish.bound taken (next_set wish random)) r t)
pass_one wish left random taken a b (Leaves {left = more} p r s) (Full q) = absurd (not_fewer (length taken) wish.chains q p)
pass_one wish left random taken a b (Leaves {left = more} p r s) (Takes q t u) = absurd (true_false (may_follow wish.stages wish.bound taken (next_set wish random)) t r)
pass_one wish left random taken a b (Leaves {left = more} p r s) (Leaves q t u) = pass_one wish more (next_state random) taken a b s u

-- a pass is full, or short
full_or_short : (chains : ℕ) (a b : List (List ℕ)) → a ≡ b → length a ≡ chains → length b < chains → ⊥
full_or_short chains a b same full short = not_fewer (length b) chains (ap (λ (l : List (List ℕ)). length l) (sym same) ∙ full) short

-- phase sets are one
pub phases_one : (stages chains passes slack : ℕ) (a b : Option (List (List ℕ))) → FirstFull stages chains passes slack a → FirstFull stages chains passes slack b → a ≡ b
phases_one stages chains passes slack a b NoPass NoPass = refl
phases_one stages chains passes slack a b (FullPass {sets = s} p e) (FullPass {sets = t} q f) = ap Some (pass_one _ _ _ [] s t p q)
phases_one stages chains passes slack a b (FullPass {sets = s} p e) (ShortPass {sets = t} q f more) = absurd (full_or_short chains s t (pass_one _ _ _ [] s t p q) e f)
phases_one stages chains passes slack a b (ShortPass {sets = s} p e more) (FullPass {sets = t} q f) = absurd (full_or_short chains t s (pass_one _ _ _ [] t s q p) f e)
phases_one stages chains passes slack a b (ShortPass {passes = rest} p e more) (ShortPass q f other) = phases_one stages chains rest (suc slack) a b more other

-- ---- the size of a ring

there_not_none : (stages chains : ℕ) (sets : List (List ℕ)) → ArePhases stages chains (Some sets) → ArePhases stages chains None → ⊥
there_not_none stages chains sets p q = none-some sets (phases_one stages chains 4 0 None (Some sets) q p)

-- the first size that fits is one, and so are its sets
pub fit_one : (need chains : ℕ) (sizes : List ℕ) (a b : Option Fitting) → FirstFit need chains sizes a → FirstFit need chains sizes b → a ≡ b
fit_one need chains sizes a b NoSize NoSize = refl
fit_one need chains sizes a b (TooSmall {size = size} {sizes = rest} p f) (TooSmall q g) = fit_one need chains rest a b f g
fit_one need chains sizes a b (TooSmall {size = size} p f) (Fits q g) = absurd (not_less size need p q)
fit_one need chains sizes a b (TooSmall {size = size} p f) (HasNone q g h) = absurd (not_less size need p q)
fit_one need chains sizes a b (Fits {size = size} p f) (TooSmall q g) = absurd (not_less size need q p)
fit_one need chains sizes a b (Fits {size = size} {sets = s} p f) (Fits {sets = t} q g) =
    let same : s ≡ t = same_Some s t (phases_one size chains 4 0 (Some s) (Some t) f g) in λ i. Some (record { stages = size; phase = same i })
fit_one need chains sizes a b (Fits {size = size} {sets = s} p f) (HasNone q g h) = absurd (there_not_none size chains s f g)
fit_one need chains sizes a b (HasNone {size = size} p f h) (TooSmall q g) = absurd (not_less size need q p)
fit_one need chains sizes a b (HasNone {size = size} p f h) (Fits {sets = s} q g) = absurd (there_not_none size chains s g f)
fit_one need chains sizes a b (HasNone {sizes = rest} p f h) (HasNone q g k) = fit_one need chains rest a b h k

-- ---- injectors

injector_same : (stages channels number : ℕ) (before : List Injector) (a b : Injector) → IsInjector stages channels before number a → IsInjector stages channels before number b → a ≡ b
injector_same stages channels number before a b x y =
    let channel : a.channel ≡ b.channel = x.channel ∙ sym y.channel in
    let stage : a.stage ≡ b.stage = same_Some a.stage b.stage (sym x.stage ∙ y.stage) in
    λ i. record { channel = channel i; stage = stage i }

first_same : (stages channels first : ℕ) (a b : List Injector) → AreFirstInjectors stages channels first a → AreFirstInjectors stages channels first b → (number : ℕ) → number ≤ first → take number a ≡ take number b
first_same stages channels first a b x y zero few = refl
first_same stages channels first a b x y (suc number) few =
    let before = first_same stages channels first a b x y number (omega (arith, few)) in
    let within : number < first = omega (arith, few) in
    let other = subst (λ (l : List Injector). IsInjector stages channels l number (injector_at b number)) (sym before) (y.each number within) in
    let same = injector_same stages channels number (take number a) (injector_at a number) (injector_at b number) (x.each number within) other in
    take-suc a number _ (omega (arith, within, x.count)) ∙ (λ i. before i ++ same i ∷ []) ∙ sym (take-suc b number _ (omega (arith, within, y.count)))

-- the injectors of a ring are one
pub injectors_one : (stages channels first : ℕ) (a b : List Injector) → AreFirstInjectors stages channels first a → AreFirstInjectors stages channels first b → a ≡ b
injectors_one stages channels first a b x y =
    sym (take_all first a (omega (arith, x.count))) ∙ first_same stages channels first a b x y first (omega arith) ∙ take_all first b (omega (arith, y.count))

-- What a net can be in each pattern, and the values that say so.
use Rattle.std.proofs.Common.{ℕ, Bool, true, false, not, List, [], ◌∷◌, ◌≡◌, ◌<◌, refl, sym, ap, ◌∙◌, map, arith}
use Rattle.std.specs.Prelude.{if◌then◌else◌, ◌&&◌, ◌||◌}
use Rattle.dft_base.specs.declared.tri.Tri.{Tri}
use Rattle.dft_base.specs.declared.tri.Tri.TheVariants.{Zero, One, Unknown}
use Rattle.dft_base.specs.Tri.{known, join}
use Rattle.dft_base.specs.Solutions.{xor}
use Rattle.dft_base.proofs.BitLemmas.{or_false}
use Rattle.dft_cells.specs.Gates.{completing, shared}
use Rattle.dft_cells.specs.Tables.{not_tri, and_tri, or_tri, xor_tri, mux_tri}
use Rattle.dft_lanes.specs.declared.wide.Wide.{Wide}
use Rattle.dft_lanes.specs.Choices.{can, is_same, some_choice, some_choice_of_two, some_choice_of_three}
use Rattle.dft_evaluator.specs.Wides.{may, value_of, value_in, IsWide, tree}

-- what an and can be
and_may : (s t : Tri) (v : Bool) → some_choice_of_two (λ x y. x && y) (may s) (may t) v ≡ may (and_tri s t) v
and_may Zero Zero false = refl
and_may Zero Zero true = refl
and_may Zero One false = refl
and_may Zero One true = refl
and_may Zero Unknown false = refl
and_may Zero Unknown true = refl
and_may One Zero false = refl
and_may One Zero true = refl
and_may One One false = refl
and_may One One true = refl
and_may One Unknown false = refl
and_may One Unknown true = refl
and_may Unknown Zero false = refl
and_may Unknown Zero true = refl
and_may Unknown One false = refl
and_may Unknown One true = refl
and_may Unknown Unknown false = refl
and_may Unknown Unknown true = refl

-- what an or can be
or_may : (s t : Tri) (v : Bool) → some_choice_of_two (λ x y. x || y) (may s) (may t) v ≡ may (or_tri s t) v
or_may Zero Zero false = refl
or_may Zero Zero true = refl
or_may Zero One false = refl
or_may Zero One true = refl
or_may Zero Unknown false = refl
or_may Zero Unknown true = refl
or_may One Zero false = refl
or_may One Zero true = refl
or_may One One false = refl
or_may One One true = refl
or_may One Unknown false = refl
or_may One Unknown true = refl
or_may Unknown Zero false = refl
or_may Unknown Zero true = refl
or_may Unknown One false = refl
or_may Unknown One true = refl
or_may Unknown Unknown false = refl
or_may Unknown Unknown true = refl

-- what a sum can be
xor_may : (s t : Tri) (v : Bool) → some_choice_of_two xor (may s) (may t) v ≡ may (xor_tri s t) v
xor_may Zero Zero false = refl
xor_may Zero Zero true = refl
xor_may Zero One false = refl
xor_may Zero One true = refl
xor_may Zero Unknown false = refl
xor_may Zero Unknown true = refl
xor_may One Zero false = refl
xor_may One Zero true = refl
xor_may One One false = refl
xor_may One One true = refl
xor_may One Unknown false = refl
xor_may One Unknown true = refl
xor_may Unknown Zero false = refl
xor_may Unknown Zero true = refl
xor_may Unknown One false = refl
xor_may Unknown One true = refl
xor_may Unknown Unknown false = refl
xor_may Unknown Unknown true = refl

-- what an inverse can be
not_may : (t : Tri) (v : Bool) → some_choice not (may t) v ≡ may (not_tri t) v
not_may Zero false = refl
not_may Zero true = refl
not_may One false = refl
not_may One true = refl
not_may Unknown false = refl
not_may Unknown true = refl

-- ---- a choice of two

choice_true : (f s e : Bool → Bool) → f false || f true ≡ true → s false || s true ≡ true
    → some_choice_of_three (λ x y c. if c then y else x) f s e true ≡ (e false && f true) || (e true && s true)
choice_true f s e some some' = grind arith

choice_false : (f s e : Bool → Bool) → f false || f true ≡ true → s false || s true ≡ true
    → some_choice_of_three (λ x y c. if c then y else x) f s e false ≡ (e false && f false) || (e true && s false)
choice_false f s e some some' = grind arith

choice : (f s e : Bool → Bool) → f false || f true ≡ true → s false || s true ≡ true → (v : Bool)
    → some_choice_of_three (λ x y c. if c then y else x) f s e v ≡ (e false && f v) || (e true && s v)
choice f s e some some' true = choice_true f s e some some'
choice f s e some some' false = choice_false f s e some some'

may_some : (t : Tri) → may t false || may t true ≡ true
may_some Zero = refl
may_some One = refl
may_some Unknown = refl

or_same : (b : Bool) → b || b ≡ b
or_same true = refl
or_same false = refl

may_join : (s t : Tri) (v : Bool) → may s v || may t v ≡ may (join s t) v
may_join Zero Zero v = or_same (not v)
may_join One One v = or_same v
may_join Zero One true = refl
may_join Zero One false = refl
may_join One Zero true = refl
may_join One Zero false = refl
may_join Zero Unknown true = refl
may_join Zero Unknown false = refl
may_join One Unknown true = refl
may_join One Unknown false = refl
may_join Unknown t v = refl

may_complete : (f : Bool → Tri) (t : Tri) (v : Bool) → (may t false && may (f false) v) || (may t true && may (f true) v) ≡ may (completing f t) v
may_complete f Zero v = or_false (may (f false) v)
may_complete f One v = refl
may_complete f Unknown v = may_join (f false) (f true) v

-- a choice between what two values can be, by what a third one can be
chosen : (f : Bool → Tri) (t : Tri) (v : Bool) → some_choice_of_three (λ x y c. if c then y else x) (may (f false)) (may (f true)) (may t) v ≡ may (completing f t) v
chosen f t v = choice (may (f false)) (may (f true)) (may t) (may_some (f false)) (may_some (f true)) v ∙ may_complete f t v

mux_completes : (first second select : Tri) → completing (λ b. if b then second else first) select ≡ mux_tri first second select
mux_completes first second Zero = refl
mux_completes first second One = refl
mux_completes first second Unknown = refl

-- ---- a table

known_may : (b v : Bool) → is_same b v ≡ may (known b) v
known_may true true = refl
known_may true false = refl
known_may false true = refl
known_may false false = refl

pub tree_completes : (table : List Bool → Bool) (values : List Tri) (v : Bool) → tree table (map may values) v ≡ may (shared table values) v
tree_completes table [] v = known_may (table []) v
tree_completes table (t ∷ ts) v =
    let f : Bool → Tri = λ b. shared (λ bs. table (b ∷ bs)) ts in
    (λ i. some_choice_of_three (λ x y c. if c then y else x) (λ u. tree_completes (λ bs. table (false ∷ bs)) ts u i) (λ u. tree_completes (λ bs. table (true ∷ bs)) ts u i) (may t) v)
    ∙ chosen f t v

-- ---- patterns

-- what a value is read from
pub value_of_may : (t : Tri) → value_of (may t false) (may t true) ≡ t
value_of_may Zero = refl
value_of_may One = refl
value_of_may Unknown = refl

pub value_is : (wide : Wide) (values : ℕ → Tri) → IsWide wide values → (pattern : ℕ) → pattern < 512 → value_in wide pattern ≡ values pattern
value_is wide values is pattern less = (λ i. value_of (is.each pattern false less i) (is.each pattern true less i)) ∙ value_of_may (values pattern)

-- a net can be what its value says
pub wide_is : (wide : Wide) (values : ℕ → Tri) → IsWide wide values → IsWide wide (value_in wide)
wide_is wide values is = record { each = λ pattern bit less. is.each pattern bit less ∙ ap (λ (t : Tri). may t bit) (sym (value_is wide values is pattern less)) }

pub wide_same : (wide : Wide) (values others : ℕ → Tri) → IsWide wide values → ((pattern : ℕ) → pattern < 512 → values pattern ≡ others pattern) → IsWide wide others
wide_same wide values others is same = record { each = λ pattern bit less. is.each pattern bit less ∙ ap (λ (t : Tri). may t bit) (same pattern less) }

-- ---- gates

pub wide_nots : (wide a : Wide) (s : ℕ → Tri) → IsWide a s → ((pattern : ℕ) (v : Bool) → can wide pattern v ≡ some_choice not (can a pattern) v) → IsWide wide (λ p. not_tri (s p))
wide_nots wide a s is made = record { each = λ p v less. made p v ∙ (λ i. some_choice not (λ u. is.each p u less i) v) ∙ not_may (s p) v }

pub wide_ands : (wide a b : Wide) (s t : ℕ → Tri) → IsWide a s → IsWide b t → ((pattern : ℕ) (v : Bool) → can wide pattern v ≡ some_choice_of_two (λ x y. x && y) (can a pattern) (can b pattern) v)
    → IsWide wide (λ p. and_tri (s p) (t p))
wide_ands wide a b s t is is' made =
    record { each = λ p v less. made p v ∙ (λ i. some_choice_of_two (λ x y. x && y) (λ u. is.each p u less i) (λ u. is'.each p u less i) v) ∙ and_may (s p) (t p) v }

pub wide_ors : (wide a b : Wide) (s t : ℕ → Tri) → IsWide a s → IsWide b t → ((pattern : ℕ) (v : Bool) → can wide pattern v ≡ some_choice_of_two (λ x y. x || y) (can a pattern) (can b pattern) v)
    → IsWide wide (λ p. or_tri (s p) (t p))
wide_ors wide a b s t is is' made =
    record { each = λ p v less. made p v ∙ (λ i. some_choice_of_two (λ x y. x || y) (λ u. is.each p u less i) (λ u. is'.each p u less i) v) ∙ or_may (s p) (t p) v }

pub wide_xors : (wide a b : Wide) (s t : ℕ → Tri) → IsWide a s → IsWide b t → ((pattern : ℕ) (v : Bool) → can wide pattern v ≡ some_choice_of_two xor (can a pattern) (can b pattern) v)
    → IsWide wide (λ p. xor_tri (s p) (t p))
wide_xors wide a b s t is is' made =
    record { each = λ p v less. made p v ∙ (λ i. some_choice_of_two xor (λ u. is.each p u less i) (λ u. is'.each p u less i) v) ∙ xor_may (s p) (t p) v }

-- by a select, one of the values that a function gives at 0 and at 1
pub wide_chosen : (wide a b e : Wide) (f : ℕ → Bool → Tri) (t : ℕ → Tri) → IsWide a (λ p. f p false) → IsWide b (λ p. f p true) → IsWide e t
    → ((pattern : ℕ) (v : Bool) → can wide pattern v ≡ some_choice_of_three (λ x y c. if c then y else x) (can a pattern) (can b pattern) (can e pattern) v)
    → IsWide wide (λ p. completing (f p) (t p))
wide_chosen wide a b e f t is is' by made =
    record { each = λ p v less. made p v ∙ (λ i. some_choice_of_three (λ x y c. if c then y else x) (λ u. is.each p u less i) (λ u. is'.each p u less i) (λ u. by.each p u less i) v) ∙ chosen (f p) (t p) v }

pub wide_muxes : (wide a b e : Wide) (s t u : ℕ → Tri) → IsWide a s → IsWide b t → IsWide e u
    → ((pattern : ℕ) (v : Bool) → can wide pattern v ≡ some_choice_of_three (λ x y c. if c then y else x) (can a pattern) (can b pattern) (can e pattern) v)
    → IsWide wide (λ p. mux_tri (s p) (t p) (u p))
wide_muxes wide a b e s t u is is' by made =
    wide_same wide (λ p. completing (λ c. if c then t p else s p) (u p)) (λ p. mux_tri (s p) (t p) (u p)) (wide_chosen wide a b e (λ p c. if c then t p else s p) u is is' by made)
    (λ p less. mux_completes (s p) (t p) (u p))

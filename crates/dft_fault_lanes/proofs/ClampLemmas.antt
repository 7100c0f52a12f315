-- A value between bounds, in each lane.
use Rattle.std.proofs.Common.{ℕ, Bool, true, false, ◌≡◌, ◌<◌, ◌==◌, Option, None, Some, unwrap_or, refl, ap, ◌∙◌}
use Rattle.std.specs.Prelude.{if◌then◌else◌, ◌&&◌, ◌||◌}
use Rattle.dft_base.specs.declared.tri.Tri.{Tri}
use Rattle.dft_base.specs.declared.tri.Tri.TheVariants.{Zero, One, Unknown}
use Rattle.dft_base.specs.Tri.{known}
use Rattle.dft_lanes.specs.declared.wide.Wide.{Wide}
use Rattle.dft_lanes.specs.Choices.{can, some_choice_of_two}
use Rattle.dft_evaluator.specs.Wides.{value_in, IsWide}
use Rattle.dft_evaluator.proofs.WideLemmas.{value_is, wide_is, wide_ands, wide_ors}
use Rattle.dft_fault_lanes.specs.declared.clamps.Clamp.{Clamp}
use Rattle.dft_fault_lanes.specs.Lanes.{between, clamped, IsClamp}

-- ---- what a net can be

pub within_some : (b : Clamp) (wide lower both : Wide) → IsClamp (Some b) →
    ((lane : ℕ) (v : Bool) → can lower lane v ≡ some_choice_of_two (λ x y. x && y) (can wide lane) (can b.most lane) v) →
    ((lane : ℕ) (v : Bool) → can both lane v ≡ some_choice_of_two (λ x y. x || y) (can lower lane) (can b.least lane) v) →
    (values : ℕ → Tri) → IsWide wide values → IsWide both (λ lane. clamped (Some b) lane (values lane))
within_some b wide lower both is ands ors values holds = wide_ors both lower b.least _ _ (wide_ands lower wide b.most values (value_in b.most) holds is.0 ands) is.1 ors

-- ---- one lane more

loose_between : (given : Tri) → between One Zero given ≡ given
loose_between Zero = refl
loose_between One = refl
loose_between Unknown = refl

stuck_between : (value : Bool) (given : Tri) → between (known value) (known value) given ≡ known value
stuck_between true Zero = refl
stuck_between true One = refl
stuck_between true Unknown = refl
stuck_between false Zero = refl
stuck_between false One = refl
stuck_between false Unknown = refl

lane_between : (here value : Bool) (most least given rest : Tri) → between most least given ≡ rest →
    between (if here then known value else most) (if here then known value else least) given ≡ (if here then known value else rest)
lane_between true value most least given rest same = stuck_between value given
lane_between false value most least given rest same = same

unwrapped : (bounds : Option Clamp) (loose : Clamp) → IsWide loose.most (λ lane. One) → IsWide loose.least (λ lane. Zero) → (k : ℕ) (given : Tri) → k < 512 →
    between (value_in (unwrap_or bounds loose).most k) (value_in (unwrap_or bounds loose).least k) given ≡ clamped bounds k given
unwrapped None loose most least k given less = (λ t. between (value_is loose.most (λ lane. One) most k less t) (value_is loose.least (λ lane. Zero) least k less t) given) ∙ loose_between given
unwrapped (Some b) loose most least k given less = refl

pub tighter : (bounds : Option Clamp) (loose : Clamp) (most least : Wide) (lane : ℕ) (value : Bool) (v w : Tri) → IsWide loose.most (λ lane. One) → IsWide loose.least (λ lane. Zero) →
    v ≡ known value → w ≡ known value → ((p : ℕ) → value_in most p ≡ (if p == lane then v else value_in (unwrap_or bounds loose).most p)) →
    ((p : ℕ) → value_in least p ≡ (if p == lane then w else value_in (unwrap_or bounds loose).least p)) →
    (k : ℕ) (given : Tri) → k < 512 → between (value_in most k) (value_in least k) given ≡ (if k == lane then known value else clamped bounds k given)
tighter bounds loose most least lane value v w loose_most loose_least is_v is_w up low k given less =
    let old : Clamp = unwrap_or bounds loose in
    let above : value_in most k ≡ (if k == lane then known value else value_in old.most k) = up k ∙ ap (λ t. if k == lane then t else value_in old.most k) is_v in
    let below : value_in least k ≡ (if k == lane then known value else value_in old.least k) = low k ∙ ap (λ t. if k == lane then t else value_in old.least k) is_w in
    (λ t. between (above t) (below t) given)
    ∙ lane_between (k == lane) value (value_in old.most k) (value_in old.least k) given (clamped bounds k given) (unwrapped bounds loose loose_most loose_least k given less)

-- they can be something in each lane
pub unwrapped_is : (bounds : Option Clamp) (loose : Clamp) → IsClamp bounds → IsWide loose.most (λ lane. One) → IsWide loose.least (λ lane. Zero) → IsClamp (Some (unwrap_or bounds loose))
unwrapped_is None loose is most least = (wide_is loose.most (λ lane. One) most, wide_is loose.least (λ lane. Zero) least)
unwrapped_is (Some b) loose is most least = is

-- A plan from its parts, and its limits.
use Rattle.std.proofs.Common.{◌≡◌, ◌≤◌, ◌*◌, ℕ, Bool, true, false, cond, List, length, Option, None, Some, pos, refl, ◌∙◌, ap, subst, arith}
use Rattle.std.specs.Prelude.{nat_lt}
use Rattle.std.proofs.lemmas.Bool.Decides.{nat_tests}
use Rattle.std.proofs.lemmas.Bool.{le-ltb}
use Rattle.dft_netlist.specs.declared.ids.InstanceId.{InstanceId}
use Rattle.dft_netlist.specs.Netlist.{Netlist}
use Rattle.dft_config.specs.Config.{Config}
use Rattle.dft_rules.specs.declared.judged.Judged.{Judged}
use Rattle.dft_rules.specs.Rules.{judgements}
use Rattle.dft_stitch.specs.declared.error.Counted.TheVariants.{Cells, Cycles, Variables}
use Rattle.dft_stitch.specs.declared.error.StitchError.{StitchError}
use Rattle.dft_stitch.specs.declared.error.StitchError.TheVariants.{TooMany}
use Rattle.dft_stitch.specs.declared.limits.TheConstants.{MAX_CELLS, MAX_CYCLES, MAX_VARIABLES}
use Rattle.dft_stitch.specs.declared.places.LockupPlace.{LockupPlace}
use Rattle.dft_stitch.specs.Chains.{cells_of, chains_of, cycles_of, heads_of, lockups_of, plan_of}
use Rattle.dft_stitch.specs.Limits.{IsRefusal, refusal, refusal_of}
use Rattle.dft_stitch.specs.Plans.{Plan}

-- ---- limits

none_of : (a b c : Bool) (x y z : Option StitchError) → a ≡ false → b ≡ false → c ≡ false → cond a x (cond b y (cond c z None)) ≡ None
none_of a b c x y z p q r = rw (p, q, r) refl

-- no limit is passed
pub fits : (config : Config) (cells : ℕ) → cells ≤ MAX_CELLS → cycles_of config cells ≤ MAX_CYCLES → cycles_of config cells * config.ring.channels ≤ MAX_VARIABLES → refusal_of config cells ≡ None
fits config cells few short small =
    none_of (nat_lt MAX_CELLS cells) (nat_lt MAX_CYCLES (cycles_of config cells)) (nat_lt MAX_VARIABLES (cycles_of config cells * config.ring.channels))
    (Some (TooMany Cells (pos MAX_CELLS))) (Some (TooMany Cycles (pos MAX_CYCLES))) (Some (TooMany Variables (pos MAX_VARIABLES)))
    (le-ltb MAX_CELLS cells few) (le-ltb MAX_CYCLES (cycles_of config cells) short) (le-ltb MAX_VARIABLES (cycles_of config cells * config.ring.channels) small)

within : (t : Bool) (cells : ℕ) (x more : Option StitchError) (error : StitchError) → nat_lt MAX_CELLS cells ≡ t → x ≡ Some error → cond t x more ≡ None → cells ≤ MAX_CELLS
within true cells x more error is some none = absurd (let f : ⊥ = cc in f)
within false cells x more error is some none = grind (arith, nat_tests)

-- there are no more cells than their limit
pub few_cells : (config : Config) (cells : ℕ) → refusal_of config cells ≡ None → cells ≤ MAX_CELLS
few_cells config cells none = within (nat_lt MAX_CELLS cells) cells (Some (TooMany Cells (pos MAX_CELLS))) _ (TooMany Cells (pos MAX_CELLS)) refl refl none

-- the refusal of so many cells is that of the design that has them
pub refused_for : (n : Netlist) (config : Config) (cells : List InstanceId) (error : StitchError) → cells ≡ cells_of n config → IsRefusal (refusal_of config (length cells)) error → IsRefusal (refusal n config) error
refused_for n config cells error same h = let P : List InstanceId → Type 0 = λ xs. IsRefusal (refusal_of config (length xs)) error in subst P same h

-- ---- the plan

pub plan_is : (n : Netlist) (config : Config) (verdicts : List (Option Judged)) (cells : List InstanceId) (chains : List (List InstanceId)) (heads : List Bool) (lockups : List LockupPlace) (cycles : ℕ) → verdicts ≡ judgements n config →
    cells ≡ cells_of n config → chains ≡ chains_of cells config.chains → heads ≡ heads_of verdicts chains → lockups ≡ lockups_of verdicts chains → cycles ≡ cycles_of config (length cells) →
    record { chains = chains; heads = heads; lockups = lockups; cycles = cycles } ≡ plan_of n config
plan_is n config verdicts cells chains heads lockups cycles v s h d l y =
    let all = chains_of (cells_of n config) config.chains in
    let e : chains ≡ all = h ∙ ap (λ (xs : List InstanceId). chains_of xs config.chains) s in
    let b : heads ≡ heads_of (judgements n config) all = d ∙ ap (λ (vs : List (Option Judged)). heads_of vs chains) v ∙ ap (heads_of (judgements n config)) e in
    let f : lockups ≡ lockups_of (judgements n config) all = l ∙ ap (λ (vs : List (Option Judged)). lockups_of vs chains) v ∙ ap (lockups_of (judgements n config)) e in
    let g : cycles ≡ cycles_of config (length (cells_of n config)) = y ∙ ap (λ (xs : List InstanceId). cycles_of config (length xs)) s in
    let made : List (List InstanceId) → List Bool → List LockupPlace → ℕ → Plan = λ xs hs ys z. record { chains = xs; heads = hs; lockups = ys; cycles = z } in
    ap (λ (xs : List (List InstanceId)). made xs heads lockups cycles) e ∙ ap (λ (hs : List Bool). made all hs lockups cycles) b ∙ ap (λ (ys : List LockupPlace). made all (heads_of (judgements n config) all) ys cycles) f
    ∙ ap (made all (heads_of (judgements n config) all) (lockups_of (judgements n config) all)) g

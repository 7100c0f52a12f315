-- Along a chain no falling cell stands behind a rising one; the first cell of a chain; and what stands between two neighbours.
use Rattle.std.proofs.Common.{◌≡◌, ℕ, zero, suc, ◌+◌, ◌*◌, ◌<◌, ◌≤◌, Bool, true, false, cond, List, [], ◌∷◌, ◌++◌, length, flat_map, Option, Some, option_map, slice_get, slice_index_or, refl, sym, ◌∙◌, ap, arith, inl, inr}
use Rattle.std.specs.List.{range_with_len}
use Rattle.std.proofs.lemmas.Option.{none-some, slice_get_within, slice_get-map, get_or_from_slice_get}
use Rattle.dft_base.proofs.ListLemmas.{get_left, get_right, at_either}
use Rattle.dft_netlist.specs.declared.ids.InstanceId.{InstanceId}
use Rattle.dft_rules.specs.declared.judged.Judged.{Judged}
use Rattle.dft_stitch.specs.declared.places.CellClock.{CellClock}
use Rattle.dft_stitch.specs.Chains.{begins_falling, cells_in, chains_of, clock_at, group_of, heads_of, is_falling, scanned_cells}
use Rattle.dft_stitch.specs.Laws.{FallingFirst}
use Rattle.dft_stitch.specs.Plans.{cell_at}
use Rattle.dft_stitch.proofs.EvenLemmas.{chains_hold}
use Rattle.dft_stitch.proofs.OnceLemmas.{InGroup, in_range, in_groups, one_group}

-- ---- groups along the list

-- of two cells the one that stands first is of a group that is not later
sorted : (v : List (Option Judged)) (domains g m a b i j : ℕ) (x y : InstanceId) → a < b → slice_get (flat_map (cells_in v domains) (range_with_len g m)) a ≡ Some x → slice_get (flat_map (cells_in v domains) (range_with_len g m)) b ≡ Some y →
    InGroup v domains i x → InGroup v domains j y → i ≤ j
sorted v domains g zero a b i j x y less p q one other = absurd (none-some x p)
sorted v domains g (suc m) a b i j x y less p q one other =
    let here = cells_in v domains g in
    let rest = flat_map (cells_in v domains) (range_with_len (g + 1) m) in
    elim (at_either here rest a x p) [
      | inl p1 ↦ (
          let first : i ≡ g = one_group v domains i g x one (in_range v domains g 0 (length v) a x p1).group in
          elim (at_either here rest b y q) [
            | inl q1 ↦ (let second : j ≡ g = one_group v domains j g y other (in_range v domains g 0 (length v) b y q1).group in omega (arith, first, second))
            | inr q2 ↦ (let there = in_groups v domains (g + 1) m q2.place y q2.here in let second : j ≡ there.0 = one_group v domains j there.0 y other there.2 in omega (arith, first, second, there.1))
          ])
      | inr p2 ↦ elim (at_either here rest b y q) [
        | inl q1 ↦ absurd (let within = slice_get_within here b y q1 in omega (arith, within, p2.number, less))
        | inr q2 ↦ sorted v domains (g + 1) m p2.place q2.place i j x y (omega (arith, p2.number, q2.number, less)) p2.here q2.here one other
      ]
    ]

-- ---- neighbours

-- neighbours of a chain are neighbours among all cells
together : (chains : List (List InstanceId)) (c k : ℕ) (x y : InstanceId) → cell_at chains c k ≡ Some x → cell_at chains c (suc k) ≡ Some y →
    (r : ℕ) × (slice_get (flat_map (λ chain. chain) chains) r ≡ Some x) × (slice_get (flat_map (λ chain. chain) chains) (suc r) ≡ Some y)
together [] c k x y p q = absurd (none-some x p)
together (cells ∷ rest) zero k x y p q = (k, get_left cells (flat_map (λ chain. chain) rest) k x p, get_left cells (flat_map (λ chain. chain) rest) (suc k) y q)
together (cells ∷ rest) (suc c) k x y p q =
    let more = together rest c k x y p q in
    let next : length cells + suc more.0 ≡ suc (length cells + more.0) = omega arith in (
      length cells + more.0,
      get_right cells (flat_map (λ chain. chain) rest) more.0 x more.1,
      ap (slice_get (cells ++ flat_map (λ chain. chain) rest)) (sym next) ∙ get_right cells (flat_map (λ chain. chain) rest) (suc more.0) y more.2,
    )

-- a group that is not later than that of a falling cell is a falling cell's
falls_before : (domains : ℕ) (falling : Bool) (clock other : CellClock) → clock.falling ≡ falling → other.domain < domains → other.falling ≡ true → group_of domains clock ≤ group_of domains other → falling ≡ true
falls_before domains true clock other is less falls le = refl
falls_before domains false clock other is less falls le =
    let first : group_of domains clock ≡ domains + clock.domain = ap (λ (b : Bool). cond b clock.domain (domains + clock.domain)) is in
    let second : group_of domains other ≡ other.domain = ap (λ (b : Bool). cond b other.domain (domains + other.domain)) falls in
    absurd (omega (arith, first, second, less, le))

pub falling_first : FallingFirst
falling_first = λ v config chain place cell next clock other some stands follows is its less falls. (
    let domains = length config.domains in
    let cells = scanned_cells v domains in
    let chains = chains_of cells config.chains in
    let whole : flat_map (λ c. c) chains ≡ cells = chains_hold cells config.chains some in
    let two = together chains chain place cell next stands follows in
    let le = sorted v domains 0 (2 * domains) two.0 (suc two.0) (group_of domains clock) (group_of domains other) cell next (omega arith)
    (ap (λ (xs : List InstanceId). slice_get xs two.0) (sym whole) ∙ two.1) (ap (λ (xs : List InstanceId). slice_get xs (suc two.0)) (sym whole) ∙ two.2)
    (record { clock = clock; its = is; group = refl }) (record { clock = other; its = its; group = refl }) in
    falls_before domains clock.falling clock other refl less falls le)

-- ---- heads

-- a chain begins as its first cell does
pub head_is : (v : List (Option Judged)) (cs : List (List InstanceId)) (chain : ℕ) (cells : List InstanceId) (clock : CellClock) → slice_get cs chain ≡ Some cells → clock_at v cells 0 ≡ Some clock → slice_index_or (heads_of v cs) chain false ≡ clock.falling
head_is v cs chain cells clock at is =
    get_or_from_slice_get (heads_of v cs) chain (begins_falling v cells) false (slice_get-map (begins_falling v) cs chain ∙ ap (option_map (begins_falling v)) at)
    ∙ ap is_falling is

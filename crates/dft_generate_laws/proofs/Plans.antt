-- No limit of the plan refuses a generated design.
use Rattle.std.proofs.Common.{◌≡◌, ℕ, ◌+◌, ◌*◌, ◌/◌, ◌%◌, ◌<◌, ◌≤◌, Bool, true, false, cond, ltb, List, [], ◌∷◌, ◌++◌, length, count_by, Option, Some, None, refl, sym, subst, arith, append_assoc, length-append}
use Rattle.std.specs.Prelude.{slice_index_or}
use Rattle.std.specs.List.{range_with_len}
use Rattle.std.proofs.Math.Nat.{max-le}
use Rattle.std.proofs.lemmas.Bool.Decides.{nat_tests}
use Rattle.std.proofs.lemmas.List.Sums.{sum_by-cons}
use Rattle.dft_config.specs.Cycles.{part_length}
use Rattle.dft_rules.specs.declared.judged.Judged.{Judged}
use Rattle.dft_rules.specs.declared.judged.Judged.TheVariants.{Scanned, Unscanned}
use Rattle.dft_rules.specs.Refusals.{is_scanned}
use Rattle.dft_rules.specs.Rules.{judgements}
use Rattle.dft_stitch.specs.declared.limits.TheConstants.{MAX_CELLS, MAX_CYCLES, MAX_VARIABLES}
use Rattle.dft_stitch.specs.Chains.{clock_in, clock_of, scanned_cells, cells_of, cycles_of}
use Rattle.dft_stitch.specs.Limits.{refusal_of}
use Rattle.dft_stitch.specs.Limits as limits
use Rattle.dft_stitch.proofs.CountLemmas.{hits, hits_most, hits_nothing, all_from, all_none, all_more}
use Rattle.dft_generate.specs.Configurations.{configuration}
use Rattle.dft_generate_laws.specs.Designs.{design}
use Rattle.dft_generate_laws.proofs.Checks.{scanned_here}

-- ---- scanned cells

here : (front rest : List (Option Judged)) (x : Option Judged) → slice_index_or (front ++ x ∷ rest) (length front) None ≡ x
here [] rest x = refl
here (y ∷ front) rest x = here front rest x

-- a verdict gives a cell of one group at most, where it is scanned
hit_by : (x : Option Judged) → hits 2 (clock_in x) (range_with_len 0 4) ≤ cond (is_scanned x) 1 0
hit_by None = omega (arith, hits_nothing 2 (range_with_len 0 4))
hit_by (Some (Unscanned rule)) = omega (arith, hits_nothing 2 (range_with_len 0 4))
hit_by (Some (Scanned domain falling)) = omega (arith, hits_most 2 (Some (record { domain = domain; falling = falling })) 0 4)

-- no more cells of all groups than scanned ones
few_from : (rest front : List (Option Judged)) → length (all_from (front ++ rest) 2 (range_with_len 0 4) (length front) (length rest)) ≤ count_by is_scanned rest
few_from [] front = omega (arith, all_none (front ++ []) 2 (range_with_len 0 4) (length front))
few_from (x ∷ rest) front =
    let v : List (Option Judged) = front ++ x ∷ rest in
    let groups : List ℕ = range_with_len 0 4 in
    let next : length (front ++ x ∷ []) ≡ length front + 1 = omega (arith, length-append front (x ∷ [])) in
    let whole : (front ++ x ∷ []) ++ rest ≡ v = append_assoc front (x ∷ []) rest in
    let more : length (all_from v 2 groups (length front + 1) (length rest)) ≤ count_by is_scanned rest =
    subst (λ (k : ℕ). length (all_from v 2 groups k (length rest)) ≤ count_by is_scanned rest) next
    (subst (λ (w : List (Option Judged)). length (all_from w 2 groups (length (front ++ x ∷ [])) (length rest)) ≤ count_by is_scanned rest) whole (few_from rest (front ++ x ∷ []))) in
    let hit : hits 2 (clock_of v (record { 0 = length front })) groups ≤ cond (is_scanned x) 1 0 =
    subst (λ (w : Option Judged). hits 2 (clock_in w) groups ≤ cond (is_scanned x) 1 0) (sym (here front rest x)) (hit_by x) in
    omega (arith, hit, more, all_more v 2 groups (length front) (length rest), sum_by-cons (λ (w : Option Judged). cond (is_scanned w) 1 0) x rest)

pub few_cells : (v : List (Option Judged)) → length (scanned_cells v 2) ≤ count_by is_scanned v
few_cells v = few_from v []

-- ---- limits

part_few : (cells : ℕ) → cells ≤ 20000 → part_length cells 16 0 ≤ 1251
part_few cells few = by (ltb 0 (cells % 16))
  where
    quotient : cells / 16 ≤ 1250
    quotient = omega (arith, few)

    by : (t : Bool) → cells / 16 + cond t 1 0 ≤ 1251
    by true = omega (arith, quotient)
    by false = omega (arith, quotient)

pub cycles_few : (cells : ℕ) → cells ≤ 20000 → cycles_of configuration cells ≤ 1267
cycles_few cells few = max-le {a = 16 + part_length cells 16 0} {b = 8} {k = 1267} (let p = part_few cells few in omega (arith, p)) (omega arith)

no_limit : (cells : ℕ) → cells ≤ 20000 → refusal_of configuration cells ≡ None
no_limit cells few =
    let c = cycles_few cells few in
    let a : ltb MAX_CELLS cells ≡ false = grind (arith, nat_tests) in
    let b : ltb MAX_CYCLES (cycles_of configuration cells) ≡ false = grind (arith, nat_tests) in
    let d : ltb MAX_VARIABLES (cycles_of configuration cells * 2) ≡ false = grind (arith, nat_tests) in
    rw (a, b, d) refl

pub plan_passes : (size : ℕ) (words : List ℕ) (few : size ≤ 20000) (some : 0 < size) → limits.refusal (design size words) configuration ≡ None
plan_passes size words few some =
    let h = few_cells (judgements (design size words) configuration) in
    let n = scanned_here size words few some in
    no_limit (length (cells_of (design size words) configuration)) (omega (arith, h, n, few))

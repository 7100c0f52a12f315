-- The patterns of generated cubes keep the limit of vectors.
use Rattle.std.proofs.Common.{◌≡◌, ℕ, suc, ◌+◌, ◌*◌, ◌/◌, ◌%◌, ◌<◌, ◌≤◌, Bool, true, false, cond, ltb, List, [], ◌∷◌, length, Option, refl, ap, arith}
use Rattle.std.proofs.Math.Nat.{max-le}
use Rattle.std.proofs.lemmas.Bool.Decides.{nat_tests}
use Rattle.std.proofs.lemmas.List.FromFn.{length-map-range_with_len}
use Rattle.std.proofs.lemmas.List.Sums.{sum_by-cons}
use Rattle.std.proofs.lemmas.Nat.{mul-le}
use Rattle.dft_config.specs.Cycles.{part_length}
use Rattle.dft_rules.specs.Rules.{judgements}
use Rattle.dft_stil_text.specs.declared.limits.TheConstants.{MAX_VECTORS}
use Rattle.dft_stitch.specs.Chains.{cells_of, cycles_of, plan_of}
use Rattle.dft_cubes.specs.declared.cube.Cube.{Cube}
use Rattle.dft_cubes.specs.declared.cube.Merged.{Merged}
use Rattle.dft_cubes.specs.Domains.{captures_of, listed}
use Rattle.dft_merge.specs.declared.placed.Placed.{Placed}
use Rattle.dft_merge.specs.Placement.{PlacesAll}
use Rattle.dft_merge.specs.Rows.{CellRows}
use Rattle.dft_vectors.specs.VectorList.{captures_in, vectors_for}
use Rattle.dft_encode.specs.Laws.{vectors_in}
use Rattle.dft_encode.proofs.PlacingLemmas.{place_count}
use Rattle.dft_generate.specs.Configurations.{configuration}
use Rattle.dft_generate_laws.specs.CubeLists.{cube_in, cubes_in}
use Rattle.dft_generate_laws.specs.Designs.{design}
use Rattle.dft_generate_laws.specs.Laws.{PatternsFit}
use Rattle.dft_generate_laws.proofs.Checks.{scanned_here}
use Rattle.dft_generate_laws.proofs.Singles.{AreSingle, patterns_single}
use Rattle.dft_generate_laws.proofs.Plans.{few_cells}

-- no more patterns than cubes
pub all_count : (n : ℕ) (row : CellRows) (window : ℕ) (old new : List Merged) (cubes : List Cube) (placed : List Placed) → PlacesAll n row window old cubes placed new → length new ≤ length old + length cubes
all_count n row window old new [] [] is = let same = ap length is in omega (arith, same)
all_count n row window old new [] (p ∷ placed) is = absurd is
all_count n row window old new (c ∷ cubes) [] is = absurd is
all_count n row window old new (c ∷ cubes) (p ∷ placed) is =
    let one = place_count n row window old is.0 c p is.1.0 in
    let rest = all_count n row window is.0 new cubes placed is.1.1 in
    omega (arith, one, rest)

-- the cycles of a load
part_few : (cells most : ℕ) → cells ≤ most * 16 → part_length cells 16 0 ≤ most
part_few cells most few = by (ltb 0 (cells % 16)) refl
  where
    by : (t : Bool) → ltb 0 (cells % 16) ≡ t → cells / 16 + cond t 1 0 ≤ most
    by true is = let some : 0 < cells % 16 = grind (arith, nat_tests) in omega (arith, few, some)
    by false is = omega (arith, few)

pub cycles_few : (cells : ℕ) → cells ≤ 16240 → cycles_of configuration cells ≤ 1031
cycles_few cells few = max-le {a = 16 + part_length cells 16 0} {b = 8} {k = 1031} (let p = part_few cells 1015 (omega (arith, few)) in omega (arith, p)) (omega arith)

pub cycles_most : (cells : ℕ) → cells ≤ 20000 → cycles_of configuration cells ≤ 1266
cycles_most cells few = max-le {a = 16 + part_length cells 16 0} {b = 8} {k = 1266} (let p = part_few cells 1250 (omega (arith, few)) in omega (arith, p)) (omega arith)

-- each pattern has one capture vector
pub one_each : (cycles : ℕ) (merged : List Merged) → AreSingle merged → vectors_for cycles (captures_in merged) ≡ length merged * suc cycles
one_each cycles [] single = omega arith
one_each cycles (m ∷ merged) single =
    let one = sum_by-cons (λ (count : ℕ). cycles + count) (captures_of m) (captures_in merged) in
    let here : captures_of m ≡ 1 = ap (λ (second : Option ℕ). suc (length (listed second))) (single 0 m refl) in
    let more : suc (length merged) * suc cycles ≡ suc cycles + length merged * suc cycles = grind arith in
    omega (arith, one, here, more, one_each cycles merged (λ p pattern at. single (suc p) pattern at))

-- the vectors of so many patterns
vectors_few : (cycles : ℕ) (merged : List Merged) → AreSingle merged → cycles ≤ 1031 → length merged ≤ 4060 → vectors_in cycles (captures_in merged) ≤ MAX_VECTORS
vectors_few cycles [] single low few = omega arith
vectors_few cycles (m ∷ merged) single low few =
    let product = mul-le (length (m ∷ merged)) (suc cycles) 4060 1032 few (omega (arith, low)) in
    let each = one_each cycles (m ∷ merged) single in
    omega (arith, product, low, each)

pub patterns_fit : PatternsFit
patterns_fit size words is few placing =
    let low = is.low in
    let cells = few_cells (judgements (design size words) configuration) in
    let scanned = scanned_here size words is.high (omega (arith, low)) in
    let count = all_count placing.rows.columns _ configuration.window [] placing.merged (cubes_in size words) placing.placed placing.is in
    let cubes = length-map-range_with_len (cube_in size words) 0 (size / 4) in
    vectors_few (plan_of (design size words) configuration).cycles placing.merged (patterns_single size words placing.rows.columns _ configuration.window placing.placed placing.merged placing.is) (cycles_few (length (cells_of (design size words) configuration)) (omega (arith, cells, scanned, few))) (omega (arith, count, cubes, few))

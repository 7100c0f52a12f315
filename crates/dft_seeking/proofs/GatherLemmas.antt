-- One fault more is gathered.
use Rattle.std.proofs.Common.{ℕ, suc, ◌+◌, ◌≡◌, ◌∙◌, ◌<◌, ◌≤◌, Bool, true, false, List, [], ◌∷◌, ◌++◌, length, flat_map, refl, sym, ap, subst, arith, append_assoc, append-nil, length-append, cond, fold}
use Rattle.std.specs.Prelude.{if◌then◌else◌}
use Rattle.std.specs.List.{count_by}
use Rattle.std.proofs.lemmas.Grind.{flat_map-append}
use Rattle.dft_base.specs.Lexing.{Text}
use Rattle.dft_netlist.specs.Netlist.{Netlist}
use Rattle.dft_config.specs.Config.{Config}
use Rattle.dft_cubes.specs.declared.cube.Cube.{Cube}
use Rattle.dft_report.specs.declared.limits.TheConstants.{MAX_BYTES}
use Rattle.dft_cubes_out.specs.Written.{cube_text, cubes_text}
use Rattle.dft_seek.specs.declared.found.Found.{Found}
use Rattle.dft_seek.specs.declared.found.Found.TheVariants as found
use Rattle.dft_seeking.specs.declared.counting.SeekCounts.{SeekCounts}
use Rattle.dft_seeking.specs.declared.gathering.Gathered.{Gathered}
use Rattle.dft_seeking.specs.declared.kept.Kept.{Kept}
use Rattle.dft_seeking.specs.declared.limits.TheConstants.{MAX_TEXT}
use Rattle.dft_seeking.specs.Told.{Told, counts_of, cubes_by, cubes_in, is_aborted, is_cube, is_untestable}
use Rattle.dft_seeking.specs.Written.{fault_line, fault_lines}
use Rattle.dft_seeking.specs.Gathers.{IsGathered, IsKept}

-- ---- counts

-- one more, or none
abbrev one_if : Bool → ℕ
one_if true = 1
one_if false = 0

-- what is counted behind a number
abbrev counted_on : (test : Told → Bool) → ℕ → List Told → ℕ
counted_on test a told = fold (λ n u. n + cond (test u) 1 0) a told

count_push : (test : Told → Bool) (a : ℕ) (told : List Told) (t : Told) → counted_on test a (told ++ t ∷ []) ≡ counted_on test a told + cond (test t) 1 0
count_push test a [] t = refl
count_push test a (x ∷ told) t = count_push test (a + cond (test x) 1 0) told t

count_more : (test : Told → Bool) (told : List Told) (t : Told) (b : Bool) → test t ≡ b → count_by test (told ++ t ∷ []) ≡ count_by test told + one_if b
count_more test told t true is = count_push test 0 told t ∙ ap (λ (c : Bool). count_by test told + cond c 1 0) is
count_more test told t false is = count_push test 0 told t ∙ ap (λ (c : Bool). count_by test told + cond c 1 0) is

-- what one fault more makes of the counts
abbrev pub counted : SeekCounts → Found → SeekCounts
counted counts (found.Cube cube) = record counts { faults = counts.faults + 1; cubes = counts.cubes + 1 }
counted counts found.NotTestable = record counts { faults = counts.faults + 1; not_testable = counts.not_testable + 1 }
counted counts found.Aborted = record counts { faults = counts.faults + 1; aborted = counts.aborted + 1 }

record Counts (a b : SeekCounts) : Type 0 where
  faults : a.faults ≡ b.faults
  cubes : a.cubes ≡ b.cubes
  not_testable : a.not_testable ≡ b.not_testable
  aborted : a.aborted ≡ b.aborted

same_counts : (a b : SeekCounts) → Counts a b → a ≡ b
same_counts a b same = λ i. record { faults = same.faults i; cubes = same.cubes i; not_testable = same.not_testable i; aborted = same.aborted i }

counts_by : (found : Found) (told : List Told) (t : Told) → t.found ≡ found → counted (counts_of told) found ≡ counts_of (told ++ t ∷ [])
counts_by (found.Cube cube) told t is =
    let a = count_more (λ u. is_cube u.found) told t true (ap is_cube is) in
    let b = count_more (λ u. is_untestable u.found) told t false (ap is_untestable is) in
    let c = count_more (λ u. is_aborted u.found) told t false (ap is_aborted is) in
    let n = length-append told (t ∷ []) in
    same_counts (counted (counts_of told) (found.Cube cube)) (counts_of (told ++ t ∷ [])) (record { faults = omega (arith, n); cubes = omega (arith, a); not_testable = omega (arith, b); aborted = omega (arith, c) })
counts_by found.NotTestable told t is =
    let a = count_more (λ u. is_cube u.found) told t false (ap is_cube is) in
    let b = count_more (λ u. is_untestable u.found) told t true (ap is_untestable is) in
    let c = count_more (λ u. is_aborted u.found) told t false (ap is_aborted is) in
    let n = length-append told (t ∷ []) in
    same_counts (counted (counts_of told) found.NotTestable) (counts_of (told ++ t ∷ [])) (record { faults = omega (arith, n); cubes = omega (arith, a); not_testable = omega (arith, b); aborted = omega (arith, c) })
counts_by found.Aborted told t is =
    let a = count_more (λ u. is_cube u.found) told t false (ap is_cube is) in
    let b = count_more (λ u. is_untestable u.found) told t false (ap is_untestable is) in
    let c = count_more (λ u. is_aborted u.found) told t true (ap is_aborted is) in
    let n = length-append told (t ∷ []) in
    same_counts (counted (counts_of told) found.Aborted) (counts_of (told ++ t ∷ [])) (record { faults = omega (arith, n); cubes = omega (arith, a); not_testable = omega (arith, b); aborted = omega (arith, c) })

pub counts_more : (old new : SeekCounts) (found : Found) (told : List Told) (t : Told) → new ≡ counted old found → t.found ≡ found → old ≡ counts_of told → new ≡ counts_of (told ++ t ∷ [])
counts_more old new found told t is told_as was = is ∙ ap (λ (c : SeekCounts). counted c found) was ∙ counts_by found told t told_as

-- ---- texts

cubes_more : (told : List Told) (t : Told) → cubes_in (told ++ t ∷ []) ≡ cubes_in told ++ cubes_by t.found
cubes_more [] t = append-nil (cubes_by t.found)
cubes_more (x ∷ told) t = ap (λ (cs : List Cube). cubes_by x.found ++ cs) (cubes_more told t) ∙ sym (append_assoc (cubes_by x.found) (cubes_in told) (cubes_by t.found))

pub cube_alone : (n : Netlist) (config : Config) (cube : Cube) → cubes_text n config (cube ∷ []) ≡ cube_text n config cube
cube_alone n config cube = append-nil (cube_text n config cube)

pub all_cubes : (n : Netlist) (config : Config) (told : List Told) (t : Told) → cubes_text n config (cubes_in told) ++ cubes_text n config (cubes_by t.found) ≡ cubes_text n config (cubes_in (told ++ t ∷ []))
all_cubes n config told t = sym (ap (cubes_text n config) (cubes_more told t) ∙ flat_map-append (cube_text n config) (cubes_in told) (cubes_by t.found))

pub all_lines : (n : Netlist) (told : List Told) (t : Told) → fault_lines n told ++ fault_line n t ≡ fault_lines n (told ++ t ∷ [])
all_lines n told t = sym (flat_map-append (fault_line n) told (t ∷ []) ∙ ap (λ (x : Text). fault_lines n told ++ x) (append-nil (fault_line n t)))

-- ---- together

-- what is gathered behind one fault more, from what each part has become
pub gathered_more : (n : Netlist) (config : Config) (t : Told) (old new : Gathered)
    → ((text : Text) → IsKept MAX_TEXT text old.cubes → IsKept MAX_TEXT (text ++ cubes_text n config (cubes_by t.found)) new.cubes)
    → ((text : Text) → IsKept MAX_BYTES text old.lines → IsKept MAX_BYTES (text ++ fault_line n t) new.lines)
    → ((told : List Told) → old.counts ≡ counts_of told → new.counts ≡ counts_of (told ++ t ∷ [])) → (told : List Told) → IsGathered n config told old → IsGathered n config (told ++ t ∷ []) new
gathered_more n config t old new cubes lines counts told is = record {
  cubes = subst (λ (x : Text). IsKept MAX_TEXT x new.cubes) (all_cubes n config told t) (cubes (cubes_text n config (cubes_in told)) is.cubes);
  lines = subst (λ (x : Text). IsKept MAX_BYTES x new.lines) (all_lines n told t) (lines (fault_lines n told) is.lines);
  counts = counts told is.counts;
}

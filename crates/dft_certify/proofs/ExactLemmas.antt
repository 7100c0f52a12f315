-- A report is certified exactly where its lines are certificates.
use Rattle.std.proofs.Common.{ℕ, zero, suc, ◌+◌, ◌<◌, ◌≤◌, ◌≡◌, Bool, true, false, List, [], ◌∷◌, Option, None, Some, refl, sym, ap, subst, arith, ◌∙◌, ◌⊎◌, inl, inr}
use Rattle.std.specs.Prelude.{not}
use Rattle.std.specs.List.{list_all, range_with_len}
use Rattle.std.proofs.lemmas.Option.{none-some, same_Some}
use Rattle.std.proofs.lemmas.Bool.{not-true, and_parts, and_from}
use Rattle.dft_base.proofs.NumberLemmas.{same_or_past}
use Rattle.dft_netlist.specs.declared.ids.InstanceId.{InstanceId}
use Rattle.dft_netlist.specs.Netlist.{Netlist}
use Rattle.dft_config.specs.declared.config.RingConfig.{RingConfig}
use Rattle.dft_cubes.specs.declared.cube.Cube.{Cube}
use Rattle.dft_merge.specs.Rows.{CellRows}
use Rattle.dft_report.specs.declared.report.CubeLine.{CubeLine}
use Rattle.dft_report.specs.declared.report.CubeLine.TheVariants.{Encoded, Unsolvable, Skipped}
use Rattle.dft_report.specs.declared.report.CubeReport.{CubeReport}
use Rattle.dft_report.specs.declared.report.SumLine.{SumLine}
use Rattle.dft_certify.specs.Certifying.{cube_named, entries_refusal, first_line, has_column, is_certificate, lines_refusal, odd_in, or_later, outcome_lines, outcome_refusal, sums_refusal, unless_certified}
use Rattle.dft_certify.specs.Laws.{AllCertified, CertifiedExactly, IsCertified}
use Rattle.dft_certify.proofs.SumLemmas.{are_sums, each_sum, later_none, later_parts, once_sum, passed_sums, sums_pass}

-- ---- columns

off_by : (test : ℕ → Bool) (from c : ℕ) → (from ≡ c) ⊎ (from + 1 ≤ c) → not (test from) ≡ true → (from + 1 ≤ c → test c ≡ false) → test c ≡ false
off_by test from c (inl same) here more = ap test (sym same) ∙ not-true (test from) here
off_by test from c (inr less) here more = more less

all_off : (test : ℕ → Bool) (from count : ℕ) → list_all (λ c. not (test c)) (range_with_len from count) ≡ true → (c : ℕ) → from ≤ c → c < from + count → test c ≡ false
all_off test from zero e c low high = absurd (omega (arith, low, high))
all_off test from (suc count) e c low high =
    let parts = and_parts (not (test from)) (list_all (λ k. not (test k)) (range_with_len (from + 1) count)) e in
    off_by test from c (same_or_past from c low) parts.0 (λ less. all_off test (from + 1) count parts.1 c less (omega (arith, high)))

off_all : (test : ℕ → Bool) (from count : ℕ) → ((c : ℕ) → from ≤ c → c < from + count → test c ≡ false) → list_all (λ c. not (test c)) (range_with_len from count) ≡ true
off_all test from zero off = refl
off_all test from (suc count) off =
    and_from (not (test from)) (list_all (λ c. not (test c)) (range_with_len (from + 1) count)) (ap not (off from (omega arith) (omega arith)))
    (off_all test (from + 1) count (λ c low high. off c (omega (arith, low)) (omega (arith, high))))

-- ---- a cube

unless : (t : Bool) (name : List ℕ) → unless_certified t name ≡ None → t ≡ true
unless true name e = refl
unless false name e = absurd (none-some _ (sym e))

module _ (n : Netlist) (ring : RingConfig) (row : CellRows) (columns : ℕ) where
  certified : (number : ℕ) (name : List ℕ) (cells : List (InstanceId × Bool)) (lines : List SumLine) → or_later (sums_refusal n ring row cells [] (number + 1) lines) (unless_certified (is_certificate n row columns lines) name) ≡ None → IsCertified n ring row columns cells lines
  certified number name cells lines e =
      let parts = later_parts (sums_refusal n ring row cells [] (number + 1) lines) (unless_certified (is_certificate n row columns lines) name) e in
      let are = passed_sums n ring row cells [] (number + 1) lines parts.0 in
      let both = and_parts (odd_in (λ line. line.bit) lines) (list_all (λ column. not (odd_in (has_column n row column) lines)) (range_with_len 0 columns)) (unless (is_certificate n row columns lines) name parts.1) in
      record {
        each = each_sum n ring row cells [] lines are;
        once = once_sum n ring row cells [] lines are;
        even = λ column less. all_off (λ c. odd_in (has_column n row c) lines) 0 columns both.1 column (omega arith) (omega (arith, less));
        odd = both.0;
      }

  certifies : (number : ℕ) (name : List ℕ) (cells : List (InstanceId × Bool)) (lines : List SumLine) → IsCertified n ring row columns cells lines → or_later (sums_refusal n ring row cells [] (number + 1) lines) (unless_certified (is_certificate n row columns lines) name) ≡ None
  certifies number name cells lines is =
      later_none (sums_refusal n ring row cells [] (number + 1) lines) (unless_certified (is_certificate n row columns lines) name)
      (sums_pass n ring row cells [] (number + 1) lines (are_sums n ring row cells [] lines is.each is.once (λ k line cell at named. refl)))
      (ap (λ (t : Bool). unless_certified t name)
      (and_from (odd_in (λ line. line.bit) lines) (list_all (λ column. not (odd_in (has_column n row column) lines)) (range_with_len 0 columns)) is.odd
      (off_all (λ c. odd_in (has_column n row c) lines) 0 columns (λ c low high. is.even c (omega (arith, high))))))

  found_by : (number : ℕ) (name : List ℕ) (lines : List SumLine) (o : Option Cube) → lines_refusal n ring row columns number name lines o ≡ None → (cube : Cube) × (o ≡ Some cube) × IsCertified n ring row columns cube.cells lines
  found_by number name lines None e = absurd (none-some _ (sym e))
  found_by number name lines (Some cube) e = (cube, refl, certified number name cube.cells lines e)

  -- ---- entries

  entry_by : (cubes : List Cube) (number : ℕ) (name : List ℕ) (outcome : CubeLine) (lines : List SumLine) → outcome_refusal n ring row columns cubes number name outcome ≡ None → outcome ≡ Unsolvable lines →
      (cube : Cube) × (cube_named cubes name ≡ Some cube) × IsCertified n ring row columns cube.cells lines
  entry_by cubes number name outcome lines e is = found_by number name lines (cube_named cubes name) (ap (outcome_refusal n ring row columns cubes number name) (sym is) ∙ e)

  all_by : (cubes : List Cube) (number : ℕ) (entries : List CubeReport) → entries_refusal n ring row columns cubes number entries ≡ None → AllCertified n ring row columns cubes entries
  all_by cubes number [] e k entry lines at is = absurd (none-some entry at)
  all_by cubes number (x ∷ entries) e zero entry lines at is =
      let parts = later_parts (outcome_refusal n ring row columns cubes number x.name x.outcome) (entries_refusal n ring row columns cubes (number + outcome_lines x.outcome) entries) e in
      let same : x ≡ entry = same_Some x entry at in
      subst (λ (y : CubeReport). (cube : Cube) × (cube_named cubes y.name ≡ Some cube) × IsCertified n ring row columns cube.cells lines) same
      (entry_by cubes number x.name x.outcome lines parts.0 (ap (λ (y : CubeReport). y.outcome) same ∙ is))
  all_by cubes number (x ∷ entries) e (suc k) entry lines at is =
      let parts = later_parts (outcome_refusal n ring row columns cubes number x.name x.outcome) (entries_refusal n ring row columns cubes (number + outcome_lines x.outcome) entries) e in
      all_by cubes (number + outcome_lines x.outcome) entries parts.1 k entry lines at is

  passes : (cubes : List Cube) (number : ℕ) (name : List ℕ) (outcome : CubeLine) → ((lines : List SumLine) → outcome ≡ Unsolvable lines → (cube : Cube) × (cube_named cubes name ≡ Some cube) × IsCertified n ring row columns cube.cells lines) →
      outcome_refusal n ring row columns cubes number name outcome ≡ None
  passes cubes number name (Encoded pattern) all = refl
  passes cubes number name (Unsolvable lines) all = let it = all lines refl in ap (lines_refusal n ring row columns number name lines) it.1 ∙ certifies number name it.0.cells lines it.2
  passes cubes number name (Skipped cell) all = refl

  by_all : (cubes : List Cube) (number : ℕ) (entries : List CubeReport) → AllCertified n ring row columns cubes entries → entries_refusal n ring row columns cubes number entries ≡ None
  by_all cubes number [] all = refl
  by_all cubes number (x ∷ entries) all =
      later_none (outcome_refusal n ring row columns cubes number x.name x.outcome) (entries_refusal n ring row columns cubes (number + outcome_lines x.outcome) entries)
      (passes cubes number x.name x.outcome (λ lines is. all zero x lines refl is)) (by_all cubes (number + outcome_lines x.outcome) entries (λ k entry lines at is. all (suc k) entry lines at is))

pub certified_exactly : CertifiedExactly
certified_exactly n ring row columns cubes report = (all_by n ring row columns cubes (first_line report) report.cubes, by_all n ring row columns cubes (first_line report) report.cubes)

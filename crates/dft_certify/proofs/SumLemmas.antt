-- Lines that pass are sums of care bits.
use Rattle.std.proofs.Common.{ℕ, zero, suc, ◌+◌, ◌≡◌, ◌==◌, ◌||◌, Bool, true, false, List, [], ◌∷◌, ◌++◌, Option, None, Some, unwrap_or, slice_get, refl, sym, ap, arith, ◌∙◌}
use Rattle.std.specs.Prelude.{◌&&◌, not, if◌then◌else◌}
use Rattle.std.proofs.lemmas.Bool.{eq-eqb, eqb-true, or_parts, not-true, and_parts, and_from, not_from_false, or_from, or_left, or_right}
use Rattle.std.proofs.lemmas.Option.{none-some, same_Some}
use Rattle.dft_base.specs.Solutions.{xor}
use Rattle.dft_base.proofs.BitLemmas.{same_bit, bit_same, or_false, or_assoc}
use Rattle.dft_netlist.specs.declared.ids.InstanceId.{InstanceId}
use Rattle.dft_netlist.specs.Netlist.{Netlist}
use Rattle.dft_config.specs.declared.config.RingConfig.{RingConfig}
use Rattle.dft_merge.specs.Rows.{CellRows}
use Rattle.dft_report.specs.declared.report.SumLine.{SumLine}
use Rattle.dft_report.specs.declared.report.Variable.{Variable}
use Rattle.dft_cube_reports.specs.Outcomes.{variables_of}
use Rattle.dft_certify.specs.declared.error.CertifyError.{CertifyError}
use Rattle.dft_certify.specs.declared.error.CertifyError.TheVariants.{K2}
use Rattle.dft_certify.specs.Certifying.{and_cell, at_cell, has_cell, has_variables, is_care, is_sum, or_later, place_of_line, same_variable, same_variables, scanned_named, sum_refusal, sums_refusal}
use Rattle.dft_certify.specs.Laws.{IsSumOf}

-- ---- variables

same_is : (a b : Variable) → same_variable a b ≡ true → a ≡ b
same_is a b e =
    let both = and_parts (a.channel == b.channel) (a.cycle == b.cycle) e in
    (λ i. record { channel = eqb-true a.channel b.channel both.0 i; cycle = eqb-true a.cycle b.cycle both.1 i })

pub variables_same : (a b : List Variable) → same_variables a b ≡ true → a ≡ b
variables_same [] [] e = refl
variables_same [] (b ∷ others) e = absurd (let f : false ≡ true = e in cc)
variables_same (a ∷ more) [] e = absurd (let f : false ≡ true = e in cc)
variables_same (a ∷ more) (b ∷ others) e =
    let both = and_parts (same_variable a b) (same_variables more others) e in
    (λ i. same_is a b both.0 i ∷ variables_same more others both.1 i)

own_variables : (a : List Variable) → same_variables a a ≡ true
own_variables [] = refl
own_variables (a ∷ more) = and_from (same_variable a a) (same_variables more more) (and_from (a.channel == a.channel) (a.cycle == a.cycle) (eq-eqb a.channel a.channel refl) (eq-eqb a.cycle a.cycle refl)) (own_variables more)

same_variables_of : (a b : List Variable) → a ≡ b → same_variables a b ≡ true
same_variables_of a b e = ap (same_variables a) (sym e) ∙ own_variables a

-- ---- care bits

care_by : (g : InstanceId × Bool) (cells : List (InstanceId × Bool)) (cell : InstanceId) (bit : Bool) (t : Bool) → ((g.0.0 == cell.0) && not (xor g.1 bit)) ≡ t → (t || is_care cells cell bit) ≡ true →
    (is_care cells cell bit ≡ true → (k : ℕ) × (slice_get cells k ≡ Some (cell, bit))) → (k : ℕ) × (slice_get (g ∷ cells) k ≡ Some (cell, bit))
care_by g cells cell bit true is e more =
    let both = and_parts (g.0.0 == cell.0) (not (xor g.1 bit)) is in
    (zero, (λ i. Some (record { 0 = eqb-true g.0.0 cell.0 both.0 i }, same_bit g.1 bit both.1 i)))
care_by g cells cell bit false is e more = let there = more e in (suc there.0, there.1)

care_there : (cells : List (InstanceId × Bool)) (cell : InstanceId) (bit : Bool) → is_care cells cell bit ≡ true → (k : ℕ) × (slice_get cells k ≡ Some (cell, bit))
care_there [] cell bit e = absurd (let f : false ≡ true = e in cc)
care_there (g ∷ cells) cell bit e = care_by g cells cell bit ((g.0.0 == cell.0) && not (xor g.1 bit)) refl e (care_there cells cell bit)

care_at : (cells : List (InstanceId × Bool)) (cell : InstanceId) (bit : Bool) (k : ℕ) → slice_get cells k ≡ Some (cell, bit) → is_care cells cell bit ≡ true
care_at [] cell bit k at = absurd (none-some (cell, bit) at)
care_at (g ∷ cells) cell bit zero at =
    let same : g ≡ (cell, bit) = same_Some g (cell, bit) at in
    or_left ((g.0.0 == cell.0) && not (xor g.1 bit)) (is_care cells cell bit)
    (and_from (g.0.0 == cell.0) (not (xor g.1 bit)) (eq-eqb g.0.0 cell.0 (ap (λ (x : InstanceId × Bool). x.0.0) same)) (ap (λ (x : InstanceId × Bool). not (xor x.1 bit)) same ∙ bit_same bit))
care_at (g ∷ cells) cell bit (suc k) at = or_right ((g.0.0 == cell.0) && not (xor g.1 bit)) (is_care cells cell bit) (care_at cells cell bit k at)

-- ---- cells before

has_push : (cells : List InstanceId) (x cell : InstanceId) → has_cell (cells ++ x ∷ []) cell ≡ (has_cell cells cell || (x.0 == cell.0))
has_push [] x cell = or_false (x.0 == cell.0)
has_push (y ∷ cells) x cell = ap (λ (b : Bool). (y.0 == cell.0) || b) (has_push cells x cell) ∙ sym (or_assoc (y.0 == cell.0) (has_cell cells cell) (x.0 == cell.0))

-- ---- a line

pub later_parts : (a b : Option CertifyError) → or_later a b ≡ None → (a ≡ None) × (b ≡ None)
later_parts None b e = (refl, e)
later_parts (Some x) b e = absurd (none-some x (sym e))

pub later_none : (a b : Option CertifyError) → a ≡ None → b ≡ None → or_later a b ≡ None
later_none a b e f = ap (λ (o : Option CertifyError). or_later o b) e ∙ f

if_none : (t : Bool) (x : CertifyError) → (if t then None else Some x) ≡ None → t ≡ true
if_none true x e = refl
if_none false x e = absurd (none-some x (sym e))

module _ (n : Netlist) (ring : RingConfig) (row : CellRows) (cells : List (InstanceId × Bool)) where
  -- the lines are sums, behind lines of these cells
  pub AreSums : (before : List InstanceId) → List SumLine → Type 0
  AreSums before [] = Unit {0}
  AreSums before (line ∷ lines) = (cell : InstanceId) × (scanned_named n row line.name ≡ Some cell) × (is_sum ring row cells before cell line ≡ true) × AreSums (before ++ cell ∷ []) lines

  passed_by : (before : List InstanceId) (number : ℕ) (line : SumLine) (lines : List SumLine) (o : Option InstanceId) → scanned_named n row line.name ≡ o → at_cell ring row cells before number line o ≡ None → sums_refusal n ring row cells (and_cell before o) (number + 1) lines ≡ None →
      ((later : List InstanceId) → sums_refusal n ring row cells later (number + 1) lines ≡ None → AreSums later lines) → AreSums before (line ∷ lines)
  unfolding AreSums
  passed_by before number line lines None is here rest more = absurd (none-some _ (sym here))
  passed_by before number line lines (Some cell) is here rest more = (cell, is, if_none (is_sum ring row cells before cell line) _ here, more (before ++ cell ∷ []) rest)

  pub passed_sums : (before : List InstanceId) (number : ℕ) (lines : List SumLine) → sums_refusal n ring row cells before number lines ≡ None → AreSums before lines
  unfolding AreSums
  passed_sums before number [] e = tt
  passed_sums before number (line ∷ lines) e =
      let parts = later_parts (sum_refusal n ring row cells before number line) (sums_refusal n ring row cells (and_cell before (scanned_named n row line.name)) (number + 1) lines) e in
      passed_by before number line lines (scanned_named n row line.name) refl parts.0 parts.1 (λ later none. passed_sums later (number + 1) lines none)

  pub sums_pass : (before : List InstanceId) (number : ℕ) (lines : List SumLine) → AreSums before lines → sums_refusal n ring row cells before number lines ≡ None
  unfolding AreSums
  sums_pass before number [] are = refl
  sums_pass before number (line ∷ lines) are =
      later_none (sum_refusal n ring row cells before number line) (sums_refusal n ring row cells (and_cell before (scanned_named n row line.name)) (number + 1) lines)
      (ap (at_cell ring row cells before number line) are.1 ∙ ap (λ (t : Bool). if t then None else Some (K2 (place_of_line number) line.name)) are.2)
      (ap (λ (o : Option InstanceId). sums_refusal n ring row cells (and_cell before o) (number + 1) lines) are.1 ∙ sums_pass (before ++ are.0 ∷ []) (number + 1) lines are.3)

  -- ---- each and once

  pub each_sum : (before : List InstanceId) (lines : List SumLine) → AreSums before lines → (k : ℕ) (line : SumLine) → slice_get lines k ≡ Some line → IsSumOf n ring row cells line
  unfolding AreSums
  each_sum before [] are k line at = absurd (none-some line at)
  each_sum before (x ∷ lines) are zero line at = own (same_Some x line at)
    where
      own : x ≡ line → IsSumOf n ring row cells line
      own same =
          let parts = and_parts (is_care cells are.0 x.bit) (not (has_cell before are.0) && has_variables ring row are.0 x) are.2 in
          let there = care_there cells are.0 x.bit parts.0 in
          let rest = and_parts (not (has_cell before are.0)) (has_variables ring row are.0 x) parts.1 in
          record {
            cell = are.0;
            named = ap (λ (l : SumLine). scanned_named n row l.name) (sym same) ∙ are.1;
            place = there.0;
            care = there.1 ∙ ap (λ (l : SumLine). Some (are.0, l.bit)) same;
            variables = ap (λ (l : SumLine). l.variables) (sym same) ∙ variables_same x.variables (variables_of ring (unwrap_or (row are.0) [])) rest.1;
          }
  each_sum before (x ∷ lines) are (suc k) line at = each_sum (before ++ are.0 ∷ []) lines are.3 k line at

  -- no cell of before is named
  apart_before : (before : List InstanceId) (lines : List SumLine) → AreSums before lines → (k : ℕ) (line : SumLine) (cell : InstanceId) → slice_get lines k ≡ Some line → scanned_named n row line.name ≡ Some cell → has_cell before cell ≡ false
  unfolding AreSums
  apart_before before [] are k line cell at is = absurd (none-some line at)
  apart_before before (x ∷ lines) are zero line cell at is =
      let parts = and_parts (is_care cells are.0 x.bit) (not (has_cell before are.0) && has_variables ring row are.0 x) are.2 in
      let rest = and_parts (not (has_cell before are.0)) (has_variables ring row are.0 x) parts.1 in
      let same : are.0 ≡ cell = same_Some are.0 cell (sym are.1 ∙ ap (λ (l : SumLine). scanned_named n row l.name) (same_Some x line at) ∙ is) in
      ap (has_cell before) (sym same) ∙ not-true (has_cell before are.0) rest.0
  apart_before before (x ∷ lines) are (suc k) line cell at is =
      (or_parts (has_cell before cell) (are.0.0 == cell.0) (sym (has_push before are.0 cell) ∙ apart_before (before ++ are.0 ∷ []) lines are.3 k line cell at is)).0

  not_later : (before : List InstanceId) (x : SumLine) (lines : List SumLine) → AreSums before (x ∷ lines) → (k : ℕ) (b : SumLine) → slice_get lines k ≡ Some b → scanned_named n row x.name ≡ scanned_named n row b.name → ⊥
  unfolding AreSums
  not_later before x lines are k b at same =
      let off = or_parts (has_cell before are.0) (are.0.0 == are.0.0) (sym (has_push before are.0 are.0) ∙ apart_before (before ++ are.0 ∷ []) lines are.3 k b are.0 at (sym same ∙ are.1)) in
      let f : true ≡ false = sym (eq-eqb are.0.0 are.0.0 refl) ∙ off.1 in
      cc

  pub once_sum : (before : List InstanceId) (lines : List SumLine) → AreSums before lines → (j k : ℕ) (a b : SumLine) → slice_get lines j ≡ Some a → slice_get lines k ≡ Some b → scanned_named n row a.name ≡ scanned_named n row b.name → j ≡ k
  unfolding AreSums
  once_sum before [] are j k a b at_j at_k same = absurd (none-some a at_j)
  once_sum before (x ∷ lines) are zero zero a b at_j at_k same = refl
  once_sum before (x ∷ lines) are zero (suc k) a b at_j at_k same = absurd (not_later before x lines are k b at_k (ap (λ (l : SumLine). scanned_named n row l.name) (same_Some x a at_j) ∙ same))
  once_sum before (x ∷ lines) are (suc j) zero a b at_j at_k same = absurd (not_later before x lines are j a at_j (ap (λ (l : SumLine). scanned_named n row l.name) (same_Some x b at_k) ∙ sym same))
  once_sum before (x ∷ lines) are (suc j) (suc k) a b at_j at_k same = ap suc (once_sum (before ++ are.0 ∷ []) lines are.3 j k a b at_j at_k same)

  -- and back
  number_of : (a b : InstanceId) → a ≡ b → a.0 ≡ b.0
  number_of a b same = ap (λ (c : InstanceId). c.0) same

  other_cell : (a b : ℕ) (t : Bool) → (a == b) ≡ t → (a ≡ b → ⊥) → t ≡ false
  other_cell a b true is apart = absurd (apart (eqb-true a b is))
  other_cell a b false is apart = refl

  pub are_sums : (before : List InstanceId) (lines : List SumLine) → ((k : ℕ) (line : SumLine) → slice_get lines k ≡ Some line → IsSumOf n ring row cells line) →
      ((j k : ℕ) (a b : SumLine) → slice_get lines j ≡ Some a → slice_get lines k ≡ Some b → scanned_named n row a.name ≡ scanned_named n row b.name → j ≡ k) →
      ((k : ℕ) (line : SumLine) (cell : InstanceId) → slice_get lines k ≡ Some line → scanned_named n row line.name ≡ Some cell → has_cell before cell ≡ false) → AreSums before lines
  unfolding AreSums
  are_sums before [] each once apart = tt
  are_sums before (x ∷ lines) each once apart =
      let here = each zero x refl in (
        here.cell,
        here.named,
        and_from (is_care cells here.cell x.bit) (not (has_cell before here.cell) && has_variables ring row here.cell x) (care_at cells here.cell x.bit here.place here.care)
            (and_from (not (has_cell before here.cell)) (has_variables ring row here.cell x) (not_from_false (has_cell before here.cell) (apart zero x here.cell refl here.named))
            (same_variables_of x.variables (variables_of ring (unwrap_or (row here.cell) [])) here.variables)),
        are_sums (before ++ here.cell ∷ []) lines (λ k line at. each (suc k) line at) (λ j k a b at_j at_k same. (let e = once (suc j) (suc k) a b at_j at_k same in omega (arith, e)))
            (λ k line cell at is. has_push before here.cell cell
            ∙ or_from (has_cell before cell) (here.cell.0 == cell.0) (apart (suc k) line cell at is)
            (other_cell here.cell.0 cell.0 (here.cell.0 == cell.0) refl (λ same.
            let cells_same : here.cell ≡ cell = (λ i. record { 0 = same i }) in
            let e : zero ≡ suc k = once zero (suc k) x line refl at (here.named ∙ ap Some cells_same ∙ sym is) in
            omega (arith, e)))),
      )

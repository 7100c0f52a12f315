-- A lane through the vectors.
use Rattle.std.proofs.Common.{ℕ, suc, Bool, true, false, ◌≡◌, ◌<◌, ◌+◌, inl, inr, List, [], ◌∷◌, length, drop, add-one, ◌≤◌, refl, sym, ap, subst, ◌∙◌, Option, None, Some}
use Rattle.std.specs.Prelude.{if◌then◌else◌}
use Rattle.std.proofs.lemmas.List.{drop_all}
use Rattle.std.proofs.lemmas.Bool.{cases_Bool}
use Rattle.dft_base.specs.declared.tri.Tri.{Tri}
use Rattle.dft_base.specs.declared.tri.Tri.TheVariants.{Zero, One, Unknown}
use Rattle.dft_base.proofs.BitLemmas.{true_false}
use Rattle.dft_lanes.specs.declared.wide.Wide.{Wide}
use Rattle.dft_behavior.specs.Logic.{Logic}
use Rattle.dft_behavior.specs.Runs.{Vector}
use Rattle.dft_abstract.specs.Cycle.{Round, IsRound, after_round, all_unknown}
use Rattle.dft_logic.specs.Circuit.{Circuit, logic_at, flag_at}
use Rattle.dft_logic.specs.Values.{value_at}
use Rattle.dft_evaluator.specs.Wides.{value_in, values_in}
use Rattle.dft_replay.specs.declared.verdict.Unknowns.TheVariants.{Skip}
use Rattle.dft_replay.specs.declared.verdict.Verdict.{Verdict}
use Rattle.dft_replay.specs.declared.verdict.Verdict.TheVariants.{Pass, Mismatch}
use Rattle.dft_patterns.specs.declared.act.Act.{Act}
use Rattle.dft_replay.specs.Rows.{Compared, Row, row_of, rows_from}
use Rattle.dft_replay.specs.Verdicts.{Stops, EndsFrom, bits_decide}
use Rattle.dft_grade.specs.declared.found.Grade.{Grade}
use Rattle.dft_grade.specs.declared.found.Grade.TheVariants.{Detected, Undetected}
use Rattle.dft_fault_laws.specs.Stuck.{with_fault}
use Rattle.dft_fault_lanes.specs.declared.clamps.Clamp.{Clamp}
use Rattle.dft_fault_lanes.specs.Lanes.{IsStuck, vector_of}
use Rattle.dft_fault_lanes.specs.Pulses.{IsStrobeOf, ArePulsed}
use Rattle.dft_fault_lanes.specs.Compares.{is_one, found_at, IsDecided, AreCompared, AreMarked}
use Rattle.dft_fault_lanes.specs.Groups.{IsLaneStep, AreSteps, HasRowsGrade, LaneHolds, IsFresh, AreGraded}

-- ---- a vector

pub one_is : (t : Tri) → is_one t ≡ true → t ≡ One
one_is One is = refl
one_is Zero is = absurd (let f : ⊥ = cc in f)
one_is Unknown is = absurd (let f : ⊥ = cc in f)

pub lanes_step : (x : Circuit) (needs : ℕ → Bool) (clamps : List (Option Clamp)) (row : Row) (v : ℕ) (ports : List Tri) (pulsed : List Bool) (before held strobe after : List Wide) (live middle last : Wide) (found found_now : List (Option Grade)) →
    ((net : ℕ) → value_at ports net ≡ row.vector.ports net) → ((net : ℕ) → flag_at pulsed net ≡ row.vector.pulsed net) →
    ((values all : ℕ → Tri) → ((net : ℕ) → needs net ≡ true → values net ≡ all net) → bits_decide Skip values v row.compared ≡ bits_decide Skip all v row.compared) →
    IsStrobeOf x needs ports clamps before held strobe → ArePulsed x needs ports pulsed clamps strobe held after live middle →
    AreCompared strobe v row.compared middle found last found_now → AreSteps x clamps row v before after live last found found_now
lanes_step x needs clamps row v ports pulsed before held strobe after live middle last found found_now sets flags decides at pulse bits lane stuck value within is = elim (cases_Bool (is_one (value_in middle lane))) [
  | inl up ↦ (
      let l : Logic = with_fault stuck value (logic_at x) in
      let went = pulse before lane stuck value at within is (one_is (value_in middle lane) up) in
      let same : vector_of ports pulsed ≡ row.vector = λ t. record { ports = λ net. sets net t; pulsed = λ net. flags net t } in
      let r : Round = went.1.0 in
      let R : Vector → Type 0 = λ w. IsRound l w (values_in before lane) r × ((c : ℕ) → after_round l w (values_in before lane) r c ≡ values_in after lane c) in
      let round = subst R same (went.1.1.1.0, went.1.1.1.1) in
      inr (ap is_one went.0, (r, (round.0, (round.1, decided_as (values_in strobe lane) r.strobe v row.compared (is_one (value_in last lane)) (found_at found lane) (found_at found_now lane) (decides (values_in strobe lane) r.strobe went.1.1.0) (bits.lives lane within up))))))
  | inr down ↦ inl (bits.rests lane within down)
] where
  decided_as : (values all : ℕ → Tri) (v : ℕ) (compared : List Compared) (live : Bool) (old new : Option Grade) → bits_decide Skip values v compared ≡ bits_decide Skip all v compared → IsDecided values v compared live old new → IsDecided all v compared live old new
  decided_as values all v compared live old new same (inl none) = inl (sym same ∙ none.0, none.1)
  decided_as values all v compared live old new same (inr some) = inr (some.0, (sym same ∙ some.1.0, some.1.1))

-- ---- one lane, a row more

pub none_some : (o : Option Grade) (grade : Grade) → o ≡ None → o ≡ Some grade → ⊥
none_some o grade is_none is_some = let e : None ≡ Some grade = sym is_none ∙ is_some in let f : ⊥ = cc in f

same_grade : (l : Logic) (rows : List Row) (o : Option Grade) (mine grade : Grade) → o ≡ Some mine → o ≡ Some grade → HasRowsGrade l rows mine → HasRowsGrade l rows grade
same_grade l rows o mine grade is its has = subst (HasRowsGrade l rows) (let e : Some mine ≡ Some grade = sym is ∙ its in let f : mine ≡ grade = cc in f) has

pub lane_more : (l : Logic) (rows : List Row) (x : Row) (xs : List Row) (v : ℕ) (old new : ℕ → Tri) (live live_now : Bool) (found found_now : Option Grade) → LaneHolds l rows (x ∷ xs) v old live found → IsLaneStep l x v old new live live_now found found_now →
    LaneHolds l rows xs (suc v) new live_now found_now
lane_more l rows x xs v old new live live_now found found_now holds (inl rests) = record {
  open_yet = λ up. absurd (true_false live_now up rests.0);
  goes_on = λ up. absurd (true_false live_now up rests.0);
  graded = λ grade is. holds.graded grade (sym rests.1 ∙ is);
}
lane_more l rows x xs v old new live live_now found found_now holds (inr (was, (r, (round, (after, inl none))))) =
    let on = holds.goes_on was in
    let none_yet : found_now ≡ None = none.1.1 ∙ holds.open_yet was in
    let after_is : new ≡ after_round l x.vector old r = λ t c. sym (after c) t in
    record {
      open_yet = λ up. none_yet;
      goes_on = λ up. (
        on.0 + length x.compared,
        λ verdict ends. on.1 verdict (
          r,
          (
            round,
            subst (λ (o : Option Verdict). Stops o verdict (EndsFrom Skip l (after_round l x.vector old r) (suc v) (on.0 + length x.compared) xs verdict)) (sym none.0)
                (subst (λ (f : ℕ → Tri). EndsFrom Skip l f (suc v) (on.0 + length x.compared) xs verdict) after_is ends),
          ),
        ),
      );
      graded = λ grade is. absurd (none_some found_now grade none_yet is);
    }
lane_more l rows x xs v old new live live_now found found_now holds (inr (was, (r, (round, (after, inr decided))))) =
    let on = holds.goes_on was in
    let verdict : Verdict = Mismatch v decided.0 in
    let ends : HasRowsGrade l rows (Detected v decided.0) = on.1 verdict (
      r,
      (
        round,
        subst (λ (o : Option Verdict). Stops o verdict (EndsFrom Skip l (after_round l x.vector old r) (suc v) (on.0 + length x.compared) xs verdict)) (sym decided.1.0) refl,
      ),
    ) in
    record {
      open_yet = λ up. absurd (true_false live_now up decided.1.1.0);
      goes_on = λ up. absurd (true_false live_now up decided.1.1.0);
      graded = λ grade is. same_grade l rows found_now (Detected v decided.0) grade decided.1.1.1 is ends;
    }

-- ---- the start and the end

pub lane_starts : (l : Logic) (rows : List Row) (old : ℕ → Tri) → ((c : ℕ) → old c ≡ Unknown) → LaneHolds l rows rows 0 old true None
lane_starts l rows old unknown =
    let same : old ≡ all_unknown = λ t c. unknown c t in
    record {
      open_yet = λ up. refl;
      goes_on = λ up. (0, λ verdict ends. subst (λ (f : ℕ → Tri). EndsFrom Skip l f 0 0 rows verdict) same ends);
      graded = λ grade is. absurd (none_some None grade refl is);
    }

pub lane_ends : (l : Logic) (rows : List Row) (v : ℕ) (old : ℕ → Tri) (live : Bool) (found found_now : Option Grade) → LaneHolds l rows [] v old live found → found_now ≡ (if live then Some Undetected else found) → (grade : Grade) → found_now ≡ Some grade → HasRowsGrade l rows grade
lane_ends l rows v old true found found_now holds is grade its =
    let on = holds.goes_on refl in
    same_grade l rows found_now Undetected grade is its (on.0, on.1 (Pass on.0) refl)
lane_ends l rows v old false found found_now holds is grade its = holds.graded grade (sym is ∙ its)

-- ---- all lanes, a vector more

-- each lane holds before a vector
pub record Running (x : Circuit) (clamps : List (Option Clamp)) (nets : List ℕ) (vectors : List (List Act)) (ports : List Tri) (cells : List Wide) (live : Wide) (found : List (Option Grade)) (v : ℕ) : Type 0 where
  pub lanes : (lane stuck : ℕ) (value : Bool) → lane < 512 → IsStuck clamps lane stuck value →
      LaneHolds (with_fault stuck value (logic_at x)) (rows_from nets all_unknown vectors) (rows_from nets (value_at ports) (drop v vectors)) v (values_in cells lane) (is_one (value_in live lane)) (found_at found lane)

pub running_starts : (x : Circuit) (clamps : List (Option Clamp)) (nets : List ℕ) (vectors : List (List Act)) (ports : List Tri) (cells : List Wide) (live : Wide) (found : List (Option Grade)) → IsFresh ports cells live found →
    Running x clamps nets vectors ports cells live found 0
running_starts x clamps nets vectors ports cells live found fresh = record {
  lanes = λ lane stuck value within is. (
      let l : Logic = with_fault stuck value (logic_at x) in
      let rows : List Row = rows_from nets all_unknown vectors in
      let set : all_unknown ≡ value_at ports = λ t net. sym (fresh.ports net) t in
      let P : Bool → Option Grade → Type 0 = λ b o. LaneHolds l rows (rows_from nets (value_at ports) vectors) 0 (values_in cells lane) b o in
      let start : LaneHolds l rows rows 0 (values_in cells lane) true None = lane_starts l rows (values_in cells lane) (λ c. fresh.cells lane c within) in
      let again : P true None = subst (λ (f : ℕ → Tri). LaneHolds l rows (rows_from nets f vectors) 0 (values_in cells lane) true None) set start in
      subst (λ (o : Option Grade). P (is_one (value_in live lane)) o) (sym (fresh.found lane)) (subst (λ (b : Bool). P b None) (sym (fresh.live lane within)) again)
      );
}

pub running_more : (x : Circuit) (clamps : List (Option Clamp)) (nets : List ℕ) (vectors : List (List Act)) (ports set : List Tri) (cells new : List Wide) (live live_now : Wide) (found found_now : List (Option Grade)) (v : ℕ) (acts : List Act) → drop v vectors ≡ acts ∷ drop (v + 1) vectors →
    ((net : ℕ) → value_at set net ≡ (row_of nets (value_at ports) acts).vector.ports net) → AreSteps x clamps (row_of nets (value_at ports) acts) v cells new live live_now found found_now → Running x clamps nets vectors ports cells live found v →
    Running x clamps nets vectors set new live_now found_now (v + 1)
running_more x clamps nets vectors ports set cells new live live_now found found_now v acts front sets steps running = record {
  lanes = λ lane stuck value within is. (
      let l : Logic = with_fault stuck value (logic_at x) in
      let rows : List Row = rows_from nets all_unknown vectors in
      let row : Row = row_of nets (value_at ports) acts in
      let here : LaneHolds l rows (row ∷ rows_from nets row.vector.ports (drop (v + 1) vectors)) v (values_in cells lane) (is_one (value_in live lane)) (found_at found lane) =
      subst (λ (vs : List (List Act)). LaneHolds l rows (rows_from nets (value_at ports) vs) v (values_in cells lane) (is_one (value_in live lane)) (found_at found lane)) front (running.lanes lane stuck value within is) in
      let more = lane_more l rows row (rows_from nets row.vector.ports (drop (v + 1) vectors)) v (values_in cells lane) (values_in new lane) (is_one (value_in live lane)) (is_one (value_in live_now lane)) (found_at found lane) (found_at found_now lane) here
      (steps lane stuck value within is) in
      let told : row.vector.ports ≡ value_at set = λ t net. sym (sets net) t in
      let next : suc v ≡ v + 1 = sym (add-one v) in
      subst (λ (k : ℕ). LaneHolds l rows (rows_from nets (value_at set) (drop (v + 1) vectors)) k (values_in new lane) (is_one (value_in live_now lane)) (found_at found_now lane)) next
      (subst (λ (f : ℕ → Tri). LaneHolds l rows (rows_from nets f (drop (v + 1) vectors)) (suc v) (values_in new lane) (is_one (value_in live_now lane)) (found_at found_now lane)) told more)
      );
}

pub running_stops : (x : Circuit) (clamps : List (Option Clamp)) (nets : List ℕ) (vectors : List (List Act)) (ports : List Tri) (cells : List Wide) (live : Wide) (found : List (Option Grade)) (v : ℕ) → Running x clamps nets vectors ports cells live found v →
    AreGraded x clamps (rows_from nets all_unknown vectors) found
running_stops x clamps nets vectors ports cells live found v running lane stuck value grade within is its = (running.lanes lane stuck value within is).graded grade its

pub running_ends : (x : Circuit) (clamps : List (Option Clamp)) (nets : List ℕ) (vectors : List (List Act)) (ports : List Tri) (cells : List Wide) (live live_now : Wide) (found found_now : List (Option Grade)) (v : ℕ) → length vectors ≤ v → Running x clamps nets vectors ports cells live found v →
    AreMarked Undetected (λ lane. is_one (value_in live lane)) live found live_now found_now → AreGraded x clamps (rows_from nets all_unknown vectors) found_now
running_ends x clamps nets vectors ports cells live live_now found found_now v past running marked lane stuck value grade within is its =
    let l : Logic = with_fault stuck value (logic_at x) in
    let rows : List Row = rows_from nets all_unknown vectors in
    let here : LaneHolds l rows [] v (values_in cells lane) (is_one (value_in live lane)) (found_at found lane) =
    subst (λ (vs : List (List Act)). LaneHolds l rows (rows_from nets (value_at ports) vs) v (values_in cells lane) (is_one (value_in live lane)) (found_at found lane)) (drop_all v vectors past) (running.lanes lane stuck value within is) in
    lane_ends l rows v (values_in cells lane) (is_one (value_in live lane)) (found_at found lane) (found_at found_now lane) here (marked.finds lane within) grade its

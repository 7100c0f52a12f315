-- Nets that are seen through cells have what their drivers give them.
use Rattle.std.proofs.Common.{ℕ, zero, suc, Bool, true, false, ◌≡◌, ◌<◌, ◌≤◌, ◌+◌, inl, inr, List, [], ◌∷◌, length, refl, sym, ap, arith, ◌∙◌, true≢false, Option, None, Some}
use Rattle.std.specs.Prelude.{nat_le, if◌then◌else◌}
use Rattle.std.proofs.lemmas.List.{get_or_past}
use Rattle.std.proofs.lemmas.Bool.{cases_Bool, or_left, or_right}
use Rattle.std.proofs.lemmas.Bool.Decides.{leb_tells}
use Rattle.dft_base.proofs.BitLemmas.{neither}
use Rattle.dft_base.specs.declared.tri.Tri.{Tri}
use Rattle.dft_lanes.specs.declared.wide.Wide.{Wide}
use Rattle.dft_behavior.specs.Logic.{reads}
use Rattle.dft_behavior.specs.Settled.{inverse, value_given}
use Rattle.dft_evaluator.specs.Wides.{value_in, values_in, wide_at, unknown_wide}
use Rattle.dft_logic.specs.declared.circuit.Op.{Op}
use Rattle.dft_logic.specs.declared.circuit.Op.TheVariants.{Input, Clock, Gate, Joined, Flop, Lockup, Free}
use Rattle.dft_logic.specs.Circuit.{Circuit, logic_at, flag_at, op_at, meaning}
use Rattle.dft_takings.specs.Needs.{HasAll, IsStrobeClosed, still_from}
use Rattle.dft_logic.specs.Values.{value_at}
use Rattle.dft_takings.proofs.PlanLemmas.{needs_closed, or_only}
use Rattle.dft_takings.proofs.ReadLemmas.{set_agrees, still_agrees}
use Rattle.dft_takings.proofs.ListLemmas.{wider}
use Rattle.dft_fault_lanes.specs.declared.clamps.Clamp.{Clamp}
use Rattle.dft_fault_lanes.specs.Lanes.{Situation, AreSettledOn, clamp_at, clamped}
use Rattle.dft_fault_lanes.specs.Plans.{needs_of}
use Rattle.dft_fault_lanes.specs.Pulses.{at_levels}
use Rattle.dft_fault_lanes.specs.Seen.{shown_within, cell_shown, seen_at, seen_from, seen, is_some, knows}

-- ---- what a net has

seen_get : (ops : List Op) (clamps : List (Option Clamp)) (marked : List Bool) (held : List Wide) (net : ℕ) (wides : List Wide) (k : ℕ) → k < length wides →
    wide_at (seen_from ops clamps marked held net wides) k ≡ seen_at (flag_at marked (net + k)) (cell_shown ops clamps (net + k)) held (wide_at wides k)
seen_get ops clamps marked held net [] k less = absurd (omega arith)
seen_get ops clamps marked held net (w ∷ ws) zero less = let e : net ≡ net + 0 = omega arith in ap (λ (n : ℕ). seen_at (flag_at marked n) (cell_shown ops clamps n) held w) e
seen_get ops clamps marked held net (w ∷ ws) (suc k) less =
    let e : suc net + k ≡ net + suc k = omega arith in
    seen_get ops clamps marked held (suc net) ws k (omega arith) ∙ ap (λ (n : ℕ). seen_at (flag_at marked n) (cell_shown ops clamps n) held (wide_at ws k)) e

seen_past : (ops : List Op) (clamps : List (Option Clamp)) (marked : List Bool) (held : List Wide) (net : ℕ) (wides : List Wide) (k : ℕ) → length wides ≤ k → wide_at (seen_from ops clamps marked held net wides) k ≡ unknown_wide
seen_past ops clamps marked held net [] k far = refl
seen_past ops clamps marked held net (w ∷ ws) zero far = absurd (omega arith)
seen_past ops clamps marked held net (w ∷ ws) (suc k) far = seen_past ops clamps marked held (suc net) ws k (omega arith)

seen_is : (ops : List Op) (clamps : List (Option Clamp)) (marked : List Bool) (held wides : List Wide) (k : ℕ) → k < length wides → wide_at (seen ops clamps marked held wides) k ≡ seen_at (flag_at marked k) (cell_shown ops clamps k) held (wide_at wides k)
seen_is ops clamps marked held wides k less =
    let e : 0 + k ≡ k = omega arith in
    seen_get ops clamps marked held 0 wides k less ∙ ap (λ (n : ℕ). seen_at (flag_at marked n) (cell_shown ops clamps n) held (wide_at wides k)) e

-- a marked net has what it was settled to
pub marked_seen : (ops : List Op) (clamps : List (Option Clamp)) (marked : List Bool) (held wides : List Wide) (k : ℕ) → length wides ≡ length ops → needs_of (length ops) marked k ≡ true →
    wide_at (seen ops clamps marked held wides) k ≡ wide_at wides k
marked_seen ops clamps marked held wides k size need = elim (leb_tells (length ops) k) [
  | inl far ↦ (let out : length wides ≤ k = omega (arith, far.1, size) in seen_past ops clamps marked held 0 wides k out ∙ sym (get_or_past wides k unknown_wide out))
  | inr near ↦ seen_is ops clamps marked held wides k (omega (arith, near.1, size))
      ∙ ap (λ (b : Bool). seen_at b (cell_shown ops clamps k) held (wide_at wides k)) (or_only (flag_at marked k) (nat_le (length ops) k) near.0 need)
]

-- ---- a net that shows a cell

some_is : (o : Option ℕ) → is_some o ≡ true → (c : ℕ) × (o ≡ Some c)
some_is None is = absurd (true≢false (sym is))
some_is (Some c) is = (c, refl)

is_there : (o : Option ℕ) (c : ℕ) → o ≡ Some c → is_some o ≡ true
is_there o c is = ap is_some is

none_shown : (c : ℕ) → None ≡ Some c → ⊥
none_shown c is = let f : ⊥ = cc in f

same_shown : (instance c : ℕ) → Some instance ≡ Some c → instance ≡ c
same_shown instance c is = let e : instance ≡ c = cc in e

flop_given : (inverted : Bool) (instance c : ℕ) (flops : ℕ → Tri) (turned : Tri) → (if inverted then None else Some instance) ≡ Some c → (if inverted then turned else flops instance) ≡ flops c
flop_given true instance c flops turned is = absurd (none_shown c is)
flop_given false instance c flops turned is = ap flops (same_shown instance c is)

given_shown : (clamp : Option Clamp) (op : Op) (c lane net : ℕ) (level : ℕ → Bool) (ports flops values : ℕ → Tri) → shown_within clamp op ≡ Some c → clamped clamp lane (value_given (still_from level ports flops values) values net (meaning op)) ≡ flops c
given_shown (Some b) op c lane net level ports flops values is = absurd (none_shown c is)
given_shown None Input c lane net level ports flops values is = absurd (none_shown c is)
given_shown None Clock c lane net level ports flops values is = absurd (none_shown c is)
given_shown None (Gate kind inputs) c lane net level ports flops values is = absurd (none_shown c is)
given_shown None (Joined source) c lane net level ports flops values is = absurd (none_shown c is)
given_shown None (Flop instance inverted) c lane net level ports flops values is = flop_given inverted instance.0 c flops (inverse (flops instance.0)) is
given_shown None (Lockup instance domain high source) c lane net level ports flops values is = absurd (none_shown c is)
given_shown None Free c lane net level ports flops values is = absurd (none_shown c is)

no_reads : (needs : ℕ → Bool) (clamp : Option Clamp) (op : Op) (c : ℕ) → shown_within clamp op ≡ Some c → HasAll needs (reads (meaning op))
no_reads needs (Some b) op c is = absurd (none_shown c is)
no_reads needs None Input c is = tt
no_reads needs None Clock c is = tt
no_reads needs None (Gate kind inputs) c is = absurd (none_shown c is)
no_reads needs None (Joined source) c is = absurd (none_shown c is)
no_reads needs None (Flop instance inverted) c is = tt
no_reads needs None (Lockup instance domain high source) c is = absurd (none_shown c is)
no_reads needs None Free c is = tt

-- ---- all nets that are known

pub needs_known : (ops : List Op) (clamps : List (Option Clamp)) (marked : List Bool) (k : ℕ) → needs_of (length ops) marked k ≡ true → knows ops clamps marked k ≡ true
needs_known ops clamps marked k need = or_right (is_some (cell_shown ops clamps k)) (needs_of (length ops) marked k) need

pub shown_known : (ops : List Op) (clamps : List (Option Clamp)) (marked : List Bool) (k c : ℕ) → cell_shown ops clamps k ≡ Some c → knows ops clamps marked k ≡ true
shown_known ops clamps marked k c is = or_left (is_some (cell_shown ops clamps k)) (needs_of (length ops) marked k) (is_there (cell_shown ops clamps k) c is)

pub knows_closed : (x : Circuit) (clamps : List (Option Clamp)) (marked : List Bool) → IsStrobeClosed (logic_at x) (flag_at marked) → IsStrobeClosed (logic_at x) (knows x.ops clamps marked)
unfolding logic_at
knows_closed x clamps marked closed k know = elim (cases_Bool (needs_of (length x.ops) marked k)) [
  | inl need ↦ wider (needs_of (length x.ops) marked) (knows x.ops clamps marked) (reads (meaning (op_at x.ops k))) (needs_known x.ops clamps marked) (needs_closed x marked closed k need)
  | inr out ↦ (let shown = some_is (cell_shown x.ops clamps k) (or_only (is_some (cell_shown x.ops clamps k)) (needs_of (length x.ops) marked k) out know) in
      no_reads (knows x.ops clamps marked) (clamp_at clamps k) (op_at x.ops k) shown.0 shown.1)
]

-- what is settled of the marked nets is settled of all nets that are known
pub knows_settled : (x : Circuit) (ports : List Tri) (levels : List Bool) (held : List Wide) (clamps : List (Option Clamp)) (marked : List Bool) (wides : List Wide) → length wides ≡ length x.ops → IsStrobeClosed (logic_at x) (flag_at marked) →
    AreSettledOn x.ops (at_levels ports levels held clamps) (needs_of (length x.ops) marked) wides → AreSettledOn x.ops (at_levels ports levels held clamps) (knows x.ops clamps marked) (seen x.ops clamps marked held wides)
unfolding logic_at
knows_settled x ports levels held clamps marked wides size closed settled lane k within know =
    let ops : List Op = x.ops in
    let s : Situation = at_levels ports levels held clamps in
    let needs : ℕ → Bool = needs_of (length ops) marked in
    let v : ℕ → Tri = values_in wides lane in
    let w : ℕ → Tri = values_in (seen ops clamps marked held wides) lane in
    let same : (net : ℕ) → needs net ≡ true → v net ≡ w net = λ net need. sym (ap (λ (u : Wide). value_in u lane) (marked_seen ops clamps marked held wides net size need)) in
    elim (cases_Bool (needs k)) [
      | inl need ↦ sym (same k need) ∙ settled lane k within need
          ∙ ap (clamped (clamp_at clamps k) lane)
          (still_agrees (flag_at levels) (value_at ports) (values_in held lane) v w k (meaning (op_at ops k)) (set_agrees needs v w (reads (meaning (op_at ops k))) (needs_closed x marked closed k need) same))
      | inr out ↦ (let shown = some_is (cell_shown ops clamps k) (or_only (is_some (cell_shown ops clamps k)) (needs k) out know) in
          let near : k < length wides = elim (leb_tells (length ops) k) [
            | inl far ↦ absurd (true≢false (sym (or_right (flag_at marked k) (nat_le (length ops) k) far.0) ∙ out))
            | inr live ↦ omega (arith, live.1, size)
          ] in
          let wide : wide_at (seen ops clamps marked held wides) k ≡ wide_at held shown.0 = seen_is ops clamps marked held wides k near
          ∙ ap (λ (b : Bool). seen_at b (cell_shown ops clamps k) held (wide_at wides k)) (neither (flag_at marked k) (nat_le (length ops) k) out)
          ∙ ap (λ (o : Option ℕ). seen_at false o held (wide_at wides k)) shown.1 in
          ap (λ (u : Wide). value_in u lane) wide ∙ sym (given_shown (clamp_at clamps k) (op_at ops k) shown.0 lane k (flag_at levels) (value_at ports) (values_in held lane) w shown.1))
    ]

-- a net that shows a cell has the cell's value
pub shows_held : (x : Circuit) (ports : List Tri) (levels : List Bool) (held : List Wide) (clamps : List (Option Clamp)) (marked : List Bool) (wides : List Wide) (lane k c : ℕ) → lane < 512 → cell_shown x.ops clamps k ≡ Some c →
    AreSettledOn x.ops (at_levels ports levels held clamps) (knows x.ops clamps marked) wides → values_in wides lane k ≡ values_in held lane c
shows_held x ports levels held clamps marked wides lane k c within shown settled =
    settled lane k within (shown_known x.ops clamps marked k c shown)
    ∙ given_shown (clamp_at clamps k) (op_at x.ops k) c lane k (flag_at levels) (value_at ports) (values_in held lane) (values_in wides lane) shown

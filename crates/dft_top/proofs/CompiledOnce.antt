-- A compilation is one: cubes have one placement over the load equations, and a placement has one list of patterns.
use Rattle.std.proofs.Common.{ℕ, zero, suc, ◌≡◌, Bool, List, [], ◌∷◌, length, map, Some, refl, sym, ap, ◌∙◌, subst, arith}
use Rattle.std.specs.Prelude.{slice_get, option_map}
use Rattle.std.proofs.lemmas.List.{length-map}
use Rattle.std.proofs.lemmas.Option.{same_Some, slice_get-map}
use Rattle.dft_base.specs.Solutions.{IsChosen, bit_at}
use Rattle.dft_netlist.specs.Drivers.{IsOrdered}
use Rattle.dft_netlist.specs.Netlist.{Netlist}
use Rattle.dft_config.specs.Config.{Config}
use Rattle.dft_equations.specs.LoadRows.{LoadRows}
use Rattle.dft_gf2.proofs.OneChosen.{chosen_one}
use Rattle.dft_stitch.specs.Plans.{Plan, falling_head}
use Rattle.dft_cubes.specs.declared.cube.Cube.{Cube}
use Rattle.dft_cubes.specs.declared.cube.Merged.{Merged}
use Rattle.dft_expect.specs.declared.response.Response.{Response}
use Rattle.dft_expect.specs.Captures.{IsCapture}
use Rattle.dft_expect.specs.Loaded.{loaded_of, table_of}
use Rattle.dft_expect.specs.Masks.{always_of, by_chain, masks_of}
use Rattle.dft_expect.proofs.CaptureLemmas.{one_capture}
use Rattle.dft_merge.specs.Fills.{fill_of}
use Rattle.dft_merge.specs.Placement.{PlacesAll, equations_of}
use Rattle.dft_merge.specs.Rows.{cell_row}
use Rattle.dft_merge.proofs.OneLemmas.{placement_one}
use Rattle.dft_vectors.specs.PatternData.{PatternData, load_of}
use Rattle.dft_encode.proofs.OneLemmas.{equations_one}
use Rattle.dft_encode.specs.Compiled.{ArePatterns, IsPattern, Placing, merged_of}

-- ---- the placement

-- two placements say the same
pub record SamePlacing (config : Config) (plan : Plan) (cubes : List Cube) (p q : Placing config plan cubes) : Type 0 where
  pub rows : p.rows ≡ q.rows
  pub placed : p.placed ≡ q.placed
  pub merged : p.merged ≡ q.merged

pub placing_one : (config : Config) (plan : Plan) (cubes : List Cube) (p q : Placing config plan cubes) → SamePlacing config plan cubes p q
placing_one config plan cubes p q =
    let rows = equations_one config.ring (map (λ cells. length cells) plan.chains) (falling_head plan) plan.cycles p.rows q.rows p.equations q.equations in
    let is : PlacesAll p.rows.columns (cell_row plan.chains p.rows) config.window [] cubes q.placed q.merged =
    subst (λ (r : LoadRows). PlacesAll r.columns (cell_row plan.chains r) config.window [] cubes q.placed q.merged) (sym rows) q.is in
    let one = placement_one p.rows.columns (cell_row plan.chains p.rows) config.window cubes p.placed q.placed p.merged q.merged p.is is in
    record { rows = rows; placed = one.0; merged = one.1 }

-- ---- the patterns

pattern_one : (n : Netlist) (rank : ℕ → ℕ) (config : Config) (plan : Plan) (rows : LoadRows) (number : ℕ) (p q : PatternData) → IsOrdered n rank → p.merged ≡ q.merged →
    IsPattern n config plan rows number p → IsPattern n config plan rows number q → p ≡ q
pattern_one n rank config plan rows number p q ordered merged x y =
    let row = cell_row plan.chains rows in
    let fill = fill_of config.fill number rows.columns in
    let chosen : IsChosen rows.columns (equations_of row p.merged.cells) fill q.bits = subst (λ (m : Merged). IsChosen rows.columns (equations_of row m.cells) fill q.bits) (sym merged) y.bits in
    let bits : p.bits ≡ q.bits = chosen_one rows.columns (equations_of row p.merged.cells) fill p.bits q.bits x.bits chosen in
    let by_merged : IsCapture n config plan.chains p.merged (loaded_of config.ring (table_of config.ring (bit_at q.bits)) plan.cycles (falling_head plan) plan.chains) q.response =
    subst (λ (m : Merged). IsCapture n config plan.chains m (loaded_of config.ring (table_of config.ring (bit_at q.bits)) plan.cycles (falling_head plan) plan.chains) q.response) (sym merged) y.captured in
    let captured : IsCapture n config plan.chains p.merged (loaded_of config.ring (table_of config.ring (bit_at p.bits)) plan.cycles (falling_head plan) plan.chains) q.response =
    subst (λ (b : List Bool). IsCapture n config plan.chains p.merged (loaded_of config.ring (table_of config.ring (bit_at b)) plan.cycles (falling_head plan) plan.chains) q.response) (sym bits) by_merged in
    let response : p.response ≡ q.response = one_capture n rank config plan.chains p.merged (loaded_of config.ring (load_of config p) plan.cycles (falling_head plan) plan.chains) p.response q.response ordered x.captured captured in
    let masks : p.masks ≡ q.masks = x.masks ∙ ap (λ (r : Response). masks_of (always_of config) (by_chain plan.chains r.cells)) response ∙ sym y.masks in
    λ i. record { merged = merged i; bits = bits i; masks = masks i; response = response i }

items_same : {X : Type 0} (xs ys : List X) → length xs ≡ length ys → ((k : ℕ) (x y : X) → slice_get xs k ≡ Some x → slice_get ys k ≡ Some y → x ≡ y) → xs ≡ ys
items_same [] [] long each = refl
items_same [] (y ∷ ys) long each = absurd (let f : ⊥ = cc in f)
items_same (x ∷ xs) [] long each = absurd (let f : ⊥ = cc in f)
items_same (x ∷ xs) (y ∷ ys) long each =
    let first = each zero x y refl refl in
    let more : xs ≡ ys = items_same xs ys (omega (arith, long)) (λ k a b at_a at_b. each (suc k) a b at_a at_b) in
    λ i. first i ∷ more i

merged_at : (list : List PatternData) (merged : List Merged) (k : ℕ) (p : PatternData) → map merged_of list ≡ merged → slice_get list k ≡ Some p → slice_get merged k ≡ Some p.merged
merged_at list merged k p is at = ap (λ (ms : List Merged). slice_get ms k) (sym is) ∙ slice_get-map merged_of list k ∙ ap (option_map merged_of) at

pub patterns_one : (n : Netlist) (rank : ℕ → ℕ) (config : Config) (plan : Plan) (rows : LoadRows) (merged : List Merged) (list more : List PatternData) → IsOrdered n rank →
    ArePatterns n config plan rows merged list → ArePatterns n config plan rows merged more → list ≡ more
patterns_one n rank config plan rows merged list more ordered x y =
    items_same list more (sym (length-map list merged_of) ∙ ap length (x.merged ∙ sym y.merged) ∙ length-map more merged_of) (λ k p q at_p at_q.
    pattern_one n rank config plan rows k p q ordered (same_Some p.merged q.merged (sym (merged_at list merged k p x.merged at_p) ∙ merged_at more merged k q y.merged at_q)) (x.each k p at_p) (y.each k q at_q))

-- A compilation whose cubes are placed.
use Rattle.std.proofs.Common.{◌≡◌, ◌≤◌, ℕ, suc, List, [], ◌∷◌, length, map, None, Ok, refl, sym, subst, ap, ◌∙◌, arith}
use Rattle.dft_netlist.specs.declared.ids.InstanceId.{InstanceId}
use Rattle.dft_netlist.specs.Netlist.{Netlist}
use Rattle.dft_config.specs.Config.{Config}
use Rattle.dft_equations.specs.LoadRows.{LoadRows, AreLoadEquations}
use Rattle.dft_stitch.specs.Chains.{plan_of}
use Rattle.dft_stitch.specs.Limits.{refusal}
use Rattle.dft_stitch.specs.Plans.{Plan, falling_head}
use Rattle.dft_cubes.specs.declared.cube.Cube.{Cube}
use Rattle.dft_cubes.specs.declared.cube.Merged.{Merged}
use Rattle.dft_merge.specs.declared.placed.Placed.{Placed}
use Rattle.dft_merge.specs.LoadPlan.{LoadPlan}
use Rattle.dft_merge.specs.Merging.{Merging, columns_in, rows_in}
use Rattle.dft_merge.specs.Placement.{PlacesAll}
use Rattle.dft_merge.specs.Rows.{CellRows, cell_row}
use Rattle.dft_report.specs.declared.limits.TheConstants.{MAX_BYTES}
use Rattle.dft_report_reader.specs.Reading.{report_of}
use Rattle.dft_stil_tokens.specs.declared.blanks.TheConstants.{MAX_TEXT}
use Rattle.dft_config.specs.Range.{IsInRange}
use Rattle.dft_patterns.specs.Patterns.{Patterns}
use Rattle.dft_insert.specs.declared.style.Style.TheVariants.{Edt}
use Rattle.dft_insert.specs.Statements.{scanned}
use Rattle.dft_stil_out.specs.Written.{noted}
use Rattle.dft_encode.specs.declared.encoding.Encoded.{Encoded}
use Rattle.dft_encode.specs.Compiled.{Placing, merged_of}
use Rattle.dft_encode.specs.Encoding.{IsEncoded}
use Rattle.dft_encode.specs.Counts.{masked_in}
use Rattle.dft_compile.specs.declared.texts.CompileTexts.{CompileTexts}
use Rattle.dft_compile.specs.declared.texts.Counts.{Counts}
use Rattle.dft_compile.specs.declared.writing.PatternText.{PatternText}
use Rattle.dft_compile.specs.declared.error.CompileError.{CompileError}
use Rattle.dft_compile.specs.Compilation.{AreTextsOf, IsCompileOf, IsPatternText}
use Rattle.dft_compile.specs.Refusals.{IsLate, IsRefusal, late_refusal, pattern_bytes}
use Rattle.dft_compile.specs.Reports.{compile_report}
use Rattle.dft_compile.specs.Texts.{counts_by, counts_of, netlist_text, report_text}
use Rattle.dft_compile.proofs.BytesLemmas.{bytes_told, vector_count, vectors_few}
use Rattle.dft_compile.proofs.LateLemmas.{is_late, late_passed}

-- ---- placements

-- there is a word for each cube
pub placed_count : (n : ℕ) (row : CellRows) (window : ℕ) (old new : List Merged) (cubes : List Cube) (placed : List Placed) → PlacesAll n row window old cubes placed new → length placed ≡ length cubes
placed_count n row window old new [] [] places = refl
placed_count n row window old new [] (place ∷ placed) places = absurd places
placed_count n row window old new (cube ∷ cubes) [] places = absurd places
placed_count n row window old new (cube ∷ cubes) (place ∷ placed) places = ap suc (placed_count n row window places.0 new cubes placed places.1.1)

-- what a new merger places is placed over the planned chains
pub places_of : (l : LoadPlan) (m : Merging) (cubes : List Cube) (placed : List Placed) (new : List Merged) → l.plan ≡ plan_of l.design l.config → m ≡ record { loads = l; window = l.config.window; patterns = [] } →
    PlacesAll (columns_in m) (rows_in m) m.window m.patterns cubes placed new → PlacesAll l.rows.columns (cell_row (plan_of l.design l.config).chains l.rows) l.config.window [] cubes placed new
places_of l m cubes placed new planned is places =
    subst (λ (p : Plan). PlacesAll l.rows.columns (cell_row p.chains l.rows) l.config.window [] cubes placed new) planned
    (subst (λ (k : Merging). PlacesAll (columns_in k) (rows_in k) k.window k.patterns cubes placed new) is places)

-- ---- texts

-- the patterns' text is short enough, where its bytes as they are told are few enough
pub short_text : (n : Netlist) (config : Config) (made : Netlist) (plan : Plan) (rows : LoadRows) (merged : List Merged) (e : Encoded) → IsInRange config → made ≡ scanned Edt n config → plan ≡ plan_of n config → IsEncoded made n config plan rows merged e →
    pattern_bytes n config merged ≤ MAX_TEXT → length (noted e.set) ≤ MAX_TEXT
short_text n config made plan rows merged e range is planned h short =
    let g : IsEncoded (scanned Edt n config) n config (plan_of n config) rows merged e =
    subst (λ (p : Plan). IsEncoded (scanned Edt n config) n config p rows merged e) planned (subst (λ (w : Netlist). IsEncoded w n config plan rows merged e) is h) in
    let bytes : length (noted e.set) ≡ pattern_bytes n config merged = ap (λ (p : Patterns). length (noted p)) g.set ∙ bytes_told n config rows merged g.list range g.are in
    omega (arith, bytes, short)

counts_are : (n : Netlist) (config : Config) (rows : LoadRows) (placed : List Placed) (merged : List Merged) (p : PatternText) (h : IsPatternText n config rows merged p) → counts_by n config placed merged p.masked ≡ counts_of n config placed h.list
counts_are n config rows placed merged p h =
    let list = h.list in
    let by : List Merged → ℕ → Counts = counts_by n config placed in
    ap (λ (m : List Merged). by m p.masked) (sym h.are.merged)
    ∙ ap (by (map merged_of list)) h.masked
    ∙ ap (λ (v : ℕ). record (by (map merged_of list) (masked_in list)) { vectors = v }) (sym (vector_count n config rows merged list h.are))

pub are_texts : (n : Netlist) (config : Config) (cubes : List Cube) (rows : LoadRows) (placed : List Placed) (merged : List Merged) (t : CompileTexts) (p : PatternText) → (fits : refusal n config ≡ None) → (count : length merged ≤ 65536) → (short : pattern_bytes n config merged ≤ MAX_TEXT) → (few : length (report_text n config rows cubes placed) ≤ MAX_BYTES) →
    IsPatternText n config rows merged p → (netlist : t.netlist.items ≡ netlist_text n config) → (patterns : t.patterns.items ≡ p.text.items) → (report : t.report.items ≡ report_text n config rows cubes placed) → (counts : t.counts ≡ counts_by n config placed merged p.masked) →
    AreTextsOf n config cubes rows placed merged t
are_texts n config cubes rows placed merged t p fits count short few h netlist patterns report counts = record {
  accepted = late_passed n config cubes rows placed merged short few;
  list = h.list;
  are = h.are;
  few = vectors_few n config rows merged h.list fits count h.are;
  netlist = netlist;
  patterns = patterns ∙ h.text;
  report = report;
  counts = counts ∙ counts_are n config rows placed merged p h;
}

-- ---- the compilation

-- a placement of the cubes over these load equations, with these words and these merged cubes
pub record IsPlaced (n : Netlist) (config : Config) (cubes : List Cube) (rows : LoadRows) (placed : List Placed) (merged : List Merged) : Type 0 where
  pub placing : Placing config (plan_of n config) cubes
  pub rows_are : placing.rows ≡ rows
  pub placed_are : placing.placed ≡ placed
  pub merged_are : placing.merged ≡ merged

-- what a new merger placed is one
pub placed_by : (l : LoadPlan) (cubes : List Cube) (m : Merging) (items placed : List Placed) (new : List Merged) → l.plan ≡ plan_of l.design l.config →
    AreLoadEquations l.config.ring (map (λ cells. length cells) l.plan.chains) (falling_head l.plan) l.plan.cycles l.rows → m ≡ record { loads = l; window = l.config.window; patterns = [] } → placed ≡ items →
    PlacesAll (columns_in m) (rows_in m) m.window m.patterns cubes items new → IsPlaced l.design l.config cubes l.rows placed new
placed_by l cubes m items placed new planned equations is same places = record {
  placing = record {
    rows = l.rows;
    equations = subst (λ (p : Plan). AreLoadEquations l.config.ring (map (λ (cells : List InstanceId). length cells) p.chains) (falling_head p) p.cycles l.rows) planned equations;
    placed = items;
    merged = new;
    is = places_of l m cubes items new planned is places;
  };
  rows_are = refl;
  placed_are = sym same;
  merged_are = refl;
}

-- the texts of every placement of the cubes are read
abbrev pub AreTold : Netlist → Config → List Cube → Type 0
AreTold n config cubes =
    (p : Placing config (plan_of n config) cubes) → report_of (report_text n config p.rows cubes p.placed) ≡ Ok (compile_report n config (cell_row (plan_of n config).chains p.rows) cubes p.placed)

-- texts of a placement are a compilation
pub compiled_of : (n : Netlist) (config : Config) (cubes : List Cube) (rows : LoadRows) (placed : List Placed) (merged : List Merged) (t : CompileTexts) → IsPlaced n config cubes rows placed merged → AreTold n config cubes →
    AreTextsOf n config cubes rows placed merged t → IsCompileOf n config cubes t
compiled_of n config cubes rows placed merged t p told h =
    let q = p.placing in record {
      placing = q;
      texts = subst (λ (x : LoadRows). AreTextsOf n config cubes x q.placed q.merged t) (sym p.rows_are)
          (subst (λ (x : List Placed). AreTextsOf n config cubes rows x q.merged t) (sym p.placed_are) (subst (λ (x : List Merged). AreTextsOf n config cubes rows placed x t) (sym p.merged_are) h));
      told = told q;
    }

-- refusals behind a placement are late ones
pub refused_of : (n : Netlist) (config : Config) (cubes : List Cube) (rows : LoadRows) (placed : List Placed) (merged : List Merged) (e : CompileError) → IsPlaced n config cubes rows placed merged → IsRefusal (late_refusal n config cubes rows placed merged) e →
    IsLate n config cubes e
refused_of n config cubes rows placed merged e p h =
    let q = p.placing in
    is_late n config cubes q e
    (subst (λ (x : LoadRows). IsRefusal (late_refusal n config cubes x q.placed q.merged) e) (sym p.rows_are)
    (subst (λ (x : List Placed). IsRefusal (late_refusal n config cubes rows x q.merged) e) (sym p.placed_are)
    (subst (λ (x : List Merged). IsRefusal (late_refusal n config cubes rows placed x) e) (sym p.merged_are) h)))

-- Loads, captures and masks are those of a pattern.
use Rattle.std.proofs.Common.{◌≡◌, ℕ, zero, suc, ◌+◌, ◌<◌, ◌⊎◌, inl, inr, Bool, false, true, List, [], ◌∷◌, ◌++◌, length, map, get_or, Some, refl, sym, subst, ap, ◌∙◌, arith}
use Rattle.std.specs.Prelude.{slice_get}
use Rattle.std.proofs.lemmas.List.{length-map, length-replicate}
use Rattle.std.specs.List.{enumerate_from}
use Rattle.std.proofs.lemmas.List.FromFn.{length-enumerate_from, length-map-range_with_len}
use Rattle.std.proofs.lemmas.Option.{slice_get_within}
use Rattle.dft_base.specs.declared.tri.Tri.{Tri}
use Rattle.dft_base.specs.Solutions.{bit_at, IsChosen}
use Rattle.dft_base.proofs.ListLemmas.{get_push}
use Rattle.dft_netlist.specs.declared.ids.InstanceId.{InstanceId}
use Rattle.dft_netlist.specs.Netlist.{Netlist}
use Rattle.dft_netlist.proofs.NotesLemmas.{item_at}
use Rattle.dft_config.specs.Config.{Config}
use Rattle.dft_config.specs.declared.config.FillRule.{FillRule}
use Rattle.dft_config.specs.declared.config.FillRule.TheVariants.{Zeros, Ones, Seed}
use Rattle.dft_config.specs.Ring.{Table}
use Rattle.dft_config.specs.Range.{has, same_number}
use Rattle.dft_lanes.specs.Rows.{bits_of, IsPacked}
use Rattle.dft_stitch.specs.Plans.{Plan, falling_head}
use Rattle.dft_cubes.specs.declared.cube.Merged.{Merged}
use Rattle.dft_expect.specs.declared.pattern.Pattern.{Pattern}
use Rattle.dft_expect.specs.declared.response.Response.{Response}
use Rattle.dft_expect.specs.Captures.{IsCapture, capture_vectors, last_state, original}
use Rattle.dft_expect.specs.Capturing.{AreCaptures, Captures}
use Rattle.dft_expect.specs.Loaded.{all_cells, loaded_of, loaded_values, table_of}
use Rattle.dft_expect.specs.Masks.{by_chain, is_masked, masks_of}
use Rattle.dft_merge.specs.Fills.{fill_of}
use Rattle.dft_merge.specs.LoadPlan.{LoadPlan}
use Rattle.dft_merge.specs.Placement.{Loads, equations_of}
use Rattle.dft_merge.specs.Rows.{cell_row}
use Rattle.dft_vectors.specs.PatternData.{columns_of}
use Rattle.dft_vectors.proofs.LoadLemmas.{same_table}
use Rattle.dft_encode.specs.declared.finder.Finder.{Finder}
use Rattle.dft_encode.specs.declared.found.Found.{Found}
use Rattle.dft_encode.specs.declared.loads.Load.{Load}
use Rattle.dft_encode.specs.Compiled.{IsPattern}
use Rattle.dft_encode.specs.Finding.{AreLoaded, AreLoads, Captured, FitsFound, IsFinder, IsLoad, IsLoaded, data_found}
use Rattle.dft_stitch.proofs.ChainLimits.{blocks_count}

-- ---- bits

-- there is a fill bit for each column
pub fill_length : (rule : FillRule) (pattern columns : ℕ) → length (fill_of rule pattern columns) ≡ columns
fill_length Zeros pattern columns = length-replicate columns false
fill_length Ones pattern columns = length-replicate columns true
fill_length (Seed seed) pattern columns = length-map-range_with_len _ 0 columns

-- ---- loads

load_case : (f : Finder) (first number k : ℕ) (loads : List Load) (new l : Load) → length loads ≡ number → AreLoads f first loads → IsLoad f (first + number) new → (slice_get loads k ≡ Some l) ⊎ ((k ≡ length loads) × (new ≡ l)) → IsLoad f (first + k) l
load_case f first number k loads new l count each is (inl there) = each k l there
load_case f first number k loads new l count each is (inr last) = subst (IsLoad f (first + k)) last.1 (subst (λ (j : ℕ). IsLoad f (first + j) new) (sym (last.0 ∙ count)) is)

-- one load more
pub loads_more : (f : Finder) (first number : ℕ) (loads more : List Load) (new : Load) → length loads ≡ number → AreLoads f first loads → IsLoad f (first + number) new → more ≡ loads ++ new ∷ [] → AreLoads f first more
loads_more f first number loads more new count each is pushes = subst (AreLoads f first) (sym pushes) (λ k l at. load_case f first number k loads new l count each is (get_push loads new l k at))

-- ---- captures

-- one pattern more, with its load
loaded_case : (merged : List Merged) (first number k : ℕ) (loads : List Load) (patterns : List Pattern) (new p : Pattern) → length patterns ≡ number → ((j : ℕ) (q : Pattern) → slice_get patterns j ≡ Some q → IsLoaded merged first loads j q) → IsLoaded merged first loads number new →
    (slice_get patterns k ≡ Some p) ⊎ ((k ≡ length patterns) × (new ≡ p)) → IsLoaded merged first loads k p
loaded_case merged first number k loads patterns new p count each is (inl there) = each k p there
loaded_case merged first number k loads patterns new p count each is (inr last) =
    subst (IsLoaded merged first loads k) last.1 (subst (λ (j : ℕ). IsLoaded merged first loads j new) (sym (last.0 ∙ count)) is)

pub loaded_more : (merged : List Merged) (first number : ℕ) (loads : List Load) (patterns more : List Pattern) (new : Pattern) → length patterns ≡ number → ((j : ℕ) (q : Pattern) → slice_get patterns j ≡ Some q → IsLoaded merged first loads j q) → IsLoaded merged first loads number new →
    more ≡ patterns ++ new ∷ [] → (k : ℕ) (p : Pattern) → slice_get more k ≡ Some p → IsLoaded merged first loads k p
loaded_more merged first number loads patterns more new count each is pushes k p at =
    loaded_case merged first number k loads patterns new p count each is (get_push patterns new p k (subst (λ (ps : List Pattern). slice_get ps k ≡ Some p) pushes at))

-- a capture of the pattern at a place is one of its merged cubes and its load
capture_of : (f : Finder) (first k : ℕ) (loads : List Load) (p : Pattern) (l : Load) (r : Response) (merged : Merged) → IsFinder f → IsLoaded f.merger.now.patterns first loads k p → slice_get loads k ≡ Some l → slice_get f.merger.now.patterns (first + k) ≡ Some merged →
    Captures f.loads.now.design f.loads.now.config p r → IsCapture f.loads.now.design f.loads.now.config f.loads.now.plan.chains merged l.cells r
capture_of f first k loads p l r merged finder is at there h =
    let n = f.loads.now.design in
    let config = f.loads.now.config in
    let same : p.merged.now ≡ merged = cc (is.merged, there) in
    let load : is.load ≡ l = cc (is.at, at) in
    let bits : p.loaded.now ≡ l.cells = is.loaded ∙ ap (λ (x : Load). x.cells) load in
    subst (λ (m : Merged). IsCapture n config f.loads.now.plan.chains m l.cells r) same
    (subst (λ (b : List Bool). IsCapture n config f.loads.now.plan.chains p.merged.now b r) bits
    (subst (λ (q : Plan). IsCapture n config q.chains p.merged.now p.loaded.now r) (sym finder.chains) h))

-- the pattern at a place of as many
pattern_at : (patterns : List Pattern) (k : ℕ) → k < length patterns → (p : Pattern) × (slice_get patterns k ≡ Some p)
pattern_at [] k less = absurd (omega (arith, less))
pattern_at (p ∷ patterns) zero less = (p, refl)
pattern_at (p ∷ patterns) (suc k) less = pattern_at patterns k (omega (arith, less))

pub all_captured : (f : Finder) (first : ℕ) (loads : List Load) (patterns : List Pattern) (responses : List Response) → IsFinder f → AreLoaded f.merger.now.patterns first loads patterns → AreCaptures (record { design = f.loads.now.design; config = f.loads.now.config }) patterns responses →
    Captured f first loads responses
all_captured f first loads patterns responses finder are h = record {
  count = h.count ∙ are.count;
  each = λ k l r merged at there place.
      let p = pattern_at patterns k (omega (arith, h.count, slice_get_within responses k r there)) in
      capture_of f first k loads p.0 l r merged finder (are.each k p.0 p.1) at place (h.each k p.0 r p.1 there);
}

-- ---- what is found

-- the pattern at a number, where a list that is these patterns was read there
pub pattern_there : (patterns read : List Merged) (number : ℕ) (merged : Merged) → read ≡ patterns → number < length patterns → merged ≡ get_or read number merged → slice_get patterns number ≡ Some merged
pattern_there patterns read number merged same less is = item_at patterns number merged less (is ∙ ap (λ (ms : List Merged). get_or ms number merged) same)

-- there is a captured value for each cell
pub captured_count : (n : Netlist) (config : Config) (chains : List (List InstanceId)) (merged : Merged) (loaded : List Bool) (r : Response) → IsCapture n config chains merged loaded r → length r.cells ≡ length (all_cells chains)
captured_count n config chains merged loaded r h = ap length h.cells ∙ length-map (all_cells chains) (λ (cell : InstanceId). last_state (original n config) chains (capture_vectors n config merged) (loaded_values chains loaded) h.settled cell.0)

-- there is a word for each chain whether it is always masked
pub always_count : (f : Finder) → IsFinder f → length f.always.now ≡ length f.loads.now.plan.chains
always_count f h = ap length h.always ∙ length-map-range_with_len (has same_number f.loads.now.config.always_masked) 0 f.loads.now.config.chains ∙ sym h.count

-- there is a mask bit for each chain
masks_count : (always : List Bool) (chains : List (List InstanceId)) (values : List Tri) → length (masks_of always (by_chain chains values)) ≡ length chains
masks_count always chains values =
    let lengths = map (λ (cells : List InstanceId). length cells) chains in
    length-map (enumerate_from 0 (by_chain chains values)) (λ (chain : ℕ × List Tri). is_masked (bit_at always chain.0) chain.1) ∙ length-enumerate_from 0 (by_chain chains values) ∙ blocks_count lengths values
    ∙ length-map chains (λ (cells : List InstanceId). length cells)

-- the bits of a load are those of its pattern
chosen_of : (f : Finder) (number : ℕ) (l : Load) (found : Found) → IsFinder f → IsLoad f number l → slice_get f.merger.now.patterns number ≡ Some found.merged → found.bits ≡ l.bits →
    IsChosen f.merger.now.loads.rows.columns (equations_of (cell_row f.loads.now.plan.chains f.merger.now.loads.rows) found.merged.cells) (fill_of f.loads.now.config.fill number f.merger.now.loads.rows.columns) (bits_of (columns_of f.loads.now.config f.loads.now.plan) found.bits)
chosen_of f number l found finder load at bits =
    let rows = f.merger.now.loads.rows in
    let like = fill_of f.loads.now.config.fill number rows.columns in
    let columns = columns_of f.loads.now.config f.loads.now.plan in
    subst (λ (b : List ℕ). IsChosen rows.columns (equations_of (cell_row f.loads.now.plan.chains rows) found.merged.cells) like (bits_of columns b)) (sym bits)
    (subst (λ (c : ℕ). IsChosen rows.columns (equations_of (cell_row f.loads.now.plan.chains rows) found.merged.cells) like (bits_of c l.bits)) finder.columns
    (subst (λ (chains : List (List InstanceId)). IsChosen rows.columns (equations_of (cell_row chains rows) found.merged.cells) like (bits_of rows.columns l.bits)) (ap (λ (l : LoadPlan). l.plan.chains) finder.merger) (load.chosen found.merged at)))

loads_of : (f : Finder) (number : ℕ) (l : Load) (found : Found) → IsFinder f → IsLoad f number l → slice_get f.merger.now.patterns number ≡ Some found.merged → found.bits ≡ l.bits →
    Loads f.merger.now.loads.rows.columns (cell_row f.loads.now.plan.chains f.merger.now.loads.rows) (bit_at (bits_of (columns_of f.loads.now.config f.loads.now.plan) found.bits)) found.merged.cells
loads_of f number l found finder load at bits =
    let rows = f.merger.now.loads.rows in
    let columns = columns_of f.loads.now.config f.loads.now.plan in
    subst (λ (b : List ℕ). Loads rows.columns (cell_row f.loads.now.plan.chains rows) (bit_at (bits_of columns b)) found.merged.cells) (sym bits)
    (subst (λ (c : ℕ). Loads rows.columns (cell_row f.loads.now.plan.chains rows) (bit_at (bits_of c l.bits)) found.merged.cells) finder.columns
    (subst (λ (chains : List (List InstanceId)). Loads rows.columns (cell_row chains rows) (bit_at (bits_of rows.columns l.bits)) found.merged.cells) (ap (λ (l : LoadPlan). l.plan.chains) finder.merger) (load.loads found.merged at)))

packed_of : (f : Finder) (number : ℕ) (l : Load) → IsFinder f → IsLoad f number l → IsPacked (columns_of f.loads.now.config f.loads.now.plan) l.bits
packed_of f number l finder load = subst (λ (c : ℕ). IsPacked c l.bits) finder.columns load.packed

-- what a pattern is, by its load, its response and its masks
pub is_pattern : (f : Finder) (number : ℕ) (l : Load) (found : Found) → IsFinder f → IsLoad f number l → slice_get f.merger.now.patterns number ≡ Some found.merged → found.bits ≡ l.bits →
    found.masks ≡ masks_of f.always.now (by_chain f.loads.now.plan.chains found.response.cells) → IsCapture f.loads.now.design f.loads.now.config f.loads.now.plan.chains found.merged l.cells found.response →
    IsPattern f.loads.now.design f.loads.now.config f.loads.now.plan f.merger.now.loads.rows number (data_found f.loads.now.config f.loads.now.plan found)
is_pattern f number l found finder load at bits masks captured =
    let ring = f.loads.now.config.ring in
    let plan = f.loads.now.plan in
    let columns = columns_of f.loads.now.config plan in
    let brings : List ℕ → List Bool = λ b. loaded_of ring (table_of ring (bit_at (bits_of columns b))) plan.cycles (falling_head plan) plan.chains in
    let cells : l.cells ≡ brings found.bits =
    load.cells ∙ ap (λ (t : Table). loaded_of ring t plan.cycles (falling_head plan) plan.chains) (same_table ring columns l.bits (packed_of f number l finder load)) ∙ ap brings (sym bits) in record {
      bits = chosen_of f number l found finder load at bits;
      loads = loads_of f number l found finder load at bits;
      captured = subst (λ (b : List Bool). IsCapture f.loads.now.design f.loads.now.config plan.chains found.merged b found.response) cells captured;
      masks = masks ∙ ap (λ (a : List Bool). masks_of a (by_chain plan.chains found.response.cells)) finder.always;
    }

pub fits_found : (f : Finder) (number : ℕ) (l : Load) (found : Found) → IsFinder f → IsLoad f number l → found.bits ≡ l.bits → found.masks ≡ masks_of f.always.now (by_chain f.loads.now.plan.chains found.response.cells) →
    IsCapture f.loads.now.design f.loads.now.config f.loads.now.plan.chains found.merged l.cells found.response → FitsFound f.loads.now.config f.loads.now.plan found
fits_found f number l found finder load bits masks captured = record {
  bits = subst (λ (b : List ℕ). IsPacked (columns_of f.loads.now.config f.loads.now.plan) b) (sym bits) (packed_of f number l finder load);
  masks = ap length masks ∙ masks_count f.always.now f.loads.now.plan.chains found.response.cells;
  cells = captured_count f.loads.now.design f.loads.now.config f.loads.now.plan.chains found.merged l.cells found.response captured;
}

-- Captures of one vector more; how many outputs a pattern captures; and what cells of the chains are.
use Rattle.std.proofs.Common.{ℕ, zero, suc, ◌+◌, ◌*◌, Bool, true, false, ◌||◌, ◌≡◌, List, [], ◌∷◌, ◌++◌, length, map, take, Option, None, option_map, append-nil, length-append, slice_get, Some, refl, sym, ap, arith, ◌∙◌}
use Rattle.std.specs.Prelude.{◌==◌, flat_map, slice_index_or}
use Rattle.std.specs.List.{list_any}
use Rattle.std.proofs.lemmas.Bool.{eqb-true, eq-eqb}
use Rattle.std.proofs.lemmas.Grind.{flat_map-append}
use Rattle.std.proofs.lemmas.List.{length-map, take_more}
use Rattle.std.proofs.lemmas.Map.Keys.{any_passes_from_place}
use Rattle.std.proofs.lemmas.Option.{get_or_from_slice_get, none-some, same_Some, slice_get-map, slice_get_within}
use Rattle.dft_base.specs.declared.tri.Tri.{Tri}
use Rattle.dft_base.specs.declared.tri.Tri.TheVariants.{Unknown}
use Rattle.dft_netlist.specs.declared.ids.NetId.{NetId}
use Rattle.dft_netlist.specs.declared.ids.InstanceId.{InstanceId}
use Rattle.dft_netlist.specs.Netlist.{Netlist}
use Rattle.dft_behavior.specs.Logic.{Logic}
use Rattle.dft_behavior.specs.Runs.{Vector}
use Rattle.dft_config.specs.Config.{Config}
use Rattle.dft_cubes.specs.declared.cube.Merged.{Merged}
use Rattle.dft_cubes.specs.Domains.{captures_of, listed}
use Rattle.dft_expect.specs.declared.response.Response.{Response}
use Rattle.dft_expect.specs.Loaded.{all_cells, loaded_values}
use Rattle.dft_expect.specs.Captures.{AllSettled, AreSettled, CapturesIn, IsCapture, Settled, capture_vectors, captured_domains, last_state, next_state, original, output_bits, outputs_before, vector_of}

-- ---- one vector more

settled_more : (l : Logic) (chains : List (List InstanceId)) (xs : List Vector) (x : Vector) (state : ℕ → Tri) (ss : List Settled) (s : Settled) → AllSettled l chains xs state ss → AreSettled l chains x (last_state l chains xs state ss) s → AllSettled l chains (xs ++ x ∷ []) state (ss ++ s ∷ [])
settled_more l chains [] x state [] s all are = (are, tt)
settled_more l chains [] x state (t ∷ ss) s all are = absurd all
settled_more l chains (y ∷ xs) x state [] s all are = absurd all
settled_more l chains (y ∷ xs) x state (t ∷ ss) s all are = (all.0, settled_more l chains xs x (next_state l chains y state t) ss s all.1 are)

last_is_next : (l : Logic) (chains : List (List InstanceId)) (xs : List Vector) (x : Vector) (state : ℕ → Tri) (ss : List Settled) (s : Settled) → AllSettled l chains xs state ss →
    last_state l chains (xs ++ x ∷ []) state (ss ++ s ∷ []) ≡ next_state l chains x (last_state l chains xs state ss) s
last_is_next l chains [] x state [] s all = refl
last_is_next l chains [] x state (t ∷ ss) s all = absurd all
last_is_next l chains (y ∷ xs) x state [] s all = absurd all
last_is_next l chains (y ∷ xs) x state (t ∷ ss) s all = last_is_next l chains xs x (next_state l chains y state t) ss s all.1

-- what is captured in one vector more, and the state behind it
pub captures_more : (n : Netlist) (config : Config) (chains : List (List InstanceId)) (xs : List Vector) (x : Vector) (loaded : List Bool) (old new : Response) (s : Settled) → (is : CapturesIn n config chains xs loaded old) →
    AreSettled (original n config) chains x (last_state (original n config) chains xs (loaded_values chains loaded) is.settled) s →
    new.cells ≡ map (λ cell. next_state (original n config) chains x (last_state (original n config) chains xs (loaded_values chains loaded) is.settled) s cell.0) (all_cells chains) → new.outputs ≡ old.outputs ++ outputs_before n s →
    (more : CapturesIn n config chains (xs ++ x ∷ []) loaded new)
    × (last_state (original n config) chains (xs ++ x ∷ []) (loaded_values chains loaded) more.settled ≡ next_state (original n config) chains x (last_state (original n config) chains xs (loaded_values chains loaded) is.settled) s)
captures_more n config chains xs x loaded old new s is are cells outputs =
    let l : Logic = original n config in
    let state : ℕ → Tri = loaded_values chains loaded in (
      record {
        settled = is.settled ++ s ∷ [];
        are = settled_more l chains xs x state is.settled s is.are are;
        cells = cells ∙ ap (λ (f : ℕ → Tri). map (λ (cell : InstanceId). f cell.0) (all_cells chains)) (sym (last_is_next l chains xs x state is.settled s is.are));
        outputs = outputs ∙ ap (λ (os : List Tri). os ++ outputs_before n s) is.outputs ∙ ap (λ (os : List Tri). flat_map (outputs_before n) is.settled ++ os) (sym (append-nil (outputs_before n s)))
            ∙ sym (flat_map-append (outputs_before n) is.settled (s ∷ []));
      },
      last_is_next l chains xs x state is.settled s is.are,
    )

-- ---- the first vectors of a pattern

-- one item more of a list
pub take_one : {X : Type 0} (xs : List X) (k : ℕ) (x : X) → slice_get xs k ≡ Some x → take (k + 1) xs ≡ take k xs ++ x ∷ []
take_one {X} xs k x at = take_more xs k x (slice_get_within xs k x at) ∙ ap (λ (y : X). take k xs ++ y ∷ []) (get_or_from_slice_get xs k x x at)

-- there is none more
taken_all : {X : Type 0} (xs : List X) (k : ℕ) → slice_get xs k ≡ None → take (suc k) xs ≡ take k xs
taken_all [] zero none = refl
taken_all [] (suc k) none = refl
taken_all (y ∷ xs) zero none = absurd (none-some y (sym none))
taken_all {X} (y ∷ xs) (suc k) none = ap (λ (l : List X). y ∷ l) (taken_all xs k none)

pub take_none : {X : Type 0} (xs : List X) (k : ℕ) → slice_get xs k ≡ None → take (k + 1) xs ≡ take k xs
take_none xs k none =
    let next : k + 1 ≡ suc k = omega arith in
    ap (λ (n : ℕ). take n xs) next ∙ taken_all xs k none

-- the vector that captures a domain by its number
pub vector_at : (n : Netlist) (config : Config) (merged : Merged) (count domain : ℕ) → slice_get (captured_domains merged) count ≡ Some domain → slice_get (capture_vectors n config merged) count ≡ Some (vector_of n config merged domain)
vector_at n config merged count domain at = slice_get-map (vector_of n config merged) (captured_domains merged) count ∙ ap (option_map (vector_of n config merged)) at

pub no_vector_at : (n : Netlist) (config : Config) (merged : Merged) (count : ℕ) → slice_get (captured_domains merged) count ≡ None → slice_get (capture_vectors n config merged) count ≡ None
no_vector_at n config merged count none = slice_get-map (vector_of n config merged) (captured_domains merged) count ∙ ap (option_map (vector_of n config merged)) none

-- two vectors are all, and one is where there is no second clock
pub two_are_all : (n : Netlist) (config : Config) (merged : Merged) (second : Option ℕ) → merged.domains.second ≡ second → take 2 (capture_vectors n config merged) ≡ capture_vectors n config merged
two_are_all n config merged None is = ap (λ (s : Option ℕ). take 2 (map (vector_of n config merged) (merged.domains.first ∷ listed s))) is ∙ sym (ap (λ (s : Option ℕ). map (vector_of n config merged) (merged.domains.first ∷ listed s)) is)
two_are_all n config merged (Some clock) is = ap (λ (s : Option ℕ). take 2 (map (vector_of n config merged) (merged.domains.first ∷ listed s))) is ∙ sym (ap (λ (s : Option ℕ). map (vector_of n config merged) (merged.domains.first ∷ listed s)) is)

pub one_is_all : (n : Netlist) (config : Config) (merged : Merged) → merged.domains.second ≡ None → take 1 (capture_vectors n config merged) ≡ capture_vectors n config merged
one_is_all n config merged is = ap (λ (s : Option ℕ). take 1 (map (vector_of n config merged) (merged.domains.first ∷ listed s))) is ∙ sym (ap (λ (s : Option ℕ). map (vector_of n config merged) (merged.domains.first ∷ listed s)) is)

-- ---- how many outputs

settled_count : (l : Logic) (chains : List (List InstanceId)) (xs : List Vector) (state : ℕ → Tri) (settled : List Settled) → AllSettled l chains xs state settled → length settled ≡ length xs
settled_count l chains [] state [] are = refl
settled_count l chains [] state (s ∷ settled) are = absurd are
settled_count l chains (x ∷ xs) state [] are = absurd are
settled_count l chains (x ∷ xs) state (s ∷ settled) are = ap suc (settled_count l chains xs (next_state l chains x state s) settled are.1)

all_outputs : (n : Netlist) (settled : List Settled) → length (flat_map (outputs_before n) settled) ≡ length settled * length (output_bits n.ports)
all_outputs n [] = omega arith
all_outputs n (s ∷ settled) =
    let own : ℕ = length (output_bits n.ports) in
    let more : suc (length settled) * own ≡ own + length settled * own = grind arith in
    let one = length-map (output_bits n.ports) (λ (net : NetId). s.first net.0) in
    omega (arith, more, one, length-append (outputs_before n s) (flat_map (outputs_before n) settled), all_outputs n settled)

-- a capture has a value for each bit of the design's outputs in each of its vectors
pub outputs_count : (n : Netlist) (config : Config) (chains : List (List InstanceId)) (merged : Merged) (loaded : List Bool) (r : Response) → IsCapture n config chains merged loaded r → length r.outputs ≡ captures_of merged * length (output_bits n.ports)
outputs_count n config chains merged loaded r captured =
    let xs : List Vector = capture_vectors n config merged in
    let count : length captured.settled ≡ captures_of merged =
    settled_count (original n config) chains xs (loaded_values chains loaded) captured.settled captured.are ∙ length-map (captured_domains merged) (vector_of n config merged) in
    ap length captured.outputs ∙ all_outputs n captured.settled ∙ ap (λ (k : ℕ). k * length (output_bits n.ports)) count

-- ---- cells of the chains

-- a cell at a number is one of them
pub chained : (cells : List InstanceId) (number i : ℕ) → slice_get cells number ≡ Some (record { 0 = i }) → list_any (λ cell. cell.0 == i) cells ≡ true
chained cells number i at = any_passes_from_place (λ (cell : InstanceId). cell.0 == i) cells number (record { 0 = i }) at (eq-eqb i i refl)

-- an instance that stands at none is none
unchained_by : (cell : InstanceId) (cells : List InstanceId) (i : ℕ) (b : Bool) → (cell.0 == i) ≡ b → (Some cell ≡ Some (record { 0 = i }) → ⊥) → list_any (λ c. c.0 == i) cells ≡ false → (b || list_any (λ c. c.0 == i) cells) ≡ false
unchained_by cell cells i true is apart none = absurd (apart (ap (λ (j : ℕ). Some (record { 0 = j })) (eqb-true cell.0 i is)))
unchained_by cell cells i false is apart none = none

pub unchained : (cells : List InstanceId) (i : ℕ) → ((number : ℕ) → slice_get cells number ≡ Some (record { 0 = i }) → ⊥) → list_any (λ cell. cell.0 == i) cells ≡ false
unchained [] i apart = refl
unchained (cell ∷ cells) i apart = unchained_by cell cells i (cell.0 == i) refl (apart 0) (unchained cells i (λ number. apart (suc number)))

-- ---- values by number

there_by : (f : InstanceId → Tri) (cells : List InstanceId) (number : ℕ) (cell : InstanceId) → slice_get cells number ≡ Some cell → slice_index_or (map f cells) number Unknown ≡ f cell
there_by f [] number cell at = absurd (none-some cell at)
there_by f (x ∷ cells) zero cell at = ap f (same_Some x cell at)
there_by f (x ∷ cells) (suc number) cell at = there_by f cells number cell at

-- the value of a cell's number is the cell's
pub there : (f : InstanceId → Tri) (values : List Tri) (cells : List InstanceId) (number : ℕ) (cell : InstanceId) → values ≡ map f cells → slice_get cells number ≡ Some cell → slice_index_or values number Unknown ≡ f cell
there f values cells number cell is at = ap (λ (l : List Tri). slice_index_or l number Unknown) is ∙ there_by f cells number cell at

-- what is the same at each cell
pub map_same : (f g : InstanceId → Tri) (cells : List InstanceId) → ((number : ℕ) (cell : InstanceId) → slice_get cells number ≡ Some cell → f cell ≡ g cell) → map f cells ≡ map g cells
map_same f g [] each = refl
map_same f g (x ∷ cells) each = λ i. each 0 x refl i ∷ map_same f g cells (λ number cell at. each (suc number) cell at) i

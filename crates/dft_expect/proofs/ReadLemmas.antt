-- What is read of a cell at an edge is what it has after that, and so what a pattern captures in it.
use Rattle.std.proofs.Common.{ℕ, zero, suc, ◌+◌, ◌<◌, ◌≤◌, ◌⊎◌, inl, inr, Bool, true, false, ◌&&◌, ◌||◌, ◌≡◌, ◌≢◌, List, [], ◌∷◌, ◌++◌, map, length, take, get_or, append_assoc, append-nil, cond, find, slice_get, slice_set, Option, None, Some, refl, sym, subst, ap, arith, ◌∙◌}
use Rattle.std.specs.Prelude.{if◌then◌else◌, option_map}
use Rattle.std.specs.List.{range_with_len}
use Rattle.std.proofs.Math.ListN.{get_or-append}
use Rattle.std.proofs.Math.Seq.{get_or-append_seam, take-suc}
use Rattle.std.proofs.lemmas.Grind.{flat_map-append}
use Rattle.std.proofs.lemmas.Bool.{cases_eq, cases_lt, or_parts}
use Rattle.std.proofs.lemmas.List.{length-append, length-set}
use Rattle.std.proofs.lemmas.Option.{none-some, same_Some, slice_get_within, slice_get-get_or, get_or_from_slice_get}
use Rattle.std.proofs.lemmas.List.FromFn.{map-range_with_len_more}
use Rattle.dft_base.specs.declared.tri.Tri.{Tri}
use Rattle.dft_base.specs.declared.tri.Tri.TheVariants.{Unknown}
use Rattle.dft_cells.specs.declared.kind.Role.{Role}
use Rattle.dft_cells.specs.declared.kind.Role.TheVariants as role
use Rattle.dft_netlist.specs.declared.ids.NetId.{NetId}
use Rattle.dft_netlist.specs.declared.ids.InstanceId.{InstanceId}
use Rattle.dft_netlist.specs.declared.instance.Signal.{Signal}
use Rattle.dft_netlist.specs.declared.instance.Signal.TheVariants as signal
use Rattle.dft_netlist.specs.Netlist.{Netlist}
use Rattle.dft_netlist.specs.Connections.{joined_to, signal_of, pin_of, same_role}
use Rattle.dft_behavior.specs.declared.root.ClockRoot as declared
use Rattle.dft_behavior.specs.ClockRoots.{ClockRoot, clock_root_of}
use Rattle.dft_behavior.specs.Roots.{shown_clock}
use Rattle.dft_netlist.specs.Drivers.{Source, Connection, pins_of, source_of}
use Rattle.dft_behavior.specs.Logic.{Cell, or_loose, plain}
use Rattle.dft_behavior.specs.Runs.{takes}
use Rattle.dft_behavior.specs.Settled.{value_from}
use Rattle.dft_netlist.proofs.DriveLemmas.{get_set_other, get_set_same}
use Rattle.dft_behavior.proofs.StoredLemmas.{flop_cell}
use Rattle.dft_cells.specs.FlipFlops.{tri_taken_by, tri_forced_by}
use Rattle.dft_config.specs.Config.{Config}
use Rattle.dft_rules.specs.Rules.{is_net}
use Rattle.dft_stitch.specs.Chains.{plan_of}
use Rattle.dft_cubes.specs.declared.cube.Merged.{Merged}
use Rattle.dft_expect.specs.declared.pattern.Pattern.{Pattern}
use Rattle.dft_expect.specs.declared.response.Response.{Response}
use Rattle.dft_expect.specs.declared.reads.Read.{Read}
use Rattle.dft_expect.specs.Loaded.{all_cells, loaded_values, or_unknown}
use Rattle.dft_expect.specs.Captures.{after_edges, capture_clock, captured_domains, is_chained, original, output_bits, config_ports, vector_of}
use Rattle.dft_expect.specs.Capturing.{AreResponses, CanCapture, CanFall, CapturedBehind, HasPulsed, IsReadyFor, IsRisen, cells_in, risen_values, state_behind}
use Rattle.dft_expect.specs.Reads.{AreReads, IsReadOf, any_falls, clock_at, clock_of, is_at, is_falling, or_unconnected, read_at, read_value, value_of_signal}
use Rattle.dft_expect.proofs.CellNumbers.{bit_is, stands_once}
use Rattle.dft_expect.proofs.PulseLemmas.{pulse_ends, stays_apart}
use Rattle.dft_expect.proofs.VectorLemmas.{chained, there}
use Rattle.dft_expect.proofs.GivenLemmas.{number_modelled, stays}
use Rattle.dft_expect.proofs.ScannedCells.{IsModelled}

-- ---- what a pin is joined to

source_value : (values : ℕ → Tri) (i pin : ℕ) (s : Signal) → value_of_signal values s ≡ value_from values (source_of i pin s)
source_value values i pin (signal.Net net) = refl
source_value values i pin (signal.Constant bit) = refl
source_value values i pin signal.Unconnected = refl

value_by : (values : ℕ → Tri) (r : Role) (i : ℕ) (c : Connection) (cs : List Connection) (b : Bool) → value_of_signal values (or_unconnected (signal_of r cs)) ≡ value_from values (or_loose i (pin_of r i cs))
    → value_of_signal values (or_unconnected (option_map joined_to (cond b (Some c) (find (λ d. same_role r d.role) cs)))) ≡ value_from values (or_loose i (if b then Some (source_of i c.pin c.to) else pin_of r i cs))
value_by values r i c cs true more = source_value values i c.pin c.to
value_by values r i c cs false more = more

pub pin_value : (values : ℕ → Tri) (r : Role) (i : ℕ) (cs : List Connection) → value_of_signal values (or_unconnected (signal_of r cs)) ≡ value_from values (or_loose i (pin_of r i cs))
pin_value values r i [] = refl
pin_value values r i (c ∷ cs) = value_by values r i c cs (same_role r c.role) (pin_value values r i cs)

clock_same : (n : Netlist) (i pin : ℕ) (s : Signal) → clock_root_of n (source_of 0 0 s) ≡ clock_root_of n (source_of i pin s)
clock_same n i pin (signal.Net net) = refl
clock_same n i pin (signal.Constant bit) = refl
clock_same n i pin signal.Unconnected = refl

clock_by : (n : Netlist) (r : Role) (i : ℕ) (c : Connection) (cs : List Connection) (b : Bool) → clock_at n (signal_of r cs) ≡ clock_of n (pin_of r i cs)
    → clock_at n (option_map joined_to (cond b (Some c) (find (λ d. same_role r d.role) cs))) ≡ clock_of n (if b then Some (source_of i c.pin c.to) else pin_of r i cs)
clock_by n r i c cs true more = clock_same n i c.pin c.to
clock_by n r i c cs false more = more

pub pin_clock : (n : Netlist) (r : Role) (i : ℕ) (cs : List Connection) → clock_at n (signal_of r cs) ≡ clock_of n (pin_of r i cs)
pin_clock n r i [] = refl
pin_clock n r i (c ∷ cs) = clock_by n r i c cs (same_role r c.role) (pin_clock n r i cs)

-- the read of an instance with these pins
pub read_made : (n : Netlist) (i : ℕ) (read : Read) → shown_clock read.clock ≡ clock_at n (signal_of role.Clock (pins_of n i)) → read.input ≡ or_unconnected (signal_of role.Din (pins_of n i)) → IsReadOf n i read
read_made n i read clock pin = record {
  clock = clock ∙ pin_clock n role.Clock i (pins_of n i);
  input = λ values. ap (value_of_signal values) pin ∙ pin_value values role.Din i (pins_of n i);
}

-- ---- the reads of cells, one after another

read_case : (n : Netlist) (cells : List InstanceId) (reads : List Read) (x : InstanceId) (r : Read) (number : ℕ) (cell : InstanceId) → AreReads n cells reads → IsReadOf n x.0 r → (number < length cells) ⊎ (length cells ≤ number)
    → slice_get (cells ++ x ∷ []) number ≡ Some cell → IsReadOf n cell.0 (read_at (reads ++ r ∷ []) number)
read_case n cells reads x r number cell are is (inl less) at =
    let item : get_or cells number cell ≡ cell = sym (get_or-append cells (x ∷ []) cell number less) ∙ get_or_from_slice_get (cells ++ x ∷ []) number cell cell at in
    let here : slice_get cells number ≡ Some cell = slice_get-get_or cells number cell less ∙ ap (λ (y : InstanceId). Some y) item in
    subst (λ (q : Read). IsReadOf n cell.0 q) (sym (get_or-append reads (r ∷ []) _ number (omega (arith, less, are.count)))) (are.each number cell here)
read_case n cells reads x r number cell are is (inr past) at =
    let less = slice_get_within (cells ++ x ∷ []) number cell at in
    let last : number ≡ length cells = omega (arith, past, less, length-append cells (x ∷ [])) in
    let same : x ≡ cell = sym (get_or-append_seam cells x [] cell) ∙ ap (λ (k : ℕ). get_or (cells ++ x ∷ []) k cell) (sym last) ∙ get_or_from_slice_get (cells ++ x ∷ []) number cell cell at in
    subst (λ (y : InstanceId). IsReadOf n y.0 (read_at (reads ++ r ∷ []) number)) same
    (subst (λ (q : Read). IsReadOf n x.0 q) (sym (ap (read_at (reads ++ r ∷ [])) (last ∙ sym are.count) ∙ get_or-append_seam reads r [] _)) is)

pub reads_more : (n : Netlist) (cells : List InstanceId) (reads : List Read) (x : InstanceId) (r : Read) → AreReads n cells reads → IsReadOf n x.0 r → AreReads n (cells ++ x ∷ []) (reads ++ r ∷ [])
reads_more n cells reads x r are is = record {
  count = length-append reads (r ∷ []) ∙ omega (arith, are.count, length-append cells (x ∷ []));
  each = λ number cell at. read_case n cells reads x r number cell are is (cases_lt number (length cells)) at;
}

pub reads_on : (n : Netlist) (before cells : List InstanceId) (k : ℕ) (x : InstanceId) (r : Read) (old new : List Read) → slice_get cells k ≡ Some x → AreReads n (before ++ take k cells) old → IsReadOf n x.0 r → new ≡ old ++ r ∷ [] → AreReads n (before ++ take (k + 1) cells) new
reads_on n before cells k x r old new at are is more =
    let less = slice_get_within cells k x at in
    let next : k + 1 ≡ suc k = omega arith in
    let one : take (k + 1) cells ≡ take k cells ++ x ∷ [] = ap (λ (j : ℕ). take j cells) next ∙ take-suc cells k x less ∙ ap (λ (y : InstanceId). take k cells ++ y ∷ []) (get_or_from_slice_get cells k x x at) in
    let all : (before ++ take k cells) ++ x ∷ [] ≡ before ++ take (k + 1) cells = append_assoc before (take k cells) (x ∷ []) ∙ ap (λ (l : List InstanceId). before ++ l) (sym one) in
    subst (λ (l : List InstanceId). AreReads n l new) all (subst (λ (l : List Read). AreReads n ((before ++ take k cells) ++ x ∷ []) l) (sym more) (reads_more n (before ++ take k cells) old x r are is))

-- the cells of one chain more
all_more : (chains : List (List InstanceId)) (k : ℕ) (cells : List InstanceId) → slice_get chains k ≡ Some cells → all_cells (take k chains) ++ cells ≡ all_cells (take (k + 1) chains)
all_more chains k cells at =
    let less = slice_get_within chains k cells at in
    let next : k + 1 ≡ suc k = omega arith in
    sym (
    ap (λ (j : ℕ). all_cells (take j chains)) next ∙ ap all_cells (take-suc chains k cells less ∙ ap (λ (y : List InstanceId). take k chains ++ y ∷ []) (get_or_from_slice_get chains k cells cells at))
    ∙ flat_map-append (λ (c : List InstanceId). c) (take k chains) (cells ∷ []) ∙ ap (λ (l : List InstanceId). all_cells (take k chains) ++ l) (append-nil cells))

pub chains_on : (n : Netlist) (chains : List (List InstanceId)) (k : ℕ) (cells : List InstanceId) (old new : List Read) → slice_get chains k ≡ Some cells → AreReads n (all_cells (take k chains)) old
    → ((before : List InstanceId) → AreReads n before old → AreReads n (before ++ cells) new) → AreReads n (all_cells (take (k + 1) chains)) new
chains_on n chains k cells old new at are more = subst (λ (l : List InstanceId). AreReads n l new) (all_more chains k cells at) (more (all_cells (take k chains)) are)

-- ---- what is read of a cell

edge_same : (read : Option declared.ClockRoot) (captures : Option NetId) (rising : Bool) (clock : ClockRoot) → shown_clock read ≡ Some clock → is_at read captures rising ≡ (is_net clock.port captures && takes rising clock.inverted)
edge_same None captures rising clock is = absurd (none-some clock is)
edge_same (Some root) captures rising clock is = ap (λ (c : ClockRoot). is_net c.port captures && takes rising c.inverted) (same_Some (record { port = root.port.0; inverted = root.inverted }) clock is)

-- what is read of a cell at an edge is what it has after it
pub read_is : (n : Netlist) (config : Config) (merged : Merged) (domain : ℕ) (rising : Bool) (values state : ℕ → Tri) (number : ℕ) (cell : InstanceId) (before : Tri) (read : Read) → CanCapture n config → slice_get (cells_in n config) number ≡ Some cell → IsReadOf n cell.0 read → before ≡ state cell.0
    → read_value values (capture_clock n config domain) rising before read ≡ after_edges (original n config) (plan_of n config).chains (vector_of n config merged domain) rising values state cell.0
read_is n config merged domain rising values state number cell before read can at is had =
    let i : ℕ = cell.0 in
    let chains : List (List InstanceId) = (plan_of n config).chains in
    let x = vector_of n config merged domain in
    let captures : Option NetId = capture_clock n config domain in
    let m : IsModelled n config i = number_modelled n config number i can at in
    let input : Source = or_loose i (pin_of role.Din i (pins_of n i)) in
    let q : Cell = record { domain = m.clock.port; falling = m.clock.inverted; takes = plain input; forces = m.forces } in
    let e : (original n config).cell i ≡ q = flop_cell n (config_ports n config) i q m.flop in
    let idle : tri_forced_by m.forces x.ports (value_from values input) ≡ value_from values input =
    ap (λ (c : Cell). tri_forced_by c.forces x.ports (value_from values input)) (sym e) ∙ stays n config merged i (value_from values input) in
    let edge : is_at read.clock captures rising ≡ (is_net m.clock.port captures && takes rising m.clock.inverted) = edge_same read.clock captures rising m.clock (is.clock ∙ ap (clock_of n) m.pin ∙ m.root) in
    let here : is_chained chains i ≡ true = chained (all_cells chains) number i at in
    let test : is_at read.clock captures rising ≡ (is_chained chains i && (is_net m.clock.port captures && takes rising m.clock.inverted)) = edge ∙ ap (λ (b : Bool). b && (is_net m.clock.port captures && takes rising m.clock.inverted)) (sym here) in
    (λ j. if test j then (is.input values ∙ sym idle) j else had j)
    ∙ ap (λ (c : Cell). if is_chained chains i && (is_net c.domain captures && takes rising c.falling) then tri_forced_by c.forces x.ports (tri_taken_by c.takes (state i) (value_from values)) else state i) (sym e)

-- ---- all cells

map_numbers : (f : ℕ → Tri) (g : InstanceId → Tri) (a : ℕ) (xs : List InstanceId) → ((k : ℕ) (x : InstanceId) → slice_get xs k ≡ Some x → f (a + k) ≡ g x) → map f (range_with_len a (length xs)) ≡ map g xs
map_numbers f g a [] each = refl
map_numbers f g a (x ∷ xs) each =
    let here : a + 0 ≡ a = omega arith in
    λ j. (ap f (sym here) ∙ each 0 x refl) j ∷ map_numbers f g (a + 1) xs (λ k y at. (let next : a + 1 + k ≡ a + suc k = omega arith in ap f next ∙ each (suc k) y at)) j

-- what is read of all cells at an edge
pub cells_read : (n : Netlist) (config : Config) (merged : Merged) (domain : ℕ) (rising : Bool) (values state : ℕ → Tri) (before : ℕ → Tri) (reads : List Read) → CanCapture n config → AreReads n (cells_in n config) reads
    → ((number : ℕ) (cell : InstanceId) → slice_get (cells_in n config) number ≡ Some cell → before number ≡ state cell.0)
    → map (λ number. read_value values (capture_clock n config domain) rising (before number) (read_at reads number)) (range_with_len 0 (length reads))
    ≡ map (λ (cell : InstanceId). after_edges (original n config) (plan_of n config).chains (vector_of n config merged domain) rising values state cell.0) (cells_in n config)
cells_read n config merged domain rising values state before reads can are had =
    (λ j. map (λ number. read_value values (capture_clock n config domain) rising (before number) (read_at reads number)) (range_with_len 0 (are.count j)))
    ∙ map_numbers (λ number. read_value values (capture_clock n config domain) rising (before number) (read_at reads number))
    (λ (cell : InstanceId). after_edges (original n config) (plan_of n config).chains (vector_of n config merged domain) rising values state cell.0) 0 (cells_in n config)
    (λ k cell at. (
    let from : 0 + k ≡ k = omega arith in
    ap (λ number. read_value values (capture_clock n config domain) rising (before number) (read_at reads number)) from ∙ read_is n config merged domain rising values state k cell (before k) (read_at reads k) can at (are.each k cell at) (had k cell at)))

-- at the rises
pub risen : (n : Netlist) (config : Config) (pattern : Pattern) (count domain : ℕ) (values : ℕ → Tri) (captures : Option NetId) (reads : List Read) (outputs : List NetId) (old new : Response) → CanCapture n config → AreReads n (cells_in n config) reads → outputs ≡ output_bits n.ports
    → captures ≡ capture_clock n config domain → new.cells ≡ map (λ number. read_value values captures true (get_or old.cells number Unknown) (read_at reads number)) (range_with_len 0 (length reads))
    → new.outputs ≡ old.outputs ++ map (λ (net : NetId). values net.0) outputs → IsReadyFor n config pattern count old values → IsRisen n config pattern count domain new values
risen n config pattern count domain values captures reads outputs old new can are bits clock cells shown ready =
    let before = ready.behind in
    let state : ℕ → Tri = state_behind n config pattern count old before in
    record {
      old = old;
      before = before;
      settled = ready.settled;
      cells =
          cells ∙ (λ j. map (λ number. read_value values (clock j) true (get_or old.cells number Unknown) (read_at reads number)) (range_with_len 0 (length reads)))
          ∙ cells_read n config pattern.merged.now domain true values state (λ number. get_or old.cells number Unknown) reads can are (λ number cell at. there (λ (c : InstanceId). state c.0) old.cells (cells_in n config) number cell before.cells at);
      outputs = shown ∙ ap (λ (nets : List NetId). old.outputs ++ map (λ (net : NetId). values net.0) nets) bits;
    }

-- at the falls
pub fallen : (n : Netlist) (config : Config) (pattern : Pattern) (count domain : ℕ) (values : ℕ → Tri) (captures : Option NetId) (reads : List Read) (old new : Response) → CanCapture n config → AreReads n (cells_in n config) reads
    → captures ≡ capture_clock n config domain → new.cells ≡ map (λ number. read_value values captures false (get_or old.cells number Unknown) (read_at reads number)) (range_with_len 0 (length reads)) → new.outputs ≡ old.outputs
    → slice_get (captured_domains pattern.merged.now) count ≡ Some domain → CanFall n config pattern count domain old values → HasPulsed n config pattern (count + 1) new values
fallen n config pattern count domain values captures reads old new can are clock cells shown at falls =
    let is = falls.risen in
    let state : ℕ → Tri = risen_values n config pattern domain falls.first (state_behind n config pattern count is.old is.before) in
    pulse_ends n config pattern count domain is.old new falls.first values is.before is.settled falls.settled at
    (cells ∙ (λ j. map (λ number. read_value values (clock j) false (get_or old.cells number Unknown) (read_at reads number)) (range_with_len 0 (length reads)))
    ∙ cells_read n config pattern.merged.now domain false values state (λ number. get_or old.cells number Unknown) reads can are (λ number cell stands. there (λ (c : InstanceId). state c.0) old.cells (cells_in n config) number cell is.cells stands))
    (shown ∙ is.outputs) values state falls.settled (λ cell apart. stays_apart (original n config) (plan_of n config).chains (vector_of n config pattern.merged.now domain) false values state cell apart)

-- before all vectors the cells have their loaded bits
pub begun : (n : Netlist) (config : Config) (pattern : Pattern) (reads : List Read) (r : Response) → CanCapture n config → AreReads n (cells_in n config) reads
    → r.cells ≡ map (λ number. or_unknown (slice_get pattern.loaded.now number)) (range_with_len 0 (length reads)) → r.outputs ≡ [] → CapturedBehind n config pattern 0 r
begun n config pattern reads r can are cells outputs =
    let loaded = pattern.loaded.now in
    record {
      settled = [];
      are = tt;
      cells =
          cells ∙ (λ j. map (λ number. or_unknown (slice_get loaded number)) (range_with_len 0 (are.count j)))
          ∙ map_numbers (λ number. or_unknown (slice_get loaded number)) (λ (cell : InstanceId). loaded_values (plan_of n config).chains loaded cell.0) 0 (cells_in n config)
          (λ k cell at. (
          let from : 0 + k ≡ k = omega arith in
          ap (λ number. or_unknown (slice_get loaded number)) from ∙ sym (ap or_unknown (bit_is (cells_in n config) loaded k cell.0 (λ j i one two. stands_once n config j i cell can one two) at))));
      outputs = outputs;
    }

pub values_more : (f : ℕ → Tri) (old new : List Tri) (k : ℕ) (value : Tri) → old ≡ map f (range_with_len 0 k) → new ≡ old ++ value ∷ [] → value ≡ f k → new ≡ map f (range_with_len 0 (k + 1))
values_more f old new k value before more is = more ∙ (λ i. before i ++ is i ∷ []) ∙ sym (map-range_with_len_more f 0 k k (omega arith))

-- ---- the responses of all patterns

-- one response more
pushed_case : (Done : Pattern → Response → Type 0) (patterns : List Pattern) (place : ℕ) (here : Pattern) (old new : List Response) (r : Response) → length old ≡ place
    → ((p : ℕ) (pattern : Pattern) (q : Response) → slice_get patterns p ≡ Some pattern → slice_get old p ≡ Some q → Done pattern q) → slice_get patterns place ≡ Some here → Done here r → new ≡ old ++ r ∷ []
    → (p : ℕ) (pattern : Pattern) (q : Response) → slice_get patterns p ≡ Some pattern → slice_get new p ≡ Some q → (p < length old) ⊎ (length old ≤ p) → Done pattern q
pushed_case Done patterns place here old new r count each at is more p pattern q there found (inl less) =
    let item : get_or old p q ≡ q = sym (get_or-append old (r ∷ []) q p less) ∙ ap (λ (l : List Response). get_or l p q) (sym more) ∙ get_or_from_slice_get new p q q found in
    each p pattern q there (slice_get-get_or old p q less ∙ ap (λ (y : Response). Some y) item)
pushed_case Done patterns place here old new r count each at is more p pattern q there found (inr past) =
    let less = slice_get_within new p q found in
    let last : p ≡ length old = omega (arith, past, less, ap length more, length-append old (r ∷ [])) in
    let same : r ≡ q = sym (get_or-append_seam old r [] q) ∙ ap (λ (k : ℕ). get_or (old ++ r ∷ []) k q) (sym last) ∙ ap (λ (l : List Response). get_or l p q) (sym more) ∙ get_or_from_slice_get new p q q found in
    let one : here ≡ pattern = same_Some here pattern (sym at ∙ ap (slice_get patterns) (sym (last ∙ count)) ∙ there) in
    subst (λ (x : Pattern). Done x q) one (subst (λ (y : Response). Done here y) same is)

pub pushed_more : (Done : Pattern → Response → Type 0) (patterns : List Pattern) (place : ℕ) (here : Pattern) (old new : List Response) (r : Response) → (count : length old ≡ place)
    → (each : ((p : ℕ) (pattern : Pattern) (q : Response) → slice_get patterns p ≡ Some pattern → slice_get old p ≡ Some q → Done pattern q)) → (at : slice_get patterns place ≡ Some here) → (is : Done here r) → (more : new ≡ old ++ r ∷ [])
    → (p : ℕ) (pattern : Pattern) (q : Response) → (there : slice_get patterns p ≡ Some pattern) → (found : slice_get new p ≡ Some q) → Done pattern q
pushed_more Done patterns place here old new r count each at is more p pattern q there found = pushed_case Done patterns place here old new r count each at is more p pattern q there found (cases_lt p (length old))

-- of the first so many patterns this holds, and the responses of the others are as before
pub record AreUpTo (Done : (place : ℕ) → Pattern → Response → Type 0) (patterns : List Pattern) (done : ℕ) (old new : List Response) : Type 0 where
  pub count : length new ≡ length old
  pub each : (p : ℕ) (pattern : Pattern) (r : Response) → p < done → slice_get patterns p ≡ Some pattern → slice_get new p ≡ Some r → Done p pattern r
  pub left : (p : ℕ) → done ≤ p → slice_get new p ≡ slice_get old p

-- one pattern more, whose response is this one now
pub up_to_set : (Done : (place : ℕ) → Pattern → Response → Type 0) (patterns : List Pattern) (done : ℕ) (here : Pattern) (old cur : List Response) (was r : Response) → AreUpTo Done patterns done old cur → slice_get patterns done ≡ Some here → slice_get cur done ≡ Some was → Done done here r
    → AreUpTo Done patterns (done + 1) old (slice_set cur done r)
up_to_set Done patterns done here old cur was r before at stood is = record {
  count = length-set cur done r ∙ before.count;
  each = λ p pattern q below there found. one p pattern q below there found (cases_eq p done);
  left = λ p past. get_set_other cur done p r (λ e. (let no : ⊥ = omega (arith, past, e) in no)) ∙ before.left p (omega (arith, past));
}
  where
    one : (p : ℕ) (pattern : Pattern) (q : Response) → p < done + 1 → slice_get patterns p ≡ Some pattern → slice_get (slice_set cur done r) p ≡ Some q → (p ≡ done) ⊎ (p ≢ done) → Done p pattern q
    one p pattern q below there found (inl e) =
        let same : here ≡ pattern = same_Some here pattern (sym at ∙ ap (slice_get patterns) (sym e) ∙ there) in
        let own : r ≡ q = same_Some r q (sym (get_set_same cur done was r stood) ∙ ap (slice_get (slice_set cur done r)) (sym e) ∙ found) in
        subst (λ (k : ℕ). Done k pattern q) (sym e) (subst (λ (x : Pattern). Done done x q) same (subst (λ (y : Response). Done done here y) own is))
    one p pattern q below there found (inr ne) = before.each p pattern q (omega (arith, below, ne)) there (sym (get_set_other cur done p r (λ e. ne (sym e))) ∙ found)

-- one pattern more, whose response stays
pub up_to_kept : (Done : (place : ℕ) → Pattern → Response → Type 0) (patterns : List Pattern) (done : ℕ) (here : Pattern) (old cur : List Response) → AreUpTo Done patterns done old cur → slice_get patterns done ≡ Some here → ((was : Response) → slice_get old done ≡ Some was → Done done here was)
    → AreUpTo Done patterns (done + 1) old cur
up_to_kept Done patterns done here old cur before at is = record {
  count = before.count;
  each = λ p pattern q below there found. one p pattern q below there found (cases_eq p done);
  left = λ p past. before.left p (omega (arith, past));
}
  where
    one : (p : ℕ) (pattern : Pattern) (q : Response) → p < done + 1 → slice_get patterns p ≡ Some pattern → slice_get cur p ≡ Some q → (p ≡ done) ⊎ (p ≢ done) → Done p pattern q
    one p pattern q below there found (inl e) =
        let same : here ≡ pattern = same_Some here pattern (sym at ∙ ap (slice_get patterns) (sym e) ∙ there) in
        subst (λ (k : ℕ). Done k pattern q) (sym e) (subst (λ (x : Pattern). Done done x q) same (is q (sym (ap (slice_get old) e) ∙ sym (before.left p (omega (arith, e))) ∙ found)))
    one p pattern q below there found (inr ne) = before.each p pattern q (omega (arith, below, ne)) there found

-- of all of them
pub up_to_all : (Done : (place : ℕ) → Pattern → Response → Type 0) (patterns : List Pattern) (done : ℕ) (old new : List Response) → AreUpTo Done patterns done old new → length patterns ≤ done → length old ≡ length patterns → AreResponses Done patterns new
up_to_all Done patterns done old new are whole count = record {
  count = are.count ∙ count;
  each = λ p pattern r there found. are.each p pattern r (omega (arith, whole, slice_get_within patterns p pattern there)) there found;
}

-- ---- where no cell falls

falls_as : (read : Option declared.ClockRoot) (clock : ClockRoot) → shown_clock read ≡ Some clock → is_falling read ≡ clock.inverted
falls_as None clock is = absurd (none-some clock is)
falls_as (Some root) clock is = ap (λ (c : ClockRoot). c.inverted) (same_Some (record { port = root.port.0; inverted = root.inverted }) clock is)

none_at : (reads : List Read) (number : ℕ) → any_falls reads ≡ false → is_falling (read_at reads number).clock ≡ false
none_at [] number none = refl
none_at (read ∷ reads) zero none = (or_parts (is_falling read.clock) (any_falls reads) none).0
none_at (read ∷ reads) (suc number) none = none_at reads number (or_parts (is_falling read.clock) (any_falls reads) none).1

pub none_falls : (n : Netlist) (config : Config) (reads : List Read) (number : ℕ) (cell : InstanceId) → CanCapture n config → AreReads n (cells_in n config) reads → any_falls reads ≡ false → slice_get (cells_in n config) number ≡ Some cell → ((original n config).cell cell.0).falling ≡ false
none_falls n config reads number cell can are none at =
    let m : IsModelled n config cell.0 = number_modelled n config number cell.0 can at in
    let read : Read = read_at reads number in
    ap (λ (c : Cell). c.falling) (flop_cell n (config_ports n config) cell.0 _ m.flop) ∙ sym (falls_as read.clock m.clock ((are.each number cell at).clock ∙ ap (clock_of n) m.pin ∙ m.root)) ∙ none_at reads number none

-- The vectors of compiled patterns: a set-up vector, for each pattern its load and its captures, and a last load that unloads the last
-- pattern (Rajski and others, 2004).
use Rattle.std.specs.Prelude.{ℕ, ◌+◌, false, Bool, List, [], ◌∷◌, ◌++◌, length, map, take, drop, sum_by, Option, None, Some}
use Rattle.std.specs.List.{range_with_len}
use Rattle.dft_base.specs.Solutions.{bit_at}
use Rattle.dft_netlist.specs.Netlist.{Netlist}
use Rattle.dft_config.specs.Config.{Config}
use Rattle.dft_config.specs.Ring.{Table}
use Rattle.dft_stitch.specs.Plans.{Plan, falling_head}
use Rattle.dft_config.specs.Segments.{sent_mask}
use Rattle.dft_expect.specs.Captures.{vector_of, output_bits}
use Rattle.dft_expect.specs.Expected.{output_bit}
use Rattle.dft_base.specs.declared.tri.Tri.{Tri}
use Rattle.dft_cubes.specs.declared.cube.Merged.{Merged}
use Rattle.dft_cubes.specs.Domains.{later_of, captures_of}
use Rattle.dft_expect.specs.Masks.{by_chain}
use Rattle.dft_patterns.specs.declared.act.Act.{Act}
use Rattle.dft_patterns.specs.declared.notes.Note.{Note}
use Rattle.dft_patterns.specs.declared.notes.NoteKind.TheVariants.{SetUp, Pattern, Unload}
use Rattle.dft_patterns.specs.Patterns.{Patterns}
use Rattle.dft_vectors.specs.Signals.{signals_of}
use Rattle.dft_vectors.specs.OwnPorts.{expect, compare, quiet_vector, pulsing_vector, inputs_by, ignored, outputs_ignored}
use Rattle.dft_vectors.specs.AddedPorts.{clearing, waiting, shifting}
use Rattle.dft_vectors.specs.PatternData.{PatternData, load_of, merged_of}

-- ---- the kinds of vectors; inputs come before outputs, and the design's before the added ones

-- the set-up vector: only edt_clock pulses, with edt_update 1, and nothing is compared
abbrev pub set_up_acts : Netlist → Config → List Act
set_up_acts n config = inputs_by n (quiet_vector n config) ++ (clearing config ++ (outputs_ignored n ++ ignored (length config.compactor.groups)))

-- What the compactor's outputs are to show in a cycle of a load: what the pattern before it captured comes out, while the bits of this
-- load come in. The first load compares nothing.
abbrev pub unloaded : Config → Plan → (load : Table) → (before : Option PatternData) → (cycle : ℕ) → List Act
unloaded config plan load None t = ignored (length config.compactor.groups)
unloaded config plan load (Some p) t = map (λ group. expect (output_bit config.ring load (falling_head plan) p.masks (by_chain plan.chains p.response.cells) t group)) config.compactor.groups

-- The inputs in a cycle of a load: every clock pulses, the channels carry the load's bits and the mask ports send the masks.
abbrev pub shift_inputs : Netlist → Config → Plan → (load : Table) → (masks : List Bool) → (cycle : ℕ) → List Act
shift_inputs n config plan load masks t =
    inputs_by n (pulsing_vector n config) ++ shifting config (λ channel. load channel t) (λ segment. sent_mask config (bit_at masks) plan.cycles segment t)

-- a shift vector, in which the compactor's outputs do this
abbrev pub shift_with : Netlist → Config → Plan → (load : Table) → (masks : List Bool) → (cycle : ℕ) → (shown : List Act) → List Act
shift_with n config plan load masks t shown = shift_inputs n config plan load masks t ++ (outputs_ignored n ++ shown)

abbrev pub shift_acts : Netlist → Config → Plan → (load : Table) → (masks : List Bool) → (before : Option PatternData) → (cycle : ℕ) → List Act
shift_acts n config plan load masks before t = shift_with n config plan load masks t (unloaded config plan load before t)

-- the vectors of a load
abbrev pub load_vectors : Netlist → Config → Plan → (load : Table) → (masks : List Bool) → (before : Option PatternData) → List (List Act)
load_vectors n config plan load masks before = map (shift_acts n config plan load masks before) (range_with_len 0 plan.cycles)

-- A capture vector of a pattern: the clock of one domain pulses, the added inputs do this, and each output of the design is compared that
-- the capture knows.
abbrev pub capture_with : Netlist → Config → Merged → (domain : ℕ) → (added : List Act) → (outputs : List Tri) → List Act
capture_with n config merged domain added outputs =
    inputs_by n (vector_of n config merged domain) ++ (added ++ (map compare outputs ++ ignored (length config.compactor.groups)))

-- The capture vectors of a pattern from a domain on: each compares its own of the outputs that are left. In the last one edt_clock pulses
-- with edt_update 1, which clears the ring for the next load; in those before it edt_clock rests.
abbrev pub captures_with : Netlist → Config → Merged → (domain : ℕ) → (later : List ℕ) → (outputs : List Tri) → List (List Act)
captures_with n config merged domain [] outputs = capture_with n config merged domain (clearing config) outputs ∷ []
captures_with n config merged domain (next ∷ later) outputs =
    let own = length (output_bits n.ports) in
    capture_with n config merged domain (waiting config) (take own outputs) ∷ captures_with n config merged next later (drop own outputs)

-- those of its captured domains, one for each
abbrev pub capture_list : Netlist → Config → Merged → (outputs : List Tri) → List (List Act)
capture_list n config merged outputs = captures_with n config merged merged.domains.first (later_of merged.domains) outputs

abbrev pub capture_acts : Netlist → Config → PatternData → List (List Act)
capture_acts n config p = capture_list n config p.merged p.response.outputs

-- ---- the list

-- the load and the captures of each pattern, behind one that captured this
abbrev pub pattern_vectors : Netlist → Config → Plan → (before : Option PatternData) → List PatternData → List (List Act)
pattern_vectors n config plan before [] = []
pattern_vectors n config plan before (p ∷ patterns) =
    load_vectors n config plan (load_of config p) p.masks before ++ (capture_acts n config p ++ pattern_vectors n config plan (Some p) patterns)

-- the last of some patterns, or else the one before them
abbrev pub last_of : (before : Option PatternData) → List PatternData → Option PatternData
last_of before [] = before
last_of before (p ∷ patterns) = last_of (Some p) patterns

-- the set-up vector and the vectors of patterns, and nothing where there is no pattern
abbrev pub vectors_before_end : Netlist → Config → Plan → List PatternData → List (List Act)
vectors_before_end n config plan [] = []
vectors_before_end n config plan (p ∷ patterns) = set_up_acts n config ∷ pattern_vectors n config plan None (p ∷ patterns)

-- no channel bit is 1
abbrev pub no_table : Table
no_table channel cycle = false

-- the last load, whose channel and mask bits are 0
abbrev pub last_load : Netlist → Config → Plan → List PatternData → List (List Act)
last_load n config plan [] = []
last_load n config plan (p ∷ patterns) = load_vectors n config plan no_table [] (last_of None (p ∷ patterns))

abbrev pub vectors_of : Netlist → Config → Plan → List PatternData → List (List Act)
vectors_of n config plan patterns = vectors_before_end n config plan patterns ++ last_load n config plan patterns

-- ---- notes

-- how many capture vectors each of these patterns has
abbrev pub captures_in : List Merged → List ℕ
captures_in merged = map captures_of merged

-- how many vectors patterns take with so many captures each: a load and the captures
abbrev pub vectors_for : (cycles : ℕ) → (captures : List ℕ) → ℕ
vectors_for cycles captures = sum_by (λ count. cycles + count) captures

-- The number of the first shift vector of the pattern of this number, where patterns have so many captures each; behind the last pattern it
-- is that of the last load.
abbrev pub first_vector : (cycles : ℕ) → (captures : List ℕ) → (pattern : ℕ) → ℕ
first_vector cycles captures pattern = 1 + vectors_for cycles (take pattern captures)

abbrev pub pattern_note : (cycles : ℕ) → (captures : List ℕ) → (pattern : ℕ) → Note
pattern_note cycles captures pattern = record { before = first_vector cycles captures pattern; what = Pattern pattern }

abbrev pub last_note : (cycles : ℕ) → (captures : List ℕ) → Note
last_note cycles captures = record { before = first_vector cycles captures (length captures); what = Unload }

-- the notes of patterns with so many captures each: before the set-up vector, before each load, and before the last load
abbrev pub notes_of : (cycles : ℕ) → (captures : List ℕ) → List Note
notes_of cycles [] = []
notes_of cycles (count ∷ captures) =
    record { before = 0; what = SetUp } ∷ (map (pattern_note cycles (count ∷ captures)) (range_with_len 0 (length (count ∷ captures))) ++ last_note cycles (count ∷ captures) ∷ [])

-- ---- the set

-- the patterns of a design, in the signals of its written netlist
abbrev pub patterns_of : (written : Netlist) → Netlist → Config → Plan → List PatternData → Patterns
patterns_of written n config plan patterns = record {
  signals = signals_of written;
  vectors = vectors_of n config plan patterns;
  notes = notes_of plan.cycles (captures_in (map merged_of patterns));
}

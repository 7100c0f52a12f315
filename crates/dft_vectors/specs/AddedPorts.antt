-- What compiled vectors do at the added ports of style Edt (Rajski and others, 2004).
use Rattle.std.specs.Prelude.{ℕ, Bool, true, false, List, [], ◌∷◌, ◌++◌, map}
use Rattle.std.specs.List.{range_with_len}
use Rattle.dft_config.specs.Config.{Config}
use Rattle.dft_patterns.specs.declared.act.Act.{Act}
use Rattle.dft_patterns.specs.declared.act.Act.TheVariants.{Low, Pulse}
use Rattle.dft_vectors.specs.OwnPorts.{set_to}

-- numbered ports are set to these bits
abbrev pub set_all : (count : ℕ) → (ℕ → Bool) → List Act
set_all count bits = map (λ number. set_to (bits number)) (range_with_len 0 count)

-- whether edt_clock pulses; where it does not it is 0
abbrev pub ring_clock : (pulse : Bool) → Act
ring_clock true = Pulse
ring_clock false = Low

-- scan_enable, edt_clock and edt_update
abbrev pub controls : (enable pulse update : Bool) → List Act
controls enable pulse update = set_to enable ∷ ring_clock pulse ∷ set_to update ∷ []

-- these, then the channels and the mask ports
abbrev pub added_inputs : Config → (enable pulse update : Bool) → (channels masks : ℕ → Bool) → List Act
added_inputs config enable pulse update channels masks = controls enable pulse update ++ (set_all config.ring.channels channels ++ set_all config.compactor.mask_inputs masks)

-- no channel and no mask port is 1
abbrev pub no_bits : ℕ → Bool
no_bits number = false

-- a clearing vector: edt_clock pulses, edt_update is 1, scan_enable is 0
abbrev pub clearing : Config → List Act
clearing config = added_inputs config false true true no_bits no_bits

-- a waiting vector: edt_clock rests, edt_update and scan_enable are 0
abbrev pub waiting : Config → List Act
waiting config = added_inputs config false false false no_bits no_bits

-- a capture vector: the last one of a pattern clears, those before it wait
abbrev pub capturing : (last : Bool) → Config → List Act
capturing true = clearing
capturing false = waiting

-- a shift vector: scan_enable is 1, edt_clock pulses, edt_update is 0, and the channels and the mask ports have these bits
abbrev pub shifting : Config → (channels masks : ℕ → Bool) → List Act
shifting config channels masks = added_inputs config true true false channels masks

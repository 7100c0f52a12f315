-- What is made in the frame, and what is refused.
use Rattle.std.proofs.Common.{ℕ, ◌+◌, ◌≡◌, ◌≤◌, length, Option, None, Some, Result, Ok, Err, refl, ap, arith, ◌∙◌}
use Rattle.std.specs.Prelude.{option_map}
use Rattle.dft_netlist.specs.declared.error.NetlistError.{NetlistError}
use Rattle.dft_netlist.specs.declared.error.NetlistError.TheVariants.{MultipleDrivers, Loop, DuplicateName, TooMany, Memory}
use Rattle.dft_netlist.specs.declared.limits.TheConstants.{MAX_PORTS, MAX_NETS}
use Rattle.dft_netlist.specs.Netlist.{Netlist}
use Rattle.dft_netlist.specs.Sound.{IsNetlist}
use Rattle.dft_netlist.proofs.PortLemmas.{nets_from-length}
use Rattle.dft_netlist.proofs.LiveDriven.{ports_fit}
use Rattle.dft_config.specs.Config.{Config}
use Rattle.dft_config.specs.Range.{IsInRange}
use Rattle.dft_stitch.specs.Chains.{plan_of, cells_of}
use Rattle.dft_stitch.specs.Plans.{Plan}
use Rattle.dft_stitch.proofs.BlockLemmas.{chain_count}
use Rattle.dft_parts.specs.Parts.{Making, parts_refusal}
use Rattle.dft_parts.specs.Recipes.{Recipe, start_of, unless_refused, outcome}
use Rattle.dft_parts.specs.Recipes as recipes
use Rattle.dft_scan_frame.specs.Refusals.{IsRefusal}
use Rattle.dft_insert.specs.declared.style.Style.{Style}
use Rattle.dft_insert.specs.declared.style.Style.TheVariants.{Plain, Edt}
use Rattle.dft_insert.specs.Bounds.{EdtThere}
use Rattle.dft_insert.specs.Frame.{frame}
use Rattle.dft_insert.specs.Ports.{added_ports, gap_in, edt_nets}
use Rattle.dft_insert.specs.Refusals.{as_told}
use Rattle.dft_insert.proofs.Frames.{frame_nets, plain_count, edt_count}
use Rattle.dft_insert.proofs.MadeParts.{from_there}

-- ---- outcomes

none_by : {A : Type 0} (o : Option NetlistError) (a b : A) (s t : Making) → unless_refused o a s ≡ Ok (b, t) → o ≡ None
none_by None a b s t h = refl
none_by (Some e) a b s t h = absurd cc

pub made_passes : {A : Type 0} (r : Recipe A) (s t : Making) (a : A) → outcome r s ≡ Ok (a, t) → parts_refusal s (r (start_of s)).parts ≡ None
unfolding outcome
made_passes r s t a h = let g = r (start_of s) in none_by (parts_refusal s g.parts) g.value a _ t h

error_in : {A : Type 0} → NetlistError → Result (A × Making) NetlistError → NetlistError
error_in e (Ok p) = e
error_in e (Err d) = d

some_by : {A : Type 0} (o : Option NetlistError) (a : A) (s : Making) (e : NetlistError) → unless_refused o a s ≡ Err e → o ≡ Some e
unfolding error_in
some_by None a s e h = absurd cc
some_by (Some d) a s e h = ap (λ r. Some (error_in d r)) h

refused_is : {A : Type 0} (r : Recipe A) (s : Making) (e : NetlistError) → outcome r s ≡ Err e → parts_refusal s (r (start_of s)).parts ≡ Some e
unfolding outcome
refused_is r s e h = let g = r (start_of s) in some_by (parts_refusal s g.parts) g.value _ e h

-- a refusal of the parts is told
pub told_refused : {A : Type 0} (r : Recipe A) (s : Making) (e : NetlistError) → recipes.IsRefusal (outcome r s) e → IsRefusal (option_map as_told (parts_refusal s (r (start_of s)).parts)) (as_told e)
told_refused r s (MultipleDrivers name) h = ap (option_map as_told) (refused_is r s (MultipleDrivers name) h)
told_refused r s (Loop name) h = ap (option_map as_told) (refused_is r s (Loop name) h)
told_refused r s (DuplicateName name) h = ap (option_map as_told) (refused_is r s (DuplicateName name) h)
told_refused r s (TooMany what limit) h = ap (option_map as_told) (refused_is r s (TooMany what limit) h)
told_refused r s (Memory error) h = tt

-- ---- counts

-- as many chains are planned as configured
pub chains_planned : (n : Netlist) (config : Config) (plan : Plan) → plan ≡ plan_of n config → length plan.chains ≡ config.chains
chains_planned n config plan planned = ap (λ (p : Plan). length p.chains) planned ∙ chain_count (cells_of n config) config.chains

pub plain_room : (config : Config) → IsInRange config → length (added_ports Plain config) ≤ MAX_PORTS
plain_room config range = omega (arith, plain_count config, range.chains.1)

pub edt_room : (config : Config) → IsInRange config → length (added_ports Edt config) ≤ MAX_PORTS
edt_room config range = omega (arith, edt_count config, range.ring.channels.1, range.compactor.mask_inputs.1, range.compactor.outputs.1)

pub before_few : (n : Netlist) (config : Config) (style : Style) → IsNetlist n → (gap_in style n config).before ≤ MAX_NETS
before_few n config style sound = omega (arith, ports_fit n sound, sound.few_nets)

pub plain_ports_there : (n : Netlist) (config : Config) (plan : Plan) → IsNetlist n → plan ≡ plan_of n config → (gap_in Plain n config).before + 1 + config.chains + length plan.chains ≤ length (frame Plain n config).nets
plain_ports_there n config plan sound planned = omega (arith, frame_nets Plain n config, plain_count config, chains_planned n config plan planned, ports_fit n sound)

pub edt_ports_there : (n : Netlist) (config : Config) → IsNetlist n → EdtThere (frame Edt n config) config (edt_nets (gap_in Edt n config).before config)
edt_ports_there n config sound =
    let w : Netlist = frame Edt n config in
    let first : ℕ = (gap_in Edt n config).before in
    let masks : ℕ = first + 3 + config.ring.channels in
    let outputs : ℕ = masks + config.compactor.mask_inputs in
    let all : length w.nets ≡ length n.nets + length (added_ports Edt config) = frame_nets Edt n config in
    let added = edt_count config in
    let fit = ports_fit n sound in
    record {
      clock = omega (arith, all, added, fit);
      update = omega (arith, all, added, fit);
      channels = from_there w (first + 3) config.ring.channels (omega (arith, all, added, fit));
      masks = from_there w masks config.compactor.mask_inputs (omega (arith, all, added, fit));
      outputs = from_there w outputs (length config.compactor.groups) (omega (arith, all, added, fit));
      channel_count = nets_from-length (first + 3) config.ring.channels;
      mask_count = nets_from-length masks config.compactor.mask_inputs;
      output_count = nets_from-length outputs (length config.compactor.groups);
    }

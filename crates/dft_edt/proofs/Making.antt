-- The compactor as it is made.
use Rattle.std.proofs.Common.{ℕ, ◌≡◌, List, [], ◌∷◌, length, map, Result, Ok, sym, subst, ◌∙◌}
use Rattle.std.specs.List.{range_with_len}
use Rattle.dft_cells.specs.declared.kind.Gate.TheVariants.{Buf, Inv, And}
use Rattle.dft_netlist.specs.declared.ids.NetId.{NetId}
use Rattle.dft_netlist.specs.declared.error.NetlistError.{NetlistError}
use Rattle.dft_config.specs.Config.{Config}
use Rattle.dft_parts.specs.declared.edt_ports.EdtPorts.{EdtPorts}
use Rattle.dft_parts.specs.Parts.{Making}
use Rattle.dft_parts.specs.Recipes.{Recipe, ◌>>=◌, each, collect, net_at, a_gate, outcome, IsRefusal, Makes}
use Rattle.dft_parts.specs.Sums.{a_driving_gate, a_sum}
use Rattle.dft_parts.proofs.Outcomes.{then_ok, then_refused, same_makes}
use Rattle.dft_edt.specs.Hardware.{group_of}
use Rattle.dft_edt.specs.declared.mask_nets.MaskNets.{MaskNets}
use Rattle.dft_edt.specs.CompactorRecipe.{segments, masks_at, a_gated, an_output, a_compactor}

abbrev gate_end : (end : NetId) → (shown : NetId) → Recipe NetId
gate_end end shown = a_driving_gate And (shown ∷ end ∷ [])

pub gated_made : {X : Type 0} (hold end : NetId) (s t : Making) (shown : NetId) (view : X → NetId) (result : Result X NetlistError) (new : Making) → outcome (a_driving_gate Inv (hold ∷ [])) s ≡ Ok (shown, t) →
    Makes view (a_driving_gate And (shown ∷ end ∷ [])) t result new → Makes view (a_gated hold end) s result new
unfolding a_gated
gated_made hold end s t shown view result new h m =
    same_makes view (a_driving_gate Inv (hold ∷ []) >>= gate_end end) (gate_end end shown) s t result new (then_ok (a_driving_gate Inv (hold ∷ [])) (gate_end end) s t shown h) m

pub shown_refused : (hold end : NetId) (s : Making) (e : NetlistError) → IsRefusal (outcome (a_driving_gate Inv (hold ∷ [])) s) e → IsRefusal (outcome (a_gated hold end) s) e
unfolding a_gated
shown_refused hold end s e h = then_refused (a_driving_gate Inv (hold ∷ [])) (gate_end end) s e h

abbrev buffer_to : (port : NetId) → (sum : NetId) → Recipe (Unit {0})
buffer_to port sum = a_gate Buf (sum ∷ []) port

pub output_made : {X : Type 0} (config : Config) (ports : EdtPorts) (gated : List NetId) (output : ℕ) (s t : Making) (sum : NetId) (result : Result X NetlistError) (new : Making) → outcome (a_sum (map (net_at gated) (group_of config output))) s ≡ Ok (sum, t) →
    Makes (λ _. tt) (a_gate Buf (sum ∷ []) (net_at ports.outputs output)) t result new → Makes (λ _. tt) (an_output config ports gated output) s result new
unfolding an_output
output_made config ports gated output s t sum result new h m =
    same_makes (λ _. tt) (a_sum (map (net_at gated) (group_of config output)) >>= buffer_to (net_at ports.outputs output)) (buffer_to (net_at ports.outputs output) sum) s t result new
    (then_ok (a_sum (map (net_at gated) (group_of config output))) (buffer_to (net_at ports.outputs output)) s t sum h) m

pub sum_refused : (config : Config) (ports : EdtPorts) (gated : List NetId) (output : ℕ) (s : Making) (e : NetlistError) → IsRefusal (outcome (a_sum (map (net_at gated) (group_of config output))) s) e → IsRefusal (outcome (an_output config ports gated output) s) e
unfolding an_output
sum_refused config ports gated output s e h = then_refused (a_sum (map (net_at gated) (group_of config output))) (buffer_to (net_at ports.outputs output)) s e h

-- ---- all of it

abbrev pub masks_of : Config → EdtPorts → (run : NetId) → Recipe (List MaskNets)
masks_of config ports run = segments config ports run 0 config.compactor.mask_inputs

abbrev pub gated_of : (ends : List NetId) → (count : ℕ) → (masks : List MaskNets) → Recipe (List NetId)
gated_of ends count masks = collect (λ chain. a_gated (masks_at masks chain).hold (net_at ends chain)) (range_with_len 0 count)

abbrev pub outputs_of : Config → EdtPorts → (gated : List NetId) → Recipe (Unit {0})
outputs_of config ports gated = each (an_output config ports gated) (range_with_len 0 (length config.compactor.groups))

abbrev after_masks : Config → EdtPorts → (ends : List NetId) → (masks : List MaskNets) → Recipe (Unit {0})
after_masks config ports ends masks = gated_of ends config.chains masks >>= outputs_of config ports

pub compactor_made : {X : Type 0} (config : Config) (ports : EdtPorts) (run : NetId) (ends : List NetId) (s t u : Making) (masks : List MaskNets) (gated : List NetId) (result : Result X NetlistError) (new : Making) → outcome (masks_of config ports run) s ≡ Ok (masks, t) →
    outcome (gated_of ends config.chains masks) t ≡ Ok (gated, u) → Makes (λ _. tt) (outputs_of config ports gated) u result new → Makes (λ _. tt) (a_compactor config ports run ends) s result new
unfolding a_compactor
compactor_made config ports run ends s t u masks gated result new h k m =
    same_makes (λ _. tt) (masks_of config ports run >>= after_masks config ports ends) (outputs_of config ports gated) s u result new
    (then_ok (masks_of config ports run) (after_masks config ports ends) s t masks h ∙ then_ok (gated_of ends config.chains masks) (outputs_of config ports) t u gated k) m

pub masks_refused : (config : Config) (ports : EdtPorts) (run : NetId) (ends : List NetId) (s : Making) (e : NetlistError) → IsRefusal (outcome (masks_of config ports run) s) e → IsRefusal (outcome (a_compactor config ports run ends) s) e
unfolding a_compactor
masks_refused config ports run ends s e h = then_refused (masks_of config ports run) (after_masks config ports ends) s e h

pub gated_refused : (config : Config) (ports : EdtPorts) (run : NetId) (ends : List NetId) (s t : Making) (masks : List MaskNets) (e : NetlistError) → outcome (masks_of config ports run) s ≡ Ok (masks, t) →
    IsRefusal (outcome (gated_of ends config.chains masks) t) e → IsRefusal (outcome (a_compactor config ports run ends) s) e
unfolding a_compactor
gated_refused config ports run ends s t masks e h k =
    subst (λ o. IsRefusal o e) (sym (then_ok (masks_of config ports run) (after_masks config ports ends) s t masks h)) (then_refused (gated_of ends config.chains masks) (outputs_of config ports) t e k)

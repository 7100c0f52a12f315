-- The ring as it is made.
use Rattle.std.proofs.Common.{ℕ, ◌≡◌, List, [], ◌∷◌, Result, Ok, sym, subst, ◌∙◌}
use Rattle.std.specs.List.{range_with_len}
use Rattle.dft_cells.specs.declared.kind.Gate.TheVariants.{Inv, And}
use Rattle.dft_netlist.specs.declared.ids.NetId.{NetId}
use Rattle.dft_netlist.specs.declared.error.NetlistError.{NetlistError}
use Rattle.dft_config.specs.Config.{Config}
use Rattle.dft_config.specs.declared.config.RingConfig.{RingConfig}
use Rattle.dft_parts.specs.declared.edt_ports.EdtPorts.{EdtPorts}
use Rattle.dft_parts.specs.Parts.{Making}
use Rattle.dft_parts.specs.Recipes.{Recipe, pure, ◌>>=◌, each, collect, net_at, nets_made, a_flop, outcome, IsRefusal, Makes}
use Rattle.dft_parts.specs.Sums.{a_driving_gate, a_sum}
use Rattle.dft_parts.proofs.Outcomes.{then_ok, then_refused, pure_made, same_makes}
use Rattle.dft_edt.specs.declared.ring.Ring.{Ring}
use Rattle.dft_edt.specs.RingRecipe.{stage_terms, a_stage, a_phase, a_ring}

-- ---- a stage

abbrev flop_of : EdtPorts → (stage : NetId) → (kept : NetId) → Recipe (Unit {0})
flop_of ports stage kept = a_flop ports.edt_clock kept stage

abbrev gate_of : EdtPorts → (run stage : NetId) → (sum : NetId) → Recipe (Unit {0})
gate_of ports run stage sum = a_driving_gate And (sum ∷ run ∷ []) >>= flop_of ports stage

pub stage_made : {X : Type 0} (ring : RingConfig) (ports : EdtPorts) (run : NetId) (stages : List NetId) (stage : ℕ) (s t u : Making) (sum kept : NetId) (result : Result X NetlistError) (new : Making) →
    outcome (a_sum (stage_terms ring ports.channels stages stage)) s ≡ Ok (sum, t) → outcome (a_driving_gate And (sum ∷ run ∷ [])) t ≡ Ok (kept, u) → Makes (λ _. tt) (a_flop ports.edt_clock kept (net_at stages stage)) u result new →
    Makes (λ _. tt) (a_stage ring ports run stages stage) s result new
unfolding a_stage
stage_made ring ports run stages stage s t u sum kept result new h k m =
    same_makes (λ _. tt) (a_sum (stage_terms ring ports.channels stages stage) >>= gate_of ports run (net_at stages stage)) (a_flop ports.edt_clock kept (net_at stages stage)) s u result new
    (then_ok (a_sum (stage_terms ring ports.channels stages stage)) (gate_of ports run (net_at stages stage)) s t sum h ∙ then_ok (a_driving_gate And (sum ∷ run ∷ [])) (flop_of ports (net_at stages stage)) t u kept k) m

pub stage_sum_refused : (ring : RingConfig) (ports : EdtPorts) (run : NetId) (stages : List NetId) (stage : ℕ) (s : Making) (e : NetlistError) → IsRefusal (outcome (a_sum (stage_terms ring ports.channels stages stage)) s) e →
    IsRefusal (outcome (a_stage ring ports run stages stage) s) e
unfolding a_stage
stage_sum_refused ring ports run stages stage s e h = then_refused (a_sum (stage_terms ring ports.channels stages stage)) (gate_of ports run (net_at stages stage)) s e h

pub stage_gate_refused : (ring : RingConfig) (ports : EdtPorts) (run : NetId) (stages : List NetId) (stage : ℕ) (s t : Making) (sum : NetId) (e : NetlistError) → outcome (a_sum (stage_terms ring ports.channels stages stage)) s ≡ Ok (sum, t) →
    IsRefusal (outcome (a_driving_gate And (sum ∷ run ∷ [])) t) e → IsRefusal (outcome (a_stage ring ports run stages stage) s) e
unfolding a_stage
stage_gate_refused ring ports run stages stage s t sum e h k =
    subst (λ o. IsRefusal o e) (sym (then_ok (a_sum (stage_terms ring ports.channels stages stage)) (gate_of ports run (net_at stages stage)) s t sum h)) (then_refused (a_driving_gate And (sum ∷ run ∷ [])) (flop_of ports (net_at stages stage)) t e k)

-- ---- the ring, step by step

abbrev pub phases_of : Config → (stages : List NetId) → Recipe (List NetId)
phases_of config stages = collect (a_phase config.ring stages) (range_with_len 0 config.chains)

abbrev pub stages_of : Config → EdtPorts → (run : NetId) → (stages : List NetId) → Recipe (Unit {0})
stages_of config ports run stages = each (a_stage config.ring ports run stages) (range_with_len 0 config.ring.stages)

abbrev pub end_with : (run : NetId) → (phases : List NetId) → Recipe Ring
end_with run phases = pure (record { run = run; phases = phases })

abbrev after_stages : Config → (run : NetId) → (stages : List NetId) → (Unit {0}) → Recipe Ring
after_stages config run stages done = phases_of config stages >>= end_with run

abbrev after_nets : Config → EdtPorts → (run : NetId) → (stages : List NetId) → Recipe Ring
after_nets config ports run stages = stages_of config ports run stages >>= after_stages config run stages

abbrev after_run : Config → EdtPorts → (run : NetId) → Recipe Ring
after_run config ports run = nets_made config.ring.stages >>= after_nets config ports run

abbrev run_of : EdtPorts → Recipe NetId
run_of ports = a_driving_gate Inv (ports.edt_update ∷ [])

-- what is there once `run`, the nets and the stages are made
pub to_run : (config : Config) (ports : EdtPorts) (s t : Making) (run : NetId) → outcome (run_of ports) s ≡ Ok (run, t) → outcome (a_ring config ports) s ≡ outcome (after_run config ports run) t
unfolding a_ring
to_run config ports s t run h = then_ok (run_of ports) (after_run config ports) s t run h

pub to_nets : (config : Config) (ports : EdtPorts) (s t u : Making) (run : NetId) (stages : List NetId) → outcome (run_of ports) s ≡ Ok (run, t) → outcome (nets_made config.ring.stages) t ≡ Ok (stages, u) →
    outcome (a_ring config ports) s ≡ outcome (after_nets config ports run stages) u
to_nets config ports s t u run stages h k = to_run config ports s t run h ∙ then_ok (nets_made config.ring.stages) (after_nets config ports run) t u stages k

pub to_stages : (config : Config) (ports : EdtPorts) (s t u v : Making) (run : NetId) (stages : List NetId) → outcome (run_of ports) s ≡ Ok (run, t) → outcome (nets_made config.ring.stages) t ≡ Ok (stages, u) →
    outcome (stages_of config ports run stages) u ≡ Ok (tt, v) → outcome (a_ring config ports) s ≡ outcome (after_stages config run stages tt) v
to_stages config ports s t u v run stages h k m = to_nets config ports s t u run stages h k ∙ then_ok (stages_of config ports run stages) (after_stages config run stages) u v tt m

pub to_end : (config : Config) (ports : EdtPorts) (s t u v w : Making) (run : NetId) (stages phases : List NetId) → outcome (run_of ports) s ≡ Ok (run, t) → outcome (nets_made config.ring.stages) t ≡ Ok (stages, u) →
    outcome (stages_of config ports run stages) u ≡ Ok (tt, v) → outcome (phases_of config stages) v ≡ Ok (phases, w) → outcome (a_ring config ports) s ≡ Ok (record { run = run; phases = phases }, w)
to_end config ports s t u v w run stages phases h k m p =
    to_stages config ports s t u v run stages h k m ∙ then_ok (phases_of config stages) (end_with run) v w phases p ∙ pure_made (record { run = run; phases = phases }) w

pub run_refused : (config : Config) (ports : EdtPorts) (s : Making) (e : NetlistError) → IsRefusal (outcome (run_of ports) s) e → IsRefusal (outcome (a_ring config ports) s) e
unfolding a_ring
run_refused config ports s e h = then_refused (run_of ports) (after_run config ports) s e h

pub nets_refused : (config : Config) (ports : EdtPorts) (s t : Making) (run : NetId) (e : NetlistError) → outcome (run_of ports) s ≡ Ok (run, t) → IsRefusal (outcome (nets_made config.ring.stages) t) e → IsRefusal (outcome (a_ring config ports) s) e
nets_refused config ports s t run e h k = subst (λ o. IsRefusal o e) (sym (to_run config ports s t run h)) (then_refused (nets_made config.ring.stages) (after_nets config ports run) t e k)

pub stages_refused : (config : Config) (ports : EdtPorts) (s t u : Making) (run : NetId) (stages : List NetId) (e : NetlistError) → outcome (run_of ports) s ≡ Ok (run, t) → outcome (nets_made config.ring.stages) t ≡ Ok (stages, u) →
    IsRefusal (outcome (stages_of config ports run stages) u) e → IsRefusal (outcome (a_ring config ports) s) e
stages_refused config ports s t u run stages e h k m = subst (λ o. IsRefusal o e) (sym (to_nets config ports s t u run stages h k)) (then_refused (stages_of config ports run stages) (after_stages config run stages) u e m)

pub phases_refused : (config : Config) (ports : EdtPorts) (s t u v : Making) (run : NetId) (stages : List NetId) (e : NetlistError) → outcome (run_of ports) s ≡ Ok (run, t) → outcome (nets_made config.ring.stages) t ≡ Ok (stages, u) →
    outcome (stages_of config ports run stages) u ≡ Ok (tt, v) → IsRefusal (outcome (phases_of config stages) v) e → IsRefusal (outcome (a_ring config ports) s) e
phases_refused config ports s t u v run stages e h k m p = subst (λ o. IsRefusal o e) (sym (to_stages config ports s t u v run stages h k m)) (then_refused (phases_of config stages) (end_with run) v e p)

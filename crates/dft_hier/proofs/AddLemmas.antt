-- All that the top and the modules below it give is added.
use Rattle.std.proofs.Common.{ℕ, ◌<◌, ◌≡◌, List, length, drop, get_or, Option, Some, Result, Ok, sym, ap, subst, ◌∙◌}
use Rattle.std.proofs.lemmas.Option.{slice_get_within, slice_get-get_or}
use Rattle.dft_base.specs.Lexing.{Text}
use Rattle.dft_cells.specs.declared.cell.Cell.{Cell}
use Rattle.dft_netlist.specs.declared.port.Port.{Port}
use Rattle.dft_netlist.specs.declared.error.NetlistError.{NetlistError}
use Rattle.dft_netlist.specs.Netlist.{Netlist}
use Rattle.dft_netlist.specs.Building.{empty_netlist}
use Rattle.dft_netlist_text.specs.NetlistText.{Grown, and_grown, add_nets}
use Rattle.dft_modules.specs.Modules.{Module}
use Rattle.dft_modules.specs.Sound.{AreModules}
use Rattle.dft_hier.specs.Flat.{add_ports, add_parts, flat_parts}
use Rattle.dft_hier.specs.FlatNets.{nets_below, IsNetLaid}
use Rattle.dft_hier.specs.Growing.{Grows, IsRefusal}
use Rattle.dft_hier.specs.ItemWalks.{adds}
use Rattle.dft_hier.specs.Laid.{IsTopOf, name_at, flat_at, parts_in, parts_at}
use Rattle.dft_hier.specs.Weights.{Live}
use Rattle.dft_hier.proofs.FlattenLemmas.{AreSteps, flat_begins, flat_ports, flat_own, flat_all, all_there, refused_first, sound_at}
use Rattle.dft_hier.proofs.GrowLemmas.{same_refusal}

pub top_live : (ms : List Module) (k : ℕ) → IsTopOf ms k → k < length ms
top_live ms k t = slice_get_within ms k t.top t.at

-- the module that was read is the top
pub top_read : (ms : List Module) (k : ℕ) (m : Module) → (t : IsTopOf ms k) → m ≡ get_or ms k m → m ≡ t.top
top_read ms k m t read = let a : Some m ≡ Some t.top = ap (λ (x : Module). Some x) read ∙ sym (slice_get-get_or ms k m (top_live ms k t)) ∙ t.at in cc

the_steps : (ms : List Module) (items : List Live) (library : List Cell) (k : ℕ) (start : Netlist) → (t : IsTopOf ms k) → IsNetLaid ms items → AreModules library ms → start ≡ empty_netlist (name_at ms k) library → AreSteps ms items library k t.top start
the_steps ms items library k start t laid sound is = record { at = t.at; start_is = is; gives = laid.gives k t.top t.at; sound = sound_at library ms k t.top sound t.at }

pub ports_refused : (ms : List Module) (library : List Cell) (k : ℕ) (start : Netlist) (ports : List Port) (e : NetlistError) → (t : IsTopOf ms k) → start ≡ empty_netlist (name_at ms k) library → ports ≡ t.top.ports → IsRefusal (add_ports ports start) e → IsRefusal (flat_at ms library k) e
ports_refused ms library k start ports e t is are told =
    same_refusal (and_grown (add_ports t.top.ports start) (add_parts (flat_parts ms t.top))) (flat_at ms library k) e (sym (flat_begins ms library k t.top start t.at is))
    (refused_first (add_ports t.top.ports start) (add_parts (flat_parts ms t.top)) e (subst (λ (ps : List Port). IsRefusal (add_ports ps start) e) are told))

module _ (ms : List Module) (items : List Live) (library : List Cell) (k : ℕ) (start ports : Netlist) (read : List Port) (names : List Text) (t : IsTopOf ms k) (laid : IsNetLaid ms items) (sound : AreModules library ms) (is : start ≡ empty_netlist (name_at ms k) library)
    (ports_are : read ≡ t.top.ports) (names_are : names ≡ t.top.nets) (added : add_ports read start ≡ Ok ports) where
  ported : add_ports t.top.ports start ≡ Ok ports
  ported = sym (ap (λ (ps : List Port). add_ports ps start) ports_are) ∙ added

  pub own_refused : (e : NetlistError) → IsRefusal (add_nets (drop (length ports.nets) names) ports) e → IsRefusal (flat_at ms library k) e
  own_refused e told =
      let s = the_steps ms items library k start t laid sound is in
      let own : Grown = add_nets (drop (length ports.nets) t.top.nets) ports in
      same_refusal (and_grown (and_grown own (add_nets (nets_below ms items k))) (adds (flat_parts ms t.top))) (flat_at ms library k) e (sym (flat_ports ms items library k t.top start ports s ported))
      (refused_first (and_grown own (add_nets (nets_below ms items k))) (adds (flat_parts ms t.top)) e (refused_first own (add_nets (nets_below ms items k)) e (subst (λ (ns : List Text). IsRefusal (add_nets (drop (length ports.nets) ns) ports) e) names_are told)))

  owned : (own : Netlist) → add_nets (drop (length ports.nets) names) ports ≡ Ok own → add_nets (drop (length ports.nets) t.top.nets) ports ≡ Ok own
  owned own there = sym (ap (λ (ns : List Text). add_nets (drop (length ports.nets) ns) ports) names_are) ∙ there

  pub below_refused : (own : Netlist) (e : NetlistError) → add_nets (drop (length ports.nets) names) ports ≡ Ok own → IsRefusal (add_nets (nets_below ms items k) own) e → IsRefusal (flat_at ms library k) e
  below_refused own e there told =
      let s = the_steps ms items library k start t laid sound is in
      same_refusal (and_grown (add_nets (nets_below ms items k) own) (adds (flat_parts ms t.top))) (flat_at ms library k) e (sym (flat_own ms items library k t.top start ports own s ported (owned own there)))
      (refused_first (add_nets (nets_below ms items k) own) (adds (flat_parts ms t.top)) e told)

  pub nets_there : (own all : Netlist) → add_nets (drop (length ports.nets) names) ports ≡ Ok own → add_nets (nets_below ms items k) own ≡ Ok all → (length all.nets ≡ length (parts_at ms k).nets) × (all.library ≡ start.library)
  nets_there own all there below =
      let s = the_steps ms items library k start t laid sound is in
      let r = all_there ms items library k t.top start ports own all s ported (owned own there) below in
      (r.0 ∙ sym (ap (λ (o : Option Module). length (parts_in ms o).nets) t.at), r.1)

  pub all_added : {X : Type 0} (own all new : Netlist) (r : Result X NetlistError) → add_nets (drop (length ports.nets) names) ports ≡ Ok own → add_nets (nets_below ms items k) own ≡ Ok all → Grows (adds (parts_at ms k) all) r new → Grows (flat_at ms library k) r new
  all_added own all new r there below grows =
      let s = the_steps ms items library k start t laid sound is in
      let whole : adds (parts_at ms k) all ≡ flat_at ms library k = ap (λ (o : Option Module). adds (parts_in ms o) all) t.at ∙ sym (flat_all ms items library k t.top start ports own all s ported (owned own there) below) in
      subst (λ (g : Grown). Grows g r new) whole grows

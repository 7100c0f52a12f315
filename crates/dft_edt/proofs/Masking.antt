-- Masks as they are made.
use Rattle.std.proofs.Common.{ℕ, zero, suc, ◌+◌, ◌-◌, ◌<◌, ◌≤◌, ◌≡◌, List, [], ◌∷◌, ◌++◌, length, Result, Ok, sym, subst, ap, arith, ◌∙◌, length-append}
use Rattle.std.proofs.lemmas.List.Elements.{All-append}
use Rattle.dft_cells.specs.declared.kind.Gate.TheVariants.{And, Or}
use Rattle.dft_netlist.specs.declared.ids.NetId.{NetId}
use Rattle.dft_netlist.specs.declared.error.NetlistError.{NetlistError}
use Rattle.dft_netlist.specs.Netlist.{Netlist}
use Rattle.dft_config.specs.Config.{Config}
use Rattle.dft_parts.specs.declared.edt_ports.EdtPorts.{EdtPorts}
use Rattle.dft_parts.specs.Parts.{Making}
use Rattle.dft_parts.specs.Recipes.{Recipe, pure, ◌>>=◌, net_at, a_net, a_flop, outcome, IsRefusal, Makes}
use Rattle.dft_parts.specs.Sums.{a_driving_gate}
use Rattle.dft_parts.proofs.Fitting.{there_on}
use Rattle.dft_parts.proofs.Outcomes.{then_ok, then_refused, pure_made, same_makes}
use Rattle.dft_config.specs.Segments.{segment_length, segment_start}
use Rattle.dft_edt.specs.declared.mask_nets.MaskNets.{MaskNets}
use Rattle.dft_edt.specs.Bounds.{IsMade, AreMade, PortsThere}
use Rattle.dft_edt.specs.CompactorRecipe.{a_next, a_mask, a_segment, segments}
use Rattle.dft_edt.proofs.Going.{behind_list, list_start, list_more, list_stops, list_end}

-- ---- bounds

pub made_on : (n m : Netlist) (masks : List MaskNets) → length n.nets ≤ length m.nets → AreMade n masks → AreMade m masks
made_on n m masks more h = λ k d less. let x = h k d less in record { mask = omega (arith, more, x.mask); hold = omega (arith, more, x.hold) }

pub ports_on : (n m : Netlist) (ports : EdtPorts) (run : NetId) → length n.nets ≤ length m.nets → PortsThere n ports run → PortsThere m ports run
ports_on n m ports run more h = record {
  clock = (let x = h.clock in omega (arith, more, x));
  update = (let x = h.update in omega (arith, more, x));
  masks = there_on n m ports.masks more h.masks;
  outputs = there_on n m ports.outputs more h.outputs;
  inverse = (let x = h.inverse in omega (arith, more, x));
}

one_made : (n : Netlist) (nets : MaskNets) → IsMade n nets → AreMade n (nets ∷ [])
one_made n nets h zero d less = h
one_made n nets h (suc k) d less = absurd (omega (arith, less))

-- ---- what a hold flip-flop takes

abbrev next_or : (taken : NetId) → (kept : NetId) → Recipe NetId
next_or taken kept = a_driving_gate Or (taken ∷ kept ∷ [])

abbrev next_kept : (run hold : NetId) → (taken : NetId) → Recipe NetId
next_kept run hold taken = a_driving_gate And (run ∷ hold ∷ []) >>= next_or taken

pub next_made : {X : Type 0} (ports : EdtPorts) (run : NetId) (nets : MaskNets) (s t u : Making) (taken kept : NetId) (view : X → NetId) (result : Result X NetlistError) (new : Making) → outcome (a_driving_gate And (ports.edt_update ∷ nets.mask ∷ [])) s ≡ Ok (taken, t) →
    outcome (a_driving_gate And (run ∷ nets.hold ∷ [])) t ≡ Ok (kept, u) → Makes view (a_driving_gate Or (taken ∷ kept ∷ [])) u result new → Makes view (a_next ports run nets) s result new
unfolding a_next
next_made ports run nets s t u taken kept view result new h k m =
    same_makes view (a_driving_gate And (ports.edt_update ∷ nets.mask ∷ []) >>= next_kept run nets.hold) (next_or taken kept) s u result new
    (then_ok (a_driving_gate And (ports.edt_update ∷ nets.mask ∷ [])) (next_kept run nets.hold) s t taken h ∙ then_ok (a_driving_gate And (run ∷ nets.hold ∷ [])) (next_or taken) t u kept k) m

pub taken_refused : (ports : EdtPorts) (run : NetId) (nets : MaskNets) (s : Making) (e : NetlistError) → IsRefusal (outcome (a_driving_gate And (ports.edt_update ∷ nets.mask ∷ [])) s) e → IsRefusal (outcome (a_next ports run nets) s) e
unfolding a_next
taken_refused ports run nets s e h = then_refused (a_driving_gate And (ports.edt_update ∷ nets.mask ∷ [])) (next_kept run nets.hold) s e h

pub kept_refused : (ports : EdtPorts) (run : NetId) (nets : MaskNets) (s t : Making) (taken : NetId) (e : NetlistError) → outcome (a_driving_gate And (ports.edt_update ∷ nets.mask ∷ [])) s ≡ Ok (taken, t) →
    IsRefusal (outcome (a_driving_gate And (run ∷ nets.hold ∷ [])) t) e → IsRefusal (outcome (a_next ports run nets) s) e
unfolding a_next
kept_refused ports run nets s t taken e h k =
    subst (λ o. IsRefusal o e) (sym (then_ok (a_driving_gate And (ports.edt_update ∷ nets.mask ∷ [])) (next_kept run nets.hold) s t taken h)) (then_refused (a_driving_gate And (run ∷ nets.hold ∷ [])) (next_or taken) t e k)

-- ---- a mask, step by step

abbrev pub pair_of : (mask hold : NetId) → MaskNets
pair_of mask hold = record { mask = mask; hold = hold }

abbrev mask_end : (mask hold : NetId) → (Unit {0}) → Recipe MaskNets
mask_end mask hold done = pure (pair_of mask hold)

abbrev mask_next : EdtPorts → (mask hold : NetId) → (next : NetId) → Recipe MaskNets
mask_next ports mask hold next = a_flop ports.edt_clock next hold >>= mask_end mask hold

abbrev mask_hold : EdtPorts → (run mask : NetId) → (hold : NetId) → Recipe MaskNets
mask_hold ports run mask hold = a_next ports run (pair_of mask hold) >>= mask_next ports mask hold

abbrev mask_flop : EdtPorts → (run mask : NetId) → (Unit {0}) → Recipe MaskNets
mask_flop ports run mask done = a_net >>= mask_hold ports run mask

abbrev mask_net : EdtPorts → (run before : NetId) → (mask : NetId) → Recipe MaskNets
mask_net ports run before mask = a_flop ports.edt_clock before mask >>= mask_flop ports run mask

pub to_mask : (ports : EdtPorts) (run before : NetId) (s t : Making) (mask : NetId) → outcome a_net s ≡ Ok (mask, t) → outcome (a_mask ports run before) s ≡ outcome (mask_net ports run before mask) t
unfolding a_mask
to_mask ports run before s t mask h = then_ok a_net (mask_net ports run before) s t mask h

pub to_flop : (ports : EdtPorts) (run before : NetId) (s t u : Making) (mask : NetId) → outcome a_net s ≡ Ok (mask, t) → outcome (a_flop ports.edt_clock before mask) t ≡ Ok (tt, u) → outcome (a_mask ports run before) s ≡ outcome (mask_flop ports run mask tt) u
to_flop ports run before s t u mask h k = to_mask ports run before s t mask h ∙ then_ok (a_flop ports.edt_clock before mask) (mask_flop ports run mask) t u tt k

pub to_hold : (ports : EdtPorts) (run before : NetId) (s t u v : Making) (mask hold : NetId) → outcome a_net s ≡ Ok (mask, t) → outcome (a_flop ports.edt_clock before mask) t ≡ Ok (tt, u) → outcome a_net u ≡ Ok (hold, v) →
    outcome (a_mask ports run before) s ≡ outcome (mask_hold ports run mask hold) v
to_hold ports run before s t u v mask hold h k m = to_flop ports run before s t u mask h k ∙ then_ok a_net (mask_hold ports run mask) u v hold m

pub to_next : (ports : EdtPorts) (run before : NetId) (s t u v w : Making) (mask hold next : NetId) → outcome a_net s ≡ Ok (mask, t) → outcome (a_flop ports.edt_clock before mask) t ≡ Ok (tt, u) → outcome a_net u ≡ Ok (hold, v) →
    outcome (a_next ports run (record { mask = mask; hold = hold })) v ≡ Ok (next, w) → outcome (a_mask ports run before) s ≡ outcome (mask_next ports mask hold next) w
to_next ports run before s t u v w mask hold next h k m o = to_hold ports run before s t u v mask hold h k m ∙ then_ok (a_next ports run (pair_of mask hold)) (mask_next ports mask hold) v w next o

pub to_pair : (ports : EdtPorts) (run before : NetId) (s t u v w x : Making) (mask hold next : NetId) → outcome a_net s ≡ Ok (mask, t) → outcome (a_flop ports.edt_clock before mask) t ≡ Ok (tt, u) → outcome a_net u ≡ Ok (hold, v) →
    outcome (a_next ports run (record { mask = mask; hold = hold })) v ≡ Ok (next, w) → outcome (a_flop ports.edt_clock next hold) w ≡ Ok (tt, x) → outcome (a_mask ports run before) s ≡ Ok (record { mask = mask; hold = hold }, x)
to_pair ports run before s t u v w x mask hold next h k m o q =
    to_next ports run before s t u v w mask hold next h k m o ∙ then_ok (a_flop ports.edt_clock next hold) (mask_end mask hold) w x tt q ∙ pure_made (pair_of mask hold) x

pub mask_refused : (ports : EdtPorts) (run before : NetId) (s : Making) (e : NetlistError) → IsRefusal (outcome a_net s) e → IsRefusal (outcome (a_mask ports run before) s) e
unfolding a_mask
mask_refused ports run before s e h = then_refused a_net (mask_net ports run before) s e h

pub flop_refused : (ports : EdtPorts) (run before : NetId) (s t : Making) (mask : NetId) (e : NetlistError) → outcome a_net s ≡ Ok (mask, t) → IsRefusal (outcome (a_flop ports.edt_clock before mask) t) e → IsRefusal (outcome (a_mask ports run before) s) e
flop_refused ports run before s t mask e h k = subst (λ o. IsRefusal o e) (sym (to_mask ports run before s t mask h)) (then_refused (a_flop ports.edt_clock before mask) (mask_flop ports run mask) t e k)

pub hold_refused : (ports : EdtPorts) (run before : NetId) (s t u : Making) (mask : NetId) (e : NetlistError) → outcome a_net s ≡ Ok (mask, t) → outcome (a_flop ports.edt_clock before mask) t ≡ Ok (tt, u) → IsRefusal (outcome a_net u) e →
    IsRefusal (outcome (a_mask ports run before) s) e
hold_refused ports run before s t u mask e h k m = subst (λ o. IsRefusal o e) (sym (to_flop ports run before s t u mask h k)) (then_refused a_net (mask_hold ports run mask) u e m)

pub next_refused : (ports : EdtPorts) (run before : NetId) (s t u v : Making) (mask hold : NetId) (e : NetlistError) → outcome a_net s ≡ Ok (mask, t) → outcome (a_flop ports.edt_clock before mask) t ≡ Ok (tt, u) → outcome a_net u ≡ Ok (hold, v) →
    IsRefusal (outcome (a_next ports run (record { mask = mask; hold = hold })) v) e → IsRefusal (outcome (a_mask ports run before) s) e
next_refused ports run before s t u v mask hold e h k m o =
    subst (λ x. IsRefusal x e) (sym (to_hold ports run before s t u v mask hold h k m)) (then_refused (a_next ports run (pair_of mask hold)) (mask_next ports mask hold) v e o)

pub last_refused : (ports : EdtPorts) (run before : NetId) (s t u v w : Making) (mask hold next : NetId) (e : NetlistError) → outcome a_net s ≡ Ok (mask, t) → outcome (a_flop ports.edt_clock before mask) t ≡ Ok (tt, u) → outcome a_net u ≡ Ok (hold, v) →
    outcome (a_next ports run (record { mask = mask; hold = hold })) v ≡ Ok (next, w) → IsRefusal (outcome (a_flop ports.edt_clock next hold) w) e → IsRefusal (outcome (a_mask ports run before) s) e
last_refused ports run before s t u v w mask hold next e h k m o q =
    subst (λ x. IsRefusal x e) (sym (to_next ports run before s t u v w mask hold next h k m o)) (then_refused (a_flop ports.edt_clock next hold) (mask_end mask hold) w e q)

-- ---- a segment

-- so many chains of a segment were made
pub record Segmenting (ports : EdtPorts) (run port : NetId) (count : ℕ) (start now : Making) (k : ℕ) (last : NetId) (so_far : List MaskNets) : Type 0 where
  pub goes : outcome (a_segment ports run port count) start ≡ behind_list so_far (outcome (a_segment ports run last (count - k)) now)
  pub there : AreMade now.netlist so_far
  pub live : last.0 < length now.netlist.nets
  pub made : length so_far ≡ k
  pub more : length start.netlist.nets ≤ length now.netlist.nets

pub segment_starts : (ports : EdtPorts) (run port : NetId) (count : ℕ) (s : Making) (so_far : List MaskNets) → so_far ≡ [] → port.0 < length s.netlist.nets → Segmenting ports run port count s s 0 port so_far
segment_starts ports run port count s so_far none live = record {
  goes = (let all : count ≡ count - 0 = omega arith in list_start so_far (outcome (a_segment ports run port count) s) none ∙ ap (λ (n : ℕ). behind_list so_far (outcome (a_segment ports run port n) s)) all);
  there = subst (AreMade s.netlist) (sym none) (λ k d less. absurd (omega (arith, less)));
  live = live;
  made = ap length none;
  more = omega arith;
}

one_left : (count k : ℕ) → k < count → count - k ≡ suc (count - (k + 1))
one_left count k less = omega (arith, less)

segment_on : (ports : EdtPorts) (run last : NetId) (left : ℕ) (s t : Making) (nets : MaskNets) (so_far : List MaskNets) → outcome (a_mask ports run last) s ≡ Ok (nets, t) →
    behind_list so_far (outcome (a_segment ports run last (suc left)) s) ≡ behind_list (so_far ++ nets ∷ []) (outcome (a_segment ports run nets.mask left) t)
unfolding a_segment
segment_on ports run last left s t nets so_far h = list_more so_far (a_mask ports run last) (λ (first : MaskNets). first ∷ []) (λ (first : MaskNets). a_segment ports run first.mask left) s t nets h

pub segment_goes : (ports : EdtPorts) (run port : NetId) (count : ℕ) (start now t : Making) (k : ℕ) (last : NetId) (so_far longer : List MaskNets) (nets : MaskNets) → Segmenting ports run port count start now k last so_far → (less : k < count) →
    (made : outcome (a_mask ports run last) now ≡ Ok (nets, t)) → (is : IsMade t.netlist nets) → (more : length now.netlist.nets ≤ length t.netlist.nets) → (grown : longer ≡ so_far ++ nets ∷ []) → Segmenting ports run port count start t (k + 1) nets.mask longer
segment_goes ports run port count start now t k last so_far longer nets g less made is more grown =
    let before = g.more in
    let so_many = g.made in
    record {
      goes = g.goes ∙ ap (λ (n : ℕ). behind_list so_far (outcome (a_segment ports run last n) now)) (one_left count k less) ∙ segment_on ports run last (count - (k + 1)) now t nets so_far made
          ∙ ap (λ (ms : List MaskNets). behind_list ms (outcome (a_segment ports run nets.mask (count - (k + 1))) t)) (sym grown);
      there = subst (AreMade t.netlist) (sym grown) (All-append (IsMade t.netlist) so_far (nets ∷ []) (made_on now.netlist t.netlist so_far more g.there) (one_made t.netlist nets is));
      live = is.mask;
      made = omega (arith, so_many, ap length grown, length-append so_far (nets ∷ []));
      more = omega (arith, before, more);
    }

segment_stop : (ports : EdtPorts) (run last : NetId) (left : ℕ) (s : Making) (so_far : List MaskNets) (e : NetlistError) → IsRefusal (outcome (a_mask ports run last) s) e → IsRefusal (behind_list so_far (outcome (a_segment ports run last (suc left)) s)) e
unfolding a_segment
segment_stop ports run last left s so_far e h = list_stops so_far (a_mask ports run last) (λ (first : MaskNets). a_segment ports run first.mask left >>= (λ (more : List MaskNets). pure (first ∷ more))) s e h

pub segment_stops : (ports : EdtPorts) (run port : NetId) (count : ℕ) (start now : Making) (k : ℕ) (last : NetId) (so_far : List MaskNets) (e : NetlistError) → Segmenting ports run port count start now k last so_far → k < count →
    IsRefusal (outcome (a_mask ports run last) now) e → IsRefusal (outcome (a_segment ports run port count) start) e
segment_stops ports run port count start now k last so_far e g less h =
    subst (λ o. IsRefusal o e) (sym (g.goes ∙ ap (λ (n : ℕ). behind_list so_far (outcome (a_segment ports run last n) now)) (one_left count k less))) (segment_stop ports run last (count - (k + 1)) now so_far e h)

segment_end : (ports : EdtPorts) (run last : NetId) (s : Making) (so_far : List MaskNets) → behind_list so_far (outcome (a_segment ports run last 0) s) ≡ Ok (so_far, s)
unfolding a_segment
segment_end ports run last s so_far = list_end so_far s

pub segment_ends : (ports : EdtPorts) (run port : NetId) (count : ℕ) (start now : Making) (k : ℕ) (last : NetId) (so_far : List MaskNets) → Segmenting ports run port count start now k last so_far → count ≤ k → outcome (a_segment ports run port count) start ≡ Ok (so_far, now)
segment_ends ports run port count start now k last so_far g past =
    let none : count - k ≡ 0 = omega (arith, past) in g.goes ∙ ap (λ (n : ℕ). behind_list so_far (outcome (a_segment ports run last n) now)) none ∙ segment_end ports run last now so_far

-- ---- all segments

pub record Cutting (config : Config) (ports : EdtPorts) (run : NetId) (count : ℕ) (start now : Making) (segment : ℕ) (so_far : List MaskNets) : Type 0 where
  pub goes : outcome (segments config ports run 0 count) start ≡ behind_list so_far (outcome (segments config ports run segment (count - segment)) now)
  pub there : AreMade now.netlist so_far
  pub made : length so_far ≡ segment_start config segment
  pub more : length start.netlist.nets ≤ length now.netlist.nets

pub cut_starts : (config : Config) (ports : EdtPorts) (run : NetId) (count : ℕ) (s : Making) (so_far : List MaskNets) → so_far ≡ [] → Cutting config ports run count s s 0 so_far
cut_starts config ports run count s so_far none = record {
  goes = (let all : count ≡ count - 0 = omega arith in list_start so_far (outcome (segments config ports run 0 count) s) none ∙ ap (λ (n : ℕ). behind_list so_far (outcome (segments config ports run 0 n) s)) all);
  there = subst (AreMade s.netlist) (sym none) (λ k d less. absurd (omega (arith, less)));
  made = ap length none;
  more = omega arith;
}

cut_on : (config : Config) (ports : EdtPorts) (run : NetId) (segment left : ℕ) (s t : Making) (chains so_far : List MaskNets) → outcome (a_segment ports run (net_at ports.masks segment) (segment_length config segment)) s ≡ Ok (chains, t) →
    behind_list so_far (outcome (segments config ports run segment (suc left)) s) ≡ behind_list (so_far ++ chains) (outcome (segments config ports run (segment + 1) left) t)
unfolding segments
cut_on config ports run segment left s t chains so_far h =
    list_more so_far (a_segment ports run (net_at ports.masks segment) (segment_length config segment)) (λ (first : List MaskNets). first) (λ _. segments config ports run (segment + 1) left) s t chains h

next_start : (config : Config) (segment : ℕ) → segment_start config (segment + 1) ≡ segment_start config segment + segment_length config segment
next_start config segment = let e : segment + 1 ≡ suc segment = omega arith in ap (segment_start config) e

pub cut_goes : (config : Config) (ports : EdtPorts) (run : NetId) (count : ℕ) (start now t : Making) (segment : ℕ) (so_far longer chains : List MaskNets) → Cutting config ports run count start now segment so_far → (less : segment < count) →
    (made : outcome (a_segment ports run (net_at ports.masks segment) (segment_length config segment)) now ≡ Ok (chains, t)) → (is : AreMade t.netlist chains) → (size : length chains ≡ segment_length config segment) → (more : length now.netlist.nets ≤ length t.netlist.nets) → (grown : longer ≡ so_far ++ chains) →
    Cutting config ports run count start t (segment + 1) longer
cut_goes config ports run count start now t segment so_far longer chains g less made is size more grown =
    let before = g.more in
    let so_many = g.made in
    record {
      goes = g.goes ∙ ap (λ (n : ℕ). behind_list so_far (outcome (segments config ports run segment n) now)) (one_left count segment less) ∙ cut_on config ports run segment (count - (segment + 1)) now t chains so_far made
          ∙ ap (λ (ms : List MaskNets). behind_list ms (outcome (segments config ports run (segment + 1) (count - (segment + 1))) t)) (sym grown);
      there = subst (AreMade t.netlist) (sym grown) (All-append (IsMade t.netlist) so_far chains (made_on now.netlist t.netlist so_far more g.there) is);
      made = ap length grown ∙ length-append so_far chains ∙ (λ i. so_many i + size i) ∙ sym (next_start config segment);
      more = omega (arith, before, more);
    }

cut_stop : (config : Config) (ports : EdtPorts) (run : NetId) (segment left : ℕ) (s : Making) (so_far : List MaskNets) (e : NetlistError) → IsRefusal (outcome (a_segment ports run (net_at ports.masks segment) (segment_length config segment)) s) e →
    IsRefusal (behind_list so_far (outcome (segments config ports run segment (suc left)) s)) e
unfolding segments
cut_stop config ports run segment left s so_far e h =
    list_stops so_far (a_segment ports run (net_at ports.masks segment) (segment_length config segment)) (λ (first : List MaskNets). segments config ports run (segment + 1) left >>= (λ (more : List MaskNets). pure (first ++ more))) s e h

pub cut_stops : (config : Config) (ports : EdtPorts) (run : NetId) (count : ℕ) (start now : Making) (segment : ℕ) (so_far : List MaskNets) (e : NetlistError) → Cutting config ports run count start now segment so_far → segment < count →
    IsRefusal (outcome (a_segment ports run (net_at ports.masks segment) (segment_length config segment)) now) e → IsRefusal (outcome (segments config ports run 0 count) start) e
cut_stops config ports run count start now segment so_far e g less h =
    subst (λ o. IsRefusal o e) (sym (g.goes ∙ ap (λ (n : ℕ). behind_list so_far (outcome (segments config ports run segment n) now)) (one_left count segment less))) (cut_stop config ports run segment (count - (segment + 1)) now so_far e h)

cut_end : (config : Config) (ports : EdtPorts) (run : NetId) (segment : ℕ) (s : Making) (so_far : List MaskNets) → behind_list so_far (outcome (segments config ports run segment 0) s) ≡ Ok (so_far, s)
unfolding segments
cut_end config ports run segment s so_far = list_end so_far s

pub cut_ends : (config : Config) (ports : EdtPorts) (run : NetId) (count : ℕ) (start now : Making) (segment : ℕ) (so_far : List MaskNets) → Cutting config ports run count start now segment so_far → count ≤ segment → outcome (segments config ports run 0 count) start ≡ Ok (so_far, now)
cut_ends config ports run count start now segment so_far g past =
    let none : count - segment ≡ 0 = omega (arith, past) in g.goes ∙ ap (λ (n : ℕ). behind_list so_far (outcome (segments config ports run segment n) now)) none ∙ cut_end config ports run segment now so_far

-- The parts of the masks are their hardware.
use Rattle.std.proofs.Common.{ℕ, zero, suc, ◌+◌, ◌*◌, ◌-◌, ◌<◌, ◌≤◌, ◌≡◌, List, [], ◌∷◌, ◌++◌, length, refl, sym, subst, ap, arith, ◌∙◌, length-append}
use Rattle.dft_cells.specs.declared.kind.Gate.TheVariants.{And, Or}
use Rattle.dft_cells.specs.WellFormed.{IsWellFormed}
use Rattle.dft_netlist.specs.declared.ids.NetId.{NetId}
use Rattle.dft_netlist.specs.Drivers.{Net}
use Rattle.dft_behavior.specs.Logic.{Logic, Ports, Gate, logic_of}
use Rattle.dft_netlist.specs.Netlist.{Netlist}
use Rattle.dft_netlist.specs.NetDrivers.{IsSingle}
use Rattle.dft_config.specs.Config.{Config}
use Rattle.dft_parts.specs.declared.edt_ports.EdtPorts.{EdtPorts}
use Rattle.dft_parts.specs.Growth.{HasParts, instances_in}
use Rattle.dft_parts.specs.Parts.{ANet}
use Rattle.dft_parts.specs.Recipes.{Start, behind, net_at, a_flop}
use Rattle.dft_parts.specs.Standing.{IsClockNet, IsFlop}
use Rattle.dft_parts.specs.Sums.{a_driving_gate}
use Rattle.dft_parts.proofs.Standing.{gate_stands}
use Rattle.dft_parts.proofs.Trees.{front, back}
use Rattle.dft_config.specs.Segments.{segment_length, segment_start}
use Rattle.dft_edt.proofs.PartLists.{instances_in-append}
use Rattle.dft_edt.proofs.RingFacts.{made_flop}
use Rattle.dft_edt.specs.declared.mask_nets.MaskNets.{MaskNets}
use Rattle.dft_edt.specs.CompactorRecipe.{a_next, a_mask, a_segment, segments, masks_at}

-- ---- a chain

-- what a hold flip-flop takes
pub record NextAt (l : Logic) (update run next : ℕ) (nets : MaskNets) : Type 0 where
  pub taken : ℕ
  pub kept : ℕ
  pub take : l.net taken ≡ Gate And (Net update ∷ Net nets.mask.0 ∷ [])
  pub keep : l.net kept ≡ Gate And (Net run ∷ Net nets.hold.0 ∷ [])
  pub either : l.net next ≡ Gate Or (Net taken ∷ Net kept ∷ [])

next_stands : (n : Netlist) (ports : Ports) (edt : EdtPorts) (run : NetId) (nets : MaskNets) (i : ℕ) (at : Start) → IsSingle n → HasParts n i (a_next edt run nets at).parts →
    NextAt (logic_of n ports) edt.edt_update.0 run.0 (a_next edt run nets at).value.0 nets
unfolding a_next a_driving_gate
next_stands n ports edt run nets i at single h =
    let taken = a_driving_gate And (edt.edt_update ∷ nets.mask ∷ []) at in
    let first = behind at taken.parts in
    let kept = a_driving_gate And (run ∷ nets.hold ∷ []) first in
    let next = a_driving_gate Or (taken.value ∷ kept.value ∷ []) (behind first kept.parts) in
    record {
      taken = taken.value.0;
      kept = kept.value.0;
      take = gate_stands n ports i And (edt.edt_update ∷ nets.mask ∷ []) taken.value single refl h.0;
      keep = gate_stands n ports (suc i) And (run ∷ nets.hold ∷ []) kept.value single refl h.1.0;
      either = gate_stands n ports (suc (suc i)) Or (taken.value ∷ kept.value ∷ []) next.value single refl h.1.1.0;
    }

next_size : (edt : EdtPorts) (run : NetId) (nets : MaskNets) (at : Start) → instances_in (a_next edt run nets at).parts ≡ 3
unfolding a_next a_driving_gate
next_size edt run nets at = refl

-- the masks of a chain: its mask flip-flop takes what stands before it, and its hold flip-flop stands four behind
pub record MaskAt (l : Logic) (edt : EdtPorts) (run : NetId) (number : ℕ) (before : NetId) (nets : MaskNets) : Type 0 where
  pub flop : IsFlop l edt.edt_clock.0 number nets.mask.0 before.0
  pub next : ℕ
  pub takes : NextAt l edt.edt_update.0 run.0 next nets
  pub hold : IsFlop l edt.edt_clock.0 (number + 4) nets.hold.0 next

mask_stands : (n : Netlist) (ports : Ports) (edt : EdtPorts) (run before : NetId) (i : ℕ) (at : Start) → IsSingle n → IsWellFormed n.library → at.library ≡ n.library → IsClockNet n ports edt.edt_clock.0 → HasParts n i (a_mask edt run before at).parts →
    MaskAt (logic_of n ports) edt run i before (a_mask edt run before at).value
unfolding a_mask
mask_stands n ports edt run before i at single well library clock h =
    let l = logic_of n ports in
    let mask : NetId = record { 0 = at.next } in
    let t1 = behind at (ANet ∷ []) in
    let t2 = behind t1 (a_flop edt.edt_clock before mask t1).parts in
    let hold : NetId = record { 0 = t2.next } in
    let nets : MaskNets = record { mask = mask; hold = hold } in
    let t3 = behind t2 (ANet ∷ []) in
    let next = a_next edt run nets t3 in
    let last = (a_flop edt.edt_clock next.value hold (behind t3 next.parts)).parts in
    let size = next_size edt run nets t3 in
    let there = back n (suc i) next.parts (last ++ []) h.1 in
    let is : suc i + instances_in next.parts ≡ i + 4 = omega (arith, size) in
    record {
      flop = made_flop n ports i at.library edt.edt_clock before mask single well library clock h.0;
      next = next.value.0;
      takes = next_stands n ports edt run nets (suc i) t3 single (front n (suc i) next.parts (last ++ []) h.1);
      hold = subst (λ (k : ℕ). IsFlop l edt.edt_clock.0 k hold.0 next.value.0) is (made_flop n ports (suc i + instances_in next.parts) at.library edt.edt_clock next.value hold single well library clock there.0);
    }

pub mask_size : (edt : EdtPorts) (run before : NetId) (at : Start) → instances_in (a_mask edt run before at).parts ≡ 5
unfolding a_mask a_next a_driving_gate
mask_size edt run before at = refl

-- ---- a segment

-- what stands before a place of a segment, whose first chain stands at this place of a list
abbrev pub before_place : List MaskNets → (first : ℕ) → (port : NetId) → (place : ℕ) → NetId
before_place masks first port zero = port
before_place masks first port (suc k) = (masks_at masks (first + k)).mask

pub segment_size : (edt : EdtPorts) (run before : NetId) (count : ℕ) (at : Start) → instances_in (a_segment edt run before count at).parts ≡ 5 * count
unfolding a_segment
segment_size edt run before zero at = refl
segment_size edt run before (suc count) at =
    let first = a_mask edt run before at in
    let later = (a_segment edt run first.value.mask count (behind at first.parts)).parts in
    omega (arith, instances_in-append first.parts (later ++ []), instances_in-append later [], mask_size edt run before at, segment_size edt run first.value.mask count (behind at first.parts))

pub segment_count : (edt : EdtPorts) (run before : NetId) (count : ℕ) (at : Start) → length (a_segment edt run before count at).value ≡ count
unfolding a_segment
segment_count edt run before zero at = refl
segment_count edt run before (suc count) at = let first = a_mask edt run before at in ap suc (segment_count edt run first.value.mask count (behind at first.parts))

-- what stands before a place, seen one place later
before_later : (v : MaskNets) (masks : List MaskNets) (port : NetId) (k : ℕ) → before_place masks 0 v.mask k ≡ before_place (v ∷ masks) 0 port (suc k)
before_later v masks port zero = refl
before_later v masks port (suc k) = let e : 0 + suc k ≡ suc (0 + k) = omega arith in ap (λ (i : ℕ). (masks_at (v ∷ masks) i).mask) (sym e)

segment_stands : (n : Netlist) (ports : Ports) (edt : EdtPorts) (run before : NetId) (count i : ℕ) (at : Start) → IsSingle n → IsWellFormed n.library → at.library ≡ n.library → IsClockNet n ports edt.edt_clock.0 →
    HasParts n i (a_segment edt run before count at).parts → (k : ℕ) → k < count → MaskAt (logic_of n ports) edt run (i + 5 * k) (before_place (a_segment edt run before count at).value 0 before k) (masks_at (a_segment edt run before count at).value k)
unfolding a_segment
segment_stands n ports edt run before zero i at single well library clock h k less = absurd (omega (arith, less))
segment_stands n ports edt run before (suc count) i at single well library clock h zero less =
    let first = a_mask edt run before at in
    let later = (a_segment edt run first.value.mask count (behind at first.parts)).parts in
    let e : i ≡ i + 5 * 0 = omega arith in
    subst (λ (j : ℕ). MaskAt (logic_of n ports) edt run j before first.value) e (mask_stands n ports edt run before i at single well library clock (front n i first.parts (later ++ []) h))
segment_stands n ports edt run before (suc count) i at single well library clock h (suc k) less =
    let l = logic_of n ports in
    let first = a_mask edt run before at in
    let next = behind at first.parts in
    let rest = a_segment edt run first.value.mask count next in
    let there = front n (i + instances_in first.parts) rest.parts [] (back n i first.parts (rest.parts ++ []) h) in
    let e : i + instances_in first.parts + 5 * k ≡ i + 5 * suc k = omega (arith, mask_size edt run before at) in
    let own = segment_stands n ports edt run first.value.mask count (i + instances_in first.parts) next single well library clock there k (omega (arith, less)) in
    subst (λ (j : ℕ). MaskAt l edt run j (before_place (first.value ∷ rest.value) 0 before (suc k)) (masks_at rest.value k)) e
    (subst (λ (b : NetId). MaskAt l edt run (i + instances_in first.parts + 5 * k) b (masks_at rest.value k)) (before_later first.value rest.value before k) own)

-- ---- all segments

-- a later segment starts no earlier
starts_grow : (config : Config) (segment j : ℕ) → segment_start config segment ≤ segment_start config (segment + j)
starts_grow config segment zero = let e : segment ≡ segment + 0 = omega arith in let same = ap (segment_start config) e in omega (arith, same)
starts_grow config segment (suc j) =
    let e : segment + suc j ≡ suc (segment + j) = omega arith in
    let step : segment_start config (segment + suc j) ≡ segment_start config (segment + j) + segment_length config (segment + j) = ap (segment_start config) e in
    omega (arith, step, starts_grow config segment j)

pub cut_count : (config : Config) (edt : EdtPorts) (run : NetId) (segment count : ℕ) (at : Start) → length (segments config edt run segment count at).value + segment_start config segment ≡ segment_start config (segment + count)
unfolding segments
cut_count config edt run segment zero at = let e : segment ≡ segment + 0 = omega arith in (let z : 0 + segment_start config segment ≡ segment_start config segment = omega arith in z) ∙ ap (segment_start config) e
cut_count config edt run segment (suc count) at =
    let first = a_segment edt run (net_at edt.masks segment) (segment_length config segment) at in
    let rest = segments config edt run (segment + 1) count (behind at first.parts) in
    let one : segment + 1 ≡ suc segment = omega arith in
    let all : segment + 1 + count ≡ segment + suc count = omega arith in
    let step : segment_start config (segment + 1) ≡ segment_start config segment + segment_length config segment = ap (segment_start config) one in
    let later = cut_count config edt run (segment + 1) count (behind at first.parts) in
    let size = segment_count edt run (net_at edt.masks segment) (segment_length config segment) at in
    let end : segment_start config (segment + 1 + count) ≡ segment_start config (segment + suc count) = ap (segment_start config) all in
    omega (arith, length-append first.value rest.value, step, later, size, end)

-- a place of a list that begins with another
at_front : (xs ys : List MaskNets) (k : ℕ) → k < length xs → masks_at (xs ++ ys) k ≡ masks_at xs k
at_front [] ys k less = absurd (omega (arith, less))
at_front (x ∷ xs) ys zero less = refl
at_front (x ∷ xs) ys (suc k) less = at_front xs ys k (omega (arith, less))

at_back : (xs ys : List MaskNets) (k : ℕ) → masks_at (xs ++ ys) (length xs + k) ≡ masks_at ys k
at_back [] ys k = let e : 0 + k ≡ k = omega arith in ap (masks_at ys) e
at_back (x ∷ xs) ys k = let e : suc (length xs) + k ≡ suc (length xs + k) = omega arith in ap (masks_at (x ∷ (xs ++ ys))) e ∙ at_back xs ys k

front_before : (xs ys : List MaskNets) (port : NetId) (k : ℕ) → k < length xs → before_place xs 0 port k ≡ before_place (xs ++ ys) 0 port k
front_before xs ys port zero less = refl
front_before xs ys port (suc k) less = ap (λ (v : MaskNets). v.mask) (sym (at_front xs ys (0 + k) (omega (arith, less))))

back_before : (xs ys : List MaskNets) (first : ℕ) (port : NetId) (k : ℕ) → before_place ys first port k ≡ before_place (xs ++ ys) (length xs + first) port k
back_before xs ys first port zero = refl
back_before xs ys first port (suc k) =
    let e : length xs + first + k ≡ length xs + (first + k) = omega arith in
    ap (λ (v : MaskNets). v.mask) (sym (at_back xs ys (first + k))) ∙ ap (λ (i : ℕ). (masks_at (xs ++ ys) i).mask) (sym e)

-- the masks of a place of a segment that stands so many segments behind the first of these; before it so many chains
pub cut_stands : (n : Netlist) (ports : Ports) (config : Config) (edt : EdtPorts) (run : NetId) (segment count i : ℕ) (at : Start) → (single : IsSingle n) → (well : IsWellFormed n.library) → (library : at.library ≡ n.library) → (clock : IsClockNet n ports edt.edt_clock.0) →
    HasParts n i (segments config edt run segment count at).parts → (j k chains : ℕ) → (less : j < count) → (inside : k < segment_length config (segment + j)) → (is : chains + segment_start config segment ≡ segment_start config (segment + j)) →
    MaskAt (logic_of n ports) edt run (i + 5 * (chains + k)) (before_place (segments config edt run segment count at).value chains (net_at edt.masks (segment + j)) k) (masks_at (segments config edt run segment count at).value (chains + k))
unfolding segments
cut_stands n ports config edt run segment zero i at single well library clock h j k chains less inside is = absurd (omega (arith, less))
cut_stands n ports config edt run segment (suc count) i at single well library clock h zero k chains less inside is =
    let l = logic_of n ports in
    let same : segment + 0 ≡ segment = omega arith in
    let size = segment_length config segment in
    let port = net_at edt.masks segment in
    let first = a_segment edt run port size at in
    let rest = segments config edt run (segment + 1) count (behind at first.parts) in
    let k_less : k < size = subst (λ (m : ℕ). k < segment_length config m) same inside in
    let starts : segment_start config (segment + 0) ≡ segment_start config segment = ap (segment_start config) same in
    let none : chains ≡ 0 = omega (arith, is, starts) in
    let within : k < length first.value = omega (arith, k_less, segment_count edt run port size at) in
    let own = segment_stands n ports edt run port size i at single well library clock (front n i first.parts (rest.parts ++ []) h) k k_less in
    let at_k : 0 + k ≡ k = omega arith in
    let all = first.value ++ rest.value in
    let moved : MaskAt l edt run (i + 5 * (0 + k)) (before_place all 0 port k) (masks_at all (0 + k)) =
    subst (λ (x : ℕ). MaskAt l edt run (i + 5 * x) (before_place all 0 port k) (masks_at all x)) (sym at_k)
    (subst (λ (v : MaskNets). MaskAt l edt run (i + 5 * k) (before_place all 0 port k) v) (sym (at_front first.value rest.value k within))
    (subst (λ (b : NetId). MaskAt l edt run (i + 5 * k) b (masks_at first.value k)) (front_before first.value rest.value port k within) own)) in
    subst (λ (m : ℕ). MaskAt l edt run (i + 5 * (chains + k)) (before_place all chains (net_at edt.masks m) k) (masks_at all (chains + k))) (sym same)
    (subst (λ (q : ℕ). MaskAt l edt run (i + 5 * (q + k)) (before_place all q port k) (masks_at all (q + k))) (sym none) moved)
cut_stands n ports config edt run segment (suc count) i at single well library clock h (suc j) k chains less inside is =
    let l = logic_of n ports in
    let one : segment + 1 ≡ suc segment = omega arith in
    let same : segment + 1 + j ≡ segment + suc j = omega arith in
    let size = segment_length config segment in
    let port = net_at edt.masks segment in
    let first = a_segment edt run port size at in
    let next = behind at first.parts in
    let rest = segments config edt run (segment + 1) count next in
    let all = first.value ++ rest.value in
    let long = segment_count edt run port size at in
    let step : segment_start config (segment + 1) ≡ segment_start config segment + size = ap (segment_start config) one in
    let ends : segment_start config (segment + 1 + j) ≡ segment_start config (segment + suc j) = ap (segment_start config) same in
    let more = starts_grow config (segment + 1) j in
    let rel = chains - size in
    let rel_is : chains ≡ length first.value + rel = omega (arith, is, step, ends, long, more) in
    let there = front n (i + instances_in first.parts) rest.parts [] (back n i first.parts (rest.parts ++ []) h) in
    let rel_starts : rel + segment_start config (segment + 1) ≡ segment_start config (segment + 1 + j) = omega (arith, rel_is, is, step, ends, long) in
    let own = cut_stands n ports config edt run (segment + 1) count (i + instances_in first.parts) next single well library clock there j k rel (omega (arith, less)) (subst (λ (m : ℕ). k < segment_length config m) (sym same) inside) rel_starts in
    let p = net_at edt.masks (segment + 1 + j) in
    let number : i + instances_in first.parts + 5 * (rel + k) ≡ i + 5 * (chains + k) = omega (arith, segment_size edt run port size at, rel_is, long) in
    let place : chains + k ≡ length first.value + (rel + k) = omega (arith, rel_is) in
    let value : masks_at rest.value (rel + k) ≡ masks_at all (chains + k) = sym (ap (masks_at all) place ∙ at_back first.value rest.value (rel + k)) in
    let before : before_place rest.value rel p k ≡ before_place all chains (net_at edt.masks (segment + suc j)) k =
    back_before first.value rest.value rel p k ∙ ap (λ (q : ℕ). before_place all q p k) (sym rel_is) ∙ ap (λ (m : ℕ). before_place all chains (net_at edt.masks m) k) same in
    subst (λ (x : ℕ). MaskAt l edt run x (before_place all chains (net_at edt.masks (segment + suc j)) k) (masks_at all (chains + k))) number
    (subst (λ (v : MaskNets). MaskAt l edt run (i + instances_in first.parts + 5 * (rel + k)) (before_place all chains (net_at edt.masks (segment + suc j)) k) v) value
    (subst (λ (b : NetId). MaskAt l edt run (i + instances_in first.parts + 5 * (rel + k)) b (masks_at rest.value (rel + k))) before own))

-- The parts of a sum's recipe make a tree; what a tree has in settled assignments.
use Rattle.std.proofs.Common.{ℕ, zero, suc, ◌+◌, ◌<◌, ◌≤◌, ◌≡◌, Bool, true, false, List, [], ◌∷◌, ◌++◌, length, map, refl, sym, subst, ap, arith, ◌∙◌, append_assoc}
use Rattle.std.specs.Prelude.{not, if◌then◌else◌}
use Rattle.std.proofs.lemmas.List.{append-nil, map-append}
use Rattle.dft_base.specs.declared.tri.Tri.{Tri}
use Rattle.dft_base.specs.declared.tri.Tri.TheVariants.{Zero, One, Unknown}
use Rattle.dft_base.specs.Solutions.{xor}
use Rattle.dft_base.proofs.SumLemmas.{xor_false, xor_assoc}
use Rattle.dft_cells.specs.declared.kind.Gate.TheVariants.{Xor}
use Rattle.dft_cells.specs.Gates.{tri_of}
use Rattle.dft_netlist.specs.declared.ids.NetId.{NetId}
use Rattle.dft_netlist.specs.Drivers.{Net}
use Rattle.dft_behavior.specs.Logic.{Logic, Ports, Meaning, Gate, logic_of}
use Rattle.dft_netlist.specs.Netlist.{Netlist}
use Rattle.dft_netlist.specs.NetDrivers.{IsSingle}
use Rattle.dft_netlist.specs.Orders.{numbers_of}
use Rattle.dft_behavior.specs.Settled.{Sources, bit_given, IsSettled}
use Rattle.dft_behavior.proofs.SettledLemmas.{value_at}
use Rattle.dft_parts.specs.Growth.{HasParts, instances_in}
use Rattle.dft_parts.specs.Parts.{Part, ANet, AnInstance, APin}
use Rattle.dft_parts.specs.Recipes.{Start, behind}
use Rattle.dft_parts.specs.Sums.{a_driving_gate, pairs, levels, first_net, a_sum}
use Rattle.dft_parts.specs.SumTrees.{IsSum, Term, Joined, sum_bits, tri_xor, tri_sum, SumStands, SumBit, SumValue}
use Rattle.dft_parts.proofs.Standing.{gate_stands}

-- ---- parts of parts

pub front : (n : Netlist) (i : ℕ) (xs ys : List Part) → HasParts n i (xs ++ ys) → HasParts n i xs
front n i [] ys h = tt
front n i (ANet ∷ xs) ys h = front n i xs ys h
front n i (AnInstance cell pins ∷ xs) ys h = (h.0, front n (suc i) xs ys h.1)
front n i (APin instance pin net ∷ xs) ys h = front n i xs ys h

-- the parts behind stand behind the instances of those before
pub back : (n : Netlist) (i : ℕ) (xs ys : List Part) → HasParts n i (xs ++ ys) → HasParts n (i + instances_in xs) ys
back n i [] ys h = subst (λ (k : ℕ). HasParts n k ys) (let e : i ≡ i + 0 = omega arith in e) h
back n i (ANet ∷ xs) ys h = back n i xs ys h
back n i (AnInstance cell pins ∷ xs) ys h = subst (λ (k : ℕ). HasParts n k ys) (let e : suc i + instances_in xs ≡ i + suc (instances_in xs) = omega arith in e) (back n (suc i) xs ys h.1)
back n i (APin instance pin net ∷ xs) ys h = back n i xs ys h

-- ---- trees

-- the nets are sums of consecutive parts of the terms
pub data AreSums (l : Logic) : (nets terms : List ℕ) → Type 0 where
  NoneLeft : AreSums l [] []
  Then : {net : ℕ} {nets first terms : List ℕ} → IsSum l net first → AreSums l nets terms → AreSums l (net ∷ nets) (first ++ terms)

pub sums_start : (l : Logic) (terms : List ℕ) → AreSums l terms terms
sums_start l [] = NoneLeft
sums_start l (t ∷ terms) = Then Term (sums_start l terms)

driving_gate : (n : Netlist) (ports : Ports) (i : ℕ) (at : Start) (a b : NetId) → IsSingle n → HasParts n i (a_driving_gate Xor (a ∷ b ∷ []) at).parts → (logic_of n ports).net (a_driving_gate Xor (a ∷ b ∷ []) at).value.0 ≡ Gate Xor (Net a.0 ∷ Net b.0 ∷ [])
unfolding a_driving_gate
driving_gate n ports i at a b single h = gate_stands n ports i Xor (a ∷ b ∷ []) (record { 0 = at.next }) single refl h.0

pairs_sum : (n : Netlist) (ports : Ports) (i : ℕ) (at : Start) (nets : List NetId) (terms : List ℕ) → IsSingle n → HasParts n i (pairs nets at).parts → AreSums (logic_of n ports) (numbers_of nets) terms → AreSums (logic_of n ports) (numbers_of (pairs nets at).value) terms
unfolding pairs
pairs_sum n ports i at [] terms single has sums = sums
pairs_sum n ports i at (a ∷ []) terms single has sums = sums
pairs_sum n ports i at (a ∷ b ∷ nets) _ single has (Then {first = first} one (Then {first = second} {terms = terms} two more)) =
    let gate = a_driving_gate Xor (a ∷ b ∷ []) at in
    let later = pairs nets (behind at gate.parts) in
    let behind_it = back n i gate.parts (later.parts ++ []) has in
    subst (λ (ts : List ℕ). AreSums (logic_of n ports) (gate.value.0 ∷ numbers_of later.value) ts) (append_assoc first second terms)
    (Then (Joined (driving_gate n ports i at a b single (front n i gate.parts (later.parts ++ []) has)) one two)
    (pairs_sum n ports (i + instances_in gate.parts) (behind at gate.parts) nets terms single (front n (i + instances_in gate.parts) later.parts [] behind_it) more))

levels_sum : (n : Netlist) (ports : Ports) (i : ℕ) (at : Start) (count : ℕ) (nets : List NetId) (terms : List ℕ) → IsSingle n → HasParts n i (levels count nets at).parts → AreSums (logic_of n ports) (numbers_of nets) terms →
    AreSums (logic_of n ports) (numbers_of (levels count nets at).value) terms
unfolding levels
levels_sum n ports i at zero nets terms single has sums = sums
levels_sum n ports i at (suc count) nets terms single has sums =
    let first = pairs nets at in
    let rest = levels count first.value (behind at first.parts) in
    levels_sum n ports (i + instances_in first.parts) (behind at first.parts) count first.value terms single (back n i first.parts rest.parts has) (pairs_sum n ports i at nets terms single (front n i first.parts rest.parts has) sums)

-- ---- one net is left

-- a level leaves about half of the nets
pub half_left : (at : Start) (nets : List NetId) (k : ℕ) → length nets ≤ suc (suc k) → length (pairs nets at).value ≤ suc k
unfolding pairs
half_left at [] k h = omega arith
half_left at (a ∷ []) k h = omega arith
half_left at (a ∷ b ∷ []) k h = omega arith
half_left at (a ∷ b ∷ c ∷ nets) zero h = absurd (omega arith)
half_left at (a ∷ b ∷ c ∷ nets) (suc k) h =
    let gate = a_driving_gate Xor (a ∷ b ∷ []) at in
    let e = half_left (behind at gate.parts) (c ∷ nets) k (omega arith) in omega (arith, e)

pub some_left : (at : Start) (nets : List NetId) → 0 < length nets → 0 < length (pairs nets at).value
unfolding pairs
some_left at [] h = h
some_left at (a ∷ []) h = omega arith
some_left at (a ∷ b ∷ nets) h = omega arith

-- these are one net
abbrev pub IsOne : List NetId → Type 0
IsOne nets = (net : NetId) × (nets ≡ net ∷ [])

one_net : (nets : List NetId) → 0 < length nets → length nets ≤ 1 → IsOne nets
one_net [] h k = absurd (omega arith)
one_net (a ∷ []) h k = (a, refl)
one_net (a ∷ b ∷ nets) h k = absurd (omega arith)

pub levels_one : (at : Start) (count : ℕ) (nets : List NetId) → 0 < length nets → length nets ≤ suc count → IsOne (levels count nets at).value
unfolding levels
levels_one at zero nets h k = one_net nets h (omega arith)
levels_one at (suc count) nets h k =
    let first = pairs nets at in levels_one (behind at first.parts) count first.value (some_left at nets h) (half_left at nets count k)

-- one net that is the sums of terms is their sum
sum_one : (l : Logic) (net : ℕ) (terms : List ℕ) → AreSums l (net ∷ []) terms → IsSum l net terms
sum_one l net _ (Then {first = first} one NoneLeft) = subst (IsSum l net) (sym (append-nil first)) one

pub sum_stands : SumStands
unfolding a_sum
sum_stands n ports at i terms single some has =
    let l = logic_of n ports in
    let all = levels (length terms) terms at in
    let sums = levels_sum n ports i at (length terms) terms (numbers_of terms) single (front n i all.parts [] has) (sums_start l (numbers_of terms)) in
    let one = levels_one at (length terms) terms some (omega arith) in
    let net : first_net all.value ≡ one.0 = ap first_net one.1 in
    subst (λ (k : NetId). IsSum l k.0 (numbers_of terms)) (sym net) (sum_one l one.0.0 (numbers_of terms) (subst (λ (ks : List NetId). AreSums l (numbers_of ks) (numbers_of terms)) one.1 sums))

-- ---- settled assignments

pub bit_at : (l : Logic) (s : Sources) (w : ℕ → Bool) (net : ℕ) (m : Meaning) → IsSettled l s w → l.net net ≡ m → w net ≡ bit_given s w net m
bit_at l s w net m settled is = settled net ∙ ap (bit_given s w net) is

tri_xor_assoc : (a b c : Tri) → tri_xor (tri_xor a b) c ≡ tri_xor a (tri_xor b c)
tri_xor_assoc = grind arith

tri_xor_zero : (a : Tri) → tri_xor a Zero ≡ a
tri_xor_zero Zero = refl
tri_xor_zero One = refl
tri_xor_zero Unknown = refl

pub sum_bits_append : (xs ys : List Bool) → sum_bits (xs ++ ys) ≡ xor (sum_bits xs) (sum_bits ys)
sum_bits_append [] ys = refl
sum_bits_append (x ∷ xs) ys = ap (xor x) (sum_bits_append xs ys) ∙ sym (xor_assoc x (sum_bits xs) (sum_bits ys))

sum_append : (ts us : List Tri) → tri_sum (ts ++ us) ≡ tri_xor (tri_sum ts) (tri_sum us)
sum_append [] us = refl
sum_append (t ∷ ts) us = ap (tri_xor t) (sum_append ts us) ∙ sym (tri_xor_assoc t (tri_sum ts) (tri_sum us))

xor_gate : (a b : Tri) → tri_of Xor (a ∷ b ∷ []) ≡ tri_xor a b
xor_gate Zero Zero = refl
xor_gate Zero One = refl
xor_gate Zero Unknown = refl
xor_gate One Zero = refl
xor_gate One One = refl
xor_gate One Unknown = refl
xor_gate Unknown Zero = refl
xor_gate Unknown One = refl
xor_gate Unknown Unknown = refl

xor_bit : (a b : Bool) → (if a then not (if b then true else false) else (if b then true else false)) ≡ xor a b
xor_bit true true = refl
xor_bit true false = refl
xor_bit false true = refl
xor_bit false false = refl

pub sum_value : SumValue
sum_value l s w net _ settled Term = sym (tri_xor_zero (w net))
sum_value l s w net _ settled (Joined {a = a} {b = b} {left = left} {right = right} at one two) =
    value_at l s w net (Gate Xor (Net a ∷ Net b ∷ [])) settled at
    ∙ xor_gate (w a) (w b)
    ∙ ap (λ t. tri_xor t (w b)) (sum_value l s w a left settled one)
    ∙ ap (tri_xor (tri_sum (map w left))) (sum_value l s w b right settled two)
    ∙ sym (sum_append (map w left) (map w right))
    ∙ ap tri_sum (sym (map-append w left right))

pub sum_bit : SumBit
sum_bit l s w net _ settled Term = sym (xor_false (w net))
sum_bit l s w net _ settled (Joined {a = a} {b = b} {left = left} {right = right} at one two) =
    bit_at l s w net (Gate Xor (Net a ∷ Net b ∷ [])) settled at
    ∙ xor_bit (w a) (w b)
    ∙ ap (λ t. xor t (w b)) (sum_bit l s w a left settled one)
    ∙ ap (xor (sum_bits (map w left))) (sum_bit l s w b right settled two)
    ∙ sym (sum_bits_append (map w left) (map w right))
    ∙ ap sum_bits (sym (map-append w left right))

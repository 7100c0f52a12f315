-- Pairs and levels as they are made.
use Rattle.std.proofs.Common.{ℕ, zero, suc, ◌+◌, ◌<◌, ◌≤◌, ◌≡◌, List, [], ◌∷◌, ◌++◌, length, drop, Ok, refl, sym, subst, ap, arith, ◌∙◌}
use Rattle.std.specs.Prelude.{slice_index_or}
use Rattle.std.proofs.lemmas.List.Elements.{All-append}
use Rattle.dft_cells.specs.declared.kind.Gate.TheVariants.{Xor}
use Rattle.dft_netlist.specs.declared.ids.NetId.{NetId}
use Rattle.dft_netlist.specs.declared.error.NetlistError.{NetlistError}
use Rattle.dft_netlist.specs.Netlist.{Netlist}
use Rattle.dft_parts.specs.Parts.{Making}
use Rattle.dft_parts.specs.Recipes.{AreThere, pure, start_of, outcome, IsRefusal}
use Rattle.dft_parts.specs.Sums.{a_driving_gate, pairs, levels, first_net, a_sum}
use Rattle.dft_parts.proofs.Outcomes.{then_ok, then_refused, pure_made, made_value}
use Rattle.dft_parts.proofs.Loops.{goes_on, goes_start, goes_step, goes_refused, goes_end, goes_last}
use Rattle.dft_parts.proofs.Fitting.{there_on}
use Rattle.dft_parts.proofs.Trees.{half_left, some_left}

-- ---- pairs

pub pair_step : (so_far : List NetId) (a b : NetId) (nets : List NetId) (s t : Making) (net : NetId) → outcome (a_driving_gate Xor (a ∷ b ∷ [])) s ≡ Ok (net, t) →
    goes_on so_far (pairs (a ∷ b ∷ nets)) s ≡ goes_on (so_far ++ net ∷ []) (pairs nets) t
unfolding pairs
pair_step so_far a b nets s t net h = goes_step so_far (a_driving_gate Xor (a ∷ b ∷ [])) (pairs nets) s t net h

pub pair_refused : (so_far : List NetId) (a b : NetId) (nets : List NetId) (s : Making) (e : NetlistError) → IsRefusal (outcome (a_driving_gate Xor (a ∷ b ∷ [])) s) e → IsRefusal (goes_on so_far (pairs (a ∷ b ∷ nets)) s) e
unfolding pairs
pair_refused so_far a b nets s e h = goes_refused so_far (a_driving_gate Xor (a ∷ b ∷ [])) (pairs nets) s e h

-- the nets that are left, from a place on
two_left : (nets : List NetId) (d e : NetId) (i : ℕ) → suc i < length nets → drop i nets ≡ slice_index_or nets i d ∷ slice_index_or nets (suc i) e ∷ drop (suc (suc i)) nets
two_left [] d e i h = absurd (omega arith)
two_left (x ∷ []) d e i h = absurd (omega arith)
two_left (x ∷ y ∷ nets) d e zero h = refl
two_left (x ∷ y ∷ nets) d e (suc i) h = two_left (y ∷ nets) d e i (omega arith)

two_more : (nets : List NetId) (d e : NetId) (i j k : ℕ) → j ≡ suc i → k ≡ suc (suc i) → suc i < length nets → drop i nets ≡ slice_index_or nets i d ∷ slice_index_or nets j e ∷ drop k nets
two_more nets d e i j k p q h = rw (p, q) (two_left nets d e i h)

one_left : (nets : List NetId) (d : NetId) (i : ℕ) → i < length nets → length nets ≤ suc i → drop i nets ≡ slice_index_or nets i d ∷ []
one_left [] d i h few = absurd (omega arith)
one_left (x ∷ []) d zero h few = refl
one_left (x ∷ y ∷ nets) d zero h few = absurd (omega arith)
one_left (x ∷ nets) d (suc i) h few = one_left nets d i (omega arith) (omega (arith, few))

none_left : (nets : List NetId) (i : ℕ) → length nets ≤ i → drop i nets ≡ []
none_left [] zero h = refl
none_left [] (suc i) h = refl
none_left (x ∷ nets) zero h = absurd (omega (arith, h))
none_left (x ∷ nets) (suc i) h = none_left nets i (omega (arith, h))

one_there : (n : Netlist) (net : NetId) (k : ℕ) (d : NetId) → net.0 < length n.nets → k < 1 → (slice_index_or (net ∷ []) k d).0 < length n.nets
one_there n net zero d less few = less
one_there n net (suc k) d less few = absurd (omega (arith, few))

-- a net more is there
pub there_more : (n : Netlist) (nets : List NetId) (net : NetId) → AreThere n nets → net.0 < length n.nets → AreThere n (nets ++ net ∷ [])
there_more n nets net h less = All-append (λ (k : NetId). k.0 < length n.nets) nets (net ∷ []) h (λ k d few. one_there n net k d less few)

-- the pairs up to a place were joined
pub record Pairing (start now : Making) (nets so_far : List NetId) (place : ℕ) : Type 0 where
  pub within : place ≤ length nets
  pub goes : outcome (pairs nets) start ≡ goes_on so_far (pairs (drop place nets)) now
  pub there : AreThere now.netlist so_far
  pub more : length start.netlist.nets ≤ length now.netlist.nets

pub pairing_start : (s : Making) (nets so_far : List NetId) → so_far ≡ [] → Pairing s s nets so_far 0
pairing_start s nets so_far none = record {
  within = omega arith;
  goes = goes_start (pairs nets) s ∙ ap (λ (xs : List NetId). goes_on xs (pairs nets) s) (sym none);
  there = subst (AreThere s.netlist) (sym none) (λ k d less. absurd (omega (arith, less)));
  more = omega arith;
}

pub pairing_on : (start now t : Making) (nets so_far longer : List NetId) (place : ℕ) (d e net : NetId) → Pairing start now nets so_far place → (two : place + 1 < length nets) →
    (made : outcome (a_driving_gate Xor (slice_index_or nets place d ∷ slice_index_or nets (place + 1) e ∷ [])) now ≡ Ok (net, t)) → (there : net.0 < length t.netlist.nets) → (more : length now.netlist.nets ≤ length t.netlist.nets) → (is : longer ≡ so_far ++ net ∷ []) →
    Pairing start t nets longer (place + 2)
pairing_on start now t nets so_far longer place d e net p two made there more is =
    let a = slice_index_or nets place d in
    let b = slice_index_or nets (place + 1) e in
    let left : drop place nets ≡ a ∷ b ∷ drop (place + 2) nets = two_more nets d e place (place + 1) (place + 2) (omega arith) (omega arith) (omega arith) in
    let p-more = p.more in
    record {
      within = omega arith;
      goes = p.goes ∙ ap (λ (xs : List NetId). goes_on so_far (pairs xs) now) left ∙ pair_step so_far a b (drop (place + 2) nets) now t net made ∙ ap (λ (xs : List NetId). goes_on xs (pairs (drop (place + 2) nets)) t) (sym is);
      there = subst (AreThere t.netlist) (sym is) (there_more t.netlist so_far net (there_on now.netlist t.netlist so_far more p.there) there);
      more = omega (arith, more, p-more);
    }

pub pairing_refused : (start now : Making) (nets so_far : List NetId) (place : ℕ) (d e : NetId) (error : NetlistError) → Pairing start now nets so_far place → place + 1 < length nets →
    IsRefusal (outcome (a_driving_gate Xor (slice_index_or nets place d ∷ slice_index_or nets (place + 1) e ∷ [])) now) error → IsRefusal (outcome (pairs nets) start) error
pairing_refused start now nets so_far place d e error p two h =
    let a = slice_index_or nets place d in
    let b = slice_index_or nets (place + 1) e in
    let left : drop place nets ≡ a ∷ b ∷ drop (place + 2) nets = two_more nets d e place (place + 1) (place + 2) (omega arith) (omega arith) (omega arith) in
    subst (λ o. IsRefusal o error) (sym (p.goes ∙ ap (λ (xs : List NetId). goes_on so_far (pairs xs) now) left)) (pair_refused so_far a b (drop (place + 2) nets) now error h)

-- nothing is left, or one net
pairs_none : (so_far : List NetId) (s : Making) → goes_on so_far (pairs []) s ≡ Ok (so_far, s)
unfolding pairs
pairs_none so_far s = goes_end so_far s

pairs_last : (so_far : List NetId) (a : NetId) (s : Making) → goes_on so_far (pairs (a ∷ [])) s ≡ Ok (so_far ++ a ∷ [], s)
unfolding pairs
pairs_last so_far a s = goes_last so_far a s

-- all pairs were joined
pub record Paired (start now : Making) (nets all : List NetId) : Type 0 where
  pub made : outcome (pairs nets) start ≡ Ok (all, now)
  pub there : AreThere now.netlist all

pub paired_none : (start now : Making) (nets so_far all : List NetId) (place : ℕ) → Pairing start now nets so_far place → length nets ≤ place → all ≡ so_far → Paired start now nets all
paired_none start now nets so_far all place p none is = record {
  made = p.goes ∙ ap (λ (xs : List NetId). goes_on so_far (pairs xs) now) (none_left nets place none) ∙ pairs_none so_far now ∙ (λ i. Ok (sym is i, now));
  there = subst (AreThere now.netlist) (sym is) p.there;
}

pub paired_last : (start now : Making) (nets so_far all : List NetId) (place : ℕ) (d : NetId) → AreThere start.netlist nets → Pairing start now nets so_far place → place < length nets → length nets ≤ place + 1 → all ≡ so_far ++ slice_index_or nets place d ∷ [] →
    Paired start now nets all
paired_last start now nets so_far all place d there p one few is =
    let p-more = p.more in
    let last = there place d one in
    record {
      made = p.goes ∙ ap (λ (xs : List NetId). goes_on so_far (pairs xs) now) (one_left nets d place one (omega (arith, few))) ∙ pairs_last so_far (slice_index_or nets place d) now ∙ (λ i. Ok (sym is i, now));
      there = subst (AreThere now.netlist) (sym is) (there_more now.netlist so_far (slice_index_or nets place d) p.there (omega (arith, p-more, last)));
    }

-- ---- levels

levels_single : (count : ℕ) (net : NetId) (s : Making) → outcome (levels count (net ∷ [])) s ≡ Ok (net ∷ [], s)
unfolding levels pairs
levels_single zero net s = pure_made (net ∷ []) s
levels_single (suc count) net s = then_ok (pairs (net ∷ [])) (levels count) s s (net ∷ []) (pure_made (net ∷ []) s) ∙ levels_single count net s

-- the levels that were made leave these nets
pub record Leveling (start now : Making) (terms left : List NetId) : Type 0 where
  pub count : ℕ
  pub few : length left ≤ suc count
  pub some : 0 < length left
  pub goes : outcome (levels (length terms) terms) start ≡ outcome (levels count left) now
  pub there : AreThere now.netlist left
  pub more : length start.netlist.nets ≤ length now.netlist.nets

pub leveling_start : (s : Making) (terms left : List NetId) → left ≡ terms → 0 < length terms → AreThere s.netlist terms → Leveling s s terms left
leveling_start s terms left same some there = record {
  count = length terms;
  few = rw same (omega arith);
  some = rw same some;
  goes = ap (λ (xs : List NetId). outcome (levels (length terms) xs) s) (sym same);
  there = subst (AreThere s.netlist) (sym same) there;
  more = omega arith;
}

-- a level more is made
level_step : (count : ℕ) (left next : List NetId) (s t : Making) → 1 < length left → length left ≤ suc count → outcome (pairs left) s ≡ Ok (next, t) → (k : ℕ) × (count ≡ suc k) × (length next ≤ count) × (0 < length next) × (outcome (levels count left) s ≡ outcome (levels k next) t)
unfolding levels
level_step zero left next s t many few h = absurd (omega arith)
level_step (suc k) left next s t many few h =
    let value = made_value (pairs left) s t next h in
    let size = ap length value in
    let half = half_left (start_of s) left k few in
    let some = some_left (start_of s) left (omega (arith, many)) in
    (k, refl, (omega (arith, size, half)), (omega (arith, size, some)), then_ok (pairs left) (levels k) s t next h)

pub leveling_on : (start now t : Making) (terms left next : List NetId) → Leveling start now terms left → 1 < length left → outcome (pairs left) now ≡ Ok (next, t) → AreThere t.netlist next → length now.netlist.nets ≤ length t.netlist.nets →
    Leveling start t terms next
leveling_on start now t terms left next h many made there more =
    let k = level_step h.count left next now t many h.few made in
    let less = h.more in
    record { count = k.0; few = omega (arith, k.1, k.2); some = k.3; goes = h.goes ∙ k.4; there = there; more = omega (arith, less, more) }

pub fewer : (left next : List NetId) (s t : Making) → 1 < length left → outcome (pairs left) s ≡ Ok (next, t) → length next < length left
fewer [] next s t many h = absurd (omega arith)
fewer (a ∷ []) next s t many h = absurd (omega arith)
fewer (a ∷ b ∷ nets) next s t many h =
    let size = ap length (made_value (pairs (a ∷ b ∷ nets)) s t next h) in
    let half = half_left (start_of s) (a ∷ b ∷ nets) (length nets) (omega arith) in omega (arith, size, half)

level_refused : (count : ℕ) (left : List NetId) (s : Making) (e : NetlistError) → 1 < length left → length left ≤ suc count → IsRefusal (outcome (pairs left) s) e → IsRefusal (outcome (levels count left) s) e
unfolding levels
level_refused zero left s e many few h = absurd (omega arith)
level_refused (suc k) left s e many few h = then_refused (pairs left) (levels k) s e h

pub sum_refused : (start now : Making) (terms left : List NetId) (e : NetlistError) → Leveling start now terms left → 1 < length left → IsRefusal (outcome (pairs left) now) e → IsRefusal (outcome (a_sum terms) start) e
unfolding a_sum
sum_refused start now terms left e h many refused =
    then_refused (levels (length terms) terms) (λ nets. pure (first_net nets)) start e (subst (λ o. IsRefusal o e) (sym h.goes) (level_refused h.count left now e many h.few refused))

one_is : (start now : Making) (terms left : List NetId) (d : NetId) → Leveling start now terms left → length left ≤ 1 → outcome (levels (length terms) terms) start ≡ Ok (slice_index_or left 0 d ∷ [], now)
one_is start now terms [] d h few = absurd (let some = h.some in omega (arith, some))
one_is start now terms (x ∷ []) d h few = h.goes ∙ levels_single h.count x now
one_is start now terms (x ∷ y ∷ left) d h few = absurd (omega (arith, few))

pub sum_made : (start now : Making) (terms left : List NetId) (d : NetId) → Leveling start now terms left → length left ≤ 1 → outcome (a_sum terms) start ≡ Ok (slice_index_or left 0 d, now)
unfolding a_sum
sum_made start now terms left d h few =
    then_ok (levels (length terms) terms) (λ nets. pure (first_net nets)) start now (slice_index_or left 0 d ∷ []) (one_is start now terms left d h few) ∙ pure_made (slice_index_or left 0 d) now

-- Blocks hold all items, and their lengths differ by one at most.
use Rattle.std.proofs.Common.{◌≡◌, ℕ, zero, suc, ◌+◌, ◌-◌, ◌*◌, ◌/◌, ◌%◌, ◌<◌, ◌≤◌, min, Bool, true, false, cond, List, [], ◌∷◌, ◌++◌, length, take, drop, map, flat_map, Some, slice_get, refl, sym, ◌∙◌, ap, arith}
use Rattle.std.specs.Prelude.{nat_lt}
use Rattle.std.specs.List.{range_with_len}
use Rattle.std.proofs.lemmas.Bool.Decides.{nat_tests}
use Rattle.std.proofs.lemmas.List.{length-take, length-drop, take-append-drop, nil_from_length}
use Rattle.dft_stitch.specs.Chains.{blocks, chain_lengths}
use Rattle.dft_stitch.specs.Laws.{ChainsHoldCells, ChainsAreEven}

-- ---- the lengths of parts come to the whole

abbrev pub total : List ℕ → ℕ
total [] = 0
total (x ∷ xs) = x + total xs

extra : (t : Bool) (each r k m rest : ℕ) → nat_lt k r ≡ t → rest ≡ m * each + min (r - (k + 1)) m → (each + cond t 1 0) + rest ≡ suc m * each + min (r - k) (suc m)
extra true each r k m rest is h = let less : k < r = grind (arith, nat_tests) in let more : suc m * each ≡ each + m * each = omega arith in omega arith
extra false each r k m rest is h = let past : r ≤ k = grind (arith, nat_tests) in let more : suc m * each ≡ each + m * each = omega arith in omega arith

parts_total : (each r k m : ℕ) → total (map (λ c. each + cond (nat_lt c r) 1 0) (range_with_len k m)) ≡ m * each + min (r - k) m
parts_total each r k zero = omega arith
parts_total each r k (suc m) = extra (nat_lt k r) each r k m (total (map (λ c. each + cond (nat_lt c r) 1 0) (range_with_len (k + 1) m))) refl (parts_total each r (k + 1) m)

pub lengths_total : (cells chains : ℕ) → 1 ≤ chains → total (chain_lengths cells chains) ≡ cells
lengths_total cells chains some =
    let all = parts_total (cells / chains) (cells % chains) 0 chains in
    let less : cells % chains < chains = omega arith in
    let whole : chains * (cells / chains) + cells % chains ≡ cells = omega arith in
    let few : min (cells % chains - 0) chains ≡ cells % chains = omega arith in
    all ∙ omega (arith, few, whole)

-- ---- blocks whose lengths come to the whole

joined : {T : Type 0} (lengths : List ℕ) (items : List T) → total lengths ≡ length items → flat_map (λ block. block) (blocks lengths items) ≡ items
joined {T = T} [] items e = sym (nil_from_length items (sym e))
joined {T = T} (l ∷ lengths) items e =
    let left = length-drop l items in
    ap (λ (rest : List T). take l items ++ rest) (joined lengths (drop l items) (omega arith)) ∙ take-append-drop l items

pub at_block : {T : Type 0} (lengths : List ℕ) (items : List T) (k : ℕ) (block : List T) → total lengths ≡ length items → slice_get (blocks lengths items) k ≡ Some block → slice_get lengths k ≡ Some (length block)
at_block {T = T} [] items k block e at = absurd (let f : ⊥ = cc in f)
at_block {T = T} (l ∷ lengths) items zero block e at =
    let is : take l items ≡ block = cc in
    let long = length-take l items in
    let same : l ≡ length (take l items) = omega arith in
    ap Some (same ∙ ap (λ (xs : List T). length xs) is)
at_block {T = T} (l ∷ lengths) items (suc k) block e at = let left = length-drop l items in at_block lengths (drop l items) k block (omega arith) at

pub chains_hold : ChainsHoldCells
chains_hold = λ cells chains some. joined (chain_lengths (length cells) chains) cells (lengths_total (length cells) chains some)

-- ---- each length is one of two

pub record IsEach (each l : ℕ) : Type 0 where
  pub least : each ≤ l
  pub most : l ≤ each + 1

bit_small : (t : Bool) (each : ℕ) → IsEach each (each + cond t 1 0)
bit_small true each = record { least = omega arith; most = omega arith }
bit_small false each = record { least = omega arith; most = omega arith }

each_is : (each r k m i l : ℕ) → slice_get (map (λ c. each + cond (nat_lt c r) 1 0) (range_with_len k m)) i ≡ Some l → IsEach each l
each_is each r k zero i l at = absurd (let f : ⊥ = cc in f)
each_is each r k (suc m) zero l at = let e : each + cond (nat_lt k r) 1 0 ≡ l = cc in rw (← e) (bit_small (nat_lt k r) each)
each_is each r k (suc m) (suc i) l at = each_is each r (k + 1) m i l at

pub chains_even : ChainsAreEven
chains_even = λ cells chains a b one other some first second. (
    let whole = lengths_total (length cells) chains some in
    let x = each_is (length cells / chains) (length cells % chains) 0 chains a (length one) (at_block (chain_lengths (length cells) chains) cells a one whole first) in
    let y = each_is (length cells / chains) (length cells % chains) 0 chains b (length other) (at_block (chain_lengths (length cells) chains) cells b other whole second) in
    omega arith)

-- Numbers that follow from a wish.
use Rattle.std.proofs.Common.{◌≡◌, ℕ, zero, suc, ◌+◌, ◌*◌, ◌/◌, ◌%◌, ◌≤◌, Bool, true, false, cond, min, Option, None, Some, find, pos, refl, sym, subst, arith}
use Rattle.std.specs.Prelude.{nat_lt, unwrap_or, if◌then◌else◌}
use Rattle.std.specs.List.{range_with_len}
use Rattle.std.proofs.Math.Nat.{le-max_left, le-min, le-mul_of_pos_right, min-le_left, min-le_right}
use Rattle.std.proofs.lemmas.Nat.{div-add-mod'}
use Rattle.std.proofs.lemmas.Bool.{lt-ltb, ltb-false}
use Rattle.std.proofs.lemmas.Option.{none-some}
use Rattle.dft_configure.specs.Compacting.{are_enough, fewest_masks, masks_of, outputs_of}
use Rattle.dft_decompressor.specs.Sizes.{rounded_up}
use Rattle.dft_configuring.specs.declared.wanted.Wanted.{Wanted}
use Rattle.dft_configuring.specs.declared.error.ConfigureError.TheVariants.{TooMany}
use Rattle.dft_configuring.specs.declared.error.Limited.TheVariants.{Masks}
use Rattle.dft_configuring.specs.Refusals.{many_masks}
use Rattle.dft_configuring.specs.Wanted.{IsUpTo, IsWanted, chains_by, chains_for}

some_by : (chains length : Option ℕ) (cells : ℕ) → IsUpTo 1024 chains → 1 ≤ chains_by chains length cells
some_by (Some chains) length cells within = within.0
some_by None (Some length) cells within = le-max_left 1 (rounded_up cells length)
some_by None None cells within = omega arith

pub chains_some : (wanted : Wanted) (cells : ℕ) → IsWanted wanted → 1 ≤ chains_for wanted cells
chains_some wanted cells is = some_by wanted.chains wanted.length cells is.chains

wished_some : (chains channels : ℕ) (wished : Option ℕ) → 1 ≤ chains → 1 ≤ channels → IsUpTo 32 wished → 1 ≤ outputs_of chains channels wished
wished_some chains channels None some one within = le-min one some
wished_some chains channels (Some outputs) some one within = within.0

pub outputs_some : (wanted : Wanted) (chains : ℕ) → IsWanted wanted → 1 ≤ chains → 1 ≤ outputs_of chains wanted.channels wanted.outputs
outputs_some wanted chains is some = wished_some chains wanted.channels wanted.outputs some is.channels.0 is.outputs

wished_few : (chains channels : ℕ) (wished : Option ℕ) → channels ≤ 32 → IsUpTo 32 wished → outputs_of chains channels wished ≤ 32
wished_few chains channels None few within = let least = min-le_left channels chains in omega (arith, least, few)
wished_few chains channels (Some outputs) few within = within.1

pub outputs_few : (wanted : Wanted) (chains : ℕ) → IsWanted wanted → outputs_of chains wanted.channels wanted.outputs ≤ 32
outputs_few wanted chains is = wished_few chains wanted.channels wanted.outputs is.channels.1 is.outputs

-- masks
found_in : (p : ℕ → Bool) (from count d most : ℕ) → 1 ≤ from → from + count ≤ most + 1 → (1 ≤ d) × (d ≤ most) → (1 ≤ unwrap_or (find p (range_with_len from count)) d) × (unwrap_or (find p (range_with_len from count)) d ≤ most)
found_in p from zero d most one within is = is
found_in p from (suc count) d most one within is = by (p from) (found_in p (from + 1) count d most (omega (arith, one)) (omega (arith, within)) is)
  where
    by : (b : Bool) → ((1 ≤ unwrap_or (find p (range_with_len (from + 1) count)) d) × (unwrap_or (find p (range_with_len (from + 1) count)) d ≤ most)) →
        (1 ≤ unwrap_or (cond b (Some from) (find p (range_with_len (from + 1) count))) d) × (unwrap_or (cond b (Some from) (find p (range_with_len (from + 1) count))) d ≤ most)
    by true rest = (one, omega (arith, within))
    by false rest = rest

-- between one and the lesser of the chains and 32
abbrev pub AreMasks : (chains masks : ℕ) → Type 0
AreMasks chains masks = (1 ≤ masks) × (masks ≤ 32) × (masks ≤ chains)

fewest_in : (chains cycles : ℕ) → 1 ≤ chains → AreMasks chains (fewest_masks chains cycles)
fewest_in chains cycles some =
    let least = min-le_right chains 32 in
    let few = min-le_left chains 32 in
    let one : 1 ≤ min chains 32 = le-min some (omega arith) in
    let found = found_in (are_enough chains cycles) 1 (min chains 32) (min chains 32) (min chains 32) (omega arith) (omega arith) (one, omega arith) in
    (found.0, omega (arith, found.1, least), omega (arith, found.1, few))

masks_by : (chains cycles : ℕ) (wished : Option ℕ) → 1 ≤ chains → IsUpTo 32 wished → many_masks chains wished ≡ None → AreMasks chains (masks_of chains cycles wished)
masks_by chains cycles None some within none = fewest_in chains cycles some
masks_by chains cycles (Some masks) some within none = (within.0, within.1, by (nat_lt chains masks) refl none)
  where
    by : (b : Bool) → nat_lt chains masks ≡ b → (if b then Some (TooMany Masks (pos chains)) else None) ≡ None → masks ≤ chains
    by true is fits = absurd (none-some (TooMany Masks (pos chains)) (sym fits))
    by false is fits = ltb-false chains masks is

pub masks_in : (wanted : Wanted) (chains cycles : ℕ) → IsWanted wanted → 1 ≤ chains → many_masks chains wanted.masks ≡ None → AreMasks chains (masks_of chains cycles wanted.masks)
masks_in wanted chains cycles is some none = masks_by chains cycles wanted.masks some is.masks none

-- no chain is longer than all cells
pub longest_small : (cells chains one : ℕ) → 1 ≤ chains → one ≡ (if nat_lt 0 (cells % chains) then 1 else 0) → cells / chains + one ≤ cells
longest_small cells chains one some is = subst (λ (k : ℕ). cells / chains + k ≤ cells) (sym is) (omega (arith, parts, whole, least (cells % chains)))
  where
    parts : cells / chains ≤ cells / chains * chains
    parts = le-mul_of_pos_right {m = chains} (cells / chains) (omega (arith, some))

    whole : cells / chains * chains + cells % chains ≡ cells
    whole = div-add-mod' cells chains

    least : (rest : ℕ) → (if nat_lt 0 rest then 1 else 0) ≤ rest
    least zero = omega arith
    least (suc rest) = rw (lt-ltb 0 (suc rest) (omega arith)) (omega arith)

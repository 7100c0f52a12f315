-- Masks by chain.
use Rattle.std.proofs.Common.{ℕ, Bool, false, List, [], ◌∷◌, ◌++◌, ◌≡◌, ◌<◌, ◌≤◌, ◌+◌, ◌-◌, refl, sym, ap, arith, map, take, drop, length, length-append, drop-drop, append_assoc, append-nil, Some, ◌∙◌, zero-add}
use Rattle.std.specs.Prelude.{◌||◌, slice_get}
use Rattle.std.specs.List.{list_any, enumerate_from}
use Rattle.std.proofs.lemmas.List.{get_or-map, drop_all}
use Rattle.std.proofs.lemmas.List.FromFn.{get_or-enumerate_from, length-enumerate_from}
use Rattle.std.proofs.lemmas.Option.{get_or_from_slice_get, slice_get_within}
use Rattle.dft_base.specs.declared.tri.Tri.{Tri}
use Rattle.dft_base.specs.Solutions.{bit_at}
use Rattle.dft_base.proofs.BitLemmas.{neither}
use Rattle.dft_base.proofs.ListLemmas.{drop_at}
use Rattle.dft_netlist.specs.declared.ids.InstanceId.{InstanceId}
use Rattle.dft_expect.specs.Loaded.{all_cells}
use Rattle.dft_expect.specs.Masks.{is_unknown, is_masked, by_chain, masks_of}
use Rattle.dft_expect.specs.Laws.{UnmaskedAreKnown}

-- the mask bit of a chain
pub mask_at : (always : List Bool) (values : List (List Tri)) (chain : ℕ) (cells : List Tri) → slice_get values chain ≡ Some cells → bit_at (masks_of always values) chain ≡ is_masked (bit_at always chain) cells
mask_at always values chain cells at =
    let within : chain < length values = slice_get_within values chain cells at in
    let mask : ℕ × List Tri → Bool = λ c. is_masked (bit_at always c.0) c.1 in
    get_or-map mask (enumerate_from 0 values) chain (0, cells) false (omega (arith, length-enumerate_from 0 values))
    ∙ ap mask (get_or-enumerate_from 0 values chain (0, cells) within)
    ∙ (λ i. is_masked (bit_at always (zero-add chain i)) (get_or_from_slice_get values chain cells cells at i))

pub unmasked : UnmaskedAreKnown
unmasked always values chain cells at clear = neither (list_any is_unknown cells) (bit_at always chain) (sym (mask_at always values chain cells at) ∙ clear)

-- ---- chain by chain

-- the mask bit of a chain with these values
abbrev pub mask_in : (always : List Bool) → ℕ × List Tri → Bool
mask_in always c = is_masked (bit_at always c.0) c.1

-- the masks so far, with those of the chains from a place on, whose values stand behind the first ones
pub record Masking (always : List Bool) (chains : List (List InstanceId)) (values : List Tri) (k first : ℕ) (masks : List Bool) : Type 0 where
  pub size : first + length (all_cells (drop k chains)) ≡ length values
  pub same : masks ++ map (mask_in always) (enumerate_from k (by_chain (drop k chains) (drop first values))) ≡ masks_of always (by_chain chains values)

pub masking_starts : (always : List Bool) (chains : List (List InstanceId)) (values : List Tri) → length values ≡ length (all_cells chains) → Masking always chains values 0 0 []
masking_starts always chains values size = record { size = omega arith; same = refl }

pub masking_fits : (always : List Bool) (chains : List (List InstanceId)) (values : List Tri) (k first : ℕ) (masks : List Bool) (cells : List InstanceId) → slice_get chains k ≡ Some cells
    → Masking always chains values k first masks → first + length cells ≤ length values
masking_fits always chains values k first masks cells at m =
    let e : length (all_cells (drop k chains)) ≡ length (all_cells (cells ∷ drop (k + 1) chains)) = ap (λ (l : List (List InstanceId)). length (all_cells l)) (drop_at chains k cells at) in
    omega (arith, m.size, e, length-append cells (all_cells (drop (k + 1) chains)))

pub masking_goes_on : (always : List Bool) (chains : List (List InstanceId)) (values : List Tri) (k first : ℕ) (masks : List Bool) (cells : List InstanceId) (mask : Bool) → slice_get chains k ≡ Some cells
    → mask ≡ is_masked (bit_at always k) (take (length cells) (drop first values)) → Masking always chains values k first masks → Masking always chains values (k + 1) (first + length cells) (masks ++ mask ∷ [])
masking_goes_on always chains values k first masks cells mask at is m =
    let more = drop (k + 1) chains in
    let e = drop_at chains k cells at in
    let left : length (all_cells (drop k chains)) ≡ length (all_cells (cells ∷ more)) = ap (λ (l : List (List InstanceId)). length (all_cells l)) e in
    let f : ℕ × List Tri → Bool = mask_in always in
    record {
      size = omega (arith, m.size, left, length-append cells (all_cells more));
      same = append_assoc masks (mask ∷ []) (map f (enumerate_from (k + 1) (by_chain more (drop (first + length cells) values))))
          ∙ ap (λ (l : List Tri). masks ++ (mask ∷ map f (enumerate_from (k + 1) (by_chain more l)))) (sym (drop-drop (length cells) first values))
          ∙ ap (λ (b : Bool). masks ++ (b ∷ map f (enumerate_from (k + 1) (by_chain more (drop (length cells) (drop first values)))))) is
          ∙ ap (λ (l : List (List InstanceId)). masks ++ map f (enumerate_from k (by_chain l (drop first values)))) (sym e)
          ∙ m.same;
    }

pub masking_ends : (always : List Bool) (chains : List (List InstanceId)) (values : List Tri) (k first : ℕ) (masks : List Bool) → length chains ≤ k
    → Masking always chains values k first masks → masks ≡ masks_of always (by_chain chains values)
masking_ends always chains values k first masks past m =
    sym (append-nil masks) ∙ ap (λ (l : List (List InstanceId)). masks ++ map (mask_in always) (enumerate_from k (by_chain l (drop first values)))) (sym (drop_all k chains past)) ∙ m.same

-- a mask bit that is asked for a part of the values
pub mask_is : (always : List Bool) (values read : List Tri) (first cells k j : ℕ) (seen mask : Bool) → read ≡ values → j ≡ k → seen ≡ list_any is_unknown (take (first + cells - first) (drop first read))
    → mask ≡ (seen || bit_at always j) → mask ≡ is_masked (bit_at always k) (take cells (drop first values))
mask_is always values read first cells k j seen mask same at look is =
    let part : first + cells - first ≡ cells = omega arith in
    is ∙ (λ i. look i || bit_at always (at i)) ∙ (λ i. list_any is_unknown (take (part i) (drop first (same i))) || bit_at always k)

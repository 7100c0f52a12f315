-- Lists that are packed one behind the other, by their places.
use Rattle.std.proofs.Common.{ℕ, zero, suc, List, [], ◌∷◌, ◌++◌, ◌≡◌, ◌<◌, ◌≤◌, ◌+◌, ◌-◌, length, length-append, take, drop, refl, sym, ap, ◌∙◌, subst, get_or, arith}
use Rattle.std.specs.Prelude.{slice_range}
use Rattle.std.proofs.Math.Seq.{drop-append_seam}
use Rattle.std.proofs.lemmas.List.{drop-append-le, get_or_past, length-drop, take-append-le, take_all, take_more}
use Rattle.dft_logic.specs.Packed.{lists_from, AreEnds}

-- ---- where lists end

start_least : (start : ℕ) (ends : List ℕ) (count : ℕ) → AreEnds start ends count → start ≤ count
start_least start [] count is = omega (arith, is)
start_least start (end ∷ ends) count p = (let e = p.0 in let f = start_least end ends count p.1 in omega arith)

pub ends_more : (start : ℕ) (ends : List ℕ) (count more : ℕ) → AreEnds start ends count → count ≤ more → AreEnds start (ends ++ more ∷ []) more
ends_more start [] count more is less = (omega (arith, is, less), refl)
ends_more start (end ∷ ends) count more p less = (p.0, ends_more end ends count more p.1 less)

ends_within : (start : ℕ) (ends : List ℕ) (count place : ℕ) → AreEnds start ends count → place < length ends → (get_or (start ∷ ends) place 0 ≤ get_or ends place 0) × (get_or ends place 0 ≤ count)
ends_within start [] count place p less = absurd (omega (arith, less))
ends_within start (end ∷ ends) count zero p less = (p.0, start_least end ends count p.1)
ends_within start (end ∷ ends) count (suc place) p less = ends_within end ends count place p.1 (let e : suc place < suc (length ends) = less in omega arith)

-- ---- the list at a place

list_here : (start : ℕ) (ends numbers : List ℕ) (place : ℕ) → place < length ends → get_or (lists_from start ends numbers) place [] ≡ slice_range numbers (get_or (start ∷ ends) place 0) (get_or ends place 0)
list_here start [] numbers place less = absurd (omega (arith, less))
list_here start (end ∷ ends) numbers zero less = refl
list_here start (end ∷ ends) numbers (suc place) less = list_here end ends numbers place (let e : suc place < suc (length ends) = less in omega arith)

pub starts_before : (ends : List ℕ) (count place : ℕ) → AreEnds 0 ends count → place < length ends → 0 < place → get_or ends (place - 1) 0 ≤ get_or ends place 0
starts_before ends count zero p less some = absurd (omega (arith, some))
starts_before ends count (suc place) p less some =
    (let e : suc place - 1 ≡ place = omega arith in let P : ℕ → Type 0 = λ k. get_or ends k 0 ≤ get_or ends (suc place) 0 in subst P (sym e) (ends_within 0 ends count (suc place) p less).0)

pub ends_inside : (ends : List ℕ) (count place : ℕ) → AreEnds 0 ends count → place < length ends → get_or ends place 0 ≤ count
ends_inside ends count place p less = (ends_within 0 ends count place p less).1

pub list_bounded : (ends numbers : List ℕ) (place start end : ℕ) → place < length ends → start ≡ get_or (0 ∷ ends) place 0 → end ≡ get_or ends place 0 →
    slice_range numbers start end ≡ get_or (lists_from 0 ends numbers) place []
list_bounded ends numbers place start end less s e =
    ap (λ (k : ℕ). slice_range numbers k end) s ∙ ap (λ (k : ℕ). slice_range numbers (get_or (0 ∷ ends) place 0) k) e ∙ sym (list_here 0 ends numbers place less)

counted : (start : ℕ) (ends numbers : List ℕ) → length (lists_from start ends numbers) ≡ length ends
counted start [] numbers = refl
counted start (end ∷ ends) numbers = ap suc (counted end ends numbers)

pub none_past : (start : ℕ) (ends numbers : List ℕ) (place : ℕ) → length ends ≤ place → get_or (lists_from start ends numbers) place [] ≡ []
none_past start ends numbers place past = get_or_past (lists_from start ends numbers) place [] (let e = counted start ends numbers in omega arith)

-- ---- a list more

piece_kept : (numbers list : List ℕ) (start end : ℕ) → start ≤ end → end ≤ length numbers → slice_range (numbers ++ list) start end ≡ slice_range numbers start end
piece_kept numbers list start end less live =
    ap (λ (l : List ℕ). take (end - start) l) (drop-append-le start numbers list (omega arith)) ∙
    take-append-le (end - start) (drop start numbers) list (let e = length-drop start numbers in omega arith)

piece_new : (numbers list : List ℕ) (start : ℕ) → start ≡ length numbers → slice_range (numbers ++ list) start (length (numbers ++ list)) ≡ list
piece_new numbers list start is =
    let all = length-append numbers list in
    ap (λ (l : List ℕ). take (length (numbers ++ list) - start) l) (ap (λ (n : ℕ). drop n (numbers ++ list)) is ∙ drop-append_seam numbers list) ∙
    take_all (length (numbers ++ list) - start) list (omega arith)

pub lists_more : (start : ℕ) (ends numbers list : List ℕ) → AreEnds start ends (length numbers) →
    lists_from start (ends ++ length (numbers ++ list) ∷ []) (numbers ++ list) ≡ lists_from start ends numbers ++ list ∷ []
lists_more start [] numbers list is = ap (λ (l : List ℕ). l ∷ []) (piece_new numbers list start is)
lists_more start (end ∷ ends) numbers list p =
    ap (λ (l : List ℕ). l ∷ lists_from end (ends ++ length (numbers ++ list) ∷ []) (numbers ++ list)) (piece_kept numbers list start end p.0 (start_least end ends (length numbers) p.1)) ∙
    ap (λ (t : List (List ℕ)). slice_range numbers start end ∷ t) (lists_more end ends numbers list p.1)

-- the first lists are packed
pub record Packs (lists : List (List ℕ)) (j : ℕ) (ends numbers : List ℕ) : Type 0 where
  pub laid : AreEnds 0 ends (length numbers)
  pub packed : lists_from 0 ends numbers ≡ take j lists

pub pack_start : (lists : List (List ℕ)) (ends numbers : List ℕ) → ends ≡ [] → numbers ≡ [] → Packs lists 0 ends numbers
pack_start lists ends numbers e n =
    let P : List ℕ → Type 0 = λ es. Packs lists 0 es numbers in
    let Q : List ℕ → Type 0 = λ ns. Packs lists 0 [] ns in
    subst P (sym e) (subst Q (sym n) (record { laid = refl; packed = refl }))

pub pack_more : (lists : List (List ℕ)) (j : ℕ) (ends numbers list default new_ends new_numbers : List ℕ) (end : ℕ) → j < length lists → list ≡ get_or lists j default → Packs lists j ends numbers →
    new_numbers ≡ numbers ++ list → new_ends ≡ ends ++ end ∷ [] → end ≡ length new_numbers → Packs lists (j + 1) new_ends new_numbers
pack_more lists j ends numbers list default new_ends new_numbers end less is p longer pushed ended =
    let all : new_ends ≡ ends ++ length (numbers ++ list) ∷ [] = pushed ∙ ap (λ (m : ℕ). ends ++ m ∷ []) (ended ∙ ap length longer) in
    let more : take (j + 1) lists ≡ take j lists ++ list ∷ [] = take_more lists j default less ∙ ap (λ (l : List ℕ). take j lists ++ l ∷ []) (sym is) in
    let P : List ℕ → Type 0 = λ es. Packs lists (j + 1) es (numbers ++ list) in
    let Q : List ℕ → Type 0 = λ ns. Packs lists (j + 1) new_ends ns in
    let size = length-append numbers list in
    subst Q (sym longer) (subst P (sym all) (record {
      laid = ends_more 0 ends (length numbers) (length (numbers ++ list)) p.laid (omega arith);
      packed = lists_more 0 ends numbers list p.laid ∙ ap (λ (t : List (List ℕ)). t ++ list ∷ []) p.packed ∙ sym more;
    }))

pub pack_all : (lists : List (List ℕ)) (j : ℕ) (ends numbers : List ℕ) → length lists ≤ j → Packs lists j ends numbers → lists_from 0 ends numbers ≡ lists
pack_all lists j ends numbers past p = p.packed ∙ take_all j lists past

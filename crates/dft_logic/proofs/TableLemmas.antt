-- Tables of lists grow by one number at a time.
use Rattle.std.proofs.Common.{ℕ, zero, suc, List, [], ◌∷◌, ◌++◌, ◌≡◌, ◌≢◌, ◌<◌, ◌≤◌, ◌+◌, inl, inr, length, map, drop, drop-cons, add-one, length-set, refl, sym, ap, ◌∙◌, subst, get_or, slice_set, get_or-set_same, get_or-set_other, replicate, arith}
use Rattle.std.proofs.lemmas.Bool.Decides.{eqb_tells}
use Rattle.std.proofs.lemmas.List.{drop_all, length-replicate}
use Rattle.dft_netlist.specs.Drivers.{Source, Net, Tied, Loose, nets_of}
use Rattle.dft_netlist.specs.Orders.{Has}
use Rattle.dft_netlist.proofs.StandLemmas.{has_left, has_right, has_either}
use Rattle.dft_logic.specs.declared.circuit.Operand.{Operand}
use Rattle.dft_logic.specs.Circuit.{source_at}
use Rattle.dft_logic.specs.Tables.{list_at, IsAdded, IsTable}

-- ---- the numbers of two lists

-- ---- a number more

pub added_none : (old : List (List ℕ)) (number : ℕ) → IsAdded old [] number old
added_none old number = record { size = refl; kept = λ k n h. h; here = λ k less h. absurd h; only = λ k n h. inl h }

-- past the end there is no list
pub added_past : (old : List (List ℕ)) (place number : ℕ) → length old ≤ place → IsAdded old (place ∷ []) number old
added_past old place number past = record {
  size = refl;
  kept = λ k n h. h;
  here = λ k less h. elim h [ inl e ↦ absurd (omega (arith, e)) | inr none ↦ absurd none ];
  only = λ k n h. inl h;
}

pub added_one : (old : List (List ℕ)) (place number : ℕ) (row new : List ℕ) → place < length old → row ≡ list_at old place → new ≡ row ++ number ∷ [] → IsAdded old (place ∷ []) number (slice_set old place new)
added_one old place number row new live was is =
    let now : List (List ℕ) = slice_set old place new in
    let here : list_at now place ≡ list_at old place ++ number ∷ [] = get_or-set_same old place new [] live ∙ is ∙ ap (λ (l : List ℕ). l ++ number ∷ []) was in
    let other : (k : ℕ) → k ≢ place → list_at now k ≡ list_at old k = λ k ne. get_or-set_other old place k new [] ne in
    record {
      size = length-set old place new;
      kept = λ k n h. elim (eqb_tells k place) [
        | inl q ↦ (let R : ℕ → Type 0 = λ j. Has (list_at old j) n → Has (list_at now j) n in
            let P : List ℕ → Type 0 = λ l. Has l n in
            subst R (sym q.1) (λ has. subst P (sym here) (has_left (list_at old place) (number ∷ []) n has)) h)
        | inr q ↦ (let P : List ℕ → Type 0 = λ l. Has l n in subst P (sym (other k q.1)) h)
      ];
      here = λ k less h. elim h [
        | inl e ↦ (let R : ℕ → Type 0 = λ j. Has (list_at now j) number in let P : List ℕ → Type 0 = λ l. Has l number in
            subst R (sym e) (subst P (sym here) (has_right (list_at old place) (number ∷ []) number (inl refl))))
        | inr none ↦ absurd none
      ];
      only = λ k n h. elim (eqb_tells k place) [
        | inl q ↦ (let P : List ℕ → Type 0 = λ l. Has l n in
            elim (has_either (list_at old place) (number ∷ []) n (subst P (ap (λ (j : ℕ). list_at now j) q.1 ∙ here) h)) [
              | inl was ↦ (let R : ℕ → Type 0 = λ j. Has (list_at old j) n in inl (subst R (sym q.1) was))
              | inr new ↦ elim new [ inl e ↦ inr (e, inl q.1) | inr none ↦ absurd none ]
            ])
        | inr q ↦ (let P : List ℕ → Type 0 = λ l. Has l n in inl (subst P (other k q.1) h))
      ];
    }

added_then : (a b c : List (List ℕ)) (ps qs : List ℕ) (number : ℕ) → IsAdded a ps number b → IsAdded b qs number c → IsAdded a (ps ++ qs) number c
added_then a b c ps qs number p q = record {
  size = q.size ∙ p.size;
  kept = λ k n h. q.kept k n (p.kept k n h);
  here = λ k less h. elim (has_either ps qs k h) [
    | inl left ↦ q.kept k number (p.here k less left)
    | inr right ↦ q.here k (let e = p.size in omega arith) right
  ];
  only = λ k n h. elim (q.only k n h) [
    | inl before ↦ elim (p.only k n before) [
      | inl was ↦ inl was
      | inr left ↦ inr (left.0, has_left ps qs k left.1)
    ]
    | inr right ↦ inr (right.0, has_right ps qs k right.1)
  ];
}

-- ---- the operands that are left

nets_front : (x : Source) (xs : List Source) → nets_of (x ∷ []) ++ nets_of xs ≡ nets_of (x ∷ xs)
nets_front (Net net) xs = refl
nets_front (Tied bit) xs = refl
nets_front (Loose i pin) xs = refl

pub inputs_front : (inputs : List Operand) (j : ℕ) (x : Operand) → j < length inputs → x ≡ get_or inputs j x → nets_of (map source_at (drop j inputs)) ≡ nets_of (source_at x ∷ []) ++ nets_of (map source_at (drop (j + 1) inputs))
inputs_front inputs j x less is =
    rw (add-one) (ap (λ (l : List Operand). nets_of (map source_at l)) (drop-cons inputs j x less ∙ ap (λ (y : Operand). y ∷ drop (suc j) inputs) (sym is)) ∙ sym (nets_front (source_at x) (map source_at (drop (suc j) inputs))))

-- what the operands that are left add comes to what all add
abbrev pub Adding : (inputs : List Operand) (reader : ℕ) (start now : List (List ℕ)) (j : ℕ) → Type 0
Adding inputs reader start now j = (new : List (List ℕ)) → IsAdded now (nets_of (map source_at (drop j inputs))) reader new → IsAdded start (nets_of (map source_at inputs)) reader new

pub adding_more : (inputs : List Operand) (reader : ℕ) (start now next : List (List ℕ)) (j : ℕ) (x : Operand) (ps : List ℕ) → j < length inputs → x ≡ get_or inputs j x → ps ≡ nets_of (source_at x ∷ []) → IsAdded now ps reader next →
    Adding inputs reader start now j → Adding inputs reader start next (j + 1)
adding_more inputs reader start now next j x ps less is places added before new rest =
    let P : List ℕ → Type 0 = λ l. IsAdded now l reader new in
    let Q : List ℕ → Type 0 = λ l. IsAdded now l reader next in
    before new (subst P (sym (inputs_front inputs j x less is)) (added_then now next new (nets_of (source_at x ∷ [])) (nets_of (map source_at (drop (j + 1) inputs))) reader (subst Q places added) rest))

pub adding_all : (inputs : List Operand) (reader : ℕ) (start now : List (List ℕ)) (j : ℕ) → length inputs ≤ j → Adding inputs reader start now j → IsAdded start (nets_of (map source_at inputs)) reader now
adding_all inputs reader start now j past before =
    (let P : List Operand → Type 0 = λ l. IsAdded now (nets_of (map source_at l)) reader now in before now (subst P (sym (drop_all j inputs past)) (added_none now reader)))

-- ---- tables

none_listed : (room k n : ℕ) → Has (list_at (replicate room []) k) n → ⊥
none_listed zero k n h = h
none_listed (suc room) zero n h = h
none_listed (suc room) (suc k) n h = none_listed room k n h

pub table_start : (room : ℕ) (places : ℕ → List ℕ) (table : List (List ℕ)) → table ≡ replicate room [] → IsTable room 0 places table
table_start room places table is =
    let P : List (List ℕ) → Type 0 = λ t. IsTable room 0 places t in
    subst P (sym is) (record { size = length-replicate room []; each = λ k n less. absurd (omega arith); only = λ k n h. absurd (none_listed room k n h) })

pub table_more : (room count : ℕ) (places : ℕ → List ℕ) (table new : List (List ℕ)) (ps : List ℕ) → IsTable room count places table → ps ≡ places count → IsAdded table ps count new → IsTable room (count + 1) places new
table_more room count places table new ps t is added = record {
  size = added.size ∙ t.size;
  each = λ k n less live h. elim (eqb_tells n count) [
    | inl q ↦ (let P : ℕ → Type 0 = λ m. Has (places m) k → Has (list_at new k) m in
        let Q : List ℕ → Type 0 = λ l. Has l k in
        subst P (sym q.1) (λ here. added.here k (let e = t.size in omega arith) (subst Q (sym is) here)) h)
    | inr q ↦ (let ne = q.1 in added.kept k n (t.each k n (omega arith) live h))
  ];
  only = λ k n h. elim (added.only k n h) [
    | inl before ↦ (let found = t.only k n before in let less = found.0 in (omega arith, found.1))
    | inr here ↦ (let P : ℕ → Type 0 = λ m. (m < count + 1) × Has (places m) k in let Q : List ℕ → Type 0 = λ l. Has l k in subst P (sym here.0) (omega arith, subst Q is here.1))
  ];
}

table_all : (room count j : ℕ) (places : ℕ → List ℕ) (table : List (List ℕ)) → count ≤ j → j ≤ count → IsTable room j places table → IsTable room count places table
table_all room count j places table past less t = (let e : j ≡ count = omega arith in let P : ℕ → Type 0 = λ n. IsTable room n places table in subst P e t)

pub table_packed : (room count j : ℕ) (places : ℕ → List ℕ) (table lent new : List (List ℕ)) → new ≡ lent → lent ≡ table → count ≤ j → j ≤ count → IsTable room j places table → IsTable room count places new
table_packed room count j places table lent new is of past less t =
    (let P : List (List ℕ) → Type 0 = λ l. IsTable room count places l in subst P (sym (is ∙ of)) (table_all room count j places table past less t))

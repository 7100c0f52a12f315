-- The cube of a node, from lists of cells and ports and the node's bits.
use Rattle.std.proofs.Common.{ℕ, zero, suc, ◌+◌, ◌≡◌, ◌<◌, ◌≤◌, Bool, List, [], ◌∷◌, ◌++◌, length, map, drop, get_or, min, refl, sym, ap, arith, ◌∙◌, append_assoc, append-nil}
use Rattle.std.proofs.lemmas.List.{drop_more}
use Rattle.dft_netlist.specs.declared.ids.NetId.{NetId}
use Rattle.dft_netlist.specs.declared.ids.InstanceId.{InstanceId}
use Rattle.dft_seek.specs.Walks.{Cell, Port}
use Rattle.dft_seek.specs.Sought.{cells_given, ports_given}
use Rattle.dft_seek.specs.Turns.{paired}

-- ---- one more beside its bit

pub paired_more : {A : Type 0} (xs : List A) (bits : List Bool) (p : ℕ) (d : A) (e : Bool) (given new all : List (A × Bool)) → p < length xs → p < length bits → new ≡ given ++ (get_or xs p d, get_or bits p e) ∷ [] →
    given ++ paired (drop p xs) (drop p bits) ≡ all → new ++ paired (drop (p + 1) xs) (drop (p + 1) bits) ≡ all
paired_more {A} xs bits p d e given new all less within push before =
    let rest : List (A × Bool) = paired (drop (p + 1) xs) (drop (p + 1) bits) in
    let x : A × Bool = (get_or xs p d, get_or bits p e) in
    ap (λ (l : List (A × Bool)). l ++ rest) push ∙ append_assoc given (x ∷ []) rest
    ∙ ap (λ (l : List (A × Bool)). given ++ l) (sym (λ t. paired (drop_more xs p d less t) (drop_more bits p e within t))) ∙ before

none_paired : {A : Type 0} (xs : List A) (bits : List Bool) (p : ℕ) → min (length xs) (length bits) ≤ p → paired (drop p xs) (drop p bits) ≡ []
none_paired {A} [] bits zero past = refl
none_paired {A} [] bits (suc p) past = refl
none_paired {A} (x ∷ xs) [] zero past = refl
none_paired {A} (x ∷ xs) (bit ∷ bits) zero past = absurd (omega (arith, past))
none_paired {A} (x ∷ xs) [] (suc p) past = none_left (drop p xs)
  where
    none_left : (left : List A) → paired left [] ≡ []
    none_left [] = refl
    none_left (y ∷ left) = refl
none_paired {A} (x ∷ xs) (bit ∷ bits) (suc p) past = none_paired xs bits p (omega (arith, past))

pub paired_all : {A : Type 0} (xs : List A) (bits : List Bool) (p : ℕ) (given all : List (A × Bool)) → min (length xs) (length bits) ≤ p → given ++ paired (drop p xs) (drop p bits) ≡ all → given ≡ all
paired_all {A} xs bits p given all past before = sym (append-nil given) ∙ ap (λ (l : List (A × Bool)). given ++ l) (sym (none_paired xs bits p past)) ∙ before

-- ---- variables

no_cells : (ports : List NetId) (bits : List Bool) → cells_given (map (λ p. Port p.0) ports) bits ≡ []
no_cells [] bits = refl
no_cells (p ∷ ports) [] = refl
no_cells (p ∷ ports) (bit ∷ bits) = no_cells ports bits

pub cells_are : (cells : List InstanceId) (ports : List NetId) (bits : List Bool) → cells_given (map (λ cell. Cell cell.0) cells ++ map (λ p. Port p.0) ports) bits ≡ paired cells bits
cells_are [] ports bits = no_cells ports bits
cells_are (c ∷ cells) ports [] = refl
cells_are (c ∷ cells) ports (bit ∷ bits) = ap (λ (l : List (InstanceId × Bool)). (c, bit) ∷ l) (cells_are cells ports bits)

ports_alone : (ports : List NetId) (bits : List Bool) → ports_given (map (λ p. Port p.0) ports) bits ≡ paired ports bits
ports_alone [] bits = refl
ports_alone (p ∷ ports) [] = refl
ports_alone (p ∷ ports) (bit ∷ bits) = ap (λ (l : List (NetId × Bool)). (p, bit) ∷ l) (ports_alone ports bits)

pub ports_are : (cells : List InstanceId) (ports : List NetId) (bits : List Bool) → ports_given (map (λ cell. Cell cell.0) cells ++ map (λ p. Port p.0) ports) bits ≡ paired ports (drop (length cells) bits)
ports_are [] ports bits = ports_alone ports bits
ports_are (c ∷ cells) [] [] = refl
ports_are (c ∷ cells) (p ∷ ports) [] = refl
ports_are (c ∷ cells) ports (bit ∷ bits) = ports_are cells ports bits

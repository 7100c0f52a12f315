-- A netlist that grows by one part after another.
use Rattle.std.proofs.Common.{ℕ, ◌+◌, ◌-◌, ◌<◌, ◌≤◌, ◌≡◌, inl, inr, take, List, [], ◌∷◌, ◌++◌, length, drop, get_or, map, Option, None, Ok, Err, refl, sym, ap, subst, arith, ◌∙◌}
use Rattle.std.specs.List.{All}
use Rattle.std.proofs.lemmas.List.{get_or_append_left, get_or-append_right, length-append, length-take, get_or-take}
use Rattle.std.proofs.lemmas.List.Elements.{All-from_recursion}
use Rattle.std.proofs.lemmas.Bool.{cases_lt}
use Rattle.dft_base.specs.Name.{IsName}
use Rattle.dft_base.specs.Lexing.{Text}
use Rattle.dft_base.proofs.ListLemmas.{drop_over}
use Rattle.dft_netlist.specs.declared.ids.NetId.{NetId}
use Rattle.dft_netlist.specs.declared.error.NetlistError.{NetlistError}
use Rattle.dft_netlist.specs.declared.error.NetlistError.TheVariants as error
use Rattle.dft_netlist.specs.Netlist.{Netlist}
use Rattle.dft_netlist.specs.Building.{Answers, WithNet, net_refusal}
use Rattle.dft_netlist_text.specs.NetlistText.{Grown, unless_refused, and_grown, add_net, add_nets}
use Rattle.dft_hier.specs.Flat.{inside}
use Rattle.dft_hier.specs.Growing.{IsPrefix, IsRefusal}
use Rattle.dft_hier.proofs.NumberLemmas.{drop_next}

-- ---- one net more

net_added : (n new : Netlist) (name : Text) (net : NetId) → WithNet n name net new → net_refusal n name ≡ None → add_net n name ≡ Ok new
net_added n new name net w none = ap (λ (o : Option NetlistError). unless_refused o (record n { nets = n.nets ++ name ∷ [] })) none ∙ ap (λ (m : Netlist). Ok m) (sym w.grown)

refused_by : (refusal : Option NetlistError) (n : Netlist) (more : Netlist → Grown) (e : NetlistError) → Answers {A = NetId} refusal (Err e) → IsRefusal (and_grown (unless_refused refusal n) more) e
refused_by refusal n more (error.MultipleDrivers name) is = rw is refl
refused_by refusal n more (error.Loop name) is = rw is refl
refused_by refusal n more (error.DuplicateName name) is = rw is refl
refused_by refusal n more (error.TooMany what limit) is = rw is refl
refused_by refusal n more (error.Memory failed) is = tt

-- a refusal of what is left is one of the whole
pub same_refusal : (a b : Grown) (e : NetlistError) → a ≡ b → IsRefusal a e → IsRefusal b e
same_refusal a b e same is = subst (λ (g : Grown). IsRefusal g e) same is

-- the names from one on give what all give
abbrev pub NamesSoFar : (f : Text → Text) → (names : List Text) → (k : ℕ) → (start now : Netlist) → Type 0
NamesSoFar f names k start now = add_nets (map f (drop k names)) now ≡ add_nets (map f names) start

pub name_added : (f : Text → Text) (names : List Text) (k : ℕ) (name whole : Text) (net : NetId) (start old new : Netlist) → k < length names → name ≡ get_or names k name → whole ≡ f name → WithNet old whole net new → net_refusal old whole ≡ None →
    NamesSoFar f names k start old → NamesSoFar f names (k + 1) start new
name_added f names k name whole net start old new less is named w none h =
    let rest : List Text = drop (k + 1) names in
    sym (ap (λ (g : Grown). and_grown g (add_nets (map f rest))) (net_added old new whole net w none))
    ∙ ap (λ (x : Text). add_nets (x ∷ map f rest) old) named ∙ ap (λ (xs : List Text). add_nets (map f xs) old) (sym (drop_next names k name less is)) ∙ h

pub name_refused : (f : Text → Text) (names : List Text) (k : ℕ) (name whole : Text) (start old : Netlist) (e : NetlistError) → k < length names → name ≡ get_or names k name → whole ≡ f name → Answers {A = NetId} (net_refusal old whole) (Err e) →
    NamesSoFar f names k start old → IsRefusal (add_nets (map f names) start) e
name_refused f names k name whole start old e less is named refused h =
    let rest : List Text = drop (k + 1) names in
    same_refusal (add_nets (whole ∷ map f rest) old) (add_nets (map f names) start) e
    (ap (λ (x : Text). add_nets (x ∷ map f rest) old) named ∙ ap (λ (xs : List Text). add_nets (map f xs) old) (sym (drop_next names k name less is)) ∙ h)
    (refused_by (net_refusal old whole) (record old { nets = old.nets ++ whole ∷ [] }) (add_nets (map f rest)) e refused)

pub names_added : (f : Text → Text) (names : List Text) (k : ℕ) (start now : Netlist) → length names ≤ k → NamesSoFar f names k start now → add_nets (map f names) start ≡ Ok now
names_added f names k start now past h = sym h ∙ ap (λ (xs : List Text). add_nets (map f xs) now) (drop_over names k past)

-- ---- names behind prefixes

all_append : (P : ℕ → Type 0) (xs ys : Text) → All P xs → All P ys → All P (xs ++ ys)
all_append P xs ys a b = λ k d less. elim (cases_lt k (length xs)) [
  | inl front ↦ subst P (sym (get_or_append_left xs ys d k front)) (a k d front)
  | inr back ↦ (let l = length-append xs ys in subst P (sym (get_or-append_right xs ys (length xs) k d refl back)) (b (k - length xs) d (omega arith)))
]

pub name_behind : (p name : Text) → IsPrefix p → IsName name → IsName (p ++ name)
name_behind p name prefix is = record { some = (let l = length-append p name in let s = is.some in omega arith); each = all_append (λ b. (33 ≤ b) × (b ≤ 126)) p name prefix is.each }

all_taken : (P : ℕ → Type 0) (n : ℕ) (xs : Text) → All P xs → All P (take n xs)
all_taken P n xs a = λ k d less. (let l = length-take n xs in subst P (sym (get_or-take n xs k d (omega arith))) (a k d (omega arith)))

pub prefix_inside : (p name : Text) (n : ℕ) → IsPrefix p → IsName name → IsPrefix (inside (take n p) name)
prefix_inside p name n prefix is =
    all_append (λ b. (33 ≤ b) × (b ≤ 126)) (take n p ++ name) (47 ∷ []) (all_append (λ b. (33 ≤ b) × (b ≤ 126)) (take n p) name (all_taken (λ b. (33 ≤ b) × (b ≤ 126)) n p prefix) is.each)
    (All-from_recursion (λ b. (33 ≤ b) × (b ≤ 126)) (47 ∷ []) ((omega arith, omega arith), tt))

-- ---- the nets of a list that are left

pub net_left : (names : List Text) (k : ℕ) (name own : Text) (net : NetId) (old new : Netlist) (whole : Grown) → k < length names → name ≡ get_or names k name → own ≡ name → WithNet old own net new → net_refusal old own ≡ None → add_nets (drop k names) old ≡ whole → add_nets (drop (k + 1) names) new ≡ whole
net_left names k name own net old new whole less is same w none h =
    sym (ap (λ (g : Grown). and_grown g (add_nets (drop (k + 1) names))) (net_added old new own net w none))
    ∙ ap (λ (x : Text). add_nets (x ∷ drop (k + 1) names) old) same ∙ ap (λ (xs : List Text). add_nets xs old) (sym (drop_next names k name less is)) ∙ h

pub net_left_refused : (names : List Text) (k : ℕ) (name own : Text) (old : Netlist) (whole : Grown) (e : NetlistError) → k < length names → name ≡ get_or names k name → own ≡ name → Answers {A = NetId} (net_refusal old own) (Err e) → add_nets (drop k names) old ≡ whole → IsRefusal whole e
net_left_refused names k name own old whole e less is same refused h =
    same_refusal (add_nets (own ∷ drop (k + 1) names) old) whole e
    (ap (λ (x : Text). add_nets (x ∷ drop (k + 1) names) old) same ∙ ap (λ (xs : List Text). add_nets xs old) (sym (drop_next names k name less is)) ∙ h)
    (refused_by (net_refusal old own) (record old { nets = old.nets ++ own ∷ [] }) (add_nets (drop (k + 1) names)) e refused)

pub nets_over : (names : List Text) (k : ℕ) (now : Netlist) (whole : Grown) → length names ≤ k → add_nets (drop k names) now ≡ whole → whole ≡ Ok now
nets_over names k now whole past h = sym h ∙ ap (λ (xs : List Text). add_nets xs now) (drop_over names k past)

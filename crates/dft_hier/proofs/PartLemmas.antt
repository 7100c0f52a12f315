-- What modules give: their nets, and that it does not hang on how deep a recursion may go.
use Rattle.std.proofs.Common.{ℕ, zero, suc, ◌+◌, ◌≡◌, List, [], ◌∷◌, ◌++◌, length, map, Option, None, Some, slice_get, refl, sym, ap, subst, ◌∙◌, length-append, ◌<◌, arith}
use Rattle.std.specs.List.{cons_option}
use Rattle.dft_base.specs.Lexing.{Text}
use Rattle.dft_hier.proofs.ReachLemmas.{stands_behind}
use Rattle.dft_modules.specs.declared.module.SubInstance.{SubInstance}
use Rattle.dft_modules.specs.declared.module.Item.{Item}
use Rattle.dft_modules.specs.declared.module.Item.TheVariants as item
use Rattle.dft_modules.specs.Modules.{Module}
use Rattle.dft_hier.specs.Hierarchy.{subs_of, find_module}
use Rattle.dft_hier.specs.Numbers.{number_of, numbers_of_subs, children_of}
use Rattle.dft_hier.specs.Reach.{StandsIn, children_at, NoCircle}
use Rattle.dft_hier.specs.Flat.{Parts, and_parts, Giving, sub_parts, item_parts, parts_within, inside, moved_join, moved_instance, connection_joins}
use Rattle.dft_hier.specs.FlatNets.{NetsGiving, sub_nets, subs_nets, nets_in}
use Rattle.dft_hier.proofs.FitLemmas.{children_of_at}
use Rattle.dft_hier.proofs.HeightLemmas.{IsTall, Grows, all_tall}
use Rattle.dft_hier.proofs.ModuleLemmas.{number_there}
use Rattle.dft_hier.proofs.NumberLemmas.{module_there, graph_count, graph_within}

-- ---- nets alone

sub_nets_same : (give : Giving) (nets : NetsGiving) (prefix : Text) (outside first : ℕ) (s : SubInstance) (o : Option Module) → ((prefix : Text) (first : ℕ) (m : Module) → (give prefix first m).nets ≡ nets prefix m) → (sub_parts give prefix outside first s o).nets ≡ sub_nets nets prefix s o
sub_nets_same give nets prefix outside first s None same = refl
sub_nets_same give nets prefix outside first s (Some m) same = same (inside prefix s.name) first m

pub item_nets_same : (give : Giving) (nets : NetsGiving) (ms : List Module) (prefix : Text) (first next : ℕ) (items : List Item) → ((prefix : Text) (first : ℕ) (m : Module) → (give prefix first m).nets ≡ nets prefix m) →
    (item_parts give ms prefix first next items).nets ≡ subs_nets nets ms prefix (subs_of items)
item_nets_same give nets ms prefix first next [] same = refl
item_nets_same give nets ms prefix first next (item.Join j ∷ items) same = item_nets_same give nets ms prefix first next items same
item_nets_same give nets ms prefix first next (item.Cell i ∷ items) same = item_nets_same give nets ms prefix first next items same
item_nets_same give nets ms prefix first next (item.Sub s ∷ items) same =
    let here : Parts = sub_parts give prefix first next s (find_module ms s.of) in
    ap (λ (xs : List Text). xs ++ (item_parts give ms prefix first (next + length here.nets) items).nets) (sub_nets_same give nets prefix first next s (find_module ms s.of) same)
    ∙ ap (λ (xs : List Text). sub_nets nets prefix s (find_module ms s.of) ++ xs) (item_nets_same give nets ms prefix first (next + length here.nets) items same)

pub nets_same : (depth : ℕ) (ms : List Module) (prefix : Text) (first : ℕ) (m : Module) → (parts_within depth ms prefix first m).nets ≡ nets_in depth ms prefix m
nets_same zero ms prefix first m = refl
nets_same (suc depth) ms prefix first m =
    ap (λ (xs : List Text). map (λ name. prefix ++ name) m.nets ++ xs)
    (item_nets_same (parts_within depth ms) (nets_in depth ms) ms prefix first (first + length m.nets) m.items (λ p f x. nets_same depth ms p f x))

-- ---- how deep a recursion may go

-- so many modules stand below each other at most, this one among them
pub data StandsTall (ms : List Module) : ℕ → Module → Type 0 where
  Rises : {depth : ℕ} {m : Module} → ((place : ℕ) (s : SubInstance) (below : Module) → slice_get (subs_of m.items) place ≡ Some s → find_module ms s.of ≡ Some below → StandsTall ms depth below) → StandsTall ms (suc depth) m

-- what is given below, where the instances of these items give the same
same_sub : (give other : Giving) (prefix : Text) (outside first : ℕ) (s : SubInstance) (o : Option Module) → ((below : Module) → o ≡ Some below → (prefix : Text) (first : ℕ) → give prefix first below ≡ other prefix first below) → sub_parts give prefix outside first s o ≡ sub_parts other prefix outside first s o
same_sub give other prefix outside first s None same = refl
same_sub give other prefix outside first s (Some m) same = ap (λ (p : Parts). and_parts (record { nets = []; joins = connection_joins outside first s.connections m.ports; instances = [] }) p) (same m refl (inside prefix s.name) first)

same_items : (give other : Giving) (ms : List Module) (prefix : Text) (first next : ℕ) (items : List Item) →
    ((place : ℕ) (s : SubInstance) (below : Module) → slice_get (subs_of items) place ≡ Some s → find_module ms s.of ≡ Some below → (prefix : Text) (first : ℕ) → give prefix first below ≡ other prefix first below) →
    item_parts give ms prefix first next items ≡ item_parts other ms prefix first next items
same_items give other ms prefix first next [] same = refl
same_items give other ms prefix first next (item.Join j ∷ items) same = ap (λ (p : Parts). and_parts (record { nets = []; joins = moved_join first j ∷ []; instances = [] }) p) (same_items give other ms prefix first next items same)
same_items give other ms prefix first next (item.Cell i ∷ items) same = ap (λ (p : Parts). and_parts (record { nets = []; joins = []; instances = moved_instance prefix first i ∷ [] }) p) (same_items give other ms prefix first next items same)
same_items give other ms prefix first next (item.Sub s ∷ items) same =
    let here : Parts = sub_parts give prefix first next s (find_module ms s.of) in
    ap (λ (p : Parts). and_parts here p) (same_items give other ms prefix first (next + length here.nets) items (λ place t below at is. same (suc place) t below at is))
    ∙ ap (λ (p : Parts). and_parts p (item_parts other ms prefix first (next + length p.nets) items)) (same_sub give other prefix first next s (find_module ms s.of) (λ below is. same 0 s below refl is))

-- a module that stands no deeper gives the same where a recursion may go deeper
pub deep_enough : (ms : List Module) (depth : ℕ) (m : Module) → StandsTall ms depth m → (prefix : Text) (first : ℕ) → parts_within depth ms prefix first m ≡ parts_within (suc depth) ms prefix first m
deep_enough ms zero m tall prefix first = elim tall [ ]
deep_enough ms (suc depth) m (Rises each) prefix first =
    ap (λ (p : Parts). and_parts (record { nets = map (λ name. prefix ++ name) m.nets; joins = []; instances = [] }) p)
    (same_items (parts_within depth ms) (parts_within (suc depth) ms) ms prefix first (first + length m.nets) m.items
    (λ place s below at is p f. deep_enough ms depth below (each place s below at is) p f))

pub nets_deep_enough : (ms : List Module) (depth : ℕ) (m : Module) → StandsTall ms depth m → (prefix : Text) → nets_in depth ms prefix m ≡ nets_in (suc depth) ms prefix m
nets_deep_enough ms depth m tall prefix = sym (nets_same depth ms prefix 0 m) ∙ ap (λ (p : Parts). p.nets) (deep_enough ms depth m tall prefix 0) ∙ nets_same (suc depth) ms prefix 0 m

sub_number : (ms : List Module) (subs : List SubInstance) (place k : ℕ) (s : SubInstance) → slice_get subs place ≡ Some s → number_of ms s.of ≡ Some k → StandsIn (numbers_of_subs ms subs) k
sub_number ms [] place k s at is = absurd (let f : ⊥ = cc in f)
sub_number ms (x ∷ subs) zero k s at is =
    let e : x ≡ s = cc in
    subst (λ (o : Option ℕ). StandsIn (cons_option o (numbers_of_subs ms subs)) k) (sym (ap (λ (y : SubInstance). number_of ms y.of) e ∙ is)) (record { place = 0; at = refl })
sub_number ms (x ∷ subs) (suc place) k s at is = stands_behind (number_of ms x.of) (numbers_of_subs ms subs) k (sub_number ms subs place k s at is)

-- every module stands as tall as there are modules
pub every_tall : (ms : List Module) → NoCircle (children_of ms) → (k : ℕ) → k < length ms → IsTall (children_of ms) (length ms) k
every_tall ms apart k less = let c = graph_count ms in subst (λ (n : ℕ). IsTall (children_of ms) n k) c (all_tall (children_of ms) k apart (graph_within ms) (omega arith))

pub tall_module : (ms : List Module) (depth k : ℕ) (m : Module) → IsTall (children_of ms) depth k → slice_get ms k ≡ Some m → StandsTall ms depth m
tall_module ms zero k m tall at = elim tall [ ]
tall_module ms (suc depth) k m (Grows each) at = Rises (λ place s below there is. (
    let n = number_there ms s.of below is in
    let child : StandsIn (children_at (children_of ms) k) n.0 = subst (λ (xs : List ℕ). StandsIn xs n.0) (sym (children_of_at ms k m at)) (sub_number ms (subs_of m.items) place n.0 s there n.1) in
    tall_module ms depth n.0 below (each n.0 child) (module_there ms s.of n.0 n.1 ∙ is)))

-- ---- how many nets there are

count_subs : (give other : NetsGiving) (ms : List Module) (prefix others : Text) (subs : List SubInstance) → ((p q : Text) (m : Module) → length (give p m) ≡ length (other q m)) → length (subs_nets give ms prefix subs) ≡ length (subs_nets other ms others subs)
count_subs give other ms prefix others [] same = refl
count_subs give other ms prefix others (s ∷ subs) same =
    let a = by (find_module ms s.of) in
    let b = count_subs give other ms prefix others subs same in
    length-append (sub_nets give prefix s (find_module ms s.of)) (subs_nets give ms prefix subs) ∙ ap (λ (n : ℕ). n + length (subs_nets give ms prefix subs)) a
    ∙ ap (λ (n : ℕ). length (sub_nets other others s (find_module ms s.of)) + n) b ∙ sym (length-append (sub_nets other others s (find_module ms s.of)) (subs_nets other ms others subs))
  where
    by : (o : Option Module) → length (sub_nets give prefix s o) ≡ length (sub_nets other others s o)
    by None = refl
    by (Some m) = same (inside prefix s.name) (inside others s.name) m

count_names : (prefix others : Text) (names : List Text) → length (map (λ name. prefix ++ name) names) ≡ length (map (λ name. others ++ name) names)
count_names prefix others [] = refl
count_names prefix others (n ∷ names) = ap suc (count_names prefix others names)

-- as many behind any prefix
pub count_same : (depth : ℕ) (ms : List Module) (prefix others : Text) (m : Module) → length (nets_in depth ms prefix m) ≡ length (nets_in depth ms others m)
count_same zero ms prefix others m = refl
count_same (suc depth) ms prefix others m =
    length-append (map (λ name. prefix ++ name) m.nets) (subs_nets (nets_in depth ms) ms prefix (subs_of m.items))
    ∙ ap (λ (n : ℕ). n + length (subs_nets (nets_in depth ms) ms prefix (subs_of m.items))) (count_names prefix others m.nets)
    ∙ ap (λ (n : ℕ). length (map (λ name. others ++ name) m.nets) + n) (count_subs (nets_in depth ms) (nets_in depth ms) ms prefix others (subs_of m.items) (λ p q x. count_same depth ms p q x))
    ∙ sym (length-append (map (λ name. others ++ name) m.nets) (subs_nets (nets_in depth ms) ms others (subs_of m.items)))

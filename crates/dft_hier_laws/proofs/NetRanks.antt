-- Where every net of a netlist can be ordered, its nets have ranks.
use Rattle.std.proofs.Common.{ℕ, zero, suc, ◌+◌, ◌<◌, ◌≤◌, ◌≡◌, inl, inr, max, List, [], ◌∷◌, length, map, get_or, Some, slice_get, refl, sym, ap, subst, arith, ◌∙◌}
use Rattle.std.specs.List.{AllByRecursion}
use Rattle.std.proofs.lemmas.Bool.{cases_lt}
use Rattle.std.proofs.lemmas.List.{get_or_past, length-map}
use Rattle.std.proofs.lemmas.List.Elements.{All-from_recursion}
use Rattle.dft_base.specs.Ranges.{going_up}
use Rattle.dft_netlist.specs.Drivers.{IsOrdered, driver, nets_read}
use Rattle.dft_netlist.specs.Netlist.{Netlist}
use Rattle.dft_netlist.specs.Orders.{Has, reads_of, IsOrderable, Follows}
use Rattle.dft_netlist.proofs.BitLemmas.{up_length}
use Rattle.dft_netlist.proofs.ListingLemmas.{all_from}
use Rattle.dft_netlist.proofs.RankLemmas.{all_below}
use Rattle.dft_hier.specs.Reach.{Graph, StandsIn, children_at, Leads, Child, Deeper, NoCircle, AreWithin}
use Rattle.dft_hier.specs.Reach as reach
use Rattle.dft_hier.proofs.HeightLemmas.{IsTall, Grows, all_tall}
use Rattle.dft_hier.proofs.ReachLemmas.{leads_on, stands_none}

-- ---- what nets read, as a graph

graph : Netlist → Graph
graph n = map (reads_of n) (going_up 0 (length n.nets))

row_at : (f : ℕ → List ℕ) (from count k : ℕ) → k < count → get_or (map f (going_up from count)) k [] ≡ f (from + k)
row_at f from zero k less = absurd (omega (arith, less))
row_at f from (suc count) zero less = let e : from ≡ from + 0 = omega arith in ap f e
row_at f from (suc count) (suc k) less = let e : suc from + k ≡ from + suc k = omega arith in row_at f (suc from) count k (omega (arith, less)) ∙ ap f e

graph_size : (n : Netlist) → length (graph n) ≡ length n.nets
unfolding graph
graph_size n = length-map (going_up 0 (length n.nets)) (reads_of n) ∙ up_length 0 (length n.nets)

graph_at : (n : Netlist) (k : ℕ) → k < length n.nets → children_at (graph n) k ≡ reads_of n k
unfolding graph
graph_at n k less = let e : 0 + k ≡ k = omega arith in row_at (reads_of n) 0 (length n.nets) k less ∙ ap (reads_of n) e

stands_has : (xs : List ℕ) (place k : ℕ) → slice_get xs place ≡ Some k → Has xs k
stands_has [] place k at = absurd (let f : ⊥ = cc in f)
stands_has (x ∷ xs) zero k at = let e : k ≡ x = cc in inl e
stands_has (x ∷ xs) (suc place) k at = inr (stands_has xs place k at)

has_stands : (xs : List ℕ) (k : ℕ) → Has xs k → StandsIn xs k
has_stands [] k h = absurd h
has_stands (x ∷ xs) k h = elim h [
  | inl same ↦ record { place = 0; at = ap (λ (y : ℕ). Some y) (sym same) }
  | inr rest ↦ (let r = has_stands xs k rest in record { place = suc r.place; at = r.at })
]

-- what stands below a net is read by it
child_read : (n : Netlist) (k child : ℕ) → StandsIn (children_at (graph n) k) child → (k < length n.nets) × Has (reads_of n k) child
child_read n k child h = elim (cases_lt k (length n.nets)) [
  | inl less ↦ (let there = subst (λ (xs : List ℕ). StandsIn xs child) (graph_at n k less) h in (less, stands_has (reads_of n k) there.place child there.at))
  | inr past ↦ (let size = graph_size n in absurd (stands_none child (subst (λ (xs : List ℕ). StandsIn xs child) (get_or_past (graph n) k [] (omega arith)) h)))
]

apart : (n : Netlist) (k : ℕ) → IsOrderable n k → Leads (graph n) k k → ⊥
apart n k (Follows each) (Child h) = apart n k (each k (child_read n k k h).1) (Child h)
apart n k (Follows each) (Deeper {between = b} h more) = apart n b (each b (child_read n k b h).1) (leads_on (graph n) b k b more (Child h))

lead_live : (n : Netlist) (k j : ℕ) → Leads (graph n) k j → k < length n.nets
lead_live n k j (Child h) = (child_read n k j h).0
lead_live n k j (Deeper {between = b} h more) = (child_read n k b h).0

-- ---- no net stands higher than there are nets

rows_within : (f : ℕ → List ℕ) (from count all : ℕ) → ((k r : ℕ) → from ≤ k → k < from + count → Has (f k) r → r < all) → AllByRecursion (λ (xs : List ℕ). reach.AreBelow all xs) (map f (going_up from count))
rows_within f from zero all h = tt
rows_within f from (suc count) all h = (
  All-from_recursion (λ (r : ℕ). r < all) (f from) (all_from (λ (r : ℕ). r < all) (f from) (λ r there. h from r (omega arith) (omega arith) there)),
  rows_within f (suc from) count all (λ k r more less there. h k r (omega (arith, more)) (omega (arith, less)) there),
)

within : (n : Netlist) → ((net r : ℕ) → Has (reads_of n net) r → r < length n.nets) → AreWithin (length (graph n)) (graph n)
unfolding graph
within n live =
    let rows = rows_within (reads_of n) 0 (length n.nets) (length n.nets) (λ k r more less there. live k r there) in
    All-from_recursion (λ (xs : List ℕ). reach.AreBelow (length (graph n)) xs) (graph n) (subst (λ (count : ℕ). AllByRecursion (λ (xs : List ℕ). reach.AreBelow count xs) (graph n)) (sym (graph_size n)) rows)

-- ---- the height of a net

highest : (ℕ → ℕ) → List ℕ → ℕ
highest f [] = 0
highest f (x ∷ xs) = max (f x) (highest f xs)

height : Graph → (depth : ℕ) → ℕ → ℕ
height g zero k = 0
height g (suc depth) k = suc (highest (height g depth) (children_at g k))

highest_over : (f : ℕ → ℕ) (xs : List ℕ) (place x : ℕ) → slice_get xs place ≡ Some x → f x ≤ highest f xs
unfolding highest
highest_over f [] place x at = absurd (let e : ⊥ = cc in e)
highest_over f (y ∷ xs) zero x at = let same : y ≡ x = cc in let fs : f y ≡ f x = ap f same in omega arith
highest_over f (y ∷ xs) (suc place) x at = let more = highest_over f xs place x at in omega arith

highest_same : (f h : ℕ → ℕ) (xs : List ℕ) → ((x : ℕ) → StandsIn xs x → f x ≡ h x) → highest f xs ≡ highest h xs
unfolding highest
highest_same f h [] same = refl
highest_same f h (x ∷ xs) same =
    let here = same x (record { place = 0; at = refl }) in
    let rest = highest_same f h xs (λ y there. same y (record { place = suc there.place; at = there.at })) in
    omega arith

highest_few : (f : ℕ → ℕ) (xs : List ℕ) (most : ℕ) → ((x : ℕ) → f x ≤ most) → highest f xs ≤ most
unfolding highest
highest_few f [] most few = omega arith
highest_few f (x ∷ xs) most few = let here = few x in let rest = highest_few f xs most few in omega arith

height_few : (g : Graph) (depth k : ℕ) → height g depth k ≤ depth
unfolding height
height_few g zero k = omega arith
height_few g (suc depth) k = let few = highest_few (height g depth) (children_at g k) depth (λ x. height_few g depth x) in omega arith

steady : (g : Graph) (depth k : ℕ) → IsTall g depth k → height g depth k ≡ height g (suc depth) k
unfolding height
steady g zero k tall = elim tall [ ]
steady g (suc depth) k (Grows each) = ap suc (highest_same (height g depth) (height g (suc depth)) (children_at g k) (λ x there. steady g depth x (each x there)))

falls : (g : Graph) (depth k child : ℕ) → IsTall g depth k → StandsIn (children_at g k) child → height g depth child < height g depth k
unfolding height
falls g zero k child tall h = elim tall [ ]
falls g (suc depth) k child (Grows each) h =
    let over = highest_over (height g depth) (children_at g k) h.place child h.at in
    let same = steady g depth child (each child h) in
    let here : height g (suc depth) child ≡ suc (highest (height g depth) (children_at g child)) = refl in
    omega arith

-- ---- ranks

pub net_ranks : (n : Netlist) → ((net : ℕ) → net < length n.nets → IsOrderable n net) → ((net r : ℕ) → Has (reads_of n net) r → (net < length n.nets) × (r < length n.nets)) → (rank : ℕ → ℕ) × IsOrdered n rank
net_ranks n orderable live =
    let g = graph n in
    let size = graph_size n in
    let none : NoCircle g = λ k leads. apart n k (orderable k (lead_live n k k leads)) leads in
    let all = within n (λ net r h. (live net r h).1) in (
      height g (length g),
      record {
        after = λ net. all_below (height g (length g)) (height g (length g) net) (nets_read n (driver n net)) (λ r h. (
            let here = (live net r h).0 in
            falls g (length g) net r (all_tall g net none all (omega arith)) (has_stands (children_at g net) r (subst (λ (xs : List ℕ). Has xs r) (sym (graph_at n net here)) h))));
        within = λ net. (let few = height_few g (length g) net in omega arith);
      },
    )

-- An order that is being made: a net is met, a net is placed, a net is met again.
use Rattle.std.proofs.Common.{◌≡◌, ℕ, zero, suc, ◌+◌, ◌-◌, ◌<◌, Bool, true, false, cond, List, [], ◌∷◌, ◌++◌, length, take, Option, None, Some, refl, sym, ◌∙◌, ap, subst, arith, slice_get, slice_set, ◌⊎◌, inl, inr, length-set, length-append, true≢false, replicate}
use Rattle.std.specs.List.{AllByRecursion}
use Rattle.std.proofs.lemmas.Option.{slice_get_within}
use Rattle.std.proofs.lemmas.Bool.{cases_eq}
use Rattle.std.proofs.lemmas.List.{length-replicate}
use Rattle.dft_netlist.specs.declared.ids.NetId.{NetId}
use Rattle.dft_netlist.specs.declared.progress.State.{State}
use Rattle.dft_netlist.specs.declared.progress.State.TheVariants.{New, Walked, Placed}
use Rattle.dft_netlist.specs.Netlist.{Netlist}
use Rattle.dft_netlist.specs.Orders.{Has, reads_of, IsOrderFrom, IsOrder, numbers_of, IsOrderable, IsStuck, IsFirstStuck, IsNextStuck, IsWalk, AreOnce, Follows, Starts, Goes}
use Rattle.dft_netlist.specs.OrderSteps.{back_of, IsChain, IsUnderWay, IsBetween, MeetsAgain}
use Rattle.dft_netlist.specs.Progress.{Stand, entered, left, top_of, first_open, is_placed, is_new, is_walked}
use Rattle.dft_netlist.proofs.Places.{set_cases}
use Rattle.dft_netlist.proofs.Weights.{count_met, count_placed, count_none, count_all, all_new}
use Rattle.dft_netlist.proofs.DriveLemmas.{get_set_same, get_set_other}

back-push : (walk : List NetId) (net : NetId) → back_of (walk ++ net ∷ []) ≡ net.0 ∷ back_of walk
back-push [] net = refl
back-push (x ∷ walk) net = ap (λ xs. xs ++ x.0 ∷ []) (back-push walk net)

pub numbers_push : (order : List NetId) (net : NetId) → numbers_of (order ++ net ∷ []) ≡ numbers_of order ++ net.0 ∷ []
numbers_push [] net = refl
numbers_push (x ∷ order) net = ap (λ xs. x.0 ∷ xs) (numbers_push order net)

pub has_left : (xs ys : List ℕ) (k : ℕ) → Has xs k → Has (xs ++ ys) k
has_left [] ys k h = absurd h
has_left (x ∷ xs) ys k h = elim h [ inl e ↦ inl e | inr more ↦ inr (has_left xs ys k more) ]

pub has_push : (xs : List ℕ) (k : ℕ) → Has (xs ++ k ∷ []) k
has_push [] k = inl refl
has_push (x ∷ xs) k = inr (has_push xs k)

pub has_push_cases : (xs : List ℕ) (y k : ℕ) → Has (xs ++ y ∷ []) k → Has xs k ⊎ (k ≡ y)
has_push_cases [] y k h = elim h [ inl e ↦ inr e | inr never ↦ absurd never ]
has_push_cases (x ∷ xs) y k h = elim h [ inl e ↦ inl (inl e) | inr more ↦ elim (has_push_cases xs y k more) [ inl was ↦ inl (inr was) | inr new ↦ inr new ] ]

-- ---- first nets that are not placed

open_same : (s t : List State) → ((k : ℕ) → is_placed (slice_get t k) ≡ is_placed (slice_get s k)) → (xs : List ℕ) → first_open t xs ≡ first_open s xs
open_same s t same [] = refl
open_same s t same (x ∷ xs) = rw (same x, open_same s t same xs) refl

open_kept : (s t : List State) (k : ℕ) → ((j : ℕ) → is_placed (slice_get s j) ≡ true → is_placed (slice_get t j) ≡ true) → is_placed (slice_get t k) ≡ false → (xs : List ℕ) → first_open s xs ≡ Some k → first_open t xs ≡ Some k
open_kept s t k more shut [] h = absurd (let f : ⊥ = cc in f)
open_kept s t k more shut (x ∷ xs) h = by (is_placed (slice_get s x)) refl h (open_kept s t k more shut xs)
  where
    by : (b : Bool) → is_placed (slice_get s x) ≡ b → cond b (first_open s xs) (Some x) ≡ Some k → (first_open s xs ≡ Some k → first_open t xs ≡ Some k) → first_open t (x ∷ xs) ≡ Some k
    by true is found rest = rw (more x is) (rest found)
    by false is found rest = let e : x ≡ k = cc in rw (e, shut) refl

placed_state : (o : Option State) → is_placed o ≡ true → o ≡ Some Placed
placed_state None h = absurd (true≢false (sym h))
placed_state (Some New) h = absurd (true≢false (sym h))
placed_state (Some Walked) h = absurd (true≢false (sym h))
placed_state (Some Placed) h = refl

all_placed : (s : List State) (P : ℕ → Type 0) → ((k : ℕ) → slice_get s k ≡ Some Placed → P k) → (xs : List ℕ) → first_open s xs ≡ None → AllByRecursion P xs
all_placed s P f [] h = tt
all_placed s P f (x ∷ xs) h = by (is_placed (slice_get s x)) refl h (all_placed s P f xs)
  where
    by : (b : Bool) → is_placed (slice_get s x) ≡ b → cond b (first_open s xs) (Some x) ≡ None → (first_open s xs ≡ None → AllByRecursion P xs) → P x × AllByRecursion P xs
    by true is rest more = (f x (placed_state (slice_get s x) is), more rest)
    by false is rest more = absurd (let g : ⊥ = cc in g)

-- the nets before the first that is not placed
pub record Split (P : ℕ → Type 0) (xs : List ℕ) (k : ℕ) : Type 0 where
  pub front : List ℕ
  pub back : List ℕ
  pub same : xs ≡ front ++ k ∷ back
  pub all : AllByRecursion P front

split_at : (s : List State) (P : ℕ → Type 0) → ((j : ℕ) → slice_get s j ≡ Some Placed → P j) → (xs : List ℕ) (k : ℕ) → first_open s xs ≡ Some k → Split P xs k
split_at s P f [] k h = absurd (let g : ⊥ = cc in g)
split_at s P f (x ∷ xs) k h = by (is_placed (slice_get s x)) refl h (split_at s P f xs k)
  where
    by : (b : Bool) → is_placed (slice_get s x) ≡ b → cond b (first_open s xs) (Some x) ≡ Some k → (first_open s xs ≡ Some k → Split P xs k) → Split P (x ∷ xs) k
    by true is found more = (let r = more found in record { front = x ∷ r.front; back = r.back; same = ap (λ ys. x ∷ ys) r.same; all = (f x (placed_state (slice_get s x) is), r.all) })
    by false is found more = record { front = []; back = xs; same = ap (λ j. j ∷ xs) (let e : x ≡ k = cc in e); all = tt }

has_split : (front back : List ℕ) (k : ℕ) → Has (front ++ k ∷ back) k
has_split [] back k = inl refl
has_split (x ∷ front) back k = inr (has_split front back k)

-- ---- a net is met

enter_open : (s : List State) (net : ℕ) → slice_get s net ≡ Some New → (k : ℕ) → is_placed (slice_get (slice_set s net Walked) k) ≡ is_placed (slice_get s k)
enter_open s net is k = elim (cases_eq net k) [
  | inl e ↦ subst (λ j. is_placed (slice_get (slice_set s net Walked) j) ≡ is_placed (slice_get s j)) e (ap is_placed (get_set_same s net New Walked is) ∙ sym (ap is_placed is))
  | inr ne ↦ ap is_placed (get_set_other s net k Walked ne)
]

chain_same : (n : Netlist) (start : ℕ) (s t : List State) → ((k : ℕ) → is_placed (slice_get t k) ≡ is_placed (slice_get s k)) → (w : List ℕ) → IsChain n s start w → IsChain n t start w
chain_same n start s t same [] h = tt
chain_same n start s t same (a ∷ []) h = h
chain_same n start s t same (a ∷ b ∷ w) h = (open_same s t same (reads_of n b) ∙ h.0, chain_same n start s t same (b ∷ w) h.1)

state_apart : (s : List State) (v : State) (net k : ℕ) (u : State) → (v ≡ u → ⊥) → slice_get s net ≡ Some New → slice_get (slice_set s net v) k ≡ Some u → slice_get s k ≡ Some u
state_apart s v net k u ne is h = elim (cases_eq net k) [
  | inl e ↦ (let same : Some v ≡ Some u = sym (get_set_same s net New v is) ∙ ap (slice_get (slice_set s net v)) e ∙ h in absurd (ne (cc)))
  | inr other ↦ sym (get_set_other s net k v other) ∙ h
]

-- what a net had that is not this one, it has
state_kept : (s : List State) (v : State) (net k : ℕ) (u w : State) → slice_get s net ≡ Some w → (w ≡ u → ⊥) → slice_get s k ≡ Some u → slice_get (slice_set s net v) k ≡ Some u
state_kept s v net k u w is ne h = get_set_other s net k v (λ e. let same : Some w ≡ Some u = sym is ∙ ap (slice_get s) e ∙ h in ne (cc)) ∙ h

pub enters : (n : Netlist) (start : ℕ) (s : Stand) (net : NetId) → IsUnderWay n start s → slice_get s.states net.0 ≡ Some New → IsChain n s.states start (net.0 ∷ back_of s.walk) → IsUnderWay n start (entered s net)
enters n start s net u is chain = record {
  count = length-set s.states net.0 Walked ∙ u.count;
  counted = u.counted ∙ sym (count_met s.states net.0 is);
  ordered = u.ordered;
  placed = λ k h. u.placed k (state_apart s.states Walked net.0 k Placed (λ e. cc) is h);
  in_order = λ k h. state_kept s.states Walked net.0 k Placed New is (λ e. cc) (u.in_order k h);
  walked = λ k h. rw (back-push s.walk net) (walked k h);
  on_walk = λ k h. on_walk k (subst (λ xs. Has xs k) (back-push s.walk net) h);
  once = rw (back-push s.walk net) ((λ h. let e : Some New ≡ Some Walked = sym is ∙ u.on_walk net.0 h in cc), u.once);
  chain = rw (back-push s.walk net) (chain_same n start s.states (slice_set s.states net.0 Walked) (enter_open s.states net.0 is) (net.0 ∷ back_of s.walk) chain);
  before = λ k lt. state_kept s.states Walked net.0 k Placed New is (λ e. cc) (u.before k lt);
}
  where
    walked : (k : ℕ) → slice_get (slice_set s.states net.0 Walked) k ≡ Some Walked → (k ≡ net.0) ⊎ Has (back_of s.walk) k
    walked k h = elim (cases_eq net.0 k) [ inl e ↦ inl (sym e) | inr ne ↦ inr (u.walked k (sym (get_set_other s.states net.0 k Walked ne) ∙ h)) ]

    on_walk : (k : ℕ) → (k ≡ net.0) ⊎ Has (back_of s.walk) k → slice_get (slice_set s.states net.0 Walked) k ≡ Some Walked
    on_walk k h = elim h [
      | inl e ↦ ap (slice_get (slice_set s.states net.0 Walked)) e ∙ get_set_same s.states net.0 New Walked is
      | inr was ↦ state_kept s.states Walked net.0 k Walked New is (λ e. cc) (u.on_walk k was)
    ]

-- ---- a net is placed

all_map : (P Q : ℕ → Type 0) (xs : List ℕ) → ((x : ℕ) → P x → Q x) → AllByRecursion P xs → AllByRecursion Q xs
all_map P Q [] f h = h
all_map P Q (x ∷ xs) f h = (f x h.0, all_map P Q xs f h.1)

-- one net more at the end of an order
order_push : (n : Netlist) (before xs : List ℕ) (net : ℕ) → IsOrderFrom n before xs → ((Has before net ⊎ Has xs net) → ⊥) → net < length n.nets → AllByRecursion (λ r. Has before r ⊎ Has xs r) (reads_of n net) → IsOrderFrom n before (xs ++ net ∷ [])
order_push n before [] net o new live reads = ((λ h. new (inl h)), live, all_map _ (Has before) (reads_of n net) (λ x h. elim h [ inl b ↦ b | inr never ↦ absurd never ]) reads, tt)
order_push n before (x ∷ xs) net o new live reads = (
  o.0,
  o.1,
  o.2,
  order_push n (x ∷ before) xs net o.3 (λ h. elim h [ inl b ↦ elim b [ inl e ↦ new (inr (inl e)) | inr was ↦ new (inl was) ] | inr more ↦ new (inr (inr more)) ]) live
      (all_map _ _ (reads_of n net) (λ r h. elim h [ inl b ↦ inl (inr b) | inr m ↦ elim m [ inl e ↦ inl (inl e) | inr more ↦ inr more ] ]) reads),
)

leave_more : (s : List State) (net : ℕ) (a : State) → slice_get s net ≡ Some a → (k : ℕ) → is_placed (slice_get s k) ≡ true → is_placed (slice_get (slice_set s net Placed) k) ≡ true
leave_more s net a is k h = elim (cases_eq net k) [
  | inl e ↦ ap is_placed (ap (slice_get (slice_set s net Placed)) (sym e) ∙ get_set_same s net a Placed is)
  | inr ne ↦ ap is_placed (get_set_other s net k Placed ne) ∙ h
]

chain_kept : (n : Netlist) (start : ℕ) (s t : List State) → ((j : ℕ) → is_placed (slice_get s j) ≡ true → is_placed (slice_get t j) ≡ true) → (w : List ℕ) → ((k : ℕ) → Has w k → is_placed (slice_get t k) ≡ false) → IsChain n s start w → IsChain n t start w
chain_kept n start s t more [] shut h = tt
chain_kept n start s t more (a ∷ []) shut h = h
chain_kept n start s t more (a ∷ b ∷ w) shut h = (open_kept s t a more (shut a (inl refl)) (reads_of n b) h.0, chain_kept n start s t more (b ∷ w) (λ k m. shut k (inr m)) h.1)

chain_tail : (n : Netlist) (start : ℕ) (s : List State) (net : ℕ) (w : List ℕ) → IsChain n s start (net ∷ w) → IsChain n s start w
chain_tail n start s net [] h = tt
chain_tail n start s net (b ∷ w) h = h.1

-- the walk without its last net
pub record Popped (walk : List NetId) (net : NetId) : Type 0 where
  pub same : back_of walk ≡ net.0 ∷ back_of (take (length walk - 1) walk)

last_split : (walk : List NetId) (net : NetId) → slice_get walk (length walk - 1) ≡ Some net → walk ≡ take (length walk - 1) walk ++ net ∷ []
last_split [] net h = absurd (let f : ⊥ = cc in f)
last_split (x ∷ []) net h = let e : x ≡ net = cc in ap (λ y. y ∷ []) e
last_split (x ∷ y ∷ walk) net h =
    let e : length (x ∷ y ∷ walk) - 1 ≡ suc (length (y ∷ walk) - 1) = omega arith in
    rw e (ap (λ xs. x ∷ xs) (last_split (y ∷ walk) net (sym (ap (slice_get (x ∷ y ∷ walk)) e) ∙ h)))

pub popped : (walk : List NetId) (net : NetId) → top_of walk ≡ Some net → Popped walk net
popped walk net h = record { same = ap back_of (last_split walk net h) ∙ back-push (take (length walk - 1) walk) net }

pub leaves : (n : Netlist) (start : ℕ) (s : Stand) (net : NetId) → IsUnderWay n start s → top_of s.walk ≡ Some net → first_open s.states (reads_of n net.0) ≡ None → IsUnderWay n start (left s net)
leaves n start s net u top none = by (popped s.walk net top).same
  where
    rest : List ℕ
    rest = back_of (take (length s.walk - 1) s.walk)

    by : back_of s.walk ≡ net.0 ∷ rest → IsUnderWay n start (left s net)
    by same =
        let is : slice_get s.states net.0 ≡ Some Walked = u.on_walk net.0 (subst (λ xs. Has xs net.0) (sym same) (inl refl)) in
        let once : (Has rest net.0 → ⊥) × AreOnce rest = subst AreOnce same u.once in
        let other : (k : ℕ) → Has rest k → net.0 ≡ k → ⊥ = λ k h e. once.0 (subst (Has rest) (sym e) h) in
        let kept : (k : ℕ) → Has rest k → slice_get (slice_set s.states net.0 Placed) k ≡ Some Walked = λ k h. get_set_other s.states net.0 k Placed (other k h) ∙ u.on_walk k (subst (λ xs. Has xs k) (sym same) (inr h)) in
        let within = slice_get_within s.states net.0 Walked is in
        let count = u.count in
        record {
          count = length-set s.states net.0 Placed ∙ u.count;
          counted = (let more = length-append s.order (net ∷ []) in let was = u.counted in let now = count_placed s.states net.0 is in omega arith);
          ordered = rw (numbers_push s.order net) (order_push n [] (numbers_of s.order) net.0 u.ordered
              (λ h. elim h [ inl never ↦ never | inr has ↦ (let e : Some Walked ≡ Some Placed = sym is ∙ u.in_order net.0 has in cc) ])
              (omega arith) (all_placed s.states _ (λ k p. inr (u.placed k p)) (reads_of n net.0) none));
          placed = λ k h. rw (numbers_push s.order net) (elim (cases_eq net.0 k) [
            | inl e ↦ subst (Has (numbers_of s.order ++ net.0 ∷ [])) e (has_push (numbers_of s.order) net.0)
            | inr ne ↦ has_left (numbers_of s.order) (net.0 ∷ []) k (u.placed k (sym (get_set_other s.states net.0 k Placed ne) ∙ h))
          ]);
          in_order = λ k h. elim (has_push_cases (numbers_of s.order) net.0 k (subst (λ xs. Has xs k) (numbers_push s.order net) h)) [
            | inl was ↦ state_kept s.states Placed net.0 k Placed Walked is (λ e. cc) (u.in_order k was)
            | inr e ↦ ap (slice_get (slice_set s.states net.0 Placed)) e ∙ get_set_same s.states net.0 Walked Placed is
          ];
          walked = λ k h. elim (cases_eq net.0 k) [
            | inl e ↦ (let f : Some Placed ≡ Some Walked = sym (get_set_same s.states net.0 Walked Placed is) ∙ ap (slice_get (slice_set s.states net.0 Placed)) e ∙ h in absurd (let g : ⊥ = cc in g))
            | inr ne ↦ elim (subst (λ xs. Has xs k) same (u.walked k (sym (get_set_other s.states net.0 k Placed ne) ∙ h))) [ inl e ↦ absurd (ne (sym e)) | inr more ↦ more ]
          ];
          on_walk = kept;
          once = once.1;
          chain = chain_kept n start s.states (slice_set s.states net.0 Placed) (leave_more s.states net.0 Walked is) rest (λ k h. ap is_placed (kept k h)) (chain_tail n start s.states net.0 rest (subst (IsChain n s.states start) same u.chain));
          before = λ k lt. state_kept s.states Placed net.0 k Placed Walked is (λ e. cc) (u.before k lt);
        }

-- ---- a net is met again

pub has_all : (P : ℕ → Type 0) (ys : List ℕ) (r : ℕ) → AllByRecursion P ys → Has ys r → P r
has_all P [] r all mem = absurd mem
has_all P (y ∷ ys) r all mem = elim mem [ inl e ↦ subst P (sym e) all.0 | inr m ↦ has_all P ys r all.1 m ]

orderable_from : (n : Netlist) (before xs : List ℕ) → ((k : ℕ) → Has before k → IsOrderable n k) → IsOrderFrom n before xs → (k : ℕ) → Has xs k → IsOrderable n k
orderable_from n before [] h o k has = absurd has
orderable_from n before (x ∷ xs) h o k has =
    let here : IsOrderable n x = Follows (λ r reads. h r (has_all (Has before) (reads_of n x) r o.2 reads)) in
    let more : (j : ℕ) → Has (x ∷ before) j → IsOrderable n j = λ j b. elim b [ inl e ↦ subst (IsOrderable n) (sym e) here | inr was ↦ h j was ] in
    elim has [ inl e ↦ subst (IsOrderable n) (sym e) here | inr later ↦ orderable_from n (x ∷ before) xs more o.3 k later ]

pub placed_orderable : (n : Netlist) (start : ℕ) (s : Stand) → IsUnderWay n start s → (k : ℕ) → slice_get s.states k ≡ Some Placed → IsOrderable n k
placed_orderable n start s u k h = orderable_from n [] (numbers_of s.order) (λ j never. absurd never) u.ordered k (u.placed k h)

-- each of these nets reads another of them
abbrev IsRound : Netlist → List ℕ → Type 0
IsRound n w = (k : ℕ) → Has w k → (r : ℕ) × (Has (reads_of n k) r × Has w r)

round_stuck : (n : Netlist) (w : List ℕ) → IsRound n w → (k : ℕ) → IsOrderable n k → Has w k → ⊥
round_stuck n w round k (Follows f) has = let r = round k has in round_stuck n w round r.0 (f r.0 r.1.0) r.1.1

chain_round : (n : Netlist) (start : ℕ) (s : List State) (top : ℕ) (w : List ℕ) → IsChain n s start (top ∷ w) → (k : ℕ) → Has w k → (r : ℕ) × (Has (reads_of n k) r × Has (top ∷ w) r)
chain_round n start s top [] h k has = absurd has
chain_round n start s top (b ∷ w) h k has = elim has [
  | inl e ↦ (let p = split_at s (λ j. Unit {0}) (λ j x. tt) (reads_of n b) top h.0 in (top, (subst (λ j. Has (reads_of n j) top) (sym e) (subst (λ xs. Has xs top) (sym p.same) (has_split p.front p.back top)), inl refl)))
  | inr more ↦ (let r = chain_round n start s b w h.1 k more in (r.0, (r.1.0, inr r.1.1)))
]

next_stuck : (n : Netlist) (s : List State) → ((k : ℕ) → slice_get s k ≡ Some Placed → IsOrderable n k) → (a b : ℕ) → first_open s (reads_of n a) ≡ Some b → IsStuck n b → IsNextStuck n a b
next_stuck n s ok a b h stuck = let p = split_at s (IsOrderable n) ok (reads_of n a) b h in record { front = p.front; back = p.back; reads = p.same; orderable = p.all; stuck = stuck }

walked_back : (n : Netlist) (start : ℕ) (s : List State) → ((k : ℕ) → slice_get s k ≡ Some Placed → IsOrderable n k) → IsFirstStuck n start → (top : ℕ) (w : List ℕ) → ((k : ℕ) → Has (top ∷ w) k → IsStuck n k) → IsChain n s start (top ∷ w) → IsWalk n (top ∷ w)
walked_back n start s ok first top [] stuck h = Starts (subst (IsFirstStuck n) (sym h) first)
walked_back n start s ok first top (b ∷ w) stuck h = Goes (walked_back n start s ok first b w (λ k m. stuck k (inr m)) h.1) (next_stuck n s ok b top h.0 (stuck top (inl refl)))

start_on : (n : Netlist) (start : ℕ) (s : List State) (top : ℕ) (w : List ℕ) → IsChain n s start (top ∷ w) → Has (top ∷ w) start
start_on n start s top [] h = inl (sym h)
start_on n start s top (b ∷ w) h = inr (start_on n start s b w h.1)

pub meets : (n : Netlist) (start : ℕ) (s : Stand) (net next : NetId) → IsUnderWay n start s → start < length n.nets → top_of s.walk ≡ Some net → first_open s.states (reads_of n net.0) ≡ Some next.0 → slice_get s.states next.0 ≡ Some Walked → MeetsAgain n next.0
meets n start s net next u live top first_open_is again = by (popped s.walk net top).same
  where
    rest : List ℕ
    rest = back_of (take (length s.walk - 1) s.walk)

    by : back_of s.walk ≡ net.0 ∷ rest → MeetsAgain n next.0
    by same =
        let w : List ℕ = net.0 ∷ rest in
        let chain : IsChain n s.states start (net.0 ∷ rest) = subst (IsChain n s.states start) same u.chain in
        let met : Has (net.0 ∷ rest) next.0 = subst (λ xs. Has xs next.0) same (u.walked next.0 again) in
        let p = split_at s.states (λ j. Unit {0}) (λ j x. tt) (reads_of n net.0) next.0 first_open_is in
        let reads : Has (reads_of n net.0) next.0 = subst (λ xs. Has xs next.0) (sym p.same) (has_split p.front p.back next.0) in
        let round : IsRound n (net.0 ∷ rest) = λ k has. elim has [
          | inl e ↦ (next.0, (subst (λ j. Has (reads_of n j) next.0) (sym e) reads, met))
          | inr more ↦ chain_round n start s.states net.0 rest chain k more
        ] in
        let stuck : (k : ℕ) → Has (net.0 ∷ rest) k → IsStuck n k = λ k has o. round_stuck n (net.0 ∷ rest) round k o has in
        let ok = placed_orderable n start s u in
        let first : IsFirstStuck n start = record { live = live; stuck = stuck start (start_on n start s.states net.0 rest chain); before = λ k lt. ok k (u.before k lt) } in
        let within = slice_get_within s.states next.0 Walked again in
        let count = u.count in
        record {
          live = omega arith;
          loop = record {
            last = net.0;
            walk = rest;
            walked = walked_back n start s.states ok first net.0 rest stuck chain;
            once = subst AreOnce same u.once;
            next = next_stuck n s.states ok net.0 next.0 first_open_is (stuck next.0 met);
            again = met;
          };
        }

-- ---- the start is placed

pub no_walk : (walk : List NetId) → top_of walk ≡ None → walk ≡ []
no_walk [] h = refl
no_walk (x ∷ []) h = absurd (let f : ⊥ = cc in f)
no_walk (x ∷ y ∷ walk) h =
    let e : length (x ∷ y ∷ walk) - 1 ≡ suc (length (y ∷ walk) - 1) = omega arith in
    by (no_walk (y ∷ walk) (sym (ap (slice_get (x ∷ y ∷ walk)) e) ∙ h))
  where
    by : y ∷ walk ≡ [] → x ∷ y ∷ walk ≡ []
    by e = absurd (let f : ⊥ = cc in f)

state_cases : (o : Option State) (k : ℕ) → (o ≡ Some New → ⊥) → (o ≡ Some Walked → ⊥) → (o ≡ None → ⊥) → o ≡ Some Placed
state_cases None k a b c = absurd (c refl)
state_cases (Some New) k a b c = absurd (a refl)
state_cases (Some Walked) k a b c = absurd (b refl)
state_cases (Some Placed) k a b c = refl

pub there : {X : Type 0} (xs : List X) (k : ℕ) → k < length xs → slice_get xs k ≡ None → ⊥
there [] k lt h = let f : ⊥ = absurd (omega arith) in f
there (x ∷ xs) zero lt h = cc
there (x ∷ xs) (suc k) lt h = there xs k (omega arith) h

pub ends : (n : Netlist) (start : ℕ) (s : Stand) → IsUnderWay n start s → s.walk ≡ [] → start < length n.nets → (slice_get s.states start ≡ Some New → ⊥) → IsBetween n (start + 1) s
ends n start s u none live started = record {
  way = record {
    count = u.count;
    counted = u.counted;
    ordered = u.ordered;
    placed = u.placed;
    in_order = u.in_order;
    walked = u.walked;
    on_walk = u.on_walk;
    once = u.once;
    chain = rw none tt;
    before = λ k lt. elim (cases_eq k start) [ inl e ↦ ap (slice_get s.states) e ∙ here | inr ne ↦ u.before k (omega arith) ];
  };
  no_walk = none;
}
  where
    here : slice_get s.states start ≡ Some Placed
    here = state_cases (slice_get s.states start) 0 started (λ h. subst (λ w. Has (back_of w) start) none (u.walked start h)) (let c = u.count in there s.states start (omega arith))

-- ---- the steps of a walk

pub top_walked : (n : Netlist) (start : ℕ) (s : Stand) (net : NetId) → IsUnderWay n start s → top_of s.walk ≡ Some net → slice_get s.states net.0 ≡ Some Walked
top_walked n start s net u top = u.on_walk net.0 (subst (λ xs. Has xs net.0) (sym (popped s.walk net top).same) (inl refl))

pub top_live : (n : Netlist) (start : ℕ) (s : Stand) (net : NetId) → IsUnderWay n start s → top_of s.walk ≡ Some net → net.0 < length s.states
top_live n start s net u top = slice_get_within s.states net.0 Walked (top_walked n start s net u top)

new_state : (o : Option State) → is_new o ≡ true → o ≡ Some New
new_state None h = absurd (true≢false (sym h))
new_state (Some New) h = refl
new_state (Some Walked) h = absurd (true≢false (sym h))
new_state (Some Placed) h = absurd (true≢false (sym h))

pub walked_state : (o : Option State) → is_walked o ≡ true → o ≡ Some Walked
walked_state None h = absurd (true≢false (sym h))
walked_state (Some New) h = absurd (true≢false (sym h))
walked_state (Some Walked) h = refl
walked_state (Some Placed) h = absurd (true≢false (sym h))

open_is : (s : List State) (xs : List ℕ) (k : ℕ) → first_open s xs ≡ Some k → is_placed (slice_get s k) ≡ false
open_is s [] k h = absurd (let f : ⊥ = cc in f)
open_is s (x ∷ xs) k h = by (is_placed (slice_get s x)) refl h (open_is s xs k)
  where
    by : (b : Bool) → is_placed (slice_get s x) ≡ b → cond b (first_open s xs) (Some x) ≡ Some k → (first_open s xs ≡ Some k → is_placed (slice_get s k) ≡ false) → is_placed (slice_get s k) ≡ false
    by true is found more = more found
    by false is found more = let e : x ≡ k = cc in subst (λ j. is_placed (slice_get s j) ≡ false) e is

remaining_state : (o : Option State) → is_placed o ≡ false → is_walked o ≡ false → (o ≡ None → ⊥) → o ≡ Some New
remaining_state None a b c = absurd (c refl)
remaining_state (Some New) a b c = refl
remaining_state (Some Walked) a b c = absurd (true≢false b)
remaining_state (Some Placed) a b c = absurd (true≢false a)

-- the next net of the walk is not met yet
pub next_new : (n : Netlist) (s : Stand) (net next : NetId) → first_open s.states (reads_of n net.0) ≡ Some next.0 → is_walked (slice_get s.states next.0) ≡ false → next.0 < length s.states → slice_get s.states next.0 ≡ Some New
next_new n s net next found not_walked live = remaining_state (slice_get s.states next.0) (open_is s.states (reads_of n net.0) next.0 found) not_walked (there s.states next.0 live)

pub next_chain : (n : Netlist) (start : ℕ) (s : Stand) (net next : NetId) → IsUnderWay n start s → top_of s.walk ≡ Some net → first_open s.states (reads_of n net.0) ≡ Some next.0 → IsChain n s.states start (next.0 ∷ back_of s.walk)
next_chain n start s net next u top found =
    let same = (popped s.walk net top).same in
    subst (λ xs. IsChain n s.states start (next.0 ∷ xs)) (sym same) (found, subst (IsChain n s.states start) same u.chain)

-- a net that is met or placed is not new afterwards
pub not_new : (s : List State) (k j : ℕ) (v : State) → (v ≡ New → ⊥) → (slice_get s j ≡ Some New → ⊥) → slice_get (slice_set s k v) j ≡ Some New → ⊥
not_new s k j v ne was h = elim (set_cases s k v j New h) [ inl old ↦ was old | inr e ↦ ne e ]

pub first_enters : (n : Netlist) (start : NetId) (s : Stand) → IsBetween n start.0 s → is_new (slice_get s.states start.0) ≡ true → IsUnderWay n start.0 (entered s start)
first_enters n start s b new = enters n start.0 s start b.way (new_state (slice_get s.states start.0) new) (subst (λ w. IsChain n s.states start.0 (start.0 ∷ back_of w)) (sym b.no_walk) refl)

pub first_started : (s : Stand) (start : NetId) → start.0 < length s.states → slice_get (entered s start).states start.0 ≡ Some New → ⊥
first_started s start live h = set_at s.states start.0 live h
  where
    set_at : (xs : List State) (k : ℕ) → k < length xs → slice_get (slice_set xs k Walked) k ≡ Some New → ⊥
    set_at [] k lt e = let f : ⊥ = absurd (omega arith) in f
    set_at (x ∷ xs) zero lt e = cc
    set_at (x ∷ xs) (suc k) lt e = set_at xs k (omega arith) e

pub skips : (n : Netlist) (start : ℕ) (s : Stand) → IsBetween n start s → is_new (slice_get s.states start) ≡ false → start < length n.nets → IsBetween n (start + 1) s
skips n start s b old live = ends n start s b.way b.no_walk live (λ h. true≢false (sym (ap is_new h) ∙ old))

-- ---- the whole order

pub fresh : (n : Netlist) (count : ℕ) → count ≡ length n.nets → IsBetween n 0 (record { states = replicate count New; order = []; walk = [] })
fresh n count is = record {
  way = record {
    count = length-replicate count New ∙ is;
    counted = sym (count_none count);
    ordered = tt;
    placed = λ k h. (let e : Placed ≡ New = all_new count k Placed h in absurd (let f : ⊥ = cc in f));
    in_order = λ k h. absurd h;
    walked = λ k h. (let e : Walked ≡ New = all_new count k Walked h in absurd (let f : ⊥ = cc in f));
    on_walk = λ k h. absurd h;
    once = tt;
    chain = tt;
    before = λ k lt. absurd (omega arith);
  };
  no_walk = refl;
}

length_numbers : (order : List NetId) → length (numbers_of order) ≡ length order
length_numbers [] = refl
length_numbers (x ∷ order) = ap suc (length_numbers order)

pub whole : (n : Netlist) (count : ℕ) (s : Stand) → count ≡ length n.nets → IsBetween n count s → IsOrder n (numbers_of s.order)
whole n count s is b =
    let all : (k : ℕ) → k < length s.states → slice_get s.states k ≡ Some Placed = λ k lt. (let c = b.way.count in b.way.before k (omega arith)) in
    record {
      whole = λ k lt. b.way.placed k (b.way.before k (omega arith));
      after = b.way.ordered;
      count = length_numbers s.order ∙ b.way.counted ∙ count_all s.states all ∙ b.way.count;
    }

pub order_orderable : (n : Netlist) (order : List ℕ) → IsOrder n order → (net : ℕ) → net < length n.nets → IsOrderable n net
order_orderable n order o net lt = orderable_from n [] order (λ j never. absurd never) o.after net (o.whole net lt)

pub has_right : (xs ys : List ℕ) (k : ℕ) → Has ys k → Has (xs ++ ys) k
has_right [] ys k h = h
has_right (x ∷ xs) ys k h = inr (has_right xs ys k h)

pub has_either : (xs ys : List ℕ) (k : ℕ) → Has (xs ++ ys) k → Has xs k ⊎ Has ys k
has_either [] ys k h = inr h
has_either (x ∷ xs) ys k h = elim h [ inl e ↦ inl (inl e) | inr more ↦ elim (has_either xs ys k more) [ inl left ↦ inl (inr left) | inr right ↦ inr right ] ]

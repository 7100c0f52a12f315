-- Places of nets in an order, as they are noted one after another.
use Rattle.std.proofs.Common.{◌≡◌, ◌≢◌, ℕ, zero, suc, ◌+◌, ◌-◌, ◌*◌, ◌<◌, ◌≤◌, Bool, true, false, cond, eqb, List, [], ◌∷◌, ◌++◌, length, map, set, get_or, replicate, Option, Some, None, option_map, is_some, refl, sym, ap, ap₂, ◌∙◌, subst, arith, add-zero, add-one}
use Rattle.std.specs.List.{All, position, position_or_len}
use Rattle.std.proofs.lemmas.List.Elements.{All-head, All-tail}
use Rattle.std.proofs.lemmas.Bool.{eqb-true, eq-eqb, ne_eqb}
use Rattle.std.proofs.lemmas.List.{length_push, length-set, append_assoc, append-nil}
use Rattle.dft_base.specs.Ranges.{going_up}
use Rattle.dft_base.proofs.ListLemmas.{cons_by}
use Rattle.dft_netlist.specs.declared.ids.NetId.{NetId}
use Rattle.dft_netlist.proofs.NumberLemmas.{net_of}
use Rattle.dft_netlist.proofs.BitLemmas.{up_length}
use Rattle.dft_netlist_text.specs.declared.text.Declared.{Declared}
use Rattle.dft_netlist_text.specs.Modules.{HeaderPort, net_count}
use Rattle.dft_netlist_text.specs.NetlistText.{nets_of_port, nets_of_ports}
use Rattle.dft_verilog_draft.specs.Drafts.{IsDeclaredWithin}
use Rattle.dft_verilog.specs.FinalNets.{number_among, numbers_among, with_number, with_numbers}

-- ---- the first place

pub position-cons : (p : ℕ → Bool) (x : ℕ) (xs : List ℕ) → position p (x ∷ xs) ≡ cond (p x) (Some 0) (option_map suc (position p xs))
position-cons p x xs = cons_by (p x) (position_or_len p xs) (length xs)

-- ---- a list behind another

-- the place in a second list, where there is none in the first
abbrev pub or_behind : ℕ → Option ℕ → Option ℕ → Option ℕ
or_behind count None later = option_map (λ place. count + place) later
or_behind count (Some place) later = Some place

zero_behind : (later : Option ℕ) → later ≡ or_behind 0 None later
zero_behind None = refl
zero_behind (Some k) = let e : k ≡ 0 + k = omega arith in ap Some e

behind_by : (b : Bool) (count : ℕ) (first later : Option ℕ) → cond b (Some 0) (option_map suc (or_behind count first later)) ≡ or_behind (suc count) (cond b (Some 0) (option_map suc first)) later
behind_by true count first later = refl
behind_by false count (Some place) later = refl
behind_by false count None None = refl
behind_by false count None (Some k) = let e : suc (count + k) ≡ suc count + k = omega arith in ap Some e

pub position-append : (p : ℕ → Bool) (xs ys : List ℕ) → position p (xs ++ ys) ≡ or_behind (length xs) (position p xs) (position p ys)
position-append p [] ys = zero_behind (position p ys)
position-append p (x ∷ xs) ys =
    position-cons p x (xs ++ ys)
    ∙ ap (λ o. cond (p x) (Some 0) (option_map suc o)) (position-append p xs ys)
    ∙ behind_by (p x) (length xs) (position p xs) (position p ys)
    ∙ ap (λ o. or_behind (suc (length xs)) o (position p ys)) (sym (position-cons p x xs))

position-one : (p : ℕ → Bool) (x : ℕ) → position p (x ∷ []) ≡ cond (p x) (Some 0) None
position-one p x = position-cons p x []

-- ---- one net more

abbrev pub is_net : ℕ → ℕ → Bool
is_net net other = eqb other net

pushed_by : (count : ℕ) (before : Option ℕ) (here : Bool) → or_behind count before (cond here (Some 0) None) ≡ cond (is_some before) before (cond here (Some count) None)
pushed_by count (Some k) here = refl
pushed_by count None true = ap Some (add-zero count)
pushed_by count None false = refl

is_some_map : (o : Option ℕ) → is_some (option_map net_of o) ≡ is_some o
is_some_map None = refl
is_some_map (Some k) = refl

-- the place of a net among those before, or the new place where it is the new net
abbrev number_or : (count : ℕ) → Option ℕ → (here : Bool) → Option NetId
number_or count before here = option_map net_of (cond (is_some before) before (cond here (Some count) None))

number_among-push : (nets : List ℕ) (new net : ℕ) → number_among (nets ++ new ∷ []) net ≡ number_or (length nets) (position (is_net net) nets) (eqb new net)
number_among-push nets new net =
    ap (option_map net_of)
    (position-append (is_net net) nets (new ∷ [])
    ∙ ap (or_behind (length nets) (position (is_net net) nets)) (position-one (is_net net) new)
    ∙ pushed_by (length nets) (position (is_net net) nets) (eqb new net))

-- another net has the number that it had
other_by : (count : ℕ) (before : Option ℕ) → number_or count before false ≡ option_map net_of before
other_by count None = refl
other_by count (Some k) = refl

-- a net that has a number keeps it
kept_by : (count : ℕ) (before : Option ℕ) (here : Bool) → is_some before ≡ true → number_or count before here ≡ option_map net_of before
kept_by count (Some k) here h = refl
kept_by count None here h = absurd (cc)

-- the new net has the new number, if it had none
new_by : (count : ℕ) (before : Option ℕ) → is_some before ≡ false → number_or count before true ≡ Some (net_of count)
new_by count (Some k) h = absurd (cc)
new_by count None h = refl

-- ---- lists of numbers

-- values at numbers one after the other
same-map : {A : Type 0} (f g : ℕ → A) (from count : ℕ) → ((y : ℕ) → from ≤ y → g y ≡ f y) → map f (going_up from count) ≡ map g (going_up from count)
same-map f g from zero same = refl
same-map f g from (suc count) same =
    ap₂ (λ x xs. x ∷ xs) (sym (same from (omega arith))) (same-map f g (suc from) count (λ y le. same y (omega arith)))

-- one of them changed
set-map : {A : Type 0} (f g : ℕ → A) (v : A) (from count k : ℕ) → k < count → g (from + k) ≡ v → ((y : ℕ) → y ≢ from + k → g y ≡ f y) → set (map f (going_up from count)) k v ≡ map g (going_up from count)
set-map f g v from zero k lt at other = absurd (omega arith)
set-map f g v from (suc count) zero lt at other =
    let here : g from ≡ v = ap g (sym (add-zero from)) ∙ at in
    ap₂ (λ x xs. x ∷ xs) (sym here) (same-map f g (suc from) count (λ y le. other y (omega arith)))
set-map f g v from (suc count) (suc k) lt at other =
    let move : suc from + k ≡ from + suc k = omega arith in
    ap₂ (λ x xs. x ∷ xs) (sym (other from (omega arith)))
    (set-map f g v (suc from) count k (omega arith) (ap g move ∙ at) (λ y ne. other y (λ e. ne (e ∙ sym move))))

get_or-count : {A : Type 0} (f : ℕ → A) (from count k : ℕ) (d : A) → k < count → get_or (map f (going_up from count)) k d ≡ f (from + k)
get_or-count f from zero k d lt = absurd (omega arith)
get_or-count f from (suc count) zero d lt = ap f (sym (add-zero from))
get_or-count f from (suc count) (suc k) d lt =
    let move : suc from + k ≡ from + suc k = omega arith in
    get_or-count f (suc from) count k d (omega arith) ∙ ap f move

-- ---- numbers that are given

one_by : (had : Bool) (nets : List ℕ) (count net : ℕ) → net < count → is_some (number_among nets net) ≡ had
    → cond had (numbers_among nets count) (set (numbers_among nets count) net (Some (net_of (length nets)))) ≡ numbers_among (nets ++ net ∷ []) count
one_by true nets count net lt has =
    same-map (number_among nets) (number_among (nets ++ net ∷ [])) 0 count (λ y le. number_among-push nets net y ∙ kept nets net y has) where
      at_other : (nets : List ℕ) (net y : ℕ) (here : Bool) → eqb net y ≡ here → is_some (number_among nets net) ≡ true → number_or (length nets) (position (is_net y) nets) here ≡ number_among nets y
      at_other nets net y false e has = other_by (length nets) (position (is_net y) nets)
      at_other nets net y true e has =
          let same : net ≡ y = eqb-true net y e in
          kept_by (length nets) (position (is_net y) nets) true
          (subst (λ x. is_some (position (is_net x) nets) ≡ true) same (sym (is_some_map (position (is_net net) nets)) ∙ has))

      kept : (nets : List ℕ) (net y : ℕ) → is_some (number_among nets net) ≡ true → number_or (length nets) (position (is_net y) nets) (eqb net y) ≡ number_among nets y
      kept nets net y has = at_other nets net y (eqb net y) refl has
one_by false nets count net lt has =
    set-map (number_among nets) (number_among (nets ++ net ∷ [])) (Some (net_of (length nets))) 0 count net lt
    (let zero_more : 0 + net ≡ net = omega arith in
    ap (number_among (nets ++ net ∷ [])) zero_more ∙ number_among-push nets net net
    ∙ ap (number_or (length nets) (position (is_net net) nets)) (eq-eqb net net refl)
    ∙ new_by (length nets) (position (is_net net) nets) (sym (is_some_map (position (is_net net) nets)) ∙ has))
    (λ y ne.
    let apart : eqb net y ≡ false = ne_eqb net y (λ e. ne (omega arith)) in
    number_among-push nets net y ∙ ap (number_or (length nets) (position (is_net y) nets)) apart ∙ other_by (length nets) (position (is_net y) nets))

with_number-one : (nets : List ℕ) (count net : ℕ) → net < count → with_number net (length nets) (numbers_among nets count) ≡ numbers_among (nets ++ net ∷ []) count
with_number-one nets count net lt =
    let zero_more : 0 + net ≡ net = omega arith in
    ap (λ o. cond (is_some o) (numbers_among nets count) (set (numbers_among nets count) net (Some (net_of (length nets))))) (get_or-count (number_among nets) 0 count net None lt ∙ ap (number_among nets) zero_more)
    ∙ one_by (is_some (number_among nets net)) nets count net lt refl

-- each of these nets is one of the first so many
abbrev pub AreBelow : ℕ → List ℕ → Type 0
AreBelow count [] = Unit {0}
AreBelow count (net ∷ nets) = (net < count) × AreBelow count nets

with_numbers-behind : (done nets : List ℕ) (count : ℕ) → AreBelow count nets → with_numbers nets (length done) (numbers_among done count) ≡ numbers_among (done ++ nets) count
with_numbers-behind done [] count below = ap (λ xs. numbers_among xs count) (sym (append-nil done))
with_numbers-behind done (net ∷ nets) count below =
    let one : suc (length done) ≡ length (done ++ net ∷ []) = sym (length_push done net ∙ add-one (length done)) in
    ap₂ (λ n xs. with_numbers nets n xs) one (with_number-one done count net below.0)
    ∙ with_numbers-behind (done ++ net ∷ []) nets count below.1
    ∙ ap (λ xs. numbers_among xs count) (append_assoc done (net ∷ []) nets)

none_among : (from count : ℕ) → replicate count None ≡ map (number_among []) (going_up from count)
none_among from zero = refl
none_among from (suc count) = ap (λ xs. None ∷ xs) (none_among (suc from) count)

-- numbers that are given one after another, to nets that had none, are the nets' places
pub with_numbers-all : (nets : List ℕ) (count : ℕ) → AreBelow count nets → with_numbers nets 0 (replicate count None) ≡ numbers_among nets count
with_numbers-all nets count below = ap (with_numbers nets 0) (none_among 0 count) ∙ with_numbers-behind [] nets count below

-- ---- the steps of the loops

-- one bit more has its number
pub bits_more : (first count bit next : ℕ) (numbers : List (Option NetId)) → bit < count
    → with_numbers (going_up (first + bit) (count - bit)) (next + bit) numbers ≡ with_numbers (going_up (first + (bit + 1)) (count - (bit + 1))) (next + (bit + 1)) (with_number (first + bit) (next + bit) numbers)
bits_more first count bit next numbers lt =
    let more : count - bit ≡ suc (count - (bit + 1)) = omega arith in
    let net : suc (first + bit) ≡ first + (bit + 1) = omega arith in
    let number : suc (next + bit) ≡ next + (bit + 1) = omega arith in
    ap (λ n. with_numbers (going_up (first + bit) n) (next + bit) numbers) more
    ∙ ap₂ (λ a n. with_numbers (going_up a (count - (bit + 1))) n (with_number (first + bit) (next + bit) numbers)) net number

pub with_numbers-append : (xs ys : List ℕ) (next : ℕ) (numbers : List (Option NetId)) → with_numbers (xs ++ ys) next numbers ≡ with_numbers ys (next + length xs) (with_numbers xs next numbers)
with_numbers-append [] ys next numbers = ap (λ n. with_numbers ys n numbers) (sym (add-zero next))
with_numbers-append (x ∷ xs) ys next numbers =
    let move : suc next + length xs ≡ next + suc (length xs) = omega arith in
    with_numbers-append xs ys (suc next) (with_number x next numbers)
    ∙ ap (λ n. with_numbers ys n (with_numbers xs (suc next) (with_number x next numbers))) move

length-set_if : (b : Bool) (numbers : List (Option NetId)) (net : ℕ) (v : Option NetId) → length (cond b numbers (set numbers net v)) ≡ length numbers
length-set_if true numbers net v = refl
length-set_if false numbers net v = length-set numbers net v

pub length-with_numbers : (nets : List ℕ) (next : ℕ) (numbers : List (Option NetId)) → length (with_numbers nets next numbers) ≡ length numbers
length-with_numbers [] next numbers = refl
length-with_numbers (net ∷ nets) next numbers =
    length-with_numbers nets (suc next) (with_number net next numbers)
    ∙ length-set_if (is_some (get_or numbers net None)) numbers net (Some (net_of next))

-- the ports ahead are to be numbered from `next` on; so many ports were
pub record NumbersPorts (count : ℕ) (all : List HeaderPort) (index : ℕ) (ahead : List HeaderPort) (next : ℕ) (numbers : List (Option NetId)) : Type 0 where
  pub rest : with_numbers (nets_of_ports ahead) next numbers ≡ with_numbers (nets_of_ports all) 0 (replicate count None)
  pub count_of : length numbers ≡ count
  pub few : next ≤ 65536 * index

pub NumbersPorts-more : (count : ℕ) (all : List HeaderPort) (index : ℕ) (port : HeaderPort) (ahead : List HeaderPort) (next after : ℕ) (numbers new : List (Option NetId))
    → new ≡ with_numbers (nets_of_port port.declared) next numbers → after ≡ next + length (nets_of_port port.declared) → after ≤ next + 65536
    → NumbersPorts count all index (port ∷ ahead) next numbers → NumbersPorts count all (index + 1) ahead after new
NumbersPorts-more count all index port ahead next after numbers new grown moved few h = record {
  rest = ap₂ (λ n xs. with_numbers (nets_of_ports ahead) n xs) moved grown ∙ sym (with_numbers-append (nets_of_port port.declared) (nets_of_ports ahead) next numbers) ∙ h.rest;
  count_of = ap length grown ∙ length-with_numbers (nets_of_port port.declared) next numbers ∙ h.count_of;
  few = omega (arith, few, h.few);
}

pub AreBelow-count : (count from n : ℕ) → from + n ≤ count → AreBelow count (going_up from n)
AreBelow-count count from zero le = tt
AreBelow-count count from (suc n) le = (omega arith, AreBelow-count count (suc from) n (omega arith))

pub AreBelow-append : (count : ℕ) (xs ys : List ℕ) → AreBelow count xs → AreBelow count ys → AreBelow count (xs ++ ys)
AreBelow-append count [] ys hx hy = hy
AreBelow-append count (x ∷ xs) ys hx hy = (hx.0, AreBelow-append count xs ys hx.1 hy)

AreBelow-port : (count : ℕ) (declared : Option Declared) → IsDeclaredWithin count declared → AreBelow count (nets_of_port declared)
AreBelow-port count None h = tt
AreBelow-port count (Some d) h = AreBelow-count count d.shape.first.0 (net_count d.shape.range) h

-- the nets of ports are there
pub AreBelow-ports : (count : ℕ) (ports : List HeaderPort) → All (λ (p : HeaderPort). IsDeclaredWithin count p.declared) ports → AreBelow count (nets_of_ports ports)
AreBelow-ports count [] h = tt
AreBelow-ports count (port ∷ ports) h =
    AreBelow-append count (nets_of_port port.declared) (nets_of_ports ports)
    (AreBelow-port count port.declared (All-head (λ (p : HeaderPort). IsDeclaredWithin count p.declared) port ports h))
    (AreBelow-ports count ports (All-tail (λ (p : HeaderPort). IsDeclaredWithin count p.declared) port ports h))

pub length-of_port : (declared : Option Declared) (d : Declared) (n : ℕ) → declared ≡ Some d → n ≡ net_count d.shape.range → n ≡ length (nets_of_port declared)
length-of_port declared d n is e = e ∙ sym (up_length d.shape.first.0 (net_count d.shape.range)) ∙ ap (λ o. length (nets_of_port o)) (sym is)

-- The final numbers of nets, where those that are no port's bits are numbered behind the others.
use Rattle.std.proofs.Common.{◌≡◌, ◌≢◌, ℕ, zero, suc, ◌+◌, ◌<◌, ◌≤◌, Bool, true, false, not, ◌||◌, cond, eqb, filter, List, [], ◌∷◌, ◌++◌, length, map, get_or, Option, Some, None, option_map, is_some, unwrap_or, refl, sym, ap, ap₂, ◌∙◌, subst, arith, add-zero, length-append, slice_get}
use Rattle.std.specs.List.{All, position, list_any}
use Rattle.std.proofs.lemmas.Bool.{eq-eqb, ne_eqb}
use Rattle.std.proofs.lemmas.List.{length-map}
use Rattle.std.proofs.lemmas.List.Elements.{All-nil, All-cons}
use Rattle.std.proofs.lemmas.List.Quantifiers.{position-Some}
use Rattle.dft_base.specs.Lexing.{Text}
use Rattle.dft_base.specs.Ranges.{going_up}
use Rattle.dft_netlist.specs.declared.ids.NetId.{NetId}
use Rattle.dft_netlist.proofs.NumberLemmas.{net_of}
use Rattle.dft_netlist.proofs.BitLemmas.{up_length}
use Rattle.dft_netlist_text.specs.Modules.{Draft}
use Rattle.dft_netlist_text.specs.NetlistText.{nets_of_ports, other_nets, net_order, final_net, names_of_others}
use Rattle.dft_verilog.specs.FinalNets.{number_among, numbers_among, without_number, all_numbered, AreFinal}
use Rattle.dft_verilog.proofs.NumberingLemmas.{position-cons, position-append, or_behind, is_net}

-- the nets that are none of these
abbrev pub is_other : List ℕ → ℕ → Bool
is_other nets net = not (list_any (λ bit. eqb bit net) nets)

abbrev pub others_from : List ℕ → (from count : ℕ) → List ℕ
others_from nets from count = filter (is_other nets) (going_up from count)

some_cons : (b c : Bool) (o : Option ℕ) → c ≡ is_some o → (b || c) ≡ is_some (cond b (Some 0) (option_map suc o))
some_cons true c o e = refl
some_cons false c None e = e
some_cons false c (Some k) e = e

-- a net is one of these where it has a place among them
any_some : (nets : List ℕ) (net : ℕ) → list_any (λ bit. eqb bit net) nets ≡ is_some (position (is_net net) nets)
any_some [] net = refl
any_some (x ∷ xs) net = some_cons (eqb x net) (list_any (λ bit. eqb bit net) xs) (position (is_net net) xs) (any_some xs net) ∙ ap is_some (sym (position-cons (is_net net) x xs))

-- ---- the names of the others

name_by : (o : Option ℕ) (b : Bool) (x : Text) (xs : List Text) (net : ℕ) (f : ℕ → Text) (numbers : List (Option NetId)) (rest : List ℕ) → b ≡ is_some o → f net ≡ x → without_number xs numbers ≡ map f rest
    → without_number (x ∷ xs) (option_map net_of o ∷ numbers) ≡ map f (cond (not b) (net ∷ rest) rest)
name_by None true x xs net f numbers rest e here there = absurd (cc)
name_by None false x xs net f numbers rest e here there = ap₂ (λ y ys. y ∷ ys) (sym here) there
name_by (Some k) true x xs net f numbers rest e here there = there
name_by (Some k) false x xs net f numbers rest e here there = absurd (cc)

names-by : (nets : List ℕ) (f : ℕ → Text) (from : ℕ) (xs : List Text) → ((k : ℕ) → k < length xs → f (from + k) ≡ get_or xs k [])
    → without_number xs (map (number_among nets) (going_up from (length xs))) ≡ map f (others_from nets from (length xs))
names-by nets f from [] at = refl
names-by nets f from (x ∷ xs) at =
    name_by (position (is_net from) nets) (list_any (λ bit. eqb bit from) nets) x xs from f
    (map (number_among nets) (going_up (suc from) (length xs))) (others_from nets (suc from) (length xs))
    (any_some nets from) (ap f (sym (add-zero from)) ∙ at 0 (omega arith))
    (names-by nets f (suc from) xs (λ k lt. let move : suc from + k ≡ from + suc k = omega arith in ap f move ∙ at (suc k) (omega arith)))

-- the nets that have no number are the others
pub without_number-others : (d : Draft) → without_number d.nets (numbers_among (nets_of_ports d.ports) (length d.nets)) ≡ names_of_others d
without_number-others d = names-by (nets_of_ports d.ports) (λ net. get_or d.nets net []) 0 d.nets (λ k lt. let move : 0 + k ≡ k = omega arith in ap (λ n. get_or d.nets n []) move)

-- ---- the numbers of all

pub length-all_numbered : (next : ℕ) (numbers : List (Option NetId)) → length (all_numbered next numbers) ≡ length numbers
length-all_numbered next [] = refl
length-all_numbered next (Some number ∷ numbers) = ap suc (length-all_numbered next numbers)
length-all_numbered next (None ∷ numbers) = ap suc (length-all_numbered (suc next) numbers)

-- the place that is counted on, or 0
abbrev or_zero : Option ℕ → NetId
or_zero o = net_of (unwrap_or o 0)

first_by : (o : Option ℕ) (b : Bool) (net next : ℕ) (numbers : List (Option NetId)) (rest : List ℕ) → b ≡ is_some o
    → slice_get (all_numbered next (option_map net_of o ∷ numbers)) 0 ≡ Some (or_zero (or_behind next o (position (is_net net) (cond (not b) (net ∷ rest) rest))))
first_by None true net next numbers rest e = absurd (cc)
first_by None false net next numbers rest e =
    let zeroth : next ≡ next + 0 = omega arith in
    let at : position (is_net net) (net ∷ rest) ≡ Some 0 = position-cons (is_net net) net rest ∙ ap (λ b. cond b (Some 0) (option_map suc (position (is_net net) rest))) (eq-eqb net net refl) in
    ap (λ n. Some (net_of n)) zeroth ∙ sym (ap (λ o. Some (or_zero (or_behind next None o))) at)
first_by (Some k) true net next numbers rest e = refl
first_by (Some k) false net next numbers rest e = absurd (cc)

later_by : (next : ℕ) (mine later : Option ℕ) → or_zero (or_behind (suc next) mine later) ≡ or_zero (or_behind next mine (option_map suc later))
later_by next (Some k) later = refl
later_by next None None = refl
later_by next None (Some k) = let move : suc next + k ≡ next + suc k = omega arith in ap net_of move

next_by : (o mine : Option ℕ) (b : Bool) (net other next k : ℕ) (numbers : List (Option NetId)) (rest : List ℕ) → b ≡ is_some o → net ≢ other
    → ((n : ℕ) → slice_get (all_numbered n numbers) k ≡ Some (or_zero (or_behind n mine (position (is_net other) rest))))
    → slice_get (all_numbered next (option_map net_of o ∷ numbers)) (suc k) ≡ Some (or_zero (or_behind next mine (position (is_net other) (cond (not b) (net ∷ rest) rest))))
next_by None mine true net other next k numbers rest e ne there = absurd (cc)
next_by None mine false net other next k numbers rest e ne there =
    let at : position (is_net other) (net ∷ rest) ≡ option_map suc (position (is_net other) rest) =
    position-cons (is_net other) net rest ∙ ap (λ b. cond b (Some 0) (option_map suc (position (is_net other) rest))) (ne_eqb net other ne) in
    there (suc next) ∙ ap Some (later_by next mine (position (is_net other) rest)) ∙ sym (ap (λ o. Some (or_zero (or_behind next mine o))) at)
next_by (Some p) mine true net other next k numbers rest e ne there = there next
next_by (Some p) mine false net other next k numbers rest e ne there = absurd (cc)

numbered-at : (nets : List ℕ) (next from n k y : ℕ) → k < n → y ≡ from + k
    → slice_get (all_numbered next (map (number_among nets) (going_up from n))) k ≡ Some (or_zero (or_behind next (position (is_net y) nets) (position (is_net y) (others_from nets from n))))
numbered-at nets next from zero k y lt e = absurd (omega arith)
numbered-at nets next from (suc n) zero y lt e =
    let same : from ≡ y = omega arith in
    subst (λ z. slice_get (all_numbered next (map (number_among nets) (going_up from (suc n)))) 0 ≡ Some (or_zero (or_behind next (position (is_net z) nets) (position (is_net z) (others_from nets from (suc n)))))) same
    (first_by (position (is_net from) nets) (list_any (λ bit. eqb bit from) nets) from next (map (number_among nets) (going_up (suc from) n)) (others_from nets (suc from) n) (any_some nets from))
numbered-at nets next from (suc n) (suc k) y lt e =
    next_by (position (is_net from) nets) (position (is_net y) nets) (list_any (λ bit. eqb bit from) nets) from y next k
    (map (number_among nets) (going_up (suc from) n)) (others_from nets (suc from) n) (any_some nets from) (λ same. absurd (omega arith))
    (λ m. numbered-at nets m (suc from) n k y (omega arith) (omega arith))

-- ---- each is below the number of nets

-- how many have no number
abbrev unnumbered : List (Option NetId) → ℕ
unnumbered [] = 0
unnumbered (Some number ∷ numbers) = unnumbered numbers
unnumbered (None ∷ numbers) = suc (unnumbered numbers)

abbrev IsWithin : ℕ → Option NetId → Type 0
IsWithin count None = Unit {0}
IsWithin count (Some number) = number.0 < count

abbrev AreWithin : ℕ → List (Option NetId) → Type 0
AreWithin count [] = Unit {0}
AreWithin count (number ∷ numbers) = IsWithin count number × AreWithin count numbers

numbered-within : (count next : ℕ) (numbers : List (Option NetId)) → AreWithin count numbers → next + unnumbered numbers ≤ count → All (λ (f : NetId). f.0 < count) (all_numbered next numbers)
numbered-within count next [] h le = All-nil (λ (f : NetId). f.0 < count)
numbered-within count next (Some number ∷ numbers) h le = All-cons (λ (f : NetId). f.0 < count) number (all_numbered next numbers) h.0 (numbered-within count next numbers h.1 le)
numbered-within count next (None ∷ numbers) h le = All-cons (λ (f : NetId). f.0 < count) (net_of next) (all_numbered (suc next) numbers) (omega arith) (numbered-within count (suc next) numbers h.1 (omega arith))

within_by : (count : ℕ) (o : Option ℕ) → ((k : ℕ) → o ≡ Some k → k < count) → IsWithin count (option_map net_of o)
within_by count None h = tt
within_by count (Some k) h = h k refl

among-within : (nets : List ℕ) (count from n : ℕ) → length nets ≤ count → AreWithin count (map (number_among nets) (going_up from n))
among-within nets count from zero le = tt
among-within nets count from (suc n) le =
    (within_by count (position (is_net from) nets) (λ k e. let lt : k < length nets = (position-Some (is_net from) nets k 0 e).0 in omega arith), among-within nets count (suc from) n le)

one_other : (o : Option ℕ) (b : Bool) (net : ℕ) (numbers : List (Option NetId)) (rest : List ℕ) → b ≡ is_some o → unnumbered numbers ≡ length rest → unnumbered (option_map net_of o ∷ numbers) ≡ length (cond (not b) (net ∷ rest) rest)
one_other None true net numbers rest e h = absurd (cc)
one_other None false net numbers rest e h = ap suc h
one_other (Some k) true net numbers rest e h = h
one_other (Some k) false net numbers rest e h = absurd (cc)

unnumbered-others : (nets : List ℕ) (from n : ℕ) → unnumbered (map (number_among nets) (going_up from n)) ≡ length (others_from nets from n)
unnumbered-others nets from zero = refl
unnumbered-others nets from (suc n) =
    one_other (position (is_net from) nets) (list_any (λ bit. eqb bit from) nets) from (map (number_among nets) (going_up (suc from) n)) (others_from nets (suc from) n) (any_some nets from) (unnumbered-others nets (suc from) n)

-- ---- the final numbers

final_by : (nets others : List ℕ) (y : ℕ) → final_net (nets ++ others) (net_of y) ≡ or_zero (or_behind (length nets) (position (is_net y) nets) (position (is_net y) others))
final_by nets others y = ap or_zero (position-append (is_net y) nets others)

-- numbers that go on behind the ports' bits are final
pub AreFinal-numbered : (d : Draft) (next : ℕ) → next ≡ length (nets_of_ports d.ports) → AreFinal d (all_numbered next (numbers_among (nets_of_ports d.ports) (length d.nets)))
AreFinal-numbered d next e =
    let bits = nets_of_ports d.ports in
    let numbers = numbers_among bits (length d.nets) in
    record {
      count = length-all_numbered next numbers ∙ length-map (going_up 0 (length d.nets)) (number_among bits) ∙ up_length 0 (length d.nets);
      each = λ net lt.
          numbered-at bits next 0 (length d.nets) net.0 net.0 lt (omega arith)
          ∙ ap (λ n. Some (or_zero (or_behind n (position (is_net net.0) bits) (position (is_net net.0) (other_nets d))))) e
          ∙ ap Some (sym (final_by bits (other_nets d) net.0));
      within = numbered-within (length (net_order d)) next numbers (among-within bits (length (net_order d)) 0 (length d.nets) (omega (arith, length-append bits (other_nets d))))
          (omega (arith, length-append bits (other_nets d), unnumbered-others bits 0 (length d.nets), e));
    }

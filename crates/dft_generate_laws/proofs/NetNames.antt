-- The names of the nets and instances of a generated netlist differ.
use Rattle.std.proofs.Common.{◌≡◌, ◌⊎◌, inl, inr, ℕ, zero, suc, ◌+◌, ◌*◌, ◌<◌, ◌≤◌, Bool, true, false, cond, List, [], ◌∷◌, ◌++◌, get_or, Option, Some, None, codes, decimal, slice_get, refl, sym, ap, ◌∙◌, subst, arith}
use Rattle.std.specs.Prelude.{◌||◌}
use Rattle.std.specs.List.{range_with_len, filter_map, cons_option}
use Rattle.std.specs.Option.{option_and_then}
use Rattle.std.specs.Str.{bytes_eq}
use Rattle.std.proofs.Math.Nat.{mod-lt}
use Rattle.dft_base.specs.Lexing.{Text}
use Rattle.dft_base.specs.Name.{IsName}
use Rattle.dft_base.proofs.TextLemmas.{same_text}
use Rattle.dft_cells.specs.WellFormed.{has_name}
use Rattle.dft_netlist.specs.declared.named.Named.{Named}
use Rattle.dft_netlist.specs.declared.named.Named.TheVariants as named
use Rattle.dft_netlist.specs.Netlist.{Netlist}
use Rattle.dft_netlist.specs.Names.{Names, NamesDiffer, names_taken, vector_name, instance_name}
use Rattle.dft_verilog_out.proofs.CountLemmas.{one_if, times, Once, times-append, times-head, times-where, none_or_some}
use Rattle.dft_generate.specs.Words.{word_at}
use Rattle.dft_generate_laws.specs.Designs.{with_net, with_cell, with_cells, port_nets, nets_of, q_of, d_of, g_of, f_of, first_of, second_of, instances_in}
use Rattle.dft_generate_laws.proofs.Words as letters
use Rattle.dft_generate_laws.proofs.Ties.{IsInner, q-inner, d-inner, heads_differ, numbers_differ}
use Rattle.dft_generate_laws.proofs.Front.{ports_once, clock0_name, clock1_name, output_name}
use Rattle.dft_generate_laws.proofs.Said.{nets-are}

-- ---- names that stand once

missing_by : (t r : Bool) (n : ℕ) → (r ≡ false → n ≡ 0) → (t || r) ≡ false → one_if t + n ≡ 0
missing_by true r n ih h = absurd (let f : ⊥ = cc in f)
missing_by false r n ih h = let i = ih h in omega (arith, i)

pub times-missing : (xs : List Text) (w : Text) → has_name xs w ≡ false → times w xs ≡ 0
times-missing [] w h = refl
times-missing (x ∷ xs) w h = missing_by (bytes_eq x w) (has_name xs w) (times w xs) (times-missing xs w) h

-- a word where it stands
times_at : (xs : List Text) (k : ℕ) (w : Text) → slice_get xs k ≡ Some w → 1 ≤ times w xs
times_at [] k w at = absurd (let f : ⊥ = cc in f)
times_at (x ∷ xs) zero w at = let e : x ≡ w = cc in subst (λ (v : Text). 1 ≤ times v (x ∷ xs)) e (omega (arith, times-head x xs))
times_at (x ∷ xs) (suc k) w at = let i = times_at xs k w at in omega (arith, i)

-- it stands at one place
times_one : (xs : List Text) (j k : ℕ) (w : Text) → times w xs ≤ 1 → slice_get xs j ≡ Some w → slice_get xs k ≡ Some w → j ≡ k
times_one [] j k w few a b = absurd (let f : ⊥ = cc in f)
times_one (x ∷ xs) zero zero w few a b = refl
times_one (x ∷ xs) zero (suc k) w few a b =
    let e : x ≡ w = cc in
    let two : 2 ≤ times w (x ∷ xs) = subst (λ (v : Text). times v xs ≡ times w xs → 2 ≤ times v (x ∷ xs)) e (λ s. let i = times_at xs k w b in omega (arith, i, s, times-head x xs)) refl in
    absurd (omega (arith, two, few))
times_one (x ∷ xs) (suc j) zero w few a b =
    let e : x ≡ w = cc in
    let two : 2 ≤ times w (x ∷ xs) = subst (λ (v : Text). times v xs ≡ times w xs → 2 ≤ times v (x ∷ xs)) e (λ s. let i = times_at xs j w a in omega (arith, i, s, times-head x xs)) refl in
    absurd (omega (arith, two, few))
times_one (x ∷ xs) (suc j) (suc k) w few a b = ap suc (times_one xs j k w (omega (arith, few)) a b)

-- the same for names that some parts have
module _ {X : Type 0} (f : X → Option Text) where
  cons_at : (o : Option Text) (names : List Text) (w : Text) → o ≡ Some w → 1 ≤ times w (cons_option o names)
  cons_at None names w e = absurd (let g : ⊥ = cc in g)
  cons_at (Some v) names w e = let same : v ≡ w = cc in subst (λ (u : Text). 1 ≤ times u (v ∷ names)) same (omega (arith, times-head v names))

  cons_later : (o : Option Text) (names : List Text) (w : Text) → times w names ≤ times w (cons_option o names)
  cons_later None names w = omega arith
  cons_later (Some v) names w = omega arith

  shown_at : (xs : List X) (k : ℕ) (w : Text) → option_and_then f (slice_get xs k) ≡ Some w → 1 ≤ times w (filter_map f xs)
  shown_at [] k w at = absurd (let g : ⊥ = cc in g)
  shown_at (x ∷ xs) zero w at = cons_at (f x) (filter_map f xs) w at
  shown_at (x ∷ xs) (suc k) w at = let i = shown_at xs k w at in let l = cons_later (f x) (filter_map f xs) w in omega (arith, i, l)

  cons_both : (o : Option Text) (names : List Text) (w : Text) → o ≡ Some w → 1 ≤ times w names → 2 ≤ times w (cons_option o names)
  cons_both None names w e some = absurd (let g : ⊥ = cc in g)
  cons_both (Some v) names w e some =
      let same : v ≡ w = cc in
      subst (λ (u : Text). times u names ≡ times w names → 2 ≤ times u (v ∷ names)) same (λ s. omega (arith, some, s, times-head v names)) refl

  shown_one : (xs : List X) (j k : ℕ) (w : Text) → times w (filter_map f xs) ≤ 1 → option_and_then f (slice_get xs j) ≡ Some w → option_and_then f (slice_get xs k) ≡ Some w → j ≡ k
  shown_one [] j k w few a b = absurd (let g : ⊥ = cc in g)
  shown_one (x ∷ xs) zero zero w few a b = refl
  shown_one (x ∷ xs) zero (suc k) w few a b = let two = cons_both (f x) (filter_map f xs) w a (shown_at xs k w b) in absurd (omega (arith, two, few))
  shown_one (x ∷ xs) (suc j) zero w few a b = let two = cons_both (f x) (filter_map f xs) w b (shown_at xs j w a) in absurd (omega (arith, two, few))
  shown_one (x ∷ xs) (suc j) (suc k) w few a b = ap suc (shown_one xs j k w (let l = cons_later (f x) (filter_map f xs) w in omega (arith, l, few)) a b)

-- names that stand once among all that are taken differ
pub once_differ : (n : Netlist) → Once (names_taken n) → NamesDiffer n
once_differ n once word a b is also =
    let o = once word in
    let first = times-append word n.nets (filter_map vector_name n.ports ++ filter_map instance_name n.instances) in
    let second = times-append word (filter_map vector_name n.ports) (filter_map instance_name n.instances) in
    by a b is also o first second
  where
    by : (x y : Named) → Names n word x → Names n word y → times word (names_taken n) ≤ 1
        → times word (names_taken n) ≡ times word n.nets + times word (filter_map vector_name n.ports ++ filter_map instance_name n.instances)
        → times word (filter_map vector_name n.ports ++ filter_map instance_name n.instances) ≡ times word (filter_map vector_name n.ports) + times word (filter_map instance_name n.instances) → x ≡ y
    by (named.Net j) (named.Net k) p q o first second = ap (λ (m : ℕ). named.Net (record { 0 = m })) (times_one n.nets j.0 k.0 word (omega (arith, o, first)) p q)
    by (named.Net j) (named.Vector k) p q o first second = let s = times_at n.nets j.0 word p in let t = shown_at vector_name n.ports k.0 word q in absurd (omega (arith, o, first, second, s, t))
    by (named.Net j) (named.Instance k) p q o first second = let s = times_at n.nets j.0 word p in let t = shown_at instance_name n.instances k.0 word q in absurd (omega (arith, o, first, second, s, t))
    by (named.Vector j) (named.Net k) p q o first second = let s = times_at n.nets k.0 word q in let t = shown_at vector_name n.ports j.0 word p in absurd (omega (arith, o, first, second, s, t))
    by (named.Vector j) (named.Vector k) p q o first second = ap (λ (m : ℕ). named.Vector (record { 0 = m })) (shown_one vector_name n.ports j.0 k.0 word (omega (arith, o, first, second)) p q)
    by (named.Vector j) (named.Instance k) p q o first second = let s = shown_at vector_name n.ports j.0 word p in let t = shown_at instance_name n.instances k.0 word q in absurd (omega (arith, o, first, second, s, t))
    by (named.Instance j) (named.Net k) p q o first second = let s = times_at n.nets k.0 word q in let t = shown_at instance_name n.instances j.0 word p in absurd (omega (arith, o, first, second, s, t))
    by (named.Instance j) (named.Vector k) p q o first second = let s = shown_at vector_name n.ports k.0 word q in let t = shown_at instance_name n.instances j.0 word p in absurd (omega (arith, o, first, second, s, t))
    by (named.Instance j) (named.Instance k) p q o first second = ap (λ (m : ℕ). named.Instance (record { 0 = m })) (shown_one instance_name n.instances j.0 k.0 word (omega (arith, o, first, second)) p q)

-- ---- the nets

-- a port's net, or a cell's
pub data IsNetName : Text → Type 0 where
  OfClock0 : IsNetName (codes "clk0")
  OfClock1 : IsNetName (codes "clk1")
  OfOutput : IsNetName (codes "y")
  OfCell : {w : Text} → IsInner w → IsNetName w

pub record AreNets (nets : List Text) : Type 0 where
  pub each : (k : ℕ) (w : Text) → slice_get nets k ≡ Some w → IsNetName w
  pub once : Once nets

ports_each : (k : ℕ) (w : Text) → slice_get port_nets k ≡ Some w → IsNetName w
ports_each zero w at = let e : codes "clk0" ≡ w = cc in subst IsNetName e OfClock0
ports_each (suc zero) w at = let e : codes "clk1" ≡ w = cc in subst IsNetName e OfClock1
ports_each (suc (suc zero)) w at = let e : codes "y" ≡ w = cc in subst IsNetName e OfOutput
ports_each (suc (suc (suc k))) w at = absurd (let f : ⊥ = cc in f)

last_or : (xs : List Text) (x w : Text) (k : ℕ) → slice_get (xs ++ x ∷ []) k ≡ Some w → (slice_get xs k ≡ Some w) ⊎ (x ≡ w)
last_or [] x w zero at = inr (let e : x ≡ w = cc in e)
last_or [] x w (suc k) at = absurd (let f : ⊥ = cc in f)
last_or (y ∷ xs) x w zero at = inl at
last_or (y ∷ xs) x w (suc k) at = last_or xs x w k at

once_more : (xs : List Text) (x word : Text) (t : Bool) → bytes_eq x word ≡ t → has_name xs x ≡ false → times word xs ≤ 1 → times word xs + (one_if t + 0) ≤ 1
once_more xs x word true is none few = let z : times word xs ≡ 0 = ap (λ (v : Text). times v xs) (sym (same_text x word is)) ∙ times-missing xs x none in omega (arith, z)
once_more xs x word false is none few = omega (arith, few)

net_by : (t : Bool) (x : Text) (nets : List Text) → has_name nets x ≡ t → IsInner x → AreNets nets → AreNets (cond t nets (nets ++ x ∷ []))
net_by true x nets is i n = n
net_by false x nets is i n = record {
  each = λ k w at. elim (last_or nets x w k at) [ inl here ↦ n.each k w here | inr e ↦ subst IsNetName e (OfCell i) ];
  once = λ word. let o = once_more nets x word (bytes_eq x word) refl is (n.once word) in omega (arith, o, times-append word nets (x ∷ []));
}

net_more : (x : Text) (nets : List Text) → IsInner x → AreNets nets → AreNets (with_net x nets)
net_more x nets i n = net_by (has_name nets x) x nets refl i n

cells_nets : (size : ℕ) (words : List ℕ) (count from : ℕ) (nets : List Text) → 0 < size → size ≤ 20000 → from + count ≤ size → AreNets nets → AreNets (with_cells size words (range_with_len from count) nets)
cells_nets size words zero from nets some few last n = n
cells_nets size words (suc count) from nets some few last n =
    let j : ℕ = first_of size words from in
    let k : ℕ = second_of size words from in
    let lj = mod-lt (word_at words (from * 3 + 1)) some in
    let lk = mod-lt (word_at words (from * 3 + 2)) some in
    let a : List Text = with_net (q_of j) nets in
    let b : List Text = with_net (q_of k) a in
    let c : List Text = with_net (d_of from) b in
    let na = net_more (q_of j) nets (q-inner j (omega (arith, lj, few))) n in
    let nb = net_more (q_of k) a (q-inner k (omega (arith, lk, few))) na in
    let nc = net_more (d_of from) b (d-inner from (omega (arith, few, last))) nb in
    cells_nets size words count (from + 1) (with_cell size words from nets) some few (omega (arith, last)) (net_more (q_of from) c (q-inner from (omega (arith, few, last))) nc)

pub are_nets : (size : ℕ) (words : List ℕ) → 0 < size → size ≤ 20000 → AreNets (nets_of size words)
are_nets size words some few =
    subst AreNets (nets-are size words) (cells_nets size words size 0 port_nets some few (omega arith) (record { each = ports_each; once = ports_once }))

-- a net has a name
pub net_named : (w : Text) → IsNetName w → IsName w
net_named _ OfClock0 = clock0_name
net_named _ OfClock1 = clock1_name
net_named _ OfOutput = output_name
net_named w (OfCell i) =
    let low : 97 ≤ i.letter = elim i.low [ inl e ↦ omega (arith, e) | inr e ↦ omega (arith, e) ] in
    let high : i.letter ≤ 122 = elim i.low [ inl e ↦ omega (arith, e) | inr e ↦ omega (arith, e) ] in
    subst IsName (sym i.is) (letters.numbered i.letter i.cell low high i.small).name

-- ---- the instances

-- the names of these cells' instances
abbrev pub own_words : (from count : ℕ) → List Text
own_words from zero = []
own_words from (suc count) = g_of from ∷ f_of from ∷ own_words (from + 1) count

pub own-are : (all : List Text) (size : ℕ) (words : List ℕ) (count from : ℕ) → filter_map instance_name (instances_in all size words (range_with_len from count)) ≡ own_words from count
own-are all size words zero from = refl
own-are all size words (suc count) from = ap (λ (ws : List Text). g_of from ∷ f_of from ∷ ws) (own-are all size words count (from + 1))

-- neither name of an earlier cell is among them
earlier_g : (k from count : ℕ) → k < from → from + count ≤ 20000 → times (g_of k) (own_words from count) ≡ 0
earlier_g k from zero lt few = refl
earlier_g k from (suc count) lt few =
    let i = earlier_g k (from + 1) count (omega (arith, lt)) (omega (arith, few)) in
    rw (numbers_differ 103 from k (omega (arith, few)) (omega (arith, few, lt)) (λ e. absurd (omega (arith, e, lt))), i) refl

earlier_f : (k from count : ℕ) → k < from → from + count ≤ 20000 → times (f_of k) (own_words from count) ≡ 0
earlier_f k from zero lt few = refl
earlier_f k from (suc count) lt few =
    let i = earlier_f k (from + 1) count (omega (arith, lt)) (omega (arith, few)) in
    rw (numbers_differ 102 from k (omega (arith, few)) (omega (arith, few, lt)) (λ e. absurd (omega (arith, e, lt))), i) refl

own_by : (word : Text) (from count : ℕ) (s t : Bool) → bytes_eq (g_of from) word ≡ s → bytes_eq (f_of from) word ≡ t → from + suc count ≤ 20000 → times word (own_words (from + 1) count) ≤ 1
    → one_if s + (one_if t + times word (own_words (from + 1) count)) ≤ 1
own_by word from count true true a b few ih = absurd (let e : bytes_eq (g_of from) (f_of from) ≡ false = heads_differ 103 102 (decimal from) (decimal from) (λ h. absurd (omega arith)) in
    let f : bytes_eq (g_of from) word ≡ false = ap (bytes_eq (g_of from)) (sym (same_text (f_of from) word b)) ∙ e in let g : ⊥ = cc in g)
own_by word from count true false a b few ih =
    let z : times word (own_words (from + 1) count) ≡ 0 = ap (λ (v : Text). times v (own_words (from + 1) count)) (sym (same_text (g_of from) word a)) ∙ earlier_g from (from + 1) count (omega arith) (omega (arith, few)) in
    omega (arith, z)
own_by word from count false true a b few ih =
    let z : times word (own_words (from + 1) count) ≡ 0 = ap (λ (v : Text). times v (own_words (from + 1) count)) (sym (same_text (f_of from) word b)) ∙ earlier_f from (from + 1) count (omega arith) (omega (arith, few)) in
    omega (arith, z)
own_by word from count false false a b few ih = omega (arith, ih)

own_once : (count from : ℕ) (word : Text) → from + count ≤ 20000 → times word (own_words from count) ≤ 1
own_once zero from word few = omega arith
own_once (suc count) from word few = own_by word from count (bytes_eq (g_of from) word) (bytes_eq (f_of from) word) refl refl few (own_once count (from + 1) word (omega (arith, few)))

-- an instance's name is no net's
own_or_by : (word : Text) (from count : ℕ) (s t : Bool) → bytes_eq (g_of from) word ≡ s → bytes_eq (f_of from) word ≡ t → 1 ≤ one_if s + (one_if t + times word (own_words (from + 1) count))
    → (1 ≤ times word (own_words (from + 1) count) → (k : ℕ) × ((word ≡ g_of k) ⊎ (word ≡ f_of k))) → (k : ℕ) × ((word ≡ g_of k) ⊎ (word ≡ f_of k))
own_or_by word from count true t a b some ih = (from, inl (sym (same_text (g_of from) word a)))
own_or_by word from count false true a b some ih = (from, inr (sym (same_text (f_of from) word b)))
own_or_by word from count false false a b some ih = ih (omega (arith, some))

own_or : (count from : ℕ) (word : Text) → 1 ≤ times word (own_words from count) → (k : ℕ) × ((word ≡ g_of k) ⊎ (word ≡ f_of k))
own_or zero from word some = absurd (omega (arith, some))
own_or (suc count) from word some = own_or_by word from count (bytes_eq (g_of from) word) (bytes_eq (f_of from) word) refl refl some (own_or count (from + 1) word)

-- the first byte of a net's name
net_head : (w : Text) → IsNetName w → (get_or w 0 0 ≡ 103 → ⊥) × (get_or w 0 0 ≡ 102 → ⊥)
net_head _ OfClock0 = (λ e. absurd (let h : 99 ≡ 103 = e in omega arith), λ e. absurd (let h : 99 ≡ 102 = e in omega arith))
net_head _ OfClock1 = (λ e. absurd (let h : 99 ≡ 103 = e in omega arith), λ e. absurd (let h : 99 ≡ 102 = e in omega arith))
net_head _ OfOutput = (λ e. absurd (let h : 121 ≡ 103 = e in omega arith), λ e. absurd (let h : 121 ≡ 102 = e in omega arith))
net_head w (OfCell i) =
    let head : get_or w 0 0 ≡ i.letter = ap (λ (v : Text). get_or v 0 0) i.is in
    (λ e. elim i.low [ inl l ↦ absurd (omega (arith, e, head, l)) | inr l ↦ absurd (omega (arith, e, head, l)) ], λ e. elim i.low [ inl l ↦ absurd (omega (arith, e, head, l)) | inr l ↦ absurd (omega (arith, e, head, l)) ])

no_own : (w : Text) → IsNetName w → (k : ℕ) → (w ≡ g_of k) ⊎ (w ≡ f_of k) → ⊥
no_own w n k (inl e) = (net_head w n).0 (ap (λ (v : Text). get_or v 0 0) e)
no_own w n k (inr e) = (net_head w n).1 (ap (λ (v : Text). get_or v 0 0) e)

-- the names of nets and instances stand once
pub all_once : (nets all : List Text) (size : ℕ) (words : List ℕ) → AreNets nets → size ≤ 20000 → Once (nets ++ filter_map instance_name (instances_in all size words (range_with_len 0 size)))
all_once nets all size words n few word =
    let owns : List Text = filter_map instance_name (instances_in all size words (range_with_len 0 size)) in
    let is = ap (times word) (own-are all size words size 0) in
    let a = n.once word in
    let b = own_once size 0 word (omega (arith, few)) in
    elim (none_or_some (times word nets)) [
      | inl none ↦ omega (arith, none, b, is, times-append word nets owns)
      | inr some ↦ elim (none_or_some (times word (own_words 0 size))) [
        | inl none ↦ omega (arith, none, a, is, times-append word nets owns)
        | inr own ↦ (
            let at = times-where nets word some in
            let o = own_or size 0 word own in
            absurd (no_own word (n.each at.0 word at.1) o.0 o.1))
      ]
    ]

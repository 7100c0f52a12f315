-- The bits of numbers, where one bit more is given or the last one is taken away.
use Rattle.std.proofs.Common.{ℕ, zero, suc, ◌-◌, ◌≡◌, ◌<◌, ◌≤◌, ◌==◌, ◌&&◌, inl, inr, Bool, true, false, List, [], ◌∷◌, ◌++◌, length, get_or, drop, map, Option, None, Some, refl, sym, subst, ap, arith, ◌∙◌, true≢false, length-drop}
use Rattle.std.specs.Prelude.{if◌then◌else◌, nat_le}
use Rattle.std.proofs.lemmas.Bool.{eqb-true}
use Rattle.std.proofs.lemmas.Bool.Decides.{leb_tells}
use Rattle.std.proofs.lemmas.List.{drop_all, length_push}
use Rattle.dft_base.specs.declared.tri.Tri.{Tri}
use Rattle.dft_base.specs.declared.tri.Tri.TheVariants.{Unknown}
use Rattle.dft_base.specs.Tri.{known}
use Rattle.dft_netlist.specs.declared.ids.NetId.{NetId}
use Rattle.dft_netlist.specs.declared.ids.InstanceId.{InstanceId}
use Rattle.dft_netlist.specs.Orders.{AreOnce, Has, numbers_of}
use Rattle.dft_expect.specs.Loaded.{bit_of_cell, or_unknown}
use Rattle.dft_seek.specs.Assigned.{bit_of_net, is_at}

-- the bit of a number, of two for one the first
abbrev pub bit_in : List ℕ → List Bool → (k : ℕ) → Option Bool
bit_in [] bits k = None
bit_in (x ∷ xs) [] k = None
bit_in (x ∷ xs) (bit ∷ bits) k = if x == k then Some bit else bit_in xs bits k

cell_in : (cells : List InstanceId) (bits : List Bool) (c : ℕ) → bit_of_cell cells bits c ≡ bit_in (map (λ cell. cell.0) cells) bits c
cell_in [] bits c = refl
cell_in (x ∷ cells) [] c = refl
cell_in (x ∷ cells) (bit ∷ bits) c = ap (λ (o : Option Bool). if x.0 == c then Some bit else o) (cell_in cells bits c)

net_in : (ports : List NetId) (bits : List Bool) (net : ℕ) → bit_of_net ports bits net ≡ bit_in (numbers_of ports) bits net
net_in [] bits net = refl
net_in (x ∷ ports) [] net = refl
net_in (x ∷ ports) (bit ∷ bits) net = ap (λ (o : Option Bool). if x.0 == net then Some bit else o) (net_in ports bits net)

none_in : (xs : List ℕ) (k : ℕ) → bit_in xs [] k ≡ None
none_in [] k = refl
none_in (x ∷ xs) k = refl

has_at : (xs : List ℕ) (place k : ℕ) → is_at xs place k ≡ true → Has xs k
has_at [] place k is = absurd (true≢false (sym is))
has_at (x ∷ xs) zero k is = inl (sym (eqb-true x k is))
has_at (x ∷ xs) (suc place) k is = inr (has_at xs place k is)

-- where no number stands twice, one that stands behind the bits has none of them
before : (xs : List ℕ) (bits : List Bool) (k : ℕ) → AreOnce xs → is_at xs (length bits) k ≡ true → bit_in xs bits k ≡ None
before [] bits k once is = refl
before (x ∷ xs) [] k once is = refl
before (x ∷ xs) (bit ∷ bits) k once is = by (before xs bits k once.1 is) (x == k) refl
  where
    by : bit_in xs bits k ≡ None → (b : Bool) → (x == k) ≡ b → (if b then Some bit else bit_in xs bits k) ≡ None
    by none true e = absurd (once.0 (subst (Has xs) (sym (eqb-true x k e)) (has_at xs (length bits) k is)))
    by none false e = none

pushed : (xs : List ℕ) (bits : List Bool) (bit : Bool) (k : ℕ) → AreOnce xs → bit_in xs (bits ++ bit ∷ []) k ≡ (if is_at xs (length bits) k then Some bit else bit_in xs bits k)
pushed [] bits bit k once = refl
pushed (x ∷ xs) [] bit k once = ap (λ (o : Option Bool). if x == k then Some bit else o) (none_in xs k)
pushed (x ∷ xs) (b ∷ bits) bit k once =
    ap (λ (o : Option Bool). if x == k then Some b else o) (pushed xs bits bit k once.1) ∙ by (x == k) (is_at xs (length bits) k) refl refl
  where
    by : (s t : Bool) → (x == k) ≡ s → is_at xs (length bits) k ≡ t → (if s then Some b else (if t then Some bit else bit_in xs bits k)) ≡ (if t then Some bit else (if s then Some b else bit_in xs bits k))
    by true true e is = absurd (once.0 (subst (Has xs) (sym (eqb-true x k e)) (has_at xs (length bits) k is)))
    by true false e is = refl
    by false true e is = refl
    by false false e is = refl

-- the value of a number with one bit more
grown : (xs : List ℕ) (bits : List Bool) (bit : Bool) (k : ℕ) → AreOnce xs → (if is_at xs (length bits) k then known bit else or_unknown (bit_in xs bits k)) ≡ or_unknown (bit_in xs (bits ++ bit ∷ []) k)
grown xs bits bit k once = by (is_at xs (length bits) k) ∙ sym (ap or_unknown (pushed xs bits bit k once))
  where
    by : (b : Bool) → (if b then known bit else or_unknown (bit_in xs bits k)) ≡ or_unknown (if b then Some bit else bit_in xs bits k)
    by true = refl
    by false = refl

-- and with the last bit taken away
shrunk : (xs : List ℕ) (bits : List Bool) (bit : Bool) (k : ℕ) → AreOnce xs → (if is_at xs (length bits) k then Unknown else or_unknown (bit_in xs (bits ++ bit ∷ []) k)) ≡ or_unknown (bit_in xs bits k)
shrunk xs bits bit k once = by (is_at xs (length bits) k) refl
  where
    by : (b : Bool) → is_at xs (length bits) k ≡ b → (if b then Unknown else or_unknown (bit_in xs (bits ++ bit ∷ []) k)) ≡ or_unknown (bit_in xs bits k)
    by true is = sym (ap or_unknown (before xs bits k once is))
    by false is = ap or_unknown (pushed xs bits bit k once ∙ ap (λ (b : Bool). if b then Some bit else bit_in xs bits k) is)

-- ---- cells

pub cell_grown : (cells : List InstanceId) (bits : List Bool) (bit : Bool) (c : ℕ) → AreOnce (map (λ cell. cell.0) cells) →
    (if is_at (map (λ cell. cell.0) cells) (length bits) c then known bit else or_unknown (bit_of_cell cells bits c)) ≡ or_unknown (bit_of_cell cells (bits ++ bit ∷ []) c)
cell_grown cells bits bit c once =
    let xs : List ℕ = map (λ (cell : InstanceId). cell.0) cells in
    ap (λ (o : Option Bool). if is_at xs (length bits) c then known bit else or_unknown o) (cell_in cells bits c) ∙ grown xs bits bit c once ∙ sym (ap or_unknown (cell_in cells (bits ++ bit ∷ []) c))

pub cell_shrunk : (cells : List InstanceId) (bits : List Bool) (bit : Bool) (c : ℕ) → AreOnce (map (λ cell. cell.0) cells) →
    (if is_at (map (λ cell. cell.0) cells) (length bits) c then Unknown else or_unknown (bit_of_cell cells (bits ++ bit ∷ []) c)) ≡ or_unknown (bit_of_cell cells bits c)
cell_shrunk cells bits bit c once =
    let xs : List ℕ = map (λ (cell : InstanceId). cell.0) cells in
    ap (λ (o : Option Bool). if is_at xs (length bits) c then Unknown else or_unknown o) (cell_in cells (bits ++ bit ∷ []) c) ∙ shrunk xs bits bit c once ∙ sym (ap or_unknown (cell_in cells bits c))

-- ---- ports, behind so many cells

drop_push : (bits : List Bool) (bit : Bool) (n : ℕ) → n ≤ length bits → drop n (bits ++ bit ∷ []) ≡ drop n bits ++ bit ∷ []
drop_push bits bit zero less = refl
drop_push [] bit (suc n) less = absurd (let f : ⊥ = omega (arith, less) in f)
drop_push (b ∷ bits) bit (suc n) less = drop_push bits bit n (omega (arith, less))

-- a value of ports that goes on from the bits of ports, or stays where the next bit is that of a cell
behind : (xs : List ℕ) (n : ℕ) (bits : List Bool) (k : ℕ) (t : Tri) (old new : List Bool) → ((n ≤ length bits) → (if is_at xs (length (drop n bits)) k then t else or_unknown (bit_in xs (drop n old) k)) ≡ or_unknown (bit_in xs (drop n new) k)) →
    (length bits < n → drop n old ≡ drop n new) → (if nat_le n (length bits) && is_at xs (length bits - n) k then t else or_unknown (bit_in xs (drop n old) k)) ≡ or_unknown (bit_in xs (drop n new) k)
behind xs n bits k t old new within out = elim (leb_tells n (length bits)) [
  | inl less ↦ ap (λ (b : Bool). if b && is_at xs (length bits - n) k then t else or_unknown (bit_in xs (drop n old) k)) less.0
      ∙ ap (λ (j : ℕ). if is_at xs j k then t else or_unknown (bit_in xs (drop n old) k)) (sym (length-drop n bits)) ∙ within less.1
  | inr past ↦ ap (λ (b : Bool). if b && is_at xs (length bits - n) k then t else or_unknown (bit_in xs (drop n old) k)) past.0 ∙ ap (λ (l : List Bool). or_unknown (bit_in xs l k)) (out past.1)
]

pub port_grown : (ports : List NetId) (n : ℕ) (bits : List Bool) (bit : Bool) (net : ℕ) → AreOnce (numbers_of ports) →
    (if nat_le n (length bits) && is_at (numbers_of ports) (length bits - n) net then known bit else or_unknown (bit_of_net ports (drop n bits) net)) ≡ or_unknown (bit_of_net ports (drop n (bits ++ bit ∷ [])) net)
port_grown ports n bits bit net once =
    let xs : List ℕ = numbers_of ports in
    let long = length_push bits bit in
    ap (λ (o : Option Bool). if nat_le n (length bits) && is_at xs (length bits - n) net then known bit else or_unknown o) (net_in ports (drop n bits) net)
    ∙ behind xs n bits net (known bit) bits (bits ++ bit ∷ []) (λ less. grown xs (drop n bits) bit net once ∙ ap (λ (l : List Bool). or_unknown (bit_in xs l net)) (sym (drop_push bits bit n less)))
    (λ past. drop_all n bits (omega (arith, past)) ∙ sym (drop_all n (bits ++ bit ∷ []) (omega (arith, past, long))))
    ∙ sym (ap or_unknown (net_in ports (drop n (bits ++ bit ∷ [])) net))

pub port_shrunk : (ports : List NetId) (n : ℕ) (bits : List Bool) (bit : Bool) (net : ℕ) → AreOnce (numbers_of ports) →
    (if nat_le n (length bits) && is_at (numbers_of ports) (length bits - n) net then Unknown else or_unknown (bit_of_net ports (drop n (bits ++ bit ∷ [])) net)) ≡ or_unknown (bit_of_net ports (drop n bits) net)
port_shrunk ports n bits bit net once =
    let xs : List ℕ = numbers_of ports in
    let long = length_push bits bit in
    ap (λ (o : Option Bool). if nat_le n (length bits) && is_at xs (length bits - n) net then Unknown else or_unknown o) (net_in ports (drop n (bits ++ bit ∷ [])) net)
    ∙ behind xs n bits net Unknown (bits ++ bit ∷ []) bits
    (λ less. ap (λ (l : List Bool). if is_at xs (length (drop n bits)) net then Unknown else or_unknown (bit_in xs l net)) (drop_push bits bit n less) ∙ shrunk xs (drop n bits) bit net once)
    (λ past. drop_all n (bits ++ bit ∷ []) (omega (arith, past, long)) ∙ sym (drop_all n bits (omega (arith, past))))
    ∙ sym (ap or_unknown (net_in ports (drop n bits) net))

-- ---- what stands at a place

pub at_here : {X : Type 0} (number : X → ℕ) (xs : List X) (place : ℕ) (x d : X) (k : ℕ) → place < length xs → x ≡ get_or xs place d → is_at (map number xs) place k ≡ (number x == k)
at_here number [] place x d k less is = absurd (let f : ⊥ = omega (arith, less) in f)
at_here number (y ∷ xs) zero x d k less is = ap (λ z. number z == k) (sym is)
at_here number (y ∷ xs) (suc place) x d k less is = at_here number xs place x d k (omega (arith, less)) is

pub at_past : (xs : List ℕ) (place k : ℕ) → length xs ≤ place → is_at xs place k ≡ false
at_past [] place k past = refl
at_past (x ∷ xs) zero k past = absurd (let f : ⊥ = omega (arith, past) in f)
at_past (x ∷ xs) (suc place) k past = at_past xs place k (omega (arith, past))

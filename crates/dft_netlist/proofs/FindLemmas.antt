-- What the table finds is the net, or the instance, with the name.
use Rattle.std.proofs.Common.{◌≡◌, ℕ, zero, suc, ◌+◌, Bool, true, false, cond, List, [], ◌∷◌, Option, None, Some, refl, sym, ◌∙◌, ap, subst, arith, true≢false, slice_get}
use Rattle.std.specs.Option.{option_and_then}
use Rattle.std.specs.Str.{bytes_eq}
use Rattle.dft_netlist.specs.declared.ids.NetId.{NetId}
use Rattle.dft_netlist.specs.declared.ids.InstanceId.{InstanceId}
use Rattle.dft_netlist.specs.declared.instance.Instance.{Instance}
use Rattle.dft_netlist.specs.declared.named.Named.{Named}
use Rattle.dft_netlist.specs.declared.named.Named.TheVariants.{Net, Vector, Instance as AnInstance}
use Rattle.dft_netlist.specs.Netlist.{Netlist}
use Rattle.dft_netlist.specs.Names.{Names, find_net, find_net_from, find_instance, find_instance_from, has_this_name, instance_name}
use Rattle.dft_netlist.specs.NamedParts.{net_in, instance_in}
use Rattle.dft_netlist.specs.NameTables.{Entry, look_up, Knows}
use Rattle.dft_base.specs.Lexing.{Text}
use Rattle.dft_base.proofs.TextLemmas.{same_text, bytes_eq-self}

-- ---- nets

abbrev pub IsAt : (from : ℕ) → List Text → Text → NetId → Type 0
IsAt from nets q k = (j : ℕ) × (k.0 ≡ from + j) × (slice_get nets j ≡ Some q)

first_or : (t : Bool) (from : ℕ) (x : Text) (nets : List Text) (q : Text) (k : NetId) → bytes_eq x q ≡ t → (find_net_from (suc from) nets q ≡ Some k → IsAt (suc from) nets q k) → cond t (Some (record { 0 = from })) (find_net_from (suc from) nets q) ≡ Some k → IsAt from (x ∷ nets) q k
first_or true from x nets q k is rest h = let e : record { 0 = from } ≡ k = cc in (0, sym (ap (λ (i : NetId). i.0) e) ∙ omega arith, ap Some (same_text x q is))
first_or false from x nets q k is rest h = let r = rest h in (suc r.0, r.1 ∙ omega arith, r.2)

pub found_at : (from : ℕ) (nets : List Text) (q : Text) (k : NetId) → find_net_from from nets q ≡ Some k → IsAt from nets q k
found_at from [] q k h = absurd (let f : ⊥ = cc in f)
found_at from (x ∷ nets) q k h = first_or (bytes_eq x q) from x nets q k refl (found_at (suc from) nets q k) h

not_first : (t : Bool) (k : NetId) (r : Option NetId) → cond t (Some k) r ≡ None → (t ≡ false) × (r ≡ None)
not_first true k r h = absurd (let f : ⊥ = cc in f)
not_first false k r h = (refl, h)

pub not_found : (from : ℕ) (nets : List Text) (q : Text) → find_net_from from nets q ≡ None → (j : ℕ) → slice_get nets j ≡ Some q → ⊥
not_found from [] q h j at = cc
not_found from (x ∷ nets) q h zero at =
    let e : x ≡ q = cc in
    let other = not_first (bytes_eq x q) (record { 0 = from }) (find_net_from (suc from) nets q) h in
    true≢false (sym (bytes_eq-self q) ∙ ap (λ y. bytes_eq y q) (sym e) ∙ other.0)
not_found from (x ∷ nets) q h (suc j) at = not_found (suc from) nets q (not_first (bytes_eq x q) (record { 0 = from }) (find_net_from (suc from) nets q) h).1 j at

names_net : (n : Netlist) (q : Text) (k : NetId) → find_net n q ≡ Some k → Names n q (Net k)
names_net n q k h = let r = found_at 0 n.nets q k h in let e : r.0 ≡ k.0 = sym (r.1 ∙ omega arith) in subst (λ j. slice_get n.nets j ≡ Some q) e r.2

missed_net : (n : Netlist) (q : Text) (r : Option Named) → ((a : Named) → r ≡ Some a → Names n q a) → find_net n q ≡ None → net_in r ≡ None
missed_net n q None says h = refl
missed_net n q (Some (Net k)) says h = absurd (not_found 0 n.nets q h k.0 (says (Net k) refl))
missed_net n q (Some (Vector p)) says h = refl
missed_net n q (Some (AnInstance i)) says h = refl

net_cases : (es : List Entry) (n : Netlist) (q : Text) (r : Option Named) (o : Option NetId) → Knows es n → look_up es q ≡ r → find_net n q ≡ o → net_in r ≡ find_net n q
net_cases es n q r None k looked h = missed_net n q r (λ a e. k.says q a (looked ∙ e)) h ∙ sym h
net_cases es n q r (Some i) k looked h = ap net_in (sym looked ∙ k.knows q (Net i) (names_net n q i h)) ∙ sym h

pub net_found : (es : List Entry) (n : Netlist) (q : Text) (r : Option Named) → Knows es n → look_up es q ≡ r → net_in r ≡ find_net n q
net_found es n q r k looked = net_cases es n q r (find_net n q) k looked refl

-- ---- instances

abbrev pub IsInstanceAt : (from : ℕ) → List Instance → Text → InstanceId → Type 0
IsInstanceAt from instances q k = (j : ℕ) × (k.0 ≡ from + j) × (option_and_then instance_name (slice_get instances j) ≡ Some q)

pub this_name : (name : Option Text) (q : Text) → has_this_name name q ≡ true → name ≡ Some q
this_name None q h = absurd (true≢false (sym h))
this_name (Some x) q h = ap Some (same_text x q h)

pub is_this_name : (name : Option Text) (q : Text) → name ≡ Some q → has_this_name name q ≡ true
is_this_name None q h = absurd (let f : ⊥ = cc in f)
is_this_name (Some x) q h = let e : x ≡ q = cc in rw e (bytes_eq-self q)

pub first_instance_or : (t : Bool) (from : ℕ) (x : Instance) (rest : List Instance) (q : Text) (k : InstanceId) → has_this_name x.name q ≡ t → (find_instance_from (suc from) rest q ≡ Some k → IsInstanceAt (suc from) rest q k) → cond t (Some (record { 0 = from })) (find_instance_from (suc from) rest q) ≡ Some k → IsInstanceAt from (x ∷ rest) q k
first_instance_or true from x rest q k is more h = let e : record { 0 = from } ≡ k = cc in (0, sym (ap (λ (i : InstanceId). i.0) e) ∙ omega arith, this_name x.name q is)
first_instance_or false from x rest q k is more h = let r = more h in (suc r.0, r.1 ∙ omega arith, r.2)

pub instance_at : (from : ℕ) (instances : List Instance) (q : Text) (k : InstanceId) → find_instance_from from instances q ≡ Some k → IsInstanceAt from instances q k
instance_at from [] q k h = absurd (let f : ⊥ = cc in f)
instance_at from (x ∷ rest) q k h = first_instance_or (has_this_name x.name q) from x rest q k refl (instance_at (suc from) rest q k) h

pub not_first_instance : (t : Bool) (k : InstanceId) (r : Option InstanceId) → cond t (Some k) r ≡ None → (t ≡ false) × (r ≡ None)
not_first_instance true k r h = absurd (let f : ⊥ = cc in f)
not_first_instance false k r h = (refl, h)

no_instance : (from : ℕ) (instances : List Instance) (q : Text) → find_instance_from from instances q ≡ None → (j : ℕ) → option_and_then instance_name (slice_get instances j) ≡ Some q → ⊥
no_instance from [] q h j at = cc
no_instance from (x ∷ rest) q h zero at =
    let other = not_first_instance (has_this_name x.name q) (record { 0 = from }) (find_instance_from (suc from) rest q) h in
    true≢false (sym (is_this_name x.name q at) ∙ other.0)
no_instance from (x ∷ rest) q h (suc j) at = no_instance (suc from) rest q (not_first_instance (has_this_name x.name q) (record { 0 = from }) (find_instance_from (suc from) rest q) h).1 j at

names_instance : (n : Netlist) (q : Text) (k : InstanceId) → find_instance n q ≡ Some k → Names n q (AnInstance k)
names_instance n q k h = let r = instance_at 0 n.instances q k h in let e : r.0 ≡ k.0 = sym (r.1 ∙ omega arith) in subst (λ j. option_and_then instance_name (slice_get n.instances j) ≡ Some q) e r.2

missed_instance : (n : Netlist) (q : Text) (r : Option Named) → ((a : Named) → r ≡ Some a → Names n q a) → find_instance n q ≡ None → instance_in r ≡ None
missed_instance n q None says h = refl
missed_instance n q (Some (Net k)) says h = refl
missed_instance n q (Some (Vector p)) says h = refl
missed_instance n q (Some (AnInstance i)) says h = absurd (no_instance 0 n.instances q h i.0 (says (AnInstance i) refl))

instance_cases : (es : List Entry) (n : Netlist) (q : Text) (r : Option Named) (o : Option InstanceId) → Knows es n → look_up es q ≡ r → find_instance n q ≡ o → instance_in r ≡ find_instance n q
instance_cases es n q r None k looked h = missed_instance n q r (λ a e. k.says q a (looked ∙ e)) h ∙ sym h
instance_cases es n q r (Some i) k looked h = ap instance_in (sym looked ∙ k.knows q (AnInstance i) (names_instance n q i h)) ∙ sym h

pub instance_found : (es : List Entry) (n : Netlist) (q : Text) (r : Option Named) → Knows es n → look_up es q ≡ r → instance_in r ≡ find_instance n q
instance_found es n q r k looked = instance_cases es n q r (find_instance n q) k looked refl

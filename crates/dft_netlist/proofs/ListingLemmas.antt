-- Lists of numbers by what is in them, and what is found by name.
use Rattle.dft_netlist.specs.declared.instance.Signal.TheVariants as signal
use Rattle.std.specs.List.{AllByRecursion, range_with_len}
use Rattle.std.specs.Prelude.{if◌then◌else◌}
use Rattle.std.proofs.Common.{Bool, List, None, Some, [], add-one, ap, arith, drop, drop-cons, false, filter, get_or, inl, inr, length, option_and_then, refl, slice_get, subst, suc, sym, true, zero, ◌+◌, ◌<◌, ◌∙◌, ◌∷◌, ◌≡◌, ◌≢◌, ◌≤◌, ◌⊎◌, Option, ℕ}
use Rattle.std.proofs.lemmas.Option.{none-some}
use Rattle.dft_base.specs.Lexing.{Text}
use Rattle.dft_netlist.specs.declared.named.Named.TheVariants.{Instance as AnInstance}
use Rattle.dft_netlist.specs.Orders.{Has}
use Rattle.dft_netlist.specs.declared.instance.Instance.{Instance}
use Rattle.dft_netlist.specs.declared.ids.InstanceId.{InstanceId}
use Rattle.dft_netlist.specs.Sound.{IsLive, IsNetlist}
use Rattle.dft_netlist.specs.declared.instance.Signal.{Signal}
use Rattle.dft_netlist.specs.Names.{find_instance_from, has_this_name, instance_name, find_instance}
use Rattle.dft_netlist.specs.Netlist.{Netlist}
use Rattle.dft_netlist.proofs.FindLemmas.{is_this_name, not_first_instance, instance_at}

pub has_item : (xs : List ℕ) (j : ℕ) (d : ℕ) → j < length xs → Has xs (get_or xs j d)
has_item xs j d less = at xs j less where
  at : (ys : List ℕ) (i : ℕ) → i < length ys → Has ys (get_or ys i d)
  at [] i h = absurd (omega arith)
  at (y ∷ ys) zero h = inl refl
  at (y ∷ ys) (suc i) h = inr (at ys i (omega arith))

pub never_missed : (from : ℕ) (instances : List Instance) (name : Text) (j : ℕ) → option_and_then instance_name (slice_get instances j) ≡ Some name → find_instance_from from instances name ≡ None → ⊥
never_missed from [] name j has none = none-some name has
never_missed from (x ∷ rest) name zero has none =
    let f : true ≡ false = sym (is_this_name x.name name has) ∙ (not_first_instance (has_this_name x.name name) (record { 0 = from }) (find_instance_from (suc from) rest name) none).0 in cc
never_missed from (x ∷ rest) name (suc j) has none = never_missed (suc from) rest name j has (not_first_instance (has_this_name x.name name) (record { 0 = from }) (find_instance_from (suc from) rest name) none).1

pub one_instance : (a b : InstanceId) → AnInstance a ≡ AnInstance b → a ≡ b
one_instance a b same = cc

-- the numbers from a place on
pub has_front : (xs : List ℕ) (j d k : ℕ) → j < length xs → Has (drop j xs) k → (k ≡ get_or xs j d) ⊎ Has (drop (j + 1) xs) k
has_front xs j d k less has = (let P : List ℕ → Type 0 = λ l. Has l k in rw (add-one) (subst P (drop-cons xs j d less) has))

pub all_other : (net : ℕ) (xs : List ℕ) → (Has xs net → ⊥) → AllByRecursion (λ m. m ≢ net) xs
all_other net [] none = tt
all_other net (x ∷ xs) none = (λ e. none (inl (sym e)), all_other net xs (λ h. none (inr h)))

pub has_kept : (test : ℕ → Bool) (t : Bool) (x : ℕ) (xs : List ℕ) (s : ℕ) → test x ≡ t → (Has (filter test xs) s → Has xs s × (test s ≡ true)) → Has (if t then x ∷ filter test xs else filter test xs) s → Has (x ∷ xs) s × (test s ≡ true)
has_kept test true x xs s is later has = elim has [
  | inl here ↦ (inl here, ap test here ∙ is)
  | inr there ↦ (let r = later there in (inr r.0, r.1))
]
has_kept test false x xs s is later has = (let r = later has in (inr r.0, r.1))

pub range_below : (a n s : ℕ) → Has (range_with_len a n) s → s < a + n
range_below a zero s has = absurd has
range_below a (suc n) s has = elim has [ inl here ↦ omega arith | inr there ↦ (let r = range_below (a + 1) n s there in omega arith) ]

pub live_more : (count nets : ℕ) (s : Signal) → count ≤ nets → IsLive count s → IsLive nets s
live_more count nets (signal.Net net) less live = omega arith
live_more count nets (signal.Constant bit) less live = tt
live_more count nets signal.Unconnected less live = tt

pub all_from : (P : ℕ → Type 0) (xs : List ℕ) → ((r : ℕ) → Has xs r → P r) → AllByRecursion P xs
all_from P [] h = tt
all_from P (x ∷ xs) h = (h x (inl refl), all_from P xs (λ r there. h r (inr there)))

pub found_by : (n : Netlist) (name : Text) (cell : InstanceId) (o : Option InstanceId) → IsNetlist n → find_instance n name ≡ o → option_and_then instance_name (slice_get n.instances cell.0) ≡ Some name → find_instance n name ≡ Some cell
found_by n name cell None sound is named = absurd (never_missed 0 n.instances name cell.0 named is)
found_by n name cell (Some other) sound is named =
    let r = instance_at 0 n.instances name other is in
    let at : other.0 ≡ r.0 = r.1 ∙ omega arith in
    let own : option_and_then instance_name (slice_get n.instances other.0) ≡ Some name = ap (λ (j : ℕ). option_and_then instance_name (slice_get n.instances j)) at ∙ r.2 in
    is ∙ ap Some (one_instance other cell (sound.names name (AnInstance other) (AnInstance cell) own named))

pub filter_has : (test : ℕ → Bool) (xs : List ℕ) (s : ℕ) → Has (filter test xs) s → Has xs s × (test s ≡ true)
filter_has test [] s has = absurd has
filter_has test (x ∷ xs) s has = has_kept test (test x) x xs s refl (filter_has test xs s) has

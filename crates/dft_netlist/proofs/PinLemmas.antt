-- The pins of an instance, one after another.
use Rattle.std.proofs.Common.{◌≡◌, ℕ, zero, suc, ◌+◌, ◌<◌, ◌≤◌, Bool, true, false, cond, List, [], ◌∷◌, length, get_or, drop, find, Option, None, Some, option_map, slice_get, refl, sym, ◌∙◌, ap, subst, arith, add-one}
use Rattle.std.specs.Prelude.{IfSome}
use Rattle.std.specs.Option.{option_map_or}
use Rattle.std.proofs.lemmas.List.{drop_more, drop_all}
use Rattle.std.proofs.lemmas.Option.{slice_get-get_or, slice_get_past}
use Rattle.dft_cells.specs.declared.kind.Role.{Role}
use Rattle.dft_cells.specs.declared.kind.Role.TheVariants.{Input, Output}
use Rattle.dft_netlist.specs.declared.instance.Signal.{Signal}
use Rattle.dft_netlist.specs.declared.instance.Instance.{Instance}
use Rattle.dft_netlist.specs.Netlist.{Netlist}
use Rattle.dft_netlist.specs.Connections.{joined_to, signal_of, same_role}
use Rattle.dft_netlist.specs.Drivers.{Connection, connections_from, connections_of, gate_roles, pins_at, pins_of, shape_of}
use Rattle.dft_netlist.specs.Sound.{IsLive, AreLive, IsNetlist}
use Rattle.dft_netlist.proofs.NotesLemmas.{drop_role}

-- ---- the roles of a gate's pins

pub input_role : (inputs pin : ℕ) → pin < inputs → Some Input ≡ slice_get (gate_roles inputs) pin
input_role zero pin less = absurd (omega arith)
input_role (suc inputs) zero less = refl
input_role (suc inputs) (suc pin) less = input_role inputs pin (omega arith)

pub output_role : (inputs pin : ℕ) → pin ≡ inputs → Some Output ≡ slice_get (gate_roles inputs) pin
output_role zero zero e = refl
output_role zero (suc pin) e = absurd (omega arith)
output_role (suc inputs) zero e = absurd (omega arith)
output_role (suc inputs) (suc pin) e = output_role inputs pin (omega arith)

pub no_role : (inputs pin : ℕ) → inputs < pin → None ≡ slice_get (gate_roles inputs) pin
no_role zero zero less = absurd (omega arith)
no_role zero (suc zero) less = refl
no_role zero (suc (suc pin)) less = refl
no_role (suc inputs) zero less = absurd (omega arith)
no_role (suc inputs) (suc pin) less = no_role inputs pin (omega arith)

-- ---- one pin more

pub pin_more : (roles : List Role) (pins : List Signal) (k : ℕ) (role : Role) (d : Signal) → k < length pins → slice_get roles k ≡ Some role →
    connections_from k (drop k roles) (drop k pins) ≡ record { role = role; pin = k; to = get_or pins k d } ∷ connections_from (k + 1) (drop (k + 1) roles) (drop (k + 1) pins)
pin_more roles pins k role d less at = rw (drop_role roles k role at, drop_more pins k d less, add-one) refl

pub pin_over : (roles : List Role) (pins : List Signal) (k : ℕ) → length pins ≤ k → connections_from k (drop k roles) (drop k pins) ≡ []
pin_over roles pins k past = rw (drop_all k pins past) (none k (drop k roles))
  where
    none : (i : ℕ) (rs : List Role) → connections_from i rs [] ≡ []
    none i [] = refl
    none i (r ∷ rs) = refl

pub role_there : (roles : List Role) (pins : List Signal) (k : ℕ) → k < length pins → length pins ≡ length roles → slice_get roles k ≡ Some (get_or roles k Input)
role_there roles pins k less same = slice_get-get_or roles k Input (omega arith)

-- ---- the first pin of a role

pub find_pin : (r : Role) (roles : List Role) (pins : List Signal) (k : ℕ) (d : Signal) → k < length pins → length pins ≡ length roles → option_map_or (same_role r) (slice_get roles k) false ≡ true →
    option_map (λ (c : Connection). c.to) (find (λ c. same_role r c.role) (connections_from k (drop k roles) (drop k pins))) ≡ Some (get_or pins k d)
find_pin r roles pins k d less same is =
    let at = role_there roles pins k less same in
    let yes : same_role r (get_or roles k Input) ≡ true = sym (ap (λ (o : Option Role). option_map_or (same_role r) o false) at) ∙ is in
    ap (λ (cs : List Connection). option_map (λ (c : Connection). c.to) (find (λ c. same_role r c.role) cs)) (pin_more roles pins k (get_or roles k Input) d less at)
    ∙ rw yes refl

pub find_pin_on : (r : Role) (roles : List Role) (pins : List Signal) (k : ℕ) (d : Signal) → k < length pins → length pins ≡ length roles → option_map_or (same_role r) (slice_get roles k) false ≡ false →
    find (λ c. same_role r c.role) (connections_from k (drop k roles) (drop k pins)) ≡ find (λ c. same_role r c.role) (connections_from (k + 1) (drop (k + 1) roles) (drop (k + 1) pins))
find_pin_on r roles pins k d less same is =
    let at = role_there roles pins k less same in
    let no : same_role r (get_or roles k Input) ≡ false = sym (ap (λ (o : Option Role). option_map_or (same_role r) o false) at) ∙ is in
    ap (λ (cs : List Connection). find (λ c. same_role r c.role) cs) (pin_more roles pins k (get_or roles k Input) d less at)
    ∙ rw no refl

pub find_pin_over : (r : Role) (roles : List Role) (pins : List Signal) (k : ℕ) → length pins ≤ k → find (λ c. same_role r c.role) (connections_from k (drop k roles) (drop k pins)) ≡ None
find_pin_over r roles pins k past = ap (λ (cs : List Connection). find (λ c. same_role r c.role) cs) (pin_over roles pins k past)

-- ---- the signal of a role is one of the pins'

live_by : (t : Bool) (count : ℕ) (c : Connection) (rest : Option Connection) (s : Signal) → IsLive count c.to → (option_map joined_to rest ≡ Some s → IsLive count s) → option_map joined_to (cond t (Some c) rest) ≡ Some s → IsLive count s
live_by true count c rest s here later e = let same : c.to ≡ s = cc in subst (IsLive count) same here
live_by false count c rest s here later e = later e

pub signal_live : (count pin : ℕ) (r : Role) (roles : List Role) (pins : List Signal) (s : Signal) → AreLive count pins → signal_of r (connections_from pin roles pins) ≡ Some s → IsLive count s
signal_live count pin r [] pins s live e = absurd (let f : ⊥ = cc in f)
signal_live count pin r (role ∷ roles) [] s live e = absurd (let f : ⊥ = cc in f)
signal_live count pin r (role ∷ roles) (p ∷ pins) s live e =
    live_by (same_role r role) count (record { role = role; pin = pin; to = p }) (find (λ x. same_role r x.role) (connections_from (suc pin) roles pins)) s (live 0 p refl)
    (signal_live count (suc pin) r roles pins s (λ k q at. live (suc k) q at)) e

pub signal_there : (n : Netlist) (i : ℕ) (x : Instance) (r : Role) → IsNetlist n → slice_get n.instances i ≡ Some x → (o : Option Signal) → o ≡ signal_of r (connections_of n.library x) → IfSome o (IsLive (length n.nets))
signal_there n i x r sound at None is = tt
signal_there n i x r sound at (Some s) is = signal_live (length n.nets) 0 r (shape_of n.library x.cell).roles x.pins s (sound.instances i x at).live (sym is)

pub no_signal : (n : Netlist) (i : ℕ) (r : Role) → length n.instances ≤ i → None ≡ signal_of r (pins_of n i)
no_signal n i r past = ap (λ (o : Option Instance). signal_of r (pins_at n.library o)) (sym (slice_get_past n.instances i past))

pub length-gate_roles : (n : ℕ) → length (gate_roles n) ≡ suc n
length-gate_roles zero = refl
length-gate_roles (suc n) = ap suc (length-gate_roles n)

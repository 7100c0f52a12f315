-- What is noted of drives, one after another.
use Rattle.std.proofs.Common.{◌≡◌, ℕ, zero, suc, ◌+◌, ◌<◌, ◌≤◌, List, [], ◌∷◌, ◌++◌, length, get_or, drop, Option, None, Some, refl, sym, ◌∙◌, ap, subst, slice_get, length-set, add-one}
use Rattle.std.proofs.lemmas.Option.{slice_get-get_or}
use Rattle.std.proofs.lemmas.List.{drop_more, drop_all}
use Rattle.dft_cells.specs.declared.kind.Role.{Role}
use Rattle.dft_cells.specs.declared.cell.Cell.{Cell}
use Rattle.dft_netlist.specs.declared.ids.NetId.{NetId}
use Rattle.dft_netlist.specs.declared.port.Port.{Port}
use Rattle.dft_netlist.specs.declared.instance.Signal.{Signal}
use Rattle.dft_netlist.specs.declared.instance.Instance.{Instance}
use Rattle.dft_netlist.specs.declared.instance.Join.{Join as AJoin}
use Rattle.dft_netlist.specs.declared.net_driver.NetDriver.{NetDriver}
use Rattle.dft_netlist.specs.declared.net_driver.NetDriver.TheVariants.{Input, Pin, Join, Nothing}
use Rattle.dft_netlist.specs.Notes.{Drive, Notes, noted, noted_at, all_noted, bit_drives, port_drives, ports_drives, pin_drives, pins_drives, instance_drives, instances_drives, joins_drives}

pub length-noted_at : (o : Option NetDriver) (s : Notes) (d : Drive) → length (noted_at o s d).found ≡ length s.found
length-noted_at None s d = refl
length-noted_at (Some Nothing) s d = length-set s.found d.0.0 d.1
length-noted_at (Some Input) s d = refl
length-noted_at (Some (Pin i p)) s d = refl
length-noted_at (Some (Join j)) s d = refl

pub length-noted : (s : Notes) (d : Drive) → length (noted s d).found ≡ length s.found
length-noted s d = length-noted_at (slice_get s.found d.0.0) s d

pub length-all_noted : (s : Notes) (ds : List Drive) → length (all_noted s ds).found ≡ length s.found
length-all_noted s [] = refl
length-all_noted s (d ∷ ds) = length-all_noted (noted s d) ds ∙ length-noted s d

pub all_noted-append : (s : Notes) (xs ys : List Drive) → all_noted s (xs ++ ys) ≡ all_noted (all_noted s xs) ys
all_noted-append s [] ys = refl
all_noted-append s (x ∷ xs) ys = all_noted-append (noted s x) xs ys

-- ---- loops: the rest gives what the whole gives

-- what is noted so far, and of so many nets
pub record Kept (start now : Notes) (rest whole : List Drive) : Type 0 where
  pub same : all_noted now rest ≡ all_noted start whole
  pub count : length now.found ≡ length start.found

pub kept_start : (s : Notes) (ds : List Drive) → Kept s s ds ds
kept_start s ds = record { same = refl; count = refl }

pub kept_end : (s t : Notes) (rest whole : List Drive) → Kept s t rest whole → rest ≡ [] → t ≡ all_noted s whole
kept_end s t rest whole k none = sym (ap (all_noted t) none) ∙ k.same

-- one step: the first drives are noted
pub kept_more : (s t u : Notes) (first rest rest' whole : List Drive) → Kept s t rest whole → rest ≡ first ++ rest' → u ≡ all_noted t first → Kept s u rest' whole
kept_more s t u first rest rest' whole k split is = record {
  same = ap (λ v. all_noted v rest') is ∙ sym (all_noted-append t first rest') ∙ sym (ap (all_noted t) split) ∙ k.same;
  count = ap (λ (v : Notes). length v.found) is ∙ length-all_noted t first ∙ k.count;
}

-- ---- the drives of the rest of a list

pub bits_more : (bits : List NetId) (i : ℕ) (d : NetId) → i < length bits → bit_drives (drop i bits) ≡ ((get_or bits i d, Input) ∷ []) ++ bit_drives (drop (i + 1) bits)
bits_more bits i d lt = ap bit_drives (drop_more bits i d lt)

pub bits_done : (bits : List NetId) (i : ℕ) → length bits ≤ i → bit_drives (drop i bits) ≡ []
bits_done bits i le = ap bit_drives (drop_all i bits le)

pub ports_more : (ports : List Port) (i : ℕ) (d : Port) → i < length ports → ports_drives (drop i ports) ≡ port_drives (get_or ports i d) ++ ports_drives (drop (i + 1) ports)
ports_more ports i d lt = ap ports_drives (drop_more ports i d lt)

pub ports_done : (ports : List Port) (i : ℕ) → length ports ≤ i → ports_drives (drop i ports) ≡ []
ports_done ports i le = ap ports_drives (drop_all i ports le)

pub joins_more : (joins : List AJoin) (i : ℕ) (d : AJoin) → i < length joins → joins_drives i (drop i joins) ≡ (((get_or joins i d).target, Join i) ∷ []) ++ joins_drives (i + 1) (drop (i + 1) joins)
joins_more joins i d lt = ap (joins_drives i) (drop_more joins i d lt) ∙ rw add-one refl

pub joins_done : (joins : List AJoin) (i : ℕ) → length joins ≤ i → joins_drives i (drop i joins) ≡ []
joins_done joins i le = ap (joins_drives i) (drop_all i joins le)

pub instances_more : (library : List Cell) (instances : List Instance) (i : ℕ) (d : Instance) → i < length instances → instances_drives library i (drop i instances) ≡ instance_drives library i (get_or instances i d) ++ instances_drives library (i + 1) (drop (i + 1) instances)
instances_more library instances i d lt = ap (instances_drives library i) (drop_more instances i d lt) ∙ rw add-one refl

pub instances_done : (library : List Cell) (instances : List Instance) (i : ℕ) → length instances ≤ i → instances_drives library i (drop i instances) ≡ []
instances_done library instances i le = ap (instances_drives library i) (drop_all i instances le)

-- a list from a place on
pub drop_role : (rs : List Role) (k : ℕ) (r : Role) → slice_get rs k ≡ Some r → drop k rs ≡ r ∷ drop (k + 1) rs
drop_role [] k r h = absurd (let f : ⊥ = cc in f)
drop_role (x ∷ rs) zero r h = let e : x ≡ r = cc in rw e refl
drop_role (x ∷ rs) (suc k) r h = drop_role rs k r h ∙ rw (add-one, add-one) refl

pub pins_more : (i : ℕ) (roles : List Role) (pins : List Signal) (p : ℕ) (role : Role) (d : Signal) → p < length pins → slice_get roles p ≡ Some role → pins_drives i p (drop p roles) (drop p pins) ≡ pin_drives i p role (get_or pins p d) ++ pins_drives i (p + 1) (drop (p + 1) roles) (drop (p + 1) pins)
pins_more i roles pins p role d lt at =
    let e : drop p roles ≡ role ∷ drop (p + 1) roles = drop_role roles p role at in
    rw (e, drop_more pins p d lt, add-one) refl

pub pins_done : (i : ℕ) (roles : List Role) (pins : List Signal) (p : ℕ) → length pins ≤ p → pins_drives i p (drop p roles) (drop p pins) ≡ []
pins_done i roles pins p le = rw (drop_all p pins le) (no_pins i p (drop p roles))
  where
    no_pins : (j q : ℕ) (rs : List Role) → pins_drives j q rs [] ≡ []
    no_pins j q [] = refl
    no_pins j q (r ∷ rs) = refl

-- the same where the element is at hand
pub ports_step : (ports : List Port) (i : ℕ) (p : Port) → i < length ports → p ≡ get_or ports i p → ports_drives (drop i ports) ≡ port_drives p ++ ports_drives (drop (i + 1) ports)
ports_step ports i p lt is = subst (λ q. ports_drives (drop i ports) ≡ port_drives q ++ ports_drives (drop (i + 1) ports)) (sym is) (ports_more ports i p lt)

pub instances_step : (library : List Cell) (instances : List Instance) (i : ℕ) (x : Instance) → i < length instances → x ≡ get_or instances i x → instances_drives library i (drop i instances) ≡ instance_drives library i x ++ instances_drives library (i + 1) (drop (i + 1) instances)
instances_step library instances i x lt is = subst (λ q. instances_drives library i (drop i instances) ≡ instance_drives library i q ++ instances_drives library (i + 1) (drop (i + 1) instances)) (sym is) (instances_more library instances i x lt)

-- the element at a place of a list
pub item_at : {X : Type 0} (xs : List X) (i : ℕ) (x : X) → i < length xs → x ≡ get_or xs i x → slice_get xs i ≡ Some x
item_at xs i x lt is = slice_get-get_or xs i x lt ∙ ap Some (sym is)

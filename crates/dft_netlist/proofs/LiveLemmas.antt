-- What drives a net of a sound netlist drives one that is there.
use Rattle.std.proofs.Common.{◌≡◌, ℕ, zero, suc, ◌+◌, ◌<◌, ◌≤◌, List, [], ◌∷◌, ◌++◌, length, None, Some, refl, sym, ◌∙◌, ap, subst, arith, slice_get, length-append, replicate, ◌⊎◌, inl, inr}
use Rattle.std.proofs.lemmas.Option.{slice_get_within}
use Rattle.dft_base.proofs.ListLemmas.{get_left, get_right}
use Rattle.dft_netlist.specs.declared.ids.NetId.{NetId}
use Rattle.dft_netlist.specs.declared.port.Port.{Port}
use Rattle.dft_netlist.specs.declared.net_driver.NetDriver.{NetDriver}
use Rattle.dft_netlist.specs.declared.net_driver.NetDriver.TheVariants.{Input, Pin, Join, Nothing}
use Rattle.dft_netlist.specs.Netlist.{Netlist}
use Rattle.dft_netlist.specs.Drivers.{Driven, Free, driver, all_driven}
use Rattle.dft_netlist.specs.Finding.{AreDrivers}
use Rattle.dft_netlist.specs.Names.{bit_names}
use Rattle.dft_netlist.specs.NetDrivers.{Drives, times_driven, driver_at, IsFirstMultiple}
use Rattle.dft_netlist.specs.NetNumbers.{nets_from}
use Rattle.dft_netlist.specs.Notes.{Drive, Notes, all_noted, all_drives, ports_drives, instances_drives, joins_drives}
use Rattle.dft_netlist.specs.Sound.{IsNetlist, bits_of, bit_names_of}
use Rattle.dft_netlist.proofs.NotesLemmas.{length-all_noted, all_noted-append}
use Rattle.dft_netlist.proofs.DriveLemmas.{AreEntries, all_entries, all_found, first_by}
use Rattle.dft_netlist.proofs.ClashLemmas.{IsBelow, AreLiveDrives, times_same, times_past, driver_same, first_drives, below_all, clash_all, clash_live}

-- ---- bits of ports

-- each of these ports has a bit for each of its names
abbrev pub AreWide : List Port → Type 0
AreWide ports = (place : ℕ) (port : Port) → slice_get ports place ≡ Some port → length port.bits ≡ length (bit_names port.name port.range)

pub length-bits : (ports : List Port) → AreWide ports → length (bit_names_of ports) ≡ length (bits_of ports)
length-bits [] wide = refl
length-bits (p ∷ ports) wide =
    let first = wide 0 p refl in
    let rest = length-bits ports (λ k q at. wide (suc k) q at) in
    omega (arith, length-append p.bits (bits_of ports), length-append (bit_names p.name p.range) (bit_names_of ports))

from_at : (from count k : ℕ) (net : NetId) → slice_get (nets_from from count) k ≡ Some net → (net.0 ≡ from + k) × (k < count)
from_at from zero k net h = absurd (let f : ⊥ = cc in f)
from_at from (suc count) zero net h = let e : record { 0 = from } ≡ net = cc in (sym (ap (λ (x : NetId). x.0) e) ∙ omega arith, omega arith)
from_at from (suc count) (suc k) net h = let r = from_at (suc from) count k net h in (r.0 ∙ omega arith, let lt = r.1 in omega arith)

bit_among : (ports : List Port) (place bit : ℕ) (port : Port) (net : NetId) → slice_get ports place ≡ Some port → slice_get port.bits bit ≡ Some net → (k : ℕ) × (slice_get (bits_of ports) k ≡ Some net)
bit_among [] place bit port net at joined = absurd (let f : ⊥ = cc in f)
bit_among (p ∷ ports) zero bit port net at joined =
    let e : p ≡ port = cc in
    (bit, get_left p.bits (bits_of ports) bit net (ap (λ (q : Port). slice_get q.bits bit) e ∙ joined))
bit_among (p ∷ ports) (suc place) bit port net at joined =
    let r = bit_among ports place bit port net at joined in
    (length p.bits + r.0, get_right p.bits (bits_of ports) r.0 net r.1)

pub bit_live : (n : Netlist) → IsNetlist n → (place bit : ℕ) (port : Port) (net : NetId) → slice_get n.ports place ≡ Some port → slice_get port.bits bit ≡ Some net → net.0 < length n.nets
bit_live n s place bit port net at joined =
    let among = bit_among n.ports place bit port net at joined in
    let number = from_at 0 (length (bits_of n.ports)) among.0 net (ap (λ (xs : List NetId). slice_get xs among.0) (sym s.numbered) ∙ among.1) in
    let whole : length n.nets ≡ length (bit_names_of n.ports ++ s.bits.rest) = ap length s.bits.same in
    let e = number.0 in
    let lt = number.1 in
    omega (arith, length-append (bit_names_of n.ports) s.bits.rest, length-bits n.ports s.widths)

-- ---- drives

pub drive_live : (n : Netlist) → IsNetlist n → (by : NetDriver) (net : ℕ) → (by ≡ Nothing → ⊥) → Drives n by net → net < length n.nets
drive_live n s Input net some d = bit_live n s d.place d.bit d.port (record { 0 = net }) d.at d.joined
drive_live n s (Pin i p) net some d = (s.instances i.0 d.instance d.at).live p _ d.joined
drive_live n s (Join j) net some d = let t = (s.joins j d.join d.at).target_live in let e = d.target in omega arith
drive_live n s Nothing net some d = absurd (some refl)

drives_live : (n : Netlist) → IsNetlist n → (ds : List Drive) (es : List Driven) → AreEntries n ds es → AreLiveDrives (length n.nets) ds
drives_live n s [] [] h = tt
drives_live n s [] (e ∷ es) h = absurd h
drives_live n s (d ∷ ds) [] h = absurd h
drives_live n s (d ∷ ds) (e ∷ es) h = (h.0.some, drive_live n s d.1 d.0.0 h.0.some h.0.drives, drives_live n s ds es h.1)

-- ---- what is noted of a whole netlist

abbrev pub no_notes : ℕ → Notes
no_notes count = record { found = replicate count Nothing; clash = None }

none_noted : (count net : ℕ) → net < count → slice_get (replicate count Nothing) net ≡ Some Nothing
none_noted zero net lt = absurd (omega arith)
none_noted (suc count) zero lt = refl
none_noted (suc count) (suc net) lt = none_noted count net (omega arith)

length_none : (count : ℕ) → length (replicate count Nothing) ≡ count
length_none zero = refl
length_none (suc count) = ap suc (length_none count)

abbrev pub notes_of : Netlist → Notes
notes_of n = all_noted (no_notes (length n.nets)) (all_drives n)

live_drives : (n : Netlist) → IsNetlist n → AreLiveDrives (length (no_notes (length n.nets)).found) (all_drives n)
live_drives n s = rw (length_none (length n.nets)) (drives_live n s (all_drives n) (all_driven n) (all_entries n))

pub few_below : (n : Netlist) → IsNetlist n → (net : ℕ) → net < length n.nets → IsBelow (notes_of n).clash net → times_driven n net ≤ 1
few_below n s net lt below =
    let b = below_all (no_notes (length n.nets)) (all_drives n) net Nothing (live_drives n s) (none_noted (length n.nets) net lt) below in
    let e = times_same n (all_drives n) (all_driven n) net (all_entries n) in
    let few = b.1 in
    omega arith

pub le_or_lt : (m k : ℕ) → (m ≤ k) ⊎ (k < m)
le_or_lt zero k = inl (omega arith)
le_or_lt (suc m) zero = inr (omega arith)
le_or_lt (suc m) (suc k) = elim (le_or_lt m k) [ inl le ↦ inl (omega arith) | inr lt ↦ inr (omega arith) ]

pub found_drivers : (n : Netlist) → IsNetlist n → (notes_of n).clash ≡ None → AreDrivers n (notes_of n).found
found_drivers n s none = record {
  single = single;
  covered = length-all_noted (no_notes (length n.nets)) (all_drives n) ∙ length_none (length n.nets);
  driven = λ net by at. driver_same n (all_drives n) (all_driven n) net (all_entries n) ∙ ap (driver_at n) (sym (first net by at));
  drives = λ net by at. subst (λ b. Drives n b net) (sym (first net by at)) (drives net);
}
  where
    within : (net : ℕ) (by : NetDriver) → slice_get (notes_of n).found net ≡ Some by → net < length n.nets
    within net by at =
        let lt = slice_get_within (notes_of n).found net by at in
        let e = length-all_noted (no_notes (length n.nets)) (all_drives n) ∙ length_none (length n.nets) in
        omega arith

    first : (net : ℕ) (by : NetDriver) → slice_get (notes_of n).found net ≡ Some by → by ≡ first_by (all_drives n) net
    first net by at =
        let e : Some by ≡ Some (first_by (all_drives n) net) = sym at ∙ all_found (no_notes (length n.nets)) (all_drives n) net Nothing (none_noted (length n.nets) net (within net by at)) in cc

    single : (net : ℕ) → times_driven n net ≤ 1
    single net = elim (le_or_lt (length n.nets) net) [
      | inl past ↦ (let z = times_past (all_drives n) (length n.nets) net (drives_live n s (all_drives n) (all_driven n) (all_entries n)) past in let e = times_same n (all_drives n) (all_driven n) net (all_entries n) in omega arith)
      | inr lt ↦ few_below n s net lt (subst (λ o. IsBelow o net) (sym none) tt)
    ]

    drives : (net : ℕ) → Drives n (first_by (all_drives n) net) net
    drives net = elim (first_drives n (all_drives n) (all_driven n) net (all_entries n)) [
      | inl none ↦ rw none.0 (sym (times_same n (all_drives n) (all_driven n) net (all_entries n)) ∙ none.1)
      | inr d ↦ d
    ]

-- a clash is the first net with two drivers
pub clash_first : (n : Netlist) → IsNetlist n → (k : NetId) → (notes_of n).clash ≡ Some k → (k.0 < length n.nets) × IsFirstMultiple n k.0
clash_first n s k is =
    let live : k.0 < length n.nets = elim (clash_live (no_notes (length n.nets)) (all_drives n) (length n.nets) k (drives_live n s (all_drives n) (all_driven n) (all_entries n)) is) [ inl was ↦ absurd (let f : ⊥ = cc in f) | inr lt ↦ lt ] in
    (live, record { twice = twice live; first = λ other lt. few_below n s other (omega arith) (subst (λ o. IsBelow o other) (sym is) lt) })
  where
    twice : k.0 < length n.nets → 2 ≤ times_driven n k.0
    twice live = elim (clash_all (no_notes (length n.nets)) (all_drives n) k Nothing (none_noted (length n.nets) k.0 live) is) [
      | inl was ↦ absurd (let f : ⊥ = cc in f)
      | inr two ↦ (let e = times_same n (all_drives n) (all_driven n) k.0 (all_entries n) in omega arith)
    ]

pub noted_count : (count : ℕ) → length (no_notes count).found ≡ count
noted_count count = length_none count

pub notes_are : (n : Netlist) (a b c d : Notes) → a ≡ no_notes (length n.nets) → b ≡ all_noted a (ports_drives n.ports) → c ≡ all_noted b (instances_drives n.library 0 n.instances) → d ≡ all_noted c (joins_drives 0 n.joins) → d ≡ notes_of n
notes_are n a b c d ea eb ec ed =
    let start = no_notes (length n.nets) in
    let ps = ports_drives n.ports in
    let is = instances_drives n.library 0 n.instances in
    let js = joins_drives 0 n.joins in
    ed ∙ ap (λ s. all_noted s js) (ec ∙ ap (λ s. all_noted s is) (eb ∙ ap (λ s. all_noted s ps) ea))
    ∙ sym (all_noted-append start ps (is ++ js) ∙ all_noted-append (all_noted start ps) is js)

-- ---- a net past the end has no driver

pub past_free : (n : Netlist) → IsNetlist n → (net : ℕ) → length n.nets ≤ net → driver n net ≡ Free
past_free n s net past = by (first_by (all_drives n) net) (driver_same n (all_drives n) (all_driven n) net (all_entries n)) (elim (first_drives n (all_drives n) (all_driven n) net (all_entries n)) [ inl none ↦ inl none.0 | inr d ↦ inr d ])
  where
    no : (b : NetDriver) → (b ≡ Nothing → ⊥) → (b ≡ Nothing) ⊎ Drives n b net → ⊥
    no b some h = elim h [ inl e ↦ some e | inr d ↦ (let lt = drive_live n s b net some d in let f : ⊥ = absurd (omega (arith, lt, past)) in f) ]

    by : (b : NetDriver) → driver n net ≡ driver_at n b → (b ≡ Nothing) ⊎ Drives n b net → driver n net ≡ Free
    by Nothing e h = e
    by Input e h = absurd (no Input (λ q. cc) h)
    by (Pin i p) e h = absurd (no (Pin i p) (λ q. cc) h)
    by (Join j) e h = absurd (no (Join j) (λ q. cc) h)

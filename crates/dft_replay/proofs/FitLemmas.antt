-- A signal is a bit of a port with its direction exactly where the net with its name is one of the first, those of the ports' bits, and has the direction.
use Rattle.std.proofs.Common.{ℕ, zero, suc, ◌+◌, ◌<◌, ◌≤◌, Bool, true, false, List, [], ◌∷◌, ◌++◌, ◌≡◌, inl, inr, Option, None, Some, length, map, drop, refl, sym, ap, ◌∙◌, subst, slice_get, get_or, arith, length-append, append_assoc, true≢false}
use Rattle.std.proofs.Math.Seq.{drop-cons}
use Rattle.std.specs.Prelude.{if◌then◌else◌}
use Rattle.std.specs.Str.{bytes_eq}
use Rattle.std.specs.List.{list_any}
use Rattle.std.proofs.lemmas.List.{length-map}
use Rattle.std.proofs.lemmas.Option.{slice_get_within, slice_get_past, slice_get-get_or}
use Rattle.std.proofs.lemmas.Bool.{and_parts, and_from, or_left, or_right, false_from_ne_true, or_cases}
use Rattle.dft_cells.specs.WellFormed.{has_name}
use Rattle.dft_netlist.specs.declared.ids.NetId.{NetId}
use Rattle.dft_base.specs.declared.dir.Dir.{Dir}
use Rattle.dft_base.specs.declared.dir.Dir.TheVariants.{Input, Output}
use Rattle.dft_netlist.specs.declared.port.Port.{Port}
use Rattle.dft_netlist.specs.declared.named.Named.TheVariants.{Net}
use Rattle.dft_netlist.specs.Netlist.{Netlist}
use Rattle.dft_netlist.specs.Names.{bit_names, find_net, find_net_from}
use Rattle.dft_netlist.specs.Sound.{IsNetlist, bit_names_of}
use Rattle.dft_base.specs.Lexing.{Text}
use Rattle.dft_base.proofs.ListLemmas.{get_left, get_right, get_there, at_either}
use Rattle.dft_base.proofs.TextLemmas.{same_text}
use Rattle.dft_netlist.proofs.NamesLemmas.{has_here, has_where}
use Rattle.dft_netlist.proofs.LiveLemmas.{AreWide}
use Rattle.dft_netlist.proofs.FindLemmas.{not_found}
use Rattle.dft_patterns.specs.declared.signal.StilSignal.{StilSignal}
use Rattle.dft_replay.specs.Fits.{same_dir, has_bit, is_port_bit}
use Rattle.dft_replay.specs.Vectors.{dirs_of}

-- ---- directions

pub same_dir_is : (a b : Dir) → same_dir a b ≡ true → a ≡ b
same_dir_is Input Input h = refl
same_dir_is Output Output h = refl
same_dir_is Input Output h = absurd cc
same_dir_is Output Input h = absurd cc

-- ---- the net with a name

record IsAt (from : ℕ) (nets : List Text) (q : Text) (k : ℕ) : Type 0 where
  pub place : ℕ
  pub number : k ≡ from + place
  pub here : slice_get nets place ≡ Some q

first_or : (t : Bool) (from : ℕ) (x : Text) (nets : List Text) (q : Text) (k : NetId) → bytes_eq x q ≡ t → (find_net_from (suc from) nets q ≡ Some k → IsAt (suc from) nets q k.0) → (if t then Some (record { 0 = from }) else find_net_from (suc from) nets q) ≡ Some k → IsAt from (x ∷ nets) q k.0
first_or true from x nets q k is rest h = let e : record { 0 = from } ≡ k = cc in record { place = 0; number = sym (ap (λ (i : NetId). i.0) e) ∙ omega arith; here = ap Some (same_text x q is) }
first_or false from x nets q k is rest h = let r = rest h in record { place = suc r.place; number = r.number ∙ omega arith; here = r.here }

found_at : (from : ℕ) (nets : List Text) (q : Text) (k : NetId) → find_net_from from nets q ≡ Some k → IsAt from nets q k.0
found_at from [] q k h = absurd (let f : ⊥ = cc in f)
found_at from (x ∷ nets) q k h = first_or (bytes_eq x q) from x nets q k refl (found_at (suc from) nets q k) h

pub not_first : (t : Bool) (k : NetId) (r : Option NetId) → (if t then Some k else r) ≡ None → (t ≡ false) × (r ≡ None)
not_first true k r h = absurd (let f : ⊥ = cc in f)
not_first false k r h = (refl, h)

-- the net that is found has the name
pub found_named : (n : Netlist) (q : Text) (k : NetId) → find_net n q ≡ Some k → slice_get n.nets k.0 ≡ Some q
found_named n q k h = let r = found_at 0 n.nets q k h in let e : r.place ≡ k.0 = sym (r.number ∙ omega arith) in subst (λ j. slice_get n.nets j ≡ Some q) e r.here

-- a net with the name is found
named_found : (n : Netlist) (q : Text) (k : ℕ) (o : Option NetId) → IsNetlist n → slice_get n.nets k ≡ Some q → find_net n q ≡ o → find_net n q ≡ Some (record { 0 = k })
named_found n q k None sound at h = absurd (not_found 0 n.nets q h k at)
named_found n q k (Some j) sound at h = (let e : Net j ≡ Net (record { 0 = k }) = sound.names q (Net j) (Net (record { 0 = k })) (found_named n q j h) at in let f : j ≡ record { 0 = k } = cc in h ∙ ap Some f)

-- ---- places of joined lists

-- each element is the same
same_at : {X Y : Type 0} (y : Y) (xs : List X) (k : ℕ) → k < length xs → slice_get (map (λ x. y) xs) k ≡ Some y
same_at y [] k h = absurd (omega arith)
same_at y (x ∷ xs) zero h = refl
same_at y (x ∷ xs) (suc k) h = same_at y xs k (omega arith)

same_from : {X Y : Type 0} (y z : Y) (xs : List X) (k : ℕ) → slice_get (map (λ x. y) xs) k ≡ Some z → y ≡ z
same_from y z [] k h = absurd (let f : ⊥ = cc in f)
same_from y z (x ∷ xs) zero h = cc
same_from y z (x ∷ xs) (suc k) h = same_from y z xs k h

-- ---- bits of ports

pub dir_same : (d : Dir) → same_dir d d ≡ true
dir_same Input = refl
dir_same Output = refl

-- the bit with a number has the name and the direction of the signal
pub bit_fits : (ports : List Port) (s : StilSignal) (k : ℕ) (d : Dir) → AreWide ports → slice_get (bit_names_of ports) k ≡ Some s.name → slice_get (dirs_of ports) k ≡ Some d → same_dir d s.dir ≡ true → list_any (has_bit s) ports ≡ true
bit_fits [] s k d wide named goes same = absurd cc
bit_fits (port ∷ ports) s k d wide named goes same =
    let names : List Text = bit_names port.name port.range in
    let dirs : List Dir = map (λ net. port.dir) port.bits in
    let w = wide 0 port refl in
    let m = length-map port.bits (λ (net : NetId). port.dir) in
    elim (at_either names (bit_names_of ports) k s.name named) [
      | inl here ↦ (
          let within = slice_get_within names k s.name here in
          elim (at_either dirs (dirs_of ports) k d goes) [
            | inl there ↦ or_left (has_bit s port) (list_any (has_bit s) ports)
                (and_from (same_dir port.dir s.dir) (has_name names s.name) (subst (λ (e : Dir). same_dir e s.dir ≡ true) (sym (same_from port.dir d port.bits k there)) same) (has_here names k s.name here))
            | inr behind ↦ (let e = behind.number in absurd (omega arith))
          ])
      | inr later ↦ (
          let number = later.number in
          elim (at_either dirs (dirs_of ports) k d goes) [
            | inl there ↦ (let within = slice_get_within dirs k d there in absurd (omega arith))
            | inr behind ↦ (
                let e = behind.number in
                let p : behind.place ≡ later.place = omega arith in
                or_right (has_bit s port) (list_any (has_bit s) ports)
                (bit_fits ports s later.place d (λ place q at. wide (suc place) q at) later.here (subst (λ (j : ℕ). slice_get (dirs_of ports) j ≡ Some d) p behind.here) same))
          ])
    ]

-- where a signal fits, some bit has its name and its direction
pub record FittingBit (ports : List Port) (s : StilSignal) : Type 0 where
  pub place : ℕ
  pub named : slice_get (bit_names_of ports) place ≡ Some s.name
  pub goes : slice_get (dirs_of ports) place ≡ Some s.dir

pub fitting_bit : (ports : List Port) (s : StilSignal) → AreWide ports → list_any (has_bit s) ports ≡ true → FittingBit ports s
fitting_bit [] s wide h = absurd cc
fitting_bit (port ∷ ports) s wide h =
    let names : List Text = bit_names port.name port.range in
    let dirs : List Dir = map (λ net. port.dir) port.bits in
    let w = wide 0 port refl in
    let m = length-map port.bits (λ (net : NetId). port.dir) in
    elim (or_cases (has_bit s port) (list_any (has_bit s) ports) h) [
      | inl here ↦ (
          let both = and_parts (same_dir port.dir s.dir) (has_name names s.name) here in
          let found = has_where names s.name both.1 in
          let within = slice_get_within names found.0 s.name found.1 in
          let less : found.0 < length port.bits = omega arith in
          record {
            place = found.0;
            named = get_left names (bit_names_of ports) found.0 s.name found.1;
            goes = get_left dirs (dirs_of ports) found.0 s.dir (same_at port.dir port.bits found.0 less ∙ ap Some (same_dir_is port.dir s.dir both.0));
          })
      | inr later ↦ (
          let r = fitting_bit ports s (λ place q at. wide (suc place) q at) later in
          record {
            place = length names + r.place;
            named = get_right names (bit_names_of ports) r.place s.name r.named;
            goes = (let e : length dirs + r.place ≡ length names + r.place = omega arith in subst (λ (j : ℕ). slice_get (dirs ++ dirs_of ports) j ≡ Some s.dir) e (get_right dirs (dirs_of ports) r.place s.dir r.goes));
          })
    ]

-- ---- designs

-- the name of a bit is that of its net
bit_named : (n : Netlist) (k : ℕ) (q : Text) → IsNetlist n → slice_get (bit_names_of n.ports) k ≡ Some q → slice_get n.nets k ≡ Some q
bit_named n k q sound at = sym (ap (λ (xs : List Text). slice_get xs k) (sym sound.bits.same)) ∙ get_left (bit_names_of n.ports) sound.bits.rest k q at

dirs_long : (ports : List Port) → AreWide ports → length (dirs_of ports) ≡ length (bit_names_of ports)
dirs_long [] wide = refl
dirs_long (port ∷ ports) wide =
    let w = wide 0 port refl in
    let m = length-map port.bits (λ (net : NetId). port.dir) in
    let rest = dirs_long ports (λ place q at. wide (suc place) q at) in
    omega (arith, length-append (map (λ (net : NetId). port.dir) port.bits) (dirs_of ports), length-append (bit_names port.name port.range) (bit_names_of ports))

pub net_fits : (n : Netlist) (s : StilSignal) (k : NetId) (d : Dir) → IsNetlist n → find_net n s.name ≡ Some k → slice_get (dirs_of n.ports) k.0 ≡ Some d → same_dir d s.dir ≡ true → is_port_bit n s ≡ true
net_fits n s k d sound found goes same =
    let within = slice_get_within (dirs_of n.ports) k.0 d goes in
    let long = dirs_long n.ports sound.widths in
    let some = get_there (bit_names_of n.ports) k.0 (omega arith) in
    let e : Some some.0 ≡ Some s.name = sym (bit_named n k.0 some.0 sound some.1) ∙ found_named n s.name k found in
    bit_fits n.ports s k.0 d sound.widths (some.1 ∙ e) goes same

-- a signal that fits has a net of its direction
pub record HasNet (n : Netlist) (s : StilSignal) : Type 0 where
  pub net : NetId
  pub found : find_net n s.name ≡ Some net
  pub goes : slice_get (dirs_of n.ports) net.0 ≡ Some s.dir

pub fitting_net : (n : Netlist) (s : StilSignal) → IsNetlist n → is_port_bit n s ≡ true → HasNet n s
fitting_net n s sound h =
    let bit = fitting_bit n.ports s sound.widths h in
    record { net = record { 0 = bit.place }; found = named_found n s.name bit.place (find_net n s.name) sound (bit_named n bit.place s.name sound bit.named) refl; goes = bit.goes }

-- ---- misfits

pub unnamed_misfit : (n : Netlist) (s : StilSignal) → IsNetlist n → find_net n s.name ≡ None → is_port_bit n s ≡ false
unnamed_misfit n s sound none = false_from_ne_true (is_port_bit n s) (λ h. (let r = fitting_net n s sound h in let e : None ≡ Some r.net = sym none ∙ r.found in cc))

pub no_port_misfit : (n : Netlist) (s : StilSignal) (k : NetId) → IsNetlist n → find_net n s.name ≡ Some k → slice_get (dirs_of n.ports) k.0 ≡ None → is_port_bit n s ≡ false
no_port_misfit n s k sound found none = false_from_ne_true (is_port_bit n s) (λ h.
    (let r = fitting_net n s sound h in
    let e : Some k ≡ Some r.net = sym found ∙ r.found in
    let f : k ≡ r.net = cc in
    let g : None ≡ Some s.dir = sym none ∙ ap (λ (i : NetId). slice_get (dirs_of n.ports) i.0) f ∙ r.goes in
    cc))

pub other_way_misfit : (n : Netlist) (s : StilSignal) (k : NetId) (d : Dir) → IsNetlist n → find_net n s.name ≡ Some k → slice_get (dirs_of n.ports) k.0 ≡ Some d → same_dir d s.dir ≡ false → is_port_bit n s ≡ false
other_way_misfit n s k d sound found goes other = false_from_ne_true (is_port_bit n s) (λ h.
    (let r = fitting_net n s sound h in
    let e : Some k ≡ Some r.net = sym found ∙ r.found in
    let f : k ≡ r.net = cc in
    let g : Some d ≡ Some s.dir = sym goes ∙ ap (λ (i : NetId). slice_get (dirs_of n.ports) i.0) f ∙ r.goes in
    let d_is : d ≡ s.dir = cc in
    true≢false (sym (dir_same s.dir) ∙ ap (λ (x : Dir). same_dir x s.dir) (sym d_is) ∙ other)))

-- ---- the directions as they are read

pub read_dir : (ports : List Port) (dirs : List Dir) (k : ℕ) (d : Dir) → dirs ≡ dirs_of ports → k < length dirs → d ≡ get_or dirs k d → slice_get (dirs_of ports) k ≡ Some d
read_dir ports dirs k d are less is = ap (λ (xs : List Dir). slice_get xs k) (sym are) ∙ slice_get-get_or dirs k d less ∙ ap Some (sym is)

pub no_dir : (ports : List Port) (dirs : List Dir) (k : ℕ) → dirs ≡ dirs_of ports → length dirs ≤ k → slice_get (dirs_of ports) k ≡ None
no_dir ports dirs k are far = ap (λ (xs : List Dir). slice_get xs k) (sym are) ∙ slice_get_past dirs k far

pub bits_step : (dir : Dir) (bits : List NetId) (i : ℕ) (dirs new all : List Dir) → i < length bits → new ≡ dirs ++ dir ∷ [] → dirs ++ map (λ net. dir) (drop i bits) ≡ all → new ++ map (λ net. dir) (drop (i + 1) bits) ≡ all
bits_step dir bits i dirs new all less grown so_far =
    let next : suc i ≡ i + 1 = omega arith in
    let split : map (λ net. dir) (drop i bits) ≡ dir ∷ map (λ net. dir) (drop (i + 1) bits) =
    ap (map (λ net. dir)) (drop-cons bits i (record { 0 = 0 }) less) ∙ ap (λ (k : ℕ). dir ∷ map (λ net. dir) (drop k bits)) next in
    ap (λ (xs : List Dir). xs ++ map (λ net. dir) (drop (i + 1) bits)) grown ∙ append_assoc dirs (dir ∷ []) (map (λ net. dir) (drop (i + 1) bits)) ∙ ap (λ (xs : List Dir). dirs ++ xs) (sym split) ∙ so_far

pub dirs_step : (ports : List Port) (i : ℕ) (port : Port) (dirs new all : List Dir) (bits : List NetId) → i < length ports → port ≡ get_or ports i port → bits ≡ port.bits → new ≡ dirs ++ map (λ net. port.dir) bits →
    dirs ++ dirs_of (drop i ports) ≡ all → new ++ dirs_of (drop (i + 1) ports) ≡ all
dirs_step ports i port dirs new all bits less here read grown so_far =
    let next : suc i ≡ i + 1 = omega arith in
    let split : dirs_of (drop i ports) ≡ map (λ net. port.dir) port.bits ++ dirs_of (drop (i + 1) ports) =
    ap dirs_of (drop-cons ports i port less) ∙ ap (λ (p : Port). map (λ net. p.dir) p.bits ++ dirs_of (drop (suc i) ports)) (sym here) ∙ ap (λ (k : ℕ). map (λ net. port.dir) port.bits ++ dirs_of (drop k ports)) next in
    ap (λ (xs : List Dir). xs ++ dirs_of (drop (i + 1) ports)) (grown ∙ ap (λ (bs : List NetId). dirs ++ map (λ net. port.dir) bs) read)
    ∙ append_assoc dirs (map (λ net. port.dir) port.bits) (dirs_of (drop (i + 1) ports)) ∙ ap (λ (xs : List Dir). dirs ++ xs) (sym split) ∙ so_far

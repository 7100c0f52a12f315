-- The least net that is driven twice.
use Rattle.std.proofs.Common.{◌≡◌, ℕ, ◌+◌, ◌<◌, ◌≤◌, Bool, true, false, cond, List, [], ◌∷◌, length, Option, None, Some, refl, sym, ◌∙◌, ap, subst, arith, slice_get, count_by, ◌==◌, ◌⊎◌, inl, inr}
use Rattle.std.specs.Prelude.{nat_le}
use Rattle.std.proofs.lemmas.Bool.Decides.{nat_tests}
use Rattle.std.proofs.lemmas.List.Sums.{sum_by-cons}
use Rattle.std.proofs.lemmas.Bool.{eqb-true, eq-eqb, ne_eqb}
use Rattle.dft_netlist.proofs.StandLemmas.{there}
use Rattle.dft_netlist.specs.declared.ids.NetId.{NetId}
use Rattle.dft_netlist.specs.declared.net_driver.NetDriver.{NetDriver}
use Rattle.dft_netlist.specs.declared.net_driver.NetDriver.TheVariants.{Input, Pin, Join, Nothing}
use Rattle.dft_netlist.specs.Netlist.{Netlist}
use Rattle.dft_netlist.specs.Drivers.{Driven, driver_in}
use Rattle.dft_netlist.specs.NetDrivers.{driver_at, Drives}
use Rattle.dft_netlist.specs.Notes.{Drive, Notes, noted, noted_at, all_noted, least_net}
use Rattle.dft_netlist.proofs.NotesLemmas.{length-noted}
use Rattle.dft_netlist.proofs.DriveLemmas.{AreEntries, merged, of_net, first_by, noted_found, merged_some}

abbrev pub occ : NetDriver → ℕ
occ Nothing = 0
occ Input = 1
occ (Pin i p) = 1
occ (Join j) = 1

abbrev pub once : Drive → (net : ℕ) → ℕ
once d net = cond (d.0.0 == net) 1 0

abbrev pub times_in : List Drive → (net : ℕ) → ℕ
times_in [] net = 0
times_in (d ∷ ds) net = once d net + times_in ds net

occ_some : (a : NetDriver) → (a ≡ Nothing → ⊥) → occ a ≡ 1
occ_some Nothing some = absurd (some refl)
occ_some Input some = refl
occ_some (Pin i p) some = refl
occ_some (Join j) some = refl

occ_few : (a : NetDriver) → occ a ≤ 1
occ_few Nothing = omega arith
occ_few Input = omega arith
occ_few (Pin i p) = omega arith
occ_few (Join j) = omega arith

occ_merged : (a b : NetDriver) → occ (merged a b) ≤ occ a + occ b
occ_merged Nothing b = omega arith
occ_merged Input b = omega arith
occ_merged (Pin i p) b = omega arith
occ_merged (Join j) b = omega arith

occ_of : (d : Drive) (t : Bool) → occ (cond t d.1 Nothing) ≤ cond t 1 0
occ_of d true = occ_few d.1
occ_of d false = omega arith

-- the net is below the clash
abbrev pub IsBelow : Option NetId → (net : ℕ) → Type 0
IsBelow None net = Unit {0}
IsBelow (Some k) net = net < k.0

least_below : (o : Option NetId) (k : NetId) (net : ℕ) → IsBelow (least_net o k) net → IsBelow o net × (net < k.0)
least_below None k net h = (tt, h)
least_below (Some other) k net h = by (nat_le other.0 k.0) refl h
  where
    by : (t : Bool) → nat_le other.0 k.0 ≡ t → IsBelow (cond t (Some other) (Some k)) net → (net < other.0) × (net < k.0)
    by true is lt = (let le : other.0 ≤ k.0 = grind (arith, nat_tests) in (lt, omega arith))
    by false is lt = (let gt : k.0 < other.0 = grind (arith, nat_tests) in (omega arith, lt))

least_is : (o : Option NetId) (k r : NetId) → least_net o k ≡ Some r → (o ≡ Some r) ⊎ (k ≡ r)
least_is None k r h = inr (cc)
least_is (Some other) k r h = by (nat_le other.0 k.0) h
  where
    by : (t : Bool) → cond t (Some other) (Some k) ≡ Some r → (Some other ≡ Some r) ⊎ (k ≡ r)
    by true e = inl e
    by false e = inr (cc)

-- below the clash after one drive
pub record BelowOne (s : Notes) (d : Drive) (net : ℕ) (a : NetDriver) : Type 0 where
  pub below : IsBelow s.clash net
  pub exact : occ (merged a (cond (d.0.0 == net) d.1 Nothing)) ≡ occ a + once d net

kept : (x : NetDriver) → occ (merged x Nothing) ≡ occ x + 0
kept Nothing = omega arith
kept Input = omega arith
kept (Pin i p) = omega arith
kept (Join j) = omega arith

apart : (d : Drive) (net : ℕ) (a : NetDriver) → (d.0.0 ≡ net → ⊥) → occ (merged a (cond (d.0.0 == net) d.1 Nothing)) ≡ occ a + once d net
apart d net a ne = rw (ne_eqb d.0.0 net ne) (kept a)

below_one : (s : Notes) (d : Drive) (net : ℕ) (a : NetDriver) (o : Option NetDriver) → (d.1 ≡ Nothing → ⊥) → slice_get s.found net ≡ Some a → slice_get s.found d.0.0 ≡ o → d.0.0 < length s.found → IsBelow (noted_at o s d).clash net → BelowOne s d net a
below_one s d net a None some at is live h = absurd (there s.found d.0.0 live is)
below_one s d net a (Some Nothing) some at is live h = record { below = h; exact = by (d.0.0 == net) refl }
  where
    by : (t : Bool) → (d.0.0 == net) ≡ t → occ (merged a (cond t d.1 Nothing)) ≡ occ a + cond t 1 0
    by true test =
        let was : Some a ≡ Some Nothing = sym at ∙ ap (slice_get s.found) (sym (eqb-true d.0.0 net test)) ∙ is in
        let nothing : a ≡ Nothing = cc in
        rw nothing (occ_some d.1 some)
    by false test = kept a
below_one s d net a (Some Input) some at is live h = let b = least_below s.clash d.0 net h in record { below = b.0; exact = apart d net a (λ e. omega arith) }
below_one s d net a (Some (Pin i p)) some at is live h = let b = least_below s.clash d.0 net h in record { below = b.0; exact = apart d net a (λ e. omega arith) }
below_one s d net a (Some (Join j)) some at is live h = let b = least_below s.clash d.0 net h in record { below = b.0; exact = apart d net a (λ e. omega arith) }

-- each drive is of a net that is there, and by something
abbrev pub AreLiveDrives : ℕ → List Drive → Type 0
AreLiveDrives count [] = Unit {0}
AreLiveDrives count (d ∷ ds) = (d.1 ≡ Nothing → ⊥) × (d.0.0 < count) × AreLiveDrives count ds

-- below the last clash no net is driven twice
pub below_all : (s : Notes) (ds : List Drive) (net : ℕ) (a : NetDriver) → AreLiveDrives (length s.found) ds → slice_get s.found net ≡ Some a → IsBelow (all_noted s ds).clash net → IsBelow s.clash net × (occ a + times_in ds net ≤ 1)
below_all s [] net a live at h = (h, let f = occ_few a in omega arith)
below_all s (d ∷ ds) net a live at h =
    let next = noted_found s d net a at in
    let more = below_all (noted s d) ds net (merged a (of_net d net)) (subst (λ k. AreLiveDrives k ds) (sym (length-noted s d)) live.2) next h in
    let one = below_one s d net a (slice_get s.found d.0.0) live.0 at refl live.1 more.0 in
    (one.below, let e = one.exact in let m = more.1 in omega arith)

again : (s : Notes) (d : Drive) (b : NetDriver) (k : NetId) (a : NetDriver) → (b ≡ Nothing → ⊥) → slice_get s.found k.0 ≡ Some a → slice_get s.found d.0.0 ≡ Some b → least_net s.clash d.0 ≡ Some k → (s.clash ≡ Some k) ⊎ (2 ≤ occ a + once d k.0)
again s d b k a some at is h = elim (least_is s.clash d.0 k h) [
  | inl was ↦ inl was
  | inr new ↦ (
      let number : d.0.0 ≡ k.0 = ap (λ (x : NetId). x.0) new in
      let both : Some a ≡ Some b = sym at ∙ ap (slice_get s.found) (sym number) ∙ is in
      let same : a ≡ b = cc in
      let one : occ a ≡ 1 = ap occ same ∙ occ_some b some in
      let two : once d k.0 ≡ 1 = ap (λ t. cond t 1 0) (eq-eqb d.0.0 k.0 number) in
      inr (omega arith))
]

-- the last clash is the first one, or is driven twice
clash_one : (s : Notes) (d : Drive) (o : Option NetDriver) (k : NetId) (a : NetDriver) → slice_get s.found k.0 ≡ Some a → slice_get s.found d.0.0 ≡ o → (noted_at o s d).clash ≡ Some k → (s.clash ≡ Some k) ⊎ (2 ≤ occ a + once d k.0)
clash_one s d None k a at is h = inl h
clash_one s d (Some Nothing) k a at is h = inl h
clash_one s d (Some Input) k a at is h = again s d Input k a (λ e. cc) at is h
clash_one s d (Some (Pin i p)) k a at is h = again s d (Pin i p) k a (λ e. cc) at is h
clash_one s d (Some (Join j)) k a at is h = again s d (Join j) k a (λ e. cc) at is h

pub clash_all : (s : Notes) (ds : List Drive) (k : NetId) (a : NetDriver) → slice_get s.found k.0 ≡ Some a → (all_noted s ds).clash ≡ Some k → (s.clash ≡ Some k) ⊎ (2 ≤ occ a + times_in ds k.0)
clash_all s [] k a at h = inl h
clash_all s (d ∷ ds) k a at h =
    let next = noted_found s d k.0 a at in
    elim (clash_all (noted s d) ds k (merged a (of_net d k.0)) next h) [
      | inl now ↦ elim (clash_one s d (slice_get s.found d.0.0) k a at refl now) [ inl was ↦ inl was | inr two ↦ inr (omega arith) ]
      | inr two ↦ (let m = occ_merged a (of_net d k.0) in let o = occ_of d (d.0.0 == k.0) in inr (omega arith))
    ]

pub clash_live : (s : Notes) (ds : List Drive) (count : ℕ) (k : NetId) → AreLiveDrives count ds → (all_noted s ds).clash ≡ Some k → (s.clash ≡ Some k) ⊎ (k.0 < count)
clash_live s [] count k live h = inl h
clash_live s (d ∷ ds) count k live h = elim (clash_live (noted s d) ds count k live.2 h) [ inl now ↦ step (slice_get s.found d.0.0) now | inr lt ↦ inr lt ]
  where
    moved : least_net s.clash d.0 ≡ Some k → (s.clash ≡ Some k) ⊎ (k.0 < count)
    moved e = elim (least_is s.clash d.0 k e) [ inl was ↦ inl was | inr new ↦ (let number : d.0.0 ≡ k.0 = ap (λ (x : NetId). x.0) new in let lt = live.1 in inr (omega arith)) ]

    step : (o : Option NetDriver) → (noted_at o s d).clash ≡ Some k → (s.clash ≡ Some k) ⊎ (k.0 < count)
    step None e = inl e
    step (Some Nothing) e = inl e
    step (Some Input) e = moved e
    step (Some (Pin i p)) e = moved e
    step (Some (Join j)) e = moved e

-- ---- against the drivers of a netlist

pub times_same : (n : Netlist) (ds : List Drive) (es : List Driven) (net : ℕ) → AreEntries n ds es → times_in ds net ≡ count_by (λ e. e.0 == net) es
times_same n [] [] net h = refl
times_same n [] (e ∷ es) net h = absurd h
times_same n (d ∷ ds) [] net h = absurd h
times_same n (d ∷ ds) (e ∷ es) net h = rw (h.0.net, times_same n ds es net h.1) (sym (sum_by-cons (λ (x : Driven). cond (x.0 == net) 1 0) e es))

pub times_past : (ds : List Drive) (count net : ℕ) → AreLiveDrives count ds → count ≤ net → times_in ds net ≡ 0
times_past [] count net live le = refl
times_past (d ∷ ds) count net live le =
    let lt = live.1 in
    rw (ne_eqb d.0.0 net (λ e. omega arith), times_past ds count net live.2 le) refl

pub driver_same : (n : Netlist) (ds : List Drive) (es : List Driven) (net : ℕ) → AreEntries n ds es → driver_in es net ≡ driver_at n (first_by ds net)
driver_same n [] [] net h = refl
driver_same n [] (e ∷ es) net h = absurd h
driver_same n (d ∷ ds) [] net h = absurd h
driver_same n (d ∷ ds) (e ∷ es) net h = ap (λ k. cond (k == net) e.1 (driver_in es net)) (sym h.0.net) ∙ by (d.0.0 == net) (driver_same n ds es net h.1)
  where
    by : (t : Bool) → driver_in es net ≡ driver_at n (first_by ds net) → cond t e.1 (driver_in es net) ≡ driver_at n (merged (cond t d.1 Nothing) (first_by ds net))
    by true more = sym h.0.by ∙ ap (driver_at n) (sym (merged_some d.1 (first_by ds net) h.0.some))
    by false more = more

pub first_drives : (n : Netlist) (ds : List Drive) (es : List Driven) (net : ℕ) → AreEntries n ds es → ((first_by ds net ≡ Nothing) × (times_in ds net ≡ 0)) ⊎ Drives n (first_by ds net) net
first_drives n [] [] net h = inl (refl, refl)
first_drives n [] (e ∷ es) net h = absurd h
first_drives n (d ∷ ds) [] net h = absurd h
first_drives n (d ∷ ds) (e ∷ es) net h = by (d.0.0 == net) refl (first_drives n ds es net h.1)
  where
    by : (t : Bool) → (d.0.0 == net) ≡ t → ((first_by ds net ≡ Nothing) × (times_in ds net ≡ 0)) ⊎ Drives n (first_by ds net) net → ((merged (cond t d.1 Nothing) (first_by ds net) ≡ Nothing) × (cond t 1 0 + times_in ds net ≡ 0)) ⊎ Drives n (merged (cond t d.1 Nothing) (first_by ds net)) net
    by true is more = inr (rw (merged_some d.1 (first_by ds net) h.0.some) (subst (λ k. Drives n d.1 k) (eqb-true d.0.0 net is) h.0.drives))
    by false is more = elim more [ inl none ↦ inl (none.0, (let z = none.1 in omega arith)) | inr drives ↦ inr drives ]

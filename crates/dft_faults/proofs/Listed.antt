-- Each fault that is listed is one, and what is listed net by net is the list.
use Rattle.std.proofs.Common.{ℕ, zero, suc, ◌+◌, ◌≡◌, ◌≤◌, Bool, true, false, not, ◌&&◌, List, [], ◌∷◌, ◌++◌, length, filter, Some, slice_get, nat_lt, inl, inr, refl, sym, ap, arith, ◌∙◌, append_assoc, append-nil}
use Rattle.std.specs.Prelude.{if◌then◌else◌}
use Rattle.std.specs.List.{range_with_len}
use Rattle.std.proofs.lemmas.Bool.{and_parts, ltb-true, not-true}
use Rattle.std.proofs.lemmas.List.Elements.{filter-append}
use Rattle.std.proofs.lemmas.Option.{same_Some}
use Rattle.dft_base.proofs.ListLemmas.{range_last}
use Rattle.dft_netlist.specs.Netlist.{Netlist}
use Rattle.dft_netlist.specs.Orders.{Has}
use Rattle.dft_netlist.specs.Connections.{is_input}
use Rattle.dft_netlist.specs.Drivers.{driver}
use Rattle.dft_netlist.specs.NetDrivers.{times_driven}
use Rattle.dft_netlist.proofs.ListingLemmas.{has_kept, range_below, filter_has}
use Rattle.dft_faults.specs.declared.fault.Fault.{Fault}
use Rattle.dft_faults.specs.Faults.{is_driven, shows_clock, has_faults, both_of, faults}
use Rattle.dft_faults.specs.Faulty.{IsFault}
use Rattle.dft_faults.specs.Laws.{ListedAreFaults}

-- ---- what is listed

both_has : (nets : List ℕ) (place : ℕ) (f : Fault) → slice_get (both_of nets) place ≡ Some f → Has nets f.net.0
both_has [] place f at = absurd (let g : ⊥ = cc in g)
both_has (net ∷ nets) zero f at = inl (ap (λ (g : Fault). g.net.0) (sym (same_Some (record { net = record { 0 = net }; value = false }) f at)))
both_has (net ∷ nets) (suc zero) f at = inl (ap (λ (g : Fault). g.net.0) (sym (same_Some (record { net = record { 0 = net }; value = true }) f at)))
both_has (net ∷ nets) (suc (suc place)) f at = inr (both_has nets place f at)

pub listed_faults : ListedAreFaults
listed_faults n is_clock place f at =
    let nets : List ℕ = range_with_len 0 (length n.nets) in
    let has = filter_has (has_faults n is_clock) nets f.net.0 (both_has (filter (has_faults n is_clock) nets) place f at) in
    let parts = and_parts (is_driven n f.net.0) (not (is_input (driver n f.net.0)) && not (shows_clock n is_clock f.net.0)) has.1 in
    let inner = and_parts (not (is_input (driver n f.net.0))) (not (shows_clock n is_clock f.net.0)) parts.1 in
    record {
      live = (let r = range_below 0 (length n.nets) f.net.0 has.0 in omega arith);
      driven = (let r = ltb-true 0 (times_driven n f.net.0) parts.0 in omega arith);
      inner = not-true (is_input (driver n f.net.0)) inner.0;
    }

-- ---- one net more

both-append : (xs ys : List ℕ) → both_of (xs ++ ys) ≡ both_of xs ++ both_of ys
both-append [] ys = refl
both-append (x ∷ xs) ys = ap (λ fs. record { net = record { 0 = x }; value = false } ∷ record { net = record { 0 = x }; value = true } ∷ fs) (both-append xs ys)

-- the faults of the first nets
abbrev pub first_faults : Netlist → (is_clock : ℕ → Bool) → (count : ℕ) → List Fault
first_faults n is_clock count = both_of (filter (has_faults n is_clock) (range_with_len 0 count))

first_split : (n : Netlist) (is_clock : ℕ → Bool) (k : ℕ) → first_faults n is_clock (k + 1) ≡ first_faults n is_clock k ++ both_of (if has_faults n is_clock k then k ∷ [] else [])
first_split n is_clock k =
    ap (λ (nets : List ℕ). both_of (filter (has_faults n is_clock) nets)) (range_last k)
    ∙ ap both_of (filter-append (has_faults n is_clock) (range_with_len 0 k) (k ∷ []))
    ∙ both-append (filter (has_faults n is_clock) (range_with_len 0 k)) (if has_faults n is_clock k then k ∷ [] else [])

pub faults_more : (n : Netlist) (is_clock : ℕ → Bool) (k : ℕ) (so_far one two : List Fault) → so_far ≡ first_faults n is_clock k → has_faults n is_clock k ≡ true →
    one ≡ so_far ++ record { net = record { 0 = k }; value = false } ∷ [] → two ≡ one ++ record { net = record { 0 = k }; value = true } ∷ [] → two ≡ first_faults n is_clock (k + 1)
faults_more n is_clock k so_far one two is up first second =
    second ∙ ap (λ (fs : List Fault). fs ++ record { net = record { 0 = k }; value = true } ∷ []) first
    ∙ append_assoc so_far (record { net = record { 0 = k }; value = false } ∷ []) (record { net = record { 0 = k }; value = true } ∷ [])
    ∙ ap (λ (fs : List Fault). fs ++ record { net = record { 0 = k }; value = false } ∷ record { net = record { 0 = k }; value = true } ∷ []) is
    ∙ sym (first_split n is_clock k ∙ ap (λ b. first_faults n is_clock k ++ both_of (if b then k ∷ [] else [])) up)

pub faults_same : (n : Netlist) (is_clock : ℕ → Bool) (k : ℕ) (so_far : List Fault) → so_far ≡ first_faults n is_clock k → has_faults n is_clock k ≡ false → so_far ≡ first_faults n is_clock (k + 1)
faults_same n is_clock k so_far is down =
    is ∙ sym (first_split n is_clock k ∙ ap (λ b. first_faults n is_clock k ++ both_of (if b then k ∷ [] else [])) down ∙ append-nil (first_faults n is_clock k))

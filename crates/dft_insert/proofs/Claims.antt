-- What parts drive at most, and that they are ranked, told by the netlist that they are added to.
use Rattle.std.proofs.Common.{ℕ, zero, suc, ◌+◌, ◌≡◌, ◌≤◌, inl, inr, true, List, [], ◌∷◌, ◌++◌, length, Option, None, Some, slice_get, refl, sym, subst, ap, arith, ◌∙◌, ◌==◌}
use Rattle.std.specs.Prelude.{IsTrue}
use Rattle.std.proofs.lemmas.Bool.{eq-eqb}
use Rattle.dft_cells.specs.declared.kind.Role.{Role}
use Rattle.dft_cells.specs.declared.cell.Cell.{Cell}
use Rattle.dft_cells.specs.FlipFlops.{is_flip_flop}
use Rattle.dft_netlist.specs.declared.ids.NetId.{NetId}
use Rattle.dft_netlist.specs.declared.instance.Instance.{Instance}
use Rattle.dft_netlist.specs.declared.instance.CellRef.{CellRef}
use Rattle.dft_netlist.specs.declared.instance.Signal.{Signal}
use Rattle.dft_netlist.specs.declared.instance.Signal.TheVariants.{Net, Constant, Unconnected}
use Rattle.dft_netlist.specs.Drivers.{shape_of}
use Rattle.dft_netlist.specs.Netlist.{Netlist}
use Rattle.dft_netlist.specs.NetDrivers.{roles_at, roles_in}
use Rattle.dft_netlist.specs.Orders.{AreOnce, Has}
use Rattle.dft_parts.specs.Growth.{Stands}
use Rattle.dft_parts.specs.Parts.{Part, ANet, AnInstance, APin, Making, next_instance, pin_joined, with_part}
use Rattle.dft_parts.specs.Ranks.{IsRanked, IsPinRanked, IsPartRanked, ArePartsRanked}
use Rattle.dft_parts.specs.Single.{net_driven, nets_driven, opened, opened_in, opened_at, driven_by_part, driven_by_parts, times_in}
use Rattle.dft_parts.proofs.Growing.{parts_grow}
use Rattle.dft_parts.proofs.RankedParts.{flip_flop_ranked}
use Rattle.dft_parts.proofs.Singles.{times_in-append, counted_first}

-- ---- numbers of nets

-- a net stands at most as often in a list as in a longer one
pub counted_more : (x net : ℕ) (xs : List ℕ) → times_in xs net ≤ times_in (x ∷ xs) net
counted_more x net xs = let e = counted_first x net xs (x == net) refl in omega (arith, e)

pub has_times : (nets : List ℕ) (net : ℕ) → Has nets net → 1 ≤ times_in nets net
has_times [] net h = absurd h
has_times (x ∷ nets) net (inl e) = let first = counted_first x net nets true (eq-eqb x net (sym e)) in omega (arith, first)
has_times (x ∷ nets) net (inr h) = omega (arith, counted_more x net nets, has_times nets net h)

-- none stands twice where each is counted once at most
pub once_by : (nets : List ℕ) → ((net : ℕ) → times_in nets net ≤ 1) → AreOnce nets
once_by [] h = tt
once_by (x ∷ nets) h = (
  λ has. (let first = counted_first x x nets true (eq-eqb x x refl) in let more = has_times nets x has in let few = h x in absurd (omega (arith, first, more, few))),
  once_by nets (λ net. (let few = h net in omega (arith, counted_more x net nets, few))),
)

-- ---- claims

-- the net at a pin of this role, if it is an output pin
abbrev pub claimed : Option Role → NetId → List ℕ
claimed None net = []
claimed (Some role) net = net_driven role (Net net)

-- the nets that a part may drive, where its pins are those of instances of a netlist
abbrev pub claim : Netlist → Part → List ℕ
claim n ANet = []
claim n (AnInstance cell pins) = nets_driven (shape_of n.library cell).roles pins
claim n (APin instance pin net) = claimed (slice_get (roles_at n instance.0) pin) net

abbrev pub claims : Netlist → List Part → List ℕ
claims n [] = []
claims n (part ∷ parts) = claim n part ++ claims n parts

-- an instance is there, and is a flip-flop
abbrev pub IsFlopIn : List Cell → Option Instance → Type 0
IsFlopIn library None = ⊥
IsFlopIn library (Some x) = IsTrue (is_flip_flop (shape_of library x.cell).kind)

-- each instance of a part is ranked, and each pin is one of a flip-flop that is there
abbrev pub IsFine : Netlist → (rank : ℕ → ℕ) → Part → Type 0
IsFine n rank ANet = Unit {0}
IsFine n rank (AnInstance cell pins) = (i : ℕ) (x : Instance) → x.cell ≡ cell → x.pins ≡ pins → IsRanked n.library rank i x
IsFine n rank (APin instance pin net) = IsFlopIn n.library (slice_get n.instances instance.0)

abbrev pub AreFine : Netlist → (rank : ℕ → ℕ) → List Part → Type 0
AreFine n rank [] = Unit {0}
AreFine n rank (part ∷ parts) = IsFine n rank part × AreFine n rank parts

pub fine_append : (n : Netlist) (rank : ℕ → ℕ) (xs ys : List Part) → AreFine n rank xs → AreFine n rank ys → AreFine n rank (xs ++ ys)
fine_append n rank [] ys h k = k
fine_append n rank (x ∷ xs) ys h k = (h.0, fine_append n rank xs ys h.1 k)

pub claims-append : (n : Netlist) (xs ys : List Part) (net : ℕ) → times_in (claims n (xs ++ ys)) net ≡ times_in (claims n xs) net + times_in (claims n ys) net
claims-append n [] ys net = (let e : times_in (claims n ys) net ≡ 0 + times_in (claims n ys) net = omega arith in e)
claims-append n (x ∷ xs) ys net =
    omega (arith, times_in-append (claim n x) (claims n (xs ++ ys)) net, times_in-append (claim n x) (claims n xs) net, claims-append n xs ys net)

-- ---- a netlist that grew

-- each instance of a netlist stands in another
abbrev pub Keeps : (old new : Netlist) → Type 0
Keeps old new = (i : ℕ) (x : Instance) → slice_get old.instances i ≡ Some x → Stands new i x.cell x.pins

pub keeps_more : (n : Netlist) (s : Making) (part : Part) → Keeps n s.netlist → Keeps n (with_part s part).netlist
keeps_more n s part keeps i x at = (parts_grow s (part ∷ [])).stay i x.cell x.pins (keeps i x at)

opened_less : (r : Role) (signal : Signal) (net : NetId) (k : ℕ) → times_in (opened r signal net) k ≤ times_in (net_driven r (Net net)) k
opened_less r Unconnected net k = omega arith
opened_less r (Net other) net k = omega arith
opened_less r (Constant bit) net k = omega arith

opened_in_less : (roles : List Role) (signals : List Signal) (pin : ℕ) (net : NetId) (k : ℕ) → times_in (opened_in roles signals pin net) k ≤ times_in (claimed (slice_get roles pin) net) k
opened_in_less [] signals pin net k = omega arith
opened_in_less (r ∷ roles) [] pin net k = omega arith
opened_in_less (r ∷ roles) (s ∷ signals) zero net k = opened_less r s net k
opened_in_less (r ∷ roles) (s ∷ signals) (suc pin) net k = opened_in_less roles signals pin net k

-- the pin of an instance that stands drives at most what its role claims
pin_less : (n : Netlist) (new : Netlist) (i pin : ℕ) (net : NetId) (k : ℕ) (o : Option Instance) → new.library ≡ n.library → Keeps n new → slice_get n.instances i ≡ o → IsFlopIn n.library o →
    times_in (opened_at new.library (slice_get new.instances i) pin net) k ≤ times_in (claimed (slice_get (roles_in n o) pin) net) k
pin_less n new i pin net k None same keeps at h = absurd h
pin_less n new i pin net k (Some x) same keeps at h =
    let s = keeps i x at in
    let is : opened_at new.library (slice_get new.instances i) pin net ≡ opened_in (shape_of n.library x.cell).roles s.instance.pins pin net =
    ap (λ (o : Option Instance). opened_at new.library o pin net) s.at
    ∙ ap (λ (library : List Cell). opened_in (shape_of library s.instance.cell).roles s.instance.pins pin net) same
    ∙ ap (λ (c : CellRef). opened_in (shape_of n.library c).roles s.instance.pins pin net) s.cell_is in
    subst (λ (nets : List ℕ). times_in nets k ≤ times_in (claimed (slice_get (shape_of n.library x.cell).roles pin) net) k) (sym is) (opened_in_less (shape_of n.library x.cell).roles s.instance.pins pin net k)

part_less : (n : Netlist) (rank : ℕ → ℕ) (s : Making) (part : Part) (k : ℕ) → s.netlist.library ≡ n.library → Keeps n s.netlist → IsFine n rank part → times_in (driven_by_part s.netlist part) k ≤ times_in (claim n part) k
part_less n rank s ANet k same keeps h = omega arith
part_less n rank s (AnInstance cell pins) k same keeps h =
    subst (λ (library : List Cell). times_in (nets_driven (shape_of library cell).roles pins) k ≤ times_in (nets_driven (shape_of n.library cell).roles pins) k) (sym same) (omega arith)
part_less n rank s (APin instance pin net) k same keeps h = pin_less n s.netlist instance.0 pin net k (slice_get n.instances instance.0) same keeps refl h

-- parts drive at most what they claim
pub driven_less : (n : Netlist) (rank : ℕ → ℕ) (s : Making) (parts : List Part) (k : ℕ) → s.netlist.library ≡ n.library → Keeps n s.netlist → AreFine n rank parts → times_in (driven_by_parts s parts) k ≤ times_in (claims n parts) k
driven_less n rank s [] k same keeps h = omega arith
driven_less n rank s (part ∷ parts) k same keeps h =
    omega (
      arith,
      times_in-append (driven_by_part s.netlist part) (driven_by_parts (with_part s part) parts) k,
      times_in-append (claim n part) (claims n parts) k,
      part_less n rank s part k same keeps h.0,
      driven_less n rank (with_part s part) parts k ((parts_grow s (part ∷ [])).library ∙ same) (keeps_more n s part keeps) h.1,
    )

-- ---- ranks

pin_fine : (n new : Netlist) (rank : ℕ → ℕ) (i pin : ℕ) (net : NetId) (o : Option Instance) → new.library ≡ n.library → Keeps n new → slice_get n.instances i ≡ o → IsFlopIn n.library o → IsPinRanked new.library rank i pin net (slice_get new.instances i)
pin_fine n new rank i pin net None same keeps at h = absurd h
pin_fine n new rank i pin net (Some x) same keeps at h =
    let s = keeps i x at in
    subst (IsPinRanked new.library rank i pin net) (sym s.at)
    (flip_flop_ranked new.library rank i (record s.instance { pins = pin_joined pin net s.instance.pins })
    (subst (λ (library : List Cell). IsTrue (is_flip_flop (shape_of library s.instance.cell).kind)) (sym same) (subst (λ (c : CellRef). IsTrue (is_flip_flop (shape_of n.library c).kind)) (sym s.cell_is) h)))

part_fine : (n : Netlist) (rank : ℕ → ℕ) (s : Making) (part : Part) → s.netlist.library ≡ n.library → Keeps n s.netlist → IsFine n rank part → IsPartRanked s rank part
part_fine n rank s ANet same keeps h = tt
part_fine n rank s (AnInstance cell pins) same keeps h =
    subst (λ (library : List Cell). IsRanked library rank (length s.netlist.instances) (next_instance s.made cell pins)) (sym same) (h (length s.netlist.instances) (next_instance s.made cell pins) refl refl)
part_fine n rank s (APin instance pin net) same keeps h = pin_fine n s.netlist rank instance.0 pin net (slice_get n.instances instance.0) same keeps refl h

-- parts that are fine are ranked
pub parts_fine : (n : Netlist) (rank : ℕ → ℕ) (s : Making) (parts : List Part) → s.netlist.library ≡ n.library → Keeps n s.netlist → AreFine n rank parts → ArePartsRanked s rank parts
parts_fine n rank s [] same keeps h = tt
parts_fine n rank s (part ∷ parts) same keeps h =
    (part_fine n rank s part same keeps h.0, parts_fine n rank (with_part s part) parts ((parts_grow s (part ∷ [])).library ∙ same) (keeps_more n s part keeps) h.1)

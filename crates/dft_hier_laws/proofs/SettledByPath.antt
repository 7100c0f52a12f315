-- The settled assignments of a flat design, read by path, are the settled joined ones.
use Rattle.std.proofs.Common.{ℕ, ◌≡◌, inl, inr, Bool, not, cond, List, [], ◌∷◌, length, map, refl, sym, ap, ap₂, arith, ◌∙◌}
use Rattle.std.proofs.lemmas.Bool.{cases_lt}
use Rattle.dft_cells.specs.declared.cell.Cell.{Cell}
use Rattle.dft_cells.specs.Gates.{bit_of}
use Rattle.dft_netlist.specs.Drivers.{Source, Driver, driver}
use Rattle.dft_behavior.specs.Logic.{Ports, meaning_of, logic_of, Meaning}
use Rattle.dft_netlist.specs.Netlist.{Netlist}
use Rattle.dft_behavior.specs.Settled.{Sources, bit_from, bit_given, is_wire, IsSettled}
use Rattle.dft_modules.specs.Modules.{Module}
use Rattle.dft_hier_laws.specs.Joined.{JoinedSources, sources_at, IsJoinedSettled}
use Rattle.dft_hier_laws.specs.Laws.{AreByPath, ReadsByPath, IsFreePast, FlatIsJoined}
use Rattle.dft_hier.specs.Paths.{Path, net_spots}
use Rattle.dft_hier_laws.proofs.DriverImages.{IsFlatOf}
use Rattle.dft_hier_laws.proofs.Images.{Image, OfNet, OfBit, OfPin, Images}
use Rattle.dft_hier_laws.proofs.JoinedRoots.{flat_roots}
use Rattle.dft_hier.proofs.SpotLemmas.{spot}
use Rattle.dft_hier_laws.proofs.FlatDesigns.{flat_of}
use Rattle.dft_hier_laws.proofs.MeaningImages.{ImageMeaning, OfPort, OfClock, OfGateBit, OfJoined, OfFlopBit, OfLockupBit, OfFree, flat_are_roots, joined_means, joined_stands, some_meaning, past_free}

module _ (ms : List Module) (library : List Cell) (top : Module) (design : Netlist) (f : IsFlatOf ms library top design) (ports : Ports) (s : Sources) (j : JoinedSources) (bits : ℕ → Bool) (joined : Path → ℕ → Bool)
    (by_path : AreByPath ms top s j) (reads : ReadsByPath ms top bits joined) where
  bit_image : (path : Path) (x y : Source) → Image ms top path x y → bit_from (sources_at j path) (joined path) x ≡ bit_from s bits y
  bit_image path x y (OfNet {net = net} {number = k} at) = reads k (spot path net) at
  bit_image path x y OfBit = refl
  bit_image path x y (OfPin {i = i} {number = k} {pin = pin} at) = by_path.loose k (spot path i) pin at

  bits_image : (path : Path) (xs ys : List Source) → Images ms top path xs ys → map (bit_from (sources_at j path) (joined path)) xs ≡ map (bit_from s bits) ys
  bits_image path [] [] h = refl
  bits_image path (x ∷ xs) (y ∷ ys) h = ap₂ (λ (b : Bool) bs. b ∷ bs) (bit_image path x y h.0) (bits_image path xs ys h.1)
  bits_image path [] (y ∷ ys) h = absurd h
  bits_image path (x ∷ xs) [] h = absurd h

  -- meanings that are images give the same bit
  given_same : (over : Path) (net k : ℕ) (a b : Meaning) → ImageMeaning ms top over net k a b → bit_given (sources_at j over) (joined over) net a ≡ bit_given s bits k b
  given_same over net k a b (OfPort is) = by_path.ports net ∙ ap s.ports (sym is)
  given_same over net k a b (OfClock is) = by_path.high net ∙ ap s.high (sym is)
  given_same over net k a b (OfGateBit {kind = kind} {ss = xs} {ts = ys} images) = ap (bit_of kind) (bits_image over xs ys images)
  given_same over net k a b (OfJoined {s = x} {t = y} image) = bit_image over x y image
  given_same over net k a b (OfFlopBit {i = i} {number = number} {inverted = inverted} cell) = ap (λ (v : Bool). cond inverted (not v) v) (by_path.flops number (spot over i) cell)
  given_same over net k a b (OfLockupBit {i = i} {number = number} {domain = domain} {high = high} {s = x} {t = y} cell image) =
      ap (λ (level : Bool). cond (is_wire high level) (bit_from (sources_at j over) (joined over) x) (j.flops over i)) (by_path.high domain)
      ∙ ap₂ (λ (v w : Bool). cond (is_wire high (s.high domain)) v w) (bit_image over x y image) (by_path.flops number (spot over i) cell)
  given_same over net k a b (OfFree at) = by_path.free k (spot over net) at

  to_joined : IsSettled (logic_of design ports) s bits → IsJoinedSettled ms library top ports j joined
  to_joined settled =
      let roots = flat_roots ms library top design f in
      let are = flat_are_roots ms library top design f in
      record {
        roots = roots;
        are_roots = are;
        each = λ path net over meaning means. (
            let k = joined_stands ms library top design f ports roots are path net over meaning means in
            let image = joined_means ms library top design f ports roots are path net over meaning k.0 means k.1 in
            reads k.0 (spot path net) k.1 ∙ settled k.0 ∙ sym (given_same over net k.0 meaning (meaning_of design ports k.0 (driver design k.0)) image));
      }

  to_flat : IsFreePast design s bits → IsJoinedSettled ms library top ports j joined → IsSettled (logic_of design ports) s bits
  to_flat past h = λ k. elim (cases_lt k (length (net_spots ms top))) [
    | inl less ↦ (
        let m = some_meaning ms library top design f ports h.roots h.are_roots k less in
        let image = joined_means ms library top design f ports h.roots h.are_roots m.path m.net m.over m.meaning k m.means m.at in
        sym (reads k (spot m.path m.net) m.at) ∙ h.each m.path m.net m.over m.meaning m.means ∙ given_same m.over m.net k m.meaning (meaning_of design ports k (driver design k)) image)
    | inr more ↦ (
        let count = f.count in
        let free = past_free ms library top design f ports h.roots h.are_roots k more in
        past k (omega arith) ∙ sym (ap (λ (d : Driver). bit_given s bits k (meaning_of design ports k d)) free))
  ]

-- ---- the law

pub flat_is_joined : FlatIsJoined
flat_is_joined ms library design sound flat ports s j bits joined by_path reads past =
    let f = flat_of ms library design sound flat in
    ((λ settled. to_joined ms library flat.top design f ports s j bits joined by_path reads settled), (λ h. to_flat ms library flat.top design f ports s j bits joined by_path reads past h))

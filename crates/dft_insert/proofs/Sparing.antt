-- The parts that are made leave the nets of the design alone.
use Rattle.std.proofs.Common.{ℕ, ◌+◌, ◌≡◌, ◌==◌, ◌<◌, ◌≤◌, ◌⊎◌, inl, inr, Bool, true, false, nat_lt, List, [], ◌∷◌, length, Option, None, Some, slice_get, refl, sym, ap, arith, ◌∙◌}
use Rattle.std.specs.Prelude.{if◌then◌else◌}
use Rattle.std.specs.List.{AllByRecursion}
use Rattle.dft_cells.specs.declared.kind.Role.{Role}
use Rattle.dft_netlist.specs.declared.ids.NetId.{NetId}
use Rattle.dft_netlist.specs.Drivers.{shape_of}
use Rattle.dft_netlist.specs.NetDrivers.{roles_at}
use Rattle.dft_netlist.specs.Netlist.{Netlist}
use Rattle.dft_config.specs.Config.{Config}
use Rattle.dft_parts.specs.Parts.{Part, ANet, AnInstance, APin}
use Rattle.dft_parts.specs.Single.{nets_driven, times_in}
use Rattle.dft_parts.proofs.Singles.{times_in-append}
use Rattle.dft_scan_frame.specs.Moves.{Gap, moved}
use Rattle.dft_scan_frame.specs.Statements.{IsReady}
use Rattle.dft_scan_frame.proofs.LiveNets.{moved_less}
use Rattle.dft_insert.specs.declared.style.Style.{Style}
use Rattle.dft_insert.specs.declared.style.Style.TheVariants.{Plain, Edt}
use Rattle.dft_insert.specs.Frame.{frame}
use Rattle.dft_insert.specs.Ports.{gap_in}
use Rattle.dft_insert.specs.Statements.{made_in}
use Rattle.dft_insert.proofs.Frames.{frame_nets}
use Rattle.dft_insert.proofs.Claims.{claimed, claims}
use Rattle.dft_insert.proofs.FrameRanks.{outs_start}
use Rattle.dft_insert.proofs.MadeGood.{claims_none}
use Rattle.dft_insert.proofs.Driving.{AreSpared}
use Rattle.dft_insert.proofs.Merging.{is_output_role}
use Rattle.dft_insert.proofs.Spared.{Spares, one_none}

-- ---- nets that no part claims

pin_spared : (o : Option Role) (net : NetId) (k : ℕ) → times_in (claimed o net) k ≡ 0 → is_output_role o ≡ true → (net.0 == k) ≡ false
pin_spared None net k h out = absurd cc
pin_spared (Some role) net k h out = one_none net.0 k (net.0 == k) refl (sym (ap (λ b. times_in (if b then net.0 ∷ [] else []) k) out) ∙ h)

pub parts_spared : (w : Netlist) (k : ℕ) (parts : List Part) → times_in (claims w parts) k ≡ 0 → AllByRecursion (Spares w k) parts
parts_spared w k [] h = tt
parts_spared w k (ANet ∷ parts) h = (tt, parts_spared w k parts h)
parts_spared w k (AnInstance cell pins ∷ parts) h =
    let both = times_in-append (nets_driven (shape_of w.library cell).roles pins) (claims w parts) k in
    (omega (arith, both, h), parts_spared w k parts (omega (arith, both, h)))
parts_spared w k (APin i pin net ∷ parts) h =
    let both = times_in-append (claimed (slice_get (roles_at w i.0) pin) net) (claims w parts) k in
    (pin_spared (slice_get (roles_at w i.0) pin) net k (omega (arith, both, h)), parts_spared w k parts (omega (arith, both, h)))

-- ---- the nets of the design

moved_where : (before width net : ℕ) → ((if nat_lt net before then net else net + width) < before) ⊎ (before + width ≤ (if nat_lt net before then net else net + width))
moved_where before width net = by_case (nat_lt net before) refl
  where
    by_case : (b : Bool) → nat_lt net before ≡ b → ((if b then net else net + width) < before) ⊎ (before + width ≤ (if b then net else net + width))
    by_case true e = inl (less net before e)
      where
        less : (a c : ℕ) → nat_lt a c ≡ true → a < c
        less = grind arith
    by_case false e = inr (more net before width e)
      where
        more : (a c d : ℕ) → nat_lt a c ≡ false → c + d ≤ a + d
        more = grind arith

-- the added outputs are among the nets of the added ports
outs_late : (style : Style) (n : Netlist) (config : Config) → (gap_in style n config).before ≤ outs_start style n config
outs_late Plain n config = omega arith
outs_late Edt n config = omega arith

-- a net of the design is none of theirs
apart : (style : Style) (n : Netlist) (config : Config) (net : ℕ) → (moved (gap_in style n config) net < outs_start style n config) ⊎ ((gap_in style n config).before + (gap_in style n config).width ≤ moved (gap_in style n config) net)
apart style n config net = elim (moved_where (gap_in style n config).before (gap_in style n config).width net) [ inl front ↦ inl (omega (arith, front, outs_late style n config)) | inr back ↦ inr back ]

pub spared : (style : Style) (n : Netlist) (config : Config) → IsReady n config → AreSpared style n config
spared style n config ready net less =
    let gap : Gap = gap_in style n config in
    let few : moved gap net < length (frame style n config).nets = omega (arith, moved_less gap net (length n.nets) less, frame_nets style n config) in
    parts_spared (frame style n config) (moved gap net) (made_in style n config) (claims_none style n config (moved gap net) ready few (apart style n config net))

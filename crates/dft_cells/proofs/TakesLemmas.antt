-- What a cell takes, and what resets and sets leave: over three values it stands above the bits and grows with the values.
use Rattle.std.proofs.Common.{Bool, true, false, ◌≡◌, ◌∙◌, Option, None, Some, option_map, inl, inr, refl, sym, ap}
use Rattle.dft_base.specs.declared.tri.Tri.{Tri}
use Rattle.dft_base.specs.declared.tri.Tri.TheVariants.{Zero, One, Unknown}
use Rattle.dft_base.specs.Tri.{Above, AboveTri}
use Rattle.dft_cells.specs.FlipFlops.{forced, tri_forced, Scan, Takes, Forces, IsForceOf, moved_forces, scanned, taken_by, forced_where, forced_by, tri_scanned, tri_taken_by, tri_forced_where, tri_forced_by}
use Rattle.dft_cells.proofs.Completions.{forced_above, chosen_above, above_self, forced_monotone, chosen_monotone}
use Rattle.dft_cells.proofs.TriLemmas.{forced_one, chosen_one}

-- ---- above the bits

scanned_above : {A : Type 0} (scan : Option (Scan A)) (values : A → Tri) (bits : A → Bool) (t : Tri) (b : Bool) → ((a : A) → Above (values a) (bits a)) → Above t b → Above (tri_scanned scan values t) (scanned scan bits b)
scanned_above None values bits t b at h = h
scanned_above (Some s) values bits t b at h = chosen_above (values s.enable) (values s.input) t (bits s.enable) (bits s.input) b (at s.enable) (at s.input) h

pub taken_above : {A : Type 0} (takes : Takes A) (own : Tri) (o : Bool) (values : A → Tri) (bits : A → Bool) → Above own o → ((a : A) → Above (values a) (bits a)) → Above (tri_taken_by takes own values) (taken_by takes o bits)
taken_above takes own o values bits h at = scanned_above takes.scan values bits (values takes.input) (bits takes.input) at (at takes.input)

where_above : {A : Type 0} (value : Bool) (pin : Option A) (values : A → Tri) (bits : A → Bool) (t : Tri) (b : Bool) → ((a : A) → Above (values a) (bits a)) → Above t b → Above (tri_forced_where value pin values t) (forced_where value pin bits b)
where_above value None values bits t b at h = h
where_above value (Some pin) values bits t b at h = forced_above value (values pin) t (bits pin) b (at pin) h

pub left_above : {A : Type 0} (forces : Forces A) (t : Tri) (b : Bool) (values : A → Tri) (bits : A → Bool) → Above t b → ((a : A) → Above (values a) (bits a)) → Above (tri_forced_by forces values t) (forced_by forces bits b)
left_above forces t b values bits h at = where_above false forces.clear values bits _ _ at (where_above true forces.preset values bits t b at h)

-- ---- monotony

scanned_monotone : {A : Type 0} (scan : Option (Scan A)) (values below : A → Tri) (t u : Tri) → ((a : A) → AboveTri (values a) (below a)) → AboveTri t u → AboveTri (tri_scanned scan values t) (tri_scanned scan below u)
scanned_monotone None values below t u at h = h
scanned_monotone (Some s) values below t u at h = chosen_monotone (values s.enable) (below s.enable) (values s.input) (below s.input) t u (at s.enable) (at s.input) h

pub taken_monotone : {A : Type 0} (takes : Takes A) (own less : Tri) (values below : A → Tri) → AboveTri own less → ((a : A) → AboveTri (values a) (below a)) → AboveTri (tri_taken_by takes own values) (tri_taken_by takes less below)
taken_monotone takes own less values below h at = scanned_monotone takes.scan values below (values takes.input) (below takes.input) at (at takes.input)

pub where_monotone : {A : Type 0} (value : Bool) (pin : Option A) (values below : A → Tri) (t u : Tri) → ((a : A) → AboveTri (values a) (below a)) → AboveTri t u → AboveTri (tri_forced_where value pin values t) (tri_forced_where value pin below u)
where_monotone value None values below t u at h = h
where_monotone value (Some pin) values below t u at h = forced_monotone value (values pin) (below pin) t u (at pin) h

pub left_monotone : {A : Type 0} (forces : Forces A) (values below : A → Tri) (t u : Tri) → ((a : A) → AboveTri (values a) (below a)) → AboveTri t u → AboveTri (tri_forced_by forces values t) (tri_forced_by forces below u)
left_monotone forces values below t u at h = where_monotone false forces.clear values below _ _ at (where_monotone true forces.preset values below t u at h)

-- ---- resets and sets that act again change nothing

pub forced_twice : (value : Bool) (pin bit : Tri) → tri_forced value pin (tri_forced value pin bit) ≡ tri_forced value pin bit
forced_twice true Zero Zero = refl
forced_twice true Zero One = refl
forced_twice true Zero Unknown = refl
forced_twice true One Zero = refl
forced_twice true One One = refl
forced_twice true One Unknown = refl
forced_twice true Unknown Zero = refl
forced_twice true Unknown One = refl
forced_twice true Unknown Unknown = refl
forced_twice false Zero Zero = refl
forced_twice false Zero One = refl
forced_twice false Zero Unknown = refl
forced_twice false One Zero = refl
forced_twice false One One = refl
forced_twice false One Unknown = refl
forced_twice false Unknown Zero = refl
forced_twice false Unknown One = refl
forced_twice false Unknown Unknown = refl

both_twice : (clear preset bit : Tri) → tri_forced false clear (tri_forced true preset (tri_forced false clear (tri_forced true preset bit))) ≡ tri_forced false clear (tri_forced true preset bit)
both_twice Zero Zero Zero = refl
both_twice Zero Zero One = refl
both_twice Zero Zero Unknown = refl
both_twice Zero One Zero = refl
both_twice Zero One One = refl
both_twice Zero One Unknown = refl
both_twice Zero Unknown Zero = refl
both_twice Zero Unknown One = refl
both_twice Zero Unknown Unknown = refl
both_twice One Zero Zero = refl
both_twice One Zero One = refl
both_twice One Zero Unknown = refl
both_twice One One Zero = refl
both_twice One One One = refl
both_twice One One Unknown = refl
both_twice One Unknown Zero = refl
both_twice One Unknown One = refl
both_twice One Unknown Unknown = refl
both_twice Unknown Zero Zero = refl
both_twice Unknown Zero One = refl
both_twice Unknown Zero Unknown = refl
both_twice Unknown One Zero = refl
both_twice Unknown One One = refl
both_twice Unknown One Unknown = refl
both_twice Unknown Unknown Zero = refl
both_twice Unknown Unknown One = refl
both_twice Unknown Unknown Unknown = refl

wheres_twice : {A : Type 0} (clear preset : Option A) (values : A → Tri) (t : Tri) →
    tri_forced_where false clear values (tri_forced_where true preset values (tri_forced_where false clear values (tri_forced_where true preset values t))) ≡ tri_forced_where false clear values (tri_forced_where true preset values t)
wheres_twice None None values t = refl
wheres_twice None (Some pin) values t = forced_twice true (values pin) t
wheres_twice (Some pin) None values t = forced_twice false (values pin) t
wheres_twice (Some clear) (Some preset) values t = both_twice (values clear) (values preset) t

pub left_twice : {A : Type 0} (forces : Forces A) (values : A → Tri) (t : Tri) → tri_forced_by forces values (tri_forced_by forces values t) ≡ tri_forced_by forces values t
left_twice forces values t = wheres_twice forces.clear forces.preset values t

above_same : (t u : Tri) → t ≡ u → AboveTri t u
above_same t u same = rw same (above_self u)

pub left_again : {A : Type 0} (forces : Forces A) (values : A → Tri) (t : Tri) → AboveTri (tri_forced_by forces values t) (tri_forced_by forces values (tri_forced_by forces values t))
left_again forces values t = above_same _ _ (sym (left_twice forces values t))

-- ---- at rest, and at other places

rests_where : {A : Type 0} (value : Bool) (pin : Option A) (values : A → Tri) (t : Tri) → ((a : A) → pin ≡ Some a → values a ≡ One) → tri_forced_where value pin values t ≡ t
rests_where value None values t rest = refl
rests_where value (Some a) values t rest = rw (rest a refl) (forced_one value t)

pub left_rests : {A : Type 0} (forces : Forces A) (values : A → Tri) (t : Tri) → ((a : A) → IsForceOf forces a → values a ≡ One) → tri_forced_by forces values t ≡ t
left_rests forces values t rest = rests_where false forces.clear values _ (λ a is. rest a (inl is)) ∙ rests_where true forces.preset values t (λ a is. rest a (inr is))

left_where_same : {A : Type 0} (value : Bool) (pin : Option A) (values others : A → Tri) (t : Tri) → ((a : A) → pin ≡ Some a → values a ≡ others a) → tri_forced_where value pin values t ≡ tri_forced_where value pin others t
left_where_same value None values others t same = refl
left_where_same value (Some a) values others t same = ap (λ p. tri_forced value p t) (same a refl)

-- resets and sets whose pins have the same values leave the same
pub left_same : {A : Type 0} (forces : Forces A) (values others : A → Tri) (t : Tri) → ((a : A) → IsForceOf forces a → values a ≡ others a) → tri_forced_by forces values t ≡ tri_forced_by forces others t
left_same forces values others t same =
    left_where_same false forces.clear values others _ (λ a is. same a (inl is)) ∙ ap (tri_forced_where false forces.clear others) (left_where_same true forces.preset values others t (λ a is. same a (inr is)))

bits_rest_where : {A : Type 0} (value : Bool) (pin : Option A) (bits : A → Bool) (b : Bool) → ((a : A) → pin ≡ Some a → bits a ≡ true) → forced_where value pin bits b ≡ b
bits_rest_where value None bits b rest = refl
bits_rest_where value (Some a) bits b rest = rw (rest a refl) refl

pub bits_rest : {A : Type 0} (forces : Forces A) (bits : A → Bool) (b : Bool) → ((a : A) → IsForceOf forces a → bits a ≡ true) → forced_by forces bits b ≡ b
bits_rest forces bits b rest = bits_rest_where false forces.clear bits _ (λ a is. rest a (inl is)) ∙ bits_rest_where true forces.preset bits b (λ a is. rest a (inr is))

bits_moved_where : {A B : Type 0} (value : Bool) (moved : A → B) (pin : Option A) (bits : B → Bool) (old : A → Bool) (b : Bool) → ((a : A) → pin ≡ Some a → bits (moved a) ≡ old a) → forced_where value (option_map moved pin) bits b ≡ forced_where value pin old b
bits_moved_where value moved None bits old b same = refl
bits_moved_where value moved (Some a) bits old b same = ap (λ p. forced value p b) (same a refl)

pub bits_moved : {A B : Type 0} (moved : A → B) (forces : Forces A) (bits : B → Bool) (old : A → Bool) (b : Bool) → ((a : A) → IsForceOf forces a → bits (moved a) ≡ old a) → forced_by (moved_forces moved forces) bits b ≡ forced_by forces old b
bits_moved moved forces bits old b same =
    bits_moved_where false moved forces.clear bits old _ (λ a is. same a (inl is)) ∙
    ap (λ x. forced_where false forces.clear old x) (bits_moved_where true moved forces.preset bits old b (λ a is. same a (inr is)))

-- ---- a scan cell that is enabled

pub taken_on : {A : Type 0} (takes : Takes A) (scan : Scan A) (own : Tri) (values : A → Tri) → takes.scan ≡ Some scan → values scan.enable ≡ One → tri_taken_by takes own values ≡ values scan.input
taken_on takes scan own values is on = rw is (rw on (chosen_one (values scan.input) (values takes.input)))

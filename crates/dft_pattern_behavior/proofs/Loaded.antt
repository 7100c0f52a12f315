-- The bits that a load brings stand above what it leaves.
use Rattle.std.proofs.Common.{ℕ, suc, ◌+◌, ◌≡◌, ◌==◌, ◌⊎◌, inl, inr, Bool, true, false, List, [], ◌∷◌, ◌++◌, length, map, flat_map, Option, None, Some, slice_get, refl, sym, ap, subst, arith, ◌∙◌}
use Rattle.std.specs.Prelude.{if◌then◌else◌}
use Rattle.std.specs.List.{enumerate_from, range_with_len}
use Rattle.std.proofs.lemmas.Bool.{eqb-true}
use Rattle.std.proofs.lemmas.Option.{none-some, same_Some}
use Rattle.dft_base.specs.declared.tri.Tri.{Tri}
use Rattle.dft_base.specs.Tri.{known, AboveTri}
use Rattle.dft_netlist.specs.declared.ids.InstanceId.{InstanceId}
use Rattle.dft_config.specs.declared.config.RingConfig.{RingConfig}
use Rattle.dft_config.specs.Ring.{Table}
use Rattle.dft_stitch.specs.Plans.{cell_at}
use Rattle.dft_expect.specs.Loaded.{all_cells, loaded_bit, loaded_chain, loaded_of, bit_of_cell, or_unknown, loaded_values}

-- a bit that a list gives a cell is that of its place in a chain, or of a later one
in_chain : (ring : RingConfig) (table : Table) (cycles : ℕ) (late : Bool) (chain : ℕ) (cells more : List InstanceId) (bits : List Bool) (from c : ℕ) (b : Bool) →
    bit_of_cell (cells ++ more) (map (loaded_bit ring table cycles late chain) (range_with_len from (length cells)) ++ bits) c ≡ Some b →
    ((k : ℕ) × (slice_get cells k ≡ Some (record { 0 = c })) × (b ≡ loaded_bit ring table cycles late chain (from + k))) ⊎ (bit_of_cell more bits c ≡ Some b)
in_chain ring table cycles late chain [] more bits from c b h = inr h
in_chain ring table cycles late chain (x ∷ cells) more bits from c b h =
    chosen (x.0 == c) refl h (λ later. in_chain ring table cycles late chain cells more bits (from + 1) c b later)
  where
    chosen : (t : Bool) → (x.0 == c) ≡ t → (if t then Some (loaded_bit ring table cycles late chain from) else bit_of_cell (cells ++ more) (map (loaded_bit ring table cycles late chain) (range_with_len (from + 1) (length cells)) ++ bits) c) ≡ Some b →
        (bit_of_cell (cells ++ more) (map (loaded_bit ring table cycles late chain) (range_with_len (from + 1) (length cells)) ++ bits) c ≡ Some b →
        ((k : ℕ) × (slice_get cells k ≡ Some (record { 0 = c })) × (b ≡ loaded_bit ring table cycles late chain (from + 1 + k))) ⊎ (bit_of_cell more bits c ≡ Some b)) →
        ((k : ℕ) × (slice_get (x ∷ cells) k ≡ Some (record { 0 = c })) × (b ≡ loaded_bit ring table cycles late chain (from + k))) ⊎ (bit_of_cell more bits c ≡ Some b)
    chosen true is e later =
        let at : from ≡ from + 0 = omega arith in
        inl (0, ap (λ k. Some (record { 0 = k })) (eqb-true x.0 c is), sym (same_Some (loaded_bit ring table cycles late chain from) b e) ∙ ap (loaded_bit ring table cycles late chain) at)
    chosen false is e later = elim (later e) [
      | inl it ↦ (let at : from + 1 + it.0 ≡ from + suc it.0 = omega arith in inl (suc it.0, it.1, it.2 ∙ ap (loaded_bit ring table cycles late chain) at))
      | inr rest ↦ inr rest
    ]

-- the place of a cell that has a bit
pub record HasBit (ring : RingConfig) (table : Table) (cycles : ℕ) (late : ℕ → Bool) (from : ℕ) (chains : List (List InstanceId)) (c : ℕ) (b : Bool) : Type 0 where
  pub chain : ℕ
  pub place : ℕ
  pub stands : cell_at chains chain place ≡ Some (record { 0 = c })
  pub is : b ≡ loaded_bit ring table cycles (late (from + chain)) (from + chain) place

in_chains : (ring : RingConfig) (table : Table) (cycles : ℕ) (late : ℕ → Bool) (from : ℕ) (chains : List (List InstanceId)) (c : ℕ) (b : Bool) →
    bit_of_cell (all_cells chains) (flat_map (λ chain. loaded_chain ring table cycles (late chain.0) chain.0 (length chain.1)) (enumerate_from from chains)) c ≡ Some b → HasBit ring table cycles late from chains c b
in_chains ring table cycles late from [] c b h = absurd (none-some b h)
in_chains ring table cycles late from (x ∷ chains) c b h =
    elim (in_chain ring table cycles (late from) from x (all_cells chains) (flat_map (λ chain. loaded_chain ring table cycles (late chain.0) chain.0 (length chain.1)) (enumerate_from (from + 1) chains)) 0 c b h) [
      | inl it ↦ (
          let at : 0 + it.0 ≡ it.0 = omega arith in
          let here : from ≡ from + 0 = omega arith in
          record { chain = 0; place = it.0; stands = it.1; is = it.2 ∙ ap (loaded_bit ring table cycles (late from) from) at ∙ ap (λ k. loaded_bit ring table cycles (late k) k it.0) here })
      | inr later ↦ (
          let more = in_chains ring table cycles late (from + 1) chains c b later in
          let at : from + 1 + more.chain ≡ from + suc more.chain = omega arith in
          record { chain = suc more.chain; place = more.place; stands = more.stands; is = more.is ∙ ap (λ k. loaded_bit ring table cycles (late k) k more.place) at })
    ]

above_itself : (b : Bool) (t : Tri) → t ≡ known b → AboveTri (known b) t
above_itself true t e = subst (AboveTri (known true)) (sym e) tt
above_itself false t e = subst (AboveTri (known false)) (sym e) tt

unknown_above : (ring : RingConfig) (table : Table) (cycles : ℕ) (late : ℕ → Bool) (chains : List (List InstanceId)) (c : ℕ) (t : Tri) (o : Option Bool) → bit_of_cell (all_cells chains) (loaded_of ring table cycles late chains) c ≡ o →
    ((chain place : ℕ) → cell_at chains chain place ≡ Some (record { 0 = c }) → t ≡ known (loaded_bit ring table cycles (late chain) chain place)) → AboveTri (or_unknown o) t
unknown_above ring table cycles late chains c t None is brought = tt
unknown_above ring table cycles late chains c t (Some b) is brought =
    let it : HasBit ring table cycles late 0 chains c b = in_chains ring table cycles late 0 chains c b is in
    let at : it.chain ≡ 0 + it.chain = omega arith in
    above_itself b t (brought it.chain it.place it.stands ∙ ap (λ k. known (loaded_bit ring table cycles (late k) k it.place)) at ∙ ap known (sym it.is))

-- where each cell of the chains has its bit, the loaded values stand above
pub loaded_above : (ring : RingConfig) (table : Table) (cycles : ℕ) (late : ℕ → Bool) (chains : List (List InstanceId)) (c : ℕ) (t : Tri) →
    ((chain place : ℕ) → cell_at chains chain place ≡ Some (record { 0 = c }) → t ≡ known (loaded_bit ring table cycles (late chain) chain place)) → AboveTri (loaded_values chains (loaded_of ring table cycles late chains) c) t
loaded_above ring table cycles late chains c t brought = unknown_above ring table cycles late chains c t (bit_of_cell (all_cells chains) (loaded_of ring table cycles late chains) c) refl brought

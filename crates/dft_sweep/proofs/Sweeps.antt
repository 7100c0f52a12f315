-- Marked nets are evaluated one after another; every net that is not marked has its value.
use Rattle.std.proofs.Common.{ℕ, Bool, true, false, List, [], ◌∷◌, ◌≡◌, ◌<◌, ◌≤◌, ◌+◌, ◌≢◌, ◌⊎◌, inl, inr, Option, None, Some, length, drop, refl, sym, ap, ◌∙◌, subst, get_or, slice_set, get_or-set_same, get_or-set_other, true≢false, arith}
use Rattle.std.specs.Prelude.{if◌then◌else◌}
use Rattle.std.specs.List.{AllByRecursion}
use Rattle.std.proofs.lemmas.Bool.Decides.{eqb_tells, leb_tells}
use Rattle.std.proofs.lemmas.List.{get_or_past, drop_all, length-set}
use Rattle.dft_base.specs.declared.tri.Tri.{Tri}
use Rattle.dft_base.specs.declared.tri.Tri.TheVariants.{Unknown}
use Rattle.dft_cells.specs.Gates.{tri_of}
use Rattle.dft_behavior.specs.Logic.{Meaning, Input, Clock, Gate, Joined, Flop, Lockup, Free, reads}
use Rattle.dft_behavior.specs.Settled.{TriSources, value_given}
use Rattle.dft_netlist.specs.Orders.{Has}
use Rattle.dft_netlist.proofs.ListingLemmas.{has_item, has_front, all_other}
use Rattle.dft_logic.specs.declared.circuit.Op.{Op}
use Rattle.dft_logic.specs.declared.circuit.Op.TheVariants as op
use Rattle.dft_logic.specs.Values.{value_at}
use Rattle.dft_logic.specs.Circuit.{Circuit, meaning, op_at, IsCircuit, flag_at, source_places}
use Rattle.dft_logic.specs.Tables.{list_at}
use Rattle.dft_logic.proofs.Settlings.{inputs_agree, source_agree}
use Rattle.dft_logic.proofs.FlagLemmas.{blind}
use Rattle.dft_sweep.specs.Fields.{IsGivenBy, IsGivenIf, is_needed, with_bit}

-- ---- marks

-- of these nets the needed ones before a place of the list are marked
pub record Marking (needed : List Bool) (nets : List ℕ) (start marked : List Bool) (j : ℕ) : Type 0 where
  pub lowered : (k : ℕ) → flag_at marked k ≡ false → (flag_at start k ≡ false) × (is_needed needed k ≡ true → Has nets k → Has (drop j nets) k)
  pub raised : (k : ℕ) → flag_at marked k ≡ true → (flag_at start k ≡ true) ⊎ Has nets k

pub marking_starts : (needed : List Bool) (nets : List ℕ) (start : List Bool) → Marking needed nets start start 0
marking_starts needed nets start = record { lowered = λ k down. (down, λ needs h. h); raised = λ k up. inl up }

raised_more : (needed : List Bool) (nets : List ℕ) (start marked : List Bool) (j net d : ℕ) → net ≡ get_or nets j d → j < length nets → net < length marked → Marking needed nets start marked j → Marking needed nets start (slice_set marked net true) (j + 1)
raised_more needed nets start marked j net d is less live m = record {
  lowered = λ k down. elim (eqb_tells k net) [
    | inl q ↦ (let F : ℕ → Bool = λ n. flag_at (slice_set marked net true) n in absurd (true≢false (sym (get_or-set_same marked net true false live) ∙ sym (ap F q.1) ∙ down)))
    | inr q ↦ (let was = m.lowered k (sym (get_or-set_other marked net k true false q.1) ∙ down) in
        (was.0, λ needs h. elim (has_front nets j d k less (was.1 needs h)) [ inl e ↦ absurd (q.1 (e ∙ sym is)) | inr rest ↦ rest ]))
  ];
  raised = λ k up. elim (eqb_tells k net) [
    | inl q ↦ (let P : ℕ → Type 0 = λ n. Has nets n in inr (subst P (sym is ∙ sym q.1) (has_item nets j d less)))
    | inr q ↦ m.raised k (sym (get_or-set_other marked net k true false q.1) ∙ up)
  ];
}

pub marking_more : (needed : List Bool) (nets : List ℕ) (start marked : List Bool) (j net d : ℕ) → net ≡ get_or nets j d → j < length nets → net < length marked → Marking needed nets start marked j →
    Marking needed nets start (if is_needed needed net then slice_set marked net true else marked) (j + 1)
marking_more needed nets start marked j net d is less live m = by (is_needed needed net) refl
  where
    by : (b : Bool) → is_needed needed net ≡ b → Marking needed nets start (if b then slice_set marked net true else marked) (j + 1)
    by true needs = raised_more needed nets start marked j net d is less live m
    by false idle = record {
      lowered = λ k down. (let was = m.lowered k down in
          (was.0, λ needs h. elim (has_front nets j d k less (was.1 needs h)) [ inl e ↦ absurd (true≢false (sym needs ∙ ap (is_needed needed) (e ∙ sym is) ∙ idle)) | inr rest ↦ rest ]));
      raised = m.raised;
    }

pub marked_size : (b : Bool) (marked : List Bool) (net : ℕ) → length (if b then slice_set marked net true else marked) ≡ length marked
marked_size true marked net = length-set marked net true
marked_size false marked net = refl

pub marking_ends : (needed : List Bool) (nets : List ℕ) (start marked : List Bool) (j k : ℕ) → length nets ≤ j → Marking needed nets start marked j → flag_at marked k ≡ false → (flag_at start k ≡ false) × (is_needed needed k ≡ true → Has nets k → ⊥)
marking_ends needed nets start marked j k past m down = (let was = m.lowered k down in let P : List ℕ → Type 0 = λ l. Has l k in (was.0, λ needs h. subst P (drop_all j nets past) (was.1 needs h)))

-- ---- one net gets its value

-- a value hangs on what it reads
pub value_agree : (P : ℕ → Type 0) (sources : TriSources) (v w : ℕ → Tri) (net : ℕ) (m : Meaning) → AllByRecursion P (reads m) → ((k : ℕ) → P k → v k ≡ w k) → value_given sources v net m ≡ value_given sources w net m
value_agree P sources v w net Input all same = refl
value_agree P sources v w net Clock all same = refl
value_agree P sources v w net (Gate kind inputs) all same = ap (tri_of kind) (inputs_agree P v w inputs all same)
value_agree P sources v w net (Joined source) all same = source_agree P v w source all same
value_agree P sources v w net (Flop c inverted) all same = refl
value_agree P sources v w net (Lockup c e high source) all same = refl
value_agree P sources v w net Free all same = refl

-- nets that do not read it keep their values
pub written : (means : ℕ → Meaning) (sources : TriSources) (values : List Tri) (net k : ℕ) (t : Tri) → net < length values → t ≡ value_given sources (value_at values) net (means net) → (Has (reads (means k)) net → ⊥) →
    (k ≡ net) ⊎ IsGivenBy means sources values k → IsGivenBy means sources (slice_set values net t) k
written means sources values net k t live given blind before =
    let now : List Tri = slice_set values net t in
    let P : ℕ → Type 0 = λ m. m ≢ net in
    let same : (m : ℕ) → m ≢ net → value_at values m ≡ value_at now m = λ m ne. sym (get_or-set_other values net m t Unknown ne) in
    let agree : value_given sources (value_at values) k (means k) ≡ value_given sources (value_at now) k (means k) =
    value_agree P sources (value_at values) (value_at now) k (means k) (all_other net (reads (means k)) blind) same in
    let fresh : k ≡ net → IsGivenBy means sources now k =
    λ q. (let F : ℕ → Tri = value_at now in let G : ℕ → Tri = λ n. value_given sources (value_at values) n (means n) in
    ap F q ∙ get_or-set_same values net t Unknown live ∙ given ∙ sym (ap G q) ∙ agree) in
    elim (eqb_tells k net) [
      | inl q ↦ fresh q.1
      | inr q ↦ elim before [ inl e ↦ absurd (q.1 e) | inr is ↦ sym (same k q.1) ∙ is ∙ agree ]
    ]

-- what is not written because it is the same, is given too
pub kept : (means : ℕ → Meaning) (sources : TriSources) (values : List Tri) (net k : ℕ) (t : Tri) → t ≡ value_given sources (value_at values) net (means net) → t ≡ value_at values net → (k ≡ net) ⊎ IsGivenBy means sources values k → IsGivenBy means sources values k
kept means sources values net k t given same before = elim before [
  | inl q ↦ (let F : ℕ → Tri = value_at values in let G : ℕ → Tri = λ n. value_given sources (value_at values) n (means n) in ap F q ∙ sym same ∙ given ∙ sym (ap G q))
  | inr is ↦ is
]

-- a net that is not needed may have any value
pub unneeded : (needed : List Bool) (means : ℕ → Meaning) (sources : TriSources) (values : List Tri) (net k : ℕ) → is_needed needed net ≡ false → (k ≡ net) ⊎ IsGivenIf needed means sources values k → IsGivenIf needed means sources values k
unneeded needed means sources values net k idle before needs = elim before [ inl e ↦ absurd (true≢false (sym needs ∙ ap (is_needed needed) e ∙ idle)) | inr is ↦ is needs ]

pub reads_with : (o : Option Bool) (m : Meaning) (net : ℕ) → Has (reads (with_bit o m)) net → Has (reads m) net
reads_with None m net has = has
reads_with (Some bit) m net has = absurd has

-- ---- these nets, one after another

-- where each net that is not marked has its value or is one of these, it has it now, or is one that is left
abbrev pub Refreshing : (needed : List Bool) → (means : ℕ → Meaning) (sources : TriSources) (nets : List ℕ) (start values : List Tri) (first marked : List Bool) (j : ℕ) → Type 0
Refreshing needed means sources nets start values first marked j =
    ((k : ℕ) → flag_at first k ≡ false → Has nets k ⊎ IsGivenIf needed means sources start k) → (k : ℕ) → flag_at marked k ≡ false → Has (drop j nets) k ⊎ IsGivenIf needed means sources values k

pub refreshed_more : (needed : List Bool) (means : ℕ → Meaning) (sources : TriSources) (nets : List ℕ) (start values new : List Tri) (first marked now : List Bool) (j net d : ℕ) → (less : j < length nets) → (is : net ≡ get_or nets j d) →
    Refreshing needed means sources nets start values first marked j → (given : ((k : ℕ) → flag_at now k ≡ false → (k ≡ net) ⊎ IsGivenIf needed means sources values k → IsGivenIf needed means sources new k)) →
    (lowered : ((k : ℕ) → flag_at now k ≡ false → flag_at marked k ≡ false)) → Refreshing needed means sources nets start new first now (j + 1)
refreshed_more needed means sources nets start values new first marked now j net d less is s given lowered near k down =
    elim (s near k (lowered k down)) [
      | inl left ↦ elim (has_front nets j d k less left) [ inl e ↦ inr (given k down (inl (e ∙ sym is))) | inr rest ↦ inl rest ]
      | inr right ↦ inr (given k down (inr right))
    ]

pub refreshed_all : (needed : List Bool) (means : ℕ → Meaning) (sources : TriSources) (nets : List ℕ) (start values : List Tri) (first marked : List Bool) (j : ℕ) → length nets ≤ j → Refreshing needed means sources nets start values first marked j →
    ((k : ℕ) → flag_at first k ≡ false → Has nets k ⊎ IsGivenIf needed means sources start k) → (k : ℕ) → flag_at marked k ≡ false → IsGivenIf needed means sources values k
refreshed_all needed means sources nets start values first marked j past s near k down =
    let P : List ℕ → Type 0 = λ l. Has l k in
    elim (s near k down) [ inl left ↦ absurd (subst P (drop_all j nets past) left) | inr is ↦ is ]

-- ---- other sources

none_listed : (places : List ℕ) → places ≡ 0 ∷ [] → length places ≡ 0 → ⊥
none_listed [] is empty = absurd cc
none_listed (place ∷ places) is empty = absurd (omega (arith, empty))

-- a net that means a source is listed as one
pub source : (x : Circuit) (k : ℕ) (m : Meaning) → IsCircuit x → meaning (op_at x.ops k) ≡ m → source_places m ≡ 0 ∷ [] → Has (list_at x.sources 0) k
source x k m is e places =
    let own : source_places (meaning (op_at x.ops k)) ≡ 0 ∷ [] = ap source_places e ∙ places in
    elim (leb_tells (length x.ops) k) [
      | inl out ↦ (let P : Op → Type 0 = λ o. source_places (meaning o) ≡ 0 ∷ [] in absurd (none_listed [] (subst P (get_or_past x.ops k op.Free out.1) own) refl))
      | inr less ↦ is.tables.sources.each 0 k less.1 (omega arith) (let Q : List ℕ → Type 0 = λ l. Has l 0 in subst Q (sym own) (inl refl))
    ]

-- what a net means that is no source does not hang on the sources
pub given_any : (x : Circuit) (o : Option Bool) (a b : TriSources) (k : ℕ) (v : ℕ → Tri) (m : Meaning) → IsCircuit x → meaning (op_at x.ops k) ≡ m → Has (list_at x.sources 0) k ⊎ (value_given a v k (with_bit o m) ≡ value_given b v k (with_bit o m))
given_any x (Some bit) a b k v m is e = inr refl
given_any x None a b k v Input is e = inl (source x k Input is e refl)
given_any x None a b k v Clock is e = inl (source x k Clock is e refl)
given_any x None a b k v (Gate kind inputs) is e = inr refl
given_any x None a b k v (Joined from) is e = inr refl
given_any x None a b k v (Flop c inverted) is e = inl (source x k (Flop c inverted) is e refl)
given_any x None a b k v (Lockup c d high from) is e = inl (source x k (Lockup c d high from) is e refl)
given_any x None a b k v Free is e = inr refl

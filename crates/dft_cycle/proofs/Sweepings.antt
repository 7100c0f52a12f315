-- Marked nets are evaluated one after another; every net that is not marked has its driver's value.
use Rattle.std.proofs.Common.{ℕ, Bool, true, false, List, [], ◌≡◌, ◌<◌, ◌≤◌, ◌+◌, ◌≢◌, ◌⊎◌, inl, inr, length, drop, sym, ap, ◌∙◌, subst, get_or, slice_set, get_or-set_same, get_or-set_other, true≢false}
use Rattle.std.proofs.lemmas.Bool.Decides.{eqb_tells}
use Rattle.std.proofs.lemmas.List.{drop_all}
use Rattle.dft_base.specs.declared.tri.Tri.{Tri}
use Rattle.dft_base.specs.declared.tri.Tri.TheVariants.{Unknown}
use Rattle.dft_behavior.specs.Logic.{reads}
use Rattle.dft_behavior.specs.Settled.{value_given}
use Rattle.dft_netlist.specs.Orders.{Has}
use Rattle.dft_netlist.proofs.ListingLemmas.{has_item, has_front, all_other}
use Rattle.dft_logic.specs.declared.circuit.Op.{Op}
use Rattle.dft_cycle.specs.Machine.{value_at}
use Rattle.dft_logic.specs.Circuit.{meaning, op_at, Supply, leaves_from, flag_at}
use Rattle.dft_logic.proofs.Settlings.{IsGiven, given_agree}
use Rattle.dft_logic.proofs.FlagLemmas.{blind}

-- ---- marks

-- these nets that are not before a place of a list are marked
pub record Marking (nets : List ℕ) (start marked : List Bool) (j : ℕ) : Type 0 where
  pub lowered : (k : ℕ) → flag_at marked k ≡ false → (flag_at start k ≡ false) × (Has nets k → Has (drop j nets) k)
  pub raised : (k : ℕ) → flag_at marked k ≡ true → (flag_at start k ≡ true) ⊎ Has nets k

pub marking_starts : (nets : List ℕ) (start : List Bool) → Marking nets start start 0
marking_starts nets start = record { lowered = λ k down. (down, λ h. h); raised = λ k up. inl up }

pub marking_more : (nets : List ℕ) (start marked : List Bool) (j net d : ℕ) → net ≡ get_or nets j d → j < length nets → net < length marked → Marking nets start marked j → Marking nets start (slice_set marked net true) (j + 1)
marking_more nets start marked j net d is less live m = record {
  lowered = λ k down. elim (eqb_tells k net) [
    | inl q ↦ (let F : ℕ → Bool = λ n. flag_at (slice_set marked net true) n in absurd (true≢false (sym (get_or-set_same marked net true false live) ∙ sym (ap F q.1) ∙ down)))
    | inr q ↦ (let was = m.lowered k (sym (get_or-set_other marked net k true false q.1) ∙ down) in
        (was.0, λ h. elim (has_front nets j d k less (was.1 h)) [ inl e ↦ absurd (q.1 (e ∙ sym is)) | inr rest ↦ rest ]))
  ];
  raised = λ k up. elim (eqb_tells k net) [
    | inl q ↦ (let P : ℕ → Type 0 = λ n. Has nets n in inr (subst P (sym is ∙ sym q.1) (has_item nets j d less)))
    | inr q ↦ m.raised k (sym (get_or-set_other marked net k true false q.1) ∙ up)
  ];
}

pub marking_ends : (nets : List ℕ) (start marked : List Bool) (j k : ℕ) → length nets ≤ j → Marking nets start marked j → flag_at marked k ≡ false → (flag_at start k ≡ false) × (Has nets k → ⊥)
marking_ends nets start marked j k past m down = (let was = m.lowered k down in let P : List ℕ → Type 0 = λ l. Has l k in (was.0, λ h. subst P (drop_all j nets past) (was.1 h)))

-- ---- one net gets its driver's value

-- nets that do not read it keep their drivers' values
pub written : (ops : List Op) (base : Supply) (values : List Tri) (net k : ℕ) (t : Tri) → net < length values →
    t ≡ value_given (leaves_from base (value_at values)) (value_at values) net (meaning (op_at ops net)) → (Has (reads (meaning (op_at ops k))) net → ⊥) → (k ≡ net) ⊎ IsGiven ops base values k →
    IsGiven ops base (slice_set values net t) k
written ops base values net k t live given blind before =
    let now : List Tri = slice_set values net t in
    let P : ℕ → Type 0 = λ m. m ≢ net in
    let same : (m : ℕ) → m ≢ net → value_at values m ≡ value_at now m = λ m ne. sym (get_or-set_other values net m t Unknown ne) in
    let agree : value_given (leaves_from base (value_at values)) (value_at values) k (meaning (op_at ops k)) ≡ value_given (leaves_from base (value_at now)) (value_at now) k (meaning (op_at ops k)) =
    given_agree P base (value_at values) (value_at now) k (meaning (op_at ops k)) (all_other net (reads (meaning (op_at ops k))) blind) same in
    let fresh : k ≡ net → IsGiven ops base now k =
    λ q. (let F : ℕ → Tri = value_at now in let G : ℕ → Tri = λ n. value_given (leaves_from base (value_at values)) (value_at values) n (meaning (op_at ops n)) in
    ap F q ∙ get_or-set_same values net t Unknown live ∙ given ∙ sym (ap G q) ∙ agree) in
    elim (eqb_tells k net) [
      | inl q ↦ fresh q.1
      | inr q ↦ elim before [ inl e ↦ absurd (q.1 e) | inr is ↦ sym (same k q.1) ∙ is ∙ agree ]
    ]

-- ---- these nets, one after another

pub record Refreshing (ops : List Op) (base : Supply) (nets : List ℕ) (start values : List Tri) (first marked : List Bool) (any : Bool) (j : ℕ) : Type 0 where
  pub given : (others : List ℕ) → ((k : ℕ) → flag_at first k ≡ false → Has nets k ⊎ (Has others k ⊎ IsGiven ops base start k)) → (k : ℕ) → flag_at marked k ≡ false →
      Has (drop j nets) k ⊎ (Has others k ⊎ IsGiven ops base values k)
  pub none : any ≡ false → (k : ℕ) → flag_at first k ≡ false → flag_at marked k ≡ false

pub refreshed_more : (ops : List Op) (base : Supply) (nets : List ℕ) (start values new : List Tri) (first marked now : List Bool) (any : Bool) (j net d : ℕ) → (less : j < length nets) → (is : net ≡ get_or nets j d) →
    Refreshing ops base nets start values first marked any j → (given : ((k : ℕ) → flag_at now k ≡ false → (k ≡ net) ⊎ IsGiven ops base values k → IsGiven ops base new k)) →
    (lowered : ((k : ℕ) → flag_at now k ≡ false → flag_at marked k ≡ false)) → (others : List ℕ) →
    (near : ((k : ℕ) → flag_at first k ≡ false → Has nets k ⊎ (Has others k ⊎ IsGiven ops base start k))) → (k : ℕ) → (down : flag_at now k ≡ false) → Has (drop (j + 1) nets) k ⊎ (Has others k ⊎ IsGiven ops base new k)
refreshed_more ops base nets start values new first marked now any j net d less is s given lowered others near k down =
    elim (s.given others near k (lowered k down)) [
      | inl left ↦ elim (has_front nets j d k less left) [ inl e ↦ inr (inr (given k down (inl (e ∙ sym is)))) | inr rest ↦ inl rest ]
      | inr right ↦ elim right [ inl other ↦ inr (inl other) | inr is ↦ inr (inr (given k down (inr is))) ]
    ]

-- two lists, one after the other
pub both_refreshed : (first mid last : List Bool) (a b la lb : List ℕ) (P Q R : ℕ → Type 0) → (ea : a ≡ la) → (eb : b ≡ lb) → (near : ((k : ℕ) → Has la k ⊎ (Has lb k ⊎ P k))) →
    (one : ((others : List ℕ) → ((k : ℕ) → flag_at first k ≡ false → Has a k ⊎ (Has others k ⊎ P k)) → (k : ℕ) → flag_at mid k ≡ false → Has others k ⊎ Q k)) →
    (two : ((others : List ℕ) → ((k : ℕ) → flag_at mid k ≡ false → Has b k ⊎ (Has others k ⊎ Q k)) → (k : ℕ) → flag_at last k ≡ false → Has others k ⊎ R k)) → (k : ℕ) → (down : flag_at last k ≡ false) → R k
both_refreshed first mid last a b la lb P Q R ea eb near one two k down =
    let start : (m : ℕ) → flag_at first m ≡ false → Has a m ⊎ (Has b m ⊎ P m) = λ m f.
    (let H : List ℕ → Type 0 = λ l. Has l m in elim (near m) [ inl h ↦ inl (subst H (sym ea) h) | inr rest ↦ elim rest [ inl h ↦ inr (inl (subst H (sym eb) h)) | inr is ↦ inr (inr is) ] ]) in
    elim (two [] (λ m f. elim (one b start m f) [ inl h ↦ inl h | inr is ↦ inr (inr is) ]) k down) [ inl none ↦ absurd none | inr is ↦ is ]

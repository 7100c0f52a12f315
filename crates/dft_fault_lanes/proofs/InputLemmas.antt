-- What a vector sets and pulses, from the last signal to the first.
use Rattle.std.proofs.Common.{ℕ, suc, Bool, false, ◌≡◌, ◌≢◌, ◌<◌, ◌≤◌, ◌+◌, inl, inr, List, [], ◌∷◌, length, drop, drop-cons, add-one, refl, sym, ap, subst, arith, ◌∙◌, get_or, slice_set, get_or-set_same, get_or-set_other}
use Rattle.std.specs.Prelude.{if◌then◌else◌, AllPairs}
use Rattle.std.proofs.lemmas.List.{length-set, length-drop, drop_all, get_or-drop, get_or_past}
use Rattle.std.proofs.lemmas.Bool.{cases_eq}
use Rattle.std.proofs.lemmas.Bool.Decides.{eqb_tells, leb_tells}
use Rattle.dft_base.specs.declared.tri.Tri.{Tri}
use Rattle.dft_base.specs.declared.tri.Tri.TheVariants.{Unknown}
use Rattle.dft_logic.specs.Values.{value_at}
use Rattle.dft_logic.specs.Circuit.{flag_at}
use Rattle.dft_patterns.specs.declared.act.Act.{Act}
use Rattle.dft_patterns.specs.declared.act.Act.TheVariants.{Unset}
use Rattle.dft_replay.specs.Rows.{act_on, set_by, is_pulse}

-- the nets of signals differ
abbrev pub Differ : List ℕ → Type 0
Differ nets = AllPairs (λ a b. a ≢ b) nets

-- a net that is none of these has no act
none_on : (nets : List ℕ) (acts : List Act) (net : ℕ) → ((i : ℕ) → i < length nets → get_or nets i 0 ≡ net → ⊥) → act_on nets acts net ≡ Unset
none_on [] acts net none = refl
none_on (first ∷ nets) [] net none = refl
none_on (first ∷ nets) (act ∷ acts) net none = elim (eqb_tells first net) [
  | inl is ↦ absurd (none 0 (omega arith) is.1)
  | inr other ↦ ap (λ b. if b then act else act_on nets acts net) other.0 ∙ none_on nets acts net (λ i within here. none (suc i) (omega arith) here)
]

-- from a signal on, the act at each net
abbrev pub act_from : List ℕ → List Act → (signal net : ℕ) → Act
act_from nets acts i net = act_on (drop i nets) (drop i acts) net

-- what the net at a signal is set to does not come after the signal
later_unset : (nets : List ℕ) (acts : List Act) (i net : ℕ) → Differ nets → i < length nets → get_or nets i 0 ≡ net → act_from nets acts (i + 1) net ≡ Unset
later_unset nets acts i net differ less here = none_on (drop (i + 1) nets) (drop (i + 1) acts) net
    (λ j within at. (let size = length-drop (i + 1) nets in differ i (i + 1 + j) 0 (omega arith) (omega (arith, within, size)) (here ∙ sym at ∙ get_or-drop (i + 1) nets j 0)))

-- the act at the net of a signal, and at another
act_here : (nets : List ℕ) (acts : List Act) (i net : ℕ) → i < length nets → i < length acts → get_or nets i 0 ≡ net → act_from nets acts i net ≡ get_or acts i Unset
act_here nets acts i net less within here =
    let first : drop i nets ≡ get_or nets i 0 ∷ drop (i + 1) nets = rw (add-one) (drop-cons nets i 0 less) in
    let second : drop i acts ≡ get_or acts i Unset ∷ drop (i + 1) acts = rw (add-one) (drop-cons acts i Unset within) in
    (λ t. act_on (first t) (second t) net)
    ∙ elim (eqb_tells (get_or nets i 0) net) [
      | inl is ↦ ap (λ b. if b then get_or acts i Unset else act_from nets acts (i + 1) net) is.0
      | inr other ↦ absurd (other.1 here)
    ]

act_there : (nets : List ℕ) (acts : List Act) (i net : ℕ) → i < length nets → i < length acts → (get_or nets i 0 ≡ net → ⊥) → act_from nets acts i net ≡ act_from nets acts (i + 1) net
act_there nets acts i net less within apart =
    let first : drop i nets ≡ get_or nets i 0 ∷ drop (i + 1) nets = rw (add-one) (drop-cons nets i 0 less) in
    let second : drop i acts ≡ get_or acts i Unset ∷ drop (i + 1) acts = rw (add-one) (drop-cons acts i Unset within) in
    (λ t. act_on (first t) (second t) net)
    ∙ elim (eqb_tells (get_or nets i 0) net) [
      | inl is ↦ absurd (apart is.1)
      | inr other ↦ ap (λ b. if b then get_or acts i Unset else act_from nets acts (i + 1) net) other.0
    ]

none_after : (nets : List ℕ) (acts : List Act) (i net : ℕ) → length nets ≤ i → act_from nets acts i net ≡ Unset
none_after nets acts i net past = ap (λ (l : List ℕ). act_on l (drop i acts) net) (drop_all i nets past)

-- ---- inputs

-- the ports are set as the signals from one on set them
abbrev pub SetFrom : List ℕ → List Act → (start now : List Tri) → (signal : ℕ) → Type 0
SetFrom nets acts start now i = (length now ≡ length start) × ((net : ℕ) → value_at now net ≡ set_by (act_from nets acts i net) (value_at start net))

pub set_none : (nets : List ℕ) (acts : List Act) (start : List Tri) (i : ℕ) → length nets ≤ i → SetFrom nets acts start start i
set_none nets acts start i past = (refl, λ net. ap (λ (a : Act). set_by a (value_at start net)) (sym (none_after nets acts i net past)))

pub set_one : (nets : List ℕ) (acts : List Act) (start now : List Tri) (i net : ℕ) (act : Act) (before value : Tri) → Differ nets → i < length nets → i < length acts → get_or nets i 0 ≡ net → net < length start →
    act ≡ get_or acts i Unset → before ≡ value_at now net → value ≡ set_by act before → SetFrom nets acts start now (i + 1) → SetFrom nets acts start (slice_set now net value) i
set_one nets acts start now i net act before value differ less within here live is_act is_before is s = (
  length-set now net value ∙ s.0,
  λ k. elim (cases_eq k net) [
    | inl e ↦ subst (λ (j : ℕ). value_at (slice_set now net value) j ≡ set_by (act_from nets acts i j) (value_at start j)) (sym e)
        (get_or-set_same now net value Unknown (omega (arith, live, s.0)) ∙ is ∙ (λ t. set_by (is_act t) (is_before t)) ∙ ap (set_by (get_or acts i Unset)) (s.1 net ∙ ap (λ (a : Act). set_by a (value_at start net)) (later_unset nets acts i net differ less here))
        ∙ ap (λ (a : Act). set_by a (value_at start net)) (sym (act_here nets acts i net less within here)))
    | inr ne ↦ get_or-set_other now net k value Unknown ne ∙ s.1 k ∙ ap (λ (a : Act). set_by a (value_at start k)) (sym (act_there nets acts i k less within (λ at. ne (sym at ∙ here))))
  ],
)

-- ---- pulses

abbrev pub FlaggedFrom : List ℕ → List Act → (count : ℕ) → (now : List Bool) → (signal : ℕ) → Type 0
FlaggedFrom nets acts count now i = (length now ≡ count) × ((net : ℕ) → flag_at now net ≡ is_pulse (act_from nets acts i net))

pub flag_none : (nets : List ℕ) (acts : List Act) (now : List Bool) (count i : ℕ) → length now ≡ count → ((e : ℕ) → flag_at now e ≡ false) → length nets ≤ i → FlaggedFrom nets acts count now i
flag_none nets acts now count i size low past = (size, λ net. low net ∙ ap is_pulse (sym (none_after nets acts i net past)))

pub flag_one : (nets : List ℕ) (acts : List Act) (count : ℕ) (now : List Bool) (i net : ℕ) (act : Act) (up : Bool) → i < length nets → i < length acts → get_or nets i 0 ≡ net → net < count →
    act ≡ get_or acts i Unset → up ≡ is_pulse act → FlaggedFrom nets acts count now (i + 1) → FlaggedFrom nets acts count (slice_set now net up) i
flag_one nets acts count now i net act up less within here live is_act is s = (
  length-set now net up ∙ s.0,
  λ k. elim (cases_eq k net) [
    | inl e ↦ subst (λ (j : ℕ). flag_at (slice_set now net up) j ≡ is_pulse (act_from nets acts i j)) (sym e)
        (get_or-set_same now net up false (omega (arith, live, s.0)) ∙ is ∙ ap is_pulse is_act ∙ ap is_pulse (sym (act_here nets acts i net less within here)))
    | inr ne ↦ get_or-set_other now net k up false ne ∙ s.1 k ∙ ap is_pulse (sym (act_there nets acts i k less within (λ at. ne (sym at ∙ here))))
  ],
)

-- ---- flags that are lowered

abbrev pub LoweredTo : (now : List Bool) → (place : ℕ) → Type 0
LoweredTo now place = (k : ℕ) → k < place → flag_at now k ≡ false

pub lower_more : (now : List Bool) (place : ℕ) → place < length now → LoweredTo now place → LoweredTo (slice_set now place false) (place + 1)
lower_more now place less low k before = elim (cases_eq k place) [
  | inl e ↦ ap (flag_at (slice_set now place false)) e ∙ get_or-set_same now place false false less
  | inr ne ↦ get_or-set_other now place k false false ne ∙ low k (omega (arith, before, ne))
]

pub all_low : (now : List Bool) (place : ℕ) → length now ≤ place → LoweredTo now place → (e : ℕ) → flag_at now e ≡ false
all_low now place all low e = elim (leb_tells (length now) e) [
  | inl far ↦ get_or_past now e false far.1
  | inr near ↦ low e (omega (arith, near.1, all))
]

-- Tables of entries.
use Rattle.std.proofs.Common.{ℕ, Bool, true, refl, subst, List, [], ◌∷◌, Option, Some, inl, inr, ◌⊎◌, ◌≡◌, ◌<◌, ◌≤◌, ◌+◌, ◌≢◌, ◌∙◌, sym, ap, drop, drop-cons, add-one, length, map, get_or, slice_set, get_or-set_same, get_or-set_other, below_more, arith}
use Rattle.std.proofs.lemmas.List.{get_or_default, drop_all}
use Rattle.dft_netlist.specs.declared.ids.NetId.{NetId}
use Rattle.dft_behavior.specs.Logic.{Cell}
use Rattle.dft_netlist.specs.Orders.{Has, numbers_of}
use Rattle.dft_takings.specs.Entries as entries
use Rattle.dft_logic.specs.declared.circuit.FlipFlop.{FlipFlop}
use Rattle.dft_takings.specs.declared.entries.Entry.{Entry}
use Rattle.dft_takings.specs.declared.entries.Entry.TheVariants.{Keeps}
use Rattle.dft_logic.specs.Circuit.{cell_of, cell_at, flag_at}
use Rattle.dft_takings.specs.EntryTables.{entry_of, entry_at, MarksAll, entry_needs}
use Rattle.dft_logic.proofs.Writings.{cell_read}

pub find_more : (flops : List FlipFlop) (table : List Entry) (place : ℕ) (d : FlipFlop) (entry : Entry) (given : Cell → Option entries.Entry) → place < length flops → length table ≡ length flops →
    Some (entry_of entry) ≡ given (cell_of (get_or flops place d)) → ((c : ℕ) → c < place → given (cell_at (map cell_of flops) c) ≡ Some (entry_at table c)) →
    (c : ℕ) → c < place + 1 → given (cell_at (map cell_of flops) c) ≡ Some (entry_at (slice_set table place entry) c)
find_more flops table place d entry given less len is old =
    let live : place < length table = omega arith in
    below_more _ place
    (λ c h. (let ne : c ≢ place = omega arith in old c h ∙ ap (λ (e : Entry). Some (entry_of e)) (sym (get_or-set_other table place c entry Keeps ne))))
    (ap given (sym (cell_read flops place d less)) ∙ sym is ∙ ap (λ (e : Entry). Some (entry_of e)) (sym (get_or-set_same table place entry Keeps live)))

-- ---- marks

-- what is marked for the flip-flops before a place, by what each needs
pub record MarkedBy (flops : List FlipFlop) (needs : Cell → List ℕ) (start marked : List Bool) (place : ℕ) : Type 0 where
  pub size : length marked ≡ length start
  pub kept : (k : ℕ) → flag_at start k ≡ true → flag_at marked k ≡ true
  pub each : (c : ℕ) → c < place → MarksAll start marked (needs (cell_at (map cell_of flops) c))

pub marked_by_none : (flops : List FlipFlop) (needs : Cell → List ℕ) (start : List Bool) → MarkedBy flops needs start start 0
marked_by_none flops needs start = record { size = refl; kept = λ k up. up; each = λ c h. absurd (omega arith) }

pub marked_by_more : (flops : List FlipFlop) (needs : Cell → List ℕ) (start marked now : List Bool) (place : ℕ) (d : FlipFlop) → place < length flops →
    MarksAll marked now (needs (cell_of (get_or flops place d))) → MarkedBy flops needs start marked place → MarkedBy flops needs start now (place + 1)
marked_by_more flops needs start marked now place d less m old =
    let same : length now ≡ length start = m.size ∙ old.size in
    let kept : (k : ℕ) → flag_at start k ≡ true → flag_at now k ≡ true = λ k up. m.kept k (old.kept k up) in
    let C : Cell → Type 0 = λ cell. MarksAll marked now (needs cell) in
    let mine : MarksAll marked now (needs (cell_at (map cell_of flops) place)) = subst C (cell_read flops place d less) m in
    let size : length marked ≡ length start = old.size in
    record {
      size = same;
      kept = kept;
      each = below_more _ place
          (λ c h. record { size = same; kept = kept; all = λ k live has. m.kept k ((old.each c h).all k live has) })
          (record { size = same; kept = kept; all = λ k live has. mine.all k (omega arith) has });
    }

-- what is marked for the flip-flops before a place
pub record MarkedFor (flops : List FlipFlop) (table : List Entry) (start marked : List Bool) (place : ℕ) : Type 0 where
  pub size : length marked ≡ length start
  pub kept : (k : ℕ) → flag_at start k ≡ true → flag_at marked k ≡ true
  pub each : (c : ℕ) → c < place → MarksAll start marked (entry_needs (cell_at (map cell_of flops) c) (entry_at table c))

pub marked_none : (flops : List FlipFlop) (table : List Entry) (start : List Bool) → MarkedFor flops table start start 0
marked_none flops table start = record { size = refl; kept = λ k up. up; each = λ c h. absurd (omega arith) }

pub marked_more : (flops : List FlipFlop) (table : List Entry) (start marked now : List Bool) (place : ℕ) (d : FlipFlop) (e : Entry) → place < length flops → place < length table →
    MarksAll marked now (entry_needs (cell_of (get_or flops place d)) (entry_of (get_or table place e))) → MarkedFor flops table start marked place → MarkedFor flops table start now (place + 1)
marked_more flops table start marked now place d e less here m old =
    let same : length now ≡ length start = m.size ∙ old.size in
    let kept : (k : ℕ) → flag_at start k ≡ true → flag_at now k ≡ true = λ k up. m.kept k (old.kept k up) in
    let C : Cell → Type 0 = λ cell. MarksAll marked now (entry_needs cell (entry_of (get_or table place e))) in
    let E : Entry → Type 0 = λ entry. MarksAll marked now (entry_needs (cell_at (map cell_of flops) place) (entry_of entry)) in
    let mine : MarksAll marked now (entry_needs (cell_at (map cell_of flops) place) (entry_at table place)) = subst E (get_or_default table place e Keeps here) (subst C (cell_read flops place d less) m) in
    let size : length marked ≡ length start = old.size in
    record {
      size = same;
      kept = kept;
      each = below_more _ place
          (λ c h. record { size = same; kept = kept; all = λ k live has. m.kept k ((old.each c h).all k live has) })
          (record { size = same; kept = kept; all = λ k live has. mine.all k (omega arith) has });
    }

-- ---- nets of a list

-- each of the nets is marked, or still to come
pub record MarkedNets (start marked : List Bool) (nets : List NetId) (j : ℕ) : Type 0 where
  pub size : length marked ≡ length start
  pub kept : (k : ℕ) → flag_at start k ≡ true → flag_at marked k ≡ true
  pub either : (k : ℕ) → k < length start → Has (numbers_of nets) k → (flag_at marked k ≡ true) ⊎ Has (numbers_of (drop j nets)) k

pub marked_nets_none : (start : List Bool) (nets : List NetId) → MarkedNets start start nets 0
marked_nets_none start nets = record { size = refl; kept = λ k up. up; either = λ k live h. inr h }

pub marked_nets_more : (start marked now : List Bool) (nets : List NetId) (j : ℕ) (d : NetId) → j < length nets → MarksAll marked now ((get_or nets j d).0 ∷ []) → MarkedNets start marked nets j →
    MarkedNets start now nets (j + 1)
marked_nets_more start marked now nets j d less m old =
    let net : NetId = get_or nets j d in
    let e : drop j nets ≡ net ∷ drop (j + 1) nets = rw (add-one) (drop-cons nets j d less) in
    let size : length marked ≡ length start = old.size in
    record {
      size = m.size ∙ old.size;
      kept = λ k up. m.kept k (old.kept k up);
      either = λ k live h. elim (old.either k live h) [
        | inl up ↦ inl (m.kept k up)
        | inr later ↦ (let P : List NetId → Type 0 = λ l. Has (numbers_of l) k in elim (subst P e later) [
          | inl q ↦ inl (m.all k (omega arith) (inl q))
          | inr rest ↦ inr rest
        ])
      ];
    }

pub marked_nets_all : (start marked : List Bool) (nets : List NetId) (j : ℕ) → length nets ≤ j → MarkedNets start marked nets j → MarksAll start marked (numbers_of nets)
marked_nets_all start marked nets j past m = record {
  size = m.size;
  kept = m.kept;
  all = λ k live h. elim (m.either k live h) [
    | inl up ↦ up
    | inr later ↦ (let P : List NetId → Type 0 = λ l. Has (numbers_of l) k in absurd (subst P (drop_all j nets past) later))
  ];
}

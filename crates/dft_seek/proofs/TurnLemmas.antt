-- From a dead node to the next one, and what the course of a search tells.
use Rattle.std.proofs.Common.{ℕ, ◌+◌, ◌≡◌, ◌<◌, ◌≤◌, inl, inr, Bool, true, false, List, [], ◌∷◌, ◌++◌, length, Option, None, Some, sym, subst, ap, arith, ◌∙◌, append_assoc, append-nil}
use Rattle.std.specs.Prelude.{if◌then◌else◌}
use Rattle.std.proofs.lemmas.Bool.Decides.{leb_tells}
use Rattle.dft_base.specs.Lexing.{Text}
use Rattle.dft_base.proofs.NumberLemmas.{not_less, is_less}
use Rattle.dft_seek.specs.Searches.{Search}
use Rattle.dft_seek.specs.Walks.{Cone, IsCone}
use Rattle.dft_seek.specs.Laws.{CanSeek}
use Rattle.dft_seek.specs.Trees.{Open, Looks, Tree}
use Rattle.dft_seek.specs.Turns.{End, Forest, IsLeaf, pending, pending_from}
use Rattle.dft_seek.specs.Sought.{IsSought, told}
use Rattle.dft_seek.specs.declared.found.Found.TheVariants as found
use Rattle.dft_seek.proofs.Forests.{at_dead, at_found, at_open, forest_there, tree_of}
use Rattle.dft_seek.proofs.TreeLemmas.{ends_there, whole_at}

-- ---- nodes that are pending

-- behind one bit more
pending_one : (before bits : List Bool) (bit : Bool) → pending_from before (bits ++ bit ∷ []) ≡ pending_from (before ++ bits) (bit ∷ []) ++ pending_from before bits
pending_one before [] bit = ap (λ (l : List Bool). pending_from l (bit ∷ [])) (sym (append-nil before)) ∙ sym (append-nil (pending_from (before ++ []) (bit ∷ [])))
pending_one before (true ∷ bits) bit =
    pending_one (before ++ true ∷ []) bits bit ∙ ap (λ (l : List Bool). pending_from l (bit ∷ []) ++ pending_from (before ++ true ∷ []) bits) (append_assoc before (true ∷ []) bits)
pending_one before (false ∷ bits) bit =
    ap (λ (l : List (List Bool)). l ++ (before ++ true ∷ []) ∷ []) (pending_one (before ++ false ∷ []) bits bit)
    ∙ append_assoc (pending_from ((before ++ false ∷ []) ++ bits) (bit ∷ [])) (pending_from (before ++ false ∷ []) bits) ((before ++ true ∷ []) ∷ [])
    ∙ ap (λ (l : List Bool). pending_from l (bit ∷ []) ++ (pending_from (before ++ false ∷ []) bits ++ (before ++ true ∷ []) ∷ [])) (append_assoc before (false ∷ []) bits)

pub pending_false : (bits : List Bool) → pending (bits ++ false ∷ []) ≡ (bits ++ true ∷ []) ∷ pending bits
pending_false bits = pending_one [] bits false

pub pending_true : (bits : List Bool) → pending (bits ++ true ∷ []) ≡ pending bits
pending_true bits = pending_one [] bits true

-- ---- one node after another

-- where the search goes on, the next node is behind bit 0
pub leaf_open : (s : Search) (cone : Cone) (old bits : List Bool) (dead : ℕ) (cube : Option (List Bool)) → Looks s cone bits Open →
    ((d : ℕ) (c : Option (List Bool)) → Forest s cone (bits ∷ pending bits) d c → Forest s cone (old ∷ pending old) d c) →
    Forest s cone ((bits ++ false ∷ []) ∷ pending (bits ++ false ∷ [])) dead cube → Forest s cone (old ∷ pending old) dead cube
leaf_open s cone old bits dead cube looks leads forest =
    leads dead cube (at_open s cone bits (pending bits) dead cube looks (subst (λ (nodes : List (List Bool)). Forest s cone ((bits ++ false ∷ []) ∷ nodes) dead cube) (pending_false bits) forest))

-- what is left of a search leads to its tree, behind so many dead nodes
pub record LeftOf (s : Search) (cone : Cone) (so_far : ℕ) (nodes : List (List Bool)) : Type 0 where
  pub leads : (dead : ℕ) (cube : Option (List Bool)) → Forest s cone nodes dead cube → Tree s cone [] (so_far + dead) cube

pub left_starts : (s : Search) (cone : Cone) → LeftOf s cone 0 ([] ∷ pending [])
left_starts s cone = record { leads = λ dead cube forest. subst (λ (k : ℕ). Tree s cone [] k cube) (let same : dead ≡ 0 + dead = omega arith in same) (tree_of s cone [] dead cube forest) }

-- a dead node more
pub left_dead : (s : Search) (cone : Cone) (so_far : ℕ) (old new : List Bool) → LeftOf s cone so_far (old ∷ pending old) → IsLeaf s cone old new false → LeftOf s cone (so_far + 1) (pending new)
left_dead s cone so_far old new left leaf = record {
  leads = λ dead cube forest.
      subst (λ (k : ℕ). Tree s cone [] k cube) (let same : so_far + (1 + dead) ≡ (so_far + 1) + dead = omega arith in same)
      (left.leads (1 + dead) cube (leaf.leads (1 + dead) cube (at_dead s cone new (pending new) dead cube leaf.looks forest)));
}

pub left_turned : (s : Search) (cone : Cone) (so_far : ℕ) (bits next : List Bool) → LeftOf s cone so_far (pending bits) → pending bits ≡ next ∷ pending next → LeftOf s cone so_far (next ∷ pending next)
left_turned s cone so_far bits next left same = subst (LeftOf s cone so_far) same left

-- ---- what is told

-- a found node
pub tells_cube : (s : Search) (cone : Cone) (limit so_far : ℕ) (name : Text) (old new : List Bool) → IsCone s cone → so_far ≤ limit → LeftOf s cone so_far (old ∷ pending old) → IsLeaf s cone old new true →
    IsSought s limit name (told name s.domain cone.variables (Some new))
tells_cube s cone limit so_far name old new is few left leaf = record {
  cone = cone;
  is_cone = is;
  dead = so_far + 0;
  found = Some new;
  tree = left.leads 0 (Some new) (leaf.leads 0 (Some new) (at_found s cone new (pending new) leaf.looks));
  is = sym (ap (λ (b : Bool). if b then found.Aborted else told name s.domain cone.variables (Some new)) (not_less limit (so_far + 0) (omega (arith, few))));
}

-- no node left
pub tells_none : (s : Search) (cone : Cone) (limit so_far : ℕ) (name : Text) (old new : List Bool) → IsCone s cone → so_far < limit → LeftOf s cone so_far (old ∷ pending old) → IsLeaf s cone old new false → pending new ≡ [] →
    IsSought s limit name found.NotTestable
tells_none s cone limit so_far name old new is few left leaf none = record {
  cone = cone;
  is_cone = is;
  dead = (so_far + 1) + 0;
  found = None;
  tree = (left_dead s cone so_far old new left leaf).leads 0 None (subst (λ (nodes : List (List Bool)). Forest s cone nodes 0 None) (sym none) End);
  is = sym (ap (λ (b : Bool). if b then found.Aborted else told name s.domain cone.variables None) (not_less limit ((so_far + 1) + 0) (omega (arith, few))));
}

-- one dead node more than the limit
pub tells_aborted : (s : Search) (rank : ℕ → ℕ) (cone : Cone) (limit : ℕ) (name : Text) (old new : List Bool) → CanSeek s rank → IsCone s cone → LeftOf s cone limit (old ∷ pending old) → IsLeaf s cone old new false → IsSought s limit name found.Aborted
tells_aborted s rank cone limit name old new can is left leaf =
    let rest = forest_there s rank cone (pending new) can in
    record {
      cone = cone;
      is_cone = is;
      dead = (limit + 1) + rest.0;
      found = rest.1.0;
      tree = (left_dead s cone limit old new left leaf).leads rest.0 rest.1.0 rest.1.1;
      is = sym (ap (λ (b : Bool). if b then found.Aborted else told name s.domain cone.variables rest.1.0) (is_less limit ((limit + 1) + rest.0) (omega arith)));
    }

-- ---- the bits of the next node

-- a last 1 is left off
pub popped_true : (bits left : List Bool) → bits ≡ left ++ true ∷ [] → pending bits ≡ pending left
popped_true bits left is = ap pending is ∙ pending_true left

-- a last 0 is turned
pub popped_false : (bits left next : List Bool) → bits ≡ left ++ false ∷ [] → next ≡ left ++ true ∷ [] → pending bits ≡ next ∷ pending next
popped_false bits left next is now = ap pending is ∙ pending_false left ∙ sym (λ t. now t ∷ (ap pending now ∙ pending_true left) t)

-- a node from which the search goes on has not all bits
pub open_few : (s : Search) (cone : Cone) (bits : List Bool) → Looks s cone bits Open → length bits < length cone.variables
open_few s cone bits looks = elim (leb_tells (length cone.variables) (length bits)) [
  | inl whole ↦ absurd (ends_there s cone bits looks.both (whole_at cone.variables bits whole.1) looks.is)
  | inr less ↦ less.1
]

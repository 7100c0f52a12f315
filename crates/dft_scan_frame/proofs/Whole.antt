-- Moved nets, and lists of nets and of instances in two parts.
use Rattle.std.proofs.Common.{ℕ, suc, ◌+◌, ◌≡◌, ◌==◌, ◌<◌, ◌≤◌, nat_lt, List, ◌∷◌, ◌++◌, length, refl, sym, ap, arith, ◌∙◌, []}
use Rattle.std.specs.Prelude.{if◌then◌else◌}
use Rattle.std.proofs.lemmas.List.{append_assoc}
use Rattle.std.proofs.lemmas.Bool.{lt-ltb, le-ltb}
use Rattle.dft_cells.specs.declared.cell.Cell.{Cell}
use Rattle.dft_netlist.specs.declared.instance.Instance.{Instance}
use Rattle.dft_netlist.specs.Drivers.{driven_by, driven_by_instances}
use Rattle.dft_scan_frame.specs.Moves.{Gap, moved, map_from}

-- ---- moved nets

-- a net of a port is not moved, and any other is
pub moved_front : (gap : Gap) (net : ℕ) → net < gap.before → moved gap net ≡ net
moved_front gap net h = ap (λ b. if b then net else net + gap.width) (lt-ltb net gap.before h)

pub moved_back : (gap : Gap) (net : ℕ) → gap.before ≤ net → moved gap net ≡ net + gap.width
moved_back gap net h = ap (λ b. if b then net else net + gap.width) (le-ltb net gap.before h)

apart_by : (before width a b : ℕ) → ((if nat_lt a before then a else a + width) == (if nat_lt b before then b else b + width)) ≡ (a == b)
apart_by = grind arith

-- nets that differ still differ
pub moved_apart : (gap : Gap) (a b : ℕ) → (moved gap a == moved gap b) ≡ (a == b)
moved_apart gap a b = apart_by gap.before gap.width a b

-- ---- ports

-- ---- instances

pub instances_append : (library : List Cell) (i number : ℕ) (xs ys : List Instance) → number ≡ i + length xs → driven_by_instances library i (xs ++ ys) ≡ driven_by_instances library i xs ++ driven_by_instances library number ys
instances_append library i number [] ys is = ap (λ k. driven_by_instances library k ys) (omega (arith, is))
instances_append library i number (x ∷ xs) ys is =
    ap (λ ds. driven_by library i x ++ ds) (instances_append library (suc i) number xs ys (omega (arith, is)))
    ∙ sym (append_assoc (driven_by library i x) (driven_by_instances library (suc i) xs) (driven_by_instances library number ys))

pub length_map_from : {A B : Type 0} (f : ℕ → A → B) (i : ℕ) (xs : List A) → length (map_from f i xs) ≡ length xs
length_map_from f i [] = refl
length_map_from f i (x ∷ xs) = ap suc (length_map_from f (suc i) xs)

-- The line of a group, name by name.
use Rattle.std.proofs.Common.{◌≡◌, ℕ, ◌≤◌, ◌-◌, List, [], ◌∷◌, ◌++◌, codes, map, flat_map, length, get_or, take, drop, take_all, refl, sym, ap, append_assoc, append-nil, arith}
use Rattle.std.specs.List.{join_with_byte}
use Rattle.dft_patterns.specs.declared.signal.StilSignal.{StilSignal}
use Rattle.dft_stil_out.specs.Written.{quoted, group_line}

-- a name between quotes, behind a plus sign
abbrev plus_quoted : StilSignal → List ℕ
plus_quoted s = 43 ∷ quoted s

joined : (s : StilSignal) (ss : List StilSignal) → join_with_byte 43 (map quoted (s ∷ ss)) ≡ quoted s ++ flat_map plus_quoted ss
joined s [] = sym (append-nil (quoted s))
joined s (t ∷ ss) = ap (λ x. quoted s ++ 43 ∷ x) (joined t ss)

-- names behind each other make the line
pub group_from_parts : (old label : List ℕ) (signals : List StilSignal) (s : StilSignal) → 1 ≤ length signals → s ≡ get_or signals 0 s
    → old ++ label ++ codes " = '" ++ quoted s ++ flat_map (λ s. 43 ∷ quoted s) (take (length signals - 1) (drop 1 signals)) ++ codes "';\n" ≡ old ++ group_line label signals
group_from_parts old label [] s l e = absurd (omega arith)
group_from_parts old label (t ∷ ss) s l e =
    let same : take (length (t ∷ ss) - 1) ss ≡ ss = take_all _ ss (omega arith) in
    rw same (rw e (rw (joined t ss) (simp (append_assoc) refl)))

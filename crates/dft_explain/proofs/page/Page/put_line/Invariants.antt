use Rattle.std.proofs.Common.{◌≡◌, ◌++◌, drop}
use Rattle.std.specs.Prelude.{map}
use Rattle.dft_explain.specs.Explained.{told_line}
use Rattle.dft_explain.proofs.page.Page.put_line.Given as goal

-- the page so far, and the pieces that are left
abbrev pub invariant-loop-piece : goal.invariant-loop-piece
invariant-loop-piece l =
    l.self ++ told_line (map (λ piece. piece.now) (drop l.piece-index l.pieces)) ≡ l.fn.self ++ told_line (map (λ piece. piece.now) l.pieces)

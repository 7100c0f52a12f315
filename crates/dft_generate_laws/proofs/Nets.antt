-- The numbers of names among nets, where nets are added behind.
use Rattle.std.proofs.Common.{◌≡◌, ℕ, suc, ◌+◌, ◌<◌, ◌≤◌, Bool, true, false, cond, List, [], ◌∷◌, ◌++◌, length, Some, slice_get, refl, sym, ap, ◌∙◌, subst, arith, append_assoc, append-nil, length-append}
use Rattle.std.specs.Prelude.{◌||◌}
use Rattle.std.specs.Str.{bytes_eq}
use Rattle.dft_base.proofs.BitLemmas.{or_more}
use Rattle.dft_base.specs.Lexing.{Text}
use Rattle.dft_base.proofs.TextLemmas.{same_text, bytes_eq-self}
use Rattle.dft_cells.specs.WellFormed.{has_name}
use Rattle.dft_generate_laws.specs.Designs.{with_net, with_cell, with_cells, number_in, q_of, d_of, first_of, second_of}

-- ---- one name

-- a name that is there has its number
here_by : (t r : Bool) (k m : ℕ) → (r ≡ true → k ≡ m) → (t || r) ≡ true → cond t 0 (suc k) ≡ cond t 0 (suc m)
here_by true r k m ih h = refl
here_by false r k m ih h = ap suc (ih h)

pub number-kept : (nets more : List Text) (w : Text) → has_name nets w ≡ true → number_in (nets ++ more) w ≡ number_in nets w
number-kept [] more w h = absurd (cc)
number-kept (x ∷ nets) more w h = here_by (bytes_eq x w) (has_name nets w) (number_in (nets ++ more) w) (number_in nets w) (number-kept nets more w) h

pub has-kept : (nets more : List Text) (w : Text) → has_name nets w ≡ true → has_name (nets ++ more) w ≡ true
has-kept [] more w h = absurd (cc)
has-kept (x ∷ nets) more w h = or_more (bytes_eq x w) (has_name nets w) (has_name (nets ++ more) w) (has-kept nets more w) h

-- a name that is not there has the number behind all
new_by : (t r : Bool) (k m : ℕ) → (r ≡ false → k ≡ m) → (t || r) ≡ false → cond t 0 (suc k) ≡ suc m
new_by true r k m ih h = absurd (cc)
new_by false r k m ih h = ap suc (ih h)

pub number-missing : (nets : List Text) (w : Text) → has_name nets w ≡ false → number_in nets w ≡ length nets
number-missing [] w h = refl
number-missing (x ∷ nets) w h = new_by (bytes_eq x w) (has_name nets w) (number_in nets w) (length nets) (number-missing nets w) h

pub number-new : (nets more : List Text) (w : Text) → has_name nets w ≡ false → number_in (nets ++ w ∷ more) w ≡ length nets
number-new [] more w h = rw (bytes_eq-self w) refl
number-new (x ∷ nets) more w h = new_by (bytes_eq x w) (has_name nets w) (number_in (nets ++ w ∷ more) w) (length nets) (number-new nets more w) h

pub has-new : (nets more : List Text) (w : Text) → has_name (nets ++ w ∷ more) w ≡ true
has-new [] more w = rw (bytes_eq-self w) refl
has-new (x ∷ nets) more w = by (bytes_eq x w) (has-new nets more w)
  where
    by : (t : Bool) → has_name (nets ++ w ∷ more) w ≡ true → (t || has_name (nets ++ w ∷ more) w) ≡ true
    by true h = refl
    by false h = h

-- another name behind changes nothing for a name that is not there
other_by : (t r s : Bool) → (r ≡ false → s ≡ false) → (t || r) ≡ false → (t || s) ≡ false
other_by true r s ih h = absurd (cc)
other_by false r s ih h = ih h

pub has-other : (nets : List Text) (x w : Text) → has_name nets w ≡ false → bytes_eq x w ≡ false → has_name (nets ++ x ∷ []) w ≡ false
has-other [] x w h e = rw e refl
has-other (y ∷ nets) x w h e = other_by (bytes_eq y w) (has_name nets w) (has_name (nets ++ x ∷ []) w) (λ r. has-other nets x w r e) h

-- the number is below the number of nets
below_by : (t r : Bool) (k n : ℕ) → (r ≡ true → k < n) → (t || r) ≡ true → cond t 0 (suc k) < suc n
below_by true r k n ih h = omega arith
below_by false r k n ih h = let i = ih h in omega arith

pub number-below : (nets : List Text) (w : Text) → has_name nets w ≡ true → number_in nets w < length nets
number-below [] w h = absurd (cc)
number-below (x ∷ nets) w h = below_by (bytes_eq x w) (has_name nets w) (number_in nets w) (length nets) (number-below nets w) h

-- and the net with this number has this name
pub number-at : (nets : List Text) (w : Text) → has_name nets w ≡ true → slice_get nets (number_in nets w) ≡ Some w
number-at [] w h = absurd (cc)
number-at (x ∷ nets) w h = by (bytes_eq x w) refl h (number-at nets w)
  where
    by : (t : Bool) → bytes_eq x w ≡ t → (t || has_name nets w) ≡ true → (has_name nets w ≡ true → slice_get nets (number_in nets w) ≡ Some w) → slice_get (x ∷ nets) (cond t 0 (suc (number_in nets w))) ≡ Some w
    by true is h ih = ap Some (same_text x w is)
    by false is h ih = ih h

-- ---- nets that grow

-- these nets begin with those
pub record Grows (nets new : List Text) : Type 0 where
  pub more : List Text
  pub is : new ≡ nets ++ more

pub grows-same : (nets : List Text) → Grows nets nets
grows-same nets = record { more = []; is = sym (append-nil nets) }

pub grows-on : (a b c : List Text) → Grows a b → Grows b c → Grows a c
grows-on a b c g h = record { more = g.more ++ h.more; is = h.is ∙ ap (λ (xs : List Text). xs ++ h.more) g.is ∙ append_assoc a g.more h.more }

pub grown-has : (nets new : List Text) (w : Text) → Grows nets new → has_name nets w ≡ true → has_name new w ≡ true
grown-has nets new w g h = subst (λ (xs : List Text). has_name xs w ≡ true) (sym g.is) (has-kept nets g.more w h)

pub grown-number : (nets new : List Text) (w : Text) → Grows nets new → has_name nets w ≡ true → number_in new w ≡ number_in nets w
grown-number nets new w g h = ap (λ (xs : List Text). number_in xs w) g.is ∙ number-kept nets g.more w h

grows_by : (t : Bool) (w : Text) (nets : List Text) → Grows nets (cond t nets (nets ++ w ∷ []))
grows_by true w nets = grows-same nets
grows_by false w nets = record { more = w ∷ []; is = refl }

pub with-grows : (w : Text) (nets : List Text) → Grows nets (with_net w nets)
with-grows w nets = grows_by (has_name nets w) w nets

has_by : (t : Bool) (w : Text) (nets : List Text) → has_name nets w ≡ t → has_name (cond t nets (nets ++ w ∷ [])) w ≡ true
has_by true w nets is = is
has_by false w nets is = has-new nets [] w

pub with-has : (w : Text) (nets : List Text) → has_name (with_net w nets) w ≡ true
with-has w nets = has_by (has_name nets w) w nets refl

size_by : (t : Bool) (w : Text) (nets : List Text) → length (cond t nets (nets ++ w ∷ [])) ≤ length nets + 1
size_by true w nets = omega arith
size_by false w nets = omega (arith, length-append nets (w ∷ []))

pub with-size : (w : Text) (nets : List Text) → length (with_net w nets) ≤ length nets + 1
with-size w nets = size_by (has_name nets w) w nets

-- ---- the nets of a cell, and of cells

pub cell-size : (size : ℕ) (words : List ℕ) (cell : ℕ) (nets : List Text) → length (with_cell size words cell nets) ≤ length nets + 4
cell-size size words cell nets =
    let a : List Text = with_net (q_of (first_of size words cell)) nets in
    let b : List Text = with_net (q_of (second_of size words cell)) a in
    let c : List Text = with_net (d_of cell) b in
    let i = with-size (q_of (first_of size words cell)) nets in
    let j = with-size (q_of (second_of size words cell)) a in
    let k = with-size (d_of cell) b in
    let l = with-size (q_of cell) c in
    omega (arith, i, j, k, l)

pub cell-grows : (size : ℕ) (words : List ℕ) (cell : ℕ) (nets : List Text) → Grows nets (with_cell size words cell nets)
cell-grows size words cell nets =
    let a : List Text = with_net (q_of (first_of size words cell)) nets in
    let b : List Text = with_net (q_of (second_of size words cell)) a in
    let c : List Text = with_net (d_of cell) b in
    grows-on nets a (with_net (q_of cell) c) (with-grows (q_of (first_of size words cell)) nets)
    (grows-on a b (with_net (q_of cell) c) (with-grows (q_of (second_of size words cell)) a)
    (grows-on b c (with_net (q_of cell) c) (with-grows (d_of cell) b) (with-grows (q_of cell) c)))

pub cells-grow : (size : ℕ) (words cells : List ℕ) (nets : List Text) → Grows nets (with_cells size words cells nets)
cells-grow size words [] nets = grows-same nets
cells-grow size words (cell ∷ cells) nets =
    grows-on nets (with_cell size words cell nets) (with_cells size words cells (with_cell size words cell nets)) (cell-grows size words cell nets) (cells-grow size words cells (with_cell size words cell nets))

pub cells-size : (size : ℕ) (words cells : List ℕ) (nets : List Text) → length (with_cells size words cells nets) ≤ length nets + length cells + length cells + length cells + length cells
cells-size size words [] nets = omega arith
cells-size size words (cell ∷ cells) nets = let i = cell-size size words cell nets in let j = cells-size size words cells (with_cell size words cell nets) in omega (arith, i, j)

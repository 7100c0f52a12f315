-- A net that is named at a pin of a generated cell.
use Rattle.std.proofs.Common.{◌≡◌, ℕ, zero, suc, ◌+◌, ◌-◌, ◌<◌, ◌≤◌, Bool, true, false, cond, ltb, List, [], ◌∷◌, ◌++◌, length, Some, Ok, codes, decimal, slice_get, slice_set, refl, sym, ap, ◌∙◌, subst, arith, length-append, inl, inr}
use Rattle.std.proofs.lemmas.Bool.Decides.{nat_tests}
use Rattle.std.proofs.lemmas.Fmt.{decimal_digit}
use Rattle.dft_base.specs.Lexing.{Text}
use Rattle.dft_base.specs.Words.{is_word, is_reserved, reserved_words, continues_word}
use Rattle.dft_cells.specs.Standard.{standard_cells}
use Rattle.dft_cells.specs.WellFormed.{has_name}
use Rattle.dft_cells.specs.declared.cell.Cell.{Cell}
use Rattle.dft_netlist.specs.declared.instance.Signal.{Signal}
use Rattle.dft_netlist.specs.declared.instance.Signal.TheVariants as signal
use Rattle.dft_netlist.specs.declared.instance.Instance.{Instance}
use Rattle.dft_netlist.specs.declared.instance.Join.{Join}
use Rattle.dft_netlist.specs.declared.limits.TheConstants.{MAX_NETS}
use Rattle.dft_netlist_text.specs.declared.text.Meaning.TheVariants as meaning
use Rattle.dft_netlist_text.specs.declared.text.TokenKind.TheVariants as kind
use Rattle.dft_netlist_text.specs.declared.text.Site.TheVariants as site
use Rattle.dft_netlist_text.specs.Lexemes.{Token}
use Rattle.dft_netlist_text.specs.Steps.{kind_of, same_kind, sees}
use Rattle.dft_netlist_text.specs.Modules.{TakenName, Draft}
use Rattle.dft_netlist_text.specs.Expressions.{bits_of_name, ends, expression}
use Rattle.dft_netlist_text.specs.Items.{Joined, pin_place, pin_drives, was_joined, named_connection}
use Rattle.dft_verilog_out.proofs.CutLemmas.{cut_up, token, cut_up-word, cut_up-point, cut_up-open, cut_up-close}
use Rattle.dft_verilog_out.proofs.DraftLemmas.{entry, meaning_some, meaning_none}
use Rattle.dft_verilog_out.proofs.RuleLemmas.{named, whole-at}
use Rattle.dft_verilog_out.proofs.ItemLemmas.{named_connection-at}
use Rattle.dft_verilog_out.proofs.OperandLemmas.{no_close}
use Rattle.dft_verilog_out.proofs.PhaseLemmas.{declared_ports}
use Rattle.dft_generate_laws.specs.Designs.{design_ports, with_net, number_in, net_in}
use Rattle.dft_generate_laws.proofs.Words as words
use Rattle.dft_generate_laws.proofs.Nets.{number-new}
use Rattle.dft_generate_laws.proofs.Ties.{IsInner, AreTied, names_with, net_meaning}

-- what the module has said while its cells are read
abbrev pub draft : List TakenName → List Text → List Instance → List Join → Draft
draft names nets instances joins = record { name = codes "gen"; library = standard_cells; names = names; ports = declared_ports 0 design_ports; nets = nets; instances = instances; joins = joins }

-- ---- words

-- a word as it is written
pub record IsPlain (w : Text) : Type 0 where
  pub word : is_word w ≡ true
  pub free : is_reserved w ≡ false
  pub head : ℕ
  pub tail : Text
  pub is : w ≡ head ∷ tail
  pub other : head ≡ 42 → ⊥

pub plain_inner : (w : Text) → IsInner w → IsPlain w
plain_inner w i =
    let low : 97 ≤ i.letter = elim i.low [ inl e ↦ omega arith | inr e ↦ omega arith ] in
    let high : i.letter ≤ 122 = elim i.low [ inl e ↦ omega arith | inr e ↦ omega arith ] in
    let n = words.numbered i.letter i.cell low high i.small in
    record {
      word = ap is_word i.is ∙ n.word;
      free = ap is_reserved i.is ∙ n.free;
      head = i.letter;
      tail = decimal i.cell;
      is = i.is;
      other = λ e. absurd (omega arith);
    }

-- a word and what stands behind it
pub record WordAt (w : Text) (b : ℕ) (rest : Text) : Type 0 where
  pub left : ℕ
  pub at : cut_up (w ++ b ∷ rest) ≡ token kind.Name w (suc left) ∷ cut_up (b ∷ rest)
  pub size : length (w ++ b ∷ rest) ≡ suc left

pub word_at : (w : Text) (b : ℕ) (rest : Text) → is_word w ≡ true → is_reserved w ≡ false → continues_word b ≡ false → WordAt w b rest
word_at w b rest word free ends =
    let size : length (w ++ b ∷ rest) ≡ suc (length (w ++ b ∷ rest) - 1) = omega (arith, length-append w (b ∷ rest)) in
    record {
      left = length (w ++ b ∷ rest) - 1;
      at = cut_up-word w b rest word free ends ∙ ap (λ k. token kind.Name w k ∷ cut_up (b ∷ rest)) size;
      size = size;
    }

-- ---- what a name gives at a pin

bits_by : (t : Bool) (drives : Bool) (names : List TakenName) (nets : List Text) (instances : List Instance) (joins : List Join) (gates flops : ℕ) (w : Text) (l : ℕ) → has_name nets w ≡ t → IsInner w → AreTied names nets gates flops → length nets + 1 ≤ MAX_NETS
    → bits_of_name (site.Pin drives) 0 (named w l) (draft names nets instances joins)
    ≡ Ok (draft (cond t names (names ++ entry w (net_meaning (length nets)) ∷ [])) (cond t nets (nets ++ w ∷ [])) instances joins, net_in (cond t nets (nets ++ w ∷ [])) w ∷ [])
bits_by true drives names nets instances joins gates flops w l is i tied room =
    let m = meaning_some (draft names nets instances joins) w (entry w (net_meaning (number_in nets w))) (tied.known w i is) in
    rw m refl
bits_by false drives names nets instances joins gates flops w l is i tied room =
    let m = meaning_none (draft names nets instances joins) w (tied.free w i is) in
    let full : ltb MAX_NETS (length nets + 1) ≡ false = grind (arith, nat_tests) in
    rw (m, m, full, number-new nets [] w is) refl

pub net_bits : (drives : Bool) (names : List TakenName) (nets : List Text) (instances : List Instance) (joins : List Join) (gates flops : ℕ) (w : Text) (l : ℕ) → IsInner w → AreTied names nets gates flops → length nets + 1 ≤ MAX_NETS
    → bits_of_name (site.Pin drives) 0 (named w l) (draft names nets instances joins) ≡ Ok (draft (names_with w nets names) (with_net w nets) instances joins, net_in (with_net w nets) w ∷ [])
net_bits drives names nets instances joins gates flops w l i tied room = bits_by (has_name nets w) drives names nets instances joins gates flops w l refl i tied room

-- a net that was named before
pub known_bits : (drives : Bool) (names : List TakenName) (nets : List Text) (instances : List Instance) (joins : List Join) (gates flops : ℕ) (w : Text) (l : ℕ) → IsInner w → has_name nets w ≡ true → AreTied names nets gates flops
    → bits_of_name (site.Pin drives) 0 (named w l) (draft names nets instances joins) ≡ Ok (draft names nets instances joins, net_in nets w ∷ [])
known_bits drives names nets instances joins gates flops w l i has tied =
    let m = meaning_some (draft names nets instances joins) w (entry w (net_meaning (number_in nets w))) (tied.known w i has) in
    rw m refl

-- a clock at a pin
pub clock_bits : (clock : ℕ) (names : List TakenName) (nets : List Text) (instances : List Instance) (joins : List Join) (gates flops l : ℕ) → clock < 2 → AreTied names nets gates flops
    → bits_of_name (site.Pin false) 0 (named (codes "clk" ++ decimal clock) l) (draft names nets instances joins) ≡ Ok (draft names nets instances joins, signal.Net (record { 0 = clock }) ∷ [])
clock_bits zero names nets instances joins gates flops l lt tied =
    ap (λ (ds : Text). bits_of_name (site.Pin false) 0 (named (codes "clk" ++ ds) l) (draft names nets instances joins)) (decimal_digit 0 (omega arith))
    ∙ rw (meaning_some (draft names nets instances joins) (codes "clk0") (entry (codes "clk0") (meaning.Port 0)) tied.clock0) refl
clock_bits (suc zero) names nets instances joins gates flops l lt tied =
    ap (λ (ds : Text). bits_of_name (site.Pin false) 0 (named (codes "clk" ++ ds) l) (draft names nets instances joins)) (decimal_digit 1 (omega arith))
    ∙ rw (meaning_some (draft names nets instances joins) (codes "clk1") (entry (codes "clk1") (meaning.Port 1)) tied.clock1) refl
clock_bits (suc (suc clock)) names nets instances joins gates flops l lt tied = absurd (omega arith)

pub plain_clock : (clock : ℕ) → clock < 2 → IsPlain (codes "clk" ++ decimal clock)
unfolding reserved_words
plain_clock zero lt =
    subst (λ (ds : Text). IsPlain (codes "clk" ++ ds)) (sym (decimal_digit 0 (omega arith))) (record { word = refl; free = refl; head = 99; tail = codes "lk0"; is = refl; other = λ e. absurd (omega arith) })
plain_clock (suc zero) lt =
    subst (λ (ds : Text). IsPlain (codes "clk" ++ ds)) (sym (decimal_digit 1 (omega arith))) (record { word = refl; free = refl; head = 99; tail = codes "lk1"; is = refl; other = λ e. absurd (omega arith) })
plain_clock (suc (suc clock)) lt = absurd (omega arith)

-- ---- a connection

-- a pin and the net that it is joined to, as `.A(q5)`, and what stands behind
abbrev pub connection : (pin net behind : Text) → Text
connection pin net behind = 46 ∷ (pin ++ 40 ∷ (net ++ 41 ∷ behind))

close_ends : (drives : Bool) (behind : Text) → ends (site.Pin drives) (kind_of (cut_up (41 ∷ behind))) ≡ true
unfolding kind_of
close_ends drives behind = ap (λ (ts : List Token). ends (site.Pin drives) (kind_of ts)) (cut_up-close behind)

close_single : (behind : Text) → sees kind.OpenBracket (cut_up (41 ∷ behind)) ≡ false
unfolding sees kind_of same_kind
close_single behind = ap (λ (ts : List Token). sees kind.OpenBracket ts) (cut_up-close behind)

opened : (net behind : Text) → IsPlain net → cut_up (40 ∷ (net ++ behind)) ≡ token kind.OpenParen (40 ∷ []) (suc (length (net ++ behind))) ∷ cut_up (net ++ behind)
opened net behind p = rw p.is (cut_up-open p.head (p.tail ++ behind) p.other)

pub connection_read : (cell : Cell) (d new : Draft) (joined : Joined) (pin : ℕ) (p w : Text) (to : Signal) (behind : Text) → is_word p ≡ true → is_reserved p ≡ false → pin_place cell p ≡ Some pin → was_joined (slice_get joined pin) ≡ false → IsPlain w
    → ((l : ℕ) → bits_of_name (site.Pin (pin_drives (slice_get cell.pins pin))) 0 (named w l) d ≡ Ok (new, to ∷ []))
    → named_connection cell (d, joined) (cut_up (connection p w behind)) ≡ Ok ((new, slice_set joined pin (Some to)), cut_up behind)
connection_read cell d new joined pin p w to behind word free at none plain says =
    let us : Text = w ++ 41 ∷ behind in
    let n = word_at p 40 us word free refl in
    let m = word_at w 41 behind plain.word plain.free refl in
    let drives : Bool = pin_drives (slice_get cell.pins pin) in
    ap (named_connection cell (d, joined)) (cut_up-point (p ++ 40 ∷ us) ∙ ap (λ ts. token kind.Point (46 ∷ []) (suc (length (p ++ 40 ∷ us))) ∷ ts) (n.at ∙ ap (λ ts. token kind.Name p (suc n.left) ∷ ts) (opened w (41 ∷ behind) plain)))
    ∙ named_connection-at cell d new joined pin p to (suc (length (p ++ 40 ∷ us))) (suc n.left) (suc (length us)) (suc (length behind)) (cut_up us) (cut_up behind) at none
    (ap (sees kind.CloseParen) m.at ∙ no_close w (suc m.left) (cut_up (41 ∷ behind)))
    (ap (expression (site.Pin drives) d) m.at ∙ whole-at (site.Pin drives) d new (to ∷ []) w m.left (cut_up (41 ∷ behind)) (says m.left) (close_ends drives behind) (close_single behind)
    ∙ ap (λ ts. Ok ((new, to ∷ []), ts)) (cut_up-close behind))

-- What the names of a draft stand for while a generated netlist is read: `q` and `d` words are nets by their numbers, or free.
use Rattle.std.proofs.Common.{◌≡◌, ◌⊎◌, inl, inr, ℕ, suc, ◌<◌, ◌≤◌, ◌^◌, Bool, true, false, cond, List, [], ◌∷◌, ◌++◌, length, Option, Some, None, codes, decimal, refl, sym, ap, ◌∙◌, subst, arith}
use Rattle.std.specs.Str.{bytes_eq}
use Rattle.std.proofs.lemmas.Fmt.{decimal_injective}
use Rattle.dft_base.specs.Lexing.{Text}
use Rattle.dft_base.proofs.TextLemmas.{same_text, bytes_eq-self, bytes_eq-comm, differ}
use Rattle.dft_cells.specs.WellFormed.{has_name}
use Rattle.dft_netlist_text.specs.declared.text.Meaning.{Meaning}
use Rattle.dft_netlist_text.specs.declared.text.Meaning.TheVariants as meaning
use Rattle.dft_netlist_text.specs.Modules.{TakenName}
use Rattle.dft_verilog_out.proofs.CountLemmas.{look, look-kept}
use Rattle.dft_verilog_out.proofs.DraftLemmas.{entry}
use Rattle.dft_generate_laws.specs.Designs.{numbered, with_net, number_in, q_of, d_of, g_of, f_of}
use Rattle.dft_generate_laws.proofs.Nets.{number-kept, number-new, has-kept, has-new, has-other}

-- ---- one entry more

none_by : (t : Bool) (e : TakenName) (r s : Option TakenName) → (r ≡ None → s ≡ None) → cond t (Some e) r ≡ None → cond t (Some e) s ≡ None
none_by true e r s ih h = absurd (cc)
none_by false e r s ih h = ih h

pub look-other : (es : List TakenName) (x w : Text) (meant : Meaning) → look es w ≡ None → bytes_eq x w ≡ false → look (es ++ entry x meant ∷ []) w ≡ None
look-other [] x w meant h e = rw e refl
look-other (y ∷ es) x w meant h e = none_by (bytes_eq y.name w) y (look es w) (look (es ++ entry x meant ∷ []) w) (λ r. look-other es x w meant r e) h

some_by : (t : Bool) (e x : TakenName) (r s : Option TakenName) → (r ≡ None → s ≡ Some x) → cond t (Some e) r ≡ None → cond t (Some e) s ≡ Some x
some_by true e x r s ih h = absurd (cc)
some_by false e x r s ih h = ih h

pub look-here : (es : List TakenName) (w : Text) (meant : Meaning) → look es w ≡ None → look (es ++ entry w meant ∷ []) w ≡ Some (entry w meant)
look-here [] w meant h = rw (bytes_eq-self w) refl
look-here (y ∷ es) w meant h = some_by (bytes_eq y.name w) y (entry w meant) (look es w) (look (es ++ entry w meant ∷ []) w) (look-here es w meant) h

-- ---- words of the generated netlist

-- a net of a cell
pub record IsInner (w : Text) : Type 0 where
  pub letter : ℕ
  pub cell : ℕ
  pub is : w ≡ numbered letter cell
  pub low : (letter ≡ 113) ⊎ (letter ≡ 100)
  pub small : cell < 2 ^ 64

pub q-inner : (cell : ℕ) → cell < 2 ^ 64 → IsInner (q_of cell)
q-inner cell small = record { letter = 113; cell = cell; is = refl; low = inl refl; small = small }

pub d-inner : (cell : ℕ) → cell < 2 ^ 64 → IsInner (d_of cell)
d-inner cell small = record { letter = 100; cell = cell; is = refl; low = inr refl; small = small }

-- words with other first bytes differ
pub heads_differ : (b c : ℕ) (x y : Text) → (b ≡ c → ⊥) → bytes_eq (b ∷ x) (c ∷ y) ≡ false
heads_differ b c x y h = differ (b ∷ x) (c ∷ y) (λ e. h (let s : b ≡ c = cc in s))

pub other_inner : (b : ℕ) (x w : Text) → IsInner w → (b ≡ 113 → ⊥) → (b ≡ 100 → ⊥) → bytes_eq (b ∷ x) w ≡ false
other_inner b x w i q d = ap (bytes_eq (b ∷ x)) i.is ∙ heads_differ b i.letter x (decimal i.cell) (λ e. elim i.low [ inl is ↦ q (e ∙ is) | inr is ↦ d (e ∙ is) ])

-- words with other numbers differ
pub numbers_differ : (c j k : ℕ) → j < 2 ^ 64 → k < 2 ^ 64 → (j ≡ k → ⊥) → bytes_eq (numbered c j) (numbered c k) ≡ false
numbers_differ c j k a b h = differ (numbered c j) (numbered c k) (λ e. h (decimal_injective j k a b (let s : decimal j ≡ decimal k = cc in s)))

-- ---- ties

-- the meaning of the net of a number
abbrev pub net_meaning : (number : ℕ) → Meaning
net_meaning number = meaning.Nets (record { range = None; first = record { 0 = number } })

-- the port of this name stands at this place of the header
abbrev pub IsPortName : List TakenName → Text → (place : ℕ) → Type 0
IsPortName names w place = look names w ≡ Some (entry w (meaning.Port place))

-- names and nets fit, and the gates and flip-flops from these numbers on are not named yet
pub record AreTied (names : List TakenName) (nets : List Text) (gates flops : ℕ) : Type 0 where
  pub known : (w : Text) → IsInner w → has_name nets w ≡ true → look names w ≡ Some (entry w (net_meaning (number_in nets w)))
  pub free : (w : Text) → IsInner w → has_name nets w ≡ false → look names w ≡ None
  pub gate : (cell : ℕ) → gates ≤ cell → cell < 2 ^ 64 → look names (g_of cell) ≡ None
  pub flop : (cell : ℕ) → flops ≤ cell → cell < 2 ^ 64 → look names (f_of cell) ≡ None
  pub clock0 : IsPortName names (codes "clk0") 0
  pub clock1 : IsPortName names (codes "clk1") 1
  pub output : IsPortName names (codes "y") 2

-- a net more
abbrev pub names_with : (w : Text) → List Text → List TakenName → List TakenName
names_with w nets names = cond (has_name nets w) names (names ++ entry w (net_meaning (length nets)) ∷ [])

inner_gate : (w : Text) (cell : ℕ) → IsInner w → bytes_eq w (g_of cell) ≡ false
inner_gate w cell i = bytes_eq-comm w (g_of cell) ∙ other_inner 103 (decimal cell) w i (λ e. absurd (omega arith)) (λ e. absurd (omega arith))

inner_flop : (w : Text) (cell : ℕ) → IsInner w → bytes_eq w (f_of cell) ≡ false
inner_flop w cell i = bytes_eq-comm w (f_of cell) ∙ other_inner 102 (decimal cell) w i (λ e. absurd (omega arith)) (λ e. absurd (omega arith))

known_more : (names : List TakenName) (nets : List Text) (gates flops : ℕ) (x w : Text) (t r : Bool) → AreTied names nets gates flops → IsInner x → has_name nets x ≡ false → IsInner w → bytes_eq x w ≡ t → has_name nets w ≡ r
    → has_name (nets ++ x ∷ []) w ≡ true → look (names ++ entry x (net_meaning (length nets)) ∷ []) w ≡ Some (entry w (net_meaning (number_in (nets ++ x ∷ []) w)))
known_more names nets gates flops x w true r tied ix new iw same has h =
    let e : x ≡ w = same_text x w same in
    subst (λ (v : Text). look (names ++ entry x (net_meaning (length nets)) ∷ []) v ≡ Some (entry v (net_meaning (number_in (nets ++ x ∷ []) v)))) e
    (look-here names x (net_meaning (length nets)) (tied.free x ix new) ∙ ap (λ (k : ℕ). Some (entry x (net_meaning k))) (sym (number-new nets [] x new)))
known_more names nets gates flops x w false true tied ix new iw same has h =
    look-kept names (entry x (net_meaning (length nets)) ∷ []) w (entry w (net_meaning (number_in nets w))) (tied.known w iw has) ∙ ap (λ (k : ℕ). Some (entry w (net_meaning k))) (sym (number-kept nets (x ∷ []) w has))
known_more names nets gates flops x w false false tied ix new iw same has h = absurd (let e = has-other nets x w has same in cc)

free_more : (names : List TakenName) (nets : List Text) (gates flops : ℕ) (x w : Text) (t r : Bool) → AreTied names nets gates flops → IsInner w → bytes_eq x w ≡ t → has_name nets w ≡ r
    → has_name (nets ++ x ∷ []) w ≡ false → look (names ++ entry x (net_meaning (length nets)) ∷ []) w ≡ None
free_more names nets gates flops x w true r tied iw same has h =
    absurd (let e : x ≡ w = same_text x w same in let s : has_name (nets ++ x ∷ []) x ≡ false = subst (λ (v : Text). has_name (nets ++ x ∷ []) v ≡ false) (sym e) h in let f = has-new nets [] x in cc)
free_more names nets gates flops x w false true tied iw same has h = absurd (let f = has-kept nets (x ∷ []) w has in cc)
free_more names nets gates flops x w false false tied iw same has h = look-other names x w (net_meaning (length nets)) (tied.free w iw has) same

tied_by : (t : Bool) (names : List TakenName) (nets : List Text) (gates flops : ℕ) (x : Text) → has_name nets x ≡ t → IsInner x → AreTied names nets gates flops
    → AreTied (cond t names (names ++ entry x (net_meaning (length nets)) ∷ [])) (cond t nets (nets ++ x ∷ [])) gates flops
tied_by true names nets gates flops x is i tied = tied
tied_by false names nets gates flops x is i tied =
    let e : TakenName = entry x (net_meaning (length nets)) in
    record {
      known = λ w iw h. known_more names nets gates flops x w (bytes_eq x w) (has_name nets w) tied i is iw refl refl h;
      free = λ w iw h. free_more names nets gates flops x w (bytes_eq x w) (has_name nets w) tied iw refl refl h;
      gate = λ cell le small. look-other names x (g_of cell) (net_meaning (length nets)) (tied.gate cell le small) (inner_gate x cell i);
      flop = λ cell le small. look-other names x (f_of cell) (net_meaning (length nets)) (tied.flop cell le small) (inner_flop x cell i);
      clock0 = look-kept names (e ∷ []) (codes "clk0") (entry (codes "clk0") (meaning.Port 0)) tied.clock0;
      clock1 = look-kept names (e ∷ []) (codes "clk1") (entry (codes "clk1") (meaning.Port 1)) tied.clock1;
      output = look-kept names (e ∷ []) (codes "y") (entry (codes "y") (meaning.Port 2)) tied.output;
    }

-- a net is named
pub tied-net : (names : List TakenName) (nets : List Text) (gates flops : ℕ) (x : Text) → IsInner x → AreTied names nets gates flops → AreTied (names_with x nets names) (with_net x nets) gates flops
tied-net names nets gates flops x i tied = tied_by (has_name nets x) names nets gates flops x refl i tied

-- ---- instances

-- an instance is named
instance_tied : (names : List TakenName) (nets : List Text) (gates flops more_gates more_flops letter number : ℕ) → AreTied names nets gates flops → (letter ≡ 113 → ⊥) → (letter ≡ 100 → ⊥)
    → ((cell : ℕ) → more_gates ≤ cell → cell < 2 ^ 64 → look (names ++ entry (numbered letter number) meaning.Instance ∷ []) (g_of cell) ≡ None)
    → ((cell : ℕ) → more_flops ≤ cell → cell < 2 ^ 64 → look (names ++ entry (numbered letter number) meaning.Instance ∷ []) (f_of cell) ≡ None)
    → AreTied (names ++ entry (numbered letter number) meaning.Instance ∷ []) nets more_gates more_flops
instance_tied names nets gates flops more_gates more_flops letter number tied q d gate flop =
    let e : TakenName = entry (numbered letter number) meaning.Instance in
    record {
      known = λ w iw h. look-kept names (e ∷ []) w (entry w (net_meaning (number_in nets w))) (tied.known w iw h);
      free = λ w iw h. look-other names (numbered letter number) w meaning.Instance (tied.free w iw h) (other_inner letter (decimal number) w iw q d);
      gate = gate;
      flop = flop;
      clock0 = look-kept names (e ∷ []) (codes "clk0") (entry (codes "clk0") (meaning.Port 0)) tied.clock0;
      clock1 = look-kept names (e ∷ []) (codes "clk1") (entry (codes "clk1") (meaning.Port 1)) tied.clock1;
      output = look-kept names (e ∷ []) (codes "y") (entry (codes "y") (meaning.Port 2)) tied.output;
    }

pub tied-gate : (names : List TakenName) (nets : List Text) (cell flops : ℕ) → cell < 2 ^ 64 → AreTied names nets cell flops → AreTied (names ++ entry (g_of cell) meaning.Instance ∷ []) nets (suc cell) flops
tied-gate names nets cell flops small tied =
    instance_tied names nets cell flops (suc cell) flops 103 cell tied (λ e. absurd (omega arith)) (λ e. absurd (omega arith))
    (λ other le few. look-other names (g_of cell) (g_of other) meaning.Instance (tied.gate other (omega arith) few) (numbers_differ 103 cell other small few (λ e. absurd (omega arith))))
    (λ other le few. look-other names (g_of cell) (f_of other) meaning.Instance (tied.flop other le few) (heads_differ 103 102 (decimal cell) (decimal other) (λ e. absurd (omega arith))))

pub tied-flop : (names : List TakenName) (nets : List Text) (gates cell : ℕ) → cell < 2 ^ 64 → AreTied names nets gates cell → AreTied (names ++ entry (f_of cell) meaning.Instance ∷ []) nets gates (suc cell)
tied-flop names nets gates cell small tied =
    instance_tied names nets gates cell gates (suc cell) 102 cell tied (λ e. absurd (omega arith)) (λ e. absurd (omega arith))
    (λ other le few. look-other names (f_of cell) (g_of other) meaning.Instance (tied.gate other le few) (heads_differ 102 103 (decimal cell) (decimal other) (λ e. absurd (omega arith))))
    (λ other le few. look-other names (f_of cell) (f_of other) meaning.Instance (tied.flop other (omega arith) few) (numbers_differ 102 cell other small few (λ e. absurd (omega arith))))

-- The lines of a generated cell are read as its gate and its flip-flop.
use Rattle.std.proofs.Common.{◌≡◌, ℕ, suc, ◌+◌, ◌*◌, ◌%◌, ◌<◌, ◌≤◌, ◌^◌, Bool, true, false, cond, eqb, List, [], ◌∷◌, ◌++◌, length, Some, None, codes, decimal, slice_get, refl, sym, ap, ◌∙◌, subst, arith, append_assoc, length-append}
use Rattle.std.proofs.Math.Nat.{mod-lt}
use Rattle.dft_base.specs.Lexing.{Text}
use Rattle.dft_base.specs.Words.{is_reserved, reserved_words}
use Rattle.dft_cells.specs.declared.kind.Forcing.TheVariants as force
use Rattle.dft_cells.specs.declared.kind.Kind.TheVariants as cell_kind
use Rattle.dft_cells.specs.declared.kind.Gate.{Gate}
use Rattle.dft_cells.specs.declared.kind.Gate.TheVariants as primitive
use Rattle.dft_cells.specs.declared.cell.Cell.{Cell}
use Rattle.dft_cells.specs.Cells.{find_cell}
use Rattle.dft_cells.specs.Standard.{gate, flip_flop, standard_cells}
use Rattle.dft_cells.specs.WellFormed.{has_name}
use Rattle.dft_netlist.specs.declared.limits.TheConstants.{MAX_NETS, MAX_INSTANCES}
use Rattle.dft_netlist.specs.declared.instance.Signal.{Signal}
use Rattle.dft_netlist.specs.declared.instance.Signal.TheVariants as signal
use Rattle.dft_netlist.specs.declared.instance.Instance.{Instance}
use Rattle.dft_netlist.specs.Drivers.{Source, driver_of_kind}
use Rattle.dft_netlist.specs.Drivers as drivers
use Rattle.dft_netlist_text.specs.declared.text.Meaning.TheVariants as meaning
use Rattle.dft_netlist_text.specs.Modules.{TakenName}
use Rattle.dft_netlist_text.specs.Items.{Joined, unjoined, cell_instance}
use Rattle.dft_verilog_out.proofs.DraftLemmas.{entry, name_instance-is}
use Rattle.dft_verilog_out.proofs.LineLemmas.{Line}
use Rattle.dft_generate.specs.Netlists.{kind_of, gate_line, flop_line}
use Rattle.dft_generate.specs.Words.{word_at}
use Rattle.dft_generate_laws.specs.Designs.{numbered, with_net, number_in, net_in, q_of, d_of, g_of, f_of, first_of, second_of, gate_cell, gate_in, flop_in}
use Rattle.dft_generate_laws.proofs.Words as words
use Rattle.dft_generate_laws.proofs.Nets.{Grows, grows-on, with-grows, with-has, with-size, grown-number}
use Rattle.dft_generate_laws.proofs.Ties.{AreTied, names_with, q-inner, d-inner, tied-net, tied-gate, tied-flop}
use Rattle.dft_generate_laws.proofs.Mentions.{draft, IsPlain, plain_inner, net_bits, known_bits, clock_bits, plain_clock, connection_read}
use Rattle.dft_generate_laws.proofs.Cells.{instance_text, IsInstanceLine, instance_read}

-- ---- the texts

gate_parts : (size cell kind first second : ℕ) (rest : Text) → gate_line size cell kind first second ++ rest
    ≡ instance_text (kind_of kind) (g_of cell) (codes "A") (q_of (first % size)) (codes "B") (q_of (second % size)) (codes "Y") (d_of cell) rest
unfolding gate_line
gate_parts size cell kind first second rest =
    let a : Text = decimal (first % size) in
    let b : Text = decimal (second % size) in
    let c : Text = decimal cell in
    let third : Text = codes "), .Y(d" ++ (c ++ codes "));\n") in
    let later : Text = codes "), .B(q" ++ (b ++ third) in
    append_assoc (kind_of kind) (codes " g" ++ (c ++ (codes " (.A(q" ++ (a ++ later)))) rest
    ∙ ap (λ (t : Text). kind_of kind ++ (codes " g" ++ t)) (append_assoc c (codes " (.A(q" ++ (a ++ later)) rest
    ∙ ap (λ (t : Text). c ++ (codes " (.A(q" ++ t)) (append_assoc a later rest
    ∙ ap (λ (t : Text). a ++ (codes "), .B(q" ++ t)) (append_assoc b third rest
    ∙ ap (λ (t : Text). b ++ (codes "), .Y(d" ++ t)) (append_assoc c (codes "));\n") rest))))

flop_parts : (cell : ℕ) (rest : Text) → flop_line cell ++ rest
    ≡ instance_text (codes "DFF") (f_of cell) (codes "CK") (codes "clk" ++ decimal (cell % 2)) (codes "D") (d_of cell) (codes "Q") (q_of cell) rest
unfolding flop_line
flop_parts cell rest =
    let c : Text = decimal cell in
    let k : Text = decimal (cell % 2) in
    let third : Text = codes "), .Q(q" ++ (c ++ codes "));\n") in
    let later : Text = codes "), .D(d" ++ (c ++ third) in
    ap (λ (t : Text). codes "DFF f" ++ t) (append_assoc c (codes " (.CK(clk" ++ (k ++ later)) rest
    ∙ ap (λ (t : Text). c ++ (codes " (.CK(clk" ++ t)) (append_assoc k later rest
    ∙ ap (λ (t : Text). k ++ (codes "), .D(d" ++ t)) (append_assoc c third rest
    ∙ ap (λ (t : Text). c ++ (codes "), .Q(q" ++ t)) (append_assoc c (codes "));\n") rest))))

gate_some : (size cell kind first second : ℕ) → 0 < length (gate_line size cell kind first second)
unfolding gate_line
gate_some size cell kind first second =
    omega (arith, length-append (kind_of kind) (codes " g" ++ (decimal cell ++ (codes " (.A(q" ++ (decimal (first % size) ++ (codes "), .B(q" ++ (decimal (second % size) ++ (codes "), .Y(d" ++ (decimal cell ++ codes "));\n")))))))))

flop_some : (cell : ℕ) → 0 < length (flop_line cell)
unfolding flop_line
flop_some cell = omega arith

-- ---- the cells

-- the kinds of the gates
pub data IsGateKind : Gate → Type 0 where
  IsNand : IsGateKind primitive.Nand
  IsNor : IsGateKind primitive.Nor
  IsXor : IsGateKind primitive.Xor
  IsAnd : IsGateKind primitive.And

-- what holds of each of them holds of all
pub each_kind : (P : Gate → Type 0) → P primitive.Nand → P primitive.Nor → P primitive.Xor → P primitive.And → (k : Gate) → IsGateKind k → P k
each_kind P nand nor xor and _ IsNand = nand
each_kind P nand nor xor and _ IsNor = nor
each_kind P nand nor xor and _ IsXor = xor
each_kind P nand nor xor and _ IsAnd = and

-- the gate of two inputs with this name and this number
pub record IsGateCell (name : Text) (number : ℕ) : Type 0 where
  pub kind : Gate
  pub found : find_cell standard_cells name ≡ Some (record { 0 = number })
  pub there : slice_get standard_cells number ≡ Some (gate name kind (codes "AB"))
  pub plain : IsPlain name
  -- its output is driven by the gate of its inputs
  pub acts : (i : ℕ) (inputs : List Source) → driver_of_kind (cell_kind.Gate kind) i false inputs ≡ drivers.Gate kind inputs
  pub among : IsGateKind kind

gate_by : (a b c : Bool) → IsGateCell (cond a (codes "NAND2") (cond b (codes "NOR2") (cond c (codes "XOR2") (codes "AND2")))) (cond a 12 (cond b 15 (cond c 27 0)))
unfolding reserved_words
gate_by true b c = record { kind = primitive.Nand; found = refl; there = refl; plain = record { word = refl; free = refl; head = 78; tail = codes "AND2"; is = refl; other = λ e. absurd (omega arith) }; acts = λ i inputs. refl; among = IsNand }
gate_by false true c = record { kind = primitive.Nor; found = refl; there = refl; plain = record { word = refl; free = refl; head = 78; tail = codes "OR2"; is = refl; other = λ e. absurd (omega arith) }; acts = λ i inputs. refl; among = IsNor }
gate_by false false true = record { kind = primitive.Xor; found = refl; there = refl; plain = record { word = refl; free = refl; head = 88; tail = codes "OR2"; is = refl; other = λ e. absurd (omega arith) }; acts = λ i inputs. refl; among = IsXor }
gate_by false false false = record { kind = primitive.And; found = refl; there = refl; plain = record { word = refl; free = refl; head = 65; tail = codes "ND2"; is = refl; other = λ e. absurd (omega arith) }; acts = λ i inputs. refl; among = IsAnd }

pub gate_known : (word : ℕ) → IsGateCell (kind_of word) (gate_cell word)
gate_known word = gate_by (eqb (word % 4) 0) (eqb (word % 4) 1) (eqb (word % 4) 2)

dff_plain : IsPlain (codes "DFF")
unfolding reserved_words
dff_plain = record { word = refl; free = refl; head = 68; tail = codes "FF"; is = refl; other = λ e. absurd (omega arith) }

pin_a : is_reserved (codes "A") ≡ false
unfolding reserved_words
pin_a = refl

pin_b : is_reserved (codes "B") ≡ false
unfolding reserved_words
pin_b = refl

pin_y : is_reserved (codes "Y") ≡ false
unfolding reserved_words
pin_y = refl

pin_ck : is_reserved (codes "CK") ≡ false
unfolding reserved_words
pin_ck = refl

pin_d : is_reserved (codes "D") ≡ false
unfolding reserved_words
pin_d = refl

pin_q : is_reserved (codes "Q") ≡ false
unfolding reserved_words
pin_q = refl

plain_own : (letter cell : ℕ) → 97 ≤ letter → letter ≤ 122 → cell < 2 ^ 64 → IsPlain (numbered letter cell)
plain_own letter cell low high small =
    let n = words.numbered letter cell low high small in
    record { word = n.word; free = n.free; head = letter; tail = decimal cell; is = refl; other = λ e. absurd (omega arith) }

-- ---- steps

-- a line takes a draft with these names, nets and instances to one with these nets and instances
pub record Step (line : Text) (names : List TakenName) (nets : List Text) (instances : List Instance) (new_nets : List Text) (new_instances : List Instance) (gates flops : ℕ) : Type 0 where
  pub new_names : List TakenName
  pub tied : AreTied new_names new_nets gates flops
  pub reads : Line line (draft names nets instances []) (draft new_names new_nets new_instances [])

-- the nets behind a gate's line
abbrev pub gate_nets : (size : ℕ) (words : List ℕ) (cell : ℕ) → List Text → List Text
gate_nets size words cell nets = with_net (d_of cell) (with_net (q_of (second_of size words cell)) (with_net (q_of (first_of size words cell)) nets))

gate_same : (size : ℕ) (words : List ℕ) (cell : ℕ) (nets all : List Text) → Grows (gate_nets size words cell nets) all
    → cell_instance (record { 0 = gate_cell (word_at words (cell * 3)) }) (g_of cell)
    (Some (net_in (with_net (q_of (first_of size words cell)) nets) (q_of (first_of size words cell)))
    ∷ Some (net_in (with_net (q_of (second_of size words cell)) (with_net (q_of (first_of size words cell)) nets)) (q_of (second_of size words cell))) ∷ Some (net_in (gate_nets size words cell nets) (d_of cell)) ∷ [])
    ≡ gate_in all size words cell
gate_same size words cell nets all grows =
    let p : Text = q_of (first_of size words cell) in
    let q : Text = q_of (second_of size words cell) in
    let a : List Text = with_net p nets in
    let b : List Text = with_net q a in
    let c : List Text = with_net (d_of cell) b in
    let g = with-grows q a in
    let h = with-grows (d_of cell) b in
    let first : number_in all p ≡ number_in a p = grown-number a all p (grows-on a b all g (grows-on b c all h grows)) (with-has p nets) in
    let second : number_in all q ≡ number_in b q = grown-number b all q (grows-on b c all h grows) (with-has q a) in
    let third : number_in all (d_of cell) ≡ number_in c (d_of cell) = grown-number c all (d_of cell) grows (with-has (d_of cell) b) in
    sym (rw (first, second, third) refl)

pub gate_step : (size : ℕ) (words : List ℕ) (cell : ℕ) (names : List TakenName) (nets : List Text) (instances : List Instance) (all : List Text) (flops : ℕ) → Grows (gate_nets size words cell nets) all → AreTied names nets cell flops
    → 0 < size → size < 2 ^ 64 → cell < 2 ^ 64 → length nets + 3 ≤ MAX_NETS → length instances < MAX_INSTANCES
    → Step (gate_line size cell (word_at words (cell * 3)) (word_at words (cell * 3 + 1)) (word_at words (cell * 3 + 2))) names nets instances (gate_nets size words cell nets) (instances ++ gate_in all size words cell ∷ []) (suc cell) flops
gate_step size words cell names nets instances all flops grows tied some wide small room few =
    let word : ℕ = word_at words (cell * 3) in
    let j : ℕ = first_of size words cell in
    let k : ℕ = second_of size words cell in
    let p : Text = q_of j in
    let q : Text = q_of k in
    let d : Text = d_of cell in
    let ip = q-inner j (let lt = mod-lt (word_at words (cell * 3 + 1)) some in omega (arith, lt)) in
    let iq = q-inner k (let lt = mod-lt (word_at words (cell * 3 + 2)) some in omega (arith, lt)) in
    let id = d-inner cell small in
    let g = gate_known word in
    let cell_is : Cell = gate (kind_of word) g.kind (codes "AB") in
    let n0 : List TakenName = names ++ entry (g_of cell) meaning.Instance ∷ [] in
    let t0 = tied-gate names nets cell flops small tied in
    let n1 : List TakenName = names_with p nets n0 in
    let a : List Text = with_net p nets in
    let t1 = tied-net n0 nets (suc cell) flops p ip t0 in
    let n2 : List TakenName = names_with q a n1 in
    let b : List Text = with_net q a in
    let t2 = tied-net n1 a (suc cell) flops q iq t1 in
    let n3 : List TakenName = names_with d b n2 in
    let c : List Text = with_net d b in
    let t3 = tied-net n2 b (suc cell) flops d id t2 in
    let sa = with-size p nets in
    let sb = with-size q a in
    let x : Signal = net_in a p in
    let y : Signal = net_in b q in
    let z : Signal = net_in c d in
    let joined : Joined = Some x ∷ Some y ∷ Some z ∷ [] in
    let l : IsInstanceLine (draft names nets instances []) (draft n0 nets instances []) (draft n3 c instances []) (record { 0 = gate_cell word }) cell_is joined (kind_of word) (g_of cell) (codes "A") p (codes "B") q (codes "Y") d = record {
      cell_word = g.plain;
      own_name = plain_own 103 cell (omega arith) (omega arith) small;
      found = g.found;
      there = g.there;
      named_so = λ place. name_instance-is place (g_of cell) (draft names nets instances []) (tied.gate cell (omega arith) small) few;
      first = (draft n1 a instances [], Some x ∷ None ∷ None ∷ []);
      second = (draft n2 b instances [], Some x ∷ Some y ∷ None ∷ []);
      one = λ behind. connection_read cell_is (draft n0 nets instances []) (draft n1 a instances []) (unjoined cell_is) 0 (codes "A") p x behind refl pin_a refl refl (plain_inner p ip) (λ l. net_bits false n0 nets instances [] (suc cell) flops p l ip t0 (omega arith));
      two = λ behind. connection_read cell_is (draft n1 a instances []) (draft n2 b instances []) (Some x ∷ None ∷ None ∷ []) 1 (codes "B") q y behind refl pin_b refl refl (plain_inner q iq) (λ l. net_bits false n1 a instances [] (suc cell) flops q l iq t1 (omega (arith, sa)));
      last = λ behind. connection_read cell_is (draft n2 b instances []) (draft n3 c instances []) (Some x ∷ Some y ∷ None ∷ []) 2 (codes "Y") d z behind refl pin_y refl refl (plain_inner d id) (λ l. net_bits true n2 b instances [] (suc cell) flops d l id t2 (omega (arith, sa, sb)));
    } in
    record {
      new_names = n3;
      tied = t3;
      reads = subst (λ (i : Instance). Line (gate_line size cell word (word_at words (cell * 3 + 1)) (word_at words (cell * 3 + 2))) (draft names nets instances []) (draft n3 c (instances ++ i ∷ []) [])) (gate_same size words cell nets all grows)
          (instance_read (gate_line size cell word (word_at words (cell * 3 + 1)) (word_at words (cell * 3 + 2))) (draft names nets instances []) (draft n0 nets instances []) (draft n3 c instances []) (record { 0 = gate_cell word }) cell_is joined
          (kind_of word) (g_of cell) (codes "A") p (codes "B") q (codes "Y") d (gate_parts size cell word (word_at words (cell * 3 + 1)) (word_at words (cell * 3 + 2))) (gate_some size cell word (word_at words (cell * 3 + 1)) (word_at words (cell * 3 + 2))) l);
    }

-- the cell of flip-flops
abbrev pub dff : Cell
dff = flip_flop (codes "DFF") force.Nothing 21

flop_same : (cell : ℕ) (nets all : List Text) → has_name nets (d_of cell) ≡ true → Grows (with_net (q_of cell) nets) all
    → cell_instance (record { 0 = 5 }) (f_of cell) (Some (signal.Net (record { 0 = cell % 2 })) ∷ Some (net_in nets (d_of cell)) ∷ Some (net_in (with_net (q_of cell) nets) (q_of cell)) ∷ None ∷ []) ≡ flop_in all cell
flop_same cell nets all has grows =
    let a : List Text = with_net (q_of cell) nets in
    let first : number_in all (d_of cell) ≡ number_in nets (d_of cell) = grown-number nets all (d_of cell) (grows-on nets a all (with-grows (q_of cell) nets) grows) has in
    let second : number_in all (q_of cell) ≡ number_in a (q_of cell) = grown-number a all (q_of cell) grows (with-has (q_of cell) nets) in
    sym (rw (first, second) refl)

pub flop_step : (cell : ℕ) (names : List TakenName) (nets : List Text) (instances : List Instance) (all : List Text) (gates : ℕ) → has_name nets (d_of cell) ≡ true → Grows (with_net (q_of cell) nets) all → AreTied names nets gates cell
    → cell < 2 ^ 64 → length nets + 1 ≤ MAX_NETS → length instances < MAX_INSTANCES → Step (flop_line cell) names nets instances (with_net (q_of cell) nets) (instances ++ flop_in all cell ∷ []) gates (suc cell)
flop_step cell names nets instances all gates has grows tied small room few =
    let clock : ℕ = cell % 2 in
    let lt : clock < 2 = mod-lt cell (omega arith) in
    let q : Text = q_of cell in
    let d : Text = d_of cell in
    let iq = q-inner cell small in
    let id = d-inner cell small in
    let n0 : List TakenName = names ++ entry (f_of cell) meaning.Instance ∷ [] in
    let t0 = tied-flop names nets gates cell small tied in
    let n1 : List TakenName = names_with q nets n0 in
    let a : List Text = with_net q nets in
    let t1 = tied-net n0 nets gates (suc cell) q iq t0 in
    let x : Signal = signal.Net (record { 0 = clock }) in
    let y : Signal = net_in nets d in
    let z : Signal = net_in a q in
    let joined : Joined = Some x ∷ Some y ∷ Some z ∷ None ∷ [] in
    let c : Text = codes "clk" ++ decimal clock in
    let l : IsInstanceLine (draft names nets instances []) (draft n0 nets instances []) (draft n1 a instances []) (record { 0 = 5 }) dff joined (codes "DFF") (f_of cell) (codes "CK") c (codes "D") d (codes "Q") q = record {
      cell_word = dff_plain;
      own_name = plain_own 102 cell (omega arith) (omega arith) small;
      found = refl;
      there = refl;
      named_so = λ place. name_instance-is place (f_of cell) (draft names nets instances []) (tied.flop cell (omega arith) small) few;
      first = (draft n0 nets instances [], Some x ∷ None ∷ None ∷ None ∷ []);
      second = (draft n0 nets instances [], Some x ∷ Some y ∷ None ∷ None ∷ []);
      one = λ behind. connection_read dff (draft n0 nets instances []) (draft n0 nets instances []) (unjoined dff) 0 (codes "CK") c x behind refl pin_ck refl refl (plain_clock clock lt) (λ l. clock_bits clock n0 nets instances [] gates (suc cell) l lt t0);
      two = λ behind. connection_read dff (draft n0 nets instances []) (draft n0 nets instances []) (Some x ∷ None ∷ None ∷ None ∷ []) 1 (codes "D") d y behind refl pin_d refl refl (plain_inner d id) (λ l. known_bits false n0 nets instances [] gates (suc cell) d l id has t0);
      last = λ behind. connection_read dff (draft n0 nets instances []) (draft n1 a instances []) (Some x ∷ Some y ∷ None ∷ None ∷ []) 2 (codes "Q") q z behind refl pin_q refl refl (plain_inner q iq) (λ l. net_bits true n0 nets instances [] gates (suc cell) q l iq t0 room);
    } in
    record {
      new_names = n1;
      tied = t1;
      reads = subst (λ (i : Instance). Line (flop_line cell) (draft names nets instances []) (draft n1 a (instances ++ i ∷ []) [])) (flop_same cell nets all has grows)
          (instance_read (flop_line cell) (draft names nets instances []) (draft n0 nets instances []) (draft n1 a instances []) (record { 0 = 5 }) dff joined (codes "DFF") (f_of cell) (codes "CK") c (codes "D") d (codes "Q") q (flop_parts cell) (flop_some cell) l);
    }

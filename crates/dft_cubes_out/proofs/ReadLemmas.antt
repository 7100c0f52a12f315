-- Written cubes are read as they are.
use Rattle.std.proofs.Common.{◌≡◌, ℕ, zero, suc, ◌+◌, ◌<◌, ◌≤◌, Bool, true, false, leb, List, [], ◌∷◌, ◌++◌, length, flat_map, Option, Some, None, Ok, codes, slice_get, refl, sym, ap, ◌∙◌, subst, arith, append_assoc, append-nil, length-append}
use Rattle.std.specs.Prelude.{◌||◌, ◌==◌, IsSome}
use Rattle.std.specs.List.{list_any}
use Rattle.std.specs.Option.{option_and_then}
use Rattle.std.specs.Str.{bytes_eq}
use Rattle.std.proofs.lemmas.Bool.Decides.{nat_tests}
use Rattle.std.proofs.lemmas.Option.{none-some}
use Rattle.dft_base.specs.Lexing.{Text}
use Rattle.dft_base.proofs.TextLemmas.{same_text}
use Rattle.dft_base.proofs.ListLemmas.{get_left}
use Rattle.dft_cells.specs.WellFormed.{has_name}
use Rattle.dft_netlist.specs.declared.ids.NetId.{NetId}
use Rattle.dft_netlist.specs.declared.ids.InstanceId.{InstanceId}
use Rattle.dft_netlist.specs.Netlist.{Netlist}
use Rattle.dft_netlist.specs.Sound.{IsNetlist}
use Rattle.dft_netlist.specs.Drivers.{kind_at}
use Rattle.dft_netlist.specs.Names.{instance_name}
use Rattle.dft_netlist.specs.Connections.{input_net}
use Rattle.dft_config.specs.Config.{Config}
use Rattle.dft_config.specs.Range.{IsInRange}
use Rattle.dft_rules.specs.Rules.{flip_flop_named, may_be_scanned}
use Rattle.dft_word_lines.specs.Lines.{lines_of, words_from}
use Rattle.dft_cubes.specs.declared.cube.Cube.{Cube}
use Rattle.dft_cubes.specs.declared.limits.TheConstants.{MAX_CUBES}
use Rattle.dft_cubes.specs.Cubes.{Reading, names_of, or_first, domain_named, is_among, line_refusal, with_line, cubes_from}
use Rattle.dft_cubes.specs.Laws.{AreCells, AreCubes, ArePorts, IsCube}
use Rattle.dft_cubes_out.specs.Written.{begin_line, bit_text, cell_line, cell_name, clock_name, cube_text, cubes_text, name_of, port_line, port_name}
use Rattle.dft_cubes_out.specs.Laws.{CanBeWritten, IsWord, WrittenCubesAreRead}
use Rattle.dft_cubes_out.proofs.NameLemmas.{among_stands, cell_found, domain_found, port_found}
use Rattle.dft_cubes_out.proofs.TakeLemmas.{Takes, takes_line, takes_more, takes_none, takes_three}
use Rattle.dft_cubes_out.proofs.WordLemmas.{Stands, stands, word_last}

-- ---- places in a list

within : {A : Type 0} (xs : List A) (k : ℕ) (x : A) → slice_get xs k ≡ Some x → k < length xs
within [] k x at = absurd (none-some x at)
within (y ∷ xs) zero x at = omega arith
within (y ∷ xs) (suc k) x at = let lt = within xs k x at in omega (arith, lt)

behind : {A : Type 0} (xs ys : List A) (x : A) → slice_get (xs ++ x ∷ ys) (length xs) ≡ Some x
behind [] ys x = refl
behind (y ∷ xs) ys x = behind xs ys x

-- one of these passes a test
abbrev Passes : {A : Type 0} → (test : A → Bool) → List A → Type 0
Passes {A} test xs = (j : ℕ) × (a : A) × (slice_get xs j ≡ Some a) × (test a ≡ true)

found_more : {A : Type 0} (test : A → Bool) (x : A) (xs : List A) (t : Bool) → test x ≡ t → (t || list_any test xs) ≡ true → (list_any test xs ≡ true → Passes test xs) → Passes test (x ∷ xs)
found_more test x xs true is h rest = (0, x, refl, is)
found_more test x xs false is h rest = let r = rest h in (suc r.0, r.1, r.2, r.3)

found_in : {A : Type 0} (test : A → Bool) (xs : List A) → list_any test xs ≡ true → Passes test xs
found_in test [] h = absurd (let f : ⊥ = cc in f)
found_in test (x ∷ xs) h = found_more test x xs (test x) refl h (found_in test xs)

-- of items of which the same stand at one place, none before an item is the same as it
abbrev Once : {A : Type 0} → (same : A → A → Bool) → List A → Type 0
Once {A} same xs = (j k : ℕ) (a b : A) → slice_get xs j ≡ Some a → slice_get xs k ≡ Some b → same a b ≡ true → j ≡ k

none_by : {A : Type 0} (same : A → A → Bool) (before more : List A) (x : A) (t : Bool) → list_any (λ y. same y x) before ≡ t → Once same (before ++ x ∷ more) → t ≡ false
none_by same before more x true is once =
    let r = found_in (λ y. same y x) before is in
    let at : r.0 ≡ length before = once r.0 (length before) r.1 x (get_left before (x ∷ more) r.0 r.1 r.2) (behind before more x) r.3 in
    let lt = within before r.0 r.1 r.2 in
    absurd (omega (arith, at, lt))
none_by same before more x false is once = refl

none_before : {A : Type 0} (same : A → A → Bool) (before more : List A) (x : A) → Once same (before ++ x ∷ more) → list_any (λ y. same y x) before ≡ false
none_before same before more x once = none_by same before more x (list_any (λ y. same y x) before) refl once

named : (o : Option Text) → IsSome o → o ≡ Some (name_of o)
named None some = absurd (let f : ⊥ = cc in f)
named (Some name) some = refl

pub there : (names : List Text) (k : ℕ) → k < length names → slice_get names k ≡ Some (name_of (slice_get names k))
there [] k lt = absurd (omega (arith, lt))
there (x ∷ names) zero lt = refl
there (x ∷ names) (suc k) lt = there names k (omega (arith, lt))

module _ (n : Netlist) (config : Config) (sound : IsNetlist n) (range : IsInRange config) where
  -- what was read between cubes, and the version that is known there
  abbrev between : (version : Option ℕ) → List Cube → Reading
  between version cubes = record { version = version; cubes = cubes; pending = None }

  -- a cube that captures once
  abbrev single : (name : Text) → (domain : ℕ) → List (InstanceId × Bool) → List (NetId × Bool) → Cube
  single name domain cells ports = record { name = name; domains = record { first = domain; second = None }; cells = cells; ports = ports }

  -- it has not ended
  abbrev pending : List Cube → Cube → Reading
  pending cubes cube = record { version = Some 1; cubes = cubes; pending = Some cube }

  -- ---- the first line

  begin_text : (name clock : Text) → begin_line name clock ≡ (codes "cube" ++ 32 ∷ (name ++ 32 ∷ clock)) ++ 10 ∷ []
  unfolding begin_line
  begin_text name clock = ap (λ (t : Text). codes "cube " ++ t) (sym (append_assoc name (32 ∷ clock) (10 ∷ [])))

  begins : (version : Option ℕ) (cubes : List Cube) (name clock : Text) (domain : ℕ) → or_first version ≡ 1 → Stands name → Stands clock → domain_named config clock ≡ Some domain → has_name (names_of cubes) name ≡ false → length cubes < MAX_CUBES
      → Takes n config (between version cubes) (begin_line name clock) (pending cubes (single name domain [] []))
  begins version cubes name clock domain first word other is new room =
      let full : leb MAX_CUBES (length cubes) ≡ false = grind (arith, nat_tests) in
      subst (λ (t : Text). Takes n config (between version cubes) t (pending cubes (single name domain [] []))) (sym (begin_text name clock))
      (takes_three n config (between version cubes) (pending cubes (single name domain [] [])) (codes "cube") name clock (refl, refl) word other (λ place. rw (is, new, full) refl) (rw (is, first) refl))

  -- ---- cells

  record CellStands (before : List (InstanceId × Bool)) (given : InstanceId × Bool) : Type 0 where
    word : Stands (cell_name n given.0.0)
    is : flip_flop_named n (cell_name n given.0.0) ≡ Some given.0
    new : list_any (λ (g : InstanceId × Bool). g.0.0 == given.0.0) before ≡ false

  cell_text : (given : InstanceId × Bool) (bit : Text) → bit_text given.1 ≡ 32 ∷ (bit ++ 10 ∷ []) → cell_line n given ≡ (codes "cell" ++ 32 ∷ (cell_name n given.0.0 ++ 32 ∷ bit)) ++ 10 ∷ []
  unfolding cell_line
  cell_text given bit is = ap (λ (t : Text). codes "cell " ++ (cell_name n given.0.0 ++ t)) is ∙ ap (λ (t : Text). codes "cell " ++ t) (sym (append_assoc (cell_name n given.0.0) (32 ∷ bit) (10 ∷ [])))

  cell_read : (cubes : List Cube) (name : Text) (domain : ℕ) (before : List (InstanceId × Bool)) (cell : InstanceId) (bit : Bool) → CellStands before (cell, bit)
      → Takes n config (pending cubes (single name domain before [])) (cell_line n (cell, bit)) (pending cubes (single name domain (before ++ (cell, bit) ∷ []) []))
  cell_read cubes name domain before cell true stands =
      subst (λ (t : Text). Takes n config (pending cubes (single name domain before [])) t (pending cubes (single name domain (before ++ (cell, true) ∷ []) []))) (sym (cell_text (cell, true) (codes "1") refl))
      (takes_three n config (pending cubes (single name domain before [])) (pending cubes (single name domain (before ++ (cell, true) ∷ []) [])) (codes "cell") (cell_name n cell.0) (codes "1") (refl, refl) stands.word (refl, refl)
      (λ place. rw (stands.is, stands.new) refl) (rw (stands.is) refl))
  cell_read cubes name domain before cell false stands =
      subst (λ (t : Text). Takes n config (pending cubes (single name domain before [])) t (pending cubes (single name domain (before ++ (cell, false) ∷ []) []))) (sym (cell_text (cell, false) (codes "0") refl))
      (takes_three n config (pending cubes (single name domain before [])) (pending cubes (single name domain (before ++ (cell, false) ∷ []) [])) (codes "cell") (cell_name n cell.0) (codes "0") (refl, refl) stands.word (refl, refl)
      (λ place. rw (stands.is, stands.new) refl) (rw (stands.is) refl))

  -- what is known of all cells of a cube
  record AreGood (cells : List (InstanceId × Bool)) : Type 0 where
    are : AreCells n cells
    kinds : (k : ℕ) (given : InstanceId × Bool) → slice_get cells k ≡ Some given → may_be_scanned (kind_at n given.0.0) ≡ true
    words : (k : ℕ) (given : InstanceId × Bool) → slice_get cells k ≡ Some given → IsWord (cell_name n given.0.0)

  cell_stands : (before more : List (InstanceId × Bool)) (given : InstanceId × Bool) → AreGood (before ++ given ∷ more) → CellStands before given
  cell_stands before more given good =
      let at = behind before more given in
      let are = good.are in
      record {
        word = stands (cell_name n given.0.0) (good.words (length before) given at);
        is = cell_found n (cell_name n given.0.0) given.0 sound (named (option_and_then instance_name (slice_get n.instances given.0.0)) (are.named (length before) given at)) (good.kinds (length before) given at);
        new = none_before (λ g h. g.0.0 == h.0.0) before more given (λ j k a b p q same. are.once j k a b p q (let e : a.0.0 ≡ b.0.0 = grind (arith, nat_tests) in e));
      }

  cells_read : (cubes : List Cube) (name : Text) (domain : ℕ) (before cells : List (InstanceId × Bool)) → AreGood (before ++ cells)
      → Takes n config (pending cubes (single name domain before [])) (flat_map (cell_line n) cells) (pending cubes (single name domain (before ++ cells) []))
  cells_read cubes name domain before [] good =
      subst (λ (gs : List (InstanceId × Bool)). Takes n config (pending cubes (single name domain before [])) [] (pending cubes (single name domain gs []))) (sym (append-nil before)) (takes_none n config (pending cubes (single name domain before [])))
  cells_read cubes name domain before ((cell, bit) ∷ cells) good =
      let here : List (InstanceId × Bool) = before ++ (cell, bit) ∷ [] in
      let same : here ++ cells ≡ before ++ (cell, bit) ∷ cells = append_assoc before ((cell, bit) ∷ []) cells in
      takes_more n config (pending cubes (single name domain before [])) (pending cubes (single name domain here [])) (pending cubes (single name domain (before ++ (cell, bit) ∷ cells) [])) (cell_line n (cell, bit)) (flat_map (cell_line n) cells)
      (cell_read cubes name domain before cell bit (cell_stands before cells (cell, bit) good))
      (subst (λ (gs : List (InstanceId × Bool)). Takes n config (pending cubes (single name domain here [])) (flat_map (cell_line n) cells) (pending cubes (single name domain gs []))) same
      (cells_read cubes name domain here cells (subst AreGood (sym same) good)))

  -- ---- ports

  record PortStands (before : List (NetId × Bool)) (given : NetId × Bool) : Type 0 where
    word : Stands (port_name n given.0.0)
    is : input_net n (port_name n given.0.0) ≡ Some given.0
    new : list_any (λ (g : NetId × Bool). g.0.0 == given.0.0) before ≡ false
    no_clock : is_among config.domains (port_name n given.0.0) ≡ false
    no_reset : is_among config.resets (port_name n given.0.0) ≡ false

  port_text : (given : NetId × Bool) (bit : Text) → bit_text given.1 ≡ 32 ∷ (bit ++ 10 ∷ []) → port_line n given ≡ (codes "port" ++ 32 ∷ (port_name n given.0.0 ++ 32 ∷ bit)) ++ 10 ∷ []
  unfolding port_line
  port_text given bit is = ap (λ (t : Text). codes "port " ++ (port_name n given.0.0 ++ t)) is ∙ ap (λ (t : Text). codes "port " ++ t) (sym (append_assoc (port_name n given.0.0) (32 ∷ bit) (10 ∷ [])))

  port_read : (cubes : List Cube) (name : Text) (domain : ℕ) (cells : List (InstanceId × Bool)) (before : List (NetId × Bool)) (net : NetId) (bit : Bool) → PortStands before (net, bit)
      → Takes n config (pending cubes (single name domain cells before)) (port_line n (net, bit)) (pending cubes (single name domain cells (before ++ (net, bit) ∷ [])))
  port_read cubes name domain cells before net true stands =
      subst (λ (t : Text). Takes n config (pending cubes (single name domain cells before)) t (pending cubes (single name domain cells (before ++ (net, true) ∷ [])))) (sym (port_text (net, true) (codes "1") refl))
      (takes_three n config (pending cubes (single name domain cells before)) (pending cubes (single name domain cells (before ++ (net, true) ∷ []))) (codes "port") (port_name n net.0) (codes "1") (refl, refl) stands.word (refl, refl)
      (λ place. rw (stands.is, stands.new, stands.no_clock, stands.no_reset) refl) (rw (stands.is) refl))
  port_read cubes name domain cells before net false stands =
      subst (λ (t : Text). Takes n config (pending cubes (single name domain cells before)) t (pending cubes (single name domain cells (before ++ (net, false) ∷ [])))) (sym (port_text (net, false) (codes "0") refl))
      (takes_three n config (pending cubes (single name domain cells before)) (pending cubes (single name domain cells (before ++ (net, false) ∷ []))) (codes "port") (port_name n net.0) (codes "0") (refl, refl) stands.word (refl, refl)
      (λ place. rw (stands.is, stands.new, stands.no_clock, stands.no_reset) refl) (rw (stands.is) refl))

  -- what is known of all ports of a cube
  record AreFree (ports : List (NetId × Bool)) : Type 0 where
    are : ArePorts n config ports
    words : (k : ℕ) (given : NetId × Bool) → slice_get ports k ≡ Some given → IsWord (port_name n given.0.0)

  port_stands : (before more : List (NetId × Bool)) (given : NetId × Bool) → AreFree (before ++ given ∷ more) → PortStands before given
  port_stands before more given free =
      let at = behind before more given in
      let are = free.are in
      let is : input_net n (port_name n given.0.0) ≡ Some given.0 = port_found n (port_name n given.0.0) given.0 sound (there n.nets given.0.0 (are.live (length before) given at)) (are.input (length before) given at) in
      record {
        word = stands (port_name n given.0.0) (free.words (length before) given at);
        is = is;
        new = none_before (λ g h. g.0.0 == h.0.0) before more given (λ j k a b p q same. are.once j k a b p q (let e : a.0.0 ≡ b.0.0 = grind (arith, nat_tests) in e));
        no_clock = among_stands n config.domains (port_name n given.0.0) given.0 is (are.no_clock (length before) given at);
        no_reset = among_stands n config.resets (port_name n given.0.0) given.0 is (are.no_reset (length before) given at);
      }

  ports_read : (cubes : List Cube) (name : Text) (domain : ℕ) (cells : List (InstanceId × Bool)) (before ports : List (NetId × Bool)) → AreFree (before ++ ports)
      → Takes n config (pending cubes (single name domain cells before)) (flat_map (port_line n) ports) (pending cubes (single name domain cells (before ++ ports)))
  ports_read cubes name domain cells before [] free =
      subst (λ (gs : List (NetId × Bool)). Takes n config (pending cubes (single name domain cells before)) [] (pending cubes (single name domain cells gs))) (sym (append-nil before)) (takes_none n config (pending cubes (single name domain cells before)))
  ports_read cubes name domain cells before ((net, bit) ∷ ports) free =
      let here : List (NetId × Bool) = before ++ (net, bit) ∷ [] in
      let same : here ++ ports ≡ before ++ (net, bit) ∷ ports = append_assoc before ((net, bit) ∷ []) ports in
      takes_more n config (pending cubes (single name domain cells before)) (pending cubes (single name domain cells here)) (pending cubes (single name domain cells (before ++ (net, bit) ∷ ports))) (port_line n (net, bit)) (flat_map (port_line n) ports)
      (port_read cubes name domain cells before net bit (port_stands before ports (net, bit) free))
      (subst (λ (gs : List (NetId × Bool)). Takes n config (pending cubes (single name domain cells here)) (flat_map (port_line n) ports) (pending cubes (single name domain cells gs))) same
      (ports_read cubes name domain cells here ports (subst AreFree (sym same) free)))

  -- ---- cubes

  ends : (cubes : List Cube) (cube : Cube) → Takes n config (pending cubes cube) (codes "end\n") (between (Some 1) (cubes ++ cube ∷ []))
  ends cubes cube =
      let said = word_last (codes "end") (refl, refl) in
      takes_line n config (pending cubes cube) (between (Some 1) (cubes ++ cube ∷ [])) (codes "end") refl (λ place. ap (line_refusal n config (pending cubes cube) place) said) (ap (with_line n config (pending cubes cube)) said)

  cube_read : (version : Option ℕ) (before : List Cube) (cube : Cube) → or_first version ≡ 1 → IsCube n config cube → CanBeWritten n config cube → has_name (names_of before) cube.name ≡ false → length before < MAX_CUBES
      → Takes n config (between version before) (cube_text n config cube) (between (Some 1) (before ++ cube ∷ []))
  unfolding cube_text
  cube_read version before cube first is can new room =
      let name : Text = cube.name in
      let domain : ℕ = cube.domains.first in
      let clock : Text = clock_name config domain in
      let same : cube ≡ single name domain cube.cells cube.ports = ap (λ (o : Option ℕ). record { name = name; domains = record { first = domain; second = o }; cells = cube.cells; ports = cube.ports }) can.once in
      let place : domain < length config.domains = is.domains.0 in
      let found : domain_named config clock ≡ Some domain = domain_found config.domains clock domain range.domains_differ (there config.domains domain place) in
      takes_more n config (between version before) (pending before (single name domain [] [])) (between (Some 1) (before ++ cube ∷ [])) (begin_line name clock) (flat_map (cell_line n) cube.cells ++ (flat_map (port_line n) cube.ports ++ codes "end\n"))
      (begins version before name clock domain first (stands name can.name) (stands clock can.clock) found new room)
      (takes_more n config (pending before (single name domain [] [])) (pending before (single name domain cube.cells [])) (between (Some 1) (before ++ cube ∷ [])) (flat_map (cell_line n) cube.cells) (flat_map (port_line n) cube.ports ++ codes "end\n")
      (cells_read before name domain [] cube.cells (record { are = is.cells; kinds = can.kinds; words = can.cells }))
      (takes_more n config (pending before (single name domain cube.cells [])) (pending before (single name domain cube.cells cube.ports)) (between (Some 1) (before ++ cube ∷ [])) (flat_map (port_line n) cube.ports) (codes "end\n")
      (ports_read before name domain cube.cells [] cube.ports (record { are = is.ports; words = can.ports }))
      (subst (λ (c : Cube). Takes n config (pending before (single name domain cube.cells cube.ports)) (codes "end\n") (between (Some 1) (before ++ c ∷ []))) (sym same) (ends before (single name domain cube.cells cube.ports)))))

  -- behind a cube the version is known
  abbrev known : (version : Option ℕ) → List Cube → Option ℕ
  known version [] = version
  known version (cube ∷ cubes) = Some 1

  known_on : (cubes : List Cube) → known (Some 1) cubes ≡ Some 1
  known_on [] = refl
  known_on (cube ∷ cubes) = refl

  -- what is known of all cubes
  pub record AllGood (cubes : List Cube) : Type 0 where
    pub are : AreCubes n config cubes
    pub can : (k : ℕ) (cube : Cube) → slice_get cubes k ≡ Some cube → CanBeWritten n config cube
    pub few : length cubes ≤ MAX_CUBES

  names_any : (cubes : List Cube) (name : Text) → has_name (names_of cubes) name ≡ list_any (λ (c : Cube). bytes_eq c.name name) cubes
  names_any [] name = refl
  names_any (c ∷ cubes) name = ap (λ (b : Bool). bytes_eq c.name name || b) (names_any cubes name)

  new_name : (before more : List Cube) (cube : Cube) → AreCubes n config (before ++ cube ∷ more) → has_name (names_of before) cube.name ≡ false
  new_name before more cube are =
      names_any before cube.name ∙ none_before (λ c d. bytes_eq c.name d.name) before more cube (λ j k a b p q same. are.names j k a b p q (same_text a.name b.name same))

  all_read : (version : Option ℕ) (before cubes : List Cube) → or_first version ≡ 1 → AllGood (before ++ cubes) → Takes n config (between version before) (cubes_text n config cubes) (between (known version cubes) (before ++ cubes))
  all_read version before [] first good = subst (λ (cs : List Cube). Takes n config (between version before) [] (between version cs)) (sym (append-nil before)) (takes_none n config (between version before))
  all_read version before (cube ∷ cubes) first good =
      let here : List Cube = before ++ cube ∷ [] in
      let at = behind before cubes cube in
      let same : here ++ cubes ≡ before ++ cube ∷ cubes = append_assoc before (cube ∷ []) cubes in
      let few = good.few in
      let room : length before < MAX_CUBES = omega (arith, few, length-append before (cube ∷ cubes)) in
      takes_more n config (between version before) (between (Some 1) here) (between (Some 1) (before ++ cube ∷ cubes)) (cube_text n config cube) (cubes_text n config cubes)
      (cube_read version before cube first (good.are.each (length before) cube at) (good.can (length before) cube at) (new_name before cubes cube good.are) room)
      (subst (λ (cs : List Cube). Takes n config (between (Some 1) here) (cubes_text n config cubes) (between (Some 1) cs)) same
      (subst (λ (v : Option ℕ). Takes n config (between (Some 1) here) (cubes_text n config cubes) (between v (here ++ cubes))) (known_on cubes) (all_read (Some 1) here cubes refl (subst AllGood (sym same) good))))

  end_read : (version : Option ℕ) (cubes : List Cube) (number : ℕ) → cubes_from n config (between version cubes) number (lines_of []) ≡ Ok cubes
  unfolding cubes_from words_from lines_of
  end_read version cubes number = refl

  pub cubes_read : (cubes : List Cube) → AllGood cubes → cubes_from n config (between None []) 0 (lines_of (cubes_text n config cubes)) ≡ Ok cubes
  cubes_read cubes good =
      let all = all_read None [] cubes refl good 0 in
      ap (λ (t : Text). cubes_from n config (between None []) 0 (lines_of t)) (sym (append-nil (cubes_text n config cubes))) ∙ all.1 [] ∙ end_read (known None cubes) cubes all.0

pub written_cubes_are_read : WrittenCubesAreRead
written_cubes_are_read n config cubes sound range are can few = cubes_read n config sound range cubes (record { are = are; can = can; few = few })

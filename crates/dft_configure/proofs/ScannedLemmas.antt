-- As many flip-flops are counted as are scanned.
use Rattle.std.proofs.Common.{◌≡◌, ◌⊎◌, inl, inr, ℕ, zero, suc, ◌+◌, ◌==◌, Bool, true, false, cond, ◌&&◌, ◌||◌, List, [], ◌∷◌, length, map, filter, count_by, Option, None, Some, is_some, option_map, option_and_then, refl, sym, ◌∙◌, ap, zero-add, arith}
use Rattle.std.specs.Prelude.{nat_lt, if◌then◌else◌}
use Rattle.std.specs.List.{list_any, position_from, range_with_len}
use Rattle.std.proofs.lemmas.Bool.{eqb-true, lt-ltb}
use Rattle.std.proofs.lemmas.Iterator.Adapters.{position_from-zero}
use Rattle.std.proofs.lemmas.List.Sums.{sum_by-append, sum_by-cons}
use Rattle.dft_base.specs.Lexing.{Text}
use Rattle.dft_base.proofs.BitLemmas.{and_first, with_true}
use Rattle.dft_base.proofs.SumLemmas.{and_false}
use Rattle.dft_base.proofs.OptionLemmas.{some_mapped}
use Rattle.dft_cells.specs.declared.kind.Role.TheVariants as role
use Rattle.dft_config.specs.Config.{Config}
use Rattle.dft_netlist.specs.declared.ids.NetId.{NetId}
use Rattle.dft_behavior.specs.declared.root.Root.TheVariants as declared
use Rattle.dft_netlist.specs.Netlist.{Netlist}
use Rattle.dft_netlist.specs.Drivers.{Source, kind_at, pins_of}
use Rattle.dft_netlist.specs.Connections.{pin_of}
use Rattle.dft_behavior.specs.Traces.{Root, Port, Constant, Other, root_of}
use Rattle.dft_behavior.specs.ClockRoots.{ClockRoot, clock_root_of}
use Rattle.dft_rules.specs.Findings.{AreNets}
use Rattle.dft_rules.specs.Refusals.{is_scanned}
use Rattle.dft_rules.specs.Rules.{are_held_at, clock_of_source, clocked_by, is_held, is_kept, is_pin_held, judged, judged_by, may_be_scanned, place_of_clock, place_of_port, scan_cell_of}
use Rattle.dft_rules.proofs.JudgeLemmas.{same_place}
use Rattle.dft_configure.proofs.ChoiceLemmas.{count_same}
use Rattle.dft_configure.specs.Found.{numbers}
use Rattle.dft_configure.specs.Most.{HasRoots}
use Rattle.dft_configure.specs.Roots.{can_hold, can_hold_both, clean_clock, clean_only, domains_of, hold_root, is_among, is_clean, is_fit, is_most_used, is_port, most_used, open_clock, open_clocks, open_reset, open_resets, port_of_clock, port_of_root, port_shown, resets_by, resets_of, uses}
use Rattle.dft_configure.specs.Scanned.{ScannedAreCounted, are_kept_at, is_kept_at, is_taken, scanned_count}

count_cons : {A : Type 0} (p : A → Bool) (x : A) (xs : List A) → count_by p (x ∷ xs) ≡ cond (p x) 1 0 + count_by p xs
count_cons p x xs = sum_by-cons (λ y. cond (p y) 1 0) x xs

-- ---- a clock that is chosen is clean

-- some item is counted
pub one_counted : (f : ℕ → Option ℕ) (p : Option ℕ → Bool) (xs : List ℕ) → nat_lt 0 (count_by p (map f xs)) ≡ true → (i : ℕ) × (p (f i) ≡ true)
one_counted f p [] some = absurd cc
one_counted f p (x ∷ xs) some = one_more (p (f x)) refl (ap (nat_lt 0) (sym (count_cons p (f x) (map f xs))) ∙ some) (one_counted f p xs) where
  one_more : (b : Bool) → p (f x) ≡ b → nat_lt 0 (cond (p (f x)) 1 0 + count_by p (map f xs)) ≡ true → (nat_lt 0 (count_by p (map f xs)) ≡ true → (i : ℕ) × (p (f i) ≡ true)) → (i : ℕ) × (p (f i) ≡ true)
  one_more true is some rest = (x, is)
  one_more false is some rest = rest (ap (nat_lt 0) (sym (zero-add (count_by p (map f xs)))) ∙ (ap (λ (b : Bool). nat_lt 0 (cond b 1 0 + count_by p (map f xs))) (sym is) ∙ some))

any_more : (q : ℕ → Bool) (p x : ℕ) (xs : List ℕ) (b : Bool) → q x ≡ b → list_any (λ other. other == p) (cond b (x ∷ filter q xs) (filter q xs)) ≡ true → (list_any (λ other. other == p) (filter q xs) ≡ true → q p ≡ true) → q p ≡ true
any_more q p x xs true is any rest = any_first (x == p) refl any where
  any_first : (b : Bool) → (x == p) ≡ b → ((x == p) || list_any (λ other. other == p) (filter q xs)) ≡ true → q p ≡ true
  any_first true same any = ap q (sym (eqb-true x p same)) ∙ is
  any_first false same any = rest (ap (λ (b : Bool). b || list_any (λ other. other == p) (filter q xs)) (sym same) ∙ any)
any_more q p x xs false is any rest = rest any

-- what stands among chosen ones was chosen
among_chosen : (q : ℕ → Bool) (p : ℕ) (xs : List ℕ) → list_any (λ other. other == p) (filter q xs) ≡ true → q p ≡ true
among_chosen q p [] any = absurd cc
among_chosen q p (x ∷ xs) any = any_more q p x xs (q x) refl any (among_chosen q p xs)

pub used : (uses : ℕ → ℕ) (nets port : ℕ) → is_among (most_used uses nets) (Some port) ≡ true → nat_lt 0 (uses port) ≡ true
unfolding most_used
used uses nets port among = and_first (nat_lt 0 (uses port)) _ (among_chosen (is_most_used uses nets) port (range_with_len 0 nets) among)

clean_by : (n : Netlist) (p q : ℕ) (b : Bool) → is_clean n q ≡ b → is_port p (if b then Some q else None) ≡ true → is_clean n p ≡ true
clean_by n p q true is port = ap (is_clean n) (sym (eqb-true q p port)) ∙ is
clean_by n p q false is port = absurd cc

clean_of : (n : Netlist) (p : ℕ) (o : Option ℕ) → is_port p (clean_only n o) ≡ true → is_clean n p ≡ true
clean_of n p None port = absurd cc
clean_of n p (Some q) port = clean_by n p q (is_clean n q) refl port

open_by : (n : Netlist) (p : ℕ) (o : Option ℕ) (b : Bool) → is_port p (if b then clean_only n o else None) ≡ true → is_clean n p ≡ true
open_by n p o true port = clean_of n p o port
open_by n p o false port = absurd cc

open_clean : (n : Netlist) (i p : ℕ) → is_port p (open_clock n i) ≡ true → is_clean n p ≡ true
unfolding open_clock
open_clean n i p port = open_by n p (option_and_then (port_shown n) (pin_of role.Clock i (pins_of n i))) (is_fit n i && can_hold_both n i) port

pub domain_clean : (n : Netlist) (port : ℕ) → is_among (domains_of n) (Some port) ≡ true → is_clean n port ≡ true
unfolding domains_of
domain_clean n port among =
    let some = one_counted (open_clock n) (is_port port) (range_with_len 0 (length n.instances)) (used (uses (open_clocks n)) (length n.nets) port among) in
    open_clean n some.0 port some.1

none_left : (a b : ℕ) → nat_lt 0 a ≡ false → nat_lt 0 (a + b) ≡ true → nat_lt 0 b ≡ true
none_left zero b none some = ap (nat_lt 0) (sym (zero-add b)) ∙ some
none_left (suc a) b none some = let never : true ≡ false = sym (lt-ltb 0 (suc a) (omega arith)) ∙ none in absurd cc

-- some reset or set is counted
pub reset_counted : (n : Netlist) (domains : List ℕ) (p : Option ℕ → Bool) → nat_lt 0 (count_by p (open_resets n domains)) ≡ true →
    (i : ℕ) × ((p (open_reset n domains role.Reset i) ≡ true) ⊎ (p (open_reset n domains role.Preset i) ≡ true))
unfolding open_resets
reset_counted n domains p some =
    by (nat_lt 0 (count_by p (resets_by n domains role.Reset))) refl (ap (nat_lt 0) (sym (sum_by-append (λ y. cond (p y) 1 0) (resets_by n domains role.Reset) (resets_by n domains role.Preset))) ∙ some)
  where
    instances : List ℕ
    instances = range_with_len 0 (length n.instances)

    by : (b : Bool) → nat_lt 0 (count_by p (resets_by n domains role.Reset)) ≡ b → nat_lt 0 (count_by p (resets_by n domains role.Reset) + count_by p (resets_by n domains role.Preset)) ≡ true →
        (i : ℕ) × ((p (open_reset n domains role.Reset i) ≡ true) ⊎ (p (open_reset n domains role.Preset i) ≡ true))
    by true is some = let one = one_counted (open_reset n domains role.Reset) p instances is in (one.0, inl one.1)
    by false is some = let one = one_counted (open_reset n domains role.Preset) p instances (none_left _ _ is some) in (one.0, inr one.1)

-- ---- places of names

same_by : (b any : Bool) (k : ℕ) (rest : Option ℕ) → any ≡ is_some rest → (b || any) ≡ is_some (cond b (Some k) rest)
same_by true any k rest is = refl
same_by false any k rest is = is

some_same : (k net : ℕ) (xs : List NetId) → list_any (λ other. other == net) (numbers xs) ≡ is_some (position_from (λ other. other.0 == net) k xs)
some_same k net [] = refl
some_same k net (x ∷ xs) = same_by (x.0 == net) _ k _ (some_same (k + 1) net xs)

place_same : (n : Netlist) (names : List Text) (nets : List NetId) (chosen : List ℕ) (net : ℕ) → AreNets n names nets → numbers nets ≡ chosen → is_some (place_of_port n names net) ≡ is_among chosen (Some net)
place_same n names nets chosen net are is =
    ap is_some (same_place n names nets are (declared.Port (record { 0 = net })) ∙ position_from-zero (λ other. other.0 == net) nets) ∙ sym (some_same 0 net nets)
    ∙ ap (λ (l : List ℕ). list_any (λ other. other == net) l) is

-- ---- the clock

among_clean : (n : Netlist) (port : ℕ) (b : Bool) → is_clean n port ≡ b → is_among (domains_of n) (if b then Some port else None) ≡ is_among (domains_of n) (Some port)
among_clean n port true is = refl
among_clean n port false is = not_among (is_among (domains_of n) (Some port)) refl where
  not_among : (b : Bool) → is_among (domains_of n) (Some port) ≡ b → false ≡ is_among (domains_of n) (Some port)
  not_among true among = let never : false ≡ true = sym is ∙ domain_clean n port among in absurd cc
  not_among false among = sym among

clock_same : (n : Netlist) (config : Config) (roots : HasRoots n config) (o : Option ClockRoot) → is_among (domains_of n) (clean_only n (port_of_clock o)) ≡ is_some (place_of_clock n config.domains o)
clock_same n config roots None = refl
clock_same n config roots (Some root) =
    among_clean n root.port (is_clean n root.port) refl ∙ sym (place_same n config.domains roots.domains (domains_of n) root.port roots.clocks_named roots.clocks)
    ∙ sym (some_mapped (λ place. (place, root.inverted)) (place_of_port n config.domains root.port))

pin_same : (n : Netlist) (config : Config) (roots : HasRoots n config) (o : Option Source) → is_among (domains_of n) (clean_only n (option_and_then (port_shown n) o)) ≡ is_some (option_and_then (clock_of_source n config.domains) o)
pin_same n config roots None = refl
pin_same n config roots (Some source) = clock_same n config roots (clock_root_of n source)

-- ---- the reset

root_same : (n : Netlist) (config : Config) (roots : HasRoots n config) (r : Root) → (can_hold (Some r) && is_kept_at (resets_of n (domains_of n)) (port_of_root (Some r))) ≡ is_held n config.resets r
root_same n config roots (Port net) = sym (place_same n config.resets roots.resets (resets_of n (domains_of n)) net roots.resets_named roots.held)
root_same n config roots (Constant bit) = sym (with_true bit)
root_same n config roots Other = refl

pin_held_same : (n : Netlist) (config : Config) (roots : HasRoots n config) (pin : Option Source) →
    (can_hold (option_map (root_of n) pin) && is_kept_at (resets_of n (domains_of n)) (port_of_root (option_map (root_of n) pin))) ≡ is_pin_held n config.resets pin
pin_held_same n config roots None = refl
pin_held_same n config roots (Some source) = root_same n config roots (root_of n source)

both_swap : (a b c d : Bool) → ((a && b) && (c && d)) ≡ ((a && c) && (b && d))
both_swap true true c d = refl
both_swap true false true d = refl
both_swap true false false d = refl
both_swap false b c d = refl

held_same : (n : Netlist) (config : Config) (i : ℕ) (roots : HasRoots n config) → (can_hold_both n i && are_kept_at n (resets_of n (domains_of n)) i) ≡ are_held_at n config i
held_same n config i roots =
    both_swap (can_hold (hold_root n role.Reset i)) (can_hold (hold_root n role.Preset i)) (is_kept_at (resets_of n (domains_of n)) (port_of_root (hold_root n role.Reset i))) (is_kept_at (resets_of n (domains_of n)) (port_of_root (hold_root n role.Preset i)))
    ∙ (λ j. pin_held_same n config roots (pin_of role.Reset i (pins_of n i)) j && pin_held_same n config roots (pin_of role.Preset i (pins_of n i)) j)

-- ---- the judgement

scanned_is : (shown : Option (ℕ × Bool)) (held scans : Bool) → is_scanned (judged_by shown held scans false) ≡ (is_some shown && (held && scans))
scanned_is None held scans = refl
scanned_is (Some clock) false scans = refl
scanned_is (Some clock) true false = refl
scanned_is (Some clock) true true = refl

taken_by : (may scans can : Bool) (domains : List ℕ) (clock : Option ℕ) (kept : Bool) (shown : Option (ℕ × Bool)) (held : Bool) → is_among domains clock ≡ is_some shown → (can && kept) ≡ held →
    (is_among domains (if (may && scans) && can then clock else None) && kept) ≡ is_scanned (if may then judged_by shown held scans false else None)
taken_by false scans can domains clock kept shown held among holds = refl
taken_by true false can domains clock kept shown held among holds = sym (scanned_is shown held false ∙ ap (λ (b : Bool). is_some shown && b) (and_false held) ∙ and_false (is_some shown))
taken_by true true false domains clock kept shown held among holds = sym (scanned_is shown held true ∙ ap (λ (b : Bool). is_some shown && (b && true)) (sym holds) ∙ and_false (is_some shown))
taken_by true true true domains clock kept shown held among holds =
    (λ i. among i && holds i) ∙ ap (λ (b : Bool). is_some shown && b) (with_true held) ∙ sym (scanned_is shown held true)

taken_same : (n : Netlist) (config : Config) (i : ℕ) → HasRoots n config → is_taken n (domains_of n) (resets_of n (domains_of n)) i ≡ is_scanned (judged n config i)
unfolding open_clock
taken_same n config i roots =
    taken_by (may_be_scanned (kind_at n i)) (is_some (scan_cell_of n i)) (can_hold_both n i) (domains_of n) (clean_clock n i) (are_kept_at n (resets_of n (domains_of n)) i)
    (clocked_by n config i) (are_held_at n config i) (pin_same n config roots (pin_of role.Clock i (pins_of n i))) (held_same n config i roots)
    ∙ ap (λ (l : List Text). is_scanned (if may_be_scanned (kind_at n i) then judged_by (clocked_by n config i) (are_held_at n config i) (is_some (scan_cell_of n i)) (is_kept n l i) else None)) (sym roots.keep)

count_mapped : {A B : Type 0} (p : B → Bool) (f : A → B) (xs : List A) → count_by p (map f xs) ≡ count_by (λ x. p (f x)) xs
count_mapped p f [] = refl
count_mapped p f (x ∷ xs) = count_cons p (f x) (map f xs) ∙ ap (λ (k : ℕ). cond (p (f x)) 1 0 + k) (count_mapped p f xs) ∙ sym (count_cons (λ y. p (f y)) x xs)

pub all_counted : ScannedAreCounted
unfolding scanned_count
all_counted n config sound roots =
    count_same (is_taken n (domains_of n) (resets_of n (domains_of n))) (λ i. is_scanned (judged n config i)) (length n.instances) (λ i less. taken_same n config i roots)
    ∙ sym (count_mapped is_scanned (judged n config) (range_with_len 0 (length n.instances)))

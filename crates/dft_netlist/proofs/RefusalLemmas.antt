-- Why a builder's call is refused.
use Rattle.std.proofs.Common.{◌≡◌, Err, ℕ, ◌+◌, ◌<◌, ◌≤◌, Bool, true, false, cond, length, Option, None, Some, refl, arith, pos}
use Rattle.std.specs.Prelude.{nat_le}
use Rattle.std.proofs.lemmas.Bool.{le-leb, lt-leb, leb-true}
use Rattle.dft_netlist.specs.declared.error.Counted.TheVariants.{Nets, Instances}
use Rattle.dft_netlist.specs.declared.error.NetlistError.{NetlistError}
use Rattle.dft_netlist.specs.declared.error.NetlistError.TheVariants.{MultipleDrivers, Loop, DuplicateName, TooMany, Memory}
use Rattle.dft_netlist.specs.declared.limits.TheConstants.{MAX_PORTS, MAX_NETS, MAX_INSTANCES}
use Rattle.dft_netlist.specs.Netlist.{Netlist}
use Rattle.dft_netlist.specs.Building.{Answers, net_refusal, instance_refusal, room_limit, taken_or, own_names}
use Rattle.dft_netlist.specs.Names.{is_taken, first_taken}
use Rattle.dft_base.specs.Lexing.{Text}

both : (a b : Bool) (x y : NetlistError) → cond a (cond b None (Some x)) (Some y) ≡ None → (a ≡ true) × (b ≡ true)
both true true x y h = (refl, refl)
both true false x y h = absurd (let f : ⊥ = cc in f)
both false b x y h = absurd (let f : ⊥ = cc in f)

-- one port more has room where no limit refuses it
pub room_of : (n : Netlist) (width : ℕ) → room_limit n width ≡ None → (length n.ports < MAX_PORTS) × (length n.nets + width ≤ MAX_NETS)
room_of n width h =
    let tests = both (nat_le (length n.ports + 1) MAX_PORTS) (nat_le (length n.nets + width) MAX_NETS) _ _ h in
    let ports = leb-true (length n.ports + 1) MAX_PORTS tests.0 in
    (omega (arith, ports), leb-true (length n.nets + width) MAX_NETS tests.1)

-- ---- nets

pub net_taken : (n : Netlist) (q : Text) → is_taken n q ≡ true → net_refusal n q ≡ Some (DuplicateName q)
net_taken n q h = rw h refl

pub net_full : (n : Netlist) (q : Text) → is_taken n q ≡ false → MAX_NETS ≤ length n.nets → net_refusal n q ≡ Some (TooMany Nets (pos MAX_NETS))
net_full n q h full = rw (h, lt-leb (length n.nets + 1) MAX_NETS (omega arith)) refl

pub net_open : (n : Netlist) (q : Text) → is_taken n q ≡ false → length n.nets < MAX_NETS → net_refusal n q ≡ None
net_open n q h few = rw (h, le-leb (length n.nets + 1) MAX_NETS (omega arith)) refl

free_and_room : (t r : Bool) (x y : NetlistError) → cond t (Some x) (cond r None (Some y)) ≡ None → (t ≡ false) × (r ≡ true)
free_and_room true r x y h = absurd (let f : ⊥ = cc in f)
free_and_room false true x y h = (refl, refl)
free_and_room false false x y h = absurd (let f : ⊥ = cc in f)

-- a net that nothing refuses is free and has room
pub net_fits : (n : Netlist) (q : Text) → net_refusal n q ≡ None → (is_taken n q ≡ false) × (length n.nets < MAX_NETS)
net_fits n q h =
    let tests = free_and_room (is_taken n q) (nat_le (length n.nets + 1) MAX_NETS) _ _ h in
    let room = leb-true (length n.nets + 1) MAX_NETS tests.1 in
    (tests.0, omega (arith, room))

-- ---- instances

none_and_room : (x : Option Text) (r : Bool) (y : NetlistError) → taken_or x (cond r None (Some y)) ≡ None → (x ≡ None) × (r ≡ true)
none_and_room (Some q) r y h = absurd (let f : ⊥ = cc in f)
none_and_room None true y h = (refl, refl)
none_and_room None false y h = absurd (let f : ⊥ = cc in f)

-- an instance that nothing refuses is free and has room
pub instance_fits : (n : Netlist) (name : Option Text) → instance_refusal n name ≡ None → (first_taken n (own_names name) ≡ None) × (length n.instances < MAX_INSTANCES)
instance_fits n name h =
    let tests = none_and_room (first_taken n (own_names name)) (nat_le (length n.instances + 1) MAX_INSTANCES) _ h in
    let room = leb-true (length n.instances + 1) MAX_INSTANCES tests.1 in
    (tests.0, omega (arith, room))

pub instance_taken : (n : Netlist) (name : Option Text) (q : Text) → name ≡ Some q → is_taken n q ≡ true → instance_refusal n name ≡ Some (DuplicateName q)
instance_taken n None q is h = absurd (let f : ⊥ = cc in f)
instance_taken n (Some name) q is h = let e : name ≡ q = cc in rw (e, h) refl

pub instance_full : (n : Netlist) (name : Option Text) → first_taken n (own_names name) ≡ None → MAX_INSTANCES ≤ length n.instances → instance_refusal n name ≡ Some (TooMany Instances (pos MAX_INSTANCES))
instance_full n name h full = rw (h, lt-leb (length n.instances + 1) MAX_INSTANCES (omega arith)) refl

pub instance_open : (n : Netlist) (name : Option Text) → first_taken n (own_names name) ≡ None → length n.instances < MAX_INSTANCES → instance_refusal n name ≡ None
instance_open n name h few = rw (h, le-leb (length n.instances + 1) MAX_INSTANCES (omega arith)) refl

-- ---- names before limits

pub free_of : (x : Option Text) → taken_or x None ≡ None → x ≡ None
free_of None h = refl
free_of (Some q) h = absurd (let f : ⊥ = cc in f)

pub answers_taken : (A B : Type 0) (x : Option Text) (limit : Option NetlistError) (e : NetlistError) → Answers {A = A} (taken_or x None) (Err e) → Answers {A = B} (taken_or x limit) (Err e)
answers_taken A B None limit (MultipleDrivers q) h = absurd (let f : ⊥ = cc in f)
answers_taken A B None limit (Loop q) h = absurd (let f : ⊥ = cc in f)
answers_taken A B None limit (DuplicateName q) h = absurd (let f : ⊥ = cc in f)
answers_taken A B None limit (TooMany what k) h = absurd (let f : ⊥ = cc in f)
answers_taken A B None limit (Memory m) h = tt
answers_taken A B (Some x) limit (MultipleDrivers q) h = h
answers_taken A B (Some x) limit (Loop q) h = h
answers_taken A B (Some x) limit (DuplicateName q) h = h
answers_taken A B (Some x) limit (TooMany what k) h = h
answers_taken A B (Some x) limit (Memory m) h = tt

pub own_taken : (n : Netlist) (q : Text) → is_taken n q ≡ true → taken_or (first_taken n (own_names (Some q))) None ≡ Some (DuplicateName q)
own_taken n q h = rw h refl

pub own_free : (n : Netlist) (q : Text) → is_taken n q ≡ false → taken_or (first_taken n (own_names (Some q))) None ≡ None
own_free n q h = rw h refl

pub room_by : (taken room : Bool) (x y : NetlistError) → taken ≡ false → room ≡ true → cond taken (Some x) (cond room None (Some y)) ≡ None
room_by true room x y p q = absurd (cc)
room_by false true x y p q = refl
room_by false false x y p q = absurd (cc)

pub limit_by : (a b : Bool) (x y : NetlistError) → a ≡ true → b ≡ true → cond a (cond b None (Some x)) (Some y) ≡ None
limit_by true true x y p q = refl
limit_by true false x y p q = absurd (cc)
limit_by false b x y p q = absurd (cc)

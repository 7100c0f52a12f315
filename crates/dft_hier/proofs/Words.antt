-- All definitions are there.

abbrev pub Both : Type 1
Both = Unit {1}

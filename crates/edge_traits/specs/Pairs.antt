-- The table of a keeper: records under their keys, which are ordered byte by byte.
use Rattle.std.specs.Prelude.{ℕ, IsTrue, List}
use Rattle.std.specs.Ordering.{nat_cmp}
use Rattle.std.specs.declared.cmp.Ordering.{Ordering}
use Rattle.std.specs.Cmp.Lexicographic.{slice_cmp}
use Rattle.std.specs.FinMap.{FinMap, is_sorted}

-- the order of keys: by their first byte that differs, a prefix before the whole
abbrev pub keys_order : List ℕ → List ℕ → Ordering
keys_order = slice_cmp nat_cmp

-- a finite map from keys to records
abbrev pub Records : Type 0
Records = FinMap keys_order (List ℕ)

-- keys with their records
abbrev pub Pairs : Type 0
Pairs = List (List ℕ × List ℕ)

-- the keys strictly rise
abbrev pub IsAscending : Pairs → Type 0
IsAscending pairs = IsTrue (is_sorted keys_order pairs)

-- Seeks: games that players offer to whoever takes them. This server's own.
use Rattle.std.specs.Prelude.{◌≡◌, ℕ, ◌-◌, ◌==◌, nat_le, Bool, true, false, not, ◌&&◌, List, [], ◌∷◌, Option, None, Some, refl}
use Rattle.std.specs.List.{count_by, filter, find, insert}
use Rattle.chess_model.specs.declared.variant.Terms.{Terms}
use Rattle.collections.specs.Rising as rising
use Rattle.fics_words.specs.Effect.{Effect}
use Rattle.fics_words.specs.declared.refusal.Refusal.TheVariants.{NoSuchSeek, SeekFull}
use Rattle.seek_match.specs.declared.seek.Seek.{Seek}

-- the number of a seek
abbrev pub number_of : Seek → ℕ
number_of seek = seek.number

-- the seek has this number
abbrev pub has_number : ℕ → Seek → Bool
has_number number seek = seek.number == number

-- the seek of that number, if there is one
abbrev pub seek_of : List Seek → ℕ → Option Seek
seek_of seeks number = find (has_number number) seeks

-- the numbers rise from seek to seek, all of them above this one, and are at most 65,535
abbrev pub RiseAbove : ℕ → List Seek → Type 0
RiseAbove low seeks = rising.RiseAbove number_of 65536 low seeks

-- the seeks stand in the order of their numbers, which are positive and differ
abbrev pub AreSeeks : List Seek → Type 0
AreSeeks seeks = RiseAbove 0 seeks

-- the number is the least positive one that no seek has
abbrev pub IsLeastUnused : List Seek → ℕ → Type 0
IsLeastUnused seeks number = rising.IsLeastUnused number_of seeks number

-- the first number from this one on that a row of rising numbers leaves out
abbrev pub first_gap : ℕ → List Seek → ℕ
first_gap number seeks = rising.first_gap number_of number seeks

-- the number that the next seek gets
abbrev pub next_number : List Seek → ℕ
next_number seeks = first_gap 1 seeks

-- the seek is by this player, and has the number, if one is given
abbrev pub is_by : ℕ → Option ℕ → Seek → Bool
is_by by None seek = seek.by == by
is_by by (Some number) seek = (seek.by == by) && (seek.number == number)

-- the seeks without those of this player
abbrev pub without_seeks_of : ℕ → List Seek → List Seek
without_seeks_of who seeks = filter (λ seek. not (is_by who None seek)) seeks

-- the seeks without the one of this number
abbrev pub without_number : ℕ → List Seek → List Seek
without_number number seeks = filter (λ seek. not (number == seek.number)) seeks

-- the most seeks of a player
abbrev pub most_seeks : ℕ
most_seeks = 3

-- posting: refused where the player has 3 seeks. All numbers below the new one are in use, so it is also the new seek's
-- place in the row
abbrev pub posting : List Seek → ℕ → Terms → Effect (List Seek) ℕ
posting seeks by terms = record {
  causes = (nat_le most_seeks (count_by (is_by by None) seeks), SeekFull) ∷ [];
  memory = true;
  reply = next_number seeks;
  after = insert seeks (next_number seeks - 1) (record { number = next_number seeks; by = by; terms = terms });
}

-- withdrawing: refused where the player has no such seek
abbrev pub withdrawing : List Seek → ℕ → Option ℕ → Effect (List Seek) ℕ
withdrawing seeks by number = record {
  causes = (count_by (is_by by number) seeks == 0, NoSuchSeek) ∷ [];
  memory = false;
  reply = count_by (is_by by number) seeks;
  after = filter (λ seek. not (is_by by number seek)) seeks;
}

-- the seek of a player under a number, for the examples
numbered : Terms → ℕ → Seek
numbered terms number = record { number = number; by = 7; terms = terms }

example_first : next_number [] ≡ 1
example_first = refl

example_gap : (terms : Terms) → next_number (numbered terms 1 ∷ numbered terms 2 ∷ numbered terms 4 ∷ []) ≡ 3
unfolding numbered
example_gap terms = refl

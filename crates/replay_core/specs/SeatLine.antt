-- The seat line of a replay script, which says who plays what before the first event: this server's own grammar.
use Rattle.std.specs.Prelude.{◌≡◌, ◌≢◌, ℕ, ◌≤◌, List, [], ◌∷◌, ◌++◌, length, All, AllPairs, Some, codes, decimal}
use Rattle.std.specs.List.{join_with_byte}
use Rattle.chess_model.specs.Limits.{most_time}
use Rattle.chess_model.specs.declared.man.Colour.TheVariants.{White}
use Rattle.chess_model.specs.declared.variant.Terms.{Terms}
use Rattle.chess_model.specs.declared.variant.Variant.{Variant}
use Rattle.chess_model.specs.declared.variant.Variant.TheVariants.{Chess, Crazyhouse, Bughouse, Fischer}
use Rattle.chess_model.specs.VariantWord.{IsNumbered, word_of}
use Rattle.fics_words.specs.Handle.{IsHandle, key_of}
use Rattle.fics_words.specs.Blank.{blank}
use Rattle.replay_core.specs.declared.seat_line.SeatLine.{SeatLine}

-- how many players a game has: two at each board, and bughouse has two boards
abbrev pub players_wanted : Variant → ℕ
players_wanted Chess = 2
players_wanted Crazyhouse = 2
players_wanted Bughouse = 4
players_wanted (Fischer number) = 2

-- no two names are one player's: they differ in more than the case of their letters
abbrev pub AreDifferent : List (List ℕ) → Type 0
AreDifferent names = AllPairs (λ one other. key_of one ≢ key_of other) names

-- minutes at the start and seconds for each move; the number of an array is from 0 to 959; the first player has White
pub record AreSeatTerms (terms : Terms) : Type 0 where
  pub minutes : terms.minutes ≤ most_time
  pub increment : terms.increment ≤ most_time
  pub numbered : IsNumbered terms.variant
  pub white : terms.colour ≡ Some White

-- players of these names may play so
pub record NamesMayPlay (names : List (List ℕ)) (terms : Terms) : Type 0 where
  pub count : length names ≡ players_wanted terms.variant
  pub different : AreDifferent names
  pub in_range : AreSeatTerms terms

-- the players in the order of their seats, and what they play
pub record IsSeatLine (seat : SeatLine) : Type 0 where
  pub count : length seat.names ≡ players_wanted seat.terms.variant
  pub handles : All IsHandle seat.names
  pub different : AreDifferent seat.names
  pub terms : AreSeatTerms seat.terms

-- how terms are written, in a line where the first player has White
abbrev pub terms_text : Terms → List ℕ
terms_text terms = join_with_byte blank (decimal terms.minutes ∷ decimal terms.increment ∷ word_of terms.variant ∷ [])

-- the words of the line
abbrev pub seat_words : SeatLine → List (List ℕ)
seat_words seat =
    codes "seat" ∷ (seat.names ++ decimal seat.terms.minutes ∷ decimal seat.terms.increment ∷ word_of seat.terms.variant
    ∷ [])

-- the one way in which the line is written: its words with one blank between each two
abbrev pub seat_text : SeatLine → List ℕ
seat_text seat = join_with_byte blank (seat_words seat)

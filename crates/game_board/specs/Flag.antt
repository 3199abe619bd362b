-- The rule of the flag: whose clock has fallen, and what the call of the other player brings.
use Rattle.std.specs.Prelude.{◌≡◌, ◌≢◌, ℕ, ◌-◌, ◌≤◌, Bool, true, false, not, ◌&&◌, ◌||◌, if◌then◌else◌, Option, Some, None, Result, Ok, Err, pos, int_lt}
use Rattle.std.specs.List.{list_all}
use Rattle.chess_model.specs.declared.man.Colour.{Colour}
use Rattle.chess_model.specs.declared.man.Kind.TheVariants.{King}
use Rattle.chess_model.specs.declared.man.Man.{Man}
use Rattle.chess_model.specs.declared.variant.Variant.{Variant}
use Rattle.chess_model.specs.declared.variant.Variant.TheVariants.{Chess, Crazyhouse, Bughouse, Fischer}
use Rattle.chess_model.specs.Placement.{Placement, opposite}
use Rattle.chess_model.specs.Holdings.{same_colour, same_kind}
use Rattle.fics_words.specs.declared.refusal.Refusal.{Refusal}
use Rattle.fics_words.specs.declared.refusal.Refusal.TheVariants.{NotFallen}
use Rattle.game_board.specs.Board.{Board, to_move, position_of, has_moved}
use Rattle.game_board.specs.Charges.{is_timed, remaining_of}

-- the time that is running against a colour: it is to move, and has made a half-move before
abbrev pub running : Board → Colour → ℕ → ℕ
running b c moment = if same_colour c (to_move b) && has_moved c b.list then moment - b.begin else 0

-- whether a colour's clock has fallen: the running time has used up what remained (FIDE 6.8)
abbrev pub has_fallen : Board → Colour → ℕ → Bool
has_fallen b c moment = is_timed b.terms && not (int_lt (pos (running b c moment)) (remaining_of b c))

-- whether no man, a man of the other colour or a king stands there
abbrev pub is_bare : Colour → Option Man → Bool
is_bare c None = true
is_bare c (Some m) = not (same_colour m.colour c) || same_kind m.kind King

-- whether a colour has only a king
abbrev pub has_only_king : Placement → Colour → Bool
has_only_king men c = list_all (is_bare c) men

-- whether a king alone can't win (FIDE 6.9); in the other variants men may come into the hand
abbrev pub needs_men : Variant → Bool
needs_men Chess = true
needs_men Crazyhouse = false
needs_men Bughouse = false
needs_men (Fischer number) = true

-- whether the caller of a flag can't win by it
abbrev pub cannot_win : Board → Colour → ℕ → Bool
cannot_win b c moment = has_fallen b c moment || (needs_men b.terms.variant && has_only_king (position_of b).men c)

-- the winner by a flag called on the opponent, or None for a draw
unfoldable pub flag_answer : Board → Colour → ℕ → Result (Option Colour) Refusal
flag_answer b c moment =
    if has_fallen b (opposite c) moment
    then Ok (if cannot_win b c moment then None else Some c)
    else Err NotFallen

-- a colour's clock that has fallen at a moment has fallen at every later one, so that its flag can be called then too
pub record StaysFallen (b : Board) (c : Colour) : Type 0 where
  pub fallen : (moment later : ℕ) → moment ≤ later → has_fallen b c moment ≡ true → has_fallen b c later ≡ true
  pub called : (moment later : ℕ) → moment ≤ later → flag_answer b (opposite c) moment ≢ Err NotFallen
      → flag_answer b (opposite c) later ≢ Err NotFallen

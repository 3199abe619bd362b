-- The men in hand at a board, and when viewers are told of them (FICS help pages `crazyhouse` and `bughouse`): where a
-- half-move changes them. A drop changes the hands of its own board. A capture changes those of its own board in
-- crazyhouse, and those of the partner's board in bughouse. In which order they are told beside the boards is this
-- server's own.
use Rattle.std.specs.Prelude.{◌≡◌, ℕ, ◌||◌, Bool, true, false, is_some, if◌then◌else◌, [], ◌∷◌, ◌++◌, map, Option, Some, None, slice_get, option_map, option_and_then, refl}
use Rattle.chess_model.specs.declared.man.Colour.TheVariants.{White, Black}
use Rattle.chess_model.specs.declared.man.Kind.{Kind}
use Rattle.chess_model.specs.declared.man.Kind.TheVariants.{Knight}
use Rattle.chess_model.specs.declared.man.Man.{Man}
use Rattle.chess_model.specs.declared.moves.Move.{Move}
use Rattle.chess_model.specs.declared.moves.Move.TheVariants.{Plain, Castle, Drop}
use Rattle.chess_model.specs.declared.variant.Variant.{Variant}
use Rattle.chess_model.specs.declared.variant.Variant.TheVariants.{Chess, Crazyhouse, Bughouse, Fischer}
use Rattle.chess_model.specs.Holdings.{handed_kind}
use Rattle.chess_model.specs.Position.{hand_of_side}
use Rattle.chess_model.specs.Tests.{has_drops}
use Rattle.game_board.specs.declared.played.Played.{Played}
use Rattle.game_board.specs.Board.{Board, position_of}
use Rattle.game_board.specs.BoardFace.{last_played}
use Rattle.style12_writer.specs.declared.item.Item.{Item}
use Rattle.style12_writer.specs.declared.item.Item.TheVariants as item
use Rattle.fics_words.specs.Boards.{other_number, board_place}
use Rattle.fics_words.specs.declared.board_number.BoardNumber.{BoardNumber}
use Rattle.linked_desk.specs.Desk.{GameState, game_number}

-- both hands at a board as it stands, and the kind of the man that has just come into one of them, if one has
abbrev pub hold_item : ℕ → Board → Option Kind → Item
hold_item desk b came =
    item.Hold (game_number desk b.number) (hand_of_side (position_of b) White) (hand_of_side (position_of b) Black) came

-- what is told of the hands at the start of a game, where its variant has hands
abbrev pub first_hands : ℕ → Board → Option Item
first_hands desk b = if has_drops b.terms.variant then Some (hold_item desk b None) else None

-- whether a half-move is a drop
abbrev pub is_drop : Move → Bool
is_drop (Plain a b promo) = false
is_drop (Castle long) = false
is_drop (Drop k to) = true

-- whether the last half-move of a list, if there is one, is a drop
abbrev pub ends_with_drop : Option Played → Bool
ends_with_drop None = false
ends_with_drop (Some p) = is_drop p.what

-- whether a half-move, a drop or not, that captures this man changes the hands of its own board. In bughouse a captured
-- man goes to the other board
abbrev pub changes_hands : Variant → Bool → Option Man → Bool
changes_hands Chess drop man = false
changes_hands Crazyhouse drop man = drop || is_some man
changes_hands Bughouse drop man = drop
changes_hands (Fischer number) drop man = false

-- what is told of the hands of a board after a half-move there that captured this man: where they have changed, both
-- hands as they stand now, and as which kind the man came
abbrev pub hands_told : ℕ → Board → Option Man → Option Item
hands_told desk b man =
    if changes_hands b.terms.variant (ends_with_drop (last_played b.list)) man
    then Some (hold_item desk b (option_map handed_kind man))
    else None

-- and of the board of that number
abbrev pub hands_at : ℕ → GameState → BoardNumber → Option Man → Option Item
hands_at desk g board man = option_and_then (λ b. hands_told desk b man) (slice_get g.boards (board_place board))

-- what is told of the hands of a board after a half-move on its partner's board that captured this man, if it did: the
-- man has come into a hand, so both hands as they stand now, and as which kind it came
abbrev pub partner_told : ℕ → Board → Option Man → Option Item
partner_told desk b None = None
partner_told desk b (Some man) = Some (hold_item desk b (Some (handed_kind man)))

-- and of the other board than that one, if there is one
abbrev pub partner_hands_at : ℕ → GameState → BoardNumber → Option Man → Option Item
partner_hands_at desk g board man =
    option_and_then (λ b. partner_told desk b man) (slice_get g.boards (board_place (other_number board)))

-- a knight is captured, a man is dropped, and neither: in chess, crazyhouse, bughouse and Fischer random
example_changes : map (λ v. changes_hands v false (Some (record { colour = White; kind = Knight; promoted = false })))
    (Chess ∷ Crazyhouse ∷ Bughouse ∷ Fischer 0 ∷ [])
    ++ map (λ v. changes_hands v true None) (Chess ∷ Crazyhouse ∷ Bughouse ∷ Fischer 0 ∷ [])
    ++ map (λ v. changes_hands v false None) (Chess ∷ Crazyhouse ∷ Bughouse ∷ Fischer 0 ∷ [])
    ≡ false ∷ true ∷ false ∷ false ∷ false ∷ true ∷ true ∷ false ∷ false ∷ false ∷ false ∷ false ∷ []
example_changes = refl

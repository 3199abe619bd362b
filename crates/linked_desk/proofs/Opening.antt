-- The lines that announce a game, by the numbers of the boards.
use Rattle.std.proofs.Common.{◌≡◌, ℕ, ◌*◌, List, [], ◌∷◌, length, map, Option, Some, None, refl, sym, ap, ◌∙◌, arith}
use Rattle.std.specs.Prelude.{◌++◌, option_map, option_to_list}
use Rattle.chess_model.specs.declared.variant.Terms.{Terms}
use Rattle.chess_model.specs.declared.variant.Variant.{Variant}
use Rattle.chess_model.specs.declared.variant.Variant.TheVariants.{Chess, Crazyhouse, Bughouse, Fischer}
use Rattle.fics_words.specs.declared.seats.Opponents.{Opponents}
use Rattle.fics_words.specs.declared.seats.Seats.{Seats}
use Rattle.fics_words.specs.Seats.{seat_list}
use Rattle.game_board.specs.Board.{Board}
use Rattle.style12_writer.specs.declared.item.Item.{Item}
use Rattle.linked_desk.specs.declared.occasion.Occasion.{Occasion}
use Rattle.desk_boards.specs.Boards.{board_numbers}
use Rattle.linked_desk.specs.Seating.{HasPairsFor, announcement, announcements, opening_items, shown_items}
use Rattle.linked_desk.specs.Seats.{pairs_of}
use Rattle.linked_desk.specs.Views.{each_board}

-- the lines by the numbers of the boards
abbrev lines_of : (ℕ → Opponents → Item) → List Opponents → List ℕ → List Item
lines_of line [] numbers = []
lines_of line (players ∷ pairs) [] = []
lines_of line (players ∷ pairs) (n ∷ numbers) = line n players ∷ lines_of line pairs numbers

by_numbers : (line : ℕ → Opponents → Item) (pairs : List Opponents) (boards : List Board) →
    lines_of line pairs (map (λ (b : Board). b.number) boards)
    ≡ each_board (λ players b. line b.number players) pairs boards
by_numbers line [] boards = refl
by_numbers line (players ∷ pairs) [] = refl
by_numbers line (players ∷ pairs) (b ∷ boards) =
    ap (λ items. line b.number players ∷ items) (by_numbers line pairs boards)

-- one line or two, as the variant has boards
announced_at : (line : ℕ → Opponents → Item) (first : Opponents) (second : Option Opponents) (v : Variant) →
    length (seat_list (record { first = first; second = second })) ≡ 2 * length (board_numbers v) →
    line 1 first ∷ option_to_list (option_map (line 2) second)
    ≡ lines_of line (first ∷ option_to_list second) (board_numbers v)
announced_at line first None Chess h = refl
announced_at line first None Crazyhouse h = refl
announced_at line first None (Fischer number) h = refl
announced_at line first None Bughouse h = absurd (omega (arith, h))
announced_at line first (Some players) Chess h = absurd (omega (arith, h))
announced_at line first (Some players) Crazyhouse h = absurd (omega (arith, h))
announced_at line first (Some players) (Fischer number) h = absurd (omega (arith, h))
announced_at line first (Some players) Bughouse h = refl

pub announced_first : (occasion : Occasion) (desk : ℕ) (terms : Terms) (seats : Seats) (boards : List Board)
    → HasPairsFor terms seats →
    map (λ (b : Board). b.number) boards ≡ board_numbers terms.variant →
    announcements occasion desk terms seats ++ shown_items desk (pairs_of seats) boards
    ≡ opening_items occasion desk terms (pairs_of seats) boards
announced_first occasion desk terms seats boards pairs numbers =
    let line : ℕ → Opponents → Item = λ number players. announcement occasion desk terms number players in
    ap (λ lines. lines ++ shown_items desk (pairs_of seats) boards)
    (announced_at line seats.first seats.second terms.variant pairs
    ∙ ap (λ (ns : List ℕ). lines_of line (pairs_of seats) ns) (sym numbers)
    ∙ by_numbers line (pairs_of seats) boards)

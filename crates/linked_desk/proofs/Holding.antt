-- What is told of the hands tells no end.
use Rattle.std.proofs.Common.{ℕ, Bool, true, false, if◌then◌else◌, Option, Some, None, IfSome}
use Rattle.std.specs.Prelude.{slice_get, option_map, option_and_then}
use Rattle.chess_model.specs.declared.man.Kind.{Kind}
use Rattle.chess_model.specs.declared.man.Man.{Man}
use Rattle.chess_model.specs.Holdings.{handed_kind}
use Rattle.chess_model.specs.Tests.{has_drops}
use Rattle.game_board.specs.Board.{Board}
use Rattle.game_board.specs.BoardFace.{last_played}
use Rattle.fics_words.specs.Boards.{other_number, board_place}
use Rattle.fics_words.specs.declared.board_number.BoardNumber.{BoardNumber}
use Rattle.linked_desk.specs.Desk.{GameState}
use Rattle.linked_desk.specs.Hands.{hold_item, first_hands, ends_with_drop, changes_hands, hands_told, hands_at, partner_told, partner_hands_at}
use Rattle.linked_desk.specs.Sound.{NamesWinner}

names_if : (told : Bool) (desk : ℕ) (b : Board) (came : Option Kind)
    → IfSome (if told then Some (hold_item desk b came) else None) NamesWinner
names_if true desk b came = tt
names_if false desk b came = tt

pub names_first : (desk : ℕ) (b : Board) → IfSome (first_hands desk b) NamesWinner
names_first desk b = names_if (has_drops b.terms.variant) desk b None

names_told : (desk : ℕ) (b : Board) (man : Option Man) → IfSome (hands_told desk b man) NamesWinner
names_told desk b man =
    names_if (changes_hands b.terms.variant (ends_with_drop (last_played b.list)) man) desk b
    (option_map handed_kind man)

names_of : (desk : ℕ) (b : Option Board) (man : Option Man)
    → IfSome (option_and_then (λ b. hands_told desk b man) b) NamesWinner
names_of desk None man = tt
names_of desk (Some b) man = names_told desk b man

pub names_hands_at : (desk : ℕ) (g : GameState) (board : BoardNumber) (man : Option Man)
    → IfSome (hands_at desk g board man) NamesWinner
names_hands_at desk g board man = names_of desk (slice_get g.boards (board_place board)) man

names_partner : (desk : ℕ) (b : Board) (man : Option Man) → IfSome (partner_told desk b man) NamesWinner
names_partner desk b None = tt
names_partner desk b (Some man) = tt

names_partner_of : (desk : ℕ) (b : Option Board) (man : Option Man)
    → IfSome (option_and_then (λ b. partner_told desk b man) b) NamesWinner
names_partner_of desk None man = tt
names_partner_of desk (Some b) man = names_partner desk b man

pub names_partner_hands_at : (desk : ℕ) (g : GameState) (board : BoardNumber) (man : Option Man)
    → IfSome (partner_hands_at desk g board man) NamesWinner
names_partner_hands_at desk g board man =
    names_partner_of desk (slice_get g.boards (board_place (other_number board))) man

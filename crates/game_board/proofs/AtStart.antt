-- A board without half-moves keeps what every board keeps.
use Rattle.std.proofs.Common.{◌≡◌, ℕ, ◌^◌, List, [], None, refl, sym, subst, arith}
use Rattle.chess_model.specs.declared.man.Colour.TheVariants.{White, Black}
use Rattle.chess_model.specs.declared.variant.Terms.{Terms}
use Rattle.chess_model.specs.Position.{Position, Stands}
use Rattle.clock_ledger.specs.Clock.{Ledger}
use Rattle.fics_words.specs.Boards.{board_number}
use Rattle.fics_words.specs.declared.board_number.BoardNumber.{BoardNumber}
use Rattle.game_board.specs.declared.game_board.GameBoard.TheInside.{Inside}
use Rattle.game_board.specs.declared.played.Made.{Made}
use Rattle.game_board.specs.declared.played.Played.{Played}
use Rattle.game_board.specs.declared.played.Step.{Step}
use Rattle.game_board.specs.Charges.{clock_of}
use Rattle.game_board.specs.Holds.{HoldsBoard}
use Rattle.game_board.proofs.Steps.{AreSteps-empty}
use Rattle.chess_model.proofs.LegalLists.{legal_lists}

-- the fields of a board without half-moves
abbrev empty_board : BoardNumber → Terms → Position → ℕ → Inside
empty_board number terms position begin = record {
  number = number;
  terms = terms;
  position = position;
  list = [];
  steps = [];
  white = clock_of terms White [];
  black = clock_of terms Black [];
  begin = begin;
  kept = None;
  played = 0;
  resumed = 0;
  all = [];
}

HoldsBoard-empty : (number : BoardNumber) (terms : Terms) (position : Position) (begin : ℕ) →
    position.variant ≡ terms.variant → Stands position [] (board_number number) →
    HoldsBoard (empty_board number terms position begin)
HoldsBoard-empty number terms position begin variant stands = record {
  stands = stands;
  variant = variant;
  legal = legal_lists.none terms.variant;
  own = refl;
  alone = λ h. refl;
  others = omega arith;
  white = refl;
  black = refl;
  sound = λ k d h. absurd (omega arith);
  kept = tt;
  each = refl;
  shown = refl;
  steps = λ h. AreSteps-empty terms.variant (board_number number);
  counted = omega arith;
  most = omega arith;
  resumed = omega arith;
}

pub HoldsBoard-at_start : (number : BoardNumber) (terms : Terms) (position : Position) (list : List Played)
    (steps : List Step) (white black : Ledger) (begin : ℕ) (all : List Made) →
    position.variant ≡ terms.variant → Stands position [] (board_number number) → list ≡ [] → steps ≡ []
    → white ≡ clock_of terms White [] → black ≡ clock_of terms Black [] →
    all ≡ [] →
    HoldsBoard (record {
      number = number;
      terms = terms;
      position = position;
      list = list;
      steps = steps;
      white = white;
      black = black;
      begin = begin;
      kept = None;
      played = 0;
      resumed = 0;
      all = all;
    })
HoldsBoard-at_start number terms position list steps white black begin all variant stands l s w b a =
    let same : empty_board number terms position begin
    ≡ record {
      number = number;
      terms = terms;
      position = position;
      list = list;
      steps = steps;
      white = white;
      black = black;
      begin = begin;
      kept = None;
      played = 0;
      resumed = 0;
      all = all;
    } =
    λ i. record {
      number = number;
      terms = terms;
      position = position;
      list = sym l i;
      steps = sym s i;
      white = sym w i;
      black = sym b i;
      begin = begin;
      kept = None;
      played = 0;
      resumed = 0;
      all = sym a i;
    } in
    subst HoldsBoard same (HoldsBoard-empty number terms position begin variant stands)

-- A board ends only by a half-move of its own: what comes into a hand ends nothing in bughouse.
use Rattle.std.proofs.Common.{◌≡◌, ℕ, inl, inr, false, List, [], ◌∷◌, ◌++◌, Option, Some, None, Result, Ok, Err, IfSome, refl, sym, ap, subst, ◌∙◌}
use Rattle.std.specs.Prelude.{slice_get}
use Rattle.std.proofs.lemmas.List.Elements.{All-nil, All-cons}
use Rattle.chess_model.specs.declared.hand.Hand.{Hand}
use Rattle.chess_model.specs.declared.man.Colour.{Colour}
use Rattle.chess_model.specs.declared.moves.Move.{Move}
use Rattle.chess_model.specs.declared.moves.Move.TheVariants.{Plain, Castle, Drop}
use Rattle.chess_model.specs.declared.moves.MoveWord.{MoveWord}
use Rattle.chess_model.specs.declared.states.State.{State}
use Rattle.chess_model.specs.declared.states.State.TheVariants.{Safe, Check, Mate, Stalemate}
use Rattle.chess_model.specs.declared.variant.Terms.{Terms}
use Rattle.chess_model.specs.declared.variant.Variant.{Variant}
use Rattle.chess_model.specs.declared.variant.Variant.TheVariants.{Chess, Crazyhouse, Bughouse, Fischer}
use Rattle.chess_model.specs.declared.man.Man.{Man}
use Rattle.chess_model.specs.Allowed.{Allowed, GoesAs}
use Rattle.chess_model.specs.Holdings.{other_board}
use Rattle.chess_model.specs.Placement.{man_at}
use Rattle.chess_model.specs.Position.{Position, position_after}
use Rattle.chess_model.specs.Result.{HasAnswer, IsOnBoard, IsState, is_end, result}
use Rattle.chess_model.proofs.Movers.{other_board_stays}
use Rattle.chess_model.proofs.StatesTold.{state_told}
use Rattle.fics_words.specs.declared.refusal.Refusal.{Refusal}
use Rattle.game_board.specs.Board.{Board, position_of}
use Rattle.game_board.specs.Learn.{learnt}
use Rattle.game_board.specs.Acked.{acknowledged}
use Rattle.game_board.specs.Play.{with_half_move}
use Rattle.game_records.specs.Replays.{GoesOn}
use Rattle.fics_words.specs.Boards.{other_number, board_place}
use Rattle.desk_boards.specs.Boards.{board_numbers, boards_acked, boards_after, changed_at, new_boards, word_at}
use Rattle.fics_words.specs.declared.board_number.BoardNumber.{BoardNumber}
use Rattle.fics_words.specs.declared.board_number.BoardNumber.TheVariants.{First, Second}
use Rattle.desk_boards.specs.Sound.{AreSoundBoards, GoOn}
use Rattle.desk_boards.proofs.BoardLists.{All-at, All-changed_at, nothing-changed_at}
use Rattle.desk_boards.proofs.Pairs.{never_three, numbers_of_two}
use Rattle.desk_boards.proofs.StartGoesOn.{start_goes}
use Rattle.desk_boards.proofs.StaySound.{All-from, played_there, same_acknowledged}
use Rattle.desk_boards.proofs.Stepped.{stepped}
use Rattle.game_board.proofs.Received.{boards_differ}

-- ---- hands

-- the position with other hands
abbrev with_hands : Position → Hand → Hand → Position
with_hands p white black = record p { white = white; black = black }

-- what is allowed on the board itself is allowed with other hands
allowed_still : (p : Position) (white black : Hand) (m : Move) → IsOnBoard m → Allowed p m
    → Allowed (with_hands p white black) m
allowed_still p white black (Plain a b promo) on h = record {
  move = record { from = h.move.from; to = h.move.to; goes = goes (man_at p.men a) h.move.goes };
  safe = h.safe;
}
  where
    goes : (man : Option Man) → GoesAs p a b promo man → GoesAs (with_hands p white black) a b promo man
    goes None g = g
    goes (Some m) g = g
allowed_still p white black (Castle long) on h = record {
  move = record { right = h.move.right; king_way = h.move.king_way; rook_way = h.move.rook_way; walk = h.move.walk };
  safe = h.safe;
}
allowed_still p white black (Drop k to) on h = absurd on

answer_still : (v : Variant) (p : Position) (white black : Hand) → v ≡ Bughouse → HasAnswer v p
    → HasAnswer v (with_hands p white black)
answer_still Chess p white black pair h = absurd (let no : Chess ≡ Bughouse = pair in cc)
answer_still Crazyhouse p white black pair h = absurd (let no : Crazyhouse ≡ Bughouse = pair in cc)
answer_still (Fischer number) p white black pair h = absurd (let no : Fischer number ≡ Bughouse = pair in cc)
answer_still Bughouse p white black pair h = elim h [
  | inl moves ↦ inl (moves.0, moves.1, allowed_still p white black moves.0 moves.1 moves.2)
  | inr shields ↦
      inr (shields.0, record { square = shields.1.square; free = shields.1.free; shielded = shields.1.shielded })
]

-- so no hand ends a game of bughouse
end_still : (p : Position) (white black : Hand) → p.variant ≡ Bughouse → (s : State) → IsState p s → is_end s ≡ false →
    (after : State) → IsState (with_hands p white black) after → is_end after ≡ false
end_still p white black pair s is goes Safe now = refl
end_still p white black pair s is goes Check now = refl
end_still p white black pair Safe is goes Mate now = absurd (now.0 is.0)
end_still p white black pair Check is goes Mate now = absurd (now.1 (answer_still p.variant p white black pair is.1))
end_still p white black pair Mate is goes Mate now = cc
end_still p white black pair Stalemate is goes Mate now = cc
end_still p white black pair s is goes Stalemate now = absurd (now.2 pair)

goes_still : (p : Position) (white black : Hand) → p.variant ≡ Bughouse → GoesOn p → GoesOn (with_hands p white black)
goes_still p white black pair goes =
    end_still p white black pair (result p) (state_told p) goes (result (with_hands p white black))
    (state_told (with_hands p white black))

-- ---- what is learnt

pub learnt_goes : (b : Board) (m : Move) → b.terms.variant ≡ Bughouse → GoesOn (position_of b)
    → GoesOn (position_of (learnt b m))
unfolding position_of
learnt_goes b m pair goes =
    let p : Position = position_after b.terms.variant b.all b.number in
    let q : Position =
    position_after b.terms.variant (b.all ++ record { board = other_board b.number; what = m } ∷ []) b.number in
    let same =
    other_board_stays b.terms.variant b.all (record {
      board = other_board b.number;
      what = m;
    }) b.number (boards_differ b.number) in
    let is : q ≡ with_hands p q.white q.black = (λ i. record {
      variant = b.terms.variant;
      men = same.men i;
      to_move = same.to_move i;
      en_passant = same.en_passant i;
      rights = same.rights i;
      quiet = same.quiet i;
      white = q.white;
      black = q.black;
    }) in
    subst GoesOn (sym is) (goes_still p q.white q.black pair goes)

-- ---- the boards

pub go_start : (t : Terms) (moment : ℕ) → GoOn (new_boards t moment)
unfolding position_of
go_start t moment =
    All-from (λ (b : Board). GoesOn (position_of b)) (board_numbers t.variant) t moment (λ n. start_goes t.variant n)

acked_position : (b : Board) (c : Colour) (stamp : ℕ) → position_of (acknowledged b c stamp) ≡ position_of b
unfolding position_of
acked_position b c stamp = same_acknowledged (λ (x : Board). position_of x) b c stamp refl

pub go_acked : (boards : List Board) (board : BoardNumber) (c : Colour) (stamp : ℕ) → GoOn boards
    → GoOn (boards_acked boards board c stamp)
go_acked boards board c stamp goes =
    All-changed_at (λ (b : Board). GoesOn (position_of b)) boards (board_place board) (λ b. acknowledged b c stamp)
    (λ b there h. subst GoesOn (sym (acked_position b c stamp)) h) goes

-- a pair is played by the terms of bughouse
pair_terms : (t : Terms) (b c : Board) → AreSoundBoards t (b ∷ c ∷ [])
    → (b.terms.variant ≡ Bughouse) × (c.terms.variant ≡ Bughouse)
pair_terms t b c s =
    let pair : t.variant ≡ Bughouse = (numbers_of_two t.variant b c s.numbers).0 in
    let first = All-at (λ (x : Board). x.terms ≡ t) (b ∷ c ∷ []) 0 b s.terms refl in
    let second = All-at (λ (x : Board). x.terms ≡ t) (b ∷ c ∷ []) 1 c s.terms refl in
    (ap (λ (x : Terms). x.variant) first ∙ pair, ap (λ (x : Terms). x.variant) second ∙ pair)

-- where the board of a word goes on, all boards do
abbrev Goes : Board → Type 0
Goes b = GoesOn (position_of b)

go_made : (t : Terms) (boards : List Board) (board : BoardNumber) (own : Board) (change : Board → Board) (m : Move)
    → AreSoundBoards t boards → GoOn boards →
    slice_get boards (board_place board) ≡ Some own
    → IfSome (slice_get (stepped boards board change m) (board_place board)) (λ b. GoesOn (position_of b)) →
    GoOn (stepped boards board change m)
go_made t [] First own change m s goes here there = absurd cc
go_made t [] Second own change m s goes here there = absurd cc
go_made t (b ∷ []) First own change m s goes here there = All-cons Goes (change b) [] there (All-nil Goes)
go_made t (b ∷ []) Second own change m s goes here there = absurd cc
go_made t (b ∷ c ∷ []) First own change m s goes here there =
    All-cons Goes (change b) (learnt c m ∷ []) there
    (All-cons Goes (learnt c m) [] (learnt_goes c m (pair_terms t b c s).1 (All-at Goes (b ∷ c ∷ []) 1 c goes refl))
    (All-nil Goes))
go_made t (b ∷ c ∷ []) Second own change m s goes here there =
    All-cons Goes (learnt b m) (change c ∷ [])
    (learnt_goes b m (pair_terms t b c s).0 (All-at Goes (b ∷ c ∷ []) 0 b goes refl))
    (All-cons Goes (change c) [] there (All-nil Goes))
go_made t (b ∷ c ∷ d ∷ more) board own change m s goes here there = absurd (never_three t.variant b c d more s.numbers)

go_answered : (t : Terms) (boards : List Board) (board : BoardNumber) (moment : ℕ) (c : Colour) (word : MoveWord)
    (stamp : Option ℕ)
    → AreSoundBoards t boards → GoOn boards →
    (answer : Result Move Refusal) → word_at (slice_get boards (board_place board)) c word ≡ answer →
    IfSome (slice_get (boards_after boards board moment stamp answer) (board_place board)) (λ b. GoesOn (position_of b))
    → GoOn (boards_after boards board moment stamp answer)
go_answered t boards board moment c word stamp s goes (Err cause) e there =
    subst GoOn
    (sym (nothing-changed_at (changed_at boards (board_place board) (λ b. b)) (board_place (other_number board))
    ∙ nothing-changed_at boards (board_place board)))
    goes
go_answered t boards board moment c word stamp s goes (Ok m) e there =
    let found = played_there (slice_get boards (board_place board)) c word m e in
    go_made t boards board found.0 (λ b. with_half_move b m moment stamp) m s goes found.1 there

pub go_played : (t : Terms) (boards : List Board) (board : BoardNumber) (moment : ℕ) (c : Colour) (word : MoveWord)
    (stamp : Option ℕ)
    → AreSoundBoards t boards → GoOn boards →
    IfSome
    (slice_get (boards_after boards board moment stamp (word_at (slice_get boards (board_place board)) c word))
    (board_place board))
    (λ b. GoesOn (position_of b)) →
    GoOn (boards_after boards board moment stamp (word_at (slice_get boards (board_place board)) c word))
go_played t boards board moment c word stamp s goes there =
    go_answered t boards board moment c word stamp s goes (word_at (slice_get boards (board_place board)) c word) refl
    there

pub ruleset each_goes_on = (go_start, go_played, go_acked)

-- Boards that were played again go on, if that does on which the last half-move was made.
use Rattle.std.proofs.Common.{◌≡◌, ◌≤◌, ◌⊎◌, inl, inr, ℕ, zero, suc, ◌-◌, List, [], ◌∷◌, ◌++◌, All, Option, Some, None, IfSome, refl, sym, ap, subst, ◌∙◌, arith}
use Rattle.std.proofs.lemmas.List.{map-append}
use Rattle.std.proofs.lemmas.List.Elements.{All-nil, All-cons}
use Rattle.std.proofs.lemmas.Option.{slice_get-map}
use Rattle.std.specs.Prelude.{slice_get}
use Rattle.std.specs.List.{AllByRecursion}
use Rattle.std.specs.Option.{option_and_then, option_map}
use Rattle.chess_model.specs.declared.variant.Terms.{Terms}
use Rattle.chess_model.specs.declared.variant.Variant.{Variant}
use Rattle.chess_model.specs.declared.variant.Variant.TheVariants.{Chess, Crazyhouse, Bughouse, Fischer}
use Rattle.chess_model.specs.Holdings.{other_board}
use Rattle.chess_model.specs.MoveList.{HalfMove}
use Rattle.chess_model.specs.Position.{position_after}
use Rattle.game_board.specs.Board.{Board, new_board, position_of}
use Rattle.game_board.specs.Learn.{learnt}
use Rattle.game_records.specs.declared.stored_game.Half.{Half}
use Rattle.game_records.specs.Bounds as bounds
use Rattle.game_records.specs.Bounds.{IsHalf}
use Rattle.game_records.specs.Replays.{CanBePlayed, GoesOn, MayCome, OtherGoesOn, without_charges, position_on}
use Rattle.game_records.proofs.Played.{by_steps}
use Rattle.fics_words.specs.Boards.{board_number, numbered_board, board_place}
use Rattle.desk_boards.specs.Boards.{board_numbers, new_boards}
use Rattle.fics_words.specs.declared.board_number.BoardNumber.{BoardNumber}
use Rattle.fics_words.specs.declared.board_number.BoardNumber.TheVariants.{First, Second}
use Rattle.desk_boards.specs.Halves.{halves_of, last_board}
use Rattle.desk_boards.specs.Sound.{AreSoundBoards, GoOn}
use Rattle.desk_boards.proofs.BoardLists.{All-at}
use Rattle.desk_boards.proofs.Pairs.{board_within, number_at, number_of-numbered}
use Rattle.desk_boards.proofs.SoundHalves.{all_of}
use Rattle.desk_boards.proofs.GoingOn.{go_start, learnt_goes}
use Rattle.game_board.proofs.Steps.{last_at}
use Rattle.fics_words.proofs.Each.{each-back}

-- a list is empty, or there is a last item
from_end : {X : Type 0} (xs : List X) → (xs ≡ []) ⊎ ((front : List X) × ((x : X) × (xs ≡ front ++ x ∷ [])))
from_end [] = inl refl
from_end (x ∷ xs) =
    elim (from_end xs) [
      | inl none ↦ inr ([], (x, ap (λ ys. x ∷ ys) none))
      | inr some ↦ inr (x ∷ some.0, (some.1.0, ap (λ ys. x ∷ ys) some.1.1))
    ]

-- the position of a board of a sound game, by its record
position_by : (t : Terms) (boards : List Board) (k : ℕ) (b : Board) → AreSoundBoards t boards
    → slice_get boards k ≡ Some b →
    position_of b ≡ position_on t.variant (halves_of boards) b.number
unfolding position_of
position_by t boards k b s there =
    let terms : b.terms ≡ t = All-at (λ (x : Board). x.terms ≡ t) boards k b s.terms there in
    let all : without_charges (halves_of boards) ≡ b.all =
    All-at (λ (x : Board). without_charges (halves_of boards) ≡ x.all) boards k b (all_of t boards s) there in
    (λ i. position_after (terms i).variant (sym all i) b.number)

-- at the start
start_goes_on : (t : Terms) (k n : ℕ) → slice_get (board_numbers t.variant) k ≡ Some n
    → GoesOn (position_on t.variant [] n)
unfolding position_of
start_goes_on t k n there =
    All-at (λ (b : Board). GoesOn (position_of b)) (new_boards t 0) k (new_board n t 0) (go_start t 0)
    (slice_get-map (λ number. new_board number t 0) (board_numbers t.variant) k
    ∙ ap (option_map (λ number. new_board number t 0)) there)

-- a half-move on the other board of a pair ends nothing here
other_goes_on : (front : List Half) (h : Half) (n : ℕ) → n ≡ 3 - h.board → 1 ≤ h.board → h.board ≤ 2
    → GoesOn (position_on Bughouse front (3 - h.board)) →
    GoesOn (position_on Bughouse (front ++ h ∷ []) n)
unfolding position_of
other_goes_on front h n is low high going =
    let terms : Terms = record { minutes = 0; increment = 0; variant = Bughouse; colour = None } in
    let b : Board = record (new_board n terms 0) { all = without_charges front } in
    let other : other_board n ≡ h.board = omega (arith, is, low, high) in
    let before : GoesOn (position_of b) = subst (λ (m : ℕ). GoesOn (position_on Bughouse front m)) (sym is) going in
    let after : GoesOn (position_of (learnt b h.what)) = learnt_goes b h.what refl before in
    let made : without_charges front ++ record { board = other_board n; what = h.what } ∷ []
    ≡ without_charges (front ++ h ∷ []) =
    (λ i. without_charges front ++ record { board = other i; what = h.what } ∷ [])
    ∙ sym (map-append (λ (g : Half). record { board = g.board; what = g.what }) front (h ∷ [])) in
    subst (λ (T : List HalfMove). GoesOn (position_after Bughouse T n)) made after

-- a board of a game has that number, or it is the other one of a pair
own_or_other : (v : Variant) (k n m : ℕ) (board : BoardNumber) → slice_get (board_numbers v) k ≡ Some n
    → board_number board ≡ m → m ≤ bounds.boards v →
    (board_place board ≡ k) ⊎ ((v ≡ Bughouse) × (n ≡ 3 - m))
own_or_other Chess zero n m First there is high = inl refl
own_or_other Chess zero n m Second there is high = absurd (omega (arith, is, high))
own_or_other Chess (suc k) n m board there is high = absurd cc
own_or_other Crazyhouse zero n m First there is high = inl refl
own_or_other Crazyhouse zero n m Second there is high = absurd (omega (arith, is, high))
own_or_other Crazyhouse (suc k) n m board there is high = absurd cc
own_or_other (Fischer number) zero n m First there is high = inl refl
own_or_other (Fischer number) zero n m Second there is high = absurd (omega (arith, is, high))
own_or_other (Fischer number) (suc k) n m board there is high = absurd cc
own_or_other Bughouse zero n m First there is high = inl refl
own_or_other Bughouse zero n m Second there is high = let one : 1 ≡ n = cc in inr (refl, omega (arith, one, is))
own_or_other Bughouse (suc zero) n m First there is high = let two : 2 ≡ n = cc in inr (refl, omega (arith, two, is))
own_or_other Bughouse (suc zero) n m Second there is high = inl refl
own_or_other Bughouse (suc (suc k)) n m board there is high = absurd cc

goes_on_by : (v : Variant) (front : List Half) (h : Half) (n : ℕ) → v ≡ Bughouse → n ≡ 3 - h.board → 1 ≤ h.board
    → h.board ≤ bounds.boards v → OtherGoesOn v front h.board →
    GoesOn (position_on v (front ++ h ∷ []) n)
goes_on_by Chess front h n pair is low high going = absurd cc
goes_on_by Crazyhouse front h n pair is low high going = absurd cc
goes_on_by (Fischer number) front h n pair is low high going = absurd cc
goes_on_by Bughouse front h n pair is low high going = other_goes_on front h n is low high going

-- that board goes on, if it is one
abbrev pub GoesOnAt : List Board → Option BoardNumber → Type 0
GoesOnAt boards None = Unit {0}
GoesOnAt boards (Some board) = IfSome (slice_get boards (board_place board)) (λ b. GoesOn (position_of b))

after_last : (t : Terms) (boards : List Board) (front : List Half) (h : Half) (board : BoardNumber)
    → numbered_board h.board ≡ Some board → AreSoundBoards t boards → halves_of boards ≡ front ++ h ∷ []
    → MayCome t front h
    → IsHalf t.variant h →
    IfSome (slice_get boards (board_place board)) (λ b. GoesOn (position_of b)) → (k : ℕ) (b : Board)
    → slice_get boards k ≡ Some b → GoesOn (position_of b)
after_last t boards front h board on s made comes half here k b there =
    elim (own_or_other t.variant k b.number h.board board (number_at t.variant boards k b s.numbers there)
    (number_of-numbered h.board board on) half.last) [
      | inl same ↦
          let own : slice_get boards (board_place board) ≡ Some b = ap (slice_get boards) same ∙ there in
          subst (λ (o : Option Board). IfSome o (λ c. GoesOn (position_of c))) own here
      | inr other ↦
          let position : position_of b ≡ position_on t.variant (front ++ h ∷ []) b.number =
          position_by t boards k b s there ∙ ap (λ (hs : List Half). position_on t.variant hs b.number) made in
          subst GoesOn (sym position)
          (goes_on_by t.variant front h b.number other.0 other.1 half.first half.last comes.other)
    ]

each_at : (P : Board → Type 0) (boards : List Board) → ((k : ℕ) (b : Board) → slice_get boards k ≡ Some b → P b)
    → All P boards
each_at P [] at = All-nil P
each_at P (b ∷ boards) at = All-cons P b boards (at 0 b refl) (each_at P boards (λ k c there. at (suc k) c there))

pub replayed_go_on : (t : Terms) (halves : List Half) (boards : List Board) → AllByRecursion (IsHalf t.variant) halves
    → CanBePlayed t halves → AreSoundBoards t boards →
    halves_of boards ≡ halves → GoesOnAt boards (last_board halves) → GoOn boards
replayed_go_on t halves boards each played s made here =
    each_at (λ b. GoesOn (position_of b)) boards
    (elim (from_end halves) [
      | inl none ↦ λ k b there.
          let position : position_of b ≡ position_on t.variant [] b.number =
          position_by t boards k b s there ∙ ap (λ (hs : List Half). position_on t.variant hs b.number) (made ∙ none) in
          subst GoesOn (sym position) (start_goes_on t k b.number (number_at t.variant boards k b s.numbers there))
      | inr some ↦
          let front : List Half = some.0 in
          let h : Half = some.1.0 in
          let half : IsHalf t.variant h =
          (each-back (IsHalf t.variant) front (h ∷ []) (subst (AllByRecursion (IsHalf t.variant)) some.1.1 each)).0 in
          let on = board_within t.variant h.board half.first half.last in
          let last : last_board halves ≡ Some on.0 =
          ap last_board some.1.1 ∙ ap (option_and_then (λ (x : Half). numbered_board x.board)) (last_at front h)
          ∙ on.1 in
          after_last t boards front h on.0 on.1 s (made ∙ some.1.1)
          (by_steps.last t front h (subst (CanBePlayed t) some.1.1 played)) half
          (subst (GoesOnAt boards) last here)
    ])

-- The answer to a written move word, as a function that computes: this server's own rules.
-- `Answer` has the same as relations, and `WordsAreAnswered` of `Laws` says that they agree.
use Rattle.std.specs.Prelude.{ℕ, Bool, true, false, ◌&&◌, not, nat_eq, nat_lt, is_none, is_some, List, [], ◌∷◌, length, map, Option, Some, None, Result, Ok, Err, MatchResult}
use Rattle.std.specs.List.{list_any, filter}
use Rattle.chess_model.specs.declared.man.Kind.{Kind}
use Rattle.chess_model.specs.declared.moves.Move.{Move}
use Rattle.chess_model.specs.declared.moves.Move.TheVariants as move
use Rattle.chess_model.specs.declared.moves.MoveWord.{MoveWord}
use Rattle.chess_model.specs.declared.moves.MoveWord.TheVariants as word
use Rattle.chess_model.specs.declared.moves.Rejection.{Rejection}
use Rattle.chess_model.specs.declared.moves.Rejection.TheVariants.{Ambiguous, LeavesKing, CastleForbidden, NoDrops, NotInHand, Occupied, EndRank, NoPiece, CannotReach}
use Rattle.chess_model.specs.Squares.{file_of, rank_of}
use Rattle.chess_model.specs.Men.{is_held_by, is_held_as}
use Rattle.chess_model.specs.Placement.{man_at}
use Rattle.chess_model.specs.Holdings.{count_in}
use Rattle.chess_model.specs.Position.{Position, hand_of_side}
use Rattle.chess_model.specs.Answer.{promotion_of, castling_of, coordinate_move, IsAnswer, IsRefusal}
use Rattle.chess_model.specs.Tests.{squares, has_drops, may_drop_on, is_move, is_safe_after, is_allowed}

-- whether a number is the one that is given, if one is given
abbrev pub is_as_given : Option ℕ → ℕ → Bool
is_as_given None n = true
is_as_given (Some given) n = nat_eq n given

-- whether an own man of that kind stands on a, on the file and rank that are given
abbrev pub is_named : Position → Kind → Option ℕ → Option ℕ → ℕ → Bool
is_named p k file rank a =
    is_held_as p.to_move k (man_at p.men a) && is_as_given file (file_of a) && is_as_given rank (rank_of a)

-- the squares of the men that a word with a kind and a target means
abbrev pub named_squares : Position → Kind → Option ℕ → Option ℕ → List ℕ
named_squares p k file rank = filter (is_named p k file rank) squares

-- the moves that match a word
unfoldable pub matches : Position → MoveWord → List Move
matches p (word.Coordinate a b letter) = coordinate_move p a b letter (castling_of p a b) ∷ []
matches p (word.Named k file rank b letter) =
    map (λ a. move.Plain a b (promotion_of p a b letter)) (named_squares p k file rank)
matches p (word.Castle long) = move.Castle long ∷ []
matches p (word.Drop k to) = move.Drop k to ∷ []

-- the moves that match a word and are allowed
abbrev pub choices : Position → MoveWord → List Move
choices p w = filter (is_allowed p) (matches p w)

-- whether a move fails by the safety of the own king alone
abbrev pub leaves_king : Position → Move → Bool
leaves_king p m = is_move p m && not (is_safe_after p m)

-- whether a word is one for castling
abbrev pub is_castling_word : Position → MoveWord → Bool
is_castling_word p (word.Coordinate a b letter) = is_some (castling_of p a b)
is_castling_word p (word.Named k file rank b letter) = false
is_castling_word p (word.Castle long) = true
is_castling_word p (word.Drop k to) = false

-- whether a word is one for a drop that the test finds
abbrev pub is_drop_with : (Kind → ℕ → Bool) → MoveWord → Bool
is_drop_with test (word.Coordinate a b letter) = false
is_drop_with test (word.Named k file rank b letter) = false
is_drop_with test (word.Castle long) = false
is_drop_with test (word.Drop k to) = test k to

-- whether no own man of the word's kind stands on its square, file or rank
abbrev pub has_no_piece : Position → MoveWord → Bool
has_no_piece p (word.Coordinate a b letter) = not (is_held_by p.to_move (man_at p.men a))
has_no_piece p (word.Named k file rank b letter) = not (list_any (is_named p k file rank) squares)
has_no_piece p (word.Castle long) = false
has_no_piece p (word.Drop k to) = false

-- whether a refusal holds of a word
unfoldable pub applies : Position → MoveWord → Rejection → Bool
applies p w Ambiguous = nat_lt 1 (length (choices p w))
applies p w CastleForbidden = is_castling_word p w
applies p w NoDrops = is_drop_with (λ k to. not (has_drops p.variant)) w
applies p w NotInHand = is_drop_with (λ k to. nat_eq (count_in (hand_of_side p p.to_move) k) 0) w
applies p w Occupied = is_drop_with (λ k to. not (is_none (man_at p.men to))) w
applies p w EndRank = is_drop_with (λ k to. not (may_drop_on k to)) w
applies p w LeavesKing = list_any (leaves_king p) (matches p w)
applies p w NoPiece = has_no_piece p w
applies p w CannotReach = true

-- the refusals in the order in which they are looked at; the last one holds of every word
abbrev pub refusals : List Rejection
refusals =
    Ambiguous ∷ CastleForbidden ∷ NoDrops ∷ NotInHand ∷ Occupied ∷ EndRank ∷ LeavesKing ∷ NoPiece ∷ CannotReach ∷ []

-- the first refusal that holds
abbrev pub first_refusal : List Rejection → Rejection
first_refusal [] = CannotReach
first_refusal (r ∷ rs) = r

-- why a word has no answer
abbrev pub refusal : Position → MoveWord → Rejection
refusal p w = first_refusal (filter (applies p w) refusals)

-- the only one of some moves, or else that refusal
abbrev pub only_one : List Move → Rejection → Result Move Rejection
only_one [] r = Err r
only_one (m ∷ []) r = Ok m
only_one (m ∷ n ∷ ms) r = Err r

-- the answer to a word: the one allowed match, or else the first refusal that holds
unfoldable pub word_answer : Position → MoveWord → Result Move Rejection
word_answer p w = only_one (choices p w) (refusal p w)

-- a move is the answer to a word, a refusal its refusal, by the relations of `Answer`
abbrev pub IsWordAnswer : Position → MoveWord → Result Move Rejection → Type 0
IsWordAnswer p w r = MatchResult r (IsAnswer p w) (IsRefusal p w)

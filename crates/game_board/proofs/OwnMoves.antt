-- The half-moves before the last one of a board, in a list of those of both boards of a pair.
use Rattle.std.specs.Prelude.{nat_eq}
use Rattle.std.proofs.lemmas.Bool.{eq-eqb, ne_eqb, or_right}
use Rattle.std.proofs.Common.{◌≡◌, ◌≢◌, ℕ, ◌-◌, ◌||◌, suc, Bool, true, false, if◌then◌else◌, List, [], ◌∷◌, ◌++◌, length, take, refl, ap, ◌∙◌, arith}
use Rattle.chess_model.specs.declared.moves.Move.{Move}
use Rattle.chess_model.specs.MoveList.{HalfMove, on}
use Rattle.game_board.specs.declared.played.Played.{Played}
use Rattle.game_board.specs.Board.{half_move, half_moves}
use Rattle.game_board.specs.BoardFace.{has_own, before_own}

pub chosen : {X : Type 0} (b : Bool) (x y : X) → b ≡ true → (if b then x else y) ≡ x
chosen true x y e = refl
chosen false x y e = cc

has_own-own : (number : ℕ) (T : List HalfMove) (m : Move) → has_own number (T ++ on number m ∷ []) ≡ true
has_own-own number [] m = ap (λ b. b || false) (eq-eqb number number refl)
has_own-own number (h ∷ T) m =
    or_right (nat_eq h.board number) (has_own number (T ++ on number m ∷ [])) (has_own-own number T m)

pub before_own-own : (number : ℕ) (T : List HalfMove) (m : Move) → before_own number (T ++ on number m ∷ []) ≡ T
before_own-own number [] m = refl
before_own-own number (h ∷ T) m =
    chosen (has_own number (T ++ on number m ∷ [])) (h ∷ before_own number (T ++ on number m ∷ [])) []
    (has_own-own number T m)
    ∙ ap (λ l. h ∷ l) (before_own-own number T m)

has_own-other : (number other : ℕ) (T : List HalfMove) (m : Move) → other ≢ number
    → has_own number (T ++ on other m ∷ []) ≡ has_own number T
has_own-other number other [] m differ = ap (λ b. b || false) (ne_eqb other number differ)
has_own-other number other (h ∷ T) m differ =
    ap (λ b. nat_eq h.board number || b) (has_own-other number other T m differ)

pub before_own-other : (number other : ℕ) (T : List HalfMove) (m : Move) → other ≢ number
    → before_own number (T ++ on other m ∷ []) ≡ before_own number T
before_own-other number other [] m differ = refl
before_own-other number other (h ∷ T) m differ =
    ap (λ b. if b then h ∷ before_own number (T ++ on other m ∷ []) else []) (has_own-other number other T m differ)
    ∙ ap (λ l. if has_own number T then h ∷ l else []) (before_own-other number other T m differ)

has_own-all : (number : ℕ) (p : Played) (list : List Played) → has_own number (half_moves number (p ∷ list)) ≡ true
has_own-all number p list = ap (λ b. b || has_own number (half_moves number list)) (eq-eqb number number refl)

more : (n : ℕ) → suc (suc n - 1) ≡ suc (suc n) - 1
more n = omega arith

-- where all are the board's own, they are those before the last
pub before_own-all : (number : ℕ) (list : List Played)
    → before_own number (half_moves number list) ≡ half_moves number (take (length list - 1) list)
before_own-all number [] = refl
before_own-all number (p ∷ []) = refl
before_own-all number (p ∷ q ∷ list) =
    chosen (has_own number (half_moves number (q ∷ list)))
    (half_move number p ∷ before_own number (half_moves number (q ∷ list))) [] (has_own-all number q list)
    ∙ ap (λ l. half_move number p ∷ l) (before_own-all number (q ∷ list))
    ∙ ap (λ n. half_moves number (take n (p ∷ q ∷ list))) (more (length list))

pub ruleset last_own = (before_own-own, before_own-other)

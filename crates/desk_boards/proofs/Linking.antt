-- What one board of a pair takes the other one to be.
use Rattle.std.proofs.Common.{◌≡◌, ◌<◌, ℕ, ◌+◌, ◌∷◌, ◌++◌, [], Option, length, length-append, sym, ap, subst, arith}
use Rattle.chess_model.specs.declared.moves.Move.{Move}
use Rattle.chess_model.specs.Allowed.{Allowed}
use Rattle.chess_model.specs.Holdings.{other_board}
use Rattle.chess_model.specs.MoveList.{taken}
use Rattle.chess_model.specs.Position.{Position, position_after}
use Rattle.game_board.specs.Board.{Board, position_of}
use Rattle.game_board.specs.Learn.{partner_position, captured_there, learnt}
use Rattle.game_board.specs.Play.{captured_in, with_half_move}
use Rattle.game_board.specs.declared.played.Played.{Played}
use Rattle.game_board.specs.Put.{with_put}
use Rattle.desk_boards.specs.Linked.{AreLinked}

-- the position on a board is that which the other one takes it to be
position_there : (own other : Board) → AreLinked own other → position_of own ≡ partner_position other
unfolding position_of
position_there own other h =
    let terms : own.terms ≡ other.terms = sym h.terms in
    let all : own.all ≡ other.all = sym h.together in
    let number : own.number ≡ other_board other.number = omega (arith, h.numbers) in
    λ i. position_after (terms i).variant (all i) (number i)

-- so what is allowed here is allowed there, and captures the same man
pub learn_allowed : (own other : Board) (m : Move) → AreLinked own other → Allowed (position_of own) m
    → Allowed (partner_position other) m
learn_allowed own other m h allowed = subst (λ (p : Position). Allowed p m) (position_there own other h) allowed

pub learn_captured : (own other : Board) (m : Move) → AreLinked own other → captured_in own m ≡ captured_there other m
learn_captured own other m h = ap (λ (p : Position). taken p.men m) (position_there own other h)

-- and there is room for it there
pub learn_room : (own other : Board) → AreLinked own other → length own.list < 1200
    → length other.all < length other.list + 1200
learn_room own other h short =
    let all : length other.all ≡ length own.all = ap length h.together in
    omega (arith, h.each, all, short)

linked-played : (own other : Board) (m : Move) (moment : ℕ) (stamp : Option ℕ) → AreLinked own other →
    AreLinked (with_half_move own m moment stamp) (learnt other m)
linked-played own other m moment stamp h =
    let number : other_board other.number ≡ own.number = omega (arith, h.numbers) in
    record {
      pair = h.pair;
      terms = h.terms;
      numbers = h.numbers;
      together = λ i. h.together i ++ record { board = number i; what = m } ∷ [];
      each = grind (arith, length-append, h.each);
    }

-- and both are linked once one has the half-move and the other one has learnt of it
pub linked-learnt : (own other after told : Board) (m : Move) (moment : ℕ) (stamp : Option ℕ) → AreLinked own other →
    after ≡ with_half_move own m moment stamp → told ≡ learnt other m → AreLinked after told
linked-learnt own other after told m moment stamp h played learns =
    subst (λ (b : Board). AreLinked b told) (sym played)
    (subst (λ (b : Board). AreLinked (with_half_move own m moment stamp) b) (sym learns)
    (linked-played own other m moment stamp h))

-- and so where the half-move came with its charge
linked-with_put : (own other : Board) (p : Played) → AreLinked own other
    → AreLinked (with_put own p) (learnt other p.what)
linked-with_put own other p h =
    let number : other_board other.number ≡ own.number = omega (arith, h.numbers) in
    record {
      pair = h.pair;
      terms = h.terms;
      numbers = h.numbers;
      together = λ i. h.together i ++ record { board = number i; what = p.what } ∷ [];
      each = grind (arith, length-append, h.each);
    }

pub linked-put : (own other after told : Board) (p : Played) → AreLinked own other → after ≡ with_put own p
    → told ≡ learnt other p.what → AreLinked after told
linked-put own other after told p h put learns =
    subst (λ (b : Board). AreLinked b told) (sym put)
    (subst (λ (b : Board). AreLinked (with_put own p) b) (sym learns) (linked-with_put own other p h))

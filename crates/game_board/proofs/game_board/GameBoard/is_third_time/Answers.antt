use Rattle.std.proofs.Common.{◌≡◌, ◌≢◌, ℕ, ◌<◌, List, length, sym, ap, subst, ◌∙◌, arith}
use Rattle.std.specs.Prelude.{IsTrue, IfSome, IfNone}
use Rattle.chess_model.specs.declared.variant.Variant.TheVariants.{Bughouse}
use Rattle.chess_model.specs.MoveList.{HalfMove}
use Rattle.chess_model.specs.Position.{Position, position_after}
use Rattle.chess_model.specs.Claims.{is_threefold, same_position}
use Rattle.game_board.specs.Board.{Board, half_moves, position_of}
use Rattle.game_board.specs.Steps.{position_at}
use Rattle.game_board.proofs.Steps.{position_at-all}
use Rattle.game_board.proofs.Thirds.{is_not_third, third_by, not_pair}
use Rattle.game_board.proofs.game_board.GameBoard.is_third_time.Goals as goal

pub last_same-requires-clause-stands : goal.last_same-requires-clause-stands
unfolding position_of
last_same-requires-clause-stands c =
    let b = c.args.self.now in
    let alone : b.all ≡ half_moves b.number b.list =
    subst (λ (x : Board). x.terms.variant ≢ Bughouse → x.all ≡ half_moves x.number x.list) c.self.view_is
    c.self.invariant.alone (not_pair b.terms.variant c.requires) in
    let many : c.len.result ≡ length b.list = c.len.ensures.value ∙ ap (λ (x : Board). length x.list) c.self.view_is in
    c.duplicate-past.ensures ∙ c.position.ensures
    ∙ ap (λ (T : List HalfMove). position_after b.terms.variant T b.number) alone
    ∙ sym (position_at-all b.terms.variant b.number b.list)
    ∙ ap (position_at b.terms.variant b.number b.list) (sym many)

pub returns-in-Some : goal.returns-in-Some
unfolding position_of
returns-in-Some c =
    let b = c.args.self.now in
    let alone : b.all ≡ half_moves b.number b.list =
    subst (λ (x : Board). x.terms.variant ≢ Bughouse → x.all ≡ half_moves x.number x.list) c.self.view_is
    c.self.invariant.alone (not_pair b.terms.variant c.requires) in
    let is : position_of b ≡ position_after b.terms.variant (half_moves b.number b.list) b.number =
    ap (λ (T : List HalfMove). position_after b.terms.variant T b.number) alone in
    let many : c.len.result ≡ length b.list = c.len.ensures.value ∙ ap (λ (x : Board). length x.list) c.self.view_is in
    let found = c.in-Some.ensures.found in
    let before : c.in-Some.second < length b.list = omega (arith, found.0, many) in
    let same =
    subst (λ (q : Position). IsTrue (same_position q (position_at b.terms.variant b.number b.list c.in-Some.second))) is
    (subst (λ (q : Position). IsTrue (same_position (position_of b) q)) found.2 found.1) in
    c.is_some.ensures
    ∙ third_by b.terms.variant b.number b.list c.in-Some.second before same
    (λ j from to h.
    c.in-Some.ensures.last j from (omega (arith, to, many))
    (subst (λ (q : Position). IsTrue (same_position q (position_at b.terms.variant b.number b.list j))) (sym is) h))
    c.last_same-in-Some.result c.last_same-in-Some.new.past
    (subst (λ (q : Position).
    IfSome c.last_same-in-Some.result
    (λ k. (k < c.in-Some.second) × IsTrue (same_position q c.last_same-in-Some.new.past)
    × (c.last_same-in-Some.new.past ≡ position_at b.terms.variant b.number b.list k))) is
    c.last_same-in-Some.ensures.found)
    (subst (λ (q : Position).
    IfNone c.last_same-in-Some.result
    ((j : ℕ) → j < c.in-Some.second → ¬ IsTrue (same_position q (position_at b.terms.variant b.number b.list j))))
    is
    c.last_same-in-Some.ensures.none)
    ∙ ap (λ (T : List HalfMove). is_threefold b.terms.variant T b.number) (sym alone)

pub returns-in-None : goal.returns-in-None
unfolding position_of
returns-in-None c =
    let b = c.args.self.now in
    let alone : b.all ≡ half_moves b.number b.list =
    subst (λ (x : Board). x.terms.variant ≢ Bughouse → x.all ≡ half_moves x.number x.list) c.self.view_is
    c.self.invariant.alone (not_pair b.terms.variant c.requires) in
    let is : position_of b ≡ position_after b.terms.variant (half_moves b.number b.list) b.number =
    ap (λ (T : List HalfMove). position_after b.terms.variant T b.number) alone in
    let many : c.len.result ≡ length b.list = c.len.ensures.value ∙ ap (λ (x : Board). length x.list) c.self.view_is in
    sym (ap (λ (T : List HalfMove). is_threefold b.terms.variant T b.number) alone ∙
    is_not_third b.terms.variant b.number b.list
    (λ first second order before one two. c.in-None.ensures.none second (omega (arith, before, many))
    (subst (λ (q : Position). IsTrue (same_position q (position_at b.terms.variant b.number b.list second))) (sym is)
    two)))

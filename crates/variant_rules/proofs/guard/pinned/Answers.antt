use Rattle.std.proofs.Common.{◌<◌, rules, sym, subst}
use Rattle.chess_model.specs.declared.man.Colour.{Colour}
use Rattle.bitboard_core.specs.Strikers.{AreMenOf, IsStrikerSet}
use Rattle.variant_rules.proofs.LiftLemmas.{pinned-is}
use Rattle.variant_rules.proofs.guard.pinned.Goals as goal

pub returns : goal.returns
returns c =
    let P = c.args.men.now in
    let s = c.args.s in
    let ls : c.args.s < 64 = search rules in
    let occupied = c.occupied-occupied.result in
    let lines = c.queen_squares.result in
    let own = c.held_by.result in
    let side = c.side.result in
    let e = c.opposite-enemy.ensures in
    let men = subst (λ (x : Colour). AreMenOf P x side) e c.side.ensures in
    pinned-is P c.args.c s lines own occupied c.strikers-snipers.result c.seen_from.result side c.requires.squares
    ls c.queen_squares.type_inv c.held_by.type_inv c.requires.safe
    (c.queen_squares.ensures P c.args.c c.occupied-occupied.ensures) c.held_by.ensures c.occupied-occupied.ensures men
    (λ Q enemies all. subst (λ (x : Colour). IsStrikerSet Q x s c.strikers-snipers.result) e
    (c.strikers-snipers.ensures Q (subst (λ (x : Colour). AreMenOf Q x side) (sym e) enemies) all))
    c.seen_from.ensures

use Rattle.std.proofs.Common.{◌↔◌, ◌<◌, IsTrue, is_some, rules, refl, sym, subst, None}
use Rattle.std.specs.Prelude.{slice_set}
use Rattle.chess_model.specs.declared.man.Colour.{Colour}
use Rattle.chess_model.specs.Attacked.{IsAttacked}
use Rattle.bitboard_core.specs.Strikers.{AreMenOf}
use Rattle.variant_rules.proofs.KingLemmas.{gone-enemies}
use Rattle.variant_rules.proofs.kings.is_attacked_without.Goals as goal

pub returns : goal.returns
returns c =
    let P = c.args.men.now in
    let a = c.args.a in
    let la : c.args.a < 64 = search rules in
    let Q = slice_set P a None in
    let e = c.opposite-enemy.ensures in
    let side = c.side.result in
    let men =
    gone-enemies P c.args.c a side c.requires.squares la c.requires.held
    (subst (λ (x : Colour). AreMenOf P x side) e c.side.ensures) in
    let all = c.written.ensures is_some P None c.requires.squares c.occupied.ensures refl in
    subst (λ (x : Colour). IsTrue c.is_struck.result ↔ IsAttacked Q x c.args.b) e
    (c.is_struck.ensures Q (subst (λ (x : Colour). AreMenOf Q x side) (sym e) men) all)

use Rattle.std.proofs.Common.{sym, subst, ◌∙◌}
use Rattle.std.specs.Prelude.{slice_set}
use Rattle.std.proofs.lemmas.List.{length-set}
use Rattle.chess_model.specs.declared.man.Colour.{Colour}
use Rattle.bitboard_core.specs.Strikers.{AreMenOf}
use Rattle.variant_rules.proofs.sights.Sights.with.Goals as goal

pub returns : goal.returns
returns c P old =
    let before = subst (λ (x : Colour). AreMenOf P x c.args.self.enemies) (sym c.opposite.ensures) old.enemies in
    record {
      squares = length-set P c.args.s c.args.man ∙ old.squares;
      enemies =
          subst (λ (x : Colour). AreMenOf (slice_set P c.args.s c.args.man) x c.side_with.result) c.opposite.ensures
          (c.side_with.ensures P old.squares before);
      occupied = c.written.ensures _ P c.args.man old.squares old.occupied (sym c.is_some.ensures);
      kings = c.written-2.ensures _ P c.args.man old.squares old.kings (sym c.is_man_of.ensures);
    }

use Rattle.std.proofs.Common.{ap, sym, subst, ◌∙◌, refl}
use Rattle.chess_model.specs.Placement.{man_at}
use Rattle.chess_model.specs.Position.{Position}
use Rattle.chess_model.specs.Next.{next}
use Rattle.variant_rules.specs.declared.make.Undo.{Undo}
use Rattle.variant_rules.specs.Undos.{IsUndoOf}
use Rattle.variant_rules.proofs.UndoLemmas.{undo_made}
use Rattle.variant_rules.proofs.position.Position.undo_of.Goals as goal

pub returns-clause-undo : goal.returns-clause-undo
returns-clause-undo c =
    let b = c.self.inside in
    let p : Position = record {
      variant = b.variant;
      men = b.men;
      to_move = b.to_move;
      en_passant = b.en_passant;
      rights = b.rights;
      quiet = b.quiet;
      white = b.white;
      black = b.black;
    } in
    let u : Undo = record {
      first = c.stood_on.result;
      second = c.stood_on-2.result;
      third = c.stood_on-3.result;
      fourth = c.stood_on-4.result;
      captured = c.taken_by.result;
      en_passant = b.en_passant;
      rights = b.rights;
      quiet = b.quiet;
      white = b.white;
      black = b.black;
    } in
    subst (λ (x : Position). IsUndoOf u x (next x c.args.m.now)) c.self.view_is
    (undo_made p c.args.m.now u c.squares_changed-squares.result c.self.invariant.squares c.self.invariant.men
    c.squares_changed-squares.ensures c.stood_on.ensures.square c.stood_on-2.ensures.square c.stood_on-3.ensures.square
    c.stood_on-4.ensures.square
    (c.stood_on.ensures.man ∙ ap (man_at p.men) (sym c.stood_on.ensures.square))
    (c.stood_on-2.ensures.man ∙ ap (man_at p.men) (sym c.stood_on-2.ensures.square))
    (c.stood_on-3.ensures.man ∙ ap (man_at p.men) (sym c.stood_on-3.ensures.square))
    (c.stood_on-4.ensures.man ∙ ap (man_at p.men) (sym c.stood_on-4.ensures.square))
    refl refl refl refl refl)

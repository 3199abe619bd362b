use Rattle.std.proofs.Common.{◌≡◌, ◌∷◌, [], List, ℕ, length, take, arith, ap, sym, subst, ◌∙◌, length-take-le}
use Rattle.std.specs.Prelude.{IsTrue}
use Rattle.std.specs.List.{list_all}
use Rattle.std.proofs.lemmas.List.{take_more_set}
use Rattle.chess_model.specs.MoveText.{is_printable}
use Rattle.style12_writer.proofs.Printed.{printable-append, printable-byte}
use Rattle.style12_writer.proofs.draft.Draft.byte.Goals as goal

pub invariant_of-self : goal.invariant_of-self
invariant_of-self c =
    let draft = c.self.inside in
    let written : length c.args.self.now ≡ draft.len =
    ap length (sym c.self.view_is)
    ∙ length-take-le draft.len draft.bytes (omega (arith, c.self.told, c.self.invariant.within)) in
    let joined =
    take_more_set draft.bytes draft.len c.args.byte (omega (arith, written, c.self.told, c.requires.room)) in
    record {
      within = omega (arith, written, c.requires.room);
      printable =
          subst (λ (line : List ℕ). IsTrue (list_all is_printable line)) (sym joined)
          (printable-append (take draft.len draft.bytes) (c.args.byte ∷ []) c.self.invariant.printable
          (printable-byte c.args.byte c.requires.printable));
    }

use Rattle.std.proofs.Common.{◌≡◌, ◌+◌, ◌++◌, ◌-◌, List, ℕ, length, take, arith, ap, sym, subst, ◌∙◌, length-take-le}
use Rattle.std.specs.Prelude.{IsTrue}
use Rattle.std.specs.List.{list_all}
use Rattle.std.proofs.lemmas.Slice.{take-put_mid}
use Rattle.chess_model.specs.MoveText.{is_printable}
use Rattle.style12_writer.proofs.Printed.{printable-append}
use Rattle.style12_writer.proofs.draft.Draft.text.Goals as goal

pub invariant_of-self : goal.invariant_of-self
invariant_of-self c =
    let draft = c.self.inside in
    let text = c.args.text.now in
    let written : length c.args.self.now ≡ draft.len =
    ap length (sym c.self.view_is)
    ∙ length-take-le draft.len draft.bytes (omega (arith, c.self.told, c.self.invariant.within)) in
    let count : length c.copy_from_slice.new.self ≡ length text = ap length c.copy_from_slice.ensures.after in
    let joined =
    take-put_mid draft.len (draft.len + length text - draft.len) draft.bytes c.copy_from_slice.new.self
    (draft.len + length text)
    (omega (arith, count)) (omega (arith, c.self.told, c.self.invariant.within))
    ∙ ap (λ (end : List ℕ). take draft.len draft.bytes ++ end) c.copy_from_slice.ensures.after in
    record {
      within = omega (arith, written, c.requires.room);
      printable =
          subst (λ (line : List ℕ). IsTrue (list_all is_printable line)) (sym joined)
          (printable-append (take draft.len draft.bytes) text c.self.invariant.printable c.requires.printable);
    }

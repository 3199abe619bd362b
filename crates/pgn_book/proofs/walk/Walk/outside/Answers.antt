use Rattle.std.proofs.Common.{◌≡◌, false, arith, sym, ◌∙◌}
use Rattle.std.specs.Prelude.{◌==◌}
use Rattle.std.proofs.lemmas.Bool.Decides.{nat_tests}
use Rattle.pgn_book.proofs.Walking.{sign_at}
use Rattle.pgn_book.proofs.walk.Walk.outside.Goals as goal

pub returns-then-is_sign : goal.returns-then-is_sign
returns-then-is_sign c =
    let no_glyph : (c.args.byte == 36) ≡ false = grind (arith, nat_tests) in
    let no_quote : (c.args.byte == 34) ≡ false = grind (arith, nat_tests) in
    sign_at c.self.inside.place c.self.inside.depth c.self.inside.book c.sign.new.self c.args.self.now c.args.byte
    c.sign.result c.self.view_is c.requires
    no_glyph no_quote (sym c.is_sign.ensures ∙ c.if-is_sign.true) c.sign.ensures

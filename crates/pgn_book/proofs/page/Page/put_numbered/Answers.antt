use Rattle.std.proofs.Common.{ℕ, List, [], ◌∷◌, ◌++◌, subst}
use Rattle.std.specs.Prelude.{decimal, codes}
use Rattle.pgn_book.specs.Pages.{Lays}
use Rattle.pgn_book.proofs.Laying.{lays_both}
use Rattle.pgn_book.proofs.page.Page.put_numbered.Goals as goal

pub returns : goal.returns
returns c =
    lays_both c.args.self.now c.put_number.new.self c.put.new.self
    ((decimal c.args.number ++ codes ".") ∷ []) (c.args.text.now ∷ []) c.in_ok-put_number.ensures
    (subst (λ (t : List ℕ). Lays c.put_number.new.self c.put.new.self (t ∷ [])) c.bytes.ensures.value
    c.in_ok-put.ensures.lays)

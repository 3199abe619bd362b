use Rattle.std.proofs.Common.{◌++◌, ◌∷◌, [], ℕ, List, take, length, length-take, sym, ap, ◌∙◌, arith}
use Rattle.line_reader.proofs.OpenLines.{grown_by, full_stays}
use Rattle.line_reader.proofs.open_line.OpenLine.push.Goals as goal

pub returns-then-self-lt-ROOM-clause-grown : goal.returns-then-self-lt-ROOM-clause-grown
returns-then-self-lt-ROOM-clause-grown c =
    grown_by c.self.inside.bytes c.self.inside.len c.args.byte (omega arith) (omega arith)
    ∙ ap (λ (l : List ℕ). take 1034 (l ++ c.args.byte ∷ [])) c.self.view_is

pub returns-else-self-lt-ROOM-clause-grown : goal.returns-else-self-lt-ROOM-clause-grown
returns-else-self-lt-ROOM-clause-grown c =
    full_stays c.args.self.now c.args.byte
    (omega
    (arith, c.self.invariant.1, sym (ap length c.self.view_is), length-take c.self.inside.len c.self.inside.bytes))

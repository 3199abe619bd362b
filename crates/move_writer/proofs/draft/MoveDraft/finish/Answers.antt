use Rattle.std.proofs.Common.{◌≡◌, ◌<◌, List, ℕ, length, take, sym, subst, ◌∙◌, arith, length-take}
use Rattle.std.specs.Prelude.{All}
use Rattle.move_writer.specs.Blanks.{Shows, HasNoBlank}
use Rattle.move_writer.proofs.Shown.{IsMoveText-from_shows, HasNoBlank-from_shows}
use Rattle.move_writer.proofs.draft.MoveDraft.finish.Goals as goal

pub unwrap-requires : goal.unwrap-requires
unwrap-requires c =
    let text = take c.self.inside.len c.self.inside.bytes in
    let some : 0 < length text = subst (λ (t : List ℕ). 0 < length t) (sym c.self.view_is) c.requires in
    c.of.ensures.readable.1 (IsMoveText-from_shows text some
    (omega (arith, length-take c.self.inside.len c.self.inside.bytes)) c.self.invariant.1)

pub returns-clause-unbroken : goal.returns-clause-unbroken
returns-clause-unbroken c =
    let shows : All Shows c.args.self = subst (λ (text : List ℕ). All Shows text) c.self.view_is c.self.invariant.1 in
    let same : c.unwrap.result ≡ c.args.self = (rw c.unwrap.ensures at c.of.ensures.value) ∙ c.self.view_is in
    subst (λ (text : List ℕ). HasNoBlank text) (sym same) (HasNoBlank-from_shows c.args.self shows)

use Rattle.std.proofs.Common.{rules, arith}
use Rattle.chess_model.specs.MoveText.{IsMoveText}
use Rattle.chess_model.proofs.Texts.{IsPadded-copied}
use Rattle.chess_model.proofs.text.MoveText.of.Goals as goal

pub invariant_of-result : goal.invariant_of-result
invariant_of-result c =
    let text : IsMoveText c.args.bytes.now =
    record { some = omega arith; most = omega arith; printable = search rules } in
    rw c.copy_from_slice.ensures.after (IsPadded-copied c.args.bytes.now text)

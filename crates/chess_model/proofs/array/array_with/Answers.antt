use Rattle.std.proofs.Common.{rules, ◌≡◌, length}
use Rattle.chess_model.proofs.Arrays.{array_made}
use Rattle.chess_model.proofs.array.array_with.Goals as goal

pub returns : goal.returns
returns c =
    let size : length c.args.files.now ≡ 8 = search rules in
    array_made c.args.files.now size _ _ _ _ _ _ _ _ _ _ _ _ _ _ _ _
    c.white.ensures c.white-2.ensures c.white-3.ensures c.white-4.ensures c.white-5.ensures c.white-6.ensures
    c.white-7.ensures c.white-8.ensures c.black.ensures c.black-2.ensures c.black-3.ensures c.black-4.ensures
    c.black-5.ensures c.black-6.ensures c.black-7.ensures c.black-8.ensures

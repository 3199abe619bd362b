use Rattle.std.proofs.Common.{◌∷◌, [], ◌++◌, sym, ◌∙◌, arith, length-append}
use Rattle.std.proofs.lemmas.List.{take_all, take-append-le}
use Rattle.cmd_lines.proofs.machine.keep.Goals as goal

pub returns-in_ok-push-clause-kept : goal.returns-in_ok-push-clause-kept
returns-in_ok-push-clause-kept c =
    c.in_ok-push.ensures.items
    ∙ sym
    (take_all 1024 (c.args.kept.now.items ++ c.args.byte ∷ [])
    (omega (arith, length-append c.args.kept.now.items (c.args.byte ∷ []), c.len.ensures)))

pub returns-else-len-le-MOST_LINE_BYTES-clause-kept : goal.returns-else-len-le-MOST_LINE_BYTES-clause-kept
returns-else-len-le-MOST_LINE_BYTES-clause-kept c =
    let kept = c.args.kept.now.items in
    sym (take_all 1024 kept (omega (arith, c.requires)))
    ∙ sym
    (take-append-le 1024 kept (c.args.byte ∷ []) (omega (arith, c.len.ensures, c.if-len-le-MOST_LINE_BYTES.false)))

use Rattle.std.proofs.Common.{ℕ, List, ◌++◌, ap, ◌∙◌}
use Rattle.std.specs.Prelude.{decimal}
use Rattle.session_core.proofs.texts.put_count.Goals as goal

pub returns : goal.returns
returns c =
    c.in_ok-extend_from_slice-2.ensures.items
    ∙ ap (λ (x : List ℕ). x ++ c.args.end.now)
    (c.in_ok-write_number.ensures.written
    ∙ ap (λ (x : List ℕ). x ++ decimal c.args.count) c.in_ok-extend_from_slice.ensures.items)

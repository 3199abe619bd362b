use Rattle.std.proofs.Common.{◌≡◌, ◌++◌, drop}
use Rattle.session_core.specs.Texts.{items_text}
use Rattle.session_core.proofs.texts.put_items.Given as goal

abbrev pub invariant-loop-item : goal.invariant-loop-item
invariant-loop-item l =
    l.out.items ++ items_text l.reader (drop l.item-index l.items)
    ≡ l.initial.out.items ++ items_text l.initial.reader l.initial.items

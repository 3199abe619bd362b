use Rattle.std.proofs.Common.{ℕ, List, ◌++◌, refl, ap, ◌∙◌, append_assoc}
use Rattle.session_core.specs.declared.reader.Reader.{Reader}
use Rattle.session_core.specs.Texts.{asks_back, item_line, item_text, items_text}
use Rattle.session_core.proofs.Lists.{all_put, one_added}
use Rattle.session_core.proofs.texts.put_items.Goals as goal

pub loop-item-preserved : goal.loop-item-preserved
loop-item-preserved c =
    let x = c.item-item.result in
    let out = c.loop-item.out.items in
    let reader : Reader = c.args.reader.now in
    one_added (items_text reader) (item_line reader) c.args.items.now c.loop-item.item-index x c.args.out.now.items out
    c.ask_back.new.out.items (λ y ys. refl) c.loop-item-test.true c.loop-item.invariant
    (c.in_ok-ask_back.ensures
    ∙ ap (λ (l : List ℕ). l ++ asks_back reader.link reader.seat x) c.in_ok-put_item.ensures
    ∙ append_assoc out (item_text reader.style reader.seat x) (asks_back reader.link reader.seat x)
    ∙ ap (λ y. out ++ item_line reader y) c.item-item.is)

pub returns : goal.returns
returns c =
    all_put (items_text c.args.reader.now) c.args.items.now c.loop-item.item-index c.args.out.now.items
    c.loop-item.out.items refl c.loop-item-test.false c.loop-item.invariant

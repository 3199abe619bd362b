use Rattle.std.proofs.Common.{ℕ, List, ◌∷◌, [], ◌++◌, sym, ap, ◌∙◌, append_assoc}
use Rattle.stamp_codec.specs.Message.{message_of}
use Rattle.stamp_codec.specs.Spelling.{body, padded, swapped, by_place, cipher}
use Rattle.stamp_codec.proofs.Written.{written-message_of}
use Rattle.stamp_codec.proofs.writing.write_line.Goals as goal

pub returns : goal.returns
returns c =
    let hidden : List ℕ → List ℕ = λ (l : List ℕ). by_place cipher 0 (swapped l) ++ 0x80 ∷ 0x0A ∷ [] in
    (c.in_ok-extend_from_slice.ensures {u = tt}).items
    ∙ ap (λ (l : List ℕ). l ++ 0x80 ∷ 0x0A ∷ []) c.hide.ensures
    ∙ ap hidden
    ((c.in_ok-fill_group.ensures {u = tt})
    ∙ ap padded
    ((c.in_ok-write_body.ensures {u = tt}) ∙ ap (λ (l : List ℕ). l ++ body c.args.text.now c.args.stamp) c.requires)
    ∙ sym (written-message_of c.args.text.now c.args.stamp))
    ∙ sym
    (append_assoc
    (by_place cipher 0 (swapped (Rattle.stamp_codec.specs.Spelling.written (message_of c.args.text.now c.args.stamp))))
    (0x80 ∷ []) (0x0A ∷ []))

use Rattle.std.proofs.Common.{◌≡◌, ℕ, List, [], ◌∷◌, ◌++◌, ap, ◌∙◌}
use Rattle.std.specs.Prelude.{codes}
use Rattle.pgn_book.specs.declared.game.PgnGame.{PgnGame}
use Rattle.pgn_book.specs.Export.{tag_lines, move_tokens, laid}
use Rattle.pgn_book.proofs.Laying.{page_text}
use Rattle.pgn_book.proofs.export_form.export.Goals as goal

pub returns : goal.returns
returns c =
    let g : PgnGame = c.args.g.now in
    let tokens : List (List ℕ) = move_tokens [] g.moves in
    let word : List ℕ = c.result_word.result.now in
    let front : c.put_tags.new.text.items ≡ tag_lines g ++ codes "\n" =
    c.in_ok-put_tags.ensures ∙ ap (λ (l : List ℕ). l ++ (tag_lines g ++ codes "\n")) c.new-text.ensures.items in
    c.in_ok-put_end.ensures
    ∙ ap (λ (l : List ℕ). l ++ codes "\n\n") (c.finish-text.ensures
    ∙ page_text c.behind-page.result c.put_moves.new.page c.put.new.self c.put_tags.new.text.items tokens (word ∷ [])
    c.behind-page.ensures
    c.in_ok-put_moves.ensures c.in_ok-put.ensures.lays)
    ∙ ap (λ (l : List ℕ). (l ++ laid 0 (tokens ++ word ∷ [])) ++ codes "\n\n") front
    ∙ ap
    (λ (w : List ℕ).
    ((tag_lines g ++ codes "\n") ++ laid 0 (tokens ++ w ∷ [])) ++ codes "\n\n") c.result_word.ensures.text

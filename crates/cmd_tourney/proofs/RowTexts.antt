-- The texts of rows, one after another.
use Rattle.std.proofs.Common.{◌≡◌, ℕ, ◌+◌, ◌<◌, List, [], ◌∷◌, ◌++◌, length, take, get_or, append_assoc, append-nil, sym, ap, ◌∙◌, arith}
use Rattle.std.proofs.lemmas.List.{length-take-le, take_more}
use Rattle.tourney_desk.specs.declared.score.ScoreRow.{ScoreRow}
use Rattle.cmd_tourney.specs.Texts.{row_text, rows_text}

rows_text-push : (names : List (List ℕ)) (place : ℕ) (rows : List ScoreRow) (row : ScoreRow)
    → rows_text names place (rows ++ row ∷ []) ≡ rows_text names place rows ++ row_text names (place + length rows) row
rows_text-push names place [] row =
    append-nil (row_text names place row)
    ∙ ap (λ k. row_text names k row) (let e : place ≡ place + length {A = ScoreRow} [] = omega arith in e)
rows_text-push names place (first ∷ rows) row =
    let e : place + 1 + length rows ≡ place + length (first ∷ rows) = omega arith in
    ap (λ l. row_text names place first ++ l)
    (rows_text-push names (place + 1) rows row ∙ ap (λ k. rows_text names (place + 1) rows ++ row_text names k row) e)
    ∙ sym
    (append_assoc (row_text names place first) (rows_text names (place + 1) rows)
    (row_text names (place + length (first ∷ rows)) row))

pub rows_text-more : (names : List (List ℕ)) (rows : List ScoreRow) (i : ℕ) (d : ScoreRow) → i < length rows
    → rows_text names 1 (take (i + 1) rows)
    ≡ rows_text names 1 (take i rows) ++ row_text names (i + 1) (get_or rows i d)
rows_text-more names rows i d low =
    let long : length (take i rows) ≡ i = length-take-le i rows (omega arith) in
    let e : 1 + length (take i rows) ≡ i + 1 = omega (arith, long) in
    ap (rows_text names 1) (take_more rows i d low)
    ∙ rows_text-push names 1 (take i rows) (get_or rows i d)
    ∙ ap (λ k. rows_text names 1 (take i rows) ++ row_text names k (get_or rows i d)) e

-- one more row behind what was written
pub row_more : (names : List (List ℕ)) (rows : List ScoreRow) (i : ℕ) (d : ScoreRow) (start old new : List ℕ)
    → i < length rows
    → old ≡ start ++ rows_text names 1 (take i rows) → new ≡ old ++ row_text names (i + 1) (get_or rows i d)
    → new ≡ start ++ rows_text names 1 (take (i + 1) rows)
row_more names rows i d start old new low so_far more =
    more ∙ ap (λ l. l ++ row_text names (i + 1) (get_or rows i d)) so_far
    ∙ append_assoc start (rows_text names 1 (take i rows)) (row_text names (i + 1) (get_or rows i d))
    ∙ ap (λ l. start ++ l) (sym (rows_text-more names rows i d low))

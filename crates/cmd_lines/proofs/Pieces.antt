-- The pieces of a text as bytes come at its end, and the law that they are its only parts.
use Rattle.std.proofs.Common.{◌≡◌, ℕ, Bool, true, false, cond, List, [], ◌∷◌, ◌++◌, refl, sym, ap, subst, ◌∙◌, append_assoc, append-nil}
use Rattle.std.specs.Prelude.{filter, ◌==◌}
use Rattle.std.specs.List.{onto_first}
use Rattle.std.proofs.lemmas.List.Splits.{slice_split_none, slice_split_at, slice_split-cons_no}
use Rattle.std.proofs.lemmas.List.Elements.{All-nil, All-cons, All-append, filter-append}
use Rattle.fics_words.specs.Pieces.{is_kept, pieces, but_last, last_of}
use Rattle.cmd_lines.specs.Lines.{HasNoLineFeed, lines_of, last_line, whole_lines}
use Rattle.fics_words.proofs.Pieces.{Begins, Begins-pieces, but_last-cons, last_of-cons, but_last-last_of}

Begins-append : (xs ys : List (List ℕ)) → Begins ys → Begins (xs ++ ys)
Begins-append [] ys h = h
Begins-append (x ∷ xs) ys h = record { first = x; others = xs ++ ys; is = refl }

pub but_last-append : (xs ys : List (List ℕ)) → Begins ys → but_last (xs ++ ys) ≡ xs ++ but_last ys
but_last-append [] ys h = refl
but_last-append (x ∷ xs) ys h =
    but_last-cons x (xs ++ ys) (Begins-append xs ys h) ∙ ap (λ l. x ∷ l) (but_last-append xs ys h)

pub last_of-append : (xs ys : List (List ℕ)) → Begins ys → last_of (xs ++ ys) ≡ last_of ys
last_of-append [] ys h = refl
last_of-append (x ∷ xs) ys h = last_of-cons x (xs ++ ys) (Begins-append xs ys h) ∙ last_of-append xs ys h

onto-more : (b : ℕ) (parts : List (List ℕ)) (more : List ℕ) → Begins parts → (b == 10) ≡ false
    → onto_first b (but_last parts ++ pieces (last_of parts ++ more))
    ≡ but_last (onto_first b parts) ++ pieces (last_of (onto_first b parts) ++ more)
onto-more b [] more h e = absurd (let bad = h.is in cc)
onto-more b (x ∷ []) more h e = sym (slice_split-cons_no (λ c. c == 10) b (x ++ more) e)
onto-more b (x ∷ y ∷ ys) more h e = refl

-- what comes at the end of a text belongs to its last piece, up to the next line feed
pub pieces-append : (text more : List ℕ)
    → pieces (text ++ more) ≡ but_last (pieces text) ++ pieces (last_of (pieces text) ++ more)
pieces-append [] more = refl
pieces-append (b ∷ text) more =
    let rest = Begins-pieces text in
    let ih = pieces-append text more in
    elim (b == 10) as (λ t. (b == 10) ≡ t → cond t ([] ∷ pieces (text ++ more)) (onto_first b (pieces (text ++ more)))
    ≡ but_last (cond t ([] ∷ pieces text) (onto_first b (pieces text)))
    ++ pieces (last_of (cond t ([] ∷ pieces text) (onto_first b (pieces text))) ++ more)) [
      | true ↦ λ e. ap (λ l. [] ∷ l) ih
          ∙ ap (λ l. l ++ pieces (last_of (pieces text) ++ more)) (sym (but_last-cons [] (pieces text) rest))
          ∙ ap (λ l. but_last ([] ∷ pieces text) ++ pieces (l ++ more)) (sym (last_of-cons [] (pieces text) rest))
      | false ↦ λ e. ap (onto_first b) ih ∙ onto-more b (pieces text) more rest e
    ] refl

onto-unbroken : (b : ℕ) (parts : List (List ℕ)) → Begins parts → (b == 10) ≡ false → HasNoLineFeed (last_of parts)
    → HasNoLineFeed (last_of (onto_first b parts))
onto-unbroken b [] h e all = absurd (let bad = h.is in cc)
onto-unbroken b (x ∷ []) h e all = All-cons (λ c. (c == 10) ≡ false) b x e all
onto-unbroken b (x ∷ y ∷ ys) h e all = all

-- the last piece has no line feed
pub last-unbroken : (text : List ℕ) → HasNoLineFeed (last_of (pieces text))
last-unbroken [] = All-nil (λ c. (c == 10) ≡ false)
last-unbroken (b ∷ text) =
    let rest = Begins-pieces text in
    let ih = last-unbroken text in
    elim (b == 10)
    as (λ t. (b == 10) ≡ t → HasNoLineFeed (last_of (cond t ([] ∷ pieces text) (onto_first b (pieces text))))) [
      | true ↦ λ e. subst (λ (l : List ℕ). HasNoLineFeed l) (sym (last_of-cons [] (pieces text) rest)) ih
      | false ↦ λ e. onto-unbroken b (pieces text) rest e ih
    ] refl

-- a byte that isn't a line feed joins the last piece
pieces-push : (text : List ℕ) (b : ℕ) → (b == 10) ≡ false
    → pieces (text ++ b ∷ []) ≡ but_last (pieces text) ++ (last_of (pieces text) ++ b ∷ []) ∷ []
pieces-push text b e =
    let all = last-unbroken text in
    let last = last_of (pieces text) in
    pieces-append text (b ∷ [])
    ∙ ap (λ l. but_last (pieces text) ++ l)
    (slice_split_none (λ c. c == 10) (last ++ b ∷ [])
    (All-append (λ c. (c == 10) ≡ false) last (b ∷ []) all
    (All-cons (λ c. (c == 10) ≡ false) b [] e (All-nil (λ c. (c == 10) ≡ false)))))

-- a line feed ends the last piece
pieces-feed : (text : List ℕ) (b : ℕ) → (b == 10) ≡ true → pieces (text ++ b ∷ []) ≡ pieces text ++ [] ∷ []
pieces-feed text b e =
    let last = last_of (pieces text) in
    pieces-append text (b ∷ [])
    ∙ ap (λ l. but_last (pieces text) ++ l) (slice_split_at (λ c. c == 10) last b [] (last-unbroken text) e)
    ∙ sym (append_assoc (but_last (pieces text)) (last ∷ []) ([] ∷ []))
    ∙ ap (λ l. l ++ [] ∷ []) (but_last-last_of (pieces text) (Begins-pieces text))

one : (x : List ℕ) → Begins (x ∷ [])
one x = record { first = x; others = []; is = refl }

-- all the lines are the whole ones and the last
pub lines_of-split : (text : List ℕ) → lines_of text ≡ whole_lines text ++ last_line text ∷ []
lines_of-split text = sym (but_last-last_of (lines_of text) (Begins-pieces (filter is_kept text)))

kept_push : (text : List ℕ) (b : ℕ) → is_kept b ≡ true → filter is_kept (text ++ b ∷ []) ≡ filter is_kept text ++ b ∷ []
kept_push text b e =
    filter-append is_kept text (b ∷ []) ∙ ap (λ (t : Bool). filter is_kept text ++ cond t (b ∷ []) []) e

-- the lines after a byte that no line has
pub lines_of-dropped : (text : List ℕ) (b : ℕ) → is_kept b ≡ false → lines_of (text ++ b ∷ []) ≡ lines_of text
lines_of-dropped text b e =
    ap pieces
    (filter-append is_kept text (b ∷ []) ∙ ap (λ (t : Bool). filter is_kept text ++ cond t (b ∷ []) []) e
    ∙ append-nil (filter is_kept text))

-- the lines after a byte of a line
lines_of-push : (text : List ℕ) (b : ℕ) → is_kept b ≡ true → (b == 10) ≡ false
    → lines_of (text ++ b ∷ []) ≡ whole_lines text ++ (last_line text ++ b ∷ []) ∷ []
lines_of-push text b k e = ap pieces (kept_push text b k) ∙ pieces-push (filter is_kept text) b e

pub whole_lines-push : (text : List ℕ) (b : ℕ) → is_kept b ≡ true → (b == 10) ≡ false
    → whole_lines (text ++ b ∷ []) ≡ whole_lines text
whole_lines-push text b k e =
    ap but_last (lines_of-push text b k e) ∙ but_last-append (whole_lines text) _ (one _)
    ∙ append-nil (whole_lines text)

pub last_line-push : (text : List ℕ) (b : ℕ) → is_kept b ≡ true → (b == 10) ≡ false
    → last_line (text ++ b ∷ []) ≡ last_line text ++ b ∷ []
last_line-push text b k e = ap last_of (lines_of-push text b k e) ∙ last_of-append (whole_lines text) _ (one _)

-- the lines after a line feed
lines_of-feed : (text : List ℕ) (b : ℕ) → is_kept b ≡ true → (b == 10) ≡ true
    → lines_of (text ++ b ∷ []) ≡ lines_of text ++ [] ∷ []
lines_of-feed text b k e = ap pieces (kept_push text b k) ∙ pieces-feed (filter is_kept text) b e

pub whole_lines-feed : (text : List ℕ) (b : ℕ) → is_kept b ≡ true → (b == 10) ≡ true
    → whole_lines (text ++ b ∷ []) ≡ whole_lines text ++ last_line text ∷ []
whole_lines-feed text b k e =
    ap but_last (lines_of-feed text b k e) ∙ but_last-append (lines_of text) _ (one []) ∙ append-nil (lines_of text)
    ∙ lines_of-split text

pub last_line-feed : (text : List ℕ) (b : ℕ) → is_kept b ≡ true → (b == 10) ≡ true → last_line (text ++ b ∷ []) ≡ []
last_line-feed text b k e = ap last_of (lines_of-feed text b k e) ∙ last_of-append (lines_of text) _ (one [])

-- whole lines stay, whatever comes
pub record Grows (old new : List (List ℕ)) : Type 0 where
  pub more : List (List ℕ)
  pub is : new ≡ old ++ more

lines_of-append : (text more : List ℕ)
    → lines_of (text ++ more) ≡ whole_lines text ++ pieces (last_line text ++ filter is_kept more)
lines_of-append text more =
    ap pieces (filter-append is_kept text more) ∙ pieces-append (filter is_kept text) (filter is_kept more)

pub Grows-whole_lines : (text more : List ℕ) → Grows (whole_lines text) (whole_lines (text ++ more))
Grows-whole_lines text more = record {
  more = but_last (pieces (last_line text ++ filter is_kept more));
  is =
      ap but_last (lines_of-append text more)
      ∙ but_last-append (whole_lines text) (pieces (last_line text ++ filter is_kept more))
      (Begins-pieces (last_line text ++ filter is_kept more));
}

pub Grows-lines_of : (text more : List ℕ) → Grows (whole_lines text) (lines_of (text ++ more))
Grows-lines_of text more =
    record { more = pieces (last_line text ++ filter is_kept more); is = lines_of-append text more }

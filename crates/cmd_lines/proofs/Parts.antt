-- The pieces of a text are its only parts between line feeds.
use Rattle.std.proofs.Common.{◌≡◌, ◌≢◌, ℕ, suc, true, false, cond, List, [], ◌∷◌, get_or, refl, sym, ap, ◌∙◌, arith}
use Rattle.std.specs.Prelude.{All, ◌==◌}
use Rattle.std.specs.List.{onto_first, join_with_byte}
use Rattle.std.proofs.lemmas.Bool.Decides.{nat_tests}
use Rattle.std.proofs.lemmas.List.Splits.{slice_split_none, slice_split_at, join_with_byte-slice_split}
use Rattle.std.proofs.lemmas.List.Elements.{All-nil, All-cons}
use Rattle.fics_words.specs.Pieces.{pieces}
use Rattle.cmd_lines.specs.Lines.{HasNoLineFeed, AreParts}
use Rattle.fics_words.proofs.Pieces.{Begins, Begins-pieces}

onto-all : (b : ℕ) (parts : List (List ℕ)) → (b == 10) ≡ false → Begins parts → All HasNoLineFeed parts
    → All HasNoLineFeed (onto_first b parts)
onto-all b [] e h all = absurd (let bad = h.is in cc)
onto-all b (x ∷ xs) e h all =
    All-cons HasNoLineFeed (b ∷ x) xs (All-cons (λ c. (c == 10) ≡ false) b x e (all 0 x (omega arith)))
    (λ k d within. all (suc k) d (omega arith))

unbroken_pieces : (text : List ℕ) → All HasNoLineFeed (pieces text)
unbroken_pieces [] = All-cons HasNoLineFeed [] [] (All-nil (λ c. (c == 10) ≡ false)) (All-nil HasNoLineFeed)
unbroken_pieces (b ∷ text) =
    elim (b == 10)
    as (λ t. (b == 10) ≡ t → All HasNoLineFeed (cond t ([] ∷ pieces text) (onto_first b (pieces text)))) [
      | true ↦ λ e. All-cons HasNoLineFeed [] (pieces text) (All-nil (λ c. (c == 10) ≡ false)) (unbroken_pieces text)
      | false ↦ λ e. onto-all b (pieces text) e (Begins-pieces text) (unbroken_pieces text)
    ] refl

other : (c : ℕ) → (c == 10) ≡ false → c ≢ 10
other c e = grind (arith, nat_tests)

not_feed : (c : ℕ) → c ≢ 10 → (c == 10) ≡ false
not_feed c e = grind (arith, nat_tests)

pub AreParts-pieces : (text : List ℕ) → AreParts text (pieces text)
AreParts-pieces text =
    let begins = Begins-pieces text in
    record {
      some = λ none. absurd (let bad : [] ≡ begins.first ∷ begins.others = sym none ∙ begins.is in cc);
      joined = join_with_byte-slice_split 10 text;
      unbroken = λ k d within i e inside.
          other (get_or (get_or (pieces text) k d) i e) (unbroken_pieces text k d within i e inside);
    }

parts_only : (parts : List (List ℕ)) → parts ≢ [] → All (λ part. All (λ b. b ≢ 10) part) parts
    → parts ≡ pieces (join_with_byte 10 parts)
parts_only [] some all = absurd (some refl)
parts_only (x ∷ []) some all =
    sym (slice_split_none (λ b. b == 10) x (λ i e inside. not_feed (get_or x i e) (all 0 x (omega arith) i e inside)))
parts_only (x ∷ y ∷ ys) some all =
    let rest =
    parts_only (y ∷ ys) (λ none. absurd (let bad : y ∷ ys ≡ [] = none in cc))
    (λ k d within. all (suc k) d (omega arith)) in
    ap (λ l. x ∷ l) rest
    ∙ sym
    (slice_split_at (λ b. b == 10) x 10 (join_with_byte 10 (y ∷ ys))
    (λ i e inside. not_feed (get_or x i e) (all 0 x (omega arith) i e inside)) refl)

pub AreParts-only : (text : List ℕ) (parts : List (List ℕ)) → AreParts text parts → parts ≡ pieces text
AreParts-only text parts h = parts_only parts h.some h.unbroken ∙ ap pieces h.joined

use Rattle.std.proofs.Common.{◌≡◌, ℕ, List, ◌++◌, decimal, codes, ap, ◌∙◌, append_assoc}
use Rattle.chess_model.specs.VariantWord.{word_of}
use Rattle.lobby_state.specs.TermsText.{colour_words}
use Rattle.lobby_state.proofs.terms.put_terms.Goals as goal

-- one text more, behind those that were put
put_more : (old put text new more : List ℕ) → text ≡ old ++ put → new ≡ text ++ more → new ≡ old ++ (put ++ more)
put_more old put text new more was is = is ∙ ap (λ (l : List ℕ). l ++ more) was ∙ append_assoc old put more

pub returns : goal.returns
returns c =
    let old : List ℕ = c.args.text.now.items in
    let terms = c.args.terms in
    let minutes = c.in_ok-write_number.ensures.written ∙ ap (λ (n : ℕ). old ++ decimal n) c.from.ensures in
    let blank = put_more old _ _ _ (codes " ") minutes c.in_ok-push.ensures.items in
    let increment =
    put_more old _ _ _ (decimal terms.increment) blank
    (c.in_ok-write_number-2.ensures.written ∙ ap (λ (n : ℕ). c.push.new.self.items ++ decimal n) c.from-2.ensures) in
    let another = put_more old _ _ _ (codes " ") increment c.in_ok-push-2.ensures.items in
    let word = put_more old _ _ _ (word_of terms.variant) another
    (c.in_ok-extend_from_slice.ensures.items
    ∙ ap (λ (l : List ℕ). c.push-2.new.self.items ++ l) (c.bytes.ensures.value ∙ c.variant_word.ensures)) in
    put_more old _ _ _ (colour_words terms.colour) word
    (c.in_ok-extend_from_slice-2.ensures.items
    ∙ ap (λ (l : List ℕ). c.extend_from_slice.new.self.items ++ l) c.colour_words.ensures)

use Rattle.std.proofs.Common.{◌≡◌, ◌<◌, ◌*◌, ◌+◌, ◌++◌, ◌∷◌, [], List, ℕ, length, take, codes, sym, ap, subst, ◌∙◌, append_assoc, arith}
use Rattle.lobby_state.specs.Stored.{names_words}
use Rattle.lobby_state.proofs.Words.{IsPrinted, IsPrinted-one_more, names_words-more}
use Rattle.lobby_state.proofs.acts.stored.put_names.Goals as goal

put_behind : (start words text blank all name : List ℕ) → text ≡ start ++ words → blank ≡ text ++ 32 ∷ []
    → all ≡ blank ++ name
    → all ≡ start ++ (words ++ 32 ∷ name)
put_behind start words text blank all name was more is =
    is ∙ ap (λ l. l ++ name) (more ∙ ap (λ l. l ++ 32 ∷ []) was) ∙ append_assoc (start ++ words) (32 ∷ []) name
    ∙ append_assoc start words (32 ∷ name)

pub loop-name-preserved : goal.loop-name-preserved
loop-name-preserved c =
    let i = c.loop-name.name-index in
    let names = c.args.names.now in
    let name = c.name-item.result in
    let inside : i < length names = c.loop-name-test.true in
    let more : names_words (take (i + 1) names) ≡ names_words (take i names) ++ (codes " " ++ name) =
    names_words-more names i name inside c.name-item.is in
    let h = c.loop-name.invariant in
    let printed : IsPrinted (18 * i) (names_words (take i names)) = record { short = h.short; shows = h.shows } in
    let now =
    subst (IsPrinted (18 * i + 18)) (sym more)
    (IsPrinted-one_more (18 * i) (names_words (take i names)) name printed c.letters.ensures.handle) in
    let short = now.short in
    record {
      words =
          put_behind c.args.text.now.items (names_words (take i names)) c.loop-name.text.items c.push.new.self.items
          c.extend_from_slice.new.self.items name
          h.words c.in_ok-push.ensures.items
          (c.in_ok-extend_from_slice.ensures.items
          ∙ ap (λ (l : List ℕ). c.push.new.self.items ++ l) c.letters.ensures.letters)
          ∙ ap (λ (l : List ℕ). c.args.text.now.items ++ l) (sym more);
      short = omega (arith, short);
      shows = now.shows;
    }

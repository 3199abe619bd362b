-- How a word with a kind and a target is answered, from what was found on the squares.
use Rattle.std.proofs.Common.{arith, ◌≡◌, ◌≢◌, ℕ, ◌+◌, ◌<◌, ◌≤◌, refl, sym, ap, subst, ◌∙◌, inl, inr}
use Rattle.std.proofs.lemmas.Bool.{cases_order}
use Rattle.chess_model.specs.declared.moves.Move.{Move}
use Rattle.chess_model.specs.declared.moves.Rejection.{Rejection}
use Rattle.chess_model.specs.declared.moves.Rejection.TheVariants.{Ambiguous, LeavesKing, CastleForbidden, NoDrops, NotInHand, Occupied, EndRank, NoPiece, CannotReach}
use Rattle.rules_answers.specs.declared.named.NamedWord.{NamedWord}
use Rattle.chess_model.specs.Position.{Position}
use Rattle.chess_model.specs.Allowed.{IsMove, IsSafeAfter, Allowed}
use Rattle.chess_model.specs.Answer.{IsChoice, IsAnswer, HasNoPiece, IsAmbiguous, Applies, place_of, IsRefusal}
use Rattle.rules_answers.specs.NamedWords.{move_word_of, move_from, IsOrigin, IsChoiceFrom, IsExposedFrom}

-- a choice for the word is one from some square
choice_from : (p : Position) (w : NamedWord) (m : Move) → IsChoice p (move_word_of w) m →
    (a : ℕ) × (a < 64) × IsChoiceFrom p w a × (m ≡ move_from p w a)
unfolding IsChoiceFrom
choice_from p w m choice =
    let P : Move → Type 0 = λ x. Allowed p x in
    let from = choice.matches in
    (from.0, from.1.square, (from.1, subst P from.2 choice.allowed), from.2)

choice_of : (p : Position) (w : NamedWord) (a : ℕ) → IsChoiceFrom p w a → IsChoice p (move_word_of w) (move_from p w a)
unfolding IsChoiceFrom
choice_of p w a h = record { matches = (a, h.0, refl); allowed = h.1 }

pub named_accepted : (p : Position) (w : NamedWord) (a n : ℕ) → n ≡ a + 1 → IsChoiceFrom p w a →
    ((k : ℕ) → 0 ≤ k → k < a → ¬ IsChoiceFrom p w k) → ((k : ℕ) → n ≤ k → k < 64 → ¬ IsChoiceFrom p w k) →
    IsAnswer p (move_word_of w) (move_from p w a)
named_accepted p w a n e here below above = record {
  choice = choice_of p w a here;
  only = λ m choice.
      let from = choice_from p w m choice in
      elim (cases_order from.0 a) [
        | inl same ↦ from.3 ∙ ap (move_from p w) same
        | inr other ↦ elim other [
          | inl lt ↦ absurd (below from.0 (omega arith) lt from.2)
          | inr lt ↦ absurd (above from.0 (omega arith) from.1 from.2)
        ]
      ];
}

-- two moves from different squares differ
differ : (p : Position) (w : NamedWord) (a b : ℕ) → a < b → move_from p w a ≢ move_from p w b
differ p w a b lt e = let same : a ≡ b = cc in omega arith

pub named_ambiguous : (p : Position) (w : NamedWord) (a b : ℕ) → a < b → IsChoiceFrom p w a → IsChoiceFrom p w b →
    IsRefusal p (move_word_of w) Ambiguous
named_ambiguous p w a b lt here there = record {
  unanswered = λ m answer.
      differ p w a b lt
      (answer.only (move_from p w a) (choice_of p w a here)
      ∙ sym (answer.only (move_from p w b) (choice_of p w b there)));
  applies = record {
    one = move_from p w a;
    two = move_from p w b;
    one_choice = choice_of p w a here;
    two_choice = choice_of p w b there;
    differ = differ p w a b lt;
  };
  first = λ q none _. absurd (omega arith);
}

-- no refusal before the n-th place applies
named_first : (p : Position) (w : NamedWord) (n : ℕ) → ¬ IsAmbiguous p (move_word_of w) →
    (6 < n → ¬ Applies p (move_word_of w) LeavesKing) → (7 < n → ¬ HasNoPiece p (move_word_of w)) → n ≤ 8 →
    (q : Rejection) → place_of q < n → ¬ Applies p (move_word_of w) q
named_first p w n a g h most Ambiguous lt = a
named_first p w n a g h most CastleForbidden lt = λ x. x
named_first p w n a g h most NoDrops lt = λ x. x
named_first p w n a g h most NotInHand lt = λ x. x
named_first p w n a g h most Occupied lt = λ x. x
named_first p w n a g h most EndRank lt = λ x. x
named_first p w n a g h most LeavesKing lt = g lt
named_first p w n a g h most NoPiece lt = h lt
named_first p w n a g h most CannotReach lt = λ _. absurd (omega arith)

unanswered : (p : Position) (w : NamedWord) → ((k : ℕ) → 0 ≤ k → k < 64 → ¬ IsChoiceFrom p w k) → (m : Move)
    → ¬ IsChoice p (move_word_of w) m
unanswered p w none m choice = let from = choice_from p w m choice in none from.0 (omega arith) from.1 from.2

pub named_leaves_king : (p : Position) (w : NamedWord) (a : ℕ) → ((k : ℕ) → 0 ≤ k → k < 64 → ¬ IsChoiceFrom p w k) →
    IsExposedFrom p w a → IsRefusal p (move_word_of w) LeavesKing
unfolding IsExposedFrom
named_leaves_king p w a none exposed = record {
  unanswered = λ m answer. unanswered p w none m answer.choice;
  applies = (move_from p w a, record { matches = (a, exposed.0, refl); move = exposed.1; unsafe_after = exposed.2 });
  first =
      named_first p w 6 (λ two. unanswered p w none two.one two.one_choice) (λ lt. absurd (omega arith))
      (λ lt. absurd (omega arith)) (omega arith);
}

pub named_out_of_reach : (p : Position) (w : NamedWord) (a : ℕ) → ((k : ℕ) → 0 ≤ k → k < 64 → ¬ IsChoiceFrom p w k) →
    ((k : ℕ) → k < 64 → ¬ IsExposedFrom p w k) → IsOrigin p w a → IsRefusal p (move_word_of w) CannotReach
unfolding IsExposedFrom
named_out_of_reach p w a none no_exposed origin = record {
  unanswered = λ m answer. unanswered p w none m answer.choice;
  applies = tt;
  first = named_first p w 8 (λ two. unanswered p w none two.one two.one_choice)
      (λ _ leaves.
      let from = leaves.1.matches in
      let M : Move → Type 0 = λ x. IsMove p x in
      let S : Move → Type 0 = λ x. ¬ IsSafeAfter p x in
      no_exposed from.0 from.1.square (from.1, subst M from.2 leaves.1.move, subst S from.2 leaves.1.unsafe_after))
      (λ _ nobody. nobody a origin) (omega arith);
}

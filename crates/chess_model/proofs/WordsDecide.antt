-- The answer to a word that computes is the answer of the relations.
use Rattle.std.proofs.Common.{arith, ◌≡◌, ◌≢◌, ℕ, ◌<◌, ◌⊎◌, inl, inr, List, [], ◌∷◌, map, length, Bool, true, false, ◌&&◌, not, cond, is_none, is_some, nat_eq, nat_lt, IsSome, Option, Some, None, Result, Ok, Err, refl, sym, ap, subst, ◌∙◌}
use Rattle.std.specs.Prelude.{MatchResult, IfOk, IfErr}
use Rattle.std.specs.Bool.{Decides}
use Rattle.std.specs.List.{list_all, list_any, filter}
use Rattle.std.proofs.lemmas.Bool.{and_parts, false_from_ne_true, cond-true, cond-false}
use Rattle.std.proofs.lemmas.Bool.Decides.{Decides-eqb, Decides-ltb, Decides-and, Decides-not, Decides-like, not_from_Decides}
use Rattle.chess_model.specs.declared.man.Kind.{Kind}
use Rattle.chess_model.specs.declared.moves.Move.{Move}
use Rattle.chess_model.specs.declared.moves.Move.TheVariants as move
use Rattle.chess_model.specs.declared.moves.MoveWord.{MoveWord}
use Rattle.chess_model.specs.declared.moves.MoveWord.TheVariants as word
use Rattle.chess_model.specs.declared.moves.Rejection.{Rejection}
use Rattle.chess_model.specs.declared.moves.Rejection.TheVariants.{Ambiguous, LeavesKing, CastleForbidden, NoDrops, NotInHand, Occupied, EndRank, NoPiece, CannotReach}
use Rattle.chess_model.specs.Squares.{file_of, rank_of}
use Rattle.chess_model.specs.Men.{is_held_by, is_held_as}
use Rattle.chess_model.specs.Placement.{man_at, IsHeldAs}
use Rattle.chess_model.specs.Holdings.{count_in}
use Rattle.chess_model.specs.Position.{Position, hand_of_side}
use Rattle.chess_model.specs.Allowed.{HasDrops, MayDropOn, IsMove, IsSafeAfter}
use Rattle.chess_model.specs.Tests as test
use Rattle.chess_model.specs.Answer.{promotion_of, castling_of, IsAsGiven, IsNamed, Matches, IsChoice, IsAnswer, IsCastlingWord, IsDropWith, HasNoPiece, IsAmbiguous, LeavesKingBy, Applies, place_of, IsRefusal}
use Rattle.chess_model.specs.WordAnswer.{is_as_given, is_named, named_squares, matches, choices, leaves_king, is_castling_word, is_drop_with, has_no_piece, applies, refusals, first_refusal, refusal, only_one, word_answer}
use Rattle.chess_model.proofs.Among.{Among, list_all-each, list_any-some, list_any-from, Among-filter, Among-filtered, Among-map, Among-mapped, Among-range, Among-ranged, Apart, Apart-range, Apart-filter, Apart-map, single, Two, Decides-two}
use Rattle.chess_model.proofs.TestsDecide.{never, always, Decides-none, Decides-held_by, Decides-held_as, Decides-three, Decides-has_drops, Decides-may_drop_on, Decides-move, Decides-safe_after, Decides-allowed}

Decides-as_given : (given : Option ℕ) (n : ℕ) → Decides (is_as_given given n) (IsAsGiven given n)
Decides-as_given None n = always tt
Decides-as_given (Some g) n = Decides-eqb n g

-- the man, the file and the rank of a named man
abbrev IsMeant : Position → Kind → Option ℕ → Option ℕ → ℕ → Type 0
IsMeant p k file rank a =
    IsHeldAs p.to_move k (man_at p.men a) × IsAsGiven file (file_of a) × IsAsGiven rank (rank_of a)

Decides-meant : (p : Position) (k : Kind) (file rank : Option ℕ) (a : ℕ)
    → Decides (is_named p k file rank a) (IsMeant p k file rank a)
Decides-meant p k file rank a =
    Decides-three (is_held_as p.to_move k (man_at p.men a)) (is_as_given file (file_of a))
    (is_as_given rank (rank_of a))
    (Decides-held_as p.to_move k (man_at p.men a)) (Decides-as_given file (file_of a))
    (Decides-as_given rank (rank_of a))

named_among : (p : Position) (k : Kind) (file rank : Option ℕ) (a : ℕ) → IsNamed p k file rank a
    → Among a (named_squares p k file rank)
named_among p k file rank a h =
    Among-filter (is_named p k file rank) test.squares a (Among-range 0 64 a (omega arith) (omega (arith, h.square)))
    ((Decides-meant p k file rank a).1 (h.man, h.on_file, h.on_rank))

among_named : (p : Position) (k : Kind) (file rank : Option ℕ) (a : ℕ) → Among a (named_squares p k file rank)
    → IsNamed p k file rank a
among_named p k file rank a h =
    let t = Among-filtered (is_named p k file rank) test.squares a h in
    let within = Among-ranged 0 64 a t.0 in
    let meant = (Decides-meant p k file rank a).0 t.1 in
    record { square = omega (arith, within.1); man = meant.0; on_file = meant.1; on_rank = meant.2 }

-- the list of matches has the moves that match
Among-matches : (p : Position) (w : MoveWord) (m : Move) → Matches p w m → Among m (matches p w)
unfolding matches
Among-matches p (word.Coordinate a b letter) m h = inl h
Among-matches p (word.Named k file rank b letter) m h =
    let to : ℕ → Move = λ a. move.Plain a b (promotion_of p a b letter) in
    let among : Among (to h.0) (map to (named_squares p k file rank)) =
    Among-map to (named_squares p k file rank) h.0 (named_among p k file rank h.0 h.1) in
    subst (λ x. Among x (map to (named_squares p k file rank))) (sym h.2) among
Among-matches p (word.Castle long) m h = inl h
Among-matches p (word.Drop k to) m h = inl h

alone : {A : Type 0} {x y : A} → (x ≡ y) ⊎ ⊥ → x ≡ y
alone (inl e) = e
alone (inr e) = absurd e

matches-among : (p : Position) (w : MoveWord) (m : Move) → Among m (matches p w) → Matches p w m
unfolding matches
matches-among p (word.Coordinate a b letter) m h = alone h
matches-among p (word.Named k file rank b letter) m h =
    let to : ℕ → Move = λ a. move.Plain a b (promotion_of p a b letter) in
    let t = Among-mapped to (named_squares p k file rank) m h in
    (t.0, among_named p k file rank t.0 t.1, t.2)
matches-among p (word.Castle long) m h = alone h
matches-among p (word.Drop k to) m h = alone h

Apart-matches : (p : Position) (w : MoveWord) → Apart (matches p w)
unfolding matches
Apart-matches p (word.Coordinate a b letter) = (λ e. e, tt)
Apart-matches p (word.Named k file rank b letter) =
    Apart-map (λ a. move.Plain a b (promotion_of p a b letter)) (λ x y e. cc) (named_squares p k file rank)
    (Apart-filter (is_named p k file rank) test.squares (Apart-range 0 64))
Apart-matches p (word.Castle long) = (λ e. e, tt)
Apart-matches p (word.Drop k to) = (λ e. e, tt)

-- the list of choices has the allowed matches
Among-choices : (p : Position) (w : MoveWord) (m : Move) → IsChoice p w m → Among m (choices p w)
Among-choices p w m h =
    Among-filter (test.is_allowed p) (matches p w) m (Among-matches p w m h.matches) ((Decides-allowed p m).1 h.allowed)

choices-among : (p : Position) (w : MoveWord) (m : Move) → Among m (choices p w) → IsChoice p w m
choices-among p w m h =
    let t = Among-filtered (test.is_allowed p) (matches p w) m h in
    record { matches = matches-among p w m t.0; allowed = (Decides-allowed p m).0 t.1 }

Apart-choices : (p : Position) (w : MoveWord) → Apart (choices p w)
Apart-choices p w = Apart-filter (test.is_allowed p) (matches p w) (Apart-matches p w)

Decides-ambiguous : (p : Position) (w : MoveWord) → Decides (nat_lt 1 (length (choices p w))) (IsAmbiguous p w)
Decides-ambiguous p w =
    Decides-like {P = Two (choices p w)} (nat_lt 1 (length (choices p w)))
    (λ t. record {
      one = t.one;
      two = t.two;
      one_choice = choices-among p w t.one t.one_among;
      two_choice = choices-among p w t.two t.two_among;
      differ = t.differ;
    })
    (λ h. record {
      one = h.one;
      two = h.two;
      one_among = Among-choices p w h.one h.one_choice;
      two_among = Among-choices p w h.two h.two_choice;
      differ = h.differ;
    })
    (Decides-two (choices p w) (Apart-choices p w))

Decides-exposed : (p : Position) (w : MoveWord)
    → Decides (list_any (leaves_king p) (matches p w)) ((m : Move) × LeavesKingBy p w m)
Decides-exposed p w =
    let bare : (m : Move) → Decides (leaves_king p m) (IsMove p m × (¬ IsSafeAfter p m)) =
    λ m. Decides-and (test.is_move p m) (not (test.is_safe_after p m)) (Decides-move p m)
    (Decides-not (test.is_safe_after p m) (Decides-safe_after p m)) in (
      λ e. let t = list_any-some (leaves_king p) (matches p w) e in
          let h = (bare t.0).0 t.2 in
          (t.0, record { matches = matches-among p w t.0 t.1; move = h.0; unsafe_after = h.1 }),
      λ t. list_any-from (leaves_king p) (matches p w) t.0 (Among-matches p w t.0 t.1.matches)
          ((bare t.0).1 (t.1.move, t.1.unsafe_after)),
    )

Decides-some : {A : Type 0} (o : Option A) → Decides (is_some o) (IsSome o)
Decides-some None = (λ e. e, λ e. e)
Decides-some (Some x) = (λ e. e, λ e. e)

Decides-castling_word : (p : Position) (w : MoveWord) → Decides (is_castling_word p w) (IsCastlingWord p w)
Decides-castling_word p (word.Coordinate a b letter) = Decides-some (castling_of p a b)
Decides-castling_word p (word.Named k file rank b letter) = never (λ e. e)
Decides-castling_word p (word.Castle long) = always tt
Decides-castling_word p (word.Drop k to) = never (λ e. e)

Decides-drop_with : (f : Kind → ℕ → Bool) (P : Kind → ℕ → Type 0) → ((k : Kind) (to : ℕ) → Decides (f k to) (P k to)) →
    (w : MoveWord) → Decides (is_drop_with f w) (IsDropWith P w)
Decides-drop_with f P each (word.Coordinate a b letter) = never (λ e. e)
Decides-drop_with f P each (word.Named k file rank b letter) = never (λ e. e)
Decides-drop_with f P each (word.Castle long) = never (λ e. e)
Decides-drop_with f P each (word.Drop k to) = each k to

Decides-any_named : (p : Position) (k : Kind) (file rank : Option ℕ) →
    Decides (list_any (is_named p k file rank) test.squares) ((a : ℕ) × IsNamed p k file rank a)
Decides-any_named p k file rank = (
  λ e. let t = list_any-some (is_named p k file rank) test.squares e in
      (t.0, among_named p k file rank t.0 (Among-filter (is_named p k file rank) test.squares t.0 t.1 t.2)),
  λ t. let a = Among-filtered (is_named p k file rank) test.squares t.0 (named_among p k file rank t.0 t.1) in
      list_any-from (is_named p k file rank) test.squares t.0 a.0 a.1,
)

Decides-no_piece : (p : Position) (w : MoveWord) → Decides (has_no_piece p w) (HasNoPiece p w)
Decides-no_piece p (word.Coordinate a b letter) =
    Decides-not (is_held_by p.to_move (man_at p.men a)) (Decides-held_by p.to_move (man_at p.men a))
Decides-no_piece p (word.Named k file rank b letter) =
    let any : Bool = list_any (is_named p k file rank) test.squares in
    Decides-like {P = ¬ ((a : ℕ) × IsNamed p k file rank a)} (not any) (λ f a h. f (a, h)) (λ f t. f t.0 t.1)
    (Decides-not any (Decides-any_named p k file rank))
Decides-no_piece p (word.Castle long) = never (λ e. e)
Decides-no_piece p (word.Drop k to) = never (λ e. e)

pub Decides-applies : (p : Position) (w : MoveWord) (r : Rejection) → Decides (applies p w r) (Applies p w r)
unfolding applies
Decides-applies p w Ambiguous = Decides-ambiguous p w
Decides-applies p w CastleForbidden = Decides-castling_word p w
Decides-applies p w NoDrops =
    Decides-drop_with (λ k to. not (test.has_drops p.variant)) (λ k to. ¬ HasDrops p.variant)
    (λ k to. Decides-not (test.has_drops p.variant) (Decides-has_drops p.variant)) w
Decides-applies p w NotInHand =
    Decides-drop_with (λ k to. nat_eq (count_in (hand_of_side p p.to_move) k) 0)
    (λ k to. count_in (hand_of_side p p.to_move) k ≡ 0)
    (λ k to. Decides-eqb (count_in (hand_of_side p p.to_move) k) 0) w
Decides-applies p w Occupied =
    Decides-drop_with (λ k to. not (is_none (man_at p.men to))) (λ k to. man_at p.men to ≢ None)
    (λ k to. Decides-not (is_none (man_at p.men to)) (Decides-none (man_at p.men to))) w
Decides-applies p w EndRank =
    Decides-drop_with (λ k to. not (test.may_drop_on k to)) (λ k to. ¬ MayDropOn k to)
    (λ k to. Decides-not (test.may_drop_on k to) (Decides-may_drop_on k to)) w
Decides-applies p w LeavesKing = Decides-exposed p w
Decides-applies p w NoPiece = Decides-no_piece p w
Decides-applies p w CannotReach = always tt

-- the refusals stand in the order of their places
is_in_order : List Rejection → Bool
is_in_order [] = true
is_in_order (x ∷ xs) = list_all (λ y. nat_lt (place_of x) (place_of y)) xs && is_in_order xs

refusals-in_order : is_in_order refusals ≡ true
unfolding is_in_order
refusals-in_order = refl

Among-refusals : (r : Rejection) → Among r refusals
Among-refusals Ambiguous = inl refl
Among-refusals CastleForbidden = inr (inl refl)
Among-refusals NoDrops = inr (inr (inl refl))
Among-refusals NotInHand = inr (inr (inr (inl refl)))
Among-refusals Occupied = inr (inr (inr (inr (inl refl))))
Among-refusals EndRank = inr (inr (inr (inr (inr (inl refl)))))
Among-refusals LeavesKing = inr (inr (inr (inr (inr (inr (inl refl))))))
Among-refusals NoPiece = inr (inr (inr (inr (inr (inr (inr (inl refl)))))))
Among-refusals CannotReach = inr (inr (inr (inr (inr (inr (inr (inr (inl refl))))))))

later : (x y : Rejection) (xs : List Rejection) → is_in_order (x ∷ xs) ≡ true → Among y xs → place_of x < place_of y
unfolding is_in_order
later x y xs h a =
    (Decides-ltb (place_of x) (place_of y)).0
    (list_all-each (λ z. nat_lt (place_of x) (place_of z)) xs
    (and_parts (list_all (λ z. nat_lt (place_of x) (place_of z)) xs) (is_in_order xs) h).0 y a)

rest_in_order : (x : Rejection) (xs : List Rejection) → is_in_order (x ∷ xs) ≡ true → is_in_order xs ≡ true
unfolding is_in_order
rest_in_order x xs h = (and_parts (list_all (λ z. nat_lt (place_of x) (place_of z)) xs) (is_in_order xs) h).1

-- the first refusal of which f is true
pub record IsFirst (f : Rejection → Bool) (r : Rejection) : Type 0 where
  pub holds : f r ≡ true
  pub first : (q : Rejection) → place_of q < place_of r → f q ≡ false

first_found : (f : Rejection → Bool) (r : Rejection) (xs : List Rejection) → is_in_order xs ≡ true → Among r xs
    → IsFirst f r →
    first_refusal (filter f xs) ≡ r
first_found f r [] order a h = absurd a
first_found f r (x ∷ xs) order (inl same) h =
    ap first_refusal (cond-true (f x) (x ∷ filter f xs) (filter f xs) (sym (ap f same) ∙ h.holds)) ∙ sym same
first_found f r (x ∷ xs) order (inr after) h =
    ap first_refusal (cond-false (f x) (x ∷ filter f xs) (filter f xs) (h.first x (later x r xs order after))) ∙
    first_found f r xs (rest_in_order x xs order) after h

-- of some refusals
record IsFirstOf (f : Rejection → Bool) (xs : List Rejection) (r : Rejection) : Type 0 where
  among : Among r xs
  holds : f r ≡ true
  first : (q : Rejection) → Among q xs → place_of q < place_of r → f q ≡ false

first_step : (f : Rejection → Bool) (x : Rejection) (xs : List Rejection) (b : Bool) → f x ≡ b
    → is_in_order (x ∷ xs) ≡ true →
    (b ≡ false → IsFirstOf f xs (first_refusal (filter f xs)))
    → IsFirstOf f (x ∷ xs) (first_refusal (cond b (x ∷ filter f xs) (filter f xs)))
first_step f x xs true e order rest = record {
  among = inl refl;
  holds = e;
  first = λ q a less. elim a [
    | inl same ↦ absurd (let place : place_of q ≡ place_of x = ap place_of same in omega arith)
    | inr after ↦ absurd (let more = later x q xs order after in omega arith)
  ];
}
first_step f x xs false e order rest =
    let t = rest refl in
    record {
      among = inr t.among;
      holds = t.holds;
      first = λ q a less. elim a [ inl same ↦ ap f same ∙ e | inr after ↦ t.first q after less ];
    }

first_of : (f : Rejection → Bool) (xs : List Rejection) → is_in_order xs ≡ true → Among CannotReach xs
    → f CannotReach ≡ true →
    IsFirstOf f xs (first_refusal (filter f xs))
first_of f [] order a h = absurd a
first_of f (x ∷ xs) order a h =
    first_step f x xs (f x) refl order (λ e. elim a [
      | inl same ↦ absurd (let t : f x ≡ true = sym (ap f same) ∙ h in let n : true ≡ false = sym t ∙ e in cc)
      | inr after ↦ first_of f xs (rest_in_order x xs order) after h
    ])

-- the refusal of the relations is the first that the tests find
refusal-is : (p : Position) (w : MoveWord) (r : Rejection) → IsRefusal p w r → refusal p w ≡ r
refusal-is p w r h =
    first_found (applies p w) r refusals refusals-in_order (Among-refusals r) (record {
      holds = (Decides-applies p w r).1 h.applies;
      first = λ q less. false_from_ne_true (applies p w q) (λ e. h.first q less ((Decides-applies p w q).0 e));
    })

refusal-holds : (p : Position) (w : MoveWord) → ((m : Move) → ¬ IsAnswer p w m) → IsRefusal p w (refusal p w)
unfolding applies
refusal-holds p w none =
    let t = first_of (applies p w) refusals refusals-in_order (Among-refusals CannotReach) refl in
    record {
      unanswered = none;
      applies = (Decides-applies p w (refusal p w)).0 t.holds;
      first = λ q less. not_from_Decides (applies p w q) (Decides-applies p w q) (t.first q (Among-refusals q) less);
    }

-- the answer to a word
one_choice : (p : Position) (w : MoveWord) (m : Move) → IsAnswer p w m → choices p w ≡ m ∷ []
one_choice p w m h =
    single (choices p w) m (Apart-choices p w) (Among-choices p w m h.choice) (λ x a. h.only x (choices-among p w x a))

the_answer : (p : Position) (w : MoveWord) (m : Move) → choices p w ≡ m ∷ [] → IsAnswer p w m
the_answer p w m e = record {
  choice = choices-among p w m (subst (λ xs. Among m xs) (sym e) (inl refl));
  only = λ n c. alone (subst (λ xs. Among n xs) e (Among-choices p w n c));
}

only_one-err : (xs : List Move) (r : Rejection) → ((m : Move) → xs ≡ m ∷ [] → ⊥) → only_one xs r ≡ Err r
only_one-err [] r none = refl
only_one-err (m ∷ []) r none = absurd (none m refl)
only_one-err (m ∷ n ∷ ms) r none = refl

pub word_answer-is : (p : Position) (w : MoveWord) (r : Result Move Rejection)
    → MatchResult r (IsAnswer p w) (IsRefusal p w) →
    r ≡ word_answer p w
unfolding word_answer
word_answer-is p w (Ok m) h = sym (ap (λ xs. only_one xs (refusal p w)) (one_choice p w m h))
word_answer-is p w (Err r) h =
    ap Err (sym (refusal-is p w r h))
    ∙ sym (only_one-err (choices p w) (refusal p w) (λ m e. h.unanswered m (the_answer p w m e)))

answer_among : (p : Position) (w : MoveWord) (xs : List Move) → choices p w ≡ xs →
    MatchResult (only_one xs (refusal p w)) (IsAnswer p w) (IsRefusal p w)
answer_among p w [] e = refusal-holds p w (λ m h. let f = one_choice p w m h in cc)
answer_among p w (m ∷ []) e = the_answer p w m e
answer_among p w (m ∷ n ∷ ms) e = refusal-holds p w (λ x h. let f = one_choice p w x h in cc)

pub word_answer-holds : (p : Position) (w : MoveWord) → MatchResult (word_answer p w) (IsAnswer p w) (IsRefusal p w)
unfolding word_answer
word_answer-holds p w = answer_among p w (choices p w) refl

pub word_answer-from : (p : Position) (w : MoveWord) (r : Result Move Rejection) → IfOk r (IsAnswer p w)
    → IfErr r (IsRefusal p w) →
    r ≡ word_answer p w
word_answer-from p w (Ok m) answered refused = word_answer-is p w (Ok m) answered
word_answer-from p w (Err r) answered refused = word_answer-is p w (Err r) refused

-- A word that some move matches and that has an answer is answered by that move.
use Rattle.std.proofs.Common.{arith, ◌≡◌, ℕ, ◌<◌, inl, inr, Bool, true, false, ◌&&◌, cond, is_ok, nat_eq, Option, Some, None, Result, Ok, Err, refl, sym, ap, ◌∙◌}
use Rattle.std.specs.Prelude.{MatchResult, unwrap_or}
use Rattle.std.proofs.lemmas.Bool.{ne_eqb, eq-eqb, false_from_ne_true}
use Rattle.chess_model.specs.declared.man.Kind.{Kind}
use Rattle.chess_model.specs.declared.man.Kind.TheVariants.{Pawn, Knight, Bishop, Rook, Queen, King}
use Rattle.chess_model.specs.declared.man.Man.{Man}
use Rattle.chess_model.specs.declared.moves.Move.{Move}
use Rattle.chess_model.specs.declared.moves.Move.TheVariants as move
use Rattle.chess_model.specs.declared.moves.MoveWord.{MoveWord}
use Rattle.chess_model.specs.declared.moves.MoveWord.TheVariants as word
use Rattle.chess_model.specs.declared.moves.Rejection.{Rejection}
use Rattle.chess_model.specs.declared.states.State.{State}
use Rattle.chess_model.specs.Squares.{file_of, rank_of}
use Rattle.chess_model.specs.Men.{is_held_as}
use Rattle.chess_model.specs.Placement.{man_at, last_rank, IsHeldAs}
use Rattle.chess_model.specs.Position.{Position}
use Rattle.chess_model.specs.Allowed.{HasPromotion, Allowed}
use Rattle.chess_model.specs.Answer.{promotion_of, IsAsGiven, IsNamed, IsChoice, IsAnswer, IsRefusal}
use Rattle.chess_model.specs.WordAnswer.{word_answer}
use Rattle.chess_model.proofs.TestsDecide.{Decides-held_as}
use Rattle.chess_model.proofs.WordsDecide.{word_answer-is, word_answer-holds}
use Rattle.variant_rules.specs.Showing.{marks_by, is_clear_word, piece_marks}
use Rattle.rules_reading.specs.ReadsBack.{IsReadAs}
use Rattle.rules_reading.proofs.Spelled.{given, IsPiece, piece_text, piece_read, MayBecome}

pub answer_is : (p : Position) (w : MoveWord) (m : Move) → IsAnswer p w m → word_answer p w ≡ Ok m
answer_is p w m h = sym (word_answer-is p w (Ok m) h)

answer_by : (p : Position) (w : MoveWord) (m : Move) (r : Result Move Rejection)
    → MatchResult r (IsAnswer p w) (IsRefusal p w) → is_ok r ≡ true →
    IsChoice p w m → r ≡ Ok m
answer_by p w m (Ok x) h ok choice = ap Ok (sym (h.only m choice))
answer_by p w m (Err x) h ok choice = absurd (let f : false ≡ true = ok in cc)

pub clear_answer : (p : Position) (w : MoveWord) (m : Move) → is_ok (word_answer p w) ≡ true → IsChoice p w m
    → word_answer p w ≡ Ok m
clear_answer p w m ok choice = answer_by p w m (word_answer p w) (word_answer-holds p w) ok choice

-- promotions

pub cond-both : {A : Type 0} (x y : Bool) (t e : A) → x ≡ true → y ≡ true → cond (x && y) t e ≡ t
cond-both true true t e h g = refl
cond-both true false t e h g = cc
cond-both false y t e h g = cc

pub cond-second : {A : Type 0} (x y : Bool) (t e : A) → y ≡ false → cond (x && y) t e ≡ e
cond-second true true t e h = cc
cond-second true false t e h = refl
cond-second false y t e h = refl

no_pawn_for : {A : Type 0} (x y : Bool) (t e : A) → x ≡ false → cond (x && y) t e ≡ e
no_pawn_for true y t e h = cc
no_pawn_for false y t e h = refl

-- the promotion of a pawn's move is the one that its word names
pub pawn_promotion : (p : Position) (a b : ℕ) (promo : Option Kind) → IsHeldAs p.to_move Pawn (man_at p.men a)
    → HasPromotion p.to_move Pawn b promo →
    (MayBecome promo) × (promotion_of p a b promo ≡ promo)
pawn_promotion p a b None held (inl last) = absurd last.1
pawn_promotion p a b (Some k) held (inl last) = (
  inr last.1,
  cond-both (is_held_as p.to_move Pawn (man_at p.men a)) (nat_eq (rank_of b) (last_rank p.to_move)) (Some k) None
      ((Decides-held_as p.to_move Pawn (man_at p.men a)).1 held) (eq-eqb (rank_of b) (last_rank p.to_move) last.0),
)
pawn_promotion p a b promo held (inr other) = (
  inl other.1,
  cond-second (is_held_as p.to_move Pawn (man_at p.men a)) (nat_eq (rank_of b) (last_rank p.to_move))
      (Some (unwrap_or promo Queen)) None
      (ne_eqb (rank_of b) (last_rank p.to_move) other.0) ∙ sym other.1,
)

held_kind : (p : Position) (a : ℕ) (k j : Kind) → IsHeldAs p.to_move k (man_at p.men a)
    → IsHeldAs p.to_move j (man_at p.men a) → k ≡ j
held_kind p a k j h g = same (man_at p.men a) h g
  where
    same : (o : Option Man) → IsHeldAs p.to_move k o → IsHeldAs p.to_move j o → k ≡ j
    same None h g = absurd h
    same (Some m) h g = sym h.1 ∙ g.1

piece_no_pawn : (k : Kind) → IsPiece k → k ≡ Pawn → ⊥
piece_no_pawn Pawn h e = h
piece_no_pawn Knight h e = cc
piece_no_pawn Bishop h e = cc
piece_no_pawn Rook h e = cc
piece_no_pawn Queen h e = cc
piece_no_pawn King h e = cc

-- no piece is promoted
piece_promotion : (p : Position) (k : Kind) (a b : ℕ) → IsPiece k → IsHeldAs p.to_move k (man_at p.men a)
    → promotion_of p a b None ≡ None
piece_promotion p k a b piece held =
    no_pawn_for (is_held_as p.to_move Pawn (man_at p.men a)) (nat_eq (rank_of b) (last_rank p.to_move))
    (Some (unwrap_or None Queen)) None
    (false_from_ne_true (is_held_as p.to_move Pawn (man_at p.men a))
    (λ e. piece_no_pawn k piece (held_kind p a k Pawn held ((Decides-held_as p.to_move Pawn (man_at p.men a)).0 e))))

-- the word of a piece's move
abbrev pub piece_word : Kind → Option ℕ → Option ℕ → ℕ → MoveWord
piece_word k file rank b = word.Named k file rank b None

as_given : (marked : Bool) (n : ℕ) → IsAsGiven (given marked n) n
as_given true n = refl
as_given false n = tt

-- a piece's move is a choice of each word that names its kind and its target, and of its file and rank what it likes
piece_choice : (p : Position) (k : Kind) (a b : ℕ) (by_file by_rank : Bool) → IsPiece k → a < 64
    → IsHeldAs p.to_move k (man_at p.men a) →
    Allowed p (move.Plain a b None) →
    IsChoice p (piece_word k (given by_file (file_of a)) (given by_rank (rank_of a)) b) (move.Plain a b None)
piece_choice p k a b by_file by_rank piece ha held h = record {
  matches = (
    a,
    record { square = ha; man = held; on_file = as_given by_file (file_of a); on_rank = as_given by_rank (rank_of a) },
    ap (λ (x : Option Kind). move.Plain a b x) (sym (piece_promotion p k a b piece held)),
  );
  allowed = h;
}

same_square : (a x : ℕ) → file_of x ≡ file_of a → rank_of x ≡ rank_of a → x ≡ a
same_square a x f r = omega (arith, f, r)

-- file and rank leave one move
located : (p : Position) (k : Kind) (a b : ℕ) → IsPiece k → a < 64 → IsHeldAs p.to_move k (man_at p.men a)
    → Allowed p (move.Plain a b None) →
    word_answer p (piece_word k (Some (file_of a)) (Some (rank_of a)) b) ≡ Ok (move.Plain a b None)
located p k a b piece ha held h =
    let w : MoveWord = piece_word k (Some (file_of a)) (Some (rank_of a)) b in
    answer_is p w (move.Plain a b None) (record {
      choice = piece_choice p k a b true true piece ha held h;
      only = λ n c.
          let from : ℕ = c.matches.0 in
          let named : IsNamed p k (Some (file_of a)) (Some (rank_of a)) from = c.matches.1 in
          let at : from ≡ a = same_square a from named.on_file named.on_rank in
          c.matches.2 ∙ ap (λ (x : ℕ). move.Plain x b (promotion_of p x b None)) at
          ∙ ap (λ (x : Option Kind). move.Plain a b x) (piece_promotion p k a b piece held);
    })

-- the text with some marks, where the word that they make has the move as its answer
marked : (p : Position) (k : Kind) (a b : ℕ) (by_file by_rank takes : Bool) (s : State) → IsPiece k → a < 64 → b < 64 →
    word_answer p (piece_word k (given by_file (file_of a)) (given by_rank (rank_of a)) b) ≡ Ok (move.Plain a b None) →
    IsReadAs p (piece_text k a b by_file by_rank takes s) (move.Plain a b None)
marked p k a b by_file by_rank takes s piece ha hb answered = record {
  word = piece_word k (given by_file (file_of a)) (given by_rank (rank_of a)) b;
  read = piece_read k a b by_file by_rank takes s piece ha hb;
  answered = answered;
}

by_marks : (p : Position) (k : Kind) (a b : ℕ) (takes : Bool) (s : State) (one file rank : Bool) → IsPiece k → a < 64
    → b < 64 →
    (one ≡ true → word_answer p (piece_word k None None b) ≡ Ok (move.Plain a b None)) →
    (file ≡ true → word_answer p (piece_word k (Some (file_of a)) None b) ≡ Ok (move.Plain a b None)) →
    (rank ≡ true → word_answer p (piece_word k None (Some (rank_of a)) b) ≡ Ok (move.Plain a b None)) →
    word_answer p (piece_word k (Some (file_of a)) (Some (rank_of a)) b) ≡ Ok (move.Plain a b None) →
    IsReadAs p (piece_text k a b (marks_by one file rank).by_file (marks_by one file rank).by_rank takes s)
    (move.Plain a b None)
by_marks p k a b takes s true file rank piece ha hb h f r both = marked p k a b false false takes s piece ha hb (h refl)
by_marks p k a b takes s false true rank piece ha hb h f r both = marked p k a b true false takes s piece ha hb (f refl)
by_marks p k a b takes s false false true piece ha hb h f r both =
    marked p k a b false true takes s piece ha hb (r refl)
by_marks p k a b takes s false false false piece ha hb h f r both = marked p k a b true true takes s piece ha hb both

-- the text of a piece's move with the marks that are shown
pub piece_read_back : (p : Position) (k : Kind) (a b : ℕ) (takes : Bool) (s : State) → IsPiece k → a < 64 → b < 64
    → IsHeldAs p.to_move k (man_at p.men a) →
    Allowed p (move.Plain a b None) →
    IsReadAs p (piece_text k a b (piece_marks p k a b).by_file (piece_marks p k a b).by_rank takes s)
    (move.Plain a b None)
piece_read_back p k a b takes s piece ha hb held h =
    let m : Move = move.Plain a b None in
    by_marks p k a b takes s (is_clear_word p k None None b) (is_clear_word p k (Some (file_of a)) None b)
    (is_clear_word p k None (Some (rank_of a)) b)
    piece ha hb
    (λ e. clear_answer p (piece_word k None None b) m e (piece_choice p k a b false false piece ha held h))
    (λ e. clear_answer p (piece_word k (Some (file_of a)) None b) m e (piece_choice p k a b true false piece ha held h))
    (λ e. clear_answer p (piece_word k None (Some (rank_of a)) b) m e (piece_choice p k a b false true piece ha held h))
    (located p k a b piece ha held h)

-- The pretty text of an allowed move in a sound position is read as that move.
use Rattle.std.proofs.Common.{◌≡◌, ℕ, ◌<◌, Bool, true, false, is_some, List, Option, Some, None, Ok, refl, sym, ap, subst, ◌∙◌}
use Rattle.chess_model.specs.declared.man.Kind.{Kind}
use Rattle.chess_model.specs.declared.man.Kind.TheVariants.{Pawn, Knight, Bishop, Rook, Queen, King}
use Rattle.chess_model.specs.declared.man.Man.{Man}
use Rattle.chess_model.specs.declared.moves.Move.{Move}
use Rattle.chess_model.specs.declared.moves.Move.TheVariants.{Plain, Castle, Drop}
use Rattle.chess_model.specs.declared.moves.MoveWord.{MoveWord}
use Rattle.chess_model.specs.declared.moves.MoveWord.TheVariants as word
use Rattle.chess_model.specs.declared.states.State.{State}
use Rattle.chess_model.specs.Squares.{file_of}
use Rattle.chess_model.specs.Placement.{man_at, IsHeldAs}
use Rattle.chess_model.specs.Reach.{Reaches}
use Rattle.chess_model.specs.MoveList.{taking_square}
use Rattle.chess_model.specs.Position.{Position, position_after, hand_of_side}
use Rattle.chess_model.specs.Allowed.{HasPromotion, IsPlainMove, Allowed}
use Rattle.chess_model.specs.Next.{next}
use Rattle.chess_model.specs.LegalPositions.{IsSound}
use Rattle.chess_model.specs.Answer.{promotion_of, IsNamed, IsChoice, IsAnswer}
use Rattle.chess_model.specs.WordAnswer.{word_answer}
use Rattle.chess_model.proofs.Captures.{mover, take_of}
use Rattle.chess_model.proofs.SoundPositions.{king_not_held, sound_after}
use Rattle.move_reader.specs.Reading.{reading}
use Rattle.move_writer.specs.Pretty.{pretty_of}
use Rattle.variant_rules.specs.States.{state_in}
use Rattle.variant_rules.specs.Showing.{kind_on, plain_marks}
use Rattle.rules_reading.specs.ReadsBack.{IsReadAs, pretty_in, ReadsBack}
use Rattle.rules_reading.proofs.Spelled.{given, pawn_text, pawn_read, castle_read, drop_read}
use Rattle.rules_reading.proofs.Answered.{answer_is, pawn_promotion, piece_read_back}
use Rattle.rules_reading.proofs.PawnOrigins.{IsPawnTo, push, capture, only_push, only_capture}

-- the mover of a choice of a pawn's word

held_of : (p : Position) (a : ℕ) (k : Kind) (m : Man) → man_at p.men a ≡ Some m → m.colour ≡ p.to_move → m.kind ≡ k
    → IsHeldAs p.to_move k (man_at p.men a)
held_of p a k m there own kind = subst (λ o. IsHeldAs p.to_move k o) (sym there) (own, kind)

kind_held : (p : Position) (a : ℕ) (k : Kind) (m : Man) → man_at p.men a ≡ Some m
    → IsHeldAs p.to_move k (man_at p.men a) → m.kind ≡ k
kind_held p a k m there held =
    let t : IsHeldAs p.to_move k (Some m) = subst (λ o. IsHeldAs p.to_move k o) there held in t.1

pawn_to : (p : Position) (a b : ℕ) (promo : Option Kind) → IsHeldAs p.to_move Pawn (man_at p.men a)
    → IsPlainMove p a b promo → IsPawnTo p a b
pawn_to p a b promo held h =
    let t = mover p a b promo h in
    record {
      held = held;
      reaches =
          subst (λ k. Reaches p.men p.en_passant p.to_move k a b) (kind_held p a Pawn t.0 t.1.there held) t.1.reaches;
    }

-- the origin of each choice of a word for pawns is an own pawn that goes to the target
choice_pawn : (p : Position) (file rank : Option ℕ) (b : ℕ) (letter : Option Kind) (n : Move)
    (c : IsChoice p (word.Named Pawn file rank b letter) n) →
    IsPawnTo p c.matches.0 b
choice_pawn p file rank b letter n c =
    let a : ℕ = c.matches.0 in
    let named : IsNamed p Pawn file rank a = c.matches.1 in
    let plain : Allowed p (Plain a b (promotion_of p a b letter)) = subst (Allowed p) c.matches.2 c.allowed in
    pawn_to p a b (promotion_of p a b letter) named.man plain.move

-- a pawn's move is the answer to the word for pawns of its file, if it takes, or of any
pawn_answer : (p : Position) (a b : ℕ) (promo : Option Kind) (takes : Bool) → IsSound p → Allowed p (Plain a b promo)
    → a < 64 →
    IsHeldAs p.to_move Pawn (man_at p.men a) → promotion_of p a b promo ≡ promo
    → is_some (man_at p.men (taking_square p.men a b)) ≡ takes →
    IsAnswer p (word.Named Pawn (given takes (file_of a)) None b promo) (Plain a b promo)
pawn_answer p a b promo false sound h ha held keeps none =
    let pawn : IsPawnTo p a b = pawn_to p a b promo held h.move in
    let ahead = push p a b sound pawn (take_of p a b promo sound h.move) none in
    record {
      choice = record {
        matches = (
          a,
          record { square = ha; man = held; on_file = tt; on_rank = tt },
          ap (λ (x : Option Kind). Plain a b x) (sym keeps),
        );
        allowed = h;
      };
      only = λ n c.
          let same : c.matches.0 ≡ a =
          only_push p a c.matches.0 b sound pawn ahead (choice_pawn p None None b promo n c) in
          c.matches.2 ∙ ap (λ (x : ℕ). Plain x b (promotion_of p x b promo)) same
          ∙ ap (λ (x : Option Kind). Plain a b x) keeps;
    }
pawn_answer p a b promo true sound h ha held keeps some =
    let pawn : IsPawnTo p a b = pawn_to p a b promo held h.move in
    let takes = capture p a b pawn (take_of p a b promo sound h.move) some in
    record {
      choice = record {
        matches = (
          a,
          record { square = ha; man = held; on_file = refl; on_rank = tt },
          ap (λ (x : Option Kind). Plain a b x) (sym keeps),
        );
        allowed = h;
      };
      only = λ n c.
          let named : IsNamed p Pawn (Some (file_of a)) None c.matches.0 = c.matches.1 in
          let same : c.matches.0 ≡ a =
          only_capture p a c.matches.0 b takes (choice_pawn p (Some (file_of a)) None b promo n c) named.on_file in
          c.matches.2 ∙ ap (λ (x : ℕ). Plain x b (promotion_of p x b promo)) same
          ∙ ap (λ (x : Option Kind). Plain a b x) keeps;
    }

pawn_read_back : (p : Position) (a b : ℕ) (promo : Option Kind) (takes : Bool) (s : State) → IsSound p
    → Allowed p (Plain a b promo) →
    IsHeldAs p.to_move Pawn (man_at p.men a) → HasPromotion p.to_move Pawn b promo
    → is_some (man_at p.men (taking_square p.men a b)) ≡ takes →
    IsReadAs p (pawn_text a b promo takes s) (Plain a b promo)
pawn_read_back p a b promo takes s sound h held becomes taken =
    let t = pawn_promotion p a b promo held becomes in
    let w : MoveWord = word.Named Pawn (given takes (file_of a)) None b promo in
    record {
      word = w;
      read = pawn_read a b promo takes s h.move.from h.move.to t.0;
      answered = answer_is p w (Plain a b promo) (pawn_answer p a b promo takes sound h h.move.from held t.1 taken);
    }

-- the text of a plain move of a man of that kind
abbrev text_as : Position → ℕ → ℕ → Option Kind → Kind → State → List ℕ
text_as p a b promo k s = pretty_of (record {
  what = Plain a b promo;
  kind = k;
  takes = is_some (man_at p.men (taking_square p.men a b));
  by_file = (plain_marks p k a b).by_file;
  by_rank = (plain_marks p k a b).by_rank;
  after = s;
})

-- the text of a move, taken from the kind of the man that moves
piece_as : (p : Position) (a b : ℕ) (promo : Option Kind) (s : State) (k : Kind) → promo ≡ None
    → Allowed p (Plain a b promo) →
    (Allowed p (Plain a b None) → IsReadAs p (text_as p a b None k s) (Plain a b None))
    → IsReadAs p (text_as p a b promo k s) (Plain a b promo)
piece_as p a b promo s k none h read =
    subst (λ (x : Option Kind). IsReadAs p (text_as p a b x k s) (Plain a b x)) (sym none)
    (read (subst (λ (x : Option Kind). Allowed p (Plain a b x)) none h))

plain_as : (p : Position) (a b : ℕ) (promo : Option Kind) (s : State) (k : Kind) → IsSound p
    → Allowed p (Plain a b promo) →
    IsHeldAs p.to_move k (man_at p.men a) → HasPromotion p.to_move k b promo
    → IsReadAs p (text_as p a b promo k s) (Plain a b promo)
plain_as p a b promo s Pawn sound h held becomes = pawn_read_back p a b promo _ s sound h held becomes refl
plain_as p a b promo s Knight sound h held becomes =
    piece_as p a b promo s Knight becomes h (λ g. piece_read_back p Knight a b _ s tt g.move.from g.move.to held g)
plain_as p a b promo s Bishop sound h held becomes =
    piece_as p a b promo s Bishop becomes h (λ g. piece_read_back p Bishop a b _ s tt g.move.from g.move.to held g)
plain_as p a b promo s Rook sound h held becomes =
    piece_as p a b promo s Rook becomes h (λ g. piece_read_back p Rook a b _ s tt g.move.from g.move.to held g)
plain_as p a b promo s Queen sound h held becomes =
    piece_as p a b promo s Queen becomes h (λ g. piece_read_back p Queen a b _ s tt g.move.from g.move.to held g)
plain_as p a b promo s King sound h held becomes =
    piece_as p a b promo s King becomes h (λ g. piece_read_back p King a b _ s tt g.move.from g.move.to held g)

pub sound_read_back : (p : Position) (m : Move) → IsSound p → Allowed p m → IsReadAs p (pretty_in p m) m
sound_read_back p (Plain a b promo) sound h =
    let t = mover p a b promo h.move in
    let s : State = state_in (next p (Plain a b promo)) in
    let kind : kind_on (man_at p.men a) ≡ t.0.kind = ap kind_on t.1.there in
    subst (λ (k : Kind). IsReadAs p (text_as p a b promo k s) (Plain a b promo)) (sym kind)
    (plain_as p a b promo s t.0.kind sound h (held_of p a t.0.kind t.0 t.1.there t.1.own refl) t.1.becomes)
sound_read_back p (Castle long) sound h = record {
  word = word.Castle long;
  read = castle_read long (state_in (next p (Castle long)));
  answered =
      answer_is p (word.Castle long) (Castle long) (record {
        choice = record { matches = refl; allowed = h };
        only = λ n c. c.matches;
      });
}
sound_read_back p (Drop k to) sound h = record {
  word = word.Drop k to;
  read =
      drop_read k to (state_in (next p (Drop k to))) (king_not_held (hand_of_side p p.to_move) k h.move.held)
      h.move.square;
  answered =
      answer_is p (word.Drop k to) (Drop k to) (record {
        choice = record { matches = refl; allowed = h };
        only = λ n c. c.matches;
      });
}

pub reads_back : ReadsBack
reads_back v T b m legal h = sound_read_back (position_after v T b) m (sound_after v T b legal) h

-- the same for a text that is known to be the pretty one, and what it is read as
pub read_again : (p : Position) (m : Move) (text : List ℕ) (found : Option MoveWord) → IsSound p → Allowed p m
    → text ≡ pretty_in p m → found ≡ reading text →
    (w : MoveWord) × (found ≡ Some w) × (word_answer p w ≡ Ok m)
read_again p m text found sound h same read =
    let r = sound_read_back p m sound h in
    (r.word, read ∙ ap reading same ∙ r.read, r.answered)

-- Tokens that are laid one behind the other.
use Rattle.std.proofs.Common.{arith, ◌≡◌, ℕ, ◌+◌, ◌<◌, List, [], ◌∷◌, ◌++◌, length, map, take, drop, get_or, sym, ap, subst, ◌∙◌, append_assoc, append-nil}
use Rattle.std.proofs.Common.{suc}
use Rattle.std.proofs.Math.Seq.{drop-cons}
use Rattle.std.proofs.lemmas.List.{take_more, take-append-drop, length-take-le, map-append}
use Rattle.chess_model.specs.declared.moves.Move.{Move}
use Rattle.chess_model.specs.declared.variant.Variant.TheVariants.{Chess}
use Rattle.chess_model.specs.MoveList.{HalfMove}
use Rattle.chess_model.specs.Position.{Position, position_after, Stands}
use Rattle.chess_model.specs.Allowed.{Allowed, IsLegal}
use Rattle.rules_reading.specs.ReadsBack.{pretty_in}
use Rattle.pgn_book.specs.Games.{on_board, position_of_moves}
use Rattle.pgn_book.specs.Export.{number_at, move_tokens, laid}
use Rattle.pgn_book.specs.Pages.{Page, Lays}

pub lays_both : (a b c : Page) (xs ys : List (List ℕ)) → Lays a b xs → Lays b c ys → Lays a c (xs ++ ys)
lays_both a b c xs ys h g = record {
  laid_so = λ more.
      g.laid_so more ∙ h.laid_so (ys ++ more)
      ∙ ap (λ (l : List (List ℕ)). a.text ++ laid a.column l) (sym (append_assoc xs ys more));
}

-- what is laid is the text behind that before
pub laid_text : (a b : Page) (xs : List (List ℕ)) → Lays a b xs → b.text ≡ a.text ++ laid a.column xs
laid_text a b xs h =
    sym (append-nil b.text) ∙ h.laid_so [] ∙ ap (λ (l : List (List ℕ)). a.text ++ laid a.column l) (append-nil xs)

pub tokens_more : (before xs : List Move) (m : Move) →
    move_tokens before (xs ++ m ∷ [])
    ≡ move_tokens before xs
    ++ (number_at (length (before ++ xs)) ++ pretty_in (position_of_moves (before ++ xs)) m ∷ [])
tokens_more before [] m =
    ap (λ (l : List Move). number_at (length l) ++ pretty_in (position_of_moves l) m ∷ []) (sym (append-nil before))
tokens_more before (x ∷ xs) m =
    let front : List (List ℕ) = number_at (length before) in
    let token : List ℕ = pretty_in (position_of_moves before) x in
    let end : List Move → List (List ℕ) = λ l. number_at (length l) ++ pretty_in (position_of_moves l) m ∷ [] in
    ap (λ (t : List (List ℕ)). front ++ token ∷ t) (tokens_more (before ++ x ∷ []) xs m)
    ∙ ap (λ (l : List Move). front ++ token ∷ (move_tokens (before ++ x ∷ []) xs ++ end l))
    (append_assoc before (x ∷ []) xs)
    ∙ sym (append_assoc front (token ∷ move_tokens (before ++ x ∷ []) xs) (end (before ++ x ∷ xs)))

-- a position that stands for a list of moves is the one after it
pub stands_at : (p : Position) (moves : List Move) → p.variant ≡ Chess → Stands p (map on_board moves) 1
    → p ≡ position_of_moves moves
stands_at p moves chess stands =
    stands.same ∙ ap (λ v. position_after v (map on_board moves) 1) chess

-- each move of a legal list is allowed in the position after those before it
pub allowed_at : (before after : List Move) (m : Move) → IsLegal Chess (map on_board (before ++ m ∷ after))
    → Allowed (position_of_moves before) m
allowed_at before after m legal =
    legal.each (map on_board before) (map on_board after) (on_board m) (map-append on_board before (m ∷ after))

-- what holds when some moves were laid
pub record HaveLaid (a b : Page) (p : Position) (moves : List Move) (n : ℕ) : Type 0 where
  pub lays : Lays a b (move_tokens [] (take n moves))
  pub variant : p.variant ≡ Chess
  pub stands : Stands p (map on_board (take n moves)) 1

-- a list at one of its items
split_at : (moves : List Move) (n : ℕ) (m : Move) → n < length moves → m ≡ get_or moves n m
    → moves ≡ take n moves ++ m ∷ drop (suc n) moves
split_at moves n m h e =
    sym (take-append-drop n moves) ∙ ap (λ (l : List Move). take n moves ++ l) (drop-cons moves n m h)
    ∙ ap (λ (x : Move). take n moves ++ x ∷ drop (suc n) moves) (sym e)

pub allowed_next : (a b : Page) (p : Position) (moves all : List Move) (n : ℕ) (m : Move)
    → IsLegal Chess (map on_board all) → moves ≡ all →
    HaveLaid a b p moves n → n < length moves → m ≡ get_or moves n m → Allowed p m
allowed_next a b p moves all n m legal same h within e =
    let split : all ≡ take n moves ++ m ∷ drop (suc n) moves = sym same ∙ split_at moves n m within e in
    let here : Allowed (position_of_moves (take n moves)) m =
    allowed_at (take n moves) (drop (suc n) moves) m
    (subst (λ (l : List Move). IsLegal Chess (map on_board l)) split legal) in
    subst (λ q. Allowed q m) (sym (stands_at p (take n moves) h.variant h.stands)) here

pub laid_next : (a b c : Page) (p q : Position) (moves : List Move) (n : ℕ) (m : Move) → HaveLaid a b p moves n
    → n < length moves → m ≡ get_or moves n m →
    Lays b c (number_at n ++ pretty_in p m ∷ []) → q.variant ≡ p.variant →
    ((T : List HalfMove) (k : ℕ) → Stands p T k → Stands q (T ++ record { board = k; what = m } ∷ []) k)
    → HaveLaid a c q moves (n + 1)
laid_next a b c p q moves n m h within e lays same stands =
    let front : List Move = take n moves in
    let more : take (n + 1) moves ≡ front ++ m ∷ [] =
    take_more moves n m within ∙ ap (λ (x : Move). front ++ x ∷ []) (sym e) in
    let place : length front ≡ n = length-take-le n moves (omega arith) in
    let at : p ≡ position_of_moves front = stands_at p front h.variant h.stands in
    let here : Lays b c (number_at (length front) ++ pretty_in (position_of_moves front) m ∷ []) =
    subst (λ q. Lays b c (number_at (length front) ++ pretty_in q m ∷ [])) at
    (subst (λ (k : ℕ). Lays b c (number_at k ++ pretty_in p m ∷ [])) (sym place) lays) in
    record {
      lays = subst (λ (l : List (List ℕ)). Lays a c l) (sym (ap (move_tokens []) more ∙ tokens_more [] front m))
          (lays_both a b c (move_tokens [] front)
          (number_at (length front) ++ pretty_in (position_of_moves front) m ∷ [])
          h.lays here);
      variant = same ∙ h.variant;
      stands =
          subst (λ (T : List HalfMove). Stands q T 1)
          (sym (ap (map on_board) more ∙ map-append on_board front (m ∷ []))) (stands (map on_board front) 1 h.stands);
    }

-- the text of a page that began behind whole lines
pub page_text : (a b c : Page) (front : List ℕ) (xs ys : List (List ℕ)) → a ≡ record { text = front; column = 0 }
    → Lays a b xs → Lays b c ys →
    c.text ≡ front ++ laid 0 (xs ++ ys)
page_text a b c front xs ys e h g =
    laid_text a c (xs ++ ys) (lays_both a b c xs ys h g) ∙ ap (λ (q : Page). q.text ++ laid q.column (xs ++ ys)) e

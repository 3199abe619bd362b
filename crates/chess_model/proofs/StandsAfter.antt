-- The next position is that of the list with the half-move at its end.
use Rattle.std.proofs.Common.{arith, ◌≡◌, ℕ, ◌+◌, ◌<◌, ◌≤◌, Bool, true, false, ◌&&◌, cond, List, [], ◌∷◌, ◌++◌, map, min, refl, sym, ap, subst, ◌∙◌}
use Rattle.chess_model.specs.declared.man.Colour.{Colour}
use Rattle.chess_model.specs.declared.man.Colour.TheVariants.{White, Black}
use Rattle.chess_model.specs.declared.man.Kind.{Kind}
use Rattle.chess_model.specs.declared.man.Kind.TheVariants.{Pawn, Knight, Bishop, Rook, Queen, King}
use Rattle.chess_model.specs.declared.hand.Hand.{Hand}
use Rattle.chess_model.specs.declared.moves.Move.{Move}
use Rattle.chess_model.specs.declared.moves.Move.TheVariants.{Plain, Castle, Drop}
use Rattle.chess_model.specs.declared.moves.MoveWord.{MoveWord}
use Rattle.chess_model.specs.declared.variant.Variant.{Variant}
use Rattle.chess_model.specs.Placement.{array_of}
use Rattle.chess_model.specs.MoveList.{HalfMove, Ply, moves_of, on_board, place_from, side_from, history}
use Rattle.chess_model.specs.RightsAndCounts.{rights_after, en_passant_after, quiet_count}
use Rattle.chess_model.specs.Holdings.{same_colour, same_kind, drops, count_in, gained, spent, hand_after}
use Rattle.chess_model.specs.Position.{Position, position_after, Stands, hand_of_side}
use Rattle.chess_model.specs.Allowed.{Allowed}
use Rattle.chess_model.specs.Answer.{IsAnswer}
use Rattle.chess_model.specs.Next.{gain, next}
use Rattle.chess_model.proofs.MoreMoves.{one, last_ply, moves_of-same, place_from-append, side_from-append, history-same, rights_after-append, en_passant_after-append, quiet_count-append, spent-append, gained-append, hand_after-append}
use Rattle.std.proofs.lemmas.Bool.{and_parts}
use Rattle.std.proofs.lemmas.List.{map-append}

pub position_after-append : (v : Variant) (T : List HalfMove) (b : ℕ) (m : Move) →
    ((c : Colour) (k : Kind) → spent v T b c k ≤ gained v T b c k) →
    next (position_after v T b) m ≡ position_after v (T ++ one b m) b
position_after-append v T b m paid =
    let men =
    ap (place_from v (array_of v) White) (moves_of-same b T m)
    ∙ place_from-append v (array_of v) White (moves_of b T) m in
    let to_move = ap (side_from White) (moves_of-same b T m) ∙ side_from-append White (moves_of b T) m in
    let en_passant =
    ap en_passant_after (history-same v T b m) ∙ en_passant_after-append (history v T b) (last_ply v T b m) in
    let rights =
    ap (rights_after v) (history-same v T b m) ∙ rights_after-append v (history v T b) (last_ply v T b m) in
    let quiet =
    ap (λ (H : List Ply). min (quiet_count H) 65535) (history-same v T b m)
    ∙ quiet_count-append (history v T b) (last_ply v T b m) in
    let white = hand_after-append v T b m White (paid White) in
    let black = hand_after-append v T b m Black (paid Black) in
    λ i. record {
      variant = v;
      men = sym men i;
      to_move = sym to_move i;
      en_passant = sym en_passant i;
      rights = sym rights i;
      quiet = sym quiet i;
      white = sym white i;
      black = sym black i;
    }

pub same_colour-eq : (c d : Colour) → same_colour c d ≡ true → c ≡ d
same_colour-eq White White h = refl
same_colour-eq White Black h = cc
same_colour-eq Black White h = cc
same_colour-eq Black Black h = refl

pub same_kind-eq : (k j : Kind) → same_kind k j ≡ true → k ≡ j
same_kind-eq Pawn Pawn h = refl
same_kind-eq Knight Knight h = refl
same_kind-eq Bishop Bishop h = refl
same_kind-eq Rook Rook h = refl
same_kind-eq Queen Queen h = refl
same_kind-eq King King h = refl
same_kind-eq _ _ h = cc

-- a kind of which the hand has a man has come into it more often than it was dropped
held_unspent : (v : Variant) (T : List HalfMove) (b : ℕ) (c : Colour) (k : Kind) →
    0 < count_in (hand_after v T b c) k → spent v T b c k < gained v T b c k
held_unspent v T b c Pawn h = omega arith
held_unspent v T b c Knight h = omega arith
held_unspent v T b c Bishop h = omega arith
held_unspent v T b c Rook h = omega arith
held_unspent v T b c Queen h = omega arith
held_unspent v T b c King h = absurd (omega arith)

hand_of_side-after : (v : Variant) (T : List HalfMove) (b : ℕ) (c : Colour) →
    hand_of_side (position_after v T b) c ≡ hand_after v T b c
hand_of_side-after v T b White = refl
hand_of_side-after v T b Black = refl

never : (x : Bool) → (x && false) ≡ true → ⊥
never true h = cc
never false h = cc

-- what an allowed half-move drops was in hand
drop_is_paid : (v : Variant) (T : List HalfMove) (b : ℕ) (m : Move) → Allowed (position_after v T b) m →
    (c : Colour) (k : Kind) → drops c k (last_ply v T b m) ≡ true → spent v T b c k < gained v T b c k
drop_is_paid v T b (Plain from to promo) h c k d = absurd (never (same_colour (side_from White (moves_of b T)) c) d)
drop_is_paid v T b (Castle long) h c k d = absurd (never (same_colour (side_from White (moves_of b T)) c) d)
drop_is_paid v T b (Drop j to) h c k d =
    let by : Colour = side_from White (moves_of b T) in
    let same = and_parts (same_colour by c) (same_kind j k) d in
    let held : 0 < count_in (hand_of_side (position_after v T b) by) j = h.move.held in
    let in_hand : 0 < count_in (hand_after v T b by) j =
    (let P : Hand → Type 0 = λ x. 0 < count_in x j in subst P (hand_of_side-after v T b by) held) in
    let own : spent v T b c j < gained v T b c j =
    (let P : Colour → Type 0 = λ x.
    spent v T b x j < gained v T b x j in subst P (same_colour-eq by c same.0) (held_unspent v T b by j in_hand)) in
    let P : Kind → Type 0 = λ x. spent v T b c x < gained v T b c x in
    subst P (same_kind-eq j k same.1) own

paid_step : (dropped : Bool) (s g gains : ℕ) → s ≤ g → (dropped ≡ true → s < g) → s + cond dropped 1 0 ≤ g + gains
paid_step true s g gains h d = let strict : s < g = d refl in omega arith
paid_step false s g gains h d = omega arith

pub paid-append : (v : Variant) (T : List HalfMove) (b : ℕ) (m : Move) →
    ((c : Colour) (k : Kind) → spent v T b c k ≤ gained v T b c k) → Allowed (position_after v T b) m →
    (c : Colour) (k : Kind) → spent v (T ++ one b m) b c k ≤ gained v (T ++ one b m) b c k
paid-append v T b m paid h c k =
    let step =
    paid_step (drops c k (last_ply v T b m)) (spent v T b c k) (gained v T b c k) (gain v c k (last_ply v T b m))
    (paid c k) (drop_is_paid v T b m h c k) in
    omega (arith, step, spent-append v T b m c k, gained-append v T b m c k)

pub Stands-next : (p : Position) (T : List HalfMove) (b : ℕ) (m : Move) → Allowed p m → Stands p T b →
    Stands (next p m) (T ++ one b m) b
Stands-next p T b m h stands =
    let q : Position = position_after p.variant T b in
    let allowed : Allowed q m = (let P : Position → Type 0 = λ x. Allowed x m in subst P stands.same h) in
    record {
      same = ap (λ (x : Position). next x m) stands.same ∙ position_after-append p.variant T b m stands.paid;
      paid = paid-append p.variant T b m stands.paid allowed;
    }

-- a position stands behind one more half-move of a game on one board
pub stands_on : (p q : Position) (moves : List Move) (m : Move)
    → ((T : List HalfMove) (b : ℕ) → Stands p T b → Stands q (T ++ record { board = b; what = m } ∷ []) b)
    → Stands p (map on_board moves) 1 → Stands q (map on_board (moves ++ m ∷ [])) 1
stands_on p q moves m f s =
    subst (λ (l : List HalfMove). Stands q l 1) (sym (map-append on_board moves (m ∷ []))) (f (map on_board moves) 1 s)

pub answer_allowed : (p q : Position) (word : MoveWord) (m : Move) → IsAnswer p word m → p ≡ q → Allowed q m
answer_allowed p q word m is at = subst (λ (x : Position). Allowed x m) at is.choice.allowed

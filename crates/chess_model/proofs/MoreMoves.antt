-- One more half-move at the end of a list: the list's settings, and what is said of them, grow by one step.
use Rattle.std.proofs.Common.{arith, ◌≡◌, ◌≢◌, ℕ, ◌+◌, ◌-◌, ◌≤◌, Bool, true, false, ◌&&◌, cond, nat_eq, min, List, [], ◌∷◌, ◌++◌, map, filter, length, reverse, refl, sym, ap, ◌∙◌, eq-eqb, add-zero, Option, Some, count_by, take_while}
use Rattle.std.specs.List.{last_or}
use Rattle.std.proofs.Math.Bool.{and-true}
use Rattle.std.proofs.lemmas.Bool.{ne_eqb}
use Rattle.std.proofs.lemmas.List.{map-append, reverse-append, append-nil}
use Rattle.std.proofs.lemmas.List.Elements.{filter-append}
use Rattle.std.proofs.lemmas.List.Folds.{list_all-append}
use Rattle.std.proofs.lemmas.List.Sums.{take_while-cons, sum_by_push}
use Rattle.chess_model.specs.declared.man.Colour.{Colour}
use Rattle.chess_model.specs.declared.man.Colour.TheVariants.{White, Black}
use Rattle.chess_model.specs.declared.man.Kind.{Kind}
use Rattle.chess_model.specs.declared.man.Kind.TheVariants.{Pawn, Knight, Bishop, Rook, Queen}
use Rattle.chess_model.specs.declared.moves.Move.{Move}
use Rattle.chess_model.specs.declared.variant.Variant.{Variant}
use Rattle.chess_model.specs.declared.variant.Variant.TheVariants.{Chess, Crazyhouse, Bughouse, Fischer}
use Rattle.chess_model.specs.Placement.{Placement, opposite, array_of}
use Rattle.chess_model.specs.MoveList.{HalfMove, Ply, moves_of, place_after, settings, place_from, side_from, history}
use Rattle.chess_model.specs.RightsAndCounts.{keeps_right, right_stands, rights_after, passed_over, en_passant_after, is_quiet, quiet_count}
use Rattle.chess_model.specs.Holdings.{captures, loses, drops, other_board, gained, spent, hand_after}
use Rattle.chess_model.specs.Next.{next_rights, next_quiet, gain, next_hand}

-- the half-move m of board b, alone
abbrev pub one : ℕ → Move → List HalfMove
one b m = record { board = b; what = m } ∷ []

pub place_from-append : (v : Variant) (P : Placement) (c : Colour) (ms : List Move) (m : Move) →
    place_from v P c (ms ++ m ∷ []) ≡ place_after v (place_from v P c ms) (side_from c ms) m
place_from-append v P c [] m = refl
place_from-append v P c (x ∷ ms) m = place_from-append v (place_after v P c x) (opposite c) ms m

pub side_from-append : (c : Colour) (ms : List Move) (m : Move) → side_from c (ms ++ m ∷ []) ≡ opposite (side_from c ms)
side_from-append c [] m = refl
side_from-append c (x ∷ ms) m = side_from-append (opposite c) ms m

pub settings-append : (v : Variant) (P : Placement) (c : Colour) (ms : List Move) (m : Move) →
    settings v P c (ms ++ m ∷ []) ≡
    settings v P c ms ++ record { before = place_from v P c ms; by = side_from c ms; what = m } ∷ []
settings-append v P c [] m = refl
settings-append v P c (x ∷ ms) m =
    ap (λ (H : List Ply). record { before = P; by = c; what = x } ∷ H)
    (settings-append v (place_after v P c x) (opposite c) ms m)

pub moves_of-same : (b : ℕ) (T : List HalfMove) (m : Move) → moves_of b (T ++ one b m) ≡ moves_of b T ++ m ∷ []
moves_of-same b T m =
    let on_board : HalfMove → Bool = λ h. nat_eq h.board b in
    let alone : filter on_board (one b m) ≡ one b m = rw (eq-eqb b b refl) refl in
    ap (λ (hs : List HalfMove). map (λ h. h.what) hs) (filter-append on_board T (one b m)) ∙
    map-append (λ (h : HalfMove). h.what) (filter on_board T) (filter on_board (one b m)) ∙
    ap (λ (hs : List HalfMove). map (λ h. h.what) (filter on_board T) ++ map (λ h. h.what) hs) alone

pub moves_of-other : (b d : ℕ) (T : List HalfMove) (m : Move) → b ≢ d → moves_of d (T ++ one b m) ≡ moves_of d T
moves_of-other b d T m h =
    let on_board : HalfMove → Bool = λ h. nat_eq h.board d in
    let nothing : filter on_board (one b m) ≡ [] = rw (ne_eqb b d h) refl in
    ap (λ (hs : List HalfMove). map (λ h. h.what) hs)
    (filter-append on_board T (one b m) ∙ ap (λ (hs : List HalfMove). filter on_board T ++ hs) nothing
    ∙ append-nil (filter on_board T))

-- the half-move m in its setting after T
abbrev pub last_ply : Variant → List HalfMove → ℕ → Move → Ply
last_ply v T b m = record {
  before = place_from v (array_of v) White (moves_of b T);
  by = side_from White (moves_of b T);
  what = m;
}

pub history-same : (v : Variant) (T : List HalfMove) (b : ℕ) (m : Move) →
    history v (T ++ one b m) b ≡ history v T b ++ last_ply v T b m ∷ []
history-same v T b m =
    ap (λ (ms : List Move). settings v (array_of v) White ms) (moves_of-same b T m)
    ∙ settings-append v (array_of v) White (moves_of b T) m

pub history-other : (v : Variant) (T : List HalfMove) (b d : ℕ) (m : Move) → b ≢ d
    → history v (T ++ one b m) d ≡ history v T d
history-other v T b d m h = ap (λ (ms : List Move). settings v (array_of v) White ms) (moves_of-other b d T m h)

pub right_stands-append : (v : Variant) (H : List Ply) (x : Ply) (c : Colour) (long : Bool) →
    right_stands v (H ++ x ∷ []) c long ≡ (right_stands v H c long && keeps_right v c long x.by x.what)
right_stands-append v H x c long =
    list_all-append (λ h. keeps_right v c long h.by h.what) H (x ∷ []) ∙
    ap (λ (k : Bool). right_stands v H c long && k) (and-true (keeps_right v c long x.by x.what))

pub rights_after-append : (v : Variant) (H : List Ply) (x : Ply) →
    rights_after v (H ++ x ∷ []) ≡ next_rights v (rights_after v H) x.by x.what
rights_after-append v H x = λ i. record {
  white_short = right_stands-append v H x White false i;
  white_long = right_stands-append v H x White true i;
  black_short = right_stands-append v H x Black false i;
  black_long = right_stands-append v H x Black true i;
}

pub last_or-append : {A : Type 0} → (o : Option A) (xs : List A) (x : A) → last_or o (xs ++ x ∷ []) ≡ Some x
last_or-append o [] x = refl
last_or-append o (y ∷ xs) x = last_or-append (Some y) xs x

pub en_passant_after-append : (H : List Ply) (x : Ply) → en_passant_after (H ++ x ∷ []) ≡ passed_over x.before x.what
en_passant_after-append H x = rw last_or-append refl

capped : (q : Bool) (x : Ply) (xs : List Ply) →
    min (length (cond q (x ∷ xs) [])) 65535 ≡ cond q (min (min (length xs) 65535 + 1) 65535) 0
capped true x xs = omega arith
capped false x xs = refl

pub quiet_count-append : (H : List Ply) (x : Ply) →
    min (quiet_count (H ++ x ∷ [])) 65535 ≡ next_quiet x.before (min (quiet_count H) 65535) x.what
quiet_count-append H x =
    let quiet : Ply → Bool = λ h. is_quiet h.before h.what in
    ap (λ (hs : List Ply). min (length (take_while quiet hs)) 65535) (reverse-append H (x ∷ [])) ∙
    ap (λ (hs : List Ply). min (length hs) 65535) (take_while-cons quiet x (reverse H)) ∙
    capped (quiet x) x (take_while quiet (reverse H))

pub spent-append : (v : Variant) (T : List HalfMove) (b : ℕ) (m : Move) (c : Colour) (k : Kind) →
    spent v (T ++ one b m) b c k ≡ spent v T b c k + cond (drops c k (last_ply v T b m)) 1 0
spent-append v T b m c k =
    rw history-same (sum_by_push (λ h. cond (drops c k h) 1 0) (history v T b) (last_ply v T b m))

pub gained-append : (v : Variant) (T : List HalfMove) (b : ℕ) (m : Move) (c : Colour) (k : Kind) →
    gained v (T ++ one b m) b c k ≡ gained v T b c k + gain v c k (last_ply v T b m)
gained-append Chess T b m c k = refl
gained-append (Fischer number) T b m c k = refl
gained-append Crazyhouse T b m c k =
    rw history-same (sum_by_push (λ h. cond (captures c k h) 1 0) (history Crazyhouse T b) (last_ply Crazyhouse T b m))
gained-append Bughouse T b m c k =
    let differ : b ≢ other_board b = λ e. omega arith in
    ap (λ (H : List Ply). count_by (loses c k) H) (history-other Bughouse T b (other_board b) m differ) ∙
    sym (add-zero (count_by (loses c k) (history Bughouse T (other_board b))))

-- the hand of c after the half-move, of what came and of what went
pub hand_after-append : (v : Variant) (T : List HalfMove) (b : ℕ) (m : Move) (c : Colour) →
    ((k : Kind) → spent v T b c k ≤ gained v T b c k) →
    hand_after v (T ++ one b m) b c ≡ next_hand v (hand_after v T b c) c (last_ply v T b m)
hand_after-append v T b m c paid =
    let step : (k : Kind) → gained v (T ++ one b m) b c k - spent v (T ++ one b m) b c k
    ≡ gained v T b c k - spent v T b c k + gain v c k (last_ply v T b m) - cond (drops c k (last_ply v T b m)) 1 0 =
    λ k. omega (arith, gained-append v T b m c k, spent-append v T b m c k, paid k) in
    λ i.
    record {
      pawns = step Pawn i;
      knights = step Knight i;
      bishops = step Bishop i;
      rooks = step Rook i;
      queens = step Queen i;
    }

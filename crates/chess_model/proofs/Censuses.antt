-- No legal list of half-moves makes or loses a man.
use Rattle.std.proofs.Common.{arith, ◌≡◌, ◌≢◌, ℕ, ◌+◌, ◌-◌, ◌*◌, ◌≤◌, inl, inr, List, [], ◌∷◌, ◌++◌, Bool, true, false, ◌&&◌, cond, Option, Some, None, refl, sym, ap, subst, ◌∙◌}
use Rattle.std.specs.List.{sum_by, count_by}
use Rattle.std.proofs.lemmas.Bool.{cases_eq, false_from_ne_true}
use Rattle.std.proofs.lemmas.List.Sums.{sum_by-cons, sum_by_push}
use Rattle.chess_model.specs.declared.man.Colour.{Colour}
use Rattle.chess_model.specs.declared.man.Colour.TheVariants.{White, Black}
use Rattle.chess_model.specs.declared.man.Kind.{Kind}
use Rattle.chess_model.specs.declared.man.Kind.TheVariants.{Pawn, Knight, Bishop, Rook, Queen, King}
use Rattle.chess_model.specs.declared.man.Man.{Man}
use Rattle.chess_model.specs.declared.moves.Move.{Move}
use Rattle.chess_model.specs.declared.moves.Move.TheVariants.{Plain, Castle, Drop}
use Rattle.chess_model.specs.declared.variant.Variant.{Variant}
use Rattle.chess_model.specs.declared.variant.Variant.TheVariants.{Chess, Crazyhouse, Bughouse, Fischer}
use Rattle.chess_model.specs.Men.{same_colour, same_kind, is_held_by}
use Rattle.chess_model.specs.Placement.{Placement, array_of}
use Rattle.chess_model.specs.MoveList.{HalfMove, Ply, moves_of, settings, place_after, place_from, side_from, taken, history}
use Rattle.chess_model.specs.Holdings.{hands_over, captures, loses, drops, other_board, gained, spent, count_in, hand_after}
use Rattle.chess_model.specs.Position.{Position, position_after, hand_of_side}
use Rattle.chess_model.specs.Allowed.{Allowed, HasDrops, IsLegal}
use Rattle.chess_model.specs.LegalPositions.{IsSound, IsPrey}
use Rattle.chess_model.specs.Census.{counts_as, men_of, one_set, captured, CensusStays}
use Rattle.chess_model.proofs.MoreMoves.{one, moves_of-same, moves_of-other, place_from-append, settings-append, history-same, history-other}
use Rattle.chess_model.proofs.Arrays.{array_is_set}
use Rattle.chess_model.proofs.NoMoreMen.{cond_and-false}
use Rattle.chess_model.proofs.StandsAfter.{paid-append}
use Rattle.chess_model.proofs.TestsDecide.{Decides-kind}
use Rattle.chess_model.proofs.Captures.{captures_prey}
use Rattle.chess_model.proofs.Weights.{IsSteady, brought, weight-after}
use Rattle.chess_model.proofs.SoundPositions.{legal_induction, sound_after, king_not_held}

abbrev weight : Colour → Kind → Option Man → ℕ
weight c k man = cond (counts_as c k man) 1 0

handed_pawn : (promoted : Bool) (k : Kind) → k ≡ Pawn → cond promoted Pawn k ≡ Pawn
handed_pawn true k e = refl
handed_pawn false k e = e

weights_steady : (c : Colour) (k : Kind) → IsSteady (weight c k)
weights_steady c k = record {
  none = refl;
  steady = λ m j e h.
      ap (λ (x : Kind). cond {A = ℕ} (same_colour m.colour c && same_kind x k) 1 0)
      (sym (handed_pawn m.promoted m.kind e));
}

-- a drop brings what it drops
brought-drops : (c : Colour) (k : Kind) (P : Placement) (by : Colour) (m : Move) →
    brought (weight c k) by m ≡ cond (drops c k (record { before = P; by = by; what = m })) 1 0
brought-drops c k P by (Plain a b promo) = sym (cond_and-false (same_colour by c))
brought-drops c k P by (Castle long) = sym (cond_and-false (same_colour by c))
brought-drops c k P by (Drop j to) = refl

-- no king is captured or dropped

handed_king : (promoted : Bool) (k : Kind) → k ≢ King → same_kind (cond promoted Pawn k) King ≡ false
handed_king true k h = refl
handed_king false k h = false_from_ne_true (same_kind k King) (λ e. h ((Decides-kind k King).0 e))

king_kept : (p : Position) (c : Colour) (o : Option Man) → ((x : Man) → o ≡ Some x → IsPrey p x) → weight c King o ≡ 0
king_kept p c None prey = refl
king_kept p c (Some x) prey =
    ap (λ (y : Bool). cond {A = ℕ} (same_colour x.colour c && y) 1 0)
    (handed_king x.promoted x.kind (prey x refl).no_king) ∙
    cond_and-false (same_colour x.colour c)

king_undropped : (p : Position) (m : Move) (c : Colour) → Allowed p m →
    cond {A = ℕ} (drops c King (record { before = p.men; by = p.to_move; what = m })) 1 0 ≡ 0
king_undropped p (Plain a b promo) c h = cond_and-false (same_colour p.to_move c)
king_undropped p (Castle long) c h = cond_and-false (same_colour p.to_move c)
king_undropped p (Drop k to) c h =
    ap (λ (y : Bool). cond {A = ℕ} (same_colour p.to_move c && y) 1 0)
    (handed_king false k (king_not_held (hand_of_side p p.to_move) k h.move.held)) ∙
    cond_and-false (same_colour p.to_move c)

-- what stands on a board and was captured there are one set of each colour and what was dropped
record IsBalanced (v : Variant) (ms : List Move) : Type 0 where
  men : (c : Colour) (k : Kind)
      → men_of c k (place_from v (array_of v) White ms) + count_by (loses c k) (settings v (array_of v) White ms)
      ≡ one_set k + count_by (drops c k) (settings v (array_of v) White ms)
  kings_kept : (c : Colour) → count_by (loses c King) (settings v (array_of v) White ms) ≡ 0
  kings_undropped : (c : Colour) → count_by (drops c King) (settings v (array_of v) White ms) ≡ 0

balanced_start : (v : Variant) → IsBalanced v []
balanced_start v = record {
  men = λ c k. omega (arith, array_is_set v c k);
  kings_kept = λ c. refl;
  kings_undropped = λ c. refl;
}

count_push : (f : Ply → Bool) (H G : List Ply) (x : Ply) → G ≡ H ++ x ∷ []
    → count_by f G ≡ count_by f H + cond (f x) 1 0
count_push f H G x e = ap (count_by f) e ∙ sum_by_push (λ h. cond (f h) 1 0) H x

balanced_next : (v : Variant) (ms : List Move) (p : Position) → p.variant ≡ v
    → p.men ≡ place_from v (array_of v) White ms →
    p.to_move ≡ side_from White ms → (m : Move) → IsSound p → Allowed p m → IsBalanced v ms
    → IsBalanced v (ms ++ m ∷ [])
balanced_next v ms p e_v e_men e_side m sound h s =
    let P : Placement = place_from v (array_of v) White ms in
    let by : Colour = side_from White ms in
    let H : List Ply = settings v (array_of v) White ms in
    let G : List Ply = settings v (array_of v) White (ms ++ m ∷ []) in
    let x : Ply = record { before = P; by = by; what = m } in
    let y : Ply = record { before = p.men; by = p.to_move; what = m } in
    let same : y ≡ x = (λ i. record { before = e_men i; by = e_side i; what = m }) in
    let grown : G ≡ H ++ x ∷ [] = settings-append v (array_of v) White ms m in
    let placed : place_after p.variant p.men p.to_move m ≡ place_from v (array_of v) White (ms ++ m ∷ []) =
    (λ i. place_after (e_v i) (e_men i) (e_side i) m) ∙ sym (place_from-append v (array_of v) White ms m) in
    record {
      men = λ c k.
          let w : sum_by (weight c k) (place_after p.variant p.men p.to_move m) + weight c k (taken p.men m)
          ≡ sum_by (weight c k) p.men + brought (weight c k) p.to_move m =
          weight-after (weight c k) (weights_steady c k) p m sound h in
          let lost : count_by (loses c k) G ≡ count_by (loses c k) H + cond (loses c k x) 1 0 =
          count_push (loses c k) H G x grown in
          let dropped : count_by (drops c k) G ≡ count_by (drops c k) H + cond (drops c k x) 1 0 =
          count_push (drops c k) H G x grown in
          let a : sum_by (weight c k) (place_after p.variant p.men p.to_move m)
          ≡ men_of c k (place_from v (array_of v) White (ms ++ m ∷ [])) =
          ap (sum_by (weight c k)) placed in
          let b : sum_by (weight c k) p.men ≡ men_of c k P = ap (sum_by (weight c k)) e_men in
          let t : weight c k (taken p.men m) ≡ cond (loses c k x) 1 0 =
          ap (λ (z : Ply). cond {A = ℕ} (loses c k z) 1 0) same in
          let d : brought (weight c k) p.to_move m ≡ cond (drops c k x) 1 0 =
          brought-drops c k p.men p.to_move m ∙ ap (λ (z : Ply). cond {A = ℕ} (drops c k z) 1 0) same in
          let before : men_of c k P + count_by (loses c k) H ≡ one_set k + count_by (drops c k) H = s.men c k in
          omega (arith, w, lost, dropped, a, b, t, d, before);
      kings_kept = λ c.
          let t : cond (loses c King x) 1 0 ≡ 0 =
          ap (λ (z : Ply). cond {A = ℕ} (loses c King z) 1 0) (sym same)
          ∙ king_kept p c (taken p.men m) (captures_prey p m sound h) in
          omega (arith, count_push (loses c King) H G x grown, t, s.kings_kept c);
      kings_undropped = λ c.
          let d : cond (drops c King x) 1 0 ≡ 0 =
          ap (λ (z : Ply). cond {A = ℕ} (drops c King z) 1 0) (sym same) ∙ king_undropped p m c h in
          omega (arith, count_push (drops c King) H G x grown, d, s.kings_undropped c);
    }

balanced_step : (v : Variant) (b : ℕ) (T : List HalfMove) (h : HalfMove) → IsLegal v T
    → Allowed (position_after v T h.board) h.what →
    IsBalanced v (moves_of b T) → IsBalanced v (moves_of b (T ++ h ∷ []))
balanced_step v b T h legal allowed s = elim (cases_eq h.board b) [
  | inl same ↦
      let A : ℕ → Type 0 = λ x. Allowed (position_after v T x) h.what in
      let here : Allowed (position_after v T b) h.what = subst A same allowed in
      let list : moves_of b (T ++ h ∷ []) ≡ moves_of b T ++ h.what ∷ [] =
      subst (λ x. moves_of b (T ++ one x h.what) ≡ moves_of b T ++ h.what ∷ []) (sym same) (moves_of-same b T h.what) in
      subst (IsBalanced v) (sym list)
      (balanced_next v (moves_of b T) (position_after v T b) refl refl refl h.what (sound_after v T b legal) here s)
  | inr other ↦ subst (IsBalanced v) (sym (moves_of-other h.board b T h.what other)) s
]

balanced : (v : Variant) (b : ℕ) (T : List HalfMove) → IsLegal v T → IsBalanced v (moves_of b T)
balanced v b T legal =
    legal_induction v (λ U. IsBalanced v (moves_of b U)) (balanced_start v) (balanced_step v b) T legal

-- nobody drops more than came into the hand

count_more : (f : Ply → Bool) (v : Variant) (T : List HalfMove) (d e : ℕ) (m : Move) →
    count_by f (history v T e) ≤ count_by f (history v (T ++ one d m) e)
count_more f v T d e m = elim (cases_eq d e) [
  | inl same ↦ subst (λ x. count_by f (history v T e) ≤ count_by f (history v (T ++ one x m) e)) (sym same)
      (omega (arith, count_push f (history v T e) (history v (T ++ one e m) e) _ (history-same v T e m)))
  | inr other ↦ omega (arith, ap (count_by f) (history-other v T d e m other))
]

gained-more : (v : Variant) (T : List HalfMove) (d b : ℕ) (m : Move) (c : Colour) (k : Kind) →
    gained v T b c k ≤ gained v (T ++ one d m) b c k
gained-more Chess T d b m c k = omega arith
gained-more (Fischer number) T d b m c k = omega arith
gained-more Crazyhouse T d b m c k = count_more (captures c k) Crazyhouse T d b m
gained-more Bughouse T d b m c k = count_more (loses c k) Bughouse T d (other_board b) m

abbrev IsPaid : Variant → List HalfMove → Type 0
IsPaid v T = (b : ℕ) (c : Colour) (k : Kind) → spent v T b c k ≤ gained v T b c k

paid_next : (v : Variant) (T : List HalfMove) (h : HalfMove) → IsLegal v T → Allowed (position_after v T h.board) h.what
    → IsPaid v T → IsPaid v (T ++ h ∷ [])
paid_next v T h legal allowed paid b c k = elim (cases_eq h.board b) [
  | inl same ↦ subst (λ x. spent v (T ++ h ∷ []) x c k ≤ gained v (T ++ h ∷ []) x c k) same
      (paid-append v T h.board h.what (paid h.board) allowed c k)
  | inr other ↦
      let still : spent v (T ++ h ∷ []) b c k ≡ spent v T b c k =
      ap (count_by (drops c k)) (history-other v T h.board b h.what other) in
      omega (arith, still, paid b c k, gained-more v T h.board b h.what c k)
]

nothing_spent : (v : Variant) → IsPaid v []
nothing_spent v b c k = omega arith

pub legal_paid : (v : Variant) (T : List HalfMove) → IsLegal v T → IsPaid v T
legal_paid v T legal = legal_induction v (IsPaid v) (nothing_spent v) (paid_next v) T legal

-- who captures a man, and whose it was, count the same men
of_colours : (by c : Colour) (x : Bool) →
    cond {A = ℕ} (same_colour by White && x) 1 0 + cond {A = ℕ} (same_colour by Black && x) 1 0
    ≡ cond {A = ℕ} (same_colour c White && x) 1 0 + cond {A = ℕ} (same_colour c Black && x) 1 0
of_colours White White x = refl
of_colours White Black x = omega arith
of_colours Black White x = omega arith
of_colours Black Black x = refl

shared_capture : (by : Colour) (k : Kind) (o : Option Man) →
    cond {A = ℕ} (same_colour by White && hands_over k o) 1 0
    + cond {A = ℕ} (same_colour by Black && hands_over k o) 1 0
    ≡ cond {A = ℕ} (is_held_by White o && hands_over k o) 1 0 + cond {A = ℕ} (is_held_by Black o && hands_over k o) 1 0
shared_capture White k None = refl
shared_capture Black k None = refl
shared_capture White k (Some m) = of_colours White m.colour (hands_over k (Some m))
shared_capture Black k (Some m) = of_colours Black m.colour (hands_over k (Some m))

count_cons : (f : Ply → Bool) (x : Ply) (H : List Ply) → count_by f (x ∷ H) ≡ cond (f x) 1 0 + count_by f H
count_cons f x H = sum_by-cons (λ h. cond (f h) 1 0) x H

captures_shared : (k : Kind) (H : List Ply) →
    count_by (captures White k) H + count_by (captures Black k) H
    ≡ count_by (loses White k) H + count_by (loses Black k) H
captures_shared k [] = refl
captures_shared k (x ∷ H) =
    let here = shared_capture x.by k (taken x.before x.what) in
    let rest = captures_shared k H in
    omega (
      arith,
      here,
      rest,
      count_cons (captures White k) x H,
      count_cons (captures Black k) x H,
      count_cons (loses White k) x H,
      count_cons (loses Black k) x H,
    )

-- how many of a kind are in the hand that is what came less what went
in_hand : (v : Variant) (T : List HalfMove) (b : ℕ) (c : Colour) (k : Kind)
    → (k ≡ King → gained v T b c k ≡ spent v T b c k) →
    count_in (hand_after v T b c) k ≡ gained v T b c k - spent v T b c k
in_hand v T b c Pawn h = refl
in_hand v T b c Knight h = refl
in_hand v T b c Bishop h = refl
in_hand v T b c Rook h = refl
in_hand v T b c Queen h = refl
in_hand v T b c King h = omega (arith, h refl)

nothing_gained : (v : Variant) (T : List HalfMove) (b : ℕ) (c : Colour) (k : Kind) → ¬ HasDrops v → gained v T b c k ≡ 0
nothing_gained Chess T b c k none = refl
nothing_gained (Fischer number) T b c k none = refl
nothing_gained Crazyhouse T b c k none = absurd (none tt)
nothing_gained Bughouse T b c k none = absurd (none tt)

chess_kept : (v : Variant) (T : List HalfMove) (b : ℕ) (c : Colour) (k : Kind) → ¬ HasDrops v → IsLegal v T →
    men_of c k (place_from v (array_of v) White (moves_of b T)) + captured v T b c k ≡ one_set k
chess_kept v T b c k none legal =
    let s = (balanced v b T legal).men c k in
    let p : spent v T b c k ≤ gained v T b c k = legal_paid v T legal b c k in
    omega (arith, s, p, nothing_gained v T b c k none)

king_in_crazyhouse : (T : List HalfMove) (b : ℕ) → IsLegal Crazyhouse T → (c : Colour) →
    gained Crazyhouse T b c King ≡ spent Crazyhouse T b c King
king_in_crazyhouse T b legal White =
    let s = balanced Crazyhouse b T legal in
    omega (
      arith,
      captures_shared King (history Crazyhouse T b),
      s.kings_kept White,
      s.kings_kept Black,
      s.kings_undropped White,
    )
king_in_crazyhouse T b legal Black =
    let s = balanced Crazyhouse b T legal in
    omega (
      arith,
      captures_shared King (history Crazyhouse T b),
      s.kings_kept White,
      s.kings_kept Black,
      s.kings_undropped Black,
    )

crazyhouse_kept : (T : List HalfMove) (b : ℕ) (k : Kind) → IsLegal Crazyhouse T →
    men_of White k (place_from Crazyhouse (array_of Crazyhouse) White (moves_of b T)) +
    men_of Black k (place_from Crazyhouse (array_of Crazyhouse) White (moves_of b T)) +
    (count_in (hand_after Crazyhouse T b White) k + count_in (hand_after Crazyhouse T b Black) k) ≡ 2 * one_set k
crazyhouse_kept T b k legal =
    let s = balanced Crazyhouse b T legal in
    let king : (c : Colour) → k ≡ King → gained Crazyhouse T b c k ≡ spent Crazyhouse T b c k =
    λ c e. subst (λ j. gained Crazyhouse T b c j ≡ spent Crazyhouse T b c j) (sym e) (king_in_crazyhouse T b legal c) in
    let w = in_hand Crazyhouse T b White k (king White) in
    let x = in_hand Crazyhouse T b Black k (king Black) in
    omega (
      arith,
      s.men White k,
      s.men Black k,
      captures_shared k (history Crazyhouse T b),
      w,
      x,
      legal_paid Crazyhouse T legal b White k,
      legal_paid Crazyhouse T legal b Black k,
    )

king_in_pair : (T : List HalfMove) (b : ℕ) → IsLegal Bughouse T → (c : Colour)
    → gained Bughouse T b c King ≡ spent Bughouse T b c King
king_in_pair T b legal c =
    omega
    (arith, (balanced Bughouse (other_board b) T legal).kings_kept c, (balanced Bughouse b T legal).kings_undropped c)

pair_kept : (T : List HalfMove) (c : Colour) (k : Kind) → IsLegal Bughouse T →
    men_of c k (place_from Bughouse (array_of Bughouse) White (moves_of 1 T)) +
    men_of c k (place_from Bughouse (array_of Bughouse) White (moves_of 2 T)) +
    (count_in (hand_after Bughouse T 1 c) k + count_in (hand_after Bughouse T 2 c) k) ≡ 2 * one_set k
pair_kept T c k legal =
    let king : (b : ℕ) → k ≡ King → gained Bughouse T b c k ≡ spent Bughouse T b c k =
    λ b e. subst (λ j. gained Bughouse T b c j ≡ spent Bughouse T b c j) (sym e) (king_in_pair T b legal c) in
    omega (
      arith,
      (balanced Bughouse 1 T legal).men c k,
      (balanced Bughouse 2 T legal).men c k,
      in_hand Bughouse T 1 c k (king 1),
      in_hand Bughouse T 2 c k (king 2),
      legal_paid Bughouse T legal 1 c k,
      legal_paid Bughouse T legal 2 c k,
    )

pub census_kept : CensusStays
census_kept = record { chess = chess_kept; crazyhouse = crazyhouse_kept; pair = pair_kept }

-- Proofs of the laws in specs/Laws.antt.
use Rattle.std.proofs.Common.{arith, ◌≡◌, ◌≢◌, ℕ, ◌+◌, ◌-◌, ◌<◌, ◌≤◌, ◌⊎◌, ◌++◌, ◌∷◌, [], List, Bool, true, false, ◌&&◌, not, cond, is_some, length, max, reverse, take_while, refl, sym, ap, subst, ◌∙◌, inl, inr, Option, Some, None, slice_set, append_assoc}
use Rattle.std.proofs.lemmas.Bool.{cases_order}
use Rattle.std.proofs.lemmas.List.{length-set, get_or-set_other, get_or-set_same, reverse-append, append-nil}
use Rattle.std.proofs.lemmas.List.Sums.{take_while-cons}
use Rattle.std.specs.Int.{abs_diff}
use Rattle.chess_model.specs.declared.man.Colour.{Colour}
use Rattle.chess_model.specs.declared.man.Colour.TheVariants.{White, Black}
use Rattle.chess_model.specs.declared.man.Kind.{Kind}
use Rattle.chess_model.specs.declared.man.Kind.TheVariants.{Pawn, Knight, Bishop, Rook, Queen, King}
use Rattle.chess_model.specs.declared.man.Man.{Man}
use Rattle.chess_model.specs.declared.moves.Move.{Move}
use Rattle.chess_model.specs.declared.moves.Move.TheVariants.{Plain, Castle, Drop}
use Rattle.chess_model.specs.declared.variant.Variant.{Variant}
use Rattle.chess_model.specs.declared.variant.Variant.TheVariants.{Chess}
use Rattle.chess_model.specs.Squares.{file_of, rank_of, square_at, files_apart, ranks_apart, distance, toward, along}
use Rattle.chess_model.specs.Placement.{Placement, man_at, opposite, unpromoted, array_of, king_home, rook_home, king_end, rook_end}
use Rattle.chess_model.specs.Reach.{IsForward, IsStraight, IsDiagonal, IsStep, Clear, IsOpen, Strikes}
use Rattle.chess_model.specs.Attacked.{StrikesAs, IsAttacked}
use Rattle.chess_model.specs.MoveList.{HalfMove, Ply, is_pawn, moves_of, place_after, place_from, taken, taking_square, landed, history}
use Rattle.chess_model.specs.RightsAndCounts.{right_stands, keeps_right, is_quiet, quiet_count}
use Rattle.chess_model.specs.Census.{all_men}
use Rattle.chess_model.specs.Position.{Position}
use Rattle.chess_model.specs.Laws.{MovesOneMan, MovesKingAndRook, MeetsOwnKind, IsIrreversible, CountsQuietMoves, EachSquareIsKnown, AttackGoesBothWays, RightsNeverComeBack, NoMenAreMade}
use Rattle.chess_model.proofs.MoreMoves.{last_ply, history-same, history-other, right_stands-append}
use Rattle.chess_model.proofs.StandsAfter.{Stands-next}
use Rattle.chess_model.proofs.Arrays.{length-array}
use Rattle.chess_model.proofs.NoMoreMen.{all_men-next, length-place_after, taking_square-lt, taking_square-differs, origin, homes}
use Rattle.std.specs.Cmp.{first_so}

-- lines

toward-back : (x y k d : ℕ) → (x ≡ y) ⊎ ((x + d ≡ y) ⊎ (y + d ≡ x)) → k ≤ d → toward y x k ≡ toward x y (d - k)
toward-back x y k d (inl same) h = omega arith
toward-back x y k d (inr (inl up)) h = omega arith
toward-back x y k d (inr (inr down)) h = omega arith

-- two squares of one line: each coordinate stays or goes the whole distance
record OnLine (a b : ℕ) : Type 0 where
  file : (file_of a ≡ file_of b) ⊎ ((file_of a + distance a b ≡ file_of b) ⊎ (file_of b + distance a b ≡ file_of a))
  rank : (rank_of a ≡ rank_of b) ⊎ ((rank_of a + distance a b ≡ rank_of b) ⊎ (rank_of b + distance a b ≡ rank_of a))

files-sym : (a b : ℕ) → files_apart a b ≡ files_apart b a
files-sym a b = omega arith

ranks-sym : (a b : ℕ) → ranks_apart a b ≡ ranks_apart b a
ranks-sym a b = omega arith

distance-sym : (a b : ℕ) → distance a b ≡ distance b a
distance-sym a b = λ i. max (files-sym a b i) (ranks-sym a b i)

along-back : (a b k : ℕ) → OnLine a b → k ≤ distance a b → along b a k ≡ along a b (distance a b - k)
along-back a b k line h =
    let file = toward-back (file_of a) (file_of b) k (distance a b) line.file h in
    let rank = toward-back (rank_of a) (rank_of b) k (distance a b) line.rank h in
    λ i. square_at (file i) (rank i)

-- k steps from one end are d - k from the other
other_end : (d e k : ℕ) → d ≡ e → 0 < k → k < e → (0 < d - k) × (d - k < d) × (k ≤ d)
other_end d e k same some less = (omega arith, omega arith, omega arith)

Clear-back : (P : Placement) (a b : ℕ) → OnLine a b → Clear P a b → Clear P b a
Clear-back P a b line clear = record {
  empty = λ k some less.
      let back = other_end (distance a b) (distance b a) k (distance-sym a b) some less in
      ap (man_at P) (along-back a b k line back.2) ∙ clear.empty (distance a b - k) back.0 back.1;
}

pub Clear-near : (P : Placement) (a b : ℕ) → distance a b ≤ 1 → Clear P a b
Clear-near P a b near = record { empty = λ k some less. absurd (omega (arith, near, some, less)) }

apart : (x y d : ℕ) → abs_diff x y ≡ d → (x + d ≡ y) ⊎ (y + d ≡ x)
apart x y d e = elim (cases_order x y) [
  | inl same ↦ inl (omega arith)
  | inr other ↦ elim other [ inl lt ↦ inl (omega arith) | inr lt ↦ inr (omega arith) ]
]

max-zero_left : (x y : ℕ) → x ≡ 0 → max x y ≡ y
max-zero_left x y e = omega arith

max-zero_right : (x y : ℕ) → y ≡ 0 → max x y ≡ x
max-zero_right x y e = omega arith

max-same : (x y : ℕ) → x ≡ y → (max x y ≡ x) × (max x y ≡ y)
max-same x y e = (omega arith, omega arith)

pub no_diff : (x y : ℕ) → abs_diff x y ≡ 0 → x ≡ y
no_diff x y e = omega arith

OnLine-straight : (a b : ℕ) → IsStraight a b → OnLine a b
OnLine-straight a b step = elim (step.1) [
  | inl files ↦ record {
    file = inl (no_diff (file_of a) (file_of b) files);
    rank =
        inr
        (apart (rank_of a) (rank_of b) (distance a b) (sym (max-zero_left (files_apart a b) (ranks_apart a b) files)));
  }
  | inr ranks ↦ record {
    file =
        inr
        (apart (file_of a) (file_of b) (distance a b) (sym (max-zero_right (files_apart a b) (ranks_apart a b) ranks)));
    rank = inl (no_diff (rank_of a) (rank_of b) ranks);
  }
]

OnLine-diagonal : (a b : ℕ) → IsDiagonal a b → OnLine a b
OnLine-diagonal a b step =
    let both = max-same (files_apart a b) (ranks_apart a b) step.1 in
    record {
      file = inr (apart (file_of a) (file_of b) (distance a b) (sym both.0));
      rank = inr (apart (rank_of a) (rank_of b) (distance a b) (sym both.1));
    }

IsStraight-back : (a b : ℕ) → IsStraight a b → IsStraight b a
IsStraight-back a b step = (
  λ e. step.0 (sym e),
  elim (step.1) [
    | inl files ↦ inl (files-sym b a ∙ files)
    | inr ranks ↦ inr (ranks-sym b a ∙ ranks)
  ],
)

IsDiagonal-back : (a b : ℕ) → IsDiagonal a b → IsDiagonal b a
IsDiagonal-back a b step = (λ e. step.0 (sym e), files-sym b a ∙ step.1 ∙ ranks-sym a b)

IsForward-back : (c : Colour) (n a b : ℕ) → IsForward c n a b → IsForward (opposite c) n b a
IsForward-back White n a b h = h
IsForward-back Black n a b h = h

IsForward-near : (c : Colour) (a b : ℕ) → IsForward c 1 a b → ranks_apart b a ≡ 1
IsForward-near White a b h = omega (arith, h)
IsForward-near Black a b h = omega (arith, h)

IsStep-back : (c : Colour) (k : Kind) (a b : ℕ) → IsStep c k a b → IsStep (opposite c) k b a
unfolding IsStep
IsStep-back c Pawn a b step = (files-sym b a ∙ step.0, IsForward-back c 1 a b step.1)
IsStep-back c Knight a b step = elim step [
  | inl h ↦ inl (files-sym b a ∙ h.0, ranks-sym b a ∙ h.1)
  | inr h ↦ inr (files-sym b a ∙ h.0, ranks-sym b a ∙ h.1)
]
IsStep-back c Bishop a b step = IsDiagonal-back a b step
IsStep-back c Rook a b step = IsStraight-back a b step
IsStep-back c Queen a b step = elim step [ inl h ↦ inl (IsStraight-back a b h) | inr h ↦ inr (IsDiagonal-back a b h) ]
IsStep-back c King a b step = distance-sym b a ∙ step

near-max : (x y : ℕ) → x ≡ 1 → y ≡ 1 → max x y ≤ 1
near-max x y e h = omega arith

way-back : (P : Placement) (c : Colour) (k : Kind) (a b : ℕ) → IsStep c k a b → IsOpen k P a b → IsOpen k P b a
unfolding IsStep
way-back P c Pawn a b step way =
    Clear-near P b a
    (near-max (files_apart b a) (ranks_apart b a) (files-sym b a ∙ step.0) (IsForward-near c a b step.1))
way-back P c Knight a b step way = tt
way-back P c Bishop a b step way = Clear-back P a b (OnLine-diagonal a b step) way
way-back P c Rook a b step way = Clear-back P a b (OnLine-straight a b step) way
way-back P c Queen a b step way =
    elim step [
      | inl h ↦ Clear-back P a b (OnLine-straight a b h) way
      | inr h ↦ Clear-back P a b (OnLine-diagonal a b h) way
    ]
way-back P c King a b step way =
    let e : distance b a ≡ 1 = distance-sym b a ∙ step in Clear-near P b a (omega (arith, e))

pub Strikes-back : (P : Placement) (c : Colour) (k : Kind) (a b : ℕ) → Strikes P c k a b → Strikes P (opposite c) k b a
Strikes-back P c k a b h = record {
  step = IsStep-back c k a b h.step;
  open_way = way-back P c k a b h.step h.open_way;
}

pub opposite-opposite : (c : Colour) → opposite (opposite c) ≡ c
opposite-opposite White = refl
opposite-opposite Black = refl

meets : (P : Placement) (c : Colour) (a s : ℕ) → a < 64 → (man : Option Man) → man_at P a ≡ man
    → StrikesAs P c a s man →
    MeetsOwnKind P c s
meets P c a s h None e strikes = absurd strikes
meets P c a s h (Some m) e strikes = record {
  kind = m.kind;
  mark = m.promoted;
  from = a;
  on_board = h;
  man = e ∙ ap (λ (x : Colour). Some (record { colour = x; kind = m.kind; promoted = m.promoted })) strikes.0;
  line = Strikes-back P c m.kind a s strikes.1;
}

attacked : (P : Placement) (c : Colour) (s : ℕ) → MeetsOwnKind P c s → IsAttacked P c s
unfolding IsAttacked
attacked P c s h =
    let back = Strikes-back P (opposite c) h.kind s h.from h.line in
    let C : Colour → Type 0 = λ x. Strikes P x h.kind h.from s in
    let strikes : Strikes P c h.kind h.from s = subst C (opposite-opposite c) back in
    let M : Option Man → Type 0 = λ man. StrikesAs P c h.from s man in
    (h.from, h.on_board, subst M (sym h.man) (refl, strikes))

pub attack_both_ways : AttackGoesBothWays
unfolding IsAttacked
attack_both_ways P c s = (λ h. meets P c h.0 s h.1 (man_at P h.0) refl h.2, attacked P c s)

-- squares

squares-plain : (P : Placement) (a b : ℕ) (promo : Option Kind) → a < length P → b < length P
    → taking_square P a b < length P →
    a ≢ b → MovesOneMan P a b promo (place_after Chess P White (Plain a b promo))
squares-plain P a b promo ha hb ht differ =
    let t : ℕ = taking_square P a b in
    let man : Option Man = landed (man_at P a) promo in
    let lifted : Placement = slice_set P t None in
    let left : Placement = slice_set lifted a None in
    let away : t ≢ a = taking_square-differs P a b differ in
    let ha' : a < length lifted = omega (arith, ha, length-set P t None) in
    let hb' : b < length left = omega (arith, hb, length-set P t None, length-set lifted a None) in
    record {
      target = get_or-set_same left b man None hb';
      origin = get_or-set_other left b a man None differ ∙ get_or-set_same lifted a None None ha';
      taken = λ tb.
          get_or-set_other left b t man None tb ∙ get_or-set_other lifted a t None None away
          ∙ get_or-set_same P t None None ht;
      others = λ s sa sb st.
          get_or-set_other left b s man None sb ∙ get_or-set_other lifted a s None None sa
          ∙ get_or-set_other P t s None None st;
    }

squares-castle : (v : Variant) (P : Placement) (c : Colour) (long : Bool) → length P ≡ 64 →
    MovesKingAndRook v P c long (place_after v P c (Castle long))
squares-castle v P c long size =
    let at = homes v c long in
    let k : ℕ = king_home v c in
    let r : ℕ = rook_home v c long in
    let x : ℕ = king_end c long in
    let y : ℕ = rook_end c long in
    let king : Option Man = man_at P k in
    let rook : Option Man = man_at P r in
    let one_left : Placement = slice_set P k None in
    let both_left : Placement = slice_set one_left r None in
    let one_came : Placement = slice_set both_left x king in
    let hk : k < length P = omega (arith, size, at.king) in
    let hr : r < length one_left = omega (arith, size, at.rook, length-set P k None) in
    let hx : x < length both_left =
    omega (arith, size, at.king_goal, length-set P k None, length-set one_left r None) in
    let hy : y < length one_came =
    omega (arith, size, at.rook_goal, length-set P k None, length-set one_left r None, length-set both_left x king) in
    record {
      king = get_or-set_other one_came y x rook None at.goals_differ ∙ get_or-set_same both_left x king None hx;
      rook = get_or-set_same one_came y rook None hy;
      king_left = λ kx ky.
          get_or-set_other one_came y k rook None ky ∙ get_or-set_other both_left x k king None kx ∙
          get_or-set_other one_left r k None None at.differ ∙ get_or-set_same P k None None hk;
      rook_left = λ rx ry.
          get_or-set_other one_came y r rook None ry ∙ get_or-set_other both_left x r king None rx ∙
          get_or-set_same one_left r None None hr;
      others = λ s sk sr sx sy.
          get_or-set_other one_came y s rook None sy ∙ get_or-set_other both_left x s king None sx ∙
          get_or-set_other one_left r s None None sr ∙ get_or-set_other P k s None None sk;
    }

pub known_squares : EachSquareIsKnown
known_squares p (Plain a b promo) size h =
    let from = origin p a b promo (man_at p.men a) h.move.goes in
    squares-plain p.men a b promo (omega (arith, size, h.move.from)) (omega (arith, size, h.move.to))
    (omega (arith, size, taking_square-lt p.men a b h.move.from h.move.to)) from.1
known_squares p (Castle long) size h = squares-castle p.variant p.men p.to_move long size
known_squares p (Drop k to) size h =
    let on : to < length p.men = omega (arith, size, h.move.square) in
    record {
      target = get_or-set_same p.men to (unpromoted p.to_move k) None on;
      others = λ s away. get_or-set_other p.men to s (unpromoted p.to_move k) None away;
    }

-- rights

right_before : (v : Variant) (T : List HalfMove) (h : HalfMove) (b : ℕ) (c : Colour) (long : Bool) →
    right_stands v (history v (T ++ h ∷ []) b) c long ≡ true → right_stands v (history v T b) c long ≡ true
right_before v T h b c long stands =
    let own : right_stands v (history v (T ++ h ∷ []) h.board) c long ≡ true
    → right_stands v (history v T h.board) c long ≡ true =
    (λ now.
    let grown = ap (λ (H : List Ply). right_stands v H c long) (history-same v T h.board h.what) ∙
    right_stands-append v (history v T h.board) (last_ply v T h.board h.what) c long in
    first_so (right_stands v (history v T h.board) c long)
    (keeps_right v c long (last_ply v T h.board h.what).by h.what) (sym grown ∙ now)) in
    let other : h.board ≢ b → right_stands v (history v T b) c long ≡ true =
    (λ differ.
    sym (ap (λ (H : List Ply). right_stands v H c long) (history-other v T h.board b h.what differ)) ∙ stands) in
    let P : ℕ → Type 0 = λ x.
    right_stands v (history v (T ++ h ∷ []) x) c long ≡ true → right_stands v (history v T x) c long ≡ true in
    elim (cases_order h.board b) [
      | inl same ↦ subst P same own stands
      | inr differ ↦ other (λ e. elim differ [ inl lt ↦ omega (arith, lt, e) | inr lt ↦ omega (arith, lt, e) ])
    ]

pub rights_before : RightsNeverComeBack
rights_before v T [] b c long stands =
    let P : List HalfMove → Type 0 = λ x. right_stands v (history v x b) c long ≡ true in subst P (append-nil T) stands
rights_before v T (h ∷ more) b c long stands =
    let P : List HalfMove → Type 0 = λ x. right_stands v (history v x b) c long ≡ true in
    right_before v T h b c long
    (rights_before v (T ++ h ∷ []) more b c long (subst P (sym (append_assoc T (h ∷ []) more)) stands))

-- the quiet count

length_cond : (q : Bool) (x : Ply) (xs : List Ply) → length (cond q (x ∷ xs) []) ≡ cond q (length xs + 1) 0
length_cond true x xs = omega arith
length_cond false x xs = refl

quiet_step : (H : List Ply) (x : Ply)
    → quiet_count (H ++ x ∷ []) ≡ cond (is_quiet x.before x.what) (quiet_count H + 1) 0
quiet_step H x =
    let quiet : Ply → Bool = λ h. is_quiet h.before h.what in
    ap (λ (hs : List Ply). length (take_while quiet hs)) (reverse-append H (x ∷ [])) ∙
    ap length (take_while-cons quiet x (reverse H)) ∙
    length_cond (quiet x) x (take_while quiet (reverse H))

not_quiet : (p q : Bool) → (p ≡ true) ⊎ (q ≡ true) → (not p && not q) ≡ false
not_quiet true q h = refl
not_quiet false true h = refl
not_quiet false false (inl h) = cc
not_quiet false false (inr h) = cc

quiet : (p q : Bool) → ¬ ((p ≡ true) ⊎ (q ≡ true)) → (not p && not q) ≡ true
quiet true q h = absurd (h (inl refl))
quiet false true h = absurd (h (inr refl))
quiet false false h = refl

irreversible_not_quiet : (P : Placement) (m : Move) → IsIrreversible P m → is_quiet P m ≡ false
irreversible_not_quiet P (Plain a b promo) h = not_quiet (is_pawn (man_at P a)) (is_some (taken P (Plain a b promo))) h
irreversible_not_quiet P (Castle long) h = absurd h
irreversible_not_quiet P (Drop k to) h = refl

reversible_quiet : (P : Placement) (m : Move) → ¬ IsIrreversible P m → is_quiet P m ≡ true
reversible_quiet P (Plain a b promo) h = quiet (is_pawn (man_at P a)) (is_some (taken P (Plain a b promo))) h
reversible_quiet P (Castle long) h = refl
reversible_quiet P (Drop k to) h = absurd (h tt)

pub quiet_counted : CountsQuietMoves
quiet_counted = record {
  to_zero = λ H x h.
      quiet_step H x ∙ ap (λ (q : Bool). cond q (quiet_count H + 1) 0) (irreversible_not_quiet x.before x.what h);
  one_more = λ H x h.
      quiet_step H x ∙ ap (λ (q : Bool). cond q (quiet_count H + 1) 0) (reversible_quiet x.before x.what h);
}

-- men

length-place_from : (v : Variant) (P : Placement) (c : Colour) (ms : List Move)
    → length (place_from v P c ms) ≡ length P
length-place_from v P c [] = refl
length-place_from v P c (m ∷ ms) =
    length-place_from v (place_after v P c m) (opposite c) ms ∙ length-place_after v P c m

pub men_not_made : NoMenAreMade
men_not_made p T b m stands allowed =
    let size : length p.men ≡ 64 =
    ap (λ (q : Position). length q.men) stands.same
    ∙ length-place_from p.variant (array_of p.variant) White (moves_of b T) ∙ length-array p.variant in
    let next_stands = Stands-next p T b m allowed stands in
    let Q : Position → Type 0 = λ x. all_men x ≤ all_men p in
    subst Q next_stands.same (all_men-next p m size allowed)

-- Each test of specs/Tests.antt decides its relation.
use Rattle.std.proofs.Common.{arith, ◌≡◌, ℕ, ◌+◌, ◌-◌, ◌<◌, ◌≤◌, ◌⊎◌, Bool, true, false, ◌&&◌, ◌||◌, not, is_none, nat_eq, nat_lt, IsTrue, Option, Some, None, refl, sym, ap, ◌∙◌}
use Rattle.std.specs.Bool.{Decides}
use Rattle.std.proofs.lemmas.Bool.Decides.{Decides-eqb, Decides-ltb, Decides-and, Decides-or, Decides-not, Decides-like}
use Rattle.chess_model.specs.declared.man.Colour.{Colour}
use Rattle.chess_model.specs.declared.man.Colour.TheVariants.{White, Black}
use Rattle.chess_model.specs.declared.man.Kind.{Kind}
use Rattle.chess_model.specs.declared.man.Kind.TheVariants.{Pawn, Knight, Bishop, Rook, Queen, King}
use Rattle.chess_model.specs.declared.man.Man.{Man}
use Rattle.chess_model.specs.declared.moves.Move.{Move}
use Rattle.chess_model.specs.declared.moves.Move.TheVariants.{Plain, Castle, Drop}
use Rattle.chess_model.specs.declared.variant.Variant.{Variant}
use Rattle.chess_model.specs.declared.variant.Variant.TheVariants.{Chess, Crazyhouse, Bughouse, Fischer}
use Rattle.chess_model.specs.Squares.{rank_of, files_apart, ranks_apart, distance, along}
use Rattle.chess_model.specs.Men.{same_colour, same_kind, is_held_by, is_held_as}
use Rattle.chess_model.specs.Placement.{Placement, man_at, opposite, IsHeldBy, IsHeldAs, second_rank, last_rank, king_home, rook_home, king_end, rook_end}
use Rattle.chess_model.specs.Reach.{IsForward, IsStraight, IsDiagonal, IsKnightStep, IsStep, Clear, IsOpen, Strikes, IsAhead, Advances, PawnTakes, Goes, Reaches}
use Rattle.chess_model.specs.Attacked.{StrikesAs, StrikesFrom, IsAttacked, IsKingSafe}
use Rattle.chess_model.specs.MoveList.{place_after}
use Rattle.chess_model.specs.Holdings.{count_in}
use Rattle.chess_model.specs.Position.{Position, hand_of_side}
use Rattle.chess_model.specs.Allowed.{IsPromotion, HasPromotion, GoesAs, IsPlainMove, right_of, IsUnattackedWay, IsFreeFor, IsFreeWay, CanCastle, HasDrops, MayDropOn, CanDrop, IsMove, IsSafeAfter, Allowed}
use Rattle.chess_model.specs.Tests as test
use Rattle.chess_model.proofs.StandsAfter.{same_colour-eq, same_kind-eq}
use Rattle.chess_model.proofs.Among.{Among, list_all-each, list_all-from, Among-filter, Among-filtered, Among-range, Among-ranged, Decides-each_mapped, Decides-some_below}

pub never : {A : Type 0} → ¬ A → Decides false A
never none = (λ e. absurd (let h : false ≡ true = e in cc), λ a. absurd (none a))

pub always : {A : Type 0} → A → Decides true A
always a = (λ _. a, λ _. refl)

itself : (b : Bool) → Decides b (IsTrue b)
itself b = (λ e. e, λ e. e)

pub same_colour-self : (c : Colour) → same_colour c c ≡ true
same_colour-self White = refl
same_colour-self Black = refl

pub same_kind-self : (k : Kind) → same_kind k k ≡ true
same_kind-self Pawn = refl
same_kind-self Knight = refl
same_kind-self Bishop = refl
same_kind-self Rook = refl
same_kind-self Queen = refl
same_kind-self King = refl

pub Decides-colour : (c d : Colour) → Decides (same_colour c d) (c ≡ d)
Decides-colour c d = (same_colour-eq c d, λ e. ap (same_colour c) (sym e) ∙ same_colour-self c)

pub Decides-kind : (k j : Kind) → Decides (same_kind k j) (k ≡ j)
Decides-kind k j = (same_kind-eq k j, λ e. ap (same_kind k) (sym e) ∙ same_kind-self k)

pub Decides-none : {A : Type 0} (o : Option A) → Decides (is_none o) (o ≡ None)
Decides-none None = always refl
Decides-none (Some x) = never (λ e. cc)

pub Decides-held_by : (c : Colour) (man : Option Man) → Decides (is_held_by c man) (IsHeldBy c man)
Decides-held_by c None = never (λ e. e)
Decides-held_by c (Some m) = Decides-colour m.colour c

pub Decides-held_as : (c : Colour) (k : Kind) (man : Option Man) → Decides (is_held_as c k man) (IsHeldAs c k man)
Decides-held_as c k None = never (λ e. e)
Decides-held_as c k (Some m) =
    Decides-and (same_colour m.colour c) (same_kind m.kind k) (Decides-colour m.colour c) (Decides-kind m.kind k)

-- three facts, tested from the left
pub Decides-three : {A B C : Type 0} (x y z : Bool) → Decides x A → Decides y B → Decides z C
    → Decides (x && y && z) (A × B × C)
Decides-three {A} {B} {C} x y z a b c =
    Decides-like {P = (A × B) × C} (x && y && z) (λ t. (t.0.0, t.0.1, t.1)) (λ t. ((t.0, t.1), t.2))
    (Decides-and (x && y) z (Decides-and x y a b) c)

Decides-forward : (c : Colour) (n a b : ℕ) → Decides (test.is_forward c n a b) (IsForward c n a b)
Decides-forward White n a b = Decides-eqb (rank_of b) (rank_of a + n)
Decides-forward Black n a b = Decides-eqb (rank_of a) (rank_of b + n)

Decides-straight : (a b : ℕ) → Decides (test.is_straight a b) (IsStraight a b)
Decides-straight a b =
    Decides-and (not (nat_eq a b)) (nat_eq (files_apart a b) 0 || nat_eq (ranks_apart a b) 0)
    (Decides-not (nat_eq a b) (Decides-eqb a b))
    (Decides-or (nat_eq (files_apart a b) 0) (nat_eq (ranks_apart a b) 0)
    (Decides-eqb (files_apart a b) 0) (Decides-eqb (ranks_apart a b) 0))

Decides-diagonal : (a b : ℕ) → Decides (test.is_diagonal a b) (IsDiagonal a b)
Decides-diagonal a b =
    Decides-and (not (nat_eq a b)) (nat_eq (files_apart a b) (ranks_apart a b))
    (Decides-not (nat_eq a b) (Decides-eqb a b)) (Decides-eqb (files_apart a b) (ranks_apart a b))

two_steps : (f r : ℕ) (m n : ℕ) → Decides (nat_eq f m && nat_eq r n) ((f ≡ m) × (r ≡ n))
two_steps f r m n = Decides-and (nat_eq f m) (nat_eq r n) (Decides-eqb f m) (Decides-eqb r n)

Decides-knight : (a b : ℕ) → Decides (test.is_knight_step a b) (IsKnightStep a b)
Decides-knight a b =
    let f : ℕ = files_apart a b in
    let r : ℕ = ranks_apart a b in
    Decides-or (nat_eq f 1 && nat_eq r 2) (nat_eq f 2 && nat_eq r 1) (two_steps f r 1 2) (two_steps f r 2 1)

pub Decides-step : (c : Colour) (k : Kind) (a b : ℕ) → Decides (test.is_step c k a b) (IsStep c k a b)
unfolding IsStep
Decides-step c Pawn a b =
    Decides-and (nat_eq (files_apart a b) 1) (test.is_forward c 1 a b) (Decides-eqb (files_apart a b) 1)
    (Decides-forward c 1 a b)
Decides-step c Knight a b = Decides-knight a b
Decides-step c Bishop a b = Decides-diagonal a b
Decides-step c Rook a b = Decides-straight a b
Decides-step c Queen a b =
    Decides-or (test.is_straight a b) (test.is_diagonal a b) (Decides-straight a b) (Decides-diagonal a b)
Decides-step c King a b = Decides-eqb (distance a b) 1

-- 1 and the d - 1 numbers after it are those above 0 and below d
above_zero : (d k : ℕ) → 0 < k → k < d → (1 ≤ k) × (k < 1 + (d - 1))
above_zero d k some less = (omega arith, omega arith)

below_end : (d k : ℕ) → 1 ≤ k → k < 1 + (d - 1) → (0 < k) × (k < d)
below_end d k some less = (omega arith, omega arith)

pub Decides-clear : (P : Placement) (a b : ℕ) → Decides (test.is_clear P a b) (Clear P a b)
Decides-clear P a b =
    let d : ℕ = distance a b in
    Decides-like {P = (k : ℕ) → 1 ≤ k → k < 1 + (d - 1) → man_at P (along a b k) ≡ None} (test.is_clear P a b)
    (λ f. record { empty = λ k some less. let t = above_zero d k some less in f k t.0 t.1 })
    (λ clear k some less. let t = below_end d k some less in clear.empty k t.0 t.1)
    (Decides-each_mapped (λ s. is_none (man_at P s)) (along a b) (λ k. man_at P (along a b k) ≡ None)
    (λ k. Decides-none (man_at P (along a b k))) 1 (d - 1))

Decides-open : (k : Kind) (P : Placement) (a b : ℕ) → Decides (test.is_open k P a b) (IsOpen k P a b)
Decides-open Knight P a b = always tt
Decides-open Pawn P a b = Decides-clear P a b
Decides-open Bishop P a b = Decides-clear P a b
Decides-open Rook P a b = Decides-clear P a b
Decides-open Queen P a b = Decides-clear P a b
Decides-open King P a b = Decides-clear P a b

pub Decides-strikes : (P : Placement) (c : Colour) (k : Kind) (a b : ℕ)
    → Decides (test.strikes P c k a b) (Strikes P c k a b)
Decides-strikes P c k a b =
    Decides-like {P = IsStep c k a b × IsOpen k P a b} (test.strikes P c k a b)
    (λ t. record { step = t.0; open_way = t.1 }) (λ s. (s.step, s.open_way))
    (Decides-and (test.is_step c k a b) (test.is_open k P a b) (Decides-step c k a b) (Decides-open k P a b))

Decides-strikes_as : (P : Placement) (c : Colour) (a s : ℕ) (man : Option Man) →
    Decides (test.strikes_as P c a s man) (StrikesAs P c a s man)
Decides-strikes_as P c a s None = never (λ e. e)
Decides-strikes_as P c a s (Some m) =
    Decides-and (same_colour m.colour c) (test.strikes P c m.kind a s) (Decides-colour m.colour c)
    (Decides-strikes P c m.kind a s)

pub Decides-attacked : (P : Placement) (c : Colour) (s : ℕ) → Decides (test.is_attacked P c s) (IsAttacked P c s)
unfolding IsAttacked test.is_attacked
Decides-attacked P c s =
    Decides-some_below (λ a. test.strikes_as P c a s (man_at P a)) (λ a. StrikesFrom P c a s)
    (λ a. Decides-strikes_as P c a s (man_at P a)) 64

king_on_board : (P : Placement) (c : Colour) (s : ℕ) → Among s (test.kings P c)
    → (s < 64) × IsHeldAs c King (man_at P s)
king_on_board P c s a =
    let t = Among-filtered (λ s. is_held_as c King (man_at P s)) test.squares s a in
    let within = Among-ranged 0 64 s t.0 in
    (omega (arith, within.1), (Decides-held_as c King (man_at P s)).0 t.1)

king_among : (P : Placement) (c : Colour) (s : ℕ) → s < 64 → IsHeldAs c King (man_at P s) → Among s (test.kings P c)
king_among P c s less held =
    Among-filter (λ s. is_held_as c King (man_at P s)) test.squares s
    (Among-range 0 64 s (omega arith) (omega arith)) ((Decides-held_as c King (man_at P s)).1 held)

pub Decides-king_safe : (P : Placement) (c : Colour) → Decides (test.is_king_safe P c) (IsKingSafe P c)
unfolding test.is_king_safe
Decides-king_safe P c =
    let free : (s : ℕ) → Decides (not (test.is_attacked P (opposite c) s)) (¬ IsAttacked P (opposite c) s) =
    λ s. Decides-not (test.is_attacked P (opposite c) s) (Decides-attacked P (opposite c) s) in (
      λ e. record {
        safe = λ s less check.
            (free s).0
            (list_all-each (λ s. not (test.is_attacked P (opposite c) s)) (test.kings P c) e s
            (king_among P c s less check.0))
            check.1;
      },
      λ safe. list_all-from (λ s. not (test.is_attacked P (opposite c) s)) (test.kings P c) (λ s a.
          let king = king_on_board P c s a in
          (free s).1 (λ attacked. safe.safe s king.0 (king.1, attacked))),
    )

Decides-that : (o : Option ℕ) (s : ℕ) → Decides (test.is_that o s) (o ≡ Some s)
Decides-that None s = never (λ e. cc)
Decides-that (Some t) s = Decides-like {P = t ≡ s} (nat_eq t s) (λ e. ap Some e) (λ e. cc) (Decides-eqb t s)

Decides-ahead : (c : Colour) (a b : ℕ) → Decides (test.is_ahead c a b) (IsAhead c a b)
Decides-ahead c a b =
    Decides-or (test.is_forward c 1 a b) (test.is_forward c 2 a b && nat_eq (rank_of a) (second_rank c))
    (Decides-forward c 1 a b)
    (Decides-and (test.is_forward c 2 a b) (nat_eq (rank_of a) (second_rank c)) (Decides-forward c 2 a b)
    (Decides-eqb (rank_of a) (second_rank c)))

Decides-advances : (P : Placement) (c : Colour) (a b : ℕ) → Decides (test.advances P c a b) (Advances P c a b)
Decides-advances P c a b =
    let file : Bool = nat_eq (files_apart a b) 0 in
    let ahead : Bool = test.is_ahead c a b in
    let way : Bool = test.is_clear P a b in
    let free : Bool = is_none (man_at P b) in
    Decides-like {P = ((files_apart a b ≡ 0) × IsAhead c a b × Clear P a b) × (man_at P b ≡ None)}
    (file && ahead && way && free)
    (λ t. record { file = t.0.0; ahead = t.0.1; way = t.0.2; free = t.1 }) (λ h. ((h.file, h.ahead, h.way), h.free))
    (Decides-and (file && ahead && way) free
    (Decides-three file ahead way (Decides-eqb (files_apart a b) 0) (Decides-ahead c a b) (Decides-clear P a b))
    (Decides-none (man_at P b)))

Decides-pawn_takes : (P : Placement) (e : Option ℕ) (c : Colour) (a b : ℕ)
    → Decides (test.pawn_takes P e c a b) (PawnTakes P e c a b)
Decides-pawn_takes P e c a b =
    let step : Bool = test.is_step c Pawn a b in
    let enemy : Bool = is_held_by (opposite c) (man_at P b) in
    let passed : Bool = test.is_that e b in
    Decides-like {P = IsStep c Pawn a b × (IsHeldBy (opposite c) (man_at P b) ⊎ (e ≡ Some b))}
    (step && (enemy || passed))
    (λ t. record { step = t.0; enemy = t.1 }) (λ h. (h.step, h.enemy))
    (Decides-and step (enemy || passed) (Decides-step c Pawn a b)
    (Decides-or enemy passed (Decides-held_by (opposite c) (man_at P b)) (Decides-that e b)))

Decides-goes : (P : Placement) (c : Colour) (k : Kind) (a b : ℕ) → Decides (test.goes P c k a b) (Goes P c k a b)
Decides-goes P c k a b =
    let own : Bool = is_held_by c (man_at P b) in
    Decides-like {P = Strikes P c k a b × (¬ IsHeldBy c (man_at P b))} (test.strikes P c k a b && not own)
    (λ t. record { strikes = t.0; not_own = t.1 }) (λ h. (h.strikes, h.not_own))
    (Decides-and (test.strikes P c k a b) (not own) (Decides-strikes P c k a b)
    (Decides-not own (Decides-held_by c (man_at P b))))

Decides-reaches : (P : Placement) (e : Option ℕ) (c : Colour) (k : Kind) (a b : ℕ)
    → Decides (test.reaches P e c k a b) (Reaches P e c k a b)
Decides-reaches P e c Pawn a b =
    Decides-or (test.advances P c a b) (test.pawn_takes P e c a b) (Decides-advances P c a b)
    (Decides-pawn_takes P e c a b)
Decides-reaches P e c Knight a b = Decides-goes P c Knight a b
Decides-reaches P e c Bishop a b = Decides-goes P c Bishop a b
Decides-reaches P e c Rook a b = Decides-goes P c Rook a b
Decides-reaches P e c Queen a b = Decides-goes P c Queen a b
Decides-reaches P e c King a b = Decides-goes P c King a b

Decides-may_become : (promo : Option Kind) → Decides (test.may_become promo) (IsPromotion promo)
Decides-may_become None = never (λ e. e)
Decides-may_become (Some Pawn) = never (λ e. e)
Decides-may_become (Some Knight) = always tt
Decides-may_become (Some Bishop) = always tt
Decides-may_become (Some Rook) = always tt
Decides-may_become (Some Queen) = always tt
Decides-may_become (Some King) = never (λ e. e)

Decides-promotion : (c : Colour) (k : Kind) (b : ℕ) (promo : Option Kind)
    → Decides (test.has_promotion c k b promo) (HasPromotion c k b promo)
Decides-promotion c Pawn b promo =
    let last : Bool = nat_eq (rank_of b) (last_rank c) in
    let there : Decides last (rank_of b ≡ last_rank c) = Decides-eqb (rank_of b) (last_rank c) in
    Decides-or (last && test.may_become promo) (not last && is_none promo)
    (Decides-and last (test.may_become promo) there (Decides-may_become promo))
    (Decides-and (not last) (is_none promo) (Decides-not last there) (Decides-none promo))
Decides-promotion c Knight b promo = Decides-none promo
Decides-promotion c Bishop b promo = Decides-none promo
Decides-promotion c Rook b promo = Decides-none promo
Decides-promotion c Queen b promo = Decides-none promo
Decides-promotion c King b promo = Decides-none promo

Decides-goes_as : (p : Position) (a b : ℕ) (promo : Option Kind) (man : Option Man) →
    Decides (test.goes_as p a b promo man) (GoesAs p a b promo man)
Decides-goes_as p a b promo None = never (λ e. e)
Decides-goes_as p a b promo (Some m) =
    let own : Bool = same_colour m.colour p.to_move in
    let becomes : Bool = test.has_promotion p.to_move m.kind b promo in
    let there : Bool = test.reaches p.men p.en_passant p.to_move m.kind a b in
    Decides-like {P =
    (m.colour ≡ p.to_move) × HasPromotion p.to_move m.kind b promo × Reaches p.men p.en_passant p.to_move m.kind a b}
    (own && becomes && there) (λ t. (t.0, t.2, t.1)) (λ t. (t.0, t.2, t.1))
    (Decides-three own becomes there (Decides-colour m.colour p.to_move) (Decides-promotion p.to_move m.kind b promo)
    (Decides-reaches p.men p.en_passant p.to_move m.kind a b))

Decides-plain_move : (p : Position) (a b : ℕ) (promo : Option Kind)
    → Decides (test.is_plain_move p a b promo) (IsPlainMove p a b promo)
Decides-plain_move p a b promo =
    Decides-like {P = (a < 64) × (b < 64) × GoesAs p a b promo (man_at p.men a)} (test.is_plain_move p a b promo)
    (λ t. record { from = t.0; to = t.1; goes = t.2 }) (λ h. (h.from, h.to, h.goes))
    (Decides-three (nat_lt a 64) (nat_lt b 64) (test.goes_as p a b promo (man_at p.men a))
    (Decides-ltb a 64) (Decides-ltb b 64) (Decides-goes_as p a b promo (man_at p.men a)))

Decides-free_way : (P : Placement) (king rook a b : ℕ)
    → Decides (test.is_free_way P king rook a b) (IsFreeWay P king rook a b)
Decides-free_way P king rook a b =
    Decides-like {P = (k : ℕ) → 0 ≤ k → k < 0 + (distance a b + 1) → IsFreeFor P king rook (along a b k)}
    (test.is_free_way P king rook a b)
    (λ f. record { free = λ k less. f k (omega arith) (omega arith) })
    (λ h k from less. h.free k (omega arith))
    (Decides-each_mapped (λ s. nat_eq s king || (nat_eq s rook || is_none (man_at P s))) (along a b)
    (λ k. IsFreeFor P king rook (along a b k))
    (λ k. let s : ℕ = along a b k in
    Decides-or (nat_eq s king) (nat_eq s rook || is_none (man_at P s)) (Decides-eqb s king)
    (Decides-or (nat_eq s rook) (is_none (man_at P s)) (Decides-eqb s rook) (Decides-none (man_at P s))))
    0 (distance a b + 1))

Decides-unattacked_way : (P : Placement) (by : Colour) (a b : ℕ)
    → Decides (test.is_unattacked_way P by a b) (IsUnattackedWay P by a b)
Decides-unattacked_way P by a b =
    Decides-like {P = (k : ℕ) → 0 ≤ k → k < 0 + (distance a b + 1) → ¬ IsAttacked P by (along a b k)}
    (test.is_unattacked_way P by a b)
    (λ f. record { free = λ k less. f k (omega arith) (omega arith) })
    (λ h k from less. h.free k (omega arith))
    (Decides-each_mapped (λ s. not (test.is_attacked P by s)) (along a b) (λ k. ¬ IsAttacked P by (along a b k))
    (λ k. Decides-not (test.is_attacked P by (along a b k)) (Decides-attacked P by (along a b k)))
    0 (distance a b + 1))

Decides-castle : (p : Position) (long : Bool) → Decides (test.can_castle p long) (CanCastle p long)
Decides-castle p long =
    let c : Colour = p.to_move in
    let king : ℕ = king_home p.variant c in
    let rook : ℕ = rook_home p.variant c long in
    let king_goal : ℕ = king_end c long in
    let rook_goal : ℕ = rook_end c long in
    let right : Bool = right_of p.rights c long in
    Decides-like {P =
    IsTrue right
    × (IsFreeWay p.men king rook king king_goal × IsFreeWay p.men king rook rook rook_goal
    × IsUnattackedWay p.men (opposite c) king king_goal)}
    (test.can_castle p long)
    (λ t. record { right = t.0; king_way = t.1.0; rook_way = t.1.1; walk = t.1.2 })
    (λ h. (h.right, (h.king_way, h.rook_way, h.walk)))
    (Decides-and right (test.can_castle_between p.men (opposite c) king rook king_goal rook_goal) (itself right)
    (Decides-three (test.is_free_way p.men king rook king king_goal) (test.is_free_way p.men king rook rook rook_goal)
    (test.is_unattacked_way p.men (opposite c) king king_goal)
    (Decides-free_way p.men king rook king king_goal) (Decides-free_way p.men king rook rook rook_goal)
    (Decides-unattacked_way p.men (opposite c) king king_goal)))

pub Decides-has_drops : (v : Variant) → Decides (test.has_drops v) (HasDrops v)
Decides-has_drops Chess = never (λ e. e)
Decides-has_drops (Fischer number) = never (λ e. e)
Decides-has_drops Crazyhouse = always tt
Decides-has_drops Bughouse = always tt

pub Decides-may_drop_on : (k : Kind) (to : ℕ) → Decides (test.may_drop_on k to) (MayDropOn k to)
Decides-may_drop_on Pawn to =
    Decides-and (nat_lt 0 (rank_of to)) (nat_lt (rank_of to) 7) (Decides-ltb 0 (rank_of to))
    (Decides-ltb (rank_of to) 7)
Decides-may_drop_on Knight to = always tt
Decides-may_drop_on Bishop to = always tt
Decides-may_drop_on Rook to = always tt
Decides-may_drop_on Queen to = always tt
Decides-may_drop_on King to = always tt

Decides-drop : (p : Position) (k : Kind) (to : ℕ) → Decides (test.can_drop p k to) (CanDrop p k to)
Decides-drop p k to =
    let variant : Bool = test.has_drops p.variant in
    let held : Bool = nat_lt 0 (count_in (hand_of_side p p.to_move) k) in
    let square : Bool = nat_lt to 64 in
    let free : Bool = is_none (man_at p.men to) in
    Decides-like {P =
    (HasDrops p.variant × (0 < count_in (hand_of_side p p.to_move) k) × (to < 64)) × (man_at p.men to ≡ None)
    × MayDropOn k to}
    (test.can_drop p k to)
    (λ t. record { variant = t.0.0; held = t.0.1; square = t.0.2; free = t.1; rank = t.2 })
    (λ h. ((h.variant, h.held, h.square), h.free, h.rank))
    (Decides-three (variant && held && square) free (test.may_drop_on k to)
    (Decides-three variant held square (Decides-has_drops p.variant)
    (Decides-ltb 0 (count_in (hand_of_side p p.to_move) k)) (Decides-ltb to 64))
    (Decides-none (man_at p.men to)) (Decides-may_drop_on k to))

pub Decides-move : (p : Position) (m : Move) → Decides (test.is_move p m) (IsMove p m)
unfolding test.is_move
Decides-move p (Plain a b promo) = Decides-plain_move p a b promo
Decides-move p (Castle long) = Decides-castle p long
Decides-move p (Drop k to) = Decides-drop p k to

pub Decides-safe_after : (p : Position) (m : Move) → Decides (test.is_safe_after p m) (IsSafeAfter p m)
unfolding test.is_safe_after
Decides-safe_after p m = Decides-king_safe (place_after p.variant p.men p.to_move m) p.to_move

pub Decides-allowed : (p : Position) (m : Move) → Decides (test.is_allowed p m) (Allowed p m)
unfolding test.is_allowed
Decides-allowed p m =
    Decides-like {P = IsMove p m × IsSafeAfter p m} (test.is_move p m && test.is_safe_after p m)
    (λ t. record { move = t.0; safe = t.1 }) (λ h. (h.move, h.safe))
    (Decides-and (test.is_move p m) (test.is_safe_after p m) (Decides-move p m) (Decides-safe_after p m))

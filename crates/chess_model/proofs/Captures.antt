-- What a plain move takes in a sound position: nothing, an enemy man that isn't a king, or the pawn that has just
-- passed.
use Rattle.std.proofs.Common.{arith, ◌≡◌, ◌≢◌, ℕ, ◌<◌, ◌≤◌, inl, inr, Bool, true, false, ◌&&◌, not, cond, is_none, nat_eq, Option, Some, None, refl, sym, ap, subst, ◌∙◌}
use Rattle.std.proofs.lemmas.Bool.{ne_eqb, eq-eqb, and_left}
use Rattle.chess_model.specs.declared.man.Colour.{Colour}
use Rattle.chess_model.specs.declared.man.Colour.TheVariants.{White, Black}
use Rattle.chess_model.specs.declared.man.Kind.{Kind}
use Rattle.chess_model.specs.declared.man.Kind.TheVariants.{Pawn, Knight, Bishop, Rook, Queen, King}
use Rattle.chess_model.specs.declared.man.Man.{Man}
use Rattle.chess_model.specs.declared.moves.Move.{Move}
use Rattle.chess_model.specs.declared.moves.Move.TheVariants.{Plain, Castle, Drop}
use Rattle.chess_model.specs.Squares.{file_of, rank_of, files_apart, square_at, distance}
use Rattle.chess_model.specs.Placement.{man_at, opposite, IsHeldBy, IsHeldAs}
use Rattle.chess_model.specs.Reach.{IsForward, IsStep, Strikes, Goes, Reaches}
use Rattle.chess_model.specs.Attacked.{StrikesAs, IsAttacked, IsKingSafe}
use Rattle.chess_model.specs.MoveList.{is_pawn_kind, is_pawn, is_en_passant, taking_square, taken, landed, place_after}
use Rattle.chess_model.specs.Position.{Position}
use Rattle.chess_model.specs.Allowed.{HasPromotion, GoesAs, IsPlainMove, Allowed}
use Rattle.chess_model.specs.Laws.{MovesOneMan}
use Rattle.chess_model.specs.LegalPositions.{behind, HasPassed, IsSound, IsPrey, IsPassing, MovesAMan}
use Rattle.chess_model.proofs.ChessLaws.{Clear-near, opposite-opposite, known_squares}

-- the own man that makes a plain move
pub record IsMover (p : Position) (a b : ℕ) (promo : Option Kind) (m : Man) : Type 0 where
  pub there : man_at p.men a ≡ Some m
  pub own : m.colour ≡ p.to_move
  pub reaches : Reaches p.men p.en_passant p.to_move m.kind a b
  pub becomes : HasPromotion p.to_move m.kind b promo

mover_of : (p : Position) (a b : ℕ) (promo : Option Kind) (man : Option Man) → man_at p.men a ≡ man
    → GoesAs p a b promo man →
    (m : Man) × IsMover p a b promo m
mover_of p a b promo None e goes = absurd goes
mover_of p a b promo (Some m) e goes = (m, record { there = e; own = goes.0; reaches = goes.1; becomes = goes.2 })

pub mover : (p : Position) (a b : ℕ) (promo : Option Kind) → IsPlainMove p a b promo → (m : Man) × IsMover p a b promo m
mover p a b promo h = mover_of p a b promo (man_at p.men a) refl h.goes

-- the three ways
pub data Take (p : Position) (a b : ℕ) : Type 0 where
  nothing : taking_square p.men a b ≡ b → man_at p.men b ≡ None → Take p a b
  on_target : (x : Man) → taking_square p.men a b ≡ b → man_at p.men b ≡ Some x → IsPrey p x → Take p a b
  passing : taking_square p.men a b ≡ behind (opposite p.to_move) b → HasPassed p.men (opposite p.to_move) b →
      taking_square p.men a b ≢ b → IsPassing p a b → Take p a b

take_on : (q : Bool) (s b : ℕ) → q ≡ false → cond q s b ≡ b
take_on true s b e = cc
take_on false s b e = refl

take_beside : (q : Bool) (s b : ℕ) → q ≡ true → cond q s b ≡ s
take_beside true s b e = refl
take_beside false s b e = cc

not_both : (x y z : Bool) → y ≡ false → (x && (y && z)) ≡ false
not_both true true z e = cc
not_both true false z e = refl
not_both false y z e = refl

same_file : (x y z : Bool) → z ≡ false → (x && (y && z)) ≡ false
same_file true true z e = e
same_file true false z e = refl
same_file false y z e = refl

all_three : (x y z : Bool) → x ≡ true → y ≡ true → z ≡ true → (x && (y && z)) ≡ true
all_three true true true e f g = refl
all_three true true false e f g = cc
all_three true false z e f g = cc
all_three false y z e f g = cc

not_equal : (m n : ℕ) → m ≢ n → not (nat_eq m n) ≡ true
not_equal m n h = ap not (ne_eqb m n h)

equal : (m n : ℕ) → m ≡ n → not (nat_eq m n) ≡ false
equal m n h = ap not (eq-eqb m n h)

other_colour : (c d : Colour) → ¬ (c ≡ d) → c ≡ opposite d
other_colour White White h = absurd (h refl)
other_colour White Black h = refl
other_colour Black White h = refl
other_colour Black Black h = absurd (h refl)

-- a king of the other side can't stand where an own man strikes
spared : (p : Position) (a b : ℕ) (m x : Man) → IsKingSafe p.men (opposite p.to_move) → a < 64 → b < 64
    → man_at p.men a ≡ Some m →
    m.colour ≡ p.to_move → Strikes p.men p.to_move m.kind a b → man_at p.men b ≡ Some x → x.colour ≡ opposite p.to_move
    → IsPrey p x
unfolding IsAttacked
spared p a b m x safe ha hb from own strikes there enemy = record {
  enemy = enemy;
  no_king = λ king.
      let struck : StrikesAs p.men p.to_move a b (man_at p.men a) =
      subst (λ o. StrikesAs p.men p.to_move a b o) (sym from) (own, strikes) in
      let by : StrikesAs p.men (opposite (opposite p.to_move)) a b (man_at p.men a) =
      subst (λ c. StrikesAs p.men c a b (man_at p.men a)) (sym (opposite-opposite p.to_move)) struck in
      safe.safe b hb (subst (λ o. IsHeldAs (opposite p.to_move) King o) (sym there) (enemy, king), (a, ha, by));
}

-- what stands where an own man strikes
meets : (p : Position) (a b : ℕ) (m : Man) → IsKingSafe p.men (opposite p.to_move) → a < 64 → b < 64
    → man_at p.men a ≡ Some m →
    m.colour ≡ p.to_move → Strikes p.men p.to_move m.kind a b → ¬ IsHeldBy p.to_move (man_at p.men b) →
    taking_square p.men a b ≡ b → (o : Option Man) → man_at p.men b ≡ o → Take p a b
meets p a b m safe ha hb from own strikes not_own square None there = nothing square there
meets p a b m safe ha hb from own strikes not_own square (Some x) there =
    let enemy : x.colour ≡ opposite p.to_move =
    other_colour x.colour p.to_move (λ e. not_own (subst (λ o. IsHeldBy p.to_move o) (sym there) e)) in
    on_target x square there (spared p a b m x safe ha hb from own strikes there enemy)

piece_takes : (p : Position) (a b : ℕ) (m : Man) → IsKingSafe p.men (opposite p.to_move) → a < 64 → b < 64
    → man_at p.men a ≡ Some m →
    m.colour ≡ p.to_move → is_pawn (Some m) ≡ false → Goes p.men p.to_move m.kind a b → Take p a b
piece_takes p a b m safe ha hb from own piece goes =
    let q : is_en_passant p.men a b ≡ false =
    and_left (is_pawn (man_at p.men a)) (is_none (man_at p.men b) && not (nat_eq (file_of a) (file_of b)))
    (ap is_pawn from ∙ piece) in
    meets p a b m safe ha hb from own goes.strikes goes.not_own
    (take_on (is_en_passant p.men a b) (square_at (file_of b) (rank_of a)) b q) (man_at p.men b) refl

-- the own side isn't the other
pub not_opposite : (c : Colour) → c ≡ opposite c → ⊥
not_opposite White e = cc
not_opposite Black e = cc

enemy_not_own : (c : Colour) (o : Option Man) → IsHeldBy (opposite c) o → (IsHeldBy c o → ⊥) × (is_none o ≡ false)
enemy_not_own c None h = absurd h
enemy_not_own c (Some x) h = (λ e. not_opposite c (sym e ∙ h), refl)

pub forward-near : (c : Colour) (a b : ℕ) → files_apart a b ≡ 1 → IsForward c 1 a b → distance a b ≤ 1
forward-near White a b f r = omega (arith, f, r)
forward-near Black a b f r = omega (arith, f, r)

-- the square beside a on the file of b
beside : (c : Colour) (a b : ℕ) → IsForward c 1 a b → square_at (file_of b) (rank_of a) ≡ behind (opposite c) b
beside White a b r = omega (arith, r)
beside Black a b r = omega (arith, r)

pub files_differ : (a b : ℕ) → files_apart a b ≡ 1 → file_of a ≢ file_of b
files_differ a b f e = omega (arith, f, e)

behind_differs : (c : Colour) (a b : ℕ) → IsForward c 1 a b → behind (opposite c) b ≢ b
behind_differs White a b r e = omega (arith, r, e)
behind_differs Black a b r e = omega (arith, r, e)

pawn_takes : (p : Position) (a b : ℕ) (m : Man) → IsSound p → a < 64 → b < 64 → man_at p.men a ≡ Some m →
    m.colour ≡ p.to_move → m.kind ≡ Pawn → Reaches p.men p.en_passant p.to_move Pawn a b → Take p a b
unfolding IsStep
pawn_takes p a b m sound ha hb from own pawn (inl ahead) =
    let file : file_of a ≡ file_of b = omega (arith, ahead.file) in
    let q : is_en_passant p.men a b ≡ false =
    same_file (is_pawn (man_at p.men a)) (is_none (man_at p.men b)) (not (nat_eq (file_of a) (file_of b)))
    (equal (file_of a) (file_of b) file) in
    nothing (take_on (is_en_passant p.men a b) (square_at (file_of b) (rank_of a)) b q) ahead.free
pawn_takes p a b m sound ha hb from own pawn (inr takes) = elim (takes.enemy) [
  | inl enemy ↦
      let other = enemy_not_own p.to_move (man_at p.men b) enemy in
      let q : is_en_passant p.men a b ≡ false =
      not_both (is_pawn (man_at p.men a)) (is_none (man_at p.men b)) (not (nat_eq (file_of a) (file_of b))) other.1 in
      let strikes : Strikes p.men p.to_move m.kind a b =
      subst (λ k. Strikes p.men p.to_move k a b) (sym pawn)
      (record {
        step = takes.step;
        open_way = Clear-near p.men a b (forward-near p.to_move a b takes.step.0 takes.step.1);
      }) in
      meets p a b m sound.other_safe ha hb from own strikes other.0
      (take_on (is_en_passant p.men a b) (square_at (file_of b) (rank_of a)) b q) (man_at p.men b) refl
  | inr square ↦
      let passed = sound.passed b square in
      let q : is_en_passant p.men a b ≡ true =
      all_three (is_pawn (man_at p.men a)) (is_none (man_at p.men b)) (not (nat_eq (file_of a) (file_of b)))
      (ap is_pawn from ∙ ap is_pawn_kind pawn) (ap is_none passed.empty)
      (not_equal (file_of a) (file_of b) (files_differ a b takes.step.0)) in
      let there : taking_square p.men a b ≡ behind (opposite p.to_move) b =
      take_beside (is_en_passant p.men a b) (square_at (file_of b) (rank_of a)) b q
      ∙ beside p.to_move a b takes.step.1 in
      let how : IsPassing p a b = record {
        pawn = subst (λ o. IsHeldAs p.to_move Pawn o) (sym from) (own, pawn);
        square = square;
        files = files_differ a b takes.step.0;
      } in
      passing there passed (λ e. behind_differs p.to_move a b takes.step.1 (sym there ∙ e)) how
]

take_by : (p : Position) (a b : ℕ) (m : Man) → IsSound p → a < 64 → b < 64 → man_at p.men a ≡ Some m
    → m.colour ≡ p.to_move →
    (k : Kind) → m.kind ≡ k → Reaches p.men p.en_passant p.to_move k a b → Take p a b
take_by p a b m sound ha hb from own Pawn e reach = pawn_takes p a b m sound ha hb from own e reach
take_by p a b m sound ha hb from own Knight e reach =
    piece_takes p a b m sound.other_safe ha hb from own (ap is_pawn_kind e)
    (subst (λ k. Goes p.men p.to_move k a b) (sym e) reach)
take_by p a b m sound ha hb from own Bishop e reach =
    piece_takes p a b m sound.other_safe ha hb from own (ap is_pawn_kind e)
    (subst (λ k. Goes p.men p.to_move k a b) (sym e) reach)
take_by p a b m sound ha hb from own Rook e reach =
    piece_takes p a b m sound.other_safe ha hb from own (ap is_pawn_kind e)
    (subst (λ k. Goes p.men p.to_move k a b) (sym e) reach)
take_by p a b m sound ha hb from own Queen e reach =
    piece_takes p a b m sound.other_safe ha hb from own (ap is_pawn_kind e)
    (subst (λ k. Goes p.men p.to_move k a b) (sym e) reach)
take_by p a b m sound ha hb from own King e reach =
    piece_takes p a b m sound.other_safe ha hb from own (ap is_pawn_kind e)
    (subst (λ k. Goes p.men p.to_move k a b) (sym e) reach)

pub take_of : (p : Position) (a b : ℕ) (promo : Option Kind) → IsSound p → IsPlainMove p a b promo → Take p a b
take_of p a b promo sound h =
    let t = mover p a b promo h in
    take_by p a b t.0 sound h.from h.to t.1.there t.1.own t.0.kind refl t.1.reaches

pawn_is_prey : (p : Position) (o : Option Man) (x : Man) → o ≡ Some x → IsHeldAs (opposite p.to_move) Pawn o
    → IsPrey p x
pawn_is_prey p None x e h = absurd h
pawn_is_prey p (Some y) x e h =
    let same : y ≡ x = cc in
    subst (λ z. IsPrey p z) same (record { enemy = h.0; no_king = λ king. let f : Pawn ≡ King = sym h.1 ∙ king in cc })

prey_of : (p : Position) (a b : ℕ) (x : Man) → Take p a b → man_at p.men (taking_square p.men a b) ≡ Some x → IsPrey p x
prey_of p a b x (nothing square free) e =
    absurd (let f : None ≡ Some x = sym free ∙ ap (man_at p.men) (sym square) ∙ e in cc)
prey_of p a b x (on_target y square there prey) e =
    let f : Some y ≡ Some x = sym there ∙ ap (man_at p.men) (sym square) ∙ e in
    let same : y ≡ x = cc in
    subst (λ z. IsPrey p z) same prey
prey_of p a b x (passing square passed differ how) e =
    pawn_is_prey p (man_at p.men (behind (opposite p.to_move) b)) x (ap (man_at p.men) (sym square) ∙ e) passed.pawn

pub captures_prey : (p : Position) (m : Move) → IsSound p → Allowed p m → (x : Man) → taken p.men m ≡ Some x
    → IsPrey p x
captures_prey p (Plain a b promo) sound h x e = prey_of p a b x (take_of p a b promo sound h.move) e
captures_prey p (Castle long) sound h x e = cc
captures_prey p (Drop k to) sound h x e = cc

-- an en passant capture, by its squares
passing_square : (p : Position) (a b : ℕ) (m : Man) → IsSound p → man_at p.men a ≡ Some m → m.kind ≡ Pawn
    → IsPassing p a b →
    Reaches p.men p.en_passant p.to_move Pawn a b →
    (taking_square p.men a b ≡ behind (opposite p.to_move) b) × (taking_square p.men a b ≢ b)
unfolding IsStep
passing_square p a b m sound from pawn how (inl ahead) = absurd (how.files (omega (arith, ahead.file)))
passing_square p a b m sound from pawn how (inr takes) =
    let passed = sound.passed b how.square in
    let q : is_en_passant p.men a b ≡ true =
    all_three (is_pawn (man_at p.men a)) (is_none (man_at p.men b)) (not (nat_eq (file_of a) (file_of b)))
    (ap is_pawn from ∙ ap is_pawn_kind pawn) (ap is_none passed.empty) (not_equal (file_of a) (file_of b) how.files) in
    let there : taking_square p.men a b ≡ behind (opposite p.to_move) b =
    take_beside (is_en_passant p.men a b) (square_at (file_of b) (rank_of a)) b q ∙ beside p.to_move a b takes.step.1 in
    (there, λ e. behind_differs p.to_move a b takes.step.1 (sym there ∙ e))

held_kind : (c : Colour) (k : Kind) (o : Option Man) (m : Man) → o ≡ Some m → IsHeldAs c k o → m.kind ≡ k
held_kind c k None m e h = absurd h
held_kind c k (Some x) m e h = (let same : x ≡ m = cc in ap (λ (y : Man). y.kind) (sym same)) ∙ h.1

-- the square that a move takes on is its target, or the move is en passant
takes_where : (p : Position) (a b s : ℕ) → Take p a b → s ≢ b → (IsPassing p a b → s ≢ behind (opposite p.to_move) b) →
    s ≢ taking_square p.men a b
takes_where p a b s (nothing square free) other away e = other (e ∙ square)
takes_where p a b s (on_target x square there prey) other away e = other (e ∙ square)
takes_where p a b s (passing square passed differ how) other away e = away how (e ∙ square)

pub moves_a_man : (p : Position) (a b : ℕ) (promo : Option Kind) → IsSound p → Allowed p (Plain a b promo) →
    MovesAMan p a b promo (place_after p.variant p.men p.to_move (Plain a b promo))
moves_a_man p a b promo sound h =
    let known : MovesOneMan p.men a b promo (place_after p.variant p.men p.to_move (Plain a b promo)) =
    known_squares p (Plain a b promo) sound.squares h in
    let who = mover p a b promo h.move in
    record {
      leaves = known.origin;
      arrives = λ e. known.target ∙ ap (landed (man_at p.men a)) e;
      becomes = λ k e.
          known.target ∙ ap (landed (man_at p.men a)) e ∙ ap (λ o. landed o (Some k)) who.1.there ∙
          ap (λ (c : Colour). Some (record { colour = c; kind = k; promoted = true })) who.1.own;
      passes = λ how.
          let pawn : who.0.kind ≡ Pawn = held_kind p.to_move Pawn (man_at p.men a) who.0 who.1.there how.pawn in
          let reach : Reaches p.men p.en_passant p.to_move Pawn a b =
          subst (λ k. Reaches p.men p.en_passant p.to_move k a b) pawn who.1.reaches in
          let t = passing_square p a b who.0 sound who.1.there pawn how reach in
          ap (man_at (place_after p.variant p.men p.to_move (Plain a b promo))) (sym t.0) ∙ known.taken t.1;
      others = λ s from to away.
          known.others s from to (takes_where p a b s (take_of p a b promo sound h.move) to away);
    }

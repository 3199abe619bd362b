-- Of the pawns of the side to move at most one goes to a square without taking, and at most one of each file takes
-- there.
use Rattle.std.proofs.Common.{arith, ◌≡◌, ◌≢◌, ℕ, ◌<◌, ◌⊎◌, inl, inr, Bool, true, false, ◌&&◌, not, cond, is_none, is_some, nat_eq, Option, Some, None, refl, sym, ap, subst, ◌∙◌}
use Rattle.std.proofs.lemmas.Bool.{ne_eqb}
use Rattle.chess_model.specs.declared.man.Colour.{Colour}
use Rattle.chess_model.specs.declared.man.Colour.TheVariants.{White, Black}
use Rattle.chess_model.specs.declared.man.Kind.{Kind}
use Rattle.chess_model.specs.declared.man.Kind.TheVariants.{Pawn}
use Rattle.chess_model.specs.declared.man.Man.{Man}
use Rattle.chess_model.specs.Squares.{file_of, rank_of, square_at, files_apart, distance, along}
use Rattle.chess_model.specs.Placement.{Placement, man_at, opposite, IsHeldBy, IsHeldAs}
use Rattle.chess_model.specs.Reach.{IsForward, IsStep, IsAhead, Advances, PawnTakes, Reaches}
use Rattle.chess_model.specs.MoveList.{is_pawn_kind, is_pawn, taking_square}
use Rattle.chess_model.specs.Position.{Position}
use Rattle.chess_model.specs.LegalPositions.{behind, HasPassed, IsSound}
use Rattle.chess_model.proofs.Captures.{Take, nothing, on_target, passing, not_opposite, files_differ}

-- an own pawn that goes from a to b
pub record IsPawnTo (p : Position) (a b : ℕ) : Type 0 where
  pub held : IsHeldAs p.to_move Pawn (man_at p.men a)
  pub reaches : Reaches p.men p.en_passant p.to_move Pawn a b

held_man : (c : Colour) (k : Kind) (o : Option Man) → IsHeldAs c k o → o ≡ None → ⊥
held_man c k None h e = h
held_man c k (Some m) h e = absurd (let f : None ≡ Some m = sym e in cc)

held_some : (c : Colour) (k : Kind) (o : Option Man) → IsHeldAs c k o → is_some o ≡ true
held_some c k None h = absurd h
held_some c k (Some m) h = refl

by_none : (c : Colour) (o : Option Man) → IsHeldBy c o → o ≡ None → ⊥
by_none c None h e = h
by_none c (Some m) h e = absurd (let f : None ≡ Some m = sym e in cc)

own_and_enemy : (c : Colour) (o : Option Man) → IsHeldAs c Pawn o → IsHeldAs (opposite c) Pawn o → ⊥
own_and_enemy c None h g = h
own_and_enemy c (Some m) h g = not_opposite c (sym h.0 ∙ g.0)

-- where a pawn comes from that goes ahead to b: the square behind b, or the one behind that, over an empty square
abbrev ComesFrom : Colour → ℕ → ℕ → Type 0
ComesFrom c a b =
    (a ≡ behind (opposite c) b)
    ⊎ ((a ≡ behind (opposite c) (behind (opposite c) b)) × (along a b 1 ≡ behind (opposite c) b) × (1 < distance a b))

comes_from : (c : Colour) (a b : ℕ) → files_apart a b ≡ 0 → IsAhead c a b → ComesFrom c a b
comes_from White a b f (inl near) = inl (omega (arith, f, near))
comes_from White a b f (inr far) = let r = far.0 in inr (omega (arith, f, r), omega (arith, f, r), omega (arith, f, r))
comes_from Black a b f (inl near) = inl (omega (arith, f, near))
comes_from Black a b f (inr far) = let r = far.0 in inr (omega (arith, f, r), omega (arith, f, r), omega (arith, f, r))

-- behind the target of a push stands the pawn, or nothing
record IsPush (P : Placement) (c : Colour) (a b : ℕ) : Type 0 where
  one_or_two :
      ((a ≡ behind (opposite c) b)
      ⊎ ((a ≡ behind (opposite c) (behind (opposite c) b)) × (man_at P (behind (opposite c) b) ≡ None)))

push_of : (P : Placement) (c : Colour) (a b : ℕ) → Advances P c a b → IsPush P c a b
push_of P c a b h = by (comes_from c a b h.file h.ahead)
  where
    by : ComesFrom c a b → IsPush P c a b
    by (inl near) = record { one_or_two = inl near }
    by (inr far) = record { one_or_two = inr (far.0, ap (man_at P) (sym far.1) ∙ h.way.empty 1 (omega arith) far.2) }

-- no enemy pawn stands behind the target of a push
no_enemy_behind : (P : Placement) (c : Colour) (a b : ℕ) → Advances P c a b → IsHeldAs c Pawn (man_at P a)
    → HasPassed P (opposite c) b → ⊥
no_enemy_behind P c a b h held passed = by (push_of P c a b h).one_or_two
  where
    by :
        ((a ≡ behind (opposite c) b)
        ⊎ ((a ≡ behind (opposite c) (behind (opposite c) b)) × (man_at P (behind (opposite c) b) ≡ None)))
        → ⊥
    by (inl near) =
        own_and_enemy c (man_at P a) held
        (subst (λ (s : ℕ). IsHeldAs (opposite c) Pawn (man_at P s)) (sym near) passed.pawn)
    by (inr far) = held_man (opposite c) Pawn (man_at P (behind (opposite c) b)) passed.pawn far.1

abbrev Behind : Placement → Colour → ℕ → ℕ → Type 0
Behind P c a b =
    (a ≡ behind (opposite c) b)
    ⊎ ((a ≡ behind (opposite c) (behind (opposite c) b)) × (man_at P (behind (opposite c) b) ≡ None))

one_push : (P : Placement) (c : Colour) (a x b : ℕ) → IsHeldAs c Pawn (man_at P a) → IsHeldAs c Pawn (man_at P x)
    → Behind P c a b → Behind P c x b → x ≡ a
one_push P c a x b held also (inl near) (inl same) = same ∙ sym near
one_push P c a x b held also (inl near) (inr far) =
    absurd (held_man c Pawn (man_at P a) held (ap (man_at P) near ∙ far.1))
one_push P c a x b held also (inr far) (inl near) =
    absurd (held_man c Pawn (man_at P x) also (ap (man_at P) near ∙ far.1))
one_push P c a x b held also (inr far) (inr same) = same.0 ∙ sym far.0

-- what no move to b takes

three : (x y z : Bool) (s b : ℕ) → x ≡ true → y ≡ true → z ≡ true → cond (x && (y && z)) s b ≡ s
three true true true s b e f g = refl
three true true false s b e f g = cc
three true false z s b e f g = cc
three false y z s b e f g = cc

pawn_there : (c : Colour) (o : Option Man) → IsHeldAs c Pawn o → is_pawn o ≡ true
pawn_there c None h = absurd h
pawn_there c (Some m) h = ap is_pawn_kind h.1

beside_differs : (c : Colour) (a b : ℕ) → IsForward c 1 a b → square_at (file_of b) (rank_of a) ≢ b
beside_differs White a b r e = omega (arith, r, e)
beside_differs Black a b r e = omega (arith, r, e)

-- a pawn that changes its file to an empty square takes beside it
passes_beside : (p : Position) (a b : ℕ) → IsHeldAs p.to_move Pawn (man_at p.men a) → man_at p.men b ≡ None
    → files_apart a b ≡ 1 →
    taking_square p.men a b ≡ square_at (file_of b) (rank_of a)
passes_beside p a b held free apart =
    three (is_pawn (man_at p.men a)) (is_none (man_at p.men b)) (not (nat_eq (file_of a) (file_of b)))
    (square_at (file_of b) (rank_of a)) b
    (pawn_there p.to_move (man_at p.men a) held) (ap is_none free)
    (ap not (ne_eqb (file_of a) (file_of b) (files_differ a b apart)))

-- what a pawn's move that takes nothing is
pub push : (p : Position) (a b : ℕ) → IsSound p → IsPawnTo p a b → Take p a b
    → is_some (man_at p.men (taking_square p.men a b)) ≡ false → Advances p.men p.to_move a b
unfolding IsStep
push p a b sound pawn (on_target x square there prey) none =
    absurd (let f : is_some (man_at p.men (taking_square p.men a b)) ≡ true =
    ap (λ (s : ℕ). is_some (man_at p.men s)) square ∙ ap is_some there in
    let g : true ≡ false = sym f ∙ none in cc)
push p a b sound pawn (passing square passed differs how) none =
    absurd (let f : is_some (man_at p.men (taking_square p.men a b)) ≡ true =
    ap (λ (s : ℕ). is_some (man_at p.men s)) square
    ∙ held_some (opposite p.to_move) Pawn (man_at p.men (behind (opposite p.to_move) b)) passed.pawn in
    let g : true ≡ false = sym f ∙ none in cc)
push p a b sound pawn (nothing square free) none = elim (pawn.reaches) [
  | inl ahead ↦ ahead
  | inr takes ↦ elim (takes.enemy) [
    | inl enemy ↦ absurd (by_none (opposite p.to_move) (man_at p.men b) enemy free)
    | inr passed ↦
        absurd
        (beside_differs p.to_move a b takes.step.1 (sym (passes_beside p a b pawn.held free takes.step.0) ∙ square))
  ]
]

files_same : (a b : ℕ) → files_apart a b ≡ 0 → file_of a ≡ file_of b
files_same a b f = omega (arith, f)

-- what a pawn's move that takes something is
pub capture : (p : Position) (a b : ℕ) → IsPawnTo p a b → Take p a b
    → is_some (man_at p.men (taking_square p.men a b)) ≡ true → PawnTakes p.men p.en_passant p.to_move a b
capture p a b pawn take some = elim (pawn.reaches) [
  | inl ahead ↦ absurd (by take ahead)
  | inr takes ↦ takes
]
  where
    by : Take p a b → Advances p.men p.to_move a b → ⊥
    by (nothing square free) ahead =
        let f : is_some (man_at p.men (taking_square p.men a b)) ≡ false =
        ap (λ (s : ℕ). is_some (man_at p.men s)) square ∙ ap is_some free in
        let g : true ≡ false = sym some ∙ f in
        cc
    by (on_target x square there prey) ahead = let f : None ≡ Some x = sym ahead.free ∙ there in cc
    by (passing square passed differs how) ahead = how.files (files_same a b ahead.file)

-- one pawn goes to b without taking there, and no other pawn goes there at all
pub only_push : (p : Position) (a x b : ℕ) → IsSound p → IsPawnTo p a b → Advances p.men p.to_move a b → IsPawnTo p x b
    → x ≡ a
only_push p a x b sound pawn ahead other = elim (other.reaches) [
  | inl also ↦
      one_push p.men p.to_move a x b pawn.held other.held (push_of p.men p.to_move a b ahead).one_or_two
      (push_of p.men p.to_move x b also).one_or_two
  | inr takes ↦ elim (takes.enemy) [
    | inl enemy ↦ absurd (by_none (opposite p.to_move) (man_at p.men b) enemy ahead.free)
    | inr passed ↦ absurd (no_enemy_behind p.men p.to_move a b ahead pawn.held (sound.passed b passed))
  ]
]

by_file : (c : Colour) (a x b : ℕ) → IsForward c 1 a b → IsForward c 1 x b → file_of x ≡ file_of a → x ≡ a
by_file White a x b r s f = omega (arith, r, s, f)
by_file Black a x b r s f = omega (arith, r, s, f)

changes_file : (a x b : ℕ) → files_apart a b ≡ 1 → files_apart x b ≡ 0 → file_of x ≢ file_of a
changes_file a x b f g e = omega (arith, f, g, e)

-- one pawn of a file takes on b
pub only_capture : (p : Position) (a x b : ℕ) → PawnTakes p.men p.en_passant p.to_move a b → IsPawnTo p x b
    → file_of x ≡ file_of a → x ≡ a
unfolding IsStep
only_capture p a x b takes other file = elim (other.reaches) [
  | inl ahead ↦ absurd (changes_file a x b takes.step.0 ahead.file file)
  | inr also ↦ by_file p.to_move a x b takes.step.1 also.step.1 file
]

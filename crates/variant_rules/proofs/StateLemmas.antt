-- What there is to do for the player to move.
use Rattle.std.proofs.Common.{arith, ◌≡◌, ◌≢◌, ℕ, ◌+◌, ◌<◌, ◌≤◌, ◌⊎◌, inl, inr, Bool, true, false, refl, subst, Option, Some, None}
use Rattle.std.proofs.lemmas.Bool.{cases_order}
use Rattle.chess_model.specs.declared.man.Colour.{Colour}
use Rattle.chess_model.specs.declared.man.Kind.{Kind}
use Rattle.chess_model.specs.declared.man.Kind.TheVariants.{Pawn, Knight, Bishop, Rook, Queen, King}
use Rattle.chess_model.specs.declared.man.Man.{Man}
use Rattle.chess_model.specs.declared.moves.Move.{Move}
use Rattle.chess_model.specs.declared.moves.Move.TheVariants.{Plain, Castle, Drop}
use Rattle.chess_model.specs.declared.variant.Variant.TheVariants.{Chess, Crazyhouse, Bughouse, Fischer}
use Rattle.chess_model.specs.declared.variant.Variant.{Variant}
use Rattle.chess_model.specs.Placement.{man_at, IsHeldBy}
use Rattle.chess_model.specs.Position.{Position, hand_of_side}
use Rattle.chess_model.specs.Allowed.{IsPromotion, HasPromotion, GoesAs, HasDrops, Allowed}
use Rattle.chess_model.specs.declared.states.State.{State}
use Rattle.chess_model.specs.declared.states.State.TheVariants.{Safe, Check, Mate, Stalemate}
use Rattle.chess_model.specs.Result.{IsOnBoard, HasAnswer, Shields, IsState}
use Rattle.bitboard_core.specs.Sets.{Has}
use Rattle.variant_rules.specs.Listing.{AreGoals}
use Rattle.variant_rules.specs.States.{NoneFrom, CanMove, CanDropAny, CanBeShielded}
use Rattle.variant_rules.proofs.MoveLemmas.{no_own}
use Rattle.chess_model.proofs.SoundPositions.{king_not_held}

pub can-move : (p : Position) (a b : ℕ) (promo : Option Kind) → Allowed p (Plain a b promo) → CanMove p
unfolding CanMove
can-move p a b promo h = (Plain a b promo, tt, h)

pub can-castle : (p : Position) (long : Bool) → Allowed p (Castle long) → CanMove p
unfolding CanMove
can-castle p long h = (Castle long, tt, h)

-- no man becomes a pawn or a king

not-becoming : (promo : Option Kind) → IsPromotion promo → (promo ≢ Some Pawn) × (promo ≢ Some King)
not-becoming None h = absurd h
not-becoming (Some Pawn) h = absurd h
not-becoming (Some Knight) h = (λ e. cc, λ e. cc)
not-becoming (Some Bishop) h = (λ e. cc, λ e. cc)
not-becoming (Some Rook) h = (λ e. cc, λ e. cc)
not-becoming (Some Queen) h = (λ e. cc, λ e. cc)
not-becoming (Some King) h = absurd h

not-some : (promo : Option Kind) → promo ≡ None → (promo ≢ Some Pawn) × (promo ≢ Some King)
not-some promo h = (λ e. cc, λ e. cc)

becomes : (c : Colour) (k : Kind) (b : ℕ) (promo : Option Kind) → HasPromotion c k b promo
    → (promo ≢ Some Pawn) × (promo ≢ Some King)
becomes c Pawn b promo (inl h) = not-becoming promo h.1
becomes c Pawn b promo (inr h) = not-some promo h.1
becomes c Knight b promo h = not-some promo h
becomes c Bishop b promo h = not-some promo h
becomes c Rook b promo h = not-some promo h
becomes c Queen b promo h = not-some promo h
becomes c King b promo h = not-some promo h

goes-becomes : (p : Position) (a b : ℕ) (promo : Option Kind) (man : Option Man) → GoesAs p a b promo man
    → (promo ≢ Some Pawn) × (promo ≢ Some King)
goes-becomes p a b promo None h = absurd h
goes-becomes p a b promo (Some m) h = becomes p.to_move m.kind b promo h.2

-- five promotions are all that there are
pub five-none : (p : Position) (a b : ℕ) → ¬ Allowed p (Plain a b None) → ¬ Allowed p (Plain a b (Some Queen)) →
    ¬ Allowed p (Plain a b (Some Rook)) → ¬ Allowed p (Plain a b (Some Bishop))
    → ¬ Allowed p (Plain a b (Some Knight)) →
    (promo : Option Kind) → ¬ Allowed p (Plain a b promo)
five-none p a b n q r s t None h = n h
five-none p a b n q r s t (Some Pawn) h = (goes-becomes p a b (Some Pawn) (man_at p.men a) h.move.goes).0 refl
five-none p a b n q r s t (Some Knight) h = t h
five-none p a b n q r s t (Some Bishop) h = s h
five-none p a b n q r s t (Some Rook) h = r h
five-none p a b n q r s t (Some Queen) h = q h
five-none p a b n q r s t (Some King) h = (goes-becomes p a b (Some King) (man_at p.men a) h.move.goes).1 refl

-- no move from a to a square below n is allowed
pub record NoneBelow (p : Position) (a n : ℕ) : Type 0 where
  pub none : (b : ℕ) → b < n → (promo : Option Kind) → ¬ Allowed p (Plain a b promo)

pub none-start : (p : Position) (k : Kind) (a set n : ℕ) → AreGoals p k a set → n ≤ 64
    → ((j : ℕ) → 0 ≤ j → j < n → ¬ Has set j) → NoneBelow p a n
none-start p k a set n all le out = record {
  none = λ b less promo h. all.others b (omega (arith, less, le)) (out b (omega arith) less) promo h;
}

pub none-step : (p : Position) (k : Kind) (a set m n : ℕ) → AreGoals p k a set → n ≤ 64 → NoneBelow p a m →
    ((promo : Option Kind) → ¬ Allowed p (Plain a m promo)) → ((j : ℕ) → m + 1 ≤ j → j < n → ¬ Has set j)
    → NoneBelow p a n
none-step p k a set m n all le old here out = record {
  none = λ b less promo h. elim (cases_order b m) [
    | inl same ↦ here promo (subst (λ (x : ℕ). Allowed p (Plain a x promo)) same h)
    | inr other ↦ elim other [
      | inl before ↦ old.none b before promo h
      | inr after ↦ all.others b (omega (arith, less, le)) (out b (omega (arith, after)) less) promo h
    ]
  ];
}

pub none-all : (p : Position) (a n : ℕ) → 64 ≤ n → NoneBelow p a n → NoneFrom p a
none-all p a n le below = record { none = λ b promo h. below.none b (omega (arith, h.move.to, le)) promo h }

-- squares without an own man

pub none-from-other : (p : Position) (a : ℕ) → ¬ IsHeldBy p.to_move (man_at p.men a) → NoneFrom p a
none-from-other p a other = record { none = λ b promo h. no_own p a b promo (man_at p.men a) other h.move.goes }

-- nothing on the board is allowed
pub none-on-board : (p : Position) → ((a : ℕ) → a < 64 → NoneFrom p a) → ¬ Allowed p (Castle false)
    → ¬ Allowed p (Castle true) → ¬ CanMove p
unfolding CanMove
none-on-board p from short long h = none h.0 h.1 h.2
  where
    none : (m : Move) → IsOnBoard m → Allowed p m → ⊥
    none (Plain a b promo) here allowed = (from a allowed.move.from).none b promo allowed
    none (Castle false) here allowed = short allowed
    none (Castle true) here allowed = long allowed
    none (Drop k to) here allowed = here

pub can-drop : (p : Position) (k : Kind) (to : ℕ) → Allowed p (Drop k to) → CanDropAny p
unfolding CanDropAny
can-drop p k to h = (k, to, h)

pub none-drops : (p : Position) → ((k : Kind) (to : ℕ) → k ≢ King → to < 64 → ¬ Allowed p (Drop k to)) → ¬ CanDropAny p
unfolding CanDropAny
none-drops p none h = none h.0 h.1 (king_not_held (hand_of_side p p.to_move) h.0 h.2.move.held) h.2.move.square h.2

pub five-kinds : (p : Position) → ((to : ℕ) → to < 64 → ¬ Allowed p (Drop Pawn to))
    → ((to : ℕ) → to < 64 → ¬ Allowed p (Drop Knight to)) →
    ((to : ℕ) → to < 64 → ¬ Allowed p (Drop Bishop to)) → ((to : ℕ) → to < 64 → ¬ Allowed p (Drop Rook to)) →
    ((to : ℕ) → to < 64 → ¬ Allowed p (Drop Queen to)) → ¬ CanDropAny p
five-kinds p q r s t u = none-drops p none
  where
    none : (k : Kind) (to : ℕ) → k ≢ King → to < 64 → ¬ Allowed p (Drop k to)
    none Pawn to other lt = q to lt
    none Knight to other lt = r to lt
    none Bishop to other lt = s to lt
    none Rook to other lt = t to lt
    none Queen to other lt = u to lt
    none King to other lt = absurd (other refl)

pub no-variant : (p : Position) → ¬ HasDrops p.variant → ¬ CanDropAny p
no-variant p none = none-drops p (λ k to other lt h. none h.move.variant)

pub shielded : (p : Position) (s : ℕ) → Shields p s → CanBeShielded p
unfolding CanBeShielded
shielded p s h = (s, h)

pub unshielded : (p : Position) → ((s : ℕ) → s < 64 → ¬ Shields p s) → ¬ CanBeShielded p
unfolding CanBeShielded
unshielded p none h = none h.0 h.1.square h.1

-- whether there is an answer

pub answer-move : (v : Variant) (p : Position) → CanMove p → HasAnswer v p
unfolding CanMove
answer-move Chess p h = (h.0, h.2)
answer-move Crazyhouse p h = (h.0, h.2)
answer-move Bughouse p h = inl h
answer-move (Fischer number) p h = (h.0, h.2)

pub chess-answer : (p : Position) → CanDropAny p → HasAnswer Chess p
unfolding CanDropAny
chess-answer p h = (Drop h.0 h.1, h.2)

pub house-answer : (p : Position) → CanDropAny p → HasAnswer Crazyhouse p
unfolding CanDropAny
house-answer p h = (Drop h.0 h.1, h.2)

pub fischer-answer : (number : ℕ) (p : Position) → CanDropAny p → HasAnswer (Fischer number) p
unfolding CanDropAny
fischer-answer number p h = (Drop h.0 h.1, h.2)

pub pair-answer : (p : Position) → CanBeShielded p → HasAnswer Bughouse p
unfolding CanBeShielded
pair-answer p h = inr h

some-move : (p : Position) (m : Move) → Allowed p m → CanMove p ⊎ CanDropAny p
unfolding CanMove CanDropAny
some-move p (Plain a b promo) h = inl (Plain a b promo, tt, h)
some-move p (Castle long) h = inl (Castle long, tt, h)
some-move p (Drop k to) h = inr (k, to, h)

pub chess-drop : (p : Position) → ¬ CanMove p → HasAnswer Chess p → CanDropAny p
chess-drop p none h = elim (some-move p h.0 h.1) [ inl m ↦ absurd (none m) | inr d ↦ d ]

pub fischer-drop : (number : ℕ) (p : Position) → ¬ CanMove p → HasAnswer (Fischer number) p → CanDropAny p
fischer-drop number p none h = elim (some-move p h.0 h.1) [ inl m ↦ absurd (none m) | inr d ↦ d ]

pub house-drop : (p : Position) → ¬ CanMove p → HasAnswer Crazyhouse p → CanDropAny p
house-drop p none h = elim (some-move p h.0 h.1) [ inl m ↦ absurd (none m) | inr d ↦ d ]

pub pair-shield : (p : Position) → ¬ CanMove p → HasAnswer Bughouse p → CanBeShielded p
unfolding CanMove CanBeShielded
pair-shield p none h = elim h [ inl m ↦ absurd (none m) | inr s ↦ s ]

-- a position has one state

pub state_unique : (p : Position) (s t : State) → IsState p s → IsState p t → s ≡ t
state_unique p Check Check a b = refl
state_unique p Check Mate a b = absurd (b.1 a.1)
state_unique p Check Stalemate a b = absurd (a.0 b.0)
state_unique p Check Safe a b = absurd (a.0 b.0)
state_unique p Mate Check a b = absurd (a.1 b.1)
state_unique p Mate Mate a b = refl
state_unique p Mate Stalemate a b = absurd (a.0 b.0)
state_unique p Mate Safe a b = absurd (a.0 b.0)
state_unique p Stalemate Check a b = absurd (b.0 a.0)
state_unique p Stalemate Mate a b = absurd (b.0 a.0)
state_unique p Stalemate Stalemate a b = refl
state_unique p Stalemate Safe a b = elim (b.1) [ inl h ↦ absurd (a.1 h) | inr h ↦ absurd (a.2 h) ]
state_unique p Safe Check a b = absurd (b.0 a.0)
state_unique p Safe Mate a b = absurd (b.0 a.0)
state_unique p Safe Stalemate a b = elim (a.1) [ inl h ↦ absurd (b.1 h) | inr h ↦ absurd (b.2 h) ]
state_unique p Safe Safe a b = refl

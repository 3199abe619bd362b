-- Men, lines and attacks of a placement hold in one that is turned over, with the other colour.
use Rattle.std.proofs.Common.{arith, ◌≡◌, ℕ, ◌<◌, length, refl, sym, ap, subst, ◌∙◌, inl, inr, Option, Some, None}
use Rattle.std.proofs.lemmas.List.FromFn.{get_or-map-range_with_len, length-map-range_with_len}
use Rattle.chess_model.specs.declared.man.Colour.{Colour}
use Rattle.chess_model.specs.declared.man.Colour.TheVariants.{White, Black}
use Rattle.chess_model.specs.declared.man.Kind.{Kind}
use Rattle.chess_model.specs.declared.man.Kind.TheVariants.{Pawn, Knight, Bishop, Rook, Queen, King}
use Rattle.chess_model.specs.declared.man.Man.{Man}
use Rattle.chess_model.specs.Squares.{along}
use Rattle.chess_model.specs.Placement.{Placement, man_at, opposite, IsHeldBy, IsHeldAs}
use Rattle.chess_model.specs.Reach.{IsForward, IsStraight, IsDiagonal, IsKnightStep, IsStep, Clear, IsOpen, Strikes}
use Rattle.chess_model.specs.Attacked.{StrikesAs, IsAttacked, IsInCheckOn, IsKingSafe}
use Rattle.chess_model.proofs.ChessLaws.{opposite-opposite}
use Rattle.rules_laws.specs.Mirror.{turned, recoloured, mirrored_men}
use Rattle.chess_model.proofs.Squares.{along-lt}
use Rattle.rules_laws.proofs.Turning.{turned-lt, rank-turned, turned-turned, turned-differs, files-turned, ranks-turned, distance-turned, along-turned}

-- men

pub recoloured-twice : (man : Option Man) → recoloured (recoloured man) ≡ man
recoloured-twice None = refl
recoloured-twice (Some m) =
    ap (λ (c : Colour). Some (record { colour = c; kind = m.kind; promoted = m.promoted })) (opposite-opposite m.colour)

-- each man of P stands in Q on the turned square, with the other colour
pub record AreTurned (P Q : Placement) : Type 0 where
  pub each : (s : ℕ) → s < 64 → man_at Q (turned s) ≡ recoloured (man_at P s)

pub AreTurned-back : (P Q : Placement) → AreTurned P Q → AreTurned Q P
AreTurned-back P Q h = record {
  each = λ s less.
      sym (recoloured-twice (man_at P (turned s))) ∙ ap recoloured (sym (h.each (turned s) (turned-lt s less))) ∙
      ap (λ (t : ℕ). recoloured (man_at Q t)) (turned-turned s);
}

pub mirrored_at : (P : Placement) (s : ℕ) → s < 64 → man_at (mirrored_men P) s ≡ recoloured (man_at P (turned s))
unfolding mirrored_men
mirrored_at P s h = get_or-map-range_with_len (λ s. recoloured (man_at P (turned s))) 0 64 s s None h (omega arith)

pub length-mirrored : (P : Placement) → length (mirrored_men P) ≡ 64
unfolding mirrored_men
length-mirrored P = length-map-range_with_len (λ s. recoloured (man_at P (turned s))) 0 64

pub AreTurned-mirrored : (P : Placement) → AreTurned P (mirrored_men P)
AreTurned-mirrored P = record {
  each = λ s less.
      mirrored_at P (turned s) (turned-lt s less) ∙ ap (λ (t : ℕ). recoloured (man_at P t)) (turned-turned s);
}

-- the empty square stays empty
pub empty-turned : (P Q : Placement) → AreTurned P Q → (s : ℕ) → s < 64 → man_at P s ≡ None → man_at Q (turned s) ≡ None
empty-turned P Q h s less free = h.each s less ∙ ap recoloured free

held-recoloured : (c : Colour) (man : Option Man) → IsHeldBy c man → IsHeldBy (opposite c) (recoloured man)
held-recoloured c None h = h
held-recoloured c (Some m) h = ap opposite h

held_as-recoloured : (c : Colour) (k : Kind) (man : Option Man) → IsHeldAs c k man
    → IsHeldAs (opposite c) k (recoloured man)
held_as-recoloured c k None h = h
held_as-recoloured c k (Some m) h = (ap opposite h.0, h.1)

pub held-turned : (P Q : Placement) → AreTurned P Q → (c : Colour) (s : ℕ) → s < 64 → IsHeldBy c (man_at P s) →
    IsHeldBy (opposite c) (man_at Q (turned s))
held-turned P Q h c s less held =
    let C : Option Man → Type 0 = λ man. IsHeldBy (opposite c) man in
    subst C (sym (h.each s less)) (held-recoloured c (man_at P s) held)

held_as-turned : (P Q : Placement) → AreTurned P Q → (c : Colour) (k : Kind) (s : ℕ) → s < 64
    → IsHeldAs c k (man_at P s) →
    IsHeldAs (opposite c) k (man_at Q (turned s))
held_as-turned P Q h c k s less held =
    let C : Option Man → Type 0 = λ man. IsHeldAs (opposite c) k man in
    subst C (sym (h.each s less)) (held_as-recoloured c k (man_at P s) held)

-- what holds of the turned square of the turned square holds of the square
pub held-from : (P Q : Placement) → AreTurned P Q → (c : Colour) (s : ℕ) → s < 64
    → IsHeldBy (opposite c) (man_at Q (turned s)) →
    IsHeldBy c (man_at P s)
held-from P Q h c s less held =
    let back = held-turned Q P (AreTurned-back P Q h) (opposite c) (turned s) (turned-lt s less) held in
    let C : Colour → Type 0 = λ d. IsHeldBy d (man_at P (turned (turned s))) in
    let S : ℕ → Type 0 = λ t. IsHeldBy c (man_at P t) in
    subst S (turned-turned s) (subst C (opposite-opposite c) back)

-- lines

pub forward-turned : (c : Colour) (n a b : ℕ) → a < 64 → b < 64 → IsForward c n a b
    → IsForward (opposite c) n (turned a) (turned b)
forward-turned White n a b ha hb h = omega (arith, ha, hb, h, rank-turned a ha, rank-turned b hb)
forward-turned Black n a b ha hb h = omega (arith, ha, hb, h, rank-turned a ha, rank-turned b hb)

straight-turned : (a b : ℕ) → a < 64 → b < 64 → IsStraight a b → IsStraight (turned a) (turned b)
straight-turned a b ha hb h = (
  turned-differs a b h.0,
  elim (h.1) [
    | inl files ↦ inl (files-turned a b ha hb ∙ files)
    | inr ranks ↦ inr (ranks-turned a b ha hb ∙ ranks)
  ],
)

diagonal-turned : (a b : ℕ) → a < 64 → b < 64 → IsDiagonal a b → IsDiagonal (turned a) (turned b)
diagonal-turned a b ha hb h =
    (turned-differs a b h.0, files-turned a b ha hb ∙ h.1 ∙ sym (ranks-turned a b ha hb))

knight-turned : (a b : ℕ) → a < 64 → b < 64 → IsKnightStep a b → IsKnightStep (turned a) (turned b)
knight-turned a b ha hb h = elim h [
  | inl e ↦ inl (files-turned a b ha hb ∙ e.0, ranks-turned a b ha hb ∙ e.1)
  | inr e ↦ inr (files-turned a b ha hb ∙ e.0, ranks-turned a b ha hb ∙ e.1)
]

pub step-turned : (c : Colour) (k : Kind) (a b : ℕ) → a < 64 → b < 64 → IsStep c k a b
    → IsStep (opposite c) k (turned a) (turned b)
unfolding IsStep
step-turned c Pawn a b ha hb h = (files-turned a b ha hb ∙ h.0, forward-turned c 1 a b ha hb h.1)
step-turned c Knight a b ha hb h = knight-turned a b ha hb h
step-turned c Bishop a b ha hb h = diagonal-turned a b ha hb h
step-turned c Rook a b ha hb h = straight-turned a b ha hb h
step-turned c Queen a b ha hb h =
    elim h [ inl e ↦ inl (straight-turned a b ha hb e) | inr e ↦ inr (diagonal-turned a b ha hb e) ]
step-turned c King a b ha hb h = distance-turned a b ha hb ∙ h

pub clear-turned : (P Q : Placement) → AreTurned P Q → (a b : ℕ) → a < 64 → b < 64 → Clear P a b
    → Clear Q (turned a) (turned b)
clear-turned P Q h a b ha hb clear = record {
  empty = λ k some less.
      ap (man_at Q) (along-turned a b k ha hb) ∙
      empty-turned P Q h (along a b k) (along-lt a b k ha hb)
      (clear.empty k some (omega (arith, less, distance-turned a b ha hb)));
}

open-turned : (P Q : Placement) → AreTurned P Q → (k : Kind) (a b : ℕ) → a < 64 → b < 64 → IsOpen k P a b →
    IsOpen k Q (turned a) (turned b)
open-turned P Q h Pawn a b ha hb way = clear-turned P Q h a b ha hb way
open-turned P Q h Knight a b ha hb way = tt
open-turned P Q h Bishop a b ha hb way = clear-turned P Q h a b ha hb way
open-turned P Q h Rook a b ha hb way = clear-turned P Q h a b ha hb way
open-turned P Q h Queen a b ha hb way = clear-turned P Q h a b ha hb way
open-turned P Q h King a b ha hb way = clear-turned P Q h a b ha hb way

pub strikes-turned : (P Q : Placement) → AreTurned P Q → (c : Colour) (k : Kind) (a b : ℕ) → a < 64 → b < 64
    → Strikes P c k a b →
    Strikes Q (opposite c) k (turned a) (turned b)
strikes-turned P Q h c k a b ha hb strikes = record {
  step = step-turned c k a b ha hb strikes.step;
  open_way = open-turned P Q h k a b ha hb strikes.open_way;
}

-- attack

strikes_as-turned : (P Q : Placement) → AreTurned P Q → (c : Colour) (a s : ℕ) → a < 64 → s < 64 → (man : Option Man) →
    StrikesAs P c a s man → StrikesAs Q (opposite c) (turned a) (turned s) (recoloured man)
strikes_as-turned P Q h c a s ha hs None strikes = strikes
strikes_as-turned P Q h c a s ha hs (Some m) strikes =
    (ap opposite strikes.0, strikes-turned P Q h c m.kind a s ha hs strikes.1)

pub attacked-turned : (P Q : Placement) → AreTurned P Q → (c : Colour) (s : ℕ) → s < 64 → IsAttacked P c s →
    IsAttacked Q (opposite c) (turned s)
unfolding IsAttacked
attacked-turned P Q h c s less attack =
    let a : ℕ = attack.0 in
    let C : Option Man → Type 0 = λ man. StrikesAs Q (opposite c) (turned a) (turned s) man in (
      turned a,
      turned-lt a attack.1,
      subst C (sym (h.each a attack.1)) (strikes_as-turned P Q h c a s attack.1 less (man_at P a) attack.2),
    )

pub attacked-from : (P Q : Placement) → AreTurned P Q → (c : Colour) (s : ℕ) → s < 64
    → IsAttacked Q (opposite c) (turned s) →
    IsAttacked P c s
attacked-from P Q h c s less attack =
    let back = attacked-turned Q P (AreTurned-back P Q h) (opposite c) (turned s) (turned-lt s less) attack in
    let C : Colour → Type 0 = λ d. IsAttacked P d (turned (turned s)) in
    let S : ℕ → Type 0 = λ t. IsAttacked P c t in
    subst S (turned-turned s) (subst C (opposite-opposite c) back)

in_check-turned : (P Q : Placement) → AreTurned P Q → (c : Colour) (s : ℕ) → s < 64 → IsInCheckOn P c s →
    IsInCheckOn Q (opposite c) (turned s)
in_check-turned P Q h c s less check =
    (held_as-turned P Q h c King s less check.0, attacked-turned P Q h (opposite c) s less check.1)

pub safe-turned : (P Q : Placement) → AreTurned P Q → (c : Colour) → IsKingSafe P c → IsKingSafe Q (opposite c)
safe-turned P Q h c king = record {
  safe = λ s less check.
      let back = in_check-turned Q P (AreTurned-back P Q h) (opposite c) s less check in
      let C : Colour → Type 0 = λ d. IsInCheckOn P d (turned s) in
      king.safe (turned s) (turned-lt s less) (subst C (opposite-opposite c) back);
}

pub safe-from : (P Q : Placement) → AreTurned P Q → (c : Colour) → IsKingSafe Q (opposite c) → IsKingSafe P c
safe-from P Q h c king =
    let C : Colour → Type 0 = λ d. IsKingSafe P d in
    subst C (opposite-opposite c) (safe-turned Q P (AreTurned-back P Q h) (opposite c) king)

-- A legal list grows by an allowed half-move, and each list that it grew from is legal.
use Rattle.std.proofs.Common.{◌≡◌, List, [], ◌∷◌, ◌++◌, ◌⊎◌, refl, ap, subst, ◌∙◌, inl, inr, append_assoc}
use Rattle.chess_model.specs.declared.variant.Variant.{Variant}
use Rattle.chess_model.specs.MoveList.{HalfMove}
use Rattle.chess_model.specs.Position.{position_after}
use Rattle.chess_model.specs.Allowed.{Allowed, IsLegal}
use Rattle.chess_model.specs.Laws.{LegalListsGrow}

-- where y stands in a list with x at its end: it is x, or it stands before it
abbrev Place : List HalfMove → HalfMove → List HalfMove → HalfMove → Type 0
Place xs x ys y = ((xs ≡ ys) × (x ≡ y)) ⊎ ((ws : List HalfMove) × (xs ≡ ys ++ y ∷ ws))

no_item : (ys zs : List HalfMove) (y : HalfMove) → [] ≡ ys ++ y ∷ zs → ⊥
no_item [] zs y e = cc
no_item (x ∷ ys) zs y e = cc

place : (xs : List HalfMove) (x : HalfMove) (ys : List HalfMove) (y : HalfMove) (zs : List HalfMove) →
    xs ++ x ∷ [] ≡ ys ++ y ∷ zs → Place xs x ys y
place [] x [] y zs e = inl (refl, cc)
place [] x (w ∷ ys) y zs e = absurd (no_item ys zs y (cc))
place (v ∷ xs) x [] y zs e = let same : v ≡ y = cc in inr (xs, ap (λ (h : HalfMove). h ∷ xs) same)
place (v ∷ xs) x (w ∷ ys) y zs e =
    let first : v ≡ w = cc in
    let rest : xs ++ x ∷ [] ≡ ys ++ y ∷ zs = cc in
    elim (place xs x ys y zs rest) [
      | inl at_end ↦ inl (λ i. first i ∷ at_end.0 i, at_end.1)
      | inr before ↦ inr (before.0, λ i. first i ∷ before.1 i)
    ]

pub IsLegal-append : (v : Variant) (T : List HalfMove) (x : HalfMove) → IsLegal v T
    → Allowed (position_after v T x.board) x.what →
    IsLegal v (T ++ x ∷ [])
IsLegal-append v T x legal allowed = record {
  each = λ before after h e.
      elim (place T x before h after e) [
        | inl at_end ↦
            let P : HalfMove → Type 0 = λ y. Allowed (position_after v T y.board) y.what in
            let Q : List HalfMove → Type 0 = λ ys. Allowed (position_after v ys h.board) h.what in
            subst Q at_end.0 (subst P at_end.1 allowed)
        | inr earlier ↦ legal.each before earlier.0 h earlier.1
      ];
}

pub legal_lists : LegalListsGrow
legal_lists = record {
  none = λ v. record { each = λ before after h e. absurd (no_item before after h e) };
  grows = IsLegal-append;
  shrinks = λ v T x legal. record {
    each = λ before after h e.
        legal.each before (after ++ x ∷ []) h
        (ap (λ (xs : List HalfMove). xs ++ x ∷ []) e ∙ append_assoc before (h ∷ after) (x ∷ []));
  };
  last = λ v T x legal. legal.each T [] x refl;
}

-- Half-moves that can be played are played one after another.
use Rattle.std.proofs.Common.{◌≡◌, List, [], ◌∷◌, ◌++◌, ◌⊎◌, refl, ap, subst, ◌∙◌, inl, inr, append_assoc}
use Rattle.chess_model.specs.declared.variant.Terms.{Terms}
use Rattle.game_records.specs.declared.stored_game.Half.{Half}
use Rattle.game_records.specs.Replays.{CanBePlayed, MayCome}
use Rattle.game_records.specs.Laws.{ArePlayedBySteps}

-- where y stands in a list with x at its end: it is x, or it stands before it
abbrev Place : List Half → Half → List Half → Half → Type 0
Place xs x ys y = ((xs ≡ ys) × (x ≡ y)) ⊎ ((ws : List Half) × (xs ≡ ys ++ y ∷ ws))

no_item : (ys zs : List Half) (y : Half) → [] ≡ ys ++ y ∷ zs → ⊥
no_item [] zs y e = cc
no_item (x ∷ ys) zs y e = cc

place : (xs : List Half) (x : Half) (ys : List Half) (y : Half) (zs : List Half) → xs ++ x ∷ [] ≡ ys ++ y ∷ zs
    → Place xs x ys y
place [] x [] y zs e = inl (refl, cc)
place [] x (w ∷ ys) y zs e = absurd (no_item ys zs y (cc))
place (v ∷ xs) x [] y zs e = let same : v ≡ y = cc in inr (xs, ap (λ (h : Half). h ∷ xs) same)
place (v ∷ xs) x (w ∷ ys) y zs e =
    let first : v ≡ w = cc in
    let rest : xs ++ x ∷ [] ≡ ys ++ y ∷ zs = cc in
    elim (place xs x ys y zs rest) [
      | inl at_end ↦ inl (λ i. first i ∷ at_end.0 i, at_end.1)
      | inr before ↦ inr (before.0, λ i. first i ∷ before.1 i)
    ]

more : (t : Terms) (halves : List Half) (x : Half) → CanBePlayed t halves → MayCome t halves x
    → CanBePlayed t (halves ++ x ∷ [])
more t halves x played comes = record {
  each = λ before after h e.
      elim (place halves x before h after e) [
        | inl at_end ↦
            let P : Half → Type 0 = λ y. MayCome t halves y in
            let Q : List Half → Type 0 = λ ys. MayCome t ys h in
            subst Q at_end.0 (subst P at_end.1 comes)
        | inr earlier ↦ played.each before earlier.0 h earlier.1
      ];
}

pub by_steps : ArePlayedBySteps
by_steps = record {
  none = λ t. record { each = λ before after h e. absurd (no_item before after h e) };
  grows = more;
  shrinks = λ t halves x played. record {
    each = λ before after h e.
        played.each before (after ++ x ∷ []) h
        (ap (λ (xs : List Half). xs ++ x ∷ []) e ∙ append_assoc before (h ∷ after) (x ∷ []));
  };
  last = λ t halves x played. played.each halves [] x refl;
}

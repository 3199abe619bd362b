-- What a pawn reaches by taking in passing.
use Rattle.std.proofs.Common.{◌≡◌, ◌↔◌, ℕ, ◌⊎◌, inl, inr, sym, ap, Option, Some, None}
use Rattle.chess_model.specs.declared.man.Colour.{Colour}
use Rattle.chess_model.specs.declared.man.Kind.TheVariants.{Pawn}
use Rattle.chess_model.specs.Placement.{Placement}
use Rattle.chess_model.specs.Reach.{IsStep, Strikes, Reaches}
use Rattle.chess_model.proofs.Captures.{forward-near}
use Rattle.chess_model.proofs.ChessLaws.{Clear-near}

step-strikes : (P : Placement) (c : Colour) (a b : ℕ) → IsStep c Pawn a b → Strikes P c Pawn a b
unfolding IsStep
step-strikes P c a b step = record { step = step; open_way = Clear-near P a b (forward-near c a b step.0 step.1) }

-- where a pawn reaches a square in no other way, it does so by taking the pawn that passed
pub passed_reaches : (P : Placement) (en_passant : Option ℕ) (c : Colour) (a b : ℕ) → ¬ Reaches P None c Pawn a b →
    ((en_passant ≡ Some b) × Strikes P c Pawn a b) ↔ Reaches P en_passant c Pawn a b
passed_reaches P en_passant c a b other = (
  λ h. inr (record { step = h.1.step; enemy = inr h.0 }),
  λ r. elim r [
    | inl push ↦ absurd (other (inl push))
    | inr takes ↦ elim (takes.enemy) [
      | inl held ↦ absurd (other (inr (record { step = takes.step; enemy = inl held })))
      | inr passed ↦ (passed, step-strikes P c a b takes.step)
    ]
  ],
)

-- with an en passant square a pawn reaches that square too, where it strikes it
pub passed-adds : (P : Placement) (c : Colour) (a s t : ℕ) →
    (Reaches P None c Pawn a t ⊎ ((t ≡ s) × Strikes P c Pawn a t)) ↔ Reaches P (Some s) c Pawn a t
passed-adds P c a s t = (
  λ h. elim h [
    | inl old ↦ elim old [
      | inl push ↦ inl push
      | inr takes ↦
          inr (record {
            step = takes.step;
            enemy = elim (takes.enemy) [ inl held ↦ inl held | inr e ↦ absurd (let f : None ≡ Some t = e in cc) ];
          })
    ]
    | inr new ↦ inr (record { step = new.1.step; enemy = inr (ap Some (sym new.0)) })
  ],
  λ r. elim r [
    | inl push ↦ inl (inl push)
    | inr takes ↦ elim (takes.enemy) [
      | inl held ↦ inl (inr (record { step = takes.step; enemy = inl held }))
      | inr e ↦ inr ((let f : Some s ≡ Some t = e in let g : t ≡ s = cc in g), step-strikes P c a t takes.step)
    ]
  ],
)

-- The last item of a list with one item more, and the charge that the next half-move may have.
use Rattle.std.proofs.Common.{◌≡◌, ℕ, ◌≤◌, ◌^◌, ◌&&◌, ◌⊎◌, inl, inr, zero, suc, Bool, true, false, if◌then◌else◌, List, [], ◌∷◌, ◌++◌, length, Option, Some, None, IfSome, refl, ap, subst, All, get_or, arith}
use Rattle.std.specs.Prelude.{slice_get}
use Rattle.std.specs.Option.{option_zip}
use Rattle.clock_ledger.specs.Charges.{AreStamps, IsChargeable}
use Rattle.clock_ledger.specs.Span.{IsStamp}
use Rattle.game_board.specs.Board.{Board, to_move, has_moved}
use Rattle.game_board.specs.Charges.{is_timed}
use Rattle.game_board.specs.Play.{next_charge}

-- an item of a list with one item more is one of the list, or that item
pub at_or_last : {X : Type 0} (xs : List X) (x y : X) (k : ℕ) → slice_get (xs ++ x ∷ []) k ≡ Some y →
    (slice_get xs k ≡ Some y) ⊎ ((k ≡ length xs) × (x ≡ y))
at_or_last [] x y zero e = inr (refl, cc)
at_or_last [] x y (suc k) e = inl e
at_or_last (z ∷ zs) x y zero e = inl e
at_or_last (z ∷ zs) x y (suc k) e = elim (at_or_last zs x y k e) [
  | inl h ↦ inl h
  | inr h ↦ inr (ap suc h.0, h.1)
]

pub All-one : {X : Type 0} (P : X → Type 0) (x : X) → P x → All P (x ∷ [])
All-one P x holds = λ k d h. let first : 0 ≡ k = omega arith in subst (λ n. P (get_or (x ∷ []) n d)) first holds

-- the client's two times, where both are there, are stamps
pub AreStamps-zip : (kept stamp : Option ℕ) → IfSome kept IsStamp → IfSome stamp IsStamp
    → AreStamps (option_zip kept stamp)
AreStamps-zip None stamp k s = tt
AreStamps-zip (Some seen) None k s = tt
AreStamps-zip (Some seen) (Some made) k s = (k, s)

-- a half-move that is made after the beginning has a sound charge, if it has one
pub IsChargeable-next : (b : Board) (moment : ℕ) (stamp : Option ℕ) → b.begin ≤ moment → moment ≤ 2 ^ 48
    → IfSome b.kept IsStamp → IfSome stamp IsStamp →
    IfSome (next_charge b moment stamp) IsChargeable
IsChargeable-next b moment stamp order most kept stamped =
    let P : Bool → Type 0 = λ t.
    IfSome (if t then Some (record { begin = b.begin; end = moment; client = option_zip b.kept stamp }) else None)
    IsChargeable in
    elim (is_timed b.terms && has_moved (to_move b) b.list) as P [
      | true ↦ record { ordered = order; timely = most; stamped = AreStamps-zip b.kept stamp kept stamped }
      | false ↦ tt
    ]

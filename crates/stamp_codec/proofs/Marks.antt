-- How bytes come apart at their first mark: in one way only.
use Rattle.std.proofs.Common.{◌≡◌, ◌≢◌, ℕ, Bool, false, cond, List, [], ◌∷◌, ◌++◌, refl, ap, ◌∙◌, eq-eqb}
use Rattle.std.specs.Prelude.{◌==◌}
use Rattle.std.specs.List.{AllByRecursion}
use Rattle.std.proofs.lemmas.Bool.Decides.{nat_tests}
use Rattle.std.proofs.Common.{arith}
use Rattle.stamp_codec.specs.Opening.{before, behind_mark}

-- bytes with a mark have one
pub mark_within : (mark : ℕ) (front back : List ℕ) → AllByRecursion (λ b. b ≢ mark) (front ++ mark ∷ back) → ⊥
mark_within mark [] back h = h.0 refl
mark_within mark (byte ∷ front) back h = mark_within mark front back h.1

-- what stands before the first mark, and behind it, is fixed by the bytes
pub one_cut : (mark : ℕ) (a b x y : List ℕ) → AllByRecursion (λ c. c ≢ mark) a → AllByRecursion (λ c. c ≢ mark) b
    → a ++ mark ∷ x ≡ b ++ mark ∷ y → (a ≡ b) × (x ≡ y)
one_cut mark [] [] x y p q e = (refl, cc)
one_cut mark [] (d ∷ b) x y p q e = absurd (q.0 cc)
one_cut mark (c ∷ a) [] x y p q e = absurd (p.0 cc)
one_cut mark (c ∷ a) (d ∷ b) x y p q e =
    let head : c ≡ d = cc in
    let tail : a ++ mark ∷ x ≡ b ++ mark ∷ y = cc in
    let parts = one_cut mark a b x y p.1 q.1 tail in
    let front = parts.0 in
    (cc, parts.1)

differ : (a b : ℕ) → a ≢ b → (a == b) ≡ false
differ a b h = grind (arith, nat_tests)

pub before-mark : (mark : ℕ) (front back : List ℕ) → AllByRecursion (λ c. c ≢ mark) front
    → before mark (front ++ mark ∷ back) ≡ front
before-mark mark [] back h = ap (λ (t : Bool). cond t [] (mark ∷ before mark back)) (eq-eqb mark mark refl)
before-mark mark (byte ∷ front) back h =
    ap (λ (t : Bool). cond t [] (byte ∷ before mark (front ++ mark ∷ back))) (differ byte mark h.0)
    ∙ ap (λ (l : List ℕ). byte ∷ l) (before-mark mark front back h.1)

pub behind_mark-first : (mark : ℕ) (front back : List ℕ) → AllByRecursion (λ c. c ≢ mark) front
    → behind_mark mark (front ++ mark ∷ back) ≡ back
behind_mark-first mark [] back h = ap (λ (t : Bool). cond t back (behind_mark mark back)) (eq-eqb mark mark refl)
behind_mark-first mark (byte ∷ front) back h =
    ap (λ (t : Bool). cond t (front ++ mark ∷ back) (behind_mark mark (front ++ mark ∷ back))) (differ byte mark h.0)
    ∙ behind_mark-first mark front back h.1

-- Steps back undo as many steps forward, and the other way round.
use Rattle.std.proofs.Common.{◌≡◌, ℕ, ◌+◌, ◌-◌, ◌<◌, ◌≤◌, Bool, true, false, if◌then◌else◌, length, refl, sym, ap, subst, ◌∙◌, arith}
use Rattle.std.specs.Prelude.{nat_lt, Ok, Err}
use Rattle.std.proofs.lemmas.Bool.{lt-ltb, le-ltb, ltb-false}
use Rattle.fics_words.specs.declared.refusal.Refusal.TheVariants.{NoMoreMoves, NoEarlierMoves}
use Rattle.examine_board.specs.Exam.{ExamState}
use Rattle.examine_board.specs.Steps.{backed, forwarded}

-- a step that is refused
pub forwarded-refused : (e : ExamState) (n : ℕ) → length e.list - e.point < n → forwarded e n ≡ Err NoMoreMoves
forwarded-refused e n few =
    ap (λ (b : Bool). if b then Err NoMoreMoves else Ok (record e { point = e.point + n }))
    (lt-ltb (length e.list - e.point) n few)

pub backed-refused : (e : ExamState) (n : ℕ) → e.point < n → backed e n ≡ Err NoEarlierMoves
backed-refused e n few =
    ap (λ (b : Bool). if b then Err NoEarlierMoves else Ok (record e { point = e.point - n })) (lt-ltb e.point n few)

-- and one that is made
pub forwarded-made : (e : ExamState) (n : ℕ) → n ≤ length e.list - e.point
    → forwarded e n ≡ Ok (record e { point = e.point + n })
forwarded-made e n many =
    ap (λ (b : Bool). if b then Err NoMoreMoves else Ok (record e { point = e.point + n }))
    (le-ltb (length e.list - e.point) n many)

pub backed-made : (e : ExamState) (n : ℕ) → n ≤ e.point → backed e n ≡ Ok (record e { point = e.point - n })
backed-made e n many =
    ap (λ (b : Bool). if b then Err NoEarlierMoves else Ok (record e { point = e.point - n })) (le-ltb e.point n many)

-- made steps
forward_is : (e after : ExamState) (n : ℕ) → forwarded e n ≡ Ok after
    → (n ≤ length e.list - e.point) × (record e { point = e.point + n } ≡ after)
forward_is e after n made =
    elim (nat_lt (length e.list - e.point) n)
    as (λ b.
    nat_lt (length e.list - e.point) n ≡ b
    → (if b then Err NoMoreMoves else Ok (record e { point = e.point + n })) ≡ Ok after →
    (n ≤ length e.list - e.point) × (record e { point = e.point + n } ≡ after)) [
      | true ↦ λ is same. absurd cc
      | false ↦ λ is same. (ltb-false (length e.list - e.point) n is, cc)
    ] refl made

back_is : (e after : ExamState) (n : ℕ) → backed e n ≡ Ok after
    → (n ≤ e.point) × (record e { point = e.point - n } ≡ after)
back_is e after n made =
    elim (nat_lt e.point n)
    as (λ b.
    nat_lt e.point n ≡ b → (if b then Err NoEarlierMoves else Ok (record e { point = e.point - n })) ≡ Ok after →
    (n ≤ e.point) × (record e { point = e.point - n } ≡ after)) [
      | true ↦ λ is same. absurd cc
      | false ↦ λ is same. (ltb-false e.point n is, cc)
    ] refl made

pub undone_back : (e : ExamState) (n : ℕ) → backed (record e { point = e.point + n }) n ≡ Ok e
undone_back e n =
    let there : e.point + n - n ≡ e.point = omega arith in
    backed-made (record e { point = e.point + n }) n (omega arith) ∙ ap (λ (k : ℕ). Ok (record e { point = k })) there

pub undone_forward : (e : ExamState) (n : ℕ) → e.point ≤ length e.list → n ≤ e.point
    → forwarded (record e { point = e.point - n }) n ≡ Ok e
undone_forward e n within many =
    let there : e.point - n + n ≡ e.point = omega (arith, many) in
    forwarded-made (record e { point = e.point - n }) n (omega (arith, within, many))
    ∙ ap (λ (k : ℕ). Ok (record e { point = k })) there

pub back_undoes : (e after : ExamState) (n : ℕ) → forwarded e n ≡ Ok after → backed after n ≡ Ok e
back_undoes e after n made =
    subst (λ (f : ExamState). backed f n ≡ Ok e) (forward_is e after n made).1 (undone_back e n)

pub forward_undoes : (e after : ExamState) (n : ℕ) → e.point ≤ length e.list → backed e n ≡ Ok after
    → forwarded after n ≡ Ok e
forward_undoes e after n within made =
    let is = back_is e after n made in
    subst (λ (f : ExamState). forwarded f n ≡ Ok e) is.1 (undone_forward e n within is.0)

pub forward_keeps : (e after : ExamState) (n : ℕ) → forwarded e n ≡ Ok after → after.list ≡ e.list
forward_keeps e after n made = sym (ap (λ (f : ExamState). f.list) (forward_is e after n made).1)

pub back_keeps : (e after : ExamState) (n : ℕ) → backed e n ≡ Ok after → after.list ≡ e.list
back_keeps e after n made = sym (ap (λ (f : ExamState). f.list) (back_is e after n made).1)

pub ruleset steps_undone = (back_undoes, forward_undoes, forward_keeps, back_keeps)

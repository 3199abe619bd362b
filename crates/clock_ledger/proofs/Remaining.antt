-- What remains, as a difference of numbers, and what one charge does to it.
use Rattle.std.proofs.Common.{◌≡◌, ℕ, ℤ, ◌+◌, ◌*◌, true, if◌then◌else◌, pos, ◌+ℤ◌, ◌-ℤ◌, [], ◌∷◌, ◌++◌, length, IsTrue, ap, sym, ◌∙◌, refl, arith, rules, length-append}
use Rattle.std.proofs.lemmas.Int.{ints}
use Rattle.std.proofs.lemmas.List.Sums.{sum_by-append}
use Rattle.clock_ledger.specs.declared.charges.Charge.{Charge}
use Rattle.clock_ledger.specs.Charges.{amount}
use Rattle.clock_ledger.specs.Clock.{Ledger, timed, given, time_spent, remaining, charged}

pub remaining_is : (l : Ledger) (g s : ℕ) → timed l ≡ true → g ≡ given l → s ≡ time_spent l
    → pos g -ℤ pos s ≡ remaining l
remaining_is l g s on to_give to_take =
    ap (λ n. pos n -ℤ pos s) to_give
    ∙ ap (λ n. pos (given l) -ℤ pos n) to_take
    ∙ ap (λ b. if b then (pos (given l) -ℤ pos (time_spent l)) else pos 0) (sym on)

time_spent-charged : (l : Ledger) (c : Charge) → time_spent l + amount c ≡ time_spent (charged l c)
time_spent-charged l c = omega (arith, sum_by-append amount l.charges (c ∷ []))

given-charged : (l : Ledger) (c : Charge) → given l + l.increment * 1000 ≡ given (charged l c)
given-charged l c =
    let more : length l.charges + 1 ≡ length (l.charges ++ c ∷ []) = sym (length-append l.charges (c ∷ [])) in
    omega (arith, ap (λ n. l.increment * 1000 * n) more)

shifted : (a b p q : ℕ) (r t : ℤ) → pos a -ℤ pos b ≡ r → pos (a + p) -ℤ pos (b + q) ≡ t → t +ℤ pos q ≡ r +ℤ pos p
shifted a b p q r t before after = omega (arith, ints)

pub remaining-charged : (l : Ledger) (c : Charge) → IsTrue (timed l)
    → remaining (charged l c) +ℤ pos (amount c) ≡ remaining l +ℤ pos (l.increment * 1000)
remaining-charged l c is_timed =
    let on : timed l ≡ true = search rules in
    let before = remaining_is l (given l) (time_spent l) on refl refl in
    let after =
    remaining_is (charged l c) (given l + l.increment * 1000) (time_spent l + amount c) on (given-charged l c)
    (time_spent-charged l c)
    in
    shifted (given l) (time_spent l) (l.increment * 1000) (amount c) _ _ before after

-- Rows of seeks whose numbers rise: some go, one comes, and it goes again.
use Rattle.std.proofs.Common.{◌≡◌, ℕ, zero, suc, ◌+◌, ◌-◌, ◌<◌, ◌≤◌, Bool, true, false, not, cond, List, [], ◌∷◌, None, Some, length, refl, sym, ap, ◌∙◌}
use Rattle.std.specs.Prelude.{◌==◌}
use Rattle.std.specs.List.{filter, find, insert, list_any}
use Rattle.std.proofs.lemmas.Bool.{eq-eqb}
use Rattle.std.proofs.lemmas.Option.{none-some}
use Rattle.chess_model.specs.declared.variant.Terms.{Terms}
use Rattle.collections.proofs.Numbers.{turned}
use Rattle.collections.proofs.Rising as rising
use Rattle.seek_match.specs.declared.seek.Seek.{Seek}
use Rattle.seek_match.specs.Seeks.{AreSeeks, RiseAbove, first_gap, next_number, number_of, posting, without_number}

pub RiseAbove-filter : (p : Seek → Bool) (low : ℕ) (seeks : List Seek) → RiseAbove low seeks
    → RiseAbove low (filter p seeks)
RiseAbove-filter = rising.RiseAbove-filter number_of 65536

-- a seek with the first number that is left out, in its place
pub RiseAbove-insert : (seeks : List Seek) (low k : ℕ) (new : Seek) → RiseAbove low seeks → new.number ≡ low + 1 + k
    → new.number < 65536
    → first_gap (low + 1) seeks ≡ new.number → RiseAbove low (insert seeks k new)
RiseAbove-insert = rising.RiseAbove-insert number_of 65536

pub first_gap-above : (seeks : List Seek) (n : ℕ) → n ≤ first_gap n seeks
first_gap-above = rising.first_gap-above number_of

pub first_gap-within : (seeks : List Seek) (n : ℕ) → first_gap n seeks ≤ length seeks + n
first_gap-within = rising.first_gap-within number_of

-- no seek has the next number, as a table asks it
pub next_number-new : (seeks : List Seek) → AreSeeks seeks
    → find (λ seek. next_number seeks == seek.number) seeks ≡ None
next_number-new seeks rise =
    let number = next_number seeks in
    rising.find-none (λ seek. number == seek.number) seeks
    ((λ j. list_any (λ seek. turned number seek.number j) seeks)
    ∙ (rising.first_gap-is_least number_of 65536 seeks rise).unused)

-- what comes in at a place and alone passes goes again without a trace
left_out : (p : Seek → Bool) (seeks : List Seek) (k : ℕ) (new : Seek) → find p seeks ≡ None → p new ≡ true
    → filter (λ seek. not (p seek)) (insert seeks k new) ≡ seeks
left_out p [] zero new none passes = ap (λ t. cond (not t) (new ∷ []) []) passes
left_out p [] (suc k) new none passes = ap (λ t. cond (not t) (new ∷ []) []) passes
left_out p (seek ∷ seeks) zero new none passes =
    ap (λ t.
    cond (not t) (new ∷ filter (λ seek. not (p seek)) (seek ∷ seeks)) (filter (λ seek. not (p seek)) (seek ∷ seeks)))
    passes
    ∙ rising.all-left p (seek ∷ seeks) none
left_out p (seek ∷ seeks) (suc k) new none passes =
    elim (p seek)
    as (λ t.
    cond t (Some seek) (find p seeks) ≡ None
    → cond (not t) (seek ∷ filter (λ seek. not (p seek)) (insert seeks k new))
    (filter (λ seek. not (p seek)) (insert seeks k new))
    ≡ seek ∷ seeks) [
      | true ↦ λ h. absurd (none-some _ (sym h))
      | false ↦ λ h. ap (λ l. seek ∷ l) (left_out p seeks k new h passes)
    ] none

-- a new seek that is taken back
pub taken_back : (seeks : List Seek) (by : ℕ) (terms : Terms) → AreSeeks seeks
    → without_number (next_number seeks) (posting seeks by terms).after ≡ seeks
taken_back seeks by terms rise =
    let number = next_number seeks in
    left_out (λ seek. number == seek.number) seeks (number - 1) (record {
      number = number;
      by = by;
      terms = terms;
    }) (next_number-new seeks rise) (eq-eqb number number refl)

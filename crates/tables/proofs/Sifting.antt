-- Rows of which those that fail a test are taken out one by one.
use Rattle.std.proofs.Common.{◌≡◌, ◌+◌, ◌<◌, ◌≤◌, ℕ, zero, suc, Bool, true, false, not, cond, List, [], ◌∷◌, Option, None, Some, drop, length, map, position, refl, sym, ap, subst, ◌∙◌, arith}
use Rattle.std.specs.List.{filter, find, position_or_len, remove}
use Rattle.std.proofs.lemmas.Option.{cond_some, none-some}
use Rattle.tables.specs.Rows.{keyed}
use Rattle.tables.specs.Sifting.{BeginPassing}
use Rattle.tables.proofs.Placed.{find-missing, position-within}

remove-map : {A B : Type 0} (f : A → B) (xs : List A) (i : ℕ) → remove (map f xs) i ≡ map f (remove xs i)
remove-map f [] zero = refl
remove-map f [] (suc i) = refl
remove-map f (x ∷ xs) zero = refl
remove-map f (x ∷ xs) (suc i) = ap (λ l. f x ∷ l) (remove-map f xs i)

-- the entries without the one at a place are those of the rows without it
pub remove-keyed : {K T : Type 0} (key_of : T → K) (es : List (K × T)) (rows : List T) (place : ℕ)
    → keyed key_of rows ≡ es → remove es place ≡ keyed key_of (remove rows place)
remove-keyed key_of es rows place same =
    ap (λ l. remove l place) (sym same) ∙ remove-map (λ row. (key_of row, row)) rows place

module _ {X : Type 0} (p : X → Bool) where
  abbrev fails : X → Bool
  fails x = not (p x)

  -- what a search from a place on answered of rows that are these
  pub asked : (n : ℕ) (rows xs : List X) (answer found : Option ℕ) → rows ≡ xs → answer ≡ position fails (drop n rows)
      → answer ≡ found → position fails (drop n xs) ≡ found
  asked n rows xs answer found same searched is = ap (λ l. position fails (drop n l)) (sym same) ∙ sym searched ∙ is

  -- those at the beginning that pass are among the items
  pub begin-within : (n : ℕ) (xs : List X) → BeginPassing p n xs → n ≤ length xs
  begin-within zero xs passing = omega arith
  begin-within (suc n) [] passing = absurd passing
  begin-within (suc n) (x ∷ xs) passing = let rest = begin-within n xs passing.1 in omega (arith, rest)

  -- where none fails all stay
  none_fails : (xs : List X) → find fails xs ≡ None → filter p xs ≡ xs
  none_fails [] none = refl
  none_fails (x ∷ xs) none =
      elim (p x)
      as (λ t. cond (not t) (Some x) (find fails xs) ≡ None → cond t (x ∷ filter p xs) (filter p xs) ≡ x ∷ xs) [
        | true ↦ λ h. ap (λ l. x ∷ l) (none_fails xs h)
        | false ↦ λ h. absurd (none-some _ (sym h))
      ] none

  -- nor any from a place on, and those before it pass
  pub all_stay : (n : ℕ) (xs : List X) → BeginPassing p n xs → position fails (drop n xs) ≡ None → filter p xs ≡ xs
  all_stay zero xs passing none = none_fails xs (find-missing fails xs none)
  all_stay (suc n) [] passing none = refl
  all_stay (suc n) (x ∷ xs) passing none =
      ap (λ t. cond t (x ∷ filter p xs) (filter p xs)) passing.0 ∙ ap (λ l. x ∷ l) (all_stay n xs passing.1 none)

  -- the list without its item at this place has the same items that pass, and those before the place do
  abbrev Sifted : List X → ℕ → Type 0
  Sifted xs place = (filter p (remove xs place) ≡ filter p xs) × BeginPassing p place (remove xs place)

  behind_passing : (x : X) (xs : List X) (place : ℕ) → p x ≡ true → Sifted xs place → Sifted (x ∷ xs) (suc place)
  behind_passing x xs place passes rest = (ap (λ l. cond (p x) (x ∷ l) l) rest.0, (passes, rest.1))

  first_out : (xs : List X) (place : ℕ) → position_or_len fails xs ≡ place → place < length xs → Sifted xs place
  first_out [] place at within = absurd (omega (arith, within))
  first_out (x ∷ xs) place at within =
      elim (p x)
      as (λ t. p x ≡ t → cond (not (not t)) (1 + position_or_len fails xs) 0 ≡ place → Sifted (x ∷ xs) place) [
        | true ↦ λ passes h.
            let next : suc (position_or_len fails xs) ≡ place = omega (arith, h) in
            subst (Sifted (x ∷ xs)) next
            (behind_passing x xs _ passes (first_out xs _ refl (omega (arith, next, within))))
        | false ↦ λ fail h.
            subst (Sifted (x ∷ xs)) h (sym (ap (λ t. cond t (x ∷ filter p xs) (filter p xs)) fail), tt)
      ] refl at

  next_out : (n : ℕ) (xs : List X) (ahead place : ℕ) → BeginPassing p n xs → position fails (drop n xs) ≡ Some ahead
      → place ≡ n + ahead → Sifted xs place
  next_out zero xs ahead place passing found sum =
      first_out xs place ((cond_some _ (position_or_len fails xs) ahead found).1 ∙ omega (arith, sum))
      (omega (arith, sum, position-within fails xs ahead found))
  next_out (suc n) [] ahead place passing found sum = absurd passing
  next_out (suc n) (x ∷ xs) ahead zero passing found sum = absurd (omega (arith, sum))
  next_out (suc n) (x ∷ xs) ahead (suc place) passing found sum =
      behind_passing x xs place passing.0 (next_out n xs ahead place passing.1 found (omega (arith, sum)))

  -- without the first that fails from a place on, where those before it pass, the same stay
  pub same_stay : (n : ℕ) (xs : List X) (ahead place : ℕ) → BeginPassing p n xs
      → position fails (drop n xs) ≡ Some ahead → place ≡ n + ahead
      → filter p (remove xs place) ≡ filter p xs
  same_stay n xs ahead place passing found sum = (next_out n xs ahead place passing found sum).0

  -- and those before it pass
  pub pass_before : (n : ℕ) (xs : List X) (ahead place : ℕ) → BeginPassing p n xs
      → position fails (drop n xs) ≡ Some ahead → place ≡ n + ahead
      → BeginPassing p place (remove xs place)
  pass_before n xs ahead place passing found sum = (next_out n xs ahead place passing found sum).1

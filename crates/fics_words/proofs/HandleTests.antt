-- The test of a handle says what the definition of a handle says.
use Rattle.std.proofs.Common.{◌≡◌, ℕ, ◌≤◌, Bool, true, false, cond, List, [], ◌∷◌, length, refl, sym, ap, ◌∙◌, arith, Some, None, inl, inr}
use Rattle.std.specs.Prelude.{◌⊎◌, ◌&&◌, ◌||◌, nat_le, Option, SomeIff}
use Rattle.std.specs.List.{list_all, AllByRecursion}
use Rattle.std.specs.Char.{IsAsciiAlphabetic}
use Rattle.std.proofs.lemmas.Bool.Decides.{nat_tests}
use Rattle.std.proofs.lemmas.List.Elements.{All-from_recursion, recursion_from_All}
use Rattle.fics_words.specs.Handle.{IsHandle}
use Rattle.fics_words.specs.HandleTest.{is_handle, handle_of}
use Rattle.std.proofs.lemmas.Bool.{and_parts, and_from}

pub at_least : (a b : ℕ) → nat_le a b ≡ true → a ≤ b
at_least a b h = grind (arith, nat_tests)

pub is_at_least : (a b : ℕ) → a ≤ b → nat_le a b ≡ true
is_at_least a b h = grind (arith, nat_tests)

within : (lo hi b : ℕ) → (nat_le lo b && nat_le b hi) ≡ true → (lo ≤ b) × (b ≤ hi)
within lo hi b e = let both = and_parts (nat_le lo b) (nat_le b hi) e in (at_least lo b both.0, at_least b hi both.1)

is_within : (lo hi b : ℕ) → lo ≤ b → b ≤ hi → (nat_le lo b && nat_le b hi) ≡ true
is_within lo hi b p q = and_from (nat_le lo b) (nat_le b hi) (is_at_least lo b p) (is_at_least b hi q)

pub each : (test : ℕ → Bool) (P : ℕ → Type 0) → ((b : ℕ) → test b ≡ true → P b) → (bytes : List ℕ)
    → list_all test bytes ≡ true → AllByRecursion P bytes
each test P means [] e = tt
each test P means (b ∷ bytes) e =
    let both = and_parts (test b) (list_all test bytes) e in (means b both.0, each test P means bytes both.1)

each_again : (test : ℕ → Bool) (P : ℕ → Type 0) → ((b : ℕ) → P b → test b ≡ true) → (bytes : List ℕ)
    → AllByRecursion P bytes → list_all test bytes ≡ true
each_again test P means [] all = refl
each_again test P means (b ∷ bytes) all =
    and_from (test b) (list_all test bytes) (means b all.0) (each_again test P means bytes all.1)

letter : (b : ℕ) → ((nat_le 65 b && nat_le b 90) || (nat_le 97 b && nat_le b 122)) ≡ true → IsAsciiAlphabetic b
letter b e =
    elim (nat_le 65 b && nat_le b 90)
    as (λ t. (nat_le 65 b && nat_le b 90) ≡ t → t || (nat_le 97 b && nat_le b 122) ≡ true → IsAsciiAlphabetic b) [
      | true ↦ λ is e. inl (within 65 90 b is)
      | false ↦ λ is e. inr (within 97 122 b e)
    ] refl e

true_or : (a b : Bool) → (a ≡ true) ⊎ (b ≡ true) → a || b ≡ true
true_or true b e = refl
true_or false b (inl e) = absurd (let bad : false ≡ true = e in cc)
true_or false b (inr e) = e

letter_again : (b : ℕ) → IsAsciiAlphabetic b → ((nat_le 65 b && nat_le b 90) || (nat_le 97 b && nat_le b 122)) ≡ true
letter_again b (inl h) = true_or _ _ (inl (is_within 65 90 b h.0 h.1))
letter_again b (inr h) = true_or _ _ (inr (is_within 97 122 b h.0 h.1))

handle_spelled : (bytes : List ℕ) → is_handle bytes ≡ true → IsHandle bytes
handle_spelled bytes e =
    let letters = list_all (λ b. (nat_le 65 b && nat_le b 90) || (nat_le 97 b && nat_le b 122)) bytes in
    let parts = and_parts (nat_le 3 (length bytes)) (nat_le (length bytes) 17 && letters) e in
    let rest = and_parts (nat_le (length bytes) 17) letters parts.1 in (
      at_least 3 (length bytes) parts.0,
      at_least (length bytes) 17 rest.0,
      All-from_recursion IsAsciiAlphabetic bytes
          (each (λ b. (nat_le 65 b && nat_le b 90) || (nat_le 97 b && nat_le b 122)) IsAsciiAlphabetic letter bytes
          rest.1),
    )

handle_again : (bytes : List ℕ) → IsHandle bytes → is_handle bytes ≡ true
handle_again bytes h =
    and_from _ _ (is_at_least 3 (length bytes) h.0)
    (and_from _ _ (is_at_least (length bytes) 17 h.1)
    (each_again (λ b. (nat_le 65 b && nat_le b 90) || (nat_le 97 b && nat_le b 122)) IsAsciiAlphabetic letter_again
    bytes (recursion_from_All IsAsciiAlphabetic bytes h.2)))

pub handle_is : (bytes : List ℕ) (read : Option (List ℕ)) → SomeIff read (IsHandle bytes) bytes → read ≡ handle_of bytes
handle_is bytes None none =
    elim (is_handle bytes) as (λ t. is_handle bytes ≡ t → None ≡ cond t (Some bytes) None) [
      | true ↦ λ is. absurd (none (handle_spelled bytes is))
      | false ↦ λ is. refl
    ] refl
handle_is bytes (Some handle) (is, same) =
    ap (λ (x : List ℕ). Some x) same ∙ ap (λ (t : Bool). cond t (Some bytes) None) (sym (handle_again bytes is))

-- The names of guests: `Guest` and four capital letters. This server's own.
use Rattle.std.specs.Prelude.{◌≡◌, ℕ, ◌+◌, ◌/◌, ◌%◌, ◌<◌, zero, suc, Bool, true, false, cond, bytes_eq, List, [], ◌∷◌, ◌++◌, codes, length, refl}
use Rattle.std.specs.List.{list_any}
use Rattle.std.specs.Ordering.{nat_cmp}
use Rattle.std.specs.Cmp.Lexicographic.{slice_cmp}
use Rattle.std.specs.declared.cmp.Ordering.TheVariants.{Less}
use Rattle.fics_words.specs.Handle.{key_of}

-- the guest of a number from 0 to 456,975, whose four letters are the number's digits of base 26
abbrev pub guest_of : ℕ → List ℕ
guest_of n =
    codes "Guest" ++ (65 + n / 26 / 26 / 26) ∷ (65 + n / 26 / 26 % 26) ∷ (65 + n / 26 % 26) ∷ (65 + n % 26) ∷ []

-- the numbers of guests go by the alphabetical order of their names
abbrev pub GuestsInOrder : Type 0
GuestsInOrder = (m n : ℕ) → m < n → n < 456976 → slice_cmp nat_cmp (guest_of m) (guest_of n) ≡ Less

-- a key is one of these
abbrev pub is_taken : List (List ℕ) → List ℕ → Bool
is_taken taken key = list_any (λ other. bytes_eq other key) taken

-- the name is the least of the guest names whose key isn't taken
pub record IsLeastFree (taken : List (List ℕ)) (name : List ℕ) : Type 0 where
  pub number : ℕ
  pub within : number < 456976
  pub name_is : name ≡ guest_of number
  pub free : is_taken taken (key_of name) ≡ false
  pub least : (k : ℕ) → k < number → is_taken taken (key_of (guest_of k)) ≡ true

-- the least number from this one on whose guest's key isn't taken, if one of so many is: else the number behind these
abbrev pub free_number : List (List ℕ) → ℕ → ℕ → ℕ
free_number taken number zero = number
free_number taken number (suc more) =
    cond (is_taken taken (key_of (guest_of number))) (free_number taken (number + 1) more) number

-- the guest that enters next; so many keys never take all of one guest more
unfoldable pub guest_among : List (List ℕ) → List ℕ
guest_among taken = guest_of (free_number taken 0 (length taken))

-- and that is the least free one, while fewer keys are taken than there are guests
abbrev pub GuestsAreLeast : Type 0
GuestsAreLeast = (taken : List (List ℕ)) → length taken < 456976 → IsLeastFree taken (guest_among taken)

example_first : guest_of 0 ≡ codes "GuestAAAA"
example_first = refl

example_second : guest_of 1 ≡ codes "GuestAAAB"
example_second = refl

example_next_letter : guest_of 26 ≡ codes "GuestAABA"
example_next_letter = refl

example_last : guest_of 456975 ≡ codes "GuestZZZZ"
example_last = refl

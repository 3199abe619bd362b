-- Guests' names differ, so fewer keys than there are guests leave a name free.
use Rattle.std.proofs.Common.{◌≡◌, ℕ, zero, suc, ◌+◌, ◌/◌, ◌%◌, ◌<◌, ◌≤◌, Bool, true, false, not, cond, List, [], ◌∷◌, length, refl, sym, ap, subst, ◌∙◌, arith, inl, inr}
use Rattle.std.specs.Prelude.{◌⊎◌, ◌||◌, bytes_eq}
use Rattle.std.specs.List.{filter}
use Rattle.std.specs.Char.{to_ascii_lowercase}
use Rattle.std.specs.Cmp.Lexicographic.{nat_list_eq_equiv}
use Rattle.std.proofs.lemmas.Slice.Eq.{bytes_eq-Decides}
use Rattle.std.proofs.lemmas.Str.Ascii.{lowercase_is}
use Rattle.fics_words.specs.Handle.{key_of}
use Rattle.login_handles.specs.Guests.{GuestsAreLeast, IsLeastFree, free_number, guest_among, guest_of, is_taken}
use Rattle.std.proofs.lemmas.Bool.{or_right}

-- the keys of all guests below this number are taken
abbrev pub AllTaken : List (List ℕ) → ℕ → Type 0
AllTaken taken n = (k : ℕ) → k < n → is_taken taken (key_of (guest_of k)) ≡ true

none_below : (k : ℕ) → k < 0 → ⊥
none_below k h = omega arith

pub AllTaken-none : (taken : List (List ℕ)) → AllTaken taken 0
AllTaken-none taken = λ k h. absurd (none_below k h)

pub AllTaken-more : (taken : List (List ℕ)) (n : ℕ) → AllTaken taken n → is_taken taken (key_of (guest_of n)) ≡ true
    → AllTaken taken (n + 1)
AllTaken-more taken n all next k h =
    elim (cases k n h) as (λ _. is_taken taken (key_of (guest_of k)) ≡ true) [
      | inl less ↦ all k less
      | inr same ↦ subst (λ (x : ℕ). is_taken taken (key_of (guest_of x)) ≡ true) (sym same) next
    ]
  where
    cases : (k n : ℕ) → k < n + 1 → (k < n) ⊎ (k ≡ n)
    cases k n h = grind arith

-- the keys other than this one
without : List ℕ → List (List ℕ) → List (List ℕ)
without key = filter (λ other. not (bytes_eq other key))

pub bytes_eq-self : (a : List ℕ) → bytes_eq a a ≡ true
bytes_eq-self a = nat_list_eq_equiv.refl a

-- another key stays taken
taken-without : (taken : List (List ℕ)) (key gone : List ℕ) → (key ≡ gone → ⊥) → is_taken taken key ≡ true
    → is_taken (without gone taken) key ≡ true
unfolding without
taken-without [] key gone differ h = h
taken-without (first ∷ taken) key gone differ h =
    elim (bytes_eq first key)
    as (λ t.
    bytes_eq first key ≡ t → t || is_taken taken key ≡ true → is_taken (without gone (first ∷ taken)) key ≡ true) [
      | true ↦ λ same _.
          let there : first ≡ key = (bytes_eq-Decides first key).0 same in
          let stays : bytes_eq first gone ≡ false = other first there in
          ap (λ (t : Bool). is_taken (cond (not t) (first ∷ without gone taken) (without gone taken)) key) stays
          ∙ ap (λ (t : Bool). t || is_taken (without gone taken) key) same
      | false ↦ λ differs rest. later (bytes_eq first gone) (taken-without taken key gone differ rest)
    ] refl h
  where
    other : (first : List ℕ) → first ≡ key → bytes_eq first gone ≡ false
    other first there =
        elim (bytes_eq first gone) as (λ t. bytes_eq first gone ≡ t → t ≡ false) [
          | true ↦ λ same. absurd (differ (sym there ∙ (bytes_eq-Decides first gone).0 same))
          | false ↦ λ differs. refl
        ] refl

    later : (t : Bool) → is_taken (without gone taken) key ≡ true
        → is_taken (cond (not t) (first ∷ without gone taken) (without gone taken)) key ≡ true
    later true h = h
    later false h = or_right (bytes_eq first key) _ h

without-short : (taken : List (List ℕ)) (key : List ℕ) → length (without key taken) ≤ length taken
unfolding without
without-short [] key = omega arith
without-short (first ∷ taken) key =
    elim (bytes_eq first key)
    as (λ t. length (cond (not t) (first ∷ without key taken) (without key taken)) ≤ length (first ∷ taken)) [
      | true ↦ let rest = without-short taken key in omega (arith, rest)
      | false ↦ let rest = without-short taken key in omega (arith, rest)
    ]

-- a key that is taken goes
without-shorter : (taken : List (List ℕ)) (key : List ℕ) → is_taken taken key ≡ true
    → length (without key taken) < length taken
unfolding without
without-shorter [] key h = absurd (let bad : false ≡ true = h in cc)
without-shorter (first ∷ taken) key h =
    elim (bytes_eq first key)
    as (λ t.
    bytes_eq first key ≡ t → t || is_taken taken key ≡ true
    → length (cond (not t) (first ∷ without key taken) (without key taken)) < length (first ∷ taken)) [
      | true ↦ λ _ _. let rest = without-short taken key in omega (arith, rest)
      | false ↦ λ _ h. let rest = without-shorter taken key h in omega (arith, rest)
    ] refl h

-- a letter of a guest's key
small : (d : ℕ) → d < 26 → to_ascii_lowercase (65 + d) ≡ 97 + d
small d h =
    (lowercase_is (65 + d)).0 (omega arith, omega arith) ∙ (let same : 65 + d + 32 ≡ 97 + d = omega arith in same)

-- equal letters of keys are equal digits
digit : (a b : ℕ) → a < 26 → b < 26 → to_ascii_lowercase (65 + a) ≡ to_ascii_lowercase (65 + b) → a ≡ b
digit a b p q e = let same : 97 + a ≡ 97 + b = sym (small a p) ∙ e ∙ small b q in omega arith

at : ℕ → List ℕ → ℕ
at zero [] = 0
at (suc n) [] = 0
at zero (x ∷ xs) = x
at (suc n) (x ∷ xs) = at n xs

-- two guests with one key are one
guest_keys_differ : (m n : ℕ) → m < 456976 → n < 456976 → key_of (guest_of m) ≡ key_of (guest_of n) → m ≡ n
unfolding at
guest_keys_differ m n p q e =
    let top : m / 26 / 26 / 26 ≡ n / 26 / 26 / 26 = digit _ _ (omega arith) (omega arith) (ap (at 5) e) in
    let third : m / 26 / 26 % 26 ≡ n / 26 / 26 % 26 = digit _ _ (omega arith) (omega arith) (ap (at 6) e) in
    let second : m / 26 % 26 ≡ n / 26 % 26 = digit _ _ (omega arith) (omega arith) (ap (at 7) e) in
    let last : m % 26 ≡ n % 26 = digit _ _ (omega arith) (omega arith) (ap (at 8) e) in
    whole m n (whole (m / 26) (n / 26) (whole (m / 26 / 26) (n / 26 / 26) top third) second) last
  where
    whole : (a b : ℕ) → a / 26 ≡ b / 26 → a % 26 ≡ b % 26 → a ≡ b
    whole a b quotient rest = omega arith

-- as many keys as guests below the number
pub AllTaken-length : (n : ℕ) (taken : List (List ℕ)) → n ≤ 456976 → AllTaken taken n → n ≤ length taken
AllTaken-length zero taken small_enough all = omega arith
AllTaken-length (suc n) taken small_enough all =
    let gone = key_of (guest_of n) in
    let there : is_taken taken gone ≡ true = all n (omega arith) in
    let fewer = without-shorter taken gone there in
    let rest : n ≤ length (without gone taken) =
    AllTaken-length n (without gone taken) (omega arith)
    (λ k h.
    taken-without taken (key_of (guest_of k)) gone
    (λ same. not_below k n h (guest_keys_differ k n (below k n h small_enough) (omega arith) same))
    (all k (more k n h))) in
    omega arith
  where
    not_below : (k n : ℕ) → k < n → k ≡ n → ⊥
    not_below k n h e = omega arith

    below : (k n : ℕ) → k < n → suc n ≤ 456976 → k < 456976
    below k n h s = omega arith

    more : (k n : ℕ) → k < n → k < suc n
    more k n h = omega arith

-- where as many are taken as there are keys, the next is free
next_free : (taken : List (List ℕ)) (n : ℕ) → n < 456976 → length taken ≤ n → AllTaken taken n
    → is_taken taken (key_of (guest_of n)) ≡ false
next_free taken n below enough all =
    elim (is_taken taken (key_of (guest_of n))) as (λ t. is_taken taken (key_of (guest_of n)) ≡ t → t ≡ false) [
      | true ↦ λ e.
          let bound : n + 1 ≤ length taken =
          AllTaken-length (n + 1) taken (omega arith) (AllTaken-more taken n all e) in
          absurd (omega arith)
      | false ↦ λ e. refl
    ] refl

least_from : (taken : List (List ℕ)) (n more : ℕ) → n < 456976 → length taken < 456976 → length taken ≤ n + more
    → AllTaken taken n
    → IsLeastFree taken (guest_of (free_number taken n more))
least_from taken n zero below few enough all =
    record { number = n; within = below; name_is = refl; free = next_free taken n below (omega arith) all; least = all }
least_from taken n (suc more) below few enough all =
    elim (is_taken taken (key_of (guest_of n)))
    as (λ t.
    is_taken taken (key_of (guest_of n)) ≡ t
    → IsLeastFree taken (guest_of (cond t (free_number taken (n + 1) more) n))) [
      | true ↦ λ e.
          let further = AllTaken-more taken n all e in
          let bound : n + 1 ≤ length taken = AllTaken-length (n + 1) taken (omega arith) further in
          least_from taken (n + 1) more (omega arith) few (omega arith) further
      | false ↦ λ e. record { number = n; within = below; name_is = refl; free = e; least = all }
    ] refl

pub guests_are_least : GuestsAreLeast
unfolding guest_among
guests_are_least = λ taken few. least_from taken 0 (length taken) (omega arith) few (omega arith) (AllTaken-none taken)

earlier : (taken : List (List ℕ)) (a b : List ℕ) → (p : IsLeastFree taken a) → (q : IsLeastFree taken b)
    → p.number < q.number → ⊥
earlier taken a b p q h =
    let bad : false ≡ true =
    sym p.free ∙ ap (λ (n : List ℕ). is_taken taken (key_of n)) p.name_is ∙ q.least p.number h in
    cc

-- there is one least free name alone
pub IsLeastFree-one : (taken : List (List ℕ)) (a b : List ℕ) → IsLeastFree taken a → IsLeastFree taken b → a ≡ b
IsLeastFree-one taken a b p q =
    p.name_is ∙ ap guest_of (same p.number q.number (earlier taken a b p q) (earlier taken b a q p)) ∙ sym q.name_is
  where
    same : (m n : ℕ) → (m < n → ⊥) → (n < m → ⊥) → m ≡ n
    same m n p q = grind arith

-- Fields one after another.
use Rattle.std.proofs.Common.{◌≡◌, ℕ, ◌+◌, ◌<◌, ◌≤◌, arith, List, [], ◌∷◌, ◌++◌, length, map, take, get_or, sym, ap, ◌∙◌, append_assoc}
use Rattle.std.proofs.lemmas.List.{map-append, take_more, append-nil}
use Rattle.std.proofs.lemmas.List.Concat.{flat_map-append}
use Rattle.std.specs.List.{join_with_byte}
use Rattle.style12_writer.specs.Spaced.{spaced}

pub spaced-append : (xs ys : List (List ℕ)) → spaced (xs ++ ys) ≡ spaced xs ++ spaced ys
spaced-append xs ys = flat_map-append (λ field. 32 ∷ field) xs ys

-- one more field, made of the item at i
pub spaced_more : (field : ℕ → List ℕ) (items : List ℕ) (i : ℕ) → i < length items
    → spaced (map field (take (i + 1) items)) ≡ spaced (map field (take i items)) ++ 32 ∷ field (get_or items i 0)
spaced_more field items i within =
    ap (λ front. spaced (map field front)) (take_more items i 0 within)
    ∙ ap spaced (map-append field (take i items) (get_or items i 0 ∷ []))
    ∙ spaced-append (map field (take i items)) (field (get_or items i 0) ∷ [])
    ∙ ap (λ last. spaced (map field (take i items)) ++ 32 ∷ last) (append-nil (field (get_or items i 0)))

-- a line to which the item at i is appended as a field
pub line_more : (field : ℕ → List ℕ) (items : List ℕ) (i : ℕ) (line mid now : List ℕ) → i < length items
    → mid ≡ line ++ spaced (map field (take i items)) → now ≡ mid ++ 32 ∷ field (get_or items i 0)
    → now ≡ line ++ spaced (map field (take (i + 1) items))
line_more field items i line mid now within so_far here =
    let front = spaced (map field (take i items)) in
    let last = 32 ∷ field (get_or items i 0) in
    here ∙ ap (λ text. text ++ last) so_far ∙ append_assoc line front last
    ∙ ap (λ rest. line ++ rest) (sym (spaced_more field items i within))

-- the fields of a line, joined by blanks
pub join-spaced : (first : List ℕ) (rest : List (List ℕ)) → join_with_byte 32 (first ∷ rest) ≡ first ++ spaced rest
join-spaced first [] = sym (append-nil first)
join-spaced first (next ∷ rest) = ap (λ tail. first ++ 32 ∷ tail) (join-spaced next rest)

-- the same of four groups of fields behind the first
pub join_groups : (first : List ℕ) (a b c d : List (List ℕ))
    → join_with_byte 32 (first ∷ a ++ b ++ c ++ d) ≡ first ++ spaced a ++ spaced b ++ spaced c ++ spaced d
join_groups first a b c d = join-spaced first (a ++ b ++ c ++ d) ∙ simp (spaced-append, append_assoc)

-- a line to which five texts were appended, one after another
pub five_appended : (first a b c d start l0 l1 l2 l3 l4 : List ℕ) → start ≡ [] → l0 ≡ start ++ first → l1 ≡ l0 ++ a
    → l2 ≡ l1 ++ b → l3 ≡ l2 ++ c → l4 ≡ l3 ++ d → l4 ≡ first ++ a ++ b ++ c ++ d
five_appended first a b c d start l0 l1 l2 l3 l4 none h0 h1 h2 h3 h4 =
    let e0 : l0 ≡ first = h0 ∙ ap (λ l. l ++ first) none in
    let e1 : l1 ≡ first ++ a = h1 ∙ ap (λ l. l ++ a) e0 in
    let e2 : l2 ≡ first ++ a ++ b = h2 ∙ ap (λ l. l ++ b) e1 in
    let e3 : l3 ≡ first ++ a ++ b ++ c = h3 ∙ ap (λ l. l ++ c) e2 in
    h4 ∙ ap (λ l. l ++ d) e3

-- a line to which two texts were appended, or three
pub two_appended : (a b l0 l1 l2 : List ℕ) → l1 ≡ l0 ++ a → l2 ≡ l1 ++ b → l2 ≡ l0 ++ (a ++ b)
two_appended a b l0 l1 l2 h1 h2 = h2 ∙ ap (λ l. l ++ b) h1 ∙ append_assoc l0 a b

pub three_appended : (a b c l0 l1 l2 l3 : List ℕ) → l1 ≡ l0 ++ a → l2 ≡ l1 ++ b → l3 ≡ l2 ++ c
    → l3 ≡ l0 ++ (a ++ b ++ c)
three_appended a b c l0 l1 l2 l3 h1 h2 h3 = two_appended (a ++ b) c l0 l2 l3 (two_appended a b l0 l1 l2 h1 h2) h3

-- a line to which three fields were appended
pub three_fields : (a b c l0 l1 l2 l3 : List ℕ) → l1 ≡ l0 ++ 32 ∷ a → l2 ≡ l1 ++ 32 ∷ b → l3 ≡ l2 ++ 32 ∷ c
    → l3 ≡ l0 ++ spaced (a ∷ b ∷ c ∷ [])
three_fields a b c l0 l1 l2 l3 h1 h2 h3 =
    three_appended (32 ∷ a) (32 ∷ b) (32 ∷ c) l0 l1 l2 l3 h1 h2 h3 ∙ simp (append_assoc, append-nil)

-- how long a line is to which a text, a bounded one and a text were appended
pub most_of_three : (a b d l0 l1 l2 l3 : ℕ) → l1 ≡ l0 + a → l2 ≤ l1 + b → l3 ≡ l2 + d → l3 ≤ l0 + (a + b + d)
most_of_three a b d l0 l1 l2 l3 h1 h2 h3 = omega arith

-- how long a line is to which three bounded texts were appended
pub most_of_fields : (a b d l0 l1 l2 l3 : ℕ) → l1 ≤ l0 + a → l2 ≤ l1 + b → l3 ≤ l2 + d → l3 ≤ l0 + (a + b + d)
most_of_fields a b d l0 l1 l2 l3 h1 h2 h3 = omega arith

-- The pieces of a text between its line feeds.
use Rattle.std.proofs.Common.{◌≡◌, ◌==◌, ℕ, true, false, cond, List, [], ◌∷◌, ◌++◌, refl, ap}
use Rattle.std.specs.List.{onto_first, slice_split}
use Rattle.fics_words.specs.Pieces.{but_last, last_of}

-- a list with a first element
pub record Begins (parts : List (List ℕ)) : Type 0 where
  pub first : List ℕ
  pub others : List (List ℕ)
  pub is : parts ≡ first ∷ others

-- a text has a first piece
pub Begins-pieces : (text : List ℕ) → Begins (slice_split (λ b. b == 10) text)
Begins-pieces [] = record { first = []; others = []; is = refl }
Begins-pieces (b ∷ text) =
    let rest = Begins-pieces text in
    let pieces = slice_split (λ b. b == 10) text in
    elim (b == 10) as (λ t. Begins (cond t ([] ∷ pieces) (onto_first b pieces))) [
      | true ↦ record { first = []; others = pieces; is = refl }
      | false ↦ record { first = b ∷ rest.first; others = rest.others; is = ap (onto_first b) rest.is }
    ]

pub but_last-cons : (x : List ℕ) (parts : List (List ℕ)) → Begins parts → but_last (x ∷ parts) ≡ x ∷ but_last parts
but_last-cons x [] h = absurd (let bad = h.is in cc)
but_last-cons x (y ∷ ys) h = refl

pub last_of-cons : (x : List ℕ) (parts : List (List ℕ)) → Begins parts → last_of (x ∷ parts) ≡ last_of parts
last_of-cons x [] h = absurd (let bad = h.is in cc)
last_of-cons x (y ∷ ys) h = refl

-- all but the last, and the last
pub but_last-last_of : (parts : List (List ℕ)) → Begins parts → but_last parts ++ last_of parts ∷ [] ≡ parts
but_last-last_of [] h = absurd (let bad = h.is in cc)
but_last-last_of (x ∷ []) h = refl
but_last-last_of (x ∷ y ∷ ys) h =
    ap (λ l. x ∷ l) (but_last-last_of (y ∷ ys) (record { first = y; others = ys; is = refl }))

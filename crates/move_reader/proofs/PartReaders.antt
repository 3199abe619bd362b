-- The readers of a word's parts: what they take stands at the prefix of the text.
use Rattle.std.proofs.Common.{◌≡◌, ℕ, ◌+◌, ◌*◌, Bool, true, false, cond, List, [], ◌∷◌, refl, sym, ap, subst, Some, None, inl, inr}
use Rattle.std.specs.Prelude.{◌⊎◌, ◌==◌, ◌||◌, Option}
use Rattle.std.proofs.lemmas.Bool.{eqb-true}
use Rattle.chess_model.specs.declared.man.Kind.{Kind}
use Rattle.move_reader.specs.Spellings.{Text, OneOf, MadeOf, square_names, man_letters, origin_files, origin_ranks, promotion_letters, promotion_and, marks}
use Rattle.move_reader.specs.Reading.{lookup, promotable, man_of, file_of_letter, rank_of_digit, told, leading, behind_byte, squared, leading_square, ended, is_mark, is_empty, promoted, promotion_spelled, or_pawn}
use Rattle.move_reader.proofs.ByteMeanings.{not_some, man_letter, promotion_letter, OneOf-if, is_below, file_read, rank_read, name_of_square}

-- nothing was taken, or the first byte as what it means
abbrev pub Takes : {V : Type 0} → (ℕ → Option V) → Text → Option V × Text → Type 0
Takes {V} meaning text taken =
    (taken ≡ (None, text))
    ⊎ ((b : ℕ) × (v : V) × (rest : Text) × (text ≡ b ∷ rest) × (meaning b ≡ Some v) × (taken ≡ (Some v, rest)))

pub leading-takes : {V : Type 0} (meaning : ℕ → Option V) (text : Text) → Takes meaning text (leading meaning text)
leading-takes meaning [] = inl refl
leading-takes meaning (b ∷ rest) =
    elim (meaning b) as (λ o. meaning b ≡ o → Takes meaning (b ∷ rest) (told o b rest)) [
      | None ↦ λ e. inl refl
      | Some v ↦ λ e. inr (b, v, rest, refl, e, refl)
    ] refl

man-step : (text : Text) (taken : Option Kind × Text) (parts : List (List Text)) → Takes man_of text taken
    → MadeOf parts taken.1
    → MadeOf (man_letters (or_pawn taken.0) ∷ parts) text
man-step text taken parts (inl e) =
    subst (λ (t : Option Kind × Text). MadeOf parts t.1 → MadeOf (man_letters (or_pawn t.0) ∷ parts) text) (sym e)
    (λ m. ([], text, inl refl, m, refl))
man-step text taken parts (inr (b, v, rest, split, means, e)) =
    subst (λ (t : Option Kind × Text). MadeOf parts t.1 → MadeOf (man_letters (or_pawn t.0) ∷ parts) text) (sym e)
    (λ m. (b ∷ [], rest, man_letter b v means, m, split))

pub man-sound : (text : Text) (parts : List (List Text)) → MadeOf parts (leading man_of text).1
    → MadeOf (man_letters (or_pawn (leading man_of text).0) ∷ parts) text
man-sound text parts m = man-step text (leading man_of text) parts (leading-takes man_of text) m

file_letter : (b f : ℕ) → file_of_letter b ≡ Some f → OneOf (origin_files (Some f)) (b ∷ [])
file_letter b f e =
    let read = file_read b f e in
    subst (λ (x : ℕ). OneOf (origin_files (Some f)) (x ∷ [])) (sym read.1) (OneOf-if _ _ (is_below f 8 read.0))

rank_digit : (b r : ℕ) → rank_of_digit b ≡ Some r → OneOf (origin_ranks (Some r)) (b ∷ [])
rank_digit b r e =
    let read = rank_read b r e in
    subst (λ (x : ℕ). OneOf (origin_ranks (Some r)) (x ∷ [])) (sym read.1) (OneOf-if _ _ (is_below r 8 read.0))

file-step : (text : Text) (taken : Option ℕ × Text) (parts : List (List Text)) → Takes file_of_letter text taken
    → MadeOf parts taken.1
    → MadeOf (origin_files taken.0 ∷ parts) text
file-step text taken parts (inl e) =
    subst (λ (t : Option ℕ × Text). MadeOf parts t.1 → MadeOf (origin_files t.0 ∷ parts) text) (sym e)
    (λ m. ([], text, inl refl, m, refl))
file-step text taken parts (inr (b, v, rest, split, means, e)) =
    subst (λ (t : Option ℕ × Text). MadeOf parts t.1 → MadeOf (origin_files t.0 ∷ parts) text) (sym e)
    (λ m. (b ∷ [], rest, file_letter b v means, m, split))

pub file-sound : (text : Text) (parts : List (List Text)) → MadeOf parts (leading file_of_letter text).1
    → MadeOf (origin_files (leading file_of_letter text).0 ∷ parts) text
file-sound text parts m = file-step text (leading file_of_letter text) parts (leading-takes file_of_letter text) m

rank-step : (text : Text) (taken : Option ℕ × Text) (parts : List (List Text)) → Takes rank_of_digit text taken
    → MadeOf parts taken.1
    → MadeOf (origin_ranks taken.0 ∷ parts) text
rank-step text taken parts (inl e) =
    subst (λ (t : Option ℕ × Text). MadeOf parts t.1 → MadeOf (origin_ranks t.0 ∷ parts) text) (sym e)
    (λ m. ([], text, inl refl, m, refl))
rank-step text taken parts (inr (b, v, rest, split, means, e)) =
    subst (λ (t : Option ℕ × Text). MadeOf parts t.1 → MadeOf (origin_ranks t.0 ∷ parts) text) (sym e)
    (λ m. (b ∷ [], rest, rank_digit b v means, m, split))

pub rank-sound : (text : Text) (parts : List (List Text)) → MadeOf parts (leading rank_of_digit text).1
    → MadeOf (origin_ranks (leading rank_of_digit text).0 ∷ parts) text
rank-sound text parts m = rank-step text (leading rank_of_digit text) parts (leading-takes rank_of_digit text) m

-- a byte that may be left out
pub behind_byte-sound : (byte : ℕ) (text : Text) (parts : List (List Text)) → MadeOf parts (behind_byte byte text)
    → MadeOf (([] ∷ (byte ∷ []) ∷ []) ∷ parts) text
behind_byte-sound byte [] parts m = ([], [], inl refl, m, refl)
behind_byte-sound byte (first ∷ rest) parts m =
    elim (first == byte)
    as (λ t.
    (first == byte) ≡ t → MadeOf parts (cond t rest (first ∷ rest))
    → MadeOf (([] ∷ (byte ∷ []) ∷ []) ∷ parts) (first ∷ rest)) [
      | true ↦ λ is m. (byte ∷ [], rest, inr (inl refl), m, ap (λ (b : ℕ). b ∷ rest) (eqb-true first byte is))
      | false ↦ λ is m. ([], first ∷ rest, inl refl, m, refl)
    ] refl m

-- a file and a rank that were read together
pub squared-both : (file rank : Option ℕ) (rest : Text) (found : ℕ × Text) → squared file rank rest ≡ Some found
    → (f : ℕ) × (r : ℕ) × (file ≡ Some f) × (rank ≡ Some r) × (found ≡ (8 * r + f, rest))
squared-both (Some f) (Some r) rest found e = (f, r, refl, refl, let same : found ≡ (8 * r + f, rest) = cc in same)
squared-both (Some f) None rest found e = not_some found e
squared-both None rank rest found e = not_some found e

-- a letter and a digit that are read as a square are its name
pub square_named : (b c f r : ℕ) → file_of_letter b ≡ Some f → rank_of_digit c ≡ Some r
    → OneOf (square_names (8 * r + f)) (b ∷ c ∷ [])
square_named b c f r p q =
    let file = file_read b f p in
    let rank = rank_read c r q in
    subst (λ (x : ℕ). OneOf (square_names (8 * r + f)) (x ∷ c ∷ [])) (sym file.1)
    (subst (λ (x : ℕ). OneOf (square_names (8 * r + f)) ((97 + f) ∷ x ∷ [])) (sym rank.1)
    (name_of_square f r file.0 rank.0))

pub square-sound : (text : Text) (found : ℕ × Text) (parts : List (List Text)) → leading_square text ≡ Some found
    → MadeOf parts found.1
    → MadeOf (square_names found.0 ∷ parts) text
square-sound [] found parts e m = not_some found e
square-sound (b ∷ []) found parts e m = not_some found e
square-sound (b ∷ c ∷ rest) found parts e m =
    let both = squared-both (file_of_letter b) (rank_of_digit c) rest found e in
    let f = both.0 in
    let r = both.1 in
    subst (λ (x : ℕ × Text). MadeOf parts x.1 → MadeOf (square_names x.0 ∷ parts) (b ∷ c ∷ rest)) (sym both.4)
    (λ m. (b ∷ c ∷ [], rest, square_named b c f r both.2 both.3, m, refl)) m

pub ended-both : {V : Type 0} (v w : V) (end : Bool) → ended v end ≡ Some w → (end ≡ true) × (v ≡ w)
ended-both v w true e = (refl, let same : v ≡ w = cc in same)
ended-both v w false e = not_some w e

-- the end of a promotion stands for these parts
abbrev pub Ends : (Text → Bool) → List (List Text) → Type 0
Ends is_end ends = (text : Text) → is_end text ≡ true → MadeOf ends text

promotion-step : (is_end : Text → Bool) (ends : List (List Text)) (text : Text) (promo : Option Kind)
    (taken : Option Kind × Text)
    → Ends is_end ends
    → Takes (lookup promotable) (behind_byte 61 text) taken
    → promoted taken.0 (is_end taken.1) (is_end text) ≡ Some promo
    → MadeOf (promotion_and promo ends) text
promotion-step is_end ends text promo taken sound (inl e) =
    subst (λ (t : Option Kind × Text).
    promoted t.0 (is_end t.1) (is_end text) ≡ Some promo → MadeOf (promotion_and promo ends) text)
    (sym e)
    (λ is.
    let both = ended-both None promo (is_end text) is in
    subst (λ (p : Option Kind). MadeOf (promotion_and p ends) text) both.1 (sound text both.0))
promotion-step is_end ends text promo taken sound (inr (b, k, rest, split, means, e)) =
    subst (λ (t : Option Kind × Text).
    promoted t.0 (is_end t.1) (is_end text) ≡ Some promo → MadeOf (promotion_and promo ends) text)
    (sym e)
    (λ is.
    let both = ended-both (Some k) promo (is_end rest) is in
    subst (λ (p : Option Kind). MadeOf (promotion_and p ends) text) both.1
    (behind_byte-sound 61 text (promotion_letters k ∷ ends)
    (b ∷ [], rest, promotion_letter b k means, sound rest both.0, split)))

pub promotion-sound : (is_end : Text → Bool) (ends : List (List Text)) (text : Text) (promo : Option Kind)
    → Ends is_end ends
    → promotion_spelled is_end text ≡ Some promo → MadeOf (promotion_and promo ends) text
promotion-sound is_end ends text promo sound e =
    promotion-step is_end ends text promo (leading (lookup promotable) (behind_byte 61 text)) sound
    (leading-takes (lookup promotable) (behind_byte 61 text)) e

pub is_empty-sound : Ends is_empty []
is_empty-sound [] e = refl
is_empty-sound (b ∷ rest) e = absurd (let bad : false ≡ true = e in cc)

mark_byte : (b : ℕ) (p q : Bool) → (b == 43) ≡ p → (b == 35) ≡ q → p || q ≡ true → OneOf marks (b ∷ [])
mark_byte b true q is_plus is_hash e = inr (inl (ap (λ (x : ℕ). x ∷ []) (eqb-true b 43 is_plus)))
mark_byte b false true is_plus is_hash e = inr (inr (inl (ap (λ (x : ℕ). x ∷ []) (eqb-true b 35 is_hash))))
mark_byte b false false is_plus is_hash e = absurd (let bad : false ≡ true = e in cc)

pub is_mark-sound : Ends is_mark (marks ∷ [])
is_mark-sound [] e = ([], [], inl refl, refl, refl)
is_mark-sound (b ∷ []) e = (b ∷ [], [], mark_byte b (b == 43) (b == 35) refl refl e, refl, refl)
is_mark-sound (b ∷ c ∷ rest) e = absurd (let bad : false ≡ true = e in cc)

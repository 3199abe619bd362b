-- What single bytes stand for, and the texts of one byte.
use Rattle.std.proofs.Common.{◌≡◌, ℕ, ◌+◌, ◌-◌, ◌*◌, ◌/◌, ◌%◌, ◌<◌, ◌≤◌, Bool, true, false, cond, List, [], ◌∷◌, refl, sym, ap, subst, ◌∙◌, arith, Some, None, inl, inr}
use Rattle.std.specs.Prelude.{◌&&◌, ◌==◌, nat_le, nat_lt}
use Rattle.std.proofs.lemmas.Bool.{eqb-true}
use Rattle.std.proofs.lemmas.Bool.Decides.{nat_tests}
use Rattle.chess_model.specs.declared.man.Kind.{Kind}
use Rattle.move_reader.specs.Spellings.{Text, OneOf, square_names, man_letters, promotion_letters, drop_letters}
use Rattle.move_reader.specs.Reading.{lookup, men, promotable, droppable, man_of, file_of_letter, rank_of_digit}

pub not_some : {V : Type 0} {C : Type 0} (v : V) → None ≡ Some v → C
not_some v e = absurd (let bad : None ≡ Some v = e in cc)

-- a property of each row of a table
abbrev AllRows : (ℕ → Kind → Type 0) → List (ℕ × Kind) → Type 0
AllRows P [] = Unit {0}
AllRows P (row ∷ rows) = P row.0 row.1 × AllRows P rows

lookup-all : (P : ℕ → Kind → Type 0) (rows : List (ℕ × Kind)) (b : ℕ) (k : Kind) → AllRows P rows
    → lookup rows b ≡ Some k → P b k
lookup-all P [] b k all e = not_some k e
lookup-all P (row ∷ rows) b k all e =
    elim (b == row.0) as (λ t. (b == row.0) ≡ t → cond t (Some row.1) (lookup rows b) ≡ Some k → P b k) [
      | true ↦ λ is found.
          let same : row.1 ≡ k = cc in
          subst (λ (x : ℕ). P x k) (sym (eqb-true b row.0 is)) (subst (λ (y : Kind). P row.0 y) same all.0)
      | false ↦ λ is found. lookup-all P rows b k all.1 found
    ] refl e

pub man_letter : (b : ℕ) (k : Kind) → man_of b ≡ Some k → OneOf (man_letters k) (b ∷ [])
man_letter b k =
    lookup-all (λ b k. OneOf (man_letters k) (b ∷ [])) men b k
    (inl refl, (inl refl, (inl refl, (inl refl, (inl refl, (inr (inl refl), tt))))))

pub promotion_letter : (b : ℕ) (k : Kind) → lookup promotable b ≡ Some k → OneOf (promotion_letters k) (b ∷ [])
promotion_letter b k =
    lookup-all (λ b k. OneOf (promotion_letters k) (b ∷ [])) promotable b k (
      inl refl,
      (inr (inl refl), (inl refl, (inr (inl refl), (inl refl, (inr (inl refl), (inl refl, (inr (inl refl), tt))))))),
    )

pub drop_letter : (b : ℕ) (k : Kind) → lookup droppable b ≡ Some k → OneOf (drop_letters k) (b ∷ [])
drop_letter b k =
    lookup-all (λ b k. OneOf (drop_letters k) (b ∷ [])) droppable b k (
      inl refl,
      (
        inr (inl refl),
        (
          inl refl,
          (
            inr (inl refl),
            (inl refl, (inr (inl refl), (inl refl, (inr (inl refl), (inl refl, (inr (inl refl), tt)))))),
          ),
        ),
      ),
    )

pub OneOf-if : (b : Bool) (t : Text) → b ≡ true → OneOf (cond b (t ∷ []) []) t
OneOf-if b t e = subst (λ (c : Bool). OneOf (cond c (t ∷ []) []) t) (sym e) (inl refl)

pub if-OneOf : (b : Bool) (t x : Text) → OneOf (cond b (t ∷ []) []) x → (b ≡ true) × (x ≡ t)
if-OneOf true t x (inl e) = (refl, e)
if-OneOf true t x (inr e) = absurd e
if-OneOf false t x e = absurd e

pub is_below : (a b : ℕ) → a < b → nat_lt a b ≡ true
is_below a b h = grind (arith, nat_tests)

pub below : (a b : ℕ) → nat_lt a b ≡ true → a < b
below a b h = grind (arith, nat_tests)

low_letter : (a : ℕ) → (nat_le 97 a && nat_le a 104) ≡ true → 97 ≤ a
low_letter a e = grind (arith, nat_tests)

high_letter : (a : ℕ) → (nat_le 97 a && nat_le a 104) ≡ true → a ≤ 104
high_letter a e = grind (arith, nat_tests)

low_digit : (a : ℕ) → (nat_le 49 a && nat_le a 56) ≡ true → 49 ≤ a
low_digit a e = grind (arith, nat_tests)

high_digit : (a : ℕ) → (nat_le 49 a && nat_le a 56) ≡ true → a ≤ 56
high_digit a e = grind (arith, nat_tests)

is_letter : (a : ℕ) → 97 ≤ a → a ≤ 104 → (nat_le 97 a && nat_le a 104) ≡ true
is_letter a p q = grind (arith, nat_tests)

is_digit : (a : ℕ) → 49 ≤ a → a ≤ 56 → (nat_le 49 a && nat_le a 56) ≡ true
is_digit a p q = grind (arith, nat_tests)

-- a file's letter
pub file_read : (b f : ℕ) → file_of_letter b ≡ Some f → (f < 8) × (b ≡ 97 + f)
file_read b f e =
    elim (nat_le 97 b && nat_le b 104)
    as (λ t. (nat_le 97 b && nat_le b 104) ≡ t → cond t (Some (b - 97)) None ≡ Some f → (f < 8) × (b ≡ 97 + f)) [
      | true ↦ λ t is.
          let low = low_letter b t in
          let high = high_letter b t in
          let same : b - 97 ≡ f = cc in
          (omega arith, omega arith)
      | false ↦ λ t is. not_some f is
    ] refl e

pub rank_read : (b r : ℕ) → rank_of_digit b ≡ Some r → (r < 8) × (b ≡ 49 + r)
rank_read b r e =
    elim (nat_le 49 b && nat_le b 56)
    as (λ t. (nat_le 49 b && nat_le b 56) ≡ t → cond t (Some (b - 49)) None ≡ Some r → (r < 8) × (b ≡ 49 + r)) [
      | true ↦ λ t is.
          let low = low_digit b t in
          let high = high_digit b t in
          let same : b - 49 ≡ r = cc in
          (omega arith, omega arith)
      | false ↦ λ t is. not_some r is
    ] refl e

pub file_again : (f : ℕ) → f < 8 → file_of_letter (97 + f) ≡ Some f
file_again f h =
    ap (λ (t : Bool). cond t (Some (97 + f - 97)) None) (is_letter (97 + f) (omega arith) (omega arith))
    ∙ ap (λ (x : ℕ). Some x) (let back : 97 + f - 97 ≡ f = omega arith in back)

pub rank_again : (r : ℕ) → r < 8 → rank_of_digit (49 + r) ≡ Some r
rank_again r h =
    ap (λ (t : Bool). cond t (Some (49 + r - 49)) None) (is_digit (49 + r) (omega arith) (omega arith))
    ∙ ap (λ (x : ℕ). Some x) (let back : 49 + r - 49 ≡ r = omega arith in back)

no_letter : (a : ℕ) → a < 97 → (nat_le 97 a && nat_le a 104) ≡ false
no_letter a p = grind (arith, nat_tests)

no_digit : (a : ℕ) → 56 < a → (nat_le 49 a && nat_le a 56) ≡ false
no_digit a p = grind (arith, nat_tests)

-- a digit is no file, a letter no rank
pub digit_no_file : (r : ℕ) → r < 8 → file_of_letter (49 + r) ≡ None
digit_no_file r h = ap (λ (t : Bool). cond t (Some (49 + r - 97)) None) (no_letter (49 + r) (omega arith))

pub letter_no_rank : (f : ℕ) → f < 8 → rank_of_digit (97 + f) ≡ None
letter_no_rank f h = ap (λ (t : Bool). cond t (Some (97 + f - 49)) None) (no_digit (97 + f) (omega arith))

-- a byte is no letter of a table where it is none of the rows' letters
abbrev NoRow : ℕ → List (ℕ × Kind) → Type 0
NoRow b [] = Unit {0}
NoRow b (row ∷ rows) = ((b == row.0) ≡ false) × NoRow b rows

lookup-none : (rows : List (ℕ × Kind)) (b : ℕ) → NoRow b rows → lookup rows b ≡ None
lookup-none [] b none = refl
lookup-none (row ∷ rows) b none =
    ap (λ (t : Bool). cond t (Some row.1) (lookup rows b)) none.0 ∙ lookup-none rows b none.1

pub above : (a b : ℕ) → b < a → (a == b) ≡ false
above a b h = grind (arith, nat_tests)

pub under : (a b : ℕ) → a < b → (a == b) ≡ false
under a b h = grind (arith, nat_tests)

pub letter_no_man : (b : ℕ) → 97 ≤ b → man_of b ≡ None
letter_no_man b h =
    lookup-none men b (
      above b 75 (omega arith),
      (
        above b 81 (omega arith),
        (
          above b 82 (omega arith),
          (above b 66 (omega arith), (above b 78 (omega arith), (above b 80 (omega arith), tt))),
        ),
      ),
    )

pub digit_no_man : (b : ℕ) → b ≤ 56 → man_of b ≡ None
digit_no_man b h =
    lookup-none men b (
      under b 75 (omega arith),
      (
        under b 81 (omega arith),
        (
          under b 82 (omega arith),
          (under b 66 (omega arith), (under b 78 (omega arith), (under b 80 (omega arith), tt))),
        ),
      ),
    )

-- the name of the square on a file and a rank
pub name_of_square : (f r : ℕ) → f < 8 → r < 8 → OneOf (square_names (8 * r + f)) ((97 + f) ∷ (49 + r) ∷ [])
name_of_square f r p q =
    let file : (8 * r + f) % 8 ≡ f = omega arith in
    let rank : (8 * r + f) / 8 ≡ r = omega arith in
    let same : (97 + (8 * r + f) % 8) ∷ (49 + (8 * r + f) / 8) ∷ [] ≡ (97 + f) ∷ (49 + r) ∷ [] =
    ap (λ (x : ℕ). (97 + x) ∷ (49 + (8 * r + f) / 8) ∷ []) file ∙ ap (λ (x : ℕ). (97 + f) ∷ (49 + x) ∷ []) rank in
    subst (λ (t : Text). OneOf (square_names (8 * r + f)) t) same
    (OneOf-if (nat_lt (8 * r + f) 64) _ (is_below (8 * r + f) 64 (omega arith)))

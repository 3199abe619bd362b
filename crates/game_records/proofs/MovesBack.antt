-- The code of a half-move is read again.
use Rattle.std.proofs.Common.{◌≡◌, ℕ, ◌+◌, ◌-◌, ◌*◌, ◌/◌, ◌%◌, ◌^◌, ◌<◌, ◌≤◌, Bool, true, false, cond, refl, ap, ◌∙◌, arith}
use Rattle.std.specs.Prelude.{nat_eq, nat_lt, Option, Some, None}
use Rattle.std.proofs.lemmas.Bool.Decides.{nat_tests}
use Rattle.chess_model.specs.declared.man.Kind.{Kind}
use Rattle.chess_model.specs.declared.man.Kind.TheVariants.{Pawn, Knight, Bishop, Rook, Queen, King}
use Rattle.chess_model.specs.declared.moves.Move.{Move}
use Rattle.chess_model.specs.declared.moves.Move.TheVariants.{Plain, Castle, Drop}
use Rattle.game_records.specs.Codes.{MayBecome, MayBeDropped, HasCode, promotion_code, kind_code, move_code}
use Rattle.game_records.specs.Bounds.{AreSquares}
use Rattle.game_records.specs.Reading.{promotion_numbered, kind_of, move_of}

promotion-read : (promo : Option Kind) → MayBecome promo → promotion_numbered (promotion_code promo) ≡ promo
promotion-read None h = refl
promotion-read (Some Pawn) h = absurd h
promotion-read (Some Knight) h = refl
promotion-read (Some Bishop) h = refl
promotion-read (Some Rook) h = refl
promotion-read (Some Queen) h = refl
promotion-read (Some King) h = absurd h

kind-read : (kind : Kind) → MayBeDropped kind → kind_of (kind_code kind) ≡ kind
kind-read Pawn h = refl
kind-read Knight h = refl
kind-read Bishop h = refl
kind-read Rook h = refl
kind-read Queen h = refl
kind-read King h = absurd h

promotion_small : (promo : Option Kind) → promotion_code promo < 8
promotion_small None = omega arith
promotion_small (Some Pawn) = omega arith
promotion_small (Some Knight) = omega arith
promotion_small (Some Bishop) = omega arith
promotion_small (Some Rook) = omega arith
promotion_small (Some Queen) = omega arith
promotion_small (Some King) = omega arith

kind_small : (kind : Kind) → kind_code kind < 8
kind_small Pawn = omega arith
kind_small Knight = omega arith
kind_small Bishop = omega arith
kind_small Rook = omega arith
kind_small Queen = omega arith
kind_small King = omega arith

below : (a b : ℕ) → a < b → nat_lt a b ≡ true
below a b h = grind (arith, nat_tests)

not_below : (a b : ℕ) → b ≤ a → nat_lt a b ≡ false
not_below a b h = grind (arith, nat_tests)

-- the half-moves of a code, by what it isn't below
abbrev plain_of : ℕ → Move
plain_of n = Plain (n / 512 % 64) (n / 8 % 64) (promotion_numbered (n % 8))

abbrev castle_of : ℕ → Move
castle_of n = Castle (nat_eq n 0x8001)

abbrev drop_of : ℕ → Move
drop_of n = Drop (kind_of ((n - 0x8100) / 64)) ((n - 0x8100) % 64)

low_code : (n : ℕ) → n < 0x8000 → move_of n ≡ plain_of n
unfolding move_of
low_code n h =
    ap (λ (t : Bool). cond t (plain_of n) (cond (nat_lt n 0x8100) (castle_of n) (drop_of n))) (below n 0x8000 h)

high_code : (n : ℕ) → 0x8100 ≤ n → move_of n ≡ drop_of n
unfolding move_of
high_code n h =
    ap (λ (t : Bool). cond t (plain_of n) (cond (nat_lt n 0x8100) (castle_of n) (drop_of n)))
    (not_below n 0x8000 (omega arith))
    ∙ ap (λ (t : Bool). cond t (castle_of n) (drop_of n)) (not_below n 0x8100 h)

plain-same : (a b x y : ℕ) (p q : Option Kind) → a ≡ x → b ≡ y → p ≡ q → Plain a b p ≡ Plain x y q
plain-same a b x y p q e f g = ap (λ (n : ℕ). Plain n b p) e ∙ ap (λ (n : ℕ). Plain x n p) f ∙ ap (Plain x y) g

castle_short : move_of 0x8000 ≡ Castle false
unfolding move_of
castle_short = refl

castle_long : move_of 0x8001 ≡ Castle true
unfolding move_of
castle_long = refl

pub move-read : (m : Move) → AreSquares m → HasCode m → move_of (move_code m) ≡ m
move-read (Plain a b promo) h c =
    let n : ℕ = a * 512 + b * 8 + promotion_code promo in
    let small = promotion_small promo in
    let first = h.0 in
    let second = h.1 in
    low_code n (omega arith)
    ∙ plain-same (n / 512 % 64) (n / 8 % 64) a b (promotion_numbered (n % 8)) promo (omega arith) (omega arith)
    (ap promotion_numbered (let e : n % 8 ≡ promotion_code promo = omega arith in e) ∙ promotion-read promo c)
move-read (Castle false) h c = castle_short
move-read (Castle true) h c = castle_long
move-read (Drop kind to) h c =
    let n : ℕ = 0x8100 + kind_code kind * 64 + to in
    let small = kind_small kind in
    high_code n (omega arith)
    ∙ ap (λ (k : Kind). Drop k ((n - 0x8100) % 64))
    (ap kind_of (let e : (n - 0x8100) / 64 ≡ kind_code kind = omega arith in e) ∙ kind-read kind c)
    ∙ ap (Drop kind) (let e : (n - 0x8100) % 64 ≡ to = omega arith in e)

pub code_small : (m : Move) → AreSquares m → move_code m < 2 ^ 16
code_small (Plain a b promo) h =
    let small = promotion_small promo in
    let first = h.0 in
    let second = h.1 in omega arith
code_small (Castle false) h = omega arith
code_small (Castle true) h = omega arith
code_small (Drop kind to) h = let small = kind_small kind in omega arith

-- whatever the code, the squares are on the board
pub squares_of : (n : ℕ) → AreSquares (move_of n)
unfolding move_of
squares_of n =
    elim (nat_lt n 0x8000)
    as (λ t. AreSquares (cond t (plain_of n) (cond (nat_lt n 0x8100) (castle_of n) (drop_of n)))) [
      | true ↦ (omega arith, omega arith)
      | false ↦
          elim (nat_lt n 0x8100) as (λ t. AreSquares (cond t (castle_of n) (drop_of n))) [
            | true ↦ tt
            | false ↦ omega arith
          ]
    ]

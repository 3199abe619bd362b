-- Half-moves that were written are read again.
use Rattle.std.proofs.Common.{◌≡◌, ℕ, zero, suc, ◌+◌, ◌-◌, ◌<◌, ◌≤◌, List, [], ◌∷◌, ◌++◌, length, drop, refl, sym, ap, subst, ◌∙◌, arith, append_assoc}
use Rattle.std.specs.Prelude.{Option}
use Rattle.std.specs.List.{AllByRecursion}
use Rattle.chess_model.specs.declared.moves.Move.{Move}
use Rattle.chess_model.specs.declared.variant.Variant.{Variant}
use Rattle.chess_model.specs.declared.variant.Variant.TheVariants.{Chess, Crazyhouse, Bughouse, Fischer}
use Rattle.clock_ledger.specs.declared.charges.Charge.{Charge}
use Rattle.game_records.specs.declared.stored_game.Half.{Half}
use Rattle.game_records.specs.Numbers.{two_bytes}
use Rattle.game_records.specs.Codes.{move_code}
use Rattle.game_records.specs.Bounds.{IsHalf, AreSquares}
use Rattle.game_records.specs.Spelling.{charge_text, half_text, halves_text}
use Rattle.game_records.specs.Reading.{two_in, move_of, charge_in, behind_charge, behind_board, half_in, behind_half, halves_in}
use Rattle.game_records.proofs.NumbersBack.{two-read, two-behind}
use Rattle.game_records.proofs.MovesBack.{move-read, code_small, squares_of}
use Rattle.game_records.proofs.ChargesBack.{charge-read, charge-behind}
use Rattle.fics_words.proofs.Each.{each-front}

-- a half-move without its board
abbrev inner : Half → List ℕ → List ℕ
inner h rest = (two_bytes (move_code h.what) ++ charge_text h.charge) ++ rest

inner-parts : (h : Half) (rest : List ℕ) → inner h rest ≡ two_bytes (move_code h.what) ++ (charge_text h.charge ++ rest)
inner-parts h rest = append_assoc (two_bytes (move_code h.what)) (charge_text h.charge) rest

inner-what : (v : Variant) (h : Half) (rest : List ℕ) → IsHalf v h → AreSquares h.what
    → move_of (two_in (inner h rest)) ≡ h.what
inner-what v h rest k s =
    ap move_of
    (ap two_in (inner-parts h rest) ∙ two-read (move_code h.what) (charge_text h.charge ++ rest) (code_small h.what s))
    ∙ move-read h.what s k.code

inner-charge : (v : Variant) (h : Half) (rest : List ℕ) → IsHalf v h → charge_in (drop 2 (inner h rest)) ≡ h.charge
inner-charge v h rest k =
    ap (λ (l : List ℕ). charge_in (drop 2 l)) (inner-parts h rest)
    ∙ ap charge_in (two-behind (move_code h.what) (charge_text h.charge ++ rest))
    ∙ charge-read h.charge rest k.charge

inner-behind : (h : Half) (rest : List ℕ) → behind_charge (drop 2 (inner h rest)) ≡ rest
inner-behind h rest =
    ap (λ (l : List ℕ). behind_charge (drop 2 l)) (inner-parts h rest)
    ∙ ap behind_charge (two-behind (move_code h.what) (charge_text h.charge ++ rest))
    ∙ charge-behind h.charge rest

abbrev half_of : ℕ → Move → Option Charge → Half
half_of board what charge = record { board = board; what = what; charge = charge }

half-same : (v : Variant) (board : ℕ) (h : Half) (rest : List ℕ) → IsHalf v h → AreSquares h.what → board ≡ h.board →
    half_of board (move_of (two_in (inner h rest))) (charge_in (drop 2 (inner h rest))) ≡ h
half-same v board h rest k s e =
    ap (λ (b : ℕ). half_of b (move_of (two_in (inner h rest))) (charge_in (drop 2 (inner h rest)))) e
    ∙ ap (λ (m : Move). half_of h.board m (charge_in (drop 2 (inner h rest)))) (inner-what v h rest k s)
    ∙ ap (half_of h.board h.what) (inner-charge v h rest k)

only_board : (board : ℕ) → 1 ≤ board → board ≤ 1 → 1 ≡ board
only_board board h k = omega arith

half-read : (v : Variant) (h : Half) (rest : List ℕ) → IsHalf v h → AreSquares h.what
    → half_in v (half_text v h ++ rest) ≡ h
half-read Chess h rest k s = half-same Chess 1 h rest k s (only_board h.board k.first k.last)
half-read Crazyhouse h rest k s = half-same Crazyhouse 1 h rest k s (only_board h.board k.first k.last)
half-read Bughouse h rest k s = half-same Bughouse h.board h rest k s refl
half-read (Fischer number) h rest k s = half-same (Fischer number) 1 h rest k s (only_board h.board k.first k.last)

half-behind : (v : Variant) (h : Half) (rest : List ℕ) → behind_half v (half_text v h ++ rest) ≡ rest
half-behind Chess h rest = inner-behind h rest
half-behind Crazyhouse h rest = inner-behind h rest
half-behind Bughouse h rest = inner-behind h rest
half-behind (Fischer number) h rest = inner-behind h rest

pub halves-read : (v : Variant) (halves : List Half) → AllByRecursion (IsHalf v) halves
    → AllByRecursion (λ h. AreSquares h.what) halves →
    halves_in v (length halves) (halves_text v halves) ≡ halves
halves-read v [] k s = refl
halves-read v (h ∷ halves) k s =
    ap (λ (x : Half). x ∷ halves_in v (length halves) (behind_half v (half_text v h ++ halves_text v halves)))
    (half-read v h (halves_text v halves) k.0 s.0)
    ∙ ap (λ (l : List ℕ). h ∷ halves_in v (length halves) l) (half-behind v h (halves_text v halves))
    ∙ ap (λ (hs : List Half). h ∷ hs) (halves-read v halves k.1 s.1)

-- whatever the bytes, the squares are on the board
pub squares_in : (v : Variant) (n : ℕ) (bytes : List ℕ) → AllByRecursion (λ h. AreSquares h.what) (halves_in v n bytes)
squares_in v zero bytes = tt
squares_in v (suc n) bytes = (squares_of (two_in (behind_board v bytes)), squares_in v n (behind_half v bytes))

pub squares_so_far : (v : Variant) (count : ℕ) (bytes : List ℕ) (done more : List Half)
    → done ++ more ≡ halves_in v count bytes → AllByRecursion (λ h. AreSquares h.what) done
squares_so_far v count bytes done more e =
    each-front (λ h. AreSquares h.what) done more
    (subst (AllByRecursion (λ h. AreSquares h.what)) (sym e) (squares_in v count bytes))

-- ---- the loop

less_one : (v : Variant) (m n : ℕ) (bytes : List ℕ) → m ≡ suc n
    → halves_in v m bytes ≡ half_in v bytes ∷ halves_in v n (behind_half v bytes)
less_one v m n bytes e = ap (λ (k : ℕ). halves_in v k bytes) e

pub halves_step : (v : Variant) (count i : ℕ) (bytes : List ℕ) → i < count →
    halves_in v (count - i) bytes ≡ half_in v bytes ∷ halves_in v (count - (i + 1)) (behind_half v bytes)
halves_step v count i bytes h = less_one v (count - i) (count - (i + 1)) bytes (omega arith)

pub halves_end : (v : Variant) (count i : ℕ) (bytes : List ℕ) → count ≤ i → halves_in v (count - i) bytes ≡ []
halves_end v count i bytes h = ap (λ (k : ℕ). halves_in v k bytes) (let e : count - i ≡ 0 = omega arith in e)

pub ruleset each_half = (halves_step, halves_end)

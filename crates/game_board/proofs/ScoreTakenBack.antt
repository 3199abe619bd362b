-- The score of a board stays true where half-moves are taken back.
use Rattle.std.proofs.Common.{◌≡◌, ◌≢◌, ℕ, ◌+◌, ◌-◌, ◌≤◌, ◌<◌, ◌||◌, inl, inr, zero, suc, Bool, true, false, if◌then◌else◌, List, [], ◌∷◌, ◌++◌, length, min, take, drop, Some, refl, sym, ap, subst, ◌∙◌, length-append, arith}
use Rattle.std.specs.Prelude.{nat_eq, nat_lt, slice_get}
use Rattle.std.proofs.lemmas.Bool.Decides.{nat_tests}
use Rattle.std.proofs.lemmas.List.{length-take}
use Rattle.std.proofs.lemmas.Option.{slice_get_within, same_Some}
use Rattle.chess_model.specs.declared.variant.Variant.{Variant}
use Rattle.chess_model.specs.declared.variant.Variant.TheVariants.{Bughouse}
use Rattle.chess_model.specs.Allowed.{IsLegal}
use Rattle.chess_model.specs.MoveList.{HalfMove, moves_of}
use Rattle.game_board.specs.declared.played.Played.{Played}
use Rattle.game_board.specs.Board.{Board, half_moves}
use Rattle.game_board.specs.Scoresheet.{DontFall, IsTrueScore}
use Rattle.game_board.specs.TakeBack.{has_too_few, board_taken_back, take_back_after}
use Rattle.game_board.proofs.Movers.{moves_of-half_moves}
use Rattle.game_board.proofs.TakenBack.{half_moves_shorter}
use Rattle.game_board.proofs.LastPlayed.{at_or_last}
use Rattle.game_board.proofs.Scoresheet.{stays_at, last_moment, IsCharged-changed, clocks-sum}
use Rattle.chess_model.proofs.SoundPositions.{legal_front}
use Rattle.collections.proofs.Places.{slice_get-append_end}

pub take_and_drop : {X : Type 0} (n : ℕ) (xs : List X) → take n xs ++ drop n xs ≡ xs
take_and_drop zero xs = refl
take_and_drop (suc n) [] = refl
take_and_drop (suc n) (x ∷ xs) = ap (λ l. x ∷ l) (take_and_drop n xs)

-- the first items of a list stand where they stood
from_take : {X : Type 0} (n : ℕ) (xs : List X) (k : ℕ) (x : X) → slice_get (take n xs) k ≡ Some x
    → slice_get xs k ≡ Some x
from_take zero xs k x e = absurd cc
from_take (suc n) [] k x e = absurd cc
from_take (suc n) (y ∷ ys) zero x e = e
from_take (suc n) (y ∷ ys) (suc k) x e = from_take n ys k x e

to_take : {X : Type 0} (n : ℕ) (xs : List X) (k : ℕ) (x : X) → k < n → slice_get xs k ≡ Some x
    → slice_get (take n xs) k ≡ Some x
to_take zero xs k x h e = absurd (omega arith)
to_take (suc n) [] k x h e = absurd cc
to_take (suc n) (y ∷ ys) zero x h e = e
to_take (suc n) (y ∷ ys) (suc k) x h e = to_take n ys k x (omega arith) e

DontFall-rest : (x : ℕ) (xs : List ℕ) → DontFall (x ∷ xs) → DontFall xs
DontFall-rest x xs rising = λ k i j e f.
    let next : suc k + 1 ≡ suc (k + 1) = omega arith in
    rising (suc k) i j e (ap (slice_get (x ∷ xs)) next ∙ f)

-- moments that don't fall are none later than the last
none_later : (moments : List ℕ) (n last k i : ℕ) → DontFall moments → length moments ≡ n + 1
    → slice_get moments n ≡ Some last → slice_get moments k ≡ Some i → i ≤ last
none_later [] n last k i rising many at e = absurd cc
none_later (x ∷ []) zero last zero i rising many at e =
    let same : i ≡ last = same_Some i last (sym e ∙ at) in omega (arith, same)
none_later (x ∷ []) zero last (suc k) i rising many at e = absurd cc
none_later (x ∷ []) (suc n) last k i rising many at e = absurd (omega (arith, many))
none_later (x ∷ y ∷ ys) zero last k i rising many at e = absurd (omega (arith, many))
none_later (x ∷ y ∷ ys) (suc n) last zero i rising many at e =
    let rest : y ≤ last =
    none_later (y ∷ ys) n last 0 y (DontFall-rest x (y ∷ ys) rising) (omega (arith, many)) at refl in
    let first : x ≤ y = rising 0 x y refl refl in
    let same : x ≡ i = same_Some x i e in
    omega (arith, rest, first, same)
none_later (x ∷ y ∷ ys) (suc n) last (suc k) i rising many at e =
    none_later (y ∷ ys) n last k i (DontFall-rest x (y ∷ ys) rising) (omega (arith, many)) at e

IsLegal-take : (v : Variant) (n : ℕ) (T : List HalfMove) → IsLegal v T → IsLegal v (take n T)
IsLegal-take v n T legal = legal_front v (take n T) (drop n T) (subst (IsLegal v) (sym (take_and_drop n T)) legal)

pub IsTrueScore-taken_back : (b : Board) (n moment : ℕ) → b.terms.variant ≢ Bughouse → 1 ≤ n → n ≤ length b.list
    → b.begin ≤ moment → IsTrueScore b → IsTrueScore (board_taken_back b n moment)
IsTrueScore-taken_back b n moment single some few order s =
    let left : ℕ = length b.list - n in
    let list : List Played = take left b.list in
    let moments : List ℕ = take (left + 1) s.moments in
    let front : List ℕ = take left s.since in
    let since : List ℕ = front ++ moment ∷ [] in
    let many : length list ≡ left = omega (arith, length-take left b.list) in
    let each : length moments ≡ left + 1 = omega (arith, length-take (left + 1) s.moments, s.each) in
    let of_front : length front ≡ left = omega (arith, length-take left s.since, s.of_each) in
    let of_each : length since ≡ left + 1 = omega (arith, length-append front (moment ∷ []), of_front) in
    let alone : take (length b.all - n) b.all ≡ half_moves b.number list =
    ap (λ (T : List HalfMove). take (length T - n) T) (s.alone single) ∙ half_moves_shorter b.number n b.list in
    let early : (k i : ℕ) → slice_get s.moments k ≡ Some i → i ≤ moment = λ k i e.
    let last = last_moment b s in
    let le : i ≤ last.0 = none_later s.moments (length b.list) last.0 k i s.dont_fall s.each last.1 e in
    omega (arith, le, last.2, order) in
    record {
      moments = moments;
      each = omega (arith, many, each);
      dont_fall = λ k i j e f.
          s.dont_fall k i j (from_take (left + 1) s.moments k i e) (from_take (left + 1) s.moments (k + 1) j f);
      since = since;
      of_each = omega (arith, many, of_each);
      thinking = ap (slice_get since) (many ∙ sym of_front) ∙ slice_get-append_end front moment;
      not_before = λ k i j e f. elim (at_or_last front moment j k f) [
        | inl old ↦ s.not_before k i j (from_take (left + 1) s.moments k i e) (from_take left s.since k j old)
        | inr here ↦
            let le : i ≤ moment = early k i (from_take (left + 1) s.moments k i e) in
            omega (arith, le, here.1)
      ];
      not_after = λ k i j e f. elim (at_or_last front moment i k e) [
        | inl old ↦ s.not_after k i j (from_take left s.since k i old) (from_take (left + 1) s.moments (k + 1) j f)
        | inr here ↦
            absurd (let within : k + 1 < length moments =
            slice_get_within moments (k + 1) j f in omega (arith, within, each, here.0, of_front))
      ];
      played = omega (arith, many, s.played);
      unless_taken_back = λ h. absurd (omega (arith, h, many, s.played, some, few));
      resumed = omega (arith, many);
      kept = tt;
      charged = λ k p e.
          let within : k < length list = slice_get_within list k p e in
          let early_one : k < left = omega (arith, within, many) in
          IsCharged-changed b.terms b.resumed (min b.resumed left) s.since since s.moments moments k p
          (λ own. omega (arith, own, early_one))
          (λ x h. stays_at front moment x k (to_take left s.since k x early_one h))
          (λ x h. to_take (left + 1) s.moments (k + 1) x (omega (arith, early_one)) h)
          (s.charged k p (from_take left b.list k p e));
      legal = IsLegal-take b.terms.variant (length b.all - n) b.all s.legal;
      own = ap (moves_of b.number) alone ∙ moves_of-half_moves b.number list;
      alone = λ h. alone;
      clocks = λ c timed. clocks-sum (board_taken_back b n moment) c timed;
    }

pub enough_some : (n m : ℕ) → (nat_eq n 0 || nat_lt m n) ≡ false → 1 ≤ n
enough_some n m e = grind (arith, nat_tests)

pub enough_within : (n m : ℕ) → (nat_eq n 0 || nat_lt m n) ≡ false → n ≤ m
enough_within n m e = grind (arith, nat_tests)

true_either : (few : Bool) (b new : Board) → IsTrueScore b → (few ≡ false → IsTrueScore new)
    → IsTrueScore (if few then b else new)
true_either true b new s t = s
true_either false b new s t = t refl

-- taking half-moves back at a moment that isn't before the last one leaves a true score, or the board as it was
pub IsTrueScore-take_back_after : (b : Board) (n moment : ℕ) → b.terms.variant ≢ Bughouse → IsTrueScore b
    → b.begin ≤ moment → IsTrueScore (take_back_after b n moment)
IsTrueScore-take_back_after b n moment single s order =
    true_either (has_too_few b n) b (board_taken_back b n moment) s
    (λ e.
    IsTrueScore-taken_back b n moment single (enough_some n (length b.list) e) (enough_within n (length b.list) e) order
    s)

-- Each spelling of a word is read as the word.
use Rattle.std.proofs.Common.{◌≡◌, ℕ, ◌+◌, ◌*◌, ◌/◌, ◌%◌, ◌<◌, Bool, true, false, cond, List, [], ◌∷◌, ◌++◌, refl, sym, ap, subst, ◌∙◌, arith, Some, None, inl, inr}
use Rattle.std.specs.Prelude.{◌==◌, nat_lt, Option, codes}
use Rattle.chess_model.specs.declared.man.Kind.{Kind}
use Rattle.chess_model.specs.declared.man.Kind.TheVariants.{Pawn, Knight, Bishop, Rook, Queen, King}
use Rattle.chess_model.specs.declared.moves.MoveWord.{MoveWord}
use Rattle.chess_model.specs.declared.moves.MoveWord.TheVariants.{Coordinate, Named, Castle, Drop}
use Rattle.move_reader.specs.Spellings.{Text, OneOf, MadeOf, Spells, square_names, man_letters, origin_files, origin_ranks, capture_marks, equals, marks, promotion_letters, drop_letters, promotion_and, castlings}
use Rattle.move_reader.specs.Reading.{lookup, promotable, man_of, file_of_letter, rank_of_digit, told, leading, behind_byte, squared, leading_square, ended, is_mark, is_empty, promoted, promotion_spelled, to_square, target_of, coordinate_from, coordinate_of, or_pawn, named_by, named_of, dropped_at, reading}
use Rattle.move_reader.proofs.ByteMeanings.{if-OneOf, below, above, under, file_again, rank_again, digit_no_file, letter_no_rank, letter_no_man, digit_no_man}

-- the name of a square stands first
pub record Begins (text : Text) (s : ℕ) (rest : Text) : Type 0 where
  pub file : ℕ
  pub rank : ℕ
  pub file_fits : file < 8
  pub rank_fits : rank < 8
  pub square : 8 * rank + file ≡ s
  pub bytes : text ≡ (97 + file) ∷ (49 + rank) ∷ rest

begins : (text first rest : Text) (s : ℕ) → OneOf (square_names s) first → text ≡ first ++ rest → Begins text s rest
begins text first rest s one e =
    let name = if-OneOf (nat_lt s 64) ((97 + s % 8) ∷ (49 + s / 8) ∷ []) first one in
    let fits = below s 64 name.0 in
    record {
      file = s % 8;
      rank = s / 8;
      file_fits = omega arith;
      rank_fits = omega arith;
      square = omega arith;
      bytes = e ∙ ap (λ (x : Text). x ++ rest) name.1;
    }

square_again : (text : Text) (s : ℕ) (rest : Text) → Begins text s rest → leading_square text ≡ Some (s, rest)
square_again text s rest b =
    ap leading_square b.bytes
    ∙ ap (λ (x : Option ℕ). squared x (rank_of_digit (49 + b.rank)) rest) (file_again b.file b.file_fits)
    ∙ ap (λ (x : Option ℕ). squared (Some b.file) x rest) (rank_again b.rank b.rank_fits)
    ∙ ap (λ (x : ℕ). Some (x, rest)) b.square

-- a byte that may be left out, before a square's name
behind_again : (byte : ℕ) (text left rest : Text) (s : ℕ) (after : Text) → OneOf ([] ∷ (byte ∷ []) ∷ []) left
    → text ≡ left ++ rest → Begins rest s after
    → ((file : ℕ) → file < 8 → ((97 + file) == byte) ≡ false) → (byte == byte) ≡ true → behind_byte byte text ≡ rest
behind_again byte text left rest s after (inl none) e b other same =
    ap (behind_byte byte) (e ∙ ap (λ (x : Text). x ++ rest) none ∙ b.bytes)
    ∙ ap (λ (t : Bool). cond t ((49 + b.rank) ∷ after) ((97 + b.file) ∷ (49 + b.rank) ∷ after))
    (other b.file b.file_fits)
    ∙ sym b.bytes
behind_again byte text left rest s after (inr (inl one)) e b other same =
    ap (behind_byte byte) (e ∙ ap (λ (x : Text). x ++ rest) one) ∙ ap (λ (t : Bool). cond t rest (byte ∷ rest)) same
behind_again byte text left rest s after (inr (inr never)) e b other same = absurd never

-- a promotion's letter
record IsPromotion (letter : Text) (man : Kind) : Type 0 where
  byte : ℕ
  is : letter ≡ byte ∷ []
  means : lookup promotable byte ≡ Some man
  no_sign : (byte == 61) ≡ false
  no_capture : (byte == 120) ≡ false

promotion_letter : (man : Kind) (letter : Text) → OneOf (promotion_letters man) letter → IsPromotion letter man
promotion_letter Queen letter (inl e) = record { byte = 81; is = e; means = refl; no_sign = refl; no_capture = refl }
promotion_letter Queen letter (inr (inl e)) =
    record { byte = 113; is = e; means = refl; no_sign = refl; no_capture = refl }
promotion_letter Queen letter (inr (inr e)) = absurd e
promotion_letter Rook letter (inl e) = record { byte = 82; is = e; means = refl; no_sign = refl; no_capture = refl }
promotion_letter Rook letter (inr (inl e)) =
    record { byte = 114; is = e; means = refl; no_sign = refl; no_capture = refl }
promotion_letter Rook letter (inr (inr e)) = absurd e
promotion_letter Bishop letter (inl e) = record { byte = 66; is = e; means = refl; no_sign = refl; no_capture = refl }
promotion_letter Bishop letter (inr (inl e)) =
    record { byte = 98; is = e; means = refl; no_sign = refl; no_capture = refl }
promotion_letter Bishop letter (inr (inr e)) = absurd e
promotion_letter Knight letter (inl e) = record { byte = 78; is = e; means = refl; no_sign = refl; no_capture = refl }
promotion_letter Knight letter (inr (inl e)) =
    record { byte = 110; is = e; means = refl; no_sign = refl; no_capture = refl }
promotion_letter Knight letter (inr (inr e)) = absurd e
promotion_letter Pawn letter e = absurd e
promotion_letter King letter e = absurd e

promoted_as : (is_end : Text → Bool) (whole : Text) → Option Kind × Text → Option (Option Kind)
promoted_as is_end whole taken = promoted taken.0 (is_end taken.1) (is_end whole)

-- a promotion's letter, with a sign before it or none
promotion_again : (is_end : Text → Bool) (text sign rest letter end : Text) (man : Kind) → OneOf equals sign
    → text ≡ sign ++ rest → IsPromotion letter man
    → rest ≡ letter ++ end → is_end end ≡ true → promotion_spelled is_end text ≡ Some (Some man)
unfolding promoted_as
promotion_again is_end text sign rest letter end man (inl none) e p e' ends =
    let bytes : text ≡ p.byte ∷ end = e ∙ ap (λ (x : Text). x ++ rest) none ∙ e' ∙ ap (λ (x : Text). x ++ end) p.is in
    ap (promotion_spelled is_end) bytes
    ∙ ap (λ (t : Bool). promoted_as is_end (p.byte ∷ end) (leading (lookup promotable) (cond t end (p.byte ∷ end))))
    p.no_sign
    ∙ ap (λ (o : Option Kind). promoted_as is_end (p.byte ∷ end) (told o p.byte end)) p.means
    ∙ ap (λ (t : Bool). ended (Some man) t) ends
promotion_again is_end text sign rest letter end man (inr (inl one)) e p e' ends =
    let bytes : text ≡ 61 ∷ p.byte ∷ end =
    e ∙ ap (λ (x : Text). x ++ rest) one ∙ ap (λ (x : Text). 61 ∷ x) (e' ∙ ap (λ (x : Text). x ++ end) p.is) in
    ap (promotion_spelled is_end) bytes
    ∙ ap (λ (o : Option Kind). promoted_as is_end (61 ∷ p.byte ∷ end) (told o p.byte end)) p.means
    ∙ ap (λ (t : Bool). ended (Some man) t) ends
promotion_again is_end text sign rest letter end man (inr (inr never)) e p e' ends = absurd never

empty_promotion : (promo : Option Kind) (text : Text) → MadeOf (promotion_and promo []) text
    → promotion_spelled is_empty text ≡ Some promo
empty_promotion None text e = ap (promotion_spelled is_empty) e
empty_promotion (Some man) text (sign, rest, s, (letter, end, l, none, e'), e) =
    promotion_again is_empty text sign rest letter end man s e (promotion_letter man letter l) e' (ap is_empty none)

pub coordinate-again : (text : Text) (from to : ℕ) (promo : Option Kind) → Spells text (Coordinate from to promo)
    → coordinate_of text ≡ Some (Coordinate from to promo)
coordinate-again text from to promo (first, rest, one, (dash, after, d, (second, end, two, m, e''), e'), e) =
    let start = begins text first rest from one e in
    let target = begins after second end to two e'' in
    ap coordinate_from (square_again text from rest start)
    ∙ ap (λ (x : Text). target_of (Coordinate from) is_empty (leading_square x))
    (behind_again 45 rest dash after to end d e' target (λ file h. above (97 + file) 45 (omega arith)) refl)
    ∙ ap (target_of (Coordinate from) is_empty) (square_again after to end target)
    ∙ ap (to_square (Coordinate from) to) (empty_promotion promo end m)

-- what ends a word in algebraic notation is empty or a mark
mark_text : (text : Text) → MadeOf (marks ∷ []) text → OneOf marks text
mark_text text (m, rest, one, none, e) =
    subst (λ (x : Text). OneOf marks x) (sym (e ∙ ap (λ (x : Text). m ++ x) none ∙ nothing_behind m one)) one
  where
    nothing_behind : (m : Text) → OneOf marks m → m ++ [] ≡ m
    nothing_behind m (inl e) = ap (λ (x : Text). x ++ []) e ∙ sym e
    nothing_behind m (inr (inl e)) = ap (λ (x : Text). x ++ []) e ∙ sym e
    nothing_behind m (inr (inr (inl e))) = ap (λ (x : Text). x ++ []) e ∙ sym e
    nothing_behind m (inr (inr (inr e))) = absurd e

is_mark-again : (text : Text) → OneOf marks text → is_mark text ≡ true
is_mark-again text (inl e) = ap is_mark e
is_mark-again text (inr (inl e)) = ap is_mark e
is_mark-again text (inr (inr (inl e))) = ap is_mark e
is_mark-again text (inr (inr (inr e))) = absurd e

no_promotion : (text : Text) → OneOf marks text → promotion_spelled is_mark text ≡ Some None
no_promotion text (inl e) = ap (promotion_spelled is_mark) e
no_promotion text (inr (inl e)) = ap (promotion_spelled is_mark) e
no_promotion text (inr (inr (inl e))) = ap (promotion_spelled is_mark) e
no_promotion text (inr (inr (inr e))) = absurd e

marked_promotion : (promo : Option Kind) (text : Text) → MadeOf (promotion_and promo (marks ∷ [])) text
    → promotion_spelled is_mark text ≡ Some promo
marked_promotion None text m = no_promotion text (mark_text text m)
marked_promotion (Some man) text (sign, rest, s, (letter, end, l, m, e'), e) =
    promotion_again is_mark text sign rest letter end man s e (promotion_letter man letter l) e'
    (is_mark-again end (mark_text end m))

no_square_of : (file : Option ℕ) (rest : Text) → squared file None rest ≡ None
no_square_of None rest = refl
no_square_of (Some f) rest = refl

-- no square's name stands where a mark is
no_square_at_mark : (text : Text) → OneOf marks text → leading_square (behind_byte 120 text) ≡ None
no_square_at_mark text (inl e) = ap (λ (x : Text). leading_square (behind_byte 120 x)) e
no_square_at_mark text (inr (inl e)) = ap (λ (x : Text). leading_square (behind_byte 120 x)) e
no_square_at_mark text (inr (inr (inl e))) = ap (λ (x : Text). leading_square (behind_byte 120 x)) e
no_square_at_mark text (inr (inr (inr e))) = absurd e

no_square_at_letter : (b : ℕ) (end : Text) → OneOf marks end → leading_square (b ∷ end) ≡ None
no_square_at_letter b end (inl e) = ap (λ (x : Text). leading_square (b ∷ x)) e
no_square_at_letter b end (inr (inl e)) =
    ap (λ (x : Text). leading_square (b ∷ x)) e ∙ no_square_of (file_of_letter b) []
no_square_at_letter b end (inr (inr (inl e))) =
    ap (λ (x : Text). leading_square (b ∷ x)) e ∙ no_square_of (file_of_letter b) []
no_square_at_letter b end (inr (inr (inr e))) = absurd e

no_square_behind : (promo : Option Kind) (text : Text) → MadeOf (promotion_and promo (marks ∷ [])) text
    → leading_square (behind_byte 120 text) ≡ None
no_square_behind None text m = no_square_at_mark text (mark_text text m)
no_square_behind (Some man) text (sign, rest, inl none, (letter, end, l, m, e'), e) =
    let p = promotion_letter man letter l in
    let bytes : text ≡ p.byte ∷ end = e ∙ ap (λ (x : Text). x ++ rest) none ∙ e' ∙ ap (λ (x : Text). x ++ end) p.is in
    ap (λ (x : Text). leading_square (behind_byte 120 x)) bytes
    ∙ ap (λ (t : Bool). leading_square (cond t end (p.byte ∷ end))) p.no_capture
    ∙ no_square_at_letter p.byte end (mark_text end m)
no_square_behind (Some man) text (sign, rest, inr (inl one), (letter, end, l, m, e'), e) =
    let p = promotion_letter man letter l in
    let bytes : text ≡ 61 ∷ p.byte ∷ end =
    e ∙ ap (λ (x : Text). x ++ rest) one ∙ ap (λ (x : Text). 61 ∷ x) (e' ∙ ap (λ (x : Text). x ++ end) p.is) in
    ap (λ (x : Text). leading_square (behind_byte 120 x)) bytes
no_square_behind (Some man) text (sign, rest, inr (inr never), (letter, end, l, m, e'), e) = absurd never

-- algebraic notation behind the man's letter
named_from : Kind → Text → Option MoveWord
named_from man text =
    let file = leading file_of_letter text in
    let rank = leading rank_of_digit file.1 in
    named_by man file.0 rank.0 rank.1 (leading_square (behind_byte 120 rank.1))

-- a file, a rank and a capture that were read before a target
named-behind : (man : Kind) (text one two three : Text) (file rank : Option ℕ) (to : ℕ) (end : Text)
    (promo : Option Kind)
    → leading file_of_letter text ≡ (file, one) → leading rank_of_digit one ≡ (rank, two) → behind_byte 120 two ≡ three
    → leading_square three ≡ Some (to, end)
    → promotion_spelled is_mark end ≡ Some promo → named_from man text ≡ Some (Named man file rank to promo)
unfolding named_from
named-behind man text one two three file rank to end promo f r c s p =
    ap (λ (x : Option ℕ × Text).
    named_by man x.0 (leading rank_of_digit x.1).0 (leading rank_of_digit x.1).1
    (leading_square (behind_byte 120 (leading rank_of_digit x.1).1)))
    f
    ∙ ap (λ (x : Option ℕ × Text). named_by man file x.0 x.1 (leading_square (behind_byte 120 x.1))) r
    ∙ ap (λ (x : Text). named_by man file rank two (leading_square x)) c
    ∙ ap (λ (x : Option (ℕ × Text)). named_by man file rank two x) s
    ∙ ap (to_square (Named man file rank) to) p

file_taken : (text first rest : Text) (f : ℕ) → OneOf (origin_files (Some f)) first → text ≡ first ++ rest
    → (f < 8) × (text ≡ (97 + f) ∷ rest) × (leading file_of_letter text ≡ (Some f, rest))
file_taken text first rest f one e =
    let name = if-OneOf (nat_lt f 8) ((97 + f) ∷ []) first one in
    let fits = below f 8 name.0 in
    let bytes : text ≡ (97 + f) ∷ rest = e ∙ ap (λ (x : Text). x ++ rest) name.1 in
    (fits, bytes, ap (leading file_of_letter) bytes ∙ ap (λ (o : Option ℕ). told o (97 + f) rest) (file_again f fits))

rank_taken : (text first rest : Text) (r : ℕ) → OneOf (origin_ranks (Some r)) first → text ≡ first ++ rest
    → (r < 8) × (text ≡ (49 + r) ∷ rest) × (leading rank_of_digit text ≡ (Some r, rest))
    × (leading file_of_letter text ≡ (None, text))
rank_taken text first rest r one e =
    let name = if-OneOf (nat_lt r 8) ((49 + r) ∷ []) first one in
    let fits = below r 8 name.0 in
    let bytes : text ≡ (49 + r) ∷ rest = e ∙ ap (λ (x : Text). x ++ rest) name.1 in (
      fits,
      bytes,
      ap (leading rank_of_digit) bytes ∙ ap (λ (o : Option ℕ). told o (49 + r) rest) (rank_again r fits),
      ap (leading file_of_letter) bytes ∙ ap (λ (o : Option ℕ). told o (49 + r) rest) (digit_no_file r fits)
          ∙ ap (λ (x : Text). (None, x)) (sym bytes),
    )

-- nothing was left out before the text
same_text : (text none rest : Text) → OneOf ([] ∷ []) none → text ≡ none ++ rest → text ≡ rest
same_text text none rest (inl is) e = e ∙ ap (λ (x : Text). x ++ rest) is
same_text text none rest (inr never) e = absurd never

-- a mark of capture or a target is no rank
no_rank : (text left rest : Text) (s : ℕ) (end : Text) → OneOf capture_marks left → text ≡ left ++ rest
    → Begins rest s end
    → leading rank_of_digit text ≡ (None, text)
no_rank text left rest s end (inl none) e b =
    let bytes : text ≡ (97 + b.file) ∷ (49 + b.rank) ∷ end = e ∙ ap (λ (x : Text). x ++ rest) none ∙ b.bytes in
    ap (leading rank_of_digit) bytes
    ∙ ap (λ (o : Option ℕ). told o (97 + b.file) ((49 + b.rank) ∷ end)) (letter_no_rank b.file b.file_fits)
    ∙ ap (λ (x : Text). (None, x)) (sym bytes)
no_rank text left rest s end (inr (inl one)) e b =
    let bytes : text ≡ 120 ∷ rest = e ∙ ap (λ (x : Text). x ++ rest) one in
    ap (leading rank_of_digit) bytes ∙ ap (λ (x : Text). (None, x)) (sym bytes)
no_rank text left rest s end (inr (inr never)) e b = absurd never

capture_again : (text left rest : Text) (s : ℕ) (end : Text) → OneOf capture_marks left → text ≡ left ++ rest
    → Begins rest s end → behind_byte 120 text ≡ rest
capture_again text left rest s end one e b =
    behind_again 120 text left rest s end one e b (λ file h. under (97 + file) 120 (omega arith)) refl

origin-again : (man : Kind) (file rank : Option ℕ) (to : ℕ) (promo : Option Kind) (text : Text)
    → MadeOf
    (origin_files file ∷ origin_ranks rank ∷ capture_marks ∷ square_names to ∷ promotion_and promo (marks ∷ []))
    text
    → named_from man text ≡ Some (Named man file rank to promo)
unfolding named_from
origin-again man (Some f) (Some r) to promo text
    (a, ta, oa, (b, tb, ob, (c, tc, oc, (d, end, od, m, ed), ec), eb), ea) =
    let target = begins tc d end to od ed in
    named-behind man text ta tb tc (Some f) (Some r) to end promo (file_taken text a ta f oa ea).2
    (rank_taken ta b tb r ob eb).2 (capture_again tb c tc to end oc ec target)
    (square_again tc to end target) (marked_promotion promo end m)
origin-again man (Some f) None to promo text (a, ta, oa, (b, tb, ob, (c, tc, oc, (d, end, od, m, ed), ec), eb), ea) =
    let target = begins tc d end to od ed in
    let ec' : ta ≡ c ++ tc = same_text ta b tb ob eb ∙ ec in
    named-behind man text ta ta tc (Some f) None to end promo (file_taken text a ta f oa ea).2
    (no_rank ta c tc to end oc ec' target) (capture_again ta c tc to end oc ec' target)
    (square_again tc to end target) (marked_promotion promo end m)
origin-again man None (Some r) to promo text (a, ta, oa, (b, tb, ob, (c, tc, oc, (d, end, od, m, ed), ec), eb), ea) =
    let target = begins tc d end to od ed in
    let rank = rank_taken text b tb r ob (same_text text a ta oa ea ∙ eb) in
    named-behind man text text tb tc None (Some r) to end promo rank.3 rank.2
    (capture_again tb c tc to end oc ec target)
    (square_again tc to end target) (marked_promotion promo end m)
origin-again man None None to promo text (a, ta, oa, (b, tb, ob, (c, tc, inl none, (d, end, od, m, ed), ec), eb), ea) =
    let whole : text ≡ tc =
    same_text text a ta oa ea ∙ same_text ta b tb ob eb ∙ ec ∙ ap (λ (x : Text). x ++ tc) none in
    let target = begins text d end to od (whole ∙ ed) in
    let after : Text = (49 + target.rank) ∷ end in
    ap (named_from man) target.bytes
    ∙ ap (λ (o : Option ℕ).
    let file = told o (97 + target.file) after in
    let rank = leading rank_of_digit file.1 in
    named_by man file.0 rank.0 rank.1 (leading_square (behind_byte 120 rank.1)))
    (file_again target.file target.file_fits)
    ∙ ap (λ (o : Option ℕ).
    let rank = told o (49 + target.rank) end in
    named_by man (Some target.file) rank.0 rank.1 (leading_square (behind_byte 120 rank.1)))
    (rank_again target.rank target.rank_fits)
    ∙ ap (λ (x : Option (ℕ × Text)). named_by man (Some target.file) (Some target.rank) end x)
    (no_square_behind promo end m)
    ∙ ap (to_square (Named man None None) (8 * target.rank + target.file)) (marked_promotion promo end m)
    ∙ ap (λ (x : ℕ). Some (Named man None None x promo)) target.square
origin-again man None None to promo text
    (a, ta, oa, (b, tb, ob, (c, tc, inr (inl one), (d, end, od, m, ed), ec), eb), ea) =
    let target = begins tc d end to od ed in
    let whole : text ≡ c ++ tc = same_text text a ta oa ea ∙ same_text ta b tb ob eb ∙ ec in
    let bytes : text ≡ 120 ∷ tc = whole ∙ ap (λ (x : Text). x ++ tc) one in
    let no_file : leading file_of_letter text ≡ (None, text) =
    ap (leading file_of_letter) bytes ∙ ap (λ (x : Text). (None, x)) (sym bytes) in
    named-behind man text text text tc None None to end promo no_file
    (no_rank text c tc to end (inr (inl one)) whole target)
    (capture_again text c tc to end (inr (inl one)) whole target)
    (square_again tc to end target) (marked_promotion promo end m)
origin-again man None None to promo text (a, ta, oa, (b, tb, ob, (c, tc, inr (inr never), rest, ec), eb), ea) =
    absurd never

-- a text of origin and target begins with no man's letter
no_man : (file rank : Option ℕ) (to : ℕ) (ends : List (List Text)) (text : Text)
    → MadeOf (origin_files file ∷ origin_ranks rank ∷ capture_marks ∷ square_names to ∷ ends) text
    → leading man_of text ≡ (None, text)
no_man (Some f) rank to ends text (a, ta, oa, rest, ea) =
    let taken = file_taken text a ta f oa ea in
    ap (leading man_of) taken.1 ∙ ap (λ (o : Option Kind). told o (97 + f) ta) (letter_no_man (97 + f) (omega arith))
    ∙ ap (λ (x : Text). (None, x)) (sym taken.1)
no_man None (Some r) to ends text (a, ta, oa, (b, tb, ob, rest, eb), ea) =
    let taken = rank_taken text b tb r ob (same_text text a ta oa ea ∙ eb) in
    let fits = taken.0 in
    ap (leading man_of) taken.1 ∙ ap (λ (o : Option Kind). told o (49 + r) tb) (digit_no_man (49 + r) (omega arith))
    ∙ ap (λ (x : Text). (None, x)) (sym taken.1)
no_man None None to ends text (a, ta, oa, (b, tb, ob, (c, tc, inl none, (d, end, od, m, ed), ec), eb), ea) =
    let whole : text ≡ tc =
    same_text text a ta oa ea ∙ same_text ta b tb ob eb ∙ ec ∙ ap (λ (x : Text). x ++ tc) none in
    let target = begins text d end to od (whole ∙ ed) in
    ap (leading man_of) target.bytes
    ∙ ap (λ (o : Option Kind). told o (97 + target.file) ((49 + target.rank) ∷ end))
    (letter_no_man (97 + target.file) (omega arith))
    ∙ ap (λ (x : Text). (None, x)) (sym target.bytes)
no_man None None to ends text (a, ta, oa, (b, tb, ob, (c, tc, inr (inl one), rest, ec), eb), ea) =
    let bytes : text ≡ 120 ∷ tc =
    same_text text a ta oa ea ∙ same_text ta b tb ob eb ∙ ec ∙ ap (λ (x : Text). x ++ tc) one in
    ap (leading man_of) bytes ∙ ap (λ (x : Text). (None, x)) (sym bytes)
no_man None None to ends text (a, ta, oa, (b, tb, ob, (c, tc, inr (inr never), rest, ec), eb), ea) = absurd never

man_again : (man : Kind) (text first rest : Text) → OneOf (man_letters man) first → text ≡ first ++ rest
    → leading man_of rest ≡ (None, rest)
    → (taken : Option Kind) × (leading man_of text ≡ (taken, rest)) × (or_pawn taken ≡ man)
man_again Pawn text first rest (inl none) e other =
    (None, ap (leading man_of) (e ∙ ap (λ (x : Text). x ++ rest) none) ∙ other, refl)
man_again Pawn text first rest (inr (inl one)) e other =
    (Some Pawn, ap (leading man_of) (e ∙ ap (λ (x : Text). x ++ rest) one), refl)
man_again Pawn text first rest (inr (inr never)) e other = absurd never
man_again Knight text first rest (inl one) e other =
    (Some Knight, ap (leading man_of) (e ∙ ap (λ (x : Text). x ++ rest) one), refl)
man_again Knight text first rest (inr never) e other = absurd never
man_again Bishop text first rest (inl one) e other =
    (Some Bishop, ap (leading man_of) (e ∙ ap (λ (x : Text). x ++ rest) one), refl)
man_again Bishop text first rest (inr never) e other = absurd never
man_again Rook text first rest (inl one) e other =
    (Some Rook, ap (leading man_of) (e ∙ ap (λ (x : Text). x ++ rest) one), refl)
man_again Rook text first rest (inr never) e other = absurd never
man_again Queen text first rest (inl one) e other =
    (Some Queen, ap (leading man_of) (e ∙ ap (λ (x : Text). x ++ rest) one), refl)
man_again Queen text first rest (inr never) e other = absurd never
man_again King text first rest (inl one) e other =
    (Some King, ap (leading man_of) (e ∙ ap (λ (x : Text). x ++ rest) one), refl)
man_again King text first rest (inr never) e other = absurd never

named_by_man : Option Kind × Text → Option MoveWord
named_by_man taken = named_from (or_pawn taken.0) taken.1

named_of-is : (text : Text) → named_of text ≡ named_by_man (leading man_of text)
unfolding named_from named_by_man
named_of-is text = refl

pub named-again : (text : Text) (man : Kind) (file rank : Option ℕ) (to : ℕ) (promo : Option Kind)
    → Spells text (Named man file rank to promo)
    → named_of text ≡ Some (Named man file rank to promo)
unfolding named_by_man
named-again text man file rank to promo (first, rest, one, m, e) =
    let letter = man_again man text first rest one e (no_man file rank to (promotion_and promo (marks ∷ [])) rest m) in
    named_of-is text ∙ ap named_by_man letter.1 ∙ ap (λ (k : Kind). named_from k rest) letter.2
    ∙ origin-again man file rank to promo rest m

-- a text with each mark behind it
by_mark : (text : Text) (word : Option MoveWord) → reading text ≡ word
    → reading (text ++ codes "+") ≡ word → reading (text ++ codes "#") ≡ word
    → (mark : Text) → OneOf marks mark → reading (text ++ mark) ≡ word
by_mark text word none plus hash mark (inl e) =
    ap (λ (x : Text). reading (text ++ x)) e ∙ ap reading (nothing_more text) ∙ none
  where
    nothing_more : (t : Text) → t ++ [] ≡ t
    nothing_more [] = refl
    nothing_more (b ∷ t) = ap (λ (x : Text). b ∷ x) (nothing_more t)
by_mark text word none plus hash mark (inr (inl e)) = ap (λ (x : Text). reading (text ++ x)) e ∙ plus
by_mark text word none plus hash mark (inr (inr (inl e))) = ap (λ (x : Text). reading (text ++ x)) e ∙ hash
by_mark text word none plus hash mark (inr (inr (inr e))) = absurd e

castling_again : (long : Bool) (first mark : Text) → OneOf (castlings long) first → OneOf marks mark
    → reading (first ++ mark) ≡ Some (Castle long)
castling_again false first mark (inl e) m =
    ap (λ (x : Text). reading (x ++ mark)) e ∙ by_mark (codes "O-O") (Some (Castle false)) refl refl refl mark m
castling_again false first mark (inr (inl e)) m =
    ap (λ (x : Text). reading (x ++ mark)) e ∙ by_mark (codes "o-o") (Some (Castle false)) refl refl refl mark m
castling_again false first mark (inr (inr (inl e))) m =
    ap (λ (x : Text). reading (x ++ mark)) e ∙ by_mark (codes "0-0") (Some (Castle false)) refl refl refl mark m
castling_again false first mark (inr (inr (inr e))) m = absurd e
castling_again true first mark (inl e) m =
    ap (λ (x : Text). reading (x ++ mark)) e ∙ by_mark (codes "O-O-O") (Some (Castle true)) refl refl refl mark m
castling_again true first mark (inr (inl e)) m =
    ap (λ (x : Text). reading (x ++ mark)) e ∙ by_mark (codes "o-o-o") (Some (Castle true)) refl refl refl mark m
castling_again true first mark (inr (inr (inl e))) m =
    ap (λ (x : Text). reading (x ++ mark)) e ∙ by_mark (codes "0-0-0") (Some (Castle true)) refl refl refl mark m
castling_again true first mark (inr (inr (inr e))) m = absurd e

pub castle-again : (text : Text) (long : Bool) → Spells text (Castle long) → reading text ≡ Some (Castle long)
castle-again text long (first, rest, one, m, e) = ap reading e ∙ castling_again long first rest one (mark_text rest m)

-- a letter of a drop: with a sign behind it, it begins no other word
record IsDropped (letter : Text) (man : Kind) : Type 0 where
  byte : ℕ
  is : letter ≡ byte ∷ []
  alone : (c d : ℕ) (end : Text) → reading (byte ∷ 64 ∷ c ∷ d ∷ end) ≡ dropped_at man (leading_square (c ∷ d ∷ end))

drop_letter : (man : Kind) (letter : Text) → OneOf (drop_letters man) letter → IsDropped letter man
drop_letter Pawn letter (inl e) = record { byte = 80; is = e; alone = λ c d end. refl }
drop_letter Pawn letter (inr (inl e)) = record { byte = 112; is = e; alone = λ c d end. refl }
drop_letter Pawn letter (inr (inr e)) = absurd e
drop_letter Knight letter (inl e) = record { byte = 78; is = e; alone = λ c d end. refl }
drop_letter Knight letter (inr (inl e)) = record { byte = 110; is = e; alone = λ c d end. refl }
drop_letter Knight letter (inr (inr e)) = absurd e
drop_letter Bishop letter (inl e) = record { byte = 66; is = e; alone = λ c d end. refl }
drop_letter Bishop letter (inr (inl e)) = record { byte = 98; is = e; alone = λ c d end. refl }
drop_letter Bishop letter (inr (inr e)) = absurd e
drop_letter Rook letter (inl e) = record { byte = 82; is = e; alone = λ c d end. refl }
drop_letter Rook letter (inr (inl e)) = record { byte = 114; is = e; alone = λ c d end. refl }
drop_letter Rook letter (inr (inr e)) = absurd e
drop_letter Queen letter (inl e) = record { byte = 81; is = e; alone = λ c d end. refl }
drop_letter Queen letter (inr (inl e)) = record { byte = 113; is = e; alone = λ c d end. refl }
drop_letter Queen letter (inr (inr e)) = absurd e
drop_letter King letter e = absurd e

pub drop-again : (text : Text) (man : Kind) (to : ℕ) → Spells text (Drop man to) → reading text ≡ Some (Drop man to)
drop-again text man to (letter, rest, one, (at, name, inl sign, (square, end, s, m, e''), e'), e) =
    let d = drop_letter man letter one in
    let target = begins name square end to s e'' in
    let behind_sign : rest ≡ 64 ∷ name = e' ∙ ap (λ (x : Text). x ++ name) sign in
    let bytes : text ≡ d.byte ∷ 64 ∷ name =
    e ∙ ap (λ (x : Text). x ++ rest) d.is ∙ ap (λ (x : Text). d.byte ∷ x) behind_sign in
    ap reading (bytes ∙ ap (λ (x : Text). d.byte ∷ 64 ∷ x) target.bytes)
    ∙ d.alone (97 + target.file) (49 + target.rank) end
    ∙ ap (λ (x : Text). dropped_at man (leading_square x)) (sym target.bytes)
    ∙ ap (dropped_at man) (square_again name to end target)
    ∙ ap (λ (t : Bool). cond t (Some (Drop man to)) None) (is_mark-again end (mark_text end m))
drop-again text man to (letter, rest, one, (at, name, inr never, m, e'), e) = absurd never

-- What a byte makes of a walk, from what its piece makes of the book.
use Rattle.std.proofs.Common.{◌≡◌, ℕ, ◌+◌, ◌-◌, Bool, true, false, ◌||◌, cond, nat_eq, nat_lt, List, [], ◌∷◌, ◌++◌, Option, Some, None, refl, sym, ap, ◌∙◌}
use Rattle.std.specs.Prelude.{◌==◌}
use Rattle.pgn_book.specs.declared.book.Read.{Read}
use Rattle.pgn_book.specs.declared.place.PlaceInText.{PlaceInText}
use Rattle.pgn_book.specs.declared.place.PlaceInText.TheVariants.{Between, InWord, InQuotes, InStroke}
use Rattle.pgn_book.specs.Bytes.{is_among, move_signs, is_name_byte, is_word_byte}
use Rattle.pgn_book.specs.Lexing.{is_sign, is_of_text}
use Rattle.pgn_book.specs.Reading.{Book, Taken, State, Step, silent, state_at, to_place, took, piece_passed, signed, quoted, glyphed, worded, piece_of, opens, closes, outside, nested, in_quotes, longer, step, step_in}
use Rattle.pgn_book.specs.Taking.{on_if, IsTaken, IsTakenSilently, IsStepOfByte}

pub word_by_name : (b : ℕ) (x : Bool) → x ≡ is_name_byte b → x ≡ true → x ≡ is_word_byte b
unfolding is_word_byte
word_by_name b x e h = h ∙ sym (ap (λ (t : Bool). t || is_among move_signs b) (sym e ∙ h))

pub word_by_sign : (b : ℕ) (x y : Bool) → x ≡ is_name_byte b → x ≡ false → y ≡ is_among move_signs b
    → y ≡ is_word_byte b
unfolding is_word_byte
word_by_sign b x y e h g = g ∙ sym (ap (λ (t : Bool). t || is_among move_signs b) (sym e ∙ h))

on_place : (on : Bool) (depth : ℕ) (new : Book)
    → on_if on (state_at (Between false) depth new) ≡ to_place (Between false) depth (on_if on new)
on_place true depth new = refl
on_place false depth new = refl

placed_by : (on : Bool) (depth : ℕ) (new : Book) (taken : Taken) → IsTakenSilently on new taken
    → on_if on (state_at (Between false) depth new) ≡ to_place (Between false) depth taken.on
placed_by on depth new taken t = on_place on depth new ∙ sym (ap (λ (x : Taken). to_place (Between false) depth x.on) t)

pub close_at : (place : PlaceInText) (d : ℕ) (b new : Book) (now : State) (on : Bool) → state_at place d b ≡ now
    → nat_eq d 0 ≡ false
    → IsTakenSilently on new (piece_passed b.stage b)
    → on_if on (state_at (Between false) (d - 1) new) ≡ closes now.depth now.book
unfolding took
close_at place d b new now on e h t =
    let there : Option State = to_place (Between false) (d - 1) (piece_passed b.stage b).on in
    placed_by on (d - 1) new (piece_passed b.stage b) t ∙ sym (ap (λ (x : Bool). cond x None there) h)
    ∙ ap (λ (s : State). closes s.depth s.book) e

pub open_at : (place : PlaceInText) (d : ℕ) (b new : Book) (now : State) (on : Bool) → state_at place d b ≡ now
    → nat_lt d 100 ≡ true
    → IsTakenSilently on new (piece_passed b.stage b)
    → on_if on (state_at (Between false) (d + 1) new) ≡ opens now.depth now.book
unfolding took
open_at place d b new now on e h t =
    let there : Option State = to_place (Between false) (d + 1) (piece_passed b.stage b).on in
    placed_by on (d + 1) new (piece_passed b.stage b) t ∙ sym (ap (λ (x : Bool). cond x there None) h)
    ∙ ap (λ (s : State). opens s.depth s.book) e

pub nest_at : (place : PlaceInText) (d : ℕ) (b new : Book) (now : State) (byte : ℕ) (on : Bool)
    → state_at place d b ≡ now → (byte == 40) ≡ false
    → (byte == 41) ≡ false → nat_eq d 0 ≡ false → IsTakenSilently on new (piece_passed b.stage b)
    → on_if on (state_at (Between false) d new) ≡ nested now.depth now.book byte
unfolding took
nest_at place d b new now byte on e no_open no_close h t =
    let there : Option State = to_place (Between false) d (piece_passed b.stage b).on in
    let inside : Option State = cond (nat_eq d 0) (outside b byte) there in
    placed_by on d new (piece_passed b.stage b) t ∙ sym (ap (λ (x : Bool). cond x (outside b byte) there) h)
    ∙ sym (ap (λ (x : Bool). cond x (closes d b) inside) no_close)
    ∙ sym (ap (λ (x : Bool). cond x (opens d b) (cond (byte == 41) (closes d b) inside)) no_open)
    ∙ ap (λ (s : State). nested s.depth s.book byte) e

pub sign_at : (place : PlaceInText) (d : ℕ) (b new : Book) (now : State) (byte : ℕ) (on : Bool)
    → state_at place d b ≡ now → now.depth ≡ 0
    → (byte == 36) ≡ false → (byte == 34) ≡ false → is_sign byte ≡ true → IsTakenSilently on new (signed b byte)
    → on_if on (state_at (Between false) d new) ≡ outside now.book byte
unfolding took
sign_at place d b new now byte on e zero_deep no_glyph no_quote h t =
    let there : Option State = to_place (Between false) 0 (signed b byte).on in
    let signs : Option State = cond (is_sign byte) there None in
    let quotes : Option State = Some (state_at (InQuotes []) 0 b) in
    ap (λ (n : ℕ). on_if on (state_at (Between false) n new)) (ap (λ (s : State). s.depth) e ∙ zero_deep)
    ∙ placed_by on 0 new (signed b byte) t ∙ sym (ap (λ (x : Bool). cond x there None) h)
    ∙ sym (ap (λ (x : Bool). cond x quotes signs) no_quote)
    ∙ sym (ap (λ (x : Bool). cond x (Some (state_at (InWord true []) 0 b)) (cond (byte == 34) quotes signs)) no_glyph)
    ∙ ap (λ (s : State). outside s.book byte) e

pub quote_at : (place : PlaceInText) (d : ℕ) (b new : Book) (now : State) (text : List ℕ) (byte : ℕ) (on : Bool)
    → state_at place d b ≡ now
    → (byte == 34) ≡ true → IsTakenSilently on new (quoted b.stage b text)
    → on_if on (state_at (Between false) d new) ≡ in_quotes text now.depth now.book byte
unfolding took
quote_at place d b new now text byte on e h t =
    let there : Option State = to_place (Between false) d (quoted b.stage b text).on in
    let else_so : Option State =
    cond (byte == 92) (Some (state_at (InStroke text) d b))
    (cond (is_of_text byte) (longer (InQuotes (text ++ byte ∷ [])) text d b) None) in
    placed_by on d new (quoted b.stage b text) t
    ∙ sym (ap (λ (x : Bool). cond x there else_so) h)
    ∙ ap (λ (s : State). in_quotes text s.depth s.book byte) e

abbrev as_taken : Read → Book → Taken
as_taken read book = record { given = read.game; on = on_if read.goes_on book }

abbrev as_step : Read → State → Step
as_step read s = record { given = read.game; on = on_if read.goes_on s }

pub glyph_taken : (place : PlaceInText) (d : ℕ) (b new : Book) (now : State) (glyph : Bool) (word shown : List ℕ)
    (on : Bool) (read : Read)
    → state_at place d b ≡ now → glyph ≡ true → shown ≡ word → IsTakenSilently on new (glyphed b shown)
    → read ≡ record { game = None; goes_on = on } → IsTaken read new (took now.book (piece_of glyph word))
unfolding took
glyph_taken place d b new now glyph word shown on read e h is t r =
    ap (λ (g : Bool). took now.book (piece_of g word)) h ∙ ap (λ (s : State). glyphed s.book word) (sym e)
    ∙ sym (ap (λ (l : List ℕ). glyphed b l) is) ∙ t
    ∙ ap (λ (x : Read). as_taken x new) (sym r)

pub word_taken : (place : PlaceInText) (d : ℕ) (b new : Book) (now : State) (glyph : Bool) (word : List ℕ) (read : Read)
    → state_at place d b ≡ now → glyph ≡ false → IsTaken read new (worded b.stage b word)
    → IsTaken read new (took now.book (piece_of glyph word))
unfolding took
word_taken place d b new now glyph word read e h t =
    ap (λ (g : Bool). took now.book (piece_of g word)) h ∙ ap (λ (s : State). worded s.book.stage s.book word) (sym e)
    ∙ t

pub step_silent : (place kind : PlaceInText) (d : ℕ) (b : Book) (now new : State) (byte : ℕ) (on : Bool) (read : Read)
    (f : Option State)
    → state_at place d b ≡ now → kind ≡ place → step_in kind d b byte ≡ silent f → on_if on new ≡ f
    → read ≡ record { game = None; goes_on = on } → IsStepOfByte read new (step now byte)
unfolding step
step_silent place kind d b now new byte on read f e k h g r =
    ap (λ (s : State). step s byte) (sym e) ∙ ap (λ (p : PlaceInText). step_in p d b byte) (sym k) ∙ h
    ∙ sym (ap silent g)
    ∙ ap (λ (x : Read). as_step x new) (sym r)

pub step_loud : (place kind : PlaceInText) (d : ℕ) (b : Book) (now new : State) (byte : ℕ) (read : Read)
    → state_at place d b ≡ now
    → kind ≡ place → IsStepOfByte read new (step_in kind d b byte) → IsStepOfByte read new (step now byte)
unfolding step
step_loud place kind d b now new byte read e k h =
    ap (λ (s : State). step s byte) (sym e) ∙ ap (λ (p : PlaceInText). step_in p d b byte) (sym k) ∙ h

-- where memory was wanting, the walk stands where it stood
pub step_back : (place kind : PlaceInText) (d : ℕ) (b : Book) (now new : State) → state_at place d b ≡ now
    → kind ≡ place
    → new ≡ state_at kind d b → new ≡ now
step_back place kind d b now new e k h = h ∙ ap (λ (p : PlaceInText). state_at p d b) k ∙ e

-- The words of a text, taken from its front.
use Rattle.std.proofs.Common.{◌≡◌, ℕ, suc, ◌+◌, ◌<◌, ◌≤◌, Bool, true, false, cond, List, [], ◌∷◌, length, take, drop, refl, sym, ap, subst, ◌∙◌, arith, Some, None}
use Rattle.std.specs.Prelude.{not, ◌==◌, nat_lt, unwrap_or, position}
use Rattle.std.specs.List.{prefix_len, position_or_len, slice_split, filter, onto_first}
use Rattle.std.proofs.lemmas.Bool.{eqb-true}
use Rattle.std.proofs.lemmas.Bool.Decides.{nat_tests}
use Rattle.std.proofs.lemmas.List.Sums.{prefix_len-le-length}
use Rattle.fics_words.specs.Blank.{is_blank}
use Rattle.command_words.specs.Blanks.{behind_blanks, word_length, first_word, rest_behind_word, is_word, Words, words_of}
use Rattle.std.proofs.Math.Bool.{not-not}

-- how far a first place is, or the whole length
place_or_length : (p : ℕ → Bool) (text : List ℕ) → unwrap_or (position p text) (length text) ≡ position_or_len p text
place_or_length p text =
    let within : position_or_len p text ≤ length text = prefix_len-le-length (λ x. not (p x)) text in
    elim (nat_lt (position_or_len p text) (length text)) as (λ t. nat_lt (position_or_len p text) (length text) ≡ t
    → unwrap_or (cond t (Some (position_or_len p text)) None) (length text) ≡ position_or_len p text) [
      | true ↦ λ is. refl
      | false ↦ λ is. grind (arith, nat_tests)
    ] refl

-- how many bytes pass at the front of a text: one more where the first does
prefix_yes : (p : ℕ → Bool) (b : ℕ) (text : List ℕ) → p b ≡ true → prefix_len p (b ∷ text) ≡ suc (prefix_len p text)
prefix_yes p b text e = ap (λ (t : Bool). cond t (1 + prefix_len p text) 0) e ∙ omega arith

prefix_no : (p : ℕ → Bool) (b : ℕ) (text : List ℕ) → p b ≡ false → prefix_len p (b ∷ text) ≡ 0
prefix_no p b text e = ap (λ (t : Bool). cond t (1 + prefix_len p text) 0) e

-- ---- blanks at the front

abbrev Blank : ℕ → Bool
Blank b = not (not (is_blank b))

-- no blank stands first
abbrev pub StartsWord : List ℕ → Type 0
StartsWord [] = Unit {0}
StartsWord (b ∷ text) = is_blank b ≡ false

words_of-blank : (b : ℕ) (text : List ℕ) → is_blank b ≡ true → words_of (b ∷ text) ≡ words_of text
unfolding words_of
words_of-blank b text e =
    ap
    (λ (t : Bool). filter is_word (cond t ([] ∷ slice_split is_blank text) (onto_first b (slice_split is_blank text))))
    e

skipped : (text : List ℕ)
    → (words_of (drop (prefix_len Blank text) text) ≡ words_of text) × StartsWord (drop (prefix_len Blank text) text)
skipped [] = (refl, tt)
skipped (b ∷ text) =
    elim (is_blank b)
    as (λ t.
    is_blank b ≡ t
    → (words_of (drop (prefix_len Blank (b ∷ text)) (b ∷ text)) ≡ words_of (b ∷ text))
    × StartsWord (drop (prefix_len Blank (b ∷ text)) (b ∷ text))) [
      | true ↦ λ is.
          let further = skipped text in
          let one = prefix_yes Blank b text (not-not (is_blank b) ∙ is) in
          subst (λ (n : ℕ). (words_of (drop n (b ∷ text)) ≡ words_of (b ∷ text)) × StartsWord (drop n (b ∷ text)))
          (sym one)
          (further.0 ∙ sym (words_of-blank b text is), further.1)
      | false ↦ λ is.
          let none = prefix_no Blank b text (not-not (is_blank b) ∙ is) in
          subst (λ (n : ℕ). (words_of (drop n (b ∷ text)) ≡ words_of (b ∷ text)) × StartsWord (drop n (b ∷ text)))
          (sym none) (refl, is)
    ] refl

behind_is : (text : List ℕ) → behind_blanks text ≡ drop (prefix_len Blank text) text
behind_is text = ap (λ (n : ℕ). drop n text) (place_or_length (λ b. not (is_blank b)) text)

pub words_of-behind_blanks : (text : List ℕ) → words_of (behind_blanks text) ≡ words_of text
words_of-behind_blanks text = ap words_of (behind_is text) ∙ (skipped text).0

pub behind_blanks-starts : (text : List ℕ) → StartsWord (behind_blanks text)
behind_blanks-starts text = subst StartsWord (sym (behind_is text)) (skipped text).1

-- ---- the first word

abbrev Letter : ℕ → Bool
Letter b = not (is_blank b)

-- the first part of a text is what stands before its first blank, and behind it stand the words of the rest
record Parted (text : List ℕ) : Type 0 where
  others : Words
  parts : slice_split is_blank text ≡ take (prefix_len Letter text) text ∷ others
  words : filter is_word others ≡ words_of (drop (prefix_len Letter text) text)

parted : (text : List ℕ) → Parted text
unfolding words_of
parted [] = record { others = []; parts = refl; words = refl }
parted (b ∷ text) =
    elim (is_blank b) as (λ t. is_blank b ≡ t → Parted (b ∷ text)) [
      | true ↦ λ is.
          let none = prefix_no Letter b text (ap not is) in
          record {
            others = slice_split is_blank text;
            parts =
                subst (λ (n : ℕ). slice_split is_blank (b ∷ text) ≡ take n (b ∷ text) ∷ slice_split is_blank text)
                (sym none)
                (ap (λ (t : Bool). cond t ([] ∷ slice_split is_blank text) (onto_first b (slice_split is_blank text)))
                is);
            words =
                subst (λ (n : ℕ). filter is_word (slice_split is_blank text) ≡ words_of (drop n (b ∷ text))) (sym none)
                (sym (words_of-blank b text is));
          }
      | false ↦ λ is.
          let further = parted text in
          let one = prefix_yes Letter b text (ap not is) in
          record {
            others = further.others;
            parts = subst (λ (n : ℕ). slice_split is_blank (b ∷ text) ≡ take n (b ∷ text) ∷ further.others) (sym one)
                (ap (λ (t : Bool). cond t ([] ∷ slice_split is_blank text) (onto_first b (slice_split is_blank text)))
                is
                ∙ ap (onto_first b) further.parts);
            words =
                subst (λ (n : ℕ). filter is_word further.others ≡ words_of (drop n (b ∷ text))) (sym one) further.words;
          }
    ] refl

word_length-is : (text : List ℕ) → word_length text ≡ prefix_len Letter text
word_length-is text = place_or_length is_blank text

-- a text that begins with a word has that word, and then the words of the rest
pub words_of-first : (text : List ℕ) → StartsWord text → 0 < length text
    → words_of text ≡ first_word text ∷ words_of (rest_behind_word text)
unfolding words_of
words_of-first [] starts some = absurd (omega arith)
words_of-first (b ∷ text) starts some =
    let split = parted (b ∷ text) in
    let one = prefix_yes Letter b text (ap not starts) in
    let rest : words_of (rest_behind_word (b ∷ text)) ≡ words_of (drop (prefix_len Letter (b ∷ text)) (b ∷ text)) =
    words_of-behind_blanks (drop (word_length (b ∷ text)) (b ∷ text))
    ∙ ap (λ (n : ℕ). words_of (drop n (b ∷ text))) (word_length-is (b ∷ text)) in
    let word : first_word (b ∷ text) ≡ take (prefix_len Letter (b ∷ text)) (b ∷ text) =
    ap (λ (n : ℕ). take n (b ∷ text)) (word_length-is (b ∷ text)) in
    let kept : filter is_word (take (prefix_len Letter (b ∷ text)) (b ∷ text) ∷ split.others)
    ≡ take (prefix_len Letter (b ∷ text)) (b ∷ text) ∷ filter is_word split.others =
    subst
    (λ (n : ℕ). filter is_word (take n (b ∷ text) ∷ split.others) ≡ take n (b ∷ text) ∷ filter is_word split.others)
    (sym one) refl in
    ap (filter is_word) split.parts ∙ kept ∙ ap (λ (w : List ℕ). w ∷ filter is_word split.others) (sym word)
    ∙ ap (λ (ws : Words). first_word (b ∷ text) ∷ ws) (split.words ∙ sym rest)

is_empty : (text : List ℕ) → length text == 0 ≡ true → words_of text ≡ []
unfolding words_of
is_empty [] e = refl
is_empty (b ∷ text) e = absurd (let long : length (b ∷ text) ≡ 0 = eqb-true _ 0 e in omega arith)

is_long : (text : List ℕ) → length text == 0 ≡ false → 0 < length text
is_long [] e = absurd (let bad : true ≡ false = e in cc)
is_long (b ∷ text) e = omega arith

pub none_is : (text behind : List ℕ) → behind ≡ behind_blanks text → length behind == 0 ≡ true → words_of text ≡ []
none_is text behind b e =
    sym (words_of-behind_blanks text) ∙ is_empty (behind_blanks text) (subst (λ (x : List ℕ). length x == 0 ≡ true) b e)

pub cut_is : (text behind word rest : List ℕ) → behind ≡ behind_blanks text → length behind == 0 ≡ false
    → word ≡ first_word behind → rest ≡ rest_behind_word behind → words_of text ≡ word ∷ words_of rest
cut_is text behind word rest b e w r =
    sym (words_of-behind_blanks text) ∙ ap words_of (sym b)
    ∙ words_of-first behind (subst StartsWord (sym b) (behind_blanks-starts text)) (is_long behind e)
    ∙ ap (λ (x : List ℕ). x ∷ words_of (rest_behind_word behind)) (sym w)
    ∙ ap (λ (x : List ℕ). word ∷ words_of x) (sym r)

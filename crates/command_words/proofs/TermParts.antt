-- What is read as the terms of a game is what the words spell.
use Rattle.std.proofs.Common.{◌≡◌, ◌≢◌, ℕ, Bool, true, false, cond, List, [], ◌∷◌, ◌++◌, refl, sym, ap, subst, ◌∙◌, append-nil, arith, Some, None, inl, inr}
use Rattle.std.specs.Prelude.{Option, option_map, bytes_eq, codes, decimal}
use Rattle.std.proofs.lemmas.Slice.Eq.{bytes_eq-Decides}
use Rattle.chess_model.specs.declared.man.Colour.{Colour}
use Rattle.chess_model.specs.declared.man.Colour.TheVariants.{White, Black}
use Rattle.chess_model.specs.declared.variant.Terms.{Terms}
use Rattle.chess_model.specs.declared.variant.Variant.{Variant}
use Rattle.chess_model.specs.declared.variant.Variant.TheVariants.{Chess, Crazyhouse, Bughouse, Fischer}
use Rattle.chess_model.specs.VariantWord.{IsNumbered, word_of}
use Rattle.command_words.specs.declared.terms.Time.{Time}
use Rattle.command_words.specs.Blanks.{Words}
use Rattle.command_words.specs.Numbers.{number_within}
use Rattle.command_words.specs.TermWords.{OneOfWords, SpellsTime, SpellsTerms, unrated_words, variant_words, colour_words, time_of}
use Rattle.command_words.specs.TermReading.{told_or_default, in_one_word, array_named, from_array, leading_variant, leading, times_read, leading_time, behind_unrated, meaning_in, variants, colours, variant_of, colour_of, asked_colour, with_none_left, agreed_terms, terms_of, AreReadAsSpelled}
use Rattle.command_words.proofs.Decimals.{number_of-decimal, number_of-spelled}

same : (word other : List ℕ) → bytes_eq word other ≡ true → word ≡ other
same word other e = (bytes_eq-Decides word other).0 e

-- ---- tables of words

-- a property of each row of a table
abbrev AllRows : {V : Type 0} → (List ℕ → V → Type 0) → List (List ℕ × V) → Type 0
AllRows P [] = Unit {0}
AllRows P (row ∷ rows) = P row.0 row.1 × AllRows P rows

meaning_in-all : {V : Type 0} (P : List ℕ → V → Type 0) (rows : List (List ℕ × V)) (word : List ℕ) (v : V)
    → AllRows P rows → meaning_in rows word ≡ Some v → P word v
meaning_in-all P [] word v all e = absurd (let bad : None ≡ Some v = e in cc)
meaning_in-all P (row ∷ rows) word v all e =
    elim (bytes_eq word row.0)
    as (λ t. bytes_eq word row.0 ≡ t → cond t (Some row.1) (meaning_in rows word) ≡ Some v → P word v) [
      | true ↦ λ is found.
          let means : row.1 ≡ v = cc in
          subst (λ (x : List ℕ). P x v) (sym (same word row.0 is)) (subst (P row.0) means all.0)
      | false ↦ λ is found. meaning_in-all P rows word v all.1 found
    ] refl e

variant_spelled : (word : List ℕ) (v : Variant) → variant_of word ≡ Some v → word ≡ word_of v
variant_spelled word v e = meaning_in-all (λ word v. word ≡ word_of v) variants word v (refl, (refl, (refl, tt))) e

-- the tests of a word say which variant it names
pub variant_named : (word : List ℕ) (v : Variant) → word ≡ word_of v → in_one_word v ≡ variant_of word
variant_named word Chess e = sym (ap variant_of e)
variant_named word Crazyhouse e = sym (ap variant_of e)
variant_named word Bughouse e = sym (ap variant_of e)
variant_named word (Fischer number) e = sym (ap variant_of e)

pub variant_unnamed : (word : List ℕ) → ((v : Variant) → word ≢ word_of v) → None ≡ variant_of word
variant_unnamed word none =
    elim (variant_of word) as (λ o. variant_of word ≡ o → None ≡ o) [
      | None ↦ λ e. refl
      | Some v ↦ λ e. absurd (none v (variant_spelled word v e))
    ] refl

-- ---- what is read is what the words spell

-- the words are these first ones, which spell something, and then the rest
record Front (words rest : Words) (P : Words → Type 0) : Type 0 where
  front : Words
  split : words ≡ front ++ rest
  fits : P front

leading-front : {V : Type 0} (meaning : List ℕ → Option V) (absent : V) (P : V → Words → Type 0) → P absent []
    → ((word : List ℕ) (v : V) → meaning word ≡ Some v → P v (word ∷ [])) → (words : Words)
    → Front words (leading meaning absent words).1 (P (leading meaning absent words).0)
leading-front meaning absent P none some [] = record { front = []; split = refl; fits = none }
leading-front meaning absent P none some (word ∷ words) =
    elim (meaning word)
    as (λ o.
    meaning word ≡ o
    → Front (word ∷ words) (told_or_default absent o (word ∷ words) words).1
    (P (told_or_default absent o (word ∷ words) words).0)) [
      | None ↦ λ e. record { front = []; split = refl; fits = none }
      | Some v ↦ λ e. record { front = word ∷ []; split = refl; fits = some word v e }
    ] refl

variant_word : (word : List ℕ) (v : Variant) → variant_of word ≡ Some v → OneOfWords (variant_words v) (word ∷ [])
variant_word word v e =
    meaning_in-all (λ word v. OneOfWords (variant_words v) (word ∷ [])) variants word v
    (inr (inl refl), (inl refl, (inl refl, tt))) e

-- the words spell the variant
abbrev SpellsVariant : Variant → Words → Type 0
SpellsVariant v words = OneOfWords (variant_words v) words × IsNumbered v

numbered_word : (word : List ℕ) (v : Variant) → variant_of word ≡ Some v → IsNumbered v
numbered_word word v e = meaning_in-all (λ word v. IsNumbered v) variants word v (tt, (tt, (tt, tt))) e

named-front : (words : Words)
    → Front words (leading variant_of Chess words).1 (SpellsVariant (leading variant_of Chess words).0)
named-front words =
    leading-front variant_of Chess SpellsVariant (inl refl, tt)
    (λ word v e. (variant_word word v e, numbered_word word v e)) words

array-front : (word number : List ℕ) (words : Words) (o : Option ℕ) → array_named word number ≡ o →
    Front (word ∷ number ∷ words) (from_array o (word ∷ number ∷ words) words).1
    (SpellsVariant (from_array o (word ∷ number ∷ words) words).0)
array-front word number words None e = named-front (word ∷ number ∷ words)
array-front word number words (Some n) e =
    elim (bytes_eq word
    (codes "fischer")) as (λ t. bytes_eq word (codes "fischer") ≡ t → cond t (number_within 959 number) None ≡ Some n →
    Front (word ∷ number ∷ words) words (SpellsVariant (Fischer n))) [
      | true ↦ λ is read.
          let spelled = number_of-spelled 959 number n (omega arith) read in
          let both : word ∷ number ∷ [] ≡ codes "fischer" ∷ decimal n ∷ [] =
          ap (λ (w : List ℕ). w ∷ number ∷ [])
          (same word (codes "fischer") is) ∙ ap (λ (w : List ℕ). codes "fischer" ∷ w ∷ []) spelled.0 in
          record { front = word ∷ number ∷ []; split = refl; fits = (inl both, omega (arith, spelled.1)) }
      | false ↦ λ is read. absurd (let bad : None ≡ Some n = read in cc)
    ] refl e

variant-front : (words : Words) → Front words (leading_variant words).1 (SpellsVariant (leading_variant words).0)
variant-front [] = record { front = []; split = refl; fits = (inl refl, tt) }
variant-front (word ∷ []) = named-front (word ∷ [])
variant-front (word ∷ number ∷ words) = array-front word number words (array_named word number) refl

colour_word : (word : List ℕ) (c : Colour) → colour_of word ≡ Some c → OneOfWords (colour_words (Some c)) (word ∷ [])
colour_word word c e =
    meaning_in-all (λ word c. OneOfWords (colour_words (Some c)) (word ∷ [])) colours word c
    (inl refl, (inr (inl refl), (inl refl, (inr (inl refl), tt)))) e

asked_from : (found : Option Colour) (asked : Option Colour) (P : Option Colour → Type 0)
    → option_map Some found ≡ Some asked
    → ((c : Colour) → found ≡ Some c → P (Some c)) → P asked
asked_from None asked P e holds = absurd (let bad : None ≡ Some asked = e in cc)
asked_from (Some c) asked P e holds = let inner : Some c ≡ asked = cc in subst P inner (holds c refl)

asked_word : (word : List ℕ) (asked : Option Colour) → asked_colour word ≡ Some asked
    → OneOfWords (colour_words asked) (word ∷ [])
asked_word word asked e =
    asked_from (colour_of word) asked (λ k. OneOfWords (colour_words k) (word ∷ [])) e (colour_word word)

colour-front : (words : Words)
    → Front words (leading asked_colour None words).1 (OneOfWords (colour_words (leading asked_colour None words).0))
colour-front words =
    leading-front asked_colour None (λ k ws. OneOfWords (colour_words k) ws) (inl refl) asked_word words

unrated-front : (words : Words) → Front words (behind_unrated words) (OneOfWords unrated_words)
unrated-front [] = record { front = []; split = refl; fits = inl refl }
unrated-front (word ∷ words) =
    elim (bytes_eq word
    (codes "unrated"))
    as (λ t.
    bytes_eq word
    (codes "unrated") ≡ t → Front (word ∷ words) (cond t words (word ∷ words)) (OneOfWords unrated_words)) [
      | true ↦ λ is.
          record {
            front = word ∷ [];
            split = refl;
            fits = inr (inl (ap (λ (w : List ℕ). w ∷ []) (same word (codes "unrated") is)));
          }
      | false ↦ λ is. record { front = []; split = refl; fits = inl refl }
    ] refl

timed-front : (usual : Time) (minutes increment : List ℕ) (words : Words) (m i : Option ℕ)
    → number_within 600 minutes ≡ m
    → number_within 600 increment ≡ i
    → Front (minutes ∷ increment ∷ words) (times_read usual m i (minutes ∷ increment ∷ words) words).1
    (λ front. SpellsTime usual front (times_read usual m i (minutes ∷ increment ∷ words) words).0)
timed-front usual minutes increment words (Some m) (Some i) e f =
    let first = number_of-spelled 600 minutes m (omega arith) e in
    let second = number_of-spelled 600 increment i (omega arith) f in
    record {
      front = minutes ∷ increment ∷ [];
      split = refl;
      fits =
          inl (
            first.1,
            second.1,
            ap (λ (w : List ℕ). w ∷ increment ∷ []) first.0 ∙ ap (λ (w : List ℕ). decimal m ∷ w ∷ []) second.0,
          );
    }
timed-front usual minutes increment words (Some m) None e f =
    record { front = []; split = refl; fits = inr (refl, refl) }
timed-front usual minutes increment words None i e f = record { front = []; split = refl; fits = inr (refl, refl) }

time-front : (usual : Time) (words : Words)
    → Front words (leading_time usual words).1 (λ front. SpellsTime usual front (leading_time usual words).0)
time-front usual [] = record { front = []; split = refl; fits = inr (refl, refl) }
time-front usual (word ∷ []) = record { front = []; split = refl; fits = inr (refl, refl) }
time-front usual (minutes ∷ increment ∷ words) =
    timed-front usual minutes increment words (number_within 600 minutes) (number_within 600 increment) refl refl

none_left : (terms wanted : Terms) (words : Words) → with_none_left terms words ≡ Some wanted
    → (words ≡ []) × (terms ≡ wanted)
none_left terms wanted [] e = (refl, let same : terms ≡ wanted = cc in same)
none_left terms wanted (word ∷ words) e = absurd (let bad : None ≡ Some wanted = e in cc)

read-spells : (usual : Time) (words : Words) (terms : Terms) → terms_of usual words ≡ Some terms
    → SpellsTerms usual words terms
unfolding terms_of
read-spells usual words terms e =
    let t = time-front usual words in
    let u = unrated-front (leading_time usual words).1 in
    let v = variant-front (behind_unrated (leading_time usual words).1) in
    let c = colour-front (leading_variant (behind_unrated (leading_time usual words).1)).1 in
    let ended = none_left _ terms _ e in
    let spelled : SpellsTerms usual words
    (agreed_terms (leading_time usual words).0 (leading_variant (behind_unrated (leading_time usual words).1)).0
    (leading asked_colour None (leading_variant (behind_unrated (leading_time usual words).1)).1).0) = record {
      time = t.front;
      unrated = u.front;
      variant = v.front;
      colour = c.front;
      parts =
          t.split
          ∙ ap (λ (w : Words). t.front ++ w)
          (u.split ∙ ap (λ (w : Words). u.front ++ w) (v.split ∙ ap (λ (w : Words). v.front ++ w)
          (c.split ∙ ap (λ (w : Words). c.front ++ w) ended.0 ∙ append-nil c.front)));
      spells_time = t.fits;
      may_be_unrated = u.fits;
      numbered = v.fits.1;
      spells_variant = v.fits.0;
      spells_colour = c.fits;
    } in
    subst (SpellsTerms usual words) ended.1 spelled

-- ---- what words spell is read

colour_cases : (P : Words → Type 0) (asked : Option Colour) (words : Words) → OneOfWords (colour_words asked) words
    → P [] → P (codes "white" ∷ []) → P (codes "w" ∷ []) → P (codes "black" ∷ []) → P (codes "b" ∷ []) → P words
colour_cases P None words (inl e) none white w black b = subst P (sym e) none
colour_cases P None words (inr e) none white w black b = absurd e
colour_cases P (Some White) words (inl e) none white w black b = subst P (sym e) white
colour_cases P (Some White) words (inr (inl e)) none white w black b = subst P (sym e) w
colour_cases P (Some White) words (inr (inr e)) none white w black b = absurd e
colour_cases P (Some Black) words (inl e) none white w black b = subst P (sym e) black
colour_cases P (Some Black) words (inr (inl e)) none white w black b = subst P (sym e) b
colour_cases P (Some Black) words (inr (inr e)) none white w black b = absurd e

variant_cases : (P : Words → Type 0) (v : Variant) (words : Words) → OneOfWords (variant_words v) words
    → P [] → P (word_of Chess ∷ []) → P (word_of Crazyhouse ∷ []) → P (word_of Bughouse ∷ [])
    → ((n : ℕ) → P (codes "fischer" ∷ decimal n ∷ [])) → P words
variant_cases P Chess words (inl e) none chess crazyhouse bughouse fischer = subst P (sym e) none
variant_cases P Chess words (inr (inl e)) none chess crazyhouse bughouse fischer = subst P (sym e) chess
variant_cases P Chess words (inr (inr e)) none chess crazyhouse bughouse fischer = absurd e
variant_cases P Crazyhouse words (inl e) none chess crazyhouse bughouse fischer = subst P (sym e) crazyhouse
variant_cases P Crazyhouse words (inr e) none chess crazyhouse bughouse fischer = absurd e
variant_cases P Bughouse words (inl e) none chess crazyhouse bughouse fischer = subst P (sym e) bughouse
variant_cases P Bughouse words (inr e) none chess crazyhouse bughouse fischer = absurd e
variant_cases P (Fischer n) words (inl e) none chess crazyhouse bughouse fischer = subst P (sym e) (fischer n)
variant_cases P (Fischer n) words (inr e) none chess crazyhouse bughouse fischer = absurd e

unrated_cases : (P : Words → Type 0) (words : Words) → OneOfWords unrated_words words → P [] → P (codes "unrated" ∷ [])
    → P words
unrated_cases P words (inl e) none unrated = subst P (sym e) none
unrated_cases P words (inr (inl e)) none unrated = subst P (sym e) unrated
unrated_cases P words (inr (inr e)) none unrated = absurd e

colour-again : (asked : Option Colour) (words : Words) → OneOfWords (colour_words asked) words
    → leading asked_colour None words ≡ (asked, [])
colour-again None words (inl e) = ap (leading asked_colour None) e
colour-again None words (inr e) = absurd e
colour-again (Some White) words (inl e) = ap (leading asked_colour None) e
colour-again (Some White) words (inr (inl e)) = ap (leading asked_colour None) e
colour-again (Some White) words (inr (inr e)) = absurd e
colour-again (Some Black) words (inl e) = ap (leading asked_colour None) e
colour-again (Some Black) words (inr (inl e)) = ap (leading asked_colour None) e
colour-again (Some Black) words (inr (inr e)) = absurd e

-- a word that isn't `fischer` names its variant by itself
by_itself : (word : List ℕ) (words : Words)
    → bytes_eq word (codes "fischer") ≡ false → leading_variant (word ∷ words) ≡ leading variant_of Chess (word ∷ words)
by_itself word [] other = refl
by_itself word (next ∷ words) other =
    ap (λ (t : Bool). from_array (cond t (number_within 959 next) None) (word ∷ next ∷ words) words) other

-- a colour's word is no variant's
variant-again : (v : Variant) (asked : Option Colour) (words colour : Words) → IsNumbered v
    → OneOfWords (variant_words v) words → OneOfWords (colour_words asked) colour
    → leading_variant (words ++ colour) ≡ (v, colour)
variant-again Chess asked words colour small (inl e) c =
    ap (λ (w : Words). leading_variant (w ++ colour)) e
    ∙ colour_cases (λ w. leading_variant w ≡ (Chess, w)) asked colour c refl refl refl refl refl
variant-again Chess asked words colour small (inr (inl e)) c =
    ap (λ (w : Words). leading_variant (w ++ colour)) e ∙ by_itself (word_of Chess) colour refl
variant-again Chess asked words colour small (inr (inr e)) c = absurd e
variant-again Crazyhouse asked words colour small (inl e) c =
    ap (λ (w : Words). leading_variant (w ++ colour)) e ∙ by_itself (word_of Crazyhouse) colour refl
variant-again Crazyhouse asked words colour small (inr e) c = absurd e
variant-again Bughouse asked words colour small (inl e) c =
    ap (λ (w : Words). leading_variant (w ++ colour)) e ∙ by_itself (word_of Bughouse) colour refl
variant-again Bughouse asked words colour small (inr e) c = absurd e
variant-again (Fischer n) asked words colour small (inl e) c =
    ap (λ (w : Words). leading_variant (w ++ colour)) e
    ∙ ap (λ (o : Option ℕ). from_array o (codes "fischer" ∷ decimal n ∷ colour) colour)
    (number_of-decimal 959 n (omega (arith, small)) (omega arith))
variant-again (Fischer n) asked words colour small (inr e) c = absurd e

-- a variant's word and a colour's aren't `unrated`
unrated-again : (v : Variant) (asked : Option Colour) (words variant colour : Words) → OneOfWords unrated_words words
    → OneOfWords (variant_words v) variant
    → OneOfWords (colour_words asked) colour → behind_unrated (words ++ (variant ++ colour)) ≡ variant ++ colour
unrated-again v asked words variant colour u vs c =
    unrated_cases (λ w. behind_unrated (w ++ (variant ++ colour)) ≡ variant ++ colour) words u
    (variant_cases (λ w. behind_unrated (w ++ colour) ≡ w ++ colour) v variant vs
    (colour_cases (λ w. behind_unrated w ≡ w) asked colour c refl refl refl refl refl) refl refl refl (λ n. refl))
    refl

-- none of these words is a number
no_number : (usual : Time) (word : List ℕ) (words : Words) → number_within 600 word ≡ None
    → leading_time usual (word ∷ words) ≡ (usual, word ∷ words)
no_number usual word [] e = refl
no_number usual word (next ∷ words) e =
    ap (λ (o : Option ℕ). times_read usual o (number_within 600 next) (word ∷ next ∷ words) words) e

no_time : (usual : Time) (v : Variant) (asked : Option Colour) (words variant colour : Words)
    → OneOfWords unrated_words words → OneOfWords (variant_words v) variant
    → OneOfWords (colour_words asked) colour
    → leading_time usual (words ++ (variant ++ colour)) ≡ (usual, words ++ (variant ++ colour))
unfolding number_within
no_time usual v asked words variant colour u vs c =
    unrated_cases (λ w. leading_time usual (w ++ (variant ++ colour)) ≡ (usual, w ++ (variant ++ colour))) words u
    (variant_cases (λ w. leading_time usual (w ++ colour) ≡ (usual, w ++ colour)) v variant vs
    (colour_cases (λ w. leading_time usual w ≡ (usual, w)) asked colour c refl refl refl refl refl)
    (no_number usual (word_of Chess) colour refl) (no_number usual (word_of Crazyhouse) colour refl)
    (no_number usual (word_of Bughouse) colour refl)
    (λ n. no_number usual (codes "fischer") (decimal n ∷ colour) refl))
    (no_number usual (codes "unrated") (variant ++ colour) refl)

time-again : (usual time : Time) (words rest : Words) → SpellsTime usual words time
    → leading_time usual rest ≡ (usual, rest)
    → leading_time usual (words ++ rest) ≡ (time, rest)
time-again usual time words rest (inl (m, i, e)) none =
    ap (λ (w : Words). leading_time usual (w ++ rest)) e
    ∙ ap
    (λ (o : Option ℕ).
    times_read usual o (number_within 600 (decimal time.increment))
    (decimal time.minutes ∷ decimal time.increment ∷ rest) rest)
    (number_of-decimal 600 time.minutes m (omega arith))
    ∙ ap
    (λ (o : Option ℕ).
    times_read usual (Some time.minutes) o (decimal time.minutes ∷ decimal time.increment ∷ rest) rest)
    (number_of-decimal 600 time.increment i (omega arith))
time-again usual time words rest (inr (e, usually)) none =
    ap (λ (w : Words). leading_time usual (w ++ rest)) e ∙ none ∙ ap (λ (t : Time). (t, rest)) (sym usually)

-- the four parts, read one behind another
pub parts_are_terms : (usual time : Time) (words unrated variant_words' colour_words' left : Words) (variant : Variant)
    (colour : Option Colour)
    → (time, unrated) ≡ leading_time usual words → variant_words' ≡ behind_unrated unrated
    → (variant, colour_words') ≡ leading_variant variant_words'
    → (colour, left) ≡ leading asked_colour None colour_words'
    → with_none_left (agreed_terms time variant colour) left ≡ terms_of usual words
unfolding terms_of
parts_are_terms usual time words unrated variant_words' colour_words' left variant colour t u v c =
    ap (λ (p : Option Colour × Words). with_none_left (agreed_terms time variant p.0) p.1) c
    ∙ ap
    (λ (p : Variant × Words).
    with_none_left (agreed_terms time p.0 (leading asked_colour None p.1).0) (leading asked_colour None p.1).1)
    v
    ∙ ap
    (λ (w : Words).
    with_none_left (agreed_terms time (leading_variant w).0 (leading asked_colour None (leading_variant w).1).0)
    (leading asked_colour None (leading_variant w).1).1) u
    ∙ ap (λ (p : Time × Words). with_none_left (agreed_terms p.0 (leading_variant (behind_unrated p.1)).0
    (leading asked_colour None (leading_variant (behind_unrated p.1)).1).0)
    (leading asked_colour None (leading_variant (behind_unrated p.1)).1).1) t

spelled-read : (usual : Time) (words : Words) (terms : Terms) → SpellsTerms usual words terms
    → terms_of usual words ≡ Some terms
spelled-read usual words terms s =
    let whole : Words = s.time ++ (s.unrated ++ (s.variant ++ s.colour)) in
    let none =
    no_time usual terms.variant terms.colour s.unrated s.variant s.colour s.may_be_unrated s.spells_variant
    s.spells_colour in
    let t = time-again usual (time_of terms) s.time (s.unrated ++ (s.variant ++ s.colour)) s.spells_time none in
    let u =
    unrated-again terms.variant terms.colour s.unrated s.variant s.colour s.may_be_unrated s.spells_variant
    s.spells_colour in
    let v = variant-again terms.variant terms.colour s.variant s.colour s.numbered s.spells_variant s.spells_colour in
    let c = colour-again terms.colour s.colour s.spells_colour in
    ap (terms_of usual) s.parts
    ∙ sym
    (parts_are_terms usual (time_of terms) whole (s.unrated ++ (s.variant ++ s.colour)) (s.variant ++ s.colour) s.colour
    [] terms.variant terms.colour
    (sym t) (sym u) (sym v) (sym c))

pub are_read_as_spelled : AreReadAsSpelled
are_read_as_spelled = λ usual words terms. (read-spells usual words terms, spelled-read usual words terms)

-- How the words of a seat line come apart, and when names are different.
use Rattle.std.proofs.Common.{◌≡◌, ◌≢◌, ℕ, ◌%◌, ◌^◌, ◌<◌, ◌≤◌, List, [], ◌∷◌, ◌++◌, length, take, get_or, refl, sym, ◌∙◌, ap, subst, arith, inl, inr}
use Rattle.std.specs.Prelude.{Option, decimal, codes, Any}
use Rattle.std.specs.List.{AllByRecursion, join_with_byte}
use Rattle.std.specs.Char.{IsAsciiAlphabetic}
use Rattle.std.proofs.lemmas.Fmt.{decimal_injective}
use Rattle.std.proofs.lemmas.List.{append_cancel_left, length-take, get_or-take, get_or_default}
use Rattle.std.proofs.lemmas.List.Elements.{recursion_from_All}
use Rattle.fics_words.specs.Handle.{IsHandle, key_of}
use Rattle.chess_model.specs.declared.man.Colour.{Colour}
use Rattle.chess_model.specs.declared.variant.Terms.{Terms}
use Rattle.chess_model.specs.declared.variant.Variant.{Variant}
use Rattle.chess_model.specs.declared.variant.Variant.TheVariants.{Chess, Crazyhouse, Bughouse, Fischer}
use Rattle.chess_model.specs.VariantWord.{IsNumbered, word_of}
use Rattle.replay_core.specs.declared.script.ScriptLine.{ScriptLine}
use Rattle.replay_core.specs.declared.seat_line.SeatLine.{SeatLine}
use Rattle.replay_core.specs.Script.{IsScriptLine, event_text, script_text}
use Rattle.replay_core.specs.SeatLine.{AreSeatTerms, IsSeatLine, terms_text, seat_text}
use Rattle.fics_words.specs.Blank.{blank}
use Rattle.replay_core.specs.Words.{IsWord, words_before}
use Rattle.replay_core.proofs.Cuts.{one_cut, one_number, decimal_is_word, handle_is_word}
use Rattle.fics_words.proofs.Digits.{IsDigit, digits_of_decimal}

-- one word more
pub words_before-push : (words : List (List ℕ)) (word rest : List ℕ)
    → words_before (words ++ word ∷ []) rest ≡ words_before words (word ++ blank ∷ rest)
words_before-push [] word rest = refl
words_before-push (first ∷ words) word rest =
    ap (λ (t : List ℕ). first ++ blank ∷ t) (words_before-push words word rest)

-- the words of the line: the first, the names, and the three behind them
pub seat_split : (first : List ℕ) (names : List (List ℕ)) (a b c : List ℕ)
    → join_with_byte blank (first ∷ (names ++ a ∷ b ∷ c ∷ []))
    ≡ first ++ blank ∷ words_before names (a ++ blank ∷ (b ++ blank ∷ c))
seat_split first [] a b c = refl
seat_split first (name ∷ names) a b c = ap (λ (t : List ℕ). first ++ blank ∷ t) (seat_split name names a b c)

-- no handle stands at the front
abbrev pub NoHandle : List ℕ → Type 0
NoHandle bytes = (name more : List ℕ) → IsHandle name → bytes ≢ name ++ blank ∷ more

digits_no_handle : (ds : List ℕ) → AllByRecursion IsDigit ds → IsHandle ds → ⊥
digits_no_handle [] h name = omega (arith, name.0)
digits_no_handle (d ∷ ds) h name =
    let letters = recursion_from_All IsAsciiAlphabetic (d ∷ ds) name.2 in
    elim letters.0 [ inl low ↦ omega arith | inr high ↦ omega arith ]

pub number_no_handle : (n : ℕ) (rest : List ℕ) → n < 2 ^ 64 → NoHandle (decimal n ++ blank ∷ rest)
number_no_handle n rest small name more h e =
    let one = one_cut (decimal n) name rest more (decimal_is_word n small) (handle_is_word name h) e in
    digits_no_handle (decimal n) (digits_of_decimal n small) (subst IsHandle (sym one.0) h)

-- the handles at the front of a text, and what follows them, are fixed by the text
pub one_run : (ns ms : List (List ℕ)) (x y : List ℕ) → AllByRecursion IsHandle ns → AllByRecursion IsHandle ms
    → NoHandle x → NoHandle y → words_before ns x ≡ words_before ms y → (ns ≡ ms) × (x ≡ y)
one_run [] [] x y p q f g e = (refl, e)
one_run [] (m ∷ ms) x y p q f g e = absurd (f m (words_before ms y) q.0 e)
one_run (n ∷ ns) [] x y p q f g e = absurd (g n (words_before ns x) p.0 (sym e))
one_run (n ∷ ns) (m ∷ ms) x y p q f g e =
    let cut = one_cut n m (words_before ns x) (words_before ms y) (handle_is_word n p.0) (handle_is_word m q.0) e in
    let rest = one_run ns ms x y p.1 q.1 f g cut.1 in
    let head = cut.0 in
    let tail = rest.0 in
    (cc, rest.1)

-- the player of the key isn't among the names before a place
pub not_before : (names : List (List ℕ)) (place : ℕ) (key : List ℕ) → place ≤ length names
    → (Any (λ name. key_of name ≡ key) (take place names) → ⊥) → (k : ℕ) (d : List ℕ) → k < place
    → key_of (get_or names k d) ≢ key
not_before names place key le none k d lt e =
    none (
      k,
      get_or names k d,
      omega (arith, length-take place names),
      get_or-take place names k (get_or names k d) lt ∙ get_or_default names k (get_or names k d) d (omega arith),
      e,
    )

-- ---- terms and seat lines

abbrev first_byte : List ℕ → ℕ
first_byte word = get_or word 0 0

-- the word of an array is fixed by the number, and no other variant's
one_array : (m n : ℕ) → m < 960 → n < 960 → word_of (Fischer m) ≡ word_of (Fischer n) → m ≡ n
one_array m n few less e =
    let digits : decimal (m % 960) ≡ decimal (n % 960) =
    append_cancel_left (codes "fischer ") (decimal (m % 960)) (decimal (n % 960)) e in
    let same : m % 960 ≡ n % 960 = decimal_injective (m % 960) (n % 960) (omega arith) (omega arith) digits in
    omega (arith, few, less, same)

pub one_variant : (v w : Variant) → IsNumbered v → IsNumbered w → word_of v ≡ word_of w → v ≡ w
one_variant Chess Chess p q e = refl
one_variant Chess Crazyhouse p q e = absurd cc
one_variant Chess Bughouse p q e = absurd cc
one_variant Chess (Fischer n) p q e = let first : 99 ≡ 102 = ap first_byte e in absurd (omega (arith, first))
one_variant Crazyhouse Chess p q e = absurd cc
one_variant Crazyhouse Crazyhouse p q e = refl
one_variant Crazyhouse Bughouse p q e = absurd cc
one_variant Crazyhouse (Fischer n) p q e = let first : 99 ≡ 102 = ap first_byte e in absurd (omega (arith, first))
one_variant Bughouse Chess p q e = absurd cc
one_variant Bughouse Crazyhouse p q e = absurd cc
one_variant Bughouse Bughouse p q e = refl
one_variant Bughouse (Fischer n) p q e = let first : 98 ≡ 102 = ap first_byte e in absurd (omega (arith, first))
one_variant (Fischer m) Chess p q e = let first : 102 ≡ 99 = ap first_byte e in absurd (omega (arith, first))
one_variant (Fischer m) Crazyhouse p q e = let first : 102 ≡ 99 = ap first_byte e in absurd (omega (arith, first))
one_variant (Fischer m) Bughouse p q e = let first : 102 ≡ 98 = ap first_byte e in absurd (omega (arith, first))
one_variant (Fischer m) (Fischer n) p q e = ap (λ (k : ℕ). Fischer k) (one_array m n p q e)

same_terms : (a b : Terms) → a.minutes ≡ b.minutes → a.increment ≡ b.increment → a.variant ≡ b.variant
    → a.colour ≡ b.colour → a ≡ b
same_terms a b minutes increment variant colour =
    ap (λ (n : ℕ). record a { minutes = n }) minutes
    ∙ ap (λ (n : ℕ). record a { minutes = b.minutes; increment = n }) increment
    ∙ ap (λ (v : Variant). record a { minutes = b.minutes; increment = b.increment; variant = v }) variant
    ∙ ap (λ (c : Option Colour). record b { colour = c }) colour

pub one_terms : (a b : Terms) → AreSeatTerms a → AreSeatTerms b → terms_text a ≡ terms_text b → a ≡ b
one_terms a b p q e =
    let minutes =
    one_number a.minutes b.minutes (decimal a.increment ++ blank ∷ word_of a.variant)
    (decimal b.increment ++ blank ∷ word_of b.variant) (omega (arith, p.minutes)) (omega (arith, q.minutes)) e in
    let increment =
    one_number a.increment b.increment (word_of a.variant) (word_of b.variant) (omega (arith, p.increment))
    (omega (arith, q.increment)) minutes.1 in
    let variant = one_variant a.variant b.variant p.numbered q.numbered increment.1 in
    same_terms a b minutes.0 increment.0 variant (p.white ∙ sym q.white)

pub terms_no_handle : (terms : Terms) → AreSeatTerms terms → NoHandle (terms_text terms)
terms_no_handle terms h =
    number_no_handle terms.minutes (decimal terms.increment ++ blank ∷ word_of terms.variant) (omega (arith, h.minutes))

-- the names and the terms behind the first word are those of the line
pub one_seat : (seat : SeatLine) → IsSeatLine seat → (rest : List ℕ) (names : List (List ℕ)) (tail : List ℕ)
    → codes "seat" ++ blank ∷ rest ≡ seat_text seat → rest ≡ words_before names tail → AllByRecursion IsHandle names
    → NoHandle tail → (names ≡ seat.names) × (tail ≡ terms_text seat.terms)
one_seat seat h rest names tail line parts handles end =
    let split =
    seat_split (codes "seat") seat.names (decimal seat.terms.minutes) (decimal seat.terms.increment)
    (word_of seat.terms.variant) in
    let both : codes "seat" ++ blank ∷ rest ≡ codes "seat" ++ blank ∷ words_before seat.names (terms_text seat.terms) =
    line ∙ split in
    let same : rest ≡ words_before seat.names (terms_text seat.terms) = cc in
    one_run names seat.names tail (terms_text seat.terms) handles (recursion_from_All IsHandle seat.names h.handles) end
    (terms_no_handle seat.terms h.terms) (sym parts ∙ same)

same_seat : (one other : SeatLine) → one.names ≡ other.names → one.terms ≡ other.terms → one ≡ other
same_seat one other names terms =
    ap (λ (ns : List (List ℕ)). record one { names = ns }) names
    ∙ ap (λ (t : Terms). record other { terms = t }) terms

-- a seat line is fixed by how it is written
pub one_seat_line : (one other : SeatLine) → IsSeatLine one → IsSeatLine other → seat_text one ≡ seat_text other
    → one ≡ other
one_seat_line one other p q e =
    let split =
    seat_split
    (codes "seat") one.names (decimal one.terms.minutes) (decimal one.terms.increment) (word_of one.terms.variant) in
    let parts =
    one_seat other q (words_before one.names (terms_text one.terms)) one.names (terms_text one.terms) (sym split ∙ e)
    refl (recursion_from_All IsHandle one.names p.handles) (terms_no_handle one.terms p.terms) in
    same_seat one other parts.0 (one_terms one.terms other.terms p.terms q.terms parts.1)

-- the first word of a seat line is no decimal
pub seat_apart : (seat : SeatLine) (line : ScriptLine) → IsSeatLine seat → IsScriptLine line
    → seat_text seat ≢ script_text line
seat_apart seat line h p e =
    let split =
    seat_split (codes "seat") seat.names (decimal seat.terms.minutes) (decimal seat.terms.increment)
    (word_of seat.terms.variant) in
    let small : line.moment < 2 ^ 64 = omega (arith, p.moment) in
    let word : IsWord
    (codes "seat") = (λ e. omega arith, (λ e. omega arith, (λ e. omega arith, (λ e. omega arith, tt)))) in
    let cut =
    one_cut (codes "seat") (decimal line.moment) (words_before seat.names (terms_text seat.terms))
    (decimal line.session ++ blank ∷ event_text line.event) word (decimal_is_word line.moment small) (sym split ∙ e) in
    let digits = subst (AllByRecursion IsDigit) (sym cut.0) (digits_of_decimal line.moment small) in
    omega (arith, digits.0)

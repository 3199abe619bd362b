-- The lines that the lobby writes are lines: they are printable and short.
use Rattle.std.proofs.Common.{◌≡◌, ℕ, ◌+◌, ◌%◌, ◌<◌, ◌≤◌, ◌^◌, Bool, true, List, [], ◌∷◌, ◌++◌, Option, None, Some, length, take, get_or, codes, decimal, refl, sym, ap, ◌∙◌, subst, inl, inr, arith, rules, tests, length-append, ◌&&◌, leb}
use Rattle.std.specs.Prelude.{All}
use Rattle.std.specs.Char.{IsAsciiAlphabetic}
use Rattle.std.specs.List.{list_all}
use Rattle.std.proofs.lemmas.Fmt.{decimal_is_IsNumeral, length-decimal-le}
use Rattle.std.proofs.lemmas.Str.Parse.{digit_at}
use Rattle.std.proofs.lemmas.List.{flat_map_more, get_or_default, take_more}
use Rattle.std.proofs.lemmas.List.Elements.{All-append}
use Rattle.std.proofs.lemmas.List.Sums.{AllPass-from_list_all}
use Rattle.chess_model.specs.declared.man.Colour.{Colour}
use Rattle.chess_model.specs.declared.man.Colour.TheVariants.{White, Black}
use Rattle.chess_model.specs.declared.variant.Terms.{Terms}
use Rattle.chess_model.specs.declared.variant.Variant.{Variant}
use Rattle.chess_model.specs.declared.variant.Variant.TheVariants.{Chess, Crazyhouse, Bughouse, Fischer}
use Rattle.chess_model.specs.VariantWord.{word_of}
use Rattle.fics_words.specs.Handle.{IsHandle}
use Rattle.fics_words.specs.Line.{IsLine, IsPrintable}
use Rattle.lobby_state.specs.declared.acts.pending.ChallengeSide.{ChallengeSide}
use Rattle.lobby_state.specs.declared.acts.pending.ChallengeSide.TheVariants.{FromOthers, ToOthers}
use Rattle.lobby_state.specs.Games.{board_words}
use Rattle.lobby_state.specs.Match.{challenge_words}
use Rattle.lobby_state.specs.Partner.{partner_words}
use Rattle.lobby_state.specs.Pending.{pending_words, side_words}
use Rattle.lobby_state.specs.Post.{seek_words}
use Rattle.lobby_state.specs.Resumed.{resume_words}
use Rattle.lobby_state.specs.Said.{IsText, IsWording, spoken_line}
use Rattle.lobby_state.specs.Sought.{sought_words}
use Rattle.lobby_state.specs.Stored.{names_words, stored_words}
use Rattle.lobby_state.specs.TellChannel.{channel_words}
use Rattle.lobby_state.specs.TermsText.{colour_words, terms_words}
use Rattle.seek_match.specs.declared.seek.Seek.{Seek}

-- at most so many bytes, all of them printable
pub record IsPrinted (most : ℕ) (text : List ℕ) : Type 0 where
  pub short : length text ≤ most
  pub shows : All IsPrintable text

IsPrinted-append : (m n : ℕ) (front back : List ℕ) → IsPrinted m front → IsPrinted n back
    → IsPrinted (m + n) (front ++ back)
IsPrinted-append m n front back f b = record {
  short = omega (arith, length-append front back, f.short, b.short);
  shows = All-append IsPrintable front back f.shows b.shows;
}

abbrev in_range : ℕ → Bool
in_range byte = leb 32 byte && leb byte 126

in_range-holds : (byte : ℕ) → in_range byte ≡ true → IsPrintable byte
in_range-holds byte h = (search (rules, tests), search (rules, tests))

IsPrinted-from_test : (most : ℕ) (text : List ℕ) → length text ≤ most → list_all in_range text ≡ true
    → IsPrinted most text
IsPrinted-from_test most text short h = record {
  short = short;
  shows = λ k d inside. in_range-holds _ (AllPass-from_list_all in_range text h k d inside);
}

pub IsPrintable-digit : (byte : ℕ) → (48 ≤ byte) × (byte ≤ 57) → IsPrintable byte
IsPrintable-digit byte h = (omega arith, omega arith)

IsPrinted-decimal : (n : ℕ) → n < 2 ^ 16 → IsPrinted 5 (decimal n)
IsPrinted-decimal n small = record {
  short = length-decimal-le 5 n (omega arith) (omega arith) (omega arith);
  shows = λ k d inside.
      let fits : n < 2 ^ 64 = omega arith in
      subst IsPrintable (get_or_default (decimal n) k 0 d inside)
      (IsPrintable-digit _ (digit_at (decimal n) k (decimal_is_IsNumeral n fits).0.1 inside));
}

pub IsPrintable-letter : (byte : ℕ) → IsAsciiAlphabetic byte → IsPrintable byte
IsPrintable-letter byte (inl upper) = (omega (arith, upper), omega (arith, upper))
IsPrintable-letter byte (inr lower) = (omega (arith, lower), omega (arith, lower))

pub IsPrinted-handle : (name : List ℕ) → IsHandle name → IsPrinted 17 name
IsPrinted-handle name h = record { short = h.1; shows = λ k d inside. IsPrintable-letter _ (h.2 k d inside) }

IsPrinted-array : (n : ℕ) → n < 960 → IsPrinted 3 (decimal n)
IsPrinted-array n small = record {
  short = length-decimal-le 3 n (omega arith) (omega (arith, small)) (omega (arith, small));
  shows = (IsPrinted-decimal n (omega (arith, small))).shows;
}

IsPrinted-variant : (variant : Variant) → IsPrinted 11 (word_of variant)
IsPrinted-variant Chess = IsPrinted-from_test 11 (word_of Chess) (omega arith) refl
IsPrinted-variant Crazyhouse = IsPrinted-from_test 11 (word_of Crazyhouse) (omega arith) refl
IsPrinted-variant Bughouse = IsPrinted-from_test 11 (word_of Bughouse) (omega arith) refl
IsPrinted-variant (Fischer number) =
    IsPrinted-append 8 3 _ _
    (IsPrinted-from_test 8 (codes "fischer ") (omega arith) refl) (IsPrinted-array (number % 960) (omega arith))

IsPrinted-colour : (colour : Option Colour) → IsPrinted 6 (colour_words colour)
IsPrinted-colour None = IsPrinted-from_test 6 (colour_words None) (omega arith) refl
IsPrinted-colour (Some White) = IsPrinted-from_test 6 (colour_words (Some White)) (omega arith) refl
IsPrinted-colour (Some Black) = IsPrinted-from_test 6 (colour_words (Some Black)) (omega arith) refl

IsPrinted-blank : IsPrinted 1 (codes " ")
IsPrinted-blank = IsPrinted-from_test 1 (codes " ") (omega arith) refl

IsPrinted-front : IsPrinted 11 (codes "Challenge: ")
IsPrinted-front = IsPrinted-from_test 11 (codes "Challenge: ") (omega arith) refl

pub IsPrinted-terms_words : (terms : Terms) → terms.minutes < 2 ^ 16 → terms.increment < 2 ^ 16
    → IsPrinted 29 (terms_words terms)
IsPrinted-terms_words terms minutes increment =
    let join = IsPrinted-append in
    join 23 6 _ _
    (join 12 11 _ _
    (join 11 1 _ _ (join 6 5 _ _ (join 5 1 _ _ (IsPrinted-decimal terms.minutes minutes) IsPrinted-blank)
    (IsPrinted-decimal terms.increment increment)) IsPrinted-blank) (IsPrinted-variant terms.variant))
    (IsPrinted-colour terms.colour)

pub IsPrinted-challenge_words : (name : List ℕ) (terms : Terms) → IsHandle name → terms.minutes < 2 ^ 16
    → terms.increment < 2 ^ 16
    → IsPrinted 58 (challenge_words name terms)
IsPrinted-challenge_words name terms h minutes increment =
    let join = IsPrinted-append in
    join 29 29 _ _ (join 28 1 _ _ (join 11 17 _ _ IsPrinted-front (IsPrinted-handle name h)) IsPrinted-blank)
    (IsPrinted-terms_words terms minutes increment)

pub IsLine-challenge_words : (name : List ℕ) (terms : Terms) → IsHandle name → terms.minutes < 2 ^ 16
    → terms.increment < 2 ^ 16
    → IsLine (challenge_words name terms)
IsLine-challenge_words name terms h minutes increment =
    let printed = IsPrinted-challenge_words name terms h minutes increment in
    (omega (arith, printed.short), printed.shows)

pub IsPrinted-sought_words : (name : List ℕ) (seek : Seek) → IsPrinted 17 name → seek.number < 2 ^ 16
    → seek.terms.minutes < 2 ^ 16 → seek.terms.increment < 2 ^ 16
    → IsPrinted 53 (sought_words name seek)
IsPrinted-sought_words name seek h number minutes increment =
    let join = IsPrinted-append in
    join 24 29 _ _
    (join 23 1 _ _ (join 6 17 _ _ (join 5 1 _ _ (IsPrinted-decimal seek.number number) IsPrinted-blank) h)
    IsPrinted-blank)
    (IsPrinted-terms_words seek.terms minutes increment)

IsPrinted-seeking : IsPrinted 9 (codes " seeking ")
IsPrinted-seeking = IsPrinted-from_test 9 (codes " seeking ") (omega arith) refl

IsPrinted-play : IsPrinted 8 (codes " (\"play ")
IsPrinted-play = IsPrinted-from_test 8 (codes " (\"play ") (omega arith) refl

IsPrinted-respond : IsPrinted 13 (codes "\" to respond)")
IsPrinted-respond = IsPrinted-from_test 13 (codes "\" to respond)") (omega arith) refl

pub IsPrinted-seek_words : (name : List ℕ) (number : ℕ) (terms : Terms) → IsPrinted 17 name → number < 2 ^ 16
    → terms.minutes < 2 ^ 16 → terms.increment < 2 ^ 16
    → IsPrinted 81 (seek_words name number terms)
IsPrinted-seek_words name number terms h small minutes increment =
    let join = IsPrinted-append in
    join 68 13 _ _
    (join 63 5 _ _
    (join 55 8 _ _ (join 26 29 _ _ (join 17 9 _ _ h IsPrinted-seeking) (IsPrinted-terms_words terms minutes increment))
    IsPrinted-play) (IsPrinted-decimal number small)) IsPrinted-respond

pub IsPrinted-channel_words : (channel : ℕ) → channel < 2 ^ 16 → IsPrinted 9 (channel_words channel)
IsPrinted-channel_words channel small =
    IsPrinted-append 6 3 _ _
    (IsPrinted-append 1 5 _ _ (IsPrinted-from_test 1 (codes "(") (omega arith) refl) (IsPrinted-decimal channel small))
    (IsPrinted-from_test 3 (codes "): ") (omega arith) refl)

IsWording-from_test : (wording : List ℕ) → length wording ≤ 30 → list_all in_range wording ≡ true → IsWording wording
IsWording-from_test wording short h =
    let printed = IsPrinted-from_test 30 wording short h in
    (printed.short, printed.shows)

pub IsWording-offers : IsWording (codes " offers to be your partner.")
IsWording-offers = IsWording-from_test (codes " offers to be your partner.") (omega arith) refl

pub IsWording-parts : IsWording (codes " is no longer your partner.")
IsWording-parts = IsWording-from_test (codes " is no longer your partner.") (omega arith) refl

pub IsWording-confides : IsWording (codes " (your partner) tells you: ")
IsWording-confides = IsWording-from_test (codes " (your partner) tells you: ") (omega arith) refl

pub IsWording-tells : IsWording (codes " tells you: ")
IsWording-tells = IsWording-from_test (codes " tells you: ") (omega arith) refl

pub IsWording-shouts : IsWording (codes " shouts: ")
IsWording-shouts = IsWording-from_test (codes " shouts: ") (omega arith) refl

pub IsWording-declines : IsWording (codes " declines your challenge.")
IsWording-declines = IsWording-from_test (codes " declines your challenge.") (omega arith) refl

IsPrinted-now : IsPrinted 27 (codes "You are now the partner of ")
IsPrinted-now = IsPrinted-from_test 27 (codes "You are now the partner of ") (omega arith) refl

IsPrinted-stop : IsPrinted 1 (codes ".")
IsPrinted-stop = IsPrinted-from_test 1 (codes ".") (omega arith) refl

pub IsPrinted-link_words : (name : List ℕ) → IsPrinted 17 name → IsPrinted 45 (partner_words true name)
IsPrinted-link_words name h =
    let join = IsPrinted-append in
    join 44 1 _ _ (join 27 17 _ _ IsPrinted-now h) IsPrinted-stop

-- a line of what a member says is a line
pub IsLine-said : (name wording text : List ℕ) → IsHandle name → IsWording wording → IsText text
    → IsLine (spoken_line name wording text)
IsLine-said name wording text h w t =
    let join = IsPrinted-append in
    let front = join 17 30 _ _ (IsPrinted-handle name h) (record { short = w.0; shows = w.1 }) in
    let printed = join 47 800 _ _ front (record { short = t.0; shows = t.1 }) in
    (omega (arith, printed.short), printed.shows)

pub IsLine-from_printed : (most : ℕ) (text : List ℕ) → most ≤ 1023 → IsPrinted most text → IsLine text
IsLine-from_printed most text few h = (omega (arith, few, h.short), h.shows)

IsPrinted-side : (side : ChallengeSide) → IsPrinted 5 (side_words side)
IsPrinted-side FromOthers = IsPrinted-from_test 5 (side_words FromOthers) (omega arith) refl
IsPrinted-side ToOthers = IsPrinted-from_test 5 (side_words ToOthers) (omega arith) refl

pub IsPrinted-pending_words : (side : ChallengeSide) (name : List ℕ) (terms : Terms) → IsPrinted 17 name
    → terms.minutes < 2 ^ 16 → terms.increment < 2 ^ 16
    → IsPrinted 52 (pending_words side name terms)
IsPrinted-pending_words side name terms h minutes increment =
    let join = IsPrinted-append in
    join 23 29 _ _ (join 22 1 _ _ (join 5 17 _ _ (IsPrinted-side side) h) IsPrinted-blank)
    (IsPrinted-terms_words terms minutes increment)

pub IsPrinted-board_words : (number : ℕ) (white black : List ℕ) (terms : Terms) → IsPrinted 17 white
    → IsPrinted 17 black → number < 2 ^ 16
    → terms.minutes < 2 ^ 16 → terms.increment < 2 ^ 16 → IsPrinted 71 (board_words number white black terms)
IsPrinted-board_words number white black terms w b small minutes increment =
    let join = IsPrinted-append in
    join 42 29 _ _
    (join 41 1 _ _
    (join 24 17 _ _ (join 23 1 _ _ (join 6 17 _ _ (join 5 1 _ _ (IsPrinted-decimal number small) IsPrinted-blank) w)
    IsPrinted-blank) b) IsPrinted-blank) (IsPrinted-terms_words (record terms { colour = None }) minutes increment)

-- one name more, behind a blank
pub IsPrinted-one_more : (most : ℕ) (text name : List ℕ) → IsPrinted most text → IsHandle name
    → IsPrinted (most + 18) (text ++ (codes " " ++ name))
IsPrinted-one_more most text name h handle =
    IsPrinted-append most 18 text (codes " " ++ name) h
    (IsPrinted-append 1 17 (codes " ") name IsPrinted-blank (IsPrinted-handle name handle))

pub names_words-more : (names : List (List ℕ)) (i : ℕ) (name : List ℕ) → i < length names → name ≡ get_or names i name
    → names_words (take (i + 1) names) ≡ names_words (take i names) ++ (codes " " ++ name)
names_words-more names i name inside at =
    ap names_words (take_more names i name inside) ∙ ap (λ (n : List ℕ). names_words (take i names ++ n ∷ [])) (sym at)
    ∙ sym (flat_map_more (λ (n : List ℕ). codes " " ++ n) [] (take i names) name)

IsPrinted-long_decimal : (n : ℕ) → n < 2 ^ 64 → IsPrinted 20 (decimal n)
IsPrinted-long_decimal n fits = record {
  short = length-decimal-le 20 n (omega arith) (omega arith) (omega arith);
  shows = λ k d inside.
      subst IsPrintable (get_or_default (decimal n) k 0 d inside)
      (IsPrintable-digit _ (digit_at (decimal n) k (decimal_is_IsNumeral n fits).0.1 inside));
}

pub IsPrinted-stored_words : (number : ℕ) (names : List (List ℕ)) (terms : Terms) → number < 2 ^ 64
    → IsPrinted 72 (names_words names)
    → terms.minutes < 2 ^ 16 → terms.increment < 2 ^ 16 → IsPrinted 122 (stored_words number names terms)
IsPrinted-stored_words number names terms small printed minutes increment =
    let join = IsPrinted-append in
    join 93 29 _ _ (join 92 1 _ _ (join 20 72 _ _ (IsPrinted-long_decimal number small) printed) IsPrinted-blank)
    (IsPrinted-terms_words terms minutes increment)

IsPrinted-asks : IsPrinted 16 (codes " asks to resume.")
IsPrinted-asks = IsPrinted-from_test 16 (codes " asks to resume.") (omega arith) refl

pub IsPrinted-resume_words : (name : List ℕ) → IsPrinted 17 name → IsPrinted 33 (resume_words name)
IsPrinted-resume_words name h =
    IsPrinted-append 33 0
    (name ++ codes " asks to resume.") [] (IsPrinted-append 17 16 name (codes " asks to resume.") h IsPrinted-asks)
    (IsPrinted-from_test 0 [] (omega arith) refl)

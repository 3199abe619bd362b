-- Two accounts, or two games that replay, with one text are one, where one of them is of the types.
use Rattle.std.proofs.Common.{◌≡◌, ℕ, List, [], ◌∷◌, ◌++◌, length, drop, refl, sym, ap, subst, ◌∙◌, arith, append_assoc}
use Rattle.std.specs.List.{AllByRecursion}
use Rattle.chess_model.specs.Allowed.{IsMove}
use Rattle.chess_model.specs.Position.{Position}
use Rattle.chess_model.specs.VariantWord.{IsNumbered}
use Rattle.chess_model.specs.declared.moves.Move.{Move}
use Rattle.chess_model.specs.declared.moves.Move.TheVariants.{Plain, Castle, Drop}
use Rattle.chess_model.specs.declared.variant.Terms.{Terms}
use Rattle.chess_model.specs.declared.variant.Variant.{Variant}
use Rattle.chess_model.specs.declared.variant.Variant.TheVariants.{Chess, Crazyhouse, Bughouse, Fischer}
use Rattle.fics_words.specs.Handle.{IsHandle}
use Rattle.fics_words.specs.declared.account.Account.{Account}
use Rattle.game_records.proofs.NamesBack.{name-behind, name-read, names-read}
use Rattle.game_records.proofs.NumbersBack.{two-behind, two-read, two_two-behind}
use Rattle.game_records.proofs.ReadBack.{one_spelled, same_game}
use Rattle.game_records.specs.Bounds.{AreSquares, IsGame, seats}
use Rattle.game_records.specs.Numbers.{two_bytes}
use Rattle.game_records.specs.Reading.{behind_name, behind_variant, name_in, names_in, variant_in}
use Rattle.game_records.specs.Replays.{CanBePlayed, Replays, position_on}
use Rattle.game_records.specs.Spelling.{IsSpelled, account_text, game_text, halves_text, name_text, names_text, spelling, variant_text}
use Rattle.game_records.specs.declared.records.Record.TheVariants as a
use Rattle.game_records.specs.declared.stored_game.Half.{Half}
use Rattle.game_records.specs.declared.stored_game.StoredGame.{StoredGame}

-- ---- accounts

abbrev account : List ℕ → List ℕ → Account
account name digest = record { name = name; digest = digest }

-- the text of an account says its name and what stands behind that, of whatever length it is
pub same_account : (one other : Account) → account_text one ≡ account_text other → one ≡ other
same_account one other e =
    let rest : name_text one.name ++ one.digest ≡ name_text other.name ++ other.digest = ap (drop 2) e in
    let names : one.name ≡ other.name =
    sym (name-read one.name one.digest) ∙ ap name_in rest ∙ name-read other.name other.digest in
    let digests : one.digest ≡ other.digest =
    sym (name-behind one.name one.digest) ∙ ap behind_name rest ∙ name-behind other.name other.digest in
    ap (λ (n : List ℕ). account n one.digest) names ∙ ap (account other.name) digests

-- ---- the squares of a game that replays are on the board

squares_of : (p : Position) (m : Move) → IsMove p m → AreSquares m
squares_of p (Plain from to promo) is = (is.from, is.to)
squares_of p (Castle long) is = tt
squares_of p (Drop man to) is = is.square

squares_from : (t : Terms) (before rest : List Half) → CanBePlayed t (before ++ rest)
    → AllByRecursion (λ h. AreSquares h.what) rest
squares_from t before [] can = tt
squares_from t before (h ∷ rest) can = (
  squares_of (position_on t.variant before h.board) h.what (can.each before rest h refl).follows.allowed.move,
  squares_from t (before ++ h ∷ []) rest (subst (CanBePlayed t) (sym (append_assoc before (h ∷ []) rest)) can),
)

pub on_the_board : (g : StoredGame) → Replays g → AllByRecursion (λ h. AreSquares h.what) g.halves
on_the_board g replays = squares_from g.terms [] g.halves replays.played

-- ---- the names in the text of a game

abbrev halves_part : StoredGame → List ℕ
halves_part g = two_bytes (length g.halves) ++ halves_text g.terms.variant g.halves

abbrev names_part : StoredGame → List ℕ
names_part g = names_text g.names ++ halves_part g

abbrev body : StoredGame → List ℕ
body g = two_bytes g.terms.minutes ++ (two_bytes g.terms.increment ++ names_part g)

variant-read : (v : Variant) (rest : List ℕ) → IsNumbered v → variant_in (variant_text v ++ rest) ≡ v
variant-read Chess rest h = refl
variant-read Crazyhouse rest h = refl
variant-read Bughouse rest h = refl
variant-read (Fischer number) rest h = ap Fischer (two-read number rest (omega arith))

variant-behind : (v : Variant) (rest : List ℕ) → behind_variant (variant_text v ++ rest) ≡ rest
variant-behind Chess rest = refl
variant-behind Crazyhouse rest = refl
variant-behind Bughouse rest = refl
variant-behind (Fischer number) rest = two-behind number rest

names_told : List ℕ → List (List ℕ)
names_told text = names_in (seats (variant_in text)) (drop 4 (behind_variant text))

names_back : (g : StoredGame) → IsGame g → names_told (game_text g) ≡ g.names
unfolding names_told
names_back g h =
    let v = g.terms.variant in
    ap (λ (w : Variant). names_in (seats w) (drop 4 (behind_variant (game_text g))))
    (variant-read v (body g) h.terms.array)
    ∙ ap (λ (l : List ℕ). names_in (seats v) (drop 4 l)) (variant-behind v (body g))
    ∙ ap (names_in (seats v)) (two_two-behind g.terms.minutes g.terms.increment (names_part g))
    ∙ ap (λ (n : ℕ). names_in n (names_part g)) (sym h.players)
    ∙ names-read g.names (halves_part g)

-- a game that replays is the one that is spelled by its text
pub same_stored : (one other : StoredGame) → Replays one → IsSpelled (a.Game other) (spelling (a.Game other))
    → game_text one ≡ game_text other → one ≡ other
same_stored one other replays spelled e =
    let names : other.names ≡ one.names =
    sym (names_back other spelled.bounds) ∙ ap names_told (sym e) ∙ names_back one replays.spelled in
    let handles : AllByRecursion IsHandle one.names = subst (AllByRecursion IsHandle) names spelled.typed.0 in
    let own : IsSpelled (a.Game one) (game_text one) =
    record { typed = (handles, on_the_board one replays); bounds = replays.spelled; text = refl } in
    let its : IsSpelled (a.Game other) (game_text one) =
    record { typed = spelled.typed; bounds = spelled.bounds; text = e } in
    same_game one other (one_spelled (a.Game one) (a.Game other) (game_text one) own its)

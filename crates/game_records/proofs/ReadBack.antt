-- A record that was written is read again.
use Rattle.std.proofs.Common.{◌≡◌, ℕ, min, cond, List, ◌++◌, length, take, drop, refl, sym, ap, subst, ◌∙◌, arith}
use Rattle.std.specs.Prelude.{nat_eq, slice_index, Option, Some, None, IfSome, IfNone}
use Rattle.std.proofs.Math.Seq.{take-length}
use Rattle.chess_model.specs.declared.man.Colour.{Colour}
use Rattle.chess_model.specs.declared.variant.Variant.{Variant}
use Rattle.chess_model.specs.declared.variant.Variant.TheVariants.{Chess, Crazyhouse, Bughouse, Fischer}
use Rattle.chess_model.specs.VariantWord.{IsNumbered}
use Rattle.fics_words.specs.declared.account.Account.{Account}
use Rattle.game_records.specs.declared.stored_game.Half.{Half}
use Rattle.game_records.specs.declared.stored_game.StoredGame.{StoredGame}
use Rattle.game_records.specs.declared.records.Record.{Record}
use Rattle.game_records.specs.declared.records.Record.TheVariants as a
use Rattle.game_records.specs.Numbers.{two_bytes}
use Rattle.game_records.specs.Bounds.{seats, IsGame, IsSpellable, IsTyped}
use Rattle.game_records.specs.Spelling.{name_text, names_text, halves_text, variant_text, account_text, game_text, spelling, IsSpelled}
use Rattle.game_records.specs.Reading.{two_in, behind_name, names_in, behind_names, halves_in, counted_halves, variant_in, behind_variant, game_behind, game_in, account_in, record_in}
use Rattle.game_records.proofs.NumbersBack.{two-read, two-behind, two_two-behind}
use Rattle.game_records.proofs.NamesBack.{name-read, name-behind, names-read, names-behind}
use Rattle.game_records.proofs.HalvesBack.{halves-read}
use Rattle.game_records.proofs.Counts.{few_halves}

-- ---- variants

variant-read : (v : Variant) (body : List ℕ) → IsNumbered v → variant_in (variant_text v ++ body) ≡ v
variant-read Chess body h = refl
variant-read Crazyhouse body h = refl
variant-read Bughouse body h = refl
variant-read (Fischer number) body h = ap Fischer (two-read number body (omega arith))

variant-behind : (v : Variant) (body : List ℕ) → behind_variant (variant_text v ++ body) ≡ body
variant-behind Chess body = refl
variant-behind Crazyhouse body = refl
variant-behind Bughouse body = refl
variant-behind (Fischer number) body = two-behind number body

second_byte : (v : Variant) (body : List ℕ) → slice_index (variant_text v ++ body) 1 ≡ 0x47
second_byte Chess body = refl
second_byte Crazyhouse body = refl
second_byte Bughouse body = refl
second_byte (Fischer number) body = refl

-- ---- games

abbrev halves_part : StoredGame → List ℕ
halves_part g = two_bytes (length g.halves) ++ halves_text g.terms.variant g.halves

abbrev names_part : StoredGame → List ℕ
names_part g = names_text g.names ++ halves_part g

abbrev body : StoredGame → List ℕ
body g = two_bytes g.terms.minutes ++ (two_bytes g.terms.increment ++ names_part g)

counted-read : (g : StoredGame) → IsGame g → IsTyped (a.Game g)
    → counted_halves g.terms.variant (halves_part g) ≡ g.halves
counted-read g h t =
    let v = g.terms.variant in
    let few = few_halves g h in
    let count = two-read (length g.halves) (halves_text v g.halves) (omega arith) in
    ap (λ (n : ℕ). halves_in v (min n 2400) (drop 2 (halves_part g))) count
    ∙ ap (λ (n : ℕ). halves_in v n (drop 2 (halves_part g)))
    (let e : min (length g.halves) 2400 ≡ length g.halves = omega arith in e)
    ∙ ap (halves_in v (length g.halves)) (two-behind (length g.halves) (halves_text v g.halves))
    ∙ halves-read v g.halves h.halves.each t.1

abbrev game_of : ℕ → ℕ → Variant → Option Colour → List (List ℕ) → List Half → StoredGame
game_of minutes increment variant colour names halves = record {
  terms = record { minutes = minutes; increment = increment; variant = variant; colour = colour };
  names = names;
  halves = halves;
}

game-same : (g : StoredGame) (minutes increment : ℕ) (colour : Option Colour) (names : List (List ℕ))
    (halves : List Half)
    → minutes ≡ g.terms.minutes →
    increment ≡ g.terms.increment → colour ≡ g.terms.colour → names ≡ g.names → halves ≡ g.halves
    → game_of minutes increment g.terms.variant colour names halves ≡ g
game-same g minutes increment colour names halves e f k m n =
    ap (λ (x : ℕ). game_of x increment g.terms.variant colour names halves) e
    ∙ ap (λ (x : ℕ). game_of g.terms.minutes x g.terms.variant colour names halves) f
    ∙ ap (λ (x : Option Colour). game_of g.terms.minutes g.terms.increment g.terms.variant x names halves) k
    ∙ ap (λ (x : List (List ℕ)). game_of g.terms.minutes g.terms.increment g.terms.variant g.terms.colour x halves) m
    ∙ ap (λ (x : List Half). game_of g.terms.minutes g.terms.increment g.terms.variant g.terms.colour g.names x) n

body-read : (g : StoredGame) → IsGame g → IsTyped (a.Game g) → game_behind g.terms.variant (body g) ≡ g
body-read g h t =
    let v = g.terms.variant in
    let minutes = h.terms.minutes in
    let increment = h.terms.increment in
    let seated : seats v ≡ length g.names = sym h.players in
    let players = two_two-behind g.terms.minutes g.terms.increment (names_part g) in
    game-same g (two_in (body g)) (two_in (drop 2 (body g))) None (names_in (seats v) (drop 4 (body g)))
    (counted_halves v (behind_names (seats v) (drop 4 (body g))))
    (two-read g.terms.minutes (two_bytes g.terms.increment ++ names_part g) (omega arith))
    (ap two_in (two-behind g.terms.minutes (two_bytes g.terms.increment ++ names_part g))
    ∙ two-read g.terms.increment (names_part g) (omega arith))
    (sym h.terms.colour)
    (ap (names_in (seats v)) players ∙ ap (λ (n : ℕ). names_in n (names_part g)) seated
    ∙ names-read g.names (halves_part g))
    (ap (λ (l : List ℕ). counted_halves v (behind_names (seats v) l)) players
    ∙ ap (λ (n : ℕ). counted_halves v (behind_names n (names_part g))) seated
    ∙ ap (counted_halves v) (names-behind g.names (halves_part g))
    ∙ counted-read g h t)

game-read : (g : StoredGame) → IsGame g → IsTyped (a.Game g) → game_in (game_text g) ≡ g
game-read g h t =
    ap (λ (v : Variant). game_behind v (behind_variant (game_text g)))
    (variant-read g.terms.variant (body g) h.terms.array)
    ∙ ap (game_behind g.terms.variant) (variant-behind g.terms.variant (body g))
    ∙ body-read g h t

-- ---- accounts

abbrev account_of : List ℕ → List ℕ → Account
account_of name digest = record { name = name; digest = digest }

account-read : (account : Account) → length account.digest ≡ 32 → account_in (account_text account) ≡ account
account-read account h =
    let text : List ℕ = name_text account.name ++ account.digest in
    ap (λ (l : List ℕ). account_of l (take 32 (behind_name text))) (name-read account.name account.digest)
    ∙ ap (account_of account.name) (
    ap (take 32) (name-behind account.name account.digest)
    ∙ ap (λ (n : ℕ). take n account.digest) (sym h)
    ∙ take-length account.digest
    )

-- ---- records

own : (r : Record) → IsTyped r → IsSpellable r → record_in (spelling r) ≡ r
own (a.Account account) t h = ap a.Account (account-read account t.1)
own (a.Game g) t h =
    ap (λ (n : ℕ). cond (nat_eq n 0x41) (a.Account (account_in (game_text g))) (a.Game (game_in (game_text g))))
    (second_byte g.terms.variant (body g))
    ∙ ap a.Game (game-read g h t)

-- bytes that are the spelling of a record are read as that record
pub read_back : (r : Record) (bytes : List ℕ) → IsSpelled r bytes → record_in bytes ≡ r
read_back r bytes s = ap record_in s.text ∙ own r s.typed s.bounds

pub one_spelled : (one other : Record) (bytes : List ℕ) → IsSpelled one bytes → IsSpelled other bytes → one ≡ other
one_spelled one other bytes s t = sym (read_back one bytes s) ∙ read_back other bytes t

game_or : Record → StoredGame → StoredGame
game_or (a.Account account) game = game
game_or (a.Game game) other = game

pub same_game : (one other : StoredGame) → a.Game one ≡ a.Game other → one ≡ other
unfolding game_or
same_game one other e = ap (λ (r : Record). game_or r one) e

-- where what stands at each place isn't a value of the types, the bytes are no record's
pub untyped : (bytes : List ℕ) → (IsTyped (record_in bytes) → ⊥) → (r : Record) → IsSpelled r bytes → ⊥
untyped bytes bad r s = bad (subst IsTyped (sym (read_back r bytes s)) s.typed)

-- where the bytes aren't the spelling of what stands at each place, they are no record's
pub unspelled : (bytes : List ℕ) (read : Record) → read ≡ record_in bytes → (IsSpelled read bytes → ⊥) → (r : Record)
    → IsSpelled r bytes → ⊥
unspelled bytes read e bad r s = bad (subst (λ (x : Record). IsSpelled x bytes) (sym (e ∙ read_back r bytes s)) s)

-- ---- what an answer tells

pub none_read : (read : Option Record) (P : Type 0) → read ≡ None → IfNone read P → P
none_read None P e p = p
none_read (Some r) P e p = cc

pub some_read : (read : Option Record) (P : Record → Type 0) (r : Record) → read ≡ Some r → IfSome read P → P r
some_read None P r e p = cc
some_read (Some q) P r e p = let same : q ≡ r = cc in subst P same p

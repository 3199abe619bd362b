-- Aliases: short names for texts that a player types often. This server's own.
use Rattle.std.specs.Prelude.{◌≡◌, ℕ, ◌-◌, ◌==◌, nat_le, ◌&&◌, ◌||◌, not, bytes_eq, if◌then◌else◌, Bool, true, false, List, [], ◌∷◌, ◌++◌, length, Option, Some, None, is_none, find, position, remove, slice_set, codes, refl}
use Rattle.std.specs.List.{list_all, list_any}
use Rattle.fics_words.specs.Effect.{Effect}
use Rattle.fics_words.specs.declared.refusal.Refusal.TheVariants.{BadArguments, ListFull, NotOnList}
use Rattle.command_words.specs.declared.aliases.Alias.{Alias}
use Rattle.command_words.specs.Blanks.{word_numbered}
use Rattle.command_words.specs.Texts.{is_message_text}

-- an alias's name is 1 to 15 lower-case letters
abbrev pub is_alias_name : List ℕ → Bool
is_alias_name name =
    nat_le 1 (length name) && (nat_le (length name) 15 && list_all (λ b. nat_le 97 b && nat_le b 122) name)

-- the aliases of that name, of which there is one at most; names are compared exactly
abbrev pub has_name : List ℕ → Alias → Bool
has_name name alias = bytes_eq alias.name name

abbrev pub alias_of : List Alias → List ℕ → Option Alias
alias_of aliases name = find (has_name name) aliases

-- an alias in the place of the one of its name, or behind the others where there is none
abbrev pub with_alias : List Alias → Alias → Option ℕ → List Alias
with_alias aliases alias None = aliases ++ alias ∷ []
with_alias aliases alias (Some place) = slice_set aliases place alias

-- setting an alias: why it is refused, and what stands afterwards
abbrev pub setting : List Alias → List ℕ → List ℕ → Effect (List Alias) (Unit {0})
setting aliases name text = record {
  causes =
      (not (is_alias_name name && is_message_text text), BadArguments)
      ∷ (is_none (position (has_name name) aliases) && nat_le 32 (length aliases), ListFull) ∷ [];
  memory = true;
  reply = tt;
  after = with_alias aliases (record { name = name; text = text }) (position (has_name name) aliases);
}

-- the aliases without the one in this place, if there is one
abbrev pub without_alias : List Alias → Option ℕ → List Alias
without_alias aliases None = aliases
without_alias aliases (Some place) = remove aliases place

-- unsetting an alias: refused where none has the name
abbrev pub unsetting : List Alias → List ℕ → Effect (List Alias) (Unit {0})
unsetting aliases name = record {
  causes = (is_none (position (has_name name) aliases), NotOnList) ∷ [];
  memory = false;
  reply = tt;
  after = without_alias aliases (position (has_name name) aliases);
}

-- what stands behind a `$` in an alias's text, where it is a place: a digit 1 to 9, or `@`
abbrev pub is_place : ℕ → Bool
is_place b = b == 64 || (nat_le 49 b && nat_le b 57)

-- what is put into such a place: the argument word of that number, or all of the rest of the line
abbrev pub placed : ℕ → List ℕ → List ℕ
placed b rest = if b == 64 then rest else word_numbered (b - 49) rest

-- the alias's text with its places filled
abbrev pub filled : List ℕ → List ℕ → List ℕ
filled rest [] = []
filled rest (a ∷ []) = a ∷ []
filled rest (a ∷ b ∷ text) =
    if a == 36 && is_place b then placed b rest ++ filled rest text else a ∷ filled rest (b ∷ text)

-- the rest of the line behind a blank, if there is a rest
abbrev pub behind_blank : List ℕ → List ℕ
behind_blank [] = []
behind_blank (b ∷ rest) = 32 ∷ b ∷ rest

-- what an alias's text makes of the rest of a line: with no `$` in it, the rest is added
abbrev pub expanded : List ℕ → List ℕ → List ℕ
expanded text rest = if list_any (λ b. b == 36) text then filled rest text else text ++ behind_blank rest

example_words : expanded (codes "match $1 $3 $2") (codes "bob 5 0") ≡ codes "match bob 0 5"
example_words = refl

example_rest : expanded (codes "tell 1 $@") (codes "hi all") ≡ codes "tell 1 hi all"
example_rest = refl

example_no_place : expanded (codes "tell bob") (codes "hi") ≡ codes "tell bob hi"
example_no_place = refl

-- a sign that no digit 1 to 9 and no @ follows stands as it is, and the rest isn't added then
example_other_sign : expanded (codes "a$0$") (codes "hi") ≡ codes "a$0$"
example_other_sign = refl

example_missing_word : expanded (codes "a $2 b") (codes "hi") ≡ codes "a  b"
example_missing_word = refl

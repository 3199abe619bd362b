-- The keys of games.
use Rattle.std.proofs.Common.{◌≡◌, ℕ, suc, ◌^◌, ◌<◌, List, [], ◌∷◌, length, drop, get_or, refl, sym, ap, ◌∙◌, arith}
use Rattle.std.specs.Prelude.{slice_index}
use Rattle.std.proofs.lemmas.Nat.{be_bytes_8, from_be_bytes-to_be_bytes_8}
use Rattle.game_records.specs.Numbers.{eight_bytes}
use Rattle.game_records.specs.Keys.{game_key}
use Rattle.game_records.specs.Reading.{eight_in}

pub key_length : (n : ℕ) → length (game_key n) ≡ 9
unfolding eight_bytes
key_length n = refl

pub key_first : (n : ℕ) → slice_index (game_key n) 0 ≡ 0x67
key_first n = refl

pub key_number : (n : ℕ) → n < 2 ^ 64 → eight_in (drop 1 (game_key n)) ≡ n
unfolding eight_in eight_bytes
key_number n h = from_be_bytes-to_be_bytes_8 n h

pub one_game : (one other : ℕ) → one < 2 ^ 64 → other < 2 ^ 64 → game_key one ≡ game_key other → one ≡ other
one_game one other h k e = sym (key_number one h) ∙ ap (λ (l : List ℕ). eight_in (drop 1 l)) e ∙ key_number other k

pub is_key : (key : List ℕ) (n : ℕ) → length key ≡ 9 → slice_index key 0 ≡ 0x67 → ((i : ℕ) → get_or key i 0 < 256)
    → n ≡ eight_in (drop 1 key) → key ≡ game_key n
unfolding eight_in eight_bytes
is_key [] n len first small e = absurd (omega arith)
is_key (byte ∷ rest) n len first small e =
    ap (λ (x : ℕ). x ∷ rest) first
    ∙ ap (λ (l : List ℕ). 0x67 ∷ l) (sym (be_bytes_8 rest n (omega arith) (λ i. small (suc i)) e))

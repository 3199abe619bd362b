-- The number of a round, found by its decimal.
use Rattle.std.proofs.Common.{◌≡◌, ◌≢◌, ℕ, ◌≤◌, List, Some, None, decimal, bytes_eq, sym, ◌∙◌, arith}
use Rattle.std.proofs.lemmas.Bool.{false_from_ne_true}
use Rattle.std.proofs.lemmas.Fmt.{decimal_injective}
use Rattle.std.proofs.lemmas.Slice.Eq.{bytes_eq-Decides}
use Rattle.fics_words.specs.Number.{IsDecimal}
use Rattle.cmd_tourney.specs.Lines.{round_of}
use Rattle.cmd_lines.proofs.InRange.{find-none, find-one}

-- bytes that are the decimal of a round
pub round_found : (bytes : List ℕ) (n : ℕ) → IsDecimal 255 bytes n → (n ≡ 0 → ⊥) → Some n ≡ round_of bytes
unfolding round_of
round_found bytes n is some =
    sym (find-one (λ k. bytes_eq (decimal k) bytes) 1 255 n (omega (arith, some)) (omega (arith, is.1))
    ((bytes_eq-Decides (decimal n) bytes).1 (sym is.0))
    (λ j apart q. false_from_ne_true (bytes_eq (decimal j) bytes) (λ e.
    let same : decimal j ≡ decimal n = (bytes_eq-Decides (decimal j) bytes).0 e ∙ is.0 in
    apart (decimal_injective j n (omega (arith, q)) (omega (arith, is.1)) same))))

pub round_nought : (bytes : List ℕ) (n : ℕ) → IsDecimal 255 bytes n → n ≡ 0 → None ≡ round_of bytes
unfolding round_of
round_nought bytes n is nought =
    sym
    (find-none (λ k. bytes_eq (decimal k) bytes) 1 255 (λ j low q. false_from_ne_true (bytes_eq (decimal j) bytes) (λ e.
    let same : decimal j ≡ decimal n = (bytes_eq-Decides (decimal j) bytes).0 e ∙ is.0 in
    let equal : j ≡ n = decimal_injective j n (omega (arith, q)) (omega (arith, is.1)) same in
    omega (arith, equal, nought, low))))

pub round_missing : (bytes : List ℕ) → ((n : ℕ) → n ≤ 255 → bytes ≢ decimal n) → None ≡ round_of bytes
unfolding round_of
round_missing bytes none =
    sym
    (find-none (λ k. bytes_eq (decimal k) bytes) 1 255 (λ j low q. false_from_ne_true (bytes_eq (decimal j) bytes) (λ e.
    none j (omega (arith, q)) (sym ((bytes_eq-Decides (decimal j) bytes).0 e)))))

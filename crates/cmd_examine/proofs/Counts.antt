-- The number of half-moves, found by its decimal.
use Rattle.std.proofs.Common.{◌≡◌, ◌≢◌, ℕ, ◌≤◌, List, Some, None, decimal, bytes_eq, sym, ◌∙◌, arith}
use Rattle.std.proofs.lemmas.Bool.{false_from_ne_true}
use Rattle.std.proofs.lemmas.Fmt.{decimal_injective}
use Rattle.std.proofs.lemmas.Slice.Eq.{bytes_eq-Decides}
use Rattle.fics_words.specs.Number.{IsDecimal}
use Rattle.cmd_examine.specs.Lines.{count_of}
use Rattle.cmd_lines.proofs.InRange.{find-none, find-one}

-- bytes that are the decimal of such a number
pub count_found : (bytes : List ℕ) (n : ℕ) → IsDecimal 2400 bytes n → (n ≡ 0 → ⊥) → Some n ≡ count_of bytes
unfolding count_of
count_found bytes n is some =
    sym (find-one (λ k. bytes_eq (decimal k) bytes) 1 2400 n (omega (arith, some)) (omega (arith, is.1))
    ((bytes_eq-Decides (decimal n) bytes).1 (sym is.0))
    (λ j apart q. false_from_ne_true (bytes_eq (decimal j) bytes) (λ e.
    let same : decimal j ≡ decimal n = (bytes_eq-Decides (decimal j) bytes).0 e ∙ is.0 in
    apart (decimal_injective j n (omega (arith, q)) (omega (arith, is.1)) same))))

pub count_nought : (bytes : List ℕ) (n : ℕ) → IsDecimal 2400 bytes n → n ≡ 0 → None ≡ count_of bytes
unfolding count_of
count_nought bytes n is nought =
    sym (find-none (λ k. bytes_eq (decimal k) bytes) 1 2400
    (λ j low q. false_from_ne_true (bytes_eq (decimal j) bytes) (λ e.
    let same : decimal j ≡ decimal n = (bytes_eq-Decides (decimal j) bytes).0 e ∙ is.0 in
    let equal : j ≡ n = decimal_injective j n (omega (arith, q)) (omega (arith, is.1)) same in
    omega (arith, equal, nought, low))))

pub count_missing : (bytes : List ℕ) → ((n : ℕ) → n ≤ 2400 → bytes ≢ decimal n) → None ≡ count_of bytes
unfolding count_of
count_missing bytes none =
    sym (find-none (λ k. bytes_eq (decimal k) bytes) 1 2400
    (λ j low q. false_from_ne_true (bytes_eq (decimal j) bytes) (λ e.
    none j (omega (arith, q)) (sym ((bytes_eq-Decides (decimal j) bytes).0 e)))))

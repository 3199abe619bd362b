-- The variant that a line names.
use Rattle.std.proofs.Common.{◌≡◌, ◌≢◌, ℕ, ◌+◌, ◌%◌, ◌<◌, false, cond, List, ◌++◌, get_or, Some, None, decimal, bytes_eq, sym, ap, ◌∙◌, arith}
use Rattle.std.specs.Prelude.{codes, option_map}
use Rattle.std.proofs.lemmas.Bool.{false_from_ne_true}
use Rattle.std.proofs.lemmas.Fmt.{decimal_injective}
use Rattle.std.proofs.lemmas.Slice.Eq.{bytes_eq-Decides}
use Rattle.chess_model.specs.declared.variant.Variant.TheVariants.{Chess, Fischer}
use Rattle.cmd_bot.specs.Game.{array_named, variant_named, with_drops}
use Rattle.cmd_lines.proofs.InRange.{find-none, find-one}

same_array : (n k : ℕ) → codes "fischer " ++ decimal n ≡ codes "fischer " ++ decimal k → decimal n ≡ decimal k
same_array n k e = cc

array_found : (line : List ℕ) (n : ℕ) → n < 960 → line ≡ codes "fischer " ++ decimal n → array_named line ≡ Some n
unfolding array_named
array_found line n few is =
    find-one (λ k. bytes_eq (codes "fischer " ++ decimal k) line) 0 960 n (omega arith) few
    ((bytes_eq-Decides (codes "fischer " ++ decimal n) line).1 (sym is))
    (λ j apart q. false_from_ne_true (bytes_eq (codes "fischer " ++ decimal j) line) (λ e.
    let same = same_array j n ((bytes_eq-Decides (codes "fischer " ++ decimal j) line).0 e ∙ is) in
    apart (decimal_injective j n (omega (arith, q)) (omega (arith, few)) same)))

array_missing : (line : List ℕ) → ((n : ℕ) → n < 960 → line ≢ codes "fischer " ++ decimal n) → array_named line ≡ None
unfolding array_named
array_missing line none =
    find-none (λ k. bytes_eq (codes "fischer " ++ decimal k) line) 0 960
    (λ j low q. false_from_ne_true (bytes_eq (codes "fischer " ++ decimal j) line) (λ e.
    none j q (sym ((bytes_eq-Decides (codes "fischer " ++ decimal j) line).0 e))))

differs : (line text : List ℕ) → line ≢ text → bytes_eq line text ≡ false
differs line text other = false_from_ne_true (bytes_eq line text) (λ e. other ((bytes_eq-Decides line text).0 e))

-- a line that is none of the two words
by_array : (depth : ℕ) (line : List ℕ) → line ≢ codes "chess" → line ≢ codes "crazyhouse"
    → variant_named depth line ≡ option_map Fischer (array_named line)
by_array depth line chess drops =
    ap (λ t.
    cond t (Some Chess)
    (cond (bytes_eq line (codes "crazyhouse")) (with_drops depth) (option_map Fischer (array_named line))))
    (differs line (codes "chess") chess)
    ∙ ap (λ t. cond t (with_drops depth) (option_map Fischer (array_named line)))
    (differs line (codes "crazyhouse") drops)

-- the words of an array name its variant
pub named_array : (depth : ℕ) (line : List ℕ) (n : ℕ) → n < 960 → line ≡ codes "fischer " ++ decimal (n % 960)
    → Some (Fischer n) ≡ variant_named depth line
named_array depth line n few e =
    let same : n % 960 ≡ n = omega (arith, few) in
    let is : line ≡ codes "fischer " ++ decimal n = e ∙ ap (λ k. codes "fischer " ++ decimal k) same in
    let first : get_or line 0 0 ≡ 102 = ap (λ l. get_or l 0 0) is in
    sym (by_array depth line (λ c. let bad : 102 ≡ 99 = sym first ∙ ap (λ l. get_or l 0 0) c in omega (arith, bad))
    (λ c. let bad : 102 ≡ 99 = sym first ∙ ap (λ l. get_or l 0 0) c in omega (arith, bad))
    ∙ ap (option_map Fischer) (array_found line n few is))

-- what names none of them names nothing
pub unnamed : (depth : ℕ) (line : List ℕ) → line ≢ codes "chess" → line ≢ codes "crazyhouse"
    → ((n : ℕ) → n < 960 → line ≢ codes "fischer " ++ decimal n) → None ≡ variant_named depth line
unnamed depth line chess drops none =
    sym (by_array depth line chess drops ∙ ap (option_map Fischer) (array_missing line none))

-- `bughouse` among them
pub unnamed_bughouse : (depth : ℕ) (line : List ℕ) → line ≡ codes "bughouse" → None ≡ variant_named depth line
unnamed_bughouse depth line is =
    let first : get_or line 0 0 ≡ 98 = ap (λ l. get_or l 0 0) is in
    unnamed depth line (λ c. let bad : 98 ≡ 99 = sym first ∙ ap (λ l. get_or l 0 0) c in omega (arith, bad))
    (λ c. let bad : 98 ≡ 99 = sym first ∙ ap (λ l. get_or l 0 0) c in omega (arith, bad))
    (λ n few c. let bad : 98 ≡ 102 = sym first ∙ ap (λ l. get_or l 0 0) c in omega (arith, bad))

-- and what names no variant at all
pub unnamed_word : (depth : ℕ) (line : List ℕ) → line ≢ codes "chess" → line ≢ codes "crazyhouse"
    → ((n : ℕ) → line ≢ codes "fischer " ++ decimal (n % 960)) → None ≡ variant_named depth line
unnamed_word depth line chess drops none =
    unnamed depth line chess drops (λ n few e.
    let same : n % 960 ≡ n = omega (arith, few) in
    none n (e ∙ ap (λ k. codes "fischer " ++ decimal k) (sym same)))

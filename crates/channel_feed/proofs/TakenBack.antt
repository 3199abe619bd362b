-- A line that was put is taken back.
use Rattle.std.proofs.Common.{◌≡◌, ℕ, ◌-◌, false, cond, List, [], ◌∷◌, ◌++◌, length, ap, ◌∙◌, arith}
use Rattle.std.proofs.lemmas.List.{length_push, take_at}
use Rattle.channel_feed.specs.Waiting.{is_full, with_line, without_last}

-- where there was room for it, the lines are as before
pub without_last-with_line : (line : List ℕ) (lines : List (List ℕ)) → is_full lines ≡ false
    → without_last (with_line line lines) ≡ lines
without_last-with_line line lines room =
    let put : with_line line lines ≡ lines ++ line ∷ [] = ap (λ b. cond b lines (lines ++ line ∷ [])) room in
    ap without_last put
    ∙ take_at lines (line ∷ []) (length (lines ++ line ∷ []) - 1) (omega (arith, length_push lines line))

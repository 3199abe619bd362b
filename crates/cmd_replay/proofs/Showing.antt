-- What is shown of a text, line by line.
use Rattle.std.proofs.Common.{◌≡◌, ℕ, ◌==◌, false, List, [], length, ◌∷◌, ◌++◌, append_assoc, append-nil, refl, sym, ap, ◌∙◌}
use Rattle.std.proofs.lemmas.List.Splits.{slice_split_none, slice_split_at}
use Rattle.fics_words.specs.Pieces.{pieces}
use Rattle.cmd_lines.specs.Lines.{HasNoLineFeed}
use Rattle.cmd_replay.specs.Tagged.{shown, tagged_line, tagged_lines}
use Rattle.fics_words.proofs.Pieces.{Begins, Begins-pieces}

shown-cons : (line : List ℕ) (parts : List (List ℕ)) → Begins parts → shown (line ∷ parts) ≡ line ∷ shown parts
shown-cons line [] h = absurd (let bad = h.is in cc)
shown-cons [] (x ∷ parts) h = refl
shown-cons (byte ∷ line) (x ∷ parts) h = refl

-- the line up to the first line feed is shown first
shown-line : (line after : List ℕ) → HasNoLineFeed line
    → shown (pieces (line ++ 10 ∷ after)) ≡ line ∷ shown (pieces after)
shown-line line after h =
    ap shown (slice_split_at (λ c. c == 10) line 10 after h refl) ∙ shown-cons line (pieces after) (Begins-pieces after)

-- after a line the rest is still to be shown
pub one_line_shown : (session : ℕ) (out line after : List ℕ) → HasNoLineFeed line
    → out ++ tagged_line session line ++ tagged_lines session (shown (pieces after))
    ≡ out ++ tagged_lines session (shown (pieces (line ++ 10 ∷ after)))
one_line_shown session out line after h =
    append_assoc out (tagged_line session line) (tagged_lines session (shown (pieces after)))
    ∙ ap (λ (parts : List (List ℕ)). out ++ tagged_lines session parts) (sym (shown-line line after h))

-- and a rest that isn't empty is the last line
pub last_shown : (session : ℕ) (out rest : List ℕ) → (length rest == 0) ≡ false → HasNoLineFeed rest
    → out ++ tagged_line session rest ≡ out ++ tagged_lines session (shown (pieces rest))
last_shown session out [] e h = absurd cc
last_shown session out (byte ∷ rest) e h =
    ap (λ (t : List ℕ). out ++ t) (sym (append-nil (tagged_line session (byte ∷ rest))))
    ∙ ap (λ (parts : List (List ℕ)). out ++ tagged_lines session (shown parts))
    (sym (slice_split_none (λ c. c == 10) (byte ∷ rest) h))

-- A line that has begun, in its field of bytes.
use Rattle.std.proofs.Common.{◌≡◌, ℕ, ◌+◌, ◌<◌, ◌≤◌, List, [], ◌∷◌, ◌++◌, length, take, set, sym, ◌∙◌, arith, length-append, length-take}
use Rattle.std.proofs.lemmas.List.{take_more_set, take-append-le, take_all}

pub take_short : (line : List ℕ) (n : ℕ) → length line ≤ n → take n line ≡ line
take_short line n h = take_all n line h

-- a byte more, where there is room
pub grown_by : (bytes : List ℕ) (len byte : ℕ) → len < 1034 → length bytes ≡ 1034
    → take (len + 1) (set bytes len byte) ≡ take 1034 (take len bytes ++ byte ∷ [])
grown_by bytes len byte room all =
    let within : len < length bytes = omega arith in
    let short : length (take len bytes ++ byte ∷ []) ≤ 1034 =
    omega (arith, length-append (take len bytes) (byte ∷ []), length-take len bytes) in
    take_more_set bytes len byte within ∙ sym (take_short (take len bytes ++ byte ∷ []) 1034 short)

-- and where there is none
pub full_stays : (line : List ℕ) (byte : ℕ) → length line ≡ 1034 → line ≡ take 1034 (line ++ byte ∷ [])
full_stays line byte full =
    let within : 1034 ≤ length line = omega arith in
    sym (take-append-le 1034 line (byte ∷ []) within ∙ take_short line 1034 (omega arith))

-- The swaps in groups of 12.
use Rattle.std.proofs.Common.{◌≡◌, ℕ, ◌+◌, ◌<◌, ◌≤◌, List, [], ◌∷◌, ◌++◌, length, take, drop, refl, sym, ap, ◌∙◌, arith}
use Rattle.std.specs.Prelude.{swap}
use Rattle.std.specs.List.{AllByRecursion}
use Rattle.std.proofs.Common.{append_assoc, length-take, length-drop}
use borrow.Rule.Slice.PartMut.{put_mid}
use Rattle.std.proofs.lemmas.Slice.{take-put_mid, drop-put_mid}
use Rattle.std.proofs.lemmas.List.{take-append-drop, drop-drop}
use Rattle.stamp_codec.specs.Spelling.{swapped}

-- swapping twice gives the bytes back
pub swapped-swapped : (xs : List ℕ) → swapped (swapped xs) ≡ xs
swapped-swapped (a ∷ b ∷ c ∷ d ∷ e ∷ f ∷ g ∷ h ∷ i ∷ j ∷ k ∷ l ∷ rest) =
    ap (λ (t : List ℕ). a ∷ b ∷ c ∷ d ∷ e ∷ f ∷ g ∷ h ∷ i ∷ j ∷ k ∷ l ∷ t) (swapped-swapped rest)
swapped-swapped short = refl

pub length-swapped : (xs : List ℕ) → length (swapped xs) ≡ length xs
length-swapped (a ∷ b ∷ c ∷ d ∷ e ∷ f ∷ g ∷ h ∷ i ∷ j ∷ k ∷ l ∷ rest) = omega (arith, length-swapped rest)
length-swapped short = refl

-- what holds of each byte holds of each after the swaps
pub AllByRecursion-swapped : (P : ℕ → Type 0) (xs : List ℕ) → AllByRecursion P xs → AllByRecursion P (swapped xs)
AllByRecursion-swapped P (a ∷ b ∷ c ∷ d ∷ e ∷ f ∷ g ∷ h ∷ i ∷ j ∷ k ∷ l ∷ rest)
    (p, (q, (r, (s, (t, (u, (v, (w, (x, (y, (z, (o, more)))))))))))) =
    (o, (q, (y, (s, (w, (u, (v, (t, (x, (r, (z, (p, AllByRecursion-swapped P rest more))))))))))))
AllByRecursion-swapped P short all = all

-- the swaps of a group
pub swapped_group : (group : List ℕ) → length group ≡ 12 → swap (swap (swap group 0 11) 2 9) 4 7 ≡ swapped group
swapped_group (a ∷ b ∷ c ∷ d ∷ e ∷ f ∷ g ∷ h ∷ i ∷ j ∷ k ∷ l ∷ []) len = refl
swapped_group (a ∷ b ∷ c ∷ d ∷ e ∷ f ∷ g ∷ h ∷ i ∷ j ∷ k ∷ l ∷ m ∷ rest) len = absurd (omega arith)
swapped_group short len = absurd (omega arith)

-- a group in front is swapped by itself
pub swapped_front : (group rest : List ℕ) → length group ≡ 12 → swapped (group ++ rest) ≡ swapped group ++ swapped rest
swapped_front (a ∷ b ∷ c ∷ d ∷ e ∷ f ∷ g ∷ h ∷ i ∷ j ∷ k ∷ l ∷ []) rest len = refl
swapped_front (a ∷ b ∷ c ∷ d ∷ e ∷ f ∷ g ∷ h ∷ i ∷ j ∷ k ∷ l ∷ m ∷ more) rest len = absurd (omega arith)
swapped_front short rest len = absurd (omega arith)

-- less than a group stays
pub swapped_short : (bytes : List ℕ) → length bytes < 12 → swapped bytes ≡ bytes
swapped_short (a ∷ b ∷ c ∷ d ∷ e ∷ f ∷ g ∷ h ∷ i ∷ j ∷ k ∷ l ∷ rest) less = absurd (omega arith)
swapped_short short less = refl

-- one group more, at its place in the whole
pub swapped_more : (a k n : ℕ) (bytes group whole : List ℕ) → k ≡ 12 → n ≡ a + 12 → a + 12 ≤ length bytes
    → group ≡ swapped (take k (drop a bytes)) → take a bytes ++ swapped (drop a bytes) ≡ whole
    → take n (put_mid a k bytes group) ++ swapped (drop n (put_mid a k bytes group)) ≡ whole
swapped_more a k n bytes group whole twelve next within is so_far =
    let part : length (take k (drop a bytes)) ≡ 12 = omega (arith, length-take k (drop a bytes), length-drop a bytes) in
    let len : length group ≡ 12 = ap length is ∙ length-swapped (take k (drop a bytes)) ∙ part in
    let back : drop n bytes ≡ drop k (drop a bytes) =
    ap (λ (m : ℕ). drop m bytes) (let e : n ≡ a + k = omega arith in e) ∙ sym (drop-drop k a bytes) in
    ap (λ (l : List ℕ). l ++ swapped (drop n (put_mid a k bytes group)))
    (take-put_mid a k bytes group n (omega arith) (omega arith))
    ∙ ap (λ (l : List ℕ). (take a bytes ++ group) ++ swapped l)
    (drop-put_mid a k bytes group n (omega arith) (omega arith) (omega arith) ∙ back)
    ∙ append_assoc (take a bytes) group (swapped (drop k (drop a bytes)))
    ∙ ap (λ (l : List ℕ). take a bytes ++ (l ++ swapped (drop k (drop a bytes)))) is
    ∙ ap (λ (l : List ℕ). take a bytes ++ l)
    (sym (swapped_front (take k (drop a bytes)) (drop k (drop a bytes)) part)
    ∙ ap swapped (take-append-drop k (drop a bytes)))
    ∙ so_far

-- where less than a group is left, all is swapped
pub swapped_whole : (a : ℕ) (bytes whole : List ℕ) → length bytes < a + 12
    → take a bytes ++ swapped (drop a bytes) ≡ whole → bytes ≡ whole
swapped_whole a bytes whole less so_far =
    sym (take-append-drop a bytes)
    ∙ ap (λ (l : List ℕ). take a bytes ++ l) (sym (swapped_short (drop a bytes) (omega (arith, length-drop a bytes))))
    ∙ so_far

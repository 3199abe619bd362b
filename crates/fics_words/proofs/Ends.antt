-- The lines of a block: one of them, one more behind them, and the block that they make.
use Rattle.std.proofs.Common.{◌≡◌, ℕ, ◌+◌, ◌-◌, ◌<◌, ◌≤◌, Bool, true, false, List, [], ◌∷◌, ◌++◌, length, take, drop, get_or, zero, suc, Some, refl, sym, ap, subst, ◌∙◌, arith, length-append, slice_get, ◌&&◌}
use Rattle.std.specs.Prelude.{bytes_eq}
use Rattle.std.specs.Bool.{Decides}
use Rattle.std.specs.Cmp.Lexicographic.{pointwise, bytes_decides}
use Rattle.std.specs.List.{flat_map}
use Rattle.std.proofs.Math.Nat.{add-sub_cancel_left}
use Rattle.std.proofs.Math.Seq.{drop-append_seam, take-length}
use Rattle.std.proofs.lemmas.Slice.Eq.{slice_eq-Decides}
use Rattle.std.proofs.lemmas.List.{drop-append-le, drop-drop, drop_all, length-drop, length-take-le, take-append-drop, take-append-le}
use Rattle.fics_words.specs.Line.{IsLine}
use Rattle.fics_words.specs.Lines.{AreEnds, IsPart, bytes_between, lines_between}

pub length-lines_between : (bytes : List ℕ) (start : ℕ) (ends : List ℕ)
    → length (lines_between bytes start ends) ≡ length ends
length-lines_between bytes start [] = refl
length-lines_between bytes start (end ∷ ends) = ap suc (length-lines_between bytes end ends)

-- the line at a place: from the end before it, or from the start, up to its own end
pub part_at : (bytes : List ℕ) (start : ℕ) (ends : List ℕ) (k d : ℕ) → AreEnds bytes start ends → k < length ends
    → IsPart bytes (get_or (start ∷ ends) k d) (get_or ends k d)
part_at bytes start [] k d h inside = omega (arith, inside)
part_at bytes start (end ∷ ends) zero d h inside = h.0
part_at bytes start (end ∷ ends) (suc k) d h inside = part_at bytes end ends k d h.1 (omega (arith, inside))

pub slice_get-lines_between : (bytes : List ℕ) (start : ℕ) (ends : List ℕ) (k d : ℕ) → k < length ends
    → slice_get (lines_between bytes start ends) k
    ≡ Some (bytes_between bytes (get_or (start ∷ ends) k d) (get_or ends k d))
slice_get-lines_between bytes start [] k d inside = absurd (omega (arith, inside))
slice_get-lines_between bytes start (end ∷ ends) zero d inside = refl
slice_get-lines_between bytes start (end ∷ ends) (suc k) d inside =
    slice_get-lines_between bytes end ends k d (omega (arith, inside))

-- what stands before is as it was when bytes come behind it
part-append : (bytes more : List ℕ) (start end : ℕ) → start ≤ end → end ≤ length bytes
    → bytes_between (bytes ++ more) start end ≡ bytes_between bytes start end
part-append bytes more start end forward within =
    let long : length (drop start bytes) ≡ length bytes - start = length-drop start bytes in
    ap (take (end - start)) (drop-append-le start bytes more (omega (arith, forward, within)))
    ∙ take-append-le (end - start) (drop start bytes) more (omega (arith, forward, within, long))

last_part : (bytes more : List ℕ) → bytes_between (bytes ++ more) (length bytes) (length bytes + length more) ≡ more
last_part bytes more =
    ap (λ n. take n (drop (length bytes) (bytes ++ more))) (add-sub_cancel_left (length bytes) (length more))
    ∙ ap (take (length more)) (drop-append_seam bytes more) ∙ take-length more

IsPart-append : (bytes more : List ℕ) (start end : ℕ) → IsPart bytes start end → IsPart (bytes ++ more) start end
IsPart-append bytes more start end h = record {
  forward = h.forward;
  within = omega (arith, h.within, length-append bytes more);
  line = subst IsLine (sym (part-append bytes more start end h.forward h.within)) h.line;
}

IsPart-last : (bytes more : List ℕ) → IsLine more → IsPart (bytes ++ more) (length bytes) (length bytes + length more)
IsPart-last bytes more line = record {
  forward = omega arith;
  within = omega (arith, length-append bytes more);
  line = subst IsLine (sym (last_part bytes more)) line;
}

-- one line more
pub AreEnds-append : (bytes more : List ℕ) (start : ℕ) (ends : List ℕ) → AreEnds bytes start ends → IsLine more
    → AreEnds (bytes ++ more) start (ends ++ (length bytes + length more) ∷ [])
AreEnds-append bytes more start [] h line = (
  subst (λ (s : ℕ). IsPart (bytes ++ more) s (length bytes + length more)) (sym h) (IsPart-last bytes more line),
  sym (length-append bytes more),
)
AreEnds-append bytes more start (end ∷ ends) h line =
    (IsPart-append bytes more start end h.0, AreEnds-append bytes more end ends h.1 line)

pub lines_between-append : (bytes more : List ℕ) (start : ℕ) (ends : List ℕ) → AreEnds bytes start ends
    → lines_between (bytes ++ more) start (ends ++ (length bytes + length more) ∷ [])
    ≡ lines_between bytes start ends ++ more ∷ []
lines_between-append bytes more start [] h =
    ap (λ (s : ℕ). bytes_between (bytes ++ more) s (length bytes + length more) ∷ []) h
    ∙ ap (λ (l : List ℕ). l ∷ []) (last_part bytes more)
lines_between-append bytes more start (end ∷ ends) h =
    ap (λ (l : List ℕ). l ∷ lines_between (bytes ++ more) end (ends ++ (length bytes + length more) ∷ []))
    (part-append bytes more start end h.0.forward h.0.within)
    ∙ ap (λ (ls : List (List ℕ)). bytes_between bytes start end ∷ ls) (lines_between-append bytes more end ends h.1)

-- the same of blocks that are what a push makes
pub AreEnds-pushed : (bytes more ends bytes' ends' : List ℕ) (end : ℕ) → AreEnds bytes 0 ends → IsLine more
    → bytes' ≡ bytes ++ more
    → ends' ≡ ends ++ end ∷ [] → end ≡ length bytes + length more → AreEnds bytes' 0 ends'
AreEnds-pushed bytes more ends bytes' ends' end h line is_bytes is_ends is_end =
    subst (λ (l : List ℕ). AreEnds bytes' 0 l) (sym (is_ends ∙ ap (λ (n : ℕ). ends ++ n ∷ []) is_end))
    (subst (λ (l : List ℕ). AreEnds l 0 (ends ++ (length bytes + length more) ∷ [])) (sym is_bytes)
    (AreEnds-append bytes more 0 ends h line))

pub lines_between-pushed : (bytes more ends bytes' ends' : List ℕ) (end : ℕ) → AreEnds bytes 0 ends
    → bytes' ≡ bytes ++ more
    → ends' ≡ ends ++ end ∷ [] → end ≡ length bytes + length more
    → lines_between bytes' 0 ends' ≡ lines_between bytes 0 ends ++ more ∷ []
lines_between-pushed bytes more ends bytes' ends' end h is_bytes is_ends is_end =
    ap (λ (l : List ℕ). lines_between bytes' 0 l) (is_ends ∙ ap (λ (n : ℕ). ends ++ n ∷ []) is_end)
    ∙ ap (λ (l : List ℕ). lines_between l 0 (ends ++ (length bytes + length more) ∷ [])) is_bytes
    ∙ lines_between-append bytes more 0 ends h

-- the block is the lines, one behind the other
pub flat_map-lines_between : (bytes : List ℕ) (start : ℕ) (ends : List ℕ) → AreEnds bytes start ends
    → flat_map (λ (line : List ℕ). line) (lines_between bytes start ends) ≡ drop start bytes
flat_map-lines_between bytes start [] h = sym (drop_all start bytes (omega (arith, h)))
flat_map-lines_between bytes start (end ∷ ends) h =
    let on : start + (end - start) ≡ end = omega (arith, h.0.forward) in
    ap (λ (rest : List ℕ). bytes_between bytes start end ++ rest)
    (flat_map-lines_between bytes end ends h.1 ∙ ap (λ (n : ℕ). drop n bytes) (sym on)
    ∙ sym (drop-drop (end - start) start bytes))
    ∙ take-append-drop (end - start) (drop start bytes)

-- and the ends are told by how long the lines are
abbrev ends_of : ℕ → List (List ℕ) → List ℕ
ends_of start [] = []
ends_of start (line ∷ lines) = (start + length line) ∷ ends_of (start + length line) lines

end-length : (bytes : List ℕ) (start end : ℕ) → IsPart bytes start end
    → start + length (bytes_between bytes start end) ≡ end
end-length bytes start end h =
    let long : length (drop start bytes) ≡ length bytes - start = length-drop start bytes in
    let part : length (bytes_between bytes start end) ≡ end - start =
    length-take-le (end - start) (drop start bytes) (omega (arith, h.forward, h.within, long)) in
    omega (arith, part, h.forward)

ends_of-lines_between : (bytes : List ℕ) (start : ℕ) (ends : List ℕ) → AreEnds bytes start ends
    → ends_of start (lines_between bytes start ends) ≡ ends
ends_of-lines_between bytes start [] h = refl
ends_of-lines_between bytes start (end ∷ ends) h =
    ap (λ (n : ℕ). n ∷ ends_of n (lines_between bytes end ends)) (end-length bytes start end h.0)
    ∙ ap (λ (l : List ℕ). end ∷ l) (ends_of-lines_between bytes end ends h.1)

-- two tests that hold together exactly where a third does
both_are : (p b e : Bool) → (p ≡ true → (b ≡ true) × (e ≡ true)) → (b ≡ true → e ≡ true → p ≡ true) → (b && e) ≡ p
both_are true b e there back = grind (arith, there refl)
both_are false true true there back = sym (back refl refl)
both_are false true false there back = refl
both_are false false e there back = refl

-- so two blocks of the same lines are equal, and their ends
module _ (bytes ends bytes' ends' : List ℕ) (h : AreEnds bytes 0 ends) (h' : AreEnds bytes' 0 ends') where
  same_bytes : lines_between bytes 0 ends ≡ lines_between bytes' 0 ends' → bytes ≡ bytes'
  same_bytes e =
      sym (flat_map-lines_between bytes 0 ends h) ∙ ap (flat_map (λ (line : List ℕ). line)) e
      ∙ flat_map-lines_between bytes' 0 ends' h'

  same_ends : lines_between bytes 0 ends ≡ lines_between bytes' 0 ends' → ends ≡ ends'
  same_ends e = sym (ends_of-lines_between bytes 0 ends h) ∙ ap (ends_of 0) e ∙ ends_of-lines_between bytes' 0 ends' h'

  pub both_same : (b e : Bool) → b ≡ bytes_eq bytes bytes' → e ≡ bytes_eq ends ends'
      → (b && e) ≡ pointwise bytes_eq (lines_between bytes 0 ends) (lines_between bytes' 0 ends')
  both_same b e is_b is_e =
      let decides : Decides (pointwise bytes_eq (lines_between bytes 0 ends) (lines_between bytes' 0 ends'))
      (lines_between bytes 0 ends ≡ lines_between bytes' 0 ends') =
      slice_eq-Decides bytes_decides (lines_between bytes 0 ends) (lines_between bytes' 0 ends') _ refl in
      both_are (pointwise bytes_eq (lines_between bytes 0 ends) (lines_between bytes' 0 ends')) b e
      (λ same. (
        is_b ∙ (bytes_decides bytes bytes').1 (same_bytes (decides.0 same)),
        is_e ∙ (bytes_decides ends ends').1 (same_ends (decides.0 same)),
      ))
      (λ one two.
      decides.1 (ap (λ (l : List ℕ). lines_between l 0 ends) ((bytes_decides bytes bytes').0 (sym is_b ∙ one))
      ∙ ap (lines_between bytes' 0) ((bytes_decides ends ends').0 (sym is_e ∙ two))))

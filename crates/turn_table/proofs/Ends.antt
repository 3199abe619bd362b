-- The two ends of a table: words that are all 0, and slots that give their parts back.
use Rattle.std.proofs.Common.{◌≡◌, ℕ, zero, suc, ◌+◌, ◌<◌, Bool, true, false, List, [], ◌∷◌, ◌++◌, map, length, take, set, get_or, replicate, refl, ap, sym, subst, ◌∙◌, arith, add-one}
use Rattle.std.proofs.lemmas.List.{get_or-replicate, get_or_past, length-replicate, map-append, length-map}
use Rattle.std.specs.List.{slice_get}
use Rattle.std.specs.declared.option.Option.{Option}
use Rattle.std.specs.declared.option.Option.TheVariants.{Some}
use mathlib.Core.Option.{some, some-injective, some-ne-none}
use lib.ListN.{get_elem?}
use Rattle.histories.specs.Core.{Core, Lawful}
use Rattle.histories.specs.History.{state, Legal}
use Rattle.histories.proofs.Parts.{get_within}
use Rattle.histories.proofs.Histories.{length_state}
use Rattle.turn_table.specs.declared.view.View.{View}
use Rattle.turn_table.specs.Passes.{AllThere}
use Rattle.turn_table.proofs.Among.{at_length}
use Rattle.turn_table.proofs.Passing.{Closes, split_lt}

pub zero_words : (n k : ℕ) → get_or {A = ℕ} (replicate n 0) k 0 ≡ 0
zero_words n k =
    let z : ℕ = 0 in
    split_lt k n (λ h. get_or-replicate n k z z h)
    (λ h. get_or_past (replicate n z) k z (let e : length (replicate n z) ≡ n = length-replicate n z in omega arith))

-- a flag that is taken away, and the others
pub flag_gone : (fs : List Bool) (k : ℕ) → get_or (set fs k false) k false ≡ false
flag_gone [] k = refl
flag_gone (b ∷ bs) zero = refl
flag_gone (b ∷ bs) (suc k) = flag_gone bs k

pub take_more : {U : Type 0} (xs : List U) (k : ℕ) (x : U) → get_elem? xs k ≡ some x
    → take (suc k) xs ≡ take k xs ++ x ∷ []
take_more [] k x e = absurd (some-ne-none x (sym e))
take_more (y ∷ ys) zero x e = ap (λ z. z ∷ []) (some-injective y x e)
take_more (y ∷ ys) (suc k) x e = ap (λ zs. y ∷ zs) (take_more ys k x e)

module _ {T : Type 0} where
  -- one part more is taken out
  pub room_grows : (room : List T) (items : List (Option T)) (k : ℕ) (x : T) → map Some room ≡ take k items
      → get_elem? items k ≡ some (Some x) → map Some (room ++ x ∷ []) ≡ take (k + 1) items
  room_grows room items k x e h =
      map-append Some room (x ∷ [])
      ∙ (ap (λ zs. zs ++ Some x ∷ []) e
      ∙ (sym (take_more items k (Some x) h) ∙ ap (λ n. take n items) (sym (add-one k))))

  -- lists of the same length with the same parts
  same_all : (ys xs : List T) → length ys ≡ length xs
      → ((k : ℕ) (p : T) → slice_get xs k ≡ Some p → get_elem? (map Some ys) k ≡ some (Some p)) → ys ≡ xs
  same_all [] [] n h = refl
  same_all [] (x ∷ xs) n h = absurd (omega arith)
  same_all (y ∷ ys) [] n h = absurd (omega arith)
  same_all (y ∷ ys) (x ∷ xs) n h =
      let e : Some y ≡ Some x = some-injective (Some y) (Some x) (h 0 x refl) in
      let d : y ≡ x = cc in
      let es : ys ≡ xs = same_all ys xs (omega arith) (λ k p g. h (suc k) p g) in
      λ i. d i ∷ es i

module _ {P A R : Type 0} {c : Core P A R} {law : Lawful c} {opening : List P} {v : View P A R}
    {slots : List (Option P)} (closed : Closes c law opening v slots) where
  long_state : length (state c opening v.seen) ≡ length slots
  long_state = length_state c opening v.seen ∙ sym closed.long

  pub all_there : AllThere slots
  all_there k x e =
      let r : k < length slots = at_length slots k x e in
      let found = get_within (state c opening v.seen) k (let l = long_state in omega arith) in
      (found.0, some-injective x (Some found.0) (sym e ∙ closed.parts k found.0 found.1))

  -- what is taken out of the slots is the state of the history
  pub parts_back : (ys : List P) → map Some ys ≡ slots → ys ≡ state c v.opening v.seen
  parts_back ys e =
      let n : length ys ≡ length (state c opening v.seen) = sym (length-map ys Some) ∙ (ap length e ∙ sym long_state) in
      same_all ys (state c opening v.seen) n (λ k p g. ap (λ zs. get_elem? zs k) e ∙ closed.parts k p g)
      ∙ ap (λ xs. state c xs v.seen) (sym closed.same_opening)

  pub legal_back : Legal c v.opening v.seen
  legal_back = subst (λ (xs : List P). Legal c xs v.seen) (sym closed.same_opening) closed.legal

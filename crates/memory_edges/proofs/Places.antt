-- The scan for a key's place among pairs in ascending order.
use Rattle.std.proofs.Common.{◌≡◌, ℕ, ◌+◌, ◌<◌, zero, suc, cond, not, List, [], ◌∷◌, ◌++◌, length, take, drop, get_or, set, refl, sym, ap, subst, ◌∙◌, arith, append_assoc, add-one, take-append-drop}
use Rattle.std.specs.Ordering.{is_eq, is_lt}
use Rattle.std.specs.declared.cmp.Ordering.{Ordering}
use Rattle.std.specs.declared.cmp.Ordering.TheVariants.{Less, Equal, Greater}
use Rattle.std.specs.FinMap.{put, nat_cmp-IsAntisymmetric, slice_cmp-IsAntisymmetric}
use Rattle.std.specs.FinMap.Entries.{by_order}
use Rattle.std.proofs.Math.Seq.{drop-cons, take-suc, take-suc-set}
use Rattle.std.proofs.lemmas.List.{drop-set-lt}
use Rattle.edge_traits.specs.Pairs.{Pairs, IsAscending, keys_order}
use Rattle.memory_edges.specs.Shelf.{IsPlace, pairs_without}
use Rattle.memory_edges.specs.declared.mem_keeper.KeyPlace.TheVariants.{At, Gap}
use Rattle.std.proofs.lemmas.Bool.{and_from}
use Rattle.std.specs.Cmp.{first_so, second_so}
use Rattle.edge_traits.proofs.Rising.{IsBelow, IsBelow-less, is_less}

-- nothing goes where the key stands below all
without-below : (key : List ℕ) (pairs : Pairs) → IsBelow key pairs → pairs_without key pairs ≡ pairs
without-below key [] h = refl
without-below key (e ∷ es) h =
    let less = is_less (keys_order key e.0) (first_so _ _ h) in
    let rest = without-below key es (second_so _ _ h) in
    ap (λ o. cond (not (is_eq o)) (e ∷ pairs_without key es) (pairs_without key es)) less ∙ ap (λ l. e ∷ l) rest

sorted-drop : (i : ℕ) (pairs : Pairs) → IsAscending pairs → IsAscending (drop i pairs)
sorted-drop zero pairs h = h
sorted-drop (suc i) [] h = h
sorted-drop (suc i) (e ∷ es) h = sorted-drop i es (second_so _ _ h)

-- a write at i, as the pairs before it, the new one and those after it
set_split : (pairs : Pairs) (i : ℕ) (x : List ℕ × List ℕ) → i < length pairs
    → set pairs i x ≡ take i pairs ++ x ∷ drop (suc i) pairs
set_split pairs i x within =
    sym (take-append-drop (suc i) (set pairs i x))
    ∙ ap (λ l. l ++ drop (suc i) (set pairs i x)) (take-suc-set pairs i x within)
    ∙ ap (λ l. (take i pairs ++ x ∷ []) ++ l) (drop-set-lt (suc i) pairs i x (omega arith))
    ∙ append_assoc (take i pairs) (x ∷ []) (drop (suc i) pairs)

-- the scan passed i pairs: the place of the key is among the others
pub record IsPassed (pairs : Pairs) (key : List ℕ) (i : ℕ) : Type 0 where
  pub puts : (bytes : List ℕ) → put keys_order key bytes pairs ≡ take i pairs ++ put keys_order key bytes (drop i pairs)
  pub others : pairs_without key pairs ≡ take i pairs ++ pairs_without key (drop i pairs)

-- what follows the pairs that were passed
module _ (pairs : Pairs) (key : List ℕ) (i : ℕ) (e : List ℕ × List ℕ) (within : i < length pairs)
    (there : e ≡ get_or pairs i e) (passed : IsPassed pairs key i) where
  rest : Pairs
  rest = drop (suc i) pairs

  next : drop i pairs ≡ e ∷ rest
  unfolding rest
  next = drop-cons pairs i e within ∙ ap (λ x. x ∷ drop (suc i) pairs) (sym there)

  front : take (i + 1) pairs ≡ take i pairs ++ e ∷ []
  front = ap (λ n. take n pairs) (add-one i) ∙ take-suc pairs i e within ∙ ap (λ x. take i pairs ++ x ∷ []) (sym there)

  puts_next : (bytes : List ℕ) (o : Ordering) → keys_order key e.0 ≡ o
      → put keys_order key bytes pairs
      ≡ take i pairs ++ by_order o ((key, bytes) ∷ e ∷ rest) ((e.0, bytes) ∷ rest) (e ∷ put keys_order key bytes rest)
  puts_next bytes o is =
      passed.puts bytes ∙ ap (λ l. take i pairs ++ put keys_order key bytes l) next
      ∙ ap
      (λ (r : Ordering).
      take i pairs ++ by_order r ((key, bytes) ∷ e ∷ rest) ((e.0, bytes) ∷ rest) (e ∷ put keys_order key bytes rest))
      is

  others_next : (o : Ordering) → keys_order key e.0 ≡ o
      → pairs_without key pairs
      ≡ take i pairs ++ cond (not (is_eq o)) (e ∷ pairs_without key rest) (pairs_without key rest)
  others_next o is =
      passed.others ∙ ap (λ l. take i pairs ++ pairs_without key l) next
      ∙ ap
      (λ (r : Ordering). take i pairs ++ cond (not (is_eq r)) (e ∷ pairs_without key rest) (pairs_without key rest)) is

  after : rest ≡ drop (i + 1) pairs
  unfolding rest
  after = ap (λ n. drop n pairs) (sym (add-one i))

  joined : (l m : Pairs) → l ≡ m → take i pairs ++ e ∷ l ≡ take (i + 1) pairs ++ m
  joined l m is =
      sym (append_assoc (take i pairs) (e ∷ []) l) ∙ ap (λ f. f ++ l) (sym front) ∙ ap (λ x. take (i + 1) pairs ++ x) is

  pub IsPassed-next : keys_order key e.0 ≡ Greater → IsPassed pairs key (i + 1)
  IsPassed-next greater = record {
    puts = λ bytes. puts_next bytes Greater greater ∙ joined _ _ (ap (put keys_order key bytes) after);
    others = others_next Greater greater ∙ joined _ _ (ap (pairs_without key) after);
  }

  sorted_next : IsAscending pairs → IsAscending (e ∷ rest)
  sorted_next sorted = subst IsAscending next (sorted-drop i pairs sorted)

  pub IsPlace-gap : IsAscending pairs → keys_order key e.0 ≡ Less → IsPlace pairs key (Gap i)
  IsPlace-gap sorted less =
      let h = sorted_next sorted in
      let below : IsBelow key (e ∷ rest) =
      and_from _ _ (ap is_lt less) (IsBelow-less key e.0 rest less (first_so _ _ h)) in
      let same : pairs_without key (drop i pairs) ≡ drop i pairs =
      ap (pairs_without key) next ∙ without-below key (e ∷ rest) below ∙ sym next in (
        omega arith,
        λ bytes. puts_next bytes Less less ∙ ap (λ l. take i pairs ++ (key, bytes) ∷ l) (sym next),
        passed.others ∙ ap (λ l. take i pairs ++ l) same ∙ take-append-drop i pairs,
      )

  pub IsPlace-at : IsAscending pairs → keys_order key e.0 ≡ Equal → IsPlace pairs key (At i)
  unfolding rest
  IsPlace-at sorted equal =
      let same : key ≡ e.0 = slice_cmp-IsAntisymmetric nat_cmp-IsAntisymmetric key e.0 equal in
      let below : IsBelow key rest = subst (λ k. IsBelow k rest) (sym same) (first_so _ _ (sorted_next sorted)) in (
        within,
        λ bytes.
            puts_next bytes Equal equal ∙ ap (λ k. take i pairs ++ (k, bytes) ∷ rest) (sym same)
            ∙ sym (set_split pairs i (key, bytes) within),
        others_next Equal equal ∙ ap (λ l. take i pairs ++ l) (without-below key rest below),
      )

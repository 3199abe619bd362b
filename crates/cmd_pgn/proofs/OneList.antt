-- Two lists that rise and have the same games are the same.
use Rattle.std.proofs.Common.{arith, ◌≡◌, ℕ, ◌<◌, List, [], ◌∷◌, refl, sym, ap, subst, ◌∙◌, inl, inr}
use Rattle.std.specs.Prelude.{◌⊎◌, Contains}
use Rattle.lobby_shelf.specs.declared.shelved.Shelved.{Shelved}
use Rattle.lobby_shelf.specs.Numbers.{RiseAbove}
use Rattle.cmd_pgn.specs.Games.{HasOneList}
use Rattle.cmd_pgn.proofs.Listed.{contains_above, contains_behind, contains_cases, contains_first, contains_none}

same_first : (low : ℕ) (row other : Shelved) (games others : List Shelved) → RiseAbove low (row ∷ games)
    → RiseAbove low (other ∷ others)
    → ((x : Shelved) → Contains (row ∷ games) x → Contains (other ∷ others) x)
    → ((x : Shelved) → Contains (other ∷ others) x → Contains (row ∷ games) x) → row ≡ other
same_first low row other games others rise rises to back =
    by (contains_cases other row others (to row (contains_first row games)))
    (contains_cases row other games (back other (contains_first other others)))
  where
    by : (other ≡ row) ⊎ Contains others row → (row ≡ other) ⊎ Contains games other → row ≡ other
    by (inl e) there = sym e
    by (inr here) (inl e) = e
    by (inr here) (inr there) =
        let below = contains_above other.number others row rises.2 here in
        let above = contains_above row.number games other rise.2 there in
        absurd (omega (arith, below, above))

one_list : (low : ℕ) (games others : List Shelved) → RiseAbove low games → RiseAbove low others
    → ((x : Shelved) → Contains games x → Contains others x) → ((x : Shelved) → Contains others x → Contains games x)
    → games ≡ others
one_list low [] [] rise rises to back = refl
one_list low [] (other ∷ others) rise rises to back =
    absurd (contains_none other (back other (contains_first other others)))
one_list low (row ∷ games) [] rise rises to back = absurd (contains_none row (to row (contains_first row games)))
one_list low (row ∷ games) (other ∷ others) rise rises to back =
    let first : row ≡ other = same_first low row other games others rise rises to back in
    ap (λ (x : Shelved). x ∷ games) first
    ∙ ap (λ (l : List Shelved). other ∷ l)
    (one_list row.number games others rise.2 (subst (λ (x : Shelved). RiseAbove x.number others) (sym first) rises.2)
    (λ x c.
    other_than x (contains_above row.number games x rise.2 c)
    (contains_cases other x others (to x (contains_behind row x games c))) first)
    (λ x c.
    let above = contains_above other.number others x rises.2 c in
    behind x (ap (λ (r : Shelved). r.number) first) above
    (contains_cases row x games (back x (contains_behind other x others c)))))
  where
    other_than : (x : Shelved) → row.number < x.number → (other ≡ x) ⊎ Contains others x → row ≡ other
        → Contains others x
    other_than x above (inl e) first =
        let same = ap (λ (r : Shelved). r.number) (first ∙ e) in absurd (omega (arith, above, same))
    other_than x above (inr c) first = c

    behind : (x : Shelved) → row.number ≡ other.number → other.number < x.number → (row ≡ x) ⊎ Contains games x
        → Contains games x
    behind x first above (inl e) =
        let same = ap (λ (r : Shelved). r.number) e in absurd (omega (arith, above, same, first))
    behind x first above (inr c) = c

pub has_one_list : HasOneList
has_one_list table one other this that =
    one_list 0 one other this.order that.order (λ x c. (that.exactly x).1 ((this.exactly x).0 c))
    (λ x c. (this.exactly x).1 ((that.exactly x).0 c))

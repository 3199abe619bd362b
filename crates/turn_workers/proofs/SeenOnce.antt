-- A history in which one session made one act.
use Rattle.std.proofs.Common.{◌≡◌, ◌≢◌, ℕ, cond, List, [], ◌∷◌, ◌++◌, refl, ap, sym, subst, ◌∙◌, inl, arith, eq-eqb}
use Rattle.std.specs.declared.option.Option.TheVariants.{Some}
use Rattle.histories.specs.declared.entry.Entry.{Entry}
use Rattle.histories.specs.History.{calls_of, entry, Legal}
use Rattle.turn_table.specs.declared.view.View.{View}
use Rattle.turn_table.specs.Views.{In, Looks, new_view, divided, split_from, joined_with, looked, as_joined}
use Rattle.turn_table.proofs.Among.{split_on}
use Rattle.turn_counters.specs.declared.bump.Bump.{Bump}
use Rattle.turn_counters.specs.declared.bump.Bump.TheVariants.{First}
use Rattle.turn_counters.specs.Counters.{counters}
use Rattle.turn_counters.specs.Worked.{MadeOne}
use Rattle.turn_workers.proofs.Weighing.{session_there, none_after}

abbrev pub W : Type 0
W = View ℕ Bump ℕ

-- a history with no entry but those of session 1 is the list of these
only_calls : (es : List (Entry Bump ℕ)) → ((m : ℕ) → m ≢ 1 → calls_of m es ≡ []) → calls_of 1 es ≡ es
only_calls [] none = refl
only_calls (e ∷ es) none = split_on e.session 1
    (λ d.
    ap (λ b. cond b (e ∷ calls_of 1 es) (calls_of 1 es)) (eq-eqb e.session 1 d)
    ∙ ap (λ xs. e ∷ xs) (only_calls es (λ m ne. none_after e es m (none m ne))))
    (λ ne. absurd (session_there e es (none e.session ne)))

-- the first act on counters that stand at 0 is answered 1
first_reply : (r : ℕ) → Legal counters (0 ∷ 0 ∷ []) (entry 1 First r ∷ []) → r ≡ 1
first_reply r legal = let e : Some 1 ≡ Some r = legal.1 in let d : 1 ≡ r = cc in sym d

pub seen_is : (v0 v1 v2 v3 u w : W) → v0 ≡ new_view (0 ∷ 0 ∷ []) → v1 ≡ divided v0 → u ≡ split_from v0
    → MadeOne First u w → v2 ≡ joined_with v1 w v2.seen → v3 ≡ looked v2 v3.seen → Looks counters v2 v3.seen
    → v3.seen ≡ entry 1 First 1 ∷ []
seen_is v0 v1 v2 v3 u w e0 e1 d made e2 e3 looks =
    let f1 : v1 ≡ divided (new_view (0 ∷ 0 ∷ [])) = e1 ∙ ap divided e0 in
    let f2 : v2 ≡ joined_with (divided (new_view (0 ∷ 0 ∷ []))) w v2.seen = e2 ∙ ap (λ v. joined_with v w v2.seen) f1 in
    let number : w.number ≡ 1 = made.keeps.number ∙ ap (λ (v : W). v.number) (d ∙ ap split_from e0) in
    let calls : w.made ≡ entry 1 First made.reply ∷ [] =
    made.made
    ∙ (λ i. ((d ∙ ap split_from e0) i).made ++ entry ((d ∙ ap split_from e0) i).number First made.reply ∷ []) in
    let there : In (as_joined w) v2.joined = subst (λ (v : W). In (as_joined w) v.joined) (sym f2) (inl refl) in
    let ones : calls_of 1 v3.seen ≡ entry 1 First made.reply ∷ [] =
    ap (λ m. calls_of m v3.seen) (sym number) ∙ (looks.joined (as_joined w) there ∙ calls) in
    let first : v2.number ≡ 0 = ap (λ (v : W). v.number) f2 in
    let splits : v2.splits ≡ 1 = ap (λ (v : W). v.splits) f2 in
    let none : (m : ℕ) → m ≢ 1 → calls_of m v3.seen ≡ [] = λ m ne. split_on m 0
    (λ z. ap (λ k. calls_of k v3.seen) (z ∙ sym first) ∙ (looks.own ∙ ap (λ (v : W). v.made) f2))
    (λ nz. looks.no_others first m (omega arith)) in
    let whole : v3.seen ≡ entry 1 First made.reply ∷ [] = sym (only_calls v3.seen none) ∙ ones in
    let legal : Legal counters (0 ∷ 0 ∷ []) (entry 1 First made.reply ∷ []) =
    subst (Legal counters (0 ∷ 0 ∷ [])) whole
    (subst (λ xs. Legal counters xs v3.seen) (ap (λ (v : W). v.opening) f2) looks.legal) in
    whole ∙ ap (λ r. entry 1 First r ∷ []) (first_reply made.reply legal)

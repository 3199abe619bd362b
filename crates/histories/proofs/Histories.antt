-- Histories: one entry more, beginnings, the calls of a session, and facts of every state.
use Rattle.std.proofs.Common.{◌≡◌, ◌≢◌, ℕ, ◌+◌, ◌≤◌, cond, eqb, List, [], ◌∷◌, ◌++◌, length, refl, ap, sym, subst, ◌∙◌, arith, append_assoc, append-nil, length-append, eq-eqb, ne_eqb}
use Rattle.std.proofs.lemmas.List.Elements.{filter-append}
use Rattle.histories.specs.declared.entry.Entry.{Entry}
use Rattle.histories.specs.Core.{Core, Lawful, after}
use Rattle.histories.specs.History.{IsPrefix, calls_of, state, Legal}
use Rattle.histories.specs.Laws.{StepsOnce, GrowsLegally, BeginsLegally, StaysWhole, EachActKeeps, HoldsInEveryState, FirstKeeps, SecondKeeps, HoldsOfEachPart}
use Rattle.histories.proofs.Steps.{keeps_length, each_after}

module _ {T : Type 0} where
  pub prefix_refl : (xs : List T) → IsPrefix xs xs
  prefix_refl xs = ([], append-nil xs)

  pub prefix_more : (xs ys : List T) → IsPrefix xs (xs ++ ys)
  prefix_more xs ys = (ys, refl)

  pub prefix_trans : (xs ys zs : List T) → IsPrefix xs ys → IsPrefix ys zs → IsPrefix xs zs
  prefix_trans xs ys zs p q = (p.0 ++ q.0, sym (append_assoc xs p.0 q.0) ∙ (ap (λ ws. ws ++ q.0) p.1 ∙ q.1))

  pub prefix_length : (xs ys : List T) → IsPrefix xs ys → length xs ≤ length ys
  prefix_length xs ys p =
      let e : length (xs ++ p.0) ≡ length ys = ap length p.1 in
      let h : length (xs ++ p.0) ≡ length xs + length p.0 = length-append xs p.0 in omega arith

  -- a beginning that is no shorter is the whole
  pub prefix_whole : (xs ys : List T) → IsPrefix xs ys → length ys ≤ length xs → xs ≡ ys
  prefix_whole xs ys ([], e) n = sym (append-nil xs) ∙ e
  prefix_whole xs ys (z ∷ zs, e) n =
      let l : length (xs ++ z ∷ zs) ≡ length ys = ap length e in
      let h : length (xs ++ z ∷ zs) ≡ length xs + length (z ∷ zs) = length-append xs (z ∷ zs) in absurd (omega arith)

  -- of two beginnings of one list the shorter begins the longer
  pub prefix_of_longer : (xs ys zs : List T) → IsPrefix xs zs → IsPrefix ys zs → length xs ≤ length ys → IsPrefix xs ys
  prefix_of_longer [] ys zs p q n = (ys, refl)
  prefix_of_longer (x ∷ xs) [] zs p q n = absurd (omega arith)
  prefix_of_longer (x ∷ xs) (y ∷ ys) [] p q n = absurd (let e = p.1 in cc)
  prefix_of_longer (x ∷ xs) (y ∷ ys) (z ∷ zs) p q n =
      let e : x ∷ (xs ++ p.0) ≡ z ∷ zs = p.1 in
      let f : y ∷ (ys ++ q.0) ≡ z ∷ zs = q.1 in
      let e1 : xs ++ p.0 ≡ zs = cc in
      let f1 : ys ++ q.0 ≡ zs = cc in
      let xy : x ≡ y = cc in
      let r : IsPrefix xs ys = prefix_of_longer xs ys zs (p.0, e1) (q.0, f1) (omega arith) in
      (r.0, λ i. xy i ∷ r.1 i)

module _ {A R : Type 0} where
  pub calls-append : (k : ℕ) (es fs : List (Entry A R)) → calls_of k (es ++ fs) ≡ calls_of k es ++ calls_of k fs
  calls-append k es fs = filter-append (λ e. eqb e.session k) es fs

  -- one entry more of the session
  pub calls_own : (k : ℕ) (es : List (Entry A R)) (e : Entry A R) → e.session ≡ k
      → calls_of k (es ++ e ∷ []) ≡ calls_of k es ++ e ∷ []
  calls_own k es e h = calls-append k es (e ∷ []) ∙ ap (λ b. calls_of k es ++ cond b (e ∷ []) []) (eq-eqb e.session k h)

  -- one entry more of another session
  pub calls_else : (k : ℕ) (es : List (Entry A R)) (e : Entry A R) → e.session ≢ k
      → calls_of k (es ++ e ∷ []) ≡ calls_of k es
  calls_else k es e h =
      calls-append k es (e ∷ [])
      ∙ (ap (λ b. calls_of k es ++ cond b (e ∷ []) []) (ne_eqb e.session k h) ∙ append-nil (calls_of k es))

module _ {P A R : Type 0} (c : Core P A R) where
  pub state-append : (xs : List P) (es fs : List (Entry A R)) → state c xs (es ++ fs) ≡ state c (state c xs es) fs
  state-append xs [] fs = refl
  state-append xs (e ∷ es) fs = state-append (after c xs e.session e.act) es fs

  pub steps_once : StepsOnce c
  steps_once xs es e = state-append xs es (e ∷ [])

  pub legal-append : (xs : List P) (es fs : List (Entry A R)) → Legal c xs es → Legal c (state c xs es) fs
      → Legal c xs (es ++ fs)
  legal-append xs [] fs l m = m
  legal-append xs (e ∷ es) fs l m = (l.0, l.1, legal-append (after c xs e.session e.act) es fs l.2 m)

  pub legal_front : (xs : List P) (es fs : List (Entry A R)) → Legal c xs (es ++ fs) → Legal c xs es
  legal_front xs [] fs l = tt
  legal_front xs (e ∷ es) fs l = (l.0, l.1, legal_front (after c xs e.session e.act) es fs l.2)

  -- what comes at the end of a legal history is legal in the state before it
  pub legal_back : (xs : List P) (es fs : List (Entry A R)) → Legal c xs (es ++ fs) → Legal c (state c xs es) fs
  legal_back xs [] fs l = l
  legal_back xs (e ∷ es) fs l = legal_back (after c xs e.session e.act) es fs l.2

  pub grows_legally : GrowsLegally c
  grows_legally xs es e l f r = legal-append xs es (e ∷ []) l (f, r, tt)

  pub begins_legally : BeginsLegally c
  begins_legally xs es fs p l = legal_front xs es p.0 (subst (Legal c xs) (sym p.1) l)

  pub length_state : (xs : List P) (es : List (Entry A R)) → length (state c xs es) ≡ length xs
  length_state xs [] = refl
  length_state xs (e ∷ es) = length_state (after c xs e.session e.act) es ∙ keeps_length c xs e.session e.act

  pub stays_whole : Lawful c → StaysWhole c
  stays_whole law xs [] w l = w
  stays_whole law xs (e ∷ es) w l =
      stays_whole law (after c xs e.session e.act) es (law.stays xs e.session e.act w l.0) l.2

  pub holds_in_every_state : Lawful c → (Q : List P → Type 0) → EachActKeeps c Q → HoldsInEveryState c Q
  holds_in_every_state law Q keeps xs [] w l q = q
  holds_in_every_state law Q keeps xs (e ∷ es) w l q =
      holds_in_every_state law Q keeps (after c xs e.session e.act) es (law.stays xs e.session e.act w l.0) l.2
      (keeps xs e.session e.act w l.0 q)

  pub holds_of_each_part : (Q : P → Type 0) → FirstKeeps c Q → SecondKeeps c Q → HoldsOfEachPart c Q
  holds_of_each_part Q one two xs [] l q = q
  holds_of_each_part Q one two xs (e ∷ es) l q =
      holds_of_each_part Q one two (after c xs e.session e.act) es l.2 (each_after c Q one two xs e.session e.act l.0 q)

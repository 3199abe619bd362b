-- The last turn of the steward, once every other pass was joined: nobody else acts beside it.
use Rattle.std.proofs.Common.{◌≡◌, ◌≢◌, ℕ, zero, suc, ◌<◌, Bool, true, false, cond, List, [], ◌∷◌, ◌++◌, refl, sym, ap, subst, ◌∙◌, append-nil, arith, eq-eqb, ne_eqb}
use Rattle.std.specs.Prelude.{nat_lt}
use Rattle.std.proofs.lemmas.Bool.{ltb-false, ltb-true}
use Rattle.std.proofs.lemmas.List.{append_cancel_left}
use Rattle.edge_traits.specs.Calls.{Store}
use Rattle.histories.specs.declared.entry.Entry.{Entry}
use Rattle.histories.specs.History.{IsPrefix, Legal, calls_of, state}
use Rattle.histories.proofs.Histories.{calls-append, prefix_trans, stays_whole, state-append, legal_back}
use Rattle.turn_table.specs.declared.view.Joined.{Joined}
use Rattle.turn_table.specs.Views.{In, joined_number}
use Rattle.one_server.specs.declared.act.Timed.{Timed}
use Rattle.one_server.specs.declared.part.Part.{Part}
use Rattle.one_server.specs.declared.reply.Reply.{Reply}
use Rattle.one_server.specs.House.{house}
use Rattle.one_server.specs.LawfulProof.{house_lawful}
use Rattle.one_server.specs.Running.{Log}
use Rattle.one_server.specs.Whole.{IsWhole}
use Rattle.hall_core.specs.Passes.{EveryoneJoined, PassState}
use Rattle.steward_core.specs.declared.turn.StewardEnd.{StewardEnd}
use Rattle.serve_turn.specs.declared.supply.Supply.{Supply}
use Rattle.serve_core.specs.Stewarding.{LeavesNoOrders, StewardTurn}
use Rattle.serve_turn.specs.Turns.{TurnsLast}
use Rattle.serve_core.proofs.Among.{in_map_from}
use Rattle.serve_core.proofs.OrdersOver.{leaves_none}
use Rattle.serve_core.proofs.Turning.{turn_home, turn_is, turn_made, turn_number, turn_opening, turn_splits}

-- ---- entries of session 0 alone

nothing_behind : {T : Type 0} (xs ys : List T) → xs ++ ys ≡ xs → ys ≡ []
nothing_behind xs ys e = append_cancel_left xs ys [] (e ∙ sym (append-nil xs))

nothing_last : {T : Type 0} (xs ys : List T) → xs ++ ys ≡ [] → ys ≡ []
nothing_last [] ys e = e
nothing_last (x ∷ xs) ys e = absurd cc

abbrev NoneElse : Log → Type 0
NoneElse es = (m : ℕ) → 0 < m → calls_of m es ≡ []

else_rest : (e : Entry Timed Reply) (es : Log) → e.session ≡ 0 → NoneElse (e ∷ es) → NoneElse es
else_rest e es is none m low =
    let other : e.session ≢ m = λ same. omega (arith, low, is, same) in
    ap (λ b. cond b (e ∷ calls_of m es) (calls_of m es)) (sym (ne_eqb e.session m other)) ∙ none m low

else_first : (e : Entry Timed Reply) (es : Log) (n : ℕ) → e.session ≡ n → NoneElse (e ∷ es) → n ≡ 0
else_first e es zero is none = refl
else_first e es (suc n) is none =
    let bad : e ∷ calls_of (suc n) es ≡ [] =
    ap (λ b. cond b (e ∷ calls_of (suc n) es) (calls_of (suc n) es)) (sym (eq-eqb e.session (suc n) is))
    ∙ none (suc n) (omega arith) in
    absurd cc

all_own : (es : Log) → NoneElse es → calls_of 0 es ≡ es
all_own [] none = refl
all_own (e ∷ es) none =
    let is : e.session ≡ 0 = else_first e es e.session refl none in
    ap (λ b. cond b (e ∷ calls_of 0 es) (calls_of 0 es)) (eq-eqb e.session 0 is)
    ∙ ap (λ (l : Log). e ∷ l) (all_own es (else_rest e es is none))

-- ---- the last turn

module _ (end : StewardEnd) (supply : Supply) (before after : Store) (old new : PassState)
    (t : TurnsLast end supply before after old new) where
  pub first_home : t.first.home ≡ old.home
  first_home = ap (λ (p : PassState). p.home) t.looked.same

  pub last_home : new.home ≡ old.home
  last_home =
      ap (λ (p : PassState). p.home) t.looked_again.same ∙ turn_home end supply before after t.first t.mid t.made
      ∙ first_home

  pub last_splits : new.splits ≡ old.splits
  last_splits =
      ap (λ (p : PassState). p.splits) t.looked_again.same ∙ turn_splits end supply before after t.first t.mid t.made
      ∙ ap (λ (p : PassState). p.splits) t.looked.same

  pub last_number : new.number ≡ old.number
  last_number =
      ap (λ (p : PassState). p.number) t.looked_again.same ∙ turn_number end supply before after t.first t.mid t.made
      ∙ ap (λ (p : PassState). p.number) t.looked.same

  pub last_opening : new.opening ≡ old.opening
  last_opening =
      ap (λ (p : PassState). p.opening) t.looked_again.same ∙ turn_opening end supply before after t.first t.mid t.made
      ∙ ap (λ (p : PassState). p.opening) t.looked.same

  first_joined : t.first.joined ≡ old.joined
  first_joined = ap (λ (p : PassState). p.joined) t.looked.same

  pub last_joined : new.joined ≡ old.joined
  last_joined = ap (λ (p : PassState). p.joined) t.looked_again.same ∙ ap (λ p. p.joined) t.made.shared ∙ first_joined

  pub last_made : new.made ≡ t.first.made ++ t.made.turn.entries
  last_made =
      ap (λ (p : PassState). p.made) t.looked_again.same ∙ turn_made end supply before after t.first t.mid t.made

  abbrev pub last_is : StewardTurn
  last_is = turn_is end supply before after t.first t.mid t.made

  gained : IsPrefix t.first.seen new.seen
  gained = prefix_trans t.first.seen t.mid.seen new.seen t.made.turn.grew.begins t.looked_again.seen

  module _ (first : old.number ≡ 0) (joined : EveryoneJoined old) where
    calls_grow : (m : ℕ) → calls_of m t.first.seen ++ calls_of m gained.0 ≡ calls_of m new.seen
    calls_grow m = sym (calls-append m t.first.seen gained.0) ∙ ap (λ (l : Log). calls_of m l) gained.1

    of_joined : (m : ℕ) (j : Joined Timed Reply) → In j old.joined → m ≡ j.number → calls_of m gained.0 ≡ []
    of_joined m j there is =
        let one : calls_of j.number t.first.seen ≡ j.calls =
        t.looked.calls j (subst (λ (xs : List (Joined Timed Reply)). In j xs) (sym first_joined) there) in
        let two : calls_of j.number new.seen ≡ j.calls =
        t.looked_again.calls j (subst (λ (xs : List (Joined Timed Reply)). In j xs) (sym last_joined) there) in
        let none : calls_of j.number gained.0 ≡ [] =
        nothing_behind (calls_of j.number t.first.seen) (calls_of j.number gained.0)
        (calls_grow j.number ∙ two ∙ sym one) in
        ap (λ n. calls_of n gained.0) is ∙ none

    none_else_by : (m : ℕ) (past : Bool) → nat_lt old.splits m ≡ past → 0 < m → calls_of m gained.0 ≡ []
    none_else_by m true is low =
        nothing_last (calls_of m t.first.seen) (calls_of m gained.0)
        (calls_grow m
        ∙ t.looked_again.no_others (last_number ∙ first) m (omega (arith, ltb-true old.splits m is, last_splits)))
    none_else_by m false is low =
        let found = in_map_from joined_number m old.joined (joined m low (ltb-false old.splits m is)) in
        of_joined m found.0 found.1 found.2

    none_else : NoneElse gained.0
    none_else m low = none_else_by m (nat_lt old.splits m) refl low

    own_first : calls_of 0 t.first.seen ≡ t.first.made
    own_first =
        sym (t.looked.known.own
        ∙ ap (λ n. calls_of n t.first.seen) (ap (λ (p : PassState). p.number) t.looked.same ∙ first))

    -- what the first pass made are the entries of session 0
    pub own_last : calls_of 0 new.seen ≡ new.made
    own_last = sym (t.looked_again.known.own ∙ ap (λ n. calls_of n new.seen) (last_number ∙ first))

    -- the turn's entries are all that is new
    gained_is : gained.0 ≡ t.made.turn.entries
    gained_is =
        sym (all_own gained.0 none_else)
        ∙ append_cancel_left t.first.made (calls_of 0 gained.0) t.made.turn.entries
        (ap (λ (l : Log). l ++ calls_of 0 gained.0) (sym own_first) ∙ calls_grow 0 ∙ own_last ∙ last_made)

    pub last_seen : new.seen ≡ t.first.seen ++ t.made.turn.entries
    last_seen = sym gained.1 ∙ ap (λ (l : Log). t.first.seen ++ l) gained_is

    pub last_leaves : IsWhole old.opening → LeavesNoOrders end (state house new.opening new.seen)
    last_leaves whole =
        let entries = t.made.turn.entries in
        let opening : t.first.opening ≡ old.opening = ap (λ (p : PassState). p.opening) t.looked.same in
        let parts = state house old.opening t.first.seen in
        let legal_all : Legal house old.opening (t.first.seen ++ entries) =
        subst (Legal house old.opening) last_seen
        (subst (λ (xs : List Part). Legal house xs new.seen) last_opening t.looked_again.known.legal) in
        let legal_first : Legal house old.opening t.first.seen =
        subst (λ (xs : List Part). Legal house xs t.first.seen) opening t.looked.known.legal in
        let path : state house new.opening new.seen ≡ state house parts entries =
        ap (λ (xs : List Part). state house xs new.seen) last_opening ∙ ap (state house old.opening) last_seen
        ∙ state-append house old.opening t.first.seen entries in
        subst (LeavesNoOrders end) (sym path)
        (leaves_none end parts t.made.moment entries t.made.turn.carried
        (stays_whole house house_lawful old.opening t.first.seen whole legal_first)
        (legal_back house old.opening t.first.seen entries legal_all) t.made.turn.turn)

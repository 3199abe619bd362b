-- Where no session but 0 tells save orders as saved among its own entries, the history has none of another's, in any
-- part of it.
use Rattle.std.proofs.Common.{◌≡◌, ◌≢◌, ℕ, ◌<◌, ◌≤◌, ◌==◌, ◌⊎◌, Bool, true, false, cond, [], ◌∷◌, ◌++◌, refl, sym}
use Rattle.std.proofs.Common.{subst, inl, inr, arith, eq-eqb}
use Rattle.std.specs.List.{AllByRecursion}
use Rattle.std.proofs.lemmas.Bool.{cases_lt}
use Rattle.fics_words.proofs.Each.{each-back, each-front}
use Rattle.histories.specs.declared.entry.Entry.{Entry}
use Rattle.histories.specs.History.{calls_of}
use Rattle.one_server.specs.declared.act.Timed.{Timed}
use Rattle.one_server.specs.declared.reply.Reply.{Reply}
use Rattle.one_server.specs.Running.{Log}
use Rattle.session_laws.proofs.OfLinks.{links_never_save}
use Rattle.session_laws.specs.WhoSaves.{NoneSaves, OnlyTheStewardSaves, OthersServe}
use Rattle.steward_core.specs.Agreement.{IsNoOthers, SaysSaved}

-- ---- From the entries of each session to the history.
none_behind : (own : Bool) (e : Entry Timed Reply) (calls : Log) → NoneSaves (cond own (e ∷ calls) calls)
    → NoneSaves calls
none_behind true e calls none = none.1
none_behind false e calls none = none

none_at : (own : Bool) (e : Entry Timed Reply) (calls : Log) → own ≡ true → NoneSaves (cond own (e ∷ calls) calls)
    → SaysSaved e.act.act → ⊥
none_at true e calls is none = none.0
none_at false e calls is none = absurd cc

pub others_none : (number : ℕ) (history : Log) → ((k : ℕ) → k ≢ number → NoneSaves (calls_of k history))
    → AllByRecursion (IsNoOthers number) history
others_none number [] each = tt
others_none number (e ∷ es) each = (
  λ other.
      none_at (e.session == e.session) e (calls_of e.session es) (eq-eqb e.session e.session refl)
      (each e.session other),
  others_none number es (λ k other. none_behind (e.session == k) e (calls_of k es) (each k other)),
)

-- ---- A session serves a link, or it makes nothing.
none_of : (last k : ℕ) (history : Log) → OthersServe last history → k ≢ 0 → (last < k) ⊎ (k ≤ last)
    → NoneSaves (calls_of k history)
none_of last k history serve other (inl after) = subst NoneSaves (sym (serve.none_after k after)) tt
none_of last k history serve other (inr upto) =
    links_never_save k (calls_of k history) (serve.served k (omega (arith, other)) upto)

pub others_never_save : (last : ℕ) (history : Log) → OthersServe last history → AllByRecursion (IsNoOthers 0) history
others_never_save last history serve =
    others_none 0 history (λ k other. none_of last k history serve other (cases_lt last k))

pub only_the_steward_saves : OnlyTheStewardSaves
only_the_steward_saves last front part back serve =
    let all = others_never_save last (front ++ part ++ back) serve in
    each-back (IsNoOthers 0) front part (each-front (IsNoOthers 0) (front ++ part) back all)

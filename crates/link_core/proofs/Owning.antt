-- What follows for every link that was served.
use Rattle.std.proofs.Common.{◌≡◌, ℕ, Bool, true, List, ◌∷◌, ◌++◌, refl, sym, ap, ◌∙◌, append_assoc, inl, inr}
use Rattle.std.specs.declared.option.Option.{Option}
use Rattle.std.specs.declared.option.Option.TheVariants.{None, Some}
use Rattle.edge_traits.specs.Link.{Sign, Tale}
use Rattle.edge_traits.specs.WhereTold.{WhereTold}
use Rattle.histories.specs.History.{IsPrefix}
use Rattle.one_server.specs.Running.{Log}
use Rattle.session_core.specs.Texts.{opening_text}
use Rattle.link_core.specs.declared.link_end.LinkEnd.TheVariants as end
use Rattle.link_core.specs.declared.link_end.LinkEnd.{LinkEnd}
use Rattle.link_core.specs.Laws.{FaultsAreCounted, IsGreeted, KeepsItsSigns, handed_over}
use Rattle.link_core.specs.ServedWhole.{TakesFrom}
use Rattle.link_core.specs.ServedInPart.{WasServed}
use Rattle.link_core.specs.Talk.{joined}

pub faults_are_counted : FaultsAreCounted
faults_are_counted shows mark session end.ReadFault entries old new s which = s.ended
faults_are_counted shows mark session end.WriteFault entries old new s which = s.ended
faults_are_counted shows mark session end.Quit entries old new s (inl e) = absurd cc
faults_are_counted shows mark session end.Quit entries old new s (inr e) = absurd cc
faults_are_counted shows mark session end.End entries old new s (inl e) = absurd cc
faults_are_counted shows mark session end.End entries old new s (inr e) = absurd cc
faults_are_counted shows mark session end.Spent entries old new s (inl e) = absurd cc
faults_are_counted shows mark session end.Spent entries old new s (inr e) = absurd cc
faults_are_counted shows mark session end.Memory entries old new s (inl e) = absurd cc
faults_are_counted shows mark session end.Memory entries old new s (inr e) = absurd cc

signs_kept : (taken : List Sign) (is_ended : Bool) (old new : Tale) → TakesFrom taken is_ended old new
    → new.taken ++ new.left ≡ old.taken ++ old.left
signs_kept taken is_ended old new t =
    ap (λ (l : List Sign). l ++ new.left) t.taken_is ∙ append_assoc old.taken taken new.left
    ∙ ap (λ (l : List Sign). old.taken ++ l) (sym t.left_is)

pub keeps_its_signs : KeepsItsSigns
keeps_its_signs shows mark session end.Quit entries old new before now s =
    signs_kept s.talk.taken s.talk.is_ended old new s.took
keeps_its_signs shows mark session end.End entries old new before now s =
    signs_kept s.talk.taken s.talk.is_ended old new s.took
keeps_its_signs shows mark session end.ReadFault entries old new before now s =
    signs_kept s.talk.taken s.talk.is_ended old new s.took
keeps_its_signs shows mark session end.WriteFault entries old new before now s =
    signs_kept s.talk.taken s.talk.is_ended old new s.took
keeps_its_signs shows mark session end.Spent entries old new before now s =
    signs_kept s.talk.taken s.talk.is_ended old new s.took
keeps_its_signs shows mark session end.Memory entries old new before now s =
    signs_kept s.talk.taken s.talk.is_ended old new s.took

greeted : (pieces : List (List ℕ)) (written : List ℕ) (old new : Tale) → written ≡ joined (opening_text ∷ pieces)
    → new.written ≡ old.written ++ written → IsPrefix (old.written ++ opening_text) new.written
greeted pieces written old new text is = (
  joined pieces,
  append_assoc old.written opening_text (joined pieces) ∙ ap (λ (l : List ℕ). old.written ++ l) (sym text) ∙ sym is,
)

pub is_greeted : IsGreeted
is_greeted shows mark session end.Quit entries old new before now s fault short =
    greeted s.talk.pieces s.talk.written old new s.wrote.text s.wrote.on_link
is_greeted shows mark session end.End entries old new before now s fault short =
    greeted s.talk.pieces s.talk.written old new s.wrote.text s.wrote.on_link
is_greeted shows mark session end.ReadFault entries old new before now s fault short =
    greeted s.talk.pieces s.talk.written old new s.wrote.text s.wrote.on_link
is_greeted shows mark session end.Spent entries old new before now s fault short =
    greeted s.talk.pieces s.talk.written old new s.wrote.text s.wrote.on_link
is_greeted shows mark session end.WriteFault entries old new before now s fault short = absurd (fault refl)
is_greeted shows mark session end.Memory entries old new before now s fault short = absurd (short refl)

-- a link that tells goes on handed_over
some_told : (old : Tale) (new : Option Tale) (R : Tale → Tale → Type 0) → WhereTold (Some old) new R
    → (tale : Tale) × (new ≡ Some tale)
some_told old None R b = absurd b
some_told old (Some tale) R b = (tale, refl)

pub tells_on : (shows : ℕ → Bool) (mark : Bool) (session : ℕ) (e : LinkEnd) (entries : Log) (old : Tale)
    (new : Option Tale) (before now : ℕ)
    → WasServed shows mark session e entries (handed_over old before) (record { tale = new; faults = now })
    → (tale : Tale) × (new ≡ Some tale)
tells_on shows mark session end.Quit entries old new before now s = some_told old new (λ x y. y.closed ≡ true) s.closed
tells_on shows mark session end.End entries old new before now s = some_told old new (λ x y. y.closed ≡ true) s.closed
tells_on shows mark session end.ReadFault entries old new before now s =
    some_told old new (λ x y. y.closed ≡ true) s.closed
tells_on shows mark session end.WriteFault entries old new before now s =
    some_told old new (λ x y. y.closed ≡ true) s.closed
tells_on shows mark session end.Spent entries old new before now s = some_told old new (λ x y. y.closed ≡ true) s.closed
tells_on shows mark session end.Memory entries old new before now s =
    some_told old new (λ x y. y.closed ≡ true) s.closed

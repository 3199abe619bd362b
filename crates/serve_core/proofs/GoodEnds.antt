-- What follows of how serving ended.
use Rattle.std.proofs.Common.{◌≡◌, ◌⊎◌, ◌*◌, inl, inr, true, false, List, ◌++◌, sym, ap, subst, ◌∙◌}
use Rattle.std.specs.Prelude.{IfSome, Some}
use Rattle.std.specs.declared.option.Option.{Option}
use Rattle.std.specs.declared.option.Option.TheVariants.{None}
use Rattle.edge_traits.specs.Pairs.{Records}
use Rattle.histories.specs.History.{Legal, state}
use Rattle.histories.proofs.Histories.{legal_front, stays_whole, state-append, legal_back}
use Rattle.lobby_shelf.specs.declared.order.Order.{Order}
use Rattle.lobby_shelf.specs.Wanted.{table_with}
use Rattle.lobby_store.specs.Carrying.{held}
use Rattle.one_server.specs.declared.part.Part.{Part}
use Rattle.one_server.specs.House.{house}
use Rattle.one_server.specs.LawfulProof.{house_lawful}
use Rattle.hall_core.specs.Pass.{PassState}
use Rattle.steward_core.specs.declared.turn.StewardEnd.{StewardEnd}
use Rattle.steward_core.specs.declared.turn.StewardEnd.TheVariants as steward
use Rattle.steward_core.specs.Saving.{most_answers}
use Rattle.serve_core.specs.EndLaws.{GoodEndsHadEnough, HoldsAll, LeavesNoGame, NoneLeftOver, OfEveryServer, ShortEndsHadNot, StoresAll}
use Rattle.serve_core.specs.Serving.{AgreesIn, RanShort, TellsAgreed}
use Rattle.serve_core.specs.StewardLaws.{IsDone}
use Rattle.serve_core.specs.Stewarding.{LeavesNoOrders, NoOrders}
use Rattle.serve_turn.specs.Stopping.{IsClean}
use Rattle.serve_core.proofs.DesksOver.{turn_leaves_none}
use Rattle.serve_core.proofs.Ending.{clean_last, text_enough, text_last, text_short}

pub good_ends_had_enough : GoodEndsHadEnough
good_ends_had_enough shows opening end door before after old new pass p clean short =
    let both : true ≡ false =
    sym short ∙ text_enough end pass.short p.last door pass.splits before after p.text clean in
    cc

short_by : (pass : PassState) (last : StewardEnd) → (last ≡ steward.Memory → RanShort pass)
    → (pass.short ≡ true) ⊎ (last ≡ steward.Memory) → RanShort pass
short_by pass last told (inl e) = e
short_by pass last told (inr e) = told e

pub short_ends_had_not : ShortEndsHadNot
short_ends_had_not shows opening end door before after old new pass p is =
    short_by pass p.last (λ e. p.steward.ends.memory (p.steward.ended ∙ e))
    (text_short end pass.short p.last door pass.splits before after p.text is)

last_done : OfEveryServer (λ end last old new pass. IsClean end → IsDone last)
last_done shows opening end door before after old new pass p clean =
    clean_last end p.last (text_last end pass.short p.last door pass.splits before after p.text) clean

pub leaves_no_game : LeavesNoGame
leaves_no_game shows opening end door before after old new pass p clean =
    let s = p.steward in
    let all : Legal house pass.opening (s.earlier ++ s.turn.entries) =
    subst (Legal house pass.opening) s.stands_last p.hall.legal in
    let front : Legal house pass.opening s.earlier = legal_front house pass.opening s.earlier s.turn.entries all in
    let mid = state house pass.opening s.earlier in
    let over : NoneLeftOver (state house mid s.turn.entries) =
    turn_leaves_none s.turn.end s.turn.moment s.turn.entries s.turn.carried mid
    (subst IsDone (sym s.ended) (last_done shows opening end door before after old new pass p clean))
    (stays_whole house house_lawful pass.opening s.earlier p.hall.opens_whole front)
    (legal_back house pass.opening s.earlier s.turn.entries all) s.turn.turn in
    subst NoneLeftOver
    (sym (ap (state house pass.opening) s.stands_last ∙ state-append house pass.opening s.earlier s.turn.entries)) over

-- what the last turn leaves
left_by : (last : StewardEnd) (parts : List Part) → IsDone last → LeavesNoOrders last parts
    → NoOrders parts ⊎ (last ≡ steward.Done (most_answers * 16))
left_by (steward.Done count) parts done (inl none) = inl none
left_by (steward.Done count) parts done (inr most) = inr (ap steward.Done most)
left_by steward.KeeperFault parts done left = absurd done
left_by steward.Memory parts done left = absurd done

-- a table that agrees holds all, where no order stands
holds_all : (told : Option Records) (parts : List Part) → NoOrders parts → TellsAgreed told parts → HoldsAll told parts
holds_all told parts none (table, is, agrees) = (
  table,
  is,
  λ lobby there key.
      sym (ap (λ (orders : List Order). table_with (held table) orders key) (none lobby there))
      ∙ agrees lobby there key,
)

holds_by : (told : Option Records) (parts : List Part) (last : StewardEnd) → TellsAgreed told parts
    → NoOrders parts ⊎ (last ≡ steward.Done (most_answers * 16))
    → HoldsAll told parts ⊎ (last ≡ steward.Done (most_answers * 16))
holds_by told parts last agrees (inl none) = inl (holds_all told parts none agrees)
holds_by told parts last agrees (inr most) = inr most

stores_by : (told told' : Option Records) (opening parts : List Part) (last : StewardEnd)
    → NoOrders parts ⊎ (last ≡ steward.Done (most_answers * 16))
    → IfSome told (λ table. AgreesIn table opening → TellsAgreed told' parts)
    → IfSome told (λ table. AgreesIn table opening → HoldsAll told' parts ⊎ (last ≡ steward.Done (most_answers * 16)))
stores_by None told' opening parts last left kept = tt
stores_by (Some table) told' opening parts last left kept = λ agrees. holds_by told' parts last (kept agrees) left

pub stores_all : StoresAll
stores_all shows opening end door before after old new pass p clean =
    let parts = state house pass.opening pass.seen in
    stores_by old.table new.table pass.opening parts p.last
    (left_by p.last parts (last_done shows opening end door before after old new pass p clean) p.steward.orders) p.store

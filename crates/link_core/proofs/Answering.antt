-- All that came over a link is answered, where nothing failed and memory was enough.
use Rattle.std.proofs.Common.{◌≡◌, ℕ, ◌^◌, ◌<◌, ◌≤◌, inl, inr, Bool, true, false, List, [], ◌++◌, length, map, refl, sym, ap, subst, ◌∙◌, arith, append_assoc, append-nil, length-append, option_to_list}
use Rattle.edge_traits.specs.Link.{Sign, Tale}
use Rattle.histories.specs.History.{IsPrefix}
use Rattle.histories.proofs.Histories.{prefix_trans}
use Rattle.line_reader.specs.Reader.{fresh, rest_to_come}
use Rattle.one_server.specs.Running.{Log}
use Rattle.session_core.specs.declared.input.Input.{Input}
use Rattle.session_core.specs.declared.input.Input.TheVariants.{Line}
use Rattle.link_core.specs.declared.link_end.LinkEnd.TheVariants as end
use Rattle.link_core.specs.Arrivals.{bytes_of, inputs_behind, inputs_of}
use Rattle.link_core.specs.Laws.{AnswersAll, AnswersEachLine, handed_over}
use Rattle.link_core.specs.ServedWhole.{ServedWhole, TakesFrom}
use Rattle.link_core.proofs.Arriving.{come_end, more_open}

-- the inputs of what was taken begin those of all that the link had
first_inputs : (taken left all : List Sign) → all ≡ taken ++ left
    → IsPrefix (inputs_of taken false) (inputs_of all true)
first_inputs taken left all is =
    let rest = map Line (option_to_list (rest_to_come fresh (bytes_of all))) in
    let more = inputs_behind (bytes_of taken) left in (
      more ++ rest,
      sym (append_assoc (inputs_of taken false) more rest)
          ∙ ap (λ (l : List Input). l ++ rest)
          (sym (more_open taken left) ∙ ap (λ (s : List Sign). inputs_of s false) (sym is))
          ∙ sym (come_end all),
    )

-- at its end all was taken
all_taken : (taken : List Sign) (old new : Tale) → TakesFrom taken true old new → (old.left ≡ taken) × (new.left ≡ [])
all_taken taken old new t =
    let none : new.left ≡ [] = t.none_left refl in
    (t.left_is ∙ ap (λ (l : List Sign). taken ++ l) none ∙ append-nil taken, none)

first_of_all : (inputs : List Input) (taken : List Sign) (is_ended : Bool) (old new : Tale)
    → TakesFrom taken is_ended old new → IsPrefix inputs (inputs_of taken is_ended)
    → IsPrefix inputs (inputs_of old.left true)
first_of_all inputs taken true old new t p =
    subst (λ (l : List Sign). IsPrefix inputs (inputs_of l true)) (sym (all_taken taken old new t).0) p
first_of_all inputs taken false old new t p =
    prefix_trans inputs (inputs_of taken false) (inputs_of old.left true) p
    (first_inputs taken new.left old.left t.left_is)

all_inputs : (inputs : List Input) (taken : List Sign) (is_ended : Bool) (old new : Tale)
    → TakesFrom taken is_ended old new → is_ended ≡ true → inputs ≡ inputs_of taken is_ended
    → (inputs ≡ inputs_of old.left true) × (new.left ≡ [])
all_inputs inputs taken true old new t e is =
    (is ∙ ap (λ (l : List Sign). inputs_of l true) (sym (all_taken taken old new t).0), (all_taken taken old new t).1)
all_inputs inputs taken false old new t e is = absurd cc

-- fewer were taken than there were
too_many : (taken : List Sign) (is_ended : Bool) (old new : Tale) → TakesFrom taken is_ended old new
    → 2 ^ 40 ≤ length taken → length old.left < 2 ^ 40 → ⊥
too_many taken is_ended old new t many few = omega (arith, many, few, ap length t.left_is, length-append taken new.left)

module _ (shows : ℕ → Bool) (session : ℕ) (entries : Log) (old new : Tale) (before now : ℕ) where
  at_end : ServedWhole shows session end.End entries (handed_over old before) (handed_over new now)
      → AnswersAll shows session entries old new
  at_end s = record {
    inputs = s.talk.inputs;
    made = s.talk.made;
    pieces = s.talk.pieces;
    memory = s.talk.memory;
    later = s.talk.later;
    talked = s.acts.talked;
    leaves = s.acts.leaves;
    all = s.acts.all;
    written = s.wrote.on_link ∙ ap (λ (l : List ℕ). old.written ++ l) s.wrote.text;
    whole = inl (all_inputs s.talk.inputs s.talk.taken s.talk.is_ended old new s.took s.ended s.acts.answered);
  }

  at_quit : ServedWhole shows session end.Quit entries (handed_over old before) (handed_over new now)
      → AnswersAll shows session entries old new
  at_quit s = record {
    inputs = s.talk.inputs;
    made = s.talk.made;
    pieces = s.talk.pieces;
    memory = s.talk.memory;
    later = s.talk.later;
    talked = s.acts.talked;
    leaves = s.acts.leaves;
    all = s.acts.all;
    written = s.wrote.on_link ∙ ap (λ (l : List ℕ). old.written ++ l) s.wrote.text;
    whole = inr (first_of_all s.talk.inputs s.talk.taken s.talk.is_ended old new s.took s.acts.answered, s.ended);
  }

pub answers_each_line : AnswersEachLine
answers_each_line shows mark session end.Quit entries old new before now s short calm few =
    at_quit shows session entries old new before now s
answers_each_line shows mark session end.End entries old new before now s short calm few =
    at_end shows session entries old new before now s
answers_each_line shows mark session end.ReadFault entries old new before now s short calm few = absurd (calm s.ended)
answers_each_line shows mark session end.WriteFault entries old new before now s short calm few = absurd (calm s.ended)
answers_each_line shows mark session end.Spent entries old new before now s short calm few =
    absurd (too_many s.talk.taken s.talk.is_ended old new s.took s.ended few)
answers_each_line shows mark session end.Memory entries old new before now s short calm few = absurd (short refl)

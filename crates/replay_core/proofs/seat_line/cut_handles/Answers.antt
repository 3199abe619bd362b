use Rattle.std.proofs.Common.{rules, ◌≡◌, ◌∷◌, ◌++◌, [], List, ℕ, sym, ◌∙◌, ap}
use Rattle.std.proofs.lemmas.List.Elements.{All-push}
use Rattle.fics_words.specs.Handle.{IsHandle}
use Rattle.fics_words.specs.Blank.{blank}
use Rattle.replay_core.specs.Words.{words_before}
use Rattle.replay_core.proofs.Seats.{words_before-push}
use Rattle.replay_core.proofs.seat_line.cut_handles.Invariants.{IsCut}
use Rattle.replay_core.proofs.seat_line.cut_handles.Goals as goal

-- the handle at the front of the rest is one name more
one_more : (bytes : List ℕ) (names new : List (List ℕ)) (rest name after read left : List ℕ) → IsCut bytes names rest
    → rest ≡ name ++ blank ∷ after → IsHandle name → read ≡ name → left ≡ after → new ≡ names ++ read ∷ []
    → IsCut bytes new left
one_more bytes names new rest name after read left old parts handle same kept pushed =
    rw (pushed, same, kept) record {
      parts = old.parts ∙ ap (words_before names) parts ∙ sym (words_before-push names name after);
      handles = All-push IsHandle names name old.handles handle;
    }

pub loop-name-preserved : goal.loop-name-preserved
loop-name-preserved c =
    one_more _ _ _ _ c.in-Some.name c.in-Some.after.now _ _ c.loop-name.invariant c.in-Some.ensures.parts
    c.in-Some.ensures.handle (cc) (search rules) c.in_ok-push.ensures.ok

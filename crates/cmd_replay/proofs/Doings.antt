-- What each event of a script does, from what its session did.
use Rattle.std.proofs.Common.{◌≡◌, ℕ, IfOk, Result, List, [], append-nil, refl, sym, ap, subst, ◌∙◌}
use Rattle.std.proofs.lemmas.Result.{IfOk-weaker}
use Rattle.line_reader.specs.declared.incoming.Incoming.TheVariants as incoming
use Rattle.memory.specs.declared.NoMemory.{NoMemory}
use Rattle.one_server.specs.Running.{Log}
use Rattle.one_server.specs.Server.{ServerState}
use Rattle.replay_core.specs.declared.script.ScriptEvent.{ScriptEvent}
use Rattle.replay_core.specs.declared.script.ScriptEvent.TheVariants as event
use Rattle.session_core.specs.declared.input.Input.TheVariants as input
use Rattle.session_core.specs.declared.input.Wrote.{Wrote}
use Rattle.session_core.specs.Memory.{MemoryState}
use Rattle.session_core.specs.Texts.{opening_text}
use Rattle.cmd_replay.specs.Evening.{EventAnswered, HasGone, HasTaken}

-- a session connects
pub connected : (what : ScriptEvent) (session moment : ℕ) (server : ServerState) (memory : MemoryState) (bytes : List ℕ)
    → what ≡ event.Connect → bytes ≡ opening_text
    → EventAnswered what session moment server memory server memory bytes
connected what session moment server memory bytes is text =
    subst (λ (w : ScriptEvent). EventAnswered w session moment server memory server memory bytes) (sym is)
    (record {
      entries = [];
      does = record { text = []; follows = (refl, refl, refl); answer = text };
      more = ap (λ (l : Log). record server { log = l }) (sym (append-nil server.log));
    })

-- a link ends
pub cut : (what : ScriptEvent) (session moment : ℕ) (old new : ServerState) (before after : MemoryState)
    (bytes : List ℕ)
    → what ≡ event.Cut → bytes ≡ []
    → HasGone before session moment old new after → EventAnswered what session moment old before new after bytes
cut what session moment old new before after bytes is none gone =
    subst (λ (w : ScriptEvent). EventAnswered w session moment old before new after bytes) (sym is)
    (record {
      entries = gone.entries;
      does = record { text = []; follows = gone.follows; answer = none };
      more = gone.more;
    })

module _ (result : Result Wrote NoMemory) (what : ScriptEvent) (session moment : ℕ) (old new : ServerState)
    (before after : MemoryState) where
  -- a plain line comes
  pub plain_taken : (text copy : List ℕ) → what ≡ event.Plain text → copy ≡ text
      → IfOk result
      (λ wrote. HasTaken (input.Line (incoming.Plain copy)) session moment old before new after wrote.bytes.items)
      → IfOk result (λ wrote. EventAnswered what session moment old before new after wrote.bytes.items)
  plain_taken text copy is same =
      let copied : what ≡ event.Plain copy = is ∙ ap event.Plain (sym same) in
      IfOk-weaker result _ _
      (λ wrote h.
      subst (λ (w : ScriptEvent). EventAnswered w session moment old before new after wrote.bytes.items) (sym copied)
      (record {
        entries = h.entries;
        does = record { text = h.text; follows = h.follows; answer = h.answer };
        more = h.more;
      }))

  -- a stamped line comes
  pub stamped_taken : (stamp : ℕ) (text copy : List ℕ) → what ≡ event.Stamped stamp text → copy ≡ text
      → IfOk result
      (λ wrote.
      HasTaken (input.Line (incoming.Stamped copy stamp)) session moment old before new after wrote.bytes.items)
      → IfOk result (λ wrote. EventAnswered what session moment old before new after wrote.bytes.items)
  stamped_taken stamp text copy is same =
      let copied : what ≡ event.Stamped stamp copy = is ∙ ap (event.Stamped stamp) (sym same) in
      IfOk-weaker result _ _
      (λ wrote h.
      subst (λ (w : ScriptEvent). EventAnswered w session moment old before new after wrote.bytes.items) (sym copied)
      (record {
        entries = h.entries;
        does = record { text = h.text; follows = h.follows; answer = h.answer };
        more = h.more;
      }))

-- The entries by which a session served a link tell no save orders as saved, also where memory ran out.
use Rattle.std.proofs.Common.{◌≡◌, ◌⊎◌, ℕ, Bool, List, [], ◌∷◌, ◌++◌, sym, subst, inl, inr}
use Rattle.link_core.specs.ServedInPart.{BreaksOff, IsMidway, LeavesInPart, LeavesShort, QuitsShort, ServedInPart, WasServed}
use Rattle.link_core.specs.ServedWhole.{Dialogue, ServedWhole, inputs_taken}
use Rattle.link_core.specs.Talk.{Talks}
use Rattle.link_core.specs.declared.link_end.LinkEnd.{LinkEnd}
use Rattle.link_core.specs.declared.link_end.LinkEnd.TheVariants as link_end
use Rattle.edge_traits.specs.Link.{Handed}
use Rattle.one_server.specs.Running.{Log}
use Rattle.session_core.specs.declared.input.Input.{Input}
use Rattle.session_core.specs.Course.{Done}
use Rattle.session_core.specs.Going.{departing}
use Rattle.session_core.specs.Inputs.{input_course}
use Rattle.session_core.specs.Memory.{MemoryState, has_entered, newcomer}
use Rattle.session_core.specs.Session.{leaving_course}
use Rattle.session_laws.proofs.NeverSaving.{NeverSaves, never_either, none_begun, none_followed, none_joined, none_passed}
use Rattle.session_laws.proofs.OfCommands.{never_leaving}
use Rattle.session_laws.proofs.OfInputs.{never_input}
use Rattle.session_laws.specs.WhoSaves.{LinksNeverSave, NoneSaves}

never_departing : (memory : MemoryState) → NeverSaves (departing memory)
never_departing memory =
    never_either (has_entered memory) (leaving_course memory) (Done memory) (never_leaving memory) tt

module _ (shows : ℕ → Bool) (mark : Bool) (session : ℕ) where
  -- the entries for inputs that were answered
  none_talked : (inputs : List Input) (before after : MemoryState) (made : Log) (pieces : List (List ℕ))
      → Talks shows session inputs before made pieces after → NoneSaves made
  none_talked [] before after made pieces t = subst NoneSaves (sym t.0) tt
  none_talked (input ∷ inputs) before after made [] t = absurd t
  none_talked (input ∷ inputs) before after made (piece ∷ pieces) t =
      subst NoneSaves (sym t.3) (none_joined t.0 t.1
      (none_followed session t.4.moment (input_course input before) t.0 t.4.text t.2
      (never_input input before) t.4.follows)
      (none_talked inputs t.2 after t.1 pieces t.5))

  -- those behind them
  none_left : (memory : MemoryState) (made : Log) → LeavesShort shows mark session memory made → NoneSaves made
  none_left memory made l = none_passed session l.moment mark (departing memory) made (never_departing memory) l.passes

  none_midway : (inputs come : List Input) (memory there : MemoryState) (begun : Log)
      → IsMidway shows session inputs come memory there begun → NoneSaves begun
  none_midway inputs come memory there begun (inl nothing) = subst NoneSaves (sym nothing.0) tt
  none_midway inputs come memory there begun (inr b) =
      none_begun session b.moment (input_course b.next memory) begun (never_input b.next memory) b.begins

  none_broken : (inputs come : List Input) (memory : MemoryState) (made : Log)
      → BreaksOff shows mark session inputs come memory made ⊎ QuitsShort shows mark session inputs come memory made
      → NoneSaves made
  none_broken inputs come memory made (inl b) =
      subst NoneSaves (sym b.made_is) (none_joined b.begun b.left
      (none_midway inputs come memory b.there b.begun b.midway) (none_left b.there b.left b.leaves))
  none_broken inputs come memory made (inr q) =
      none_passed session q.moment mark (leaving_course q.there) made (never_leaving q.there) q.passes

  none_later : (end : LinkEnd) (talk : Dialogue) → LeavesInPart end shows mark session talk → NoneSaves talk.later
  none_later link_end.Quit talk l = none_left talk.memory talk.later l
  none_later link_end.End talk l = none_left talk.memory talk.later l
  none_later link_end.ReadFault talk l = none_left talk.memory talk.later l
  none_later link_end.WriteFault talk l = none_left talk.memory talk.later l
  none_later link_end.Spent talk l = none_left talk.memory talk.later l
  none_later link_end.Memory talk l = none_broken talk.inputs (inputs_taken talk) talk.memory talk.later l

  none_acted : (talk : Dialogue) (entries : Log) → entries ≡ talk.made ++ talk.later
      → Talks shows session talk.inputs newcomer talk.made talk.pieces talk.memory → NoneSaves talk.later
      → NoneSaves entries
  none_acted talk entries all talked later =
      subst NoneSaves (sym all) (none_joined talk.made talk.later
      (none_talked talk.inputs newcomer talk.memory talk.made talk.pieces talked) later)

  -- a link that was served whole, and one that was served in part
  none_whole : (end : LinkEnd) (entries : Log) (old new : Handed) → ServedWhole shows session end entries old new
      → NoneSaves entries
  none_whole end entries old new s =
      let l = s.acts.leaves in
      none_acted s.talk entries s.acts.all s.acts.talked
      (none_followed session l.moment (departing s.talk.memory) s.talk.later [] l.after
      (never_departing s.talk.memory) l.follows)

  none_in_part : (entries : Log) (old new : Handed) → ServedInPart shows mark session entries old new
      → NoneSaves entries
  none_in_part entries old new s =
      none_acted s.talk entries s.acts.all s.acts.talked (none_later s.stopped s.talk s.acts.leaves)

  pub none_served : (end : LinkEnd) (entries : Log) (old new : Handed)
      → WasServed shows mark session end entries old new → NoneSaves entries
  none_served link_end.Quit entries old new s = none_whole link_end.Quit entries old new s
  none_served link_end.End entries old new s = none_whole link_end.End entries old new s
  none_served link_end.ReadFault entries old new s = none_whole link_end.ReadFault entries old new s
  none_served link_end.WriteFault entries old new s = none_whole link_end.WriteFault entries old new s
  none_served link_end.Spent entries old new s = none_whole link_end.Spent entries old new s
  none_served link_end.Memory entries old new s = none_in_part entries old new s

pub links_never_save : LinksNeverSave
links_never_save session calls s = none_served s.shows s.mark session s.end calls s.came s.back s.served

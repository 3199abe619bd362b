use Rattle.std.proofs.Common.{◌≡◌, ◌-◌, List, Some, refl, ap, subst, slice_get, slice_set}
use Rattle.one_server.specs.Server.{ServerState}
use Rattle.session_core.specs.Memory.{MemoryState}
use Rattle.cmd_replay.specs.Evening.{EveningState, HasDone, IsNextLine, IsNoNext}
use Rattle.cmd_replay.proofs.EveningAnswers.{no_coming, coming_taken}
use Rattle.cmd_replay.proofs.evening.Evening.take_event.Goals as goal

pub returns-in_default : goal.returns-in_default
returns-in_default c =
    let no_next : IsNoNext c.args.order c.args.line.now = rw c.in_default.is at c.in_ok-next.ensures.none in (
      refl,
      no_coming c.args.self.now c.args.order c.args.line.now c.requires.order c.requires.some no_next
          c.requires.no_seat,
    )

pub returns : goal.returns
returns c =
    let old = c.args.self.now in
    let line = c.args.line.now in
    let next = c.in-Some.next in
    let kept = c.answer_event.new.session in
    let new : EveningState =
    record {
      server = c.answer_event.new.server;
      order = Some c.note.new.self;
      moment = next.moment;
      memories = slice_set c.self.inside.sessions (next.session - 1) kept;
    } in
    let server = ap (λ (v : EveningState). v.server) c.self.view_is in
    let is_next : IsNextLine c.args.order line next = rw c.in-Some.is at c.in_ok-next.ensures.next in
    let before = c.item_mut.result.now in
    let memories = ap (λ (v : EveningState). v.memories) c.self.view_is in
    let took : slice_get old.memories (next.session - 1) ≡ Some before =
    subst (λ (m : List MemoryState). slice_get m (next.session - 1) ≡ Some before) memories c.item_mut.ensures.value in
    let put : new.memories ≡ slice_set old.memories (next.session - 1) kept =
    ap (λ (m : List MemoryState). slice_set m (next.session - 1) kept) memories in
    let done : HasDone next.event next.session next.moment old.server before c.args.out.now.items new.server kept
    c.answer_event.new.out.items =
    subst (λ (s : ServerState).
    HasDone next.event next.session next.moment s before c.args.out.now.items new.server kept
    c.answer_event.new.out.items)
    server c.in_ok-quit.ensures.done in
    coming_taken old new line next c.args.order c.note.new.self before kept c.args.out.now.items
    c.answer_event.new.out.items c.in_ok-quit.quit c.requires.order c.requires.some c.requires.line is_next took put
    done
    c.in_ok-quit.ensures.quit c.history-history.ensures.legal refl c.note.ensures refl

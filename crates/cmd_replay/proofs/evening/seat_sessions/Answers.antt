use Rattle.std.proofs.Common.{◌+◌, ℕ, List, drop, slice_set, sym, ap, ◌∙◌, arith}
use Rattle.std.proofs.lemmas.List.{drop_all, drop_more, length-set}
use Rattle.session_core.specs.Memory.{MemoryState, seated_memory}
use Rattle.cmd_replay.specs.Evening.{seated_from}
use Rattle.cmd_replay.proofs.evening.seat_sessions.Goals as goal

pub loop-place-preserved : goal.loop-place-preserved
loop-place-preserved c =
    let names = c.args.names.now in
    let place = c.loop-place.place in
    let sessions = c.loop-place.sessions in
    let name = c.index-names-place.result in
    let rest = drop (place + 1) names in
    record {
      due =
          ap (λ (m : MemoryState). seated_from (place + 1) rest (slice_set sessions place m)) c.seated.ensures
          ∙ ap (λ (x : List ℕ). seated_from (place + 1) rest (slice_set sessions place (seated_memory x)))
          c.index-names-place.is
          ∙ sym
          (ap (λ (l : List (List ℕ)). seated_from place l sessions) (drop_more names place name c.loop-place-test.true))
          ∙ c.loop-place.invariant.due;
      count = length-set sessions place c.seated.result ∙ c.loop-place.invariant.count;
    }

pub returns : goal.returns
returns c =
    let out = c.loop-place-test.false in
    sym (ap (λ (l : List (List ℕ)). seated_from c.loop-place.place l c.loop-place.sessions)
    (drop_all c.loop-place.place c.args.names.now (omega (arith, out))))
    ∙ c.loop-place.invariant.due

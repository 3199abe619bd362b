use Rattle.std.proofs.Common.{arith, rules, ◌≡◌, ◌≢◌, ℕ, suc, ◌+◌, ◌<◌, length, get_or, None, slice_set, not, Some, refl, sym, ap, ◌∙◌}
use Rattle.chess_model.specs.FischerArrays.{Files}
use Rattle.chess_model.proofs.OnFree.{on_free_from, from_first, past_held, past_free, at_free, past_all, free_at, held_at}
use Rattle.chess_model.proofs.home_rank.on_free.Goals.{then-is_none+else-left-eq0, else-is_none}
use Rattle.chess_model.proofs.home_rank.on_free.Goals as goal

pub loop-file-init : goal.loop-file-init
loop-file-init c = record { same = refl; rest = from_first c.args.kind c.args.index c.args.files }

pub returns-then-left-eq0 : goal.returns-then-left-eq0
returns-then-left-eq0 c =
    let less : c.loop-file.file < length c.args.files = search rules in
    let free : get_or c.args.files c.loop-file.file None ≡ None =
    free_at c.loop-file.set c.args.files c.loop-file.file c.loop-file.invariant.same
    (c.is_none.ensures ∙ ap not c.if-is_none.true) in
    ap (λ (t : Files). slice_set t c.loop-file.file (Some c.args.kind)) c.loop-file.invariant.same
    ∙ at_free c.loop-file.file c.args.kind c.args.files less free
    ∙ ap (λ (n : ℕ). on_free_from c.loop-file.file c.args.kind n c.args.files) (sym c.if-left-eq0.true)
    ∙ c.loop-file.invariant.rest

pub loop-file-preserved : goal.loop-file-preserved
loop-file-preserved c =
    let less : c.loop-file.file < length c.args.files = search rules in
    elim c.if-is_none.branch [
      | then-is_none+else-left-eq0 w ↦
          let free : get_or c.args.files c.loop-file.file None ≡ None =
          free_at c.loop-file.set c.args.files c.loop-file.file c.loop-file.invariant.same
          (c.is_none.ensures ∙ ap not w.if-is_none.true) in
          let one : suc c.if-is_none.left ≡ c.loop-file.left = omega (arith, w.left-is, w.if-left-eq0.false) in
          record {
            same = c.loop-file.invariant.same;
            rest = past_free c.loop-file.file c.args.kind c.if-is_none.left c.args.files less free
                ∙ ap (λ (n : ℕ). on_free_from c.loop-file.file c.args.kind n c.args.files) one
                ∙ c.loop-file.invariant.rest;
          }
      | else-is_none w ↦
          let held : get_or c.args.files c.loop-file.file None ≢ None =
          held_at c.loop-file.set c.args.files c.loop-file.file c.loop-file.invariant.same
          (c.is_none.ensures ∙ ap not w.if-is_none.false) in
          record {
            same = c.loop-file.invariant.same;
            rest = ap (λ (n : ℕ). on_free_from (c.loop-file.file + 1) c.args.kind n c.args.files) w.left-is
                ∙ past_held c.loop-file.file c.args.kind c.loop-file.left c.args.files less held
                ∙ c.loop-file.invariant.rest;
          }
    ]

pub returns : goal.returns
returns c =
    let size : length c.args.files ≡ 8 = search rules in
    c.loop-file.invariant.same
    ∙ sym
    (past_all c.loop-file.file c.args.kind c.loop-file.left c.args.files (omega (arith, size, c.loop-file-test.false)))
    ∙ c.loop-file.invariant.rest

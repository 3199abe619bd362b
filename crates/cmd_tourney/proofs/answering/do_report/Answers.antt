use Rattle.std.proofs.Common.{◌≡◌, ◌++◌, ℕ, List, OnOk, sym, ap, subst, ◌∙◌}
use Rattle.fics_words.specs.Effect.{answer_of, state_of}
use Rattle.fics_words.specs.Handle.{key_of}
use Rattle.tourney_desk.specs.Tourney.{reporting}
use Rattle.cmd_tourney.specs.Texts.{told_text, done_text}
use Rattle.cmd_tourney.proofs.LineAnswers.{on_ok}
use Rattle.cmd_tourney.proofs.answering.do_report.Goals as goal

pub returns-in-Ok-clause-after : goal.returns-in-Ok-clause-after
returns-in-Ok-clause-after c =
    let t = c.args.tourney.now in
    on_ok c.put_done.result _
    (c.report.ensures.after ∙ ap (λ k. state_of t (reporting t k c.key-2.result c.args.score)) c.key.ensures
    ∙ ap (λ k. state_of t (reporting t (key_of c.args.white) k c.args.score)) c.key-2.ensures)

pub returns-in-Err-clause-after : goal.returns-in-Err-clause-after
returns-in-Err-clause-after c =
    let t = c.args.tourney.now in
    on_ok c.put_refusal.result _
    (c.report.ensures.after ∙ ap (λ k. state_of t (reporting t k c.key-2.result c.args.score)) c.key.ensures
    ∙ ap (λ k. state_of t (reporting t (key_of c.args.white) k c.args.score)) c.key-2.ensures)

pub returns-in-Ok-clause-text : goal.returns-in-Ok-clause-text
returns-in-Ok-clause-text c =
    let t = c.args.tourney.now in
    let answer =
    sym c.in-Ok.is ∙ c.report.ensures.answer
    ∙ ap (λ k. answer_of (reporting t k c.key-2.result c.args.score)) c.key.ensures
    ∙ ap (λ k. answer_of (reporting t (key_of c.args.white) k c.args.score)) c.key-2.ensures in
    subst (λ (l : List ℕ). OnOk c.put_done.result (c.put_done.new.out.items ≡ c.args.out.now.items ++ l))
    (ap (told_text done_text) answer) c.put_done.ensures

pub returns-in-Err-clause-text : goal.returns-in-Err-clause-text
returns-in-Err-clause-text c =
    let t = c.args.tourney.now in
    let answer =
    sym c.in-Err.is ∙ c.report.ensures.answer
    ∙ ap (λ k. answer_of (reporting t k c.key-2.result c.args.score)) c.key.ensures
    ∙ ap (λ k. answer_of (reporting t (key_of c.args.white) k c.args.score)) c.key-2.ensures in
    subst (λ (l : List ℕ). OnOk c.put_refusal.result (c.put_refusal.new.out.items ≡ c.args.out.now.items ++ l))
    (ap (told_text done_text) answer) c.put_refusal.ensures

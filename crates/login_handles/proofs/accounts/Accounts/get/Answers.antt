use Rattle.std.proofs.Common.{ap, ◌∙◌}
use Rattle.login_handles.specs.Accounts.{account_of}
use Rattle.login_handles.proofs.AccountLists.{found_turned}
use Rattle.login_handles.proofs.accounts.Accounts.get.Goals as goal

pub returns : goal.returns
returns c =
    c.copied.ensures ∙ c.get.ensures ∙ found_turned c.self.inside.rows c.args.name
    ∙ ap (λ rows. account_of rows c.args.name) c.self.view_is

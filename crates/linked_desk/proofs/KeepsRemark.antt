-- What a remark keeps.
use Rattle.std.proofs.Common.{ℕ, ◌+◌, [], ◌∷◌, ◌++◌, true, List, refl, arith}
use Rattle.std.proofs.lemmas.List.Elements.{All-push}
use Rattle.style12_writer.specs.declared.item.Item.TheVariants.{Talk}
use Rattle.linked_desk.specs.Desk.{GameState, moment_at}
use Rattle.linked_desk.specs.Remark.{remark_effect}
use Rattle.linked_desk.specs.Sound.{NamesWinner}
use Rattle.linked_desk.proofs.Keeps.{Keeps, IsSound-later, timely_at}

pub Keeps-remark_effect : (g : GameState) (session moment : ℕ) (text : List ℕ)
    → Keeps g moment (Unit {0}) true (remark_effect g session moment text)
Keeps-remark_effect g session moment text = record {
  step = record {
    players = refl;
    sound = λ c s.
        IsSound-later g (g.feed ++ Talk text ∷ []) g.viewers (g.remarks + 1) (moment_at g moment) g.offers g.tally
        (omega arith) (timely_at g moment c.0 s)
        (All-push NamesWinner g.feed (Talk text) s.winners tt) s;
  };
  tells = λ s. tt;
  memory = refl;
}

-- No act of a worker, and one act more.
use Rattle.std.proofs.Common.{◌≡◌, ℕ, ◌+◌, ◌*◌, [], ◌∷◌, ◌++◌, refl, ap, ◌∙◌, arith}
use Rattle.histories.specs.History.{entry}
use Rattle.turn_table.specs.declared.view.View.{View}
use Rattle.turn_counters.specs.declared.bump.Bump.{Bump}
use Rattle.turn_counters.specs.Worked.{MadeOne}
use Rattle.turn_workers.specs.Many.{weigh, MadeMany}
use Rattle.turn_workers.proofs.Weighing.{weigh_append}

pub made_none : (a : Bump) (v : View ℕ Bump ℕ) → v.held ≡ [] → MadeMany a 0 v v
made_none a v empty = record { keeps = record { number = refl; joined = refl; idle = empty }; made = λ f. omega arith }

pub made_more : (a : Bump) (n : ℕ) (v w u : View ℕ Bump ℕ) → MadeMany a n v w → MadeOne a w u → MadeMany a (n + 1) v u
made_more a n v w u many one = record {
  keeps =
      record {
        number = one.keeps.number ∙ many.keeps.number;
        joined = one.keeps.joined ∙ many.keeps.joined;
        idle = one.keeps.idle;
      };
  made = λ f.
      let e : weigh f u.made ≡ weigh f (w.made ++ entry w.number a one.reply ∷ []) = ap (weigh f) one.made in
      let g : weigh f (w.made ++ entry w.number a one.reply ∷ []) ≡ weigh f w.made + (f a + 0) =
      weigh_append f w.made (entry w.number a one.reply ∷ []) in
      let h : weigh f w.made ≡ weigh f v.made + n * f a = many.made f in
      omega arith;
}

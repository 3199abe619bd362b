use Rattle.std.proofs.Common.{ℕ, List, Option, refl, sym, ap, subst, ◌∙◌}
use Rattle.std.specs.Prelude.{map, string_bytes}
use Rattle.cmd_job.specs.Jobs.{IsCount, IsPort}
use Rattle.cmd_job.proofs.JobsNamed.{bound_to, no_count, no_port}
use Rattle.cmd_job.proofs.reading.read_serve.Goals as goal

pub returns-in_default-clause-usage : goal.returns-in_default-clause-usage
returns-in_default-clause-usage c = λ port bind store count h. c.in_default.ensures.none h.values h.says

pub returns-in_default-read_port-clause-usage : goal.returns-in_default-read_port-clause-usage
returns-in_default-read_port-clause-usage c =
    no_port (map string_bytes c.args.words.now) c.in-Some.values c.in-Some.ensures.some
    (subst (λ (v : Option (List ℕ)). (port : ℕ) → IsPort v port → ⊥) c.value.ensures
    c.in_default-read_port.ensures.none)

pub returns-in_default-read_count-clause-usage : goal.returns-in_default-read_count-clause-usage
returns-in_default-read_count-clause-usage c =
    no_count (map string_bytes c.args.words.now) c.in-Some.values c.in-Some.ensures.some
    (subst (λ (v : Option (List ℕ)). (count : Option ℕ) → IsCount v count → ⊥) c.value-2.ensures
    c.in_default-read_count.ensures.none)

pub returns-clause-job : goal.returns-clause-job
returns-clause-job c = (
  c.in-Some-read_port.port,
  c.in_ok-bind.bind,
  c.in_ok-store.store,
  c.in-Some-read_count.count,
  record {
    values = c.in-Some.values;
    says = c.in-Some.ensures.some;
    port_is =
        subst (λ (v : Option (List ℕ)). IsPort v c.in-Some-read_port.port) c.value.ensures
        c.in-Some-read_port.ensures.some;
    bind_is =
        bound_to c.value-3.result _ c.in-Some.values.bind (string_bytes c.in_ok-bind.bind) c.value-3.ensures refl
        (c.in_ok-bind.ensures.ok ∙ ap (λ b. b.now) c.unwrap_or.ensures);
    store_is = sym c.value-4.ensures ∙ sym c.in_ok-store.ensures;
    count_is =
        subst (λ (v : Option (List ℕ)). IsCount v c.in-Some-read_count.count) c.value-2.ensures
        c.in-Some-read_count.ensures.some;
  },
  refl,
)

use Rattle.std.proofs.Common.{◌≡◌, ◌+◌, ◌-◌, ◌<◌, ℕ, List, ◌++◌, take, drop, length, sym, ap, ◌∙◌, arith, take-append-drop, length-drop}
use Rattle.std.proofs.lemmas.List.{drop-drop}
use Rattle.memory_edges.specs.Stock.{Stock}
use Rattle.memory_edges.proofs.mem_source.MemSourceSource.read.Goals as goal

-- what is left begins with what is given
split_left : (at n : ℕ) (bytes : List ℕ) → drop at bytes ≡ take n (drop at bytes) ++ drop (at + n) bytes
split_left at n bytes =
    sym (take-append-drop n (drop at bytes)) ∙ ap (λ rest. take n (drop at bytes) ++ rest) (drop-drop n at bytes)

pub returns-clause-took : goal.returns-clause-took
returns-clause-took c =
    let at = c.self.inside.at in
    let bytes = c.self.inside.bytes.items in
    let left : c.args.self.now.left ≡ drop at bytes = sym (ap (λ (s : Stock). s.left) c.self.view_is) in
    let all : c.split_at.result.1.now ≡ drop at bytes = c.split_at.ensures.back ∙ ap (drop at) c.deref.ensures.value in
    let given : take c.give-n.result c.give-n.new.buf ≡ take c.give-n.result (drop at bytes) =
    c.give-n.ensures.given ∙ ap (take c.give-n.result) all in
    let long : length c.split_at.result.1.now ≡ length bytes - at = ap length all ∙ length-drop at bytes in
    let some : 0 < c.give-n.result = omega (arith, c.give-n.ensures.count, c.if-self-len.false, c.len.ensures) in (
      some,
      omega (arith, c.give-n.ensures.count),
      left ∙ split_left at c.give-n.result bytes ∙ ap (λ front. front ++ drop (at + c.give-n.result) bytes) (sym given),
    )

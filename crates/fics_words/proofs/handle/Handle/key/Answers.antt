use Rattle.std.proofs.Common.{◌≡◌, ℕ, List, take, sym, ap, subst, ◌∙◌}
use Rattle.fics_words.specs.Handle.{key_of, HoldsHandle}
use Rattle.fics_words.proofs.Padding.{HoldsHandle-lowercase, key_of-key_of}
use Rattle.fics_words.proofs.handle.Handle.key.Goals as goal

pub invariant_of-result : goal.invariant_of-result
invariant_of-result c =
    let e = sym c.make_ascii_lowercase.ensures.after in
    subst (λ (field : List ℕ). HoldsHandle field c.self.inside.len) e (HoldsHandle-lowercase _ _ c.self.invariant).0

pub invariant_of-result-2 : goal.invariant_of-result-2
invariant_of-result-2 c =
    let e = sym c.make_ascii_lowercase.ensures.after in
    let lower = sym (HoldsHandle-lowercase _ _ c.self.invariant).1 in
    let P : List ℕ → Type 0 = λ letters. key_of letters ≡ letters in
    subst (λ (field : List ℕ). P (take c.self.inside.len field)) e (subst P lower (key_of-key_of _))

pub returns : goal.returns
returns c =
    let e = sym c.make_ascii_lowercase.ensures.after in
    subst (λ (field : List ℕ). take c.self.inside.len field ≡ key_of c.args.self.now) e
    ((HoldsHandle-lowercase _ _ c.self.invariant).1 ∙ ap key_of c.self.view_is)

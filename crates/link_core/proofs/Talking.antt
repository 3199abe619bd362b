-- One more input answered.
use Rattle.std.proofs.Common.{◌≡◌, ℕ, Bool, List, [], ◌∷◌, ◌++◌, refl, sym, ap, subst, ◌∙◌, append_assoc, append-nil}
use Rattle.histories.specs.History.{IsPrefix}
use Rattle.one_server.specs.Running.{Log}
use Rattle.session_core.specs.declared.input.Input.{Input}
use Rattle.session_core.specs.Memory.{MemoryState}
use Rattle.link_core.specs.Talk.{Answers, Talks, joined}

pub prefix_further : {T : Type 0} (xs ys more : List T) → IsPrefix xs ys → IsPrefix xs (ys ++ more)
prefix_further xs ys more p = (p.0 ++ more, sym (append_assoc xs p.0 more) ∙ ap (λ l. l ++ more) p.1)

module _ (shows : ℕ → Bool) (session : ℕ) where
  -- behind inputs that were answered another one was
  pub talks_then : (inputs : List Input) (input : Input) (before mid after : MemoryState) (made now : Log)
      (pieces : List (List ℕ)) (piece : List ℕ)
      → Talks shows session inputs before made pieces mid
      → Answers shows session input mid now piece after
      → Talks shows session (inputs ++ input ∷ []) before (made ++ now) (pieces ++ piece ∷ []) after
  talks_then [] input before mid after made now pieces piece t a =
      subst (λ (l : Log). Talks shows session (input ∷ []) before (l ++ now) (pieces ++ piece ∷ []) after) (sym t.0)
      (subst (λ (ps : List (List ℕ)). Talks shows session (input ∷ []) before now (ps ++ piece ∷ []) after) (sym t.1) (
        now,
        [],
        after,
        sym (append-nil now),
        subst (λ (m : MemoryState). Answers shows session input m now piece after) t.2 a,
        (refl, refl, refl),
      ))
  talks_then (first ∷ inputs) input before mid after made now [] piece t a = absurd t
  talks_then (first ∷ inputs) input before mid after made now (p ∷ pieces) piece t a = (
    t.0,
    t.1 ++ now,
    t.2,
    ap (λ (l : Log). l ++ now) t.3 ∙ append_assoc t.0 t.1 now,
    t.4,
    talks_then inputs input t.2 mid after t.1 now pieces piece t.5 a,
  )

-- the text with one piece more
pub joined_then : (pieces : List (List ℕ)) (piece : List ℕ) → joined (pieces ++ piece ∷ []) ≡ joined pieces ++ piece
joined_then [] piece = append-nil piece
joined_then (p ∷ pieces) piece =
    ap (λ (l : List ℕ). p ++ l) (joined_then pieces piece) ∙ sym (append_assoc p (joined pieces) piece)

-- the last of some pieces
pub record HasLast (pieces : List (List ℕ)) : Type 0 where
  pub whole : List (List ℕ)
  pub last : List ℕ
  pub is : pieces ≡ whole ++ last ∷ []

pub last_of : (piece : List ℕ) (pieces : List (List ℕ)) → HasLast (piece ∷ pieces)
last_of piece [] = record { whole = []; last = piece; is = refl }
last_of piece (next ∷ pieces) =
    let rest = last_of next pieces in
    record { whole = piece ∷ rest.whole; last = rest.last; is = ap (λ (l : List (List ℕ)). piece ∷ l) rest.is }

-- What the steps of a link give, step by step.
use Rattle.std.proofs.Common.{◌≡◌, ℕ, ◌+◌, ◌-◌, ◌^◌, ◌<◌, ◌≤◌, List, [], ◌∷◌, ◌++◌, length, map, take, drop, refl, sym, ap, ◌∙◌, arith, append_assoc, append-nil, take-append-drop}
use Rattle.std.proofs.Math.Seq.{take-add}
use Rattle.std.proofs.Math.ListN.{drop_of_length-le}
use Rattle.std.proofs.lemmas.List.{drop-drop, map-append, take_all, length-drop}
use Rattle.edge_traits.specs.Link.{Sign, Byte, Pause}
use Rattle.memory_edges.specs.Wire.{signs_in, front_of, rest_of_wire, taken_at, left_at, IsSeen}
use Rattle.memory_edges.specs.declared.steps.Look.TheVariants.{Gives, Pauses, Passes, Ends}
use Rattle.memory_edges.specs.declared.steps.LinkStep.{LinkStep}
use Rattle.memory_edges.specs.declared.steps.LinkStep.TheVariants.{Piece, Quiet}

signs_in-append : (a b : List LinkStep) → signs_in (a ++ b) ≡ signs_in a ++ signs_in b
signs_in-append [] b = refl
signs_in-append (Piece bytes ∷ a) b =
    ap (λ (x : List Sign). map Byte bytes.items ++ x) (signs_in-append a b)
    ∙ sym (append_assoc (map Byte bytes.items) (signs_in a) (signs_in b))
signs_in-append (Quiet ∷ a) b = ap (λ (x : List Sign). Pause ∷ x) (signs_in-append a b)

front_of-none : (steps : List LinkStep) → front_of 0 steps ≡ []
front_of-none [] = refl
front_of-none (Piece bytes ∷ steps) = refl
front_of-none (Quiet ∷ steps) = refl

rest_of-none : (steps : List LinkStep) → rest_of_wire 0 steps ≡ signs_in steps
rest_of-none [] = refl
rest_of-none (Piece bytes ∷ steps) = refl
rest_of-none (Quiet ∷ steps) = refl

-- the steps behind one
pub behind_one : (steps more : List LinkStep) (i : ℕ) (step : LinkStep) → drop i steps ≡ step ∷ more
    → drop (i + 1) steps ≡ more
behind_one steps more i step e = sym (drop-drop 1 i steps) ∙ ap (drop 1) e

up_to_one : (steps more : List LinkStep) (i : ℕ) (step : LinkStep) → drop i steps ≡ step ∷ more
    → take (i + 1) steps ≡ take i steps ++ step ∷ []
up_to_one steps more i step e = take-add i 1 steps ∙ ap (λ (x : List LinkStep). take i steps ++ take 1 x) e

-- the spot behind a step
pub left_at-next : (steps more : List LinkStep) (i : ℕ) (step : LinkStep) → drop i steps ≡ step ∷ more
    → left_at steps (record { step = i + 1; offset = 0 }) ≡ signs_in more
left_at-next steps more i step e = ap (rest_of_wire 0) (behind_one steps more i step e) ∙ rest_of-none more

pub taken_at-next : (steps more : List LinkStep) (i : ℕ) (step : LinkStep) → drop i steps ≡ step ∷ more
    → taken_at steps (record { step = i + 1; offset = 0 }) ≡ signs_in (take i steps) ++ signs_in (step ∷ [])
taken_at-next steps more i step e =
    ap (λ (x : List Sign). signs_in (take (i + 1) steps) ++ x) (front_of-none (drop (i + 1) steps))
    ∙ append-nil (signs_in (take (i + 1) steps))
    ∙ ap signs_in (up_to_one steps more i step e) ∙ signs_in-append (take i steps) (step ∷ [])

-- a pause was given
pub pause-left : (steps more : List LinkStep) (i o : ℕ) → drop i steps ≡ Quiet ∷ more
    → left_at steps (record { step = i; offset = o }) ≡ Pause ∷ left_at steps (record { step = i + 1; offset = 0 })
pause-left steps more i o e =
    ap (rest_of_wire o) e ∙ ap (λ (x : List Sign). Pause ∷ x) (sym (left_at-next steps more i Quiet e))

pub pause-taken : (steps more : List LinkStep) (i o : ℕ) → drop i steps ≡ Quiet ∷ more
    → taken_at steps (record { step = i + 1; offset = 0 })
    ≡ taken_at steps (record { step = i; offset = o }) ++ Pause ∷ []
pause-taken steps more i o e =
    taken_at-next steps more i Quiet e
    ∙ ap (λ (x : List Sign). x ++ Pause ∷ [])
    (sym (append-nil (signs_in (take i steps)))
    ∙ ap (λ (x : List Sign). signs_in (take i steps) ++ x) (sym (ap (front_of o) e)))

-- a piece was given to its end
pub pass-left : (steps more : List LinkStep) (i o : ℕ) (bytes : _) → drop i steps ≡ Piece bytes ∷ more
    → length bytes.items ≤ o
    → left_at steps (record { step = i + 1; offset = 0 }) ≡ left_at steps (record { step = i; offset = o })
pass-left steps more i o bytes e all =
    left_at-next steps more i (Piece bytes) e
    ∙ ap (λ (x : List ℕ). map Byte x ++ signs_in more) (sym (drop_of_length-le bytes.items all))
    ∙ sym (ap (rest_of_wire o) e)

pub pass-taken : (steps more : List LinkStep) (i o : ℕ) (bytes : _) → drop i steps ≡ Piece bytes ∷ more
    → length bytes.items ≤ o
    → taken_at steps (record { step = i + 1; offset = 0 }) ≡ taken_at steps (record { step = i; offset = o })
pass-taken steps more i o bytes e all =
    taken_at-next steps more i (Piece bytes) e
    ∙ ap (λ (x : List Sign). signs_in (take i steps) ++ x) (append-nil (map Byte bytes.items))
    ∙ ap (λ (x : List ℕ). signs_in (take i steps) ++ map Byte x) (sym (take_all o bytes.items all))
    ∙ ap (λ (x : List Sign). signs_in (take i steps) ++ x) (sym (ap (front_of o) e))

-- bytes of a piece were given
pub give-left : (steps more : List LinkStep) (i o n : ℕ) (bytes : _) → drop i steps ≡ Piece bytes ∷ more
    → left_at steps (record { step = i; offset = o })
    ≡ map Byte (take n (drop o bytes.items)) ++ left_at steps (record { step = i; offset = o + n })
give-left steps more i o n bytes e =
    ap (rest_of_wire o) e
    ∙ ap (λ (x : List ℕ). map Byte x ++ signs_in more) (sym (take-append-drop n (drop o bytes.items)))
    ∙ ap (λ (x : List Sign). x ++ signs_in more)
    (map-append Byte (take n (drop o bytes.items)) (drop n (drop o bytes.items)))
    ∙ append_assoc (map Byte (take n (drop o bytes.items))) (map Byte (drop n (drop o bytes.items))) (signs_in more)
    ∙ ap (λ (x : List ℕ). map Byte (take n (drop o bytes.items)) ++ (map Byte x ++ signs_in more))
    (drop-drop n o bytes.items)
    ∙ ap (λ (x : List Sign). map Byte (take n (drop o bytes.items)) ++ x) (sym (ap (rest_of_wire (o + n)) e))

pub give-taken : (steps more : List LinkStep) (i o n : ℕ) (bytes : _) → drop i steps ≡ Piece bytes ∷ more
    → taken_at steps (record { step = i; offset = o + n })
    ≡ taken_at steps (record { step = i; offset = o }) ++ map Byte (take n (drop o bytes.items))
give-taken steps more i o n bytes e =
    ap (λ (x : List Sign). signs_in (take i steps) ++ x)
    (ap (front_of (o + n)) e ∙ ap (map Byte) (take-add o n bytes.items)
    ∙ map-append Byte (take o bytes.items) (take n (drop o bytes.items))
    ∙ ap (λ (x : List Sign). x ++ map Byte (take n (drop o bytes.items))) (sym (ap (front_of o) e)))
    ∙ sym (append_assoc (signs_in (take i steps)) (front_of o (drop i steps)) (map Byte (take n (drop o bytes.items))))

-- there is a step, so its number is below their count
is_step : (steps more : List LinkStep) (i : ℕ) (step : LinkStep) → drop i steps ≡ step ∷ more → i < length steps
is_step steps more i step e =
    let long : length steps - i ≡ length (step ∷ more) = sym (length-drop i steps) ∙ ap length e in omega (arith, long)

-- what each look at a spot tells: whether there is a step, what is left, and what was taken
pub at_end : (rest steps : List LinkStep) (i o : ℕ) (buf : List ℕ) → rest ≡ drop i steps → IsSeen Ends rest o buf
    → left_at steps (record { step = i; offset = o }) ≡ []
at_end [] steps i o buf e seen = ap (rest_of_wire o) (sym e)
at_end (Piece bytes ∷ more) steps i o buf e seen = absurd seen
at_end (Quiet ∷ more) steps i o buf e seen = absurd seen

pub record AtPause (steps : List LinkStep) (i o : ℕ) : Type 0 where
  pub within : i < length steps
  pub left : left_at steps (record { step = i; offset = o })
      ≡ Pause ∷ left_at steps (record { step = i + 1; offset = 0 })
  pub taken : taken_at steps (record { step = i + 1; offset = 0 })
      ≡ taken_at steps (record { step = i; offset = o }) ++ Pause ∷ []

pub at_pause : (rest steps : List LinkStep) (i o : ℕ) (buf : List ℕ) → rest ≡ drop i steps → IsSeen Pauses rest o buf
    → AtPause steps i o
at_pause [] steps i o buf e seen = absurd seen
at_pause (Piece bytes ∷ more) steps i o buf e seen = absurd seen
at_pause (Quiet ∷ more) steps i o buf e seen = record {
  within = is_step steps more i Quiet (sym e);
  left = pause-left steps more i o (sym e);
  taken = pause-taken steps more i o (sym e);
}

pub record AtPass (steps : List LinkStep) (i o : ℕ) : Type 0 where
  pub within : i < length steps
  pub left : left_at steps (record { step = i + 1; offset = 0 }) ≡ left_at steps (record { step = i; offset = o })
  pub taken : taken_at steps (record { step = i + 1; offset = 0 }) ≡ taken_at steps (record { step = i; offset = o })

pub at_pass : (rest steps : List LinkStep) (i o : ℕ) (buf : List ℕ) → rest ≡ drop i steps → IsSeen Passes rest o buf
    → AtPass steps i o
at_pass [] steps i o buf e seen = absurd seen
at_pass (Quiet ∷ more) steps i o buf e seen = absurd seen
at_pass (Piece bytes ∷ more) steps i o buf e seen = record {
  within = is_step steps more i (Piece bytes) (sym e);
  left = pass-left steps more i o bytes (sym e) seen;
  taken = pass-taken steps more i o bytes (sym e) seen;
}

pub record AtBytes (steps : List LinkStep) (i o n : ℕ) (buf : List ℕ) : Type 0 where
  pub some : 0 < n
  pub room : n ≤ length buf
  pub fits : o + n < 2 ^ 64
  pub left : left_at steps (record { step = i; offset = o })
      ≡ map Byte (take n buf) ++ left_at steps (record { step = i; offset = o + n })
  pub taken : taken_at steps (record { step = i; offset = o + n })
      ≡ taken_at steps (record { step = i; offset = o }) ++ map Byte (take n buf)

pub at_bytes : (rest steps : List LinkStep) (i o n : ℕ) (buf : List ℕ) → rest ≡ drop i steps
    → IsSeen (Gives n) rest o buf → AtBytes steps i o n buf
at_bytes [] steps i o n buf e seen = absurd seen
at_bytes (Quiet ∷ more) steps i o n buf e seen = absurd seen
at_bytes (Piece bytes ∷ more) steps i o n buf e seen = record {
  some = seen.0;
  room = seen.1;
  fits = seen.3;
  left =
      give-left steps more i o n bytes (sym e)
      ∙ ap (λ (x : List ℕ). map Byte x ++ left_at steps (record { step = i; offset = o + n })) (sym seen.2);
  taken =
      give-taken steps more i o n bytes (sym e)
      ∙ ap (λ (x : List ℕ). taken_at steps (record { step = i; offset = o }) ++ map Byte x) (sym seen.2);
}

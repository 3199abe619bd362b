-- An event is fixed by how it is written.
use Rattle.std.proofs.Common.{◌≡◌, ℕ, ◌<◌, List, [], ◌∷◌, ◌++◌, refl, sym, ◌∙◌, ap, subst, arith}
use Rattle.std.specs.Prelude.{decimal}
use Rattle.std.proofs.lemmas.Fmt.{decimal_injective}
use Rattle.fics_words.specs.Blank.{blank}
use Rattle.replay_core.specs.Script.{IsScriptEvent, IsScriptLine, event_text, script_text}
use Rattle.replay_core.specs.declared.script.ScriptEvent.{ScriptEvent}
use Rattle.replay_core.specs.declared.script.ScriptEvent.TheVariants.{Connect, Cut, Quiet, Plain, Stamped, Ack}
use Rattle.replay_core.specs.declared.script.ScriptLine.{ScriptLine}
use Rattle.replay_core.proofs.Cuts.{one_number}

-- the byte that an event begins with
abbrev sign_of : ScriptEvent → ℕ
sign_of Connect = 43
sign_of Cut = 45
sign_of Quiet = 63
sign_of (Plain text) = 62
sign_of (Stamped stamp text) = 42
sign_of (Ack stamp) = 33

abbrev first_of_text : List ℕ → ℕ
first_of_text [] = 0
first_of_text (b ∷ bytes) = b

sign-first : (event : ScriptEvent) → first_of_text (event_text event) ≡ sign_of event
sign-first Connect = refl
sign-first Cut = refl
sign-first Quiet = refl
sign-first (Plain text) = refl
sign-first (Stamped stamp text) = refl
sign-first (Ack stamp) = refl

same_sign : (one other : ScriptEvent) → event_text one ≡ event_text other → sign_of one ≡ sign_of other
same_sign one other e = sym (sign-first one) ∙ ap first_of_text e ∙ sign-first other

one_stamped : (m n : ℕ) (x y : List ℕ) → m < 10000000 → n < 10000000
    → 42 ∷ blank ∷ (decimal m ++ blank ∷ x) ≡ 42 ∷ blank ∷ (decimal n ++ blank ∷ y) → Stamped m x ≡ Stamped n y
one_stamped m n x y p q e =
    let both : decimal m ++ blank ∷ x ≡ decimal n ++ blank ∷ y = cc in
    let one = one_number m n x y (omega arith) (omega arith) both in
    ap (λ (k : ℕ). Stamped k x) one.0 ∙ ap (λ (t : List ℕ). Stamped n t) one.1

one_ack : (m n : ℕ) → m < 10000000 → n < 10000000 → 33 ∷ blank ∷ decimal m ≡ 33 ∷ blank ∷ decimal n → Ack m ≡ Ack n
one_ack m n p q e =
    let both : decimal m ≡ decimal n = cc in
    ap Ack (decimal_injective m n (omega arith) (omega arith) both)

one_plain : (x y : List ℕ) → 62 ∷ blank ∷ x ≡ 62 ∷ blank ∷ y → Plain x ≡ Plain y
one_plain x y e =
    let both : x ≡ y = cc in
    ap Plain both

-- the byte tells the kind of event
is_connect : (event : ScriptEvent) → sign_of event ≡ 43 → event ≡ Connect
is_connect Connect e = refl
is_connect Cut e = absurd (omega arith)
is_connect Quiet e = absurd (omega arith)
is_connect (Plain text) e = absurd (omega arith)
is_connect (Stamped stamp text) e = absurd (omega arith)
is_connect (Ack stamp) e = absurd (omega arith)

is_cut : (event : ScriptEvent) → sign_of event ≡ 45 → event ≡ Cut
is_cut Connect e = absurd (omega arith)
is_cut Cut e = refl
is_cut Quiet e = absurd (omega arith)
is_cut (Plain text) e = absurd (omega arith)
is_cut (Stamped stamp text) e = absurd (omega arith)
is_cut (Ack stamp) e = absurd (omega arith)

is_quiet : (event : ScriptEvent) → sign_of event ≡ 63 → event ≡ Quiet
is_quiet Connect e = absurd (omega arith)
is_quiet Cut e = absurd (omega arith)
is_quiet Quiet e = refl
is_quiet (Plain text) e = absurd (omega arith)
is_quiet (Stamped stamp text) e = absurd (omega arith)
is_quiet (Ack stamp) e = absurd (omega arith)

is_plain : (event : ScriptEvent) → sign_of event ≡ 62 → (text : List ℕ) × (event ≡ Plain text)
is_plain Connect e = absurd (omega arith)
is_plain Cut e = absurd (omega arith)
is_plain Quiet e = absurd (omega arith)
is_plain (Plain text) e = (text, refl)
is_plain (Stamped stamp text) e = absurd (omega arith)
is_plain (Ack stamp) e = absurd (omega arith)

is_stamped : (event : ScriptEvent) → sign_of event ≡ 42 → (stamp : ℕ) × (text : List ℕ) × (event ≡ Stamped stamp text)
is_stamped Connect e = absurd (omega arith)
is_stamped Cut e = absurd (omega arith)
is_stamped Quiet e = absurd (omega arith)
is_stamped (Plain text) e = absurd (omega arith)
is_stamped (Stamped stamp text) e = (stamp, text, refl)
is_stamped (Ack stamp) e = absurd (omega arith)

is_ack : (event : ScriptEvent) → sign_of event ≡ 33 → (stamp : ℕ) × (event ≡ Ack stamp)
is_ack Connect e = absurd (omega arith)
is_ack Cut e = absurd (omega arith)
is_ack Quiet e = absurd (omega arith)
is_ack (Plain text) e = absurd (omega arith)
is_ack (Stamped stamp text) e = absurd (omega arith)
is_ack (Ack stamp) e = (stamp, refl)

pub one_event : (one other : ScriptEvent) → IsScriptEvent one → IsScriptEvent other → event_text one ≡ event_text other
    → one ≡ other
one_event Connect other p q e = sym (is_connect other (sym (same_sign Connect other e)))
one_event Cut other p q e = sym (is_cut other (sym (same_sign Cut other e)))
one_event Quiet other p q e = sym (is_quiet other (sym (same_sign Quiet other e)))
one_event (Plain x) other p q e =
    let found = is_plain other (sym (same_sign (Plain x) other e)) in
    one_plain x found.0 (e ∙ ap event_text found.1) ∙ sym found.1
one_event (Stamped m x) other p q e =
    let found = is_stamped other (sym (same_sign (Stamped m x) other e)) in
    let range = subst IsScriptEvent found.2 q in
    one_stamped m found.0 x found.1 p.0 range.0 (e ∙ ap event_text found.2) ∙ sym found.2
one_event (Ack m) other p q e =
    let found = is_ack other (sym (same_sign (Ack m) other e)) in
    one_ack m found.0 p (subst IsScriptEvent found.1 q) (e ∙ ap event_text found.1) ∙ sym found.1

same_line : (one other : ScriptLine) → one.moment ≡ other.moment → one.session ≡ other.session → one.event ≡ other.event
    → one ≡ other
same_line one other moment session event =
    ap (λ (n : ℕ). record one { moment = n }) moment
    ∙ ap (λ (n : ℕ). record one { moment = other.moment; session = n }) session
    ∙ ap (λ (e : ScriptEvent). record other { event = e }) event

pub one_line : (one other : ScriptLine) → IsScriptLine one → IsScriptLine other → script_text one ≡ script_text other
    → one ≡ other
one_line one other p q e =
    let moment =
    one_number one.moment other.moment (decimal one.session ++ blank ∷ event_text one.event)
    (decimal other.session ++ blank ∷ event_text other.event) (omega (arith, p.moment)) (omega (arith, q.moment)) e in
    let session =
    one_number one.session other.session (event_text one.event) (event_text other.event) (omega (arith, p.last))
    (omega (arith, q.last)) moment.1 in
    same_line one other moment.0 session.0 (one_event one.event other.event p.event q.event session.1)

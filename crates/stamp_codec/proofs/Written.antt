-- What a line says in the open: its text, its stamp and its pads, and that no other message says the same.
use Rattle.std.proofs.Common.{◌≡◌, ◌≢◌, ℕ, ◌+◌, ◌-◌, ◌*◌, ◌%◌, ◌^◌, ◌<◌, ◌≤◌, true, false, zero, suc, List, [], ◌∷◌, ◌++◌, length, refl, sym, ap, subst, ◌∙◌, arith, append_assoc, length-append, cond}
use Rattle.std.specs.Prelude.{decimal, replicate, bytes_eq, nat_le, nat_lt}
use Rattle.std.specs.List.{list_all, AllByRecursion}
use Rattle.std.proofs.lemmas.Bool.{and_parts}
use Rattle.std.proofs.lemmas.Bool.Decides.{nat_tests}
use Rattle.std.proofs.lemmas.List.Sums.{fold-append}
use Rattle.std.proofs.lemmas.Fmt.{decimal_by_steps}
use Rattle.std.proofs.lemmas.Slice.Eq.{bytes_eq-Decides}
use Rattle.stamp_codec.specs.Message.{Message, Text, Ack, text_of, stamp_of, ack_text, is_printable, is_text, is_message, message_of}
use Rattle.stamp_codec.specs.Spelling.{body, pads, padded, written}
use Rattle.stamp_codec.specs.Opening.{number}
use Rattle.stamp_codec.proofs.Marks.{mark_within, one_cut}
use Rattle.fics_words.proofs.HandleTests.{each}
use Rattle.fics_words.proofs.Each.{each-append, each-weaker}
use Rattle.fics_words.proofs.Digits.{IsDigit, digits_of_decimal}

-- a byte of a text or of an acknowledgement
abbrev pub IsLetter : ℕ → Type 0
IsLetter byte = (byte < 0x80) × (byte ≢ 0x18)

printable_letter : (byte : ℕ) → is_printable byte ≡ true → IsLetter byte
printable_letter byte h =
    let parts = and_parts (nat_le 0x20 byte) (nat_le byte 0x7E) h in
    let low : 0x20 ≤ byte = grind (arith, nat_tests) in
    let high : byte ≤ 0x7E = grind (arith, nat_tests) in
    (omega arith, λ e. omega arith)

pub letters_of : (message : Message) → is_message message ≡ true → AllByRecursion IsLetter (text_of message)
letters_of (Text text stamp) h =
    let parts = and_parts (is_text text) (nat_lt stamp 10000000) h in
    each is_printable IsLetter printable_letter text
    (and_parts (nat_le (length text) 1023) (list_all is_printable text) parts.0).1
letters_of (Ack stamp) h = ((omega arith, λ e. omega arith), ((omega arith, λ e. omega arith), tt))

pub stamp_small : (message : Message) → is_message message ≡ true → stamp_of message < 10000000
stamp_small (Text text stamp) h =
    let parts = and_parts (is_text text) (nat_lt stamp 10000000) h in
    let test = parts.1 in grind (arith, nat_tests)
stamp_small (Ack stamp) h = grind (arith, nat_tests)

-- the message of its own text and stamp
pub message_of-own : (message : Message) → is_message message ≡ true
    → message_of (text_of message) (stamp_of message) ≡ message
message_of-own (Text text stamp) h =
    elim (bytes_eq text ack_text)
    as (λ t. bytes_eq text ack_text ≡ t → cond t (Ack stamp) (Text text stamp) ≡ Text text stamp) [
      | true ↦ λ e.
          let same : text ≡ ack_text = (bytes_eq-Decides text ack_text).0 e in
          let letters = letters_of (Text text stamp) h in
          let parts = and_parts (is_text text) (nat_lt stamp 10000000) h in
          let all = (and_parts (nat_le (length text) 1023) (list_all is_printable text) parts.0).1 in
          let bad : list_all is_printable ack_text ≡ true =
          subst (λ (l : List ℕ). list_all is_printable l ≡ true) same all in
          absurd (let worse : false ≡ true = bad in cc)
      | false ↦ λ e. refl
    ] refl
message_of-own (Ack stamp) h = refl

-- ---- decimals

pub number-decimal : (n : ℕ) → n < 2 ^ 64 → number (decimal n) ≡ n
number-decimal n small =
    decimal_by_steps (λ (n : ℕ) (ds : List ℕ). number ds ≡ n)
    (λ n lt. omega arith)
    (λ n ds le h.
    fold-append (λ n digit. n * 10 + (digit - 48)) 0 ds ((48 + n % 10) ∷ [])
    ∙ (let e : number ds * 10 + (48 + n % 10 - 48) ≡ n = omega arith in e))
    n small

-- ---- all of it

-- a text, its end, a stamp, its end, and pads
pub written_parts : (message : Message)
    → written message
    ≡ text_of message ++ 0x18
    ∷ (decimal (stamp_of message) ++ 0x19 ∷ replicate (pads (length (body (text_of message) (stamp_of message)))) 0x31)
written_parts message =
    let filled : List ℕ = replicate (pads (length (body (text_of message) (stamp_of message)))) 0x31 in
    append_assoc (text_of message) (0x18 ∷ (decimal (stamp_of message) ++ 0x19 ∷ [])) filled
    ∙ ap (λ (l : List ℕ). text_of message ++ 0x18 ∷ l) (append_assoc (decimal (stamp_of message)) (0x19 ∷ []) filled)

pub letters_unmarked : (bytes : List ℕ) → AllByRecursion IsLetter bytes → AllByRecursion (λ b. b ≢ 0x18) bytes
letters_unmarked bytes all = each-weaker IsLetter (λ b. b ≢ 0x18) (λ b h. h.1) bytes all

pub decimal_unmarked : (n : ℕ) → n < 2 ^ 64 → AllByRecursion (λ b. b ≢ 0x19) (decimal n)
decimal_unmarked n small =
    each-weaker IsDigit (λ b. b ≢ 0x19) (λ b h e. omega arith) (decimal n) (digits_of_decimal n small)

each-replicate : (P : ℕ → Type 0) (n byte : ℕ) → P byte → AllByRecursion P (replicate n byte)
each-replicate P zero byte h = tt
each-replicate P (suc n) byte h = (h, each-replicate P n byte h)

-- all of it is below 0x80
pub written_small : (message : Message) → is_message message ≡ true → AllByRecursion (λ b. b < 128) (written message)
written_small message h =
    let small = stamp_small message h in
    subst (λ (l : List ℕ). AllByRecursion (λ b. b < 128) l) (sym (written_parts message))
    (each-append (λ b. b < 128) (text_of message) _
    (each-weaker IsLetter (λ b. b < 128) (λ b k. k.0) (text_of message) (letters_of message h)) (
      omega arith,
      each-append (λ b. b < 128) (decimal (stamp_of message)) _
          (each-weaker IsDigit (λ b. b < 128) (λ b k. omega arith) (decimal (stamp_of message))
          (digits_of_decimal (stamp_of message) (omega arith)))
          (omega arith, each-replicate (λ b. b < 128) _ 0x31 (omega arith)),
    ))

-- ---- where it is cut at its marks

-- the pads of a message
abbrev pub fill : Message → List ℕ
fill message = replicate (pads (length (body (text_of message) (stamp_of message)))) 0x31

pub no_text_end : (message : Message) (plain : List ℕ) → AllByRecursion (λ b. b ≢ 0x18) plain → plain ≡ written message
    → ⊥
no_text_end message plain all e =
    mark_within 0x18 (text_of message) (decimal (stamp_of message) ++ 0x19 ∷ fill message)
    (subst (λ (l : List ℕ). AllByRecursion (λ b. b ≢ 0x18) l) (e ∙ written_parts message) all)

pub text_cut : (message : Message) → is_message message ≡ true → (plain text rest : List ℕ)
    → AllByRecursion (λ b. b ≢ 0x18) text → plain ≡ text ++ 0x18 ∷ rest
    → plain ≡ written message → (text ≡ text_of message) × (rest ≡ decimal (stamp_of message) ++ 0x19 ∷ fill message)
text_cut message h plain text rest unmarked parts e =
    one_cut 0x18 text (text_of message) rest (decimal (stamp_of message) ++ 0x19 ∷ fill message) unmarked
    (letters_unmarked (text_of message) (letters_of message h)) (sym parts ∙ e ∙ written_parts message)

pub no_stamp_end : (message : Message) (rest : List ℕ) → AllByRecursion (λ b. b ≢ 0x19) rest
    → rest ≡ decimal (stamp_of message) ++ 0x19 ∷ fill message → ⊥
no_stamp_end message rest all e =
    mark_within 0x19 (decimal (stamp_of message)) (fill message)
    (subst (λ (l : List ℕ). AllByRecursion (λ b. b ≢ 0x19) l) e all)

pub stamp_cut : (message : Message) → is_message message ≡ true → (rest digits filled : List ℕ)
    → AllByRecursion (λ b. b ≢ 0x19) digits → rest ≡ digits ++ 0x19 ∷ filled
    → rest ≡ decimal (stamp_of message) ++ 0x19 ∷ fill message
    → (digits ≡ decimal (stamp_of message)) × (filled ≡ fill message)
stamp_cut message h rest digits filled unmarked parts e =
    one_cut 0x19 digits (decimal (stamp_of message)) filled (fill message) unmarked
    (decimal_unmarked (stamp_of message) (omega (arith, stamp_small message h))) (sym parts ∙ e)

-- as many pads as the bytes before them want
pub filled_by : (message : Message) (plain filled : List ℕ) → plain ≡ written message → filled ≡ fill message
    → filled ≡ replicate (pads (length plain - length filled)) 0x31
filled_by message plain filled e is =
    let start = body (text_of message) (stamp_of message) in
    let count : length start ≡ length plain - length filled =
    omega (arith, ap length e, ap length is, length-append start (fill message)) in
    is ∙ ap (λ (n : ℕ). replicate (pads n) 0x31) count

pub written_by : (text : List ℕ) (stamp : ℕ) (plain rest digits filled : List ℕ) → plain ≡ text ++ 0x18 ∷ rest
    → rest ≡ digits ++ 0x19 ∷ filled → digits ≡ decimal stamp
    → filled ≡ replicate (pads (length plain - length filled)) 0x31 → plain ≡ padded (body text stamp)
written_by text stamp plain rest digits filled front back number pads_are =
    let all : plain ≡ body text stamp ++ filled =
    front
    ∙ ap (λ (l : List ℕ). text ++ 0x18 ∷ l)
    (back ∙ ap (λ (l : List ℕ). l ++ 0x19 ∷ filled) number ∙ sym (append_assoc (decimal stamp) (0x19 ∷ []) filled))
    ∙ sym (append_assoc text (0x18 ∷ (decimal stamp ++ 0x19 ∷ [])) filled) in
    let count : length plain - length filled ≡ length (body text stamp) =
    omega (arith, ap length all, length-append (body text stamp) filled) in
    all ∙ ap (λ (l : List ℕ). body text stamp ++ l) (pads_are ∙ ap (λ (n : ℕ). replicate (pads n) 0x31) count)

-- ---- the message of a text and a stamp

text_of-message_of : (text : List ℕ) (stamp : ℕ) → text_of (message_of text stamp) ≡ text
text_of-message_of text stamp =
    elim (bytes_eq text ack_text)
    as (λ t. bytes_eq text ack_text ≡ t → text_of (cond t (Ack stamp) (Text text stamp)) ≡ text) [
      | true ↦ λ e. sym ((bytes_eq-Decides text ack_text).0 e)
      | false ↦ λ e. refl
    ] refl

stamp_of-message_of : (text : List ℕ) (stamp : ℕ) → stamp_of (message_of text stamp) ≡ stamp
stamp_of-message_of text stamp =
    elim (bytes_eq text ack_text) as (λ t. stamp_of (cond t (Ack stamp) (Text text stamp)) ≡ stamp) [
      | true ↦ refl
      | false ↦ refl
    ]

pub written-message_of : (text : List ℕ) (stamp : ℕ) → written (message_of text stamp) ≡ padded (body text stamp)
written-message_of text stamp =
    ap (λ (t : List ℕ). padded (body t (stamp_of (message_of text stamp)))) (text_of-message_of text stamp)
    ∙ ap (λ (s : ℕ). padded (body text s)) (stamp_of-message_of text stamp)

-- it is the message that has them
pub is_message-of : (message : Message) → is_message message ≡ true → (text : List ℕ) (stamp : ℕ)
    → text ≡ text_of message → stamp ≡ stamp_of message → is_message (message_of text stamp) ≡ true
is_message-of message h text stamp e f =
    ap is_message
    (ap (λ (t : List ℕ). message_of t stamp) e ∙ ap (message_of (text_of message)) f ∙ message_of-own message h)
    ∙ h

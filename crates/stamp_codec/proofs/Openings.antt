-- A line is opened exactly where it is the spelling of a message, and then to that message.
use Rattle.std.proofs.Common.{◌≡◌, ℕ, suc, get_or, ◌-◌, ◌^◌, ◌<◌, Bool, true, false, cond, List, [], ◌∷◌, ◌++◌, length, take, refl, sym, ap, subst, ◌∙◌, arith, length-append}
use Rattle.std.specs.Prelude.{decimal, replicate, bytes_eq, Option, Some, None, ◌&&◌, ◌↔◌, IfSome, IfNone}
use Rattle.std.specs.List.{AllByRecursion}
use Rattle.std.proofs.Math.Seq.{take-append_seam, take-length, take-suc, get_or-append_seam}
use Rattle.std.proofs.lemmas.Option.{same_Some}
use Rattle.std.proofs.lemmas.Bool.{and_parts, and_from}
use Rattle.std.proofs.lemmas.Slice.Eq.{bytes_eq-Decides}
use Rattle.stamp_codec.specs.Message.{Message, text_of, stamp_of, is_message, message_of}
use Rattle.stamp_codec.specs.Spelling.{body, pads, written, swapped, by_place, cipher, stamped_line, IsStampedLine}
use Rattle.stamp_codec.specs.Opening.{decipher, before, behind_mark, number, plain, candidate, if_spelled, opened}
use Rattle.stamp_codec.specs.declared.sealed.Sealed.{Sealed}
use Rattle.stamp_codec.specs.Sealed.{message as message_in, option_message}
use Rattle.stamp_codec.proofs.Swaps.{swapped-swapped, AllByRecursion-swapped}
use Rattle.stamp_codec.proofs.Places.{decipher-cipher_each, cipher-decipher_each}
use Rattle.stamp_codec.proofs.Marks.{before-mark, behind_mark-first}
use Rattle.stamp_codec.proofs.Written.{letters_of, letters_unmarked, stamp_small, message_of-own, number-decimal, decimal_unmarked, written_parts, written_small}
use Rattle.fics_words.proofs.Each.{each-front}

take-front : (xs : List ℕ) (x : ℕ) → take (length (xs ++ x ∷ []) - 1) (xs ++ x ∷ []) ≡ xs
take-front xs x =
    ap (λ (n : ℕ). take n (xs ++ x ∷ []))
    (let e : length (xs ++ x ∷ []) - 1 ≡ length xs = omega (arith, length-append xs (x ∷ [])) in e)
    ∙ take-append_seam xs (x ∷ [])

-- the bytes of a line in the open
pub plain-stamped_line : (message : Message) → is_message message ≡ true
    → plain (stamped_line message) ≡ written message
plain-stamped_line message h =
    ap (λ (l : List ℕ). swapped (by_place decipher 0 l))
    (take-front (by_place cipher 0 (swapped (written message))) 0x80)
    ∙ ap swapped
    (decipher-cipher_each 0 (swapped (written message))
    (AllByRecursion-swapped (λ b. b < 128) (written message) (written_small message h)))
    ∙ swapped-swapped (written message)

-- the one message that a spelling may be of is its own
candidate-stamped_line : (message : Message) → is_message message ≡ true → candidate (stamped_line message) ≡ message
candidate-stamped_line message h =
    let parts = plain-stamped_line message h ∙ written_parts message in
    let unmarked = letters_unmarked (text_of message) (letters_of message h) in
    let small : stamp_of message < 2 ^ 64 = omega (arith, stamp_small message h) in
    let rest =
    decimal (stamp_of message) ++ 0x19 ∷ replicate (pads (length (body (text_of message) (stamp_of message)))) 0x31 in
    let front : before 0x18 (plain (stamped_line message)) ≡ text_of message =
    ap (before 0x18) parts ∙ before-mark 0x18 (text_of message) rest unmarked in
    let back : behind_mark 0x18 (plain (stamped_line message)) ≡ rest =
    ap (behind_mark 0x18) parts ∙ behind_mark-first 0x18 (text_of message) rest unmarked in
    let digits : before 0x19 (behind_mark 0x18 (plain (stamped_line message))) ≡ decimal (stamp_of message) =
    ap (before 0x19) back
    ∙ before-mark 0x19 (decimal (stamp_of message))
    (replicate (pads (length (body (text_of message) (stamp_of message)))) 0x31)
    (decimal_unmarked (stamp_of message) small) in
    ap (λ (text : List ℕ). message_of text (number (before 0x19 (behind_mark 0x18 (plain (stamped_line message))))))
    front
    ∙ ap (message_of (text_of message)) (ap number digits ∙ number-decimal (stamp_of message) small)
    ∙ message_of-own message h

pub opened-stamped_line : (message : Message) → is_message message ≡ true → opened (stamped_line message) ≡ Some message
opened-stamped_line message h =
    ap (if_spelled (stamped_line message)) (candidate-stamped_line message h)
    ∙ ap (λ (t : Bool). cond t (Some message) None)
    (and_from (is_message message) (bytes_eq (stamped_line message) (stamped_line message)) h
    ((bytes_eq-Decides (stamped_line message) (stamped_line message)).1 refl))

pub opened_is : (line : List ℕ) (message : Message) → IsStampedLine message line → opened line ≡ Some message
opened_is line message h = ap opened h.line ∙ opened-stamped_line message h.said

if_spelled_is : (line : List ℕ) (one message : Message) → if_spelled line one ≡ Some message
    → IsStampedLine message line
if_spelled_is line one message e =
    elim (is_message one && bytes_eq (stamped_line one) line)
    as (λ t.
    is_message one && bytes_eq (stamped_line one) line ≡ t → cond t (Some one) None ≡ Some message
    → IsStampedLine message line) [
      | true ↦ λ test some.
          let parts = and_parts (is_message one) (bytes_eq (stamped_line one) line) test in
          let same : one ≡ message = cc in
          subst (λ (m : Message). IsStampedLine m line) same (record {
            said = parts.0;
            line = sym ((bytes_eq-Decides (stamped_line one) line).0 parts.1);
          })
      | false ↦ λ test some. absurd cc
    ] refl e

pub spelled_opened : (line : List ℕ) (message : Message) → opened line ≡ Some message → IsStampedLine message line
spelled_opened line message e = if_spelled_is line (candidate line) message e

none_or : (found : Option Message) → ((message : Message) → found ≡ Some message → ⊥) → found ≡ None
none_or None h = refl
none_or (Some message) h = absurd (h message refl)

pub opened_none : (line : List ℕ) → ((message : Message) → IsStampedLine message line → ⊥) → opened line ≡ None
opened_none line h = none_or (opened line) (λ message e. h message (spelled_opened line message e))

-- ---- what the code has read

-- a line that ends in the closing byte
pub closed : (raw : List ℕ) (end : ℕ) → 0 < length raw → end ≡ length raw - 1 → get_or raw end 0 ≡ 0x80
    → raw ≡ take end raw ++ 0x80 ∷ []
closed raw end some is last =
    let within : end < length raw = omega arith in
    let whole : length raw ≡ suc end = omega arith in
    sym (take-length raw) ∙ ap (λ (n : ℕ). take n raw) whole ∙ take-suc raw end 0 within
    ∙ ap (λ (b : ℕ). take end raw ++ b ∷ []) last

-- a line that says a message in the open is its spelling
pub spelled_by : (raw : List ℕ) (end : ℕ) (message : Message) → AllByRecursion (λ b. b < 256) raw
    → raw ≡ take end raw ++ 0x80 ∷ [] → is_message message ≡ true
    → swapped (by_place decipher 0 (take end raw)) ≡ written message → IsStampedLine message raw
spelled_by raw end message fits ends h says =
    let front = take end raw in
    let bytes : AllByRecursion (λ b. b < 256) front =
    each-front (λ b. b < 256) front (0x80 ∷ []) (subst (λ (l : List ℕ). AllByRecursion (λ b. b < 256) l) ends fits) in
    let places : by_place decipher 0 front ≡ swapped (written message) =
    sym (swapped-swapped (by_place decipher 0 front)) ∙ ap swapped says in
    let small =
    subst (λ (l : List ℕ). AllByRecursion (λ b. b < 128) l) (sym places)
    (AllByRecursion-swapped (λ b. b < 128) (written message) (written_small message h)) in
    record {
      said = h;
      line =
          ends
          ∙ ap (λ (l : List ℕ). l ++ 0x80 ∷ [])
          (sym (cipher-decipher_each 0 front bytes small) ∙ ap (by_place cipher 0) places);
    }

-- a spelling says its message in the open
pub says_written : (raw : List ℕ) (end : ℕ) (message : Message) → end ≡ length raw - 1 → IsStampedLine message raw
    → swapped (by_place decipher 0 (take end raw)) ≡ written message
says_written raw end message is h =
    ap (λ (n : ℕ). swapped (by_place decipher 0 (take n raw))) is ∙ ap plain h.line ∙ plain-stamped_line message h.said

-- a spelling ends in the closing byte
pub spelled_closed : (raw : List ℕ) (message : Message) → IsStampedLine message raw
    → (0 < length raw) × (get_or raw (length raw - 1) 0 ≡ 0x80)
spelled_closed raw message h =
    let front = by_place cipher 0 (swapped (written message)) in
    let place : length raw - 1 ≡ length front = omega (arith, ap length h.line, length-append front (0x80 ∷ [])) in (
      omega (arith, ap length h.line, length-append front (0x80 ∷ [])),
      ap (λ (l : List ℕ). get_or l (length raw - 1) 0) h.line ∙ ap (λ (n : ℕ). get_or (front ++ 0x80 ∷ []) n 0) place
          ∙ get_or-append_seam front 0x80 [] 0,
    )

pub opened_both : (found : Option Sealed) (raw : List ℕ)
    → IfSome found (λ sealed. IsStampedLine (message_in sealed) raw)
    → IfNone found ((message : Message) → IsStampedLine message raw → ⊥)
    → option_message found ≡ opened raw
opened_both None raw some none = sym (opened_none raw none)
opened_both (Some sealed) raw some none = sym (opened_is raw (message_in sealed) some)

pub opened_iff : (line : List ℕ) (message : Message) → opened line ≡ Some message ↔ IsStampedLine message line
opened_iff line message = (spelled_opened line message, opened_is line message)

-- one spelling says one message
pub one_spelled : (one other : Message) → is_message one ≡ true → is_message other ≡ true
    → stamped_line one ≡ stamped_line other → one ≡ other
one_spelled one other h k e =
    same_Some one other (sym (opened-stamped_line one h) ∙ ap opened e ∙ opened-stamped_line other k)

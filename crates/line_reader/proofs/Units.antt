-- Each text has its units, and their data is what is read.
use Rattle.std.proofs.Common.{◌≡◌, ℕ, Bool, true, false, cond, List, [], ◌∷◌, ◌++◌, refl, sym, ap, subst, ◌∙◌, arith, append_assoc, append-nil}
use Rattle.std.specs.Prelude.{◌==◌, not, nat_le}
use Rattle.std.specs.List.{AllByRecursion}
use Rattle.std.proofs.lemmas.Bool.{and_parts}
use Rattle.std.proofs.lemmas.Bool.Decides.{nat_tests}
use Rattle.line_reader.specs.declared.telnet.Telnet.TheVariants.{Data, Command, Choice, Block, BlockCommand}
use Rattle.line_reader.specs.Telnet.{is_choice, after, data_from}
use Rattle.line_reader.specs.Grammar.{Part, Inside, Pair, Sent, DataByte, Order, Request, Section, Begun, Nothing, AfterIac, AfterVerb, InSection, InSectionIac, IsPart, part_bytes, IsSent, sent_bytes, sent_data, all_bytes, all_data, IsBegun, begun_bytes, AreUnits}
use Rattle.fics_words.proofs.Each.{each-push}

-- parts of a block are skipped
parts_data : (parts : List Part) → AllByRecursion IsPart parts → (more : List ℕ)
    → data_from Block (part_bytes parts ++ more) ≡ data_from Block more
parts_data [] all more = refl
parts_data (Inside byte ∷ parts) all more =
    ap (λ (t : Bool). data_from (cond t BlockCommand Block) (part_bytes parts ++ more)) all.0
    ∙ parts_data parts all.1 more
parts_data (Pair byte ∷ parts) all more =
    ap (λ (t : Bool). data_from (cond t Data Block) (part_bytes parts ++ more)) all.0 ∙ parts_data parts all.1 more

no_verb : (byte : ℕ) → is_choice byte ≡ true → ((byte == 250) ≡ false) × ((byte == 255) ≡ false)
no_verb byte h =
    let parts = and_parts (nat_le 251 byte) (nat_le byte 254) h in
    let low = parts.0 in let high = parts.1 in
    (grind (arith, nat_tests), grind (arith, nat_tests))

both_or_none : (t : Bool) (byte : ℕ) (l : List ℕ) → cond t (byte ∷ l) l ≡ cond t (byte ∷ []) [] ++ l
both_or_none true byte l = refl
both_or_none false byte l = refl

-- a unit gives its data
unit_data : (unit : Sent) → IsSent unit → (more : List ℕ)
    → data_from Data (sent_bytes unit ++ more) ≡ sent_data unit ++ data_from Data more
unit_data (DataByte byte) h more =
    ap (λ (t : Bool). cond (not t) (byte ∷ data_from (cond t Command Data) more) (data_from (cond t Command Data) more))
    h
unit_data (Order byte) h more =
    ap (λ (t : Bool).
    cond (byte == 255) (byte ∷ data_from (cond t Block (cond (is_choice byte) Choice Data)) more)
    (data_from (cond t Block (cond (is_choice byte) Choice Data)) more))
    h.0
    ∙ ap
    (λ (t : Bool).
    cond (byte == 255) (byte ∷ data_from (cond t Choice Data) more) (data_from (cond t Choice Data) more))
    h.1
    ∙ both_or_none (byte == 255) byte (data_from Data more)
unit_data (Request verb option) h more =
    let no = no_verb verb h in
    ap (λ (t : Bool).
    cond t (verb ∷ data_from (after Command verb) (option ∷ more)) (data_from (after Command verb) (option ∷ more)))
    no.1
    ∙ ap (λ (t : Bool). data_from (cond t Block (cond (is_choice verb) Choice Data)) (option ∷ more)) no.0
    ∙ ap (λ (t : Bool). data_from (cond t Choice Data) (option ∷ more)) h
unit_data (Section parts) h more =
    ap (λ (l : List ℕ). data_from Block l) (append_assoc (part_bytes parts) (255 ∷ 240 ∷ []) more)
    ∙ parts_data parts h (255 ∷ 240 ∷ more)

-- a unit that isn't whole gives none
begun_data : (begun : Begun) → IsBegun begun → data_from Data (begun_bytes begun) ≡ []
begun_data Nothing h = refl
begun_data AfterIac h = refl
begun_data (AfterVerb verb) h =
    let no = no_verb verb h in
    ap (λ (t : Bool). cond t (verb ∷ []) []) no.1
begun_data (InSection parts) h =
    ap (λ (l : List ℕ). data_from Block l) (sym (append-nil (part_bytes parts))) ∙ parts_data parts h []
begun_data (InSectionIac parts) h = parts_data parts h (255 ∷ [])

units_data_from : (units : List Sent) (begun : Begun) → AllByRecursion IsSent units → IsBegun begun
    → data_from Data (all_bytes units ++ begun_bytes begun) ≡ all_data units
units_data_from [] begun all h = begun_data begun h
units_data_from (unit ∷ units) begun all h =
    ap (data_from Data) (append_assoc (sent_bytes unit) (all_bytes units) (begun_bytes begun))
    ∙ unit_data unit all.0 (all_bytes units ++ begun_bytes begun)
    ∙ ap (λ (l : List ℕ). sent_data unit ++ l) (units_data_from units begun all.1 h)

pub units_data : (text : List ℕ) (units : List Sent) (begun : Begun) → AreUnits text units begun
    → data_from Data text ≡ all_data units
units_data text units begun h = ap (data_from Data) h.spelled ∙ units_data_from units begun h.sent h.unfinished

-- ---- each text has its units

pub record HasUnits (text : List ℕ) : Type 0 where
  pub units : List Sent
  pub begun : Begun
  pub are : AreUnits text units begun

part_bytes-append : (parts more : List Part) → part_bytes (parts ++ more) ≡ part_bytes parts ++ part_bytes more
part_bytes-append [] more = refl
part_bytes-append (Inside byte ∷ parts) more = ap (λ (l : List ℕ). byte ∷ l) (part_bytes-append parts more)
part_bytes-append (Pair byte ∷ parts) more = ap (λ (l : List ℕ). 255 ∷ byte ∷ l) (part_bytes-append parts more)

-- a whole unit in front
in_front : (unit : Sent) (text all : List ℕ) → IsSent unit → all ≡ sent_bytes unit ++ text → HasUnits text
    → HasUnits all
in_front unit text all h e rest = record {
  units = unit ∷ rest.units;
  begun = rest.begun;
  are = record {
    sent = (h, rest.are.sent);
    unfinished = rest.are.unfinished;
    spelled =
        e ∙ ap (λ (l : List ℕ). sent_bytes unit ++ l) rest.are.spelled
        ∙ sym (append_assoc (sent_bytes unit) (all_bytes rest.units) (begun_bytes rest.begun));
  };
}

ends_here : (begun : Begun) → IsBegun begun → HasUnits (begun_bytes begun ++ [])
ends_here begun h =
    record {
      units = [];
      begun = begun;
      are = record { sent = tt; unfinished = h; spelled = append-nil (begun_bytes begun) };
    }

-- what was begun, and the text behind it
has_units : (text : List ℕ) (begun : Begun) → IsBegun begun → HasUnits (begun_bytes begun ++ text)
has_units [] begun h = ends_here begun h
has_units (byte ∷ text) Nothing h =
    elim (byte == 255) as (λ t. (byte == 255) ≡ t → HasUnits (byte ∷ text)) [
      | true ↦ λ e.
          let is : 255 ≡ byte = grind (arith, nat_tests) in
          subst (λ (b : ℕ). HasUnits (b ∷ text)) is (has_units text AfterIac tt)
      | false ↦ λ e. in_front (DataByte byte) text (byte ∷ text) e refl (has_units text Nothing tt)
    ] refl
has_units (byte ∷ text) AfterIac h =
    elim (byte == 250) as (λ t. (byte == 250) ≡ t → HasUnits (255 ∷ byte ∷ text)) [
      | true ↦ λ e.
          let is : 250 ≡ byte = grind (arith, nat_tests) in
          subst (λ (b : ℕ). HasUnits (255 ∷ b ∷ text)) is (has_units text (InSection []) tt)
      | false ↦ λ e. elim (is_choice byte) as (λ t. is_choice byte ≡ t → HasUnits (255 ∷ byte ∷ text)) [
        | true ↦ λ f. has_units text (AfterVerb byte) f
        | false ↦ λ f. in_front (Order byte) text (255 ∷ byte ∷ text) (e, f) refl (has_units text Nothing tt)
      ] refl
    ] refl
has_units (byte ∷ text) (AfterVerb verb) h =
    in_front (Request verb byte) text (255 ∷ verb ∷ byte ∷ text) h refl (has_units text Nothing tt)
has_units (byte ∷ text) (InSection parts) h =
    elim (byte == 255) as (λ t. (byte == 255) ≡ t → HasUnits (255 ∷ 250 ∷ (part_bytes parts ++ byte ∷ text))) [
      | true ↦ λ e.
          let is : 255 ≡ byte = grind (arith, nat_tests) in
          subst (λ (l : List ℕ). HasUnits (255 ∷ 250 ∷ l))
          (append_assoc (part_bytes parts) (255 ∷ []) text ∙ ap (λ (b : ℕ). part_bytes parts ++ b ∷ text) is)
          (has_units text (InSectionIac parts) h)
      | false ↦ λ e.
          subst (λ (l : List ℕ). HasUnits (255 ∷ 250 ∷ l))
          (ap (λ (l : List ℕ). l ++ text) (part_bytes-append parts (Inside byte ∷ []))
          ∙ append_assoc (part_bytes parts) (byte ∷ []) text)
          (has_units text (InSection (parts ++ Inside byte ∷ [])) (each-push IsPart parts (Inside byte) h e))
    ] refl
has_units (byte ∷ text) (InSectionIac parts) h =
    let front : (part_bytes parts ++ 255 ∷ []) ++ byte ∷ text ≡ part_bytes parts ++ 255 ∷ byte ∷ text =
    append_assoc (part_bytes parts) (255 ∷ []) (byte ∷ text) in
    subst (λ (l : List ℕ). HasUnits (255 ∷ 250 ∷ l)) (sym front)
    (elim (byte == 240) as (λ t. (byte == 240) ≡ t → HasUnits (255 ∷ 250 ∷ (part_bytes parts ++ 255 ∷ byte ∷ text))) [
      | true ↦ λ e.
          let is : byte ≡ 240 = grind (arith, nat_tests) in
          in_front (Section parts) text (255 ∷ 250 ∷ (part_bytes parts ++ 255 ∷ byte ∷ text)) h
          (ap (λ (b : ℕ). 255 ∷ 250 ∷ (part_bytes parts ++ 255 ∷ b ∷ text)) is
          ∙ ap (λ (l : List ℕ). 255 ∷ 250 ∷ l) (sym (append_assoc (part_bytes parts) (255 ∷ 240 ∷ []) text)))
          (has_units text Nothing tt)
      | false ↦ λ e.
          subst (λ (l : List ℕ). HasUnits (255 ∷ 250 ∷ l))
          (ap (λ (l : List ℕ). l ++ text) (part_bytes-append parts (Pair byte ∷ []))
          ∙ append_assoc (part_bytes parts) (255 ∷ byte ∷ []) text)
          (has_units text (InSection (parts ++ Pair byte ∷ [])) (each-push IsPart parts (Pair byte) h e))
    ] refl)

pub units_of : (text : List ℕ) → HasUnits text
units_of text = has_units text Nothing tt

-- Options with their values have one reading, and it is found word by word.
use Rattle.std.proofs.Common.{◌≡◌, ◌≢◌, ℕ, ◌<◌, ◌≤◌, Bool, true, false, cond, List, [], ◌∷◌, ◌++◌, length, Option, None, Some, refl, sym, ap, subst, ◌∙◌, arith, inl, inr, append_assoc, append-nil, length-append, get_or}
use Rattle.std.specs.Prelude.{◌==◌, if◌then◌else◌, map, String, string_bytes}
use Rattle.std.specs.declared.alloc.Global.{Global}
use Rattle.std.specs.List.{position_or_len, before_first, after_first}
use Rattle.std.proofs.lemmas.Bool.{eqb-true}
use Rattle.std.proofs.lemmas.List.{length-map}
use Rattle.std.proofs.lemmas.Slice.Eq.{bytes_eq-Decides}
use Rattle.cmd_job.specs.Options.{AreOptions, BeginsWith, Chosen, GivenValue, Says, TellsOptions, chosen_of, is_equals, listed, name_of, nothing_chosen, same_option, values_of, with_chosen}
use Rattle.cmd_job.specs.declared.command_name.CommandName.{CommandName}
use Rattle.cmd_job.specs.declared.options.JobOption.{JobOption}
use Rattle.cmd_job.specs.declared.options.JobOption.TheVariants.{Port, Bind, Count, Store, Game}

-- ---- one option

-- a word that is written with `=` is cut behind the option's name
before_cut : (option : JobOption) (value : List ℕ)
    → before_first is_equals (name_of option ++ 61 ∷ value) ≡ name_of option
before_cut Port value = refl
before_cut Bind value = refl
before_cut Count value = refl
before_cut Store value = refl
before_cut Game value = refl

after_cut : (option : JobOption) (value : List ℕ) → after_first is_equals (name_of option ++ 61 ∷ value) ≡ value
after_cut Port value = refl
after_cut Bind value = refl
after_cut Count value = refl
after_cut Store value = refl
after_cut Game value = refl

has_cut : (option : JobOption) (value : List ℕ)
    → position_or_len is_equals (name_of option ++ 61 ∷ value) < length (name_of option ++ 61 ∷ value)
has_cut Port value = omega arith
has_cut Bind value = omega arith
has_cut Count value = omega arith
has_cut Store value = omega arith
has_cut Game value = omega arith

-- a name alone has no `=`
no_cut : (option : JobOption) → position_or_len is_equals (name_of option) ≡ length (name_of option)
no_cut Port = refl
no_cut Bind = refl
no_cut Count = refl
no_cut Store = refl
no_cut Game = refl

-- the option that is called so, by the third byte of its name
option_by : ℕ → JobOption
option_by byte =
    if byte == 112 then Port else if byte == 98 then Bind else if byte == 99 then Count else if byte == 115 then Store
    else Game

option_by-name : (option : JobOption) → option_by (get_or (name_of option) 2 0) ≡ option
unfolding option_by
option_by-name Port = refl
option_by-name Bind = refl
option_by-name Count = refl
option_by-name Store = refl
option_by-name Game = refl

-- a name names one option
pub one_name : (option other : JobOption) → name_of option ≡ name_of other → option ≡ other
one_name option other e =
    sym (option_by-name option) ∙ ap (λ (n : List ℕ). option_by (get_or n 2 0)) e ∙ option_by-name other

pub same_option-is : (option other : JobOption) → same_option option other ≡ true → option ≡ other
same_option-is option other e = one_name option other ((bytes_eq-Decides (name_of option) (name_of other)).0 e)

-- a name alone isn't a word that is written with `=`
not_both : (option other : JobOption) (value : List ℕ) → name_of option ≡ name_of other ++ 61 ∷ value → ⊥
not_both option other value e =
    let cut : position_or_len is_equals (name_of option) < length (name_of option) =
    subst (λ (w : List ℕ). position_or_len is_equals w < length w) (sym e) (has_cut other value) in
    absurd (omega (arith, cut, no_cut option))

-- words begin with one option and one value
pub one_first : (command : CommandName) (words : List (List ℕ)) (option other : JobOption) (value value' : List ℕ)
    (rest rest' : List (List ℕ))
    → BeginsWith command words option value rest → BeginsWith command words other value' rest'
    → (option ≡ other) × (value ≡ value') × (rest ≡ rest')
one_first command words option other value value' rest rest' (inl e, good, taken) (inl f, good', taken') =
    let both : name_of option ∷ value ∷ rest ≡ name_of other ∷ value' ∷ rest' = sym e ∙ f in
    (one_name option other cc, cc, cc)
one_first command words option other value value' rest rest' (inl e, good, taken) (inr f, good', taken') =
    let both : name_of option ∷ value ∷ rest ≡ (name_of other ++ 61 ∷ value') ∷ rest' = sym e ∙ f in
    absurd (not_both option other value' cc)
one_first command words option other value value' rest rest' (inr e, good, taken) (inl f, good', taken') =
    let both : name_of other ∷ value' ∷ rest' ≡ (name_of option ++ 61 ∷ value) ∷ rest = sym f ∙ e in
    absurd (not_both other option value cc)
one_first command words option other value value' rest rest' (inr e, good, taken) (inr f, good', taken') =
    let both : (name_of option ++ 61 ∷ value) ∷ rest ≡ (name_of other ++ 61 ∷ value') ∷ rest' = sym e ∙ f in
    let word : name_of option ++ 61 ∷ value ≡ name_of other ++ 61 ∷ value' = cc in (
      one_name option other
          (sym (before_cut option value) ∙ ap (before_first is_equals) word ∙ before_cut other value'),
      sym (after_cut option value) ∙ ap (after_first is_equals) word ∙ after_cut other value',
      cc,
    )

-- no words don't begin with an option
pub none_first : (command : CommandName) (option : JobOption) (value : List ℕ) (rest : List (List ℕ))
    → BeginsWith command [] option value rest → ⊥
none_first command option value rest (inl e, good, taken) =
    absurd (let bad : [] ≡ name_of option ∷ value ∷ rest = e in cc)
none_first command option value rest (inr e, good, taken) =
    absurd (let bad : [] ≡ (name_of option ++ 61 ∷ value) ∷ rest = e in cc)

-- what is behind an option is shorter
pub shorter : (command : CommandName) (words : List (List ℕ)) (option : JobOption) (value : List ℕ)
    (rest : List (List ℕ))
    → BeginsWith command words option value rest → length rest < length words
shorter command words option value rest (inl e, good, taken) =
    let l : length words ≡ length (name_of option ∷ value ∷ rest) = ap length e in omega (arith, l)
shorter command words option value rest (inr e, good, taken) =
    let l : length words ≡ length ((name_of option ++ 61 ∷ value) ∷ rest) = ap length e in omega (arith, l)

-- ---- options one after the other

pub one_options : (command : CommandName) (words : List (List ℕ)) (given other : List GivenValue)
    → AreOptions command words given → AreOptions command words other → given ≡ other
one_options command words [] [] h k = refl
one_options command words [] (g ∷ other) h k =
    absurd (none_first command g.option g.value k.0
    (subst (λ (w : List (List ℕ)). BeginsWith command w g.option g.value k.0) h k.1))
one_options command words (g ∷ given) [] h k =
    absurd (none_first command g.option g.value h.0
    (subst (λ (w : List (List ℕ)). BeginsWith command w g.option g.value h.0) k h.1))
one_options command words (g ∷ given) (d ∷ other) h k =
    let first = one_first command words g.option d.option g.value d.value h.0 k.0 h.1 k.1 in
    let rest =
    one_options command h.0 given other h.2
    (subst (λ (w : List (List ℕ)). AreOptions command w other) (sym first.2) k.2) in
    let same : g ≡ d =
    ap (λ (o : JobOption). record g { option = o }) first.0 ∙ ap (λ (v : List ℕ). record d { value = v }) first.1 in
    ap (λ (x : GivenValue). x ∷ given) same ∙ ap (λ (xs : List GivenValue). d ∷ xs) rest

-- ---- values

values-append : (option : JobOption) (given more : List GivenValue)
    → values_of option (given ++ more) ≡ values_of option given ++ values_of option more
values-append option [] more = refl
values-append option (g ∷ given) more =
    elim (same_option g.option option)
    as (λ (t : Bool).
    cond t (g.value ∷ values_of option (given ++ more)) (values_of option (given ++ more))
    ≡ cond t (g.value ∷ values_of option given) (values_of option given) ++ values_of option more) [
      | true ↦ ap (λ (l : List (List ℕ)). g.value ∷ l) (values-append option given more)
      | false ↦ values-append option given more
    ]

own_option : (option : JobOption) → same_option option option ≡ true
own_option option = (bytes_eq-Decides (name_of option) (name_of option)).1 refl

-- what a list of given values has of an option, one more of which is given
put_of : Chosen → JobOption → List ℕ → JobOption → Option (List ℕ)
put_of values option value other = cond (same_option option other) (Some value) (chosen_of values other)

with_chosen-is : (values : Chosen) (option : JobOption) (value : List ℕ) → with_chosen values option value ≡ record {
  port = put_of values option value Port;
  bind = put_of values option value Bind;
  count = put_of values option value Count;
  store = put_of values option value Store;
  game = put_of values option value Game;
}
unfolding put_of
with_chosen-is values Port value = refl
with_chosen-is values Bind value = refl
with_chosen-is values Count value = refl
with_chosen-is values Store value = refl
with_chosen-is values Game value = refl

put_is : (values : Chosen) (option : JobOption) (value : List ℕ) (other : JobOption)
    → chosen_of (with_chosen values option value) other ≡ put_of values option value other
put_is values option value Port = ap (λ (c : Chosen). c.port) (with_chosen-is values option value)
put_is values option value Bind = ap (λ (c : Chosen). c.bind) (with_chosen-is values option value)
put_is values option value Count = ap (λ (c : Chosen). c.count) (with_chosen-is values option value)
put_is values option value Store = ap (λ (c : Chosen). c.store) (with_chosen-is values option value)
put_is values option value Game = ap (λ (c : Chosen). c.game) (with_chosen-is values option value)

-- one value more, by whether it is this option's
one_more : (values : Chosen) (option other : JobOption) (value : List ℕ) (same : Bool) → same_option option other ≡ same
    → chosen_of values option ≡ None
    → listed (chosen_of values other) ++ cond same (value ∷ []) []
    ≡ listed (cond same (Some value) (chosen_of values other))
one_more values option other value true is none =
    let absent : chosen_of values other ≡ None = ap (chosen_of values) (sym (same_option-is option other is)) ∙ none in
    ap (λ (c : Option (List ℕ)). listed c ++ value ∷ []) absent
one_more values option other value false is none = append-nil (listed (chosen_of values other))

-- one option more that was not given before
tells_more : (given : List GivenValue) (values : Chosen) (option : JobOption) (value : List ℕ)
    → TellsOptions given values
    → chosen_of values option ≡ None
    → TellsOptions (given ++ record { option = option; value = value } ∷ []) (with_chosen values option value)
unfolding put_of
tells_more given values option value tells none = λ other.
    values-append other given (record { option = option; value = value } ∷ [])
    ∙ ap (λ (l : List (List ℕ)). l ++ values_of other (record { option = option; value = value } ∷ [])) (tells other)
    ∙ one_more values option other value (same_option option other) refl none
    ∙ ap listed (sym (put_is values option value other))

-- a list of none or one has no two
few : (chosen : Option (List ℕ)) → length (listed chosen) ≤ 1
few None = omega arith
few (Some value) = omega arith

some_listed : (chosen : Option (List ℕ)) → chosen ≢ None → length (listed chosen) ≡ 1
some_listed None some = absurd (some refl)
some_listed (Some value) some = refl

own_value : (option : JobOption) (value : List ℕ) (more : List GivenValue)
    → values_of option (record { option = option; value = value } ∷ more) ≡ value ∷ values_of option more
own_value option value more =
    ap (λ (t : Bool). cond t (value ∷ values_of option more) (values_of option more)) (own_option option)

-- an option that was given isn't given again
tells_twice : (given more : List GivenValue) (values other : Chosen) (option : JobOption) (value : List ℕ)
    → TellsOptions given values → chosen_of values option ≢ None
    → TellsOptions (given ++ record { option = option; value = value } ∷ more) other → ⊥
tells_twice given more values other option value tells some both =
    let all : values_of option (given ++ record { option = option; value = value } ∷ more)
    ≡ values_of option given ++ (value ∷ values_of option more) =
    values-append option given (record { option = option; value = value } ∷ more)
    ∙ ap (λ (l : List (List ℕ)). values_of option given ++ l) (own_value option value more) in
    let before : length (values_of option given) ≡ 1 =
    ap length (tells option) ∙ some_listed (chosen_of values option) some in
    let whole : length (values_of option given ++ (value ∷ values_of option more)) ≤ 1 =
    subst (λ (l : List (List ℕ)). length l ≤ 1) (sym (both option) ∙ all) (few (chosen_of other option)) in
    absurd (omega (arith, before, whole, length-append (values_of option given) (value ∷ values_of option more)))

one_listed : (one other : Option (List ℕ)) → listed one ≡ listed other → one ≡ other
one_listed None None e = refl
one_listed None (Some v) e = absurd (let bad : [] ≡ v ∷ [] = e in cc)
one_listed (Some v) None e = absurd (let bad : v ∷ [] ≡ [] = e in cc)
one_listed (Some v) (Some w) e = ap Some (let same : v ∷ [] ≡ w ∷ [] = e in cc)

-- what is given tells one choice
pub one_choice : (given : List GivenValue) (values other : Chosen) → TellsOptions given values
    → TellsOptions given other
    → values ≡ other
one_choice given values other h k =
    let same : (option : JobOption) → chosen_of values option ≡ chosen_of other option = λ option.
    one_listed (chosen_of values option) (chosen_of other option) (sym (h option) ∙ k option) in
    ap (λ (p : Option (List ℕ)). record values { port = p }) (same Port)
    ∙ ap (λ (b : Option (List ℕ)). record values { port = other.port; bind = b }) (same Bind)
    ∙ ap (λ (c : Option (List ℕ)). record values { port = other.port; bind = other.bind; count = c }) (same Count)
    ∙ ap (λ (s : Option (List ℕ)). record other { store = s; game = values.game }) (same Store)
    ∙ ap (λ (g : Option (List ℕ)). record other { game = g }) (same Game)

-- ---- how far the options were read

pub record SoFar (command : CommandName) (words rest : List (List ℕ)) (values : Chosen) : Type 0 where
  pub done : List GivenValue
  pub before : (more : List GivenValue) → AreOptions command rest more → AreOptions command words (done ++ more)
  pub only : (all : List GivenValue) → AreOptions command words all
      → (more : List GivenValue) × (all ≡ done ++ more) × AreOptions command rest more
  pub tells : TellsOptions done values

none_told : (option : JobOption) → [] ≡ listed (chosen_of nothing_chosen option)
none_told Port = refl
none_told Bind = refl
none_told Count = refl
none_told Store = refl
none_told Game = refl

pub so_far_start : (command : CommandName) (words : List (List ℕ)) → SoFar command words words nothing_chosen
so_far_start command words =
    record { done = []; before = λ more h. h; only = λ all h. (all, refl, h); tells = λ option. none_told option }

module _ (command : CommandName) (words rest : List (List ℕ)) (values : Chosen)
    (so : SoFar command words rest values) where
  behind : (option : JobOption) (value : List ℕ) (later : List (List ℕ)) → BeginsWith command rest option value later
      → (all more : List GivenValue) → all ≡ so.done ++ more → AreOptions command rest more
      → (less : List GivenValue) × (all ≡ (so.done ++ record { option = option; value = value } ∷ []) ++ less)
      × AreOptions command later less
  behind option value later begins all [] is h =
      absurd (none_first command option value later
      (subst (λ (w : List (List ℕ)). BeginsWith command w option value later) h begins))
  behind option value later begins all (g ∷ more) is h =
      let first = one_first command rest option g.option value g.value later h.0 begins h.1 in
      let same : record { option = option; value = value } ≡ g =
      ap (λ (o : JobOption). record { option = o; value = value }) first.0
      ∙ ap (λ (v : List ℕ). record g { value = v }) first.1 in (
        more,
        is ∙ ap (λ (x : GivenValue). so.done ++ x ∷ more) (sym same)
            ∙ sym (append_assoc so.done (record { option = option; value = value } ∷ []) more),
        subst (λ (w : List (List ℕ)). AreOptions command w more) (sym first.2) h.2,
      )

  pub so_far_step : (option : JobOption) (value : List ℕ) (later : List (List ℕ))
      → BeginsWith command rest option value later → chosen_of values option ≡ None
      → SoFar command words later (with_chosen values option value)
  so_far_step option value later begins none = record {
    done = so.done ++ record { option = option; value = value } ∷ [];
    before = λ more h.
        subst (AreOptions command words)
        (sym (append_assoc so.done (record { option = option; value = value } ∷ []) more))
        (so.before (record { option = option; value = value } ∷ more) (later, begins, h));
    only = λ all h. let m = so.only all h in behind option value later begins all m.0 m.1 m.2;
    tells = tells_more so.done values option value so.tells none;
  }

  pub so_far_end : rest ≡ [] → Says command words values
  so_far_end e =
      record {
        given = so.done;
        options = subst (AreOptions command words) (append-nil so.done) (so.before [] e);
        once = so.tells;
      }

  stuck : rest ≢ []
      → ((option : JobOption) (value : List ℕ) (later : List (List ℕ)) → BeginsWith command rest option value later → ⊥)
      → (more : List GivenValue) → AreOptions command rest more → ⊥
  stuck some none [] h = some h
  stuck some none (g ∷ more) h = none g.option g.value h.0 h.1

  pub so_far_none : rest ≢ []
      → ((option : JobOption) (value : List ℕ) (later : List (List ℕ)) → BeginsWith command rest option value later → ⊥)
      → (other : Chosen) → Says command words other → ⊥
  so_far_none some none other h = let m = so.only h.given h.options in stuck some none m.0 m.2

  pub so_far_twice : (option : JobOption) (value : List ℕ) (later : List (List ℕ))
      → BeginsWith command rest option value later → chosen_of values option ≢ None
      → (other : Chosen) → Says command words other → ⊥
  so_far_twice option value later begins some other h =
      let m = so.only h.given h.options in
      let b = behind option value later begins h.given m.0 m.1 m.2 in
      tells_twice so.done b.0 values other option value so.tells some
      (subst (λ (l : List GivenValue). TellsOptions l other)
      (b.1 ∙ append_assoc so.done (record { option = option; value = value } ∷ []) b.0) h.once)

-- ---- words

-- the words of a command's options tell one choice
pub one_saying : (command : CommandName) (words : List (List ℕ)) (values other : Chosen) → Says command words values
    → Says command words other → values ≡ other
one_saying command words values other h k =
    one_choice h.given values other h.once
    (subst (λ (g : List GivenValue). TellsOptions g other)
    (one_options command words k.given h.given k.options h.options)
    k.once)

pub some_words : (words : List (String Global)) → (length words == 0) ≡ false → map string_bytes words ≢ []
some_words [] e bad = absurd (let wrong : true ≡ false = e in cc)
some_words (word ∷ words) e bad = absurd cc

pub no_words : (words : List (String Global)) → (length words == 0) ≡ true → map string_bytes words ≡ []
no_words [] e = refl
no_words (word ∷ words) e =
    let zero : length (word ∷ words) ≡ 0 = eqb-true (length (word ∷ words)) 0 e in absurd (omega (arith, zero))

-- what is behind an option is shorter, in words
pub shorter_words : (command : CommandName) (words rest : List (String Global)) (option : JobOption) (value : List ℕ)
    → BeginsWith command (map string_bytes words) option value (map string_bytes rest) → length rest < length words
shorter_words command words rest option value begins =
    omega (
      arith,
      shorter command (map string_bytes words) option value (map string_bytes rest) begins,
      length-map words string_bytes,
      length-map rest string_bytes,
    )

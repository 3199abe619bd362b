use Rattle.std.proofs.Common.{◌≡◌, ◌+◌, ◌<◌, ℕ, Bool, true, List, length, sym, ap, ◌∙◌, arith}
use Rattle.fics_words.specs.Handle.{key_of}
use Rattle.login_handles.specs.Guests.{guest_among, guest_of, is_taken}
use Rattle.login_handles.proofs.GuestNames.{AllTaken, AllTaken-none, AllTaken-more, AllTaken-length, IsLeastFree-one, guests_are_least}
use Rattle.login_handles.proofs.guests.guest_name.Goals as goal

-- what the test says of the guest's key
of_guest : (taken : List (List ℕ)) (key name : List ℕ) (n : ℕ) (t u : Bool) → u ≡ is_taken taken key → u ≡ t
    → key ≡ key_of name → name ≡ guest_of n
    → is_taken taken (key_of (guest_of n)) ≡ t
of_guest taken key name n t u test is key_is name_is =
    ap (λ (x : List ℕ). is_taken taken (key_of x)) (sym name_is) ∙ ap (is_taken taken) (sym key_is) ∙ sym test ∙ is

-- one more is taken, so there is a number left
next_fits : (taken : List (List ℕ)) (n : ℕ) → AllTaken taken (n + 1) → n < 456976 → length taken < 456976
    → n + 1 < 456976
next_fits taken n all h few = let bound = AllTaken-length (n + 1) taken (omega arith) all in omega (arith, bound)

pub loop-name-init : goal.loop-name-init
loop-name-init g c = (c.numbered_guest-name.ensures, AllTaken-none (g.N.NamesInUse.keys c.args.names.now), omega arith)

pub numbered_guest-name-requires-in-loop-name : goal.numbered_guest-name-requires-in-loop-name
numbered_guest-name-requires-in-loop-name g c =
    next_fits (g.N.NamesInUse.keys c.args.names.now) c.loop-name.number
    (AllTaken-more (g.N.NamesInUse.keys c.args.names.now) c.loop-name.number c.loop-name.invariant.1
    (of_guest (g.N.NamesInUse.keys c.args.names.now) _ _ c.loop-name.number true _ c.has.ensures c.loop-name-test.true
    c.key.ensures c.loop-name.invariant.0))
    c.loop-name.invariant.2 c.requires

pub loop-name-smaller : goal.loop-name-smaller
loop-name-smaller g c = omega (arith, c.loop-name.invariant.2)

pub loop-name-preserved : goal.loop-name-preserved
loop-name-preserved g c =
    let all = AllTaken-more (g.N.NamesInUse.keys c.args.names.now) c.loop-name.number c.loop-name.invariant.1
    (of_guest (g.N.NamesInUse.keys c.args.names.now) _ _ c.loop-name.number true _ c.has.ensures c.loop-name-test.true
    c.key.ensures c.loop-name.invariant.0) in (
      c.numbered_guest-name-in-loop-name.ensures,
      all,
      next_fits (g.N.NamesInUse.keys c.args.names.now) c.loop-name.number all c.loop-name.invariant.2 c.requires,
    )

pub returns-clause-least : goal.returns-clause-least
returns-clause-least g c = record {
  number = c.loop-name.number;
  within = c.loop-name.invariant.2;
  name_is = c.loop-name.invariant.0;
  free =
      ap (is_taken (g.N.NamesInUse.keys c.args.names.now)) (sym c.key.ensures) ∙ sym c.has.ensures
      ∙ c.loop-name-test.false;
  least = c.loop-name.invariant.1;
}

pub returns-clause-among : goal.returns-clause-among
returns-clause-among g c =
    IsLeastFree-one (g.N.NamesInUse.keys c.args.names.now) c.loop-name.name
    (guest_among (g.N.NamesInUse.keys c.args.names.now)) (returns-clause-least g c)
    (guests_are_least (g.N.NamesInUse.keys c.args.names.now) c.requires)

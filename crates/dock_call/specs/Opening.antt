-- What opening a pack answers, for every pack and all lengths.
use Rattle.std.specs.Prelude.{Result, Ok, Err}
use Rattle.std.specs.Prelude.{◌≡◌, List, ℕ, length}
use Rattle.std.proofs.Common.{sym, ◌∙◌, arith}
use Rattle.std.proofs.Math.Path.{ap}
use Rattle.std.proofs.Math.Option.{Option, none, some}
use Rattle.definition.specs.Test.{is, see, never}
use Rattle.definition.specs.Pack.{Pack}
use Rattle.definition.specs.Frame.{fine, refuse}
use Rattle.definition.specs.Parse.{parse}
use Rattle.definition.specs.Answer.{Lent, lengths}
use Rattle.definition.specs.declared.Refusal.{Refusal}
use Rattle.pack_reader.specs.Parsed.{Room, Represents, Parses}
use Rattle.dock_call.specs.Lengths.{lent_of, lengths_fit}
use Rattle.dock_call.specs.declared.lent.Lent.{Lent as Given}

-- "Order": lengths, work, the pack's first bad record
unfoldable pub opening_refusal : Lent → List ℕ → Option Refusal
unfolding lengths parse
opening_refusal l pack =
    elim (lengths l) [
      | some r ↦ some r
      | none ↦ elim (parse pack) [ refuse r ↦ some r | fine P ↦ none ]
    ]

-- the pack is read, or its first bad record
abbrev pub Takes : List ℕ → List ℕ → Result (Unit {0}) Refusal → Type 0
Takes pack work' (Ok tt) = (P : Pack) × (parse pack ≡ fine P) × Represents pack work' P
Takes pack work' (Err r) = parse pack ≡ refuse r

-- so it is where the reader answers
pub takes_parsed : (pack work work' : List ℕ) (o : Result (Unit {0}) Refusal) → Parses pack work work' o → Takes pack work' o
takes_parsed pack work work' (Ok tt) p = (p.0, p.1, p.2)
takes_parsed pack work work' (Err r) p = p

-- the lengths pass and the pack is read, or the refusal
abbrev pub Opens : Given → List ℕ → List ℕ → Result (Unit {0}) Refusal → Type 0
Opens l pack work' (Ok tt) = (lengths (lent_of l) ≡ none) × (P : Pack) × (parse pack ≡ fine P) × Represents pack work' P
Opens l pack work' (Err r) = opening_refusal (lent_of l) pack ≡ some r

module _ (l : Lent) (pack : List ℕ) where
  -- what opening refuses, the lengths refuse, or they pass and reading the pack refuses it
  pub refused_by : {X : Type 0} (r : Refusal) → opening_refusal l pack ≡ some r → (lengths l ≡ some r → X) → (lengths l ≡ none → parse pack ≡ refuse r → X) → X
  unfolding opening_refusal
  refused_by r e long bad = elim (see (lengths l)) [
    | is (some q) p ↦ long (p ∙ rw (p, opening_refusal) at e)
    | is none p ↦ elim (see (parse pack)) [
      | is (refuse q) f ↦ bad p (let z : some q ≡ some r = rw (p, f, opening_refusal) at e in let y : q ≡ r = cc in f ∙ ap refuse y)
      | is (fine P) f ↦ never (let z : none ≡ some r = rw (p, f, opening_refusal) at e in cc)
    ]
  ]

  -- the lengths are refused
  pub lengths-refused : (r : Refusal) → some r ≡ lengths l → opening_refusal l pack ≡ some r
  unfolding opening_refusal
  lengths-refused r e = rw (← e, opening_refusal)

  module _ (fit : none ≡ lengths l) where
    -- the lengths leave room for the tables
    pub room : (work : List ℕ) → l.pack ≡ length pack → l.work ≡ length work → Room pack work
    room work p w = let F = lengths_fit l (sym fit) in record { short = omega (arith, F.pack, p); fits = omega (arith, F.pack, F.least, p, w) }

    -- the pack is refused, or read
    pub pack_refused : (r : Refusal) → parse pack ≡ refuse r → opening_refusal l pack ≡ some r
    unfolding opening_refusal
    pack_refused r e = rw (← fit, e, opening_refusal)

    pub pack_opened : (P : Pack) → parse pack ≡ fine P → opening_refusal l pack ≡ none
    unfolding opening_refusal
    pack_opened P e = rw (← fit, e, opening_refusal)

-- behind lengths that pass the pack is taken
pub takes_opens : (l : Given) (pack work' : List ℕ) (o : Result (Unit {0}) Refusal) → lengths (lent_of l) ≡ none → Takes pack work' o → Opens l pack work' o
takes_opens l pack work' (Ok tt) fit T = (fit, T.0, T.1, T.2)
takes_opens l pack work' (Err r) fit T = pack_refused (lent_of l) pack (sym fit) r T

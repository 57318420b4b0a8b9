-- Every pack that parses is good, gives once what is given once, and is within the limits.
use Rattle.std.specs.Prelude.{◌≡◌, Bool, true, false, List, ℕ, ◌<◌, eqb}
use Rattle.std.proofs.Common.{arith}
use Rattle.definition.specs.Pack.{Pack, empty}
use Rattle.definition.specs.Frame.{good, fine, Record}
use Rattle.definition.proofs.Laws.Frame.{records-keep}
use Rattle.definition.specs.Parse.{kinds, take_record, parse}
use Rattle.definition.specs.Good.{Good, Once, Few}
use Rattle.definition.proofs.Laws.Taken.{Taken, taken_good, taken_once, taken_few}
use Rattle.definition.proofs.Laws.TakenTheory.{taken-sort, taken-symbol, taken-rule}
use Rattle.definition.proofs.Laws.TakenCertificate.{taken-node, taken_step, taken-goal, taken-result, taken-cut, taken-abstract}

-- what follows from either branch of a test follows from the test
either : {A C : Type 0} {x y c : A} (t : Bool) → (x ≡ c → C) → (y ≡ c → C) → ◌≡◌ {A = A} (elim t [ true ↦ x | false ↦ y ]) c → C
either true l r e = l e
either false l r e = r e

-- a record of whatever kind gives one good thing more
taken : (P : Pack) (r : Record) (Q : Pack) → take_record P r ≡ good Q → Taken P Q
unfolding take_record
taken P r Q =
    either (eqb r.kind 1) (taken-sort P r.body Q) (
    either (eqb r.kind 2) (taken-symbol P r.body Q) (
    either (eqb r.kind 3) (taken-rule P r.body Q) (
    either (eqb r.kind 4) (taken-node P r.body Q) (
    either (eqb r.kind 5) (taken_step P r.body Q) (
    either (eqb r.kind 6) (taken-goal P r.body Q) (
    either (eqb r.kind 7) (taken-result P r.body Q) (
    either (eqb r.kind 8) (taken-cut P r.body Q) (taken-abstract P r.body Q))))))))

-- what every pack keeps while it is read
record Sound (P : Pack) : Type 0 where
  fit : Good P
  once : Once P
  few : Few P

-- no number is below 0, so anything follows
none : {C : Type 0} {i : ℕ} → i < 0 → C
none l = absurd (omega arith)

-- nothing is read yet
empty_sound : Sound empty
empty_sound = record {
  fit = record { sorts = λ i. none; symbols = λ i. none; rules = λ i. none; nodes = λ i. none; steps = λ i. none; goals = λ i. none; results = λ i. none; cuts = λ i. none; abstracts = λ i. none };
  once = record { sorts = λ i j. none; symbols = λ i j. none; rules = λ i j. none; nodes = λ i j. none; goals = λ i j. none; results = λ i j. none; cuts = λ i j. none };
  few = omega arith;
}

-- a record more keeps it
taken_sound : (P : Pack) (r : Record) (Q : Pack) → Sound P → take_record P r ≡ good Q → Sound Q
taken_sound P r Q S e =
    let T = taken P r Q e in
    record { fit = taken_good P Q T S.fit; once = taken_once P Q T S.once; few = taken_few P Q T S.few }

-- what parses is sound
parsed_sound : (s : List ℕ) (P : Pack) → parse s ≡ fine P → Sound P
unfolding parse
parsed_sound s P e = records-keep kinds take_record Sound taken_sound s 0 0 0 empty P empty_sound e

-- every pack that parses is good
pub parsed_good : (s : List ℕ) (P : Pack) → parse s ≡ fine P → Good P
parsed_good s P e = (parsed_sound s P e).fit

-- it gives once what is given once
pub parsed_once : (s : List ℕ) (P : Pack) → parse s ≡ fine P → Once P
parsed_once s P e = (parsed_sound s P e).once

-- it is within the limits
pub parsed_few : (s : List ℕ) (P : Pack) → parse s ≡ fine P → Few P
parsed_few s P e = (parsed_sound s P e).few

-- nothing read is good, and so is what is good with a record more
pub empty_good : Good empty
empty_good = empty_sound.fit

pub record_good : (P : Pack) (r : Record) (Q : Pack) → Good P → take_record P r ≡ good Q → Good Q
record_good P r Q G e = taken_good P Q (taken P r Q e) G

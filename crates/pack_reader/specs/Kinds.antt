-- A record of any kind: what taking it up answers, by its kind.
use Rattle.std.specs.Prelude.{Result, Ok, Err}
use Rattle.std.specs.Prelude.{◌≡◌, List, ℕ}
use Rattle.std.proofs.Common.{◌∙◌, arith}
use borrow.Author.Tests.{ne_eqb}
use Rattle.definition.specs.Pack.{Pack}
use Rattle.definition.specs.Frame.{Checked}
use Rattle.definition.specs.Theory.{take_sort, take_symbol, take_rule}
use Rattle.definition.specs.Certificate.{take_node, take_step, take_goal, take_result, take_cut, take_abstract}
use Rattle.definition.specs.Parse.{take_record}
use Rattle.pack_tables.specs.declared.catalog.Catalog.{Catalog}
use Rattle.pack_reader.specs.Taking.{Takes}
use Rattle.pack_reader.specs.Marks.{Marks, Advances, takes_advances}
use Rattle.pack_reader.specs.declared.taken.Fault.{Fault}
use Rattle.pack_reader.specs.declared.taken.Fault.TheVariants.{Bad, Over}

-- tests that are the same answer the same
pub advances_by : (bytes work work' : List ℕ) (c : Catalog) (end : ℕ) (take take' : Pack → Checked Pack) (r : Result (Unit {0}) Fault) → ((P : Pack) → take' P ≡ take P) → Advances bytes work work' c end take r → Advances bytes work work' c end take' r
advances_by bytes work work' c end take take' (Ok tt) e A = record {
  reading = A.reading;
  marks = A.marks;
  beyond = A.beyond;
  says = λ P R. let s = A.says P R in (s.0, e P ∙ s.1, s.2);
}
advances_by bytes work work' c end take take' (Err Bad) e A = λ P R. e P ∙ A P R
advances_by bytes work work' c end take take' (Err Over) e A = λ P R. e P ∙ A P R

module _ (bytes work work' body : List ℕ) (c : Catalog) (end : ℕ) (M : Marks bytes work c) (r : Result (Unit {0}) Fault) where
  -- the definition's test of a record of kind k
  abbrev taken_as : ℕ → Pack → Checked Pack
  taken_as k P = take_record P (record { kind = k; body = body })

  pub a_sort : (k : ℕ) → k ≡ 1 → Takes bytes work work' c 0 end (λ P. take_sort P body) r → Advances bytes work work' c end (taken_as k) r
  unfolding take_record
  a_sort k e T = advances_by bytes work work' c end (λ P. take_sort P body) (taken_as k) r (λ P. rw e) (takes_advances bytes work work' c 0 end _ r M (omega arith) T)

  pub a_symbol : (k : ℕ) → k ≡ 2 → Takes bytes work work' c 1 end (λ P. take_symbol P body) r → Advances bytes work work' c end (taken_as k) r
  unfolding take_record
  a_symbol k e T = advances_by bytes work work' c end (λ P. take_symbol P body) (taken_as k) r (λ P. rw e) (takes_advances bytes work work' c 1 end _ r M (omega arith) T)

  pub a_rule : (k : ℕ) → k ≡ 3 → Takes bytes work work' c 2 end (λ P. take_rule P body) r → Advances bytes work work' c end (taken_as k) r
  unfolding take_record
  a_rule k e T = advances_by bytes work work' c end (λ P. take_rule P body) (taken_as k) r (λ P. rw e) (takes_advances bytes work work' c 2 end _ r M (omega arith) T)

  pub a_node : (k : ℕ) → k ≡ 4 → Takes bytes work work' c 3 end (λ P. take_node P body) r → Advances bytes work work' c end (taken_as k) r
  unfolding take_record
  a_node k e T = advances_by bytes work work' c end (λ P. take_node P body) (taken_as k) r (λ P. rw e) (takes_advances bytes work work' c 3 end _ r M (omega arith) T)

  pub a_step : (k : ℕ) → k ≡ 5 → Takes bytes work work' c 4 end (λ P. take_step P body) r → Advances bytes work work' c end (taken_as k) r
  unfolding take_record
  a_step k e T = advances_by bytes work work' c end (λ P. take_step P body) (taken_as k) r (λ P. rw e) (takes_advances bytes work work' c 4 end _ r M (omega arith) T)

  pub a_goal : (k : ℕ) → k ≡ 6 → Takes bytes work work' c 5 end (λ P. take_goal P body) r → Advances bytes work work' c end (taken_as k) r
  unfolding take_record
  a_goal k e T = advances_by bytes work work' c end (λ P. take_goal P body) (taken_as k) r (λ P. rw e) (takes_advances bytes work work' c 5 end _ r M (omega arith) T)

  pub a_result : (k : ℕ) → k ≡ 7 → Takes bytes work work' c 6 end (λ P. take_result P body) r → Advances bytes work work' c end (taken_as k) r
  unfolding take_record
  a_result k e T = advances_by bytes work work' c end (λ P. take_result P body) (taken_as k) r (λ P. rw e) (takes_advances bytes work work' c 6 end _ r M (omega arith) T)

  pub a_cut : (k : ℕ) → k ≡ 8 → Advances bytes work work' c end (λ P. take_cut P body) r → Advances bytes work work' c end (taken_as k) r
  unfolding take_record
  a_cut k e A = advances_by bytes work work' c end (λ P. take_cut P body) (taken_as k) r (λ P. rw e) A

  -- what is of no other kind
  pub an_abstract : (k : ℕ) → (k ≡ 1 → ⊥) → (k ≡ 2 → ⊥) → (k ≡ 3 → ⊥) → (k ≡ 4 → ⊥) → (k ≡ 5 → ⊥) → (k ≡ 6 → ⊥) → (k ≡ 7 → ⊥) → (k ≡ 8 → ⊥) → Takes bytes work work' c 8 end (λ P. take_abstract P body) r → Advances bytes work work' c end (taken_as k) r
  unfolding take_record
  an_abstract k n1 n2 n3 n4 n5 n6 n7 n8 T =
      advances_by bytes work work' c end (λ P. take_abstract P body) (taken_as k) r (λ P. rw (ne_eqb k 1 n1, ne_eqb k 2 n2, ne_eqb k 3 n3, ne_eqb k 4 n4, ne_eqb k 5 n5, ne_eqb k 6 n6, ne_eqb k 7 n7, ne_eqb k 8 n8, take_record))
      (takes_advances bytes work work' c 8 end _ r M (omega arith) T)

-- One goal's test: its result's step, and the instance test of its judgment against that step's class.
use Rattle.std.specs.Prelude.{Some, None, Ok, Err}
use Rattle.std.specs.Prelude.{Result as Either}
use Rattle.std.specs.Prelude.{◌≡◌, refl, true, ℕ, ◌+◌, ◌<◌, eqb, length}
use Rattle.std.proofs.Common.{sym, ◌∙◌, subst, arith, eq-eqb, ne_eqb}
use Rattle.std.proofs.Math.Path.{ap}
use mathlib.Core.List.{List, []}
use Rattle.std.proofs.Math.Option.{none, some}
use Rattle.std.proofs.Math.ListN.{get_or}
use Rattle.definition.specs.Test.{is, see}
use Rattle.definition.specs.Pack.{Goal, Result, Node, Pack, step_of}
use Rattle.definition.specs.Verdict.{Met, value_of, matches, no_result}
use Rattle.definition.specs.Frame.{fine, refuse}
use Rattle.definition.specs.Answer.{Lent}
use Rattle.definition.specs.Store.{term_of}
use Rattle.definition.specs.Keys.{first_of, keyed as keys_of}
use Rattle.definition.specs.Classes.{no_class, Built}
use Rattle.definition.specs.Run.{outcome}
use Rattle.definition.specs.Goals.{Root, result_of, instance_of, test_goal}
use Rattle.definition.specs.declared.Refusal.{Refusal}
use Rattle.definition.specs.declared.Refusal.TheVariants as refusals
use Rattle.definition.specs.declared.Refusal.TheVariants.{Goal as Unmet, Instance as Unlike}
use Rattle.theory.specs.Classes.GoalsMet.{result_named}
use Rattle.base.specs.Outside.{Outside, outside_none}
use Rattle.pack_tables.specs.Catalog.{records_of}
use Rattle.pack_tables.specs.declared.catalog.Catalog.{Catalog}
use Rattle.pack_read.specs.Reads.{length-nodes, length_steps, length_goals}
use Rattle.pack_read.specs.Says.{OfPack}
use Rattle.pack_read.specs.Held.{OfHeld}
use Rattle.pack_read.specs.Goals.{goal_of, MetBy, StepOf}
use Rattle.store.specs.Stored.{nodes}
use Rattle.memo.specs.declared.memo.Memo.{Memo}
use Rattle.store.specs.declared.nodes.Store.{Store}
use Rattle.class_keys.specs.declared.classes.Keying.{Keying}
use Rattle.class_premises.specs.Takes.{row_in, conclusion_in}
use Rattle.class_premises.specs.declared.layout.Layout.{Layout}
use Rattle.term_instance.specs.Held.{value_at, Given, Kept}
use Rattle.term_instance.specs.Matches.{Matches}
use Rattle.term_instance.specs.declared.tables.Instance.{Instance}
use Rattle.class_build.specs.Values.{given-none, given_match}
use Rattle.class_build.specs.Results.{result_found, answered-step}
use Rattle.class_build.specs.Runs.{goal_missed, goal-other, goal-unlike, goal_alike}
use Rattle.class_build.specs.Testable.{Ready, Testable, class_there, class_is, class_made, place_there, row_there, conclusion_is, conclusion-stored}

-- a goal that is not met is refused, whatever was built
unmet : (P : Pack) (b : Built) (g : Goal) → (Met P g → ⊥) → (i : ℕ) (L : Lent) → outcome L (test_goal P b i g) ≡ refuse (Unmet i)
unmet P b g d i L = elim (see (result_of g.name P.results)) [
  | is none p ↦ goal_missed P b i g L p
  | is (some r) p ↦
      let f = result_found g.name P.results r p in
      let e : (step_of P (get_or P.results f.0 no_result).step).judgment ≡ (step_of P r.step).judgment = ap (λ (x : Result). (step_of P x.step).judgment) f.3 in
      goal-other P b i g L r p (ne_eqb (step_of P r.step).judgment g.judgment (λ q. d (record { result = f.0; given = f.1; name = f.2; judgment = e ∙ q })))
]

-- ---- the test
-- what is said of each pack that stands there, with what was built of it
abbrev pub OfReady : (bytes work class words : List ℕ) (c : Catalog) (k : Keying) (l : Layout) (t : Instance) (st : Store) → (Pack → Built → Type 0) → Type 0
OfReady bytes work class words c k l t st F = (P : Pack) (b : Built) → Ready bytes work class words c k l t st P b → F P b

-- a root is goal g's, of a class that is made, whose row stands at `row`; its values are nodes of the pack
pub record Rooted (work : List ℕ) (l : Layout) (P : Pack) (b : Built) (g : ℕ) (r : Root) (row : ℕ) : Type 0 where
  pub goal : r.goal ≡ goal_of P g
  pub class : r.class < length b.classes
  pub place : row ≡ get_or work (l.rows + r.class) 0
  pub given : (j n : ℕ) → value_of j r.values ≡ some n → n < length P.nodes

-- a goal's refusal as it is of goal i: one that is not met is refused by its number
abbrev pub told_of : ℕ → Refusal → Refusal
told_of i (Unmet n) = Unmet i
told_of i (Unlike n) = Unlike n
told_of i (refusals.Form n) = refusals.Form n
told_of i (refusals.Limit n) = refusals.Limit n
told_of i (refusals.Step n) = refusals.Step n
told_of i (refusals.Clash n) = refusals.Clash n
told_of i (refusals.Circle n) = refusals.Circle n
told_of i (refusals.Short n) = refusals.Short n
told_of i refusals.Sorts = refusals.Sorts
told_of i (refusals.Cut n) = refusals.Cut n
told_of i (refusals.Ground n) = refusals.Ground n

-- the goal passes, the memo of values has those of its root, and the row is that of its class; or it is refused as the definition has it,
-- whatever number the goal has there
abbrev pub TestsOne : (bytes work work' class words : List ℕ) (c : Catalog) (k : Keying) (l : Layout) (t : Instance) (st : Store) (g : ℕ) → Either (Memo × Memo × ℕ) Refusal → Type 0
TestsOne bytes work work' class words c k l t st g (Ok (seen, values, row)) =
    Kept t seen values work work'
    × OfReady bytes work class words c k l t st (λ P b.
    (r : Root) × ((i : ℕ) (L : Lent) → outcome L (test_goal P b i (goal_of P g)) ≡ fine r) × ((j : ℕ) → value_at work' t values j ≡ value_of j r.values) × Rooted work l P b g r row)
TestsOne bytes work work' class words c k l t st g (Err z) =
    Outside t.pairs t.end work work'
    × (told_of g z ≡ z) × OfReady bytes work class words c k l t st (λ P b. (i : ℕ) (L : Lent) → outcome L (test_goal P b i (goal_of P g)) ≡ refuse (told_of i z))

module _ (bytes work class words : List ℕ) (c : Catalog) (k : Keying) (l : Layout) (t : Instance) (st : Store) (g : ℕ) where
  -- there is no such step
  pub one-unmet : StepOf bytes work c g None → TestsOne bytes work work class words c k l t st g (Err (Unmet g))
  one-unmet S = (outside_none t.pairs t.end work, refl, λ P b R. unmet P b (goal_of P g) (S P R.reads R.proper))

  -- there is one, with a first step of its judgment, that one's conclusion, and the goal's judgment
  module _ (s : ℕ) (S : StepOf bytes work c g (Some s)) where
    -- it is recorded
    pub answer_recorded : (seen values : Memo) → Testable bytes work class words c k l t st seen values → s < length (records_of work c 4)
    answer_recorded seen values T =
        let R = T.ready in
        omega (arith, length_steps bytes (records_of work c) T.pack R.reads, answered-step T.pack R.proper.good (goal_of T.pack g) s (S T.pack R.reads R.proper))

    -- its class's row is there, with a pattern of the store; and the goal's judgment is a node
    module _ (seen values : Memo) (T : Testable bytes work class words c k l t st seen values) (f : ℕ) (F : OfHeld bytes work c (λ P. f ≡ first_of P s)) where
      -- it is the goal's
      answer : MetBy T.pack (goal_of T.pack g) s
      answer = S T.pack T.ready.reads T.ready.proper

      -- with the first step
      first_is : f ≡ first_of T.pack s
      first_is = F T.pack T.ready.reads T.ready.proper

      -- as `row_of` asks
      pub answer_asks : (f < length class) × (l.rows + get_or class f 0 < length work)
      answer_asks =
          let R = T.ready in
          let o = goal_of T.pack g in (
            class_there bytes work class words c k l t st T.pack T.built R o s answer f first_is,
            place_there bytes work class words c k l t st T.pack T.built R o s answer f first_is,
          )

      -- as `row_conclusion` asks
      pub row_asks : (row : ℕ) → row ≡ row_in work class l f → row < length class
      row_asks row W = omega (arith, W, row_there bytes work class words c k l t st T.pack T.built T.ready (goal_of T.pack g) s answer f first_is)

      -- as the instance test asks
      pub instance_asks : g < length (records_of work c 5) → (row : ℕ) → row ≡ row_in work class l f → (p : ℕ) → p ≡ conclusion_in class row → (m : ℕ) → OfPack bytes work c (λ P. (goal_of P g).judgment) m
          → Given bytes work words c t st seen values × (p < length (nodes words st)) × (m < length (records_of work c 3))
      instance_asks h row W p C m J =
          let R = T.ready in
          let o = goal_of T.pack g in
          let j = (R.proper.good.goals g (omega (arith, h, length_goals bytes (records_of work c) T.pack R.reads))).judgment.given in (
            T.given,
            omega (arith, C ∙ ap (λ (n : ℕ). get_or class n 0) W, conclusion-stored bytes work class words c k l t st T.pack T.built R o s answer f first_is),
            omega (arith, j, J T.pack R.reads, length-nodes bytes (records_of work c) T.pack R.reads),
          )

    module _ (f row p m : ℕ) (F : OfHeld bytes work c (λ P. f ≡ first_of P s)) (W : row ≡ row_in work class l f) (C : p ≡ conclusion_in class row) (J : OfPack bytes work c (λ P. (goal_of P g).judgment) m) where
      -- the instance test is the definition's
      same_test : (P : Pack) (b : Built) → Ready bytes work class words c k l t st P b
          → instance_of P b (get_or (keys_of P).words (first_of P s) 0) (goal_of P g).judgment ≡ matches P (term_of (nodes words st) p) m []
      unfolding instance_of
      same_test P b R =
          let A = S P R.reads R.proper in
          let e : p ≡ (get_or b.classes (get_or (keys_of P).words (first_of P s) 0) no_class).conclusion =
          C ∙ ap (λ (n : ℕ). get_or class n 0) W ∙ conclusion_is bytes work class words c k l t st P b R (goal_of P g) s A f (F P R.reads R.proper) in
          ap (λ (j : ℕ). matches P (term_of b.store (get_or b.classes (get_or (keys_of P).words (first_of P s) 0) no_class).conclusion) j []) (sym (J P R.reads))
          ∙ ap (λ (x : ℕ). matches P (term_of b.store x) m []) (sym e) ∙ ap (λ (ns : List Node). matches P (term_of ns p) m []) (sym R.store)

      -- the root of the goal
      rooted : (P : Pack) (b : Built) → Ready bytes work class words c k l t st P b → g < length P.goals → (r : Root) → r.goal ≡ goal_of P g → r.class ≡ get_or (keys_of P).words (first_of P s) 0
          → matches P (term_of (nodes words st) p) m [] ≡ some r.values → Rooted work l P b g r row
      rooted P b R h r q v w =
          let A = S P R.reads R.proper in
          let o = goal_of P g in
          let d = F P R.reads R.proper in
          let u : get_or class f 0 ≡ r.class = class_is bytes work class words c k l t st P b R o s A f d ∙ sym v in
          let j = (R.proper.good.goals g h).judgment.given in
          record {
            goal = q;
            class = subst (λ (n : ℕ). n < length b.classes) u (class_made bytes work class words c k l t st P b R o s A f d);
            place = W ∙ ap (λ (n : ℕ). get_or work (l.rows + n) 0) u;
            given = given_match P R.proper.good (term_of (nodes words st) p) m [] r.values (omega (arith, j, J P R.reads)) (given-none P) w;
          }

      -- the judgment is an instance
      pub one-met : g < length (records_of work c 5) → (work' : List ℕ) (seen values : Memo) → Matches bytes work work' words c t st p m (Some (seen, values)) → TestsOne bytes work work' class words c k l t st g (Ok (seen, values, row))
      one-met h work' seen values M = (
        M.0,
        λ P b R.
            let A = S P R.reads R.proper in
            let r = get_or P.results A.met.result no_result in
            let N = M.1 P R.reads R.proper in
            let q : eqb (step_of P r.step).judgment (goal_of P g).judgment ≡ true = eq-eqb (step_of P r.step).judgment (goal_of P g).judgment A.met.judgment in
            let v : instance_of P b (get_or (keys_of P).words (first_of P r.step) 0) (goal_of P g).judgment ≡ some N.0 =
            ap (λ (x : ℕ). instance_of P b (get_or (keys_of P).words (first_of P x) 0) (goal_of P g).judgment) (sym A.step) ∙ same_test P b R ∙ N.1 in
            let root : Root = record { goal = goal_of P g; step = first_of P r.step; class = get_or (keys_of P).words (first_of P r.step) 0; values = N.0 } in
            (root, λ i L. goal_alike P b i (goal_of P g) L r (result_named P R.proper.once (goal_of P g).name A.met.result A.met.given A.met.name) q N.0 v, N.2, rooted P b R (omega (arith, h, length_goals bytes (records_of work c) P R.reads)) root refl (ap (λ (x : ℕ). get_or (keys_of P).words (first_of P x) 0) (sym A.step)) N.1),
      )

      -- it is none
      pub one-other : (work' : List ℕ) → Matches bytes work work' words c t st p m None → TestsOne bytes work work' class words c k l t st g (Err (Unlike s))
      one-other work' M = (
        M.0,
        refl,
        λ P b R i L.
            let A = S P R.reads R.proper in
            let r = get_or P.results A.met.result no_result in
            let q : eqb (step_of P r.step).judgment (goal_of P g).judgment ≡ true = eq-eqb (step_of P r.step).judgment (goal_of P g).judgment A.met.judgment in
            let v : instance_of P b (get_or (keys_of P).words (first_of P r.step) 0) (goal_of P g).judgment ≡ none =
            ap (λ (x : ℕ). instance_of P b (get_or (keys_of P).words (first_of P x) 0) (goal_of P g).judgment) (sym A.step) ∙ same_test P b R ∙ M.1 P R.reads R.proper in
            goal-unlike P b i (goal_of P g) L r (result_named P R.proper.once (goal_of P g).name A.met.result A.met.given A.met.name) q v ∙ ap (λ (x : ℕ). refuse (Unlike x)) (sym A.step),
      )

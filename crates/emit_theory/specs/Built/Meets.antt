-- Where classes are built, each needed step that isn't cut meets its cut refs: its rule's premises have their predicates. So for every pack that
-- parses, whether its steps pass or not.
use Rattle.std.specs.Prelude.{◌≡◌, true, false, List, [], ◌∷◌, ◌++◌, map, ℕ, zero, suc, ◌<◌, eqb, length, get_or}
use Rattle.std.proofs.Common.{sym, ap, ◌∙◌, arith}
use Rattle.definition.specs.Test.{is, see, never, any}
use Rattle.definition.specs.Pack.{Terms, nil, cons, Result, Pack, rule_of, step_of}
use Rattle.definition.specs.Good.{Good, Few}
use Rattle.definition.specs.Store.{nothing}
use Rattle.definition.specs.Run.{Note, done}
use Rattle.definition.specs.Keys.{first_of, predicate_of, is_a_cut, needs, needed_below, needed, no_keyed, key_of, keyed}
use Rattle.definition.specs.Classes.{Built, build_classes}
use Rattle.emission.specs.Patterns.{has_head}
use Rattle.theory.specs.Keys.Needed.{Among, among_here, among_there, among_side, on_left, on_right, among_one, needed-below, needs-needed}
use Rattle.theory.specs.Keys.Keyed.{get_d_any}
use Rattle.theory.specs.Keys.KeyedLaws.{keyed-kept}
use Rattle.theory.specs.Classes.Steps.{needs-before, refs-needed}
use Rattle.theory.specs.Making.Firsts.{key-cut, key-rule}
use Rattle.emit_theory.specs.Goal.Needed.{Meeting, StepMeets}
use Rattle.emit_theory.specs.Built.Heads.{head_of, SameHeads, KeyHeads}
use Rattle.emit_theory.specs.Built.Whole.{classes_sorted, classes_heads}

-- a needed step is a step
needed-given : (P : Pack) (s : ℕ) → Among s (needed P) → s < length P.steps
unfolding needed
needed-given P s n = needed-below P (length P.steps) (map (λ (r : Result). first_of P r.step) P.results) s n

-- what holds of wanted steps, and of what a step needs if it holds of the step, holds of all that they need
needed_inherit : (P : Pack) (Q : ℕ → Type 0) → ((t r : ℕ) → Q t → Among r (needs P t) → Q r) → (n : ℕ) (wanted : List ℕ) → ((s : ℕ) → Among s wanted → Q s) → (s : ℕ) → Among s (needed_below n P wanted) → Q s
unfolding needed_below any
needed_inherit P Q down zero wanted w s a = never (cc)
needed_inherit P Q down (suc n) wanted w s a = elim (see (any (eqb n) wanted)) [
  | is false p ↦ needed_inherit P Q down n wanted w s (rw (p, needed_below) at a)
  | is true p ↦ elim (among_side s (needed_below n P (needs P n ++ wanted)) (n ∷ []) (rw (p, needed_below) at a)) [
    | on_left l ↦ needed_inherit P Q down n (needs P n ++ wanted) (λ r b. elim (among_side r (needs P n) wanted b) [ on_left c ↦ down n r (w n p) c | on_right c ↦ w r c ]) s l
    | on_right r ↦ rw (among_one s n r) (w n p)
  ]
]

module _ (P : Pack) (good : Good P) (few : Few P) (ns : List Note) (b : Built) (e : build_classes P ≡ done ns b) where
  -- a needed step's class has its key's heads
  needed_heads : (s : ℕ) → Among s (needed P) → KeyHeads P b (get_or (keyed P).words s 0) (get_or (keyed P).classes (get_or (keyed P).words s 0) no_keyed).key
  needed_heads s n =
      let K = keyed-kept P good in
      let l = needed-given P s n in
      let C = K.0.classed s (omega (arith, K.1)) n in
      classes_heads P good few ns b e (get_or (keyed P).words s 0) (omega (arith, C.0, (classes_sorted P good few ns b e).1))

  -- its key
  needed-key : (s : ℕ) → Among s (needed P) → (get_or (keyed P).classes (get_or (keyed P).words s 0) no_keyed).key ≡ key_of P (keyed P).words s
  needed-key s n = let K = keyed-kept P good in let l = needed-given P s n in (K.0.classed s (omega (arith, K.1)) n).1

  -- the class of a needed step that is cut has its predicate's head
  cut-head : (s : ℕ) → Among s (needed P) → is_a_cut P (predicate_of P s) ≡ true → head_of b (get_or (keyed P).words s 0) ≡ predicate_of P s
  cut-head s n c = rw (needed-key s n ∙ key-cut P (keyed P).words s c) at (needed_heads s n)

  -- premises that have the heads of their refs' classes meet the refs that are cut
  heads_meet : (ts : Terms) (rs : List ℕ) → ((r : ℕ) → Among r (map (first_of P) rs) → Among r (needed P)) → SameHeads b ts (map (λ r. get_or (keyed P).words (first_of P r) nothing) rs) → Meeting P ts rs
  heads_meet nil rs n h = tt
  heads_meet (cons t ts) [] n h = tt
  heads_meet (cons t ts) (r ∷ rs) n h = (
    λ c.
        let f = first_of P r in
        let a = n f (among_here f (map (first_of P) rs)) in
        let word = get_d_any (keyed P).words f nothing 0 (omega (arith, needed-given P f a, (keyed-kept P good).1)) in
        ap (λ (k : ℕ). has_head k t) (sym (ap (head_of b) word ∙ cut-head f a c)) ∙ h.1,
    heads_meet ts rs (λ q a. n q (among_there q (first_of P r) (map (first_of P) rs) a)) h.2,
  )

  -- a needed step meets its refs
  pub built-meets : (s : ℕ) → Among s (needed P) → StepMeets P s
  built-meets s n c =
      heads_meet (rule_of P (step_of P s).rule).premises (step_of P s).refs (refs-needed P good s n c) (rw (needed-key s n ∙ key-rule P (keyed P).words s c) at (needed_heads s n))

  -- and so does each step of a needed step's own
  pub goal-meets : (top : ℕ) → Among top (needed P) → (s : ℕ) → Among s (needed_below (length P.steps) P (top ∷ [])) → StepMeets P s
  unfolding needed
  goal-meets top n s a =
      let down : (t r : ℕ) → Among t (needed P) → Among r (needs P t) → Among r (needed P) = needs-needed P (needs-before P good) (length P.steps) (map (λ (r : Result). first_of P r.step) P.results) in
      built-meets s (needed_inherit P (λ t. Among t (needed P)) down (length P.steps) (top ∷ []) (λ t o. rw (among_one t top o) n) s a)

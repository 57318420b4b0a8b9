-- The verdict of a good pack: none just where every step passes and every goal is met; else the first that fails.
use Rattle.std.specs.Prelude.{◌≡◌, refl, Bool, true, false, List, [], ◌∷◌, map, ℕ, zero, suc, ◌+◌, ◌<◌, eqb, length, get_or}
use Rattle.std.proofs.Common.{sym, ap, ◌∙◌, subst, arith, eqb-true, eq-eqb}
use Rattle.std.proofs.Math.Option.{Option, none, some}
use Rattle.definition.specs.Test.{is, see, never, ◌and◌, and_parts, any, same, same_true, same_refl}
use Rattle.definition.specs.Pack.{Goal, Pack, no_step, rule_of, step_of}
use Rattle.definition.specs.Tree.{Tree, tree_then, no_tree, pick, trees, tree_of}
use Rattle.definition.proofs.Laws.Grow.{below_more}
use Rattle.definition.specs.Good.{Below, Good, Once}
use Rattle.definition.specs.Verdict.{judgments, Passes, no_goal, no_result, Met, Accepted, Bound, value_of, onwards, matched, passes, met, first_failing, verdict}
use Rattle.definition.proofs.Laws.Matches.{Agrees, Given, sound, sound_all, complete, complete_all}
use Rattle.definition.specs.declared.Refusal.TheVariants.{Step as StepFails, Goal as GoalFails}

matched_some : (r : Option (List Bound)) → matched r ≡ true → (cs : List Bound) × (r ≡ some cs)
unfolding matched
matched_some none e = never (cc)
matched_some (some cs) e = (cs, refl)

pub onwards_some : (m : Option (List Bound)) (f : List Bound → Option (List Bound)) (cs : List Bound) → onwards m f ≡ some cs
    → (bs : List Bound) × (m ≡ some bs) × (f bs ≡ some cs)
unfolding onwards
onwards_some none f cs e = never (cc)
onwards_some (some bs) f cs e = (bs, refl, e)

-- two ways to go on that are the same
pub onwards-same : (m : Option (List Bound)) (f g : List Bound → Option (List Bound)) → ((bs : List Bound) → f bs ≡ g bs) → onwards m f ≡ onwards m g
unfolding onwards
onwards-same none f g h = refl
onwards-same (some bs) f g h = h bs

some_number : {a b : ℕ} → some a ≡ some b → a ≡ b
some_number e = cc

-- the nodes of the refs' judgments
abbrev pub judged : Pack → List ℕ → List ℕ
judged P refs = map (λ r. (step_of P r).judgment) refs

pub judgments-pick : (P : Pack) (refs : List ℕ) → judgments P refs ≡ pick (trees P) (judged P refs)
unfolding judgments pick tree_of
judgments-pick P [] = refl
judgments-pick P (r ∷ refs) = ap (tree_then (tree_of P (step_of P r).judgment)) (judgments-pick P refs)

pub judged-below : (P : Pack) → Good P → (refs : List ℕ) → Below (length P.steps) refs → Below (length P.nodes) (judged P refs)
judged-below P G [] b = tt
judged-below P G (r ∷ refs) b = let g = G.steps r b.0 in (g.judgment.given, judged-below P G refs b.1)

-- each variable's value, as a tree
unfoldable assign : Pack → List Bound → ℕ → Tree
assign P bs k = elim (value_of k bs) [ none ↦ no_tree | some m ↦ tree_of P m ]

assign_agrees : (P : Pack) (bs : List Bound) → Agrees P (assign P bs) bs
unfolding assign
assign_agrees P bs k m v = rw (v, assign)

-- a step that is computed to pass does
pub passes_sound : (P : Pack) → Good P → (i : ℕ) → i < length P.steps → passes P (step_of P i) ≡ true → Passes P (step_of P i)
unfolding passes
passes_sound P G i h e =
    let s = step_of P i in
    let g = G.steps i h in
    let b = judged-below P G s.refs (below_more i (length P.steps) s.refs (omega arith) g.earlier) in
    let m = matched_some _ e in
    let o = onwards_some _ _ m.0 m.1 in
    let ν = assign P m.0 in
    let ps = sound_all P G ν (rule_of P s.rule).premises (judged P s.refs) [] o.0 b o.1 in
    let c = sound P G ν (rule_of P s.rule).conclusion s.judgment o.0 m.0 g.judgment.given o.2 in
    let a = assign_agrees P m.0 in
    record { assignment = ν; premises = ps.1 (λ k n v. a k n (c.0 k n v)) ∙ sym (judgments-pick P s.refs); conclusion = c.1 a }

-- a step that passes is computed to
pub passes_complete : (P : Pack) → Good P → Once P → (i : ℕ) → i < length P.steps → Passes P (step_of P i) → passes P (step_of P i) ≡ true
unfolding passes onwards matched value_of
passes_complete P G O i h p =
    let s = step_of P i in
    let g = G.steps i h in
    let ν = p.assignment in
    let b = judged-below P G s.refs (below_more i (length P.steps) s.refs (omega arith) g.earlier) in
    let none_agrees : Agrees P ν [] = λ k m v. never (let z : none ≡ some m = v in cc) in
    let none-given : Given P [] = λ k m v. never (let z : none ≡ some m = v in cc) in
    let ps = complete_all P G O ν (rule_of P s.rule).premises (judged P s.refs) [] b none_agrees none-given (p.premises ∙ judgments-pick P s.refs) in
    let c = complete P G O ν (rule_of P s.rule).conclusion s.judgment ps.values g.judgment.given ps.agrees ps.given p.conclusion in
    rw (ps.found, onwards, c.found, matched)

-- some element passes just where one can be named
pub any_some : {A : Type 0} (f : A → Bool) (d : A) (xs : List A) → any f xs ≡ true → (i : ℕ) × (i < length xs) × (f (get_or xs i d) ≡ true)
unfolding any
any_some f d [] e = never (cc)
any_some f d (x ∷ xs) e = elim (see (f x)) [
  | is true p ↦ (0, omega arith, p)
  | is false p ↦ let r = any_some f d xs (rw p at e) in (suc r.0, omega (arith, r.1), r.2)
]

pub some_any : {A : Type 0} (f : A → Bool) (d : A) (xs : List A) (i : ℕ) → i < length xs → f (get_or xs i d) ≡ true → any f xs ≡ true
unfolding any
some_any f d [] i h e = absurd (omega arith)
some_any f d (x ∷ xs) zero h e = rw e
some_any f d (x ∷ xs) (suc i) h e = elim (see (f x)) [
  | is true p ↦ rw p
  | is false p ↦ rw p (some_any f d xs i (omega arith) e)
]

pub met_sound : (P : Pack) (g : Goal) → met P g ≡ true → Met P g
unfolding met
met_sound P g e =
    let a = any_some _ no_result P.results e in
    let p = and_parts _ _ a.2 in
    record { result = a.0; given = a.1; name = same_true _ _ p.0; judgment = eqb-true _ _ p.1 }

pub met_complete : (P : Pack) (g : Goal) → Met P g → met P g ≡ true
unfolding met ◌and◌
met_complete P g m =
    let r = get_or P.results m.result no_result in
    let n : same g.name r.name ≡ true = ap (same g.name) (sym m.name) ∙ same_refl g.name in
    let t : same g.name r.name and eqb (step_of P r.step).judgment g.judgment ≡ true = rw (n, ◌and◌) (eq-eqb _ _ m.judgment) in
    some_any _ no_result P.results m.result m.given t

-- what the first that fails says
pub record First {A : Type 0} (f : A → Bool) (d : A) (xs : List A) (i : ℕ) : Type 0 where
  pub given : i < length xs
  pub fails : f (get_or xs i d) ≡ false
  pub before : (j : ℕ) → j < i → f (get_or xs j d) ≡ true

none_fails : {A : Type 0} (f : A → Bool) (d : A) (xs : List A) (n : ℕ) → first_failing f xs n ≡ none → (i : ℕ) → i < length xs → f (get_or xs i d) ≡ true
unfolding first_failing
none_fails f d [] n e i h = absurd (omega arith)
none_fails f d (x ∷ xs) n e zero h = elim (see (f x)) [
  | is false p ↦ never (let z : some n ≡ none = rw (p, first_failing) at e in cc)
  | is true p ↦ p
]
none_fails f d (x ∷ xs) n e (suc i) h = elim (see (f x)) [
  | is false p ↦ never (let z : some n ≡ none = rw (p, first_failing) at e in cc)
  | is true p ↦ none_fails f d xs (suc n) (rw (p, first_failing) at e) i (omega arith)
]

all_pass : {A : Type 0} (f : A → Bool) (d : A) (xs : List A) (n : ℕ) → ((i : ℕ) → i < length xs → f (get_or xs i d) ≡ true) → first_failing f xs n ≡ none
unfolding first_failing
all_pass f d [] n h = refl
all_pass f d (x ∷ xs) n h = rw (h 0 (omega arith), first_failing) (all_pass f d xs (suc n) (λ i m. h (suc i) (omega arith)))

first_fails : {A : Type 0} (f : A → Bool) (d : A) (xs : List A) (n m : ℕ) → first_failing f xs n ≡ some m → (i : ℕ) × (m ≡ n + i) × First f d xs i
unfolding first_failing
first_fails f d [] n m e = never (cc)
first_fails f d (x ∷ xs) n m e = elim (see (f x)) [
  | is false p ↦
      let q : n ≡ m = some_number (rw (p, first_failing) at e) in
      (0, omega arith, record { given = omega arith; fails = p; before = λ j h. absurd (omega arith) })
  | is true p ↦
      let r = first_fails f d xs (suc n) m (rw (p, first_failing) at e) in
      let F = r.2 in
      (suc r.0, omega (arith, r.1), record { given = omega (arith, F.given); fails = F.fails; before = later r.0 p F.before })
] where
  later : (i : ℕ) → f x ≡ true → ((j : ℕ) → j < i → f (get_or xs j d) ≡ true) → (j : ℕ) → j < suc i → f (get_or (x ∷ xs) j d) ≡ true
  later i p b zero h = p
  later i p b (suc j) h = b j (omega arith)

-- "A yes holds just in that case": what is accepted
pub verdict_accepts : (P : Pack) → Good P → verdict P ≡ none → Accepted P
unfolding verdict step_of
verdict_accepts P G e = elim (see (first_failing (passes P) P.steps 0)) [
  | is (some s) p ↦ never (let z : some (StepFails s) ≡ none = rw (p, verdict) at e in cc)
  | is none p ↦ elim (see (first_failing (met P) P.goals 0)) [
    | is (some g) q ↦ never (let z : some (GoalFails g) ≡ none = rw (p, q, verdict) at e in cc)
    | is none q ↦
        record {
          steps = λ i h. passes_sound P G i h (none_fails (passes P) no_step P.steps 0 p i h);
          goals = λ i h. met_sound P (get_or P.goals i no_goal) (none_fails (met P) no_goal P.goals 0 q i h);
        }
  ]
]

-- and what must be
pub accepted_verdict : (P : Pack) → Good P → Once P → Accepted P → verdict P ≡ none
unfolding verdict step_of
accepted_verdict P G O a =
    let s = all_pass (passes P) no_step P.steps 0 (λ i h. passes_complete P G O i h (a.steps i h)) in
    let g = all_pass (met P) no_goal P.goals 0 (λ i h. met_complete P (get_or P.goals i no_goal) (a.goals i h)) in
    rw (s, g, verdict)

-- 3 names the first step that does not pass
pub verdict-step : (P : Pack) → Good P → Once P → (s : ℕ) → verdict P ≡ some (StepFails s)
    → (s < length P.steps) × (Passes P (step_of P s) → ⊥) × ((j : ℕ) → j < s → Passes P (step_of P j))
unfolding verdict step_of
verdict-step P G O s e = elim (see (first_failing (passes P) P.steps 0)) [
  | is (some m) p ↦
      let q : some (StepFails m) ≡ some (StepFails s) = rw (p, verdict) at e in
      let r : m ≡ s = cc in
      let f = first_fails (passes P) no_step P.steps 0 m p in
      let F = f.2 in
      let i : f.0 ≡ s = omega (arith, f.1) in
      let G' = subst (First (passes P) no_step P.steps) i F in (
        G'.given,
        λ h. never (let z : false ≡ true = sym G'.fails ∙ passes_complete P G O s G'.given h in cc),
        λ j h. passes_sound P G j (omega (arith, G'.given)) (G'.before j h),
      )
  | is none p ↦ elim (see (first_failing (met P) P.goals 0)) [
    | is (some g) q ↦ never (let z : some (GoalFails g) ≡ some (StepFails s) = rw (p, q, verdict) at e in cc)
    | is none q ↦ never (let z : none ≡ some (StepFails s) = rw (p, q, verdict) at e in cc)
  ]
]

-- 4 names the first goal that is not met, every step having passed
pub verdict-goal : (P : Pack) → Good P → (g : ℕ) → verdict P ≡ some (GoalFails g)
    → (g < length P.goals) × (Met P (get_or P.goals g no_goal) → ⊥) × ((j : ℕ) → j < g → Met P (get_or P.goals j no_goal)) × ((i : ℕ) → i < length P.steps → Passes P (step_of P i))
unfolding verdict step_of
verdict-goal P G g e = elim (see (first_failing (passes P) P.steps 0)) [
  | is (some m) p ↦ never (let z : some (StepFails m) ≡ some (GoalFails g) = rw (p, verdict) at e in cc)
  | is none p ↦ elim (see (first_failing (met P) P.goals 0)) [
    | is none q ↦ never (let z : none ≡ some (GoalFails g) = rw (p, q, verdict) at e in cc)
    | is (some m) q ↦
        let z : some (GoalFails m) ≡ some (GoalFails g) = rw (p, q, verdict) at e in
        let r : m ≡ g = cc in
        let f = first_fails (met P) no_goal P.goals 0 m q in
        let i : f.0 ≡ g = omega (arith, f.1) in
        let F = subst (First (met P) no_goal P.goals) i f.2 in (
          F.given,
          λ h. never (let y : false ≡ true = sym F.fails ∙ met_complete P (get_or P.goals g no_goal) h in cc),
          λ j h. met_sound P (get_or P.goals j no_goal) (F.before j h),
          λ j h. passes_sound P G j h (none_fails (passes P) no_step P.steps 0 p j h),
        )
  ]
]

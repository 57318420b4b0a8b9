-- A goal's own steps, in their order: each comes once, behind the steps that its refs stand for unless those are cut.
use Rattle.std.specs.Prelude.{◌≡◌, eqb, length}
use Rattle.std.proofs.Common.{sym, arith}
use Rattle.std.proofs.Math.Bool.{true, false}
use mathlib.Core.List.{List, [], ◌∷◌, ◌++◌, map, append-nil, append_assoc}
use Prim.Native.Nat.{ℕ, zero, suc, ◌<◌, ◌≤◌}
use Rattle.definition.specs.Test.{is, see, any}
use Rattle.definition.specs.Pack.{Term, Terms, nil, cons, Pack, rule_of, step_of}
use Rattle.definition.specs.Good.{Below, Good}
use Rattle.definition.specs.Keys.{first_of, predicate_of, is_a_cut, needs, needed_below}
use Rattle.emission.specs.Patterns.{has_head}
use Rattle.theory.specs.Keys.Needed.{first-earlier, Among, among_here, among_there, among_left, among_right, wanted-needed, needed-below}

-- a premise beside its ref: the first step of the ref's judgment stands before, or is cut and has the premise's predicate
pub record RefReady (P : Pack) (before : List ℕ) (t : Term) (r : ℕ) : Type 0 where
  pub given : r < length P.steps
  pub placed : is_a_cut P (predicate_of P (first_of P r)) ≡ false → Among (first_of P r) before
  pub head : is_a_cut P (predicate_of P (first_of P r)) ≡ true → has_head (predicate_of P (first_of P r)) t ≡ true

-- premises beside refs, as far as both go
abbrev pub RefsReady : Pack → List ℕ → Terms → List ℕ → Type 0
RefsReady P before nil rs = Unit {0}
RefsReady P before (cons t ts) [] = Unit {0}
RefsReady P before (cons t ts) (r ∷ rs) = RefReady P before t r × RefsReady P before ts rs

-- a step behind others
pub record Ready (P : Pack) (before : List ℕ) (s : ℕ) : Type 0 where
  pub given : s < length P.steps
  pub new : any (eqb s) before ≡ false
  pub refs : is_a_cut P (predicate_of P s) ≡ false → RefsReady P before (rule_of P (step_of P s).rule).premises (step_of P s).refs

-- steps one behind the other
abbrev pub AllReady : Pack → List ℕ → List ℕ → Type 0
AllReady P before [] = Unit {0}
AllReady P before (s ∷ ss) = Ready P before s × AllReady P (before ++ (s ∷ [])) ss

-- where a premise's ref is cut, its judgment has the premise's predicate
abbrev pub Meeting : Pack → Terms → List ℕ → Type 0
Meeting P nil rs = Unit {0}
Meeting P (cons t ts) [] = Unit {0}
Meeting P (cons t ts) (r ∷ rs) = (is_a_cut P (predicate_of P (first_of P r)) ≡ true → has_head (predicate_of P (first_of P r)) t ≡ true) × Meeting P ts rs

-- of a step that isn't cut
abbrev pub StepMeets : Pack → ℕ → Type 0
StepMeets P s = is_a_cut P (predicate_of P s) ≡ false → Meeting P (rule_of P (step_of P s).rule).premises (step_of P s).refs

module _ (P : Pack) (good : Good P) where
  -- refs that are needed stand before
  refs_ready : (before : List ℕ) (s : ℕ) → s ≤ length P.steps → (ts : Terms) (rs : List ℕ) → Below s rs → Meeting P ts rs → ((f : ℕ) → f < s → Among f (map (first_of P) rs) → Among f before) → RefsReady P before ts rs
  refs_ready before s l nil rs b m h = tt
  refs_ready before s l (cons t ts) [] b m h = tt
  refs_ready before s l (cons t ts) (r ∷ rs) b m h =
      let e = first-earlier P r (omega (arith, b.0)) in (
        record { given = omega (arith, b.0); placed = λ _. h (first_of P r) (omega (arith, b.0)) (among_here (first_of P r) (map (first_of P) rs)); head = m.0 },
        refs_ready before s l ts rs b.1 m.1 (λ f k a. h f k (among_there f (first_of P r) (map (first_of P) rs) a)),
      )

  -- one step more
  ready_more : (before ss : List ℕ) (s : ℕ) → AllReady P before ss → Ready P (before ++ ss) s → AllReady P before (ss ++ (s ∷ []))
  ready_more before [] s A R = (rw (append-nil before) at R, tt)
  ready_more before (t ∷ ss) s A R = (A.0, ready_more (before ++ (t ∷ [])) ss s A.1 (rw (sym (append_assoc before (t ∷ []) ss)) at R))

  -- the needed steps below n, if those that are not cut meet their refs
  pub needed_ready : (n : ℕ) → n ≤ length P.steps → (wanted : List ℕ) → ((s : ℕ) → Among s (needed_below n P wanted) → StepMeets P s) → AllReady P [] (needed_below n P wanted)
  unfolding needed_below needs
  needed_ready zero l wanted M = tt
  needed_ready (suc s) l wanted M = elim (see (any (eqb s) wanted)) [
    | is false p ↦ rw (p, needed_below) (needed_ready s (omega arith) wanted (λ t a. M t (rw (p, needed_below) a)))
    | is true p ↦
        let more = needs P s ++ wanted in
        let ss = needed_below s P more in
        let A = needed_ready s (omega arith) more (λ t a. M t (rw (p, needed_below) (among_left t ss (s ∷ []) a))) in
        let G = good.steps s (omega arith) in
        let meets = M s (rw (p, needed_below) (among_right s ss (s ∷ []) (among_here s []))) in
        rw (p, needed_below) (ready_more [] ss s A (record {
          given = omega arith;
          new = fresh s more;
          refs = λ c. refs_ready ss s (omega arith) (rule_of P (step_of P s).rule).premises (step_of P s).refs G.earlier (meets c)
              (λ f k a. wanted-needed P s more f k (among_left f (needs P s) wanted (rw (c, needs) a)));
        }))
  ]
    where
      fresh : (s : ℕ) (more : List ℕ) → any (eqb s) (needed_below s P more) ≡ false
      fresh s more = elim (see (any (eqb s) (needed_below s P more))) [
        | is false e ↦ e
        | is true e ↦ absurd (let l = needed-below P s more s e in omega arith)
      ]

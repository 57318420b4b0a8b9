-- The lines of a goal's own steps: each step's line states the pattern that the step's conclusion was raised to.
use Rattle.std.specs.Prelude.{◌≡◌, refl, ℕ, eqb}
use Rattle.std.proofs.Math.Bool.{true, false}
use mathlib.Core.List.{List, [], ◌∷◌}
use Rattle.std.proofs.Math.Option.{Option, none, some}
use Rattle.std.proofs.Common.{eqb-true}
use Rattle.definition.specs.Test.{is, see, never, any}
use Rattle.definition.specs.Pack.{prop, step_of}
use Rattle.definition.specs.Verdict.{Bound, value_of}
use Rattle.definition.specs.Graph.{Graph, root}
use Rattle.definition.specs.Analysis.{pairing}
use Rattle.definition.specs.Run.{Run}
use Rattle.emission.specs.State.{Emitter, Setting, Tried, ◌>>=◌, change, having_derived}
use Rattle.emission.specs.Words.{step}
use Rattle.emission.specs.Lay.{Placed, conclusion_of}
use Rattle.emission.specs.Derive.{Stated, raise_judgment, Lines, ref_lines, step_lines}
use Rattle.theory.specs.Copies.Copying.{looked, newest, older, value_of_new}
use Rattle.theory.specs.Patterns.Interned.{grows_none}
use Rattle.theory.specs.Keys.Needed.{Among}
use Rattle.emit_theory.specs.Graphs.{SortedGraph}
use Rattle.emit_theory.specs.Spoken.{Named}
use Rattle.emit_theory.specs.Sound.{Told, Sound, Grew, grew_none, grew_then, told_grows}
use Rattle.emit_theory.specs.Comes.{Comes, gives, changes, then_comes, now_comes, weaker}
use Rattle.emit_theory.specs.Writes.{named_more, sound_derived}
use Rattle.emit_theory.specs.Search.Stating.{step_comes}
use Rattle.emit_theory.specs.Goal.Placed.{PlacedIn, AllPlaced, steps_of, Own}
use Rattle.emit_theory.specs.Goal.Lift.{of_later, of_named}
use Rattle.emit_theory.specs.Goal.Output.{ProvesCut}
use Rattle.emit_theory.specs.Goal.Memo.{Stays, stays_then}
use Rattle.emit_theory.specs.Search.Proving.{judgment-applied}
use Rattle.emit_theory.specs.Goal.Steps.{Faithful, faithful_later, States, raised_of, raise_comes, Referred, refs_comes}

-- line n states what the memo has for a node
pub record LineOf (g : Graph) (memo : List Bound) (e : Emitter) (x n : ℕ) : Type 0 where
  pub pattern : ℕ
  pub noted : value_of (root g x) memo ≡ some pattern
  pub told : Told e.undone.lines e.kept.store pattern n

-- it does so later
line-later : (g : Graph) (m n : List Bound) (a b : Emitter) → Stays m n → Grew a b → (x k : ℕ) → LineOf g m a x k → LineOf g n b x k
line-later g m n a b A G x k H = record {
  pattern = H.pattern;
  noted = A (root g x) H.pattern H.noted;
  told = told_grows a.undone.lines b.undone.lines a.kept.store b.kept.store G.lines G.store H.pattern k H.told;
}

-- each step's line does so for the step's conclusion
abbrev pub Lined : Graph → List Placed → List Bound → Emitter → List Bound → Type 0
Lined g all memo e lines = (s n : ℕ) → value_of s lines ≡ some n → LineOf g memo e (conclusion_of s all) n

lined_later : (g : Graph) (all : List Placed) (m n : List Bound) (a b : Emitter) (lines : List Bound) → Stays m n → Grew a b → Lined g all m a lines → Lined g all n b lines
lined_later g all m n a b lines A G H s k e = line-later g m n a b A G (conclusion_of s all) k (H s k e)

-- one more
lined_more : (g : Graph) (all : List Placed) (memo : List Bound) (e : Emitter) (lines : List Bound) (p : Placed) (n : ℕ) → conclusion_of p.step all ≡ p.conclusion → LineOf g memo e p.conclusion n → Lined g all memo e lines
    → Lined g all memo e (pairing p.step n ∷ lines)
lined_more g all memo e lines p n q N H s k z = elim (looked p.step n lines s k z) [
  | newest i j ↦ rw (i, j, q) N
  | older f ↦ H s k f
]

-- a number that has a value
abbrev pub Valued : List Bound → ℕ → Type 0
Valued bs s = (n : ℕ) × (value_of s bs ≡ some n)

-- what lines of steps come to, behind others
pub record Stepped (S : Setting) (g : Graph) (all : List Placed) (w : Lines Bound) (ps : List Placed) (v : Lines Bound) (e : Emitter) : Type 0 where
  pub reads : Faithful S g v.memo e
  pub lined : Lined g all v.memo e v.lines
  pub old : Named w.lines v.lines
  pub new : (s : ℕ) → Among s (steps_of ps) → Valued v.lines s

module _ (S : Setting) (g : Graph) (G : SortedGraph S.pack g) (cut : ProvesCut S) (all : List Placed) where
  -- what is to be shown of steps
  abbrev Stepping : List Placed → Type 0
  Stepping ps = (w : Lines Bound) (e : Emitter) → Sound S e → Faithful S g w.memo e → Lined g all w.memo e w.lines → Comes S (Stepped S g all w ps) (step_lines S g ps w) e

  module _ (p : Placed) (ps : List Placed) (others : Stepping ps) (P : PlacedIn S.pack g p) (own : conclusion_of p.step all ≡ p.conclusion) (w : Lines Bound) where
    -- a step with its line, and then the others
    step_lined : (n : ℕ) (memo : List Bound) (e : Emitter) → Sound S e → Faithful S g memo e → Lined g all memo e w.lines → LineOf g memo e p.conclusion n
        → Comes S (Stepped S g all w (p ∷ ps)) (step_lines S g ps (record { lines = pairing p.step n ∷ w.lines; memo = memo })) e
    unfolding any
    step_lined n memo e s R H N =
        let v : Lines Bound = record { lines = pairing p.step n ∷ w.lines; memo = memo } in
        weaker S (Stepped S g all v ps) (Stepped S g all w (p ∷ ps)) (step_lines S g ps v) e (others v e s R (lined_more g all memo e w.lines p n own N H))
        (λ x _ _ _ X. record {
          reads = X.reads;
          lined = X.lined;
          old = λ q k z. let m = named_more p.step n w.lines q k z in X.old q m.0 m.1;
          new = λ t a. elim (see (eqb t p.step)) [
            | is true z ↦ rw (eqb-true t p.step z) (X.old p.step n (value_of_new p.step n w.lines))
            | is false z ↦ X.new t (rw z at a)
          ];
        })

    -- a judgment derived before keeps its line; another gets one behind its refs'
    derived_at : (j : Stated) (e : Emitter) → Sound S e → States S g p.conclusion w.memo j e → Lined g all w.memo e w.lines → (o : Option ℕ) → value_of j.judgment e.undone.derived ≡ o
        → Comes S (Stepped S g all w (p ∷ ps)) (elim o as (λ _. Emitter → Run (Tried (Lines Bound))) [
          | some n ↦ step_lines S g ps (record { lines = pairing p.step n ∷ w.lines; memo = j.memo })
          | none ↦
              ref_lines S g w.lines (step_of S.pack p.step).refs p.uses j.memo >>= λ refs. step S (step_of S.pack p.step).rule refs.lines j.judgment
              >>= λ n. change (having_derived j.judgment n) >>= λ _. step_lines S g ps (record { lines = pairing p.step n ∷ w.lines; memo = refs.memo })
        ]) e
    derived_at j e s J H (some n) z =
        step_lined n j.memo e s J.reads (lined_later g all w.memo j.memo e e w.lines J.stays (grew_none e) H) (record { pattern = j.judgment; noted = J.noted; told = s.derived j.judgment n z })
    derived_at j e s J H none z =
        let Q = Stepped S g all w (p ∷ ps) in
        let q = j.judgment in
        let refs = (step_of S.pack p.step).refs in
        let O = raised_of S g e p.conclusion q prop P.sort J.raised in
        then_comes S (Referred S g G j.memo) Q (ref_lines S g w.lines refs p.uses j.memo) _ e (refs_comes S g G cut w.lines refs p.uses P.uses j.memo e s J.reads)
        (λ rs e₁ g₁ s₁ R.
        let O₁ = of_later S prop e e₁ g₁ q O in
        then_comes S (λ n e₂. Told e₂.undone.lines e₂.kept.store q n) Q (step S (step_of S.pack p.step).rule rs.lines q) _ e₁
        (step_comes S (step_of S.pack p.step).rule rs.lines q e₁ s₁ (of_named S prop e₁ q O₁).spoken (judgment-applied S e₁ s₁ q (of_named S prop e₁ q O₁)))
        (λ n e₂ g₂ s₂ T.
        let f = having_derived q n e₂ in
        let k : Grew e₂ f = record { lines = grows_none e₂.undone.lines; store = grows_none e₂.kept.store; names = λ r m y. (m, y) } in
        then_comes S (λ _ e₃. e₃ ≡ f) Q (change (having_derived q n)) _ e₂ (changes S (having_derived q n) e₂ k (sound_derived S e₂ s₂ q n T))
        (λ _ e₃ g₃ s₃ y.
        let stays = stays_then w.memo j.memo rs.memo J.stays R.stays in
        let grew = grew_then e e₁ e₃ g₁ (grew_then e₁ e₂ e₃ g₂ g₃) in
        step_lined n rs.memo e₃ s₃ (faithful_later S g rs.memo e₁ e₃ (grew_then e₁ e₂ e₃ g₂ g₃) s₃ R.reads) (lined_later g all w.memo rs.memo e e₃ w.lines stays grew H)
        (record { pattern = q; noted = R.stays (root g p.conclusion) q J.noted; told = told_grows e₂.undone.lines e₃.undone.lines e₂.kept.store e₃.kept.store g₃.lines g₃.store q n T }))))

    step-next : (e : Emitter) → Sound S e → Faithful S g w.memo e → Lined g all w.memo e w.lines → Comes S (Stepped S g all w (p ∷ ps)) (step_lines S g (p ∷ ps) w) e
    unfolding step_lines
    step-next e s R H =
        let Q = Stepped S g all w (p ∷ ps) in
        then_comes S (States S g p.conclusion w.memo) Q (raise_judgment S g p.conclusion w.memo) _ e (raise_comes S g G p.conclusion w.memo e s P.inside R)
        (λ j e₁ g₁ s₁ J. now_comes S Q _ e₁ s₁ (derived_at j e₁ s₁ J (lined_later g all w.memo w.memo e e₁ w.lines (λ r q z. z) g₁ H) (value_of j.judgment e₁.undone.derived) refl))

  -- steps in their order
  pub lines_come : (ps : List Placed) → AllPlaced S.pack g ps → Own all ps → Stepping ps
  unfolding step_lines any
  lines_come [] A O w e s R H = gives S (Stepped S g all w []) w e s (record { reads = R; lined = H; old = λ q k z. (k, z); new = λ t a. never (cc) })
  lines_come (p ∷ ps) A O w e s R H = step-next p ps (λ w₀ e₀ s₀ R₀ H₀. lines_come ps A.1 O.1 w₀ e₀ s₀ R₀ H₀) A.0 O.0 w e s R H

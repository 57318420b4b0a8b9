-- One premise's instance against the judgment of its ref.
use Rattle.std.specs.Prelude.{◌≡◌, List, [], ◌∷◌, ℕ, suc, ◌<◌, length, get_or}
use Rattle.std.proofs.Common.{sym, ap, ◌∙◌, subst, arith}
use Rattle.std.proofs.Math.Option.{none, some}
use Rattle.definition.specs.Pack.{Pack, step_of}
use Rattle.definition.proofs.Laws.Grow.{below_at}
use Rattle.definition.specs.Verdict.{Bound}
use Rattle.definition.specs.Analysis.{valued}
use Rattle.pack_tables.specs.Catalog.{records_of}
use Rattle.pack_tables.specs.declared.catalog.Catalog.{Catalog}
use Rattle.pack_read.specs.Reads.{Reads, length_steps, length-nodes}
use Rattle.pack_read.specs.Held.{Held}
use Rattle.pack_read.specs.Says.{Readable, OfPack}
use Rattle.graph.specs.declared.graph.Graph.{Graph as Counts}
use Rattle.term_values.specs.Words.{table_in, Stands, Framed, Values, Says}
use Rattle.term_values.specs.Fixes.{Fixes}
use Rattle.term_values.specs.declared.values.Valued.{Valued}
use Rattle.term_values.specs.declared.fix.Fixed.{Fixed}
use Rattle.term_values.specs.declared.fix.Fixed.TheVariants.{Done, Differs}

-- the judgment of a step's ref
abbrev pub judgment_of : Pack → ℕ → ℕ → ℕ
judgment_of P step i = (step_of P (get_or (step_of P step).refs i 0)).judgment

-- a graph without circles and values of its nodes, a node of it, and a step with that ref
pub record Asking (bytes work cells : List ℕ) (c : Catalog) (v : Valued) (g : Counts) (step i x : ℕ) : Type 0 where
  pub values : Values bytes work cells c v g
  pub node : x < g.nodes
  pub step_given : step < length (records_of work c 4)
  pub ref-given : i < length (step_of values.held.pack step).refs

-- the values that there are then, or that there are none
abbrev pub Gives : List ℕ → List ℕ → List ℕ → List ℕ → Catalog → Valued → Counts → ℕ → ℕ → ℕ → Fixed → Type 0
Gives bytes work work' cells c v g step i x Done =
    Framed cells v work work' × Says bytes work cells c v g (λ P h vs. (ws : List Bound) × (valued (suc (length h)) P h (x ∷ []) (judgment_of P step i ∷ []) vs ≡ some ws) × Stands cells (table_in v work') g h ws)
Gives bytes work work' cells c v g step i x Differs = Framed cells v work work' × Says bytes work cells c v g (λ P h vs. valued (suc (length h)) P h (x ∷ []) (judgment_of P step i ∷ []) vs ≡ none)

module _ (bytes work cells : List ℕ) (c : Catalog) (v : Valued) (g : Counts) (step i x : ℕ) (A : Asking bytes work cells c v g step i x) where
  abbrev H : Held bytes work c
  H = A.values.held

  abbrev P : Pack
  P = A.values.held.pack

  step_there : step < length A.values.held.pack.steps
  step_there = omega (arith, A.step_given, length_steps bytes (records_of work c) P H.reads)

  ref_there : get_or (step_of P step).refs i 0 < length P.steps
  ref_there = omega (arith, below_at step (step_of P step).refs i (H.proper.good.steps step step_there).earlier A.ref-given, step_there)

  -- the ref is read
  pub ref-asked : (R : Readable bytes work c) × (step < length (records_of work c 4)) × (i < length (step_of R.pack step).refs)
  ref-asked = (record { cataloged = H.cataloged; pack = P; reads = H.reads }, A.step_given, A.ref-given)

  module _ (q : ℕ) (Q : OfPack bytes work c (λ P. get_or (step_of P step).refs i 0) q) where
    -- then its judgment
    pub judgment-asked : Readable bytes work c × (q < length (records_of work c 4))
    judgment-asked = (record { cataloged = H.cataloged; pack = P; reads = H.reads }, subst (λ (m : ℕ). m < length (records_of work c 4)) (sym (Q P H.reads)) (omega (arith, ref_there, length_steps bytes (records_of work c) P H.reads)))

    module _ (n : ℕ) (J : OfPack bytes work c (λ P. (step_of P q).judgment) n) where
      judgment_is : (P' : Pack) → Reads bytes (records_of work c) P' → n ≡ judgment_of P' step i
      judgment_is P' R = J P' R ∙ ap (λ (m : ℕ). (step_of P' m).judgment) (Q P' R)

      -- which is a ground node
      pub node-asked : n < length (records_of work c 3)
      node-asked =
          let j = (H.proper.good.steps (get_or (step_of P step).refs i 0) ref_there).judgment.given in
          omega (arith, judgment_is P H.reads, j, length-nodes bytes (records_of work c) P H.reads)

      pub gives : (work' : List ℕ) (r : Fixed) → Fixes bytes work work' cells c v g x n r → Gives bytes work work' cells c v g step i x r
      gives work' Done F = (
        F.0,
        λ P' R Q' h vs S. let w = F.1 P' R Q' h vs S in (w.0, ap (λ (m : ℕ). valued (suc (length h)) P' h (x ∷ []) (m ∷ []) vs) (sym (judgment_is P' R)) ∙ w.1, w.2),
      )
      gives work' Differs F = (F.0, λ P' R Q' h vs S. ap (λ (m : ℕ). valued (suc (length h)) P' h (x ∷ []) (m ∷ []) vs) (sym (judgment_is P' R)) ∙ F.1 P' R Q' h vs S)

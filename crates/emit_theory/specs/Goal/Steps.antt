-- Judgments raised from a settled graph, and the lines of a step's refs: the memo stays true to the graph.
use Rattle.std.specs.Prelude.{◌≡◌, ℕ, ◌<◌, length}
use Rattle.std.proofs.Common.{sym, ◌∙◌, subst}
use mathlib.Core.List.{List, [], ◌∷◌}
use Rattle.std.proofs.Math.Option.{Option, none, some}
use Rattle.std.proofs.Math.ListN.{get_or}
use Rattle.definition.specs.Pack.{prop}
use Rattle.definition.specs.Verdict.{Bound, value_of}
use Rattle.definition.specs.Graph.{Graph, root}
use Rattle.definition.specs.Analysis.{copied}
use Rattle.definition.specs.Keys.{first_of}
use Rattle.emission.specs.State.{Emitter, Setting, from, grown_to}
use Rattle.emission.specs.Induct.{prove_cut}
use Rattle.emission.specs.Global.{Reading, raise, raise_levels}
use Rattle.emission.specs.Lay.{Use}
use Rattle.emission.specs.Derive.{Stated, raise_judgment, Lines, ref_lines}
use Rattle.theory.specs.Unification.Solve.{sort_at}
use Rattle.emit_theory.specs.Graphs.{SortedGraph}
use Rattle.emit_theory.specs.Graph.Read.{RaisedTo, RaisedToAll, Reads, reads_grow}
use Rattle.emit_theory.specs.Graph.Raise.{raise_sorted}
use Rattle.emit_theory.specs.Patterns.{Of}
use Rattle.emit_theory.specs.Sound.{Told, Sound, Grew}
use Rattle.emit_theory.specs.Comes.{Comes, gives, from_comes, then_comes, now_comes}
use Rattle.emit_theory.specs.Writes.{grown_comes}
use Rattle.emit_theory.specs.Goal.Placed.{UsesIn}
use Rattle.emit_theory.specs.Goal.Lift.{of_named}
use Rattle.emit_theory.specs.Goal.Output.{ProvesCut}
use Rattle.emit_theory.specs.Goal.Memo.{Stays, stays_then, Noted, raise-notes}

-- a memo that is true to the graph, in a state
abbrev pub Faithful : Setting → Graph → List Bound → Emitter → Type 0
Faithful S g memo e = Reads S.pack S.eigen [] g (record { memo = memo; store = e.kept.store })

-- it is in later states
pub faithful_later : (S : Setting) (g : Graph) (memo : List Bound) (a b : Emitter) → Grew a b → Sound S b → Faithful S g memo a → Faithful S g memo b
faithful_later S g memo a b G s R = reads_grow S.pack S.eigen [] g (record { memo = memo; store = a.kept.store }) b.kept.store G.store s.sorted R

-- a node raised to a judgment: the memo has that for its root, and what it had
pub record States (S : Setting) (g : Graph) (x : ℕ) (memo : List Bound) (j : Stated) (e : Emitter) : Type 0 where
  pub reads : Faithful S g j.memo e
  pub stays : Stays memo j.memo
  pub noted : value_of (root g x) j.memo ≡ some j.judgment
  pub raised : RaisedTo S.pack S.eigen [] g e.kept.store x j.judgment

-- a pattern that a node of a sort was raised to has that sort
pub raised_of : (S : Setting) (g : Graph) (e : Emitter) (x p so : ℕ) → sort_at S.pack g x ≡ so → RaisedTo S.pack S.eigen [] g e.kept.store x p → Of S.pack S.eigen [] e.kept.store so p
raised_of S g e x p so q R = record { stored = R.within; sort = R.sort ∙ q; spoken = R.spoken }

module _ (S : Setting) (g : Graph) (G : SortedGraph S.pack g) where
  -- the one pattern that one node was raised to
  one-stated : (x : ℕ) (memo : List Bound) (r : List ℕ) (m : List Bound) (e : Emitter) → Faithful S g m e → Stays memo m → RaisedToAll S.pack S.eigen [] g e.kept.store (x ∷ []) r → Noted g m (x ∷ []) r
      → States S g x memo (record { judgment = get_or r 0 0; memo = m }) e
  one-stated x memo [] m e R K A N = absurd A
  one-stated x memo (p ∷ ps) m e R K A N = record { reads = R; stays = K; noted = N.0; raised = A.0 }

  -- a node raised
  pub raise_comes : (x : ℕ) (memo : List Bound) (e : Emitter) → Sound S e → x < length g → Faithful S g memo e → Comes S (States S g x memo) (raise_judgment S g x memo) e
  unfolding raise_judgment
  raise_comes x memo e s l R =
      let P = S.pack in
      let m : Reading = record { memo = memo; store = e.kept.store } in
      let r = raise raise_levels S.eigen g (x ∷ []) m in
      let A = raise_sorted P S.eigen [] g G raise_levels (x ∷ []) m (l, tt) R in
      let N = raise-notes g raise_levels S.eigen (x ∷ []) m in
      let Q = States S g x memo in
      now_comes S Q _ e s (then_comes S (λ _ e₁. (e₁.kept.store ≡ r.reading.store) × (e₁.undone ≡ e.undone)) Q (grown_to r.reading.store) _ e (grown_comes S e s r.reading.store A.grows A.reads.store)
      (λ _ e₁ _ s₁ z. then_comes S (λ ps e₂. (r.patterns ≡ some ps) × (e₂.kept.store ≡ r.reading.store)) Q (from r.patterns) _ e₁ (from_comes S (λ ps e₂. (r.patterns ≡ some ps) × (e₂.kept.store ≡ r.reading.store)) r.patterns e₁ s₁ (λ ps q. (q, z.0)))
      (λ ps e₂ _ s₂ q. gives S Q (record { judgment = get_or ps 0 0; memo = r.reading.memo }) e₂ s₂
      (one-stated x memo ps r.reading.memo e₂
      (subst (λ t. Reads P S.eigen [] g (record { memo = r.reading.memo; store = t })) (sym q.1) A.reads) N.stays
      (subst (λ t. RaisedToAll P S.eigen [] g t (x ∷ []) ps) (sym q.1) (A.patterns ps q.0)) (N.there ps q.0)))))

  -- lines behind each other, and the memo
  pub record Referred {A : Type 0} (memo : List Bound) (v : Lines A) (e : Emitter) : Type 0 where
    pub reads : Faithful S g v.memo e
    pub stays : Stays memo v.memo

  module _ (cut : ProvesCut S) (lines : List Bound) where
    -- what is to be shown of refs
    abbrev Refs : List ℕ → List (Option Use) → Type 0
    Refs rs us = (memo : List Bound) (e : Emitter) → Sound S e → Faithful S g memo e → Comes S (Referred memo) (ref_lines S g lines rs us memo) e

    ref-step : (r : ℕ) (rs : List ℕ) (us : List (Option Use)) → Refs rs us → Refs (r ∷ rs) (none ∷ us)
    unfolding ref_lines
    ref-step r rs us others memo e s R =
        then_comes S (Referred memo) (Referred memo) (ref_lines S g lines rs us memo) _ e (others memo e s R)
        (λ rest e₁ _ s₁ X. gives S (Referred memo) (record { lines = copied lines (first_of S.pack r) ∷ rest.lines; memo = rest.memo }) e₁ s₁ (record { reads = X.reads; stays = X.stays }))

    ref-cut : (r : ℕ) (rs : List ℕ) (u : Use) (us : List (Option Use)) → u.node < length g → sort_at S.pack g u.node ≡ prop → Refs rs us → Refs (r ∷ rs) (some u ∷ us)
    unfolding ref_lines
    ref-cut r rs u us l q others memo e s R =
        then_comes S (States S g u.node memo) (Referred memo) (raise_judgment S g u.node memo) _ e (raise_comes u.node memo e s l R)
        (λ c e₁ _ s₁ C. then_comes S (λ n e₂. Told e₂.undone.lines e₂.kept.store c.judgment n) (Referred memo) (prove_cut S c.judgment) _ e₁
        (cut c.judgment e₁ s₁ (of_named S prop e₁ c.judgment (raised_of S g e₁ u.node c.judgment prop q C.raised)))
        (λ n e₂ g₂ s₂ _. then_comes S (Referred c.memo) (Referred memo) (ref_lines S g lines rs us c.memo) _ e₂ (others c.memo e₂ s₂ (faithful_later S g c.memo e₁ e₂ g₂ s₂ C.reads))
        (λ rest e₃ _ s₃ X. gives S (Referred memo) (record { lines = n ∷ rest.lines; memo = rest.memo }) e₃ s₃ (record { reads = X.reads; stays = stays_then memo c.memo rest.memo C.stays X.stays }))))

    -- a step's refs
    pub refs_comes : (rs : List ℕ) (us : List (Option Use)) → UsesIn S.pack g us → Refs rs us
    unfolding ref_lines
    refs_comes [] us U memo e s R = gives S (Referred memo) (record { lines = []; memo = memo }) e s (record { reads = R; stays = λ r p h. h })
    refs_comes (r ∷ rs) [] U memo e s R = gives S (Referred memo) (record { lines = []; memo = memo }) e s (record { reads = R; stays = λ r p h. h })
    refs_comes (r ∷ rs) (none ∷ us) U memo e s R = ref-step r rs us (λ m₀ e₀ s₀ R₀. refs_comes rs us U m₀ e₀ s₀ R₀) memo e s R
    refs_comes (r ∷ rs) (some u ∷ us) U memo e s R = ref-cut r rs u us U.0.inside U.0.sort (λ m₀ e₀ s₀ R₀. refs_comes rs us U.1 m₀ e₀ s₀ R₀) memo e s R

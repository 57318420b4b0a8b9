-- Ground terms and applications made into patterns: these have their sorts and can be spoken of.
use Rattle.std.specs.Prelude.{refl, List, [], ◌∷◌, ℕ, ◌<◌, length}
use Rattle.std.proofs.Common.{subst}
use Rattle.definition.specs.Test.{never}
use Rattle.definition.specs.Pack.{Node, Pack, symbol_of, sort_of}
use Rattle.definition.specs.Tree.{Tree, Trees, tree, no_trees, tree_then, tree_of}
use Rattle.definition.specs.Good.{Good, Few}
use Rattle.definition.specs.Verdict.{Bound, value_of}
use Rattle.definition.specs.Store.{Stored, intern}
use Rattle.definition.specs.Analysis.{StoredAll, lift, lift_all}
use Rattle.emission.specs.State.{Emitter, Setting, interned}
use Rattle.theory.specs.Derive.{SortedTree, SortedTrees}
use Rattle.theory.specs.Classes.Steps.{node_sorted}
use Rattle.theory.specs.Patterns.Interned.{Grows, grows_none, grows_then}
use Rattle.emit_theory.specs.Stores.{SortedStore}
use Rattle.emit_theory.specs.Spoken.{Named}
use Rattle.emit_theory.specs.Patterns.{Of, AllOf, no_of, of_more, of_grows, intern_of}
use Rattle.emit_theory.specs.Sound.{Sound, Grew}
use Rattle.emit_theory.specs.Comes.{Comes, weaker}
use Rattle.emit_theory.specs.Search.Cases.{application_comes}

-- where there is no name, none is lost
pub no_names : (names : List Bound) → Named [] names
unfolding value_of
no_names names p k e = never (cc)

-- a pattern in which L is the only variable, in a later state
pub of_later : (S : Setting) (so : ℕ) (a b : Emitter) → Grew a b → (p : ℕ) → Of S.pack S.eigen [] a.kept.store so p → Of S.pack S.eigen [] b.kept.store so p
of_later S so a b G p O = of_grows S.pack S.eigen [] [] a.kept.store b.kept.store (no_names []) G.store so p O

-- it can be spoken of whatever has a name
pub of_named : (S : Setting) (so : ℕ) (e : Emitter) (p : ℕ) → Of S.pack S.eigen [] e.kept.store so p → Of S.pack S.eigen e.undone.names e.kept.store so p
of_named S so e p O = of_grows S.pack S.eigen [] e.undone.names e.kept.store e.kept.store (no_names e.undone.names) (grows_none e.kept.store) so p O

-- a pattern of a sort in a well-sorted store that has grown
pub record Held (P : Pack) (L so : ℕ) (s : List Node) (r : Stored) : Type 0 where
  pub sorted : SortedStore P r.store
  pub grows : Grows s r.store
  pub pattern : Of P L [] r.store so r.number

-- patterns of these sorts
record HeldAll (P : Pack) (L : ℕ) (sorts : List ℕ) (s : List Node) (r : StoredAll) : Type 0 where
  sorted : SortedStore P r.store
  grows : Grows s r.store
  patterns : AllOf P L [] r.store sorts r.numbers

module _ (P : Pack) (few : Few P) (L : ℕ) where
  -- a tree's pattern, and trees'
  mutual
    unfolding lift

    pub lift_of : (t : Tree) (so : ℕ) (s : List Node) → SortedStore P s → SortedTree P t so → Held P L so s (lift t s)
    lift_of (tree h ts) so s W T =
        let A = lift_all_of ts (symbol_of P h).inputs s W T.2 in
        let args = lift_all ts s in
        let r = intern args.store (record { head = h; args = args.numbers }) in
        let I = intern_of P L [] few args.store h (symbol_of P h).inputs args.numbers A.sorted T.0 refl A.patterns in
        record { sorted = I.0; grows = grows_then s args.store r.store A.grows I.1; pattern = subst (λ x. Of P L [] r.store x r.number) T.1 I.2 }

    lift_all_of : (ts : Trees) (sorts : List ℕ) (s : List Node) → SortedStore P s → SortedTrees P ts sorts → HeldAll P L sorts s (lift_all ts s)
    lift_all_of no_trees [] s W T = record { sorted = W; grows = grows_none s; patterns = no_of }
    lift_all_of no_trees (so ∷ sorts) s W T = absurd T
    lift_all_of (tree_then t ts) [] s W T = absurd T
    lift_all_of (tree_then t ts) (so ∷ sorts) s W T =
        let F = lift_of t so s W T.0 in
        let first = lift t s in
        let R = lift_all_of ts sorts first.store F.sorted T.1 in
        let rest = lift_all ts first.store in
        record {
          sorted = R.sorted;
          grows = grows_then s first.store rest.store F.grows R.grows;
          patterns = of_more so first.number sorts rest.numbers (of_grows P L [] [] first.store rest.store (no_names []) R.grows so first.number F.pattern) R.patterns;
        }

  -- a ground node's pattern has its sort
  pub node_of_law : Good P → (n : ℕ) → n < length P.nodes → (s : List Node) → SortedStore P s → Held P L (sort_of P n) s (lift (tree_of P n) s)
  node_of_law good n l s W = lift_of (tree_of P n) (sort_of P n) s W (node_sorted P good n l)

module _ (S : Setting) (few : Few S.pack) where
  -- an application over patterns of its head's input sorts
  pub interned_comes : (h : ℕ) (ps : List ℕ) (e : Emitter) → Sound S e → h < length S.pack.symbols → AllOf S.pack S.eigen [] e.kept.store (symbol_of S.pack h).inputs ps
      → Comes S (λ j e₁. Of S.pack S.eigen [] e₁.kept.store (symbol_of S.pack h).output j) (interned (record { head = h; args = ps })) e
  interned_comes h ps e s l A = weaker S _ _ (interned (record { head = h; args = ps })) e (application_comes S few [] h ps e s l A) (λ j e₁ _ _ q. q.1)

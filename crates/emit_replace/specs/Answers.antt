-- A pattern put for L, as emission puts it.
use Rattle.std.specs.Prelude.{Some, None, Result, Ok, Err}
use Rattle.std.specs.Prelude.{◌≡◌, refl, true, false, ℕ, suc, ◌≤◌, ◌<◌, get_or}
use Rattle.std.proofs.Common.{sym, ap, ◌∙◌, arith}
use Rattle.std.proofs.Math.Path.{subst}
use mathlib.Core.List.{List, [], ◌∷◌}
use Rattle.std.proofs.Math.ListN.{length}
use Rattle.definition.specs.Frame.{Read, refuse}
use Rattle.definition.specs.Run.{outcome}
use Rattle.emission.specs.State.{Emitter, Tried}
use Rattle.emission.specs.Induct.{put_for_l}
use Rattle.emit_state.specs.Holding.{Buffers, lends, World, Holding, Ready, got}
use Rattle.emit_state.specs.Grown.{having_patterns, Apart, apart_then, holding_apart}
use Rattle.emit_state.specs.declared.places.Places.{Places}
use Rattle.emit_state.specs.declared.standing.Standing.{Standing}
use Rattle.definition.specs.Pack.{Node, Pack, symbol_of, no_node, most_arity}
use Rattle.definition.specs.Store.{is_variable, pattern_words}
use Rattle.definition.specs.Test.{is, see}
use Rattle.definition.specs.Analysis.{StoredAll}
use Rattle.definition.specs.declared.Refusal.TheVariants.{Short}
use Rattle.theory.specs.Copies.Terms.{below-variable, below-applied}
use Rattle.theory.specs.Patterns.Interned.{Grows, grows_none}
use Rattle.theory.specs.Walks.Again.{stored_all}
use Rattle.base.specs.Stack.{stacked}
use Rattle.memo.specs.declared.memo.Memo.{Memo}
use Rattle.store.specs.Stored.{nodes}
use Rattle.store.specs.Words.{begins_long}
use Rattle.store.specs.declared.nodes.Store.{Store}
use Rattle.emission.specs.State.{having_store}
use Rattle.emission.specs.Patterns.{replace}
use Rattle.emit_theory.specs.Stores.{Sorted}
use Rattle.emit_replace.specs.Again.{under, one_itself, replace-first, replace_grows}
use Rattle.emit_replace.specs.Right.{right-first, whole_is}
use Rattle.emit_replace.specs.Reading.{Begun, values_in}
use Rattle.emit_replace.specs.Asking.{alone}
use Rattle.emit_replace.specs.Putting.{Task, Going, PutAll}
use Rattle.emit_replace.specs.Beginning.{replaced_stamp, ready_rests, begun-pending}
use Rattle.emit_replace.specs.Outcome.{put-got, put_refused}
use Rattle.base.specs.declared.id.Pattern.{Pattern}
use Rattle.definition.specs.declared.Refusal.{Refusal}

-- patterns of a state of emission that the words hold
pub record Replaceable (work words : List ℕ) (l : Places) (m : Standing) (x y j : ℕ) : Type 0 where
  pub pack : List ℕ
  pub proof : List ℕ
  pub world : World
  pub state : Emitter
  pub ready : Ready (lends pack work words proof) l m world state
  pub x_stored : x < length state.kept.store
  pub y_stored : y < length state.kept.store
  pub j_stored : j < length state.kept.store

-- patterns are only added
abbrev pub Grown : Standing → Result (Standing × ℕ) Refusal → Type 0
Grown m (Ok (t, q)) = m.store.len ≤ t.store.len
Grown m (Err r) = Unit {0}

-- what it came to, held by the buffers
abbrev pub ReplacedTo : Buffers → Places → World → Read (Tried ℕ) → Result (Standing × ℕ) Refusal → Type 0
ReplacedTo b l w o (Ok (t, q)) = (e : Emitter) × (o ≡ got q e) × Holding b l t w e
ReplacedTo b l w o (Err r) = o ≡ refuse r

-- y in place of L in j, in every such state
abbrev pub Replaces : List ℕ → List ℕ → List ℕ → List ℕ → Places → Standing → ℕ → ℕ → ℕ → Result (Standing × ℕ) Refusal → Type 0
Replaces work words work' words' l m x y j r =
    (pack proof : List ℕ) (w : World) (e : Emitter) → Ready (lends pack work words proof) l m w e → x ≡ w.setting.eigen → y < length e.kept.store → j < length e.kept.store
    → ReplacedTo (lends pack work' words' proof) l w (outcome w.lent (put_for_l w.setting y j e)) r

-- ---- laws
-- as many patterns as sorts
sorted_long : (P : Pack) (s : List Node) (i : ℕ) (sorts ps : List ℕ) → Sorted P s i sorts ps → length ps ≡ length sorts
sorted_long P s i [] [] h = refl
sorted_long P s i [] (p ∷ ps) h = absurd h
sorted_long P s i (so ∷ sorts) [] h = absurd h
sorted_long P s i (so ∷ sorts) (p ∷ ps) h = ap suc (sorted_long P s i sorts ps h.2)

module _ (pack proof work words : List ℕ) (l : Places) (m : Standing) (w : World) (e : Emitter) (R : Ready (lends pack work words proof) l m w e) where
  -- the patterns of that state
  abbrev s : List Node
  s = e.kept.store

  -- each has few arguments
  few : (i : ℕ) → i < length s → length (under s i) ≤ most_arity
  few i h = elim (see (is_variable (get_or s i no_node))) [
    | is true v ↦ omega (arith, ap length (below-variable (get_or s i no_node) v))
    | is false v ↦
        let n = get_or s i no_node in
        let W = R.sound.sorted i h in
        omega (arith, ap length (below-applied n v), sorted_long w.setting.pack s i (symbol_of w.setting.pack n.head).inputs n.args (W.args v), (R.holding.proper.good.symbols n.head (W.head v)).arity)
  ]

  -- they have room
  room : length (pattern_words s) ≤ w.lent.pattern
  room = omega (arith, R.holding.pattern_lent, begins_long (nodes words m.store) words R.holding.stored.placed.begins, ap (λ (t : List Node). length (pattern_words t)) R.holding.nodes_are)

  module _ (x y j : ℕ) (h : j < length s) where
    -- what is to be done
    abbrev pub task : Task
    task = record { x = x; y = y; d = j; final = (replace (suc j) x y (j ∷ []) (nodes words m.store)).store }

    -- L itself
    itself : x ≡ w.setting.eigen → j ≡ x → ReplacedTo (lends pack work words proof) l w (outcome w.lent (put_for_l w.setting y j e)) (Ok (m, y))
    unfolding replace
    itself i q =
        let z : replace (suc j) w.setting.eigen y (j ∷ []) s ≡ stored_all (y ∷ []) s = replace-first w.setting.eigen y j j [] s s y (one_itself w.setting.eigen y j j s (q ∙ i)) in
        (e, put-got w.lent w.setting y j e y s z (grows_none s) room, R.holding)

    module _ (work₁ : List ℕ) (memo : Memo) (B : Begun work work₁ l x y memo) (n : j ≡ x → ⊥) where
      -- the walk can begin
      pub put_going : Going work₁ words l m.store memo j (alone l) task
      unfolding stacked
      put_going = record {
        pending = begun-pending pack proof work words l m w e R work₁ x y memo B j n h;
        remembers = B.remembers;
        few = λ k b. subst (λ (t : List Node). length (under t k) ≤ most_arity) (sym R.holding.nodes_are) (few k (omega arith));
        begun = (y, B.here);
        right = right-first x y j (values_in work₁ l memo) (nodes words m.store) B.here B.others;
        left = refl;
      }

      apart : Apart l work work₁
      apart = record { long = B.outside.long; ahead = λ k a z. B.outside.ahead k (omega (arith, R.holding.laid.index)); between = λ k a z. B.outside.ahead k z; behind = λ k a z. B.outside.behind k (omega arith) }

      -- emission's replacing is the task's
      same : x ≡ w.setting.eigen → replace (suc j) w.setting.eigen y (j ∷ []) s ≡ replace (suc j) x y (j ∷ []) (nodes words m.store)
      same i = rw (i, R.holding.nodes_are)

      -- its answer is emission's
      replaced_as : x ≡ w.setting.eigen → (work₂ words₂ : List ℕ) (q : Pattern) (st : Store) → PutAll work₁ words work₂ words₂ l m.store memo j (Some (q, st)) → length words₂ ≡ length words
          → ReplacedTo (lends pack work₂ words₂ proof) l w (outcome w.lent (put_for_l w.setting y j e)) (Ok ((having_patterns st m), q.0))
      replaced_as i work₂ words₂ q st A long =
          let C = A.goes task put_going in
          let t = nodes words₂ st in
          let whole = same i ∙ whole_is x y j (nodes words m.store) t q.0 (ready_rests pack proof work words l m w e R j h) C.value C.nodes_are in
          let g : Grows s t = subst (λ (r : StoredAll). Grows s r.store) whole (replace_grows w.setting.eigen y (suc j) (j ∷ []) s) in
          let fits = begins_long t words₂ C.stored_on.placed.begins in (
            having_store t e,
            put-got w.lent w.setting y j e q.0 t whole g (omega (arith, fits, long, R.holding.pattern_lent)),
            holding_apart (lends pack work words proof) l m w e R.holding work₂ words₂ st t (apart_then l work work₁ work₂ apart A.apart) long C.stored_on refl g (replaced_stamp work₂ l memo (A.stamp ∙ B.stamp) C.remembers),
          )

      -- a short buffer is emission's
      refused : x ≡ w.setting.eigen → (work₂ words₂ : List ℕ) → PutAll work₁ words work₂ words₂ l m.store memo j None → outcome w.lent (put_for_l w.setting y j e) ≡ refuse (Short 2)
      refused i work₂ words₂ A =
          let C = A.goes task put_going in
          put_refused w.lent w.setting y j e (replace_grows w.setting.eigen y (suc j) (j ∷ []) s) room (omega (arith, C, R.holding.pattern_lent, ap (λ (r : StoredAll). length (pattern_words r.store)) (same i)))

module _ (work words : List ℕ) (l : Places) (m : Standing) (x y j : ℕ) where
  -- L itself
  pub replaces_itself : j ≡ x → Replaces work words work words l m x y j (Ok (m, y))
  replaces_itself q pack proof w e R i b h = itself pack proof work words l m w e R x y j h i q

  module _ (work₁ : List ℕ) (memo : Memo) (B : Begun work work₁ l x y memo) (n : j ≡ x → ⊥) (work₂ words₂ : List ℕ) where
    -- another pattern
    pub replaces_as : (q : Pattern) (st : Store) (t : Standing) → t ≡ having_patterns st m → PutAll work₁ words work₂ words₂ l m.store memo j (Some (q, st)) → length words₂ ≡ length words → Grown m (Ok (t, q.0)) × Replaces work words work₂ words₂ l m x y j (Ok (t, q.0))
    replaces_as q st t f A long = rw f (A.grown, λ pack proof w e R i b h. replaced_as pack proof work words l m w e R x y j h work₁ memo B n i work₂ words₂ q st A long)

    -- a short buffer
    pub replaces_short : PutAll work₁ words work₂ words₂ l m.store memo j None → Replaces work words work₂ words₂ l m x y j (Err (Short 2))
    replaces_short A pack proof w e R i b h = refused pack proof work words l m w e R x y j h work₁ memo B n i work₂ words₂ A

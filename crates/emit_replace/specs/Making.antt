-- A pattern over its arguments' values.
use Rattle.std.specs.Prelude.{Option, Some, None}
use Rattle.std.specs.Prelude.{◌≡◌, List, [], ◌∷◌, map, ℕ, ◌-◌, ◌≤◌, ◌<◌, length, get_or, take, drop}
use Rattle.std.proofs.Common.{sym, ap₂, subst, ◌∙◌, arith}
use Rattle.std.proofs.Math.Path.{ap}
use Rattle.std.proofs.Math.Option.{some}
use Rattle.definition.specs.Pack.{Node, no_node, most_arity}
use Rattle.definition.specs.Store.{intern, pattern_words}
use Rattle.theory.specs.Walks.Again.{stored, headed}
use Rattle.base.specs.Outside.{Outside, outside_none}
use Rattle.base.specs.declared.id.Pattern.{Pattern}
use Rattle.base.specs.Part.{put}
use Rattle.memo.specs.Recall.{Remembers}
use Rattle.memo.specs.Lent.{lent-before, lent-behind, recall-behind, back-lent, back_outside, Puts}
use Rattle.memo.specs.declared.memo.Memo.{Memo}
use Rattle.store.specs.Words.{node_with}
use Rattle.store.specs.Stored.{Stored, nodes, Answer}
use Rattle.store.specs.declared.nodes.Store.{Store}
use Rattle.emit_state.specs.Places.{replaced_at, stamp_at, index_end, index_in, replaced_in, Laid, SameIn}
use Rattle.emit_state.specs.Frame.{laid_on}
use Rattle.emit_state.specs.Grown.{Apart, apart_then}
use Rattle.emit_state.specs.declared.places.Places.{Places}
use Rattle.emit_replace.specs.Again.{under}
use Rattle.emit_replace.specs.Known.{Values, value_of}
use Rattle.emit_replace.specs.Reading.{args_in, values_in, At, nodes-room}

-- a pattern's head over its arguments' values
abbrev pub over_values : Values → List Node → ℕ → Node
over_values μ s p = headed (get_or s p no_node).head (map (value_of μ) (under s p))

-- its words
pub record Keyed (work words : List ℕ) (l : Places) (st : Store) (memo : Memo) (p : ℕ) (key : List ℕ) (r : ℕ) : Type 0 where
  pub is_key : take r key ≡ (get_or (nodes words st) p no_node).head ∷ map (value_of (values_in work l memo)) (args_in words st p)
  pub some_words : 0 < r
  pub few : r ≤ 17

-- v, over the store t, is what is made of p over s
pub record Made (μ : Values) (s : List Node) (p v : ℕ) (t : List Node) : Type 0 where
  pub bare : under s p ≡ [] → stored p s ≡ stored v t
  pub applied : 0 < length (under s p) → intern s (over_values μ s p) ≡ stored v t

-- it is made
pub record MadeAs (work words work' words' : List ℕ) (l : Places) (st : Store) (memo : Memo) (p : ℕ) (q : Pattern) (st' : Store) : Type 0 where
  pub outside : Outside l.index (index_end l) work work'
  pub stored_on : Stored (index_in work' l) words' st'
  pub made : Made (values_in work l memo) (nodes words st) p q.0 (nodes words' st')

-- there is no room for it
pub record NoRoom (work words : List ℕ) (l : Places) (st : Store) (memo : Memo) (p : ℕ) : Type 0 where
  pub applied : 0 < length (args_in words st p)
  pub short : length words < length (pattern_words (intern (nodes words st) (over_values (values_in work l memo) (nodes words st) p)).store)

-- it is made, or there is no room for it
abbrev pub Makes : List ℕ → List ℕ → List ℕ → List ℕ → Places → Store → Memo → ℕ → Option (Pattern × Store) → Type 0
Makes work words work' words' l st memo p (Some (q, st')) = MadeAs work words work' words' l st memo p q st'
Makes work words work' words' l st memo p None = NoRoom work words l st memo p × Outside l.index (index_end l) work work'

-- what is asked to make it its value
pub record Finishable (work words : List ℕ) (l : Places) (st : Store) (memo : Memo) (p : ℕ) : Type 0 where
  pub there : At work words l st p
  pub few : length (args_in words st p) ≤ most_arity
  pub remembers : Remembers (replaced_in work l) memo

-- that is its value
pub record FinishedAs (work words work' words' : List ℕ) (l : Places) (st : Store) (memo : Memo) (p : ℕ) (q : Pattern) (st' : Store) : Type 0 where
  pub apart : Apart l work work'
  pub stack : SameIn (stamp_at l) (length work) work work'
  pub stored_on : Stored (index_in work' l) words' st'
  pub made : Made (values_in work l memo) (nodes words st) p q.0 (nodes words' st')
  pub remembers : Remembers (replaced_in work' l) memo
  pub here : values_in work' l memo p ≡ some q.0
  pub others : (o : ℕ) → (p ≡ o → ⊥) → values_in work' l memo o ≡ values_in work l memo o

-- it is its value, or there is no room for it
abbrev pub Finishes : List ℕ → List ℕ → List ℕ → List ℕ → Places → Store → Memo → ℕ → Option (Pattern × Store) → Type 0
Finishes work words work' words' l st memo p (Some (q, st')) = FinishedAs work words work' words' l st memo p q st'
Finishes work words work' words' l st memo p None = NoRoom work words l st memo p × Outside l.index (index_end l) work work'

-- ---- laws
-- a pattern with nothing below it is itself
pub made-bare : (work words : List ℕ) (l : Places) (st : Store) (memo : Memo) (p : ℕ) → At work words l st p → length (args_in words st p) ≡ 0 → (q : Pattern) → q.0 ≡ p → MadeAs work words work words l st memo p q st
made-bare work words l st memo p A e q i = record {
  outside = outside_none l.index (index_end l) work;
  stored_on = A.readable.stored;
  made = record { bare = λ _. ap (λ (v : ℕ). stored v (nodes words st)) (sym i); applied = λ h. absurd (omega arith) };
}

-- its key, as it is lent
pub key-lent : (work words : List ℕ) (l : Places) (st : Store) (memo : Memo) (p : ℕ) (key : List ℕ) (r : ℕ) → Keyed work words l st memo p key r → take (r - 0) (drop 0 key) ≡ (get_or (nodes words st) p no_node).head ∷ map (value_of (values_in work l memo)) (args_in words st p)
key-lent work words l st memo p key r K = let e : r - 0 ≡ r = omega arith in rw e K.is_key

-- it is not empty
pub key_some : (work words : List ℕ) (l : Places) (st : Store) (memo : Memo) (p : ℕ) (key : List ℕ) (r : ℕ) → Keyed work words l st memo p key r → 0 < length (take (r - 0) (drop 0 key))
key_some work words l st memo p key r K = omega (arith, ap length (key-lent work words l st memo p key r K))

-- its key is interned in the index, which comes back
module _ (work words : List ℕ) (l : Places) (st : Store) (memo : Memo) (p : ℕ) (A : At work words l st p) (h : 0 < length (args_in words st p)) (key : List ℕ)
    (is_key : key ≡ (get_or (nodes words st) p no_node).head ∷ map (value_of (values_in work l memo)) (args_in words st p)) (idx : List ℕ) (long : length idx ≡ length (index_in work l)) where
  -- with the index as it came back
  abbrev back : List ℕ
  back = put l.index (index_end l - l.index) idx work

  -- the index stands in work
  fits : index_end l ≤ length work
  fits = omega (arith, A.readable.laid.index, A.readable.laid.within)

  -- nothing else has changed
  outside : Outside l.index (index_end l) work back
  outside = back_outside l.index (index_end l) work (omega arith) fits idx long

  -- the key's node is the pattern over its arguments' values
  node : node_with key ≡ over_values (values_in work l memo) (nodes words st) p
  unfolding node_with
  node = ap node_with is_key

  -- what comes of it
  pub makes : (words' : List ℕ) (r : Option (Pattern × Store)) → Answer (index_in work l) words idx words' st key r → Makes work words back words' l st memo p r
  makes words' (Some (q, st')) N =
      let f : intern (nodes words st) (over_values (values_in work l memo) (nodes words st) p) ≡ intern (nodes words st) (node_with key) = ap (intern (nodes words st)) (sym node) in
      record {
        outside = outside;
        stored_on = rw (back-lent l.index (index_end l) work (omega arith) fits idx long) N.3;
        made = record { bare = λ e. absurd (omega (arith, ap length e)); applied = λ _. f ∙ ap₂ stored (sym N.0) (sym N.1) };
      }
  makes words' None N = (record { applied = h; short = subst (λ (n : Node). length words < length (pattern_words (intern (nodes words st) n).store)) node N.0 }, outside)

-- the index is among what may be written
pub apart_index : (l : Places) (work work' : List ℕ) → Laid work l → Outside l.index (index_end l) work work' → Apart l work work'
apart_index l work work' L O = record { long = O.long; ahead = λ i _ h. O.ahead i h; between = λ i h _. O.behind i h; behind = λ i h _. O.behind i (omega (arith, L.index)) }

-- what is made gets to be the value
module _ (work words work₁ words₁ : List ℕ) (l : Places) (st : Store) (memo : Memo) (p : ℕ) (F : Finishable work words l st memo p) (q : Pattern) (st₁ : Store) (M : MadeAs work words work₁ words₁ l st memo p q st₁) where
  -- the places
  abbrev L : Laid work l
  L = F.there.readable.laid

  -- it can be remembered
  pub finish_remembers : Laid work₁ l × Remembers (replaced_in work₁ l) memo × (p < l.room)
  finish_remembers = (
    laid_on l work work₁ L M.outside.long,
    rw (lent-behind l.index (index_end l) work work₁ M.outside (replaced_at l) (stamp_at l) (omega arith) (omega (arith, L.index)) (omega (arith, L.within))) F.remembers,
    omega (arith, F.there.inside, nodes-room work words l st F.there.readable),
  )

  -- it is its value
  pub finished : (work₂ : List ℕ) → Puts work₁ work₂ (replaced_at l) (stamp_at l) memo p q.0 → FinishedAs work words work₂ words₁ l st memo p q st₁
  finished work₂ P =
      let a = apart_index l work work₁ L M.outside in
      let b : Apart l work₁ work₂ = record { long = P.outside.long; ahead = λ i _ h. P.outside.ahead i (omega (arith, L.index)); between = λ i _ h. P.outside.ahead i h; behind = λ i h _. P.outside.behind i (omega arith) } in
      record {
        apart = apart_then l work work₁ work₂ a b;
        stack = λ i x h. P.outside.behind i x ∙ M.outside.behind i (omega (arith, L.index));
        stored_on = rw (lent-before (replaced_at l) (stamp_at l) work₁ work₂ P.outside l.index (index_end l) (omega arith) (omega (arith, L.index)) (omega (arith, L.index, L.within, M.outside.long))) M.stored_on;
        made = M.made;
        remembers = P.remembers;
        here = P.here;
        others = λ o n. P.others o n ∙ recall-behind l.index (index_end l) work work₁ M.outside (replaced_at l) (stamp_at l) (omega arith) (omega (arith, L.index)) (omega (arith, L.within)) memo o;
      }

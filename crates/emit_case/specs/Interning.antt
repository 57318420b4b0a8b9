-- A pattern that a search makes.
use Rattle.std.specs.Prelude.{Some, None, Result, Ok, Err}
use Rattle.std.specs.Prelude.{◌≡◌, List, ℕ, ◌-◌, ◌≤◌, length}
use Rattle.std.proofs.Common.{sym, ap, subst, ◌∙◌, arith}
use Rattle.definition.specs.Pack.{Node}
use Rattle.definition.specs.Store.{intern, pattern_words, Stored as Made}
use Rattle.definition.specs.Run.{outcome}
use Rattle.definition.specs.declared.Refusal.TheVariants.{Short}
use Rattle.base.specs.Part.{put}
use Rattle.base.specs.declared.id.Pattern.{Pattern}
use Rattle.memo.specs.Lent.{lent, back-lent, back_outside}
use Rattle.store.specs.Words.{node_with, begins_long}
use Rattle.store.specs.Stored.{Stored, nodes, Answer}
use Rattle.store.specs.declared.nodes.Store.{Store}
use Rattle.emission.specs.State.{Emitter, interned, having_store}
use Rattle.emit_state.specs.Places.{index_end, index_in}
use Rattle.emit_state.specs.Holding.{lends, World, Ready, got}
use Rattle.emit_state.specs.Nodes.{store_grows_to, store_long, stored_more, interned-got, interned_short}
use Rattle.emit_state.specs.Grown.{having_patterns, holding_patterns}
use Rattle.emit_state.specs.declared.places.Places.{Places}
use Rattle.emit_state.specs.declared.standing.Standing.{Standing}
use Rattle.emit_case.specs.Leaves.{PutTo, GrownTo}
use Rattle.definition.specs.declared.Refusal.{Refusal}

-- the buffers of the patterns hold a state, whatever stands beside them
pub record AskedNode (work words : List ℕ) (l : Places) (m : Standing) : Type 0 where
  pub pack : List ℕ
  pub proof : List ℕ
  pub world : World
  pub state : Emitter
  pub ready : Ready (lends pack work words proof) l m world state

-- the node's pattern, or no room for it
pub record Interns (work work' words words' : List ℕ) (l : Places) (m : Standing) (key : List ℕ) (r : Result (Standing × ℕ) Refusal) : Type 0 where
  pub grown : GrownTo m r
  pub comes : (pack proof : List ℕ) (w : World) (e : Emitter) → Ready (lends pack work words proof) l m w e → PutTo (lends pack work' words' proof) l w (outcome w.lent (interned (node_with key) e)) r

-- ---- laws
module _ (work words : List ℕ) (l : Places) (m : Standing) (key : List ℕ) (index' words' : List ℕ) where
  -- work with the index that came back
  abbrev pub with_index : List ℕ
  with_index = put l.index (index_end l - l.index) index' work

  module _ (A : AskedNode work words l m) (long : length index' ≡ length (index_in work l)) (same : length words' ≡ length words) where
    -- the index stands in work
    up : l.index ≤ index_end l
    up = omega arith

    -- to its end
    fits : index_end l ≤ length work
    fits = omega (arith, A.ready.holding.laid.index, A.ready.holding.laid.within)

    -- the node's pattern
    pub interns_as : (p : Pattern) (st : Store) → Answer (index_in work l) words index' words' m.store key (Some (p, st)) → Interns work with_index words words' l m key (Ok ((having_patterns st m), p.0))
    interns_as p st F =
        let s = nodes words m.store in
        let stands : Stored (index_in with_index l) words' st = subst (λ (zs : List ℕ). Stored zs words' st) (sym (back-lent l.index (index_end l) work up fits index' long)) F.3 in
        record {
          grown = stored_more words words' (index_in work l) index' m.store st A.ready.holding.stored F.3 (omega (arith, ap length F.1, store_long s (node_with key)));
          comes = λ pack proof w e R.
              let H = R.holding in
              let is = H.nodes_are in
              let made = ap (λ (t : List Node). intern t (node_with key)) is in
              let store_is : nodes words' st ≡ (intern e.kept.store (node_with key)).store = F.1 ∙ ap (λ (r : Made). r.store) made in
              let room = begins_long (nodes words' st) words' F.3.placed.begins in
              let grows = store_grows_to e.kept.store (nodes words' st) (node_with key) store_is in (
                having_store (nodes words' st) e,
                interned-got w.lent e (node_with key) (omega (arith, ap (λ (t : List Node). length (pattern_words t)) store_is, room, H.pattern_lent))
                    ∙ ap (λ (t : List Node). got (intern e.kept.store (node_with key)).number (having_store t e)) (sym store_is)
                    ∙ ap (λ (q : ℕ). got q (having_store (nodes words' st) e)) (sym (F.0 ∙ ap (λ (r : Made). r.number) made)),
                holding_patterns (lends pack work words proof) l m w e H with_index words' st (back_outside l.index (index_end l) work up fits index' long) same stands grows,
              );
        }

    -- no room for it
    pub interns_short : Answer (index_in work l) words index' words' m.store key None → Interns work with_index words words' l m key (Err (Short 2))
    interns_short F = record {
      grown = tt;
      comes = λ pack proof w e R.
          let H = R.holding in
          let is = H.nodes_are in
          let before = begins_long (nodes words m.store) words H.stored.placed.begins in
          interned_short w.lent e (node_with key)
          (omega (arith, before, ap (λ (t : List Node). length (pattern_words t)) is, H.pattern_lent))
          (omega (arith, F.0, ap (λ (t : List Node). length (pattern_words (intern t (node_with key)).store)) is, H.pattern_lent));
    }

  -- the same of an index that is lent up to a number
  module _ (to : ℕ) (z : to ≡ index_end l) (A : AskedNode work words l m) (long : length index' ≡ length (lent l.index to work)) (same : length words' ≡ length words) where
    -- as long as it was
    long_to : length index' ≡ length (index_in work l)
    long_to = subst (λ (t : ℕ). length index' ≡ length (lent l.index t work)) z long

    -- the node's pattern
    pub interns_as_to : (p : Pattern) (st : Store) → Answer (lent l.index to work) words index' words' m.store key (Some (p, st)) → Interns work (put l.index (to - l.index) index' work) words words' l m key (Ok ((having_patterns st m), p.0))
    interns_as_to p st F =
        subst (λ (t : ℕ). Interns work (put l.index (t - l.index) index' work) words words' l m key (Ok ((having_patterns st m), p.0))) (sym z)
        (interns_as A long_to same p st (subst (λ (t : ℕ). Answer (lent l.index t work) words index' words' m.store key (Some (p, st))) z F))

    -- no room for it
    pub interns_short_to : Answer (lent l.index to work) words index' words' m.store key None → Interns work (put l.index (to - l.index) index' work) words words' l m key (Err (Short 2))
    interns_short_to F =
        subst (λ (t : ℕ). Interns work (put l.index (t - l.index) index' work) words words' l m key (Err (Short 2))) (sym z)
        (interns_short A long_to same (subst (λ (t : ℕ). Answer (lent l.index t work) words index' words' m.store key None) z F))

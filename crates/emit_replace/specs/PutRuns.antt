-- The turns of replacing, one after the other.
use Rattle.std.specs.Prelude.{Some, None}
use Rattle.std.specs.Prelude.{◌≡◌, refl, List, ℕ, ◌+◌, ◌≤◌, ◌<◌, length, get_or}
use Rattle.std.proofs.Common.{sym, subst, ◌∙◌, arith}
use Rattle.base.specs.Outside.{Outside}
use Rattle.base.specs.Stack.{stacked, Took}
use Rattle.base.specs.declared.id.Pattern.{Pattern}
use Rattle.base.specs.declared.stack.Stack.{Stack}
use Rattle.memo.specs.declared.memo.Memo.{Memo}
use Rattle.store.specs.declared.nodes.Store.{Store}
use Rattle.emit_state.specs.Places.{stamp_at, index_end}
use Rattle.emit_state.specs.Grown.{Apart, apart_then}
use Rattle.emit_state.specs.declared.places.Places.{Places}
use Rattle.emit_replace.specs.Known.{AllKnown, gaps, gaps-same}
use Rattle.emit_replace.specs.Reading.{args_in, values_in}
use Rattle.emit_replace.specs.Walking.{Descends, values_same}
use Rattle.emit_replace.specs.Asking.{alone}
use Rattle.emit_replace.specs.Making.{NoRoom, Finishable, FinishedAs, apart_index}
use Rattle.emit_replace.specs.Putting.{Task, Going, Puttable, PutsOn, PutAll}
use Rattle.emit_replace.specs.PutTurns.{apart_walk, going_down, short_whole, going_finishable, finished_grown, finished_stack, finished_less, going_next, going_done}
use Rattle.emit_replace.specs.declared.walk.Reached.{Reached}
use Rattle.emit_replace.specs.declared.put.Turn.TheVariants.{On, Done}

module _ (work work₁ words : List ℕ) (l : Places) (st : Store) (memo : Memo) (p : ℕ) (stack : Stack) (G : Puttable work words l st memo p stack) (r : Reached) (D : Descends work work₁ words l st memo p stack r) where
  -- the pattern come to
  abbrev q : ℕ
  q = r.pattern

  -- what is left from there
  down : (t : Task) → Going work words l st memo p stack t → Going work₁ words l st memo q r.under t
  down = going_down work work₁ words l st memo p q stack r.under D.down

  -- the values are what they were
  same : (o : ℕ) → values_in work₁ l memo o ≡ values_in work l memo o
  same = values_same work work₁ l memo G.1.pending.readable.laid D.down.outside

  -- all its arguments have values
  ripe : AllKnown (values_in work₁ l memo) (args_in words st q)
  ripe i h = let z = D.ripe i h in (z.0, same (get_or (args_in words st q) i 0) ∙ z.1)

  -- it can be made
  pub put_finishable : Finishable work₁ words l st memo q
  put_finishable = going_finishable work₁ words l st memo q r.under G.0 (down G.0 G.1) ripe

  -- only the stack was written
  walked : Apart l work work₁
  walked = apart_walk l work work₁ G.1.pending.readable.laid D.down.outside

  -- there is no room
  pub puts_short : (work₂ words₂ : List ℕ) → NoRoom work₁ words l st memo q × Outside l.index (index_end l) work₁ work₂ → PutsOn work words work₂ words₂ l st memo p stack None
  puts_short work₂ words₂ N =
      let L = (down G.0 G.1).pending.readable.laid in
      record {
        apart = apart_then l work work₁ work₂ walked (apart_index l work₁ work₂ L N.1);
        stamp = N.1.behind (stamp_at l) (omega (arith, L.index)) ∙ D.down.outside.ahead (stamp_at l) (omega arith);
        grown = tt;
        less = tt;
        goes = λ t H. short_whole work₁ words l st memo q r.under t (down t H) ripe N.0;
      }

  module _ (work₂ words₂ : List ℕ) (v : Pattern) (st₂ : Store) (F : FinishedAs work₁ words work₂ words₂ l st memo q v st₂) (long : length words₂ ≡ length words) where
    -- the stack ends within the words
    pub put_stack : r.under.at + r.under.len ≤ length work₂
    put_stack = finished_stack work₁ words l st memo q r.under G.0 (down G.0 G.1) ripe work₂ words₂ v st₂ F long

    -- what was written
    apart : Apart l work work₂
    apart = apart_then l work work₁ work₂ walked F.apart

    -- the stamp stays
    stamp : get_or work₂ (stamp_at l) 0 ≡ get_or work (stamp_at l) 0
    stamp = F.stack (stamp_at l) (omega arith) (omega (arith, (down G.0 G.1).pending.readable.laid.within)) ∙ D.down.outside.ahead (stamp_at l) (omega arith)

    -- no pattern is left out
    grown : st.len ≤ st₂.len
    grown = finished_grown work₁ words l st memo q r.under G.0 (down G.0 G.1) ripe work₂ words₂ v st₂ F long

    -- one value more
    less : gaps (values_in work₂ l memo) l.room < gaps (values_in work l memo) l.room
    less =
        let a = finished_less work₁ words l st memo q r.under G.0 (down G.0 G.1) ripe work₂ words₂ v st₂ F long in
        omega (arith, a, gaps-same (values_in work l memo) (values_in work₁ l memo) l.room (λ o h. same o))

    -- a next one
    pub puts_on : (next : ℕ) (rest : Stack) → Took (stacked r.under.at r.under.len work₂) r.under.at work₂ (Some (next, rest)) → PutsOn work words work₂ words₂ l st memo p stack (Some (On st₂ next rest))
    puts_on next rest T = record { apart = apart; stamp = stamp; grown = grown; less = less; goes = λ t H. going_next work₁ words l st memo q r.under t (down t H) ripe work₂ words₂ v st₂ F long next rest T }

    -- none
    pub puts_done : Took (stacked r.under.at r.under.len work₂) r.under.at work₂ None → PutsOn work words work₂ words₂ l st memo p stack (Some (Done st₂ v.0))
    puts_done T = record { apart = apart; stamp = stamp; grown = grown; less = tt; goes = λ t H. going_done work₁ words l st memo q r.under t (down t H) ripe work₂ words₂ v st₂ F long T }

-- turns so far
pub record PutsSince (work words work' words' : List ℕ) (l : Places) (st st' : Store) (memo : Memo) (p p' : ℕ) (stack stack' : Stack) : Type 0 where
  pub apart : Apart l work work'
  pub stamp : get_or work' (stamp_at l) 0 ≡ get_or work (stamp_at l) 0
  pub long : length words' ≡ length words
  pub grown : st.len ≤ st'.len
  pub goes : (t : Task) → Going work words l st memo p stack t → Going work' words' l st' memo p' stack' t

-- none yet
pub puts_none : (work words : List ℕ) (l : Places) (st : Store) (memo : Memo) (p : ℕ) (stack : Stack) → PutsSince work words work words l st st memo p p stack stack
puts_none work words l st memo p stack = record { apart = record { long = refl; ahead = λ i a h. refl; between = λ i a h. refl; behind = λ i a h. refl }; stamp = refl; long = refl; grown = omega arith; goes = λ t G. G }

module _ (work words work₁ words₁ : List ℕ) (l : Places) (st st₁ : Store) (memo : Memo) (p p₁ : ℕ) (stack stack₁ : Stack) (S : PutsSince work words work₁ words₁ l st st₁ memo p p₁ stack stack₁) where
  -- from the start
  from_start : stack ≡ alone l → (t : Task) → Going work words l st memo p (alone l) t → Going work₁ words₁ l st₁ memo p₁ stack₁ t
  from_start e t G = S.goes t (subst (λ (z : Stack). Going work words l st memo p z t) (sym e) G)

  -- there is still something to be replaced
  pub puts_asked : stack ≡ alone l → Puttable work words l st memo p (alone l) → Puttable work₁ words₁ l st₁ memo p₁ stack₁
  puts_asked e G = (G.0, from_start e G.0 G.1)

  -- one more
  pub puts_more : (work₂ words₂ : List ℕ) (st₂ : Store) (p₂ : ℕ) (stack₂ : Stack) → PutsOn work₁ words₁ work₂ words₂ l st₁ memo p₁ stack₁ (Some (On st₂ p₂ stack₂)) → length words₂ ≡ length words₁ → PutsSince work words work₂ words₂ l st st₂ memo p p₂ stack stack₂
  puts_more work₂ words₂ st₂ p₂ stack₂ T long = record {
    apart = apart_then l work work₁ work₂ S.apart T.apart;
    stamp = T.stamp ∙ S.stamp;
    long = long ∙ S.long;
    grown = omega (arith, S.grown, T.grown);
    goes = λ t G. T.goes t (S.goes t G);
  }

  -- the last
  pub puts_all : (work₂ words₂ : List ℕ) (st₂ : Store) (v : ℕ) (q : Pattern) → q.0 ≡ v → stack ≡ alone l → PutsOn work₁ words₁ work₂ words₂ l st₁ memo p₁ stack₁ (Some (Done st₂ v)) → PutAll work words work₂ words₂ l st memo p (Some (q, st₂))
  puts_all work₂ words₂ st₂ v q i e T = record {
    apart = apart_then l work work₁ work₂ S.apart T.apart;
    stamp = T.stamp ∙ S.stamp;
    grown = omega (arith, S.grown, T.grown);
    goes = λ t G. let C = T.goes t (from_start e t G) in rw i C;
  }

  -- there is no room
  pub puts_all_short : (work₂ words₂ : List ℕ) → stack ≡ alone l → PutsOn work₁ words₁ work₂ words₂ l st₁ memo p₁ stack₁ None → PutAll work words work₂ words₂ l st memo p None
  puts_all_short work₂ words₂ e T = record {
    apart = apart_then l work work₁ work₂ S.apart T.apart;
    stamp = T.stamp ∙ S.stamp;
    grown = tt;
    goes = λ t G. let C = T.goes t (from_start e t G) in omega (arith, C, S.long);
  }

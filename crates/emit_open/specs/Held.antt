-- What work holds while a pattern is walked: the store's index, the nodes still to be taken, those met, and the marks.
use Rattle.std.specs.Prelude.{◌≡◌, Bool, true, not, List, ℕ, suc, ◌+◌, ◌*◌, ◌-◌, ◌≤◌, ◌<◌, ltb, length, get_or}
use Rattle.std.proofs.Common.{sym, ap, subst, arith}
use Rattle.definition.specs.Pack.{no_node}
use Rattle.definition.specs.Store.{is_variable, term_of}
use Rattle.definition.specs.Classes.{is_some}
use Rattle.definition.specs.Open.{at}
use Rattle.base.specs.Outside.{Outside}
use Rattle.base.specs.Stack.{stacked, stacked-same}
use Rattle.base.specs.declared.stack.Stack.{Stack}
use Rattle.theory.specs.Copies.Terms.{Earlier, Patterns}
use Rattle.theory.specs.Unification.Count.{count}
use Rattle.theory.specs.Walks.Matching.{number_of}
use Rattle.theory.specs.Walks.Stands.{stands_node}
use Rattle.store.specs.Stored.{Stored, nodes}
use Rattle.store.specs.declared.nodes.Store.{Store}
use Rattle.memo.specs.Recall.{recall, Remembers, length-recall}
use Rattle.memo.specs.Lent.{lent, lent_long, lent-before, lent-behind, recall_at, recall-behind}
use Rattle.memo.specs.declared.memo.Memo.{Memo}
use Rattle.emit_open.specs.declared.open.Opening.{Opening}

-- a node was met
unfoldable pub met_in : List ℕ → Opening → Memo → ℕ → Bool
unfolding is_some recall_at
met_in work l met x = is_some (recall_at l.met l.past work met x)

-- a variable is marked
unfoldable pub marked_in : List ℕ → Opening → ℕ → Bool
marked_in work l k = ltb 0 (get_or (lent l.marks l.end work) k 0)

-- marks are 0 or 1
abbrev pub Low : List ℕ → Opening → Type 0
Low work l = (k : ℕ) → get_or (lent l.marks l.end work) k 0 ≤ 1

-- the nodes still to be taken
abbrev pub waiting : List ℕ → Stack → List ℕ
waiting work todo = stacked todo.at todo.len work

-- how many nodes of the store were not met
abbrev pub unmet : List ℕ → List ℕ → Opening → Store → Memo → ℕ
unmet work words l st met = count (λ x. not (met_in work l met x)) (length (nodes words st))

-- the tables stand one behind the other, with room for each node of the store
pub record Given (work words : List ℕ) (l : Opening) (st : Store) (met : Memo) : Type 0 where
  pub index : l.index ≤ l.stack
  pub stack : l.stack + st.len ≤ l.met
  pub table : l.met + 2 * st.len ≤ l.past
  pub gap : l.past ≤ l.marks
  pub order : l.marks ≤ l.end
  pub fits : l.end ≤ length work
  pub stored : Stored (lent l.index l.stack work) words st
  pub patterns : Patterns (nodes words st)
  pub kept : Remembers (lent l.met l.past work) met

-- each variable that is to be marked has a mark
abbrev pub Bounded : List ℕ → Opening → Store → ℕ → ℕ → ℕ → Type 0
Bounded words l st p c i = (k : ℕ) → at c i k (term_of (nodes words st) p) ≡ true → k < l.end - l.marks

-- as they all have if each variable of the store has one
pub bounded_all : (words : List ℕ) (l : Opening) (st : Store) (p c i : ℕ) → Earlier (nodes words st) → p < length (nodes words st)
    → ((q : ℕ) → q < length (nodes words st) → is_variable (get_or (nodes words st) q no_node) ≡ true → number_of (nodes words st) q < l.end - l.marks) → Bounded words l st p c i
bounded_all words l st p c i E h all k e = let r = stands_node (nodes words st) c i E k (suc p) p (omega arith) h e in omega (arith, all r.0 r.1 r.2, r.3)

module _ (work words : List ℕ) (l : Opening) (st : Store) (met : Memo) (H : Given work words l st met) where
  -- so many nodes
  pub given_len : st.len ≡ length (nodes words st)
  given_len = H.stored.placed.len

  -- a node has its place in the memo
  pub given-place : (x : ℕ) → x < length (nodes words st) → x < length (recall (lent l.met l.past work) met)
  given-place x h = omega (arith, length-recall (lent l.met l.past work) met, lent_long l.met l.past work (omega (arith, H.table)) (omega (arith, H.gap, H.order, H.fits)), H.table, given_len)

  -- nothing ahead of the stack has changed, and the memo is one still
  pub given_on : (work' : List ℕ) (met' : Memo) → Outside l.stack l.end work work' → Remembers (lent l.met l.past work') met' → Given work' words l st met'
  given_on work' met' A K = record {
    index = H.index;
    stack = H.stack;
    table = H.table;
    gap = H.gap;
    order = H.order;
    fits = omega (arith, H.fits, A.long);
    stored = subst (λ (zs : List ℕ). Stored zs words st) (sym (lent-before l.stack l.end work work' A l.index l.stack H.index (omega arith) (omega (arith, H.stack, H.table, H.gap, H.order, H.fits)))) H.stored;
    patterns = H.patterns;
    kept = K;
  }

-- what was written ahead of the memo leaves it
pub met-behind : (a e : ℕ) (work work' : List ℕ) → Outside a e work work' → (l : Opening) → e ≤ l.met → l.met ≤ l.past → l.past ≤ length work → (met : Memo) (x : ℕ) → met_in work' l met x ≡ met_in work l met x
unfolding met_in
met-behind a e work work' A l h m f met x = ap is_some (recall-behind a e work work' A l.met l.past m h f met x)

-- what was written outside of the stack leaves it
pub waiting-same : (a e : ℕ) (work work' : List ℕ) → Outside a e work work' → (todo : Stack) → todo.at + todo.len ≤ a → waiting work' todo ≡ waiting work todo
waiting-same a e work work' A todo h = stacked-same todo.at todo.len work work' (λ i l. A.ahead (todo.at + i) (omega arith))

-- what was written ahead of the marks leaves them
pub marks-behind : (a e : ℕ) (work work' : List ℕ) → Outside a e work work' → (l : Opening) → e ≤ l.marks → l.marks ≤ l.end → l.end ≤ length work → lent l.marks l.end work' ≡ lent l.marks l.end work
marks-behind a e work work' A l h m f = lent-behind a e work work' A l.marks l.end m h f
